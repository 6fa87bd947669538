-- Links of copies, one after the other; the history chain's links; the data behind them.
use Prim.Native.Nat.{ℕ, zero, suc, ◌+◌, ◌-◌, ◌*◌, ◌≤◌, ◌<◌, min}
use mathlib.Core.List.{List, [], ◌∷◌, ◌++◌}
use Rattle.std.proofs.Math.Option.{Option, none, some}
use Rattle.std.specs.Prelude.{Bool, true, false, ◌≡◌, refl, ltb, length, take, drop, get_or}
use Rattle.std.proofs.Common.{sym, ◌∙◌, le_of_lt, le_refl, sub-one, add-one, ltb-true, ltb-false, length-append, length-take, length-drop, drop-cons, take_all}
use Rattle.std.proofs.Math.Path.{ap}
use Rattle.std.proofs.Math.Nat.{min-le_right, min-eq_left, min-eq_right}
use native.Mathlib.Omega.{arith}
use Rattle.base.specs.ChoiceLaws.{eq_yes, eq_no}
use Rattle.base.specs.Field.{le}
use Rattle.base.specs.FieldLaws.{length-le}
use Rattle.base.specs.Blit.{part, blit}
use Rattle.base.specs.BlitLaws.{blit-append}
use Rattle.mdf.specs.Block.{kind_at, size_at, links_at, link_at, data_at}
use Rattle.plan.specs.Copies.{Copy, copy_of, kind_fh}
use Rattle.work_words.specs.CopyWords.{history_at}
use Rattle.copier.specs.Answer.{link_of}
use Rattle.puts.specs.PutLaws.{blit-past, part-past, take_min}
use Rattle.result.specs.Fill.{header, or_zero, new_link, new_links, history_link, first_new, copied_links, data_of, copied_bytes, at_bytes}
use Rattle.result.specs.FillLaws.{length-header}

-- ---- a link
same-link : (o : Option ℕ) → link_of o ≡ or_zero o
same-link none = refl
same-link (some a) = refl

pub led_is : (m : List Copy) (a : ℕ) {r : ℕ} → r ≡ link_of (copy_of a m) → r ≡ new_link m a
unfolding new_link
led_is m a e = e ∙ same-link (copy_of a m)

-- ---- links one after the other: what is left to do, done to the list, gives g, before the turn (d) and after it (e)
pub length-new_links : (s : List ℕ) (m : List Copy) (k p : ℕ) → length (new_links s m k p) ≡ 8 * k
unfolding new_links
length-new_links s m zero p = refl
length-new_links s m (suc k) p = simp (length-append, length-le, length-new_links s m k (p + 8)) (omega arith)

pub links_begin : (s : List ℕ) (m : List Copy) (a k at : ℕ) (d : List ℕ)
    → blit at (new_links s m k (a + 24 + 8 * 1)) d ≡ blit at (new_links s m k (a + 32)) d
links_begin s m a k at d =
    let e : a + 24 + 8 * 1 ≡ a + 32 = omega arith in
    rw e

module _ (s : List ℕ) (m : List Copy) (a i p : ℕ) where
  pub links_turn : (k : ℕ) (d : List ℕ) {e g : List ℕ} {old new : ℕ} → 0 < k → blit p (new_links s m k (a + 24 + 8 * i)) d ≡ g → old ≡ link_at s a i
      → new ≡ new_link m old → e ≡ blit p (le 8 new) d → blit (p + 8) (new_links s m (k - 1) (a + 24 + 8 * (i + 1))) e ≡ g
  unfolding new_links link_at
  links_turn zero d h t q r u = absurd (omega arith)
  links_turn (suc k) d h t q r u =
      let z : a + 24 + 8 * (i + 1) ≡ a + 24 + 8 * i + 8 = omega arith in
      rw (sub-one, z, u, r, q) (rw (blit-append, length-le) at t)

  -- the links after this one have no room
  pub links_end : (k : ℕ) (d : List ℕ) {e g : List ℕ} {old new : ℕ} → 0 < k → blit p (new_links s m k (a + 24 + 8 * i)) d ≡ g → old ≡ link_at s a i
      → new ≡ new_link m old → e ≡ blit p (le 8 new) d → length e ≤ p + 8 → e ≡ g
  links_end k d {e} {g} h t q r u small =
      sym (blit-past (new_links s m (k - 1) (a + 24 + 8 * (i + 1))) (p + 8) e small) ∙ links_turn k d h t q r u

  pub links_done : (k : ℕ) {d g : List ℕ} → blit p (new_links s m k (a + 24 + 8 * i)) d ≡ g → k ≡ 0 → d ≡ g
  unfolding new_links blit
  links_done k t e = rw e at t

-- ---- the history chain: what is left of it gives what all of it gives
pub chain-all : (w : List ℕ) (chain : ℕ) {e : ℕ} → e ≡ history_at + min chain (length w - history_at) → part history_at (e - history_at) w ≡ part history_at chain w
unfolding part
chain-all w chain {e} q =
    let z : e - history_at ≡ min chain (length w - history_at) = omega arith in
    let all : take (length w - history_at) (drop history_at w) ≡ drop history_at w =
    take_all (length w - history_at) (drop history_at w) (simp length-drop (le_refl _)) in
    rw z (take_min chain (length w - history_at) (drop history_at w) ∙ ap (take chain) all)

part_cons : (w : List ℕ) (i e : ℕ) → i < e → i < length w → part i (e - i) w ≡ get_or w i 0 ∷ part (i + 1) (e - (i + 1)) w
unfolding part
part_cons w i e h l =
    let n : e - i ≡ suc (e - (i + 1)) = omega arith in
    rw (n, add-one, drop-cons w i 0 l)

part_none : (w : List ℕ) (i e : ℕ) → e ≤ i → part i (e - i) w ≡ []
unfolding part
part_none w i e h =
    let z : e - i ≡ 0 = omega arith in
    rw z

-- the words of the chain from i up to e give v
pub record Chain (s w : List ℕ) (m : List Copy) (fh a i e v : ℕ) : Type 0 where
  pub begun : history_at ≤ i
  pub order : i ≤ e
  pub within : e - history_at ≤ length w - history_at
  pub rest : first_new s m a (history_link a (part i (e - i) w) m fh) ≡ v

pub chain_begin : (s w : List ℕ) (m : List Copy) (fh a chain : ℕ) {e : ℕ} → e ≡ history_at + min chain (length w - history_at)
    → Chain s w m fh a history_at e (first_new s m a (history_link a (part history_at chain w) m fh))
chain_begin s w m fh a chain {e} q = record {
  begun = omega arith;
  order = omega arith;
  within = omega (arith, min-le_right chain (length w - history_at));
  rest = ap (λ (l : List ℕ). first_new s m a (history_link a l m fh)) (chain-all w chain q);
}

miss : (a b fh : ℕ) (m : List Copy) (bs : List ℕ) → (b ≡ a → ⊥) → history_link a (b ∷ bs) m fh ≡ history_link a bs m fh
unfolding history_link
miss a b fh m [] n = sym (eq_no b a (some fh) none n refl)
miss a b fh m (c ∷ bs) n = sym (eq_no b a (some (new_link m c)) (history_link a (c ∷ bs) m fh) n refl)

module _ {s w : List ℕ} {m : List Copy} {fh a i e v : ℕ} (t : Chain s w m fh a i e v) where
  pub history_last : i < e → e - i ≡ 1 → get_or w i 0 ≡ a → fh ≡ v
  unfolding history_link
  history_last h q r =
      let n : part (i + 1) (e - (i + 1)) w ≡ [] = part_none w (i + 1) e (omega arith) in
      ap (first_new s m a) (eq_yes (get_or w i 0) a (some fh) none r refl)
      ∙ (rw (part_cons w i e h (omega (arith, t.begun, t.within)), n) at t.rest)

  pub history-next : i + 1 < e → get_or w i 0 ≡ a → {r : ℕ} → r ≡ link_of (copy_of (get_or w (i + 1) 0) m) → r ≡ v
  unfolding history_link
  history-next h q {r} k =
      led_is m (get_or w (i + 1) 0) k
      ∙ ap (first_new s m a) (eq_yes (get_or w i 0) a (some (new_link m (get_or w (i + 1) 0))) _ q refl)
      ∙ (rw (part_cons w i e (omega arith) (omega (arith, t.begun, t.within)), part_cons w (i + 1) e h (omega (arith, t.begun, t.within)))
      at t.rest)

  pub history_end : e ≤ i → {r : ℕ} → r ≡ first_new s m a none → r ≡ v
  unfolding history_link
  history_end h k = k ∙ (rw (part_none w i e h) at t.rest)

  pub history_miss : i < e → (get_or w i 0 ≡ a → ⊥) → Chain s w m fh a (i + 1) e v
  history_miss h n = record {
    begun = omega (arith, t.begun);
    order = omega arith;
    within = t.within;
    rest = ap (first_new s m a) (sym (miss a (get_or w i 0) fh m (part (i + 1) (e - (i + 1)) w) n))
        ∙ (rw (part_cons w i e h (omega (arith, t.begun, t.within))) at t.rest);
  }

pub own_lost : (s : List ℕ) (m : List Copy) (a : ℕ) {k : ℕ} → k ≡ kind_at s a → k ≡ kind_fh → 0 ≡ first_new s m a none
own_lost s m a e q = eq_yes _ _ _ _ (sym e ∙ q) refl

pub own-led : (s : List ℕ) (m : List Copy) (a : ℕ) {k x r : ℕ} → k ≡ kind_at s a → (k ≡ kind_fh → ⊥) → x ≡ link_at s a 0 → r ≡ link_of (copy_of x m)
    → r ≡ first_new s m a none
own-led s m a e n q k = eq_no _ _ _ _ (λ z. n (e ∙ z)) (rw (← q) (led_is m _ k))

-- ---- all links
pub copied_none : (s chain : List ℕ) (m : List Copy) (fh a n : ℕ) (d : List ℕ) → n ≡ 0 → d ≡ blit 24 (copied_links s chain m fh a n) d
unfolding copied_links blit
copied_none s chain m fh a n d e = rw e

pub copied_some : (s chain : List ℕ) (m : List Copy) (fh a n : ℕ) (d : List ℕ) {x : ℕ} {e f : List ℕ} → 0 < n → x ≡ first_new s m a (history_link a chain m fh)
    → e ≡ blit 24 (le 8 x) d → f ≡ blit 32 (new_links s m (n - 1) (a + 32)) e → f ≡ blit 24 (copied_links s chain m fh a n) d
unfolding copied_links
copied_some s chain m fh a zero d h q t u = absurd (omega arith)
copied_some s chain m fh a (suc n) d h q t u = rw (blit-append, length-le) (rw (sub-one, t, q) at u)

-- ---- data
pub data_is : (s : List ℕ) (a : ℕ) {b n : ℕ} → b ≡ min (data_at s a) (length s) → n ≡ size_at s a - (24 + 8 * links_at s a) → part b n s ≡ data_of s a
unfolding data_of
data_is s a {b} {n} q r = go (ltb (length s) (data_at s a)) refl
  where
    go : (x : Bool) → ltb (length s) (data_at s a) ≡ x → part b n s ≡ part (data_at s a) (size_at s a - (24 + 8 * links_at s a)) s
    go true z =
        let y : b ≡ length s = q ∙ min-eq_right (le_of_lt (ltb-true _ _ z)) in
        part-past b n s (omega arith) ∙ sym (part-past _ _ s (le_of_lt (ltb-true _ _ z)))
    go false z =
        let y : b ≡ data_at s a = q ∙ min-eq_left (ltb-false _ _ z) in
        rw (← y, ← r)

pub data_from_lem : (s : List ℕ) (a p : ℕ) (d : List ℕ) {b n : ℕ} {e : List ℕ} → b ≡ min (data_at s a) (length s) → n ≡ size_at s a - (24 + 8 * links_at s a)
    → e ≡ blit p (part b n s) d → e ≡ blit p (data_of s a) d
data_from_lem s a p d q r t = t ∙ ap (λ (bs : List ℕ). blit p bs d) (data_is s a q r)

-- ---- whole blocks

-- cs laid just past bs
blit-next : (at p : ℕ) (bs cs d e f : List ℕ) → e ≡ blit at bs d → f ≡ blit p cs e → p ≡ at + length bs → f ≡ blit at (bs ++ cs) d
blit-next at p bs cs d e f s t q = rw (t, q, s) (sym (blit-append bs at cs d))

pub length-copied_links : (s chain : List ℕ) (m : List Copy) (fh a k : ℕ) → length (copied_links s chain m fh a k) ≡ 8 * k
unfolding copied_links
length-copied_links s chain m fh a zero = refl
length-copied_links s chain m fh a (suc k) = simp (length-append, length-le, length-new_links) (omega arith)

pub copied-laid : (s chain : List ℕ) (m : List Copy) (fh a : ℕ) (d₀ : List ℕ) {k z l : ℕ} {d₁ d₂ d₃ : List ℕ} → l ≡ links_at s a → k ≡ kind_at s a → z ≡ size_at s a
    → d₁ ≡ blit 0 (header k z l) d₀ → d₂ ≡ blit 24 (copied_links s chain m fh a l) d₁ → d₃ ≡ blit (24 + 8 * l) (data_of s a) d₂
    → d₃ ≡ blit 0 (copied_bytes s chain m fh a) d₀
unfolding copied_bytes
copied-laid s chain m fh a d₀ {k} {z} {l} {d₁} {d₂} {d₃} e f g t u v =
    let first : d₁ ≡ blit 0 (header (kind_at s a) (size_at s a) (links_at s a)) d₀ = rw (e, f, g) at t in
    let two = blit-next 0 24 _ _ d₀ d₁ d₂ first (rw e at u) (simp length-header) in
    blit-next 0 (24 + 8 * links_at s a) _ _ d₀ d₂ d₃ two (rw e at v)
    (simp (length-append, length-header, length-copied_links s chain m fh a (links_at s a)) (omega arith))

pub length_front : (s : List ℕ) (a : ℕ) → length (part a 24 s) ≡ min 24 (length s - a)
unfolding part
length_front s a = simp (length-take, length-drop)

pub at-laid : (s : List ℕ) (m : List Copy) (a next : ℕ) (d₀ : List ℕ) {n l : ℕ} {d₁ d₂ d₃ d₄ : List ℕ} → n ≡ min 24 (length s - a) → l ≡ links_at s a - 1
    → d₁ ≡ blit 0 (part a 24 s) d₀ → d₂ ≡ blit n (le 8 next) d₁ → d₃ ≡ blit (n + 8) (new_links s m l (a + 32)) d₂
    → d₄ ≡ blit (n + 8 + 8 * l) (data_of s a) d₃ → d₄ ≡ blit 0 (at_bytes s m a next) d₀
unfolding at_bytes
at-laid s m a next d₀ {n} {l} {d₁} {d₂} {d₃} {d₄} e f t u v x =
    let k : length (part a 24 s) ≡ n = length_front s a ∙ sym e in
    let two = blit-next 0 n _ _ d₀ d₁ d₂ t u (rw k (omega arith)) in
    let three = blit-next 0 (n + 8) _ _ d₀ d₂ d₃ two (rw f at v) (simp (length-append, k, length-le) (omega arith)) in
    blit-next 0 (n + 8 + 8 * (links_at s a - 1)) _ _ d₀ d₃ d₄ three (rw f at x)
    (simp (length-append, k, length-le, length-new_links s m (links_at s a - 1) (a + 32)) (omega arith))
