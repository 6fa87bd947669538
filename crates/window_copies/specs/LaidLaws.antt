-- A copied block and an AT over a window that begins inside them: their links from a number on, their data, and all of them one after the other.
use Prim.Native.Nat.{ℕ, zero, suc, ◌+◌, ◌-◌, ◌*◌, ◌/◌, ◌%◌, ◌≤◌, ◌<◌, min}
use mathlib.Core.List.{List, [], ◌++◌, append_assoc}
use Rattle.std.specs.Prelude.{◌≡◌}
use Rattle.std.proofs.Common.{sym, subst, ◌∙◌, length-append}
use Rattle.std.proofs.Math.Path.{ap}
use native.Mathlib.Omega.{arith}
use Rattle.std.proofs.Math.ListN.{length}
use Rattle.std.proofs.Math.Seq.{drop-nil}
use Rattle.base.specs.Field.{le, le_at}
use Rattle.base.specs.FieldLaws.{length-le}
use Rattle.base.specs.Blit.{part, blit}
use Rattle.mdf.specs.Block.{kind_at, size_at, links_at, link_at, data_at}
use Rattle.plan.specs.Copies.{Copy}
use Rattle.result.specs.Fill.{header, new_link, new_links, history_link, first_new, copied_links, data_of, copied_bytes, at_bytes}
use Rattle.result.specs.FillLaws.{length-header}
use Rattle.puts.specs.PutLaws.{blit-past}
use Rattle.copying.specs.CopyingLaws.{length-new_links, links_turn, links_end, links_done, length-copied_links, data_is, length_front}
use Rattle.stores.specs.Over.{over}
use Rattle.stores.specs.OverLaws.{over-append, over_before}
use Rattle.windows.specs.LayLaws.{lay_after}

-- ---- where a window begins: only its distance counts

-- a block that begins before the window
pub over_inside : (a at : ℕ) (bs w : List ℕ) → at < a → over (a - at) 0 bs w ≡ over a at bs w
unfolding over
over_inside a at bs w h =
    let z : 0 - (a - at) ≡ 0 = omega arith in
    let y : at - a ≡ 0 = omega arith in
    let x : a - at - 0 ≡ a - at = omega arith in
    rw (z, y, x)

-- a block that begins past the window
pub past_window : (a at : ℕ) (bs w : List ℕ) → a ≤ at → length w ≤ at - a → w ≡ over a at bs w
past_window a at bs w h l = sym (blit-past bs (at - a) w l) ∙ lay_after a at bs w h

-- cs laid just past bs
over-next : (a at p : ℕ) (bs cs d e f : List ℕ) → e ≡ over a at bs d → f ≡ over a p cs e → p ≡ at + length bs → f ≡ over a at (bs ++ cs) d
over-next a at p bs cs d e f s t q = rw (t, q, s) (sym (over-append a at bs cs d))

over_none : (a at : ℕ) (w : List ℕ) → over a at [] w ≡ w
unfolding over blit
over_none a at w = rw drop-nil

-- ---- links one after the other, by their number i of k: what is left to do, done to the list, gives g
module _ (s : List ℕ) (m : List Copy) (a i k p : ℕ) where
  pub numbered_turn : (d : List ℕ) {e g : List ℕ} {old new : ℕ} → i < k → blit p (new_links s m (k - i) (a + 24 + 8 * i)) d ≡ g → old ≡ link_at s a i
      → new ≡ new_link m old → e ≡ blit p (le 8 new) d → blit (p + 8) (new_links s m (k - (i + 1)) (a + 24 + 8 * (i + 1))) e ≡ g
  numbered_turn d {e} {g} h t q r u =
      let n : k - i - 1 ≡ k - (i + 1) = omega arith in
      subst (λ (x : ℕ). blit (p + 8) (new_links s m x (a + 24 + 8 * (i + 1))) e ≡ g) n (links_turn s m a i p (k - i) d (omega arith) t q r u)

  pub numbered_end : (d : List ℕ) {e g : List ℕ} {old new : ℕ} → i < k → blit p (new_links s m (k - i) (a + 24 + 8 * i)) d ≡ g → old ≡ link_at s a i
      → new ≡ new_link m old → e ≡ blit p (le 8 new) d → length e ≤ p + 8 → e ≡ g
  numbered_end d h t q r u small = links_end s m a i p (k - i) d (omega arith) t q r u small

  pub numbered_done : {d g : List ℕ} → blit p (new_links s m (k - i) (a + 24 + 8 * i)) d ≡ g → k ≤ i → d ≡ g
  numbered_done t h = links_done s m a i p (k - i) t (omega arith)

-- the first j, then the others
links_split : (s : List ℕ) (m : List Copy) (j k p : ℕ) → new_links s m (j + k) p ≡ new_links s m j p ++ new_links s m k (p + 8 * j)
unfolding new_links
links_split s m zero k p =
    let e : 0 + k ≡ k = omega arith in
    let f : p + 8 * 0 ≡ p = omega arith in
    rw (e, f)
links_split s m (suc j) k p =
    let e : suc j + k ≡ suc (j + k) = omega arith in
    let f : p + 8 * suc j ≡ p + 8 + 8 * j = omega arith in
    let x : List ℕ = le 8 (new_link m (le_at 8 s p)) in
    rw (e, f) (ap (λ (l : List ℕ). x ++ l) (links_split s m j k (p + 8)) ∙ sym (append_assoc x (new_links s m j (p + 8)) (new_links s m k (p + 8 + 8 * j))))

-- ---- the links of the block at b but the first, of k in all, over a window
module _ (s : List ℕ) (m : List Copy) (a at b k : ℕ) (w : List ℕ) where
  -- it begins before them
  pub links_after : {e : List ℕ} → a ≤ at → e ≡ blit (at - a) (new_links s m (k - 1) (b + 24 + 8 * 1)) w → e ≡ over a at (new_links s m (k - 1) (b + 32)) w
  links_after {e} h t =
      let p : b + 24 + 8 * 1 ≡ b + 32 = omega arith in
      t ∙ ap (λ (x : ℕ). blit (at - a) (new_links s m (k - 1) x) w) p ∙ lay_after a at (new_links s m (k - 1) (b + 32)) w h

  -- it begins past them
  pub links_before : at < a → k ≤ (a - at) / 8 + 1 → w ≡ over a at (new_links s m (k - 1) (b + 32)) w
  links_before h l = sym (over_before a at _ w (rw length-new_links (omega arith)))

  -- it begins inside link number j + 1
  pub links_cut : (j : ℕ) {new : ℕ} {e f : List ℕ} → at < a → j ≡ (a - at) / 8 → j + 1 < k → new ≡ new_link m (link_at s b (j + 1))
      → e ≡ over a (at + 8 * j) (le 8 new) w
      → f ≡ blit (8 - (a - at) % 8) (new_links s m (k - (j + 1 + 1)) (b + 24 + 8 * (j + 1 + 1))) e → f ≡ over a at (new_links s m (k - 1) (b + 32)) w
  unfolding new_links link_at
  links_cut j {new} {e} {f} h g l r t u =
      let n : ℕ = k - (j + 1 + 1) in
      let xs : List ℕ = new_links s m j (b + 32) in
      let ys : List ℕ = new_links s m n (b + 24 + 8 * (j + 1 + 1)) in
      let c : k - 1 ≡ j + suc n = omega arith in
      let p : b + 32 + 8 * j ≡ b + 24 + 8 * (j + 1) = omega arith in
      let q : b + 24 + 8 * (j + 1) + 8 ≡ b + 24 + 8 * (j + 1 + 1) = omega arith in
      let later : new_links s m (suc n) (b + 32 + 8 * j) ≡ le 8 new ++ ys = rw (p, q, r) in
      let all : new_links s m (k - 1) (b + 32) ≡ xs ++ (le 8 new ++ ys) =
      ap (λ (x : ℕ). new_links s m x (b + 32)) c ∙ links_split s m j (suc n) (b + 32) ∙ ap (λ (z : List ℕ). xs ++ z) later in
      let o : length xs ≡ 8 * j = length-new_links s m j (b + 32) in
      let y : at + 8 * j + 8 - a ≡ 8 - (a - at) % 8 = omega arith in
      let x : f ≡ over a (at + 8 * j + 8) ys e =
      u ∙ ap (λ (z : ℕ). blit z ys e) (sym y) ∙ lay_after a (at + 8 * j + 8) ys e (omega arith) in
      let two : f ≡ over a (at + 8 * j) (le 8 new ++ ys) w = over-next a (at + 8 * j) (at + 8 * j + 8) (le 8 new) ys w e f t x (rw length-le) in
      rw all (over-next a at (at + 8 * j) xs (le 8 new ++ ys) w w f (sym (over_before a at xs w (omega arith))) two (rw o))

-- ---- the data ds behind k links, which stand at index at of the file
module _ (a at k : ℕ) (ds w : List ℕ) where
  pub data_after : {e : List ℕ} → a ≤ at → e ≡ blit (at - a + 8 * k) ds w → e ≡ over a (at + 8 * k) ds w
  data_after {e} h t =
      let p : at - a + 8 * k ≡ at + 8 * k - a = omega arith in
      t ∙ ap (λ (x : ℕ). blit x ds w) p ∙ lay_after a (at + 8 * k) ds w (omega arith)

  pub data_cut : {e : List ℕ} → at < a → (a - at) / 8 < k → e ≡ blit (8 - (a - at) % 8 + 8 * (k - ((a - at) / 8 + 1))) ds w → e ≡ over a (at + 8 * k) ds w
  data_cut {e} h l t =
      let p : 8 - (a - at) % 8 + 8 * (k - ((a - at) / 8 + 1)) ≡ at + 8 * k - a = omega arith in
      t ∙ ap (λ (x : ℕ). blit x ds w) p ∙ lay_after a (at + 8 * k) ds w (omega arith)

pub data_over_lem : (s : List ℕ) (b a p : ℕ) (w : List ℕ) {x n : ℕ} {e : List ℕ} → x ≡ min (data_at s b) (length s) → n ≡ size_at s b - (24 + 8 * links_at s b)
    → e ≡ over a p (part x n s) w → e ≡ over a p (data_of s b) w
data_over_lem s b a p w q r t = t ∙ ap (λ (z : List ℕ). over a p z w) (data_is s b q r)

-- ---- all links
pub copied_none : (s chain : List ℕ) (m : List Copy) (fh b n a p : ℕ) (w : List ℕ) → n ≡ 0 → w ≡ over a p (copied_links s chain m fh b n) w
unfolding copied_links
copied_none s chain m fh b n a p w e = rw e (sym (over_none a p w))

pub copied_some : (s chain : List ℕ) (m : List Copy) (fh b n a : ℕ) (w : List ℕ) {x : ℕ} {e f : List ℕ} → 0 < n → x ≡ first_new s m b (history_link b chain m fh)
    → e ≡ over a 24 (le 8 x) w → f ≡ over a 32 (new_links s m (n - 1) (b + 32)) e → f ≡ over a 24 (copied_links s chain m fh b n) w
unfolding copied_links
copied_some s chain m fh b zero a w h q t u = absurd (omega arith)
copied_some s chain m fh b (suc n) a w {x} {e} {f} h q t u =
    let z : suc n - 1 ≡ n = omega arith in
    over-next a 24 32 _ _ w e f (rw q at t) (rw z at u) (rw length-le)

-- ---- whole blocks
pub copied-over : (s chain : List ℕ) (m : List Copy) (fh b a : ℕ) (w : List ℕ) {k z l : ℕ} {d₁ d₂ d₃ : List ℕ} → l ≡ links_at s b → k ≡ kind_at s b → z ≡ size_at s b
    → d₁ ≡ over a 0 (header k z l) w → d₂ ≡ over a 24 (copied_links s chain m fh b l) d₁ → d₃ ≡ over a (24 + 8 * l) (data_of s b) d₂
    → d₃ ≡ over a 0 (copied_bytes s chain m fh b) w
unfolding copied_bytes
copied-over s chain m fh b a w {k} {z} {l} {d₁} {d₂} {d₃} e f g t u v =
    let first : d₁ ≡ over a 0 (header (kind_at s b) (size_at s b) (links_at s b)) w = rw (e, f, g) at t in
    let two = over-next a 0 24 _ _ w d₁ d₂ first (rw e at u) (simp length-header) in
    over-next a 0 (24 + 8 * links_at s b) _ _ w d₂ d₃ two (rw e at v)
    (simp (length-append, length-header, length-copied_links s chain m fh b (links_at s b)) (omega arith))

pub at-over : (s : List ℕ) (m : List Copy) (b next a : ℕ) (w : List ℕ) {n l o : ℕ} {d₁ d₂ d₃ d₄ : List ℕ} → n ≡ min 24 (length s - b) → l ≡ links_at s b → o ≡ links_at s b - 1
    → d₁ ≡ over a 0 (part b 24 s) w → d₂ ≡ over a n (le 8 next) d₁ → d₃ ≡ over a (n + 8) (new_links s m (l - 1) (b + 32)) d₂
    → d₄ ≡ over a (n + 8 + 8 * o) (data_of s b) d₃ → d₄ ≡ over a 0 (at_bytes s m b next) w
unfolding at_bytes
at-over s m b next a w {n} {l} {o} {d₁} {d₂} {d₃} {d₄} e f g t u v x =
    let k : length (part b 24 s) ≡ n = length_front s b ∙ sym e in
    let two = over-next a 0 n _ _ w d₁ d₂ t u (rw k (omega arith)) in
    let three = over-next a 0 (n + 8) _ _ w d₂ d₃ two (rw f at v) (simp (length-append, k, length-le) (omega arith)) in
    over-next a 0 (n + 8 + 8 * (links_at s b - 1)) _ _ w d₃ d₄ three (rw g at x)
    (simp (length-append, k, length-le, length-new_links s m (links_at s b - 1) (b + 32)) (omega arith))
