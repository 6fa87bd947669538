-- The turns of the walk over a block's links: what is left of the links gives what all give. And the ways of the copier, from there to `copy_at`.
use Prim.{tt}
use Rattle.std.specs.Prelude.{ℕ, zero, suc, ◌+◌, ◌*◌, ◌-◌, ◌≤◌, ◌<◌, List, [], ◌∷◌, ◌≡◌, refl, Bool, true, false, length, get_or, set, drop, eqb, Result, Ok, Err}
use Rattle.std.proofs.Common.{sym, ap, ◌∙◌, subst, sub-one, add-one, arith, length-append, length-drop, length-set, drop_of_length-le, drop-cons, drop-set-lt, get_or-set_same}
use Rattle.base.specs.Choice.{pick, if_eq}
use Rattle.base.specs.Checked.{Checked, ok, refused, and_then}
use Rattle.base.specs.Field.{le_at}
use Rattle.mdf.specs.Block.{kind_at, size_at, links_at}
use Rattle.plan.specs.Copies.{kind_fh, Copies, lost_links, copy_links, copy_at, copy_root, copy_roots, with_copy}
use Rattle.copier.specs.declared.memo.Copying.{Copying}
use Rattle.fields.specs.declared.refusal.Refusal.{Refusal}
use Rattle.fields.specs.Answer.{number_of, place_of}
use Rattle.copier.specs.Standing.{copies_in, standing, Room, Past}
use Rattle.copier.specs.StandingLaws.{length-copies, past_more, past_then, past_same}
use Rattle.copier.specs.Got.{begun_of, Copied, After, AfterGot, IndexedGot}
use Rattle.copier.specs.Index.{Indexed}
use Rattle.copier.specs.Begin.{begin_at, through_links, on_begun}
use Rattle.copier.specs.CopyLaws.{copy-begun, begun_going, Grown, copy_grows}

-- ---- links: none, or one and the rest
links_none : (step : ℕ → Copies → Checked Copies) (s : List ℕ) (n p : ℕ) (m : Copies) → n ≡ 0 → copy_links step s n p m ≡ ok m
unfolding copy_links
links_none step s n p m e = rw e

links_cons : (step : ℕ → Copies → Checked Copies) (s : List ℕ) (n p : ℕ) (m : Copies) → 0 < n
    → copy_links step s n p m ≡ and_then (step (le_at 8 s p) m) (λ m'. copy_links step s (n - 1) (p + 8) m')
unfolding copy_links
links_cons step s zero p m h = absurd (omega arith)
links_cons step s (suc n) p m h = simp sub-one

module _ (step : ℕ → Copies → Checked Copies) (s : List ℕ) (n p b : ℕ) (m : Copies) {r : Checked Copies} where
  pub links_ok : copy_links step s n p m ≡ r → 0 < n → b ≡ le_at 8 s p → {x : Copies} → ok x ≡ step b m → copy_links step s (n - 1) (p + 8) x ≡ r
  links_ok i h e {x} q =
      let v : step (le_at 8 s p) m ≡ ok x = ap (λ (k : ℕ). step k m) (sym e) ∙ sym q in
      rw (links_cons step s n p m h, v) at i

  pub links_refused : copy_links step s n p m ≡ r → 0 < n → b ≡ le_at 8 s p → {k q : ℕ} → refused k q ≡ step b m → refused k q ≡ r
  links_refused i h e {k} {q} z =
      let v : step (le_at 8 s p) m ≡ refused k q = ap (λ (j : ℕ). step j m) (sym e) ∙ sym z in
      rw (links_cons step s n p m h, v) at i

-- ---- what an answer says
pub copied_at : {w w' : List ℕ} {r : Result Copying Refusal} {v : Checked Copies} {t : Copying} → Copied w w' r v → r ≡ Ok t → (ok (standing w' t) ≡ v) × Past (2 * t.used) w w'
copied_at {w} {w'} {r} {v} c e = let d = subst (λ (x : Result Copying Refusal). Copied w w' x v) e c in (d.is, d.past)

pub copied_refused : {w w' : List ℕ} {r : Result Copying Refusal} {v : Checked Copies} {x : Refusal} → Copied w w' r v → r ≡ Err x → refused (number_of x) (place_of x) ≡ v
copied_refused {w} {w'} {r} {v} c e = (subst (λ (x : Result Copying Refusal). Copied w w' x v) e c).is

pub indexed_at : {r : Result Copying Refusal} {w x : List ℕ} {t : Copying} → IndexedGot r w x → r ≡ Ok t → Indexed w t.used x
indexed_at {r} {w} {x} h e = subst (λ (g : Result Copying Refusal). IndexedGot g w x) e h

after_grown : (d : ℕ) (w w' : List ℕ) (s t : Copying) → Room s.used s.next → Grown d (standing w s) (standing w' t) → After d s t
after_grown d w w' s t h g =
    let k = length-copies w 0 s.used in
    let l = length-copies w' 0 t.used in
    record { more = omega arith; most = omega arith; near = omega arith; room = record { few = omega arith; near = omega arith } }

pub copy-after : (most left : ℕ) (i way : List ℕ) (a : ℕ) (w w' : List ℕ) (s t : Copying) → ok (standing w' t) ≡ copy_at most left i way a (standing w s)
    → most ≤ 2050 → s.used + length way ≤ 2050 → Room s.used s.next → After (length way) s t
copy-after most left i way a w w' s t e l h r =
    let k = length-copies w 0 s.used in
    after_grown (length way) w w' s t r (copy_grows most left i way a (standing w s) (standing w' t) l (omega arith) (sym e))

-- ---- a turn
pub record Turn (most left : ℕ) (s down w₀ : List ℕ) (links₀ p₀ : ℕ) (st₀ : Copying) (w : List ℕ) (links p : ℕ) (st : Copying) : Type 0 where
  pub limit : most ≤ 2050
  pub same : length w ≡ length w₀
  pub lies : p + 8 * links ≤ length s + 8
  pub deep : length (drop (left - 1) down) + left ≡ 66
  pub few : st.used + 66 ≤ 2050 + left
  pub room : Room st.used st.next
  pub grown : st₀.used ≤ st.used
  pub past : Past (2 * st.used) w₀ w
  pub rest : copy_links (copy_at most (left - 1) s (drop (left - 1) down)) s links p (standing w st)
      ≡ copy_links (copy_at most (left - 1) s (drop (left - 1) down)) s links₀ p₀ (standing w₀ st₀)

pub turn_begin : (most left : ℕ) (s down w : List ℕ) (links p : ℕ) (st : Copying) → most ≤ 2050 → p + 8 * links ≤ length s + 8 → length (drop (left - 1) down) + left ≡ 66
    → st.used + 66 ≤ 2050 + left → Room st.used st.next → Turn most left s down w links p st w links p st
turn_begin most left s down w links p st l h d f r =
    record { limit = l; same = refl; lies = h; deep = d; few = f; room = r; grown = omega arith; past = past_same _ w; rest = refl }

module _ {most left : ℕ} {s down w₀ : List ℕ} {links₀ p₀ : ℕ} {st₀ : Copying} {w : List ℕ} {links p : ℕ} {st : Copying}
    (u : Turn most left s down w₀ links₀ p₀ st₀ w links p st) (h : 0 < links) where
  pub turn_next : {w' : List ℕ} {r : Result Copying Refusal} {t : Copying} {b : ℕ} → Copied w w' r (copy_at most (left - 1) s (drop (left - 1) down) b (standing w st))
      → r ≡ Ok t → b ≡ le_at 8 s p → length w' ≡ length w → Turn most left s down w₀ links₀ p₀ st₀ w' (links - 1) (p + 8) t
  turn_next {w'} {r} {t} {b} c e q l =
      let d = copied_at c e in
      let z : st.used + length (drop (left - 1) down) ≤ 2050 = omega arith in
      let f = copy-after most (left - 1) s (drop (left - 1) down) b w w' st t d.0 u.limit z u.room in
      record {
        limit = u.limit;
        same = l ∙ u.same;
        lies = omega arith;
        deep = u.deep;
        few = omega arith;
        room = f.room;
        grown = omega arith;
        past = past_then (past_more _ (omega arith) u.past) d.1;
        rest = links_ok (copy_at most (left - 1) s (drop (left - 1) down)) s links p b (standing w st) u.rest h q d.0;
      }

  turn_refused : {w' : List ℕ} {r : Result Copying Refusal} {b : ℕ} {x : Refusal} → Copied w w' r (copy_at most (left - 1) s (drop (left - 1) down) b (standing w st))
      → r ≡ Err x → b ≡ le_at 8 s p → refused (number_of x) (place_of x) ≡ copy_links (copy_at most (left - 1) s (drop (left - 1) down)) s links₀ p₀ (standing w₀ st₀)
  turn_refused c e q = links_refused (copy_at most (left - 1) s (drop (left - 1) down)) s links p _ (standing w st) u.rest h q (copied_refused c e)

turn_end : {most left : ℕ} {s down w₀ : List ℕ} {links₀ p₀ : ℕ} {st₀ : Copying} {w : List ℕ} {links p : ℕ} {st : Copying}
    → Turn most left s down w₀ links₀ p₀ st₀ w links p st → links ≡ 0
    → ok (standing w st) ≡ copy_links (copy_at most (left - 1) s (drop (left - 1) down)) s links₀ p₀ (standing w₀ st₀)
turn_end u e = sym (links_none _ _ _ _ _ e) ∙ u.rest

-- ---- the ways of the copier
placed_used : (a size : ℕ) (w w' : List ℕ) (s t : Copying) → standing w' t ≡ with_copy a size (standing w s) → t.used ≡ s.used + 1
unfolding with_copy
placed_used a size w w' s t e =
    let k = length-copies w 0 s.used in
    let l = length-copies w' 0 t.used in
    omega (arith, simp length-append at (ap (λ (m : Copies). length m.memo) e))

pub so_begun : {o : Result Bool Refusal} {v : Checked Bool} → begun_of o ≡ v → {x : Result Bool Refusal} → o ≡ x → v ≡ begun_of x
so_begun e q = sym e ∙ ap begun_of q

pub copy-nothing : (most left : ℕ) (s way : List ℕ) (a : ℕ) (w : List ℕ) (st : Copying) → begin_at most left s way a (copies_in w st.used) ≡ ok false
    → Copied w w (Ok st) (copy_at most left s way a (standing w st))
copy-nothing most left s way a w st e =
    record {
      is = sym (copy-begun most left s way a (standing w st) ∙ ap (λ (v : Checked Bool). on_begun v (standing w st) (through_links most (left - 1) s way a (standing w st))) e);
      past = past_same _ w;
    }

pub copy_refused : (most left : ℕ) (s way : List ℕ) (a : ℕ) (w : List ℕ) (st : Copying) {x : Refusal} → begin_at most left s way a (copies_in w st.used) ≡ refused (number_of x) (place_of x)
    → Copied w w (Err x) (copy_at most left s way a (standing w st))
copy_refused most left s way a w st e =
    record {
      is = sym (copy-begun most left s way a (standing w st) ∙ ap (λ (v : Checked Bool). on_begun v (standing w st) (through_links most (left - 1) s way a (standing w st))) e);
      past = tt;
    }

copy_through : (most left : ℕ) (s way : List ℕ) (a : ℕ) (w : List ℕ) (st : Copying) → begin_at most left s way a (copies_in w st.used) ≡ ok true
    → copy_at most left s way a (standing w st) ≡ through_links most (left - 1) s way a (standing w st)
copy_through most left s way a w st e =
    copy-begun most left s way a (standing w st) ∙ ap (λ (v : Checked Bool). on_begun v (standing w st) (through_links most (left - 1) s way a (standing w st))) e

-- the way down with one block more
pub down_way : (way : List ℕ) (left a : ℕ) → length way ≡ 65 → 0 < left → left ≤ 65 → drop (left - 1) (set way (left - 1) a) ≡ a ∷ drop left way
down_way way left a l h k =
    let i : left - 1 < length (set way (left - 1) a) = simp length-set (omega arith) in
    let n : suc (left - 1) ≡ left = omega arith in
    drop-cons (set way (left - 1) a) (left - 1) 0 i
    ∙ rw (get_or-set_same way (left - 1) a 0 (omega arith), drop-set-lt (suc (left - 1)) way (left - 1) a (omega arith), n)

module _ {most left : ℕ} {s down w₀ : List ℕ} {links₀ p₀ : ℕ} {st₀ : Copying} {w : List ℕ} {links p : ℕ} {st : Copying} (a : ℕ) (way : List ℕ)
    (u : Turn most left s down w₀ links₀ p₀ st₀ w links p st) (b : begin_at most left s way a (copies_in w₀ st₀.used) ≡ ok true) (d : drop (left - 1) down ≡ a ∷ way)
    (n : links₀ ≡ links_at s a - lost_links s a) (o : p₀ ≡ a + 24 + 8 * lost_links s a) where
  pub copy_stopped : {w' : List ℕ} {r : Result Copying Refusal} {c : ℕ} {x : Refusal} → 0 < links → Copied w w' r (copy_at most (left - 1) s (drop (left - 1) down) c (standing w st))
      → r ≡ Err x → c ≡ le_at 8 s p → Copied w₀ w' (Err x) (copy_at most left s way a (standing w₀ st₀))
  unfolding through_links
  copy_stopped h c e q =
      let f = turn_refused u h c e q in
      record { is = rw (copy_through most left s way a w₀ st₀ b, ← n, ← o, ← d, ← f); past = tt }

  pub copy_done : {w' : List ℕ} {t : Copying} {size : ℕ} → links ≡ 0 → size ≡ size_at s a → standing w' t ≡ with_copy a size (standing w st)
      → Past (2 * t.used) w w' → Copied w₀ w' (Ok t) (copy_at most left s way a (standing w₀ st₀))
  unfolding through_links
  copy_done {w'} {t} {size} z e q k =
      let f = turn_end u z in
      record { is = rw (copy_through most left s way a w₀ st₀ b, ← n, ← o, ← d, ← f, q, e); past = past_then (past_more _ (omega (arith, placed_used a size w w' st t q)) u.past) k }

-- ---- where the links are to be followed
lost_few : (s : List ℕ) (a : ℕ) → lost_links s a ≤ 1
unfolding lost_links if_eq
lost_few s a = go (eqb (kind_at s a) kind_fh)
  where
    go : (b : Bool) → pick b 1 0 ≤ 1
    go true = omega arith
    go false = omega arith

pub record Started (most left : ℕ) (s way : List ℕ) (a : ℕ) (w : List ℕ) (st : Copying) : Type 0 where
  pub begins : begin_at most left s (drop left way) a (copies_in w st.used) ≡ ok true
  pub down : drop (left - 1) (set way (left - 1) a) ≡ a ∷ drop left way
  pub deep : length (drop (left - 1) (set way (left - 1) a)) + left ≡ 66
  pub deeper : 0 < left
  pub within : left ≤ 65
  pub limit : most ≤ 2050
  pub words : 8192 ≤ length w
  pub few : st.used + 66 ≤ 2050 + left
  pub room : Room st.used st.next
  pub range : a + 24 + 8 * links_at s a ≤ length s
  pub lost : lost_links s a ≤ 1
  pub short : size_at s a ≤ 268435456

pub started : (most left : ℕ) (s way : List ℕ) (a : ℕ) (w : List ℕ) (st : Copying) {o : Result Bool Refusal}
    → begun_of o ≡ begin_at most left s (drop left way) a (copies_in w st.used) → o ≡ Ok true → length way ≡ 65 → left ≤ 65 → most ≤ 2050
    → 8192 ≤ length w → Room st.used st.next → Started most left s way a w st
started most left s way a w st e q l k j n r =
    let b = so_begun e q in
    let g = begun_going most left s (drop left way) a (copies_in w st.used) b in
    let f = g.whole in
    let d = down_way way left a l g.deeper k in
    let m = length-copies w 0 st.used in
    let v = length-drop left way in
    record {
      begins = b;
      down = d;
      deep = rw d (omega arith);
      deeper = g.deeper;
      within = k;
      limit = j;
      words = n;
      few = omega arith;
      room = r;
      range = omega arith;
      lost = lost_few s a;
      short = f.short;
    }

-- ---- from outside of any copied block
pub root_copied : (most : ℕ) (s : List ℕ) (a : ℕ) (m : Copies) {w w' : List ℕ} {r : Result Copying Refusal} → Copied w w' r (copy_at most 65 s [] a m) → Copied w w' r (copy_root most s a m)
unfolding copy_root
root_copied most s a m c = c

pub root_after : (most : ℕ) (s : List ℕ) (a : ℕ) (w w' : List ℕ) (st : Copying) (r : Result Copying Refusal) → Copied w w' r (copy_at most 65 s [] a (standing w st))
    → most ≤ 2050 → Room st.used st.next → AfterGot r st
root_after most s a w w' st (Ok t) c l h = copy-after most 65 s [] a w w' st t c.is l (omega arith) h
root_after most s a w w' st (Err x) c l h = tt

-- ---- several blocks one after the other
pub record Held (w₀ : List ℕ) (st₀ : Copying) (w : List ℕ) (st : Copying) : Type 0 where
  pub same : length w ≡ length w₀
  pub after : After 0 st₀ st
  pub past : Past (2 * st.used) w₀ w

pub after_same : (st : Copying) → Room st.used st.next → After 0 st st
after_same st h = record { more = omega arith; most = omega arith; near = omega arith; room = h }

pub after_then : {x y z : Copying} → After 0 x y → After 0 y z → After 0 x z
after_then f g = record { more = omega arith; most = omega arith; near = omega arith; room = g.room }

pub after-at : {r : Result Copying Refusal} {s t : Copying} → AfterGot r s → r ≡ Ok t → After 0 s t
after-at {r} {s} h e = subst (λ (x : Result Copying Refusal). AfterGot x s) e h

pub held_begin : (w : List ℕ) (st : Copying) → Room st.used st.next → Held w st w st
held_begin w st h = record { same = refl; after = after_same st h; past = past_same _ w }

pub held_next : {w₀ : List ℕ} {st₀ : Copying} {w : List ℕ} {st : Copying} {w' : List ℕ} {r : Result Copying Refusal} {v : Checked Copies} {t : Copying}
    → Held w₀ st₀ w st → Copied w w' r v → AfterGot r st → r ≡ Ok t → length w' ≡ length w → Held w₀ st₀ w' t
held_next u c h e l =
    let f = after-at h e in
    record {
      same = l ∙ u.same;
      after = after_then u.after f;
      past = past_then (past_more _ (omega arith) u.past) (copied_at c e).1;
    }

-- ---- links from outside of any copied block: a turn, a refusal, the end
module _ (most : ℕ) (s : List ℕ) (links p : ℕ) (w : List ℕ) (st : Copying) {r : Checked Copies} where
  pub follow_next : {w' : List ℕ} {g : Result Copying Refusal} {t : Copying} {b : ℕ} → copy_links (copy_root most s) s links p (standing w st) ≡ r → 0 < links
      → Copied w w' g (copy_root most s b (standing w st)) → g ≡ Ok t → b ≡ le_at 8 s p → copy_links (copy_root most s) s (links - 1) (p + 8) (standing w' t) ≡ r
  follow_next i h c e q = links_ok (copy_root most s) s links p _ (standing w st) i h q (copied_at c e).0

  pub follow_refused : {w₀ w' : List ℕ} {g : Result Copying Refusal} {b : ℕ} {x : Refusal} → copy_links (copy_root most s) s links p (standing w st) ≡ r → 0 < links
      → Copied w w' g (copy_root most s b (standing w st)) → g ≡ Err x → b ≡ le_at 8 s p → Copied w₀ w' (Err x) r
  follow_refused i h c e q = record { is = links_refused (copy_root most s) s links p _ (standing w st) i h q (copied_refused c e); past = tt }

  pub follow_end : {w₀ : List ℕ} {st₀ : Copying} → copy_links (copy_root most s) s links p (standing w st) ≡ r → links ≡ 0 → Held w₀ st₀ w st → Copied w₀ w (Ok st) r
  follow_end i e u = record { is = sym (links_none (copy_root most s) s links p (standing w st) e) ∙ i; past = u.past }

-- ---- roots, from number i on
roots_cons : (most : ℕ) (s l : List ℕ) (i : ℕ) (m : Copies) → i < length l
    → copy_roots most s (drop i l) m ≡ and_then (copy_root most s (get_or l i 0) m) (λ m'. copy_roots most s (drop (i + 1) l) m')
unfolding copy_roots
roots_cons most s l i m h = rw (drop-cons l i 0 h, add-one)

module _ (most : ℕ) (s l : List ℕ) (i b : ℕ) (w : List ℕ) (st : Copying) {r : Checked Copies} where
  pub roots-next : {w' : List ℕ} {g : Result Copying Refusal} {t : Copying} → copy_roots most s (drop i l) (standing w st) ≡ r → i < length l
      → Copied w w' g (copy_root most s b (standing w st)) → g ≡ Ok t → b ≡ get_or l i 0 → copy_roots most s (drop (i + 1) l) (standing w' t) ≡ r
  roots-next {w'} {g} {t} k h c e q =
      let v : copy_root most s (get_or l i 0) (standing w st) ≡ ok (standing w' t) = rw q at (sym (copied_at c e).0) in
      rw (roots_cons most s l i (standing w st) h, v) at k

  pub roots_refused : {w₀ w' : List ℕ} {g : Result Copying Refusal} {x : Refusal} → copy_roots most s (drop i l) (standing w st) ≡ r → i < length l
      → Copied w w' g (copy_root most s b (standing w st)) → g ≡ Err x → b ≡ get_or l i 0 → Copied w₀ w' (Err x) r
  roots_refused {w₀} {w'} {g} {x} k h c e q =
      let v : copy_root most s (get_or l i 0) (standing w st) ≡ refused (number_of x) (place_of x) = rw q at (sym (copied_refused c e)) in
      record { is = rw (roots_cons most s l i (standing w st) h, v) at k; past = tt }

pub roots_end : (most : ℕ) (s l : List ℕ) (i : ℕ) (w : List ℕ) (st : Copying) {r : Checked Copies} {w₀ : List ℕ} {st₀ : Copying}
    → copy_roots most s (drop i l) (standing w st) ≡ r → length l ≤ i → Held w₀ st₀ w st → Copied w₀ w (Ok st) r
unfolding copy_roots
roots_end most s l i w st k h u = record { is = rw (drop_of_length-le l h) at k; past = u.past }
