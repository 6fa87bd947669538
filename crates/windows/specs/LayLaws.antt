-- Laws of what is laid over a window.
use Rattle.std.specs.Prelude.{ℕ, ◌+◌, ◌-◌, ◌≤◌, min, List, ◌≡◌, refl, length, drop}
use Rattle.std.proofs.Common.{⊎_elim, sym, ◌∙◌, arith, drop_of_length-le, drop-drop}
use Rattle.base.specs.Blit.{blit, part}
use Rattle.base.specs.BlitLaws.{part-blit}
use Rattle.stores.specs.Cases.{lt_or_le}
use Rattle.stores.specs.Over.{over}
use Rattle.joined.specs.AheadLaws.{drop-take}

-- a window that begins at or before the bytes
pub lay_after : (a at : ℕ) (bs w : List ℕ) → a ≤ at → blit (at - a) bs w ≡ over a at bs w
unfolding over
lay_after a at bs w h = let z : a - at ≡ 0 = omega arith in rw z refl

-- elements past a number that no index is over
pub drop_min : (i m : ℕ) (s : List ℕ) → length s ≤ m → drop (min i m) s ≡ drop i s
drop_min i m s h =
    ⊎_elim (λ l. let e : min i m ≡ i = omega arith in rw e refl)
    (λ l. let k : length s ≤ min i m = omega arith in let j : length s ≤ i = omega arith in drop_of_length-le s k ∙ sym (drop_of_length-le s j))
    (lt_or_le i m)

-- n elements of s from index from on, as far as they lie in a window, which begins at a; no index of s is over m
pub lay_clipped : (a at from n m : ℕ) (s w : List ℕ) → length s ≤ m
    → blit (at - a) (part (min (from + (a - at)) m) (n - (a - at)) s) w ≡ over a at (part from n s) w
unfolding over part
lay_clipped a at from n m s w h =
    let e : drop (min (from + (a - at)) m) s ≡ drop (from + (a - at)) s = drop_min _ _ s h in
    rw (e, drop-take (a - at) n (drop from s), drop-drop (a - at) from s) refl

-- bytes that were put at the front of a list l, and laid from there
pub laid_from : (a at n : ℕ) (bs l w : List ℕ) {m r : List ℕ} → r ≡ over a at (part 0 n m) w → m ≡ blit 0 bs l → length bs ≡ n → n ≤ length l → r ≡ over a at bs w
laid_from a at n bs l w e f h k =
    let z : part 0 (length bs) (blit 0 bs l) ≡ bs = part-blit 0 bs l (omega (arith, h, k)) in
    e ∙ rw (f, ← h, z)
