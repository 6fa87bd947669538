-- What of some bytes lies in a window: the cases.
use Rattle.std.specs.Prelude.{ℕ, ◌-◌, ◌≤◌, min, List, ◌≡◌, refl, length, take, drop}
use Rattle.std.proofs.Common.{⊎_elim, sym, ap, ◌∙◌, arith, length-drop, take_all}
use Rattle.stores.specs.Cases.{lt_or_le}
use Rattle.base.specs.Blit.{blit, part}
use Rattle.puts.specs.PutLaws.{blit-take}
use Rattle.stores.specs.Over.{over}
use Rattle.stores.specs.OverLaws.{blit-past}
use Rattle.windows.specs.Seen.{SeenIn}
use Rattle.windows.specs.LayLaws.{drop_min}

-- as many as there are, or as have room
clipped : (i m : ℕ) (bs w : List ℕ) → m ≡ min (length bs) (length w - i) → i ≤ length w → blit i (take m bs) w ≡ blit i bs w
clipped i m bs w e h =
    ⊎_elim (λ g. blit-take m bs i w (omega (arith, e))) (λ g. ap (λ (z : List ℕ). blit i z w) (take_all m bs (omega (arith, e))))
    (lt_or_le (length w - i) (length bs))

-- an index past the end for another
blit_min : (i m : ℕ) (bs w : List ℕ) → length w ≤ m → blit (min i m) bs w ≡ blit i bs w
blit_min i m bs w h =
    ⊎_elim (λ l. let e : min i m ≡ i = omega arith in rw e refl)
    (λ l. let k : length w ≤ min i m = omega arith in let j : length w ≤ i = omega arith in blit-past bs _ w k ∙ sym (blit-past bs _ w j))
    (lt_or_le i m)

-- what lies before the window, up to all of them, is left out, and what lies past it; no index is past the window's end
pub seen_clipped : (room a at n : ℕ) → SeenIn room a at n (record {
  skip = min (a - at) n;
  to = min (at - a) room;
  count = min (n - min (a - at) n) (room - min (at - a) room);
})
unfolding over part
seen_clipped room a at n = record {
  is = λ bs w p q.
      let e : drop (min (a - at) n) bs ≡ drop (a - at) bs = drop_min _ _ bs (omega (arith, p)) in
      let l : length (drop (min (a - at) n) bs) ≡ n - min (a - at) n = simp length-drop (rw p refl) in
      let k : min (at - a) room ≤ length w = omega (arith, q) in
      let c : min (n - min (a - at) n) (room - min (at - a) room) ≡ min (length (drop (min (a - at) n) bs)) (length w - min (at - a) room) = rw (l, q) refl in
      rw (← e) (sym (clipped (min (at - a) room) _ (drop (min (a - at) n) bs) w c k ∙ blit_min (at - a) room _ w (omega (arith, q))));
  within = omega arith;
  fits = omega arith;
}
