-- Laws of what the words of reading hold of a DG.
use Rattle.std.specs.Prelude.{◌≡◌, ℕ, zero, suc, ◌+◌, ◌-◌, ◌≤◌, min, Bool, true, false, List, [], ◌∷◌, length, ◌==◌, slice_index, refl}
use Rattle.std.proofs.Common.{ap, ◌∙◌, arith}
use Rattle.std.proofs.Math.Nat.{min-le_right}
use Rattle.base.specs.Choice.{pick, if_eq}
use Rattle.mdf.specs.Walk.{Item, dg, cg, cn, level_cg, tally}
use Rattle.mdf.specs.Group.{groups_of, up_to}
use Rattle.planning.specs.Items.{items_from}
use Rattle.planning.specs.Span.{past_dg}
use Rattle.writing.specs.declared.own.Own.{Own}
use Rattle.writing.specs.declared.own.Known.{Known}
use Rattle.writing.specs.Own.{own_past, own_in, OwnOf, Knows}

-- ---- few
pub length_from : (w : List ℕ) (i n : ℕ) → length (items_from w i n) ≡ n
unfolding items_from
length_from w i zero = refl
length_from w i (suc n) = ap suc (length_from w (i + 1) n)

pick-within : (t : Bool) (a b e : ℕ) → a ≤ e → b ≤ e → pick t a b ≤ e
pick-within true a b e h k = h
pick-within false a b e h k = k

past-within : (d k : ℕ) (is : List Item) → past_dg d k is ≤ k + length is
unfolding past_dg if_eq
past-within d k [] = omega arith
past-within d k (dg a n ∷ is) =
    let h = past-within d (k + 1) is in
    pick-within (a == d) (k + 1) (past_dg d (k + 1) is) (k + suc (length is)) (omega arith) (omega arith)
past-within d k (cg a ∷ is) = let h = past-within d (k + 1) is in omega arith
past-within d k (cn a ∷ is) = let h = past-within d (k + 1) is in omega arith

tally-within : (is : List Item) → tally level_cg.own is ≤ length is
unfolding tally
tally-within [] = omega arith
tally-within (dg a n ∷ is) = let h = tally-within is in omega arith
tally-within (cg a ∷ is) = let h = tally-within is in omega arith
tally-within (cn a ∷ is) = let h = tally-within is in omega arith

groups_within : (is : List Item) → length (groups_of is) ≤ length is
unfolding groups_of
groups_within [] = omega arith
groups_within (dg a n ∷ is) = omega arith
groups_within (cg a ∷ is) = let h = groups_within is in omega arith
groups_within (cn a ∷ is) = let h = groups_within is in omega arith

pub past-few : (w : List ℕ) (n d : ℕ) {i : ℕ} → i ≡ past_dg d 0 (items_from w 0 (min n 1536)) → i ≤ 1536
past-few w n d e =
    let h = past-within d 0 (items_from w 0 (min n 1536)) in
    let l = length_from w 0 (min n 1536) in
    let m = min-le_right n 1536 in
    omega arith

-- ---- found
pub own_is : (w : List ℕ) (n nf d : ℕ) {i u e m t b f g : ℕ} → i ≡ past_dg d 0 (items_from w 0 (min n 1536))
    → u ≡ up_to nf (items_from w i (min n 1536 - i)) → e ≡ min u nf → m ≡ slice_index w (1535 + i) → t ≡ m - 2 → b ≡ min t e
    → f ≡ tally level_cg.own (items_from w 0 (min i (min n 1536))) → g ≡ length (groups_of (items_from w i (min n 1536 - i)))
    → OwnOf w n nf d (record { begin = b; end = e; first = f; groups = g })
unfolding own_in own_past
own_is w n nf d {i} {u} {e} {m} {t} {b} {f} {g} p q x y z v k l =
    let a = min-le_right n 1536 in
    let h = min-le_right i (min n 1536) in
    let c = length_from w 0 (min i (min n 1536)) in
    let r = length_from w i (min n 1536 - i) in
    let j = tally-within (items_from w 0 (min i (min n 1536))) in
    let o = groups_within (items_from w i (min n 1536 - i)) in
    let ee : e ≡ min (up_to nf (items_from w i (min n 1536 - i))) nf = x ∙ rw q in
    let bb : b ≡ min (slice_index w (1535 + i) - 2) (min (up_to nf (items_from w i (min n 1536 - i))) nf) = v ∙ rw (z, y, ee) in
    let be : b ≤ e = rw v (min-le_right t e) in
    let en : e ≤ nf = rw x (min-le_right u nf) in
    record {
      is = rw (← p, bb, ee, k, l);
      ordered = be;
      within = en;
      before = omega arith;
      few = omega arith;
    }

-- ---- what is known of two DG
module _ {w : List ℕ} {n nf : ℕ} {k : Known} {d : ℕ} (t : Knows w n nf k) where
  pub know_again : k.parent ≡ d → Knows w n nf k × OwnOf w n nf d k.own
  know_again e = (t, rw e at t.last)

  pub know_other : k.before ≡ d
      → Knows w n nf (record { parent = d; own = k.other; before = k.parent; other = k.own }) × OwnOf w n nf d k.other
  know_other e = let o : OwnOf w n nf d k.other = rw e at t.earlier in (record { last = o; earlier = t.last }, o)

  pub know_new : {o : Own} → OwnOf w n nf d o
      → Knows w n nf (record { parent = d; own = o; before = k.parent; other = k.own }) × OwnOf w n nf d o
  know_new q = (record { last = q; earlier = t.last }, q)
