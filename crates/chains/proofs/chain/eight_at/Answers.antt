-- The eight bytes are those from p on.
use Rattle.std.proofs.Common.{arith, take, drop, length, ◌≡◌, ◌+◌, ◌-◌, ◌∙◌, length-take, length-drop}
use Rattle.std.proofs.lemmas.List.{get_or-drop, get_or-take}
use Rattle.std.proofs.Math.ListN.{get_or-eq_default}
use Rattle.fields.proofs.Bytes.{field_of}
use Rattle.chains.proofs.chain.eight_at.Goals as goal

pub returns : goal.returns
returns c =
    let s = c.args.s.now in
    let p = c.args.p in
    let xs = c.copy_from_slice.new.self in
    let n : p + 8 - p ≡ 8 = omega arith in
    let is : xs ≡ take 8 (drop p s) = rw n at c.copy_from_slice.ensures.after in
    let l : length xs ≡ 8 = rw is (simp (length-take, length-drop) (omega (arith, c.requires))) in
    field_of 8 xs s p _ (omega arith) (λ i. omega (arith, c.type_inv.s i))
    (λ i k. rw is (get_or-take 8 (drop p s) i 0 k ∙ get_or-drop p s i 0))
    (λ i k. get_or-eq_default xs 0 (omega (arith, l, k))) c.from_le_bytes.ensures
