-- A `+` in front is passed; the digits give the number.
use Rattle.std.proofs.Common.{arith, take, drop, length, ◌≡◌, ◌-◌, length-drop}
use Rattle.std.proofs.lemmas.List.{take_all}
use Rattle.identification.specs.IdentificationLaws.{number-none, number_plus, number-plain}
use Rattle.identification.proofs.number.Goals as goal

pub returns-then-is_empty : goal.returns-then-is_empty
returns-then-is_empty c = number-none _ (grind arith)

pub returns-then-text-eq43 : goal.returns-then-text-eq43
returns-then-text-eq43 c =
    let s = c.args.text.now in
    let whole : take (length s - 1) (drop 1 s) ≡ drop 1 s = take_all _ _ (simp length-drop (omega arith)) in
    number_plus s (grind arith) (rw whole at c.digits.ensures) c.if-text-eq43.true

pub returns : goal.returns
returns c = number-plain c.args.text.now (grind arith) c.digits-2.ensures c.if-text-eq43.false
