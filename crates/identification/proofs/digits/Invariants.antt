-- The digits left, after the value of those passed, give what all of them give.
use Rattle.std.specs.Prelude.{◌≡◌, ◌≤◌, drop}
use Rattle.mdf.specs.Identification.{digits_from, digits}
use Rattle.identification.proofs.digits.Given as goal

abbrev pub invariant-loop-b : goal.invariant-loop-b
invariant-loop-b l = (l.n ≤ 65535) × (digits_from l.n (drop l.b-index l.text) ≡ digits l.text)
