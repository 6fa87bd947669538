-- What is left of the text has a byte over 127 where the whole has.
use Rattle.std.specs.Prelude.{◌≡◌, drop}
use Rattle.mdf.specs.Identification.{is_ascii}
use Rattle.identification.proofs.is_ascii.Given as goal

abbrev pub invariant-loop-b : goal.invariant-loop-b
invariant-loop-b l = is_ascii (drop l.b-index l.text) ≡ is_ascii l.text
