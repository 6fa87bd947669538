-- Each way out is one case of the definition.
use native.Mathlib.Omega.{arith}
use Rattle.reading.specs.DataLaws.{id_small, id_four, id_eight, id_other}
use Rattle.reading.proofs.recording.id_size_in.Goals.{
  then-size-lt3-via-then-size-lt3,
  then-size-lt3-via-else-size-lt3+then-size-eq4,
  then-size-lt3-via-else-size-lt3+else-size-eq4+then-size-eq8,
}
use Rattle.reading.proofs.recording.id_size_in.Goals as goal

pub returns-then-size-lt3 : goal.returns-then-size-lt3
returns-then-size-lt3 c = elim c.then-size-lt3.branch [
  | then-size-lt3-via-then-size-lt3 w ↦ id_small _ _ c.id_size-size.ensures (omega arith)
  | then-size-lt3-via-else-size-lt3+then-size-eq4 w ↦ id_four _ _ c.id_size-size.ensures (omega arith)
  | then-size-lt3-via-else-size-lt3+else-size-eq4+then-size-eq8 w ↦ id_eight _ _ c.id_size-size.ensures (omega arith)
]

pub returns : goal.returns
returns c = id_other _ _ c.id_size-size.ensures (omega arith) (λ h. omega arith) (λ h. omega arith)
