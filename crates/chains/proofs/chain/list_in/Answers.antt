-- The refusal of the length is passed on; then the limit decides.
use Rattle.fields.specs.AnswerLaws.{passed_on}
use Rattle.chains.specs.TurnLaws.{list_refused, list-fine, list_full}
use native.Mathlib.Omega.{arith}
use Rattle.chains.proofs.chain.list_in.Goals as goal

pub returns-in_err-length_in : goal.returns-in_err-length_in
returns-in_err-length_in c = rw (passed_on _ _ c.from_residual.ensures) (list_refused _ _ _ _ _ c.length_in.ensures c.in_err-length_in.was)

pub returns-then-k-lt256 : goal.returns-then-k-lt256
returns-then-k-lt256 c = list-fine _ _ _ _ _ c.length_in.ensures c.in_ok-length_in.was (omega arith)

pub returns : goal.returns
returns c = list_full _ _ _ _ _ c.length_in.ensures c.in_ok-length_in.was (omega arith)
