-- The refusals of both checks are passed on; then the kind.
use Rattle.fields.specs.AnswerLaws.{passed_on}
use Rattle.taking.specs.SoundLaws.{signal_header, signal_length, signal_sd, signal_other}
use Rattle.taking.proofs.sound.is_signal.Goals as goal

pub returns-in_err-header_in : goal.returns-in_err-header_in
returns-in_err-header_in c = rw (passed_on _ _ c.from_residual.ensures) (signal_header _ _ c.header_in.ensures c.in_err-header_in.was)

pub returns-in_err-length_in : goal.returns-in_err-length_in
returns-in_err-length_in c = rw (passed_on _ _ c.from_residual-in_err-length_in.ensures) (signal_length _ _ c.header_in.ensures c.in_ok-header_in.was c.length_in.ensures c.in_err-length_in.was)

pub returns-then-kind_at-eq-SD : goal.returns-then-kind_at-eq-SD
returns-then-kind_at-eq-SD c = signal_sd _ _ c.header_in.ensures c.in_ok-header_in.was c.length_in.ensures c.in_ok-length_in.was c.kind_at.ensures c.if-kind_at-eq-SD.true

pub returns : goal.returns
returns c = signal_other _ _ c.header_in.ensures c.in_ok-header_in.was c.length_in.ensures c.in_ok-length_in.was c.kind_at.ensures c.if-kind_at-eq-SD.false
