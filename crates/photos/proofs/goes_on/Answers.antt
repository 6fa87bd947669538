-- Each way through the checks is a way through the definition.
use Rattle.fields.specs.AnswerLaws.{passed_on}
use Rattle.blocks.specs.AnswerLaws.{so_fine, so_refused}
use Rattle.photos.specs.FollowedLaws.{goes_none, goes_met, goes_header, goes_other, goes_refused, goes_full, goes_on_lem}
use native.Mathlib.Omega.{arith}
use Rattle.photos.proofs.goes_on.Goals as goal

pub returns-then-a-eq0 : goal.returns-then-a-eq0
returns-then-a-eq0 c = goes_none _ _ _ _ c.if-a-eq0.true

pub returns-then-met : goal.returns-then-met
returns-then-met c = goes_met _ _ _ _ c.if-a-eq0.false c.if-met.true

pub returns-in_err-header_in : goal.returns-in_err-header_in
returns-in_err-header_in c = rw (passed_on _ _ c.from_residual.ensures) (goes_header _ _ _ _ c.if-a-eq0.false c.if-met.false (so_refused c.header_in.ensures c.in_err-header_in.was))

pub returns-then-kind_at-ne-AT : goal.returns-then-kind_at-ne-AT
returns-then-kind_at-ne-AT c = goes_other _ _ _ _ c.if-a-eq0.false c.if-met.false (so_fine c.header_in.ensures c.in_ok-header_in.was) (omega arith)

pub returns-in_err-attachment_in : goal.returns-in_err-attachment_in
returns-in_err-attachment_in c = rw (passed_on _ _ c.from_residual-in_err-attachment_in.ensures) (goes_refused _ _ _ _ c.if-a-eq0.false c.if-met.false (so_fine c.header_in.ensures c.in_ok-header_in.was) (omega arith) (so_refused c.attachment_in.ensures c.in_err-attachment_in.was))

pub returns-then-n-lt64 : goal.returns-then-n-lt64
returns-then-n-lt64 c = goes_on_lem _ _ _ _ c.if-a-eq0.false c.if-met.false (so_fine c.header_in.ensures c.in_ok-header_in.was) (omega arith) (so_fine c.attachment_in.ensures c.in_ok-attachment_in.was) c.if-n-lt64.true

pub returns : goal.returns
returns c = goes_full _ _ _ _ c.if-a-eq0.false c.if-met.false (so_fine c.header_in.ensures c.in_ok-header_in.was) (omega arith) (so_fine c.attachment_in.ensures c.in_ok-attachment_in.was) c.if-n-lt64.false
