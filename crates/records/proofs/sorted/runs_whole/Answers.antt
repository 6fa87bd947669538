-- What is left of the check, with the run passed so far in front, gives what the whole gives.
use Rattle.records.specs.RunLaws.{pass_begin, pass_in, pass_straddle, pass_on, pass_end, pass_early}
use mathlib.Core.Path.{sym, ◌∙◌}
use native.Mathlib.Omega.{arith}
use Rattle.records.proofs.sorted.runs_whole.Goals as goal

pub loop-i-init : goal.loop-i-init
loop-i-init c = (omega arith, omega arith, pass_begin _ c.requires)

pub returns-then-straddles_in : goal.returns-then-straddles_in
returns-then-straddles_in c =
    pass_straddle _ _ _ _ _ _ _ (omega arith) c.loop-i.dv _
    c.loop-i.invariant.2 c.is_dv-kind.ensures (sym c.straddles_in.ensures
    ∙ c.if-straddles_in.true)

pub start_of-start-requires : goal.start_of-start-requires
start_of-start-requires c =
    let h = pass_in _ _ _ _ _ _ _ (omega arith) _
    c.loop-i.invariant.2 in let
    p = c.word_at-size.ensures in let q = c.word_at.ensures in omega arith

pub loop-i-preserved : goal.loop-i-preserved
loop-i-preserved c = (
  omega arith,
  c.remaining-bytes.ensures.small,
  pass_on _ _ _ _ _ _ _ (omega arith)
      c.loop-i.dv _
      c.loop-i.invariant.2
      c.is_dv-kind.ensures
      (sym c.straddles_in.ensures
      ∙ c.if-straddles_in.false) c.record_size.ensures.is
      c.word_at.ensures c.word_at-size.ensures
      c.remaining-bytes.ensures.is
      c.start_of-start.ensures,
)

pub returns-then-bytes-gt0 : goal.returns-then-bytes-gt0
returns-then-bytes-gt0 c = pass_early _ _ _ _ _ _ _ _ c.loop-i.invariant.2 (omega arith) c.if-bytes-gt0.true

pub returns : goal.returns
returns c = pass_end _ _ _ _ _ _ _ _ c.loop-i.invariant.2 (omega arith) (omega arith)
