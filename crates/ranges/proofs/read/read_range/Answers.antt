-- A refusal, another length, no bytes, or the bytes.
use Rattle.std.proofs.Common.{arith, sym, ◌∙◌, eqb-true}
use Rattle.std.proofs.lemmas.Bool.{eqb-false}
use Rattle.fields.specs.AnswerLaws.{passed_on}
use Rattle.ranges.specs.ReadLaws.{read_refused, read_short, read_fills, read_copied, read_empty}
use Rattle.ranges.proofs.read.read_range.Goals as goal

pub returns-in_err-granted : goal.returns-in_err-granted
returns-in_err-granted c = rw (passed_on _ _ c.from_residual.ensures) (read_refused _ _ _ _ c.args.buffer.now c.ask.ensures c.in_err-granted.was)

pub returns-then-not-fits : goal.returns-then-not-fits
returns-then-not-fits c = read_short _ _ _ _ c.args.buffer.now c.ask.ensures c.in_ok-granted.was c.record_bytes-w.ensures.is c.fits.ensures c.if-not-fits.true

pub fill-requires : goal.fill-requires
fill-requires c = read_fills _ _ _ _ c.args.buffer.now c.ask.ensures c.in_ok-granted.was c.record_bytes-w.ensures.is c.fits.ensures c.if-not-fits.false c.record_bytes-w.ensures.small
    (let z = eqb-false _ _ (sym c.is_empty.ensures ∙ c.if-not-is_empty.true) in omega (arith, z))

pub returns-then-not-is_empty : goal.returns-then-not-is_empty
returns-then-not-is_empty c = read_copied _ _ _ _ c.args.buffer.now c.ask.ensures c.in_ok-granted.was c.record_bytes-w.ensures.is c.fits.ensures c.if-not-fits.false c.fill.ensures

pub returns-else-not-is_empty : goal.returns-else-not-is_empty
returns-else-not-is_empty c = read_empty _ _ _ _ c.args.buffer.now c.ask.ensures c.in_ok-granted.was c.record_bytes-w.ensures.is c.fits.ensures c.if-not-fits.false
    (let z = eqb-true _ _ (sym c.is_empty.ensures ∙ c.if-not-is_empty.false) in omega (arith, z))
