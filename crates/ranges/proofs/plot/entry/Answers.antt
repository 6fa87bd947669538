-- The column is refused, the bytes leave the destination, or they are filled in.
use Rattle.std.proofs.Common.{rules}
use Rattle.fields.specs.AnswerLaws.{passed_on}
use Rattle.ranges.specs.Turn.{entry_of}
use Rattle.ranges.specs.EntryLaws.{entry_refused, entry_lies, entry_past, entry_fills, entry-filled, entry-none}
use Rattle.ranges.proofs.plot.entry.Goals as goal

pub returns-in_err-granted : goal.returns-in_err-granted
returns-in_err-granted c = rw (passed_on _ _ c.from_residual.ensures) (entry_refused c.args.image.now (entry_of c.args.request) c.args.destination.now c.ask_opened.ensures c.in_err-granted.was)

pub returns-then-not-lie : goal.returns-then-not-lie
returns-then-not-lie c = entry_past c.args.image.now (entry_of c.args.request) c.args.destination.now c.ask_opened.ensures c.in_ok-granted.was c.record_bytes-w.ensures.is c.lie.ensures c.if-not-lie.true

pub overflow_mul-to : goal.overflow_mul-to
overflow_mul-to c = search (rules, entry_lies c.args.image.now (entry_of c.args.request) c.args.destination.now c.ask_opened.ensures c.in_ok-granted.was c.record_bytes-w.ensures.is c.lie.ensures c.if-not-lie.false)

pub overflow_add-to : goal.overflow_add-to
overflow_add-to c = search (rules, entry_lies c.args.image.now (entry_of c.args.request) c.args.destination.now c.ask_opened.ensures c.in_ok-granted.was c.record_bytes-w.ensures.is c.lie.ensures c.if-not-lie.false)

pub slice_bounds-fill-end : goal.slice_bounds-fill-end
slice_bounds-fill-end c = search (rules, entry_lies c.args.image.now (entry_of c.args.request) c.args.destination.now c.ask_opened.ensures c.in_ok-granted.was c.record_bytes-w.ensures.is c.lie.ensures c.if-not-lie.false)

pub fill-requires : goal.fill-requires
fill-requires c = entry_fills c.args.image.now (entry_of c.args.request) c.args.destination.now c.ask_opened.ensures c.in_ok-granted.was c.record_bytes-w.ensures.is c.lie.ensures c.if-not-lie.false c.record_bytes-w.ensures.small c.if-from-to.true

pub returns-then-from-to : goal.returns-then-from-to
returns-then-from-to c = entry-filled c.args.image.now (entry_of c.args.request) c.args.destination.now c.ask_opened.ensures c.in_ok-granted.was c.record_bytes-w.ensures.is c.lie.ensures c.if-not-lie.false c.fill.ensures

pub returns-else-from-to : goal.returns-else-from-to
returns-else-from-to c = entry-none c.args.image.now (entry_of c.args.request) c.args.destination.now c.ask_opened.ensures c.in_ok-granted.was c.record_bytes-w.ensures.is c.lie.ensures c.if-not-lie.false c.if-from-to.false
