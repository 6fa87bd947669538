-- 22, 23, or the column.
use Rattle.std.proofs.Common.{arith}
use Rattle.ranges.specs.ReadLaws.{ask-22, ask-23, ask_column}
use Rattle.ranges.proofs.read.ask_opened.Goals.{then-all-first-via-then-all-first, then-all-first-via-else-all-first+then-all-first-2}
use Rattle.ranges.proofs.read.ask_opened.Goals as goal

pub returns-then-source-column : goal.returns-then-source-column
returns-then-source-column c = ask-22 c.args.image.now c.args.source.now c.args.column c.args.first c.args.count c.requires c.if-source-column.true

pub returns-then-all-first : goal.returns-then-all-first
returns-then-all-first c = elim c.then-all-first.branch [
  | then-all-first-via-then-all-first w ↦
      ask-23 c.args.image.now c.args.source.now c.args.column c.args.first c.args.count c.requires (omega arith) c.cycles_of-all.ensures (omega arith)
  | then-all-first-via-else-all-first+then-all-first-2 w ↦
      ask-23 c.args.image.now c.args.source.now c.args.column c.args.first c.args.count c.requires (omega arith) c.cycles_of-all.ensures (omega arith)
]

pub returns : goal.returns
returns c = ask_column c.args.image.now c.args.source.now c.args.column c.args.first c.args.count c.requires (omega arith) c.cycles_of-all.ensures (omega arith)
