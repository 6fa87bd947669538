use Rattle.std.proofs.Common.{arith, rules, refl}
use Rattle.window_structure.specs.LayingLaws.{columns_turn, columns-past, columns_end}
use Rattle.window_structure.proofs.lay_columns.Goals as goal

pub loop-k-init : goal.loop-k-init
loop-k-init c = (refl, λ g q l t. t)

pub past-requires : goal.past-requires
past-requires c = (omega (arith, c.requires), c.args.copied.now.long)

pub returns-then-past : goal.returns-then-past
returns-then-past c = λ g q l t. columns-past (c.loop-k.invariant.1 g q l t) c.loop-k-test.true (c.past.ensures c.if-past.true)

pub lay_column-requires : goal.lay_column-requires
lay_column-requires c = c.column_at-h.ensures.0

pub loop-k-preserved : goal.loop-k-preserved
loop-k-preserved c = (
  search rules,
  λ g q l t. columns_turn (c.loop-k.invariant.1 g q l t) c.loop-k-test.true (c.column_at-h.ensures.1 q c.loop-k-test.true l) (c.place_after-next.ensures c.requires c.args.copied.now.long) c.lay_column.ensures,
)

pub returns : goal.returns
returns c = λ g q l t. columns_end (c.loop-k.invariant.1 g q l t) (omega arith)
