-- A DG or not.
use Rattle.std.proofs.Common.{arith}
use Rattle.ranges.specs.OpenLaws.{item-dg, item-other}
use Rattle.ranges.proofs.open.item_range.Goals as goal

pub returns-then-mark-lt2 : goal.returns-then-mark-lt2
returns-then-mark-lt2 c = item-other _ _ _ (omega arith)

pub returns : goal.returns
returns c = item-dg _ _ _ (omega arith) c.link_at.ensures c.chain_ranges.ensures
