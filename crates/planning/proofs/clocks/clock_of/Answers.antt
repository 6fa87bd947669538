-- The number is the way from the DG's first group.
use Rattle.std.proofs.Common.{◌≡◌, ◌+◌, ◌-◌}
use Rattle.planning.specs.Clocks.{clock_of}
use borrow.Author.Rules.{rules}
use Rattle.planning.proofs.clocks.clock_of.Goals as goal

pub returns : goal.returns
unfolding clock_of
returns c = let e : c.saturating_sub.result ≡ 3072 + c.args.j - c.args.e.groups = search rules in rw e
