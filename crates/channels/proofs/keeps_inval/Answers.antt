-- The three tests are those of the definition.
use native.Mathlib.Omega.{arith}
use borrow.Author.Tests.{ne_eqb}
use Rattle.channels.specs.ChannelLaws.{kept_not-0, kept_not-1, kept_by_lem}
use Rattle.channels.proofs.keeps_inval.Goals as goal

pub returns-then-flags-ne0 : goal.returns-then-flags-ne0
returns-then-flags-ne0 c = kept_not-0 _ _ _ c.channel_flags-flags.ensures.is (omega arith)

pub returns-else-flags-eq1 : goal.returns-else-flags-eq1
returns-else-flags-eq1 c = rw (ne_eqb _ 1 c.if-flags-eq1.false) (kept_not-1 _ _ _ c.channel_flags-flags.ensures.is (omega arith) (omega arith))

pub returns-then-flags-eq1 : goal.returns-then-flags-eq1
returns-then-flags-eq1 c =
    kept_by_lem _ _ _ c.channel_flags-flags.ensures.is (omega arith) (omega arith)
    c.inval_position.ensures.is c.inval_bytes_of.ensures.is
