-- The two tests are those of the definition.
use native.Mathlib.Omega.{arith}
use borrow.Author.Tests.{lt-leb}
use Rattle.channels.specs.ChannelLaws.{fits_not, fits_by}
use Rattle.channels.proofs.fits_in.Goals as goal

pub returns-then-bit_offset-le7 : goal.returns-then-bit_offset-le7
returns-then-bit_offset-le7 c =
    fits_by _ _ _ c.bit_offset.ensures.is (omega arith)
    c.byte_offset.ensures.is c.channel_bytes.ensures.is c.samples_of.ensures.is

pub returns-else-bit_offset-le7 : goal.returns-else-bit_offset-le7
returns-else-bit_offset-le7 c = rw (lt-leb _ 7 c.if-bit_offset-le7.false) (fits_not _ _ _ c.bit_offset.ensures.is (omega arith))
