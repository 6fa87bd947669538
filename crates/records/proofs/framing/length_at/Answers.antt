-- Four bytes, the lowest first.
use Rattle.records.specs.FrameLaws.{four_bytes}
use native.Mathlib.Omega.{arith}
use Rattle.records.proofs.framing.length_at.Goals as goal

pub returns : goal.returns
returns c =
    record {
      is = four_bytes _ c.byte_at-a.ensures.is c.byte_at-b.ensures.is
          c.byte_at-c.ensures.is c.byte_at-d.ensures.is;
      small = omega arith;
    }
