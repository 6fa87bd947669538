-- One block after the other.
use Rattle.std.proofs.Common.{arith, rules}
use Rattle.writing.specs.StructureLaws.{length-column_dg, length-column_cg, length-column_cn, past_one, wrote_column}
use Rattle.writing.proofs.structure.write_column.Goals as goal

pub write_dg-a-requires : goal.write_dg-a-requires
write_dg-a-requires c = let r = c.requires.0 in (omega arith, omega arith, omega arith, c.requires.1)

pub write_cg-b-requires : goal.write_cg-b-requires
write_cg-b-requires c = (
  omega (arith, past_one _ 64 c.write_dg-a.ensures (length-column_dg _ _ _ _)),
  c.requires.0.cn,
  omega (arith, c.requires.0.ends, c.write_dg-a.auto.out),
  c.requires.0.group,
  c.requires.1,
)

pub write_cn-past-requires : goal.write_cn-past-requires
write_cn-past-requires c = (
  omega (arith, c.requires.0.cn, past_one _ _ c.write_cg-b.ensures (length-column_cg _ _ _ c.requires.0.group)),
  omega (arith, c.requires.0.ends, c.write_dg-a.auto.out, c.write_cg-b.auto.out),
  c.requires.0.channel,
  c.requires.1,
  c.requires.2,
  c.requires.3,
  c.requires.4,
)

pub write_dl-requires : goal.write_dl-requires
write_dl-requires c = (
  omega (arith, past_one _ _ c.write_cn-past.ensures (length-column_cn _ _ _ _ c.requires.0.channel)),
  omega (arith, c.requires.0.ends, c.write_dg-a.auto.out, c.write_cg-b.auto.out, c.write_cn-past.auto.out),
)

pub returns : goal.returns
returns c = wrote_column _ _ _ c.requires.0 c.write_dg-a.ensures c.write_cg-b.ensures c.write_cn-past.ensures c.write_dl.ensures
