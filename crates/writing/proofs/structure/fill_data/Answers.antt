-- Over what is lent, past the references.
use Rattle.writing.specs.StructureLaws.{filled_data}
use Rattle.std.proofs.Common.{rules}
use Rattle.writing.proofs.structure.fill_data.Goals as goal

pub returns : goal.returns
returns c = filled_data _ c.args.h _ _ _ c.put_cn_data.ensures c.keeps_inval-keeps.ensures
