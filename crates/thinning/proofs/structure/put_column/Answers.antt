-- One block after the other.
use Rattle.thinning.specs.StructureLaws.{put_parts}
use borrow.Author.Rules.{rules}
use Rattle.thinning.proofs.structure.put_column.Goals as goal

pub returns : goal.returns
returns c = put_parts _ _ _ _ _ _ _ _ _ _
    c.put_dg.ensures
    c.put_cg.ensures
    c.put_channel.ensures c.put_list.ensures
