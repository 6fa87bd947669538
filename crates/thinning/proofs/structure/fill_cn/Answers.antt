-- Its front, its references, its data.
use Rattle.thin.specs.Fill.{kept_data}
use Rattle.thinning.specs.StructureLaws.{filled-cn}
use borrow.Author.Rules.{rules}
use Rattle.thinning.proofs.structure.fill_cn.Goals as goal

pub returns : goal.returns
unfolding kept_data
returns c = filled-cn _ _ _ _ _ _ _ _
    c.fill_front.ensures
    (c.put_photos.ensures
    c.requires.photos c.args.led.now.few c.args.led.now.long)
    c.put_cut_data.ensures
