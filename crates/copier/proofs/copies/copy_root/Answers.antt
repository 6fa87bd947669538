-- With no block on the way down the depth left is 65.
use Rattle.copier.specs.TurnLaws.{root_copied, root_after}
use Rattle.copier.proofs.copies.copy_root.Goals as goal

pub returns : goal.returns
returns c =
    let a = c.args in record {
      copied = root_copied _ _ _ _ c.copy.ensures.copied;
      after = root_after a.most a.image.now a.a a.memo.now _ a.state _ c.copy.ensures.copied c.requires.limit c.requires.room;
      indexed = c.copy.ensures.indexed;
    }
