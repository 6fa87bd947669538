-- Header, text and zeros, one after the other; the length has at most wrapped.
use Rattle.std.proofs.Common.{refl}
use Rattle.filling.specs.BlocksLaws.{md_laid}
use Rattle.filling.proofs.put_md.Goals as goal

pub returns : goal.returns
returns c = md_laid _ _ _ _ _ _ _ refl
    refl
    c.header.ensures
    c.copy.ensures c.put_padding.ensures
