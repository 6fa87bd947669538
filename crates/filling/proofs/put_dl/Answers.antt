-- Header, links and data, one after the other; lengths have at most wrapped.
use Rattle.filling.specs.BlocksLaws.{dl-laid}
use Rattle.std.proofs.Common.{refl}
use Rattle.filling.proofs.put_dl.Goals as goal

pub returns : goal.returns
returns c = dl-laid _ _ _ _ _ _ _ _ _ _
    c.dl_size.ensures
    refl
    c.header.ensures
    c.put_u64.ensures
    c.put_links.ensures c.put_dl_past.ensures
