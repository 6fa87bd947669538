-- The count, or 0 where it is refused, is the one word.
use Rattle.records.specs.SeveralLaws.{alone_refused, alone-counted}
use Rattle.records.specs.CountLaws.{so_over, so_counted}
use mathlib.Core.Path.{refl}
use Rattle.records.proofs.several.count_alone.Goals as goal

pub returns-in-Ok : goal.returns-in-Ok
returns-in-Ok c = alone-counted _ _ _ _ _ refl c.requires (so_counted c.count_one.ensures c.in-Ok.is) c.put.ensures

pub returns-in-Err : goal.returns-in-Err
returns-in-Err c = alone_refused _ _ _ _ _ refl c.requires (so_over c.count_one.ensures c.in-Err.is) c.put-in-Err.ensures
