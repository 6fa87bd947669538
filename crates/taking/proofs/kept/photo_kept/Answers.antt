-- A column that is taken out may refer to any; another is asked.
use Rattle.taking.specs.MarksLaws.{photos_out, photos_stay}
use Rattle.taking.proofs.kept.photo_kept.Goals as goal

pub returns-then-marks-k : goal.returns-then-marks-k
returns-then-marks-k c = λ ns r. photos_out _ _ _ _ (r.is _) c.if-marks-k.true

pub returns : goal.returns
returns c = λ ns r. photos_stay _ _ _ _ (r.is _) c.if-marks-k.false c.channel.ensures c.photos_in.ensures
