-- What is left of the records, after those counted, gives what the whole gives; the tables are those of the groups.
use Rattle.records.specs.ReadingLaws.{Reading}
use Rattle.records.specs.Table.{Tabled}
use Rattle.records.specs.Ahead.{ahead}
use Rattle.mdf.specs.Records.{joined}
use Prim.Native.Nat.{◌+◌}
use lib.ListN.{length}
use Rattle.records.proofs.several.count_frames.Given as goal

abbrev pub invariant-records : goal.invariant-records
invariant-records l =
    Reading l.image l.n l.groups l.fragments l.initial.counts l.spot.at l.spot.position l.spot.left l.counts × Tabled l.image l.groups l.ids l.sizes

abbrev pub decreases-records : goal.decreases-records
decreases-records l =
    length (joined l.image (ahead l.image l.fragments l.spot.at l.spot.position l.spot.left)) + length (ahead l.image l.fragments l.spot.at l.spot.position l.spot.left)
