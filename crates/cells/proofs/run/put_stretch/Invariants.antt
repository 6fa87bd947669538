-- Each turn puts a run of records, or one that lies in several fragments; the numbers agree whatever the image is.
use mathlib.Core.Path.{◌≡◌}
use lib.ListN.{length}
use Rattle.base.specs.Blit.{blit}
use Rattle.mdf.specs.Records.{joined, size_of}
use Rattle.work_words.specs.Words.{fragments_of}
use Rattle.result.specs.Payload.{cells}
use Rattle.places.specs.Stretch.{records_at, spaced}
use Rattle.joined.specs.Spot.{SpotOf}
use Rattle.cells.specs.Strided.{Lying}
use Rattle.cells.specs.Spot.{Readable, Roomy}
use Rattle.cells.specs.SpotLaws.{Stretching}
use Rattle.cells.proofs.run.put_stretch.Given as goal

abbrev pub invariant-loop-left : goal.invariant-loop-left
invariant-loop-left l =
    Roomy l.h (length l.initial.out) l.index l.at l.stride l.left × (length l.out ≡ length l.initial.out)
    × (Readable l.image l.fragments l.h → SpotOf l.image l.fragments l.initial.k → Lying (size_of (fragments_of l.fragments)) l.h.length l.first l.stride l.n
    → Stretching l.image l.fragments l.h l.stride l.at l.index l.left l.k l.out
    (blit l.to (cells l.image l.h.group l.h.channel (records_at (joined l.image (fragments_of l.fragments)) l.h.length (spaced l.first l.stride l.n))) l.initial.out))

abbrev pub decreases-loop-left : goal.decreases-loop-left
decreases-loop-left l = l.left
