-- Each turn puts the records of one fragment that follow each other, or one that lies in several.
use Prim.Native.Nat.{◌-◌}
use Rattle.cells.specs.GatheredLaws.{Running}
use Rattle.cells.proofs.gathered.put_words.Given as goal

abbrev pub invariant-loop-count : goal.invariant-loop-count
invariant-loop-count l =
    Running l.image l.fragments l.h l.words l.size l.from l.to l.n l.count l.index l.initial.k l.k l.initial.out l.out

abbrev pub decreases-loop-count : goal.decreases-loop-count
decreases-loop-count l = l.n - l.count
