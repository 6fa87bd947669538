-- Each loop is a level of the walk: what is left of it gives what the whole of it gives, and the words hold what was met.
use Prim.Native.Nat.{◌-◌}
use Rattle.mdf.specs.Walk.{level_dg, level_cg, level_cn, below_dg, below_cg, below_cn, most_items}
use Rattle.chains.specs.Node.{limits_for}
use Rattle.index.specs.Index.{Indexed}
use Rattle.reading.specs.Held.{state}
use Rattle.reading.specs.LevelLaws.{Turn}
use Rattle.reading.proofs.recording.walk_from.Given as goal

abbrev pub invariant-channels : goal.invariant-channels
invariant-channels l =
    Turn level_cn (below_cn l.image) l.image l.initial.cn (state l.initial.source l.fragments l.initial.n l.ndg l.ncg l.initial.ncn l.nf) l.cn l.ncn (state l.source l.fragments l.n l.ndg l.ncg
    l.ncn l.nf) × Indexed 1 l.source l.n l.index

abbrev pub decreases-channels : goal.decreases-channels
decreases-channels l = most_items - l.ncn

abbrev pub invariant-groups : goal.invariant-groups
invariant-groups l =
    Turn level_cg (below_cg l.image) l.image l.initial.cg (state l.initial.source l.fragments l.initial.n l.ndg l.initial.ncg l.initial.ncn l.nf) l.cg l.ncg (state l.source l.fragments l.n l.ndg l.ncg
    l.ncn l.nf) × Indexed 1 l.source l.n l.index

abbrev pub decreases-groups : goal.decreases-groups
decreases-groups l = most_items - l.ncg

abbrev pub invariant-walk : goal.invariant-walk
invariant-walk l =
    Turn level_dg (below_dg (limits_for l.file) l.image) l.image l.initial.dg (state l.initial.source l.initial.fragments l.initial.n l.initial.ndg l.initial.ncg l.initial.ncn l.initial.nf) l.dg l.ndg (state l.source l.fragments l.n l.ndg
    l.ncg l.ncn l.nf) × Indexed 1 l.source l.n l.index

abbrev pub decreases-walk : goal.decreases-walk
decreases-walk l = most_items - l.ndg
