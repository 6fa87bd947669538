-- Each loop is a level of the walk: what is left of it gives what the whole of it gives, and the words hold what was met.
use borrow.Author.Rules.{rules}
use native.Mathlib.Omega.{arith}
use Prim.Native.Nat.{◌-◌}
use mathlib.Core.Path.{refl}
use Rattle.mdf.specs.Walk.{level_dg, level_cg, level_cn, below_dg, below_cg, below_cn, most_items}
use Rattle.chains.specs.Node.{limits_for}
use Rattle.chains.specs.TurnLaws.{fragments_for}
use Rattle.index.specs.Index.{Indexed}
use Rattle.reading.specs.Held.{state}
use Rattle.reading.specs.VisitLaws.{index_fine}
use Rattle.reading.specs.HeldLaws.{after-fine, after_refused, after_done, after_stopped, dg_stops, dg-gives, dg-within, cg_stops, cg-gives, cg-within}
use Rattle.reading.specs.HeldLaws.{cn_stops, cn-gives, cn-within, data_stops, data_gives, data_within}
use Rattle.reading.specs.LevelLaws.{Turn, begin, turn_end, turn_stop, turn_on, cn-block, cn-block_stops, cg-block, cg-below_stops, cg-block_stops}
use Rattle.reading.specs.LevelLaws.{dg-block, dg-below_stops, dg_data_stops, dg-block_stops}
use Rattle.reading.specs.WalkedLaws.{within_none, walk-gives, walk_stops}
use Rattle.reading.proofs.recording.walk_from.Goals as goal

pub walk-init : goal.walk-init
walk-init c = (begin _ _ _ _ _ (within_none _ _ c.requires.0), c.requires.1)

pub visit-met-requires : goal.visit-met-requires
visit-met-requires c = let r = c.walk.invariant.0.within in (omega (arith, r), r.long, c.walk.invariant.1)

pub groups-init : goal.groups-init
groups-init c = (
  begin _ _ _ _ _ (data_within _ _ _ _ c.take_data-taken.ensures (after_done _ _ c.in-Ok.is)
      (fragments_for c.args.file) (dg-within _ _ _ c.walk.invariant.0.within c.visit-met.ensures.met (after-fine _ _ c.in_default.is) (omega
      arith))),
  index_fine _ _ _ _ c.visit-met.ensures.indexed c.in_default.is,
)

pub walk-smaller : goal.walk-smaller
walk-smaller c =
    let r = dg-within _ _ _ c.walk.invariant.0.within c.visit-met.ensures.met (after-fine _ _ c.in_default.is)
    (omega arith) in
    omega arith

pub walk-preserved : goal.walk-preserved
walk-preserved c = (
  turn_on c.walk.invariant.0 c.if-dg-eq0.false c.walk.invariant.0.within.dg-room
      (dg-block _ _ _ _ c.link_at-cg.ensures
      (dg-gives _ _ _ c.walk.invariant.0.within c.visit-met.ensures.met (after-fine _ _ c.in_default.is))
      (data_gives _ _ _ _ c.take_data-taken.ensures (after_done _ _ c.in-Ok.is))
      (turn_end c.groups.invariant.0 c.groups-test.false c.groups.invariant.0.within.cg-room))
      c.link_at-dg.ensures (omega arith) c.groups.invariant.0.within (omega arith) (omega arith),
  c.groups.invariant.1,
)

pub met_cg-met-requires : goal.met_cg-met-requires
met_cg-met-requires c = let r = c.groups.invariant.0.within in (omega (arith, r), r.long, c.groups.invariant.1)

pub channels-init : goal.channels-init
channels-init c = (
  begin _ _ _ _ _ (cg-within _ _ _ c.groups.invariant.0.within
      c.met_cg-met.ensures.met (after-fine _ _
      c.in_default-met.is) (omega arith)),
  index_fine _ _ _ _ c.met_cg-met.ensures.indexed c.in_default-met.is,
)

pub groups-smaller : goal.groups-smaller
groups-smaller c =
    let r = cg-within _ _ _ c.groups.invariant.0.within c.met_cg-met.ensures.met
    (after-fine _ _ c.in_default-met.is) (omega arith) in
    omega arith

pub groups-preserved : goal.groups-preserved
groups-preserved c = (
  turn_on c.groups.invariant.0 c.groups-test.true
      c.groups.invariant.0.within.cg-room
      (cg-block _ _ _ c.link_at-cn.ensures
      (cg-gives _ _ _ c.groups.invariant.0.within c.met_cg-met.ensures.met
      (after-fine _ _ c.in_default-met.is))
      (turn_end c.channels.invariant.0 c.channels-test.false c.channels.invariant.0.within.cn-room))
      c.link_at-cg-in-groups.ensures (omega arith) c.channels.invariant.0.within (omega arith) refl,
  c.channels.invariant.1,
)

pub met_cn-met-requires : goal.met_cn-met-requires
met_cn-met-requires c = let r = c.channels.invariant.0.within in (omega (arith, r), r.long, c.channels.invariant.1)

pub channels-smaller : goal.channels-smaller
channels-smaller c =
    let r = cn-within _ _ _ c.channels.invariant.0.within c.met_cn-met.ensures.met (after-fine _
    _ c.in_default-met-2.is) (omega arith) in
    omega arith

pub channels-preserved : goal.channels-preserved
channels-preserved c = (
  turn_on c.channels.invariant.0 c.channels-test.true
      c.channels.invariant.0.within.cn-room
      (cn-block _ _ (cn-gives _ _ _ c.channels.invariant.0.within c.met_cn-met.ensures.met
      (after-fine _ _ c.in_default-met-2.is)))
      c.link_at-cn-in-channels.ensures (omega arith)
      (cn-within _ _ _ c.channels.invariant.0.within c.met_cn-met.ensures.met (after-fine _ _
      c.in_default-met-2.is) (omega arith))
      (omega arith) refl,
  index_fine _ _ _ _ c.met_cn-met.ensures.indexed c.in_default-met-2.is,
)

pub returns-then-dg-eq0 : goal.returns-then-dg-eq0
returns-then-dg-eq0 c = walk-gives _ _ _ _ _ (turn_end c.walk.invariant.0 c.if-dg-eq0.true c.walk.invariant.0.within.dg-room)

pub returns-in-Err : goal.returns-in-Err
returns-in-Err c =
    walk_stops _ _ _ _ _ (turn_stop c.walk.invariant.0 c.if-dg-eq0.false c.walk.invariant.0.within.dg-room
    (dg-block_stops _ _ _ (dg_stops _ _ _ c.walk.invariant.0.within c.visit-met.ensures.met (after_refused _ _
    c.in-Err.is))))

pub returns-in-Err-taken : goal.returns-in-Err-taken
returns-in-Err-taken c =
    walk_stops _ _ _ _ _ (turn_stop c.walk.invariant.0 c.if-dg-eq0.false c.walk.invariant.0.within.dg-room
    (dg_data_stops _ _ _
    (dg-gives _ _ _ c.walk.invariant.0.within c.visit-met.ensures.met (after-fine _ _ c.in_default.is))
    (data_stops _ _ _ _ c.take_data-taken.ensures (after_stopped _ _ c.in-Err-taken.is))))

pub shape_of-source-in-Err-met : goal.shape_of-source-in-Err-met
shape_of-source-in-Err-met c = omega (arith, c.walk.invariant.0.words_same, c.visit-met.auto.source, c.groups.invariant.0.words_same, c.met_cg-met.auto.source)

pub shape_of-fragments-in-Err-met : goal.shape_of-fragments-in-Err-met
shape_of-fragments-in-Err-met c = omega (arith, c.walk.invariant.0.frags_same, c.take_data-taken.auto.fragments, c.groups.invariant.0.frags_same)

pub returns-in-Err-met : goal.returns-in-Err-met
returns-in-Err-met c =
    walk_stops _ _ _ _ _ (turn_stop c.walk.invariant.0 c.if-dg-eq0.false c.walk.invariant.0.within.dg-room
    (dg-below_stops _ _ _ _ c.link_at-cg.ensures
    (dg-gives _ _ _ c.walk.invariant.0.within c.visit-met.ensures.met (after-fine _ _ c.in_default.is))
    (data_gives _ _ _ _ c.take_data-taken.ensures (after_done _ _ c.in-Ok.is))
    (turn_stop c.groups.invariant.0 c.groups-test.true
    c.groups.invariant.0.within.cg-room
    (cg-block_stops _ _ (cg_stops _ _ _ c.groups.invariant.0.within c.met_cg-met.ensures.met
    (after_refused _ _ c.in-Err-met.is))))))

pub shape_of-source-in-Err-met-2 : goal.shape_of-source-in-Err-met-2
shape_of-source-in-Err-met-2 c =
    omega (
      arith,
      c.walk.invariant.0.words_same,
      c.visit-met.auto.source,
      c.groups.invariant.0.words_same,
      c.met_cg-met.auto.source,
      c.channels.invariant.0.words_same,
      c.met_cn-met.auto.source,
    )

pub shape_of-fragments-in-Err-met-2 : goal.shape_of-fragments-in-Err-met-2
shape_of-fragments-in-Err-met-2 c =
    omega (
      arith,
      c.walk.invariant.0.frags_same,
      c.take_data-taken.auto.fragments,
      c.groups.invariant.0.frags_same,
      c.channels.invariant.0.frags_same,
    )

pub returns-in-Err-met-2 : goal.returns-in-Err-met-2
returns-in-Err-met-2 c =
    walk_stops _ _ _ _ _ (turn_stop c.walk.invariant.0 c.if-dg-eq0.false c.walk.invariant.0.within.dg-room
    (dg-below_stops _ _ _ _ c.link_at-cg.ensures
    (dg-gives _ _ _ c.walk.invariant.0.within c.visit-met.ensures.met (after-fine _ _ c.in_default.is))
    (data_gives _ _ _ _ c.take_data-taken.ensures (after_done _ _ c.in-Ok.is))
    (turn_stop c.groups.invariant.0 c.groups-test.true
    c.groups.invariant.0.within.cg-room
    (cg-below_stops _ _ _ c.link_at-cn.ensures
    (cg-gives _ _ _ c.groups.invariant.0.within c.met_cg-met.ensures.met
    (after-fine _ _ c.in_default-met.is))
    (turn_stop c.channels.invariant.0 c.channels-test.true
    c.channels.invariant.0.within.cn-room
    (cn-block_stops _ _ (cn_stops _ _ _ c.channels.invariant.0.within c.met_cn-met.ensures.met
    (after_refused _ _ c.in-Err-met-2.is))))))))
