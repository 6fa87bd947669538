-- What the tables have of the group guessed is the record, where it lies in its fragment.
use Rattle.records.specs.AheadLaws.{part_high}
use Rattle.records.specs.TableLaws.{quick_step}
use native.Mathlib.Omega.{arith}
use Rattle.records.proofs.framing.Framing.quick.Goals as goal

pub id_at-requires : goal.id_at-requires
id_at-requires c = omega (arith, part_high c.args.self.position c.args.self.left c.args.image.now, c.inside-here.ensures)

pub overflow_add-self : goal.overflow_add-self
overflow_add-self c =
    let f = (c.id_at.ensures _ c.in_ok-id.was).fits in
    let k = part_high c.args.self.position c.args.self.left c.args.image.now in
    let e = c.inside-here.ensures in
    omega arith

pub body_in-requires : goal.body_in-requires
body_in-requires c =
    let f = (c.id_at.ensures _ c.in_ok-id.was).fits in
    let k = part_high c.args.self.position c.args.self.left c.args.image.now in
    let e = c.inside-here.ensures in
    omega arith

pub overflow_add-next : goal.overflow_add-next
overflow_add-next c =
    let f = (c.id_at.ensures _ c.in_ok-id.was).fits in
    let k = part_high c.args.self.position c.args.self.left c.args.image.now in
    let e = c.inside-here.ensures in
    omega arith

pub overflow_add-next-2 : goal.overflow_add-next-2
overflow_add-next-2 c =
    let f = (c.id_at.ensures _ c.in_ok-id.was).fits in
    let k = part_high c.args.self.position c.args.self.left c.args.image.now in
    let e = c.inside-here.ensures in
    let b = (c.body_in.ensures _ c.in_ok-bytes.was).fits in
    omega arith

pub returns : goal.returns
returns c = λ t h.
    let g = c.in_ok-group.ensures in
    quick_step _ _ _ _ _ _ _ _ _ t c.inside-here.ensures (c.id_at.ensures _ c.in_ok-id.was) g.within c.if-groups-group.false g.has
    (c.body_in.ensures _ c.in_ok-bytes.was)
