use Prim.Native.Nat.{◌+◌, ◌*◌, ◌-◌, ◌/◌, ◌%◌}
use mathlib.Core.Path.{refl, sym}
use native.Mathlib.Nat.{mod-lt, div-add-mod', div-le_self}
use Rattle.window_data.specs.FilledLaws.{from_all, from_start, from_inside, from-sum, first-few, block-small}
use native.Mathlib.Omega.{arith}
use Rattle.window_data.proofs.sorted.record_from.Goals as goal

pub overflow_mul-block : goal.overflow_mul-block
overflow_mul-block c = omega (arith, block-small c.requires 0)

pub overflow_add-block : goal.overflow_add-block
overflow_add-block c = omega (arith, block-small c.requires 0)

pub returns-then-f-b : goal.returns-then-f-b
returns-then-f-b c = from_all c.requires c.args.a _ _ (sym (div-add-mod' c.args.a (24 + c.args.f.per * c.args.f.shape.width))) c.if-f-b.true

pub overflow_mul-first : goal.overflow_mul-first
overflow_mul-first c = omega (arith, first-few c.requires 0 (c.args.a / (24 + c.args.f.per * c.args.f.shape.width)) (omega (arith, c.if-f-b.false)), c.ranges)

pub returns-then-inside-lt24 : goal.returns-then-inside-lt24
returns-then-inside-lt24 c = from_start c.requires c.args.a _ _ (sym (div-add-mod' c.args.a (24 + c.args.f.per * c.args.f.shape.width))) (omega (arith, c.if-f-b.false))

pub overflow_add-first : goal.overflow_add-first
overflow_add-first c = omega (arith, from-sum c.requires c.args.a (c.args.a / (24 + c.args.f.per * c.args.f.shape.width)) (c.args.a % (24 + c.args.f.per * c.args.f.shape.width)) (((c.args.a % (24 + c.args.f.per * c.args.f.shape.width)) - 24) / c.args.f.shape.width) (sym (div-add-mod' c.args.a (24 + c.args.f.per * c.args.f.shape.width))) (omega (arith, div-le_self ((c.args.a % (24 + c.args.f.per * c.args.f.shape.width)) - 24) c.args.f.shape.width)))

pub returns : goal.returns
returns c = from_inside c.requires c.args.a _ _ _ _ (sym (div-add-mod' c.args.a (24 + c.args.f.per * c.args.f.shape.width))) (mod-lt c.args.a (omega arith)) (omega (arith, c.if-inside-lt24.false)) refl c.min.ensures
