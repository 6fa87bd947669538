-- By kept stretches as far as they go, then by kept offsets, then by framing.
use Rattle.data_blocks.specs.WrittenLaws.{formed-same, among_all, among_listed, among_rest}
use native.Mathlib.Omega.{arith}
use Rattle.data_blocks.proofs.column.among.Goals as goal

pub by_pool-done-requires : goal.by_pool-done-requires
by_pool-done-requires c = let p = c.requires in (p.0, p.1, p.2)

pub returns-then-done-f : goal.returns-then-done-f
returns-then-done-f c =
    let a = c.args in
    among_all a.image.now a.groups.now a.fragments.now a.c a.f a.pool.now _ c.prepare.ensures _ a.out.now _ c.by_pool-done.ensures.1
    a.words.now c.if-done-f.true

pub by_offsets-further-requires : goal.by_offsets-further-requires
by_offsets-further-requires c =
    let p = c.requires in
    (p.0, formed-same p.1 (omega (arith, c.by_pool-done.auto.out)), p.2, c.by_pool-done.ensures.0)

pub shape_of-pool-then-further-f : goal.shape_of-pool-then-further-f
shape_of-pool-then-further-f c = omega (arith, c.prepare.auto.pool)

pub returns-then-further-f : goal.returns-then-further-f
returns-then-further-f c =
    let a = c.args in
    among_listed a.image.now a.groups.now a.fragments.now a.c a.f a.pool.now _ c.prepare.ensures _ a.out.now _ c.by_pool-done.ensures.1
    a.words.now _ c.prepare_offsets-o.ensures _ _ c.by_offsets-further.ensures.2 c.if-further-f.true

pub by_several-requires : goal.by_several-requires
by_several-requires c =
    let p = c.requires in
    (p.0, formed-same p.1 (omega (arith, c.by_pool-done.auto.out, c.by_offsets-further.auto.out)), p.2, c.by_offsets-further.ensures.1, p.3)

pub shape_of-out : goal.shape_of-out
shape_of-out c = omega (arith, c.by_several.auto.out, c.by_offsets-further.auto.out, c.by_pool-done.auto.out)

pub shape_of-pool : goal.shape_of-pool
shape_of-pool c = omega (arith, c.prepare.auto.pool)

pub returns : goal.returns
returns c =
    let a = c.args in
    among_rest a.image.now a.groups.now a.fragments.now a.c a.f a.pool.now _ c.prepare.ensures _ a.out.now _ c.by_pool-done.ensures.1
    a.words.now _ c.prepare_offsets-o.ensures _ _ c.by_offsets-further.ensures.2 c.number_in-k.ensures c.by_several.ensures
