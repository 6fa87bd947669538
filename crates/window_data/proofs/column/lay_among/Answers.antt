-- By kept stretches as far as they go, then by kept offsets, then by framing.
use Rattle.window_data.specs.FilledLaws.{form_in}
use Rattle.window_data.specs.BlocksLaws.{pool_laid, listed-laid, framed_laid}
use native.Mathlib.Omega.{arith}
use Rattle.window_data.proofs.column.lay_among.Goals as goal

pub record_from-r-requires : goal.record_from-r-requires
record_from-r-requires c = form_in c.requires.1

pub lay_pool-done-requires : goal.lay_pool-done-requires
lay_pool-done-requires c = let p = c.requires in (p.0, p.1, p.2, c.record_from-r.ensures.few)

pub returns-then-done-f : goal.returns-then-done-f
returns-then-done-f c =
    let b = c.args in
    pool_laid b.a b.image.now b.groups.now b.fragments.now b.c b.f b.pool.now _ c.keep_stretches.ensures c.requires.1 c.record_from-r.ensures _ b.w.now _ c.lay_pool-done.ensures.2 b.words.now c.if-done-f.true

pub lay_offsets-further-requires : goal.lay_offsets-further-requires
lay_offsets-further-requires c = let p = c.requires in (p.0, p.1, p.2, c.lay_pool-done.ensures.1)

pub shape_of-pool-then-further-f : goal.shape_of-pool-then-further-f
shape_of-pool-then-further-f c = omega (arith, c.keep_stretches.auto.pool)

pub shape_of-words-then-further-f : goal.shape_of-words-then-further-f
shape_of-words-then-further-f c = omega (arith, c.prepare_offsets-o.auto.words)

pub returns-then-further-f : goal.returns-then-further-f
returns-then-further-f c =
    let b = c.args in
    listed-laid b.a b.image.now b.groups.now b.fragments.now b.c b.f b.pool.now _ c.keep_stretches.ensures c.requires.1 c.record_from-r.ensures _ b.w.now _ c.lay_pool-done.ensures.2
    b.words.now _ c.prepare_offsets-o.ensures _ _ c.lay_offsets-further.ensures.2 c.if-further-f.true

pub lay_several-requires : goal.lay_several-requires
lay_several-requires c = let p = c.requires in (p.0, p.1, p.2, c.lay_offsets-further.ensures.1, p.3)

pub shape_of-w : goal.shape_of-w
shape_of-w c = omega (arith, c.lay_several.auto.w, c.lay_offsets-further.auto.w, c.lay_pool-done.auto.w)

pub shape_of-pool : goal.shape_of-pool
shape_of-pool c = omega (arith, c.keep_stretches.auto.pool)

pub shape_of-words : goal.shape_of-words
shape_of-words c = omega (arith, c.prepare_offsets-o.auto.words)

pub returns : goal.returns
returns c =
    let b = c.args in
    framed_laid b.a b.image.now b.groups.now b.fragments.now b.c b.f b.pool.now _ c.keep_stretches.ensures c.requires.1 c.record_from-r.ensures _ b.w.now _ c.lay_pool-done.ensures.2
    b.words.now _ c.prepare_offsets-o.ensures _ _ c.lay_offsets-further.ensures.2 c.number_in-k.ensures c.lay_several.ensures
