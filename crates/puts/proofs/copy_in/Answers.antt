-- The bytes copied so far are a part of the source, laid over the slice.
use Rattle.std.proofs.Common.{arith, refl, length-set, ◌≡◌}
use Rattle.base.specs.Blit.{blit, part}
use Rattle.puts.specs.PutLaws.{copy_more}
use Rattle.puts.proofs.copy_in.Goals as goal

pub loop-k-init : goal.loop-k-init
unfolding blit part
loop-k-init c = (refl, refl)

pub loop-k-preserved : goal.loop-k-preserved
loop-k-preserved c =
    let a = c.args in
    let k = c.loop-k.k in
    (simp length-set c.loop-k.invariant.0, cc (copy_more a.at a.from k a.s.now a.d.now (omega arith)))

pub returns : goal.returns
returns c =
    let e : c.loop-k.k ≡ c.args.n = omega arith in
    cc
