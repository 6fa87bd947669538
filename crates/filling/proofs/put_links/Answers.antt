-- The links that are left, laid over the slice as it is now, give the result; past the end they are lost.
use Rattle.std.proofs.Common.{◌≡◌, ◌+◌, ◌*◌, ◌-◌, refl, sym, arith}
use Rattle.base.specs.Blit.{blit}
use Rattle.puts.specs.PutLaws.{blit-past}
use Rattle.result.specs.Fill.{block_links}
use Rattle.filling.specs.BlocksLaws.{links_turn, links_end}
use Rattle.filling.proofs.put_links.Goals as goal

pub returns-then-d-le32 : goal.returns-then-d-le32
returns-then-d-le32 c = sym (blit-past _ _ _ (omega arith))

pub loop-i-init : goal.loop-i-init
loop-i-init c = let n : c.args.n - 0 ≡ c.args.n = omega arith in (omega arith, refl, rw n)

pub returns-then-d-p-le8 : goal.returns-then-d-p-le8
returns-then-d-p-le8 c = links_end _ _ _ _ _ _ _ (omega arith) c.loop-i.invariant.2 c.put_u64.ensures (omega arith)

pub loop-i-preserved : goal.loop-i-preserved
loop-i-preserved c =
    let i = c.loop-i.i in
    let n : c.args.n - (i + 1) ≡ c.args.n - i - 1 = omega arith in
    let p : 32 + 8 * (i + 1) ≡ 32 + 8 * i + 8 = omega arith in (
      omega arith,
      omega arith,
      rw (n, p) (links_turn _ _ _ _ _ _ _ _ _ (omega arith) c.loop-i.invariant.2 c.put_u64.ensures refl refl),
    )

pub returns : goal.returns
unfolding blit block_links
returns c =
    let e : c.args.n - c.loop-i.i ≡ 0 = omega arith in
    rw e at c.loop-i.invariant.2
