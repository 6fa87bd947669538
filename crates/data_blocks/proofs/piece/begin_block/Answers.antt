-- A block's first record has the header before it, others have nothing.
use Rattle.puts.specs.PutLaws.{lent_is}
use Rattle.data_blocks.specs.RegionLaws.{start_none, start-header}
use mathlib.Core.Path.{refl, ap}
use Prim.Native.Nat.{ℕ, ◌*◌}
use native.Mathlib.Omega.{arith}
use Rattle.data_blocks.proofs.piece.begin_block.Goals as goal

pub returns-then-at-f-gt0 : goal.returns-then-at-f-gt0
returns-then-at-f-gt0 c =
    let a = c.args in
    (refl, start_none a.f.kind a.f.per a.f.records a.f.shape.width a.at _ a.out.now c.if-at-f-gt0.true)

pub overflow_mul-count : goal.overflow_mul-count
overflow_mul-count c =
    let w = c.args.f.shape.width in
    let q = ap (λ (x : ℕ). x * w) c.min-count.ensures in
    omega arith

pub overflow_add-count : goal.overflow_add-count
overflow_add-count c =
    let w = c.args.f.shape.width in
    let q = ap (λ (x : ℕ). x * w) c.min-count.ensures in
    omega arith

pub returns : goal.returns
returns c =
    let a = c.args in
    let q = c.min-count.ensures in (
      refl,
      start-header a.f.kind a.f.per a.f.records a.f.shape.width a.at _ a.out.now (omega arith) q (lent_is _ _ _ _
          c.header.ensures),
    )
