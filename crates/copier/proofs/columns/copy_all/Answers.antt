-- What is left of the columns gives what all of them give.
use Prim.{tt}
use Prim.Native.Nat.{◌+◌, ◌*◌, ◌-◌}
use mathlib.Core.Path.{◌≡◌}
use Rattle.fields.specs.AnswerLaws.{passed_on}
use Rattle.copier.specs.RootsLaws.{copying_begin, copying_end, copying_refused, copying_next}
use Rattle.copier.specs.TurnLaws.{indexed_at}
use native.Mathlib.Omega.{arith}
use Rattle.copier.proofs.columns.copy_all.Goals as goal

pub loop-k-init : goal.loop-k-init
loop-k-init c = let n : c.args.n - 0 ≡ c.args.n = omega arith in (rw n (copying_begin _ _ _ _ _ _ c.requires.0 c.requires.1), c.requires.2)

pub returns-in_err-st : goal.returns-in_err-st
returns-in_err-st c =
    rw (passed_on _ _ c.from_residual.ensures)
    (record {
      copied = copying_refused c.loop-k.invariant.0 (omega arith) c.word-dg.ensures c.word-cg.ensures c.word-cn.ensures
          c.column_roots.ensures.copied c.in_err-st.was;
      after = tt;
    })

pub loop-k-preserved : goal.loop-k-preserved
loop-k-preserved c =
    let k = c.loop-k.k in
    let n : c.args.n - (k + 1) ≡ c.args.n - k - 1 = omega arith in
    let p : 8 * (k + 1) ≡ 8 * k + 8 = omega arith in (
      rw (n, p) (copying_next c.loop-k.invariant.0 (omega arith) c.word-dg.ensures c.word-cg.ensures c.word-cn.ensures
          c.column_roots.ensures.copied c.column_roots.ensures.after c.in_ok-st.was c.column_roots.auto.memo),
      indexed_at c.column_roots.ensures.indexed c.in_ok-st.was,
    )

pub returns : goal.returns
returns c = record { copied = copying_end c.loop-k.invariant.0 (omega arith); after = c.loop-k.invariant.0.held.after }
