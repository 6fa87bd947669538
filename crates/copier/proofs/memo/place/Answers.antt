-- The two stores are one copy more, past those that stand.
use Prim.Native.Nat.{◌+◌, ◌*◌, ◌<◌}
use mathlib.Core.Path.{◌∙◌, refl}
use Rattle.index.specs.IndexLaws.{entered_is}
use native.Mathlib.Omega.{arith}
use lib.ListN.{length, length-set}
use Rattle.copier.specs.StandingLaws.{place_is, place_past, align_near}
use Rattle.copier.specs.IndexLaws.{index_placed}
use Rattle.copier.proofs.memo.place.Goals as goal

pub bounds-memo-at-2 : goal.bounds-memo-at-2
bounds-memo-at-2 c = simp length-set (omega arith)

pub overflow_add-result-2 : goal.overflow_add-result-2
overflow_add-result-2 c = omega (arith, c.aligned-to.ensures (omega arith), align_near c.args.state.next)

pub returns : goal.returns
returns c =
    let a = c.args in
    let h : a.state.used * 2 + 1 < length a.memo.now = omega arith in record {
      copied = place_is a.memo.now a.a a.size c.aligned-to.result a.state h (c.aligned-to.ensures (omega arith));
      past = place_past a.memo.now a.a a.size c.aligned-to.result a.state h;
      indexed = rw (c.enter_at.ensures ∙ entered_is _ _ _ _ (omega arith) (omega arith)) (index_placed a.memo.now a.index.now a.state.used (a.state.used * 2) a.a c.aligned-to.result refl h (omega arith) c.requires.4);
    }
