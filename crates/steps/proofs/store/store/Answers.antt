use Prim.Native.Nat.{◌-◌}
use borrow.Rule.Slice.PartMut.{mid_of}
use mathlib.Core.Path.{refl}
use Rattle.steps.specs.StepsLaws.{first-stored, later-stored, window_fits, window_written, zeros_store, lent_store}
use native.Mathlib.Omega.{arith}
use Rattle.steps.proofs.store.store.Goals as goal

pub returns-then-k-eq0 : goal.returns-then-k-eq0
returns-then-k-eq0 c = record { right = λ h g l. (h.kept, first-stored h _ c.if-k-eq0.true c.zero.ensures); bounded = zeros_store _ c.zero.ensures }

pub overflow_sub-k : goal.overflow_sub-k
overflow_sub-k c = omega (arith, c.if-k-eq0.false)

pub returns : goal.returns
returns c =
    let s = c.span_of-s.ensures in
    let z = c.span_of-s.result in
    let f = c.args.file.now in record {
      right = λ h g l.
          let e = window_written h z.first (mid_of z.first (z.past - z.first) f) _ _ c.choices_of.ensures c.held_of.ensures c.write_window.ensures refl
          (window_fits h _ _ _ f s refl l) in
          (e.0, later-stored h f z _ c.if-k-eq0.false g l s e.1);
      bounded = lent_store f _ _ z c.write_window.new.w s c.write_window.auto.w;
    }
