-- The sums are those of the records past the first m.
use mathlib.Core.Path.{refl}
use Prim.Native.Nat.{◌-◌}
use Rattle.comparing.specs.HeadLaws.{strides_fit, strides_over}
use native.Mathlib.Omega.{arith}
use Rattle.comparing.proofs.head.head_past.Goals as goal

pub returns-then-h-m-2 : goal.returns-then-h-m-2
returns-then-h-m-2 c =
    let a = c.args in
    record {
      scan = refl;
      spot = refl;
      count = λ z f. let e = f (omega arith) in absurd (strides_over a.h.stride (18446744073709551615 - a.h.first) a.m z (omega arith) (omega arith));
      first = λ z. absurd (omega arith);
      stride = λ z. absurd (omega arith);
    }

pub overflow_mul-result : goal.overflow_mul-result
overflow_mul-result c = let e = strides_fit c.args.h.stride (18446744073709551615 - c.args.h.first) c.args.m (omega arith) in omega (arith, e)

pub overflow_add-result : goal.overflow_add-result
overflow_add-result c = let e = strides_fit c.args.h.stride (18446744073709551615 - c.args.h.first) c.args.m (omega arith) in omega (arith, e)
