-- Remainders keep the sum small.
use Rattle.records.specs.RunLaws.{remaining_none, remaining_some}
use native.Mathlib.Nat.{mod-lt}
use Prim.Native.Nat.{◌+◌, ◌%◌}
use native.Mathlib.Omega.{arith}
use Rattle.records.proofs.sorted.remaining.Goals as goal

pub returns-then-n-eq0 : goal.returns-then-n-eq0
returns-then-n-eq0 c = record { is = remaining_none _ _ c.if-n-eq0.true; small = omega arith }

pub overflow_add-result : goal.overflow_add-result
overflow_add-result c = let m = mod-lt c.args.size {m = c.args.n} (omega arith) in omega arith

pub returns : goal.returns
returns c =
    record {
      is = remaining_some _ _ _ c.if-n-eq0.false;
      small = let m = mod-lt
          (c.args.bytes + c.args.size % c.args.n) {m = c.args.n} (omega arith) in omega
          arith;
    }
