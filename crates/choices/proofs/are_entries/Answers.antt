-- The entries that are left give what all give; a wrong one or the end answers.
use Prim.Native.Nat.{◌+◌, ◌-◌}
use mathlib.Core.Path.{◌≡◌}
use native.Mathlib.Omega.{arith}
use Rattle.choices.specs.TableLaws.{entries_end, entries-good, entries_bad}
use Rattle.choices.proofs.are_entries.Goals as goal

pub loop-k-init : goal.loop-k-init
loop-k-init c = let e : c.args.n - 0 ≡ c.args.n = omega arith in rw e

pub returns-then-not-is_entry : goal.returns-then-not-is_entry
returns-then-not-is_entry c = entries_bad _ _ _ c.loop-k.invariant (omega arith) c.is_entry.ensures c.if-not-is_entry.true

pub loop-k-preserved : goal.loop-k-preserved
loop-k-preserved c =
    let e : c.args.n - (c.loop-k.k + 1) ≡ c.args.n - c.loop-k.k - 1 = omega arith in
    rw e (entries-good _ _ _ c.loop-k.invariant (omega arith) c.is_entry.ensures c.if-not-is_entry.false)

pub returns : goal.returns
returns c = entries_end _ _ _ c.loop-k.invariant (omega arith)
