-- The entries that are left give what all give; a hit or the end answers.
use Prim.Native.Nat.{◌+◌, ◌-◌}
use mathlib.Core.Path.{◌≡◌, ◌∙◌}
use native.Mathlib.Omega.{arith}
use Rattle.choices.specs.TableLaws.{entry_end, entry_hit, entry_miss}
use Rattle.choices.proofs.entry_of.Goals as goal

pub loop-i-init : goal.loop-i-init
loop-i-init c = let e : c.args.k + c.args.n - c.args.k ≡ c.args.n = omega arith in rw e

pub returns-then-field_at-t : goal.returns-then-field_at-t
returns-then-field_at-t c = entry_hit _ _ _ _ c.loop-i.invariant (omega arith) c.field_at.ensures c.if-field_at-t.true

pub loop-i-preserved : goal.loop-i-preserved
loop-i-preserved c =
    let e : c.args.k + c.args.n - (c.loop-i.i + 1) ≡ c.args.k + c.args.n - c.loop-i.i - 1 = omega arith in
    rw e (entry_miss _ _ _ _ c.loop-i.invariant (omega arith) c.field_at.ensures c.if-field_at-t.false)

pub returns : goal.returns
returns c = let e : c.args.k + c.args.n ≡ c.loop-i.i = omega arith in e ∙ entry_end _ _ _ _ c.loop-i.invariant (omega arith)
