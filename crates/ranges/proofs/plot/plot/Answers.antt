-- Each turn serves the entry at its index, and all turns from the start are the plot.
use Rattle.std.proofs.Common.{arith, add-one, ap, sym, ◌∙◌, ℕ, List, ◌≡◌, ◌+◌, ◌-◌, ◌<◌, ◌≤◌, length, get_or, suc, Bool, true, false, leb, leb-true, refl}
use Rattle.base.specs.Choice.{pick, if_le}
use Rattle.file.specs.Plot.{plotted}
use Rattle.ranges.specs.declared.plot.Request.{Request}
use Rattle.ranges.specs.Turn.{Laid, laid, turn_of, turns_of, start_of, entries_of, answered}
use Rattle.ranges.proofs.TurnLaws.{none, turns_from, turn_keeps, few, whole}
use Rattle.ranges.proofs.plot.plot.Goals as goal

most : (n : ℕ) → turns_of n ≤ 256
unfolding turns_of if_le
most n = go (leb n 256) refl
  where
    go : (t : Bool) → leb n 256 ≡ t → pick t n 0 ≤ 256
    go true q = leb-true _ _ q
    go false q = omega arith

within : (n i : ℕ) (ts : List Request) → n ≡ turns_of (length ts) → i < n → i < length ts
within n i ts e h = let f : turns_of (length ts) ≤ length ts = few (length ts) in omega (arith, f)

next : (s : List ℕ) (ts : List Request) (n i : ℕ) (x y z : Laid) → i < n → y ≡ turn_of s i (get_or ts i none) x → turns_from s ts (n - i) i x ≡ z
    → turns_from s ts (n - (i + 1)) (i + 1) y ≡ z
next s ts n i x y z h e q =
    let k : n - i ≡ suc (n - suc i) = omega arith in
    rw (e, add-one) (rw k at q)

done : (s d : List ℕ) (ts : List Request) (n i : ℕ) (x : Laid) → n ≡ turns_of (length ts) → i ≤ n → n ≤ i
    → turns_from s ts (n - i) i x ≡ turns_from s ts (turns_of (length ts)) 0 (laid (start_of s (length ts)) d)
    → x ≡ answered (plotted s (entries_of ts) d)
done s d ts n i x e h g q =
    let k : n - i ≡ 0 = omega arith in
    (rw k at q) ∙ whole s d ts

pub offset_bounds-table-i : goal.offset_bounds-table-i
offset_bounds-table-i c = let h : turns_of (length c.args.table.now) ≤ 256 = most _ in let e = c.turns-n.ensures in omega arith

pub bounds-table-i : goal.bounds-table-i
bounds-table-i c = within _ _ _ c.turns-n.ensures c.loop-i-test.true

pub turn-state-requires : goal.turn-state-requires
turn-state-requires c = let h = within _ _ _ c.turns-n.ensures c.loop-i-test.true in c.loop-i.invariant.opened (omega arith)

pub loop-i-preserved : goal.loop-i-preserved
loop-i-preserved c = record {
  within = omega arith;
  opened = λ some q.
      c.loop-i.invariant.opened some
      (turn_keeps _ _ _ _ (ap (λ (x : Laid). x.state.accepted) (sym c.turn-state.ensures) ∙ q));
  ahead = next c.args.image.now c.args.table.now c.turns-n.result c.loop-i.i (laid c.loop-i.state c.loop-i.destination) _ _ c.loop-i-test.true c.turn-state.ensures c.loop-i.invariant.ahead;
}

pub returns : goal.returns
returns c = done _ _ _ _ _ _ c.turns-n.ensures c.loop-i.invariant.within c.loop-i-test.false c.loop-i.invariant.ahead
