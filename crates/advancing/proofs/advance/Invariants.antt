-- What is left of the steps, from what stands, is all of them from the beginning.
use Rattle.std.proofs.Common.{◌+◌, ◌*◌, ◌-◌, ◌≤◌, length}
use Rattle.steps.specs.Conversion.{call_of}
use Rattle.steps.specs.Steps.{Holds, lent}
use Rattle.advancing.specs.AdvancesLaws.{Going, Advancing}
use Rattle.advancing.proofs.advance.Given as goal

abbrev pub invariant-loop : goal.invariant-loop
invariant-loop l =
    let l₀ = lent l.initial.source l.initial.fragments l.initial.columns l.initial.copies l.initial.stretches l.initial.offsets in
    let now = lent l.source l.fragments l.columns l.copies l.stretches l.offsets in
    let x = call_of l.initial.r l.image l.ident l.text l.table in
    Going l.initial.r l.n l.r (l.n - l.counter) l.initial.file l.file l.initial.list l.list l₀ now
    × (Holds x l.initial.r l.initial.source l.initial.fragments l.initial.columns l.initial.copies l.initial.stretches l.initial.offsets → l.initial.r.file_size ≤ length l.initial.file → 2 * l.initial.r.omissions + 1 ≤ length l.initial.list
    → Advancing x l.initial.r l.stores l.initial.file l.initial.list (l.n - l.counter + (l.stores - l.n)) l.r l.source l.fragments l.columns l.copies l.stretches l.offsets l.file l.list)
