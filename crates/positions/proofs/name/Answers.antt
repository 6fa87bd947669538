use Rattle.std.specs.Prelude.{Option, Some, None}
use Rattle.std.proofs.Common.{ℕ, ◌≡◌, refl, arith}
use Rattle.std.specs.Option.{unwrap_or}
use Rattle.positions.specs.HeldLaws.{name_late, name_fifth, name_fine}
use Rattle.positions.proofs.name.Goals as goal

-- where none of the names held is found, past them
past : (o : Option ℕ) (i h : ℕ) → ((j : ℕ) → o ≡ Some j → i ≡ j) → (o ≡ None → i ≡ h) → i ≡ unwrap_or o h
past (Some j) i h f g = f j refl
past None i h f g = g refl

pub returns-then-steps-p : goal.returns-then-steps-p
returns-then-steps-p c = name_late _ _ _ c.if-steps-p.true

pub returns-then-i-gt3 : goal.returns-then-i-gt3
returns-then-i-gt3 c =
    let u = past c.index_of.result c.unwrap_or-i.result c.min-held.result (λ j e. rw e at c.unwrap_or-i.ensures) (λ e. let m = rw e at c.unwrap_or-i.ensures in omega arith) in
    name_fifth _ _ _ (omega arith) (omega arith) (omega arith) _ c.min-held.ensures _ _ c.index_of.ensures u c.if-i-gt3.true

pub returns : goal.returns
returns c =
    let u = past c.index_of.result c.unwrap_or-i.result c.min-held.result (λ j e. rw e at c.unwrap_or-i.ensures) (λ e. let m = rw e at c.unwrap_or-i.ensures in omega arith) in
    name_fine _ _ _ (omega arith) (omega arith) (omega arith) _ c.min-held.ensures _ _ _ c.index_of.ensures u c.if-i-gt3.false c.max.ensures
