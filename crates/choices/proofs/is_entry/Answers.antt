-- Each test is one of the definition, over the bytes read.
use native.Mathlib.Omega.{arith}
use Rattle.choices.specs.TableLaws.{entry-again, entry_type, entry_treated, entry-allowed}
use Rattle.choices.proofs.is_entry.Goals as goal

pub returns-then-again-end : goal.returns-then-again-end
returns-then-again-end c = entry-again _ _ _ c.field_at-t.ensures c.entry_of-again.ensures (omega arith)

pub returns-then-t-gt6 : goal.returns-then-t-gt6
returns-then-t-gt6 c =
    entry_type _ _ _ c.field_at-t.ensures c.entry_of-again.ensures (omega arith)
    (omega arith)

pub returns-then-v-gt2 : goal.returns-then-v-gt2
returns-then-v-gt2 c =
    entry_treated _ _ _ c.field_at-t.ensures
    c.entry_of-again.ensures (omega arith) (omega arith)
    c.field_at.ensures c.field_at-v.ensures (omega arith)

pub returns : goal.returns
returns c =
    entry-allowed _ _ _ c.field_at-t.ensures
    c.entry_of-again.ensures (omega arith) (omega arith)
    c.field_at.ensures c.field_at-v.ensures (omega arith)
    c.is_allowed.ensures
