-- The code's answer to a check against its verdict.
use Rattle.std.specs.Prelude.{◌≡◌, Result, Ok, Err, ⊤}
use Rattle.std.proofs.Common.{sym, ◌∙◌}
use Rattle.base.specs.Checked.{Verdict, fine}
use Rattle.fields.specs.declared.refusal.Refusal.{Refusal}
use Rattle.fields.specs.Answer.{verdict_of, refused_by}
pub use Rattle.base.specs.CheckedLaws.{refused≢ok, then_fine}

-- from the answer to the verdict: a callee's `ensures`, then the arm's equation
pub so_fine : {c : Result ⊤ Refusal} {v : Verdict} {u : ⊤} → verdict_of c ≡ v → c ≡ Ok u → v ≡ fine
so_fine e q = sym e ∙ rw q

pub so_refused : {c : Result ⊤ Refusal} {v : Verdict} {x : Refusal} → verdict_of c ≡ v → c ≡ Err x → v ≡ refused_by x
so_refused e q = sym e ∙ rw q
