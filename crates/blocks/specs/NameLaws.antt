-- The ways of the check of a name; and what is known of a text that passed.
use Rattle.std.specs.Prelude.{ℕ, List, ◌≡◌, refl}
use Rattle.std.proofs.Common.{arith}
use Rattle.base.specs.ChoiceLaws.{eq_yes, eq_no}
use Rattle.base.specs.Checked.{Verdict, fine}
use Rattle.std.specs.Prelude.{Result, Ok, Err, ⊤}
use Rattle.fields.specs.declared.refusal.Refusal.{Refusal}
use Rattle.fields.specs.Answer.{verdict_of, refused_by}
use Rattle.mdf.specs.Block.{kind_tx, kind_md, kind_at, header_in}
use Rattle.mdf.specs.Name.{text_in, name_at}
use Rattle.blocks.specs.AnswerLaws.{so_fine, so_refused}

-- no name
pub name_none : (s : List ℕ) (a : ℕ) → a ≡ 0 → fine ≡ name_at s a
unfolding name_at
name_none s a z = eq_yes _ _ _ _ z refl

module _ (s : List ℕ) (a : ℕ) {o : Result ⊤ Refusal} (e : verdict_of o ≡ header_in s a) (link : a ≡ 0 → ⊥) where
  pub name_refused : {x : Refusal} → o ≡ Err x → refused_by x ≡ name_at s a
  unfolding name_at
  name_refused q = eq_no _ _ _ _ link (rw (so_refused e q))

  -- TX, MD, another kind
  pub name-TX : {u : ⊤} {v : Verdict} {k : ℕ} → o ≡ Ok u → k ≡ kind_at s a → k ≡ kind_tx → v ≡ text_in s a → v ≡ name_at s a
  unfolding name_at
  name-TX q d t r = eq_no _ _ _ _ link (rw (so_fine e q) (eq_yes _ _ _ _ (omega arith) r))

  pub name-MD : {u : ⊤} {v : Verdict} {k : ℕ} → o ≡ Ok u → k ≡ kind_at s a → k ≡ kind_md → v ≡ text_in s a → v ≡ name_at s a
  unfolding name_at
  name-MD q d t r = eq_no _ _ _ _ link (rw (so_fine e q) (eq_no _ _ _ _ (omega arith) (eq_yes _ _ _ _ (omega arith) r)))

  pub name_other : {u : ⊤} {k : ℕ} → o ≡ Ok u → k ≡ kind_at s a → (k ≡ kind_tx → ⊥) → (k ≡ kind_md → ⊥) → fine ≡ name_at s a
  unfolding name_at
  name_other q d t m = eq_no _ _ _ _ link (rw (so_fine e q) (eq_no _ _ _ _ (omega arith) (eq_no _ _ _ _ (omega arith) refl)))
