-- The sheet by what opening answers.
use Rattle.std.specs.Prelude.{ℕ, List, ◌≡◌}
use Rattle.std.proofs.Common.{sym, subst, arith}
use Rattle.base.specs.Checked.{ok, refused}
use Rattle.result.specs.Listing.{refusal_text}
use Rattle.file.specs.Opened.{opened}
use Rattle.std.specs.Prelude.{Result, Ok, Err}
use Rattle.fields.specs.declared.refusal.Refusal.{Refusal}
use Rattle.fields.specs.Answer.{number_of, place_of}
use Rattle.ranges.specs.Open.{columns_of, few, opened_as}
use Rattle.texts.specs.Laid.{Laid}
use Rattle.texts.specs.LaidLaws.{laid_as, laid_most}
use Rattle.sheet.specs.Sheet.{pages, pages_text, sheet}
use Rattle.sheet.proofs.SheetLaws.{sheet-opened, sheet_refused}

module _ (s w : List ℕ) {o : Result ℕ Refusal} (e : opened_as s w o ≡ opened s) {d f : List ℕ} {r : ℕ} where
  pub printed_refusal : {y : Refusal} {number place : ℕ} → o ≡ Err y → number ≡ number_of y → place ≡ place_of y → Laid 0 (refusal_text number place) 56 d f r → Laid 0 (sheet s) 42201 d f r
  printed_refusal {number = number} {place = place} q i j a =
      let p : refused number place ≡ opened s = rw (i, j) (rw q at e) in
      laid_as (laid_most a (omega arith)) (sym (sheet_refused s number place (sym p)))

  pub printed-pages : {n : ℕ} → o ≡ Ok n → Laid 0 (pages_text (pages s (columns_of s w n 0))) 42201 d f r → Laid 0 (sheet s) 42201 d f r
  printed-pages {n} q a =
      let p : ok (columns_of s w n 0) ≡ opened s = rw q at e in
      laid_as a (sym (sheet-opened s (columns_of s w n 0) (sym p)))

pub few-columns : {o : Result ℕ Refusal} {n : ℕ} → few o → o ≡ Ok n → few (Ok n)
few-columns h q = subst few q h
