-- The list of an accepted call begins with the number of omissions, their addresses, their reasons.
use Rattle.std.specs.Prelude.{ℕ, zero, suc, ◌+◌, ◌*◌, ◌≤◌, ◌≡◌, refl, drop}
use mathlib.Core.List.{List, [], ◌∷◌, ◌++◌, append_assoc}
use Rattle.std.proofs.Math.Option.{some}
use Rattle.std.proofs.Common.{sym, ◌∙◌, arith, get_or-append-add}
use Rattle.std.proofs.Math.Path.{ap}
use Rattle.std.proofs.Math.ListN.{length, get_or, length-append}
use Rattle.base.specs.Blit.{blit}
use Rattle.base.specs.BlitLaws.{blit_is, length-blit}
use Rattle.plan.specs.Columns.{Omission, omission_addresses, omission_reasons, omission_words}
use Rattle.result.specs.Guarantee.{omission_at, Listed}
use Rattle.plan_laws.specs.DecideLaws.{none≢some, some_same}

length-addresses : (os : List Omission) → length (omission_addresses os) ≡ length os
unfolding omission_addresses
length-addresses [] = refl
length-addresses (o ∷ os) = ap suc (length-addresses os)

length_reasons : (os : List Omission) → length (omission_reasons os) ≡ length os
unfolding omission_reasons
length_reasons [] = refl
length_reasons (o ∷ os) = ap suc (length_reasons os)

address-at : (os : List Omission) (k : ℕ) (o : Omission) (more : List ℕ) → omission_at k os ≡ some o → get_or (omission_addresses os ++ more) k 0 ≡ o.at
unfolding omission_at omission_addresses
address-at [] k o more e = absurd (none≢some e)
address-at (u ∷ os) zero o more e = ap (λ (v : Omission). v.at) (some_same e)
address-at (u ∷ os) (suc k) o more e = address-at os k o more e

reason_at : (os : List Omission) (k : ℕ) (o : Omission) (more : List ℕ) → omission_at k os ≡ some o → get_or (omission_reasons os ++ more) k 0 ≡ o.reason
unfolding omission_at omission_reasons
reason_at [] k o more e = absurd (none≢some e)
reason_at (u ∷ os) zero o more e = ap (λ (v : Omission). v.reason) (some_same e)
reason_at (u ∷ os) (suc k) o more e = reason_at os k o more e

module _ (os : List Omission) (list : List ℕ) (room : length (omission_words os) ≤ length list) where
  -- the words, then what was there
  final : List ℕ
  final = blit 0 (omission_words os) list

  rest : List ℕ
  rest = drop (0 + length (omission_words os)) list

  words : final ≡ length os ∷ (omission_addresses os ++ (omission_reasons os ++ rest))
  unfolding final rest omission_words
  words =
      blit_is 0 (omission_words os) list (omega arith)
      ∙ ap (λ (l : List ℕ). length os ∷ l) (append_assoc (omission_addresses os) (omission_reasons os) rest)

  enough : 1 + 2 * length os ≤ length final
  unfolding final omission_words
  enough = rw length-blit (omega (arith, room, length-append (omission_addresses os) (omission_reasons os), length-addresses os, length_reasons os))

  at-word : (k : ℕ) (o : Omission) → omission_at k os ≡ some o → (get_or final (suc k) 0 ≡ o.at) × (get_or final (suc (length os + k)) 0 ≡ o.reason)
  at-word k o e = (
    ap (λ (l : List ℕ). get_or l (suc k) 0) words ∙ address-at os k o (omission_reasons os ++ rest) e,
    ap (λ (l : List ℕ). get_or l (suc (length os + k)) 0) words
        ∙ ap (λ (n : ℕ). get_or (omission_addresses os ++ (omission_reasons os ++ rest)) (n + k) 0) (sym (length-addresses os))
        ∙ get_or-append-add (omission_addresses os) (omission_reasons os ++ rest) k 0
        ∙ reason_at os k o rest e,
  )

  pub listed : Listed (blit 0 (omission_words os) list) os
  unfolding final
  listed = record { room = enough; number = ap (λ (l : List ℕ). get_or l 0 0) words; each = at-word }
