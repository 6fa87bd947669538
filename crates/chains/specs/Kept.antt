-- What a chain leaves: the answer, and the fragments found in it, kept in lent words past the n that were found before it.
use Rattle.std.specs.Prelude.{ℕ, ◌+◌, ◌*◌, List, length, Result, Ok, Err}
use Rattle.base.specs.Blit.{blit}
use Rattle.mdf.specs.Chain.{Fragment, Found, found, stopped}
use Rattle.work_words.specs.Words.{fragment_words}
use Rattle.fields.specs.declared.refusal.Refusal.{Refusal}
use Rattle.fields.specs.Answer.{number_of, place_of}
use Rattle.chains.specs.declared.chain.Stopped.{Stopped}

-- three words for each fragment, past n of them; what would lie past the end of w is lost
unfoldable pub kept : ℕ → List Fragment → List ℕ → List ℕ
kept n fs w = blit (3 * n) (fragment_words fs) w

-- a refusal on the way, with n fragments kept before it
abbrev pub counted : {A : Type 0} → ℕ → Result A Refusal → Result A Stopped
counted n (Ok x) = Ok x
counted n (Err e) = Err (record { refusal = e; count = n })

-- so many fragments were kept, to the end or to a refusal's number and place; and the words
pub data Given : Type 0 where
  done : ℕ → List ℕ → Given
  halted : ℕ → ℕ → ℕ → List ℕ → Given

-- the code's answer
abbrev pub given : Result ℕ Stopped → List ℕ → Given
given (Ok count) w = done count w
given (Err e) w = halted (number_of e.refusal) (place_of e.refusal) e.count w

unfoldable pub laid : Found → ℕ → List ℕ → Given
laid (found fs) n w = done (n + length fs) (kept n fs w)
laid (stopped number place fs) n w = halted number place (n + length fs) (kept n fs w)
