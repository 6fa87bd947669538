-- The listing of a whole call: what is written, and what the work slices are left with.
use Rattle.std.specs.Prelude.{ℕ, ◌+◌, ◌*◌, ◌≤◌, List, ◌≡◌, length}
use Rattle.base.specs.Blit.{blit}
use Rattle.base.specs.Choice.{if_lt}
use Rattle.base.specs.Checked.{and_then}
use Rattle.result.specs.Result.{Args, lent_in, answer, work_in, work_left}
use Rattle.result.specs.Listing.{refusal_text, listing}
use Rattle.listing.specs.Lines.{plan_in}

-- 20, 21, or the plan of n columns and m omissions in words w and f, for a file of so many bytes, an output and a list of so many
unfoldable pub answer_in : List ℕ → ℕ → List ℕ → List ℕ → ℕ → ℕ → ℕ → ℕ → ℕ → List ℕ
answer_in s size w f n m bytes out list =
    if_lt out bytes (refusal_text 20 bytes) (if_lt list (2 * m + 1) (refusal_text 21 (2 * m + 1)) (plan_in s size w f n m))

-- the listing of a call with work slices ws, an output and a list of so many
abbrev pub listing_of : Args → ℕ → ℕ → List (List ℕ) → List ℕ
listing_of x out list ws = listing x (and_then (work_in ws) (λ _. answer x out list))

-- it stands at the front of the lines, r is its length, 119,354 at most; the slices are as after a conversion
pub record Listed (x : Args) (out list : ℕ) (ws : List (List ℕ)) (lines : List ℕ) (r : ℕ) (lines' : List ℕ) (ws' : List (List ℕ)) : Type 0 where
  pub is : lines' ≡ blit 0 (listing_of x out list ws) lines
  pub long : r ≡ length (listing_of x out list ws)
  pub small : r ≤ 119354
  pub words : ws' ≡ work_left (and_then (work_in ws) (λ _. lent_in x)) ws
