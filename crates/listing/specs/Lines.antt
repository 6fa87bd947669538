-- The listing's lines, out of the words in which planning keeps columns and omissions: eight words for a column, two for an omission.
use Rattle.std.specs.Prelude.{ℕ, zero, suc, ◌+◌, ◌*◌, ◌-◌, ◌<◌, List, [], ◌∷◌, ◌++◌, ◌≡◌, get_or}
use Rattle.base.specs.Choice.{if_eq}
use Rattle.plan.specs.Channel.{channel_bytes, keeps_inval}
use Rattle.work_words.specs.PlanWords.{omissions_at}
use Rattle.placing.specs.InWords.{blocks_at, payload_at, signal_at}
use Rattle.result.specs.Fill.{one}
use Rattle.result.specs.Listing.{decimal}

-- a number and the byte after it
unfoldable pub number_then : ℕ → ℕ → List ℕ
number_then n b = decimal n ++ (b ∷ [])

-- ---- one column

-- `t` for a time column, `s` for a signal column, by its word
unfoldable pub letter_of : ℕ → ℕ
letter_of t = if_eq t 1 116 115

pub record Letter (t r : ℕ) : Type 0 where
  pub is : r ≡ letter_of t
  pub small : r < 256

-- the master's column, or `-`, by its word
unfoldable pub master_of : ℕ → List ℕ
master_of m = if_eq m 0 (45 ∷ []) (decimal (m - 1))

-- column, letter
unfoldable pub line_front : List ℕ → ℕ → List ℕ
line_front w k = number_then k 32 ++ (letter_of (get_or w (8 * k + 4) 0) ∷ []) ++ (32 ∷ [])

-- data bytes, invalidation byte
unfoldable pub line_sizes : List ℕ → List ℕ → ℕ → List ℕ
line_sizes s w k =
    number_then (channel_bytes s (get_or w (8 * k) 0)) 32 ++ number_then (one (keeps_inval s (get_or w (8 * k + 1) 0) (get_or w (8 * k) 0))) 32

-- payload bytes and those of signal data, whose fragments stand in f
unfoldable pub bytes_at : List ℕ → List ℕ → List ℕ → ℕ → ℕ
bytes_at s w f k = payload_at s w (8 * k) + signal_at w f (8 * k)

-- records, blocks, payload bytes with signal data
unfoldable pub line_amounts : List ℕ → ℕ → List ℕ → List ℕ → ℕ → List ℕ
line_amounts s size w f k =
    number_then (get_or w (8 * k + 3) 0) 32 ++ number_then (blocks_at s size w (8 * k)) 32 ++ number_then (bytes_at s w f k) 32

-- all of them, the master column and a newline
unfoldable pub line_in : List ℕ → ℕ → List ℕ → List ℕ → ℕ → List ℕ
line_in s size w f k = line_front w k ++ line_sizes s w k ++ line_amounts s size w f k ++ master_of (get_or w (8 * k + 5) 0) ++ (10 ∷ [])

-- ---- all columns, all omissions

-- n columns from number k on
unfoldable pub lines_in : List ℕ → ℕ → List ℕ → List ℕ → ℕ → ℕ → List ℕ
lines_in s size w f k zero = []
lines_in s size w f k (suc n) = line_in s size w f k ++ lines_in s size w f (k + 1) n

-- the omission whose words stand from i on
unfoldable pub omission_in : List ℕ → ℕ → List ℕ
omission_in w i = number_then (get_or w i 0) 32 ++ number_then (get_or w (i + 1) 0) 10

unfoldable pub omissions_in : List ℕ → ℕ → ℕ → List ℕ
omissions_in w i zero = []
omissions_in w i (suc n) = omission_in w i ++ omissions_in w (i + 2) n

-- ---- the whole

-- `columns`, `omitted` with a blank after
abbrev pub columns_word : List ℕ
columns_word = 99 ∷ 111 ∷ 108 ∷ 117 ∷ 109 ∷ 110 ∷ 115 ∷ 32 ∷ []

abbrev pub omitted_word : List ℕ
omitted_word = 111 ∷ 109 ∷ 105 ∷ 116 ∷ 116 ∷ 101 ∷ 100 ∷ 32 ∷ []

unfoldable pub columns_part : List ℕ → ℕ → List ℕ → List ℕ → ℕ → List ℕ
columns_part s size w f n = columns_word ++ number_then n 10 ++ lines_in s size w f 0 n

unfoldable pub omissions_part : List ℕ → ℕ → List ℕ
omissions_part w n = omitted_word ++ number_then n 10 ++ omissions_in w omissions_at n

-- n columns and m omissions
unfoldable pub plan_in : List ℕ → ℕ → List ℕ → List ℕ → ℕ → ℕ → List ℕ
plan_in s size w f n m = columns_part s size w f n ++ omissions_part w m

-- the bytes of each of n columns are a number of 64 bits
pub record AllCount (s w f : List ℕ) (n : ℕ) : Type 0 where
  pub each : (k : ℕ) → k < n → bytes_at s w f k < 18446744073709551616
