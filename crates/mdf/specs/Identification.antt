-- The identification block: refusals 4, 5, 6, 7 (document 01, identification_block.rs).
use Rattle.std.specs.Prelude.{ℕ, ◌+◌, ◌*◌, ◌-◌, List, [], ◌∷◌, reverse, Bool, true, false, length, leb, eqb}
use Rattle.base.specs.Choice.{pick, if_lt, if_le, if_eq}
use Rattle.base.specs.Field.{le_at}
use Rattle.base.specs.Blit.{part}
use Rattle.base.specs.Checked.{refused, Verdict, fine}

-- `MDF` and five blanks, as the 64-bit number of the eight bytes
abbrev pub file_mark : ℕ
file_mark = 2314885530820953165

-- bookkeeping: the list without the elements in front that pass the test
unfoldable pub drop_while : (ℕ → Bool) → List ℕ → List ℕ
drop_while test [] = []
drop_while test (b ∷ bs) = let rest = drop_while test bs in pick (test b) rest (b ∷ bs)

-- "trailing zero bytes"
abbrev pub is_zero : ℕ → Bool
is_zero b = eqb b 0

-- "ASCII white space (9 to 13, 32)"
abbrev pub is_space : ℕ → Bool
is_space b = pick (eqb b 32) true (pick (leb 9 b) (leb b 13) false)

-- "Bytes 8..16 lose trailing zero bytes, then ASCII white space at both ends."
unfoldable pub trimmed : List ℕ → List ℕ
trimmed v = drop_while is_space (reverse (drop_while is_space (drop_while is_zero (reverse v))))

-- "Parts are cut at `.`": the first part
unfoldable pub first_part : List ℕ → List ℕ
first_part [] = []
first_part (b ∷ bs) = let rest = b ∷ first_part bs in pick (eqb b 46) [] rest

-- bookkeeping: what stands past the dot, or no dot
pub data Rest : Type 0 where
  absent : Rest
  rest : List ℕ → Rest

-- what stands past the first dot
unfoldable pub past_dot : List ℕ → Rest
past_dot [] = absent
past_dot (b ∷ bs) = let more = past_dot bs in pick (eqb b 46) (rest bs) more

-- bookkeeping: a decimal number, or none
pub data Number : Type 0 where
  unreadable : Number
  value : ℕ → Number

-- bookkeeping: what follows a number
abbrev pub on_number : {A : Type 0} → Number → A → (ℕ → A) → A
on_number unreadable a f = a
on_number (value n) a f = f n

-- "decimal 16-bit numbers": digits after others that came to n; a value over 65,535 is no 16-bit number
unfoldable pub digits_from : ℕ → List ℕ → Number
digits_from n [] = if_le n 65535 (value n) unreadable
digits_from n (b ∷ bs) =
    let more = digits_from (10 * n + (b - 48)) bs in
    if_lt b 48 unreadable (if_lt 57 b unreadable more)

-- "decimal": at least one digit
unfoldable pub digits : List ℕ → Number
digits [] = unreadable
digits (b ∷ bs) = digits_from 0 (b ∷ bs)

-- "decimal 16-bit numbers, a leading `+` allowed"
unfoldable pub number : List ℕ → Number
number [] = unreadable
number (b ∷ bs) = if_eq b 43 (digits bs) (digits (b ∷ bs))

-- "an absent second is 0"
abbrev pub second : Rest → Number
second absent = value 0
second (rest bs) = number (first_part bs)

-- "Version is 100 × first + second."
unfoldable pub version_of : List ℕ → Number
version_of v =
    on_number (number (first_part v)) unreadable (λ m.
    on_number (second (past_dot v)) unreadable (λ n. value (100 * m + n)))

-- "6: .. with a byte over 127": every byte is at most that
unfoldable pub is_ascii : List ℕ → Bool
is_ascii [] = true
is_ascii (b ∷ bs) = let more = is_ascii bs in pick (leb b 127) more false

-- "6: version unreadable or with a byte over 127; 7: version under 410 or over 65,535"
unfoldable pub version_in : List ℕ → Verdict
version_in v =
    pick (is_ascii v)
    (on_number (version_of (trimmed v)) (refused 6 0) (λ n. if_lt n 410 (refused 7 0) (if_lt 65535 n (refused 7 0) fine)))
    (refused 6 0)

-- "4: a header runs past the image; 5: bytes 0..8 not `MDF` and five blanks"
unfoldable pub identified : List ℕ → Verdict
identified s =
    if_lt (length s) 64 (refused 4 0)
    (if_eq (le_at 8 s 0) file_mark (version_in (part 8 8 s)) (refused 5 0))
