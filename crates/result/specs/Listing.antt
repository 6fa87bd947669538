-- What the program `columns` prints, as bytes (document 01, placement, the example).
use Rattle.std.specs.Prelude.{ℕ, zero, suc, ◌+◌, ◌/◌, ◌%◌, List, [], ◌∷◌, ◌++◌, Bool, true, false, length}
use Rattle.std.proofs.Math.Option.{Option, none, some}
use Rattle.base.specs.Choice.{if_eq}
use Rattle.base.specs.Checked.{Checked, ok, refused}
use Rattle.plan.specs.Channel.{channel_bytes, keeps_inval}
use Rattle.plan.specs.Columns.{Column, Omission, Plan}
use Rattle.plan.specs.Layout.{column_blocks, payload_size}
use Rattle.result.specs.Fill.{one}
use Rattle.result.specs.Payload.{signal_bytes}
use Rattle.result.specs.Result.{Args, Decided}

-- bookkeeping: the decimal digits of n, at most so many
unfoldable pub digits_of : ℕ → ℕ → List ℕ
digits_of zero n = []
digits_of (suc k) n = let more = digits_of k (n / 10) in if_eq (n / 10) 0 [] more ++ ((48 + n % 10) ∷ [])

-- bookkeeping: a number of at most 64 bits
unfoldable pub decimal : ℕ → List ℕ
decimal n = digits_of 20 n

abbrev blank : List ℕ
blank = 32 ∷ []

abbrev newline : List ℕ
newline = 10 ∷ []

-- `t` for a time column, `s` for a signal column
abbrev letter : Bool → List ℕ
letter true = 116 ∷ []
letter false = 115 ∷ []

-- the master's column, or `-`
abbrev master_text : Option ℕ → List ℕ
master_text none = 45 ∷ []
master_text (some m) = decimal m

-- the seventh field: "the column's payload bytes plus the bytes of its joined signal data, without block headers" (document 02, request 3)
abbrev pub listed_bytes : List ℕ → Column → ℕ
listed_bytes s c = payload_size s c + length (signal_bytes s c.signal_of)

-- "column, t time or s signal, data bytes, invalidation byte, records, blocks, payload bytes, master column or `-`"
unfoldable pub column_line : List ℕ → ℕ → ℕ → Column → List ℕ
column_line s size k c =
    decimal k ++ blank ++ letter c.is_time_lem ++ blank ++ decimal (channel_bytes s c.channel) ++ blank
    ++ decimal (one (keeps_inval s c.group.at c.channel)) ++ blank ++ decimal c.group.records ++ blank
    ++ decimal (column_blocks s size c) ++ blank ++ decimal (listed_bytes s c) ++ blank ++ master_text c.master ++ newline

-- a line for each column, from number k on
unfoldable pub column_lines : List ℕ → ℕ → ℕ → List Column → List ℕ
column_lines s size k [] = []
column_lines s size k (c ∷ cs) = column_line s size k c ++ column_lines s size (k + 1) cs

-- "below the last line one `address reason` line per omission"
unfoldable pub omission_lines : List Omission → List ℕ
omission_lines [] = []
omission_lines (o ∷ os) = decimal o.at ++ blank ++ decimal o.reason ++ newline ++ omission_lines os

-- `columns` and a blank; `omitted` and a blank; `refused` and a blank; a blank, `place` and a blank
abbrev columns_text : List ℕ
columns_text = 99 ∷ 111 ∷ 108 ∷ 117 ∷ 109 ∷ 110 ∷ 115 ∷ 32 ∷ []

abbrev omitted_text : List ℕ
omitted_text = 111 ∷ 109 ∷ 105 ∷ 116 ∷ 116 ∷ 101 ∷ 100 ∷ 32 ∷ []

abbrev refused_text : List ℕ
refused_text = 114 ∷ 101 ∷ 102 ∷ 117 ∷ 115 ∷ 101 ∷ 100 ∷ 32 ∷ []

abbrev place_text : List ℕ
place_text = 32 ∷ 112 ∷ 108 ∷ 97 ∷ 99 ∷ 101 ∷ 32 ∷ []

-- "columns N", a line per column, "omitted N", a line per omission
unfoldable pub plan_lines : List ℕ → ℕ → Plan → List ℕ
plan_lines s size p =
    columns_text ++ decimal (length p.columns) ++ newline ++ column_lines s size 0 p.columns
    ++ omitted_text ++ decimal (length p.omissions) ++ newline ++ omission_lines p.omissions

-- "A refusal writes only `refused N place P`."
abbrev pub refusal_text : ℕ → ℕ → List ℕ
refusal_text number place = refused_text ++ decimal number ++ place_text ++ decimal place ++ newline

abbrev pub listing : Args → Checked Decided → List ℕ
listing x (ok d) = plan_lines x.image x.block_size d.planned
listing x (refused number place) = refusal_text number place
