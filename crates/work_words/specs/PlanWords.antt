-- Bookkeeping: how planning keeps columns and omissions in lent words: eight words for a column, two for an omission, and the signal data's fragments after the walk's.
use Rattle.std.specs.Prelude.{ℕ, ◌+◌, List, [], ◌∷◌, ◌++◌, Bool, true, false}
use Rattle.std.proofs.Math.Option.{Option, none, some}
use Rattle.base.specs.Blit.{blit}
use Rattle.mdf.specs.Chain.{Fragment}
use Rattle.plan.specs.Columns.{Column, Signal, no_signal, signal_data, size_of_signal, Omission, Plan}

-- 1 for a time column
abbrev pub time_word : Bool → ℕ
time_word true = 1
time_word false = 0

-- 0 for none, else the master's column and 1
abbrev pub master_word : Option ℕ → ℕ
master_word none = 0
master_word (some m) = m + 1

-- 0 for none, else the number of fragments before its own and 1
abbrev pub signal_word : ℕ → Signal → ℕ
signal_word n no_signal = 0
signal_word n (signal_data fs) = n + 1

-- CN, CG, DG, records, time, master, signal data, its number of fragments; n fragments are kept before this column's
unfoldable pub column_words : ℕ → Column → List ℕ
column_words n c =
    c.channel ∷ c.group.at ∷ c.group.data_group.at ∷ c.group.records ∷ time_word c.is_time_lem ∷ master_word c.master
    ∷ signal_word n c.signal_of ∷ size_of_signal c.signal_of ∷ []

-- of all columns
unfoldable pub columns_words : ℕ → List Column → List ℕ
columns_words n [] = []
columns_words n (c ∷ cs) = column_words n c ++ columns_words (n + size_of_signal c.signal_of) cs

-- address and reason of each omission
unfoldable pub omission_pairs : List Omission → List ℕ
omission_pairs [] = []
omission_pairs (o ∷ os) = o.at ∷ o.reason ∷ omission_pairs os

-- the fragments of a column's signal data
abbrev pub fragments_in : Signal → List Fragment
fragments_in no_signal = []
fragments_in (signal_data fs) = fs

-- the same of all columns, in order
unfoldable pub signal_fragments : List Column → List Fragment
signal_fragments [] = []
signal_fragments (c ∷ cs) = fragments_in c.signal_of ++ signal_fragments cs

-- columns from 0 on, omissions from here on
abbrev pub omissions_at : ℕ
omissions_at = 4096

-- a plan laid over words; n fragments were found in the walk
unfoldable pub laid_plan : ℕ → Plan → List ℕ → List ℕ
laid_plan n p w = blit omissions_at (omission_pairs p.omissions) (blit 0 (columns_words n p.columns) w)
