-- The data stage out of words: columns, items and fragments as they are kept.
use Rattle.std.specs.Prelude.{ℕ, zero, suc, ◌+◌, ◌*◌, ◌-◌, min, List, [], ◌∷◌, Bool, true, false, length, get_or}
use Rattle.base.specs.Choice.{pick, if_lt, if_eq}
use Rattle.base.specs.Blit.{part}
use Rattle.base.specs.Checked.{and_then, Verdict, fine}
use Rattle.mdf.specs.Walk.{Item, dg, cg, cn}
use Rattle.mdf.specs.Group.{addresses, groups_of, up_to}
use Rattle.work_words.specs.Words.{fragments_of}
use Rattle.mdf.specs.Records.{ranges_in, sorted_in}
use Rattle.planning.specs.Stage.{nonempty_in}

-- some of n columns from number k on is from the DG at d and has bytes
unfoldable pub nonempty_over : List ℕ → List ℕ → ℕ → ℕ → ℕ → Bool
nonempty_over s w d k zero = false
nonempty_over s w d k (suc n) = let more = nonempty_over s w d (k + 1) n in pick (nonempty_in s w k d) true more

-- m fragments from number i on; at most 1,024 are kept
unfoldable pub ranges_over : List ℕ → List ℕ → ℕ → ℕ → Verdict
ranges_over s f i m = if_lt 1024 (i + m) fine (ranges_in s (fragments_of (part (3 * i) (3 * m) f)))

-- the signal data ranges of column k, if it is from the DG at d
unfoldable pub signal_over : List ℕ → List ℕ → List ℕ → ℕ → ℕ → Verdict
signal_over s w f d k =
    if_eq (get_or w (8 * k + 2) 0) d
    (if_eq (get_or w (8 * k + 6) 0) 0 fine (ranges_over s f (get_or w (8 * k + 6) 0 - 1) (get_or w (8 * k + 7) 0)))
    fine

-- of n columns from number k on
unfoldable pub signals_over : List ℕ → List ℕ → List ℕ → ℕ → ℕ → ℕ → Verdict
signals_over s w f d k zero = fine
signals_over s w f d k (suc n) = and_then (signal_over s w f d k) (λ _. signals_over s w f d (k + 1) n)

-- the records of the DG at d, of nf fragments with its own from number m on, and with the items past it; several groups were read to count them
unfoldable pub records_over : List ℕ → List ℕ → ℕ → ℕ → ℕ → List Item → Verdict
records_over s f nf d m is =
    if_eq (length (groups_of is)) 1
    (sorted_in s d (get_or (addresses (groups_of is)) 0 0) (fragments_of (part (3 * m) (3 * (min (up_to nf is) nf - m)) f)))
    fine

-- the data of that DG; there are nc columns
unfoldable pub data_over : List ℕ → List ℕ → List ℕ → ℕ → ℕ → ℕ → ℕ → List Item → Verdict
data_over s w f nf nc d m is =
    and_then (pick (nonempty_over s w d 0 nc) (records_over s f nf d m is) fine) (λ _. signals_over s w f d 0 nc)

-- DG by DG
unfoldable pub all_data_over : List ℕ → List ℕ → List ℕ → ℕ → ℕ → List Item → Verdict
all_data_over s w f nf nc [] = fine
all_data_over s w f nf nc (dg a m ∷ is) = and_then (data_over s w f nf nc a m is) (λ _. all_data_over s w f nf nc is)
all_data_over s w f nf nc (cg a ∷ is) = all_data_over s w f nf nc is
all_data_over s w f nf nc (cn a ∷ is) = all_data_over s w f nf nc is
