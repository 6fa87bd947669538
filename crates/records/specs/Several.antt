-- A DG with several groups: the checks before its records, and counts laid over words.
use Rattle.std.specs.Prelude.{ℕ, List, replicate}
use Rattle.base.specs.Choice.{pick, if_lt, if_eq}
use Rattle.base.specs.Blit.{blit}
use Rattle.base.specs.Checked.{Checked, ok, refused, and_then, Verdict, fine}
use Rattle.mdf.specs.Chain.{Fragment}
use Rattle.mdf.specs.Walk.{id_size}
use Rattle.mdf.specs.Records.{most64, ranges_in, any_dv, size_of, equal_ids, Frame}
use Rattle.mdf.specs.Count.{tallies}

-- "19, DG: the DT bytes .. exceed 2^64 − 1"
unfoldable pub size_in : ℕ → List Fragment → Verdict
size_in d fs = if_lt most64 (size_of fs) (refused 19 d) fine

-- "14 with equal ids first, then missing ids, then DV; fragment ranges"
unfoldable pub several_in : List ℕ → ℕ → List ℕ → List Fragment → Verdict
several_in s d gs fs =
    and_then (pick (equal_ids s gs) (refused 14 d) fine) (λ _.
    and_then (if_eq (id_size s d) 0 (refused 14 d) fine) (λ _.
    and_then (pick (any_dv fs) (refused 14 d) fine) (λ _.
    and_then (ranges_in s fs) (λ _. size_in d fs))))

-- the counts of k groups
abbrev pub tallied : ℕ → Checked (List Frame) → Checked (List ℕ)
tallied k v = and_then v (λ rs. ok (tallies k 0 rs))

-- a verdict, and the words as they are then
pub data Laid : Type 0 where
  laid : Verdict → List ℕ → Laid

-- counts laid over words; where they are refused, the words of k groups are zero
abbrev pub laid_counts : Checked (List ℕ) → ℕ → List ℕ → Laid
laid_counts (ok ns) k w = laid fine (blit 0 ns w)
laid_counts (refused number place) k w = laid (refused number place) (blit 0 (replicate k 0) w)
