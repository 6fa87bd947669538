-- Two groups whose time columns are compared (document 02, request 8: "comparing .. the columns' bytes").
use Rattle.std.specs.Prelude.{ℕ, ◌≤◌, ◌<◌, List, Bool, true, false, ◌≡◌, length, get_or}
use Rattle.base.specs.Checked.{fine}
use Rattle.mdf.specs.Group.{is_storage}
use Rattle.mdf.specs.Records.{most64, size_of}
use Rattle.work_words.specs.Words.{fragments_of}
use Rattle.plan.specs.Channel.{channel_bytes, keeps_inval, fits, width}
use Rattle.result.specs.Payload.{group_records, cells}
use Rattle.result.specs.Sharing.{same, streams_in}
use Rattle.comparing.specs.declared.times.Clock.{Clock}

-- the records of a group, whose DG has the groups gs and fragments by the words ws
abbrev pub clock_records : List ℕ → Clock → List ℕ → List ℕ → List (List ℕ)
clock_records s c gs ws = group_records s c.dg c.number gs (fragments_of ws)

-- the bytes of its time column
abbrev pub clock_cells : List ℕ → Clock → List ℕ → List ℕ → List ℕ
clock_cells s c gs ws = cells s c.at c.master (clock_records s c gs ws)

-- the width of that
abbrev pub clock_width : List ℕ → Clock → ℕ
clock_width s c = width s c.at c.master

-- it is one of its DG's groups and no VLSD storage, and its master fits; where the column has a width, "the compared groups' data" was "checked",
-- has a size, and as many records as were counted
pub record Comparable (s : List ℕ) (c : Clock) (gs ws : List ℕ) : Type 0 where
  pub is_in : c.number < length gs
  pub at : get_or gs c.number 0 ≡ c.at
  pub plain : is_storage s c.at ≡ false
  pub fitting : fits s c.at c.master ≡ true
  pub checked : 0 < clock_width s c → streams_in s c.dg gs (fragments_of ws) ≡ fine
  pub small : 0 < clock_width s c → size_of (fragments_of ws) ≤ most64
  pub counted : 0 < clock_width s c → length (clock_records s c gs ws) ≡ c.records

-- two groups have what equal keys give
pub record Alike (s : List ℕ) (a b : Clock) : Type 0 where
  pub count : a.records ≡ b.records
  pub bytes : channel_bytes s a.master ≡ channel_bytes s b.master
  pub keep : keeps_inval s a.at a.master ≡ keeps_inval s b.at b.master

-- the promise of a function that compares their time columns
abbrev pub TimesSame : List ℕ → Clock → List ℕ → List ℕ → Clock → List ℕ → List ℕ → Bool → Type 0
TimesSame s a gs ws b hs vs r =
    Comparable s a gs ws → Comparable s b hs vs → Alike s a b → r ≡ same (clock_cells s a gs ws) (clock_cells s b hs vs)
