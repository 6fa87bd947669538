-- The answers of the two calls.
use Rattle.std.specs.Prelude.{ℕ, ◌+◌, ◌*◌, ◌≤◌, ◌<◌, List, ◌≡◌}
use Rattle.base.specs.Checked.{Checked, ok, refused, fine}
use Rattle.mdf.specs.Block.{link_at}
use Rattle.mdf.specs.Records.{ranges_in, size_of}
use Rattle.std.specs.Prelude.{Result, Ok, Err, ⊤}
use Rattle.fields.specs.declared.refusal.Refusal.{Refusal}
use Rattle.fields.specs.Answer.{number_of, place_of, verdict_of}
use Rattle.file.specs.Form.{FileColumn}
use Rattle.file.specs.Range.{Copied, Place, at, split, Handed}
use Rattle.ranges.specs.declared.read.Granted.{Granted}
use Rattle.ranges.specs.declared.read.Location.{Location}
use Rattle.ranges.specs.declared.read.Location.TheVariants.{Split, At}
use Rattle.ranges.specs.Blocks.{blocks_of, column_of}

abbrev pub asked_as : List ℕ → Result Granted Refusal → Checked FileColumn
asked_as s (Ok g) = ok (column_of s g.dg g.cg g.cn)
asked_as s (Err e) = refused (number_of e) (place_of e)

abbrev pub copied_as : Result ⊤ Refusal → List ℕ → Copied
copied_as r b = record { answered = verdict_of r; buffer = b }

-- n bytes, some, from record first on lie in the blocks of the DG at d
pub record Fills (s : List ℕ) (d first w n : ℕ) : Type 0 where
  pub some : 0 < w
  pub small : w ≤ 8589934590
  pub ranges : ranges_in s (blocks_of s (link_at s d 2)) ≡ fine
  pub bytes : 0 < n
  pub inside : first * w + n ≤ size_of (blocks_of s (link_at s d 2))

-- where a range lies
abbrev pub located_as : Result Location Refusal → Checked Place
located_as (Ok Split) = ok split
located_as (Ok (At offset length)) = ok (at offset length)
located_as (Err e) = refused (number_of e) (place_of e)

abbrev pub PlaceAs : Location → Place → Type 0
PlaceAs r p = located_as (Ok r) ≡ ok p

-- the lent words and the part
abbrev pub handing : List ℕ → List ℕ → Handed
handing words bytes = record { words = words; bytes = bytes }
