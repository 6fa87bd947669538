-- What the reader reads from a result (document 02, request 1): "From a result it reads the records the archive was promised."
-- The statement; Theorem has the proof.
use Rattle.std.specs.Prelude.{ℕ, ◌+◌, ◌*◌, ◌≤◌, ◌<◌, List, [], true, ◌≡◌, length, get_or}
use Rattle.std.proofs.Math.Option.{some}
use Rattle.base.specs.Blit.{part}
use Rattle.base.specs.Checked.{ok, refused, fine}
use Rattle.plan.specs.Channel.{width}
use Rattle.plan.specs.Columns.{Column}
use Rattle.plan.specs.Data.{is_nonempty}
use Rattle.result.specs.Payload.{records_of, cell}
use Rattle.result.specs.Due.{due_payload}
use Rattle.result.specs.Guarantee.{column_at}
use Rattle.file.specs.Form.{FileColumn}
use Rattle.file.specs.Opened.{opened}
use Rattle.file.specs.Range.{ranged, read_into}

-- of the final bytes f of a call with image s for which the columns cs were planned
pub record Reads (s : List ℕ) (cs : List Column) (f : List ℕ) : Type 0 where
  -- the file is opened, with as many columns: no fault, no 24
  pub columns : List FileColumn
  pub opens : opened f ≡ ok columns
  pub as_many : length columns ≡ length cs
  -- records of a planned column: the part of the payload that the archive was promised; a record has data bytes and kept invalidation byte
  pub reads : (k first count : ℕ) (c : Column) → column_at k cs ≡ some c → first + count ≤ c.group.records
      → ranged f k first count
      ≡ ok (part (first * width s c.group.at c.channel) (count * width s c.group.at c.channel) (due_payload s c))
  -- so a buffer of just as many bytes is filled with them
  pub copies : (k first count : ℕ) (c : Column) (buffer : List ℕ) → column_at k cs ≡ some c → first + count ≤ c.group.records
      → length buffer ≡ count * width s c.group.at c.channel
      → read_into f k first count buffer
      ≡ record {
        answered = fine;
        buffer = part (first * width s c.group.at c.channel) (count * width s c.group.at c.channel) (due_payload s c);
      }
  -- one of them: the channel's bytes of the group's record of that number, and its invalidation bit where it is kept
  pub each : (k r : ℕ) (c : Column) → column_at k cs ≡ some c → is_nonempty s c ≡ true → r < c.group.records
      → ranged f k r 1 ≡ ok (cell s c.group.at c.channel (get_or (records_of s c.group) r []))
  -- 22 and 23 exactly outside
  pub no_column : (k first count : ℕ) → length cs ≤ k → ranged f k first count ≡ refused 22 0
  pub no_records : (k first count : ℕ) (c : Column) → column_at k cs ≡ some c → c.group.records < first + count
      → ranged f k first count ≡ refused 23 0
