-- Bookkeeping: the records of several groups in bytes, one after the other, and a place between two of them.
use Rattle.std.specs.Prelude.{ℕ, ◌≤◌, ◌<◌, List, [], ◌∷◌, ◌≡◌, length, drop}
use Rattle.mdf.specs.Walk.{id_size}
use Rattle.mdf.specs.Records.{Frame, framed, frame_at, joined, unsorted_frames, unsorted_records}
use Rattle.result.specs.Payload.{framed_records}
use Rattle.payload_laws.specs.FramedLaws.{AllKnown}
use Rattle.work_words.specs.Words.{fragments_of}
use Rattle.records.specs.Ahead.{ahead}
use Rattle.places.specs.declared.stretch.Scan.{Scan}

-- the bytes are those of these records
pub data Read (s : List ℕ) (n : ℕ) (gs : List ℕ) : List ℕ → List Frame → Type 0 where
  end : {l : List ℕ} → length l ≡ 0 → Read s n gs l []
  more : {l : List ℕ} {r : Frame} {rs : List Frame} → 0 < length l → frame_at s n gs l ≡ framed r → Read s n gs (drop r.size l) rs
      → Read s n gs l (r ∷ rs)

pub record WholeFrames (s : List ℕ) (n : ℕ) (gs l : List ℕ) : Type 0 where
  pub frames : List Frame
  pub read : Read s n gs l frames
  pub known : AllKnown s n gs frames

-- ---- a place in the data of the DG at d: what is ahead of it is the rest of the joined data, whose records are whole; those of group k
-- are the group's from the place's number on
pub record SeveralScan (s : List ℕ) (d k : ℕ) (gs ws : List ℕ) (c : Scan) : Type 0 where
  pub rest : joined s (ahead s ws c.at c.position c.left) ≡ drop c.offset (joined s (fragments_of ws))
  pub within : c.offset ≤ length (joined s (fragments_of ws))
  pub whole : WholeFrames s (id_size s d) gs (drop c.offset (joined s (fragments_of ws)))
  pub records : unsorted_records k whole.frames ≡ drop c.number (framed_records k (unsorted_frames s d gs (fragments_of ws)))
  pub few : c.number ≤ length (framed_records k (unsorted_frames s d gs (fragments_of ws)))
