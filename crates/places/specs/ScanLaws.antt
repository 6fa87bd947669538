-- The place before all records is one up to which records were found.
use Rattle.std.specs.Prelude.{ℕ, ◌<◌, List, [], ◌∷◌, ◌≡◌, refl, length, get_or}
use Rattle.std.proofs.Common.{◌∙◌, arith}
use Rattle.base.specs.Checked.{ok, fine}
use Rattle.base.specs.CheckedLaws.{then_ok}
use Rattle.base.specs.Blit.{part}
use Rattle.mdf.specs.Records.{joined, Frame, unsorted_frames}
use Rattle.plan.specs.Data.{records_in}
use Rattle.work_words.specs.Words.{fragments_of}
use Rattle.payload_laws.specs.FramedLaws.{unsorted_several}
use Rattle.records.specs.Ahead.{ahead}
use Rattle.records.specs.AheadLaws.{joined-ahead}
use Rattle.records.specs.FragmentLaws.{from_start}
use Rattle.places.specs.Stretch.{Ready}
use Rattle.places.specs.Sorted.{SortedScan}
use Rattle.places.specs.Several.{SeveralScan}
use Rattle.places.specs.SeveralLaws.{unsorted_whole}
use Rattle.places.specs.Scan.{start, ScanOf}

-- ---- one group
sorted_start : (s : List ℕ) (d : ℕ) (gs ws : List ℕ) → length gs ≡ 1 → records_in s d gs (fragments_of ws) ≡ fine
    → SortedScan s d (get_or gs 0 0) ws start
sorted_start s d [] ws n e = absurd (omega arith)
sorted_start s d (g ∷ f ∷ gs) ws n e = absurd (omega arith)
sorted_start s d (g ∷ []) ws n e = record { checked = e; rest = refl; within = omega arith; records = refl; few = omega arith }

-- ---- several groups
-- checked data was framed
pub checked_frames : (s : List ℕ) (d : ℕ) (gs ws : List ℕ) → 0 < length gs → (length gs ≡ 1 → ⊥) → records_in s d gs (fragments_of ws) ≡ fine
    → (rs : List Frame) × (unsorted_frames s d gs (fragments_of ws) ≡ ok rs)
checked_frames s d [] ws h n e = absurd (omega arith)
checked_frames s d (g ∷ []) ws h n e = absurd (n refl)
checked_frames s d (g ∷ f ∷ gs) ws h n e =
    let a = then_ok (unsorted_frames s d (g ∷ f ∷ gs) (fragments_of ws)) (λ rs. fine) e in (a.0, a.1)

ahead-start : (s ws : List ℕ) → joined s (ahead s ws 0 0 0) ≡ joined s (fragments_of ws)
unfolding part
ahead-start s ws = joined-ahead s ws 0 0 0 ∙ rw (from_start ws)

pub several_start : (s : List ℕ) (d k : ℕ) (gs ws : List ℕ) {rs : List Frame} → unsorted_frames s d gs (fragments_of ws) ≡ ok rs
    → SeveralScan s d k gs ws start
several_start s d k gs ws {rs} e = record {
  rest = ahead-start s ws;
  within = omega arith;
  whole = record { frames = rs; read = unsorted_whole s d gs (fragments_of ws) e; known = (unsorted_several s d gs (fragments_of ws) e).known };
  records = rw e;
  few = omega arith;
}

pub scan_start : {s : List ℕ} {d k : ℕ} {gs ws : List ℕ} → Ready s d k gs ws → ScanOf s d k gs ws start
scan_start {s} {d} {k} {gs} {ws} r = record {
  alone = λ n. sorted_start s d gs ws n r.checked;
  several = λ n. let h = r.listed in let f = checked_frames s d gs ws (omega arith) n r.checked in several_start s d k gs ws f.1;
}
