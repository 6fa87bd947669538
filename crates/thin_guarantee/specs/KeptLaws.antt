-- The columns that are kept, one after the other, with all that was tested of them.
use Rattle.std.specs.Prelude.{ℕ, suc, ◌+◌, ◌≤◌, ◌<◌, List, [], ◌∷◌, Bool, true, false, ◌≡◌, refl, length}
use Rattle.std.proofs.Common.{arith}
use Rattle.base.specs.Choice.{pick}
use Rattle.base.specs.ChoiceLaws.{lt_back}
use Rattle.base.specs.Field.{le_at}
use Rattle.base.specs.Checked.{fine}
use Rattle.base.specs.CheckedLaws.{refused≢ok, then_fine}
use Rattle.mdf.specs.Block.{size_at, data_at, header_in, length_in}
use Rattle.mdf.specs.Chain.{dt, fragment, is_in}
use Rattle.mdf.specs.Records.{most64, ranges_in}
use Rattle.plan.specs.Columns.{Column, Signal}
use Rattle.plan.specs.Data.{signal_in}
use Rattle.plan.specs.Photos.{photo_count, photos_in}
use Rattle.plan.specs.PhotosLaws.{length-references}
use Rattle.result.specs.Member.{In, here, there}
use Rattle.copies_laws.specs.AnswerLaws.{on_eq}
use Rattle.plan_laws.specs.Answers.{eq_cases}
use Rattle.shown_laws.specs.ImageBytes.{field_below}
use Rattle.guarantee.specs.Theorem.{AllBytes}
use Rattle.file.specs.Form.{FileColumn}
use Rattle.file_laws.specs.JoinedLaws.{ranges_in_lem}
use Rattle.sheet.specs.Sheet.{master_of}
use Rattle.thin.specs.Kept.{signal_place, is_signal, signal_sound, master_sound, columns_sound, is_taken, masters_kept, signal_kept, kept_column, kept_from, photos_kept}
use Rattle.thin_laws.specs.Inside.{Inside}
use Rattle.thin_guarantee.specs.OpenedFacts.{ColumnFacts}
use Rattle.thin_guarantee.specs.Numbers.{masters-next}

-- ---- what was tested of a column that is kept
pub record Tested (s numbers : List ℕ) (all : List FileColumn) (c : FileColumn) : Type 0 where
  pub facts : ColumnFacts s c
  pub signal : signal_sound s c.cn ≡ fine
  pub master : master_sound s all c.cg ≡ fine
  pub kept : is_taken (master_of s all c.cg) numbers ≡ false
  pub photos : photos_in true s c.cn ≡ fine

-- the columns ds are kept of the columns cs from number k on
pub data Thinned (s numbers : List ℕ) (all : List FileColumn) : ℕ → List FileColumn → List Column → Type 0 where
  done : {k : ℕ} → Thinned s numbers all k [] []
  out : {k : ℕ} {c : FileColumn} {cs : List FileColumn} {ds : List Column} → is_in k numbers ≡ true → Thinned s numbers all (suc k) cs ds
      → Thinned s numbers all k (c ∷ cs) ds
  kept : {k : ℕ} {c : FileColumn} {cs : List FileColumn} {ds : List Column} → is_in k numbers ≡ false → Tested s numbers all c
      → Thinned s numbers all (suc k) cs ds → Thinned s numbers all k (c ∷ cs) (kept_column s numbers all c ∷ ds)

sound-next : (s : List ℕ) (all : List FileColumn) (c : FileColumn) (cs : List FileColumn) → columns_sound s all (c ∷ cs) ≡ fine
    → (signal_sound s c.cn ≡ fine) × (master_sound s all c.cg ≡ fine) × (columns_sound s all cs ≡ fine)
unfolding columns_sound
sound-next s all c cs e =
    let a = then_fine (signal_sound s c.cn) _ e in
    let b = then_fine (master_sound s all c.cg) _ a.1 in
    (a.0, b.0, b.1)

photos_next : (s : List ℕ) (c : Column) (cs : List Column) → photos_kept s (c ∷ cs) ≡ fine
    → (photos_in true s c.channel ≡ fine) × (photos_kept s cs ≡ fine)
unfolding photos_kept
photos_next s c cs e = then_fine (photos_in true s c.channel) _ e

pub thinned : (s numbers : List ℕ) (all : List FileColumn) (k : ℕ) (cs : List FileColumn) → ((c : FileColumn) → In c cs → ColumnFacts s c)
    → columns_sound s all cs ≡ fine → masters_kept s numbers all k cs ≡ fine → photos_kept s (kept_from s numbers all k cs) ≡ fine
    → Thinned s numbers all k cs (kept_from s numbers all k cs)
unfolding kept_from
thinned s numbers all k [] f a m p = done
thinned s numbers all k (c ∷ cs) f a m p =
    let b = sound-next s all c cs a in
    let n = masters-next s numbers all k c cs m in
    go (is_in k numbers) refl (f c here) b.0 b.1 n.0 (thinned s numbers all (suc k) cs (λ d i. f d (there i)) b.2 n.1) p
  where
    go : (t : Bool) → is_in k numbers ≡ t → ColumnFacts s c → signal_sound s c.cn ≡ fine → master_sound s all c.cg ≡ fine
        → (is_in k numbers ≡ false → is_taken (master_of s all c.cg) numbers ≡ false)
        → (photos_kept s (kept_from s numbers all (suc k) cs) ≡ fine → Thinned s numbers all (suc k) cs (kept_from s numbers all (suc k) cs))
        → photos_kept s (pick t (kept_from s numbers all (suc k) cs) (kept_column s numbers all c ∷ kept_from s numbers all (suc k) cs)) ≡ fine
        → Thinned s numbers all k (c ∷ cs)
        (pick t (kept_from s numbers all (suc k) cs) (kept_column s numbers all c ∷ kept_from s numbers all (suc k) cs))
    go true q g x y z more h = out q (more h)
    go false q g x y z more h =
        let r = photos_next s (kept_column s numbers all c) (kept_from s numbers all (suc k) cs) h in
        kept q (record { facts = g; signal = x; master = y; kept = z q; photos = r.0 }) (more r.1)

-- ---- its SD lies in the file
pub record SignalIn (s : List ℕ) (a : ℕ) : Type 0 where
  pub least : 24 ≤ size_at s a
  pub within : a + size_at s a ≤ length s

signal_in_lem : (s : List ℕ) (a : ℕ) → is_signal s a ≡ fine → SignalIn s a
unfolding is_signal length_in
signal_in_lem s a e =
    let h = then_fine (header_in s a) _ e in
    let l = then_fine (length_in most64 s a) _ h.1 in
    let b = lt_back _ _ _ _ l.0 refused≢ok in
    let c = lt_back _ _ _ _ b.1 refused≢ok in
    let d = lt_back _ _ _ _ c.1 refused≢ok in
    record { least = omega (arith, b.0); within = d.0 }

fragment_in : (s : List ℕ) (a : ℕ) → SignalIn s a → ranges_in s (fragment s a dt ∷ []) ≡ fine
unfolding ranges_in
fragment_in s a h = ranges_in_lem s (fragment s a dt) [] (omega (arith, h.least, h.within)) refl

-- where there is signal data
pub signal_there : (s : List ℕ) (c : ℕ) → signal_sound s c ≡ fine → (signal_place s c ≡ 0 → ⊥) → SignalIn s (signal_place s c)
unfolding signal_sound
signal_there s c e z = eq_cases (signal_place s c) 0 _ _ e (λ q _. absurd (z q)) (λ _ q. signal_in_lem s (signal_place s c) q)

signals_in_lem : (s : List ℕ) (c : ℕ) → signal_sound s c ≡ fine → signal_in s (signal_kept s c) ≡ fine
unfolding signal_kept
signals_in_lem s c e =
    on_eq (λ (g : Signal). signal_in s g ≡ fine) (signal_place s c) 0 _ _ (λ _. refl) (λ z. fragment_in s (signal_place s c) (signal_there s c e z))

-- ---- its blocks lie in the file
pub tested_inside : (s : List ℕ) → AllBytes s → (numbers : List ℕ) (all : List FileColumn) (c : FileColumn) → Tested s numbers all c
    → Inside s (kept_column s numbers all c)
unfolding photo_count
tested_inside s bytes numbers all c t =
    let n : le_at 2 s (data_at s c.cn + 22) < 65536 = field_below s bytes 2 (data_at s c.cn + 22) in
    record {
      data_group = t.facts.dg_block;
      group = t.facts.cg_block;
      channel = t.facts.cn_block;
      ranges = t.facts.ranges;
      signals = signals_in_lem s c.cn t.signal;
      lengths = t.facts.lengths;
      few_photos = omega (arith, length-references s c.cn);
    }

-- every column that is kept is one of the file's
pub record FromFile (s numbers : List ℕ) (all : List FileColumn) (cs : List FileColumn) (d : Column) : Type 0 where
  pub column : FileColumn
  pub is_in : In column cs
  pub tested : Tested s numbers all column
  pub same : d ≡ kept_column s numbers all column

pub from-file : {s numbers : List ℕ} {all : List FileColumn} {k : ℕ} {cs : List FileColumn} {ds : List Column} → Thinned s numbers all k cs ds
    → {d : Column} → In d ds → FromFile s numbers all cs d
from-file {s = s} {numbers = numbers} {all = all} (done {k = k}) {d = d} i = elim i [ ]
from-file (out e m) i = let r = from-file m i in record { column = r.column; is_in = there r.is_in; tested = r.tested; same = r.same }
from-file (kept {c = c} e t m) here = record { column = c; is_in = here; tested = t; same = refl }
from-file (kept e t m) (there i) = let r = from-file m i in record { column = r.column; is_in = there r.is_in; tested = r.tested; same = r.same }
