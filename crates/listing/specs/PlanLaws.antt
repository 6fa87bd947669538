-- The words that planning leaves give the plan's own listing.
use Rattle.std.specs.Prelude.{ℕ, suc, ◌+◌, ◌*◌, ◌-◌, ◌≤◌, ◌<◌, List, [], ◌∷◌, ◌++◌, Bool, true, false, ◌≡◌, length, get_or}
use Rattle.std.proofs.Common.{append_assoc, sym, subst, add-zero}
use Rattle.std.proofs.Math.Option.{Option, none, some}
use Rattle.std.proofs.Math.Path.{refl}
use native.Mathlib.Omega.{arith}
use Rattle.base.specs.ChoiceLaws.{eq_yes, eq_no}
use Rattle.base.specs.Checked.{fine}
use Rattle.base.specs.Blit.{blit}
use Rattle.base.specs.BlitLaws.{length-blit}
use Rattle.mdf.specs.Chain.{Fragment}
use Rattle.work_words.specs.Words.{fragment_words}
use Rattle.plan.specs.Columns.{Column, Signal, no_signal, signal_data, size_of_signal, Omission, Plan}
use Rattle.plan.specs.Data.{signal_in}
use Rattle.work_words.specs.PlanWords.{time_word, column_words, columns_words, signal_fragments, omission_pairs, laid_plan}
use Rattle.plan.specs.Layout.{column_blocks}
use Rattle.payload_laws.specs.SignalLaws.{length_signal}
use Rattle.planning.specs.TimeWordLaws.{blit_among}
use Rattle.placing.specs.InWords.{blocks_at, Columns, signal_bytes_of, AllBounded, Referring}
use Rattle.placing.specs.ColumnsLaws.{Reads, stand_reads, stand-rest, blocks-of, payload_of_lem, signal_of_lem, all-within, columns-stand}
use Rattle.result.specs.Guarantee.{In, here, there}
use Rattle.result.specs.Payload.{signal_bytes}
use Rattle.result.specs.Listing.{decimal, listed_bytes, column_line, column_lines, omission_lines, plan_lines}
use Rattle.listing.specs.Lines.{
  number_then,
  letter_of,
  master_of,
  line_front,
  line_sizes,
  bytes_at,
  line_amounts,
  line_in,
  lines_in,
  omission_in,
  omissions_in,
  columns_word,
  omitted_word,
  columns_part,
  omissions_part,
  plan_in,
  AllCount,
}

-- ---- the words of column k
record Line (w f : List ℕ) (m k : ℕ) (c : Column) : Type 0 where
  is_time_lem : get_or w (8 * k + 4) 0 ≡ time_word c.is_time_lem
  reads : Reads w f m (8 * k) c

stand-line : (w f : List ℕ) (m k : ℕ) (c : Column) (cs : List Column) → Columns w f m (8 * k) (c ∷ cs) → Line w f m k c
unfolding columns_words column_words
stand-line w f m k c cs h = record { is_time_lem = h.at 4 (omega arith); reads = stand_reads w f m (8 * k) c cs h }

next-columns : (w f : List ℕ) (m k : ℕ) (c : Column) (cs : List Column) → Columns w f m (8 * k) (c ∷ cs)
    → Columns w f (m + size_of_signal c.signal_of) (8 * (k + 1)) cs
next-columns w f m k c cs h =
    let e : 8 * k + 8 ≡ 8 * (k + 1) = omega arith in
    subst (λ (p : ℕ). Columns w f (m + size_of_signal c.signal_of) p cs) e (stand-rest w f m (8 * k) c cs h)

letter_time : letter_of 1 ≡ 116
unfolding letter_of
letter_time = sym (eq_yes _ _ _ _ refl refl)

letter_signal : letter_of 0 ≡ 115
unfolding letter_of
letter_signal = sym (eq_no _ _ _ _ (λ e. omega arith) refl)

master_none : master_of 0 ≡ 45 ∷ []
unfolding master_of
master_none = sym (eq_yes _ _ _ _ refl refl)

master_some : (m : ℕ) → master_of (m + 1) ≡ decimal m
unfolding master_of
master_some m = let e : m + 1 - 1 ≡ m = omega arith in sym (eq_no _ _ _ _ (λ q. omega arith) (rw e))

-- the bytes of signal data that lies in the image
length-bytes : (s : List ℕ) (g : Signal) → signal_in s g ≡ fine → length (signal_bytes s g) ≡ signal_bytes_of g
length-bytes s no_signal e = refl
length-bytes s (signal_data fs) e = length_signal s fs e

module _ (s : List ℕ) (size : ℕ) {w f : List ℕ} {m k : ℕ} {c : Column} (l : Line w f m k c) where
  bytes_of : signal_in s c.signal_of ≡ fine → bytes_at s w f k ≡ listed_bytes s c
  unfolding bytes_at
  bytes_of e = rw (payload_of_lem l.reads s, signal_of_lem l.reads, length-bytes s c.signal_of e)

  line_of : signal_in s c.signal_of ≡ fine → line_in s size w f k ≡ column_line s size k c
  unfolding line_in line_front line_sizes line_amounts number_then column_line
  line_of y = go c.is_time_lem c.master refl refl
    where
      r : Reads w f m (8 * k) c
      r = l.reads

      b : blocks_at s size w (8 * k) ≡ column_blocks s size c
      b = blocks-of r s size

      go : (t : Bool) (n : Option ℕ) → c.is_time_lem ≡ t → c.master ≡ n → line_in s size w f k ≡ column_line s size k c
      go true none e g =
          rw (← b, ← bytes_of y, l.is_time_lem, r.master, e, g, letter_time, master_none, r.channel, r.group, r.records) (simp append_assoc)
      go true (some n) e g =
          rw (← b, ← bytes_of y, l.is_time_lem, r.master, e, g, letter_time, master_some n, r.channel, r.group, r.records) (simp append_assoc)
      go false none e g =
          rw (← b, ← bytes_of y, l.is_time_lem, r.master, e, g, letter_signal, master_none, r.channel, r.group, r.records) (simp append_assoc)
      go false (some n) e g =
          rw (← b, ← bytes_of y, l.is_time_lem, r.master, e, g, letter_signal, master_some n, r.channel, r.group, r.records) (simp append_assoc)

-- ---- all columns, all omissions

-- the signal data of each column lies in the image
abbrev pub SignalsFine : List ℕ → List Column → Type 0
SignalsFine s cs = (c : Column) → In c cs → signal_in s c.signal_of ≡ fine

pub lines_of : (s : List ℕ) (size : ℕ) (w f : List ℕ) (m k : ℕ) (cs : List Column) → Columns w f m (8 * k) cs → SignalsFine s cs
    → lines_in s size w f k (length cs) ≡ column_lines s size k cs
unfolding lines_in column_lines
lines_of s size w f m k [] h g = refl
lines_of s size w f m k (c ∷ cs) h g =
    rw (
      line_of s size (stand-line w f m k c cs h) (g c here),
      lines_of s size w f (m + size_of_signal c.signal_of) (k + 1) cs (next-columns w f m k c cs h) (λ x j. g x (there j)),
    )

pub omissions_of_lem : (w : List ℕ) (i : ℕ) (os : List Omission) → ((j : ℕ) → j < 2 * length os → get_or w (i + j) 0 ≡ get_or (omission_pairs os) j 0)
    → omissions_in w i (length os) ≡ omission_lines os
unfolding omissions_in omission_in number_then omission_pairs omission_lines
omissions_of_lem w i [] h = refl
omissions_of_lem w i (o ∷ os) h =
    let a : get_or w i 0 ≡ o.at = rw (add-zero i) at (h 0 (omega arith)) in
    let b : get_or w (i + 1) 0 ≡ o.reason = h 1 (omega arith) in
    let r = omissions_of_lem w (i + 2) os (λ j l. let e : i + 2 + j ≡ i + suc (suc j) = omega arith in rw e (h (suc (suc j)) (omega arith))) in
    rw (a, b, r) (simp append_assoc)

-- ---- the plan
join : (a b c d e f g h : List ℕ) → a ++ (b ++ c) ++ d ++ (e ++ (f ++ g) ++ h) ≡ a ++ b ++ c ++ d ++ e ++ f ++ g ++ h
join a b c d e f g h = simp append_assoc

length_pairs : (os : List Omission) → length (omission_pairs os) ≡ 2 * length os
unfolding omission_pairs
length_pairs [] = refl
length_pairs (o ∷ os) = let e = length_pairs os in omega arith

module _ (p : Plan) (fs : List Fragment) (w f : List ℕ) (few : length p.columns ≤ 512) (few_omissions : length p.omissions ≤ 1024)
    (long : 6144 ≤ length w) (few_fragments : length fs + length (signal_fragments p.columns) ≤ 1024) (long_fragments : 3072 ≤ length f) where
  -- the words that planning leaves
  abbrev columns_laid : List ℕ
  columns_laid = laid_plan (length fs) p w

  abbrev fragments_laid : List ℕ
  fragments_laid = blit 0 (fragment_words (fs ++ signal_fragments p.columns)) f

  laid_pairs : (j : ℕ) → j < 2 * length p.omissions → get_or columns_laid (4096 + j) 0 ≡ get_or (omission_pairs p.omissions) j 0
  unfolding laid_plan
  laid_pairs j h =
      let m = length_pairs p.omissions in
      let v = length-blit 0 (columns_words (length fs) p.columns) w in
      blit_among (omission_pairs p.omissions) 4096 j (blit 0 (columns_words (length fs) p.columns) w) (omega arith) (omega arith)

  stand : Columns columns_laid fragments_laid (length fs) 0 p.columns
  stand = columns-stand p fs w f few (omega arith) few_fragments long_fragments

  -- what put_plan_lines writes of a plan that was laid over words
  pub plan-listed : (s : List ℕ) (size : ℕ) → SignalsFine s p.columns
      → plan_in s size columns_laid fragments_laid (length p.columns) (length p.omissions) ≡ plan_lines s size p
  unfolding plan_in columns_part omissions_part number_then plan_lines
  plan-listed s size g =
      rw (lines_of s size columns_laid fragments_laid (length fs) 0 p.columns stand g, omissions_of_lem columns_laid 4096 p.omissions laid_pairs)
      (join columns_word (decimal (length p.columns)) (10 ∷ []) (column_lines s size 0 p.columns)
      omitted_word (decimal (length p.omissions)) (10 ∷ []) (omission_lines p.omissions))

  -- bounds of columns are bounds of their words
  pub laid-counts : (ph : Bool) (s : List ℕ) (size : ℕ) → AllBounded s size p.columns → Referring ph s p.columns → AllCount s columns_laid fragments_laid (length p.columns)
  unfolding bytes_at
  laid-counts ph s size b r =
      let a = all-within ph s size columns_laid fragments_laid (length fs) 0 p.columns stand b r in
      record { each = λ k l. let e : 0 + 8 * k ≡ 8 * k = omega arith in let v = rw e at (a.each k l) in omega (arith, v.payload, v.signal) }
