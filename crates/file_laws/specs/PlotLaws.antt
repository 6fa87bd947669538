-- A plot: what one entry does, a table of none, of one, cut in two, of too many; the destination keeps its length.
use Rattle.std.specs.Prelude.{ℕ, suc, ◌+◌, ◌≤◌, ◌<◌, List, [], ◌∷◌, ◌++◌, Bool, true, false, ◌≡◌, refl, length, ltb}
use Rattle.std.proofs.Common.{sym, ◌∙◌, add-zero, add-suc, suc-add, arith, length-append, ltb-true, ltb-false}
use Rattle.std.proofs.Math.Path.{ap}
use Rattle.base.specs.Blit.{part, blit}
use Rattle.base.specs.BlitLaws.{length-blit, length_part}
use Rattle.base.specs.Choice.{pick, if_lt}
use Rattle.base.specs.ChoiceLaws.{lt_yes, lt_no}
use Rattle.base.specs.Checked.{Checked, ok, refused, Verdict, fine}
use Rattle.base.specs.CheckedLaws.{refused≢ok}
use Rattle.file.specs.Form.{FileColumn}
use Rattle.file.specs.Range.{asked, bytes_of, range_of, Copied}
use Rattle.file.specs.Plot.{Entry, fetched, read_at, laid_over, read_entry, single, Outcome, served, stopped, Plotted, entry_then, plot_from, plotted}
use Rattle.file_laws.specs.RangeLaws.{read_fits}

-- ---- one entry

-- its column is refused: the reader's refusal, and the destination is left
pub single_refused : (s : List ℕ) (e : Entry) (d : List ℕ) (number place : ℕ) → asked s e.column e.first e.count ≡ refused number place
    → single s e d ≡ record { answered = refused number place; buffer = d }
unfolding single fetched
single_refused s e d number place q = rw q

module _ (s : List ℕ) (e : Entry) (d : List ℕ) (c : FileColumn) (q : asked s e.column e.first e.count ≡ ok c) where
  -- its bytes lie in the destination: the single read of its part
  pub single_read : e.place + bytes_of s c e.count ≤ length d → single s e d ≡ laid_over e.place d (read_at s e d (bytes_of s c e.count))
  unfolding single fetched
  single_read h =
      let f : fetched s e (length d) ≡ ok (bytes_of s c e.count) =
      rw (q, ← lt_no {r = ok (bytes_of s c e.count)} (length d) (e.place + bytes_of s c e.count) (refused 25 0) (ok (bytes_of s c e.count)) h refl) in
      ap (read_entry s e d) f

  -- its records are laid there, and no 24 for a buffer comes up
  pub single_served : e.place + bytes_of s c e.count ≤ length d
      → single s e d ≡ record { answered = fine; buffer = blit e.place (range_of s e.first e.count c) d }
  single_served h =
      single_read h
      ∙ ap (laid_over e.place d) (read_fits s e.column e.first e.count (part e.place (bytes_of s c e.count) d) c q (length_part _ _ d h))

  -- they leave it
  pub single-past : length d < e.place + bytes_of s c e.count → single s e d ≡ record { answered = refused 25 0; buffer = d }
  unfolding single fetched
  single-past h =
      rw (q, ← lt_yes {r = refused 25 0} (length d) (e.place + bytes_of s c e.count) (refused 25 0) (ok (bytes_of s c e.count)) h refl)

  -- an entry of no bytes: at the destination's end it is served, past it it is refused
  pub none-at_end : bytes_of s c e.count ≡ 0 → e.place ≡ length d → (single s e d).answered ≡ fine
  none-at_end z p = ap (λ (r : Copied). r.answered) (single_served (omega (arith, z, p)))

  pub none-past_end : bytes_of s c e.count ≡ 0 → e.place ≡ length d + 1 → single s e d ≡ record { answered = refused 25 0; buffer = d }
  none-past_end z p = single-past (omega (arith, z, p))

-- the three ways of an entry
pub data Way (s : List ℕ) (e : Entry) (d : List ℕ) : Type 0 where
  column_refused : (number place : ℕ) → asked s e.column e.first e.count ≡ refused number place → Way s e d
  leaves : (c : FileColumn) → asked s e.column e.first e.count ≡ ok c → length d < e.place + bytes_of s c e.count → Way s e d
  lies : (c : FileColumn) → asked s e.column e.first e.count ≡ ok c → e.place + bytes_of s c e.count ≤ length d → Way s e d

pub way : (s : List ℕ) (e : Entry) (d : List ℕ) → Way s e d
way s e d = go (asked s e.column e.first e.count) refl
  where
    of : (c : FileColumn) → asked s e.column e.first e.count ≡ ok c → (t : Bool) → ltb (length d) (e.place + bytes_of s c e.count) ≡ t → Way s e d
    of c q true t = leaves c q (ltb-true _ _ t)
    of c q false t = lies c q (ltb-false _ _ t)

    go : (v : Checked FileColumn) → asked s e.column e.first e.count ≡ v → Way s e d
    go (ok c) q = of c q (ltb (length d) (e.place + bytes_of s c e.count)) refl
    go (refused number place) q = column_refused number place q

-- a refused entry leaves the destination
pub single_leaves : (s : List ℕ) (e : Entry) (d : List ℕ) (number place : ℕ) → (single s e d).answered ≡ refused number place → (single s e d).buffer ≡ d
single_leaves s e d number place h = go (way s e d)
  where
    go : Way s e d → (single s e d).buffer ≡ d
    go (column_refused n p q) = ap (λ (r : Copied). r.buffer) (single_refused s e d n p q)
    go (leaves c q l) = ap (λ (r : Copied). r.buffer) (single-past s e d c q l)
    go (lies c q l) = absurd (refused≢ok (sym h ∙ ap (λ (r : Copied). r.answered) (single_served s e d c q l)))

pub single-length : (s : List ℕ) (e : Entry) (d : List ℕ) → length (single s e d).buffer ≡ length d
single-length s e d = go (way s e d)
  where
    go : Way s e d → length (single s e d).buffer ≡ length d
    go (column_refused n p q) = ap (λ (r : Copied). length r.buffer) (single_refused s e d n p q)
    go (leaves c q l) = ap (λ (r : Copied). length r.buffer) (single-past s e d c q l)
    go (lies c q l) = ap (λ (r : Copied). length r.buffer) (single_served s e d c q l) ∙ length-blit _ _ d

-- ---- the table

-- over 256 entries: nothing else is looked at
pub plot_many : (s : List ℕ) (es : List Entry) (d : List ℕ) → 256 < length es → plotted s es d ≡ record { outcome = stopped 25 0 0; destination = d }
unfolding plotted
plot_many s es d h = sym (lt_yes _ _ _ _ h refl)

pub plot_few : (s : List ℕ) (es : List Entry) (d : List ℕ) → length es ≤ 256 → plotted s es d ≡ plot_from s 0 es d
unfolding plotted
plot_few s es d h = sym (lt_no _ _ _ _ h refl)

-- an empty table, on whatever image
pub plot_none : (s d : List ℕ) → plotted s [] d ≡ record { outcome = served; destination = d }
unfolding plot_from
plot_none s d = plot_few s [] d (omega arith)

-- the first entry, and the table after it
pub from_open : (s : List ℕ) (i : ℕ) (e : Entry) (es : List Entry) (d : List ℕ)
    → plot_from s i (e ∷ es) d ≡ entry_then i (single s e d).answered (single s e d).buffer (plot_from s (suc i) es (single s e d).buffer)
unfolding plot_from
from_open s i e es d = refl

-- one entry: a single read
pub plot_one : (s : List ℕ) (e : Entry) (d : List ℕ)
    → plotted s (e ∷ []) d ≡ entry_then 0 (single s e d).answered (single s e d).buffer (record { outcome = served; destination = (single s e d).buffer })
unfolding plot_from
plot_one s e d = plot_few s (e ∷ []) d (omega arith)

-- a table cut in two: the second part follows where the first was served
abbrev pub followed : Outcome → List ℕ → (List ℕ → Plotted) → Plotted
followed served d after = after d
followed (stopped number place i) d after = record { outcome = stopped number place i; destination = d }

abbrev pub followed_by : Plotted → (List ℕ → Plotted) → Plotted
followed_by p after = followed p.outcome p.destination after

from-append : (s : List ℕ) (i : ℕ) (xs ys : List Entry) (d : List ℕ) → plot_from s i (xs ++ ys) d ≡ followed_by (plot_from s i xs d) (plot_from s (i + length xs) ys)
unfolding plot_from
from-append s i [] ys d = ap (λ (k : ℕ). plot_from s k ys d) (sym (add-zero i))
from-append s i (e ∷ xs) ys d =
    go (single s e d).answered
    (from-append s (suc i) xs ys (single s e d).buffer ∙ ap (λ (k : ℕ). followed_by (plot_from s (suc i) xs (single s e d).buffer) (plot_from s k ys)) (suc-add i (length xs) ∙ sym (add-suc i (length xs))))
  where
    go : (v : Verdict) {m : Plotted} → m ≡ followed_by (plot_from s (suc i) xs (single s e d).buffer) (plot_from s (i + suc (length xs)) ys)
        → entry_then i v (single s e d).buffer m ≡ followed_by (entry_then i v (single s e d).buffer (plot_from s (suc i) xs (single s e d).buffer)) (plot_from s (i + suc (length xs)) ys)
    go (ok t) q = q
    go (refused number place) q = refl

pub plot_append : (s : List ℕ) (xs ys : List Entry) (d : List ℕ) → length (xs ++ ys) ≤ 256
    → plotted s (xs ++ ys) d ≡ followed_by (plotted s xs d) (plot_from s (length xs) ys)
plot_append s xs ys d h =
    plot_few s (xs ++ ys) d h
    ∙ from-append s 0 xs ys d
    ∙ ap (λ (p : Plotted). followed_by p (plot_from s (0 + length xs) ys)) (sym (plot_few s xs d (omega (arith, h, length-append xs ys))))
    ∙ ap (λ (k : ℕ). followed_by (plotted s xs d) (plot_from s k ys)) (omega arith)

-- the entries before are served, the next one is refused: its position is their number, their bytes stand, and the entries after it are
-- not looked at
pub plot_stops : (s : List ℕ) (xs : List Entry) (e : Entry) (ys : List Entry) (d d' : List ℕ) (number place : ℕ) → length (xs ++ e ∷ ys) ≤ 256
    → plotted s xs d ≡ record { outcome = served; destination = d' } → (single s e d').answered ≡ refused number place
    → plotted s (xs ++ e ∷ ys) d ≡ record { outcome = stopped number place (length xs); destination = d' }
plot_stops s xs e ys d d' number place h q r =
    plot_append s xs (e ∷ ys) d h
    ∙ ap (λ (p : Plotted). followed_by p (plot_from s (length xs) (e ∷ ys))) q
    ∙ from_open s (length xs) e ys d'
    ∙ ap (λ (v : Verdict). entry_then (length xs) v (single s e d').buffer (plot_from s (suc (length xs)) ys (single s e d').buffer)) r
    ∙ ap (λ (b : List ℕ). record { outcome = stopped number place (length xs); destination = b }) (single_leaves s e d' number place r)

-- the destination keeps its length
from-length : (s : List ℕ) (i : ℕ) (es : List Entry) (d : List ℕ) → length (plot_from s i es d).destination ≡ length d
unfolding plot_from
from-length s i [] d = refl
from-length s i (e ∷ es) d = go (single s e d).answered (plot_from s (suc i) es (single s e d).buffer) (from-length s (suc i) es (single s e d).buffer ∙ single-length s e d)
  where
    go : (v : Verdict) (m : Plotted) → length m.destination ≡ length d → length (entry_then i v (single s e d).buffer m).destination ≡ length d
    go (ok t) m q = q
    go (refused number place) m q = single-length s e d

pub plot_length : (s : List ℕ) (es : List Entry) (d : List ℕ) → length (plotted s es d).destination ≡ length d
unfolding plotted if_lt
plot_length s es d = go (ltb 256 (length es))
  where
    go : (t : Bool) → length (pick t (record { outcome = stopped 25 0 0; destination = d }) (plot_from s 0 es d)).destination ≡ length d
    go true = refl
    go false = from-length s 0 es d
