-- The cells of records at equal distances over a window: those before it, those in it, those past it.
use Rattle.std.specs.Prelude.{ℕ, zero, suc, ◌+◌, ◌-◌, ◌*◌, ◌/◌, ◌≤◌, ◌<◌, ◌≡◌, refl, ◌⊎◌, length}
use mathlib.Core.List.{List, ◌++◌, append-nil}
use Rattle.std.proofs.Common.{sym, ap, subst, ◌∙◌, inl, inr, ⊎_elim, zero-mul, one-mul, suc-mul, add-mul, mul-le-mul_right, div-lt_iff_lt-mul, arith}
use Rattle.std.proofs.Math.Nat.{zero-div}
use Rattle.base.specs.Blit.{blit}
use Rattle.base.specs.BlitLaws.{length-blit}
use Rattle.base.specs.ChoiceLaws.{le_yes, le_no}
use Rattle.mdf.specs.Records.{most64, joined, size_of}
use Rattle.work_words.specs.Words.{fragments_of}
use Rattle.result.specs.Payload.{cell, cells}
use Rattle.payload_laws.specs.SortedLaws.{joined_length}
use Rattle.payload_laws.specs.CellLaws.{cells-append}
use Rattle.places.specs.Stretch.{records_at, spaced}
use Rattle.places.specs.StretchLaws.{spaced-add, records_at-append}
use Rattle.stores.specs.Cases.{lt_or_le}
use Rattle.stores.specs.Over.{over}
use Rattle.stores.specs.OverLaws.{over-append, over_before, length_over}
use Rattle.cells.specs.declared.cell.Shape.{Shape}
use Rattle.cells.specs.Spot.{Readable}
use Rattle.cells.specs.SpotLaws.{cells-size, product_below}
use Rattle.windows.specs.LayLaws.{lay_after}
use Rattle.windows.specs.WindowedLaws.{over-past}
use Rattle.window_cells.specs.declared.stretch.Run.{Run}
use Rattle.window_cells.specs.Cell.{record_at}
use Rattle.window_cells.specs.Stretch.{Lain, further_of, passed_of, run_cells, LyingIn}

-- the first i records
abbrev pub front_of : Run → ℕ → Run
front_of r i = record { at = r.at; first = r.first; stride = r.stride; n = i }

-- products of parts
parts : (i n w : ℕ) → i ≤ n → i * w + (n - i) * w ≡ n * w
parts i n w h = let e : i + (n - i) ≡ n = omega arith in sym (add-mul i (n - i) w) ∙ ap (λ (k : ℕ). k * w) e

pub more : (i n w : ℕ) → i ≤ n → i * w ≤ n * w
more i n w h = mul-le-mul_right w h

-- ---- numbers
pub lain_further : (h : Shape) (r : Run) (i : ℕ) → Lain h r → i < r.n → Lain h (further_of h r i)
lain_further h r i l k =
    let p = parts i r.n h.width (omega arith) in
    let q = parts i (r.n - 1) r.stride (omega arith) in
    let e : r.n - i - 1 ≡ r.n - 1 - i = omega arith in
    record {
      some = omega arith;
      wide = l.wide;
      place = omega (arith, p, l.place);
      last = rw e (omega (arith, q, l.last));
    }

pub lying_further : (ws : List ℕ) (h : Shape) (r : Run) (i : ℕ) → LyingIn ws h r → i < r.n → LyingIn ws h (further_of h r i)
lying_further ws h r i l k =
    let q = parts i (r.n - 1) r.stride (omega arith) in
    let e : r.n - i - 1 ≡ r.n - 1 - i = omega arith in
    record { some = omega arith; within = rw e (omega (arith, q, l.within)) }

pub lying_front : (ws : List ℕ) (h : Shape) (r : Run) (i : ℕ) → LyingIn ws h r → 0 < i → i ≤ r.n → LyingIn ws h (front_of r i)
lying_front ws h r i l z k = record { some = z; within = omega (arith, more (i - 1) (r.n - 1) r.stride (omega arith), l.within) }

-- ---- cells
module _ {s ws : List ℕ} {h : Shape} (d : Readable s ws h) where
  pub run-size : (r : Run) → LyingIn ws h r → length (run_cells s ws h r) ≡ r.n * h.width
  run-size r l =
      let n = joined_length s (fragments_of ws) d.ranges in
      cells-size (joined s (fragments_of ws)) r.first r.stride r.n d.shaped (λ z. omega (arith, n, l.within))

  run_split : (r : Run) (i : ℕ) → i ≤ r.n → run_cells s ws h r ≡ run_cells s ws h (front_of r i) ++ run_cells s ws h (further_of h r i)
  run_split r i k =
      let e : r.n ≡ i + (r.n - i) = omega arith in
      ap (λ (n : ℕ). cells s h.group h.channel (records_at (joined s (fragments_of ws)) h.length (spaced r.first r.stride n))) e
      ∙ ap (λ (ps : List ℕ). cells s h.group h.channel (records_at (joined s (fragments_of ws)) h.length ps)) (spaced-add r.first r.stride i (r.n - i))
      ∙ ap (cells s h.group h.channel) (records_at-append (joined s (fragments_of ws)) h.length (spaced r.first r.stride i) (spaced (r.first + i * r.stride) r.stride (r.n - i)))
      ∙ cells-append s h.group h.channel _ _

  one_cell : (r : Run) → run_cells s ws h (front_of r 1) ≡ cell s h.group h.channel (record_at s ws h r.first)
  unfolding cells records_at spaced
  one_cell r = append-nil (cell s h.group h.channel (record_at s ws h r.first))

  -- the first i are laid, then the others
  over_split : (a : ℕ) (r : Run) (i : ℕ) (w : List ℕ) → LyingIn ws h r → 0 < i → i < r.n
      → over a r.at (run_cells s ws h r) w ≡ over a (r.at + i * h.width) (run_cells s ws h (further_of h r i)) (over a r.at (run_cells s ws h (front_of r i)) w)
  over_split a r i w l z k =
      let n = run-size (front_of r i) (lying_front ws h r i l z (omega arith)) in
      ap (λ (bs : List ℕ). over a r.at bs w) (run_split r i (omega arith))
      ∙ over-append a r.at (run_cells s ws h (front_of r i)) (run_cells s ws h (further_of h r i)) w ∙ rw n refl

  -- past the window
  pub rest-past : (a : ℕ) (r : Run) (w : List ℕ) → a ≤ r.at → length w ≤ r.at - a → w ≡ over a r.at (run_cells s ws h r) w
  rest-past a r w k l = sym (over-past a r.at (run_cells s ws h r) w (omega arith))

  -- whole in the window
  pub rest_whole : (a : ℕ) (r : Run) (w : List ℕ) {last : List ℕ} → a ≤ r.at → last ≡ blit (r.at - a) (run_cells s ws h r) w
      → last ≡ over a r.at (run_cells s ws h r) w
  rest_whole a r w k e = e ∙ lay_after a r.at (run_cells s ws h r) w k

  -- a cell that is cut off at the window's end is the last one in it
  pub cut_end : (a : ℕ) (r : Run) (w : List ℕ) {last : List ℕ} → LyingIn ws h r → a ≤ r.at → length w ≤ r.at - a + h.width
      → last ≡ over a r.at (cell s h.group h.channel (record_at s ws h r.first)) w → last ≡ over a r.at (run_cells s ws h r) w
  cut_end a r w {last} l k z e =
      let f : last ≡ over a r.at (run_cells s ws h (front_of r 1)) w = e ∙ rw (one_cell r) refl in
      ⊎_elim (λ m. f ∙ later m) (λ m. f ∙ only m) (lt_or_le 1 r.n)
    where
      only : r.n ≤ 1 → over a r.at (run_cells s ws h (front_of r 1)) w ≡ over a r.at (run_cells s ws h r) w
      only m = let o : 1 ≡ r.n = omega (arith, l.some) in ap (λ (j : ℕ). over a r.at (run_cells s ws h (front_of r j)) w) o

      later : 1 < r.n → over a r.at (run_cells s ws h (front_of r 1)) w ≡ over a r.at (run_cells s ws h r) w
      later m =
          let o : 1 * h.width ≡ h.width = one-mul h.width in
          let p : length (over a r.at (run_cells s ws h (front_of r 1)) w) ≡ length w = length_over a r.at (run_cells s ws h (front_of r 1)) w in
          sym (over_split a r 1 w l (omega arith) m ∙ over-past a (r.at + 1 * h.width) _ _ (omega (arith, o, p)))

  -- whole cells, then the others
  pub rest_split : (a : ℕ) (r : Run) (i : ℕ) (w : List ℕ) {mid last : List ℕ} → LyingIn ws h r → a ≤ r.at → 0 < i → i < r.n
      → mid ≡ blit (r.at - a) (run_cells s ws h (front_of r i)) w → last ≡ over a (r.at + i * h.width) (run_cells s ws h (further_of h r i)) mid
      → last ≡ over a r.at (run_cells s ws h r) w
  rest_split a r i w l k z m e f =
      f ∙ ap (over a (r.at + i * h.width) (run_cells s ws h (further_of h r i))) (e ∙ lay_after a r.at (run_cells s ws h (front_of r i)) w k)
      ∙ sym (over_split a r i w l z m)

  -- one cell, then the others
  pub cut_split : (a : ℕ) (r : Run) (w : List ℕ) {mid last : List ℕ} → LyingIn ws h r → 1 < r.n
      → mid ≡ over a r.at (cell s h.group h.channel (record_at s ws h r.first)) w
      → last ≡ over a (r.at + 1 * h.width) (run_cells s ws h (further_of h r 1)) mid → last ≡ over a r.at (run_cells s ws h r) w
  cut_split a r w l m e f =
      f ∙ ap (over a (r.at + 1 * h.width) (run_cells s ws h (further_of h r 1))) (e ∙ rw (one_cell r) refl) ∙ sym (over_split a r 1 w l (omega arith) m)

  pub cut-one : (a : ℕ) (r : Run) (w : List ℕ) {last : List ℕ} → r.n ≡ 1
      → last ≡ over a r.at (cell s h.group h.channel (record_at s ws h r.first)) w → last ≡ over a r.at (run_cells s ws h r) w
  cut-one a r w n e = e ∙ rw (← one_cell r) (ap (λ (j : ℕ). over a r.at (run_cells s ws h (front_of r j)) w) (sym n))

  -- cells before the window
  pub all_before : (a : ℕ) (r : Run) (w : List ℕ) → LyingIn ws h r → r.at + r.n * h.width ≤ a → w ≡ over a r.at (run_cells s ws h r) w
  all_before a r w l k = sym (over_before a r.at (run_cells s ws h r) w (omega (arith, run-size r l)))

  pub some_before : (a : ℕ) (r : Run) (i : ℕ) (w : List ℕ) {last : List ℕ} → LyingIn ws h r → 0 < i → i < r.n → r.at + i * h.width ≤ a
      → last ≡ over a (r.at + i * h.width) (run_cells s ws h (further_of h r i)) w → last ≡ over a r.at (run_cells s ws h r) w
  some_before a r i w l z k b e =
      let n = run-size (front_of r i) (lying_front ws h r i l z (omega arith)) in
      let o : over a r.at (run_cells s ws h (front_of r i)) w ≡ w = over_before a r.at (run_cells s ws h (front_of r i)) w (omega (arith, n)) in
      e ∙ sym (over_split a r i w l z k ∙ rw o refl)

  none_before : (a : ℕ) (r : Run) (w : List ℕ) → over a (r.at + 0 * h.width) (run_cells s ws h (further_of h r 0)) w ≡ over a r.at (run_cells s ws h r) w
  none_before a r w =
      let p : r.at + 0 * h.width ≡ r.at = omega (arith, zero-mul h.width) in
      let q : r.first + 0 * r.stride ≡ r.first = omega (arith, zero-mul r.stride) in
      let n : r.n - 0 ≡ r.n = omega arith in
      rw (p, q, n) refl

-- ---- how many lie before the window
pub passed_least : (a at w i : ℕ) → i ≡ passed_of a at w → at + i * w ≤ a ⊎ (i ≡ 0)
unfolding passed_of
passed_least a at w i e = ⊎_elim (λ k. inl (below k)) (λ k. inr (e ∙ sym (le_yes _ _ _ _ k refl))) (lt_or_le at a)
  where
    below : at < a → at + i * w ≤ a
    below k =
        let f : i ≡ (a - at) / w = e ∙ sym (le_no _ _ _ _ k refl) in
        omega (arith, product_below i w (a - at) (omega (arith, f)))

pub passed_most : (a at w i : ℕ) → 0 < w → i ≡ passed_of a at w → a ≤ at + i * w + w
unfolding passed_of
passed_most a at w i z e = ⊎_elim above (λ k. omega arith) (lt_or_le at a)
  where
    above : at < a → a ≤ at + i * w + w
    above k =
        let f : i ≡ (a - at) / w = e ∙ sym (le_no _ _ _ _ k refl) in
        let m = (div-lt_iff_lt-mul {k = w} {x = a - at} {y = suc i} z).0 (omega (arith, f)) in
        omega (arith, m, suc-mul i w)

-- the room that whole cells leave is less than one
pub room-left : (room w m : ℕ) → 0 < w → m ≡ room / w → room ≤ m * w + w
room-left room w m z e =
    let k = (div-lt_iff_lt-mul {k = w} {x = room} {y = suc m} z).0 (omega (arith, e)) in
    omega (arith, k, suc-mul m w)

pub passed-is : (a at w : ℕ) → (a - at) / w ≡ passed_of a at w
unfolding passed_of
passed-is a at w = ⊎_elim
    (λ l. le_no _ _ _ _ l refl)
    (λ l. let z : a - at ≡ 0 = omega arith in rw z (zero-div w ∙ le_yes _ _ _ _ l refl))
    (lt_or_le at a)

-- ---- what the code does, case by case
module _ {s ws : List ℕ} {h : Shape} (d : Readable s ws h) (r : Run) (l : LyingIn ws h r) where
  -- its first record and its first cell
  first_in_lem : r.first + h.length ≤ size_of (fragments_of ws)
  first_in_lem = omega (arith, l.within)

  first_place : Lain h r → r.at + h.width ≤ most64
  first_place k = omega (arith, k.place, more 1 r.n h.width l.some, one-mul h.width)

  -- one cell is laid
  abbrev pub LaysOne : ℕ → List ℕ → List ℕ → Type 0
  LaysOne a w last = Readable s ws h → r.first + h.length ≤ size_of (fragments_of ws) → r.at + h.width ≤ most64
      → last ≡ over a r.at (cell s h.group h.channel (record_at s ws h r.first)) w

  pub lain_of : 0 < h.width → r.at + r.n * h.width ≤ most64 → Lain h r
  lain_of z p = record { some = l.some; wide = z; place = p; last = omega (arith, l.within, d.small) }

  -- only a part of one cell has room
  pub rest-none : (a m : ℕ) (w : List ℕ) {last : List ℕ} → Lain h r → a ≤ r.at → m ≡ (length w - (r.at - a)) / h.width → m ≡ 0
      → LaysOne a w last → last ≡ over a r.at (run_cells s ws h r) w
  rest-none a m w k b e z c =
      let y = room-left (length w - (r.at - a)) h.width m k.wide e in
      let x : m * h.width ≡ 0 = rw z (zero-mul h.width) in
      cut_end d a r w l b (omega (arith, y, x)) (c d first_in_lem (first_place k))

  pub rest-room : (a n : ℕ) (w : List ℕ) → r.at - a < length w → n ≤ (length w - (r.at - a)) / h.width → r.at - a + n * h.width ≤ length w
  rest-room a n w k e = omega (arith, product_below n h.width (length w - (r.at - a)) e)

  -- the only cell, or the first one
  pub cut-single : (a : ℕ) (w : List ℕ) {last : List ℕ} → Lain h r → r.n ≡ 1 → LaysOne a w last → last ≡ over a r.at (run_cells s ws h r) w
  cut-single a w k n c = cut-one d a r w n (c d first_in_lem (first_place k))

  pub cut-first : (a : ℕ) (w : List ℕ) (t : Run) {mid last : List ℕ} → Lain h r → (r.n ≡ 1 → ⊥) → t ≡ further_of h r 1 → LaysOne a w mid
      → (Readable s ws h → LyingIn ws h t → last ≡ over a t.at (run_cells s ws h t) mid) → last ≡ over a r.at (run_cells s ws h r) w
  cut-first a w t {mid} {last} k n e c f =
      let m : 1 < r.n = more_than_one n in
      cut_split d a r w l m (c d first_in_lem (first_place k))
      (subst (λ (x : Run). LyingIn ws h x → last ≡ over a x.at (run_cells s ws h x) mid) e (f d) (lying_further ws h r 1 l m))
    where
      more_than_one : (r.n ≡ 1 → ⊥) → 1 < r.n
      more_than_one n = ⊎_elim (λ k. k) (λ k. absurd (n (omega (arith, l.some)))) (lt_or_le 1 r.n)

  -- whole cells, and a part of one
  pub rest_end : (a m : ℕ) (w : List ℕ) (t : Run) {mid last : List ℕ} → Lain h r → a ≤ r.at → r.at - a < length w
      → m ≡ (length w - (r.at - a)) / h.width → (m ≡ 0 → ⊥) → m < r.n
      → t ≡ further_of h r m
      → (LyingIn ws h (front_of r m) → mid ≡ blit (r.at - a) (run_cells s ws h (front_of r m)) w)
      → (Readable s ws h → t.first + h.length ≤ size_of (fragments_of ws) → t.at + h.width ≤ most64
      → last ≡ over a t.at (cell s h.group h.channel (record_at s ws h t.first)) mid)
      → last ≡ over a r.at (run_cells s ws h r) w
  rest_end a m w t {mid} {last} k b g e z n q f c =
      let y = room-left (length w - (r.at - a)) h.width m k.wide e in
      let i : 0 < m = positive m z in
      let fr = f (lying_front ws h r m l i (omega arith)) in
      let p : length mid ≡ length w = ap length fr ∙ length-blit (r.at - a) (run_cells s ws h (front_of r m)) w in
      let lf = lying_further ws h r m l n in
      let la = lain_further h r m k n in
      let u : Readable s ws h → r.first + m * r.stride + h.length ≤ size_of (fragments_of ws) → r.at + m * h.width + h.width ≤ most64
      → last ≡ over a (r.at + m * h.width) (cell s h.group h.channel (record_at s ws h (r.first + m * r.stride))) mid =
      subst (λ (x : Run). Readable s ws h → x.first + h.length ≤ size_of (fragments_of ws) → x.at + h.width ≤ most64
      → last ≡ over a x.at (cell s h.group h.channel (record_at s ws h x.first)) mid) q c in
      let v : last ≡ over a (r.at + m * h.width) (run_cells s ws h (further_of h r m)) mid =
      cut_end d a (further_of h r m) mid lf (omega (arith, b)) (omega (arith, y, p))
      (u d (omega (arith, lf.within)) (omega (arith, la.place, more 1 (r.n - m) h.width (omega arith), one-mul h.width))) in
      rest_split d a r m w l b i n fr v
    where
      positive : (m : ℕ) → (m ≡ 0 → ⊥) → 0 < m
      positive zero z = absurd (z refl)
      positive (suc m) z = omega arith

  -- cells before the window are passed over
  pub passed-all : (a i : ℕ) (w : List ℕ) → i ≡ passed_of a r.at h.width → r.n ≤ i → w ≡ over a r.at (run_cells s ws h r) w
  passed-all a i w e k = ⊎_elim
      (λ b. all_before d a r w l (omega (arith, b, more r.n i h.width k))) (λ z. absurd (omega (arith, l.some, z))) (passed_least a r.at h.width i e)

  pub passed-front : (a i : ℕ) (w : List ℕ) (t : Run) {last : List ℕ} → i ≡ passed_of a r.at h.width → i < r.n → t ≡ further_of h r i
      → (Readable s ws h → LyingIn ws h t → last ≡ over a t.at (run_cells s ws h t) w) → last ≡ over a r.at (run_cells s ws h r) w
  passed-front a i w t {last} e k q f =
      let u : last ≡ over a (r.at + i * h.width) (run_cells s ws h (further_of h r i)) w =
      subst (λ (x : Run). LyingIn ws h x → last ≡ over a x.at (run_cells s ws h x) w) q (f d) (lying_further ws h r i l k) in
      ⊎_elim (λ b. some i k b u) (λ z. u ∙ none z) (passed_least a r.at h.width i e)
    where
      none : i ≡ 0 → over a (r.at + i * h.width) (run_cells s ws h (further_of h r i)) w ≡ over a r.at (run_cells s ws h r) w
      none z = ap (λ (j : ℕ). over a (r.at + j * h.width) (run_cells s ws h (further_of h r j)) w) z ∙ none_before d a r w

      some : (j : ℕ) → j < r.n → r.at + j * h.width ≤ a → last ≡ over a (r.at + j * h.width) (run_cells s ws h (further_of h r j)) w
          → last ≡ over a r.at (run_cells s ws h r) w
      some zero k b u = u ∙ none_before d a r w
      some (suc j) k b u = some_before d a r (suc j) w l (omega arith) k b u
