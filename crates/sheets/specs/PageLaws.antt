-- A heading, the lines of a page one after the other, the pages one after the other.
use Prim.Native.Nat.{ℕ, zero, suc, ◌+◌, ◌*◌, ◌-◌, ◌/◌, ◌≤◌, ◌<◌, min}
use Rattle.std.specs.Prelude.{List, ◌∷◌, ◌++◌, ◌≡◌, refl, take, drop, replicate}
use Rattle.std.proofs.Common.{sym, ◌∙◌, add-zero, zero-add, sub-one}
use Rattle.std.proofs.Math.Path.{ap}
use Rattle.std.proofs.Math.Nat.{sub-zero, zero-min, min-zero, suc-min-suc, min_comm}
use native.Mathlib.Omega.{arith}
use Rattle.std.proofs.Math.ListN.{length, length-append}
use Rattle.base.specs.ChoiceLaws.{eq_yes, eq_no}
use Rattle.base.specs.Field.{le}
use Rattle.base.specs.Blit.{blit, part}
use Rattle.base.specs.BlitLaws.{length-blit, blit-append}
use Rattle.result.specs.Listing.{decimal}
use Rattle.file.specs.Form.{FileColumn}
use Rattle.ranges.specs.Open.{column_at, columns_of}
use Rattle.texts.specs.Laid.{Laid}
use Rattle.texts.specs.LaidLaws.{laid_then}
use Rattle.sheet.specs.Sheet.{ascii, left_in, sheet_line, sheet_lines, heading, page_count, page_of, pages_from, pages, lines_text, pages_text}
use Rattle.sheet.proofs.SheetLaws.{length-heading, length-lines-text, length-sheet, pages-none, pages-some}
use Rattle.sheets.specs.Piece.{Piece}
use Rattle.sheets.specs.PieceLaws.{piece_then, piece_byte}
use Rattle.sheets.specs.LineLaws.{columns_open}

-- ---- a heading with its newline
pub heading_put : (p n : ℕ) {at a₁ a₂ a₃ b : ℕ} {d₀ d₁ d₂ d₃ d₄ d₅ d₆ : List ℕ} → Laid at (ascii "page ") 5 d₀ d₁ a₁
    → Laid a₁ (decimal p) 20 d₁ d₂ a₂ → Laid a₂ (ascii " of ") 4 d₂ d₃ a₃ → Laid a₃ (decimal n) 20 d₃ d₄ b
    → Piece b (replicate (at + 80 - b) 32) (at + 80 - b) d₄ d₅ → d₆ ≡ blit (at + 80) (le 1 10) d₅ → Piece at (heading p n ++ ascii "\n") 81 d₀ d₆
unfolding heading left_in
heading_put p n {at} {b = b} {d₀} {d₄ = d₄} {d₅ = d₅} e f g h i j =
    let text = ascii "page " ++ decimal p ++ ascii " of " ++ decimal n in
    let t : Laid at text 49 d₀ d₄ b = laid_then (laid_then (laid_then e f) g) h in
    let w : at + 80 - b ≡ 80 - length text = omega (arith, t.past) in
    let r : d₅ ≡ blit at (text ++ replicate (80 - length text) 32) d₀ =
    i.is ∙ rw (w, t.is, t.past) (sym (blit-append text at (replicate (80 - length text) 32) d₀)) in
    let line : Piece at (text ++ replicate (80 - length text) 32) 80 d₀ d₅ = record { is = r; long = length-heading p n } in
    piece_then line (piece_byte 10 (omega arith) j)

-- ---- columns in words
pub length-columns : (s w : List ℕ) (n j : ℕ) → length (columns_of s w n j) ≡ n
unfolding columns_of
length-columns s w zero j = refl
length-columns s w (suc n) j = ap suc (length-columns s w n (j + 1))

columns-drop : (s w : List ℕ) (i n j : ℕ) → drop i (columns_of s w n j) ≡ columns_of s w (n - i) (j + i)
unfolding columns_of
columns-drop s w zero n j = rw (sub-zero, add-zero)
columns-drop s w (suc i) zero j = let e : 0 - suc i ≡ 0 = omega arith in rw e
columns-drop s w (suc i) (suc n) j =
    let e : suc n - suc i ≡ n - i = omega arith in
    let f : j + 1 + i ≡ j + suc i = omega arith in
    rw (e, ← f) (columns-drop s w i n (j + 1))

columns-take : (s w : List ℕ) (m n j : ℕ) → take m (columns_of s w n j) ≡ columns_of s w (min m n) j
unfolding columns_of
columns-take s w zero n j = rw zero-min
columns-take s w (suc m) zero j = rw min-zero
columns-take s w (suc m) (suc n) j = rw suc-min-suc (ap (λ (cs : List FileColumn). column_at s w j ∷ cs) (columns-take s w m n (j + 1)))

columns-part : (s w : List ℕ) (i m n : ℕ) → part i m (columns_of s w n 0) ≡ columns_of s w (min (n - i) m) i
unfolding part
columns-part s w i m n = rw (columns-drop s w i n 0, zero-add, columns-take s w m (n - i) i, min_comm m (n - i))

-- ---- the lines of m columns from number k on
module _ (s w : List ℕ) (all : List FileColumn) where
  pub lines_turn : (k m p : ℕ) {d g e : List ℕ} {m' : ℕ} → 0 < m → m' ≡ m - 1 → blit p (lines_text (sheet_lines s all k (columns_of s w m k))) d ≡ g
      → Piece p (sheet_line s all k (column_at s w k) ++ ascii "\n") 81 d e
      → blit (p + 81) (lines_text (sheet_lines s all (k + 1) (columns_of s w m' (k + 1)))) e ≡ g
  unfolding lines_text sheet_lines
  lines_turn k m p {d} {g} h m₁ i q =
      let l : blit p (sheet_line s all k (column_at s w k) ++ ascii "\n" ++ lines_text (sheet_lines s all (k + 1) (columns_of s w (m - 1) (k + 1)))) d ≡ g =
      rw (columns_open s w m k h) at i in
      rw (m₁, q.is, ← q.long) (sym (blit-append (sheet_line s all k (column_at s w k) ++ ascii "\n") p _ d) ∙ l)

  pub lines_end : (k m p : ℕ) {d g : List ℕ} → m ≤ 0 → blit p (lines_text (sheet_lines s all k (columns_of s w m k))) d ≡ g → d ≡ g
  unfolding blit lines_text sheet_lines columns_of
  lines_end k m p h i = let z : m ≡ 0 = omega arith in rw z at i

  pub lines_piece : (k m : ℕ) {at : ℕ} {d e : List ℕ} → e ≡ blit at (lines_text (sheet_lines s all k (columns_of s w m k))) d
      → Piece at (lines_text (sheet_lines s all k (columns_of s w m k))) (81 * m) d e
  lines_piece k m e = record { is = e; long = length-lines-text s all k (columns_of s w m k) ∙ rw (length-columns s w m k) }

-- ---- a page
pub page_put : (s w : List ℕ) (n pages i : ℕ) {at count : ℕ} {d e f : List ℕ} → count ≡ min (n - 59 * i) 59
    → Piece at (heading (i + 1) pages ++ ascii "\n") 81 d e
    → Piece (at + 81) (lines_text (sheet_lines s (columns_of s w n 0) (59 * i) (columns_of s w count (59 * i)))) (81 * count) e f
    → Laid at (lines_text (page_of s (columns_of s w n 0) pages i)) 4860 d f (at + 81 + 81 * count)
unfolding lines_text page_of
page_put s w n pages i {at} {count} {d} {e} {f} c p q =
    let all = columns_of s w n 0 in
    let cs : part (59 * i) 59 all ≡ columns_of s w count (59 * i) = rw c (columns-part s w (59 * i) 59 n) in
    let few : count ≤ 59 = omega (arith, c) in
    let t = piece_then p q in
    rw cs (record { is = t.is; past = omega (arith, t.long); small = omega (arith, t.long) })

-- ---- how many pages
pub count_none : (n : ℕ) → n ≡ 0 → 1 ≡ page_count n
unfolding page_count
count_none n h = eq_yes _ _ _ _ h refl

pub count_some : (n : ℕ) → (n ≡ 0 → ⊥) → (n + 58) / 59 ≡ page_count n
unfolding page_count
count_some n h = eq_no _ _ _ _ h refl

few-pages : (n : ℕ) → n ≤ 512 → page_count n ≤ 9
few-pages zero h = rw pages-none (omega arith)
few-pages (suc n) h = omega (arith, pages-some (suc n) (omega arith))

pub page-first : (n i : ℕ) → i < page_count n → 59 * i ≤ n
page-first zero i h = let z = rw pages-none at h in omega arith
page-first (suc n) i h = omega (arith, pages-some (suc n) (omega arith))

-- ---- all pages: what is left from page i on gives the whole
abbrev pub pages_left : List ℕ → List FileColumn → ℕ → ℕ → List ℕ
pages_left s all n i = pages_text (pages_from s all n (n - i) i)

pub record Paging (s w : List ℕ) (n page_number i p : ℕ) (d₀ d : List ℕ) : Type 0 where
  pub counted : page_number ≡ page_count n
  pub few : n ≤ 512
  pub rest : blit p (pages_left s (columns_of s w n 0) page_number i) d ≡ blit 0 (pages_text (pages s (columns_of s w n 0))) d₀
  pub sum : p + length (pages_left s (columns_of s w n 0) page_number i) ≡ 81 * (page_count n + n)
  pub size : length d ≡ length d₀

module _ (s w : List ℕ) (n : ℕ) where
  abbrev all : List FileColumn
  all = columns_of s w n 0

  total : length (pages_text (pages s all)) ≡ 81 * (page_count n + n)
  total = length-sheet s all ∙ rw (length-columns s w n 0)

  are_pages : pages s all ≡ pages_from s all (page_count n) (page_count n) 0
  unfolding pages
  are_pages = rw (length-columns s w n 0)

  pub paging_begin : {m : ℕ} {d : List ℕ} → m ≡ page_count n → n ≤ 512 → Paging s w n m 0 0 d d
  paging_begin e h =
      record {
        counted = e;
        few = h;
        rest = rw (e, sub-zero, ← are_pages);
        sum = rw (e, sub-zero, ← are_pages, zero-add) total;
        size = refl;
      }

  from_open : (m k i : ℕ) → 0 < k → pages_from s all m k i ≡ page_of s all m i ∷ pages_from s all m (k - 1) (i + 1)
  unfolding pages_from
  from_open m zero i h = absurd (omega arith)
  from_open m (suc k) i h = rw (sub-one (suc k))

  module _ {m i p : ℕ} {d₀ d : List ℕ} (t : Paging s w n m i p d₀ d) where
    pub paging_room : p ≤ 42201
    paging_room = omega (arith, t.sum, t.few, few-pages n t.few)

    pub paging_page : i < m → 59 * i ≤ n
    paging_page h = page-first n i (rw (← t.counted) h)

    pub paging_turn : {r : ℕ} {e : List ℕ} → i < m → Laid p (lines_text (page_of s all m i)) 4860 d e r → Paging s w n m (i + 1) r d₀ e
    unfolding pages_text
    paging_turn {r} {e} h a =
        let k : m - i - 1 ≡ m - (i + 1) = omega arith in
        let next : pages_from s all m (m - i) i ≡ page_of s all m i ∷ pages_from s all m (m - (i + 1)) (i + 1) = from_open m (m - i) i (omega arith) ∙ rw k in
        let l = length-append (lines_text (page_of s all m i)) (pages_left s all m (i + 1)) in
        let whole = rw next at t.sum in
        record {
          counted = t.counted;
          few = t.few;
          rest = rw (a.is, a.past) (sym (blit-append (lines_text (page_of s all m i)) p (pages_left s all m (i + 1)) d) ∙ (rw next at t.rest));
          sum = omega (arith, a.past, l, whole);
          size = ap length a.is ∙ length-blit p (lines_text (page_of s all m i)) d ∙ t.size;
        }

    pub paging_end : m ≤ i → Laid 0 (pages_text (pages s all)) 42201 d₀ d p
    unfolding blit pages_text pages_from
    paging_end h =
        let z : m - i ≡ 0 = omega arith in
        let e = rw z at t.rest in
        let q = rw z at t.sum in
        let f = total in
        record { is = e; past = omega arith; small = omega (arith, t.few, few-pages n t.few) }
