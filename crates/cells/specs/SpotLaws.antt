-- Laws of records at equal distances from a place in joined data on.
use Rattle.std.specs.Prelude.{ℕ, zero, suc, ◌+◌, ◌*◌, ◌-◌, ◌/◌, ◌≤◌, ◌<◌, ◌⊎◌, min, Bool, true, false, leb, List, ◌∷◌, ◌++◌, ◌≡◌, refl, length, take, drop}
use Rattle.std.proofs.lemmas.Bool.{false≢true, leb-true, leb-false}
use Rattle.std.proofs.Common.{append-nil, sym, ap, ◌∙◌, inl, inr, zero-mul, mul-zero, suc-mul, add-mul, mul-le-mul_right, div-mul-le_self, div-lt_iff_lt-mul, sub-one, arith, length-append, drop-drop}
use Rattle.base.specs.ChoiceLaws.{eq_yes, eq_no}
use Rattle.base.specs.Blit.{part, blit}
use Rattle.base.specs.BlitLaws.{blit-append}
use Rattle.base.specs.Checked.{fine}
use Rattle.mdf.specs.Records.{most64, ranges_in, joined, size_of}
use Rattle.work_words.specs.Words.{fragments_of}
use Rattle.records.specs.FragmentLaws.{lt_or_le, eq_or_ne}
use Rattle.result.specs.Payload.{cell, cells}
use Rattle.payload_laws.specs.SortedLaws.{joined_length}
use Rattle.payload_laws.specs.CellLaws.{cells-append}
use Rattle.places.specs.Stretch.{records_at, spaced}
use Rattle.places.specs.StretchLaws.{spaced-add, records_at-append}
use Rattle.joined.specs.declared.cursor.Cursor.{Cursor}
use Rattle.joined.specs.declared.spot.Spot.{Spot}
use Rattle.joined.specs.Ahead.{ahead}
use Rattle.joined.specs.AheadLaws.{take-here, drop-take}
use Rattle.joined.specs.Spot.{SpotOf}
use Rattle.joined.specs.SpotLaws.{spot_size}
use Rattle.cells.specs.declared.cell.Shape.{Shape}
use Rattle.cells.specs.Shape.{Shaped}
use Rattle.cells.specs.Strided.{Lying}
use Rattle.cells.specs.ShapeLaws.{shaped_sound}
use Rattle.cells.specs.StridedLaws.{mul_less, cell_wide}
use Rattle.cells.specs.Spot.{Readable, run_in, RunOf, Roomy}

-- ---- a run of records
pub run-one : (room n : ℕ) {stride : ℕ} → 0 < n → stride ≡ 0 → RunOf room stride n 1
run-one room n {stride} h e = record { some = omega arith; few = omega arith; within = omega (arith, zero-mul stride) }

pub run-all : (room stride n : ℕ) → 0 < n → n ≤ room / stride → RunOf room stride n n
run-all room stride n h l =
    let a : (n - 1) * stride ≤ room / stride * stride = mul-le-mul_right stride (omega arith) in
    record { some = h; few = omega arith; within = omega (arith, div-mul-le_self room stride) }

pub run_most : (room stride n : ℕ) → room / stride < n → RunOf room stride n (room / stride + 1)
run_most room stride n l =
    let e : room / stride + 1 - 1 ≡ room / stride = omega arith in
    record { some = omega arith; few = omega arith; within = rw e (div-mul-le_self room stride) }

-- so many as are counted, where there is a record
pub run_counted : (room stride n : ℕ) {m : ℕ} → 0 < n → m ≡ run_in room stride n → RunOf room stride n m
unfolding run_in
run_counted room stride n {m} h e = go (eq_or_ne stride 0) (lt_or_le (room / stride) n)
  where
    go : (stride ≡ 0) ⊎ (stride ≡ 0 → ⊥) → (room / stride < n) ⊎ (n ≤ room / stride) → RunOf room stride n m
    go (inl z) w =
        let a : m ≡ min n 1 = e ∙ sym (eq_yes stride 0 (min n 1) (min n (room / stride + 1)) z refl) in
        let b : m ≡ 1 = omega arith in
        rw b (run-one room n h z)
    go (inr z) (inl l) =
        let a : m ≡ min n (room / stride + 1) = e ∙ sym (eq_no stride 0 (min n 1) (min n (room / stride + 1)) z refl) in
        let b : m ≡ room / stride + 1 = omega arith in
        rw b (run_most room stride n l)
    go (inr z) (inr l) =
        let a : m ≡ min n (room / stride + 1) = e ∙ sym (eq_no stride 0 (min n 1) (min n (room / stride + 1)) z refl) in
        let b : m ≡ n = omega arith in
        rw b (run-all room stride n h l)

-- ---- an answer to a question
pub answer_yes : {A : Type 0} → A → (true ≡ true → A) × (A → true ≡ true)
answer_yes x = (λ e. x, λ y. refl)

pub answer_no : {A : Type 0} → (A → ⊥) → (false ≡ true → A) × (A → false ≡ true)
answer_no n = (λ e. absurd (false≢true e), λ x. absurd (n x))

-- ---- products
pub product_small : (n w most : ℕ) → w ≡ 0 → n * w ≤ most
product_small n w most e = rw (e, mul-zero) (omega arith)

pub product_below : (n w most : ℕ) → n ≤ most / w → n * w ≤ most
product_below n w most l =
    let a : n * w ≤ most / w * w = mul-le-mul_right w l in
    omega (arith, div-mul-le_self most w)

pub product_over : (n w most : ℕ) → 0 < w → most / w < n → n * w ≤ most → ⊥
product_over n w most z l h = omega (arith, (div-lt_iff_lt-mul {k = w} {x = most} {y = n} z).0 l)

pub product_by : (n w most : ℕ) → 0 < w → (leb n (most / w) ≡ true → n * w ≤ most) × (n * w ≤ most → leb n (most / w) ≡ true)
product_by n w most z = (λ e. product_below n w most (leb-true n (most / w) e), go (leb n (most / w)) refl)
  where
    go : (b : Bool) → leb n (most / w) ≡ b → n * w ≤ most → leb n (most / w) ≡ true
    go true e h = e
    go false e h = absurd (product_over n w most z (leb-false n (most / w) e) h)

mul_apart : {n : ℕ} (m l w : ℕ) → n ≡ m + l → n * w ≡ m * w + l * w
mul_apart m l w e = ap (λ (x : ℕ). x * w) e ∙ add-mul m l w

-- ---- the numbers past m of the records
pub roomy_next : {h : Shape} {size to at stride left : ℕ} → Roomy h size to at stride left → (m : ℕ) → m < left
    → Roomy h size (to + m * h.width) (at + m * stride) stride (left - m)
roomy_next {h} {size} {to} {at} {stride} {left} t m l =
    let a : (left - 1) * stride ≡ m * stride + (left - m - 1) * stride = mul_apart m (left - m - 1) stride (omega arith) in
    let b : left * h.width ≡ m * h.width + (left - m) * h.width = mul_apart m (left - m) h.width (omega arith) in
    record { sound = t.sound; some = omega arith; room = omega (arith, t.room); last = omega (arith, t.last) }

-- those of records that lie in readable data
pub readable_roomy : {s ws : List ℕ} {h : Shape} {size to first stride n : ℕ} → Readable s ws h
    → Lying (size_of (fragments_of ws)) h.length first stride n → to + n * h.width ≤ size → Roomy h size to first stride n
readable_roomy w y r =
    record { sound = shaped_sound w.shaped; some = y.some; room = r; last = omega (arith, y.within, w.small) }

-- ---- records of bytes past some
pub part-drop : (o p n : ℕ) (l : List ℕ) → part p n (drop o l) ≡ part (o + p) n l
unfolding part
part-drop o p n l = ap (take n) (drop-drop p o l)

pub records_past : (o n : ℕ) (l : List ℕ) (p stride m : ℕ) → records_at (drop o l) n (spaced p stride m) ≡ records_at l n (spaced (o + p) stride m)
unfolding records_at spaced
records_past o n l p stride zero = refl
records_past o n l p stride (suc m) =
    let e : o + (p + stride) ≡ o + p + stride = omega arith in
    rw (part-drop o p n l) (ap (λ (rs : List (List ℕ)). part (o + p) n l ∷ rs) (records_past o n l (p + stride) stride m ∙ rw e))

-- ---- records that lie in the fragment that a cursor is in
pub part-here : (s ws : List ℕ) (k : Cursor) (q n : ℕ) → ranges_in s (ahead ws k) ≡ fine → q + n ≤ k.left
    → part q n (joined s (ahead ws k)) ≡ part (k.position + q) n s
unfolding part
part-here s ws k q n r h =
    let x = take-here s ws k (q + n) r h in
    let e : q + n - q ≡ n = omega arith in
    let a : take n (drop q (joined s (ahead ws k))) ≡ drop q (take (q + n) (joined s (ahead ws k))) = rw (drop-take q (q + n) (joined s (ahead ws k)), e) in
    a ∙ ap (drop q) x ∙ drop-take q (q + n) (drop k.position s) ∙ rw (e, drop-drop q k.position s)

pub records_here : (s ws : List ℕ) (k : Cursor) (n q stride m : ℕ) → ranges_in s (ahead ws k) ≡ fine → (0 < m → q + (m - 1) * stride + n ≤ k.left)
    → records_at (joined s (ahead ws k)) n (spaced q stride m) ≡ records_at s n (spaced (k.position + q) stride m)
unfolding records_at spaced
records_here s ws k n q stride zero r h = refl
records_here s ws k n q stride (suc m) r h =
    let e : k.position + (q + stride) ≡ k.position + q + stride = omega arith in
    let b : q + m * stride + n ≤ k.left = rw sub-one at (h (omega arith)) in
    rw (part-here s ws k q n r (omega arith)) (ap (λ (rs : List (List ℕ)). part (k.position + q) n s ∷ rs)
    (records_here s ws k n (q + stride) stride m r (λ z. omega (arith, mul_less m stride z)) ∙ rw e))

-- ---- the bytes of their cells
pub cells-size : {s : List ℕ} {h : Shape} (l : List ℕ) (at stride m : ℕ) → Shaped s h → (0 < m → at + (m - 1) * stride + h.length ≤ length l)
    → length (cells s h.group h.channel (records_at l h.length (spaced at stride m))) ≡ m * h.width
unfolding cells records_at spaced
cells-size {s} {h} l at stride zero w y = sym (zero-mul h.width)
cells-size {s} {h} l at stride (suc m) w y =
    let b : at + m * stride + h.length ≤ length l = rw sub-one at (y (omega arith)) in
    let a = cell_wide l at w (omega arith) in
    let i = cells-size l (at + stride) stride m w (λ z. omega (arith, mul_less m stride z)) in
    rw (length-append, a, i) (omega (arith, suc-mul m h.width))

-- those of the first m, then the others
pub cells_split : {s : List ℕ} {h : Shape} (l : List ℕ) (at stride m n to : ℕ) (out : List ℕ) → Shaped s h
    → at + (m - 1) * stride + h.length ≤ length l → m ≤ n
    → blit to (cells s h.group h.channel (records_at l h.length (spaced at stride n))) out
    ≡ blit (to + m * h.width) (cells s h.group h.channel (records_at l h.length (spaced (at + m * stride) stride (n - m))))
    (blit to (cells s h.group h.channel (records_at l h.length (spaced at stride m))) out)
cells_split {s} {h} l at stride m n to out w y f =
    let e : n ≡ m + (n - m) = omega arith in
    let a : spaced at stride n ≡ spaced at stride m ++ spaced (at + m * stride) stride (n - m) =
    ap (spaced at stride) e ∙ spaced-add at stride m (n - m) in
    rw (a, records_at-append, cells-append, blit-append, cells-size l at stride m w (λ z. y))

-- ---- some records from a cursor on: one that lies in several fragments, or a run in its own
pub some_one : (s ws : List ℕ) (k : Cursor) (h : Shape) (stride to : ℕ) (out : List ℕ) {last : List ℕ}
    → last ≡ blit to (cell s h.group h.channel (take h.length (joined s (ahead ws k)))) out
    → last ≡ blit to (cells s h.group h.channel (records_at (joined s (ahead ws k)) h.length (spaced 0 stride 1))) out
unfolding cells records_at spaced part
some_one s ws k h stride to out e = rw append-nil e

pub some-run : (s ws : List ℕ) (k : Cursor) (h : Shape) (stride m to : ℕ) (out : List ℕ) {last : List ℕ} → ranges_in s (ahead ws k) ≡ fine
    → (m - 1) * stride + h.length ≤ k.left
    → last ≡ blit to (cells s h.group h.channel (records_at s h.length (spaced k.position stride m))) out
    → last ≡ blit to (cells s h.group h.channel (records_at (joined s (ahead ws k)) h.length (spaced 0 stride m))) out
some-run s ws k h stride m to out r l e =
    let x : k.position + 0 ≡ k.position = omega arith in
    rw (records_here s ws k h.length 0 stride m r (λ z. omega arith), x) e

-- ---- the records that are left of a stretch, from the place on, give g
pub record Stretching (s ws : List ℕ) (h : Shape) (stride at to left : ℕ) (k : Spot) (out g : List ℕ) : Type 0 where
  pub lying : Lying (size_of (fragments_of ws)) h.length at stride left
  pub spot : SpotOf s ws k
  pub bytes : blit to (cells s h.group h.channel (records_at (joined s (fragments_of ws)) h.length (spaced at stride left))) out ≡ g

lying_first : {size bytes first stride n : ℕ} → Lying size bytes first stride n → 0 < bytes → first < size
lying_first y h = omega (arith, y.within)

-- from the place on they lie in what is ahead
lying_ahead : {s ws : List ℕ} {k : Spot} {bytes at stride n : ℕ} → SpotOf s ws k → ranges_in s (fragments_of ws) ≡ fine → k.offset ≡ at
    → Lying (size_of (fragments_of ws)) bytes at stride n → Lying (size_of (ahead ws k.cursor)) bytes 0 stride n
lying_ahead t r e y = record { some = y.some; within = omega (arith, spot_size t r, y.within) }

-- m of them were put: they are of the stretch
pub some_of : {s ws : List ℕ} {k : Spot} (h : Shape) (stride m to : ℕ) (out : List ℕ) {at : ℕ} {last : List ℕ} → SpotOf s ws k → k.offset ≡ at
    → last ≡ blit to (cells s h.group h.channel (records_at (joined s (ahead ws k.cursor)) h.length (spaced 0 stride m))) out
    → last ≡ blit to (cells s h.group h.channel (records_at (joined s (fragments_of ws)) h.length (spaced at stride m))) out
some_of {s} {ws} {k} h stride m to out {at} t e f =
    let x : k.offset + 0 ≡ at = omega arith in
    rw (t.rest, records_past k.offset h.length (joined s (fragments_of ws)) 0 stride m, x) at f

module _ {s ws : List ℕ} {h : Shape} {stride at to left : ℕ} {k₀ : Spot} {out g : List ℕ} (t : Stretching s ws h stride at to left k₀ out g)
    (w : Readable s ws h) where
  stretching_first : (m : ℕ) → m ≤ left → at + (m - 1) * stride + h.length ≤ length (joined s (fragments_of ws))
  stretching_first m l =
      let a : (m - 1) * stride ≤ (left - 1) * stride = mul-le-mul_right stride (omega arith) in
      omega (arith, t.lying.within, joined_length s (fragments_of ws) w.ranges)

  -- the place of the first that is left is reached, and m from there on are put
  pub stretching_some : (m : ℕ) {k : Spot} {last : List ℕ} → length s ≤ most64
      → ((z : List ℕ) → length z ≤ most64 → SpotOf z ws k₀ → ranges_in z (fragments_of ws) ≡ fine → at < size_of (fragments_of ws)
      → SpotOf z ws k × (k.offset ≡ at))
      → (Shaped s h → ranges_in s (ahead ws k.cursor) ≡ fine → Lying (size_of (ahead ws k.cursor)) h.length 0 stride left
      → last ≡ blit to (cells s h.group h.channel (records_at (joined s (ahead ws k.cursor)) h.length (spaced 0 stride m))) out)
      → SpotOf s ws k
      × (last ≡ blit to (cells s h.group h.channel (records_at (joined s (fragments_of ws)) h.length (spaced at stride m))) out)
  stretching_some m l reached put =
      let r = reached s l t.spot w.ranges (lying_first t.lying w.some) in
      (r.0, some_of h stride m to out r.0 r.1 (put w.shaped r.0.ranges (lying_ahead r.0 w.ranges r.1 t.lying)))

  pub stretching_turn : (m : ℕ) {k : Spot} {last : List ℕ} → SpotOf s ws k → m < left
      → last ≡ blit to (cells s h.group h.channel (records_at (joined s (fragments_of ws)) h.length (spaced at stride m))) out
      → Stretching s ws h stride (at + m * stride) (to + m * h.width) (left - m) k last g
  stretching_turn m {k} {last} p l e =
      let a : (left - 1) * stride ≡ m * stride + (left - m - 1) * stride = mul_apart m (left - m - 1) stride (omega arith) in
      record {
        lying = record { some = omega arith; within = omega (arith, t.lying.within) };
        spot = p;
        bytes = rw e (sym (cells_split (joined s (fragments_of ws)) at stride m left to out w.shaped (stretching_first m (omega arith)) (omega arith))
            ∙ t.bytes);
      }

  pub stretching_end : (m : ℕ) {last : List ℕ} → m ≡ left
      → last ≡ blit to (cells s h.group h.channel (records_at (joined s (fragments_of ws)) h.length (spaced at stride m))) out → last ≡ g
  stretching_end m q e = e ∙ rw q t.bytes
