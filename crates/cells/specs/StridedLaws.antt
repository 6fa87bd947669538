-- Laws of the cells of records at equal distances.
use Rattle.std.specs.Prelude.{ℕ, zero, suc, ◌+◌, ◌*◌, ◌-◌, ◌≤◌, ◌<◌, List, ◌∷◌, ◌≡◌, refl, length}
use Rattle.std.proofs.Common.{sym, ◌∙◌, suc-mul, sub-one, arith}
use Rattle.base.specs.Blit.{part, blit}
use Rattle.base.specs.BlitLaws.{blit-append, length_part}
use Rattle.result.specs.Payload.{cell, cells}
use Rattle.payload_laws.specs.CellLaws.{length-cell}
use Rattle.places.specs.Stretch.{records_at, spaced}
use Rattle.cells.specs.declared.cell.Shape.{Shape}
use Rattle.cells.specs.Shape.{Shaped}
use Rattle.cells.specs.Strided.{Lying}

pub mul_less : (n w : ℕ) → 0 < n → n * w ≡ w + (n - 1) * w
mul_less zero w h = absurd (omega arith)
mul_less (suc n) w h = rw sub-one (omega (arith, suc-mul n w))

pub spaced-first : (first stride n : ℕ) → 0 < n → spaced first stride n ≡ first ∷ spaced (first + stride) stride (n - 1)
unfolding spaced
spaced-first first stride zero h = absurd (omega arith)
spaced-first first stride (suc n) h = rw sub-one

-- the cell of a record that lies in bytes is as wide as the column
pub cell_wide : {s : List ℕ} {h : Shape} (l : List ℕ) (at : ℕ) → Shaped s h → at + h.length ≤ length l
    → length (cell s h.group h.channel (part at h.length l)) ≡ h.width
cell_wide {s} {h} l at w r =
    let x : List ℕ = part at h.length l in
    let k : length x ≡ h.length = length_part at h.length l r in
    let f = w.fit in
    let a = w.first in
    let b = w.bytes in
    length-cell s h.group h.channel x (omega arith) ∙ sym w.wide

-- ---- the cells of the records past the one at a place, whose cell stands at index to, give g
pub record Striding (s : List ℕ) (h : Shape) (stride at to left : ℕ) (out g : List ℕ) : Type 0 where
  pub inside : at + left * stride + h.length ≤ length s
  pub room : to + h.width + left * h.width ≤ length out
  pub bytes : Shaped s h → blit (to + h.width) (cells s h.group h.channel (records_at s h.length (spaced (at + stride) stride left))) out ≡ g

-- the bytes of all but the first
abbrev pub others : List ℕ → Shape → ℕ → ℕ → ℕ → List ℕ
others s h from stride n = cells s h.group h.channel (records_at s h.length (spaced (from + stride) stride (n - 1)))

pub striding_begin : {s : List ℕ} {h : Shape} {from stride n : ℕ} (to : ℕ) (out : List ℕ) → Lying (length s) h.length from stride n
    → to + n * h.width ≤ length out → Striding s h stride from to (n - 1) out (blit (to + h.width) (others s h from stride n) out)
striding_begin {s} {h} {from} {stride} {n} to out y r =
    let z = y.within in
    record { inside = omega arith; room = omega (arith, mul_less n h.width y.some); bytes = λ w. refl }

-- the first cell, then the others
pub striding_all : {s : List ℕ} {h : Shape} {from stride n : ℕ} (to : ℕ) (out : List ℕ) {first last : List ℕ} → Shaped s h
    → Lying (length s) h.length from stride n → first ≡ blit to (cell s h.group h.channel (part from h.length s)) out
    → last ≡ blit (to + h.width) (others s h from stride n) first
    → last ≡ blit to (cells s h.group h.channel (records_at s h.length (spaced from stride n))) out
unfolding cells records_at
striding_all {s} {h} {from} {stride} {n} to out {first} {last} w y e f =
    let m = cell_wide s from w (omega (arith, y.within)) in
    f ∙ rw (e, spaced-first from stride n y.some, blit-append, m)

module _ {s : List ℕ} {h : Shape} {stride at to left : ℕ} {out g : List ℕ} (t : Striding s h stride at to left out g) where
  -- the next lies in the image, and its cell has room
  pub striding_room : 0 < left → (at + stride + h.length ≤ length s) × (to + h.width + h.width ≤ length out)
  striding_room l =
      let a = t.inside in
      let b = t.room in
      (omega (arith, mul_less left stride l), omega (arith, mul_less left h.width l))

  pub striding_turn : 0 < left → {last : List ℕ} → length last ≡ length out
      → (Shaped s h → last ≡ blit (to + h.width) (cell s h.group h.channel (part (at + stride) h.length s)) out)
      → Striding s h stride (at + stride) (to + h.width) (left - 1) last g
  unfolding cells records_at
  striding_turn l {last} o e =
      let a = t.inside in
      let b = t.room in
      record {
        inside = omega (arith, mul_less left stride l);
        room = omega (arith, mul_less left h.width l);
        bytes = λ w.
            let m = cell_wide s (at + stride) w (striding_room l).0 in
            rw (e w) (rw (spaced-first (at + stride) stride left l, blit-append, m) at (t.bytes w));
      }

  pub striding_end : left ≡ 0 → Shaped s h → out ≡ g
  unfolding cells records_at spaced blit
  striding_end e w = rw e at (t.bytes w)
