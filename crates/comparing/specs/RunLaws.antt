-- Laws of equal cells of records at equal distances.
use Rattle.std.specs.Prelude.{ℕ, ◌+◌, ◌-◌, ◌*◌, ◌≤◌, ◌<◌, List, ◌++◌, Bool, true, false, not, ◌≡◌, length}
use Rattle.std.proofs.Common.{append-nil, sym, ◌∙◌, mul-le-mul_right}
use native.Mathlib.Omega.{arith}
use Rattle.base.specs.Choice.{pick}
use Rattle.base.specs.Blit.{part}
use Rattle.plan.specs.Channel.{both, width}
use Rattle.result.specs.Payload.{cell, cells}
use Rattle.result.specs.Sharing.{same}
use Rattle.result.specs.SharingLaws.{same_parts}
use Rattle.places.specs.Stretch.{spaced, records_at}
use Rattle.places.specs.FacingLaws.{not-true, not-false}
use Rattle.joined.specs.declared.cursor.Cursor.{Cursor}
use Rattle.cells.specs.declared.cell.Shape.{Shape}
use Rattle.cells.specs.Shape.{Shaped}
use Rattle.cells.specs.Spot.{RunOf}
use Rattle.cells.specs.SpotLaws.{records_here}
use Rattle.cells.specs.Strided.{Lying}
use Rattle.cells.specs.StridedLaws.{mul_less, spaced-first, cell_wide}
use Rattle.comparing.specs.declared.head.Head.{Head}
use Rattle.comparing.specs.Same.{Has, cell_at, CellSame, HereSame}
use Rattle.comparing.specs.Run.{cells_in, cells_ahead, RunHere, StridedSame, SomeSame}

pub width_is : {s : List ℕ} {h : Shape} → Shaped s h → h.width ≡ h.bytes + pick h.keep 1 0
unfolding width
width_is w = w.wide ∙ rw (← w.bytes, ← w.keep)

-- channels of one form have one width
pub widths : {s : List ℕ} {h i : Shape} → Shaped s h → Shaped s i → h.bytes ≡ i.bytes → h.keep ≡ i.keep → h.width ≡ i.width
widths w v n k = width_is w ∙ rw (n, k) (sym (width_is v))

-- ---- records of a fragment
pub run_none : (s : List ℕ) (k : Cursor) (stride n bytes : ℕ) → RunHere s k stride n bytes 0
run_none s k stride n bytes = record { few = omega arith; inside = λ z. absurd (omega arith); image = λ z. absurd (omega arith) }

pub run-here : {s : List ℕ} {k : Cursor} {stride n bytes r : ℕ} → bytes ≤ k.left → k.position + k.left ≤ length s → RunOf (k.left - bytes) stride n r
    → RunHere s k stride n bytes r
run-here a b t = record { few = t.few; inside = λ z. omega (arith, t.within); image = λ z. b }

-- the first m of them lie in the image
module _ {s : List ℕ} {k : Cursor} {stride n bytes r : ℕ} (t : RunHere s k stride n bytes r) (m : ℕ) (z : 0 < m) (l : m ≤ r) where
  run_inside : (m - 1) * stride + bytes ≤ k.left
  run_inside =
      let a : (m - 1) * stride ≤ (r - 1) * stride = mul-le-mul_right stride (omega arith) in
      let b = t.inside (omega arith) in
      omega arith

  pub run_lying : Lying (length s) bytes k.position stride m
  run_lying = let a = run_inside in let b = t.image (omega arith) in record { some = z; within = omega arith }

-- and their cells are those ahead of the cursor
run-cells : {s ws : List ℕ} (p : Head) (h : Shape) {r : ℕ} (m : ℕ) → RunHere s p.spot.cursor p.stride p.count h.length r → 0 < m → m ≤ r
    → Has s ws p.spot.cursor h.length → cells_ahead s ws p h m ≡ cells_in s h s p.spot.cursor.position p.stride m
run-cells {s} {ws} p h m t z l o =
    let a = run_inside t m z l in
    let x : p.spot.cursor.position + 0 ≡ p.spot.cursor.position = omega arith in
    rw (records_here s ws p.spot.cursor h.length 0 p.stride m o.ranges (λ z. omega arith), x)

one-ahead : (s ws : List ℕ) (p : Head) (h : Shape) → cells_ahead s ws p h 1 ≡ cell_at s ws p.spot.cursor h
unfolding cells records_at spaced part
one-ahead s ws p h = append-nil (cell_at s ws p.spot.cursor h)

-- ---- one record of each group was compared, or m that lie in one fragment of each
module _ {s ws vs : List ℕ} (p q : Head) (h i : Shape) {e : Bool} where
  pub some_one : CellSame s ws p.spot.cursor h vs q.spot.cursor i e → SomeSame s ws p h vs q i (record { equal = e; count = 1 })
  some_one f = record {
    some = omega arith;
    one = λ z. omega arith;
    two = λ z. omega arith;
    is = λ x y. rw (one-ahead s ws p h, one-ahead s vs q i) (f x y);
  }

  pub some-run : {x y : ℕ} (m : ℕ) → 0 < m → m ≤ x → m ≤ y → RunHere s p.spot.cursor p.stride p.count h.length x
      → RunHere s q.spot.cursor q.stride q.count i.length y
      → StridedSame s p.spot.cursor.position p.stride h q.spot.cursor.position q.stride i m e
      → SomeSame s ws p h vs q i (record { equal = e; count = m })
  some-run m z k l a b f =
      let u = a.few in
      let v = b.few in
      record {
        some = z;
        one = λ n. omega arith;
        two = λ n. omega arith;
        is = λ x y. rw (run-cells p h m a z k x, run-cells q i m b z l y) f;
      }

-- ---- record by record: whether the cells that are left are equal is g
pub record Stepping (s : List ℕ) (stride : ℕ) (h : Shape) (step : ℕ) (i : Shape) (p q left : ℕ) (g : Bool) : Type 0 where
  pub one : Lying (length s) h.length p stride left
  pub two : Lying (length s) i.length q step left
  pub is : same (cells_in s h s p stride left) (cells_in s i s q step left) ≡ g

first_cell : (s : List ℕ) (h : Shape) (p stride left : ℕ) → 0 < left
    → cells_in s h s p stride left ≡ cell s h.group h.channel (part p h.length s) ++ cells_in s h s (p + stride) stride (left - 1)
unfolding cells records_at
first_cell s h p stride left z = rw (spaced-first p stride left z)

lying_next : {size bytes p stride left : ℕ} → Lying size bytes p stride left → 1 < left → Lying size bytes (p + stride) stride (left - 1)
lying_next {size} {bytes} {p} {stride} {left} y z =
    let a = y.within in
    let b = mul_less (left - 1) stride (omega arith) in
    record { some = omega arith; within = omega arith }

module _ {s : List ℕ} {stride : ℕ} {h : Shape} {step : ℕ} {i : Shape} {p q left : ℕ} {g : Bool} (t : Stepping s stride h step i p q left g) where
  -- where the records end, and the next ones begin
  pub step-here : (p + h.length ≤ length s) × (q + i.length ≤ length s)
  step-here = let a = t.one.within in let b = t.two.within in (omega arith, omega arith)

  pub step-next : 1 < left → (p + stride ≤ length s) × (q + step ≤ length s)
  step-next z = let a = (lying_next t.one z).within in let b = (lying_next t.two z).within in (omega arith, omega arith)

  module _ (w : Shaped s h) (v : Shaped s i) (n : h.bytes ≡ i.bytes) (k : h.keep ≡ i.keep) {r : Bool} (e : HereSame s p h q i r) where
    stepped : both r (same (cells_in s h s (p + stride) stride (left - 1)) (cells_in s i s (q + step) step (left - 1))) ≡ g
    stepped =
        let a = cell_wide s p w step-here.0 in
        let b = cell_wide s q v step-here.1 in
        rw e (sym (same_parts _ _ _ _ (a ∙ widths w v n k ∙ sym b)))
        ∙ rw (first_cell s h p stride left t.one.some, first_cell s i q step left t.one.some) at t.is

    pub step_other : not r ≡ true → false ≡ g
    step_other u = rw (not-true r u) at stepped

    pub step_turn : not r ≡ false → 1 < left → Stepping s stride h step i (p + stride) (q + step) (left - 1) g
    step_turn u z = record { one = lying_next t.one z; two = lying_next t.two z; is = rw (not-false r u) at stepped }

    pub step_end : not r ≡ false → left ≡ 1 → true ≡ g
    unfolding cells records_at spaced same
    step_end u z = let x : left - 1 ≡ 0 = omega arith in rw (not-false r u, x) at stepped
