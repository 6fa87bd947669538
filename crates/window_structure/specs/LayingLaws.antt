-- Laws of columns laid over a window one after the other.
use Rattle.std.specs.Prelude.{ℕ, zero, suc, ◌+◌, ◌-◌, ◌*◌, ◌≤◌, ◌<◌, Bool, ◌≡◌, refl, length, get_or}
use mathlib.Core.List.{List, [], ◌++◌, append_assoc}
use Rattle.std.proofs.Common.{⊎_elim, ◌∙◌}
use Rattle.std.proofs.Math.Path.{sym, ap, subst}
use Rattle.std.proofs.Math.Nat.{sub-zero}
use native.Mathlib.Omega.{arith}
use Rattle.plan.specs.Rules.{Rules}
use Rattle.plan.specs.Copies.{Copy, Attachment}
use Rattle.work_words.specs.CopyWords.{placed_at}
use Rattle.result.specs.Fill.{Block, structure_blocks}
use Rattle.result.specs.Ordered.{Ordered}
use Rattle.windows.specs.Windowed.{over_all}
use Rattle.windows.specs.WindowedLaws.{over-two}
use Rattle.window_order.specs.PassedLaws.{before_same, after_same, until_ordered, from_zero, back_ordered}
use Rattle.window_blocks.specs.Apart.{Apart}
use Rattle.writing.specs.declared.placed.PlacedColumn.{PlacedColumn}
use Rattle.writing.specs.PlacedIn.{placed_in}
use Rattle.writing.specs.Structure.{next_place, column_of, Bounded, column_d_ls, column_parts}
use Rattle.writing.specs.StructureLaws.{structure_cons}
use Rattle.window_structure.specs.ColumnLaws.{passed-column}
use Rattle.window_structure.specs.Laying.{Begun, left, Laying}

module _ (ph : Bool) (rs : Rules) (s : List ℕ) (size : ℕ) (columns memo : List ℕ) (n : ℕ) (m : List Copy) (ats : List Attachment) where
  -- the blocks of column k
  abbrev parts_of : ℕ → List Block
  parts_of k = column_parts s m ats (column_of ph rs.table s size columns memo n k) (next_place memo n k)

  left_open : (k : ℕ) → k < n → left ph rs s size columns memo n m ats k ≡ parts_of k ++ left ph rs s size columns memo n m ats (k + 1)
  left_open k l =
      let q : n - k ≡ suc (n - (k + 1)) = omega arith in
      rw q (structure_cons ph rs s size m ats columns memo n k (n - (k + 1)) (omega arith))

  -- the blocks of the columns before number k
  record Front (k : ℕ) : Type 0 where
    front : List Block
    is : left ph rs s size columns memo n m ats 0 ≡ front ++ left ph rs s size columns memo n m ats k

  front_of_lem : (k : ℕ) → k ≤ n → Front k
  front_of_lem zero h = record { front = []; is = refl }
  front_of_lem (suc k) h =
      let f = front_of_lem k (omega arith) in
      let e : k + 1 ≡ suc k = omega arith in
      record {
        front = f.front ++ parts_of k;
        is = f.is ∙ ap (λ (bs : List Block). f.front ++ bs) (left_open k (omega arith)) ∙ sym (append_assoc f.front (parts_of k) _)
            ∙ ap (λ (i : ℕ). f.front ++ parts_of k ++ left ph rs s size columns memo n m ats i) e;
      }

module _ {ph : Bool} {rs : Rules} {s : List ℕ} {size : ℕ} {columns memo : List ℕ} {n a : ℕ} {m : List Copy} {ats : List Attachment} where
  pub columns_begin : (w : List ℕ) (at room : ℕ)
      → Ordered at (structure_blocks rs s size m ats (placed_in ph s columns memo 0 n) (placed_in ph s columns memo 0 n)) room
      → Laying ph rs s size columns memo n a m ats
      (over_all a (structure_blocks rs s size m ats (placed_in ph s columns memo 0 n) (placed_in ph s columns memo 0 n)) w) 0 w
  columns_begin w at room o = record { room = room; ordered = rw sub-zero (from_zero at _ room o); rest = rw sub-zero refl }

  module _ {g : List ℕ} {k : ℕ} {w : List ℕ} (t : Laying ph rs s size columns memo n a m ats g k w) where
    pub columns_end : n ≤ k → w ≡ g
    unfolding placed_in structure_blocks over_all
    columns_end h = let e : n - k ≡ 0 = omega arith in rw e at t.rest

    pub columns_turn : {next : ℕ} {h : PlacedColumn} {v : List ℕ} → k < n → h ≡ column_of ph rs.table s size columns memo n k → next ≡ next_place memo n k
        → v ≡ over_all a (column_parts s m ats h next) w → Laying ph rs s size columns memo n a m ats g (k + 1) v
    columns_turn {v = v} l c x e =
        let parts : List Block = parts_of ph rs s size columns memo n m ats k in
        let later : List Block = left ph rs s size columns memo n m ats (k + 1) in
        let f : v ≡ over_all a parts w = rw (c, x) at e in
        let o : Ordered 0 (parts ++ later) t.room = subst (λ (bs : List Block). Ordered 0 bs t.room) (left_open ph rs s size columns memo n m ats k l) t.ordered in
        record {
          room = t.room;
          ordered = back_ordered 0 parts later t.room o;
          rest = ap (over_all a later) f ∙ sym (over-two a parts later w) ∙ ap (λ (bs : List Block). over_all a bs w) (sym (left_open ph rs s size columns memo n m ats k l)) ∙ t.rest;
        }

    -- a column that has no byte of its DG, CG and CN in the window
    pub columns_pass : {h : PlacedColumn} {v : List ℕ} → k < n → h ≡ column_of ph rs.table s size columns memo n k → Bounded h
        → Apart (length w) a h.dg (336 + 8 * h.photos) → v ≡ over_all a (column_d_ls h) w → Laying ph rs s size columns memo n a m ats g (k + 1) v
    columns_pass {h} l c b p e = columns_turn l c refl (e ∙ passed-column s m ats h (next_place memo n k) a w b p)

    -- a column whose DG begins past the window: so does what is left
    pub columns-past : k < n → a + length w ≤ get_or memo (placed_at + 3 * k) 0 → w ≡ g
    unfolding column_parts column_of
    columns-past l h =
        let open' = left_open ph rs s size columns memo n m ats k l in
        sym (ap (λ (bs : List Block). over_all a bs w) open' ∙ after_same a 0 t.room _ _ w (subst (λ (bs : List Block). Ordered 0 bs t.room) open' t.ordered) h) ∙ t.rest

    pub columns-over : k < n → a + length w ≤ get_or memo (placed_at + 3 * k) 0 → Laying ph rs s size columns memo n a m ats g n w
    unfolding placed_in structure_blocks over_all Ordered
    columns-over l h = let e : n - n ≡ 0 = omega arith in record { room = 0; ordered = rw e (omega arith); rest = rw e (columns-past l h) }

  -- a column whose DG begins by a: nothing of those before it lies in the window
  columns-later : {g w : List ℕ} (k : ℕ) → k < n → get_or memo (placed_at + 3 * k) 0 ≤ a → Laying ph rs s size columns memo n a m ats g 0 w
      → Laying ph rs s size columns memo n a m ats g k w
  unfolding column_parts column_of
  columns-later {g} {w} k l h t =
      let f = front_of_lem ph rs s size columns memo n m ats k (omega arith) in
      let o : Ordered 0 (f.front ++ left ph rs s size columns memo n m ats k) t.room =
      subst (λ (bs : List Block). Ordered 0 bs t.room) f.is t.ordered in
      let u : Ordered 0 f.front a =
      until_ordered 0 f.front _ _ t.room a (subst (λ (bs : List Block). Ordered 0 (f.front ++ bs) t.room) (left_open ph rs s size columns memo n m ats k l) o) h in
      record {
        room = t.room;
        ordered = back_ordered 0 f.front _ t.room o;
        rest = sym (ap (λ (bs : List Block). over_all a bs w) f.is ∙ over-two a f.front _ w
            ∙ ap (over_all a (left ph rs s size columns memo n m ats k)) (before_same a 0 f.front w u)) ∙ t.rest;
      }

  pub columns-from : {g w : List ℕ} (k : ℕ) → Begun memo n a k → Laying ph rs s size columns memo n a m ats g 0 w
      → Laying ph rs s size columns memo n a m ats g k w
  columns-from k b t = ⊎_elim (λ e. rw e t) (λ q. columns-later k q.0 q.1 t) b
