-- Counting a result's columns again: each has as many records as its group had, if with records it has width above 0.
use Rattle.std.specs.Prelude.{ℕ, zero, suc, ◌+◌, ◌*◌, ◌-◌, ◌/◌, ◌^◌, ◌≤◌, ◌<◌, Bool, true, false, ◌≡◌, eqb, length}
use mathlib.Core.List.{List, [], ◌∷◌, ◌++◌, append-nil, append_assoc}
use Rattle.std.proofs.Math.Path.{refl, sym}
use Rattle.std.proofs.Common.{ap, ◌∙◌, mul-div_cancel, arith, eqb-true}
use Rattle.std.proofs.Math.Nat.{mul_comm, zero-div}
use Rattle.std.proofs.lemmas.Bool.{eqb-false}
use Rattle.base.specs.Choice.{if_eq}
use Rattle.base.specs.ChoiceLaws.{lt_no, eq_yes, eq_no}
use Rattle.base.specs.Checked.{ok}
use Rattle.mdf.specs.Chain.{Kind, dt, dv, Fragment}
use Rattle.mdf.specs.Count.{size_dt, size_dv, quotient, sorted_count, count_one, count_groups, counts_from, counts}
use Rattle.mdf.specs.Group.{addresses, samples, inval_bytes}
use Rattle.mdf.specs.Records.{most64, record_size, size_of}
use Rattle.plan.specs.Channel.{keeps_inval, width}
use Rattle.plan.specs.Layout.{Placed, cg_of, column_width, payload_size}
use Rattle.plan.specs.Rules.{Rules}
use Rattle.result.specs.Due.{due_payload, even_blocks, blocks_due, equal_due, fragments_due, kept_byte}
use Rattle.result.specs.Guarantee.{In, here, there}
use Rattle.file.specs.Form.{cycles, record_bytes}
use Rattle.file_laws.specs.OpenedLaws.{Formed, formed_back}
use Rattle.file_guarantee.specs.ColumnForm.{file_column}
use Rattle.file_guarantee.specs.Columns.{file_columns}
use Rattle.again_laws.proofs.WalkAgain.{column_groups}
use Rattle.again_laws.specs.Held.{Fields, Held}
use Rattle.again_laws.proofs.HeldLaws.{fields}

-- ---- a column's blocks are of one kind
dt-bytes : (q n all a : ℕ) → (size_dt (even_blocks dt q n all a) ≡ size_of (even_blocks dt q n all a)) × (size_dv (even_blocks dt q n all a) ≡ 0)
unfolding even_blocks size_dt size_dv size_of
dt-bytes q zero all a = (refl, refl)
dt-bytes q (suc zero) all a = (refl, refl)
dt-bytes q (suc (suc n)) all a = let more = dt-bytes q (suc n) (all - q) (a + (24 + q)) in (rw more.0, rw more.1)

dv-bytes : (q n all a : ℕ) → (size_dv (even_blocks dv q n all a) ≡ size_of (even_blocks dv q n all a)) × (size_dt (even_blocks dv q n all a) ≡ 0)
unfolding even_blocks size_dt size_dv size_of
dv-bytes q zero all a = (refl, refl)
dv-bytes q (suc zero) all a = (refl, refl)
dv-bytes q (suc (suc n)) all a = let more = dv-bytes q (suc n) (all - q) (a + (24 + q)) in (rw more.0, rw more.1)

-- "the DT bytes, the DV bytes", among all
dt-one : (a n : ℕ) (k : Kind) (fs : List Fragment) → size_dt (record { offset = a; size = n; kind = k } ∷ fs) ≤ n + size_dt fs
unfolding size_dt
dt-one a n dt fs = omega arith
dt-one a n dv fs = omega arith

dv_one : (a n : ℕ) (k : Kind) (fs : List Fragment) → size_dv (record { offset = a; size = n; kind = k } ∷ fs) ≤ n + size_dv fs
unfolding size_dv
dv_one a n dt fs = omega arith
dv_one a n dv fs = omega arith

dt-none : size_dt [] ≤ 0
unfolding size_dt
dt-none = omega arith

dt_most : (fs : List Fragment) → size_dt fs ≤ size_of fs
unfolding size_of
dt_most [] = dt-none
dt_most (f ∷ fs) = omega (arith, dt-one f.offset f.size f.kind fs, dt_most fs)

dv-none : size_dv [] ≤ 0
unfolding size_dv
dv-none = omega arith

dv_most : (fs : List Fragment) → size_dv fs ≤ size_of fs
unfolding size_of
dv_most [] = dv-none
dv_most (f ∷ fs) = omega (arith, dv_one f.offset f.size f.kind fs, dv_most fs)

-- ---- quotients
whole_quotient : (n w : ℕ) → (0 < n → 0 < w) → quotient (n * w) w ≡ n
unfolding quotient
whole_quotient n w h = go (eqb w 0) refl
  where
    go : (t : Bool) → eqb w 0 ≡ t → if_eq w 0 0 (n * w / w) ≡ n
    go true q =
        let z : w ≡ 0 = eqb-true w 0 q in
        let e : n ≡ 0 = least n (λ l. let k = h l in omega arith) in
        sym (eq_yes w 0 0 (n * w / w) z refl) ∙ sym e
      where
        least : (n : ℕ) → (0 < n → ⊥) → n ≡ 0
        least zero k = refl
        least (suc n) k = absurd (k (omega arith))
    go false q = let z = eqb-false w 0 q in sym (eq_no w 0 0 (n * w / w) z (sym (mul-div_cancel n (some w z))))
      where
        some : (w : ℕ) → (w ≡ 0 → ⊥) → 0 < w
        some zero k = absurd (k refl)
        some (suc w) k = omega arith

no_quotient : (w : ℕ) → quotient 0 w ≡ 0
unfolding quotient
no_quotient w = go (eqb w 0) refl
  where
    go : (t : Bool) → eqb w 0 ≡ t → if_eq w 0 0 (0 / w) ≡ 0
    go true q = sym (eq_yes w 0 0 (0 / w) (eqb-true w 0 q) refl)
    go false q = sym (eq_no w 0 0 (0 / w) (eqb-false w 0 q) (sym (zero-div w)))

-- ---- one column
module _ (f : List ℕ) (o : Rules) (s : List ℕ) (size : ℕ) (all : List Placed) (p : Placed) (h : Held f o s size all p) where
  abbrev n : ℕ
  n = p.column.group.records

  abbrev w : ℕ
  w = column_width s p.column

  abbrev fs : List Fragment
  fs = fragments_due s size p

  has : Fields f o s all p
  has = fields f o s size all p h.shown

  -- a record of it has as many bytes as it is wide
  pub record_bytes_lem : samples f (cg_of p) + inval_bytes f (cg_of p) ≡ w
  unfolding column_width width kept_byte
  record_bytes_lem = rw (has.samples, has.inval)

  -- all its bytes
  pub all-bytes : size_of fs ≡ n * w
  unfolding file_column cycles record_bytes
  all-bytes =
      let k : Formed f (file_column s size p) = formed_back f (file_column s size p) h.stands.form in
      k.bytes ∙ rw (has.records, record_bytes_lem)

  pub bytes_small : size_of fs ≤ most64
  unfolding payload_size
  bytes_small = let l = h.long in let e = h.sound.payload_ends in omega (arith, all-bytes, mul_comm n w)

  -- "count = floor(DT bytes / ..) + floor(DV bytes / samples)"
  count_is : (0 < n → 0 < w) → sorted_count f p.dg (cg_of p) fs ≡ n
  unfolding sorted_count fragments_due kept_byte
  count_is wide = go (keeps_inval s p.column.group.at p.column.channel) refl
    where
      blocks : Kind → List Fragment
      blocks k = even_blocks k (equal_due s size p.column) (blocks_due s size p.column) (length (due_payload s p.column)) p.first

      go : (t : Bool) → keeps_inval s p.column.group.at p.column.channel ≡ t → sorted_count f p.dg (cg_of p) fs ≡ n
      go true q =
          let b = dt-bytes (equal_due s size p.column) (blocks_due s size p.column) (length (due_payload s p.column)) p.first in
          let e : fs ≡ blocks dt = rw q in
          let total : size_dt fs ≡ n * w = ap size_dt e ∙ b.0 ∙ ap size_of (sym e) ∙ all-bytes in
          let none : size_dv fs ≡ 0 = ap size_dv e ∙ b.1 in
          let r : record_size f p.dg (cg_of p) dt ≡ w = rw has.ids (omega (arith, record_bytes_lem)) in
          rw (total, none, r) (omega (arith, whole_quotient n w wide, no_quotient (samples f (cg_of p))))
      go false q =
          let b = dv-bytes (equal_due s size p.column) (blocks_due s size p.column) (length (due_payload s p.column)) p.first in
          let e : fs ≡ blocks dv = rw q in
          let total : size_dv fs ≡ n * w = ap size_dv e ∙ b.0 ∙ ap size_of (sym e) ∙ all-bytes in
          let none : size_dt fs ≡ 0 = ap size_dt e ∙ b.1 in
          let kept : inval_bytes f (cg_of p) ≡ 0 = has.inval ∙ rw q in
          let r : samples f (cg_of p) ≡ w = omega (arith, record_bytes_lem, kept) in
          rw (total, none, no_quotient (record_size f p.dg (cg_of p) dt), r) (omega (arith, whole_quotient n w wide))

  -- as many records as its group had
  pub count_again : (0 < n → 0 < w) → count_one f p.dg (cg_of p) fs ≡ ok (n ∷ [])
  unfolding count_one
  count_again wide =
      let e = count_is wide in
      let small : n < 256 ^ 8 = h.sound.records in
      sym (lt_no _ _ _ _ (omega (arith, bytes_small, dt_most fs)) (lt_no _ _ _ _ (omega (arith, bytes_small, dv_most fs))
      (lt_no _ _ _ _ (omega arith) (sym (rw e)))))

-- ---- all columns

-- "every column with records has width above 0", of those placed
abbrev pub WidePlaced : List ℕ → List Placed → Type 0
WidePlaced s ps = (p : Placed) → In p ps → 0 < p.column.group.records → 0 < column_width s p.column

-- the records of columns
unfoldable pub records_placed : List Placed → List ℕ
records_placed [] = []
records_placed (p ∷ ps) = p.column.group.records ∷ records_placed ps

counts-from : (f : List ℕ) (o : Rules) (s : List ℕ) (size : ℕ) (all ps : List Placed) (done : List ℕ)
    → ((p : Placed) → In p ps → Held f o s size all p) → WidePlaced s ps
    → counts_from f (column_groups (file_columns s size ps)) done ≡ ok (done ++ records_placed ps)
unfolding counts_from column_groups file_columns file_column records_placed count_groups addresses
counts-from f o s size all [] done held wide = rw append-nil
counts-from f o s size all (p ∷ ps) done held wide =
    rw (count_again f o s size all p (held p here) (wide p here))
    (counts-from f o s size all ps (done ++ (p.column.group.records ∷ [])) (λ q i. held q (there i)) (λ q i. wide q (there i))
    ∙ rw append_assoc)

-- "counts DG by DG": just as many
pub counts-again : (f : List ℕ) (o : Rules) (s : List ℕ) (size : ℕ) (all ps : List Placed) → ((p : Placed) → In p ps → Held f o s size all p)
    → WidePlaced s ps → counts f (column_groups (file_columns s size ps)) ≡ ok (records_placed ps)
unfolding counts
counts-again f o s size all ps held wide = counts-from f o s size all ps [] held wide
