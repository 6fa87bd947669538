-- The laws of the form, test by test.
use Rattle.std.specs.Prelude.{ℕ, ◌+◌, ◌*◌, ◌-◌, ◌/◌, ◌%◌, ◌≤◌, ◌<◌, List, Bool, true, false, ◌≡◌, refl, eqb}
use Rattle.std.proofs.Common.{sym, ◌∙◌, zero-mul, mul-zero}
use Rattle.std.proofs.Math.Path.{ap}
use Rattle.std.proofs.Math.Nat.{add-zero}
use native.Mathlib.Omega.{arith}
use Rattle.std.proofs.Math.ListN.{get_or}
use borrow.Author.Tests.{lt-ltb, le-ltb, le-leb, lt-leb, eq-eqb, ne_eqb}
use Rattle.base.specs.Choice.{pick, if_eq}
use Rattle.base.specs.ChoiceLaws.{eq_yes, eq_no}
use Rattle.base.specs.Field.{le_at}
use Rattle.mdf.specs.Block.{kind_dl, kind_at, size_at, links_at, link_at, data_at}
use Rattle.mdf.specs.Walk.{id_size}
use Rattle.mdf.specs.Group.{samples, inval_bytes}
use Rattle.mdf.specs.Records.{size_of}
use Rattle.records.specs.Bounded.{Bounded}
use Rattle.file.specs.Form.{cycles, record_bytes, links_formed, is_equal_length, equal_length, have_length, list_formed, all_dt, all_dv, one_kind, formed}
use Rattle.ranges.specs.Blocks.{listed_from, none_from, links_of, blocks_of, column_of}
use Rattle.ranges.specs.BlocksLaws.{none_first}

last_test : (t : Bool) → pick t true false ≡ t
last_test true = refl
last_test false = refl

-- ---- fields
module _ (s : List ℕ) (g : ℕ) where
  pub cycles_is : {r : ℕ} → r ≡ le_at 8 s (data_at s g + 8) → r ≡ cycles s g
  unfolding cycles
  cycles_is e = e

  pub bytes_is : {x y : ℕ} → Bounded 4294967296 (samples s g) x → Bounded 4294967296 (inval_bytes s g) y → Bounded 8589934591 (record_bytes s g) (x + y)
  unfolding record_bytes
  bytes_is p q = record { is = rw (p.is, q.is); small = let a = p.small in let b = q.small in omega arith }

-- ---- the links
module _ (s : List ℕ) (a : ℕ) {n : ℕ} (q : n ≡ links_at s a) where
  pub links_empty : n ≡ 0 → false ≡ links_formed s a
  unfolding links_formed
  links_empty z = rw (le-ltb 0 (links_at s a) (omega (arith, q, z)))

  pub links_first : {x : ℕ} → (n ≡ 0 → ⊥) → x ≡ link_at s a 0 → (x ≡ 0 → ⊥) → false ≡ links_formed s a
  unfolding links_formed
  links_first {x} z p f = rw (lt-ltb 0 (links_at s a) (omega (arith, q, z)), ne_eqb (link_at s a 0) 0 (λ e. f (p ∙ e)))

  pub links_rest : {x : ℕ} {r : Bool} → (n ≡ 0 → ⊥) → x ≡ link_at s a 0 → x ≡ 0 → r ≡ none_from s a n 1 → r ≡ links_formed s a
  unfolding links_formed
  links_rest {x} z p f g =
      g ∙ rw (lt-ltb 0 (links_at s a) (omega (arith, q, z)), eq-eqb (link_at s a 0) 0 (sym p ∙ f), q, none_first s a (links_at s a))
      (sym (last_test _))

-- ---- the equal-length bit
module _ (s : List ℕ) (a : ℕ) {z : ℕ} (q : z ≡ size_at s a) where
  pub equal_short : z < 40 → false ≡ is_equal_length s a
  unfolding is_equal_length
  equal_short h = rw (lt-leb (24 + 8 * links_at s a + 16) (size_at s a) (omega (arith, q)))

  pub equal_over : {n : ℕ} → n ≡ links_at s a → 40 ≤ z → (z - 40) / 8 < n → false ≡ is_equal_length s a
  unfolding is_equal_length
  equal_over p g h = rw (lt-leb (24 + 8 * links_at s a + 16) (size_at s a) (omega (arith, q, p)))

  pub equal_bit : {n r : ℕ} → n ≡ links_at s a → 40 ≤ z → n ≤ (z - 40) / 8 → r ≡ le_at 1 s (data_at s a + 0) → eqb (r % 2) 1 ≡ is_equal_length s a
  unfolding is_equal_length le_at
  equal_bit {n} {r} p g h f =
      let b : r ≡ get_or s (data_at s a) 0 = f ∙ simp add-zero in
      rw (le-leb (24 + 8 * links_at s a + 16) (size_at s a) (omega (arith, q, p)), b) (sym (last_test _))

-- ---- the DL
module _ (s : List ℕ) (a : ℕ) {k : ℕ} (q : k ≡ kind_at s a) where
  pub list-other : (k ≡ kind_dl → ⊥) → false ≡ list_formed s a (listed_from s a (links_at s a) 1)
  unfolding list_formed
  list-other z = rw (ne_eqb (kind_at s a) kind_dl (λ e. z (q ∙ e)))

  module _ (z : k ≡ kind_dl) {t : Bool} (p : t ≡ links_formed s a) where
    pub list_links : t ≡ false → false ≡ list_formed s a (listed_from s a (links_at s a) 1)
    unfolding list_formed
    list_links e = rw (eq-eqb (kind_at s a) kind_dl (sym q ∙ z), ← p, e)

    module _ (e : t ≡ true) {u : Bool} (f : u ≡ is_equal_length s a) where
      pub list-unequal : u ≡ false → false ≡ list_formed s a (listed_from s a (links_at s a) 1)
      unfolding list_formed
      list-unequal g = rw (eq-eqb (kind_at s a) kind_dl (sym q ∙ z), ← p, e, ← f, g)

      pub list_lengths : {n m : ℕ} {r : Bool} → u ≡ true → n ≡ links_at s a → m ≡ le_at 8 s (data_at s a + 8)
          → r ≡ have_length m (listed_from s a n 1) → r ≡ list_formed s a (listed_from s a (links_at s a) 1)
      unfolding list_formed equal_length
      list_lengths g h i j = j ∙ rw (eq-eqb (kind_at s a) kind_dl (sym q ∙ z), ← p, e, ← f, g, h, i) (sym (last_test _))

-- ---- the data link
module _ (s : List ℕ) (a : ℕ) where
  pub data_zero : a ≡ 0 → true ≡ if_eq a 0 true (list_formed s a (blocks_of s a))
  data_zero e = eq_yes _ _ _ _ e refl

  pub data_list : {r : Bool} → (a ≡ 0 → ⊥) → r ≡ list_formed s a (listed_from s a (links_at s a) 1) → r ≡ if_eq a 0 true (list_formed s a (blocks_of s a))
  unfolding links_of
  data_list e q = eq_no _ _ _ _ e (q ∙ ap (λ (n : ℕ). list_formed s a (listed_from s a n 1)) (eq_no _ _ _ _ e refl))

-- ---- the kinds
module _ (s : List ℕ) (g a links : ℕ) {t : Bool} (q : t ≡ all_dt (listed_from s a links 1)) where
  pub kind-dt : t ≡ true → true ≡ one_kind s g (listed_from s a links 1)
  unfolding one_kind
  kind-dt e = rw (← q, e)

  module _ (e : t ≡ false) {u : Bool} (p : u ≡ all_dv (listed_from s a links 1)) where
    pub kind_mixed : u ≡ false → false ≡ one_kind s g (listed_from s a links 1)
    unfolding one_kind
    kind_mixed f = rw (← q, e, ← p, f)

    pub kind-dv : {n : ℕ} → u ≡ true → n ≡ inval_bytes s g → eqb n 0 ≡ one_kind s g (listed_from s a links 1)
    unfolding one_kind
    kind-dv f h = rw (← q, e, ← p, f, h) (sym (last_test _))

-- ---- the records
module _ (s : List ℕ) (g a links : ℕ) {w : ℕ} (q : w ≡ record_bytes s g) {r : Bool} where
  pub records_none : w ≡ 0 → r ≡ eqb (size_of (listed_from s a links 1)) (0 * 1) → r ≡ eqb (size_of (listed_from s a links 1)) (cycles s g * record_bytes s g)
  records_none z e = e ∙ rw (← q, z, mul-zero, zero-mul)

  pub records_some : {n : ℕ} → n ≡ cycles s g → r ≡ eqb (size_of (listed_from s a links 1)) (n * w)
      → r ≡ eqb (size_of (listed_from s a links 1)) (cycles s g * record_bytes s g)
  records_some h e = e ∙ rw (h, q)

-- ---- the column
module _ (s : List ℕ) (d g : ℕ) {n : ℕ} (q : n ≡ id_size s d) where
  pub form_ids : (n ≡ 0 → ⊥) → false ≡ formed s (column_of s d g 0)
  unfolding formed
  form_ids z = rw (ne_eqb (id_size s d) 0 (λ e. z (q ∙ e)))

  module _ (z : n ≡ 0) {a : ℕ} (p : a ≡ link_at s d 2) {t : Bool} (h : t ≡ if_eq a 0 true (list_formed s a (blocks_of s a))) where
    pub form_data : t ≡ false → false ≡ formed s (column_of s d g 0)
    unfolding formed
    form_data e = rw (eq-eqb (id_size s d) 0 (sym q ∙ z), ← p, ← h, e)

    module _ (e : t ≡ true) {links : ℕ} (i : links ≡ links_of s a) {u : Bool} (j : u ≡ one_kind s g (listed_from s a links 1)) where
      pub form_kinds : u ≡ false → false ≡ formed s (column_of s d g 0)
      unfolding formed
      form_kinds f = rw (eq-eqb (id_size s d) 0 (sym q ∙ z), ← p, ← h, e, ← i, ← j, f)

      pub form_records : {r : Bool} → u ≡ true → r ≡ eqb (size_of (listed_from s a links 1)) (cycles s g * record_bytes s g) → r ≡ formed s (column_of s d g 0)
      unfolding formed
      form_records f k = k ∙ rw (eq-eqb (id_size s d) 0 (sym q ∙ z), ← p, ← h, e, ← i, ← j, f) (sym (last_test _))
