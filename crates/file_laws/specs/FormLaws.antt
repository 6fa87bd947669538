-- The form, fact by fact: what makes a DL and a column formed.
use Rattle.std.specs.Prelude.{ℕ, suc, ◌+◌, ◌*◌, ◌-◌, ◌%◌, ◌≤◌, ◌<◌, List, [], ◌∷◌, Bool, true, false, ◌≡◌, refl, get_or, eqb}
use Rattle.std.proofs.Common.{sym, eq-eqb, lt-ltb, le-leb}
use Rattle.base.specs.Choice.{pick}
use Rattle.base.specs.ChoiceLaws.{eq_no}
use Rattle.base.specs.Field.{le_at}
use Rattle.mdf.specs.Block.{kind_dl, kind_at, size_at, links_at, link_at, data_at}
use Rattle.mdf.specs.Chain.{Fragment}
use Rattle.mdf.specs.Group.{inval_bytes}
use Rattle.file.specs.Form.{FileColumn, holds, none_zero, links_formed, is_equal_length, equal_length, have_length, list_formed, all_dt, all_dv, one_kind, formed}
use Rattle.file_laws.specs.OpenedLaws.{Formed}

-- ---- a DL

-- one link more that is not 0
pub none-next : (s : List ℕ) (links p : ℕ) → (le_at 8 s p ≡ 0 → ⊥) → none_zero s links (p + 8) ≡ true → none_zero s (suc links) p ≡ true
unfolding none_zero
none-next s links p z e = sym (eq_no _ _ _ _ z (sym e))

pub record IsList (s : List ℕ) (a : ℕ) (fs : List Fragment) : Type 0 where
  pub kind : kind_at s a ≡ kind_dl
  pub some : 0 < links_at s a
  pub first : link_at s a 0 ≡ 0
  pub others : none_zero s (links_at s a - 1) (a + 32) ≡ true
  pub room : 24 + 8 * links_at s a + 16 ≤ size_at s a
  pub bit : get_or s (data_at s a) 0 % 2 ≡ 1
  pub lengths : have_length (equal_length s a) fs ≡ true

pub list-formed : (s : List ℕ) (a : ℕ) (fs : List Fragment) → IsList s a fs → list_formed s a fs ≡ true
unfolding list_formed links_formed is_equal_length
list-formed s a fs h =
    rw (eq-eqb _ _ h.kind, lt-ltb _ _ h.some, eq-eqb _ _ h.first, h.others, le-leb _ _ h.room, eq-eqb _ _ h.bit, h.lengths)

-- ---- kinds
pub kind-dt : (s : List ℕ) (g : ℕ) (fs : List Fragment) → all_dt fs ≡ true → one_kind s g fs ≡ true
unfolding one_kind
kind-dt s g fs e = rw e

pub kind-dv : (s : List ℕ) (g : ℕ) (fs : List Fragment) → all_dv fs ≡ true → inval_bytes s g ≡ 0 → one_kind s g fs ≡ true
unfolding one_kind
kind-dv s g fs e z = go (all_dt fs)
  where
    go : (t : Bool) → pick t true (holds (all_dv fs ∷ eqb (inval_bytes s g) 0 ∷ [])) ≡ true
    go true = refl
    go false = rw (e, eq-eqb _ _ z)

-- ---- a column
pub is_formed_lem : (s : List ℕ) (c : FileColumn) → Formed s c → formed s c ≡ true
unfolding formed
is_formed_lem s c h = rw (eq-eqb _ _ h.ids, h.list, h.kinds, eq-eqb _ _ h.bytes)
