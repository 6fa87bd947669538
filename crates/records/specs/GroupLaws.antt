-- The fields of a CG and a DG, as they are read.
use Rattle.std.specs.Prelude.{ℕ, ◌+◌, ◌%◌, List, Bool, true, false, ◌≡◌, get_or, eqb}
use Rattle.std.proofs.Common.{◌∙◌}
use Rattle.std.proofs.Math.Nat.{add-zero}
use Rattle.base.specs.Field.{le_at}
use Rattle.mdf.specs.Block.{data_at}
use Rattle.mdf.specs.Walk.{id_size}
use Rattle.mdf.specs.Records.{record_size}
use Rattle.records.specs.Straddle.{kind_if}
use Rattle.mdf.specs.Group.{record_id, group_flags, samples, inval_bytes, is_storage}

module _ (s : List ℕ) (a : ℕ) {r : ℕ} where
  pub id_size_is : r ≡ le_at 1 s (data_at s a + 0) → r ≡ id_size s a
  unfolding le_at id_size
  id_size_is e = e ∙ simp add-zero

  pub record_id_is : r ≡ le_at 8 s (data_at s a + 0) → r ≡ record_id s a
  unfolding record_id
  record_id_is e = e ∙ rw add-zero

  pub samples_is : r ≡ le_at 4 s (data_at s a + 24) → r ≡ samples s a
  unfolding samples
  samples_is e = e

  pub inval_is : r ≡ le_at 4 s (data_at s a + 28) → r ≡ inval_bytes s a
  unfolding inval_bytes
  inval_is e = e

  pub storage_is : r ≡ le_at 2 s (data_at s a + 16) → eqb (r % 2) 1 ≡ is_storage s a
  unfolding is_storage group_flags
  storage_is e = rw e

-- the bytes of a record
module _ (s : List ℕ) (d g : ℕ) {b : Bool} {r : ℕ} where
  pub size-dv : b ≡ true → r ≡ samples s g → r ≡ record_size s d g (kind_if b)
  size-dv q e = rw (q, e)

  pub size-dt : {m n : ℕ} → b ≡ false → m ≡ id_size s d → n ≡ samples s g → r ≡ inval_bytes s g → m + n + r ≡ record_size s d g (kind_if b)
  size-dt q i j k = rw (q, i, j, k)

-- a byte is the field of one byte
pub byte_is : (s : List ℕ) (at : ℕ) {r : ℕ} → r ≡ le_at 1 s at → r ≡ get_or s at 0
unfolding le_at
byte_is s at e = e ∙ simp add-zero
