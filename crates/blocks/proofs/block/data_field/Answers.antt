-- The field read from where the data begins in the image is the field of the data; past the image both are 0.
use native.Mathlib.Omega.{arith}
use Rattle.blocks.specs.BlockLaws.{begins-within, data_read, data_past}
use Rattle.std.proofs.Common.{ℕ, zero, suc, min, ◌^◌, ◌<◌, pow-suc}
use Rattle.blocks.proofs.block.data_field.Goals as goal

positive : (n : ℕ) → 0 < 256 ^ n
positive zero = omega arith
positive (suc n) = let h = positive n in rw (pow-suc 256 n) (omega (arith, h))

pub returns-then-n-i : goal.returns-then-n-i
returns-then-n-i g c = data_past _ _ (min g.row.N 8) _ (omega arith) (positive (min g.row.N 8))

pub overflow_add-data_at : goal.overflow_add-data_at
overflow_add-data_at g c = let w = begins-within _ _ c.data_at.ensures in omega arith

pub returns : goal.returns
returns g c = data_read _ _ (min g.row.N 8) _ c.data_at.ensures c.field_at.ensures
