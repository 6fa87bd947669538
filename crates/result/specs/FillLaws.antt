-- Laws of the bytes of blocks.
use Rattle.std.specs.Prelude.{ℕ, zero, suc, ◌+◌, ◌*◌, ◌≡◌, refl, length}
use Rattle.std.proofs.Common.{arith, length-append}
use Rattle.base.specs.FieldLaws.{length-le}
use Rattle.result.specs.Fill.{header, block_links}

pub length-header : (kind size links : ℕ) → length (header kind size links) ≡ 24
unfolding header
length-header kind size links = simp (length-append, length-le)

pub length-block_links : (payload n a : ℕ) → length (block_links payload n a) ≡ 8 * n
unfolding block_links
length-block_links payload zero a = refl
length-block_links payload (suc n) a = simp (length-append, length-le, length-block_links payload n (a + (24 + payload))) (omega arith)
