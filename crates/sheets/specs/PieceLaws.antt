-- Pieces one after the other.
use Rattle.std.specs.Prelude.{ℕ, ◌+◌, ◌%◌, ◌<◌, List, [], ◌∷◌, ◌++◌, ◌≡◌, refl}
use Rattle.std.proofs.Common.{sym, ◌∙◌, arith, length-append}
use Rattle.base.specs.Field.{le}
use Rattle.base.specs.Blit.{blit}
use Rattle.base.specs.BlitLaws.{blit-append}
use Rattle.sheets.specs.Piece.{Piece}

pub piece_then : {at m n : ℕ} {xs ys d e f : List ℕ} → Piece at xs m d e → Piece (at + m) ys n e f → Piece at (xs ++ ys) (m + n) d f
piece_then {at} {m} {n} {xs} {ys} {d} a b =
    let p = a.long in
    let q = b.long in
    record { is = b.is ∙ rw (a.is, ← p) (sym (blit-append xs at ys d)); long = length-append xs ys ∙ omega arith }

-- the same bytes, said otherwise
pub piece_as : {at n : ℕ} {xs ys d e : List ℕ} → Piece at xs n d e → xs ≡ ys → Piece at ys n d e
piece_as a q = rw (← q) a

-- one byte
low : (x : ℕ) → x < 256 → x % 256 ≡ x
low x h = omega arith

pub piece_byte : {at : ℕ} {d e : List ℕ} (x : ℕ) → x < 256 → e ≡ blit at (le 1 x) d → Piece at (x ∷ []) 1 d e
unfolding le
piece_byte x h q = record { is = rw (low x h) at q; long = refl }
