-- Cells: of a fitting channel each is as long as the column is wide.
use Rattle.std.specs.Prelude.{ℕ, ◌+◌, ◌*◌, ◌/◌, ◌≤◌, ◌<◌, Bool, true, false, List, [], ◌∷◌, ◌++◌, ◌≡◌, refl, length, leb, ltb, eqb}
use Rattle.std.proofs.Common.{append_assoc, sym, mul-zero, mul-suc, arith, length-append, leb-true, ltb-true}
use Rattle.base.specs.Choice.{pick}
use Rattle.mdf.specs.Group.{samples, inval_bytes}
use Rattle.plan.specs.Channel.{bit_offset, byte_offset, channel_bytes, channel_flags, inval_position, inval_bit, bit, both, fits, keeps_inval, width}
use Rattle.result.specs.Payload.{cell, cells}
use Rattle.payload_laws.specs.Answers.{false≢true}
use Rattle.payload_laws.specs.Lists.{Long, none, next, length_part}

pub both_true : (a b : Bool) → both a b ≡ true → (a ≡ true) × (b ≡ true)
both_true true b e = (refl, e)
both_true false b e = absurd (false≢true e)

-- "It fits if .. byte offset + bytes ≤ samples"
pub fits-within : (s : List ℕ) (g c : ℕ) → fits s g c ≡ true → byte_offset s c + channel_bytes s c ≤ samples s g
unfolding fits
fits-within s g c e =
    let b = both_true (leb (bit_offset s c) 7) (leb (byte_offset s c + channel_bytes s c) (samples s g)) e in
    leb-true _ _ b.1

-- a kept invalidation byte is one of the group's
pub keeps_some : (s : List ℕ) (g c : ℕ) → keeps_inval s g c ≡ true → 0 < inval_bytes s g
unfolding keeps_inval
keeps_some s g c e =
    let within : Bool = ltb (inval_position s c / 8) (inval_bytes s g) in
    let a = both_true (eqb (bit 0 (channel_flags s c)) 0) (both (eqb (bit 1 (channel_flags s c)) 1) within) e in
    let b = both_true (eqb (bit 1 (channel_flags s c)) 1) within a.1 in
    omega (arith, ltb-true (inval_position s c / 8) (inval_bytes s g) b.1)

-- a fitting column is no wider than a record
pub width-within : (s : List ℕ) (g c : ℕ) → fits s g c ≡ true → width s g c ≤ samples s g + inval_bytes s g
unfolding width
width-within s g c e = go (keeps_inval s g c) refl (fits-within s g c e)
  where
    go : (t : Bool) → keeps_inval s g c ≡ t → byte_offset s c + channel_bytes s c ≤ samples s g
        → channel_bytes s c + pick (keeps_inval s g c) 1 0 ≤ samples s g + inval_bytes s g
    go true q h = rw q (omega (arith, keeps_some s g c q))
    go false q h = rw q (omega arith)

pub length-cell : (s : List ℕ) (g c : ℕ) (r : List ℕ) → byte_offset s c + channel_bytes s c ≤ length r → length (cell s g c r) ≡ width s g c
unfolding cell width
length-cell s g c r h = rw (length-append, length_part (byte_offset s c) (channel_bytes s c) r h) (go (keeps_inval s g c))
  where
    go : (t : Bool) → channel_bytes s c + length (pick t (inval_bit s g c r ∷ []) []) ≡ channel_bytes s c + pick t 1 0
    go true = refl
    go false = refl

-- the cells of whole records of a fitting channel
pub length-cells : (s : List ℕ) (g c : ℕ) {rs : List (List ℕ)} → fits s g c ≡ true → Long (samples s g + inval_bytes s g) rs
    → length (cells s g c rs) ≡ width s g c * length rs
unfolding cells
length-cells s g c f none = rw mul-zero
length-cells s g c f (next {r} {rs} e l) =
    let h = fits-within s g c f in
    rw (length-append, length-cell s g c r (omega arith), length-cells s g c f l, mul-suc) (omega arith)

pub cells-append : (s : List ℕ) (g c : ℕ) (rs ts : List (List ℕ)) → cells s g c (rs ++ ts) ≡ cells s g c rs ++ cells s g c ts
unfolding cells
cells-append s g c [] ts = refl
cells-append s g c (r ∷ rs) ts = rw (cells-append s g c rs ts) (sym (append_assoc (cell s g c r) (cells s g c rs) (cells s g c ts)))
