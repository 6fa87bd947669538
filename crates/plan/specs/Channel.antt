-- A channel of a group: its fields (ASAM MDF 4.2, CNBLOCK), its bytes, when it fits, its invalidation bit (document 01, columns and omissions).
use Rattle.std.specs.Prelude.{ℕ, ◌+◌, ◌/◌, ◌%◌, ◌^◌, List, Bool, true, false, get_or, eqb, leb, ltb}
use Rattle.base.specs.Choice.{pick, if_eq}
use Rattle.base.specs.Field.{le_at}
use Rattle.mdf.specs.Block.{data_at}
use Rattle.mdf.specs.Group.{samples, inval_bytes}

-- ---- fields of the CN at c (ASAM MDF 4.2, CNBLOCK): type, bit offset, byte offset, bits, flags, position of its invalidation bit
unfoldable pub channel_type : List ℕ → ℕ → ℕ
channel_type s c = le_at 1 s (data_at s c)

unfoldable pub bit_offset : List ℕ → ℕ → ℕ
bit_offset s c = le_at 1 s (data_at s c + 3)

unfoldable pub byte_offset : List ℕ → ℕ → ℕ
byte_offset s c = le_at 4 s (data_at s c + 4)

unfoldable pub bit_count : List ℕ → ℕ → ℕ
bit_count s c = le_at 4 s (data_at s c + 8)

unfoldable pub channel_flags : List ℕ → ℕ → ℕ
channel_flags s c = le_at 4 s (data_at s c + 12)

unfoldable pub inval_position : List ℕ → ℕ → ℕ
inval_position s c = le_at 4 s (data_at s c + 16)

-- bookkeeping: bit k of x
abbrev pub bit : ℕ → ℕ → ℕ
bit k x = x / 2 ^ k % 2

-- bookkeeping: "and", "or"
abbrev pub both : Bool → Bool → Bool
both a b = pick a b false

abbrev pub either : Bool → Bool → Bool
either a b = pick a true b

-- "A channel of type 3 or 6 has 0 bytes; others ceil((bit offset + bits) / 8)."
unfoldable pub channel_bytes : List ℕ → ℕ → ℕ
channel_bytes s c =
    if_eq (channel_type s c) 3 0 (if_eq (channel_type s c) 6 0 ((bit_offset s c + bit_count s c + 7) / 8))

-- "It fits if bit offset ≤ 7 and byte offset + bytes ≤ samples", in the group with its CG at g
unfoldable pub fits : List ℕ → ℕ → ℕ → Bool
fits s g c = both (leb (bit_offset s c) 7) (leb (byte_offset s c + channel_bytes s c) (samples s g))

-- "channel of type 2 or 3"
unfoldable pub is_master_type : List ℕ → ℕ → Bool
is_master_type s c = either (eqb (channel_type s c) 2) (eqb (channel_type s c) 3)

-- "The invalidation byte is kept if channel flag bit 0 is clear, bit 1 set and position / 8 < invalidation bytes."
unfoldable pub keeps_inval : List ℕ → ℕ → ℕ → Bool
keeps_inval s g c =
    both (eqb (bit 0 (channel_flags s c)) 0)
    (both (eqb (bit 1 (channel_flags s c)) 1) (ltb (inval_position s c / 8) (inval_bytes s g)))

-- "Width = data bytes + kept invalidation byte"
unfoldable pub width : List ℕ → ℕ → ℕ → ℕ
width s g c = channel_bytes s c + pick (keeps_inval s g c) 1 0

-- "Its value is bit (position mod 8) of the record's invalidation byte number floor(position / 8), from 0." r is a record without its id
unfoldable pub inval_bit : List ℕ → ℕ → ℕ → List ℕ → ℕ
inval_bit s g c r = bit (inval_position s c % 8) (get_or r (samples s g + inval_position s c / 8) 0)
