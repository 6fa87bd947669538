-- Cells of cells: a column's payload cut into records and read by the column's own channel gives the same bytes.
use Prim.Native.Nat.{ℕ, ◌+◌, ◌/◌, ◌≤◌, ◌<◌}
use mathlib.Core.List.{List, [], ◌∷◌, ◌++◌}
use Rattle.std.specs.Prelude.{Bool, true, false, ◌≡◌, length, drop}
use Rattle.std.proofs.Math.Path.{refl}
use Rattle.std.proofs.Common.{sym, ap, ◌∙◌, arith}
use Rattle.std.proofs.Math.ListN.{take, get_or}
use Rattle.std.proofs.Math.Seq.{take-append_seam, drop-append_seam, get_or_at}
use Rattle.base.specs.Choice.{pick}
use Rattle.base.specs.Blit.{part}
use Rattle.base.specs.BlitLaws.{length_part}
use Rattle.mdf.specs.Group.{samples, inval_bytes}
use Rattle.mdf.specs.Records.{pieces}
use Rattle.plan.specs.Channel.{byte_offset, channel_bytes, keeps_inval, inval_position, inval_bit, bit, fits, width}
use Rattle.result.specs.Payload.{cell, cells}
use Rattle.payload_laws.specs.Lists.{Long, Long.none, Long.next}
use Rattle.payload_laws.specs.CellLaws.{fits-within, length-cell}

-- the cells of records, each by itself
unfoldable pub cell_rows : List ℕ → ℕ → ℕ → List (List ℕ) → List (List ℕ)
cell_rows s g c [] = []
cell_rows s g c (r ∷ rs) = cell s g c r ∷ cell_rows s g c rs

take-front : (n : ℕ) (xs ys : List ℕ) → length xs ≡ n → take n (xs ++ ys) ≡ xs
take-front n xs ys e = ap (λ (k : ℕ). take k (xs ++ ys)) (sym e) ∙ take-append_seam xs ys

drop-front : (n : ℕ) (xs ys : List ℕ) → length xs ≡ n → drop n (xs ++ ys) ≡ ys
drop-front n xs ys e = ap (λ (k : ℕ). drop k (xs ++ ys)) (sym e) ∙ drop-append_seam xs ys

-- joined cells, cut where each ends
pub pieces-cells : (s : List ℕ) (g c : ℕ) {rs : List (List ℕ)} → fits s g c ≡ true → Long (samples s g + inval_bytes s g) rs
    → pieces (length rs) (width s g c) (cells s g c rs) ≡ cell_rows s g c rs
unfolding pieces cells cell_rows
pieces-cells s g c f none = refl
pieces-cells s g c f (next {r} {rs} e l) =
    let n : length (cell s g c r) ≡ width s g c = length-cell s g c r (omega (arith, fits-within s g c f)) in
    rw (take-front (width s g c) (cell s g c r) (cells s g c rs) n, drop-front (width s g c) (cell s g c r) (cells s g c rs) n, pieces-cells s g c f l)

-- ---- a channel d of group h in f that reads cells of the channel c of group g in s
pub record ReadsCells (f : List ℕ) (h d : ℕ) (s : List ℕ) (g c : ℕ) : Type 0 where
  pub offset : byte_offset f d ≡ 0
  pub bytes : channel_bytes f d ≡ channel_bytes s c
  pub samples : samples f h ≡ channel_bytes s c
  pub position : inval_position f d ≡ 0
  pub keeps : keeps_inval f h d ≡ keeps_inval s g c

bit-small : (s : List ℕ) (g c : ℕ) (r : List ℕ) → inval_bit s g c r < 2
unfolding inval_bit
bit-small s g c r = omega arith

module _ (f : List ℕ) (h d : ℕ) (s : List ℕ) (g c : ℕ) (k : ReadsCells f h d s g c) where
  -- the bit is a byte of its own, 0 or 1
  bit-again : (xs : List ℕ) (v : ℕ) → v < 2 → length xs ≡ channel_bytes s c → inval_bit f h d (xs ++ (v ∷ [])) ≡ v
  unfolding inval_bit
  bit-again xs v small e =
      let at : get_or (xs ++ (v ∷ [])) (channel_bytes s c + 0 / 8) 0 ≡ v = get_or_at xs v [] 0 (channel_bytes s c + 0 / 8) (omega arith) in
      rw (k.position, k.samples, at) (omega arith)

  pub cell-again : (r : List ℕ) → byte_offset s c + channel_bytes s c ≤ length r → cell f h d (cell s g c r) ≡ cell s g c r
  unfolding cell part
  cell-again r room = rw (k.offset, k.bytes, k.keeps) (go (keeps_inval s g c))
    where
      xs : List ℕ
      xs = take (channel_bytes s c) (drop (byte_offset s c) r)

      long : length xs ≡ channel_bytes s c
      long = length_part (byte_offset s c) (channel_bytes s c) r room

      small : inval_bit s g c r < 2
      small = bit-small s g c r

      go : (t : Bool) → take (channel_bytes s c) (xs ++ pick t (inval_bit s g c r ∷ []) []) ++ pick t (inval_bit f h d (xs ++ pick t (inval_bit s g c r ∷ []) []) ∷ []) []
          ≡ xs ++ pick t (inval_bit s g c r ∷ []) []
      go true = rw (take-front (channel_bytes s c) xs (inval_bit s g c r ∷ []) long, bit-again xs (inval_bit s g c r) small long)
      go false = rw (take-front (channel_bytes s c) xs [] long)

  pub rows_again : {rs : List (List ℕ)} → fits s g c ≡ true → Long (samples s g + inval_bytes s g) rs
      → cells f h d (cell_rows s g c rs) ≡ cells s g c rs
  unfolding cells cell_rows
  rows_again fit none = refl
  rows_again fit (next {r} {rs} e l) = rw (cell-again r (omega (arith, fits-within s g c fit)), rows_again fit l)
