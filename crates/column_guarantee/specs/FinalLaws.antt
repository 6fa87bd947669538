-- What the guarantee says of single blocks, said of all blocks of a column: they lie one after the other.
use Rattle.std.specs.Prelude.{ℕ, ◌+◌, List, [], ◌∷◌, ◌++◌, ◌≡◌, refl, length}
use Rattle.std.proofs.Common.{append-nil, length-append, take-add, drop-drop}
use Rattle.base.specs.Blit.{part}
use Rattle.plan.specs.Columns.{Signal, no_signal, signal_data}
use Rattle.plan.specs.Layout.{Placed}
use Rattle.result.specs.Fill.{Block, block, block_of, payload_blocks, sd_blocks, data_blocks}
use Rattle.result.specs.Result.{Args, Decided}
use Rattle.result.specs.Guarantee.{Stands, In, here, there, Guaranteed}
use Rattle.payload_laws.specs.PayloadLaws.{length_framed}
use Rattle.shown_laws.specs.AllShown.{in_payload, in_signal, in_data_later, in_data}
use Rattle.column_guarantee.specs.Final.{bytes_of, ColumnFinal}

-- ---- bytes that stand one after the other stand together
stands_none : {f : List ℕ} {a : ℕ} → Stands f a []
unfolding part
stands_none = record { is = refl }

stands_join : {f : List ℕ} {a b : ℕ} (x y : List ℕ) → Stands f a x → Stands f b y → a + length x ≡ b → Stands f a (x ++ y)
unfolding part
stands_join {f} {a} {b} x y s t e =
    record {
      is = rw (length-append, take-add, drop-drop (length x) a f, e, s.is, t.is);
    }

-- the blocks of payloads, each of which stands
payloads-stand : {f : List ℕ} (kind a : ℕ) (ps : List (List ℕ))
    → ((b : Block) → In b (payload_blocks kind a ps) → Stands f b.at b.bytes) → Stands f a (bytes_of (payload_blocks kind a ps))
unfolding payload_blocks bytes_of
payloads-stand kind a [] h = stands_none
payloads-stand kind a (p ∷ ps) h =
    stands_join (block_of kind p) (bytes_of (payload_blocks kind (a + (24 + length p)) ps)) (h (block a (block_of kind p)) here)
    (payloads-stand kind (a + (24 + length p)) ps (λ b i. h b (there i))) (rw (length_framed kind p))

signal_stands : {f : List ℕ} (s : List ℕ) (g : Signal) (a : ℕ) → ((b : Block) → In b (sd_blocks s g a) → Stands f b.at b.bytes)
    → Stands f a (bytes_of (sd_blocks s g a))
unfolding bytes_of
signal_stands s no_signal a h = stands_none
signal_stands s (signal_data fs) a h = rw append-nil (h _ here)

-- ---- of a placed column: all its blocks are among the file's
module _ {f : List ℕ} (x : Args) where
  of-placed : (ps : List Placed) → ((b : Block) → In b (data_blocks x.image x.block_size ps) → Stands f b.at b.bytes)
      → (p : Placed) → In p ps → ColumnFinal x f p
  of-placed [] h q x3 = elim x3 [ ]
  of-placed (p ∷ ps) h q here =
      record {
        blocks = payloads-stand _ _ _ (λ b i. h b (in_payload x.image x.block_size p ps i));
        signal = signal_stands x.image p.column.signal_of p.sd (λ b i. h b (in_signal x.image x.block_size p ps i));
      }
  of-placed (p ∷ ps) h q (there j) = of-placed ps (λ b i. h b (in_data_later x.image x.block_size p ps i)) q j

-- in the final bytes of every accepted call each placed column's blocks and its SD are final
pub column_final : (x : Args) (d : Decided) (f l : List ℕ) → Guaranteed x d f l → (p : Placed) → In p d.laid_out.placed → ColumnFinal x f p
column_final x d f l g = of-placed x d.laid_out.placed (λ b i. g.filled b (in_data x d.laid_out i))
