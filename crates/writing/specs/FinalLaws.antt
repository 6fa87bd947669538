-- What is laid for a column of the words is what the final bytes of an accepted call have of it.
use Rattle.std.specs.Prelude.{◌≡◌, ℕ, ◌+◌, ◌<◌, List, [], ◌∷◌, ◌++◌, length, take, refl}
use Rattle.std.proofs.Common.{ap, ◌∙◌}
use Rattle.plan.specs.Layout.{Placed}
use Rattle.result.specs.Fill.{block_of, payload_blocks}
use Rattle.result.specs.Result.{Args}
use Rattle.result.specs.Guarantee.{Guaranteed}
use Rattle.placing.specs.declared.layout.Numbers as numbers
use Rattle.column_guarantee.specs.Final.{bytes_of, ColumnFinal}
use Rattle.column_guarantee.specs.FinalLaws.{column_final}
use Rattle.data_blocks.specs.Blocks.{framed_all}
use Rattle.writing.specs.declared.data.Entry.{Entry}
use Rattle.writing.specs.Data.{entry_in, entry_records, entry_payloads, entry_kind, entry_bytes, entry_blocks}
use Rattle.writing.specs.DataLaws.{bytes_are}
use Rattle.writing.specs.DataReadyLaws.{SameColumn}
use Rattle.writing.specs.Finish.{Stands}
use Rattle.writing.specs.FileLaws.{column-same}
use Rattle.writing.specs.Final.{EntryFinal}

-- ---- blocks one after the other, with and without their addresses
framed_bytes : (kind a : ℕ) (ps : List (List ℕ)) → framed_all kind ps ≡ bytes_of (payload_blocks kind a ps)
unfolding framed_all payload_blocks bytes_of
framed_bytes kind a [] = refl
framed_bytes kind a (p ∷ ps) = ap (λ (l : List ℕ). block_of kind p ++ l) (framed_bytes kind (a + (24 + length p)) ps)

entry-bytes : (s : List ℕ) (size : ℕ) (w : List ℕ) (n : ℕ) (fs : List ℕ) (nf : ℕ) (e : Entry)
    → entry_bytes s size w n fs nf e ≡ bytes_of (entry_blocks s size w n fs nf e)
unfolding entry_blocks
entry-bytes s size w n fs nf e =
    bytes_are s size w n fs nf e ∙ framed_bytes (entry_kind s e) e.first (entry_payloads s size e (entry_records s w n fs nf e))

-- the placed column that an entry is
same_final : (x : Args) (w : List ℕ) (n : ℕ) (fs : List ℕ) (nf : ℕ) (e : Entry) (ps : List Placed) (f : List ℕ)
    (c : SameColumn x.image x.block_size w n fs nf e ps) → ColumnFinal x f c.placed → EntryFinal x.image x.block_size w n fs nf e f
same_final x w n fs nf e ps f c h =
    record {
      blocks = rw (entry-bytes x.image x.block_size w n fs nf e, c.blocks, c.first) h.blocks;
      signal = rw (c.signal, c.sd) h.signal;
    }

-- every column: nothing that comes after its calls changes what they laid
pub written_final : {x : Args} {items pieces columns omitted : ℕ} {n : numbers.Numbers} {v f w m : List ℕ}
    (st : Stands x items pieces columns omitted n v f w m) (g list : List ℕ) → Guaranteed x st.by.told g list → (k : ℕ) → k < columns
    → EntryFinal x.image x.block_size v items (take 3072 f) pieces (entry_in w m k) g
written_final {x} {items} {pieces} {columns} {omitted} {n} {v} {f} {w} {m} st g list p k h =
    let c = column-same st k h in
    same_final x v items (take 3072 f) pieces (entry_in w m k) st.by.told.laid_out.placed g c
    (column_final x st.by.told g list p c.placed c.one)
