-- Bookkeeping: the records of a group, at the places that words tell, in the blocks of its column.
use Rattle.std.specs.Prelude.{ℕ, List}
use Rattle.places.specs.Longer.{OffsetsIn}
use Rattle.data_blocks.specs.declared.piece.Form.{Form}
use Rattle.data_blocks.specs.Filled.{Filled}

-- those from number a up to b came to stand, if n words of p tell the places of records
abbrev pub ListFilled : List ℕ → List ℕ → Form → List ℕ → ℕ → ℕ → ℕ → ℕ → List ℕ → List ℕ → Type 0
ListFilled s ws f p first n a b out last =
    (d k : ℕ) (gs : List ℕ) → OffsetsIn s d k gs ws p first n → Filled s d k gs ws f a b out last
