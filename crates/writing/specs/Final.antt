-- A column of the words in the final bytes: what its calls lay is final (document 02, request 4).
use Rattle.std.specs.Prelude.{ℕ, List}
use Rattle.result.specs.Guarantee.{Stands}
use Rattle.column_guarantee.specs.Final.{bytes_of}
use Rattle.writing.specs.declared.data.Entry.{Entry}
use Rattle.writing.specs.Data.{entry_bytes, entry_signal}

-- the bytes that the call for its data blocks lays stand at the address of the first, those of the call for its SD at the SD's
pub record EntryFinal (s : List ℕ) (size : ℕ) (w : List ℕ) (n : ℕ) (fs : List ℕ) (nf : ℕ) (e : Entry) (f : List ℕ) : Type 0 where
  pub blocks : Stands f e.first (entry_bytes s size w n fs nf e)
  pub signal : Stands f e.sd (bytes_of (entry_signal s fs e))
