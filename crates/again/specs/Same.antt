-- When two files show the same columns (document 02, request 14): "gives the same columns in the same order with the same payloads, signal data and
-- masters". Addresses differ, so a master is compared by its column's number, and blocks by kind and length.
use Rattle.std.specs.Prelude.{ℕ, ◌+◌, List, [], ◌∷◌, ◌≡◌}
use Rattle.std.proofs.Math.Option.{Option, none, some}
use Rattle.base.specs.Choice.{if_eq}
use Rattle.base.specs.Checked.{Checked, ok, refused}
use Rattle.mdf.specs.Chain.{Kind, Fragment}
use Rattle.result.specs.Links.{Head, GroupFields, ChannelFields, DataList, Shown}

-- bookkeeping: the number of the column whose CG stands at a, counted from k
unfoldable pub number_of : ℕ → ℕ → List Shown → Option ℕ
number_of a k [] = none
number_of a k (c ∷ cs) = let later = number_of a (k + 1) cs in if_eq c.cg a (some k) later

-- "masters": the number of the column that c names among all, none where it names none
unfoldable pub master_number : List Shown → Shown → Option ℕ
master_number all c = if_eq c.master 0 none (number_of c.master 0 all)

-- bookkeeping: a data block without its place
pub record Extent : Type 0 where
  pub size : ℕ
  pub kind : Kind

-- bookkeeping: kinds and lengths of blocks, in link order
unfoldable pub extents : List Fragment → List Extent
extents [] = []
extents (f ∷ fs) = record { size = f.size; kind = f.kind } ∷ extents fs

-- bookkeeping: those of a chain; a chain that is stopped has its refusal
abbrev pub extents_in : Checked (List Fragment) → Checked (List Extent)
extents_in (ok fs) = ok (extents fs)
extents_in (refused number place) = refused number place

-- "the same payloads, signal data and masters", and of "the same columns": what is compared of a column
pub record Kept : Type 0 where
  pub payload : Checked (List ℕ)
  pub signal_data : Checked (List ℕ)
  pub master : Option ℕ
  -- records, data and invalidation bytes, flags and path separator of its CG, and all fields of its CN
  pub group : GroupFields
  pub channel : ChannelFields
  -- their lengths and numbers of links, its DL, kinds and lengths of its blocks
  pub cg_head : Head
  pub cn_head : Head
  pub list : Option DataList
  pub blocks : Checked (List Extent)

-- of column c among all
unfoldable pub kept_of : List Shown → Shown → Kept
kept_of all c =
    record {
      payload = c.payload;
      signal_data = c.signal_data;
      master = master_number all c;
      group = c.group;
      channel = c.channel;
      cg_head = c.cg_head;
      cn_head = c.cn_head;
      list = c.list;
      blocks = extents_in c.blocks;
    }

-- of columns, in order
unfoldable pub kept_from : List Shown → List Shown → List Kept
kept_from all [] = []
kept_from all (c ∷ cs) = kept_of all c ∷ kept_from all cs

-- "gives the same columns in the same order": one file's columns and another's
abbrev pub SameColumns : List Shown → List Shown → Type 0
SameColumns as' bs = kept_from bs bs ≡ kept_from as' as'
