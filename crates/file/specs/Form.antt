-- The form of a column file (document 02, request 1): "It goes by links only and takes every image in which each DG has id size 0 and one CG
-- with one CN, and a data link that is 0 or leads straight to one DL with the equal-length bit set and only its first link zero; all its blocks
-- are DT, or all are DV without invalidation bytes, each but the last has the DL's length, and together they hold exactly the records its CG's
-- cycle count names. A data link of 0 holds none, unless a record has no bytes."
use Rattle.std.specs.Prelude.{ℕ, zero, suc, ◌+◌, ◌*◌, ◌-◌, ◌%◌, List, [], ◌∷◌, Bool, true, false, get_or, eqb, ltb, leb}
use Rattle.std.proofs.Math.Option.{Option, none, some}
use Rattle.base.specs.Choice.{pick, if_eq}
use Rattle.base.specs.Field.{le_at}
use Rattle.mdf.specs.Block.{kind_dl, kind_at, size_at, links_at, link_at, data_at}
use Rattle.mdf.specs.Chain.{Fragment}
use Rattle.mdf.specs.Walk.{id_size}
use Rattle.mdf.specs.Group.{Group, DataGroup, samples, inval_bytes}
use Rattle.mdf.specs.Records.{is_dv, size_of}

-- a column: its DG, the one CG, the one CN, and its blocks in link order
pub record FileColumn : Type 0 where
  pub dg : ℕ
  pub cg : ℕ
  pub cn : ℕ
  pub fragments : List Fragment

-- the CG's cycle count (ASAM MDF 4.2, CGBLOCK)
unfoldable pub cycles : List ℕ → ℕ → ℕ
cycles s g = le_at 8 s (data_at s g + 8)

-- the bytes of a record: data bytes and invalidation bytes; id size is 0
unfoldable pub record_bytes : List ℕ → ℕ → ℕ
record_bytes s g = samples s g + inval_bytes s g

-- bookkeeping: all tests pass
abbrev pub holds : List Bool → Bool
holds [] = true
holds (t ∷ ts) = pick t (holds ts) false

-- "one CG with one CN": the column of a DG by the channels of its one group, none where there are more or fewer
abbrev pub of_channels : DataGroup → ℕ → List ℕ → Option FileColumn
of_channels d g [] = none
of_channels d g (c ∷ []) = some (record { dg = d.at; cg = g; cn = c; fragments = d.fragments })
of_channels d g (b ∷ c ∷ cs) = none

-- by its groups, likewise
abbrev pub of_groups : DataGroup → List Group → Option FileColumn
of_groups d [] = none
of_groups d (g ∷ []) = of_channels d g.at g.channels
of_groups d (g ∷ h ∷ gs) = none

-- "each DG has .. one CG with one CN"
unfoldable pub alone : DataGroup → Option FileColumn
alone d = of_groups d d.groups

-- ---- the DL

-- none of the links that stand at p, so many of them, is 0
unfoldable pub none_zero : List ℕ → ℕ → ℕ → Bool
none_zero s zero p = true
none_zero s (suc links) p = let more = none_zero s links (p + 8) in if_eq (le_at 8 s p) 0 false more

-- "only its first link zero": there is a first link, it is 0, no other is
unfoldable pub links_formed : List ℕ → ℕ → Bool
links_formed s a = holds (ltb 0 (links_at s a) ∷ eqb (link_at s a 0) 0 ∷ none_zero s (links_at s a - 1) (a + 32) ∷ [])

-- "the equal-length bit set": bit 0 of its first data byte, with room for the length
unfoldable pub is_equal_length : List ℕ → ℕ → Bool
is_equal_length s a = holds (leb (24 + 8 * links_at s a + 16) (size_at s a) ∷ eqb (get_or s (data_at s a) 0 % 2) 1 ∷ [])

-- "the DL's length", of the data of a block (ASAM MDF 4.2, DLBLOCK, dl_equal_length)
unfoldable pub equal_length : List ℕ → ℕ → ℕ
equal_length s a = le_at 8 s (data_at s a + 8)

-- "each but the last has the DL's length"
unfoldable pub have_length : ℕ → List Fragment → Bool
have_length n [] = true
have_length n (f ∷ []) = true
have_length n (f ∷ g ∷ fs) = let more = have_length n (g ∷ fs) in pick (eqb f.size n) more false

-- "leads straight to one DL with the equal-length bit set and only its first link zero; .. each but the last has the DL's length"
unfoldable pub list_formed : List ℕ → ℕ → List Fragment → Bool
list_formed s a fs =
    holds (eqb (kind_at s a) kind_dl ∷ links_formed s a ∷ is_equal_length s a ∷ have_length (equal_length s a) fs ∷ [])

-- ---- its blocks

-- "all its blocks are DT"
unfoldable pub all_dt : List Fragment → Bool
all_dt [] = true
all_dt (f ∷ fs) = let more = all_dt fs in pick (is_dv f.kind) false more

-- "or all are DV"
unfoldable pub all_dv : List Fragment → Bool
all_dv [] = true
all_dv (f ∷ fs) = let more = all_dv fs in pick (is_dv f.kind) more false

-- "all its blocks are DT, or all are DV without invalidation bytes"
unfoldable pub one_kind : List ℕ → ℕ → List Fragment → Bool
one_kind s g fs = pick (all_dt fs) true (holds (all_dv fs ∷ eqb (inval_bytes s g) 0 ∷ []))

-- ---- the form of a column: "id size 0 .. a data link that is 0 or leads straight to one DL ..; all its blocks are DT, or all are DV ..,
-- and together they hold exactly the records its CG's cycle count names". At data link 0 there are no blocks: "A data link of 0 holds none,
-- unless a record has no bytes." is the same equation
unfoldable pub formed : List ℕ → FileColumn → Bool
formed s c =
    holds (
    eqb (id_size s c.dg) 0
    ∷ if_eq (link_at s c.dg 2) 0 true (list_formed s (link_at s c.dg 2) c.fragments)
    ∷ one_kind s c.cg c.fragments
    ∷ eqb (size_of c.fragments) (cycles s c.cg * record_bytes s c.cg)
    ∷ [])
