-- Columns that stand in a file, said block by block: DG, CG and CN at ascending addresses, names that pass, data chains that lead to the blocks,
-- and the form. Whoever writes such a file shows this; StandingLaws has what follows.
use Rattle.std.specs.Prelude.{ℕ, suc, ◌+◌, ◌≤◌, ◌<◌, List, [], ◌∷◌, ◌++◌, true, ◌≡◌, length}
use Rattle.base.specs.Checked.{fine}
use Rattle.mdf.specs.Block.{HD, DG, CG, CN, link_at, block_at}
use Rattle.mdf.specs.Name.{name_at}
use Rattle.mdf.specs.Chain.{Fragment, Chain.records, found, file_limits, chain}
use Rattle.mdf.specs.Identification.{identified}
use Rattle.mdf.specs.Records.{ranges_in}
use Rattle.mdf.specs.Walk.{most_items}
use Rattle.file.specs.Form.{FileColumn, formed}

-- a column, and the DG after its own
pub record ColumnStands (f : List ℕ) (c : FileColumn) (next : ℕ) : Type 0 where
  -- its blocks, in this order
  pub dg_above : 0 < c.dg
  pub cg_above : c.dg < c.cg
  pub cn_above : c.cg < c.cn
  pub dg_block : block_at DG f c.dg ≡ fine
  pub cg_block : block_at CG f c.cg ≡ fine
  pub cn_block : block_at CN f c.cn ≡ fine
  -- their links
  pub dg_next : link_at f c.dg 0 ≡ next
  pub dg_group : link_at f c.dg 1 ≡ c.cg
  pub cg_next : link_at f c.cg 0 ≡ 0
  pub cg_channel : link_at f c.cg 1 ≡ c.cn
  pub cn_next : link_at f c.cn 0 ≡ 0
  -- names
  pub cg_name : name_at f (link_at f c.cg 2) ≡ fine
  pub cn_name : name_at f (link_at f c.cn 2) ≡ fine
  -- data: whatever was found before, within the limit
  pub chained : (n : ℕ) → n + length c.fragments ≤ file_limits.fragments
      → chain records file_limits f n (link_at f c.dg 2) ≡ found c.fragments
  pub ranges : ranges_in f c.fragments ≡ fine
  pub form : formed f c ≡ true

-- the first DG of columns
abbrev pub first_dg : List FileColumn → ℕ
first_dg [] = 0
first_dg (c ∷ cs) = c.dg

-- columns from address a on, each after the one before
unfoldable pub AllStand : List ℕ → ℕ → List FileColumn → Type 0
AllStand f a [] = Unit {0}
AllStand f a (c ∷ cs) = (a ≤ c.dg) × ColumnStands f c (first_dg cs) × AllStand f (suc c.cn) cs

-- the blocks of all columns
unfoldable pub all_fragments : List FileColumn → List Fragment
all_fragments [] = []
all_fragments (c ∷ cs) = c.fragments ++ all_fragments cs

-- a file with these columns
pub record FileStands (f : List ℕ) (cs : List FileColumn) : Type 0 where
  pub ident : identified f ≡ fine
  pub header : block_at HD f 64 ≡ fine
  pub first : link_at f 64 0 ≡ first_dg cs
  pub columns : AllStand f 0 cs
  pub few : length cs ≤ most_items
  pub few_blocks : length (all_fragments cs) ≤ file_limits.fragments
