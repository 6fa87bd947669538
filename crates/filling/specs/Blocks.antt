-- DG, CG, CN and DL of a column as Fill gives them, over the numbers that they hold; and what one store leaves for the next.
use Rattle.std.specs.Prelude.{◌≡◌, ℕ, ◌+◌, ◌*◌, ◌/◌, ◌≤◌, Bool, List, [], ◌++◌, length}
use Rattle.base.specs.Choice.{pick}
use Rattle.base.specs.Field.{le}
use Rattle.base.specs.Blit.{part, blit}
use Rattle.mdf.specs.Block.{kind_dg, kind_cg, kind_cn, kind_dl, data_at}
use Rattle.mdf.specs.Group.{group_flags}
use Rattle.plan.specs.Channel.{channel_flags}
use Rattle.plan.specs.Layout.{dl_size}
use Rattle.result.specs.Fill.{header, one, cn_flags, block_links}

-- bs laid over d₀ from index at on gives d; r is the index past bs, no more than most
pub record Laid (at : ℕ) (bs : List ℕ) (most : ℕ) (d₀ d : List ℕ) (r : ℕ) : Type 0 where
  pub is : d ≡ blit at bs d₀
  pub past : r ≡ at + length bs
  pub small : r ≤ most

unfoldable pub dg_from : ℕ → ℕ → ℕ → ℕ → List ℕ
dg_from next cg dl comment = header kind_dg 64 4 ++ le 8 next ++ le 8 cg ++ le 8 dl ++ le 8 comment ++ le 8 0

-- flag bits 0 to 3 are cleared; bit 3, remote master, is set with a master
abbrev pub flags_from : ℕ → Bool → ℕ
flags_from f remote = pick remote (f / 16 * 16 + 8) (f / 16 * 16)

unfoldable pub cg_header : Bool → List ℕ
cg_header remote = pick remote (header kind_cg 112 7) (header kind_cg 104 6)

-- header and the six links that every CG has
unfoldable pub cg_front : Bool → ℕ → ℕ → ℕ → ℕ → List ℕ
cg_front remote cn name source comment =
    cg_header remote ++ le 8 0 ++ le 8 cn ++ le 8 name ++ le 8 source ++ le 8 0 ++ le 8 comment

-- the data up to the CG's own path separator, from the CG at g
unfoldable pub cg_counts : List ℕ → ℕ → Bool → ℕ → List ℕ
cg_counts s g remote records = le 8 0 ++ le 8 records ++ le 2 (flags_from (group_flags s g) remote) ++ part (data_at s g + 18) 2 s

-- all its data
unfoldable pub cg_data_from : List ℕ → ℕ → Bool → ℕ → ℕ → Bool → List ℕ
cg_data_from s g remote records bytes inval = cg_counts s g remote records ++ le 4 0 ++ le 4 bytes ++ le 4 (one inval)

-- the CG that is made from the CG at g; master is the master's CG, where it has one
unfoldable pub cg_from : List ℕ → ℕ → ℕ → ℕ → ℕ → ℕ → Bool → ℕ → ℕ → ℕ → Bool → List ℕ
cg_from s g cn name source comment remote master records bytes inval =
    cg_front remote cn name source comment ++ pick remote (le 8 master) [] ++ cg_data_from s g remote records bytes inval

-- a CN of so many bytes and links: header and the first seven links, then the eighth
unfoldable pub cn_links : ℕ → ℕ → ℕ → ℕ → ℕ → ℕ → ℕ → List ℕ
cn_links size links name source conversion sd unit =
    header kind_cn size links ++ le 8 0 ++ le 8 0 ++ le 8 name ++ le 8 source ++ le 8 conversion ++ le 8 sd ++ le 8 unit

unfoldable pub cn_front : ℕ → ℕ → ℕ → ℕ → ℕ → ℕ → ℕ → ℕ → List ℕ
cn_front size links name source conversion sd unit comment = cn_links size links name source conversion sd unit ++ le 8 comment

-- the data up to the bit count, with the type stored, and from the flags on
unfoldable pub cn_types : List ℕ → ℕ → ℕ → List ℕ
cn_types s c stored = le 1 stored ++ part (data_at s c + 1) 3 s ++ le 4 0 ++ part (data_at s c + 8) 4 s

unfoldable pub cn_rest : List ℕ → ℕ → Bool → ℕ → List ℕ
cn_rest s c keeps photos =
    le 4 (cn_flags (channel_flags s c) keeps) ++ le 4 0 ++ part (data_at s c + 20) 2 s ++ le 2 photos ++ part (data_at s c + 24) 48 s

-- the data of the CN that is made from the CN at c
unfoldable pub cn_data_from : List ℕ → ℕ → ℕ → Bool → ℕ → List ℕ
cn_data_from s c stored keeps photos = cn_types s c stored ++ cn_rest s c keeps photos

-- the DL of n blocks, the first at a
unfoldable pub dl_from : ℕ → ℕ → ℕ → List ℕ
dl_from payload n a =
    header kind_dl (dl_size n) (n + 1) ++ le 8 0 ++ block_links payload n a ++ le 4 1 ++ le 4 n ++ le 8 payload
