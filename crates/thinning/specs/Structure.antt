-- A kept column's DG, CG, CN and DL over the numbers that its words give.
use Rattle.std.specs.Prelude.{ℕ, zero, suc, ◌+◌, ◌*◌, ◌≤◌, List, [], ◌∷◌, ◌++◌, ◌≡◌, length, get_or}
use Rattle.base.specs.Choice.{if_eq}
use Rattle.mdf.specs.Block.{link_at}
use Rattle.plan.specs.Photos.{links_from}
use Rattle.plan.specs.Copies.{Copy, Attachment}
use Rattle.work_words.specs.CopyWords.{placed_at}
use Rattle.result.specs.Fill.{Block, block, words, new_link, photo_links}
use Rattle.filling.specs.Blocks.{cn_front, dl_from}
use Rattle.thin.specs.Fill.{kept_data}
use Rattle.thin_blocks.specs.Blocks.{dg_kept, cg_kept}
use Rattle.thinning.specs.declared.column.KeptColumn.{KeptColumn}
use Rattle.thinning.specs.Column.{Near, next_place, column_by}
use Rattle.thinning.specs.Touching.{bytes_of, Touching}

-- the bytes of its CN
abbrev pub cn_length : KeptColumn → ℕ
cn_length h = 160 + 8 * h.photos

module _ (s : List ℕ) (memo : List Copy) (h : KeptColumn) where
  unfoldable pub dg_by : ℕ → List ℕ
  dg_by next = dg_kept s h.parent next (h.dg + 64) (if_eq h.blocks 0 0 (h.cn + cn_length h)) (new_link memo (link_at s h.parent 3))

  unfoldable pub cg_by : List ℕ
  cg_by =
      cg_kept s h.group h.cn (new_link memo (link_at s h.group 2)) (new_link memo (link_at s h.group 3)) (new_link memo (link_at s h.group 5))
      h.remote h.master

  -- of its CN up to the eighth link
  unfoldable pub front_by : List ℕ
  front_by =
      cn_front (cn_length h) (8 + h.photos) (new_link memo (link_at s h.channel 2)) (new_link memo (link_at s h.channel 3))
      (new_link memo (link_at s h.channel 4)) h.sd (new_link memo (link_at s h.channel 6)) (new_link memo (link_at s h.channel 7))

-- its references, led to the moved attachments
abbrev pub photos_by : List ℕ → List Attachment → KeptColumn → List ℕ
photos_by s ats h = words (photo_links ats (links_from s h.photos (h.channel + 88)))

unfoldable pub cn_by : List ℕ → List Copy → List Attachment → KeptColumn → List ℕ
cn_by s memo ats h = front_by s memo h ++ photos_by s ats h ++ kept_data 72 s h.channel

-- no DL without blocks
unfoldable pub lists_by : KeptColumn → List Block
lists_by h = if_eq h.blocks 0 [] (block (h.cn + cn_length h) (dl_from h.payload h.blocks h.first) ∷ [])

-- all its blocks
unfoldable pub parts_by : List ℕ → List Copy → List Attachment → KeptColumn → ℕ → List Block
parts_by s memo ats h next =
    block h.dg (dg_by s memo h next) ∷ block (h.dg + 64) (cg_by s memo h) ∷ block h.cn (cn_by s memo ats h) ∷ lists_by h

-- those of j columns of n, from number k on
unfoldable pub structure_from : List ℕ → List Copy → List Attachment → List ℕ → List ℕ → ℕ → ℕ → ℕ → List Block
structure_from s m ats columns memo n k zero = []
structure_from s m ats columns memo n k (suc j) =
    parts_by s m ats (column_by s columns memo n k) (next_place memo n k) ++ structure_from s m ats columns memo n (k + 1) j

-- from at on there is room for n columns, whose blocks touch each other and end at an index
pub record StructureReady (s : List ℕ) (m : List Copy) (ats : List Attachment) (columns memo : List ℕ) (n at end : ℕ) : Type 0 where
  pub near : Near memo n
  pub long : 4096 ≤ length columns
  pub begins : (n ≡ 0 → ⊥) → at ≤ get_or memo placed_at 0
  pub touching : (n ≡ 0 → ⊥) → Touching (get_or memo placed_at 0) (structure_from s m ats columns memo n 0 n)
  pub ends : (n ≡ 0 → ⊥) → end ≡ get_or memo placed_at 0 + length (bytes_of (structure_from s m ats columns memo n 0 n))
