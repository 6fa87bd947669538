-- Fill's DG, CG, CN and DL of a kept column are those over numbers, at the column's numbers; a CG laid part by part.
use Rattle.std.specs.Prelude.{ℕ, ◌+◌, Bool, true, false, ◌≡◌, length}
use mathlib.Core.List.{List, [], ◌++◌, append-nil}
use Rattle.std.proofs.Math.Option.{Option, none, some}
use Rattle.std.proofs.Math.Path.{refl}
use Rattle.std.proofs.Common.{length-append}
use Rattle.base.specs.Choice.{pick, if_eq}
use Rattle.base.specs.Field.{le}
use Rattle.base.specs.FieldLaws.{length-le}
use Rattle.base.specs.Blit.{blit}
use Rattle.mdf.specs.Block.{kind_cg, link_at}
use Rattle.plan.specs.Copies.{Copy, Attachment}
use Rattle.plan.specs.Layout.{cg_links, cg_size, cn_size, Placed, cg_of, cn_of, dl_of}
use Rattle.result.specs.Fill.{header, words, new_link, master_link, sd_link, photo_links}
use Rattle.filling.specs.Blocks.{cg_header, cg_front, cn_links, cn_front, dl_from}
use Rattle.filling.specs.BlocksLaws.{blit-next, cg-front}
use Rattle.filling.specs.FillLaws.{has_master, master_cg}
use Rattle.thin.specs.Place.{blocks_of}
use Rattle.thin.specs.Fill.{kept_data, kept_dg, kept_cg, kept_cn, kept_dl, length_kept}
use Rattle.thin_blocks.specs.Blocks.{dg_kept, cg_kept}

-- ---- a CG's parts
module _ (s : List ℕ) (g cn name source comment : ℕ) (remote : Bool) (master : ℕ) where
  pub cg-remote : (d₀ d₁ d₂ d₃ : List ℕ) → remote ≡ true → d₁ ≡ blit 0 (cg_front remote cn name source comment) d₀
      → d₂ ≡ blit 72 (le 8 master) d₁ → d₃ ≡ blit 80 (kept_data 32 s g) d₂ → d₃ ≡ blit 0 (cg_kept s g cn name source comment remote master) d₀
  unfolding cg_kept
  cg-remote d₀ d₁ d₂ d₃ e a b f =
      let there : pick remote (le 8 master) [] ≡ le 8 master = rw e in
      rw there (blit-next 0 80 _ _ d₀ d₂ d₃ (blit-next 0 72 _ _ d₀ d₁ d₂ a b (simp (cg-front remote cn name source comment))) f
      (simp (length-append, cg-front remote cn name source comment, length-le)))

  pub cg-own : (d₀ d₁ d₂ : List ℕ) → remote ≡ false → d₁ ≡ blit 0 (cg_front remote cn name source comment) d₀
      → d₂ ≡ blit 72 (kept_data 32 s g) d₁ → d₂ ≡ blit 0 (cg_kept s g cn name source comment remote master) d₀
  unfolding cg_kept
  cg-own d₀ d₁ d₂ e a f =
      let none : pick remote (le 8 master) [] ≡ [] = rw e in
      rw (none, append-nil) (blit-next 0 72 _ _ d₀ d₁ d₂ a f (simp (cg-front remote cn name source comment)))

-- ---- at a column's numbers
module _ (s : List ℕ) (memo : List Copy) (p : Placed) where
  pub dg-kept : (next : ℕ) → kept_dg s memo p next
      ≡ dg_kept s p.column.group.data_group.at next (cg_of p) (if_eq (blocks_of p.column) 0 0 (dl_of p))
      (new_link memo (link_at s p.column.group.data_group.at 3))
  unfolding kept_dg dg_kept
  dg-kept next = refl

  pub dl-kept : kept_dl s p ≡ dl_from (length_kept s p) (blocks_of p.column) p.first
  unfolding kept_dl dl_from
  dl-kept = refl

  pub cn-kept : (ats : List Attachment) → kept_cn s memo ats p
      ≡ cn_front (cn_size p.column) (8 + length p.column.photos) (new_link memo (link_at s p.column.channel 2))
      (new_link memo (link_at s p.column.channel 3)) (new_link memo (link_at s p.column.channel 4)) (sd_link p.column.signal_of p.sd)
      (new_link memo (link_at s p.column.channel 6)) (new_link memo (link_at s p.column.channel 7))
      ++ words (photo_links ats p.column.photos) ++ kept_data 72 s p.column.channel
  unfolding kept_cn cn_front cn_links
  cn-kept ats = refl

-- with the master's number taken apart
cg-made : (s : List ℕ) (ps : List Placed) (g cn name source comment : ℕ) (m : Option ℕ)
    → header kind_cg (cg_size m) (cg_links m) ++ le 8 0 ++ le 8 cn ++ le 8 name ++ le 8 source ++ le 8 0 ++ le 8 comment ++ master_link ps m
    ++ kept_data 32 s g
    ≡ cg_kept s g cn name source comment (has_master m) (master_cg ps m)
unfolding cg_kept cg_header cg_front
cg-made s ps g cn name source comment none = refl
cg-made s ps g cn name source comment (some m) = refl

pub cg-kept : (s : List ℕ) (memo : List Copy) (ps : List Placed) (p : Placed) → kept_cg s memo ps p
    ≡ cg_kept s p.column.group.at (cn_of p) (new_link memo (link_at s p.column.group.at 2)) (new_link memo (link_at s p.column.group.at 3))
    (new_link memo (link_at s p.column.group.at 5)) (has_master p.column.master) (master_cg ps p.column.master)
unfolding kept_cg
cg-kept s memo ps p = cg-made s ps _ _ _ _ _ p.column.master
