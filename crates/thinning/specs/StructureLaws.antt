-- Laws of a kept column's DG, CG, CN and DL over the numbers that its words give.
use Prim.Native.Nat.{ℕ, zero, suc, ◌+◌, ◌*◌, ◌-◌, ◌≤◌, ◌<◌}
use Rattle.std.specs.Prelude.{List, [], ◌∷◌, ◌++◌, ◌≡◌, refl, length, get_or, replicate}
use Rattle.std.proofs.Math.Option.{Option, none, some}
use Rattle.std.proofs.Common.{sym, ap, ◌∙◌, length-append}
use Rattle.std.proofs.Math.Path.{subst}
use native.Mathlib.Omega.{arith}
use Rattle.base.specs.Choice.{if_eq}
use Rattle.base.specs.ChoiceLaws.{eq_yes, eq_no}
use Rattle.base.specs.FieldLaws.{length-le}
use Rattle.base.specs.Blit.{blit}
use Rattle.base.specs.BlitLaws.{blit-append}
use Rattle.mdf.specs.Block.{link_at}
use Rattle.plan.specs.Photos.{links_from}
use Rattle.plan.specs.PhotosLaws.{length-links_from}
use Rattle.plan.specs.Copies.{Copy, copy_of, Attachment}
use Rattle.result.specs.Fill.{Block, or_zero, new_link, photo_links}
use Rattle.copier.specs.Answer.{link_of}
use Rattle.puts.specs.PutLaws.{length-header}
use Rattle.shown_laws.specs.Header.{length-words}
use Rattle.shown_laws.specs.Shapes.{length_photos}
use Rattle.filling.specs.Blocks.{cn_links, cn_front, dl_from}
use Rattle.thin.specs.Fill.{kept_data}
use Rattle.thin_blocks.specs.Blocks.{dg_kept, cg_kept}
use Rattle.thinning.specs.declared.column.KeptColumn.{KeptColumn}
use Rattle.work_words.specs.CopyWords.{placed_at}
use Rattle.write_copies.specs.Wrote.{Wrote}
use Rattle.write_copies.specs.WroteLaws.{wrote_none}
use Rattle.thinning.specs.Touching.{bytes_of, Touching, laid}
use Rattle.thinning.specs.TouchingLaws.{wrote_touching, laid-append, laid_touching}
use Rattle.thinning.specs.Column.{next_place, column_by}
use Rattle.thinning.specs.Structure.{cn_length, dg_by, cg_by, front_by, photos_by, cn_by, lists_by, parts_by, structure_from, StructureReady}

-- ---- links
link_or : (o : Option ℕ) → link_of o ≡ or_zero o
link_or none = refl
link_or (some a) = refl

pub link_new : (m : List Copy) (a b : ℕ) {r : ℕ} → r ≡ link_of (copy_of b m) → b ≡ a → r ≡ new_link m a
unfolding new_link
link_new m a b e q = e ∙ link_or (copy_of b m) ∙ rw q

-- ---- the blocks' bytes
module _ (s : List ℕ) (m : List Copy) (h : KeptColumn) (d e : List ℕ) where
  pub filled-dg : (next : ℕ) {dl comment : ℕ} → e ≡ blit 0 (dg_kept s h.parent next (h.dg + 64) dl comment) d
      → dl ≡ if_eq h.blocks 0 0 (h.cn + cn_length h) → comment ≡ new_link m (link_at s h.parent 3) → e ≡ blit 0 (dg_by s m h next) d
  unfolding dg_by
  filled-dg next i a b = i ∙ rw (a, b)

  pub filled-cg : {name source comment : ℕ} → e ≡ blit 0 (cg_kept s h.group h.cn name source comment h.remote h.master) d
      → name ≡ new_link m (link_at s h.group 2) → source ≡ new_link m (link_at s h.group 3) → comment ≡ new_link m (link_at s h.group 5)
      → e ≡ blit 0 (cg_by s m h) d
  unfolding cg_by
  filled-cg i a b c = i ∙ rw (a, b, c)

  pub filled-front : {size links name source conversion unit comment : ℕ}
      → e ≡ blit 0 (cn_front size links name source conversion h.sd unit comment) d → size ≡ cn_length h → links ≡ 8 + h.photos
      → name ≡ new_link m (link_at s h.channel 2) → source ≡ new_link m (link_at s h.channel 3) → conversion ≡ new_link m (link_at s h.channel 4)
      → unit ≡ new_link m (link_at s h.channel 6) → comment ≡ new_link m (link_at s h.channel 7) → e ≡ blit 0 (front_by s m h) d
  unfolding front_by
  filled-front i k l a b c x y = i ∙ rw (k, l, a, b, c, x, y)

length_front : (s : List ℕ) (memo : List Copy) (h : KeptColumn) → length (front_by s memo h) ≡ 88
unfolding front_by cn_front cn_links
length_front s memo h = simp (length-append, length-header, length-le)

length_links : (s : List ℕ) (ats : List Attachment) (h : KeptColumn) → length (photos_by s ats h) ≡ 8 * h.photos
length_links s ats h =
    let ls : List ℕ = links_from s h.photos (h.channel + 88) in
    rw (length-words (photo_links ats ls), length_photos ats ls, length-links_from s h.photos (h.channel + 88))

-- the three parts of a CN, one after the other
pub filled-cn : (s : List ℕ) (memo : List Copy) (ats : List Attachment) (h : KeptColumn) (d x y z : List ℕ) → x ≡ blit 0 (front_by s memo h) d
    → y ≡ blit 88 (photos_by s ats h) x → z ≡ blit (88 + 8 * h.photos) (kept_data 72 s h.channel) y → z ≡ blit 0 (cn_by s memo ats h) d
unfolding cn_by
filled-cn s memo ats h d x y z a b c =
    let e : y ≡ blit 0 (front_by s memo h ++ photos_by s ats h) d =
    b ∙ rw a (sym (blit-append (front_by s memo h) 0 (photos_by s ats h) d ∙ rw (length_front s memo h) refl)) in
    c ∙ rw e (sym (blit-append (front_by s memo h ++ photos_by s ats h) 0 (kept_data 72 s h.channel) d
    ∙ ap (λ (k : ℕ). blit k (kept_data 72 s h.channel) (blit 0 (front_by s memo h ++ photos_by s ats h) d))
    (simp length-append (omega (arith, length_front s memo h, length_links s ats h)))))

-- ---- each at its place
pub no_list : (h : KeptColumn) (out : List ℕ) → h.blocks ≡ 0 → out ≡ laid (lists_by h) out
unfolding lists_by laid
no_list h out z = ap (λ (bs : List Block). laid bs out) (eq_yes h.blocks 0 _ _ z refl)

pub one_list : (h : KeptColumn) (out last : List ℕ) → (h.blocks ≡ 0 → ⊥)
    → last ≡ blit (h.cn + cn_length h) (dl_from h.payload h.blocks h.first) out
    → last ≡ laid (lists_by h) out
unfolding lists_by laid
one_list h out last z e = e ∙ ap (λ (bs : List Block). laid bs out) (eq_no h.blocks 0 _ _ z refl)

pub put_parts : (s : List ℕ) (m : List Copy) (ats : List Attachment) (h : KeptColumn) (next : ℕ) (out a b c last : List ℕ)
    → a ≡ blit h.dg (dg_by s m h next) out → b ≡ blit (h.dg + 64) (cg_by s m h) a → c ≡ blit h.cn (cn_by s m ats h) b
    → last ≡ laid (lists_by h) c → last ≡ laid (parts_by s m ats h next) out
unfolding parts_by laid
put_parts s m ats h next out a b c last e f g l = l ∙ rw (g, f, e)

-- ---- all columns: what is left, laid, gives what all give
module _ (s : List ℕ) (m : List Copy) (ats : List Attachment) (columns memo : List ℕ) (n : ℕ) where
  structure_open : (k : ℕ) → k < n → structure_from s m ats columns memo n k (n - k)
      ≡ parts_by s m ats (column_by s columns memo n k) (next_place memo n k) ++ structure_from s m ats columns memo n (k + 1) (n - (k + 1))
  unfolding structure_from
  structure_open k h = let e : n - k ≡ suc (n - (k + 1)) = omega arith in rw e

  pub structure_begin : (out : List ℕ) → laid (structure_from s m ats columns memo n 0 (n - 0)) out
      ≡ laid (structure_from s m ats columns memo n 0 n) out
  structure_begin out = let e : n - 0 ≡ n = omega arith in rw e

  pub structure_turn : (k : ℕ) {h : KeptColumn} {next : ℕ} (out last g : List ℕ) → k < n → h ≡ column_by s columns memo n k → next ≡ next_place memo n k
      → laid (structure_from s m ats columns memo n k (n - k)) out ≡ g → last ≡ laid (parts_by s m ats h next) out
      → laid (structure_from s m ats columns memo n (k + 1) (n - (k + 1))) last ≡ g
  structure_turn k out last g l a b t e =
      rw (e, a, b) (sym (laid-append (parts_by s m ats (column_by s columns memo n k) (next_place memo n k)) _ out) ∙ (rw (structure_open k l) at t))

  pub structure_end_lem : (k : ℕ) (out g : List ℕ) → n ≤ k → laid (structure_from s m ats columns memo n k (n - k)) out ≡ g → out ≡ g
  unfolding structure_from laid
  structure_end_lem k out g h t = let e : n - k ≡ 0 = omega arith in rw e at t

-- ---- from an index on
some_wrote : (at first : ℕ) (bs : List Block) (out mid last : List ℕ) → 0 < length bs → Touching first bs → at ≤ first
    → mid ≡ blit at (replicate (first - at) 0) out → last ≡ blit first (bytes_of bs) mid → Wrote at bs (first + length (bytes_of bs)) out last
some_wrote at first [] out mid last h t l g e = absurd (omega arith)
some_wrote at first (b ∷ bs) out mid last h t l g e = wrote_touching at first b bs t l g e

some-blocks : (s : List ℕ) (m : List Copy) (ats : List Attachment) (columns memo : List ℕ) (n k j : ℕ) → 0 < j
    → 0 < length (structure_from s m ats columns memo n k j)
unfolding structure_from parts_by
some-blocks s m ats columns memo n k zero h = absurd (omega arith)
some-blocks s m ats columns memo n k (suc j) h = omega arith

module _ {s : List ℕ} {m : List Copy} {ats : List Attachment} {columns memo : List ℕ} {n at end : ℕ}
    (q : StructureReady s m ats columns memo n at end) where
  pub no_structure : n ≡ 0 → (out : List ℕ) → Wrote at (structure_from s m ats columns memo n 0 n) at out out
  unfolding structure_from
  no_structure z out = subst (λ (k : ℕ). Wrote at (structure_from s m ats columns memo n 0 k) at out out) (sym z) (wrote_none at out)

  pub wrote_structure : (n ≡ 0 → ⊥) → {out mid last : List ℕ} → mid ≡ blit at (replicate (get_or memo placed_at 0 - at) 0) out
      → last ≡ laid (structure_from s m ats columns memo n 0 n) mid → Wrote at (structure_from s m ats columns memo n 0 n) end out last
  wrote_structure z {out} {mid} {last} g e =
      let first : ℕ = get_or memo placed_at 0 in
      let bs : List Block = structure_from s m ats columns memo n 0 n in
      rw (q.ends z) (some_wrote at first bs out mid last (some-blocks s m ats columns memo n 0 n (omega arith)) (q.touching z) (q.begins z) g
      (e ∙ laid_touching first bs mid (q.touching z)))
