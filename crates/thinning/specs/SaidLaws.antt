-- The blocks that words give are those of the kept columns.
use Prim.{tt}
use Rattle.std.specs.Prelude.{ℕ, zero, suc, ◌+◌, ◌*◌, ◌-◌, ◌≡◌, length, get_or}
use mathlib.Core.List.{List, [], ◌∷◌, ◌++◌, append_assoc, append-nil}
use Rattle.std.proofs.Math.Option.{Option, none, some}
use Rattle.std.proofs.Common.{⊎_elim, ◌∙◌, add-zero, zero-add, arith}
use Rattle.std.proofs.Math.Path.{refl, sym, ap}
use Rattle.base.specs.Choice.{if_lt, if_eq}
use Rattle.base.specs.ChoiceLaws.{lt_yes, lt_no, eq_yes, eq_no}
use Rattle.base.specs.Blit.{part}
use Rattle.mdf.specs.Block.{kind_sd, size_at, link_at}
use Rattle.mdf.specs.Chain.{dt, Fragment, fragment}
use Rattle.mdf.specs.Records.{joined}
use Rattle.plan.specs.Channel.{channel_type}
use Rattle.plan.specs.Columns.{size_of_signal, Column, Signal, no_signal, signal_data}
use Rattle.plan.specs.Copies.{Copy, Attachment}
use Rattle.plan.specs.Photos.{photo_count, links_from, references}
use Rattle.plan.specs.PhotosLaws.{length-links_from}
use Rattle.plan.specs.Layout.{cg_size, cn_size, Placed, cg_of, cn_of}
use Rattle.work_words.specs.CopyWords.{placed_at, placed_words}
use Rattle.work_words.specs.PlanWords.{master_word, signal_word, column_words, columns_words}
use Rattle.result.specs.Fill.{Block, block, block_of, next_dg, cg_at, sd_link, sd_blocks}
use Rattle.result.specs.Guarantee.{In, here, there, columns_placed}
use Rattle.ranges.specs.Blocks.{blocks_at, listed_from, links_of}
use Rattle.records.specs.FragmentLaws.{lt_or_le}
use Rattle.copies_laws.specs.AnswerLaws.{on_eq}
use Rattle.filling.specs.FillLaws.{has_master, master_cg}
use Rattle.thin.specs.Kept.{signal_place, signal_kept}
use Rattle.thin.specs.Place.{blocks_of}
use Rattle.thin.specs.Fill.{length_kept, kept_dg, kept_cg, kept_cn, kept_lists, kept_structure, moved_blocks, kept_blocks}
use Rattle.thin_blocks.specs.BlocksLaws.{dg-kept, cg-kept, cn-kept, dl-kept}
use Rattle.write_copies.specs.LaidWords.{Words}
use Rattle.write_copies.specs.PlaceWordsLaws.{columns-rest, places_rest, place_here}
use Rattle.thinning.specs.Column.{is_set, master_place, next_place, column_by}
use Rattle.thinning.specs.Data.{listed_by, sd_bytes, moved_of, signal_in, data_in, data_from}
use Rattle.thinning.specs.Structure.{dg_by, cg_by, front_by, cn_by, lists_by, parts_by, structure_from}
use Rattle.thinning.specs.Said.{OfFile, Said, SaidAll, numbers_of}

-- ---- the words say it
said_here : (s columns memo : List ℕ) (n k : ℕ) (p : Placed) (cs : List Column) (ps : List Placed) → OfFile s p.column
    → Words columns (8 * k) (columns_words n (p.column ∷ cs)) → Words memo (placed_at + 3 * k) (placed_words (p ∷ ps)) → Said s columns memo k p
unfolding columns_words column_words
said_here s columns memo n k p cs ps own f g =
    record {
      channel = rw add-zero at (f 0 (omega arith));
      group = f 1 (omega arith);
      parent = f 2 (omega arith);
      master = f 5 (omega arith);
      n = n;
      signal = f 6 (omega arith);
      places = place_here memo k p ps g;
      own = own;
    }

pub said_all : (s columns memo : List ℕ) (n k : ℕ) (ps : List Placed) → ((c : Column) → In c (columns_placed ps) → OfFile s c)
    → Words columns (8 * k) (columns_words n (columns_placed ps)) → Words memo (placed_at + 3 * k) (placed_words ps) → SaidAll s columns memo k ps
unfolding SaidAll columns_placed
said_all s columns memo n k [] own f g = tt
said_all s columns memo n k (p ∷ ps) own f g = (
  said_here s columns memo n k p (columns_placed ps) ps (own p.column here) f g,
  said_all s columns memo (n + size_of_signal p.column.signal_of) (k + 1) ps (λ c i. own c (there i)) (columns-rest columns n k p.column (columns_placed ps) f)
      (places_rest memo k p ps g),
)

-- ---- data blocks and SD
joined-one : (s : List ℕ) (x : ℕ) → joined s (fragment s x dt ∷ []) ≡ part (x + 24) (size_at s x - 24) s
unfolding joined
joined-one s x = append-nil _

-- where its CN has signal data, link 6 leads to it
place_led : (s : List ℕ) (c : ℕ) → (signal_place s c ≡ 0 → ⊥) → signal_place s c ≡ link_at s c 5
unfolding signal_place
place_led s c =
    on_eq (λ (x : ℕ). (x ≡ 0 → ⊥) → x ≡ link_at s c 5) (channel_type s c) 1 (link_at s c 5) 0 (λ _ _. refl) (λ _ h. absurd (h refl))

no_data : (fs : List Fragment) → no_signal ≡ signal_data fs → ⊥
no_data fs e = let z : ◌≡◌ {A = ℕ} 0 1 = cc in omega arith

led_data : (s : List ℕ) (c : ℕ) (fs : List Fragment) → signal_kept s c ≡ signal_data fs
    → joined s fs ≡ part (link_at s c 5 + 24) (size_at s (link_at s c 5) - 24) s
unfolding signal_kept
led_data s c fs =
    on_eq (λ (g : Signal). g ≡ signal_data fs → joined s fs ≡ part (link_at s c 5 + 24) (size_at s (link_at s c 5) - 24) s) (signal_place s c) 0 _ _
    (λ _ e. absurd (no_data fs e)) (λ h e. one_data (signal_place s c) (place_led s c h) e)
  where
    one_data : (x : ℕ) → x ≡ link_at s c 5 → signal_data (fragment s x dt ∷ []) ≡ signal_data fs
        → joined s fs ≡ part (link_at s c 5 + 24) (size_at s (link_at s c 5) - 24) s
    one_data x h e =
        let same : fs ≡ fragment s x dt ∷ [] = cc in
        ap (joined s) same ∙ joined-one s x ∙ ap (λ (y : ℕ). part (y + 24) (size_at s y - 24) s) h

module _ (s columns memo : List ℕ) (k : ℕ) (p : Placed) (q : Said s columns memo k p) where
  moved-said : moved_of s columns memo k ≡ moved_blocks s p.first p.column.group.data_group.fragments
  moved-said = rw (q.own.blocks, q.places.first, q.parent)

  signal_said : signal_in s columns memo k ≡ sd_blocks s p.column.signal_of p.sd
  unfolding signal_in
  signal_said = rw (q.signal, q.places.sd, q.channel) (go p.column.signal_of q.own.signal)
    where
      go : (g : Signal) → g ≡ signal_kept s p.column.channel
          → if_eq (signal_word q.n g) 0 [] (block p.sd (sd_bytes s (link_at s p.column.channel 5)) ∷ []) ≡ sd_blocks s g p.sd
      go no_signal e = sym (eq_yes _ _ _ _ refl refl)
      go (signal_data fs) e =
          sym (eq_no _ _ _ _ (λ z. omega (arith, z))
          (ap (λ (bs : List ℕ). block p.sd (block_of kind_sd bs) ∷ []) (led_data s p.column.channel fs (sym e))))

  data_said : data_in s columns memo k ≡ moved_blocks s p.first p.column.group.data_group.fragments ++ sd_blocks s p.column.signal_of p.sd
  unfolding data_in
  data_said = rw (moved-said, signal_said)

pub data_all : (s columns memo : List ℕ) (k : ℕ) (ps : List Placed) → SaidAll s columns memo k ps
    → data_from s columns memo k (length ps) ≡ kept_blocks s ps
unfolding data_from kept_blocks SaidAll
data_all s columns memo k [] q = refl
data_all s columns memo k (p ∷ ps) q =
    rw (data_said s columns memo k p q.0, data_all s columns memo (k + 1) ps q.1)
    (append_assoc (moved_blocks s p.first p.column.group.data_group.fragments) (sd_blocks s p.column.signal_of p.sd) (kept_blocks s ps))

-- ---- DG, CG, CN and DL

-- the words of a master and of signal data
master_set : (m : Option ℕ) → is_set (master_word m) ≡ has_master m
unfolding is_set
master_set none = sym (eq_yes _ _ _ _ refl refl)
master_set (some m) = sym (eq_no _ _ _ _ (λ z. omega (arith, z)) refl)

master_size : (m : Option ℕ) → if_eq (master_word m) 0 104 112 ≡ cg_size m
master_size none = sym (eq_yes _ _ _ _ refl refl)
master_size (some m) = sym (eq_no _ _ _ _ (λ z. omega (arith, z)) refl)

signal_link_lem : (n sd : ℕ) (g : Signal) → if_eq (signal_word n g) 0 0 sd ≡ sd_link g sd
signal_link_lem n sd no_signal = sym (eq_yes _ _ _ _ refl refl)
signal_link_lem n sd (signal_data fs) = sym (eq_no _ _ _ _ (λ z. omega (arith, z)) refl)

-- the CG of column number m
more_lt : (m n a b : ℕ) → if_lt m n a b ≡ if_lt (suc m) (suc n) a b
more_lt m n a b =
    ⊎_elim (λ l. sym (lt_yes m n a b l refl) ∙ lt_yes (suc m) (suc n) a b (omega arith) refl)
    (λ l. sym (lt_no m n a b l refl) ∙ lt_no (suc m) (suc n) a b (omega arith) refl) (lt_or_le m n)

cg-said : (s columns memo : List ℕ) (k m : ℕ) (ps : List Placed) → SaidAll s columns memo k ps
    → cg_at m ps ≡ if_lt m (length ps) (get_or memo (placed_at + 3 * (k + m)) 0 + 64) 0
unfolding cg_at SaidAll
cg-said s columns memo k m [] q = lt_no m 0 _ _ (omega arith) refl
cg-said s columns memo k zero (p ∷ ps) q = lt_yes 0 _ _ _ (omega arith) (rw (add-zero, q.0.places.dg))
cg-said s columns memo k (suc m) (p ∷ ps) q =
    let e : k + suc m ≡ k + 1 + m = omega arith in
    cg-said s columns memo (k + 1) m ps q.1 ∙ rw e (more_lt m (length ps) _ _)

master_said : (s columns memo : List ℕ) (all : List Placed) (m : Option ℕ) → SaidAll s columns memo 0 all
    → master_place memo (length all) (master_word m) ≡ master_cg all m
unfolding master_place
master_said s columns memo all none q = sym (eq_yes _ _ _ _ refl refl)
master_said s columns memo all (some m) q =
    let e : m + 1 - 1 ≡ m = omega arith in
    sym (eq_no _ _ _ _ (λ z. omega (arith, z)) (rw e (cg-said s columns memo 0 m all q ∙ rw zero-add)))

next-said : (s columns memo : List ℕ) (n k : ℕ) (ps : List Placed) → SaidAll s columns memo (k + 1) ps → k + 1 + length ps ≡ n
    → next_place memo n k ≡ next_dg ps
unfolding next_place SaidAll
next-said s columns memo n k [] q e = sym (lt_no _ _ _ _ (omega arith) refl)
next-said s columns memo n k (p ∷ ps) q e = sym (lt_yes _ _ _ _ (omega arith) (sym q.0.places.dg))

-- as many blocks as links
length_at : (s : List ℕ) (j p : ℕ) → length (blocks_at s j p) ≡ j
unfolding blocks_at
length_at s zero p = refl
length_at s (suc j) p = ap suc (length_at s j (p + 8))

blocks-said : (s : List ℕ) (c : Column) → c.group.data_group.fragments ≡ listed_by s c.group.data_group.at
    → links_of s (link_at s c.group.data_group.at 2) - 1 ≡ blocks_of c
unfolding blocks_of listed_from
blocks-said s c e = sym (ap length e ∙ length_at s _ _)

photos_said : (s : List ℕ) (c : Column) → c.photos ≡ references s c.channel → photo_count s c.channel ≡ length c.photos
unfolding references
photos_said s c e = sym (ap length e ∙ length-links_from s _ _)

module _ (s columns memo : List ℕ) (k : ℕ) (all : List Placed) (p : Placed) (q : Said s columns memo k p) (every : SaidAll s columns memo 0 all) where
  column-said : column_by s columns memo (length all) k ≡ numbers_of s all p
  unfolding column_by numbers_of length_kept
  column-said =
      rw (
        q.master,
        q.signal,
        q.places.dg,
        q.places.first,
        q.places.sd,
        q.group,
        q.parent,
        q.channel,
        master_set p.column.master,
        master_size p.column.master,
        master_said s columns memo all p.column.master every,
        signal_link_lem q.n p.sd p.column.signal_of,
        blocks-said s p.column q.own.blocks,
        photos_said s p.column q.own.photos,
      )

-- its blocks
module _ (s : List ℕ) (m : List Copy) (ats : List Attachment) (all : List Placed) (p : Placed) where
  dg-same : (next : ℕ) → dg_by s m (numbers_of s all p) next ≡ kept_dg s m p next
  unfolding dg_by numbers_of cn_size
  dg-same next = sym (dg-kept s m p next)

  cg-same : cg_by s m (numbers_of s all p) ≡ kept_cg s m all p
  unfolding cg_by numbers_of
  cg-same = sym (cg-kept s m all p)

  kept_links : p.column.photos ≡ references s p.column.channel
      → links_from s (length p.column.photos) (p.column.channel + 88) ≡ p.column.photos
  unfolding references
  kept_links e = ap (λ (n : ℕ). links_from s n (p.column.channel + 88)) (sym (photos_said s p.column e)) ∙ sym e

  cn-same : p.column.photos ≡ references s p.column.channel → cn_by s m ats (numbers_of s all p) ≡ kept_cn s m ats p
  unfolding cn_by front_by numbers_of cn_size
  cn-same e = rw (kept_links e) (sym (cn-kept s m p ats))

  lists_same : lists_by (numbers_of s all p) ≡ kept_lists s p
  unfolding lists_by kept_lists numbers_of cn_size
  lists_same = rw (dl-kept s m p)

  parts_open : (next : ℕ) → p.column.photos ≡ references s p.column.channel → (bs : List Block) → parts_by s m ats (numbers_of s all p) next ++ bs
      ≡ block p.dg (kept_dg s m p next) ∷ block (cg_of p) (kept_cg s m all p) ∷ block (cn_of p) (kept_cn s m ats p) ∷ (kept_lists s p ++ bs)
  unfolding parts_by numbers_of
  parts_open next e bs = rw (dg-same next, cg-same, cn-same e, lists_same)

pub structure-all : (s : List ℕ) (m : List Copy) (ats : List Attachment) (columns memo : List ℕ) (k : ℕ) (all ps : List Placed)
    → SaidAll s columns memo 0 all → SaidAll s columns memo k ps → k + length ps ≡ length all
    → structure_from s m ats columns memo (length all) k (length ps) ≡ kept_structure s m ats all ps
unfolding structure_from kept_structure SaidAll
structure-all s m ats columns memo k all [] every q e = refl
structure-all s m ats columns memo k all (p ∷ ps) every q e =
    rw (
      column-said s columns memo k all p q.0 every,
      next-said s columns memo (length all) k ps q.1 (omega arith),
      structure-all s m ats columns memo (k + 1) all ps every q.1 (omega arith),
    ) (parts_open s m ats all p (next_dg ps) q.0.own.photos (kept_structure s m ats all ps))
