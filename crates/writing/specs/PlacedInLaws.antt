-- The columns in words are those that were planned and placed, but for what their blocks do not show.
use Rattle.std.specs.Prelude.{◌≡◌, ℕ, zero, suc, ◌+◌, ◌*◌, ◌<◌, ◌≤◌, Bool, true, false, List, [], ◌∷◌, length, slice_index_or}
use Rattle.std.proofs.Math.Option.{Option, none, some}
use Rattle.std.proofs.Math.Path.{refl}
use Rattle.std.proofs.Common.{ap, ◌∙◌, zero-add, add-one, arith}
use Rattle.std.proofs.Math.Nat.{add-zero}
use Rattle.base.specs.BlitLaws.{length-blit}
use Rattle.plan.specs.Photos.{photos_of}
use Rattle.plan.specs.Columns.{size_of_signal, Column, Signal, no_signal, signal_data, Plan}
use Rattle.plan.specs.Copies.{Copy, Attachment}
use Rattle.work_words.specs.CopyWords.{placed_at, placed_words, laid_copies}
use Rattle.plan.specs.Layout.{column_width, column_blocks, cn_size, Placed, cg_of, cn_of, Layout}
use Rattle.work_words.specs.PlanWords.{time_word, master_word, signal_word, column_words, columns_words, omissions_at, omission_pairs, laid_plan}
use Rattle.plan.specs.Rules.{Rules}
use Rattle.result.specs.Fill.{
  Block,
  block,
  next_dg,
  cg_at,
  dg_bytes,
  master_link,
  cg_data,
  cg_bytes,
  sd_link,
  cn_bytes,
  dl_bytes,
  dl_blocks,
  column_payload,
  structure_blocks,
}
use Rattle.result.specs.Guarantee.{In, here, there, columns_placed}
use Rattle.result.specs.Ordered.{Ordered}
use Rattle.copies_laws.specs.LengthLaws.{InImage}
use Rattle.copier.specs.Standing.{copies_in}
use Rattle.write_copies.specs.LaidWords.{Words}
use Rattle.write_copies.specs.PlaceWordsLaws.{blit_before, blit_among, length-columns, columns-rest, places_rest, place_words_lem}
use Rattle.writing.specs.PlacedIn.{time_in, master_in, signal_in, column_in, placed_one, placed_in}
use Rattle.writing.specs.Structure.{StructureReady}

-- ---- a column without what its blocks do not show
abbrev pub bare_signal : Signal → Signal
bare_signal no_signal = no_signal
bare_signal (signal_data fs) = signal_data []

unfoldable pub bare_column : Column → Column
bare_column c = record {
  group = record {
    data_group = record { at = c.group.data_group.at; fragments = []; groups = [] };
    number = 0;
    at = c.group.at;
    channels = [];
    records = c.group.records;
  };
  channel = c.channel;
  is_time_lem = c.is_time_lem;
  master = c.master;
  signal_of = bare_signal c.signal_of;
  photos = c.photos;
}

unfoldable pub bare : Placed → Placed
bare p = record { column = bare_column p.column; dg = p.dg; first = p.first; sd = p.sd }

unfoldable pub bare_all : List Placed → List Placed
bare_all [] = []
bare_all (p ∷ ps) = bare p ∷ bare_all ps

-- its blocks are the same
bare-cg : (m : ℕ) (ps : List Placed) → cg_at m (bare_all ps) ≡ cg_at m ps
unfolding cg_at bare_all bare bare_column
bare-cg m [] = refl
bare-cg zero (p ∷ ps) = refl
bare-cg (suc m) (p ∷ ps) = bare-cg m ps

bare_master : (ps : List Placed) (m : Option ℕ) → master_link (bare_all ps) m ≡ master_link ps m
bare_master ps none = refl
bare_master ps (some m) = rw (bare-cg m ps)

bare_sd : (g : Signal) (a : ℕ) → sd_link (bare_signal g) a ≡ sd_link g a
bare_sd no_signal a = refl
bare_sd (signal_data fs) a = refl

pub bare-next : (ps : List Placed) → next_dg (bare_all ps) ≡ next_dg ps
unfolding bare_all bare
bare-next [] = refl
bare-next (p ∷ ps) = refl

module _ (rs : Rules) (s : List ℕ) (size : ℕ) (m : List Copy) (ats : List Attachment) where
  bare-dg : (p : Placed) {x y : ℕ} → x ≡ y → dg_bytes s size m (bare p) x ≡ dg_bytes s size m p y
  unfolding dg_bytes cn_size bare bare_column column_blocks column_width
  bare-dg p e = rw e

  bare-group : (all : List Placed) (p : Placed) → cg_bytes s m (bare_all all) (bare p) ≡ cg_bytes s m all p
  unfolding cg_bytes cg_data bare bare_column
  bare-group all p = rw (bare_master all p.column.master)

  bare-cn : (p : Placed) → cn_bytes rs s m ats (bare p) ≡ cn_bytes rs s m ats p
  unfolding cn_bytes cn_size bare bare_column
  bare-cn p = rw (bare_sd p.column.signal_of p.sd)

  bare-dl : (p : Placed) → dl_blocks s size (bare p) ≡ dl_blocks s size p
  unfolding dl_blocks dl_bytes column_payload column_blocks column_width cn_size bare bare_column
  bare-dl p = refl

  bare_places : (p : Placed) (x y z : List ℕ) (bs : List Block)
      → block (bare p).dg x ∷ block (cg_of (bare p)) y ∷ block (cn_of (bare p)) z ∷ bs ≡ block p.dg x ∷ block (cg_of p) y ∷ block (cn_of p) z ∷ bs
  unfolding bare bare_column
  bare_places p x y z bs = refl

  pub bare-structure : (all ps : List Placed) → structure_blocks rs s size m ats (bare_all all) (bare_all ps) ≡ structure_blocks rs s size m ats all ps
  unfolding structure_blocks bare_all
  bare-structure all [] = refl
  bare-structure all (p ∷ ps) =
      rw (bare-dg p (bare-next ps), bare-group all p, bare-cn p, bare-dl p, bare-structure all ps) (bare_places p _ _ _ _)

-- ---- the words of columns give them back
time_back : (b : Bool) → time_in (time_word b) ≡ b
unfolding time_in
time_back true = refl
time_back false = refl

master_back : (m : Option ℕ) → master_in (master_word m) ≡ m
unfolding master_in
master_back none = refl
master_back (some m) = rw add-one

signal_back : (n : ℕ) (g : Signal) → signal_in (signal_word n g) ≡ bare_signal g
unfolding signal_in
signal_back n no_signal = refl
signal_back n (signal_data fs) = rw add-one

-- column number k
module _ (ph : Bool) (s columns memo : List ℕ) (n k : ℕ) (p : Placed) (cs : List Column) (ps : List Placed) (refers : p.column.photos ≡ photos_of ph s p.column.channel)
    (f : Words columns (8 * k) (columns_words n (p.column ∷ cs))) (g : Words memo (placed_at + 3 * k) (placed_words (p ∷ ps))) where
  column_back : column_in ph s columns (8 * k) ≡ bare_column p.column
  unfolding column_in bare_column columns_words column_words
  column_back =
      let a : slice_index_or columns (8 * k) 0 ≡ p.column.channel = rw add-zero at (f 0 (omega arith)) in
      let b : slice_index_or columns (8 * k + 1) 0 ≡ p.column.group.at = f 1 (omega arith) in
      let c : slice_index_or columns (8 * k + 2) 0 ≡ p.column.group.data_group.at = f 2 (omega arith) in
      let d : slice_index_or columns (8 * k + 3) 0 ≡ p.column.group.records = f 3 (omega arith) in
      let t : slice_index_or columns (8 * k + 4) 0 ≡ time_word p.column.is_time_lem = f 4 (omega arith) in
      let m : slice_index_or columns (8 * k + 5) 0 ≡ master_word p.column.master = f 5 (omega arith) in
      let x : slice_index_or columns (8 * k + 6) 0 ≡ signal_word n p.column.signal_of = f 6 (omega arith) in
      rw (a, refers, b, c, d, t, m, x, time_back p.column.is_time_lem, master_back p.column.master, signal_back n p.column.signal_of)

  one_back : placed_one ph s columns memo k ≡ bare p
  unfolding placed_one bare placed_words
  one_back =
      let a : slice_index_or memo (placed_at + 3 * k) 0 ≡ p.dg = rw add-zero at (g 0 (omega arith)) in
      let b : slice_index_or memo (placed_at + 3 * k + 1) 0 ≡ p.first = g 1 (omega arith) in
      let c : slice_index_or memo (placed_at + 3 * k + 2) 0 ≡ p.sd = g 2 (omega arith) in
      rw (column_back, a, b, c)

-- all columns from number k on
pub placed_back : (ph : Bool) (s columns memo : List ℕ) (n k : ℕ) (ps : List Placed)
    → ((c : Column) → In c (columns_placed ps) → c.photos ≡ photos_of ph s c.channel) → Words columns (8 * k) (columns_words n (columns_placed ps))
    → Words memo (placed_at + 3 * k) (placed_words ps) → placed_in ph s columns memo k (length ps) ≡ bare_all ps
unfolding placed_in bare_all columns_placed
placed_back ph s columns memo n k [] q f g = refl
placed_back ph s columns memo n k (p ∷ ps) q f g =
    rw (
      one_back ph s columns memo n k p (columns_placed ps) ps (q p.column here) f g,
      placed_back ph s columns memo (n + size_of_signal p.column.signal_of) (k + 1) ps (λ c i. q c (there i))
          (columns-rest columns n k p.column (columns_placed ps) f) (places_rest memo k p ps g),
    )

-- ---- planned and placed columns
pub length-placed : (ps : List Placed) → length (columns_placed ps) ≡ length ps
unfolding columns_placed
length-placed [] = refl
length-placed (p ∷ ps) = ap suc (length-placed ps)

plan-words : (n : ℕ) (p : Plan) (w : List ℕ) → length p.columns ≤ 512 → 8192 ≤ length w
    → Words (laid_plan n p w) (8 * 0) (columns_words n p.columns)
unfolding laid_plan
plan-words n p w few long j h =
    let l = length-columns n p.columns in
    blit_before (omission_pairs p.omissions) omissions_at (8 * 0 + j) _ (omega arith)
    ∙ blit_among (columns_words n p.columns) (8 * 0) j w h (omega arith)

abbrev head_of : List Placed → Placed → Placed
head_of [] q = q
head_of (p ∷ ps) q = p

abbrev tail_of : List Placed → List Placed
tail_of [] = []
tail_of (p ∷ ps) = ps

seen_one : (ph : Bool) {s : List ℕ} (columns memo : List ℕ) (k : ℕ) (p : Placed) → placed_one ph s columns memo k ≡ bare p → InImage s p.column
    → InImage s (column_in ph s columns (8 * k))
unfolding placed_one bare bare_column
seen_one ph {s} columns memo k p e i =
    let q : column_in ph s columns (8 * k) ≡ bare_column p.column = ap (λ (x : Placed). x.column) e in
    rw q (record { group = i.group; channel = i.channel })

seen_back : (ph : Bool) {s : List ℕ} (columns memo : List ℕ) (k : ℕ) (ps : List Placed) → placed_in ph s columns memo k (length ps) ≡ bare_all ps
    → ((c : Column) → In c (columns_placed ps) → InImage s c) → (i : ℕ) → i < length ps → InImage s (column_in ph s columns (8 * (k + i)))
unfolding placed_in bare_all columns_placed
seen_back ph columns memo k [] e f i h = absurd (omega arith)
seen_back ph columns memo k (p ∷ ps) e f zero h = rw add-zero (seen_one ph columns memo k p (ap (λ (l : List Placed). head_of l (bare p)) e) (f p.column here))
seen_back ph columns memo k (p ∷ ps) e f (suc i) h =
    let q : k + suc i ≡ k + 1 + i = omega arith in
    rw q (seen_back ph columns memo (k + 1) ps (ap tail_of e) (λ c j. f c (there j)) i (omega arith))

module _ (ph : Bool) (s : List ℕ) (n : ℕ) (p : Plan) (l : Layout) (w v columns memo : List ℕ) (planned : columns ≡ laid_plan n p w) (placed : memo ≡ laid_copies l v)
    (same : columns_placed l.placed ≡ p.columns) (few : length p.columns ≤ 512) (long : 8192 ≤ length w) (room : 8192 ≤ length v)
    (refers : (c : Column) → In c p.columns → c.photos ≡ photos_of ph s c.channel) where
  few-placed : length l.placed ≤ 512
  few-placed = omega (arith, length-placed l.placed, ap length same)

  pub placed_in_lem : placed_in ph s columns memo 0 (length l.placed) ≡ bare_all l.placed
  placed_in_lem =
      let f : Words columns (8 * 0) (columns_words n (columns_placed l.placed)) = rw (planned, same) (plan-words n p w few long) in
      let g : Words memo (placed_at + 3 * 0) (placed_words l.placed) = rw placed (place_words_lem l v few-placed room) in
      placed_back ph s columns memo n 0 l.placed (rw same refers) f g

  -- the columns in words have the blocks of those placed
  pub structure_in_lem : (rs : Rules) (size : ℕ) (m : List Copy) (ats : List Attachment)
      → structure_blocks rs s size m ats (placed_in ph s columns memo 0 (length l.placed)) (placed_in ph s columns memo 0 (length l.placed))
      ≡ structure_blocks rs s size m ats l.placed l.placed
  structure_in_lem rs size m ats = rw placed_in_lem (bare-structure rs s size m ats l.placed l.placed)

  pub next_in : next_dg (placed_in ph s columns memo 0 (length l.placed)) ≡ next_dg l.placed
  next_in = rw placed_in_lem (bare-next l.placed)

  pub seen_in_lem : ((c : Column) → In c p.columns → InImage s c) → (k : ℕ) → k < length l.placed
      → InImage s (column_in ph s columns (8 * k))
  seen_in_lem f k h =
      let g : (c : Column) → In c (columns_placed l.placed) → InImage s c = rw same f in
      rw zero-add at (seen_back ph columns memo 0 l.placed placed_in_lem g k h)

  pub structure_ready : {rs : Rules} {size used a e : ℕ} (ats : List Attachment) → ((c : Column) → In c p.columns → InImage s c)
      → Ordered a (structure_blocks rs s size (copies_in memo used) ats l.placed l.placed) e
      → StructureReady ph rs s size columns memo ats (length l.placed) used a e
  unfolding laid_plan laid_copies
  structure_ready {rs} {size} {used} {a} {e} ats f o =
      record {
        few = few-placed;
        long = rw planned (simp length-blit (omega arith));
        placed = rw placed (simp length-blit room);
        ordered = rw (structure_in_lem rs size (copies_in memo used) ats) o;
        seen = seen_in_lem f;
      }
