-- The kept columns stand in words as the layout takes them: their sizes, and the blocks that they refer to.
use Rattle.std.specs.Prelude.{ℕ, zero, suc, ◌+◌, ◌*◌, ◌-◌, ◌≤◌, List, [], ◌∷◌, ◌++◌, Bool, true, false, ◌≡◌, refl, eqb, length, get_or}
use Rattle.std.proofs.Math.Option.{Option, none, some}
use Rattle.std.proofs.Common.{sym, ap, ◌∙◌, arith, ne_eqb}
use Rattle.std.proofs.lemmas.Bool.{eqb-false}
use Rattle.base.specs.Choice.{pick, if_eq}
use Rattle.base.specs.Checked.{ok, and_then}
use Rattle.base.specs.Blit.{blit}
use Rattle.base.specs.BlitLaws.{part-blit}
use Rattle.mdf.specs.Block.{size_at, link_at}
use Rattle.mdf.specs.Chain.{dt, Fragment, fragment, is_in}
use Rattle.mdf.specs.Records.{size_of}
use Rattle.plan.specs.Channel.{channel_type}
use Rattle.plan.specs.Columns.{Column, no_signal, signal_data, size_of_signal}
use Rattle.plan.specs.Photos.{references}
use Rattle.plan.specs.Copies.{Copies, copy_roots, column_links, column_copies}
use Rattle.plan.specs.Layout.{Sizes, cg_size, cn_size, signal_sizes}
use Rattle.work_words.specs.PlanWords.{time_word, master_word, signal_word, column_words, columns_words}
use Rattle.result.specs.Member.{In, here, there}
use Rattle.reading.specs.Holding.{Stands}
use Rattle.reading.specs.StandsLaws.{stands_front, stands_back, stands_head}
use Rattle.copier.specs.Roots.{roots, roots-of, roots_at, copies_of}
use Rattle.file.specs.Form.{FileColumn, cycles, record_bytes}
use Rattle.file.specs.Opened.{opened}
use Rattle.file.specs.Range.{file_column_at}
use Rattle.file_laws.specs.OpenedLaws.{opened-column}
use Rattle.ranges.specs.Blocks.{blocks_at, listed_from, links_of, blocks_of}
use Rattle.ranges.specs.Open.{columns_of}
use Rattle.thin.specs.Kept.{signal_place, signal_kept, kept_column, kept_from, kept_columns}
use Rattle.thin.specs.Place.{most_kept, kept_size, kept_sizes}
use Rattle.thin.specs.Place as place
use Rattle.arranging.specs.ThenLaws.{then_same}
use Rattle.arranging.specs.Sized.{blocks_in, cg_bytes, structure_at, payload_at, sd_bytes, signal_size_at, sizes_at, sizes_in}
use Rattle.arranging.specs.SizedLaws.{cg_yes, cg_no}
use Rattle.arranging.specs.Laying.{Standing}

-- ---- a column of the file: its blocks are those of its DL, and they hold its records
record Counted (s : List ℕ) (c : FileColumn) : Type 0 where
  blocks : c.fragments ≡ blocks_of s (link_at s c.dg 2)
  bytes : size_of c.fragments ≡ cycles s c.cg * record_bytes s c.cg

in_at : {c : FileColumn} {cs : List FileColumn} → In c cs → (k : ℕ) × (file_column_at k cs ≡ some c)
unfolding file_column_at
in_at here = (0, refl)
in_at (there i) = let r = in_at i in (suc r.0, r.1)

by_links : (s w : List ℕ) (k j : ℕ) {c : FileColumn} → In c (columns_of s w k j) → c.fragments ≡ blocks_of s (link_at s c.dg 2)
unfolding columns_of
by_links s w zero j {c = c} x' = elim x' [ ]
by_links s w (suc k) j here = refl
by_links s w (suc k) j (there i) = by_links s w k (j + 1) i

counted : (s w : List ℕ) (n : ℕ) → opened s ≡ ok (columns_of s w n 0) → (c : FileColumn) → In c (columns_of s w n 0) → Counted s c
counted s w n e c i =
    let k = in_at i in
    record { blocks = by_links s w n 0 i; bytes = (opened-column s (columns_of s w n 0) k.0 c e k.1).form.bytes }

-- ---- a column that is kept: what its sizes are by
record Shaped (s : List ℕ) (d : Column) : Type 0 where
  blocks : blocks_in s d.group.data_group.at ≡ place.blocks_of d
  payload : d.group.records * record_bytes s d.group.at ≡ size_of d.group.data_group.fragments
  photos : d.photos ≡ references s d.channel
  signal : d.signal_of ≡ signal_kept s d.channel

length-blocks : (s : List ℕ) (k p : ℕ) → length (blocks_at s k p) ≡ k
unfolding blocks_at
length-blocks s zero p = refl
length-blocks s (suc k) p = ap suc (length-blocks s k (p + 8))

many-blocks : (s : List ℕ) (a : ℕ) (fs : List Fragment) → fs ≡ blocks_of s (link_at s a 2) → blocks_in s a ≡ length fs
unfolding blocks_in listed_from
many-blocks s a fs e = sym (ap length e ∙ length-blocks s (links_of s (link_at s a 2) - 1) _)

shaped : (s numbers : List ℕ) (all : List FileColumn) (c : FileColumn) → Counted s c → Shaped s (kept_column s numbers all c)
unfolding place.blocks_of
shaped s numbers all c h = record { blocks = many-blocks s c.dg c.fragments h.blocks; payload = sym h.bytes; photos = refl; signal = refl }

all_shaped : (s numbers : List ℕ) (all : List FileColumn) (k : ℕ) (cs : List FileColumn) → ((c : FileColumn) → In c cs → Counted s c)
    → (d : Column) → In d (kept_from s numbers all k cs) → Shaped s d
unfolding kept_from
all_shaped s numbers all k [] h d i = elim i [ ]
all_shaped s numbers all k (c ∷ cs) h d i =
    go (is_in k numbers) (shaped s numbers all c (h c here)) (all_shaped s numbers all (suc k) cs (λ e j. h e (there j))) i
  where
    of : Shaped s (kept_column s numbers all c) → ((d : Column) → In d (kept_from s numbers all (suc k) cs) → Shaped s d) → (d : Column)
        → In d (kept_column s numbers all c ∷ kept_from s numbers all (suc k) cs) → Shaped s d
    of x more d here = x
    of x more d (there j) = more d j

    go : (t : Bool) → Shaped s (kept_column s numbers all c) → ((d : Column) → In d (kept_from s numbers all (suc k) cs) → Shaped s d)
        → In d (pick t (kept_from s numbers all (suc k) cs) (kept_column s numbers all c ∷ kept_from s numbers all (suc k) cs)) → Shaped s d
    go true x more j = more d j
    go false x more j = of x more d j

-- ---- the words of a column
record Reads (w : List ℕ) (m p : ℕ) (d : Column) : Type 0 where
  channel : get_or w p 0 ≡ d.channel
  group : get_or w (p + 1) 0 ≡ d.group.at
  of_dg : get_or w (p + 2) 0 ≡ d.group.data_group.at
  records : get_or w (p + 3) 0 ≡ d.group.records
  master : get_or w (p + 5) 0 ≡ master_word d.master
  signal : get_or w (p + 6) 0 ≡ signal_word m d.signal_of

word_at : {w : List ℕ} {p : ℕ} (xs : List ℕ) (x : ℕ) (ys : List ℕ) (k : ℕ) → length xs ≡ k → Stands w p (xs ++ (x ∷ ys)) → get_or w (p + k) 0 ≡ x
word_at xs x ys k e h = rw (← e) (stands_head x ys (stands_back xs (x ∷ ys) h))

column_reads : (w : List ℕ) (m p : ℕ) (d : Column) → Stands w p (column_words m d) → Reads w m p d
unfolding column_words
column_reads w m p d h =
    let g : ℕ = d.group.at in
    let a : ℕ = d.group.data_group.at in
    let r : ℕ = d.group.records in
    let t : ℕ = time_word d.is_time_lem in
    let q : ℕ = master_word d.master in
    let v : ℕ = signal_word m d.signal_of in
    let z : ℕ = size_of_signal d.signal_of in
    record {
      channel = stands_head d.channel (g ∷ a ∷ r ∷ t ∷ q ∷ v ∷ z ∷ []) h;
      group = word_at (d.channel ∷ []) g (a ∷ r ∷ t ∷ q ∷ v ∷ z ∷ []) 1 refl h;
      of_dg = word_at (d.channel ∷ g ∷ []) a (r ∷ t ∷ q ∷ v ∷ z ∷ []) 2 refl h;
      records = word_at (d.channel ∷ g ∷ a ∷ []) r (t ∷ q ∷ v ∷ z ∷ []) 3 refl h;
      master = word_at (d.channel ∷ g ∷ a ∷ r ∷ t ∷ []) q (v ∷ z ∷ []) 5 refl h;
      signal = word_at (d.channel ∷ g ∷ a ∷ r ∷ t ∷ q ∷ []) v (z ∷ []) 6 refl h;
    }

-- ---- its sizes
cg-of : (o : Option ℕ) → cg_bytes (master_word o) ≡ cg_size o
cg-of none = sym (cg_yes 0 refl)
cg-of (some a) = sym (cg_no (a + 1) (λ e. omega arith))

place_is : (s : List ℕ) (c : ℕ) → (signal_place s c ≡ 0 → ⊥) → link_at s c 5 ≡ signal_place s c
unfolding signal_place if_eq
place_is s c z = go (eqb (channel_type s c) 1) z
  where
    go : (t : Bool) → (pick t (link_at s c 5) 0 ≡ 0 → ⊥) → link_at s c 5 ≡ pick t (link_at s c 5) 0
    go true z = refl
    go false z = absurd (z refl)

signal_of_lem : (s w : List ℕ) (m p c : ℕ) → get_or w p 0 ≡ c → get_or w (p + 6) 0 ≡ signal_word m (signal_kept s c) → signal_size_at s w p ≡ signal_sizes (signal_kept s c)
unfolding signal_size_at sd_bytes signal_kept if_eq size_of
signal_of_lem s w m p c e = go (eqb (signal_place s c) 0) refl
  where
    go : (t : Bool) → eqb (signal_place s c) 0 ≡ t
        → get_or w (p + 6) 0 ≡ signal_word m (pick t no_signal (signal_data (fragment s (signal_place s c) dt ∷ [])))
        → pick (eqb (get_or w (p + 6) 0) 0) none (some (size_at s (link_at s (get_or w p 0) 5) - 24))
        ≡ signal_sizes (pick t no_signal (signal_data (fragment s (signal_place s c) dt ∷ [])))
    go true q h = rw h
    go false q h = rw (ne_eqb (get_or w (p + 6) 0) 0 (λ z. omega (arith, z, h)), e, place_is s c (eqb-false _ _ q)) (ap some (omega arith))

structure-of : (s w : List ℕ) (m p : ℕ) (d : Column) → Reads w m p d → Shaped s d → structure_at s w p ≡ (kept_size d).structure
unfolding structure_at cn_size
structure-of s w m p d r h = rw (r.master, cg-of d.master, r.channel, ← h.photos, r.of_dg, h.blocks)

payload_of_lem : (s w : List ℕ) (m p : ℕ) (d : Column) → Reads w m p d → Shaped s d → payload_at s w p ≡ size_of d.group.data_group.fragments
unfolding payload_at
payload_of_lem s w m p d r h = rw (r.records, r.group) h.payload

sizes_of_lem : (s w : List ℕ) (m p : ℕ) (d : Column) → Reads w m p d → Shaped s d → sizes_at s w p ≡ kept_size d
sizes_of_lem s w m p d r h =
    let a = structure-of s w m p d r h in
    let b : blocks_in s (get_or w (p + 2) 0) ≡ place.blocks_of d = ap (blocks_in s) r.of_dg ∙ h.blocks in
    let e = payload_of_lem s w m p d r h in
    let v : get_or w (p + 6) 0 ≡ signal_word m (signal_kept s d.channel) = r.signal ∙ ap (signal_word m) h.signal in
    let g : signal_size_at s w p ≡ signal_sizes d.signal_of = signal_of_lem s w m p d.channel r.channel v ∙ ap signal_sizes (sym h.signal) in
    rw (a, b, e, g)

-- ---- all columns
rest_stands : (w : List ℕ) (m p : ℕ) (d : Column) (xs : List ℕ) → Stands w p (column_words m d ++ xs) → Stands w (p + 8) xs
unfolding column_words
rest_stands w m p d xs h = stands_back (column_words m d) xs h

sizes_all : (s w : List ℕ) (m p : ℕ) (ds : List Column) → Stands w p (columns_words m ds) → ((d : Column) → In d ds → Shaped s d)
    → sizes_in s w p (length ds) ≡ kept_sizes ds
unfolding sizes_in kept_sizes columns_words
sizes_all s w m p [] h f = refl
sizes_all s w m p (d ∷ ds) h f =
    let r = column_reads w m p d (stands_front (column_words m d) (columns_words (m + size_of_signal d.signal_of) ds) h) in
    rw (sizes_of_lem s w m p d r (f d here)) (ap (λ (l : List Sizes). kept_size d ∷ l)
    (sizes_all s w (m + size_of_signal d.signal_of) (p + 8) ds (rest_stands w m p d _ h) (λ e i. f e (there i))))

roots-at : (s w : List ℕ) (m p : ℕ) (d : Column) → Reads w m p d → roots_at s w p ≡ column_links s d
unfolding roots_at
roots-at s w m p d r = rw (r.of_dg, r.group, r.channel) (roots-of s d)

roots-all : (s w : List ℕ) (m p : ℕ) (ds : List Column) (x : Copies) → Stands w p (columns_words m ds)
    → copies_of most_kept s w p (length ds) x ≡ column_copies most_kept s ds x
unfolding copies_of column_copies columns_words
roots-all s w m p [] x h = refl
roots-all s w m p (d ∷ ds) x h =
    let r = column_reads w m p d (stands_front (column_words m d) (columns_words (m + size_of_signal d.signal_of) ds) h) in
    ap (λ (l : List ℕ). and_then (copy_roots most_kept s l x) (λ y. copies_of most_kept s w (p + 8) (length ds) y)) (roots-at s w m p d r)
    ∙ then_same (copy_roots most_kept s (column_links s d) x) _ _
    (λ y. roots-all s w (m + size_of_signal d.signal_of) (p + 8) ds y (rest_stands w m p d _ h))

length-columns : (m : ℕ) (ds : List Column) → length (columns_words m ds) ≡ 8 * length ds
unfolding columns_words column_words
length-columns m [] = refl
length-columns m (d ∷ ds) = let h = length-columns (m + size_of_signal d.signal_of) ds in omega arith

-- ---- the columns that are kept of a file, in the words that they were put into
pub kept-standing : (s numbers source : List ℕ) (count n : ℕ) (w w' : List ℕ) → opened s ≡ ok (columns_of s source count 0)
    → n ≡ length (kept_columns s numbers (columns_of s source count 0)) → n ≤ 512 → 8192 ≤ length w
    → w' ≡ blit 0 (columns_words 0 (kept_columns s numbers (columns_of s source count 0))) w
    → Standing s w' n (kept_columns s numbers (columns_of s source count 0))
unfolding kept_columns
kept-standing s numbers source count n w w' e i few long q =
    let all : List FileColumn = columns_of s source count 0 in
    let ds : List Column = kept_from s numbers (columns_of s source count 0) 0 (columns_of s source count 0) in
    let l = length-columns 0 (kept_from s numbers (columns_of s source count 0) 0 (columns_of s source count 0)) in
    let h : Stands w' 0 (columns_words 0 ds) = record { is = rw q (part-blit 0 (columns_words 0 ds) w (omega arith)) } in
    record {
      count = sym i;
      sizes = rw i (sizes_all s w' 0 0 ds h (all_shaped s numbers all 0 all (counted s source count e)));
      roots = λ x. rw i (roots-all s w' 0 0 ds x h);
    }
