-- The data blocks that the words give are those of the result, for all that was decided for a call.
use Rattle.std.specs.Prelude.{◌≡◌, ℕ, suc, ◌+◌, ◌-◌, ◌*◌, ◌<◌, ◌≤◌, true, List, [], ◌∷◌, ◌++◌, length, ◌≢◌, slice_index, slice_index_or, refl}
use Rattle.std.proofs.Common.{append_assoc, ap, ◌∙◌, subst, add-zero, eq-or-lt_of_le, lt-ltb}
use Rattle.std.proofs.Math.Path.{sym}
use Rattle.std.proofs.Math.Logic.{⊎_elim}
use native.Mathlib.Omega.{arith}
use Rattle.std.proofs.Math.ListN.{length-append}
use Rattle.base.specs.ChoiceLaws.{eq_yes, eq_no}
use Rattle.base.specs.Blit.{blit}
use Rattle.base.specs.BlitLaws.{length-blit}
use Rattle.base.specs.Checked.{fine}
use Rattle.mdf.specs.Chain.{Fragment}
use Rattle.mdf.specs.Walk.{Item, dg, level_cg, tally}
use Rattle.mdf.specs.Group.{addresses, groups_of, data_groups}
use Rattle.mdf.specs.Records.{most64, size_of}
use Rattle.work_words.specs.Words.{fragment_words, fragments_of, laid_items, counts_at}
use Rattle.plan.specs.Channel.{width, keeps_inval}
use Rattle.plan.specs.Columns.{SrcGroup, Column, Signal, no_signal, signal_data, size_of_signal}
use Rattle.work_words.specs.PlanWords.{signal_word, column_words, columns_words, fragments_in, signal_fragments, laid_plan}
use Rattle.work_words.specs.CopyWords.{placed_words, laid_copies}
use Rattle.plan.specs.Data.{is_nonempty, records_in}
use Rattle.plan.specs.Layout.{column_width, column_blocks, Placed, Layout}
use Rattle.result.specs.Payload.{records_of, column_payloads}
use Rattle.result.specs.Fill.{data_kind, payload_blocks, sd_blocks, data_blocks}
use Rattle.result.specs.Ordered.{Ordered}
use Rattle.result.specs.Result.{Args, Decided}
use Rattle.result.specs.Guarantee.{In, here, there, columns_placed}
use Rattle.chains.specs.KeptLaws.{length-words, words_append, words_back}
use Rattle.payload_laws.specs.ColumnLaws.{Ready, ready}
use Rattle.payload_laws.specs.BoundLaws.{fragments_small}
use Rattle.shown_laws.specs.ColumnShown.{blocks_at}
use Rattle.guarantee.specs.Theorem.{sized}
use Rattle.plan_laws.specs.Lists.{occurs}
use Rattle.plan_laws.specs.WalkLaws.{item_addresses, walk-sound}
use Rattle.plan_laws.specs.SourceLaws.{Origin}
use Rattle.plan_laws.specs.Known.{Known}
use Rattle.planning.specs.Stage.{Stand}
use Rattle.planning.specs.TimeWordLaws.{stand-rest, laid-stand, blit_among}
use Rattle.planning.specs.ReadBackLaws.{Words, groups_counted, laid-items, few-items}
use Rattle.writing.specs.declared.own.Own.{Own}
use Rattle.writing.specs.declared.data.Entry.{Entry}
use Rattle.places.specs.Stretch.{number_in}
use Rattle.writing.specs.Own.{own_in, own_words, own_groups}
use Rattle.writing.specs.FoundLaws.{laid-part, own_of, own-found, groups_found, fragments_found, Found, dg-found, number_same, groups_once}
use Rattle.writing.specs.Data.{entry_in, entry_records, entry_payloads, entry_blocks, signal_words, entry_signal, data_from, EntryReady, DataReady}

-- ---- the words hold a group's DG
pub record HeldGroup (w : List ℕ) (n : ℕ) (fs : List ℕ) (nf : ℕ) (g : SrcGroup) : Type 0 where
  pub groups : own_groups w (own_in w n nf g.data_group.at) ≡ addresses g.data_group.groups
  pub fragments : fragments_of (own_words fs (own_in w n nf g.data_group.at)) ≡ g.data_group.fragments
  pub number : number_in g.at (addresses g.data_group.groups) ≡ g.number
  pub within : g.number < length (addresses g.data_group.groups)

-- and its column is as planned and checked
pub record HeldColumn (s w : List ℕ) (n : ℕ) (fs : List ℕ) (nf : ℕ) (c : Column) : Type 0 where
  pub group : HeldGroup w n fs nf c.group
  pub ready : Ready s c
  pub small : is_nonempty s c ≡ true → size_of c.group.data_group.fragments ≤ most64
  pub checked : is_nonempty s c ≡ true
      → records_in s c.group.data_group.at (addresses c.group.data_group.groups) c.group.data_group.fragments ≡ fine

-- what an entry says of a placed column; so many fragments are kept before its own
record EntryOf (e : Entry) (before : ℕ) (p : Placed) : Type 0 where
  channel : e.channel ≡ p.column.channel
  group : e.group ≡ p.column.group.at
  parent : e.parent ≡ p.column.group.data_group.at
  records : e.records ≡ p.column.group.records
  signal : e.signal ≡ signal_word before p.column.signal_of
  pieces : e.pieces ≡ size_of_signal p.column.signal_of
  first : e.first ≡ p.first
  sd : e.sd ≡ p.sd

nonempty : (s : List ℕ) (c : Column) → 0 < width s c.group.at c.channel → 0 < c.group.records → is_nonempty s c ≡ true
unfolding is_nonempty
nonempty s c a b = rw (lt-ltb _ _ a, lt-ltb _ _ b)

module _ {s w : List ℕ} {n : ℕ} {fs : List ℕ} {nf : ℕ} {e : Entry} {before : ℕ} {p : Placed} (v : EntryOf e before p)
    (h : HeldColumn s w n fs nf p.column) where
  records_same_lem : entry_records s w n fs nf e ≡ records_of s p.column.group
  unfolding entry_records records_of
  records_same_lem = rw (v.parent, v.group, h.group.groups, h.group.fragments, h.group.number)

  blocks-same : (size : ℕ) → entry_blocks s size w n fs nf e
      ≡ payload_blocks (data_kind (keeps_inval s p.column.group.at p.column.channel)) p.first (column_payloads s size p.column)
  unfolding entry_blocks entry_payloads column_payloads column_blocks column_width
  blocks-same size = rw (records_same_lem, v.group, v.channel, v.records, v.first)

  some_of : 0 < width s e.group e.channel → 0 < e.records → is_nonempty s p.column ≡ true
  some_of a b = nonempty s p.column (rw (v.group, v.channel) at a) (rw v.records at b)

  entry-held : ((e.signal ≢ 0) → 3 * (e.signal - 1) + 3 * e.pieces ≤ length fs) → EntryReady s w n fs nf e
  entry-held g =
      record {
        fit = rw (v.group, v.channel) h.ready.fit;
        kept = rw v.group h.ready.kept;
        listed = rw (v.parent, v.group, h.group.groups, h.group.number) h.group.within;
        checked = λ a b. rw (v.parent, h.group.groups, h.group.fragments) (h.checked (some_of a b));
        counted = λ a b. rw (records_same_lem, v.records) (h.ready.read (some_of a b)).many;
        small = λ a b. rw (v.parent, h.group.fragments) (h.small (some_of a b));
        long = λ a b. rw (records_same_lem, v.group) ((h.ready.read (some_of a b)).long h.ready.kept);
        signal = g;
      }

-- ---- signal data
module _ (s l : List ℕ) (before after : List Fragment) where
  signal_words_lem : (gs : List Fragment) (e : Entry) → 3 * length (before ++ (gs ++ after)) ≤ length l → e.signal ≡ length before + 1
      → e.pieces ≡ length gs → signal_words (blit 0 (fragment_words (before ++ (gs ++ after))) l) e ≡ fragment_words gs
  unfolding signal_words
  signal_words_lem gs e h x y =
      let f : fragment_words (before ++ (gs ++ after)) ≡ fragment_words before ++ (fragment_words gs ++ fragment_words after) =
      words_append before (gs ++ after) ∙ rw (words_append gs after) in
      let lb = length-words before in
      let lg = length-words gs in
      let a : 3 * (e.signal - 1) ≡ 0 + length (fragment_words before) = omega arith in
      let b : 3 * (e.signal - 1) + 3 * e.pieces - 3 * (e.signal - 1) ≡ length (fragment_words gs) = omega arith in
      let room : 0 + length (fragment_words before ++ (fragment_words gs ++ fragment_words after)) ≤ length l =
      rw (← f) (let q = length-words (before ++ (gs ++ after)) in omega arith) in
      rw (b, a, f) (laid-part 0 (fragment_words before) (fragment_words gs) (fragment_words after) l room)

  signal_same : (g : Signal) (e : Entry) (sd : ℕ) → 3 * length (before ++ (fragments_in g ++ after)) ≤ length l
      → e.signal ≡ signal_word (length before) g → e.pieces ≡ size_of_signal g → e.sd ≡ sd
      → entry_signal s (blit 0 (fragment_words (before ++ (fragments_in g ++ after))) l) e ≡ sd_blocks s g sd
  unfolding entry_signal
  signal_same no_signal e sd h x y z = sym (eq_yes _ _ _ _ x refl)
  signal_same (signal_data gs) e sd h x y z =
      sym (eq_no _ _ _ _ (λ q. omega (arith, x, q)) (sym (rw (signal_words_lem gs e h x y, words_back gs, z))))

  signal_fits : (g : Signal) (e : Entry) → 3 * length (before ++ (fragments_in g ++ after)) ≤ length l
      → e.signal ≡ signal_word (length before) g → e.pieces ≡ size_of_signal g
      → (e.signal ≢ 0) → 3 * (e.signal - 1) + 3 * e.pieces ≤ length (blit 0 (fragment_words (before ++ (fragments_in g ++ after))) l)
  signal_fits no_signal e h x y z = absurd (z x)
  signal_fits (signal_data gs) e h x y z =
      let a = length-append before (gs ++ after) in
      let b = length-append gs after in
      rw length-blit (omega arith)

  signal_pieces : (g : Signal) (e : Entry) → 3 * length (before ++ (fragments_in g ++ after)) ≤ length l
      → e.signal ≡ signal_word (length before) g → e.pieces ≡ size_of_signal g
      → (e.signal ≢ 0) → fragments_of (signal_words (blit 0 (fragment_words (before ++ (fragments_in g ++ after))) l) e) ≡ fragments_in g
  signal_pieces no_signal e h x y z = absurd (z x)
  signal_pieces (signal_data gs) e h x y z = rw (signal_words_lem gs e h x y) (words_back gs)

size_is : (g : Signal) → size_of_signal g ≡ length (fragments_in g)
size_is no_signal = refl
size_is (signal_data fs) = refl

-- ---- placed columns that stand in words from number k on
pub record Places (m : List ℕ) (k : ℕ) (ps : List Placed) : Type 0 where
  pub at : (j : ℕ) → j < 3 * length ps → slice_index m (6656 + 3 * k + j) ≡ slice_index (placed_words ps) j

length-placed : (ps : List Placed) → length (placed_words ps) ≡ 3 * length ps
unfolding placed_words
length-placed [] = refl
length-placed (p ∷ ps) = let h = length-placed ps in omega arith

pub laid_places : (l : Layout) (m : List ℕ) → length l.placed ≤ 512 → 8192 ≤ length m → Places (laid_copies l m) 0 l.placed
unfolding laid_copies
laid_places l m h k =
    record {
      at = λ j r.
          let e : 6656 + 3 * 0 + j ≡ 6656 + j = omega arith in
          let a = length-placed l.placed in
          rw e (blit_among (placed_words l.placed) 6656 j _ (omega arith) (rw (length-blit, length-blit, length-blit) (omega arith)));
    }

module _ (m : List ℕ) (k : ℕ) (p : Placed) (ps : List Placed) (h : Places m k (p ∷ ps)) where
  places_first : slice_index_or m (6656 + 3 * k + 1) 0 ≡ p.first
  unfolding placed_words
  places_first = h.at 1 (omega arith)

  places_sd : slice_index_or m (6656 + 3 * k + 2) 0 ≡ p.sd
  unfolding placed_words
  places_sd = h.at 2 (omega arith)

  places_rest : Places m (k + 1) ps
  unfolding placed_words
  places_rest = record {
    at = λ j l. let e : 6656 + 3 * (k + 1) + j ≡ 6656 + 3 * k + (3 + j) = omega arith in
        let f : 3 + j ≡ suc (suc (suc j)) = omega arith in
        rw e (h.at (3 + j) (omega arith) ∙ rw f);
  }

entry_of : (cs m : List ℕ) (k before : ℕ) (p : Placed) (qs : List Column) (ps : List Placed) → Stand cs before k (p.column ∷ qs) → Places m k (p ∷ ps)
    → EntryOf (entry_in cs m k) before p
unfolding entry_in columns_words column_words
entry_of cs m k before p qs ps c h =
    record {
      channel = rw (add-zero (8 * k)) at (c.at 0 (omega arith));
      group = c.at 1 (omega arith);
      parent = c.at 2 (omega arith);
      records = c.at 3 (omega arith);
      signal = c.at 6 (omega arith);
      pieces = c.at 7 (omega arith);
      first = places_first m k p ps h;
      sd = places_sd m k p ps h;
    }

-- a column of the words is one of those placed
pub record SameColumn (s : List ℕ) (size : ℕ) (w : List ℕ) (n : ℕ) (fs : List ℕ) (nf : ℕ) (e : Entry) (ps : List Placed) : Type 0 where
  pub placed : Placed
  pub one : In placed ps
  pub first : e.first ≡ placed.first
  pub sd : e.sd ≡ placed.sd
  pub blocks : entry_blocks s size w n fs nf e ≡ blocks_at s size placed
  pub signal : entry_signal s fs e ≡ sd_blocks s placed.column.signal_of placed.sd
  pub pieces : (e.signal ≢ 0) → fragments_of (signal_words fs e) ≡ fragments_in placed.column.signal_of

same-later : {s : List ℕ} {size : ℕ} {w : List ℕ} {n : ℕ} {fs : List ℕ} {nf : ℕ} {e : Entry} {p : Placed} {ps : List Placed}
    → SameColumn s size w n fs nf e ps → SameColumn s size w n fs nf e (p ∷ ps)
same-later c = record { placed = c.placed; one = there c.one; first = c.first; sd = c.sd; blocks = c.blocks; signal = c.signal; pieces = c.pieces }

-- ---- all columns
record AllSame (s : List ℕ) (size : ℕ) (w : List ℕ) (n : ℕ) (fs : List ℕ) (nf : ℕ) (cs m : List ℕ) (k : ℕ) (ps : List Placed) : Type 0 where
  blocks : data_from s size w n fs nf cs m k (length ps) ≡ data_blocks s size ps
  entries : (i : ℕ) → k ≤ i → i < k + length ps → EntryReady s w n fs nf (entry_in cs m i)
  columns : (i : ℕ) → k ≤ i → i < k + length ps → SameColumn s size w n fs nf (entry_in cs m i) ps

module _ (s : List ℕ) (size : ℕ) (w : List ℕ) (n nf : ℕ) (cs m l : List ℕ) where
  all_same : (k : ℕ) (before : List Fragment) (ps : List Placed) (fs : List ℕ)
      → fs ≡ blit 0 (fragment_words (before ++ signal_fragments (columns_placed ps))) l
      → 3 * length (before ++ signal_fragments (columns_placed ps)) ≤ length l
      → Stand cs (length before) k (columns_placed ps) → Places m k ps
      → ((c : Column) → In c (columns_placed ps) → HeldColumn s w n fs nf c)
      → AllSame s size w n fs nf cs m k ps
  unfolding data_from data_blocks columns_placed signal_fragments
  all_same k before [] fs e h c q g = record { blocks = refl; entries = λ i a b. absurd (omega arith); columns = λ i a b. absurd (omega arith) }
  all_same k before (p ∷ ps) fs e h c q g =
      let sig : Signal = p.column.signal_of in
      let after : List Fragment = signal_fragments (columns_placed ps) in
      let v = entry_of cs m k (length before) p (columns_placed ps) ps c q in
      let u = g p.column here in
      let mv : before ++ (fragments_in sig ++ after) ≡ (before ++ fragments_in sig) ++ after = sym (append_assoc before (fragments_in sig) after) in
      let ln : length before + size_of_signal sig ≡ length (before ++ fragments_in sig) =
      let z = size_is sig in let y = length-append before (fragments_in sig) in omega arith in
      let r = all_same (k + 1) (before ++ fragments_in sig) ps fs (rw (← mv) e) (rw (← mv) h)
      (rw (← ln) (stand-rest cs (length before) k p.column (columns_placed ps) c)) (places_rest m k p ps q) (λ x i. g x (there i)) in
      let si : entry_signal s fs (entry_in cs m k) ≡ sd_blocks s sig p.sd =
      rw e (signal_same s l before after sig (entry_in cs m k) p.sd h v.signal v.pieces v.sd) in
      let fi : ((entry_in cs m k).signal ≢ 0) → 3 * ((entry_in cs m k).signal - 1) + 3 * (entry_in cs m k).pieces ≤ length fs =
      rw e (signal_fits s l before after sig (entry_in cs m k) h v.signal v.pieces) in
      let pc : ((entry_in cs m k).signal ≢ 0) → fragments_of (signal_words fs (entry_in cs m k)) ≡ fragments_in sig =
      rw e (signal_pieces s l before after sig (entry_in cs m k) h v.signal v.pieces) in
      record {
        blocks = rw (blocks-same v u size, si, r.blocks);
        entries = λ i a b. ⊎_elim
            (λ (x : k ≡ i). rw (← x) (entry-held v u fi))
            (λ (x : k < i). r.entries i (omega arith) (omega arith))
            (eq-or-lt_of_le a);
        columns = λ i a b. ⊎_elim
            (λ (x : k ≡ i). rw (← x) (record { placed = p; one = here; first = v.first; sd = v.sd; blocks = blocks-same v u size; signal = si; pieces = pc }))
            (λ (x : k < i). same-later (r.columns i (omega arith) (omega arith)))
            (eq-or-lt_of_le a);
      }

length-columns : (ps : List Placed) → length (columns_placed ps) ≡ length ps
unfolding columns_placed
length-columns [] = refl
length-columns (p ∷ ps) = ap suc (length-columns ps)

-- ---- for all that was decided for a call
module _ (x : Args) (d : Decided) (k : Known x d) (src₀ f₀ w₀ m₀ : List ℕ) (long_source : 8192 ≤ length src₀) (long_words : 8192 ≤ length w₀)
    (long_memo : 8192 ≤ length m₀)
    (long_fragments : 3 * length (k.steps.source.fragments ++ signal_fragments d.planned.columns) ≤ length f₀)
    (same : columns_placed d.laid_out.placed ≡ d.planned.columns) where
  abbrev source_words : List ℕ
  source_words = blit counts_at k.steps.numbers (laid_items k.steps.source.items src₀)

  abbrev fragments_all : List ℕ
  fragments_all = blit 0 (fragment_words (k.steps.source.fragments ++ signal_fragments d.planned.columns)) f₀

  abbrev columns_all : List ℕ
  columns_all = laid_plan (length k.steps.source.fragments) d.planned w₀

  abbrev memo_all : List ℕ
  memo_all = laid_copies d.laid_out m₀

  items-few : length k.steps.source.items ≤ 1536
  items-few =
      let z = walk-sound x.image k.steps.source k.steps.walked in
      few-items k.steps.source.items z.few_dg z.few_cg z.few_cn

  counts-few : length k.steps.numbers ≤ 512
  unfolding data_groups
  counts-few =
      let z = walk-sound x.image k.steps.source k.steps.walked in
      omega (arith, z.few_cg, k.groups.as_many, groups_counted k.steps.source.fragments k.steps.source.items)

  words-laid : Words source_words 0 k.steps.source.items
  words-laid =
      let z = walk-sound x.image k.steps.source k.steps.walked in
      laid-items k.steps.source.items k.steps.numbers src₀ (omega arith) items-few z.few_cg counts-few

  module _ (g : SrcGroup) (o : Origin x.image (data_groups k.steps.source) g)
      (f : Found k.steps.source.fragments k.steps.source.items g.data_group) where
    once_all : (a : ℕ) → occurs a (item_addresses (f.before ++ (dg g.data_group.at f.count ∷ f.past))) ≤ 1
    once_all a = rw f.all ((walk-sound x.image k.steps.source k.steps.walked).once a)

    own_is : own_in source_words (length k.steps.source.items) (length k.steps.source.fragments) g.data_group.at
        ≡ own_of (length k.steps.source.fragments) f.count f.before f.past
    own_is =
        own-found source_words (length k.steps.source.items) (length k.steps.source.fragments) g.data_group.at f.count f.before f.past
        (ap length (sym f.all)) items-few (subst (Words source_words 0) (sym f.all) words-laid) (once_all g.data_group.at)

    group-held : HeldGroup source_words (length k.steps.source.items) fragments_all (length k.steps.source.fragments) g
    group-held =
        let nf : ℕ = length k.steps.source.fragments in
        let few : tally level_cg.own (f.before ++ (dg g.data_group.at f.count ∷ f.past)) ≤ 512 =
        rw f.all (walk-sound x.image k.steps.source k.steps.walked).few_cg in
        let gf = groups_found nf g.data_group.at f.count f.before f.past k.steps.numbers src₀ few (omega arith) in
        let gg = subst (λ (is : List Item). own_groups (blit counts_at k.steps.numbers (laid_items is src₀)) (own_of nf f.count f.before f.past)
        ≡ addresses (groups_of f.past)) f.all gf in
        record {
          groups = ap (own_groups source_words) own_is ∙ gg ∙ ap addresses f.groups;
          fragments = ap (λ (y : Own). fragments_of (own_words fragments_all y)) own_is
              ∙ fragments_found f.count f.before f.past k.steps.source.fragments (signal_fragments d.planned.columns) f₀ long_fragments
              ∙ f.fragments;
          number = number_same g.at g.number (addresses g.data_group.groups) o.numbered o.place
              (rw (← f.groups) (groups_once g.at g.data_group.at f.count f.before f.past (once_all g.at)));
          within = o.numbered;
        }

  held-group : (g : SrcGroup) → In g d.groups
      → HeldGroup source_words (length k.steps.source.items) fragments_all (length k.steps.source.fragments) g
  unfolding data_groups
  held-group g i =
      let o = k.groups.origins g i in
      group-held g o (dg-found k.steps.source.fragments k.steps.source.items g.data_group o.data_group_in)

  held-column : (c : Column) → In c d.planned.columns
      → HeldColumn x.image source_words (length k.steps.source.items) fragments_all (length k.steps.source.fragments) c
  held-column c i =
      record {
        group = held-group c.group (k.source c i).0;
        ready = ready x.image (data_groups k.steps.source) d.planned.columns k.steps.counted k.steps.data_fine c i
            (subst (In c.group) k.steps.groups (k.source c i).0) (k.fitting c i) (k.source c i).1;
        small = λ q.
            let z = sized x d k c i in
            omega (arith, fragments_small x.image c.group.data_group.fragments (z.ready.read q).ranges k.steps.image_length z.few);
        checked = k.records_fine c i;
      }

  as_many_lem : length d.laid_out.placed ≡ length d.planned.columns
  as_many_lem = sym (length-columns d.laid_out.placed) ∙ ap length same

  all : AllSame x.image x.block_size source_words (length k.steps.source.items) fragments_all (length k.steps.source.fragments) columns_all
      memo_all 0 d.laid_out.placed
  all =
      let few = k.few_columns in
      let am = as_many_lem in
      all_same x.image x.block_size source_words (length k.steps.source.items) (length k.steps.source.fragments) columns_all memo_all f₀
      0 k.steps.source.fragments d.laid_out.placed fragments_all (rw same) (rw same long_fragments)
      (rw same (laid-stand (length k.steps.source.fragments) d.planned w₀ few (omega arith)))
      (laid_places d.laid_out m₀ (omega arith) long_memo) (rw same held-column)

  -- what the words give is what the result has
  pub data_blocks_lem : data_from x.image x.block_size source_words (length k.steps.source.items) fragments_all
      (length k.steps.source.fragments) columns_all memo_all 0 (length d.planned.columns)
      ≡ data_blocks x.image x.block_size d.laid_out.placed
  data_blocks_lem = rw (← as_many_lem) all.blocks

  pub data_ready : (at room : ℕ) → Ordered at (data_blocks x.image x.block_size d.laid_out.placed) room
      → DataReady x.image x.block_size source_words (length k.steps.source.items) fragments_all (length k.steps.source.fragments) columns_all
      memo_all (length d.planned.columns) at room
  unfolding laid_items laid_plan laid_copies
  data_ready at room o =
      let few = k.few_columns in
      let am = as_many_lem in
      let la = length-append k.steps.source.fragments (signal_fragments d.planned.columns) in
      record {
        tables = record {
          source = rw (length-blit, length-blit, length-blit, length-blit) long_source;
          fragments = rw length-blit (omega arith);
        };
        columns = rw (length-blit, length-blit) (omega arith);
        places = rw (length-blit, length-blit, length-blit, length-blit) (omega arith);
        entries = λ i h. all.entries i (omega arith) (omega arith);
        ordered = rw data_blocks_lem o;
      }

  pub data_columns : (i : ℕ) → i < length d.planned.columns
      → SameColumn x.image x.block_size source_words (length k.steps.source.items) fragments_all (length k.steps.source.fragments)
      (entry_in columns_all memo_all i) d.laid_out.placed
  data_columns i h = let am = as_many_lem in all.columns i (omega arith) (omega arith)
