-- What was decided and stands in the words gives each part of the file its blocks and its room.
use Rattle.std.specs.Prelude.{◌≡◌, ℕ, zero, suc, ◌+◌, ◌-◌, ◌*◌, ◌<◌, ◌≤◌, Bool, List, [], ◌∷◌, ◌++◌, length, take, drop, replicate, slice_index}
use Rattle.std.proofs.Common.{append-nil, append_assoc, sym, subst, ◌∙◌, arith, length-append, drop-cons, length-take-le}
use Rattle.std.proofs.Math.Path.{refl, ap}
use Rattle.base.specs.Blit.{part, blit}
use Rattle.base.specs.BlitLaws.{length-blit}
use Rattle.base.specs.Choice.{if_eq}
use Rattle.base.specs.ChoiceLaws.{eq_yes, eq_no}
use Rattle.base.specs.Checked.{Checked}
use Rattle.mdf.specs.Block.{link_at}
use Rattle.mdf.specs.Chain.{Fragment}
use Rattle.mdf.specs.Walk.{Source}
use Rattle.mdf.specs.Group.{data_groups}
use Rattle.mdf.specs.Count.{counts}
use Rattle.work_words.specs.Words.{counts_at, laid_items, fragment_words}
use Rattle.plan.specs.Photos.{photos_of}
use Rattle.plan.specs.Columns.{Column, Plan}
use Rattle.result.specs.Guarantee.{In}
use Rattle.work_words.specs.PlanWords.{signal_fragments, laid_plan}
use Rattle.base.specs.CheckedLaws.{ok_same}
use Rattle.plan_laws.specs.ColumnLaws.{signals_of}
use Rattle.planning.specs.HeldLaws.{size_is}
use Rattle.writing.specs.Data.{entry_in, data_from, DataReady}
use Rattle.writing.specs.DataReadyLaws.{SameColumn, data_blocks_lem, data_ready, data_columns}
use Rattle.chains.specs.KeptLaws.{length-words}
use Rattle.writing.specs.FragmentsLaws.{take-blit}
use Rattle.writing.specs.Answer.{file_for}
use Rattle.plan.specs.Copies.{Copy, Attachment}
use Rattle.work_words.specs.CopyWords.{history_at, laid_copies}
use Rattle.plan.specs.Layout.{Layout, Placed, past_copies}
use Rattle.copier.specs.Standing.{copies_in}
use Rattle.result.specs.Fill.{Block, block, new_link, copied_blocks, md_bytes, fh_bytes, hd_bytes, next_dg, structure_blocks, data_blocks, next_attachment, attachment_blocks}
use Rattle.result.specs.Ordered.{Ordered}
use Rattle.result.specs.Result.{Args, Decided, decided, memo_of, first_fh, hd_block, blocks_of, flat, file_of, rules_of}
use Rattle.copies_laws.specs.Laid.{Laid}
use Rattle.copies_laws.specs.LengthLaws.{length-hd}
use Rattle.copies_laws.specs.AttachLaws.{LaidAt, own_copies}
use Rattle.copies_laws.specs.LayoutLaws.{LaidOut, columns-placed}
use Rattle.plan_laws.specs.Known.{Known, decided-known}
use Rattle.guarantee.specs.Theorem.{o, in_image, ordered}
use Rattle.placing.specs.declared.layout.Numbers as numbers
use Rattle.writing.specs.PlacedIn.{placed_one, placed_in}
use Rattle.writing.specs.PlacedInLaws.{length-placed, next_in, structure_in_lem, structure_ready}
use Rattle.writing.specs.Structure.{on_table, StructureReady}
use Rattle.writing.specs.StructureLaws.{by_table}
use Rattle.window_copies.specs.Attachments.{attachments_in, NextPlace}
use Rattle.write_copies.specs.LaidWords.{Numbers}
use Rattle.write_copies.specs.LaidWordsLaws.{copies_order, attachments-few, history-blocks, columns-blocks, attachments-blocks, copies_read, chain_read, attachments_read}
use Rattle.write_copies.specs.RoomLaws.{laid-ordered, laid_at_ordered}
use Rattle.writing.specs.LaidWordsLaws.{worded, history-room, columns-room, attachments-room}
use Rattle.write_copies.specs.Wrote.{end_of, Wrote}
use Rattle.write_copies.specs.WroteLaws.{ordered_end, ordered-first}
use Rattle.write_copies.specs.Begun.{Begun}
use Rattle.write_copies.specs.BegunLaws.{begun-none, begun-room, begun-next, begun_all}
use Rattle.writing.specs.Finish.{Stands}

-- ---- the first links of the HD
pub first-column : (ph : Bool) (s columns memo : List ℕ) (n : ℕ) → if_eq n 0 0 (slice_index memo 6656) ≡ next_dg (placed_in ph s columns memo 0 n)
unfolding placed_in placed_one
first-column ph s columns memo zero = sym (eq_yes _ _ _ _ refl refl)
first-column ph s columns memo (suc n) = sym (eq_no _ _ _ _ (λ e. omega (arith, e)) refl)

pub first-history : (m : List Copy) (w : List ℕ) (chain fh : ℕ) → 8192 ≤ length w
    → if_eq chain 0 fh (new_link m (slice_index w 4352)) ≡ first_fh m (part history_at chain w) fh
unfolding part
first-history m w zero fh h = sym (eq_yes _ _ _ _ refl refl)
first-history m w (suc k) fh h = rw (drop-cons w 4352 0 (omega arith)) (sym (eq_no _ _ _ _ (λ e. omega (arith, e)) refl))

pub first-attachment : (w : List ℕ) (k count r : ℕ) → NextPlace w 0 count r → r ≡ next_attachment (attachments_in w k count)
first-attachment w k count r h =
    let e : 4100 + 3 * 0 ≡ 4100 = omega arith in
    let f : count - 0 ≡ count = omega arith in
    h.is k ∙ rw (e, f)

-- ---- equal numbers and words
new_eq : (text : List ℕ) (time : ℕ) {a b c d : ℕ} → a ≡ c → b ≡ d
    → block a (md_bytes text) ∷ block b (fh_bytes a time) ∷ [] ≡ block c (md_bytes text) ∷ block d (fh_bytes c time) ∷ []
new_eq text time e f = rw (e, f)

front_eq : (s ident : List ℕ) {a b c d a' b' c' d' : ℕ} → a ≡ a' → b ≡ b' → c ≡ c' → d ≡ d'
    → block 0 ident ∷ block 64 (hd_bytes s a b c d) ∷ [] ≡ block 0 ident ∷ block 64 (hd_bytes s a' b' c' d') ∷ []
front_eq s ident e f g h = rw (e, f, g, h)

source_eq : {ns ns' : List ℕ} {st st' : Source} (w : List ℕ) → ns ≡ ns' → st ≡ st'
    → blit counts_at ns (laid_items st.items w) ≡ blit counts_at ns' (laid_items st'.items w)
source_eq w e f = rw (e, f)

fragments_eq : {st st' : Source} (fs : List Fragment) (w : List ℕ) → st ≡ st'
    → blit 0 (fragment_words (st.fragments ++ fs)) w ≡ blit 0 (fragment_words (st'.fragments ++ fs)) w
fragments_eq fs w e = rw e

plan_eq : {st st' : Source} (p : Plan) (w : List ℕ) → st ≡ st' → laid_plan (length st.fragments) p w ≡ laid_plan (length st'.fragments) p w
plan_eq p w e = rw e

data_eq : (s : List ℕ) (size : ℕ) {v v' f f' w w' m m' : List ℕ} {i i' p p' k k' : ℕ} → v ≡ v' → i ≡ i' → f ≡ f' → p ≡ p' → w ≡ w' → m ≡ m' → k ≡ k'
    → data_from s size v i f p w m 0 k ≡ data_from s size v' i' f' p' w' m' 0 k'
data_eq s size a b c d e f g = rw (a, b, c, d, e, f, g)

ready_eq : (s : List ℕ) (size at room : ℕ) {v v' f f' w w' m m' : List ℕ} {i i' p p' k k' : ℕ} → v ≡ v' → i ≡ i' → f ≡ f' → p ≡ p' → w ≡ w' → m ≡ m' → k ≡ k'
    → DataReady s size v' i' f' p' w' m' k' at room → DataReady s size v i f p w m k at room
ready_eq s size at room a b c d e f g h = rw (a, b, c, d, e, f, g) h

column_eq : (s : List ℕ) (size j : ℕ) (ps : List Placed) {v v' f f' w w' m m' : List ℕ} {i i' p p' : ℕ} → v ≡ v' → i ≡ i' → f ≡ f' → p ≡ p' → w ≡ w' → m ≡ m'
    → SameColumn s size v' i' f' p' (entry_in w' m' j) ps → SameColumn s size v i f p (entry_in w m j) ps
column_eq s size j ps a b c d e f h = rw (a, b, c, d, e, f) h

signals_length : (cs : List Column) → length (signal_fragments cs) ≡ signals_of cs
unfolding signal_fragments signals_of
signals_length [] = refl
signals_length (c ∷ cs) = let r = signals_length cs in simp length-append (rw (← (size_is c.signal_of), r))

-- ---- the parts of the file
module _ {x : Args} {items pieces columns omitted : ℕ} {n : numbers.Numbers} {v f w m : List ℕ} (st : Stands x items pieces columns omitted n v f w m) where
  abbrev pub s : List ℕ
  s = x.image

  abbrev pub d : Decided
  d = st.by.told

  abbrev pub l : Layout
  l = d.laid_out

  abbrev pub known : Known x d
  known = decided-known x d st.by.is

  abbrev pub laid : LaidOut (rules_of x) s x.block_size (length x.text) d.planned.columns l
  laid = o x d known

  pub counted : Numbers l n.copies n.history n.metadata n.chain n.attachments
  counted =
      let z = st.by.numbered in
      record { all = z.copies; first = z.history; next = z.metadata; blocks = z.chain; moved = z.attachments }

  -- the seven parts
  abbrev pub part_front : List Block
  part_front = block 0 x.ident ∷ hd_block s l ∷ []

  abbrev pub part_history : List Block
  part_history = copied_blocks s l.past.chain (memo_of l) l.fh l.past.made.memo

  abbrev pub part_new : List Block
  part_new = block l.md (md_bytes x.text) ∷ block l.fh (fh_bytes l.md x.time) ∷ []

  abbrev pub part_columns : List Block
  part_columns = copied_blocks s l.past.chain (memo_of l) l.fh (drop (length l.past.made.memo) l.metadata.memo)

  abbrev pub part_structure : List Block
  part_structure = structure_blocks (rules_of x) s x.block_size (memo_of l) l.attached.attachments l.placed l.placed

  abbrev pub part_data : List Block
  part_data = data_blocks s x.block_size l.placed

  abbrev pub part_attached : List Block
  part_attached = attachment_blocks s l.past.chain (memo_of l) l.fh l.attached.attachments

  pub whole : blocks_of x l ≡ part_front ++ (part_history ++ (part_new ++ (part_columns ++ (part_structure ++ (part_data ++ part_attached)))))
  unfolding blocks_of
  whole = refl

  pub all-ordered : Ordered 0 (part_front ++ (part_history ++ (part_new ++ (part_columns ++ (part_structure ++ (part_data ++ part_attached)))))) l.file_size_lem
  all-ordered = subst (λ (bs : List Block). Ordered 0 bs l.file_size_lem) whole (ordered x d known)

  -- ---- what the words give
  pub long : 8192 ≤ length m
  unfolding laid_copies
  long = let h = st.by.long_d in let e : length m ≡ length st.d = ap length st.by.numbered.words ∙ rw (length-blit, length-blit, length-blit, length-blit) in omega (arith, h, e)

  pub memo_is : copies_in m n.copies ≡ memo_of l
  memo_is = ap (λ (k : ℕ). copies_in m k) counted.all ∙ copies_read (worded laid) st.d m st.by.long_d st.by.numbered.words

  chain_is : part history_at n.chain m ≡ l.past.chain
  chain_is = ap (λ (k : ℕ). part history_at k m) counted.blocks ∙ chain_read (worded laid) st.d m st.by.long_d st.by.numbered.words

  moved_is : attachments_in m n.metadata n.attachments ≡ l.attached.attachments
  moved_is =
      ap (λ (k : ℕ). attachments_in m k n.attachments) counted.next ∙ ap (λ (k : ℕ). attachments_in m (length l.metadata.memo) k) counted.moved
      ∙ attachments_read (worded laid) st.d m st.by.long_d st.by.numbered.words

  referred : (c : Column) → In c d.planned.columns → c.photos ≡ photos_of x.photos s c.channel
  referred c i = (known.planned.sourced c i).refers

  pub number-placed : columns ≡ length l.placed
  number-placed = st.by.columns ∙ sym (ap length (columns-placed laid)) ∙ length-placed l.placed

  pub few-attachments : (n.attachments ≤ 64) × (8192 ≤ length m)
  few-attachments = let q = copies_order (worded laid) counted in (q.4, long)

  -- the HD's links
  pub front_is : {dg fh first comment : ℕ} → dg ≡ if_eq columns 0 0 (slice_index m 6656) → fh ≡ if_eq n.chain 0 n.fh (new_link (copies_in m n.copies) (slice_index m 4352))
      → NextPlace m 0 n.attachments first → comment ≡ new_link (copies_in m n.copies) (link_at s 64 5)
      → block 0 x.ident ∷ block 64 (hd_bytes s dg fh first comment) ∷ [] ≡ part_front
  unfolding hd_block
  front_is {dg} {fh} {first} {comment} a b c e =
      let p : dg ≡ next_dg l.placed =
      a ∙ first-column x.photos s w m columns ∙ ap (λ (k : ℕ). next_dg (placed_in x.photos s w m 0 k)) number-placed
      ∙ next_in x.photos s (length st.by.source.fragments) d.planned l st.c st.d w m st.by.in_columns st.by.numbered.words (columns-placed laid)
      known.few_columns st.by.long_c st.by.long_d referred in
      let q : fh ≡ first_fh (memo_of l) l.past.chain l.fh =
      b ∙ first-history (copies_in m n.copies) m n.chain n.fh long
      ∙ ap (λ (k : List Copy). first_fh k (part history_at n.chain m) n.fh) memo_is ∙ ap (λ (k : List ℕ). first_fh (memo_of l) k n.fh) chain_is
      ∙ ap (first_fh (memo_of l) l.past.chain) st.by.numbered.fh in
      let r : first ≡ next_attachment l.attached.attachments = first-attachment m n.metadata n.attachments first c ∙ ap next_attachment moved_is in
      let t : comment ≡ new_link (memo_of l) (link_at s 64 5) = e ∙ ap (λ (k : List Copy). new_link k (link_at s 64 5)) memo_is in
      front_eq s x.ident p q r t

  -- ---- each part's blocks
  pub history-same : copied_blocks s (part history_at n.chain m) (copies_in m n.copies) n.fh (part 0 (n.history - 0) (copies_in m n.copies)) ≡ part_history
  history-same =
      history-blocks (worded laid) counted st.d m st.by.long_d st.by.numbered.words s n.fh
      ∙ ap (λ (k : ℕ). copied_blocks s l.past.chain (memo_of l) k l.past.made.memo) st.by.numbered.fh

  pub columns-same : copied_blocks s (part history_at n.chain m) (copies_in m n.copies) n.fh (part n.history (n.metadata - n.history) (copies_in m n.copies)) ≡ part_columns
  columns-same =
      columns-blocks (worded laid) counted st.d m st.by.long_d st.by.numbered.words s n.fh
      ∙ ap (λ (k : ℕ). copied_blocks s l.past.chain (memo_of l) k (drop (length l.past.made.memo) l.metadata.memo)) st.by.numbered.fh

  pub attached_same : attachment_blocks s (part history_at n.chain m) (copies_in m n.copies) n.fh (attachments_in m n.metadata n.attachments) ≡ part_attached
  attached_same =
      attachments-blocks (worded laid) counted st.d m st.by.long_d st.by.numbered.words s n.fh
      ∙ ap (λ (k : ℕ). attachment_blocks s l.past.chain (memo_of l) k l.attached.attachments) st.by.numbered.fh

  pub new_same : block n.md (md_bytes x.text) ∷ block n.fh (fh_bytes n.md x.time) ∷ [] ≡ part_new
  new_same = new_eq x.text x.time st.by.numbered.md st.by.numbered.fh

  pub structure-same : structure_blocks (on_table x.table) s x.block_size (copies_in m n.copies) (attachments_in m n.metadata n.attachments) (placed_in x.photos s w m 0 columns) (placed_in x.photos s w m 0 columns) ≡ part_structure
  structure-same =
      ap (λ (k : ℕ). structure_blocks (on_table x.table) s x.block_size (copies_in m n.copies) (attachments_in m n.metadata n.attachments) (placed_in x.photos s w m 0 k) (placed_in x.photos s w m 0 k)) number-placed
      ∙ structure_in_lem x.photos s (length st.by.source.fragments) d.planned l st.c st.d w m st.by.in_columns st.by.numbered.words (columns-placed laid)
      known.few_columns st.by.long_c st.by.long_d referred (on_table x.table) x.block_size (copies_in m n.copies) (attachments_in m n.metadata n.attachments)
      ∙ ap (λ (k : List Copy). structure_blocks (on_table x.table) s x.block_size k (attachments_in m n.metadata n.attachments) l.placed l.placed) memo_is
      ∙ ap (λ (k : List Attachment). structure_blocks (on_table x.table) s x.block_size (memo_of l) k l.placed l.placed) moved_is
      ∙ by_table (rules_of x) s x.block_size (memo_of l) l.attached.attachments l.placed l.placed

  -- the words of reading and planning, by the steps that are known
  source-same : st.by.source ≡ known.steps.source
  source-same = ok_same (sym st.by.walked ∙ known.steps.walked)

  numbers_same : st.by.numbers ≡ known.steps.numbers
  numbers_same = ok_same (sym st.by.counted ∙ ap (λ (z : Source). counts s (data_groups z)) source-same ∙ known.steps.counted)

  words-source : v ≡ blit counts_at known.steps.numbers (laid_items known.steps.source.items st.a)
  words-source = st.by.in_source ∙ source_eq st.a numbers_same source-same

  words_fragments : f ≡ blit 0 (fragment_words (known.steps.source.fragments ++ signal_fragments d.planned.columns)) st.b
  words_fragments = st.by.in_fragments ∙ fragments_eq (signal_fragments d.planned.columns) st.b source-same

  words-columns : w ≡ laid_plan (length known.steps.source.fragments) d.planned st.c
  words-columns = st.by.in_columns ∙ plan_eq d.planned st.c source-same

  number-items : items ≡ length known.steps.source.items
  number-items = st.by.items ∙ ap (λ (z : Source). length z.items) source-same

  number-pieces : pieces ≡ length known.steps.source.fragments
  number-pieces = st.by.fragments ∙ ap (λ (z : Source). length z.fragments) source-same

  few-pieces : 3 * length (known.steps.source.fragments ++ signal_fragments d.planned.columns) ≤ 3072
  few-pieces =
      let p = known.planned in
      let h = length-append known.steps.source.fragments (signal_fragments d.planned.columns) in
      omega (arith, h, signals_length d.planned.columns, p.signals, p.few)

  pub long_fragments_lem : 3072 ≤ length f
  long_fragments_lem = omega (arith, ap length words_fragments, length-blit 0 (fragment_words (known.steps.source.fragments ++ signal_fragments d.planned.columns)) st.b, st.by.long_b)

  -- the words of fragments, copied
  pub kept-long : {kept : List ℕ} → kept ≡ take 3072 f → 3072 ≡ length kept
  kept-long q = sym (ap length q ∙ length-take-le 3072 f long_fragments_lem)

  words-kept : take 3072 f ≡ blit 0 (fragment_words (known.steps.source.fragments ++ signal_fragments d.planned.columns)) (take 3072 st.b)
  words-kept =
      ap (take 3072) words_fragments
      ∙ take-blit (fragment_words (known.steps.source.fragments ++ signal_fragments d.planned.columns)) 0 3072 st.b
      (omega (arith, length-words (known.steps.source.fragments ++ signal_fragments d.planned.columns), few-pieces))

  kept_pieces : 3 * length (known.steps.source.fragments ++ signal_fragments d.planned.columns) ≤ length (take 3072 st.b)
  kept_pieces = omega (arith, few-pieces, length-take-le 3072 st.b (omega (arith, st.by.long_b)))

  pub data_same : data_from s x.block_size v items (take 3072 f) pieces w m 0 columns ≡ part_data
  data_same =
      data_eq s x.block_size words-source number-items words-kept number-pieces words-columns st.by.numbered.words st.by.columns
      ∙ data_blocks_lem x d known st.a (take 3072 st.b) st.c st.d st.by.long_a st.by.long_c st.by.long_d kept_pieces (columns-placed laid)

  pub column-same : (k : ℕ) → k < columns → SameColumn s x.block_size v items (take 3072 f) pieces (entry_in w m k) l.placed
  column-same k h =
      let e = st.by.columns in
      column_eq s x.block_size k l.placed words-source number-items words-kept number-pieces words-columns st.by.numbered.words
      (data_columns x d known st.a (take 3072 st.b) st.c st.d st.by.long_a st.by.long_c st.by.long_d kept_pieces (columns-placed laid) k
      (omega (arith, h, e)))

  -- ---- the columns' blocks, where they are in order
  pub structure_stands : (a e : ℕ) → Ordered a part_structure e
      → StructureReady x.photos (on_table x.table) s x.block_size w m (attachments_in m n.metadata n.attachments) columns n.copies a e
  structure_stands a e r =
      subst (λ (k : ℕ). StructureReady x.photos (on_table x.table) s x.block_size w m (attachments_in m n.metadata n.attachments) k n.copies a e) (sym number-placed)
      (structure_ready x.photos s (length st.by.source.fragments) d.planned l st.c st.d w m st.by.in_columns st.by.numbered.words (columns-placed laid)
      known.few_columns st.by.long_c st.by.long_d referred (attachments_in m n.metadata n.attachments) (in_image x d known)
      (subst (λ (k : List Copy). Ordered a (structure_blocks (on_table x.table) s x.block_size k (attachments_in m n.metadata n.attachments) l.placed l.placed) e) (sym memo_is)
      (subst (λ (k : List Attachment). Ordered a (structure_blocks (on_table x.table) s x.block_size (memo_of l) k l.placed l.placed) e) (sym moved_is)
      (subst (λ (bs : List Block). Ordered a bs e) (sym (by_table (rules_of x) s x.block_size (memo_of l) l.attached.attachments l.placed l.placed)) r))))

  pub data_stands : {kept : List ℕ} → kept ≡ take 3072 f → (a e : ℕ) → Ordered a part_data e → DataReady s x.block_size v items kept pieces w m columns a e
  data_stands q a e r =
      ready_eq s x.block_size a e words-source number-items (q ∙ words-kept) number-pieces words-columns st.by.numbered.words st.by.columns
      (data_ready x d known st.a (take 3072 st.b) st.c st.d st.by.long_a st.by.long_c st.by.long_d kept_pieces (columns-placed laid) a e r)

  -- ---- each part's room and what was written, where the file is begun
  module _ (ys : List Block) {before : List Block} {a : ℕ} {out last : List ℕ} where
    history_asks : Begun before (part_history ++ ys) l.file_size_lem a out last
        → (0 ≤ n.history) × (n.history ≤ n.copies) × (n.copies ≤ 2050) × (8192 ≤ length m)
        × Laid s a (part 0 (n.history - 0) (copies_in m n.copies)) (length last)
    history_asks b =
        let q = copies_order (worded laid) counted in
        let r : Ordered a (copied_blocks s (part history_at n.chain m) (copies_in m n.copies) n.fh (part 0 (n.history - 0) (copies_in m n.copies))) (length last) =
        subst (λ (bs : List Block). Ordered a bs (length last)) (sym history-same) (begun-room part_history ys b) in (
          omega arith,
          omega (arith, q.0, q.1),
          q.2,
          long,
          laid-ordered s 168 a (length last) l.md _ _ _ _ (history-room laid counted st.d m st.by.long_d st.by.numbered.words l.md (omega arith)) r,
        )

    pub history_done : Begun before (part_history ++ ys) l.file_size_lem a out last → {r : ℕ} {next : List ℕ}
        → (0 ≤ n.history → n.history ≤ n.copies → n.copies ≤ 2050 → 8192 ≤ length m
        → Laid s a (part 0 (n.history - 0) (copies_in m n.copies)) (length last)
        → Wrote a (copied_blocks s (part history_at n.chain m) (copies_in m n.copies) n.fh (part 0 (n.history - 0) (copies_in m n.copies))) r last next)
        → Begun (before ++ part_history) ys l.file_size_lem r out next
    history_done b {r} {next} z =
        let q = history_asks b in
        begun-next part_history ys b (subst (λ (bs : List Block). Wrote a bs r last next) history-same (z q.0 q.1 q.2 q.3 q.4))

    columns_asks : Begun before (part_columns ++ ys) l.file_size_lem a out last
        → (n.history ≤ n.metadata) × (n.metadata ≤ n.copies) × (n.copies ≤ 2050) × (8192 ≤ length m)
        × Laid s a (part n.history (n.metadata - n.history) (copies_in m n.copies)) (length last)
    columns_asks b =
        let q = copies_order (worded laid) counted in
        let r : Ordered a (copied_blocks s (part history_at n.chain m) (copies_in m n.copies) n.fh (part n.history (n.metadata - n.history) (copies_in m n.copies))) (length last) =
        subst (λ (bs : List Block). Ordered a bs (length last)) (sym columns-same) (begun-room part_columns ys b) in (
          q.0,
          q.1,
          q.2,
          long,
          laid-ordered s (l.fh + 56) a (length last) (past_copies l.metadata) _ _ _ _
              (columns-room laid counted st.d m st.by.long_d st.by.numbered.words (past_copies l.metadata) (omega arith)) r,
        )

    pub columns_done : Begun before (part_columns ++ ys) l.file_size_lem a out last → {r : ℕ} {next : List ℕ}
        → (n.history ≤ n.metadata → n.metadata ≤ n.copies → n.copies ≤ 2050 → 8192 ≤ length m
        → Laid s a (part n.history (n.metadata - n.history) (copies_in m n.copies)) (length last)
        → Wrote a (copied_blocks s (part history_at n.chain m) (copies_in m n.copies) n.fh (part n.history (n.metadata - n.history) (copies_in m n.copies))) r last next)
        → Begun (before ++ part_columns) ys l.file_size_lem r out next
    columns_done b {r} {next} z =
        let q = columns_asks b in
        begun-next part_columns ys b (subst (λ (bs : List Block). Wrote a bs r last next) columns-same (z q.0 q.1 q.2 q.3 q.4))

    pub new_asks : Begun before (part_new ++ ys) l.file_size_lem a out last
        → Ordered a (block n.md (md_bytes x.text) ∷ block n.fh (fh_bytes n.md x.time) ∷ []) (length last)
    new_asks b = subst (λ (bs : List Block). Ordered a bs (length last)) (sym new_same) (begun-room part_new ys b)

    pub new_done : Begun before (part_new ++ ys) l.file_size_lem a out last → {r : ℕ} {next : List ℕ}
        → Wrote a (block n.md (md_bytes x.text) ∷ block n.fh (fh_bytes n.md x.time) ∷ []) r last next → Begun (before ++ part_new) ys l.file_size_lem r out next
    new_done b {r} {next} z = begun-next part_new ys b (subst (λ (bs : List Block). Wrote a bs r last next) new_same z)

    pub structure_asks : Begun before (part_structure ++ ys) l.file_size_lem a out last
        → StructureReady x.photos (on_table x.table) s x.block_size w m (attachments_in m n.metadata n.attachments) columns n.copies a (length last)
    structure_asks b = structure_stands a (length last) (begun-room part_structure ys b)

    pub structure_done : Begun before (part_structure ++ ys) l.file_size_lem a out last → {r : ℕ} {next : List ℕ}
        → Wrote a (structure_blocks (on_table x.table) s x.block_size (copies_in m n.copies) (attachments_in m n.metadata n.attachments) (placed_in x.photos s w m 0 columns) (placed_in x.photos s w m 0 columns)) r last next
        → Begun (before ++ part_structure) ys l.file_size_lem r out next
    structure_done b {r} {next} z = begun-next part_structure ys b (subst (λ (bs : List Block). Wrote a bs r last next) structure-same z)

    pub data_asks : {kept : List ℕ} → kept ≡ take 3072 f → Begun before (part_data ++ ys) l.file_size_lem a out last
        → DataReady s x.block_size v items kept pieces w m columns a (length last)
    data_asks q b = data_stands q a (length last) (begun-room part_data ys b)

    pub data_done : {kept : List ℕ} → kept ≡ take 3072 f → Begun before (part_data ++ ys) l.file_size_lem a out last → {r : ℕ} {next : List ℕ}
        → Wrote a (data_from s x.block_size v items kept pieces w m 0 columns) r last next → Begun (before ++ part_data) ys l.file_size_lem r out next
    data_done q b {r} {next} z =
        begun-next part_data ys b (subst (λ (bs : List Block). Wrote a bs r last next) (ap (λ (fs : List ℕ). data_from s x.block_size v items fs pieces w m 0 columns) q ∙ data_same) z)

  module _ {before : List Block} {a : ℕ} {out last : List ℕ} where
    ended : Begun before part_attached l.file_size_lem a out last → Begun before (part_attached ++ []) l.file_size_lem a out last
    ended b = subst (λ (bs : List Block). Begun before bs l.file_size_lem a out last) (sym (append-nil part_attached)) b

    attached_asks : Begun before part_attached l.file_size_lem a out last
        → (n.metadata + length (own_copies (attachments_in m n.metadata n.attachments)) ≤ n.copies) × (n.copies ≤ 2050) × (n.attachments ≤ 64) × (8192 ≤ length m)
        × LaidAt s a (attachments_in m n.metadata n.attachments) (length last)
    attached_asks b =
        let q = copies_order (worded laid) counted in
        let r : Ordered a (attachment_blocks s (part history_at n.chain m) (copies_in m n.copies) n.fh (attachments_in m n.metadata n.attachments)) (length last) =
        subst (λ (bs : List Block). Ordered a bs (length last)) (sym attached_same) (begun-room part_attached [] (ended b)) in (
          attachments-few (worded laid) counted st.d m st.by.long_d st.by.numbered.words,
          q.2,
          q.4,
          long,
          laid_at_ordered s _ a (length last) l.file_size_lem _ _ _ _
              (attachments-room laid counted st.d m st.by.long_d st.by.numbered.words l.file_size_lem (omega arith)) r,
        )

    pub attached_done : Begun before part_attached l.file_size_lem a out last → {r : ℕ} {next : List ℕ}
        → (n.metadata + length (own_copies (attachments_in m n.metadata n.attachments)) ≤ n.copies → n.copies ≤ 2050 → n.attachments ≤ 64 → 8192 ≤ length m
        → LaidAt s a (attachments_in m n.metadata n.attachments) (length last)
        → Wrote a (attachment_blocks s (part history_at n.chain m) (copies_in m n.copies) n.fh (attachments_in m n.metadata n.attachments)) r last next)
        → Begun (before ++ part_attached) [] l.file_size_lem r out next
    attached_done b {r} {next} z =
        let q = attached_asks b in
        begun-next part_attached [] (ended b) (subst (λ (bs : List Block). Wrote a bs r last next) attached_same (z q.0 q.1 q.2 q.3 q.4))

  -- ---- the first part and the end
  abbrev pub after_front : List Block
  after_front = part_history ++ (part_new ++ (part_columns ++ (part_structure ++ (part_data ++ part_attached))))

  front_end : end_of 0 part_front ≡ 168
  unfolding end_of hd_block
  front_end =
      let e = length-hd s (next_dg l.placed) (first_fh (memo_of l) l.past.chain l.fh) (next_attachment l.attached.attachments) (new_link (memo_of l) (link_at s 64 5)) in
      omega (arith, e)

  pub front-room : (out : List ℕ) → n.file_size ≤ length out → (length x.ident ≡ 64) × (168 ≤ length out)
  front-room out h =
      let i = known.steps.lent.ident_length in
      let e = st.by.numbered.file_size_lem in
      let r = ordered_end 0 part_front l.file_size_lem (ordered-first 0 part_front after_front l.file_size_lem all-ordered) in
      (i, omega (arith, r.1, front_end, e, h))

  pub front_done : {out next : List ℕ} {r : ℕ} {bs : List Block} → n.file_size ≤ length out → bs ≡ part_front → Wrote 0 bs r out next
      → Begun part_front after_front l.file_size_lem r out next
  front_done {out} {next} {r} h e z =
      let k = st.by.numbered.file_size_lem in
      begun-next part_front after_front (begun-none (part_front ++ after_front) l.file_size_lem out all-ordered (omega (arith, k, h)))
      (subst (λ (bs : List Block). Wrote 0 bs r out next) e z)

  -- all blocks, as they were written
  abbrev pub written : List Block
  written = (((((part_front ++ part_history) ++ part_new) ++ part_columns) ++ part_structure) ++ part_data) ++ part_attached

  written_all : written ≡ blocks_of x l
  written_all = simp append_assoc (sym whole)

  pub file_done : {a : ℕ} {out last final : List ℕ} → Begun written [] l.file_size_lem a out last → final ≡ blit a (replicate (n.file_size - a) 0) last
      → final ≡ blit 0 (file_for x (decided x)) out
  unfolding file_of
  file_done {a} {out} {last} {final} b e =
      let k = st.by.numbered.file_size_lem in
      let z : final ≡ blit a (replicate (l.file_size_lem - a) 0) last = e ∙ ap (λ (j : ℕ). blit a (replicate (j - a) 0) last) k in
      begun_all b z ∙ ap (λ (bs : List Block). blit 0 (flat 0 bs l.file_size_lem) out) written_all
      ∙ ap (λ (r : Checked Decided). blit 0 (file_for x r) out) (sym st.by.is)

  pub file-same : {a : ℕ} {out last final : List ℕ} (xs : List ℕ) → Begun written [] l.file_size_lem a out last → final ≡ blit a xs last → length final ≡ length out
  file-same {a} {out} {last} xs b e = ap length e ∙ length-blit a xs last ∙ ap length b.wrote.bytes ∙ length-blit 0 _ out
