-- Each part of the file over a window, from what stands in words.
use Rattle.std.specs.Prelude.{ℕ, zero, suc, ◌+◌, ◌-◌, ◌≤◌, ◌≡◌, get_or, take, drop}
use mathlib.Core.List.{List, [], ◌∷◌, ◌++◌, append_assoc}
use Rattle.std.proofs.Math.Path.{refl, ap, subst}
use Rattle.std.proofs.Common.{sym, ◌∙◌, le_refl, arith}
use Rattle.std.proofs.Math.ListN.{length, replicate, length-replicate}
use Rattle.std.proofs.Math.Seq.{take_all}
use Rattle.base.specs.Blit.{part, blit}
use Rattle.base.specs.Choice.{if_eq}
use Rattle.base.specs.ChoiceLaws.{eq_no}
use Rattle.base.specs.Checked.{Checked, fine}
use Rattle.mdf.specs.Records.{most64, ranges_in}
use Rattle.plan.specs.Columns.{Signal, no_signal, signal_data}
use Rattle.plan.specs.Layout.{Layout, md_size, past_copies}
use Rattle.plan.specs.Data.{signal_in}
use Rattle.work_words.specs.PlanWords.{fragments_in}
use Rattle.work_words.specs.CopyWords.{history_at}
use Rattle.result.specs.Fill.{Block, block, hd_bytes, md_bytes, fh_bytes, copied_blocks, structure_blocks, attachment_blocks}
use Rattle.result.specs.Ordered.{Ordered}
use Rattle.result.specs.Result.{Args, Decided, decided, memo_of, blocks_of, file_of, hd_block}
use Rattle.copies_laws.specs.LengthLaws.{length-hd, length_md, length_fh}
use Rattle.copies_laws.specs.OrderLaws.{ordered_cons, ordered-append, ordered-to}
use Rattle.copies_laws.specs.LayoutLaws.{history-ordered, columns-ordered, structures_ordered}
use Rattle.guarantee.specs.Theorem as theorem
use Rattle.copier.specs.Standing.{copies_in}
use Rattle.placing.specs.declared.layout.Numbers.{Numbers}
use Rattle.stores.specs.Over.{over}
use Rattle.stores.specs.OverLaws.{over_before, blit_hides}
use Rattle.windows.specs.Windowed.{over_all}
use Rattle.windows.specs.WindowedLaws.{over-two, window_is}
use Rattle.window_order.specs.PassedLaws.{before_same}
use Rattle.window_copies.specs.Attachments.{attachments_in, NextPlace}
use Rattle.window_copies.specs.AttachmentsLaws.{next-some, next-none}
use Rattle.window_copies.specs.Laying.{Wholes}
use Rattle.window_copies.specs.LayingLaws.{laid_wholes}
use Rattle.window_copies.specs.LayingAt.{AllMoved}
use Rattle.window_copies.specs.LayingAtLaws.{laid-moved}
use Rattle.copies_laws.specs.AttachLaws.{own_copies}
use Rattle.writing.specs.Answer.{file_for}
use Rattle.write_copies.specs.Wrote.{end_of}
use Rattle.write_copies.specs.WroteLaws.{ordered-first, ordered_back}
use Rattle.writing.specs.Data.{data_from, DataReady}
use Rattle.writing.specs.PlacedIn.{placed_in}
use Rattle.writing.specs.Structure.{on_table, Near, StructureReady}
use Rattle.writing.specs.StructureLaws.{near_ready}
use Rattle.write_copies.specs.LaidWordsLaws.{copies_order, attachments-few}
use Rattle.writing.specs.LaidWordsLaws.{worded, history-room, columns-room, attachments-room}
use Rattle.window_columns.specs.Columns.{SignalsIn}
use Rattle.writing.specs.FileLaws as file
use Rattle.window_file.specs.declared.Held.{Held}
use Rattle.window_file.specs.Window.{StandsAs, first_at, front_in, history_in, metadata_of}

-- blocks that end before the window
pub all_before : (a i : ℕ) (bs : List Block) (e : ℕ) (u : List ℕ) → Ordered i bs e → e ≤ a → over_all a bs u ≡ u
all_before a i bs e u h k = before_same a i bs u (ordered-to i e a bs h k)

-- ---- blocks laid in parts
by-same : (a : ℕ) (u : List ℕ) {bs cs : List Block} {last : List ℕ} → last ≡ over_all a bs u → bs ≡ cs → last ≡ over_all a cs u
by-same a u p e = p ∙ ap (λ (ds : List Block). over_all a ds u) e

over-three : (a : ℕ) (bs cs ds : List Block) (u : List ℕ) {u₁ u₂ u₃ : List ℕ} → u₁ ≡ over_all a bs u → u₂ ≡ over_all a cs u₁ → u₃ ≡ over_all a ds u₂
    → u₃ ≡ over_all a (bs ++ (cs ++ ds)) u
over-three a bs cs ds u p q r =
    r ∙ ap (over_all a ds) (q ∙ ap (over_all a cs) p) ∙ sym (over-two a bs (cs ++ ds) u ∙ over-two a cs ds (over_all a bs u))

over_five : (a : ℕ) (bs cs ds es fs : List Block) (u : List ℕ) {u₁ u₂ u₃ u₄ u₅ : List ℕ} → u₁ ≡ over_all a bs u → u₂ ≡ over_all a cs u₁ → u₃ ≡ over_all a ds u₂
    → u₄ ≡ over_all a es u₃ → u₅ ≡ over_all a fs u₄ → u₅ ≡ over_all a (bs ++ (cs ++ (ds ++ (es ++ fs)))) u
over_five a bs cs ds es fs u {u₁} {u₂} p q r t v =
    over-three a ds es fs u₂ r t v ∙ ap (over_all a (ds ++ (es ++ fs))) (q ∙ ap (over_all a cs) p)
    ∙ sym (over-two a bs (cs ++ (ds ++ (es ++ fs))) u ∙ over-two a cs (ds ++ (es ++ fs)) (over_all a bs u))

-- ---- the front
first_place : (m : List ℕ) (n : ℕ) → NextPlace m 0 n (first_at m n)
unfolding if_eq
first_place m zero = next-none m 0 0 (omega arith)
first_place m (suc n) = next-some m 0 (suc n) (omega arith) (sym (eq_no (suc n) 0 0 (get_or m 4101 0) (λ e. omega (arith, e)) refl))

part_whole : (l : List ℕ) → part 0 (length l) l ≡ l
unfolding part
part_whole l = take_all (length l) (drop 0 l) (omega arith)

pub front-laid : (s ident : List ℕ) (a : ℕ) (u : List ℕ) {u₁ u₂ : List ℕ} {b c d e b' c' d' e' : ℕ} → u₁ ≡ over a 0 (part 0 (length ident) ident) u
    → u₂ ≡ over a 64 (hd_bytes s b c d e) u₁ → b ≡ b' → c ≡ c' → d ≡ d' → e ≡ e' → u₂ ≡ over_all a (block 0 ident ∷ block 64 (hd_bytes s b' c' d' e') ∷ []) u
unfolding over_all
front-laid s ident a u p q i j k l = q ∙ rw (p, part_whole ident, i, j, k, l)

pub front-passed : (s ident : List ℕ) (a : ℕ) (u : List ℕ) (b c d e : ℕ) → length ident ≡ 64 → 168 ≤ a → u ≡ over_all a (block 0 ident ∷ block 64 (hd_bytes s b c d e) ∷ []) u
unfolding over_all
front-passed s ident a u b c d e i h =
    let n = length-hd s b c d e in
    sym (rw (over_before a 0 ident u (omega (arith, i, h))) (over_before a 64 (hd_bytes s b c d e) u (omega (arith, n, h))))

-- ---- the new MD and FH
pub new_laid : (text : List ℕ) (md fh time a : ℕ) (u : List ℕ) {u₁ u₂ : List ℕ} → u₁ ≡ over a md (md_bytes text) u → u₂ ≡ over a fh (fh_bytes md time) u₁
    → u₂ ≡ over_all a (block md (md_bytes text) ∷ block fh (fh_bytes md time) ∷ []) u
unfolding over_all
new_laid text md fh time a u p q = q ∙ rw p

-- ---- of what was decided and stands in words
module _ {x : Args} {h : Held} {v f w m : List ℕ} (st : StandsAs x h v f w m) where
  abbrev s : List ℕ
  s = x.image

  abbrev z : Numbers
  z = h.numbers

  pub ident-length : length x.ident ≡ 64
  ident-length = (file.known st).steps.lent.ident_length

  orders : (z.history ≤ z.metadata) × (z.metadata ≤ z.copies) × (z.copies ≤ 2050) × (z.chain ≤ 2051) × (z.attachments ≤ 64)
  orders = copies_order (worded (file.laid st)) (file.counted st)

  pub front_same : front_in s x.ident m h.columns z ≡ file.part_front st
  front_same = file.front_is st refl refl (first_place m z.attachments) refl

  history_in_order : Ordered 168 (history_in s m z) z.md
  history_in_order =
      subst (λ (bs : List Block). Ordered 168 bs z.md) (sym (file.history-same st))
      (subst (λ (e : ℕ). Ordered 168 (file.part_history st) e) (sym st.by.numbered.md)
      (history-ordered (file.laid st) (file.l st).past.chain (memo_of (file.l st)) (file.l st).fh))

  pub history_asks : (z.history ≤ z.copies) × (z.history ≤ 2050) × (4100 ≤ length m) × Wholes s (part 0 (z.history - 0) (copies_in m z.copies))
      × Ordered 168 (history_in s m z) z.md
  history_asks = (
    omega (arith, orders.0, orders.1),
    omega (arith, orders.0, orders.1, orders.2),
    omega (arith, file.long st),
    laid_wholes s 168 _ (file.l st).md
        (history-room (file.laid st) (file.counted st) st.d m st.by.long_d st.by.numbered.words (file.l st).md (le_refl (file.l st).md)),
    history_in_order,
  )

  pub columns_asks : (z.history ≤ z.metadata) × (z.metadata ≤ z.copies) × (z.metadata ≤ 2050) × (4100 ≤ length m)
      × Wholes s (part z.history (z.metadata - z.history) (copies_in m z.copies))
  columns_asks = (
    orders.0,
    orders.1,
    omega (arith, orders.1, orders.2),
    omega (arith, file.long st),
    laid_wholes s ((file.l st).fh + 56) _ (past_copies (file.l st).metadata)
        (columns-room (file.laid st) (file.counted st) st.d m st.by.long_d st.by.numbered.words (past_copies (file.l st).metadata) (le_refl _)),
  )

  pub structure_ready : StructureReady x.photos (on_table x.table) s x.block_size w m (attachments_in m z.metadata z.attachments) h.columns z.copies
      (past_copies (file.l st).metadata) (file.l st).metadata_end_lem
  structure_ready = file.structure_stands st _ _ structure_in_order
    where
      structure_in_order : Ordered (past_copies (file.l st).metadata) (file.part_structure st) (file.l st).metadata_end_lem
      structure_in_order =
          structures_ordered (file.laid st) (memo_of (file.l st)) (file.l st).attached.attachments (file.l st).placed (theorem.in_image x (file.d st) (file.known st))

  pub structure_asks : Near m h.columns × (4096 ≤ length w) × (z.attachments ≤ 64)
  structure_asks =
      let r = structure_ready in
      let e = theorem.metadata_small x (file.d st) (file.known st) in
      (near_ready r (omega (arith, e)), r.long, orders.4)

  -- all of them
  metadata_in_order : Ordered 0 (metadata_of st) z.metadata_end
  unfolding hd_block
  metadata_in_order =
      let l : Layout = file.l st in
      let o = file.laid st in
      subst (λ (e : ℕ). Ordered 0 (metadata_of st) e) (sym st.by.numbered.metadata_end_lem)
      (ordered_cons 0 64 _ _ _ (le_refl 0) ident-length
      (ordered_cons 64 104 _ _ _ (le_refl 64) (length-hd s _ _ _ _)
      (ordered-append 168 l.md _ _ _ (history-ordered o l.past.chain (memo_of l) l.fh)
      (ordered_cons l.md (md_size (length x.text)) _ _ _ (le_refl _) (length_md x.text)
      (ordered_cons _ 56 _ _ _ (omega (arith, o.fh)) (length_fh l.md x.time)
      (ordered-append (l.fh + 56) _ _ _ _ (columns-ordered o l.past.chain (memo_of l) l.fh)
      (structures_ordered o (memo_of l) l.attached.attachments l.placed (theorem.in_image x (file.d st) (file.known st)))))))))

  pub metadata_passed : (a : ℕ) (u : List ℕ) → z.metadata_end ≤ a → u ≡ over_all a (metadata_of st) u
  metadata_passed a u k = sym (all_before a 0 (metadata_of st) z.metadata_end u metadata_in_order k)

  pub metadata_laid : (a : ℕ) (u : List ℕ) {u₁ u₂ u₃ u₄ u₅ : List ℕ} → u₁ ≡ over_all a (front_in s x.ident m h.columns z) u → u₂ ≡ over_all a (history_in s m z) u₁
      → u₃ ≡ over_all a (block z.md (md_bytes x.text) ∷ block z.fh (fh_bytes z.md x.time) ∷ []) u₂
      → u₄ ≡ over_all a (copied_blocks s (part history_at z.chain m) (copies_in m z.copies) z.fh (part z.history (z.metadata - z.history) (copies_in m z.copies))) u₃
      → u₅ ≡ over_all a (structure_blocks (on_table x.table) s x.block_size (copies_in m z.copies) (attachments_in m z.metadata z.attachments)
      (placed_in x.photos s w m 0 h.columns) (placed_in x.photos s w m 0 h.columns)) u₄
      → u₅ ≡ over_all a (metadata_of st) u
  metadata_laid a u {u₁} {u₂} {u₃} {u₄} p₁ p₂ p₃ p₄ p₅ =
      over_five a (file.part_front st) (file.part_history st) (file.part_new st) (file.part_columns st) (file.part_structure st) u (by-same a u p₁ front_same)
      (by-same a u₁ p₂ (file.history-same st)) (by-same a u₂ p₃ (file.new_same st)) (by-same a u₃ p₄ (file.columns-same st)) (by-same a u₄ p₅ (file.structure-same st))

  -- ---- the data
  signal_ranges : (g : Signal) → signal_in s g ≡ fine → ranges_in s (fragments_in g) ≡ fine
  unfolding ranges_in
  signal_ranges no_signal e = refl
  signal_ranges (signal_data fs) e = e

  pub signals_in_lem : SignalsIn s (take 3072 f) w m h.columns
  signals_in_lem k i nz =
      let c = file.column-same st k i in
      let g : Signal = c.placed.column.signal_of in
      let t = (file.known st).signal_fine c.placed.column (theorem.column_in_lem x (file.d st) (file.known st) c.placed c.one) in
      rw (c.pieces nz) (signal_ranges g t)

  data_in_order : Ordered (end_of 0 (metadata_of st)) (file.part_data st) (file.l st).file_size_lem
  data_in_order =
      let e : file.part_front st ++ (file.part_history st ++ (file.part_new st ++ (file.part_columns st ++ (file.part_structure st ++ (file.part_data st ++ file.part_attached st)))))
      ≡ metadata_of st ++ (file.part_data st ++ file.part_attached st) = simp append_assoc in
      ordered-first _ (file.part_data st) (file.part_attached st) _
      (ordered_back 0 (metadata_of st) (file.part_data st ++ file.part_attached st) _ (subst (λ (bs : List Block). Ordered 0 bs (file.l st).file_size_lem) e (file.all-ordered st)))

  pub data_asks : {kept : List ℕ} → kept ≡ take 3072 f
      → DataReady s x.block_size v h.items kept h.pieces w m h.columns (end_of 0 (metadata_of st)) (file.l st).file_size_lem
  data_asks e = file.data_stands st e _ _ data_in_order

  pub data_counts : (h.columns ≤ 512) × (4096 ≤ length w) × (8192 ≤ length m)
  data_counts = let r = structure_ready in (r.few, r.long, r.placed)

  pub size_below : (file.l st).file_size_lem ≤ most64
  size_below = let e = theorem.file-below x (file.d st) (file.known st) in omega (arith, e)

  -- ---- attachments
  pub attached_asks : (z.metadata + length (own_copies (attachments_in m z.metadata z.attachments)) ≤ z.copies) × (z.copies ≤ 2050) × (z.attachments ≤ 64)
      × (4292 ≤ length m) × AllMoved s (attachments_in m z.metadata z.attachments)
  attached_asks = (
    attachments-few (worded (file.laid st)) (file.counted st) st.d m st.by.long_d st.by.numbered.words,
    orders.2,
    orders.4,
    omega (arith, file.long st),
    laid-moved s _ _ (file.l st).file_size_lem
        (attachments-room (file.laid st) (file.counted st) st.d m st.by.long_d st.by.numbered.words (file.l st).file_size_lem (le_refl _)),
  )

  -- ---- the window
  pub window_done : (a : ℕ) (u : List ℕ) {kept u₁ u₂ u₃ u₄ : List ℕ} → kept ≡ take 3072 f → a + length u ≤ z.file_size → u₁ ≡ blit 0 (replicate (length u) 0) u
      → u₂ ≡ over_all a (metadata_of st) u₁ → u₃ ≡ over_all a (data_from s x.block_size v h.items kept h.pieces w m 0 h.columns) u₂
      → u₄ ≡ over_all a (attachment_blocks s (part history_at z.chain m) (copies_in m z.copies) z.fh (attachments_in m z.metadata z.attachments)) u₃
      → u₄ ≡ part a (length u) (file_for x (decided x))
  unfolding file_of
  window_done a u {kept} {u₁} {u₂} {u₃} q k p₁ p₂ p₃ p₄ =
      let n = st.by.numbered.file_size_lem in
      let many : length (replicate {A = ℕ} (length u) 0) ≡ length u = length-replicate {A = ℕ} (length u) 0 in
      let zeros : blit 0 (replicate (length u) 0) u ≡ replicate (length u) 0 = blit_hides (replicate (length u) 0) u (omega (arith, many))
      ∙ take_all (length u) (replicate (length u) 0) (omega (arith, many)) in
      let e₁ = p₁ ∙ zeros in
      let d = ap (λ (fs : List ℕ). data_from s x.block_size v h.items fs h.pieces w m 0 h.columns) q ∙ file.data_same st in
      let bs : metadata_of st ++ (file.part_data st ++ file.part_attached st) ≡ blocks_of x (file.l st) = simp append_assoc (sym (file.whole st)) in
      let o : Ordered 0 (blocks_of x (file.l st)) (file.l st).file_size_lem = theorem.ordered x (file.d st) (file.known st) in
      over-three a (metadata_of st) (file.part_data st) (file.part_attached st) (replicate (length u) 0) (p₂ ∙ ap (over_all a (metadata_of st)) e₁) (by-same a u₂ p₃ d)
      (by-same a u₃ p₄ (file.attached_same st))
      ∙ ap (λ (b : List Block). over_all a b (replicate (length u) 0)) bs
      ∙ window_is a (length u) (blocks_of x (file.l st)) (file.l st).file_size_lem o (omega (arith, k, n))
      ∙ ap (λ (r : Checked Decided). part a (length u) (file_for x r)) (sym st.by.is)
