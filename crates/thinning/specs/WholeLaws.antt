-- What is written over an output is the new file.
use Rattle.std.specs.Prelude.{ℕ, zero, suc, ◌+◌, ◌*◌, ◌-◌, ◌≤◌, ◌<◌, ◌≡◌, length, get_or, replicate}
use mathlib.Core.List.{List, [], ◌∷◌, ◌++◌, append-nil, append_assoc}
use Rattle.std.proofs.Math.Path.{refl, ap}
use Rattle.std.proofs.Common.{sym, subst, ◌∙◌, zero-add, arith, drop-cons}
use Rattle.base.specs.Choice.{if_eq}
use Rattle.base.specs.ChoiceLaws.{eq_yes, eq_no}
use Rattle.base.specs.Blit.{part, blit}
use Rattle.base.specs.BlitLaws.{length-blit}
use Rattle.mdf.specs.Block.{link_at}
use Rattle.plan.specs.Columns.{Column}
use Rattle.plan.specs.Copies.{Copy, Attachment}
use Rattle.plan.specs.Layout.{Placed, Layout, past_copies}
use Rattle.work_words.specs.CopyWords.{history_at, placed_at, laid_copies}
use Rattle.work_words.specs.PlanWords.{columns_words}
use Rattle.result.specs.Fill.{Block, block, new_link, copied_blocks, next_dg, next_attachment, attachment_blocks, hd_bytes}
use Rattle.result.specs.Guarantee.{In, columns_placed}
use Rattle.result.specs.Ordered.{Ordered}
use Rattle.result.specs.Result.{first_fh, memo_of, hd_block, flat}
use Rattle.payload_laws.specs.UnitLaws.{IsUnit}
use Rattle.copies_laws.specs.Laid.{Laid}
use Rattle.copies_laws.specs.AttachLaws.{own_copies, LaidAt}
use Rattle.copies_laws.specs.LengthLaws.{length-hd}
use Rattle.copier.specs.Standing.{copies_in}
use Rattle.file.specs.Form.{FileColumn}
use Rattle.file_laws.specs.FormLaws.{is_formed_lem}
use Rattle.ranges.specs.ChainedLaws.{found-chained, same_form}
use Rattle.window_copies.specs.Attachments.{attachments_in, NextPlace}
use Rattle.write_copies.specs.Wrote.{end_of, Wrote}
use Rattle.write_copies.specs.WroteLaws.{ordered_end, ordered-first}
use Rattle.write_copies.specs.Begun.{Begun}
use Rattle.write_copies.specs.BegunLaws.{begun-none, begun-room, begun-next, begun_all}
use Rattle.write_copies.specs.RoomLaws.{laid-ordered, laid_at_ordered}
use Rattle.write_copies.specs.LaidWords as laid_words
use Rattle.write_copies.specs.LaidWords.{Worded, Words}
use Rattle.write_copies.specs.LaidWordsLaws.{chain-few, copies_order, chain_is, all_is, moved_is, metadata_room, attachments-room, attachments-few, metadata_blocks, attachments-blocks}
use Rattle.write_copies.specs.PlaceWordsLaws.{blit_among, length-columns, place_words_lem}
use Rattle.thin.specs.Kept.{kept_column, kept_columns}
use Rattle.thin.specs.Fill.{kept_structure, kept_blocks, blocks_kept, file_kept}
use Rattle.thin_laws.specs.LaidLaws.{LaidKept, columns-after-history, copies-laid, attachments-laid, few_in_all}
use Rattle.thin_laws.specs.PlaceLaws.{kept-columns, kept_in_lem, kept_lies, metadata_before}
use Rattle.thin_laws.specs.Inside.{Inside}
use Rattle.thin_guarantee.specs.Accepted.{Accepted, accepted}
use Rattle.thin_guarantee.specs.OpenedFacts.{ColumnFacts, OpenedFacts}
use Rattle.thin_guarantee.specs.Numbers.{kept-few}
use Rattle.thin_guarantee.specs.Theorem as theorem
use Rattle.arranging.specs.declared.decide.Numbers.{Numbers}
use Rattle.thinning.specs.TouchingLaws.{touching_room}
use Rattle.thinning.specs.Column.{Near}
use Rattle.thinning.specs.Data.{listed_by, data_from, DataReady}
use Rattle.thinning.specs.Structure.{structure_from, StructureReady}
use Rattle.thinning.specs.Said.{OfFile, SaidAll}
use Rattle.thinning.specs.SaidLaws.{said_all, data_all, structure-all}
use Rattle.thinning.specs.PlacedLaws.{length-placed, Reaching, structure_reaching, first_said, next-first, dg-said, ranges_said}
use Rattle.thinning.specs.Whole.{Stands}

-- ---- a column of an opened file has the blocks that its DL lists
file-blocks : (s : List ℕ) (c : FileColumn) → ColumnFacts s c → c.fragments ≡ listed_by s c.dg
file-blocks s c f =
    let k = same_form s c.dg c.cg c.cn c.fragments _ (found-chained _ s f.chained.0 (link_at s c.dg 2) f.chained.1) in
    k.blocks (sym k.form ∙ is_formed_lem s c f.form)

kept-of-file : (s numbers : List ℕ) (all : List FileColumn) (c : FileColumn) → ColumnFacts s c → OfFile s (kept_column s numbers all c)
kept-of-file s numbers all c f = record { blocks = file-blocks s c f; signal = refl; photos = refl }

-- ---- the first links of the HD
first-column : (n : ℕ) (s columns memo : List ℕ) (ps : List Placed) → n ≡ length ps → SaidAll s columns memo 0 ps
    → if_eq n 0 0 (get_or memo 6656 0) ≡ next_dg ps
first-column n s columns memo [] e q = sym (eq_yes _ _ _ _ e refl)
first-column n s columns memo (p ∷ ps) e q = sym (eq_no _ _ _ _ (λ z. omega arith) (sym (next-first s columns memo (p ∷ ps) q (omega arith))))

first-history : (m : List Copy) (w : List ℕ) (chain : ℕ) → 8192 ≤ length w
    → if_eq chain 0 0 (new_link m (get_or w 4352 0)) ≡ first_fh m (part history_at chain w) 0
unfolding part
first-history m w zero h = sym (eq_yes _ _ _ _ refl refl)
first-history m w (suc k) h = rw (drop-cons w 4352 0 (omega arith)) (sym (eq_no _ _ _ _ (λ e. omega (arith, e)) refl))

first-attachment : (w : List ℕ) (k count r : ℕ) → NextPlace w 0 count r → r ≡ next_attachment (attachments_in w k count)
first-attachment w k count r h =
    let e : 4100 + 3 * 0 ≡ 4100 = omega arith in
    let f : count - 0 ≡ count = omega arith in
    h.is k ∙ rw (e, f)

front_eq : (s : List ℕ) {a b c d a' b' c' d' : ℕ} → a ≡ a' → b ≡ b' → c ≡ c' → d ≡ d'
    → block 0 (part 0 64 s) ∷ block 64 (hd_bytes s a b c d) ∷ [] ≡ block 0 (part 0 64 s) ∷ block 64 (hd_bytes s a' b' c' d') ∷ []
front_eq s e f g h = rw (e, f, g, h)

-- blocks that touch each other begin at or past where they have room
ordered_reaches : (s : List ℕ) (m : List Copy) (ats : List Attachment) (all ps : List Placed) (a b d e : ℕ) → 0 < length ps
    → Reaching a (kept_structure s m ats all ps) e → Ordered b (kept_structure s m ats all ps) d → b ≤ a
unfolding kept_structure
ordered_reaches s m ats all [] a b d e h r o = absurd (omega arith)
ordered_reaches s m ats all (p ∷ ps) a b d e h r o = (touching_room b a _ _ r.touching o).0

-- ---- the parts of the file
module _ {s w m : List ℕ} {n : Numbers} {out : List ℕ} {l : Layout} (st : Stands s w m n out l) where
  abbrev cs : List Column
  cs = kept_columns s st.numbers st.all

  accept : Accepted st.u s st.numbers (length out) st.all l
  accept = accepted st.u s st.numbers (length out) st.all l st.opens st.is

  laid : LaidKept st.u s cs l
  laid = theorem.o st.u s st.numbers out st.all l st.bytes accept

  unit : IsUnit st.u
  unit = theorem.unit st.u s st.numbers out st.all l st.bytes accept

  lies : (c : Column) → In c cs → Inside s c
  lies = theorem.lies st.u s st.numbers out st.all l st.bytes accept

  known : OpenedFacts s st.all
  known = theorem.known st.u s st.numbers out st.all l st.bytes accept

  order : Ordered 0 (blocks_kept s l) l.file_size_lem
  order = theorem.order st.u s st.numbers out st.all l st.bytes accept

  worded : Worded l
  worded =
      let g = columns-after-history laid in
      let t = attachments-laid laid in
      record {
        few = few_in_all laid;
        chained = chain-few _ s _ _ _ laid.past;
        most = t.most;
        new = g.new;
        columns = g.memo;
        all = t.memo;
      }

  counted : laid_words.Numbers l n.copies n.history n.metadata n.chain n.attachments
  counted =
      let z = st.numbered in
      record { all = z.copies; first = z.history; next = z.metadata; blocks = z.chain; moved = z.attachments }

  memo-long : 8192 ≤ length m
  unfolding laid_copies
  memo-long = rw (st.numbered.words, length-blit, length-blit, length-blit, length-blit) st.long_d

  columns-long : 8192 ≤ length w
  columns-long = rw (st.in_columns, length-blit) st.long_c

  -- ---- what the words say
  few-columns : length cs ≤ 512
  unfolding kept_columns
  few-columns = omega (arith, kept-few s st.numbers st.all 0 st.all, known.few)

  few-placed : length l.placed ≤ 512
  few-placed = omega (arith, few-columns, ap length (kept-columns laid), length-placed l.placed)

  own : (c : Column) → In c (columns_placed l.placed) → OfFile s c
  own c i =
      let r = theorem.from st.u s st.numbers out st.all l st.bytes accept c (subst (In c) (kept-columns laid) i) in
      subst (OfFile s) (sym r.same) (kept-of-file s st.numbers st.all r.column r.tested.facts)

  column-words : Words w (8 * 0) (columns_words 0 cs)
  column-words j h =
      let k = length-columns 0 cs in
      let f = few-columns in
      let g = st.long_c in
      ap (λ (x : List ℕ). get_or x (8 * 0 + j) 0) st.in_columns ∙ blit_among (columns_words 0 cs) (8 * 0) j st.c h (omega arith)

  said : SaidAll s w m 0 l.placed
  said =
      said_all s w m 0 0 l.placed own (rw (kept-columns laid) column-words)
      (rw st.numbered.words (place_words_lem l st.d few-placed st.long_d))

  memo_is : copies_in m n.copies ≡ memo_of l
  memo_is = all_is worded counted st.d m st.long_d st.numbered.words

  attached_is : attachments_in m n.metadata n.attachments ≡ l.attached.attachments
  attached_is = moved_is worded counted st.d m st.long_d st.numbered.words

  number : n.columns ≡ length l.placed
  number = st.numbered.columns

  near : Near m n.columns
  near =
      record {
        few = rw number few-placed;
        long = memo-long;
        below = λ i h.
            rw zero-add at (dg-said s w m 0 i 9223372036854775808 l.placed said
            (λ p j. let r = kept_lies laid unit p j in let b = metadata_before laid unit in let z = accept.small in omega (arith, r.structure_to))
            (rw number at h));
      }

  -- ---- the five parts
  abbrev part_front : List Block
  part_front = block 0 (part 0 64 s) ∷ hd_block s l ∷ []

  abbrev part_copies : List Block
  part_copies = copied_blocks s l.past.chain (memo_of l) l.fh l.metadata.memo

  abbrev part_structure : List Block
  part_structure = kept_structure s (memo_of l) l.attached.attachments l.placed l.placed

  abbrev part_data : List Block
  part_data = kept_blocks s l.placed

  abbrev part_attached : List Block
  part_attached = attachment_blocks s l.past.chain (memo_of l) l.fh l.attached.attachments

  whole : blocks_kept s l ≡ part_front ++ (part_copies ++ (part_structure ++ (part_data ++ part_attached)))
  unfolding blocks_kept
  whole = refl

  all-ordered : Ordered 0 (part_front ++ (part_copies ++ (part_structure ++ (part_data ++ part_attached)))) l.file_size_lem
  all-ordered = subst (λ (bs : List Block). Ordered 0 bs l.file_size_lem) whole order

  -- as the words give them
  front_same : {dg fh first comment : ℕ} → dg ≡ if_eq n.columns 0 0 (get_or m 6656 0)
      → fh ≡ if_eq n.chain 0 0 (new_link (copies_in m n.copies) (get_or m 4352 0)) → NextPlace m 0 n.attachments first
      → comment ≡ new_link (copies_in m n.copies) (link_at s 64 5) → block 0 (part 0 64 s) ∷ block 64 (hd_bytes s dg fh first comment) ∷ [] ≡ part_front
  unfolding hd_block
  front_same {dg} {fh} {first} {comment} a b c e =
      let p : dg ≡ next_dg l.placed = a ∙ first-column n.columns s w m l.placed number said in
      let q : fh ≡ first_fh (memo_of l) l.past.chain l.fh =
      b ∙ first-history (copies_in m n.copies) m n.chain memo-long
      ∙ rw (memo_is, chain_is worded counted st.d m st.long_d st.numbered.words, laid.fh) in
      let r : first ≡ next_attachment l.attached.attachments =
      first-attachment m n.metadata n.attachments first c ∙ ap next_attachment attached_is in
      let t : comment ≡ new_link (memo_of l) (link_at s 64 5) = e ∙ rw memo_is in
      front_eq s p q r t

  copies-same : copied_blocks s (part history_at n.chain m) (copies_in m n.copies) 0 (part 0 (n.metadata - 0) (copies_in m n.copies))
      ≡ part_copies
  copies-same = rw laid.fh (metadata_blocks worded counted st.d m st.long_d st.numbered.words s 0)

  structure-same : structure_from s (copies_in m n.copies) (attachments_in m n.metadata n.attachments) w m n.columns 0 n.columns
      ≡ part_structure
  structure-same =
      rw (memo_is, attached_is, number)
      (structure-all s (memo_of l) l.attached.attachments w m 0 l.placed l.placed said said (zero-add _))

  data_same : data_from s w m 0 n.columns ≡ part_data
  data_same = rw number (data_all s w m 0 l.placed said)

  attached_same : attachment_blocks s (part history_at n.chain m) (copies_in m n.copies) 0 (attachments_in m n.metadata n.attachments)
      ≡ part_attached
  attached_same = rw laid.fh (attachments-blocks worded counted st.d m st.long_d st.numbered.words s 0)

  structure_reaches : Reaching (past_copies l.metadata) part_structure l.metadata_end_lem
  structure_reaches =
      rw (laid.placed, laid.metadata_end_lem)
      (structure_reaching st.u s (memo_of l) l.attached.attachments _ (past_copies l.metadata) _ cs)

  -- ---- one part after the other: what each asks, and what was written then
  abbrev after_front : List Block
  after_front = part_copies ++ (part_structure ++ (part_data ++ part_attached))

  front_end : end_of 0 part_front ≡ 168
  unfolding end_of hd_block
  front_end =
      let e = length-hd s (next_dg l.placed) (first_fh (memo_of l) l.past.chain l.fh) (next_attachment l.attached.attachments)
      (new_link (memo_of l) (link_at s 64 5)) in
      omega (arith, e)

  pub words_long : 8192 ≤ length m
  words_long = memo-long

  pub front_asks : (64 ≤ length s) × (168 ≤ length out)
  front_asks =
      let r = ordered_end 0 part_front l.file_size_lem (ordered-first 0 part_front after_front l.file_size_lem all-ordered) in
      (theorem.long st.u s st.numbers out st.all l st.bytes accept, omega (arith, r.1, front_end, accept.fits))

  -- the HD's links, and what was written with them
  module _ {dg fh first comment : ℕ} (dg_is : dg ≡ if_eq n.columns 0 0 (get_or m 6656 0))
      (fh_is : fh ≡ if_eq n.chain 0 0 (new_link (copies_in m n.copies) (get_or m 4352 0))) (first_is : NextPlace m 0 n.attachments first)
      (comment_is : comment ≡ new_link (copies_in m n.copies) (link_at s 64 5)) {a : ℕ} {x : List ℕ}
      (front : Wrote 0 (block 0 (part 0 64 s) ∷ block 64 (hd_bytes s dg fh first comment) ∷ []) a out x) where
    begun-front : Begun part_front after_front l.file_size_lem a out x
    begun-front =
        begun-next part_front after_front (begun-none (part_front ++ after_front) l.file_size_lem out all-ordered accept.fits)
        (subst (λ (bs : List Block). Wrote 0 bs a out x) (front_same dg_is fh_is first_is comment_is) front)

    copies-laid_there : Laid s a (part 0 (n.metadata - 0) (copies_in m n.copies)) (length x)
    copies-laid_there =
        laid-ordered s 168 a (length x) l.metadata.next _ _ _ _
        (metadata_room worded counted st.d m st.long_d st.numbered.words s 168 l.metadata.next l.metadata.next (copies-laid laid)
        (omega arith))
        (subst (λ (bs : List Block). Ordered a bs (length x)) (sym copies-same) (begun-room part_copies _ begun-front))

    module _ {b : ℕ} {y : List ℕ} (copied : 0 ≤ n.metadata → n.metadata ≤ n.copies → n.copies ≤ 2050 → 8192 ≤ length m
        → Laid s a (part 0 (n.metadata - 0) (copies_in m n.copies)) (length x)
        → Wrote a (copied_blocks s (part history_at n.chain m) (copies_in m n.copies) 0
        (part 0 (n.metadata - 0) (copies_in m n.copies))) b x y) where
      begun-copies : Begun (part_front ++ part_copies) (part_structure ++ (part_data ++ part_attached)) l.file_size_lem b out y
      begun-copies =
          let q = copies_order worded counted in
          begun-next part_copies _ begun-front
          (subst (λ (bs : List Block). Wrote a bs b x y) copies-same (copied (omega arith) q.1 q.2 memo-long copies-laid_there))

      pub structure_asks : StructureReady s (copies_in m n.copies) (attachments_in m n.metadata n.attachments) w m n.columns b
          n.metadata_end
          × (n.attachments ≤ 64)
      structure_asks =
          let r = structure_reaches in
          let some : (n.columns ≡ 0 → ⊥) → 0 < length l.placed = λ z. let e = number in omega arith in
          let first : (n.columns ≡ 0 → ⊥) → get_or m placed_at 0 ≡ past_copies l.metadata =
          λ z. first_said s w m (memo_of l) l.attached.attachments l.placed l.placed _ said r.touching (some z) in (
            record {
              near = near;
              long = omega (arith, columns-long);
              begins = λ z. rw (first z)
                  (ordered_reaches s (memo_of l) l.attached.attachments l.placed l.placed _ _ _ _ (some z) r
                  (begun-room part_structure _ begun-copies));
              touching = λ z. rw (first z, structure-same) r.touching;
              ends = λ z. rw (first z, structure-same, st.numbered.metadata_end_lem) r.ends;
            },
            (copies_order worded counted).4,
          )

      module _ {c : ℕ} {z : List ℕ}
          (structured : Wrote b (structure_from s (copies_in m n.copies) (attachments_in m n.metadata n.attachments) w m n.columns
          0 n.columns) c y z) where
        begun-structure : Begun ((part_front ++ part_copies) ++ part_structure) (part_data ++ part_attached) l.file_size_lem c out z
        begun-structure = begun-next part_structure _ begun-copies (subst (λ (bs : List Block). Wrote b bs c y z) structure-same structured)

        pub data_asks : DataReady s w m n.columns c (length z)
        data_asks =
            record {
              words = let k = near.few in omega (arith, columns-long);
              places = let k = near.few in omega (arith, memo-long);
              ranges = λ k h.
                  rw zero-add at (ranges_said s w m 0 k l.placed said (λ p i. (lies p.column (kept_in_lem laid p i)).ranges) (rw number at h));
              ordered = subst (λ (bs : List Block). Ordered c bs (length z)) (sym data_same) (begun-room part_data _ begun-structure);
            }

        module _ {d : ℕ} {v : List ℕ} (held : Wrote c (data_from s w m 0 n.columns) d z v) where
          begun_data : Begun (((part_front ++ part_copies) ++ part_structure) ++ part_data) (part_attached ++ []) l.file_size_lem d out v
          begun_data =
              subst (λ (bs : List Block). Begun (((part_front ++ part_copies) ++ part_structure) ++ part_data) bs l.file_size_lem d out v)
              (sym (append-nil part_attached))
              (begun-next part_data part_attached begun-structure (subst (λ (bs : List Block). Wrote c bs d z v) data_same held))

          attached_laid_there : LaidAt s d (attachments_in m n.metadata n.attachments) (length v)
          attached_laid_there =
              laid_at_ordered s _ d (length v) l.attached.made.next _ _ _ _
              (attachments-room worded counted st.d m st.long_d st.numbered.words s _ l.attached.made.next l.attached.made.next
              (attachments-laid laid).laid (omega arith))
              (subst (λ (bs : List Block). Ordered d bs (length v)) (sym attached_same) (begun-room part_attached [] begun_data))

          module _ {e : ℕ} {t : List ℕ}
              (moved : n.metadata + length (own_copies (attachments_in m n.metadata n.attachments)) ≤ n.copies → n.copies ≤ 2050
              → n.attachments ≤ 64 → 8192 ≤ length m → LaidAt s d (attachments_in m n.metadata n.attachments) (length v)
              → Wrote d (attachment_blocks s (part history_at n.chain m) (copies_in m n.copies) 0
              (attachments_in m n.metadata n.attachments)) e v t) where
            abbrev written : List Block
            written = (((part_front ++ part_copies) ++ part_structure) ++ part_data) ++ part_attached

            begun-all_parts : Begun written [] l.file_size_lem e out t
            begun-all_parts =
                let q = copies_order worded counted in
                begun-next part_attached [] begun_data
                (subst (λ (bs : List Block). Wrote d bs e v t) attached_same
                (moved (attachments-few worded counted st.d m st.long_d st.numbered.words) q.2 q.4 memo-long attached_laid_there))

            written_all : written ≡ blocks_kept s l
            written_all = simp append_assoc (sym whole)

            -- zeros up to the end
            pub file_done : {last : List ℕ} → last ≡ blit e (replicate (n.file_size - e) 0) t → last ≡ blit 0 (file_kept s l) out
            unfolding file_kept
            file_done {last} f =
                let k : last ≡ blit e (replicate (l.file_size_lem - e) 0) t =
                f ∙ ap (λ (j : ℕ). blit e (replicate (j - e) 0) t) st.numbered.file_size_lem in
                begun_all begun-all_parts k ∙ ap (λ (bs : List Block). blit 0 (flat 0 bs l.file_size_lem) out) written_all
