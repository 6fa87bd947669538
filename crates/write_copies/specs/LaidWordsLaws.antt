-- Words laid out by placing, read back: the copies, the history chain and the attachments of a layout.
use Rattle.std.specs.Prelude.{ℕ, zero, suc, ◌+◌, ◌-◌, ◌*◌, ◌≤◌, ◌<◌, ◌≡◌, refl, get_or}
use mathlib.Core.List.{List, [], ◌∷◌, ◌++◌, append_assoc}
use Rattle.std.proofs.Common.{sym, subst, ◌∙◌, arith, drop-cons}
use Rattle.std.proofs.Math.Path.{ap}
use Rattle.std.proofs.Math.Nat.{sub-zero}
use Rattle.std.proofs.Math.ListN.{length, take, drop, length-append, length-drop}
use Rattle.std.proofs.Math.Seq.{take-append_seam, drop-append_seam, drop-append-le}
use Rattle.base.specs.Checked.{ok}
use Rattle.base.specs.Blit.{part, blit}
use Rattle.base.specs.BlitLaws.{length-blit, part-blit, part-blit_before}
use Rattle.mdf.specs.Block.{kind_at, links_at, first_link, whole_at, size_at}
use Rattle.mdf.specs.Chain.{is_in}
use Rattle.plan.specs.Copies.{Copy, Copies, is_copied, copy_root, History, history, history_from, history_of, Attachment}
use Rattle.plan.specs.Layout.{Layout}
use Rattle.work_words.specs.CopyWords.{copy_words, attachment_words, attachments_at, history_at, placed_at, placed_words, laid_copies}
use Rattle.copier.specs.Standing.{copies_from, copies_in}
use Rattle.copier.specs.AttachingLaws.{length-words}
use Rattle.copies_laws.specs.AnswerLaws.{refused≢ok, ok_same, then_ok, by_eq, by-pick, eq_back}
use Rattle.copies_laws.specs.Laid.{Laid, laid-to}
use Rattle.copies_laws.specs.AttachLaws.{own_copies, LaidAt}
use Rattle.result.specs.Fill.{copied_blocks, attachment_blocks}
use Rattle.result.specs.Result.{memo_of}
use Rattle.window_copies.specs.LayingLaws.{copies-take, copies-drop}
use Rattle.window_copies.specs.Attachments.{attachments_from, attachments_in}
use Rattle.write_copies.specs.LaidWords.{Worded, Numbers}

-- ---- words one by one
part_cons : (w : List ℕ) (p q n : ℕ) → p + 1 ≡ q → p < length w → part p (suc n) w ≡ get_or w p 0 ∷ part q n w
unfolding part
part_cons w p q n e h =
    let z : q ≡ suc p = omega arith in
    rw (drop-cons w p 0 h, z)

cons_head : {x y : ℕ} (xs ys : List ℕ) → x ∷ xs ≡ y ∷ ys → x ≡ y
cons_head xs ys e = ap (λ (l : List ℕ). get_or l 0 0) e

cons_tail : {x y : ℕ} {xs ys : List ℕ} → x ∷ xs ≡ y ∷ ys → xs ≡ ys
cons_tail e = ap (λ (l : List ℕ). drop 1 l) e

-- copies whose words stand from p on
copies_of_lem : (cs : List Copy) (w : List ℕ) (p : ℕ) → p + 2 * length cs ≤ length w → part p (2 * length cs) w ≡ copy_words cs
    → copies_from w p (length cs) ≡ cs
unfolding copies_from copy_words
copies_of_lem [] w p h e = refl
copies_of_lem (c ∷ cs) w p h e =
    let n : ℕ = 2 * length cs in
    let z : 2 * suc (length cs) ≡ suc (suc n) = omega arith in
    let two : part p (2 * suc (length cs)) w ≡ get_or w p 0 ∷ get_or w (p + 1) 0 ∷ part (p + 2) n w =
    rw z (part_cons w p (p + 1) (suc n) refl (omega arith)
    ∙ ap (λ (l : List ℕ). get_or w p 0 ∷ l) (part_cons w (p + 1) (p + 2) n (omega arith) (omega arith))) in
    let q : get_or w p 0 ∷ get_or w (p + 1) 0 ∷ part (p + 2) n w ≡ c.from ∷ c.to ∷ copy_words cs = sym two ∙ e in
    let a : get_or w p 0 ≡ c.from = cons_head _ _ q in
    let b : get_or w (p + 1) 0 ≡ c.to = cons_head _ _ (cons_tail q) in
    let r : part (p + 2) n w ≡ copy_words cs = cons_tail (cons_tail q) in
    rw (a, b, copies_of_lem cs w (p + 2) (omega arith) r)

-- attachments whose words stand from p on, with their copies from number k on
attachments-of : (ts : List Attachment) (w : List ℕ) (p k : ℕ) → p + 3 * length ts ≤ length w → part p (3 * length ts) w ≡ attachment_words ts
    → copies_from w (2 * k) (length (own_copies ts)) ≡ own_copies ts → attachments_from w p k (length ts) ≡ ts
unfolding attachments_from attachment_words own_copies
attachments-of [] w p k h e o = refl
attachments-of (t ∷ ts) w p k h e o =
    let n : ℕ = 3 * length ts in
    let z : 3 * suc (length ts) ≡ suc (suc (suc n)) = omega arith in
    let three : part p (3 * suc (length ts)) w ≡ get_or w p 0 ∷ get_or w (p + 1) 0 ∷ get_or w (p + 2) 0 ∷ part (p + 3) n w =
    rw z (part_cons w p (p + 1) (suc (suc n)) refl (omega arith)
    ∙ ap (λ (l : List ℕ). get_or w p 0 ∷ l) (part_cons w (p + 1) (p + 2) (suc n) (omega arith) (omega arith))
    ∙ ap (λ (l : List ℕ). get_or w p 0 ∷ get_or w (p + 1) 0 ∷ l) (part_cons w (p + 2) (p + 3) n (omega arith) (omega arith))) in
    let q : get_or w p 0 ∷ get_or w (p + 1) 0 ∷ get_or w (p + 2) 0 ∷ part (p + 3) n w ≡ t.from ∷ t.to ∷ length t.own ∷ attachment_words ts = sym three ∙ e in
    let a : get_or w p 0 ≡ t.from = cons_head _ _ q in
    let b : get_or w (p + 1) 0 ≡ t.to = cons_head _ _ (cons_tail q) in
    let c : get_or w (p + 2) 0 ≡ length t.own = cons_head _ _ (cons_tail (cons_tail q)) in
    let r : part (p + 3) n w ≡ attachment_words ts = cons_tail (cons_tail (cons_tail q)) in
    let m : ℕ = length (own_copies ts) in
    let all : copies_from w (2 * k) (length t.own + m) ≡ t.own ++ own_copies ts =
    sym (ap (copies_from w (2 * k)) (length-append t.own (own_copies ts))) ∙ o in
    let own : copies_from w (2 * k) (length t.own) ≡ t.own =
    sym (copies-take w (2 * k) (length t.own) m) ∙ ap (take (length t.own)) all ∙ take-append_seam t.own (own_copies ts) in
    let y : 2 * (k + length t.own) ≡ 2 * k + 2 * length t.own = omega arith in
    let rest : copies_from w (2 * (k + length t.own)) m ≡ own_copies ts =
    rw y (sym (copies-drop w (2 * k) (length t.own) m) ∙ ap (drop (length t.own)) all ∙ drop-append_seam t.own (own_copies ts)) in
    rw (a, b, c, own, attachments-of ts w (p + 3) (k + length t.own) (omega arith) r rest)

-- ---- the history chain has at most as many blocks as turns
history-few : (most turns : ℕ) (s : List ℕ) (a : ℕ) (h h' : History) → history_from most turns s a h ≡ ok h'
    → length h'.chain ≤ length h.chain + turns
unfolding history_from
history-few most zero s a h h' e =
    let q : length h.chain ≡ length h'.chain = ap (λ (x : History). length x.chain) (ok_same e) in
    omega arith
history-few most (suc turns) s a h h' e =
    let same : ok h ≡ ok h' → length h'.chain ≤ length h.chain + suc turns = λ q.
    let z : length h.chain ≡ length h'.chain = ap (λ (x : History). length x.chain) (ok_same q) in
    omega arith in
    by_eq a 0 _ _ e same (λ q. by-pick (is_in a h.chain) _ _ q same (λ r.
    let w = then_ok (whole_at s a) _ r in
    by-pick (is_copied (kind_at s a)) _ _ w.2 (λ t.
    let k = eq_back (links_at s a) 0 _ _ t refused≢ok in
    let m = then_ok (copy_root most s a h.made) _ k in
    let i = history-few most turns s (first_link s a) _ h' m.2 in
    omega (arith, simp length-append at i))
    same))

pub chain-few : (most : ℕ) (s : List ℕ) (a : ℕ) (m : Copies) (h : History) → history_of most s a m ≡ ok h → length h.chain ≤ most + 1
unfolding history_of
chain-few most s a m h e = omega (arith, history-few most (most + 1) s a (history [] m) h e)

length-copy_words : (cs : List Copy) → length (copy_words cs) ≡ 2 * length cs
unfolding copy_words
length-copy_words [] = refl
length-copy_words (c ∷ cs) = let e = length-copy_words cs in omega arith

-- ---- the words of a layout
first : Layout → List ℕ → List ℕ
first l w = blit 0 (copy_words l.attached.made.memo) w

second : Layout → List ℕ → List ℕ
second l w = blit attachments_at (attachment_words l.attached.attachments) (first l w)

module _ {l : Layout} (o : Worded l) (w w' : List ℕ) (long : 8192 ≤ length w) (e : w' ≡ laid_copies l w) where
  first-long : length (first l w) ≡ length w
  unfolding first
  first-long = length-blit 0 (copy_words l.attached.made.memo) w

  second-long : length (second l w) ≡ length w
  unfolding second
  second-long = length-blit attachments_at (attachment_words l.attached.attachments) (first l w) ∙ first-long

  laid-long : length w' ≡ length w
  unfolding laid_copies first second
  laid-long =
      ap length e ∙ length-blit placed_at (placed_words l.placed) (blit history_at l.past.chain (second l w))
      ∙ length-blit history_at l.past.chain (second l w) ∙ second-long

  pub copies_read : copies_in w' (length l.attached.made.memo) ≡ l.attached.made.memo
  unfolding laid_copies first second
  copies_read =
      let m : List Copy = l.attached.made.memo in
      let k : length (copy_words m) ≡ 2 * length m = length-copy_words m in
      let few = o.few in
      let r : part 0 (length (copy_words m)) w' ≡ copy_words m =
      ap (part 0 (length (copy_words m))) e
      ∙ part-blit_before (placed_words l.placed) placed_at 0 _ (blit history_at l.past.chain (second l w)) (omega arith)
      ∙ part-blit_before l.past.chain history_at 0 _ (second l w) (omega arith)
      ∙ part-blit_before (attachment_words l.attached.attachments) attachments_at 0 _ (first l w) (omega arith)
      ∙ part-blit 0 (copy_words m) w (omega arith) in
      copies_of_lem m w' 0 (omega (arith, laid-long)) (rw k at r)

  pub chain_read : part history_at (length l.past.chain) w' ≡ l.past.chain
  unfolding laid_copies first second
  chain_read =
      ap (part history_at (length l.past.chain)) e
      ∙ part-blit_before (placed_words l.placed) placed_at history_at _ (blit history_at l.past.chain (second l w)) (omega (arith, o.chained))
      ∙ part-blit history_at l.past.chain (second l w) (omega (arith, o.chained, second-long))

  -- the copies of the attachments follow those of the metadata
  own_read : copies_from w' (2 * length l.metadata.memo) (length (own_copies l.attached.attachments)) ≡ own_copies l.attached.attachments
  own_read =
      let m : List Copy = l.metadata.memo in
      let own : List Copy = own_copies l.attached.attachments in
      let c : copies_from w' 0 (length m + length own) ≡ m ++ own =
      ap (copies_from w' 0) (sym (ap length o.all ∙ length-append m own)) ∙ copies_read ∙ o.all in
      let y : 0 + 2 * length m ≡ 2 * length m = omega arith in
      sym (ap (λ (p : ℕ). copies_from w' p (length own)) y) ∙ sym (copies-drop w' 0 (length m) (length own))
      ∙ ap (drop (length m)) c ∙ drop-append_seam m own

  pub attachments_read : attachments_in w' (length l.metadata.memo) (length l.attached.attachments) ≡ l.attached.attachments
  unfolding laid_copies first second
  attachments_read =
      let ts : List Attachment = l.attached.attachments in
      let most : length ts ≤ 64 = o.most in
      let k : length (attachment_words ts) ≡ 3 * length ts = length-words ts in
      let r : part attachments_at (length (attachment_words ts)) w' ≡ attachment_words ts =
      ap (part attachments_at (length (attachment_words ts))) e
      ∙ part-blit_before (placed_words l.placed) placed_at attachments_at _ (blit history_at l.past.chain (second l w)) (omega arith)
      ∙ part-blit_before l.past.chain history_at attachments_at _ (second l w) (omega arith)
      ∙ part-blit attachments_at (attachment_words ts) (first l w) (omega (arith, first-long)) in
      attachments-of ts w' attachments_at (length l.metadata.memo) (omega (arith, laid-long)) (rw k at r) own_read

  -- those of the HD comment and the history chain stand first, then those of the columns
  pub history-copies : part 0 (length l.past.made.memo) (copies_in w' (length l.attached.made.memo)) ≡ l.past.made.memo
  unfolding part
  history-copies =
      let m : List Copy = l.past.made.memo in
      let all : l.attached.made.memo ≡ m ++ (o.new ++ own_copies l.attached.attachments) =
      o.all ∙ ap (λ (x : List Copy). x ++ own_copies l.attached.attachments) o.columns
      ∙ append_assoc m o.new (own_copies l.attached.attachments) in
      ap (take (length m)) (copies_read ∙ all) ∙ take-append_seam m (o.new ++ own_copies l.attached.attachments)

  pub metadata_copies : part 0 (length l.metadata.memo) (copies_in w' (length l.attached.made.memo)) ≡ l.metadata.memo
  unfolding part
  metadata_copies =
      ap (take (length l.metadata.memo)) (copies_read ∙ o.all)
      ∙ take-append_seam l.metadata.memo (own_copies l.attached.attachments)

  pub columns-copies : part (length l.past.made.memo) (length l.metadata.memo - length l.past.made.memo)
      (copies_in w' (length l.attached.made.memo)) ≡ drop (length l.past.made.memo) l.metadata.memo
  unfolding part
  columns-copies =
      let m : List Copy = l.past.made.memo in
      let own : List Copy = own_copies l.attached.attachments in
      let k : length m ≤ length l.metadata.memo = omega (arith, ap length o.columns ∙ length-append m o.new) in
      let d : drop (length m) (l.metadata.memo ++ own) ≡ drop (length m) l.metadata.memo ++ own = drop-append-le (length m) l.metadata.memo own k in
      let c : length (drop (length m) l.metadata.memo) ≡ length l.metadata.memo - length m = length-drop (length m) l.metadata.memo in
      ap (λ (x : List Copy). take (length l.metadata.memo - length m) (drop (length m) x)) (copies_read ∙ o.all)
      ∙ ap (take (length l.metadata.memo - length m)) d
      ∙ rw (← c) (take-append_seam (drop (length m) l.metadata.memo) own)

-- ---- what the words give to those that write
laid_at_to : (s : List ℕ) (a d e : ℕ) (ts : List Attachment) → LaidAt s a ts d → d ≤ e → LaidAt s a ts e
unfolding LaidAt
laid_at_to s a d e [] l h = omega arith
laid_at_to s a d e (t ∷ ts) l h = (l.0, l.1, laid_at_to s (t.to + size_at s t.from) d e ts l.2 h)

module _ {l : Layout} (o : Worded l) {used past metadata chain count : ℕ} (c : Numbers l used past metadata chain count) where
  pub copies_order : (past ≤ metadata) × (metadata ≤ used) × (used ≤ 2050) × (chain ≤ 2051) × (count ≤ 64)
  copies_order =
      let x = ap length o.columns ∙ length-append l.past.made.memo o.new in
      let y = ap length o.all ∙ length-append l.metadata.memo (own_copies l.attached.attachments) in (
        omega (arith, c.first, c.next, x),
        omega (arith, c.next, c.all, y),
        omega (arith, c.all, o.few),
        omega (arith, c.blocks, o.chained),
        omega (arith, c.moved, o.most),
      )

  module _ (w w' : List ℕ) (long : 8192 ≤ length w) (e : w' ≡ laid_copies l w) where
    pub chain_is : part history_at chain w' ≡ l.past.chain
    chain_is = rw c.blocks (chain_read o w w' long e)

    pub all_is : copies_in w' used ≡ memo_of l
    all_is = rw c.all (copies_read o w w' long e)

    first_is_lem : part 0 (past - 0) (copies_in w' used) ≡ l.past.made.memo
    first_is_lem = rw (sub-zero, c.first, c.all) (history-copies o w w' long e)

    next_is : part past (metadata - past) (copies_in w' used) ≡ drop (length l.past.made.memo) l.metadata.memo
    next_is = rw (c.first, c.next, c.all) (columns-copies o w w' long e)

    front_is : part 0 (metadata - 0) (copies_in w' used) ≡ l.metadata.memo
    front_is = rw (sub-zero, c.next, c.all) (metadata_copies o w w' long e)

    pub moved_is : attachments_in w' metadata count ≡ l.attached.attachments
    moved_is = rw (c.next, c.moved) (attachments_read o w w' long e)

    -- there is room for each copy and attachment, up to where the next blocks begin
    module _ (s : List ℕ) (a d f : ℕ) where
      pub history-room : Laid s a l.past.made.memo d → d ≤ f → Laid s a (part 0 (past - 0) (copies_in w' used)) f
      history-room k h = subst (λ (m : List Copy). Laid s a m f) (sym first_is_lem) (laid-to s a d f l.past.made.memo k h)

      pub columns-room : Laid s a (drop (length l.past.made.memo) l.metadata.memo) d → d ≤ f
          → Laid s a (part past (metadata - past) (copies_in w' used)) f
      columns-room k h =
          subst (λ (m : List Copy). Laid s a m f) (sym next_is) (laid-to s a d f (drop (length l.past.made.memo) l.metadata.memo) k h)

      pub metadata_room : Laid s a l.metadata.memo d → d ≤ f → Laid s a (part 0 (metadata - 0) (copies_in w' used)) f
      metadata_room k h = subst (λ (m : List Copy). Laid s a m f) (sym front_is) (laid-to s a d f l.metadata.memo k h)

      pub attachments-room : LaidAt s a l.attached.attachments d → d ≤ f → LaidAt s a (attachments_in w' metadata count) f
      attachments-room k h =
          subst (λ (ts : List Attachment). LaidAt s a ts f) (sym moved_is) (laid_at_to s a d f l.attached.attachments k h)

    pub attachments-few : metadata + length (own_copies (attachments_in w' metadata count)) ≤ used
    attachments-few =
        let y = ap length o.all ∙ length-append l.metadata.memo (own_copies l.attached.attachments) in
        rw moved_is (omega (arith, c.next, c.all, y))

    -- the blocks are those of the result
    module _ (s : List ℕ) (fh : ℕ) where
      pub history-blocks : copied_blocks s (part history_at chain w') (copies_in w' used) fh (part 0 (past - 0) (copies_in w' used))
          ≡ copied_blocks s l.past.chain (memo_of l) fh l.past.made.memo
      history-blocks = rw (first_is_lem, chain_is, all_is)

      pub columns-blocks : copied_blocks s (part history_at chain w') (copies_in w' used) fh (part past (metadata - past) (copies_in w' used))
          ≡ copied_blocks s l.past.chain (memo_of l) fh (drop (length l.past.made.memo) l.metadata.memo)
      columns-blocks = rw (next_is, chain_is, all_is)

      pub metadata_blocks : copied_blocks s (part history_at chain w') (copies_in w' used) fh (part 0 (metadata - 0) (copies_in w' used))
          ≡ copied_blocks s l.past.chain (memo_of l) fh l.metadata.memo
      metadata_blocks = rw (front_is, chain_is, all_is)

      pub attachments-blocks : attachment_blocks s (part history_at chain w') (copies_in w' used) fh (attachments_in w' metadata count)
          ≡ attachment_blocks s l.past.chain (memo_of l) fh l.attached.attachments
      attachments-blocks = rw (moved_is, chain_is, all_is)
