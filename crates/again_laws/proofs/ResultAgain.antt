-- An accepted result: its links are good, so that copying it again refuses with 16 or 19 only; its references are tested without a refusal.
use Prim.{tt}
use Rattle.std.specs.Prelude.{ℕ, suc, ◌+◌, ◌^◌, ◌<◌, List, [], ◌∷◌, Bool, true, ◌⊎◌, ◌≡◌, refl, length, get_or}
use Rattle.std.proofs.Common.{inl, inr, sym, ap, subst, ◌∙◌, arith, lit<}
use Rattle.base.specs.Blit.{blit}
use Rattle.base.specs.Checked.{ok, fine}
use Rattle.base.specs.Field.{le_at}
use Rattle.mdf.specs.Block.{links_at, link_at, data_at}
use Rattle.mdf.specs.Chain.{is_in}
use Rattle.plan.specs.Columns.{Column}
use Rattle.plan.specs.Copies.{Copy, most_copies, Attachment, column_links}
use Rattle.plan.specs.Layout.{Layout, Placed, cn_of, layout}
use Rattle.plan.specs.Photos.{header_chain, photo_count, photos_first, photos_in}
use Rattle.plan.specs.Rules.{Rules}
use Rattle.result.specs.Due.{photos_due, due}
use Rattle.result.specs.Fill.{Block, new_link, next_attachment}
use Rattle.result.specs.Links.{head_at, Shown, shown_at}
use Rattle.result.specs.Names.{chain_place, PhotoDue}
use Rattle.result.specs.Recording.{attached_from}
use Rattle.result.specs.Result.{Args, Decided, rules_of, memo_of, first_fh, blocks_of, file_of, answer}
use Rattle.result.specs.Guarantee.{Stands, In, here, there}
use Rattle.copies_laws.specs.LayoutLaws.{attachments-laid}
use Rattle.copies_laws.specs.MemoLaws.{past-listed}
use Rattle.copies_laws.specs.PhotoLaws.{attached_to}
use Rattle.plan_laws.specs.Answers.{or_not}
use Rattle.plan_laws.specs.Lists.{in_none}
use Rattle.file_guarantee.specs.ColumnForm.{file_column}
use Rattle.plan_laws.specs.Decision.{answer_accepted}
use Rattle.plan_laws.specs.Known.{Known, answer-known}
use Rattle.shown_laws.specs.AllShown.{structure, attachments, in_rest, in_structure, in_md, in_fh, in_attachments, rest-within}
use Rattle.shown_laws.specs.ColumnShown.{dg-link, cg-link, cn-link}
use Rattle.shown_laws.specs.Final.{file-filled}
use Rattle.shown_laws.specs.Shapes.{hd_links, dg_links, cg_words, cn_links}
use Rattle.guarantee.specs.Attached.{next_small, attached_place}
use Rattle.guarantee.specs.Copied.{Structured, structured, copy_stands}
use Rattle.guarantee.specs.Front.{hd-link}
use Rattle.guarantee.specs.Named.{CopyStands, new_small}
use Rattle.guarantee.specs.Past.{first_small}
use Rattle.guarantee.specs.Theorem.{AllBytes, guaranteed, o, ordered, file-below, sound}
use Rattle.again_laws.specs.Gives.{Gives}
use Rattle.again_laws.specs.Held.{Held}
use Rattle.again_laws.proofs.HeldLaws.{fields, cn-from, result-held}
use Rattle.again_laws.proofs.OrderAgain.{column_again, columns_again}
use Rattle.again_laws.proofs.DataAgain.{group_again}
use Rattle.again_laws.specs.CopyAgain.{deeper, Any, layout-gives}
use Rattle.again_laws.specs.GoodAgain.{Good, entry, new_good, good_whole, good_closed, PastAt, goes_on, past-good, past_linked_lem, past_next_lem}
use Rattle.again_laws.specs.AttachAgain.{all-passed, AllAt, all-at, AtFrom, at_from, at-header, at_tested, at-good, at_following}
use Rattle.again_laws.specs.PhotosAgain.{laid_rising, placed_in_lem, chain-again, first-again, photos_fine-again}

placed-many : (ts : List Attachment) → length (attached_to ts) ≡ length (attached_from ts)
unfolding attached_to attached_from
placed-many [] = refl
placed-many (t ∷ ts) = ap suc (placed-many ts)

-- the count and the links of a column's CN
photo_count_lem : (f : List ℕ) (o : Rules) (s : List ℕ) (size : ℕ) (all : List Placed) (p : Placed) → Held f o s size all p → o.photos ≡ true
    → photo_count f (cn_of p) ≡ le_at 2 s (data_at s p.column.channel + 22)
unfolding photo_count photos_due
photo_count_lem f o s size all p h b = (fields f o s size all p h.shown).attachments ∙ rw b

photo_links_lem : (f : List ℕ) (o : Rules) (s : List ℕ) (size : ℕ) (all : List Placed) (p : Placed) → Held f o s size all p → o.photos ≡ true
    → links_at f (cn_of p) ≡ 8 + le_at 2 s (data_at s p.column.channel + 22)
unfolding shown_at due head_at photos_due
photo_links_lem f o s size all p h b =
    ap (links_at f) (sym (cn-from f o s size all p h.shown)) ∙ ap (λ (c : Shown). c.cn_head.links) h.shown ∙ rw b

again_in : (photos : Bool) (f s : List ℕ) (size : ℕ) (ps : List Placed) (c : Column) → In c (columns_again photos f s size ps)
    → (p : Placed) × In p ps × (c ≡ column_again photos f s size p)
unfolding columns_again
again_in photos f s size [] c x' = elim x' [ ]
again_in photos f s size (p ∷ ps) c here = (p, here, refl)
again_in photos f s size (p ∷ ps) c (there i) = let r = again_in photos f s size ps c i in (r.0, there r.1, r.2)

module _ (x : Args) (out list : List ℕ) (d : Decided) (bytes : AllBytes x.image) (ident_bytes : AllBytes x.ident)
    (e : answer x (length out) (length list) ≡ ok d) where
  abbrev f : List ℕ
  f = blit 0 (file_of x d.laid_out) out

  abbrev s : List ℕ
  s = x.image

  abbrev l : Layout
  l = d.laid_out

  abbrev ps : List Placed
  ps = d.laid_out.placed

  abbrev memo : List Copy
  memo = memo_of d.laid_out

  abbrev ats : List Attachment
  ats = d.laid_out.attached.attachments

  k : Known x d
  k = answer-known x (length out) (length list) d e

  pub filled : (b : Block) → In b (blocks_of x l) → Stands f b.at b.bytes
  filled = file-filled x l out (ordered x d k) (answer_accepted x (length out) (length list) d e).output_fits

  pub copied : (c : Copy) → In c memo → CopyStands s f l.past.chain memo l.fh c
  copied = copy_stands x d.planned.columns l (o x d k) f bytes (ordered x d k) (file-below x d k) filled

  pub md_small_lem : l.md < 256 ^ 8
  md_small_lem = omega (arith, (rest-within x l (ordered x d k) (in_md x l)).1, file-below x d k)

  pub fh_small_lem : l.fh < 256 ^ 8
  fh_small_lem = omega (arith, (rest-within x l (ordered x d k) (in_fh x l)).1, file-below x d k)

  led-small : (a : ℕ) → new_link memo a < 256 ^ 8
  led-small a = new_small s f bytes l.past.chain memo l.fh copied a

  abbrev pub GoodLink : ℕ → Type 0
  GoodLink b = Good memo l.md l.fh b

  -- ---- HD
  pub comment_good : GoodLink (link_at f 64 5)
  unfolding hd_links
  comment_good = rw (hd-link x l f filled 5 (lit< tt) (led-small _)) (new_good memo l.md l.fh _)

  first_good : (chain : List ℕ) → GoodLink (first_fh memo chain l.fh)
  first_good [] = entry refl
  first_good (a ∷ chain) = new_good memo l.md l.fh a

  pub history-good : GoodLink (link_at f 64 1)
  unfolding hd_links
  history-good =
      rw (hd-link x l f filled 1 (lit< tt) (first_small s f bytes l.past.chain memo l.fh copied fh_small_lem l.past.chain)) (first_good l.past.chain)

  attached_below : (c : Block) → In c (attachments x l) → c.at < 256 ^ 8
  attached_below c i = omega (arith, (rest-within x l (ordered x d k) (in_attachments x l i)).1, file-below x d k)

  attached_above : (c : Block) → In c (attachments x l) → 0 < c.at
  attached_above c i = omega (arith, (rest-within x l (ordered x d k) (in_attachments x l i)).0)

  attached_stands : (c : Block) → In c (attachments x l) → Stands f c.at c.bytes
  attached_stands c i = filled c (in_rest x l (in_attachments x l i))

  pub first_attached : link_at f 64 3 ≡ next_attachment ats
  unfolding hd_links
  first_attached = hd-link x l f filled 3 (lit< tt) (next_small s f bytes l.past.chain memo l.fh copied ats attached_below)

  pub all_there : AllAt s f bytes l.past.chain memo l.md l.fh copied ats
  all_there =
      all-at s f bytes l.past.chain memo l.md l.fh copied ats _ _ (attachments-laid (o x d k)).laid (all-passed most_copies s _ _ l.attached (o x d k).attached)
      attached_above attached_below attached_stands

  linked : (c : ℕ) → In c l.past.chain → 0 < links_at s c
  linked c i =
      let m = past-listed most_copies s _ _ _ (o x d k).past in
      let q : l.past.chain ≡ m.more = m.chain in
      (m.each c (subst (In c) q i)).linked

  -- ---- columns
  module _ (p : Placed) (i : In p ps) where
    parts : Structured (rules_of x) s x.block_size memo ats ps (structure x l) p
    parts = structured (rules_of x) s x.block_size memo ats ps ps p i

    new : (a : ℕ) → GoodLink (new_link memo a)
    new a = new_good memo l.md l.fh a

    pub links_good : (photos : Bool) (a : ℕ) → In a (column_links f (column_again photos f s x.block_size p)) → GoodLink a
    unfolding column_again group_again file_column dg_links cg_words cn_links
    links_good photos a j =
        let dg = dg-link s x.block_size memo ps p parts.next (sound x d k bytes p i) (filled _ (in_structure x l parts.dg)) in
        let cg = cg-link s x.block_size memo ps p parts.next (sound x d k bytes p i) (filled _ (in_structure x l parts.cg)) in
        let cn = cn-link (rules_of x) s x.block_size memo ats p (sound x d k bytes p i) (filled _ (in_structure x l parts.cn)) in
        nine a _ _ _ _ _ _ _ _ _ j
        (rw (cg 2 (lit< tt) (led-small _)) (new _)) (rw (cg 3 (lit< tt) (led-small _)) (new _)) (rw (cg 5 (lit< tt) (led-small _)) (new _))
        (rw (cn 2 (omega arith) (led-small _)) (new _)) (rw (cn 3 (omega arith) (led-small _)) (new _)) (rw (cn 4 (omega arith) (led-small _)) (new _))
        (rw (cn 6 (omega arith) (led-small _)) (new _)) (rw (cn 7 (omega arith) (led-small _)) (new _)) (rw (dg 3 (lit< tt) (led-small _)) (new _))
      where
        nine : (a b0 b1 b2 b3 b4 b5 b6 b7 b8 : ℕ) → In a (b0 ∷ b1 ∷ b2 ∷ b3 ∷ b4 ∷ b5 ∷ b6 ∷ b7 ∷ b8 ∷ []) → GoodLink b0 → GoodLink b1 → GoodLink b2 → GoodLink b3 → GoodLink b4
            → GoodLink b5 → GoodLink b6 → GoodLink b7 → GoodLink b8 → GoodLink a
        nine a b0 b1 b2 b3 b4 b5 b6 b7 b8 here g0 g1 g2 g3 g4 g5 g6 g7 g8 = g0
        nine a b0 b1 b2 b3 b4 b5 b6 b7 b8 (there here) g0 g1 g2 g3 g4 g5 g6 g7 g8 = g1
        nine a b0 b1 b2 b3 b4 b5 b6 b7 b8 (there (there here)) g0 g1 g2 g3 g4 g5 g6 g7 g8 = g2
        nine a b0 b1 b2 b3 b4 b5 b6 b7 b8 (there (there (there here))) g0 g1 g2 g3 g4 g5 g6 g7 g8 = g3
        nine a b0 b1 b2 b3 b4 b5 b6 b7 b8 (there (there (there (there here)))) g0 g1 g2 g3 g4 g5 g6 g7 g8 = g4
        nine a b0 b1 b2 b3 b4 b5 b6 b7 b8 (there (there (there (there (there here))))) g0 g1 g2 g3 g4 g5 g6 g7 g8 = g5
        nine a b0 b1 b2 b3 b4 b5 b6 b7 b8 (there (there (there (there (there (there here)))))) g0 g1 g2 g3 g4 g5 g6 g7 g8 = g6
        nine a b0 b1 b2 b3 b4 b5 b6 b7 b8 (there (there (there (there (there (there (there here))))))) g0 g1 g2 g3 g4 g5 g6 g7 g8 = g7
        nine a b0 b1 b2 b3 b4 b5 b6 b7 b8 (there (there (there (there (there (there (there (there here)))))))) g0 g1 g2 g3 g4 g5 g6 g7 g8 = g8
        nine a b0 b1 b2 b3 b4 b5 b6 b7 b8 (there (there (there (there (there (there (there (there (there j))))))))) g0 g1 g2 g3 g4 g5 g6 g7 g8 = absurd (in_none j)

  -- ---- "metadata; attachments": 16 or 19
  pub copying_again : (photos : Bool) (o2 : Rules) (n : ℕ) → Gives deeper Any (layout o2 f x.block_size n (columns_again photos f s x.block_size ps))
  copying_again photos o2 n =
      let chain : List ℕ = l.past.chain in
      let short = k.steps.lent.text_length in
      let md = filled _ (in_rest x l (in_md x l)) in
      let fh = filled _ (in_rest x l (in_fh x l)) in
      layout-gives f GoodLink
      (good_whole s f bytes chain memo l.md l.fh copied md_small_lem fh_small_lem x.text x.time short md fh)
      (good_closed s f bytes chain memo l.md l.fh copied md_small_lem fh_small_lem x.text x.time short md fh)
      (PastAt s f bytes chain memo l.md l.fh copied md_small_lem fh_small_lem x.text x.time short md fh)
      (past-good s f bytes chain memo l.md l.fh copied md_small_lem fh_small_lem x.text x.time short md fh)
      (past_linked_lem s f bytes chain memo l.md l.fh copied md_small_lem fh_small_lem x.text x.time short md fh)
      (past_next_lem s f bytes chain memo l.md l.fh copied md_small_lem fh_small_lem x.text x.time short md fh)
      (AtFrom s f bytes chain memo l.md l.fh copied)
      (at-header s f bytes chain memo l.md l.fh copied)
      (at_tested s f bytes chain memo l.md l.fh copied)
      (at-good s f bytes chain memo l.md l.fh copied)
      (at_following s f bytes chain memo l.md l.fh copied)
      o2 x.block_size n (columns_again photos f s x.block_size ps) comment_good
      (goes_on history-good chain (guaranteed x out list d bytes e).history_kept linked)
      (rw first_attached (at_from s f bytes chain memo l.md l.fh copied ats all_there))
      (λ c i a j. let r = again_in photos f s x.block_size ps c i in
      links_good r.0 r.1 photos a (subst (λ (c' : Column). In a (column_links f c')) r.2 j))

  -- ---- photos
  pub header-again : header_chain f ≡ ok (attached_to ats)
  header-again =
      chain-again s f bytes l.past.chain memo l.md l.fh copied _ ats all_there (laid_rising s _ _ ats (attachments-laid (o x d k)).laid)
      (attachments-laid (o x d k)).most first_attached

  pub photos_first_lem : (photos : Bool) → photos_first photos f ≡ fine
  photos_first_lem photos = first-again photos f (attached_to ats) header-again

  places : (n : ℕ) → n < length (attached_from ats) → chain_place f (link_at f 64 3) n ≡ get_or (attached_to ats) n 0
  places n h =
      rw first_attached (attached_place s f bytes l.past.chain memo l.fh copied ats _ _ (attachments-laid (o x d k)).laid attached_above attached_below
      attached_stands n h).0

  led : (a b : ℕ) → PhotoDue f (attached_from ats) a b → (b ≡ 0) ⊎ (is_in b (attached_to ats) ≡ true)
  led a b h =
      or_not a 0 (λ z. inl (h.zero_stays z)) (λ n.
      let m = h.moved n in
      inr (rw (m.3 ∙ places m.0 m.1) (placed_in_lem ats m.0 (omega (arith, placed-many ats, m.1)))))

  pub referred_again : (p : Placed) → In p ps → photos_in x.photos f (cn_of p) ≡ fine
  referred_again p i =
      photos_fine-again x.photos f (attached_to ats) (cn_of p) header-again (λ b.
      let g = (guaranteed x out list d bytes e).photos b p i in
      let held = result-held x out list d bytes ident_bytes e p i in
      let count : photo_count f (cn_of p) ≡ le_at 2 s (data_at s p.column.channel + 22) = photo_count_lem f (rules_of x) s x.block_size ps p held b in
      let links : links_at f (cn_of p) ≡ 8 + le_at 2 s (data_at s p.column.channel + 22) = photo_links_lem f (rules_of x) s x.block_size ps p held b in
      (omega arith, λ n h. led _ _ (g.each n (omega arith))))
