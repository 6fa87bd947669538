-- Every copy that was made stands in the file, and the links of a column's blocks lead to copies.
use Prim.Native.Nat.{ℕ, ◌+◌, ◌^◌, ◌<◌}
use mathlib.Core.List.{List, [], ◌∷◌, ◌++◌}
use Rattle.std.specs.Prelude.{true, ◌≡◌, length, drop, get_or}
use Rattle.std.proofs.Math.Path.{refl}
use Rattle.std.proofs.Common.{sym, ap, ◌∙◌, subst, arith, lit<}
use Rattle.std.proofs.Math.Seq.{drop-append_seam}
use Rattle.base.specs.Checked.{fine}
use Rattle.mdf.specs.Block.{link_at}
use Rattle.plan.specs.Rules.{Rules}
use Rattle.plan.specs.Photos.{references, photos_in}
use Rattle.plan.specs.Columns.{Column}
use Rattle.plan.specs.Copies.{Copy, most_copies, Attachment, column_links}
use Rattle.plan.specs.Layout.{Layout, Placed, cg_of, cn_of}
use Rattle.result.specs.Fill.{Block, block, copied_bytes, copied_blocks, attachment_blocks, dg_bytes, cg_bytes, cn_bytes, structure_blocks, next_dg, new_link, next_attachment}
use Rattle.result.specs.Ordered.{Ordered}
use Rattle.result.specs.Result.{Args, memo_of, first_fh, blocks_of, rules_of}
use Rattle.result.specs.Names.{LinkDue, NamesDue, HistoryDue, NewHistory, AttachmentsDue, chain_place, PhotosDue}
use Rattle.result.specs.Recording.{attached_from}
use Rattle.result.specs.Guarantee.{Stands, In, here, there}
use Rattle.copies_laws.specs.AttachLaws.{own_copies}
use Rattle.copies_laws.specs.PhotoLaws.{header-moved, attached_nonzero, attached_to}
use Rattle.copies_laws.specs.LayoutLaws.{LaidOut, columns-after-history, attachments-laid}
use Rattle.copies_laws.specs.MemoLaws.{Followed, Made, Kept, followed-kept, kept_then, root_kept, past-kept, columns-kept, attached_kept, attached_other, past-listed, past-kept-to}
use Rattle.plan_laws.specs.Lists.{in_none}
use Rattle.shown_laws.specs.Flat.{in_front_lem, in_back}
use Rattle.shown_laws.specs.AllShown.{structure, attachments, after_hd, in_rest, in_later, in_structure, in_md, in_fh, in_history, in_columns_lem, in_attachments, rest-within}
use Rattle.shown_laws.specs.Shapes.{hd_links, dg_links, cg_words, cn_links, cn_photo}
use Rattle.shown_laws.specs.ColumnShown.{ColumnSound, dg-link, cg-link, cn-link}
use Rattle.guarantee.specs.Front.{hd-link}
use Rattle.guarantee.specs.Past.{first_small, history-due, new_history}
use Rattle.guarantee.specs.Named.{CopyStands, new_small, link-due}
use Rattle.guarantee.specs.Attached.{next_small, attachments-due, attached_place}
use Rattle.guarantee.specs.Photos.{photos_due_lem}

-- ---- which blocks of the file copies are
in_either : {A P : Type 0} {a : A} (xs : List A) {ys : List A} → In a (xs ++ ys) → (In a xs → P) → (In a ys → P) → P
in_either [] i f g = g i
in_either (x ∷ xs) here f g = f here
in_either (x ∷ xs) (there i) f g = in_either xs i (λ j. f (there j)) g

abbrev block_of : List ℕ → List ℕ → List Copy → ℕ → Copy → Block
block_of s chain memo fh c = block c.to (copied_bytes s chain memo fh c.from)

module _ (s chain : List ℕ) (memo : List Copy) (fh : ℕ) {c : Copy} where
  pub copied_in : (cs : List Copy) → In c cs → In (block_of s chain memo fh c) (copied_blocks s chain memo fh cs)
  unfolding copied_blocks
  copied_in [] x' = elim x' [ ]
  copied_in (c ∷ cs) here = here
  copied_in (b ∷ cs) (there i) = there (copied_in cs i)

  pub attached_in_lem : (ts : List Attachment) → In c (own_copies ts) → In (block_of s chain memo fh c) (attachment_blocks s chain memo fh ts)
  unfolding own_copies attachment_blocks
  attached_in_lem [] i = elim i [ ]
  attached_in_lem (t ∷ ts) i =
      in_either t.own i (λ j. in_front_lem _ (copied_in t.own j)) (λ j. in_back (copied_blocks s chain memo fh t.own) (there (attached_in_lem ts j)))

-- DG, CG and CN of a placed column
pub record Structured (o : Rules) (s : List ℕ) (size : ℕ) (memo : List Copy) (ats : List Attachment) (all : List Placed) (bs : List Block) (p : Placed) : Type 0 where
  pub next : ℕ
  pub dg : In (block p.dg (dg_bytes s size memo p next)) bs
  pub cg : In (block (cg_of p) (cg_bytes s memo all p)) bs
  pub cn : In (block (cn_of p) (cn_bytes o s memo ats p)) bs

pub structured : (o : Rules) (s : List ℕ) (size : ℕ) (memo : List Copy) (ats : List Attachment) (all ps : List Placed) (p : Placed) → In p ps
    → Structured o s size memo ats all (structure_blocks o s size memo ats all ps) p
unfolding structure_blocks
structured o s size memo ats all [] p x' = elim x' [ ]
structured o s size memo ats all (q ∷ ps) p here = record { next = next_dg ps; dg = here; cg = there here; cn = there (there here) }
structured o s size memo ats all (q ∷ ps) p (there i) =
    let r = structured o s size memo ats all ps p i in
    record {
      next = r.next;
      dg = in_later o s size memo ats all q ps r.dg;
      cg = in_later o s size memo ats all q ps r.cg;
      cn = in_later o s size memo ats all q ps r.cn;
    }

module _ (x : Args) (cs : List Column) (l : Layout) (o : LaidOut (rules_of x) x.image x.block_size (length x.text) cs l) where
  pub copy_in_file : (c : Copy) → In c (memo_of l) → In (block_of x.image l.past.chain (memo_of l) l.fh c) (after_hd x l)
  copy_in_file c i =
      let s : List ℕ = x.image in
      let new = (columns-after-history o).new in
      let later : drop (length l.past.made.memo) l.metadata.memo ≡ new =
      ap (drop (length l.past.made.memo)) (columns-after-history o).memo ∙ drop-append_seam l.past.made.memo new in
      in_either l.metadata.memo (subst (In c) (attachments-laid o).memo i)
      (λ j. in_either l.past.made.memo (subst (In c) (columns-after-history o).memo j)
      (λ h. in_history x l (copied_in s l.past.chain (memo_of l) l.fh l.past.made.memo h))
      (λ h. in_columns_lem x l (copied_in s l.past.chain (memo_of l) l.fh _ (subst (In c) (sym later) h))))
      (λ j. in_attachments x l (attached_in_lem s l.past.chain (memo_of l) l.fh l.attached.attachments j))

  -- ---- what was followed
  columns-all : Kept x.image l.metadata.memo (memo_of l)
  columns-all = attached_kept most_copies x.image _ _ l.attached o.attached

  pub all_made : (c : Copy) → In c (memo_of l) → Made x.image (memo_of l) c
  all_made =
      (kept_then (root_kept most_copies x.image _ _ _ o.comment).0
      (kept_then (past-kept most_copies x.image _ _ _ o.past) (kept_then (columns-kept most_copies x.image cs _ _ o.metadata).0 columns-all))).made
      (λ c i. absurd (in_none i))

  pub comment_followed : Followed x.image (memo_of l) (link_at x.image 64 5)
  comment_followed =
      followed-kept (kept_then (past-kept most_copies x.image _ _ _ o.past) (kept_then (columns-kept most_copies x.image cs _ _ o.metadata).0 columns-all)) _
      (root_kept most_copies x.image _ _ _ o.comment).1

  pub column-followed : (c : Column) → In c cs → (a : ℕ) → In a (column_links x.image c) → Followed x.image (memo_of l) a
  column-followed c i a j = followed-kept columns-all a ((columns-kept most_copies x.image cs _ _ o.metadata).1 c i a j)

  -- ---- the file
  module _ (f : List ℕ) (bytes : (i : ℕ) → get_or x.image i 0 < 256) (order : Ordered 0 (blocks_of x l) l.file_size_lem) (small : l.file_size_lem < 256 ^ 8)
      (filled : (b : Block) → In b (blocks_of x l) → Stands f b.at b.bytes) where
    pub copy_stands : (c : Copy) → In c (memo_of l) → CopyStands x.image f l.past.chain (memo_of l) l.fh c
    copy_stands c i =
        let j = copy_in_file c i in
        let w = rest-within x l order j in
        record {
          stands = filled _ (in_rest x l j);
          above = omega (arith, w.0);
          below = omega (arith, w.1);
          made = all_made c i;
        }

    pub link-led : (k a : ℕ) → Followed x.image (memo_of l) a → LinkDue k x.image f l.past.chain a (new_link (memo_of l) a)
    link-led k a follows = link-due x.image f bytes l.past.chain (memo_of l) l.fh copy_stands k a follows

    pub led-small : (a : ℕ) → new_link (memo_of l) a < 256 ^ 8
    led-small a = new_small x.image f bytes l.past.chain (memo_of l) l.fh copy_stands a

    -- HD's comment
    pub comment_due : (k : ℕ) → LinkDue k x.image f l.past.chain (link_at x.image 64 5) (link_at f 64 5)
    unfolding hd_links
    comment_due k = rw (hd-link x l f filled 5 (lit< tt) (led-small _)) (link-led k _ comment_followed)

    -- the history
    pub past-due : HistoryDue x.image f l.past.chain l.fh l.past.chain (link_at f 64 1)
    unfolding hd_links
    past-due =
        let s : List ℕ = x.image in
        let m = past-listed most_copies s _ _ _ o.past in
        let small : l.fh < 256 ^ 8 = omega (arith, (rest-within x l order (in_fh x l)).1, small) in
        let chained : l.past.chain ≡ m.more = m.chain in
        let keeps = kept_then (columns-kept most_copies s cs _ _ o.metadata).0 columns-all in
        let due : HistoryDue s f l.past.chain l.fh l.past.chain (first_fh (memo_of l) l.past.chain l.fh) =
        history-due s f bytes l.past.chain (memo_of l) l.fh copy_stands small [] l.past.chain refl (rw chained m.fresh)
        (λ b i. past-kept-to keeps b (m.each b (subst (In b) chained i))) in
        rw (hd-link x l f filled 1 (lit< tt)
        (first_small s f bytes l.past.chain (memo_of l) l.fh copy_stands small l.past.chain)) due

    pub newest-due : NewHistory x f l.fh
    newest-due =
        new_history x l f (omega (arith, (rest-within x l order (in_md x l)).1, small)) (filled _ (in_rest x l (in_md x l))) (filled _ (in_rest x l (in_fh x l)))

    -- the attachments
    attached_below : (c : Block) → In c (attachments x l) → c.at < 256 ^ 8
    attached_below c i = omega (arith, (rest-within x l order (in_attachments x l i)).1, small)

    attached_above : (c : Block) → In c (attachments x l) → 0 < c.at
    attached_above c i = omega (arith, (rest-within x l order (in_attachments x l i)).0)

    first_attached : link_at f 64 3 ≡ next_attachment l.attached.attachments
    unfolding hd_links
    first_attached =
        hd-link x l f filled 3 (lit< tt)
        (next_small x.image f bytes l.past.chain (memo_of l) l.fh copy_stands l.attached.attachments attached_below)

    pub attached_due : AttachmentsDue x.image f l.past.chain (attached_from l.attached.attachments) (link_at f 64 3)
    attached_due =
        rw first_attached (attachments-due x.image f bytes l.past.chain (memo_of l) l.fh copy_stands l.attached.attachments _ _
        (attachments-laid o).laid (attached_other most_copies x.image _ _ _ o.attached) attached_above attached_below
        (λ c i. filled c (in_rest x l (in_attachments x l i))))

    attached_at_lem : (k : ℕ) → k < length (attached_from l.attached.attachments)
        → (chain_place f (link_at f 64 3) k ≡ get_or (attached_to l.attached.attachments) k 0) × (get_or (attached_to l.attached.attachments) k 0 < 256 ^ 8)
    attached_at_lem =
        rw first_attached (attached_place x.image f bytes l.past.chain (memo_of l) l.fh copy_stands l.attached.attachments _ _
        (attachments-laid o).laid attached_above attached_below (λ c i. filled c (in_rest x l (in_attachments x l i))))

    -- "per column the copies of CG links 3, 4, 6, CN links 3, 4, 5, 7, 8, the DG comment"
    module _ (p : Placed) (i : In p l.placed) (c : In p.column cs) (sound : ColumnSound x.image x.block_size p) where
      parts : Structured (rules_of x) x.image x.block_size (memo_of l) l.attached.attachments l.placed (structure x l) p
      parts = structured (rules_of x) x.image x.block_size (memo_of l) l.attached.attachments l.placed l.placed p i

      abbrev Led : ℕ → ℕ → ℕ → Type 0
      Led k a b = LinkDue k x.image f l.past.chain a b

      led : (k a b : ℕ) → In a (column_links x.image p.column) → b ≡ new_link (memo_of l) a → Led k a b
      led k a b j e = rw e (link-led k a (column-followed p.column c a j))

      pub names_due : (k : ℕ) → NamesDue k x.image f l.past.chain p
      unfolding dg_links cg_words cn_links
      names_due k =
          let s : List ℕ = x.image in
          let dg = dg-link s x.block_size (memo_of l) l.placed p parts.next sound (filled _ (in_structure x l parts.dg)) in
          let cg = cg-link s x.block_size (memo_of l) l.placed p parts.next sound (filled _ (in_structure x l parts.cg)) in
          let cn = cn-link (rules_of x) s x.block_size (memo_of l) l.attached.attachments p sound (filled _ (in_structure x l parts.cn)) in
          record {
            group_name = led k _ _ here (cg 2 (lit< tt) (led-small _));
            group_source = led k _ _ (there here) (cg 3 (lit< tt) (led-small _));
            group_comment = led k _ _ (there (there here)) (cg 5 (lit< tt) (led-small _));
            name = led k _ _ (there (there (there here))) (cn 2 (omega arith) (led-small _));
            source = led k _ _ (there (there (there (there here)))) (cn 3 (omega arith) (led-small _));
            conversion = led k _ _ (there (there (there (there (there here))))) (cn 4 (omega arith) (led-small _));
            unit = led k _ _ (there (there (there (there (there (there here)))))) (cn 6 (omega arith) (led-small _));
            comment = led k _ _ (there (there (there (there (there (there (there here))))))) (cn 7 (omega arith) (led-small _));
            data_comment = led k _ _ (there (there (there (there (there (there (there (there here)))))))) (dg 3 (lit< tt) (led-small _));
          }

      -- "links lead to the moved AT" (document 02, request 9)
      pub column_photos_lem : p.column.photos ≡ references x.image p.column.channel → photos_in true x.image p.column.channel ≡ fine
          → PhotosDue x.image f (attached_from l.attached.attachments) p.column.channel (cn_of p)
      column_photos_lem e tested =
          let s : List ℕ = x.image in
          let cn = cn-link (rules_of x) s x.block_size (memo_of l) l.attached.attachments p sound (filled _ (in_structure x l parts.cn)) in
          photos_due_lem f l.attached.attachments (attached_nonzero most_copies s _ _ o.attached) attached_at_lem s p.column.channel (cn_of p)
          (header-moved most_copies s _ _ o.attached) tested
          (rw (← e) (λ i h b.
          let w = cn_photo s (memo_of l) l.attached.attachments p i in
          cn (8 + i) (omega arith) (rw w b) ∙ w))
