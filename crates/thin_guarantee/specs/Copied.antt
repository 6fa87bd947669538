-- Every copy that was made stands in the new file; HD's comment, history and attachments lead to copies.
use Rattle.std.specs.Prelude.{ℕ, ◌+◌, ◌^◌, ◌<◌, true, ◌≡◌, length, get_or}
use mathlib.Core.List.{List, []}
use Rattle.std.proofs.Math.Path.{refl}
use Rattle.std.proofs.Common.{subst, arith, lit<}
use Rattle.base.specs.Checked.{fine}
use Rattle.mdf.specs.Block.{link_at}
use Rattle.mdf.specs.Name.{name_at}
use Rattle.plan.specs.Columns.{Column}
use Rattle.plan.specs.Copies.{Copy, column_links}
use Rattle.plan.specs.Layout.{Layout}
use Rattle.plan.specs.Photos.{references, photos_in}
use Rattle.result.specs.Fill.{Block, new_link, next_attachment, photo_links}
use Rattle.result.specs.Ordered.{Ordered}
use Rattle.result.specs.Result.{memo_of, first_fh, hd_block}
use Rattle.result.specs.Names.{LinkDue, HistoryDue, AttachmentsDue, chain_place, PhotosDue}
use Rattle.result.specs.Recording.{attached_from}
use Rattle.result.specs.Guarantee.{Stands, In}
use Rattle.copies_laws.specs.PhotoLaws.{header-moved, attached_nonzero, attached_to}
use Rattle.copies_laws.specs.MemoLaws.{Followed, Made, Kept, followed-kept, kept_then, root_kept, past-kept, columns-kept, attached_kept, attached_other, past-listed, past-kept-to}
use Rattle.plan_laws.specs.Lists.{in_none}
use Rattle.shown_laws.specs.Shapes.{hd_links}
use Rattle.guarantee.specs.Front.{header-link}
use Rattle.guarantee.specs.Past.{first_small, history-due}
use Rattle.guarantee.specs.Named.{CopyStands, new_small, link-due}
use Rattle.guarantee.specs.Attached.{next_small, attachments-due, attached_place}
use Rattle.guarantee.specs.Photos.{photos_due_lem}
use Rattle.guarantee.specs.Theorem.{AllBytes}
use Rattle.file_guarantee.specs.Names.{names_fine}
use Rattle.thin.specs.Place.{most_kept}
use Rattle.thin.specs.Fill.{blocks_kept}
use Rattle.thin_laws.specs.LaidLaws.{LaidKept, attachments-laid}
use Rattle.thin_laws.specs.MemberLaws.{attachments, in_hd, in_rest, in_attachments, rest-within, copy_in_file}

module _ (u : ℕ) (s : List ℕ) (cs : List Column) (l : Layout) (o : LaidKept u s cs l) where
  -- ---- what was followed
  columns-all : Kept s l.metadata.memo (memo_of l)
  columns-all = attached_kept most_kept s _ _ l.attached o.attached

  history-all : Kept s l.past.made.memo (memo_of l)
  history-all = kept_then (columns-kept most_kept s cs _ _ o.metadata).0 columns-all

  comment_all : Kept s l.comment.memo (memo_of l)
  comment_all = kept_then (past-kept most_kept s _ _ _ o.past) history-all

  all_made : (c : Copy) → In c (memo_of l) → Made s (memo_of l) c
  all_made = (kept_then (root_kept most_kept s _ _ _ o.comment).0 comment_all).made (λ c i. absurd (in_none i))

  comment_followed : Followed s (memo_of l) (link_at s 64 5)
  comment_followed = followed-kept comment_all _ (root_kept most_kept s _ _ _ o.comment).1

  pub column-followed : (c : Column) → In c cs → (a : ℕ) → In a (column_links s c) → Followed s (memo_of l) a
  column-followed c i a j = followed-kept columns-all a ((columns-kept most_kept s cs _ _ o.metadata).1 c i a j)

  -- ---- the new file
  module _ (f : List ℕ) (bytes : AllBytes s) (order : Ordered 0 (blocks_kept s l) l.file_size_lem) (small : l.file_size_lem < 256 ^ 8)
      (filled : (b : Block) → In b (blocks_kept s l) → Stands f b.at b.bytes) where
    pub copy_stands : (c : Copy) → In c (memo_of l) → CopyStands s f l.past.chain (memo_of l) l.fh c
    copy_stands c i =
        let j = copy_in_file s l o c i in
        let w = rest-within s l order j in
        record { stands = filled _ (in_rest s l j); above = omega (arith, w.0); below = omega (arith, w.1); made = all_made c i }

    pub link-led : (k a : ℕ) → Followed s (memo_of l) a → LinkDue k s f l.past.chain a (new_link (memo_of l) a)
    link-led k a follows = link-due s f bytes l.past.chain (memo_of l) l.fh copy_stands k a follows

    pub led-small : (a : ℕ) → new_link (memo_of l) a < 256 ^ 8
    led-small a = new_small s f bytes l.past.chain (memo_of l) l.fh copy_stands a

    -- every name passes
    pub led_name : (a : ℕ) → name_at f (new_link (memo_of l) a) ≡ fine
    led_name a = names_fine s f l.past.chain (memo_of l) l.fh copy_stands a

    -- ---- HD
    pub hd_stands : Stands f 64 (hd_block s l).bytes
    unfolding hd_block
    hd_stands = filled (hd_block s l) (in_hd s l)

    -- its comment
    pub comment_due : (k : ℕ) → LinkDue k s f l.past.chain (link_at s 64 5) (link_at f 64 5)
    unfolding hd_links
    comment_due k = rw (header-link s l f hd_stands 5 (lit< tt) (led-small _)) (link-led k _ comment_followed)

    -- "history stay, with no new entry"
    past-due : HistoryDue s f l.past.chain l.fh l.past.chain (link_at f 64 1)
    unfolding hd_links
    past-due =
        let m = past-listed most_kept s _ _ _ o.past in
        let none : l.fh < 256 ^ 8 = omega (arith, o.fh) in
        let chained : l.past.chain ≡ m.more = m.chain in
        let due : HistoryDue s f l.past.chain l.fh l.past.chain (first_fh (memo_of l) l.past.chain l.fh) =
        history-due s f bytes l.past.chain (memo_of l) l.fh copy_stands none [] l.past.chain refl (rw chained m.fresh)
        (λ b i. past-kept-to history-all b (m.each b (subst (In b) chained i))) in
        rw (header-link s l f hd_stands 1 (lit< tt) (first_small s f bytes l.past.chain (memo_of l) l.fh copy_stands none l.past.chain)) due

    pub history-kept : HistoryDue s f l.past.chain 0 l.past.chain (link_at f 64 1)
    history-kept = subst (λ (fh : ℕ). HistoryDue s f l.past.chain fh l.past.chain (link_at f 64 1)) o.fh past-due

    -- ---- attachments
    pub attached_below : (c : Block) → In c (attachments s l) → c.at < 256 ^ 8
    attached_below c i = omega (arith, (rest-within s l order (in_attachments s l i)).1, small)

    pub attached_above : (c : Block) → In c (attachments s l) → 0 < c.at
    attached_above c i = omega (arith, (rest-within s l order (in_attachments s l i)).0)

    pub attached_stands : (c : Block) → In c (attachments s l) → Stands f c.at c.bytes
    attached_stands c i = filled c (in_rest s l (in_attachments s l i))

    pub first_attached : link_at f 64 3 ≡ next_attachment l.attached.attachments
    unfolding hd_links
    first_attached =
        header-link s l f hd_stands 3 (lit< tt)
        (next_small s f bytes l.past.chain (memo_of l) l.fh copy_stands l.attached.attachments attached_below)

    pub attached_due : AttachmentsDue s f l.past.chain (attached_from l.attached.attachments) (link_at f 64 3)
    attached_due =
        rw first_attached (attachments-due s f bytes l.past.chain (memo_of l) l.fh copy_stands l.attached.attachments _ _
        (attachments-laid o).laid (attached_other most_kept s _ _ _ o.attached) attached_above attached_below attached_stands)

    attached_at_lem : (k : ℕ) → k < length (attached_from l.attached.attachments)
        → (chain_place f (link_at f 64 3) k ≡ get_or (attached_to l.attached.attachments) k 0)
        × (get_or (attached_to l.attached.attachments) k 0 < 256 ^ 8)
    attached_at_lem =
        rw first_attached (attached_place s f bytes l.past.chain (memo_of l) l.fh copy_stands l.attached.attachments _ _
        (attachments-laid o).laid attached_above attached_below attached_stands)

    -- "photo references .. kept": of the CN at c of s and the CN at cn of f, whose links after the eighth are these
    pub photos_led : (c cn : ℕ) → photos_in true s c ≡ fine
        → ((i : ℕ) → i < length (references s c) → get_or (photo_links l.attached.attachments (references s c)) i 0 < 256 ^ 8
        → link_at f cn (8 + i) ≡ get_or (photo_links l.attached.attachments (references s c)) i 0)
        → PhotosDue s f (attached_from l.attached.attachments) c cn
    photos_led c cn tested links =
        photos_due_lem f l.attached.attachments (attached_nonzero most_kept s _ _ o.attached) attached_at_lem s c cn
        (header-moved most_kept s _ _ o.attached) tested links
