-- Which metadata blocks are copied and where they are placed (document 01, copying and placement). "Copied blocks follow what they link to."
use Rattle.std.specs.Prelude.{ℕ, zero, suc, ◌+◌, ◌*◌, ◌-◌, List, [], ◌∷◌, ◌++◌, Bool, true, false, length, drop, eqb}
use Rattle.std.proofs.Math.Option.{Option, none, some}
use Rattle.base.specs.Choice.{pick, if_lt, if_eq}
use Rattle.base.specs.Field.{le_at}
use Rattle.base.specs.Checked.{Checked, ok, refused, and_then}
use Rattle.mdf.specs.Block.{kind, kind_tx, kind_md, kind_at, size_at, links_at, link_at, first_link, header_in, whole_at}
use Rattle.mdf.specs.Chain.{is_in}
use Rattle.plan.specs.Geometry.{align8}
use Rattle.plan.specs.Photos.{kind_at_block, most_attachments, attachment_in}
use Rattle.plan.specs.Columns.{Column}

-- kinds that are copied beside TX and MD
abbrev pub kind_cc : ℕ
kind_cc = kind "C" "C"

abbrev pub kind_si : ℕ
kind_si = kind "S" "I"

abbrev pub kind_fh : ℕ
kind_fh = kind "F" "H"

-- bookkeeping: a copied block: where it stood and where it is placed
pub record Copy : Type 0 where
  pub from : ℕ
  pub to : ℕ

-- bookkeeping: the blocks copied so far, in the order of their places, and the end of what is placed
pub record Copies : Type 0 where
  pub memo : List Copy
  pub next : ℕ

-- bookkeeping: the two together
abbrev pub copies : List Copy → ℕ → Copies
copies m n = record { memo = m; next = n }

-- "already copied": the place of the copy of a, none where it isn't
unfoldable pub copy_of : ℕ → List Copy → Option ℕ
copy_of a [] = none
copy_of a (c ∷ cs) = let later = copy_of a cs in if_eq c.from a (some c.to) later

-- "each block at the next multiple of 8": a block of so many bytes more
unfoldable pub with_copy : ℕ → ℕ → Copies → Copies
with_copy a size m = copies (m.memo ++ (record { from = a; to = align8 m.next } ∷ [])) (align8 m.next + size)

-- "Kinds other than TX, MD, CC, SI, FH become link 0."
unfoldable pub is_copied : ℕ → Bool
is_copied k =
    pick (eqb k kind_tx) true (pick (eqb k kind_md) true (pick (eqb k kind_cc) true (pick (eqb k kind_si) true (eqb k kind_fh))))

-- "An FH loses its first link": the number of links passed over in front
unfoldable pub lost_links : List ℕ → ℕ → ℕ
lost_links s a = if_eq (kind_at s a) kind_fh 1 0

-- bookkeeping: the links that stand at p, so many of them, each followed by the step
unfoldable pub copy_links : (ℕ → Copies → Checked Copies) → List ℕ → ℕ → ℕ → Copies → Checked Copies
copy_links step s zero p m = ok m
copy_links step s (suc links) p m = and_then (step (le_at 8 s p) m) (λ m'. copy_links step s links (p + 8) m')

-- "2,048 copied blocks": of those begun, the ones on the way down counted. The definitions take the limit, since document 02, request 13, allows 2,050
abbrev pub most_copies : ℕ
most_copies = 2048

-- bookkeeping: new where no copy was found, else nothing more is copied
abbrev pub on_copy : Option ℕ → Copies → Checked Copies → Checked Copies
on_copy none m new = new
on_copy (some a) m new = ok m

-- the block at a and all that it links to, with the blocks on the way down to it: "Depth starts at 0; depth 65 is refused before the block is read,
-- if its address is nonzero and not already copied." The depth left falls from 65
unfoldable pub copy_at : ℕ → ℕ → List ℕ → List ℕ → ℕ → Copies → Checked Copies
copy_at most zero s way a m = if_eq a 0 (ok m) (on_copy (copy_of a m.memo) m (refused 16 a))
copy_at most (suc left) s way a m =
    let links = copy_links (copy_at most left s (a ∷ way)) s (links_at s a - lost_links s a) (a + 24 + 8 * lost_links s a) m in
    let limited = if_lt (length m.memo + length way) most (and_then links (λ m'. ok (with_copy a (size_at s a) m'))) (refused 19 a) in
    let read = and_then (whole_at s a) (λ _. pick (is_copied (kind_at s a)) limited (ok m)) in
    let new = pick (is_in a way) (refused 16 a) read in
    if_eq a 0 (ok m) (on_copy (copy_of a m.memo) m new)

-- "depth 65 is refused"
abbrev pub depth : ℕ
depth = 65

-- "Depth starts at 0": a block that a link leads to, from outside of any copied block
unfoldable pub copy_root : ℕ → List ℕ → ℕ → Copies → Checked Copies
copy_root most s a m = copy_at most depth s [] a m

-- bookkeeping: several links, in order
unfoldable pub copy_roots : ℕ → List ℕ → List ℕ → Copies → Checked Copies
copy_roots most s [] m = ok m
copy_roots most s (a ∷ as') m = and_then (copy_root most s a m) (λ m'. copy_roots most s as' m')

-- ---- history: "History and attachment chains that return to an earlier block end quietly, also a history chain at a kind not copied"

-- bookkeeping: the blocks of the history chain, and the copies
pub record History : Type 0 where
  pub chain : List ℕ
  pub made : Copies

-- bookkeeping: the two together
abbrev pub history : List ℕ → Copies → History
history l m = record { chain = l; made = m }

-- "17: a history block of a copied kind without links"
unfoldable pub history_from : ℕ → ℕ → List ℕ → ℕ → History → Checked History
history_from most zero s a h = ok h
history_from most (suc turns) s a h =
    let more = and_then (copy_root most s a h.made) (λ m. history_from most turns s (first_link s a) (history (h.chain ++ (a ∷ [])) m)) in
    let linked = if_eq (links_at s a) 0 (refused 17 a) more in
    let unseen = and_then (whole_at s a) (λ _. pick (is_copied (kind_at s a)) linked (ok h)) in
    if_eq a 0 (ok h) (pick (is_in a h.chain) (ok h) unseen)

-- "history chain": the whole of it; each block of it is copied once, so there are at most as many as copies
unfoldable pub history_of : ℕ → List ℕ → ℕ → Copies → Checked History
history_of most s a m = history_from most (most + 1) s a (history [] m)

-- ---- what a column refers to: "per column the copies of CG links 3, 4, 6, CN links 3, 4, 5, 7, 8, the DG comment"
abbrev pub column_links : List ℕ → Column → List ℕ
column_links s c =
    link_at s c.group.at 2 ∷ link_at s c.group.at 3 ∷ link_at s c.group.at 5
    ∷ link_at s c.channel 2 ∷ link_at s c.channel 3 ∷ link_at s c.channel 4 ∷ link_at s c.channel 6 ∷ link_at s c.channel 7
    ∷ link_at s c.group.data_group.at 3 ∷ []

-- "per column", column by column
unfoldable pub column_copies : ℕ → List ℕ → List Column → Copies → Checked Copies
column_copies most s [] m = ok m
column_copies most s (c ∷ cs) m = and_then (copy_roots most s (column_links s c) m) (λ m'. column_copies most s cs m')

-- ---- attachments: "attachments, each after the blocks newly copied for it"; at most 64

-- bookkeeping: a moved AT: where it stood, where it is placed, and the copies made for it
pub record Attachment : Type 0 where
  pub from : ℕ
  pub to : ℕ
  pub own : List Copy

-- bookkeeping: the attachments so far, and the copies
pub record Attached : Type 0 where
  pub attachments : List Attachment
  pub made : Copies

-- "attachment chains that return to an earlier block end quietly": a was met
unfoldable pub is_attached : ℕ → List Attachment → Bool
is_attached a [] = false
is_attached a (t ∷ ts) = let more = is_attached a ts in pick (eqb t.from a) true more

-- "each after the blocks newly copied for it": the AT at a, after the blocks that its links from the second on lead to
unfoldable pub attach : ℕ → ℕ → Copies → Copies → Attached → Attached
attach a size before m t =
    record {
      attachments = t.attachments ++ (record { from = a; to = align8 m.next; own = drop (length before.memo) m.memo } ∷ []);
      made = copies m.memo (align8 (align8 m.next + size));
    }

-- "attachments (header, 18, whole range, 19, links)"; "an attachment chain at a kind other than AT" ends quietly. More turns than attachments
unfoldable pub attachments_from : ℕ → ℕ → List ℕ → ℕ → Attached → Checked Attached
attachments_from most zero s a t = ok t
attachments_from most (suc turns) s a t =
    let copied = copy_links (copy_root most s) s (links_at s a - 1) (a + 32) t.made in
    let more = and_then copied (λ m. attachments_from most turns s (first_link s a) (attach a (size_at s a) t.made m t)) in
    let limited = if_lt (length t.attachments) most_attachments more (refused 19 a) in
    let checked = and_then (attachment_in s a) (λ _. limited) in
    let unseen = and_then (header_in s a) (λ _. if_eq (kind_at s a) kind_at_block checked (ok t)) in
    if_eq a 0 (ok t) (pick (is_attached a t.attachments) (ok t) unseen)

-- the attachment chain that HD link 4 leads to, with what is placed before it
unfoldable pub attachments_of : ℕ → List ℕ → ℕ → Copies → Checked Attached
attachments_of most s a m = attachments_from most (most_attachments + 2) s a (record { attachments = []; made = m })
