-- Names, units, conversions, sources and comments: what the links of the result's blocks are to lead to, from the recording (document 01, copying and
-- placement).
use Prim.{Unit}
use Rattle.std.specs.Prelude.{ℕ, zero, suc, ◌+◌, ◌*◌, ◌-◌, ◌≤◌, ◌<◌, List, [], ◌∷◌, false, ◌≡◌, length, get_or}
use Rattle.base.specs.Field.{le_at, le}
use Rattle.base.specs.Blit.{part}
use Rattle.mdf.specs.Block.{kind_tx, kind_md, kind_at, size_at, links_at, link_at, data_at}
use Rattle.mdf.specs.Chain.{is_in}
use Rattle.plan.specs.Copies.{kind_cc, kind_si, kind_fh}
use Rattle.plan.specs.Layout.{Placed, cg_of, cn_of}
use Rattle.result.specs.Result.{Args}
use Rattle.result.specs.Links.{head_at}

-- "Kinds other than TX, MD, CC, SI, FH become link 0."
pub data CopiedKind (k : ℕ) : Type 0 where
  is_tx : k ≡ kind_tx → CopiedKind k
  is_md : k ≡ kind_md → CopiedKind k
  is_cc : k ≡ kind_cc → CopiedKind k
  is_si : k ≡ kind_si → CopiedKind k
  is_fh : k ≡ kind_fh → CopiedKind k

-- link a of the recording s leads to a block of a copied kind
pub record Leads (s : List ℕ) (a : ℕ) : Type 0 where
  pub nonzero : a ≡ 0 → ⊥
  pub kind : CopiedKind (kind_at s a)

-- the block at b of the result f is the block at a of the recording s but for its links and its reserved bytes
pub record SameBlock (s f : List ℕ) (a b : ℕ) : Type 0 where
  pub nonzero : b ≡ 0 → ⊥
  pub head : head_at f b ≡ head_at s a
  pub rest : part (data_at f b) (size_at f b - (24 + 8 * links_at f b)) f ≡ part (data_at s a) (size_at s a - (24 + 8 * links_at s a)) s

-- link number i, from 0, of the block at a: "An FH loses its first link", and a block of the history chain leads by its first link to the next
pub data Follows (s past : List ℕ) (a : ℕ) : ℕ → Type 0 where
  later : {i : ℕ} → Follows s past a (suc i)
  first : (kind_at s a ≡ kind_fh → ⊥) → is_in a past ≡ false → Follows s past a 0

-- b is what link a of s is to be in f, looked at so deep: 0 where a leads to no block of a copied kind, else that block's copy, with such links again;
-- past is the history chain
unfoldable pub LinkDue : ℕ → List ℕ → List ℕ → List ℕ → ℕ → ℕ → Type 0
LinkDue zero s f past a b = Unit {0}
LinkDue (suc k) s f past a b =
    ((Leads s a → ⊥) → b ≡ 0)
    × (Leads s a → SameBlock s f a b)
    × (Leads s a → (i : ℕ) → i < links_at s a → Follows s past a i → LinkDue k s f past (link_at s a i) (link_at f b i))

-- "per column the copies of CG links 3, 4, 6, CN links 3, 4, 5, 7, 8, the DG comment"
pub record NamesDue (k : ℕ) (s f past : List ℕ) (p : Placed) : Type 0 where
  pub group_name : LinkDue k s f past (link_at s p.column.group.at 2) (link_at f (cg_of p) 2)
  pub group_source : LinkDue k s f past (link_at s p.column.group.at 3) (link_at f (cg_of p) 3)
  pub group_comment : LinkDue k s f past (link_at s p.column.group.at 5) (link_at f (cg_of p) 5)
  pub name : LinkDue k s f past (link_at s p.column.channel 2) (link_at f (cn_of p) 2)
  pub source : LinkDue k s f past (link_at s p.column.channel 3) (link_at f (cn_of p) 3)
  pub conversion : LinkDue k s f past (link_at s p.column.channel 4) (link_at f (cn_of p) 4)
  pub unit : LinkDue k s f past (link_at s p.column.channel 6) (link_at f (cn_of p) 6)
  pub comment : LinkDue k s f past (link_at s p.column.channel 7) (link_at f (cn_of p) 7)
  pub data_comment : LinkDue k s f past (link_at s p.column.group.data_group.at 3) (link_at f p.dg 3)

-- ---- the history

-- from b on the result's history: the copies of the blocks of the recording's history chain in order, with their links, each leading by its first to
-- the next, the last to the new FH
unfoldable pub HistoryDue : List ℕ → List ℕ → List ℕ → ℕ → List ℕ → ℕ → Type 0
HistoryDue s f past fh [] b = b ≡ fh
HistoryDue s f past fh (a ∷ as') b = SameBlock s f a b × ((k : ℕ) → LinkDue k s f past a b) × HistoryDue s f past fh as' (link_at f b 0)

-- "MD with the lent history text ..; a new FH with the lent time": the last of the history
pub record NewHistory (x : Args) (f : List ℕ) (fh : ℕ) : Type 0 where
  pub head : head_at f fh ≡ record { kind = kind_fh; size = 56; links = 2 }
  pub next : link_at f fh 0 ≡ 0
  pub comment : kind_at f (link_at f fh 1) ≡ kind_md
  pub text : part (link_at f fh 1 + 24) (length x.text) f ≡ x.text
  pub time : part (fh + 40) 8 f ≡ le 8 x.time

-- ---- attachments: "as they were but for their links" (`copy_attachments`)

-- from b on the result's attachments: the AT of the recording's attachment chain in order, each with its header and its bytes past its links as they
-- were; an AT leads by its first link to the next, the last to none, by its other links to what these are to lead to
unfoldable pub AttachmentsDue : List ℕ → List ℕ → List ℕ → List ℕ → ℕ → Type 0
AttachmentsDue s f past [] b = b ≡ 0
AttachmentsDue s f past (a ∷ as') b =
    SameBlock s f a b × (part b 24 f ≡ part a 24 s)
    × ((k i : ℕ) → suc i < links_at s a → LinkDue k s f past (link_at s a (suc i)) (link_at f b (suc i)))
    × AttachmentsDue s f past as' (link_at f b 0)

-- ---- photos (document 02, request 9)

-- the attachment number k, from 0, of the chain from b on by first links
unfoldable pub chain_place : List ℕ → ℕ → ℕ → ℕ
chain_place f b zero = b
chain_place f b (suc k) = chain_place f (link_at f b 0) k

-- link a of the recording's CN and link b of the result's: "links lead to the moved AT", which has the same number in the result's chain as in the
-- recording's, ats. "Zero references stay zero."
pub record PhotoDue (f ats : List ℕ) (a b : ℕ) : Type 0 where
  pub zero_stays : a ≡ 0 → b ≡ 0
  pub moved : (a ≡ 0 → ⊥) → (k : ℕ) × (k < length ats) × (get_or ats k 0 ≡ a) × (b ≡ chain_place f (link_at f 64 3) k)

-- "a column found by links has the source channel's photos .. in the source's order": the CN at c of the recording s has as many links as its count
-- demands, and each "after the eighth" is what it is to be of the CN at cn of the result f
pub record PhotosDue (s f ats : List ℕ) (c cn : ℕ) : Type 0 where
  pub linked : 8 + le_at 2 s (data_at s c + 22) ≤ links_at s c
  pub each : (i : ℕ) → i < le_at 2 s (data_at s c + 22) → PhotoDue f ats (link_at s c (8 + i)) (link_at f cn (8 + i))
