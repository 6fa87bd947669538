-- DG, CG, CN and DL of a kept column as header, links and data.
use Rattle.std.specs.Prelude.{ℕ, ◌+◌, ◌*◌, List, [], ◌∷◌, ◌++◌, ◌≡◌, refl, length}
use Rattle.std.proofs.Common.{append_assoc, append-nil, sym}
use Rattle.std.proofs.Math.Option.{Option, none, some}
use Rattle.base.specs.Choice.{if_eq}
use Rattle.base.specs.ChoiceLaws.{eq_no}
use Rattle.base.specs.Field.{le}
use Rattle.mdf.specs.Block.{kind_dg, kind_cg, kind_cn, kind_dl, link_at}
use Rattle.plan.specs.Copies.{Copy, Attachment}
use Rattle.plan.specs.Layout.{Placed, cg_of, dl_of, cg_links, cg_size, cn_size, dl_size}
use Rattle.result.specs.Fill.{header, words, new_link, master_link, block_links}
use Rattle.shown_laws.specs.Shapes.{master_word, cg_words, cn_links, cn-many}
use Rattle.thin.specs.Place.{blocks_of}
use Rattle.thin.specs.Fill.{kept_data, kept_dg, kept_cg, kept_cn, length_kept, kept_dl}

-- ---- the DL that a DG leads to
abbrev pub list_link : Placed → ℕ
list_link p = if_eq (blocks_of p.column) 0 0 (dl_of p)

unfoldable pub dg_words : List ℕ → List Copy → Placed → ℕ → List ℕ
dg_words s memo p next = next ∷ cg_of p ∷ list_link p ∷ new_link memo (link_at s p.column.group.data_group.at 3) ∷ []

pub dg_shape : (s : List ℕ) (memo : List Copy) (p : Placed) (next : ℕ)
    → kept_dg s memo p next
    ≡ header kind_dg 64 (length (dg_words s memo p next)) ++ words (dg_words s memo p next) ++ kept_data 8 s p.column.group.data_group.at
unfolding kept_dg dg_words words
dg_shape s memo p next = simp (append_assoc, append-nil)

-- ---- CG and CN have the links of 01's
cg-list : (all : List Placed) (m : Option ℕ) (n a b c d e g : ℕ) (l : List ℕ)
    → header kind_cg n (cg_links m) ++ le 8 a ++ le 8 b ++ le 8 c ++ le 8 d ++ le 8 e ++ le 8 g ++ master_link all m ++ l
    ≡ header kind_cg n (length (a ∷ b ∷ c ∷ d ∷ e ∷ g ∷ master_word all m))
    ++ words (a ∷ b ∷ c ∷ d ∷ e ∷ g ∷ master_word all m) ++ l
unfolding words
cg-list all none n a b c d e g l = simp (append_assoc, append-nil)
cg-list all (some m) n a b c d e g l = simp (append_assoc, append-nil)

pub cg_shape : (s : List ℕ) (memo : List Copy) (all : List Placed) (p : Placed)
    → kept_cg s memo all p
    ≡ header kind_cg (cg_size p.column.master) (length (cg_words s memo all p)) ++ words (cg_words s memo all p) ++ kept_data 32 s p.column.group.at
unfolding kept_cg cg_words
cg_shape s memo all p = cg-list all p.column.master (cg_size p.column.master) _ _ _ _ _ _ (kept_data 32 s p.column.group.at)

cn-counted : (s : List ℕ) (memo : List Copy) (ats : List Attachment) (p : Placed)
    → kept_cn s memo ats p
    ≡ header kind_cn (cn_size p.column) (8 + length p.column.photos) ++ words (cn_links s memo ats p) ++ kept_data 72 s p.column.channel
unfolding kept_cn cn_links words
cn-counted s memo ats p = simp append_assoc

pub cn_shape : (s : List ℕ) (memo : List Copy) (ats : List Attachment) (p : Placed)
    → kept_cn s memo ats p
    ≡ header kind_cn (cn_size p.column) (length (cn_links s memo ats p)) ++ words (cn_links s memo ats p) ++ kept_data 72 s p.column.channel
cn_shape s memo ats p = rw (cn-many s memo ats p) (cn-counted s memo ats p)

-- ---- a DL, where there are blocks
pub dl_shape : (s : List ℕ) (p : Placed) → (blocks_of p.column ≡ 0 → ⊥)
    → kept_dl s p
    ≡ header kind_dl (24 + 8 * (blocks_of p.column + 1) + 16) (blocks_of p.column + 1) ++ le 8 0
    ++ block_links (length_kept s p) (blocks_of p.column) p.first
    ++ le 4 1 ++ le 4 (blocks_of p.column) ++ le 8 (length_kept s p)
unfolding kept_dl dl_size
dl_shape s p z =
    let e : if_eq (blocks_of p.column) 0 0 (24 + 8 * (blocks_of p.column + 1) + 16) ≡ 24 + 8 * (blocks_of p.column + 1) + 16 =
    sym (eq_no _ _ _ _ z refl) in
    rw e
