-- The walk over a result's file: just its columns, each a DG with one CG with one CN, or 9 or 19.
use Rattle.std.specs.Prelude.{ℕ, ◌+◌, ◌-◌, List, [], ◌∷◌, ◌++◌, ◌≡◌, refl, length, take}
use Rattle.std.proofs.Common.{append_assoc, ap, ◌∙◌, arith, length-append, drop_at}
use Rattle.std.proofs.Math.Seq.{take-append_seam}
use Rattle.base.specs.Blit.{part, blit}
use Rattle.base.specs.Checked.{ok}
use Rattle.mdf.specs.Chain.{Fragment, file_limits}
use Rattle.mdf.specs.Walk.{Source, source, walk_of, walk}
use Rattle.mdf.specs.Group.{Group, DataGroup, channels_of, groups_of, up_to, data_groups_of, data_groups}
use Rattle.result.specs.Result.{Args, Decided, file_of, answer}
use Rattle.plan_laws.specs.Decision.{answer_accepted}
use Rattle.plan_laws.specs.Known.{answer-known}
use Rattle.guarantee.specs.Theorem.{AllBytes}
use Rattle.file.specs.Form.{FileColumn}
use Rattle.file_laws.specs.Standing.{all_fragments, FileStands}
use Rattle.file_laws.specs.StandingLaws.{items_of, walk_stands}
use Rattle.file_guarantee.specs.Columns.{file_columns}
use Rattle.file_guarantee.specs.Theorem.{file_stands}
use Rattle.again_laws.specs.Gives.{Gives, gives_mapped, less_gives}
use Rattle.again_laws.specs.Limited.{closer}
use Rattle.again_laws.proofs.Limited.{walk_less}

-- ---- the data groups of columns
abbrev pub group_of : FileColumn → Group
group_of c = record { at = c.cg; channels = c.cn ∷ [] }

abbrev pub data_group_of : FileColumn → DataGroup
data_group_of c = record { at = c.dg; fragments = c.fragments; groups = group_of c ∷ [] }

unfoldable pub column_groups : List FileColumn → List DataGroup
column_groups [] = []
column_groups (c ∷ cs) = data_group_of c ∷ column_groups cs

-- past a column's CG and CN there is a DG or nothing
no_channels : (n : ℕ) (cs : List FileColumn) → channels_of (items_of n cs) ≡ []
unfolding channels_of items_of
no_channels n [] = refl
no_channels n (c ∷ cs) = refl

no_groups : (n : ℕ) (cs : List FileColumn) → groups_of (items_of n cs) ≡ []
unfolding groups_of items_of
no_groups n [] = refl
no_groups n (c ∷ cs) = refl

up-to : (all n : ℕ) (cs : List FileColumn) → all ≡ n + length (all_fragments cs) → up_to all (items_of n cs) ≡ n
unfolding up_to items_of all_fragments
up-to all n [] e = omega arith
up-to all n (c ∷ cs) e = refl

part_middle : (xs ys zs : List Fragment) → part (length xs) (length ys) (xs ++ (ys ++ zs)) ≡ ys
unfolding part
part_middle xs ys zs = ap (take (length ys)) (drop_at xs (ys ++ zs) (length xs) refl) ∙ take-append_seam ys zs

same-group : (d : ℕ) (fs gs : List Fragment) (hs ks : List Group) (ds es : List DataGroup) → fs ≡ gs → hs ≡ ks → ds ≡ es
    → record { at = d; fragments = fs; groups = hs } ∷ ds ≡ record { at = d; fragments = gs; groups = ks } ∷ es
same-group d fs gs hs ks ds es p q r = rw (p, q, r)

-- those found by the items that the walk met, with the fragments found before
groups_found : (cs : List FileColumn) (before : List Fragment)
    → data_groups_of (before ++ all_fragments cs) (items_of (length before) cs) ≡ column_groups cs
unfolding all_fragments items_of data_groups_of up_to groups_of channels_of column_groups
groups_found [] before = refl
groups_found (c ∷ cs) before =
    let fs : List Fragment = before ++ (c.fragments ++ all_fragments cs) in
    let n : ℕ = length before + length c.fragments in
    let all : length fs ≡ n + length (all_fragments cs) = simp length-append (omega arith) in
    let size : up_to (length fs) (items_of n cs) - length before ≡ length c.fragments = omega (arith, up-to (length fs) n cs all) in
    let own : part (length before) (up_to (length fs) (items_of n cs) - length before) fs ≡ c.fragments =
    ap (λ (k : ℕ). part (length before) k fs) size ∙ part_middle before c.fragments (all_fragments cs) in
    let group : record { at = c.cg; channels = c.cn ∷ channels_of (items_of n cs) } ∷ groups_of (items_of n cs) ≡ group_of c ∷ [] =
    rw (no_channels n cs, no_groups n cs) in
    let rest : data_groups_of ((before ++ c.fragments) ++ all_fragments cs) (items_of (length (before ++ c.fragments)) cs) ≡ column_groups cs =
    groups_found cs (before ++ c.fragments) in
    let later : data_groups_of fs (items_of n cs) ≡ column_groups cs = rw (append_assoc, length-append) at rest in
    same-group c.dg (part (length before) (up_to (length fs) (items_of n cs) - length before) fs) c.fragments _ (group_of c ∷ []) (data_groups_of fs (items_of n cs)) (column_groups cs) own group later

-- ---- what the walk over a file met in which columns stand
pub record Walked (cs : List FileColumn) (st : Source) : Type 0 where
  pub groups : data_groups st ≡ column_groups cs
  pub fragments : st.fragments ≡ all_fragments cs

walked_all : (cs : List FileColumn) (st : Source) → st ≡ source (items_of 0 cs) (all_fragments cs) → Walked cs st
unfolding data_groups
walked_all cs st e =
    record {
      groups = ap (λ (t : Source). data_groups_of t.fragments t.items) e ∙ groups_found cs [];
      fragments = ap (λ (t : Source). t.fragments) e;
    }

pub walk-columns : (f : List ℕ) (cs : List FileColumn) → FileStands f cs → Gives closer (Walked cs) (walk f)
walk-columns f cs h = gives_mapped (less_gives (source (items_of 0 cs) (all_fragments cs)) (walk_of file_limits f) (walk_less f) (walk_stands f cs h)) (walked_all cs)

-- the columns of a result
abbrev pub result_columns : Args → Decided → List FileColumn
result_columns x d = file_columns x.image x.block_size d.laid_out.placed

-- they stand in its final bytes
pub result_stands : (x : Args) (out list : List ℕ) (d : Decided) → AllBytes x.image → AllBytes x.ident → answer x (length out) (length list) ≡ ok d
    → FileStands (blit 0 (file_of x d.laid_out) out) (result_columns x d)
result_stands x out list d bytes ident_bytes e =
    file_stands x d (answer-known x (length out) (length list) d e) out (answer_accepted x (length out) (length list) d e).output_fits bytes ident_bytes

-- so the walk over these is over just the columns, or refuses with 9 or 19
pub walk-again : (x : Args) (out list : List ℕ) (d : Decided) → AllBytes x.image → AllBytes x.ident → answer x (length out) (length list) ≡ ok d
    → Gives closer (Walked (result_columns x d)) (walk (blit 0 (file_of x d.laid_out) out))
walk-again x out list d bytes ident_bytes e = walk-columns _ (result_columns x d) (result_stands x out list d bytes ident_bytes e)
