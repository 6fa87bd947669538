-- What is known of what was decided: every check passed.
use Rattle.std.specs.Prelude.{[], ℕ, zero, suc, ◌≤◌, ◌<◌, List, ◌∷◌, ◌≡◌, refl, length}
use Rattle.std.proofs.Common.{◌∙◌, subst, arith}
use Rattle.base.specs.Choice.{if_lt, if_eq}
use Rattle.base.specs.ChoiceLaws.{lt_back, eq_first, eq_yes}
use Rattle.base.specs.Field.{le_at}
use Rattle.base.specs.Checked.{ok, refused, Verdict, fine}
use Rattle.mdf.specs.Identification.{file_mark, identified}
use Rattle.mdf.specs.Walk.{Source, walk}
use Rattle.mdf.specs.Group.{data_groups}
use Rattle.mdf.specs.Count.{counts}
use Rattle.plan.specs.Columns.{src_groups, Column, plan, omission_words}
use Rattle.plan.specs.Data.{all_data_in, blocks_in}
use Rattle.plan.specs.Rules.{choices_in}
use Rattle.plan.specs.Photos.{photos_first}
use Rattle.plan.specs.Layout.{layout, column_width, column_blocks}
use Rattle.result.specs.Sharing.{sharing}
use Rattle.result.specs.Result.{Args, Decided, version420, lent_in, decided, answer, rules_of}
use Rattle.result.specs.Guarantee.{In, here, there}
use Rattle.plan_laws.specs.Answers.{refused≢ok, ok_same, with_ok}

-- what is lent passed its checks
pub record Lent (x : Args) : Type 0 where
  pub ident_length : length x.ident ≡ 64
  pub ident_mark : le_at 8 x.ident 0 ≡ file_mark
  pub ident_version : le_at 8 x.ident 8 ≡ version420
  pub text_length : length x.text ≤ 4096

pub lent-fine : (x : Args) → lent_in x ≡ fine → Lent x
unfolding lent_in
lent-fine x e =
    let a = eq_first _ _ _ _ e refused≢ok in
    let b = eq_first _ _ _ _ a.1 refused≢ok in
    let c = eq_first _ _ _ _ b.1 refused≢ok in
    let d = lt_back _ _ _ _ c.1 refused≢ok in
    record { ident_length = a.0; ident_mark = b.0; ident_version = c.0; text_length = d.0 }

-- every step of what was decided
pub record Steps (x : Args) (d : Decided) : Type 0 where
  pub source : Source
  pub numbers : List ℕ
  pub lent : Lent x
  pub block_size : 0 < x.block_size
  pub chosen : choices_in (rules_of x) ≡ fine
  pub image_length : length x.image ≤ 4294967296
  pub identification : identified x.image ≡ fine
  pub walked : walk x.image ≡ ok source
  pub counted : counts x.image (data_groups source) ≡ ok numbers
  pub groups : d.groups ≡ src_groups (data_groups source) numbers
  pub followed : photos_first x.photos x.image ≡ fine
  pub shared : sharing x.share x.image (data_groups source) d.groups ≡ ok d.stands
  pub planned : plan (rules_of x) x.image (length source.fragments) d.groups d.stands ≡ ok d.planned
  pub data_fine : all_data_in x.image d.planned.columns (data_groups source) ≡ fine
  pub blocks_fine : blocks_in x.image x.block_size d.planned.columns ≡ fine
  pub laid_out : layout (rules_of x) x.image x.block_size (length x.text) d.planned.columns ≡ ok d.laid_out

-- a block size of 0 is refused
size_positive : (n : ℕ) → if_eq {A = Verdict} n 0 (refused 2 0) fine ≡ fine → 0 < n
size_positive zero e = absurd (refused≢ok (eq_yes 0 0 (refused 2 0) fine refl refl ∙ e))
size_positive (suc n) e = omega arith

pub decided_steps : (x : Args) (d : Decided) → decided x ≡ ok d → Steps x d
unfolding decided
decided_steps x d e =
    with_ok (lent_in x) _ e (λ _ a e.
    with_ok (if_eq x.block_size 0 (refused 2 0) fine) _ e (λ _ b e.
    with_ok (choices_in (rules_of x)) _ e (λ _ h e.
    with_ok (if_lt 4294967296 (length x.image) (refused 3 0) fine) _ e (λ _ c e.
    with_ok (identified x.image) _ e (λ _ i e.
    with_ok (walk x.image) _ e (λ st w e.
    with_ok (counts x.image (data_groups st)) _ e (λ ns n e.
    with_ok (photos_first x.photos x.image) _ e (λ _ o e.
    with_ok (sharing x.share x.image (data_groups st) (src_groups (data_groups st) ns)) _ e (λ bys j e.
    with_ok (plan (rules_of x) x.image (length st.fragments) (src_groups (data_groups st) ns) bys) _ e (λ p q e.
    with_ok (all_data_in x.image p.columns (data_groups st)) _ e (λ _ f e.
    with_ok (blocks_in x.image x.block_size p.columns) _ e (λ _ k e.
    with_ok (layout (rules_of x) x.image x.block_size (length x.text) p.columns) _ e (λ l m e.
    subst (Steps x) (ok_same e) (record {
      source = st;
      numbers = ns;
      lent = lent-fine x a;
      block_size = size_positive _ b;
      chosen = h;
      image_length = (lt_back _ _ _ _ c refused≢ok).0;
      identification = i;
      walked = w;
      counted = n;
      groups = refl;
      followed = o;
      shared = j;
      planned = q;
      data_fine = f;
      blocks_fine = k;
      laid_out = m;
    }))))))))))))))

-- an accepted answer is what was decided, and fits the output and the list
pub record Accepted (x : Args) (out list : ℕ) (d : Decided) : Type 0 where
  pub decided_as : decided x ≡ ok d
  pub output_fits : d.laid_out.file_size_lem ≤ out
  pub list_fits : length (omission_words d.planned.omissions) ≤ list

pub answer_accepted : (x : Args) (out list : ℕ) (d : Decided) → answer x out list ≡ ok d → Accepted x out list d
unfolding answer
answer_accepted x out list d e =
    with_ok (decided x) _ e (λ d' a e.
    let b = lt_back _ _ _ _ e refused≢ok in
    let c = lt_back _ _ _ _ b.1 refused≢ok in
    subst (Accepted x out list) (ok_same c.1) (record { decided_as = a; output_fits = b.0; list_fits = c.0 }))

-- no column has too many blocks
pub blocks-few : (s : List ℕ) (size : ℕ) (cs : List Column) → blocks_in s size cs ≡ fine → (c : Column) → In c cs → column_blocks s size c ≤ 4294967295
unfolding blocks_in column_blocks column_width
blocks-few s size [] e c x'' = elim x'' [ ]
blocks-few s size (k ∷ cs) e c here = (lt_back _ _ _ _ e refused≢ok).0
blocks-few s size (k ∷ cs) e c (there i) = blocks-few s size cs (lt_back _ _ _ _ e refused≢ok).1 c i
