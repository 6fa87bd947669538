-- What is known of a file that was opened: every column is one of its DG's, in the form, with its ranges in the image.
use Rattle.std.specs.Prelude.{ℕ, zero, suc, ◌*◌, ◌-◌, List, [], ◌∷◌, Bool, true, false, ◌≡◌, refl, length}
use Rattle.std.proofs.Math.Option.{Option, none, some}
use Rattle.std.proofs.Common.{sym, ap, subst, arith, eqb-true}
use Rattle.base.specs.Choice.{pick, if_eq}
use Rattle.base.specs.Checked.{ok, refused, fine}
use Rattle.base.specs.CheckedLaws.{refused≢ok, ok_same, then_ok, then_fine}
use Rattle.mdf.specs.Block.{link_at}
use Rattle.mdf.specs.Chain.{Fragment, file_limits}
use Rattle.mdf.specs.Walk.{Item, dg, cg, cn, id_size, walk_of}
use Rattle.mdf.specs.Group.{Group, DataGroup, up_to, data_groups_of, data_groups}
use Rattle.mdf.specs.Records.{ranges_in, size_of}
use Rattle.mdf.specs.Identification.{identified}
use Rattle.file.specs.Form.{FileColumn, cycles, record_bytes, of_groups, of_channels, alone, list_formed, one_kind, formed}
use Rattle.file.specs.Opened.{on_column, column_in, columns_in, opened}
use Rattle.file.specs.Range.{file_column_at}
use Rattle.file_laws.specs.JoinedLaws.{ranges_part}

-- ---- reader's equations
pub columns-none : (s : List ℕ) → columns_in s [] ≡ ok []
unfolding columns_in
columns-none s = refl

pub columns-next : (s : List ℕ) (d : DataGroup) (ds : List DataGroup) (c : FileColumn) (cs : List FileColumn)
    → column_in s d ≡ ok c → columns_in s ds ≡ ok cs → columns_in s (d ∷ ds) ≡ ok (c ∷ cs)
unfolding columns_in
columns-next s d ds c cs e f = rw (e, f)

pub column_ok : (s : List ℕ) (d : DataGroup) (c : FileColumn) → alone d ≡ some c → formed s c ≡ true → column_in s d ≡ ok c
unfolding column_in
column_ok s d c e f = rw (e, f)

-- ---- the way back

-- a test and those after it
pub both_back : (t u : Bool) → pick t u false ≡ true → (t ≡ true) × (u ≡ true)
both_back true u e = (refl, e)
both_back false u e = absurd (let z : ◌≡◌ {A = ℕ} 0 1 = cc in omega arith)

-- what the form says of a column
pub record Formed (s : List ℕ) (c : FileColumn) : Type 0 where
  pub ids : id_size s c.dg ≡ 0
  pub list : if_eq (link_at s c.dg 2) 0 true (list_formed s (link_at s c.dg 2) c.fragments) ≡ true
  pub kinds : one_kind s c.cg c.fragments ≡ true
  pub bytes : size_of c.fragments ≡ cycles s c.cg * record_bytes s c.cg

pub formed_back : (s : List ℕ) (c : FileColumn) → formed s c ≡ true → Formed s c
unfolding formed
formed_back s c e =
    let a = both_back _ _ e in
    let b = both_back _ _ a.1 in
    let k = both_back _ _ b.1 in
    let n = both_back _ _ k.1 in
    record { ids = eqb-true _ _ a.0; list = b.0; kinds = k.0; bytes = eqb-true _ _ n.0 }

-- a column of a DG has the DG's fragments
some_same : {x y : FileColumn} → ◌≡◌ {A = Option FileColumn} (some x) (some y) → x ≡ y
some_same e = cc

none≢some : {x : FileColumn} → ◌≡◌ {A = Option FileColumn} none (some x) → ⊥
none≢some e = let z : ◌≡◌ {A = ℕ} 0 1 = cc in omega arith

of_channels_lem : (d : DataGroup) (g : ℕ) (cs : List ℕ) (c : FileColumn) → of_channels d g cs ≡ some c → c.fragments ≡ d.fragments
of_channels_lem d g [] c e = absurd (none≢some e)
of_channels_lem d g (b ∷ []) c e = ap (λ (k : FileColumn). k.fragments) (sym (some_same e))
of_channels_lem d g (a ∷ b ∷ cs) c e = absurd (none≢some e)

of_groups_lem : (d : DataGroup) (gs : List Group) (c : FileColumn) → of_groups d gs ≡ some c → c.fragments ≡ d.fragments
of_groups_lem d [] c e = absurd (none≢some e)
of_groups_lem d (g ∷ []) c e = of_channels_lem d g.at g.channels c e
of_groups_lem d (g ∷ h ∷ gs) c e = absurd (none≢some e)

pub alone_fragments : (d : DataGroup) (c : FileColumn) → alone d ≡ some c → c.fragments ≡ d.fragments
unfolding alone
alone_fragments d c e = of_groups_lem d d.groups c e

-- a column that is in the form
pub record IsColumn (s : List ℕ) (c : FileColumn) : Type 0 where
  pub form : Formed s c
  pub ranges : ranges_in s c.fragments ≡ fine

column_back : (s : List ℕ) (d : DataGroup) (c : FileColumn) → ranges_in s d.fragments ≡ fine → column_in s d ≡ ok c → IsColumn s c
unfolding column_in
column_back s d c r e = go (alone d) refl e
  where
    of : (k : FileColumn) → alone d ≡ some k → (t : Bool) → formed s k ≡ t → pick t (ok k) (refused 24 0) ≡ ok c → IsColumn s c
    of k q true f h =
        subst (IsColumn s) (ok_same h) (record { form = formed_back s k f; ranges = rw (alone_fragments d k q) r })
    of k q false f h = absurd (refused≢ok h)

    go : (o : Option FileColumn) → alone d ≡ o → on_column o (refused 24 0) (λ k. pick (formed s k) (ok k) (refused 24 0)) ≡ ok c → IsColumn s c
    go none q h = absurd (refused≢ok h)
    go (some k) q h = of k q (formed s k) refl h

-- the DGs' fragments lie in the image
abbrev pub AllIn : List ℕ → List DataGroup → Type 0
AllIn s [] = Unit {0}
AllIn s (d ∷ ds) = (ranges_in s d.fragments ≡ fine) × AllIn s ds

groups_in_lem : (s : List ℕ) (fs : List Fragment) (is : List Item) → ranges_in s fs ≡ fine → AllIn s (data_groups_of fs is)
unfolding data_groups_of
groups_in_lem s fs [] e = tt
groups_in_lem s fs (dg a n ∷ is) e = (ranges_part s n (up_to (length fs) is - n) fs e, groups_in_lem s fs is e)
groups_in_lem s fs (cg a ∷ is) e = groups_in_lem s fs is e
groups_in_lem s fs (cn a ∷ is) e = groups_in_lem s fs is e

at_first_lem : (s : List ℕ) (k : ℕ) (c b : FileColumn) (bs : List FileColumn) → file_column_at k (b ∷ bs) ≡ some c → IsColumn s b
    → ((j : ℕ) → file_column_at j bs ≡ some c → IsColumn s c) → IsColumn s c
unfolding file_column_at
at_first_lem s zero c b bs w i more = subst (IsColumn s) (some_same w) i
at_first_lem s (suc k) c b bs w i more = more k w

columns_back : (s : List ℕ) (ds : List DataGroup) (cs : List FileColumn) (k : ℕ) (c : FileColumn) → AllIn s ds → columns_in s ds ≡ ok cs
    → file_column_at k cs ≡ some c → IsColumn s c
unfolding columns_in file_column_at
columns_back s [] cs k c r e q =
    let z : [] ≡ cs = ok_same e in
    let w : ◌≡◌ {A = Option FileColumn} none (some c) = subst (λ (l : List FileColumn). file_column_at k l ≡ some c) (sym z) q in
    absurd (none≢some w)
columns_back s (d ∷ ds) cs k c r e q =
    let a = then_ok (column_in s d) _ e in
    let b = then_ok (columns_in s ds) _ a.2 in
    let z : a.0 ∷ b.0 ≡ cs = ok_same b.2 in
    let w : file_column_at k (a.0 ∷ b.0) ≡ some c = subst (λ (l : List FileColumn). file_column_at k l ≡ some c) (sym z) q in
    at_first_lem s k c a.0 b.0 w (column_back s d a.0 r.0 a.1) (λ j v. columns_back s ds b.0 j c r.1 b.1 v)

-- every column of a file that was opened
pub opened-column : (s : List ℕ) (cs : List FileColumn) (k : ℕ) (c : FileColumn) → opened s ≡ ok cs → file_column_at k cs ≡ some c → IsColumn s c
unfolding opened data_groups
opened-column s cs k c e q =
    let a = then_fine (identified s) _ e in
    let b = then_ok (walk_of file_limits s) _ a.1 in
    let r = then_fine (ranges_in s b.0.fragments) _ b.2 in
    columns_back s (data_groups b.0) cs k c (groups_in_lem s b.0.fragments b.0.items r.0) r.1 q
