-- A file in which columns stand is opened, with just these columns.
use Prim.{Unit, tt}
use Rattle.std.specs.Prelude.{ℕ, zero, suc, ◌+◌, ◌-◌, ◌≤◌, ◌<◌, List, [], ◌∷◌, ◌++◌, false, ◌≡◌, refl, length, take}
use Rattle.std.proofs.Common.{append_assoc, append-nil, ap, ◌∙◌, arith, length-append, drop_at, ne_eqb, lt-ltb}
use Rattle.std.proofs.Math.Option.{some}
use Rattle.std.proofs.Math.Path.{sym}
use Rattle.std.proofs.Math.Seq.{take-append_seam}
use Rattle.base.specs.Blit.{part}
use Rattle.base.specs.Choice.{if_lt}
use Rattle.base.specs.ChoiceLaws.{eq_yes, eq_no}
use Rattle.base.specs.Checked.{Checked, ok, fine}
use Rattle.mdf.specs.Block.{link_at, block_at}
use Rattle.mdf.specs.Chain.{Fragment, file_limits}
use Rattle.mdf.specs.Walk.{Item, dg, cg, cn, address, Source, source, is_met, Level, level_dg, level_cg, level_cn, tally, most_items, visit, entered, level, turns, below_cn, below_cg, id_size_in, below_dg, walk_of}
use Rattle.mdf.specs.Group.{Group, channels_of, groups_of, up_to, data_groups_of, data_groups}
use Rattle.mdf.specs.Records.{ranges_in}
use Rattle.file.specs.Form.{FileColumn, alone}
use Rattle.file.specs.Opened.{columns_in, opened}
use Rattle.file_laws.specs.JoinedLaws.{ranges_append}
use Rattle.file_laws.specs.OpenedLaws.{columns-none, columns-next, column_ok, formed_back}
use Rattle.file_laws.specs.Standing.{ColumnStands, first_dg, AllStand, all_fragments, FileStands}

-- ---- what the walk meets
unfoldable pub items_of : ℕ → List FileColumn → List Item
items_of n [] = []
items_of n (c ∷ cs) = dg c.dg n ∷ cg c.cg ∷ cn c.cn ∷ items_of (n + length c.fragments) cs

-- ---- one level

-- every address met lies below a
abbrev Below : ℕ → List Item → Type 0
Below a [] = Unit {0}
Below a (i ∷ is) = (address i < a) × Below a is

below_unmet : (a b : ℕ) (is : List Item) → Below a is → a ≤ b → is_met b is ≡ false
unfolding is_met
below_unmet a b [] h l = refl
below_unmet a b (i ∷ is) h l = rw (ne_eqb (address i) b (λ e. omega (arith, h.0)), below_unmet a b is h.1 l)

below_more : (a b : ℕ) (is : List Item) (i : Item) → Below a is → a ≤ b → address i < b → Below b (is ++ (i ∷ []))
below_more a b [] i h l k = (k, tt)
below_more a b (j ∷ is) i h l k = (omega (arith, h.0), below_more a b is i h.1 l k)

tally-more : (own : Item → ℕ) (is : List Item) (i : Item) → tally own (is ++ (i ∷ [])) ≡ tally own is + own i
unfolding tally
tally-more own [] i = omega arith
tally-more own (j ∷ is) i = omega (arith, tally-more own is i)

-- a block of a level that is met for the first time, below the limit
visit-fine : (k : Level) (s : List ℕ) (st : Source) (a : ℕ) → is_met a st.items ≡ false → block_at k.wanted s a ≡ fine
    → tally k.own st.items < most_items → visit k s st a ≡ fine
unfolding visit if_lt
visit-fine k s st a e b h = rw (e, b, lt-ltb (tally k.own st.items) most_items h)

level_end : (k : Level) (below : ℕ → Source → Checked Source) (n : ℕ) (s : List ℕ) (a : ℕ) (st : Source) → a ≡ 0 → level k below (suc n) s a st ≡ ok st
unfolding level
level_end k below n s a st e = sym (eq_yes _ _ _ _ e refl)

level-next : (k : Level) (below : ℕ → Source → Checked Source) (n : ℕ) (s : List ℕ) (a : ℕ) (st st' : Source) → (a ≡ 0 → ⊥)
    → visit k s st a ≡ fine → below a (entered k a st) ≡ ok st' → level k below (suc n) s a st ≡ level k below n s (link_at s a 0) st'
unfolding level
level-next k below n s a st st' z v b = sym (eq_no _ _ _ _ z (sym (rw (v, b))))

-- ---- a column

-- what was met before the columns from address a on, n of them, of which so many fragments are left
record Before (a n m : ℕ) (st : Source) : Type 0 where
  met : Below a st.items
  few_dg : tally level_dg.own st.items + n ≤ most_items
  few_cg : tally level_cg.own st.items + n ≤ most_items
  few_cn : tally level_cn.own st.items + n ≤ most_items
  few_blocks : length st.fragments + m ≤ file_limits.fragments

-- after a column
abbrev with_column : FileColumn → Source → Source
with_column c st =
    source (((st.items ++ (dg c.dg (length st.fragments) ∷ [])) ++ (cg c.cg ∷ [])) ++ (cn c.cn ∷ [])) (st.fragments ++ c.fragments)

module _ (f : List ℕ) (c : FileColumn) (next : ℕ) (h : ColumnStands f c next) where
  id_fine : id_size_in f c.dg ≡ fine
  unfolding id_size_in
  id_fine = sym (eq_yes _ _ _ _ (formed_back f c h.form).ids refl)

  module _ (a n m : ℕ) (st : Source) (b : Before a (suc n) m st) (l : a ≤ c.dg) (room : length c.fragments ≤ m) where
    abbrev items1 : List Item
    items1 = st.items ++ (dg c.dg (length st.fragments) ∷ [])

    abbrev items2 : List Item
    items2 = items1 ++ (cg c.cg ∷ [])

    abbrev items3 : List Item
    items3 = items2 ++ (cn c.cn ∷ [])

    abbrev blocks : List Fragment
    blocks = st.fragments ++ c.fragments

    below1 : Below c.cg items1
    below1 = below_more a c.cg st.items (dg c.dg (length st.fragments)) b.met (omega (arith, h.cg_above)) h.cg_above

    below2 : Below c.cn items2
    below2 = below_more c.cg c.cn items1 (cg c.cg) below1 (omega (arith, h.cn_above)) h.cn_above

    below3 : Below (suc c.cn) items3
    below3 = below_more c.cn (suc c.cn) items2 (cn c.cn) below2 (omega arith) (omega arith)

    tally3 : (own : Item → ℕ) → tally own items3
        ≡ tally own st.items + own (dg c.dg (length st.fragments)) + own (cg c.cg) + own (cn c.cn)
    tally3 own = rw (tally-more own items2 (cn c.cn), tally-more own items1 (cg c.cg), tally-more own st.items (dg c.dg (length st.fragments)))

    tally2 : (own : Item → ℕ) → tally own items2 ≡ tally own st.items + own (dg c.dg (length st.fragments)) + own (cg c.cg)
    tally2 own = rw (tally-more own items1 (cg c.cg), tally-more own st.items (dg c.dg (length st.fragments)))

    cn-level : level level_cn (below_cn f) turns f c.cn (source items2 blocks) ≡ ok (source items3 blocks)
    unfolding below_cn entered
    cn-level =
        level-next level_cn (below_cn f) 512 f c.cn (source items2 blocks) (source items3 blocks) (λ e. omega (arith, h.cn_above))
        (visit-fine level_cn f (source items2 blocks) c.cn (below_unmet c.cn c.cn items2 below2 (omega arith)) h.cn_block
        (omega (arith, tally2 level_cn.own, b.few_cn)))
        (rw h.cn_name)
        ∙ level_end level_cn (below_cn f) 511 f (link_at f c.cn 0) (source items3 blocks) h.cn_next

    cg-level : level level_cg (below_cg f) turns f c.cg (source items1 blocks) ≡ ok (source items3 blocks)
    unfolding below_cg entered
    cg-level =
        level-next level_cg (below_cg f) 512 f c.cg (source items1 blocks) (source items3 blocks) (λ e. omega (arith, h.cg_above))
        (visit-fine level_cg f (source items1 blocks) c.cg (below_unmet c.cg c.cg items1 below1 (omega arith)) h.cg_block
        (omega (arith, tally-more level_cg.own st.items (dg c.dg (length st.fragments)), b.few_cg)))
        (rw (h.cg_name, h.cg_channel) cn-level)
        ∙ level_end level_cg (below_cg f) 511 f (link_at f c.cg 0) (source items3 blocks) h.cg_next

    below-column : below_dg file_limits f c.dg (entered level_dg c.dg st) ≡ ok (source items3 blocks)
    unfolding below_dg entered
    below-column = rw (h.chained (length st.fragments) (omega (arith, b.few_blocks)), id_fine, h.dg_group) cg-level

    dg-fine : visit level_dg f st c.dg ≡ fine
    dg-fine = visit-fine level_dg f st c.dg (below_unmet a c.dg st.items b.met l) h.dg_block (omega (arith, b.few_dg))

    after : (j : ℕ) → length c.fragments + j ≤ m → Before (suc c.cn) n j (source items3 blocks)
    after j k =
        record {
          met = below3;
          few_dg = omega (arith, tally3 level_dg.own, b.few_dg);
          few_cg = omega (arith, tally3 level_cg.own, b.few_cg);
          few_cn = omega (arith, tally3 level_cn.own, b.few_cn);
          few_blocks = rw length-append (omega (arith, b.few_blocks));
        }

-- ---- all columns

columns-walk : (f : List ℕ) (cs : List FileColumn) (t a : ℕ) (st : Source) → length cs < t → AllStand f a cs
    → Before a (length cs) (length (all_fragments cs)) st
    → level level_dg (below_dg file_limits f) t f (first_dg cs) st
    ≡ ok (source (st.items ++ items_of (length st.fragments) cs) (st.fragments ++ all_fragments cs))
unfolding AllStand all_fragments items_of
columns-walk f [] zero a st k h b = absurd (omega arith)
columns-walk f [] (suc t) a st k h b = level_end level_dg (below_dg file_limits f) t f 0 st refl ∙ rw (append-nil, append-nil)
columns-walk f (c ∷ cs) zero a st k h b = absurd (omega arith)
columns-walk f (c ∷ cs) (suc t) a st k h b =
    let d : ColumnStands f c (first_dg cs) = h.1 in
    let e : length (c.fragments ++ all_fragments cs) ≡ length c.fragments + length (all_fragments cs) = length-append c.fragments (all_fragments cs) in
    let m : ℕ = length (c.fragments ++ all_fragments cs) in
    let few : length c.fragments ≤ m = omega arith in
    let st' : Source = with_column c st in
    let step : level level_dg (below_dg file_limits f) (suc t) f c.dg st ≡ level level_dg (below_dg file_limits f) t f (link_at f c.dg 0) st' =
    level-next level_dg (below_dg file_limits f) t f c.dg st st' (λ e. omega (arith, d.dg_above))
    (dg-fine f c (first_dg cs) d a (length cs) m st b h.0 few) (below-column f c (first_dg cs) d a (length cs) m st b h.0 few) in
    let rest = columns-walk f cs t (suc c.cn) st' (omega arith) h.2
    (after f c (first_dg cs) d a (length cs) m st b h.0 few (length (all_fragments cs)) (omega arith)) in
    let items : st'.items ++ items_of (length st'.fragments) cs
    ≡ st.items ++ (dg c.dg (length st.fragments) ∷ cg c.cg ∷ cn c.cn ∷ items_of (length st.fragments + length c.fragments) cs) =
    rw length-append (simp append_assoc) in
    let all : st'.fragments ++ all_fragments cs ≡ st.fragments ++ (c.fragments ++ all_fragments cs) = append_assoc st.fragments c.fragments (all_fragments cs) in
    step ∙ ap (λ (x : ℕ). level level_dg (below_dg file_limits f) t f x st') d.dg_next ∙ rest ∙ rw (items, all)

pub walk_stands : (f : List ℕ) (cs : List FileColumn) → FileStands f cs → walk_of file_limits f ≡ ok (source (items_of 0 cs) (all_fragments cs))
unfolding walk_of tally
walk_stands f cs h =
    rw (h.header, h.first)
    (columns-walk f cs turns 0 (source [] []) (omega (arith, h.few)) h.columns
    (record { met = tt; few_dg = omega (arith, h.few); few_cg = omega (arith, h.few); few_cn = omega (arith, h.few); few_blocks = omega (arith, h.few_blocks) }))

-- ---- the columns found

-- past a column's CG and CN there is a DG or nothing
no_channels : (n : ℕ) (cs : List FileColumn) → channels_of (items_of n cs) ≡ []
unfolding channels_of items_of
no_channels n [] = refl
no_channels n (c ∷ cs) = refl

no_groups : (n : ℕ) (cs : List FileColumn) → groups_of (items_of n cs) ≡ []
unfolding groups_of items_of
no_groups n [] = refl
no_groups n (c ∷ cs) = refl

up-to : (all n : ℕ) (cs : List FileColumn) → all ≡ n + length (all_fragments cs) → up_to all (items_of n cs) ≡ n
unfolding up_to items_of all_fragments
up-to all n [] e = omega arith
up-to all n (c ∷ cs) e = refl

part_middle : (xs ys zs : List Fragment) → part (length xs) (length ys) (xs ++ (ys ++ zs)) ≡ ys
unfolding part
part_middle xs ys zs = ap (take (length ys)) (drop_at xs (ys ++ zs) (length xs) refl) ∙ take-append_seam ys zs

-- a DG with the column's CG, CN and fragments
group-alone : (c : FileColumn) (fs : List Fragment) (gs : List Group) → fs ≡ c.fragments → gs ≡ record { at = c.cg; channels = c.cn ∷ [] } ∷ []
    → alone (record { at = c.dg; fragments = fs; groups = gs }) ≡ some c
unfolding alone
group-alone c fs gs e q = rw (e, q)

-- the groups of the walk's items, with all fragments, those found before among them
columns-found : (f : List ℕ) (cs : List FileColumn) (a : ℕ) (before : List Fragment) → AllStand f a cs
    → columns_in f (data_groups_of (before ++ all_fragments cs) (items_of (length before) cs)) ≡ ok cs
unfolding AllStand all_fragments items_of data_groups_of up_to groups_of channels_of
columns-found f [] a before h = columns-none f
columns-found f (c ∷ cs) a before h =
    let fs : List Fragment = before ++ (c.fragments ++ all_fragments cs) in
    let n : ℕ = length before + length c.fragments in
    let all : length fs ≡ n + length (all_fragments cs) = simp length-append (omega arith) in
    let size : up_to (length fs) (items_of n cs) - length before ≡ length c.fragments = omega (arith, up-to (length fs) n cs all) in
    let own : part (length before) (up_to (length fs) (items_of n cs) - length before) fs ≡ c.fragments =
    ap (λ (k : ℕ). part (length before) k fs) size ∙ part_middle before c.fragments (all_fragments cs) in
    let group : record { at = c.cg; channels = c.cn ∷ channels_of (items_of n cs) } ∷ groups_of (items_of n cs) ≡ record { at = c.cg; channels = c.cn ∷ [] } ∷ [] =
    rw (no_channels n cs, no_groups n cs) in
    let rest : columns_in f (data_groups_of ((before ++ c.fragments) ++ all_fragments cs) (items_of (length (before ++ c.fragments)) cs)) ≡ ok cs =
    columns-found f cs (suc c.cn) (before ++ c.fragments) h.2 in
    let later : columns_in f (data_groups_of fs (items_of n cs)) ≡ ok cs = rw (append_assoc, length-append) at rest in
    columns-next f _ (data_groups_of fs (items_of n cs)) c cs (column_ok f _ c (group-alone c _ _ own group) h.1.form) later

ranges_all : (f : List ℕ) (cs : List FileColumn) (a : ℕ) → AllStand f a cs → ranges_in f (all_fragments cs) ≡ fine
unfolding AllStand all_fragments ranges_in
ranges_all f [] a h = refl
ranges_all f (c ∷ cs) a h = ranges_append f c.fragments (all_fragments cs) h.1.ranges (ranges_all f cs (suc c.cn) h.2)

-- a file in which columns stand is opened, with just these columns
pub opened_stands : (f : List ℕ) (cs : List FileColumn) → FileStands f cs → opened f ≡ ok cs
unfolding opened data_groups
opened_stands f cs h = rw (h.ident, walk_stands f cs h, ranges_all f cs 0 h.columns) (columns-found f cs 0 [] h.columns)
