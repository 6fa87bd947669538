-- Laws of what is decided before anything is written.
use Rattle.std.specs.Prelude.{ℕ, ◌+◌, ◌≤◌, ◌<◌, List, [], ◌∷◌, ◌++◌, Bool, ◌≡◌, replicate, Result, Ok, Err, ⊤}
use Rattle.std.proofs.Math.Path.{refl, sym}
use Rattle.std.proofs.Common.{ap, subst, ◌∙◌, arith, length-append}
use Rattle.std.proofs.Math.ListN.{length}
use Rattle.base.specs.Blit.{blit}
use Rattle.base.specs.Choice.{if_lt, if_eq}
use Rattle.base.specs.ChoiceLaws.{lt_yes, lt_no, lt_back, eq_yes, eq_no, eq_first}
use Rattle.base.specs.Checked.{Checked, ok, refused, and_then, fine}
use Rattle.base.specs.CheckedLaws.{refused≢ok, ok_same, then_ok, then_fine}
use Rattle.mdf.specs.Block.{CN, whole_at, block_at}
use Rattle.mdf.specs.Identification.{identified}
use Rattle.mdf.specs.Walk.{walk}
use Rattle.mdf.specs.Group.{data_groups}
use Rattle.mdf.specs.Count.{counts}
use Rattle.work_words.specs.Words.{counts_at, laid_items, fragment_words}
use Rattle.plan.specs.Photos.{photos_of, photos_in, photos_first}
use Rattle.plan.specs.Columns.{SrcGroup, src_groups, Column, Signal, no_signal, signal_data, size_of_signal, plan}
use Rattle.work_words.specs.PlanWords.{fragments_in, signal_fragments, laid_plan}
use Rattle.plan.specs.Data.{all_data_in, blocks_in}
use Rattle.plan.specs.Rules.{Rules, built_in, choices_in}
use Rattle.plan.specs.Layout.{Layout, layout}
use Rattle.result.specs.Sharing.{sharing}
use Rattle.result.specs.Result.{Args, rules_of, shared_groups, Decided, lent_in, decided, work_in, zeros}
use Rattle.result.specs.Guarantee.{In}
use Rattle.fields.specs.declared.refusal.Refusal.{Refusal}
use Rattle.fields.specs.Answer.{number_of, place_of, refused_by, verdict_of}
use Rattle.plan_laws.specs.Lists.{occurs}
use Rattle.plan_laws.specs.GroupLaws.{all_addresses}
use Rattle.plan_laws.specs.SourceLaws.{Groups, groups_known}
use Rattle.plan_laws.specs.ColumnLaws.{signals_of}
use Rattle.plan_laws.specs.DecideLaws.{Sound}
use Rattle.plan_laws.specs.StandLaws.{sharing-standing}
use Rattle.plan_laws.specs.PlanLaws.{Sourced, plan-known, plan-source, plan-fits, plan-few, plan_signals}
use Rattle.payload_laws.specs.CountLaws.{member}
use Rattle.payload_laws.specs.ColumnLaws.{ready}
use Rattle.payload_laws.specs.SignalLaws.{column_signal}
use Rattle.guarantee.specs.Places.{fragments_few}
use Rattle.guarantee.specs.Photos.{photos_few}
use Rattle.copies_laws.specs.AnswerLaws.{Whole, whole_fits}
use Rattle.planning.specs.Answer.{Arranged, planned_of, ended, plan_left, left_by, plan_into}
use Rattle.planning.specs.declared.recording.Planned as answer
use Rattle.placing.specs.declared.layout.Numbers.{Numbers}
use Rattle.placing.specs.declared.decide.Decision.{Decision}
use Rattle.placing.specs.Laying.{on_unit, LaidOut, Lays, LaysOut}
use Rattle.placing.specs.InWords.{AllWithin, Referring}
use Rattle.placing.specs.BoundedLaws.{Known, all_bounded, plan-within, plan-laid}
use Rattle.placing.specs.Decision.{untimed, four, rest, Shares, DecidedIn, RestIn, RefusedIn, Decides, DecidesRest}

-- ---- steps after steps
steps : {A B C : Type 0} (v : Checked A) (f : A → Checked B) (g : B → Checked C) → and_then (and_then v f) g ≡ and_then v (λ x. and_then (f x) g)
steps (ok x) f g = refl
steps (refused n p) f g = refl

same_steps : {A B : Type 0} (v : Checked A) (f g : A → Checked B) → ((x : A) → f x ≡ g x) → and_then v f ≡ and_then v g
same_steps (ok x) f g h = h x
same_steps (refused n p) f g h = refl

-- what is decided, the lent slices apart
pub decided-rest : (x : Args) → decided x ≡ and_then (lent_in x) (λ _. rest (rules_of x) x.image x.block_size (length x.text))
unfolding decided rest planned_of layout
decided-rest x =
    let s = x.image in
    let k : Arranged → Checked Decided = λ a.
    and_then (layout (on_unit x.unit) s x.block_size (length x.text) a.planned.columns) (λ l.
    ok (record { groups = src_groups (data_groups a.source) a.numbers; stands = a.stands; planned = a.planned; laid_out = l })) in
    sym (same_steps (lent_in x) _ _ (λ _.
    same_steps (if_eq x.block_size 0 (refused 2 0) fine) _ _ (λ _.
    same_steps (choices_in (rules_of x)) _ _ (λ _.
    same_steps (if_lt 4294967296 (length s) (refused 3 0) fine) _ _ (λ _.
    steps (identified s) _ k ∙ same_steps (identified s) _ _ (λ _.
    steps (walk s) _ k ∙ same_steps (walk s) _ _ (λ st.
    steps (counts s (data_groups st)) _ k ∙ same_steps (counts s (data_groups st)) _ _ (λ ns.
    steps (photos_first x.photos s) _ k ∙ same_steps (photos_first x.photos s) _ _ (λ _.
    steps (sharing x.share s (data_groups st) (src_groups (data_groups st) ns)) _ k
    ∙ same_steps (sharing x.share s (data_groups st) (src_groups (data_groups st) ns)) _ _ (λ bys.
    steps (plan (rules_of x) s (length st.fragments) (src_groups (data_groups st) ns) bys) _ k
    ∙ same_steps (plan (rules_of x) s (length st.fragments) (src_groups (data_groups st) ns) bys) _ _ (λ p.
    steps (all_data_in s p.columns (data_groups st)) _ k ∙ same_steps (all_data_in s p.columns (data_groups st)) _ _ (λ _.
    steps (blocks_in s x.block_size p.columns) _ k))))))))))))

-- ---- planning's answer
plan_into_lem : (rs : Rules) (s : List ℕ) (size : ℕ) (w f c : List ℕ) → 8192 ≤ length w → 8192 ≤ length f → 8192 ≤ length c
    → left_by (planned_of rs s size) w f c ≡ plan_into rs s size w f c
unfolding plan_into
plan_into_lem rs s size w f c l m n = lt_no _ _ _ _ (omega arith) (lt_no _ _ _ _ (omega arith) (lt_no _ _ _ _ (omega arith) refl))

done≢refused : {p : answer.Planned} {x y : ℕ} {a b c d e f : List ℕ} → ended (ok p) a b c ≡ ended (refused x y) d e f → ⊥
done≢refused e = let z : ◌≡◌ {A = ℕ} 0 1 = cc in omega arith

-- a recording that was planned, and its words
pub record PlannedIn (rs : Rules) (s : List ℕ) (size i nf nc no' sh : ℕ) (w f c w' f' c' : List ℕ) : Type 0 where
  pub told : Arranged
  pub is : planned_of rs s size ≡ ok told
  pub items : i ≡ length told.source.items
  pub fragments : nf ≡ length told.source.fragments
  pub columns : nc ≡ length told.planned.columns
  pub omissions : no' ≡ length told.planned.omissions
  pub shared : sh ≡ shared_groups told.stands
  pub in_source : w' ≡ blit counts_at told.numbers (laid_items told.source.items w)
  pub in_fragments : f' ≡ blit 0 (fragment_words (told.source.fragments ++ signal_fragments told.planned.columns)) f
  pub in_columns : c' ≡ laid_plan (length told.source.fragments) told.planned c

planned-by : (rs : Rules) (s : List ℕ) (size : ℕ) (p : answer.Planned) (w f c w' f' c' : List ℕ) (v : Checked Arranged) → planned_of rs s size ≡ v
    → ended (ok p) w' f' c' ≡ left_by v w f c → PlannedIn rs s size p.items p.fragments p.columns p.omissions p.shared w f c w' f' c'
planned-by rs s size p w f c w' f' c' (refused x y) q z = absurd (done≢refused z)
planned-by rs s size p w f c w' f' c' (ok a) q z =
    let e : p ≡ record {
      items = length a.source.items;
      fragments = length a.source.fragments;
      columns = length a.planned.columns;
      omissions = length a.planned.omissions;
      shared = shared_groups a.stands;
    } = cc in
    record {
      told = a;
      is = q;
      items = ap (λ (p : answer.Planned). p.items) e;
      fragments = ap (λ (p : answer.Planned). p.fragments) e;
      columns = ap (λ (p : answer.Planned). p.columns) e;
      omissions = ap (λ (p : answer.Planned). p.omissions) e;
      shared = ap (λ (p : answer.Planned). p.shared) e;
      in_source = cc;
      in_fragments = cc;
      in_columns = cc;
    }

planned_refused : (rs : Rules) (s : List ℕ) (size x y : ℕ) (w f c w' f' c' : List ℕ) (v : Checked Arranged) → planned_of rs s size ≡ v
    → ended (refused x y) w' f' c' ≡ left_by v w f c → planned_of rs s size ≡ refused x y
planned_refused rs s size x y w f c w' f' c' (refused n m) p z = let a : n ≡ x = cc in let b : m ≡ y = cc in p ∙ rw (a, b)
planned_refused rs s size x y w f c w' f' c' (ok a) p z = absurd (done≢refused (sym z))

module _ (rs : Rules) (s : List ℕ) (size : ℕ) (w f c w' f' c' : List ℕ) (r : Result answer.Planned Refusal)
    (e : plan_left r w' f' c' ≡ plan_into rs s size w f c) (l : 8192 ≤ length w) (m : 8192 ≤ length f) (n : 8192 ≤ length c) where
  left : plan_left r w' f' c' ≡ left_by (planned_of rs s size) w f c
  left = e ∙ sym (plan_into_lem rs s size w f c l m n)

  pub plans_done : {p : answer.Planned} → r ≡ Ok p → PlannedIn rs s size p.items p.fragments p.columns p.omissions p.shared w f c w' f' c'
  plans_done {p} q = planned-by rs s size p w f c w' f' c' (planned_of rs s size) refl (rw q at left)

  pub plans_refused : {x : Refusal} → r ≡ Err x → planned_of rs s size ≡ refused (number_of x) (place_of x)
  plans_refused {x} q = planned_refused rs s size (number_of x) (place_of x) w f c w' f' c' (planned_of rs s size) refl (rw q at left)

-- ---- a channel's references are few
whole_channel : (s : List ℕ) (c : ℕ) → block_at CN s c ≡ fine → Whole s c
unfolding block_at
whole_channel s c e = whole_fits s c (then_fine (whole_at s c) _ e).0

column_photos_lem : (ph : Bool) (s : List ℕ) (c : Column) → Whole s c.channel → photos_in ph s c.channel ≡ fine → c.photos ≡ photos_of ph s c.channel
    → length c.photos ≤ 33554432
column_photos_lem ph s c w e q = rw q (photos_few ph s c.channel e w)

-- ---- the steps of planning
pub record ArrangedBy (rs : Rules) (s : List ℕ) (size : ℕ) (a : Arranged) : Type 0 where
  pub walked : walk s ≡ ok a.source
  pub counted : counts s (data_groups a.source) ≡ ok a.numbers
  pub shared : sharing rs.share s (data_groups a.source) (src_groups (data_groups a.source) a.numbers) ≡ ok a.stands
  pub planned : plan rs s (length a.source.fragments) (src_groups (data_groups a.source) a.numbers) a.stands ≡ ok a.planned
  pub data_fine : all_data_in s a.planned.columns (data_groups a.source) ≡ fine
  pub blocks_fine : blocks_in s size a.planned.columns ≡ fine

arranged-by : (rs : Rules) (s : List ℕ) (size : ℕ) (a : Arranged) → planned_of rs s size ≡ ok a → ArrangedBy rs s size a
unfolding planned_of
arranged-by rs s size a e =
    let b = then_fine (identified s) _ e in
    let c = then_ok (walk s) _ b.1 in
    let d = then_ok (counts s (data_groups c.0)) _ c.2 in
    let o = then_fine (photos_first rs.photos s) _ d.2 in
    let j = then_ok (sharing rs.share s (data_groups c.0) (src_groups (data_groups c.0) d.0)) _ o.1 in
    let f = then_ok (plan rs s (length c.0.fragments) (src_groups (data_groups c.0) d.0) j.0) _ j.2 in
    let g = then_fine (all_data_in s f.0.columns (data_groups c.0)) _ f.2 in
    let h = then_fine (blocks_in s size f.0.columns) _ g.1 in
    let k = ok_same h.1 in
    subst (ArrangedBy rs s size) k (record { walked = c.1; counted = d.1; shared = j.1; planned = f.1; data_fine = g.0; blocks_fine = h.0 })

pub signals_length : (cs : List Column) → length (signal_fragments cs) ≡ signals_of cs
unfolding signal_fragments signals_of
signals_length [] = refl
signals_length (c ∷ cs) = let r = signals_length cs in simp length-append (rw (size_of c.signal_of, r))
  where
    size_of : (g : Signal) → length (fragments_in g) ≡ size_of_signal g
    size_of no_signal = refl
    size_of (signal_data fs) = refl

module _ {rs : Rules} {s : List ℕ} {size i nf nc no' sh : ℕ} {w f c w' f' c' : List ℕ} (t : PlannedIn rs s size i nf nc no' sh w f c w' f' c') where
  abbrev by : ArrangedBy rs s size t.told
  by = arranged-by rs s size t.told t.is

  abbrev all : List SrcGroup
  all = src_groups (data_groups t.told.source) t.told.numbers

  known : Groups s t.told.source t.told.numbers all
  known = groups_known s t.told.source t.told.numbers by.walked by.counted

  one : (y : ℕ) → occurs y (all_addresses all) ≤ 1
  one y = omega (arith, known.once y)

  sound : Sound s all t.told.stands
  sound g i z = (sharing-standing s all one rs.share (data_groups t.told.source) t.told.stands by.shared g i z).0

  few-columns : length t.told.planned.columns ≤ 512
  few-columns =
      omega (arith, plan-few rs s all t.told.stands (length t.told.source.fragments) t.told.planned one known.nonzero sound known.few_fragments by.planned, known.few_channels)

  few_fragments_lem : length t.told.source.fragments + length (signal_fragments t.told.planned.columns) ≤ 1024
  few_fragments_lem =
      let p = plan-known rs s all t.told.stands (length t.told.source.fragments) t.told.planned one known.nonzero sound known.few_fragments by.planned in
      omega (arith, signals_length t.told.planned.columns, p.signals, p.few)

  -- its references
  column_sourced : (c : Column) → In c t.told.planned.columns → Sourced rs s all t.told.stands c
  column_sourced =
      (plan-known rs s all t.told.stands (length t.told.source.fragments) t.told.planned one known.nonzero sound known.few_fragments by.planned).sourced

  referring : Referring rs.photos s t.told.planned.columns
  referring = record { each = λ c j. (column_sourced c j).refers }

  -- a column whose data was read
  column-known : (c : Column) → In c t.told.planned.columns → Known s c
  unfolding data_groups
  column-known c j =
      let n = length t.told.source.fragments in
      let source = plan-source rs s all t.told.stands n t.told.planned one known.nonzero sound known.few_fragments by.planned c j in
      let fit = plan-fits rs s all t.told.stands n t.told.planned one known.nonzero sound known.few_fragments by.planned c j in
      let m = member s (data_groups t.told.source) by.counted c.group source.0 in
      record {
        ready = ready s (data_groups t.told.source) t.told.planned.columns by.counted by.data_fine c j source.0 fit source.1;
        signals = column_signal s (data_groups t.told.source) t.told.planned.columns by.counted by.data_fine c j source.0;
        few = omega (arith, fragments_few t.told.source.fragments t.told.source.items c.group.data_group m.listed, known.few_fragments);
        few_signals = omega (arith, plan_signals rs s all t.told.stands n t.told.planned one known.nonzero sound known.few_fragments by.planned c j);
        few_photos = column_photos_lem rs.photos s c (whole_channel s c.channel ((known.checked c.group source.0).channels c.channel source.2)) (column_sourced c j).referred (column_sourced c j).refers;
      }

  module _ (h : length s ≤ 4294967296) (lf : 8192 ≤ length f) (lc : 8192 ≤ length c) where
    -- what lay_out asks
    pub lays_few : nc ≤ 512
    lays_few = omega (arith, t.columns, few-columns)

    pub lays_within : AllWithin rs.photos s size c' f' 0 nc
    lays_within =
        rw (t.columns, t.in_columns, t.in_fragments)
        (plan-within rs.photos s size t.told.planned t.told.source.fragments c f few-columns (omega arith) few_fragments_lem (omega arith)
        (all_bounded s size t.told.planned.columns h by.blocks_fine column-known) referring)

    -- what it gives
    pub laid-plan : {u text : ℕ} {m m' : List ℕ} {r : Result Numbers Refusal} → LaysOut u rs.photos s size text c' f' nc m m' r → Lays m m' r (layout (on_unit u) s size text t.told.planned.columns)
    laid-plan {u} {text} {m} {m'} {r} z =
        plan-laid u rs.photos s size text t.told.planned t.told.source.fragments c f nc few-columns (omega arith) few_fragments_lem (omega arith) (sym t.columns) referring
        (subst (λ (x : List ℕ). LaysOut u rs.photos s size text x (blit 0 (fragment_words (t.told.source.fragments ++ signal_fragments t.told.planned.columns)) f) nc m m' r) t.in_columns
        (subst (λ (y : List ℕ). LaysOut u rs.photos s size text c' y nc m m' r) t.in_fragments z))

-- ---- the choices
pub chosen_refused : (rs : Rules) {r : Result ⊤ Refusal} → verdict_of r ≡ choices_in rs → {x : Refusal} → r ≡ Err x → choices_in rs ≡ refused_by x
chosen_refused rs e q = sym e ∙ rw q

pub chosen-fine : (rs : Rules) {r : Result ⊤ Refusal} → verdict_of r ≡ choices_in rs → {u : ⊤} → r ≡ Ok u → choices_in rs ≡ fine
chosen-fine rs e q = sym e ∙ rw q

-- ---- all but the lent slices
module _ (rs : Rules) (s : List ℕ) (size text : ℕ) where
  pub rest_empty : size ≡ 0 → rest rs s size text ≡ refused 2 0
  unfolding rest
  rest_empty h = rw (← (eq_yes size 0 (refused 2 0) fine h refl))

  module _ (h : size ≡ 0 → ⊥) where
    pub rest_unchosen : {n p : ℕ} → choices_in rs ≡ refused n p → rest rs s size text ≡ refused n p
    unfolding rest
    rest_unchosen e = rw (← (eq_no size 0 (refused 2 0) fine h refl), e)

    module _ (k : choices_in rs ≡ fine) where
      pub rest_large : 4294967296 < length s → rest rs s size text ≡ refused 3 0
      unfolding rest
      rest_large l = rw (← (eq_no size 0 (refused 2 0) fine h refl), k, ← (lt_yes 4294967296 (length s) (refused 3 0) fine l refl))

      module _ (l : length s ≤ 4294967296) where
        opened : rest rs s size text ≡ and_then (planned_of rs s size) (λ a.
            and_then (layout (on_unit rs.unit) s size text a.planned.columns) (λ l.
            ok (record { groups = src_groups (data_groups a.source) a.numbers; stands = a.stands; planned = a.planned; laid_out = l })))
        unfolding rest
        opened = rw (← (eq_no size 0 (refused 2 0) fine h refl), k, ← (lt_no 4294967296 (length s) (refused 3 0) fine l refl))

        pub rest_unplanned : {n p : ℕ} → planned_of rs s size ≡ refused n p → rest rs s size text ≡ refused n p
        rest_unplanned e = opened ∙ rw e

        pub rest_unlaid : {a : Arranged} {n p : ℕ} → planned_of rs s size ≡ ok a → layout (on_unit rs.unit) s size text a.planned.columns ≡ refused n p
            → rest rs s size text ≡ refused n p
        rest_unlaid e f = opened ∙ rw (e, f)

        pub rest-laid : {a : Arranged} {v : Layout} → planned_of rs s size ≡ ok a → layout (on_unit rs.unit) s size text a.planned.columns ≡ ok v
            → rest rs s size text ≡ ok (record { groups = src_groups (data_groups a.source) a.numbers; stands = a.stands; planned = a.planned; laid_out = v })
        rest-laid e f = opened ∙ rw (e, f)

-- ---- what the layout gives
pub unlaid : (m m' : List ℕ) (r : Result Numbers Refusal) (v : Checked Layout) {x : Refusal} → Lays m m' r v → r ≡ Err x → v ≡ refused (number_of x) (place_of x)
unlaid m m' r v z e = subst (λ (r : Result Numbers Refusal). Lays m m' r v) e z

pub rest_in : (rs : Rules) (s : List ℕ) (size text : ℕ) → (size ≡ 0 → ⊥) → choices_in rs ≡ fine → length s ≤ 4294967296 → {i nf nc no' sh : ℕ} {w f c w' f' c' : List ℕ} (t : PlannedIn rs s size i nf nc no' sh w f c w' f' c')
    → {m m' : List ℕ} {r : Result Numbers Refusal} {n : Numbers} → Lays m m' r (layout (on_unit rs.unit) s size text t.told.planned.columns) → r ≡ Ok n
    → RestIn rs s size text i nf nc no' n w f c m w' f' c' m'
rest_in rs s size text h k l t {m} {m'} {r} {n} z e =
    let y : LaidOut m m' n (layout (on_unit rs.unit) s size text t.told.planned.columns) = subst (λ (q : Result Numbers Refusal). Lays m m' q (layout (on_unit rs.unit) s size text t.told.planned.columns)) e z in
    let b = arranged-by rs s size t.told t.is in
    record {
      told = record { groups = src_groups (data_groups t.told.source) t.told.numbers; stands = t.told.stands; planned = t.told.planned; laid_out = y.told };
      is = rest-laid rs s size text h k l t.is y.is;
      source = t.told.source;
      walked = b.walked;
      numbers = t.told.numbers;
      counted = b.counted;
      items = t.items;
      fragments = t.fragments;
      columns = t.columns;
      omissions = t.omissions;
      numbered = y.numbered;
      in_source = t.in_source;
      in_fragments = t.in_fragments;
      in_columns = t.in_columns;
    }

pub rest-shares : (rs : Rules) (s : List ℕ) (size text : ℕ) → {i nf nc no' sh : ℕ} {w f c w' f' c' : List ℕ} (t : PlannedIn rs s size i nf nc no' sh w f c w' f' c') → Shares (rest rs s size text) sh
unfolding rest
rest-shares rs s size text t d e =
    let a = then_fine (if_eq size 0 (refused 2 0) fine) _ e in
    let b = then_fine (choices_in rs) _ a.1 in
    let c = then_fine (if_lt 4294967296 (length s) (refused 3 0) fine) _ b.1 in
    let g = then_ok (planned_of rs s size) _ c.1 in
    let h = then_ok (layout (on_unit rs.unit) s size text g.0.planned.columns) _ g.2 in
    t.shared ∙ ap (λ (x : Arranged). shared_groups x.stands) (ok_same (sym t.is ∙ g.1)) ∙ ap (λ (x : Decided). shared_groups x.stands) (ok_same h.2)

-- ---- the whole
module _ (a b c d : List ℕ) where
  pub short-first : length a < 8192 → work_in (four a b c d) ≡ refused 1 0
  unfolding work_in
  short-first h = sym (lt_yes _ _ _ _ h refl)

  pub short-second : 8192 ≤ length a → length b < 8192 → work_in (four a b c d) ≡ refused 1 0
  unfolding work_in
  short-second h i = sym (lt_no _ _ _ _ h (lt_yes _ _ _ _ i refl))

  pub short_third : 8192 ≤ length a → 8192 ≤ length b → length c < 8192 → work_in (four a b c d) ≡ refused 1 0
  unfolding work_in
  short_third h i j = sym (lt_no _ _ _ _ h (lt_no _ _ _ _ i (lt_yes _ _ _ _ j refl)))

  pub short_fourth : 8192 ≤ length a → 8192 ≤ length b → 8192 ≤ length c → length d < 8192 → work_in (four a b c d) ≡ refused 1 0
  unfolding work_in
  short_fourth h i j k = sym (lt_no _ _ _ _ h (lt_no _ _ _ _ i (lt_no _ _ _ _ j (lt_yes _ _ _ _ k refl))))

  pub work_fine : 8192 ≤ length a → 8192 ≤ length b → 8192 ≤ length c → 8192 ≤ length d → work_in (four a b c d) ≡ fine
  unfolding work_in
  work_fine h i j k = sym (lt_no _ _ _ _ h (lt_no _ _ _ _ i (lt_no _ _ _ _ j (lt_no _ _ _ _ k refl))))

pub short_work : (x : Args) {ws : List (List ℕ)} → work_in ws ≡ refused 1 0 → RefusedIn x 1 0 ws ws
short_work x e = record { is = rw e; words = rw e }

lent_same : (image : List ℕ) (size : ℕ) (ident text : List ℕ) (c : Rules)
    → lent_in (untimed image size ident text c) ≡ lent_in (untimed [] 0 ident text built_in)
unfolding lent_in
lent_same image size ident text c = refl

module _ (image : List ℕ) (size : ℕ) (ident text : List ℕ) (chosen : Rules) (ws : List (List ℕ)) (fits : work_in ws ≡ fine) (r : Result ⊤ Refusal)
    (e : verdict_of r ≡ lent_in (untimed [] 0 ident text built_in)) where
  abbrev x : Args
  x = untimed image size ident text chosen

  lent_is : lent_in x ≡ verdict_of r
  lent_is = lent_same image size ident text chosen ∙ sym e

  pub lent_refused : {y : Refusal} → r ≡ Err y → RefusedIn x (number_of y) (place_of y) ws ws
  unfolding decided
  lent_refused {y} q =
      let k : lent_in x ≡ refused_by y = lent_is ∙ rw q in
      record { is = rw (fits, k); words = rw (fits, k) }

  module _ {o : ⊤} (q : r ≡ Ok o) where
    lent_passes : lent_in x ≡ fine
    lent_passes = lent_is ∙ rw q

    pub decided_is : decided x ≡ rest chosen image size (length text)
    decided_is = decided-rest x ∙ rw lent_passes

    pub text-fits : length text ≤ 4096
    unfolding lent_in
    text-fits =
        let a = eq_first _ _ _ _ lent_passes refused≢ok in
        let b = eq_first _ _ _ _ a.1 refused≢ok in
        let c = eq_first _ _ _ _ b.1 refused≢ok in
        (lt_back _ _ _ _ c.1 refused≢ok).0

    pub rest_refused : {n p : ℕ} {ws' : List (List ℕ)} → rest chosen image size (length text) ≡ refused n p → ws' ≡ zeros ws → RefusedIn x n p ws ws'
    rest_refused k z = record { is = rw (fits, decided_is, k); words = z ∙ rw (fits, lent_passes) }

    pub rest-decided : {i f k o : ℕ} {n : Numbers} {a b c d a' b' c' d' : List ℕ} → 8192 ≤ length a → 8192 ≤ length b → 8192 ≤ length c → 8192 ≤ length d
        → RestIn chosen image size (length text) i f k o n a b c d a' b' c' d' → DecidedIn x i f k o n a b c d a' b' c' d'
    rest-decided la lb lc ld t =
        record {
          told = t.told;
          is = decided_is ∙ t.is;
          source = t.source;
          walked = t.walked;
          numbers = t.numbers;
          counted = t.counted;
          items = t.items;
          fragments = t.fragments;
          columns = t.columns;
          omissions = t.omissions;
          numbered = t.numbered;
          long_a = la;
          long_b = lb;
          long_c = lc;
          long_d = ld;
          in_source = t.in_source;
          in_fragments = t.in_fragments;
          in_columns = t.in_columns;
        }

-- answers taken apart
pub rests_refused : (rs : Rules) (s : List ℕ) (size text : ℕ) (a b c d : List ℕ) (r : Result Decision Refusal) (a' b' c' d' : List ℕ) {x : Refusal}
    → DecidesRest rs s size text a b c d r a' b' c' d' → r ≡ Err x → rest rs s size text ≡ refused (number_of x) (place_of x)
rests_refused rs s size text a b c d r a' b' c' d' h e = subst (λ (r : Result Decision Refusal). DecidesRest rs s size text a b c d r a' b' c' d') e h

pub cleared : (a b c d a' b' c' d' a'' b'' c'' d'' : List ℕ) → length a' ≡ length a → length b' ≡ length b → length c' ≡ length c → length d' ≡ length d
    → a'' ≡ replicate (length a') 0 → b'' ≡ replicate (length b') 0 → c'' ≡ replicate (length c') 0 → d'' ≡ replicate (length d') 0
    → four a'' b'' c'' d'' ≡ zeros (four a b c d)
unfolding zeros
cleared a b c d a' b' c' d' a'' b'' c'' d'' la lb lc ld e f g h = rw (e, f, g, h, la, lb, lc, ld)

pub cleared-after : (a b c d a' b' c' d' : List ℕ) {ws : List (List ℕ)} → length a' ≡ length a → length b' ≡ length b → length c' ≡ length c → length d' ≡ length d
    → ws ≡ zeros (four a' b' c' d') → ws ≡ zeros (four a b c d)
unfolding zeros
cleared-after a b c d a' b' c' d' la lb lc ld e = rw (← la, ← lb, ← lc, ← ld) e

pub decides_some : (x : Args) (rs : Rules) (s : List ℕ) (size text : ℕ) (a b c d a' b' c' d' : List ℕ) (r : Result Decision Refusal) {m : Decision}
    → DecidesRest rs s size text a b c d r a' b' c' d' → r ≡ Ok m
    → (RestIn rs s size text m.items m.fragments m.columns m.omissions m.numbers a b c d a' b' c' d'
    → DecidedIn x m.items m.fragments m.columns m.omissions m.numbers a b c d a' b' c' d') → decided x ≡ rest rs s size text
    → Decides x a b c d r a' b' c' d'
decides_some x rs s size text a b c d a' b' c' d' r h e f q =
    let k = subst (λ (q : Result Decision Refusal). DecidesRest rs s size text a b c d q a' b' c' d') e h in
    subst (λ (q : Result Decision Refusal). Decides x a b c d q a' b' c' d') (sym e) (f k.0, λ d w. k.1 d (sym q ∙ w))
