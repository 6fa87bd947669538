-- Wrong converters that document 01's c excludes, at the worked example: what each leaves does not have the guarantee, whatever the list, or its answer
-- is not the one defined.
use Rattle.std.specs.Prelude.{ℕ, Bool, true, false, List, [], ◌∷◌, ◌++◌, ◌≡◌, refl, eqb, replicate, get_or, take, set}
use Rattle.std.proofs.Math.Option.{none}
use Rattle.std.proofs.Common.{sym, ap, subst, ◌∙◌, arith, eqb-true}
use Rattle.std.proofs.lemmas.Bool.{eqb-false}
use Rattle.base.specs.CheckedLaws.{refused≢ok, ok_same}
use Rattle.base.specs.ChoiceLaws.{eq_no}
use Rattle.base.specs.Checked as base_checked
use Rattle.base.specs.Choice as base_choice
use Rattle.plan.specs.Columns as plan_columns
use Rattle.plan.specs.Layout as plan_layout
use Rattle.result.specs.Result as result_result
use Rattle.result.specs.Links as result_links
use Rattle.mdf.specs.Chain as mdf_chain
use Rattle.result.specs.Member.{In, here, there}
use Rattle.result.specs.Recording.{leads_to, has_signal, reason_for, OmissionDue}
use Rattle.result.specs.Guarantee.{omissions_of, columns_of, Guaranteed}
use Rattle.cases.specs.Evaluated.{evaluated}
use Rattle.cases.specs.Starred.{image, args}
use Rattle.cases.specs.Excluded.{file_in, other}

-- with what was decided, the bytes f do not have the guarantee
abbrev pub Refuted : result_result.Args → base_checked.Checked result_result.Decided → List ℕ → Type 0
Refuted x (base_checked.ok d) f = (l : List ℕ) → Guaranteed x d f l → ⊥
Refuted x (base_checked.refused number place) f = ⊥

-- ---- "a converter that accepts and writes nothing": HD is missing
pub writes_nothing : Refuted args (result_result.decided args) (replicate 1288 0)
unfolding evaluated
writes_nothing l g =
    let z : ◌≡◌ {A = ℕ} 0 35 = ap (λ (bs : List ℕ). get_or bs 0 0) (g.filled _ (there here)).is in
    omega (arith, z)

-- ---- "one that fills only the first column": the second column's first data block is missing
pub fills_the_first : Refuted args (result_result.decided args) (take 1176 (file_in args (result_result.decided args)) ++ replicate 112 0)
unfolding evaluated
fills_the_first l g =
    let i : In _ _ = there (there (there (there (there (there (there (there (there (there (there (there (there (there here))))))))))))) in
    let z : ◌≡◌ {A = ℕ} 0 35 = ap (λ (bs : List ℕ). get_or bs 0 0) (g.filled _ i).is in
    omega (arith, z)

-- ---- "one that gives every recording one stock file": the other recording's first sample is 9
pub stock_file : Refuted other (result_result.decided other) (file_in args (result_result.decided args))
unfolding evaluated
stock_file l g =
    let i : In _ _ = there (there (there (there (there (there (there (there (there (there (there (there here))))))))))) in
    let z : ◌≡◌ {A = ℕ} 0 9 = ap (λ (bs : List ℕ). get_or bs 24 0) (g.filled _ i).is in
    omega (arith, z)

-- ---- blocks that say something else than is due: byte offset 1 or bit count 1 in the first CN; DT for DV; a DL that leads on to HD

-- of the first column that links show: byte offset, bit count
abbrev offset_in : List result_links.Shown → ℕ
offset_in [] = 0
offset_in (c ∷ cs) = c.channel.byte_offset

abbrev bits_in : List result_links.Shown → ℕ
bits_in [] = 0
bits_in (c ∷ cs) = c.channel.bit_count

-- a data chain: 0 stopped, 1 without blocks, 2 begun by DT, 3 by DV
abbrev kind_of : mdf_chain.Kind → ℕ
kind_of mdf_chain.dt = 2
kind_of mdf_chain.dv = 3

abbrev blocks_in : base_checked.Checked (List mdf_chain.Fragment) → ℕ
blocks_in (base_checked.refused number place) = 0
blocks_in (base_checked.ok []) = 1
blocks_in (base_checked.ok (f ∷ fs)) = kind_of f.kind

abbrev data_in : List result_links.Shown → ℕ
data_in [] = 0
data_in (c ∷ cs) = blocks_in c.blocks

abbrev pub WritesOther : Type 0
WritesOther =
    Refuted args (result_result.decided args) (set (file_in args (result_result.decided args)) 516 1)
    × Refuted args (result_result.decided args) (set (file_in args (result_result.decided args)) 520 1)
    × Refuted args (result_result.decided args) (set (file_in args (result_result.decided args)) 1051 84)
    × Refuted args (result_result.decided args) (set (file_in args (result_result.decided args)) 608 64)

pub writes_other : WritesOther
unfolding evaluated
writes_other = (
  λ l g. let z : ◌≡◌ {A = ℕ} 1 0 = ap offset_in (g.shows 2 (omega arith)) in omega (arith, z),
  λ l g. let z : ◌≡◌ {A = ℕ} 1 32 = ap bits_in (g.shows 2 (omega arith)) in omega (arith, z),
  λ l g. let z : ◌≡◌ {A = ℕ} 2 3 = ap data_in (g.shows 2 (omega arith)) in omega (arith, z),
  λ l g. let z : ◌≡◌ {A = ℕ} 0 3 = ap data_in (g.shows 2 (omega arith)) in omega (arith, z),
)

-- ---- a plan in which every column is a time column that names none: the signal is no master
abbrev timed : plan_columns.Column → plan_columns.Column
timed c = record { group = c.group; channel = c.channel; is_time_lem = true; master = none; signal_of = c.signal_of; photos = c.photos }

abbrev all_timed : List plan_columns.Column → List plan_columns.Column
all_timed [] = []
all_timed (c ∷ cs) = timed c ∷ all_timed cs

abbrev pub TimesEach : base_checked.Checked result_result.Decided → Type 0
TimesEach (base_checked.ok d) =
    (os : List plan_columns.Omission) (n : ℕ) (p : plan_layout.Layout) (f l : List ℕ)
    → Guaranteed args (record { groups = d.groups; stands = d.stands; planned = record { columns = all_timed d.planned.columns; omissions = os; fragments = n }; laid_out = p }) f l
    → ⊥
TimesEach (base_checked.refused number place) = ⊥

untrue : ◌≡◌ {A = Bool} false true → ⊥
untrue e = let z : ◌≡◌ {A = ℕ} 0 1 = cc in omega arith

pub times-each : TimesEach (result_result.decided args)
unfolding evaluated
times-each os n p f l g = untrue (g.kinded _ (there here)).typed

-- ---- a recording of which only each group's first channel is looked at: the walk met another
abbrev first_only : List ℕ → List ℕ
first_only [] = []
first_only (c ∷ cs) = c ∷ []

abbrev curtailed : List plan_columns.SrcGroup → List plan_columns.SrcGroup
curtailed [] = []
curtailed (g ∷ gs) =
    record { data_group = g.data_group; number = g.number; at = g.at; channels = first_only g.channels; records = g.records } ∷ curtailed gs

abbrev pub LosesChannels : base_checked.Checked result_result.Decided → Type 0
LosesChannels (base_checked.ok d) =
    (q : plan_columns.Plan) (p : plan_layout.Layout) (f l : List ℕ)
    → Guaranteed args (record { groups = curtailed d.groups; stands = d.stands; planned = q; laid_out = p }) f l → ⊥
LosesChannels (base_checked.refused number place) = ⊥

in_single : (b a : ℕ) → In a (b ∷ []) → a ≡ b
in_single b a (there x3) = elim x3 [ ]
in_single b a here = refl

not_first : (a : ℕ) (g : plan_columns.SrcGroup) (b : ℕ) → g.channels ≡ b ∷ [] → (a ≡ b → ⊥) → (h : plan_columns.SrcGroup) → In h (g ∷ [])
    → In a h.channels → ⊥
not_first a g b e n h (there x4) i = elim x4 [ ]
not_first a g b e n h here i = n (in_single b a (subst (In a) e i))

pub loses_channels : LosesChannels (result_result.decided args)
unfolding evaluated
loses_channels q p f l g =
    let r = (g.met _ refl).channels 336 (there (there (there here))) in
    not_first 336 _ 496 refl (λ e. omega (arith, e)) r.0 r.1 r.2

-- ---- a recording whose last group is not looked at: the walk met its CG
abbrev all_but_last : List plan_columns.SrcGroup → List plan_columns.SrcGroup
all_but_last [] = []
all_but_last (g ∷ []) = []
all_but_last (g ∷ h ∷ gs) = g ∷ all_but_last (h ∷ gs)

abbrev pub LosesGroups : base_checked.Checked result_result.Decided → Type 0
LosesGroups (base_checked.ok d) =
    (q : plan_columns.Plan) (p : plan_layout.Layout) (f l : List ℕ)
    → Guaranteed args (record { groups = all_but_last d.groups; stands = d.stands; planned = q; laid_out = p }) f l → ⊥
LosesGroups (base_checked.refused number place) = ⊥

pub in_none : {A : Type 0} (a : A) → In a [] → ⊥
in_none a = elim [ ]

pub loses_groups : LosesGroups (result_result.decided args)
unfolding evaluated
loses_groups q p f l g = let r = (g.met _ refl).groups 656 (there here) in in_none r.0 r.1

-- ---- "one that omits each channel": the signal has no reason to be omitted, whatever is listed, placed and written

-- an omission about c
record About (c : ℕ) (os : List plan_columns.Omission) : Type 0 where
  omission : plan_columns.Omission
  is_in : In omission os
  is_at_lem : omission.at ≡ c

about : (c : ℕ) (os : List plan_columns.Omission) → omissions_of c os ≡ 1 → About c os
unfolding omissions_of
about c [] e = absurd (omega arith)
about c (o ∷ os) e = go (about c os) (eqb o.at c) refl
  where
    go : (omissions_of c os ≡ 1 → About c os) → (t : Bool) → eqb o.at c ≡ t → About c (o ∷ os)
    go later true q = record { omission = o; is_in = here; is_at_lem = eqb-true o.at c q }
    go later false q =
        let z : ◌≡◌ {A = ℕ} 0 (base_choice.if_eq o.at c 1 0) = eq_no _ _ _ _ (eqb-false o.at c q) refl in
        let r = later (omega (arith, e, z)) in
        record { omission = r.omission; is_in = there r.is_in; is_at_lem = r.is_at_lem }

-- the signal, at 336 in the group at 656, is omitted for no reason
no_reason : (gs : List plan_columns.SrcGroup) (o : plan_columns.Omission) → ((h : plan_columns.SrcGroup) → In h gs → h.at ≡ 656) → o.at ≡ 336
    → reason_for [] image 656 336 ≡ 0 → OmissionDue [] image gs o → ⊥
no_reason gs o k a r (OmissionDue.of_channel h i s c e z) = z (e ∙ ap (λ (x : ℕ). reason_for [] image x o.at) (k h i) ∙ ap (reason_for [] image 656) a ∙ r)
no_reason gs o k a r (OmissionDue.of_group h i s q e d) = omega (arith, a, q, k h i)

-- the only member
pub one_at : (g h : plan_columns.SrcGroup) → In h (g ∷ []) → h.at ≡ g.at
one_at g h (there x3) = elim x3 [ ]
one_at g h here = refl

-- whatever omissions, places, bytes and list
abbrev pub OmitsEach : base_checked.Checked result_result.Decided → Type 0
OmitsEach (base_checked.ok d) =
    (os : List plan_columns.Omission) (n : ℕ) (p : plan_layout.Layout) (f l : List ℕ)
    → Guaranteed args (record { groups = d.groups; stands = d.stands; planned = record { columns = []; omissions = os; fragments = n }; laid_out = p }) f l → ⊥
OmitsEach (base_checked.refused number place) = ⊥

pub omits_each : OmitsEach (result_result.decided args)
unfolding evaluated columns_of leads_to has_signal reason_for
omits_each os n p f l g =
    let r = about 336 os (omega (arith, g.unshared refl _ here refl 336 (there here))) in
    no_reason _ r.omission (λ h i. one_at _ h i) r.is_at_lem refl (g.omitted r.omission r.is_in)

-- ---- the answer: "one that refuses every recording", "\"too small\" before anything was measured", "a report of invented blocks"
abbrev pub Answers : Type 0
Answers =
    ((number place : ℕ) → result_result.answer args 1288 1 ≡ base_checked.refused number place → ⊥)
    × ((place : ℕ) → result_result.answer args 0 0 ≡ base_checked.refused 20 place → place ≡ 1288)
    × ((r : result_result.Report) → (result_result.convert args (replicate 1288 0) (0 ∷ []) []).answered ≡ base_checked.ok r → r.data_blocks ≡ 4)

place_same : {n p q : ℕ} → ◌≡◌ {A = base_checked.Checked result_result.Decided} (base_checked.refused n p) (base_checked.refused n q) → p ≡ q
place_same e = cc

pub answers : Answers
unfolding evaluated
answers = (
  λ number place e. refused≢ok (sym e),
  λ place e. sym (place_same e),
  λ r e. sym (ap (λ (x : result_result.Report). x.data_blocks) (ok_same e)),
)
