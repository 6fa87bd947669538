-- What a converter may lose: at a recording with signal data, a name, a history block and an attachment, and at one with an omission, results that
-- lack one of these do not have the guarantee.
use Rattle.std.specs.Prelude.{ℕ, ◌+◌, ◌*◌, List, [], ◌∷◌, ◌++◌, Bool, true, false, ◌⊎◌, ◌≡◌, refl, ltb, replicate, get_or, set}
use Rattle.std.proofs.lemmas.Bool.{false≢true}
use Rattle.std.proofs.Common.{inl, inr, sym, ap, subst, ◌∙◌, arith}
use Rattle.base.specs.Checked as base_checked
use Rattle.base.specs.Choice as base_choice
use Rattle.mdf.specs.Block as mdf_block
use Rattle.mdf.specs.Chain as mdf_chain
use Rattle.plan.specs.Columns as plan_columns
use Rattle.plan.specs.Copies as plan_copies
use Rattle.plan.specs.Layout as plan_layout
use Rattle.result.specs.Result as result_result
use Rattle.result.specs.Links as result_links
use Rattle.result.specs.Names.{is_tx, LinkDue, HistoryDue, AttachmentsDue}
use Rattle.result.specs.Recording.{has_signal, Leads, Followed, is_at, attached_from}
use Rattle.result.specs.Guarantee.{In, here, there, omission_at, Guaranteed}
use Rattle.cases.specs.Evaluated.{evaluated}
use Rattle.cases.specs.Starred.{image, args}
use Rattle.cases.specs.Excluded.{file_in}
use Rattle.refuted_cases.specs.Refuted.{Refuted, in_none}

abbrev with_image : List ℕ → result_result.Args
with_image s = record { image = s; block_size = args.block_size; ident = args.ident; text = args.text; time = args.time; unit = args.unit; table = args.table; share = args.share; photos = args.photos }

-- a block of that kind, with so many links, all 0
abbrev block_with : ℕ → ℕ → ℕ → ℕ → List ℕ → List ℕ
block_with k l size links bytes = 35 ∷ 35 ∷ k ∷ l ∷ (replicate 4 0 ++ (size ∷ (replicate 7 0 ++ (links ∷ (replicate (7 + 8 * links) 0 ++ bytes)))))

-- the worked example's signal as type 1, with an SD at 824 and its name at 856, a TX; an AT at 888; an FH at 952, of another time than the new one's
abbrev pub rich : result_result.Args
rich =
    with_image (
    set (set (set (set (set (set (set (set (set image 424 1) 400 56) 401 3) 376 88) 377 3) 112 120) 113 3) 96 184) 97 3
    ++ (block_with 83 68 32 0 (4 ∷ 0 ∷ 0 ∷ 0 ∷ 97 ∷ 98 ∷ 99 ∷ 100 ∷ [])
    ++ (block_with 84 88 32 0 (115 ∷ 112 ∷ 101 ∷ 101 ∷ 100 ∷ 0 ∷ 0 ∷ 0 ∷ [])
    ++ (block_with 65 84 64 4 (replicate 8 0) ++ block_with 70 72 56 2 (7 ∷ replicate 15 0)))))

-- its file: the SD stands at 1376, the signal's CN at 912
abbrev rich_file : List ℕ
rich_file = file_in rich (result_result.decided rich)

-- ---- in the file: the SD written as DT; the signal's name dropped; the history dropped, so that HD leads to the new FH; the attachment dropped

-- whether the signal data of the second column is read
abbrev read_in : base_checked.Checked (List ℕ) → ℕ
read_in (base_checked.refused number place) = 0
read_in (base_checked.ok bs) = 1

abbrev signal_in : List result_links.Shown → ℕ
signal_in [] = 0
signal_in (c ∷ []) = 0
signal_in (c ∷ d ∷ cs) = read_in d.signal_data

abbrev pub Loses : Type 0
Loses =
    Refuted rich (result_result.decided rich) (set (set rich_file 1378 68) 1379 84)
    × Refuted rich (result_result.decided rich) (set (set rich_file 952 0) 953 0)
    × Refuted rich (result_result.decided rich) (set (set rich_file 96 0) 97 1)
    × Refuted rich (result_result.decided rich) (set (set rich_file 112 0) 113 0)

pub loses : Loses
unfolding evaluated LinkDue HistoryDue AttachmentsDue attached_from
loses = (
  λ l g. let z : ◌≡◌ {A = ℕ} 0 1 = ap signal_in (g.shows 2 (omega arith)) in omega (arith, z),
  λ l g. ((g.names _ (there here) 1).name.1 (record { nonzero = λ e. let z : ◌≡◌ {A = ℕ} 856 0 = e in omega (arith, z); kind = is_tx refl })).nonzero refl,
  λ l g. let z : ◌≡◌ {A = ℕ} 0 7 = ap (λ (bs : List ℕ). get_or bs 0 0) g.history_kept.0.rest in omega (arith, z),
  λ l g. g.attachments.0.nonzero refl,
)

-- ---- in the plan, whatever is omitted, placed, written and listed: no signal data, or none of its fragments

abbrev signalled : plan_columns.Signal → plan_columns.Column → plan_columns.Column
signalled g c = record { group = c.group; channel = c.channel; is_time_lem = c.is_time_lem; master = c.master; signal_of = g; photos = c.photos }

abbrev pub all_signalled : plan_columns.Signal → List plan_columns.Column → List plan_columns.Column
all_signalled g [] = []
all_signalled g (c ∷ cs) = signalled g c ∷ all_signalled g cs

abbrev pub Silent : plan_columns.Signal → base_checked.Checked result_result.Decided → Type 0
Silent s (base_checked.ok d) =
    (os : List plan_columns.Omission) (n : ℕ) (p : plan_layout.Layout) (f l : List ℕ)
    → Guaranteed rich (record { groups = d.groups; stands = d.stands; planned = record { columns = all_signalled s d.planned.columns; omissions = os; fragments = n }; laid_out = p }) f l
    → ⊥
Silent s (base_checked.refused number place) = ⊥

-- a chain that begins with a fragment, whatever its limit, is none without
no_fragments : (b : Bool) (x : mdf_chain.Fragment) (fs gs : List mdf_chain.Fragment) (number place : ℕ)
    → base_choice.pick b (mdf_chain.found (x ∷ fs)) (mdf_chain.stopped number place gs) ≡ mdf_chain.found [] → ⊥
no_fragments true x fs gs number place e = let z : ◌≡◌ {A = ℕ} 0 1 = cc in omega (arith, z)
no_fragments false x fs gs number place e = let z : ◌≡◌ {A = ℕ} 0 1 = cc in omega (arith, z)

pub silent : Silent plan_columns.no_signal (result_result.decided rich) × Silent (plan_columns.signal_data []) (result_result.decided rich)
unfolding evaluated has_signal
silent = (
  λ os n p f l g. let z : ◌≡◌ {A = ℕ} 824 0 = (g.signals _ (there here)).0 refl in omega (arith, z),
  λ os n p f l g. let r = (g.signals _ (there here)).0 in no_fragments (ltb (r.1 + 0) 1024) _ _ _ _ _ r.2,
)

-- ---- in what was read: the fragments of another DG, or none

abbrev emptied : List plan_columns.SrcGroup → List plan_columns.SrcGroup
emptied [] = []
emptied (g ∷ gs) =
    record {
      data_group = record { at = g.data_group.at; groups = g.data_group.groups; fragments = [] };
      number = g.number;
      at = g.at;
      channels = g.channels;
      records = g.records;
    } ∷ emptied gs

abbrev pub Emptied : base_checked.Checked result_result.Decided → Type 0
Emptied (base_checked.ok d) =
    (q : plan_columns.Plan) (p : plan_layout.Layout) (f l : List ℕ)
    → Guaranteed rich (record { groups = emptied d.groups; stands = d.stands; planned = q; laid_out = p }) f l → ⊥
Emptied (base_checked.refused number place) = ⊥

pub loses_fragments : Emptied (result_result.decided rich)
unfolding evaluated
loses_fragments q p f l g =
    let r = g.recording.1 in
    let c = (r.linked _ (r.each _ here).0).fragments in
    no_fragments (ltb (c.0 + 0) 1024) _ _ _ _ _ c.1

-- ---- in the chains of history and attachments: cut off before their first block, whatever is planned, placed, written and listed

cut_off : (s : List ℕ) (goes_on : ℕ → Bool) (a : ℕ) → Followed s goes_on a [] → (a ≡ 0 → ⊥) → goes_on (mdf_block.kind_at s a) ≡ true → ⊥
unfolding Leads
cut_off s goes_on a r z k = go r.ends
  where
    go : (r.end ≡ 0) ⊎ (In r.end [] ⊎ (goes_on (mdf_block.kind_at s r.end) ≡ false)) → ⊥
    go (inl e) = z (r.leads ∙ e)
    go (inr (inl i)) = in_none r.end i
    go (inr (inr e)) = false≢true (sym e ∙ ap (λ (x : ℕ). goes_on (mdf_block.kind_at s x)) (sym r.leads) ∙ k)

abbrev pub Cut : (plan_layout.Layout → List ℕ) → base_checked.Checked result_result.Decided → Type 0
Cut chain (base_checked.ok d) =
    (q : plan_columns.Plan) (p : plan_layout.Layout) (f l : List ℕ) → chain p ≡ []
    → Guaranteed rich (record { groups = d.groups; stands = d.stands; planned = q; laid_out = p }) f l → ⊥
Cut chain (base_checked.refused number place) = ⊥

pub cut : Cut (λ p. p.past.chain) (result_result.decided rich) × Cut (λ p. attached_from p.attached.attachments) (result_result.decided rich)
unfolding evaluated
cut = (
  λ q p f l e g. cut_off rich.image plan_copies.is_copied 952 (subst (Followed rich.image plan_copies.is_copied 952) e g.history_ends)
      (λ z. omega (arith, z)) refl,
  λ q p f l e g. cut_off rich.image is_at 888 (subst (Followed rich.image is_at 888) e g.attachments_end) (λ z. omega (arith, z)) refl,
)

-- ---- in the list: the reason before the address, of the signal as type 4
abbrev pub synced : result_result.Args
synced = with_image (set image 424 4)

abbrev pub Swapped : base_checked.Checked result_result.Decided → Type 0
Swapped (base_checked.ok d) = (f : List ℕ) → Guaranteed synced d f (1 ∷ 4 ∷ 336 ∷ []) → ⊥
Swapped (base_checked.refused number place) = ⊥

pub reasons_first : Swapped (result_result.decided synced)
unfolding evaluated omission_at
reasons_first f g = let z : ◌≡◌ {A = ℕ} 4 336 = (g.listed.each 0 _ refl).0 in omega (arith, z)
