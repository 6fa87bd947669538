-- Laws of planning groups, one for each way of the code.
use Prim.{tt}
use Rattle.std.specs.Prelude.{ℕ, ◌+◌, ◌*◌, ◌≤◌, ◌<◌, List, [], ◌∷◌, ◌++◌, Bool, false, ◌≡◌, length, get_or, Result, Ok, Err}
use Rattle.std.proofs.Common.{append_assoc, ◌∙◌, le_refl, length-append}
use Rattle.std.proofs.Math.Bool.{true}
use Rattle.std.proofs.Math.Option.{Option, none}
use Rattle.std.proofs.Math.Path.{refl, sym, ap}
use native.Mathlib.Omega.{arith}
use Rattle.base.specs.Choice.{if_eq}
use Rattle.base.specs.ChoiceLaws.{eq_no}
use Rattle.base.specs.Checked.{ok, refused, and_then, fine}
use Rattle.mdf.specs.Group.{is_storage}
use Rattle.plan.specs.Rules.{Rules}
use Rattle.plan.specs.Photos.{photos_of}
use Rattle.plan.specs.Columns.{SrcGroup, Plan, Decision, omitted, kept, TimeOf, time, untimed, differs, master_of, time_of, own_master, decide, with_decision, with_omission, with_time, new_time_in, plan_channels, plan_timed, plan_group, plan_groups}
use Rattle.result.specs.Guarantee.{In, here}
use Rattle.plan_laws.specs.Answers.{with_ok, eq_cases, pick_cases, ok_same}
use Rattle.plan_laws.specs.Lists.{in_right}
use Rattle.planning.specs.declared.column.Progress.{Progress}
use Rattle.fields.specs.declared.refusal.Refusal.{Refusal}
use Rattle.fields.specs.Answer.{number_of, place_of, refused_by}
use Rattle.planning.specs.declared.timing.Settled.{Settled}
use Rattle.planning.specs.Items.{group_of, groups_in, groups_from, channels_in}
use Rattle.planning.specs.ItemLaws.{groups_all, groups_none, groups_cn, groups_cg, groups_dg}
use Rattle.planning.specs.Times.{master_in}
use Rattle.planning.specs.TimeLaws.{master_group, time_known}
use Rattle.planning.specs.Planning.{Base, Held, gives, Gives, within, others, ChannelsPlan}
use Rattle.planning.specs.ChannelLaws.{gives_refused, gives_done}
use Rattle.planning.specs.Timing.{waiting, time_tested, SettlePlan}
use Rattle.planning.specs.BudgetLaws.{waiting-plain}
use Rattle.planning.specs.SettleLaws.{time_budget}
use Rattle.planning.specs.Planned.{others_of, others_in, reserved, GroupPlan, GroupsPlan}

-- ---- a group
timed-group : (rs : Rules) (s : List ℕ) (all : List SrcGroup) (bys : List ℕ) (g : SrcGroup) (p : Plan) → is_storage s g.at ≡ false
    → plan_group rs s all bys g p ≡ plan_timed rs s g (time_of s all bys g) p
unfolding plan_group
timed-group rs s all bys g p e = rw e

within_more : (r : Result Progress Refusal) {a b a' b' : ℕ} → within r a b → a ≤ a' → b ≤ b' → within r a' b'
within_more (Err x) h i j = tt
within_more (Ok p) h i j = (omega arith, omega arith, h.2)

module _ (rs : Rules) (s src bys : List ℕ) (n i g d records nc no nf : ℕ) (w f : List ℕ) {t : Bool} (e : t ≡ is_storage s g) where
  pub group_storage : t ≡ true → nf ≤ 1024 → GroupPlan rs s src bys n i g d records nc no nf w f (Ok (record { columns = nc; omissions = no; fragments = nf })) w f
  unfolding gives plan_group
  group_storage h l =
      let o : is_storage s g ≡ true = sym e ∙ h in
      record {
        bound = (omega arith, omega arith, l);
        is = λ b p k i y. record { by = rw o (record { progress = record { columns = nc; omissions = no; fragments = nf }; is = refl; held = k }) };
      }

  module _ (h : t ≡ false) {own : ℕ} (q : own ≡ own_master (master_in s src n i g)) {r : Settled} {w1 : List ℕ}
      (k : SettlePlan s src bys n i g d records nc no w r w1) where
    is_timed : (p : Plan) → plan_group rs s (groups_in src n) bys (group_of d g (channels_in src n i) records) p
        ≡ plan_timed rs s (group_of d g (channels_in src n i) records) (time_of s (groups_in src n) bys (group_of d g (channels_in src n i) records)) p
    is_timed p = timed-group rs s (groups_in src n) bys (group_of d g (channels_in src n i) records) p (sym e ∙ h)

    -- the new time column is refused
    pub group_untold : {x : Refusal} {w' f' : List ℕ} → time_tested rs.photos s w1 nc r.columns ≡ refused_by x
        → GroupPlan rs s src bys n i g d records nc no nf w f (Err x) w' f'
    unfolding gives
    group_untold v =
        record {
          bound = tt;
          is = λ b p j i' y.
              let c = j.columns in
              let z = k.is rs.photos b p nf f j i' (omega arith) in
              record { by = rw (is_timed p ∙ z.rest rs refl, v) refl };
        }

    module _ (tested : time_tested rs.photos s w1 nc r.columns ≡ fine) {x : Result Progress Refusal} {w' f' : List ℕ}
        (l : ChannelsPlan rs s src n i g d records own r.master r.columns r.omissions nf w1 f x w' f') where
      own_is : own ≡ own_master (master_of s (group_of d g (channels_in src n i) records))
      own_is = q ∙ ap own_master (sym (master_group s src n i g d records))

      pub group-planned : GroupPlan rs s src bys n i g d records nc no nf w f x w' f'
      group-planned =
          let a = k.few in
          let b = k.few_omitted in
          record {
            bound = within_more x l.bound (omega arith) (omega arith);
            is = λ b p j i' y.
                let c = j.columns in
                let z = k.is rs.photos b p nf f j i' (omega arith) in
                let v = z.budget in
                let u = rw own_is at (l.is b z.plan z.column (channels_in src n i) z.held z.master (rw own_is (omega arith))) in
                rw (is_timed p ∙ z.rest rs refl, tested) u;
          }

-- ---- columns reserved: the channels of a group take no more than their number
pub record Took (s : List ℕ) (all : List SrcGroup) (k : ℕ) (p q : Plan) : Type 0 where
  pub waits : waiting s q.columns all ≡ waiting s p.columns all
  pub few : length q.columns ≤ length p.columns + k

decided_took : (s : List ℕ) (all : List SrcGroup) (g : SrcGroup) (m : Option ℕ) (c : ℕ) (refs : List ℕ) (p : Plan) (d : Decision)
    → Took s all 1 p (with_decision g m c refs p d)
decided_took s all g m c refs p (omitted r) = record { waits = refl; few = omega arith }
decided_took s all g m c refs p (kept d) =
    record {
      waits = waiting-plain s p.columns (record { group = g; channel = c; is_time_lem = false; master = m; signal_of = d; photos = refs }) all refl;
      few = rw length-append (le_refl _);
    }

channels_took : (rs : Rules) (s : List ℕ) (all : List SrcGroup) (g : SrcGroup) (own : ℕ) (m : Option ℕ) (cs : List ℕ) (p q : Plan)
    → plan_channels rs s g own m cs p ≡ ok q → Took s all (others own cs) p q
unfolding plan_channels others
channels_took rs s all g own m [] p q e = rw (ok_same e) (record { waits = refl; few = omega arith })
channels_took rs s all g own m (c ∷ cs) p q e =
    eq_cases c own _ _ e
    (λ h i.
    let t = channels_took rs s all g own m cs p q i in
    let l = t.few in
    record { waits = t.waits; few = omega arith })
    (λ h i. with_ok (decide rs.photos rs.table s p.fragments g.at c) _ i (λ d j k.
    let a = decided_took s all g m c (photos_of rs.photos s c) p d in
    let t = channels_took rs s all g own m cs (with_decision g m c (photos_of rs.photos s c) p d) q k in
    let l = t.few in
    let l' = a.few in
    let o : ◌≡◌ {A = ℕ} 1 (if_eq c own 0 1) = eq_no _ _ _ _ h refl in
    record { waits = t.waits ∙ a.waits; few = omega arith }))

pub group_budget : (rs : Rules) (s : List ℕ) (all : List SrcGroup) (bys : List ℕ) (g : SrcGroup) (p q : Plan) → In g all → plan_group rs s all bys g p ≡ ok q
    → reserved s all q ≤ reserved s all p + others_of s g
unfolding plan_group
group_budget rs s all bys g p q i e =
    pick_cases (is_storage s g.at) _ _ e
    (λ _ j. rw (ok_same j) (omega arith))
    (λ _ j. go (time_of s all bys g) refl j)
  where
    go : (o : TimeOf) → time_of s all bys g ≡ o → plan_timed rs s g o p ≡ ok q → reserved s all q ≤ reserved s all p + others_of s g
    go untimed h j =
        let t = channels_took rs s all g (own_master (master_of s g)) none g.channels p q j in
        let l = t.few in
        let v = t.waits in
        omega arith
    go differs h j =
        let t = channels_took rs s all g (own_master (master_of s g)) none g.channels (with_omission g.at 1 p) q j in
        let l = t.few in
        let v = t.waits in
        omega arith
    go (time t m) h j =
        with_ok (new_time_in rs.photos s t m p) _ j (λ _ _ j.
        let z = time_known s all bys t m g i h in
        let b = time_budget rs.photos s all t m p z.is_in z.master in
        let y = channels_took rs s all g (own_master (master_of s g)) _ g.channels (with_time rs.photos s t m p) q j in
        let l = y.few in
        let v = y.waits in
        omega arith)

-- ---- all groups: what is left of them gives what all of them give
module _ (rs : Rules) (s : List ℕ) (all : List SrcGroup) (bys : List ℕ) where
  groups_over : (p : Plan) → plan_groups rs s all bys [] p ≡ ok p
  unfolding plan_groups
  groups_over p = refl

  groups_more : (g : SrcGroup) (gs : List SrcGroup) (p : Plan) → plan_groups rs s all bys (g ∷ gs) p ≡ and_then (plan_group rs s all bys g p) (plan_groups rs s all bys gs)
  unfolding plan_groups
  groups_more g gs p = refl

  others_in-more : (g : SrcGroup) (gs : List SrcGroup) → others_in s (g ∷ gs) ≡ others_of s g + others_in s gs
  unfolding others_in
  others_in-more g gs = refl

-- where the loop stands for one plan; gs are the groups left
pub record Stood (rs : Rules) (s src bys : List ℕ) (n : ℕ) (gs : List SrcGroup) (nc no nf : ℕ) (b : Base) (p : Plan) (w f : List ℕ) : Type 0 where
  pub plan : Plan
  pub held : Held b plan nc no nf w f
  pub before : List SrcGroup
  pub split : groups_in src n ≡ before ++ gs
  pub budget : reserved s (groups_in src n) plan + others_in s gs ≤ 512
  pub rest : plan_groups rs s (groups_in src n) bys gs plan ≡ plan_groups rs s (groups_in src n) bys (groups_in src n) p

pub record Groups (rs : Rules) (s src bys : List ℕ) (n nf₀ : ℕ) (w₀ f₀ : List ℕ) (i g d nc no nf : ℕ) (w f : List ℕ) : Type 0 where
  pub up_to : i ≤ n
  pub few : g ≤ i
  pub few_columns : nc ≤ 1537 * i
  pub few_omitted : no ≤ 1537 * i
  pub few_fragments : nf ≤ 1024
  pub now : (b : Base) (p : Plan) → Held b p 0 0 nf₀ w₀ f₀ → reserved s (groups_in src n) p + others_in s (groups_in src n) ≤ 512
      → Stood rs s src bys n (groups_from src n d g i) nc no nf b p w f

pub groups_begin : {rs : Rules} {s src bys : List ℕ} {n nf : ℕ} {w f : List ℕ} → nf ≤ 1024 → Groups rs s src bys n nf w f 0 0 0 0 0 nf w f
groups_begin {src = src} {n = n} l =
    record {
      up_to = omega arith;
      few = omega arith;
      few_columns = omega arith;
      few_omitted = omega arith;
      few_fragments = l;
      now = λ b p h y. rw (groups_all src n) (record { plan = p; held = h; before = []; split = refl; budget = y; rest = refl });
    }

module _ {rs : Rules} {s src bys : List ℕ} {n nf₀ : ℕ} {w₀ f₀ : List ℕ} {i g d nc no nf : ℕ} {w f : List ℕ} (t : Groups rs s src bys n nf₀ w₀ f₀ i g d nc no nf w f) where
  pub groups_end : n ≤ i → GroupsPlan rs s src bys n nf₀ w₀ f₀ (Ok (record { columns = nc; omissions = no; fragments = nf })) w f
  unfolding gives
  groups_end h =
      let u = t.up_to in
      let v = t.few_columns in
      let x = t.few_omitted in
      record {
        bound = (omega arith, omega arith, t.few_fragments);
        is = λ b p j y.
            let r = t.now b p j y in
            let q : plan_groups rs s (groups_in src n) bys (groups_in src n) p ≡ ok r.plan =
            sym r.rest ∙ rw (groups_none src n d g i h, groups_over rs s (groups_in src n) bys r.plan) in
            record { by = rw q (record { progress = record { columns = nc; omissions = no; fragments = nf }; is = refl; held = r.held }) };
      }

  module _ (h : i < n) {m a : ℕ} (e : m ≡ get_or src (1536 + i) 0) (q : a ≡ get_or src i 0) where
    pub groups_channel : m ≡ 0 → Groups rs s src bys n nf₀ w₀ f₀ (i + 1) g d nc no nf w f
    groups_channel z =
        let u = t.few in
        let v = t.few_columns in
        let x = t.few_omitted in
        record {
          up_to = omega arith;
          few = omega arith;
          few_columns = omega arith;
          few_omitted = omega arith;
          few_fragments = t.few_fragments;
          now = λ b p j y. rw (groups_cn src n d g i h e q z) at (t.now b p j y);
        }

    pub groups_data : (m ≡ 0 → ⊥) → (m ≡ 1 → ⊥) → Groups rs s src bys n nf₀ w₀ f₀ (i + 1) g a nc no nf w f
    groups_data z z' =
        let u = t.few in
        let v = t.few_columns in
        let x = t.few_omitted in
        record {
          up_to = omega arith;
          few = omega arith;
          few_columns = omega arith;
          few_omitted = omega arith;
          few_fragments = t.few_fragments;
          now = λ b p j y. rw (groups_dg src n d g i h e q z z') at (t.now b p j y);
        }

    module _ (z : m ≡ 1) {records : ℕ} (k : records ≡ get_or src (3584 + g) 0) {r : Result Progress Refusal} {w' f' : List ℕ}
        (l : GroupPlan rs s src bys n (i + 1) a d records nc no nf w f r w' f') where
      -- the group and those after it
      abbrev this : SrcGroup
      this = group_of d a (channels_in src n (i + 1)) records

      abbrev later : List SrcGroup
      later = groups_from src n d (g + 1) (i + 1)

      module _ (b : Base) (p : Plan) (j : Held b p 0 0 nf₀ w₀ f₀) (y : reserved s (groups_in src n) p + others_in s (groups_in src n) ≤ 512) where
        stood : Stood rs s src bys n (this ∷ later) nc no nf b p w f
        stood = rw (groups_cg src n d g i h e q z k) at (t.now b p j y)

        is_in : In this (groups_in src n)
        is_in = rw stood.split (in_right stood.before here)

        budgeted : reserved s (groups_in src n) stood.plan + (others_of s this + others_in s later) ≤ 512
        budgeted = rw (others_in-more rs s (groups_in src n) bys this later) at stood.budget

        step_gives : Gives b (plan_group rs s (groups_in src n) bys this stood.plan) r w' f'
        step_gives = l.is b stood.plan stood.held is_in (let o = budgeted in omega arith)

        step-rest : and_then (plan_group rs s (groups_in src n) bys this stood.plan) (plan_groups rs s (groups_in src n) bys later)
            ≡ plan_groups rs s (groups_in src n) bys (groups_in src n) p
        step-rest = sym (groups_more rs s (groups_in src n) bys this later stood.plan) ∙ stood.rest

      pub groups_refused : {x : Refusal} → r ≡ Err x → GroupsPlan rs s src bys n nf₀ w₀ f₀ (Err x) w' f'
      unfolding gives
      groups_refused {x} v =
          record {
            bound = tt;
            is = λ b p j y.
                let o : plan_groups rs s (groups_in src n) bys (groups_in src n) p ≡ refused (number_of x) (place_of x) =
                sym (step-rest b p j y) ∙ ap (λ u. and_then u (plan_groups rs s (groups_in src n) bys later)) (gives_refused (step_gives b p j y) v) in
                record { by = rw o };
          }

      pub groups_on : {x : Progress} → r ≡ Ok x → Groups rs s src bys n nf₀ w₀ f₀ (i + 1) (g + 1) d x.columns x.omissions x.fragments w' f'
      groups_on {x} v =
          let bs : within (Ok x) (nc + 1537) (no + 1537) = rw v at l.bound in
          let u = t.few in
          let c = t.few_columns in
          let o = t.few_omitted in
          record {
            up_to = omega arith;
            few = omega arith;
            few_columns = omega arith;
            few_omitted = omega arith;
            few_fragments = bs.2;
            now = λ b p j y.
                let on = gives_done (step_gives b p j y) v in
                let more = budgeted b p j y in
                let took = group_budget rs s (groups_in src n) bys this (stood b p j y).plan on.plan (is_in b p j y) on.is in
                record {
                  plan = on.plan;
                  held = on.held;
                  before = (stood b p j y).before ++ (this ∷ []);
                  split = (stood b p j y).split ∙ rw append_assoc;
                  budget = omega arith;
                  rest = ap (λ u'. and_then u' (plan_groups rs s (groups_in src n) bys later)) (sym on.is) ∙ step-rest b p j y;
                };
          }
