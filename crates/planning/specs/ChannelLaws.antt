-- Laws of planning the channels of a group, one for each way of the code.
use Prim.{tt}
use Rattle.std.specs.Prelude.{ℕ, ◌+◌, ◌*◌, ◌-◌, ◌≤◌, ◌<◌, List, [], ◌∷◌, Bool, true, false, get_or, Result, Ok, Err}
use Rattle.std.proofs.Math.Option.{Option}
use Rattle.std.proofs.Math.Path.{◌≡◌, refl, sym, ap}
use Rattle.std.proofs.Common.{◌∙◌, zero-add}
use native.Mathlib.Omega.{arith}
use Rattle.base.specs.Choice.{if_eq}
use Rattle.base.specs.ChoiceLaws.{eq_yes, eq_no}
use Rattle.base.specs.Blit.{blit}
use Rattle.base.specs.Checked.{Checked, ok, refused, and_then}
use Rattle.reading.specs.CheckedLaws.{ok≢refused}
use Rattle.chains.specs.Kept.{kept}
use Rattle.plan.specs.Rules.{Rules}
use Rattle.plan.specs.Photos.{photos_of}
use Rattle.plan.specs.Columns.{SrcGroup, Plan, Signal, no_signal, signal_data, size_of_signal, omitted, decide, with_decision, plan_channels}
use Rattle.plan.specs.Columns as columns
use Rattle.work_words.specs.PlanWords.{master_word, signal_word, column_words, fragments_in}
use Rattle.plan_laws.specs.DecideLaws.{decide-kept, signal_few}
use Rattle.deciding.specs.declared.Decision.{Decision}
use Rattle.deciding.specs.declared.Decision.TheVariants.{Omitted, Kept}
use Rattle.deciding.specs.declared.reason.Reason.{Reason}
use Rattle.deciding.specs.Decided.{stops, omits, keeps, left, is_signed, laid_decision}
use Rattle.deciding.specs.Reasons.{reason_number}
use Rattle.planning.specs.declared.column.Progress.{Progress}
use Rattle.fields.specs.declared.refusal.Refusal.{Refusal}
use Rattle.fields.specs.Answer.{number_of, place_of}
use Rattle.planning.specs.Items.{group_of, channels_in}
use Rattle.planning.specs.ItemLaws.{channels_end, channels_next, channels_over}
use Rattle.planning.specs.Planning.{signal_if, checked_of, Base, Held, gives, Gives, within, others, ChannelPlan, ChannelsPlan}
use Rattle.planning.specs.HeldLaws.{held-column, held_omission}

-- ---- a decision back from what the code left
pub record KeptBack (o : Checked columns.Decision) (signed : Bool) (count n : ℕ) (w w' : List ℕ) : Type 0 where
  pub signal : Signal
  pub is : o ≡ ok (columns.kept signal)
  pub sign : signed ≡ is_signed signal
  pub counted : count ≡ n + size_of_signal signal
  pub words : w' ≡ kept n (fragments_in signal) w

module _ (o : Checked columns.Decision) (n : ℕ) (w : List ℕ) where
  pub back_refused : {x p : ℕ} → stops x p ≡ laid_decision o n w → o ≡ refused x p
  unfolding laid_decision
  back_refused {x} {p} e = go o e
    where
      go : (o : Checked columns.Decision) → stops x p ≡ laid_decision o n w → o ≡ refused x p
      go (refused y q) z = cc
      go (ok (omitted k)) z = absurd (let l : ◌≡◌ {A = ℕ} 0 1 = cc in omega arith)
      go (ok (columns.kept d)) z = absurd (let l : ◌≡◌ {A = ℕ} 0 1 = cc in omega arith)

  pub back_omitted : {k : ℕ} {w' : List ℕ} → omits k w' ≡ laid_decision o n w → (o ≡ ok (omitted k)) × (w' ≡ w)
  unfolding laid_decision
  back_omitted {k} {w'} e = go o e
    where
      go : (o : Checked columns.Decision) → omits k w' ≡ laid_decision o n w → (o ≡ ok (omitted k)) × (w' ≡ w)
      go (refused y q) z = absurd (let l : ◌≡◌ {A = ℕ} 0 1 = cc in omega arith)
      go (ok (omitted j)) z = (cc, cc)
      go (ok (columns.kept d)) z = absurd (let l : ◌≡◌ {A = ℕ} 0 1 = cc in omega arith)

  pub back_kept : {b : Bool} {m : ℕ} {w' : List ℕ} → keeps b m w' ≡ laid_decision o n w → KeptBack o b m n w w'
  unfolding laid_decision
  back_kept {b} {m} {w'} e = go o e
    where
      go : (o : Checked columns.Decision) → keeps b m w' ≡ laid_decision o n w → KeptBack o b m n w w'
      go (refused y q) z = absurd (let l : ◌≡◌ {A = ℕ} 0 1 = cc in omega arith)
      go (ok (omitted j)) z = absurd (let l : ◌≡◌ {A = ℕ} 0 1 = cc in omega arith)
      go (ok (columns.kept d)) z = record { signal = d; is = refl; sign = cc; counted = cc; words = cc }

pub signal_set : (b : Bool) (n : ℕ) → b ≡ true → n + 1 ≡ signal_if b n
signal_set b n e = rw e

pub signal_clear : (b : Bool) (n : ℕ) → b ≡ false → 0 ≡ signal_if b n
signal_clear b n e = rw e

signal_word_lem : (d : Signal) (n : ℕ) → signal_if (is_signed d) n ≡ signal_word n d
signal_word_lem no_signal n = refl
signal_word_lem (signal_data fs) n = refl

kept-plan : (rs : Rules) (s : List ℕ) (g d records master c nc no nf : ℕ) (w f : List ℕ) {b : Bool} {m x : ℕ} {w' f' : List ℕ} (e : Signal)
    → decide rs.photos rs.table s nf g c ≡ ok (columns.kept e) → b ≡ is_signed e → m ≡ nf + size_of_signal e → f' ≡ kept nf (fragments_in e) f → m ≤ 1024
    → x ≡ signal_if b nf → w' ≡ blit (8 * nc) (c ∷ g ∷ d ∷ records ∷ 0 ∷ master ∷ x ∷ (m - nf) ∷ []) w
    → ChannelPlan rs s g d records master c nc no nf w f (Ok (record { columns = nc + 1; omissions = no; fragments = m })) w' f'
unfolding gives column_words
kept-plan rs s g d records master c nc om nf w f {m = m} e o i j k t y u =
    let v : m - nf ≡ size_of_signal e = omega arith in
    record {
      bound = (omega arith, omega arith, t);
      is = λ b p q cs h l r. record {
        by = rw o (record {
          progress = record { columns = nc + 1; omissions = om; fragments = nf + size_of_signal e };
          is = rw j;
          held = held-column h (record { group = group_of d g cs records; channel = c; is_time_lem = false; master = q; signal_of = e; photos = photos_of rs.photos s c }) r
              (u ∙ rw (y, i, signal_word_lem e nf, v, l))
              k;
        });
      };
    }

-- ---- one channel: r is the decision of the code
pub channel_bounds : (photos : Bool) (table s : List ℕ) (g c nf : ℕ) (f : List ℕ) (r : Result Decision Refusal) (f' : List ℕ) → left r f' ≡ laid_decision (decide photos table s nf g c) nf f
    → {b : Bool} {m : ℕ} → r ≡ Ok (Kept b m) → nf ≤ 1024 → (nf ≤ m) × (m ≤ 1024)
channel_bounds photos table s g c nf f r f' e q t =
    let k = back_kept (decide photos table s nf g c) nf f (rw q at e) in
    let few = signal_few table s nf c k.signal t (decide-kept photos table s nf g c k.signal k.is).signal in
    (omega arith, omega arith)

module _ (rs : Rules) (s : List ℕ) (g d records master c nc no nf : ℕ) (w f : List ℕ) (r : Result Decision Refusal) (f' : List ℕ)
    (e : left r f' ≡ laid_decision (decide rs.photos rs.table s nf g c) nf f) where
  pub channel_refused : {x : Refusal} {w' : List ℕ} → r ≡ Err x → ChannelPlan rs s g d records master c nc no nf w f (Err x) w' f'
  unfolding gives
  channel_refused q =
      let o = back_refused (decide rs.photos rs.table s nf g c) nf f (rw q at e) in
      record { bound = tt; is = λ b p m cs h k l. record { by = rw o } }

  pub channel-omitted : {y : Reason} {k : ℕ} {w' : List ℕ} → r ≡ Ok (Omitted y) → k ≡ reason_number y → nf ≤ 1024 → w' ≡ blit (4096 + 2 * no) (c ∷ k ∷ []) w
      → ChannelPlan rs s g d records master c nc no nf w f (Ok (record { columns = nc; omissions = no + 1; fragments = nf })) w' f'
  unfolding gives
  channel-omitted {y} {k} q v t u =
      let o = back_omitted (decide rs.photos rs.table s nf g c) nf f (rw q at e) in
      record {
        bound = (omega arith, omega arith, t);
        is = λ b p m cs h i l. record {
          by = rw o.0 (record { progress = record { columns = nc; omissions = no + 1; fragments = nf }; is = refl; held = rw o.1 (held_omission h c (reason_number y) (rw v at u)) });
        };
      }

  pub channel-kept : {b : Bool} {m x : ℕ} {w' : List ℕ} → r ≡ Ok (Kept b m) → nf ≤ 1024 → x ≡ signal_if b nf
      → w' ≡ blit (8 * nc) (c ∷ g ∷ d ∷ records ∷ 0 ∷ master ∷ x ∷ (m - nf) ∷ []) w
      → ChannelPlan rs s g d records master c nc no nf w f (Ok (record { columns = nc + 1; omissions = no; fragments = m })) w' f'
  channel-kept q t y u =
      let k = back_kept (decide rs.photos rs.table s nf g c) nf f (rw q at e) in
      kept-plan rs s g d records master c nc no nf w f k.signal k.is k.sign k.counted k.words (channel_bounds rs.photos rs.table s g c nf f r f' e q t).1 y u

-- ---- the channels: what is left of them gives what all of them give
pub others-own : (own : ℕ) (cs : List ℕ) → others own (own ∷ cs) ≡ others own cs
unfolding others
others-own own cs = let e : ◌≡◌ {A = ℕ} 0 (if_eq own own 0 1) = eq_yes _ _ _ _ refl refl in rw (← e) (zero-add _)

pub others-more : (own c : ℕ) (cs : List ℕ) → (c ≡ own → ⊥) → others own (c ∷ cs) ≡ 1 + others own cs
unfolding others
others-more own c cs h = let e : ◌≡◌ {A = ℕ} 1 (if_eq c own 0 1) = eq_no _ _ _ _ h refl in rw (← e)

module _ (rs : Rules) (s : List ℕ) (g : SrcGroup) (own : ℕ) (m : Option ℕ) where
  plan-none : (p : Plan) → plan_channels rs s g own m [] p ≡ ok p
  unfolding plan_channels
  plan-none p = refl

  plan-own : (c : ℕ) (cs : List ℕ) (p : Plan) → c ≡ own → plan_channels rs s g own m (c ∷ cs) p ≡ plan_channels rs s g own m cs p
  unfolding plan_channels
  plan-own c cs p h = sym (eq_yes _ _ _ _ h refl)

  plan-more : (c : ℕ) (cs : List ℕ) (p : Plan) → (c ≡ own → ⊥)
      → plan_channels rs s g own m (c ∷ cs) p ≡ and_then (and_then (decide rs.photos rs.table s p.fragments g.at c) (λ d. ok (with_decision g m c (photos_of rs.photos s c) p d))) (plan_channels rs s g own m cs)
  unfolding plan_channels
  plan-more c cs p h = sym (eq_no _ _ _ _ h (go (decide rs.photos rs.table s p.fragments g.at c)))
    where
      go : (o : Checked columns.Decision) → and_then (and_then o (λ d. ok (with_decision g m c (photos_of rs.photos s c) p d))) (plan_channels rs s g own m cs)
          ≡ and_then o (λ d. plan_channels rs s g own m cs (with_decision g m c (photos_of rs.photos s c) p d))
      go (ok d) = refl
      go (refused x y) = refl

  plan-step : (c : ℕ) (cs : List ℕ) (p : Plan) (nf : ℕ) → p.fragments ≡ nf → (c ≡ own → ⊥)
      → and_then (and_then (decide rs.photos rs.table s nf g.at c) (λ d. ok (with_decision g m c (photos_of rs.photos s c) p d))) (plan_channels rs s g own m cs) ≡ plan_channels rs s g own m (c ∷ cs) p
  plan-step c cs p nf e h = rw (← e) (sym (plan-more c cs p h))

-- ---- the code's answer back to the plan
pub gives_refused : {b : Base} {o : Checked Plan} {r : Result Progress Refusal} {w f : List ℕ} {x : Refusal} → Gives b o r w f → r ≡ Err x → o ≡ refused (number_of x) (place_of x)
unfolding gives
gives_refused {b} {o} {r} {w} {f} {x} g e = go o g.by
  where
    go : (o : Checked Plan) → gives b o r w f → o ≡ refused (number_of x) (place_of x)
    go (refused x' y') h =
        let k : ◌≡◌ {A = Checked Progress} (refused (number_of x) (place_of x)) (refused x' y') = ap checked_of (sym e) ∙ h in
        let i : number_of x ≡ x' = cc in
        let j : place_of x ≡ y' = cc in
        rw (i, j)
    go (ok q) h = absurd (let k = h.is in let z : ◌≡◌ {A = ℕ} 0 1 = cc in omega arith)

pub record Onward (b : Base) (o : Checked Plan) (x y z : ℕ) (w f : List ℕ) : Type 0 where
  pub plan : Plan
  pub is : o ≡ ok plan
  pub held : Held b plan x y z w f

pub gives_done : {b : Base} {o : Checked Plan} {r : Result Progress Refusal} {w f : List ℕ} {p : Progress} → Gives b o r w f → r ≡ Ok p → Onward b o p.columns p.omissions p.fragments w f
unfolding gives
gives_done {b} {o} {r} {w} {f} {p} g e = go o g.by
  where
    go : (o : Checked Plan) → gives b o r w f → Onward b o p.columns p.omissions p.fragments w f
    go (refused x y) h = absurd (ok≢refused (ap checked_of (sym e) ∙ h))
    go (ok q) h =
        let z = h.is in
        let i : h.progress ≡ p = cc in
        record { plan = q; is = refl; held = rw i at h.held }

-- where the loop stands for one plan
pub record Standing (rs : Rules) (s src : List ℕ) (n i k own nc no nf : ℕ) (g : SrcGroup) (b : Base) (p : Plan) (m : Option ℕ) (w f : List ℕ) : Type 0 where
  pub plan : Plan
  pub held : Held b plan nc no nf w f
  pub budget : nc + others own (channels_in src n k) ≤ 512
  pub rest : plan_channels rs s g own m (channels_in src n k) plan ≡ plan_channels rs s g own m (channels_in src n i) p

pub record Channels (rs : Rules) (s src : List ℕ) (n i g d records own master nc₀ no₀ nf₀ : ℕ) (w₀ f₀ : List ℕ) (k nc no nf : ℕ) (w f : List ℕ) : Type 0 where
  pub from : i ≤ k
  pub up_to : k ≤ n
  pub few : nc + i ≤ nc₀ + k
  pub few_omitted : no + i ≤ no₀ + k
  pub few_fragments : nf ≤ 1024
  pub now : (b : Base) (p : Plan) (m : Option ℕ) (cs : List ℕ) → Held b p nc₀ no₀ nf₀ w₀ f₀ → master_word m ≡ master
      → nc₀ + others own (channels_in src n i) ≤ 512 → Standing rs s src n i k own nc no nf (group_of d g cs records) b p m w f

pub channels_begin : {rs : Rules} {s src : List ℕ} {n i g d records own master nc no nf : ℕ} {w f : List ℕ} → i ≤ n → nf ≤ 1024
    → Channels rs s src n i g d records own master nc no nf w f i nc no nf w f
channels_begin h l =
    record {
      from = omega arith;
      up_to = h;
      few = omega arith;
      few_omitted = omega arith;
      few_fragments = l;
      now = λ b p m cs j e t. record { plan = p; held = j; budget = t; rest = refl };
    }

module _ {rs : Rules} {s src : List ℕ} {n i g d records own master nc₀ no₀ nf₀ : ℕ} {w₀ f₀ : List ℕ} {k nc no nf : ℕ} {w f : List ℕ}
    (t : Channels rs s src n i g d records own master nc₀ no₀ nf₀ w₀ f₀ k nc no nf w f) where
  -- no channel is left
  channels_none : n ≤ 1536 → channels_in src n k ≡ [] → ChannelsPlan rs s src n i g d records own master nc₀ no₀ nf₀ w₀ f₀ (Ok (record { columns = nc; omissions = no; fragments = nf })) w f
  unfolding gives
  channels_none z e =
      let a = t.from in
      let b = t.up_to in
      let l = t.few in
      let o = t.few_omitted in
      record {
        bound = (omega arith, omega arith, t.few_fragments);
        is = λ b p m cs h j y.
            let r = t.now b p m cs h j y in
            let q : plan_channels rs s (group_of d g cs records) own m (channels_in src n i) p ≡ ok r.plan =
            sym r.rest ∙ rw (e, plan-none rs s (group_of d g cs records) own m r.plan) in
            record { by = rw q (record { progress = record { columns = nc; omissions = no; fragments = nf }; is = refl; held = r.held }) };
      }

  pub channels_last : n ≤ 1536 → n ≤ k → ChannelsPlan rs s src n i g d records own master nc₀ no₀ nf₀ w₀ f₀ (Ok (record { columns = nc; omissions = no; fragments = nf })) w f
  channels_last z h = channels_none z (channels_end src n k h)

  module _ (h : k < n) {x : ℕ} (e : x ≡ get_or src (1536 + k) 0) where
    pub channels_stop : n ≤ 1536 → (x ≡ 0 → ⊥) → ChannelsPlan rs s src n i g d records own master nc₀ no₀ nf₀ w₀ f₀ (Ok (record { columns = nc; omissions = no; fragments = nf })) w f
    channels_stop z y = channels_none z (channels_over src n k h e y)

    module _ (z : x ≡ 0) {c : ℕ} (v : c ≡ get_or src k 0) where
      pub channels_pass : c ≡ own → Channels rs s src n i g d records own master nc₀ no₀ nf₀ w₀ f₀ (k + 1) nc no nf w f
      channels_pass q =
          let a = t.from in
          let l = t.few in
          let o = t.few_omitted in
          record {
            from = omega arith;
            up_to = omega arith;
            few = omega arith;
            few_omitted = omega arith;
            few_fragments = t.few_fragments;
            now = λ b p m cs j y u.
                let r = t.now b p m cs j y u in
                record {
                  plan = r.plan;
                  held = r.held;
                  budget = rw (channels_next src n k h e z v, q, others-own own (channels_in src n (k + 1))) at r.budget;
                  rest = rw (channels_next src n k h e z v, plan-own rs s (group_of d g cs records) own m c (channels_in src n (k + 1)) r.plan q) at r.rest;
                };
          }

      module _ (q : c ≡ own → ⊥) {r : Result Progress Refusal} {w' f' : List ℕ} (l : ChannelPlan rs s g d records master c nc no nf w f r w' f') where
        -- the channel, for one plan
        module _ (b : Base) (p : Plan) (m : Option ℕ) (cs : List ℕ) (j : Held b p nc₀ no₀ nf₀ w₀ f₀) (y : master_word m ≡ master)
            (u : nc₀ + others own (channels_in src n i) ≤ 512) where
          abbrev stood : Standing rs s src n i k own nc no nf (group_of d g cs records) b p m w f
          stood = t.now b p m cs j y u

          abbrev step : Checked Plan
          step = and_then (decide rs.photos rs.table s nf g c) (λ a. ok (with_decision (group_of d g cs records) m c (photos_of rs.photos s c) stood.plan a))

          next_budget : nc + (1 + others own (channels_in src n (k + 1))) ≤ 512
          next_budget = rw (channels_next src n k h e z v, others-more own c (channels_in src n (k + 1)) q) at stood.budget

          step_gives : Gives b step r w' f'
          step_gives = l.is b stood.plan m cs stood.held y (let z' = next_budget in omega arith)

          step-rest : and_then step (plan_channels rs s (group_of d g cs records) own m (channels_in src n (k + 1)))
              ≡ plan_channels rs s (group_of d g cs records) own m (channels_in src n i) p
          step-rest =
              plan-step rs s (group_of d g cs records) own m c (channels_in src n (k + 1)) stood.plan nf stood.held.fragments q
              ∙ (rw (channels_next src n k h e z v) at stood.rest)

        pub channels_refused : {x' : Refusal} → r ≡ Err x' → ChannelsPlan rs s src n i g d records own master nc₀ no₀ nf₀ w₀ f₀ (Err x') w' f'
        unfolding gives
        channels_refused {x'} a =
            record {
              bound = tt;
              is = λ b p m cs j o u.
                  let i' : plan_channels rs s (group_of d g cs records) own m (channels_in src n i) p ≡ refused (number_of x') (place_of x') =
                  sym (step-rest b p m cs j o u)
                  ∙ ap (λ v'. and_then v' (plan_channels rs s (group_of d g cs records) own m (channels_in src n (k + 1))))
                  (gives_refused (step_gives b p m cs j o u) a) in
                  record { by = rw i' };
            }

        pub channels_on : {x' : Progress} → r ≡ Ok x' → Channels rs s src n i g d records own master nc₀ no₀ nf₀ w₀ f₀ (k + 1) x'.columns x'.omissions x'.fragments w' f'
        channels_on {x'} a =
            let bs : within (Ok x') (nc + 1) (no + 1) = rw a at l.bound in
            let from = t.from in
            let few = t.few in
            let left = t.few_omitted in
            record {
              from = omega arith;
              up_to = omega arith;
              few = omega arith;
              few_omitted = omega arith;
              few_fragments = bs.2;
              now = λ b p m cs j o u.
                  let on = gives_done (step_gives b p m cs j o u) a in
                  let more = next_budget b p m cs j o u in
                  record {
                    plan = on.plan;
                    held = on.held;
                    budget = omega arith;
                    rest = ap (λ v'. and_then v' (plan_channels rs s (group_of d g cs records) own m (channels_in src n (k + 1)))) (sym on.is)
                        ∙ step-rest b p m cs j o u;
                  };
            }
