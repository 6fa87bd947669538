-- Laws of a group's time, one for each way of the code.
use Rattle.std.specs.Prelude.{ℕ, ◌+◌, ◌*◌, ◌≤◌, ◌<◌, List, [], ◌∷◌, Bool, false, ◌≡◌, get_or}
use Rattle.std.proofs.Math.Option.{Option, none, some}
use Rattle.std.proofs.Math.Path.{refl, sym}
use Rattle.std.proofs.Common.{ap, ◌∙◌, add-zero, zero-add, le_refl, length-append}
use native.Mathlib.Omega.{arith}
use Rattle.std.proofs.Math.ListN.{length}
use Rattle.base.specs.ChoiceLaws.{eq_yes, eq_no}
use Rattle.base.specs.Checked.{Verdict, fine}
use Rattle.base.specs.Blit.{blit}
use Rattle.chains.specs.KeptLaws.{kept-none}
use Rattle.records.specs.SeveralLaws.{get_d_blit}
use Rattle.plan.specs.Photos.{photos_in}
use Rattle.plan.specs.Columns.{SrcGroup, Plan, TimeOf, time, untimed, differs, master_of, time_of, time_column, with_column, with_omission, time_on, with_time, new_time_in}
use Rattle.work_words.specs.PlanWords.{master_word, column_words}
use Rattle.result.specs.Guarantee.{In}
use Rattle.planning.specs.declared.masters.Time.{Time}
use Rattle.planning.specs.declared.masters.Time.TheVariants.{Untimed, Differs, At}
use Rattle.planning.specs.declared.timing.Settled.{Settled}
use Rattle.planning.specs.Items.{group_of, groups_in, channels_in}
use Rattle.planning.specs.Times.{time_words}
use Rattle.planning.specs.TimeLaws.{time_known}
use Rattle.planning.specs.TimeIn.{time_in}
use Rattle.planning.specs.Planning.{Base, Held}
use Rattle.planning.specs.HeldLaws.{held-column, held_omission}
use Rattle.planning.specs.Timing.{waiting, time_tested, TimeHeld, TimePlan, Settling, SettlePlan}
use Rattle.planning.specs.BudgetLaws.{time_added, waiting_fewer}
use Rattle.planning.specs.TimeWordLaws.{held_time}

-- ---- the plan with a time column
module _ (photos : Bool) (s : List ℕ) (t : SrcGroup) (m : ℕ) (p : Plan) where
  old_time : {k : ℕ} → time_column t.at 0 p.columns ≡ some k → with_time photos s t m p ≡ p
  unfolding with_time
  old_time e = rw e

  new_time : time_column t.at 0 p.columns ≡ none → with_time photos s t m p ≡ with_column (time_on photos s t m) 0 p
  unfolding with_time
  new_time e = rw e

  -- 28 of it, where nc columns become n
  old_tested : (w : List ℕ) (nc : ℕ) {k : ℕ} → time_column t.at 0 p.columns ≡ some k → new_time_in photos s t m p ≡ time_tested photos s w nc nc
  unfolding new_time_in time_tested
  old_tested w nc e = rw e (eq_yes nc nc _ _ refl refl)

  new_tested : (w : List ℕ) (nc n : ℕ) → time_column t.at 0 p.columns ≡ none → (n ≡ nc → ⊥) → get_or w (8 * nc) 0 ≡ m
      → new_time_in photos s t m p ≡ time_tested photos s w nc n
  unfolding new_time_in time_tested
  new_tested w nc n e d q = rw e (eq_no n nc _ _ d (rw q))

-- ---- 28 as the code tests it
pub tested_none : (photos : Bool) (s w : List ℕ) (nc n : ℕ) → n ≡ nc → fine ≡ time_tested photos s w nc n
unfolding time_tested
tested_none photos s w nc n e = eq_yes n nc _ _ e refl

pub tested_new : (photos : Bool) (s w : List ℕ) (nc n : ℕ) → (n ≡ nc → ⊥) → {c : ℕ} → c ≡ get_or w (8 * nc) 0 → {v : Verdict} → v ≡ photos_in photos s c
    → v ≡ time_tested photos s w nc n
unfolding time_tested
tested_new photos s w nc n d e q = eq_no n nc _ _ d (q ∙ rw e)

-- a group that waits for its time column gets it: no more columns are left to come
pub time_budget : (photos : Bool) (s : List ℕ) (all : List SrcGroup) (t : SrcGroup) (m : ℕ) (p : Plan) → In t all → master_of s t ≡ some m
    → length (with_time photos s t m p).columns + waiting s (with_time photos s t m p).columns all ≤ length p.columns + waiting s p.columns all
time_budget photos s all t m p i e = go (time_column t.at 0 p.columns) refl
  where
    go : (o : Option ℕ) → time_column t.at 0 p.columns ≡ o
        → length (with_time photos s t m p).columns + waiting s (with_time photos s t m p).columns all ≤ length p.columns + waiting s p.columns all
    go (some k) q = rw (old_time photos s t m p q) (le_refl _)
    go none q =
        let f = waiting_fewer s p.columns (time_on photos s t m) all i e q refl refl in
        rw (new_time photos s t m p q, length-append) (omega arith)

module _ (c g d records nc no : ℕ) (w : List ℕ) (long : 4096 ≤ length w) {k : ℕ} (e : k ≡ time_in w g 0 nc) where
  old_held : (photos : Bool) (s : List ℕ) (b : Base) (p : Plan) (nf : ℕ) (f : List ℕ) (t : SrcGroup) → Held b p nc no nf w f → t.at ≡ g → (k ≡ 0 → ⊥)
      → (o : Option ℕ) → time_column t.at 0 p.columns ≡ o → master_word o ≡ k
      → TimeHeld photos s b p t c nc nf f (record { master = k; columns = nc; omissions = no }) w
  old_held photos s b p nf f t h a z none q r = absurd (z (sym r))
  old_held photos s b p nf f t h a z (some j) q r =
      let y = old_time photos s t c p q in
      record { held = rw y h; master = rw (y, q) r; tested = old_tested photos s t c p w nc q }

  named : (b : Base) (p : Plan) (nf : ℕ) (f : List ℕ) (t : SrcGroup) → Held b p nc no nf w f → t.at ≡ g → master_word (time_column t.at 0 p.columns) ≡ k
  named b p nf f t h a = rw a (sym (e ∙ held_time h long g))

  pub time_stands : (k ≡ 0 → ⊥) → TimePlan c g d records nc no w (record { master = k; columns = nc; omissions = no }) w
  time_stands z =
      record {
        few = omega arith;
        few_omitted = omega arith;
        is = λ photos s b p nf f t h a x y r.
            old_held photos s b p nf f t h a z (time_column t.at 0 p.columns) refl (named b p nf f t h a);
      }

  module _ {w' : List ℕ} (u : w' ≡ blit (8 * nc) (c ∷ g ∷ d ∷ records ∷ 1 ∷ 0 ∷ 0 ∷ 0 ∷ []) w) where
    -- the new column's first word is its channel
    first_word : nc < 512 → get_or w' (8 * nc) 0 ≡ c
    first_word h = rw u (ap (λ (k : ℕ). get_or (blit (8 * nc) (c ∷ g ∷ d ∷ records ∷ 1 ∷ 0 ∷ 0 ∷ 0 ∷ []) w) k 0) (sym (add-zero (8 * nc))) ∙ get_d_blit (c ∷ g ∷ d ∷ records ∷ 1 ∷ 0 ∷ 0 ∷ 0 ∷ []) (8 * nc) 0 w (omega arith) (omega arith))

    new_held : (photos : Bool) (s : List ℕ) (b : Base) (p : Plan) (nf : ℕ) (f : List ℕ) (t : SrcGroup) → Held b p nc no nf w f → t.at ≡ g → t.data_group.at ≡ d
        → t.records ≡ records → nc < 512 → time_column t.at 0 p.columns ≡ none
        → TimeHeld photos s b p t c nc nf f (record { master = nc + 1; columns = nc + 1; omissions = no }) w'
    unfolding column_words
    new_held photos s b p nf f t h a x y r q =
        let z = new_time photos s t c p q in
        let l = h.columns in
        let m : length p.columns + 1 ≡ nc + 1 = omega arith in
        record {
          held = rw z (rw (add-zero nf) at (held-column h (time_on photos s t c) r (u ∙ rw (a, x, y)) (sym (kept-none nf f))));
          master = rw (z, time_added t.at 0 p.columns (time_on photos s t c) q refl refl, zero-add) m;
          tested = new_tested photos s t c p w' nc (nc + 1) q (λ v. omega (arith, v)) (first_word r);
        }

    pub time_new : k ≡ 0 → TimePlan c g d records nc no w (record { master = nc + 1; columns = nc + 1; omissions = no }) w'
    time_new z =
        record {
          few = omega arith;
          few_omitted = omega arith;
          is = λ photos s b p nf f t h a x y r.
              let q = lacking (time_column t.at 0 p.columns) (named b p nf f t h a ∙ z) in
              new_held photos s b p nf f t h a x y (r (rw a at q)) q;
        }
      where
        lacking : (o : Option ℕ) → master_word o ≡ 0 → o ≡ none
        lacking none i = refl
        lacking (some j) i = absurd (omega arith)

-- ---- a time back from the code's answer
pub record TimeBack (o : TimeOf) (c g d records : ℕ) : Type 0 where
  pub group : SrcGroup
  pub is : o ≡ time group c
  pub at : group.at ≡ g
  pub of_dg : group.data_group.at ≡ d
  pub counted : group.records ≡ records

untimed_back : (o : TimeOf) → Untimed ≡ time_words o → o ≡ untimed
untimed_back untimed e = refl
untimed_back differs e = absurd (let z : ◌≡◌ {A = ℕ} 0 1 = cc in omega arith)
untimed_back (time t m) e = absurd (let z : ◌≡◌ {A = ℕ} 0 1 = cc in omega arith)

differs_back : (o : TimeOf) → Differs ≡ time_words o → o ≡ differs
differs_back untimed e = absurd (let z : ◌≡◌ {A = ℕ} 0 1 = cc in omega arith)
differs_back differs e = refl
differs_back (time t m) e = absurd (let z : ◌≡◌ {A = ℕ} 0 1 = cc in omega arith)

time_back : (o : TimeOf) {c g d r : ℕ} → At c g d r ≡ time_words o → TimeBack o c g d r
time_back untimed e = absurd (let z : ◌≡◌ {A = ℕ} 0 1 = cc in omega arith)
time_back differs e = absurd (let z : ◌≡◌ {A = ℕ} 0 1 = cc in omega arith)
time_back (time t m) {c} e = let q : m ≡ c = cc in record { group = t; is = ap (time t) q; at = cc; of_dg = cc; counted = cc }

-- ---- the time of a group
module _ (s src bys : List ℕ) (n i g d records nc no : ℕ) (w : List ℕ) {x : Time}
    (e : x ≡ time_words (time_of s (groups_in src n) bys (group_of d g (channels_in src n i) records))) where
  -- no time column was added
  untested : (photos : Bool) (v : List ℕ) → time_tested photos s v nc nc ≡ fine
  unfolding time_tested
  untested photos v = sym (eq_yes nc nc _ _ refl refl)

  pub settle_untimed : x ≡ Untimed → SettlePlan s src bys n i g d records nc no w (record { master = 0; columns = nc; omissions = no }) w
  settle_untimed h =
      let o = untimed_back (time_of s (groups_in src n) bys (group_of d g (channels_in src n i) records)) (sym h ∙ e) in
      record {
        few = omega arith;
        few_omitted = omega arith;
        is = λ photos b p nf f k l y.
            let c = k.columns in
            record { plan = p; column = none; held = k; master = refl; budget = omega arith; rest = λ rs _. rw (o, untested photos w) };
      }

  pub settle_differs : {w' : List ℕ} → x ≡ Differs → w' ≡ blit (4096 + 2 * no) (g ∷ 1 ∷ []) w
      → SettlePlan s src bys n i g d records nc no w (record { master = 0; columns = nc; omissions = no + 1 }) w'
  settle_differs h u =
      let o = differs_back (time_of s (groups_in src n) bys (group_of d g (channels_in src n i) records)) (sym h ∙ e) in
      record {
        few = omega arith;
        few_omitted = omega arith;
        is = λ photos b p nf f k l y.
            let c = k.columns in
            record { plan = with_omission g 1 p; column = none; held = held_omission k g 1 u; master = refl; budget = omega arith; rest = λ rs _. rw (o, untested photos _) };
      }

  pub settle_at : {c' g' d' r' : ℕ} {r : Settled} {w' : List ℕ} → x ≡ At c' g' d' r' → TimePlan c' g' d' r' nc no w r w'
      → SettlePlan s src bys n i g d records nc no w r w'
  settle_at {c'} {g'} h t =
      let o = time_back (time_of s (groups_in src n) bys (group_of d g (channels_in src n i) records)) (sym h ∙ e) in
      let few = t.few in
      let few' = t.few_omitted in
      record {
        few = few;
        few_omitted = omega arith;
        is = λ photos b p nf f k l y.
            settled photos o.group c' o.is p k l y
            (t.is photos s b p nf f o.group k o.at o.of_dg o.counted
            (λ q. waits o.group c' o.is p k l y (rw o.at q)));
      }
    where
      waits : (t : SrcGroup) (m : ℕ) → time_of s (groups_in src n) bys (group_of d g (channels_in src n i) records) ≡ time t m
          → {b : Base} {nf : ℕ} {f : List ℕ} (p : Plan) → Held b p nc no nf w f
          → In (group_of d g (channels_in src n i) records) (groups_in src n) → nc + waiting s p.columns (groups_in src n) ≤ 512
          → time_column t.at 0 p.columns ≡ none → nc < 512
      waits t m o p k l y q =
          let z = time_known s (groups_in src n) bys t m (group_of d g (channels_in src n i) records) l o in
          let f' = waiting_fewer s p.columns (time_on false s t m) (groups_in src n) z.is_in z.master q refl refl in
          omega arith

      settled : (photos : Bool) (t : SrcGroup) (m : ℕ) → time_of s (groups_in src n) bys (group_of d g (channels_in src n i) records) ≡ time t m
          → {b : Base} {nf : ℕ} {f : List ℕ} {r : Settled} {w' : List ℕ} (p : Plan) → Held b p nc no nf w f
          → In (group_of d g (channels_in src n i) records) (groups_in src n) → nc + waiting s p.columns (groups_in src n) ≤ 512
          → TimeHeld photos s b p t m nc nf f r w'
          → Settling photos s (groups_in src n) bys (group_of d g (channels_in src n i) records) b p nc nf f r w'
      settled photos t m o p k l y h =
          let z = time_known s (groups_in src n) bys t m (group_of d g (channels_in src n i) records) l o in
          let v = time_budget photos s (groups_in src n) t m p z.is_in z.master in
          let c = h.held.columns in
          record {
            plan = with_time photos s t m p;
            column = time_column t.at 0 (with_time photos s t m p).columns;
            held = h.held;
            master = h.master;
            budget = omega arith;
            rest = λ rs q. rw (o, q, h.tested);
          }
