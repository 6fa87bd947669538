-- The words of those that stand for others: zeros past the groups change neither a plan nor their number.
use Rattle.std.specs.Prelude.{ℕ, zero, suc, ◌+◌, ◌-◌, ◌≤◌, ◌<◌, Bool, true, false, ◌≡◌, length, get_or, drop, replicate, Result}
use mathlib.Core.List.{List, [], ◌∷◌, ◌++◌}
use Rattle.std.proofs.Math.Option.{Option, none, some}
use Rattle.std.proofs.Math.Path.{refl}
use Rattle.std.proofs.Common.{sym, ap, ◌∙◌, subst, add-zero, zero-add, arith, drop_of_length-le, drop-cons}
use Rattle.std.proofs.lemmas.List.{length-replicate, replicate-append-replicate}
use Rattle.base.specs.Choice.{if_eq}
use Rattle.base.specs.Blit.{blit}
use Rattle.base.specs.BlitLaws.{blit_is}
use Rattle.base.specs.ChoiceLaws.{eq_yes, eq_no}
use Rattle.base.specs.Checked.{Checked, ok, refused, and_then}
use Rattle.mdf.specs.Group.{DataGroup}
use Rattle.plan.specs.Rules.{Rules}
use Rattle.plan.specs.Columns.{SrcGroup, Plan, untimed, differs, master_of, group_at, remote_link, on_group, on_master, stand_in, standing, remote_time, time_of, plan_group, plan_groups, plan}
use Rattle.result.specs.Sharing.{units_in, compared_in, sharing}
use Rattle.result.specs.SharingLaws.{shared-length}
use Rattle.result.specs.Result.{shared_groups}
use Rattle.plan_laws.specs.Answers.{ok_same, with_ok, or_not}
use Rattle.plan_laws.specs.StandLaws.{stand-more}
use Rattle.planning.specs.declared.column.Progress.{Progress}
use Rattle.fields.specs.declared.refusal.Refusal.{Refusal}
use Rattle.planning.specs.Items.{groups_in}
use Rattle.planning.specs.Planned.{GroupsPlan}
use Rattle.planning.specs.Planning.{Gives}
use Rattle.planning.specs.Answer.{stand_words, StandAlike}

-- ---- a plan depends only on what stands beside each group
module _ (s : List ℕ) (all : List SrcGroup) (bs cs : List ℕ) (h : (a : ℕ) → stand_in a all bs ≡ stand_in a all cs) where
  standing-same : (t : SrcGroup) (m : ℕ) → standing s all bs t m ≡ standing s all cs t m
  unfolding standing
  standing-same t m = rw (h t.at)

  remote-same : (g : SrcGroup) → remote_time s all bs g ≡ remote_time s all cs g
  unfolding remote_time
  remote-same g = go (group_at (remote_link s g.at) all)
    where
      by : (t : SrcGroup) (o : Option ℕ) → on_master o untimed (λ m. if_eq t.records g.records (standing s all bs t m) differs)
          ≡ on_master o untimed (λ m. if_eq t.records g.records (standing s all cs t m) differs)
      by t none = refl
      by t (some m) = rw (standing-same t m)

      go : (o : Option SrcGroup)
          → on_group o untimed (λ t. on_master (master_of s t) untimed (λ m. if_eq t.records g.records (standing s all bs t m) differs))
          ≡ on_group o untimed (λ t. on_master (master_of s t) untimed (λ m. if_eq t.records g.records (standing s all cs t m) differs))
      go none = refl
      go (some t) = by t (master_of s t)

  time_same : (g : SrcGroup) → time_of s all bs g ≡ time_of s all cs g
  unfolding time_of
  time_same g = rw (remote-same g) (go (master_of s g))
    where
      go : (o : Option ℕ) → on_master o (remote_time s all cs g) (λ m. standing s all bs g m) ≡ on_master o (remote_time s all cs g) (λ m. standing s all cs g m)
      go none = refl
      go (some m) = standing-same g m

  group-same : (rs : Rules) (g : SrcGroup) (p : Plan) → plan_group rs s all bs g p ≡ plan_group rs s all cs g p
  unfolding plan_group
  group-same rs g p = rw (time_same g)

  groups_same : (rs : Rules) (gs : List SrcGroup) (p : Plan) → plan_groups rs s all bs gs p ≡ plan_groups rs s all cs gs p
  unfolding plan_groups
  groups_same rs [] p = refl
  groups_same rs (g ∷ gs) p = rw (group-same rs g p) (go (λ q. groups_same rs gs q) (plan_group rs s all cs g p))
    where
      go : ((q : Plan) → plan_groups rs s all bs gs q ≡ plan_groups rs s all cs gs q) → (o : Checked Plan)
          → and_then o (λ q. plan_groups rs s all bs gs q) ≡ and_then o (λ q. plan_groups rs s all cs gs q)
      go f (ok q) = f q
      go f (refused x y) = refl

pub plan-words : (rs : Rules) (s : List ℕ) (n : ℕ) (all : List SrcGroup) (bys : List ℕ) → length bys ≡ length all
    → plan rs s n all (stand_words bys) ≡ plan rs s n all bys
unfolding plan
plan-words rs s n all bys l = groups_same s all (stand_words bys) bys (λ a. stand-more a all bys (replicate (512 - length bys) 0) l) rs all _

-- the same of the groups that the words hold
pub groups_alike : {rs : Rules} {s src v w : List ℕ} {n nf : ℕ} {c f : List ℕ} {r : Result Progress Refusal} {c' f' : List ℕ} → StandAlike w v → GroupsPlan rs s src v n nf c f r c' f'
    → GroupsPlan rs s src w n nf c f r c' f'
groups_alike {rs} {s} {src} {v} {w} {n} {r = r} {c'} {f'} h g =
    record {
      bound = g.bound;
      is = λ b p k l. subst (λ (o : Checked Plan). Gives b o r c' f') (groups_same s (groups_in src n) v w (λ a. h.is a (groups_in src n)) rs (groups_in src n) p) (g.is b p k l);
    }

-- no words
pub stand-nothing : (a : ℕ) (gs : List SrcGroup) (w : List ℕ) → length w ≤ 0 → 0 ≡ stand_in a gs w
unfolding stand_in
stand-nothing a [] w h = refl
stand-nothing a (g ∷ gs) [] h = refl
stand-nothing a (g ∷ gs) (b ∷ w) h = absurd (omega (arith, h))

-- words of zeros
stand-none : (a : ℕ) (gs : List SrcGroup) (w : List ℕ) → shared_groups w ≡ 0 → stand_in a gs w ≡ 0
unfolding stand_in shared_groups
stand-none a [] w h = refl
stand-none a (g ∷ gs) [] h = refl
stand-none a (g ∷ gs) (b ∷ w) h =
    or_not b 0
    (λ z. let more = stand-none a gs w (omega (arith, eq_yes {A = ℕ} b 0 0 1 z refl, h)) in
    or_not g.at a (λ e. sym (eq_yes _ _ _ _ e (sym z))) (λ e. sym (eq_no _ _ _ _ e (sym more))))
    (λ z. absurd (omega (arith, eq_no {A = ℕ} b 0 0 1 z refl, h)))

pub alike_none : (w v : List ℕ) {n : ℕ} → n ≡ shared_groups w → n ≡ 0 → length v ≤ 0 → StandAlike w v
alike_none w v e z l = record { is = λ a gs. sym (stand-nothing a gs v l) ∙ sym (stand-none a gs w (sym e ∙ z)) }

pub alike_all : (w v : List ℕ) → v ≡ w → StandAlike w v
alike_all w v e = record { is = λ a gs. ap (stand_in a gs) e }

-- ---- as many as groups
pub sharing-length : (on : Bool) (s : List ℕ) (ds : List DataGroup) (gs : List SrcGroup) (bys : List ℕ) → sharing on s ds gs ≡ ok bys → length bys ≡ length gs
unfolding sharing
sharing-length true s ds gs bys e =
    with_ok (units_in s gs) _ e (λ _ _ e. with_ok (compared_in s gs ds) _ e (λ _ _ e. ap length (sym (ok_same e)) ∙ shared-length s gs))
sharing-length false s ds gs bys e = ap length (sym (ok_same e)) ∙ length-replicate (length gs) 0

-- ---- without sharing all words are zero
pub no_stands : (n : ℕ) → n ≤ 512 → replicate 512 0 ≡ stand_words (replicate n 0)
no_stands n h =
    let e : n + (512 - n) ≡ 512 = omega arith in
    sym (ap (λ k. replicate n 0 ++ replicate (512 - k) 0) (length-replicate n 0) ∙ replicate-append-replicate n (512 - n) 0 ∙ ap (λ k. replicate k 0) e)

-- ---- words laid over zeros
drop-zeros : (k n : ℕ) → drop {A = ℕ} k (replicate n 0) ≡ replicate (n - k) 0
drop-zeros zero n = let e : n ≡ n - 0 = omega arith in ap (λ j. replicate j 0) e
drop-zeros (suc k) zero = let e : ◌≡◌ {A = ℕ} 0 (0 - suc k) = omega arith in ap (λ j. replicate j 0) e
drop-zeros (suc k) (suc n) = let e : suc n - suc k ≡ n - k = omega arith in drop-zeros k n ∙ ap (λ j. replicate j 0) (sym e)

pub stands_laid : (bys : List ℕ) → length bys ≤ 512 → blit 0 bys (replicate 512 0) ≡ stand_words bys
stands_laid bys h =
    let z : 0 + length bys ≡ length bys = omega arith in
    blit_is 0 bys (replicate 512 0) (rw (length-replicate {A = ℕ} 512 0, z) h) ∙ ap (λ k. bys ++ drop k (replicate 512 0)) z
    ∙ ap (λ l. bys ++ l) (drop-zeros (length bys) 512)

-- ---- how many groups another stands for
shared_zeros : (n : ℕ) → shared_groups (replicate n 0) ≡ 0
unfolding shared_groups
shared_zeros zero = refl
shared_zeros (suc n) = let z : ◌≡◌ {A = ℕ} 0 (if_eq 0 0 0 1) = eq_yes 0 0 0 1 refl refl in let m = shared_zeros n in omega arith

shared-append : (bs cs : List ℕ) → shared_groups (bs ++ cs) ≡ shared_groups bs + shared_groups cs
unfolding shared_groups
shared-append [] cs = sym (zero-add (shared_groups cs))
shared-append (b ∷ bs) cs = rw (shared-append bs cs) (omega arith)

pub shared-words : (bys : List ℕ) → shared_groups (stand_words bys) ≡ shared_groups bys
shared-words bys = shared-append bys (replicate (512 - length bys) 0) ∙ rw (shared_zeros (512 - length bys), add-zero)

-- what is left to count gives the whole
pub record Counting (w : List ℕ) (i n : ℕ) : Type 0 where
  pub few : n ≤ i
  pub up_to : i ≤ length w
  pub rest : n + shared_groups (drop i w) ≡ shared_groups w

pub count_begin : {w : List ℕ} → Counting w 0 0
count_begin {w} = record { few = omega arith; up_to = omega arith; rest = zero-add (shared_groups w) }

shared-more : (b : ℕ) (bs : List ℕ) → shared_groups (b ∷ bs) ≡ if_eq b 0 0 1 + shared_groups bs
unfolding shared_groups
shared-more b bs = refl

shared-none : shared_groups [] ≡ 0
unfolding shared_groups
shared-none = refl

module _ {w : List ℕ} {i n : ℕ} (t : Counting w i n) where
  pub count_end : length w ≤ i → n ≡ shared_groups w
  count_end h =
      let r = t.rest in
      let e : shared_groups (drop i w) ≡ 0 = ap shared_groups (drop_of_length-le w h) ∙ shared-none in
      omega arith

  module _ (h : i < length w) {b : ℕ} (q : b ≡ get_or w i 0) where
    opened : shared_groups (drop i w) ≡ if_eq b 0 0 1 + shared_groups (drop (i + 1) w)
    opened = let k : suc i ≡ i + 1 = omega arith in ap shared_groups (drop-cons w i 0 h) ∙ rw (← q, k) (shared-more b (drop (i + 1) w))

    pub count_none : b ≡ 0 → Counting w (i + 1) n
    count_none z =
        let f = t.few in
        let r = t.rest in
        let o = opened in
        let e : ◌≡◌ {A = ℕ} 0 (if_eq b 0 0 1) = eq_yes _ _ _ _ z refl in
        record { few = omega arith; up_to = omega arith; rest = omega arith }

    pub count_one_lem : (b ≡ 0 → ⊥) → Counting w (i + 1) (n + 1)
    count_one_lem z =
        let f = t.few in
        let r = t.rest in
        let o = opened in
        let e : ◌≡◌ {A = ℕ} 1 (if_eq b 0 0 1) = eq_no _ _ _ _ z refl in
        record { few = omega arith; up_to = omega arith; rest = omega arith }
