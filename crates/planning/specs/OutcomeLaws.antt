-- The code's answer for the groups in words is that of the recording's plan.
use Rattle.std.specs.Prelude.{ℕ, suc, ◌+◌, ◌≤◌, List, [], ◌∷◌, ◌≡◌, refl, Result, Ok, Err}
use Rattle.std.proofs.Common.{sym, ◌∙◌, add-zero}
use Rattle.std.proofs.Math.Path.{ap}
use native.Mathlib.Omega.{arith}
use Rattle.std.proofs.Math.ListN.{length}
use Rattle.base.specs.Blit.{blit}
use Rattle.base.specs.Checked.{Checked, ok, refused}
use Rattle.mdf.specs.Walk.{Source, walk, level_cg, tally}
use Rattle.mdf.specs.Group.{data_groups}
use Rattle.mdf.specs.Count.{counts}
use Rattle.work_words.specs.Words.{counts_at, laid_items}
use Rattle.chains.specs.Kept.{kept}
use Rattle.chains.specs.KeptLaws.{kept-none}
use Rattle.plan.specs.Rules.{Rules}
use Rattle.plan.specs.Columns.{SrcGroup, Column, Plan, src_groups, plan}
use Rattle.work_words.specs.PlanWords.{columns_words, omission_pairs, signal_fragments, laid_plan}
use Rattle.plan_laws.specs.WalkLaws.{walk-sound, walk_open}
use Rattle.plan_laws.specs.SourceLaws.{groups_known}
use Rattle.planning.specs.declared.column.Progress.{Progress}
use Rattle.fields.specs.declared.refusal.Refusal.{Refusal}
use Rattle.reading.specs.CheckedLaws.{ok≢refused}
use Rattle.fields.specs.Answer.{number_of, place_of}
use Rattle.planning.specs.Items.{items_from, groups_in}
use Rattle.planning.specs.Planning.{checked_of, Held, gives, Gives}
use Rattle.planning.specs.Planned.{GroupsPlan}
use Rattle.planning.specs.Bare.{bares, bare_columns, bare_plan, bare_checked}
use Rattle.planning.specs.BareLaws.{plan-bare, laid-bare, signals_bare}
use Rattle.planning.specs.FlatLaws.{groups_flat}
use Rattle.planning.specs.RoomLaws.{all_room, channels_bare}
use Rattle.planning.specs.ReadBackLaws.{items_back, laid-items, laid-counts, few-items, groups_counted, open_groups}

-- before planning
abbrev nothing : ℕ → Plan
nothing n = record { columns = []; omissions = []; fragments = n }

held-nothing : (n : ℕ) (w f : List ℕ) → Held (record { found = n; words = w; fragments = f }) (nothing n) 0 0 n w f
unfolding laid_plan columns_words omission_pairs signal_fragments blit
held-nothing n w f =
    record { columns = refl; omissions = refl; fragments = refl; signals = sym (add-zero n); room = omega arith; in_columns = refl; in_fragments = sym (kept-none n f) }

length-bare : (cs : List Column) → length (bare_columns cs) ≡ length cs
unfolding bare_columns
length-bare [] = refl
length-bare (c ∷ cs) = ap suc (length-bare cs)

-- a plan that the words hold, with its numbers; n fragments were found in the walk
pub record PlanHeld (n : ℕ) (q : Plan) (nc no nf : ℕ) (w f w' f' : List ℕ) : Type 0 where
  pub columns : nc ≡ length q.columns
  pub omissions : no ≡ length q.omissions
  pub room : nc ≤ 512
  pub signals : nf ≡ n + length (signal_fragments q.columns)
  pub in_columns : w' ≡ laid_plan n q w
  pub in_fragments : f' ≡ kept n (signal_fragments q.columns) f

pub record PlanIs (o : Checked Plan) (n nc no nf : ℕ) (w f w' f' : List ℕ) : Type 0 where
  pub plan : Plan
  pub is : o ≡ ok plan
  pub held : PlanHeld n plan nc no nf w f w' f'

held-bare : (n : ℕ) (w f : List ℕ) (q : Plan) {nc no nf : ℕ} {w' f' : List ℕ} → Held (record { found = n; words = w; fragments = f }) (bare_plan q) nc no nf w' f'
    → PlanHeld n q nc no nf w f w' f'
held-bare n w f q h =
    record {
      columns = sym h.columns ∙ length-bare q.columns;
      omissions = sym h.omissions;
      room = h.room;
      signals = h.signals ∙ ap (λ fs. n + length fs) (signals_bare q.columns);
      in_columns = h.in_columns ∙ laid-bare n q w;
      in_fragments = h.in_fragments ∙ ap (λ fs. kept n fs f) (signals_bare q.columns);
    }

pub gives-plan : (n : ℕ) (w f : List ℕ) (o : Checked Plan) {r : Result Progress Refusal} {p : Progress} {w' f' : List ℕ}
    → Gives (record { found = n; words = w; fragments = f }) (bare_checked o) r w' f' → r ≡ Ok p → PlanIs o n p.columns p.omissions p.fragments w f w' f'
unfolding gives
gives-plan n w f (refused x y) g e = absurd (ok≢refused (ap checked_of (sym e) ∙ g.by))
gives-plan n w f (ok q) {p = p} {w'} {f'} g e =
    let t = g.by in
    let i = t.is in
    let a : t.progress ≡ p = cc in
    record { plan = q; is = refl; held = held-bare n w f q (rw a at t.held) }

pub gives_none : (n : ℕ) (w f : List ℕ) (o : Checked Plan) {r : Result Progress Refusal} {x : Refusal} {w' f' : List ℕ}
    → Gives (record { found = n; words = w; fragments = f }) (bare_checked o) r w' f' → r ≡ Err x → o ≡ refused (number_of x) (place_of x)
unfolding gives
gives_none n w f (refused y q) {x = x} g e =
    let b : ◌≡◌ {A = Checked Progress} (refused (number_of x) (place_of x)) (refused y q) = ap checked_of (sym e) ∙ g.by in
    let i : number_of x ≡ y = cc in
    let j : place_of x ≡ q = cc in
    rw (i, j)
gives_none n w f (ok q) g e = absurd (let t = g.by in let i = t.is in let z : ◌≡◌ {A = ℕ} 0 1 = cc in omega arith)

-- the groups of a recording that was read into words
module _ (s : List ℕ) (st : Source) (ns : List ℕ) (walked : walk s ≡ ok st) (counted : counts s (data_groups st) ≡ ok ns) (w₀ : List ℕ) (long : 4096 ≤ length w₀) where
  abbrev kept-words : List ℕ
  kept-words = blit counts_at ns (laid_items st.items w₀)

  abbrev all : List SrcGroup
  all = src_groups (data_groups st) ns

  numbers : tally level_cg.own st.items ≡ length ns
  unfolding data_groups
  numbers =
      let k = (groups_known s st ns walked counted).as_many in
      let c = groups_counted st.fragments st.items in
      let o = open_groups st.items (walk_open s st walked) in
      omega arith

  -- the items stand in the words
  pub read_items : items_from kept-words 0 (length st.items) ≡ st.items
  read_items =
      let h = walk-sound s st walked in
      let n = numbers in
      let cg = h.few_cg in
      items_back kept-words 0 st.items (laid-items st.items ns w₀ long (few-items st.items h.few_dg h.few_cg h.few_cn) cg (omega arith))

  pub read_groups : groups_in kept-words (length st.items) ≡ bares all
  read_groups =
      let h = walk-sound s st walked in
      let n = numbers in
      let few = few-items st.items h.few_dg h.few_cg h.few_cn in
      let cg = h.few_cg in
      groups_flat kept-words ns (length st.items) st
      read_items
      (laid-counts st.items ns w₀ long few cg (omega arith))
      (walk_open s st walked) (omega arith)

  -- planning over those words is the recording's plan
  pub read_gives : {rs : Rules} {bys : List ℕ} {r : Result Progress Refusal} {w f w' f' : List ℕ} → GroupsPlan rs s kept-words bys (length st.items) (length st.fragments) w f r w' f'
      → Gives (record { found = length st.fragments; words = w; fragments = f }) (bare_checked (plan rs s (length st.fragments) all bys)) r w' f'
  unfolding plan
  read_gives {rs} {bys} {r} {w} {f} {w'} {f'} g =
      let n = length st.fragments in
      let room = all_room s (bares all) in
      let few = (groups_known s st ns walked counted).few_channels in
      let c = ap (λ l. length l) (channels_bare all) in
      let e = read_groups in
      rw (← plan-bare rs s n all bys) (rw e at (g.is (record { found = n; words = w; fragments = f }) (nothing n) (held-nothing n w f) (rw e (omega arith))))
