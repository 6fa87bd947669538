-- The walk meets blocks so.
use Rattle.std.specs.Prelude.{ℕ, zero, suc, ◌+◌, ◌≤◌, Bool, true, false, ◌≡◌, length, eqb}
use mathlib.Core.List.{List, [], ◌∷◌, ◌++◌, append-nil, append_assoc}
use Rattle.std.proofs.Math.Path.{refl, subst}
use Rattle.std.proofs.Common.{arith, length-append}
use Rattle.base.specs.Choice.{pick, if_eq}
use Rattle.base.specs.Checked.{Checked, ok, and_then}
use Rattle.base.specs.CheckedLaws.{refused≢ok, ok_same, then_ok, then_fine}
use Rattle.mdf.specs.Block.{HD, link_at, block_at}
use Rattle.mdf.specs.Name.{name_at}
use Rattle.mdf.specs.Chain.{Fragment, records, Found, found, stopped, Limits, chain}
use Rattle.mdf.specs.Walk.{Item, dg, Source, source, Level, level_dg, level_cg, level_cn, visit, entered, level, turns, below_cn, below_cg, id_size_in, with_found, below_dg, walk_of}
use Rattle.ranges.specs.Met.{Met, met_none, met_dg, met_cg_lem, met_cn_lem, Upto, upto}

module _ {l : Limits} {s : List ℕ} where
  met_append : {k n k' n' k'' n'' : ℕ} {is js : List Item} {fs gs : List Fragment} → Met l s k n is fs k' n' → Met l s k' n' js gs k'' n''
      → Met l s k n (is ++ js) (fs ++ gs) k'' n''
  met_append met_none y = y
  met_append {gs = hs} (met_dg {fs = fs} {gs = gs} c x) y = rw (append_assoc fs gs hs) (met_dg c (met_append x y))
  met_append (met_cg_lem h x) y = met_cg_lem h (met_append x y)
  met_append (met_cn_lem h x) y = met_cn_lem h (met_append x y)

  weaker : (m : ℕ) {k : ℕ} {st : Source} → m ≤ k → Upto l s k st → Upto l s m st
  weaker m h (upto j g x) = upto j (omega arith) x

  enter_cg : (a : ℕ) (st : Source) → Upto l s 1 st → Upto l s 2 (entered level_cg a st)
  unfolding entered
  enter_cg a st (upto j h x) = upto 2 (omega arith) (rw append-nil at (met_append x (met_cg_lem {a = a} h met_none)))

  enter_cn : (a : ℕ) (st : Source) → Upto l s 2 st → Upto l s 2 (entered level_cn a st)
  unfolding entered
  enter_cn a st (upto j h x) = upto 2 (omega arith) (rw append-nil at (met_append x (met_cn_lem {a = a} h met_none)))

-- ---- one level: P holds between blocks, Q after the block at a is entered
level_holds : (P : Source → Type 0) (Q : ℕ → Source → Type 0) (k : Level) (below : ℕ → Source → Checked Source) (s : List ℕ)
    → ((a : ℕ) (st : Source) → P st → Q a (entered k a st))
    → ((a : ℕ) (st st' : Source) → Q a st → below a st ≡ ok st' → P st')
    → (turns a : ℕ) (st st' : Source) → P st → level k below turns s a st ≡ ok st' → P st'
unfolding level if_eq
level_holds P Q k below s enter under zero a st st' h e = absurd (refused≢ok e)
level_holds P Q k below s enter under (suc t) a st st' h e = go (eqb a 0) e (λ st2 q r. level_holds P Q k below s enter under t (link_at s a 0) st2 st' q r)
  where
    go : (b : Bool) → pick b (ok st) (and_then (visit k s st a) (λ _. and_then (below a (entered k a st)) (λ st2. level k below t s (link_at s a 0) st2))) ≡ ok st'
        → ((st2 : Source) → P st2 → level k below t s (link_at s a 0) st2 ≡ ok st' → P st') → P st'
    go true q more = subst P (ok_same q) h
    go false q more =
        let v = then_fine (visit k s st a) _ q in
        let b = then_ok (below a (entered k a st)) _ v.1 in
        more b.0 (under a (entered k a st) b.0 (enter a st h) b.1) b.2

-- a DG was entered, and its chain isn't walked yet
data Entered (l : Limits) (s : List ℕ) (a : ℕ) (st : Source) : Type 0 where
  was : (is : List Item) (k : ℕ) → Met l s 0 0 is st.fragments k (length st.fragments) → st.items ≡ is ++ (dg a (length st.fragments) ∷ []) → Entered l s a st

module _ (l : Limits) (s : List ℕ) where
  below-cn : (a : ℕ) (st st' : Source) → Upto l s 2 st → below_cn s a st ≡ ok st' → Upto l s 2 st'
  unfolding below_cn
  below-cn a st st' h e = subst (Upto l s 2) (ok_same (then_fine (name_at s (link_at s a 2)) _ e).1) h

  below-cg : (a : ℕ) (st st' : Source) → Upto l s 2 st → below_cg s a st ≡ ok st' → Upto l s 1 st'
  unfolding below_cg
  below-cg a st st' h e =
      weaker 1 (omega arith) (level_holds (Upto l s 2) (λ _. Upto l s 2) level_cn (below_cn s) s enter_cn below-cn turns (link_at s a 1) st st' h
      (then_fine (name_at s (link_at s a 2)) _ e).1)

  enter_dg : (a : ℕ) (st : Source) → Upto l s 0 st → Entered l s a (entered level_dg a st)
  unfolding entered
  enter_dg a st (upto k h x) = was st.items k x refl

  data_met : (a : ℕ) (st st' : Source) → Entered l s a st → (v : Found) → chain records l s (length st.fragments) (link_at s a 2) ≡ v
      → with_found v st ≡ ok st' → Upto l s 1 st'
  data_met a st st' (was is k x e) (found fs) c q =
      let n : length (st.fragments ++ fs) ≡ length st.fragments + length fs = length-append st.fragments fs in
      let m : Met l s 0 0 (is ++ (dg a (length st.fragments) ∷ [])) (st.fragments ++ fs) 1 (length st.fragments + length fs) =
      (rw append-nil at (met_append x (met_dg c met_none))) in
      subst (Upto l s 1) (ok_same q) (upto 1 (omega arith) (rw (e, n) m))
  data_met a st st' h (stopped n p fs) c q = absurd (refused≢ok q)

  below-dg : (a : ℕ) (st st' : Source) → Entered l s a st → below_dg l s a st ≡ ok st' → Upto l s 0 st'
  unfolding below_dg
  below-dg a st st' h e =
      let b = then_ok (with_found (chain records l s (length st.fragments) (link_at s a 2)) st) _ e in
      weaker 0 (omega arith) (level_holds (Upto l s 1) (λ _. Upto l s 2) level_cg (below_cg s) s enter_cg below-cg turns (link_at s a 1) b.0 st'
      (data_met a st b.0 h _ refl b.1) (then_fine (id_size_in s a) _ b.2).1)

  pub walk_met : (st : Source) → walk_of l s ≡ ok st → Upto l s 0 st
  unfolding walk_of
  walk_met st e =
      level_holds (Upto l s 0) (Entered l s) level_dg (below_dg l s) s enter_dg below-dg turns (link_at s 64 0) (source [] []) st
      (upto 0 (omega arith) met_none) (then_fine (block_at HD s 64) _ e).1
