-- A chain that is found keeps within the limit of fragments.
use Prim.Native.Nat.{ℕ, zero, suc, ◌+◌, ◌-◌, ◌≤◌}
use mathlib.Core.List.{List, [], ◌∷◌}
use Rattle.std.specs.Prelude.{◌≡◌, refl}
use Rattle.std.proofs.Math.Path.{subst}
use Rattle.std.proofs.Common.{arith, length-append}
use Rattle.std.proofs.Math.ListN.{length}
use Rattle.base.specs.Choice.{if_eq}
use Rattle.base.specs.ChoiceLaws.{lt_first}
use Rattle.base.specs.Field.{le_at}
use Rattle.base.specs.Checked.{ok, refused, Verdict}
use Rattle.mdf.specs.Block.{kind_dl, kind_hl, kind_at, links_at, first_link, header_in}
use Rattle.mdf.specs.Chain.{Kind, Fragment, fragment, Chain, Leaf, leaf, Leaf.none, leaf_of, Found, found, stopped, on_found, on_passed, Limits, added, on_leaf, fragment_at, listed, is_in, list_in, chain_from, chain}
use Rattle.plan_laws.specs.Answers.{eq_cases, pick_cases}

pub stopped≢found : {n p : ℕ} {fs gs : List Fragment} → stopped n p fs ≡ found gs → ⊥
stopped≢found e = let z : ◌≡◌ {A = ℕ} 0 1 = cc in omega arith

pub found-same : {fs gs : List Fragment} → found fs ≡ found gs → fs ≡ gs
found-same e = cc

with_found_lem : {R : Type 0} (v : Found) (f : List Fragment → Found) {gs : List Fragment} → on_found v f ≡ found gs
    → ((fs : List Fragment) → v ≡ found fs → f fs ≡ found gs → R) → R
with_found_lem (found fs) f e k = k fs refl e
with_found_lem (stopped n p fs) f e k = absurd (stopped≢found e)

passed-found : (v : Verdict) (fs : List Fragment) (next : Found) {gs : List Fragment} → on_passed v fs next ≡ found gs → next ≡ found gs
passed-found (ok u) fs next e = e
passed-found (refused n p) fs next e = absurd (stopped≢found e)

leaf_found : {R : Type 0} (l : Leaf) (other : Found) (f : Kind → Found) {gs : List Fragment} → on_leaf l other f ≡ found gs
    → (other ≡ found gs → R) → ((k : Kind) → f k ≡ found gs → R) → R
leaf_found Leaf.none other f e y z = y e
leaf_found (leaf k) other f e y z = z k e

module _ (c : Chain) (l : Limits) (s : List ℕ) (n : ℕ) where
  added-fits : (a : ℕ) (f : Fragment) (fs gs : List Fragment) → added l n a f fs ≡ found gs → n + length gs ≤ l.fragments
  unfolding added
  added-fits a f fs gs e =
      let b = lt_first _ _ _ _ e stopped≢found in
      rw (← found-same b.1, length-append) (omega (arith, b.0))

  fragment-fits : (a : ℕ) (fs gs : List Fragment) → fragment_at c l s n a fs ≡ found gs → n + length gs ≤ l.fragments
  unfolding fragment_at
  fragment-fits a fs gs e =
      leaf_found (leaf_of c (kind_at s a)) _ _ (passed-found (header_in s a) fs _ e)
      (λ q. absurd (stopped≢found q))
      (λ k q. added-fits a (fragment s a k) fs gs q)

  listed-fits : (links p : ℕ) (fs gs : List Fragment) → n + length fs ≤ l.fragments → listed c l s n links p fs ≡ found gs
      → n + length gs ≤ l.fragments
  unfolding listed
  listed-fits zero p fs gs h e = subst (λ (m : List Fragment). n + length m ≤ l.fragments) (found-same e) h
  listed-fits (suc links) p fs gs h e =
      with_found_lem (if_eq (le_at 8 s p) 0 (found fs) (fragment_at c l s n (le_at 8 s p) fs)) _ e (λ ms q r.
      listed-fits links (p + 8) ms gs
      (eq_cases (le_at 8 s p) 0 _ _ q
      (λ z t. subst (λ (m : List Fragment). n + length m ≤ l.fragments) (found-same t) h)
      (λ z t. fragment-fits (le_at 8 s p) fs ms t))
      r)

  from-fits : (turns : ℕ) (seen : List ℕ) (a : ℕ) (fs gs : List Fragment) → n + length fs ≤ l.fragments
      → chain_from c l turns s n seen a fs ≡ found gs → n + length gs ≤ l.fragments
  unfolding chain_from
  from-fits zero seen a fs gs h e = absurd (stopped≢found e)
  from-fits (suc turns) seen a fs gs h e =
      eq_cases a 0 _ _ e (λ z t. subst (λ (m : List Fragment). n + length m ≤ l.fragments) (found-same t) h) (λ z t.
      pick_cases (is_in a seen) _ _ t (λ _ q. absurd (stopped≢found q)) (λ _ q.
      leaf_found (leaf_of c (kind_at s a)) _ _ (passed-found (header_in s a) fs _ q)
      (λ q. eq_cases (kind_at s a) kind_dl _ _ q
      (λ _ q. with_found_lem (listed c l s n (links_at s a - 1) (a + 32) fs) _ (passed-found (list_in l.dl_bytes l s seen a) fs _ q) (λ ms u r.
      from-fits turns (a ∷ seen) (first_link s a) ms gs (listed-fits (links_at s a - 1) (a + 32) fs ms h u) r))
      (λ _ q. eq_cases (kind_at s a) kind_hl _ _ q
      (λ _ q. from-fits turns (a ∷ seen) (first_link s a) fs gs h (passed-found (list_in l.hl_bytes l s seen a) fs _ q))
      (λ _ q. absurd (stopped≢found q))))
      (λ k q. added-fits a (fragment s a k) fs gs q)))

  pub chain_fits : (a : ℕ) (gs : List Fragment) → n ≤ l.fragments → chain c l s n a ≡ found gs → n + length gs ≤ l.fragments
  unfolding chain
  chain_fits a gs h e = from-fits _ [] a [] gs (omega arith) e
