-- The laws of what stands at an address of a data chain.
use Rattle.std.specs.Prelude.{ℕ, suc, ◌+◌, ◌-◌, ◌≡◌, refl, Bool, true, false, List, [], ◌∷◌, length, eqb, Option, Some, None, Result, Ok, Err, ⊤}
use Rattle.std.proofs.Math.Path.{ap}
use Rattle.std.proofs.Common.{◌∙◌}
use Rattle.base.specs.Choice.{pick, if_eq}
use Rattle.base.specs.ChoiceLaws.{eq_yes, eq_no}
use Rattle.base.specs.Checked.{Checked, ok, refused, and_then, Verdict}
use Rattle.mdf.specs.Block.{kind_dt, kind_dv, kind_dl, kind_hl, kind_sd, kind_at, size_at, links_at, first_link, header_in}
use Rattle.mdf.specs.Chain.{dt, dv, Fragment, fragment, Chain, Leaf, leaf, none, leaf_of, Found, found, stopped}
use Rattle.mdf.specs.Chain.{on_found, on_passed, on_leaf, Limits, added, fragment_at, listed, is_in, list_in, chain_from}
use Rattle.fields.specs.declared.refusal.Refusal.{Refusal}
use Rattle.fields.specs.Answer.{number_of, place_of, verdict_of}
use Rattle.blocks.specs.AnswerLaws.{so_fine, so_refused}
use Rattle.chains.specs.declared.node.Kind as kinds
use Rattle.chains.specs.Node.{Standing, data_block, data_list, list-header, which, kind_of, fragment_of, leaf_from, by_leaf, node_at}
use Rattle.chains.specs.Turn.{list_at, Turn, over, next, on_read, on_listed, list_turn, header_turn, on_standing, turn_at}

-- ---- the kind of fragment
module _ {b : Bool} {k : ℕ} where
  pub leaf_sd : b ≡ true → k ≡ kind_sd → leaf dt ≡ leaf_of (which b) k
  unfolding leaf_of
  leaf_sd e q = rw e (eq_yes _ _ _ _ q refl)

  pub leaf_no_sd : b ≡ true → (k ≡ kind_sd → ⊥) → none ≡ leaf_of (which b) k
  unfolding leaf_of
  leaf_no_sd e q = rw e (eq_no _ _ _ _ q refl)

  pub leaf_dt : b ≡ false → k ≡ kind_dt → leaf dt ≡ leaf_of (which b) k
  unfolding leaf_of
  leaf_dt e q = rw e (eq_yes _ _ _ _ q refl)

  pub leaf_dv : b ≡ false → (k ≡ kind_dt → ⊥) → k ≡ kind_dv → leaf dv ≡ leaf_of (which b) k
  unfolding leaf_of
  leaf_dv e q r = rw e (eq_no _ _ _ _ q (eq_yes _ _ _ _ r refl))

  pub leaf_none : b ≡ false → (k ≡ kind_dt → ⊥) → (k ≡ kind_dv → ⊥) → none ≡ leaf_of (which b) k
  unfolding leaf_of
  leaf_none e q r = rw e (eq_no _ _ _ _ q (eq_no _ _ _ _ r refl))

-- a fragment by its size
pub fragment-size : (s : List ℕ) (a : ℕ) (d : kinds.Kind) {n : ℕ} → n ≡ size_at s a - 24
    → fragment_of (record { offset = a + 24; size = n; kind = d }) ≡ fragment s a (kind_of d)
fragment-size s a d e = rw e

-- ---- the node: o is the header's check, k the block's kind, x the kind of fragment
module _ (c : Chain) (s : List ℕ) (a : ℕ) {o : Result ⊤ Refusal} (e : verdict_of o ≡ header_in s a) where
  pub node_refused : {x : Refusal} → o ≡ Err x → refused (number_of x) (place_of x) ≡ node_at c s a
  unfolding node_at
  node_refused q = rw (so_refused e q)

  module _ {u : ⊤} (q : o ≡ Ok u) {k : ℕ} (g : k ≡ kind_at s a) {x : Option kinds.Kind} (f : leaf_from x ≡ leaf_of c k) where
    pub node_block : {d : kinds.Kind} {r : Fragment} → x ≡ Some d → r ≡ fragment s a (kind_of d) → ok (data_block r) ≡ node_at c s a
    unfolding node_at
    node_block h i = rw (so_fine e q, ← g, ← f, h, i)

    module _ (h : x ≡ None) where
      pub node_dl : k ≡ kind_dl → ok data_list ≡ node_at c s a
      unfolding node_at
      node_dl i = rw (so_fine e q, ← g, ← f, h) (eq_yes _ _ _ _ i refl)

      pub node_hl : (k ≡ kind_dl → ⊥) → k ≡ kind_hl → ok list-header ≡ node_at c s a
      unfolding node_at
      node_hl i j = rw (so_fine e q, ← g, ← f, h) (eq_no _ _ _ _ i (eq_yes _ _ _ _ j refl))

      pub node_other : (k ≡ kind_dl → ⊥) → (k ≡ kind_hl → ⊥) → refused 12 a ≡ node_at c s a
      unfolding node_at
      node_other i j = rw (so_fine e q, ← g, ← f, h) (eq_no _ _ _ _ i (eq_no _ _ _ _ j refl))

-- ---- a fragment that a DL lists, by what stands there
abbrev pub listed_node : Limits → ℕ → ℕ → Checked Standing → Found
listed_node l n a (refused x p) = stopped x p []
listed_node l n a (ok (data_block f)) = added l n a f []
listed_node l n a (ok data_list) = stopped 12 a []
listed_node l n a (ok list-header) = stopped 12 a []

module _ (c : Chain) (l : Limits) (s : List ℕ) (n a : ℕ) where
  by_cases : (v : Verdict) (x : Leaf) (t u : Bool)
      → on_passed v [] (on_leaf x (stopped 12 a []) (λ k. added l n a (fragment s a k) []))
      ≡ listed_node l n a
      (and_then v (λ _. by_leaf x (pick t (ok data_list) (pick u (ok list-header) (refused 12 a))) (λ k. ok (data_block (fragment s a k)))))
  by_cases (refused x p) y t u = refl
  by_cases (ok i) (leaf k) t u = refl
  by_cases (ok i) none true u = refl
  by_cases (ok i) none false true = refl
  by_cases (ok i) none false false = refl

  pub fragment_node : fragment_at c l s n a [] ≡ listed_node l n a (node_at c s a)
  unfolding fragment_at node_at if_eq
  fragment_node = by_cases (header_in s a) (leaf_of c (kind_at s a)) (eqb (kind_at s a) kind_dl) (eqb (kind_at s a) kind_hl)

-- ---- a block of the chain, by what stands there
abbrev pub resumed : Turn → (ℕ → List Fragment → Found) → Found
resumed (over g) f = g
resumed (next a fs) f = f a fs

on_read_lem : (v : Verdict) (t : Turn) (f : ℕ → List Fragment → Found) → on_passed v [] (resumed t f) ≡ resumed (on_read v t) f
on_read_lem (ok u) t f = refl
on_read_lem (refused x p) t f = refl

on-listed : (g : Found) (a : ℕ) (f : ℕ → List Fragment → Found) → on_found g (f a) ≡ resumed (on_listed g (next a)) f
on-listed (found fs) a f = refl
on-listed (stopped x p fs) a f = refl

module _ (c : Chain) (l : Limits) (s : List ℕ) (n a : ℕ) (seen : List ℕ) (f : ℕ → List Fragment → Found) where
  dl_turn : on_passed (list_in l.dl_bytes l s seen a) [] (on_found (listed c l s n (links_at s a - 1) (a + 32) []) (f (first_link s a)))
      ≡ resumed (list_turn c l s n (length seen) a) f
  unfolding list_turn list_in list_at
  dl_turn =
      ap (on_passed (list_in l.dl_bytes l s seen a) []) (on-listed (listed c l s n (links_at s a - 1) (a + 32) []) (first_link s a) f)
      ∙ on_read_lem (list_in l.dl_bytes l s seen a) (on_listed (listed c l s n (links_at s a - 1) (a + 32) []) (next (first_link s a))) f

  hl_turn : on_passed (list_in l.hl_bytes l s seen a) [] (f (first_link s a) []) ≡ resumed (header_turn l s (length seen) a) f
  unfolding header_turn list_in list_at
  hl_turn = on_read_lem (list_in l.hl_bytes l s seen a) (next (first_link s a) []) f

  turn_cases : (v : Verdict) (x : Leaf) (t u : Bool) (tl th : Turn) {dl hl : Found} → dl ≡ resumed tl f → hl ≡ resumed th f
      → on_passed v [] (on_leaf x (pick t dl (pick u hl (stopped 12 a []))) (λ k. added l n a (fragment s a k) []))
      ≡ resumed (on_standing
      (and_then v (λ _. by_leaf x (pick t (ok data_list) (pick u (ok list-header) (refused 12 a))) (λ k. ok (data_block (fragment s a k)))))
      (λ g. over (added l n a g [])) tl th) f
  turn_cases (refused x p) y t u tl th d h = refl
  turn_cases (ok i) (leaf k) t u tl th d h = refl
  turn_cases (ok i) none true u tl th d h = d
  turn_cases (ok i) none false true tl th d h = h
  turn_cases (ok i) none false false tl th d h = refl

-- the chain, one block at a time
pub chain_open : (c : Chain) (l : Limits) (turns : ℕ) (s : List ℕ) (n : ℕ) (seen : List ℕ) (a : ℕ) → chain_from c l (suc turns) s n seen a []
    ≡ if_eq a 0 (found []) (pick (is_in a seen) (stopped 11 a [])
    (resumed (turn_at c l s n (length seen) a) (λ b gs. chain_from c l turns s n (a ∷ seen) b gs)))
unfolding chain_from turn_at node_at if_eq
chain_open c l turns s n seen a =
    let f : ℕ → List Fragment → Found = λ b gs. chain_from c l turns s n (a ∷ seen) b gs in
    ap (λ (g : Found). if_eq a 0 (found []) (pick (is_in a seen) (stopped 11 a []) g))
    (turn_cases c l s n a seen f (header_in s a) (leaf_of c (kind_at s a)) (eqb (kind_at s a) kind_dl) (eqb (kind_at s a) kind_hl) _ _
    (dl_turn c l s n a seen f) (hl_turn c l s n a seen f))
