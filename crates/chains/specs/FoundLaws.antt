-- What holds of the fragments found in a data chain: the limit.
use Prim.Native.Nat.{ℕ, zero, suc, ◌+◌, ◌-◌, ◌≤◌, ◌<◌}
use Rattle.std.specs.Prelude.{◌≡◌, Bool, eqb}
use Rattle.std.proofs.Math.Path.{refl}
use Rattle.std.proofs.Math.Bool.{true, false}
use mathlib.Core.List.{List, [], ◌∷◌, ◌++◌}
use Rattle.std.proofs.Common.{arith, ltb-true, length-append}
use Rattle.std.proofs.Math.ListN.{length}
use Rattle.std.proofs.Math.Dec.{ltb}
use Rattle.base.specs.Choice.{pick, if_lt, if_eq}
use Rattle.base.specs.Field.{le_at}
use Rattle.base.specs.Checked.{ok, refused, Verdict, fine}
use Rattle.mdf.specs.Block.{kind_dl, kind_hl, kind_at, links_at, first_link, header_in}
use Rattle.mdf.specs.Chain.{Kind, Fragment, fragment, Chain, Leaf, leaf, none, leaf_of, Found, found, stopped, on_found, on_passed, on_leaf}
use Rattle.mdf.specs.Chain.{Limits, added, fragment_at, listed, is_in, list_in, chain_from, chain}
use Rattle.blocks.specs.BlockLaws.{header-fits}

-- the fragments found, also where the chain was stopped
abbrev pub fragments_in : Found → List Fragment
fragments_in (found fs) = fs
fragments_in (stopped x p fs) = fs

-- P holds of the fragments
record Holds (P : List Fragment → Type 0) (g : Found) : Type 0 where
  it : P (fragments_in g)

module _ (P : List Fragment → Type 0) where
  holds-pick : (t : Bool) {g h : Found} → Holds P g → Holds P h → Holds P (pick t g h)
  holds-pick true p q = p
  holds-pick false p q = q

  holds_eq : (m n : ℕ) {g h : Found} → Holds P g → Holds P h → Holds P (if_eq m n g h)
  unfolding if_eq
  holds_eq m n p q = holds-pick (eqb m n) p q

  -- where it holds, and what is found after holds where the check passed
  holds-passed : (v : Verdict) {fs : List Fragment} {g : Found} → P fs → (v ≡ fine → Holds P g) → Holds P (on_passed v fs g)
  holds-passed (ok u) p q = q refl
  holds-passed (refused x y) p q = record { it = p }

  holds_leaf : (x : Leaf) {g : Found} {f : Kind → Found} → Holds P g → ((k : Kind) → Holds P (f k)) → Holds P (on_leaf x g f)
  holds_leaf none p q = p
  holds_leaf (leaf k) p q = q k

  holds-found : (g : Found) {f : List Fragment → Found} → Holds P g → ((fs : List Fragment) → P fs → Holds P (f fs)) → Holds P (on_found g f)
  holds-found (found fs) p q = q fs p.it
  holds-found (stopped x y fs) p q = p

  -- what holds of no fragment and of one more, holds of what a chain finds
  module _ (c : Chain) (l : Limits) (s : List ℕ) (n : ℕ)
      (more : (a : ℕ) (k : Kind) (fs : List Fragment) → a + 24 ≤ length s → n + length fs < l.fragments → P fs
      → P (fs ++ (fragment s a k ∷ []))) where
    added-holds : (a : ℕ) (k : Kind) (fs : List Fragment) → a + 24 ≤ length s → P fs → Holds P (added l n a (fragment s a k) fs)
    unfolding added if_lt
    added-holds a k fs h p = go (ltb (n + length fs) l.fragments) refl
      where
        go : (t : Bool) → ltb (n + length fs) l.fragments ≡ t → Holds P (pick t (found (fs ++ (fragment s a k ∷ []))) (stopped 19 a fs))
        go true e = record { it = more a k fs h (ltb-true _ _ e) p }
        go false e = record { it = p }

    fragment-holds : (a : ℕ) (fs : List Fragment) → P fs → Holds P (fragment_at c l s n a fs)
    unfolding fragment_at
    fragment-holds a fs p =
        holds-passed (header_in s a) p
        (λ e. holds_leaf (leaf_of c (kind_at s a)) (record { it = p }) (λ k. added-holds a k fs (header-fits s a e) p))

    listed-holds : (links p : ℕ) (fs : List Fragment) → P fs → Holds P (listed c l s n links p fs)
    unfolding listed
    listed-holds zero p fs h = record { it = h }
    listed-holds (suc k) p fs h =
        holds-found _ (holds_eq (le_at 8 s p) 0 (record { it = h }) (fragment-holds (le_at 8 s p) fs h)) (λ gs g. listed-holds k (p + 8) gs g)

    chain-holds : (turns : ℕ) (seen : List ℕ) (a : ℕ) (fs : List Fragment) → P fs → Holds P (chain_from c l turns s n seen a fs)
    unfolding chain_from
    chain-holds zero seen a fs p = record { it = p }
    chain-holds (suc t) seen a fs p =
        let on : (gs : List Fragment) → P gs → Holds P (chain_from c l t s n (a ∷ seen) (first_link s a) gs) =
        λ gs g. chain-holds t (a ∷ seen) (first_link s a) gs g in
        holds_eq a 0 (record { it = p }) (holds-pick (is_in a seen) (record { it = p })
        (holds-passed (header_in s a) p (λ e. holds_leaf (leaf_of c (kind_at s a))
        (holds_eq (kind_at s a) kind_dl
        (holds-passed (list_in l.dl_bytes l s seen a) p (λ _. holds-found _ (listed-holds (links_at s a - 1) (a + 32) fs p) on))
        (holds_eq (kind_at s a) kind_hl (holds-passed (list_in l.hl_bytes l s seen a) p (λ _. on fs p)) (record { it = p })))
        (λ k. added-holds a k fs (header-fits s a e) p))))

-- the limit on fragments
pub chain_limit : (c : Chain) (l : Limits) (s : List ℕ) (n a m : ℕ) → l.fragments ≤ m → n ≤ m → n + length (fragments_in (chain c l s n a)) ≤ m
unfolding chain
chain_limit c l s n a m g h =
    (chain-holds (λ fs. n + length fs ≤ m) c l s n (λ b k fs i j p. simp length-append (omega arith)) (l.lists + 2) [] a [] (omega arith)).it
