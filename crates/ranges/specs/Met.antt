-- What the walk met: each DG with the fragments of its chain, then its CG, each with its CN.
use Rattle.std.specs.Prelude.{ℕ, ◌+◌, ◌≤◌, List, [], ◌∷◌, ◌++◌, ◌≡◌, length}
use Rattle.mdf.specs.Block.{link_at}
use Rattle.mdf.specs.Chain.{Fragment, records, found, Limits, chain}
use Rattle.mdf.specs.Walk.{Item, dg, cg, cn, Source}

-- from a state with n fragments found to another: 0 before the first DG, 1 after a DG, 2 after a CG or CN
pub data Met (l : Limits) (s : List ℕ) : ℕ → ℕ → List Item → List Fragment → ℕ → ℕ → Type 0 where
  met_none : {k n : ℕ} → Met l s k n [] [] k n
  met_dg : {k n a k' n' : ℕ} {is : List Item} {fs gs : List Fragment} → chain records l s n (link_at s a 2) ≡ found fs
      → Met l s 1 (n + length fs) is gs k' n' → Met l s k n (dg a n ∷ is) (fs ++ gs) k' n'
  met_cg_lem : {k n a k' n' : ℕ} {is : List Item} {gs : List Fragment} → 1 ≤ k → Met l s 2 n is gs k' n' → Met l s k n (cg a ∷ is) gs k' n'
  met_cn_lem : {k n a k' n' : ℕ} {is : List Item} {gs : List Fragment} → 2 ≤ k → Met l s 2 n is gs k' n' → Met l s k n (cn a ∷ is) gs k' n'

pub data Upto (l : Limits) (s : List ℕ) (m : ℕ) (st : Source) : Type 0 where
  upto : (k : ℕ) → m ≤ k → Met l s 0 0 st.items st.fragments k (length st.fragments) → Upto l s m st
