-- The fragments of a data chain that was found, block by block.
use Rattle.std.specs.Prelude.{ℕ, suc, ◌+◌, ◌-◌, List, [], ◌∷◌, ◌++◌, ◌≡◌}
use Rattle.base.specs.Field.{le_at}
use Rattle.base.specs.Checked.{ok}
use Rattle.mdf.specs.Block.{links_at, first_link}
use Rattle.mdf.specs.Chain.{Fragment, records}
use Rattle.chains.specs.Node.{data_block, data_list, list-header, node_at}

-- so many links that stand at p list the fragments
pub data Lists (s : List ℕ) : ℕ → ℕ → List Fragment → Type 0 where
  no_more : {p : ℕ} → Lists s 0 p []
  passed_over : {k p : ℕ} {gs : List Fragment} → le_at 8 s p ≡ 0 → Lists s k (p + 8) gs → Lists s (suc k) p gs
  and_more : {k p : ℕ} {f : Fragment} {gs : List Fragment} → (le_at 8 s p ≡ 0 → ⊥) → node_at records s (le_at 8 s p) ≡ ok (data_block f)
      → Lists s k (p + 8) gs → Lists s (suc k) p (f ∷ gs)

-- the chain from a on
pub data Chained (s : List ℕ) : ℕ → ℕ → List Fragment → Type 0 where
  ends : {t a : ℕ} → a ≡ 0 → Chained s (suc t) a []
  block : {t a : ℕ} {f : Fragment} → (a ≡ 0 → ⊥) → node_at records s a ≡ ok (data_block f) → Chained s (suc t) a (f ∷ [])
  list : {t a : ℕ} {gs hs : List Fragment} → (a ≡ 0 → ⊥) → node_at records s a ≡ ok data_list → Lists s (links_at s a - 1) (a + 32) gs
      → Chained s t (first_link s a) hs → Chained s (suc t) a (gs ++ hs)
  header : {t a : ℕ} {hs : List Fragment} → (a ≡ 0 → ⊥) → node_at records s a ≡ ok list-header
      → Chained s t (first_link s a) hs → Chained s (suc t) a hs
