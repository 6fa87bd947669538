-- Laws of the report's counts.
use Rattle.std.specs.Prelude.{◌≡◌, ℕ, ◌+◌, ◌*◌, ◌≤◌, Bool, true, false, List, ◌≢◌, slice_index}
use Rattle.std.proofs.Math.Path.{refl}
use Rattle.std.proofs.Common.{sym, ◌∙◌}
use native.Mathlib.Omega.{arith}
use Rattle.base.specs.ChoiceLaws.{eq_yes, eq_no}
use Rattle.mdf.specs.Group.{is_storage}
use Rattle.plan.specs.Channel.{width}
use Rattle.plan.specs.Geometry.{block_count}
use Rattle.writing.specs.Counted.{group_at, time_at, data_blocks_at, signal_at, blocks_at, Few}

-- ---- a group
module _ (s w : List ℕ) (i : ℕ) {m : ℕ} (e : m ≡ slice_index w (1536 + i)) where
  pub group_not : (m ≢ 1) → Few 1 (group_at s w i) 0
  unfolding group_at
  group_not h = record { is = eq_no _ _ _ _ (λ q. h (e ∙ q)) refl; few = omega arith }

  module _ (h : m ≡ 1) {a : ℕ} (f : a ≡ slice_index w i) {b : Bool} (g : b ≡ is_storage s a) where
    pub group_storage : b ≡ true → Few 1 (group_at s w i) 0
    unfolding group_at
    group_storage q = record { is = eq_yes _ _ _ _ (sym e ∙ h) (rw (← f, ← g, q)); few = omega arith }

    pub group-counts : b ≡ false → Few 1 (group_at s w i) 1
    unfolding group_at
    group-counts q = record { is = eq_yes _ _ _ _ (sym e ∙ h) (rw (← f, ← g, q)); few = omega arith }

-- ---- a time column
module _ (w : List ℕ) (k : ℕ) {m : ℕ} (e : m ≡ slice_index w (8 * k + 4)) where
  pub time_yes : m ≡ 1 → Few 1 (time_at w k) 1
  unfolding time_at
  time_yes h = record { is = eq_yes _ _ _ _ (sym e ∙ h) refl; few = omega arith }

  pub time_no : (m ≢ 1) → Few 1 (time_at w k) 0
  unfolding time_at
  time_no h = record { is = eq_no _ _ _ _ (λ q. h (e ∙ q)) refl; few = omega arith }

-- ---- the blocks of a column
module _ (s : List ℕ) (size : ℕ) (w : List ℕ) (k : ℕ) {c g r y m x : ℕ} (h : c ≡ slice_index w (8 * k)) (i : g ≡ slice_index w (8 * k + 1))
    (j : r ≡ slice_index w (8 * k + 3)) (u : y ≡ width s g c) (v : m ≡ block_count size y r) (e : x ≡ slice_index w (8 * k + 6)) where
  pub data_blocks_lem : m ≡ data_blocks_at s size w k
  unfolding data_blocks_at
  data_blocks_lem = v ∙ rw (u, h, i, j)

  module _ (l : data_blocks_at s size w k ≤ 4294967295) where
    pub blocks-alone : x ≡ 0 → Few 4294967296 (blocks_at s size w k) m
    unfolding blocks_at signal_at
    blocks-alone q =
        let d = data_blocks_lem in
        let z : 0 ≡ signal_at w k = eq_yes _ _ _ _ (sym e ∙ q) refl in
        record { is = omega (arith, d, z); few = omega (arith, d, l) }

    pub blocks_signal : (x ≢ 0) → Few 4294967296 (blocks_at s size w k) (m + 1)
    unfolding blocks_at signal_at
    blocks_signal q =
        let d = data_blocks_lem in
        let z : 1 ≡ signal_at w k = eq_no _ _ _ _ (λ t. q (e ∙ t)) refl in
        record { is = omega (arith, d, z); few = omega (arith, d, l) }
