-- Laws of a kept column's numbers.
use Rattle.std.specs.Prelude.{ℕ, ◌+◌, ◌*◌, ◌-◌, ◌≤◌, ◌<◌, List, Bool, true, false, not, ◌≡◌, eqb, get_or}
use Rattle.std.proofs.Math.Path.{refl}
use Rattle.std.proofs.Common.{arith}
use Rattle.base.specs.Choice.{pick, if_eq}
use Rattle.base.specs.ChoiceLaws.{lt_yes, lt_no, eq_yes, eq_no}
use Rattle.base.specs.Field.{Field}
use Rattle.mdf.specs.Block.{link_at, data_at}
use Rattle.plan.specs.Photos.{photo_count}
use Rattle.work_words.specs.CopyWords.{placed_at}
use Rattle.file.specs.Form.{equal_length}
use Rattle.arranging.specs.Sized.{blocks_in, cg_bytes}
use Rattle.arranging.specs.SizedLaws.{cg_least}
use Rattle.thinning.specs.Column.{is_set, master_place, next_place, column_by}

-- ---- words
pub set-is : (w : ℕ) → not (eqb w 0) ≡ is_set w
unfolding is_set if_eq
set-is w = go (eqb w 0)
  where
    go : (b : Bool) → not b ≡ pick b false true
    go true = refl
    go false = refl

module _ (memo : List ℕ) (n : ℕ) where
  pub master_no : (w : ℕ) → w ≡ 0 → 0 ≡ master_place memo n w
  unfolding master_place
  master_no w e = eq_yes _ _ _ _ e refl

  pub master_past : (w : ℕ) → (w ≡ 0 → ⊥) → n ≤ w - 1 → 0 ≡ master_place memo n w
  unfolding master_place
  master_past w e h = eq_no _ _ _ _ e (lt_no _ _ _ _ h refl)

  pub master_yes : (w : ℕ) → (w ≡ 0 → ⊥) → w - 1 < n → get_or memo (placed_at + 3 * (w - 1)) 0 + 64 ≡ master_place memo n w
  unfolding master_place
  master_yes w e h = eq_no _ _ _ _ e (lt_yes _ _ _ _ h refl)

  pub next_no : (k : ℕ) → n ≤ k + 1 → 0 ≡ next_place memo n k
  unfolding next_place
  next_no k h = lt_no _ _ _ _ h refl

  pub next_yes : (k : ℕ) → k + 1 < n → get_or memo (placed_at + 3 * (k + 1)) 0 ≡ next_place memo n k
  unfolding next_place
  next_yes k h = lt_yes _ _ _ _ h refl

-- ---- a column's numbers
pub cn_near : (d w : ℕ) {x : ℕ} → x ≡ cg_bytes w → d + 64 + x ≤ d + 176
cn_near d w e = omega (arith, cg_least w e)

module _ (s columns memo : List ℕ) (n k : ℕ) where
  pub column-made : {remote : Bool} {master x sd dl blocks photos payload : ℕ} → remote ≡ is_set (get_or columns (8 * k + 5) 0)
      → master ≡ master_place memo n (get_or columns (8 * k + 5) 0) → x ≡ cg_bytes (get_or columns (8 * k + 5) 0)
      → sd ≡ if_eq (get_or columns (8 * k + 6) 0) 0 0 (get_or memo (placed_at + 3 * k + 2) 0) → dl ≡ link_at s (get_or columns (8 * k + 2) 0) 2
      → blocks ≡ blocks_in s (get_or columns (8 * k + 2) 0) → photos ≡ photo_count s (get_or columns (8 * k) 0) → Field 8 s (data_at s dl + 8) payload
      → record {
        channel = get_or columns (8 * k) 0;
        group = get_or columns (8 * k + 1) 0;
        parent = get_or columns (8 * k + 2) 0;
        remote = remote;
        master = master;
        dg = get_or memo (placed_at + 3 * k) 0;
        cn = get_or memo (placed_at + 3 * k) 0 + 64 + x;
        first = get_or memo (placed_at + 3 * k + 1) 0;
        sd = sd;
        blocks = blocks;
        photos = photos;
        payload = payload;
      }
      ≡ column_by s columns memo n k
  unfolding column_by equal_length cg_bytes blocks_in
  column-made a b c d e f g h = rw (a, b, c, d, f, g, h.is, e)
