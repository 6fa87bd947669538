-- The tests of every column, in the order of the code.
use Rattle.std.specs.Prelude.{ℕ, zero, suc, ◌+◌, List, ◌≡◌, Some, None, Result, Ok, Err, ⊤}
use Rattle.std.specs.Prelude as std
use Rattle.std.proofs.Math.Option.{none, some}
use Rattle.std.proofs.Math.Path.{refl}
use Rattle.std.proofs.Common.{sym, ◌∙◌}
use Rattle.base.specs.ChoiceLaws.{eq_yes, eq_no}
use Rattle.base.specs.Checked.{ok, refused, and_then, Verdict, fine}
use Rattle.mdf.specs.Block.{kind_sd, kind_at, link_at, header_in, length_in}
use Rattle.mdf.specs.Records.{most64}
use Rattle.plan.specs.Channel.{channel_type}
use Rattle.plan.specs.Columns.{remote_link}
use Rattle.fields.specs.declared.refusal.Refusal.{Refusal}
use Rattle.fields.specs.Answer.{verdict_of, refused_by}
use Rattle.blocks.specs.AnswerLaws.{so_fine, so_refused}
use Rattle.file.specs.Form.{FileColumn}
use Rattle.ranges.specs.Open.{column_at, columns_of}
use Rattle.sheet.specs.Sheet.{master_of}
use Rattle.sheets.specs.Line.{found_as}
use Rattle.thin.specs.Kept.{signal_place, is_signal, signal_sound, master_sound, columns_sound}
use Rattle.taking.specs.Each.{each}
use Rattle.taking.specs.Sound.{sound_at}

-- ---- signal data
module _ (s : List ℕ) (c : ℕ) {t : ℕ} (e : t ≡ channel_type s c) where
  pub place_one : {a : ℕ} → t ≡ 1 → a ≡ link_at s c 5 → a ≡ signal_place s c
  unfolding signal_place
  place_one h q = eq_yes _ _ _ _ (sym e ∙ h) q

  pub place_other : (t ≡ 1 → ⊥) → 0 ≡ signal_place s c
  unfolding signal_place
  place_other h = eq_no _ _ _ _ (λ x. h (e ∙ x)) refl

module _ (s : List ℕ) (a : ℕ) {h : Result ⊤ Refusal} (e : verdict_of h ≡ header_in s a) where
  pub signal_header : {x : Refusal} → h ≡ Err x → refused_by x ≡ is_signal s a
  unfolding is_signal
  signal_header q = rw (so_refused e q)

  module _ {u : ⊤} (f : h ≡ Ok u) {l : Result ⊤ Refusal} (g : verdict_of l ≡ length_in most64 s a) where
    pub signal_length : {x : Refusal} → l ≡ Err x → refused_by x ≡ is_signal s a
    unfolding is_signal
    signal_length q = rw (so_fine e f, so_refused g q)

    module _ {w : ⊤} (i : l ≡ Ok w) {k : ℕ} (j : k ≡ kind_at s a) where
      pub signal_sd : k ≡ kind_sd → fine ≡ is_signal s a
      unfolding is_signal
      signal_sd q = rw (so_fine e f, so_fine g i) (eq_yes _ _ _ _ (sym j ∙ q) refl)

      pub signal_other : (k ≡ kind_sd → ⊥) → refused 24 0 ≡ is_signal s a
      unfolding is_signal
      signal_other q = rw (so_fine e f, so_fine g i) (eq_no _ _ _ _ (λ x. q (j ∙ x)) refl)

module _ (s : List ℕ) (c : ℕ) {a : ℕ} (e : a ≡ signal_place s c) where
  pub sound_none : a ≡ 0 → fine ≡ signal_sound s c
  unfolding signal_sound
  sound_none z = eq_yes _ _ _ _ (sym e ∙ z) refl

  pub sound-led : {v : Verdict} → (a ≡ 0 → ⊥) → v ≡ is_signal s a → v ≡ signal_sound s c
  unfolding signal_sound
  sound-led z q = eq_no _ _ _ _ (λ x. z (e ∙ x)) (q ∙ rw e)

-- ---- the master
module _ (s : List ℕ) (all : List FileColumn) (g : ℕ) {l : ℕ} (e : l ≡ remote_link s g) where
  pub master_free : l ≡ 0 → fine ≡ master_sound s all g
  unfolding master_sound
  master_free z = eq_yes _ _ _ _ (sym e ∙ z) refl

  module _ (z : l ≡ 0 → ⊥) {r : std.Option ℕ} (f : found_as r ≡ master_of s all g) where
    pub master_lost : r ≡ None → refused 24 0 ≡ master_sound s all g
    unfolding master_sound
    master_lost q = let o : none ≡ master_of s all g = rw q at f in eq_no _ _ _ _ (λ x. z (e ∙ x)) (rw (← o))

    pub master_known : {k : ℕ} → r ≡ Some k → fine ≡ master_sound s all g
    unfolding master_sound
    master_known {k} q = let o : some k ≡ master_of s all g = rw q at f in eq_no _ _ _ _ (λ x. z (e ∙ x)) (rw (← o))

-- ---- a column, and all
module _ (s w : List ℕ) (all : List FileColumn) (k : ℕ) {c : ℕ} (i : c ≡ (column_at s w k).cn) {h : Result ⊤ Refusal} (e : verdict_of h ≡ signal_sound s c) where
  pub column_refused : {x : Refusal} → h ≡ Err x → refused_by x ≡ sound_at s w all k
  unfolding sound_at
  column_refused q = rw (← i, so_refused e q)

  pub column_master : {v : Verdict} {g : ℕ} {u : ⊤} → h ≡ Ok u → g ≡ (column_at s w k).cg → v ≡ master_sound s all g → v ≡ sound_at s w all k
  unfolding sound_at
  column_master q j f = rw (← i, so_fine e q, ← j) f

pub sound-each : (s w : List ℕ) (all : List FileColumn) (n k : ℕ) → each (sound_at s w all) n k ≡ columns_sound s all (columns_of s w n k)
unfolding each sound_at columns_sound columns_of
sound-each s w all zero k = refl
sound-each s w all (suc n) k = rw (sound-each s w all n (k + 1)) (go (signal_sound s (column_at s w k).cn) (master_sound s all (column_at s w k).cg))
  where
    more : Verdict
    more = columns_sound s all (columns_of s w n (k + 1))

    go : (v x : Verdict) → and_then (and_then v (λ _. x)) (λ _. more) ≡ and_then v (λ _. and_then x (λ _. more))
    go (ok u) x = refl
    go (refused y p) x = refl
