-- The words of columns give their time column.
use Rattle.std.specs.Prelude.{ℕ, zero, suc, ◌+◌, ◌*◌, ◌≤◌, ◌<◌, List, [], ◌∷◌, Bool, true, false, ◌≡◌, refl, length, get_or, set, eqb}
use Rattle.std.proofs.Math.Option.{Option, some}
use Rattle.std.proofs.Common.{◌∙◌, add-zero, length-set, get_or-set_same, get_or-set_other}
use native.Mathlib.Omega.{arith}
use Rattle.std.proofs.Math.Seq.{get_or-append-add}
use Rattle.base.specs.Choice.{pick}
use Rattle.base.specs.Blit.{blit}
use Rattle.base.specs.BlitLaws.{length-blit}
use Rattle.plan.specs.Channel.{both}
use Rattle.plan.specs.Columns.{Column, Plan, size_of_signal, time_column}
use Rattle.work_words.specs.PlanWords.{time_word, master_word, column_words, columns_words, omission_pairs, laid_plan}
use Rattle.planning.specs.Planning.{Base, Held}
use Rattle.planning.specs.Stage.{Stand}
use Rattle.planning.specs.TimeIn.{is_time_in, time_in}
use Rattle.planning.specs.HeldLaws.{length-columns}

-- ---- words before and among those laid
pub blit_before : (bs : List ℕ) (j i : ℕ) (l : List ℕ) → i < j → get_or (blit j bs l) i 0 ≡ get_or l i 0
unfolding blit
blit_before [] j i l h = refl
blit_before (b ∷ bs) j i l h = blit_before bs (suc j) i (set l j b) (omega arith) ∙ get_or-set_other l j i b 0 (λ e. omega arith)

pub blit_among : (bs : List ℕ) (j k : ℕ) (l : List ℕ) → k < length bs → j + k < length l → get_or (blit j bs l) (j + k) 0 ≡ get_or bs k 0
unfolding blit
blit_among [] j k l h r = absurd (omega arith)
blit_among (b ∷ bs) j zero l h r =
    rw (add-zero) (blit_before bs (suc j) j (set l j b) (omega arith) ∙ get_or-set_same l j b 0 (omega arith))
blit_among (b ∷ bs) j (suc k) l h r =
    let e : j + suc k ≡ suc j + k = omega arith in
    rw e (blit_among bs (suc j) k (set l j b) (omega arith) (rw length-set (omega arith)))

-- ---- columns that stand in words from number k on
module _ (w : List ℕ) (n k : ℕ) (c : Column) (cs : List Column) (h : Stand w n k (c ∷ cs)) where
  stand_time : get_or w (8 * k + 4) 0 ≡ time_word c.is_time_lem
  unfolding columns_words column_words
  stand_time = h.at 4 (omega arith)

  stand-group : get_or w (8 * k + 1) 0 ≡ c.group.at
  unfolding columns_words column_words
  stand-group = h.at 1 (omega arith)

  pub stand-rest : Stand w (n + size_of_signal c.signal_of) (k + 1) cs
  unfolding columns_words column_words
  stand-rest = record {
    at = λ j l.
        let e : 8 * (k + 1) + j ≡ 8 * k + (8 + j) = omega arith in
        rw e (h.at (8 + j) (omega arith) ∙ get_or-append-add (column_words n c) (columns_words (n + size_of_signal c.signal_of) cs) j 0);
  }

time_bit : (b : Bool) → eqb (time_word b) 1 ≡ b
time_bit true = refl
time_bit false = refl

pub time_words_lem : (w : List ℕ) (g n k : ℕ) (cs : List Column) → Stand w n k cs → time_in w g k (length cs) ≡ master_word (time_column g k cs)
unfolding time_in time_column is_time_in
time_words_lem w g n k [] h = refl
time_words_lem w g n k (c ∷ cs) h =
    rw (
      stand_time w n k c cs h,
      stand-group w n k c cs h,
      time_bit c.is_time_lem,
      time_words_lem w g (n + size_of_signal c.signal_of) (k + 1) cs (stand-rest w n k c cs h),
    )
    (go (both c.is_time_lem (eqb c.group.at g)) (time_column g (k + 1) cs))
  where
    go : (t : Bool) (o : Option ℕ) → pick t (k + 1) (master_word o) ≡ master_word (pick t (some k) o)
    go true o = refl
    go false o = refl

length-laid : (n : ℕ) (p : Plan) (w : List ℕ) → length (laid_plan n p w) ≡ length w
unfolding laid_plan
length-laid n p w = rw (length-blit, length-blit)

pub laid-stand : (n : ℕ) (p : Plan) (w : List ℕ) → length p.columns ≤ 512 → 4096 ≤ length w → Stand (laid_plan n p w) n 0 p.columns
unfolding laid_plan
laid-stand n p w h l = record {
  at = λ j r.
      let e : length (columns_words n p.columns) ≡ 8 * length p.columns = length-columns n p.columns in
      blit_before (omission_pairs p.omissions) 4096 (0 + j) (blit 0 (columns_words n p.columns) w) (omega arith)
      ∙ blit_among (columns_words n p.columns) 0 j w (omega arith) (omega arith);
}

pub held-stand : {b : Base} {p : Plan} {nc no nf : ℕ} {w f : List ℕ} → Held b p nc no nf w f → 4096 ≤ length w → Stand w b.found 0 p.columns
held-stand {b} {p} h l =
    let r = h.room in
    let c = h.columns in
    rw h.in_columns (laid-stand b.found p b.words (omega arith) (rw (h.in_columns, length-laid b.found p b.words) at l))

pub held_time : {b : Base} {p : Plan} {nc no nf : ℕ} {w f : List ℕ} → Held b p nc no nf w f → 4096 ≤ length w → (g : ℕ)
    → time_in w g 0 nc ≡ master_word (time_column g 0 p.columns)
held_time {b} {p} {nc} {w = w} h l g = let c = h.columns in rw (← c) (time_words_lem w g b.found 0 p.columns (held-stand h l))
