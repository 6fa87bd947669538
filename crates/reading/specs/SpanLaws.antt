-- The marks up to the next DG's, one by one; and what they say of the items.
use Rattle.std.specs.Prelude.{ℕ, zero, suc, ◌+◌, ◌-◌, ◌≤◌, ◌<◌, List, ◌∷◌, ◌≡◌, refl, length, get_or}
use Rattle.std.proofs.Math.Path.{sym}
use Rattle.std.proofs.Common.{◌∙◌, add-zero, add-one, sub-one, drop-cons}
use native.Mathlib.Omega.{arith}
use Rattle.base.specs.ChoiceLaws.{lt_yes, lt_no}
use Rattle.base.specs.Blit.{part}
use Rattle.work_words.specs.Words.{marks_at, source_words}
use Rattle.reading.specs.declared.answer.Span.{Span}
use Rattle.reading.specs.Spans.{own_marks, own_groups, marks_from, span_at}

pub part_cons : (w : List ℕ) (i n : ℕ) → i < length w → 0 < n → part i n w ≡ get_or w i 0 ∷ part (i + 1) (n - 1) w
unfolding part
part_cons w i zero h p = absurd (omega arith)
part_cons w i (suc n) h p = rw (drop-cons w i 0 h, add-one, sub-one)

-- j marks were passed, with g CG among them: what is left gives the rest
pub record Spanning (w : List ℕ) (i n j g : ℕ) : Type 0 where
  pub within : j ≤ n
  pub room : n ≤ 1536
  pub long : source_words ≤ length w
  pub few : g ≤ j
  pub next : j + own_marks (marks_from w j n) ≡ i + own_marks (marks_from w i n)
  pub groups : g + own_groups (marks_from w j n) ≡ own_groups (marks_from w i n)

same : {a b c d : ℕ} → a ≡ b → c ≡ d → ◌≡◌ {A = Span} (record { next = a; groups = c }) (record { next = b; groups = d })
same p q = rw (p, q)

-- one mark more
module _ (m : ℕ) (ms : List ℕ) where
  past-dg : 1 < m → own_marks (m ∷ ms) ≡ 0
  unfolding own_marks
  past-dg h = sym (lt_yes _ _ _ _ h refl)

  past-dg_groups : 1 < m → own_groups (m ∷ ms) ≡ 0
  unfolding own_groups
  past-dg_groups h = sym (lt_yes _ _ _ _ h refl)

  own-mark : m ≤ 1 → own_marks (m ∷ ms) ≡ 1 + own_marks ms
  unfolding own_marks
  own-mark h = sym (lt_no _ _ _ _ h refl)

  own-group : m ≤ 1 → own_groups (m ∷ ms) ≡ m + own_groups ms
  unfolding own_groups
  own-group h = sym (lt_no _ _ _ _ h refl)

module _ {w : List ℕ} {i n j g : ℕ} (t : Spanning w i n j g) where
  opened : j < n → marks_from w j n ≡ get_or w (marks_at + j) 0 ∷ marks_from w (j + 1) n
  opened l =
      let e : n - (j + 1) ≡ n - j - 1 = omega arith in
      let f : marks_at + (j + 1) ≡ marks_at + j + 1 = omega arith in
      let h = t.room in
      let k = t.long in
      part_cons w (marks_at + j) (n - j) (omega arith) (omega arith) ∙ rw (e, f)

  pub span_end : n ≤ j → record { next = j; groups = g } ≡ span_at w i n
  unfolding part own_marks own_groups
  span_end l =
      let h = t.within in
      let e : n - j ≡ 0 = omega arith in
      let a = rw e at t.next in
      let b = rw e at t.groups in
      same (sym (add-zero j) ∙ a) (sym (add-zero g) ∙ b)

  pub span_stop : j < n → 1 < get_or w (marks_at + j) 0 → record { next = j; groups = g } ≡ span_at w i n
  span_stop l m =
      let a = rw (opened l, past-dg _ _ m, add-zero) at t.next in
      let b = rw (opened l, past-dg_groups _ _ m, add-zero) at t.groups in
      same a b

  pub span_on : j < n → get_or w (marks_at + j) 0 ≤ 1 → Spanning w i n (j + 1) (g + get_or w (marks_at + j) 0)
  span_on l m =
      let a = rw (opened l, own-mark _ _ m) at t.next in
      let b = rw (opened l, own-group _ _ m) at t.groups in
      let h = t.few in
      record { within = omega arith; room = t.room; long = t.long; few = omega arith; next = omega arith; groups = omega arith }
