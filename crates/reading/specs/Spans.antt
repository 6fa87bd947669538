-- The blocks of one DG among those met: up to the next DG. A DG's mark is above 1, a CG's is 1, a CN's 0.
use Rattle.std.specs.Prelude.{ℕ, ◌+◌, ◌-◌, List, [], ◌∷◌}
use Rattle.base.specs.Choice.{if_lt}
use Rattle.base.specs.Blit.{part}
use Rattle.work_words.specs.Words.{marks_at}
use Rattle.reading.specs.declared.answer.Span.{Span}

-- how many marks there are up to the next DG's
unfoldable pub own_marks : List ℕ → ℕ
own_marks [] = 0
own_marks (m ∷ ms) = if_lt 1 m 0 (1 + own_marks ms)

-- how many of them are of a CG
unfoldable pub own_groups : List ℕ → ℕ
own_groups [] = 0
own_groups (m ∷ ms) = if_lt 1 m 0 (m + own_groups ms)

abbrev pub marks_from : List ℕ → ℕ → ℕ → List ℕ
marks_from w i n = part (marks_at + i) (n - i) w

abbrev pub span_at : List ℕ → ℕ → ℕ → Span
span_at w i n = record { next = i + own_marks (marks_from w i n); groups = own_groups (marks_from w i n) }
