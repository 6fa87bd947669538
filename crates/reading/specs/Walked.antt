-- What the walk leaves: how many blocks, groups and fragments there are, and the words that hold them.
use Rattle.std.specs.Prelude.{ℕ, List, [], length}
use Rattle.base.specs.Blit.{blit}
use Rattle.base.specs.Checked.{Checked, ok, and_then}
use Rattle.mdf.specs.Chain.{Limits}
use Rattle.mdf.specs.Walk.{Source, source, level_dg, level_cg, tally, level, turns, below_dg, walk_of}
use Rattle.work_words.specs.Words.{fragment_words, laid_items}
use Rattle.std.specs.Prelude.{Result, Ok, Err}
use Rattle.fields.specs.declared.refusal.Refusal.{Refusal}
use Rattle.reading.specs.declared.answer.Read.{Read}
use Rattle.reading.specs.Steps.{refused_as}

pub record Kept : Type 0 where
  pub items : ℕ
  pub groups : ℕ
  pub fragments : ℕ
  pub words : List ℕ
  pub frags : List ℕ

-- what the code's answer and words say; after a refusal the words are free
abbrev pub given : Result Read Refusal → List ℕ → List ℕ → Checked Kept
given (Ok r) w f = ok (record { items = r.items; groups = r.groups; fragments = r.fragments; words = w; frags = f })
given (Err e) w f = refused_as e

-- what was met, laid over words
abbrev pub kept_of : Source → List ℕ → List ℕ → Kept
kept_of st w f = record {
  items = length st.items;
  groups = tally level_cg.own st.items;
  fragments = length st.fragments;
  words = laid_items st.items w;
  frags = blit 0 (fragment_words st.fragments) f;
}

unfoldable pub walked_from : Limits → List ℕ → ℕ → List ℕ → List ℕ → Checked Kept
walked_from l s a w f = and_then (level level_dg (below_dg l s) turns s a (source [] [])) (λ st. ok (kept_of st w f))

unfoldable pub walked : Limits → List ℕ → List ℕ → List ℕ → Checked Kept
walked l s w f = and_then (walk_of l s) (λ st. ok (kept_of st w f))
