-- From the turns of the walk to what it leaves.
use Rattle.std.specs.Prelude.{ℕ, ◌≤◌, ◌≡◌, refl, length}
use mathlib.Core.List.{List, [], ◌∷◌}
use Rattle.std.proofs.Common.{◌∙◌, arith}
use Rattle.base.specs.Blit.{blit}
use Rattle.base.specs.Checked.{Checked, ok, refused}
use Rattle.std.specs.Prelude.{Result, Ok, Err, ⊤}
use Rattle.fields.specs.declared.refusal.Refusal.{Refusal}
use Rattle.fields.specs.Answer.{verdict_of}
use Rattle.mdf.specs.Block.{HD, link_at, block_at}
use Rattle.mdf.specs.Chain.{Limits}
use Rattle.mdf.specs.Walk.{source, level_dg, tally, level, turns, below_dg, walk_of}
use Rattle.work_words.specs.Words.{address_words, mark_words, group_words, fragment_words, laid_items, source_words}
use Rattle.reading.specs.declared.answer.Read.{Read}
use Rattle.reading.specs.Held.{state, Held, Within, Gives, Stops}
use Rattle.reading.specs.Steps.{refused_as}
use Rattle.reading.specs.Walked.{Kept, given, walked_from, walked}

-- nothing was met
pub held_none : (w f : List ℕ) → Held w f (source [] []) (state w f 0 0 0 0 0)
unfolding laid_items address_words mark_words group_words fragment_words tally blit
held_none w f = record { laid = refl; kept = refl; blocks = refl; dgs = refl; cgs = refl; cns = refl; pieces = refl }

pub within_none : (w f : List ℕ) → source_words ≤ length w → Within (state w f 0 0 0 0 0)
within_none w f h = record { long = h; sum = refl; dg-room = omega arith; cg-room = omega arith; cn-room = omega arith; nf_room = omega arith }

module _ (l : Limits) (s : List ℕ) (a : ℕ) (w f : List ℕ) where
  pub walk-gives : {w' f' : List ℕ} {n ndg ncg ncn nf : ℕ} → Gives (level level_dg (below_dg l s) turns s a) (state w f 0 0 0 0 0) (state w' f' n ndg ncg ncn nf)
      → ok (record { items = n; groups = ncg; fragments = nf; words = w'; frags = f' }) ≡ walked_from l s a w f
  unfolding walked_from
  walk-gives g =
      let b = g.to w f (source [] []) (held_none w f) in
      let h = b.held in
      rw (b.is, h.laid, h.kept, h.blocks, h.cgs, h.pieces)

  pub walk_stops : {y p : ℕ} → Stops (level level_dg (below_dg l s) turns s a) (state w f 0 0 0 0 0) y p → refused y p ≡ walked_from l s a w f
  unfolding walked_from
  walk_stops g = rw (g.at w f (source [] []) (held_none w f))

-- ---- HD in front
module _ (l : Limits) (s w f : List ℕ) {o : Result ⊤ Refusal} (e : verdict_of o ≡ block_at HD s 64) where
  pub head_refused : {y : Refusal} → o ≡ Err y → refused_as y ≡ walked l s w f
  unfolding walked walk_of
  head_refused q = rw (← e, q)

  pub head-fine : {a : ℕ} {k : Checked Kept} → {u : ⊤} → o ≡ Ok u → a ≡ link_at s 64 0 → k ≡ walked_from l s a w f → k ≡ walked l s w f
  unfolding walked walk_of walked_from
  head-fine q h g = g ∙ rw (← e, q, h)

-- ---- no words for fragments: none are kept
no_words : (f : List ℕ) → length f ≡ 0 → f ≡ []
no_words [] h = refl
no_words (x ∷ f) h = absurd (omega arith)

pub without-pieces : (l : Limits) (s w w' f f' : List ℕ) (r : Result Read Refusal) → given r w' f' ≡ walked l s w f → length f ≡ 0 → length f' ≡ 0
    → given r w' [] ≡ walked l s w []
without-pieces l s w w' f f' r e h h' = rw (no_words f h, no_words f' h') at e
