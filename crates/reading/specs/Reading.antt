-- The whole of reading: "identification (4, 5, 6, 7); HD; DG by DG (..); counts DG by DG" (document 01, Order).
use Rattle.std.specs.Prelude.{ℕ, List, length, replicate}
use Rattle.base.specs.Choice.{if_lt}
use Rattle.base.specs.Blit.{blit}
use Rattle.base.specs.Checked.{Checked, ok, refused, and_then}
use Rattle.mdf.specs.Identification.{identified}
use Rattle.mdf.specs.Walk.{Source, level_cg, tally, walk}
use Rattle.mdf.specs.Group.{data_groups}
use Rattle.mdf.specs.Count.{counts}
use Rattle.work_words.specs.Words.{source_words, counts_at, laid_items, fragment_words}
use Rattle.std.specs.Prelude.{Result, Ok, Err}
use Rattle.fields.specs.declared.refusal.Refusal.{Refusal}
use Rattle.reading.specs.declared.answer.Read.{Read}
use Rattle.reading.specs.Steps.{refused_as}
use Rattle.reading.specs.Walked.{Kept}

-- a recording: what was met in it, and the number of records of each of its groups
pub record Recording : Type 0 where
  pub source : Source
  pub counts : List ℕ

-- "The first fault met ends the whole walk."
unfoldable pub reading : List ℕ → Checked Recording
reading s =
    and_then (identified s) (λ _.
    and_then (walk s) (λ st.
    and_then (counts s (data_groups st)) (λ ns.
    ok (record { source = st; counts = ns }))))

-- what is kept of it: blocks, groups and fragments, laid over the words w and f
abbrev pub kept_by : Recording → List ℕ → List ℕ → Kept
kept_by r w f = record {
  items = length r.source.items;
  groups = tally level_cg.own r.source.items;
  fragments = length r.source.fragments;
  words = blit counts_at r.counts (laid_items r.source.items w);
  frags = blit 0 (fragment_words r.source.fragments) f;
}

unfoldable pub read_over : List ℕ → List ℕ → List ℕ → Checked Kept
read_over s w f = and_then (reading s) (λ r. ok (kept_by r w f))

-- as many words, all zero
abbrev pub zeros : List ℕ → List ℕ
zeros w = replicate (length w) 0

-- the answer, and the words of blocks and of fragments at the end
pub data Left : Type 0 where
  ended : Checked Read → List ℕ → List ℕ → Left

-- the code's answer
abbrev pub read_of : Result Read Refusal → Checked Read
read_of (Ok r) = ok r
read_of (Err e) = refused_as e

abbrev pub left : Result Read Refusal → List ℕ → List ℕ → Left
left r w f = ended (read_of r) w f

-- "Work slices are zero after every return except refusal 1"; where reading succeeds they hold the recording
abbrev pub left_by : Checked Kept → List ℕ → List ℕ → Left
left_by (refused number place) w f = ended (refused number place) (zeros w) (zeros f)
left_by (ok k) w f = ended (ok (record { items = k.items; groups = k.groups; fragments = k.fragments })) k.words k.frags

-- three words for each of 1,024 fragments
abbrev pub fragment_room : ℕ
fragment_room = 3072

-- "1, 0: a work slice too short": it "changes nothing"
unfoldable pub read_into : List ℕ → List ℕ → List ℕ → Left
read_into s w f =
    if_lt (length w) source_words (ended (refused 1 0) w f)
    (if_lt (length f) fragment_room (ended (refused 1 0) w f)
    (left_by (read_over s w f) w f))
