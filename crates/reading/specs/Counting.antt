-- The counts of groups, over the words that hold a source.
use Rattle.std.specs.Prelude.{ℕ, ◌+◌, ◌*◌, ◌-◌, ◌≤◌, ◌<◌, List, ◌≡◌, length, get_or}
use Rattle.base.specs.Choice.{if_lt}
use Rattle.base.specs.Blit.{part, blit}
use Rattle.base.specs.Checked.{Checked, ok, and_then}
use Rattle.std.specs.Prelude.{Result, ⊤}
use Rattle.fields.specs.declared.refusal.Refusal.{Refusal}
use Rattle.mdf.specs.Walk.{Source, level_cg, tally, most_items}
use Rattle.mdf.specs.Group.{data_groups}
use Rattle.mdf.specs.Count.{count_groups, counts}
use Rattle.work_words.specs.Words.{marks_at, groups_at, counts_at, source_words, fragments_of}
use Rattle.reading.specs.Steps.{after}
use Rattle.reading.specs.Holding.{Holding}

-- the number of fragments before the DG at block i, or all where there is none
unfoldable pub end_at : List ℕ → ℕ → ℕ → ℕ → ℕ
end_at w i n all = if_lt i n (get_or w (marks_at + i) 0 - 2) all

-- the DG at block i, with its groups from g on and its fragments up to end
pub record Ready (w f : List ℕ) (i g groups end : ℕ) (c : List ℕ) : Type 0 where
  pub long : source_words ≤ length w
  pub room : 3 * end ≤ length f
  pub block : i < 1536
  pub is_dg : 2 ≤ get_or w (marks_at + i) 0
  pub rises : get_or w (marks_at + i) 0 ≤ end + 2
  pub groups_room : g + groups ≤ most_items
  pub counts-room : most_items ≤ length c

unfoldable pub counted_dg : List ℕ → List ℕ → List ℕ → ℕ → ℕ → ℕ → ℕ → List ℕ → Checked (List ℕ)
counted_dg s w f i g groups end c =
    let from = get_or w (marks_at + i) 0 - 2 in
    and_then (count_groups s (get_or w i 0) (part (groups_at + g) groups w) (fragments_of (part (3 * from) (3 * (end - from)) f)))
    (λ ns. ok (blit g ns c))

-- "counts DG by DG"
unfoldable pub counted_all : List ℕ → Source → List ℕ → Checked (List ℕ)
counted_all s st c = and_then (counts s (data_groups st)) (λ ns. ok (blit 0 ns c))

-- what counting left in the words c', of whatever source the words w and f hold
pub record Counted (s w f : List ℕ) (n nf : ℕ) (c : List ℕ) (r : Result ⊤ Refusal) (c' : List ℕ) : Type 0 where
  pub of : (h : Holding w f n nf) → after r c' ≡ counted_all s h.st c

-- the same of the words of the source, where the counts stand past the groups
pub record CountedIn (s w f : List ℕ) (n groups nf : ℕ) (r : Result ⊤ Refusal) (w' : List ℕ) : Type 0 where
  pub of : (h : Holding w f n nf) → groups ≡ tally level_cg.own h.st.items
      → after r w' ≡ and_then (counts s (data_groups h.st)) (λ ns. ok (blit counts_at ns w))
