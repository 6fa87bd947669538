-- Every fragment's range, by a second pass over a data chain that the walk has passed.
use Rattle.std.specs.Prelude.{ℕ, zero, suc, ◌+◌, ◌*◌, ◌-◌, List, [], ◌∷◌}
use Rattle.base.specs.Choice.{if_eq}
use Rattle.base.specs.Field.{le_at}
use Rattle.base.specs.Checked.{Checked, ok, refused, and_then, Verdict, fine}
use Rattle.mdf.specs.Block.{links_at, first_link}
use Rattle.mdf.specs.Chain.{records}
use Rattle.mdf.specs.Records.{ranges_in}
use Rattle.std.specs.Prelude.{Result, Ok, Err}
use Rattle.fields.specs.declared.refusal.Refusal.{Refusal}
use Rattle.fields.specs.Answer.{refused_by}
use Rattle.chains.specs.Node.{Standing, data_block, data_list, list-header, node_at}
use Rattle.ranges.specs.declared.range.Passed.{Passed}
use Rattle.ranges.specs.declared.range.Passed.TheVariants.{Over, On}

-- the range of a data block; nothing is asked of what is none
abbrev pub block_range : List ℕ → Checked Standing → Verdict
block_range s (refused number place) = fine
block_range s (ok (data_block f)) = ranges_in s (f ∷ [])
block_range s (ok data_list) = fine
block_range s (ok list-header) = fine

-- what a link of a DL leads to
unfoldable pub entry_range : List ℕ → ℕ → Verdict
entry_range s x = if_eq x 0 fine (block_range s (node_at records s x))

-- the links that stand at p, so many of them
unfoldable pub list_ranges : List ℕ → ℕ → ℕ → Verdict
list_ranges s zero p = fine
list_ranges s (suc links) p = and_then (entry_range s (le_at 8 s p)) (λ _. list_ranges s links (p + 8))

unfoldable pub ranges_from : List ℕ → ℕ → ℕ → ℕ → Verdict
ranges_from s a links i = list_ranges s (links - i) (a + 24 + 8 * i)

-- a block of the chain: the pass is over, or it goes on at the first link
pub data Pass : Type 0 where
  over : Verdict → Pass
  on : Pass

abbrev pub on_list : Verdict → Pass
on_list (ok u) = on
on_list (refused number place) = over (refused number place)

abbrev pub on_node : List ℕ → Checked Standing → Verdict → Pass
on_node s (refused number place) v = over fine
on_node s (ok (data_block f)) v = over (ranges_in s (f ∷ []))
on_node s (ok data_list) v = on_list v
on_node s (ok list-header) v = on

unfoldable pub pass_at : List ℕ → ℕ → Pass
pass_at s a = on_node s (node_at records s a) (ranges_from s a (links_at s a) 1)

abbrev pub on_pass : Pass → Verdict → Verdict
on_pass (over v) w = v
on_pass on w = w

unfoldable pub chain_ranges : List ℕ → ℕ → ℕ → Verdict
chain_ranges s zero a = fine
chain_ranges s (suc turns) a = let rest = chain_ranges s turns (first_link s a) in if_eq a 0 fine (on_pass (pass_at s a) rest)

-- the code's answer
abbrev pub pass_of : Result Passed Refusal → Pass
pass_of (Ok Over) = over fine
pass_of (Ok On) = on
pass_of (Err e) = over (refused_by e)
