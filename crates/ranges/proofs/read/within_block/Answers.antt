-- The block that holds the first byte, and what is left of it.
use Rattle.ranges.specs.ReadLaws.{block_place, block_inside, block_split, block_at, too_many, not_many}
use native.Mathlib.Omega.{arith}
use Rattle.ranges.proofs.read.within_block.Goals as goal

pub overflow_sub-left : goal.overflow_sub-left
overflow_sub-left c = let b = block_place _ _ _ _ _ c.requires c.link_at-a.ensures c.links_of-links.ensures c.seek-spot.result c.seek-spot.ensures c.link_at-x.ensures c.bytes_at.ensures in omega arith

pub returns-then-left-w : goal.returns-then-left-w
returns-then-left-w c = block_split _ _ _ _ _ c.requires c.link_at-a.ensures c.links_of-links.ensures c.seek-spot.result c.seek-spot.ensures c.link_at-x.ensures c.bytes_at.ensures (too_many _ _ _ c.requires.some c.if-left-w.true)

pub overflow_add-result : goal.overflow_add-result
overflow_add-result c = let b = block_inside _ _ _ _ _ c.requires c.link_at-a.ensures c.links_of-links.ensures c.seek-spot.result c.seek-spot.ensures c.link_at-x.ensures c.bytes_at.ensures in omega arith

pub overflow_add-result-2 : goal.overflow_add-result-2
overflow_add-result-2 c = let a = block_place _ _ _ _ _ c.requires c.link_at-a.ensures c.links_of-links.ensures c.seek-spot.result c.seek-spot.ensures c.link_at-x.ensures c.bytes_at.ensures in let b = block_inside _ _ _ _ _ c.requires c.link_at-a.ensures c.links_of-links.ensures c.seek-spot.result c.seek-spot.ensures c.link_at-x.ensures c.bytes_at.ensures in omega arith

pub overflow_mul-result : goal.overflow_mul-result
overflow_mul-result c = let b = not_many _ _ _ c.requires.some c.if-left-w.false in omega (arith, c.bytes_at.type_inv)

pub returns : goal.returns
returns c = block_at _ _ _ _ _ c.requires c.link_at-a.ensures c.links_of-links.ensures c.seek-spot.result c.seek-spot.ensures c.link_at-x.ensures c.bytes_at.ensures (not_many _ _ _ c.requires.some c.if-left-w.false)
