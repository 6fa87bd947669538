-- The tests show that the words are there; else none is put.
use Rattle.data_blocks.specs.ListedLaws.{listed-none, listed_fewer}
use native.Mathlib.Omega.{arith}
use Rattle.data_blocks.proofs.listed.by_offsets.Goals as goal

pub returns-then-all-count : goal.returns-then-all-count
returns-then-all-count c = let a = c.args in (omega arith, c.requires.3, listed-none _ _ a.f a.words.now a.first a.count a.a a.out.now)

pub listed-requires : goal.listed-requires
listed-requires c = let p = c.requires in (p.0, p.1, p.2, omega (arith, c.min-n.ensures), omega arith, omega (arith, c.min-n.ensures))

pub returns : goal.returns
returns c = let a = c.args in let r = c.listed.ensures in (r.0, omega (arith, r.1, c.min-n.ensures), listed_fewer _ _ a.f a.words.now a.first a.count a.a _ c.min-n.result (omega (arith, c.min-n.ensures)) r.2)
