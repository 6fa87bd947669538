-- The end by its data bytes, or nothing is placed.
use Rattle.arranging.specs.SizedLaws.{signal_none, signal_some}
use native.Mathlib.Omega.{arith}
use borrow.Author.Rules.{rules}
use Rattle.arranging.proofs.sizes.signal_end.Goals as goal

pub returns-then-word-eq0 : goal.returns-then-word-eq0
returns-then-word-eq0 c = signal_none _ _ _ _ c.requires.1 c.word.ensures (omega arith)

pub overflow_add-bytes : goal.overflow_add-bytes
overflow_add-bytes c = omega (arith, c.cut-bytes.ensures.near)

pub overflow_add-d : goal.overflow_add-d
overflow_add-d c = omega (arith, c.cut-bytes.ensures.near)

pub returns : goal.returns
returns c = signal_some _ _ _ _ c.requires.1 c.word.ensures (λ e. omega arith) c.word-2.ensures c.link_at.ensures c.bytes_at.ensures c.cut-bytes.ensures (c.aligned.ensures (omega (arith, c.cut-bytes.ensures.near)))
