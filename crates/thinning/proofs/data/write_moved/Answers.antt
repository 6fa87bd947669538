-- Without blocks nothing is written; else the zeros before them, then these.
use native.Mathlib.Omega.{arith}
use Rattle.thinning.specs.DataLaws.{none-moved, listed-room, past-listed, wrote_listed}
use borrow.Author.Rules.{rules}
use Rattle.thinning.proofs.data.write_moved.Goals as goal

pub returns-then-links-lt2 : goal.returns-then-links-lt2
returns-then-links-lt2 c = none-moved _ _ _ _ _ _ (omega arith)

pub slice_bounds-put_moved-count : goal.slice_bounds-put_moved-count
slice_bounds-put_moved-count c = let r = listed-room _ _ c.requires (omega arith) in omega arith

pub slice_bounds-put_moved-start : goal.slice_bounds-put_moved-start
slice_bounds-put_moved-start c = let r = listed-room _ _ c.requires (omega arith) in omega arith

pub overflow_add-result : goal.overflow_add-result
overflow_add-result c =
    let r = listed-room _ _ c.requires (omega arith) in
    let e = past-listed _ _ c.requires (omega arith)
    c.gap.new.out c.put_moved-n.ensures (omega arith) in
    omega arith

pub returns : goal.returns
returns c = wrote_listed _ _ c.requires (omega arith) _
    c.put_moved-n.ensures (omega arith) _ c.gap.ensures
