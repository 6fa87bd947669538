-- The checks in order, then the records; where the checks refuse, the words of the groups are zero.
use Rattle.records.specs.SeveralLaws.{several_passed, several_refused, several_read}
use Rattle.blocks.specs.AnswerLaws.{so_fine, so_refused}
use native.Mathlib.Omega.{arith}
use Rattle.records.proofs.several.count_several.Goals as goal

pub returns-in-Err : goal.returns-in-Err
returns-in-Err c = several_refused _ _ _ _ _ (so_refused c.several_in.ensures c.in-Err.is) c.clear.ensures

pub count_frames-requires : goal.count_frames-requires
count_frames-requires c =
    let h = several_passed c.args.image.now c.args.d c.args.groups.now _ (so_fine c.several_in.ensures c.in_default.is) in
    let e = c.id_size.ensures.is in
    let i = h.id in
    (omega arith, h.ranges, h.size, h.apart)

pub returns : goal.returns
returns c =
    several_read _ _ _ _ _ _ (so_fine c.several_in.ensures c.in_default.is) c.id_size.ensures.is c.count_frames.ensures
