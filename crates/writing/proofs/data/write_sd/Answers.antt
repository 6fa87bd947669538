-- The gap, then the block; its size is that of the joined data.
use Rattle.puts.specs.PutLaws.{lent_is}
use Rattle.writing.specs.DataLaws.{sd_room, sd_wrote}
use Rattle.std.proofs.Common.{arith, rules}
use Rattle.writing.proofs.data.write_sd.Goals as goal

pub overflow_add-result : goal.overflow_add-result
overflow_add-result c = let r = sd_room
    c.args.image.now
    c.args.fragments.now
    c.args.sd _
    c.args.out.now
    c.requires.1
    c.joined_size-size.ensures (omega arith) (omega arith) in
    omega arith

pub overflow_add-result-2 : goal.overflow_add-result-2
overflow_add-result-2 c = let r = sd_room
    c.args.image.now
    c.args.fragments.now
    c.args.sd _
    c.args.out.now
    c.requires.1
    c.joined_size-size.ensures (omega arith) (omega arith) in
    omega arith

pub returns : goal.returns
returns c =
    sd_wrote _ _ _ _ _
    c.requires.1
    c.joined_size-size.ensures (omega arith) (omega arith) _
    c.requires.0
    c.gap.ensures
    (lent_is _ _ _ _ c.write_signal.ensures)
