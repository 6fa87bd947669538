-- The words of the signal data, if there are.
use Rattle.base.specs.Blit.{part}
use Rattle.writing.specs.Data.{signal_words}
use Rattle.writing.specs.DataLaws.{signal_none, signal_room, signal_wrote}
use Rattle.std.proofs.Common.{arith, rules}
use Rattle.writing.proofs.data.write_signal_of.Goals as goal

pub returns-then-e-eq0 : goal.returns-then-e-eq0
returns-then-e-eq0 c = signal_none _ _ _ c.if-e-eq0.true _ _

pub overflow_mul-a : goal.overflow_mul-a
overflow_mul-a c = let h = c.requires.0 c.if-e-eq0.false in omega arith

pub overflow_mul-b : goal.overflow_mul-b
overflow_mul-b c = let h = c.requires.0 c.if-e-eq0.false in omega arith

pub overflow_add-b : goal.overflow_add-b
overflow_add-b c = let h = c.requires.0 c.if-e-eq0.false in omega arith

pub offset_bounds-fragments-a : goal.offset_bounds-fragments-a
offset_bounds-fragments-a c = let h = c.requires.0
    c.if-e-eq0.false in omega arith

pub slice_bounds-write_sd-end : goal.slice_bounds-write_sd-end
slice_bounds-write_sd-end c = let h = c.requires.0
    c.if-e-eq0.false in omega arith

pub write_sd-requires : goal.write_sd-requires
unfolding signal_words part
write_sd-requires c = signal_room _ _ _ c.if-e-eq0.false _ _
    c.requires.1

pub returns : goal.returns
unfolding signal_words part
returns c = signal_wrote _ _ _ c.if-e-eq0.false
    c.write_sd.ensures
