-- The words so far are stored; past the end there is nothing to store.
use Rattle.std.proofs.Common.{arith, sym}
use Rattle.puts.specs.PutLaws.{blit-past}
use Rattle.planning.specs.WordLaws.{put_none, put_next, put_all}
use Rattle.planning.proofs.words.put_words.Goals as goal

pub loop-k-init : goal.loop-k-init
loop-k-init c = put_none c.args.i c.args.words.now c.args.w.now

pub loop-k-preserved : goal.loop-k-preserved
loop-k-preserved c = put_next c.args.i c.loop-k.k c.args.words.now c.args.w.now c.loop-k.invariant (omega arith) c.put.ensures

pub returns-then-room-i : goal.returns-then-room-i
returns-then-room-i c = sym (blit-past _ _ _ (omega arith))

pub returns : goal.returns
returns c = put_all c.args.i c.loop-k.k c.args.words.now c.args.w.now c.loop-k.invariant (omega arith)
