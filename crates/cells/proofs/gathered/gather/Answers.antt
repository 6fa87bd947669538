-- Each turn puts the cell of the record that the next word tells, as long as it lies whole past the position.
use mathlib.Core.Path.{refl}
use Rattle.cells.specs.GatheredLaws.{gathering_begin, gathering_room, gathering_turn, gathering_stop, gathering_end}
use native.Mathlib.Omega.{arith}
use Rattle.cells.proofs.gathered.gather.Goals as goal

pub loop-i-init : goal.loop-i-init
loop-i-init c = let a = c.args in (gathering_begin a.v a.to a.out.now, refl)

pub overflow_add-o : goal.overflow_add-o
overflow_add-o c = omega (arith, c.requires.1.words)

pub bounds-words-v : goal.bounds-words-v
bounds-words-v c = omega (arith, c.requires.1.words)

pub returns-then-o-v : goal.returns-then-o-v
returns-then-o-v c = gathering_stop c.loop-i.invariant.0 c.requires.1 (λ e. omega arith)

pub returns-then-v-q : goal.returns-then-v-q
returns-then-v-q c = gathering_stop c.loop-i.invariant.0 c.requires.1 (λ e. omega arith)

pub overflow_add-v : goal.overflow_add-v
overflow_add-v c = omega (arith, c.requires.1.inside)

pub cell_here-requires : goal.cell_here-requires
cell_here-requires c =
    let p = c.requires in
    let r = gathering_room c.loop-i.invariant.0 (omega arith) p.2 in
    (p.0, omega (arith, p.1.inside), omega arith, p.3, p.4)

pub overflow_add-index : goal.overflow_add-index
overflow_add-index c = let r = gathering_room c.loop-i.invariant.0 (omega arith) c.requires.2 in omega (arith, c.loop-i.invariant.1)

pub loop-i-preserved : goal.loop-i-preserved
loop-i-preserved c =
    let p = c.requires in
    let v = c.loop-i.invariant in
    (gathering_turn v.0 p.1 _ (omega arith) (omega arith) (omega arith) c.cell_here.auto.out c.cell_here.ensures refl (rw v.1), v.1)

pub returns : goal.returns
returns c = gathering_end c.loop-i.invariant.0 c.requires.1 (omega arith)
