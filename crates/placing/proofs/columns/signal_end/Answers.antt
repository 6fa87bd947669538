-- No SD without signal data; else its bytes, by the words.
use Rattle.placing.specs.InWordsLaws.{signal_none, signal_by, signal_some}
use native.Mathlib.Omega.{arith}
use Rattle.placing.proofs.columns.signal_end.Goals as goal

pub returns-then-first-eq0 : goal.returns-then-first-eq0
returns-then-first-eq0 c = signal_none _ _ _ _ c.word-first.ensures (omega arith)

pub overflow_add-bytes : goal.overflow_add-bytes
overflow_add-bytes c = let x = signal_by c.args.c.words.now
    c.args.c.fragments.now
    c.args.p
    c.word-first.ensures c.word.ensures c.signal_size-bytes.ensures
    (omega (arith, c.requires.2)) in
    omega (arith, x, c.requires.2)

pub overflow_add-d : goal.overflow_add-d
overflow_add-d c = let x = signal_by c.args.c.words.now
    c.args.c.fragments.now
    c.args.p
    c.word-first.ensures c.word.ensures c.signal_size-bytes.ensures
    (omega (arith, c.requires.2)) in
    omega (arith, x, c.requires.2)

pub returns : goal.returns
returns c =
    let x = signal_by c.args.c.words.now
    c.args.c.fragments.now
    c.args.p
    c.word-first.ensures c.word.ensures
    c.signal_size-bytes.ensures (omega (arith, c.requires.2))
    in
    signal_some _ _ _ _ c.word-first.ensures (λ e. omega arith)
    c.word.ensures c.signal_size-bytes.ensures
    c.requires.2
    (c.aligned.ensures (omega (
      arith,
      x,
      c.requires.1,
      c.requires.2,
    )))
