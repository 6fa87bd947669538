-- Two texts are compared by kind, by length, then byte by byte.
use Rattle.sharing.specs.TextLaws.{texts_apart, texts_none, texts_by, bodies_apart, bodies-none, bodies-by}
use native.Mathlib.Omega.{arith}
use Rattle.sharing.proofs.text.text_same.Goals as goal

pub returns-then-text_kind-kind : goal.returns-then-text_kind-kind
returns-then-text_kind-kind c = texts_apart _ _ _ c.text_kind-kind.ensures c.text_kind.ensures (omega arith)

pub returns-then-kind-eq0 : goal.returns-then-kind-eq0
returns-then-kind-eq0 c = texts_none _ _ _ c.text_kind-kind.ensures c.text_kind.ensures (omega arith) (omega arith)

pub returns-then-text_bytes-n : goal.returns-then-text_bytes-n
returns-then-text_bytes-n c = texts_by _ _ _ c.text_kind-kind.ensures c.text_kind.ensures (omega arith) (omega arith)
    (bodies_apart c.text_bytes-n.ensures c.text_bytes.ensures (omega arith))

pub returns-then-n-eq0 : goal.returns-then-n-eq0
returns-then-n-eq0 c = texts_by _ _ _ c.text_kind-kind.ensures c.text_kind.ensures (omega arith) (omega arith)
    (bodies-none c.text_bytes-n.ensures c.text_bytes.ensures (omega arith) (omega arith))

pub overflow_add-a : goal.overflow_add-a
overflow_add-a c = omega (arith, c.text_bytes-n.ensures.inside (omega arith))

pub overflow_add-b : goal.overflow_add-b
overflow_add-b c = omega (arith, c.text_bytes.ensures.inside (omega arith))

pub bytes_same-requires : goal.bytes_same-requires
bytes_same-requires c = (omega (arith, c.text_bytes-n.ensures.inside (omega arith)), omega (arith, c.text_bytes.ensures.inside (omega arith)))

pub returns : goal.returns
returns c = texts_by _ _ _ c.text_kind-kind.ensures c.text_kind.ensures (omega arith) (omega arith)
    (bodies-by c.text_bytes-n.ensures c.text_bytes.ensures (omega arith) c.bytes_same.ensures)
