-- Each return is a way through the definition's tests.
use Rattle.sharing.specs.TextLaws.{kind-none, kind-TX, kind-MD, kind-other}
use mathlib.Core.Path.{sym, ◌∙◌}
use native.Mathlib.Omega.{arith}
use Rattle.sharing.proofs.text.text_kind.Goals as goal

pub returns-then-a-eq0 : goal.returns-then-a-eq0
returns-then-a-eq0 c = kind-none _ _ (omega arith)

pub returns-in-1481909027 : goal.returns-in-1481909027
returns-in-1481909027 c = sym c.in-1481909027.is ∙ kind-TX _ _ (omega arith) c.kind_at.ensures c.in-1481909027.is

pub returns-in-1145905955 : goal.returns-in-1145905955
returns-in-1145905955 c = sym c.in-1145905955.is ∙ kind-MD _ _ (omega arith) c.kind_at.ensures (omega arith) c.in-1145905955.is

pub returns-in_default : goal.returns-in_default
returns-in_default c = kind-other _ _ (omega arith) c.kind_at.ensures (omega arith) (omega arith)
