-- Each test is one of the definition.
use native.Mathlib.Omega.{arith}
use Rattle.choices.specs.TableLaws.{sized-none, sized-zero, sized-over, sized_whole}
use Rattle.choices.proofs.is_sized.Goals as goal

pub returns-then-size-eq0 : goal.returns-then-size-eq0
returns-then-size-eq0 c = sized-none _ (omega arith)

pub returns-then-n-eq0 : goal.returns-then-n-eq0
returns-then-n-eq0 c = sized-zero _ (λ e. omega arith) c.field_at-n.ensures (omega arith)

pub returns-then-n-gt7 : goal.returns-then-n-gt7
returns-then-n-gt7 c = sized-over _ (λ e. omega arith) c.field_at-n.ensures (omega arith)

pub returns : goal.returns
returns c = sized_whole _ (λ e. omega arith) c.field_at-n.ensures (λ e. omega arith) (omega arith)
