-- Each test that fails is one of the facts.
use mathlib.Core.Bool.{false≢true}
use mathlib.Core.Path.{sym}
use native.Mathlib.Omega.{arith}
use Rattle.copier.proofs.memo.is_ready.Goals as goal

pub returns-then-memo-lt8192 : goal.returns-then-memo-lt8192
returns-then-memo-lt8192 c = record { yes = λ e. absurd (false≢true e); no = λ e h. omega (arith, h.words) }

pub returns-then-most-gt2050 : goal.returns-then-most-gt2050
returns-then-most-gt2050 c = record { yes = λ e. absurd (false≢true e); no = λ e h. omega (arith, h.limit) }

pub returns-then-state-gt2050 : goal.returns-then-state-gt2050
returns-then-state-gt2050 c = record { yes = λ e. absurd (false≢true e); no = λ e h. omega (arith, h.few) }

pub returns-then-state-gt576460752303423488 : goal.returns-then-state-gt576460752303423488
returns-then-state-gt576460752303423488 c = record { yes = λ e. absurd (false≢true e); no = λ e h. omega (arith, h.near) }

pub returns : goal.returns
returns c = record {
  yes = λ e. record { words = omega arith; limit = omega arith; few = omega arith; near = omega arith };
  no = λ e. absurd (false≢true (sym e));
}
