use mathlib.Core.Path.{sym}
use Rattle.window_file.specs.WindowLaws.{all_before}
use native.Mathlib.Omega.{arith}
use Rattle.window_file.proofs.lay_history.Goals as goal

pub returns-then-m-a : goal.returns-then-m-a
returns-then-m-a c q r t v o = sym (all_before _ 168 _ _ _ o c.if-m-a.true)

pub returns : goal.returns
returns c q r t v o = c.lay_copies.ensures (omega arith) q r t v
