-- The three ways in which the bytes left and the image overlap.
use Rattle.records.specs.AheadLaws.{inside_none, inside_cut, inside_all}
use native.Mathlib.Omega.{arith}
use Rattle.records.proofs.framing.inside.Goals as goal

pub returns-then-n-position : goal.returns-then-n-position
returns-then-n-position c = inside_none c.args.position c.args.left c.args.image.now (omega arith)

pub returns-then-n-position-2 : goal.returns-then-n-position-2
returns-then-n-position-2 c =
    inside_cut c.args.position c.args.left c.args.image.now (omega
    arith)
    (omega arith)

pub returns : goal.returns
returns c =
    inside_all c.args.position c.args.left c.args.image.now (omega
    arith)
