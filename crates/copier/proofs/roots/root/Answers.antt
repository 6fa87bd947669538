-- Each number leads to its link.
use mathlib.Core.Path.{sym}
use native.Mathlib.Omega.{arith}
use lib.ListN.{get_or-eq_default}
use Rattle.copier.specs.Roots.{roots, roots_nine}
use Rattle.copier.proofs.roots.root.Goals as goal

pub returns-in-0 : goal.returns-in-0
unfolding roots
returns-in-0 c = rw c.in-0.is c.link_at.ensures

pub returns-in-1 : goal.returns-in-1
unfolding roots
returns-in-1 c = rw c.in-1.is c.link_at-in-1.ensures

pub returns-in-2 : goal.returns-in-2
unfolding roots
returns-in-2 c = rw c.in-2.is c.link_at-in-2.ensures

pub returns-in-3 : goal.returns-in-3
unfolding roots
returns-in-3 c = rw c.in-3.is c.link_at-in-3.ensures

pub returns-in-4 : goal.returns-in-4
unfolding roots
returns-in-4 c = rw c.in-4.is c.link_at-in-4.ensures

pub returns-in-5 : goal.returns-in-5
unfolding roots
returns-in-5 c = rw c.in-5.is c.link_at-in-5.ensures

pub returns-in-6 : goal.returns-in-6
unfolding roots
returns-in-6 c = rw c.in-6.is c.link_at-in-6.ensures

pub returns-in-7 : goal.returns-in-7
unfolding roots
returns-in-7 c = rw c.in-7.is c.link_at-in-7.ensures

pub returns-in-8 : goal.returns-in-8
unfolding roots
returns-in-8 c = rw c.in-8.is c.link_at-in-8.ensures

pub returns-in_default : goal.returns-in_default
returns-in_default c =
    let a = c.args in
    sym (get_or-eq_default (roots a.image.now a.dg a.cg a.cn) 0 (rw (roots_nine a.image.now a.dg a.cg a.cn) (omega arith)))
