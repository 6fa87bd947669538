-- Each of the four.
use Rattle.std.proofs.Common.{refl}
use Rattle.placing.specs.DecisionLaws.{cleared}
use Rattle.placing.proofs.decide.clear_all.Goals as goal

pub returns : goal.returns
returns c = let a = c.args in cleared a.source.now a.fragments.now a.columns.now a.copies.now a.source.now a.fragments.now a.columns.now a.copies.now _ _ _ _ refl refl refl refl
    c.clear.ensures c.clear-2.ensures c.clear-3.ensures c.clear-4.ensures
