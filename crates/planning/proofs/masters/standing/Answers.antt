-- The master itself, or that of the group at its word.
use Rattle.planning.specs.TimeLaws.{timed, stand-own, stand_lost, stand-bare, stand-other}
use Rattle.planning.proofs.masters.standing.Goals as goal

pub returns-then-by-eq0 : goal.returns-then-by-eq0
returns-then-by-eq0 c = record { is = λ cs. timed (stand-own _ _ _ _ _ _ _ _ cs c.stand_of-by.ensures c.if-by-eq0.true) }

pub returns-in_default : goal.returns-in_default
returns-in_default c =
    record { is = λ cs. timed (stand_lost _ _ _ _ _ _ _ _ cs c.stand_of-by.ensures c.if-by-eq0.false c.find_group.ensures c.in_default.is) }

pub returns-in-None : goal.returns-in-None
returns-in-None c =
    record {
      is = λ cs. timed (stand-bare _ _ _ _ _ _ _ _ cs c.stand_of-by.ensures c.if-by-eq0.false c.find_group.ensures c.in-Some.is _
          c.master_of.ensures c.in-None.is);
    }

pub returns-in-Some-master_of : goal.returns-in-Some-master_of
returns-in-Some-master_of c =
    record {
      is = λ cs. timed (stand-other _ _ _ _ _ _ _ _ cs c.stand_of-by.ensures c.if-by-eq0.false c.find_group.ensures c.in-Some.is _
          c.master_of.ensures c.in-Some-master_of.is);
    }
