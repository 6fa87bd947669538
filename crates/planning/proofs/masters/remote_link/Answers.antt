-- The tests are those of the definition.
use Rattle.planning.specs.TimeLaws.{remote-clear, remote-set, remote-short}
use Rattle.planning.proofs.masters.remote_link.Goals.{else-group_flags-eq1-via-then-group_flags-eq1+else-links_at-gt6, else-group_flags-eq1-via-else-group_flags-eq1}
use Rattle.planning.proofs.masters.remote_link.Goals as goal

pub returns-then-links_at-gt6 : goal.returns-then-links_at-gt6
returns-then-links_at-gt6 c = remote-set _ _ c.group_flags.ensures.is c.if-group_flags-eq1.true
    c.links_at.ensures c.if-links_at-gt6.true c.link_at.ensures

pub returns : goal.returns
returns c =
    elim c.else-group_flags-eq1.branch [
      | else-group_flags-eq1-via-then-group_flags-eq1+else-links_at-gt6 w ↦ remote-short _ _ c.group_flags.ensures.is w.if-group_flags-eq1.true w.links_at.ensures w.if-links_at-gt6.false
      | else-group_flags-eq1-via-else-group_flags-eq1 w ↦ remote-clear _ _ c.group_flags.ensures.is w.if-group_flags-eq1.false
    ]
