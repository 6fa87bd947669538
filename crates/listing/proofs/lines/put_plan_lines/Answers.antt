-- Columns, then omissions.
use borrow.Author.Rules.{rules}
use Rattle.listing.specs.LinesLaws.{plan_put}
use Rattle.listing.proofs.lines.put_plan_lines.Goals as goal

pub returns : goal.returns
returns c = plan_put _ _ _ _ _ _
    c.requires.1
    c.requires.2
    c.put_columns-p.ensures c.put_omissions.ensures
