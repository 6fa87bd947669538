-- At most twenty digits, made apart and copied.
use Rattle.result.specs.Listing.{decimal}
use Rattle.texts.specs.LaidLaws.{laid-copied}
use borrow.Author.Rules.{rules}
use Rattle.texts.proofs.put_decimal.Goals as goal

pub returns : goal.returns
unfolding decimal
returns c = laid-copied c.put_digits-count.ensures (search rules) c.copy.ensures
