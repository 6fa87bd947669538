-- Each field is a word.
use Rattle.writing.specs.Data.{entry_in}
use Rattle.std.proofs.Common.{rules}
use Rattle.writing.proofs.data.entry_at.Goals as goal

pub returns : goal.returns
unfolding entry_in
returns c = search rules
