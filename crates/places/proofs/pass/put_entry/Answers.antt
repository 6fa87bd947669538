-- Six words are laid at once.
use Rattle.places.specs.PassLaws.{laid_words}
use native.Mathlib.Omega.{arith}
use Rattle.places.proofs.pass.put_entry.Goals as goal

pub returns : goal.returns
returns c = rw c.copy_from_slice.ensures.after (laid_words _ _ _ _ (omega arith) c.requires)
