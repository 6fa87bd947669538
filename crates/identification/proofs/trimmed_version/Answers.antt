-- What is read is the version without zeros at its end and white space at both ends.
use Rattle.identification.specs.IdentificationLaws.{trimmed-ends}
use Rattle.identification.proofs.trimmed_version.Goals as goal

pub returns : goal.returns
returns c = rw (c.cut_front.ensures, c.cut_end-text.ensures, c.cut_end.ensures, trimmed-ends) at c.version_of.ensures
