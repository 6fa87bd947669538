-- Without columns nothing is written; else the zeros before them, then these.
use Rattle.thinning.specs.StructureLaws.{no_structure, wrote_structure}
use borrow.Author.Rules.{rules}
use Rattle.thinning.proofs.structure.write_structure.Goals as goal

pub returns-then-file-eq0 : goal.returns-then-file-eq0
returns-then-file-eq0 c = no_structure c.requires.0 c.if-file-eq0.true _

pub returns : goal.returns
returns c = wrote_structure
    c.requires.0
    c.if-file-eq0.false
    c.gap.ensures c.put_structure.ensures
