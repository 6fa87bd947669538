use Rattle.window_file.specs.WindowLaws.{new_laid}
use Rattle.window_file.proofs.lay_new.Goals as goal

pub returns : goal.returns
returns c = new_laid _ _ _ _ _ _ c.lay_md.ensures c.lay_fh.ensures
