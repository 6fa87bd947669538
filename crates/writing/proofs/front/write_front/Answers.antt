-- The identification, then the HD right after it.
use Rattle.std.proofs.Common.{refl, rules}
use Rattle.writing.specs.FrontLaws.{wrote_front}
use Rattle.writing.proofs.front.write_front.Goals as goal

pub returns : goal.returns
returns c = record {
  past = refl;
  wrote = wrote_front _ _ _ _ _ _ c.requires.0 _ _
      _
      c.copy.ensures c.put_hd.ensures;
}
