-- The kind is DV where the word is not 0.
use Rattle.records.specs.FragmentLaws.{dv_word}
use Rattle.records.proofs.fragment.is_dv.Goals as goal

pub returns : goal.returns
returns c = dv_word _ c.word_at.ensures
