-- No words are lent for fragments, so none are kept.
use mathlib.Core.Path.{refl}
use mathlib.Core.List.{[]}
use Rattle.mdf.specs.Chain.{file_limits}
use Rattle.reading.specs.WalkedLaws.{without-pieces}
use Rattle.reading.proofs.recording.walk_file.Goals as goal

pub returns : goal.returns
returns c =
    without-pieces file_limits _ _ c.walk.new.source [] c.walk.new.fragments c.walk.result c.walk.ensures refl c.walk.auto.fragments
