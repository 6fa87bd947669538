-- The sizes of a file's kept columns.
use Rattle.std.specs.Prelude.{List}
use Rattle.plan.specs.Layout.{Sizes}
use Rattle.arranging.specs.declared.kept.Kept.{Kept}
use Rattle.arranging.specs.Sized.{sizes_in}

abbrev pub sizes_of : Kept → List Sizes
sizes_of f = sizes_in f.image.now f.columns.now 0 f.count
