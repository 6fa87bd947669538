-- A list without the elements at its end that pass a test.
use Rattle.std.specs.Prelude.{ℕ, Bool, List, reverse}
use Rattle.mdf.specs.Identification.{drop_while}

unfoldable pub trim_end : (ℕ → Bool) → List ℕ → List ℕ
trim_end test v = reverse (drop_while test (reverse v))
