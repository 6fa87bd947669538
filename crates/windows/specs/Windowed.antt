-- Bookkeeping: blocks of a file laid over a window of it.
use Rattle.std.specs.Prelude.{ℕ, List, [], ◌∷◌}
use Rattle.result.specs.Fill.{Block}
use Rattle.stores.specs.Over.{over}

-- the blocks bs, one after the other, laid over the window w, which begins at a
unfoldable pub over_all : ℕ → List Block → List ℕ → List ℕ
over_all a [] w = w
over_all a (b ∷ bs) w = over_all a bs (over a b.at b.bytes w)
