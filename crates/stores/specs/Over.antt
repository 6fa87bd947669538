-- Bookkeeping: bytes of a file laid over a window of it.
use Rattle.std.specs.Prelude.{ℕ, ◌-◌, List, drop}
use Rattle.base.specs.Blit.{blit}

-- bs, which stand at index at of the file, laid over the window w, which begins at a: what lies before w is left out, what lies past it is lost
unfoldable pub over : ℕ → ℕ → List ℕ → List ℕ → List ℕ
over a at bs w = blit (at - a) (drop (a - at) bs) w
