-- Bookkeeping: parts of a list, and a list laid over another, as a store past a slice's end is lost.
use Rattle.std.specs.Prelude.{ℕ, suc, List, [], ◌∷◌, take, drop, set}

-- n elements of l from index i on, as many of them as there are
unfoldable pub part : {A : Type 0} → ℕ → ℕ → List A → List A
part i n l = take n (drop i l)

-- bs laid over l from index i on; what would lie past l's end is lost
unfoldable pub blit : ℕ → List ℕ → List ℕ → List ℕ
blit i [] l = l
blit i (b ∷ bs) l = blit (suc i) bs (set l i b)
