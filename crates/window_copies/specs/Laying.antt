-- Copies of the words laid over a window, one after the other: what is left of them, and which leave the window as it is.
use Rattle.std.specs.Prelude.{ℕ, ◌-◌, ◌*◌, List, [], ◌∷◌, ◌≡◌, length}
use Prim.{Unit}
use Rattle.mdf.specs.Block.{size_at}
use Rattle.plan.specs.Copies.{Copy}
use Rattle.copier.specs.Standing.{copies_from}
use Rattle.result.specs.Fill.{copied_blocks}
use Rattle.copies_laws.specs.AnswerLaws.{Whole}
use Rattle.stores.specs.Over.{over}
use Rattle.windows.specs.Windowed.{over_all}

-- each of the copies is made of a whole block
unfoldable pub Wholes : List ℕ → List Copy → Type 0
Wholes s [] = Unit
Wholes s (c ∷ cs) = Whole s c.from × Wholes s cs

-- a block as long as the one at b, at index at of the file, has no byte in the window of n bytes from a on
pub record Apart (s : List ℕ) (a n b at : ℕ) : Type 0 where
  pub kept : (bs w : List ℕ) → length bs ≡ size_at s b → length w ≡ n → over a at bs w ≡ w

-- the copies number i up to to, laid over w, give g
pub record Laying (s words chain : List ℕ) (m : List Copy) (fh a to : ℕ) (g : List ℕ) (i : ℕ) (w : List ℕ) : Type 0 where
  pub wholes : Wholes s (copies_from words (2 * i) (to - i))
  pub rest : over_all a (copied_blocks s chain m fh (copies_from words (2 * i) (to - i))) w ≡ g

-- the copies in front of number i leave every window of n bytes from a on as it is
pub record Passed (s words : List ℕ) (a n to from i : ℕ) : Type 0 where
  pub passed : (chain : List ℕ) (m : List Copy) (fh : ℕ) (g w : List ℕ) → length w ≡ n → Laying s words chain m fh a to g from w
      → Laying s words chain m fh a to g i w
