-- Blocks in order that end before a window or begin past it leave it as it was.
use Rattle.std.specs.Prelude.{ℕ, ◌+◌, ◌≤◌, List, [], ◌∷◌, ◌++◌, ◌≡◌, refl, length}
use Rattle.std.proofs.Common.{ap, ◌∙◌, arith}
use Rattle.result.specs.Fill.{Block}
use Rattle.result.specs.Ordered.{Ordered}
use Rattle.copies_laws.specs.OrderLaws.{ordered-ends}
use Rattle.stores.specs.OverLaws.{over_before}
use Rattle.windows.specs.Windowed.{over_all}
use Rattle.windows.specs.WindowedLaws.{over-past}

-- all end by a
pub before_same : (a i : ℕ) (bs : List Block) (v : List ℕ) → Ordered i bs a → over_all a bs v ≡ v
unfolding Ordered over_all
before_same a i [] v o = refl
before_same a i (b ∷ bs) v o =
    ap (over_all a bs) (over_before a b.at b.bytes v (ordered-ends _ a bs o.1)) ∙ before_same a (b.at + length b.bytes) bs v o.1

-- all begin at i or past it, past the window
pub past_same : (a i e : ℕ) (bs : List Block) (v : List ℕ) → Ordered i bs e → a + length v ≤ i → over_all a bs v ≡ v
unfolding Ordered over_all
past_same a i e [] v o h = refl
past_same a i e (b ∷ bs) v o h =
    let g : a + length v ≤ b.at = omega (arith, o.0) in
    ap (over_all a bs) (over-past a b.at b.bytes v g) ∙ past_same a (b.at + length b.bytes) e bs v o.1 (omega (arith, g))

-- the block y begins past the window: so do those after it
pub after_same : (a i e : ℕ) (y : Block) (ys : List Block) (v : List ℕ) → Ordered i (y ∷ ys) e → a + length v ≤ y.at → over_all a (y ∷ ys) v ≡ v
unfolding Ordered
after_same a i e y ys v o h = past_same a y.at e (y ∷ ys) v (omega arith, o.1) h

-- the block y begins by a: those before it end by a
pub until_ordered : (i : ℕ) (xs : List Block) (y : Block) (ys : List Block) (e a : ℕ) → Ordered i (xs ++ (y ∷ ys)) e → y.at ≤ a → Ordered i xs a
unfolding Ordered
until_ordered i [] y ys e a o h = omega (arith, o.0)
until_ordered i (x ∷ xs) y ys e a o h = (o.0, until_ordered (x.at + length x.bytes) xs y ys e a o.1 h)

pub from_zero : (i : ℕ) (bs : List Block) (e : ℕ) → Ordered i bs e → Ordered 0 bs e
unfolding Ordered
from_zero i [] e o = omega arith
from_zero i (b ∷ bs) e o = (omega arith, o.1)

-- those from the first of ys on
pub back_ordered : (i : ℕ) (xs ys : List Block) (e : ℕ) → Ordered i (xs ++ ys) e → Ordered 0 ys e
unfolding Ordered
back_ordered i [] ys e o = from_zero i ys e o
back_ordered i (x ∷ xs) ys e o = back_ordered (x.at + length x.bytes) xs ys e o.1
