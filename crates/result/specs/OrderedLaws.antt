-- Laws of blocks in the order of their addresses.
use Rattle.std.specs.Prelude.{length, ◌+◌, ℕ, ◌≤◌, List, [], ◌∷◌, ◌++◌}
use Rattle.std.proofs.Common.{arith}
use Rattle.result.specs.Fill.{Block}
use Rattle.result.specs.Ordered.{Ordered}

-- blocks from c on begin past any place before c
pub ordered-from : (a c e : ℕ) (bs : List Block) → a ≤ c → Ordered c bs e → Ordered a bs e
unfolding Ordered
ordered-from a c e [] h o = omega arith
ordered-from a c e (b ∷ bs) h o = let k : c ≤ b.at = o.0 in (omega arith, o.1)

-- blocks up to b, then blocks from b on
pub ordered-append : (a b e : ℕ) (xs ys : List Block) → Ordered a xs b → Ordered b ys e → Ordered a (xs ++ ys) e
unfolding Ordered
ordered-append a b e [] [] o p = omega arith
ordered-append a b e [] (y ∷ ys) o p = (omega (arith, p.0), p.1)
ordered-append a b e (x ∷ xs) ys o p = (o.0, ordered-append (x.at + length x.bytes) b e xs ys o.1 p)
