-- What a call leaves as it was, and what lies between blocks.
use Rattle.std.specs.Prelude.{ℕ, zero, suc, ◌+◌, ◌-◌, ◌≤◌, ◌<◌, List, [], ◌∷◌, ◌++◌, ◌≡◌, refl, ◌⊎◌, length, get_or, replicate}
use Rattle.std.proofs.Common.{◌∙◌, ap, inl, inr, arith, length-append, get_or-append-add}
use Rattle.std.proofs.lemmas.List.{length-replicate}
use Rattle.base.specs.Blit.{part}
use Rattle.base.specs.BlitLaws.{part-blit-after}
use Rattle.base.specs.Checked.{ok, refused}
use Rattle.plan.specs.Columns.{omission_words}
use Rattle.result.specs.Fill.{Block}
use Rattle.result.specs.Ordered.{Ordered}
use Rattle.result.specs.Result.{Args, Decided, outcome, flat}
use Rattle.result.specs.Guarantee.{In, here, there}

-- "A refusal changes neither output nor list"
pub refusal_keeps : (x : Args) (out list : List ℕ) (work : List (List ℕ)) (number place : ℕ)
    → ((outcome x out list work (refused number place)).output ≡ out) × ((outcome x out list work (refused number place)).list ≡ list)
refusal_keeps x out list work number place = (refl, refl)

-- "On acceptance .. list words past its end, keep their value."
pub list_keeps : (x : Args) (out list : List ℕ) (work : List (List ℕ)) (d : Decided) (j n : ℕ)
    → length (omission_words d.planned.omissions) ≤ j → part j n (outcome x out list work (ok d)).list ≡ part j n list
list_keeps x out list work d j n h = part-blit-after (omission_words d.planned.omissions) 0 j n list (omega arith)

-- ---- "Gaps are zero."

-- byte i is in no block
abbrev pub Outside : ℕ → List Block → Type 0
Outside i bs = (b : Block) → In b bs → (i < b.at) ⊎ (b.at + length b.bytes ≤ i)

zeros-at : (n i : ℕ) → ◌≡◌ {A = ℕ} (get_or (replicate n 0) i 0) 0
zeros-at zero i = refl
zeros-at (suc n) zero = refl
zeros-at (suc n) (suc i) = zeros-at n i

append-front : (xs ys : List ℕ) (i : ℕ) → i < length xs → get_or (xs ++ ys) i 0 ≡ get_or xs i 0
append-front [] ys i h = absurd (omega arith)
append-front (x ∷ xs) ys zero h = refl
append-front (x ∷ xs) ys (suc i) h = append-front xs ys i (omega arith)

append_back : (xs ys : List ℕ) (i : ℕ) → length xs ≤ i → get_or (xs ++ ys) i 0 ≡ get_or ys (i - length xs) 0
append_back xs ys i h =
    let e : i ≡ length xs + (i - length xs) = omega arith in
    ap (λ (k : ℕ). get_or (xs ++ ys) k 0) e ∙ get_or-append-add xs ys (i - length xs) 0

-- between blocks that stand in order, and past the last up to the end, every byte is 0
pub gap_zero : (bs : List Block) (a e i : ℕ) → Ordered a bs e → a ≤ i → Outside i bs → get_or (flat a bs e) (i - a) 0 ≡ 0
unfolding flat Ordered
gap_zero [] a e i o h out = zeros-at (e - a) (i - a)
gap_zero (b ∷ bs) a e i o h out = go (λ l. gap_zero bs (b.at + length b.bytes) e i o.1 l (λ c j. out c (there j))) (out b here)
  where
    go : (b.at + length b.bytes ≤ i → get_or (flat (b.at + length b.bytes) bs e) (i - (b.at + length b.bytes)) 0 ≡ 0)
        → (i < b.at) ⊎ (b.at + length b.bytes ≤ i)
        → get_or (replicate (b.at - a) 0 ++ b.bytes ++ flat (b.at + length b.bytes) bs e) (i - a) 0 ≡ 0
    go later (inl l) =
        let n : i - a < length (replicate (b.at - a) 0 ++ b.bytes) = rw (length-append, length-replicate) (omega (arith, o.0)) in
        let z : List ℕ = replicate (b.at - a) 0 in
        let m : i - a < length z = rw length-replicate (omega (arith, o.0)) in
        append-front (z ++ b.bytes) (flat (b.at + length b.bytes) bs e) (i - a) n ∙ append-front z b.bytes (i - a) m ∙ zeros-at (b.at - a) (i - a)
    go later (inr l) =
        let k : length (replicate (b.at - a) 0 ++ b.bytes) ≡ b.at - a + length b.bytes = length-append (replicate (b.at - a) 0) b.bytes ∙ rw length-replicate in
        let n : length (replicate (b.at - a) 0 ++ b.bytes) ≤ i - a = omega (arith, k, o.0) in
        let q : i - a - length (replicate (b.at - a) 0 ++ b.bytes) ≡ i - (b.at + length b.bytes) = omega (arith, k, o.0) in
        append_back (replicate (b.at - a) 0 ++ b.bytes) (flat (b.at + length b.bytes) bs e) (i - a) n
        ∙ ap (λ (j : ℕ). get_or (flat (b.at + length b.bytes) bs e) j 0) q
        ∙ later l
