-- Columns and their places in words, read back one by one.
use Rattle.std.specs.Prelude.{ℕ, zero, suc, ◌+◌, ◌*◌, ◌≤◌, ◌<◌, List, [], ◌∷◌, ◌++◌, ◌≡◌, refl, length, get_or, set}
use Rattle.std.proofs.Common.{◌∙◌, add-zero, arith, length-set, length-append, get_or-set_same, get_or-set_other, get_or-append-add}
use Rattle.base.specs.Blit.{blit}
use Rattle.base.specs.BlitLaws.{length-blit}
use Rattle.plan.specs.Columns.{Column, size_of_signal}
use Rattle.plan.specs.Layout.{Placed, Layout}
use Rattle.work_words.specs.CopyWords.{placed_at, placed_words, laid_copies}
use Rattle.work_words.specs.PlanWords.{column_words, columns_words}
use Rattle.write_copies.specs.LaidWords.{Words, PlaceWords}

-- ---- words of lists laid over others
pub blit_before : (bs : List ℕ) (j i : ℕ) (l : List ℕ) → i < j → get_or (blit j bs l) i 0 ≡ get_or l i 0
unfolding blit
blit_before [] j i l h = refl
blit_before (b ∷ bs) j i l h = blit_before bs (suc j) i (set l j b) (omega arith) ∙ get_or-set_other l j i b 0 (λ e. omega arith)

pub blit_among : (bs : List ℕ) (j k : ℕ) (l : List ℕ) → k < length bs → j + k < length l → get_or (blit j bs l) (j + k) 0 ≡ get_or bs k 0
unfolding blit
blit_among [] j k l h r = absurd (omega arith)
blit_among (b ∷ bs) j zero l h r =
    rw add-zero (blit_before bs (suc j) j (set l j b) (omega arith) ∙ get_or-set_same l j b 0 (omega arith))
blit_among (b ∷ bs) j (suc k) l h r =
    let e : j + suc k ≡ suc j + k = omega arith in
    rw e (blit_among bs (suc j) k (set l j b) (omega arith) (rw length-set (omega arith)))

-- ---- words from an index on
pub words_back : (w : List ℕ) (i k : ℕ) (xs ys : List ℕ) → Words w i (xs ++ ys) → k ≡ i + length xs → Words w k ys
words_back w i k xs ys f e j h =
    let q : k + j ≡ i + (length xs + j) = omega arith in
    rw q (f (length xs + j) (rw length-append (omega arith)) ∙ get_or-append-add xs ys j 0)

-- ---- columns and their places, one after the other
pub length-columns : (n : ℕ) (cs : List Column) → length (columns_words n cs) ≡ 8 * length cs
unfolding columns_words column_words
length-columns n [] = refl
length-columns n (c ∷ cs) = let e = length-columns (n + size_of_signal c.signal_of) cs in omega (arith, e)

pub length_places : (ps : List Placed) → length (placed_words ps) ≡ 3 * length ps
unfolding placed_words
length_places [] = refl
length_places (p ∷ ps) = omega (arith, length_places ps)

pub columns-rest : (columns : List ℕ) (n k : ℕ) (c : Column) (cs : List Column) → Words columns (8 * k) (columns_words n (c ∷ cs))
    → Words columns (8 * (k + 1)) (columns_words (n + size_of_signal c.signal_of) cs)
unfolding columns_words column_words
columns-rest columns n k c cs f =
    words_back columns (8 * k) (8 * (k + 1)) (column_words n c) (columns_words (n + size_of_signal c.signal_of) cs) f (omega arith)

pub places_rest : (memo : List ℕ) (k : ℕ) (p : Placed) (ps : List Placed) → Words memo (placed_at + 3 * k) (placed_words (p ∷ ps))
    → Words memo (placed_at + 3 * (k + 1)) (placed_words ps)
unfolding placed_words
places_rest memo k p ps f =
    words_back memo (placed_at + 3 * k) (placed_at + 3 * (k + 1)) (p.dg ∷ p.first ∷ p.sd ∷ []) (placed_words ps) f (omega arith)

pub place_words_lem : (l : Layout) (w : List ℕ) → length l.placed ≤ 512 → 8192 ≤ length w
    → Words (laid_copies l w) (placed_at + 3 * 0) (placed_words l.placed)
unfolding laid_copies
place_words_lem l w few long j h =
    let k = length_places l.placed in
    blit_among (placed_words l.placed) (placed_at + 3 * 0) j _ h (simp length-blit (omega arith))

-- the words of the first
pub place_here : (w : List ℕ) (k : ℕ) (p : Placed) (ps : List Placed) → Words w (placed_at + 3 * k) (placed_words (p ∷ ps)) → PlaceWords w k p
unfolding placed_words
place_here w k p ps g =
    record { dg = rw add-zero at (g 0 (omega arith)); first = g 1 (omega arith); sd = g 2 (omega arith) }

-- the words of column number k
pub place_there : (w : List ℕ) (k : ℕ) (ps : List Placed) (p : Placed) (qs : List Placed) → Words w (placed_at + 3 * k) (placed_words (ps ++ (p ∷ qs)))
    → PlaceWords w (k + length ps) p
place_there w k [] p qs g = rw add-zero (place_here w k p qs g)
place_there w k (x ∷ ps) p qs g =
    let e : k + length (x ∷ ps) ≡ k + 1 + length ps = omega arith in
    rw e (place_there w (k + 1) ps p qs (places_rest w k x (ps ++ (p ∷ qs)) g))
