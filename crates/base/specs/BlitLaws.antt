-- The laws of `part` and `blit`.
use Rattle.std.specs.Prelude.{◌≡◌, refl, List, [], ◌∷◌, ◌++◌, ℕ, suc, ◌+◌, ◌-◌, ◌≤◌, ◌<◌, length, take, drop, set}
use Rattle.std.proofs.Common.{sym, ap, ◌∙◌, append-nil, append_assoc, add-zero, add-suc, suc-add, le_refl, le-add_right, arith, length-set, length-drop, take-append-drop, drop-set-lt, take_all, drop_at, length-take-le}
use Rattle.std.proofs.lemmas.List.{take-set-le, drop-set-add, set_comm}
use Rattle.std.proofs.Math.Seq.{drop-length, take-append_seam}
use Rattle.std.proofs.lemmas.List.Edits.{sets, sets-eq}
use borrow.Rule.Slice.PartMut.{put_mid, mid_of}
use Rattle.base.specs.Blit.{blit, part}

pub length-blit : (i : ℕ) (bs l : List ℕ) → length (blit i bs l) ≡ length l
unfolding blit
length-blit i [] l = refl
length-blit i (b ∷ bs) l = length-blit (suc i) bs (set l i b) ∙ length-set l i b

-- a blit of two lists is two blits
pub blit-append : (xs : List ℕ) (i : ℕ) (ys l : List ℕ) → blit i (xs ++ ys) l ≡ blit (i + length xs) ys (blit i xs l)
unfolding blit
blit-append [] i ys l = rw add-zero
blit-append (x ∷ xs) i ys l = blit-append xs (suc i) ys (set l i x) ∙ rw (suc-add, add-suc)

-- one store is a blit
pub blit-one : (i x : ℕ) (l : List ℕ) → blit i (x ∷ []) l ≡ set l i x
unfolding blit
blit-one i x l = refl

-- the front is kept, and the rest is the blit of the rest
blit-rest : (bs : List ℕ) (a i : ℕ) (l : List ℕ) → take a l ++ blit i bs (drop a l) ≡ blit (a + i) bs l
unfolding blit
blit-rest [] a i l = take-append-drop a l
blit-rest (b ∷ bs) a i l =
    ap (λ (z : List ℕ). take a l ++ blit (suc i) bs z) (sym (drop-set-add a l i b))
    ∙ ap (λ (z : List ℕ). z ++ blit (suc i) bs (drop a (set l (a + i) b))) (sym (take-set-le a l (a + i) b (le-add_right a i)))
    ∙ blit-rest bs a (suc i) (set l (a + i) b)
    ∙ rw add-suc

-- what a callee that was lent `&mut l[a..]` blits, said of the whole
pub blit-lent : (a i : ℕ) (bs l : List ℕ) → put_mid a (length l - a) l (blit i bs (mid_of a (length l - a) l)) ≡ blit (a + i) bs l
blit-lent a i bs l =
    let n : ℕ = length l - a in
    let all : take n (drop a l) ≡ drop a l = take_all n (drop a l) (simp length-drop (le_refl _)) in
    let none : drop n (drop a l) ≡ [] = ap (λ (k : ℕ). drop k (drop a l)) (sym (length-drop a l)) ∙ drop-length (drop a l) in
    rw (all, none, append-nil) (blit-rest bs a i l)

-- a further field: pre stands from i on already, and a callee that was lent `&mut l[a..]`, with a just past pre, put bs at its front
-- ---- reading what was written
blit_sets : (i : ℕ) (bs l : List ℕ) → blit i bs l ≡ sets l i bs
unfolding blit
blit_sets i [] l = refl
blit_sets i (b ∷ bs) l = blit_sets (suc i) bs (set l i b)

-- what a reader expects of the word: the front, bs, and the rest
pub blit_is : (i : ℕ) (bs l : List ℕ) → i + length bs ≤ length l → blit i bs l ≡ take i l ++ bs ++ drop (i + length bs) l
blit_is i bs l h = blit_sets i bs l ∙ sets-eq bs l i h

pub part-blit : (i : ℕ) (bs l : List ℕ) → i + length bs ≤ length l → part i (length bs) (blit i bs l) ≡ bs
unfolding part
part-blit i bs l h =
    let front : length (take i l) ≡ i = length-take-le i l (omega arith) in
    rw (blit_is i bs l h, append_assoc, drop_at (take i l) (bs ++ drop (i + length bs) l) i front) (take-append_seam bs _)

pub part-blit-after : (bs : List ℕ) (i j n : ℕ) (l : List ℕ) → i + length bs ≤ j → part j n (blit i bs l) ≡ part j n l
unfolding part blit
part-blit-after [] i j n l h = refl
part-blit-after (b ∷ bs) i j n l h =
    part-blit-after bs (suc i) j n (set l i b) (omega arith) ∙ ap (take n) (drop-set-lt j l i b (omega arith))

part-set_before : (i j n b : ℕ) (l : List ℕ) → j + n ≤ i → part j n (set l i b) ≡ part j n l
unfolding part
part-set_before i j n b l h =
    let e : i ≡ j + (i - j) = omega arith in
    ap (λ (k : ℕ). take n (drop j (set l k b))) e ∙ ap (take n) (drop-set-add j l (i - j) b) ∙ take-set-le n (drop j l) (i - j) b (omega arith)

pub part-blit_before : (bs : List ℕ) (i j n : ℕ) (l : List ℕ) → j + n ≤ i → part j n (blit i bs l) ≡ part j n l
unfolding blit
part-blit_before [] i j n l h = refl
part-blit_before (b ∷ bs) i j n l h = part-blit_before bs (suc i) j n (set l i b) (omega arith) ∙ part-set_before i j n b l h

-- ---- disjoint writes commute
set-blit : (ys : List ℕ) (i j x : ℕ) (l : List ℕ) → i < j → set (blit j ys l) i x ≡ blit j ys (set l i x)
unfolding blit
set-blit [] i j x l h = refl
set-blit (y ∷ ys) i j x l h = set-blit ys i (suc j) x (set l j y) (omega arith) ∙ ap (blit (suc j) ys) (set_comm l j i y x (λ e. omega arith))

pub blit_comm : (xs : List ℕ) (i j : ℕ) (ys l : List ℕ) → i + length xs ≤ j → blit i xs (blit j ys l) ≡ blit j ys (blit i xs l)
unfolding blit
blit_comm [] i j ys l h = refl
blit_comm (x ∷ xs) i j ys l h = ap (blit (suc i) xs) (set-blit ys i j x l (omega arith)) ∙ blit_comm xs (suc i) j ys (set l i x) (omega arith)

-- a part that lies in a list is as long as it says
pub length_part : {A : Type 0} (i n : ℕ) (l : List A) → i + n ≤ length l → length (part i n l) ≡ n
unfolding part
length_part i n l h = length-take-le n (drop i l) (simp length-drop (omega arith))
