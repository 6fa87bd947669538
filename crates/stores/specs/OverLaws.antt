-- The laws of `over`: a window of what is laid one after the other, and a window of the whole file.
use Rattle.std.specs.Prelude.{ℕ, suc, ◌+◌, ◌-◌, ◌≤◌, ◌<◌, List, [], ◌∷◌, ◌++◌, ◌≡◌, refl, length, take, drop, set}
use Rattle.std.proofs.Common.{append-nil, append_assoc, sym, ap, ◌∙◌, ⊎_elim, zero-add, arith, length-drop, length-take, take-append-drop, drop_of_length-le, length-take-le, drop-set-lt, drop-drop}
use Rattle.std.proofs.Math.Nat.{sub-zero}
use Rattle.std.proofs.lemmas.List.{drop-append-le, take-set-le, drop-set-add}
use Rattle.std.proofs.Math.Seq.{drop-append-add, drop-length, drop-nil, set_out, take-set-lt}
use borrow.Rule.Slice.PartMut.{put_mid, mid_of, mid_len}
use Rattle.base.specs.Blit.{blit, part}
use Rattle.base.specs.BlitLaws.{length-blit, blit-append, blit_is, length_part}
use Rattle.stores.specs.Cases.{lt_or_le}
use Rattle.stores.specs.Over.{over}

-- over the whole file it is laid at its index
pub over-all : (at : ℕ) (bs w : List ℕ) → over 0 at bs w ≡ blit at bs w
unfolding over
over-all at bs w = let z : 0 - at ≡ 0 = omega arith in rw (sub-zero, z)

pub length_over : (a at : ℕ) (bs w : List ℕ) → length (over a at bs w) ≡ length w
unfolding over
length_over a at bs w = length-blit (at - a) (drop (a - at) bs) w

-- what ends before the window leaves it as it was
pub over_before : (a at : ℕ) (bs w : List ℕ) → at + length bs ≤ a → over a at bs w ≡ w
unfolding over blit
over_before a at bs w h = rw (drop_of_length-le bs (let g : length bs ≤ a - at = omega arith in g))

-- two lists one after the other are laid one after the other: by where the window begins
append_inside : (a at : ℕ) (xs ys w : List ℕ) → a ≤ at → over a at (xs ++ ys) w ≡ over a (at + length xs) ys (over a at xs w)
unfolding over
append_inside a at xs ys w h =
    let z : a - at ≡ 0 = omega arith in
    let y : a - (at + length xs) ≡ 0 = omega arith in
    let i : at + length xs - a ≡ at - a + length xs = omega arith in
    rw (z, y, i) (blit-append xs (at - a) ys w)

append_across : (a at : ℕ) (xs ys w : List ℕ) → at < a → a - at ≤ length xs
    → over a at (xs ++ ys) w ≡ over a (at + length xs) ys (over a at xs w)
unfolding over
append_across a at xs ys w h g =
    let y : a - (at + length xs) ≡ 0 = omega arith in
    let i : at + length xs - a ≡ at - a + length (drop (a - at) xs) = rw length-drop (omega arith) in
    rw (drop-append-le (a - at) xs ys g, y, i) (blit-append (drop (a - at) xs) (at - a) ys w)

later-only : (a at : ℕ) (xs ys w : List ℕ) → length xs < a - at → over a at (xs ++ ys) w ≡ over a (at + length xs) ys w
unfolding over
later-only a at xs ys w g =
    let e : a - at ≡ length xs + (a - (at + length xs)) = omega arith in
    let i : at + length xs - a ≡ at - a = omega arith in
    rw i (ap (λ (k : ℕ). blit (at - a) (drop k (xs ++ ys)) w) e
    ∙ ap (λ (z : List ℕ). blit (at - a) z w) (drop-append-add xs ys (a - (at + length xs))))

append_before : (a at : ℕ) (xs ys w : List ℕ) → length xs < a - at → over a at (xs ++ ys) w ≡ over a (at + length xs) ys (over a at xs w)
append_before a at xs ys w g = rw (over_before a at xs w (omega arith)) (later-only a at xs ys w g)

pub over-append : (a at : ℕ) (xs ys w : List ℕ) → over a at (xs ++ ys) w ≡ over a (at + length xs) ys (over a at xs w)
over-append a at xs ys w =
    ⊎_elim (λ h. ⊎_elim (append_before a at xs ys w) (append_across a at xs ys w h) (lt_or_le (length xs) (a - at))) (append_inside a at xs ys w)
    (lt_or_le at a)

-- what is laid past the end is lost
pub blit-past : (bs : List ℕ) (i : ℕ) (l : List ℕ) → length l ≤ i → blit i bs l ≡ l
unfolding blit
blit-past [] i l h = refl
blit-past (b ∷ bs) i l h =
    let e : set l i b ≡ l = set_out l i b h in
    ap (blit (suc i) bs) e ∙ blit-past bs (suc i) l (omega arith)

-- a list that is as long as another, or longer, hides it
pub blit_hides : (xs w : List ℕ) → length w ≤ length xs → blit 0 xs w ≡ take (length w) xs
blit_hides xs w h =
    let n : ℕ = length w in
    let t : length (take n xs) ≡ n = length-take-le n xs h in
    let f : blit 0 (take n xs) w ≡ take 0 w ++ take n xs ++ drop (0 + length (take n xs)) w = blit_is 0 (take n xs) w (omega arith) in
    let d : drop (length (take n xs)) w ≡ [] = rw t (drop-length w) in
    ap (λ (z : List ℕ). blit 0 z w) (sym (take-append-drop n xs))
    ∙ blit-append (take n xs) 0 (drop n xs) w
    ∙ blit-past (drop n xs) (0 + length (take n xs)) _ (rw length-blit (omega arith))
    ∙ f
    ∙ rw (zero-add, d, append-nil)

-- the window of a whole file is the file's part, whatever stood there
pub over-part : (a : ℕ) (f w : List ℕ) → a + length w ≤ length f → over a 0 f w ≡ part a (length w) f
unfolding over part
over-part a f w h =
    let z : 0 - a ≡ 0 = omega arith in
    rw (z, sub-zero) (blit_hides (drop a f) w (rw length-drop (omega arith)))

-- ---- a window of what is laid over a whole file

take-set : (n : ℕ) (l : List ℕ) (i b : ℕ) → take n (set l i b) ≡ set (take n l) i b
take-set n l i b =
    ⊎_elim (take-set-lt n l i b) (λ h. take-set-le n l i b h ∙ sym (set_out (take n l) i b (rw length-take (omega arith)))) (lt_or_le i n)

take-blit : (n : ℕ) (bs : List ℕ) (i : ℕ) (l : List ℕ) → take n (blit i bs l) ≡ blit i bs (take n l)
unfolding blit
take-blit n [] i l = refl
take-blit n (b ∷ bs) i l = take-blit n bs (suc i) (set l i b) ∙ ap (blit (suc i) bs) (take-set n l i b)

drop-blit : (a : ℕ) (bs : List ℕ) (at : ℕ) (l : List ℕ) → drop a (blit at bs l) ≡ over a at bs (drop a l)
unfolding blit over
drop-blit a [] at l = sym (ap (λ (z : List ℕ). blit (at - a) z (drop a l)) (drop-nil (a - at)))
drop-blit a (b ∷ bs) at l =
    let later : drop a (blit (suc at) bs (set l at b)) ≡ blit (suc at - a) (drop (a - suc at) bs) (drop a (set l at b)) =
    drop-blit a bs (suc at) (set l at b) in
    ⊎_elim (λ h. later ∙ before h) (λ h. later ∙ inside h) (lt_or_le at a)
  where
    before : at < a → blit (suc at - a) (drop (a - suc at) bs) (drop a (set l at b)) ≡ blit (at - a) (drop (a - at) (b ∷ bs)) (drop a l)
    before h =
        let n : a - at ≡ suc (a - suc at) = omega arith in
        let i : suc at - a ≡ at - a = omega arith in
        rw (n, i, drop-set-lt a l at b h)

    inside : a ≤ at → blit (suc at - a) (drop (a - suc at) bs) (drop a (set l at b)) ≡ blit (at - a) (drop (a - at) (b ∷ bs)) (drop a l)
    inside h =
        let n : a - at ≡ 0 = omega arith in
        let m : a - suc at ≡ 0 = omega arith in
        let i : suc at - a ≡ suc (at - a) = omega arith in
        let e : at ≡ a + (at - a) = omega arith in
        let s : drop a (set l at b) ≡ set (drop a l) (at - a) b = ap (λ k. drop a (set l k b)) e ∙ drop-set-add a l (at - a) b in
        rw (n, m, i, s)

-- the window of what is laid over the whole is what is laid over the window
pub over_window : (a n at : ℕ) (bs l : List ℕ) → part a n (blit at bs l) ≡ over a at bs (part a n l)
unfolding part over
over_window a n at bs l = ap (take n) (drop-blit a bs at l) ∙ take-blit n (drop (a - at) bs) (at - a) (drop a l)

-- what a callee that was lent `&mut l[a..e]` lays of a whole file, said of the whole
pub over-lent : (a e : ℕ) (f l : List ℕ) → a ≤ e → e ≤ length f → e ≤ length l
    → put_mid a (e - a) l (over a 0 f (mid_of a (e - a) l)) ≡ blit a (part a (e - a) f) l
over-lent a e f l h g k =
    let m : length (mid_of a (e - a) l) ≡ e - a = mid_len a e l k in
    let o : over a 0 f (mid_of a (e - a) l) ≡ part a (e - a) f = over-part a f (mid_of a (e - a) l) (omega arith) ∙ ap (λ n. part a n f) m in
    let p : length (part a (e - a) f) ≡ e - a = length_part a (e - a) f (omega arith) in
    ap (λ z. take a l ++ (z ++ drop (e - a) (drop a l))) o
    ∙ sym (blit_is a (part a (e - a) f) l (omega arith) ∙ rw (p, append_assoc, drop-drop))
