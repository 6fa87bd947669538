-- A window of zeros over which a file's blocks were laid is that part of the file.
use Rattle.std.specs.Prelude.{ℕ, ◌+◌, ◌-◌, ◌≤◌, List, [], ◌∷◌, ◌++◌, ◌≡◌, refl, length, take, drop, replicate}
use Rattle.std.proofs.Common.{append_assoc, sym, ap, ◌∙◌, arith, length-append, take_at, drop_at, drop-drop}
use Rattle.std.proofs.lemmas.List.{length-replicate, replicate-append-replicate}
use Rattle.base.specs.Blit.{blit, part}
use Rattle.base.specs.BlitLaws.{blit_is}
use Rattle.result.specs.Fill.{Block}
use Rattle.result.specs.Ordered.{Ordered}
use Rattle.result.specs.Result.{flat}
use Rattle.stores.specs.Over.{over}
use Rattle.stores.specs.OverLaws.{length_over, over_window, blit-past}
use Rattle.windows.specs.Windowed.{over_all}

pub over-two : (a : ℕ) (xs ys : List Block) (w : List ℕ) → over_all a (xs ++ ys) w ≡ over_all a ys (over_all a xs w)
unfolding over_all
over-two a [] ys w = refl
over-two a (x ∷ xs) ys w = over-two a xs ys (over a x.at x.bytes w)

pub length-all : (a : ℕ) (bs : List Block) (w : List ℕ) → length (over_all a bs w) ≡ length w
unfolding over_all
length-all a [] w = refl
length-all a (b ∷ bs) w = length-all a bs (over a b.at b.bytes w) ∙ length_over a b.at b.bytes w

-- bytes past the window
pub over-past : (a at : ℕ) (bs w : List ℕ) → a + length w ≤ at → over a at bs w ≡ w
unfolding over
over-past a at bs w h = blit-past _ _ _ (omega arith)

-- ---- the whole file: its blocks laid over zeros

-- all of them, over the whole
unfoldable lay_all : List Block → List ℕ → List ℕ
lay_all [] l = l
lay_all (b ∷ bs) l = lay_all bs (blit b.at b.bytes l)

ordered_end : (i : ℕ) (bs : List Block) (e : ℕ) → Ordered i bs e → i ≤ e
unfolding Ordered
ordered_end i [] e h = h
ordered_end i (b ∷ bs) e h = let k = ordered_end (b.at + length b.bytes) bs e h.1 in omega (arith, h.0)

-- bs in place of ys, as many
in_place : (xs bs ys zs : List ℕ) (i : ℕ) → length xs ≡ i → length ys ≡ length bs → blit i bs (xs ++ (ys ++ zs)) ≡ xs ++ (bs ++ zs)
in_place xs bs ys zs i p q =
    let n : length (xs ++ (ys ++ zs)) ≡ i + (length bs + length zs) = simp length-append (omega (arith, p, q)) in
    let t : take i (xs ++ (ys ++ zs)) ≡ xs = take_at xs (ys ++ zs) i p in
    let d : drop (i + length bs) (xs ++ (ys ++ zs)) ≡ zs = sym (drop-drop (length bs) i (xs ++ (ys ++ zs))) ∙ rw (drop_at xs (ys ++ zs) i p) (drop_at ys zs (length bs) q) in
    blit_is i bs (xs ++ (ys ++ zs)) (omega (arith, n)) ∙ rw (t, d, append_assoc)

zeros_split : (m n : ℕ) → replicate {A = ℕ} (m + n) 0 ≡ replicate m 0 ++ replicate n 0
zeros_split m n = sym (replicate-append-replicate m n 0)

lay_flat : (i : ℕ) (bs : List Block) (e : ℕ) (xs : List ℕ) → Ordered i bs e → length xs ≡ i → lay_all bs (xs ++ replicate (e - i) 0) ≡ xs ++ flat i bs e
unfolding lay_all flat Ordered
lay_flat i [] e xs h p = refl
lay_flat i (b ∷ bs) e xs h p =
    let j : ℕ = b.at + length b.bytes in
    let k = ordered_end j bs e h.1 in
    let g : ℕ = b.at - i in
    let n : e - i ≡ g + (length b.bytes + (e - j)) = omega (arith, h.0) in
    let z : xs ++ replicate (e - i) 0 ≡ (xs ++ replicate g 0) ++ (replicate (length b.bytes) 0 ++ replicate (e - j) 0) =
    rw (n, zeros_split g (length b.bytes + (e - j)), zeros_split (length b.bytes) (e - j), append_assoc) in
    let m : length (xs ++ replicate g 0) ≡ b.at = simp (length-append, length-replicate) (omega (arith, p, h.0)) in
    let s : blit b.at b.bytes (xs ++ replicate (e - i) 0) ≡ ((xs ++ replicate g 0) ++ b.bytes) ++ replicate (e - j) 0 =
    rw z (in_place (xs ++ replicate g 0) b.bytes (replicate (length b.bytes) 0) (replicate (e - j) 0) b.at m (length-replicate (length b.bytes) 0)
    ∙ sym (append_assoc (xs ++ replicate g 0) b.bytes (replicate (e - j) 0))) in
    let o : length ((xs ++ replicate g 0) ++ b.bytes) ≡ j = rw length-append (omega (arith, m)) in
    rw s (lay_flat j bs e ((xs ++ replicate g 0) ++ b.bytes) h.1 o ∙ simp append_assoc)

over-all_window : (a n : ℕ) (bs : List Block) (l : List ℕ) → part a n (lay_all bs l) ≡ over_all a bs (part a n l)
unfolding lay_all over_all
over-all_window a n [] l = refl
over-all_window a n (b ∷ bs) l = over-all_window a n bs (blit b.at b.bytes l) ∙ ap (over_all a bs) (over_window a n b.at b.bytes l)

part-zeros : (a n e : ℕ) → a + n ≤ e → part {A = ℕ} a n (replicate e 0) ≡ replicate n 0
unfolding part
part-zeros a n e h =
    let s : e ≡ a + (n + (e - a - n)) = omega arith in
    ap (λ (m : ℕ). take n (drop a (replicate m 0))) s
    ∙ rw (zeros_split a (n + (e - a - n)), zeros_split n (e - a - n), drop_at {A = ℕ} (replicate a 0) (replicate n 0 ++ replicate (e - a - n) 0) a (length-replicate a 0))
    (take_at {A = ℕ} (replicate n 0) (replicate (e - a - n) 0) n (length-replicate n 0))

-- n zeros, the window of a file from a on, over which its blocks were laid
pub window_is : (a n : ℕ) (bs : List Block) (e : ℕ) → Ordered 0 bs e → a + n ≤ e → over_all a bs (replicate n 0) ≡ part a n (flat 0 bs e)
window_is a n bs e h k =
    let w : lay_all bs (replicate e 0) ≡ flat 0 bs e = let z : e - 0 ≡ e = omega arith in ap (λ (m : ℕ). lay_all bs (replicate m 0)) (sym z) ∙ lay_flat 0 bs e [] h refl in
    sym (ap (part a n) (sym w) ∙ over-all_window a n bs (replicate e 0) ∙ ap (over_all a bs) (part-zeros a n e k))
