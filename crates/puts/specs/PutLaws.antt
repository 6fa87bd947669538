-- Stores past the end of a list are lost; the turns of the loops that store bytes; a field holds a number's low bytes only.
use Rattle.std.specs.Prelude.{ℕ, zero, suc, ◌+◌, ◌-◌, ◌*◌, ◌/◌, ◌%◌, ◌^◌, ◌≤◌, ◌<◌, min, List, [], ◌∷◌, ◌++◌, ◌≡◌, refl, length, take, drop, get_or, set, replicate}
use Rattle.std.proofs.Common.{append_assoc, sym, ap, ◌∙◌, add-zero, add_comm, mul_assoc, pow-suc, le_refl, div-add-mod', add-one, arith, length-set, length-append, length-drop, take-suc, take_all, get_or-drop, length-take-le}
use Rattle.std.proofs.Math.Nat.{zero-min, min-zero, suc-min-suc, min_comm, add-mul-div_right, add-mul-mod_self_right}
use Rattle.std.proofs.Math.Seq.{set_out, take-nil}
use Rattle.std.proofs.Math.Nat.{div-one, pow-zero, div-div-eq-div-mul}
use Rattle.std.proofs.lemmas.List.{drop-drop}
use Rattle.std.specs.Int.{w64, byte_at, bytes_low_first, to_le_bytes}
use borrow.Rule.Slice.PartMut.{put_mid, mid_of}
use Rattle.base.specs.Field.{le}
use Rattle.base.specs.FieldLaws.{length-le}
use Rattle.base.specs.Blit.{part, blit}
use Rattle.base.specs.BlitLaws.{blit-append, blit-one, blit-lent, blit_is}
use Rattle.result.specs.Fill.{header}

-- ---- past the end
pub blit-past : (bs : List ℕ) (i : ℕ) (l : List ℕ) → length l ≤ i → blit i bs l ≡ l
unfolding blit
blit-past [] i l h = refl
blit-past (b ∷ bs) i l h = blit-past bs (suc i) (set l i b) (simp length-set (omega arith)) ∙ set_out l i b h

-- only the bytes that have room count
pub blit-take : (k : ℕ) (bs : List ℕ) (i : ℕ) (l : List ℕ) → length l ≤ i + k → blit i (take k bs) l ≡ blit i bs l
unfolding blit
blit-take zero bs i l h = sym (blit-past bs i l (omega arith))
blit-take (suc k) [] i l h = refl
blit-take (suc k) (b ∷ bs) i l h = blit-take k bs (suc i) (set l i b) (simp length-set (omega arith))

-- what a callee that was lent `&mut l[a..]` laid over its front
pub lent_is : (a : ℕ) (bs l ys : List ℕ) → ys ≡ blit 0 bs (mid_of a (length l - a) l) → put_mid a (length l - a) l ys ≡ blit a bs l
lent_is a bs l ys e = ap (put_mid a (length l - a) l) e ∙ blit-lent a 0 bs l ∙ rw add-zero

-- what stands in a part of the slice that was written whole
pub laid_at : (a k e : ℕ) (ys l : List ℕ) → e ≡ k → length ys ≡ k → a + k ≤ length l → put_mid a e l ys ≡ blit a ys l
laid_at a k e ys l h i j =
    let past : drop k (drop a l) ≡ drop (a + k) l = drop-drop k a l in
    let there : blit a ys l ≡ take a l ++ ys ++ drop (a + length ys) l = blit_is a ys l (omega arith) in
    rw (h, past, there, i) (sym (append_assoc (take a l) ys (drop (a + k) l)))

-- ---- the low bytes of a number
low_byte : (i x : ℕ) → byte_at i x ≡ x / 256 ^ i % 256
low_byte zero x = rw (pow-zero, div-one)
low_byte (suc i) x = refl

low_bytes : (n i x : ℕ) → bytes_low_first i n x ≡ le n (x / 256 ^ i)
unfolding le
low_bytes zero i x = refl
low_bytes (suc n) i x =
    let next : x / 256 ^ i / 256 ≡ x / 256 ^ suc i = div-div-eq-div-mul x (256 ^ i) 256 ∙ rw pow-suc in
    rw (low_byte i x, low_bytes n (suc i) x, next)

take-le : (n k x : ℕ) → n ≤ k → take n (le k x) ≡ le n x
unfolding le
take-le zero k x h = refl
take-le (suc n) zero x h = absurd (omega arith)
take-le (suc n) (suc k) x h = ap (λ (bs : List ℕ). x % 256 ∷ bs) (take-le n k (x / 256) (omega arith))

pub le_front : (n x : ℕ) → n ≤ 8 → take n (to_le_bytes w64 x) ≡ le n x
le_front n x h =
    let all : to_le_bytes w64 x ≡ le 8 x = low_bytes 8 0 x ∙ rw (pow-zero, div-one) in
    rw all (take-le n 8 x h)

-- ---- a copy
pub length_part : (i n : ℕ) (l : List ℕ) → i + n ≤ length l → length (part i n l) ≡ n
unfolding part
length_part i n l h = length-take-le n (drop i l) (simp length-drop (omega arith))

pub part_snoc : (i n : ℕ) (l : List ℕ) → i + n < length l → part i (n + 1) l ≡ part i n l ++ (get_or l (i + n) 0 ∷ [])
unfolding part
part_snoc i n l h = rw (add-one, ← get_or-drop i l n 0) (take-suc (drop i l) n 0 (simp length-drop (omega arith)))

pub copy_more : (i from k : ℕ) (s l : List ℕ) → from + k < length s
    → set (blit i (part from k s) l) (i + k) (get_or s (from + k) 0) ≡ blit i (part from (k + 1) s) l
copy_more i from k s l h =
    let e : length (part from k s) ≡ k = length_part from k s (omega arith) in
    rw (part_snoc from k s h, blit-append, e) (sym (blit-one (i + k) (get_or s (from + k) 0) (blit i (part from k s) l)))

-- past the end there is nothing
pub part-past : (i n : ℕ) (l : List ℕ) → length l ≤ i → part i n l ≡ []
unfolding part
part-past i n l h = go (drop i l) (simp length-drop (omega arith))
  where
    go : (m : List ℕ) → length m ≤ 0 → take n m ≡ []
    go [] h = take-nil n
    go (x ∷ xs) h = absurd (omega arith)

pub copy-past : (at from n : ℕ) (s d : List ℕ) → length s ≤ from → d ≡ blit at (part from n s) d
unfolding blit
copy-past at from n s d h = rw (part-past from n s h)

pub take_min : (k n : ℕ) (xs : List ℕ) → take (min k n) xs ≡ take k (take n xs)
take_min zero n xs = rw zero-min
take_min (suc k) zero xs = rw min-zero
take_min (suc k) (suc n) [] = rw suc-min-suc
take_min (suc k) (suc n) (x ∷ xs) = rw suc-min-suc (ap (λ (ys : List ℕ). x ∷ ys) (take_min k n xs))

-- as many bytes as there are, and as have room
pub copy_clip : (at from n have k : ℕ) (s d : List ℕ) → have ≡ min n (length s - from) → k ≡ min have (length d - at)
    → blit at (part from k s) d ≡ blit at (part from n s) d
unfolding part
copy_clip at from n have k s d e f =
    let all : take (length s - from) (drop from s) ≡ drop from s = take_all (length s - from) (drop from s) (simp length-drop (le_refl _)) in
    let there : take have (drop from s) ≡ take n (drop from s) = rw e (take_min n (length s - from) (drop from s) ∙ ap (take n) all) in
    let clipped : take k (drop from s) ≡ take (length d - at) (take n (drop from s)) =
    rw (f, min_comm have (length d - at)) (take_min (length d - at) have (drop from s) ∙ ap (take (length d - at)) there) in
    rw clipped (blit-take (length d - at) (take n (drop from s)) at d (omega arith))

-- ---- zeros
pub take-replicate : (k n a : ℕ) → take k (replicate n a) ≡ replicate (min k n) a
take-replicate zero n a = rw zero-min
take-replicate (suc k) zero a = rw min-zero
take-replicate (suc k) (suc n) a = rw suc-min-suc (ap (λ (ys : List ℕ). a ∷ ys) (take-replicate k n a))

pub zero_clip : (at n k : ℕ) (d : List ℕ) → k ≡ min n (length d - at) → blit at (replicate k 0) d ≡ blit at (replicate n 0) d
zero_clip at n k d e =
    rw (e, min_comm n (length d - at), ← take-replicate (length d - at) n 0) (blit-take (length d - at) (replicate n 0) at d (omega arith))

-- ---- the n low bytes of a number that has wrapped are those of the number
pub le-add : (n k x : ℕ) → le n (x + k * 256 ^ n) ≡ le n x
unfolding le
le-add zero k x = refl
le-add (suc n) k x =
    let e : x + k * 256 ^ suc n ≡ x + k * 256 ^ n * 256 = rw (pow-suc, mul_assoc) in
    let low : (x + k * 256 ^ suc n) % 256 ≡ x % 256 = rw e (add-mul-mod_self_right x (k * 256 ^ n) 256) in
    let rest : (x + k * 256 ^ suc n) / 256 ≡ x / 256 + k * 256 ^ n = rw e (add-mul-div_right x (k * 256 ^ n) (omega arith)) in
    rw (low, rest, le-add n k (x / 256))

pub le_wrap : (n x : ℕ) → le n (x % 256 ^ n) ≡ le n x
le_wrap n x =
    let e : x % 256 ^ n + x / 256 ^ n * 256 ^ n ≡ x = add_comm (x % 256 ^ n) (x / 256 ^ n * 256 ^ n) ∙ div-add-mod' x (256 ^ n) in
    sym (le-add n (x / 256 ^ n) (x % 256 ^ n)) ∙ ap (le n) e

-- ---- lengths
pub length-header : (kind size links : ℕ) → length (header kind size links) ≡ 24
unfolding header
length-header kind size links = simp (length-append, length-le)
