-- Bytes that stand at an address of a file: their parts, and the fields read there.
use Rattle.std.specs.Prelude.{◌≡◌, refl, List, [], ◌∷◌, ◌++◌, ℕ, zero, suc, ◌+◌, ◌-◌, ◌/◌, ◌%◌, ◌^◌, ◌≤◌, ◌<◌, length, take, drop, get_or}
use Rattle.std.proofs.Common.{sym, ap, ◌∙◌, add-zero, zero-add, pow-suc, div-lt_iff_lt-mul, arith, lit<, length-append, take-take, drop-drop, get_or-drop, get_or-take}
use Rattle.std.proofs.Math.Nat.{sub-zero, zero-sub, suc-sub-suc, pow-zero}
use Rattle.std.proofs.Math.Seq.{take-append_seam, drop-append_seam, drop-nil, take-nil, take-length}
use Rattle.base.specs.Field.{le_at, le}
use Rattle.base.specs.Blit.{part}
use Rattle.base.specs.BlitLaws.{length_part}
use Rattle.result.specs.Guarantee.{Stands}

-- ---- parts of what stands
drop-take : {A : Type 0} (i m : ℕ) (l : List A) → drop i (take m l) ≡ take (m - i) (drop i l)
drop-take zero m l = rw sub-zero
drop-take (suc i) zero l = rw (zero-sub, drop-nil)
drop-take (suc i) (suc m) [] = rw (suc-sub-suc, take-nil)
drop-take (suc i) (suc m) (x ∷ l) = rw suc-sub-suc (drop-take i m l)

-- a part of a part is a part
pub part-part : {A : Type 0} (a m i n : ℕ) (l : List A) → i + n ≤ m → part i n (part a m l) ≡ part (a + i) n l
unfolding part
part-part a m i n l h = rw (drop-take i m (drop a l), drop-drop i a l) (take-take n (m - i) (drop (a + i) l) (omega arith))

-- the same bytes at an equal address
pub stands_to : {l bs : List ℕ} {a b : ℕ} → Stands l a bs → a ≡ b → Stands l b bs
stands_to s e = rw e at s

-- what stands first
pub stands_front : {l : List ℕ} {a : ℕ} (x y : List ℕ) → Stands l a (x ++ y) → Stands l a x
unfolding part
stands_front {l} {a} x y s = record {
  is =
      ap (λ (k : ℕ). part k (length x) l) (sym (add-zero a))
      ∙ sym (part-part a (length (x ++ y)) 0 (length x) l (rw length-append (omega arith)))
      ∙ ap (part 0 (length x)) s.is ∙ take-append_seam x y;
}

-- what stands after it
pub stands_back : {l : List ℕ} {a : ℕ} (x y : List ℕ) → Stands l a (x ++ y) → Stands l (a + length x) y
unfolding part
stands_back {l} {a} x y s = record {
  is =
      sym (part-part a (length (x ++ y)) (length x) (length y) l (rw length-append (omega arith)))
      ∙ ap (part (length x) (length y)) s.is ∙ ap (take (length y)) (drop-append_seam x y) ∙ take-length y;
}

-- y after x, at an address that is known otherwise
pub stands_at : {l : List ℕ} {a b : ℕ} (x y : List ℕ) → Stands l a (x ++ y) → a + length x ≡ b → Stands l b y
stands_at x y s e = stands_to (stands_back x y s) e

-- ---- fields
byte_at : {l : List ℕ} {a : ℕ} (b : ℕ) (bs : List ℕ) → Stands l a (b ∷ bs) → get_or l a 0 ≡ b
unfolding part
byte_at {l} {a} b bs s =
    let one : take 1 (drop a l) ≡ b ∷ [] = (stands_front (b ∷ []) bs s).is in
    ap (λ (k : ℕ). get_or l k 0) (sym (add-zero a)) ∙ sym (get_or-drop a l 0 0) ∙ sym (get_or-take 1 (drop a l) 0 0 (lit< tt)) ∙ rw one

-- THE law of fields: where the bytes of a number stand, it is read
pub read : {l : List ℕ} {a : ℕ} (n x : ℕ) → Stands l a (le n x) → x < 256 ^ n → le_at n l a ≡ x
unfolding le_at le
read zero x s h = omega (arith, pow-zero 256)
read {l = l} {a = a} (suc n) x s h =
    let q : x / 256 < 256 ^ n = (div-lt_iff_lt-mul (lit< tt)).1 (rw pow-suc at h) in
    let t : Stands l (a + 1) (le n (x / 256)) = stands_back (x % 256 ∷ []) (le n (x / 256)) s in
    let i = read {l = l} {a = a + 1} n (x / 256) t q in
    rw (byte_at (x % 256) (le n (x / 256)) s, i) (omega arith)

-- ---- what is copied from another list s

-- byte number j of what stands
pub byte_of : {l : List ℕ} {a : ℕ} (bs : List ℕ) → Stands l a bs → (j : ℕ) → j < length bs → get_or l (a + j) 0 ≡ get_or bs j 0
unfolding part
byte_of {l} {a} bs s j h =
    let e : get_or (take (length bs) (drop a l)) j 0 ≡ get_or bs j 0 = rw s.is refl in
    sym (get_or-drop a l j 0) ∙ sym (get_or-take (length bs) (drop a l) j 0 h) ∙ e

-- a field of m bytes inside of what stands
field_inside : {f : List ℕ} {a : ℕ} (m : ℕ) (bs : List ℕ) → Stands f a bs → (i : ℕ) → i + m ≤ length bs → le_at m f (a + i) ≡ le_at m bs i
unfolding le_at
field_inside zero bs st i h = refl
field_inside {f} {a} (suc m) bs st i h =
    let p : a + i + 1 ≡ a + (i + 1) = omega arith in
    rw (p, byte_of bs st i (omega arith), field_inside m bs st (i + 1) (omega arith))

-- of what stands at 0
pub field_same : {f : List ℕ} (m : ℕ) (bs : List ℕ) → Stands f 0 bs → (i : ℕ) → i + m ≤ length bs → le_at m f i ≡ le_at m bs i
field_same {f} m bs st i h = ap (le_at m f) (sym (zero-add i)) ∙ field_inside m bs st i h

-- a field of m bytes inside of a part of s that stands
pub field_copied : {f : List ℕ} {a : ℕ} (m : ℕ) (s : List ℕ) (b n i : ℕ) → Stands f a (part b n s) → b + n ≤ length s → i + m ≤ n
    → le_at m f (a + i) ≡ le_at m s (b + i)
unfolding le_at part
field_copied zero s b n i st inside h = refl
field_copied {f} {a} (suc m) s b n i st inside h =
    let one : get_or f (a + i) 0 ≡ get_or s (b + i) 0 =
    byte_of (take n (drop b s)) st i (rw (length_part b n s inside) (omega arith)) ∙ get_or-take n (drop b s) i 0 (omega arith) ∙ get_or-drop b s i 0 in
    let more : le_at m f (a + (i + 1)) ≡ le_at m s (b + (i + 1)) = field_copied m s b n (i + 1) st inside (omega arith) in
    let p : a + i + 1 ≡ a + (i + 1) = omega arith in
    let q : b + i + 1 ≡ b + (i + 1) = omega arith in
    rw (p, q, one, more)

-- at addresses that are known otherwise
pub field_at : {f : List ℕ} {a : ℕ} (m : ℕ) (s : List ℕ) (b n i x y : ℕ) → Stands f a (part b n s) → b + n ≤ length s → i + m ≤ n
    → a + i ≡ x → b + i ≡ y → le_at m f x ≡ le_at m s y
field_at m s b n i x y st inside h p q = rw (← p, ← q) (field_copied m s b n i st inside h)
