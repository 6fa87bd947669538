-- The laws of bytes counted in records.
use Rattle.std.specs.Prelude.{ℕ, ◌+◌, ◌*◌, ◌-◌, ◌/◌, ◌%◌, ◌≤◌, ◌<◌, List, Bool, ◌≡◌, Option, Some, None}
use Rattle.std.proofs.Math.Bool.{true, false}
use Rattle.std.proofs.Math.Path.{refl, sym}
use Rattle.std.proofs.Common.{ap, ◌∙◌, add-zero, zero-mul, one-mul, add-mul, mul-le-mul_right, mod-lt, div-add-mod', arith}
use Rattle.std.proofs.Math.Nat.{mul-pos}
use Rattle.std.proofs.Math.Dec.{eqb}
use borrow.Author.Tests.{eq-eqb, ne_eqb, eqb-true, eqb-false}
use Rattle.base.specs.ChoiceLaws.{lt_yes, lt_no}
use Rattle.mdf.specs.Block.{size_at, link_at}
use Rattle.mdf.specs.Records.{size_of}
use Rattle.ranges.specs.declared.seek.Rest.{Rest}
use Rattle.ranges.specs.Blocks.{block_in, listed_from}
use Rattle.ranges.specs.BlocksLaws.{from_next, from_end, block_size_lem}
use Rattle.ranges.specs.Seek.{TakenOff, seek_in, spotted}

none_some : {x : Rest} → ◌≡◌ {A = Option Rest} None (Some x) → ⊥
none_some e = let z : ◌≡◌ {A = ℕ} 0 1 = cc in omega arith

some_same : {x y : Rest} → ◌≡◌ {A = Option Rest} (Some x) (Some y) → x ≡ y
some_same e = cc

-- ---- z bytes less
module _ (left off z w : ℕ) (some : off < w) where
  whole : z / w * w + z % w ≡ z
  whole = div-add-mod' z w

  below : z % w < w
  below = mod-lt z (omega arith)

  pub off-few : left < z / w → TakenOff left off z w None
  off-few h =
      let a : (left + 1) * w ≤ z / w * w = mul-le-mul_right w (omega arith) in
      let b : (left + 1) * w ≡ left * w + w = add-mul left 1 w ∙ ap (λ (k : ℕ). left * w + k) (one-mul w) in
      record { yes = λ _. omega (arith, whole); no = λ e. absurd (none_some e) }

  pub off_just : z / w ≤ left → off < z % w → left ≡ z / w → TakenOff left off z w None
  off_just h g e =
      let a : left * w ≡ z / w * w = ap (λ (k : ℕ). k * w) e in
      record { yes = λ _. omega (arith, whole); no = λ e. absurd (none_some e) }

  pub off_whole : z / w ≤ left → z % w ≤ off → TakenOff left off z w (Some (record { left = left - z / w; off = off - z % w }))
  off_whole h g =
      let d : left ≡ z / w + (left - z / w) = omega arith in
      let a : left * w ≡ z / w * w + (left - z / w) * w = ap (λ (k : ℕ). k * w) d ∙ add-mul (z / w) (left - z / w) w in
      record {
        yes = λ e. absurd (none_some (sym e));
        no = λ e. rw (← some_same e) (record { enough = omega (arith, whole, a); is = omega (arith, whole, a); small = omega arith });
      }

  pub off_part : z / w < left → off < z % w → TakenOff left off z w (Some (record { left = left - z / w - 1; off = off + w - z % w }))
  off_part h g =
      let d : left ≡ z / w + 1 + (left - z / w - 1) = omega arith in
      let b : (z / w + 1) * w ≡ z / w * w + w = add-mul (z / w) 1 w ∙ ap (λ (k : ℕ). z / w * w + k) (one-mul w) in
      let a : left * w ≡ (z / w + 1) * w + (left - z / w - 1) * w = ap (λ (k : ℕ). k * w) d ∙ add-mul (z / w + 1) (left - z / w - 1) w in
      record {
        yes = λ e. absurd (none_some (sym e));
        no = λ e. rw (← some_same e) (record { enough = omega (arith, whole, a, b, below); is = omega (arith, whole, a, b, below); small = omega arith });
      }

-- ---- the sum of the blocks' bytes, where the loop stands: what is left gives what the whole gives
eqb_less : (z r p : ℕ) → z ≤ p → eqb (z + r) p ≡ eqb r (p - z)
eqb_less z r p h = go (eqb r (p - z)) refl
  where
    go : (t : Bool) → eqb r (p - z) ≡ t → eqb (z + r) p ≡ t
    go true e = eq-eqb (z + r) p (omega (arith, eqb-true r (p - z) e))
    go false e = ne_eqb (z + r) p (λ q. eqb-false r (p - z) e (omega (arith, q)))

pub record Summing (s : List ℕ) (a links records w left off i : ℕ) : Type 0 where
  pub small : off < w
  pub rest : eqb (size_of (listed_from s a links i)) (left * w + off) ≡ eqb (size_of (listed_from s a links 1)) (records * w)

pub sum_begin : (s : List ℕ) (a links records w : ℕ) → 0 < w → Summing s a links records w records 0 1
sum_begin s a links records w h = record { small = h; rest = rw (add-zero (records * w)) }

module _ {s : List ℕ} {a links records w left off i : ℕ} (t : Summing s a links records w left off i) where
  pub sum_end : links ≤ i → left ≡ 0 → eqb off 0 ≡ eqb (size_of (listed_from s a links 1)) (records * w)
  unfolding size_of
  sum_end h z =
      let p : left * w + off ≡ off = rw (z, zero-mul) (omega arith) in
      go off (eqb 0 off) refl ∙ (rw (from_end s a links i h, p) at t.rest)
    where
      go : (n : ℕ) (t : Bool) → eqb 0 n ≡ t → eqb n 0 ≡ t
      go n true e = eq-eqb n 0 (sym (eqb-true 0 n e))
      go n false e = ne_eqb n 0 (λ q. eqb-false 0 n e (sym q))

  pub sum-short : links ≤ i → (left ≡ 0 → ⊥) → false ≡ eqb (size_of (listed_from s a links 1)) (records * w)
  unfolding size_of
  sum-short h z =
      let p = mul-pos {m = left} {n = w} (omega (arith, z)) (let b = t.small in omega arith) in
      sym (ne_eqb 0 (left * w + off) (λ e. omega arith)) ∙ (rw (from_end s a links i h) at t.rest)

  module _ (h : i < links) {x z : ℕ} (q : x ≡ link_at s a i) (f : z ≡ size_at s x - 24) {r : Option Rest} (g : TakenOff left off z w r) where
    size_is : size_of (listed_from s a links i) ≡ z + size_of (listed_from s a links (i + 1))
    unfolding size_of
    size_is = rw (from_next s a links i h, block_size_lem s (link_at s a i), f, q)

    pub sum_over : r ≡ None → false ≡ eqb (size_of (listed_from s a links 1)) (records * w)
    sum_over y =
        let b = g.yes y in
        sym (ne_eqb (size_of (listed_from s a links i)) (left * w + off) (λ e. omega (arith, size_is, b))) ∙ t.rest

    pub sum-on : {y : Rest} → r ≡ Some y → Summing s a links records w y.left y.off (i + 1)
    sum-on y =
        let b = g.no y in
        record {
          small = b.small;
          rest = rw b.is (sym (eqb_less z (size_of (listed_from s a links (i + 1))) (left * w + off) b.enough)
              ∙ (rw size_is at t.rest));
        }

-- ---- the block that holds a byte, where the loop stands
pub record Seeking (s : List ℕ) (a links first w left off i : ℕ) : Type 0 where
  pub small : off < w
  pub rest : seek_in (listed_from s a links i) (left * w + off) ≡ seek_in (listed_from s a links 1) (first * w)

pub seek_begin : (s : List ℕ) (a links first w : ℕ) → 0 < w → Seeking s a links first w first 0 1
seek_begin s a links first w h = record { small = h; rest = rw (add-zero (first * w)) }

module _ {s : List ℕ} {a links first w left off i : ℕ} (t : Seeking s a links first w left off i) where
  pub seek_end : links ≤ i → spotted s a links (record { link = links; place = 0 }) ≡ seek_in (listed_from s a links 1) (first * w)
  unfolding spotted seek_in
  seek_end h = sym (lt_no _ _ _ _ (omega arith) refl) ∙ (rw (from_end s a links i h) at t.rest)

  module _ (h : i < links) {x z : ℕ} (q : x ≡ link_at s a i) (f : z ≡ size_at s x - 24) {r : Option Rest} (g : TakenOff left off z w r) where
    size-here : (block_in s (link_at s a i)).size ≡ z
    size-here = rw (block_size_lem s (link_at s a i), f, q)

    pub seek_here : r ≡ None → spotted s a links (record { link = i; place = left * w + off }) ≡ seek_in (listed_from s a links 1) (first * w)
    unfolding spotted seek_in
    seek_here y =
        let b : left * w + off < z = g.yes y in
        sym (lt_yes _ _ _ _ h refl) ∙ rw (from_next s a links i h) (lt_yes _ _ _ _ (rw size-here b) refl)
        ∙ (rw (from_next s a links i h) at t.rest)

    pub seek_on : {y : Rest} → r ≡ Some y → Seeking s a links first w y.left y.off (i + 1)
    unfolding seek_in
    seek_on y =
        let b = g.no y in
        record {
          small = b.small;
          rest = lt_no _ _ _ _ (rw size-here b.enough) (rw (b.is, size-here)) ∙ (rw (from_next s a links i h) at t.rest);
        }
