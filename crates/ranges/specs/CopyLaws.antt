-- The laws of copying block by block: what is left of the bytes gives the whole buffer.
use Prim.{tt}
use Prim.Native.Nat.{ℕ, ◌+◌, ◌-◌, ◌≤◌, ◌<◌, min}
use mathlib.Core.List.{List, [], ◌∷◌, ◌++◌}
use Rattle.std.specs.Prelude.{Bool, true, false, ◌≡◌, refl, take, drop, ltb}
use Rattle.std.proofs.Math.Path.{sym, ap}
use Rattle.std.proofs.Common.{subst, ◌∙◌, le_of_lt, take-add, drop-drop, ltb-true, ltb-false}
use Rattle.std.proofs.Math.Nat.{min-le_left, min-le_right, min-eq_left, min-eq_right, sub-zero}
use native.Mathlib.Omega.{arith}
use Rattle.std.proofs.Math.ListN.{length}
use Rattle.std.proofs.Math.Seq.{take-nil, drop-nil}
use Rattle.base.specs.Blit.{blit, part}
use Rattle.base.specs.BlitLaws.{length-blit, blit-append, length_part}
use Rattle.base.specs.Checked.{fine}
use Rattle.mdf.specs.Block.{size_at, link_at}
use Rattle.mdf.specs.Chain.{Fragment}
use Rattle.mdf.specs.Records.{ranges_in, joined}
use Rattle.file_laws.specs.JoinedLaws.{part-front, part_back, part-part, ranges_cons}
use Rattle.ranges.specs.Blocks.{block_in, listed_from}
use Rattle.ranges.specs.BlocksLaws.{from_next, from_end, block_size_lem, block_offset}
use Rattle.ranges.specs.Seek.{FirstIn}

-- ---- a part of two lists
part_split : (p m n : ℕ) (l : List ℕ) → m ≤ n → part p n l ≡ part p m l ++ part (p + m) (n - m) l
unfolding part
part_split p m n l h =
    let e : n ≡ m + (n - m) = omega arith in
    ap (λ (k : ℕ). take k (drop p l)) e ∙ take-add m (n - m) (drop p l) ∙ rw (drop-drop m p l)

no_part : (p : ℕ) (l : List ℕ) → part p 0 l ≡ []
unfolding part
no_part p l = refl

part-two : (p n m : ℕ) (xs ys : List ℕ) → p ≤ length xs → m ≡ min (length xs - p) n → part p n (xs ++ ys) ≡ part p m xs ++ part 0 (n - m) ys
part-two p n m xs ys h e = go (ltb n (length xs - p)) refl
  where
    go : (t : Bool) → ltb n (length xs - p) ≡ t → part p n (xs ++ ys) ≡ part p m xs ++ part 0 (n - m) ys
    go true q =
        let b = ltb-true n (length xs - p) q in
        let k : m ≡ n = e ∙ min-eq_right (le_of_lt b) in
        let z : n - n ≡ 0 = omega arith in
        rw k (part_split p n n (xs ++ ys) (omega arith)
        ∙ rw (z, no_part, no_part, part-front p n xs ys (omega arith)))
    go false q =
        let b = ltb-false n (length xs - p) q in
        let k : m ≡ length xs - p = e ∙ min-eq_left b in
        let z : p + m - length xs ≡ 0 = omega arith in
        part_split p m n (xs ++ ys) (omega arith)
        ∙ rw (part-front p m xs ys (omega arith), part_back (p + m) (n - m) xs ys (omega arith), z)

pub first-zero : (fs : List Fragment) → FirstIn fs 0
first-zero [] = tt
first-zero (f ∷ fs) = omega arith

-- ---- where the copying stands
pub record Copying (s : List ℕ) (a links i p done all : ℕ) (w r : List ℕ) : Type 0 where
  pub ranges : ranges_in s (listed_from s a links i) ≡ fine
  pub first : FirstIn (listed_from s a links i) p
  pub same : length w ≡ all
  pub within : done ≤ all
  pub rest : blit done (part p (all - done) (joined s (listed_from s a links i))) w ≡ r

pub copy_begin : (s : List ℕ) (a links i p all : ℕ) (w : List ℕ) → ranges_in s (listed_from s a links i) ≡ fine → FirstIn (listed_from s a links i) p
    → all ≡ length w → Copying s a links i p 0 all w (blit 0 (part p (length w) (joined s (listed_from s a links i))) w)
copy_begin s a links i p all w h g e = record { ranges = h; first = g; same = sym e; within = omega arith; rest = rw (sub-zero all, e) }

module _ {s : List ℕ} {a links i p done all : ℕ} {w r : List ℕ} (t : Copying s a links i p done all w r) where
  pub copy_full : done ≡ all → w ≡ r
  unfolding blit
  copy_full e =
      let z : all - done ≡ 0 = omega arith in
      (rw (z, no_part) at t.rest)

  pub copy_end : links ≤ i → w ≡ r
  unfolding blit joined part
  copy_end h = (rw (from_end s a links i h, drop-nil p, take-nil (all - done)) at t.rest)

  module _ (h : i < links) {x z : ℕ} (q : x ≡ link_at s a i) (f : z ≡ size_at s x - 24) where
    here_is : listed_from s a links i ≡ block_in s x ∷ listed_from s a links (i + 1)
    here_is = from_next s a links i h ∙ rw q

    size_is : (block_in s x).size ≡ z
    size_is = block_size_lem s x ∙ sym f

    offset_is : (block_in s x).offset ≡ x + 24
    offset_is = block_offset s x

    pub copy_place : p ≤ z
    copy_place = rw (← size_is) (subst (λ (fs : List Fragment). FirstIn fs p) here_is t.first)

    pub copy_inside : x + 24 + z ≤ length s
    copy_inside =
        let b = ranges_cons s (block_in s x) (listed_from s a links (i + 1)) (rw here_is at t.ranges) in
        rw (← size_is, ← offset_is) b.0

    pub copy-on : {n : ℕ} {w' : List ℕ} → n ≡ min (z - p) (all - done) → w' ≡ blit done (part (x + 24 + p) n s) w
        → Copying s a links (i + 1) 0 (done + n) all w' r
    unfolding joined
    copy-on {n} {w'} e g =
        let b = ranges_cons s (block_in s x) (listed_from s a links (i + 1)) (rw here_is at t.ranges) in
        let c : length (part (x + 24) z s) ≡ z = length_part (x + 24) z s copy_inside in
        let k : n ≤ all - done = few e in
        let m : p + n ≤ z = let y = copy_place in near e in
        let d : length (part (x + 24 + p) n s) ≡ n = length_part (x + 24 + p) n s (let y = copy_inside in omega arith) in
        let j : all - (done + n) ≡ all - done - n = omega arith in
        let u : joined s (listed_from s a links i) ≡ part (x + 24) z s ++ joined s (listed_from s a links (i + 1)) = rw (here_is, size_is, offset_is) in
        let v : part p (all - done) (joined s (listed_from s a links i)) ≡ part (x + 24 + p) n s ++ part 0 (all - done - n) (joined s (listed_from s a links (i + 1)))
        = rw u (part-two p (all - done) n (part (x + 24) z s) (joined s (listed_from s a links (i + 1))) (rw c copy_place) (rw c e)
        ∙ rw (part-part (x + 24) z p n s m)) in
        record {
          ranges = b.1;
          first = first-zero (listed_from s a links (i + 1));
          same = rw (g, length-blit) t.same;
          within = let y = t.within in omega arith;
          rest = rw (j, g) (ap (λ (i' : ℕ). blit i' (part 0 (all - done - n) (joined s (listed_from s a links (i + 1)))) (blit done (part (x + 24 + p) n s) w))
              (ap (λ (o : ℕ). done + o) (sym d))
              ∙ sym (blit-append (part (x + 24 + p) n s) done _ w) ∙ ap (λ (l : List ℕ). blit done l w) (sym v) ∙ t.rest);
        }
      where
        few : {n : ℕ} → n ≡ min (z - p) (all - done) → n ≤ all - done
        few e = rw e (min-le_right (z - p) (all - done))

        near : {n : ℕ} → n ≡ min (z - p) (all - done) → p + n ≤ z
        near {n} e = let b : n ≤ z - p = rw e (min-le_left (z - p) (all - done)) in let c = copy_place in omega arith
