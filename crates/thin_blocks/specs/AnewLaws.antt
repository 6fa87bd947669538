-- Laws of blocks made anew: where their data is read, and the loop over the links of a DL.
use Rattle.std.specs.Prelude.{ℕ, ◌+◌, ◌-◌, ◌≤◌, ◌<◌, min, List, ◌++◌, Bool, true, false, ◌≡◌, refl, ltb}
use Rattle.std.proofs.Common.{sym, ◌∙◌, le_of_lt, length-append, ltb-true, ltb-false}
use Rattle.std.proofs.Math.Path.{ap}
use Rattle.std.proofs.Math.Nat.{min-eq_left, min-eq_right}
use native.Mathlib.Omega.{arith}
use Rattle.std.proofs.Math.ListN.{length}
use borrow.Rule.Slice.PartMut.{put_mid, mid_of}
use Rattle.base.specs.ChoiceLaws.{eq_yes, eq_no}
use Rattle.base.specs.Blit.{part, blit}
use Rattle.base.specs.BlitLaws.{length-blit, blit-append}
use Rattle.mdf.specs.Block.{kind_dt, kind_dv, kind_at, size_at, link_at}
use Rattle.result.specs.Fill.{header, block_of}
use Rattle.puts.specs.PutLaws.{blit-past, part-past, lent_is, length-header}
use Rattle.filling.specs.BlocksLaws.{blit-next, length-part-min}
use Rattle.ranges.specs.Blocks.{block_in, listed_from}
use Rattle.ranges.specs.BlocksLaws.{from_next, from_end}
use Rattle.thin.specs.Fill.{kind_number}
use Rattle.thin_blocks.specs.Anew.{Anew, moved_bytes, Moves}

-- ---- one block

-- the part from where the data begins, or from the image's end
part-from : (x n r : ℕ) (s : List ℕ) → r ≡ min x (length s) → part r n s ≡ part x n s
part-from x n r s e = go (ltb (length s) x) refl
  where
    go : (t : Bool) → ltb (length s) x ≡ t → part r n s ≡ part x n s
    go true q =
        let h : length s < x = ltb-true (length s) x q in
        let z : r ≡ length s = e ∙ min-eq_right (le_of_lt h) in
        part-past r n s (omega arith) ∙ sym (part-past x n s (omega arith))
    go false q = rw (e ∙ min-eq_left (ltb-false (length s) x q))

pub anew_is : (kind x from n here : ℕ) (s d e f : List ℕ) → from ≡ min (x + 24) (length s) → n ≡ size_at s x - 24 → here ≡ min n (length s - from)
    → e ≡ blit 0 (header kind (24 + here) 0) d → f ≡ blit 24 (part from n s) e → Anew s kind x d f here
unfolding block_of
anew_is kind x from n here s d e f a b c h t =
    let same : part from n s ≡ part (x + 24) (size_at s x - 24) s = part-from (x + 24) n from s a ∙ ap (λ (k : ℕ). part (x + 24) k s) b in
    let long : here ≡ length (part (x + 24) (size_at s x - 24) s) = c ∙ sym (length-part-min from n s) ∙ ap length same in
    let front : e ≡ blit 0 (header kind (24 + length (part (x + 24) (size_at s x - 24) s)) 0) d = rw long at h in
    record {
      is = blit-next 0 24 _ _ d e f front (rw same at t) (simp length-header);
      here = long;
      within = few n (length s) from here c;
    }
  where
    few : (n l from here : ℕ) → here ≡ min n (l - from) → here ≤ l
    few n l from here c = omega arith

pub kind-dt : (s : List ℕ) (x : ℕ) → kind_at s x ≡ kind_dt → kind_dt ≡ kind_number (block_in s x).kind
unfolding block_in
kind-dt s x e = ap kind_number (eq_yes _ _ _ _ e refl)

pub kind-dv : (s : List ℕ) (x : ℕ) → (kind_at s x ≡ kind_dt → ⊥) → kind_dv ≡ kind_number (block_in s x).kind
unfolding block_in
kind-dv s x e = ap kind_number (eq_no _ _ _ _ e refl)

-- ---- the loop: blocks from link i on are left to be put at p; put, they give what all give
pub record Moving (s : List ℕ) (a links : ℕ) (d₀ : List ℕ) (i p : ℕ) (d : List ℕ) : Type 0 where
  pub inside : p ≤ length d
  pub same : length d ≡ length d₀
  pub sum : p + length (moved_bytes s (listed_from s a links i)) ≡ length (moved_bytes s (listed_from s a links 1))
  pub rest : blit p (moved_bytes s (listed_from s a links i)) d ≡ blit 0 (moved_bytes s (listed_from s a links 1)) d₀

pub moving_begin : (s : List ℕ) (a links : ℕ) (d : List ℕ) → Moving s a links d 1 0 d
moving_begin s a links d = record { inside = omega arith; same = refl; sum = omega arith; rest = refl }

length-block : (kind : ℕ) (bs : List ℕ) → length (block_of kind bs) ≡ 24 + length bs
unfolding block_of
length-block kind bs = simp (length-append, length-header)

module _ {s : List ℕ} {a links : ℕ} {d₀ : List ℕ} {i p : ℕ} {d : List ℕ} (t : Moving s a links d₀ i p d) where
  pub moving_end : links ≤ i → Moves s (listed_from s a links 1) d₀ d p
  unfolding moved_bytes blit
  moving_end h =
      let z = from_end s a links i h in
      let none : p + 0 ≡ length (moved_bytes s (listed_from s a links 1)) = rw z at t.sum in
      record { is = rw z at t.rest; past = λ _. omega arith }

  -- the next one
  module _ (h : i < links) {x kind n : ℕ} {ys : List ℕ} (is : x ≡ link_at s a i) (same : kind ≡ kind_number (block_in s x).kind)
      (w : Anew s kind x (mid_of p (length d - p) d) ys n) where
    opened : moved_bytes s (listed_from s a links i) ≡ block_of kind (part (x + 24) (size_at s x - 24) s) ++ moved_bytes s (listed_from s a links (i + 1))
    unfolding moved_bytes block_in
    opened = ap (moved_bytes s) (from_next s a links i h) ∙ rw (same, is)

    long : length (block_of kind (part (x + 24) (size_at s x - 24) s)) ≡ 24 + n
    long = length-block kind _ ∙ ap (λ (k : ℕ). 24 + k) (sym w.here)

    laid : put_mid p (length d - p) d ys ≡ blit p (block_of kind (part (x + 24) (size_at s x - 24) s)) d
    laid = lent_is p _ d ys w.is

    after : blit (p + (24 + n)) (moved_bytes s (listed_from s a links (i + 1))) (put_mid p (length d - p) d ys)
        ≡ blit 0 (moved_bytes s (listed_from s a links 1)) d₀
    after = rw laid (rw (opened, blit-append, long) at t.rest)

    total : p + (24 + n) + length (moved_bytes s (listed_from s a links (i + 1))) ≡ length (moved_bytes s (listed_from s a links 1))
    total = let e = t.sum in let l = long in omega (arith, simp length-append at (ap length opened))

    kept : length (put_mid p (length d - p) d ys) ≡ length d
    kept = ap length laid ∙ length-blit p _ d

    pub moving_turn : p + (24 + n) ≤ length d → Moving s a links d₀ (i + 1) (p + (24 + n)) (put_mid p (length d - p) d ys)
    moving_turn r = record { inside = rw kept r; same = kept ∙ t.same; sum = total; rest = after }

    -- the others have no room
    pub moving_lost : length d < p + (24 + n) → Moves s (listed_from s a links 1) d₀ (put_mid p (length d - p) d ys) p
    moving_lost r =
        let l : length d ≡ length d₀ = t.same in
        record {
          is = sym (blit-past (moved_bytes s (listed_from s a links (i + 1))) (p + (24 + n)) _ (rw kept (omega arith))) ∙ after;
          past = λ q. absurd (omega (arith, total));
        }
