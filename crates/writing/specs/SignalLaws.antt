-- The turns of the loops over the fragments of signal data, and a header's length modulo 2^64.
use Rattle.std.specs.Prelude.{◌≡◌, ℕ, ◌+◌, ◌-◌, ◌%◌, ◌^◌, ◌<◌, ◌≤◌, min, List, length, drop, slice_index}
use Rattle.std.proofs.Common.{sym, ap, ◌∙◌, add_assoc, length-take, length-drop}
use Rattle.std.proofs.Math.Nat.{mod-add-mod, add-mod-mod, mod-mod}
use native.Mathlib.Omega.{arith}
use Rattle.std.proofs.Math.ListN.{length-append}
use Rattle.base.specs.Field.{le}
use Rattle.base.specs.Blit.{part, blit}
use Rattle.base.specs.BlitLaws.{blit-append}
use Rattle.mdf.specs.Records.{joined}
use Rattle.result.specs.Fill.{header, block_of}
use Rattle.puts.specs.PutLaws.{blit-past, part-past, le_wrap, length-header}
use Rattle.records.specs.Ahead.{fragments_from}
use Rattle.records.specs.FragmentLaws.{from_more, from-none}

-- ---- bytes that lie in the image
pub inside_none : (o n : ℕ) (s : List ℕ) → length s ≤ o → 0 ≡ length (part o n s)
inside_none o n s h = rw (part-past o n s h)

pub inside_some : (o n : ℕ) (s : List ℕ) {r : ℕ} → r ≡ min n (length s - o) → r ≡ length (part o n s)
unfolding part
inside_some o n s e = e ∙ sym (length-take n (drop o s) ∙ rw length-drop)

-- ---- their sum
module _ (s ws : List ℕ) (i sum v : ℕ) (t : (sum + length (joined s (fragments_from ws i))) % 2 ^ 64 ≡ v) where
  pub sum_turn : i + 3 ≤ length ws → {here more : ℕ} → here ≡ length (part (slice_index ws i) (slice_index ws (i + 1)) s) → more ≡ (sum + here) % 2
      ^ 64
      → (more + length (joined s (fragments_from ws (i + 3)))) % 2 ^ 64 ≡ v
  unfolding joined
  sum_turn h {here} {more} e q =
      let rest : ℕ = length (joined s (fragments_from ws (i + 3))) in
      let u : (sum + (here + rest)) % 2 ^ 64 ≡ v = rw (from_more ws i h, length-append, ← e) at t in
      rw (q, mod-add-mod, add_assoc) u

  pub sum_end : length ws < i + 3 → sum % 2 ^ 64 ≡ v
  unfolding joined
  sum_end h =
      let z : sum + 0 ≡ sum = omega arith in
      rw (from-none ws i h, z) at t

-- ---- their copy
module _ (s ws : List ℕ) (i to : ℕ) (d g : List ℕ) (t : blit to (joined s (fragments_from ws i)) d ≡ g) where
  pub copy_lost : length d ≤ to → d ≡ g
  copy_lost h = sym (blit-past (joined s (fragments_from ws i)) to d h) ∙ t

  copy-on : i + 3 ≤ length ws
      → blit (to + length (part (slice_index ws i) (slice_index ws (i + 1)) s)) (joined s (fragments_from ws (i + 3)))
      (blit to (part (slice_index ws i) (slice_index ws (i + 1)) s) d) ≡ g
  unfolding joined
  copy-on h = rw (from_more ws i h, blit-append) at t

  pub copy_turn : i + 3 ≤ length ws → {here : ℕ} {e : List ℕ} → here ≡ length (part (slice_index ws i) (slice_index ws (i + 1)) s)
      → e ≡ blit to (part (slice_index ws i) (slice_index ws (i + 1)) s) d → blit (to + here) (joined s (fragments_from ws (i + 3))) e ≡ g
  copy_turn h p q = rw (p, q) (copy-on h)

  pub copy_full : i + 3 ≤ length ws → {here : ℕ} {e : List ℕ} → here ≡ length (part (slice_index ws i) (slice_index ws (i + 1)) s)
      → e ≡ blit to (part (slice_index ws i) (slice_index ws (i + 1)) s) d → length e ≤ to + here → e ≡ g
  copy_full h {here} {e} p q l = sym (blit-past (joined s (fragments_from ws (i + 3))) (to + here) e l) ∙ copy_turn h p q

  pub copy_end : length ws < i + 3 → d ≡ g
  unfolding joined blit
  copy_end h = rw (from-none ws i h) at t

-- ---- the block
le_same : (x y : ℕ) → x % 2 ^ 64 ≡ y % 2 ^ 64 → le 8 x ≡ le 8 y
le_same x y e = sym (le_wrap 8 x) ∙ ap (le 8) e ∙ le_wrap 8 y

header-same : (kind x y links : ℕ) → x % 2 ^ 64 ≡ y % 2 ^ 64 → header kind x links ≡ header kind y links
unfolding header
header-same kind x y links e = rw (le_same x y e)

pub signal_is : (kind : ℕ) (p d e f : List ℕ) (r x : ℕ) → r % 2 ^ 64 ≡ length p % 2 ^ 64 → x ≡ (24 + r) % 2 ^ 64
    → e ≡ blit 0 (header kind x 0) d → f ≡ blit 24 p e → f ≡ blit 0 (block_of kind p) d
unfolding block_of
signal_is kind p d e f r x a b c q =
    let m : (24 + r) % 2 ^ 64 ≡ (24 + length p) % 2 ^ 64 = sym (add-mod-mod 24 r (2 ^ 64)) ∙ rw a (add-mod-mod 24 (length p) (2 ^ 64)) in
    let n : x % 2 ^ 64 ≡ (24 + length p) % 2 ^ 64 = rw b (wrap_wrap (24 + r)) ∙ m in
    rw (blit-append, length-header, ← header-same kind x (24 + length p) 0 n, ← c) q
  where
    wrap_wrap : (y : ℕ) → y % 2 ^ 64 % 2 ^ 64 ≡ y % 2 ^ 64
    wrap_wrap y = mod-mod y (2 ^ 64)
