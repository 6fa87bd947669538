-- The laws of sizes out of words: one for each way of the code, and the columns that are left.
use Rattle.std.specs.Prelude.{ℕ, zero, suc, ◌+◌, ◌*◌, ◌-◌, ◌/◌, ◌≤◌, ◌<◌, min, List, [], ◌∷◌, Bool, true, false, ◌≡◌, eqb, get_or}
use Rattle.std.proofs.Math.Option.{none, some}
use Rattle.std.proofs.Math.Path.{refl, ap}
use Rattle.std.proofs.Common.{sym, ◌∙◌, mul-zero, mul-le-mul_right, div-mul-le_self, div-lt_iff_lt-mul, sub-one, arith}
use Rattle.std.proofs.Math.ListN.{length}
use Rattle.base.specs.Choice.{pick, if_eq}
use Rattle.base.specs.ChoiceLaws.{eq_yes, eq_no}
use Rattle.mdf.specs.Block.{size_at, link_at}
use Rattle.plan.specs.Geometry.{align8, align_to}
use Rattle.plan.specs.Photos.{references, photos_of}
use Rattle.plan.specs.Layout.{dl_size, blocks_end, signal_end}
use Rattle.file.specs.Form.{record_bytes}
use Rattle.ranges.specs.Blocks.{links_of}
use Rattle.thin.specs.TakenOut.{most_file}
use Rattle.arranging.specs.Sized.{Cut, blocks_in, cg_bytes, structure_at, payload_at, sd_bytes, signal_size_at, sizes_at, sizes_in}

-- ---- numbers that are cut
pub cut-same : {m : ℕ} (x : ℕ) → x ≤ m → Cut m x x
cut-same x h = record { below = omega arith; near = h; whole = λ _. refl }

-- past 2^59, or the same
pub cut-past : {m x r : ℕ} → Cut m x r → most_file < r → most_file < x
cut-past c h = omega (arith, c.below)

-- ---- one column
pub cg_yes : (m : ℕ) → m ≡ 0 → 104 ≡ cg_bytes m
unfolding cg_bytes
cg_yes m e = eq_yes _ _ _ _ e refl

pub cg_no : (m : ℕ) → (m ≡ 0 → ⊥) → 112 ≡ cg_bytes m
unfolding cg_bytes
cg_no m e = eq_no _ _ _ _ e refl

cg_near : (m : ℕ) → cg_bytes m ≤ 112
unfolding cg_bytes if_eq
cg_near m = go (eqb m 0)
  where
    go : (b : Bool) → pick b 104 112 ≤ 112
    go true = omega arith
    go false = omega arith

pub cg_least : (m : ℕ) {cg : ℕ} → cg ≡ cg_bytes m → cg ≤ 112
cg_least m e = omega (arith, cg_near m)

pub dl-none : (n : ℕ) → n ≡ 0 → Cut 576460752303423489 (dl_size n) 0
unfolding dl_size
dl-none n e =
    let z : 0 ≡ dl_size n = eq_yes _ _ _ _ e refl in
    rw (← z) (cut-same 0 (omega arith))

dl_is : (n : ℕ) → (n ≡ 0 → ⊥) → 24 + 8 * (n + 1) + 16 ≡ dl_size n
unfolding dl_size
dl_is n e = eq_no _ _ _ _ e refl

pub dl-some : (n : ℕ) {r : ℕ} → (n ≡ 0 → ⊥) → r ≡ min (8 * n + 48) 576460752303423489 → Cut 576460752303423489 (dl_size n) r
dl-some n e h = rw (← dl_is n e, h) (record { below = omega arith; near = omega arith; whole = λ k. omega arith })

all-references : (s : List ℕ) (c : ℕ) → photos_of true s c ≡ references s c
unfolding photos_of
all-references s c = refl

-- sums of cut numbers, at the next multiple of 8
end_cut : (d m q x y : ℕ) → d ≤ 1152921504606846976 → Cut 576460752303423489 m x → Cut 576460752303423489 q y
    → Cut 4611686018427387904 (align8 (d + (m + q))) (align8 (d + (x + y)))
unfolding align8
end_cut d m q x y l u v =
    record {
      below = omega (arith, u.below, v.below);
      near = omega (arith, u.near, v.near);
      whole = λ h.
          let a = u.whole (omega arith) in
          let b = v.whole (omega arith) in
          rw (a, b);
    }

module _ (s w : List ℕ) (p : ℕ) where
  pub structure-by : {m cg c r a n dl : ℕ} → m ≡ get_or w (p + 5) 0 → cg ≡ cg_bytes m → c ≡ get_or w p 0 → r ≡ length (photos_of true s c) → r ≤ 65535
      → a ≡ get_or w (p + 2) 0 → n ≡ blocks_in s a → Cut 576460752303423489 (dl_size n) dl
      → Cut 1152921504606846976 (structure_at s w p) (64 + cg + (160 + 8 * r) + dl)
  unfolding structure_at
  structure-by {m} {cg} {c} {r} {a} {n} {dl} i j k q few e f x =
      let g = cg_least m j in
      let y : r ≡ length (references s c) = q ∙ ap length (all-references s c) in
      rw (← i, ← j, ← k, ← y, ← e, ← f) (record {
        below = omega (arith, x.below);
        near = omega (arith, x.near);
        whole = λ h.
            let z = x.whole (omega arith) in
            omega arith;
      })

  -- past its data blocks
  pub blocks_end_by : (d : ℕ) {a n x g b k y r : ℕ} → d ≤ 1152921504606846976 → a ≡ get_or w (p + 2) 0 → n ≡ blocks_in s a → Cut 576460752303423489 (24 * n) x
      → g ≡ get_or w (p + 1) 0 → b ≡ record_bytes s g → k ≡ get_or w (p + 3) 0 → Cut 576460752303423489 (k * b) y
      → r ≡ align8 (d + (x + y)) → Cut 4611686018427387904 (blocks_end (sizes_at s w p) d) r
  unfolding blocks_end payload_at
  blocks_end_by d {a} {n} {x} {g} {b} {k} {y} l i j u e f o v t =
      rw (← i, ← j, ← o, ← e, ← f, t) (end_cut d (24 * n) (k * b) x y l u v)

  -- past its SD
  module _ (d : ℕ) {v : ℕ} (l : d ≤ 1152921504606846976) (i : v ≡ get_or w (p + 6) 0) where
    pub signal_none : v ≡ 0 → Cut 4611686018427387904 (signal_end (signal_size_at s w p) d) d
    unfolding signal_size_at
    signal_none e =
        let z : none ≡ if_eq (get_or w (p + 6) 0) 0 none (some (sd_bytes s (get_or w p 0))) = eq_yes _ _ _ _ (sym i ∙ e) refl in
        rw (← z) (cut-same d (omega arith))

    pub signal_some : {c a n x r : ℕ} → (v ≡ 0 → ⊥) → c ≡ get_or w p 0 → a ≡ link_at s c 5 → n ≡ size_at s a - 24 → Cut 576460752303423489 n x
        → r ≡ align8 (d + (24 + x)) → Cut 4611686018427387904 (signal_end (signal_size_at s w p) d) r
    unfolding signal_size_at sd_bytes
    signal_some {c} {a} {n} {x} e j k q u t =
        let z : some (sd_bytes s (get_or w p 0)) ≡ if_eq (get_or w (p + 6) 0) 0 none (some (sd_bytes s (get_or w p 0))) = eq_no _ _ _ _ (λ y. e (i ∙ y)) refl in
        rw (← z, ← j, ← k, ← q, t) (end_cut d 24 n 24 x l (cut-same 24 (omega arith)) u)

-- ---- on a unit, if there is any
pub start_none : (u n d : ℕ) → n ≡ 0 → d ≡ if_eq n 0 d (align_to u d)
start_none u n d e = eq_yes _ _ _ _ e refl

pub start-some : (u n d : ℕ) → (n ≡ 0 → ⊥) → (d + (u - 1)) / u * u ≡ if_eq n 0 d (align_to u d)
unfolding align_to
start-some u n d e = eq_no _ _ _ _ e refl

pub start_near : (u d : ℕ) → (d + (u - 1)) / u * u ≤ d + (u - 1)
start_near u d = div-mul-le_self (d + (u - 1)) u

-- ---- so many columns
pub sizes_none : (s w : List ℕ) (p n : ℕ) → n ≡ 0 → sizes_in s w p n ≡ []
unfolding sizes_in
sizes_none s w p n e = rw e

pub sizes_cons : (s w : List ℕ) (p n : ℕ) → 0 < n → sizes_in s w p n ≡ sizes_at s w p ∷ sizes_in s w (p + 8) (n - 1)
unfolding sizes_in
sizes_cons s w p zero h = absurd (omega arith)
sizes_cons s w p (suc n) h = rw sub-one
