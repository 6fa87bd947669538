-- How many bytes the columns of a file take: their DG, CG, CN and DL, then their blocks and SD, each up to the next multiple of 8. With the unit 8 no
-- more than that, with another unit no less.
use Prim.{Unit, tt}
use Prim.Native.Nat.{ℕ, ◌+◌, ◌*◌, ◌≤◌}
use mathlib.Core.List.{List, [], ◌∷◌}
use Rattle.std.proofs.Math.Option.{Option, none, some}
use Rattle.std.specs.Prelude.{◌≡◌, refl, length}
use Rattle.std.proofs.Common.{◌∙◌}
use native.Mathlib.Omega.{arith}
use Rattle.plan.specs.Columns.{Column}
use Rattle.plan.specs.Geometry.{align8, align_to}
use Rattle.plan.specs.Layout.{cg_size, cn_size, dl_size, structure_size, Sizes, first_at, blocks_end, signal_at, signal_end, past_data, structures_end, places_end, sizes_of}
use Rattle.copies_laws.specs.AnswerLaws.{on_eq}
use Rattle.payload_laws.specs.UnitLaws.{IsUnit, to_eight, first_past, signal_past}
use Rattle.thin.specs.Place.{blocks_of, kept_sizes}

-- ---- one column, all columns

-- its SD
abbrev pub signal_bytes : Option ℕ → ℕ
signal_bytes none = 0
signal_bytes (some n) = align8 (24 + n)

-- its blocks and its SD
unfoldable pub data_bytes : Sizes → ℕ
data_bytes z = align8 (24 * z.blocks + z.payload) + signal_bytes z.signal

unfoldable pub structure_sum : List Sizes → ℕ
structure_sum [] = 0
structure_sum (z ∷ zs) = z.structure + structure_sum zs

unfoldable pub data_sum : List Sizes → ℕ
data_sum [] = 0
data_sum (z ∷ zs) = data_bytes z + data_sum zs

-- ---- multiples of 8
abbrev pub OnEight : ℕ → Type 0
OnEight a = align8 a ≡ a

unfoldable pub AllEights : List Sizes → Type 0
AllEights [] = Unit {0}
AllEights (z ∷ zs) = OnEight z.structure × AllEights zs

eights_sum : (a b : ℕ) → OnEight a → OnEight b → OnEight (a + b)
unfolding align8
eights_sum a b p q = omega arith

eights_times : (n : ℕ) → OnEight (8 * n)
unfolding align8
eights_times n = omega arith

cg_eights : (m : Option ℕ) → OnEight (cg_size m)
cg_eights none = eights_times 13
cg_eights (some m) = eights_times 14

cn_eights : (c : Column) → OnEight (cn_size c)
unfolding cn_size
cn_eights c = eights_sum 160 (8 * length c.photos) (eights_times 20) (eights_times (length c.photos))

dl_eights : (n : ℕ) → OnEight (dl_size n)
unfolding dl_size
dl_eights n = on_eq OnEight n 0 0 (24 + 8 * (n + 1) + 16) (λ _. eights_times 0) (λ _. long)
  where
    long : OnEight (24 + 8 * (n + 1) + 16)
    long = eights_sum (24 + 8 * (n + 1)) 16 (eights_sum 24 (8 * (n + 1)) (eights_times 3) (eights_times (n + 1))) (eights_times 2)

-- DG, CG, CN and DL of a column with n blocks
structure_eights : (c : Column) (n : ℕ) → OnEight (64 + cg_size c.master + cn_size c + dl_size n)
structure_eights c n =
    eights_sum (64 + cg_size c.master + cn_size c) (dl_size n) (eights_sum (64 + cg_size c.master) (cn_size c)
    (eights_sum 64 (cg_size c.master) (eights_times 8) (cg_eights c.master)) (cn_eights c)) (dl_eights n)

pub sizes_eights : (s : List ℕ) (size : ℕ) (cs : List Column) → AllEights (sizes_of s size cs)
unfolding AllEights sizes_of structure_size
sizes_eights s size [] = tt
sizes_eights s size (c ∷ cs) = (structure_eights c _, sizes_eights s size cs)

pub kept_eights : (cs : List Column) → AllEights (kept_sizes cs)
unfolding AllEights kept_sizes
kept_eights [] = tt
kept_eights (c ∷ cs) = (structure_eights c (blocks_of c), kept_eights cs)

-- ---- DG, CG, CN and DL, one after the other
pub structures_end_lem : (a : ℕ) (zs : List Sizes) → structures_end a zs ≡ a + structure_sum zs
unfolding structures_end structure_sum
structures_end_lem a [] = omega arith
structures_end_lem a (z ∷ zs) = omega (arith, structures_end_lem (a + z.structure) zs)

pub structures_on : (a : ℕ) (zs : List Sizes) → AllEights zs → OnEight a → OnEight (structures_end a zs)
unfolding structures_end AllEights
structures_on a [] h p = p
structures_on a (z ∷ zs) h p = structures_on (a + z.structure) zs h.1 (eights_sum a z.structure p h.0)

-- ---- blocks and SD
pub align_least : (a b : ℕ) → a ≤ b → align8 a ≤ align8 b
unfolding align8
align_least a b h = omega arith

align_on : (a : ℕ) → OnEight (align8 a)
unfolding align8
align_on a = omega arith

align_past : (a n : ℕ) → OnEight a → align8 (a + n) ≡ a + align8 n
unfolding align8
align_past a n h = omega arith

module _ (u : ℕ) (i : IsUnit u) where
  blocks-past : (z : Sizes) (d : ℕ) → OnEight d → d + align8 (24 * z.blocks + z.payload) ≤ blocks_end z (first_at u z d)
  unfolding blocks_end
  blocks-past z d h =
      omega (
        arith,
        align_past d (24 * z.blocks + z.payload) h,
        align_least (d + (24 * z.blocks + z.payload)) (first_at u z d + (24 * z.blocks + z.payload)) (omega (arith, (first_past u i z d).0)),
      )

  blocks-on : (z : Sizes) (a : ℕ) → OnEight (blocks_end z a)
  unfolding blocks_end
  blocks-on z a = align_on _

  sd_past_lem : (g : Option ℕ) (d : ℕ) → OnEight d → (d + signal_bytes g ≤ signal_end g (signal_at u g d)) × OnEight (signal_end g (signal_at u g d))
  sd_past_lem none d h = (omega arith, h)
  sd_past_lem (some n) d h =
      let p = signal_past u i (some n) d in
      (omega (arith, align_past d (24 + n) h, align_least (d + (24 + n)) (align_to u d + (24 + n)) (omega (arith, p.0))), align_on _)

  one-past : (z : Sizes) (d : ℕ) → OnEight d → (d + data_bytes z ≤ past_data u z d) × OnEight (past_data u z d)
  unfolding data_bytes
  one-past z d h =
      let e : ℕ = blocks_end z (first_at u z d) in
      let s = sd_past_lem z.signal e (blocks-on z (first_at u z d)) in
      (omega (arith, blocks-past z d h, s.0), s.1)

  -- at least these bytes, whatever the unit
  pub places_past : (d : ℕ) (zs : List Sizes) → OnEight d → (d + data_sum zs ≤ places_end u d zs) × OnEight (places_end u d zs)
  unfolding places_end data_sum
  places_past d [] h = (omega arith, h)
  places_past d (z ∷ zs) h =
      let p = one-past z d h in
      let q = places_past (past_data u z d) zs p.1 in
      (omega (arith, p.0, q.0), q.1)

-- just these with the unit 8
eight_first : (z : Sizes) (d : ℕ) → OnEight d → first_at 8 z d ≡ d
unfolding first_at
eight_first z d h = on_eq (λ (v : ℕ). v ≡ d) z.blocks 0 d (align_to 8 d) (λ _. refl) (λ _. to_eight d ∙ h)

eight_sd : (g : Option ℕ) (d : ℕ) → OnEight d → signal_end g (signal_at 8 g d) ≡ d + signal_bytes g
eight_sd none d h = omega arith
eight_sd (some n) d h =
    let e : align_to 8 d ≡ d = to_eight d ∙ h in
    rw e (align_past d (24 + n) h)

eight_blocks : (z : Sizes) (d : ℕ) → OnEight d → blocks_end z (first_at 8 z d) ≡ d + align8 (24 * z.blocks + z.payload)
unfolding blocks_end
eight_blocks z d h = rw (eight_first z d h) (align_past d (24 * z.blocks + z.payload) h)

eight_one : (z : Sizes) (d : ℕ) → OnEight d → past_data 8 z d ≡ d + data_bytes z
unfolding data_bytes
eight_one z d h =
    let e : ℕ = blocks_end z (first_at 8 z d) in
    let on : OnEight e = rw (eight_blocks z d h) (eights_sum d _ h (align_on (24 * z.blocks + z.payload))) in
    omega (arith, eight_sd z.signal e on, eight_blocks z d h)

data_on : (z : Sizes) → OnEight (data_bytes z)
unfolding data_bytes
data_on z = eights_sum _ (signal_bytes z.signal) (align_on _) (go z.signal)
  where
    go : (g : Option ℕ) → OnEight (signal_bytes g)
    go none = eights_times 0
    go (some n) = align_on (24 + n)

pub places_eight : (d : ℕ) (zs : List Sizes) → OnEight d → places_end 8 d zs ≡ d + data_sum zs
unfolding places_end data_sum
places_eight d [] h = omega arith
places_eight d (z ∷ zs) h =
    let p = eight_one z d h in
    let on : OnEight (past_data 8 z d) = rw p (eights_sum d (data_bytes z) h (data_on z)) in
    omega (arith, places_eight (past_data 8 z d) zs on)
