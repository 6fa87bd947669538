-- Starts on a unit: the next multiple, and the bytes that it leaves before it.
use Prim.{Unit, tt}
use Rattle.std.specs.Prelude.{ℕ, ◌+◌, ◌*◌, ◌-◌, ◌/◌, ◌%◌, ◌≤◌, ◌<◌, ◌≡◌, refl, Bool, true, false, List, [], ◌∷◌, ◌⊎◌, eqb, leb}
use Rattle.std.proofs.Common.{sym, ap, ◌∙◌, inl, inr, div-add-mod', mul-le-mul_right, add-mul, one-mul, eqb-true, leb-true, leb-false}
use Rattle.std.proofs.Math.Option.{Option, none, some}
use Rattle.std.proofs.Math.Nat.{div-mul-le_self, lt-div-mul-add, mul-mod_left, mod-mod_of_dvd, dvd_of_mod-eq-zero}
use native.Mathlib.Omega.{arith}
use Rattle.base.specs.Choice.{pick, if_eq}
use Rattle.base.specs.ChoiceLaws.{eq_no}
use Rattle.base.specs.Checked.{refused, fine}
use Rattle.plan.specs.Geometry.{align8, align_to}
use Rattle.plan.specs.Rules.{units, is_among, unit_in}
use Rattle.plan.specs.Layout.{Sizes, first_at, signal_at}
use Rattle.payload_laws.specs.Answers.{refused≢ok, eq_cases}

-- what a unit is
pub record IsUnit (u : ℕ) : Type 0 where
  pub least : 8 ≤ u
  pub most : u ≤ 4096
  pub eights : u % 8 ≡ 0

true≢false : false ≡ true → ⊥
true≢false e = let z : ◌≡◌ {A = ℕ} 0 1 = ap (λ (b : Bool). pick b 1 0) e in omega arith

-- what holds of all of a list holds of one among it
unfoldable AllOf : (ℕ → Type 0) → List ℕ → Type 0
AllOf P [] = Unit {0}
AllOf P (v ∷ vs) = P v × AllOf P vs

among_of : (P : ℕ → Type 0) (u : ℕ) (vs : List ℕ) → AllOf P vs → is_among u vs ≡ true → P u
unfolding AllOf is_among if_eq
among_of P u [] all q = absurd (true≢false q)
among_of P u (v ∷ vs) all q = go (among_of P u vs all.1) (eqb u v) refl q
  where
    go : (is_among u vs ≡ true → P u) → (t : Bool) → eqb u v ≡ t → pick t true (is_among u vs) ≡ true → P u
    go later true h q = rw (eqb-true u v h) all.0
    go later false h q = later q

unit_of_lem : (v : ℕ) → 8 ≤ v → v ≤ 4096 → v % 8 ≡ 0 → IsUnit v
unit_of_lem v a b c = record { least = a; most = b; eights = c }

all-units : AllOf IsUnit units
unfolding AllOf
all-units = (
  unit_of_lem 8 (omega arith) (omega arith) refl,
  (
    unit_of_lem 16 (omega arith) (omega arith) refl,
    (
      unit_of_lem 32 (omega arith) (omega arith) refl,
      (
        unit_of_lem 64 (omega arith) (omega arith) refl,
        (
          unit_of_lem 128 (omega arith) (omega arith) refl,
          (
            unit_of_lem 256 (omega arith) (omega arith) refl,
            (
              unit_of_lem 512 (omega arith) (omega arith) refl,
              (
                unit_of_lem 1024 (omega arith) (omega arith) refl,
                (
                  unit_of_lem 2048 (omega arith) (omega arith) refl,
                  (
                    unit_of_lem 4096 (omega arith) (omega arith) refl,
                    tt,
                  ),
                ),
              ),
            ),
          ),
        ),
      ),
    ),
  ),
)

pub unit_is : (u : ℕ) → unit_in u ≡ fine → IsUnit u
unfolding unit_in
unit_is u e = go (is_among u units) refl e
  where
    go : (t : Bool) → is_among u units ≡ t → pick t fine (refused 26 0) ≡ fine → IsUnit u
    go true q e = among_of IsUnit u units all-units q
    go false q e = absurd (refused≢ok e)

-- the unit 8 is what was before
pub to_eight : (x : ℕ) → align_to 8 x ≡ align8 x
unfolding align_to align8
to_eight x = refl

module _ (u x : ℕ) (h : 0 < u) where
  pub to-past : x ≤ align_to u x
  unfolding align_to
  to-past = let a = lt-div-mul-add {a = x + (u - 1)} h in omega arith

  pub to_near : align_to u x < x + u
  unfolding align_to
  to_near = let a = div-mul-le_self (x + (u - 1)) u in omega arith

  pub to_is : align_to u x % u ≡ 0
  unfolding align_to
  to_is = mul-mod_left ((x + (u - 1)) / u) u

le_or_lt : (m n : ℕ) → (m ≤ n) ⊎ (n < m)
le_or_lt m n = go (leb m n) refl
  where
    go : (t : Bool) → leb m n ≡ t → (m ≤ n) ⊎ (n < m)
    go true q = inl (leb-true m n q)
    go false q = inr (leb-false m n q)

-- the least multiple that is not below x
pub to_least : (u x m : ℕ) → 0 < u → x ≤ m → m % u ≡ 0 → align_to u x ≤ m
unfolding align_to
to_least u x m h l z =
    let q : ℕ = (x + (u - 1)) / u in
    let a : q * u ≤ x + (u - 1) = div-mul-le_self (x + (u - 1)) u in
    let b : m / u * u + m % u ≡ m = div-add-mod' m u in
    let c : q * u ≤ m / u * u = fewer q (m / u) (omega arith) in
    omega arith
  where
    fewer : (q k : ℕ) → q * u < k * u + u → q * u ≤ k * u
    fewer q k c = or_else (le_or_lt q k)
      where
        or_else : (q ≤ k) ⊎ (k < q) → q * u ≤ k * u
        or_else (inl l) = mul-le-mul_right u l
        or_else (inr l) = let a : (k + 1) * u ≤ q * u = mul-le-mul_right u (omega arith) in let b = add-mul k 1 u in absurd (omega (arith, one-mul u))

-- a multiple of a unit is one of 8
eights_of : (u m : ℕ) → IsUnit u → m % u ≡ 0 → m % 8 ≡ 0
eights_of u m i z = sym (mod-mod_of_dvd 8 m (dvd_of_mod-eq-zero 8 i.eights)) ∙ ap (λ (x : ℕ). x % 8) z

-- from the next multiple of 8 on it is the same: so fewer bytes than the unit's lie before it
pub to-again : (u x : ℕ) → IsUnit u → align_to u (align8 x) ≡ align_to u x
to-again u x i =
    let h : 0 < u = omega (arith, i.least) in
    let a : align8 x ≤ align_to u x = rw (← to_eight x) (to_least 8 x (align_to u x) (omega arith) (to-past u x h) (eights_of u (align_to u x) i (to_is u x h))) in
    let b : align_to u (align8 x) ≤ align_to u x = to_least u (align8 x) (align_to u x) h a (to_is u x h) in
    let c : align_to u x ≤ align_to u (align8 x) =
    to_least u x (align_to u (align8 x)) h (omega (arith, to-past u (align8 x) h, to-past 8 x (omega arith), to_eight x)) (to_is u (align8 x) h) in
    omega arith

-- ---- the start of a column's data blocks and of its SD
pub first_some : (u : ℕ) (z : Sizes) (d : ℕ) → (z.blocks ≡ 0 → ⊥) → align_to u d ≡ first_at u z d
unfolding first_at
first_some u z d e = eq_no _ _ _ _ e refl

module _ (u : ℕ) (i : IsUnit u) where
  pub first_past : (z : Sizes) (d : ℕ) → (d ≤ first_at u z d) × (first_at u z d < d + u)
  unfolding first_at
  first_past z d = go (eq_cases z.blocks 0 d (align_to u d) refl)
    where
      go : ((z.blocks ≡ 0) × (d ≡ first_at u z d)) ⊎ ((z.blocks ≡ 0 → ⊥) × (align_to u d ≡ first_at u z d)) → (d ≤ first_at u z d) × (first_at u z d < d + u)
      go (inl q) = (omega (arith, q.1), omega (arith, q.1, i.least))
      go (inr q) = (omega (arith, q.1, to-past u d (omega (arith, i.least))), omega (arith, q.1, to_near u d (omega (arith, i.least))))

  pub signal_past : (g : Option ℕ) (d : ℕ) → (d ≤ signal_at u g d) × (signal_at u g d < d + u)
  signal_past none d = (omega arith, omega (arith, i.least))
  signal_past (some n) d = (to-past u d (omega (arith, i.least)), to_near u d (omega (arith, i.least)))
