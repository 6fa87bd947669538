-- Laws of a stretch one record longer.
use Rattle.std.specs.Prelude.{ℕ, ◌+◌, ◌-◌, ◌*◌, ◌≤◌, ◌<◌, ◌≡◌, refl, List, Option, Some, None}
use Rattle.std.proofs.Common.{add-zero, mul-le-mul, arith}
use Rattle.places.specs.declared.stretch.Stretch.{Stretch}
use Rattle.places.specs.Longer.{RecordAt, LongerBy}
use Rattle.places.specs.Stretch.{StretchOf}
use Rattle.places.specs.StretchLaws.{stretch_one, stretch_any, stretch_more}

some≢none : {A B : Type 0} {x : A} → ◌≡◌ {A = Option A} (Some x) None → B
some≢none e = absurd (let z : ◌≡◌ {A = ℕ} 0 1 = cc in omega arith)

none≢some : {A B : Type 0} {x : A} → ◌≡◌ {A = Option A} None (Some x) → B
none≢some e = absurd (let z : ◌≡◌ {A = ℕ} 0 1 = cc in omega arith)

same_some : {A : Type 0} {x y : A} → ◌≡◌ {A = Option A} (Some x) (Some y) → y ≡ x
same_some e = cc

module _ (t : Stretch) (p : ℕ) where
  -- one that is a record more
  made : (u : Stretch) → ((s : List ℕ) (d k : ℕ) (gs ws : List ℕ) → StretchOf s d k gs ws t → RecordAt s d k gs ws (t.number + t.count) p → StretchOf s d k gs ws u)
      → u.number ≡ t.number → u.count ≡ t.count + 1 → LongerBy t p (Some u)
  made u f a b = record {
    right = λ r e. rw (same_some e) f;
    from = λ r e. rw (same_some e) a;
    count = λ r e. rw (same_some e) b;
    first = λ z e. some≢none e;
  }

  pub longer-first : t.count ≡ 0 → LongerBy t p (Some (record { number = t.number; first = p; stride = 0; count = 1 }))
  longer-first e =
      made _ (λ s d k gs ws v r. stretch_one t.number p 0 _ (rw (e, add-zero) at r.is) r.inside) refl (rw e)

  pub longer-second : t.count ≡ 1 → t.first ≤ p
      → LongerBy t p (Some (record { number = t.number; first = t.first; stride = p - t.first; count = 2 }))
  longer-second e h =
      let q : t.first + 1 * (p - t.first) ≡ p = omega arith in
      made _
      (λ s d k gs ws v r. stretch_more _ (stretch_any (p - t.first) (omega arith) (rw e at v)) (rw (e, ← q) at r.is) (rw (← q) at r.inside))
      refl (rw e)

  pub longer-next : 1 < t.count → t.first ≤ p → p - t.first ≡ t.count * t.stride
      → LongerBy t p (Some (record { number = t.number; first = t.first; stride = t.stride; count = t.count + 1 }))
  longer-next c h e =
      let q : t.first + t.count * t.stride ≡ p = omega arith in
      made _ (λ s d k gs ws v r. stretch_more _ v (rw (← q) at r.is) (rw (← q) at r.inside)) refl refl

  pub longer_not : (t.count ≡ 0 → ⊥) → LongerBy t p None
  longer_not z = record { right = λ r e. none≢some e; from = λ r e. none≢some e; count = λ r e. none≢some e; first = λ e _. z e }

pub product_low : (a b : ℕ) → a ≤ 4294967295 → b ≤ 4294967295 → a * b < 18446744073709551616
product_low a b h i = let m = mul-le-mul h i in omega arith
