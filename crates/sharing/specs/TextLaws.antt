-- Laws of texts: the ways to their kind and their bytes, and when two are equal.
use Rattle.std.specs.Prelude.{ℕ, ◌+◌, ◌-◌, min, Bool, true, false, ◌≡◌, eqb}
use mathlib.Core.List.{List, [], ◌∷◌}
use Rattle.std.proofs.Math.Path.{refl, sym, ap}
use Rattle.std.proofs.Common.{◌∙◌, eqb-true}
use native.Mathlib.Omega.{arith}
use Rattle.std.proofs.Math.ListN.{length, take, drop, length-drop}
use Rattle.std.proofs.lemmas.Bool.{eqb-false}
use Rattle.std.proofs.lemmas.List.{length-take, take_min}
use Rattle.base.specs.ChoiceLaws.{eq_yes, eq_no}
use Rattle.base.specs.Blit.{part}
use Rattle.mdf.specs.Block.{kind_tx, kind_md, kind_at, size_at}
use Rattle.result.specs.Sharing.{same, text_at}
use Rattle.result.specs.SharingLaws.{same_self, same_first, other-first, other_length}
use Rattle.sharing.specs.Text.{text_kind, body, BodyOf}

-- ---- the kind
module _ (s : List ℕ) (a : ℕ) where
  pub kind-none : a ≡ 0 → 0 ≡ text_kind s a
  unfolding text_kind
  kind-none z = eq_yes _ _ _ _ z refl

  module _ (link : a ≡ 0 → ⊥) {k : ℕ} (e : k ≡ kind_at s a) where
    pub kind-TX : k ≡ kind_tx → k ≡ text_kind s a
    unfolding text_kind
    kind-TX t = eq_no _ _ _ _ link (eq_yes _ _ _ _ (sym e ∙ t) e)

    pub kind-MD : (k ≡ kind_tx → ⊥) → k ≡ kind_md → k ≡ text_kind s a
    unfolding text_kind
    kind-MD n t = eq_no _ _ _ _ link (eq_no _ _ _ _ (λ x. n (e ∙ x)) (eq_yes _ _ _ _ (sym e ∙ t) e))

    pub kind-other : (k ≡ kind_tx → ⊥) → (k ≡ kind_md → ⊥) → 0 ≡ text_kind s a
    unfolding text_kind
    kind-other n m = eq_no _ _ _ _ link (eq_no _ _ _ _ (λ x. n (e ∙ x)) (eq_no _ _ _ _ (λ x. m (e ∙ x)) refl))

-- ---- the bytes past the header
module _ (s : List ℕ) (a : ℕ) where
  pub body-of : {n r : ℕ} → n ≡ size_at s a → r ≡ min (n - 24) (length s - 24 - a) → BodyOf s a r
  unfolding body part
  body-of {n} {r} e f =
      let d : length s - 24 - a ≡ length (drop (a + 24) s) = omega (arith, length-drop (a + 24) s) in
      let h : r ≡ min (size_at s a - 24) (length (drop (a + 24) s)) = rw (← d, ← e) f in
      record {
        is = sym (ap (λ (k : ℕ). take k (drop (a + 24) s)) h ∙ take_min (size_at s a - 24) (drop (a + 24) s));
        size = length-take (size_at s a - 24) (drop (a + 24) s) ∙ sym h;
        inside = λ z. omega arith;
      }

-- ---- a text is its kind and these bytes
pub data Told (s : List ℕ) (a : ℕ) : Type 0 where
  none : text_kind s a ≡ 0 → text_at s a ≡ [] → Told s a
  some : (text_kind s a ≡ 0 → ⊥) → text_at s a ≡ text_kind s a ∷ body s a → Told s a

pub told : (s : List ℕ) (a : ℕ) → Told s a
unfolding text_at body
told s a = go (eqb a 0) refl
  where
    led : (a ≡ 0 → ⊥) → (t u : Bool) → eqb (kind_at s a) kind_tx ≡ t → eqb (kind_at s a) kind_md ≡ u → Told s a
    led link true u p q =
        let e = eqb-true (kind_at s a) kind_tx p in
        let k = kind-TX s a link refl e in
        some (λ z. omega arith) (sym (eq_no _ _ _ _ link (eq_yes _ _ _ _ e refl)) ∙ ap (λ (x : ℕ). x ∷ body s a) k)
    led link false true p q =
        let n = eqb-false (kind_at s a) kind_tx p in
        let e = eqb-true (kind_at s a) kind_md q in
        let k = kind-MD s a link refl n e in
        some (λ z. omega arith) (sym (eq_no _ _ _ _ link (eq_no _ _ _ _ n (eq_yes _ _ _ _ e refl))) ∙ ap (λ (x : ℕ). x ∷ body s a) k)
    led link false false p q =
        let n = eqb-false (kind_at s a) kind_tx p in
        let m = eqb-false (kind_at s a) kind_md q in
        none (sym (kind-other s a link refl n m)) (sym (eq_no _ _ _ _ link (eq_no _ _ _ _ n (eq_no _ _ _ _ m refl))))

    go : (t : Bool) → eqb a 0 ≡ t → Told s a
    go true p = let e = eqb-true a 0 p in none (sym (kind-none s a e)) (sym (eq_yes _ _ _ _ e refl))
    go false p = led (eqb-false a 0 p) (eqb (kind_at s a) kind_tx) (eqb (kind_at s a) kind_md) refl refl

-- ---- equal texts
module _ (s : List ℕ) (a b : ℕ) {j k : ℕ} (p : j ≡ text_kind s a) (q : k ≡ text_kind s b) where
  pub texts_apart : (k ≡ j → ⊥) → false ≡ same (text_at s a) (text_at s b)
  texts_apart n = go (told s a) (told s b)
    where
      go : Told s a → Told s b → false ≡ same (text_at s a) (text_at s b)
      go (none x e) (none y f) = absurd (n (omega arith))
      go (none x e) (some y f) = rw (e, f) (other_length [] (text_kind s b ∷ body s b) (λ l. omega arith))
      go (some x e) (none y f) = rw (e, f) (other_length (text_kind s a ∷ body s a) [] (λ l. omega arith))
      go (some x e) (some y f) = rw (e, f) (other-first _ _ _ _ (λ z. n (omega arith)))

  pub texts_none : k ≡ j → j ≡ 0 → true ≡ same (text_at s a) (text_at s b)
  texts_none h z = go (told s a) (told s b)
    where
      go : Told s a → Told s b → true ≡ same (text_at s a) (text_at s b)
      go (none x e) (none y f) = rw (e, f) (sym (same_self []))
      go (none x e) (some y f) = absurd (y (omega arith))
      go (some x e) t = absurd (x (omega arith))

  -- by their bytes
  pub texts_by : k ≡ j → (j ≡ 0 → ⊥) → {r : Bool} → r ≡ same (body s a) (body s b) → r ≡ same (text_at s a) (text_at s b)
  texts_by h z {r} w = go (told s a) (told s b)
    where
      go : Told s a → Told s b → r ≡ same (text_at s a) (text_at s b)
      go (none x e) t = absurd (z (omega arith))
      go (some x e) (none y f) = absurd (z (omega arith))
      go (some x e) (some y f) = rw (e, f) (same_first _ _ _ _ (omega arith) w)

-- equal numbers of bytes, or others
module _ {s : List ℕ} {a b m n : ℕ} (x : BodyOf s a m) (y : BodyOf s b n) where
  pub bodies_apart : (n ≡ m → ⊥) → false ≡ same (body s a) (body s b)
  bodies_apart h = let u = x.size in let v = y.size in other_length (body s a) (body s b) (λ z. h (omega arith))

  pub bodies-none : n ≡ m → m ≡ 0 → true ≡ same (body s a) (body s b)
  unfolding part same
  bodies-none h z =
      let u : body s a ≡ [] = rw z at x.is in
      let w : n ≡ 0 = omega arith in
      let v : body s b ≡ [] = rw w at y.is in
      rw (u, v)

  pub bodies-by : n ≡ m → {r : Bool} → r ≡ same (part (a + 24) m s) (part (b + 24) m s) → r ≡ same (body s a) (body s b)
  bodies-by h w = rw (x.is, y.is, h) w
