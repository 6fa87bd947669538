-- Laws of keys: the first part in which two differ, or none.
use Rattle.std.specs.Prelude.{ℕ, ◌+◌, List, [], ◌∷◌, Bool, not, ◌≡◌}
use Rattle.std.proofs.Math.Bool.{true, false}
use Rattle.std.specs.Bool.{beq}
use Rattle.std.proofs.lemmas.Bool.{false≢true}
use Rattle.std.proofs.Math.Path.{refl, sym}
use Rattle.std.proofs.Common.{ap, ◌∙◌, arith}
use Rattle.std.proofs.Math.Nat.{add-zero}
use Rattle.std.proofs.Math.Dec.{eqb}
use borrow.Author.Tests.{eqb-true, eqb-false}
use Rattle.base.specs.Choice.{pick}
use Rattle.base.specs.Field.{le_at}
use Rattle.mdf.specs.Block.{link_at, data_at}
use Rattle.plan.specs.Channel.{channel_type, bit_offset, bit_count, channel_flags, channel_bytes, keeps_inval, both}
use Rattle.result.specs.Sharing.{same, text_at, sync_type, data_type, conversion_of, unit_of, key_of}
use Rattle.result.specs.SharingLaws.{same_self, same_first, other-first, same_parts}
use Rattle.sharing.specs.Key.{form_key, rest_key}

-- ---- what a test says
pub tests_same : {x y u v : ℕ} → x ≡ u → y ≡ v → eqb x y ≡ eqb u v
tests_same e f = rw (e, f)

not-true : (b : Bool) → not b ≡ true → b ≡ false
not-true true e = sym e
not-true false e = refl

not-false : (b : Bool) → not b ≡ false → b ≡ true
not-false true e = refl
not-false false e = sym e

are_equal : {t : Bool} (x y : ℕ) → t ≡ eqb x y → not t ≡ false → x ≡ y
are_equal {t} x y e n = eqb-true x y (sym e ∙ not-false t n)

are_others : {t : Bool} (x y : ℕ) → t ≡ eqb x y → not t ≡ true → x ≡ y → ⊥
are_others {t} x y e n = eqb-false x y (sym e ∙ not-true t n)

-- the one number, 1 or 0, of two answers
kept-others : (x y : Bool) → not (beq x y) ≡ true → ◌≡◌ {A = ℕ} (pick x 1 0) (pick y 1 0) → ⊥
kept-others true true n = absurd (false≢true n)
kept-others true false n = λ z. omega arith
kept-others false true n = λ z. omega arith
kept-others false false n = absurd (false≢true n)

kept_equal : (x y : Bool) → not (beq x y) ≡ false → ◌≡◌ {A = ℕ} (pick x 1 0) (pick y 1 0)
kept_equal true true n = refl
kept_equal true false n = absurd (false≢true (sym n))
kept_equal false true n = absurd (false≢true (sym n))
kept_equal false false n = refl

-- ---- type, sync type, data type, bit offset, bits; the bytes follow
module _ (s : List ℕ) (m k : ℕ) where
  types_same : {t : Bool} → t ≡ eqb (le_at 1 s (data_at s m + 0)) (le_at 1 s (data_at s k + 0)) → t ≡ eqb (channel_type s m) (channel_type s k)
  unfolding channel_type
  types_same e = e ∙ simp add-zero

  -- bits and bytes
  bits_same : channel_type s m ≡ channel_type s k → bit_offset s m ≡ bit_offset s k → {r : Bool} → r ≡ eqb (bit_count s m) (bit_count s k)
      → r ≡ same (bit_count s m ∷ channel_bytes s m ∷ []) (bit_count s k ∷ channel_bytes s k ∷ [])
  unfolding channel_bytes
  bits_same e f {r} q = go (eqb (bit_count s m) (bit_count s k)) refl
    where
      go : (b : Bool) → eqb (bit_count s m) (bit_count s k) ≡ b → r ≡ same (bit_count s m ∷ channel_bytes s m ∷ []) (bit_count s k ∷ channel_bytes s k ∷ [])
      go true h =
          let i = eqb-true (bit_count s m) (bit_count s k) h in
          let j : channel_bytes s m ≡ channel_bytes s k = rw (e, f, i) in
          same_first _ _ (channel_bytes s m ∷ []) (channel_bytes s k ∷ []) i (rw j (q ∙ h ∙ sym (same_self (channel_bytes s k ∷ []))))
      go false h = q ∙ h ∙ other-first _ _ _ _ (eqb-false (bit_count s m) (bit_count s k) h)

  module _ {t : Bool} (a : t ≡ eqb (le_at 1 s (data_at s m + 0)) (le_at 1 s (data_at s k + 0))) where
    pub form_type : not t ≡ true → false ≡ same (form_key s m) (form_key s k)
    unfolding form_key
    form_type z = other-first _ _ _ _ (are_others _ _ (types_same a) z)

    module _ (at : not t ≡ false) {u : Bool} (b : u ≡ eqb (le_at 1 s (data_at s m + 1)) (le_at 1 s (data_at s k + 1))) where
      pub form_sync : not u ≡ true → false ≡ same (form_key s m) (form_key s k)
      unfolding form_key sync_type
      form_sync z = same_first _ _ _ _ (are_equal _ _ (types_same a) at) (other-first _ _ _ _ (are_others _ _ b z))

      module _ (bt : not u ≡ false) {v : Bool} (c : v ≡ eqb (le_at 1 s (data_at s m + 2)) (le_at 1 s (data_at s k + 2))) where
        pub form_data : not v ≡ true → false ≡ same (form_key s m) (form_key s k)
        unfolding form_key sync_type data_type
        form_data z =
            same_first _ _ _ _ (are_equal _ _ (types_same a) at) (same_first _ _ _ _ (are_equal _ _ b bt)
            (other-first _ _ _ _ (are_others _ _ c z)))

        module _ (ct : not v ≡ false) {w : Bool} (d : w ≡ eqb (le_at 1 s (data_at s m + 3)) (le_at 1 s (data_at s k + 3))) where
          pub form_offset : not w ≡ true → false ≡ same (form_key s m) (form_key s k)
          unfolding form_key sync_type data_type bit_offset
          form_offset z =
              same_first _ _ _ _ (are_equal _ _ (types_same a) at) (same_first _ _ _ _ (are_equal _ _ b bt)
              (same_first _ _ _ _ (are_equal _ _ c ct) (other-first _ _ _ _ (are_others _ _ d z))))

          pub form_bits : not w ≡ false → {r : Bool} → r ≡ eqb (le_at 4 s (data_at s m + 8)) (le_at 4 s (data_at s k + 8))
              → r ≡ same (form_key s m) (form_key s k)
          unfolding form_key sync_type data_type bit_offset bit_count
          form_bits dt q =
              let e = are_equal (channel_type s m) (channel_type s k) (types_same a) at in
              let f = are_equal (bit_offset s m) (bit_offset s k) d dt in
              same_first _ _ _ _ e (same_first _ _ _ _ (are_equal _ _ b bt)
              (same_first _ _ _ _ (are_equal _ _ c ct) (same_first _ _ _ _ f (bits_same e f q))))

-- ---- flags, conversion, kept invalidation byte, unit
module _ (s : List ℕ) (g m h k : ℕ) {t : Bool} (a : t ≡ eqb (le_at 4 s (data_at s m + 12)) (le_at 4 s (data_at s k + 12))) where
  pub rest_flags : not t ≡ true → false ≡ same (rest_key s g m) (rest_key s h k)
  unfolding rest_key channel_flags
  rest_flags z = other-first _ _ _ _ (are_others _ _ a z)

  module _ (at : not t ≡ false) {x y : ℕ} (p : x ≡ link_at s m 4) (q : y ≡ link_at s k 4) where
    pub rest_conversion : (x ≡ y → ⊥) → false ≡ same (rest_key s g m) (rest_key s h k)
    unfolding rest_key channel_flags conversion_of
    rest_conversion n = same_first _ _ _ _ (are_equal _ _ a at) (other-first _ _ _ _ (λ z. n (p ∙ z ∙ sym q)))

    module _ (e : x ≡ y) {i j : Bool} (u : i ≡ keeps_inval s g m) (v : j ≡ keeps_inval s h k) where
      pub rest-kept : not (beq i j) ≡ true → false ≡ same (rest_key s g m) (rest_key s h k)
      unfolding rest_key channel_flags conversion_of
      rest-kept n =
          same_first _ _ _ _ (are_equal _ _ a at) (same_first _ _ _ _ (sym p ∙ e ∙ q)
          (other-first _ _ _ _ (rw (← u, ← v) (kept-others i j n))))

      pub rest_unit : not (beq i j) ≡ false → {r : Bool} → r ≡ same (text_at s (unit_of s m)) (text_at s (unit_of s k))
          → r ≡ same (rest_key s g m) (rest_key s h k)
      unfolding rest_key channel_flags conversion_of
      rest_unit n w =
          same_first _ _ _ _ (are_equal _ _ a at) (same_first _ _ _ _ (sym p ∙ e ∙ q)
          (same_first _ _ _ _ (rw (← u, ← v) (kept_equal i j n)) w))

-- ---- the whole key
module _ (s : List ℕ) (g m n h k j : ℕ) where
  pub key_records : (n ≡ j → ⊥) → false ≡ same (key_of s n g m) (key_of s j h k)
  unfolding key_of
  key_records z = other-first _ _ _ _ z

  key_both : n ≡ j → same (key_of s n g m) (key_of s j h k) ≡ both (same (form_key s m) (form_key s k)) (same (rest_key s g m) (rest_key s h k))
  unfolding key_of form_key rest_key
  key_both e = sym (same_first _ _ _ _ e refl) ∙ same_parts (form_key s m) (form_key s k) (rest_key s g m) (rest_key s h k) refl

  module _ (e : n ≡ j) {t : Bool} (f : t ≡ same (form_key s m) (form_key s k)) where
    pub key_form : not t ≡ true → false ≡ same (key_of s n g m) (key_of s j h k)
    key_form z = sym (key_both e ∙ ap (λ (b : Bool). both b (same (rest_key s g m) (rest_key s h k))) (sym f ∙ not-true t z))

    pub key_rest : not t ≡ false → {r : Bool} → r ≡ same (rest_key s g m) (rest_key s h k) → r ≡ same (key_of s n g m) (key_of s j h k)
    key_rest z w = w ∙ sym (key_both e ∙ ap (λ (b : Bool). both b (same (rest_key s g m) (rest_key s h k))) (sym f ∙ not-false t z))
