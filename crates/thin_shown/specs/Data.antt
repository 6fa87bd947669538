-- "the data of HD, DG, CG and CN .. stay" (document 02, request 13): the data of a block of the new file, byte by byte and field by field.
use Prim.Native.Nat.{ℕ, zero, suc, ◌+◌, ◌*◌, ◌-◌, ◌≤◌, ◌<◌}
use Rattle.std.specs.Prelude.{List, [], ◌∷◌, ◌++◌, Bool, ◌≡◌, length, take, drop, replicate}
use Rattle.std.proofs.Math.Bool.{true, false}
use Rattle.std.proofs.Math.Path.{refl, sym, ap}
use Rattle.std.proofs.Common.{◌∙◌, add-zero, lit<, ltb-true, ltb-false, length-append, get_or-take, get_or-drop, length-take-le}
use native.Mathlib.Omega.{arith}
use Rattle.std.proofs.Math.Dec.{ltb}
use Rattle.std.proofs.Math.ListN.{get_or}
use Rattle.std.proofs.lemmas.List.{length-replicate}
use Rattle.base.specs.Choice.{if_lt}
use Rattle.base.specs.ChoiceLaws.{lt_yes, lt_no}
use Rattle.base.specs.Blit.{part}
use Rattle.base.specs.Field.{le_at}
use Rattle.mdf.specs.Block.{size_at, links_at, data_at}
use Rattle.mdf.specs.Group.{group_flags, samples, inval_bytes}
use Rattle.mdf.specs.Walk.{id_size}
use Rattle.plan.specs.Channel.{channel_type}
use Rattle.plan.specs.Photos.{photo_count}
use Rattle.result.specs.Fill.{data_of}
use Rattle.result.specs.Guarantee.{Stands}
use Rattle.shown_laws.specs.Standing.{byte_of}
use Rattle.file.specs.Form.{cycles, record_bytes}
use Rattle.thin.specs.Fill.{kept_data}
use Rattle.thin.specs.Guarantee.{data_byte, SameData}

-- ---- a list cut or filled with zeros
zero-at : (m i : ℕ) → ◌≡◌ {A = ℕ} (get_or (replicate m 0) i 0) 0
zero-at zero i = refl
zero-at (suc m) zero = refl
zero-at (suc m) (suc i) = zero-at m i

filled_at : (n m i : ℕ) (l : List ℕ) → i < n → get_or (take n l ++ replicate m 0) i 0 ≡ get_or l i 0
filled_at zero m i l h = absurd (omega arith)
filled_at (suc n) m i [] h = zero-at m i
filled_at (suc n) m zero (x ∷ l) h = refl
filled_at (suc n) m (suc i) (x ∷ l) h = filled_at n m i l (omega arith)

past-at : (n m i : ℕ) (l : List ℕ) → n ≤ i → get_or (take n l ++ replicate m 0) i 0 ≡ 0
past-at zero m i l h = zero-at m i
past-at (suc n) m i [] h = zero-at m i
past-at (suc n) m zero (x ∷ l) h = absurd (omega arith)
past-at (suc n) m (suc i) (x ∷ l) h = past-at n m i l (omega arith)

-- ---- the data that stays
pub length-kept : (n : ℕ) (s : List ℕ) (a : ℕ) → length (kept_data n s a) ≡ n
unfolding kept_data
length-kept n s a = length-take-le n (data_of s a ++ replicate n 0) (rw (length-append, length-replicate) (omega arith))

pub kept_byte_lem : (n : ℕ) (s : List ℕ) (a i : ℕ) → i < n → get_or (kept_data n s a) i 0 ≡ data_byte s a i
unfolding kept_data data_of data_byte part
kept_byte_lem n s a i h = get_or-take n (data_of s a ++ replicate n 0) i 0 h ∙ go (ltb (24 + 8 * links_at s a + i) (size_at s a)) refl
  where
    go : (t : Bool) → ltb (24 + 8 * links_at s a + i) (size_at s a) ≡ t
        → get_or (take (size_at s a - (24 + 8 * links_at s a)) (drop (data_at s a) s) ++ replicate n 0) i 0
        ≡ if_lt (24 + 8 * links_at s a + i) (size_at s a) (get_or s (data_at s a + i) 0) 0
    go true q =
        let k : 24 + 8 * links_at s a + i < size_at s a = ltb-true _ _ q in
        lt_yes _ _ _ _ k (filled_at (size_at s a - (24 + 8 * links_at s a)) n i (drop (data_at s a) s) (omega arith) ∙ get_or-drop (data_at s a) s i 0)
    go false q =
        let k : size_at s a ≤ 24 + 8 * links_at s a + i = ltb-false _ _ q in
        lt_no _ _ _ _ k (past-at (size_at s a - (24 + 8 * links_at s a)) n i (drop (data_at s a) s) (omega arith))

-- where it stands
pub kept_same : {n : ℕ} {s f : List ℕ} {a b : ℕ} → Stands f (data_at f b) (kept_data n s a) → SameData n s f a b
kept_same {n} {s} {f} {a} {b} st = record {
  each = λ i h. byte_of (kept_data n s a) st i (rw (length-kept n s a) h) ∙ kept_byte_lem n s a i h;
}

-- ---- fields of it

-- bytes inside the block
inside_byte : (s : List ℕ) (a i : ℕ) → 24 + 8 * links_at s a + i < size_at s a → data_byte s a i ≡ get_or s (data_at s a + i) 0
unfolding data_byte
inside_byte s a i h = sym (lt_yes _ _ _ _ h refl)

module _ {n : ℕ} {s f : List ℕ} {a b : ℕ} (same : SameData n s f a b) where
  -- THE law of data that stays: where the block has n bytes of it, every field of these reads as it did
  pub same_field : 24 + 8 * links_at s a + n ≤ size_at s a → (k i : ℕ) → i + k ≤ n → le_at k f (data_at f b + i) ≡ le_at k s (data_at s a + i)
  unfolding le_at
  same_field room zero i h = refl
  same_field room (suc k) i h =
      let p : data_at f b + i + 1 ≡ data_at f b + (i + 1) = omega arith in
      let q : data_at s a + i + 1 ≡ data_at s a + (i + 1) = omega arith in
      let one : get_or f (data_at f b + i) 0 ≡ get_or s (data_at s a + i) 0 = same.each i (omega arith) ∙ inside_byte s a i (omega arith) in
      rw (p, q, one, same_field room k (i + 1) (omega arith))

  -- its first byte, where that is 0: with or without room
  pub same-zero : 0 < n → get_or s (data_at s a) 0 ≡ 0 → get_or f (data_at f b) 0 ≡ 0
  unfolding data_byte
  same-zero h z = ap (λ (i : ℕ). get_or f i 0) (sym (add-zero (data_at f b))) ∙ same.each 0 h ∙ go (ltb (24 + 8 * links_at s a + 0) (size_at s a)) refl
    where
      go : (t : Bool) → ltb (24 + 8 * links_at s a + 0) (size_at s a) ≡ t → data_byte s a 0 ≡ 0
      go true q = sym (lt_yes _ _ _ _ (ltb-true _ _ q) (sym (ap (λ (i : ℕ). get_or s i 0) (add-zero (data_at s a)) ∙ z)))
      go false q = sym (lt_no _ _ _ _ (ltb-false _ _ q) refl)

-- ---- no record ids stay none
pub same_ids : {s f : List ℕ} {a b : ℕ} → SameData 8 s f a b → id_size s a ≡ 0 → id_size f b ≡ 0
unfolding id_size
same_ids same z = same-zero same (lit< tt) z

-- ---- the fields of a CG
module _ {s f : List ℕ} {a b : ℕ} (same : SameData 32 s f a b) (room : 24 + 8 * links_at s a + 32 ≤ size_at s a) where
  pub same-cycles : cycles f b ≡ cycles s a
  unfolding cycles
  same-cycles = same_field same room 8 8 (lit< tt)

  pub same_flags : group_flags f b ≡ group_flags s a
  unfolding group_flags
  same_flags = same_field same room 2 16 (lit< tt)

  pub same-samples : samples f b ≡ samples s a
  unfolding samples
  same-samples = same_field same room 4 24 (lit< tt)

  pub same_inval : inval_bytes f b ≡ inval_bytes s a
  unfolding inval_bytes
  same_inval = same_field same room 4 28 (lit< tt)

  pub same_bytes : record_bytes f b ≡ record_bytes s a
  unfolding record_bytes
  same_bytes = rw (same-samples, same_inval)

-- ---- of a CN
module _ {s f : List ℕ} {a b : ℕ} (same : SameData 72 s f a b) (room : 24 + 8 * links_at s a + 72 ≤ size_at s a) where
  pub same_type : channel_type f b ≡ channel_type s a
  unfolding channel_type
  same_type =
      let e : le_at 1 f (data_at f b + 0) ≡ le_at 1 s (data_at s a + 0) = same_field same room 1 0 (lit< tt) in
      ap (le_at 1 f) (sym (add-zero (data_at f b))) ∙ e ∙ ap (le_at 1 s) (add-zero (data_at s a))

  pub same_photos : photo_count f b ≡ photo_count s a
  unfolding photo_count
  same_photos = same_field same room 2 22 (lit< tt)
