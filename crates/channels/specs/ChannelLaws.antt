-- Laws of a channel's fields, of its fit, of its kept invalidation bit and of its width.
use Rattle.std.specs.Prelude.{ℕ, ◌+◌, ◌/◌, ◌%◌, ◌≤◌, ◌<◌, List, Bool, true, false, ◌≡◌, ltb, leb, eqb}
use Rattle.std.proofs.Math.Path.{sym}
use Rattle.std.proofs.Common.{◌∙◌, add-zero}
use Rattle.std.proofs.Math.Nat.{div-one}
use borrow.Author.Tests.{le-leb, lt-leb, eq-eqb, ne_eqb}
use Rattle.base.specs.Field.{le_at, Field}
use Rattle.mdf.specs.Group.{samples, inval_bytes, group_flags, is_storage}
use Rattle.plan.specs.Channel.{channel_type, bit_offset, byte_offset, channel_flags, inval_position}
use Rattle.plan.specs.Channel.{channel_bytes, fits, is_master_type, keeps_inval, width}
use Rattle.channels.specs.Small.{Small}

-- a field of n bytes, whatever its width, is a number that fits them
pub field_small : {n : ℕ} {s : List ℕ} {at r : ℕ} → Field n s at r → Small n (le_at n s at) r
field_small f = record { is = f.is; small = f.small }

-- the field that begins the data
pub field_first : {n : ℕ} {s : List ℕ} (at : ℕ) {r : ℕ} → Field n s (at + 0) r → Small n (le_at n s at) r
field_first at f = field_small (rw add-zero at f)

pub storage_is : (s : List ℕ) (g : ℕ) {r : ℕ} → r ≡ group_flags s g → eqb (r % 2) 1 ≡ is_storage s g
unfolding is_storage
storage_is s g e = rw e

-- ---- the fit
module _ (s : List ℕ) (g c : ℕ) {o : ℕ} (e : o ≡ bit_offset s c) where
  pub fits_not : 7 < o → false ≡ fits s g c
  unfolding fits
  fits_not h = rw (← e, lt-leb o 7 h)

  pub fits_by : o ≤ 7 → {x y z : ℕ} → x ≡ byte_offset s c → y ≡ channel_bytes s c → z ≡ samples s g → leb (x + y) z ≡ fits s g c
  unfolding fits
  fits_by h p q r = rw (← e, le-leb o 7 h, p, q, r)

-- ---- the masters' types
module _ (s : List ℕ) (c : ℕ) {t : ℕ} (e : t ≡ channel_type s c) where
  pub master_two : t ≡ 2 → true ≡ is_master_type s c
  unfolding is_master_type
  master_two h = rw (← e, eq-eqb t 2 h)

  pub master_else : (t ≡ 2 → ⊥) → eqb t 3 ≡ is_master_type s c
  unfolding is_master_type
  master_else h = rw (← e, ne_eqb t 2 h)

-- ---- the kept invalidation bit
module _ (s : List ℕ) (g c : ℕ) {f : ℕ} (e : f ≡ channel_flags s c) where
  pub kept_not-0 : (f % 2 ≡ 0 → ⊥) → false ≡ keeps_inval s g c
  unfolding keeps_inval
  kept_not-0 h = rw (← e, div-one f, ne_eqb (f % 2) 0 h)

  pub kept_not-1 : f % 2 ≡ 0 → (f / 2 % 2 ≡ 1 → ⊥) → false ≡ keeps_inval s g c
  unfolding keeps_inval
  kept_not-1 h k = rw (← e, div-one f, eq-eqb (f % 2) 0 h, ne_eqb (f / 2 % 2) 1 k)

  pub kept_by_lem : f % 2 ≡ 0 → f / 2 % 2 ≡ 1 → {p n : ℕ} → p ≡ inval_position s c → n ≡ inval_bytes s g → ltb (p / 8) n ≡ keeps_inval s g c
  unfolding keeps_inval
  kept_by_lem h k p q = rw (← e, div-one f, eq-eqb (f % 2) 0 h, eq-eqb (f / 2 % 2) 1 k, p, q)

-- ---- the width
module _ (s : List ℕ) (g c : ℕ) {n : ℕ} (e : n ≡ channel_bytes s c) where
  pub width-kept : {b : Bool} → b ≡ keeps_inval s g c → b ≡ true → n + 1 ≡ width s g c
  unfolding width
  width-kept k h = rw (← k, h, e)

  pub width-bare : {b : Bool} → b ≡ keeps_inval s g c → b ≡ false → n ≡ width s g c
  unfolding width
  width-bare k h = rw (← k, h) (e ∙ sym (add-zero (channel_bytes s c)))
