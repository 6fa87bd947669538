-- The channel of a column that a result holds, made with built-in types: as wide as its column, it fits, it keeps its invalidation bit where the column
-- did, and is a master where it was.
use Rattle.std.specs.Prelude.{ℕ, ◌+◌, ◌/◌, ◌%◌, ◌≤◌, Bool, ◌⊎◌, ◌≡◌, eqb, leb}
use mathlib.Core.List.{List, []}
use Rattle.std.proofs.Math.Bool.{true, false}
use Rattle.std.proofs.Common.{inl, inr, sym, ap, ◌∙◌, arith, eqb-true, eq-eqb, ne_eqb, le-leb}
use Rattle.std.proofs.Math.Path.{refl}
use Rattle.std.proofs.lemmas.Bool.{eqb-false}
use Rattle.base.specs.Choice.{if_lt, if_eq}
use Rattle.base.specs.ChoiceLaws.{eq_yes, eq_no}
use Rattle.mdf.specs.Group.{group_flags, samples, inval_bytes, is_storage}
use Rattle.plan.specs.Channel.{channel_type, bit_offset, byte_offset, bit_count, channel_flags, bit, both, either, channel_bytes, fits, is_master_type, keeps_inval, width}
use Rattle.plan.specs.Layout.{Placed, cg_of, cn_of, column_width}
use Rattle.plan.specs.Rules.{Rules}
use Rattle.plan.specs.Table.{count_in, entry_of, built_in_for, treatment}
use Rattle.result.specs.Due.{group_flags_due, channel_flags_due, kept_byte, type_due}
use Rattle.payload_laws.specs.CellLaws.{both_true}
use Rattle.again_laws.specs.Held.{Fields}

-- ---- types: "Built in: type 4 is omitted, 5 becomes 0, others are kept"
pub treatment-none : (t : ℕ) → treatment [] t ≡ built_in_for t
unfolding treatment count_in entry_of if_lt
treatment-none t = refl

pub type_cases : (t : ℕ) → ((t ≡ 5) × (type_due [] t ≡ 0)) ⊎ ((t ≡ 5 → ⊥) × (type_due [] t ≡ t))
unfolding type_due built_in_for
type_cases t = go (eqb t 5) refl
  where
    five : (t : ℕ) → t ≡ 5 → treatment [] t ≡ 2
    five t e = treatment-none t ∙ sym (eq_no _ _ _ _ (λ q. omega arith) (eq_yes _ _ _ _ e refl))

    other : (t : ℕ) → (t ≡ 5 → ⊥) → treatment [] t ≡ 2 → ⊥
    other t n e = four (eqb t 4) refl
      where
        four : (b : Bool) → eqb t 4 ≡ b → ⊥
        four true q = let z : ◌≡◌ {A = ℕ} 4 2 = eq_yes _ _ _ _ (eqb-true t 4 q) refl ∙ sym (treatment-none t) ∙ e in omega arith
        four false q = let z : ◌≡◌ {A = ℕ} 0 2 = eq_no _ _ _ _ (eqb-false t 4 q) (eq_no _ _ _ _ n refl) ∙ sym (treatment-none t) ∙ e in omega arith

    go : (b : Bool) → eqb t 5 ≡ b → ((t ≡ 5) × (type_due [] t ≡ 0)) ⊎ ((t ≡ 5 → ⊥) × (type_due [] t ≡ t))
    go true q = let e = eqb-true t 5 q in inl (e, rw (five t e))
    go false q = let n = eqb-false t 5 q in inr (n, rw (ne_eqb (treatment [] t) 2 (other t n)))

module _ (f : List ℕ) (o : Rules) (s : List ℕ) (all : List Placed) (p : Placed) (h : Fields f o s all p) (built : o.table ≡ []) where
  abbrev c : ℕ
  c = p.column.channel

  abbrev g : ℕ
  g = p.column.group.at

  pub type_is : channel_type f (cn_of p) ≡ type_due [] (channel_type s c)
  type_is = h.channel_type ∙ ap (λ (t : List ℕ). type_due t (channel_type s c)) built

  -- as many bytes
  bytes_for : (t u n : ℕ) → (((t ≡ 5) × (u ≡ 0)) ⊎ ((t ≡ 5 → ⊥) × (u ≡ t))) → if_eq u 3 0 (if_eq u 6 0 n) ≡ if_eq t 3 0 (if_eq t 6 0 n)
  bytes_for t u n (inl e) =
      sym (eq_no _ _ _ _ (λ q. omega (arith, e.1)) (eq_no _ _ _ _ (λ q. omega (arith, e.1)) refl))
      ∙ eq_no _ _ _ _ (λ q. omega (arith, e.0)) (eq_no _ _ _ _ (λ q. omega (arith, e.0)) refl)
  bytes_for t u n (inr e) = rw e.1

  pub bytes-again : channel_bytes f (cn_of p) ≡ channel_bytes s c
  unfolding channel_bytes
  bytes-again =
      rw (h.bit_offset, h.bit_count, type_is)
      (bytes_for (channel_type s c) (type_due [] (channel_type s c)) ((bit_offset s c + bit_count s c + 7) / 8) (type_cases (channel_type s c)))

  -- a master where it was
  master_for : (t u : ℕ) → (((t ≡ 5) × (u ≡ 0)) ⊎ ((t ≡ 5 → ⊥) × (u ≡ t))) → either (eqb u 2) (eqb u 3) ≡ either (eqb t 2) (eqb t 3)
  master_for t u (inl e) = rw (e.0, e.1)
  master_for t u (inr e) = rw e.1

  pub master_again : is_master_type f (cn_of p) ≡ is_master_type s c
  unfolding is_master_type
  master_again = rw type_is (master_for (channel_type s c) (type_due [] (channel_type s c)) (type_cases (channel_type s c)))

  -- the invalidation bit: kept where it was
  pub keeps_again : keeps_inval f (cg_of p) (cn_of p) ≡ keeps_inval s g c
  unfolding keeps_inval channel_flags_due kept_byte
  keeps_again = go (keeps_inval s g c) refl
    where
      both-none : (t : Bool) → both t false ≡ false
      both-none true = refl
      both-none false = refl

      go : (t : Bool) → keeps_inval s g c ≡ t → keeps_inval f (cg_of p) (cn_of p) ≡ t
      go true q =
          let a = both_true (eqb (bit 0 (channel_flags s c)) 0) _ q in
          let z : bit 0 (channel_flags s c) ≡ 0 = eqb-true _ _ a.0 in
          let one : kept_byte s p.column ≡ 1 = rw q in
          let flags : channel_flags f (cn_of p) ≡ channel_flags_due (channel_flags s c) 1 = h.flags ∙ ap (channel_flags_due (channel_flags s c)) one in
          let inval : inval_bytes f (cg_of p) ≡ 1 = h.inval ∙ one in
          let zero' : bit 0 (channel_flags f (cn_of p)) ≡ 0 = rw flags (omega arith) in
          let set : bit 1 (channel_flags f (cn_of p)) ≡ 1 = rw flags (omega arith) in
          rw (eq-eqb _ _ zero', eq-eqb _ _ set, h.position, inval)
      go false q =
          let none' : kept_byte s p.column ≡ 0 = rw q in
          let flags : channel_flags f (cn_of p) ≡ channel_flags_due (channel_flags s c) 0 = h.flags ∙ ap (channel_flags_due (channel_flags s c)) none' in
          let clear : bit 1 (channel_flags f (cn_of p)) ≡ 0 = rw flags (omega arith) in
          rw clear (both-none (eqb (bit 0 (channel_flags f (cn_of p))) 0))

  pub width-again : width f (cg_of p) (cn_of p) ≡ column_width s p.column
  unfolding width column_width
  width-again = rw (bytes-again, keeps_again)

  -- it fits
  pub fits-again : fits s g c ≡ true → fits f (cg_of p) (cn_of p) ≡ true
  unfolding fits
  fits-again e =
      let a = both_true (leb (bit_offset s c) 7) _ e in
      let room : byte_offset f (cn_of p) + channel_bytes f (cn_of p) ≤ samples f (cg_of p) = omega (arith, h.byte_offset, bytes-again, h.samples) in
      rw (h.bit_offset, a.0) (le-leb _ _ room)

  -- its group is no VLSD storage
  pub storage_again : is_storage f (cg_of p) ≡ false
  unfolding is_storage group_flags_due
  storage_again =
      let e : group_flags f (cg_of p) % 2 ≡ 0 = rw h.group_flags (omega arith) in
      rw e
