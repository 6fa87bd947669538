-- Laws of blocks that each begin by the next multiple of a unit; the data of columns.
use Prim.Native.Nat.{ℕ, suc, ◌+◌, ◌*◌, ◌≤◌, ◌<◌}
use mathlib.Core.List.{List, [], ◌∷◌, ◌++◌}
use Rattle.std.specs.Prelude.{◌≡◌, refl, ◌⊎◌}
use Rattle.std.proofs.Common.{◌∙◌, inl, inr, le_refl}
use Rattle.std.proofs.Math.Option.{Option, none, some}
use native.Mathlib.Omega.{arith}
use Rattle.std.proofs.Math.ListN.{length, length-append}
use Rattle.base.specs.Checked.{fine}
use Rattle.mdf.specs.Block.{kind_sd}
use Rattle.mdf.specs.Records.{joined, size_of}
use Rattle.plan.specs.Channel.{keeps_inval}
use Rattle.plan.specs.Columns.{Column, Signal, no_signal, signal_data}
use Rattle.plan.specs.Data.{signal_in}
use Rattle.plan.specs.Geometry.{align8, align_to}
use Rattle.plan.specs.Rules.{Rules}
use Rattle.plan.specs.Layout.{column_blocks, payload_size, Sizes, first_at, blocks_end, signal_at, signal_end, places_from, places_end, signal_sizes, column_sizes, sizes_of, with_places, placed_from, data_end}
use Rattle.result.specs.Payload.{column_payloads}
use Rattle.result.specs.Fill.{Block, block_of, data_kind, payload_blocks, sd_blocks, data_blocks}
use Rattle.result.specs.Ordered.{Close}
use Rattle.result.specs.Guarantee.{In, here, there}
use Rattle.payload_laws.specs.Answers.{eq_cases}
use Rattle.payload_laws.specs.Lists.{together}
use Rattle.payload_laws.specs.SortedLaws.{joined_length}
use Rattle.payload_laws.specs.UnitLaws.{IsUnit, to-past, to_near, to_is, to_least, to-again}
use Rattle.payload_laws.specs.PayloadLaws.{length_framed}
use Rattle.payload_laws.specs.ColumnLaws.{Ready, column_count, column-bytes}
use Rattle.payload_laws.specs.Near.{Near}

-- fewer than the unit's bytes lie before each
pub near_close : (u : ℕ) → IsUnit u → (a e : ℕ) (bs : List Block) → Near u a bs e → Close u a bs e
unfolding Near Close
near_close u i a e [] n = let k : e ≤ align_to u a = n in omega (arith, to_near u a (omega (arith, i.least)))
near_close u i a e (b ∷ bs) n =
    let k : b.at ≤ align_to u a = n.0 in
    (omega (arith, to_near u a (omega (arith, i.least))), near_close u i (b.at + length b.bytes) e bs n.1)

module _ (u : ℕ) (i : IsUnit u) where
  some_unit : 0 < u
  some_unit = omega (arith, i.least)

  -- from a place up to the next multiple on, it is the same multiple
  pub to-within : (a b : ℕ) → b ≤ align_to u a → align_to u b ≤ align_to u a
  to-within a b h = to_least u b (align_to u a) some_unit h (to_is u a some_unit)

  -- the next multiple of 8 comes no later
  pub eight_within : (a : ℕ) → align8 a ≤ align_to u a
  eight_within a = omega (arith, to-past u (align8 a) some_unit, to-again u a i)

  pub near_from : (a b e : ℕ) (bs : List Block) → b ≤ align_to u a → Near u b bs e → Near u a bs e
  unfolding Near
  near_from a b e [] h n = let k : e ≤ align_to u b = n in omega (arith, to-within a b h)
  near_from a b e (x ∷ bs) h n = let k : x.at ≤ align_to u b = n.0 in (omega (arith, to-within a b h), n.1)

  pub near_append : (a b e : ℕ) (xs ys : List Block) → Near u a xs b → Near u b ys e → Near u a (xs ++ ys) e
  unfolding Near
  near_append a b e [] ys n k = near_from a b e ys n k
  near_append a b e (x ∷ xs) ys n k = (n.0, near_append (x.at + length x.bytes) b e xs ys n.1 k)

  -- a block of n bytes at a, then the rest
  pub near_cons : (a n e : ℕ) (b : Block) (bs : List Block) → b.at ≤ align_to u a → length b.bytes ≡ n → Near u (b.at + n) bs e → Near u a (b ∷ bs) e
  unfolding Near
  near_cons a n e b bs h l o = (h, rw l o)

  pub near_none : (a e : ℕ) → e ≤ align_to u a → Near u a [] e
  unfolding Near
  near_none a e h = h

  -- ---- data blocks: one behind the other
  payloads_near : (kind a e : ℕ) (ps : List (List ℕ)) → e ≤ align_to u (a + (24 * length ps + length (together ps))) → Near u a (payload_blocks kind a ps) e
  unfolding Near payload_blocks together
  payloads_near kind a e [] h = let z : a + (24 * 0 + 0) ≡ a = omega arith in rw z at h
  payloads_near kind a e (p ∷ ps) h =
      let z : a + (24 * suc (length ps) + length (p ++ together ps)) ≡ a + (24 + length p) + (24 * length ps + length (together ps)) =
      rw length-append (omega arith) in
      (to-past u a some_unit, rw length_framed (payloads_near kind (a + (24 + length p)) e ps (rw z at h)))

  column_near_lem : (s : List ℕ) (size : ℕ) (c : Column) → Ready s c → (kind a : ℕ)
      → Near u a (payload_blocks kind a (column_payloads s size c)) (blocks_end (column_sizes s size c) a)
  unfolding blocks_end
  column_near_lem s size c r kind a =
      payloads_near kind a (align8 (a + (24 * column_blocks s size c + payload_size s c))) (column_payloads s size c)
      (rw (column_count s size c, column-bytes s size c r) (eight_within (a + (24 * column_blocks s size c + payload_size s c))))

  pub signal_near : (s : List ℕ) (g : Signal) (a : ℕ) → signal_in s g ≡ fine → Near u a (sd_blocks s g a) (signal_end (signal_sizes g) a)
  unfolding Near
  signal_near s no_signal a e = to-past u a some_unit
  signal_near s (signal_data fs) a e =
      let l : length (block_of kind_sd (joined s fs)) ≡ 24 + size_of fs = length_framed kind_sd (joined s fs) ∙ rw (joined_length s fs e) in
      (to-past u a some_unit, rw l (eight_within (a + (24 + size_of fs))))

  pub first-within : (z : Sizes) (d : ℕ) → first_at u z d ≤ align_to u d
  unfolding first_at
  first-within z d = go (eq_cases z.blocks 0 d (align_to u d) refl)
    where
      go : ((z.blocks ≡ 0) × (d ≡ first_at u z d)) ⊎ ((z.blocks ≡ 0 → ⊥) × (align_to u d ≡ first_at u z d)) → first_at u z d ≤ align_to u d
      go (inl q) = omega (arith, q.1, to-past u d some_unit)
      go (inr q) = omega (arith, q.1)

  pub signal_within : (g : Option ℕ) (d : ℕ) → signal_at u g d ≤ align_to u d
  signal_within none d = to-past u d some_unit
  signal_within (some n) d = le_refl _

-- the data of all columns
pub data_near : (o : Rules) → IsUnit o.unit → (s : List ℕ) (size a d : ℕ) (cs : List Column) → ((c : Column) → In c cs → Ready s c)
    → ((c : Column) → In c cs → signal_in s c.signal_of ≡ fine)
    → Near o.unit d (data_blocks s size (placed_from o s size a d cs)) (data_end o s size d cs)
unfolding Near data_blocks with_places places_from places_end sizes_of
data_near o i s size a d [] r g = to-past o.unit d (some_unit o.unit i)
data_near o i s size a d (c ∷ cs) r g =
    let u : ℕ = o.unit in
    let z : Sizes = column_sizes s size c in
    let first : ℕ = first_at u z d in
    let e : ℕ = blocks_end z first in
    let sd : ℕ = signal_at u z.signal e in
    let f : ℕ = signal_end z.signal sd in
    let kind : ℕ = data_kind (keeps_inval s c.group.at c.channel) in
    let rest : List Block = data_blocks s size (placed_from o s size (a + z.structure) f cs) in
    let own : List Block = payload_blocks kind first (column_payloads s size c) in
    near_append u i d e (data_end o s size f cs) own (sd_blocks s c.signal_of sd ++ rest)
    (near_from u i d first e own (first-within u i z d) (column_near_lem u i s size c (r c here) kind first))
    (near_from u i e sd (data_end o s size f cs) (sd_blocks s c.signal_of sd ++ rest) (signal_within u i z.signal e)
    (near_append u i sd f (data_end o s size f cs) (sd_blocks s c.signal_of sd) rest (signal_near u i s c.signal_of sd (g c here))
    (data_near o i s size (a + z.structure) f cs (λ b j. r b (there j)) (λ b j. g b (there j)))))
