-- A column's data blocks between other blocks, by where they begin.
use Prim.Native.Nat.{ℕ, zero, suc, ◌+◌, ◌≤◌, ◌<◌}
use Rattle.std.specs.Prelude.{List, [], ◌∷◌, ◌++◌, ◌≡◌, length}
use Rattle.std.proofs.Common.{append_assoc, inr, subst, add-zero, zero-add}
use Rattle.std.proofs.Math.Path.{refl}
use native.Mathlib.Omega.{arith}
use Rattle.result.specs.Fill.{Block, payload_blocks}
use Rattle.result.specs.Ordered.{Ordered}
use Rattle.payload_laws.specs.PayloadLaws.{length-payloads}
use Rattle.windows.specs.Windowed.{over_all}
use Rattle.window_order.specs.PassedLaws.{after_same, until_ordered}
use Rattle.writing.specs.declared.data.Entry.{Entry}
use Rattle.writing.specs.Data.{entry_in, entry_records, entry_payloads, entry_kind, entry_blocks, data_from}
use Rattle.window_columns.specs.Columns.{HasBlocks, Begun}

-- ---- by the first of them
payloads_until : (i : ℕ) (xs : List Block) (kind at : ℕ) (ps : List (List ℕ)) (ys : List Block) (e a : ℕ) → 0 < length ps
    → Ordered i (xs ++ (payload_blocks kind at ps ++ ys)) e → at ≤ a → Ordered i xs a
unfolding payload_blocks
payloads_until i xs kind at [] ys e a z o h = absurd (omega arith)
payloads_until i xs kind at (p ∷ ps) ys e a z o h = until_ordered i xs _ _ e a o h

payloads-past : (a i kind at : ℕ) (ps : List (List ℕ)) (ys : List Block) (e : ℕ) (v : List ℕ) → 0 < length ps
    → Ordered i (payload_blocks kind at ps ++ ys) e → a + length v ≤ at → over_all a (payload_blocks kind at ps ++ ys) v ≡ v
unfolding payload_blocks
payloads-past a i kind at [] ys e v z o h = absurd (omega arith)
payloads-past a i kind at (p ∷ ps) ys e v z o h = after_same a i e _ _ v o h

pub begun-at : (s : List ℕ) (size : ℕ) (cs m : List ℕ) (number a k : ℕ) (e : Entry) → k < number → e ≡ entry_in cs m k → (e.first ≤ a) × HasBlocks s size e
    → Begun s size cs m number a k
begun-at s size cs m number a k e h i b =
    let c : ((entry_in cs m k).first ≤ a) × HasBlocks s size (entry_in cs m k) = subst (λ (x : Entry). (x.first ≤ a) × HasBlocks s size x) i b in
    inr (h, c.0, c.1)

module _ (s : List ℕ) (size : ℕ) (w : List ℕ) (n : ℕ) (fs : List ℕ) (nf : ℕ) where
  module _ (c : Entry) (z : HasBlocks s size c) where
    some-payloads : 0 < length (entry_payloads s size c (entry_records s w n fs nf c))
    unfolding entry_payloads
    some-payloads = rw length-payloads (omega arith)

    -- what stands before them ends by an index by which they begin
    pub blocks_until : (i a : ℕ) (xs ys : List Block) (e : ℕ) → c.first ≤ a → Ordered i (xs ++ (entry_blocks s size w n fs nf c ++ ys)) e → Ordered i xs a
    unfolding entry_blocks
    blocks_until i a xs ys e h o = payloads_until i xs (entry_kind s c) c.first _ ys e a some-payloads o h

    -- they and what stands after them, if they begin past a window
    pub blocks-past : (a i : ℕ) (ys : List Block) (e : ℕ) (v : List ℕ) → a + length v ≤ c.first → Ordered i (entry_blocks s size w n fs nf c ++ ys) e
        → over_all a (entry_blocks s size w n fs nf c ++ ys) v ≡ v
    unfolding entry_blocks
    blocks-past a i ys e v h o = payloads-past a i (entry_kind s c) c.first _ ys e v some-payloads o h

  -- the columns from number i on: k of them, then j
  pub data_split : (cs m : List ℕ) (i k j : ℕ) → data_from s size w n fs nf cs m i (k + j) ≡ data_from s size w n fs nf cs m i k ++ data_from s size w n fs nf cs m (i + k) j
  unfolding data_from
  data_split cs m i zero j = rw (zero-add, add-zero) refl
  data_split cs m i (suc k) j =
      let e : suc k + j ≡ suc (k + j) = omega arith in
      let f : i + suc k ≡ i + 1 + k = omega arith in
      rw (e, f, data_split cs m (i + 1) k j) (simp append_assoc)
