-- The laws of the blocks that a DL lists, link by link.
use Prim.Native.Nat.{ℕ, zero, suc, ◌+◌, ◌*◌, ◌-◌, ◌≤◌, ◌<◌}
use mathlib.Core.List.{List, [], ◌∷◌}
use Rattle.std.specs.Prelude.{Bool, not, ◌≡◌, eqb}
use Rattle.std.proofs.Math.Bool.{true, false}
use Rattle.std.proofs.Math.Path.{refl, sym, ap}
use Rattle.std.proofs.Common.{◌∙◌, sub-one, eq-eqb, ne_eqb, eqb-true}
use Rattle.std.proofs.lemmas.Bool.{eqb-false}
use mathlib.Core.Bool.{beq}
use native.Mathlib.Omega.{arith}
use Rattle.base.specs.Choice.{pick, if_eq}
use Rattle.base.specs.ChoiceLaws.{eq_yes, eq_no}
use Rattle.base.specs.Field.{le_at}
use Rattle.mdf.specs.Block.{kind_dt, kind_at, size_at, links_at, link_at}
use Rattle.mdf.specs.Chain.{Fragment}
use Rattle.mdf.specs.Records.{is_dv}
use Rattle.file.specs.Form.{none_zero, have_length, all_dt, all_dv}
use Rattle.ranges.specs.Blocks.{block_in, blocks_at, listed_from, none_from, links_of, all_of, differs}

-- ---- one link
blocks_open : (s : List ℕ) (k p : ℕ) → 0 < k → blocks_at s k p ≡ block_in s (le_at 8 s p) ∷ blocks_at s (k - 1) (p + 8)
unfolding blocks_at
blocks_open s zero p h = absurd (omega arith)
blocks_open s (suc k) p h = rw (sub-one (suc k))

pub from_next : (s : List ℕ) (a links i : ℕ) → i < links
    → listed_from s a links i ≡ block_in s (link_at s a i) ∷ listed_from s a links (i + 1)
unfolding listed_from link_at
from_next s a links i h =
    let k : links - i - 1 ≡ links - (i + 1) = omega arith in
    let p : a + 24 + 8 * i + 8 ≡ a + 24 + 8 * (i + 1) = omega arith in
    blocks_open s (links - i) (a + 24 + 8 * i) (omega arith) ∙ rw (k, p)

pub from_end : (s : List ℕ) (a links i : ℕ) → links ≤ i → listed_from s a links i ≡ []
unfolding listed_from blocks_at
from_end s a links i h = let k : links - i ≡ 0 = omega arith in rw k

pub block_size_lem : (s : List ℕ) (x : ℕ) → (block_in s x).size ≡ size_at s x - 24
unfolding block_in
block_size_lem s x = refl

pub block_offset : (s : List ℕ) (x : ℕ) → (block_in s x).offset ≡ x + 24
unfolding block_in
block_offset s x = refl

pub block-dt : (s : List ℕ) (x : ℕ) → kind_at s x ≡ kind_dt → is_dv (block_in s x).kind ≡ false
unfolding block_in
block-dt s x e = ap is_dv (sym (eq_yes _ _ _ _ e refl))

pub block-dv : (s : List ℕ) (x : ℕ) → (kind_at s x ≡ kind_dt → ⊥) → is_dv (block_in s x).kind ≡ true
unfolding block_in
block-dv s x e = ap is_dv (sym (eq_no _ _ _ _ e refl))

-- ---- how many links
module _ (s : List ℕ) (a : ℕ) where
  pub links_none : a ≡ 0 → 0 ≡ links_of s a
  unfolding links_of
  links_none e = eq_yes _ _ _ _ e refl

  pub links_some : {n : ℕ} → (a ≡ 0 → ⊥) → n ≡ links_at s a → n ≡ links_of s a
  unfolding links_of
  links_some e q = eq_no _ _ _ _ e q

-- ---- the search for a link of 0: m is what the whole search gives
none_open : (s : List ℕ) (k p : ℕ) → 0 < k → none_zero s k p ≡ if_eq (le_at 8 s p) 0 false (none_zero s (k - 1) (p + 8))
unfolding none_zero
none_open s zero p h = absurd (omega arith)
none_open s (suc k) p h = rw (sub-one (suc k))

module _ (s : List ℕ) (a links i : ℕ) {m : Bool} (e : none_from s a links i ≡ m) where
  none-next : i < links → m ≡ if_eq (link_at s a i) 0 false (none_from s a links (i + 1))
  unfolding none_from link_at
  none-next h =
      let k : links - i - 1 ≡ links - (i + 1) = omega arith in
      let p : a + 24 + 8 * i + 8 ≡ a + 24 + 8 * (i + 1) = omega arith in
      sym e ∙ none_open s (links - i) (a + 24 + 8 * i) (omega arith) ∙ rw (k, p)

  pub none_hit : {x : ℕ} → i < links → x ≡ link_at s a i → x ≡ 0 → false ≡ m
  none_hit h q z = eq_yes _ _ _ _ (sym q ∙ z) refl ∙ sym (none-next h)

  pub none_pass : {x : ℕ} → i < links → x ≡ link_at s a i → (x ≡ 0 → ⊥) → none_from s a links (i + 1) ≡ m
  none_pass h q z = eq_no _ _ _ _ (λ j. z (q ∙ j)) refl ∙ sym (none-next h)

  pub none_end : links ≤ i → true ≡ m
  unfolding none_from none_zero
  none_end h = let k : links - i ≡ 0 = omega arith in rw k at e

pub none_first : (s : List ℕ) (a links : ℕ) → none_from s a links 1 ≡ none_zero s (links - 1) (a + 32)
unfolding none_from
none_first s a links = let p : a + 24 + 8 * 1 ≡ a + 32 = omega arith in rw p

-- ---- each block but the last has n bytes
module _ (s : List ℕ) (a links n i : ℕ) {m : Bool} (e : have_length n (listed_from s a links i) ≡ m) where
  length-next : i + 1 < links → m ≡ pick (eqb (size_at s (link_at s a i) - 24) n) (have_length n (listed_from s a links (i + 1))) false
  unfolding have_length
  length-next h =
      let p = from_next s a links i (omega arith) in
      let q = from_next s a links (i + 1) h in
      sym e ∙ rw (p, q, block_size_lem s (link_at s a i))

  pub length_hit : {x y : ℕ} → i + 1 < links → x ≡ link_at s a i → y ≡ size_at s x - 24 → (y ≡ n → ⊥) → false ≡ m
  length_hit {x} {y} h q z d =
      let f : eqb (size_at s (link_at s a i) - 24) n ≡ false = rw (← q, ← z) (ne_eqb y n d) in
      sym (length-next h ∙ rw f)

  pub length_pass : {x y : ℕ} → i + 1 < links → x ≡ link_at s a i → y ≡ size_at s x - 24 → y ≡ n → have_length n (listed_from s a links (i + 1)) ≡ m
  length_pass {x} {y} h q z d =
      let f : eqb (size_at s (link_at s a i) - 24) n ≡ true = rw (← q, ← z) (eq-eqb y n d) in
      sym (length-next h ∙ rw f)

  pub length_end : links ≤ i + 1 → true ≡ m
  unfolding have_length listed_from blocks_at
  length_end h = go (links - i) (omega arith) e
    where
      go : (k : ℕ) → k ≤ 1 → have_length n (blocks_at s k (a + 24 + 8 * i)) ≡ m → true ≡ m
      go zero r q = q
      go (suc zero) r q = q
      go (suc (suc k)) r q = absurd (omega arith)

-- ---- the kinds of the blocks
module _ (s : List ℕ) (x : ℕ) (v : Bool) where
  pub other-dt : kind_at s x ≡ kind_dt → v ≡ differs (is_dv (block_in s x).kind) v
  other-dt e = rw (block-dt s x e)

  pub other-dv : (kind_at s x ≡ kind_dt → ⊥) → not v ≡ differs (is_dv (block_in s x).kind) v
  other-dv e = rw (block-dv s x e)

  -- by the kind that was read
  pub other-kind : {k : ℕ} → k ≡ kind_at s x → beq (eqb k kind_dt) v ≡ differs (is_dv (block_in s x).kind) v
  other-kind {k} q = go (eqb k kind_dt) refl
    where
      with_true : (v : Bool) → beq true v ≡ v
      with_true true = refl
      with_true false = refl

      with_false : (v : Bool) → beq false v ≡ not v
      with_false true = refl
      with_false false = refl

      go : (t : Bool) → eqb k kind_dt ≡ t → beq t v ≡ differs (is_dv (block_in s x).kind) v
      go true e = with_true v ∙ other-dt (sym q ∙ eqb-true k kind_dt e)
      go false e = with_false v ∙ other-dv (λ z. eqb-false k kind_dt e (q ∙ z))

kinds_open : (v : Bool) (f : Fragment) (fs : List Fragment) (t : Bool) → is_dv f.kind ≡ t → differs t v ≡ true → all_of v (f ∷ fs) ≡ false
unfolding all_dt all_dv
kinds_open false f fs true e d = rw e
kinds_open false f fs false e d = absurd (let z : ◌≡◌ {A = ℕ} 0 1 = cc in omega arith)
kinds_open true f fs true e d = absurd (let z : ◌≡◌ {A = ℕ} 0 1 = cc in omega arith)
kinds_open true f fs false e d = rw e

kinds_on : (v : Bool) (f : Fragment) (fs : List Fragment) (t : Bool) → is_dv f.kind ≡ t → differs t v ≡ false → all_of v (f ∷ fs) ≡ all_of v fs
unfolding all_dt all_dv
kinds_on false f fs true e d = absurd (let z : ◌≡◌ {A = ℕ} 0 1 = cc in omega arith)
kinds_on false f fs false e d = rw e
kinds_on true f fs true e d = rw e
kinds_on true f fs false e d = absurd (let z : ◌≡◌ {A = ℕ} 0 1 = cc in omega arith)

module _ (v : Bool) (s : List ℕ) (a links i : ℕ) {m : Bool} (e : all_of v (listed_from s a links i) ≡ m) where
  pub kinds_hit : {x : ℕ} {r : Bool} → i < links → x ≡ link_at s a i → r ≡ differs (is_dv (block_in s x).kind) v → r ≡ true → false ≡ m
  kinds_hit h q d g =
      sym (kinds_open v (block_in s (link_at s a i)) (listed_from s a links (i + 1)) _ refl (rw (← q) (sym d ∙ g)))
      ∙ ap (all_of v) (sym (from_next s a links i h)) ∙ e

  pub kinds_pass : {x : ℕ} {r : Bool} → i < links → x ≡ link_at s a i → r ≡ differs (is_dv (block_in s x).kind) v → r ≡ false
      → all_of v (listed_from s a links (i + 1)) ≡ m
  kinds_pass h q d g =
      sym (kinds_on v (block_in s (link_at s a i)) (listed_from s a links (i + 1)) _ refl (rw (← q) (sym d ∙ g)))
      ∙ ap (all_of v) (sym (from_next s a links i h)) ∙ e

  pub kinds_end : links ≤ i → true ≡ m
  unfolding all_dt all_dv
  kinds_end h = nothing v ∙ ap (all_of v) (sym (from_end s a links i h)) ∙ e
    where
      nothing : (v : Bool) → true ≡ all_of v []
      nothing false = refl
      nothing true = refl
