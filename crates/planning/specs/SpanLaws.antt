-- Laws of the items past a DG: what is left of them gives what all of them give.
use Prim.Native.Nat.{ℕ, zero, suc, ◌+◌, ◌-◌, ◌≤◌, ◌<◌, min}
use Rattle.std.specs.Prelude.{List, [], ◌∷◌, ◌≡◌, refl, length, get_or}
use Rattle.std.proofs.Common.{sym, ◌∙◌}
use Rattle.std.proofs.Math.Nat.{min-eq_left}
use native.Mathlib.Omega.{arith}
use Rattle.base.specs.ChoiceLaws.{eq_yes, eq_no}
use Rattle.mdf.specs.Walk.{Item, dg, cg, cn, level_cg, tally}
use Rattle.mdf.specs.Group.{addresses, groups_of, up_to}
use Rattle.planning.specs.Items.{items_from}
use Rattle.planning.specs.ItemLaws.{item-cn, item-cg, item-dg, items_open}
use Rattle.planning.specs.Span.{past_dg}

pub no_items : (w : List ℕ) (n k : ℕ) → n ≤ k → items_from w k (n - k) ≡ []
unfolding items_from
no_items w n k h = let e : n - k ≡ 0 = omega arith in rw e

-- the items from k on, by the mark of the first
module _ (w : List ℕ) (n k : ℕ) (h : k < n) {m : ℕ} (e : m ≡ get_or w (1536 + k) 0) where
  pub next-dg : 1 < m → items_from w k (n - k) ≡ dg (get_or w k 0) (m - 2) ∷ items_from w (k + 1) (n - (k + 1))
  next-dg l = rw (items_open w k n e refl h, item-dg m (get_or w k 0) (λ z. omega (arith, z)) (λ z. omega (arith, z)))

  pub next-cg : m ≡ 1 → items_from w k (n - k) ≡ cg (get_or w k 0) ∷ items_from w (k + 1) (n - (k + 1))
  next-cg l = rw (items_open w k n e refl h, item-cg m (get_or w k 0) l)

  pub next-cn : m ≡ 0 → items_from w k (n - k) ≡ cn (get_or w k 0) ∷ items_from w (k + 1) (n - (k + 1))
  next-cn l = rw (items_open w k n e refl h, item-cn m (get_or w k 0) l)

-- ---- how many groups
pub record Counting (w : List ℕ) (n i k groups : ℕ) : Type 0 where
  pub few : groups + i ≤ k
  pub rest : groups + length (groups_of (items_from w k (n - k))) ≡ length (groups_of (items_from w i (n - i)))

pub count_begin : {w : List ℕ} {n i : ℕ} → Counting w n i i 0
count_begin = record { few = omega arith; rest = omega arith }

module _ {w : List ℕ} {n i k groups : ℕ} (t : Counting w n i k groups) where
  pub count_end : n ≤ k → {l : ℕ} → n ≡ l → groups ≡ length (groups_of (items_from w i (l - i)))
  unfolding groups_of
  count_end h q = rw (← q) (let e = rw (no_items w n k h) at t.rest in omega arith)

  module _ (h : k < n) {m : ℕ} (e : m ≡ get_or w (1536 + k) 0) where
    pub count_stop : 1 < m → {l : ℕ} → n ≡ l → groups ≡ length (groups_of (items_from w i (l - i)))
    unfolding groups_of
    count_stop l q = rw (← q) (let r = rw (next-dg w n k h e l) at t.rest in omega arith)

    count_cn : m ≡ 0 → Counting w n i (k + 1) (groups + m)
    unfolding groups_of
    count_cn q =
        let f = t.few in
        let r = rw (next-cn w n k h e q) at t.rest in
        record { few = omega arith; rest = omega arith }

    count_cg : m ≡ 1 → Counting w n i (k + 1) (groups + m)
    unfolding groups_of
    count_cg q =
        let f = t.few in
        let r = rw (next-cg w n k h e q) at t.rest in
        record { few = omega arith; rest = omega arith }

    pub count_on : m ≤ 1 → Counting w n i (k + 1) (groups + m)
    count_on l = go m refl l
      where
        go : (x : ℕ) → m ≡ x → x ≤ 1 → Counting w n i (k + 1) (groups + m)
        go zero q l = count_cn q
        go (suc zero) q l = count_cg q
        go (suc (suc x)) q l = absurd (omega arith)

-- ---- the first group
pub record Seeking (w : List ℕ) (n i k : ℕ) : Type 0 where
  pub rest : get_or (addresses (groups_of (items_from w k (n - k)))) 0 0 ≡ get_or (addresses (groups_of (items_from w i (n - i)))) 0 0

pub seek_begin : {w : List ℕ} {n i : ℕ} → Seeking w n i i
seek_begin = record { rest = refl }

module _ {w : List ℕ} {n i k : ℕ} (t : Seeking w n i k) where
  pub seek_end : n ≤ k → {l : ℕ} → n ≡ l → 0 ≡ get_or (addresses (groups_of (items_from w i (l - i)))) 0 0
  unfolding groups_of addresses
  seek_end h q = rw (← q) (rw (no_items w n k h) at t.rest)

  module _ (h : k < n) {m : ℕ} (e : m ≡ get_or w (1536 + k) 0) where
    pub seek_stop : 1 < m → {l : ℕ} → n ≡ l → 0 ≡ get_or (addresses (groups_of (items_from w i (l - i)))) 0 0
    unfolding groups_of addresses
    seek_stop l q = rw (← q) (rw (next-dg w n k h e l) at t.rest)

    pub seek_hit : m ≡ 1 → {a : ℕ} → a ≡ get_or w k 0 → {l : ℕ} → n ≡ l → a ≡ get_or (addresses (groups_of (items_from w i (l - i)))) 0 0
    unfolding groups_of addresses
    seek_hit l q z = rw (← z) (q ∙ (rw (next-cg w n k h e l) at t.rest))

    pub seek_on : m ≤ 1 → (m ≡ 1 → ⊥) → Seeking w n i (k + 1)
    unfolding groups_of addresses
    seek_on l q =
        let z : m ≡ 0 = omega arith in
        record { rest = rw (next-cn w n k h e z) at t.rest }

-- ---- the fragments before the next DG's own
pub record Ending (w : List ℕ) (n i all k : ℕ) : Type 0 where
  pub rest : up_to all (items_from w k (n - k)) ≡ up_to all (items_from w i (n - i))

pub end_begin : {w : List ℕ} {n i all : ℕ} → Ending w n i all i
end_begin = record { rest = refl }

module _ {w : List ℕ} {n i all k : ℕ} (t : Ending w n i all k) where
  pub end_end : n ≤ k → {l : ℕ} → n ≡ l → all ≡ up_to all (items_from w i (l - i))
  unfolding up_to
  end_end h q = rw (← q) (rw (no_items w n k h) at t.rest)

  module _ (h : k < n) {m : ℕ} (e : m ≡ get_or w (1536 + k) 0) where
    pub end_stop : 1 < m → {l : ℕ} → n ≡ l → m - 2 ≡ up_to all (items_from w i (l - i))
    unfolding up_to
    end_stop l q = rw (← q) (rw (next-dg w n k h e l) at t.rest)

    end_cn : m ≡ 0 → Ending w n i all (k + 1)
    unfolding up_to
    end_cn q = record { rest = rw (next-cn w n k h e q) at t.rest }

    end_cg : m ≡ 1 → Ending w n i all (k + 1)
    unfolding up_to
    end_cg q = record { rest = rw (next-cg w n k h e q) at t.rest }

    pub end_on : m ≤ 1 → Ending w n i all (k + 1)
    end_on l = go m refl l
      where
        go : (x : ℕ) → m ≡ x → x ≤ 1 → Ending w n i all (k + 1)
        go zero q l = end_cn q
        go (suc zero) q l = end_cg q
        go (suc (suc x)) q l = absurd (omega arith)

-- ---- the item past a DG
pub record Passing (w : List ℕ) (n d k : ℕ) : Type 0 where
  pub room : k ≤ n
  pub rest : past_dg d k (items_from w k (n - k)) ≡ past_dg d 0 (items_from w 0 n)

pub pass_begin : {w : List ℕ} {n d : ℕ} → Passing w n d 0
pass_begin {n = n} = let e : n - 0 ≡ n = omega arith in record { room = omega arith; rest = rw e }

dg_hit : (d k a n : ℕ) (is : List Item) → a ≡ d → past_dg d k (dg a n ∷ is) ≡ k + 1
unfolding past_dg
dg_hit d k a n is h = sym (eq_yes _ _ _ _ h refl)

dg_pass : (d k a n : ℕ) (is : List Item) → (a ≡ d → ⊥) → past_dg d k (dg a n ∷ is) ≡ past_dg d (k + 1) is
unfolding past_dg
dg_pass d k a n is h = sym (eq_no _ _ _ _ h refl)

module _ {w : List ℕ} {n d k : ℕ} (t : Passing w n d k) where
  pub pass_end : n ≤ k → {l : ℕ} → n ≡ l → n ≡ past_dg d 0 (items_from w 0 l)
  unfolding past_dg
  pass_end h q =
      let r = t.room in
      let z : k ≡ n = omega arith in
      rw (← q) (sym z ∙ (rw (no_items w n k h) at t.rest))

  module _ (h : k < n) {m a : ℕ} (e : m ≡ get_or w (1536 + k) 0) (i : a ≡ get_or w k 0) where
    pub pass_hit : 1 < m → a ≡ d → {l : ℕ} → n ≡ l → k + 1 ≡ past_dg d 0 (items_from w 0 l)
    pass_hit l j q =
        rw (← q) (sym (dg_hit d k (get_or w k 0) (m - 2) (items_from w (k + 1) (n - (k + 1))) (sym i ∙ j)) ∙ (rw (next-dg w n k h e l) at t.rest))

    pub pass_other : 1 < m → (a ≡ d → ⊥) → Passing w n d (k + 1)
    pass_other l j =
        record {
          room = omega arith;
          rest = sym (dg_pass d k (get_or w k 0) (m - 2) (items_from w (k + 1) (n - (k + 1))) (λ z. j (i ∙ z))) ∙ (rw (next-dg w n k h e l) at t.rest);
        }

    pass_cn : m ≡ 0 → Passing w n d (k + 1)
    unfolding past_dg
    pass_cn q = record { room = omega arith; rest = rw (next-cn w n k h e q) at t.rest }

    pass_cg : m ≡ 1 → Passing w n d (k + 1)
    unfolding past_dg
    pass_cg q = record { room = omega arith; rest = rw (next-cg w n k h e q) at t.rest }

    pub pass_on : m ≤ 1 → Passing w n d (k + 1)
    pass_on l = go m refl l
      where
        go : (x : ℕ) → m ≡ x → x ≤ 1 → Passing w n d (k + 1)
        go zero q l = pass_cn q
        go (suc zero) q l = pass_cg q
        go (suc (suc x)) q l = absurd (omega arith)

-- ---- with the CG before it
pub record Going (w : List ℕ) (n d k groups : ℕ) : Type 0 where
  pub past : Passing w n d k
  pub few : groups ≤ k
  pub rest : (j : ℕ) → k ≤ j → groups + tally level_cg.own (items_from w k (j - k)) ≡ tally level_cg.own (items_from w 0 j)

pub go_begin : {w : List ℕ} {n d : ℕ} → Going w n d 0 0
go_begin = record { past = pass_begin; few = omega arith; rest = λ j h. let e : j - 0 ≡ j = omega arith in rw e (omega arith) }

module _ {w : List ℕ} {n d k groups : ℕ} (t : Going w n d k groups) where
  before : groups ≡ tally level_cg.own (items_from w 0 k)
  unfolding tally
  before = let e = rw (no_items w k k (omega arith)) at (t.rest k (omega arith)) in omega arith

  pub go_end : n ≤ k → {l : ℕ} → n ≡ l → (n ≡ past_dg d 0 (items_from w 0 l)) × (groups ≡ tally level_cg.own (items_from w 0 (min n l)))
  go_end h {l} q =
      let r = t.past.room in
      let z : min n l ≡ k = min-eq_left {n = n} {m = l} (omega arith) ∙ (let y : n ≡ k = omega arith in y) in
      (pass_end t.past h q, rw z before)

  module _ (h : k < n) {m a : ℕ} (e : m ≡ get_or w (1536 + k) 0) (i : a ≡ get_or w k 0) where
    pub go_other : 1 < m → (a ≡ d → ⊥) → Going w n d (k + 1) groups
    unfolding tally
    go_other l j =
        let f = t.few in
        record {
          past = pass_other t.past h e i l j;
          few = omega arith;
          rest = λ x y. let r = rw (next-dg w x k (omega arith) e l) at (t.rest x (omega arith)) in omega arith;
        }

    go_cn : m ≡ 0 → Going w n d (k + 1) (groups + m)
    unfolding tally
    go_cn q =
        let f = t.few in
        record {
          past = pass_on t.past h e i (omega arith);
          few = omega arith;
          rest = λ x y. let r = rw (next-cn w x k (omega arith) e q) at (t.rest x (omega arith)) in omega arith;
        }

    go_cg : m ≡ 1 → Going w n d (k + 1) (groups + m)
    unfolding tally
    go_cg q =
        let f = t.few in
        record {
          past = pass_on t.past h e i (omega arith);
          few = omega arith;
          rest = λ x y. let r = rw (next-cg w x k (omega arith) e q) at (t.rest x (omega arith)) in omega arith;
        }

    pub go_on : m ≤ 1 → Going w n d (k + 1) (groups + m)
    go_on l = go m refl l
      where
        go : (x : ℕ) → m ≡ x → x ≤ 1 → Going w n d (k + 1) (groups + m)
        go zero q l = go_cn q
        go (suc zero) q l = go_cg q
        go (suc (suc x)) q l = absurd (omega arith)

    pub go_hit : 1 < m → a ≡ d → {l : ℕ} → n ≡ l
        → (k + 1 ≡ past_dg d 0 (items_from w 0 l)) × (groups ≡ tally level_cg.own (items_from w 0 (min (k + 1) l)))
    unfolding tally
    go_hit p j {l} q =
        let z : min (k + 1) l ≡ k + 1 = min-eq_left {n = k + 1} {m = l} (omega arith) in
        let r = rw (next-dg w (k + 1) k (omega arith) e p, no_items w (k + 1) (k + 1) (omega arith)) at (t.rest (k + 1) (omega arith)) in
        (pass_hit t.past h e i p j q, rw z (omega arith))
