-- The search by the index: what is left of the chain gives what all the words give.
use Rattle.std.specs.Prelude.{ℕ, zero, suc, ◌+◌, ◌*◌, ◌-◌, ◌%◌, ◌≤◌, ◌<◌, List, [], ◌∷◌, Bool, true, false, ◌≡◌, refl, eqb, length, get_or, take, set}
use Rattle.std.proofs.Common.{sym, ◌∙◌, arith, eq-eqb, ne_eqb, get_or-set_same, get_or-set_other}
use Rattle.std.proofs.lemmas.Bool.{eqb-false}
use Rattle.base.specs.Choice.{pick, if_eq}
use Rattle.mdf.specs.Chain.{is_in}
use Rattle.index.specs.Index.{newest, Indexed}
use Rattle.index.specs.IndexLaws.{newest_least, newest-own, older_is, indexed_same, index_more}

one : (k : ℕ) → 1 * k ≡ k
one k = omega arith

-- one word more
in_more : (w : List ℕ) (a k : ℕ) → k < length w → is_in a (take (suc k) w) ≡ pick (eqb (get_or w k 0) a) true (is_in a (take k w))
unfolding is_in
in_more [] a k h = absurd (omega arith)
in_more (b ∷ w) a zero h = refl
in_more (b ∷ w) a (suc k) h = go (eqb b a) (eqb (get_or w k 0) a) (in_more w a k (omega arith))
  where
    go : (t u : Bool) → is_in a (take (suc k) w) ≡ pick u true (is_in a (take k w))
        → pick t true (is_in a (take (suc k) w)) ≡ pick u true (pick t true (is_in a (take k w)))
    go true true e = refl
    go true false e = refl
    go false true e = e
    go false false e = e

-- the words past the newest of its remainder don't hold it
skip : (w : List ℕ) (a k : ℕ) → k ≤ length w → is_in a (take (newest 1 w (a % 2039) k) w) ≡ is_in a (take k w)
unfolding newest if_eq
skip w a zero h = refl
skip w a (suc k) h = go (eqb (get_or w (1 * k) 0 % 2039) (a % 2039)) refl (skip w a k (omega arith))
  where
    go : (t : Bool) → eqb (get_or w (1 * k) 0 % 2039) (a % 2039) ≡ t → is_in a (take (newest 1 w (a % 2039) k) w) ≡ is_in a (take k w)
        → is_in a (take (pick t (suc k) (newest 1 w (a % 2039) k)) w) ≡ is_in a (take (suc k) w)
    go true e rest = refl
    go false e rest =
        let f = eqb-false (get_or w (1 * k) 0 % 2039) (a % 2039) e in
        let g : get_or w k 0 ≡ a → ⊥ = λ q. f (rw (one k, q)) in
        rest ∙ sym (rw (ne_eqb _ _ g) at (in_more w a k (omega arith)))

-- i: the next of the chain
pub record Chasing (w : List ℕ) (n a i : ℕ) : Type 0 where
  pub within : i ≤ n
  pub own : 0 < i → get_or w (1 * (i - 1)) 0 % 2039 ≡ a % 2039
  pub rest : is_in a (take i w) ≡ is_in a (take n w)

pub chase_begin : (w x : List ℕ) (n a : ℕ) {i : ℕ} → n ≤ length w → Indexed 1 w n x → i ≡ get_or x (2048 + a % 2039) 0 → Chasing w n a i
chase_begin w x n a {i} l t e =
    let q : i ≡ newest 1 w (a % 2039) n = e ∙ t.heads (a % 2039) (omega arith) in
    rw q (record { within = newest_least 1 w (a % 2039) n; own = λ h. newest-own 1 w (a % 2039) n h; rest = skip w a n l })

module _ {w : List ℕ} {n a i : ℕ} (u : Chasing w n a i) where
  pub chase_none : i ≡ 0 → false ≡ is_in a (take n w)
  unfolding is_in
  chase_none e = rw e at u.rest

  module _ (h : 0 < i) (l : n ≤ length w) where
    last : is_in a (take i w) ≡ pick (eqb (get_or w (i - 1) 0) a) true (is_in a (take (i - 1) w))
    last =
        let e : suc (i - 1) ≡ i = omega arith in
        let k = u.within in
        rw e at (in_more w a (i - 1) (omega arith))

    pub chase_hit : get_or w (i - 1) 0 ≡ a → true ≡ is_in a (take n w)
    chase_hit q = rw (eq-eqb _ _ q) at (sym last ∙ u.rest)

    module _ (x : List ℕ) (t : Indexed 1 w n x) {j : ℕ} (e : j ≡ get_or x (i - 1) 0) where
      older : j ≡ newest 1 w (a % 2039) (i - 1)
      older = older_is 1 w x n a i t h u.within (u.own h) e

      pub chase_less : j < i
      chase_less = let k = newest_least 1 w (a % 2039) (i - 1) in omega (arith, older, k, h)

      pub chase_next : (get_or w (i - 1) 0 ≡ a → ⊥) → Chasing w n a j
      chase_next q =
          let k = u.within in
          record {
            within = omega (arith, chase_less, k);
            own = λ g. rw older (newest-own 1 w (a % 2039) (i - 1) (rw older at g));
            rest = rw older (skip w a (i - 1) (omega arith)) ∙ (rw (ne_eqb _ _ q) at (sym last)) ∙ u.rest;
          }

-- ---- words stored
-- a word more, and one past it
pub index_stored : (w x : List ℕ) (n i a v : ℕ) → n < 2048 → n < length w → n < i → Indexed 1 w n x
    → Indexed 1 (set (set w n a) i v) (n + 1) (set (set x n (get_or x (2048 + a % 2039) 0)) (2048 + a % 2039) (n + 1))
index_stored w x n i a v few l g t =
    index_more 1 w (set (set w n a) i v) x n a few t
    (λ k m. rw (one k) (sym (get_or-set_other (set w n a) i k v 0 (λ q. omega (arith, q)) ∙ get_or-set_other w n k a 0 (λ q. omega (arith, q)))))
    (rw (one n) (get_or-set_other (set w n a) i n v 0 (λ q. omega (arith, q)) ∙ get_or-set_same w n a 0 l))
    refl

-- a store past the words leaves the index
pub indexed_set : (w x : List ℕ) (n i v : ℕ) → n ≤ i → Indexed 1 w n x → Indexed 1 (set w i v) n x
indexed_set w x n i v h t = indexed_same 1 w (set w i v) x n (λ k l. rw (one k) (sym (get_or-set_other w i k v 0 (λ q. omega (arith, q))))) t
