-- Laws of the index: a chain has every copy of its remainder, so the last that is met of those that stood at an address is the first copy of it.
use Rattle.std.specs.Prelude.{ℕ, zero, suc, ◌+◌, ◌*◌, ◌-◌, ◌%◌, ◌≤◌, ◌<◌, List, [], ◌∷◌, ◌++◌, Bool, ◌≡◌, length, get_or, set, replicate}
use Rattle.std.proofs.Math.Option.{Option, none, some}
use Rattle.std.proofs.Math.Bool.{true, false}
use Rattle.std.proofs.Math.Path.{refl}
use Rattle.std.proofs.Common.{sym, ap, ◌∙◌, add-one, sub-one, arith, eqb-true, length-set, get_or-set_same, get_or-set_other}
use Rattle.std.proofs.lemmas.Bool.{eqb-false}
use Rattle.std.proofs.Math.Dec.{eqb}
use Rattle.std.proofs.lemmas.List.{length-replicate, get_or-replicate}
use Rattle.base.specs.Choice.{pick, if_eq}
use Rattle.base.specs.ChoiceLaws.{eq_yes, eq_no}
use Rattle.plan.specs.Copies.{Copy, copy_of}
use Rattle.copier.specs.Standing.{copy, copies_from, copies_in}
use Rattle.copier.specs.StandingLaws.{copies_snoc}
use Rattle.copier.specs.Index.{newest, Indexed, place_of}

-- the first of two
abbrev or_else : Option ℕ → Option ℕ → Option ℕ
or_else none o = o
or_else (some a) o = some a

-- ---- the newest of a chain
newest_yes : (w : List ℕ) (b k : ℕ) → get_or w (2 * k) 0 % 2039 ≡ b → newest w b (k + 1) ≡ k + 1
unfolding newest
newest_yes w b k e = rw add-one (sym (eq_yes _ _ _ _ e refl))

newest_no : (w : List ℕ) (b k : ℕ) → (get_or w (2 * k) 0 % 2039 ≡ b → ⊥) → newest w b (k + 1) ≡ newest w b k
unfolding newest
newest_no w b k e = rw add-one (sym (eq_no _ _ _ _ e refl))

newest_least : (w : List ℕ) (b k : ℕ) → newest w b k ≤ k
unfolding newest if_eq
newest_least w b zero = omega arith
newest_least w b (suc k) = go (eqb (get_or w (2 * k) 0 % 2039) b) (newest_least w b k)
  where
    go : (t : Bool) → newest w b k ≤ k → pick t (suc k) (newest w b k) ≤ suc k
    go true h = omega arith
    go false h = omega arith

newest-own : (w : List ℕ) (b k : ℕ) → 0 < newest w b k → get_or w (2 * (newest w b k - 1)) 0 % 2039 ≡ b
unfolding newest if_eq
newest-own w b zero h = absurd (omega arith)
newest-own w b (suc k) h = go (eqb (get_or w (2 * k) 0 % 2039) b) refl h (newest-own w b k)
  where
    go : (t : Bool) → eqb (get_or w (2 * k) 0 % 2039) b ≡ t → 0 < pick t (suc k) (newest w b k)
        → (0 < newest w b k → get_or w (2 * (newest w b k - 1)) 0 % 2039 ≡ b) → get_or w (2 * (pick t (suc k) (newest w b k) - 1)) 0 % 2039 ≡ b
    go true e h rest = rw sub-one (eqb-true _ _ e)
    go false e h rest = rest h

-- the words of the copies alone say it
newest-same : (w v : List ℕ) (b k : ℕ) → ((i : ℕ) → i < k → get_or w (2 * i) 0 ≡ get_or v (2 * i) 0) → newest w b k ≡ newest v b k
unfolding newest
newest-same w v b zero h = refl
newest-same w v b (suc k) h = rw (h k (omega arith), newest-same w v b k (λ i l. h i (omega arith)))

pub indexed_same : (w v x : List ℕ) (n : ℕ) → ((i : ℕ) → i < n → get_or w (2 * i) 0 ≡ get_or v (2 * i) 0) → Indexed w n x → Indexed v n x
indexed_same w v x n h t =
    record {
      long = t.long;
      chains = λ i l. rw (← h i l) (t.chains i l ∙ newest-same w v (get_or w (2 * i) 0 % 2039) i (λ j m. h j (omega arith)));
      heads = λ b l. t.heads b l ∙ newest-same w v b n h;
    }

-- ---- the search
copy_snoc : (a : ℕ) (cs : List Copy) (c : Copy) → copy_of a (cs ++ (c ∷ [])) ≡ or_else (copy_of a cs) (if_eq c.from a (some c.to) none)
unfolding copy_of if_eq
copy_snoc a [] c = refl
copy_snoc a (d ∷ cs) c = go (eqb d.from a) (copy_snoc a cs c)
  where
    go : (t : Bool) → copy_of a (cs ++ (c ∷ [])) ≡ or_else (copy_of a cs) (if_eq c.from a (some c.to) none)
        → pick t (some d.to) (copy_of a (cs ++ (c ∷ []))) ≡ or_else (pick t (some d.to) (copy_of a cs)) (if_eq c.from a (some c.to) none)
    go true e = refl
    go false e = e

more : (w : List ℕ) (a k : ℕ) → copy_of a (copies_in w (k + 1)) ≡ or_else (copy_of a (copies_in w k)) (if_eq (get_or w (2 * k) 0) a (some (get_or w (2 * k + 1) 0)) none)
more w a k =
    let e : 0 + 2 * k ≡ 2 * k = omega arith in
    ap (copy_of a) (rw e at (copies_snoc w 0 k)) ∙ copy_snoc a (copies_in w k) (copy (get_or w (2 * k) 0) (get_or w (2 * k + 1) 0))

or_none : (o : Option ℕ) → or_else o none ≡ o
or_none none = refl
or_none (some a) = refl

or_assoc : (o p q : Option ℕ) → or_else (or_else o p) q ≡ or_else o (or_else p q)
or_assoc none p q = refl
or_assoc (some a) p q = refl

-- a copy of another remainder is passed over
skip : (w : List ℕ) (a k : ℕ) → copy_of a (copies_in w k) ≡ copy_of a (copies_in w (newest w (a % 2039) k))
unfolding newest if_eq
skip w a zero = refl
skip w a (suc k) = go (eqb (get_or w (2 * k) 0 % 2039) (a % 2039)) refl (skip w a k)
  where
    go : (t : Bool) → eqb (get_or w (2 * k) 0 % 2039) (a % 2039) ≡ t → copy_of a (copies_in w k) ≡ copy_of a (copies_in w (newest w (a % 2039) k))
        → copy_of a (copies_in w (suc k)) ≡ copy_of a (copies_in w (pick t (suc k) (newest w (a % 2039) k)))
    go true e rest = refl
    go false e rest =
        let f = eqb-false (get_or w (2 * k) 0 % 2039) (a % 2039) e in
        let z : if_eq (get_or w (2 * k) 0) a (some (get_or w (2 * k + 1) 0)) none ≡ none =
        sym (eq_no (get_or w (2 * k) 0) a (some (get_or w (2 * k + 1) 0)) none (λ q. f (ap (λ (y : ℕ). y % 2039) q)) refl) in
        ap (λ (m : ℕ). copy_of a (copies_in w m)) (sym (add-one k)) ∙ more w a k ∙ rw z (or_none (copy_of a (copies_in w k))) ∙ rest

-- i: the next of the chain; hit: the last that was met
pub record Chasing (w : List ℕ) (n a i hit : ℕ) : Type 0 where
  pub within : i ≤ n
  pub met : hit ≤ n
  pub own : 0 < i → get_or w (2 * (i - 1)) 0 % 2039 ≡ a % 2039
  pub rest : or_else (copy_of a (copies_in w i)) (place_of w hit) ≡ copy_of a (copies_in w n)

place_none : (w : List ℕ) → place_of w 0 ≡ none
unfolding place_of
place_none w = sym (eq_yes 0 0 none (some (get_or w (2 * 0 - 1) 0)) refl refl)

place_some : (w : List ℕ) (k : ℕ) → place_of w (k + 1) ≡ some (get_or w (2 * k + 1) 0)
unfolding place_of
place_some w k =
    let e : 2 * (k + 1) - 1 ≡ 2 * k + 1 = omega arith in
    sym (eq_no (k + 1) 0 none (some (get_or w (2 * (k + 1) - 1) 0)) (λ q. omega (arith, q)) (rw e))

chase_at : (w : List ℕ) (a k : ℕ) → (0 < newest w (a % 2039) k → get_or w (2 * (newest w (a % 2039) k - 1)) 0 % 2039 ≡ a % 2039)
chase_at w a k h = newest-own w (a % 2039) k h

pub chase_begin : (w x : List ℕ) (n a : ℕ) {i : ℕ} → Indexed w n x → i ≡ get_or x (2050 + a % 2039) 0 → Chasing w n a i 0
chase_begin w x n a {i} t e =
    let q : i ≡ newest w (a % 2039) n = e ∙ t.heads (a % 2039) (omega arith) in
    rw q (record {
      within = newest_least w (a % 2039) n;
      met = omega arith;
      own = chase_at w a n;
      rest = rw (place_none w) (or_none (copy_of a (copies_in w (newest w (a % 2039) n))) ∙ sym (skip w a n));
    })

module _ {w : List ℕ} {n a i hit : ℕ} (u : Chasing w n a i hit) where
  ended : i ≡ 0 → place_of w hit ≡ copy_of a (copies_in w n)
  unfolding copies_from copy_of
  ended e = rw e at u.rest

  pub chase_none : i ≡ 0 → hit ≡ 0 → none ≡ copy_of a (copies_in w n)
  chase_none e f = sym (place_none w) ∙ (rw f at (ended e))

  pub chase_hit : i ≡ 0 → 0 < hit → some (get_or w (2 * hit - 1) 0) ≡ copy_of a (copies_in w n)
  chase_hit e f =
      let k : hit - 1 + 1 ≡ hit = omega arith in
      let q : 2 * (hit - 1) + 1 ≡ 2 * hit - 1 = omega arith in
      sym (rw (k, q) at (place_some w (hit - 1))) ∙ ended e

  module _ (h : 0 < i) (x : List ℕ) (t : Indexed w n x) {j : ℕ} (e : j ≡ get_or x (i - 1) 0) where
    older : j ≡ newest w (a % 2039) (i - 1)
    older = e ∙ t.chains (i - 1) (omega (arith, u.within, h)) ∙ ap (λ (b : ℕ). newest w b (i - 1)) (u.own h)

    pub chase_less : j < i
    chase_less = omega (arith, older, newest_least w (a % 2039) (i - 1))

    -- what is left, with the copy that is looked at
    onward : or_else (copy_of a (copies_in w j)) (or_else (if_eq (get_or w (2 * (i - 1)) 0) a (some (get_or w (2 * (i - 1) + 1) 0)) none) (place_of w hit)) ≡ copy_of a (copies_in w n)
    onward =
        let k : i - 1 + 1 ≡ i = omega arith in
        rw older (rw (← skip w a (i - 1)) (sym (or_assoc (copy_of a (copies_in w (i - 1))) (if_eq (get_or w (2 * (i - 1)) 0) a (some (get_or w (2 * (i - 1) + 1) 0)) none) (place_of w hit))
        ∙ ap (λ (o : Option ℕ). or_else o (place_of w hit)) (sym (rw k at (more w a (i - 1)))) ∙ u.rest))

    next : (hit' : ℕ) → hit' ≤ n → or_else (if_eq (get_or w (2 * (i - 1)) 0) a (some (get_or w (2 * (i - 1) + 1) 0)) none) (place_of w hit) ≡ place_of w hit'
        → Chasing w n a j hit'
    next hit' m q =
        record {
          within = omega (arith, chase_less, u.within);
          met = m;
          own = λ l. rw older (newest-own w (a % 2039) (i - 1) (rw older at l));
          rest = rw (← q) onward;
        }

    chase_same : (get_or w (2 * (i - 1)) 0 ≡ a) → Chasing w n a j i
    chase_same q =
        let k : i - 1 + 1 ≡ i = omega arith in
        next i u.within (rw (sym (eq_yes (get_or w (2 * (i - 1)) 0) a (some (get_or w (2 * (i - 1) + 1) 0)) none q refl)) (sym (rw k at (place_some w (i - 1)))))

    chase_other : (get_or w (2 * (i - 1)) 0 ≡ a → ⊥) → Chasing w n a j hit
    chase_other q =
        next hit u.met (rw (sym (eq_no (get_or w (2 * (i - 1)) 0) a (some (get_or w (2 * (i - 1) + 1) 0)) none q refl)))

    pub chase_next : {r : ℕ} → r ≡ if_eq (get_or w (2 * (i - 1)) 0) a i hit → Chasing w n a j r
    unfolding if_eq
    chase_next {r} q = go (eqb (get_or w (2 * (i - 1)) 0) a) refl q
      where
        go : (b : Bool) → eqb (get_or w (2 * (i - 1)) 0) a ≡ b → r ≡ pick b i hit → Chasing w n a j r
        go true z q = rw q (chase_same (eqb-true (get_or w (2 * (i - 1)) 0) a z))
        go false z q = rw q (chase_other (eqb-false (get_or w (2 * (i - 1)) 0) a z))

-- one of two numbers that a limit has
pub met_most : (x a i hit k : ℕ) {r : ℕ} → r ≡ if_eq x a i hit → i ≤ k → hit ≤ k → r ≤ k
unfolding if_eq
met_most x a i hit k e h l = go (eqb x a) e
  where
    go : (b : Bool) {r : ℕ} → r ≡ pick b i hit → r ≤ k
    go true e = omega arith
    go false e = omega arith

-- ---- one copy more
pub index_begin : (w : List ℕ) → Indexed w 0 (replicate 4096 0)
unfolding newest
index_begin w =
    let zero : ℕ = 0 in
    record {
      long = length-replicate 4096 zero;
      chains = λ i k. absurd (omega arith);
      heads = λ b k. get_or-replicate 4096 (2050 + b) 0 0 (omega arith);
    }

pub index_more : (w v x : List ℕ) (n a : ℕ) {h : ℕ} → n < 2050 → Indexed w n x → ((i : ℕ) → i < n → get_or w (2 * i) 0 ≡ get_or v (2 * i) 0)
    → get_or v (2 * n) 0 ≡ a → h ≡ get_or x (2050 + a % 2039) 0
    → Indexed v (n + 1) (set (set x n h) (2050 + a % 2039) (n + 1))
index_more w v x n a {h} few t same from e =
    let s = indexed_same w v x n same t in
    let y : List ℕ = set x n h in
    let l : length y ≡ 4096 = length-set x n h ∙ t.long in
    let small : a % 2039 < 2039 = omega arith in
    record {
      long = length-set y _ _ ∙ l;
      chains = λ i k. before s y l small i k;
      heads = λ b k. head s y l small b k;
    }
  where
    out : (y : List ℕ) (k i v : ℕ) → (i ≡ k → ⊥) → get_or (set y k v) i 0 ≡ get_or y i 0
    out y k i v h = get_or-set_other y k i v 0 h

    before : Indexed v n x → (y : List ℕ) → length y ≡ 4096 → a % 2039 < 2039 → (i : ℕ) → i < n + 1
        → get_or (set (set x n h) (2050 + a % 2039) (n + 1)) i 0 ≡ newest v (get_or v (2 * i) 0 % 2039) i
    before s y l small i k = out (set x n h) (2050 + a % 2039) i (n + 1) (λ q. omega (arith, q)) ∙ go (eqb i n) refl
      where
        go : (t : Bool) → eqb i n ≡ t → get_or (set x n h) i 0 ≡ newest v (get_or v (2 * i) 0 % 2039) i
        go true q =
            let z = eqb-true i n q in
            rw (z, from) (get_or-set_same x n h 0 (omega arith) ∙ e ∙ s.heads (a % 2039) small)
        go false q =
            let z = eqb-false i n q in
            out x n i h z ∙ s.chains i (omega arith)

    head : Indexed v n x → (y : List ℕ) → length y ≡ 4096 → a % 2039 < 2039 → (b : ℕ) → b < 2039
        → get_or (set (set x n h) (2050 + a % 2039) (n + 1)) (2050 + b) 0 ≡ newest v b (n + 1)
    head s y l small b k = go (eqb b (a % 2039)) refl
      where
        go : (t : Bool) → eqb b (a % 2039) ≡ t → get_or (set (set x n h) (2050 + a % 2039) (n + 1)) (2050 + b) 0 ≡ newest v b (n + 1)
        go true q =
            let z = eqb-true b (a % 2039) q in
            rw z (get_or-set_same (set x n h) (2050 + a % 2039) (n + 1) 0 (rw length-set (omega arith)) ∙ sym (newest_yes v (a % 2039) n (rw from)))
        go false q =
            let z = eqb-false b (a % 2039) q in
            out (set x n h) (2050 + a % 2039) (2050 + b) (n + 1) (λ r. z (omega (arith, r)))
            ∙ out x n (2050 + b) h (λ r. omega (arith, r)) ∙ s.heads b k ∙ sym (newest_no v b n (λ r. z (sym (rw from at r))))

-- the two words of a copy more
pub index_placed : (w x : List ℕ) (n i a to : ℕ) → i ≡ n * 2 → i + 1 < length w → n < 2050 → Indexed w n x
    → Indexed (set (set w i a) (i + 1) to) (n + 1) (set (set x n (get_or x (2050 + a % 2039) 0)) (2050 + a % 2039) (n + 1))
index_placed w x n i a to e h few t =
    index_more w (set (set w i a) (i + 1) to) x n a few t
    (λ k l. sym (get_or-set_other (set w i a) (i + 1) (2 * k) to 0 (λ q. omega (arith, q)) ∙ get_or-set_other w i (2 * k) a 0 (λ q. omega (arith, q))))
    (let z : 2 * n ≡ i = omega arith in
    rw z (get_or-set_other (set w i a) (i + 1) i to 0 (λ q. omega (arith, q)) ∙ get_or-set_same w i a 0 (omega arith)))
    refl

-- ---- a store past the copies leaves the index
pub indexed_set : (w x : List ℕ) (n i v : ℕ) → 2 * n ≤ i → Indexed w n x → Indexed (set w i v) n x
indexed_set w x n i v h t = indexed_same w (set w i v) x n (λ k l. sym (get_or-set_other w i (2 * k) v 0 (λ q. omega (arith, q)))) t
