-- Laws of what is noted of the items: it grows by an item, the chain of an address gives its first group, and that is the one sought.
use Rattle.std.specs.Prelude.{ℕ, zero, suc, ◌+◌, ◌*◌, ◌-◌, ◌%◌, ◌≤◌, ◌<◌, List, Bool, true, false, ◌≡◌, refl, eqb, ltb, length, get_or, set, Some, None}
use Rattle.std.proofs.Common.{sym, ◌∙◌, le_refl, arith, eqb-true, ltb-true, ltb-false, length-set, get_or-set_same, get_or-set_other}
use Rattle.std.proofs.Math.Numerals.{add-one}
use Rattle.std.proofs.lemmas.Bool.{eqb-false}
use Rattle.base.specs.Choice.{pick, if_eq}
use Rattle.base.specs.ChoiceLaws.{eq_yes, eq_no}
use Rattle.index.specs.Index.{newest, Indexed}
use Rattle.index.specs.IndexLaws.{newest_least, newest-own, older_is, index_more}
use Rattle.planning.specs.Items.{FoundGroup}
use Rattle.planning.specs.ItemLaws.{Finding, find_begin, find_end, find_hit, find_other, find_data, find_channel}
use Rattle.planning.specs.Noted.{groups_before, data_before, Noted, GroupAt, FirstAt}

one : (k : ℕ) → 1 * k ≡ k
one k = omega arith

-- ---- an item more
module _ (w : List ℕ) (k : ℕ) {m : ℕ} (p : m ≡ get_or w (1536 + k) 0) where
  pub groups_one : m ≡ 1 → groups_before w (k + 1) ≡ groups_before w k + 1
  unfolding groups_before
  groups_one h = rw (add-one k) (sym (eq_yes _ _ _ _ (sym p ∙ h) refl))

  pub groups_same : (m ≡ 1 → ⊥) → groups_before w (k + 1) ≡ groups_before w k
  unfolding groups_before
  groups_same h = rw add-one (sym (eq_no _ _ _ _ (λ z. h (p ∙ z)) refl))

  pub owner_cn : m ≡ 0 → data_before w (k + 1) ≡ data_before w k
  unfolding data_before
  owner_cn h = rw add-one (sym (eq_yes _ _ _ _ (sym p ∙ h) refl))

  pub owner_cg : m ≡ 1 → data_before w (k + 1) ≡ data_before w k
  unfolding data_before
  owner_cg h = rw add-one (sym (eq_no _ _ _ _ (λ z. let y : m ≡ 0 = p ∙ z in omega (arith, y, h)) (eq_yes _ _ _ _ (sym p ∙ h) refl)))

  pub owner_dg : (m ≡ 0 → ⊥) → (m ≡ 1 → ⊥) → data_before w (k + 1) ≡ get_or w k 0
  unfolding data_before
  owner_dg h l = rw add-one (sym (eq_no _ _ _ _ (λ z. h (p ∙ z)) (eq_no _ _ _ _ (λ z. l (p ∙ z)) refl)))

groups_few : (w : List ℕ) (k : ℕ) → groups_before w k ≤ k
unfolding groups_before if_eq
groups_few w zero = omega arith
groups_few w (suc k) = go (eqb (get_or w (1536 + k) 0) 1) (groups_few w k)
  where
    go : (t : Bool) → groups_before w k ≤ k → pick t (groups_before w k + 1) (groups_before w k) ≤ suc k
    go true h = omega arith
    go false h = omega arith

-- i: the items noted so far, with g groups, the last DG at d
pub record Noting (w : List ℕ) (n i g d : ℕ) (t x : List ℕ) : Type 0 where
  pub room : i ≤ n
  pub long : 3072 ≤ length t
  pub groups : g ≡ groups_before w i
  pub owner : d ≡ data_before w i
  pub few : g ≤ i
  pub noted : Noted w i t x

pub note_begin : {w : List ℕ} {n : ℕ} {t x : List ℕ} → 3072 ≤ length t → Indexed 1 w 0 x → Noting w n 0 0 0 t x
unfolding groups_before data_before
note_begin l x =
    record {
      room = omega arith;
      long = l;
      groups = refl;
      owner = refl;
      few = omega arith;
      noted = record { index = x; groups = λ k h. absurd (omega arith); owner = λ k h. absurd (omega arith) };
    }

pub note_end : {w : List ℕ} {n i g d : ℕ} {t x : List ℕ} → Noting w n i g d t x → n ≤ i → Noted w n t x
note_end {w} {n} {i} {t = t} {x} u h = let r = u.room in let e : i ≡ n = omega arith in rw e at u.noted

module _ {w : List ℕ} {n i g d : ℕ} {t x : List ℕ} (u : Noting w n i g d t x) (h : i < n) (l : n ≤ 1536) {a : ℕ} (q : a ≡ get_or w i 0)
    {x1 t1 t2 : List ℕ} (e : i < 2048 → x1 ≡ set (set x i (get_or x (2048 + a % 2039) 0)) (2048 + a % 2039) (i + 1))
    (e1 : t1 ≡ set t (2 * i) g) (e2 : t2 ≡ set t1 (2 * i + 1) d) where
  kept : (k : ℕ) → k < 2 * i → get_or t2 k 0 ≡ get_or t k 0
  kept k b = rw (e2, e1) (get_or-set_other (set t (2 * i) g) (2 * i + 1) k d 0 (λ z. omega (arith, z)) ∙ get_or-set_other t (2 * i) k g 0 (λ z. omega (arith, z)))

  first_word : get_or t2 (2 * i) 0 ≡ groups_before w i
  first_word = let long = u.long in
      rw (e2, e1) (get_or-set_other (set t (2 * i) g) (2 * i + 1) (2 * i) d 0 (λ z. omega (arith, z)) ∙ get_or-set_same t (2 * i) g 0 (omega arith) ∙ u.groups)

  second_word : get_or t2 (2 * i + 1) 0 ≡ data_before w i
  second_word = let long = u.long in
      rw (e2, e1) (get_or-set_same (set t (2 * i) g) (2 * i + 1) d 0 (rw length-set (omega arith)) ∙ u.owner)

  stays : length t2 ≡ length t
  stays = rw (e2, e1) (length-set (set t (2 * i) g) (2 * i + 1) d ∙ length-set t (2 * i) g)

  more : Noted w (i + 1) t2 x1
  more =
      record {
        index = rw (e (omega arith)) (index_more 1 w w x i a (omega arith) u.noted.index (λ k b. refl) (rw (one i) (sym q)) refl);
        groups = λ k b. both_groups k b (eqb k i) refl;
        owner = λ k b. both_owner k b (eqb k i) refl;
      }
    where
      both_groups : (k : ℕ) → k < i + 1 → (s : Bool) → eqb k i ≡ s → get_or t2 (2 * k) 0 ≡ groups_before w k
      both_groups k b true z = rw (eqb-true k i z) first_word
      both_groups k b false z = let y = eqb-false k i z in let c : k < i = omega (arith, b, y) in kept (2 * k) (omega arith) ∙ u.noted.groups k c

      both_owner : (k : ℕ) → k < i + 1 → (s : Bool) → eqb k i ≡ s → get_or t2 (2 * k + 1) 0 ≡ data_before w k
      both_owner k b true z = rw (eqb-true k i z) second_word
      both_owner k b false z = let y = eqb-false k i z in let c : k < i = omega (arith, b, y) in kept (2 * k + 1) (omega arith) ∙ u.noted.owner k c

  grown : {g1 d1 : ℕ} → g1 ≡ groups_before w (i + 1) → d1 ≡ data_before w (i + 1) → Noting w n (i + 1) g1 d1 t2 x1
  grown {g1} c f =
      let r = u.long in
      let s = stays in
      let b = groups_few w (i + 1) in
      record { room = omega arith; long = omega arith; groups = c; owner = f; few = omega (arith, b, c); noted = more }

  module _ {m : ℕ} (p : m ≡ get_or w (1536 + i) 0) where
    pub note_cg : m ≡ 1 → Noting w n (i + 1) (g + 1) d t2 x1
    note_cg z = grown (rw u.groups (sym (groups_one w i p z))) (u.owner ∙ sym (owner_cg w i p z))

    pub note_dg : (m ≡ 0 → ⊥) → (m ≡ 1 → ⊥) → Noting w n (i + 1) g a t2 x1
    note_dg z y = grown (u.groups ∙ sym (groups_same w i p y)) (q ∙ sym (owner_dg w i p z y))

    pub note_cn : m ≡ 0 → Noting w n (i + 1) g d t2 x1
    note_cn z = grown (u.groups ∙ sym (groups_same w i p (λ y. omega (arith, y, z)))) (u.owner ∙ sym (owner_cn w i p z))

-- ---- the first group at a, by the index
-- no item past the newest of a chain is of it
newest-past : (w : List ℕ) (b n k : ℕ) → newest 1 w b n ≤ k → k < n → get_or w k 0 % 2039 ≡ b → ⊥
unfolding newest if_eq
newest-past w b zero k h l e = absurd (omega arith)
newest-past w b (suc n) k h l e = go (eqb (get_or w (1 * n) 0 % 2039) b) refl h (λ r m. newest-past w b n k r m e)
  where
    go : (t : Bool) → eqb (get_or w (1 * n) 0 % 2039) b ≡ t → pick t (suc n) (newest 1 w b n) ≤ k → (newest 1 w b n ≤ k → k < n → ⊥) → ⊥
    go true q h rest = absurd (omega arith)
    go false q h rest = last (eqb k n) refl
      where
        last : (s : Bool) → eqb k n ≡ s → ⊥
        last true z = eqb-false (get_or w (1 * n) 0 % 2039) b q (rw (one n, ← eqb-true k n z) e)
        last false z = let y = eqb-false k n z in rest h (omega (arith, l, y))

-- i: the next of the chain; f: the first group at a from item i on, and 1
pub record Seeking (w : List ℕ) (n a i f : ℕ) : Type 0 where
  pub within : i ≤ n
  pub chain : 0 < i → get_or w (1 * (i - 1)) 0 % 2039 ≡ a % 2039
  pub room : f ≤ n
  pub own : (k : ℕ) → k + 1 ≡ f → GroupAt w k a
  pub first : (k : ℕ) → i ≤ k → k < n → GroupAt w k a → (0 < f) × (f ≤ k + 1)

pub seek_begin : (w x : List ℕ) (n a : ℕ) {i : ℕ} → Indexed 1 w n x → i ≡ get_or x (2048 + a % 2039) 0 → Seeking w n a i 0
seek_begin w x n a {i} t e =
    let q : i ≡ newest 1 w (a % 2039) n = e ∙ t.heads (a % 2039) (omega arith) in
    rw q (record {
      within = newest_least 1 w (a % 2039) n;
      chain = λ h. newest-own 1 w (a % 2039) n h;
      room = omega arith;
      own = λ k z. absurd (omega (arith, z));
      first = λ k h l g. absurd (newest-past w (a % 2039) n k h l (rw g.at));
    })

pub seek_end : {w : List ℕ} {n a i f : ℕ} → Seeking w n a i f → i ≤ 0 → FirstAt w n a f
seek_end u e = record { room = u.room; own = u.own; first = λ k l g. u.first k (omega arith) l g }

module _ {w x : List ℕ} {n a i f : ℕ} (u : Seeking w n a i f) (h : 0 < i) (t : Indexed 1 w n x) {j : ℕ} (e : j ≡ get_or x (i - 1) 0) where
  older : j ≡ newest 1 w (a % 2039) (i - 1)
  older = older_is 1 w x n a i t h u.within (u.chain h) e

  pub seek_less : j < i
  seek_less = let k = newest_least 1 w (a % 2039) (i - 1) in omega (arith, older, k, h)

  chained : 0 < j → get_or w (1 * (j - 1)) 0 % 2039 ≡ a % 2039
  chained g = rw older (newest-own 1 w (a % 2039) (i - 1) (rw older at g))

  -- none lies between two of the chain
  between : (k : ℕ) → j ≤ k → k < i - 1 → GroupAt w k a → ⊥
  between k l m g = newest-past w (a % 2039) (i - 1) k (rw older at l) m (rw g.at)

  pub seek_hit : {m b : ℕ} → m ≡ get_or w (1536 + (i - 1)) 0 → b ≡ get_or w (i - 1) 0 → m ≡ 1 → b ≡ a → Seeking w n a j (i - 1 + 1)
  seek_hit p q y z =
      let k = u.within in
      record {
        within = omega (arith, seek_less, k);
        chain = chained;
        room = omega arith;
        own = λ k s. let c : k ≡ i - 1 = omega (arith, s) in rw c (record { mark = sym p ∙ y; at = sym q ∙ z });
        first = λ k s l g. (omega arith, go k s g (ltb k (i - 1)) refl);
      }
    where
      go : (k : ℕ) → j ≤ k → GroupAt w k a → (r : Bool) → ltb k (i - 1) ≡ r → i - 1 + 1 ≤ k + 1
      go k s g true c = absurd (between k s (ltb-true _ _ c) g)
      go k s g false c = let d : i - 1 ≤ k = ltb-false k (i - 1) c in omega (arith, d)

  pub seek_other : (GroupAt w (i - 1) a → ⊥) → Seeking w n a j f
  seek_other nay =
      let k = u.within in
      record {
        within = omega (arith, seek_less, k);
        chain = chained;
        room = u.room;
        own = u.own;
        first = λ k s l g. go k s l g (ltb k (i - 1)) refl;
      }
    where
      go : (k : ℕ) → j ≤ k → k < n → GroupAt w k a → (r : Bool) → ltb k (i - 1) ≡ r → (0 < f) × (f ≤ k + 1)
      go k s l g true c = absurd (between k s (ltb-true _ _ c) g)
      go k s l g false c = last (eqb k (i - 1)) refl
        where
          last : (r : Bool) → eqb k (i - 1) ≡ r → (0 < f) × (f ≤ k + 1)
          last true z = absurd (nay (rw (eqb-true k (i - 1) z) at g))
          last false z = let y = eqb-false k (i - 1) z in let d : i - 1 ≤ k = ltb-false k (i - 1) c in u.first k (omega (arith, y, d)) l g

  pub seek_unmarked : {m : ℕ} → m ≡ get_or w (1536 + (i - 1)) 0 → (m ≡ 1 → ⊥) → Seeking w n a j f
  seek_unmarked p y = seek_other (λ g. y (p ∙ g.mark))

  pub seek_elsewhere : {b : ℕ} → b ≡ get_or w (i - 1) 0 → (b ≡ a → ⊥) → Seeking w n a j f
  seek_elsewhere q y = seek_other (λ g. y (q ∙ g.at))

-- ---- the group sought
reach_none : (w : List ℕ) (n a : ℕ) → Finding w n a 0 (groups_before w 0) (data_before w 0)
unfolding groups_before data_before
reach_none w n a = find_begin

reach_one : (w : List ℕ) (n a k : ℕ) → k < n → (GroupAt w k a → ⊥) → Finding w n a k (groups_before w k) (data_before w k)
    → Finding w n a (k + 1) (groups_before w (k + 1)) (data_before w (k + 1))
reach_one w n a k l nay u = go (get_or w (1536 + k) 0) refl (eqb (get_or w (1536 + k) 0) 0) refl (eqb (get_or w (1536 + k) 0) 1) refl
  where
    go : (m : ℕ) → m ≡ get_or w (1536 + k) 0 → (s : Bool) → eqb m 0 ≡ s → (r : Bool) → eqb m 1 ≡ r
        → Finding w n a (k + 1) (groups_before w (k + 1)) (data_before w (k + 1))
    go m p true e r f =
        let z = eqb-true m 0 e in
        rw (groups_same w k p (λ y. omega (arith, y, z)), owner_cn w k p z) (find_channel u l p refl z)
    go m p false e true f =
        let z = eqb-true m 1 f in
        rw (groups_one w k p z, owner_cg w k p z) (find_other u l p refl z (λ y. nay (record { mark = sym p ∙ z; at = y })))
    go m p false e false f =
        let y = eqb-false m 0 e in
        let z = eqb-false m 1 f in
        rw (groups_same w k p z, owner_dg w k p y z) (find_data u l p refl y z)

-- where no item before k is one, the search may begin at k
reach : (w : List ℕ) (n a k : ℕ) → k ≤ n → ((j : ℕ) → j < k → GroupAt w j a → ⊥) → Finding w n a k (groups_before w k) (data_before w k)
reach w n a zero l nay = reach_none w n a
reach w n a (suc k) l nay = rw (← add-one k) (reach_one w n a k (omega arith) (nay k (omega arith)) (reach w n a k (omega arith) (λ j b. nay j (omega arith))))

module _ {w : List ℕ} {n a r : ℕ} (u : FirstAt w n a r) where
  pub found_none : r ≡ 0 → FoundGroup w n a None
  found_none z = find_end (reach w n a n (le_refl n) (λ k l g. let b = (u.first k l g).0 in omega (arith, b, z))) (le_refl n)

  module _ (z : r ≡ 0 → ⊥) {t x : List ℕ} (e : Noted w n t x) {g : ℕ} (p : g ≡ get_or t (2 * (r - 1)) 0) where
    past : r - 1 < n
    past = let l = u.room in omega (arith, l, z)

    counted : g ≡ groups_before w (r - 1)
    counted = p ∙ e.groups (r - 1) past

    pub found-few : g < n
    found-few = let l = groups_few w (r - 1) in omega (arith, l, counted, past)

    pub found-group : {c d : ℕ} → c ≡ get_or w (3584 + g) 0 → d ≡ get_or t (2 * (r - 1) + 1) 0 → FoundGroup w n a (Some (record { item = r; records = c; dg = d; number = g }))
    found-group {c} {d} y s =
        let b : r - 1 + 1 ≡ r = omega (arith, z) in
        let o : GroupAt w (r - 1) a = u.own (r - 1) b in
        let f : Finding w n a (r - 1) g d = rw (counted, s ∙ e.owner (r - 1) past)
        (reach w n a (r - 1) (omega (arith, past)) (λ k l v. let i = (u.first k (omega (arith, l, past)) v).1 in omega (arith, i, l))) in
        rw b at (find_hit f past refl refl o.mark o.at y)
