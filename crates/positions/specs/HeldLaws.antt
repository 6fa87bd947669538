-- Names in fours are the names of the definition.
use Prim.Native.Nat.{ℕ, zero, suc, ◌+◌, ◌≤◌, ◌<◌, min, max}
use Rattle.std.specs.Prelude.{List, ◌≡◌, length, set, take, eqb, Bool, true, false, Option, Some, None}
use Rattle.std.proofs.Math.Option.{none, some}
use Rattle.std.specs.List.{position, position_or_len}
use Rattle.std.specs.Option.{unwrap_or}
use Rattle.std.proofs.Math.Logic.{⊎_elim}
use Rattle.std.proofs.Math.Path.{refl, sym}
use Rattle.std.proofs.Common.{ap, ◌∙◌}
use native.Mathlib.Omega.{arith}
use Rattle.std.proofs.Math.ListN.{get_or}
use Rattle.std.proofs.Math.Seq.{get_or-set_same, get_or-set_other}
use Rattle.std.proofs.lemmas.Bool.{eqb-true, eqb-false, lt-ltb}
use Rattle.std.proofs.lemmas.Option.{none-some}
use Rattle.std.proofs.lemmas.List.{get_or-take, length-take-le}
use Rattle.std.proofs.lemmas.List.Quantifiers.{position-Some}
use Rattle.std.proofs.lemmas.List.Sums.{fails_before_first}
use Rattle.base.specs.ChoiceLaws.{eq_yes, eq_no}
use Rattle.base.specs.Checked.{ok, refused}
use Rattle.stores.specs.Cases.{lt_or_le}
use Rattle.stores.proofs.RunLaws.{named_late, named_fifth, named-fine, recalled_late, recalled_none, recalled_fine}
use Rattle.stores.specs.Stores.{given, sought, naming, recalling}
use Rattle.positions.specs.declared.Positions.{Positions}
use Rattle.positions.specs.Held.{held_from, state_of, FirstAt}

-- ---- the first of the names, past the first m of them
module _ (ns ps : List ℕ) (n : ℕ) where
  found : (k m i : ℕ) → m ≤ i → i < m + k → ((j : ℕ) → j < i → get_or ns j 0 ≡ n → ⊥) → get_or ns i 0 ≡ n
      → sought n (held_from ns ps m k) ≡ some (get_or ps i 0)
  unfolding sought held_from
  found zero m i h l b e = absurd (omega arith)
  found (suc k) m i h l b e = ⊎_elim
      (λ g. sym (eq_no _ _ _ _ (b m g) (sym (found k (suc m) i (omega arith) (omega arith) b e))))
      (λ g. let z : m ≡ i = omega arith in rw z (sym (eq_yes _ _ _ _ e refl))) (lt_or_le m i)

  unfound : (k m : ℕ) → ((j : ℕ) → j < m + k → get_or ns j 0 ≡ n → ⊥) → sought n (held_from ns ps m k) ≡ none
  unfolding sought held_from
  unfound zero m b = refl
  unfound (suc k) m b = sym (eq_no _ _ _ _ (b m (omega arith)) (sym (unfound k (suc m) (λ j l. b j (omega arith)))))

  pub sought-some : (h i : ℕ) → FirstAt ns h n i → i < h → sought n (held_from ns ps 0 h) ≡ some (get_or ps i 0)
  sought-some h i f l = found h 0 i (omega arith) (omega arith) f.before (f.is l)

  pub sought-none : (h i : ℕ) → FirstAt ns h n i → i ≡ h → sought n (held_from ns ps 0 h) ≡ none
  sought-none h i f e = unfound h 0 (λ j l. f.before j (omega arith))

-- ---- a name given

-- stores before number m change none of the names from there on
held-past : (ns ps : List ℕ) (i x y k m : ℕ) → i < m → held_from (set ns i x) (set ps i y) m k ≡ held_from ns ps m k
unfolding held_from
held-past ns ps i x y zero m h = refl
held-past ns ps i x y (suc k) m h =
    let a : get_or (set ns i x) m 0 ≡ get_or ns m 0 = get_or-set_other ns i m x 0 (λ e. omega (arith, e)) in
    let b : get_or (set ps i y) m 0 ≡ get_or ps m 0 = get_or-set_other ps i m y 0 (λ e. omega (arith, e)) in
    rw (a, b, held-past ns ps i x y k (suc m) (omega arith)) refl

module _ (ns ps : List ℕ) (n x : ℕ) where
  -- another name stands before it
  given-later : (k c m i : ℕ) → m < i → (get_or ns m 0 ≡ n → ⊥) → given n x (held_from ns ps (suc m) k) ≡ held_from (set ns i n) (set ps i x) (suc m) c
      → given n x (held_from ns ps m (suc k)) ≡ held_from (set ns i n) (set ps i x) m (suc c)
  unfolding given held_from
  given-later k c m i g b e =
      let u : get_or (set ns i n) m 0 ≡ get_or ns m 0 = get_or-set_other ns i m n 0 (λ z. omega (arith, z)) in
      let v : get_or (set ps i x) m 0 ≡ get_or ps m 0 = get_or-set_other ps i m x 0 (λ z. omega (arith, z)) in
      sym (eq_no _ _ _ _ b (rw (u, v, ← e) refl))

  -- it stands there
  given-here : (k m : ℕ) → m < length ns → m < length ps → get_or ns m 0 ≡ n
      → given n x (held_from ns ps m (suc k)) ≡ held_from (set ns m n) (set ps m x) m (suc k)
  unfolding given held_from
  given-here k m p q e =
      let u : get_or (set ns m n) m 0 ≡ n = get_or-set_same ns m n 0 p in
      let v : get_or (set ps m x) m 0 ≡ x = get_or-set_same ps m x 0 q in
      sym (eq_yes _ _ _ _ e (rw (u, v, held-past ns ps m n x k (suc m) (omega arith)) refl))

  given-found : (k m i : ℕ) → m ≤ i → i < m + k → i < length ns → i < length ps → ((j : ℕ) → j < i → get_or ns j 0 ≡ n → ⊥) → get_or ns i 0 ≡ n
      → given n x (held_from ns ps m k) ≡ held_from (set ns i n) (set ps i x) m k
  given-found zero m i h l p q b e = absurd (omega arith)
  given-found (suc k) m i h l p q b e = ⊎_elim
      (λ g. given-later k k m i g (b m g) (given-found k (suc m) i (omega arith) (omega arith) p q b e))
      (λ g. let z : i ≡ m = omega arith in rw z (given-here k m (omega arith) (omega arith) (rw z at e))) (lt_or_le m i)

  given-alone : (m : ℕ) → m < length ns → m < length ps → given n x (held_from ns ps m zero) ≡ held_from (set ns m n) (set ps m x) m 1
  unfolding given held_from
  given-alone m p q =
      let u : get_or (set ns m n) m 0 ≡ n = get_or-set_same ns m n 0 p in
      let v : get_or (set ps m x) m 0 ≡ x = get_or-set_same ps m x 0 q in
      rw (u, v) refl

  given_new : (k m i : ℕ) → i ≡ m + k → i < length ns → i < length ps → ((j : ℕ) → j < i → get_or ns j 0 ≡ n → ⊥)
      → given n x (held_from ns ps m k) ≡ held_from (set ns i n) (set ps i x) m (suc k)
  given_new zero m i e p q b = let z : i ≡ m = omega arith in rw z (given-alone m (omega arith) (omega arith))
  given_new (suc k) m i e p q b = given-later k (suc k) m i (omega arith) (b m (omega arith)) (given_new k (suc m) i (omega arith) p q b)

-- ---- the index of a name
abbrev pub index : List ℕ → ℕ → ℕ → Option ℕ
index ns h n = position (λ k. eqb k n) (take h ns)

-- none is first: each is before the first
missed : (p : ℕ → Bool) (l : List ℕ) (j : ℕ) → j < length l → position p l ≡ None → j < position_or_len p l
missed p l j h e =
    let q : ℕ = position_or_len p l in
    ⊎_elim (λ a. absurd (none-some q (sym (rw (lt-ltb q (length l) a) at e)))) (λ a. omega (arith, h, a)) (lt_or_le q (length l))

module _ (ns : List ℕ) (h n : ℕ) (l : h ≤ length ns) where
  pub index-some : (i : ℕ) → index ns h n ≡ Some i → FirstAt ns h n i × (i < h)
  index-some i e =
      let s : (i < length (take h ns)) × (eqb (get_or (take h ns) i 0) n ≡ true) × ((k : ℕ) → k < i → eqb (get_or (take h ns) k 0) n ≡ false) =
      position-Some (λ k. eqb k n) (take h ns) i 0 e in
      let m : i < h = omega (arith, s.0, length-take-le h ns l) in (
        record {
          few = omega arith;
          before = λ j b q. eqb-false _ _ (s.2 j b) (get_or-take h ns j 0 (omega arith) ∙ q);
          is = λ b. sym (get_or-take h ns i 0 m) ∙ eqb-true _ _ s.1;
        },
        m,
      )

  pub index-none : index ns h n ≡ None → FirstAt ns h n h
  index-none e =
      record {
        few = omega arith;
        before = λ j b q. eqb-false _ _ (fails_before_first (λ k. eqb k n) (take h ns) j 0 (missed (λ k. eqb k n) (take h ns) j (omega (arith, length-take-le h ns l)) e)) (get_or-take h ns j 0 b ∙ q);
        is = λ b. absurd (omega arith);
      }

-- ---- what a call answers
length-held : (ns ps : List ℕ) (m k : ℕ) → length (held_from ns ps m k) ≡ k
unfolding held_from
length-held ns ps m zero = refl
length-held ns ps m (suc k) = ap suc (length-held ns ps (suc m) k)

module _ (p : Positions) (steps n : ℕ) where
  abbrev held : ℕ
  held = min p.count 4

  pub name_late : steps ≤ p.next → refused 30 0 ≡ naming steps n (state_of p)
  name_late h = sym (named_late steps n (state_of p) h)

  pub recall_late : steps ≤ p.next → refused 30 0 ≡ recalling steps n (state_of p)
  recall_late h = sym (recalled_late steps n (state_of p) h)

  module _ (names : length p.names ≡ 4) (places : length p.places ≡ 4) (a : p.next < steps) where
    answered : (i c : ℕ) → i < 4 → c ≤ 4 → given n p.next (held_from p.names p.places 0 held) ≡ held_from (set p.names i n) (set p.places i p.next) 0 c
        → ok (state_of (record { next = p.next; count = c; names = set p.names i n; places = set p.places i p.next })) ≡ naming steps n (state_of p)
    answered i c l m g =
        let few : length (given n p.next (state_of p).held) ≤ 4 = rw (g, length-held) m in
        let z : min c 4 ≡ c = omega arith in
        sym (named-fine steps n (state_of p) a few ∙ rw (z, ← g) refl)

    module _ (h : ℕ) (eh : h ≡ held) where
      pub name_fifth : (o : Option ℕ) (i : ℕ) → o ≡ index p.names h n → i ≡ unwrap_or o h → 3 < i → refused 30 0 ≡ naming steps n (state_of p)
      name_fifth (Some j) i e u l = let f : j < h = (index-some p.names h n (omega arith) j (sym e)).1 in absurd (omega (arith, f))
      name_fifth None i e u l =
          sym
          (named_fifth steps n (state_of p) (length-held p.names p.places 0 held ∙ omega arith)
          (rw (← eh) (sought-none p.names p.places n h h (index-none p.names h n (omega arith) (sym e)) refl)))

      -- a name given again, or a new one
      pub name_fine : (o : Option ℕ) (i c : ℕ) → o ≡ index p.names h n → i ≡ unwrap_or o h → i ≤ 3 → c ≡ max h (i + 1)
          → ok (state_of (record { next = p.next; count = c; names = set p.names i n; places = set p.places i p.next })) ≡ naming steps n (state_of p)
      name_fine (Some j) i c e u l m =
          let f : FirstAt p.names h n j × (j < h) = index-some p.names h n (omega arith) j (sym e) in
          answered i c (omega arith) (omega (arith, f.1))
          (rw (u, ← eh)
          (let z : c ≡ h = omega (arith, f.1) in
          rw z (given-found p.names p.places n p.next h 0 j (omega arith) (omega (arith, f.1)) (omega arith) (omega arith) f.0.before (f.0.is f.1))))
      name_fine None i c e u l m =
          let f : FirstAt p.names h n h = index-none p.names h n (omega arith) (sym e) in
          answered i c (omega arith) (omega arith)
          (rw (u, ← eh)
          (let z : c ≡ suc h = omega arith in
          rw z (given_new p.names p.places n p.next h 0 h (omega arith) (omega arith) (omega arith) f.before)))

      pub recall_none : (o : Option ℕ) → o ≡ index p.names h n → o ≡ None → refused 29 0 ≡ recalling steps n (state_of p)
      recall_none o e m =
          sym
          (recalled_none steps n (state_of p) a
          (rw (← eh) (sought-none p.names p.places n h h (index-none p.names h n (omega arith) (sym e ∙ m)) refl)))

      pub recall_fine : (o : Option ℕ) (i : ℕ) → o ≡ index p.names h n → o ≡ Some i
          → ok (state_of (record { next = get_or p.places i 0; count = p.count; names = p.names; places = p.places })) ≡ recalling steps n (state_of p)
      recall_fine o i e m =
          let f : FirstAt p.names h n i × (i < h) = index-some p.names h n (omega arith) i (sym e ∙ m) in
          sym (recalled_fine steps n (state_of p) (get_or p.places i 0) a (rw (← eh) (sought-some p.names p.places n h i f.0 f.1)))
