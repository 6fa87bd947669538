-- The number of a group among groups.
use Rattle.std.specs.Prelude.{ℕ, suc, ◌+◌, ◌≤◌, ◌<◌, Bool, true, false, List, [], ◌∷◌, ◌≡◌, refl, length, get_or, drop, eqb}
use Rattle.std.proofs.Common.{sym, zero-add, add-one, arith, drop_of_length-le, drop-cons, eqb-true}
use Rattle.std.proofs.lemmas.Bool.{eqb-false}
use Rattle.base.specs.ChoiceLaws.{eq_yes, eq_no}
use Rattle.places.specs.Stretch.{number_in}

-- ---- counted group by group
pub record Numbering (gs : List ℕ) (g i : ℕ) : Type 0 where
  pub room : i ≤ length gs
  pub rest : i + number_in g (drop i gs) ≡ number_in g gs

pub number_begin : {gs : List ℕ} {g : ℕ} → Numbering gs g 0
number_begin {gs} {g} = record { room = omega arith; rest = zero-add (number_in g gs) }

pub number_hit : (g h : ℕ) (gs : List ℕ) → h ≡ g → number_in g (h ∷ gs) ≡ 0
unfolding number_in
number_hit g h gs e = sym (eq_yes _ _ _ _ e refl)

pub number-next : (g h : ℕ) (gs : List ℕ) → (h ≡ g → ⊥) → number_in g (h ∷ gs) ≡ suc (number_in g gs)
unfolding number_in
number-next g h gs e = sym (eq_no _ _ _ _ e refl)

number-none : (g : ℕ) → number_in g [] ≡ 0
unfolding number_in
number-none g = refl

module _ {gs : List ℕ} {g i : ℕ} (t : Numbering gs g i) where
  pub number_end : length gs ≤ i → length gs ≡ number_in g gs
  number_end h =
      let e : drop i gs ≡ [] = drop_of_length-le gs h in
      let r : i + number_in g [] ≡ number_in g gs = rw e at t.rest in
      omega (arith, t.room, number-none g)

  module _ (h : i < length gs) where
    opened : i + number_in g (get_or gs i 0 ∷ drop (suc i) gs) ≡ number_in g gs
    opened = rw (drop-cons gs i 0 h) at t.rest

    pub number-found : get_or gs i 0 ≡ g → i ≡ number_in g gs
    number-found e = let r = opened in omega (arith, number_hit g (get_or gs i 0) (drop (suc i) gs) e)

    pub number-on : (get_or gs i 0 ≡ g → ⊥) → Numbering gs g (i + 1)
    number-on e =
        let r = opened in
        let q = number-next g (get_or gs i 0) (drop (suc i) gs) e in
        record { room = omega arith; rest = rw (add-one i) (omega arith) }

-- the group of that number
pub number-at : (g : ℕ) (gs : List ℕ) → number_in g gs < length gs → get_or gs (number_in g gs) 0 ≡ g
number-at g [] h = absurd (omega arith)
number-at g (x ∷ gs) h = go (number-at g gs) (eqb x g) refl
  where
    go : (number_in g gs < length gs → get_or gs (number_in g gs) 0 ≡ g) → (t : Bool) → eqb x g ≡ t → get_or (x ∷ gs) (number_in g (x ∷ gs)) 0 ≡ g
    go f true q = let e = eqb-true x g q in rw (number_hit g x gs e) e
    go f false q = let n = number-next g x gs (eqb-false x g q) in rw n (f (omega arith))
