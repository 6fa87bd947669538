-- The ways of the checks at a link, one law for each way of the code.
use Rattle.std.specs.Prelude.{ℕ, ◌+◌, ◌-◌, ◌≤◌, ◌<◌, List, ◌≡◌, refl, Bool, true, false, length, take, drop, eqb, ◌||◌, [], ◌∷◌, Some, None}
use Rattle.base.specs.Choice.{pick}
use Rattle.std.proofs.lemmas.Bool.Decides.{nat_tests}
use Rattle.std.specs.Prelude as std
use Rattle.std.specs.Option.{is_some}
use Rattle.std.specs.List.{list_any}
use mathlib.Core.Bool.{false≢true}
use Rattle.photos.specs.FollowedLaws.{is_in-any}
use Rattle.std.proofs.Common.{sym, ap, ◌∙◌, arith, length-drop, take_all}
use Rattle.std.proofs.Math.Option.{Option, none, some}
use Rattle.base.specs.Checked.{ok, refused}
use Rattle.base.specs.ChoiceLaws.{lt_yes, lt_no, eq_yes, eq_no}
use Rattle.mdf.specs.Block.{kind_tx, kind_md, kind_at, whole_at}
use Rattle.mdf.specs.Chain.{is_in}
use Rattle.plan.specs.Copies.{kind_cc, kind_si, kind_fh, Copy, copy_of, is_copied}
use Rattle.copier.specs.Answer.{found_of}
use Rattle.copier.specs.Begin.{begin_at}

-- ---- from the search's answer to the definition's
pub so_some : {o : std.Option ℕ} {v : Option ℕ} {x : ℕ} → found_of o ≡ v → o ≡ Some x → v ≡ some x
so_some e q = sym e ∙ rw q

pub so_none : {o : std.Option ℕ} {v : Option ℕ} → found_of o ≡ v → o ≡ None → v ≡ none
so_none e q = sym e ∙ rw q

-- the same from the test whether something was found
pub tested_some : (o : std.Option ℕ) {v : Option ℕ} {b : Bool} → found_of o ≡ v → b ≡ is_some o → b ≡ true → (x : ℕ) × (v ≡ some x)
tested_some (Some x) e f q = (x, so_some e refl)
tested_some None e f q = absurd (let z : ◌≡◌ {A = Bool} false true = sym f ∙ q in false≢true z)

pub tested_none : (o : std.Option ℕ) {v : Option ℕ} {b : Bool} → found_of o ≡ v → b ≡ is_some o → b ≡ false → v ≡ none
tested_none (Some x) e f q = absurd (let z : ◌≡◌ {A = Bool} false true = sym q ∙ f in false≢true z)
tested_none None e f q = so_none e refl

-- the words from an index to the end
part-all : (w : List ℕ) (i e : ℕ) → length w ≡ e → take (e - i) (drop i w) ≡ drop i w
part-all w i e h = take_all (e - i) (drop i w) (simp length-drop (omega arith))

-- on the way down or not, by std's search of the words from an index on
pub on_way : (w : List ℕ) (i e a : ℕ) {b : Bool} → length w ≡ e → b ≡ list_any (λ y. eqb y a) (take (e - i) (drop i w)) → {x : Bool} → b ≡ x
    → is_in a (drop i w) ≡ x
on_way w i e a h q k = ap (is_in a) (sym (part-all w i e h)) ∙ sym (is_in-any a (take (e - i) (drop i w))) ∙ sym q ∙ k

eqb-sym : (a b : ℕ) → eqb a b ≡ eqb b a
eqb-sym a b = grind (arith, nat_tests)

-- the copied kinds, by std's search of them
pub copied-any : (k : ℕ) → list_any (λ y. eqb y k) (kind_tx ∷ kind_md ∷ kind_cc ∷ kind_si ∷ kind_fh ∷ []) ≡ is_copied k
unfolding is_copied
copied-any k =
    rw (eqb-sym kind_tx k, eqb-sym kind_md k, eqb-sym kind_cc k, eqb-sym kind_si k, eqb-sym kind_fh k)
    (go (eqb k kind_tx) (eqb k kind_md) (eqb k kind_cc) (eqb k kind_si) (eqb k kind_fh))
  where
    go : (a b c d e : Bool) → (a || (b || (c || (d || (e || false))))) ≡ pick a true (pick b true (pick c true (pick d true e)))
    go true b c d e = refl
    go false true c d e = refl
    go false false true d e = refl
    go false false false true e = refl
    go false false false false true = refl
    go false false false false false = refl

-- whether the kind read is copied
pub so_copied : (s : List ℕ) (a : ℕ) {k : ℕ} {r b : Bool} → k ≡ kind_at s a → r ≡ is_copied k → r ≡ b → is_copied (kind_at s a) ≡ b
so_copied s a e q h = ap is_copied (sym e) ∙ sym q ∙ h

pub begin_none : (most left : ℕ) (s way : List ℕ) (a : ℕ) (memo : List Copy) → a ≡ 0 → ok false ≡ begin_at most left s way a memo
unfolding begin_at
begin_none most left s way a memo z = eq_yes _ _ _ _ z refl

module _ (most left : ℕ) (s way : List ℕ) (a : ℕ) (memo : List Copy) (link : a ≡ 0 → ⊥) where
  pub begin_found : {x : ℕ} → copy_of a memo ≡ some x → ok false ≡ begin_at most left s way a memo
  unfolding begin_at
  begin_found f = eq_no _ _ _ _ link (rw f)

  pub begin_deep : copy_of a memo ≡ none → left ≡ 0 → refused 16 a ≡ begin_at most left s way a memo
  unfolding begin_at
  begin_deep f d = eq_no _ _ _ _ link (rw f (eq_yes _ _ _ _ d refl))

module _ (most left : ℕ) (s way : List ℕ) (a : ℕ) (memo : List Copy) (link : a ≡ 0 → ⊥) (f : copy_of a memo ≡ none) (deeper : left ≡ 0 → ⊥) where
  pub begin_circle : is_in a way ≡ true → refused 16 a ≡ begin_at most left s way a memo
  unfolding begin_at
  begin_circle i = eq_no _ _ _ _ link (rw f (eq_no _ _ _ _ deeper (rw i)))

  pub begin_refused : is_in a way ≡ false → {n p : ℕ} → whole_at s a ≡ refused n p → refused n p ≡ begin_at most left s way a memo
  unfolding begin_at
  begin_refused i v = eq_no _ _ _ _ link (rw f (eq_no _ _ _ _ deeper (rw (i, v))))

  module _ (i : is_in a way ≡ false) (v : whole_at s a ≡ ok tt) where
    pub begin_other : is_copied (kind_at s a) ≡ false → ok false ≡ begin_at most left s way a memo
    unfolding begin_at
    begin_other k = eq_no _ _ _ _ link (rw f (eq_no _ _ _ _ deeper (rw (i, v, k))))

    pub begin_full : is_copied (kind_at s a) ≡ true → most ≤ length memo + length way → refused 19 a ≡ begin_at most left s way a memo
    unfolding begin_at
    begin_full k h = eq_no _ _ _ _ link (rw f (eq_no _ _ _ _ deeper (rw (i, v, k) (lt_no _ _ _ _ h refl))))

    pub begin_links : is_copied (kind_at s a) ≡ true → length memo + length way < most → ok true ≡ begin_at most left s way a memo
    unfolding begin_at
    begin_links k h = eq_no _ _ _ _ link (rw f (eq_no _ _ _ _ deeper (rw (i, v, k) (lt_yes _ _ _ _ h refl))))
