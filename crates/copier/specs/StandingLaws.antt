-- The laws of the copies that stand in words: the search for one, one copy more, what a store past them leaves.
use Rattle.std.specs.Prelude.{ℕ, zero, suc, ◌+◌, ◌*◌, ◌-◌, ◌≤◌, ◌<◌, List, [], ◌∷◌, ◌++◌, ◌≡◌, Bool, true, false, eqb, ltb, min, ◌/◌, length, take, get_or, set, drop}
use Rattle.std.proofs.Math.Path.{refl}
use Rattle.std.proofs.Common.{ltb-true, ltb-false, sym, ap, ◌∙◌, add-zero, sub-one, length-set, get_or-set_same, get_or-set_other, drop-set-lt, drop-drop}
use Rattle.std.proofs.Math.Option.{Option, none, some}
use Rattle.std.specs.Prelude.{Some, None}
use Rattle.std.specs.Prelude as std
use Rattle.std.specs.Option.{unwrap_or}
use native.Mathlib.Omega.{arith}
use Rattle.std.proofs.Math.ListN.{get_or-eq_default}
use Rattle.std.proofs.lemmas.List.{get_or-take}
use Rattle.std.proofs.Common.{length-take-le}
use Rattle.base.specs.Choice.{pick, if_eq}
use Rattle.base.specs.ChoiceLaws.{eq_yes, eq_no}
use Rattle.plan.specs.Geometry.{align8}
use Rattle.plan.specs.Copies.{Copy, copy_of, with_copy}
use Rattle.copier.specs.declared.memo.Copying.{Copying}
use Rattle.copier.specs.Answer.{found_of, link_of}
use Rattle.copier.specs.Standing.{copy, copies_from, copies_in, standing, Past}

-- ---- so many copies from p on: none, or one and the rest
copies-none : (w : List ℕ) (p k : ℕ) → k ≡ 0 → copies_from w p k ≡ []
unfolding copies_from
copies-none w p k e = rw e

copies_cons : (w : List ℕ) (p k : ℕ) → 0 < k → copies_from w p k ≡ copy (get_or w p 0) (get_or w (p + 1) 0) ∷ copies_from w (p + 2) (k - 1)
unfolding copies_from
copies_cons w p zero h = absurd (omega arith)
copies_cons w p (suc k) h = rw sub-one

pub length-copies : (w : List ℕ) (p k : ℕ) → length (copies_from w p k) ≡ k
unfolding copies_from
length-copies w p zero = refl
length-copies w p (suc k) = ap suc (length-copies w (p + 2) k)

-- ---- the search: what is left of the copies gives what all give
module _ (w : List ℕ) (p k a : ℕ) {o : Option ℕ} where
  pub find_end : copy_of a (copies_from w p k) ≡ o → k ≡ 0 → none ≡ o
  unfolding copy_of
  find_end i e = rw (copies-none w p k e) at i

  pub find_hit : copy_of a (copies_from w p k) ≡ o → 0 < k → get_or w p 0 ≡ a → some (get_or w (p + 1) 0) ≡ o
  unfolding copy_of
  find_hit i h e = eq_yes _ _ _ _ e refl ∙ (rw (copies_cons w p k h) at i)

  pub find_miss : copy_of a (copies_from w p k) ≡ o → 0 < k → (get_or w p 0 ≡ a → ⊥) → copy_of a (copies_from w (p + 2) (k - 1)) ≡ o
  unfolding copy_of
  find_miss i h e = eq_no _ _ _ _ e refl ∙ (rw (copies_cons w p k h) at i)

-- ---- a link led to its copy
pub link_found : (o : std.Option ℕ) {v : Option ℕ} → found_of o ≡ v → unwrap_or o 0 ≡ link_of v
link_found (Some x) e = ap link_of e
link_found None e = ap link_of e

-- a copy that stands past the words leads to 0
link-past : (w : List ℕ) (p k a : ℕ) → length w ≤ p + 1 → link_of (copy_of a (copies_from w p k)) ≡ 0
unfolding copies_from copy_of if_eq
link-past w p zero a h = refl
link-past w p (suc k) a h =
    rw (get_or-eq_default w 0 h) (go (eqb (get_or w p 0) a) (link-past w (p + 2) k a (omega arith)))
  where
    go : (b : Bool) → link_of (copy_of a (copies_from w (p + 2) k)) ≡ 0 → link_of (pick b (some 0) (copy_of a (copies_from w (p + 2) k))) ≡ 0
    go true e = refl
    go false e = e

link_whole : (w : List ℕ) (p j k a : ℕ) → j ≤ k → length w ≤ p + 2 * j + 1
    → link_of (copy_of a (copies_from w p j)) ≡ link_of (copy_of a (copies_from w p k))
unfolding copies_from copy_of if_eq
link_whole w p zero k a h l = sym (link-past w p k a (omega arith))
link_whole w p (suc j) zero a h l = absurd (omega arith)
link_whole w p (suc j) (suc k) a h l =
    go (eqb (get_or w p 0) a) (link_whole w (p + 2) j k a (omega arith) (omega arith))
  where
    go : (b : Bool) → link_of (copy_of a (copies_from w (p + 2) j)) ≡ link_of (copy_of a (copies_from w (p + 2) k))
        → link_of (pick b (some (get_or w (p + 1) 0)) (copy_of a (copies_from w (p + 2) j)))
        ≡ link_of (pick b (some (get_or w (p + 1) 0)) (copy_of a (copies_from w (p + 2) k)))
    go true e = refl
    go false e = e

-- the copies that lie in the words whole give the link
pub link-words : (w : List ℕ) (j k a : ℕ) {r : ℕ} → r ≡ link_of (copy_of a (copies_in w j)) → j ≤ k → length w ≤ 2 * j + 1 → r ≡ link_of (copy_of a (copies_in w k))
link-words w j k a e h l = e ∙ link_whole w 0 j k a h (omega arith)

-- the first words give the first copies
copies_first : (w : List ℕ) (p k m : ℕ) → p + 2 * k ≤ m → copies_from (take m w) p k ≡ copies_from w p k
unfolding copies_from
copies_first w p zero m h = refl
copies_first w p (suc k) m h = rw (get_or-take m w p 0 (omega arith), get_or-take m w (p + 1) 0 (omega arith), copies_first w (p + 2) k m (omega arith))

pub copies_lent : (w : List ℕ) (k : ℕ) → 2 * k ≤ length w → copies_in (take (2 * k) w) (length (take (2 * k) w) / 2) ≡ copies_in w k
copies_lent w k h = let e : length (take (2 * k) w) / 2 ≡ k = rw (length-take-le (2 * k) w h) (omega arith) in rw e (copies_first w 0 k (2 * k) (omega arith))

-- as many copies as the words have room for give the link
pub link_least : (w : List ℕ) (k a : ℕ) {j r : ℕ} → j ≡ min k (length w / 2) → r ≡ link_of (copy_of a (copies_in w j)) → r ≡ link_of (copy_of a (copies_in w k))
link_least w k a {j} {r} e q = go (ltb (length w / 2) k) refl
  where
    go : (b : Bool) → ltb (length w / 2) k ≡ b → r ≡ link_of (copy_of a (copies_in w k))
    go true h = let l = ltb-true (length w / 2) k h in link-words w j k a q (omega arith) (omega arith)
    go false h = let l = ltb-false (length w / 2) k h in let z : k ≡ j = omega arith in rw z q

-- ---- a store past the copies leaves them
pub copies-set : (w : List ℕ) (p k i x : ℕ) → p + 2 * k ≤ i → copies_from (set w i x) p k ≡ copies_from w p k
unfolding copies_from
copies-set w p zero i x h = refl
copies-set w p (suc k) i x h =
    rw (get_or-set_other w i p x 0 (λ e. omega arith), get_or-set_other w i (p + 1) x 0 (λ e. omega arith), copies-set w (p + 2) k i x (omega arith))

-- one copy more stands after the others
pub copies_snoc : (w : List ℕ) (p k : ℕ) → copies_from w p (k + 1) ≡ copies_from w p k ++ (copy (get_or w (p + 2 * k) 0) (get_or w (p + 2 * k + 1) 0) ∷ [])
unfolding copies_from
copies_snoc w p zero = simp add-zero
copies_snoc w p (suc k) =
    let e : suc k + 1 ≡ suc (k + 1) = omega arith in
    let q : p + 2 * suc k ≡ p + 2 + 2 * k = omega arith in
    rw (e, q) (ap (λ (l : List Copy). copy (get_or w p 0) (get_or w (p + 1) 0) ∷ l) (copies_snoc w (p + 2) k))

place_copies : (w : List ℕ) (k i a t : ℕ) → i ≡ k * 2 → i + 1 < length w
    → copies_in (set (set w i a) (i + 1) t) (k + 1) ≡ copies_in w k ++ (copy a t ∷ [])
place_copies w k i a t e h =
    let q : 0 + 2 * k ≡ i = omega arith in
    let u : i < length (set w i a) = simp length-set (omega arith) in
    let v : i + 1 < length (set w i a) = simp length-set (omega arith) in
    copies_snoc (set (set w i a) (i + 1) t) 0 k
    ∙ rw (
      q,
      get_or-set_same (set w i a) (i + 1) t 0 v,
      get_or-set_other (set w i a) (i + 1) i t 0 (λ z. omega arith),
      get_or-set_same w i a 0 (omega arith),
      copies-set (set w i a) 0 k (i + 1) t (omega arith),
      copies-set w 0 k i a (omega arith),
    )

pub align_near : (x : ℕ) → align8 x ≤ x + 7
unfolding align8
align_near x = omega arith

-- ---- the words past an index
pub past_more : {n : ℕ} {w w' : List ℕ} (m : ℕ) → n ≤ m → Past n w w' → Past m w w'
past_more {n} {w} {w'} m h p =
    let e : m ≡ n + (m - n) = omega arith in
    record { kept = rw e (sym (drop-drop (m - n) n w') ∙ ap (drop (m - n)) p.kept ∙ drop-drop (m - n) n w) }

pub past_then : {n : ℕ} {w w' w'' : List ℕ} → Past n w w' → Past n w' w'' → Past n w w''
past_then p q = record { kept = q.kept ∙ p.kept }

pub past_same : (n : ℕ) (w : List ℕ) → Past n w w
past_same n w = record { kept = refl }

pub past-set : (n : ℕ) (w : List ℕ) (i x : ℕ) → i < n → Past n w (set w i x)
past-set n w i x h = record { kept = drop-set-lt n w i x h }

-- a placed block: two stores past the copies
module _ (w : List ℕ) (a size t : ℕ) (s : Copying) (h : s.used * 2 + 1 < length w) where
  pub place_is : t ≡ align8 s.next
      → standing (set (set w (s.used * 2) a) (s.used * 2 + 1) t) (record { used = s.used + 1; next = t + size }) ≡ with_copy a size (standing w s)
  unfolding with_copy
  place_is e = rw (place_copies w s.used (s.used * 2) a t refl h, e)

  pub place_past : Past (2 * (s.used + 1)) w (set (set w (s.used * 2) a) (s.used * 2 + 1) t)
  place_past =
      past_then (past-set _ w (s.used * 2) a (omega arith)) (past-set _ (set w (s.used * 2) a) (s.used * 2 + 1) t (omega arith))
