-- Laws of copies laid over a window one after the other.
use Prim.{tt}
use Rattle.std.specs.Prelude.{ℕ, zero, suc, ◌+◌, ◌-◌, ◌*◌, ◌≤◌, ◌<◌, false, ◌≡◌, refl, ltb, length, get_or, take, drop}
use mathlib.Core.List.{List, [], ◌∷◌}
use Rattle.std.proofs.Common.{sym, ◌∙◌, arith, ltb-false}
use Rattle.std.proofs.Math.Path.{ap, subst}
use Rattle.base.specs.Blit.{part}
use Rattle.mdf.specs.Block.{size_at}
use Rattle.plan.specs.Copies.{Copy}
use Rattle.copier.specs.Standing.{copy, copies_from, copies_in}
use Rattle.result.specs.Fill.{copied_bytes, copied_blocks}
use Rattle.copies_laws.specs.AnswerLaws.{Whole}
use Rattle.copies_laws.specs.Laid.{Laid}
use Rattle.copies_laws.specs.LengthLaws.{length-copied}
use Rattle.stores.specs.Over.{over}
use Rattle.stores.specs.OverLaws.{over_before}
use Rattle.windows.specs.Windowed.{over_all}
use Rattle.windows.specs.WindowedLaws.{over-past}
use Rattle.window_copies.specs.Laying.{Wholes, Apart, Laying, Passed}

-- copies that are laid in order are made of whole blocks
pub laid_wholes : (s : List ℕ) (a : ℕ) (cs : List Copy) (e : ℕ) → Laid s a cs e → Wholes s cs
unfolding Laid Wholes
laid_wholes s a [] e l = tt
laid_wholes s a (c ∷ cs) e l = (l.1, laid_wholes s (c.to + size_at s c.from) cs e l.2)

-- ---- a block that ends before the window, or begins past it
pub apart_before : (s : List ℕ) (a n b at : ℕ) {z : ℕ} → at < a → z ≡ size_at s b → ltb (a - at) z ≡ false → Apart s a n b at
apart_before s a n b at {z} h q e =
    let k : z ≤ a - at = ltb-false (a - at) z e in
    record { kept = λ bs w l _. over_before a at bs w (omega (arith, l, k, q)) }

pub apart_past : (s : List ℕ) (a n b at : ℕ) → a ≤ at → ltb (at - a) n ≡ false → Apart s a n b at
apart_past s a n b at h e =
    let k : n ≤ at - a = ltb-false (at - a) n e in
    record { kept = λ bs w _ l. over-past a at bs w (omega (arith, l, k)) }

-- its copy
pub apart_copy : (s chain : List ℕ) (m : List Copy) (fh a n b at : ℕ) (w : List ℕ) → Apart s a n b at → length w ≡ n → Whole s b
    → w ≡ over a at (copied_bytes s chain m fh b) w
apart_copy s chain m fh a n b at w p k h = sym (p.kept (copied_bytes s chain m fh b) w (length-copied s chain m fh b h) k)

-- ---- copies of the words: one and the rest, none, some of them
copies_cons : (w : List ℕ) (i to : ℕ) → i < to
    → copies_from w (2 * i) (to - i) ≡ copy (get_or w (2 * i) 0) (get_or w (2 * i + 1) 0) ∷ copies_from w (2 * (i + 1)) (to - (i + 1))
unfolding copies_from
copies_cons w i to h =
    let e : to - i ≡ suc (to - (i + 1)) = omega arith in
    let f : 2 * (i + 1) ≡ 2 * i + 2 = omega arith in
    rw (e, f)

copies-none : (w : List ℕ) (i to : ℕ) → to ≤ i → copies_from w (2 * i) (to - i) ≡ []
unfolding copies_from
copies-none w i to h = let e : to - i ≡ 0 = omega arith in rw e

pub copies-drop : (w : List ℕ) (p j k : ℕ) → drop j (copies_from w p (j + k)) ≡ copies_from w (p + 2 * j) k
unfolding copies_from
copies-drop w p zero k =
    let e : 0 + k ≡ k = omega arith in
    let f : p + 2 * 0 ≡ p = omega arith in
    rw (e, f)
copies-drop w p (suc j) k =
    let e : suc j + k ≡ suc (j + k) = omega arith in
    let f : p + 2 * suc j ≡ p + 2 + 2 * j = omega arith in
    rw (e, f) (copies-drop w (p + 2) j k)

pub copies-take : (w : List ℕ) (p j k : ℕ) → take j (copies_from w p (j + k)) ≡ copies_from w p j
unfolding copies_from
copies-take w p zero k = refl
copies-take w p (suc j) k =
    let e : suc j + k ≡ suc (j + k) = omega arith in
    rw e (ap (λ (l : List Copy). copy (get_or w p 0) (get_or w (p + 1) 0) ∷ l) (copies-take w (p + 2) j k))

-- copies number from up to to, of those in the words
pub copies-part : (w : List ℕ) (used from to : ℕ) → from ≤ to → to ≤ used → part from (to - from) (copies_in w used) ≡ copies_from w (2 * from) (to - from)
unfolding part
copies-part w used from to h l =
    let e : used ≡ from + ((to - from) + (used - to)) = omega arith in
    let f : 0 + 2 * from ≡ 2 * from = omega arith in
    let d : drop from (copies_from w 0 used) ≡ copies_from w (2 * from) ((to - from) + (used - to)) =
    ap (λ (n : ℕ). drop from (copies_from w 0 n)) e ∙ copies-drop w 0 from ((to - from) + (used - to))
    ∙ ap (λ (n : ℕ). copies_from w n ((to - from) + (used - to))) f in
    ap (take (to - from)) d ∙ copies-take w (2 * from) (to - from) (used - to)

-- ---- the loop over the copies
pub laying_begin : (s words chain : List ℕ) (m : List Copy) (fh a used from to : ℕ) (w : List ℕ) → from ≤ to → to ≤ used
    → Wholes s (part from (to - from) (copies_in words used))
    → Laying s words chain m fh a to (over_all a (copied_blocks s chain m fh (part from (to - from) (copies_in words used))) w) from w
laying_begin s words chain m fh a used from to w h l k =
    let e = copies-part words used from to h l in
    record {
      wholes = subst (λ (cs : List Copy). Wholes s cs) e k;
      rest = ap (λ (cs : List Copy). over_all a (copied_blocks s chain m fh cs) w) (sym e);
    }

module _ {s words chain : List ℕ} {m : List Copy} {fh a to : ℕ} {g : List ℕ} {i : ℕ} {w : List ℕ} (t : Laying s words chain m fh a to g i w) where
  pub laying_turn : {e : List ℕ} → i < to
      → (Whole s (get_or words (2 * i) 0) → e ≡ over a (get_or words (2 * i + 1) 0) (copied_bytes s chain m fh (get_or words (2 * i) 0)) w)
      → Laying s words chain m fh a to g (i + 1) e
  unfolding Wholes copied_blocks over_all
  laying_turn {e} h u =
      let c = copies_cons words i to h in
      let all = subst (λ (cs : List Copy). Wholes s cs) c t.wholes in
      let r = subst (λ (cs : List Copy). over_all a (copied_blocks s chain m fh cs) w ≡ g) c t.rest in
      record {
        wholes = all.1;
        rest = ap (over_all a (copied_blocks s chain m fh (copies_from words (2 * (i + 1)) (to - (i + 1))))) (u all.0) ∙ r;
      }

  pub laying_end : to ≤ i → w ≡ g
  unfolding copied_blocks over_all
  laying_end h = subst (λ (cs : List Copy). over_all a (copied_blocks s chain m fh cs) w ≡ g) (copies-none words i to h) t.rest

pub passed_none : (s words : List ℕ) (a n to i : ℕ) → Passed s words a n to i i
passed_none s words a n to i = record { passed = λ chain m fh g w k t. t }

pub passed_turn : {s words : List ℕ} {a n to from i : ℕ} → Passed s words a n to from i → i < to
    → Apart s a n (get_or words (2 * i) 0) (get_or words (2 * i + 1) 0) → Passed s words a n to from (i + 1)
passed_turn {s} {words} {a} {n} {to} {from} {i} p h o = record {
  passed = λ chain m fh g w k t. laying_turn (p.passed chain m fh g w k t) h (λ x. apart_copy s chain m fh a n _ _ w o k x);
}

-- past the last there are none
pub passed_end : {s words : List ℕ} {a n to from i : ℕ} → Passed s words a n to from i → to ≤ i → Passed s words a n to from to
passed_end {s} {words} {a} {n} {to} {from} {i} p h = record {
  passed = λ chain m fh g w k t.
      let u = p.passed chain m fh g w k t in
      let e : copies_from words (2 * i) (to - i) ≡ copies_from words (2 * to) (to - to) = copies-none words i to h ∙ sym (copies-none words to to (omega arith)) in
      record {
        wholes = subst (λ (cs : List Copy). Wholes s cs) e u.wholes;
        rest = subst (λ (cs : List Copy). over_all a (copied_blocks s chain m fh cs) w ≡ g) e u.rest;
      };
}
