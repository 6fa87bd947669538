-- The laws of copying: how it begins, how its state grows, and the turns of the walk over a block's links.
use Prim.{tt}
use Rattle.std.specs.Prelude.{ℕ, zero, suc, ◌+◌, ◌*◌, ◌-◌, ◌≤◌, ◌<◌, List, ◌∷◌, ◌≡◌, refl, Bool, true, false, eqb, ltb, length}
use Rattle.std.proofs.Common.{sym, ◌∙◌, subst, sub-one, arith, ne_eqb, ltb-true, length-append}
use Rattle.std.proofs.Math.Option.{Option, none, some}
use Rattle.std.proofs.lemmas.Bool.{eqb-false}
use Rattle.base.specs.Choice.{pick, if_lt, if_eq}
use Rattle.base.specs.Checked.{Checked, ok, refused, and_then, Verdict}
use Rattle.base.specs.Field.{le_at}
use Rattle.blocks.specs.AnswerLaws.{refused≢ok}
use Rattle.base.specs.CheckedLaws.{ok_same}
use Rattle.blocks.specs.BlockLaws.{Whole, whole_fits}
use Rattle.mdf.specs.Block.{kind_at, size_at, links_at, whole_at}
use Rattle.mdf.specs.Chain.{is_in}
use Rattle.plan.specs.Copies.{Copy, Copies, copy_of, is_copied, lost_links, copy_links, copy_at, on_copy, with_copy}
use Rattle.copier.specs.StandingLaws.{align_near}
use Rattle.copier.specs.Begin.{begin_at, on_found, through_links, on_begun}

-- ---- copying is how it begins, then the block's links and the block
pub copy-begun : (most left : ℕ) (s way : List ℕ) (a : ℕ) (m : Copies)
    → copy_at most left s way a m ≡ on_begun (begin_at most left s way a m.memo) m (through_links most (left - 1) s way a m)
unfolding copy_at begin_at through_links if_eq if_lt
copy-begun most zero s way a m =
    go (eqb a 0) (copy_of a m.memo)
  where
    go : (e : Bool) (o : Option ℕ)
        → pick e (ok m) (on_copy o m (refused 16 a)) ≡ on_begun (pick e (ok false) (on_found o (refused 16 a))) m (through_links most (0 - 1) s way a m)
    go true o = refl
    go false none = refl
    go false (some x) = refl
copy-begun most (suc left) s way a m =
    rw (ne_eqb (suc left) 0 (λ e. omega arith), sub-one)
    (go (eqb a 0) (copy_of a m.memo) (is_in a way) (whole_at s a) (is_copied (kind_at s a)) (ltb (length m.memo + length way) most))
  where
    go : (e : Bool) (o : Option ℕ) (i : Bool) (v : Verdict) (k l : Bool)
        → pick e (ok m) (on_copy o m (pick i (refused 16 a) (and_then v (λ _. pick k (pick l (through_links most left s way a m) (refused 19 a)) (ok m)))))
        ≡ on_begun
        (pick e (ok false) (on_found o (pick i (refused 16 a) (and_then v (λ _. pick k (pick l (ok true) (refused 19 a)) (ok false))))))
        m (through_links most left s way a m)
    go true o i v k l = refl
    go false (some x) i v k l = refl
    go false none true v k l = refl
    go false none false (refused n p) k l = refl
    go false none false (ok u) false l = refl
    go false none false (ok u) true false = refl
    go false none false (ok u) true true = refl

-- what is known where links are to be followed
pub record Going (most left : ℕ) (s way : List ℕ) (a : ℕ) (memo : List Copy) : Type 0 where
  pub deeper : 0 < left
  pub few : length memo + length way < most
  pub whole : Whole s a

false≢true : ◌≡◌ {A = Checked Bool} (ok false) (ok true) → ⊥
false≢true e = let z : ◌≡◌ {A = ℕ} 0 1 = cc in omega arith

pub begun_going : (most left : ℕ) (s way : List ℕ) (a : ℕ) (memo : List Copy) → begin_at most left s way a memo ≡ ok true → Going most left s way a memo
unfolding begin_at if_eq if_lt
begun_going most left s way a memo e =
    go (eqb a 0) (copy_of a memo) (eqb left 0) (is_in a way) (whole_at s a) (is_copied (kind_at s a)) (ltb (length memo + length way) most) refl refl refl e
  where
    go : (b : Bool) (o : Option ℕ) (d i : Bool) (v : Verdict) (k l : Bool) → eqb left 0 ≡ d → whole_at s a ≡ v → ltb (length memo + length way) most ≡ l
        → pick b (ok false)
        (on_found o (pick d (refused 16 a) (pick i (refused 16 a) (and_then v (λ _. pick k (pick l (ok true) (refused 19 a)) (ok false))))))
        ≡ ok true → Going most left s way a memo
    go true o d i v k l x y z e = absurd (false≢true e)
    go false (some t) d i v k l x y z e = absurd (false≢true e)
    go false none true i v k l x y z e = absurd (refused≢ok e)
    go false none false true v k l x y z e = absurd (refused≢ok e)
    go false none false false (refused n p) k l x y z e = absurd (refused≢ok e)
    go false none false false (ok u) false l x y z e = absurd (false≢true e)
    go false none false false (ok u) true false x y z e = absurd (refused≢ok e)
    go false none false false (ok tt) true true x y z e =
        let f = eqb-false left 0 x in
        record { deeper = omega arith; few = ltb-true _ _ z; whole = whole_fits s a y }

-- ---- how the copies grow, with d blocks on the way down
pub record Grown (d : ℕ) (m m' : Copies) : Type 0 where
  pub more : length m.memo ≤ length m'.memo
  pub most : length m'.memo + d ≤ 2050
  pub near : m'.next + length m.memo * 536870912 ≤ m.next + length m'.memo * 536870912

grown_same : (d : ℕ) {m m' : Copies} → m ≡ m' → length m.memo + d ≤ 2050 → Grown d m m'
grown_same d {m} {m'} e h = subst (λ (x : Copies). Grown d m x) e (record { more = omega arith; most = h; near = omega arith })

grown_then : {d : ℕ} {m x y : Copies} → Grown d m x → Grown d x y → Grown d m y
grown_then g h = record { more = omega arith; most = h.most; near = omega arith }

then_grown : (d : ℕ) (m m' : Copies) (v : Checked Copies) (f : Copies → Checked Copies) → ((x : Copies) → v ≡ ok x → Grown d m x)
    → ((x : Copies) → length x.memo + d ≤ 2050 → f x ≡ ok m' → Grown d x m') → and_then v f ≡ ok m' → Grown d m m'
then_grown d m m' (ok x) f g k e = let h = g x refl in grown_then h (k x h.most e)
then_grown d m m' (refused n p) f g k e = absurd (refused≢ok e)

pub links_grow : (step : ℕ → Copies → Checked Copies) (d : ℕ) (s : List ℕ)
    → ((a : ℕ) (m m' : Copies) → length m.memo + d ≤ 2050 → step a m ≡ ok m' → Grown d m m')
    → (n p : ℕ) (m m' : Copies) → length m.memo + d ≤ 2050 → copy_links step s n p m ≡ ok m' → Grown d m m'
unfolding copy_links
links_grow step d s g zero p m m' h e = grown_same d (ok_same e) h
links_grow step d s g (suc n) p m m' h e =
    then_grown d m m' (step (le_at 8 s p) m) (λ x. copy_links step s n (p + 8) x) (λ x q. g (le_at 8 s p) m x h q)
    (λ x k q. links_grow step d s g n (p + 8) x m' k q) e

grown_placed : (d : ℕ) (a size : ℕ) {m x m' : Copies} → size ≤ 268435456 → Grown (suc d) m x → with_copy a size x ≡ m' → Grown d m m'
unfolding with_copy
grown_placed d a size {m} {x} h g e =
    subst (λ (y : Copies). Grown d m y) e
    (record {
      more = simp length-append (omega arith);
      most = simp length-append (omega arith);
      near = simp length-append (omega (arith, align_near x.next));
    })

copy_grown : (most left : ℕ) (s way : List ℕ) (a : ℕ) (m m' : Copies) → most ≤ 2050 → length m.memo + length way ≤ 2050
    → ((b : ℕ) (n n' : Copies) → length n.memo + suc (length way) ≤ 2050 → copy_at most left s (a ∷ way) b n ≡ ok n' → Grown (suc (length way)) n n')
    → copy_at most (suc left) s way a m ≡ ok m' → Grown (length way) m m'
unfolding through_links
copy_grown most left s way a m m' l h g e = go (begin_at most (suc left) s way a m.memo) refl (sym (copy-begun most (suc left) s way a m) ∙ e)
  where
    links : Checked Copies
    links = copy_links (copy_at most left s (a ∷ way)) s (links_at s a - lost_links s a) (a + 24 + 8 * lost_links s a) m

    done : (v : Checked Copies) → links ≡ v → Going most (suc left) s way a m.memo → and_then v (λ x. ok (with_copy a (size_at s a) x)) ≡ ok m' → Grown (length way) m m'
    done (ok x) q f e =
        grown_placed (length way) a (size_at s a) f.whole.short
        (links_grow (copy_at most left s (a ∷ way)) (suc (length way)) s g (links_at s a - lost_links s a) (a + 24 + 8 * lost_links s a) m x (omega arith) q)
        (ok_same e)
    done (refused k p) q f e = absurd (refused≢ok e)

    go : (b : Checked Bool) → begin_at most (suc left) s way a m.memo ≡ b → on_begun b m (through_links most (suc left - 1) s way a m) ≡ ok m' → Grown (length way) m m'
    go (ok false) q e = grown_same (length way) (ok_same e) h
    go (ok true) q e = done links refl (begun_going most (suc left) s way a m.memo q) (rw sub-one at e)
    go (refused k p) q e = absurd (refused≢ok e)

pub copy_grows : (most left : ℕ) (s way : List ℕ) (a : ℕ) (m m' : Copies) → most ≤ 2050 → length m.memo + length way ≤ 2050 → copy_at most left s way a m ≡ ok m'
    → Grown (length way) m m'
copy_grows most zero s way a m m' l h e = go (begin_at most 0 s way a m.memo) refl (sym (copy-begun most 0 s way a m) ∙ e)
  where
    go : (b : Checked Bool) → begin_at most 0 s way a m.memo ≡ b → on_begun b m (through_links most (0 - 1) s way a m) ≡ ok m' → Grown (length way) m m'
    go (ok false) q e = grown_same (length way) (ok_same e) h
    go (ok true) q e = let f = begun_going most 0 s way a m.memo q in absurd (omega arith)
    go (refused k p) q e = absurd (refused≢ok e)
copy_grows most (suc left) s way a m m' l h e =
    copy_grown most left s way a m m' l h (λ b n n' k j. copy_grows most left s (a ∷ way) b n n' l k j) e
