-- Copied blocks laid in order: where they begin and end.
use Rattle.std.specs.Prelude.{ℕ, suc, ◌+◌, ◌*◌, ◌≤◌, ◌<◌, List, [], ◌∷◌, ◌++◌, ◌≡◌, length, drop}
use Rattle.std.proofs.Common.{append_assoc, append-nil, sym, ap, subst, ◌∙◌, le_refl, arith, length-append}
use Rattle.std.proofs.Math.Seq.{drop-append_seam}
use Rattle.mdf.specs.Block.{size_at}
use Rattle.plan.specs.Geometry.{align8}
use Rattle.plan.specs.Copies.{Copy, Copies, with_copy}
use Rattle.copies_laws.specs.AnswerLaws.{Whole}

-- the copies stand in order from a on, each made of a whole block, and end by e
unfoldable pub Laid : List ℕ → ℕ → List Copy → ℕ → Type 0
Laid s a [] e = a ≤ e
Laid s a (c ∷ cs) e = (a ≤ c.to) × Whole s c.from × Laid s (c.to + size_at s c.from) cs e

-- each of them begins by the next multiple of 8, and so is e
unfoldable pub Tight : List ℕ → ℕ → List Copy → ℕ → Type 0
Tight s a [] e = e ≤ align8 a
Tight s a (c ∷ cs) e = (c.to ≤ align8 a) × Tight s (c.to + size_at s c.from) cs e

-- "each block at the next multiple of 8"
pub align_past : (x : ℕ) → x ≤ align8 x
unfolding align8
align_past x = omega arith

pub align_near : (x : ℕ) → align8 x ≤ x + 7
unfolding align8
align_near x = omega arith

-- from a place up to the next multiple of 8 on it is the same multiple
pub align_within : (a b : ℕ) → b ≤ align8 a → align8 b ≤ align8 a
unfolding align8
align_within a b h = omega arith

pub tight_from : (s : List ℕ) (a b e : ℕ) (cs : List Copy) → b ≤ align8 a → Tight s b cs e → Tight s a cs e
unfolding Tight
tight_from s a b e [] h t = let k : e ≤ align8 b = t in omega (arith, align_within a b h)
tight_from s a b e (c ∷ cs) h t = let k : c.to ≤ align8 b = t.0 in (omega (arith, align_within a b h), t.1)

pub tight_append : (s : List ℕ) (a b e : ℕ) (xs ys : List Copy) → Tight s a xs b → Tight s b ys e → Tight s a (xs ++ ys) e
unfolding Tight
tight_append s a b e [] ys t k = tight_from s a b e ys t k
tight_append s a b e (x ∷ xs) ys t k = (t.0, tight_append s (x.to + size_at s x.from) b e xs ys t.1 k)

pub tight_to : (s : List ℕ) (a e : ℕ) (cs : List Copy) → Tight s a cs e → Tight s a cs (align8 e)
unfolding Tight
tight_to s a e [] t = align_within a e t
tight_to s a e (c ∷ cs) t = (t.0, tight_to s (c.to + size_at s c.from) e cs t.1)

pub laid_from : (s : List ℕ) (a b e : ℕ) (cs : List Copy) → a ≤ b → Laid s b cs e → Laid s a cs e
unfolding Laid
laid_from s a b e [] h l = omega arith
laid_from s a b e (c ∷ cs) h l = let k : b ≤ c.to = l.0 in (omega arith, l.1, l.2)

pub laid-to : (s : List ℕ) (a d e : ℕ) (cs : List Copy) → Laid s a cs d → d ≤ e → Laid s a cs e
unfolding Laid
laid-to s a d e [] l h = omega arith
laid-to s a d e (c ∷ cs) l h = (l.0, l.1, laid-to s (c.to + size_at s c.from) d e cs l.2 h)

pub laid-append : (s : List ℕ) (a b e : ℕ) (xs ys : List Copy) → Laid s a xs b → Laid s b ys e → Laid s a (xs ++ ys) e
unfolding Laid
laid-append s a b e [] ys l k = laid_from s a b e ys l k
laid-append s a b e (x ∷ xs) ys l k = (l.0, l.1, laid-append s (x.to + size_at s x.from) b e xs ys l.2 k)

pub laid-ends : (s : List ℕ) (a e : ℕ) (cs : List Copy) → Laid s a cs e → a ≤ e
unfolding Laid
laid-ends s a e [] l = l
laid-ends s a e (c ∷ cs) l =
    let h : a ≤ c.to = l.0 in
    let k : c.to + size_at s c.from ≤ e = laid-ends s (c.to + size_at s c.from) e cs l.2 in
    omega arith

-- m' has more copies than m, laid past those of m. The copies and the k blocks on the way down stay within the limit; each copy takes at most
-- its greatest length and 7 bytes before it
pub record Grown (most : ℕ) (s : List ℕ) (k : ℕ) (m m' : Copies) : Type 0 where
  pub new : List Copy
  pub memo : m'.memo ≡ m.memo ++ new
  pub laid : Laid s m.next new m'.next
  pub tight : Tight s m.next new m'.next
  pub few : length m.memo + k ≤ most → length m'.memo + k ≤ most
  pub near : m'.next ≤ m.next + 268435463 * length new

pub grown_tight : {most : ℕ} {s : List ℕ} {k : ℕ} {m m' : Copies} → Grown most s k m m' → Tight s m.next (drop (length m.memo) m'.memo) m'.next
grown_tight {most} {s} {k} {m} {m'} g =
    let e : drop (length m.memo) m'.memo ≡ g.new = ap (drop (length m.memo)) g.memo ∙ drop-append_seam m.memo g.new in
    subst (λ (cs : List Copy). Tight s m.next cs m'.next) (sym e) g.tight

-- the copies that are new are those past the old ones
pub grown_new : {most : ℕ} {s : List ℕ} {k : ℕ} {m m' : Copies} → Grown most s k m m' → Laid s m.next (drop (length m.memo) m'.memo) m'.next
grown_new {most} {s} {k} {m} {m'} g =
    let e : drop (length m.memo) m'.memo ≡ g.new = ap (drop (length m.memo)) g.memo ∙ drop-append_seam m.memo g.new in
    subst (λ (cs : List Copy). Laid s m.next cs m'.next) (sym e) g.laid

pub grown_same : {most : ℕ} (s : List ℕ) (k : ℕ) {m m' : Copies} → m ≡ m' → Grown most s k m m'
unfolding Laid Tight
grown_same s k {m} e = rw (← e) (record {
  new = [];
  memo = sym (append-nil m.memo);
  laid = le_refl m.next;
  tight = align_past m.next;
  few = λ h. h;
  near = omega arith;
})

pub grown_then : {most : ℕ} {s : List ℕ} {k : ℕ} {m n o : Copies} → Grown most s k m n → Grown most s k n o → Grown most s k m o
grown_then {most} {s} {k} {m} {n} {o} f g = record {
  new = f.new ++ g.new;
  memo = g.memo ∙ rw f.memo (append_assoc m.memo f.new g.new);
  laid = laid-append s m.next n.next o.next f.new g.new f.laid g.laid;
  tight = tight_append s m.next n.next o.next f.new g.new f.tight g.tight;
  few = λ h. g.few (f.few h);
  near = rw length-append (omega arith);
}

-- the block itself, after what it links to, which was begun with one block more on the way
pub grown_placed : {most : ℕ} {s : List ℕ} {k : ℕ} {m n : Copies} (a : ℕ) → Whole s a → length m.memo + k < most → Grown most s (suc k) m n
    → Grown most s k m (with_copy a (size_at s a) n)
unfolding Laid Tight with_copy
grown_placed {most} {s} {k} {m} {n} a w h g =
    let h : length m.memo + suc k ≤ most = omega arith in
    let q : length n.memo + suc k ≤ most = g.few h in
    let one : Copy = record { from = a; to = align8 n.next } in
    record {
      new = g.new ++ (one ∷ []);
      memo = rw g.memo (append_assoc m.memo g.new (one ∷ []));
      laid = laid-append s m.next n.next (align8 n.next + size_at s a) g.new (one ∷ []) g.laid
          (align_past n.next, w, le_refl _);
      tight = tight_append s m.next n.next (align8 n.next + size_at s a) g.new (one ∷ []) g.tight
          (le_refl _, align_past _);
      few = λ _. rw length-append (omega arith);
      near = rw length-append (omega (arith, align_near n.next, w.short));
    }
