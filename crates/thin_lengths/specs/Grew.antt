-- What copying adds: each block once, none that was copied before, each good, and exactly its bytes up to the next multiple of 8.
use Prim.{tt}
use Prim.Native.Nat.{ℕ, zero, suc, ◌+◌, ◌*◌, ◌-◌, ◌≤◌, ◌<◌}
use mathlib.Core.List.{List, [], ◌∷◌, ◌++◌, append_assoc, append-nil}
use Rattle.std.specs.Prelude.{Bool, true, false, ◌≡◌, eqb, length}
use Rattle.std.proofs.lemmas.Bool.{false≢true, eqb-false}
use Rattle.std.proofs.Math.Option.{Option, none, some}
use Rattle.std.proofs.Math.Path.{refl, subst}
use Rattle.std.proofs.Common.{sym, ap, ◌∙◌}
use native.Mathlib.Omega.{arith}
use Rattle.base.specs.Choice.{pick, if_lt, if_eq}
use Rattle.base.specs.ChoiceLaws.{lt_first}
use Rattle.base.specs.Field.{le_at}
use Rattle.base.specs.Checked.{Checked, ok, refused, and_then}
use Rattle.mdf.specs.Block.{kind_at, size_at, links_at, link_at, first_link, whole_at}
use Rattle.mdf.specs.Chain.{is_in}
use Rattle.plan.specs.Columns.{Column}
use Rattle.plan.specs.Geometry.{align8}
use Rattle.plan.specs.Copies.{Copy, Copies, copy_of, with_copy, is_copied, lost_links, copy_links, on_copy, copy_at, depth, copy_root, copy_roots, History, history, history_from, history_of, column_links, column_copies}
use Rattle.result.specs.Member.{In, here, there}
use Rattle.copies_laws.specs.AnswerLaws.{refused≢ok, ok_same, then_ok, eq_back, by-pick}
use Rattle.copies_laws.specs.Alike.{froms, froms-append}
use Rattle.copies_laws.specs.CopyLaws.{fresh}
use Rattle.copies_laws.specs.MemoLaws.{none≢some}
use Rattle.plan_laws.specs.Answers.{eq_cases}
use Rattle.thin_lengths.specs.Sums.{sum, sum-append, Distinct, distinct_append, in_parts, in_nil, in_cases}

-- the bytes of the block at a up to the next multiple of 8
unfoldable pub taken : List ℕ → ℕ → ℕ
taken s a = align8 (size_at s a)

-- ---- the table of copies
pub front-none : (a : ℕ) (cs ds : List Copy) → copy_of a (cs ++ ds) ≡ none → copy_of a cs ≡ none
unfolding copy_of if_eq
front-none a [] ds e = refl
front-none a (c ∷ cs) ds e = go (eqb c.from a) (λ q. front-none a cs ds q) e
  where
    go : (t : Bool) → (copy_of a (cs ++ ds) ≡ none → copy_of a cs ≡ none) → pick t (some c.to) (copy_of a (cs ++ ds)) ≡ none
        → pick t (some c.to) (copy_of a cs) ≡ none
    go true f q = absurd (none≢some (sym q))
    go false f q = f q

pub none_in : (a : ℕ) (cs : List Copy) → copy_of a cs ≡ none → In a (froms cs) → ⊥
unfolding copy_of if_eq froms
none_in a [] e i = in_nil i
none_in a (c ∷ cs) e i = go (eqb c.from a) refl (λ x j. none_in a cs x j) e i
  where
    go : (t : Bool) → eqb c.from a ≡ t → (copy_of a cs ≡ none → In a (froms cs) → ⊥) → pick t (some c.to) (copy_of a cs) ≡ none
        → In a (c.from ∷ froms cs) → ⊥
    go true q f x j = none≢some (sym x)
    go false q f x j = in_cases j (λ y. eqb-false c.from a q (sym y)) (λ k. f x k)

pub back_none : (a : ℕ) (cs ds : List Copy) → copy_of a (cs ++ ds) ≡ none → copy_of a ds ≡ none
unfolding copy_of if_eq
back_none a [] ds e = e
back_none a (c ∷ cs) ds e = go (eqb c.from a) (λ q. back_none a cs ds q) e
  where
    go : (t : Bool) → (copy_of a (cs ++ ds) ≡ none → copy_of a ds ≡ none) → pick t (some c.to) (copy_of a (cs ++ ds)) ≡ none → copy_of a ds ≡ none
    go true f q = absurd (none≢some (sym q))
    go false f q = f q

-- not among the blocks on the way, nor among those further up
way_not : (a b : ℕ) (way : List ℕ) → is_in b (a ∷ way) ≡ false → (a ≡ b → ⊥) × (is_in b way ≡ false)
unfolding is_in
way_not a b way e = go (eqb a b) refl e
  where
    go : (t : Bool) → eqb a b ≡ t → pick t true (is_in b way) ≡ false → (a ≡ b → ⊥) × (is_in b way ≡ false)
    go true q x = absurd (false≢true (sym x))
    go false q x = (eqb-false a b q, x)

-- ---- what is added
pub record Grew (good : ℕ → Type 0) (s way : List ℕ) (m m' : Copies) : Type 0 where
  pub new : List Copy
  pub memo : m'.memo ≡ m.memo ++ new
  pub next : align8 m'.next ≡ align8 m.next + sum (taken s) (froms new)
  pub distinct : Distinct (froms new)
  pub fresh : (b : ℕ) → In b (froms new) → copy_of b m.memo ≡ none
  pub off_way : (b : ℕ) → In b (froms new) → is_in b way ≡ false
  pub each : (b : ℕ) → In b (froms new) → good b × (b ≡ 0 → ⊥)

pub grew_same : {good : ℕ → Type 0} (s way : List ℕ) {m m' : Copies} → m ≡ m' → Grew good s way m m'
unfolding froms sum Distinct
grew_same s way {m} e = rw (← e) (record {
  new = [];
  memo = sym (append-nil m.memo);
  next = omega arith;
  distinct = tt;
  fresh = λ b i. in_nil i;
  off_way = λ b i. in_nil i;
  each = λ b i. in_nil i;
})

pub grew_then : {good : ℕ → Type 0} {s way : List ℕ} {m n o : Copies} → Grew good s way m n → Grew good s way n o → Grew good s way m o
grew_then {good} {s} {way} {m} {n} {o} f g =
    let both : froms (f.new ++ g.new) ≡ froms f.new ++ froms g.new = froms-append f.new g.new in
    let past : (b : ℕ) → In b (froms g.new) → copy_of b (m.memo ++ f.new) ≡ none = λ b i. rw (← f.memo) (g.fresh b i) in
    record {
      new = f.new ++ g.new;
      memo = g.memo ∙ rw f.memo (append_assoc m.memo f.new g.new);
      next = rw (both, sum-append (taken s) (froms f.new) (froms g.new)) (omega (arith, f.next, g.next));
      distinct = rw both (distinct_append (froms f.new) (froms g.new) f.distinct g.distinct
          (λ b i j. none_in b f.new (back_none b m.memo f.new (past b j)) i));
      fresh = λ b i. in_parts (froms f.new) (froms g.new) (subst (In b) both i) (λ j. f.fresh b j) (λ j. front-none b m.memo f.new (past b j));
      off_way = λ b i. in_parts (froms f.new) (froms g.new) (subst (In b) both i) (λ j. f.off_way b j) (λ j. g.off_way b j);
      each = λ b i. in_parts (froms f.new) (froms g.new) (subst (In b) both i) (λ j. f.each b j) (λ j. g.each b j);
    }

pub align_sum : (x n : ℕ) → align8 (align8 x + n) ≡ align8 x + align8 n
unfolding align8
align_sum x n = omega arith

-- the block itself, after what it links to
grew_placed : {good : ℕ → Type 0} {s way : List ℕ} {m n : Copies} (a : ℕ) → copy_of a m.memo ≡ none → is_in a way ≡ false → good a → (a ≡ 0 → ⊥)
    → Grew good s (a ∷ way) m n → Grew good s way m (with_copy a (size_at s a) n)
unfolding with_copy froms sum Distinct taken
grew_placed {good} {s} {way} {m} {n} a free off k z g =
    let one : Copy = record { from = a; to = align8 n.next } in
    let both : froms (g.new ++ (one ∷ [])) ≡ froms g.new ++ (a ∷ []) = froms-append g.new (one ∷ []) in
    record {
      new = g.new ++ (one ∷ []);
      memo = rw g.memo (append_assoc m.memo g.new (one ∷ []));
      next = rw (both, sum-append (λ b. align8 (size_at s b)) (froms g.new) (a ∷ [])) (omega (arith, g.next, align_sum n.next (size_at s a)));
      distinct = rw both (distinct_append (froms g.new) (a ∷ []) g.distinct ((λ b i. in_nil i), tt)
          (λ b i j. apart b j (way_not a b way (g.off_way b i)).0));
      fresh = λ b i. in_parts (froms g.new) (a ∷ []) (subst (In b) both i) (λ j. g.fresh b j) (λ j. rw (only b j) free);
      off_way = λ b i. in_parts (froms g.new) (a ∷ []) (subst (In b) both i) (λ j. (way_not a b way (g.off_way b j)).1) (λ j. rw (only b j) off);
      each = λ b i. in_parts (froms g.new) (a ∷ []) (subst (In b) both i) (λ j. g.each b j)
          (λ j. subst (λ (x : ℕ). good x × (x ≡ 0 → ⊥)) (sym (only b j)) (k, z));
    }
  where
    only : (b : ℕ) → In b (a ∷ []) → b ≡ a
    only b here = refl
    only b (there j) = in_nil j

    apart : (b : ℕ) → In b (a ∷ []) → (a ≡ b → ⊥) → ⊥
    apart b j h = h (sym (only b j))

-- ---- a copier over good links
pub links_grew : {good : ℕ → Type 0} (s way : List ℕ) (step : ℕ → Copies → Checked Copies)
    → ((a : ℕ) (m m' : Copies) → good a → step a m ≡ ok m' → Grew good s way m m')
    → (k p : ℕ) (m m' : Copies) → ((i : ℕ) → i < k → good (le_at 8 s (p + 8 * i))) → copy_links step s k p m ≡ ok m' → Grew good s way m m'
unfolding copy_links
links_grew s way step each zero p m m' h e = grew_same s way (ok_same e)
links_grew {good} s way step each (suc k) p m m' h e =
    let r = then_ok (step (le_at 8 s p) m) (λ m1. copy_links step s k (p + 8) m1) e in
    let first : p + 8 * 0 ≡ p = omega arith in
    grew_then (each _ m r.0 (subst (λ (q : ℕ). good (le_at 8 s q)) first (h 0 (omega arith))) r.1)
    (links_grew s way step each k (p + 8) r.0 m' (λ i l. subst (λ (q : ℕ). good (le_at 8 s q)) (moved p i) (h (suc i) (omega arith))) r.2)
  where
    moved : (p i : ℕ) → p + 8 * suc i ≡ p + 8 + 8 * i
    moved p i = omega arith

module _ (s : List ℕ) (good : ℕ → Type 0)
    (closed : (a : ℕ) → good a → (a ≡ 0 → ⊥) → (i : ℕ) → lost_links s a ≤ i → i < links_at s a → good (link_at s a i)) where
  links_good : (a : ℕ) → good a → (a ≡ 0 → ⊥) → (i : ℕ) → i < links_at s a - lost_links s a → good (le_at 8 s (a + 24 + 8 * lost_links s a + 8 * i))
  unfolding link_at
  links_good a g n i l = subst (λ (q : ℕ). good (le_at 8 s q)) (later a (lost_links s a) i) (closed a g n (lost_links s a + i) (omega arith) (omega arith))
    where
      later : (a n i : ℕ) → a + 24 + 8 * (n + i) ≡ a + 24 + 8 * n + 8 * i
      later a n i = omega arith

  on_new : (way : List ℕ) (a : ℕ) (m m' : Copies) (new : Checked Copies) (o : Option ℕ) → copy_of a m.memo ≡ o
      → (copy_of a m.memo ≡ none → new ≡ ok m' → Grew good s way m m') → on_copy o m new ≡ ok m' → Grew good s way m m'
  on_new way a m m' new none q f e = f q e
  on_new way a m m' new (some t) q f e = grew_same s way (ok_same e)

  fresh_grew : (most : ℕ) (way : List ℕ) (a : ℕ) (m m' : Copies) (links : Checked Copies) → copy_of a m.memo ≡ none → good a → (a ≡ 0 → ⊥)
      → ((n : Copies) → links ≡ ok n → Grew good s (a ∷ way) m n) → fresh most s way a m links ≡ ok m' → Grew good s way m m'
  fresh_grew most way a m m' links free g z f e = off (is_in a way) refl e
    where
      off : (t : Bool) → is_in a way ≡ t
          → pick t (refused 16 a) (and_then (whole_at s a) (λ _. pick (is_copied (kind_at s a))
          (if_lt (length m.memo + length way) most (and_then links (λ n. ok (with_copy a (size_at s a) n))) (refused 19 a)) (ok m))) ≡ ok m' → Grew good s way m m'
      off true q x = absurd (refused≢ok x)
      off false q x =
          let r = then_ok (whole_at s a) _ x in
          by-pick (is_copied (kind_at s a)) _ _ r.2 (λ y.
          let l = then_ok links _ (lt_first _ _ _ _ y refused≢ok).1 in
          rw (← ok_same l.2) (grew_placed a free q g z (f l.0 l.1)))
          (λ y. grew_same s way (ok_same y))

  pub copy_grew : (most left : ℕ) (way : List ℕ) (a : ℕ) (m m' : Copies) → good a → copy_at most left s way a m ≡ ok m' → Grew good s way m m'
  unfolding copy_at
  copy_grew most zero way a m m' g e =
      eq_cases a 0 _ _ e (λ _ q. grew_same s way (ok_same q)) (λ z q.
      on_new way a m m' (refused 16 a) (copy_of a m.memo) refl (λ _ r. absurd (refused≢ok r)) q)
  copy_grew most (suc left) way a m m' g e =
      let links : Checked Copies = copy_links (copy_at most left s (a ∷ way)) s (links_at s a - lost_links s a) (a + 24 + 8 * lost_links s a) m in
      eq_cases a 0 _ _ e (λ _ q. grew_same s way (ok_same q)) (λ z q.
      on_new way a m m' (fresh most s way a m links) (copy_of a m.memo) refl (λ free r.
      fresh_grew most way a m m' links free g z
      (λ n x. links_grew s (a ∷ way) (copy_at most left s (a ∷ way)) (λ b o o' h y. copy_grew most left (a ∷ way) b o o' h y) _ _ m n (links_good a g z) x) r) q)

  pub root_grew : (most a : ℕ) (m m' : Copies) → good a → copy_root most s a m ≡ ok m' → Grew good s [] m m'
  unfolding copy_root
  root_grew most a m m' g e = copy_grew most depth [] a m m' g e

  pub roots_grew : (most : ℕ) (as' : List ℕ) (m m' : Copies) → ((a : ℕ) → In a as' → good a) → copy_roots most s as' m ≡ ok m' → Grew good s [] m m'
  unfolding copy_roots
  roots_grew most [] m m' h e = grew_same s [] (ok_same e)
  roots_grew most (a ∷ as') m m' h e =
      let r = then_ok (copy_root most s a m) _ e in
      grew_then (root_grew most a m r.0 (h a here) r.1) (roots_grew most as' r.0 m' (λ b i. h b (there i)) r.2)

  pub columns_grew : (most : ℕ) (cs : List Column) (m m' : Copies) → ((c : Column) → In c cs → (a : ℕ) → In a (column_links s c) → good a)
      → column_copies most s cs m ≡ ok m' → Grew good s [] m m'
  unfolding column_copies
  columns_grew most [] m m' h e = grew_same s [] (ok_same e)
  columns_grew most (c ∷ cs) m m' h e =
      let r = then_ok (copy_roots most s (column_links s c) m) _ e in
      grew_then (roots_grew most (column_links s c) m r.0 (h c here) r.1) (columns_grew most cs r.0 m' (λ d i. h d (there i)) r.2)

  -- ---- the history: good blocks, one after the other
  module _ (past : ℕ → Type 0) (past_good : (a : ℕ) → past a → (a ≡ 0 → ⊥) → good a) (past_next : (a : ℕ) → past a → (a ≡ 0 → ⊥) → past (first_link s a)) where
    history_grew : (most turns a : ℕ) (h h' : History) → past a → history_from most turns s a h ≡ ok h' → Grew good s [] h.made h'.made
    unfolding history_from
    history_grew most zero a h h' p e = grew_same s [] (ap (λ (x : History). x.made) (ok_same e))
    history_grew most (suc turns) a h h' p e =
        let same : ok h ≡ ok h' → Grew good s [] h.made h'.made = λ q. grew_same s [] (ap (λ (x : History). x.made) (ok_same q)) in
        eq_cases a 0 _ _ e (λ _ q. same q) (λ z q. by-pick (is_in a h.chain) _ _ q same (λ r.
        let w = then_ok (whole_at s a) _ r in
        by-pick (is_copied (kind_at s a)) _ _ w.2 (λ t.
        let k = eq_back (links_at s a) 0 _ _ t refused≢ok in
        let m = then_ok (copy_root most s a h.made) _ k in
        grew_then (root_grew most a h.made m.0 (past_good a p z) m.1) (history_grew most turns (first_link s a) _ h' (past_next a p z) m.2))
        same))

    pub past_grew : (most a : ℕ) (m : Copies) (h : History) → past a → history_of most s a m ≡ ok h → Grew good s [] m h.made
    unfolding history_of
    past_grew most a m h p e = history_grew most (most + 1) a (history [] m) h p e
