-- The data of all columns over a window: what is left to lay, laid, gives the whole.
use Rattle.std.specs.Prelude.{ℕ, ◌+◌, ◌-◌, ◌≤◌, ◌<◌, List, [], ◌∷◌, ◌++◌, ◌≡◌, refl, length}
use Rattle.std.proofs.Common.{⊎_elim, sym, ap, subst, ◌∙◌}
use native.Mathlib.Omega.{arith}
use Rattle.mdf.specs.Records.{most64}
use Rattle.result.specs.Fill.{Block}
use Rattle.result.specs.Ordered.{Ordered}
use Rattle.copies_laws.specs.OrderLaws.{ordered-ends}
use Rattle.windows.specs.Windowed.{over_all}
use Rattle.windows.specs.WindowedLaws.{over-two}
use Rattle.window_order.specs.PassedLaws.{before_same, from_zero, back_ordered}
use Rattle.writing.specs.declared.data.Entry.{Entry}
use Rattle.writing.specs.Data.{entry_in, entry_blocks, entry_signal, data_from, DataReady, Kept}
use Rattle.writing.specs.DataLaws.{data_open}
use Rattle.window_columns.specs.Columns.{LaysEntry, LaysSD, SignalsIn, LaysData, HasBlocks, Begun}
use Rattle.window_columns.specs.PassedLaws.{blocks_until, blocks-past, data_split}

-- ---- blocks in order
front_ordered : (a : ℕ) (xs ys : List Block) (e : ℕ) → Ordered a (xs ++ ys) e → Ordered a xs e
unfolding Ordered
front_ordered a [] ys e o = ordered-ends a e ys o
front_ordered a (x ∷ xs) ys e o = (o.0, front_ordered (x.at + length x.bytes) xs ys e o.1)

wider : (a : ℕ) (xs : List Block) (e f : ℕ) → e ≤ f → Ordered a xs e → Ordered a xs f
unfolding Ordered
wider a [] e f h o = omega arith
wider a (x ∷ xs) e f h o = (o.0, wider (x.at + length x.bytes) xs e f h o.1)

-- ---- columns up to number k are laid
module _ (s : List ℕ) (size : ℕ) (w : List ℕ) (n : ℕ) (fs : List ℕ) (nf : ℕ) (cs m : List ℕ) (number a : ℕ) (p₀ q₀ v₀ : List ℕ) where
  -- what is known while they are laid
  pub record Left (k : ℕ) (p q v : List ℕ) : Type 0 where
    pub kept : Kept s w n fs nf p q
    pub ordered : Ordered 0 (data_from s size w n fs nf cs m k (number - k)) most64
    pub rest : over_all a (data_from s size w n fs nf cs m k (number - k)) v ≡ over_all a (data_from s size w n fs nf cs m 0 number) v₀

  pub record Laying (k : ℕ) (p q v : List ℕ) : Type 0 where
    pub few : k ≤ number
    pub same : length v ≡ length v₀
    pub same_pool : length p ≡ length p₀
    pub same_words : length q ≡ length q₀
    pub left : (at room : ℕ) → DataReady s size w n fs nf cs m number at room → room ≤ most64 → SignalsIn s fs cs m number → Kept s w n fs nf p₀ q₀ → Left k p q v

  laying_begin : Laying 0 p₀ q₀ v₀
  laying_begin = record {
    few = omega arith;
    same = refl;
    same_pool = refl;
    same_words = refl;
    left = λ at room d h g k.
        let z : number - 0 ≡ number = omega arith in
        record {
          kept = k;
          ordered = rw z (wider 0 _ room most64 h (from_zero at _ room d.ordered));
          rest = rw z refl;
        };
  }

  -- column k has data blocks that begin by a: nothing of those before it lies in the window
  laying_later : (k : ℕ) → k < number → (entry_in cs m k).first ≤ a → HasBlocks s size (entry_in cs m k) → Laying k p₀ q₀ v₀
  laying_later k h f b = record {
    few = omega arith;
    same = refl;
    same_pool = refl;
    same_words = refl;
    left = λ at room d r g z.
        let y : k + (number - k) ≡ number = omega arith in
        let i : 0 + k ≡ k = omega arith in
        let split : data_from s size w n fs nf cs m 0 number ≡ data_from s size w n fs nf cs m 0 k ++ data_from s size w n fs nf cs m k (number - k) =
        ap (data_from s size w n fs nf cs m 0) (sym y) ∙ data_split s size w n fs nf cs m 0 k (number - k)
        ∙ ap (λ (x : ℕ). data_from s size w n fs nf cs m 0 k ++ data_from s size w n fs nf cs m x (number - k)) i in
        let o : Ordered at (data_from s size w n fs nf cs m 0 k ++ data_from s size w n fs nf cs m k (number - k)) room =
        subst (λ (bs : List Block). Ordered at bs room) split d.ordered in
        let u : Ordered at (data_from s size w n fs nf cs m 0 k) a =
        blocks_until s size w n fs nf (entry_in cs m k) b at a _ _ room f
        (subst (λ (bs : List Block). Ordered at (data_from s size w n fs nf cs m 0 k ++ bs) room) (data_open s size w n fs nf cs m k number h) o) in
        record {
          kept = z;
          ordered = wider 0 _ room most64 r (back_ordered at (data_from s size w n fs nf cs m 0 k) _ room o);
          rest = sym (ap (λ (bs : List Block). over_all a bs v₀) split ∙ over-two a _ _ v₀
              ∙ ap (over_all a (data_from s size w n fs nf cs m k (number - k))) (before_same a at _ v₀ u));
        };
  }

  pub laying_from : (k : ℕ) → Begun s size cs m number a k → Laying k p₀ q₀ v₀
  laying_from k = ⊎_elim (λ e. rw e laying_begin) (λ b. laying_later k b.0 b.1 b.2)

  pub laying_turn : (k : ℕ) (e : Entry) {p q v p' q' mid last : List ℕ} → Laying k p q v → k < number → e ≡ entry_in cs m k
      → length p' ≡ length p → length q' ≡ length q → length mid ≡ length v → length last ≡ length mid
      → LaysEntry s size w n fs nf e a p p' q q' v mid → LaysSD s fs e a mid last → Laying (k + 1) p' q' last
  laying_turn k e {p} {q} {v} {p'} {q'} {mid} {last} l h i lp lq lm ll x y = record {
    few = omega arith;
    same = ll ∙ lm ∙ l.same;
    same_pool = lp ∙ l.same_pool;
    same_words = lq ∙ l.same_words;
    left = λ at room d r g z.
        let t = l.left at room d r g z in
        let open' = data_open s size w n fs nf cs m k number h in
        let o : Ordered 0 (entry_blocks s size w n fs nf (entry_in cs m k) ++ (entry_signal s fs (entry_in cs m k) ++ data_from s size w n fs nf cs m (k + 1) (number - (k + 1)))) most64 =
        subst (λ (bs : List Block). Ordered 0 bs most64) open' t.ordered in
        let ready = d.entries k h in
        let xe = subst (λ (c : Entry). LaysEntry s size w n fs nf c a p p' q q' v mid) i x ready (front_ordered 0 _ _ most64 o) t.kept in
        let o2 = back_ordered 0 (entry_blocks s size w n fs nf (entry_in cs m k)) _ most64 o in
        let ye = subst (λ (c : Entry). LaysSD s fs c a mid last) i y (λ c. (ready.signal c, g k h c)) (front_ordered 0 _ _ most64 o2) in
        record {
          kept = xe.0;
          ordered = back_ordered 0 (entry_signal s fs (entry_in cs m k)) _ most64 o2;
          rest = ap (over_all a (data_from s size w n fs nf cs m (k + 1) (number - (k + 1)))) (ye ∙ ap (over_all a (entry_signal s fs (entry_in cs m k))) xe.1)
              ∙ sym (ap (λ (bs : List Block). over_all a bs v) open' ∙ over-two a _ _ v ∙ over-two a _ _ _) ∙ t.rest;
        };
  }

  pub laying_end : (k : ℕ) {p q v : List ℕ} → Laying k p q v → number ≤ k → LaysData s size w n fs nf cs m number a p₀ p q₀ q v₀ v
  unfolding data_from over_all
  laying_end k {p} {q} {v} l h at room d r g z =
      let t = l.left at room d r g z in
      let y : number - k ≡ 0 = omega arith in
      (t.kept, rw y at t.rest)

  -- column k has data blocks that begin past the window: so does what is left
  pub laying_past : (k : ℕ) (e : Entry) {p q v : List ℕ} → Laying k p q v → k < number → e ≡ entry_in cs m k → (a + length v ≤ e.first) × HasBlocks s size e
      → LaysData s size w n fs nf cs m number a p₀ p q₀ q v₀ v
  laying_past k e {p} {q} {v} l h i b at room d r g z =
      let t = l.left at room d r g z in
      let c : (a + length v ≤ (entry_in cs m k).first) × HasBlocks s size (entry_in cs m k) =
      subst (λ (x : Entry). (a + length v ≤ x.first) × HasBlocks s size x) i b in
      let open' = data_open s size w n fs nf cs m k number h in
      let o = subst (λ (bs : List Block). Ordered 0 bs most64) open' t.ordered in
      (t.kept, sym (ap (λ (bs : List Block). over_all a bs v) open' ∙ blocks-past s size w n fs nf (entry_in cs m k) c.1 a 0 _ most64 v c.0 o) ∙ t.rest)
