-- What moving attachments adds: each AT once, none that was moved before, each with the blocks newly copied for it, and exactly their bytes up to the
-- next multiple of 8.
use Prim.{tt}
use Prim.Native.Nat.{ℕ, zero, suc, ◌+◌, ◌*◌, ◌-◌, ◌≤◌, ◌<◌}
use mathlib.Core.List.{List, [], ◌∷◌, ◌++◌, append_assoc, append-nil}
use Rattle.std.specs.Prelude.{Bool, true, false, ◌≡◌, refl, eqb, length, drop}
use Rattle.std.proofs.lemmas.Bool.{false≢true, eqb-false}
use Rattle.std.proofs.Math.Option.{none}
use Rattle.std.proofs.Common.{sym, ◌∙◌}
use Rattle.std.proofs.Math.Path.{subst}
use native.Mathlib.Omega.{arith}
use Rattle.std.proofs.Math.Seq.{append_snoc}
use Rattle.base.specs.Choice.{pick}
use Rattle.base.specs.ChoiceLaws.{lt_first}
use Rattle.base.specs.Field.{le_at}
use Rattle.base.specs.Checked.{ok}
use Rattle.mdf.specs.Block.{kind_at, size_at, links_at, link_at, first_link, header_in}
use Rattle.plan.specs.Geometry.{align8}
use Rattle.plan.specs.Photos.{kind_at_block, most_attachments, attachment_in}
use Rattle.plan.specs.Copies.{Copy, Copies, copy_of, lost_links, copy_links, copy_root, Attachment, Attached, is_attached, attach, attachments_from, attachments_of}
use Rattle.result.specs.Member.{In}
use Rattle.result.specs.Recording.{attached_from}
use Rattle.copies_laws.specs.AnswerLaws.{refused≢ok, ok_same, then_ok}
use Rattle.copies_laws.specs.Alike.{froms, froms-append}
use Rattle.plan_laws.specs.Answers.{eq_cases, pick_cases}
use Rattle.thin_lengths.specs.Sums.{sum, sum-append, Distinct, distinct_append, in_parts, in_nil, in_cases}
use Rattle.thin_lengths.specs.Grew.{taken, front-none, back_none, none_in, align_sum, Grew, links_grew, root_grew}

-- ---- which were moved before
attached_parts : (b : ℕ) (ts us : List Attachment) → is_attached b (ts ++ us) ≡ false → (is_attached b ts ≡ false) × (is_attached b us ≡ false)
unfolding is_attached
attached_parts b [] us e = (refl, e)
attached_parts b (t ∷ ts) us e = go (eqb t.from b) (λ q. attached_parts b ts us q) e
  where
    go : (x : Bool) → (is_attached b (ts ++ us) ≡ false → (is_attached b ts ≡ false) × (is_attached b us ≡ false)) → pick x true (is_attached b (ts ++ us)) ≡ false
        → (pick x true (is_attached b ts) ≡ false) × (is_attached b us ≡ false)
    go true f q = absurd (false≢true (sym q))
    go false f q = f q

one_apart : (b : ℕ) (t : Attachment) → is_attached b (t ∷ []) ≡ false → t.from ≡ b → ⊥
unfolding is_attached
one_apart b t e = go (eqb t.from b) refl e
  where
    go : (x : Bool) → eqb t.from b ≡ x → pick x true false ≡ false → t.from ≡ b → ⊥
    go true q r = absurd (false≢true (sym r))
    go false q r = eqb-false t.from b q

-- ---- what is added
pub record GrewAt (good at : ℕ → Type 0) (s : List ℕ) (t t' : Attached) : Type 0 where
  pub new : List Copy
  pub more : List Attachment
  pub attachments : t'.attachments ≡ t.attachments ++ more
  pub memo : t'.made.memo ≡ t.made.memo ++ new
  pub next : align8 t'.made.next ≡ align8 t.made.next + sum (taken s) (froms new) + sum (taken s) (attached_from more)
  -- ends on a multiple of 8 where it begins on one
  pub whole : align8 t.made.next ≡ t.made.next → align8 t'.made.next ≡ t'.made.next
  pub distinct : Distinct (froms new)
  pub fresh : (b : ℕ) → In b (froms new) → copy_of b t.made.memo ≡ none
  pub each : (b : ℕ) → In b (froms new) → good b × (b ≡ 0 → ⊥)
  pub distinct_at : Distinct (attached_from more)
  pub fresh_at : (b : ℕ) → In b (attached_from more) → is_attached b t.attachments ≡ false
  pub each_at : (b : ℕ) → In b (attached_from more) → at b × (b ≡ 0 → ⊥)

attached_same : {good at : ℕ → Type 0} (s : List ℕ) {t t' : Attached} → t ≡ t' → GrewAt good at s t t'
unfolding froms attached_from sum Distinct
attached_same s {t} e = rw (← e) (record {
  new = [];
  more = [];
  attachments = sym (append-nil t.attachments);
  memo = sym (append-nil t.made.memo);
  next = omega arith;
  whole = λ h. h;
  distinct = tt;
  fresh = λ b i. in_nil i;
  each = λ b i. in_nil i;
  distinct_at = tt;
  fresh_at = λ b i. in_nil i;
  each_at = λ b i. in_nil i;
})

align_again : (x : ℕ) → align8 (align8 x) ≡ align8 x
unfolding align8
align_again x = omega arith

-- one AT, after the blocks copied for it, then more
attached_one : {good at : ℕ → Type 0} {s : List ℕ} {t t' : Attached} {m : Copies} (a : ℕ) → is_attached a t.attachments ≡ false → at a → (a ≡ 0 → ⊥)
    → Grew good s [] t.made m → GrewAt good at s (attach a (size_at s a) t.made m t) t' → GrewAt good at s t t'
unfolding attach attached_from sum Distinct taken
attached_one {good} {at} {s} {t} {t'} {m} a free p z f g =
    let one : Attachment = record { from = a; to = align8 m.next; own = drop (length t.made.memo) m.memo } in
    let both : froms (f.new ++ g.new) ≡ froms f.new ++ froms g.new = froms-append f.new g.new in
    let past : (b : ℕ) → In b (froms g.new) → copy_of b (t.made.memo ++ f.new) ≡ none = λ b i. rw (← f.memo) (g.fresh b i) in
    let later : (b : ℕ) → In b (attached_from g.more) → (is_attached b t.attachments ≡ false) × (is_attached b (one ∷ []) ≡ false) =
    λ b i. attached_parts b t.attachments (one ∷ []) (g.fresh_at b i) in
    let ends : align8 t'.made.next ≡ align8 (align8 (align8 m.next + size_at s a)) + sum (λ b. align8 (size_at s b)) (froms g.new)
    + sum (λ b. align8 (size_at s b)) (attached_from g.more) = g.next in
    record {
      new = f.new ++ g.new;
      more = one ∷ g.more;
      attachments = g.attachments ∙ append_snoc t.attachments one g.more;
      memo = g.memo ∙ rw f.memo (append_assoc t.made.memo f.new g.new);
      next = rw (both, sum-append (λ b. align8 (size_at s b)) (froms f.new) (froms g.new))
          (omega (arith, ends, f.next, align_again (align8 m.next + size_at s a), align_sum m.next (size_at s a)));
      whole = λ _. g.whole (align_again (align8 m.next + size_at s a));
      distinct = rw both (distinct_append (froms f.new) (froms g.new) f.distinct g.distinct
          (λ b i j. none_in b f.new (back_none b t.made.memo f.new (past b j)) i));
      fresh = λ b i. in_parts (froms f.new) (froms g.new) (subst (In b) both i) (λ j. f.fresh b j)
          (λ j. front-none b t.made.memo f.new (past b j));
      each = λ b i. in_parts (froms f.new) (froms g.new) (subst (In b) both i) (λ j. f.each b j) (λ j. g.each b j);
      distinct_at = ((λ b i. one_apart b one (later b i).1), g.distinct_at);
      fresh_at = λ b i. in_cases i (λ e. rw e free) (λ j. (later b j).0);
      each_at = λ b i. in_cases i (λ e. subst (λ (x : ℕ). at x × (x ≡ 0 → ⊥)) (sym e) (p, z)) (λ j. g.each_at b j);
    }

module _ (s : List ℕ) (good : ℕ → Type 0)
    (closed : (a : ℕ) → good a → (a ≡ 0 → ⊥) → (i : ℕ) → lost_links s a ≤ i → i < links_at s a → good (link_at s a i))
    (at : ℕ → Type 0) (at_good : (a : ℕ) → at a → (a ≡ 0 → ⊥) → (i : ℕ) → suc i < links_at s a → good (link_at s a (suc i)))
    (at_next : (a : ℕ) → at a → (a ≡ 0 → ⊥) → at (first_link s a)) where
  others-good : (a : ℕ) → at a → (a ≡ 0 → ⊥) → (i : ℕ) → i < links_at s a - 1 → good (le_at 8 s (a + 32 + 8 * i))
  unfolding link_at
  others-good a p n i l = subst (λ (q : ℕ). good (le_at 8 s q)) (next-link a i) (at_good a p n i (omega arith))
    where
      next-link : (a i : ℕ) → a + 24 + 8 * suc i ≡ a + 32 + 8 * i
      next-link a i = omega arith

  attachments_grew : (most turns a : ℕ) (t t' : Attached) → at a → attachments_from most turns s a t ≡ ok t' → GrewAt good at s t t'
  unfolding attachments_from
  attachments_grew most zero a t t' p e = attached_same s (ok_same e)
  attachments_grew most (suc turns) a t t' p e =
      let same : ok t ≡ ok t' → GrewAt good at s t t' = λ q. attached_same s (ok_same q) in
      eq_cases a 0 _ _ e (λ _ q. same q) (λ z q. pick_cases (is_attached a t.attachments) _ _ q (λ _ r. same r) (λ free r.
      let h = then_ok (header_in s a) _ r in
      eq_cases (kind_at s a) kind_at_block _ _ h.2 (λ _ k.
      let w = then_ok (attachment_in s a) _ k in
      let l = lt_first _ _ _ _ w.2 refused≢ok in
      let m = then_ok (copy_links (copy_root most s) s (links_at s a - 1) (a + 32) t.made) _ l.1 in
      attached_one a free p z
      (links_grew s [] (copy_root most s) (λ b o o' g x. root_grew s good closed most b o o' g x) (links_at s a - 1) (a + 32) t.made m.0 (others-good a p z) m.1)
      (attachments_grew most turns (first_link s a) _ t' (at_next a p z) m.2))
      (λ _ k. same k)))

  -- all of them
  pub moved_grew : (most a : ℕ) (m : Copies) (t : Attached) → at a → attachments_of most s a m ≡ ok t → GrewAt good at s (record { attachments = []; made = m }) t
  unfolding attachments_of
  moved_grew most a m t p e = attachments_grew most (most_attachments + 2) a (record { attachments = []; made = m }) t p e
