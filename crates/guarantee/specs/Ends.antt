-- History and attachment chains are followed to their end: an accepted chain never ends for want of turns.
use Rattle.std.specs.Prelude.{ℕ, zero, suc, ◌+◌, ◌*◌, ◌-◌, ◌≤◌, ◌<◌, Bool, false, ◌⊎◌, ◌≡◌, refl, eqb, length}
use Rattle.std.proofs.Math.Bool.{true}
use mathlib.Core.List.{List, [], ◌∷◌, ◌++◌, append-nil, append_assoc}
use Rattle.std.proofs.Common.{inl, inr, ap, ◌∙◌, subst, arith, length-append, eqb-true, eq-eqb, ne_eqb}
use Rattle.std.proofs.Math.Option.{Option, none, some}
use Rattle.std.proofs.Math.Path.{sym}
use Rattle.std.proofs.lemmas.Bool.{eqb-false}
use Rattle.base.specs.Choice.{pick, if_lt}
use Rattle.base.specs.ChoiceLaws.{lt_first}
use Rattle.base.specs.Checked.{Checked, ok, refused, and_then}
use Rattle.mdf.specs.Block.{kind_at, size_at, links_at, first_link, header_in, whole_at}
use Rattle.mdf.specs.Chain.{is_in}
use Rattle.plan.specs.Copies.{Copy, Copies, copy_of, with_copy, is_copied, lost_links, copy_links, on_copy, copy_at, copy_root, History, history, history_from, history_of, Attachment, Attached, is_attached, attach, attachments_from, attachments_of}
use Rattle.plan.specs.Photos.{kind_at_block, most_attachments, attachment_in}
use Rattle.result.specs.Member.{In, here, there}
use Rattle.result.specs.Recording.{Leads, Followed, is_at, attached_from}
use Rattle.copies_laws.specs.Laid.{Grown}
use Rattle.copies_laws.specs.AnswerLaws.{eq_back}
use Rattle.copies_laws.specs.CopyLaws.{root_grown}
use Rattle.copies_laws.specs.PhotoLaws.{attached_more}
use Rattle.copies_laws.specs.Alike.{froms, froms-append, froms-length}
use Rattle.plan_laws.specs.Answers.{refused≢ok, ok_same, true≢false, with_ok, eq_cases, pick_cases, or_not}
use Rattle.plan_laws.specs.Lists.{in_none, same, same_yes, same_no, occurs, occurs-append, no_longer}
use Rattle.plan_laws.specs.DecideLaws.{none≢some}

-- ---- a block in the chain or not

is_in_lem : (a : ℕ) (l : List ℕ) → is_in a l ≡ true → In a l
unfolding is_in
is_in_lem a [] e = absurd (true≢false (sym e))
is_in_lem a (b ∷ l) e =
    pick_cases (eqb b a) true (is_in a l) e
    (λ q _. subst (λ (x : ℕ). In a (x ∷ l)) (sym (eqb-true b a q)) here)
    (λ _ q. there (is_in_lem a l q))

not_in : (a : ℕ) (l : List ℕ) → is_in a l ≡ false → occurs a l ≡ 0
unfolding is_in occurs
not_in a [] e = refl
not_in a (b ∷ l) e =
    pick_cases (eqb b a) true (is_in a l) e
    (λ _ q. absurd (true≢false q))
    (λ n q. omega (arith, not_in a l q, same_no b a (eqb-false b a n)))

-- ---- what is copied

copy-found : (a k : ℕ) (cs : List Copy) → copy_of a cs ≡ some k → 1 ≤ occurs a (froms cs)
unfolding copy_of froms occurs
copy-found a k [] e = absurd (none≢some e)
copy-found a k (c ∷ cs) e =
    eq_cases c.from a (some c.to) (copy_of a cs) e
    (λ q _. omega (arith, same_yes c.from a q))
    (λ _ q. omega (arith, copy-found a k cs q))

placed_last : (a size : ℕ) (n : Copies) → 1 ≤ occurs a (froms (with_copy a size n).memo)
unfolding with_copy froms occurs
placed_last a size n = rw (froms-append, occurs-append) (omega (arith, same_yes a a refl))

-- what becomes of a block that was not copied before, by what becomes of its links
abbrev fresh : ℕ → List ℕ → ℕ → Copies → Checked Copies → Checked Copies
fresh most s a m links =
    pick (is_in a []) (refused 16 a) (and_then (whole_at s a) (λ _. pick (is_copied (kind_at s a))
    (if_lt (length m.memo + 0) most (and_then links (λ n. ok (with_copy a (size_at s a) n))) (refused 19 a)) (ok m)))

fresh-copied : (most : ℕ) (s : List ℕ) (a : ℕ) (m m' : Copies) (links : Checked Copies) → fresh most s a m links ≡ ok m' → is_copied (kind_at s a) ≡ true
    → 1 ≤ occurs a (froms m'.memo)
unfolding is_in
fresh-copied most s a m m' links e k =
    with_ok (whole_at s a) _ e (λ _ _ q.
    pick_cases (is_copied (kind_at s a)) _ _ q
    (λ _ q. with_ok links _ (lt_first _ _ _ _ q refused≢ok).1 (λ n _ r.
    subst (λ (x : Copies). 1 ≤ occurs a (froms x.memo)) (ok_same r) (placed_last a (size_at s a) n)))
    (λ f _. absurd (true≢false (sym k ∙ f))))

-- a block of a copied kind is among the copies afterwards
copied_at : (most left : ℕ) (s : List ℕ) (a : ℕ) (m m' : Copies) → copy_at most (suc left) s [] a m ≡ ok m' → (a ≡ 0 → ⊥) → is_copied (kind_at s a) ≡ true
    → 1 ≤ occurs a (froms m'.memo)
unfolding copy_at
copied_at most left s a m m' e n k =
    let links : Checked Copies = copy_links (copy_at most left s (a ∷ [])) s (links_at s a - lost_links s a) (a + 24 + 8 * lost_links s a) m in
    eq_cases a 0 _ _ e (λ z _. absurd (n z)) (λ _ q. go links (copy_of a m.memo) refl q)
  where
    go : (links : Checked Copies) (o : Option ℕ) → copy_of a m.memo ≡ o → on_copy o m (fresh most s a m links) ≡ ok m' → 1 ≤ occurs a (froms m'.memo)
    go links (some p) q r = subst (λ (x : Copies). 1 ≤ occurs a (froms x.memo)) (ok_same r) (copy-found a p m.memo q)
    go links none q r = fresh-copied most s a m m' links r k

root_copied : (most : ℕ) (s : List ℕ) (a : ℕ) (m m' : Copies) → copy_root most s a m ≡ ok m' → (a ≡ 0 → ⊥) → is_copied (kind_at s a) ≡ true → 1 ≤ occurs a (froms m'.memo)
unfolding copy_root
root_copied most s a m m' e n k = copied_at most 64 s a m m' e n k

-- ---- the history chain

-- the rest of a chain: after the blocks met before come more, and then the end
record Rest (s : List ℕ) (goes_on : ℕ → Bool) (a : ℕ) (before met : List ℕ) : Type 0 where
  more : List ℕ
  is : met ≡ before ++ more
  end : ℕ
  leads : Leads s a more end
  each : (b : ℕ) → In b more → goes_on (kind_at s b) ≡ true
  ends : (end ≡ 0) ⊎ (In end met ⊎ (goes_on (kind_at s end) ≡ false))

module _ (s : List ℕ) (goes_on : ℕ → Bool) (a : ℕ) (before met : List ℕ) where
  rest-none : before ≡ met → (a ≡ 0) ⊎ (In a met ⊎ (goes_on (kind_at s a) ≡ false)) → Rest s goes_on a before met
  unfolding Leads
  rest-none e z = record { more = []; is = sym e ∙ sym (append-nil before); end = a; leads = refl; each = λ b i. absurd (in_none i); ends = z }

  rest_more : goes_on (kind_at s a) ≡ true → Rest s goes_on (first_link s a) (before ++ (a ∷ [])) met → Rest s goes_on a before met
  unfolding Leads
  rest_more k r =
      record { more = a ∷ r.more; is = r.is ∙ append_assoc before (a ∷ []) r.more; end = r.end; leads = (refl, r.leads); each = one; ends = r.ends }
    where
      one : (b : ℕ) → In b (a ∷ r.more) → goes_on (kind_at s b) ≡ true
      one b here = k
      one b (there i) = r.each b i

-- of a whole chain
rest_all : (s : List ℕ) (goes_on : ℕ → Bool) (a : ℕ) (met : List ℕ) → Rest s goes_on a [] met → Followed s goes_on a met
rest_all s goes_on a met r =
    record {
      end = r.end;
      leads = subst (λ (l : List ℕ). Leads s a l r.end) (sym r.is) r.leads;
      each = λ b i. r.each b (subst (In b) r.is i);
      ends = r.ends;
    }

-- every block of the chain is copied, so there are no more than copies
record Held (most : ℕ) (h : History) : Type 0 where
  copied : (x : ℕ) → occurs x h.chain ≤ occurs x (froms h.made.memo)
  few : length h.made.memo ≤ most

held-few : {most : ℕ} {h : History} → Held most h → length h.chain ≤ most
held-few {most} {h} k = omega (arith, no_longer h.chain (froms h.made.memo) k.copied, froms-length h.made.memo, k.few)

held_more : (most : ℕ) (s : List ℕ) (a : ℕ) (h : History) (m : Copies) → Held most h → is_in a h.chain ≡ false → (a ≡ 0 → ⊥) → is_copied (kind_at s a) ≡ true
    → copy_root most s a h.made ≡ ok m → Held most (history (h.chain ++ (a ∷ [])) m)
unfolding occurs
held_more most s a h m k i n c e =
    let g = root_grown s a h.made m e in
    record { copied = λ x. one g x; few = omega (arith, g.few (omega (arith, k.few))) }
  where
    one : Grown most s 0 h.made m → (x : ℕ) → occurs x (h.chain ++ (a ∷ [])) ≤ occurs x (froms m.memo)
    one g x =
        let old : occurs x (froms m.memo) ≡ occurs x (froms h.made.memo) + occurs x (froms g.new) =
        ap (λ (l : List Copy). occurs x (froms l)) g.memo ∙ ap (occurs x) (froms-append h.made.memo g.new) ∙ occurs-append x (froms h.made.memo) (froms g.new) in
        or_not a x
        (λ q. let z : occurs x h.chain ≡ 0 = rw q at (not_in a h.chain i) in
        let t : 1 ≤ occurs x (froms m.memo) = rw q at (root_copied most s a h.made m e n c) in
        omega (arith, occurs-append x h.chain (a ∷ []), same_yes a x q))
        (λ q. omega (arith, occurs-append x h.chain (a ∷ []), same_no a x q, k.copied x, old))

history-rest : (most turns : ℕ) (s : List ℕ) (a : ℕ) (h h' : History) → history_from most turns s a h ≡ ok h' → Held most h → most < turns + length h.chain
    → Rest s is_copied a h.chain h'.chain
unfolding history_from
history-rest most zero s a h h' e k l = absurd (omega (arith, held-few k))
history-rest most (suc turns) s a h h' e k l =
    let same : ok h ≡ ok h' → h.chain ≡ h'.chain = λ q. ap (λ (x : History). x.chain) (ok_same q) in
    eq_cases a 0 _ _ e (λ z q. rest-none s is_copied a h.chain h'.chain (same q) (inl z)) (λ n q.
    pick_cases (is_in a h.chain) _ _ q
    (λ i q. rest-none s is_copied a h.chain h'.chain (same q) (inr (inl (subst (In a) (same q) (is_in_lem a h.chain i)))))
    (λ i q. with_ok (whole_at s a) _ q (λ _ _ q.
    pick_cases (is_copied (kind_at s a)) _ _ q
    (λ c q. with_ok (copy_root most s a h.made) _ (eq_back (links_at s a) 0 _ _ q refused≢ok) (λ m b q.
    rest_more s is_copied a h.chain h'.chain c
    (history-rest most turns s (first_link s a) (history (h.chain ++ (a ∷ [])) m) h' q (held_more most s a h m k i n c b) (rw length-append (omega (arith, l))))))
    (λ c q. rest-none s is_copied a h.chain h'.chain (same q) (inr (inr c))))))

pub history-followed : (most : ℕ) (s : List ℕ) (a : ℕ) (m : Copies) (h : History) → history_of most s a m ≡ ok h → length m.memo ≤ most → Followed s is_copied a h.chain
unfolding history_of occurs
history-followed most s a m h e f =
    let r = history-rest most (most + 1) s a (history [] m) h e (record { copied = λ x. omega arith; few = f }) (omega arith) in
    rest_all s is_copied a h.chain r

-- ---- the attachment chain

attached_in_lem : (a : ℕ) (ts : List Attachment) → is_attached a ts ≡ true → In a (attached_from ts)
unfolding is_attached attached_from
attached_in_lem a [] e = absurd (true≢false (sym e))
attached_in_lem a (t ∷ ts) e =
    pick_cases (eqb t.from a) true (is_attached a ts) e
    (λ q _. subst (λ (x : ℕ). In a (x ∷ attached_from ts)) (sym (eqb-true t.from a q)) here)
    (λ _ q. there (attached_in_lem a ts q))

attachments-rest : (most turns : ℕ) (s : List ℕ) (a : ℕ) (t t' : Attached) → attachments_from most turns s a t ≡ ok t' → length t.attachments ≤ 64
    → 66 ≤ turns + length t.attachments → Rest s is_at a (attached_from t.attachments) (attached_from t'.attachments)
unfolding attachments_from attach attached_from
attachments-rest most zero s a t t' e f l = absurd (omega arith)
attachments-rest most (suc turns) s a t t' e f l =
    let from : Attached → List ℕ = λ u. attached_from u.attachments in
    let same : ok t ≡ ok t' → from t ≡ from t' = λ q. ap from (ok_same q) in
    eq_cases a 0 _ _ e (λ z q. rest-none s is_at a (from t) (from t') (same q) (inl z)) (λ n q.
    pick_cases (is_attached a t.attachments) _ _ q
    (λ i q. rest-none s is_at a (from t) (from t') (same q) (inr (inl (subst (In a) (same q) (attached_in_lem a t.attachments i)))))
    (λ i q. with_ok (header_in s a) _ q (λ _ _ q.
    eq_cases (kind_at s a) kind_at_block _ _ q
    (λ c q. with_ok (attachment_in s a) _ q (λ _ _ q.
    let b = lt_first _ _ _ _ q refused≢ok in
    with_ok (copy_links (copy_root most s) s (links_at s a - 1) (a + 32) t.made) _ b.1 (λ m _ q.
    rest_more s is_at a (from t) (from t') (eq-eqb (kind_at s a) kind_at_block c)
    (subst (λ (l : List ℕ). Rest s is_at (first_link s a) l (from t')) (attached_more t.attachments _)
    (attachments-rest most turns s (first_link s a) _ t' q (rw length-append (omega (arith, b.0))) (rw length-append (omega (arith, l))))))))
    (λ c q. rest-none s is_at a (from t) (from t') (same q) (inr (inr (ne_eqb (kind_at s a) kind_at_block c)))))))

pub attachments-followed : (most : ℕ) (s : List ℕ) (a : ℕ) (m : Copies) (t : Attached) → attachments_of most s a m ≡ ok t → Followed s is_at a (attached_from t.attachments)
unfolding attachments_of attached_from
attachments-followed most s a m t e =
    let r = attachments-rest most (most_attachments + 2) s a (record { attachments = []; made = m }) t e (omega arith) (omega arith) in
    rest_all s is_at a (attached_from t.attachments) r
