-- What is copied, and what copying refuses, doesn't depend on where blocks are placed.
use Rattle.std.specs.Prelude.{ℕ, zero, suc, ◌+◌, ◌*◌, ◌-◌, List, [], ◌∷◌, ◌++◌, Bool, true, false, ◌≡◌, refl, eqb, ltb, length}
use Rattle.std.proofs.Math.Option.{some}
use Rattle.std.proofs.Common.{sym, ap, ◌∙◌, subst}
use Rattle.base.specs.Choice.{pick, if_lt, if_eq}
use Rattle.base.specs.Field.{le_at}
use Rattle.base.specs.Checked.{Checked, ok, refused, and_then}
use Rattle.mdf.specs.Block.{kind_at, size_at, links_at, first_link, header_in, whole_at}
use Rattle.mdf.specs.Chain.{is_in}
use Rattle.plan.specs.Columns.{Column}
use Rattle.plan.specs.Copies.{
  Copy,
  Copies,
  copy_of,
  with_copy,
  is_copied,
  lost_links,
  copy_links,
  on_copy,
  copy_at,
  depth,
  copy_root,
  copy_roots,
  History,
  history,
  history_from,
  history_of,
  column_links,
  column_copies,
  Attached,
  is_attached,
  attach,
  attachments_from,
  attachments_of,
}
use Rattle.plan.specs.Photos.{kind_at_block, most_attachments, attachment_in}
use Rattle.result.specs.Recording.{attached_from}
use Rattle.copies_laws.specs.AnswerLaws.{refused≢ok, ok_same}
use Rattle.copies_laws.specs.CopyLaws.{fresh}
use Rattle.copies_laws.specs.PhotoLaws.{attached_in_lem, attached_length, attached_more}

-- ---- answers that are alike: values that stand in R to each other, or the same refusal
pub data Alike {A : Type 0} (R : A → A → Type 0) : Checked A → Checked A → Type 0 where
  both : {x y : A} → R x y → Alike R (ok x) (ok y)
  neither : {n p : ℕ} → Alike R (refused n p) (refused n p)

module _ {A : Type 0} {R : A → A → Type 0} where
  -- where one is accepted the other is
  pub alike_ok : {v w : Checked A} (z : A) → Alike R v w → v ≡ ok z → (y : A) × (w ≡ ok y) × R z y
  alike_ok z (both {x} {y} r) e = (y, refl, subst (λ (b : A). R b y) (ok_same e) r)
  alike_ok z neither e = absurd (refused≢ok e)

  -- where one is refused the other is, with the same number and place
  pub alike_refused : {v w : Checked A} (n p : ℕ) → Alike R v w → v ≡ refused n p → w ≡ refused n p
  alike_refused n p (both r) e = absurd (refused≢ok (sym e))
  alike_refused n p neither e = e

  -- ---- by the same checks and choices
  pub alike_pick : (t : Bool) {a b c d : Checked A} → Alike R a c → Alike R b d → Alike R (pick t a b) (pick t c d)
  alike_pick true f g = f
  alike_pick false f g = g

  pub alike_eq : (m n : ℕ) {a b c d : Checked A} → Alike R a c → Alike R b d → Alike R (if_eq m n a b) (if_eq m n c d)
  unfolding if_eq
  alike_eq m n f g = alike_pick (eqb m n) f g

  pub alike_lt : (m n : ℕ) {a b c d : Checked A} → Alike R a c → Alike R b d → Alike R (if_lt m n a b) (if_lt m n c d)
  unfolding if_lt
  alike_lt m n f g = alike_pick (ltb m n) f g

  pub alike_checked : {B : Type 0} (v : Checked B) (f g : B → Checked A) → ((x : B) → Alike R (f x) (g x)) → Alike R (and_then v f) (and_then v g)
  alike_checked (ok x) f g h = h x
  alike_checked (refused n p) f g h = neither

  pub alike_then : {B : Type 0} {S : B → B → Type 0} {v w : Checked A} (f g : A → Checked B) → Alike R v w
      → ((x y : A) → R x y → Alike S (f x) (g y)) → Alike S (and_then v f) (and_then w g)
  alike_then f g (both {x} {y} r) h = h x y r
  alike_then f g neither h = neither

-- ---- copies of the same blocks, in the same order

-- where the blocks stood that were copied
unfoldable pub froms : List Copy → List ℕ
froms [] = []
froms (c ∷ cs) = c.from ∷ froms cs

pub froms-append : (cs ds : List Copy) → froms (cs ++ ds) ≡ froms cs ++ froms ds
unfolding froms
froms-append [] ds = refl
froms-append (c ∷ cs) ds = ap (λ (l : List ℕ). c.from ∷ l) (froms-append cs ds)

pub froms-length : (cs : List Copy) → length (froms cs) ≡ length cs
unfolding froms
froms-length [] = refl
froms-length (c ∷ cs) = ap suc (froms-length cs)

abbrev pub SameCopies : Copies → Copies → Type 0
SameCopies m n = froms m.memo ≡ froms n.memo

-- "already copied" looks only at where blocks stood
pub copied_before : (a : ℕ) (cs : List Copy) (m : Copies) (new : Checked Copies) → on_copy (copy_of a cs) m new ≡ pick (is_in a (froms cs)) (ok m) new
unfolding copy_of froms is_in if_eq
copied_before a [] m new = refl
copied_before a (c ∷ cs) m new = go (eqb c.from a) (copied_before a cs m new)
  where
    go : (t : Bool) → on_copy (copy_of a cs) m new ≡ pick (is_in a (froms cs)) (ok m) new
        → on_copy (pick t (some c.to) (copy_of a cs)) m new ≡ pick (pick t true (is_in a (froms cs))) (ok m) new
    go true e = refl
    go false e = e

same_length : (m n : Copies) → SameCopies m n → length m.memo ≡ length n.memo
same_length m n e = sym (froms-length m.memo) ∙ ap length e ∙ froms-length n.memo

-- the block at a more
same-placed : (a size : ℕ) (m n : Copies) → SameCopies m n → SameCopies (with_copy a size m) (with_copy a size n)
unfolding with_copy froms
same-placed a size m n e = froms-append m.memo _ ∙ ap (λ (l : List ℕ). l ++ (a ∷ [])) e ∙ sym (froms-append n.memo _)

-- ---- copying
on-copied : (a : ℕ) (m n : Copies) {v w : Checked Copies} → SameCopies m n → Alike SameCopies v w
    → Alike SameCopies (on_copy (copy_of a m.memo) m v) (on_copy (copy_of a n.memo) n w)
on-copied a m n {v} {w} e f =
    rw (copied_before a m.memo m v, copied_before a n.memo n w, e) (alike_pick (is_in a (froms n.memo)) (both e) f)

pub alike_links : (step : ℕ → Copies → Checked Copies)
    → ((a : ℕ) (m n : Copies) → SameCopies m n → Alike SameCopies (step a m) (step a n))
    → (s : List ℕ) (k p : ℕ) (m n : Copies) → SameCopies m n → Alike SameCopies (copy_links step s k p m) (copy_links step s k p n)
unfolding copy_links
alike_links step f s zero p m n e = both e
alike_links step f s (suc k) p m n e =
    alike_then (λ x. copy_links step s k (p + 8) x) (λ x. copy_links step s k (p + 8) x) (f (le_at 8 s p) m n e)
    (λ x y r. alike_links step f s k (p + 8) x y r)

-- a block that was not copied before, by what becomes of its links
alike_fresh : (most : ℕ) (s way : List ℕ) (a : ℕ) (m n : Copies) {v w : Checked Copies} → SameCopies m n → Alike SameCopies v w
    → Alike SameCopies (fresh most s way a m v) (fresh most s way a n w)
alike_fresh most s way a m n e f =
    rw (same_length m n e)
    (alike_pick (is_in a way) neither
    (alike_checked (whole_at s a) _ _ (λ _.
    alike_pick (is_copied (kind_at s a))
    (alike_lt (length n.memo + length way) most (alike_then _ _ f (λ x y r. both (same-placed a (size_at s a) x y r))) neither)
    (both e))))

-- a block and all that it links to
pub alike_copy : (most left : ℕ) (s way : List ℕ) (a : ℕ) (m n : Copies) → SameCopies m n
    → Alike SameCopies (copy_at most left s way a m) (copy_at most left s way a n)
unfolding copy_at
alike_copy most zero s way a m n e = alike_eq a 0 (both e) (on-copied a m n e neither)
alike_copy most (suc left) s way a m n e =
    alike_eq a 0 (both e)
    (on-copied a m n e
    (alike_fresh most s way a m n e
    (alike_links (copy_at most left s (a ∷ way)) (λ b x y r. alike_copy most left s (a ∷ way) b x y r) s (links_at s a - lost_links s a)
    (a + 24 + 8 * lost_links s a) m n e)))

-- ---- from outside of any copied block
pub alike_root : (most : ℕ) (s : List ℕ) (a : ℕ) (m n : Copies) → SameCopies m n → Alike SameCopies (copy_root most s a m) (copy_root most s a n)
unfolding copy_root
alike_root most s a m n e = alike_copy most depth s [] a m n e

pub alike_roots : (most : ℕ) (s as' : List ℕ) (m n : Copies) → SameCopies m n → Alike SameCopies (copy_roots most s as' m) (copy_roots most s as' n)
unfolding copy_roots
alike_roots most s [] m n e = both e
alike_roots most s (a ∷ as') m n e = alike_then _ _ (alike_root most s a m n e) (λ x y r. alike_roots most s as' x y r)

pub alike_columns : (most : ℕ) (s : List ℕ) (cs : List Column) (m n : Copies) → SameCopies m n
    → Alike SameCopies (column_copies most s cs m) (column_copies most s cs n)
unfolding column_copies
alike_columns most s [] m n e = both e
alike_columns most s (c ∷ cs) m n e = alike_then _ _ (alike_roots most s (column_links s c) m n e) (λ x y r. alike_columns most s cs x y r)

-- ---- the history chain
pub record SameHistory (h k : History) : Type 0 where
  pub chain : h.chain ≡ k.chain
  pub made : SameCopies h.made k.made

alike_past : (most turns : ℕ) (s : List ℕ) (a : ℕ) (met : List ℕ) (m n : Copies) → SameCopies m n
    → Alike SameHistory (history_from most turns s a (history met m)) (history_from most turns s a (history met n))
unfolding history_from
alike_past most zero s a met m n e = both (record { chain = refl; made = e })
alike_past most (suc turns) s a met m n e =
    let same : SameHistory (history met m) (history met n) = record { chain = refl; made = e } in
    alike_eq a 0 (both same)
    (alike_pick (is_in a met) (both same)
    (alike_checked (whole_at s a) _ _ (λ _.
    alike_pick (is_copied (kind_at s a))
    (alike_eq (links_at s a) 0 neither
    (alike_then _ _ (alike_root most s a m n e) (λ x y r. alike_past most turns s (first_link s a) (met ++ (a ∷ [])) x y r)))
    (both same))))

pub alike_history : (most : ℕ) (s : List ℕ) (a : ℕ) (m n : Copies) → SameCopies m n → Alike SameHistory (history_of most s a m) (history_of most s a n)
unfolding history_of
alike_history most s a m n e = alike_past most (most + 1) s a [] m n e

-- ---- attachments
pub record SameAttached (t u : Attached) : Type 0 where
  pub attachments : attached_from t.attachments ≡ attached_from u.attachments
  pub made : SameCopies t.made u.made

same_attached : (a size : ℕ) (t u : Attached) (m n : Copies) → SameAttached t u → SameCopies m n
    → SameAttached (attach a size t.made m t) (attach a size u.made n u)
unfolding attach attached_from
same_attached a size t u m n e r =
    record { attachments = attached_more t.attachments _ ∙ ap (λ (l : List ℕ). l ++ (a ∷ [])) e.attachments ∙ sym (attached_more u.attachments _); made = r }

alike_moved : (most turns : ℕ) (s : List ℕ) (a : ℕ) (t u : Attached) → SameAttached t u
    → Alike SameAttached (attachments_from most turns s a t) (attachments_from most turns s a u)
unfolding attachments_from
alike_moved most zero s a t u e = both e
alike_moved most (suc turns) s a t u e =
    rw (attached_in_lem a t.attachments, attached_in_lem a u.attachments, attached_length t.attachments, attached_length u.attachments, e.attachments)
    (alike_eq a 0 (both e)
    (alike_pick (is_in a (attached_from u.attachments)) (both e)
    (alike_checked (header_in s a) _ _ (λ _.
    alike_eq (kind_at s a) kind_at_block
    (alike_checked (attachment_in s a) _ _ (λ _.
    alike_lt (length (attached_from u.attachments)) most_attachments
    (alike_then _ _ (alike_links (copy_root most s) (alike_root most s) s (links_at s a - 1) (a + 32) t.made u.made e.made) (λ x y r.
    alike_moved most turns s (first_link s a) _ _ (same_attached a (size_at s a) t u x y e r)))
    neither))
    (both e)))))

pub alike_attached : (most : ℕ) (s : List ℕ) (a : ℕ) (m n : Copies) → SameCopies m n
    → Alike SameAttached (attachments_of most s a m) (attachments_of most s a n)
unfolding attachments_of
alike_attached most s a m n e =
    alike_moved most (most_attachments + 2) s a (record { attachments = []; made = m }) (record { attachments = []; made = n })
    (record { attachments = refl; made = e })
