-- References to attachments: the chain that planning follows is the one that is moved later, and where a reference leads.
use Prim.{Unit}
use Rattle.std.specs.Prelude.{ℕ, zero, suc, ◌+◌, ◌-◌, ◌≤◌, ◌<◌, List, [], ◌∷◌, ◌++◌, ◌≡◌, refl, Bool, true, false, ◌⊎◌, length, get_or, eqb, ltb}
use Rattle.std.proofs.Common.{sym, ap, ◌∙◌, subst, inl, inr, arith, eqb-true, ne_eqb}
use Rattle.base.specs.Choice.{pick, if_lt, if_eq}
use Rattle.std.proofs.lemmas.Bool.{eqb-false}
use Rattle.base.specs.ChoiceLaws.{eq_yes, eq_no, lt_first, lt_back}
use Rattle.base.specs.Checked.{Checked, ok, refused, and_then, Verdict, fine}
use Rattle.mdf.specs.Block.{kind_at, size_at, links_at, link_at, first_link, header_in}
use Rattle.mdf.specs.Chain.{is_in}
use Rattle.plan.specs.Copies.{Copies, copy_links, copy_root, Attachment, Attached, is_attached, attach, attachments_from, attachments_of}
use Rattle.plan.specs.Channel.{either}
use Rattle.plan.specs.Photos.{kind_at_block, most_attachments, attachment_in, header_from, header_chain, chain_met, header_attachments, photo_count, references, are_attached, photos_in}
use Rattle.result.specs.Recording.{attached_from}
use Rattle.result.specs.Fill.{moved_to}
use Rattle.copies_laws.specs.AnswerLaws.{ok_same, refused≢ok, by_eq, by-pick}

-- ---- the chain

pub attached_in_lem : (a : ℕ) (ts : List Attachment) → is_attached a ts ≡ is_in a (attached_from ts)
unfolding is_attached is_in attached_from
attached_in_lem a [] = refl
attached_in_lem a (t ∷ ts) = rw (attached_in_lem a ts) refl

pub attached_length : (ts : List Attachment) → length ts ≡ length (attached_from ts)
unfolding attached_from
attached_length [] = refl
attached_length (t ∷ ts) = omega (arith, attached_length ts)

pub attached_more : (ts us : List Attachment) → attached_from (ts ++ us) ≡ attached_from ts ++ attached_from us
unfolding attached_from
attached_more [] us = refl
attached_more (t ∷ ts) us = ap (λ (l : List ℕ). t.from ∷ l) (attached_more ts us)

-- two answers by the same choice
alike_eq : {A B : Type 0} {r : A} {q : B} (m n : ℕ) (a b : A) (c d : B) → if_eq m n a b ≡ r → (a ≡ r → c ≡ q) → (b ≡ r → d ≡ q) → if_eq m n c d ≡ q
unfolding if_eq
alike_eq {A} {B} {r} {q} m n a b c d e f g = go (eqb m n) e
  where
    go : (t : Bool) → pick t a b ≡ r → pick t c d ≡ q
    go true e = f e
    go false e = g e

alike_lt : {A B : Type 0} {r : A} {q : B} (m n : ℕ) (a b : A) (c d : B) → if_lt m n a b ≡ r → (a ≡ r → c ≡ q) → (b ≡ r → d ≡ q) → if_lt m n c d ≡ q
unfolding if_lt
alike_lt {A} {B} {r} {q} m n a b c d e f g = go (ltb m n) e
  where
    go : (t : Bool) → pick t a b ≡ r → pick t c d ≡ q
    go true e = f e
    go false e = g e

alike_pick : {A B : Type 0} {r : A} {q : B} (t : Bool) (a b : A) (c d : B) → pick t a b ≡ r → (a ≡ r → c ≡ q) → (b ≡ r → d ≡ q) → pick t c d ≡ q
alike_pick true a b c d e f g = f e
alike_pick false a b c d e f g = g e

alike_then : {A B C : Type 0} {r : B} {q : C} (v : Checked A) (f : A → Checked B) (g : A → Checked C) → and_then v f ≡ ok r
    → ((x : A) → f x ≡ ok r → g x ≡ ok q) → and_then v g ≡ ok q
alike_then (ok x) f g e k = k x e
alike_then (refused n p) f g e k = absurd (refused≢ok e)

then_gives : {A B : Type 0} {r : B} {P : Type 0} (v : Checked A) (f : A → Checked B) → and_then v f ≡ ok r → ((x : A) → f x ≡ ok r → P) → P
then_gives (ok x) f e k = k x e
then_gives (refused n p) f e k = absurd (refused≢ok e)

-- a choice, with what decides it
eq_known : {A P : Type 0} {r : A} (m n : ℕ) (a b : A) → if_eq m n a b ≡ r → (m ≡ n → a ≡ r → P) → ((m ≡ n → ⊥) → b ≡ r → P) → P
eq_known {A} {P} {r} m n a b e f g = go (eqb m n) refl
  where
    go : (t : Bool) → eqb m n ≡ t → P
    go true q = f (eqb-true m n q) (eq_yes m n a b (eqb-true m n q) refl ∙ e)
    go false q = g (eqb-false m n q) (eq_no m n a b (eqb-false m n q) refl ∙ e)

-- "following the attachments by 01's checks up to 19" finds what the later stage moves
header-from : (most turns : ℕ) (s : List ℕ) (a : ℕ) (t t' : Attached) → attachments_from most turns s a t ≡ ok t'
    → header_from turns s a (attached_from t.attachments) ≡ ok (attached_from t'.attachments)
unfolding attachments_from header_from attached_from attach
header-from most zero s a t t' e = ap (λ (u : Attached). ok (attached_from u.attachments)) (ok_same e)
header-from most (suc turns) s a t t' e =
    let met : List ℕ = attached_from t.attachments in
    let same : ◌≡◌ {A = Checked Attached} (ok t) (ok t') → ◌≡◌ {A = Checked (List ℕ)} (ok met) (ok (attached_from t'.attachments)) =
    λ q. ap (λ (u : Attached). ok (attached_from u.attachments)) (ok_same q) in
    alike_eq a 0 _ _ _ _ e same (λ e.
    rw (← attached_in_lem a t.attachments, ← attached_length t.attachments)
    (alike_pick (is_attached a t.attachments) _ _ _ _ e same (λ e.
    alike_then (header_in s a) _ _ e (λ _ e.
    alike_eq (kind_at s a) kind_at_block _ _ _ _ e (λ e.
    alike_then (attachment_in s a) _ _ e (λ _ e.
    alike_lt (length t.attachments) most_attachments _ _ _ _ e (λ e.
    then_gives (copy_links (copy_root most s) s (links_at s a - 1) (a + 32) t.made) _ e (λ m e.
    subst (λ (l : List ℕ). header_from turns s (first_link s a) l ≡ ok (attached_from t'.attachments))
    (attached_more t.attachments _)
    (header-from most turns s (first_link s a) (attach a (size_at s a) t.made m t) t' e)))
    (λ e. absurd (refused≢ok e))))
    same))))

-- an attachment that planning meets is one that is moved
pub header-moved : (most : ℕ) (s : List ℕ) (m : Copies) (t : Attached) → attachments_of most s (link_at s 64 3) m ≡ ok t → header_attachments s ≡ attached_from t.attachments
unfolding attachments_of header_attachments header_chain attached_from
header-moved most s m t e =
    ap chain_met (header-from most (most_attachments + 2) s (link_at s 64 3) (record { attachments = []; made = m }) t e)

-- none stood at 0
nonzero_more : (met : List ℕ) (a : ℕ) → (is_in 0 met ≡ false) → (a ≡ 0 → ⊥) → is_in 0 (met ++ (a ∷ [])) ≡ false
unfolding is_in
nonzero_more [] a h n = rw (ne_eqb a 0 n) refl
nonzero_more (b ∷ met) a h n = alike_pick (eqb b 0) _ _ _ _ h (λ e. e) (λ e. nonzero_more met a e n)

header_nonzero : (turns : ℕ) (s : List ℕ) (a : ℕ) (met l : List ℕ) → is_in 0 met ≡ false → header_from turns s a met ≡ ok l → is_in 0 l ≡ false
unfolding header_from
header_nonzero zero s a met l h e = rw (← ok_same e) h
header_nonzero (suc turns) s a met l h e =
    let same : ◌≡◌ {A = Checked (List ℕ)} (ok met) (ok l) → is_in 0 l ≡ false = λ q. rw (← ok_same q) h in
    eq_known a 0 _ _ e (λ _. same) (λ n e.
    by-pick (is_in a met) _ _ e same (λ e.
    then_gives (header_in s a) _ e (λ _ e.
    by_eq (kind_at s a) kind_at_block _ _ e (λ e.
    then_gives (attachment_in s a) _ e (λ _ e.
    header_nonzero turns s (first_link s a) (met ++ (a ∷ [])) l (nonzero_more met a h n) (lt_first _ _ _ _ e refused≢ok).1))
    same)))

pub attached_nonzero : (most : ℕ) (s : List ℕ) (m : Copies) (t : Attached) → attachments_of most s (link_at s 64 3) m ≡ ok t → is_in 0 (attached_from t.attachments) ≡ false
unfolding attachments_of attached_from is_in
attached_nonzero most s m t e =
    header_nonzero (most_attachments + 2) s (link_at s 64 3) [] (attached_from t.attachments) refl
    (header-from most (most_attachments + 2) s (link_at s 64 3) (record { attachments = []; made = m }) t e)

-- ---- references

-- what 28 lets pass
pub photos_fine : (s : List ℕ) (c : ℕ) {u : Unit {0}} → photos_in true s c ≡ ok u
    → (8 + photo_count s c ≤ links_at s c) × (are_attached (header_attachments s) (references s c) ≡ true)
unfolding photos_in
photos_fine s c e =
    let h = lt_back _ _ _ _ e refused≢ok in
    (h.0, go (are_attached (header_attachments s) (references s c)) h.1)
  where
    go : (t : Bool) {u : Unit {0}} → pick {A = Verdict} t fine (refused 28 c) ≡ ok u → t ≡ true
    go true e = refl
    go false e = absurd (refused≢ok e)

either_true : (a b : Bool) → either a b ≡ true → (a ≡ true) ⊎ (b ≡ true)
either_true true b e = inl refl
either_true false b e = inr e

pick_true : (t b : Bool) → pick t b false ≡ true → (t ≡ true) × (b ≡ true)
pick_true true b e = (refl, e)
pick_true false b e = let z : ◌≡◌ {A = ℕ} 0 1 = cc in absurd (omega arith)

pub attached_each : (ats refs : List ℕ) → are_attached ats refs ≡ true → (i : ℕ) → i < length refs → (get_or refs i 0 ≡ 0) ⊎ (is_in (get_or refs i 0) ats ≡ true)
unfolding are_attached
attached_each ats [] e i h = absurd (omega arith)
attached_each ats (a ∷ refs) e zero h = go (either_true (eqb a 0) (is_in a ats) (pick_true (either (eqb a 0) (is_in a ats)) (are_attached ats refs) e).0)
  where
    go : (eqb a 0 ≡ true) ⊎ (is_in a ats ≡ true) → (a ≡ 0) ⊎ (is_in a ats ≡ true)
    go (inl q) = inl (eqb-true a 0 q)
    go (inr q) = inr q
attached_each ats (a ∷ refs) e (suc i) h =
    attached_each ats refs (pick_true (either (eqb a 0) (is_in a ats)) (are_attached ats refs) e).1 i (omega arith)

-- ---- where a reference leads

-- the places of moved attachments
unfoldable pub attached_to : List Attachment → List ℕ
attached_to [] = []
attached_to (t ∷ ts) = t.to ∷ attached_to ts

-- attachment number k is the one that stood at a
pub record MovedAt (ts : List Attachment) (a : ℕ) : Type 0 where
  pub number : ℕ
  pub few : number < length (attached_from ts)
  pub stood : get_or (attached_from ts) number 0 ≡ a
  pub stands : moved_to a ts ≡ get_or (attached_to ts) number 0

pub moved_at : (ts : List Attachment) (a : ℕ) → is_in a (attached_from ts) ≡ true → MovedAt ts a
unfolding is_in attached_from attached_to moved_to
moved_at [] a e = let z : ◌≡◌ {A = ℕ} 0 1 = cc in absurd (omega arith)
moved_at (t ∷ ts) a e = go (eqb t.from a) refl e (moved_at ts a)
  where
    go : (b : Bool) → eqb t.from a ≡ b → pick b true (is_in a (attached_from ts)) ≡ true → (is_in a (attached_from ts) ≡ true → MovedAt ts a) → MovedAt (t ∷ ts) a
    go true q e k =
        record { number = 0; few = omega arith; stood = eqb-true t.from a q; stands = sym (eq_yes t.from a _ _ (eqb-true t.from a q) refl) }
    go false q e k =
        let r = k e in
        record {
          number = suc r.number;
          few = omega (arith, r.few);
          stood = r.stood;
          stands = sym (eq_no t.from a _ _ (eqb-false t.from a q) (sym r.stands));
        }

pub moved_none : (ts : List Attachment) (a : ℕ) → is_in a (attached_from ts) ≡ false → moved_to a ts ≡ 0
unfolding is_in attached_from moved_to
moved_none [] a e = refl
moved_none (t ∷ ts) a e = go (eqb t.from a) refl e (moved_none ts a)
  where
    go : (b : Bool) → eqb t.from a ≡ b → pick b true (is_in a (attached_from ts)) ≡ false → (is_in a (attached_from ts) ≡ false → moved_to a ts ≡ 0)
        → moved_to a (t ∷ ts) ≡ 0
    go true q e k = let z : ◌≡◌ {A = ℕ} 0 1 = cc in absurd (omega arith)
    go false q e k = sym (eq_no t.from a _ _ (eqb-false t.from a q) (sym (k e)))
