-- The header's chain of a result is that of its attachments, in order, and its columns' references lead to these: no 18, no 28.
use Prim.{Unit, tt}
use Prim.Native.Nat.{ℕ, zero, suc, ◌+◌, ◌-◌, ◌≤◌, ◌<◌}
use mathlib.Core.List.{List, [], ◌∷◌, ◌++◌, append-nil, append_assoc}
use Rattle.std.specs.Prelude.{Bool, true, false, ◌⊎◌, ◌≡◌, eqb, length, get_or}
use Rattle.std.proofs.Common.{inl, inr, ◌∙◌, arith, eq-eqb, ne_eqb}
use Rattle.std.proofs.Math.Path.{refl, sym, ap}
use Rattle.std.proofs.Math.ListN.{length-append}
use Rattle.base.specs.Choice.{pick, if_lt, if_eq}
use Rattle.base.specs.ChoiceLaws.{lt_yes, lt_no, eq_yes, eq_no}
use Rattle.base.specs.Checked.{ok, refused, and_then, fine}
use Rattle.mdf.specs.Block.{kind_at, size_at, links_at, link_at, first_link}
use Rattle.mdf.specs.Chain.{is_in}
use Rattle.plan.specs.Channel.{either}
use Rattle.plan.specs.Copies.{Copy, Attachment}
use Rattle.plan.specs.Photos.{kind_at_block, most_attachments, attachment_in, header_from, header_chain, header_attachments, photos_first, photo_count, references, are_attached, photos_in}
use Rattle.plan.specs.PhotosLaws.{length-references, reference_at}
use Rattle.result.specs.Fill.{next_attachment}
use Rattle.result.specs.Guarantee.{In, here, there}
use Rattle.copies_laws.specs.AttachLaws.{LaidAt}
use Rattle.copies_laws.specs.Laid.{laid-ends}
use Rattle.copies_laws.specs.PhotoLaws.{attached_to}
use Rattle.payload_laws.specs.Lists.{in_append}
use Rattle.plan_laws.specs.Lists.{in_none}
use Rattle.guarantee.specs.Named.{CopyStands}
use Rattle.again_laws.specs.AttachAgain.{AllAt, block-header, block_tested, block-kind, block-next}

-- ---- places rise
unfoldable pub Rising : ℕ → List Attachment → Type 0
Rising n [] = Unit {0}
Rising n (t ∷ ts) = (n ≤ t.to) × Rising (suc t.to) ts

rising_from : (m n : ℕ) (ts : List Attachment) → m ≤ n → Rising n ts → Rising m ts
unfolding Rising
rising_from m n [] h l = tt
rising_from m n (t ∷ ts) h l = (omega (arith, l.0), l.1)

pub laid_rising : (s : List ℕ) (n e : ℕ) (ts : List Attachment) → LaidAt s n ts e → Rising n ts
unfolding LaidAt Rising
laid_rising s n e [] l = tt
laid_rising s n e (t ∷ ts) l =
    let h = laid-ends s n t.to t.own l.0 in
    let m = l.1.within in
    (h, rising_from (suc t.to) (t.to + size_at s t.from) ts (omega arith) (laid_rising s (t.to + size_at s t.from) e ts l.2))

abbrev BelowAll : ℕ → List ℕ → Type 0
BelowAll n met = (b : ℕ) → In b met → b < n

not_met : (n a : ℕ) (met : List ℕ) → BelowAll n met → n ≤ a → is_in a met ≡ false
unfolding is_in
not_met n a [] h l = refl
not_met n a (b ∷ met) h l = rw (ne_eqb b a (λ e. omega (arith, h b here)), not_met n a met (λ c i. h c (there i)) l)

more_met : (n a : ℕ) (met : List ℕ) → BelowAll n met → n ≤ a → BelowAll (suc a) (met ++ (a ∷ []))
more_met n a met h l b i = in_append met (a ∷ []) (λ j. omega (arith, h b j)) (λ j. last b j) i
  where
    last : (b : ℕ) → In b (a ∷ []) → b < suc a
    last b here = omega arith
    last b (there j) = absurd (in_none j)

-- ---- references among attachments
pub attached_all : (ats refs : List ℕ) → ((i : ℕ) → i < length refs → (get_or refs i 0 ≡ 0) ⊎ (is_in (get_or refs i 0) ats ≡ true)) → are_attached ats refs ≡ true
unfolding are_attached
attached_all ats [] h = refl
attached_all ats (a ∷ refs) h = rw (one (h 0 (omega arith)), attached_all ats refs (λ i l. h (suc i) (omega arith)))
  where
    one : (a ≡ 0) ⊎ (is_in a ats ≡ true) → either (eqb a 0) (is_in a ats) ≡ true
    one (inl e) = rw (eq-eqb a 0 e)
    one (inr e) = rw e (any (eqb a 0))
      where
        any : (t : Bool) → either t true ≡ true
        any true = refl
        any false = refl

pub placed_in_lem : (ts : List Attachment) (k : ℕ) → k < length (attached_to ts) → is_in (get_or (attached_to ts) k 0) (attached_to ts) ≡ true
unfolding attached_to is_in
placed_in_lem [] k h = absurd (omega arith)
placed_in_lem (t ∷ ts) zero h = rw (eq-eqb t.to t.to refl)
placed_in_lem (t ∷ ts) (suc k) h = rw (placed_in_lem ts k (omega arith)) (any (eqb t.to (get_or (attached_to ts) k 0)))
  where
    any : (b : Bool) → pick b true true ≡ true
    any true = refl
    any false = refl

module _ (s f : List ℕ) (bytes : (i : ℕ) → get_or s i 0 < 256) (chain : List ℕ) (memo : List Copy) (md fh : ℕ)
    (all : (c : Copy) → In c memo → CopyStands s f chain memo fh c) where
  header-again : (turns n : ℕ) (ts : List Attachment) (met : List ℕ) → AllAt s f bytes chain memo md fh all ts → Rising n ts → BelowAll n met
      → length met + length ts ≤ 64 → length ts < turns → header_from turns f (next_attachment ts) met ≡ ok (met ++ attached_to ts)
  unfolding header_from attached_to Rising AllAt
  header-again zero n ts met h r b few enough = absurd (omega arith)
  header-again (suc turns) n [] met h r b few enough = sym (eq_yes _ _ _ _ refl (ap ok (append-nil met)))
  header-again (suc turns) n (t ∷ ts) met h r b few enough =
      let k = h.0 in
      let above = k.above in
      let rest = header-again turns (suc t.to) ts (met ++ (t.to ∷ [])) h.1 r.1 (more_met n t.to met b r.0) (rw length-append (omega arith)) (omega arith) in
      let inner : if_lt (length met) most_attachments (header_from turns f (first_link f t.to) (met ++ (t.to ∷ []))) (refused 19 t.to) ≡ ok (met ++ (t.to ∷ attached_to ts)) =
      sym (lt_yes _ _ _ _ (omega arith) (sym (rw (block-next s f bytes chain memo md fh all t ts k) (rest ∙ ap ok (append_assoc met (t.to ∷ []) (attached_to ts)))))) in
      let kinded : if_eq (kind_at f t.to) kind_at_block (and_then (attachment_in f t.to) (λ _.
      if_lt (length met) most_attachments (header_from turns f (first_link f t.to) (met ++ (t.to ∷ []))) (refused 19 t.to))) (ok met) ≡ ok (met ++ (t.to ∷ attached_to ts)) =
      sym (eq_yes _ _ _ _ (block-kind s f bytes chain memo md fh all t ts k) (sym (rw (block_tested s f bytes chain memo md fh all t ts k) inner))) in
      sym (eq_no _ _ _ _ (λ e. omega arith) (sym (rw (not_met n t.to met b r.0, block-header s f bytes chain memo md fh all t ts k) kinded)))

  -- "following the attachments by 01's checks up to 19": all of them
  pub chain-again : (n : ℕ) (ts : List Attachment) → AllAt s f bytes chain memo md fh all ts → Rising n ts → length ts ≤ 64 → link_at f 64 3 ≡ next_attachment ts
      → header_chain f ≡ ok (attached_to ts)
  unfolding header_chain
  chain-again n ts h r few e =
      rw e (header-again (most_attachments + 2) n ts [] h r (λ b i. absurd (in_none i)) (omega arith) (omega arith))

-- no 18, no 19
pub first-again : (photos : Bool) (f l : List ℕ) → header_chain f ≡ ok l → photos_first photos f ≡ fine
unfolding photos_first
first-again true f l e = rw e
first-again false f l e = refl

-- no 28: a CN with as many links as its count demands, whose references are 0 or lead to the chain
pub photos_fine-again : (photos : Bool) (f ats : List ℕ) (c : ℕ) → header_chain f ≡ ok ats
    → (photos ≡ true → (8 + photo_count f c ≤ links_at f c) × ((i : ℕ) → i < photo_count f c → (link_at f c (8 + i) ≡ 0) ⊎ (is_in (link_at f c (8 + i)) ats ≡ true)))
    → photos_in photos f c ≡ fine
unfolding photos_in header_attachments
photos_fine-again false f ats c e h = refl
photos_fine-again true f ats c e h =
    let k = h refl in
    let led : are_attached ats (references f c) ≡ true =
    attached_all ats (references f c) (λ i l. rw (reference_at f c i (omega (arith, length-references f c))) (k.1 i (omega (arith, length-references f c)))) in
    sym (lt_no _ _ _ _ k.0 (sym (rw (e, led))))
