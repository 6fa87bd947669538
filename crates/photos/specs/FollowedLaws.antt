-- Laws of the header's attachment chain as the code follows it, and of a channel's references.
use Prim.{tt}
use Rattle.std.specs.Prelude.{ℕ, zero, suc, ◌+◌, ◌*◌, ◌-◌, ◌≤◌, ◌<◌, List, [], ◌∷◌, ◌++◌, ◌≡◌, Bool, true, false, eqb, ltb, length, take, set, ◌||◌, Result, Ok, Err}
use Rattle.std.specs.List.{list_any}
use Rattle.std.specs.Result.{result_unwrap_or}
use Rattle.std.proofs.Math.Path.{refl}
use Rattle.std.proofs.Common.{sym, ap, ◌∙◌, sub-one, arith, length-set}
use Rattle.base.specs.Choice.{pick, if_lt, if_eq}
use Rattle.base.specs.ChoiceLaws.{lt_yes, lt_no, lt_back, lt_first, eq_yes, eq_no, eq_first}
use Rattle.base.specs.Checked.{Checked, ok, refused, and_then, Verdict, fine}
use Rattle.blocks.specs.AnswerLaws.{refused≢ok, then_fine}
use Rattle.mdf.specs.Block.{kind_at, size_at, links_at, link_at, first_link, header_in}
use Rattle.mdf.specs.Chain.{is_in}
use Rattle.plan.specs.Channel.{either}
use Rattle.plan.specs.Photos.{kind_at_block, most_attachments, attachment_in, header_from, header_chain, header_attachments, photo_count, links_from, references, photos_of, are_attached, photos_first, photos_in}
use Rattle.plan.specs.PhotosLaws.{length-references}
use Rattle.fields.specs.declared.refusal.Refusal.{Refusal}
use Rattle.photos.specs.declared.Going.{Going}
use Rattle.photos.specs.Followed.{goes_on, going_as, Follows}

-- ---- the checks of an AT: 18 for its links, its length and the most bytes; its range
module _ (s : List ℕ) (a : ℕ) where
  pub at-few : links_at s a < 4 → refused 18 a ≡ attachment_in s a
  unfolding attachment_in
  at-few h = lt_yes _ _ _ _ h refl

  module _ (h : 4 ≤ links_at s a) where
    pub at-short : size_at s a < 24 + 8 * links_at s a → refused 18 a ≡ attachment_in s a
    unfolding attachment_in
    at-short k = lt_no _ _ _ _ h (lt_yes _ _ _ _ k refl)

    module _ (k : 24 + 8 * links_at s a ≤ size_at s a) where
      pub at_long : 268435456 < 24 + 8 * links_at s a → refused 18 a ≡ attachment_in s a
      unfolding attachment_in
      at_long l = lt_no _ _ _ _ h (lt_no _ _ _ _ k (lt_yes _ _ _ _ l refl))

      pub at-past : 24 + 8 * links_at s a ≤ 268435456 → length s < a + size_at s a → refused 4 a ≡ attachment_in s a
      unfolding attachment_in
      at-past l r = lt_no _ _ _ _ h (lt_no _ _ _ _ k (lt_no _ _ _ _ l (lt_yes _ _ _ _ r refl)))

      pub at-fine : 24 + 8 * links_at s a ≤ 268435456 → a + size_at s a ≤ length s → fine ≡ attachment_in s a
      unfolding attachment_in
      at-fine l r = lt_no _ _ _ _ h (lt_no _ _ _ _ k (lt_no _ _ _ _ l (lt_no _ _ _ _ r refl)))

-- ---- whether the chain goes on, one law for each way of the code
pub goes_none : (s : List ℕ) (a : ℕ) (met : Bool) (n : ℕ) → a ≡ 0 → ok false ≡ goes_on s a met n
unfolding goes_on
goes_none s a met n z = eq_yes _ _ _ _ z refl

module _ (s : List ℕ) (a : ℕ) (met : Bool) (n : ℕ) (link : a ≡ 0 → ⊥) where
  pub goes_met : met ≡ true → ok false ≡ goes_on s a met n
  unfolding goes_on
  goes_met i = eq_no _ _ _ _ link (rw i)

  module _ (i : met ≡ false) where
    pub goes_header : {k p : ℕ} → header_in s a ≡ refused k p → refused k p ≡ goes_on s a met n
    unfolding goes_on
    goes_header v = eq_no _ _ _ _ link (rw (i, v))

    module _ (v : header_in s a ≡ ok tt) where
      pub goes_other : (kind_at s a ≡ kind_at_block → ⊥) → ok false ≡ goes_on s a met n
      unfolding goes_on
      goes_other k = eq_no _ _ _ _ link (rw (i, v) (eq_no _ _ _ _ k refl))

      module _ (k : kind_at s a ≡ kind_at_block) where
        pub goes_refused : {q p : ℕ} → attachment_in s a ≡ refused q p → refused q p ≡ goes_on s a met n
        unfolding goes_on
        goes_refused f = eq_no _ _ _ _ link (rw (i, v) (eq_yes _ _ _ _ k (rw f)))

        pub goes_full : attachment_in s a ≡ ok tt → 64 ≤ n → refused 19 a ≡ goes_on s a met n
        unfolding goes_on
        goes_full f h = eq_no _ _ _ _ link (rw (i, v) (eq_yes _ _ _ _ k (rw f (lt_no _ _ _ _ h refl))))

        pub goes_on_lem : attachment_in s a ≡ ok tt → n < 64 → ok true ≡ goes_on s a met n
        unfolding goes_on
        goes_on_lem f h = eq_no _ _ _ _ link (rw (i, v) (eq_yes _ _ _ _ k (rw f (lt_yes _ _ _ _ h refl))))

-- what is known where it goes on
pub record Fitting (s : List ℕ) (a n : ℕ) : Type 0 where
  pub linked : 4 ≤ links_at s a
  pub within : 24 + 8 * links_at s a ≤ size_at s a
  pub range : a + size_at s a ≤ length s
  pub few : n < 64

false≢true : ◌≡◌ {A = Checked Bool} (ok false) (ok true) → ⊥
false≢true e = let z : ◌≡◌ {A = ℕ} 0 1 = cc in omega arith

at-fits : (s : List ℕ) (a n : ℕ) → attachment_in s a ≡ fine → n < 64 → Fitting s a n
unfolding attachment_in
at-fits s a n e h =
    let b = lt_back _ _ _ _ e refused≢ok in
    let c = lt_back _ _ _ _ b.1 refused≢ok in
    let d = lt_back _ _ _ _ c.1 refused≢ok in
    let f = lt_back _ _ _ _ d.1 refused≢ok in
    record { linked = b.0; within = c.0; range = f.0; few = h }

not_zero : (a : ℕ) (x : Checked Bool) → if_eq a 0 (ok false) x ≡ ok true → x ≡ ok true
unfolding if_eq
not_zero a x e = go (eqb a 0) e
  where
    go : (b : Bool) → pick b (ok false) x ≡ ok true → x ≡ ok true
    go true e = absurd (false≢true e)
    go false e = e

not_met : (met : Bool) (x : Checked Bool) → pick met (ok false) x ≡ ok true → x ≡ ok true
not_met true x e = absurd (false≢true e)
not_met false x e = e

pub goes_fits : (s : List ℕ) (a : ℕ) (met : Bool) (n : ℕ) → goes_on s a met n ≡ ok true → Fitting s a n
unfolding goes_on
goes_fits s a met n e =
    let header = then_fine (header_in s a) _ (not_met met _ (not_zero a _ e)) in
    let checked = then_fine (attachment_in s a) _ (eq_first _ _ _ _ header.1 false≢true).1 in
    at-fits s a n checked.0 (lt_first _ _ _ _ checked.1 refused≢ok).0

-- ---- words

-- the first words with one more
take_next : (n a : ℕ) (w : List ℕ) → n < length w → take (n + 1) (set w n a) ≡ take n w ++ (a ∷ [])
take_next n a w h = let e : n + 1 ≡ suc n = omega arith in rw e (go n w h)
  where
    go : (n : ℕ) (w : List ℕ) → n < length w → take (suc n) (set w n a) ≡ take n w ++ (a ∷ [])
    go n [] h = absurd (omega arith)
    go zero (b ∷ w) h = refl
    go (suc n) (b ∷ w) h = ap (λ (l : List ℕ). b ∷ l) (go n w (omega arith))

-- std's search of words
pub is_in-any : (a : ℕ) (w : List ℕ) → list_any (λ b. eqb b a) w ≡ is_in a w
unfolding is_in
is_in-any a [] = refl
is_in-any a (b ∷ w) = go (eqb b a) (is_in-any a w)
  where
    go : (t : Bool) → list_any (λ b. eqb b a) w ≡ is_in a w → (t || list_any (λ b. eqb b a) w) ≡ pick t true (is_in a w)
    go true e = refl
    go false e = e

-- ---- the chain
abbrev on_goes : Checked Bool → List ℕ → Checked (List ℕ) → Checked (List ℕ)
on_goes (ok true) met more = more
on_goes (ok false) met more = ok met
on_goes (refused number place) met more = refused number place

header_open : (turns : ℕ) (s : List ℕ) (a : ℕ) (met : List ℕ) → 0 < turns
    → header_from turns s a met ≡ on_goes (goes_on s a (is_in a met) (length met)) met (header_from (turns - 1) s (first_link s a) (met ++ (a ∷ [])))
unfolding header_from goes_on if_eq if_lt
header_open zero s a met h = absurd (omega arith)
header_open (suc turns) s a met h =
    rw (sub-one (suc turns))
    (go (eqb a 0) (is_in a met) (header_in s a) (eqb (kind_at s a) kind_at_block) (attachment_in s a) (ltb (length met) most_attachments)
    (header_from turns s (first_link s a) (met ++ (a ∷ []))))
  where
    go : (e i : Bool) (v : Verdict) (k : Bool) (f : Verdict) (l : Bool) (more : Checked (List ℕ))
        → pick e (ok met) (pick i (ok met) (and_then v (λ _. pick k (and_then f (λ _. pick l more (refused 19 a))) (ok met))))
        ≡ on_goes (pick e (ok false) (pick i (ok false) (and_then v (λ _. pick k (and_then f (λ _. pick l (ok true) (refused 19 a))) (ok false))))) met more
    go true i v k f l more = refl
    go false true v k f l more = refl
    go false false (refused n p) k f l more = refl
    go false false (ok u) false f l more = refl
    go false false (ok u) true (refused n p) l more = refl
    go false false (ok u) true (ok x) true more = refl
    go false false (ok u) true (ok x) false more = refl

length-first : (n : ℕ) (w : List ℕ) → n ≤ length w → length (take n w) ≡ n
length-first zero w h = refl
length-first (suc n) [] h = absurd (omega arith)
length-first (suc n) (b ∷ w) h = ap suc (length-first n w (omega arith))

-- the chain from at on, after so many, and what is left of it
pub record Following (s w : List ℕ) (at count : ℕ) : Type 0 where
  pub words : length w ≡ 64
  pub few : count ≤ 64
  pub rest : header_from (66 - count) s at (take count w) ≡ header_chain s

pub follow_begin : (s w : List ℕ) (at : ℕ) → at ≡ link_at s 64 3 → length w ≡ 64 → Following s w at 0
unfolding header_chain
follow_begin s w at e h = record { words = h; few = omega arith; rest = rw e refl }

module _ {s w : List ℕ} {at count : ℕ} (u : Following s w at count) where
  opened : {v : Checked Bool} → goes_on s at (is_in at (take count w)) count ≡ v
      → on_goes v (take count w) (header_from (66 - count - 1) s (first_link s at) (take count w ++ (at ∷ []))) ≡ header_chain s
  opened e =
      rw (← e)
      (sym (header_open (66 - count) s at (take count w) (omega (arith, u.few))
      ∙ ap (λ (n : ℕ). on_goes (goes_on s at (is_in at (take count w)) n) (take count w) (header_from (66 - count - 1) s (first_link s at) (take count w ++ (at ∷ []))))
      (length-first count w (omega (arith, u.words, u.few))))
      ∙ u.rest)

  pub follow_refused : {n p : ℕ} → goes_on s at (is_in at (take count w)) count ≡ refused n p → header_chain s ≡ refused n p
  follow_refused e = sym (opened e)

  pub follow_ends : goes_on s at (is_in at (take count w)) count ≡ ok false → Follows (header_chain s) (Ok count) w
  follow_ends e = (sym (opened e), u.few)

  pub follow_next : goes_on s at (is_in at (take count w)) count ≡ ok true → (next : ℕ) → next ≡ first_link s at
      → Following s (set w count at) next (count + 1)
  follow_next e next q =
      let f = (goes_fits s at (is_in at (take count w)) count e).few in
      let turns : 66 - (count + 1) ≡ 66 - count - 1 = omega arith in
      record {
        words = rw length-set u.words;
        few = omega (arith, f);
        rest = rw (turns, q, take_next count at w (omega (arith, u.words, f))) (opened e);
      }

-- the code's answer, where an address was sought first
pub so_goes : (s : List ℕ) (a n : ℕ) (met : List ℕ) {b : Bool} {r g : Result Going Refusal} → b ≡ is_in a met → going_as r ≡ goes_on s a b n → r ≡ g
    → goes_on s a (is_in a met) n ≡ going_as g
so_goes s a n met e f h = ap (λ (b : Bool). goes_on s a b n) (sym e) ∙ sym f ∙ ap going_as h

-- the attachments of the chain are the first words; none of one that is refused
pub met_all : (s w : List ℕ) (f : Result ℕ Refusal) → Follows (header_chain s) f w → (take (result_unwrap_or f 0) w ≡ header_attachments s) × (result_unwrap_or f 0 ≤ 64)
unfolding header_attachments
met_all s w (Ok k) h = (rw h.0 refl, h.1)
met_all s w (Err x) h = (rw h refl, omega arith)

-- ---- references

-- those of the first words are those of the chain
pub attached_all : (s w : List ℕ) (c : ℕ) (f : Result ℕ Refusal) {r : Bool} → Follows (header_chain s) f w
    → r ≡ are_attached (take (result_unwrap_or f 0) w) (references s c) → r ≡ are_attached (header_attachments s) (references s c)
attached_all s w c f h q = q ∙ ap (λ (l : List ℕ). are_attached l (references s c)) (met_all s w f h).0

-- what is left of a channel's references
unfoldable pub refs_from : List ℕ → ℕ → ℕ → List ℕ
refs_from s c i = links_from s (photo_count s c - i) (c + 88 + 8 * i)

pub refs_begin : (s : List ℕ) (c : ℕ) → refs_from s c 0 ≡ references s c
unfolding refs_from references
refs_begin s c = let e : photo_count s c - 0 ≡ photo_count s c = omega arith in let f : c + 88 + 8 * 0 ≡ c + 88 = omega arith in rw (e, f) refl

refs_one : (s : List ℕ) (c i : ℕ) → i < photo_count s c → refs_from s c i ≡ link_at s c (8 + i) ∷ refs_from s c (i + 1)
unfolding refs_from links_from link_at
refs_one s c i h =
    let e : photo_count s c - i ≡ suc (photo_count s c - (i + 1)) = omega arith in
    let f : c + 88 + 8 * i ≡ c + 24 + 8 * (8 + i) = omega arith in
    let g : c + 88 + 8 * i + 8 ≡ c + 88 + 8 * (i + 1) = omega arith in
    rw (e, g, f) refl

module _ (ats s : List ℕ) (c i : ℕ) (h : i < photo_count s c) {a : ℕ} (e : a ≡ link_at s c (8 + i)) {t : Bool} (k : t ≡ either (eqb a 0) (is_in a ats)) where
  attached_one : are_attached ats (refs_from s c i) ≡ pick t (are_attached ats (refs_from s c (i + 1))) false
  unfolding are_attached
  attached_one = rw (refs_one s c i h, ← e, ← k) refl

  pub attached_next : t ≡ true → are_attached ats (refs_from s c (i + 1)) ≡ are_attached ats (refs_from s c i)
  attached_next q = sym (attached_one ∙ rw q refl)

  pub attached_not : t ≡ false → false ≡ are_attached ats (refs_from s c i)
  attached_not q = sym (attached_one ∙ rw q refl)

pub attached_end : (ats s : List ℕ) (c i : ℕ) → photo_count s c ≤ i → true ≡ are_attached ats (refs_from s c i)
unfolding refs_from links_from are_attached
attached_end ats s c i h = let e : photo_count s c - i ≡ 0 = omega arith in rw e refl

-- ---- 28
pub photos_off : (s : List ℕ) (c : ℕ) {photos : Bool} → photos ≡ false → fine ≡ photos_in photos s c
unfolding photos_in
photos_off s c e = rw e refl

module _ (s : List ℕ) (c : ℕ) {photos : Bool} (on : photos ≡ true) where
  pub photos_short : links_at s c < 8 + photo_count s c → refused 28 c ≡ photos_in photos s c
  unfolding photos_in
  photos_short h = rw on (lt_yes _ _ _ _ h refl)

  module _ (h : 8 + photo_count s c ≤ links_at s c) where
    pub photos_led : are_attached (header_attachments s) (references s c) ≡ true → fine ≡ photos_in photos s c
    unfolding photos_in
    photos_led e = rw on (lt_no _ _ _ _ h (rw e refl))

    pub photos_astray : are_attached (header_attachments s) (references s c) ≡ false → refused 28 c ≡ photos_in photos s c
    unfolding photos_in
    photos_astray e = rw on (lt_no _ _ _ _ h (rw e refl))

    pub photos_none : photo_count s c ≡ 0 → fine ≡ photos_in photos s c
    unfolding references links_from are_attached
    photos_none z = photos_led (rw z refl)

-- ---- what planning starts with
pub first_off : (s : List ℕ) {photos : Bool} → photos ≡ false → fine ≡ photos_first photos s
unfolding photos_first
first_off s e = rw e refl

module _ (s : List ℕ) {photos : Bool} (on : photos ≡ true) where
  pub first_refused : {n p : ℕ} → header_chain s ≡ refused n p → refused n p ≡ photos_first photos s
  unfolding photos_first
  first_refused e = rw (on, e) refl

  pub first_fine : {l : List ℕ} → header_chain s ≡ ok l → fine ≡ photos_first photos s
  unfolding photos_first
  first_fine e = rw (on, e) refl

-- ---- how many references a column keeps
pub kept_count : (s : List ℕ) (c : ℕ) {photos : Bool} {n : ℕ} → photos ≡ true → n ≡ photo_count s c → n ≡ length (photos_of photos s c)
unfolding photos_of
kept_count s c on e = e ∙ sym (rw on (length-references s c))

pub kept-none : (s : List ℕ) (c : ℕ) {photos : Bool} → photos ≡ false → 0 ≡ length (photos_of photos s c)
unfolding photos_of
kept-none s c off = rw off refl
