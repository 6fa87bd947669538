-- What the words of reading hold of a DG is what the recording has of it.
use Rattle.std.specs.Prelude.{◌≡◌, ℕ, zero, suc, ◌+◌, ◌-◌, ◌*◌, ◌<◌, ◌≤◌, min, List, [], ◌∷◌, ◌++◌, length, take, drop, slice_index, slice_index_or, slice_range, refl}
use Rattle.std.proofs.Common.{sym, ap, ◌∙◌, ⊎_elim, zero-add, add-zero, length-append, length-drop, take-append-drop, drop_of_length-le, take_all, length-take-le}
use Rattle.std.proofs.Math.Nat.{min-eq_left, min-eq_right, min-le_right}
use native.Mathlib.Omega.{arith}
use Rattle.std.proofs.Math.Seq.{take-nil}
use Rattle.std.proofs.lemmas.List.{take-append-le, drop-append-le}
use Rattle.base.specs.ChoiceLaws.{eq_yes, eq_no}
use Rattle.base.specs.Blit.{part, blit}
use Rattle.base.specs.BlitLaws.{length-blit, blit-append, part-blit, part-blit_before}
use Rattle.mdf.specs.Chain.{Fragment}
use Rattle.mdf.specs.Walk.{Item, dg, cg, cn, level_cg, tally}
use Rattle.mdf.specs.Group.{DataGroup, addresses, groups_of, up_to, data_groups_of}
use Rattle.work_words.specs.Words.{mark, address_words, mark_words, group_words, fragment_words, fragments_of, laid_items, counts_at}
use Rattle.result.specs.Guarantee.{In, here, there}
use Rattle.chains.specs.KeptLaws.{length-words, words_append, words_back}
use Rattle.plan_laws.specs.Lists.{same, same_yes, occurs, occurs-append}
use Rattle.plan_laws.specs.WalkLaws.{item_addresses}
use Rattle.plan_laws.specs.GroupLaws.{addresses-length}
use Rattle.planning.specs.Items.{items_from}
use Rattle.planning.specs.ReadBackLaws.{Words, items_back}
use Rattle.planning.specs.Span.{past_dg}
use Rattle.writing.specs.declared.own.Own.{Own}
use Rattle.records.specs.FragmentLaws.{lt_or_le}
use Rattle.places.specs.Stretch.{number_in}
use Rattle.data_blocks.specs.NumberLaws.{number_hit, number-next}
use Rattle.writing.specs.Own.{own_past, own_in, own_words, own_groups}

-- ---- a part of what was laid
pub laid-part : (i : ℕ) (xs ys zs l : List ℕ) → i + length (xs ++ (ys ++ zs)) ≤ length l
    → part (i + length xs) (length ys) (blit i (xs ++ (ys ++ zs)) l) ≡ ys
laid-part i xs ys zs l h =
    let a : length (xs ++ (ys ++ zs)) ≡ length xs + (length ys + length zs) = length-append xs (ys ++ zs) ∙ rw (length-append ys zs) in
    rw (blit-append xs i (ys ++ zs) l, blit-append ys (i + length xs) zs (blit i xs l))
    (part-blit_before zs (i + length xs + length ys) (i + length xs) (length ys) (blit (i + length xs) ys (blit i xs l)) (omega arith)
    ∙ part-blit (i + length xs) ys (blit i xs l) (rw length-blit (omega arith)))

-- ---- items, the first of them and the rest
items-append : (w : List ℕ) (k a b : ℕ) → items_from w k (a + b) ≡ items_from w k a ++ items_from w (k + a) b
unfolding items_from
items-append w k zero b = rw (zero-add b, add-zero k)
items-append w k (suc a) b =
    let e : suc a + b ≡ suc (a + b) = omega arith in
    let f : k + suc a ≡ k + 1 + a = omega arith in
    rw (e, f, items-append w (k + 1) a b)

tally-append : (xs ys : List Item) → tally level_cg.own (xs ++ ys) ≡ tally level_cg.own xs + tally level_cg.own ys
unfolding tally
tally-append [] ys = sym (zero-add _)
tally-append (dg a n ∷ xs) ys = omega (arith, tally-append xs ys)
tally-append (cg a ∷ xs) ys = omega (arith, tally-append xs ys)
tally-append (cn a ∷ xs) ys = omega (arith, tally-append xs ys)

tally-dg : (a c : ℕ) (is : List Item) → tally level_cg.own (dg a c ∷ is) ≡ tally level_cg.own is
unfolding tally
tally-dg a c is = zero-add _

module _ (w : List ℕ) where
  words-rest : (k : ℕ) (i : Item) (is : List Item) → Words w k (i ∷ is) → Words w (k + 1) is
  unfolding address_words mark_words
  words-rest k i is h =
      record {
        addresses = λ j l. let e : k + 1 + j ≡ k + suc j = omega arith in rw e (h.addresses (suc j) (omega arith));
        marks = λ j l. let e : k + 1 + j ≡ k + suc j = omega arith in rw e (h.marks (suc j) (omega arith));
      }

  words-after : (k : ℕ) (xs ys : List Item) → Words w k (xs ++ ys) → Words w (k + length xs) ys
  words-after k [] ys h = rw (add-zero k) h
  words-after k (x ∷ xs) ys h =
      let e : k + suc (length xs) ≡ k + 1 + length xs = omega arith in
      rw e (words-after (k + 1) xs ys (words-rest k x (xs ++ ys) h))

  words-mark : (k : ℕ) (i : Item) (is : List Item) → Words w k (i ∷ is) → slice_index w (1536 + k) ≡ mark i
  unfolding mark_words
  words-mark k i is h = rw (add-zero k) at (h.marks 0 (omega arith))

-- ---- where a DG is among the items
past-found : (d k c : ℕ) (xs ys : List Item) → occurs d (item_addresses xs) ≡ 0 → past_dg d k (xs ++ (dg d c ∷ ys)) ≡ k + length xs + 1
unfolding past_dg occurs item_addresses
past-found d k c [] ys h = sym (eq_yes _ _ _ _ refl (omega arith))
past-found d k c (dg a n ∷ xs) ys h =
    let r = past-found d (k + 1) c xs ys (omega arith) in
    sym (eq_no _ _ _ _ (λ e. omega (arith, h, same_yes a d e)) (omega arith))
past-found d k c (cg a ∷ xs) ys h = let r = past-found d (k + 1) c xs ys (omega arith) in omega arith
past-found d k c (cn a ∷ xs) ys h = let r = past-found d (k + 1) c xs ys (omega arith) in omega arith

addresses-append : (xs ys : List Item) → item_addresses (xs ++ ys) ≡ item_addresses xs ++ item_addresses ys
unfolding item_addresses
addresses-append [] ys = refl
addresses-append (x ∷ xs) ys = rw (addresses-append xs ys)

dg-occurs : (x a c : ℕ) (ys : List Item) → occurs x (item_addresses (dg a c ∷ ys)) ≡ same a x + occurs x (item_addresses ys)
unfolding item_addresses occurs
dg-occurs x a c ys = refl

occurs_split : (x a c : ℕ) (xs ys : List Item)
    → occurs x (item_addresses (xs ++ (dg a c ∷ ys))) ≡ occurs x (item_addresses xs) + (same a x + occurs x (item_addresses ys))
occurs_split x a c xs ys = rw (addresses-append xs (dg a c ∷ ys), occurs-append x (item_addresses xs) (item_addresses (dg a c ∷ ys)), dg-occurs x a c ys)

-- ---- the words of its groups
groups_append : (xs ys : List Item) → group_words (xs ++ ys) ≡ group_words xs ++ group_words ys
unfolding group_words
groups_append [] ys = refl
groups_append (dg a n ∷ xs) ys = groups_append xs ys
groups_append (cg a ∷ xs) ys = rw (groups_append xs ys)
groups_append (cn a ∷ xs) ys = groups_append xs ys

groups_dg : (a c : ℕ) (is : List Item) → group_words (dg a c ∷ is) ≡ group_words is
unfolding group_words
groups_dg a c is = refl

length_groups : (is : List Item) → length (group_words is) ≡ tally level_cg.own is
unfolding group_words tally
length_groups [] = refl
length_groups (dg a n ∷ is) = omega (arith, length_groups is)
length_groups (cg a ∷ is) = omega (arith, length_groups is)
length_groups (cn a ∷ is) = omega (arith, length_groups is)

-- up to the next DG, and the others
groups_first : (is : List Item) → (rest : List ℕ) × (group_words is ≡ addresses (groups_of is) ++ rest)
unfolding group_words groups_of addresses
groups_first [] = ([], refl)
groups_first (dg a n ∷ is) = (group_words is, refl)
groups_first (cg a ∷ is) = let r = groups_first is in (r.0, ap (λ (l : List ℕ). a ∷ l) r.1)
groups_first (cn a ∷ is) = groups_first is

-- every group's address is an item's
groups_occur : (x : ℕ) (is : List Item) → occurs x (addresses (groups_of is)) ≤ occurs x (item_addresses is)
unfolding groups_of addresses item_addresses occurs
groups_occur x [] = omega arith
groups_occur x (dg a n ∷ is) = omega arith
groups_occur x (cg a ∷ is) = omega (arith, groups_occur x is)
groups_occur x (cn a ∷ is) = omega (arith, groups_occur x is)

-- ---- the words of fragments
words-part : (b m : ℕ) (fs : List Fragment) (l : List ℕ) → b + m ≤ length fs → 3 * length fs ≤ length l
    → part (3 * b) (3 * m) (blit 0 (fragment_words fs) l) ≡ fragment_words (part b m fs)
unfolding part
words-part b m fs l h k =
    let front : List Fragment = take b fs in
    let mid : List Fragment = take m (drop b fs) in
    let back : List Fragment = drop m (drop b fs) in
    let e : fs ≡ front ++ (mid ++ back) = sym (rw (take-append-drop m (drop b fs)) (take-append-drop b fs)) in
    let f : fragment_words fs ≡ fragment_words front ++ (fragment_words mid ++ fragment_words back) =
    ap fragment_words e ∙ words_append front (mid ++ back) ∙ rw (words_append mid back) in
    let x : 3 * b ≡ 0 + length (fragment_words front) =
    let q = length-words front in let z = length-take-le b fs (omega arith) in omega arith in
    let y : 3 * m ≡ length (fragment_words mid) =
    let q = length-words mid in let z = length-take-le m (drop b fs) (rw length-drop (omega arith)) in omega arith in
    let room : 0 + length (fragment_words front ++ (fragment_words mid ++ fragment_words back)) ≤ length l =
    rw (← f) (let q = length-words fs in omega arith) in
    rw (x, y, f) (laid-part 0 (fragment_words front) (fragment_words mid) (fragment_words back) l room)

-- cut to those that there are
cut-same : {A : Type 0} (c u : ℕ) (fs gs : List A)
    → part (min c (min u (length fs))) (min u (length fs) - min c (min u (length fs))) (fs ++ gs) ≡ part c (u - c) fs
unfolding part
cut-same c u fs gs = ⊎_elim (λ h. far h) (λ h. near h) (lt_or_le (length fs) u)
  where
    inside : (b m : ℕ) → b + m ≤ length fs → take m (drop b (fs ++ gs)) ≡ take m (drop b fs)
    inside b m h =
        rw (drop-append-le b fs gs (omega arith)) (take-append-le m (drop b fs) gs (rw length-drop (omega arith)))

    near : u ≤ length fs
        → take (min u (length fs) - min c (min u (length fs))) (drop (min c (min u (length fs))) (fs ++ gs)) ≡ slice_range fs c u
    near h = rw (min-eq_left h) (⊎_elim (λ k. behind k) (λ k. before k) (lt_or_le u c))
      where
        behind : u < c → take (u - min c u) (drop (min c u) (fs ++ gs)) ≡ slice_range fs c u
        behind k =
            let e : u - u ≡ 0 = omega arith in
            let f : u - c ≡ 0 = omega arith in
            let q : u ≤ c = omega arith in
            rw (min-eq_right q, e, f)

        before : c ≤ u → take (u - min c u) (drop (min c u) (fs ++ gs)) ≡ slice_range fs c u
        before k = rw (min-eq_left k) (inside c (u - c) (omega arith))

    far : length fs < u
        → take (min u (length fs) - min c (min u (length fs))) (drop (min c (min u (length fs))) (fs ++ gs)) ≡ slice_range fs c u
    far h =
        let q : length fs ≤ u = omega arith in
        rw (min-eq_right q) (⊎_elim (λ k. behind k) (λ k. before k) (lt_or_le (length fs) c))
      where
        behind : length fs < c → take (length fs - min c (length fs)) (drop (min c (length fs)) (fs ++ gs)) ≡ slice_range fs c u
        behind k =
            let e : length fs - length fs ≡ 0 = omega arith in
            let q : length fs ≤ c = omega arith in
            rw (min-eq_right q, e, drop_of_length-le fs q, take-nil)

        before : c ≤ length fs → take (length fs - min c (length fs)) (drop (min c (length fs)) (fs ++ gs)) ≡ slice_range fs c u
        before k =
            let l = length-drop c fs in
            rw (min-eq_left k) (inside c (length fs - c) (omega arith) ∙ take_all (length fs - c) (drop c fs) (omega arith)
            ∙ sym (take_all (u - c) (drop c fs) (omega arith)))

-- ---- a DG found
abbrev pub own_of : ℕ → ℕ → List Item → List Item → Own
own_of nf c xs ys =
    record {
      begin = min c (min (up_to nf ys) nf);
      end = min (up_to nf ys) nf;
      first = tally level_cg.own xs;
      groups = length (groups_of ys);
    }

module _ (w : List ℕ) (n nf a c : ℕ) (xs ys : List Item) (long : n ≡ length (xs ++ (dg a c ∷ ys))) (few : n ≤ 1536)
    (h : Words w 0 (xs ++ (dg a c ∷ ys))) (once : occurs a (item_addresses (xs ++ (dg a c ∷ ys))) ≤ 1) where
  item_count : n ≡ length xs + 1 + length ys
  item_count = let e = length-append xs (dg a c ∷ ys) in omega arith

  past_index : past_dg a 0 (items_from w 0 (min n 1536)) ≡ length xs + 1
  past_index =
      let e = once in
      let f = occurs_split a a c xs ys in
      let g = same_yes a a refl in
      rw (min-eq_left few, long, items_back w 0 (xs ++ (dg a c ∷ ys)) h) (past-found a 0 c xs ys (omega arith) ∙ omega arith)

  rest-items : items_from w (length xs + 1) (length ys) ≡ ys
  rest-items =
      let v = words-rest w (0 + length xs) (dg a c) ys (words-after w 0 xs (dg a c ∷ ys) h) in
      let e : 0 + length xs + 1 ≡ length xs + 1 = omega arith in
      items_back w (length xs + 1) ys (rw e at v)

  own-mark : slice_index_or w (1535 + (length xs + 1)) 0 ≡ 2 + c
  own-mark =
      let e : 1535 + (length xs + 1) ≡ 1536 + (0 + length xs) = omega arith in
      rw e (words-mark w (0 + length xs) (dg a c) ys (words-after w 0 xs (dg a c ∷ ys) h))

  before_tally : tally level_cg.own (items_from w 0 (length xs + 1)) ≡ tally level_cg.own xs
  before_tally =
      let i = item_count in
      let all : items_from w 0 (length xs + 1 + length ys) ≡ xs ++ (dg a c ∷ ys) =
      rw (← i, long) (items_back w 0 (xs ++ (dg a c ∷ ys)) h) in
      let e : 0 + (length xs + 1) ≡ length xs + 1 = omega arith in
      let f : items_from w 0 (length xs + 1 + length ys) ≡ items_from w 0 (length xs + 1) ++ ys =
      items-append w 0 (length xs + 1) (length ys) ∙ rw (e, rest-items) in
      let g = ap (tally level_cg.own) (sym f ∙ all) in
      let p = tally-append (items_from w 0 (length xs + 1)) ys in
      let q = tally-append xs (dg a c ∷ ys) in
      let r = tally-dg a c ys in
      omega arith

  pub own-found : own_in w n nf a ≡ own_of nf c xs ys
  unfolding own_in own_past
  own-found =
      let i = item_count in
      let m : min n 1536 - (length xs + 1) ≡ length ys = rw (min-eq_left few) (omega arith) in
      let k : min (length xs + 1) (min n 1536) ≡ length xs + 1 = rw (min-eq_left few) (min-eq_left (omega arith)) in
      let e : 2 + c - 2 ≡ c = omega arith in
      rw (past_index, m, k, rest-items, own-mark, before_tally, e)

-- its groups, in the words that reading leaves
pub groups_found : (nf a c : ℕ) (xs ys : List Item) (ns l : List ℕ) → tally level_cg.own (xs ++ (dg a c ∷ ys)) ≤ 512 → 4096 ≤ length l
    → own_groups (blit counts_at ns (laid_items (xs ++ (dg a c ∷ ys)) l)) (own_of nf c xs ys) ≡ addresses (groups_of ys)
unfolding own_groups laid_items
groups_found nf a c xs ys ns l few long =
    let r = groups_first ys in
    let gs : List ℕ = addresses (groups_of ys) in
    let e : group_words (xs ++ (dg a c ∷ ys)) ≡ group_words xs ++ (gs ++ r.0) =
    groups_append xs (dg a c ∷ ys) ∙ rw (groups_dg a c ys, r.1) in
    let t : tally level_cg.own xs ≡ length (group_words xs) = sym (length_groups xs) in
    let g : 3072 + tally level_cg.own xs + length (groups_of ys) - (3072 + tally level_cg.own xs) ≡ length gs =
    let q = addresses-length (groups_of ys) in omega arith in
    let all = length_groups (xs ++ (dg a c ∷ ys)) in
    let al : length (group_words xs) + (length gs + length r.0) ≡ length (group_words (xs ++ (dg a c ∷ ys))) =
    sym (ap length e ∙ length-append (group_words xs) (gs ++ r.0) ∙ rw (length-append gs r.0)) in
    let room : 3072 + length (group_words xs ++ (gs ++ r.0)) ≤ 4096 = rw (← e) (omega arith) in
    rw g
    (part-blit_before ns 3584 (3072 + tally level_cg.own xs) (length gs) _ (omega arith)
    ∙ rw (t, e) (laid-part 3072 (group_words xs) gs r.0 _ (rw (length-blit, length-blit) (omega arith))))

-- its fragments, in words with all of them and others after them
pub fragments_found : (c : ℕ) (xs ys : List Item) (fs gs : List Fragment) (l : List ℕ) → 3 * length (fs ++ gs) ≤ length l
    → fragments_of (own_words (blit 0 (fragment_words (fs ++ gs)) l) (own_of (length fs) c xs ys)) ≡ part c (up_to (length fs) ys - c) fs
unfolding own_words
fragments_found c xs ys fs gs l h =
    let e : ℕ = min (up_to (length fs) ys) (length fs) in
    let b : ℕ = min c e in
    let p : b ≤ e = min-le_right c e in
    let q : e ≤ length fs = min-le_right (up_to (length fs) ys) (length fs) in
    let a = length-append fs gs in
    let m : 3 * e - 3 * b ≡ 3 * (e - b) = omega arith in
    ap (λ (k : ℕ). fragments_of (part (3 * b) k (blit 0 (fragment_words (fs ++ gs)) l))) m
    ∙ ap fragments_of (words-part b (e - b) (fs ++ gs) l (omega arith) h) ∙ words_back (part b (e - b) (fs ++ gs))
    ∙ cut-same c (up_to (length fs) ys) fs gs

-- ---- the DG of a recording among its items
pub record Found (fs : List Fragment) (is : List Item) (d : DataGroup) : Type 0 where
  pub before : List Item
  pub count : ℕ
  pub past : List Item
  pub all : before ++ (dg d.at count ∷ past) ≡ is
  pub fragments : part count (up_to (length fs) past - count) fs ≡ d.fragments
  pub groups : groups_of past ≡ d.groups

pub dg-found : (fs : List Fragment) (is : List Item) (d : DataGroup) → In d (data_groups_of fs is) → Found fs is d
unfolding data_groups_of
dg-found fs [] d i = elim i [ ]
dg-found fs (dg a n ∷ is) d here = record { before = []; count = n; past = is; all = refl; fragments = refl; groups = refl }
dg-found fs (dg a n ∷ is) d (there i) =
    let r = dg-found fs is d i in
    record {
      before = dg a n ∷ r.before;
      count = r.count;
      past = r.past;
      all = ap (λ (l : List Item). dg a n ∷ l) r.all;
      fragments = r.fragments;
      groups = r.groups;
    }
dg-found fs (cg a ∷ is) d i =
    let r = dg-found fs is d i in
    record {
      before = cg a ∷ r.before;
      count = r.count;
      past = r.past;
      all = ap (λ (l : List Item). cg a ∷ l) r.all;
      fragments = r.fragments;
      groups = r.groups;
    }
dg-found fs (cn a ∷ is) d i =
    let r = dg-found fs is d i in
    record {
      before = cn a ∷ r.before;
      count = r.count;
      past = r.past;
      all = ap (λ (l : List Item). cn a ∷ l) r.all;
      fragments = r.fragments;
      groups = r.groups;
    }

-- the groups of a DG stand at different addresses
pub groups_once : (x a c : ℕ) (xs ys : List Item) → occurs x (item_addresses (xs ++ (dg a c ∷ ys))) ≤ 1
    → occurs x (addresses (groups_of ys)) ≤ 1
groups_once x a c xs ys h = omega (arith, h, occurs_split x a c xs ys, groups_occur x ys)

-- what stands at an index occurs
in_at : {g : ℕ} (k : ℕ) (gs : List ℕ) → k < length gs → slice_index gs k ≡ g → 1 ≤ occurs g gs
unfolding occurs
in_at k [] l e = absurd (omega arith)
in_at {g} zero (x ∷ gs) l e = omega (arith, same_yes x g e)
in_at (suc k) (x ∷ gs) l e = omega (arith, in_at k gs (omega arith) e)

-- a group's number among groups at different addresses
pub number_same : (g k : ℕ) (gs : List ℕ) → k < length gs → slice_index gs k ≡ g → occurs g gs ≤ 1 → number_in g gs ≡ k
unfolding occurs
number_same g k [] l e h = absurd (omega arith)
number_same g zero (x ∷ gs) l e h = number_hit g x gs e
number_same g (suc k) (x ∷ gs) l e h =
    let i : occurs g gs ≤ 1 = omega arith in
    let r = number_same g k gs (omega arith) e i in
    let m = in_at k gs (omega arith) e in
    number-next g x gs (λ q. omega (arith, h, same_yes x g q, m)) ∙ ap suc r
