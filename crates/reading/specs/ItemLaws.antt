-- The items of one DG: those up to the next DG.
use Rattle.std.specs.Prelude.{ℕ, zero, suc, ◌*◌, ◌≤◌, List, [], ◌∷◌, ◌++◌, ◌≡◌, refl, length, take, drop}
use Rattle.std.proofs.Common.{sym, ap, le_trans, le_refl, arith}
use Rattle.std.proofs.Math.Seq.{drop-nil, take-nil}
use Rattle.base.specs.ChoiceLaws.{lt_yes, lt_no}
use Rattle.base.specs.Blit.{part}
use Rattle.mdf.specs.Chain.{Fragment}
use Rattle.mdf.specs.Walk.{Item, dg, cg, cn, level_cg, tally}
use Rattle.mdf.specs.Group.{addresses, groups_of, up_to, data_groups_of}
use Rattle.work_words.specs.Words.{kind_word, address_words, mark_words, group_words, fragment_words}
use Rattle.reading.specs.Sound.{Rising, none, next-dg, next-cg, next-cn, Starts, empty, first-dg}
use Rattle.reading.specs.Spans.{own_marks, own_groups}

pub address-append : (is js : List Item) → address_words (is ++ js) ≡ address_words is ++ address_words js
unfolding address_words
address-append [] js = refl
address-append (i ∷ is) js = rw (address-append is js)

pub mark-append : (is js : List Item) → mark_words (is ++ js) ≡ mark_words is ++ mark_words js
unfolding mark_words
mark-append [] js = refl
mark-append (i ∷ is) js = rw (mark-append is js)

-- the items up to the next DG, and those from it on
unfoldable pub own : List Item → List Item
own [] = []
own (dg a n ∷ is) = []
own (cg a ∷ is) = cg a ∷ own is
own (cn a ∷ is) = cn a ∷ own is

unfoldable pub later : List Item → List Item
later [] = []
later (dg a n ∷ is) = dg a n ∷ is
later (cg a ∷ is) = later is
later (cn a ∷ is) = later is

pub own-later : (is : List Item) → is ≡ own is ++ later is
unfolding own later
own-later [] = refl
own-later (dg a n ∷ is) = refl
own-later (cg a ∷ is) = ap (◌∷◌ (cg a)) (own-later is)
own-later (cn a ∷ is) = ap (◌∷◌ (cn a)) (own-later is)

pub own_marks_lem : (is : List Item) → own_marks (mark_words is) ≡ length (own is)
unfolding own own_marks mark_words
own_marks_lem [] = refl
own_marks_lem (dg a n ∷ is) = sym (lt_yes _ _ _ _ (omega arith) refl)
own_marks_lem (cg a ∷ is) = let h = own_marks_lem is in sym (lt_no _ _ _ _ (omega arith) (omega arith))
own_marks_lem (cn a ∷ is) = let h = own_marks_lem is in sym (lt_no _ _ _ _ (omega arith) (omega arith))

pub own_groups_lem : (is : List Item) → own_groups (mark_words is) ≡ tally level_cg.own (own is)
unfolding own own_groups mark_words tally
own_groups_lem [] = refl
own_groups_lem (dg a n ∷ is) = sym (lt_yes _ _ _ _ (omega arith) refl)
own_groups_lem (cg a ∷ is) = let h = own_groups_lem is in sym (lt_no _ _ _ _ (omega arith) (omega arith))
own_groups_lem (cn a ∷ is) = let h = own_groups_lem is in sym (lt_no _ _ _ _ (omega arith) (omega arith))

pub later-starts : (is : List Item) → Starts (later is)
unfolding later
later-starts [] = empty
later-starts (dg a n ∷ is) = first-dg
later-starts (cg a ∷ is) = later-starts is
later-starts (cn a ∷ is) = later-starts is

pub later_groups : (fs : List Fragment) (is : List Item) → data_groups_of fs is ≡ data_groups_of fs (later is)
unfolding data_groups_of later
later_groups fs [] = refl
later_groups fs (dg a n ∷ is) = refl
later_groups fs (cg a ∷ is) = later_groups fs is
later_groups fs (cn a ∷ is) = later_groups fs is

pub later_up_to : (all : ℕ) (is : List Item) → up_to all is ≡ up_to all (later is)
unfolding up_to later
later_up_to all [] = refl
later_up_to all (dg a n ∷ is) = refl
later_up_to all (cg a ∷ is) = later_up_to all is
later_up_to all (cn a ∷ is) = later_up_to all is

pub own-addresses : (is : List Item) → addresses (groups_of is) ≡ group_words (own is)
unfolding addresses groups_of own group_words
own-addresses [] = refl
own-addresses (dg a n ∷ is) = refl
own-addresses (cg a ∷ is) = ap (◌∷◌ a) (own-addresses is)
own-addresses (cn a ∷ is) = own-addresses is

pub later_rising : {lo hi : ℕ} {is : List Item} → Rising lo is hi → Rising lo (later is) hi
unfolding later
later_rising (none h) = none h
later_rising (next-dg h r) = next-dg h r
later_rising (next-cg r) = later_rising r
later_rising (next-cn r) = later_rising r

-- the fragments before the next DG are no fewer than lo, and no more than all
pub rising_least : {lo hi : ℕ} {is : List Item} → Rising lo is hi → lo ≤ up_to hi is
unfolding up_to
rising_least (none h) = h
rising_least (next-dg h r) = h
rising_least (next-cg r) = rising_least r
rising_least (next-cn r) = rising_least r

pub rising_most : {lo hi : ℕ} {is : List Item} → Rising lo is hi → up_to hi is ≤ hi
unfolding up_to
rising_most (none h) = le_refl _
rising_most (next-dg h r) = le_trans (rising_least r) (rising_most r)
rising_most (next-cg r) = rising_most r
rising_most (next-cn r) = rising_most r

-- ---- the words of some of the fragments
drop_fragments : (k : ℕ) (fs : List Fragment) → drop (3 * k) (fragment_words fs) ≡ fragment_words (drop k fs)
unfolding fragment_words
drop_fragments zero fs = refl
drop_fragments (suc k) [] = drop-nil (3 * suc k)
drop_fragments (suc k) (f ∷ fs) = let e : 3 * suc k ≡ suc (suc (suc (3 * k))) = omega arith in rw e (drop_fragments k fs)

take_fragments : (k : ℕ) (fs : List Fragment) → take (3 * k) (fragment_words fs) ≡ fragment_words (take k fs)
unfolding fragment_words
take_fragments zero fs = refl
take_fragments (suc k) [] = take-nil (3 * suc k)
take_fragments (suc k) (f ∷ fs) =
    let e : 3 * suc k ≡ suc (suc (suc (3 * k))) = omega arith in
    rw e (ap (λ (l : List ℕ). f.offset ∷ f.size ∷ kind_word f.kind ∷ l) (take_fragments k fs))

pub part_fragments : (i k : ℕ) (fs : List Fragment) → part (3 * i) (3 * k) (fragment_words fs) ≡ fragment_words (part i k fs)
unfolding part
part_fragments i k fs = rw drop_fragments (take_fragments k (drop i fs))
