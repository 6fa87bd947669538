-- The words that hold what was met: one more block is two stores, for a CG three, and the addresses stand in front.
use Rattle.std.specs.Prelude.{ℕ, suc, ◌+◌, ◌≤◌, ◌<◌, List, [], ◌∷◌, ◌++◌, ◌≡◌, refl, length, set}
use Rattle.std.proofs.Common.{append-nil, sym, ◌∙◌, add-zero, zero-add, arith}
use Rattle.std.proofs.Math.Path.{ap}
use Rattle.std.proofs.Math.ListN.{take}
use Rattle.base.specs.Blit.{blit, part}
use Rattle.base.specs.BlitLaws.{length-blit, blit-append, blit-one, blit_comm, part-blit, part-blit_before}
use Rattle.mdf.specs.Chain.{is_in}
use Rattle.mdf.specs.Walk.{Item, dg, cg, cn, address, is_met, level_cg, tally, most_items}
use Rattle.reading.specs.Holding.{Stands}
use Rattle.work_words.specs.Words.{mark, address_words, mark_words, group_words, marks_at, groups_at, source_words, laid_items}

-- ---- one item more
pub address_snoc : (is : List Item) (i : Item) → address_words (is ++ (i ∷ [])) ≡ address_words is ++ (address i ∷ [])
unfolding address_words
address_snoc [] i = refl
address_snoc (j ∷ is) i = ap (◌∷◌ (address j)) (address_snoc is i)

pub mark_snoc : (is : List Item) (i : Item) → mark_words (is ++ (i ∷ [])) ≡ mark_words is ++ (mark i ∷ [])
unfolding mark_words
mark_snoc [] i = refl
mark_snoc (j ∷ is) i = ap (◌∷◌ (mark j)) (mark_snoc is i)

pub group-append : (is js : List Item) → group_words (is ++ js) ≡ group_words is ++ group_words js
unfolding group_words
group-append [] js = refl
group-append (dg a n ∷ is) js = group-append is js
group-append (cg a ∷ is) js = ap (◌∷◌ a) (group-append is js)
group-append (cn a ∷ is) js = group-append is js

pub tally-append : (own : Item → ℕ) (is js : List Item) → tally own (is ++ js) ≡ tally own is + tally own js
unfolding tally
tally-append own [] js = sym (zero-add _)
tally-append own (i ∷ is) js = let h = tally-append own is js in omega arith

pub tally_snoc : (own : Item → ℕ) (is : List Item) (i : Item) → tally own (is ++ (i ∷ [])) ≡ tally own is + own i
unfolding tally
tally_snoc own is i = tally-append own is (i ∷ []) ∙ rw add-zero

-- ---- lengths
pub length-addresses : (is : List Item) → length (address_words is) ≡ length is
unfolding address_words
length-addresses [] = refl
length-addresses (i ∷ is) = ap suc (length-addresses is)

pub length_marks : (is : List Item) → length (mark_words is) ≡ length is
unfolding mark_words
length_marks [] = refl
length_marks (i ∷ is) = ap suc (length_marks is)

pub length_groups : (is : List Item) → length (group_words is) ≡ tally level_cg.own is
unfolding group_words tally
length_groups [] = refl
length_groups (dg a n ∷ is) = length_groups is ∙ sym (zero-add _)
length_groups (cg a ∷ is) = let h = length_groups is in omega arith
length_groups (cn a ∷ is) = length_groups is ∙ sym (zero-add _)

pub length-laid : (is : List Item) (w : List ℕ) → length (laid_items is w) ≡ length w
unfolding laid_items
length-laid is w = simp length-blit

-- ---- stores
set_under : (i j x : ℕ) (ys l : List ℕ) → i < j → blit j ys (set l i x) ≡ set (blit j ys l) i x
unfolding blit
set_under i j x ys l h = sym (blit_comm (x ∷ []) i j ys l (omega arith))

pub blit_snoc : (i x : ℕ) (xs l : List ℕ) → blit i (xs ++ (x ∷ [])) l ≡ set (blit i xs l) (i + length xs) x
blit_snoc i x xs l = blit-append xs i (x ∷ []) l ∙ blit-one _ _ _

laid-over : (gs : List ℕ) (is : List Item) (i : Item) (w : List ℕ) → length is < marks_at
    → blit groups_at gs (blit marks_at (mark_words (is ++ (i ∷ []))) (blit 0 (address_words (is ++ (i ∷ []))) w))
    ≡ set (set (blit groups_at gs (blit marks_at (mark_words is) (blit 0 (address_words is) w))) (length is) (address i)) (marks_at + length is) (mark i)
laid-over gs is i w h =
    rw (
      address_snoc,
      mark_snoc,
      blit_snoc 0 (address i),
      blit_snoc marks_at (mark i),
      length-addresses,
      length_marks,
      zero-add,
      set_under (length is) marks_at (address i) (mark_words is) _ h,
      set_under (marks_at + length is) groups_at (mark i) gs _ (omega arith),
      set_under (length is) groups_at (address i) gs _ (omega arith),
    )

pub laid-dg : (a n : ℕ) (is : List Item) (w : List ℕ) → length is < marks_at
    → laid_items (is ++ (dg a n ∷ [])) w ≡ set (set (laid_items is w) (length is) a) (marks_at + length is) (2 + n)
unfolding laid_items group_words
laid-dg a n is w h = rw (group-append is (dg a n ∷ []), append-nil) (laid-over (group_words is) is (dg a n) w h)

pub laid-cn : (a : ℕ) (is : List Item) (w : List ℕ) → length is < marks_at
    → laid_items (is ++ (cn a ∷ [])) w ≡ set (set (laid_items is w) (length is) a) (marks_at + length is) 0
unfolding laid_items group_words
laid-cn a is w h = rw (group-append is (cn a ∷ []), append-nil) (laid-over (group_words is) is (cn a) w h)

pub laid-cg : (a : ℕ) (is : List Item) (w : List ℕ) → length is < marks_at
    → laid_items (is ++ (cg a ∷ [])) w
    ≡ set (set (set (laid_items is w) (length is) a) (marks_at + length is) 1) (groups_at + tally level_cg.own is) a
unfolding laid_items group_words
laid-cg a is w h =
    rw (group-append is (cg a ∷ []), blit_snoc groups_at a, length_groups, laid-over (group_words is) is (cg a) w h)

-- ---- the addresses that were met
pub front-laid : (is : List Item) (w : List ℕ) → length is ≤ marks_at → source_words ≤ length w → take (length is) (laid_items is w) ≡ address_words is
unfolding laid_items part
front-laid is w h l =
    let n : length (address_words is) ≡ length is = length-addresses is in
    part-blit_before (group_words is) groups_at 0 (length is) _ (omega arith)
    ∙ part-blit_before (mark_words is) marks_at 0 (length is) _ (omega arith)
    ∙ (rw n at (part-blit 0 (address_words is) w (omega arith)))

pub met_addresses : (a : ℕ) (is : List Item) → is_in a (address_words is) ≡ is_met a is
unfolding is_in is_met address_words
met_addresses a [] = refl
met_addresses a (i ∷ is) = rw (met_addresses a is)

-- ---- what stands in the words
module _ (is : List Item) (w : List ℕ) (h : length is ≤ marks_at) (l : source_words ≤ length w) where
  pub addresses-stand : Stands (laid_items is w) 0 (address_words is)
  unfolding part address_words
  addresses-stand = record { is = ap (λ (k : ℕ). take k (laid_items is w)) (length-addresses is) ∙ front-laid is w h l }

  pub marks_stand : Stands (laid_items is w) marks_at (mark_words is)
  unfolding laid_items
  marks_stand =
      let n = length_marks is in
      record {
        is = part-blit_before (group_words is) groups_at marks_at (length (mark_words is)) _ (omega arith)
            ∙ part-blit marks_at (mark_words is) _ (simp length-blit (omega arith));
      }

  pub groups_stand : tally level_cg.own is ≤ most_items → Stands (laid_items is w) groups_at (group_words is)
  unfolding laid_items
  groups_stand g = let n = length_groups is in record { is = part-blit groups_at (group_words is) _ (simp length-blit (omega arith)) }
