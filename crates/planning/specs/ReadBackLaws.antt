-- What reading kept, out of its words: blocks and counts.
use Prim.Native.Nat.{ℕ, suc, ◌+◌, ◌-◌, ◌≤◌, ◌<◌}
use Rattle.std.specs.Prelude.{List, [], ◌∷◌, ◌≡◌, refl, length, get_or}
use Rattle.std.proofs.Common.{ap, ◌∙◌, add-zero}
use native.Mathlib.Omega.{arith}
use Rattle.base.specs.Blit.{blit}
use Rattle.base.specs.BlitLaws.{length-blit}
use Rattle.mdf.specs.Chain.{Fragment}
use Rattle.mdf.specs.Walk.{Item, dg, cg, cn, address, level_dg, level_cg, level_cn, tally}
use Rattle.mdf.specs.Group.{groups_of, data_groups_of}
use Rattle.work_words.specs.Words.{mark, address_words, mark_words, group_words, laid_items, marks_at, counts_at}
use Rattle.plan_laws.specs.WalkLaws.{Open}
use Rattle.plan_laws.specs.GroupLaws.{group_count}
use Rattle.planning.specs.Items.{item, items_from}
use Rattle.planning.specs.ItemLaws.{item-cn, item-cg, item-dg}
use Rattle.planning.specs.TimeWordLaws.{blit_before, blit_among}
use Rattle.planning.specs.FlatLaws.{Counts}

length-addresses : (is : List Item) → length (address_words is) ≡ length is
unfolding address_words
length-addresses [] = refl
length-addresses (i ∷ is) = ap suc (length-addresses is)

length_marks : (is : List Item) → length (mark_words is) ≡ length is
unfolding mark_words
length_marks [] = refl
length_marks (i ∷ is) = ap suc (length_marks is)

length_groups : (is : List Item) → length (group_words is) ≡ tally level_cg.own is
unfolding group_words tally
length_groups [] = refl
length_groups (dg a n ∷ is) = let h = length_groups is in omega arith
length_groups (cg a ∷ is) = let h = length_groups is in omega arith
length_groups (cn a ∷ is) = let h = length_groups is in omega arith

length-items : (is : List Item) → length is ≡ tally level_dg.own is + tally level_cg.own is + tally level_cn.own is
unfolding tally
length-items [] = refl
length-items (dg a n ∷ is) = let h = length-items is in omega arith
length-items (cg a ∷ is) = let h = length-items is in omega arith
length-items (cn a ∷ is) = let h = length-items is in omega arith

-- as many groups as CG
pub groups_counted : (fs : List Fragment) (is : List Item) → group_count (data_groups_of fs is) + length (groups_of is) ≡ tally level_cg.own is
unfolding group_count data_groups_of groups_of tally
groups_counted fs [] = refl
groups_counted fs (dg a n ∷ is) = let h = groups_counted fs is in omega arith
groups_counted fs (cg a ∷ is) = let h = groups_counted fs is in omega arith
groups_counted fs (cn a ∷ is) = let h = groups_counted fs is in omega arith

pub open_groups : (is : List Item) → Open is → length (groups_of is) ≡ 0
unfolding groups_of
open_groups [] o = refl
open_groups (dg a n ∷ is) o = refl
open_groups (cg a ∷ is) o = absurd o
open_groups (cn a ∷ is) o = absurd o

-- ---- an item from its mark and address
item_back : (i : Item) → item (mark i) (address i) ≡ i
item_back (dg a n) =
    let e : 2 + n - 2 ≡ n = omega arith in
    item-dg (2 + n) a (λ z. omega (arith, z)) (λ z. omega (arith, z)) ∙ ap (dg a) e
item_back (cg a) = item-cg 1 a refl
item_back (cn a) = item-cn 0 a refl

-- words at two places, from item k on
pub record Words (w : List ℕ) (k : ℕ) (is : List Item) : Type 0 where
  pub addresses : (j : ℕ) → j < length is → get_or w (k + j) 0 ≡ get_or (address_words is) j 0
  pub marks : (j : ℕ) → j < length is → get_or w (marks_at + (k + j)) 0 ≡ get_or (mark_words is) j 0

module _ (w : List ℕ) (k : ℕ) (i : Item) (is : List Item) (h : Words w k (i ∷ is)) where
  first-address : get_or w k 0 ≡ address i
  unfolding address_words
  first-address = rw (add-zero k) at (h.addresses 0 (omega arith))

  first-mark : get_or w (marks_at + k) 0 ≡ mark i
  unfolding mark_words
  first-mark = rw (add-zero k) at (h.marks 0 (omega arith))

  rest-words : Words w (k + 1) is
  unfolding address_words mark_words
  rest-words =
      record {
        addresses = λ j l. let e : k + 1 + j ≡ k + suc j = omega arith in rw e (h.addresses (suc j) (omega arith));
        marks = λ j l. let e : k + 1 + j ≡ k + suc j = omega arith in rw e (h.marks (suc j) (omega arith));
      }

pub items_back : (w : List ℕ) (k : ℕ) (is : List Item) → Words w k is → items_from w k (length is) ≡ is
unfolding items_from
items_back w k [] h = refl
items_back w k (i ∷ is) h =
    rw (first-mark w k i is h, first-address w k i is h, item_back i, items_back w (k + 1) is (rest-words w k i is h))

-- ---- the words that reading leaves
module _ (is : List Item) (ns w : List ℕ) (long : 4096 ≤ length w) (few : length is ≤ 1536) (few_cg : tally level_cg.own is ≤ 512) (few_counts : length ns ≤ 512) where
  pub laid-items : Words (blit counts_at ns (laid_items is w)) 0 is
  unfolding laid_items
  laid-items =
      let a = length-addresses is in
      let m = length_marks is in
      let g = length_groups is in
      record {
        addresses = λ j l.
            blit_before ns 3584 (0 + j) _ (omega arith) ∙ blit_before (group_words is) 3072 (0 + j) _ (omega arith)
            ∙ blit_before (mark_words is) 1536 (0 + j) _ (omega arith) ∙ blit_among (address_words is) 0 j w (omega arith) (omega arith);
        marks = λ j l.
            let e : 1536 + (0 + j) ≡ 1536 + j = omega arith in
            rw e
            (blit_before ns 3584 (1536 + j) _ (omega arith) ∙ blit_before (group_words is) 3072 (1536 + j) _ (omega arith)
            ∙ blit_among (mark_words is) 1536 j (blit 0 (address_words is) w) (omega arith) (rw length-blit (omega arith)));
      }

  pub laid-counts : Counts (blit counts_at ns (laid_items is w)) ns
  unfolding laid_items
  laid-counts = record { at = λ j l. blit_among ns 3584 j _ l (rw (length-blit, length-blit, length-blit) (omega arith)) }

pub few-items : (is : List Item) → tally level_dg.own is ≤ 512 → tally level_cg.own is ≤ 512 → tally level_cn.own is ≤ 512 → length is ≤ 1536
few-items is a b c = let h = length-items is in omega arith
