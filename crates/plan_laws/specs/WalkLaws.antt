-- What the walk has met: every address once and none 0, every block checked, within the limits.
use Prim.{Unit, tt}
use Rattle.std.specs.Prelude.{ℕ, zero, suc, ◌+◌, ◌≤◌, ◌<◌, ◌≡◌, true, false, ◌⊎◌, length, eqb}
use mathlib.Core.List.{List, [], ◌∷◌, ◌++◌}
use Rattle.std.proofs.Math.Path.{refl, subst}
use Rattle.std.proofs.Common.{sym, ap, ◌∙◌, inl, inr, arith, length-append}
use Rattle.std.proofs.lemmas.Bool.{eqb-false}
use Rattle.base.specs.ChoiceLaws.{lt_first}
use Rattle.base.specs.Checked.{Checked, ok, fine}
use Rattle.mdf.specs.Block.{HD, DG, CG, CN, link_at, block_at}
use Rattle.mdf.specs.Name.{name_at}
use Rattle.mdf.specs.Chain.{Chain.records, Found, found, stopped, Limits, limits, chain}
use Rattle.mdf.specs.Walk.{Item, dg, cg, cn, address, Source, source, is_met, Level, level_dg, level_cg, level_cn, tally, visit, entered, level, turns, below_cn, below_cg, id_size_in, with_found, below_dg, walk_of, walk}
use Rattle.result.specs.Guarantee.{In}
use Rattle.plan_laws.specs.Answers.{refused≢ok, ok_same, with_ok, pick_no, eq_cases, pick_cases, or_not}
use Rattle.plan_laws.specs.Lists.{in_cases, in_one, in_none, same, same_yes, same_no, occurs, occurs-append}
use Rattle.plan_laws.specs.ChainLaws.{chain_fits}

unfoldable pub item_addresses : List Item → List ℕ
item_addresses [] = []
item_addresses (i ∷ is) = address i ∷ item_addresses is

-- the block of an item passed the checks of its kind
abbrev pub ItemFine : List ℕ → Item → Type 0
ItemFine s (dg a n) = block_at DG s a ≡ fine
ItemFine s (cg a) = block_at CG s a ≡ fine
ItemFine s (cn a) = block_at CN s a ≡ fine

pub record SoundOf (l : Limits) (s : List ℕ) (st : Source) : Type 0 where
  pub once : (a : ℕ) → occurs a (item_addresses st.items) ≤ 1
  pub nonzero : occurs 0 (item_addresses st.items) ≡ 0
  pub checked : (i : Item) → In i st.items → ItemFine s i
  pub few_dg : tally level_dg.own st.items ≤ 512
  pub few_cg : tally level_cg.own st.items ≤ 512
  pub few_cn : tally level_cn.own st.items ≤ 512
  pub few_fragments : length st.fragments ≤ l.fragments

-- of a recording's
abbrev pub Sound : List ℕ → Source → Type 0
Sound s st = SoundOf limits s st

-- ---- one more item
addresses-append : (is js : List Item) → item_addresses (is ++ js) ≡ item_addresses is ++ item_addresses js
unfolding item_addresses
addresses-append [] js = refl
addresses-append (i ∷ is) js = ap (λ (l : List ℕ). address i ∷ l) (addresses-append is js)

tally-append : (own : Item → ℕ) (is js : List Item) → tally own (is ++ js) ≡ tally own is + tally own js
unfolding tally
tally-append own [] js = omega arith
tally-append own (i ∷ is) js = omega (arith, tally-append own is js)

not_met : (a : ℕ) (is : List Item) → is_met a is ≡ false → occurs a (item_addresses is) ≡ 0
unfolding is_met item_addresses occurs
not_met a [] e = refl
not_met a (i ∷ is) e =
    pick_cases (eqb (address i) a) true (is_met a is) e
    (λ _ q. let z : ◌≡◌ {A = ℕ} 0 1 = cc in absurd (omega arith))
    (λ n q. omega (arith, not_met a is q, same_no (address i) a (eqb-false (address i) a n)))

pub record Visited (k : Level) (s : List ℕ) (st : Source) (a : ℕ) : Type 0 where
  pub unmet : is_met a st.items ≡ false
  pub block : block_at k.wanted s a ≡ fine
  pub room : tally k.own st.items < 512

visit-fine : (k : Level) (s : List ℕ) (st : Source) (a : ℕ) → visit k s st a ≡ fine → Visited k s st a
unfolding visit
visit-fine k s st a e =
    let p = pick_no (is_met a st.items) 11 a _ e in
    with_ok (block_at k.wanted s a) _ p.1 (λ _ b q.
    record { unmet = p.0; block = b; room = (lt_first _ _ _ _ q refused≢ok).0 })

occurs-more : (b : ℕ) (is : List Item) (i : Item) → occurs b (item_addresses (is ++ (i ∷ []))) ≡ occurs b (item_addresses is) + same (address i) b
unfolding item_addresses occurs
occurs-more b is i = ap (occurs b) (addresses-append is (i ∷ [])) ∙ occurs-append b (item_addresses is) (address i ∷ []) ∙ omega arith

tally-more : (own : Item → ℕ) (is : List Item) (i : Item) → tally own (is ++ (i ∷ [])) ≡ tally own is + own i
unfolding tally
tally-more own is i = tally-append own is (i ∷ []) ∙ omega arith

module _ (l : Limits) (s : List ℕ) (st : Source) (i : Item) (h : SoundOf l s st) (nonzero : address i ≡ 0 → ⊥) (unmet : is_met (address i) st.items ≡ false) where
  item-more : ItemFine s i
      → tally level_dg.own st.items + level_dg.own i ≤ 512 → tally level_cg.own st.items + level_cg.own i ≤ 512
      → tally level_cn.own st.items + level_cn.own i ≤ 512 → SoundOf l s (source (st.items ++ (i ∷ [])) st.fragments)
  item-more fine d g n =
      record {
        once = λ b. rw (occurs-more b st.items i) (one b);
        nonzero = rw (occurs-more 0 st.items i) (omega (arith, h.nonzero, same_no (address i) 0 nonzero));
        checked = λ j m. each j (in_cases st.items m);
        few_dg = rw (tally-more level_dg.own st.items i) d;
        few_cg = rw (tally-more level_cg.own st.items i) g;
        few_cn = rw (tally-more level_cn.own st.items i) n;
        few_fragments = h.few_fragments;
      }
    where
      one : (b : ℕ) → occurs b (item_addresses st.items) + same (address i) b ≤ 1
      one b =
          or_not (address i) b
          (λ e. let z : occurs b (item_addresses st.items) ≡ 0 = rw e at (not_met (address i) st.items unmet) in
          omega (arith, same_yes (address i) b e))
          (λ e. omega (arith, h.once b, same_no (address i) b e))

      each : (j : Item) → In j st.items ⊎ In j (i ∷ []) → ItemFine s j
      each j (inl m) = h.checked j m
      each j (inr m) = subst (ItemFine s) (sym (in_one m)) fine

module _ (l : Limits) (s : List ℕ) (st : Source) (a : ℕ) (nonzero : a ≡ 0 → ⊥) where
  enter_dg : SoundOf l s st → visit level_dg s st a ≡ fine → SoundOf l s (entered level_dg a st)
  unfolding entered
  enter_dg h e =
      let v = visit-fine level_dg s st a e in
      item-more l s st (dg a (length st.fragments)) h nonzero v.unmet v.block (omega (arith, v.room)) (omega (arith, h.few_cg)) (omega (arith, h.few_cn))

  enter_cg : SoundOf l s st → visit level_cg s st a ≡ fine → SoundOf l s (entered level_cg a st)
  unfolding entered
  enter_cg h e =
      let v = visit-fine level_cg s st a e in
      item-more l s st (cg a) h nonzero v.unmet v.block (omega (arith, h.few_dg)) (omega (arith, v.room)) (omega (arith, h.few_cn))

  enter_cn : SoundOf l s st → visit level_cn s st a ≡ fine → SoundOf l s (entered level_cn a st)
  unfolding entered
  enter_cn h e =
      let v = visit-fine level_cn s st a e in
      item-more l s st (cn a) h nonzero v.unmet v.block (omega (arith, h.few_dg)) (omega (arith, h.few_cg)) (omega (arith, v.room))

-- ---- the first item of a walk is a DG
abbrev pub Opened : List Item → Type 0
Opened [] = ⊥
Opened (dg a n ∷ is) = Unit {0}
Opened (cg a ∷ is) = ⊥
Opened (cn a ∷ is) = ⊥

abbrev pub Open : List Item → Type 0
Open [] = Unit {0}
Open (dg a n ∷ is) = Unit {0}
Open (cg a ∷ is) = ⊥
Open (cn a ∷ is) = ⊥

opened-more : (is js : List Item) → Opened is → Opened (is ++ js)
opened-more [] js h = absurd h
opened-more (dg a n ∷ is) js h = tt
opened-more (cg a ∷ is) js h = absurd h
opened-more (cn a ∷ is) js h = absurd h

open_dg : (is : List Item) (a n : ℕ) → Open is → Opened (is ++ (dg a n ∷ []))
open_dg [] a n h = tt
open_dg (dg b m ∷ is) a n h = tt
open_dg (cg b ∷ is) a n h = absurd h
open_dg (cn b ∷ is) a n h = absurd h

open_opened : (is : List Item) → Opened is → Open is
open_opened [] h = tt
open_opened (dg a n ∷ is) h = tt
open_opened (cg a ∷ is) h = absurd h
open_opened (cn a ∷ is) h = absurd h

-- ---- one level: P holds between blocks, Q after a block is entered
pub level_keeps : (P Q : Source → Type 0) (k : Level) (below : ℕ → Source → Checked Source) (s : List ℕ)
    → ((a : ℕ) (st : Source) → (a ≡ 0 → ⊥) → P st → visit k s st a ≡ fine → Q (entered k a st))
    → ((a : ℕ) (st st' : Source) → Q st → below a st ≡ ok st' → P st')
    → (turns a : ℕ) (st st' : Source) → P st → level k below turns s a st ≡ ok st' → P st'
unfolding level
level_keeps P Q k below s enter under zero a st st' h e = absurd (refused≢ok e)
level_keeps P Q k below s enter under (suc turns) a st st' h e =
    eq_cases a 0 _ _ e (λ _ q. subst P (ok_same q) h) (λ n q.
    with_ok (visit k s st a) _ q (λ _ v q.
    with_ok (below a (entered k a st)) _ q (λ st2 b q.
    level_keeps P Q k below s enter under turns (link_at s a 0) st2 st' (under a (entered k a st) st2 (enter a st n h v) b) q)))

pub record SoundIn (l : Limits) (s : List ℕ) (st : Source) : Type 0 where
  pub sound : SoundOf l s st
  pub opened : Opened st.items

pub record SoundAt (l : Limits) (s : List ℕ) (st : Source) : Type 0 where
  pub sound : SoundOf l s st
  pub opening : Open st.items

module _ (l : Limits) (s : List ℕ) where
  below-cn : (a : ℕ) (st st' : Source) → SoundIn l s st → below_cn s a st ≡ ok st' → SoundIn l s st'
  unfolding below_cn
  below-cn a st st' h e = with_ok (name_at s (link_at s a 2)) _ e (λ _ _ q. subst (SoundIn l s) (ok_same q) h)

  below-cg : (a : ℕ) (st st' : Source) → SoundIn l s st → below_cg s a st ≡ ok st' → SoundIn l s st'
  unfolding below_cg entered
  below-cg a st st' h e =
      with_ok (name_at s (link_at s a 2)) _ e (λ _ _ q.
      level_keeps (SoundIn l s) (SoundIn l s) level_cn (below_cn s) s
      (λ a st n h v. record { sound = enter_cn l s st a n h.sound v; opened = opened-more st.items _ h.opened })
      below-cn turns (link_at s a 1) st st' h q)

  fragments_more : (v : Found) (st st' : Source) (a : ℕ) → SoundIn l s st → chain records l s (length st.fragments) a ≡ v
      → with_found v st ≡ ok st' → SoundIn l s st'
  fragments_more (found fs) st st' a h c e =
      subst (SoundIn l s) (ok_same e) (record {
        sound = record {
          once = h.sound.once;
          nonzero = h.sound.nonzero;
          checked = h.sound.checked;
          few_dg = h.sound.few_dg;
          few_cg = h.sound.few_cg;
          few_cn = h.sound.few_cn;
          few_fragments = rw length-append (chain_fits records l s (length st.fragments) a fs h.sound.few_fragments c);
        };
        opened = h.opened;
      })
  fragments_more (stopped n p fs) st st' a h c e = absurd (refused≢ok e)

  below-dg : (a : ℕ) (st st' : Source) → SoundIn l s st → below_dg l s a st ≡ ok st' → SoundAt l s st'
  unfolding below_dg entered
  below-dg a st st' h e =
      with_ok (with_found (chain records l s (length st.fragments) (link_at s a 2)) st) _ e (λ st2 f q.
      with_ok (id_size_in s a) _ q (λ _ _ q.
      let r = level_keeps (SoundIn l s) (SoundIn l s) level_cg (below_cg s) s
      (λ a st n h v. record { sound = enter_cg l s st a n h.sound v; opened = opened-more st.items _ h.opened })
      below-cg turns (link_at s a 1) st2 st' (fragments_more _ st st2 (link_at s a 2) h refl f) q in
      record { sound = r.sound; opening = open_opened st'.items r.opened }))

  nothing : SoundAt l s (source [] [])
  unfolding occurs item_addresses tally
  nothing =
      record {
        sound = record {
          once = λ a. omega arith;
          nonzero = refl;
          checked = λ i m. absurd (in_none m);
          few_dg = omega arith;
          few_cg = omega arith;
          few_cn = omega arith;
          few_fragments = omega arith;
        };
        opening = tt;
      }

  walk_of_sound-at : (st : Source) → walk_of l s ≡ ok st → SoundAt l s st
  unfolding walk_of entered
  walk_of_sound-at st e =
      with_ok (block_at HD s 64) _ e (λ _ _ q.
      level_keeps (SoundAt l s) (SoundIn l s) level_dg (below_dg l s) s
      (λ a st n h v. record { sound = enter_dg l s st a n h.sound v; opened = open_dg st.items a _ h.opening })
      below-dg turns (link_at s 64 0) (source [] []) st nothing q)

  -- the whole walk
  pub walk_of_sound : (st : Source) → walk_of l s ≡ ok st → SoundOf l s st
  walk_of_sound st e = (walk_of_sound-at st e).sound

  -- its first item, if any, is a DG
  pub walk_of_open : (st : Source) → walk_of l s ≡ ok st → Open st.items
  walk_of_open st e = (walk_of_sound-at st e).opening

-- a recording's
pub walk-sound : (s : List ℕ) (st : Source) → walk s ≡ ok st → Sound s st
walk-sound s st e = walk_of_sound limits s st e

pub walk_open : (s : List ℕ) (st : Source) → walk s ≡ ok st → Open st.items
walk_open s st e = walk_of_open limits s st e
