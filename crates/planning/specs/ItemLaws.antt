-- Laws of the items and groups in words.
use Rattle.std.specs.Prelude.{ℕ, suc, ◌+◌, ◌-◌, ◌≤◌, ◌<◌, List, [], ◌∷◌, ◌≡◌, refl, Bool, true, false, drop, eqb, Some, None}
use Rattle.std.proofs.Math.Option.{some}
use Rattle.std.proofs.Math.Path.{sym, ap}
use Rattle.std.proofs.Common.{◌∙◌, eqb-true, drop-drop}
use native.Mathlib.Omega.{arith}
use Rattle.std.proofs.lemmas.Bool.{eqb-false}
use Rattle.std.proofs.Math.ListN.{get_or}
use Rattle.std.proofs.Math.Seq.{get_or-drop}
use Rattle.base.specs.ChoiceLaws.{eq_yes, eq_no}
use Rattle.mdf.specs.Walk.{Item, dg, cg, cn}
use Rattle.mdf.specs.Group.{channels_of}
use Rattle.plan.specs.Columns.{SrcGroup, group_at, stand_in}
use Rattle.planning.specs.Items.{item, items_from, group_of, flat, groups_in, groups_from, channels_in, sought_in, word_of, FoundGroup}

-- ---- an item by its mark
pub item-cn : (m a : ℕ) → m ≡ 0 → item m a ≡ cn a
unfolding item
item-cn m a h = sym (eq_yes _ _ _ _ h refl)

pub item-cg : (m a : ℕ) → m ≡ 1 → item m a ≡ cg a
unfolding item
item-cg m a h = sym (eq_no _ _ _ _ (λ z. omega (arith, z)) (eq_yes _ _ _ _ h refl))

pub item-dg : (m a : ℕ) → (m ≡ 0 → ⊥) → (m ≡ 1 → ⊥) → item m a ≡ dg a (m - 2)
unfolding item
item-dg m a h k = sym (eq_no _ _ _ _ h (eq_no _ _ _ _ k refl))

-- the next item
pub items_open : (w : List ℕ) (i n : ℕ) {m a : ℕ} → m ≡ get_or w (1536 + i) 0 → a ≡ get_or w i 0 → i < n
    → items_from w i (n - i) ≡ item m a ∷ items_from w (i + 1) (n - (i + 1))
unfolding items_from
items_open w i n {m} {a} p q h = go (n - i) (omega arith)
  where
    go : (k : ℕ) → k ≡ suc (n - (i + 1)) → items_from w i k ≡ item m a ∷ items_from w (i + 1) (n - (i + 1))
    go k e = rw (e, p, q)

-- ---- the search for a group: what is left gives what the whole gives
pub record Finding (w : List ℕ) (n a i g d : ℕ) : Type 0 where
  pub room : i ≤ n
  pub few : g ≤ i
  pub rest : group_at a (flat w d g (items_from w i (n - i))) ≡ group_at a (groups_in w n)
  pub stands : (bys : List ℕ) → stand_in a (flat w d g (items_from w i (n - i))) (drop g bys) ≡ stand_in a (groups_in w n) bys

pub find_begin : {w : List ℕ} {n a : ℕ} → Finding w n a 0 0 0
unfolding groups_in
find_begin {n = n} = let e : n - 0 ≡ n = omega arith in record { room = omega arith; few = omega arith; rest = rw e; stands = λ bys. rw e }

group_hit : (a : ℕ) (g : SrcGroup) (gs : List SrcGroup) → g.at ≡ a → group_at a (g ∷ gs) ≡ some g
unfolding group_at
group_hit a g gs h = sym (eq_yes _ _ _ _ h refl)

group_pass : (a : ℕ) (g : SrcGroup) (gs : List SrcGroup) → (g.at ≡ a → ⊥) → group_at a (g ∷ gs) ≡ group_at a gs
unfolding group_at
group_pass a g gs h = sym (eq_no _ _ _ _ h refl)

stand-none : (a : ℕ) (bys : List ℕ) → stand_in a [] bys ≡ 0
unfolding stand_in
stand-none a bys = refl

stand-past : (a : ℕ) (gs : List SrcGroup) → stand_in a gs [] ≡ 0
unfolding stand_in
stand-past a [] = refl
stand-past a (g ∷ gs) = refl

stand_hit : (a : ℕ) (g : SrcGroup) (gs : List SrcGroup) (bys : List ℕ) → g.at ≡ a → stand_in a (g ∷ gs) bys ≡ get_or bys 0 0
unfolding stand_in
stand_hit a g gs [] h = refl
stand_hit a g gs (b ∷ bys) h = sym (eq_yes _ _ _ _ h refl)

stand_pass : (a : ℕ) (g : SrcGroup) (gs : List SrcGroup) (bys : List ℕ) → (g.at ≡ a → ⊥) → stand_in a (g ∷ gs) bys ≡ stand_in a gs (drop 1 bys)
unfolding stand_in
stand_pass a g gs [] h = sym (stand-past a gs)
stand_pass a g gs (b ∷ bys) h = sym (eq_no _ _ _ _ h refl)

module _ {w : List ℕ} {n a i g d : ℕ} (t : Finding w n a i g d) where
  pub find_end : n ≤ i → FoundGroup w n a None
  unfolding items_from flat group_at sought_in word_of
  find_end h =
      let e : n - i ≡ 0 = omega arith in
      record { group = rw e at t.rest; stands = λ bys. rw (stand-none a (drop g bys)) at (rw e at (t.stands bys)) }

  module _ (h : i < n) {m b : ℕ} (p : m ≡ get_or w (1536 + i) 0) (q : b ≡ get_or w i 0) where
    opened : group_at a (flat w d g (item m b ∷ items_from w (i + 1) (n - (i + 1)))) ≡ group_at a (groups_in w n)
    opened = rw (items_open w i n p q h) at t.rest

    stood : (bys : List ℕ) → stand_in a (flat w d g (item m b ∷ items_from w (i + 1) (n - (i + 1)))) (drop g bys) ≡ stand_in a (groups_in w n) bys
    stood bys = rw (items_open w i n p q h) at (t.stands bys)

    pub find_hit : m ≡ 1 → b ≡ a → {r : ℕ} → r ≡ get_or w (3584 + g) 0 → FoundGroup w n a (Some (record { item = (i + 1); records = r; dg = d; number = g }))
    unfolding flat sought_in word_of channels_in
    find_hit x y z =
        record {
          group = rw z (rw y at (sym (group_hit a _ _ y) ∙ (rw (item-cg m b x) at opened)));
          stands = λ bys. let k : g + 0 ≡ g = omega arith in
              sym (stand_hit a _ _ (drop g bys) y ∙ get_or-drop g bys 0 0 ∙ ap (λ j. get_or bys j 0) k) ∙ (rw (item-cg m b x) at (stood bys));
        }

    pub find_other : m ≡ 1 → (b ≡ a → ⊥) → Finding w n a (i + 1) (g + 1) d
    unfolding flat
    find_other x y =
        record {
          room = omega arith;
          few = (let f = t.few in omega arith);
          rest = sym (group_pass a _ _ y) ∙ (rw (item-cg m b x) at opened);
          stands = λ bys. sym (stand_pass a _ _ (drop g bys) y ∙ ap (stand_in a _) (drop-drop 1 g bys)) ∙ (rw (item-cg m b x) at (stood bys));
        }

    pub find_data : (m ≡ 0 → ⊥) → (m ≡ 1 → ⊥) → Finding w n a (i + 1) g b
    unfolding flat
    find_data x y =
        record {
          room = omega arith;
          few = (let f = t.few in omega arith);
          rest = rw (item-dg m b x y) at opened;
          stands = λ bys. rw (item-dg m b x y) at (stood bys);
        }

    pub find_channel : m ≡ 0 → Finding w n a (i + 1) g d
    unfolding flat
    find_channel x =
        record {
          room = omega arith;
          few = (let f = t.few in omega arith);
          rest = rw (item-cn m b x) at opened;
          stands = λ bys. rw (item-cn m b x) at (stood bys);
        }

-- ---- the channels from item i on
over-cg : (a : ℕ) (is : List Item) → channels_of (cg a ∷ is) ≡ []
unfolding channels_of
over-cg a is = refl

over-dg : (a n : ℕ) (is : List Item) → channels_of (dg a n ∷ is) ≡ []
unfolding channels_of
over-dg a n is = refl

channels_opened : (w : List ℕ) (n i : ℕ) {m : ℕ} → m ≡ get_or w (1536 + i) 0 → i < n → (j : Item) → item m (get_or w i 0) ≡ j
    → channels_of (j ∷ items_from w (i + 1) (n - (i + 1))) ≡ [] → channels_in w n i ≡ []
unfolding channels_in
channels_opened w n i p h j e f = rw (items_open w i n p refl h, e) f

module _ (w : List ℕ) (n i : ℕ) where
  pub channels_end : n ≤ i → channels_in w n i ≡ []
  unfolding channels_in items_from channels_of
  channels_end h = let e : n - i ≡ 0 = omega arith in rw e

  module _ (h : i < n) {m : ℕ} (p : m ≡ get_or w (1536 + i) 0) where
    pub channels_next : {c : ℕ} → m ≡ 0 → c ≡ get_or w i 0 → channels_in w n i ≡ c ∷ channels_in w n (i + 1)
    unfolding channels_in channels_of
    channels_next {c} z q = rw (items_open w i n p q h, item-cn m c z)

    pub channels_over : (m ≡ 0 → ⊥) → channels_in w n i ≡ []
    channels_over z = rest (eqb m 1) refl
      where
        rest : (t : Bool) → eqb m 1 ≡ t → channels_in w n i ≡ []
        rest true q = channels_opened w n i p h (cg (get_or w i 0)) (item-cg m _ (eqb-true m 1 q)) (over-cg _ _)
        rest false q = channels_opened w n i p h (dg (get_or w i 0) (m - 2)) (item-dg m _ z (eqb-false m 1 q)) (over-dg _ _ _)

-- ---- the groups from item i on
pub groups_all : (w : List ℕ) (n : ℕ) → groups_from w n 0 0 0 ≡ groups_in w n
unfolding groups_from groups_in
groups_all w n = let e : n - 0 ≡ n = omega arith in rw e

module _ (w : List ℕ) (n d g i : ℕ) where
  pub groups_none : n ≤ i → groups_from w n d g i ≡ []
  unfolding groups_from items_from flat
  groups_none h = let e : n - i ≡ 0 = omega arith in rw e

  module _ (h : i < n) {m a : ℕ} (p : m ≡ get_or w (1536 + i) 0) (q : a ≡ get_or w i 0) where
    pub groups_cn : m ≡ 0 → groups_from w n d g i ≡ groups_from w n d g (i + 1)
    unfolding groups_from flat
    groups_cn z = rw (items_open w i n p q h, item-cn m a z)

    pub groups_cg : m ≡ 1 → {r : ℕ} → r ≡ get_or w (3584 + g) 0
        → groups_from w n d g i ≡ group_of d a (channels_in w n (i + 1)) r ∷ groups_from w n d (g + 1) (i + 1)
    unfolding groups_from flat channels_in
    groups_cg z y = rw (items_open w i n p q h, item-cg m a z, y)

    pub groups_dg : (m ≡ 0 → ⊥) → (m ≡ 1 → ⊥) → groups_from w n d g i ≡ groups_from w n a g (i + 1)
    unfolding groups_from flat
    groups_dg z y = rw (items_open w i n p q h, item-dg m a z y)
