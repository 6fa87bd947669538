-- Every source that the walk gives is sound.
use Prim.{Unit}
use Rattle.std.specs.Prelude.{ℕ, zero, suc, ◌+◌, ◌<◌, List, [], ◌∷◌, ◌++◌, Bool, true, false, ◌≡◌, refl, length, eqb}
use Rattle.std.proofs.Common.{le_refl, le_trans, le-add_right, arith, length-append}
use Rattle.base.specs.Choice.{pick, if_lt, if_eq}
use Rattle.base.specs.ChoiceLaws.{lt_first}
use Rattle.base.specs.Checked.{Checked, ok, refused, and_then, fine}
use Rattle.mdf.specs.Block.{HD, link_at, block_at}
use Rattle.mdf.specs.Name.{name_at}
use Rattle.mdf.specs.Chain.{Chain.records, Found, found, stopped, Limits, limits, chain}
use Rattle.mdf.specs.Walk.{Item, dg, cg, cn, Source, source, is_met, Level, level_dg, level_cg, level_cn, tally, most_items, visit, entered}
use Rattle.mdf.specs.Walk.{level, turns, below_cn, below_cg, below_dg, id_size_in, with_found, walk_of, walk}
use Rattle.reading.specs.Sound.{Rising, none, next-dg, next-cg, next-cn, Starts, empty, first-dg, Begun, begun, SoundWith, Sound}
use Rattle.chains.specs.FoundLaws.{chain_limit}
use Rattle.reading.specs.CheckedLaws.{refused≢ok, ok_same}
use Rattle.reading.specs.WordsLaws.{tally_snoc}

-- ---- what rises
rising_more : {lo hi : ℕ} {is : List Item} → Rising lo is hi → (k : ℕ) → Rising lo is (hi + k)
rising_more (none h) k = none (le_trans h (le-add_right _ k))
rising_more (next-dg h r) k = next-dg h (rising_more r k)
rising_more (next-cg r) k = next-cg (rising_more r k)
rising_more (next-cn r) k = next-cn (rising_more r k)

rising_dg : {lo hi : ℕ} {is : List Item} (a : ℕ) → Rising lo is hi → Rising lo (is ++ (dg a hi ∷ [])) hi
rising_dg a (none h) = next-dg h (none (le_refl _))
rising_dg a (next-dg h r) = next-dg h (rising_dg a r)
rising_dg a (next-cg r) = next-cg (rising_dg a r)
rising_dg a (next-cn r) = next-cn (rising_dg a r)

rising_cg : {lo hi : ℕ} {is : List Item} (a : ℕ) → Rising lo is hi → Rising lo (is ++ (cg a ∷ [])) hi
rising_cg a (none h) = next-cg (none h)
rising_cg a (next-dg h r) = next-dg h (rising_cg a r)
rising_cg a (next-cg r) = next-cg (rising_cg a r)
rising_cg a (next-cn r) = next-cn (rising_cg a r)

rising_cn : {lo hi : ℕ} {is : List Item} (a : ℕ) → Rising lo is hi → Rising lo (is ++ (cn a ∷ [])) hi
rising_cn a (none h) = next-cn (none h)
rising_cn a (next-dg h r) = next-dg h (rising_cn a r)
rising_cn a (next-cg r) = next-cg (rising_cn a r)
rising_cn a (next-cn r) = next-cn (rising_cn a r)

-- ---- parts of the walk that lead from sound to sound
record Keeps (l : Limits) (B C : List Item → Type 0) (F : Source → Checked Source) : Type 0 where
  to : (st st' : Source) → SoundWith l B st → F st ≡ ok st' → SoundWith l C st'

begun_more : {is : List Item} → Begun is → (js : List Item) → Begun (is ++ js)
begun_more begun js = begun

starts-dg : {is : List Item} → Starts is → (a n : ℕ) → Begun (is ++ (dg a n ∷ []))
starts-dg empty a n = begun
starts-dg first-dg a n = begun

starts : {is : List Item} → Begun is → Starts is
starts begun = first-dg

-- a check that passed, then what follows it
record Passed {A B : Type 0} (v : Checked A) (f : A → Checked B) (b : B) : Type 0 where
  value : A
  was : v ≡ ok value
  is : f value ≡ ok b

then_inv : {A B : Type 0} (v : Checked A) (f : A → Checked B) {b : B} → and_then v f ≡ ok b → Passed v f b
then_inv (ok a) f e = record { value = a; was = refl; is = e }
then_inv (refused n p) f e = absurd (refused≢ok e)

visit-room : (k : Level) (s : List ℕ) (st : Source) (a : ℕ) {u : Unit {0}} → visit k s st a ≡ ok u → tally k.own st.items < most_items
unfolding visit
visit-room k s st a e = go (is_met a st.items) e
  where
    go : (t : Bool) {u : Unit {0}} → pick t (refused 11 a) (and_then (block_at k.wanted s a) (λ _. if_lt (tally k.own st.items) most_items fine (refused 19 a))) ≡ ok u
        → tally k.own st.items < most_items
    go true f = absurd (refused≢ok f)
    go false f = let p = then_inv (block_at k.wanted s a) (λ _. if_lt (tally k.own st.items) most_items fine (refused 19 a)) f in
        (lt_first _ _ _ _ p.is refused≢ok).0

-- a block that was met leaves it sound
record Enters (l : Limits) (B : List Item → Type 0) (k : Level) : Type 0 where
  sound : (a : ℕ) (st : Source) → SoundWith l B st → tally k.own st.items < most_items → SoundWith l Begun (entered k a st)

enters_dg : {l : Limits} → Enters l Starts level_dg
unfolding entered
enters_dg = record {
  sound = λ a st h m. record {
    dgs = rw tally_snoc (omega arith);
    cgs = let i = h.cgs in rw tally_snoc (omega arith);
    cns = let i = h.cns in rw tally_snoc (omega arith);
    pieces = h.pieces;
    rising = rising_dg a h.rising;
    begins = starts-dg h.begins a (length st.fragments);
  };
}

enters_cg : {l : Limits} → Enters l Begun level_cg
unfolding entered
enters_cg = record {
  sound = λ a st h m. record {
    dgs = let i = h.dgs in rw tally_snoc (omega arith);
    cgs = rw tally_snoc (omega arith);
    cns = let i = h.cns in rw tally_snoc (omega arith);
    pieces = h.pieces;
    rising = rising_cg a h.rising;
    begins = begun_more h.begins (cg a ∷ []);
  };
}

enters_cn : {l : Limits} → Enters l Begun level_cn
unfolding entered
enters_cn = record {
  sound = λ a st h m. record {
    dgs = let i = h.dgs in rw tally_snoc (omega arith);
    cgs = let i = h.cgs in rw tally_snoc (omega arith);
    cns = rw tally_snoc (omega arith);
    pieces = h.pieces;
    rising = rising_cn a h.rising;
    begins = begun_more h.begins (cn a ∷ []);
  };
}

-- a level keeps it where what is below its blocks does
level_keeps : {l : Limits} {B : List Item → Type 0} (k : Level) (below : ℕ → Source → Checked Source) (s : List ℕ) → Enters l B k → ((a : ℕ) → Keeps l Begun B (below a))
    → (fuel a : ℕ) → Keeps l B B (level k below fuel s a)
unfolding level if_eq
level_keeps k below s n b zero a = record { to = λ st st' h e. absurd (refused≢ok e) }
level_keeps {l} {B} k below s n b (suc j) a = record { to = λ st st' h e. go (level_keeps k below s n b j (link_at s a 0)) st st' h (eqb a 0) e }
  where
    go : Keeps l B B (level k below j s (link_at s a 0)) → (st st' : Source) → SoundWith l B st → (t : Bool)
        → pick t (ok st) (and_then (visit k s st a) (λ _. and_then (below a (entered k a st)) (λ st''. level k below j s (link_at s a 0) st''))) ≡ ok st' → SoundWith l B st'
    go more st st' h true e = rw (ok_same e) at h
    go more st st' h false e =
        let p = then_inv (visit k s st a) (λ _. and_then (below a (entered k a st)) (λ st''. level k below j s (link_at s a 0) st'')) e in
        let q = then_inv (below a (entered k a st)) (λ st''. level k below j s (link_at s a 0) st'') p.is in
        more.to q.value st'
        ((b a).to (entered k a st) q.value (n.sound a st h (visit-room k s st a p.was)) q.was) q.is

keeps_cn : {l : Limits} (s : List ℕ) (a : ℕ) → Keeps l Begun Begun (below_cn s a)
unfolding below_cn
keeps_cn s a = record { to = λ st st' h e. let p = then_inv (name_at s (link_at s a 2)) (λ _. ok st) e in rw (ok_same p.is) at h }

keeps_cg : {l : Limits} (s : List ℕ) (a : ℕ) → Keeps l Begun Begun (below_cg s a)
unfolding below_cg
keeps_cg s a = record {
  to = λ st st' h e.
      let p = then_inv (name_at s (link_at s a 2)) (λ _. level level_cn (below_cn s) turns s (link_at s a 1) st) e in
      (level_keeps level_cn (below_cn s) s enters_cn (keeps_cn s) turns (link_at s a 1)).to st st' h p.is;
}

-- the fragments of a data chain stay within the limit
keeps_data : (l : Limits) (s : List ℕ) (a : ℕ) → Keeps l Begun Begun (λ st. with_found (chain records l s (length st.fragments) (link_at s a 2)) st)
keeps_data l s a = record { to = λ st st' h e. go st st' h (chain records l s (length st.fragments) (link_at s a 2)) refl e }
  where
    go : (st st' : Source) → SoundWith l Begun st → (v : Found) → chain records l s (length st.fragments) (link_at s a 2) ≡ v → with_found v st ≡ ok st' → SoundWith l Begun st'
    go st st' h (found fs) i e = rw (← ok_same e) (record {
      dgs = h.dgs;
      cgs = h.cgs;
      cns = h.cns;
      pieces = let b = chain_limit records l s (length st.fragments) (link_at s a 2) l.fragments (le_refl _) h.pieces in rw length-append (rw i at b);
      rising = rw length-append (rising_more h.rising (length fs));
      begins = h.begins;
    })
    go st st' h (stopped n p fs) i e = absurd (refused≢ok e)

keeps_dg : (l : Limits) (s : List ℕ) (a : ℕ) → Keeps l Begun Starts (below_dg l s a)
unfolding below_dg
keeps_dg l s a = record {
  to = λ st st' h e.
      let p = then_inv (with_found (chain records l s (length st.fragments) (link_at s a 2)) st)
      (λ st''. and_then (id_size_in s a) (λ _. level level_cg (below_cg s) turns s (link_at s a 1) st'')) e in
      let q = then_inv (id_size_in s a) (λ _. level level_cg (below_cg s) turns s (link_at s a 1) p.value) p.is in
      let r = (level_keeps level_cg (below_cg s) s enters_cg (keeps_cg s) turns (link_at s a 1)).to p.value st' ((keeps_data l s a).to st p.value h p.was) q.is in
      record { dgs = r.dgs; cgs = r.cgs; cns = r.cns; pieces = r.pieces; rising = r.rising; begins = starts r.begins };
}

sound_none : {l : Limits} → SoundWith l Starts (source [] [])
unfolding tally
sound_none = record { dgs = omega arith; cgs = omega arith; cns = omega arith; pieces = omega arith; rising = none (le_refl 0); begins = empty }

pub walk_of_sound : (l : Limits) (s : List ℕ) (st : Source) → walk_of l s ≡ ok st → SoundWith l Starts st
unfolding walk_of
walk_of_sound l s st e =
    let p = then_inv (block_at HD s 64) (λ _. level level_dg (below_dg l s) turns s (link_at s 64 0) (source [] [])) e in
    (level_keeps level_dg (below_dg l s) s enters_dg (keeps_dg l s) turns (link_at s 64 0)).to (source [] []) st sound_none p.is

-- a recording's
pub walk-sound : (s : List ℕ) (st : Source) → walk s ≡ ok st → Sound st
walk-sound s st e = walk_of_sound limits s st e
