-- The laws of one level of the walk: its turns, and what a block of each kind does with the level below it.
use Rattle.std.specs.Prelude.{ℕ, zero, suc, ◌+◌, ◌-◌, ◌≤◌, ◌<◌, List, ◌≡◌, refl, length}
use Rattle.std.proofs.Common.{sym, ◌∙◌, sub-one, arith}
use Rattle.base.specs.Choice.{if_eq}
use Rattle.base.specs.ChoiceLaws.{eq_yes, eq_no}
use Rattle.base.specs.Checked.{Checked, ok, refused, and_then, Verdict, fine}
use Rattle.mdf.specs.Block.{link_at}
use Rattle.mdf.specs.Name.{name_at}
use Rattle.mdf.specs.Chain.{Chain.records, Limits, chain}
use Rattle.mdf.specs.Walk.{Source, Level, level_dg, level_cg, level_cn, most_items, visit, entered, level, turns, below_cn, below_cg, below_dg, id_size_in, with_found}
use Rattle.reading.specs.Held.{State, Held, Within, Gives, Stops}
use Rattle.reading.specs.CheckedLaws.{then_assoc}
use Rattle.reading.specs.HeldLaws.{entering, taking}

abbrev Below : Type 0
Below = ℕ → Source → Checked Source

-- one block of a level and what is below it
unfoldable pub block : Level → Below → List ℕ → ℕ → Source → Checked Source
block k below s a st = and_then (visit k s st a) (λ _. below a (entered k a st))

-- one block of a level: the turns left fall by one
level_open : (k : Level) (below : Below) (fuel : ℕ) (s : List ℕ) (a : ℕ) (st : Source) → 0 < fuel
    → level k below fuel s a st ≡ if_eq a 0 (ok st) (and_then (block k below s a st) (λ st'. level k below (fuel - 1) s (link_at s a 0) st'))
unfolding level block
level_open k below zero s a st p = absurd (omega arith)
level_open k below (suc j) s a st p =
    rw (sub-one, then_assoc (visit k s st a) (λ _. below a (entered k a st)) (λ st'. level k below j s (link_at s a 0) st'))

-- what is left of a level, from a with what x holds, gives what the whole of it gives
pub record Left (k : Level) (below : Below) (s : List ℕ) (a₀ : ℕ) (st₀ : Source) (fuel : ℕ) (e f : List ℕ) (a : ℕ) (x : State) : Type 0 where
  pub st : Source
  pub held : Held e f st x
  pub same : level k below fuel s a st ≡ level k below turns s a₀ st₀

-- where a level stands that began at a₀ with what x₀ holds; m of its blocks were met
pub record Turn (k : Level) (below : Below) (s : List ℕ) (a₀ : ℕ) (x₀ : State) (a m : ℕ) (x : State) : Type 0 where
  pub fuel : ℕ
  pub enough : most_items < fuel + m
  pub within : Within x
  pub words_same : length x.words ≡ length x₀.words
  pub frags_same : length x.frags ≡ length x₀.frags
  pub rest : (e f : List ℕ) (st₀ : Source) → Held e f st₀ x₀ → Left k below s a₀ st₀ fuel e f a x

pub begin : (k : Level) (below : Below) (s : List ℕ) (a m : ℕ) {x : State} → Within x → Turn k below s a x a m x
begin k below s a m r = record { fuel = turns; enough = omega arith; within = r; words_same = refl; frags_same = refl; rest = λ e f st h. record { st = st; held = h; same = refl } }

module _ {k : Level} {below : Below} {s : List ℕ} {a₀ : ℕ} {x₀ : State} {a m : ℕ} {x : State} (t : Turn k below s a₀ x₀ a m x) where
  pub turn_end : a ≡ 0 → m ≤ most_items → Gives (level k below turns s a₀) x₀ x
  turn_end z p = record {
    to = λ e f st h. let l = t.rest e f st h in
        record { st = l.st; held = l.held; is = sym l.same ∙ level_open k below t.fuel s a l.st (omega arith) ∙ sym (eq_yes _ _ _ _ z refl) };
  }

  pub turn_stop : {y p : ℕ} → (a ≡ 0 → ⊥) → m ≤ most_items → Stops (block k below s a) x y p → Stops (level k below turns s a₀) x₀ y p
  turn_stop z p b = record {
    at = λ e f st h. let l = t.rest e f st h in
        sym l.same ∙ level_open k below t.fuel s a l.st (omega arith) ∙ sym (eq_no _ _ _ _ z (rw (b.at e f l.st l.held)));
  }

  pub turn_on : {a' m' : ℕ} {x' : State} → (a ≡ 0 → ⊥) → m ≤ most_items → Gives (block k below s a) x x' → a' ≡ link_at s a 0 → m < m' → Within x'
      → length x'.words ≡ length x₀.words → length x'.frags ≡ length x₀.frags → Turn k below s a₀ x₀ a' m' x'
  turn_on {a'} {m'} {x'} z p b q g r i j = record {
    fuel = t.fuel - 1;
    enough = omega arith;
    within = r;
    words_same = i;
    frags_same = j;
    rest = λ e f st h.
        let l = t.rest e f st h in
        let k' = b.to e f l.st l.held in
        record {
          st = k'.st;
          held = k'.held;
          same =
              eq_no _ _ _ _ z (rw (k'.is, q)) ∙ sym (level_open k below t.fuel s a l.st (omega arith)) ∙ l.same;
        };
  }

-- ---- a part of the walk, then another
module _ {F H : Source → Checked Source} {x : State} (G : Source → Checked Source) (e : (st : Source) → H st ≡ and_then (F st) G) where
  then_gives : {y z : State} → Gives F x y → Gives G y z → Gives H x z
  then_gives f g = record {
    to = λ u v st h.
        let i = f.to u v st h in
        let j = g.to u v i.st i.held in
        record { st = j.st; held = j.held; is = e st ∙ rw i.is j.is };
  }

  then_stops : {y : State} {n p : ℕ} → Gives F x y → Stops G y n p → Stops H x n p
  then_stops f g = record { at = λ u v st h. let i = f.to u v st h in e st ∙ rw i.is (g.at u v i.st i.held) }

  first_stops : {n p : ℕ} → Stops F x n p → Stops H x n p
  first_stops f = record { at = λ u v st h. e st ∙ rw (f.at u v st h) }

-- ---- a CN: nothing is below it but its name
cn_is : (s : List ℕ) (a : ℕ) (st : Source) → block level_cn (below_cn s) s a st ≡ and_then (entering level_cn s a (name_at s (link_at s a 2)) st) ok
unfolding block below_cn entering
cn_is s a st = go (visit level_cn s st a) (name_at s (link_at s a 2))
  where
    go : (v c : Verdict) → and_then v (λ _. and_then c (λ _. ok (entered level_cn a st))) ≡ and_then (and_then v (λ _. and_then c (λ _. ok (entered level_cn a st)))) ok
    go (ok u) (ok t) = refl
    go (ok u) (refused n p) = refl
    go (refused n p) c = refl

stays : (x : State) → Gives ok x x
stays x = record { to = λ e f st h. record { st = st; held = h; is = refl } }

pub cn-block : (s : List ℕ) (a : ℕ) {x y : State} → Gives (entering level_cn s a (name_at s (link_at s a 2))) x y → Gives (block level_cn (below_cn s) s a) x y
cn-block s a {x} {y} g = then_gives ok (cn_is s a) g (stays y)

pub cn-block_stops : (s : List ℕ) (a : ℕ) {x : State} {n p : ℕ} → Stops (entering level_cn s a (name_at s (link_at s a 2))) x n p → Stops (block level_cn (below_cn s) s a) x n p
cn-block_stops s a g = first_stops ok (cn_is s a) g

-- ---- a CG: its name, then the CN chain
cg_is : (s : List ℕ) (a b : ℕ) → b ≡ link_at s a 1 → (st : Source)
    → block level_cg (below_cg s) s a st ≡ and_then (entering level_cg s a (name_at s (link_at s a 2)) st) (level level_cn (below_cn s) turns s b)
unfolding block below_cg entering
cg_is s a b e st = rw e (go (visit level_cg s st a) (name_at s (link_at s a 2)))
  where
    go : (v c : Verdict) → and_then v (λ _. and_then c (λ _. level level_cn (below_cn s) turns s (link_at s a 1) (entered level_cg a st)))
        ≡ and_then (and_then v (λ _. and_then c (λ _. ok (entered level_cg a st)))) (level level_cn (below_cn s) turns s (link_at s a 1))
    go (ok u) (ok t) = refl
    go (ok u) (refused n p) = refl
    go (refused n p) c = refl

module _ (s : List ℕ) (a : ℕ) {x : State} where
  pub cg-block : (b : ℕ) {y z : State} → b ≡ link_at s a 1 → Gives (entering level_cg s a (name_at s (link_at s a 2))) x y
      → Gives (level level_cn (below_cn s) turns s b) y z → Gives (block level_cg (below_cg s) s a) x z
  cg-block b e f g = then_gives (level level_cn (below_cn s) turns s b) (cg_is s a b e) f g

  pub cg-below_stops : (b : ℕ) {y : State} {n p : ℕ} → b ≡ link_at s a 1 → Gives (entering level_cg s a (name_at s (link_at s a 2))) x y
      → Stops (level level_cn (below_cn s) turns s b) y n p → Stops (block level_cg (below_cg s) s a) x n p
  cg-below_stops b e f g = then_stops (level level_cn (below_cn s) turns s b) (cg_is s a b e) f g

  pub cg-block_stops : {n p : ℕ} → Stops (entering level_cg s a (name_at s (link_at s a 2))) x n p → Stops (block level_cg (below_cg s) s a) x n p
  cg-block_stops f = first_stops (level level_cn (below_cn s) turns s (link_at s a 1)) (cg_is s a (link_at s a 1) refl) f

-- ---- a DG: its data chain, its id size, then the CG chain
below_is : (l : Limits) (s : List ℕ) (a b : ℕ) → b ≡ link_at s a 1 → (st : Source) → below_dg l s a st ≡ and_then (taking l s a st) (level level_cg (below_cg s) turns s b)
unfolding below_dg taking
below_is l s a b e st = rw e (go (with_found (chain records l s (length st.fragments) (link_at s a 2)) st) (id_size_in s a))
  where
    go : (v : Checked Source) (c : Verdict) → and_then v (λ st'. and_then c (λ _. level level_cg (below_cg s) turns s (link_at s a 1) st'))
        ≡ and_then (and_then v (λ st'. and_then c (λ _. ok st'))) (level level_cg (below_cg s) turns s (link_at s a 1))
    go (ok u) (ok t) = refl
    go (ok u) (refused n p) = refl
    go (refused n p) c = refl

dg_is_lem : (l : Limits) (s : List ℕ) (a : ℕ) (st : Source) → block level_dg (below_dg l s) s a st ≡ and_then (entering level_dg s a fine st) (below_dg l s a)
unfolding block entering
dg_is_lem l s a st = go (visit level_dg s st a)
  where
    go : (v : Verdict) → and_then v (λ _. below_dg l s a (entered level_dg a st)) ≡ and_then (and_then v (λ _. ok (entered level_dg a st))) (below_dg l s a)
    go (ok u) = refl
    go (refused n p) = refl

module _ (l : Limits) (s : List ℕ) (a : ℕ) {x : State} where
  pub dg-block : (b : ℕ) {y z u : State} → b ≡ link_at s a 1 → Gives (entering level_dg s a fine) x y → Gives (taking l s a) y z
      → Gives (level level_cg (below_cg s) turns s b) z u → Gives (block level_dg (below_dg l s) s a) x u
  dg-block b e f g h = then_gives (below_dg l s a) (dg_is_lem l s a) f (then_gives (level level_cg (below_cg s) turns s b) (below_is l s a b e) g h)

  pub dg-below_stops : (b : ℕ) {y z : State} {n p : ℕ} → b ≡ link_at s a 1 → Gives (entering level_dg s a fine) x y → Gives (taking l s a) y z
      → Stops (level level_cg (below_cg s) turns s b) z n p → Stops (block level_dg (below_dg l s) s a) x n p
  dg-below_stops b e f g h = then_stops (below_dg l s a) (dg_is_lem l s a) f (then_stops (level level_cg (below_cg s) turns s b) (below_is l s a b e) g h)

  pub dg_data_stops : {y : State} {n p : ℕ} → Gives (entering level_dg s a fine) x y → Stops (taking l s a) y n p → Stops (block level_dg (below_dg l s) s a) x n p
  dg_data_stops f g = then_stops (below_dg l s a) (dg_is_lem l s a) f (first_stops (level level_cg (below_cg s) turns s (link_at s a 1)) (below_is l s a (link_at s a 1) refl) g)

  pub dg-block_stops : {n p : ℕ} → Stops (entering level_dg s a fine) x n p → Stops (block level_dg (below_dg l s) s a) x n p
  dg-block_stops f = first_stops (below_dg l s a) (dg_is_lem l s a) f
