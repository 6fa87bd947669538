-- The laws of the code's ways: one for each return and each turn of a loop.
use Rattle.std.specs.Prelude.{ℕ, zero, suc, ◌+◌, ◌*◌, ◌-◌, ◌≤◌, ◌<◌, Bool, true, false, get_or, set, Result, Ok, Err, ⊤}
use Rattle.std.proofs.Math.Path.{◌≡◌, refl, ap}
use Rattle.std.proofs.Common.{sym, ◌∙◌, add-zero, add-one, sub-one, get_or-set_same, get_or-set_other, take}
use Rattle.std.specs.Prelude.{eqb, ◌||◌}
use Rattle.std.specs.List.{list_any}
use Rattle.std.proofs.lemmas.List.Folds.{list_any_more}
use mathlib.Core.List.{List, [], ◌∷◌}
use native.Mathlib.Omega.{arith}
use Rattle.std.proofs.Math.ListN.{length, length-set}
use Rattle.std.proofs.Math.Seq.{set_out}
use Rattle.base.specs.Choice.{pick, if_lt, if_eq}
use Rattle.base.specs.ChoiceLaws.{lt_yes, lt_no, eq_yes, eq_no, lt_first}
use Rattle.base.specs.Blit.{blit}
use Rattle.base.specs.Field.{le_at}
use Rattle.base.specs.Checked.{Checked, ok, refused, and_then, Verdict, fine}
use Rattle.mdf.specs.Block.{links_at, link_at, first_link, length_in}
use Rattle.work_words.specs.Words.{kind_word, fragment_words}
use Rattle.mdf.specs.Chain.{Kind, Fragment, Chain, Found, found, stopped, on_found}
use Rattle.mdf.specs.Chain.{Limits, added, fragment_at, listed, is_in, chain_from, chain}
use Rattle.fields.specs.declared.refusal.Refusal.{Refusal}
use Rattle.fields.specs.Answer.{number_of, place_of, refused_by, verdict_of}
use Rattle.blocks.specs.AnswerLaws.{so_fine, so_refused, then_fine}
use Rattle.blocks.specs.BlockLaws.{length-fits}
use Rattle.chains.specs.declared.node.Node.{Node}
use Rattle.chains.specs.declared.node.Node.TheVariants.{Dl, Hl}
use Rattle.chains.specs.declared.node.Node.TheVariants as nodes
use Rattle.chains.specs.declared.node.SrcBlock.{SrcBlock}
use Rattle.chains.specs.declared.chain.Stopped.{Stopped}
use Rattle.chains.specs.declared.chain.Step.{Step}
use Rattle.chains.specs.declared.chain.Step.TheVariants.{Over, Next}
use Rattle.chains.specs.Node.{Standing, data_block, data_list, list-header, limits_for, fragment_of, node_at, node_of}
use Rattle.chains.specs.NodeLaws.{fragment_node, resumed, chain_open}
use Rattle.chains.specs.Kept.{kept, Given, done, halted, given, laid}
use Rattle.chains.specs.KeptLaws.{laid-onto, laid_same, kept-none, length-kept, Counted}
use Rattle.chains.specs.ChainLaws.{Onto, listed-onto, chain-onto}
use Rattle.chains.specs.Turn.{met_in, entry_at, list_at, Turn, over, next, on_read, on_listed}
use Rattle.chains.specs.Turn.{list_turn, header_turn, on_standing, turn_at, Moved, ended, goes, moved, laid_turn}

-- ---- the addresses of the DL and HL met
or-pick : (x y : Bool) {z : Bool} → x ≡ z → (x || y) ≡ pick y true z
or-pick true true e = refl
or-pick true false e = e
or-pick false true e = refl
or-pick false false e = e

met_any : (w : List ℕ) (k a : ℕ) → k ≤ length w → list_any (λ y. eqb y a) (take k w) ≡ is_in a (met_in w k)
unfolding met_in is_in
met_any w zero a h = refl
met_any w (suc k) a h =
    rw (← add-one k)
    (list_any_more (λ y. eqb y a) w k 0 (omega arith) ∙ or-pick (list_any (λ y. eqb y a) (take k w)) (eqb (get_or w k 0) a) (met_any w k a (omega arith)))

pub length_met : (w : List ℕ) (k : ℕ) → length (met_in w k) ≡ k
unfolding met_in
length_met w zero = refl
length_met w (suc k) = ap suc (length_met w k)

met_kept : (w : List ℕ) (k j a : ℕ) → j ≤ k → met_in (set w k a) j ≡ met_in w j
unfolding met_in
met_kept w k zero a h = refl
met_kept w k (suc j) a h = rw (get_or-set_other w k j a 0 (λ e. omega arith), met_kept w k j a (omega arith))

pub met_add : (w : List ℕ) (k a : ℕ) → k < length w → met_in (set w k a) (k + 1) ≡ a ∷ met_in w k
unfolding met_in
met_add w k a h = rw (add-one, get_or-set_same w k a 0 h, met_kept w k k a (omega arith))

-- ---- what stopped with no fragment leaves the words as they were
laid_stopped : (x p n : ℕ) (w : List ℕ) → halted x p n w ≡ laid (stopped x p []) n w
unfolding laid
laid_stopped x p n w = rw (kept-none, add-zero)

laid-found : (n : ℕ) (w : List ℕ) → done n w ≡ laid (found []) n w
unfolding laid
laid-found n w = rw (kept-none, add-zero)

-- ---- a fragment's three words, stored one after the other
pub keep_three : (n o z : ℕ) (d : Kind) (w : List ℕ) {k : ℕ} {w1 w2 w3 : List ℕ}
    → w1 ≡ set w (3 * n) o → w2 ≡ set w1 (3 * n + 1) z → k ≡ kind_word d
    → w3 ≡ set w2 (3 * n + 2) k → w3 ≡ kept n (record { offset = o; size = z; kind = d } ∷ []) w
unfolding kept fragment_words blit
keep_three n o z d w e f g h =
    let i : 3 * n + 1 ≡ suc (3 * n) = omega arith in
    let j : 3 * n + 2 ≡ suc (suc (3 * n)) = omega arith in
    rw (h, g, f, e, i, j)

-- past the end nothing is kept
pub keep_past : (n : ℕ) (f : Fragment) (w : List ℕ) → length w ≤ n → w ≡ kept n (f ∷ []) w
unfolding kept fragment_words blit
keep_past n f w h =
    rw (
      set_out w (3 * n) f.offset (omega arith),
      set_out w (suc (3 * n)) f.size (omega arith),
      set_out w (suc (suc (3 * n))) (kind_word f.kind) (omega arith),
    )

-- ---- the limits
pub lists_for : (file : Bool) → (limits_for file).lists ≡ 256
lists_for false = refl
lists_for true = refl

pub fragments_for : (file : Bool) → (limits_for file).fragments ≤ 4611686018427387904
fragments_for false = omega arith
fragments_for true = omega arith

hl_for : (file : Bool) → (limits_for file).hl_bytes ≡ 268435456
hl_for false = refl
hl_for true = refl

module _ (file : Bool) {v : Verdict} (k : ℕ) (s : List ℕ) (a : ℕ) where
  pub list_for_lem : {most : ℕ} → most ≡ (limits_for file).dl_bytes → v ≡ list_at most 256 k s a → v ≡ list_at (limits_for file).dl_bytes (limits_for file).lists k s a
  list_for_lem q e = rw (← q, lists_for file) e

  pub header_for : v ≡ list_at 268435456 256 k s a → v ≡ list_at (limits_for file).hl_bytes (limits_for file).lists k s a
  header_for e = rw (hl_for file, lists_for file) e

-- ---- a fragment more
module _ (l : Limits) (n a : ℕ) (f : Fragment) (w : List ℕ) where
  pub add_kept : {w' : List ℕ} → n < l.fragments → w' ≡ kept n (f ∷ []) w → done (n + 1) w' ≡ laid (added l n a f []) n w
  unfolding laid added
  add_kept h e = rw e (ap (λ (g : Found). laid g n w) (lt_yes _ _ _ _ (omega arith) refl))

  pub add_full : l.fragments ≤ n → halted 19 a n w ≡ laid (added l n a f []) n w
  unfolding added
  add_full h = laid_stopped 19 a n w ∙ ap (λ (g : Found). laid g n w) (lt_no _ _ _ _ (omega arith) refl)

-- ---- a fragment that a DL lists: o is the node there
module _ (c : Chain) (l : Limits) (s : List ℕ) (n a : ℕ) (w : List ℕ) {o : Result Node Refusal} (e : node_of o ≡ node_at c s a) where
  pub fragment_refused : {r : Result Node Stopped} {x : Stopped} → Counted n o r → r ≡ Err x
      → given (Err x) w ≡ laid (fragment_at c l s n a []) n w
  fragment_refused {x = x} m q =
      rw (fragment_node c l s n a, ← e, m.refusal q, m.count q) (laid_stopped (number_of x.refusal) (place_of x.refusal) n w)

  pub fragment-found : {d : Node} {b : SrcBlock} {g : Given} → o ≡ Ok d → d ≡ nodes.Fragment b → g ≡ laid (added l n a (fragment_of b) []) n w
      → g ≡ laid (fragment_at c l s n a []) n w
  fragment-found q i h = rw (fragment_node c l s n a, ← e, q, i) h

  pub fragment-list : {d : Node} → o ≡ Ok d → ((b : SrcBlock) → ◌≡◌ {A = Node} d (nodes.Fragment b) → ⊥) → halted 12 a n w ≡ laid (fragment_at c l s n a []) n w
  fragment-list {d = nodes.Fragment b} q h = absurd (h b refl)
  fragment-list {d = Dl} q h = rw (fragment_node c l s n a, ← e, q) (laid_stopped 12 a n w)
  fragment-list {d = Hl} q h = rw (fragment_node c l s n a, ← e, q) (laid_stopped 12 a n w)

-- a link of a DL
pub link_is : (s : List ℕ) (a i : ℕ) {x : ℕ} → x ≡ le_at 8 s (a + 24 + 8 * i) → x ≡ link_at s a i
unfolding link_at
link_is s a i e = e

module _ (c : Chain) (l : Limits) (s : List ℕ) (n x : ℕ) (w : List ℕ) where
  pub entry_zero : x ≡ 0 → done n w ≡ laid (entry_at c l s n x) n w
  unfolding entry_at
  entry_zero z = laid-found n w ∙ ap (λ (g : Found). laid g n w) (eq_yes _ _ _ _ z refl)

  pub entry-fragment : {g : Given} → (x ≡ 0 → ⊥) → g ≡ laid (fragment_at c l s n x []) n w → g ≡ laid (entry_at c l s n x) n w
  unfolding entry_at
  entry-fragment z h = h ∙ ap (λ (g : Found). laid g n w) (eq_no _ _ _ _ z refl)

-- ---- what was found goes on, or ends with it
module _ (n : ℕ) (w : List ℕ) {w' : List ℕ} where
  after_stop : (g : Found) (f : List Fragment → Found) {x p m : ℕ} → halted x p m w' ≡ laid g n w → halted x p m w' ≡ laid (on_found g f) n w
  unfolding laid
  after_stop (found fs) f e = absurd (let z : ◌≡◌ {A = ℕ} 0 1 = cc in omega arith)
  after_stop (stopped x p fs) f e = e

  after_done : (g : Found) (f : List Fragment → Found) (F : ℕ → Found) → ((gs : List Fragment) → Onto gs (f gs) (F (n + length gs)))
      → {m : ℕ} → done m w' ≡ laid g n w → laid (F m) m w' ≡ laid (on_found g f) n w
  unfolding laid
  after_done (found fs) f F h {m} e =
      let k : m ≡ n + length fs = cc in
      let v : w' ≡ kept n fs w = cc in
      rw ((h fs).is, k, v) (sym (laid-onto fs (F (n + length fs)) n w))
  after_done (stopped x p fs) f F h e = absurd (let z : ◌≡◌ {A = ℕ} 0 1 = cc in omega arith)

-- ---- the links of a DL: k of them from p on; m is what the whole list gives
pub listed_open : (c : Chain) (l : Limits) (s : List ℕ) (n k p : ℕ) → 0 < k
    → listed c l s n k p [] ≡ on_found (entry_at c l s n (le_at 8 s p)) (λ gs. listed c l s n (k - 1) (p + 8) gs)
unfolding listed entry_at
listed_open c l s n zero p h = absurd (omega arith)
listed_open c l s n (suc k) p h = rw (sub-one (suc k))

-- where the loop over the links of the DL at a stands: what is left gives what the whole list gives
pub record Listing (c : Chain) (l : Limits) (s : List ℕ) (a n₀ : ℕ) (w₀ : List ℕ) (links i n : ℕ) (w : List ℕ) : Type 0 where
  pub same : length w ≡ length w₀
  pub rest : laid (listed c l s n (links - i) (a + 24 + 8 * i) []) n w ≡ laid (listed c l s n₀ (links - 1) (a + 32) []) n₀ w₀

pub list_begin : {c : Chain} {l : Limits} {s : List ℕ} {a n : ℕ} {w : List ℕ} {links : ℕ} → Listing c l s a n w links 1 n w
list_begin {a = a} = let e : a + 24 + 8 * 1 ≡ a + 32 = omega arith in record { same = refl; rest = rw e }

module _ {c : Chain} {l : Limits} {s : List ℕ} {a n₀ : ℕ} {w₀ : List ℕ} {links i n : ℕ} {w : List ℕ} (t : Listing c l s a n₀ w₀ links i n w) where
  pub list_end : links ≡ links_at s a → links ≤ i → done n w ≡ laid (listed c l s n₀ (links_at s a - 1) (a + 32) []) n₀ w₀
  unfolding listed
  list_end q h =
      let z : links - i ≡ 0 = omega arith in
      rw (← q) (laid-found n w ∙ (rw z at t.rest))

  module _ (h : i < links) {x : ℕ} (m : x ≡ link_at s a i) where
    abbrev after-link : List Fragment → Found
    after-link gs = listed c l s n (links - i - 1) (a + 24 + 8 * i + 8) gs

    list_open : laid (on_found (entry_at c l s n x) after-link) n w ≡ laid (listed c l s n₀ (links - 1) (a + 32) []) n₀ w₀
    unfolding link_at
    list_open = rw m (rw (listed_open c l s n (links - i) (a + 24 + 8 * i) (omega arith)) at t.rest)

    module _ (r : Result ℕ Stopped) {w' : List ℕ} (e : given r w' ≡ laid (entry_at c l s n x) n w) where
      pub list_stop : {y : Stopped} → links ≡ links_at s a → r ≡ Err y
          → given (Err y) w' ≡ laid (listed c l s n₀ (links_at s a - 1) (a + 32) []) n₀ w₀
      list_stop k g = rw (← k) (after_stop n w (entry_at c l s n x) after-link (rw g at e) ∙ list_open)

      pub list_on : {j : ℕ} → r ≡ Ok j → Listing c l s a n₀ w₀ links (i + 1) j w'
      list_on {j} g =
          let k : links - i - 1 ≡ links - (i + 1) = omega arith in
          let p : a + 24 + 8 * i + 8 ≡ a + 24 + 8 * (i + 1) = omega arith in
          record {
            same = laid_same (entry_at c l s n x) n w r w' e ∙ t.same;
            rest = rw (← k, ← p)
                (after_done n w (entry_at c l s n x) after-link (λ m. listed c l s m (links - i - 1) (a + 24 + 8 * i + 8) [])
                (listed-onto c l s (links - i - 1) (a + 24 + 8 * i + 8) n) (rw g at e)
                ∙ list_open);
          }

-- ---- a DL or HL that is read: o is the check of its length
module _ (most lists k : ℕ) (s : List ℕ) (a : ℕ) {o : Result ⊤ Refusal} (e : verdict_of o ≡ length_in most s a) where
  pub list_refused : {x : Refusal} → o ≡ Err x → refused_by x ≡ list_at most lists k s a
  unfolding list_at
  list_refused q = rw (so_refused e q)

  pub list-fine : {u : ⊤} → o ≡ Ok u → k < lists → fine ≡ list_at most lists k s a
  unfolding list_at
  list-fine q h = rw (so_fine e q) (lt_yes _ _ _ _ h refl)

  pub list_full : {u : ⊤} → o ≡ Ok u → lists ≤ k → refused 19 a ≡ list_at most lists k s a
  unfolding list_at
  list_full q h = rw (so_fine e q) (lt_no _ _ _ _ h refl)

-- its links lie in the image
pub list_lies : (file : Bool) (k : ℕ) (s : List ℕ) (a : ℕ) {o : Result ⊤ Refusal} {u : ⊤}
    → verdict_of o ≡ list_at (limits_for file).dl_bytes (limits_for file).lists k s a → o ≡ Ok u
    → a + 24 + 8 * links_at s a ≤ length s
unfolding list_at
list_lies file k s a e q =
    let b = length-fits (limits_for file).dl_bytes s a (then_fine (length_in (limits_for file).dl_bytes s a) _ (so_fine e q)).0 in
    omega arith

-- there was room for it
list-room : (most lists k : ℕ) (s : List ℕ) (a : ℕ) {u : Unit {0}} → list_at most lists k s a ≡ ok u → k < lists
unfolding list_at
list-room most lists k s a e = go (length_in most s a) e
  where
    go : (v : Verdict) {u : Unit {0}} → and_then v (λ _. if_lt k lists fine (refused 19 a)) ≡ ok u → k < lists
    go (ok i) f = (lt_first _ _ _ _ f (λ (z : refused 19 a ≡ _). let z' : ◌≡◌ {A = ℕ} 0 1 = cc in omega arith)).0
    go (refused x p) f = absurd (let z : ◌≡◌ {A = ℕ} 0 1 = cc in omega arith)

-- ---- the turn at an HL: o is the check of it
module _ (l : Limits) (s : List ℕ) (n k a : ℕ) (w : List ℕ) {o : Result ⊤ Refusal} (e : verdict_of o ≡ list_at l.hl_bytes l.lists k s a)
    {t : Result ⊤ Stopped} (m : Counted n o t) where
  pub hl_refused : {x : Stopped} → t ≡ Err x → moved (Err x) w ≡ laid_turn (header_turn l s k a) n w
  unfolding laid_turn header_turn
  hl_refused {x} q =
      rw (so_refused e (m.refusal q), m.count q, ← laid_stopped (number_of x.refusal) (place_of x.refusal) n w)

  pub hl_next : {u : ⊤} → t ≡ Ok u → {b : ℕ} → b ≡ first_link s a → goes b n w ≡ laid_turn (header_turn l s k a) n w
  unfolding laid_turn header_turn
  hl_next q f = rw (so_fine e (m.ok q), f, kept-none, add-zero)

-- ---- the turn at a DL: o is the check of it
module _ (c : Chain) (l : Limits) (s : List ℕ) (n k a : ℕ) (w : List ℕ) {o : Result ⊤ Refusal}
    (e : verdict_of o ≡ list_at l.dl_bytes l.lists k s a) {t : Result ⊤ Stopped} (m : Counted n o t) where
  pub dl_refused : {x : Stopped} → t ≡ Err x → moved (Err x) w ≡ laid_turn (list_turn c l s n k a) n w
  unfolding laid_turn list_turn
  dl_refused {x} q =
      rw (so_refused e (m.refusal q), m.count q, ← laid_stopped (number_of x.refusal) (place_of x.refusal) n w)

  module _ {u : ⊤} (q : t ≡ Ok u) {r : Result ℕ Stopped} {w' : List ℕ}
      (g : given r w' ≡ laid (listed c l s n (links_at s a - 1) (a + 32) []) n w) where
    pub dl_stop : {x : Stopped} → r ≡ Err x → moved (Err x) w' ≡ laid_turn (list_turn c l s n k a) n w
    unfolding laid laid_turn list_turn
    dl_stop {x} h = rw (so_fine e (m.ok q)) (go (listed c l s n (links_at s a - 1) (a + 32) []) (rw h at g))
      where
        go : (i : Found) → given (Err x) w' ≡ laid i n w → moved (Err x) w' ≡ laid_turn (on_listed i (next (first_link s a))) n w
        go (found fs) z = absurd (let i' : ◌≡◌ {A = ℕ} 0 1 = cc in omega arith)
        go (stopped y t fs) z = ap ended z

    pub dl-next : {b j : ℕ} → r ≡ Ok j → b ≡ first_link s a → goes b j w' ≡ laid_turn (list_turn c l s n k a) n w
    unfolding laid laid_turn list_turn
    dl-next {b} {j} h f = rw (so_fine e (m.ok q), f) (go (listed c l s n (links_at s a - 1) (a + 32) []) (rw h at g))
      where
        go : (i : Found) → done j w' ≡ laid i n w
            → goes (first_link s a) j w' ≡ laid_turn (on_listed i (next (first_link s a))) n w
        go (found fs) z = cc
        go (stopped y t fs) z = absurd (let i' : ◌≡◌ {A = ℕ} 0 1 = cc in omega arith)

-- ---- the turn at a, by the node o there
module _ (c : Chain) (l : Limits) (s : List ℕ) (n k a : ℕ) (w : List ℕ) {o : Result Node Refusal} (e : node_of o ≡ node_at c s a) where
  pub turn_refused : {r : Result Node Stopped} {x : Stopped} → Counted n o r → r ≡ Err x
      → moved (Err x) w ≡ laid_turn (turn_at c l s n k a) n w
  unfolding laid_turn turn_at
  turn_refused {x = x} m q =
      rw (← e, m.refusal q, m.count q, ← laid_stopped (number_of x.refusal) (place_of x.refusal) n w)

  module _ {d : Node} {b : SrcBlock} (q : o ≡ Ok d) (p : d ≡ nodes.Fragment b) {r : Result ℕ Stopped} {w' : List ℕ}
      (h : given r w' ≡ laid (added l n a (fragment_of b) []) n w) where
    pub turn_full : {x : Stopped} → r ≡ Err x → moved (Err x) w' ≡ laid_turn (turn_at c l s n k a) n w
    unfolding laid_turn turn_at
    turn_full i = rw (← e, q, p, ← h, i)

    pub turn_block : {j : ℕ} → r ≡ Ok j → moved (Ok (Over j)) w' ≡ laid_turn (turn_at c l s n k a) n w
    unfolding laid_turn turn_at
    turn_block i = rw (← e, q, p, ← h, i)

  pub turn_dl : {d : Node} {g : Moved} → o ≡ Ok d → d ≡ Dl → g ≡ laid_turn (list_turn c l s n k a) n w → g ≡ laid_turn (turn_at c l s n k a) n w
  unfolding turn_at
  turn_dl q i h = rw (← e, q, i) h

  pub turn_hl : {d : Node} {g : Moved} → o ≡ Ok d → d ≡ Hl → g ≡ laid_turn (header_turn l s k a) n w → g ≡ laid_turn (turn_at c l s n k a) n w
  unfolding turn_at
  turn_hl q i h = rw (← e, q, i) h

over≢next : {A : Type 0} {g : Found} {b : ℕ} {fs : List Fragment} → over g ≡ next b fs → A
over≢next e = absurd (let i : ◌≡◌ {A = ℕ} 0 1 = cc in omega arith)

-- a turn that goes on had room for its DL or HL
turn_room : (c : Chain) (l : Limits) (s : List ℕ) (n k a : ℕ) {b : ℕ} {fs : List Fragment} → turn_at c l s n k a ≡ next b fs → k < l.lists
unfolding turn_at list_turn header_turn
turn_room c l s n k a e = go (node_at c s a) e
  where
    read : (most : ℕ) (v : Verdict) (u : Turn) → list_at most l.lists k s a ≡ v → {b : ℕ} {fs : List Fragment} → on_read v u ≡ next b fs → k < l.lists
    read most (ok i) u h f = list-room most l.lists k s a h
    read most (refused x p) u h f = over≢next f

    go : (o : Checked Standing) {b : ℕ} {fs : List Fragment}
        → on_standing o (λ f. over (added l n a f [])) (list_turn c l s n k a) (header_turn l s k a) ≡ next b fs → k < l.lists
    go (refused x p) f = over≢next f
    go (ok (data_block g)) f = over≢next f
    go (ok data_list) f = read l.dl_bytes (list_at l.dl_bytes l.lists k s a) _ refl f
    go (ok list-header) f = read l.hl_bytes (list_at l.hl_bytes l.lists k s a) _ refl f

ended_back : {g h : Given} → ended g ≡ ended h → g ≡ h
ended_back e = cc

ended≢goes : {A : Type 0} (g : Given) {b j : ℕ} {w : List ℕ} → goes b j w ≡ ended g → A
ended≢goes g e = absurd (let i : ◌≡◌ {A = ℕ} 0 1 = cc in omega arith)

-- ---- the walk, where it stands: what is left of it gives what the whole of it gives
pub record Walking (c : Chain) (l : Limits) (s : List ℕ) (n₀ a₀ : ℕ) (w₀ met : List ℕ) (k a n : ℕ) (w : List ℕ) : Type 0 where
  pub fuel : ℕ
  pub lists : l.lists ≡ 256
  pub enough : 256 < fuel + k
  pub room : k ≤ 256
  pub sized : length met ≡ 256
  pub same : length w ≡ length w₀
  pub rest : laid (chain_from c l fuel s n (met_in met k) a []) n w ≡ laid (chain c l s n₀ a₀) n₀ w₀

pub walk_begin : {c : Chain} {l : Limits} {s : List ℕ} {n a : ℕ} {w met : List ℕ} → l.lists ≡ 256 → length met ≡ 256 → Walking c l s n a w met 0 a n w
unfolding chain met_in
walk_begin {l = l} g h = record { fuel = l.lists + 2; lists = g; enough = omega arith; room = omega arith; sized = h; same = refl; rest = refl }

module _ {c : Chain} {l : Limits} {s : List ℕ} {n₀ a₀ : ℕ} {w₀ met : List ℕ} {k a n : ℕ} {w : List ℕ} (t : Walking c l s n₀ a₀ w₀ met k a n w) where
  abbrev after : ℕ → List Fragment → Found
  after b gs = chain_from c l (t.fuel - 1) s n (a ∷ met_in met k) b gs

  opened : laid (if_eq a 0 (found []) (pick (is_in a (met_in met k)) (stopped 11 a []) (resumed (turn_at c l s n k a) after))) n w
      ≡ laid (chain c l s n₀ a₀) n₀ w₀
  opened = go t.fuel t.enough t.rest
    where
      go : (j : ℕ) → 256 < j + k → laid (chain_from c l j s n (met_in met k) a []) n w ≡ laid (chain c l s n₀ a₀) n₀ w₀
          → laid (if_eq a 0 (found []) (pick (is_in a (met_in met k)) (stopped 11 a [])
          (resumed (turn_at c l s n k a) (λ b gs. chain_from c l (j - 1) s n (a ∷ met_in met k) b gs)))) n w
          ≡ laid (chain c l s n₀ a₀) n₀ w₀
      go zero h e = absurd (let r = t.room in omega arith)
      go (suc j) h e = rw (sub-one (suc j)) (rw (chain_open c l j s n (met_in met k) a, length_met met k) at e)

  pub walk_end : a ≡ 0 → done n w ≡ laid (chain c l s n₀ a₀) n₀ w₀
  walk_end z = laid-found n w ∙ ap (λ (g : Found). laid g n w) (eq_yes _ _ _ _ z refl) ∙ opened

  module _ (z : a ≡ 0 → ⊥) {m : Bool} (any : m ≡ list_any (λ y. eqb y a) (take k met)) where
    e : m ≡ is_in a (met_in met k)
    e = any ∙ met_any met k a (let r = t.room in let d = t.sized in omega arith)

    pub walk_met : m ≡ true → halted 11 a n w ≡ laid (chain c l s n₀ a₀) n₀ w₀
    walk_met q = laid_stopped 11 a n w ∙ ap (λ (g : Found). laid g n w) (eq_no _ _ _ _ z (rw (← e, q))) ∙ opened

    module _ (q : m ≡ false) where
      turned : laid (resumed (turn_at c l s n k a) after) n w ≡ laid (chain c l s n₀ a₀) n₀ w₀
      turned = ap (λ (g : Found). laid g n w) (eq_no _ _ _ _ z (rw (← e, q))) ∙ opened

      walk-ended : {g : Given} → ended g ≡ laid_turn (turn_at c l s n k a) n w → g ≡ laid (chain c l s n₀ a₀) n₀ w₀
      unfolding laid_turn
      walk-ended {g} h = go (turn_at c l s n k a) h ∙ turned
        where
          go : (u : Turn) → ended g ≡ laid_turn u n w → g ≡ laid (resumed u after) n w
          go (over f) y = ended_back y
          go (next b fs) y = absurd (let i' : ◌≡◌ {A = ℕ} 0 1 = cc in omega arith)

    module _ (q : m ≡ false) (r : Result Step Stopped) {w' : List ℕ} (h : moved r w' ≡ laid_turn (turn_at c l s n k a) n w) where
      pub walk-over : {d : Step} {j : ℕ} → r ≡ Ok d → d ≡ Over j → done j w' ≡ laid (chain c l s n₀ a₀) n₀ w₀
      walk-over i y = walk-ended q (rw (i, y) at h)

      pub walk_stop : {x : Stopped} → r ≡ Err x → given (Err x) w' ≡ laid (chain c l s n₀ a₀) n₀ w₀
      walk_stop i = walk-ended q (rw i at h)

      pub walk-next : {d : Step} {b j : ℕ} → r ≡ Ok d → d ≡ Next b j → Walking c l s n₀ a₀ w₀ (set met k a) (k + 1) b j w'
      unfolding laid_turn
      walk-next {b = b} {j = j} i y = go (turn_at c l s n k a) refl (rw (i, y) at h)
        where
          go : (u : Turn) → turn_at c l s n k a ≡ u → goes b j w' ≡ laid_turn u n w → Walking c l s n₀ a₀ w₀ (set met k a) (k + 1) b j w'
          go (over g) x y = ended≢goes (laid g n w) y
          go (next b' fs) x y =
              let v : w' ≡ kept n fs w = cc in
              let p : b ≡ b' = cc in
              let d : j ≡ n + length fs = cc in
              let f = rw t.lists at (turn_room c l s n k a x) in
              let o = t.enough in
              let rest-found : Found = chain_from c l (t.fuel - 1) s (n + length fs) (a ∷ met_in met k) b' [] in
              let onto-it = chain-onto c l s (t.fuel - 1) (a ∷ met_in met k) b' n fs in
              record {
                fuel = t.fuel - 1;
                lists = t.lists;
                enough = omega arith;
                room = omega arith;
                sized = length-set met k a ∙ t.sized;
                same = rw (v, length-kept) t.same;
                rest = rw (met_add met k a (rw t.sized f), v, p, d, ← laid-onto fs rest-found n w, ← onto-it.is) (rw x at turned q);
              }
