-- What the walk of a data chain found, its ranges, and the blocks of a DL in the form.
use Rattle.std.specs.Prelude.{ℕ, zero, suc, ◌+◌, ◌*◌, ◌-◌, List, [], ◌∷◌, ◌++◌, Bool, length, ltb}
use Rattle.std.proofs.Common.{append-nil, sym, ap, subst, ◌∙◌, sub-one, arith, eqb-true}
use Rattle.std.proofs.Math.Bool.{true, false}
use Rattle.std.proofs.Math.Path.{◌≡◌, refl}
use Rattle.std.proofs.Math.Dec.{eqb}
use Rattle.std.proofs.lemmas.Bool.{eqb-false}
use Rattle.base.specs.Choice.{pick, if_lt, if_eq}
use Rattle.base.specs.ChoiceLaws.{eq_yes, eq_no, lt_first}
use Rattle.base.specs.Field.{le_at}
use Rattle.base.specs.Checked.{Checked, ok, refused, and_then, Verdict, fine}
use Rattle.base.specs.CheckedLaws.{refused≢ok, ok_same}
use Rattle.mdf.specs.Block.{kind_dt, kind_dv, kind_dl, kind_hl, kind_at, links_at, link_at, first_link, header_in}
use Rattle.mdf.specs.Chain.{dt, dv, Fragment, fragment, leaf, none, leaf_of, records, Found, found, stopped, on_found, Limits, added, fragment_at, listed, is_in, chain_from, chain}
use Rattle.mdf.specs.Records.{ranges_in}
use Rattle.chains.specs.Node.{Standing, data_block, data_list, list-header, by_leaf, node_at}
use Rattle.chains.specs.NodeLaws.{listed_node, fragment_node, resumed, chain_open}
use Rattle.chains.specs.KeptLaws.{onto}
use Rattle.chains.specs.ChainLaws.{listed-onto, chain-onto}
use Rattle.chains.specs.TurnLaws.{listed_open}
use Rattle.chains.specs.Turn.{entry_at, list_at, Turn, over, next, on_read, on_listed, list_turn, header_turn, on_standing, turn_at}
use Rattle.mdf.specs.Walk.{id_size}
use Rattle.file.specs.Form.{none_zero, links_formed, list_formed, formed}
use Rattle.file_laws.specs.OpenedLaws.{both_back}
use Rattle.ranges.specs.Blocks.{block_in, blocks_at, listed_from, links_of, blocks_of, column_of}
use Rattle.ranges.specs.BlocksLaws.{links_some}
use Rattle.ranges.specs.Ranged.{entry_range, list_ranges, ranges_from, on_list, on_pass, pass_at, chain_ranges}
use Rattle.ranges.specs.Chained.{Lists, no_more, passed_over, and_more, Chained, ends, block, list, header}

stopped≢found : {A : Type 0} {n p : ℕ} {fs gs : List Fragment} → stopped n p fs ≡ found gs → A
stopped≢found e = absurd (let z : ◌≡◌ {A = ℕ} 0 1 = cc in omega arith)

found-same : {fs gs : List Fragment} → found fs ≡ found gs → fs ≡ gs
found-same e = cc

-- where the first list is found, the rest goes on from it
on-found : {R : Type 0} (v : Found) (f : List Fragment → Found) {gs : List Fragment} → on_found v f ≡ found gs
    → ((fs : List Fragment) → v ≡ found fs → f fs ≡ found gs → R) → R
on-found (found fs) f e k = k fs refl e
on-found (stopped n p fs) f e k = stopped≢found e

-- ---- one fragment
added-one : (l : Limits) (n a : ℕ) (f : Fragment) {gs : List Fragment} → added l n a f [] ≡ found gs → f ∷ [] ≡ gs
unfolding added
added-one l n a f e = found-same (lt_first _ _ _ _ e (λ z. stopped≢found z)).1

-- what a link of a DL gives: nothing, or one fragment
data Entry (s : List ℕ) (x : ℕ) (gs : List Fragment) : Type 0 where
  nothing : x ≡ 0 → [] ≡ gs → Entry s x gs
  one : (f : Fragment) → (x ≡ 0 → ⊥) → node_at records s x ≡ ok (data_block f) → f ∷ [] ≡ gs → Entry s x gs

entry_found : (l : Limits) (s : List ℕ) (n x : ℕ) {gs : List Fragment} → entry_at records l s n x ≡ found gs → Entry s x gs
unfolding entry_at if_eq
entry_found l s n x {gs} e = go (eqb x 0) refl e
  where
    at : (x ≡ 0 → ⊥) → (v : Checked Standing) → node_at records s x ≡ v → listed_node l n x v ≡ found gs → Entry s x gs
    at z (refused m p) q f = stopped≢found f
    at z (ok (data_block b)) q f = one b z q (added-one l n x b f)
    at z (ok data_list) q f = stopped≢found f
    at z (ok list-header) q f = stopped≢found f

    go : (t : Bool) → eqb x 0 ≡ t → pick t (found []) (fragment_at records l s n x []) ≡ found gs → Entry s x gs
    go true q f = nothing (eqb-true x 0 q) (found-same f)
    go false q f = at (eqb-false x 0 q) (node_at records s x) refl (sym (fragment_node records l s n x) ∙ f)

-- ---- the links of a DL
onto-found : (fs : List Fragment) (h : Found) {gs : List Fragment} → onto fs h ≡ found gs → (hs : List Fragment) × (h ≡ found hs) × (fs ++ hs ≡ gs)
onto-found fs (found hs) e = (hs, refl, found-same e)
onto-found fs (stopped n p hs) e = stopped≢found e

none-listed : (l : Limits) (s : List ℕ) (n p : ℕ) → found [] ≡ listed records l s n zero p []
unfolding listed
none-listed l s n p = refl

pub listed_lists : (l : Limits) (s : List ℕ) (k n p : ℕ) {gs : List Fragment} → listed records l s n k p [] ≡ found gs → Lists s k p gs
listed_lists l s zero n p {gs} e = nil e
  where
    nil : listed records l s n zero p [] ≡ found gs → Lists s zero p gs
    nil q = subst (Lists s zero p) (found-same (none-listed l s n p ∙ q)) no_more
listed_lists l s (suc k) n p {gs} e =
    on-found (entry_at records l s n (le_at 8 s p)) _ (sym (listed_open records l s n (suc k) p (omega arith)) ∙ e) (λ fs q r.
    let m : listed records l s n k (p + 8) fs ≡ found gs = rw (sub-one (suc k)) at r in
    let o = onto-found fs (listed records l s (n + length fs) k (p + 8) []) (sym (listed-onto records l s k (p + 8) n fs).is ∙ m) in
    go fs o.0 (entry_found l s n (le_at 8 s p) q) (listed_lists l s k (n + length fs) (p + 8) o.1) o.2)
  where
    go : (fs hs : List Fragment) → Entry s (le_at 8 s p) fs → Lists s k (p + 8) hs → fs ++ hs ≡ gs → Lists s (suc k) p gs
    go fs hs (nothing z y) t o = subst (Lists s (suc k) p) (ap (λ (m : List Fragment). m ++ hs) y ∙ o) (passed_over z t)
    go fs hs (one f z q y) t o = subst (Lists s (suc k) p) (ap (λ (m : List Fragment). m ++ hs) y ∙ o) (and_more z q t)

-- ---- the chain
none-chained : (l : Limits) (s : List ℕ) (n : ℕ) (seen : List ℕ) (a : ℕ) → stopped 19 a [] ≡ chain_from records l zero s n seen a []
unfolding chain_from
none-chained l s n seen a = refl

read_resumed : (v : Verdict) (u : Turn) (f : ℕ → List Fragment → Found) {fs : List Fragment} → resumed (on_read v u) f ≡ found fs → resumed u f ≡ found fs
read_resumed (ok i) u f e = e
read_resumed (refused m p) u f e = stopped≢found e

listed-resumed : (v : Found) (b : ℕ) (f : ℕ → List Fragment → Found) {fs : List Fragment} → resumed (on_listed v (next b)) f ≡ found fs
    → (gs : List Fragment) × (v ≡ found gs) × (f b gs ≡ found fs)
listed-resumed (found gs) b f e = (gs, refl, e)
listed-resumed (stopped m p gs) b f e = stopped≢found e

pub chain-chained : (l : Limits) (s : List ℕ) (t n : ℕ) (seen : List ℕ) (a : ℕ) {fs : List Fragment}
    → chain_from records l t s n seen a [] ≡ found fs → Chained s t a fs
unfolding if_eq turn_at list_turn header_turn
chain-chained l s zero n seen a {fs} e = stopped≢found (none-chained l s n seen a ∙ e)
chain-chained l s (suc t) n seen a {fs} e = go (eqb a 0) refl (sym (chain_open records l t s n seen a) ∙ e) (λ m b gs q. chain-chained l s t m (a ∷ seen) b q)
  where
    at : (a ≡ 0 → ⊥) → (v : Checked Standing) → node_at records s a ≡ v
        → resumed (on_standing v (λ f. over (added l n a f [])) (list_turn records l s n (length seen) a) (header_turn l s (length seen) a)) (λ b gs. chain_from records l t s n (a ∷ seen) b gs) ≡ found fs
        → ((m : ℕ) (b : ℕ) (gs : List Fragment) → chain_from records l t s m (a ∷ seen) b [] ≡ found gs → Chained s t b gs) → Chained s (suc t) a fs
    at z (refused m p) q f ih = stopped≢found f
    at z (ok (data_block b)) q f ih = subst (Chained s (suc t) a) (added-one l n a b f) (block z q)
    at z (ok data_list) q f ih =
        let g = listed-resumed (listed records l s n (links_at s a - 1) (a + 32) []) (first_link s a) (λ b gs. chain_from records l t s n (a ∷ seen) b gs)
        (read_resumed (list_at l.dl_bytes l.lists (length seen) s a) _ _ f) in
        let o = onto-found g.0 (chain_from records l t s (n + length g.0) (a ∷ seen) (first_link s a) [])
        (sym (chain-onto records l s t (a ∷ seen) (first_link s a) n g.0).is ∙ g.2) in
        subst (Chained s (suc t) a) o.2
        (list z q (listed_lists l s (links_at s a - 1) n (a + 32) g.1) (ih (n + length g.0) (first_link s a) o.0 o.1))
    at z (ok list-header) q f ih =
        header z q (ih n (first_link s a) fs (read_resumed (list_at l.hl_bytes l.lists (length seen) s a) _ _ f))

    unseen : (a ≡ 0 → ⊥) → (b : Bool) → pick b (stopped 11 a []) (resumed (turn_at records l s n (length seen) a) (λ b gs. chain_from records l t s n (a ∷ seen) b gs)) ≡ found fs → ((m : ℕ) (b : ℕ) (gs : List Fragment) → chain_from records l t s m (a ∷ seen) b [] ≡ found gs → Chained s t b gs) → Chained s (suc t) a fs
    unseen z true f ih = stopped≢found f
    unseen z false f ih = at z (node_at records s a) refl f ih

    go : (b : Bool) → eqb a 0 ≡ b → pick b (found []) (pick (is_in a seen) (stopped 11 a []) (resumed (turn_at records l s n (length seen) a) (λ b gs. chain_from records l t s n (a ∷ seen) b gs))) ≡ found fs
        → ((m : ℕ) (b : ℕ) (gs : List Fragment) → chain_from records l t s m (a ∷ seen) b [] ≡ found gs → Chained s t b gs) → Chained s (suc t) a fs
    go true q f ih = subst (Chained s (suc t) a) (found-same f) (ends (eqb-true a 0 q))
    go false q f ih = unseen (eqb-false a 0 q) (is_in a seen) f ih

pub found-chained : (l : Limits) (s : List ℕ) (n a : ℕ) {fs : List Fragment} → chain records l s n a ≡ found fs → Chained s (l.lists + 2) a fs
unfolding chain
found-chained l s n a e = chain-chained l s (l.lists + 2) n [] a e

-- ---- its ranges
pub none_ranges : (s : List ℕ) → fine ≡ ranges_in s []
unfolding ranges_in
none_ranges s = refl

pub ranges_append : (s : List ℕ) (fs gs : List Fragment) → ranges_in s (fs ++ gs) ≡ and_then (ranges_in s fs) (λ _. ranges_in s gs)
unfolding ranges_in if_lt
ranges_append s [] gs = refl
ranges_append s (f ∷ fs) gs = go (ltb (length s) (f.offset + f.size)) (ranges_append s fs gs)
  where
    go : (t : Bool) → ranges_in s (fs ++ gs) ≡ and_then (ranges_in s fs) (λ _. ranges_in s gs)
        → pick t (refused 4 f.offset) (ranges_in s (fs ++ gs)) ≡ and_then (pick t (refused 4 f.offset) (ranges_in s fs)) (λ _. ranges_in s gs)
    go true e = refl
    go false e = e

entry_is : (s : List ℕ) (x : ℕ) (f : Fragment) → (x ≡ 0 → ⊥) → node_at records s x ≡ ok (data_block f) → entry_range s x ≡ ranges_in s (f ∷ [])
unfolding entry_range
entry_is s x f z q = sym (eq_no _ _ _ _ z (rw q))

entry-none : (s : List ℕ) (x : ℕ) → x ≡ 0 → entry_range s x ≡ fine
unfolding entry_range
entry-none s x z = sym (eq_yes _ _ _ _ z refl)

lists_ranges : (s : List ℕ) (k p : ℕ) {gs : List Fragment} → Lists s k p gs → list_ranges s k p ≡ ranges_in s gs
unfolding list_ranges
lists_ranges s k p no_more = none_ranges s
lists_ranges s k p (passed_over {k = j} z t) = rw (entry-none s (le_at 8 s p) z) (lists_ranges s j (p + 8) t)
lists_ranges s k p (and_more {k = j} {f = f} {gs = gs} z q t) =
    rw (entry_is s (le_at 8 s p) f z q, lists_ranges s j (p + 8) t) (sym (ranges_append s (f ∷ []) gs))

on_list_lem : (v w : Verdict) → on_pass (on_list v) w ≡ and_then v (λ _. w)
on_list_lem (ok u) w = refl
on_list_lem (refused n p) w = refl

from_first : (s : List ℕ) (a links : ℕ) → ranges_from s a links 1 ≡ list_ranges s (links - 1) (a + 32)
unfolding ranges_from
from_first s a links = let p : a + 24 + 8 * 1 ≡ a + 32 = omega arith in rw p

pub chained_ranges : (s : List ℕ) (t a : ℕ) {fs : List Fragment} → Chained s t a fs → chain_ranges s t a ≡ ranges_in s fs
unfolding chain_ranges pass_at
chained_ranges s t a (ends z) = sym (eq_yes _ _ _ _ z refl) ∙ none_ranges s
chained_ranges s t a (block z q) = sym (eq_no _ _ _ _ z (rw q))
chained_ranges s t a (list {t = j} {gs = gs} {hs = hs} z q g c) =
    sym (eq_no _ _ _ _ z (rw q (
    sym (on_list_lem (ranges_from s a (links_at s a) 1) (chain_ranges s j (first_link s a))
    ∙ rw (from_first s a (links_at s a), lists_ranges s (links_at s a - 1) (a + 32) g, chained_ranges s j (first_link s a) c)
    (sym (ranges_append s gs hs))))))
chained_ranges s t a (header {t = j} z q c) = sym (eq_no _ _ _ _ z (rw q (sym (chained_ranges s j (first_link s a) c))))

-- ---- a DL in the form: its blocks are those of its links
node_block : (s : List ℕ) (x : ℕ) (f : Fragment) → node_at records s x ≡ ok (data_block f) → f ≡ block_in s x
unfolding node_at block_in leaf_of if_eq
node_block s x f e = go (header_in s x) (eqb (kind_at s x) kind_dt) (eqb (kind_at s x) kind_dv) (eqb (kind_at s x) kind_dl) (eqb (kind_at s x) kind_hl) e
  where
    same : {g h : Fragment} → ok (data_block g) ≡ ok (data_block h) → h ≡ g
    same q = cc

    no : {A : Type 0} {v w : Checked Standing} → v ≡ w → v ≡ ok data_list → w ≡ ok (data_block f) → A
    no q r t = absurd (let z : ◌≡◌ {A = ℕ} 0 1 = cc in omega arith)

    go : (h : Verdict) (t u v w : Bool)
        → and_then h (λ _. by_leaf (pick t (leaf dt) (pick u (leaf dv) none)) (pick v (ok data_list) (pick w (ok list-header) (refused 12 x)))
        (λ k. ok (data_block (fragment s x k)))) ≡ ok (data_block f) → f ≡ fragment s x (pick t dt dv)
    go (refused m p) t u v w q = absurd (refused≢ok q)
    go (ok i) true u v w q = same q
    go (ok i) false true v w q = same q
    go (ok i) false false true w q = absurd (let z : ◌≡◌ {A = ℕ} 0 1 = cc in omega arith)
    go (ok i) false false false true q = absurd (let z : ◌≡◌ {A = ℕ} 0 1 = cc in omega arith)
    go (ok i) false false false false q = absurd (refused≢ok q)

lists_blocks : (s : List ℕ) (k p : ℕ) {gs : List Fragment} → Lists s k p gs → none_zero s k p ≡ true → gs ≡ blocks_at s k p
unfolding none_zero blocks_at
lists_blocks s k p no_more e = refl
lists_blocks s k p (passed_over z t) e =
    absurd (let q : false ≡ true = eq_yes _ _ _ _ z refl ∙ e in let y : ◌≡◌ {A = ℕ} 0 1 = cc in omega arith)
lists_blocks s k p (and_more {k = j} {f = f} {gs = gs} z q t) e =
    rw (node_block s (le_at 8 s p) f q, lists_blocks s j (p + 8) t (eq_no _ _ _ _ z refl ∙ e))

node_dl : (s : List ℕ) (a : ℕ) → kind_at s a ≡ kind_dl → node_at records s a ≡ and_then (header_in s a) (λ _. ok data_list)
unfolding node_at leaf_of if_eq
node_dl s a k = rw k

dl-only : (h : Verdict) (v : Standing) → and_then h (λ _. ok data_list) ≡ ok v → v ≡ data_list
dl-only (ok u) v e = sym (ok_same e)
dl-only (refused n p) v e = absurd (refused≢ok e)

chained-zero : (s : List ℕ) (t a : ℕ) {fs : List Fragment} → Chained s t a fs → a ≡ 0 → fs ≡ []
chained-zero s t a (ends z) e = refl
chained-zero s t a (block z q) e = absurd (z e)
chained-zero s t a (list z q g c) e = absurd (z e)
chained-zero s t a (header z q c) e = absurd (z e)

pub zero-blocks : (s : List ℕ) (t a : ℕ) {fs : List Fragment} → Chained s t a fs → a ≡ 0 → fs ≡ blocks_of s a
unfolding links_of listed_from blocks_at
zero-blocks s t a c e =
    let n : 0 ≡ links_of s a = eq_yes _ _ _ _ e refl in
    chained-zero s t a c e ∙ ap (λ (k : ℕ). listed_from s a k 1) n

first-zero : (s : List ℕ) (a : ℕ) → link_at s a 0 ≡ 0 → first_link s a ≡ 0
unfolding first_link if_lt
first-zero s a e = go (ltb 0 (links_at s a))
  where
    go : (t : Bool) → pick t (link_at s a 0) 0 ≡ 0
    go true = e
    go false = refl

links_back : (s : List ℕ) (a : ℕ) → links_formed s a ≡ true → (link_at s a 0 ≡ 0) × (none_zero s (links_at s a - 1) (a + 32) ≡ true)
unfolding links_formed
links_back s a f =
    let n : Bool = none_zero s (links_at s a - 1) (a + 32) in
    let e : Bool = eqb (link_at s a 0) 0 in
    let b = both_back (ltb 0 (links_at s a)) (pick e (pick n true false) false) f in
    let d = both_back e (pick n true false) b.1 in
    (eqb-true _ _ d.0, (both_back n true d.1).0)

-- "a data link that .. leads straight to one DL with .. only its first link zero"
pub chained-blocks : (s : List ℕ) (t a : ℕ) {fs : List Fragment} → Chained s t a fs → (a ≡ 0 → ⊥) → kind_at s a ≡ kind_dl → links_formed s a ≡ true
    → fs ≡ listed_from s a (links_at s a) 1
unfolding listed_from
chained-blocks s t a (ends e) z k f = absurd (z e)
chained-blocks s t a (block y q) z k f =
    absurd (let v = dl-only (header_in s a) _ (sym (node_dl s a k) ∙ q) in let i : ◌≡◌ {A = ℕ} 0 1 = cc in omega arith)
chained-blocks s t a (list {t = j} {gs = gs} {hs = hs} y q g c) z k f =
    let b = links_back s a f in
    let o = chained-zero s j (first_link s a) c (first-zero s a b.0) in
    let p : a + 24 + 8 * 1 ≡ a + 32 = omega arith in
    rw (o, append-nil, p) (lists_blocks s (links_at s a - 1) (a + 32) g b.1)
chained-blocks s t a (header y q c) z k f =
    absurd (let v = dl-only (header_in s a) _ (sym (node_dl s a k) ∙ q) in let i : ◌≡◌ {A = ℕ} 0 1 = cc in omega arith)

-- ---- the form of a column, with the fragments that its chain has
module _ (s : List ℕ) (d g c : ℕ) (fs : List Fragment) where
  -- where the DL isn't one of the form, there is no form
  no_list : (a : ℕ) (gs : List Fragment) → (t : Bool) → eqb (kind_at s a) kind_dl ≡ t → (u : Bool) → links_formed s a ≡ u → pick t u false ≡ false
      → list_formed s a gs ≡ false
  unfolding list_formed
  no_list a gs true p true q e = absurd (let i : ◌≡◌ {A = ℕ} 0 1 = cc in omega arith)
  no_list a gs true p false q e = rw (p, q)
  no_list a gs false p u q e = rw p

  no_form : (gs : List Fragment) → (link_at s d 2 ≡ 0 → ⊥) → list_formed s (link_at s d 2) gs ≡ false
      → formed s (record { dg = d; cg = g; cn = c; fragments = gs }) ≡ false
  unfolding formed
  no_form gs z e = go (eqb (id_size s d) 0) refl (rw e (sym (eq_no _ _ _ _ z refl)))
    where
      go : (t : Bool) → eqb (id_size s d) 0 ≡ t → if_eq (link_at s d 2) 0 true (list_formed s (link_at s d 2) gs) ≡ false
          → formed s (record { dg = d; cg = g; cn = c; fragments = gs }) ≡ false
      go true p q = rw (p, q)
      go false p q = rw p

  -- the same form, and the same fragments where there is one
  pub record SameForm : Type 0 where
    pub form : formed s (record { dg = d; cg = g; cn = c; fragments = fs }) ≡ formed s (column_of s d g 0)
    pub blocks : formed s (column_of s d g 0) ≡ true → fs ≡ blocks_of s (link_at s d 2)

  as_blocks : fs ≡ blocks_of s (link_at s d 2) → SameForm
  unfolding formed
  as_blocks e = record { form = rw e; blocks = λ _. e }

  pub same_form : (t : ℕ) → Chained s t (link_at s d 2) fs → SameForm
  unfolding formed
  same_form t k = go (eqb (link_at s d 2) 0) refl
    where
      some : (link_at s d 2 ≡ 0 → ⊥) → links_at s (link_at s d 2) ≡ links_of s (link_at s d 2)
      some z = links_some s (link_at s d 2) z refl

      none' : (link_at s d 2 ≡ 0 → ⊥) → (t' : Bool) → eqb (kind_at s (link_at s d 2)) kind_dl ≡ t' → (u : Bool) → links_formed s (link_at s d 2) ≡ u
          → pick t' u false ≡ false → SameForm
      none' z t' p u q e =
          let x = no_form fs z (no_list (link_at s d 2) fs t' p u q e) in
          let y = no_form (blocks_of s (link_at s d 2)) z (no_list (link_at s d 2) (blocks_of s (link_at s d 2)) t' p u q e) in
          record { form = x ∙ sym y; blocks = λ h. absurd (let w : false ≡ true = sym y ∙ h in let i : ◌≡◌ {A = ℕ} 0 1 = cc in omega arith) }

      by : (link_at s d 2 ≡ 0 → ⊥) → (t' : Bool) → eqb (kind_at s (link_at s d 2)) kind_dl ≡ t' → (u : Bool) → links_formed s (link_at s d 2) ≡ u → SameForm
      by z true p true q =
          as_blocks (chained-blocks s t (link_at s d 2) k z (eqb-true _ _ p) q ∙ ap (λ (n : ℕ). listed_from s (link_at s d 2) n 1) (some z))
      by z true p false q = none' z true p false q refl
      by z false p u q = none' z false p u q refl

      go : (t' : Bool) → eqb (link_at s d 2) 0 ≡ t' → SameForm
      go true e = as_blocks (zero-blocks s t (link_at s d 2) k (eqb-true _ _ e))
      go false e = by (eqb-false _ _ e) (eqb (kind_at s (link_at s d 2)) kind_dl) refl (links_formed s (link_at s d 2)) refl
