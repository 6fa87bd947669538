-- "the limit on fragments [doesn't] apply": no image under 2^47 bytes meets the one that file_limits has, so that any greater one gives the same.
-- A DL has under 2^44 links, a chain 258 turns, a walk 513.
use Prim.Native.Nat.{ℕ, zero, suc, ◌+◌, ◌*◌, ◌-◌, ◌≤◌, ◌<◌}
use mathlib.Core.List.{List, [], ◌∷◌, ◌++◌}
use Rattle.std.specs.Prelude.{Bool, ◌≡◌, eqb, ltb}
use Rattle.std.proofs.Math.Bool.{true, false}
use Rattle.std.proofs.Math.Path.{refl, sym, ap}
use Rattle.std.proofs.Common.{◌∙◌, arith, eqb-true}
use Rattle.std.proofs.Math.Nat.{suc-mul}
use Rattle.std.proofs.Math.ListN.{length, length-append}
use Rattle.std.proofs.lemmas.Bool.{eqb-false}
use Rattle.base.specs.Choice.{pick, if_lt, if_eq}
use Rattle.base.specs.ChoiceLaws.{lt_yes, eq_yes, eq_no, lt_back}
use Rattle.base.specs.Field.{le_at}
use Rattle.base.specs.Checked.{Checked, ok, refused, and_then, Verdict, fine}
use Rattle.base.specs.CheckedLaws.{refused≢ok, ok_same, then_ok, then_fine}
use Rattle.mdf.specs.Block.{HD, kind_dl, kind_hl, kind_at, links_at, link_at, first_link, header_in, length_in, block_at}
use Rattle.mdf.specs.Name.{name_at}
use Rattle.mdf.specs.Chain.{Kind, Fragment, fragment, Chain, Chain.records, Leaf, leaf, Leaf.none, leaf_of, Found, found, stopped, on_found, on_passed, Limits, file_limits, added, on_leaf, fragment_at, listed, is_in, list_in, chain_from, chain}
use Rattle.mdf.specs.Walk.{Source, source, Level, level_dg, level_cg, level_cn, visit, entered, level, turns, below_cn, below_cg, id_size_in, with_found, below_dg, walk_of}

-- the reader's limits with another one on fragments
abbrev pub limits_of : ℕ → Limits
limits_of m = record { dl_bytes = file_limits.dl_bytes; hl_bytes = file_limits.hl_bytes; lists = file_limits.lists; fragments = m }

-- ---- what is found, and how much
data AtMost (k : ℕ) : Found → Type 0 where
  so : {gs : List Fragment} → length gs ≤ k → AtMost k (found gs)
  ended : {number place : ℕ} {gs : List Fragment} → AtMost k (stopped number place gs)

most_more : {v : Found} (k j : ℕ) → k ≤ j → AtMost k v → AtMost j v
most_more k j h (so {gs} l) = so {gs = gs} (omega arith)
most_more k j h ended = ended

found_then : {v : Found} (k j : ℕ) (f : List Fragment → Found) → AtMost k v → ((gs : List Fragment) → length gs ≤ k → AtMost j (f gs)) → AtMost j (on_found v f)
found_then k j f (so {gs} l) h = h gs l
found_then k j f ended h = ended

found-same : {v : Found} (k : ℕ) (f g : List Fragment → Found) → AtMost k v → ((gs : List Fragment) → length gs ≤ k → f gs ≡ g gs) → on_found v f ≡ on_found v g
found-same k f g (so {gs} l) h = h gs l
found-same k f g ended h = refl

passed_then : (k : ℕ) (v : Verdict) (fs : List Fragment) (x : Found) → (v ≡ fine → AtMost k x) → AtMost k (on_passed v fs x)
passed_then k (ok u) fs x h = h refl
passed_then k (refused number place) fs x h = ended

passed-same : (v : Verdict) (fs : List Fragment) (x y : Found) → (v ≡ fine → x ≡ y) → on_passed v fs x ≡ on_passed v fs y
passed-same (ok u) fs x y h = h refl
passed-same (refused number place) fs x y h = refl

leaf_then : (k : ℕ) (l : Leaf) (x : Found) (f : Kind → Found) → AtMost k x → ((j : Kind) → AtMost k (f j)) → AtMost k (on_leaf l x f)
leaf_then k Leaf.none x f h g = h
leaf_then k (leaf j) x f h g = g j

leaf_same : (l : Leaf) (x y : Found) (f g : Kind → Found) → x ≡ y → ((j : Kind) → f j ≡ g j) → on_leaf l x f ≡ on_leaf l y g
leaf_same Leaf.none x y f g h e = h
leaf_same (leaf j) x y f g h e = e j

eq_then : (k m n : ℕ) (a b : Found) → AtMost k a → AtMost k b → AtMost k (if_eq m n a b)
unfolding if_eq
eq_then k m n a b h g = go (eqb m n)
  where
    go : (t : Bool) → AtMost k (pick t a b)
    go true = h
    go false = g

either_same : {d d' h h' : Found} (k : ℕ) (e : Found) → d ≡ d' → h ≡ h' → if_eq k kind_dl d (if_eq k kind_hl h e) ≡ if_eq k kind_dl d' (if_eq k kind_hl h' e)
either_same k e p q = rw (p, q)

pick_then : (k : ℕ) (t : Bool) (a b : Found) → AtMost k a → AtMost k b → AtMost k (pick t a b)
pick_then k true a b h g = h
pick_then k false a b h g = g

-- ---- a chain, n fragments found before it
module _ (c : Chain) (s : List ℕ) (short : length s < 140737488355328) (n : ℕ) where
  added_most : (l : Limits) (a : ℕ) (f : Fragment) (fs : List Fragment) → AtMost (length fs + 1) (added l n a f fs)
  unfolding added if_lt
  added_most l a f fs = go (ltb (n + length fs) l.fragments)
    where
      go : (t : Bool) → AtMost (length fs + 1) (pick t (found (fs ++ (f ∷ []))) (stopped 19 a fs))
      go true = so {gs = fs ++ (f ∷ [])} (rw length-append (omega arith))
      go false = ended

  fragment_most : (l : Limits) (a : ℕ) (fs : List Fragment) → AtMost (length fs + 1) (fragment_at c l s n a fs)
  unfolding fragment_at
  fragment_most l a fs =
      passed_then (length fs + 1) (header_in s a) fs _ (λ _.
      leaf_then (length fs + 1) (leaf_of c (kind_at s a)) _ _ ended (λ j. added_most l a (fragment s a j) fs))

  listed_most : (l : Limits) (links p : ℕ) (fs : List Fragment) → AtMost (length fs + links) (listed c l s n links p fs)
  unfolding listed
  listed_most l zero p fs = so {gs = fs} (omega arith)
  listed_most l (suc links) p fs =
      found_then (length fs + 1) (length fs + suc links) (λ gs. listed c l s n links (p + 8) gs)
      (eq_then (length fs + 1) (le_at 8 s p) 0 (found fs) (fragment_at c l s n (le_at 8 s p) fs) (so {gs = fs} (omega arith)) (fragment_most l (le_at 8 s p) fs))
      (λ gs h. most_more (length gs + links) (length fs + suc links) (omega arith) (listed_most l links (p + 8) gs))

  -- the links of a DL that is read
  links_few : (most : ℕ) (l : Limits) (seen : List ℕ) (a : ℕ) → list_in most l s seen a ≡ fine → links_at s a ≤ 17592186044416
  unfolding list_in length_in
  links_few most l seen a e =
      let v = (then_fine (length_in most s a) _ e).0 in
      let b = lt_back _ _ _ _ v refused≢ok in
      let d = lt_back _ _ _ _ b.1 refused≢ok in
      let f = lt_back _ _ _ _ d.1 refused≢ok in
      omega (arith, b.0, f.0)

  -- so many more in so many turns
  from_most : (l : Limits) (turns : ℕ) (seen : List ℕ) (a : ℕ) (fs : List Fragment)
      → AtMost (length fs + turns * 17592186044416) (chain_from c l turns s n seen a fs)
  unfolding chain_from
  from_most l zero seen a fs = ended
  from_most l (suc turns) seen a fs =
      let k : ℕ = length fs + suc turns * 17592186044416 in
      let m = suc-mul turns 17592186044416 in
      eq_then k a 0 (found fs) _ (so {gs = fs} (omega arith))
      (pick_then k (is_in a seen) (stopped 11 a fs) _ ended
      (passed_then k (header_in s a) fs _ (λ _.
      leaf_then k (leaf_of c (kind_at s a)) _ _
      (eq_then k (kind_at s a) kind_dl _ _
      (passed_then k (list_in l.dl_bytes l s seen a) fs _ (λ e.
      found_then (length fs + (links_at s a - 1)) k (λ gs. chain_from c l turns s n (a ∷ seen) (first_link s a) gs)
      (listed_most l (links_at s a - 1) (a + 32) fs)
      (λ gs h. most_more (length gs + turns * 17592186044416) k (omega (arith, links_few l.dl_bytes l seen a e)) (from_most l turns (a ∷ seen) (first_link s a) gs))))
      (eq_then k (kind_at s a) kind_hl _ _
      (passed_then k (list_in l.hl_bytes l s seen a) fs _ (λ _.
      most_more (length fs + turns * 17592186044416) k (omega arith) (from_most l turns (a ∷ seen) (first_link s a) fs)))
      ended))
      (λ j. most_more (length fs + 1) k (omega arith) (added_most l a (fragment s a j) fs)))))

  -- ---- with a greater limit
  module _ (m : ℕ) (more : file_limits.fragments ≤ m) where
    added-same : (a : ℕ) (f : Fragment) (fs : List Fragment) → n + length fs < file_limits.fragments → added (limits_of m) n a f fs ≡ added file_limits n a f fs
    unfolding added
    added-same a f fs h = sym (lt_yes _ _ _ _ (omega arith) refl) ∙ lt_yes _ _ _ _ h refl

    fragment-same : (a : ℕ) (fs : List Fragment) → n + length fs < file_limits.fragments → fragment_at c (limits_of m) s n a fs ≡ fragment_at c file_limits s n a fs
    unfolding fragment_at
    fragment-same a fs h =
        passed-same (header_in s a) fs _ _ (λ _.
        leaf_same (leaf_of c (kind_at s a)) (stopped 12 a fs) (stopped 12 a fs) _ _ refl (λ j. added-same a (fragment s a j) fs h))

    listed_same : (links p : ℕ) (fs : List Fragment) → n + length fs + links ≤ file_limits.fragments
        → listed c (limits_of m) s n links p fs ≡ listed c file_limits s n links p fs
    unfolding listed
    listed_same zero p fs h = refl
    listed_same (suc links) p fs h =
        ap (λ (v : Found). on_found (if_eq (le_at 8 s p) 0 (found fs) v) (λ gs. listed c (limits_of m) s n links (p + 8) gs))
        (fragment-same (le_at 8 s p) fs (omega arith))
        ∙ found-same (length fs + 1) (λ gs. listed c (limits_of m) s n links (p + 8) gs) (λ gs. listed c file_limits s n links (p + 8) gs)
        (eq_then (length fs + 1) (le_at 8 s p) 0 (found fs) (fragment_at c file_limits s n (le_at 8 s p) fs) (so {gs = fs} (omega arith)) (fragment_most file_limits (le_at 8 s p) fs))
        (λ gs l. listed_same links (p + 8) gs (omega arith))

    from-same : (turns : ℕ) (seen : List ℕ) (a : ℕ) (fs : List Fragment) → n + length fs + turns * 17592186044416 ≤ file_limits.fragments
        → chain_from c (limits_of m) turns s n seen a fs ≡ chain_from c file_limits turns s n seen a fs
    unfolding chain_from list_in
    from-same zero seen a fs h = refl
    from-same (suc turns) seen a fs h =
        let z = suc-mul turns 17592186044416 in
        let dl : on_passed (list_in file_limits.dl_bytes (limits_of m) s seen a) fs
        (on_found (listed c (limits_of m) s n (links_at s a - 1) (a + 32) fs) (λ gs. chain_from c (limits_of m) turns s n (a ∷ seen) (first_link s a) gs))
        ≡ on_passed (list_in file_limits.dl_bytes file_limits s seen a) fs
        (on_found (listed c file_limits s n (links_at s a - 1) (a + 32) fs) (λ gs. chain_from c file_limits turns s n (a ∷ seen) (first_link s a) gs)) =
        passed-same (list_in file_limits.dl_bytes file_limits s seen a) fs _ _ (λ e.
        let few = links_few file_limits.dl_bytes file_limits seen a e in
        ap (λ (v : Found). on_found v (λ gs. chain_from c (limits_of m) turns s n (a ∷ seen) (first_link s a) gs)) (listed_same (links_at s a - 1) (a + 32) fs (omega arith))
        ∙ found-same (length fs + (links_at s a - 1)) (λ gs. chain_from c (limits_of m) turns s n (a ∷ seen) (first_link s a) gs)
        (λ gs. chain_from c file_limits turns s n (a ∷ seen) (first_link s a) gs) (listed_most file_limits (links_at s a - 1) (a + 32) fs)
        (λ gs l. from-same turns (a ∷ seen) (first_link s a) gs (omega arith))) in
        let hl : on_passed (list_in file_limits.hl_bytes (limits_of m) s seen a) fs (chain_from c (limits_of m) turns s n (a ∷ seen) (first_link s a) fs)
        ≡ on_passed (list_in file_limits.hl_bytes file_limits s seen a) fs (chain_from c file_limits turns s n (a ∷ seen) (first_link s a) fs) =
        passed-same (list_in file_limits.hl_bytes file_limits s seen a) fs _ _ (λ _. from-same turns (a ∷ seen) (first_link s a) fs (omega arith)) in
        let node = leaf_same (leaf_of c (kind_at s a)) _ _ (λ j. added (limits_of m) n a (fragment s a j) fs) (λ j. added file_limits n a (fragment s a j) fs)
        (either_same (kind_at s a) (stopped 12 a fs) dl hl) (λ j. added-same a (fragment s a j) fs (omega arith)) in
        ap (λ (v : Found). if_eq a 0 (found fs) (pick (is_in a seen) (stopped 11 a fs) v)) (passed-same (header_in s a) fs _ _ (λ _. node))

    chain_same : (a : ℕ) → n + 4538783999459328 ≤ file_limits.fragments → chain c (limits_of m) s n a ≡ chain c file_limits s n a
    unfolding chain
    chain_same a h = from-same 258 [] a [] (omega arith)

  chain_most : (a : ℕ) → AtMost 4538783999459328 (chain c file_limits s n a)
  unfolding chain
  chain_most a = most_more (0 + 258 * 17592186044416) 4538783999459328 (omega arith) (from_most file_limits 258 [] a [])

-- ---- the walk

then_same : {A B : Type 0} (v : Checked A) (f g : A → Checked B) → ((x : A) → v ≡ ok x → f x ≡ g x) → and_then v f ≡ and_then v g
then_same (ok x) f g h = h x refl
then_same (refused number place) f g h = refl

-- CG and CN chains leave the fragments
level_keeps : (k : Level) (below : ℕ → Source → Checked Source) (s : List ℕ)
    → ((a : ℕ) (st st' : Source) → below a st ≡ ok st' → st'.fragments ≡ st.fragments)
    → (t a : ℕ) (st st' : Source) → level k below t s a st ≡ ok st' → st'.fragments ≡ st.fragments
unfolding level entered
level_keeps k below s h zero a st st' e = absurd (refused≢ok e)
level_keeps k below s h (suc t) a st st' e = go (eqb a 0) refl (λ x q. level_keeps k below s h t (link_at s a 0) x st' q)
  where
    go : (b : Bool) → eqb a 0 ≡ b → ((x : Source) → level k below t s (link_at s a 0) x ≡ ok st' → st'.fragments ≡ x.fragments)
        → st'.fragments ≡ st.fragments
    go true q more = ap (λ (x : Source). x.fragments) (sym (ok_same (eq_yes _ _ _ _ (eqb-true a 0 q) refl ∙ e)))
    go false q more =
        let d = eq_no _ _ _ _ (eqb-false a 0 q) refl ∙ e in
        let v = then_fine (visit k s st a) _ d in
        let b = then_ok (below a (entered k a st)) _ v.1 in
        more b.0 b.2 ∙ h a (entered k a st) b.0 b.1

cn_keeps : (s : List ℕ) (a : ℕ) (st st' : Source) → below_cn s a st ≡ ok st' → st'.fragments ≡ st.fragments
unfolding below_cn
cn_keeps s a st st' e = ap (λ (x : Source). x.fragments) (sym (ok_same (then_fine (name_at s (link_at s a 2)) _ e).1))

cg_keeps : (s : List ℕ) (a : ℕ) (st st' : Source) → below_cg s a st ≡ ok st' → st'.fragments ≡ st.fragments
unfolding below_cg
cg_keeps s a st st' e =
    level_keeps level_cn (below_cn s) s (cn_keeps s) turns (link_at s a 1) st st' (then_fine (name_at s (link_at s a 2)) _ e).1

module _ (s : List ℕ) (short : length s < 140737488355328) where
  -- a DG brings so many at most
  with_most : {v : Found} (k : ℕ) (st st' : Source) → AtMost k v → with_found v st ≡ ok st' → length st'.fragments ≤ length st.fragments + k
  with_most k st st' (so {gs} l) e =
      let q : length st'.fragments ≡ length (st.fragments ++ gs) = ap (λ (x : Source). length x.fragments) (sym (ok_same e)) in
      omega (arith, q, length-append st.fragments gs)
  with_most k st st' ended e = absurd (refused≢ok e)

  dg_most : (a : ℕ) (st st' : Source) → below_dg file_limits s a st ≡ ok st' → length st'.fragments ≤ length st.fragments + 4538783999459328
  unfolding below_dg
  dg_most a st st' e =
      let b = then_ok (with_found (chain records file_limits s (length st.fragments) (link_at s a 2)) st) _ e in
      let i = then_fine (id_size_in s a) _ b.2 in
      let q = level_keeps level_cg (below_cg s) s (cg_keeps s) turns (link_at s a 1) b.0 st' i.1 in
      omega (arith, ap length q, with_most 4538783999459328 st b.0 (chain_most records s short (length st.fragments) (link_at s a 2)) b.1)

  module _ (m : ℕ) (more : file_limits.fragments ≤ m) where
    dg-same : (a : ℕ) (st : Source) → length st.fragments + 4538783999459328 ≤ file_limits.fragments → below_dg (limits_of m) s a st ≡ below_dg file_limits s a st
    unfolding below_dg
    dg-same a st h = rw (chain_same records s short (length st.fragments) m more (link_at s a 2) h)

    level-same : (t a : ℕ) (st : Source) → length st.fragments + t * 4538783999459328 ≤ file_limits.fragments
        → level level_dg (below_dg (limits_of m) s) t s a st ≡ level level_dg (below_dg file_limits s) t s a st
    unfolding level entered
    level-same zero a st h = refl
    level-same (suc t) a st h =
        let z = suc-mul t 4538783999459328 in
        ap (λ (v : Checked Source). if_eq a 0 (ok st) v)
        (then_same (visit level_dg s st a) _ _ (λ _ _.
        ap (λ (v : Checked Source). and_then v (λ x. level level_dg (below_dg (limits_of m) s) t s (link_at s a 0) x)) (dg-same a (entered level_dg a st) (enters a st (omega arith)))
        ∙ then_same (below_dg file_limits s a (entered level_dg a st)) _ _ (λ x e.
        level-same t (link_at s a 0) x (omega (arith, dg_most a (entered level_dg a st) x e, entered-same a st)))))
      where
        entered-same : (a : ℕ) (st : Source) → length (entered level_dg a st).fragments ≡ length st.fragments
        entered-same a st = refl

        enters : (a : ℕ) (st : Source) → length st.fragments + 4538783999459328 ≤ file_limits.fragments
            → length (entered level_dg a st).fragments + 4538783999459328 ≤ file_limits.fragments
        enters a st h = h

    -- no limit on fragments
    pub fragments_unlimited : walk_of (limits_of m) s ≡ walk_of file_limits s
    unfolding walk_of
    fragments_unlimited = then_same (block_at HD s 64) _ _ (λ _ _. level-same turns (link_at s 64 0) (source [] []) (omega arith))
