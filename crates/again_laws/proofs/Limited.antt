-- Document 01's limits against those of the reader: for every image the walk with the former is that with the latter, or refuses with 9 or 19; so is a
-- chain.
use Prim.Native.Nat.{ℕ, zero, suc, ◌+◌, ◌*◌, ◌-◌, ◌≤◌}
use mathlib.Core.List.{List, [], ◌∷◌, ◌++◌}
use Rattle.std.specs.Prelude.{Bool, ◌≡◌, eqb}
use Rattle.std.proofs.Math.Bool.{true, false}
use Rattle.std.proofs.Math.Path.{refl, sym}
use Rattle.std.proofs.Common.{arith}
use Rattle.std.proofs.Math.Dec.{ltb}
use borrow.Author.Tests.{ltb-true, ltb-false}
use Rattle.std.proofs.Math.ListN.{length}
use Rattle.base.specs.Choice.{pick, if_lt, if_eq}
use Rattle.base.specs.ChoiceLaws.{lt_yes, lt_no}
use Rattle.base.specs.Field.{le_at}
use Rattle.base.specs.Checked.{Checked, ok, refused, and_then, Verdict, fine}
use Rattle.mdf.specs.Block.{HD, kind_dl, kind_hl, kind_at, size_at, links_at, link_at, first_link, header_in, length_in, block_at}
use Rattle.mdf.specs.Chain.{Kind, Fragment, fragment, Chain, Chain.records, Leaf, leaf, leaf_of, Found, found, stopped, on_found, on_passed, limits, file_limits, added, on_leaf, fragment_at, listed, is_in, list_in, chain_from, chain}
use Rattle.mdf.specs.Walk.{Source, source, level_dg, level_cg, visit, entered, level, turns, below_cg, id_size_in, with_found, below_dg, walk_of, walk}
use Rattle.result.specs.Member.{In, here, there}
use Rattle.again_laws.specs.Gives.{Less, alike, sooner, less_then}
use Rattle.again_laws.specs.Limited.{closer, FoundLess, same, early}

found_then : {v w : Found} (f g : List Fragment → Found) → FoundLess w v → ((fs : List Fragment) → FoundLess (g fs) (f fs))
    → FoundLess (on_found w g) (on_found v f)
found_then {v} f g same k = go v
  where
    go : (u : Found) → FoundLess (on_found u g) (on_found u f)
    go (found fs) = k fs
    go (stopped n p fs) = same
found_then f g (early i) k = early i

leaf_less : (l : Leaf) (x y : Found) (f g : Kind → Found) → FoundLess y x → ((k : Kind) → FoundLess (g k) (f k)) → FoundLess (on_leaf l y g) (on_leaf l x f)
leaf_less Leaf.none x y f g h k = h
leaf_less (leaf j) x y f g h k = k j

passed_less : (v : Verdict) (fs : List Fragment) (x y : Found) → FoundLess y x → FoundLess (on_passed v fs y) (on_passed v fs x)
passed_less (ok u) fs x y h = h
passed_less (refused n p) fs x y h = same

-- a verdict that is the other's, or comes sooner
verdict_less : {v w : Verdict} (fs : List Fragment) (x y : Found) → Less closer w v → FoundLess y x → FoundLess (on_passed w fs y) (on_passed v fs x)
verdict_less {v} fs x y alike h = passed_less v fs x y h
verdict_less fs x y (sooner i) h = early i

eq_less : (m n : ℕ) (a x y : Found) → FoundLess y x → FoundLess (if_eq m n a y) (if_eq m n a x)
unfolding if_eq
eq_less m n a x y h = go (eqb m n)
  where
    go : (t : Bool) → FoundLess (pick t a y) (pick t a x)
    go true = same
    go false = h

eq_both : (m n : ℕ) (a b x y : Found) → FoundLess b a → FoundLess y x → FoundLess (if_eq m n b y) (if_eq m n a x)
unfolding if_eq
eq_both m n a b x y g h = go (eqb m n)
  where
    go : (t : Bool) → FoundLess (pick t b y) (pick t a x)
    go true = g
    go false = h

pick_less : (t : Bool) (a x y : Found) → FoundLess y x → FoundLess (pick t a y) (pick t a x)
pick_less true a x y h = same
pick_less false a x y h = h

-- ---- a chain, n fragments found before it, or m where the reader reads
module _ (c : Chain) (s : List ℕ) (m n : ℕ) (h : m ≤ n) where
  added_less : (a : ℕ) (f : Fragment) (fs : List Fragment) → FoundLess (added file_limits m a f fs) (added limits n a f fs)
  unfolding added
  added_less a f fs = go (ltb (n + length fs) 1024) refl
    where
      go : (t : Bool) → ltb (n + length fs) 1024 ≡ t → FoundLess (added file_limits m a f fs) (added limits n a f fs)
      go true q =
          let l = ltb-true (n + length fs) 1024 q in
          let e : added limits n a f fs ≡ found (fs ++ (f ∷ [])) = sym (lt_yes _ _ _ _ l refl) in
          let g : added file_limits m a f fs ≡ found (fs ++ (f ∷ [])) = sym (lt_yes _ _ _ _ (omega arith) refl) in
          rw (e, g) same
      go false q =
          let e : added limits n a f fs ≡ stopped 19 a fs = sym (lt_no _ _ _ _ (ltb-false (n + length fs) 1024 q) refl) in
          rw e (early (there here))

  fragment_less : (a : ℕ) (fs : List Fragment) → FoundLess (fragment_at c file_limits s m a fs) (fragment_at c limits s n a fs)
  unfolding fragment_at
  fragment_less a fs =
      passed_less (header_in s a) fs _ _
      (leaf_less (leaf_of c (kind_at s a)) (stopped 12 a fs) (stopped 12 a fs) (λ k. added limits n a (fragment s a k) fs) (λ k. added file_limits m a (fragment s a k) fs) same
      (λ k. added_less a (fragment s a k) fs))

  listed_less : (links p : ℕ) (fs : List Fragment) → FoundLess (listed c file_limits s m links p fs) (listed c limits s n links p fs)
  unfolding listed
  listed_less zero p fs = same
  listed_less (suc links) p fs =
      found_then (λ gs. listed c limits s n links (p + 8) gs) (λ gs. listed c file_limits s m links (p + 8) gs)
      (eq_less (le_at 8 s p) 0 (found fs) (fragment_at c limits s n (le_at 8 s p) fs) (fragment_at c file_limits s m (le_at 8 s p) fs) (fragment_less (le_at 8 s p) fs))
      (λ gs. listed_less links (p + 8) gs)

  -- 9 of a DL
  length_less : (a : ℕ) → Less closer (length_in file_limits.dl_bytes s a) (length_in limits.dl_bytes s a)
  unfolding length_in
  length_less a = go (ltb (size_at s a) (24 + 8 * links_at s a)) (ltb 268435456 (size_at s a)) refl refl
    where
      go : (t u : Bool) → ltb (size_at s a) (24 + 8 * links_at s a) ≡ t → ltb 268435456 (size_at s a) ≡ u
          → Less closer (length_in file_limits.dl_bytes s a) (length_in limits.dl_bytes s a)
      go true u q r =
          let l = ltb-true _ _ q in
          let e : length_in limits.dl_bytes s a ≡ refused 8 a = sym (lt_yes _ _ _ _ l refl) in
          let g : length_in file_limits.dl_bytes s a ≡ refused 8 a = sym (lt_yes _ _ _ _ l refl) in
          rw (e, g) alike
      go false true q r =
          let e : length_in limits.dl_bytes s a ≡ refused 9 a = sym (lt_no _ _ _ _ (ltb-false _ _ q) (lt_yes _ _ _ _ (ltb-true _ _ r) refl)) in
          rw e (sooner here)
      go false false q r =
          let k : size_at s a ≤ 268435456 = ltb-false _ _ r in
          let rest : Verdict = if_lt (length s) (a + size_at s a) (refused 4 a) fine in
          let e : length_in limits.dl_bytes s a ≡ rest = sym (lt_no _ _ _ _ (ltb-false _ _ q) (lt_no _ _ _ _ k refl)) in
          let g : length_in file_limits.dl_bytes s a ≡ rest = sym (lt_no _ _ _ _ (ltb-false _ _ q) (lt_no _ _ _ _ (omega arith) refl)) in
          rw (e, g) alike

  list_less : (seen : List ℕ) (a : ℕ) → Less closer (list_in file_limits.dl_bytes file_limits s seen a) (list_in limits.dl_bytes limits s seen a)
  unfolding list_in
  list_less seen a = less_then (λ _. if_lt (length seen) 256 fine (refused 19 a)) (λ _. if_lt (length seen) 256 fine (refused 19 a)) (length_less a) (λ _. alike)

  from_less : (k : ℕ) (seen : List ℕ) (a : ℕ) (fs : List Fragment) → FoundLess (chain_from c file_limits k s m seen a fs) (chain_from c limits k s n seen a fs)
  unfolding chain_from list_in
  from_less zero seen a fs = same
  from_less (suc k) seen a fs =
      eq_less a 0 (found fs) _ _
      (pick_less (is_in a seen) (stopped 11 a fs) _ _
      (passed_less (header_in s a) fs _ _
      (leaf_less (leaf_of c (kind_at s a)) _ _ (λ j. added limits n a (fragment s a j) fs) (λ j. added file_limits m a (fragment s a j) fs)
      (eq_both (kind_at s a) kind_dl _ _ _ _
      (verdict_less fs _ _ (list_less seen a)
      (found_then (λ gs. chain_from c limits k s n (a ∷ seen) (first_link s a) gs) (λ gs. chain_from c file_limits k s m (a ∷ seen) (first_link s a) gs)
      (listed_less (links_at s a - 1) (a + 32) fs) (λ gs. from_less k (a ∷ seen) (first_link s a) gs)))
      (eq_both (kind_at s a) kind_hl _ _ (stopped 12 a fs) (stopped 12 a fs)
      (passed_less (list_in limits.hl_bytes limits s seen a) fs _ _ (from_less k (a ∷ seen) (first_link s a) fs))
      same))
      (λ j. added_less a (fragment s a j) fs))))

  -- of every image
  pub chain_less : (a : ℕ) → FoundLess (chain c file_limits s m a) (chain c limits s n a)
  unfolding chain
  chain_less a = from_less 258 [] a []

-- ---- the walk
with_less : {v w : Found} (st : Source) → FoundLess w v → Less closer (with_found w st) (with_found v st)
with_less st same = alike
with_less st (early i) = sooner i

dg_less : (s : List ℕ) (a : ℕ) (st : Source) → Less closer (below_dg file_limits s a st) (below_dg limits s a st)
unfolding below_dg
dg_less s a st =
    less_then (λ st'. and_then (id_size_in s a) (λ _. level level_cg (below_cg s) turns s (link_at s a 1) st'))
    (λ st'. and_then (id_size_in s a) (λ _. level level_cg (below_cg s) turns s (link_at s a 1) st'))
    (with_less st (chain_less records s (length st.fragments) (length st.fragments) (omega arith) (link_at s a 2))) (λ st'. alike)

eq_checked : {A : Type 0} (m n : ℕ) (a x y : Checked A) → Less closer y x → Less closer (if_eq m n a y) (if_eq m n a x)
unfolding if_eq
eq_checked m n a x y h = go (eqb m n)
  where
    go : (t : Bool) → Less closer (pick t a y) (pick t a x)
    go true = alike
    go false = h

level_less : (s : List ℕ) (t a : ℕ) (st : Source)
    → Less closer (level level_dg (below_dg file_limits s) t s a st) (level level_dg (below_dg limits s) t s a st)
unfolding level
level_less s zero a st = alike
level_less s (suc t) a st =
    eq_checked a 0 (ok st) _ _
    (less_then {v = visit level_dg s st a} _ _ alike (λ _.
    less_then (λ st'. level level_dg (below_dg limits s) t s (link_at s a 0) st') (λ st'. level level_dg (below_dg file_limits s) t s (link_at s a 0) st')
    (dg_less s a (entered level_dg a st)) (λ st'. level_less s t (link_at s a 0) st')))

-- "9 .. 19": of every image, the walk of a recording is the reader's, or refuses with one of these
pub walk_less : (s : List ℕ) → Less closer (walk_of file_limits s) (walk s)
unfolding walk_of
walk_less s =
    less_then {v = block_at HD s 64} (λ _. level level_dg (below_dg limits s) turns s (link_at s 64 0) (source [] []))
    (λ _. level level_dg (below_dg file_limits s) turns s (link_at s 64 0) (source [] [])) alike (λ _. level_less s turns (link_at s 64 0) (source [] []))
