-- A list of fragments that was begun goes in front of what is found after it.
use Prim.Native.Nat.{ℕ, zero, suc, ◌+◌, ◌-◌}
use Rattle.std.specs.Prelude.{◌≡◌, refl, Bool, true, false, List, [], ◌∷◌, ◌++◌, length, ltb, eqb}
use Rattle.std.proofs.Common.{sym, ap, ◌∙◌, append-nil, add-zero, arith, length-append}
use Rattle.base.specs.Choice.{pick, if_lt, if_eq}
use Rattle.base.specs.Field.{le_at}
use Rattle.base.specs.Checked.{ok, refused, Verdict}
use Rattle.mdf.specs.Block.{kind_dl, kind_hl, kind_at, links_at, first_link, header_in}
use Rattle.mdf.specs.Chain.{Kind, Fragment, fragment, Chain, Leaf, leaf, none, leaf_of, Found, found, stopped, on_found, on_passed, on_leaf}
use Rattle.mdf.specs.Chain.{Limits, added, fragment_at, listed, is_in, list_in, chain_from}
use Rattle.chains.specs.KeptLaws.{onto, onto-onto}

pub record Onto (fs : List Fragment) (g h : Found) : Type 0 where
  pub is : g ≡ onto fs h

onto_stop : (fs : List Fragment) (x p : ℕ) → Onto fs (stopped x p fs) (stopped x p [])
onto_stop fs x p = record { is = rw append-nil }

onto_end : (fs : List Fragment) → Onto fs (found fs) (found [])
onto_end fs = record { is = rw append-nil }

module _ {fs : List Fragment} {g h g' h' : Found} (e : Onto fs g h) (e' : Onto fs g' h') where
  onto-pick : (t : Bool) → Onto fs (pick t g g') (pick t h h')
  onto-pick true = e
  onto-pick false = e'

  onto_eq : (m n : ℕ) → Onto fs (if_eq m n g g') (if_eq m n h h')
  unfolding if_eq
  onto_eq m n = onto-pick (eqb m n)

  onto_lt : (m n : ℕ) → Onto fs (if_lt m n g g') (if_lt m n h h')
  unfolding if_lt
  onto_lt m n = onto-pick (ltb m n)

module _ {fs : List Fragment} {g h : Found} (e : Onto fs g h) where
  onto-passed : (v : Verdict) → Onto fs (on_passed v fs g) (on_passed v [] h)
  onto-passed (ok u) = e
  onto-passed (refused x p) = onto_stop fs x p

  onto_leaf : (x : Leaf) {f f' : Kind → Found} → ((k : Kind) → Onto fs (f k) (f' k)) → Onto fs (on_leaf x g f) (on_leaf x h f')
  onto_leaf none q = e
  onto_leaf (leaf k) q = q k

onto-found : {fs : List Fragment} {g h : Found} (f f' : List Fragment → Found) → Onto fs g h
    → ((gs : List Fragment) → Onto fs (f (fs ++ gs)) (f' gs)) → Onto fs (on_found g f) (on_found h f')
onto-found {h = found gs} f f' e q = record { is = rw e.is (q gs).is }
onto-found {h = stopped x p gs} f f' e q = record { is = rw e.is }

-- where F does so from nothing, it does so from any list
onto-more : (F : ℕ → List Fragment → Found) → ((n : ℕ) (fs : List Fragment) → Onto fs (F n fs) (F (n + length fs) []))
    → (n : ℕ) (fs gs : List Fragment) → Onto fs (F n (fs ++ gs)) (F (n + length fs) gs)
onto-more F h n fs gs =
    let e : n + length (fs ++ gs) ≡ n + length fs + length gs = simp length-append (omega arith) in
    record {
      is = (h n (fs ++ gs)).is ∙ rw e (sym (onto-onto fs gs (F (n + length fs + length gs) []))) ∙ ap (onto fs) (sym (h (n + length fs) gs).is);
    }

added-onto : (l : Limits) (n a : ℕ) (f : Fragment) (fs : List Fragment) → Onto fs (added l n a f fs) (added l (n + length fs) a f [])
unfolding added
added-onto l n a f fs = rw add-zero (onto_lt (record { is = refl }) (onto_stop fs 19 a) (n + length fs) l.fragments)

module _ (c : Chain) (l : Limits) (s : List ℕ) where
  pub fragment-onto : (a n : ℕ) (fs : List Fragment) → Onto fs (fragment_at c l s n a fs) (fragment_at c l s (n + length fs) a [])
  unfolding fragment_at
  fragment-onto a n fs =
      onto-passed (onto_leaf (onto_stop fs 12 a) (leaf_of c (kind_at s a)) (λ k. added-onto l n a (fragment s a k) fs)) (header_in s a)

  pub listed-onto : (links p n : ℕ) (fs : List Fragment) → Onto fs (listed c l s n links p fs) (listed c l s (n + length fs) links p [])
  unfolding listed
  listed-onto zero p n fs = onto_end fs
  listed-onto (suc k) p n fs =
      onto-found _ _ (onto_eq (onto_end fs) (fragment-onto (le_at 8 s p) n fs) (le_at 8 s p) 0)
      (onto-more (λ m gs. listed c l s m k (p + 8) gs) (listed-onto k (p + 8)) n fs)

  pub chain-onto : (turns : ℕ) (seen : List ℕ) (a n : ℕ) (fs : List Fragment)
      → Onto fs (chain_from c l turns s n seen a fs) (chain_from c l turns s (n + length fs) seen a [])
  unfolding chain_from
  chain-onto zero seen a n fs = onto_stop fs 19 a
  chain-onto (suc k) seen a n fs =
      let rest = chain-onto k (a ∷ seen) (first_link s a) in
      let dl = onto-found _ _ (listed-onto (links_at s a - 1) (a + 32) n fs)
      (onto-more (λ m gs. chain_from c l k s m (a ∷ seen) (first_link s a) gs) rest n fs) in
      let lists = onto_eq (onto-passed dl (list_in l.dl_bytes l s seen a))
      (onto_eq (onto-passed (rest n fs) (list_in l.hl_bytes l s seen a)) (onto_stop fs 12 a) (kind_at s a) kind_hl) (kind_at s a) kind_dl in
      let node = onto_leaf lists (leaf_of c (kind_at s a)) (λ k. added-onto l n a (fragment s a k) fs) in
      onto_eq (onto_end fs) (onto-pick (onto_stop fs 11 a) (onto-passed node (header_in s a)) (is_in a seen)) a 0
