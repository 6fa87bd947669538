-- What names, units, conversions, sources and comments of the result lead to: copies of the recording's blocks.
use Prim.{tt}
use Prim.Native.Nat.{ℕ, zero, suc, ◌+◌, ◌*◌, ◌^◌, ◌≤◌, ◌<◌}
use Rattle.std.specs.Prelude.{List, [], ◌∷◌, ◌++◌, Bool, true, false, ◌≡◌, eqb, length, get_or}
use Rattle.std.proofs.lemmas.Bool.{false≢true}
use Rattle.std.proofs.Math.Option.{Option, none, some}
use Rattle.std.proofs.Math.Path.{refl}
use Rattle.std.proofs.Common.{sym, ap, ◌∙◌, arith}
use Rattle.std.proofs.Math.Dec.{lit<}
use Rattle.base.specs.Choice.{pick, if_eq}
use Rattle.base.specs.ChoiceLaws.{eq_no}
use Rattle.base.specs.Field.{le_at, le}
use Rattle.mdf.specs.Block.{kind_at, size_at, links_at, link_at, data_at}
use Rattle.mdf.specs.Chain.{is_in}
use Rattle.plan.specs.Copies.{kind_fh, Copy, copy_of, lost_links}
use Rattle.result.specs.Fill.{header, words, or_zero, new_link, new_links, history_link, first_new, copied_links, data_of, copied_bytes}
use Rattle.result.specs.Links.{head_at}
use Rattle.result.specs.Names.{Leads, SameBlock, Follows, later, first, LinkDue}
use Rattle.result.specs.Guarantee.{Stands, In}
use Rattle.copies_laws.specs.LengthLaws.{length_data_of}
use Rattle.copies_laws.specs.MemoLaws.{none≢some, kind-copied, copied-kind, copy_in_lem, Followed, Made}
use Rattle.shown_laws.specs.Header.{block-kind, block_size_lem, block_links_lem, block-link, block_data}
use Rattle.shown_laws.specs.ImageBytes.{kind-below, size_below, links_below}

-- ---- the links of a copied block as words
unfoldable pub link_words : List ℕ → List Copy → ℕ → ℕ → List ℕ
link_words s memo zero p = []
link_words s memo (suc k) p = new_link memo (le_at 8 s p) ∷ link_words s memo k (p + 8)

pub words_links : (s : List ℕ) (memo : List Copy) (k p : ℕ) → words (link_words s memo k p) ≡ new_links s memo k p
unfolding words link_words new_links
words_links s memo zero p = refl
words_links s memo (suc k) p = ap (λ (l : List ℕ). le 8 (new_link memo (le_at 8 s p)) ++ l) (words_links s memo k (p + 8))

pub length-link_words : (s : List ℕ) (memo : List Copy) (k p : ℕ) → length (link_words s memo k p) ≡ k
unfolding link_words
length-link_words s memo zero p = refl
length-link_words s memo (suc k) p = ap suc (length-link_words s memo k (p + 8))

pub word-link : (s : List ℕ) (memo : List Copy) (k p i : ℕ) → i < k → get_or (link_words s memo k p) i 0 ≡ new_link memo (le_at 8 s (p + 8 * i))
unfolding link_words
word-link s memo zero p i h = absurd (omega arith)
word-link s memo (suc k) p zero h = ap (λ (q : ℕ). new_link memo (le_at 8 s q)) (omega arith)
word-link s memo (suc k) p (suc i) h = word-link s memo k (p + 8) i (omega arith) ∙ ap (λ (q : ℕ). new_link memo (le_at 8 s q)) (omega arith)

unfoldable copied_words : List ℕ → List ℕ → List Copy → ℕ → ℕ → ℕ → List ℕ
copied_words s chain memo fh a zero = []
copied_words s chain memo fh a (suc k) = first_new s memo a (history_link a chain memo fh) ∷ link_words s memo k (a + 32)

words_copied : (s chain : List ℕ) (memo : List Copy) (fh a k : ℕ) → words (copied_words s chain memo fh a k) ≡ copied_links s chain memo fh a k
unfolding words copied_words copied_links
words_copied s chain memo fh a zero = refl
words_copied s chain memo fh a (suc k) =
    ap (λ (l : List ℕ). le 8 (first_new s memo a (history_link a chain memo fh)) ++ l) (words_links s memo k (a + 32))

length-copied_words : (s chain : List ℕ) (memo : List Copy) (fh a k : ℕ) → length (copied_words s chain memo fh a k) ≡ k
unfolding copied_words
length-copied_words s chain memo fh a zero = refl
length-copied_words s chain memo fh a (suc k) = ap suc (length-link_words s memo k (a + 32))

-- a block that is not of the history has no link by it
no_history : (a : ℕ) (chain : List ℕ) (memo : List Copy) (fh : ℕ) → is_in a chain ≡ false → history_link a chain memo fh ≡ none
unfolding is_in history_link if_eq
no_history a [] memo fh e = refl
no_history a (b ∷ []) memo fh e = go (eqb b a) e
  where
    go : (t : Bool) → pick t true false ≡ false → pick t (some fh) none ≡ none
    go true h = absurd (false≢true (sym h))
    go false h = refl
no_history a (b ∷ c ∷ bs) memo fh e = go (eqb b a) (λ h. no_history a (c ∷ bs) memo fh h) e
  where
    go : (t : Bool) → (is_in a (c ∷ bs) ≡ false → history_link a (c ∷ bs) memo fh ≡ none) → pick t true (is_in a (c ∷ bs)) ≡ false
        → pick t (some (new_link memo c)) (history_link a (c ∷ bs) memo fh) ≡ none
    go true f h = absurd (false≢true (sym h))
    go false f h = f h

-- a link that is followed is led to the copy
word_copied : (s chain : List ℕ) (memo : List Copy) (fh a k i : ℕ) → i < k → Follows s chain a i
    → get_or (copied_words s chain memo fh a k) i 0 ≡ new_link memo (link_at s a i)
unfolding copied_words link_at
word_copied s chain memo fh a zero i h w = absurd (omega arith)
word_copied s chain memo fh a (suc k) zero h (first z e) =
    rw (no_history a chain memo fh e) (sym (eq_no (kind_at s a) kind_fh 0 (new_link memo (link_at s a 0)) z refl))
word_copied s chain memo fh a (suc k) (suc i) h later =
    word-link s memo k (a + 32) i (omega arith) ∙ ap (λ (q : ℕ). new_link memo (le_at 8 s q)) (omega arith)

word_first : (s chain : List ℕ) (memo : List Copy) (fh a k : ℕ) → 0 < k
    → get_or (copied_words s chain memo fh a k) 0 0 ≡ first_new s memo a (history_link a chain memo fh)
unfolding copied_words
word_first s chain memo fh a zero h = absurd (omega arith)
word_first s chain memo fh a (suc k) h = refl

-- such a link is not the one that an FH loses
lost : (s : List ℕ) (chain : List ℕ) (a i : ℕ) → Follows s chain a i → lost_links s a ≤ i
unfolding lost_links if_eq
lost s chain a (suc i) later = go (eqb (kind_at s a) kind_fh)
  where
    go : (t : Bool) → pick t 1 0 ≤ suc i
    go true = omega arith
    go false = omega arith
lost s chain a zero (first z e) = let none : ◌≡◌ {A = ℕ} 0 (if_eq (kind_at s a) kind_fh 1 0) = eq_no (kind_at s a) kind_fh 1 0 z refl in omega arith

copied_shape : (s chain : List ℕ) (memo : List Copy) (fh a : ℕ)
    → copied_bytes s chain memo fh a
    ≡ header (kind_at s a) (size_at s a) (length (copied_words s chain memo fh a (links_at s a)))
    ++ words (copied_words s chain memo fh a (links_at s a)) ++ data_of s a
unfolding copied_bytes
copied_shape s chain memo fh a = rw (length-copied_words s chain memo fh a (links_at s a), words_copied s chain memo fh a (links_at s a))

-- ---- every copy of the table stands in the file
pub record CopyStands (s f chain : List ℕ) (memo : List Copy) (fh : ℕ) (c : Copy) : Type 0 where
  pub stands : Stands f c.to (copied_bytes s chain memo fh c.from)
  pub above : 0 < c.to
  pub below : c.to < 256 ^ 8
  pub made : Made s memo c

module _ (s f : List ℕ) (bytes : (i : ℕ) → get_or s i 0 < 256) (chain : List ℕ) (memo : List Copy) (fh : ℕ)
    (all : (c : Copy) → In c memo → CopyStands s f chain memo fh c) where
  pub new_small : (a : ℕ) → new_link memo a < 256 ^ 8
  unfolding new_link
  new_small a = go (copy_of a memo) refl
    where
      go : (o : Option ℕ) → copy_of a memo ≡ o → or_zero o < 256 ^ 8
      go none e = lit< tt
      go (some t) e = (all _ (copy_in_lem a t memo e)).below

  module _ (a t : ℕ) (e : copy_of a memo ≡ some t) where
    it : CopyStands s f chain memo fh (record { from = a; to = t })
    it = all _ (copy_in_lem a t memo e)

    ws : List ℕ
    ws = copied_words s chain memo fh a (links_at s a)

    few : length ws ≡ links_at s a
    unfolding ws
    few = length-copied_words s chain memo fh a (links_at s a)

    shaped : Stands f t (header (kind_at s a) (size_at s a) (length ws) ++ words ws ++ data_of s a)
    unfolding ws
    shaped = rw (copied_shape s chain memo fh a) at it.stands

    copy-kind : kind_at f t ≡ kind_at s a
    copy-kind = block-kind (kind_at s a) (size_at s a) ws (data_of s a) shaped (kind-below s bytes a)

    copy-size : size_at f t ≡ size_at s a
    copy-size = block_size_lem (kind_at s a) (size_at s a) ws (data_of s a) shaped (size_below s bytes a)

    copy_links_lem : links_at f t ≡ links_at s a
    copy_links_lem = block_links_lem (kind_at s a) (size_at s a) ws (data_of s a) shaped (rw few (links_below s bytes a)) ∙ few

    copy_data : Stands f (data_at f t) (data_of s a)
    copy_data = block_data (kind_at s a) (size_at s a) ws (data_of s a) shaped (rw few (links_below s bytes a))

    pub same_block : SameBlock s f a t
    unfolding head_at data_of
    same_block =
        record {
          nonzero = λ z. omega (arith, it.above);
          head = rw (copy-kind, copy-size, copy_links_lem);
          rest = rw (copy-size, copy_links_lem) (rw (length_data_of s a it.made.whole.range it.made.whole.within) at copy_data.is);
        }

    copy-link : (i : ℕ) → i < links_at s a → Follows s chain a i → link_at f t i ≡ new_link memo (link_at s a i)
    unfolding ws
    copy-link i h w =
        let v = word_copied s chain memo fh a (links_at s a) i h w in
        block-link (kind_at s a) (size_at s a) ws (data_of s a) shaped i (rw few h) (rw v (new_small (link_at s a i))) ∙ v

    -- its first link, whatever that is
    pub copy-first : 0 < links_at s a → first_new s memo a (history_link a chain memo fh) < 256 ^ 8
        → link_at f t 0 ≡ first_new s memo a (history_link a chain memo fh)
    unfolding ws
    copy-first h b =
        let v = word_first s chain memo fh a (links_at s a) h in
        block-link (kind_at s a) (size_at s a) ws (data_of s a) shaped 0 (rw few h) (rw v b) ∙ v

    -- what it links to is copied too
    copy_follows : (i : ℕ) → i < links_at s a → Follows s chain a i → Followed s memo (link_at s a i)
    copy_follows i h w = it.made.links i (lost s chain a i w) h

  -- a link whose block isn't copied leads to none of a copied kind, and one whose block is leads to such
  no_copy : (a : ℕ) → Followed s memo a → copy_of a memo ≡ none → Leads s a → ⊥
  no_copy a follows e l = none≢some (sym e ∙ (follows l.nonzero (kind-copied (kind_at s a) l.kind)).1)

  a_copy : (a t : ℕ) → copy_of a memo ≡ some t → Leads s a
  a_copy a t e = let m = (all _ (copy_in_lem a t memo e)).made in record { nonzero = m.nonzero; kind = copied-kind (kind_at s a) m.kind }

  -- what stands for a link whose block is copied, if it is to be copied
  pub link-due : (k a : ℕ) → Followed s memo a → LinkDue k s f chain a (new_link memo a)
  unfolding LinkDue new_link
  link-due zero a follows = tt
  link-due (suc k) a follows = go (copy_of a memo) refl (λ b g. link-due k b g)
    where
      go : (o : Option ℕ) → copy_of a memo ≡ o → ((b : ℕ) → Followed s memo b → LinkDue k s f chain b (new_link memo b))
          → LinkDue (suc k) s f chain a (or_zero o)
      go none e deeper = (λ _. refl, λ l. absurd (no_copy a follows e l), λ l. absurd (no_copy a follows e l))
      go (some t) e deeper = (
        λ n. absurd (n (a_copy a t e)),
        λ _. same_block a t e,
        λ _ i h w. rw (copy-link a t e i h w) (deeper (link_at s a i) (copy_follows a t e i h w)),
      )
