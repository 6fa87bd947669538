-- The links of a result are good: each leads to none, to a copied block, to the new MD or to the new FH, all whole, whose links are again such.
use Prim.{tt}
use Prim.Native.Nat.{ℕ, zero, suc, ◌+◌, ◌*◌, ◌-◌, ◌^◌, ◌≤◌, ◌<◌}
use mathlib.Core.List.{List, [], ◌∷◌, ◌++◌}
use Rattle.std.specs.Prelude.{Bool, true, false, ◌≡◌, refl, eqb, length, get_or}
use Rattle.std.proofs.Math.Option.{Option, none, some}
use Rattle.std.proofs.Math.Path.{sym}
use Rattle.std.proofs.Common.{ap, subst, ◌∙◌, lit<, length-append}
use native.Mathlib.Omega.{arith}
use Rattle.base.specs.Choice.{pick, if_eq}
use Rattle.base.specs.ChoiceLaws.{lt_yes, lt_no, le_yes, eq_yes}
use Rattle.base.specs.Checked.{fine}
use Rattle.base.specs.Field.{le_at, le}
use Rattle.base.specs.FieldLaws.{length-le}
use Rattle.mdf.specs.Block.{kind_md, kind_at, size_at, links_at, link_at, first_link, header_in, length_in, whole_at}
use Rattle.plan.specs.Copies.{kind_fh, Copy, copy_of, lost_links}
use Rattle.plan.specs.Geometry.{align8}
use Rattle.plan.specs.Layout.{md_size}
use Rattle.result.specs.Fill.{header, words, or_zero, new_link, new_links, history_link, first_new, copied_links, data_of, copied_bytes, md_bytes, fh_bytes}
use Rattle.result.specs.Links.{Head, head_at}
use Rattle.result.specs.Names.{HistoryDue}
use Rattle.result.specs.Guarantee.{Stands, In, here, there}
use Rattle.copies_laws.specs.AnswerLaws.{Whole, on_eq}
use Rattle.copies_laws.specs.LengthLaws.{length-copied, length_md, length_fh}
use Rattle.copies_laws.specs.LayoutLaws.{md_near}
use Rattle.copies_laws.specs.MemoLaws.{copy_in_lem}
use Rattle.shown_laws.specs.Header.{length-header, header-kind, header-size, header_links_lem, read_word}
use Rattle.shown_laws.specs.Joined.{stands_inside}
use Rattle.shown_laws.specs.Standing.{stands_front, stands_at, read}
use Rattle.guarantee.specs.Named.{link_words, words_links, length-link_words, word-link, CopyStands, new_small, same_block, copy-first}

-- a block inside of the file, with room for its links, of no more than the most bytes
pub header-fine : (f : List ℕ) (a : ℕ) → a + 24 ≤ length f → header_in f a ≡ fine
unfolding header_in
header-fine f a h = sym (le_yes _ _ _ _ h refl)

length-fine : (f : List ℕ) (a : ℕ) → 24 + 8 * links_at f a ≤ size_at f a → size_at f a ≤ 268435456 → a + size_at f a ≤ length f → length_in 268435456 f a ≡ fine
unfolding length_in
length-fine f a fits short inside = sym (lt_no _ _ _ _ fits (lt_no _ _ _ _ short (lt_no _ _ _ _ inside refl)))

pub whole_fine : (f : List ℕ) (a : ℕ) → 24 + 8 * links_at f a ≤ size_at f a → size_at f a ≤ 268435456 → a + size_at f a ≤ length f → whole_at f a ≡ fine
unfolding whole_at
whole_fine f a fits short inside = rw (header-fine f a (omega arith)) (length-fine f a fits short inside)

head-size : (f s : List ℕ) (a b : ℕ) → head_at f b ≡ head_at s a → size_at f b ≡ size_at s a
unfolding head_at
head-size f s a b e = ap (λ (h : Head). h.size) e

pub head_links : (f s : List ℕ) (a b : ℕ) → head_at f b ≡ head_at s a → links_at f b ≡ links_at s a
unfolding head_at
head_links f s a b e = ap (λ (h : Head). h.links) e

-- where a link of a result leads
pub data Good (memo : List Copy) (md fh : ℕ) (b : ℕ) : Type 0 where
  nowhere : b ≡ 0 → Good memo md fh b
  copied : (a : ℕ) → copy_of a memo ≡ some b → Good memo md fh b
  text : b ≡ md → Good memo md fh b
  entry : b ≡ fh → Good memo md fh b

-- what was copied, or nothing
pub new_good : (memo : List Copy) (md fh a : ℕ) → Good memo md fh (new_link memo a)
unfolding new_link
new_good memo md fh a = go (copy_of a memo) refl
  where
    go : (o : Option ℕ) → copy_of a memo ≡ o → Good memo md fh (or_zero o)
    go none e = nowhere refl
    go (some t) e = copied a e

-- by the history
history-good : (memo : List Copy) (md fh a : ℕ) (chain : List ℕ) (x : ℕ) → history_link a chain memo fh ≡ some x → Good memo md fh x
unfolding history_link if_eq
history-good memo md fh a [] x e = absurd (let z : ◌≡◌ {A = ℕ} 0 1 = cc in omega arith)
history-good memo md fh a (b ∷ []) x e = go (eqb b a) e
  where
    go : (t : Bool) → pick t (some fh) none ≡ some x → Good memo md fh x
    go true q = let r : fh ≡ x = cc in entry (sym r)
    go false q = absurd (let z : ◌≡◌ {A = ℕ} 0 1 = cc in omega arith)
history-good memo md fh a (b ∷ c ∷ bs) x e = go (eqb b a) (history-good memo md fh a (c ∷ bs) x) e
  where
    go : (t : Bool) → (history_link a (c ∷ bs) memo fh ≡ some x → Good memo md fh x) → pick t (some (new_link memo c)) (history_link a (c ∷ bs) memo fh) ≡ some x
        → Good memo md fh x
    go true more q = let r : new_link memo c ≡ x = cc in subst (Good memo md fh) r (new_good memo md fh c)
    go false more q = more q

-- the first link of a copied block
first_new_good : (s : List ℕ) (memo : List Copy) (md fh a : ℕ) (chain : List ℕ) → Good memo md fh (first_new s memo a (history_link a chain memo fh))
first_new_good s memo md fh a chain = go (history_link a chain memo fh) refl
  where
    go : (o : Option ℕ) → history_link a chain memo fh ≡ o → Good memo md fh (first_new s memo a o)
    go none e = on_eq (Good memo md fh) (kind_at s a) kind_fh 0 (new_link memo (link_at s a 0)) (λ _. nowhere refl) (λ _. new_good memo md fh (link_at s a 0))
    go (some x) e = history-good memo md fh a chain x e

-- ---- blocks that stand
module _ (s f : List ℕ) (bytes : (i : ℕ) → get_or s i 0 < 256) (chain : List ℕ) (memo : List Copy) (md fh : ℕ)
    (all : (c : Copy) → In c memo → CopyStands s f chain memo fh c) (md_small : md < 256 ^ 8) (fh_small : fh < 256 ^ 8) where
  good-small : (b : ℕ) → Good memo md fh b → b < 256 ^ 8
  good-small b (nowhere e) = rw e (lit< tt)
  good-small b (copied a e) = (all _ (copy_in_lem a b memo e)).below
  good-small b (text e) = rw e md_small
  good-small b (entry e) = rw e fh_small

  -- ---- a copy
  module _ (a b : ℕ) (e : copy_of a memo ≡ some b) where
    it : CopyStands s f chain memo fh (record { from = a; to = b })
    it = all _ (copy_in_lem a b memo e)

    w : Whole s a
    w = it.made.whole

    copy-size : size_at f b ≡ size_at s a
    copy-size = head-size f s a b (same_block s f bytes chain memo fh all a b e).head

    pub copy_links_lem : links_at f b ≡ links_at s a
    copy_links_lem = head_links f s a b (same_block s f bytes chain memo fh all a b e).head

    copy_whole : whole_at f b ≡ fine
    copy_whole =
        let long = length-copied s chain memo fh a w in
        let inside = stands_inside (copied_bytes s chain memo fh a) it.stands (omega (arith, long, w.within)) in
        whole_fine f b (omega (arith, copy-size, copy_links_lem, w.within)) (omega (arith, copy-size, w.short)) (omega (arith, copy-size, long, inside))

    first_is_lem : 0 < links_at s a → link_at f b 0 ≡ first_new s memo a (history_link a chain memo fh)
    first_is_lem l = copy-first s f bytes chain memo fh all a b e l (good-small _ (first_new_good s memo md fh a chain))

    -- its later links
    links_stand : (k : ℕ) → links_at s a ≡ suc k → Stands f (b + 32) (new_links s memo k (a + 32))
    unfolding copied_bytes copied_links
    links_stand k q =
        let st : Stands f b (header (kind_at s a) (size_at s a) (suc k)
        ++ (le 8 (first_new s memo a (history_link a chain memo fh)) ++ new_links s memo k (a + 32)) ++ data_of s a) = rw q at it.stands in
        let front = stands_front _ (data_of s a) st in
        let links : Stands f (b + 24) (le 8 (first_new s memo a (history_link a chain memo fh)) ++ new_links s memo k (a + 32)) =
        stands_at (header (kind_at s a) (size_at s a) (suc k)) _ front (simp length-header) in
        stands_at (le 8 (first_new s memo a (history_link a chain memo fh))) (new_links s memo k (a + 32)) links (simp length-le (omega arith))

    later_is : (i : ℕ) → suc i < links_at s a → link_at f b (suc i) ≡ new_link memo (le_at 8 s (a + 32 + 8 * i))
    unfolding link_at
    later_is i l =
        let k : ℕ = links_at s a - 1 in
        let q : links_at s a ≡ suc k = omega arith in
        let st : Stands f (b + 32) (words (link_words s memo k (a + 32))) = rw (words_links s memo k (a + 32)) (links_stand k q) in
        let v = word-link s memo k (a + 32) i (omega arith) in
        let at : b + 24 + 8 * suc i ≡ b + 32 + 8 * i = omega arith in
        rw at (read_word (link_words s memo k (a + 32)) i (b + 32) st (omega (arith, length-link_words s memo k (a + 32)))
        (rw v (new_small s f bytes chain memo fh all _)) ∙ v)

    pub copy-good : (i : ℕ) → i < links_at s a → Good memo md fh (link_at f b i)
    copy-good zero l = rw (first_is_lem l) (first_new_good s memo md fh a chain)
    copy-good (suc i) l = rw (later_is i l) (new_good memo md fh (le_at 8 s (a + 32 + 8 * i)))

  -- ---- with the new MD and FH
  module _ (text' : List ℕ) (time : ℕ) (short : length text' ≤ 4096) (md_stands : Stands f md (md_bytes text')) (fh_stands : Stands f fh (fh_bytes md time)) where
    md_top : Stands f md (header kind_md (md_size (length text')) 0)
    unfolding md_bytes
    md_top = stands_front _ _ (stands_front _ _ md_stands)

    md_links : links_at f md ≡ 0
    md_links = header_links_lem kind_md (md_size (length text')) 0 md_top (lit< tt)

    md_least : (n : ℕ) → 24 + n ≤ md_size n
    unfolding md_size align8
    md_least n = omega arith

    pub md_size_lem : size_at f md ≡ md_size (length text')
    md_size_lem = header-size kind_md (md_size (length text')) 0 md_top (omega (arith, md_near (length text')))

    md_whole : whole_at f md ≡ fine
    md_whole =
        let near = md_near (length text') in
        let size = md_size_lem in
        let long = length_md text' in
        let least = md_least (length text') in
        let inside = stands_inside (md_bytes text') md_stands (omega arith) in
        whole_fine f md (omega (arith, md_links)) (omega arith) (omega arith)

    fh_top : Stands f fh (header kind_fh 56 2 ++ le 8 0 ++ le 8 md)
    unfolding fh_bytes
    fh_top = stands_front _ _ (stands_front _ _ fh_stands)

    fh_header : Stands f fh (header kind_fh 56 2)
    fh_header = stands_front _ _ (stands_front _ _ fh_top)

    pub fh_links : links_at f fh ≡ 2
    fh_links = header_links_lem kind_fh 56 2 fh_header (lit< tt)

    pub fh_next : link_at f fh 0 ≡ 0
    unfolding link_at
    fh_next = read 8 0 (stands_at {b = fh + 24 + 8 * 0} (header kind_fh 56 2) (le 8 0) (stands_front _ _ fh_top) (simp length-header (omega arith))) (lit< tt)

    fh_md : link_at f fh 1 ≡ md
    unfolding link_at
    fh_md =
        read 8 md (stands_at {b = fh + 24 + 8 * 1} (header kind_fh 56 2 ++ le 8 0) (le 8 md) fh_top (simp (length-append, length-header, length-le) (omega arith))) md_small

    pub fh_size : size_at f fh ≡ 56
    fh_size = header-size kind_fh 56 2 fh_header (lit< tt)

    fh_whole : whole_at f fh ≡ fine
    fh_whole =
        let size = fh_size in
        let long = length_fh md time in
        let inside = stands_inside (fh_bytes md time) fh_stands (omega arith) in
        whole_fine f fh (omega (arith, fh_links)) (omega arith) (omega arith)

    fh_lost : lost_links f fh ≡ 1
    unfolding lost_links
    fh_lost = sym (eq_yes _ _ _ _ (header-kind kind_fh 56 2 fh_header (lit< tt)) refl)

    fh_good : (i : ℕ) → 1 ≤ i → i < 2 → Good memo md fh (link_at f fh i)
    fh_good zero h l = absurd (omega arith)
    fh_good (suc zero) h l = rw fh_md (text refl)
    fh_good (suc (suc i)) h l = absurd (omega arith)

    -- ---- all that is good
    pub good_whole : (b : ℕ) → Good memo md fh b → (b ≡ 0 → ⊥) → whole_at f b ≡ fine
    good_whole b (nowhere e) n = absurd (n e)
    good_whole b (copied a e) n = copy_whole a b e
    good_whole b (text e) n = rw e md_whole
    good_whole b (entry e) n = rw e fh_whole

    pub good_closed : (b : ℕ) → Good memo md fh b → (b ≡ 0 → ⊥) → (i : ℕ) → lost_links f b ≤ i → i < links_at f b → Good memo md fh (link_at f b i)
    good_closed b (nowhere e) n i h l = absurd (n e)
    good_closed b (copied a e) n i h l = copy-good a b e i (omega (arith, copy_links_lem a b e))
    good_closed b (text e) n i h l = let z : links_at f b ≡ 0 = rw e md_links in absurd (omega arith)
    good_closed b (entry e) n i h l =
        let m : links_at f b ≡ 2 = rw e fh_links in
        let k : lost_links f b ≡ 1 = rw e fh_lost in
        rw e (fh_good i (omega arith) (omega arith))

    -- ---- the history: its blocks are good, have links, and lead on
    pub data PastAt (b : ℕ) : Type 0 where
      ended : b ≡ 0 → PastAt b
      goes_on : Good memo md fh b → (as' : List ℕ) → HistoryDue s f chain fh as' b → ((c : ℕ) → In c as' → 0 < links_at s c) → PastAt b

    pub past-good : (b : ℕ) → PastAt b → (b ≡ 0 → ⊥) → Good memo md fh b
    past-good b (ended e) n = absurd (n e)
    past-good b (goes_on g as' h l) n = g

    links_some : (b : ℕ) (as' : List ℕ) → HistoryDue s f chain fh as' b → ((c : ℕ) → In c as' → 0 < links_at s c) → 0 < links_at f b
    unfolding HistoryDue
    links_some b [] h l = let m : links_at f b ≡ 2 = rw h fh_links in omega arith
    links_some b (a ∷ as') h l = omega (arith, head_links f s a b h.0.head, l a here)

    pub past_linked_lem : (b : ℕ) → PastAt b → (b ≡ 0 → ⊥) → links_at f b ≡ 0 → ⊥
    past_linked_lem b (ended e) n z = n e
    past_linked_lem b (goes_on g as' h l) n z = omega (arith, links_some b as' h l)

    pub next-good : (b : ℕ) → Good memo md fh b → (b ≡ 0 → ⊥) → 0 < links_at f b → Good memo md fh (link_at f b 0)
    next-good b (nowhere e) n l = absurd (n e)
    next-good b (copied a e) n l = copy-good a b e 0 (omega (arith, copy_links_lem a b e))
    next-good b (text e) n l = let z : links_at f b ≡ 0 = rw e md_links in absurd (omega arith)
    next-good b (entry e) n l = nowhere (rw e fh_next)

    first_is_link : (b : ℕ) → 0 < links_at f b → first_link f b ≡ link_at f b 0
    unfolding first_link
    first_is_link b l = sym (lt_yes _ _ _ _ l refl)

    past_more : (b : ℕ) (as' : List ℕ) → Good memo md fh (link_at f b 0) → HistoryDue s f chain fh as' b → ((c : ℕ) → In c as' → 0 < links_at s c) → PastAt (link_at f b 0)
    unfolding HistoryDue
    past_more b [] g h l = ended (rw h fh_next)
    past_more b (a ∷ as') g h l = goes_on g as' h.2 (λ c i. l c (there i))

    pub past_next_lem : (b : ℕ) → PastAt b → (b ≡ 0 → ⊥) → PastAt (first_link f b)
    past_next_lem b (ended e) n = absurd (n e)
    past_next_lem b (goes_on g as' h l) n =
        let some' = links_some b as' h l in
        rw (first_is_link b some') (past_more b as' (next-good b g n some') h l)
