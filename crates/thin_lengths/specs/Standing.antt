-- In a file whose copies and attachments stand, links lead to these: from the first link of a copied block on, and along attachments.
use Rattle.std.specs.Prelude.{ℕ, suc, ◌<◌, Bool, true, false, ◌≡◌, refl, ltb, get_or}
use mathlib.Core.List.{List, [], ◌∷◌, ◌++◌}
use Rattle.std.proofs.Common.{sym, subst, ltb-true}
use Rattle.base.specs.Choice.{pick, if_lt}
use Rattle.mdf.specs.Block.{kind_at, size_at, links_at, link_at, first_link}
use Rattle.plan.specs.Copies.{Copy, Attachment}
use Rattle.result.specs.Fill.{copied_bytes, next_attachment}
use Rattle.result.specs.Guarantee.{In, here, there}
use Rattle.copies_laws.specs.MemoLaws.{copy_in_lem}
use Rattle.copies_laws.specs.PhotoLaws.{attached_to}
use Rattle.shown_laws.specs.Header.{header-size}
use Rattle.shown_laws.specs.ImageBytes.{size_below}
use Rattle.shown_laws.specs.Standing.{stands_front}
use Rattle.guarantee.specs.Named.{CopyStands}
use Rattle.again_laws.specs.GoodAgain.{Good, nowhere, copied, text, entry}
use Rattle.again_laws.specs.AttachAgain.{AllAt, at_from, at-good, block-next, size_is}
use Rattle.thin_lengths.specs.Sums.{in_front_lem, in_behind}
use Rattle.thin_lengths.specs.Blocks.{tos, in_tos, in_attached}

-- the first link, or none
pub first-led : (P : ℕ → Type 0) (f : List ℕ) (b : ℕ) → P 0 → (0 < links_at f b → P (link_at f b 0)) → P (first_link f b)
unfolding first_link if_lt
first-led P f b z g = go (ltb 0 (links_at f b)) refl
  where
    go : (t : Bool) → ltb 0 (links_at f b) ≡ t → P (pick t (link_at f b 0) 0)
    go true q = g (ltb-true 0 (links_at f b) q)
    go false q = z

-- a good address but 0 is that of a copy, or of the new MD or FH
pub good_inside : (memo : List Copy) (md fh b : ℕ) → Good memo md fh b → (b ≡ 0 → ⊥) → In b (tos memo ++ (md ∷ fh ∷ []))
good_inside memo md fh b (nowhere e) n = absurd (n e)
good_inside memo md fh b (copied a e) n = in_front_lem (tos memo) (md ∷ fh ∷ []) (in_tos memo _ (copy_in_lem a b memo e))
good_inside memo md fh b (text e) n = subst (λ (x : ℕ). In x (tos memo ++ (md ∷ fh ∷ []))) (sym e) (in_behind (tos memo) (md ∷ fh ∷ []) here)
good_inside memo md fh b (entry e) n = subst (λ (x : ℕ). In x (tos memo ++ (md ∷ fh ∷ []))) (sym e) (in_behind (tos memo) (md ∷ fh ∷ []) (there here))

module _ (s f : List ℕ) (bytes : (i : ℕ) → get_or s i 0 < 256) (chain : List ℕ) (memo : List Copy) (md fh : ℕ)
    (all : (c : Copy) → In c memo → CopyStands s f chain memo fh c) where
  -- copies have the size of what they are copies of
  pub copy-size : (c : Copy) → In c memo → size_at f c.to ≡ size_at s c.from
  unfolding copied_bytes
  copy-size c i = header-size (kind_at s c.from) (size_at s c.from) (links_at s c.from) (stands_front _ _ (stands_front _ _ (all c i).stands))
      (size_below s bytes c.from)

  -- ---- attachments
  module _ (ats : List Attachment) where
    -- the first of those left, or none
    pub record AtOf (b : ℕ) : Type 0 where
      pub left : List Attachment
      pub stand : AllAt s f bytes chain memo md fh all left
      pub inside : (t : Attachment) → In t left → In t ats
      pub is : b ≡ next_attachment left

    pub at-start : AllAt s f bytes chain memo md fh all ats → AtOf (next_attachment ats)
    at-start h = record { left = ats; stand = h; inside = λ t i. i; is = refl }

    next_of : (ts : List Attachment) → AllAt s f bytes chain memo md fh all ts → ((t : Attachment) → In t ts → In t ats) → (next_attachment ts ≡ 0 → ⊥)
        → AtOf (first_link f (next_attachment ts))
    unfolding AllAt
    next_of [] h i n = absurd (n refl)
    next_of (t ∷ ts) h i n =
        record { left = ts; stand = h.1; inside = λ u j. i u (there j); is = block-next s f bytes chain memo md fh all t ts h.0 }

    pub at_next : (b : ℕ) → AtOf b → (b ≡ 0 → ⊥) → AtOf (first_link f b)
    at_next b a n = rw a.is (next_of a.left a.stand a.inside (rw a.is at n))

    pub at_others : (b : ℕ) → AtOf b → (b ≡ 0 → ⊥) → (i : ℕ) → suc i < links_at f b → Good memo md fh (link_at f b (suc i))
    at_others b a n i l =
        at-good s f bytes chain memo md fh all b (rw a.is (at_from s f bytes chain memo md fh all a.left a.stand)) n i l

    pub at_inside : (b : ℕ) → AtOf b → (b ≡ 0 → ⊥) → In b (attached_to ats)
    at_inside b a n = go a.left a.inside a.is
      where
        go : (ts : List Attachment) → ((t : Attachment) → In t ts → In t ats) → b ≡ next_attachment ts → In b (attached_to ats)
        go [] i e = absurd (n e)
        go (t ∷ ts) i e = subst (λ (x : ℕ). In x (attached_to ats)) (sym e) (in_attached ats t (i t here))

  pub at_size : (ts : List Attachment) → AllAt s f bytes chain memo md fh all ts → (t : Attachment) → In t ts → size_at f t.to ≡ size_at s t.from
  unfolding AllAt
  at_size [] h t x'' = elim x'' [ ]
  at_size (u ∷ ts) h t here = size_is s f bytes chain memo md fh all t ts h.0
  at_size (u ∷ ts) h t (there i) = at_size ts h.1 t i
