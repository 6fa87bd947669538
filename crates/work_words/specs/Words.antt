-- Bookkeeping: how reading keeps what it found in lent words: three words for a fragment; for each block met its address and a mark; the groups; their counts.
use Rattle.std.specs.Prelude.{ℕ, ◌+◌, List, [], ◌∷◌}
use Rattle.base.specs.Choice.{if_eq}
use Rattle.base.specs.Blit.{blit}
use Rattle.mdf.specs.Chain.{Kind, dt, dv, Fragment}
use Rattle.mdf.specs.Walk.{Item, dg, cg, cn, address}

-- a fragment's kind as a word
abbrev pub kind_word : Kind → ℕ
kind_word dt = 0
kind_word dv = 1

-- the kind that a word says
unfoldable pub kind_of : ℕ → Kind
kind_of k = if_eq k 0 dt dv

-- offset, size and kind of each
unfoldable pub fragment_words : List Fragment → List ℕ
fragment_words [] = []
fragment_words (f ∷ fs) = f.offset ∷ f.size ∷ kind_word f.kind ∷ fragment_words fs

-- the fragments that words give
unfoldable pub fragments_of : List ℕ → List Fragment
fragments_of [] = []
fragments_of (o ∷ []) = []
fragments_of (o ∷ n ∷ []) = []
fragments_of (o ∷ n ∷ k ∷ ws) = record { offset = o; size = n; kind = kind_of k } ∷ fragments_of ws

-- a block's mark: 0 for a CN, 1 for a CG, for a DG 2 and the number of fragments before its own
abbrev pub mark : Item → ℕ
mark (dg a n) = 2 + n
mark (cg a) = 1
mark (cn a) = 0

-- of all blocks met, in order: addresses, then marks; then the addresses of the CG alone
unfoldable pub address_words : List Item → List ℕ
address_words [] = []
address_words (i ∷ is) = address i ∷ address_words is

unfoldable pub mark_words : List Item → List ℕ
mark_words [] = []
mark_words (i ∷ is) = mark i ∷ mark_words is

unfoldable pub group_words : List Item → List ℕ
group_words [] = []
group_words (dg a n ∷ is) = group_words is
group_words (cg a ∷ is) = a ∷ group_words is
group_words (cn a ∷ is) = group_words is

-- where the marks, the groups and the counts begin; the addresses begin at 0
abbrev pub marks_at : ℕ
marks_at = 1536

abbrev pub groups_at : ℕ
groups_at = 3072

abbrev pub counts_at : ℕ
counts_at = 3584

-- the words that all of it needs
abbrev pub source_words : ℕ
source_words = 4096

-- what was met, laid over words
unfoldable pub laid_items : List Item → List ℕ → List ℕ
laid_items is w = blit groups_at (group_words is) (blit marks_at (mark_words is) (blit 0 (address_words is) w))
