-- The result's attachments: the AT of the recording in order, as they were but for their links, which lead to copies.
use Prim.Native.Nat.{ℕ, zero, suc, ◌+◌, ◌*◌, ◌-◌, ◌^◌, ◌≤◌, ◌<◌}
use mathlib.Core.List.{List, [], ◌∷◌, ◌++◌, append_assoc}
use Rattle.std.specs.Prelude.{◌≡◌, length}
use Rattle.std.proofs.Math.Path.{refl, ap}
use Rattle.std.proofs.Common.{◌∙◌, arith}
use Rattle.std.proofs.Math.Dec.{lit<}
use Rattle.std.proofs.Math.ListN.{get_or, length-append}
use Rattle.base.specs.Field.{le_at, le}
use Rattle.base.specs.Blit.{part}
use Rattle.base.specs.BlitLaws.{length_part}
use Rattle.mdf.specs.Block.{kind_at, size_at, links_at, link_at, data_at}
use Rattle.plan.specs.Copies.{Copy, Attachment}
use Rattle.result.specs.Fill.{Block, words, new_link, new_links, data_of, next_attachment, at_bytes, copied_blocks, attachment_blocks}
use Rattle.result.specs.Links.{head_at}
use Rattle.result.specs.Names.{SameBlock, AttachmentsDue, chain_place}
use Rattle.result.specs.Recording.{attached_from}
use Rattle.result.specs.Guarantee.{Stands, In, here, there}
use Rattle.copies_laws.specs.AttachLaws.{Moved, LaidAt}
use Rattle.copies_laws.specs.PhotoLaws.{attached_to}
use Rattle.copies_laws.specs.LengthLaws.{length_data_of}
use Rattle.copies_laws.specs.MemoLaws.{OtherLinks}
use Rattle.shown_laws.specs.Flat.{in_back}
use Rattle.shown_laws.specs.Standing.{stands_front, stands_at, field_at}
use Rattle.shown_laws.specs.Header.{length-words, read_word}
use Rattle.guarantee.specs.Named.{CopyStands, link_words, words_links, length-link_words, word-link, new_small, link-due}

-- an AT's links as words: the next AT, then copies
abbrev at_words : List ℕ → List Copy → ℕ → ℕ → List ℕ
at_words s memo a next = next ∷ link_words s memo (links_at s a - 1) (a + 32)

at_shape : (s : List ℕ) (memo : List Copy) (a next : ℕ) → at_bytes s memo a next ≡ part a 24 s ++ words (at_words s memo a next) ++ data_of s a
unfolding at_bytes words
at_shape s memo a next =
    rw (words_links s memo (links_at s a - 1) (a + 32))
    (ap (λ (l : List ℕ). l ++ data_of s a) (append_assoc (part a 24 s) (le 8 next) (new_links s memo (links_at s a - 1) (a + 32))))

module _ (s f : List ℕ) (bytes : (i : ℕ) → get_or s i 0 < 256) (chain : List ℕ) (memo : List Copy) (fh : ℕ)
    (all : (c : Copy) → In c memo → CopyStands s f chain memo fh c) where
  -- ---- the AT at a, moved to b
  module _ (a b next : ℕ) (moved : Moved s a) (above : 0 < b) (small : next < 256 ^ 8) (st : Stands f b (at_bytes s memo a next)) where
    shaped : Stands f b (part a 24 s ++ words (at_words s memo a next) ++ data_of s a)
    shaped = rw (at_shape s memo a next) at st

    top : Stands f b (part a 24 s)
    top = stands_front _ _ (stands_front _ (data_of s a) shaped)

    inside : a + 24 ≤ length s
    inside = omega (arith, moved.range, moved.within)

    at-kind : kind_at f b ≡ kind_at s a
    unfolding kind_at
    at-kind = field_at 4 s a 24 0 b a top inside (omega arith) (omega arith) (omega arith)

    at_size : size_at f b ≡ size_at s a
    unfolding size_at
    at_size = field_at 8 s a 24 8 (b + 8) (a + 8) top inside (omega arith) refl refl

    at_links : links_at f b ≡ links_at s a
    unfolding links_at
    at_links = field_at 8 s a 24 16 (b + 16) (a + 16) top inside (omega arith) refl refl

    long : length (part a 24 s) ≡ 24
    long = length_part a 24 s inside

    many : length (at_words s memo a next) ≡ links_at s a
    many = omega (arith, length-link_words s memo (links_at s a - 1) (a + 32), moved.enough)

    worded : Stands f (b + 24) (words (at_words s memo a next))
    worded = stands_at (part a 24 s) (words (at_words s memo a next)) (stands_front _ (data_of s a) shaped) (rw long)

    pub at_next : link_at f b 0 ≡ next
    unfolding link_at
    at_next = read_word (at_words s memo a next) 0 (b + 24) worded (omega arith) small

    pub at_other : (i : ℕ) → suc i < links_at s a → link_at f b (suc i) ≡ new_link memo (link_at s a (suc i))
    unfolding link_at
    at_other i h =
        let w : get_or (at_words s memo a next) (suc i) 0 ≡ new_link memo (le_at 8 s (a + 24 + 8 * suc i)) =
        word-link s memo (links_at s a - 1) (a + 32) i (omega arith) ∙ ap (λ (q : ℕ). new_link memo (le_at 8 s q)) (omega arith) in
        read_word (at_words s memo a next) (suc i) (b + 24) worded (omega (arith, many)) (rw w (new_small s f bytes chain memo fh all _)) ∙ w

    at_data : Stands f (data_at f b) (data_of s a)
    unfolding data_at
    at_data =
        stands_at (part a 24 s ++ words (at_words s memo a next)) (data_of s a) shaped
        (rw (at_links, length-append, long, length-words, many) (omega arith))

    pub at_same : SameBlock s f a b
    unfolding head_at data_of
    at_same =
        record {
          nonzero = λ z. omega arith;
          head = rw (at-kind, at_size, at_links);
          rest = rw (at_size, at_links) (rw (length_data_of s a moved.range moved.within) at at_data.is);
        }

    pub at-header : part b 24 f ≡ part a 24 s
    at-header = rw long at top.is

  -- ---- all of them, from the first on
  pub next_small : (ts : List Attachment) → ((c : Block) → In c (attachment_blocks s chain memo fh ts) → c.at < 256 ^ 8) → next_attachment ts < 256 ^ 8
  unfolding attachment_blocks
  next_small [] below = lit< tt
  next_small (t ∷ ts) below = below _ (in_back (copied_blocks s chain memo fh t.own) here)

  pub attachments-due : (ts : List Attachment) (n e : ℕ) → LaidAt s n ts e → ((u : Attachment) → In u ts → OtherLinks s memo u.from)
      → ((c : Block) → In c (attachment_blocks s chain memo fh ts) → 0 < c.at)
      → ((c : Block) → In c (attachment_blocks s chain memo fh ts) → c.at < 256 ^ 8)
      → ((c : Block) → In c (attachment_blocks s chain memo fh ts) → Stands f c.at c.bytes)
      → AttachmentsDue s f chain (attached_from ts) (next_attachment ts)
  unfolding AttachmentsDue attached_from attachment_blocks LaidAt
  attachments-due [] n e laid other above below stands = refl
  attachments-due (t ∷ ts) n e laid other above below stands =
      let rest : (c : Block) → In c (attachment_blocks s chain memo fh ts) → In c (attachment_blocks s chain memo fh (t ∷ ts)) =
      λ c i. in_back (copied_blocks s chain memo fh t.own) (there i) in
      let here' = in_back (copied_blocks s chain memo fh t.own) here in
      let small : next_attachment ts < 256 ^ 8 = next_small ts (λ c i. below c (rest c i)) in
      let more : AttachmentsDue s f chain (attached_from ts) (next_attachment ts) =
      attachments-due ts _ e laid.2 (λ u i. other u (there i)) (λ c i. above c (rest c i)) (λ c i. below c (rest c i)) (λ c i. stands c (rest c i)) in (
        at_same t.from t.to (next_attachment ts) laid.1 (above _ here') small (stands _ here'),
        at-header t.from t.to (next_attachment ts) laid.1 (above _ here') small (stands _ here'),
        λ k i h. rw (at_other t.from t.to (next_attachment ts) laid.1 (above _ here') small (stands _ here') i h)
            (link-due s f bytes chain memo fh all k _ (other t here i h)),
        rw (at_next t.from t.to (next_attachment ts) laid.1 (above _ here') small (stands _ here')) more,
      )

  -- attachment number k by first links
  pub attached_place : (ts : List Attachment) (n e : ℕ) → LaidAt s n ts e
      → ((c : Block) → In c (attachment_blocks s chain memo fh ts) → 0 < c.at)
      → ((c : Block) → In c (attachment_blocks s chain memo fh ts) → c.at < 256 ^ 8)
      → ((c : Block) → In c (attachment_blocks s chain memo fh ts) → Stands f c.at c.bytes)
      → (k : ℕ) → k < length (attached_from ts)
      → (chain_place f (next_attachment ts) k ≡ get_or (attached_to ts) k 0) × (get_or (attached_to ts) k 0 < 256 ^ 8)
  unfolding chain_place attached_from attached_to attachment_blocks LaidAt
  attached_place [] n e laid above below stands k h = absurd (omega arith)
  attached_place (t ∷ ts) n e laid above below stands zero h =
      (refl, below _ (in_back (copied_blocks s chain memo fh t.own) here))
  attached_place (t ∷ ts) n e laid above below stands (suc k) h =
      let rest : (c : Block) → In c (attachment_blocks s chain memo fh ts) → In c (attachment_blocks s chain memo fh (t ∷ ts)) =
      λ c i. in_back (copied_blocks s chain memo fh t.own) (there i) in
      let here' = in_back (copied_blocks s chain memo fh t.own) here in
      let small : next_attachment ts < 256 ^ 8 = next_small ts (λ c i. below c (rest c i)) in
      let more = attached_place ts _ e laid.2 (λ c i. above c (rest c i)) (λ c i. below c (rest c i)) (λ c i. stands c (rest c i)) k (omega arith) in
      (rw (at_next t.from t.to (next_attachment ts) laid.1 (above _ here') small (stands _ here')) more.0, more.1)
