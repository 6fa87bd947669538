-- The words at the end of placing: copies, attachments, the history chain and the places of columns laid over the words at entry.
use Rattle.std.specs.Prelude.{ℕ, zero, suc, ◌+◌, ◌*◌, ◌≤◌, List, ◌++◌, ◌≡◌, refl, length, take, drop}
use Rattle.std.proofs.Common.{sym, ap, ◌∙◌, zero-add, arith, take-append-drop, drop-cons, length-take-le}
use Rattle.base.specs.Blit.{blit}
use Rattle.base.specs.BlitLaws.{blit_is, blit_comm, length-blit}
use Rattle.plan.specs.Copies.{Attachment}
use Rattle.work_words.specs.CopyWords.{copy_words, attachment_words, attachments_at, history_at, placed_at}
use Rattle.copier.specs.Standing.{copies_from, copies_in, Past}
use Rattle.copier.specs.AttachingLaws.{length-words}

-- the words of copies read from words are those words
words-copies : (w : List ℕ) (p k : ℕ) → p + 2 * k ≤ length w → copy_words (copies_from w p k) ≡ take (2 * k) (drop p w)
unfolding copy_words copies_from
words-copies w p zero h = refl
words-copies w p (suc k) h =
    let n : 2 * suc k ≡ suc (suc (2 * k)) = omega arith in
    let i : p + 1 ≡ suc p = omega arith in
    let j : p + 2 ≡ suc (suc p) = omega arith in
    rw (n, drop-cons w p 0 (omega arith), drop-cons w (suc p) 0 (omega arith), words-copies w (p + 2) k (omega arith), i, j)

pub length-words-copies : (w : List ℕ) (k : ℕ) → 2 * k ≤ length w → length (copy_words (copies_in w k)) ≡ 2 * k
length-words-copies w k h = rw (words-copies w 0 k (omega arith)) (length-take-le (2 * k) w h)

-- words that are kept past the copies are those at entry with the copies laid over them
pub copies-laid : (w w' : List ℕ) (k : ℕ) → length w' ≡ length w → 2 * k ≤ length w → Past (2 * k) w w' → w' ≡ blit 0 (copy_words (copies_in w' k)) w
copies-laid w w' k l h p =
    let n = length-words-copies w' k (omega arith) in
    let e : blit 0 (copy_words (copies_in w' k)) w ≡ copy_words (copies_in w' k) ++ drop (2 * k) w =
    blit_is 0 (copy_words (copies_in w' k)) w (omega arith) ∙ rw (zero-add, n) in
    sym (e ∙ rw (words-copies w' 0 k (omega arith), ← p.kept) (take-append-drop (2 * k) w'))

-- the words of `laidCopies`, in any order
pub all_laid : (w w' : List ℕ) (k : ℕ) (chain : List ℕ) (ts : List Attachment) → length w' ≡ length w → 4100 ≤ length w → k ≤ 2050 → length ts ≤ 64
    → Past (2 * k) (blit attachments_at (attachment_words ts) (blit history_at chain w)) w'
    → w' ≡ blit history_at chain (blit attachments_at (attachment_words ts) (blit 0 (copy_words (copies_in w' k)) w))
all_laid w w' k chain ts l h u t p =
    let n = length-words-copies w' k (omega arith) in
    let m = length-words ts in
    let x = length-blit attachments_at (attachment_words ts) (blit history_at chain w) in
    let y = length-blit history_at chain w in
    copies-laid (blit attachments_at (attachment_words ts) (blit history_at chain w)) w' k (omega arith) (omega arith) p
    ∙ blit_comm (copy_words (copies_in w' k)) 0 4100 (attachment_words ts) (blit history_at chain w) (omega arith)
    ∙ ap (blit attachments_at (attachment_words ts)) (blit_comm (copy_words (copies_in w' k)) 0 4352 chain w (omega arith))
    ∙ blit_comm (attachment_words ts) 4100 4352 chain (blit 0 (copy_words (copies_in w' k)) w) (omega arith)

-- with the places of columns
pub all_placed : (w w' : List ℕ) (k : ℕ) (chain : List ℕ) (ts : List Attachment) (ps : List ℕ) → length w' ≡ length w → 4100 ≤ length w → k ≤ 2050
    → length ts ≤ 64 → length chain ≤ 2304
    → Past (2 * k) (blit attachments_at (attachment_words ts) (blit placed_at ps (blit history_at chain w))) w'
    → w' ≡ blit placed_at ps (blit history_at chain (blit attachments_at (attachment_words ts) (blit 0 (copy_words (copies_in w' k)) w)))
all_placed w w' k chain ts ps l h u t c p =
    let n = length-words-copies w' k (omega arith) in
    let m = length-words ts in
    let x = length-blit placed_at ps w in
    let q : Past (2 * k) (blit attachments_at (attachment_words ts) (blit history_at chain (blit placed_at ps w))) w' =
    rw (blit_comm chain 4352 6656 ps w (omega arith)) p in
    all_laid (blit placed_at ps w) w' k chain ts (omega arith) (omega arith) u t q
    ∙ ap (λ (v : List ℕ). blit history_at chain (blit attachments_at (attachment_words ts) v)) (blit_comm (copy_words (copies_in w' k)) 0 6656 ps w (omega arith))
    ∙ ap (blit history_at chain) (blit_comm (attachment_words ts) 4100 6656 ps (blit 0 (copy_words (copies_in w' k)) w) (omega arith))
    ∙ blit_comm chain 4352 6656 ps (blit attachments_at (attachment_words ts) (blit 0 (copy_words (copies_in w' k)) w)) (omega arith)
