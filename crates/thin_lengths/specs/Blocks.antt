-- Blocks copied and moved out of a file whose copies and attachments stand in it, each once: no more bytes than these had.
use Rattle.std.specs.Prelude.{ℕ, ◌+◌, ◌≤◌, List, [], ◌∷◌, ◌++◌, ◌≡◌, refl}
use Rattle.std.proofs.Common.{ap, arith}
use Rattle.mdf.specs.Block.{size_at}
use Rattle.plan.specs.Copies.{Copy, Attachment}
use Rattle.plan.specs.Geometry.{align8}
use Rattle.plan.specs.Layout.{Layout}
use Rattle.result.specs.Member.{In, here, there}
use Rattle.result.specs.Recording.{attached_from}
use Rattle.result.specs.Result.{memo_of}
use Rattle.copies_laws.specs.Alike.{froms}
use Rattle.copies_laws.specs.PhotoLaws.{attached_to}
use Rattle.thin_lengths.specs.Sums.{sum, sum-append, sum-within}
use Rattle.thin_lengths.specs.Grew.{taken}
use Rattle.thin_lengths.specs.Sizes.{Moved, moved_sum}

-- where the copies are placed
unfoldable pub tos : List Copy → List ℕ
tos [] = []
tos (c ∷ cs) = c.to ∷ tos cs

pub in_tos : (cs : List Copy) (c : Copy) → In c cs → In c.to (tos cs)
unfolding tos
in_tos [] c x' = elim x' [ ]
in_tos (d ∷ cs) c here = here
in_tos (d ∷ cs) c (there i) = there (in_tos cs c i)

pub in_attached : (ts : List Attachment) (t : Attachment) → In t ts → In t.to (attached_to ts)
unfolding attached_to
in_attached [] t x' = elim x' [ ]
in_attached (u ∷ ts) t here = here
in_attached (u ∷ ts) t (there i) = there (in_attached ts t i)

same_taken : (f s : List ℕ) (a b : ℕ) → size_at f b ≡ size_at s a → taken f b ≡ taken s a
unfolding taken
same_taken f s a b e = ap align8 e

copies-sum : (f s : List ℕ) (cs : List Copy) → ((c : Copy) → In c cs → size_at f c.to ≡ size_at s c.from) → sum (taken f) (tos cs) ≡ sum (taken s) (froms cs)
unfolding tos froms sum
copies-sum f s [] h = refl
copies-sum f s (c ∷ cs) h = omega (arith, same_taken f s c.from c.to (h c here), copies-sum f s cs (λ d i. h d (there i)))

attached_sum : (f s : List ℕ) (ts : List Attachment) → ((t : Attachment) → In t ts → size_at f t.to ≡ size_at s t.from)
    → sum (taken f) (attached_to ts) ≡ sum (taken s) (attached_from ts)
unfolding attached_to attached_from sum
attached_sum f s [] h = refl
attached_sum f s (t ∷ ts) h = omega (arith, same_taken f s t.from t.to (h t here), attached_sum f s ts (λ u i. h u (there i)))

-- l is laid out of the file f, in which the copies and attachments of k stand, and these other blocks
pub moved_no_more : {good at : ℕ → Type 0} (f s : List ℕ) (l k : Layout) (others : List ℕ) → Moved good at l
    → ((b : ℕ) → good b → (b ≡ 0 → ⊥) → In b (tos (memo_of k) ++ others))
    → ((b : ℕ) → at b → (b ≡ 0 → ⊥) → In b (attached_to k.attached.attachments))
    → ((c : Copy) → In c (memo_of k) → size_at f c.to ≡ size_at s c.from)
    → ((t : Attachment) → In t k.attached.attachments → size_at f t.to ≡ size_at s t.from)
    → moved_sum f l ≤ moved_sum s k + sum (taken f) others
unfolding moved_sum
moved_no_more f s l k others m inside insideAt same same_at =
    let a = sum-within (taken f) (froms (memo_of l)) (tos (memo_of k) ++ others) m.distinct (λ b i. let g = m.each b i in inside b g.0 g.1) in
    let b = sum-within (taken f) (attached_from l.attached.attachments) (attached_to k.attached.attachments) m.distinct_at
    (λ b i. let g = m.each_at b i in insideAt b g.0 g.1) in
    omega (arith, sum-append (taken f) (tos (memo_of k)) others, copies-sum f s (memo_of k) same, attached_sum f s k.attached.attachments same_at)
