-- Copies and attachments stand where their blocks are in order.
use Rattle.std.specs.Prelude.{ℕ, ◌+◌, List, [], ◌∷◌, ◌++◌, length}
use Rattle.std.proofs.Common.{subst}
use Rattle.mdf.specs.Block.{size_at}
use Rattle.plan.specs.Copies.{Copy, Attachment}
use Rattle.result.specs.Fill.{Block, copied_blocks, next_attachment, attachment_blocks}
use Rattle.result.specs.Ordered.{Ordered}
use Rattle.copies_laws.specs.Laid.{Laid}
use Rattle.copies_laws.specs.AttachLaws.{LaidAt}
use Rattle.copies_laws.specs.LengthLaws.{length-copied, length_at}

pub laid-ordered : (s : List ℕ) (a b d e : ℕ) (cs : List Copy) (chain : List ℕ) (memo : List Copy) (fh : ℕ) → Laid s a cs e
    → Ordered b (copied_blocks s chain memo fh cs) d → Laid s b cs d
unfolding Laid Ordered copied_blocks
laid-ordered s a b d e [] chain memo fh l q = q
laid-ordered s a b d e (c ∷ cs) chain memo fh l q = (
  q.0,
  l.1,
  laid-ordered s (c.to + size_at s c.from) (c.to + size_at s c.from) d e cs chain memo fh l.2
      (subst (λ (k : ℕ). Ordered (c.to + k) (copied_blocks s chain memo fh cs) d) (length-copied s chain memo fh c.from l.1) q.1),
)

-- own copies in front of a block
own-ordered : (s : List ℕ) (a b d e : ℕ) (cs : List Copy) (chain : List ℕ) (memo : List Copy) (fh : ℕ) (x : Block) (xs : List Block) → Laid s a cs e
    → Ordered b (copied_blocks s chain memo fh cs ++ (x ∷ xs)) d → Laid s b cs x.at × Ordered (x.at + length x.bytes) xs d
unfolding Laid Ordered copied_blocks
own-ordered s a b d e [] chain memo fh x xs l q = (q.0, q.1)
own-ordered s a b d e (c ∷ cs) chain memo fh x xs l q =
    let r = own-ordered s (c.to + size_at s c.from) (c.to + size_at s c.from) d e cs chain memo fh x xs l.2
    (subst (λ (k : ℕ). Ordered (c.to + k) (copied_blocks s chain memo fh cs ++ (x ∷ xs)) d) (length-copied s chain memo fh c.from l.1) q.1) in
    ((q.0, l.1, r.0), r.1)

pub laid_at_ordered : (s : List ℕ) (a b d e : ℕ) (ts : List Attachment) (chain : List ℕ) (memo : List Copy) (fh : ℕ) → LaidAt s a ts e
    → Ordered b (attachment_blocks s chain memo fh ts) d → LaidAt s b ts d
unfolding LaidAt Ordered attachment_blocks
laid_at_ordered s a b d e [] chain memo fh l q = q
laid_at_ordered s a b d e (t ∷ ts) chain memo fh l q =
    let r = own-ordered s a b d t.to t.own chain memo fh _ _ l.0 q in (
      r.0,
      l.1,
      laid_at_ordered s (t.to + size_at s t.from) (t.to + size_at s t.from) d e ts chain memo fh l.2
          (subst (λ (k : ℕ). Ordered (t.to + k) (attachment_blocks s chain memo fh ts) d) (length_at s memo t.from (next_attachment ts) l.1) r.1),
    )
