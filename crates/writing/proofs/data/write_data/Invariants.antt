-- Each turn writes a column's zeros and blocks, then its zeros and SD.
use Rattle.std.proofs.Common.{◌≡◌, ◌-◌, length, sym, refl, ◌∙◌, arith, rules}
use Rattle.writing.specs.Own.{Knows}
use Rattle.writing.specs.Data.{Kept}
use Rattle.writing.specs.DataLaws.{Writing, writing_begin, entry_ready, blocks-ordered, signal_ordered, writing_on, writing_end, kept-none}
use Rattle.writing.proofs.data.write_data.Given as goal

abbrev pub invariant-loop-k : goal.invariant-loop-k
invariant-loop-k l =
    Writing l.r.image.now l.r.size l.r.source.now l.r.n l.r.fragments.now l.r.nf l.columns l.memo l.number l.at l.initial.out l.k l.p l.out × Kept l.r.image.now l.r.source.now l.r.n l.r.fragments.now l.r.nf l.pool l.words
    × (length l.pool ≡ 4096) × (length l.words ≡ length l.initial.words) × Knows l.r.source.now l.r.n l.r.nf l.known
