use Rattle.window_columns.specs.AllLaws.{Laying}
use Rattle.window_columns.proofs.lay_columns.Given as goal

abbrev pub invariant-loop-k : goal.invariant-loop-k
invariant-loop-k l =
    Laying l.r.image.now l.r.size l.r.source.now l.r.n l.r.fragments.now l.r.nf l.c.columns.now l.c.memo.now l.c.number l.a l.initial.pool l.initial.words l.initial.w l.k l.pool l.words l.w
