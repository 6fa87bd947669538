-- What is left of the chain gives what the whole gives.
use Rattle.copier.specs.HistoryLaws.{Walked}
use Rattle.copier.specs.Index.{Indexed}
use Rattle.copier.specs.History.{ChainCopied}
use Rattle.copier.proofs.history.history_chain.Given as goal

abbrev pub invariant-loop-count : goal.invariant-loop-count
invariant-loop-count l =
    Walked l.most l.image l.initial.memo l.a l.initial.st l.memo l.at l.count l.st × Indexed l.memo l.st.used l.index × ChainCopied l.memo l.count l.st.used
