-- Each part ends where the next begins.
use Rattle.offsets.specs.PartsLaws.{Sharing}
use Rattle.offsets.proofs.parts.share_out.Given as goal

abbrev pub invariant-loop-j : goal.invariant-loop-j
invariant-loop-j l = Sharing l.sizes l.bounds l.begin l.end l.at l.j
