-- What is left of the columns gives what all give.
use Prim.Native.Nat.{◌-◌, ◌≤◌}
use mathlib.Core.Path.{◌≡◌}
use Rattle.taking.specs.Opened.{columns_in}
use Rattle.taking.specs.Each.{each}
use Rattle.taking.specs.Sound.{sound_at}
use Rattle.taking.proofs.sound.columns_sound.Given as goal

abbrev pub invariant-loop-k : goal.invariant-loop-k
invariant-loop-k l =
    (l.k ≤ l.file.count) × (each (sound_at l.file.image.now l.file.source.now (columns_in l.file)) (l.file.count - l.k) l.k ≡ each (sound_at l.file.image.now l.file.source.now (columns_in l.file)) l.file.count 0)
