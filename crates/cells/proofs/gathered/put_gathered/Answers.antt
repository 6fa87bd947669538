-- What the tests show is what putting the cells asks for; under the promise's own conditions no test fails.
use Rattle.cells.specs.ShapeLaws.{shaped_sound}
use native.Mathlib.Omega.{arith}
use Rattle.cells.proofs.gathered.put_gathered.Goals.{then-not-is_sound-via-then-not-is_sound, then-not-is_sound-via-else-not-is_sound+then-not-has_room, then-not-is_sound-via-else-not-is_sound+else-not-has_room+then-not-has_room-2}
use Rattle.cells.proofs.gathered.put_gathered.Goals as goal

pub returns-then-not-is_sound : goal.returns-then-not-is_sound
returns-then-not-is_sound c =
    elim c.then-not-is_sound.branch [
      | then-not-is_sound-via-then-not-is_sound z ↦ (omega arith, λ w t e l r. absurd (c.is_sound.ensures.1 (z.if-not-is_sound.true) (shaped_sound w.shaped)))
      | then-not-is_sound-via-else-not-is_sound+then-not-has_room z ↦ (omega arith, λ w t e l r. absurd (z.has_room.ensures.1 (z.if-not-has_room.true) (omega (arith, l))))
      | then-not-is_sound-via-else-not-is_sound+else-not-has_room+then-not-has_room-2 z ↦ (omega arith, λ w t e l r. absurd (z.has_room-else-not-has_room.ensures.1 (z.if-not-has_room-2.true) r))
    ]

pub put_words-requires : goal.put_words-requires
put_words-requires c =
    let l = c.has_room.ensures.0 (c.if-not-has_room.false) in
    (c.is_sound.ensures.0 (c.if-not-is_sound.false), omega (arith, l), c.has_room-else-not-has_room.ensures.0 (c.if-not-has_room-2.false))

pub returns : goal.returns
returns c = let e = c.put_words.ensures in (e.0, λ w t q l r. e.1 w t q)
