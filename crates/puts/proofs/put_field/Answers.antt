-- The low bytes, all of them where they have room.
use Rattle.std.proofs.Common.{arith, ap, ◌∙◌, ◌≡◌, take}
use Rattle.base.specs.Blit.{blit, part}
use Rattle.base.specs.Field.{le}
use Rattle.base.specs.FieldLaws.{length-le}
use Rattle.puts.specs.PutLaws.{le_front, laid_at}
use Rattle.puts.proofs.put_field.Goals as goal

pub returns-then-room-at : goal.returns-then-room-at
returns-then-room-at g c =
    let a = c.args in
    let n = g.row.N in
    let front : take n c.to_le_bytes-bytes.result ≡ le n a.x = rw c.to_le_bytes-bytes.ensures (le_front n a.x c.requires) in
    rw (c.copy_from_slice.ensures.after ∙ front) (laid_at a.at n _ _ a.d.now (omega arith) (length-le n a.x) (omega arith))

pub returns : goal.returns
unfolding part
returns g c =
    let a = c.args in
    let n = g.row.N in
    let front : take n c.to_le_bytes-bytes.result ≡ le n a.x = rw c.to_le_bytes-bytes.ensures (le_front n a.x c.requires) in
    c.copy.ensures ∙ ap (λ bs. blit a.at bs a.d.now) front
