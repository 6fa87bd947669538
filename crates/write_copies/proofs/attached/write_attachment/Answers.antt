-- The copies end by the AT's place.
use Rattle.write_copies.specs.AttachmentsLaws.{own_end, wrote_attachment}
use Rattle.copies_laws.specs.Laid.{laid-to}
use native.Mathlib.Omega.{arith}
use Rattle.write_copies.proofs.attached.write_attachment.Goals as goal

pub returns : goal.returns
returns c = λ h l t x y.
    let v = c.write_copies_by-p.ensures h l (laid-to _ _ _ _ _ t.laid (omega (arith, t.ends))) x y in
    wrote_attachment t _ _ _ _ v
    (c.write_at.ensures (own_end t _ _ _ v) t.moved (omega (arith, t.ends, c.write_copies_by-p.auto.out)) x)
