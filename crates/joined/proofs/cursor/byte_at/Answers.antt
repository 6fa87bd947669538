-- It is the first byte of the first fragment with bytes past i of them.
use Rattle.joined.specs.AheadLaws.{byte_settled}
use native.Mathlib.Omega.{arith}
use Rattle.std.proofs.Common.{◌≡◌, ◌∙◌, get_or}
use borrow.Author.Rules.{rules}
use Rattle.joined.proofs.cursor.byte_at.Goals as goal

pub returns : goal.returns
returns c = λ r h.
    let a = c.args in
    let s = a.image.now in
    let e = c.skip.ensures s (omega arith) r (omega arith) in
    let byte : c.unwrap_or.result ≡ get_or s c.settle-b.result.position 0 = search rules in
    byte ∙ (byte_settled s a.fragments.now a.k c.skip.result c.settle-b.result a.i r h e c.settle-b.ensures).1
