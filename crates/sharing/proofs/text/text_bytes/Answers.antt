-- The bytes end with the text or with the image.
use Rattle.std.proofs.Common.{◌≡◌, ◌-◌, length, min}
use Rattle.sharing.specs.TextLaws.{body-of}
use borrow.Author.Rules.{rules}
use Rattle.sharing.proofs.text.text_bytes.Goals as goal

pub returns : goal.returns
returns c =
    let e : c.min.result ≡ min (c.size_at.result - 24) (length c.args.image.now - 24 - c.args.a) = search rules in
    body-of _ _ c.size_at.ensures e
