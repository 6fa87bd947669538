-- "A name link (third of CG and CN) to TX or MD is read for its whole length; under 24 bytes is refusal 4. Other kinds mean no name."
use Rattle.std.specs.Prelude.{ℕ, ◌+◌, List, length}
use Rattle.base.specs.Choice.{if_lt, if_eq}
use Rattle.base.specs.Checked.{refused, and_then, Verdict, fine}
use Rattle.mdf.specs.Block.{kind_tx, kind_md, kind_at, size_at, header_in}

-- the whole length of a text: at least its header, and inside the image
unfoldable pub text_in : List ℕ → ℕ → Verdict
text_in s a = if_lt (size_at s a) 24 (refused 4 a) (if_lt (length s) (a + size_at s a) (refused 4 a) fine)

-- the name at a, 0 for none
unfoldable pub name_at : List ℕ → ℕ → Verdict
name_at s a =
    if_eq a 0 fine
    (and_then (header_in s a) (λ _.
    if_eq (kind_at s a) kind_tx (text_in s a)
    (if_eq (kind_at s a) kind_md (text_in s a) fine)))
