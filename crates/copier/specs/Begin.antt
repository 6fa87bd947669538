-- How copying begins at a link: whether the links of its block are to be followed, or a refusal; in the order of `copy_at`.
use Rattle.std.specs.Prelude.{ℕ, ◌+◌, ◌*◌, ◌-◌, List, ◌∷◌, Bool, true, false, length}
use Rattle.std.proofs.Math.Option.{Option, none, some}
use Rattle.base.specs.Choice.{pick, if_lt, if_eq}
use Rattle.base.specs.Checked.{Checked, ok, refused, and_then}
use Rattle.mdf.specs.Block.{kind_at, size_at, links_at, whole_at}
use Rattle.mdf.specs.Chain.{is_in}
use Rattle.plan.specs.Copies.{Copy, Copies, copy_of, is_copied, lost_links, copy_links, copy_at, with_copy}

abbrev pub on_found : Option ℕ → Checked Bool → Checked Bool
on_found none new = new
on_found (some a) new = ok false

unfoldable pub begin_at : ℕ → ℕ → List ℕ → List ℕ → ℕ → List Copy → Checked Bool
begin_at most left s way a memo =
    let limited = if_lt (length memo + length way) most (ok true) (refused 19 a) in
    let read = and_then (whole_at s a) (λ _. pick (is_copied (kind_at s a)) limited (ok false)) in
    let new = if_eq left 0 (refused 16 a) (pick (is_in a way) (refused 16 a) read) in
    if_eq a 0 (ok false) (on_found (copy_of a memo) new)

-- the block's links, then the block
unfoldable pub through_links : ℕ → ℕ → List ℕ → List ℕ → ℕ → Copies → Checked Copies
through_links most left s way a m =
    and_then (copy_links (copy_at most left s (a ∷ way)) s (links_at s a - lost_links s a) (a + 24 + 8 * lost_links s a) m) (λ m'. ok (with_copy a (size_at s a) m'))

abbrev pub on_begun : Checked Bool → Copies → Checked Copies → Checked Copies
on_begun (ok true) m more = more
on_begun (ok false) m more = ok m
on_begun (refused number place) m more = refused number place
