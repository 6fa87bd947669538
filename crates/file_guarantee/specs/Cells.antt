-- One record's bytes in a column's payload.
use Rattle.std.specs.Prelude.{ℕ, zero, suc, ◌+◌, ◌*◌, ◌-◌, ◌<◌, List, [], ◌++◌, true, ◌≡◌, length, get_or}
use Rattle.std.proofs.Common.{ap, ◌∙◌, suc-mul, zero-mul, arith, take_all}
use Rattle.base.specs.Blit.{part}
use Rattle.mdf.specs.Group.{samples, inval_bytes}
use Rattle.plan.specs.Channel.{fits, width}
use Rattle.result.specs.Payload.{cell, cells}
use Rattle.payload_laws.specs.Lists.{Long, Long.none, Long.next}
use Rattle.payload_laws.specs.CellLaws.{fits-within, length-cell}
use Rattle.file_laws.specs.JoinedLaws.{part-front, part_back}

part_whole : (n : ℕ) (l : List ℕ) → length l ≡ n → part 0 n l ≡ l
unfolding part
part_whole n l e = take_all n l (omega arith)

-- cells one after the other, all of one width: number r
pub cell-part : (s : List ℕ) (g c : ℕ) {rs : List (List ℕ)} → fits s g c ≡ true → Long (samples s g + inval_bytes s g) rs → (r : ℕ) → r < length rs
    → part (r * width s g c) (width s g c) (cells s g c rs) ≡ cell s g c (get_or rs r [])
unfolding cells
cell-part s g c f none r h = absurd (omega arith)
cell-part s g c f (next {r = x} {rs} e l) zero h =
    let n : length (cell s g c x) ≡ width s g c = length-cell s g c x (omega (arith, fits-within s g c f)) in
    ap (λ (i : ℕ). part i (width s g c) (cell s g c x ++ cells s g c rs)) (zero-mul (width s g c))
    ∙ part-front 0 (width s g c) (cell s g c x) (cells s g c rs) (omega arith)
    ∙ part_whole (width s g c) (cell s g c x) n
cell-part s g c f (next {r = x} {rs} e l) (suc r) h =
    let n : length (cell s g c x) ≡ width s g c = length-cell s g c x (omega (arith, fits-within s g c f)) in
    let m : suc r * width s g c ≡ r * width s g c + width s g c = suc-mul r (width s g c) in
    let i : suc r * width s g c - length (cell s g c x) ≡ r * width s g c = omega arith in
    part_back (suc r * width s g c) (width s g c) (cell s g c x) (cells s g c rs) (omega arith)
    ∙ ap (λ (j : ℕ). part j (width s g c) (cells s g c rs)) i
    ∙ cell-part s g c f l r (omega arith)
