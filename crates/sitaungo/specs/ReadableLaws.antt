-- The output of a conversion is read, and has its inventory sheet.
use Rattle.std.specs.Prelude.{ℕ, List, ◌≡◌, length}
use Rattle.std.proofs.Common.{ap, ◌∙◌}
use Rattle.base.specs.Blit.{blit}
use Rattle.base.specs.CheckedLaws.{then_fine}
use Rattle.result.specs.Result.{Args, Outcome, work_in, file_of, convert}
use Rattle.file_guarantee.specs.Theorem.{reads_promised}
use Rattle.sheet_guarantee.specs.Theorem.{sheet_promised}
use Rattle.writing.specs.Answer.{Bytes}
use Rattle.sitaungo.specs.Readable.{Readable}

pub readable_by : (x : Args) (out list : List ℕ) (ws : List (List ℕ)) {y : Outcome} → Bytes x.image → Bytes x.ident
    → y ≡ convert x out list ws → Readable x (length out) (length list) ws y.output
unfolding convert
readable_by x out list ws {y} b i e = record {
  accepted = λ d a.
      let f : y.output ≡ blit 0 (file_of x d.laid_out) out = ap (λ (o : Outcome). o.output) e ∙ rw a in
      let g = then_fine (work_in ws) _ a in
      rw f (reads_promised x out list d b.all i.all g.1);
  sheeted = λ d a.
      let f : y.output ≡ blit 0 (file_of x d.laid_out) out = ap (λ (o : Outcome). o.output) e ∙ rw a in
      let g = then_fine (work_in ws) _ a in
      rw f (sheet_promised x out list d b.all i.all g.1);
}
