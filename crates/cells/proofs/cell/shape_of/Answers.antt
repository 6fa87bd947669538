-- Each field as the channel and the group have it; the channel fits.
use mathlib.Core.Path.{refl, sym, ◌∙◌}
use Rattle.payload_laws.specs.CellLaws.{fits-within}
use Rattle.cells.specs.CellLaws.{kept-within}
use native.Mathlib.Omega.{arith}
use Rattle.cells.proofs.cell.shape_of.Goals as goal

pub returns : goal.returns
returns c = λ h.
    let s = c.args.image.now in
    let g = c.args.g in
    let n = c.args.c in
    let f = fits-within s g n h in
    let a = c.byte_offset-first.ensures.is in
    let b = c.channel_bytes-bytes.ensures.is in
    let d = c.samples_of-samples.ensures.is in
    let e = c.inval_bytes_of.ensures.is in
    let p = c.inval_position-position.ensures.is in
    record {
      shaped = record {
        first = a;
        bytes = b;
        long = rw (d, e);
        keep = c.keeps_inval-keep.ensures;
        inval = rw (d, p);
        bit = rw p;
        fit = omega arith;
        kept = λ q. let k = kept-within s g n (sym c.keeps_inval-keep.ensures ∙ q) in omega arith;
        short = let x = c.samples_of-samples.ensures.small in let y =
            c.inval_bytes_of.ensures.small in omega arith;
        wide = c.width_of-width.ensures.is;
        fitting = h;
      };
      group = refl;
      channel = refl;
    }
