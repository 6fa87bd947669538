use mathlib.Core.Path.{refl}
use Rattle.writing.specs.FileLaws as file
use Rattle.window_file.specs.WindowLaws.{data_counts, data_asks, size_below, signals_in_lem, attached_asks, window_done}
use native.Mathlib.Omega.{arith}
use Rattle.window_file.proofs.write_window.Goals as goal

pub returns-then-fragments-lt3072 : goal.returns-then-fragments-lt3072
returns-then-fragments-lt3072 c st l k = absurd (omega (arith, file.long_fragments_lem st, c.if-fragments-lt3072.true))

pub returns : goal.returns
returns c st l k =
    let n = data_counts st in
    let t = attached_asks st in
    let d = c.lay_data.ensures n.0 n.1 n.2 _ _ (data_asks st refl) (size_below st) (signals_in_lem st) k in
    (d.0, window_done st _ c.args.w.now refl l c.zero.ensures (c.lay_metadata.ensures _ _ st) d.1 (c.lay_attachments.ensures t.0 t.1 t.2 t.3 t.4))
