use Rattle.window_file.specs.WindowLaws.{ident-length, history_asks, columns_asks, structure_asks, structure_ready, metadata_passed, metadata_laid}
use Rattle.window_file.proofs.lay_metadata.Goals as goal

pub returns-then-m-a : goal.returns-then-m-a
returns-then-m-a c v f st = metadata_passed st _ _ c.if-m-a.true

pub returns : goal.returns
returns c v f st =
    let h = history_asks st in
    let k = columns_asks st in
    let t = structure_asks st in
    metadata_laid st _ _ (c.lay_front.ensures (ident-length st)) (c.lay_history.ensures h.0 h.1 h.2 h.3 h.4) c.lay_new.ensures
    (c.lay_copies.ensures k.0 k.1 k.2 k.3 k.4) (c.lay_structure.ensures t.0 t.1 t.2 _ _ (structure_ready st).ordered)
