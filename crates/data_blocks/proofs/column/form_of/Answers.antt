-- As its parts are found.
use mathlib.Core.Path.{refl}
use Rattle.data_blocks.proofs.column.form_of.Goals as goal

pub returns : goal.returns
returns c e =
    record {
      shape_of = c.shape_of-shape.ensures e;
      kind_is = c.data_kind-kind.ensures;
      per_is = c.per_full-per.ensures;
      blocks_are = c.block_count-blocks.ensures;
      records_are = refl;
    }
