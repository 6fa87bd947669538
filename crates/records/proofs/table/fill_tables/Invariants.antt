-- What is left of the groups, laid over the tables from there on, gives what the whole gives.
use Rattle.records.specs.Table.{each, size_word}
use Rattle.mdf.specs.Group.{record_id}
use Rattle.base.specs.Blit.{blit}
use mathlib.Core.Path.{◌≡◌}
use lib.ListN.{drop}
use Rattle.records.proofs.table.fill_tables.Given as goal

abbrev pub invariant-loop-i : goal.invariant-loop-i
invariant-loop-i l =
    (blit l.i (each (record_id l.image) (drop l.i l.groups)) l.ids ≡ blit 0 (each (record_id l.image) l.groups) l.initial.ids)
    × (blit l.i (each (size_word l.image) (drop l.i l.groups)) l.sizes ≡ blit 0 (each (size_word l.image) l.groups) l.initial.sizes)
