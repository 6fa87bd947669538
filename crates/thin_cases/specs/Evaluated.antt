-- What the examples of this crate are evaluated by, named once.
use Rattle.std.specs.Prelude.{ℕ}
use Rattle.sheet_cases.specs.Evaluated.{printed}
use Rattle.result.specs.Result as result_result
use Rattle.thin.specs.Kept as thin_kept
use Rattle.thin.specs.Place as thin_place
use Rattle.thin.specs.Fill as thin_fill
use Rattle.thin.specs.TakenOut as thin_taken_out

-- bookkeeping: a proof that unfolds this unfolds whatever stands in its list
unfoldable pub taken : ℕ
unfolding
    printed result_result.work_in result_result.zeros thin_kept.signal_place thin_kept.is_signal thin_kept.signal_sound thin_kept.master_sound
    thin_kept.columns_sound thin_kept.numbers_in thin_kept.masters_kept thin_kept.new_number thin_kept.signal_kept thin_kept.kept_from thin_kept.kept_columns
    thin_kept.photos_kept thin_place.blocks_of thin_place.kept_sizes thin_place.placed thin_fill.kept_data thin_fill.kept_dg thin_fill.kept_cg
    thin_fill.kept_cn thin_fill.length_kept thin_fill.kept_dl thin_fill.kept_lists thin_fill.kept_structure thin_fill.moved_blocks thin_fill.kept_blocks
    thin_fill.blocks_kept thin_fill.file_kept thin_taken_out.arranged thin_taken_out.answer thin_taken_out.take_out
taken = 0
