-- What the examples of this crate are evaluated by, named once.
use Rattle.std.specs.Prelude.{ℕ}
use Rattle.mdf.specs.Walk as mdf_walk
use Rattle.result.specs.Sharing as result_sharing
use Rattle.file.specs.Form as file_form
use Rattle.file.specs.Opened as file_opened
use Rattle.cases.specs.Evaluated.{evaluated}
use Rattle.sheet.specs.Sheet as sheet_sheet

-- bookkeeping: a proof that unfolds this unfolds whatever stands in its list
unfoldable pub printed : ℕ
unfolding
    evaluated mdf_walk.walk_of result_sharing.text_at file_form.cycles file_form.record_bytes file_form.alone file_form.none_zero file_form.links_formed
    file_form.is_equal_length file_form.equal_length file_form.have_length file_form.list_formed file_form.all_dt file_form.all_dv file_form.one_kind file_form.formed
    file_opened.column_in file_opened.columns_in file_opened.opened sheet_sheet.left_in sheet_sheet.right_in sheet_sheet.kind_of sheet_sheet.up_to_zero
    sheet_sheet.printable sheet_sheet.name_of sheet_sheet.number_at sheet_sheet.master_of sheet_sheet.sheet_line sheet_sheet.sheet_lines sheet_sheet.heading
    sheet_sheet.page_count sheet_sheet.page_of sheet_sheet.pages_from sheet_sheet.pages sheet_sheet.lines_text sheet_sheet.pages_text sheet_sheet.sheet
printed = 0
