-- The pages of an opened file, or the refusal.
use Rattle.std.proofs.Common.{rules}
use Rattle.sheets.specs.PrintedLaws.{printed_refusal, printed-pages, few-columns}
use Rattle.sheets.proofs.column_file.sheet.Goals as goal

pub put_pages-requires : goal.put_pages-requires
put_pages-requires c = few-columns c.open_file.ensures.1 c.in-Ok.is

pub returns-in-Ok : goal.returns-in-Ok
returns-in-Ok c = printed-pages _ c.open_file.new.source (c.open_file.ensures.0 (search rules)) c.in-Ok.is c.put_pages.ensures

pub returns-in-Err : goal.returns-in-Err
returns-in-Err c =
    printed_refusal _ c.open_file.new.source (c.open_file.ensures.0 (search rules)) c.in-Err.is c.number.ensures c.place.ensures c.put_refusal.ensures
