-- A refusal is what is decided; else the file is written, and the work slices are cleared.
use Rattle.fields.specs.AnswerLaws.{passed_on}
use Rattle.thinning.specs.TakeLaws.{arranges_refused, arranges_done, writer_asks, refused_left, done_left, promised_by}
use Rattle.thinning.proofs.take.take_out.Goals as goal

pub write_file-requires : goal.write_file-requires
write_file-requires c =
    let r = arranges_done c.arrange.ensures c.in_ok-arranged.was in
    record { told = r.told; stands = writer_asks c.args.out.now c.are_bytes.ensures r }

pub returns-in_err-arranged : goal.returns-in_err-arranged
returns-in_err-arranged c =
    let a = c.args in
    let e = refused_left a.out.now c.in_err-arranged.field-0.0 (arranges_refused c.arrange.ensures c.in_err-arranged.was) in
    rw (passed_on _ _ c.from_residual.ensures) (record { done = e; promised = promised_by a.out.now _ _ c.are_bytes.ensures e })

pub returns : goal.returns
returns c =
    let a = c.args in
    let r = arranges_done c.arrange.ensures c.in_ok-arranged.was in
    let e = done_left a.out.now r (c.write_file.ensures _ (writer_asks a.out.now c.are_bytes.ensures r)) c.clear.ensures c.clear-2.ensures c.clear-3.ensures c.clear-4.ensures in
    record { done = e; promised = promised_by a.out.now _ _ c.are_bytes.ensures e }
