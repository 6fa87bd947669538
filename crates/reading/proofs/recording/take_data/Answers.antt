-- The chain's answer, then the id size, are the cases of the definition.
use Rattle.fields.specs.AnswerLaws.{passed_on}
use Rattle.reading.specs.DataLaws.{data_chain_stopped, data_unsized, data_taken}
use Rattle.reading.proofs.recording.take_data.Goals as goal

pub returns-in_err-count : goal.returns-in_err-count
returns-in_err-count c =
    rw (passed_on _ _ c.from_residual.ensures) (data_chain_stopped _ _ _ _ _ c.link_at.ensures _ c.chain.ensures c.in_err-count.was)

pub returns-in_err-id_size_in : goal.returns-in_err-id_size_in
returns-in_err-id_size_in c =
    rw (passed_on _ _ c.from_residual-in_err-id_size_in.ensures)
    (data_unsized _ _ _ _ _ c.link_at.ensures _ c.chain.ensures c.in_ok-count.was c.id_size_in.ensures c.in_err-id_size_in.was)

pub returns : goal.returns
returns c = data_taken _ _ _ _ _ c.link_at.ensures _ c.chain.ensures c.in_ok-count.was c.id_size_in.ensures c.in_ok-id_size_in.was
