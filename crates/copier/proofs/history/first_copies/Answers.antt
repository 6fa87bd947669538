-- The HD comment, then the history chain, with an index of no copies.
use native.Mathlib.Omega.{arith}
use Rattle.fields.specs.AnswerLaws.{passed_on}
use Rattle.copier.specs.IndexLaws.{index_begin}
use Rattle.copier.specs.TurnLaws.{indexed_at, after-at}
use Rattle.copier.specs.HistoryLaws.{first_refused, first-chain}
use Rattle.copier.proofs.history.first_copies.Goals as goal

pub copy_root-requires : goal.copy_root-requires
copy_root-requires c =
    let r = c.is_ready.ensures.yes c.if-not-is_ready.false in
    record { words = r.words; limit = r.limit; room = record { few = omega arith; near = omega arith }; indexed = index_begin _ }

pub history_chain-requires : goal.history_chain-requires
history_chain-requires c =
    let r = c.is_ready.ensures.yes c.if-not-is_ready.false in record {
      words = omega (arith, r.words, c.copy_root.auto.memo);
      limit = r.limit;
      room = (after-at c.copy_root.ensures.after c.in_ok-comment.was).room;
      indexed = indexed_at c.copy_root.ensures.indexed c.in_ok-comment.was;
    }

pub returns-then-not-is_ready : goal.returns-then-not-is_ready
returns-then-not-is_ready c = λ r. absurd (c.is_ready.ensures.no c.if-not-is_ready.true r)

pub returns-in_err-comment : goal.returns-in_err-comment
returns-in_err-comment c =
    rw (passed_on _ _ c.from_residual.ensures) (λ r. first_refused _ _ _ c.link_at.ensures c.copy_root.ensures.copied c.in_err-comment.was)

pub returns : goal.returns
returns c = λ r.
    first-chain _ _ _ c.link_at.ensures c.copy_root.ensures.copied c.in_ok-comment.was c.copy_root.ensures.after c.link_at-2.ensures _
    c.history_chain.ensures
