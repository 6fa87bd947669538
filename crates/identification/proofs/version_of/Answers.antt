-- Both parts are those of the definition, and each number is at most 65,535.
use Rattle.std.proofs.Common.{arith}
use Rattle.identification.specs.IdentificationLaws.{version_first, version_second, version_both, number_small, second-small}
use Rattle.identification.proofs.version_of.Goals as goal

pub overflow_mul-result : goal.overflow_mul-result
overflow_mul-result c =
    let m = number_small _ c.number.ensures c.in_ok-first.was in
    omega arith

pub overflow_add-result : goal.overflow_add-result
overflow_add-result c =
    let m = number_small _ c.number.ensures c.in_ok-first.was in
    let n = second-small _ c.second.ensures c.in_ok-second.was in
    omega arith

pub returns-in_err-first : goal.returns-in_err-first
returns-in_err-first c =
    rw c.from_residual.ensures
    (version_first _ c.at_dot-parts.ensures.before c.at_dot-parts.ensures.past c.number.ensures c.in_err-first.was)

pub returns-in_err-second : goal.returns-in_err-second
returns-in_err-second c =
    rw c.from_residual-in_err-second.ensures
    (version_second _ c.at_dot-parts.ensures.before c.at_dot-parts.ensures.past c.number.ensures c.in_ok-first.was
    c.second.ensures c.in_err-second.was)

pub returns : goal.returns
returns c =
    version_both _ c.at_dot-parts.ensures.before c.at_dot-parts.ensures.past c.number.ensures c.in_ok-first.was
    c.second.ensures c.in_ok-second.was
