use Rattle.std.proofs.Common.{arith, rules, refl, ◌≡◌, ◌≤◌, ⊎_elim}
use Rattle.window_structure.specs.LayingLaws.{columns-from, columns-over, columns_pass}
use Rattle.window_structure.proofs.lay_passed.Goals as goal

pub loop-k-init : goal.loop-k-init
loop-k-init c = (refl, λ m ats g q l t. columns-from _ c.near-k.ensures t)

pub past-requires : goal.past-requires
past-requires c = (omega (arith, c.requires.0), c.requires.1)

pub returns-then-past : goal.returns-then-past
returns-then-past c = λ m ats g q l t. columns-over (c.loop-k.invariant.1 m ats g q l t) c.loop-k-test.true (c.past.ensures c.if-past.true)

pub lies-requires : goal.lies-requires
lies-requires c = c.column_at-h.ensures.0

pub returns-then-lies : goal.returns-then-lies
returns-then-lies c = c.loop-k.invariant.1

pub lay_column_dl-requires : goal.lay_column_dl-requires
lay_column_dl-requires c = c.column_at-h.ensures.0

pub loop-k-preserved : goal.loop-k-preserved
loop-k-preserved c = (
  search rules,
  λ m ats g q l t. columns_pass (c.loop-k.invariant.1 m ats g q l t) c.loop-k-test.true (c.column_at-h.ensures.1 q c.loop-k-test.true l) c.column_at-h.ensures.0 (c.lies.ensures c.if-lies.false) c.lay_column_dl.ensures,
)

pub returns : goal.returns
returns c =
    let few : c.near-k.result ≤ c.args.n = ⊎_elim (λ e. omega (arith, e)) (λ s. omega (arith, s.0)) c.near-k.ensures in
    let last : c.loop-k.k ≡ c.args.n = omega (arith, few) in
    λ m ats g q l t. rw last at c.loop-k.invariant.1 m ats g q l t
