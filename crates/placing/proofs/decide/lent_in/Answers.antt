-- Not 64 bytes, not its first 16, a text that is too long; or none of these.
use Rattle.placing.specs.LentLaws.{lent-short, lent_unmarked, lent_other, lent-long, lent-fine}
use Rattle.placing.proofs.decide.lent_in.Goals as goal
use Rattle.placing.proofs.decide.lent_in.Goals.{
  then-ident-ne64-via-then-ident-ne64,
  then-ident-ne64-via-else-ident-ne64+then-field_at-ne2314885530820953165,
  then-ident-ne64-via-else-ident-ne64+else-field_at-ne2314885530820953165+then-field_at-ne2314885531088072244,
  then-ident-ne64-via-else-ident-ne64+else-field_at-ne2314885530820953165+else-field_at-ne2314885531088072244+then-text-gt4096,
}

pub returns-then-ident-ne64 : goal.returns-then-ident-ne64
returns-then-ident-ne64 c = elim c.then-ident-ne64.branch [
  | then-ident-ne64-via-then-ident-ne64 w ↦
      lent-short _ _ w.if-ident-ne64.true
  | then-ident-ne64-via-else-ident-ne64+then-field_at-ne2314885530820953165 w ↦
      lent_unmarked _ _ w.if-ident-ne64.false w.field_at.ensures.is w.if-field_at-ne2314885530820953165.true
  | then-ident-ne64-via-else-ident-ne64+else-field_at-ne2314885530820953165+then-field_at-ne2314885531088072244 w ↦
      lent_other _ _ w.if-ident-ne64.false w.field_at.ensures.is w.if-field_at-ne2314885530820953165.false
      w.field_at-else-field_at-ne2314885530820953165.ensures.is w.if-field_at-ne2314885531088072244.true
  | then-ident-ne64-via-else-ident-ne64+else-field_at-ne2314885530820953165+else-field_at-ne2314885531088072244+then-text-gt4096 w ↦
      lent-long _ _ w.if-ident-ne64.false w.field_at.ensures.is w.if-field_at-ne2314885530820953165.false
      w.field_at-else-field_at-ne2314885530820953165.ensures.is w.if-field_at-ne2314885531088072244.false w.if-text-gt4096.true
]

pub returns : goal.returns
returns c = lent-fine _ _ c.if-ident-ne64.false c.field_at.ensures.is c.if-field_at-ne2314885530820953165.false
    c.field_at-else-field_at-ne2314885530820953165.ensures.is c.if-field_at-ne2314885531088072244.false c.if-text-gt4096.false
