use Rattle.steps.specs.StepsLaws.{all-cleared}
use Rattle.steps.proofs.step.close.Goals as goal

pub returns : goal.returns
returns c = record { right = c.put_list.ensures; cleared = all-cleared c.args.source.now c.args.fragments.now c.args.columns.now c.args.copies.now c.args.stretches.now c.args.offsets.now c.clear.ensures c.clear-2.ensures c.clear-3.ensures c.clear-4.ensures c.clear-5.ensures c.clear-6.ensures }
