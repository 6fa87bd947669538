-- A storage group has none; others have their first.
use Rattle.planning.specs.TimeLaws.{master_storage, master_own}
use Rattle.planning.proofs.masters.master_of.Goals as goal

pub returns-then-is_storage : goal.returns-then-is_storage
returns-then-is_storage c = master_storage _ _ _ _ _ c.is_storage.ensures c.if-is_storage.true

pub returns : goal.returns
returns c = master_own _ _ _ _ _ c.is_storage.ensures c.if-is_storage.false c.first_master.ensures
