-- The numbers of the reasons (document 01, columns and omissions; document 02, request 6).
use Rattle.std.specs.Prelude.{ℕ}
use Rattle.deciding.specs.declared.reason.Reason.{Reason}
use Rattle.deciding.specs.declared.reason.Reason.TheVariants.{OtherCount, Unfit, FurtherMaster, Synchronization, Array, Structure, StorageGroup, ByTable}

abbrev pub reason_number : Reason → ℕ
reason_number OtherCount = 1
reason_number Unfit = 2
reason_number FurtherMaster = 3
reason_number Synchronization = 4
reason_number Array = 5
reason_number Structure = 6
reason_number StorageGroup = 7
reason_number ByTable = 8
