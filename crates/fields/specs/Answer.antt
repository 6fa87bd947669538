-- The code's answer to a check, as a verdict.
use Rattle.std.specs.Prelude.{ℕ, Result, Ok, Err, ⊤}
use Rattle.fields.specs.declared.refusal.Refusal.{Refusal}
use Rattle.fields.specs.declared.refusal.Refusal.TheVariants.{
  Arguments,
  BlockSize,
  ImageSize,
  OutOfImage,
  NotMdf,
  UnreadableVersion,
  OtherVersion,
  LinksPastBlock,
  BlockTooLong,
  NotAsWanted,
  MetAgain,
  NotInChain,
  IdSize,
  Groups,
  BrokenRecord,
  NotCopied,
  HistoryWithoutLinks,
  BrokenAttachment,
  OverLimit,
  OutputTooShort,
  ListTooShort,
  NoSuchColumn,
  NoSuchRecords,
  OtherForm,
  OutsideDestination,
  Unit,
  Types,
  BrokenPhoto,
  NotTakenOut,
  StillNamed,
}
use Rattle.base.specs.Checked.{refused, Verdict, fine}

abbrev pub number_of : Refusal → ℕ
number_of Arguments = 1
number_of BlockSize = 2
number_of ImageSize = 3
number_of (OutOfImage at) = 4
number_of NotMdf = 5
number_of UnreadableVersion = 6
number_of OtherVersion = 7
number_of (LinksPastBlock at) = 8
number_of (BlockTooLong at) = 9
number_of (NotAsWanted at) = 10
number_of (MetAgain at) = 11
number_of (NotInChain at) = 12
number_of (IdSize at) = 13
number_of (Groups at) = 14
number_of (BrokenRecord at) = 15
number_of (NotCopied at) = 16
number_of (HistoryWithoutLinks at) = 17
number_of (BrokenAttachment at) = 18
number_of (OverLimit at) = 19
number_of (OutputTooShort at) = 20
number_of (ListTooShort at) = 21
number_of NoSuchColumn = 22
number_of NoSuchRecords = 23
number_of OtherForm = 24
number_of OutsideDestination = 25
number_of Unit = 26
number_of Types = 27
number_of (BrokenPhoto at) = 28
number_of NotTakenOut = 33
number_of StillNamed = 34

-- 0 where a refusal has none
abbrev pub place_of : Refusal → ℕ
place_of Arguments = 0
place_of BlockSize = 0
place_of ImageSize = 0
place_of (OutOfImage at) = at
place_of NotMdf = 0
place_of UnreadableVersion = 0
place_of OtherVersion = 0
place_of (LinksPastBlock at) = at
place_of (BlockTooLong at) = at
place_of (NotAsWanted at) = at
place_of (MetAgain at) = at
place_of (NotInChain at) = at
place_of (IdSize at) = at
place_of (Groups at) = at
place_of (BrokenRecord at) = at
place_of (NotCopied at) = at
place_of (HistoryWithoutLinks at) = at
place_of (BrokenAttachment at) = at
place_of (OverLimit at) = at
place_of (OutputTooShort at) = at
place_of (ListTooShort at) = at
place_of NoSuchColumn = 0
place_of NoSuchRecords = 0
place_of OtherForm = 0
place_of OutsideDestination = 0
place_of Unit = 0
place_of Types = 0
place_of (BrokenPhoto at) = at
place_of NotTakenOut = 0
place_of StillNamed = 0

abbrev pub refused_by : Refusal → Verdict
refused_by e = refused (number_of e) (place_of e)

abbrev pub verdict_of : Result ⊤ Refusal → Verdict
verdict_of (Ok x) = fine
verdict_of (Err e) = refused_by e
