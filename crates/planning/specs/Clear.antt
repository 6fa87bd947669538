-- The data of a compared group is checked: its time column can be compared.
use Rattle.std.specs.Prelude.{ℕ, ◌≤◌, ◌<◌, List, true, false, ◌≡◌, length, get_or}
use Rattle.std.proofs.Math.Option.{some}
use Rattle.base.specs.Checked.{fine}
use Rattle.mdf.specs.Group.{addresses, is_storage}
use Rattle.mdf.specs.Records.{most64, size_of}
use Rattle.plan.specs.Channel.{fits, width}
use Rattle.plan.specs.Columns.{SrcGroup, master_of}
use Rattle.result.specs.Member.{In}
use Rattle.result.specs.Payload.{records_of}
use Rattle.result.specs.Sharing.{streams_in, is_compared}

-- group g with its master m
pub record Clear (s : List ℕ) (g : SrcGroup) (m : ℕ) : Type 0 where
  pub within : g.number < length (addresses g.data_group.groups)
  pub address : get_or (addresses g.data_group.groups) g.number 0 ≡ g.at
  pub plain : is_storage s g.at ≡ false
  pub fitting : fits s g.at m ≡ true
  pub checked : 0 < width s g.at m → streams_in s g.data_group.at (addresses g.data_group.groups) g.data_group.fragments ≡ fine
  pub small : 0 < width s g.at m → size_of g.data_group.fragments ≤ most64
  pub counted : 0 < width s g.at m → length (records_of s g) ≡ g.records

-- all compared groups
abbrev pub AllClear : List ℕ → List SrcGroup → Type 0
AllClear s gs = (g : SrcGroup) → In g gs → is_compared s gs g ≡ true → (m : ℕ) → master_of s g ≡ some m → Clear s g m
