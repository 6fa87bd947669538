-- Masters and times, as the code answers them.
use Rattle.std.specs.Prelude.{ℕ, List, ◌≡◌, Some, None}
use Rattle.std.specs.Prelude as code
use Rattle.std.proofs.Math.Option.{Option, none, some}
use Rattle.base.specs.Choice.{pick, if_eq}
use Rattle.mdf.specs.Group.{is_storage}
use Rattle.plan.specs.Columns.{first_master, master_of, remote_link, group_at, standing, TimeOf, time, untimed, differs, on_master, on_group}
use Rattle.planning.specs.declared.masters.Time.{Time}
use Rattle.planning.specs.declared.masters.Time.TheVariants.{Untimed, Differs, At}
use Rattle.planning.specs.Items.{group_of, groups_in, channels_in}

abbrev pub master_from : code.Option ℕ → Option ℕ
master_from None = none
master_from (Some c) = some c

-- the master of the group at g with its channels from item i on
unfoldable pub master_in : List ℕ → List ℕ → ℕ → ℕ → ℕ → Option ℕ
master_in s w n i g = pick (is_storage s g) none (first_master s g (channels_in w n i))

abbrev pub time_words : TimeOf → Time
time_words untimed = Untimed
time_words differs = Differs
time_words (time t m) = At m t.at t.data_group.at t.records

-- the master at c of the group at g, whatever its channels, or the one that stands for it
pub record StandsIn (s w bys : List ℕ) (n c g d records : ℕ) (r : Time) : Type 0 where
  pub is : (cs : List ℕ) → r ≡ time_words (standing s (groups_in w n) bys (group_of d g cs records) c)

-- the time of the remote group, for the group at g with so many records
unfoldable pub remote_in : List ℕ → List ℕ → List ℕ → ℕ → ℕ → ℕ → TimeOf
remote_in s w bys n g records =
    on_group (group_at (remote_link s g) (groups_in w n)) untimed (λ t.
    on_master (master_of s t) untimed (λ m. if_eq t.records records (standing s (groups_in w n) bys t m) differs))
