-- All that is known of what was decided for a call: its steps, its groups, its plan.
use Rattle.std.specs.Prelude.{ℕ, ◌+◌, ◌≤◌, ◌≡◌, refl, true, false, length}
use Rattle.std.proofs.Common.{sym, subst, arith}
use Rattle.base.specs.Checked.{ok, fine}
use Rattle.mdf.specs.Group.{addresses, data_groups, is_storage}
use Rattle.plan.specs.Channel.{fits}
use Rattle.plan.specs.Columns.{SrcGroup, Column, size_of_signal}
use Rattle.plan.specs.Data.{is_nonempty, records_in, signal_in, data_in}
use Rattle.plan.specs.Layout.{column_blocks}
use Rattle.result.specs.Result.{Args, rules_of, Decided, decided, answer}
use Rattle.result.specs.Sharing.{is_equal}
use Rattle.result.specs.Guarantee.{In, columns_of, omissions_of, Became, NamesMaster}
use Rattle.plan_laws.specs.Lists.{occurs}
use Rattle.plan_laws.specs.GroupLaws.{all_addresses, all-length}
use Rattle.plan_laws.specs.SourceLaws.{Groups, groups_known}
use Rattle.plan_laws.specs.PlanLaws.{Planned, plan-known, plan-source, plan-fits, plan-few, plan-few_omissions, plan_signals}
use Rattle.plan_laws.specs.DecideLaws.{Sound}
use Rattle.plan_laws.specs.MasterLaws.{Standing}
use Rattle.plan_laws.specs.StandLaws.{sharing-standing, sharing-off, sharing_distinct, plan-masters, plan_became, plan_unshared, plan_distinct}
use Rattle.plan_laws.specs.DataLaws.{data_fine_lem, records_fine_lem, signal_fine_lem}
use Rattle.plan_laws.specs.Decision.{Steps, decided_steps, blocks-few, answer_accepted}

pub record Known (x : Args) (d : Decided) : Type 0 where
  pub steps : Steps x d
  pub groups : Groups x.image steps.source steps.numbers d.groups
  pub stands : Standing x.image d.groups d.stands
  pub planned : Planned (rules_of x) x.image d.groups d.stands (length steps.source.fragments) d.planned
  -- fields of the guarantee
  pub once : (g : SrcGroup) → In g d.groups → is_storage x.image g.at ≡ false → (c : ℕ) → In c g.channels
      → Became x.image d.groups d.planned.columns d.planned.omissions g c
  pub unshared : x.share ≡ false → (g : SrcGroup) → In g d.groups → is_storage x.image g.at ≡ false → (c : ℕ) → In c g.channels
      → columns_of c d.planned.columns + omissions_of c d.planned.omissions ≡ 1
  pub distinct : x.share ≡ true → (c e : Column) → In c d.planned.columns → In e d.planned.columns → c.is_time_lem ≡ true → e.is_time_lem ≡ true
      → (c.channel ≡ e.channel → ⊥) → is_equal x.image c.group c.channel e.group e.channel ≡ false
  pub source : (c : Column) → In c d.planned.columns
      → In c.group d.groups × (is_storage x.image c.group.at ≡ false) × In c.channel c.group.channels
  pub masters : (c : Column) → In c d.planned.columns → NamesMaster x.image d.groups d.planned.columns c c.is_time_lem
  -- every column fits; limits
  pub fitting : (c : Column) → In c d.planned.columns → fits x.image c.group.at c.channel ≡ true
  pub few_columns : length d.planned.columns ≤ 512
  pub few_omissions : length d.planned.omissions ≤ 1024
  pub few_fragments : d.planned.fragments ≤ 1024
  pub few_signals : (c : Column) → In c d.planned.columns → length steps.source.fragments + size_of_signal c.signal_of ≤ 1024
  -- the data stage passed for every column
  pub records_fine : (c : Column) → In c d.planned.columns → is_nonempty x.image c ≡ true
      → records_in x.image c.group.data_group.at (addresses c.group.data_group.groups) c.group.data_group.fragments ≡ fine
  pub signal_fine : (c : Column) → In c d.planned.columns → signal_in x.image c.signal_of ≡ fine
  pub few_blocks : (c : Column) → In c d.planned.columns → column_blocks x.image x.block_size c ≤ 4294967295

steps_known : (x : Args) (d : Decided) → Steps x d → Known x d
steps_known x d t =
    let n = length t.source.fragments in
    let g : Groups x.image t.source t.numbers d.groups =
    subst (Groups x.image t.source t.numbers) (sym t.groups) (groups_known x.image t.source t.numbers t.walked t.counted) in
    let one : (y : ℕ) → occurs y (all_addresses d.groups) ≤ 1 = λ y. omega (arith, g.once y) in
    let k : Standing x.image d.groups d.stands = sharing-standing x.image d.groups one x.share (data_groups t.source) d.stands t.shared in
    let sound : Sound x.image d.groups d.stands = λ h i z. (k h i z).0 in
    let p = plan-known (rules_of x) x.image d.groups d.stands n d.planned one g.nonzero sound g.few_fragments t.planned in
    let data_of : (c : Column) → In c d.planned.columns → data_in x.image d.planned.columns c.group.data_group ≡ fine =
    λ c i. data_fine_lem x.image d.planned.columns (data_groups t.source) t.data_fine c.group.data_group
    (g.origins c.group (p.sourced c i).group_in).data_group_in in
    record {
      steps = t;
      groups = g;
      stands = k;
      planned = p;
      once = plan_became (rules_of x) x.image d.groups d.stands n d.planned one g.nonzero k g.few_fragments t.planned;
      unshared = λ f. plan_unshared (rules_of x) x.image d.groups d.stands n d.planned one g.nonzero k g.few_fragments t.planned
          (sharing-off x.image d.groups one (data_groups t.source) d.stands (rw f at t.shared));
      distinct = λ f. plan_distinct (rules_of x) x.image d.groups d.stands n d.planned one g.nonzero k g.few_fragments t.planned
          (sharing_distinct x.image d.groups one g.nonzero (data_groups t.source) d.stands (rw f at t.shared));
      source = plan-source (rules_of x) x.image d.groups d.stands n d.planned one g.nonzero sound g.few_fragments t.planned;
      masters = plan-masters (rules_of x) x.image d.groups d.stands n d.planned one g.nonzero k g.few_fragments t.planned;
      fitting = plan-fits (rules_of x) x.image d.groups d.stands n d.planned one g.nonzero sound g.few_fragments t.planned;
      few_columns = omega (arith, plan-few (rules_of x) x.image d.groups d.stands n d.planned one g.nonzero sound g.few_fragments t.planned, g.few_channels);
      few_omissions = omega (
        arith,
        plan-few_omissions (rules_of x) x.image d.groups d.stands n d.planned one g.nonzero sound g.few_fragments t.planned,
        all-length d.groups,
        g.few_channels,
        g.few_groups,
      );
      few_fragments = p.few;
      few_signals = plan_signals (rules_of x) x.image d.groups d.stands n d.planned one g.nonzero sound g.few_fragments t.planned;
      records_fine = λ c i k. records_fine_lem x.image d.planned.columns c.group.data_group (data_of c i) c i refl k;
      signal_fine = λ c i. signal_fine_lem x.image d.planned.columns c.group.data_group (data_of c i) c i refl;
      few_blocks = blocks-few x.image x.block_size d.planned.columns t.blocks_fine;
    }

pub decided-known : (x : Args) (d : Decided) → decided x ≡ ok d → Known x d
decided-known x d e = steps_known x d (decided_steps x d e)

-- of an accepted call
pub answer-known : (x : Args) (out list : ℕ) (d : Decided) → answer x out list ≡ ok d → Known x d
answer-known x out list d e = decided-known x d (answer_accepted x out list d e).decided_as
