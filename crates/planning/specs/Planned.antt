-- What the code answers for a group and for all groups, for every plan that stands in the words with room for their columns.
use Rattle.std.specs.Prelude.{ℕ, ◌+◌, ◌*◌, ◌≤◌, List, [], ◌∷◌, length, Result}
use Rattle.plan.specs.Rules.{Rules}
use Rattle.plan.specs.Columns.{SrcGroup, Plan, master_of, own_master, plan_group, plan_groups}
use Rattle.result.specs.Guarantee.{In}
use Rattle.planning.specs.declared.column.Progress.{Progress}
use Rattle.fields.specs.declared.refusal.Refusal.{Refusal}
use Rattle.planning.specs.Items.{group_of, groups_in, channels_in}
use Rattle.planning.specs.Planning.{Base, Held, Gives, within, others}
use Rattle.planning.specs.Timing.{waiting}

-- the channels of a group but its own master
abbrev pub others_of : List ℕ → SrcGroup → ℕ
others_of s g = others (own_master (master_of s g)) g.channels

unfoldable pub others_in : List ℕ → List SrcGroup → ℕ
others_in s [] = 0
others_in s (g ∷ gs) = others_of s g + others_in s gs

-- the columns of a plan and the time columns that groups wait for
abbrev pub reserved : List ℕ → List SrcGroup → Plan → ℕ
reserved s all p = length p.columns + waiting s p.columns all

pub record GroupPlan (rs : Rules) (s src bys : List ℕ) (n i g d records nc no nf : ℕ) (w f : List ℕ) (r : Result Progress Refusal) (w' f' : List ℕ) : Type 0 where
  pub bound : within r (nc + 1537) (no + 1537)
  pub is : (b : Base) (p : Plan) → Held b p nc no nf w f → In (group_of d g (channels_in src n i) records) (groups_in src n)
      → reserved s (groups_in src n) p + others_of s (group_of d g (channels_in src n i) records) ≤ 512
      → Gives b (plan_group rs s (groups_in src n) bys (group_of d g (channels_in src n i) records) p) r w' f'

pub record GroupsPlan (rs : Rules) (s src bys : List ℕ) (n nf : ℕ) (w f : List ℕ) (r : Result Progress Refusal) (w' f' : List ℕ) : Type 0 where
  pub bound : within r (1537 * n) (1537 * n)
  pub is : (b : Base) (p : Plan) → Held b p 0 0 nf w f → reserved s (groups_in src n) p + others_in s (groups_in src n) ≤ 512
      → Gives b (plan_groups rs s (groups_in src n) bys (groups_in src n) p) r w' f'
