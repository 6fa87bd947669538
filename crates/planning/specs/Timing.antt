-- What the code answers for a group's time. Room for columns: a group with a master and no time column waits for one.
use Rattle.std.specs.Prelude.{ℕ, ◌+◌, ◌*◌, ◌≤◌, ◌<◌, List, [], ◌∷◌, ◌≡◌, Bool, length, get_or}
use Rattle.std.proofs.Math.Option.{Option, none, some}
use Rattle.base.specs.Choice.{if_eq}
use Rattle.base.specs.Checked.{Verdict, fine, and_then}
use Rattle.plan.specs.Rules.{Rules}
use Rattle.plan.specs.Photos.{photos_in}
use Rattle.plan.specs.Columns.{SrcGroup, Column, Plan, master_of, time_of, time_column, with_time, new_time_in, plan_channels, plan_timed, own_master}
use Rattle.work_words.specs.PlanWords.{master_word}
use Rattle.result.specs.Guarantee.{In}
use Rattle.planning.specs.declared.timing.Settled.{Settled}
use Rattle.planning.specs.Items.{group_of, groups_in, channels_in}
use Rattle.planning.specs.Planning.{Base, Held}

abbrev pub lack : Option ℕ → Option ℕ → ℕ
lack none t = 0
lack (some m) none = 1
lack (some m) (some k) = 0

-- how many of the groups have a master and no time column among cs
unfoldable pub waiting : List ℕ → List Column → List SrcGroup → ℕ
waiting s cs [] = 0
waiting s cs (g ∷ gs) = lack (master_of s g) (time_column g.at 0 cs) + waiting s cs gs

-- 28 of the time column that was added to nc columns, where there are n now; the words w have its channel
unfoldable pub time_tested : Bool → List ℕ → List ℕ → ℕ → ℕ → Verdict
time_tested photos s w nc n = if_eq n nc fine (photos_in photos s (get_or w (8 * nc) 0))

pub record TimeHeld (photos : Bool) (s : List ℕ) (b : Base) (p : Plan) (t : SrcGroup) (c nc nf : ℕ) (f : List ℕ) (r : Settled) (w' : List ℕ) : Type 0 where
  pub held : Held b (with_time photos s t c p) r.columns r.omissions nf w' f
  pub master : master_word (time_column t.at 0 (with_time photos s t c p).columns) ≡ r.master
  pub tested : new_time_in photos s t c p ≡ time_tested photos s w' nc r.columns

-- the time column of any group at g, for every plan that stands in the words
pub record TimePlan (c g d records nc no : ℕ) (w : List ℕ) (r : Settled) (w' : List ℕ) : Type 0 where
  pub few : r.columns ≤ nc + 1
  pub few_omitted : r.omissions ≤ no
  pub is : (photos : Bool) (s : List ℕ) (b : Base) (p : Plan) (nf : ℕ) (f : List ℕ) (t : SrcGroup) → Held b p nc no nf w f → t.at ≡ g → t.data_group.at ≡ d
      → t.records ≡ records → (time_column g 0 p.columns ≡ none → nc < 512) → TimeHeld photos s b p t c nc nf f r w'

pub record Settling (photos : Bool) (s : List ℕ) (all : List SrcGroup) (bys : List ℕ) (g : SrcGroup) (b : Base) (p : Plan) (nc nf : ℕ) (f : List ℕ) (r : Settled) (w' : List ℕ) : Type 0 where
  pub plan : Plan
  pub column : Option ℕ
  pub held : Held b plan r.columns r.omissions nf w' f
  pub master : master_word column ≡ r.master
  pub budget : r.columns + waiting s plan.columns all ≤ length p.columns + waiting s p.columns all
  pub rest : (rs : Rules) → rs.photos ≡ photos → plan_timed rs s g (time_of s all bys g) p
      ≡ and_then (time_tested photos s w' nc r.columns) (λ _. plan_channels rs s g (own_master (master_of s g)) column g.channels plan)

-- the time of a group, for every plan that stands in the words with room for it
pub record SettlePlan (s src bys : List ℕ) (n i g d records nc no : ℕ) (w : List ℕ) (r : Settled) (w' : List ℕ) : Type 0 where
  pub few : r.columns ≤ nc + 1
  pub few_omitted : r.omissions ≤ no + 1
  pub is : (photos : Bool) (b : Base) (p : Plan) (nf : ℕ) (f : List ℕ) → Held b p nc no nf w f → In (group_of d g (channels_in src n i) records) (groups_in src n)
      → nc + waiting s p.columns (groups_in src n) ≤ 512
      → Settling photos s (groups_in src n) bys (group_of d g (channels_in src n i) records) b p nc nf f r w'
