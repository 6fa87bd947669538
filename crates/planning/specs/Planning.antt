-- A plan that words hold, and what the code answers for it. Contracts speak of every plan that the words at entry hold.
use Prim.{Unit}
use Rattle.std.specs.Prelude.{ℕ, ◌+◌, ◌≤◌, ◌<◌, List, [], ◌∷◌, Bool, true, false, ◌≡◌, length, Result, Ok, Err}
use Rattle.std.proofs.Math.Option.{Option}
use Rattle.base.specs.Choice.{if_eq}
use Rattle.base.specs.Checked.{Checked, ok, refused, and_then}
use Rattle.chains.specs.Kept.{kept}
use Rattle.plan.specs.Rules.{Rules}
use Rattle.plan.specs.Photos.{photos_of}
use Rattle.plan.specs.Columns.{Plan, decide, with_decision, plan_channels}
use Rattle.work_words.specs.PlanWords.{master_word, signal_fragments, laid_plan}
use Rattle.planning.specs.declared.column.Progress.{Progress}
use Rattle.fields.specs.declared.refusal.Refusal.{Refusal}
use Rattle.fields.specs.Answer.{number_of, place_of}
use Rattle.planning.specs.Items.{group_of, channels_in}

abbrev pub signal_if : Bool → ℕ → ℕ
signal_if true n = n + 1
signal_if false n = 0

-- the code's answer, as definitions give theirs
abbrev pub checked_of : {A : Type 0} → Result A Refusal → Checked A
checked_of (Ok x) = ok x
checked_of (Err x) = refused (number_of x) (place_of x)

-- before planning: the fragments found in the walk, the words of columns and of fragments
pub record Base : Type 0 where
  pub found : ℕ
  pub words : List ℕ
  pub fragments : List ℕ

-- the plan p stands in the words
pub record Held (b : Base) (p : Plan) (nc no nf : ℕ) (w f : List ℕ) : Type 0 where
  pub columns : length p.columns ≡ nc
  pub omissions : length p.omissions ≡ no
  pub fragments : p.fragments ≡ nf
  pub signals : nf ≡ b.found + length (signal_fragments p.columns)
  pub room : nc ≤ 512
  pub in_columns : w ≡ laid_plan b.found p b.words
  pub in_fragments : f ≡ kept b.found (signal_fragments p.columns) b.fragments

pub record Went (b : Base) (q : Plan) (r : Result Progress Refusal) (w f : List ℕ) : Type 0 where
  pub progress : Progress
  pub is : r ≡ Ok progress
  pub held : Held b q progress.columns progress.omissions progress.fragments w f

unfoldable pub gives : Base → Checked Plan → Result Progress Refusal → List ℕ → List ℕ → Type 0
gives b (refused x p) r w f = checked_of r ≡ refused x p
gives b (ok q) r w f = Went b q r w f

-- the code's answer and the words it leaves are those of a plan, or its refusal
pub record Gives (b : Base) (o : Checked Plan) (r : Result Progress Refusal) (w f : List ℕ) : Type 0 where
  pub by : gives b o r w f

-- the numbers of an answer are bounded
abbrev pub within : Result Progress Refusal → ℕ → ℕ → Type 0
within (Err x) a b = Unit {0}
within (Ok p) a b = (p.columns ≤ a) × (p.omissions ≤ b) × (p.fragments ≤ 1024)

-- how many of the channels are not own
unfoldable pub others : ℕ → List ℕ → ℕ
others own [] = 0
others own (c ∷ cs) = if_eq c own 0 1 + others own cs

-- a channel, for every plan that stands in the words with room for a column
pub record ChannelPlan (rs : Rules) (s : List ℕ) (g d records master c nc no nf : ℕ) (w f : List ℕ) (r : Result Progress Refusal) (w' f' : List ℕ) : Type 0 where
  pub bound : within r (nc + 1) (no + 1)
  pub is : (b : Base) (p : Plan) (m : Option ℕ) (cs : List ℕ) → Held b p nc no nf w f → master_word m ≡ master → nc < 512
      → Gives b (and_then (decide rs.photos rs.table s nf g c) (λ e. ok (with_decision (group_of d g cs records) m c (photos_of rs.photos s c) p e))) r w' f'

-- the channels from item i on, for every plan that stands in the words with room for their columns
pub record ChannelsPlan (rs : Rules) (s src : List ℕ) (n i g d records own master nc no nf : ℕ) (w f : List ℕ) (r : Result Progress Refusal) (w' f' : List ℕ) : Type 0 where
  pub bound : within r (nc + 1536) (no + 1536)
  pub is : (b : Base) (p : Plan) (m : Option ℕ) (cs : List ℕ) → Held b p nc no nf w f → master_word m ≡ master
      → nc + others own (channels_in src n i) ≤ 512
      → Gives b (plan_channels rs s (group_of d g cs records) own m (channels_in src n i) p) r w' f'
