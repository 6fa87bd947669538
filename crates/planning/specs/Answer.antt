-- A recording read and planned: what is decided before its layout, and what is left of it in the three lent slices.
use Rattle.std.specs.Prelude.{ℕ, ◌-◌, ◌≤◌, List, ◌++◌, Bool, ◌≡◌, length, replicate, Result, Ok, Err, ⊤}
use Rattle.base.specs.Choice.{if_lt}
use Rattle.base.specs.Blit.{blit}
use Rattle.base.specs.Checked.{Checked, ok, refused, fine, and_then}
use Rattle.fields.specs.declared.refusal.Refusal.{Refusal}
use Rattle.fields.specs.Answer.{number_of, place_of, verdict_of}
use Rattle.mdf.specs.Identification.{identified}
use Rattle.mdf.specs.Walk.{Source, walk}
use Rattle.mdf.specs.Group.{data_groups}
use Rattle.mdf.specs.Count.{counts}
use Rattle.work_words.specs.Words.{counts_at, laid_items, fragment_words}
use Rattle.plan.specs.Rules.{Rules}
use Rattle.plan.specs.Photos.{photos_first}
use Rattle.plan.specs.Columns.{SrcGroup, stand_in, Column, Plan, src_groups, plan}
use Rattle.work_words.specs.PlanWords.{signal_fragments, laid_plan}
use Rattle.plan.specs.Data.{all_data_in, blocks_in}
use Rattle.result.specs.Sharing.{sharing}
use Rattle.result.specs.Result.{shared_groups}
use Rattle.reading.specs.Reading.{Recording, reading, zeros}
use Rattle.planning.specs.declared.recording.Planned.{Planned}
use Rattle.planning.specs.Items.{items_from}
use Rattle.planning.specs.Planning.{checked_of}
use Rattle.planning.specs.Stage.{Stand}
use Rattle.planning.specs.DataWords.{all_data_over}

-- what was met, the number of records of each group, the CG of the group that stands for it, 0 for none, and the plan
pub record Arranged : Type 0 where
  pub source : Source
  pub numbers : List ℕ
  pub stands : List ℕ
  pub planned : Plan

-- "identification (4, 5, 6, 7); HD; DG by DG ..; counts DG by DG ..; planning; DG by DG data ..; block counts (19)", for data blocks of so many bytes
unfoldable pub planned_of : Rules → List ℕ → ℕ → Checked Arranged
planned_of rs s size =
    and_then (identified s) (λ _.
    and_then (walk s) (λ st.
    and_then (counts s (data_groups st)) (λ ns.
    and_then (photos_first rs.photos s) (λ _.
    and_then (sharing rs.share s (data_groups st) (src_groups (data_groups st) ns)) (λ bys.
    and_then (plan rs s (length st.fragments) (src_groups (data_groups st) ns) bys) (λ p.
    and_then (all_data_in s p.columns (data_groups st)) (λ _.
    and_then (blocks_in s size p.columns) (λ _.
    ok (record { source = st; numbers = ns; stands = bys; planned = p })))))))))

-- the answer, and the words of the source, of fragments and of columns at the end
pub data PlanLeft : Type 0 where
  ended : Checked Planned → List ℕ → List ℕ → List ℕ → PlanLeft

abbrev pub plan_left : Result Planned Refusal → List ℕ → List ℕ → List ℕ → PlanLeft
plan_left r w f c = ended (checked_of r) w f c

-- "Work slices are zero after every return except refusal 1"; where planning succeeds they hold the recording and its plan
abbrev pub left_by : Checked Arranged → List ℕ → List ℕ → List ℕ → PlanLeft
left_by (refused number place) w f c = ended (refused number place) (zeros w) (zeros f) (zeros c)
left_by (ok a) w f c =
    ended (ok (record {
      items = length a.source.items;
      fragments = length a.source.fragments;
      columns = length a.planned.columns;
      omissions = length a.planned.omissions;
      shared = shared_groups a.stands;
    }))
    (blit counts_at a.numbers (laid_items a.source.items w))
    (blit 0 (fragment_words (a.source.fragments ++ signal_fragments a.planned.columns)) f)
    (laid_plan (length a.source.fragments) a.planned c)

abbrev pub column_room : ℕ
column_room = 6144

-- "1, 0: a work slice too short": it "changes nothing"
unfoldable pub plan_into : Rules → List ℕ → ℕ → List ℕ → List ℕ → List ℕ → PlanLeft
plan_into rs s size w f c =
    if_lt (length w) 4096 (ended (refused 1 0) w f c)
    (if_lt (length f) 3072 (ended (refused 1 0) w f c)
    (if_lt (length c) column_room (ended (refused 1 0) w f c)
    (left_by (planned_of rs s size) w f c)))

-- ---- the same before any clearing: a refusal, or the numbers and words
pub record Kept : Type 0 where
  pub items : ℕ
  pub fragments : ℕ
  pub columns : ℕ
  pub omissions : ℕ
  pub shared : ℕ
  pub words : List ℕ
  pub pieces : List ℕ
  pub plans : List ℕ

abbrev pub given : Result Planned Refusal → List ℕ → List ℕ → List ℕ → Checked Kept
given (Err x) w f c = refused (number_of x) (place_of x)
given (Ok p) w f c = ok (record { items = p.items; fragments = p.fragments; columns = p.columns; omissions = p.omissions; shared = p.shared; words = w; pieces = f; plans = c })

abbrev pub kept_by : Arranged → List ℕ → List ℕ → List ℕ → Kept
kept_by a w f c = record {
  items = length a.source.items;
  fragments = length a.source.fragments;
  columns = length a.planned.columns;
  omissions = length a.planned.omissions;
  shared = shared_groups a.stands;
  words = blit counts_at a.numbers (laid_items a.source.items w);
  pieces = blit 0 (fragment_words (a.source.fragments ++ signal_fragments a.planned.columns)) f;
  plans = laid_plan (length a.source.fragments) a.planned c;
}

unfoldable pub plan_over : Rules → List ℕ → ℕ → List ℕ → List ℕ → List ℕ → Checked Kept
plan_over rs s size w f c = and_then (planned_of rs s size) (λ a. ok (kept_by a w f c))

-- which masters of a recording stand for others
unfoldable pub shared_in : Bool → List ℕ → Recording → Checked (List ℕ)
shared_in on s r = sharing on s (data_groups r.source) (src_groups (data_groups r.source) r.counts)

-- then its plan and its data stage
unfoldable pub arranged_by : Rules → List ℕ → ℕ → Recording → List ℕ → Checked Arranged
arranged_by rs s size r bys =
    and_then (plan rs s (length r.source.fragments) (src_groups (data_groups r.source) r.counts) bys) (λ p.
    and_then (all_data_in s p.columns (data_groups r.source)) (λ _.
    and_then (blocks_in s size p.columns) (λ _.
    ok (record { source = r.source; numbers = r.counts; stands = bys; planned = p }))))

unfoldable pub arranged_shared : Rules → List ℕ → ℕ → Recording → Checked Arranged
arranged_shared rs s size r = and_then (shared_in rs.share s r) (arranged_by rs s size r)

-- before these, the attachments where references to them are kept
unfoldable pub arranged : Rules → List ℕ → ℕ → Recording → Checked Arranged
arranged rs s size r = and_then (photos_first rs.photos s) (λ _. arranged_shared rs s size r)

-- the data stage and the block counts, for all columns that stand in the words
pub record StageOver (s : List ℕ) (size : ℕ) (src f w : List ℕ) (n nf nc : ℕ) (r : Result ⊤ Refusal) : Type 0 where
  pub is : (m : ℕ) (cs : List Column) → Stand w m 0 cs → length cs ≡ nc
      → verdict_of r ≡ and_then (all_data_over s w f nf nc (items_from src 0 n)) (λ _. blocks_in s size cs)

-- a recording that the words hold
pub record ReadIn (s src f : List ℕ) (n nf : ℕ) (r : Recording) (w₀ f₀ : List ℕ) : Type 0 where
  pub is : reading s ≡ ok r
  pub long : 4096 ≤ length w₀
  pub items : n ≡ length r.source.items
  pub fragments : nf ≡ length r.source.fragments
  pub words : src ≡ blit counts_at r.counts (laid_items r.source.items w₀)
  pub pieces : f ≡ blit 0 (fragment_words r.source.fragments) f₀

-- the words of stands: one for each group, then zeros
abbrev pub stand_words : List ℕ → List ℕ
stand_words bys = bys ++ replicate (512 - length bys) 0

abbrev pub stands_as : Checked (List ℕ) → Result ⊤ Refusal → List ℕ → Type 0
stands_as (refused x p) r w = verdict_of r ≡ refused x p
stands_as (ok bys) r w = (verdict_of r ≡ fine) × (w ≡ stand_words bys)

-- which masters stand for others, whichever recording the words hold; cells are compared in images of at most 4 GiB
pub record StandsRead (on : Bool) (s src f : List ℕ) (n nf : ℕ) (r : Result ⊤ Refusal) (w : List ℕ) : Type 0 where
  pub is : (x : Recording) (w₀ f₀ : List ℕ) → ReadIn s src f n nf x w₀ f₀ → length s ≤ 4294967296 → stands_as (shared_in on s x) r w

-- other words that say the same of every group
pub record StandAlike (w v : List ℕ) : Type 0 where
  pub is : (a : ℕ) (gs : List SrcGroup) → stand_in a gs v ≡ stand_in a gs w

-- its plan and data stage by those words
pub record PlanStood (rs : Rules) (s : List ℕ) (size : ℕ) (src stands f c : List ℕ) (n nf : ℕ) (r : Result Planned Refusal) (f' c' : List ℕ) : Type 0 where
  pub is : (x : Recording) (w₀ f₀ : List ℕ) → ReadIn s src f n nf x w₀ f₀ → (bys : List ℕ) → shared_in rs.share s x ≡ ok bys → stands ≡ stand_words bys
      → given r src f' c' ≡ and_then (arranged_by rs s size x bys) (λ a. ok (kept_by a w₀ f₀ c))

-- that, and which masters stand for others
pub record PlanShared (rs : Rules) (s : List ℕ) (size : ℕ) (src f c : List ℕ) (n nf : ℕ) (r : Result Planned Refusal) (f' c' : List ℕ) : Type 0 where
  pub is : (x : Recording) (w₀ f₀ : List ℕ) → ReadIn s src f n nf x w₀ f₀ → length s ≤ 4294967296
      → given r src f' c' ≡ and_then (arranged_shared rs s size x) (λ a. ok (kept_by a w₀ f₀ c))

-- the whole of planning, whichever recording the words hold
pub record PlanRead (rs : Rules) (s : List ℕ) (size : ℕ) (src f c : List ℕ) (n nf : ℕ) (r : Result Planned Refusal) (f' c' : List ℕ) : Type 0 where
  pub is : (x : Recording) (w₀ f₀ : List ℕ) → ReadIn s src f n nf x w₀ f₀ → length s ≤ 4294967296
      → given r src f' c' ≡ and_then (arranged rs s size x) (λ a. ok (kept_by a w₀ f₀ c))
