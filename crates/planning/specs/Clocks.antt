-- One clock for many groups, out of the table of groups (document 02, request 8): which group's master stands for which.
use Rattle.std.specs.Prelude.{ℕ, ◌+◌, ◌-◌, ◌≤◌, ◌<◌, List, [], ◌∷◌, ◌++◌, Bool, true, false, ◌≡◌, length, get_or, take, drop, Result, ⊤}
use Rattle.std.proofs.Math.Option.{some}
use Rattle.base.specs.Choice.{if_eq}
use Rattle.base.specs.Blit.{blit}
use Rattle.base.specs.Checked.{and_then, fine}
use Rattle.fields.specs.declared.refusal.Refusal.{Refusal}
use Rattle.fields.specs.Answer.{verdict_of}
use Rattle.mdf.specs.Group.{data_groups}
use Rattle.work_words.specs.Words.{groups_at}
use Rattle.plan.specs.Columns.{SrcGroup, src_groups, master_of, on_master}
use Rattle.result.specs.Sharing.{same, time_key, units_in, compared_in, is_equal, first_equal, stands_for, shared_times}
use Rattle.reading.specs.Reading.{Recording}
use Rattle.comparing.specs.declared.times.Clock.{Clock}
use Rattle.planning.specs.declared.table.Entry.{Entry}
use Rattle.planning.specs.Table.{entry_at, entries_at}
use Rattle.planning.specs.Tabled.{Tells, Tabled}
use Rattle.planning.specs.Clear.{Clear, AllClear}
use Rattle.planning.specs.Answer.{ReadIn}

-- g is group number j of the groups gs
pub record At (gs : List SrcGroup) (j : ℕ) (g : SrcGroup) : Type 0 where
  pub low : j < length gs
  pub whole : gs ≡ take j gs ++ (g ∷ drop (j + 1) gs)
  pub front : take (j + 1) gs ≡ take j gs ++ (g ∷ [])

-- the table t tells the n groups gs, and those that are compared can be
pub record Shown (s w f t : List ℕ) (n : ℕ) (gs : List SrcGroup) : Type 0 where
  pub tabled : Tabled s w f 0 (entries_at t 0 n) gs
  pub clear : AllClear s gs

-- the clock of the group with entry e, which has number j
unfoldable pub clock_of : ℕ → Entry → Clock
clock_of j e = record { dg = e.dg; number = groups_at + j - e.groups; at = e.at; master = e.master; records = e.records }

-- where the master of h has the key of g's master m, both can be compared
abbrev pub Comparing : List ℕ → SrcGroup → ℕ → SrcGroup → Type 0
Comparing s g m h = (k : ℕ) → master_of s h ≡ some k → same (time_key s g m) (time_key s h k) ≡ true → Clear s g m × Clear s h k

-- ---- the promises of functions

-- the master of the group with entry x and number i equals that of the group with entry e and number j
pub record SameTimes (s w f : List ℕ) (e : Entry) (j : ℕ) (x : Entry) (i : ℕ) (r : Bool) : Type 0 where
  pub is : (g h : SrcGroup) (m : ℕ) → Tells s w f j e g → Tells s w f i x h → master_of s g ≡ some m → Comparing s g m h
      → r ≡ on_master (master_of s h) false (λ k. is_equal s g m h k)

-- it does, and no other stands for it by the words l
pub record StandsSame (s w f : List ℕ) (e : Entry) (j : ℕ) (x : Entry) (i : ℕ) (l : List ℕ) (r : Bool) : Type 0 where
  pub is : (g h : SrcGroup) (m : ℕ) → Tells s w f j e g → Tells s w f i x h → master_of s g ≡ some m → Comparing s g m h
      → r ≡ if_eq (get_or l i 0) 0 (on_master (master_of s h) false (λ k. is_equal s g m h k)) false

-- the words l have, for each of the first j groups, the CG of the group that stands for it
abbrev pub Standing : List ℕ → List SrcGroup → List ℕ → ℕ → Type 0
Standing s gs l j = (i : ℕ) (h : SrcGroup) → i < j → At gs i h → get_or l i 0 ≡ stands_for s (take i gs) h

pub record FirstSame (s w f t l : List ℕ) (j : ℕ) (e : Entry) (r : ℕ) : Type 0 where
  pub is : (n : ℕ) (gs : List SrcGroup) (g : SrcGroup) (m : ℕ) → Shown s w f t n gs → j < n → At gs j g → Tells s w f j e g → master_of s g ≡ some m
      → Standing s gs l j → r ≡ first_equal s g m (take j gs)

pub record StandsIn (s w f t l : List ℕ) (j r : ℕ) : Type 0 where
  pub is : (n : ℕ) (gs : List SrcGroup) (g : SrcGroup) → Shown s w f t n gs → j < n → At gs j g → Tells s w f j (entry_at t j) g
      → Standing s gs l j → r ≡ stands_for s (take j gs) g

pub record AllStand (s w f t : List ℕ) (n : ℕ) (l l' : List ℕ) : Type 0 where
  pub is : (gs : List SrcGroup) → Shown s w f t n gs → l' ≡ blit 0 (shared_times s gs) l

-- what planning starts with, of a recording x: its refusals; and where there is none, in the words l' for each group the CG of the one that stands for it
pub record Shares (s : List ℕ) (x : Recording) (r : Result ⊤ Refusal) (l l' : List ℕ) : Type 0 where
  pub verdict : verdict_of r
      ≡ and_then (units_in s (src_groups (data_groups x.source) x.counts)) (λ _. compared_in s (src_groups (data_groups x.source) x.counts) (data_groups x.source))
  pub stands : verdict_of r ≡ fine → length s ≤ 4294967296 → l' ≡ blit 0 (shared_times s (src_groups (data_groups x.source) x.counts)) l

-- whichever recording the words hold
pub record ShareTimes (s w f : List ℕ) (n nf : ℕ) (r : Result ⊤ Refusal) (l l' : List ℕ) : Type 0 where
  pub is : (x : Recording) (w₀ f₀ : List ℕ) → ReadIn s w f n nf x w₀ f₀ → Shares s x r l l'
