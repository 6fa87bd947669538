-- The entries of a table say what the groups of a recording are.
use Rattle.std.specs.Prelude.{ℕ, ◌+◌, List, [], ◌∷◌, ◌≡◌, length}
use Rattle.std.proofs.Math.Option.{some}
use Rattle.base.specs.Choice.{pick, if_eq}
use Rattle.base.specs.Blit.{part}
use Rattle.base.specs.Checked.{and_then, Verdict, fine}
use Rattle.mdf.specs.Group.{addresses}
use Rattle.work_words.specs.Words.{fragments_of, groups_at}
use Rattle.plan.specs.Columns.{SrcGroup, master_of, own_master}
use Rattle.result.specs.Member.{In}
use Rattle.result.specs.Sharing.{stream_in, any_compared}
use Rattle.planning.specs.declared.table.Entry.{Entry}

-- what the entry with number j says; w are the words of what was read, f those of fragments
pub record Tells (s w f : List ℕ) (j : ℕ) (e : Entry) (g : SrcGroup) : Type 0 where
  pub at : e.at ≡ g.at
  pub master : e.master ≡ own_master (master_of s g)
  pub nonzero : (m : ℕ) → master_of s g ≡ some m → m ≡ 0 → ⊥
  pub records : e.records ≡ g.records
  pub dg : e.dg ≡ g.data_group.at
  pub count : e.count ≡ length g.data_group.groups
  pub number : e.groups + g.number ≡ groups_at + j
  pub groups : part e.groups e.count w ≡ addresses g.data_group.groups
  pub fragments : fragments_of (part e.fragments e.words f) ≡ g.data_group.fragments

-- entries from number j on
pub data Tabled (s w f : List ℕ) : ℕ → List Entry → List SrcGroup → Type 0 where
  no_entries : {j : ℕ} → Tabled s w f j [] []
  an_entry : {j : ℕ} {e : Entry} {es : List Entry} {g : SrcGroup} {gs : List SrcGroup} → Tells s w f j e g → Tabled s w f (j + 1) es gs
      → Tabled s w f j (e ∷ es) (g ∷ gs)

-- no master is at address 0
abbrev pub Nonzero : List ℕ → List SrcGroup → Type 0
Nonzero s gs = (g : SrcGroup) → In g gs → (m : ℕ) → master_of s g ≡ some m → m ≡ 0 → ⊥

-- the data of compared groups, group by group: of those that are alone in their DG
unfoldable pub alone_in : List ℕ → List SrcGroup → SrcGroup → Verdict
alone_in s all g =
    let read = stream_in s g.data_group.at g.at g.data_group.fragments in
    if_eq (length g.data_group.groups) 1 (pick (any_compared s all g.data_group.at all) read fine) fine

unfoldable pub all_alone_in : List ℕ → List SrcGroup → List SrcGroup → Verdict
all_alone_in s all [] = fine
all_alone_in s all (g ∷ gs) = and_then (alone_in s all g) (λ _. all_alone_in s all gs)
