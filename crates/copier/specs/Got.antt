-- The copier's answers, with the words that it leaves.
use Prim.{Unit}
use Rattle.std.specs.Prelude.{ℕ, ◌+◌, ◌*◌, ◌≤◌, List, ◌≡◌, Bool, length, Result, Ok, Err}
use Rattle.base.specs.Checked.{Checked, ok, refused}
use Rattle.plan.specs.Copies.{Copies}
use Rattle.copier.specs.declared.memo.Copying.{Copying}
use Rattle.fields.specs.declared.refusal.Refusal.{Refusal}
use Rattle.fields.specs.Answer.{number_of, place_of}
use Rattle.copier.specs.Standing.{standing, Room, Past}
use Rattle.copier.specs.Index.{Indexed}

abbrev pub begun_of : Result Bool Refusal → Checked Bool
begun_of (Ok b) = ok b
begun_of (Err x) = refused (number_of x) (place_of x)

abbrev pub got_of : Result Copying Refusal → List ℕ → Checked Copies
got_of (Ok s) w = ok (standing w s)
got_of (Err x) w = refused (number_of x) (place_of x)

-- the words past the copies are as they were
abbrev pub PastCopies : Result Copying Refusal → List ℕ → List ℕ → Type 0
PastCopies (Ok s) w w' = Past (2 * s.used) w w'
PastCopies (Err x) w w' = Unit {0}

-- with words w at entry and w' at exit the answer r is what is defined; after a refusal the words are not said
pub record Copied (w w' : List ℕ) (r : Result Copying Refusal) (v : Checked Copies) : Type 0 where
  pub is : got_of r w' ≡ v
  pub past : PastCopies r w w'

-- the state after a block that was copied, with d blocks on the way down
pub record After (d : ℕ) (s t : Copying) : Type 0 where
  pub more : s.used ≤ t.used
  pub most : t.used + d ≤ 2050
  pub near : t.next + s.used * 536870912 ≤ s.next + t.used * 536870912
  pub room : Room t.used t.next

abbrev pub AfterGot : Result Copying Refusal → Copying → Type 0
AfterGot (Ok t) s = After 0 s t
AfterGot (Err x) s = Unit {0}

-- the index x has the copies in the words w
abbrev pub IndexedGot : Result Copying Refusal → List ℕ → List ℕ → Type 0
IndexedGot (Ok t) w x = Indexed w t.used x
IndexedGot (Err e) w x = Unit {0}

-- copying may begin or go on: 8,192 words, no more copies than there is room for, and the index x of those that stand
pub record MayCopy (w : List ℕ) (most : ℕ) (s : Copying) (x : List ℕ) : Type 0 where
  pub words : 8192 ≤ length w
  pub limit : most ≤ 2050
  pub room : Room s.used s.next
  pub indexed : Indexed w s.used x
