-- The attachment chain in words: whether it goes on, and what the code answers.
use Rattle.std.specs.Prelude.{ℕ, zero, suc, ◌+◌, ◌*◌, ◌≤◌, List, ◌≡◌, Bool, true, false, eqb, length, get_or, Result, Ok, Err}
use Rattle.base.specs.Choice.{pick}
use Rattle.base.specs.Checked.{Checked, ok, refused}
use Rattle.base.specs.Blit.{blit}
use Rattle.plan.specs.Copies.{Attached}
use Rattle.work_words.specs.CopyWords.{attachment_words, attachments_at}
use Rattle.copier.specs.declared.memo.Copying.{Copying}
use Rattle.copier.specs.declared.memo.Chain.{Chain}
use Rattle.fields.specs.declared.refusal.Refusal.{Refusal}
use Rattle.fields.specs.Answer.{number_of, place_of}
use Rattle.copier.specs.Standing.{standing, Past}

-- whether a is one of so many attachments from word p on
unfoldable pub attached_in : List ℕ → ℕ → ℕ → ℕ → Bool
attached_in w p zero a = false
attached_in w p (suc k) a = let more = attached_in w (p + 3) k a in pick (eqb (get_or w p 0) a) true more

abbrev pub on_attaches : Checked Bool → Attached → Checked Attached → Checked Attached
on_attaches (ok true) t more = more
on_attaches (ok false) t more = ok t
on_attaches (refused number place) t more = refused number place

-- the attachments, and what stands of them in the words: past the copies the words w' are those at entry with the attachments laid over them
pub record Moving (count : ℕ) (w w' : List ℕ) (s t : Copying) : Type 0 where
  pub told : Attached
  pub made : told.made ≡ standing w' t
  pub counted : length told.attachments ≡ count
  pub few : count ≤ 64
  pub more : s.used ≤ t.used
  pub most : t.used ≤ 2050
  pub near : t.next + s.used * 536870912 ≤ s.next + t.used * 536870912 + count * 281474976710656
  pub past : Past (2 * t.used) (blit attachments_at (attachment_words told.attachments) w) w'

pub record MovedAll (count : ℕ) (w w' : List ℕ) (s t : Copying) (v : Checked Attached) : Type 0 where
  pub moving : Moving count w w' s t
  pub is : v ≡ ok moving.told

-- with words w at entry and w' at exit the answer is what is defined; after a refusal the words are not said
abbrev pub Moves : List ℕ → List ℕ → Copying → Result Chain Refusal → Checked Attached → Type 0
Moves w w' s (Ok k) v = MovedAll k.count w w' s k.state v
Moves w w' s (Err x) v = v ≡ refused (number_of x) (place_of x)
