-- The history chain in words: whether it goes on, and what the code answers.
use Prim.{Unit}
use Rattle.std.specs.Prelude.{ℕ, ◌*◌, ◌≤◌, List, [], ◌≡◌, Bool, true, false, Result, Ok, Err}
use Rattle.std.proofs.Math.Option.{some}
use Rattle.base.specs.Choice.{pick, if_eq}
use Rattle.base.specs.Checked.{Checked, ok, refused, and_then}
use Rattle.base.specs.Blit.{part, blit}
use Rattle.mdf.specs.Block.{kind_at, links_at, link_at, whole_at}
use Rattle.mdf.specs.Chain.{is_in}
use Rattle.plan.specs.Copies.{Copies, copies, is_copied, copy_of, copy_root, History, history, history_of}
use Rattle.work_words.specs.CopyWords.{history_at}
use Rattle.copier.specs.declared.memo.Copying.{Copying}
use Rattle.copier.specs.declared.memo.Chain.{Chain}
use Rattle.fields.specs.declared.refusal.Refusal.{Refusal}
use Rattle.fields.specs.Answer.{number_of, place_of}
use Rattle.copier.specs.Standing.{copies_in, standing, Past}
use Rattle.copier.specs.Got.{After}

-- whether the chain goes on at a, after its blocks so far; a refusal; in the order of `historyFrom`
unfoldable pub goes_on : List ℕ → ℕ → List ℕ → Checked Bool
goes_on s a chain =
    let linked = if_eq (links_at s a) 0 (refused 17 a) (ok true) in
    let unseen = and_then (whole_at s a) (λ _. pick (is_copied (kind_at s a)) linked (ok false)) in
    if_eq a 0 (ok false) (pick (is_in a chain) (ok false) unseen)

abbrev pub on_goes : Checked Bool → History → Checked History → Checked History
on_goes (ok true) h more = more
on_goes (ok false) h more = ok h
on_goes (refused number place) h more = refused number place

-- the first blocks of the chain in the words
abbrev pub chain_in : List ℕ → ℕ → List ℕ
chain_in w k = part history_at k w

abbrev pub chain_of : Result Chain Refusal → List ℕ → Checked History
chain_of (Ok k) w = ok (history (chain_in w k.count) (standing w k.state))
chain_of (Err x) w = refused (number_of x) (place_of x)

-- each of them is copied
pub record ChainCopied (w : List ℕ) (count used : ℕ) : Type 0 where
  pub each : (a : ℕ) → is_in a (chain_in w count) ≡ true → (t : ℕ) × (copy_of a (copies_in w used) ≡ some t)

-- past the copies the words w' at exit are those at entry with the chain laid over them
pub record ChainLaid (count : ℕ) (w w' : List ℕ) (s t : Copying) : Type 0 where
  pub few : count ≤ 2051
  pub after : After 0 s t
  pub past : Past (2 * t.used) (blit history_at (chain_in w' count) w) w'

abbrev pub Laid : Result Chain Refusal → List ℕ → List ℕ → Copying → Type 0
Laid (Ok k) w w' s = ChainLaid k.count w w' s k.state
Laid (Err x) w w' s = Unit {0}

-- with words w at entry and w' at exit the answer r is what is defined; after a refusal the words are not said
pub record Chained (w w' : List ℕ) (s : Copying) (r : Result Chain Refusal) (v : Checked History) : Type 0 where
  pub is : chain_of r w' ≡ v
  pub laid : Laid r w w' s

-- ---- the HD comment, then the chain

-- nothing is copied, and what is placed ends at 168
abbrev pub start : Copying
start = record { used = 0; next = 168 }

pub record FirstCopies (most count : ℕ) (s m m' : List ℕ) (t : Copying) : Type 0 where
  pub comment : Copies
  pub is_comment : copy_root most s (link_at s 64 5) (copies [] 168) ≡ ok comment
  pub is_past_lem : history_of most s (link_at s 64 1) comment ≡ ok (history (chain_in m' count) (standing m' t))
  pub few : count ≤ 2051
  pub after : After 0 start t
  pub past : Past (2 * t.used) (blit history_at (chain_in m' count) m) m'

abbrev pub Begins : ℕ → List ℕ → List ℕ → List ℕ → Result Chain Refusal → Type 0
Begins most s m m' (Ok k) = FirstCopies most k.count s m m' k.state
Begins most s m m' (Err x) =
    and_then (copy_root most s (link_at s 64 5) (copies [] 168)) (λ x. history_of most s (link_at s 64 1) x)
    ≡ refused (number_of x) (place_of x)
