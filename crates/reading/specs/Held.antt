-- What the words and counts of the code say of the blocks and fragments that the walk's definition has met.
use Rattle.std.specs.Prelude.{ℕ, ◌+◌, ◌≤◌, List, ◌≡◌, length}
use Rattle.base.specs.Blit.{blit}
use Rattle.base.specs.Checked.{Checked, ok, refused}
use Rattle.mdf.specs.Walk.{Source, level_dg, level_cg, level_cn, tally, most_items}
use Rattle.work_words.specs.Words.{fragment_words, laid_items, source_words}

-- what the code has: the words of blocks and of fragments, and how many blocks there are, DG, CG, CN, fragments
pub record State : Type 0 where
  pub words : List ℕ
  pub frags : List ℕ
  pub n : ℕ
  pub ndg : ℕ
  pub ncg : ℕ
  pub ncn : ℕ
  pub nf : ℕ

abbrev pub state : List ℕ → List ℕ → ℕ → ℕ → ℕ → ℕ → ℕ → State
state w f n ndg ncg ncn nf = record { words = w; frags = f; n = n; ndg = ndg; ncg = ncg; ncn = ncn; nf = nf }

-- x holds st, over what the words were before, e and f
pub record Held (e f : List ℕ) (st : Source) (x : State) : Type 0 where
  pub laid : x.words ≡ laid_items st.items e
  pub kept : x.frags ≡ blit 0 (fragment_words st.fragments) f
  pub blocks : x.n ≡ length st.items
  pub dgs : x.ndg ≡ tally level_dg.own st.items
  pub cgs : x.ncg ≡ tally level_cg.own st.items
  pub cns : x.ncn ≡ tally level_cn.own st.items
  pub pieces : x.nf ≡ length st.fragments

-- no fewer than the most fragments of any limits
abbrev pub most_pieces : ℕ
most_pieces = 4611686018427387904

-- within the limits
pub record Within (x : State) : Type 0 where
  pub long : source_words ≤ length x.words
  pub sum : x.n ≡ x.ndg + x.ncg + x.ncn
  pub dg-room : x.ndg ≤ most_items
  pub cg-room : x.ncg ≤ most_items
  pub cn-room : x.ncn ≤ most_items
  pub nf_room : x.nf ≤ most_pieces

-- a part of the walk leads from what x₀ holds to what x holds
pub record Became (F : Source → Checked Source) (e f : List ℕ) (st₀ : Source) (x : State) : Type 0 where
  pub st : Source
  pub held : Held e f st x
  pub is : F st₀ ≡ ok st

pub record Gives (F : Source → Checked Source) (x₀ x : State) : Type 0 where
  pub to : (e f : List ℕ) (st₀ : Source) → Held e f st₀ x₀ → Became F e f st₀ x

-- a part of the walk that begins at what x₀ holds is refused
pub record Stops (F : Source → Checked Source) (x₀ : State) (number place : ℕ) : Type 0 where
  pub at : (e f : List ℕ) (st₀ : Source) → Held e f st₀ x₀ → F st₀ ≡ refused number place
