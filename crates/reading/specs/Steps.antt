-- One block of the walk, over the words in which the walk keeps what it met.
use Prim.{Unit}
use Rattle.std.specs.Prelude.{ℕ, ◌+◌, ◌*◌, List, length, take, set}
use Rattle.base.specs.Choice.{pick, if_lt}
use Rattle.base.specs.Blit.{blit}
use Rattle.base.specs.Checked.{Checked, ok, refused, and_then}
use Rattle.std.specs.Prelude.{Result, Ok, Err, ⊤}
use Rattle.fields.specs.declared.refusal.Refusal.{Refusal}
use Rattle.fields.specs.Answer.{number_of, place_of}
use Rattle.mdf.specs.Block.{Wanted, CG, CN, link_at, block_at}
use Rattle.mdf.specs.Name.{name_at}
use Rattle.mdf.specs.Chain.{is_in, Chain.records, Found, found, stopped, Limits, chain}
use Rattle.mdf.specs.Walk.{most_items, id_size_in}
use Rattle.index.specs.Index.{Indexed}
use Rattle.work_words.specs.Words.{marks_at, groups_at, fragment_words}

-- the code's refusal
abbrev pub refused_as : {A : Type 0} → Refusal → Checked A
refused_as e = refused (number_of e) (place_of e)

-- the words that a check leaves
abbrev pub after : Result ⊤ Refusal → List ℕ → Checked (List ℕ)
after (Ok x) w = ok w
after (Err e) w = refused_as e

-- the index that a check leaves: it has one word more
abbrev pub indexed_after : Result ⊤ Refusal → List ℕ → ℕ → List ℕ → Type 0
indexed_after (Ok y) w n x = Indexed 1 w (n + 1) x
indexed_after (Err e) w n x = Unit {0}

-- a block at a, with n blocks met before and m of its kind: "11 before it is read", its checks, the limit (19); then its address and mark stand in the words
unfoldable pub visited : Wanted → List ℕ → List ℕ → ℕ → ℕ → ℕ → ℕ → Checked (List ℕ)
visited k s w n m mark a =
    pick (is_in a (take n w)) (refused 11 a)
    (and_then (block_at k s a) (λ _. if_lt m most_items (ok (set (set w n a) (marks_at + n) mark)) (refused 19 a)))

-- "each CG, its name"; its address stands among the groups
unfoldable pub met_cg : List ℕ → List ℕ → ℕ → ℕ → ℕ → Checked (List ℕ)
met_cg s w n m a = and_then (visited CG s w n m 1 a) (λ w'. and_then (name_at s (link_at s a 2)) (λ _. ok (set w' (groups_at + m) a)))

-- a CN and its name
unfoldable pub met_cn : List ℕ → List ℕ → ℕ → ℕ → ℕ → Checked (List ℕ)
met_cn s w n m a = and_then (visited CN s w n m 0 a) (λ w'. and_then (name_at s (link_at s a 2)) (λ _. ok w'))

-- the words of the fragments, and how many they are
pub record Pieces : Type 0 where
  pub count : ℕ
  pub words : List ℕ

abbrev pub pieces : ℕ → List ℕ → Pieces
pieces n w = record { count = n; words = w }

-- the words and number of fragments that a DG's data leaves
abbrev pub after_data : Result ℕ Refusal → List ℕ → Checked Pieces
after_data (Ok count) w = ok (pieces count w)
after_data (Err e) w = refused_as e

abbrev pub laid_found : Found → ℕ → List ℕ → Checked Pieces
laid_found (found fs) n w = ok (pieces (n + length fs) (blit (3 * n) (fragment_words fs) w))
laid_found (stopped number place fs) n w = refused number place

-- a DG's "data chain, id size", with n fragments found before it
unfoldable pub data_in : Limits → List ℕ → List ℕ → ℕ → ℕ → Checked Pieces
data_in l s w n a = and_then (laid_found (chain records l s n (link_at s a 2)) n w) (λ k. and_then (id_size_in s a) (λ _. ok k))
