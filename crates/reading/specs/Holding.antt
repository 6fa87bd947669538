-- Words that hold a source.
use Rattle.std.specs.Prelude.{ℕ, ◌≤◌, List, ◌≡◌, length}
use Rattle.base.specs.Blit.{part}
use Rattle.mdf.specs.Walk.{Source}
use Rattle.work_words.specs.Words.{marks_at, groups_at, source_words, address_words, mark_words, group_words, fragment_words}
use Rattle.reading.specs.Sound.{Sound}

-- bs stands at a in l
pub record Stands (l : List ℕ) (a : ℕ) (bs : List ℕ) : Type 0 where
  pub is : part a (length bs) l ≡ bs

-- w and f hold a source of n blocks and nf fragments
pub record Holding (w f : List ℕ) (n nf : ℕ) : Type 0 where
  pub st : Source
  pub sound : Sound st
  pub long : source_words ≤ length w
  pub room : 3072 ≤ length f
  pub blocks : n ≡ length st.items
  pub pieces : nf ≡ length st.fragments
  pub addresses : Stands w 0 (address_words st.items)
  pub marks : Stands w marks_at (mark_words st.items)
  pub groups : Stands w groups_at (group_words st.items)
  pub fragments : Stands f 0 (fragment_words st.fragments)
