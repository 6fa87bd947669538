-- What is ahead of a cursor in joined fragments.
use Rattle.std.specs.Prelude.{ℕ, ◌+◌, ◌-◌, ◌<◌, List, [], ◌∷◌, ◌≡◌, get_or, drop}
use Rattle.base.specs.Choice.{if_le, if_eq}
use Rattle.mdf.specs.Chain.{Fragment}
use Rattle.work_words.specs.Words.{kind_of, fragments_of}
use Rattle.joined.specs.declared.cursor.Cursor.{Cursor}

-- the fragments whose words begin at an index or later
unfoldable pub later : List ℕ → ℕ → List Fragment
later ws i = fragments_of (drop i ws)

-- what is left of the fragment that the cursor is in; its kind is the word before the next fragment's
abbrev pub here : List ℕ → Cursor → Fragment
here ws c = record { offset = c.position; size = c.left; kind = kind_of (get_or ws (c.at - 1) 0) }

unfoldable pub ahead : List ℕ → Cursor → List Fragment
ahead ws c = here ws c ∷ later ws c.at

-- the cursor at the next fragment, and m bytes further on in its own
abbrev pub next_of : List ℕ → Cursor → Cursor
next_of ws c = record { at = c.at + 3; position = get_or ws c.at 0; left = get_or ws (c.at + 1) 0 }

abbrev pub moved : Cursor → ℕ → Cursor
moved c m = record { at = c.at; position = c.position + m; left = c.left - m }

-- ---- fragments past m of their bytes
abbrev pub shorter : ℕ → Fragment → Fragment
shorter m f = record { offset = f.offset + m; size = f.size - m; kind = f.kind }

unfoldable pub past : ℕ → List Fragment → List Fragment
past m [] = []
past m (f ∷ fs) = let more = past (m - f.size) fs in if_le m f.size (shorter m f ∷ fs) more

-- ---- the first fragment with bytes, and those after it
unfoldable pub settled : List Fragment → List Fragment
settled [] = []
settled (f ∷ fs) = let more = settled fs in if_eq f.size 0 more (f ∷ fs)

pub record Settled (ws : List ℕ) (c r : Cursor) : Type 0 where
  pub is : ahead ws r ≡ settled (ahead ws c)
  pub some : 0 < r.left
