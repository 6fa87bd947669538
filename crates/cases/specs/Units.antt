-- Document 02, request 5, at the scope document's recording: where its columns start for four units, and 26 from both sides.
use Rattle.std.specs.Prelude.{ℕ, List, [], ◌∷◌, ◌≡◌, refl}
use Rattle.base.specs.Checked.{Checked, ok, refused, fine}
use Rattle.plan.specs.Rules.{unit_in}
use Rattle.result.specs.Result.{Args, Decided, decided}
use Rattle.cases.specs.Evaluated.{evaluated}
use Rattle.cases.specs.Starred.{args, places_of}

-- the recording's conversion with a unit and a block size
abbrev chosen : ℕ → ℕ → Args
chosen u size = record { image = args.image; block_size = size; ident = args.ident; text = args.text; time = args.time; unit = u; table = args.table; share = args.share; photos = args.photos }

-- the metadata's end, the file's size and the columns' starts, or number and place
abbrev starts : Checked Decided → List ℕ
starts (ok d) = d.laid_out.metadata_end_lem ∷ d.laid_out.file_size_lem ∷ places_of d.laid_out.placed
starts (refused number place) = number ∷ place ∷ []

-- "each column's first data block .. starts on the next multiple of it"; the metadata's end stays
abbrev pub Places : Type 0
Places =
    (starts (decided (chosen 8 64)) ≡ 1048 ∷ 1288 ∷ 1048 ∷ 1176 ∷ [])
    × (starts (decided (chosen 16 64)) ≡ 1048 ∷ 1296 ∷ 1056 ∷ 1184 ∷ [])
    × (starts (decided (chosen 64 64)) ≡ 1048 ∷ 1328 ∷ 1088 ∷ 1216 ∷ [])
    × (starts (decided (chosen 4096 64)) ≡ 1048 ∷ 8304 ∷ 4096 ∷ 8192 ∷ [])

-- "26 when the unit is not a power of two from 8 to 4096; it follows 2"
abbrev pub Refusals : Type 0
Refusals =
    (unit_in 8 ≡ fine)
    × (unit_in 4096 ≡ fine)
    × (unit_in 0 ≡ refused 26 0)
    × (unit_in 4 ≡ refused 26 0)
    × (unit_in 12 ≡ refused 26 0)
    × (unit_in 24 ≡ refused 26 0)
    × (unit_in 4095 ≡ refused 26 0)
    × (unit_in 8192 ≡ refused 26 0)
    × (unit_in 18446744073709551615 ≡ refused 26 0)
    × (starts (decided (chosen 12 64)) ≡ 26 ∷ 0 ∷ [])
    × (starts (decided (chosen 12 0)) ≡ 2 ∷ 0 ∷ [])

pub units : Places × Refusals
unfolding evaluated
units = ((refl, refl, refl, refl), (refl, refl, refl, refl, refl, refl, refl, refl, refl, refl, refl))
