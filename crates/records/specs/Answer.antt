-- The code's answers, as the definitions give them.
use Rattle.std.specs.Prelude.{ℕ, List, [], ◌∷◌, Option, Some, None, Result, Ok, Err}
use Rattle.base.specs.Checked.{Checked, ok, refused}
use Rattle.mdf.specs.Chain.{Fragment}
use Rattle.mdf.specs.Records.{Known, known, unknown}
use Rattle.records.specs.Ahead.{ahead, Spot, nowhere, spot, Reached, halted, reached}
use Rattle.records.specs.Framing.{Numeral, none, value}
use Rattle.fields.specs.declared.refusal.Refusal.{Refusal}
use Rattle.fields.specs.Answer as refusals
use Rattle.records.specs.declared.framing.Framing as places
use Rattle.records.specs.declared.framing.Record.{Record}
use Rattle.records.specs.declared.framing.Group.{Group}

abbrev pub counted_of : Result ℕ Refusal → Checked (List ℕ)
counted_of (Ok n) = ok (n ∷ [])
counted_of (Err e) = refused (refusals.number_of e) (refusals.place_of e)

-- what is ahead of a place
abbrev pub ahead_of : List ℕ → List ℕ → places.Framing → List Fragment
ahead_of s ws p = ahead s ws p.at p.position p.left

abbrev pub moved_of : Option places.Framing → Spot
moved_of None = nowhere
moved_of (Some p) = spot p.at p.position p.left

abbrev pub number_of : Option ℕ → Numeral
number_of None = none
number_of (Some n) = value n

abbrev pub found_of : Option Group → Known
found_of None = unknown
found_of (Some g) = known g.number g.cg

abbrev pub reached_of : Option Record → Reached
reached_of None = halted
reached_of (Some r) = reached r.group r.bytes r.next.at r.next.position r.next.left
