-- From the code's answer to what the definitions give: a callee's `ensures`, then the arm's equation.
use Rattle.std.specs.Prelude.{ℕ, List, ◌≡◌, Option, Some, None}
use Rattle.std.proofs.Common.{sym, ◌∙◌}
use Rattle.mdf.specs.Records.{Known, known, unknown}
use Rattle.records.specs.Ahead.{short, onto, skip, Spot, nowhere, spot, spot_past, stuck, stepped, step_at, step_to}
use Rattle.records.specs.Framing.{Numeral, none, value}
use Rattle.records.specs.Answer.{ahead_of, moved_of, number_of, found_of, reached_of}
use Rattle.records.specs.AheadLaws.{landed, nowhere-short}
use Rattle.records.specs.FrameLaws.{halted_stuck, reached_stepped}
use Rattle.records.specs.declared.framing.Framing as places
use Rattle.records.specs.declared.framing.Record.{Record}
use Rattle.records.specs.declared.framing.Group.{Group}

module _ {o : Option places.Framing} {v : Spot} (e : moved_of o ≡ v) where
  pub so_nowhere : o ≡ None → v ≡ nowhere
  so_nowhere q = sym e ∙ rw q

  pub so_spot : {p : places.Framing} → o ≡ Some p → v ≡ spot p.at p.position p.left
  so_spot q = sym e ∙ rw q

module _ (s ws : List ℕ) (from : places.Framing) (m : ℕ) {o : Option places.Framing} (e : moved_of o ≡ spot_past m (ahead_of s ws from) from.at) where
  pub so_past : o ≡ None → skip m (ahead_of s ws from) ≡ short
  so_past q = nowhere-short _ _ _ (sym e ∙ rw q)

  pub so_to : {p : places.Framing} → o ≡ Some p → skip m (ahead_of s ws from) ≡ onto (ahead_of s ws p)
  so_to {p} q =
      let v : spot_past m (ahead_of s ws from) from.at ≡ spot p.at p.position p.left = sym e ∙ rw q in
      (landed s ws from.at from.position from.left m v).skips

module _ {o : Option ℕ} {v : Numeral} (e : number_of o ≡ v) where
  pub so_missing : o ≡ None → v ≡ none
  so_missing q = sym e ∙ rw q

  pub so_value : {n : ℕ} → o ≡ Some n → v ≡ value n
  so_value q = sym e ∙ rw q

module _ {o : Option Group} {v : Known} (e : found_of o ≡ v) where
  pub so_unknown : o ≡ None → v ≡ unknown
  so_unknown q = sym e ∙ rw q

  pub so_group : {g : Group} → o ≡ Some g → v ≡ known g.number g.cg
  so_group q = sym e ∙ rw q

module _ (s : List ℕ) (n : ℕ) (gs ws : List ℕ) (p : places.Framing) {o : Option Record} (e : reached_of o ≡ step_to s n gs (ahead_of s ws p) p.at) where
  pub so_broken : o ≡ None → step_at s n gs (ahead_of s ws p) ≡ stuck
  so_broken q = halted_stuck s n gs _ p.at (sym e ∙ rw q)

  pub so_record : {r : Record} → o ≡ Some r → step_at s n gs (ahead_of s ws p) ≡ stepped r.group r.bytes (ahead_of s ws r.next)
  so_record q = reached_stepped s n gs ws p.at p.position p.left (sym e ∙ rw q)
