-- The cell of a record over a window: its bytes, then its kept bit.
use Rattle.std.specs.Prelude.{ℕ, ◌+◌, ◌-◌, ◌/◌, ◌%◌, ◌^◌, ◌≤◌, true, false, ◌≡◌, take, drop}
use mathlib.Core.List.{List, [], ◌∷◌, append-nil}
use Rattle.std.proofs.Math.Path.{refl}
use Rattle.std.proofs.Common.{sym, ap, ◌∙◌, arith, length-drop}
use Rattle.std.proofs.Math.ListN.{length, get_or}
use Rattle.std.proofs.Math.Seq.{get_or-take}
use Rattle.base.specs.Blit.{part}
use Rattle.base.specs.BlitLaws.{length_part}
use Rattle.mdf.specs.Records.{joined, size_of}
use Rattle.work_words.specs.Words.{fragments_of}
use Rattle.plan.specs.Channel.{inval_bit}
use Rattle.result.specs.Payload.{cell}
use Rattle.payload_laws.specs.SortedLaws.{joined_length}
use Rattle.shown_laws.specs.Standing.{part-part}
use Rattle.joined.specs.declared.spot.Spot.{Spot}
use Rattle.joined.specs.Ahead.{ahead}
use Rattle.joined.specs.Spot.{SpotOf}
use Rattle.stores.specs.Over.{over}
use Rattle.stores.specs.OverLaws.{over-append}
use Rattle.cells.specs.declared.cell.Shape.{Shape}
use Rattle.cells.specs.Spot.{Readable}
use Rattle.window_cells.specs.Cell.{record_at}

module _ {s ws : List ℕ} {h : Shape} (r : Readable s ws h) (offset : ℕ) (enough : offset + h.length ≤ size_of (fragments_of ws)) where
  abbrev all : List ℕ
  all = joined s (fragments_of ws)

  pub long : length (record_at s ws h offset) ≡ h.length
  long = length_part offset h.length all (rw (joined_length s (fragments_of ws) r.ranges) enough)

  -- what is left at its place
  pub record_left : (k : Spot) → SpotOf s ws k → k.offset ≡ offset → h.length ≤ size_of (ahead ws k.cursor)
  record_left k spot e =
      let l = joined_length s (ahead ws k.cursor) spot.ranges in
      let d : length (joined s (ahead ws k.cursor)) ≡ length (drop k.offset all) = ap length spot.rest in
      let m = joined_length s (fragments_of ws) r.ranges in
      let x : length (drop k.offset all) ≡ length all - k.offset = length-drop k.offset all in
      omega (arith, l, d, m, x, e, enough)

  pub kept_is : (k : Spot) (x : ℕ) → SpotOf s ws k → k.offset ≡ offset → h.keep ≡ true → x ≡ get_or (joined s (ahead ws k.cursor)) h.inval 0
      → x / 2 ^ h.bit % 2 ≡ inval_bit s h.group h.channel (record_at s ws h offset)
  unfolding inval_bit part
  kept_is k x spot e q v =
      let w = r.shaped in
      let g : get_or (take h.length (drop offset all)) h.inval 0 ≡ get_or (drop offset all) h.inval 0 = get_or-take h.length (drop offset all) h.inval 0 (w.kept q) in
      let y : x ≡ get_or (drop offset all) h.inval 0 = v ∙ rw (spot.rest, e) refl in
      rw (← w.inval, ← w.bit, g, ← y) refl

  -- the channel's bytes in the record
  bytes_in_lem : part (offset + h.first) h.bytes all ≡ part h.first h.bytes (record_at s ws h offset)
  bytes_in_lem = sym (part-part offset h.length h.first h.bytes all r.shaped.fit)

  pub bytes_end : offset + h.first + h.bytes ≤ size_of (fragments_of ws)
  bytes_end = let f = r.shaped.fit in omega arith

  module _ (a at : ℕ) (w : List ℕ) where
    pub lay_bare : {last : List ℕ} → h.keep ≡ false → last ≡ over a at (part (offset + h.first) h.bytes all) w
        → last ≡ over a at (cell s h.group h.channel (record_at s ws h offset)) w
    unfolding cell
    lay_bare q e = let v = r.shaped in rw (← v.keep, q, append-nil, ← v.first, ← v.bytes) (e ∙ rw bytes_in_lem refl)

    pub lay_kept : (x : ℕ) {mid last : List ℕ} → h.keep ≡ true → x ≡ inval_bit s h.group h.channel (record_at s ws h offset)
        → mid ≡ over a at (part (offset + h.first) h.bytes all) w → last ≡ over a (at + h.bytes) (part 0 1 (x ∷ [])) mid
        → last ≡ over a at (cell s h.group h.channel (record_at s ws h offset)) w
    unfolding cell part
    lay_kept x q v m e =
        let y = r.shaped in
        let f = y.fit in
        let n : length (part h.first h.bytes (record_at s ws h offset)) ≡ h.bytes = length_part h.first h.bytes (record_at s ws h offset) (omega (arith, long)) in
        rw (← y.keep, q, ← y.first, ← y.bytes, over-append, n, ← v) (e ∙ rw (m, bytes_in_lem) refl)
