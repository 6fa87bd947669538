-- Joined data over a window: what is seen of it.
use Rattle.std.specs.Prelude.{ℕ, ◌+◌, ◌-◌, ◌≤◌, List, ◌≡◌, length, take, drop}
use Rattle.std.proofs.Math.Path.{refl, sym}
use Rattle.std.proofs.Common.{ap, ◌∙◌, arith, length-drop}
use Rattle.base.specs.Blit.{blit, part}
use Rattle.base.specs.BlitLaws.{length_part}
use Rattle.base.specs.Checked.{fine}
use Rattle.mdf.specs.Records.{ranges_in, joined, size_of}
use Rattle.work_words.specs.Words.{fragments_of}
use Rattle.payload_laws.specs.SortedLaws.{joined_length}
use Rattle.shown_laws.specs.Standing.{part-part}
use Rattle.joined.specs.declared.spot.Spot.{Spot}
use Rattle.joined.specs.Ahead.{ahead}
use Rattle.joined.specs.Spot.{SpotOf}
use Rattle.stores.specs.Over.{over}
use Rattle.windows.specs.declared.seen.Seen.{Seen}
use Rattle.windows.specs.Seen.{SeenIn}

module _ (s ws : List ℕ) (a at offset n : ℕ) (w : List ℕ) (ranges : ranges_in s (fragments_of ws) ≡ fine) (enough : offset + n ≤ size_of (fragments_of ws)) where
  abbrev all : List ℕ
  all = joined s (fragments_of ws)

  pub long : length (part offset n (joined s (fragments_of ws))) ≡ n
  long = length_part offset n (joined s (fragments_of ws)) (rw (joined_length s (fragments_of ws) ranges) enough)

  -- none of it
  pub lays_none : (v : Seen) → SeenIn (length w) a at n v → v.count ≡ 0 → w ≡ over a at (part offset n (joined s (fragments_of ws))) w
  unfolding part blit
  lays_none v seen z = sym (seen.is (part offset n (joined s (fragments_of ws))) w long refl ∙ rw z refl)

  -- these bytes, from the place that was reached on
  unseen : (v : Seen) (k : Spot) → SpotOf s ws k → k.offset ≡ offset + v.skip
      → blit v.to (part (offset + v.skip) v.count all) w ≡ blit v.to (take v.count (joined s (ahead ws k.cursor))) w
  unfolding part
  unseen v k spot e = rw (spot.rest, e) refl

  pub lays_some : (v : Seen) (k : Spot) {last : List ℕ} → SeenIn (length w) a at n v → SpotOf s ws k → k.offset ≡ offset + v.skip
      → last ≡ blit v.to (take v.count (joined s (ahead ws k.cursor))) w → last ≡ over a at (part offset n (joined s (fragments_of ws))) w
  lays_some v k seen spot e put =
      let q : part v.skip v.count (part offset n all) ≡ part (offset + v.skip) v.count all = part-part offset n v.skip v.count all seen.within in
      put ∙ sym (seen.is (part offset n all) w long refl ∙ rw q (unseen v k spot e))

  -- as many are left there
  pub left_there : (v : Seen) (k : Spot) → SeenIn (length w) a at n v → SpotOf s ws k → k.offset ≡ offset + v.skip
      → v.count ≤ size_of (ahead ws k.cursor)
  left_there v k seen spot e =
      let l = joined_length s (ahead ws k.cursor) spot.ranges in
      let d : length (joined s (ahead ws k.cursor)) ≡ length (drop k.offset all) = ap length spot.rest in
      let m = joined_length s (fragments_of ws) ranges in
      let x : length (drop k.offset all) ≡ length all - k.offset = length-drop k.offset all in
      omega (arith, l, d, m, x, e, seen.within, enough)
