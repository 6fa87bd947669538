-- Laws of places in joined data.
use Rattle.std.specs.Prelude.{ℕ, ◌+◌, ◌-◌, ◌≤◌, ◌<◌, List, ◌≡◌, refl, length, drop}
use Rattle.std.proofs.Common.{sym, ap, ◌∙◌, arith, length-drop, drop-drop}
use Rattle.base.specs.Checked.{fine}
use Rattle.mdf.specs.Chain.{Fragment}
use Rattle.mdf.specs.Records.{ranges_in, joined, size_of}
use Rattle.work_words.specs.Words.{fragments_of}
use Rattle.payload_laws.specs.SortedLaws.{joined_length}
use Rattle.joined.specs.declared.cursor.Cursor.{Cursor}
use Rattle.joined.specs.declared.spot.Spot.{Spot}
use Rattle.joined.specs.Ahead.{later, ahead, past, settled, Settled}
use Rattle.joined.specs.AheadLaws.{ranges_cons, ranges_past, ranges_settled, joined-zero, joined-past, joined-settled, size-past}
use Rattle.joined.specs.Spot.{front, SpotOf}

-- ---- the place before all bytes
pub spot_front : (s ws : List ℕ) → ranges_in s (fragments_of ws) ≡ fine → SpotOf s ws front
unfolding ahead later
spot_front s ws r =
    record {
      ranges = ranges_cons s _ (fragments_of ws) (omega arith) r;
      rest = joined-zero s _ (fragments_of ws) refl;
      within = omega arith;
    }

-- ---- the bytes ahead of a place
module _ {s ws : List ℕ} {p : Spot} (t : SpotOf s ws p) (r : ranges_in s (fragments_of ws) ≡ fine) where
  pub spot_size : size_of (ahead ws p.cursor) ≡ size_of (fragments_of ws) - p.offset
  spot_size =
      sym (joined_length s (ahead ws p.cursor) t.ranges) ∙ ap length t.rest ∙ length-drop p.offset (joined s (fragments_of ws))
      ∙ ap (λ (n : ℕ). n - p.offset) (joined_length s (fragments_of ws) r)

  -- so many bytes further on, where there are more, at the first fragment with bytes
  pub spot_on : (m offset : ℕ) (a b : Cursor) → offset ≡ p.offset + m → offset < size_of (fragments_of ws)
      → (m ≤ size_of (ahead ws p.cursor) → ahead ws a ≡ past m (ahead ws p.cursor)) → (0 < size_of (ahead ws a) → Settled ws a b)
      → SpotOf s ws (record { cursor = b; offset = offset })
  spot_on m offset a b o l skipped settling =
      let fs : List Fragment = ahead ws p.cursor in
      let z = spot_size in
      let n = size-past m fs (omega arith) in
      let e = skipped (omega arith) in
      let f : Settled ws a b = settling (rw e (omega arith)) in
      let x : ahead ws b ≡ settled (past m fs) = f.is ∙ ap settled e in
      record {
        ranges = rw x (ranges_settled s (past m fs) (ranges_past s m fs t.ranges));
        rest = ap (joined s) x ∙ joined-settled s (past m fs) ∙ joined-past s m fs t.ranges ∙ ap (drop m) t.rest
            ∙ drop-drop m p.offset (joined s (fragments_of ws)) ∙ ap (λ (n : ℕ). drop n (joined s (fragments_of ws))) (sym o);
        within = omega arith;
      }
