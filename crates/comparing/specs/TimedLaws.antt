-- Laws of the cells of two groups' records, record by record.
use Rattle.std.specs.Prelude.{ℕ, ◌+◌, ◌-◌, ◌*◌, ◌≤◌, ◌<◌, true, false, not, ◌≡◌, refl, length, get_or}
use mathlib.Core.List.{List, [], ◌++◌}
use Rattle.std.proofs.Common.{sym, ap, ◌∙◌, arith, drop_of_length-le}
use Rattle.std.proofs.Math.ListN.{drop}
use Rattle.mdf.specs.Records.{joined}
use Rattle.work_words.specs.Words.{fragments_of}
use Rattle.plan.specs.Channel.{both}
use Rattle.result.specs.Payload.{cells}
use Rattle.result.specs.Sharing.{same}
use Rattle.result.specs.SharingLaws.{same_parts}
use Rattle.payload_laws.specs.CellLaws.{cells-append}
use Rattle.places.specs.Stretch.{body_bytes}
use Rattle.places.specs.FacingLaws.{not-true, not-false}
use Rattle.joined.specs.SpotLaws.{spot_size}
use Rattle.cells.specs.declared.cell.Shape.{Shape}
use Rattle.cells.specs.Shape.{Shaped}
use Rattle.cells.specs.SpotLaws.{records_past, cells-size}
use Rattle.comparing.specs.declared.head.Head.{Head}
use Rattle.comparing.specs.declared.run.Compared.{Compared}
use Rattle.comparing.specs.declared.times.Clock.{Clock}
use Rattle.comparing.specs.Comparable.{clock_records}
use Rattle.comparing.specs.Same.{Has}
use Rattle.comparing.specs.Head.{head_front, TablesOf, HeadOf, HeadHere, HeadFor, HeadPast}
use Rattle.comparing.specs.HeadLaws.{ready_ranges, ready_length, head_begin_lem, head_inside, head_records, head_lying, head-past}
use Rattle.comparing.specs.Run.{cells_in, cells_ahead, SomeSame}
use Rattle.comparing.specs.RunLaws.{widths}
use Rattle.comparing.specs.Timed.{Timed, cells_from, Pair}

-- ---- the records at a head
module _ {s : List ℕ} {c : Clock} {h : Shape} {gs ws : List ℕ} {at : ℕ} {p : Head} (w : Shaped s h) (t : Timed s c h gs ws)
    (o : HeadHere s c gs ws at p) where
  body_is : body_bytes s (get_or gs c.number 0) ≡ h.length
  body_is = rw t.group (sym w.long)

  within : p.first + h.length ≤ length (joined s (fragments_of ws))
  within = let i = head_inside t.ready o.of o.some in let n = ready_length t.ready in let e = body_is in omega arith

  here_has : Has s ws p.spot.cursor h.length
  here_has =
      let i = within in
      let n = ready_length t.ready in
      let z = spot_size o.of.spot (ready_ranges t.ready) in
      let e = o.here in
      record { ranges = o.of.spot.ranges; enough = omega arith }

  module _ (m : ℕ) (z : 0 < m) (l : m ≤ p.count) where
    here_is : cells_ahead s ws p h m ≡ cells_in s h (joined s (fragments_of ws)) p.first p.stride m
    here_is =
        let e : p.spot.offset + 0 ≡ p.first = omega (arith, o.here) in
        rw (o.of.spot.rest, records_past p.spot.offset h.length (joined s (fragments_of ws)) 0 p.stride m, e)

    here_wide : length (cells_ahead s ws p h m) ≡ m * h.width
    here_wide =
        rw here_is (cells-size (joined s (fragments_of ws)) p.first p.stride m w (λ n. rw (← body_is) (head_lying t.ready o.of o.some m l z)))

    here-next : cells_from s c h gs ws at ≡ cells_ahead s ws p h m ++ cells_from s c h gs ws (at + m)
    unfolding cells_from
    here-next = rw (head_records t.ready o.of o.some m l, body_is, here_is, cells-append)

past_all : (l : List (List ℕ)) (n : ℕ) → length l ≤ n → drop n l ≡ []
past_all l n h = drop_of_length-le l h

-- ---- both groups, from number at on
pub record Heads (s : List ℕ) (a : Clock) (h : Shape) (gs ws : List ℕ) (b : Clock) (i : Shape) (hs vs : List ℕ) (at : ℕ) (x y : Head) : Type 0 where
  pub one : HeadOf s a gs ws at x
  pub two : HeadOf s b hs vs at y
  pub is : same (cells_from s a h gs ws at) (cells_from s b i hs vs at) ≡ same (cells_from s a h gs ws 0) (cells_from s b i hs vs 0)

module _ {s : List ℕ} {a : Clock} {h : Shape} {gs ws : List ℕ} {b : Clock} {i : Shape} {hs vs : List ℕ} (p : Pair s a h gs ws b i hs vs) where
  pub heads_begin : Heads s a h gs ws b i hs vs 0 head_front head_front
  heads_begin = record { one = head_begin_lem p.one.ready; two = head_begin_lem p.two.ready; is = refl }

  module _ {at : ℕ} {x y : Head} (v : Heads s a h gs ws b i hs vs at x y) where
    pub heads_end : a.records ≤ at → true ≡ same (cells_from s a h gs ws 0) (cells_from s b i hs vs 0)
    unfolding cells_from cells same
    heads_end l =
        let m = p.one.many in
        let n = p.two.many in
        let k = p.count in
        let e : drop at (clock_records s a gs ws) ≡ [] = past_all _ at (omega arith) in
        let f : drop at (clock_records s b hs vs) ≡ [] = past_all _ at (omega arith) in
        rw (e, f) at v.is

    -- the next records were found, and the cells of some of them compared
    module _ (l : at < a.records) {ids sizes names lengths : List ℕ} (ta : TablesOf s gs ids sizes) (tb : TablesOf s hs names lengths) {j k : Head}
        (fa : HeadFor s a gs ws ids sizes x j) (fb : HeadFor s b hs vs names lengths y k) (wh : Shaped s h) (wi : Shaped s i)
        (n : h.bytes ≡ i.bytes) (m : h.keep ≡ i.keep) {r : Compared} (e : SomeSame s ws j h vs k i r) where
      first-here : HeadHere s a gs ws at j
      first-here = let q = p.one.many in fa ta p.one.ready at (omega arith) v.one

      second-here : HeadHere s b hs vs at k
      second-here = let q = p.two.many in let c = p.count in fb tb p.two.ready at (omega arith) v.two

      first-few : r.count ≤ j.count
      first-few = e.one first-here.some

      second-few : r.count ≤ k.count
      second-few = e.two second-here.some

      compared : both r.equal (same (cells_from s a h gs ws (at + r.count)) (cells_from s b i hs vs (at + r.count)))
          ≡ same (cells_from s a h gs ws 0) (cells_from s b i hs vs 0)
      compared =
          let o = first-here in
          let q = second-here in
          let c = e.is (here_has wh p.one o) (here_has wi p.two q) in
          let z : r.count * h.width ≡ r.count * i.width = ap (λ (w : ℕ). r.count * w) (widths wh wi n m) in
          rw c (sym (same_parts _ _ _ _
          (here_wide wh p.one o r.count e.some first-few ∙ z ∙ sym (here_wide wi p.two q r.count e.some second-few))))
          ∙ rw (here-next wh p.one o r.count e.some first-few, here-next wi p.two q r.count e.some second-few) at v.is

      pub heads_other : not r.equal ≡ true → false ≡ same (cells_from s a h gs ws 0) (cells_from s b i hs vs 0)
      heads_other u = rw (not-true r.equal u) at compared

      -- no more than are left
      pub heads_few : a.records - at < r.count → ⊥
      heads_few u =
          let q = first-here.of.stretch.few in
          let c = first-few in
          let d = p.one.many in
          omega arith

      pub heads_turn : not r.equal ≡ false → {x' y' : Head} → HeadPast j r.count x' → HeadPast k r.count y'
          → Heads s a h gs ws b i hs vs (at + r.count) x' y'
      heads_turn u c d = record {
        one = head-past p.one.ready first-here.of first-here.some r.count first-few e.some c;
        two = head-past p.two.ready second-here.of second-here.some r.count second-few e.some d;
        is = rw (not-false r.equal u) at compared;
      }
