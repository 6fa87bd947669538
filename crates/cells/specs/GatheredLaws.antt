-- Laws of the cells of records whose places words tell.
use Rattle.std.specs.Prelude.{ℕ, ◌+◌, ◌*◌, ◌-◌, ◌/◌, ◌≤◌, ◌<◌, true, false, ◌≡◌, refl, leb, length, take, drop, get_or}
use Rattle.std.proofs.lemmas.Bool.{false≢true}
use mathlib.Core.List.{List, [], ◌∷◌, ◌++◌, append-nil}
use Rattle.std.proofs.Math.Path.{sym}
use Rattle.std.proofs.Common.{ap, ◌∙◌, ⊎_elim, zero-mul, mul-zero, add-mul, mul-le-mul_right, div-mul-le_self, div-lt_iff_lt-mul, arith, leb-true, leb-false, length-append, take-add, drop-drop, drop-cons}
use Rattle.base.specs.Blit.{part, blit}
use Rattle.base.specs.BlitLaws.{blit-append, length_part}
use Rattle.base.specs.Checked.{fine}
use Rattle.mdf.specs.Records.{most64, ranges_in, joined, size_of}
use Rattle.work_words.specs.Words.{fragments_of}
use Rattle.result.specs.Payload.{cell, cells}
use Rattle.payload_laws.specs.SortedLaws.{joined_length}
use Rattle.payload_laws.specs.CellLaws.{cells-append}
use Rattle.places.specs.Stretch.{records_at}
use Rattle.places.specs.StretchLaws.{records_at-append}
use Rattle.cells.specs.declared.cell.Shape.{Shape}
use Rattle.joined.specs.declared.spot.Spot.{Spot}
use Rattle.cells.specs.declared.gathered.Window.{Window}
use Rattle.joined.specs.Ahead.{ahead}
use Rattle.joined.specs.AheadLaws.{zero_or_more}
use Rattle.cells.specs.Shape.{Shaped}
use Rattle.cells.specs.StridedLaws.{cell_wide}
use Rattle.joined.specs.Spot.{SpotOf}
use Rattle.cells.specs.Spot.{Readable}
use Rattle.cells.specs.SpotLaws.{part-drop, part-here}
use Rattle.cells.specs.Gathered.{Put, Alike, Near, Some, Gathers, FewOrAll}

-- ---- parts of a list, taken together
pub part-add : {A : Type 0} (i m n : ℕ) (l : List A) → part i (m + n) l ≡ part i m l ++ part (i + m) n l
unfolding part
part-add i m n l = take-add m n (drop i l) ∙ ap (λ (x : List _). take m (drop i l) ++ take n x) (drop-drop m i l)

part-front : (n : ℕ) (l : List ℕ) → take n l ≡ part 0 n l
unfolding part
part-front n l = refl

pub part-one : (i : ℕ) (l : List ℕ) → i < length l → part i 1 l ≡ get_or l i 0 ∷ []
unfolding part
part-one i l h = rw (drop-cons l i 0 h)

-- ---- cells that are put
module _ {s l : List ℕ} {h : Shape} where
  pub put_none : (to : ℕ) (out : List ℕ) → Put s l h [] to out out
  unfolding cells records_at blit
  put_none to out = record { bytes = refl; wide = sym (zero-mul h.width) }

  pub put_one : (o to : ℕ) (out : List ℕ) {last : List ℕ} → length (cell s h.group h.channel (part o h.length l)) ≡ h.width
      → last ≡ blit to (cell s h.group h.channel (part o h.length l)) out → Put s l h (o ∷ []) to out last
  unfolding cells records_at
  put_one o to out w e = record { bytes = rw append-nil e; wide = rw append-nil (omega arith) }

  -- those at the places ps, then those at qs
  pub put_append : (ps qs : List ℕ) (to : ℕ) (out : List ℕ) {mid last : List ℕ} → Put s l h ps to out mid
      → Put s l h qs (to + length ps * h.width) mid last → Put s l h (ps ++ qs) to out last
  put_append ps qs to out a b =
      record {
        bytes = b.bytes ∙ rw (records_at-append, cells-append, blit-append, a.wide, a.bytes);
        wide = rw (records_at-append, cells-append, length-append, length-append, a.wide, b.wide) (omega (arith, add-mul (length ps) (length qs) h.width));
      }

  -- the words p tell the places: m from an index on, then n more
  pub put_words_lem : (p : List ℕ) (from m n to : ℕ) (out : List ℕ) {mid last : List ℕ} → from + m ≤ length p → Put s l h (part from m p) to out mid
      → Put s l h (part (from + m) n p) (to + m * h.width) mid last → Put s l h (part from (m + n) p) to out last
  put_words_lem p from m n to out k a b =
      let e = length_part from m p k in
      rw (part-add from m n p) (put_append (part from m p) (part (from + m) n p) to out a (rw e b))

  pub put_word : (p : List ℕ) (i to : ℕ) (out : List ℕ) {last : List ℕ} → i < length p → Put s l h (get_or p i 0 ∷ []) to out last
      → Put s l h (part i 1 p) to out last
  put_word p i to out k a = rw (part-one i p k) a

-- ---- the cells of the first i records were put, up to an index
pub record Gathering (s : List ℕ) (h : Shape) (p : List ℕ) (v : Window) (to i index : ℕ) (out₀ out : List ℕ) : Type 0 where
  pub few : i ≤ v.n
  pub at : index ≡ to + i * h.width
  pub same : length out ≡ length out₀
  pub put : Shaped s h → (l : List ℕ) → Alike s l h.length v → Put s l h (part v.from i p) to out₀ out

pub gathering_begin : {s : List ℕ} {h : Shape} {p : List ℕ} (v : Window) (to : ℕ) (out : List ℕ) → Gathering s h p v to 0 to out out
unfolding part
gathering_begin {s} {h} v to out =
    record { few = omega arith; at = omega (arith, zero-mul h.width); same = refl; put = λ w l a. put_none to out }

module _ {s : List ℕ} {h : Shape} {p : List ℕ} {v : Window} {to i index : ℕ} {out₀ out : List ℕ} (t : Gathering s h p v to i index out₀ out) where
  -- the next cell has room
  pub gathering_room : i < v.n → to + v.n * h.width ≤ length out₀ → index + h.width ≤ length out
  gathering_room k r =
      let m : (i + 1) * h.width ≤ v.n * h.width = mul-le-mul_right h.width (omega arith) in
      omega (arith, t.at, t.same, add-mul i 1 h.width)

  module _ (y : Near p (length s) h.length v) where
    -- the next record lies q bytes past base
    pub gathering_turn : (q : ℕ) {j next : ℕ} {last : List ℕ} → i < v.n → get_or p (v.from + i) 0 ≡ v.base + q → q ≤ v.room
        → length last ≡ length out
        → (Shaped s h → last ≡ blit index (cell s h.group h.channel (part (v.position + q) h.length s)) out) → j ≡ i + 1
        → next ≡ index + h.width → Gathering s h p v to j next out₀ last
    gathering_turn q {j} {next} {last} k e b m z f g =
        let o : ℕ = v.from + i in
        rw f (record {
          few = omega arith;
          at = omega (arith, t.at, add-mul i 1 h.width);
          same = m ∙ t.same;
          put = λ w l a.
              let x : length (cell s h.group h.channel (part (v.position + q) h.length s)) ≡ h.width =
              cell_wide s (v.position + q) w (omega (arith, y.inside)) in
              let c : part (get_or p o 0) h.length l ≡ part (v.position + q) h.length s = rw e (a.are q b) in
              put_words_lem p v.from i 1 to out₀ (omega (arith, y.words)) (t.put w l a)
              (put_word p o (to + i * h.width) out (omega (arith, y.words))
              (put_one (get_or p o 0) (to + i * h.width) out (rw c x) (rw (c, ← t.at) (z w))));
        })

    -- it doesn't lie at base, so it isn't the first
    pub gathering_stop : (get_or p (v.from + i) 0 ≡ v.base → ⊥) → Gathers s h p v to i out₀ out
    gathering_stop z =
        record {
          some = ⊎_elim (λ e. let f : v.from + i ≡ v.from = omega arith in absurd (z (rw f y.first))) (λ k. k) (zero_or_more i);
          few = t.few;
          put = t.put;
        }

    pub gathering_end : v.n ≤ i → Gathers s h p v to v.n out₀ out
    gathering_end k = let e : i ≡ v.n = omega (arith, t.few) in record { some = y.some; few = omega arith; put = rw e at t.put }

-- ---- some records from a spot on: one that lies in several fragments, or those in its own
module _ {s ws : List ℕ} {k : Spot} (t : SpotOf s ws k) where
  spot_part : (q n : ℕ) → part (k.offset + q) n (joined s (fragments_of ws)) ≡ part q n (joined s (ahead ws k.cursor))
  spot_part q n = rw t.rest (sym (part-drop k.offset q n (joined s (fragments_of ws))))

  -- n words from an index on, of records that lie in its fragment
  pub spot_alike : (bytes from n : ℕ) → bytes ≤ k.cursor.left
      → Alike s (joined s (fragments_of ws)) bytes
      (record { from = from; n = n; position = k.cursor.position; base = k.offset; room = k.cursor.left - bytes })
  spot_alike bytes from n h = record { are = λ q l. spot_part q bytes ∙ part-here s ws k.cursor q bytes t.ranges (omega arith) }

  pub spot_one : {h : Shape} (p : List ℕ) (from to : ℕ) (out : List ℕ) {last : List ℕ} → Shaped s h → ranges_in s (fragments_of ws) ≡ fine
      → from < length p → get_or p from 0 ≡ k.offset → k.offset + h.length ≤ size_of (fragments_of ws)
      → last ≡ blit to (cell s h.group h.channel (take h.length (joined s (ahead ws k.cursor)))) out
      → Put s (joined s (fragments_of ws)) h (part from 1 p) to out last
  spot_one {h} p from to out {last} w r b o i e =
      let j : List ℕ = joined s (fragments_of ws) in
      let z : k.offset + 0 ≡ k.offset = omega arith in
      let c : take h.length (joined s (ahead ws k.cursor)) ≡ part (get_or p from 0) h.length j =
      rw o (part-front h.length (joined s (ahead ws k.cursor)) ∙ rw z at (sym (spot_part 0 h.length))) in
      let x = cell_wide j (get_or p from 0) w (omega (arith, joined_length s (fragments_of ws) r)) in
      put_word p from to out b (put_one (get_or p from 0) to out x (rw c at e))

  -- with its offset given
  pub spot_at : {o : ℕ} → k.offset ≡ o → SpotOf s ws (record { cursor = k.cursor; offset = o })
  spot_at e = record { ranges = t.ranges; rest = rw e at t.rest; within = omega (arith, t.within) }

-- ---- n of w each, in what is there
pub widths_fit : (room w n : ℕ) → n ≤ room / w → n * w ≤ room
widths_fit room w n h =
    let a : n * w ≤ room / w * w = mul-le-mul_right w h in
    omega (arith, div-mul-le_self room w)

pub widths_over : (room w n : ℕ) → 0 < w → room / w < n → room < n * w
widths_over room w n z h = (div-lt_iff_lt-mul {k = w} {x = room} {y = n} z).0 h

-- ---- the cells of count records were put, up to an index
pub record Running (s ws : List ℕ) (h : Shape) (p : List ℕ) (size from to n count index : ℕ) (k₀ k : Spot) (out₀ out : List ℕ) : Type 0 where
  pub few : count ≤ n
  pub at : index ≡ to + count * h.width
  pub same : length out ≡ length out₀
  pub spot : Readable s ws h → SpotOf s ws k₀ → size ≡ size_of (fragments_of ws) → SpotOf s ws k
  pub put : Readable s ws h → SpotOf s ws k₀ → size ≡ size_of (fragments_of ws) → Put s (joined s (fragments_of ws)) h (part from count p) to out₀ out

pub running_begin : {s ws : List ℕ} (h : Shape) (p : List ℕ) (size from to n : ℕ) (k : Spot) (out : List ℕ)
    → Running s ws h p size from to n 0 to k k out out
unfolding part
running_begin h p size from to n k out =
    record { few = omega arith; at = omega (arith, zero-mul h.width); same = refl; spot = λ w t e. t; put = λ w t e. put_none to out }

module _ {s ws : List ℕ} {h : Shape} {p : List ℕ} {size from to n count index : ℕ} {k₀ k₁ : Spot} {out₀ out : List ℕ}
    (v : Running s ws h p size from to n count index k₀ k₁ out₀ out) where
  -- those that are left have room
  pub running_room : to + n * h.width ≤ length out₀ → index + (n - count) * h.width ≤ length out
  running_room r =
      let e : n ≡ count + (n - count) = omega (arith, v.few) in
      let m : n * h.width ≡ count * h.width + (n - count) * h.width = ap (λ (x : ℕ). x * h.width) e ∙ add-mul count (n - count) h.width in
      omega (arith, v.at, v.same)

  -- some of them, too
  pub running_some : (m : ℕ) → m ≤ n - count → to + n * h.width ≤ length out₀ → index + m * h.width ≤ length out₀
  running_some m l r =
      let a : m * h.width ≤ (n - count) * h.width = mul-le-mul_right h.width l in
      omega (arith, running_room r, v.same)

  -- the next lies at o, the place near it was reached from the last one
  pub running_turn : (m o : ℕ) {near : Spot} {j next : ℕ} {last : List ℕ} → from + n ≤ length p → o + h.length ≤ size → length s ≤ most64
      → (length s ≤ most64 → SpotOf s ws k₁ → ranges_in s (fragments_of ws) ≡ fine → o < size_of (fragments_of ws) → SpotOf s ws near × (near.offset ≡ o))
      → Some s ws h p (record { cursor = near.cursor; offset = o }) (from + count) (n - count) index m out last → length last ≡ length out → j ≡ count + m
      → next ≡ index + m * h.width → Running s ws h p size from to n j next k₀ (record { cursor = near.cursor; offset = o }) out₀ last
  running_turn m o {near} {j} {next} {last} l i b reached y q f g =
      let spot : Readable s ws h → SpotOf s ws k₀ → size ≡ size_of (fragments_of ws) → SpotOf s ws (record { cursor = near.cursor; offset = o }) =
      λ w t e. let x = reached b (v.spot w t e) w.ranges (omega (arith, w.some)) in spot_at x.0 x.1 in
      rw f (record {
        few = omega (arith, y.few, v.few);
        at = omega (arith, v.at, add-mul count m h.width);
        same = q ∙ v.same;
        spot = spot;
        put = λ w t e. put_words_lem p from count m to out₀ (omega (arith, v.few)) (v.put w t e) (rw (← v.at) (y.put w (spot w t e) (omega arith)));
      })

  -- no more are put: all were, or the next doesn't lie in the data
  pub running_end : (count < n → size < get_or p (from + count) 0 + h.length) → (count ≤ n)
      × (Readable s ws h → SpotOf s ws k₀ → size ≡ size_of (fragments_of ws)
      → FewOrAll s ws h p size from n to (record { spot = k₁; count = count }) out₀ out)
  running_end z = (v.few, λ w t e. record { spot = v.spot w t e; bytes = (v.put w t e).bytes; stop = z })
