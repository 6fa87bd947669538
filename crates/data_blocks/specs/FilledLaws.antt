-- Laws of the records of a group in the blocks of its column, stretch by stretch.
use Rattle.std.specs.Prelude.{ℕ, ◌+◌, ◌-◌, ◌*◌, ◌/◌, ◌≤◌, ◌<◌, max, Bool, true, false, not, List, ◌∷◌, ◌++◌, ◌≡◌, length, get_or}
use Rattle.std.proofs.Math.Path.{refl, ap}
use Rattle.std.proofs.Common.{sym, ◌∙◌, subst, mul_comm, mul-le-mul_right, div-mul-le_self, div-lt_iff_lt-mul, zero-mul, arith}
use Rattle.base.specs.Blit.{blit}
use Rattle.base.specs.Checked.{fine}
use Rattle.mdf.specs.Records.{most64, ranges_in, joined, size_of}
use Rattle.work_words.specs.Words.{kind_of, fragments_of}
use Rattle.result.specs.Payload.{group_records}
use Rattle.payload_laws.specs.Answers.{false≢true}
use Rattle.payload_laws.specs.FramedLaws.{unsorted_several}
use Rattle.records.specs.Table.{ids_of, sizes_of, Tabled}
use Rattle.records.specs.TableLaws.{tabled}
use Rattle.payload_laws.specs.SortedLaws.{joined_length}
use Rattle.places.specs.declared.stretch.Stretch.{Stretch}
use Rattle.places.specs.declared.stretch.Scan.{Scan}
use Rattle.places.specs.declared.stretch.Next.{Next}
use Rattle.places.specs.Stretch.{spaced, body_bytes, Ready, StretchOf}
use Rattle.places.specs.StretchLaws.{length-spaced, spaced-add}
use Rattle.places.specs.Scan.{start, ScanOf, NextOf}
use Rattle.places.specs.ScanLaws.{scan_start, checked_frames}
use Rattle.places.specs.Pool.{HeldIn}
use Rattle.places.specs.declared.pool.Held.{Held}
use Rattle.joined.specs.declared.spot.Spot.{Spot}
use Rattle.joined.specs.Ahead.{later}
use Rattle.joined.specs.AheadLaws.{later_more, later-none, ranges_head, ranges_tail, ranges_cons}
use Rattle.cells.specs.Shape.{Shaped}
use Rattle.joined.specs.Spot.{front, SpotOf}
use Rattle.cells.specs.Spot.{Readable}
use Rattle.joined.specs.SpotLaws.{spot_front}
use Rattle.data_blocks.specs.declared.piece.Form.{Form}
use Rattle.std.specs.Prelude.{Option, Some, None}
use Rattle.data_blocks.specs.Region.{reach_to, Due, PieceIn, places_of, PieceOf, PutPiece}
use Rattle.data_blocks.specs.RegionLaws.{piece_back, lying_past, grown_none}
use Rattle.data_blocks.specs.Filled.{TotalOf, Usable, IfUsable, past_of, PutRest, Filled, PoolFilled}

-- ---- a stretch that can be used, or not
module _ (size : ℕ) (f : Form) (at : ℕ) (t : Stretch) where
  pub usable_yes : Usable size f at t → IfUsable size f at t true
  usable_yes u = record { yes = λ e. u; no = λ e. absurd (false≢true (sym e)) }

  pub usable_no : (Usable size f at t → ⊥) → IfUsable size f at t false
  usable_no n = record { yes = λ e. absurd (false≢true e); no = λ e. n }

pub if_usable : {size : ℕ} {f : Form} {at : ℕ} {t : Stretch} (b : Bool) → IfUsable size f at t b → not b ≡ false → Usable size f at t
if_usable true u e = u.yes refl
if_usable false u e = absurd (false≢true (sym e))

pub not_usable : {size : ℕ} {f : Form} {at : ℕ} {t : Stretch} (b : Bool) → IfUsable size f at t b → not b ≡ true → Usable size f at t → ⊥
not_usable true u e = absurd (false≢true e)
not_usable false u e = u.no refl

pub usable_in : {size : ℕ} {ws : List ℕ} {f : Form} {at : ℕ} {t : Stretch} → Usable size f at t → size ≡ size_of (fragments_of ws) → PieceIn ws f t
usable_in u e = record { lying = rw (← e) u.lying; few = u.few }

-- n distances fit, or they don't
pub strides_fit : (stride room n : ℕ) → stride ≤ room / n → n * stride ≤ room
strides_fit stride room n h =
    let a : stride * n ≤ room / n * n = mul-le-mul_right n h in
    omega (arith, div-mul-le_self room n, mul_comm n stride)

pub strides_over : (stride room n : ℕ) → 0 < n → room / n < stride → room < n * stride
strides_over stride room n z h =
    let a = (div-lt_iff_lt-mul {k = n} {x = room} {y = stride} z).0 h in
    omega (arith, mul_comm n stride)

pub no_stride : (n stride : ℕ) → n ≡ 1 → (n - 1) * stride ≡ 0
no_stride n stride e = let z : n - 1 ≡ 0 = omega arith in rw z (zero-mul stride)

-- ---- the fragments from index i on
pub record Totalling (s ws : List ℕ) (i sum : ℕ) : Type 0 where
  pub within : i ≤ length ws
  pub on : ranges_in s (later ws i) ≡ fine → ranges_in s (fragments_of ws) ≡ fine
  pub back : ranges_in s (fragments_of ws) ≡ fine → ranges_in s (later ws i) ≡ fine
  pub sizes : sum + size_of (later ws i) ≡ size_of (fragments_of ws)

pub totalling_begin : (s ws : List ℕ) → Totalling s ws 0 0
unfolding later
totalling_begin s ws = record { within = omega arith; on = λ e. e; back = λ e. e; sizes = omega arith }

module _ {s ws : List ℕ} {i sum : ℕ} (t : Totalling s ws i sum) where
  pub totalling_end : length ws < i + 3 → sum ≤ most64 → {r : Option ℕ} → r ≡ Some sum → TotalOf s ws r
  unfolding ranges_in size_of
  totalling_end h m e =
      let n = later-none ws i h in
      let o : ranges_in s (later ws i) ≡ fine = rw n refl in
      let z : size_of (later ws i) ≡ 0 = rw n in
      rw e (record {
        yes = λ n q. let x : n ≡ sum = cc in (t.on o, omega (arith, t.sizes, x), omega (arith, m, x));
        no = λ q a b. cc;
      })

  module _ (h : i + 3 ≤ length ws) where
    here_is : later ws i ≡ record { offset = get_or ws i 0; size = get_or ws (i + 1) 0; kind = kind_of (get_or ws (i + 2) 0) } ∷ later ws (i + 3)
    here_is = later_more ws i h

    pub totalling_turn : get_or ws i 0 + get_or ws (i + 1) 0 ≤ length s → {n : ℕ} → n ≡ sum + get_or ws (i + 1) 0 → Totalling s ws (i + 3) n
    unfolding size_of
    totalling_turn l e =
        let z = ap size_of here_is in
        record {
          within = h;
          on = λ q. t.on (rw here_is (ranges_cons s _ (later ws (i + 3)) l q));
          back = λ q. ranges_tail s _ (later ws (i + 3)) (rw here_is at (t.back q));
          sizes = omega (arith, t.sizes);
        }

    pub totalling_out : length s < get_or ws i 0 + get_or ws (i + 1) 0 → {r : Option ℕ} → r ≡ None → TotalOf s ws r
    totalling_out l e =
        rw e (record {
          yes = λ n q. cc;
          no = λ q a b. let x = ranges_head s _ (later ws (i + 3)) (rw here_is at (t.back a)) in omega arith;
        })

    pub totalling_over : most64 < sum + get_or ws (i + 1) 0 → {r : Option ℕ} → r ≡ None → TotalOf s ws r
    unfolding size_of
    totalling_over l e =
        let z = ap size_of here_is in
        rw e (record {
          yes = λ n q. cc;
          no = λ q a b. omega (arith, t.sizes);
        })

-- ---- what is left of a stretch past m records
pub past_in_lem : {ws : List ℕ} {f : Form} {t : Stretch} (m : ℕ) → PieceIn ws f t → m < t.count → PieceIn ws f (past_of t m)
past_in_lem m p h = record { lying = lying_past m p.lying h; few = omega (arith, p.few) }

module _ (s ws : List ℕ) (f : Form) (t : Stretch) (a : ℕ) {out : List ℕ} where
  -- it ends before number a
  pub rest-none : t.number + t.count ≤ a → PutRest s ws f a t out out
  rest-none h rs d e base q =
      let x : max a t.number ≡ a = omega arith in
      let y : max a (t.number + t.count) ≡ a = omega arith in
      rw y (rw x at q)

  -- it begins at number a or past it
  pub rest_all : {last : List ℕ} → a ≤ t.number → PutPiece s ws f t.number t.count (places_of t) out last → PutRest s ws f a t out last
  rest_all h p rs d e =
      let x : max a t.number ≡ t.number = omega arith in
      let y : max a (t.number + t.count) ≡ t.number + t.count = omega arith in
      rw (x, y) (p rs d e)

  -- a lies in it
  pub rest_part : {last : List ℕ} (m : ℕ) → m ≡ a - t.number → t.number < a → a < t.number + t.count
      → PutPiece s ws f (t.number + m) (t.count - m) (places_of (past_of t m)) out last → PutRest s ws f a t out last
  rest_part m z h l p rs d e =
      let x : max a t.number ≡ t.number + m = omega arith in
      let y : max a (t.number + t.count) ≡ t.number + m + (t.count - m) = omega arith in
      let z : t.count ≡ m + (t.count - m) = omega arith in
      let q : PieceOf s ws f rs t.number (m + (t.count - m)) (spaced t.first t.stride m ++ places_of (past_of t m)) =
      rw (← spaced-add t.first t.stride m (t.count - m), ← z) e in
      rw (x, y) (p rs d (piece_back s ws f rs t.number m (t.count - m) (spaced t.first t.stride m) (places_of (past_of t m))
      (length-spaced t.first t.stride m) q))

-- ---- the group's records, stretch by stretch
pub body_is : (s gs : List ℕ) (k : ℕ) (f : Form) → Shaped s f.shape → get_or gs k 0 ≡ f.shape.group → body_bytes s (get_or gs k 0) ≡ f.shape.length
body_is s gs k f w g = rw g (sym w.long)

module _ {s : List ℕ} {d k : ℕ} {gs ws : List ℕ} {f : Form} where
  pub filled_none : (a : ℕ) (out : List ℕ) → Filled s d k gs ws f a (max a 0) out out
  filled_none a out r g e = let x : max a 0 ≡ a = omega arith in rw x (grown_none _ (reach_to f a) out)

  pub filled_turn : (a at : ℕ) (out₀ out : List ℕ) {last : List ℕ} (t : Stretch) → Shaped s f.shape → Filled s d k gs ws f a (max a at) out₀ out
      → (Ready s d k gs ws → StretchOf s d k gs ws t) → t.number ≡ at → PutRest s ws f a t out last
      → Filled s d k gs ws f a (max a (at + t.count)) out₀ last
  filled_turn a at out₀ out {last} t w v st n p r g e base q =
      let pc : PieceOf s ws f (group_records s d k gs (fragments_of ws)) t.number t.count (places_of t) = rw (body_is s gs k f w g) at (st r).are in
      let x = p (group_records s d k gs (fragments_of ws)) e pc base in
      rw (← n) (x (rw n (v r g e base q)))

  -- a stretch of the group from a number on can be used
  pub stretch_usable : {at size : ℕ} (t : Stretch) → Shaped s f.shape → ranges_in s (fragments_of ws) ≡ fine → size ≡ size_of (fragments_of ws)
      → get_or gs k 0 ≡ f.shape.group → Due f (group_records s d k gs (fragments_of ws)) → StretchOf s d k gs ws t → t.number ≡ at → 0 < t.count
      → Usable size f at t
  stretch_usable t w r z g e st n c =
      let i : t.first + (t.count - 1) * t.stride + f.shape.length ≤ length (joined s (fragments_of ws)) = rw (body_is s gs k f w g) at (st.inside c) in
      record {
        next = n;
        lying = record { some = c; within = omega (arith, joined_length s (fragments_of ws) r) };
        few = omega (arith, st.few, e.many);
      }

-- ---- a place up to which records were found, and put
pub record Filling (s : List ℕ) (d k : ℕ) (gs ws : List ℕ) (f : Form) (a : ℕ) (scan : Scan) (at : ℕ) (spot : Spot) (out₀ out : List ℕ) : Type 0 where
  pub few : at ≤ f.records
  pub same : length out ≡ length out₀
  pub spot_of : SpotOf s ws spot
  pub scan_of : Ready s d k gs ws → ScanOf s d k gs ws scan × (scan.number ≡ at)
  pub filled : Filled s d k gs ws f a (max a at) out₀ out

pub filling_begin : {s : List ℕ} {d k : ℕ} {gs ws : List ℕ} {f : Form} (a : ℕ) (out : List ℕ) → Readable s ws f.shape
    → Filling s d k gs ws f a start 0 front out out
filling_begin {s} {d} {k} {gs} {ws} {f} a out w =
    record {
      few = omega arith;
      same = refl;
      spot_of = spot_front s ws w.ranges;
      scan_of = λ r. (scan_start r, refl);
      filled = filled_none a out;
    }

module _ {s : List ℕ} {d k : ℕ} {gs ws : List ℕ} {f : Form} {a : ℕ} {scan : Scan} {at : ℕ} {spot : Spot} {out₀ out : List ℕ}
    (v : Filling s d k gs ws f a scan at spot out₀ out) (w : Readable s ws f.shape) {r : Next}
    (n : Ready s d k gs ws → ScanOf s d k gs ws scan → NextOf s d k gs ws scan r) where
  next_of : Ready s d k gs ws → NextOf s d k gs ws scan r
  next_of y = n y (v.scan_of y).0

  -- what was found can't be used: there are no more
  pub filling_stop : {size : ℕ} {b : Bool} → size ≡ size_of (fragments_of ws) → IfUsable size f at r.stretch b → not b ≡ true → at < f.records
      → a ≤ f.records → Filled s d k gs ws f a f.records out₀ out
  filling_stop {size} {b} z u e l h y g q =
      let x = next_of y in
      let m : scan.number < length (group_records s d k gs (fragments_of ws)) = omega (arith, (v.scan_of y).1, q.many) in
      absurd (not_usable b u e (stretch_usable r.stretch w.shaped w.ranges z g q x.stretch (x.from ∙ (v.scan_of y).1) (x.some m)))

  pub filling_turn : {size : ℕ} {p : Spot} {last : List ℕ} {j : ℕ} → Usable size f at r.stretch → SpotOf s ws p → length last ≡ length out
      → PutRest s ws f a r.stretch out last → j ≡ at + r.stretch.count → Filling s d k gs ws f a r.scan j p out₀ last
  filling_turn {size} {p} {last} {j} u o m q e =
      rw e (record {
        few = omega (arith, u.few, u.next);
        same = m ∙ v.same;
        spot_of = o;
        scan_of = λ y. let x = next_of y in (x.scan, omega (arith, x.to, (v.scan_of y).1));
        filled = filled_turn a at out₀ out r.stretch w.shaped v.filled (λ y. (next_of y).stretch) u.next q;
      })

-- all are put
pub filling_end : {s : List ℕ} {d k : ℕ} {gs ws : List ℕ} {f : Form} {a : ℕ} {scan : Scan} {at : ℕ} {spot : Spot} {out₀ out : List ℕ}
    → Filling s d k gs ws f a scan at spot out₀ out → f.records ≤ at → a ≤ f.records → Filled s d k gs ws f a f.records out₀ out
filling_end {s} {d} {k} {gs} {ws} {f} {a} {scan} {at} {spot} {out₀} {out} v h l =
    let x : max a at ≡ f.records = omega (arith, v.few) in
    subst (λ (n : ℕ). Filled s d k gs ws f a n out₀ out) x v.filled

-- ---- by kept stretches
module _ (s : List ℕ) (d g : ℕ) (ws : List ℕ) (f : Form) (p : List ℕ) where
  pub pool_none : (out : List ℕ) → PoolFilled s d g ws f p 0 out out
  pool_none out gs_of ws_of e q = filled_none 0 out

  pub pool_turn : (at : ℕ) (out₀ out : List ℕ) {last : List ℕ} {size : ℕ} (h : Held) → Shaped s f.shape → PoolFilled s d g ws f p at out₀ out
      → HeldIn p d g at h → Usable size f at h.stretch → PutRest s ws f 0 h.stretch out last
      → PoolFilled s d g ws f p (at + h.stretch.count) out₀ last
  pool_turn at out₀ out h w v t u r gs_of ws_of e q =
      let x : max 0 at ≡ at = omega arith in
      let y : max 0 (at + h.stretch.count) ≡ at + h.stretch.count = omega arith in
      rw (← y) (filled_turn 0 at out₀ out h.stretch w (rw x (v gs_of ws_of e q)) (λ z. rw (← e) ((t s gs_of ws_of q).right u.lying.some)) u.next r)

-- ---- the tables of a DG whose data was checked
pub tables_of_lem : (s gs a b : List ℕ) {d k : ℕ} {ws ids sizes : List ℕ} → Ready s d k gs ws → (length gs ≡ 1 → ⊥) → ids ≡ blit 0 (ids_of s gs) a
    → length a ≡ 512 → sizes ≡ blit 0 (sizes_of s gs) b → length b ≡ 512 → Tabled s gs ids sizes
tables_of_lem s gs a b {d} {k} {ws} r n e l f m =
    let h = r.listed in
    let x = checked_frames s d gs ws (omega arith) n r.checked in
    tabled s gs a b (unsorted_several s d gs (fragments_of ws) x.1).distinct e l f m
