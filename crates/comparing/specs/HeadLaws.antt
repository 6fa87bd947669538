-- Laws of the records of a group, one after the other.
use Rattle.std.specs.Prelude.{ℕ, zero, suc, ◌+◌, ◌-◌, ◌*◌, ◌/◌, ◌≤◌, ◌<◌, List, [], ◌∷◌, ◌++◌, ◌≡◌, refl, length, drop, get_or}
use Rattle.std.proofs.Math.Logic.{⊎_elim}
use Rattle.std.proofs.Common.{sym, ap, ◌∙◌, add-mul, mul_comm, mul-le-mul_right, arith, take-append-drop, take-take, take_at, drop_at, drop-drop}
use Rattle.std.proofs.Math.ListN.{take}
use Rattle.base.specs.Blit.{blit}
use Rattle.base.specs.Checked.{fine}
use Rattle.mdf.specs.Records.{most64, ranges_in, joined, size_of}
use Rattle.work_words.specs.Words.{fragments_of}
use Rattle.plan.specs.Data.{records_in}
use Rattle.payload_laws.specs.FramedLaws.{unsorted_several}
use Rattle.payload_laws.specs.SortedLaws.{joined_length, sorted_ranges}
use Rattle.records.specs.Table.{ids_of, sizes_of}
use Rattle.records.specs.TableLaws.{tabled}
use Rattle.places.specs.declared.stretch.Next.{Next}
use Rattle.places.specs.declared.stretch.Scan.{Scan}
use Rattle.places.specs.Stretch.{body_bytes, spaced, records_at, Ready}
use Rattle.places.specs.StretchLaws.{length-spaced, spaced-add, records_at-append, length-records_at, stretch_none}
use Rattle.places.specs.Scan.{NextOf, NextFor}
use Rattle.places.specs.ScanLaws.{scan_start, checked_frames}
use Rattle.joined.specs.declared.spot.Spot.{Spot}
use Rattle.joined.specs.AheadLaws.{drop-take, zero_or_more}
use Rattle.joined.specs.Spot.{SpotOf}
use Rattle.joined.specs.SpotLaws.{spot_front}
use Rattle.cells.specs.SpotLaws.{product_below, product_over}
use Rattle.comparing.specs.declared.head.Head.{Head}
use Rattle.comparing.specs.declared.times.Clock.{Clock}
use Rattle.comparing.specs.Comparable.{clock_records}
use Rattle.comparing.specs.Head.{head_front, TablesOf, HeadOf, HeadHere, HeadPast}

-- ---- checked data lies in the image, and its size is that of its bytes
ranges_of_lem : (s : List ℕ) (d : ℕ) (gs : List ℕ) (ws : List ℕ) → 0 < length gs → records_in s d gs (fragments_of ws) ≡ fine
    → ranges_in s (fragments_of ws) ≡ fine
ranges_of_lem s d [] ws h e = absurd (omega arith)
ranges_of_lem s d (g ∷ []) ws h e = sorted_ranges s d g (fragments_of ws) e
ranges_of_lem s d (g ∷ f ∷ gs) ws h e =
    (unsorted_several s d (g ∷ f ∷ gs) (fragments_of ws) (checked_frames s d (g ∷ f ∷ gs) ws h (λ n. omega arith) e).1).ranges

module _ {s : List ℕ} {d k : ℕ} {gs ws : List ℕ} (y : Ready s d k gs ws) where
  pub ready_ranges : ranges_in s (fragments_of ws) ≡ fine
  ready_ranges = let h = y.listed in ranges_of_lem s d gs ws (omega arith) y.checked

  pub ready_length : length (joined s (fragments_of ws)) ≡ size_of (fragments_of ws)
  ready_length = joined_length s (fragments_of ws) ready_ranges

  -- the tables of its groups
  pub ready_tables : (a b : List ℕ) {ids sizes : List ℕ} → ids ≡ blit 0 (ids_of s gs) a → length a ≡ 512 → sizes ≡ blit 0 (sizes_of s gs) b
      → length b ≡ 512 → TablesOf s gs ids sizes
  ready_tables a b e l f m n =
      let h = y.listed in
      let x = checked_frames s d gs ws (omega arith) n y.checked in
      tabled s gs a b (unsorted_several s d gs (fragments_of ws) x.1).distinct e l f m

-- ---- the next records, of a group alone
pub next-alone : (s : List ℕ) (d k : ℕ) (gs ws : List ℕ) (scan : Scan) (r : Next) → length gs ≡ 1 → NextFor s d 0 (get_or gs 0 0 ∷ []) ws scan r
    → NextFor s d k gs ws scan r
next-alone s d k [] ws scan r n f = absurd (omega arith)
next-alone s d k (g ∷ h ∷ gs) ws scan r n f = absurd (omega arith)
next-alone s d zero (g ∷ []) ws scan r n f = f
next-alone s d (suc k) (g ∷ []) ws scan r n f = λ y. let l = y.listed in absurd (omega arith)

-- ---- before all records
pub head_begin_lem : {s : List ℕ} {c : Clock} {gs ws : List ℕ} → Ready s c.dg c.number gs ws → HeadOf s c gs ws 0 head_front
head_begin_lem {s} {c} {gs} {ws} y =
    record { stretch = stretch_none 0 0 0 (omega arith); scan = scan_start y; to = refl; spot = spot_front s ws (ready_ranges y) }

-- a place in the data was reached
abbrev Reaches : List ℕ → List ℕ → Spot → ℕ → Spot → Type 0
Reaches s ws k offset p = SpotOf s ws k → ranges_in s (fragments_of ws) ≡ fine → offset < size_of (fragments_of ws) → SpotOf s ws p × (p.offset ≡ offset)

-- ---- m distances fit, or they don't
pub strides_fit : (stride room m : ℕ) → stride ≤ room / m → m * stride ≤ room
strides_fit stride room m h = omega (arith, product_below stride m room h, mul_comm m stride)

pub strides_over : (stride room m : ℕ) → 0 < m → room / m < stride → m * stride ≤ room → ⊥
strides_over stride room m z h l = product_over stride m room z h (rw (mul_comm stride m) l)

-- ---- records at places, then others
module _ (l : List ℕ) (b m n : ℕ) (ps qs : List ℕ) (xs : List (List ℕ)) (k : length ps ≡ m) (e : take (m + n) xs ≡ records_at l b (ps ++ qs)) where
  size : length (records_at l b ps) ≡ m
  size = length-records_at l b ps ∙ k

  front_records : take m xs ≡ records_at l b ps
  front_records = sym (take-take m (m + n) xs (omega arith)) ∙ ap (take m) (e ∙ records_at-append l b ps qs) ∙ take_at (records_at l b ps) _ m size

  back_records : take n (drop m xs) ≡ records_at l b qs
  back_records =
      let z : m + n - m ≡ n = omega arith in
      let y : take (m + n - m) (drop m xs) ≡ records_at l b qs =
      sym (drop-take m (m + n) xs) ∙ ap (drop m) (e ∙ records_at-append l b ps qs) ∙ drop_at (records_at l b ps) _ m size in
      rw z at y

-- ---- the records at a head
module _ {s : List ℕ} {c : Clock} {gs ws : List ℕ} {at : ℕ} {h : Head} (y : Ready s c.dg c.number gs ws) (o : HeadOf s c gs ws at h)
    (z : 0 < h.count) where
  abbrev body : ℕ
  body = body_bytes s (get_or gs c.number 0)

  abbrev all : List (List ℕ)
  all = clock_records s c gs ws

  abbrev bytes : List ℕ
  bytes = joined s (fragments_of ws)

  -- the first lies in the data
  pub head_inside : h.first + body ≤ size_of (fragments_of ws)
  head_inside = let i = o.stretch.inside z in let n = ready_length y in omega arith

  head_before : h.first < size_of (fragments_of ws)
  head_before = let i = head_inside in let n = y.some in omega arith

  -- and the place in the data can be there
  pub head-here : {p : Spot} → Reaches s ws h.spot h.first p
      → HeadHere s c gs ws at (record { first = h.first; stride = h.stride; count = h.count; scan = h.scan; spot = p })
  head-here f =
      let e = f o.spot (ready_ranges y) head_before in
      record { of = record { stretch = o.stretch; scan = o.scan; to = o.to; spot = e.0 }; some = z; here = e.1 }

  -- m of the records
  module _ (m : ℕ) (k : m ≤ h.count) where
    abbrev some : List ℕ
    some = spaced h.first h.stride m

    abbrev others : List ℕ
    others = spaced (h.first + m * h.stride) h.stride (h.count - m)

    are : take (m + (h.count - m)) (drop at all) ≡ records_at bytes body (some ++ others)
    are =
        let e : m + (h.count - m) ≡ h.count = omega arith in
        let f : spaced h.first h.stride h.count ≡ some ++ others
        = ap (spaced h.first h.stride) (sym e) ∙ spaced-add h.first h.stride m (h.count - m) in
        ap (λ (n : ℕ). take n (drop at all)) e ∙ o.stretch.are ∙ ap (records_at bytes body) f

    pub head_records : drop at all ≡ records_at bytes body some ++ drop (at + m) all
    head_records =
        let e : take m (drop at all) ≡ records_at bytes body some
        = front_records bytes body m (h.count - m) some others (drop at all) (length-spaced h.first h.stride m) are in
        sym (take-append-drop m (drop at all)) ∙ rw (e, drop-drop m at all)

    pub head_lying : 0 < m → h.first + (m - 1) * h.stride + body ≤ length bytes
    head_lying n =
        let i = o.stretch.inside z in
        let e : (m - 1) * h.stride ≤ (h.count - 1) * h.stride = mul-le-mul_right h.stride (omega arith) in
        omega arith

    -- those past them
    next_inside : m < h.count → h.first + m * h.stride + (h.count - m - 1) * h.stride + body ≤ length bytes
    next_inside n =
        let i = o.stretch.inside z in
        let e : h.count - 1 ≡ m + (h.count - m - 1) = omega arith in
        let f : (h.count - 1) * h.stride ≡ m * h.stride + (h.count - m - 1) * h.stride
        = ap (λ (x : ℕ). x * h.stride) e ∙ add-mul m (h.count - m - 1) h.stride in
        omega arith

    next_small : m < h.count → h.first + m * h.stride ≤ most64
    next_small n = let i = next_inside n in let e = ready_length y in let f = y.small in omega arith

    pub head-past : {r : Head} → 0 < m → HeadPast h m r → HeadOf s c gs ws (at + m) r
    unfolding records_at spaced
    head-past {r} n p =
        let x : take (h.count - m) (drop (at + m) all) ≡ records_at bytes body others
        = rw (drop-drop m at all) at (back_records bytes body m (h.count - m) some others (drop at all) (length-spaced h.first h.stride m) are) in
        let f = p.count n next_small in
        let w = o.stretch.few in
        let t = o.to in
        record {
          stretch = record {
            few = omega arith;
            are = ⊎_elim (λ q. rw q) (λ q. rw (f, p.first q, p.stride q) x) (zero_or_more r.count);
            inside = λ q. rw (f, p.first q, p.stride q) (next_inside (omega arith));
          };
          scan = rw p.scan o.scan;
          to = rw p.scan (omega arith);
          spot = rw p.spot o.spot;
        }

-- ---- the next records
pub head-next : {s : List ℕ} {c : Clock} {gs ws : List ℕ} {at : ℕ} {h : Head} {r : Next} → HeadOf s c gs ws at h → h.count ≡ 0
    → NextOf s c.dg c.number gs ws h.scan r
    → HeadOf s c gs ws at (record { first = r.stretch.first; stride = r.stretch.stride; count = r.stretch.count; scan = r.scan; spot = h.spot })
head-next {s} {c} {gs} {ws} {at} {h} {r} o z x =
    let t = o.to in
    let m = x.from in
    let e : r.stretch.number ≡ at = omega arith in
    let w = x.stretch.few in
    let n = x.to in
    record {
      stretch = record { few = omega arith; are = rw e at x.stretch.are; inside = x.stretch.inside };
      scan = x.scan;
      to = omega arith;
      spot = o.spot;
    }
