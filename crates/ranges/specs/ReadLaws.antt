-- The laws of the two calls, way by way.
use Prim.Native.Nat.{ℕ, zero, suc, ◌+◌, ◌*◌, ◌-◌, ◌/◌, ◌%◌, ◌≤◌, ◌<◌}
use mathlib.Core.List.{List, [], ◌∷◌}
use Rattle.std.specs.Prelude.{Bool, ◌≡◌, get_or, set, drop, eqb, leb, min}
use Rattle.std.proofs.Math.Bool.{true, false}
use Rattle.std.proofs.Math.Option.{none, some}
use Rattle.std.proofs.Math.Path.{refl, sym, ap}
use Rattle.std.proofs.Common.{subst, leb-true, leb-false, ◌∙◌, add-zero, zero-add, zero-mul, mul-zero, mul-div_cancel, div-add-mod', div-lt_iff_lt-mul, le-div_iff_mul-le, drop_of_length-le, get_or-set_same, get_or-set_other}
use Rattle.std.proofs.Math.Nat.{mul-pos}
use native.Mathlib.Omega.{arith}
use Rattle.std.proofs.Math.ListN.{length, take, length-drop}
use Rattle.std.proofs.Math.Seq.{take-length, take_all}
use Rattle.std.proofs.Math.Dec.{ltb}
use borrow.Author.Tests.{eq-eqb, ne_eqb, eqb-true, eqb-false, ltb-true, ltb-false}
use Rattle.base.specs.Blit.{blit, part}
use Rattle.base.specs.BlitLaws.{length-blit, part-blit, length_part}
use Rattle.base.specs.Choice.{pick, if_lt, if_le}
use Rattle.base.specs.ChoiceLaws.{lt_yes, lt_no, le_yes, le_no, eq_yes, eq_no}
use Rattle.base.specs.Checked.{Checked, ok, refused, fine}
use Rattle.mdf.specs.Block.{size_at, link_at}
use Rattle.mdf.specs.Chain.{Fragment}
use Rattle.mdf.specs.Records.{ranges_in, joined, size_of}
use Rattle.std.specs.Prelude.{Result, Ok, Err, ⊤}
use Rattle.fields.specs.declared.refusal.Refusal.{Refusal}
use Rattle.reading.specs.Steps.{refused_as}
use Rattle.file.specs.Form.{cycles, record_bytes}
use Rattle.file.specs.Opened.{opened}
use Rattle.file.specs.Range.{Place, at, split, within, place_in, located, file_column_at, asked, start_of, bytes_of, range_of, copied, into_buffer, read_into}
use Rattle.file_laws.specs.JoinedLaws.{part_back, ranges_cons, length-joined}
use Rattle.file_laws.specs.RangeLaws.{Asked, asked_back, range_inside, read_fits, read_other}
use Rattle.ranges.specs.declared.read.Granted.{Granted}
use Rattle.ranges.specs.declared.seek.Spot.{Spot}
use Rattle.ranges.specs.Blocks.{block_in, listed_from, links_of, blocks_of, column_of}
use Rattle.ranges.specs.BlocksLaws.{from_next, block_size_lem, block_offset}
use Rattle.ranges.specs.Seek.{FirstIn, nowhere, here, seek_in, spotted}
use Rattle.ranges.specs.Open.{column_at, columns_of, few, lasting, opened_as, Holds, opening}
use Rattle.ranges.specs.Read.{asked_as, Fills}

-- ---- n bytes are so many records
module _ (n count w : ℕ) where
  pub fits-none : w ≡ 0 → eqb n 0 ≡ eqb n (count * w)
  fits-none z = rw (z, mul-zero)

  module _ (z : w ≡ 0 → ⊥) where
    over_zero : 0 < w
    over_zero = omega (arith, z)

    is_count : n ≡ count * w → n / w ≡ count
    is_count e = ap (λ (k : ℕ). k / w) e ∙ mul-div_cancel count over_zero

    pub fits-part : (n % w ≡ 0 → ⊥) → false ≡ eqb n (count * w)
    fits-part h =
        sym (ne_eqb n (count * w) (λ e. h (let a = div-add-mod' n w in let b : n / w * w ≡ count * w = ap (λ (k : ℕ). k * w) (is_count e) in omega arith)))

    pub fits_whole : n % w ≡ 0 → eqb (n / w) count ≡ eqb n (count * w)
    fits_whole h = go (eqb (n / w) count) refl
      where
        go : (t : Bool) → eqb (n / w) count ≡ t → t ≡ eqb n (count * w)
        go true e = sym (eq-eqb n (count * w)
            (let a = div-add-mod' n w in let b : n / w * w ≡ count * w = ap (λ (k : ℕ). k * w) (eqb-true (n / w) count e) in omega arith))
        go false e = sym (ne_eqb n (count * w) (λ q. eqb-false (n / w) count e (is_count q)))

-- ---- the column asked for
column-at : (s w : List ℕ) (n k i : ℕ) → k < n → file_column_at k (columns_of s w n i) ≡ some (column_at s w (i + k))
unfolding file_column_at columns_of
column-at s w zero k i h = absurd (omega arith)
column-at s w (suc n) zero i h = rw (add-zero i)
column-at s w (suc n) (suc k) i h =
    let e : i + 1 + k ≡ i + suc k = omega arith in
    rw (← e) (column-at s w n k (i + 1) (omega arith))

column-none : (s w : List ℕ) (n k i : ℕ) → n ≤ k → file_column_at k (columns_of s w n i) ≡ none
unfolding file_column_at columns_of
column-none s w zero k i h = refl
column-none s w (suc n) zero i h = absurd (omega arith)
column-none s w (suc n) (suc k) i h = column-none s w n k (i + 1) (omega arith)

-- the number of columns is put at the last word
columns-kept : (s w : List ℕ) (v n j : ℕ) → 3 * (j + n) ≤ 4095 → columns_of s (set w 4095 v) n j ≡ columns_of s w n j
unfolding columns_of
columns-kept s w v zero j h = refl
columns-kept s w v (suc n) j h =
    let a : get_or (set w 4095 v) (3 * j) 0 ≡ get_or w (3 * j) 0 = get_or-set_other w 4095 (3 * j) v 0 (λ e. omega arith) in
    let b : get_or (set w 4095 v) (3 * j + 1) 0 ≡ get_or w (3 * j + 1) 0 = get_or-set_other w 4095 (3 * j + 1) v 0 (λ e. omega arith) in
    let c : get_or (set w 4095 v) (3 * j + 2) 0 ≡ get_or w (3 * j + 2) 0 = get_or-set_other w 4095 (3 * j + 2) v 0 (λ e. omega arith) in
    let r : columns_of s (set w 4095 v) n (j + 1) ≡ columns_of s w n (j + 1) = columns-kept s w v n (j + 1) (omega arith) in
    rw (a, b, c, r)

module _ (s w : List ℕ) {o : Result ℕ Refusal} (e : opened_as s w o ≡ opened s) where
  pub kept_refused : {y : Refusal} → o ≡ Err y → refused_as y ≡ opened s
  kept_refused q = rw q at e

  pub kept-columns : {n : ℕ} → lasting o w → few o → o ≡ Ok n → Holds s (set w 4095 n)
  kept-columns {n} g f q =
      let l : length w ≡ 4096 = subst (λ (v : Result ℕ Refusal). lasting v w) q g in
      let m : n ≤ 512 = subst few q f in
      let a : get_or (set w 4095 n) 4095 0 ≡ n = get_or-set_same w 4095 n 0 (omega arith) in
      let c : ok (columns_of s w n 0) ≡ opened s = rw q at e in
      record { most = rw a m; columns = rw (a, columns-kept s w n n 0 (omega arith)) c }

-- the columns stand in the words
pub ask_refused : (s w : List ℕ) (k first count : ℕ) {v : Result ⊤ Refusal} {y : Refusal} → opening s w v → v ≡ Err y → refused_as y ≡ asked s k first count
unfolding asked
ask_refused s w k first count {v} {y} e q = let f : refused_as y ≡ opened s = rw q at e in rw (← f)

pub ask_holds : (s w : List ℕ) {v : Result ⊤ Refusal} → opening s w v → {u : ⊤} → v ≡ Ok u → Holds s w
ask_holds s w e q = rw q at e

module _ (s w : List ℕ) (k first count : ℕ) (e : Holds s w) where
  pub ask-22 : get_or w 4095 0 ≤ k → refused 22 0 ≡ asked s k first count
  unfolding asked
  ask-22 h = rw (← e.columns, column-none s w (get_or w 4095 0) k 0 h)

  module _ (h : k < get_or w 4095 0) {c : ℕ} (f : c ≡ cycles s (get_or w (3 * k + 1) 0)) where
    found-column : file_column_at k (columns_of s w (get_or w 4095 0) 0) ≡ some (column_at s w k)
    found-column = let z : 0 + k ≡ k = zero-add k in column-at s w (get_or w 4095 0) k 0 h ∙ rw z

    pub ask-23 : c < first + count → refused 23 0 ≡ asked s k first count
    unfolding asked
    ask-23 g = rw (← e.columns, found-column) (lt_yes _ _ _ _ (rw f at g) refl)

    pub ask_column : first + count ≤ c → ok (column_at s w k) ≡ asked s k first count
    unfolding asked
    ask_column g = rw (← e.columns, found-column) (lt_no _ _ _ _ (rw f at g) refl)

-- ---- the block that holds the first byte
record Sight (s : List ℕ) (fs : List Fragment) (p : ℕ) (gs : List Fragment) (q : ℕ) : Type 0 where
  ranges : ranges_in s gs ≡ fine
  first : FirstIn gs q
  same : (n : ℕ) → part p n (joined s fs) ≡ part q n (joined s gs)

here-gs : {fs gs : List Fragment} {p q : ℕ} → here fs p ≡ here gs q → fs ≡ gs
here-gs e = cc

here-p : {fs gs : List Fragment} {p q : ℕ} → here fs p ≡ here gs q → p ≡ q
here-p e = cc

nowhere≢here : {A : Type 0} {gs : List Fragment} {q : ℕ} → nowhere ≡ here gs q → A
nowhere≢here e = absurd (let z : ◌≡◌ {A = ℕ} 0 1 = cc in omega arith)

sight : (s : List ℕ) (fs : List Fragment) (p : ℕ) (gs : List Fragment) (q : ℕ) → ranges_in s fs ≡ fine → seek_in fs p ≡ here gs q → Sight s fs p gs q
unfolding seek_in joined if_lt
sight s [] p gs q r e = nowhere≢here e
sight s (f ∷ fs) p gs q r e = go (ltb p f.size) refl e (λ z. sight s fs (p - f.size) gs q b.1 z)
  where
    b : (f.offset + f.size ≤ length s) × (ranges_in s fs ≡ fine)
    b = ranges_cons s f fs r

    size : length (part f.offset f.size s) ≡ f.size
    size = length_part f.offset f.size s b.0

    go : (t : Bool) → ltb p f.size ≡ t → pick t (here (f ∷ fs) p) (seek_in fs (p - f.size)) ≡ here gs q
        → (seek_in fs (p - f.size) ≡ here gs q → Sight s fs (p - f.size) gs q) → Sight s (f ∷ fs) p gs q
    go true t h later =
        let y = ltb-true p f.size t in
        subst (λ (x : ℕ). Sight s (f ∷ fs) p gs x) (here-p h)
        (subst (λ (l : List Fragment). Sight s (f ∷ fs) p l p) (here-gs h) (record { ranges = r; first = omega arith; same = λ n. refl }))
    go false t h later =
        let y = ltb-false p f.size t in
        let z = later h in
        record {
          ranges = z.ranges;
          first = z.first;
          same = λ n. part_back p n (part f.offset f.size s) (joined s fs) (rw size y) ∙ rw size (z.same n);
        }

sees : (fs : List Fragment) (p : ℕ) → p < size_of fs → seek_in fs p ≡ nowhere → ⊥
unfolding seek_in size_of if_lt
sees [] p h e = omega arith
sees (f ∷ fs) p h e = go (ltb p f.size) refl e (λ g z. sees fs (p - f.size) g z)
  where
    go : (t : Bool) → ltb p f.size ≡ t → pick t (here (f ∷ fs) p) (seek_in fs (p - f.size)) ≡ nowhere
        → (p - f.size < size_of fs → seek_in fs (p - f.size) ≡ nowhere → ⊥) → ⊥
    go true t q more = nowhere≢here (sym q)
    go false t q more = let y = ltb-false p f.size t in more (omega arith) q

blit_whole : (xs l : List ℕ) → length xs ≡ length l → blit 0 xs l ≡ xs
unfolding part
blit_whole xs l h =
    let e : length (blit 0 xs l) ≡ length xs = length-blit 0 xs l ∙ sym h in
    sym (take-length (blit 0 xs l)) ∙ rw e (part-blit 0 xs l (omega arith))

module _ (s : List ℕ) (d first w n : ℕ) (f : Fills s d first w n) {a links : ℕ} (p : a ≡ link_at s d 2) (q : links ≡ links_of s a) (r : Spot)
    (e : spotted s a links r ≡ seek_in (listed_from s a links 1) (first * w)) where
  all_is : listed_from s a links 1 ≡ blocks_of s (link_at s d 2)
  all_is = rw (q, p)

  is_here : seek_in (listed_from s a links 1) (first * w) ≡ here (listed_from s a links r.link) r.place
  unfolding spotted if_lt
  is_here = go (ltb r.link links) e
    where
      go : (t : Bool) → pick t (here (listed_from s a links r.link) r.place) nowhere ≡ seek_in (listed_from s a links 1) (first * w)
          → seek_in (listed_from s a links 1) (first * w) ≡ here (listed_from s a links r.link) r.place
      go true y = sym y
      go false y =
          let i = f.inside in
          let b = f.bytes in
          absurd (sees (listed_from s a links 1) (first * w) (rw all_is (omega arith)) (sym y))

  seen : Sight s (listed_from s a links 1) (first * w) (listed_from s a links r.link) r.place
  seen = sight s (listed_from s a links 1) (first * w) (listed_from s a links r.link) r.place (rw all_is f.ranges) is_here

  pub fill_asks : (ranges_in s (listed_from s a links r.link) ≡ fine) × FirstIn (listed_from s a links r.link) r.place
  fill_asks = (seen.ranges, seen.first)

  pub fill_is : (b : List ℕ) {b' : List ℕ} → length b ≡ n → b' ≡ blit 0 (part r.place (length b) (joined s (listed_from s a links r.link))) b
      → b' ≡ part (first * w) (length b) (joined s (blocks_of s (link_at s d 2)))
  fill_is b {b'} h g =
      let x : part r.place (length b) (joined s (listed_from s a links r.link)) ≡ part (first * w) (length b) (joined s (blocks_of s (link_at s d 2)))
      = sym (seen.same (length b)) ∙ ap (λ (fs : List Fragment). part (first * w) (length b) (joined s fs)) all_is in
      let y : length (part (first * w) (length b) (joined s (blocks_of s (link_at s d 2)))) ≡ length b
      = length_part _ _ _ (rw (length-joined s (blocks_of s (link_at s d 2)) f.ranges, h) f.inside) in
      g ∙ rw x (blit_whole _ b y)

-- ---- reading into the buffer
module _ (s : List ℕ) (k first count : ℕ) (b : List ℕ) {r : Result Granted Refusal} (e : asked_as s r ≡ asked s k first count) where
  pub read_refused : {y : Refusal} → r ≡ Err y → copied b (refused_as y) ≡ read_into s k first count b
  unfolding read_into into_buffer
  read_refused q = rw (← e, q)

  module _ {x : Granted} (q : r ≡ Ok x) {w : ℕ} (f : w ≡ record_bytes s x.cg) {t : Bool} (h : t ≡ eqb (length b) (count * w)) where
    column : asked s k first count ≡ ok (column_of s x.dg x.cg x.cn)
    column = sym e ∙ rw q

    known : Asked s k first count (column_of s x.dg x.cg x.cn)
    known = asked_back s k first count (column_of s x.dg x.cg x.cn) column

    bytes_is : bytes_of s (column_of s x.dg x.cg x.cn) count ≡ count * w
    unfolding bytes_of
    bytes_is = rw f

    pub read_short : t ≡ false → copied b (refused 24 0) ≡ read_into s k first count b
    read_short z = sym (read_other s k first count b (column_of s x.dg x.cg x.cn) column (λ y. eqb-false _ _ (sym h ∙ z) (y ∙ bytes_is)))

    module _ (z : t ≡ true) where
      fit : length b ≡ bytes_of s (column_of s x.dg x.cg x.cn) count
      fit = eqb-true _ _ (sym h ∙ z) ∙ sym bytes_is

      pub read_fills : w < 8589934591 → 0 < length b → Fills s x.dg first w (length b)
      unfolding start_of bytes_of
      read_fills y v =
          let i = range_inside s k first count (column_of s x.dg x.cg x.cn) known in
          let j : length b ≡ count * w = eqb-true _ _ (sym h ∙ z) in
          record {
            some = positive w (λ o. let l : count * w ≡ 0 = rw (o, mul-zero) in omega arith);
            small = omega arith;
            ranges = known.column.ranges;
            bytes = v;
            inside = (rw (← f, ← j) at i);
          }
        where
          positive : (m : ℕ) → (m ≡ 0 → ⊥) → 0 < m
          positive zero o = absurd (o refl)
          positive (suc m) o = omega arith

      pub read_copied : {b' : List ℕ} → b' ≡ part (first * w) (length b) (joined s (blocks_of s (link_at s x.dg 2)))
          → copied b (ok b') ≡ read_into s k first count b
      unfolding range_of start_of
      read_copied {b'} y =
          let v : b' ≡ range_of s first count (column_of s x.dg x.cg x.cn) = y ∙ rw (f, fit) in
          rw v (sym (read_fits s k first count b (column_of s x.dg x.cg x.cn) column fit))

      pub read_empty : length b ≤ 0 → copied b (ok b) ≡ read_into s k first count b
      unfolding range_of part
      read_empty y =
          let v : bytes_of s (column_of s x.dg x.cg x.cn) count ≡ 0 = omega (arith, fit) in
          let u : b ≡ range_of s first count (column_of s x.dg x.cg x.cn) = nothing b y ∙ rw v in
          ap (λ (l : List ℕ). copied b (ok l)) u ∙ sym (read_fits s k first count b (column_of s x.dg x.cg x.cn) column fit)
        where
          nothing : (l : List ℕ) → length l ≤ 0 → l ≡ []
          nothing [] o = refl
          nothing (u ∷ l) o = absurd (omega arith)

-- ---- a range inside one block
record InBlock (fs : List Fragment) (p n : ℕ) (f : Fragment) (q : ℕ) : Type 0 where
  is : within fs p n ≡ if_le (q + n) f.size (at (f.offset + q) n) split
  inside : q < f.size

in_block : (fs : List Fragment) (p n : ℕ) (f : Fragment) (gs : List Fragment) (q : ℕ) → seek_in fs p ≡ here (f ∷ gs) q → InBlock fs p n f q
unfolding seek_in within if_lt
in_block [] p n f gs q e = nowhere≢here e
in_block (g ∷ fs) p n f gs q e = go (ltb p g.size) refl e (λ z. in_block fs (p - g.size) n f gs q z)
  where
    head : g ∷ fs ≡ f ∷ gs → g ≡ f
    head z = cc

    go : (t : Bool) → ltb p g.size ≡ t → pick t (here (g ∷ fs) p) (seek_in fs (p - g.size)) ≡ here (f ∷ gs) q
        → (seek_in fs (p - g.size) ≡ here (f ∷ gs) q → InBlock fs (p - g.size) n f q) → InBlock (g ∷ fs) p n f q
    go true t h later =
        subst (λ (x : ℕ). InBlock (g ∷ fs) p n f x) (here-p h)
        (subst (λ (x : Fragment). InBlock (g ∷ fs) p n x p) (head (here-gs h)) (record { is = rw t; inside = ltb-true p g.size t }))
    go false t h later = let z = later h in record { is = rw t z.is; inside = z.inside }

module _ (s : List ℕ) (d first w n : ℕ) (f : Fills s d first w n) {a links : ℕ} (p : a ≡ link_at s d 2) (q : links ≡ links_of s a) (r : Spot)
    (e : spotted s a links r ≡ seek_in (listed_from s a links 1) (first * w)) {x z : ℕ} (y : x ≡ link_at s a r.link) (u : z ≡ size_at s x - 24) where
  spot_in : r.link < links
  unfolding spotted if_lt
  spot_in = go (ltb r.link links) refl e
    where
      go : (t : Bool) → ltb r.link links ≡ t → pick t (here (listed_from s a links r.link) r.place) nowhere ≡ seek_in (listed_from s a links 1) (first * w) → r.link < links
      go true t i = ltb-true r.link links t
      go false t i = absurd (nowhere≢here (i ∙ is_here s d first w n f p q r e))

  spot_is : listed_from s a links r.link ≡ block_in s x ∷ listed_from s a links (r.link + 1)
  spot_is = from_next s a links r.link spot_in ∙ rw y

  block_here : InBlock (listed_from s a links 1) (first * w) n (block_in s x) r.place
  block_here = in_block (listed_from s a links 1) (first * w) n (block_in s x) (listed_from s a links (r.link + 1)) r.place (is_here s d first w n f p q r e ∙ rw spot_is)

  size-here : (block_in s x).size ≡ z
  size-here = block_size_lem s x ∙ sym u

  pub block_place : r.place < z
  block_place = rw (← size-here) block_here.inside

  pub block_inside : x + 24 + z ≤ length s
  block_inside =
      let b = ranges_cons s (block_in s x) (listed_from s a links (r.link + 1)) (rw spot_is at (seen s d first w n f p q r e).ranges) in
      rw (← size-here, ← block_offset s x) b.0

  within_is : within (blocks_of s (link_at s d 2)) (first * w) n ≡ if_le (r.place + n) z (at (x + 24 + r.place) n) split
  within_is = rw (← all_is s d first w n f p q r e, block_here.is, size-here, block_offset s x) refl

  pub block_split : z - r.place < n → ok split ≡ ok (within (blocks_of s (link_at s d 2)) (first * w) n)
  block_split h = ap ok (sym (within_is ∙ sym (le_no _ _ _ _ (let b = block_place in omega arith) refl)))

  pub block_at : n ≤ z - r.place → ok (at (x + 24 + r.place) n) ≡ ok (within (blocks_of s (link_at s d 2)) (first * w) n)
  block_at h = ap ok (sym (within_is ∙ sym (le_yes _ _ _ _ (let b = block_place in omega arith) refl)))

pub too_many : (left w count : ℕ) → 0 < w → left / w < count → left < count * w
too_many left w count h g = (div-lt_iff_lt-mul h).0 g

pub not_many : (left w count : ℕ) → 0 < w → count ≤ left / w → count * w ≤ left
not_many left w count h g = (le-div_iff_mul-le h).0 g

-- ---- where a range lies
module _ (s : List ℕ) (k first count : ℕ) {r : Result Granted Refusal} (e : asked_as s r ≡ asked s k first count) where
  pub locate_refused : {y : Refusal} → r ≡ Err y → refused_as y ≡ located s k first count
  unfolding located
  locate_refused q = rw (← e, q)

  module _ {x : Granted} (q : r ≡ Ok x) {w : ℕ} (f : w ≡ record_bytes s x.cg) where
    pub locate_none : count * w ≡ 0 → ok (at 0 0) ≡ located s k first count
    unfolding located place_in bytes_of
    locate_none z = rw (← e, q) (ap ok (eq_yes _ _ _ _ (rw (← f) z) refl))

    pub locate_fills : w < 8589934591 → (count ≡ 0 → ⊥) → (w ≡ 0 → ⊥) → Fills s x.dg first w (count * w)
    unfolding start_of bytes_of
    locate_fills y u v =
        let a = asked_back s k first count (column_of s x.dg x.cg x.cn) (sym e ∙ rw q) in
        let i = range_inside s k first count (column_of s x.dg x.cg x.cn) a in
        record {
          some = over v;
          small = omega arith;
          ranges = a.column.ranges;
          bytes = mul-pos (over u) (over v);
          inside = (rw (← f) at i);
        }
      where
        over : {m : ℕ} → (m ≡ 0 → ⊥) → 0 < m
        over h = omega (arith, h)

    pub locate_some : {v : Checked Place} → (count ≡ 0 → ⊥) → (w ≡ 0 → ⊥) → v ≡ ok (within (blocks_of s (link_at s x.dg 2)) (first * w) (count * w))
        → v ≡ located s k first count
    unfolding located place_in start_of bytes_of
    locate_some u v h =
        h ∙ rw (← e, q) (ap ok (eq_no _ _ _ _ (λ z. let y = mul-pos (over u) (over v) in omega (arith, (rw (← f) at z), y)) (rw f)))
      where
        over : {m : ℕ} → (m ≡ 0 → ⊥) → 0 < m
        over h = omega (arith, h)

pub none_of : (count w : ℕ) → count ≡ 0 → count * w ≡ 0
none_of count w z = rw (z, zero-mul) refl

pub of_none : (count w : ℕ) → w ≡ 0 → count * w ≡ 0
of_none count w z = rw (z, mul-zero) refl

-- ---- a part of the image, as many bytes as there are
pub part_clipped : (a n from to : ℕ) (s : List ℕ) → from ≡ min a (length s) → to ≡ from + min n (length s - from) → take (to - from) (drop from s) ≡ part a n s
unfolding part
part_clipped a n from to s h g = go (leb a (length s)) refl
  where
    more : (xs : List ℕ) (m : ℕ) → m ≡ min n (length xs) → take m xs ≡ take n xs
    more xs m q = within (leb n (length xs)) refl
      where
        within : (t : Bool) → leb n (length xs) ≡ t → take m xs ≡ take n xs
        within true e = let l = leb-true n (length xs) e in let k : m ≡ n = omega arith in rw k
        within false e = let l = leb-false n (length xs) e in take_all m xs (omega arith) ∙ sym (take_all n xs (omega arith))

    go : (t : Bool) → leb a (length s) ≡ t → take (to - from) (drop from s) ≡ take n (drop a s)
    go true e =
        let l = leb-true a (length s) e in
        let k : from ≡ a = omega arith in
        let m : to - from ≡ min n (length (drop a s)) = rw length-drop (omega arith) in
        ap (λ (j : ℕ). take (to - from) (drop j s)) k ∙ more (drop a s) (to - from) m
    go false e =
        let l = leb-false a (length s) e in
        let k : length s ≤ from = omega arith in
        let z : drop a s ≡ [] = drop_of_length-le s {i = a} (omega arith) in
        let y : drop from s ≡ [] = drop_of_length-le s {i = from} k in
        rw (z, y) (take_all (to - from) [] (omega arith) ∙ sym (take_all n [] (omega arith)))
