-- Laws of keeping the offsets of all groups of a DG.
use Rattle.std.specs.Prelude.{ℕ, ◌+◌, ◌-◌, ◌≤◌, ◌<◌, List, false, ◌≡◌, length, get_or, set}
use Rattle.std.proofs.Common.{sym, ◌∙◌, arith, length-set, get_or-set_same, get_or-set_other}
use Rattle.base.specs.Checked.{fine}
use Rattle.plan.specs.Data.{records_in}
use Rattle.mdf.specs.Walk.{id_size}
use Rattle.mdf.specs.Records.{equal_ids}
use Rattle.work_words.specs.Words.{fragments_of}
use Rattle.records.specs.Table.{Tabled}
use Rattle.places.specs.StretchLaws.{number_apart}
use Rattle.places.specs.FacingLaws.{whole_checked}
use Rattle.offsets.specs.Offsets.{entries_in, used_in, Entry, OffsetsOf, KeepsOffsets}
use Rattle.offsets.specs.OffsetsLaws.{offsets_same, entry-same, Grows, Adds, kept_more}
use Rattle.offsets.specs.NotedLaws.{several_of}
use Rattle.offsets.specs.Parts.{Parts, Passes, Frames, PutsEntries}

-- ---- all records are noted
apart_of : (s : List ℕ) (d : ℕ) (gs ws : List ℕ) → 1 < length gs → records_in s d gs (fragments_of ws) ≡ fine → equal_ids s gs ≡ false
apart_of s d gs ws h v = (whole_checked s d gs ws (several_of gs h) (omega arith) v).apart

pub frames-all : (s : List ℕ) (d : ℕ) (gs ws : List ℕ) {n begin : ℕ} {ids sizes p bs counts q : List ℕ} → 1 < length gs → n ≡ id_size s d
    → (equal_ids s gs ≡ false → Tabled s gs ids sizes) → Parts sizes bs begin (length p) 512 → Passes s n gs ws ids sizes bs p counts q
    → Frames s d gs ws begin p bs counts q
frames-all s d gs ws h i tb t f = record {
  first = t.first;
  ordered = t.ordered;
  same = rw t.first at f.same;
  fits = f.fits;
  noted = λ v. f.noted d v i h (tb (apart_of s d gs ws h v)) t.plain;
}

-- ---- and kept
pub fills_none : (s : List ℕ) (d : ℕ) (gs ws : List ℕ) {p q : List ℕ} → q ≡ p → KeepsOffsets s d gs ws p q
fills_none s d gs ws e gs_of ws_of a b v w = rw e w

-- entries are put and counted
module _ (s : List ℕ) (d : ℕ) (gs ws : List ℕ) {begin : ℕ} {p bs counts q r v : List ℕ} (f : Frames s d gs ws begin p bs counts q)
    (t : PutsEntries q r (entries_in p) d gs bs counts (length gs)) (is : v ≡ set (set r 1 (get_or bs 512 0)) 0 (entries_in p + length gs))
    (few : entries_in p + length gs ≤ 512) (long : 2 ≤ length r) (past : 2056 ≤ begin) (free : used_in p ≤ begin) where
  entries_now : entries_in v ≡ entries_in p + length gs
  entries_now = rw is (get_or-set_same (set r 1 (get_or bs 512 0)) 0 (entries_in p + length gs) 0 (rw length-set (omega arith)))

  used_now : used_in v ≡ get_or bs 512 0
  used_now =
      rw is (get_or-set_other (set r 1 (get_or bs 512 0)) 0 1 (entries_in p + length gs) 0 (λ e. omega arith)
      ∙ get_or-set_same r 1 (get_or bs 512 0) 0 (omega arith))

  others_now : (i : ℕ) → 8 ≤ i → get_or v i 0 ≡ get_or r i 0
  others_now i h =
      rw is (get_or-set_other (set r 1 (get_or bs 512 0)) 0 i (entries_in p + length gs) 0 (λ e. omega arith)
      ∙ get_or-set_other r 1 i (get_or bs 512 0) 0 (λ e. omega arith))

  -- offsets stand past the entries
  noted_now : (i : ℕ) → 2056 ≤ i → get_or v i 0 ≡ get_or q i 0
  noted_now i h = others_now i (omega arith) ∙ t.after i (omega arith)

  grows : Grows p v
  grows =
      let x = f.ordered.order 0 512 (omega arith) (omega arith) in
      let y = f.first in
      let z = used_now in
      record {
        used = omega arith;
        entry = λ i h l. others_now i h ∙ t.before i l ∙ f.same i (omega arith);
        offset = λ i h l. noted_now i h ∙ f.same i (omega arith);
      }

  -- an entry of group j
  at-group : (j : ℕ) → j < length gs → Entry v (entries_in p + j) d (get_or gs j 0) (get_or bs j 0) (get_or counts j 0)
  at-group j h = entry-same (λ k l m. others_now k (omega arith)) (t.put j h)

  group_inside : (j : ℕ) → j < length gs → (2056 ≤ get_or bs j 0) × (get_or bs j 0 + get_or counts j 0 ≤ used_in v)
  group_inside j h =
      let x = f.ordered.order 0 j (omega arith) (omega arith) in
      let y = f.ordered.order (j + 1) 512 (omega arith) (omega arith) in
      let z = f.fits j (omega arith) in
      let e = f.first in
      let u = used_now in
      (omega arith, omega arith)

  module _ (gs_of ws_of : ℕ → List ℕ) (a : gs_of d ≡ gs) (b : ws_of d ≡ ws) (c : records_in s d gs (fragments_of ws) ≡ fine) (h : 1 < length gs) where
    group_right : (j : ℕ) → j < length gs → OffsetsOf s gs_of ws_of d (get_or gs j 0) v (get_or bs j 0) (get_or counts j 0)
    group_right j l =
        let e = number_apart s gs j (apart_of s d gs ws h c) l in
        let i = group_inside j l in
        rw (a, b, e) (offsets_same (λ k m. noted_now (get_or bs j 0 + k) (omega arith)) (f.noted c j l (omega arith)))

    -- an entry past those of p is that of a group
    module _ (i d' g x n : ℕ) (l : entries_in p ≤ i) (m : i < entries_in v) (e : Entry v i d' g x n) where
      low : i - entries_in p < length gs
      low = let z = entries_now in omega arith

      own : Entry v i d (get_or gs (i - entries_in p) 0) (get_or bs (i - entries_in p) 0) (get_or counts (i - entries_in p) 0)
      own = let z : entries_in p + (i - entries_in p) ≡ i = omega arith in rw z at (at-group (i - entries_in p) low)

      entry_right : OffsetsOf s gs_of ws_of d' g v x n
      entry_right =
          let e1 = sym e.parent ∙ own.parent in
          let e2 = sym e.group ∙ own.group in
          let e3 = sym e.first ∙ own.first in
          let e4 = sym e.count ∙ own.count in
          rw (e1, e2, e3, e4) (group_right (i - entries_in p) low)

      entry_inside : (2056 ≤ x) × (x + n ≤ used_in v)
      entry_inside =
          let e3 = sym e.first ∙ own.first in
          let e4 = sym e.count ∙ own.count in
          rw (e3, e4) (group_inside (i - entries_in p) low)

    adds : Adds s gs_of ws_of p v
    adds = record { right = entry_right; inside = entry_inside }

  pub fills_all : 1 < length gs → KeepsOffsets s d gs ws p v
  fills_all h gs_of ws_of a b c w = kept_more w grows (adds gs_of ws_of a b c h)
