-- One entry: where its bytes lie, and the read of its part of the destination.
use Rattle.std.specs.Prelude.{ℕ, suc, ◌+◌, ◌*◌, ◌-◌, ◌/◌, ◌%◌, ◌≤◌, ◌<◌, ◌≡◌, refl, Bool, true, false, leb, eqb, take, drop}
use Rattle.std.proofs.Common.{◌∙◌, mul-zero, div-add-mod', mod-lt, mul-le-mul_right, suc-mul, le-leb, leb-true, leb-false, eq-eqb, drop-drop}
use Rattle.std.proofs.Math.Path.{sym, ap}
use mathlib.Core.List.{List, [], ◌++◌, append_assoc}
use native.Mathlib.Omega.{arith}
use Rattle.std.proofs.lemmas.Bool.{lt-leb}
use borrow.Rule.Slice.PartMut.{put_mid, mid_of}
use Rattle.std.proofs.Math.ListN.{length}
use Rattle.base.specs.Blit.{part, blit}
use Rattle.base.specs.BlitLaws.{blit_is, length_part}
use Rattle.base.specs.Checked.{ok, refused}
use Rattle.std.specs.Prelude.{Result, Ok, Err, ⊤}
use Rattle.fields.specs.declared.refusal.Refusal.{Refusal}
use Prim.{tt}
use Rattle.fields.specs.Answer.{number_of, place_of}
use Rattle.reading.specs.Steps.{refused_as}
use Rattle.mdf.specs.Block.{link_at}
use Rattle.mdf.specs.Records.{joined}
use Rattle.file.specs.Form.{FileColumn, record_bytes}
use Rattle.file.specs.Range.{asked, bytes_of, range_of, Copied, copied, read_into}
use Rattle.file.specs.Plot.{Entry, read_at, laid_over, single}
use Rattle.file_laws.specs.RangeLaws.{read_length}
use Rattle.file_laws.specs.PlotLaws.{single_read, single_served, single_refused, single-past}
use Rattle.ranges.specs.declared.read.Granted.{Granted}
use Rattle.ranges.specs.Blocks.{blocks_of, column_of}
use Rattle.ranges.specs.Read.{asked_as, copied_as, Fills}
use Rattle.ranges.specs.ReadLaws.{read_fills, read_copied}

-- ---- whether the bytes lie in the destination
module _ (n place count w : ℕ) where
  pub lie_past : n < place → false ≡ leb (place + count * w) n
  lie_past h = sym (lt-leb (place + count * w) n (omega arith))

  pub lie_none : place ≤ n → w ≡ 0 → true ≡ leb (place + count * w) n
  lie_none h z = let m : count * w ≡ 0 = ap (λ (k : ℕ). count * k) z ∙ mul-zero count in sym (le-leb (place + count * w) n (omega (arith, m)))

  pub lie_some : place ≤ n → 0 < w → leb count ((n - place) / w) ≡ leb (place + count * w) n
  lie_some h z = go (leb count ((n - place) / w)) refl
    where
      go : (t : Bool) → leb count ((n - place) / w) ≡ t → t ≡ leb (place + count * w) n
      go true q =
          let l : count * w ≤ (n - place) / w * w = mul-le-mul_right w (leb-true _ _ q) in
          let d = div-add-mod' (n - place) w in
          sym (le-leb (place + count * w) n (omega (arith, l, d)))
      go false q =
          let l : suc ((n - place) / w) * w ≤ count * w = mul-le-mul_right w (leb-false _ _ q) in
          let k : suc ((n - place) / w) * w ≡ (n - place) / w * w + w = suc-mul ((n - place) / w) w in
          let d = div-add-mod' (n - place) w in
          let m : (n - place) % w < w = mod-lt (n - place) z in
          sym (lt-leb (place + count * w) n (omega (arith, l, k, d, m)))

-- ---- what a callee that was lent `&mut d[a..a + m]` leaves there, said of the whole
mid_blit : (a m : ℕ) (d b : List ℕ) → a + m ≤ length d → length b ≡ m → put_mid a m d b ≡ blit a b d
mid_blit a m d b h l =
    let k : a + m ≡ a + length b = omega (arith, l) in
    ap (λ (z : List ℕ). take a d ++ (b ++ z)) (drop-drop m a d ∙ ap (λ (j : ℕ). drop j d) k)
    ∙ sym (append_assoc (take a d) b (drop (a + length b) d))
    ∙ sym (blit_is a b d (omega (arith, l, h)))

module _ (s : List ℕ) (e : Entry) (d : List ℕ) (c : FileColumn) (q : asked s e.column e.first e.count ≡ ok c) where
  pub entry_read : (r : Result ⊤ Refusal) (b : List ℕ) (m : ℕ) → m ≡ bytes_of s c e.count → e.place + m ≤ length d
      → copied_as r b ≡ read_into s e.column e.first e.count (mid_of e.place m d) → copied_as r (put_mid e.place m d b) ≡ single s e d
  unfolding part
  entry_read r b m z h v =
      let l : length b ≡ m =
      ap (λ (x : Copied). length x.buffer) v
      ∙ read_length s e.column e.first e.count (part e.place m d)
      ∙ length_part e.place m d h in
      ap (λ (y : List ℕ). copied_as r y) (mid_blit e.place m d b h l)
      ∙ ap (laid_over e.place d) v
      ∙ ap (λ (k : ℕ). laid_over e.place d (read_at s e d k)) z
      ∙ sym (single_read s e d c q (rw (← z) h))

-- ---- the entry, by what is answered for its column
module _ (s : List ℕ) (e : Entry) (d : List ℕ) {g : Result Granted Refusal} (a : asked_as s g ≡ asked s e.column e.first e.count) where
  pub entry_refused : {y : Refusal} → g ≡ Err y → copied d (refused_as y) ≡ single s e d
  entry_refused {y} q = sym (single_refused s e d (number_of y) (place_of y) (sym a ∙ rw q))

  module _ {k : Granted} (q : g ≡ Ok k) {w : ℕ} (f : w ≡ record_bytes s k.cg) {t : Bool} (h : t ≡ leb (e.place + e.count * w) (length d)) where
    column : asked s e.column e.first e.count ≡ ok (column_of s k.dg k.cg k.cn)
    column = sym a ∙ rw q

    bytes_is : e.count * w ≡ bytes_of s (column_of s k.dg k.cg k.cn) e.count
    unfolding bytes_of
    bytes_is = rw f

    pub entry_lies : t ≡ true → e.place + e.count * w ≤ length d
    entry_lies z = leb-true (e.place + e.count * w) (length d) (sym h ∙ z)

    pub entry_past : t ≡ false → copied d (refused 25 0) ≡ single s e d
    entry_past z =
        let l : length d < e.place + e.count * w = leb-false (e.place + e.count * w) (length d) (sym h ∙ z) in
        sym (single-past s e d (column_of s k.dg k.cg k.cn) column (rw (← bytes_is) l))

    -- some bytes, which fill the part
    module _ (z : t ≡ true) where
      abbrev m : ℕ
      m = e.place + e.count * w - e.place

      is_count : m ≡ e.count * w
      is_count = omega arith

      mid_length : length (mid_of e.place m d) ≡ e.count * w
      unfolding part
      mid_length = length_part e.place m d (rw is_count (entry_lies z)) ∙ is_count

      fits : true ≡ eqb (length (mid_of e.place m d)) (e.count * w)
      fits = sym (eq-eqb _ _ mid_length)

      pub entry_fills : w < 8589934591 → e.place < e.place + e.count * w → Fills s k.dg e.first w (length (mid_of e.place m d))
      entry_fills y x =
          read_fills s e.column e.first e.count (mid_of e.place m d) a q f fits refl y (let l = mid_length in omega arith)

      pub entry-filled : {b : List ℕ}
          → b ≡ part (e.first * w) (length (mid_of e.place m d)) (joined s (blocks_of s (link_at s k.dg 2)))
          → copied d (ok (put_mid e.place m d b)) ≡ single s e d
      entry-filled {b} y =
          entry_read s e d (column_of s k.dg k.cg k.cn) column (Ok tt) b m (is_count ∙ bytes_is) (rw is_count (entry_lies z))
          (read_copied s e.column e.first e.count (mid_of e.place m d) a q f fits refl y)

      -- or none
      pub entry-none : e.place + e.count * w ≤ e.place → copied d (ok d) ≡ single s e d
      unfolding range_of part blit
      entry-none y =
          let v : bytes_of s (column_of s k.dg k.cg k.cn) e.count ≡ 0 = sym bytes_is ∙ omega arith in
          let x : range_of s e.first e.count (column_of s k.dg k.cg k.cn) ≡ [] = rw v in
          sym (single_served s e d (column_of s k.dg k.cg k.cn) column (rw (← bytes_is) (entry_lies z)) ∙ rw x)
