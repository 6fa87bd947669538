-- The cell of a record, as it is written.
use Rattle.std.specs.Prelude.{ℕ, ◌+◌, ◌-◌, ◌/◌, ◌%◌, ◌^◌, ◌≤◌, ◌<◌, Bool, true, false, ◌≡◌, take, drop, get_or, set, ltb, eqb}
use mathlib.Core.List.{List, append-nil}
use Rattle.std.proofs.Common.{sym, ap, ◌∙◌, add-zero, arith, take-take, take-add, drop-drop, get_or-drop, get_or-take, ltb-true}
use Rattle.std.proofs.Math.ListN.{length}
use Rattle.base.specs.Blit.{part, blit}
use Rattle.base.specs.BlitLaws.{blit-append, blit-one}
use Rattle.base.specs.Checked.{fine}
use Rattle.mdf.specs.Group.{inval_bytes}
use Rattle.mdf.specs.Records.{ranges_in, joined, size_of}
use Rattle.plan.specs.Channel.{channel_bytes, channel_flags, inval_position, keeps_inval, inval_bit, width, bit, both}
use Rattle.result.specs.Payload.{cell}
use Rattle.puts.specs.PutLaws.{copy_more}
use Rattle.payload_laws.specs.Lists.{length_part}
use Rattle.payload_laws.specs.CellLaws.{both_true}
use Rattle.joined.specs.declared.cursor.Cursor.{Cursor}
use Rattle.joined.specs.Ahead.{ahead, past}
use Rattle.joined.specs.AheadLaws.{drop-take, ranges_past, joined-past, size-past}
use Rattle.cells.specs.declared.cell.Shape.{Shape}
use Rattle.cells.specs.Shape.{Shaped}

-- ---- 1, 2, 4 and 8 bytes copied, one after the other
module _ (i from : ℕ) (s l : List ℕ) where
  pub copy-one : from + 1 ≤ length s → set l i (get_or s from 0) ≡ blit i (part from 1 s) l
  unfolding part blit
  copy-one h = rw (add-zero, add-zero) at (copy_more i from 0 s l (omega arith))

  pub copy-two : from + 2 ≤ length s → set (set l i (get_or s from 0)) (i + 1) (get_or s (from + 1) 0) ≡ blit i (part from 2 s) l
  copy-two h = rw (copy-one (omega arith)) (copy_more i from 1 s l (omega arith))

  pub copy-four : from + 4 ≤ length s
      → set (set (set (set l i (get_or s from 0)) (i + 1) (get_or s (from + 1) 0)) (i + 2) (get_or s (from + 2) 0)) (i + 3) (get_or s (from + 3) 0)
      ≡ blit i (part from 4 s) l
  copy-four h = rw (copy-two (omega arith), copy_more i from 2 s l (omega arith)) (copy_more i from 3 s l (omega arith))

  pub copy_eight : from + 8 ≤ length s
      → set (set (set (set (set (set (set (set l i (get_or s from 0)) (i + 1) (get_or s (from + 1) 0)) (i + 2) (get_or s (from + 2) 0))
      (i + 3) (get_or s (from + 3) 0)) (i + 4) (get_or s (from + 4) 0)) (i + 5) (get_or s (from + 5) 0)) (i + 6) (get_or s (from + 6) 0))
      (i + 7) (get_or s (from + 7) 0)
      ≡ blit i (part from 8 s) l
  copy_eight h =
      rw (copy-four (omega arith), copy_more i from 4 s l (omega arith), copy_more i from 5 s l (omega arith), copy_more i from 6 s l (omega arith))
      (copy_more i from 7 s l (omega arith))

-- a part laid, and the part after it
pub copy_parts : (i from m n k : ℕ) (s d mid last : List ℕ) → m + n ≡ k → from + k ≤ length s → mid ≡ blit i (part from m s) d
    → last ≡ blit (i + m) (part (from + m) n s) mid → last ≡ blit i (part from k s) d
unfolding part
copy_parts i from m n k s d mid last e h p q =
    let l : length (take m (drop from s)) ≡ m = length_part from m s (omega arith) in
    q ∙ rw (← e, take-add m n (drop from s), drop-drop m from s, blit-append, l, ← p)

-- the invalidation byte of a kept bit is one of the group's
pub kept-within : (s : List ℕ) (g c : ℕ) → keeps_inval s g c ≡ true → inval_position s c / 8 < inval_bytes s g
unfolding keeps_inval
kept-within s g c e =
    let within : Bool = ltb (inval_position s c / 8) (inval_bytes s g) in
    let a = both_true (eqb (bit 0 (channel_flags s c)) 0) (both (eqb (bit 1 (channel_flags s c)) 1) within) e in
    let b = both_true (eqb (bit 1 (channel_flags s c)) 1) within a.1 in
    ltb-true (inval_position s c / 8) (inval_bytes s g) b.1

-- ---- the column's width
width-kept : (s : List ℕ) (g c : ℕ) → keeps_inval s g c ≡ true → width s g c ≡ channel_bytes s c + 1
unfolding width
width-kept s g c e = rw e

width_least : (s : List ℕ) (g c : ℕ) → channel_bytes s c ≤ width s g c
unfolding width
width_least s g c = omega arith

module _ {s : List ℕ} {h : Shape} (w : Shaped s h) where
  pub room-bytes : h.bytes ≤ width s h.group h.channel
  room-bytes = let e = w.bytes in omega (arith, width_least s h.group h.channel)

  pub room-kept : h.keep ≡ true → width s h.group h.channel ≡ h.bytes + 1
  room-kept q = let e = w.bytes in omega (arith, width-kept s h.group h.channel (sym w.keep ∙ q))

  -- ---- the cell of a record r
  pub cell-bare : (r : List ℕ) (to : ℕ) (out : List ℕ) {last : List ℕ} → h.keep ≡ false → last ≡ blit to (part h.first h.bytes r) out
      → last ≡ blit to (cell s h.group h.channel r) out
  unfolding cell
  cell-bare r to out q e = rw (← w.keep, q, append-nil, ← w.first, ← w.bytes) e

  pub cell-kept : (r : List ℕ) (to x : ℕ) (out : List ℕ) {mid : List ℕ} → h.keep ≡ true → h.length ≤ length r → mid ≡ blit to
      (part h.first h.bytes r) out
      → x ≡ get_or r h.inval 0 → set mid (to + h.bytes) (x / 2 ^ h.bit % 2) ≡ blit to (cell s h.group h.channel r) out
  unfolding cell inval_bit
  cell-kept r to x out {mid} q l e v =
      let f = w.fit in
      let n : length (part h.first h.bytes r) ≡ h.bytes = length_part h.first h.bytes r (omega arith) in
      rw (← w.keep, q, ← w.first, ← w.bytes, ← w.inval, ← w.bit, blit-append, n, ← e, ← v)
      (sym (blit-one (to + h.bytes) (x / 2 ^ h.bit % 2) mid))

-- ---- parts of a record that lies in the image
pub part_in : (q n i m : ℕ) (s : List ℕ) → i + m ≤ n → part (q + i) m s ≡ part i m (part q n s)
unfolding part
part_in q n i m s h =
    sym (ap (take m) (drop-take i n (drop q s)) ∙ take-take m (n - i) (drop i (drop q s)) (omega arith) ∙ ap (take m) (drop-drop i q s))

pub byte_in : (q n i : ℕ) (s : List ℕ) → i < n → get_or s (q + i) 0 ≡ get_or (part q n s) i 0
unfolding part
byte_in q n i s h = sym (get_or-take n (drop q s) i 0 h ∙ get_or-drop q s i 0)

-- ---- and of one that lies in joined fragments
pub take_in : (n i m : ℕ) (l : List ℕ) → i + m ≤ n → take m (drop i l) ≡ part i m (take n l)
unfolding part
take_in n i m l h = sym (ap (take m) (drop-take i n l) ∙ take-take m (n - i) (drop i l) (omega arith))

-- its bytes, copied from past those before them
pub bytes-joined : {s : List ℕ} {h : Shape} (w : Shaped s h) (ws : List ℕ) (k a : Cursor) (to : ℕ) (out : List ℕ) {last : List ℕ}
    → ranges_in s (ahead ws k) ≡ fine → h.length ≤ size_of (ahead ws k) → to + h.width ≤ length out
    → ahead ws a ≡ past h.first (ahead ws k)
    → (ranges_in s (ahead ws a) ≡ fine → h.bytes ≤ size_of (ahead ws a) → to + h.bytes ≤ length out
    → last ≡ blit to (take h.bytes (joined s (ahead ws a))) out)
    → last ≡ blit to (part h.first h.bytes (take h.length (joined s (ahead ws k)))) out
bytes-joined {s} {h} w ws k a to out r l m e copied =
    let fs = ahead ws k in
    let f = w.fit in
    let n = size-past h.first fs (omega arith) in
    let b = room-bytes w in
    let v = w.wide in
    copied (rw e (ranges_past s h.first fs r)) (rw e (omega arith)) (omega arith)
    ∙ rw (e, joined-past s h.first fs r, take_in h.length h.first h.bytes (joined s fs) w.fit)
