-- Laws of equal cells: bytes from two cursors on, and the cells of two records.
use Rattle.std.specs.Prelude.{ℕ, ◌+◌, ◌-◌, ◌/◌, ◌%◌, ◌^◌, ◌≤◌, ◌<◌, List, [], ◌∷◌, ◌++◌, Bool, true, false, not, ◌≡◌, refl, eqb, length, take, drop, get_or}
use Rattle.std.proofs.Math.Path.{sym}
use Rattle.std.proofs.Common.{ap, ◌∙◌, arith, take-add, length-take-le, get_or-take, eqb-true}
use Rattle.std.proofs.lemmas.Bool.{eqb-false}
use Rattle.base.specs.Choice.{pick}
use Rattle.base.specs.Blit.{part}
use Rattle.base.specs.Checked.{fine}
use Rattle.mdf.specs.Chain.{Fragment}
use Rattle.mdf.specs.Records.{ranges_in, joined, size_of}
use Rattle.plan.specs.Channel.{both, inval_bit}
use Rattle.result.specs.Payload.{cell}
use Rattle.result.specs.Sharing.{same}
use Rattle.result.specs.SharingLaws.{same_self, same_first, other-first, same_parts}
use Rattle.payload_laws.specs.Lists.{length_part}
use Rattle.payload_laws.specs.SortedLaws.{joined_length}
use Rattle.places.specs.FacingLaws.{not-true, not-false}
use Rattle.joined.specs.declared.cursor.Cursor.{Cursor}
use Rattle.joined.specs.Ahead.{ahead, past, Settled}
use Rattle.joined.specs.AheadLaws.{ranges_here, ranges_past, ranges_settled, joined-past, joined-settled, size-past, take-here}
use Rattle.cells.specs.declared.cell.Shape.{Shape}
use Rattle.cells.specs.CellLaws.{part_in, take_in}
use Rattle.cells.specs.Shape.{Shaped}
use Rattle.comparing.specs.Same.{Has, bytes_at}

-- ---- the first fragment with bytes from a cursor on
pub record Stepped (s ws : List ℕ) (j p : Cursor) (n : ℕ) : Type 0 where
  pub some : 0 < p.left
  pub small : p.position + p.left ≤ length s
  pub has : Has s ws p n
  pub bytes : joined s (ahead ws p) ≡ joined s (ahead ws j)

pub stepped : {s ws : List ℕ} {j p : Cursor} {n : ℕ} → Has s ws j n → 0 < n → (0 < size_of (ahead ws j) → Settled ws j p) → Stepped s ws j p n
stepped {s} {ws} {j} {p} {n} h z f =
    let e = h.enough in
    let t = f (omega arith) in
    let fs : List Fragment = ahead ws j in
    let r : ranges_in s (ahead ws p) ≡ fine = rw t.is (ranges_settled s fs h.ranges) in
    let b : joined s (ahead ws p) ≡ joined s fs = ap (joined s) t.is ∙ joined-settled s fs in
    let a = joined_length s (ahead ws p) r in
    let c = joined_length s fs h.ranges in
    let l = ap length b in
    record {
      some = t.some;
      small = ranges_here s ws p r;
      has = record { ranges = r; enough = omega arith };
      bytes = b;
    }

-- m of its bytes, and those past them
module _ {s ws : List ℕ} {j p : Cursor} {n : ℕ} (t : Stepped s ws j p n) (m : ℕ) (l : m ≤ n) where
  in_two : m ≤ p.left → bytes_at s ws j n ≡ part p.position m s ++ take (n - m) (drop m (joined s (ahead ws p)))
  in_two k =
      let a : n ≡ m + (n - m) = omega arith in
      rw (← t.bytes, ← take-here s ws p m t.has.ranges k)
      (ap (λ (i : ℕ). take i (joined s (ahead ws p))) a ∙ take-add m (n - m) (joined s (ahead ws p)))

  module _ (c : Cursor) (e : ahead ws c ≡ past m (ahead ws p)) where
    further : Has s ws c (n - m)
    further =
        let h = t.has.enough in
        let z = size-past m (ahead ws p) (omega arith) in
        record { ranges = rw e (ranges_past s m (ahead ws p) t.has.ranges); enough = rw e (omega arith) }

    further_is : joined s (ahead ws c) ≡ drop m (joined s (ahead ws p))
    further_is = ap (joined s) e ∙ joined-past s m (ahead ws p) t.has.ranges

-- ---- bytes left from two cursors on: whether they are equal is g
pub record Matching (s ws vs : List ℕ) (j k : Cursor) (left : ℕ) (g : Bool) : Type 0 where
  pub one : Has s ws j left
  pub two : Has s vs k left
  pub is : same (bytes_at s ws j left) (bytes_at s vs k left) ≡ g

pub matching_end : {s ws vs : List ℕ} {j k : Cursor} {left : ℕ} {g : Bool} → Matching s ws vs j k left g → left ≡ 0 → true ≡ g
unfolding same
matching_end t e = rw e at t.is

-- the next m of them were compared
module _ {s ws vs : List ℕ} {j k : Cursor} {left : ℕ} {g : Bool} (t : Matching s ws vs j k left g) {p q : Cursor} (a : Stepped s ws j p left)
    (b : Stepped s vs k q left) (m : ℕ) (l : m ≤ left) (u : m ≤ p.left) (v : m ≤ q.left) {r : Bool}
    (w : p.position + m ≤ length s → q.position + m ≤ length s → r ≡ same (part p.position m s) (part q.position m s)) where
  matched : both r (same (take (left - m) (drop m (joined s (ahead ws p)))) (take (left - m) (drop m (joined s (ahead vs q))))) ≡ g
  matched =
      let h = a.small in
      let i = b.small in
      let x : p.position + m ≤ length s = omega arith in
      let y : q.position + m ≤ length s = omega arith in
      rw (w x y) (sym (same_parts _ _ _ _ (length_part p.position m s x ∙ sym (length_part q.position m s y))))
      ∙ rw (in_two a m l u, in_two b m l v) at t.is

  pub matching_turn : not r ≡ false → (c d : Cursor) → ahead ws c ≡ past m (ahead ws p) → ahead vs d ≡ past m (ahead vs q)
      → Matching s ws vs c d (left - m) g
  matching_turn e c d x y = record {
    one = further a m l c x;
    two = further b m l d y;
    is = rw (further_is a m l c x, further_is b m l d y) (rw (not-false r e) at matched);
  }

  pub matching_other : not r ≡ true → false ≡ g
  matching_other e = rw (not-true r e) at matched

-- ---- the bytes of a channel in a record that begins at a cursor
cut : (s ws : List ℕ) (a p : Cursor) (i m n : ℕ) → ranges_in s (ahead ws a) ≡ fine → ahead ws p ≡ past i (ahead ws a) → i + m ≤ n
    → bytes_at s ws p m ≡ part i m (bytes_at s ws a n)
cut s ws a p i m n r e h = rw (e, joined-past s i (ahead ws a) r, take_in n i m (joined s (ahead ws a)) h)

skipped : {s ws : List ℕ} {a p : Cursor} (i m : ℕ) {n : ℕ} → Has s ws a n → i + m ≤ n → ahead ws p ≡ past i (ahead ws a) → Has s ws p m
skipped {s} {ws} {a} i m h l e =
    let k = h.enough in
    let z = size-past i (ahead ws a) (omega arith) in
    record { ranges = rw e (ranges_past s i (ahead ws a) h.ranges); enough = rw e (omega arith) }

-- ---- the cells of two records
same-one : (x y : ℕ) → same (x ∷ []) (y ∷ []) ≡ eqb x y
same-one x y = go (eqb x y) refl
  where
    go : (b : Bool) → eqb x y ≡ b → same (x ∷ []) (y ∷ []) ≡ eqb x y
    go true q = sym (same_first x y [] [] (eqb-true x y q) (q ∙ sym (same_self [])))
    go false q = sym (q ∙ other-first x y [] [] (eqb-false x y q))

-- the kept bit
abbrev bit_of : Shape → List ℕ → List ℕ
bit_of h r = pick h.keep (get_or r h.inval 0 / 2 ^ h.bit % 2 ∷ []) []

cell_is : {s : List ℕ} {h : Shape} → Shaped s h → (r : List ℕ) → cell s h.group h.channel r ≡ part h.first h.bytes r ++ bit_of h r
unfolding cell inval_bit
cell_is w r = rw (← w.first, ← w.bytes, ← w.keep, ← w.inval, ← w.bit)

-- two records u and v: the bytes of their channels were compared
pub record Compares (s u v : List ℕ) (h i : Shape) (e : Bool) : Type 0 where
  pub one : Shaped s h
  pub two : Shaped s i
  pub bytes : h.bytes ≡ i.bytes
  pub keep : h.keep ≡ i.keep
  pub long : h.length ≤ length u
  pub longer : i.length ≤ length v
  pub is : e ≡ same (part h.first h.bytes u) (part i.first i.bytes v)

long_enough : {s ws : List ℕ} {a : Cursor} {n : ℕ} → Has s ws a n → n ≤ length (bytes_at s ws a n)
long_enough {s} {ws} {a} {n} h =
    let m = h.enough in
    let e = joined_length s (ahead ws a) h.ranges in
    let l = length-take-le n (joined s (ahead ws a)) (omega arith) in
    omega arith

-- that begin at cursors
pub compares : {s ws vs : List ℕ} {a b p q : Cursor} {h i : Shape} {e : Bool} → Shaped s h → Shaped s i → h.bytes ≡ i.bytes → h.keep ≡ i.keep
    → Has s ws a h.length → Has s vs b i.length → ahead ws p ≡ past h.first (ahead ws a) → ahead vs q ≡ past i.first (ahead vs b)
    → (Has s ws p h.bytes → Has s vs q h.bytes → e ≡ same (bytes_at s ws p h.bytes) (bytes_at s vs q h.bytes))
    → Compares s (bytes_at s ws a h.length) (bytes_at s vs b i.length) h i e
compares {s} {ws} {vs} {a} {b} {p} {q} {h} {i} {e} w v n k m o x y f =
    let u = w.fit in
    let z : i.first + h.bytes ≤ i.length = omega (arith, v.fit) in
    let r = f (skipped h.first h.bytes m u x) (skipped i.first h.bytes o z y) in
    record {
      one = w;
      two = v;
      bytes = n;
      keep = k;
      long = long_enough m;
      longer = long_enough o;
      is = rw (← n, ← cut s ws a p h.first h.bytes h.length m.ranges x u, ← cut s vs b q i.first h.bytes i.length o.ranges y z) r;
    }

-- that lie in the image
pub compares_here : {s : List ℕ} (p q : ℕ) {h i : Shape} {e : Bool} → Shaped s h → Shaped s i → h.bytes ≡ i.bytes → h.keep ≡ i.keep
    → p + h.length ≤ length s → q + i.length ≤ length s
    → (p + h.first + h.bytes ≤ length s → q + i.first + h.bytes ≤ length s
    → e ≡ same (part (p + h.first) h.bytes s) (part (q + i.first) h.bytes s))
    → Compares s (part p h.length s) (part q i.length s) h i e
compares_here {s} p q {h} {i} {e} w v n k a b f =
    let u = w.fit in
    let z : i.first + h.bytes ≤ i.length = omega (arith, v.fit) in
    let x = length_part p h.length s a in
    let y = length_part q i.length s b in
    record {
      one = w;
      two = v;
      bytes = n;
      keep = k;
      long = omega arith;
      longer = omega arith;
      is = rw (← n, ← part_in p h.length h.first h.bytes s u, ← part_in q i.length i.first h.bytes s z) (f (omega arith) (omega arith));
    }

module _ {s u v : List ℕ} {h i : Shape} {e : Bool} (c : Compares s u v h i e) where
  in_parts : same (cell s h.group h.channel u) (cell s i.group i.channel v) ≡ both e (same (bit_of h u) (bit_of i v))
  in_parts =
      let f = c.one.fit in
      let g = c.two.fit in
      let l = c.long in
      let m = c.longer in
      let x : length (part h.first h.bytes u) ≡ h.bytes = length_part h.first h.bytes u (omega arith) in
      let y : length (part i.first i.bytes v) ≡ i.bytes = length_part i.first i.bytes v (omega arith) in
      rw (cell_is c.one u, cell_is c.two v, c.is) (same_parts _ _ _ _ (x ∙ c.bytes ∙ sym y))

  pub cells_apart : not e ≡ true → false ≡ same (cell s h.group h.channel u) (cell s i.group i.channel v)
  cells_apart z = sym (in_parts ∙ rw (not-true e z))

  pub cells-bare : not e ≡ false → h.keep ≡ false → true ≡ same (cell s h.group h.channel u) (cell s i.group i.channel v)
  unfolding same
  cells-bare z q = sym (in_parts ∙ rw (not-false e z, ← c.keep, q))

  pub cells-kept : not e ≡ false → h.keep ≡ true → {x y : ℕ} → x ≡ get_or u h.inval 0 → y ≡ get_or v i.inval 0
      → eqb (x / 2 ^ h.bit % 2) (y / 2 ^ i.bit % 2) ≡ same (cell s h.group h.channel u) (cell s i.group i.channel v)
  cells-kept z q {x} {y} m n =
      sym (in_parts ∙ rw (not-false e z, ← c.keep, q, ← m, ← n) (same-one (x / 2 ^ h.bit % 2) (y / 2 ^ i.bit % 2)))

-- the byte of a kept bit, of a record that begins at a cursor
pub kept_byte_lem : (s ws : List ℕ) (a : Cursor) (n j : ℕ) {x : ℕ} → j < n → x ≡ get_or (joined s (ahead ws a)) j 0 → x ≡ get_or (bytes_at s ws a n) j 0
kept_byte_lem s ws a n j l e = e ∙ sym (get_or-take n (joined s (ahead ws a)) j 0 l)
