-- Both calls: what is handed back is what is copied; a refusal leaves the buffer; the buffer keeps its length.
use Prim.Native.Nat.{ℕ, zero, suc, ◌+◌, ◌*◌, ◌-◌, ◌≤◌, ◌<◌}
use mathlib.Core.List.{List, [], ◌∷◌}
use Rattle.std.specs.Prelude.{Bool, true, false, ◌≡◌, take, ltb, eqb}
use Rattle.std.proofs.Math.Option.{Option, none, some}
use Rattle.std.proofs.Math.Path.{refl, ap}
use Rattle.std.proofs.Common.{sym, subst, ◌∙◌, arith, lt-ltb, le-ltb, le-leb, ltb-true, ltb-false, eqb-true}
use Rattle.std.proofs.Math.Nat.{add-mul, mul-le-mul_right}
use Rattle.std.proofs.Math.ListN.{length}
use Rattle.std.proofs.lemmas.Bool.{eqb-false}
use Rattle.base.specs.Blit.{part}
use Rattle.base.specs.BlitLaws.{length_part}
use Rattle.base.specs.Choice.{pick, if_lt, if_le, if_eq}
use Rattle.base.specs.ChoiceLaws.{lt_yes, lt_no, eq_yes, eq_no, lt_back, le-first}
use Rattle.base.specs.Checked.{Checked, ok, refused, and_then, fine}
use Rattle.base.specs.CheckedLaws.{refused≢ok, ok_same, then_ok}
use Rattle.mdf.specs.Chain.{Fragment}
use Rattle.mdf.specs.Records.{ranges_in, joined, size_of}
use Rattle.file.specs.Form.{FileColumn, cycles, record_bytes}
use Rattle.file.specs.Opened.{on_column, opened}
use Rattle.file.specs.Range.{file_column_at, asked, start_of, bytes_of, range_of, ranged, copied, into_buffer, read_into, Place, at, split, within, place_in, located}
use Rattle.file_laws.specs.JoinedLaws.{part-front, part_back, part-part, ranges_cons, length-joined}
use Rattle.file_laws.specs.OpenedLaws.{IsColumn, opened-column}

-- ---- within: reader's equations

-- in the first block that has bytes past p
pub within-here : (f : Fragment) (fs : List Fragment) (p n : ℕ) → p + n ≤ f.size → 0 < n → within (f ∷ fs) p n ≡ at (f.offset + p) n
unfolding within if_lt if_le
within-here f fs p n h k = rw (lt-ltb p f.size (omega arith), le-leb (p + n) f.size h)

pub within-later : (f : Fragment) (fs : List Fragment) (p n : ℕ) → f.size ≤ p → within (f ∷ fs) p n ≡ within fs (p - f.size) n
unfolding within if_lt
within-later f fs p n h = rw (le-ltb p f.size h)

-- ---- what within finds

split≢at : {a n : ℕ} → ◌≡◌ {A = Place} split (at a n) → ⊥
split≢at e = let z : ◌≡◌ {A = ℕ} 0 1 = cc in omega arith

at_offset : {a b m n : ℕ} → ◌≡◌ {A = Place} (at a m) (at b n) → a ≡ b
at_offset e = cc

at_length : {a b m n : ℕ} → ◌≡◌ {A = Place} (at a m) (at b n) → m ≡ n
at_length e = cc

-- n bytes at a of the image, which are those asked for
pub record PartOf (s : List ℕ) (fs : List Fragment) (p n a m : ℕ) : Type 0 where
  pub long : m ≡ n
  pub inside : a + n ≤ length s
  pub same : part a n s ≡ part p n (joined s fs)

pub within-part : (s : List ℕ) (fs : List Fragment) (p n a m : ℕ) → ranges_in s fs ≡ fine → within fs p n ≡ at a m → PartOf s fs p n a m
unfolding within joined
within-part s [] p n a m r e = absurd (split≢at e)
within-part s (f ∷ fs) p n a m r e = go (ltb p f.size) refl (λ q. within-part s fs (p - f.size) n a m b.1 q)
  where
    b : (f.offset + f.size ≤ length s) × (ranges_in s fs ≡ fine)
    b = ranges_cons s f fs r

    size : length (part f.offset f.size s) ≡ f.size
    size = length_part f.offset f.size s b.0

    go : (t : Bool) → ltb p f.size ≡ t → (within fs (p - f.size) n ≡ at a m → PartOf s fs (p - f.size) n a m) → PartOf s (f ∷ fs) p n a m
    go true q later =
        let h : p < f.size = ltb-true _ _ q in
        let c : if_le (p + n) f.size (at (f.offset + p) n) split ≡ at a m = lt_yes _ _ _ _ h refl ∙ e in
        let d = le-first _ _ _ _ c split≢at in
        let o : f.offset + p ≡ a = at_offset d.1 in
        record {
          long = sym (at_length d.1);
          inside = omega (arith, d.0, b.0);
          same =
              ap (λ (k : ℕ). part k n s) (sym o)
              ∙ sym (part-part f.offset f.size p n s d.0)
              ∙ sym (part-front p n (part f.offset f.size s) (joined s fs) (rw size d.0));
        }
    go false q later =
        let h : f.size ≤ p = ltb-false _ _ q in
        let w = later (sym (within-later f fs p n h) ∙ e) in
        record {
          long = w.long;
          inside = w.inside;
          same =
              w.same
              ∙ ap (λ (k : ℕ). part (p - k) n (joined s fs)) (sym size)
              ∙ sym (part_back p n (part f.offset f.size s) (joined s fs) (rw size h));
        }

-- ---- "a range inside one block": n bytes from byte p on lie in block number i
pub record InBlock (fs : List Fragment) (p n : ℕ) : Type 0 where
  pub number : ℕ
  pub listed : number < length fs
  pub begins : size_of (take number fs) ≤ p
  pub ends : p + n ≤ size_of (take (suc number) fs)

in_first : (f : Fragment) (fs : List Fragment) (p n : ℕ) → p + n ≤ f.size → InBlock (f ∷ fs) p n
unfolding size_of
in_first f fs p n h = record { number = 0; listed = omega arith; begins = omega arith; ends = omega arith }

in_later : (f : Fragment) (fs : List Fragment) (p n : ℕ) → f.size ≤ p → InBlock fs (p - f.size) n → InBlock (f ∷ fs) p n
unfolding size_of
in_later f fs p n h b =
    record { number = suc b.number; listed = omega (arith, b.listed); begins = omega (arith, b.begins); ends = omega (arith, b.ends) }

-- what is handed back lies in one block
pub within-at : (fs : List Fragment) (p n a m : ℕ) → within fs p n ≡ at a m → InBlock fs p n
unfolding within
within-at [] p n a m e = absurd (split≢at e)
within-at (f ∷ fs) p n a m e = go (ltb p f.size) refl (λ q. within-at fs (p - f.size) n a m q)
  where
    go : (t : Bool) → ltb p f.size ≡ t → (within fs (p - f.size) n ≡ at a m → InBlock fs (p - f.size) n) → InBlock (f ∷ fs) p n
    go true q later = in_first f fs p n (le-first _ _ _ _ (lt_yes _ _ _ _ (ltb-true _ _ q) refl ∙ e) split≢at).0
    go false q later =
        let h : f.size ≤ p = ltb-false _ _ q in
        in_later f fs p n h (later (sym (within-later f fs p n h) ∙ e))

-- and what is split lies in none
pub within_split : (fs : List Fragment) (p n : ℕ) → 0 < n → within fs p n ≡ split → InBlock fs p n → ⊥
unfolding within size_of
within_split [] p n z e b = omega (arith, b.listed)
within_split (f ∷ fs) p n z e b = go b.number b.listed b.begins b.ends (λ q c. within_split fs (p - f.size) n z q c)
  where
    go : (i : ℕ) → i < length (f ∷ fs) → size_of (take i (f ∷ fs)) ≤ p → p + n ≤ size_of (take (suc i) (f ∷ fs))
        → (within fs (p - f.size) n ≡ split → InBlock fs (p - f.size) n → ⊥) → ⊥
    go zero l h k later = split≢at (sym e ∙ within-here f fs p n (omega arith) z)
    go (suc i) l h k later =
        let s : f.size ≤ p = omega arith in
        later (sym (within-later f fs p n s) ∙ e)
        (record { number = i; listed = omega arith; begins = omega arith; ends = omega arith })

-- ---- the column asked for

pub record Asked (s : List ℕ) (k first count : ℕ) (c : FileColumn) : Type 0 where
  pub columns : List FileColumn
  pub file : opened s ≡ ok columns
  pub numbered : file_column_at k columns ≡ some c
  pub enough : first + count ≤ cycles s c.cg
  pub column : IsColumn s c

pub asked_back : (s : List ℕ) (k first count : ℕ) (c : FileColumn) → asked s k first count ≡ ok c → Asked s k first count c
unfolding asked
asked_back s k first count c e =
    let a = then_ok (opened s) _ e in
    go a.0 a.1 (file_column_at k a.0) refl a.2
  where
    go : (cs : List FileColumn) → opened s ≡ ok cs → (o : Option FileColumn) → file_column_at k cs ≡ o
        → on_column o (refused 22 0) (λ b. if_lt (cycles s b.cg) (first + count) (refused 23 0) (ok b)) ≡ ok c → Asked s k first count c
    go cs f none q h = absurd (refused≢ok h)
    go cs f (some b) q h =
        let d = lt_back _ _ _ _ h refused≢ok in
        let z : b ≡ c = ok_same d.1 in
        subst (Asked s k first count) z
        (record { columns = cs; file = f; numbered = q; enough = d.0; column = opened-column s cs k b f q })

-- the range of n records asked for lies in the joined data, and has their bytes
module _ (s : List ℕ) (k first count : ℕ) (c : FileColumn) (h : Asked s k first count c) where
  pub range_inside : start_of s c first + bytes_of s c count ≤ size_of c.fragments
  unfolding start_of bytes_of
  range_inside =
      let w : ℕ = record_bytes s c.cg in
      let m : (first + count) * w ≤ cycles s c.cg * w = mul-le-mul_right w h.enough in
      omega (arith, m, add-mul first count w, h.column.form.bytes)

  pub range_length : length (range_of s first count c) ≡ bytes_of s c count
  unfolding range_of
  range_length = length_part _ _ _ (rw (length-joined s c.fragments h.column.ranges) range_inside)

-- ---- what is asked of a file that was opened
module _ (s : List ℕ) (cs : List FileColumn) (e : opened s ≡ ok cs) (k first count : ℕ) where
  pub ranged_ok : (c : FileColumn) → file_column_at k cs ≡ some c → first + count ≤ cycles s c.cg
      → ranged s k first count ≡ ok (range_of s first count c)
  unfolding ranged asked
  ranged_ok c q h = rw (e, q, ← lt_no {r = ok c} (cycles s c.cg) (first + count) (refused 23 0) (ok c) h refl)

  -- 22: the column number isn't below the number of columns
  pub ranged-none : file_column_at k cs ≡ none → ranged s k first count ≡ refused 22 0
  unfolding ranged asked
  ranged-none q = rw (e, q)

  -- 23: first plus count exceeds the records
  pub ranged-past : (c : FileColumn) → file_column_at k cs ≡ some c → cycles s c.cg < first + count → ranged s k first count ≡ refused 23 0
  unfolding ranged asked
  ranged-past c q h = rw (e, q, ← lt_yes {r = refused 23 0} (cycles s c.cg) (first + count) (refused 23 0) (ok c) h refl)

-- ---- the two calls

-- what the first call does, by what the second answers: the same refusal; the part that is handed back is what is copied; a range that is
-- split has bytes, and is copied
abbrev pub Agrees : List ℕ → ℕ → ℕ → ℕ → List ℕ → Checked Place → Type 0
Agrees s k first count buffer (refused number place) =
    read_into s k first count buffer ≡ record { answered = refused number place; buffer = buffer }
Agrees s k first count buffer (ok (at a n)) =
    (a + n ≤ length s)
    × (length buffer ≡ n → read_into s k first count buffer ≡ record { answered = fine; buffer = part a n s })
    × ((length buffer ≡ n → ⊥) → read_into s k first count buffer ≡ record { answered = refused 24 0; buffer = buffer })
Agrees s k first count buffer (ok split) =
    (bs : List ℕ) × (0 < length bs)
    × (length buffer ≡ length bs → read_into s k first count buffer ≡ record { answered = fine; buffer = bs })
    × ((length buffer ≡ length bs → ⊥) → read_into s k first count buffer ≡ record { answered = refused 24 0; buffer = buffer })

-- a buffer of as many bytes, and of another number
module _ (s : List ℕ) (k first count : ℕ) (buffer : List ℕ) (c : FileColumn) (e : asked s k first count ≡ ok c) where
  pub read_fits : length buffer ≡ bytes_of s c count → read_into s k first count buffer ≡ record { answered = fine; buffer = range_of s first count c }
  unfolding read_into into_buffer
  read_fits h = rw (e, ← eq_yes {r = ok (range_of s first count c)} (length buffer) (bytes_of s c count) (ok (range_of s first count c)) (refused 24 0) h refl)

  pub read_other : (length buffer ≡ bytes_of s c count → ⊥) → read_into s k first count buffer ≡ record { answered = refused 24 0; buffer = buffer }
  unfolding read_into into_buffer
  read_other h = rw (e, ← eq_no {r = refused 24 0} (length buffer) (bytes_of s c count) (ok (range_of s first count c)) (refused 24 0) h refl)

positive : (n : ℕ) → (n ≡ 0 → ⊥) → 0 < n
positive zero h = absurd (h refl)
positive (suc n) h = omega arith

-- the place of a range whose bytes are all there
module _ (s : List ℕ) (k first count : ℕ) (buffer : List ℕ) (c : FileColumn) (e : asked s k first count ≡ ok c) where
  place_agrees : (p : Place) → place_in c.fragments (start_of s c first) (bytes_of s c count) ≡ p → Agrees s k first count buffer (ok p)
  unfolding place_in range_of part
  place_agrees p q = go (eqb (bytes_of s c count) 0) refl p q
    where
      h : Asked s k first count c
      h = asked_back s k first count c e

      of : (n a m : ℕ) → m ≡ n → a + n ≤ length s → part a n s ≡ range_of s first count c → n ≡ bytes_of s c count → Agrees s k first count buffer (ok (at a m))
      of n a m l i r z = (
        omega (arith, l, i),
        (λ b. read_fits s k first count buffer c e (b ∙ l ∙ z)
            ∙ ap (λ (bs : List ℕ). record { answered = fine; buffer = bs }) (sym r ∙ ap (λ (j : ℕ). part a j s) (sym l))),
        (λ b. read_other s k first count buffer c e (λ y. b (y ∙ sym z ∙ sym l))),
      )

      -- no bytes
      none : bytes_of s c count ≡ 0 → Agrees s k first count buffer (ok (at 0 0))
      none z = of 0 0 0 refl (omega arith) (rw z) (sym z)

      -- some: in a block or over its end
      some' : (bytes_of s c count ≡ 0 → ⊥) → (p : Place) → within c.fragments (start_of s c first) (bytes_of s c count) ≡ p
          → Agrees s k first count buffer (ok p)
      some' z (at a m) w =
          let i = within-part s c.fragments (start_of s c first) (bytes_of s c count) a m h.column.ranges w in
          of (bytes_of s c count) a m i.long i.inside i.same refl
      some' z split w =
          let l = range_length s k first count c h in (
            range_of s first count c,
            omega (arith, l, positive (bytes_of s c count) z),
            (λ b. read_fits s k first count buffer c e (b ∙ l)),
            (λ b. read_other s k first count buffer c e (λ y. b (y ∙ sym l))),
          )

      go : (t : Bool) → eqb (bytes_of s c count) 0 ≡ t → (p : Place) → place_in c.fragments (start_of s c first) (bytes_of s c count) ≡ p
          → Agrees s k first count buffer (ok p)
      go true z p q =
          let n : bytes_of s c count ≡ 0 = eqb-true _ _ z in
          let w : at 0 0 ≡ p = eq_yes _ _ _ _ n refl ∙ q in
          subst (λ (x : Place). Agrees s k first count buffer (ok x)) w (none n)
      go false z p q =
          let n : bytes_of s c count ≡ 0 → ⊥ = eqb-false _ _ z in
          some' n p (eq_no _ _ _ _ n refl ∙ q)

-- what the second call hands back is what the first copies, and both refuse the same
pub calls_agree : (s : List ℕ) (k first count : ℕ) (buffer : List ℕ) → Agrees s k first count buffer (located s k first count)
unfolding located read_into into_buffer
calls_agree s k first count buffer = go (asked s k first count) refl
  where
    go : (v : Checked FileColumn) → asked s k first count ≡ v
        → Agrees s k first count buffer (and_then v (λ c. ok (place_in c.fragments (start_of s c first) (bytes_of s c count))))
    go (ok c) e = place_agrees s k first count buffer c e _ refl
    go (refused number place) e = rw e

-- ---- both calls by the records themselves
refused_as : {A B : Type 0} {n p number place : ℕ} → ◌≡◌ {A = Checked A} (refused n p) (refused number place) → ◌≡◌ {A = Checked B} (refused n p) (refused number place)
refused_as {A} {B} {n} {p} {number} {place} e =
    let a : n ≡ number = cc in
    let b : p ≡ place = cc in
    rw (a, b)

module _ (s : List ℕ) (k first count : ℕ) where
  pub read_ranged : (buffer bs : List ℕ) → ranged s k first count ≡ ok bs → length buffer ≡ length bs
      → read_into s k first count buffer ≡ record { answered = fine; buffer = bs }
  unfolding ranged
  read_ranged buffer bs e h =
      let a = then_ok (asked s k first count) _ e in
      let c : FileColumn = a.0 in
      let q : range_of s first count c ≡ bs = ok_same a.2 in
      let l = range_length s k first count c (asked_back s k first count c a.1) in
      read_fits s k first count buffer c a.1 (h ∙ ap length (sym q) ∙ l) ∙ ap (λ (b : List ℕ). record { answered = fine; buffer = b }) q

  -- the column asked for was refused
  asked_refused : (number place : ℕ) → ranged s k first count ≡ refused number place → asked s k first count ≡ refused number place
  unfolding ranged
  asked_refused number place e = go (asked s k first count) e
    where
      go : (v : Checked FileColumn) → and_then v (λ c. ok (range_of s first count c)) ≡ refused number place → v ≡ refused number place
      go (ok c) h = absurd (refused≢ok (sym h))
      go (refused n p) h = refused_as h

  pub read_refused : (buffer : List ℕ) (number place : ℕ) → ranged s k first count ≡ refused number place
      → read_into s k first count buffer ≡ record { answered = refused number place; buffer = buffer }
  unfolding read_into into_buffer
  read_refused buffer number place e = rw (asked_refused number place e)

  pub located_refused : (number place : ℕ) → ranged s k first count ≡ refused number place → located s k first count ≡ refused number place
  unfolding located
  located_refused number place e = rw (asked_refused number place e)

-- "A refusal leaves the buffer unchanged."
pub refusal_leaves : (s : List ℕ) (k first count : ℕ) (buffer : List ℕ) (number place : ℕ)
    → (read_into s k first count buffer).answered ≡ refused number place → (read_into s k first count buffer).buffer ≡ buffer
unfolding read_into
refusal_leaves s k first count buffer number place e = go (into_buffer s k first count (length buffer)) e
  where
    go : (v : Checked (List ℕ)) → (copied buffer v).answered ≡ refused number place → (copied buffer v).buffer ≡ buffer
    go (ok bs) e = absurd (refused≢ok (sym e))
    go (refused n p) e = refl

-- the buffer keeps its length
pub read_length : (s : List ℕ) (k first count : ℕ) (buffer : List ℕ) → length (read_into s k first count buffer).buffer ≡ length buffer
unfolding read_into into_buffer if_eq
read_length s k first count buffer = go (asked s k first count) refl
  where
    of : (c : FileColumn) → asked s k first count ≡ ok c → (t : Bool) → eqb (length buffer) (bytes_of s c count) ≡ t
        → length (copied buffer (pick t (ok (range_of s first count c)) (refused 24 0))).buffer ≡ length buffer
    of c e true q = range_length s k first count c (asked_back s k first count c e) ∙ sym (eqb-true _ _ q)
    of c e false q = refl

    go : (v : Checked FileColumn) → asked s k first count ≡ v
        → length (copied buffer (and_then v (λ c. if_eq (length buffer) (bytes_of s c count) (ok (range_of s first count c)) (refused 24 0)))).buffer ≡ length buffer
    go (ok c) e = of c e (eqb (length buffer) (bytes_of s c count)) refl
    go (refused n p) e = refl
