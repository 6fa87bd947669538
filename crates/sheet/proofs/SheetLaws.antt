-- Laws of the inventory sheet: fields and lines have their widths, every byte of a page line is printed, each field stands at its place, a page has at
-- most 60 lines, the pages have one line for each column, in order, below their headings and nothing else.
use Prim.Native.Nat.{ℕ, zero, suc, ◌+◌, ◌*◌, ◌-◌, ◌/◌, ◌%◌, ◌≤◌, ◌<◌}
use Prim.Native.Char.{code}
use mathlib.Core.List.{List, [], ◌∷◌, ◌++◌, map, append_assoc, append-nil}
use Rattle.std.specs.Prelude.{Bool, true, false, ◌≡◌, ltb, leb, eqb, replicate}
use Rattle.std.proofs.Math.Option.{Option, none, some}
use Rattle.std.proofs.Math.Path.{refl, ap}
use Rattle.std.proofs.Common.{sym, ◌∙◌, length-append, length-take, drop_of_length-le, take-add, take_at, drop-drop, drop_at, ltb-true, ltb-false, leb-true, eqb-true}
use Rattle.std.proofs.Math.Nat.{add-zero}
use native.Mathlib.Omega.{arith}
use Rattle.std.proofs.Math.ListN.{length, take, drop, length-drop}
use Rattle.std.proofs.lemmas.List.{length-replicate, length-map}
use Rattle.std.proofs.Math.Seq.{take_all, take-nil}
use Rattle.base.specs.Choice.{pick, if_lt, if_eq}
use Rattle.base.specs.ChoiceLaws.{eq_yes}
use Rattle.base.specs.Blit.{part}
use Rattle.base.specs.BlitLaws.{length_part}
use Rattle.base.specs.Checked.{ok, refused}
use Rattle.mdf.specs.Block.{link_at}
use Rattle.mdf.specs.Group.{samples}
use Rattle.plan.specs.Channel.{is_master_type}
use Rattle.result.specs.Listing.{digits_of, decimal, refusal_text}
use Rattle.result.specs.Sharing.{text_at}
use Rattle.result.specs.Member.{In, here, there}
use Rattle.file.specs.Form.{FileColumn, cycles}
use Rattle.file.specs.Opened.{opened}
use Rattle.sheet.specs.Sheet.{
  ascii,
  left_in,
  right_in,
  kind_of,
  up_to_zero,
  printable,
  name_text,
  name_of,
  master_of,
  master_in,
  sheet_line,
  sheet_lines,
  heading,
  page_count,
  page_of,
  pages_from,
  pages,
  lines_text,
  pages_text,
  sheet,
}
use Rattle.sheet.specs.SheetLaws.{below, bodies}

-- ---- widths
pub length-left : (w : ℕ) (t : List ℕ) → length t ≤ w → length (left_in w t) ≡ w
unfolding left_in
length-left w t h = simp (length-append, length-replicate) (omega arith)

pub length_right : (w n : ℕ) → length (right_in w n) ≡ w
unfolding right_in if_lt
length_right w n = go (ltb w (length (decimal n))) refl
  where
    go : (t : Bool) → ltb w (length (decimal n)) ≡ t
        → length (pick t (replicate w (code "#")) (replicate (w - length (decimal n)) (code " ") ++ decimal n)) ≡ w
    go true e = length-replicate w (code "#")
    go false e = let h = ltb-false w (length (decimal n)) e in simp (length-append, length-replicate) (omega arith)

length_digits : (k n : ℕ) → length (digits_of k n) ≤ k
unfolding digits_of if_eq
length_digits zero n = omega arith
length_digits (suc k) n = go (length_digits k (n / 10)) (eqb (n / 10) 0)
  where
    go : length (digits_of k (n / 10)) ≤ k → (t : Bool) → length (pick t [] (digits_of k (n / 10)) ++ ((48 + n % 10) ∷ [])) ≤ suc k
    go h true = omega arith
    go h false = simp length-append (omega arith)

pub length-decimal : (n : ℕ) → length (decimal n) ≤ 20
unfolding decimal
length-decimal n = length_digits 20 n

length_up : (bs : List ℕ) → length (up_to_zero bs) ≤ length bs
unfolding up_to_zero if_eq
length_up [] = omega arith
length_up (b ∷ bs) = go (length_up bs) (eqb b 0)
  where
    go : length (up_to_zero bs) ≤ length bs → (t : Bool) → length (pick t [] (b ∷ up_to_zero bs)) ≤ suc (length bs)
    go h true = omega arith
    go h false = omega arith

pub length-shown : (n : ℕ) (bs : List ℕ) → length (map printable (up_to_zero (take n bs))) ≤ n
length-shown n bs =
    let h = length_up (take n bs) in
    let l : length (take n bs) ≤ n = simp length-take (omega arith) in
    simp length-map (omega arith)

short_name : (t : List ℕ) → length (name_text t) ≤ 32
short_name [] = omega arith
short_name (k ∷ bs) = length-shown 32 bs

pub length_name : (s : List ℕ) (c : ℕ) → length (left_in 32 (name_of s c)) ≡ 32
unfolding name_of
length_name s c = length-left 32 (name_of s c) (short_name (text_at s (link_at s c 2)))

pub length-kind : (s : List ℕ) (c : ℕ) → length (left_in 1 (kind_of s c)) ≡ 1
unfolding kind_of
length-kind s c = length-left 1 (kind_of s c) (go (is_master_type s c))
  where
    go : (t : Bool) → length (pick t (ascii "t") (ascii "s")) ≤ 1
    go true = omega arith
    go false = omega arith

pub length_master : (m : Option ℕ) → length (master_in m) ≡ 10
length_master none = length-left 10 (ascii "-") (omega arith)
length_master (some m) = length_right 10 m

pub length-line : (s : List ℕ) (all : List FileColumn) (k : ℕ) (c : FileColumn) → length (sheet_line s all k c) ≡ 80
unfolding sheet_line
length-line s all k c = simp (length-append, length_right, length-kind, length_name, length_master)

pub length-heading : (p n : ℕ) → length (heading p n) ≡ 80
unfolding heading
length-heading p n =
    length-left 80 (ascii "page " ++ decimal p ++ ascii " of " ++ decimal n)
    (simp length-append (omega (arith, length-decimal p, length-decimal n)))

-- ---- pages

pub length-lines : (s : List ℕ) (all : List FileColumn) (k : ℕ) (cs : List FileColumn) → length (sheet_lines s all k cs) ≡ length cs
unfolding sheet_lines
length-lines s all k [] = refl
length-lines s all k (c ∷ cs) = ap suc (length-lines s all (k + 1) cs)

length_some : (i n : ℕ) (cs : List FileColumn) → length (part i n cs) ≤ n
unfolding part
length_some i n cs = simp length-take (omega arith)

-- "Without columns there is one page", else 59 columns on each but the last
pub pages-none : page_count 0 ≡ 1
unfolding page_count
pages-none = sym (eq_yes _ _ _ _ refl refl)

pub pages-some : (n : ℕ) → 0 < n → (59 * (page_count n - 1) < n) × (n ≤ 59 * page_count n)
unfolding page_count if_eq
pages-some n h = go (eqb n 0) refl
  where
    go : (t : Bool) → eqb n 0 ≡ t → (59 * (pick t 1 ((n + 58) / 59) - 1) < n) × (n ≤ 59 * pick t 1 ((n + 58) / 59))
    go true e = let z = eqb-true n 0 e in (omega arith, omega arith)
    go false e = (omega arith, omega arith)

pages_hold : (n : ℕ) → n ≤ 59 * page_count n
pages_hold zero = rw pages-none (omega arith)
pages_hold (suc n) = (pages-some (suc n) (omega arith)).1

-- "a heading line `page P of N`, then 59 lines, on the last page those left"
module _ (s : List ℕ) (all : List FileColumn) (n : ℕ) where
  -- "pages of at most 60 lines"
  pub page_most : (i : ℕ) → length (page_of s all n i) ≤ 60
  unfolding page_of
  page_most i = let h = length_some (59 * i) 59 all in simp (length-lines s all (59 * i)) (omega arith)

  pub page_full : (i : ℕ) → 59 * (i + 1) ≤ length all → length (page_of s all n i) ≡ 60
  unfolding page_of
  page_full i h = let l = length_part (59 * i) 59 all (omega arith) in simp (length-lines s all (59 * i)) (omega arith)

  pub page_last : (i : ℕ) → 59 * i ≤ length all → length all ≤ 59 * (i + 1) → length (page_of s all n i) ≡ 1 + (length all - 59 * i)
  unfolding page_of part
  page_last i h l =
      let e : take 59 (drop (59 * i) all) ≡ drop (59 * i) all = take_all 59 (drop (59 * i) all) (simp length-drop (omega arith)) in
      simp (length-lines s all (59 * i), e, length-drop) (omega arith)

  length_from : (left i : ℕ) → length (pages_from s all n left i) ≡ left
  unfolding pages_from
  length_from zero i = refl
  length_from (suc left) i = ap suc (length_from left (i + 1))

pub length-pages : (s : List ℕ) (all : List FileColumn) → length (pages s all) ≡ page_count (length all)
unfolding pages
length-pages s all = length_from s all (page_count (length all)) (page_count (length all)) 0

-- ---- "Every page line has exactly 80 characters"

-- bookkeeping: what holds of every member
pub record Each {A : Type 0} (P : A → Type 0) (l : List A) : Type 0 where
  pub of : (a : A) → In a l → P a

not_in : {A : Type 0} {a : A} → In a [] → ⊥
not_in = elim [ ]

each_none : {A : Type 0} {P : A → Type 0} → Each P []
each_none = record { of = λ a j. absurd (not_in j) }

each_cons : {A : Type 0} {P : A → Type 0} {a : A} {l : List A} → P a → Each P l → Each P (a ∷ l)
each_cons {A} {P} {a} {l} e h = record { of = go }
  where
    go : (b : A) → In b (a ∷ l) → P b
    go b here = e
    go b (there j) = h.of b j

abbrev pub Has80 : List ℕ → Type 0
Has80 l = length l ≡ 80

lines80 : (s : List ℕ) (all : List FileColumn) (k : ℕ) (cs : List FileColumn) → Each Has80 (sheet_lines s all k cs)
unfolding sheet_lines
lines80 s all k [] = each_none
lines80 s all k (c ∷ cs) = each_cons (length-line s all k c) (lines80 s all (k + 1) cs)

pub page80 : (s : List ℕ) (all : List FileColumn) (n i : ℕ) → Each Has80 (page_of s all n i)
unfolding page_of
page80 s all n i = each_cons (length-heading (i + 1) n) (lines80 s all (59 * i) (part (59 * i) 59 all))

from80 : (s : List ℕ) (all : List FileColumn) (n left i : ℕ) → Each (Each Has80) (pages_from s all n left i)
unfolding pages_from
from80 s all n zero i = each_none
from80 s all n (suc left) i = each_cons (page80 s all n i) (from80 s all n left (i + 1))

pub pages80 : (s : List ℕ) (all : List FileColumn) → Each (Each Has80) (pages s all)
unfolding pages
pages80 s all = from80 s all (page_count (length all)) (page_count (length all)) 0

-- ---- "one per column": what stands below the headings is the columns' lines in order, and nothing else

part-add : (i m n : ℕ) (cs : List FileColumn) → part i (m + n) cs ≡ part i m cs ++ part (i + m) n cs
unfolding part
part-add i m n cs = take-add m n (drop i cs) ∙ rw drop-drop

part_none : (i n : ℕ) (cs : List FileColumn) → length cs ≤ i → part i n cs ≡ []
unfolding part
part_none i n cs h = rw (drop_of_length-le cs h, take-nil)

module _ (s : List ℕ) (all : List FileColumn) where
  lines_none : (k : ℕ) → sheet_lines s all k [] ≡ []
  unfolding sheet_lines
  lines_none k = refl

  lines-append : (k : ℕ) (xs ys : List FileColumn) → sheet_lines s all k (xs ++ ys) ≡ sheet_lines s all k xs ++ sheet_lines s all (k + length xs) ys
  unfolding sheet_lines
  lines-append k [] ys = rw add-zero
  lines-append k (x ∷ xs) ys =
      let e : k + 1 + length xs ≡ k + suc (length xs) = omega arith in
      ap (λ (ls : List (List ℕ)). sheet_line s all k x ∷ ls) (lines-append (k + 1) xs ys ∙ rw e)

  -- 59 columns and those after them
  lines-page : (i left : ℕ)
      → sheet_lines s all (59 * i) (part (59 * i) (59 + 59 * left) all)
      ≡ sheet_lines s all (59 * i) (part (59 * i) 59 all) ++ sheet_lines s all (59 * (i + 1)) (part (59 * (i + 1)) (59 * left) all)
  lines-page i left = ap (sheet_lines s all (59 * i)) (part-add (59 * i) 59 (59 * left) all)
      ∙ lines-append (59 * i) (part (59 * i) 59 all) (part (59 * i + 59) (59 * left) all) ∙ go (ltb (length all) (59 * i + 59)) refl
    where
      e : 59 * i + 59 ≡ 59 * (i + 1)
      e = omega arith

      go : (t : Bool) → ltb (length all) (59 * i + 59) ≡ t
          → sheet_lines s all (59 * i) (part (59 * i) 59 all) ++ sheet_lines s all (59 * i + length (part (59 * i) 59 all)) (part (59 * i + 59) (59 * left) all)
          ≡ sheet_lines s all (59 * i) (part (59 * i) 59 all) ++ sheet_lines s all (59 * (i + 1)) (part (59 * (i + 1)) (59 * left) all)
      go true q =
          let h = ltb-true (length all) (59 * i + 59) q in
          rw (part_none (59 * i + 59) (59 * left) all (omega arith), part_none (59 * (i + 1)) (59 * left) all (omega arith)) (simp lines_none)
      go false q = let h = ltb-false (length all) (59 * i + 59) q in rw (length_part (59 * i) 59 all (omega arith), e)

  bodies-from : (n left i : ℕ) → bodies (pages_from s all n left i) ≡ sheet_lines s all (59 * i) (part (59 * i) (59 * left) all)
  unfolding pages_from page_of part
  bodies-from n zero i = rw lines_none
  bodies-from n (suc left) i =
      let e : 59 * suc left ≡ 59 + 59 * left = omega arith in
      rw (e, bodies-from n left (i + 1)) (sym (lines-page i left))

  pub one-line-each : bodies (pages s all) ≡ sheet_lines s all 0 all
  unfolding pages part
  one-line-each =
      let h = pages_hold (length all) in
      bodies-from (page_count (length all)) (page_count (length all)) 0 ∙ rw (take_all (59 * page_count (length all)) all h)

-- ---- the length of the whole: 81 bytes for each column and each heading
length-text : (ls : List (List ℕ)) → Each Has80 ls → length (lines_text ls) ≡ 81 * length ls
unfolding lines_text
length-text [] h = refl
length-text (l ∷ ls) h =
    let e = h.of l here in
    let r = length-text ls (record { of = λ a j. h.of a (there j) }) in
    simp length-append (omega arith)

pub length-lines-text : (s : List ℕ) (all : List FileColumn) (k : ℕ) (cs : List FileColumn) → length (lines_text (sheet_lines s all k cs)) ≡ 81 * length cs
length-lines-text s all k cs = length-text (sheet_lines s all k cs) (lines80 s all k cs) ∙ rw (length-lines s all k cs)

length-page : (s : List ℕ) (all : List FileColumn) (n i : ℕ) → length (lines_text (page_of s all n i)) ≡ 81 * suc (length (below (page_of s all n i)))
unfolding page_of
length-page s all n i = length-text (page_of s all n i) (page80 s all n i)

length-all : (s : List ℕ) (all : List FileColumn) (n left i : ℕ)
    → length (pages_text (pages_from s all n left i)) ≡ 81 * (left + length (bodies (pages_from s all n left i)))
unfolding pages_text pages_from
length-all s all n zero i = refl
length-all s all n (suc left) i =
    let r = length-all s all n left (i + 1) in
    let p = length-page s all n i in
    let b = length-append (below (page_of s all n i)) (bodies (pages_from s all n left (i + 1))) in
    simp length-append (omega arith)

pub length-sheet : (s : List ℕ) (all : List FileColumn) → length (pages_text (pages s all)) ≡ 81 * (page_count (length all) + length all)
unfolding pages
length-sheet s all =
    let n = page_count (length all) in
    let b = ap length (one-line-each s all) ∙ length-lines s all 0 all in
    length-all s all n n 0 ∙ ap (λ (m : ℕ). 81 * (n + m)) b

-- ---- each field stands at its place
part_at : (x y z : List ℕ) (i n : ℕ) → length x ≡ i → length y ≡ n → part i n (x ++ y ++ z) ≡ y
unfolding part
part_at x y z i n p q = rw (append_assoc, drop_at x (y ++ z) i p) (take_at y z n q)

pub record Fields (s : List ℕ) (all : List FileColumn) (k : ℕ) (c : FileColumn) (l : List ℕ) : Type 0 where
  pub number : part 0 8 l ≡ right_in 8 k
  pub kind : part 9 1 l ≡ left_in 1 (kind_of s c.cn)
  pub name : part 11 32 l ≡ left_in 32 (name_of s c.cn)
  pub bytes : part 44 12 l ≡ right_in 12 (samples s c.cg)
  pub records : part 57 12 l ≡ right_in 12 (cycles s c.cg)
  pub master : part 70 10 l ≡ master_in (master_of s all c.cg)

module _ (s : List ℕ) (all : List FileColumn) (k : ℕ) (c : FileColumn) where
  abbrev a : List ℕ
  a = right_in 8 k ++ ascii " "

  abbrev b : List ℕ
  b = left_in 1 (kind_of s c.cn) ++ ascii " "

  abbrev d : List ℕ
  d = left_in 32 (name_of s c.cn) ++ ascii " "

  abbrev e : List ℕ
  e = right_in 12 (samples s c.cg) ++ ascii " "

  abbrev f : List ℕ
  f = right_in 12 (cycles s c.cg) ++ ascii " "

  abbrev g : List ℕ
  g = master_in (master_of s all c.cg)

  -- a field, with what stands before and behind it
  placed : (x y z : List ℕ) (i n : ℕ) → sheet_line s all k c ≡ x ++ y ++ z → length x ≡ i → length y ≡ n → part i n (sheet_line s all k c) ≡ y
  placed x y z i n w p q = rw w (part_at x y z i n p q)

  pub fields : Fields s all k c (sheet_line s all k c)
  unfolding sheet_line
  fields =
      record {
        number = placed [] (right_in 8 k) (ascii " " ++ b ++ d ++ e ++ f ++ g) 0 8 (simp append_assoc) refl (length_right 8 k);
        kind = placed a (left_in 1 (kind_of s c.cn)) (ascii " " ++ d ++ e ++ f ++ g) 9 1 (simp append_assoc)
            (simp (length-append, length_right)) (length-kind s c.cn);
        name = placed (a ++ b) (left_in 32 (name_of s c.cn)) (ascii " " ++ e ++ f ++ g) 11 32 (simp append_assoc)
            (simp (length-append, length_right, length-kind)) (length_name s c.cn);
        bytes = placed (a ++ b ++ d) (right_in 12 (samples s c.cg)) (ascii " " ++ f ++ g) 44 12 (simp append_assoc)
            (simp (length-append, length_right, length-kind, length_name)) (length_right 12 (samples s c.cg));
        records = placed (a ++ b ++ d ++ e) (right_in 12 (cycles s c.cg)) (ascii " " ++ g) 57 12 (simp append_assoc)
            (simp (length-append, length_right, length-kind, length_name)) (length_right 12 (cycles s c.cg));
        master = placed (a ++ b ++ d ++ e ++ f) g [] 70 10 (simp (append_assoc, append-nil))
            (simp (length-append, length_right, length-kind, length_name)) (length_master (master_of s all c.cg));
      }

-- ---- every byte of a page line is one from 32 to 126
pub record Prints (b : ℕ) : Type 0 where
  pub low : 32 ≤ b
  pub high : b ≤ 126

each_append : {P : ℕ → Type 0} (xs ys : List ℕ) → Each P xs → Each P ys → Each P (xs ++ ys)
each_append [] ys g h = h
each_append (x ∷ xs) ys g h = each_cons (g.of x here) (each_append xs ys (record { of = λ a j. g.of a (there j) }) h)

each-replicate : {P : ℕ → Type 0} (n b : ℕ) → P b → Each P (replicate n b)
each-replicate zero b h = each_none
each-replicate (suc n) b h = each_cons h (each-replicate n b h)

abbrev pub Text : List ℕ → Type 0
Text l = Each Prints l

-- a text that is there
abbrev is_text : List ℕ → Bool
is_text [] = true
is_text (b ∷ bs) = pick (leb 32 b) (pick (leb b 126) (is_text bs) false) false

written : (l : List ℕ) → is_text l ≡ true → Text l
written [] e = each_none
written (b ∷ bs) e = go (leb 32 b) (leb b 126) refl refl e (λ q. written bs q)
  where
    go : (t u : Bool) → leb 32 b ≡ t → leb b 126 ≡ u → pick t (pick u (is_text bs) false) false ≡ true → (is_text bs ≡ true → Text bs) → Text (b ∷ bs)
    go true true p q w more = each_cons (record { low = leb-true 32 b p; high = leb-true b 126 q }) (more w)
    go true false p q w more = absurd (let z : ◌≡◌ {A = ℕ} 0 1 = cc in omega arith)
    go false u p q w more = absurd (let z : ◌≡◌ {A = ℕ} 0 1 = cc in omega arith)

blank-text : Text (ascii " ")
blank-text = written (ascii " ") refl

left-text : (w : ℕ) (t : List ℕ) → Text t → Text (left_in w t)
unfolding left_in
left-text w t h = each_append t _ h (each-replicate (w - length t) (code " ") (record { low = omega arith; high = omega arith }))

digits-text : (k n : ℕ) → Text (digits_of k n)
unfolding digits_of if_eq
digits-text zero n = each_none
digits-text (suc k) n = go (digits-text k (n / 10)) (eqb (n / 10) 0)
  where
    go : Text (digits_of k (n / 10)) → (t : Bool) → Text (pick t [] (digits_of k (n / 10)) ++ ((48 + n % 10) ∷ []))
    go h true = each_cons (record { low = omega arith; high = omega arith }) each_none
    go h false = each_append (digits_of k (n / 10)) _ h (each_cons (record { low = omega arith; high = omega arith }) each_none)

decimal-text : (n : ℕ) → Text (decimal n)
unfolding decimal
decimal-text n = digits-text 20 n

right_text : (w n : ℕ) → Text (right_in w n)
unfolding right_in if_lt
right_text w n = go (ltb w (length (decimal n)))
  where
    go : (t : Bool) → Text (pick t (replicate w (code "#")) (replicate (w - length (decimal n)) (code " ") ++ decimal n))
    go true = each-replicate w (code "#") (record { low = omega arith; high = omega arith })
    go false =
        each_append (replicate (w - length (decimal n)) (code " ")) (decimal n)
        (each-replicate (w - length (decimal n)) (code " ") (record { low = omega arith; high = omega arith })) (decimal-text n)

kind-text : (s : List ℕ) (c : ℕ) → Text (kind_of s c)
unfolding kind_of
kind-text s c = go (is_master_type s c)
  where
    go : (t : Bool) → Text (pick t (ascii "t") (ascii "s"))
    go true = written (ascii "t") refl
    go false = written (ascii "s") refl

pub prints : (b : ℕ) → Prints (printable b)
unfolding printable if_lt
prints b = go (ltb b 32) (ltb 126 b) refl refl
  where
    go : (t u : Bool) → ltb b 32 ≡ t → ltb 126 b ≡ u → Prints (pick t (code "?") (pick u (code "?") b))
    go true u p q = record { low = omega arith; high = omega arith }
    go false true p q = record { low = omega arith; high = omega arith }
    go false false p q =
        let h = ltb-false b 32 p in
        let l = ltb-false 126 b q in
        record { low = omega arith; high = omega arith }

name_text_lem : (t : List ℕ) → Text (name_text t)
name_text_lem [] = written (ascii "-") refl
name_text_lem (k ∷ bs) = go (up_to_zero (take 32 bs))
  where
    go : (l : List ℕ) → Text (map printable l)
    go [] = each_none
    go (b ∷ l) = each_cons (prints b) (go l)

master_text_lem : (m : Option ℕ) → Text (master_in m)
master_text_lem none = left-text 10 (ascii "-") (written (ascii "-") refl)
master_text_lem (some m) = right_text 10 m

infixl 20 ◌then◌
◌then◌ : {xs ys : List ℕ} → Text xs → Text ys → Text (xs ++ ys)
◌then◌ {xs} {ys} g h = each_append xs ys g h

pub line-text : (s : List ℕ) (all : List FileColumn) (k : ℕ) (c : FileColumn) → Text (sheet_line s all k c)
unfolding sheet_line name_of
line-text s all k c =
    right_text 8 k then blank-text then left-text 1 (kind_of s c.cn) (kind-text s c.cn) then blank-text
    then left-text 32 (name_of s c.cn) (name_text_lem (text_at s (link_at s c.cn 2))) then blank-text then right_text 12 (samples s c.cg) then blank-text
    then right_text 12 (cycles s c.cg) then blank-text then master_text_lem (master_of s all c.cg)

pub heading-text : (p n : ℕ) → Text (heading p n)
unfolding heading
heading-text p n =
    left-text 80 (ascii "page " ++ decimal p ++ ascii " of " ++ decimal n)
    (written (ascii "page ") refl then decimal-text p then written (ascii " of ") refl then decimal-text n)

lines-text : (s : List ℕ) (all : List FileColumn) (k : ℕ) (cs : List FileColumn) → Each Text (sheet_lines s all k cs)
unfolding sheet_lines
lines-text s all k [] = each_none
lines-text s all k (c ∷ cs) = each_cons (line-text s all k c) (lines-text s all (k + 1) cs)

page-text : (s : List ℕ) (all : List FileColumn) (n i : ℕ) → Each Text (page_of s all n i)
unfolding page_of
page-text s all n i = each_cons (heading-text (i + 1) n) (lines-text s all (59 * i) (part (59 * i) 59 all))

from-text : (s : List ℕ) (all : List FileColumn) (n left i : ℕ) → Each (Each Text) (pages_from s all n left i)
unfolding pages_from
from-text s all n zero i = each_none
from-text s all n (suc left) i = each_cons (page-text s all n i) (from-text s all n left (i + 1))

pub pages-text : (s : List ℕ) (all : List FileColumn) → Each (Each Text) (pages s all)
unfolding pages
pages-text s all = from-text s all (page_count (length all)) (page_count (length all)) 0

-- ---- the sheet of a file that was opened, or of one that was refused
pub sheet-opened : (s : List ℕ) (cs : List FileColumn) → opened s ≡ ok cs → sheet s ≡ pages_text (pages s cs)
unfolding sheet
sheet-opened s cs e = rw e

pub sheet_refused : (s : List ℕ) (number place : ℕ) → opened s ≡ refused number place → sheet s ≡ refusal_text number place
unfolding sheet
sheet_refused s number place e = rw e
