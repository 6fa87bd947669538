-- The way through the definitions of Identification, one byte at a time.
-- A law's first fact is a loop's invariant; `-on` goes past one byte, `-stop`, `-none` and `-end` leave the loop.
use Rattle.std.specs.Prelude.{ℕ, suc, ◌+◌, ◌*◌, ◌-◌, ◌≤◌, ◌<◌, Bool, true, false, List, [], ◌∷◌, ◌++◌, ◌≡◌, refl, get_or, length, take, drop, reverse, ltb, leb, eqb, Option, Some, None}
use mathlib.Core.List.{reverse-append, reverse-reverse, reverse-cons, append_assoc, append-nil}
use Rattle.std.proofs.Common.{sym, ap, ◌∙◌, arith, drop-cons, drop_of_length-le, take-suc}
use Rattle.std.proofs.lemmas.List.{take_all}
use borrow.Author.Tests.{eq-eqb, ne_eqb, le-leb, lt-leb}
use Rattle.base.specs.Choice.{pick, if_lt, if_eq}
use Rattle.base.specs.ChoiceLaws.{lt_yes, lt_no, le_yes, le_no, eq_yes, eq_no, lt_back, le-first}
use Rattle.mdf.specs.Identification.{
  drop_while,
  is_zero,
  is_space,
  trimmed,
  first_part,
  Rest,
  absent,
  rest,
  past_dot,
  Number,
  unreadable,
  value,
  digits_from,
  digits,
  number,
  second,
  version_of,
  is_ascii,
  version_in,
}
use Rattle.base.specs.Checked.{refused, Verdict, fine}
use Rattle.identification.specs.Answer.{number_of}
use Rattle.identification.specs.Cut.{trim_end}

-- ---- White space

pub space_blank : (b : ℕ) → b ≡ 32 → true ≡ is_space b
space_blank b h = rw (eq-eqb b 32 h)

pub space_other : (b : ℕ) → (b ≡ 32 → ⊥) → 9 ≤ b → leb b 13 ≡ is_space b
space_other b h k = rw (ne_eqb b 32 h, le-leb 9 b k)

pub space_under : (b : ℕ) → (b ≡ 32 → ⊥) → b < 9 → false ≡ is_space b
space_under b h k = rw (ne_eqb b 32 h, lt-leb 9 b k)

-- ---- Elements at the end, and in front, that pass the test

pub trimmed-ends : (v : List ℕ) → drop_while is_space (trim_end is_space (trim_end is_zero v)) ≡ trimmed v
unfolding trimmed trim_end
trimmed-ends v = simp reverse-reverse

length-zero : (s : List ℕ) → length s ≡ 0 → s ≡ []
length-zero [] h = refl
length-zero (x ∷ xs) h = absurd (omega arith)

-- what is left is s, or the elements l and x
module _ (test : ℕ → Bool) (s : List ℕ) {v : List ℕ} where
  module _ (e : trim_end test s ≡ v) where
    pub end_none : length s ≡ 0 → s ≡ v
    unfolding trim_end drop_while
    end_none h = let none : s ≡ [] = length-zero s h in rw none (rw none at e)

    module _ (l : List ℕ) (x : ℕ) (q : s ≡ l ++ (x ∷ [])) where
      pub end_on : test x ≡ true → trim_end test l ≡ v
      unfolding trim_end drop_while
      end_on t = rw (q, reverse-append, t) at e

      pub end_stop : test x ≡ false → s ≡ v
      unfolding trim_end drop_while
      end_stop t = q ∙ sym (reverse-cons x (reverse l) ∙ rw reverse-reverse) ∙ (rw (q, reverse-append, t) at e)

  module _ (e : drop_while test s ≡ v) where
    pub front-none : length s ≡ 0 → s ≡ v
    unfolding drop_while
    front-none h = let none : s ≡ [] = length-zero s h in rw none (rw none at e)

    module _ {l : List ℕ} {x : ℕ} (q : s ≡ x ∷ l) where
      pub front-on : test x ≡ true → drop_while test l ≡ v
      unfolding drop_while
      front-on t = rw (q, t) at e

      pub front_stop : test x ≡ false → s ≡ v
      unfolding drop_while
      front_stop t = q ∙ (rw (q, t) at e)

-- ---- What is left from byte i on

module _ (s : List ℕ) (i : ℕ) where
  left-cons : i < length s → drop i s ≡ get_or s i 0 ∷ drop (i + 1) s
  left-cons h = let n : i + 1 ≡ suc i = omega arith in rw n (drop-cons s i 0 h)

  left-none : length s ≤ i → drop i s ≡ []
  left-none h = drop_of_length-le s h

  -- ---- Bytes over 127

  module _ {m : Bool} (e : is_ascii (drop i s) ≡ m) where
    pub ascii_end : length s ≤ i → true ≡ m
    unfolding is_ascii
    ascii_end h = rw (left-none h) at e

    pub ascii-on : i < length s → get_or s i 0 ≤ 127 → is_ascii (drop (i + 1) s) ≡ m
    unfolding is_ascii
    ascii-on h b = rw (left-cons h, le-leb _ _ b) at e

    pub ascii-over : i < length s → 127 < get_or s i 0 → false ≡ m
    unfolding is_ascii
    ascii-over h b = rw (left-cons h, lt-leb _ _ b) at e

-- ---- The first dot

-- no dot stands before i
pub record Passed (s : List ℕ) (i : ℕ) : Type 0 where
  pub high : i ≤ length s
  pub before : take i s ++ first_part (drop i s) ≡ first_part s
  pub after : past_dot (drop i s) ≡ past_dot s

pub dot_begin : (s : List ℕ) → Passed s 0
dot_begin s = record { high = omega arith; before = refl; after = refl }

module _ {s : List ℕ} {i : ℕ} (p : Passed s i) where
  pub dot_on : i < length s → (get_or s i 0 ≡ 46 → ⊥) → Passed s (i + 1)
  unfolding first_part past_dot
  dot_on h b =
      let other : eqb (get_or s i 0) 46 ≡ false = ne_eqb _ _ b in
      let n : i + 1 ≡ suc i = omega arith in
      let longer : take (i + 1) s ≡ take i s ++ (get_or s i 0 ∷ []) = rw n (take-suc s i 0 h) in
      record {
        high = omega arith;
        before = rw (longer, append_assoc) (rw (left-cons s i h, other) at p.before);
        after = rw (left-cons s i h, other) at p.after;
      }

  module _ (h : i < length s) (b : get_or s i 0 ≡ 46) where
    pub dot_before : take i s ≡ first_part s
    unfolding first_part
    dot_before = let dot : eqb (get_or s i 0) 46 ≡ true = eq-eqb _ _ b in rw (left-cons s i h, dot, append-nil) at p.before

    pub dot_after : rest (drop (i + 1) s) ≡ past_dot s
    unfolding past_dot
    dot_after = let dot : eqb (get_or s i 0) 46 ≡ true = eq-eqb _ _ b in rw (left-cons s i h, dot) at p.after

  module _ (h : length s ≤ i) where
    pub no_dot_before : s ≡ first_part s
    unfolding first_part
    no_dot_before = let whole : take i s ≡ s = take_all i s h in rw (left-none s i h, append-nil, whole) at p.before

    pub no_dot_after : absent ≡ past_dot s
    unfolding past_dot
    no_dot_after = rw (left-none s i h) at p.after

-- ---- Decimal numbers

same_lt : {A : Type 0} (m n : ℕ) (a : A) → if_lt m n a a ≡ a
unfolding if_lt
same_lt m n a = go (ltb m n)
  where
    go : (t : Bool) → pick t a a ≡ a
    go true = refl
    go false = refl

-- over 65,535 no further digit helps
pub digits-over : (l : List ℕ) (n : ℕ) → 65535 < n → digits_from n l ≡ unreadable
unfolding digits_from
digits-over [] n h = sym (le_no _ _ _ _ h refl)
digits-over (b ∷ bs) n h = rw (digits-over bs (10 * n + (b - 48)) (omega arith), same_lt) (same_lt _ _ _)

pub digits-none : (s : List ℕ) → length s ≡ 0 → unreadable ≡ digits s
unfolding digits
digits-none [] h = refl
digits-none (b ∷ bs) h = absurd (omega arith)

pub digits_begin : (s : List ℕ) → 0 < length s → digits_from 0 s ≡ digits s
unfolding digits
digits_begin [] h = absurd (omega arith)
digits_begin (b ∷ bs) h = refl

module _ (s : List ℕ) (i n : ℕ) {v : Number} (e : digits_from n (drop i s) ≡ v) where
  pub digits_end : length s ≤ i → n ≤ 65535 → value n ≡ v
  unfolding digits_from
  digits_end h k = le_yes _ _ _ _ k refl ∙ rw (left-none s i h) at e

  module _ (h : i < length s) where
    pub digits_under : get_or s i 0 < 48 → unreadable ≡ v
    unfolding digits_from
    digits_under b = lt_yes _ _ _ _ b refl ∙ rw (left-cons s i h) at e

    pub digits_above : 57 < get_or s i 0 → unreadable ≡ v
    unfolding digits_from
    digits_above b = lt_no _ _ _ _ (omega arith) (lt_yes _ _ _ _ b refl) ∙ rw (left-cons s i h) at e

    pub digits-on : 48 ≤ get_or s i 0 → get_or s i 0 ≤ 57 → digits_from (10 * n + (get_or s i 0 - 48)) (drop (i + 1) s) ≡ v
    unfolding digits_from
    digits-on b d = lt_no _ _ _ _ b (lt_no _ _ _ _ d refl) ∙ rw (left-cons s i h) at e

    pub digits_large : 48 ≤ get_or s i 0 → get_or s i 0 ≤ 57 → 65535 < 10 * n + (get_or s i 0 - 48) → unreadable ≡ v
    digits_large b d o = sym (digits-over (drop (i + 1) s) _ o) ∙ digits-on b d

pub number-none : (s : List ℕ) → length s ≡ 0 → unreadable ≡ number s
unfolding number
number-none [] h = refl
number-none (b ∷ bs) h = absurd (omega arith)

module _ {r : Number} where
  pub number_plus : (s : List ℕ) → 0 < length s → r ≡ digits (drop 1 s) → get_or s 0 0 ≡ 43 → r ≡ number s
  unfolding number
  number_plus [] h e b = absurd (omega arith)
  number_plus (x ∷ xs) h e b = eq_yes _ _ _ _ b e

  pub number-plain : (s : List ℕ) → 0 < length s → r ≡ digits s → (get_or s 0 0 ≡ 43 → ⊥) → r ≡ number s
  unfolding number
  number-plain [] h e b = absurd (omega arith)
  number-plain (x ∷ xs) h e b = eq_no _ _ _ _ b e

-- ---- A number is at most 65,535

never : {n : ℕ} → unreadable ≡ value n → ⊥
never e = let z : ◌≡◌ {A = ℕ} 0 1 = cc in omega arith

from-small : (l : List ℕ) (n : ℕ) {m : ℕ} → digits_from n l ≡ value m → m ≤ 65535
unfolding digits_from
from-small [] n {m} e =
    let p = le-first n 65535 (value n) unreadable e never in
    let q : value n ≡ value m = p.1 in
    let same : n ≡ m = cc in
    omega arith
from-small (b ∷ bs) n e = from-small bs _ (lt_back _ _ _ _ (lt_back _ _ _ _ e never).1 never).1

digits-small : (l : List ℕ) {m : ℕ} → digits l ≡ value m → m ≤ 65535
unfolding digits
digits-small [] e = absurd (never e)
digits-small (b ∷ bs) e = from-small (b ∷ bs) 0 e

number_under : (l : List ℕ) {m : ℕ} → number l ≡ value m → m ≤ 65535
unfolding number if_eq
number_under [] e = absurd (never e)
number_under (b ∷ bs) {m} e = go (eqb b 43) e
  where
    go : (t : Bool) → pick t (digits bs) (digits (b ∷ bs)) ≡ value m → m ≤ 65535
    go true q = digits-small bs q
    go false q = digits-small (b ∷ bs) q

second_under : (r : Rest) {m : ℕ} → second r ≡ value m → m ≤ 65535
second_under absent {m} e = let same : 0 ≡ m = cc in omega arith
second_under (rest bs) e = number_under (first_part bs) e

module _ {a : Option ℕ} {m : ℕ} where
  pub number_small : (l : List ℕ) → number_of a ≡ number l → a ≡ Some m → m ≤ 65535
  number_small l e q = number_under l (sym e ∙ ap number_of q)

  pub second-small : (r : Rest) → number_of a ≡ second r → a ≡ Some m → m ≤ 65535
  second-small r e q = second_under r (sym e ∙ ap number_of q)

-- the verdict on a version number
abbrev pub fits : ℕ → Verdict
fits n = if_lt n 410 (refused 7 0) (if_lt 65535 n (refused 7 0) fine)

-- ---- The version, the verdict

module _ (s : List ℕ) {first : List ℕ} {past : Rest} (p : first ≡ first_part s) (t : past ≡ past_dot s) {a : Option ℕ} (e : number_of a ≡ number first) where
  pub version_first : a ≡ None → unreadable ≡ version_of s
  unfolding version_of
  version_first q = rw (← p, ← e, q)

  module _ {m : ℕ} (q : a ≡ Some m) {b : Option ℕ} (f : number_of b ≡ second past) where
    pub version_second : b ≡ None → unreadable ≡ version_of s
    unfolding version_of
    version_second r = rw (← p, ← t, ← e, q, ← f, r)

    pub version_both : {n : ℕ} → b ≡ Some n → value (100 * m + n) ≡ version_of s
    unfolding version_of
    version_both r = rw (← p, ← t, ← e, q, ← f, r)

module _ (v : List ℕ) {m : Bool} (e : m ≡ is_ascii v) where
  pub check_over : m ≡ false → refused 6 0 ≡ version_in v
  unfolding version_in
  check_over h = rw (← e, h)

  module _ (h : m ≡ true) {a : Option ℕ} (f : number_of a ≡ version_of (trimmed v)) where
    pub check_unread : a ≡ None → refused 6 0 ≡ version_in v
    unfolding version_in
    check_unread q = rw (← e, h, ← f, q)

    pub check_value : {n : ℕ} {r : Verdict} → a ≡ Some n → r ≡ fits n → r ≡ version_in v
    unfolding version_in
    check_value q k = rw (← e, h, ← f, q) k
