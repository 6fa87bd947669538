-- The bytes of a name one by one; the name that a CN's third link leads to.
use Rattle.std.specs.Prelude.{ℕ, zero, suc, ◌+◌, ◌-◌, ◌≤◌, ◌<◌, min, ◌≡◌, length, drop, replicate}
use mathlib.Core.List.{List, [], ◌∷◌, ◌++◌, map}
use Rattle.std.proofs.Math.Path.{refl, sym}
use Rattle.std.proofs.Common.{ap, ◌∙◌, add-one, sub-one, drop-cons}
use Rattle.std.proofs.Math.Nat.{sub-zero, min_comm}
use native.Mathlib.Omega.{arith}
use Rattle.std.proofs.Math.ListN.{get_or, take}
use Rattle.base.specs.ChoiceLaws.{lt_yes, lt_no, eq_yes, eq_no}
use Rattle.base.specs.Field.{le_at, le}
use Rattle.base.specs.Blit.{blit, part}
use Rattle.base.specs.BlitLaws.{blit-append}
use Rattle.mdf.specs.Block.{link_at}
use Rattle.puts.specs.PutLaws.{take_min}
use Rattle.result.specs.Sharing.{text_at}
use Rattle.sharing.specs.Text.{text_kind, body, BodyOf}
use Rattle.sharing.specs.TextLaws.{Told, none, some, told}
use Rattle.sheet.specs.Sheet.{ascii, left_in, up_to_zero, printable, name_text, name_of}
use Rattle.sheet.proofs.SheetLaws.{length-left, length-shown, prints}
use Rattle.sheets.specs.Name.{shown_text}
use Rattle.sheets.specs.Piece.{Piece}
use Rattle.sheets.specs.PieceLaws.{piece_as, piece_byte}

-- ---- how a byte prints
module _ (b : ℕ) where
  pub shown_low : b < 32 → 63 ≡ printable b
  unfolding printable
  shown_low h = lt_yes _ _ _ _ h refl

  pub shown_high : 32 ≤ b → 126 < b → 63 ≡ printable b
  unfolding printable
  shown_high h l = lt_no _ _ _ _ h (lt_yes _ _ _ _ l refl)

  pub shown-same : 32 ≤ b → b ≤ 126 → b ≡ printable b
  unfolding printable
  shown-same h l = lt_no _ _ _ _ h (lt_no _ _ _ _ l refl)

-- ---- the bytes of a text, where m of them stand from q on and room characters are left
part-first : (s : List ℕ) (q m : ℕ) → 0 < m → q + m ≤ length s → part q m s ≡ get_or s q 0 ∷ part (q + 1) (m - 1) s
unfolding part
part-first s q zero h l = absurd (omega arith)
part-first s q (suc m) h l = rw (drop-cons s q 0 (omega arith), add-one, sub-one)

byte_is : (s : List ℕ) (q : ℕ) {b : ℕ} → b ≡ le_at 1 s q → b ≡ get_or s q 0
unfolding le_at
byte_is s q e = omega (arith, e)

left_cons : (room x : ℕ) (xs : List ℕ) → left_in room (x ∷ xs) ≡ x ∷ left_in (room - 1) xs
unfolding left_in
left_cons room x xs = let e : room - suc (length xs) ≡ room - 1 - length xs = omega arith in rw e

left-none : (room : ℕ) → left_in room [] ≡ replicate room 32
unfolding left_in
left-none room = rw sub-zero

module _ (s : List ℕ) (q m room p : ℕ) (d : List ℕ) {g : List ℕ} (i : blit p (left_in room (shown_text s q m)) d ≡ g) where
  pub name_end : {e : List ℕ} → m ≤ 0 → Piece p (replicate room 32) room d e → e ≡ g
  unfolding part up_to_zero
  name_end h f = let z : m ≡ 0 = omega arith in f.is ∙ (rw (z, left-none room) at i)

  module _ (h : 0 < m) (l : q + m ≤ length s) {b : ℕ} (r : b ≡ le_at 1 s q) where
    pub name_zero : {e : List ℕ} → b ≡ 0 → Piece p (replicate room 32) room d e → e ≡ g
    unfolding up_to_zero
    name_zero z f =
        let y : get_or s q 0 ≡ 0 = sym (byte_is s q r) ∙ z in
        let cut : up_to_zero (part q m s) ≡ [] = rw (part-first s q m h l) (sym (eq_yes _ _ _ _ y refl)) in
        f.is ∙ (rw (cut, left-none room) at i)

    pub name_turn : {x : ℕ} {e : List ℕ} → (b ≡ 0 → ⊥) → x ≡ printable b → e ≡ blit p (le 1 x) d
        → {p' room' q' m' : ℕ} → p' ≡ p + 1 → room' ≡ room - 1 → q' ≡ q + 1 → m' ≡ m - 1
        → blit p' (left_in room' (shown_text s q' m')) e ≡ g
    unfolding up_to_zero
    name_turn {x} {e} z f w p₁ r₁ q₁ m₁ =
        let y : b ≡ get_or s q 0 = byte_is s q r in
        let kept : up_to_zero (part q m s) ≡ b ∷ up_to_zero (part (q + 1) (m - 1) s) =
        rw (part-first s q m h l, ← y) (sym (eq_no _ _ _ _ z refl)) in
        let small : x < 256 = rw f (omega (arith, (prints b).high)) in
        let one : Piece p (x ∷ []) 1 d e = piece_byte x small w in
        let rest = left_in (room - 1) (shown_text s (q + 1) (m - 1)) in
        let all : left_in room (shown_text s q m) ≡ (x ∷ []) ++ rest = rw (kept, f) (left_cons room (printable b) (shown_text s (q + 1) (m - 1))) in
        rw (p₁, r₁, q₁, m₁, one.is) (sym (blit-append (x ∷ []) p rest d) ∙ (rw all at i))

-- what was put is 32 characters
pub name_piece : (s : List ℕ) (q m : ℕ) {at : ℕ} {d e : List ℕ} → m ≤ 32 → e ≡ blit at (left_in 32 (shown_text s q m)) d
    → Piece at (left_in 32 (shown_text s q m)) 32 d e
unfolding part
name_piece s q m h e = record { is = e; long = length-left 32 (shown_text s q m) (omega (arith, length-shown m (drop q s))) }

-- ---- the name
module _ (s : List ℕ) (c : ℕ) {a kind : ℕ} (f : a ≡ link_at s c 2) (k : kind ≡ text_kind s a) where
  missing : kind ≡ 0 → ascii "-" ≡ name_of s c
  unfolding name_of
  missing z = go (told s a)
    where
      go : Told s a → ascii "-" ≡ name_text (text_at s (link_at s c 2))
      go (none x e) = rw (← f, e)
      go (some x e) = absurd (x (sym k ∙ z))

  pub name_missing : {at : ℕ} {d e : List ℕ} → kind ≡ 0 → Piece at (left_in 32 (ascii "-")) 32 d e → Piece at (left_in 32 (name_of s c)) 32 d e
  name_missing z p = piece_as p (ap (left_in 32) (missing z))

  module _ (y : kind ≡ 0 → ⊥) {m n : ℕ} (b : BodyOf s a m) (l : n ≡ min m 32) where
    named : shown_text s (a + 24) n ≡ name_of s c
    unfolding name_of part
    named = go (told s a)
      where
        first : take 32 (body s a) ≡ take n (drop (a + 24) s)
        first = rw (b.is, l, min_comm m 32) (sym (take_min 32 m (drop (a + 24) s)))

        go : Told s a → map printable (up_to_zero (take n (drop (a + 24) s))) ≡ name_text (text_at s (link_at s c 2))
        go (none x e) = absurd (y (k ∙ x))
        go (some x e) = rw (← f, e, first)

    empty : n ≡ 0 → [] ≡ name_of s c
    unfolding part up_to_zero
    empty z = rw z at named

    pub name_empty : {at : ℕ} {d e : List ℕ} → n ≡ 0 → Piece at (replicate 32 32) 32 d e → Piece at (left_in 32 (name_of s c)) 32 d e
    name_empty z p = piece_as p (sym (left-none 32) ∙ ap (left_in 32) (empty z))

    pub name_put : {at : ℕ} {d e : List ℕ} → Piece at (left_in 32 (shown_text s (a + 24) n)) 32 d e → Piece at (left_in 32 (name_of s c)) 32 d e
    name_put p = piece_as p (ap (left_in 32) named)

    pub name_inside : (n ≡ 0 → ⊥) → a + 24 + n ≤ length s
    name_inside z = let h : 0 < m = omega (arith, l) in omega (arith, b.inside h, l)
