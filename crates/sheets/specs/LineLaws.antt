-- The master sought among the columns' words; the parts of a line, one after the other.
use Rattle.std.specs.Prelude.{ℕ, zero, suc, ◌+◌, ◌*◌, ◌-◌, ◌≤◌, ◌<◌, List, ◌∷◌, ◌++◌, true, false, ◌≡◌, get_or}
use Rattle.std.proofs.Common.{append_assoc, sym, ap, ◌∙◌, sub-one}
use Rattle.std.proofs.Math.Option.{Option, none, some}
use Rattle.std.proofs.Math.Path.{refl}
use Rattle.std.proofs.Math.Nat.{sub-zero}
use native.Mathlib.Omega.{arith}
use Rattle.base.specs.ChoiceLaws.{eq_yes, eq_no}
use Rattle.base.specs.Field.{le}
use Rattle.base.specs.Blit.{blit}
use Rattle.mdf.specs.Group.{samples}
use Rattle.plan.specs.Channel.{is_master_type}
use Rattle.plan.specs.Columns.{remote_link}
use Rattle.file.specs.Form.{FileColumn, cycles}
use Rattle.ranges.specs.Open.{column_at, columns_of}
use Rattle.sheet.specs.Sheet.{ascii, left_in, right_in, kind_of, name_of, number_at, master_of, master_in, sheet_line}
use Rattle.std.specs.Prelude as std
use Rattle.sheets.specs.Piece.{Piece}
use Rattle.sheets.specs.PieceLaws.{piece_then, piece_as, piece_byte}
use Rattle.sheets.specs.Line.{found_as, KindOf, front_text, sizes_text}

-- ---- columns in words
pub columns_open : (s w : List ℕ) (m k : ℕ) → 0 < m → columns_of s w m k ≡ column_at s w k ∷ columns_of s w (m - 1) (k + 1)
unfolding columns_of
columns_open s w zero k h = absurd (omega arith)
columns_open s w (suc m) k h = rw (sub-one (suc m))

-- ---- the number of the column whose CG stands at a: what is left of n columns from number k on gives what all give
pub number_begin : (w : List ℕ) (n a : ℕ) (s : List ℕ) → number_at a 0 (columns_of s w (n - 0) 0) ≡ number_at a 0 (columns_of s w n 0)
number_begin w n a s = rw sub-zero

module _ (s w : List ℕ) (n a k : ℕ) {m : Option ℕ} (i : number_at a k (columns_of s w (n - k) k) ≡ m) where
  pub number_end : n ≤ k → none ≡ m
  unfolding number_at columns_of
  number_end h = let z : n - k ≡ 0 = omega arith in rw z at i

  module _ (h : k < n) where
    opened_there : columns_of s w (n - k) k ≡ column_at s w k ∷ columns_of s w (n - (k + 1)) (k + 1)
    opened_there = let e : n - k - 1 ≡ n - (k + 1) = omega arith in columns_open s w (n - k) k (omega arith) ∙ rw e

    pub number-here : get_or w (3 * k + 1) 0 ≡ a → some k ≡ m
    unfolding number_at
    number-here e = eq_yes _ _ _ _ e refl ∙ (rw opened_there at i)

    pub number-on : (get_or w (3 * k + 1) 0 ≡ a → ⊥) → number_at a (k + 1) (columns_of s w (n - (k + 1)) (k + 1)) ≡ m
    unfolding number_at
    number-on e = eq_no _ _ _ _ e refl ∙ (rw opened_there at i)

-- ---- the master
module _ (s : List ℕ) (all : List FileColumn) (g : ℕ) {link : ℕ} (l : link ≡ remote_link s g) where
  pub master_none : link ≡ 0 → none ≡ master_of s all g
  unfolding master_of
  master_none z = eq_yes _ _ _ _ (sym l ∙ z) refl

  pub master_sought : {m : Option ℕ} → (link ≡ 0 → ⊥) → m ≡ number_at link 0 all → m ≡ master_of s all g
  unfolding master_of
  master_sought z f = eq_no _ _ _ _ (λ x. z (l ∙ x)) (f ∙ rw l)

module _ (s : List ℕ) (all : List FileColumn) (g : ℕ) {r : std.Option ℕ} (f : found_as r ≡ master_of s all g) {at : ℕ} {d e : List ℕ} where
  pub master_nothing : r ≡ std.None → Piece at (left_in 10 (ascii "-")) 10 d e → Piece at (master_in (master_of s all g)) 10 d e
  master_nothing q p = let o : none ≡ master_of s all g = rw q at f in piece_as p (ap master_in o)

  pub master_column : {k : ℕ} → r ≡ std.Some k → Piece at (right_in 10 k) 10 d e → Piece at (master_in (master_of s all g)) 10 d e
  master_column {k} q p = let o : some k ≡ master_of s all g = rw q at f in piece_as p (ap master_in o)

-- ---- the kind
module _ (s : List ℕ) (c : ℕ) where
  pub kind_time : true ≡ is_master_type s c → KindOf s c 116
  unfolding kind_of left_in
  kind_time e = record { is = rw (← e); small = omega arith }

  pub kind_signal : false ≡ is_master_type s c → KindOf s c 115
  unfolding kind_of left_in
  kind_signal e = record { is = rw (← e); small = omega arith }

-- ---- parts of a line
blank : {at : ℕ} {d e : List ℕ} → e ≡ blit at (le 1 32) d → Piece at (ascii " ") 1 d e
blank q = piece_byte 32 (omega arith) q

pub front_put : (s : List ℕ) (k c : ℕ) {at r : ℕ} {d₀ d₁ d₂ d₃ d₄ : List ℕ} → KindOf s c r → Piece at (right_in 8 k) 8 d₀ d₁ → d₂ ≡ blit (at + 8) (le 1 32) d₁
    → d₃ ≡ blit (at + 9) (le 1 r) d₂ → d₄ ≡ blit (at + 10) (le 1 32) d₃ → Piece at (front_text s k c) 11 d₀ d₄
unfolding front_text
front_put s k c {r = r} t p q u v = piece_then (piece_then (piece_then p (blank q)) (piece_as (piece_byte r t.small u) (sym t.is))) (blank v)

pub sizes_put : (s : List ℕ) (g : ℕ) {at b n : ℕ} {d₀ d₁ d₂ d₃ : List ℕ} → b ≡ samples s g → n ≡ cycles s g → Piece at (right_in 12 b) 12 d₀ d₁
    → d₂ ≡ blit (at + 12) (le 1 32) d₁ → Piece (at + 13) (right_in 12 n) 12 d₂ d₃ → Piece at (sizes_text s g) 25 d₀ d₃
unfolding sizes_text
sizes_put s g x y p q u = piece_then (piece_then (piece_as p (ap (right_in 12) x)) (blank q)) (piece_as u (ap (right_in 12) y))

-- ---- a line with its newline
pub line_put : (s w : List ℕ) (n k : ℕ) {at g c : ℕ} {d₀ d₁ d₂ d₃ d₄ d₅ d₆ d₇ : List ℕ} → g ≡ get_or w (3 * k + 1) 0 → c ≡ get_or w (3 * k + 2) 0
    → Piece at (front_text s k c) 11 d₀ d₁ → Piece (at + 11) (left_in 32 (name_of s c)) 32 d₁ d₂ → d₃ ≡ blit (at + 43) (le 1 32) d₂
    → Piece (at + 44) (sizes_text s g) 25 d₃ d₄ → d₅ ≡ blit (at + 69) (le 1 32) d₄ → Piece (at + 70) (master_in (master_of s (columns_of s w n 0) g)) 10 d₅ d₆
    → d₇ ≡ blit (at + 80) (le 1 10) d₆ → Piece at (sheet_line s (columns_of s w n 0) k (column_at s w k) ++ ascii "\n") 81 d₀ d₇
unfolding sheet_line front_text sizes_text
line_put s w n k x y p q u v z t o =
    piece_as (piece_then (piece_then (piece_then (piece_then (piece_then (piece_then p q) (blank u)) v) (blank z)) t) (piece_byte 10 (omega arith) o))
    (rw (x, y) (simp append_assoc))
