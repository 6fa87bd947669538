-- The fragments ahead of a cursor, and their joined bytes.
use Rattle.std.specs.Prelude.{ℕ, zero, suc, ◌+◌, ◌-◌, ◌≤◌, ◌<◌, min, Bool, true, false, ◌≡◌, ◌⊎◌, ltb, length, get_or, take, drop}
use mathlib.Core.List.{List, [], ◌∷◌, ◌++◌}
use Rattle.std.proofs.Math.Path.{refl, sym}
use Rattle.std.proofs.Common.{ap, ◌∙◌, inl, inr, add-zero, arith, ltb-true, ltb-false, length-drop, take-take, drop-cons, drop-drop, take-add, length-take-le, get_or-drop, get_or-take}
use Rattle.std.proofs.Math.Logic.{⊎_elim}
use Rattle.std.proofs.Math.Nat.{suc-min-suc}
use Rattle.std.proofs.Math.ListN.{get_or-append}
use Rattle.std.proofs.Math.Seq.{take-nil, drop-nil, drop-append-add}
use Rattle.std.proofs.lemmas.List.{take-append-le, drop-append-le}
use Rattle.base.specs.ChoiceLaws.{lt_back, lt_no, le_yes, le_no, eq_yes, eq_no}
use Rattle.base.specs.Blit.{part, blit}
use Rattle.base.specs.BlitLaws.{blit-append}
use Rattle.base.specs.Checked.{fine}
use Rattle.mdf.specs.Chain.{Fragment}
use Rattle.work_words.specs.Words.{kind_of, fragments_of}
use Rattle.mdf.specs.Records.{ranges_in, joined, size_of}
use Rattle.payload_laws.specs.Answers.{refused≢ok}
use Rattle.payload_laws.specs.Lists.{length_part}
use Rattle.payload_laws.specs.SortedLaws.{joined_length}
use Rattle.joined.specs.declared.cursor.Cursor.{Cursor}
use Rattle.joined.specs.Ahead.{later, here, ahead, next_of, moved, shorter, past, settled, Settled}

pub lt_or_le : (m n : ℕ) → (m < n) ⊎ (n ≤ m)
lt_or_le m n = go (ltb m n) refl
  where
    go : (t : Bool) → ltb m n ≡ t → (m < n) ⊎ (n ≤ m)
    go true q = inl (ltb-true m n q)
    go false q = inr (ltb-false m n q)

-- ---- the words
pub later_more : (ws : List ℕ) (i : ℕ) → i + 3 ≤ length ws
    → later ws i ≡ record { offset = get_or ws i 0; size = get_or ws (i + 1) 0; kind = kind_of (get_or ws (i + 2) 0) } ∷ later ws (i + 3)
unfolding later fragments_of
later_more ws i h =
    let a = drop-cons ws i 0 (omega arith) in
    let b = drop-cons ws (suc i) 0 (omega arith) in
    let c = drop-cons ws (suc (suc i)) 0 (omega arith) in
    let e : i + 3 ≡ suc (suc (suc i)) = omega arith in
    let f : i + 1 ≡ suc i = omega arith in
    let g : i + 2 ≡ suc (suc i) = omega arith in
    rw (a, b, c, e, f, g)

short : (ws : List ℕ) → length ws < 3 → fragments_of ws ≡ []
unfolding fragments_of
short [] h = refl
short (a ∷ []) h = refl
short (a ∷ b ∷ []) h = refl
short (a ∷ b ∷ c ∷ ws) h = absurd (omega arith)

pub later-none : (ws : List ℕ) (i : ℕ) → length ws < i + 3 → later ws i ≡ []
unfolding later
later-none ws i h = short (drop i ws) (simp length-drop (omega arith))

-- what is ahead begins with what is left of a fragment, then comes what is ahead of the next
pub ahead-next : (ws : List ℕ) (c : Cursor) → c.at + 3 ≤ length ws → ahead ws c ≡ here ws c ∷ ahead ws (next_of ws c)
unfolding ahead
ahead-next ws c h =
    let e : c.at + 3 - 1 ≡ c.at + 2 = omega arith in
    rw (later_more ws c.at h, e)

-- there is a next fragment, if more is ahead than is left here
pub more-words : (ws : List ℕ) (c : Cursor) (m : ℕ) → m ≤ size_of (ahead ws c) → c.left < m → c.at + 3 ≤ length ws
unfolding ahead size_of
more-words ws c m h l =
    ⊎_elim (λ p. let z : size_of (later ws c.at) ≡ 0 = rw (later-none ws c.at p) in absurd (omega arith)) (λ p. p)
    (lt_or_le (length ws) (c.at + 3))

pub next-at : (ws : List ℕ) (k : Cursor) {r : Cursor} → r ≡ next_of ws k → r.at ≡ k.at + 3
next-at ws k e = rw e

-- ---- ranges and sizes
pub ranges_head : (s : List ℕ) (f : Fragment) (fs : List Fragment) → ranges_in s (f ∷ fs) ≡ fine → f.offset + f.size ≤ length s
unfolding ranges_in
ranges_head s f fs e = (lt_back _ _ _ _ e refused≢ok).0

pub ranges_tail : (s : List ℕ) (f : Fragment) (fs : List Fragment) → ranges_in s (f ∷ fs) ≡ fine → ranges_in s fs ≡ fine
unfolding ranges_in
ranges_tail s f fs e = (lt_back _ _ _ _ e refused≢ok).1

pub ranges_cons : (s : List ℕ) (f : Fragment) (fs : List Fragment) → f.offset + f.size ≤ length s → ranges_in s fs ≡ fine → ranges_in s
    (f ∷ fs) ≡ fine
unfolding ranges_in
ranges_cons s f fs h e = sym (lt_no _ _ _ _ h (sym e))

pub ranges_here : (s ws : List ℕ) (c : Cursor) → ranges_in s (ahead ws c) ≡ fine → c.position + c.left ≤ length s
unfolding ahead
ranges_here s ws c e = ranges_head s (here ws c) (later ws c.at) e

-- ---- past m bytes
pub part-part : (o n m : ℕ) (l : List ℕ) → m ≤ n → take m (part o n l) ≡ part o m l
unfolding part
part-part o n m l h = take-take m n (drop o l) h

pub drop-take : {A : Type 0} (m n : ℕ) (l : List A) → drop m (take n l) ≡ take (n - m) (drop m l)
drop-take zero n l = let e : n - 0 ≡ n = omega arith in rw e
drop-take (suc m) zero l = let e : 0 - suc m ≡ 0 = omega arith in rw e
drop-take (suc m) (suc n) [] = sym (take-nil (suc n - suc m))
drop-take (suc m) (suc n) (x ∷ l) = let e : suc n - suc m ≡ n - m = omega arith in rw e (drop-take m n l)

drop-part : (m o n : ℕ) (l : List ℕ) → drop m (part o n l) ≡ part (o + m) (n - m) l
unfolding part
drop-part m o n l = drop-take m n (drop o l) ∙ rw (drop-drop m o l)

module _ (m : ℕ) (f : Fragment) (fs : List Fragment) where
  pub past_in_lem : m ≤ f.size → past m (f ∷ fs) ≡ shorter m f ∷ fs
  unfolding past
  past_in_lem h = sym (le_yes _ _ _ _ h refl)

  pub past-on : f.size < m → past m (f ∷ fs) ≡ past (m - f.size) fs
  unfolding past
  past-on h = sym (le_no _ _ _ _ h refl)

pub size-past : (m : ℕ) (fs : List Fragment) → m ≤ size_of fs → size_of (past m fs) ≡ size_of fs - m
unfolding size_of past
size-past m [] h = omega arith
size-past m (f ∷ fs) h =
    ⊎_elim (λ l. rw (past-on m f fs l) (size-past (m - f.size) fs (omega arith) ∙ omega arith)) (λ l. rw (past_in_lem m f fs l) (omega arith))
    (lt_or_le f.size m)

pub ranges_past : (s : List ℕ) (m : ℕ) (fs : List Fragment) → ranges_in s fs ≡ fine → ranges_in s (past m fs) ≡ fine
unfolding past
ranges_past s m [] e = e
ranges_past s m (f ∷ fs) e =
    let h = ranges_head s f fs e in
    let t = ranges_tail s f fs e in
    ⊎_elim (λ l. rw (past-on m f fs l) (ranges_past s (m - f.size) fs t))
    (λ l. rw (past_in_lem m f fs l) (ranges_cons s (shorter m f) fs (omega arith) t))
    (lt_or_le f.size m)

pub joined-past : (s : List ℕ) (m : ℕ) (fs : List Fragment) → ranges_in s fs ≡ fine → joined s (past m fs) ≡ drop m (joined s fs)
unfolding joined past
joined-past s m [] e = sym (drop-nil m)
joined-past s m (f ∷ fs) e =
    let h = ranges_head s f fs e in
    let x : List ℕ = part f.offset f.size s in
    let y : List ℕ = joined s fs in
    let lx : length x ≡ f.size = length_part f.offset f.size s h in
    ⊎_elim
    (λ l. let j : m ≡ length x + (m - f.size) = omega arith in
    rw (past-on m f fs l)
    (joined-past s (m - f.size) fs (ranges_tail s f fs e) ∙
    sym (ap (λ (z : ℕ). drop z (x ++ y)) j ∙ drop-append-add x y (m - f.size))))
    (λ l. rw (past_in_lem m f fs l, ← drop-part m f.offset f.size s) (sym (drop-append-le m x y (omega arith))))
    (lt_or_le f.size m)

-- ---- fragments without bytes
pub settled-none : (f : Fragment) (fs : List Fragment) → f.size ≡ 0 → settled (f ∷ fs) ≡ settled fs
unfolding settled
settled-none f fs h = sym (eq_yes _ _ _ _ h refl)

pub settled-some : (f : Fragment) (fs : List Fragment) → 0 < f.size → settled (f ∷ fs) ≡ f ∷ fs
unfolding settled
settled-some f fs h = sym (eq_no _ _ _ _ (λ e. omega arith) refl)

pub zero_or_more : (n : ℕ) → (n ≡ 0) ⊎ (0 < n)
zero_or_more zero = inl refl
zero_or_more (suc n) = inr (omega arith)

pub joined-zero : (s : List ℕ) (f : Fragment) (fs : List Fragment) → f.size ≡ 0 → joined s (f ∷ fs) ≡ joined s fs
unfolding joined part
joined-zero s f fs h = rw h

module _ (s : List ℕ) where
  pub joined-settled : (fs : List Fragment) → joined s (settled fs) ≡ joined s fs
  unfolding settled
  joined-settled [] = refl
  joined-settled (f ∷ fs) =
      ⊎_elim (λ z. rw (settled-none f fs z) (joined-settled fs ∙ sym (joined-zero s f fs z))) (λ l. rw (settled-some f fs l))
      (zero_or_more f.size)

  pub ranges_settled : (fs : List Fragment) → ranges_in s fs ≡ fine → ranges_in s (settled fs) ≡ fine
  unfolding settled
  ranges_settled [] e = e
  ranges_settled (f ∷ fs) e =
      ⊎_elim (λ z. rw (settled-none f fs z) (ranges_settled fs (ranges_tail s f fs e))) (λ l. rw (settled-some f fs l) e)
      (zero_or_more f.size)

-- ---- skipping: what is past the bytes to be skipped stays the same
pub record Skipping (s ws : List ℕ) (k : Cursor) (more : ℕ) (g : List Fragment) : Type 0 where
  pub ranges : ranges_in s (ahead ws k) ≡ fine
  pub enough : more ≤ size_of (ahead ws k)
  pub rest : past more (ahead ws k) ≡ g

pub skipping_next : {s ws : List ℕ} {k : Cursor} {more : ℕ} {g : List Fragment} → Skipping s ws k more g → k.left < more
    → Skipping s ws (next_of ws k) (more - k.left) g
unfolding size_of
skipping_next {s} {ws} {k} {more} t l =
    let w = more-words ws k more t.enough l in
    let e = ahead-next ws k w in
    let fs : List Fragment = ahead ws (next_of ws k) in
    let n : more ≤ k.left + size_of fs = rw e at t.enough in
    record {
      ranges = ranges_tail s (here ws k) fs (rw e at t.ranges);
      enough = omega arith;
      rest = sym (past-on more (here ws k) fs l) ∙ (rw e at t.rest);
    }

pub skipping_end : {s ws : List ℕ} {k : Cursor} {more : ℕ} {g : List Fragment} → Skipping s ws k more g → more ≤ k.left
    → ahead ws (moved k more) ≡ g
unfolding ahead
skipping_end {s} {ws} {k} {more} t l = sym (past_in_lem more (here ws k) (later ws k.at) l) ∙ t.rest

-- ---- settling
pub record Settling (ws : List ℕ) (k : Cursor) (g : List Fragment) : Type 0 where
  pub some : 0 < size_of (ahead ws k)
  pub rest : settled (ahead ws k) ≡ g

pub settling_next : {ws : List ℕ} {k : Cursor} {g : List Fragment} → Settling ws k g → k.left ≡ 0
    → (k.at + 3 ≤ length ws) × Settling ws (next_of ws k) g
unfolding size_of
settling_next {ws} {k} t z =
    let w = more-words ws k 1 t.some (omega arith) in
    let e = ahead-next ws k w in
    let fs : List Fragment = ahead ws (next_of ws k) in
    let n : 0 < k.left + size_of fs = rw e at t.some in
    (w, record { some = omega arith; rest = sym (settled-none (here ws k) fs z) ∙ (rw e at t.rest) })

pub settling_end : {ws : List ℕ} {k : Cursor} {g : List Fragment} → Settling ws k g → 0 < k.left → ahead ws k ≡ g
unfolding ahead
settling_end {ws} {k} t l = sym (settled-some (here ws k) (later ws k.at) l) ∙ t.rest

-- ---- bytes of the fragment that the cursor is in
pub past-here : (ws : List ℕ) (k : Cursor) (m : ℕ) → m ≤ k.left → past m (ahead ws k) ≡ ahead ws (moved k m)
unfolding ahead
past-here ws k m h = past_in_lem m (here ws k) (later ws k.at) h

pub take-here : (s ws : List ℕ) (k : Cursor) (m : ℕ) → ranges_in s (ahead ws k) ≡ fine → m ≤ k.left
    → take m (joined s (ahead ws k)) ≡ part k.position m s
unfolding ahead joined
take-here s ws k m r h =
    let x : List ℕ = part k.position k.left s in
    let l : length x ≡ k.left = length_part k.position k.left s (ranges_head s (here ws k) (later ws k.at) r) in
    take-append-le m x (joined s (later ws k.at)) (omega arith) ∙ part-part k.position k.left m s h

pub some_least : (a b : ℕ) → 0 < a → 0 < b → 0 < min a b
some_least (suc a) (suc b) p q = rw suc-min-suc (omega arith)
some_least zero b p q = absurd (omega arith)
some_least (suc a) zero p q = absurd (omega arith)

-- ---- copying: so many bytes from here on, laid at index to, give g
pub record Copying (s ws : List ℕ) (k : Cursor) (left to : ℕ) (out g : List ℕ) : Type 0 where
  pub ranges : ranges_in s (ahead ws k) ≡ fine
  pub enough : left ≤ size_of (ahead ws k)
  pub bytes : blit to (take left (joined s (ahead ws k))) out ≡ g

pub copying_next : {s ws out g : List ℕ} {k : Cursor} {left to : ℕ} → Copying s ws k left to out g → 0 < left → k.left ≡ 0
    → (k.at + 3 ≤ length ws) × Copying s ws (next_of ws k) left to out g
unfolding size_of
copying_next {s} {ws} {out} {g} {k} {left} {to} t l z =
    let w = more-words ws k left t.enough (omega arith) in
    let e = ahead-next ws k w in
    let fs : List Fragment = ahead ws (next_of ws k) in
    let n : left ≤ k.left + size_of fs = rw e at t.enough in (
      w,
      record {
        ranges = ranges_tail s (here ws k) fs (rw e at t.ranges);
        enough = omega arith;
        bytes = rw (e, joined-zero s (here ws k) fs z) at t.bytes;
      },
    )

pub copying_piece : {s ws out g last : List ℕ} {k : Cursor} {left to : ℕ} (m : ℕ) → Copying s ws k left to out g → m ≤ left → m ≤ k.left
    → last ≡ blit to (part k.position m s) out → Copying s ws (moved k m) (left - m) (to + m) last g
copying_piece {s} {ws} {out} {g} {last} {k} {left} {to} m t a b e =
    let fs : List Fragment = ahead ws k in
    let all : List ℕ = joined s fs in
    let p : past m fs ≡ ahead ws (moved k m) = past-here ws k m b in
    let j : joined s (ahead ws (moved k m)) ≡ drop m all = rw (← p) (joined-past s m fs t.ranges) in
    let sz : size_of (ahead ws (moved k m)) ≡ size_of fs - m = rw (← p) (size-past m fs (omega (arith, t.enough))) in
    let sp : left ≡ m + (left - m) = omega arith in
    let tk : take left all ≡ take m all ++ take (left - m) (drop m all) = ap (λ (i : ℕ). take i all) sp ∙ take-add m (left - m) all in
    let lm : length (take m all) ≡ m = length-take-le m all (rw (joined_length s fs t.ranges) (omega (arith, t.enough))) in
    let by : blit (to + m) (take (left - m) (drop m all)) (blit to (take m all) out) ≡ g = rw (tk, blit-append, lm) at t.bytes in
    let la : last ≡ blit to (take m all) out = e ∙ rw (take-here s ws k m t.ranges b) in
    record {
      ranges = rw (← p) (ranges_past s m fs t.ranges);
      enough = omega (arith, t.enough);
      bytes = rw (la, j) by;
    }

-- ---- the first byte of what is ahead
byte_ahead : (s ws : List ℕ) (k : Cursor) → ranges_in s (ahead ws k) ≡ fine → 0 < k.left
    → get_or s k.position 0 ≡ get_or (joined s (ahead ws k)) 0 0
unfolding ahead joined part
byte_ahead s ws k r h =
    let p = ranges_here s ws k r in
    let n : length (take k.left (drop k.position s)) ≡ k.left = length-take-le k.left (drop k.position s)
    (simp length-drop (omega arith)) in
    sym (get_or-append (take k.left (drop k.position s)) (joined s (later ws k.at)) 0 0 (omega arith)
    ∙ get_or-take k.left (drop k.position s) 0 0 h ∙ get_or-drop k.position s 0 0 ∙ rw add-zero)

-- byte i of what is ahead, at the first fragment with bytes past i of them
pub byte_settled : (s ws : List ℕ) (k a b : Cursor) (i : ℕ) → ranges_in s (ahead ws k) ≡ fine → i < size_of (ahead ws k)
    → ahead ws a ≡ past i (ahead ws k) → (0 < size_of (ahead ws a) → Settled ws a b)
    → (b.position < length s) × (get_or s b.position 0 ≡ get_or (joined s (ahead ws k)) i 0)
byte_settled s ws k a b i r l e f =
    let n = size-past i (ahead ws k) (omega arith) in
    let t : Settled ws a b = f (rw e (omega arith)) in
    let ra : ranges_in s (ahead ws a) ≡ fine = rw e (ranges_past s i (ahead ws k) r) in
    let rb : ranges_in s (ahead ws b) ≡ fine = rw t.is (ranges_settled s (ahead ws a) ra) in
    let j : joined s (ahead ws b) ≡ drop i (joined s (ahead ws k)) =
    ap (joined s) t.is ∙ joined-settled s (ahead ws a) ∙ ap (joined s) e ∙ joined-past s i (ahead ws k) r in
    let h = ranges_here s ws b rb in
    let z = t.some in (
      omega arith,
      byte_ahead s ws b rb t.some ∙ ap (λ (l : List ℕ). get_or l 0 0) j ∙ get_or-drop i (joined s (ahead ws k)) 0 0 ∙ rw add-zero,
    )
