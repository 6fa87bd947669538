-- The words of the kept columns, one column after the other.
use Prim.Native.Nat.{ℕ, zero, suc, ◌+◌, ◌*◌, ◌-◌, ◌≤◌, ◌<◌}
use mathlib.Core.List.{List, [], ◌∷◌}
use Rattle.std.specs.Prelude.{Bool, eqb, set, get_or, Some, None}
use Rattle.std.specs.Prelude as std
use Rattle.std.proofs.Math.Bool.{true, false}
use Rattle.std.proofs.Math.Option.{none, some}
use Rattle.std.proofs.Math.Path.{◌≡◌, refl}
use Rattle.std.proofs.Common.{sym, ap, ◌∙◌}
use Rattle.std.proofs.Math.Nat.{sub-zero}
use Rattle.std.proofs.Math.Numerals.{add-one}
use native.Mathlib.Omega.{arith}
use Rattle.std.proofs.Math.ListN.{length}
use Rattle.base.specs.Blit.{blit}
use Rattle.base.specs.BlitLaws.{blit-append}
use Rattle.base.specs.Choice.{pick, if_eq}
use Rattle.base.specs.ChoiceLaws.{eq_yes, eq_no, le-first}
use Rattle.base.specs.Checked.{Verdict, fine}
use Rattle.base.specs.CheckedLaws.{refused≢ok, then_fine}
use Rattle.mdf.specs.Block.{size_at, header_in}
use Rattle.mdf.specs.Chain.{dt, fragment, is_in}
use Rattle.plan.specs.Channel.{is_master_type}
use Rattle.plan.specs.Columns.{remote_link, Column, Signal, no_signal, signal_data, size_of_signal}
use Rattle.work_words.specs.Words.{fragment_words}
use Rattle.work_words.specs.PlanWords.{time_word, master_word, signal_word, column_words, columns_words, fragments_in, signal_fragments}
use Rattle.chains.specs.KeptLaws.{length-words, words_append}
use Rattle.file.specs.Form.{FileColumn, cycles}
use Rattle.ranges.specs.Open.{column_at, columns_of}
use Rattle.sheet.specs.Sheet.{number_at, master_of}
use Rattle.sheets.specs.Line.{found_as}
use Rattle.sheets.specs.LineLaws.{columns_open}
use Rattle.thin.specs.Kept.{signal_place, is_signal, signal_sound, master_sound, columns_sound, new_number, new_master, signal_kept, kept_column, kept_from}
use Rattle.taking.specs.Each.{each}
use Rattle.taking.specs.Sound.{sound_at}
use Rattle.taking.specs.SoundLaws.{sound-each}
use Rattle.taking.specs.Marks.{Marked}
use Rattle.taking.specs.Words.{SoundSignal, SignalPut, ColumnPut, ColumnsPut}

-- ---- after 24 every SD begins in the file
each-fine : (f : ℕ → Verdict) (n k : ℕ) → each f n k ≡ fine → (j : ℕ) → j < n → f (k + j) ≡ fine
unfolding each
each-fine f zero k e j h = absurd (omega arith)
each-fine f (suc n) k e zero h = let z : k + 0 ≡ k = omega arith in rw z (then_fine (f k) (λ _. each f n (k + 1)) e).0
each-fine f (suc n) k e (suc j) h =
    let z : k + suc j ≡ k + 1 + j = omega arith in
    rw z (each-fine f n (k + 1) (then_fine (f k) (λ _. each f n (k + 1)) e).1 j (omega arith))

sound_inside : (s : List ℕ) (c : ℕ) → signal_sound s c ≡ fine → SoundSignal s c
unfolding signal_sound is_signal header_in
sound_inside s c e = record { inside = inside }
  where
    inside : (signal_place s c ≡ 0 → ⊥) → signal_place s c + 24 ≤ length s
    inside z =
        let a = signal_place s c in
        let led : is_signal s a ≡ fine = eq_no _ _ _ _ z refl ∙ e in
        (le-first _ _ _ _ (then_fine (header_in s a) _ led).0 refused≢ok).0

pub all_inside : (s w : List ℕ) (all : List FileColumn) (n : ℕ) → columns_sound s all (columns_of s w n 0) ≡ fine
    → (k : ℕ) → k < n → SoundSignal s (column_at s w k).cn
unfolding sound_at
all_inside s w all n e k h =
    let z : 0 + k ≡ k = omega arith in
    let x : sound_at s w all k ≡ fine = rw z at (each-fine (sound_at s w all) n 0 (sound-each s w all n 0 ∙ e) k h) in
    sound_inside s (column_at s w k).cn (then_fine (signal_sound s (column_at s w k).cn) (λ _. master_sound s all (column_at s w k).cg) x).0

-- ---- the number among those kept
pub new_begin : (ns : List ℕ) → 0 ≡ new_number ns 0
unfolding new_number
new_begin ns = refl

module _ (ns : List ℕ) (k : ℕ) {m : List Bool} (r : Marked ns m) {count : ℕ} (e : count ≡ new_number ns k) where
  pub new_out : get_or m k false ≡ true → count ≡ new_number ns (k + 1)
  unfolding new_number
  new_out q = rw (add-one k, ← e, ← r.is k, q) (omega arith)

  pub new_kept : get_or m k false ≡ false → count + 1 ≡ new_number ns (k + 1)
  unfolding new_number
  new_kept q = rw (add-one k, ← e, ← r.is k, q) (omega arith)

pub new_end : (ns : List ℕ) {k m count : ℕ} → k ≤ m → m ≤ k → count ≡ new_number ns k → count ≡ new_number ns m
new_end ns {k} {m} g h e = let z : k ≡ m = omega arith in e ∙ rw z

-- ---- the words of type and master
pub time_one : {t u : Bool} → t ≡ u → t ≡ true → ◌≡◌ {A = ℕ} 1 (time_word u)
time_one e q = rw (← e, q)

pub time_zero : {t u : Bool} → t ≡ u → t ≡ false → ◌≡◌ {A = ℕ} 0 (time_word u)
time_zero e q = rw (← e, q)

number-below : (a k : ℕ) (cs : List FileColumn) {m : ℕ} → number_at a k cs ≡ some m → m < k + length cs
unfolding number_at if_eq
number-below a k [] {m} e = let z : ◌≡◌ {A = ℕ} 0 1 = cc in absurd (omega arith)
number-below a k (c ∷ cs) {m} e = go (eqb c.cg a) e (λ q. number-below a (k + 1) cs q)
  where
    go : (t : Bool) → pick t (some k) (number_at a (k + 1) cs) ≡ some m → (number_at a (k + 1) cs ≡ some m → m < k + 1 + length cs) → m < k + suc (length cs)
    go true q f = let z : k ≡ m = cc in omega arith
    go false q f = omega (arith, f q)

pub length-columns : (s w : List ℕ) (n k : ℕ) → length (columns_of s w n k) ≡ n
unfolding columns_of
length-columns s w zero k = refl
length-columns s w (suc n) k = ap suc (length-columns s w n (k + 1))

module _ (s w : List ℕ) (n g : ℕ) {r : std.Option ℕ} (e : found_as r ≡ master_of s (columns_of s w n 0) g) where
  pub master_zero : (ns : List ℕ) → r ≡ None → 0 ≡ master_word (new_master ns (master_of s (columns_of s w n 0) g))
  master_zero ns q = let o : none ≡ master_of s (columns_of s w n 0) g = rw q at e in rw (← o)

  module _ {k : ℕ} (q : r ≡ Some k) where
    some_master : some k ≡ master_of s (columns_of s w n 0) g
    some_master = rw q at e

    pub master_below : k < n
    unfolding master_of if_eq
    master_below = go (eqb (remote_link s g) 0) some_master
      where
        go : (t : Bool) → some k ≡ pick t none (number_at (remote_link s g) 0 (columns_of s w n 0)) → k < n
        go true x = let z : ◌≡◌ {A = ℕ} 0 1 = cc in absurd (omega arith)
        go false x = omega (arith, number-below (remote_link s g) 0 (columns_of s w n 0) (sym x), length-columns s w n 0)

    pub master_new : (ns : List ℕ) {x : ℕ} → x ≡ new_number ns k → x + 1 ≡ master_word (new_master ns (master_of s (columns_of s w n 0) g))
    master_new ns z = rw (← some_master, z)

-- ---- signal data
pub signal_room : {s : List ℕ} {c a : ℕ} → SoundSignal s c → a ≡ signal_place s c → (a ≡ 0 → ⊥) → a + 24 ≤ length s
signal_room r e z = rw e (r.inside (λ x. z (e ∙ x)))

module _ (s : List ℕ) (n c : ℕ) {a : ℕ} (e : a ≡ signal_place s c) where
  pub signal_none : (b : List ℕ) → a ≡ 0 → SignalPut s n c 0 b b
  unfolding signal_kept fragment_words blit
  signal_none b z =
      let o : no_signal ≡ signal_kept s c = eq_yes _ _ _ _ (sym e ∙ z) refl in
      record { count = rw (← o); few = omega arith; words = rw (← o) }

  pub signal_some : (b : List ℕ) {x : ℕ} {b' : List ℕ} → (a ≡ 0 → ⊥) → x ≡ size_at s a - 24 → b' ≡ blit (3 * n) ((a + 24) ∷ x ∷ 0 ∷ []) b → SignalPut s n c 1 b b'
  unfolding signal_kept fragment_words
  signal_some b {x} z q f =
      let o : signal_data (record { offset = a + 24; size = x; kind = dt } ∷ []) ≡ signal_kept s c = eq_no _ _ _ _ (λ y. z (e ∙ y)) (rw (q, e)) in
      record { count = rw (← o); few = omega arith; words = rw (← o) f }

pub word_of : (s : List ℕ) (n c : ℕ) {r x : ℕ} → r ≡ size_of_signal (signal_kept s c) → x ≡ if_eq r 0 0 (n + 1) → x ≡ signal_word n (signal_kept s c)
unfolding signal_kept if_eq
word_of s n c e f = f ∙ rw e (go (eqb (signal_place s c) 0))
  where
    go : (t : Bool) → if_eq (size_of_signal (pick t no_signal (signal_data (fragment s (signal_place s c) dt ∷ [])))) 0 0 (n + 1)
        ≡ signal_word n (pick t no_signal (signal_data (fragment s (signal_place s c) dt ∷ [])))
    go true = refl
    go false = refl

-- ---- a column
column_at_once : (s ns : List ℕ) (all : List FileColumn) (c : FileColumn) (j n : ℕ) {own records time master signal : ℕ} {b b' w w' : List ℕ}
    → SignalPut s n c.cn own b b' → records ≡ cycles s c.cg → time ≡ time_word (is_master_type s c.cn)
    → master ≡ master_word (new_master ns (master_of s all c.cg)) → signal ≡ if_eq own 0 0 (n + 1)
    → w' ≡ blit (8 * j) (c.cn ∷ c.cg ∷ c.dg ∷ records ∷ time ∷ master ∷ signal ∷ own ∷ []) w → ColumnPut (kept_column s ns all c) j n (n + own) b b' w w'
unfolding column_words
column_at_once s ns all c j n {signal = signal} p q t m g h =
    let z : signal ≡ signal_word n (signal_kept s c.cn) = word_of s n c.cn p.count g in
    record { count = rw p.count; fragments = p.words; words = h ∙ rw (q, t, m, z, p.count) }

pub column_put : (s ns : List ℕ) (all : List FileColumn) (c : FileColumn) (j n : ℕ) {cn cg dg own records time master signal : ℕ} {b b' w w' : List ℕ}
    → cn ≡ c.cn → cg ≡ c.cg → dg ≡ c.dg → SignalPut s n cn own b b' → records ≡ cycles s cg → time ≡ time_word (is_master_type s cn)
    → master ≡ master_word (new_master ns (master_of s all cg)) → signal ≡ if_eq own 0 0 (n + 1)
    → w' ≡ blit (8 * j) (cn ∷ cg ∷ dg ∷ records ∷ time ∷ master ∷ signal ∷ own ∷ []) w → ColumnPut (kept_column s ns all c) j n (n + own) b b' w w'
column_put s ns all c j n x y z p q t m g h =
    column_at_once s ns all c j n (rw x at p) (rw y at q) (rw x at t) (rw y at m) g (rw (x, y, z) at h)

-- ---- all: what is left of the columns, put from here on, gives what all give
pub record Putting (s w ns : List ℕ) (all : List FileColumn) (n k j m : ℕ) (b₀ b c₀ c : List ℕ) : Type 0 where
  pub count : j + length (kept_from s ns all k (columns_of s w (n - k) k)) ≡ length (kept_from s ns all 0 (columns_of s w n 0))
  pub fragments : blit (3 * m) (fragment_words (signal_fragments (kept_from s ns all k (columns_of s w (n - k) k)))) b
      ≡ blit 0 (fragment_words (signal_fragments (kept_from s ns all 0 (columns_of s w n 0)))) b₀
  pub words : blit (8 * j) (columns_words m (kept_from s ns all k (columns_of s w (n - k) k))) c
      ≡ blit 0 (columns_words 0 (kept_from s ns all 0 (columns_of s w n 0))) c₀

pub put_begin : (s w ns : List ℕ) (all : List FileColumn) (n : ℕ) (b c : List ℕ) → Putting s w ns all n 0 0 0 b b c c
put_begin s w ns all n b c = record { count = rw sub-zero (omega arith); fragments = rw sub-zero; words = rw sub-zero }

fragments_length : (g : Signal) → length (fragment_words (fragments_in g)) ≡ 3 * size_of_signal g
fragments_length no_signal = length-words []
fragments_length (signal_data fs) = length-words fs

module _ {s w ns : List ℕ} {all : List FileColumn} {n k j m : ℕ} {b₀ b c₀ c : List ℕ} (t : Putting s w ns all n k j m b₀ b c₀ c) where
  pub put_end : n ≤ k → ColumnsPut (kept_from s ns all 0 (columns_of s w n 0)) j b₀ b c₀ c
  unfolding kept_from columns_of columns_words signal_fragments fragment_words blit
  put_end h =
      let z : n - k ≡ 0 = omega arith in
      let x : j + 0 ≡ length (kept_from s ns all 0 (columns_of s w n 0)) = rw z at t.count in
      record { count = omega arith; fragments = rw z at t.fragments; words = rw z at t.words }

  module _ (h : k < n) {d : Bool} (e : d ≡ is_in k ns) where
    here : {f : Bool} → d ≡ f → kept_from s ns all k (columns_of s w (n - k) k)
        ≡ pick f (kept_from s ns all (k + 1) (columns_of s w (n - (k + 1)) (k + 1)))
        (kept_column s ns all (column_at s w k) ∷ kept_from s ns all (k + 1) (columns_of s w (n - (k + 1)) (k + 1)))
    unfolding kept_from
    here q =
        let z : n - k - 1 ≡ n - (k + 1) = omega arith in
        rw (columns_open s w (n - k) k (omega arith), z, ← e, q, add-one k)

    pub put_out : d ≡ true → Putting s w ns all n (k + 1) j m b₀ b c₀ c
    put_out q =
        record {
          count = rw (here q) at t.count;
          fragments = rw (here q) at t.fragments;
          words = rw (here q) at t.words;
        }

    pub put_next : {m' : ℕ} {b' c' : List ℕ} → d ≡ false → ColumnPut (kept_column s ns all (column_at s w k)) j m m' b b' c c'
        → Putting s w ns all n (k + 1) (j + 1) m' b₀ b' c₀ c'
    unfolding columns_words signal_fragments column_words
    put_next {m'} {b'} {c'} q p =
        let kc : Column = kept_column s ns all (column_at s w k) in
        let ks : List Column = kept_from s ns all (k + 1) (columns_of s w (n - (k + 1)) (k + 1)) in
        let x : j + suc (length ks) ≡ length (kept_from s ns all 0 (columns_of s w n 0)) = rw (here q) at t.count in
        let at3 : 3 * m + length (fragment_words (fragments_in kc.signal_of)) ≡ 3 * m' = omega (arith, fragments_length kc.signal_of, p.count) in
        let at8 : 8 * j + 8 ≡ 8 * (j + 1) = omega arith in
        record {
          count = omega arith;
          fragments = rw (p.fragments, ← at3)
              (sym (blit-append (fragment_words (fragments_in kc.signal_of)) (3 * m) (fragment_words (signal_fragments ks)) b)
              ∙ rw (← words_append (fragments_in kc.signal_of) (signal_fragments ks)) (rw (here q) at t.fragments));
          words = rw (p.words, ← at8, p.count)
              (sym (blit-append (column_words m kc) (8 * j) (columns_words (m + size_of_signal kc.signal_of) ks) c) ∙ (rw (here q) at t.words));
        }
