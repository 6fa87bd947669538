-- Laws of the data stage out of words: one for each way of the code, and that the stage is that of the columns and fragments which stand in the words.
use Prim.Native.Nat.{ℕ, zero, suc, ◌+◌, ◌*◌, ◌-◌, ◌≤◌, ◌<◌, min}
use mathlib.Core.List.{List, [], ◌∷◌}
use Rattle.std.specs.Prelude.{Bool, true, false, ◌≡◌, eqb, take, drop, ltb, Result, Ok, Err, ⊤}
use borrow.Author.Tests.{eqb-true, eqb-false}
use Rattle.std.proofs.Math.Path.{refl, sym}
use Rattle.std.proofs.Common.{ap, ◌∙◌, zero-add, le_of_lt, ltb-true, ltb-false, length-append, length-drop, take_all}
use Rattle.std.proofs.Math.Nat.{min-eq_left, min-eq_right, min-le_right}
use native.Mathlib.Omega.{arith}
use borrow.Rule.Slice.PartMut.{mid_of}
use Rattle.std.proofs.Math.ListN.{length, get_or}
use Rattle.base.specs.Choice.{pick, if_eq}
use Rattle.base.specs.ChoiceLaws.{lt_yes, lt_no, eq_yes, eq_no}
use Rattle.base.specs.Blit.{part}
use Rattle.base.specs.Checked.{ok, refused, and_then, Verdict, fine}
use Rattle.fields.specs.declared.refusal.Refusal.{Refusal}
use Rattle.fields.specs.Answer.{verdict_of, refused_by}
use Rattle.mdf.specs.Chain.{Fragment}
use Rattle.mdf.specs.Walk.{Item, dg, cg, cn}
use Rattle.mdf.specs.Group.{DataGroup, addresses, groups_of, up_to, data_groups_of}
use Rattle.work_words.specs.Words.{fragment_words, fragments_of}
use Rattle.mdf.specs.Records.{ranges_in, sorted_in, unsorted_frames}
use Rattle.mdf.specs.Count.{count_groups}
use Rattle.chains.specs.KeptLaws.{length-words, words_append, words_back}
use Rattle.plan.specs.Columns.{Column, Signal, no_signal, signal_data, size_of_signal}
use Rattle.work_words.specs.PlanWords.{column_words, columns_words, signal_word, fragments_in, signal_fragments}
use Rattle.plan.specs.Data.{any_nonempty, records_in, signal_in, signals_in, data_in, all_data_in}
use Rattle.result.specs.Guarantee.{In, here, there}
use Rattle.plan_laws.specs.Answers.{with_ok}
use Rattle.plan_laws.specs.GroupLaws.{Counted, and_more, addresses-length}
use Rattle.reading.specs.Holding.{Stands}
use Rattle.reading.specs.StandsLaws.{stands_front, stands_back, stands_at, stands_as_lem, stands_part}
use Rattle.reading.specs.ItemLaws.{part_fragments}
use Rattle.planning.specs.Items.{items_from}
use Rattle.planning.specs.SpanLaws.{no_items, next-dg, next-cg, next-cn}
use Rattle.planning.specs.HeldLaws.{size_is}
use Rattle.planning.specs.Stage.{Stand, nonempty_in}
use Rattle.planning.specs.TimeWordLaws.{stand-rest}
use Rattle.planning.specs.StageLaws.{stand_reads, nonempty_open}
use Rattle.planning.specs.DataWords.{nonempty_over, ranges_over, signal_over, signals_over, records_over, data_over, all_data_over}

-- ---- a nonempty column
nonempty_more : (s w : List ℕ) (d k n : ℕ) → k < n
    → nonempty_over s w d k (n - k) ≡ pick (nonempty_in s w k d) true (nonempty_over s w d (k + 1) (n - (k + 1)))
unfolding nonempty_over
nonempty_more s w d k n h = go (n - k) (omega arith)
  where
    go : (m : ℕ) → m ≡ suc (n - (k + 1)) → nonempty_over s w d k m ≡ pick (nonempty_in s w k d) true (nonempty_over s w d (k + 1) (n - (k + 1)))
    go m e = rw e

pub record Nonempty (s w : List ℕ) (d n k : ℕ) : Type 0 where
  pub rest : nonempty_over s w d k (n - k) ≡ nonempty_over s w d 0 n

pub any_begin : {s w : List ℕ} {d n : ℕ} → Nonempty s w d n 0
any_begin {n = n} = let e : n - 0 ≡ n = omega arith in record { rest = rw e }

module _ {s w : List ℕ} {d n k : ℕ} (t : Nonempty s w d n k) where
  pub any_end : n ≤ k → false ≡ nonempty_over s w d 0 n
  unfolding nonempty_over
  any_end h = let e : n - k ≡ 0 = omega arith in rw e at t.rest

  module _ (h : k < n) {b : Bool} (e : b ≡ nonempty_in s w k d) where
    pub any_hit : b ≡ true → true ≡ nonempty_over s w d 0 n
    any_hit q = rw (nonempty_more s w d k n h, ← e, q) at t.rest

    pub any_on : b ≡ false → Nonempty s w d n (k + 1)
    any_on q = record { rest = rw (nonempty_more s w d k n h, ← e, q) at t.rest }

-- ---- signal data
pub ranges_past : (s f : List ℕ) (i m : ℕ) → 1024 < i + m → fine ≡ ranges_over s f i m
unfolding ranges_over
ranges_past s f i m h = lt_yes _ _ _ _ h refl

pub ranges_lent : (s f : List ℕ) (i m : ℕ) {v : Verdict} → i + m ≤ 1024
    → v ≡ ranges_in s (fragments_of (mid_of (3 * i) (3 * i + 3 * m - 3 * i) f)) → v ≡ ranges_over s f i m
unfolding ranges_over part
ranges_lent s f i m h e = let z : 3 * i + 3 * m - 3 * i ≡ 3 * m = omega arith in lt_no _ _ _ _ h (rw z at e)

module _ (s w f : List ℕ) (d k : ℕ) {x : ℕ} (e : x ≡ get_or w (8 * k + 2) 0) where
  pub signal_other : (x ≡ d → ⊥) → fine ≡ signal_over s w f d k
  unfolding signal_over
  signal_other h = eq_no _ _ _ _ (λ z. h (e ∙ z)) refl

  module _ (h : x ≡ d) {y : ℕ} (i : y ≡ get_or w (8 * k + 6) 0) where
    pub signal_none : y ≡ 0 → fine ≡ signal_over s w f d k
    unfolding signal_over
    signal_none q = eq_yes _ _ _ _ (sym e ∙ h) (eq_yes _ _ _ _ (sym i ∙ q) refl)

    pub signal_some : (y ≡ 0 → ⊥) → {m : ℕ} → m ≡ get_or w (8 * k + 7) 0 → {v : Verdict} → v ≡ ranges_over s f (y - 1) m → v ≡ signal_over s w f d k
    unfolding signal_over
    signal_some q j u = eq_yes _ _ _ _ (sym e ∙ h) (eq_no _ _ _ _ (λ z. q (i ∙ z)) (rw (i, j) at u))

signals_more : (s w f : List ℕ) (d k n : ℕ) → k < n
    → signals_over s w f d k (n - k) ≡ and_then (signal_over s w f d k) (λ _. signals_over s w f d (k + 1) (n - (k + 1)))
unfolding signals_over
signals_more s w f d k n h = go (n - k) (omega arith)
  where
    go : (m : ℕ) → m ≡ suc (n - (k + 1)) → signals_over s w f d k m ≡ and_then (signal_over s w f d k) (λ _. signals_over s w f d (k + 1) (n - (k + 1)))
    go m e = rw e

pub record Signals (s w f : List ℕ) (d n k : ℕ) : Type 0 where
  pub rest : signals_over s w f d k (n - k) ≡ signals_over s w f d 0 n

pub signals_begin : {s w f : List ℕ} {d n : ℕ} → Signals s w f d n 0
signals_begin {n = n} = let e : n - 0 ≡ n = omega arith in record { rest = rw e }

module _ {s w f : List ℕ} {d n k : ℕ} (t : Signals s w f d n k) where
  pub signals_end : n ≤ k → fine ≡ signals_over s w f d 0 n
  unfolding signals_over
  signals_end h = let e : n - k ≡ 0 = omega arith in rw e at t.rest

  module _ (h : k < n) {r : Result ⊤ Refusal} (e : verdict_of r ≡ signal_over s w f d k) where
    pub signals_stop : {x : Refusal} → r ≡ Err x → refused_by x ≡ signals_over s w f d 0 n
    signals_stop q = rw (signals_more s w f d k n h, ← e, q) at t.rest

    pub signals_on : {u : ⊤} → r ≡ Ok u → Signals s w f d n (k + 1)
    signals_on q = record { rest = rw (signals_more s w f d k n h, ← e, q) at t.rest }

-- ---- records
module _ (s f : List ℕ) (d g i end : ℕ) {v : Verdict} where
  pub sorted_part : {j : ℕ} → j ≡ min i end → v ≡ sorted_in s d g (fragments_of (mid_of (3 * j) (3 * end - 3 * j) f))
      → v ≡ sorted_in s d g (fragments_of (part (3 * i) (3 * (end - i)) f))
  unfolding part
  sorted_part {j} h e = go (eqb (end - i) 0) refl
    where
      go : (b : Bool) → eqb (end - i) 0 ≡ b → v ≡ sorted_in s d g (fragments_of (take (3 * (end - i)) (drop (3 * i) f)))
      go true q =
          let z = eqb-true (end - i) 0 q in
          let x : 3 * end - 3 * j ≡ 0 = omega arith in
          let y : 3 * (end - i) ≡ 0 = omega arith in
          rw y (rw x at e)
      go false q =
          let n = eqb-false (end - i) 0 q in
          let k : j ≡ i = omega arith in
          let z : 3 * end - 3 * i ≡ 3 * (end - i) = omega arith in
          rw z at (rw k at e)

module _ (s f src : List ℕ) (n nf i d m : ℕ) (l : n ≤ 1536) {x : ℕ} (e : x ≡ length (groups_of (items_from src i (min n 1536 - i)))) where
  pub records_none : (x ≡ 1 → ⊥) → fine ≡ records_over s f nf d m (items_from src i (n - i))
  unfolding records_over
  records_none h = let z : min n 1536 ≡ n = min-eq_left l in eq_no _ _ _ _ (λ q. h (rw z at e ∙ q)) refl

  pub records_one : x ≡ 1 → {g all end : ℕ} → g ≡ get_or (addresses (groups_of (items_from src i (min n 1536 - i)))) 0 0
      → all ≡ up_to nf (items_from src i (min n 1536 - i)) → end ≡ min all nf
      → {v : Verdict} → v ≡ sorted_in s d g (fragments_of (part (3 * m) (3 * (end - m)) f)) → v ≡ records_over s f nf d m (items_from src i (n - i))
  unfolding records_over
  records_one h a b c u =
      let z : min n 1536 ≡ n = min-eq_left l in
      eq_yes _ _ _ _ (sym (rw z at e) ∙ h) (rw (a, c, b, z) at u)

-- ---- a DG
module _ (s w f : List ℕ) (nf nc d m : ℕ) (is : List Item) {t : Bool} (e : t ≡ nonempty_over s w d 0 nc) where
  pub data_empty : t ≡ false → {v : Verdict} → v ≡ signals_over s w f d 0 nc → v ≡ data_over s w f nf nc d m is
  unfolding data_over
  data_empty q u = rw (← e, q) u

  module _ (q : t ≡ true) {r : Result ⊤ Refusal} (k : verdict_of r ≡ records_over s f nf d m is) where
    pub data_stop : {x : Refusal} → r ≡ Err x → refused_by x ≡ data_over s w f nf nc d m is
    unfolding data_over
    data_stop z = rw (← e, q, ← k, z)

    pub data_on : {u : ⊤} → r ≡ Ok u → {v : Verdict} → v ≡ signals_over s w f d 0 nc → v ≡ data_over s w f nf nc d m is
    unfolding data_over
    data_on z u = rw (← e, q, ← k, z) u

-- ---- all DG
pub record DataLeft (s w f : List ℕ) (nf nc : ℕ) (src : List ℕ) (n i : ℕ) : Type 0 where
  pub up_to : i ≤ n
  pub rest : all_data_over s w f nf nc (items_from src i (n - i)) ≡ all_data_over s w f nf nc (items_from src 0 n)

pub all_begin : {s w f : List ℕ} {nf nc : ℕ} {src : List ℕ} {n : ℕ} → DataLeft s w f nf nc src n 0
all_begin {n = n} = let e : n - 0 ≡ n = omega arith in record { up_to = omega arith; rest = rw e }

module _ {s w f : List ℕ} {nf nc : ℕ} {src : List ℕ} {n i : ℕ} (t : DataLeft s w f nf nc src n i) where
  pub all_end : n ≤ i → fine ≡ all_data_over s w f nf nc (items_from src 0 n)
  unfolding all_data_over
  all_end h = rw (no_items src n i h) at t.rest

  module _ (h : i < n) {m d : ℕ} (e : m ≡ get_or src (1536 + i) 0) (j : d ≡ get_or src i 0) where
    all-cn : m ≡ 0 → DataLeft s w f nf nc src n (i + 1)
    unfolding all_data_over
    all-cn q = record { up_to = omega arith; rest = rw (next-cn src n i h e q) at t.rest }

    all-cg : m ≡ 1 → DataLeft s w f nf nc src n (i + 1)
    unfolding all_data_over
    all-cg q = record { up_to = omega arith; rest = rw (next-cg src n i h e q) at t.rest }

    pub all-other : m ≤ 1 → DataLeft s w f nf nc src n (i + 1)
    all-other l = go m refl l
      where
        go : (x : ℕ) → m ≡ x → x ≤ 1 → DataLeft s w f nf nc src n (i + 1)
        go zero q l = all-cn q
        go (suc zero) q l = all-cg q
        go (suc (suc x)) q l = absurd (omega arith)

    opened : 1 < m → (v : Verdict) → v ≡ data_over s w f nf nc d (m - 2) (items_from src (i + 1) (n - (i + 1)))
        → and_then v (λ _. all_data_over s w f nf nc (items_from src (i + 1) (n - (i + 1)))) ≡ all_data_over s w f nf nc (items_from src 0 n)
    unfolding all_data_over
    opened l v k = rw (k, j) (rw (next-dg src n i h e l) at t.rest)

    module _ (l : 1 < m) {r : Result ⊤ Refusal} (k : verdict_of r ≡ data_over s w f nf nc d (m - 2) (items_from src (i + 1) (n - (i + 1)))) where
      pub all_stop : {x : Refusal} → r ≡ Err x → refused_by x ≡ all_data_over s w f nf nc (items_from src 0 n)
      all_stop q = opened l (refused _ _) (ap verdict_of (sym q) ∙ k)

      pub all-on : {u : ⊤} → r ≡ Ok u → DataLeft s w f nf nc src n (i + 1)
      all-on q = record { up_to = omega arith; rest = opened l fine (ap verdict_of (sym q) ∙ k) }

-- ---- the stage of the columns and fragments that stand in the words
nonempty_stand : (s w : List ℕ) (d n k : ℕ) (cs : List Column) → Stand w n k cs → nonempty_over s w d k (length cs) ≡ any_nonempty s d cs
unfolding nonempty_over any_nonempty
nonempty_stand s w d n k [] h = refl
nonempty_stand s w d n k (c ∷ cs) h =
    rw (nonempty_stand s w d (n + size_of_signal c.signal_of) (k + 1) cs (stand-rest w n k c cs h))
    (sym (nonempty_open s w k d c cs (stand_reads w n k c cs h)))

ranges_stand : (s f : List ℕ) (n : ℕ) (fs : List Fragment) → Stands f (3 * n) (fragment_words fs) → n + length fs ≤ 1024
    → ranges_over s f n (length fs) ≡ ranges_in s fs
unfolding ranges_over
ranges_stand s f n fs t l =
    let e : part (3 * n) (3 * length fs) f ≡ fragment_words fs = rw (length-words fs) at t.is in
    sym (lt_no _ _ _ _ l refl) ∙ rw (e, words_back fs)

module _ (s w f : List ℕ) (d n k : ℕ) (c : Column) (cs : List Column) (h : Stand w n k (c ∷ cs)) where
  signal_word_lem : get_or w (8 * k + 6) 0 ≡ signal_word n c.signal_of
  unfolding columns_words column_words
  signal_word_lem = h.at 6 (omega arith)

  size_word_lem : get_or w (8 * k + 7) 0 ≡ size_of_signal c.signal_of
  unfolding columns_words column_words
  size_word_lem = h.at 7 (omega arith)

  signal_stand : Stands f (3 * n) (fragment_words (fragments_in c.signal_of)) → n + length (fragments_in c.signal_of) ≤ 1024
      → signal_over s w f d k ≡ if_eq c.group.data_group.at d (signal_in s c.signal_of) fine
  unfolding signal_over
  signal_stand t l =
      rw ((stand_reads w n k c cs h).of_dg, inner c.signal_of signal_word_lem size_word_lem t l)
    where
      inner : (g : Signal) → get_or w (8 * k + 6) 0 ≡ signal_word n g → get_or w (8 * k + 7) 0 ≡ size_of_signal g → Stands f (3 * n) (fragment_words (fragments_in g))
          → n + length (fragments_in g) ≤ 1024
          → if_eq (get_or w (8 * k + 6) 0) 0 fine (ranges_over s f (get_or w (8 * k + 6) 0 - 1) (get_or w (8 * k + 7) 0)) ≡ signal_in s g
      inner no_signal p q t l = sym (eq_yes _ _ _ _ p refl)
      inner (signal_data fs) p q t l =
          let z : n + 1 - 1 ≡ n = omega arith in
          sym (eq_no _ _ _ _ (λ x. omega (arith, x, p)) refl) ∙ rw (p, q, z) (ranges_stand s f n fs t l)

signals_stand : (s w f : List ℕ) (d n k : ℕ) (cs : List Column) → Stand w n k cs → Stands f (3 * n) (fragment_words (signal_fragments cs))
    → n + length (signal_fragments cs) ≤ 1024 → signals_over s w f d k (length cs) ≡ signals_in s d cs
unfolding signals_over signals_in signal_fragments
signals_stand s w f d n k [] h t l = refl
signals_stand s w f d n k (c ∷ cs) h t l =
    let mine = fragments_in c.signal_of in
    let more = length-append mine (signal_fragments cs) in
    let size = size_is c.signal_of in
    let split = stands_as_lem t (words_append mine (signal_fragments cs)) in
    let front = stands_front (fragment_words mine) (fragment_words (signal_fragments cs)) split in
    let at : 3 * n + length (fragment_words mine) ≡ 3 * (n + size_of_signal c.signal_of) = omega (arith, length-words mine, size) in
    let back = stands_at (stands_back (fragment_words mine) (fragment_words (signal_fragments cs)) split) at in
    rw (
      signal_stand s w f d n k c cs h front (omega arith),
      signals_stand s w f d (n + size_of_signal c.signal_of) (k + 1) cs (stand-rest w n k c cs h) back (omega arith),
    )

part_cut : (fs : List Fragment) (e m : ℕ) → part m (min e (length fs) - m) fs ≡ part m (e - m) fs
unfolding part
part_cut fs e m = go (ltb (length fs) e) refl
  where
    go : (t : Bool) → ltb (length fs) e ≡ t → take (min e (length fs) - m) (drop m fs) ≡ take (e - m) (drop m fs)
    go true q =
        let h = ltb-true (length fs) e q in
        let z : min e (length fs) ≡ length fs = min-eq_right (le_of_lt h) in
        let d = length-drop m fs in
        rw z (take_all (length fs - m) (drop m fs) (omega arith) ∙ sym (take_all (e - m) (drop m fs) (omega arith)))
    go false q = let z : min e (length fs) ≡ e = min-eq_left (ltb-false (length fs) e q) in rw z

no_fragments : (f : List ℕ) (fs : List Fragment) (m j : ℕ) → j ≡ 0 → fragments_of (part (3 * m) (3 * j) f) ≡ part m j fs
unfolding part fragments_of
no_fragments f fs m j q = rw q

pub fragments_part : (f : List ℕ) (fs : List Fragment) (e m : ℕ) → Stands f 0 (fragment_words fs)
    → fragments_of (part (3 * m) (3 * (min e (length fs) - m)) f) ≡ part m (e - m) fs
fragments_part f fs e m t = go (ltb m (min e (length fs))) refl ∙ part_cut fs e m
  where
    go : (b : Bool) → ltb m (min e (length fs)) ≡ b
        → fragments_of (part (3 * m) (3 * (min e (length fs) - m)) f) ≡ part m (min e (length fs) - m) fs
    go true q =
        let h = ltb-true m (min e (length fs)) q in
        let j = min e (length fs) - m in
        let p : part (3 * m) (3 * j) f ≡ part (3 * m) (3 * j) (fragment_words fs) =
        rw zero-add at (stands_part (fragment_words fs) (3 * m) (3 * j) t (omega (arith, h, length-words fs, few))) in
        rw (p, part_fragments m j fs, words_back (part m j fs))
      where
        few : min e (length fs) ≤ length fs
        few = min-le_right e (length fs)
    go false q = no_fragments f fs m (min e (length fs) - m) (let h = ltb-false m (min e (length fs)) q in omega arith)

-- a DG that has not one group was read to count them
abbrev pub Several : List ℕ → DataGroup → Type 0
Several s d = (length (addresses d.groups) ≡ 1 → ⊥) → records_in s d.at (addresses d.groups) d.fragments ≡ fine

several_of : (s : List ℕ) (d : ℕ) (gs : List ℕ) (fs : List Fragment) {ms : List ℕ} → count_groups s d gs fs ≡ ok ms → (length gs ≡ 1 → ⊥)
    → records_in s d gs fs ≡ fine
unfolding count_groups
several_of s d [] fs e n = refl
several_of s d (g ∷ []) fs e n = absurd (n refl)
several_of s d (g ∷ h ∷ gs) fs e n = with_ok (unsorted_frames s d (g ∷ h ∷ gs) fs) _ e (λ rs i k. rw i)

pub several_counted : (s : List ℕ) (ds : List DataGroup) (ns : List ℕ) → Counted s ds ns → (d : DataGroup) → In d ds → Several s d
several_counted s [] ns _ d' x3 = elim x3 [ ]
several_counted s (d ∷ ds) ns (and_more ms rest e c r) d' here = several_of s d.at (addresses d.groups) d.fragments c
several_counted s (d ∷ ds) ns (and_more ms rest e c r) d' (there i) = several_counted s ds rest r d' i

-- columns and fragments that stand in the words: fs are those of the walk
pub record Filled (w f : List ℕ) (cs : List Column) (fs : List Fragment) : Type 0 where
  pub stand : Stand w (length fs) 0 cs
  pub walked : Stands f 0 (fragment_words fs)
  pub signals : Stands f (3 * length fs) (fragment_words (signal_fragments cs))
  pub few : length fs + length (signal_fragments cs) ≤ 1024

module _ (s w f : List ℕ) (cs : List Column) (fs : List Fragment) (t : Filled w f cs fs) where
  records_stand : (d m : ℕ) (is : List Item)
      → ((length (addresses (groups_of is)) ≡ 1 → ⊥) → records_in s d (addresses (groups_of is)) (part m (up_to (length fs) is - m) fs) ≡ fine)
      → records_over s f (length fs) d m is ≡ records_in s d (addresses (groups_of is)) (part m (up_to (length fs) is - m) fs)
  unfolding records_over
  records_stand d m is several =
      rw (fragments_part f fs (up_to (length fs) is) m t.walked, ← addresses-length (groups_of is))
      (go (addresses (groups_of is)) several)
    where
      go : (gs : List ℕ) → ((length gs ≡ 1 → ⊥) → records_in s d gs (part m (up_to (length fs) is - m) fs) ≡ fine)
          → if_eq (length gs) 1 (sorted_in s d (get_or gs 0 0) (part m (up_to (length fs) is - m) fs)) fine ≡ records_in s d gs (part m (up_to (length fs) is - m) fs)
      go [] h = sym (eq_no _ _ _ _ (λ z. omega (arith, z)) refl)
      go (g ∷ []) h = sym (eq_yes _ _ _ _ refl refl)
      go (g ∷ g' ∷ gs) h = let n : length (g ∷ g' ∷ gs) ≡ 1 → ⊥ = λ z. omega (arith, z) in sym (eq_no _ _ _ _ n (h n))

  data_stand : (d m : ℕ) (is : List Item) → Several s (record { at = d; fragments = part m (up_to (length fs) is - m) fs; groups = groups_of is })
      → data_over s w f (length fs) (length cs) d m is ≡ data_in s cs (record { at = d; fragments = part m (up_to (length fs) is - m) fs; groups = groups_of is })
  unfolding data_over data_in
  data_stand d m is several =
      rw (nonempty_stand s w d (length fs) 0 cs t.stand, records_stand d m is several, signals_stand s w f d (length fs) 0 cs t.stand t.signals t.few)

  pub data_filled : (is : List Item) → ((d : DataGroup) → In d (data_groups_of fs is) → Several s d)
      → all_data_over s w f (length fs) (length cs) is ≡ all_data_in s cs (data_groups_of fs is)
  unfolding all_data_over all_data_in data_groups_of
  data_filled [] h = refl
  data_filled (dg a m ∷ is) h = rw (data_stand a m is (h _ here), data_filled is (λ d i. h d (there i)))
  data_filled (cg a ∷ is) h = data_filled is h
  data_filled (cn a ∷ is) h = data_filled is h
