-- Laws of the table of groups: one for each way of the code, and that the table gives the entries that were put into it.
use Prim.Native.Nat.{ℕ, ◌+◌, ◌*◌, ◌-◌, ◌≤◌, ◌<◌, min}
use mathlib.Core.List.{List, [], ◌∷◌, ◌++◌}
use Rattle.std.specs.Prelude.{◌≡◌, refl, get_or, drop}
use Rattle.std.proofs.Math.Path.{sym, ap}
use Rattle.std.proofs.Common.{◌∙◌, le_refl}
use Rattle.std.proofs.Math.Nat.{min-eq_left}
use native.Mathlib.Omega.{arith}
use Rattle.std.proofs.Math.ListN.{length, take, length-drop}
use Rattle.std.proofs.Math.Seq.{take_all}
use Rattle.std.proofs.lemmas.List.{take_min, drop_min}
use Rattle.base.specs.ChoiceLaws.{lt_yes, lt_no}
use Rattle.base.specs.Blit.{part, blit}
use Rattle.base.specs.BlitLaws.{length-blit, blit-append}
use Rattle.mdf.specs.Walk.{Item}
use Rattle.mdf.specs.Group.{groups_of, up_to}
use Rattle.plan.specs.Columns.{own_master}
use Rattle.planning.specs.declared.table.Owner.{Owner}
use Rattle.planning.specs.declared.table.Entry.{Entry}
use Rattle.planning.specs.Items.{items_from, channels_in}
use Rattle.planning.specs.Times.{master_in}
use Rattle.planning.specs.SpanLaws.{no_items, next-dg, next-cg, next-cn}
use Rattle.planning.specs.TimeWordLaws.{blit_before, blit_among}
use Rattle.planning.specs.Table.{entry_words, table_words, entry_at, entries_at, owner_of, nobody, entry_in, entries}

-- ---- words from a on
module _ (w : List ℕ) (a n : ℕ) where
  pub words-from : {b m : ℕ} → b ≡ min a (length w) → m ≡ min n (length (take (length w - b) (drop b w))) → take m (take (length w - b) (drop b w)) ≡ part a n w
  unfolding part
  words-from {b} {m} e f =
      let l : take (length w - b) (drop b w) ≡ drop b w = take_all (length w - b) (drop b w) (simp length-drop (le_refl _)) in
      let h : m ≡ min n (length (drop b w)) = f ∙ ap (λ (k : List ℕ). min n (length k)) l in
      ap (take m) l ∙ ap (λ (k : ℕ). take k (drop b w)) h ∙ take_min n (drop b w) ∙ ap (take n) (ap (λ (k : ℕ). drop k w) e ∙ drop_min a w)

-- ---- a DG
same_owner : (d g : ℕ) {a a' b b' c c' : ℕ} → a ≡ a' → b ≡ b' → c ≡ c'
    → ◌≡◌ {A = Owner} (record { dg = d; groups = g; count = a; fragments = b; words = c }) (record { dg = d; groups = g; count = a'; fragments = b'; words = c' })
same_owner d g x y z = rw (x, y, z)

module _ (src : List ℕ) (n nf i d m j : ℕ) (l : n ≤ 1536) {count all end : ℕ} (x : count ≡ length (groups_of (items_from src i (min n 1536 - i))))
    (y : all ≡ up_to nf (items_from src i (min n 1536 - i))) (z : end ≡ min all nf) where
  abbrev items : List Item
  items = items_from src i (n - i)

  counted : count ≡ length (groups_of items)
  counted = let q : min n 1536 ≡ n = min-eq_left l in rw q at x

  ends : end ≡ min (up_to nf items) nf
  ends = let q : min n 1536 ≡ n = min-eq_left l in z ∙ ap (λ (k : ℕ). min k nf) (rw q at y)

  pub owner_some : m < end → ◌≡◌ {A = Owner} (record { dg = d; groups = 3072 + j; count = count; fragments = 3 * m; words = 3 * (end - m) }) (owner_of nf d m j items)
  unfolding owner_of
  owner_some h = same_owner d (3072 + j) counted (lt_yes _ _ _ _ (rw ends at h) refl) (ap (λ (k : ℕ). 3 * (k - m)) ends)

  pub owner_none : end ≤ m → ◌≡◌ {A = Owner} (record { dg = d; groups = 3072 + j; count = count; fragments = 0; words = 0 }) (owner_of nf d m j items)
  unfolding owner_of
  owner_none h =
      let k : min (up_to nf items) nf ≤ m = rw ends at h in
      let e : 0 ≡ 3 * (min (up_to nf items) nf - m) = omega arith in
      same_owner d (3072 + j) counted (lt_no _ _ _ _ k refl) e

-- ---- an entry
pub put_entry_lem : (s src : List ℕ) (n i g j : ℕ) (o : Owner) (w : List ℕ) {m r : ℕ} {w' : List ℕ} → m ≡ own_master (master_in s src n i g) → r ≡ get_or src (3584 + j) 0
    → w' ≡ blit (8 * j) (g ∷ m ∷ r ∷ o.dg ∷ o.groups ∷ o.count ∷ o.fragments ∷ o.words ∷ []) w
    → w' ≡ blit (8 * j) (entry_words (entry_in s src o j g (items_from src i (n - i)))) w
unfolding entry_words entry_in master_in channels_in
put_entry_lem s src n i g j o w e f k = rw (e, f) at k

pub entry_read : (w : List ℕ) (j : ℕ) {a b c d e f g h : ℕ} → a ≡ get_or w (8 * j) 0 → b ≡ get_or w (8 * j + 1) 0 → c ≡ get_or w (8 * j + 2) 0 → d ≡ get_or w (8 * j + 3) 0
    → e ≡ get_or w (8 * j + 4) 0 → f ≡ get_or w (8 * j + 5) 0 → g ≡ get_or w (8 * j + 6) 0 → h ≡ get_or w (8 * j + 7) 0
    → ◌≡◌ {A = Entry} (record { at = a; master = b; records = c; dg = d; groups = e; count = f; fragments = g; words = h }) (entry_at w j)
unfolding entry_at
entry_read w j p q r s t u v x = rw (p, q, r, s, t, u, v, x)

-- ---- the items left give what all of them give
pub record Filling (s src : List ℕ) (n nf : ℕ) (w₀ : List ℕ) (i j : ℕ) (o : Owner) (w : List ℕ) : Type 0 where
  pub room : i ≤ n
  pub few : j ≤ i
  pub same : length w ≡ length w₀
  pub many : j + length (entries s src nf o j (items_from src i (n - i))) ≡ length (entries s src nf nobody 0 (items_from src 0 n))
  pub rest : blit (8 * j) (table_words (entries s src nf o j (items_from src i (n - i)))) w ≡ blit 0 (table_words (entries s src nf nobody 0 (items_from src 0 n))) w₀

pub fill_begin : {s src : List ℕ} {n nf : ℕ} {w : List ℕ} → Filling s src n nf w 0 0 nobody w
fill_begin {n = n} = let e : n - 0 ≡ n = omega arith in record { room = omega arith; few = omega arith; same = refl; many = rw e (omega arith); rest = rw e }

module _ {s src : List ℕ} {n nf : ℕ} {w₀ : List ℕ} {i j : ℕ} {o : Owner} {w : List ℕ} (t : Filling s src n nf w₀ i j o w) where
  pub fill_end : n ≤ i
      → (j ≡ length (entries s src nf nobody 0 (items_from src 0 n))) × (w ≡ blit 0 (table_words (entries s src nf nobody 0 (items_from src 0 n))) w₀)
  unfolding entries table_words blit
  fill_end h = ((let m = rw (no_items src n i h) at t.many in omega arith), rw (no_items src n i h) at t.rest)

  module _ (h : i < n) {m a : ℕ} (e : m ≡ get_or src (1536 + i) 0) (p : a ≡ get_or src i 0) where
    pub fill_cg_lem : m ≡ 1 → {w' : List ℕ} → w' ≡ blit (8 * j) (entry_words (entry_in s src o j a (items_from src (i + 1) (n - (i + 1))))) w
        → Filling s src n nf w₀ (i + 1) (j + 1) o w'
    unfolding entries table_words entry_words
    fill_cg_lem q {w'} k =
        let f = t.few in
        let is : List Item = items_from src (i + 1) (n - (i + 1)) in
        let l : 8 * j + 8 ≡ 8 * (j + 1) = omega arith in
        let x = rw (next-cg src n i h e q) at t.many in
        record {
          room = omega arith;
          few = omega arith;
          same = ap length k ∙ length-blit _ _ _ ∙ t.same;
          many = omega arith;
          rest = rw (k, ← l) (sym (blit-append (entry_words (entry_in s src o j a is)) (8 * j) (table_words (entries s src nf o (j + 1) is)) w)
              ∙ (rw (next-cg src n i h e q, ← p) at t.rest));
        }

    pub fill_dg_lem : (m ≡ 1 → ⊥) → (m ≡ 0 → ⊥) → {o' : Owner} → o' ≡ owner_of nf a (m - 2) j (items_from src (i + 1) (n - (i + 1)))
        → Filling s src n nf w₀ (i + 1) j o' w
    unfolding entries
    fill_dg_lem x y k =
        let f = t.few in
        let l : 1 < m = omega (arith, x, y) in
        record {
          room = omega arith;
          few = omega arith;
          same = t.same;
          many = rw (k, p) (rw (next-dg src n i h e l) at t.many);
          rest = rw (k, p) (rw (next-dg src n i h e l) at t.rest);
        }

    pub fill_cn_lem : m ≡ 0 → Filling s src n nf w₀ (i + 1) j o w
    unfolding entries
    fill_cn_lem q =
        let f = t.few in
        record {
          room = omega arith;
          few = omega arith;
          same = t.same;
          many = rw (next-cn src n i h e q) at t.many;
          rest = rw (next-cn src n i h e q) at t.rest;
        }

-- ---- the entries out of the words they were put into
entry_first : (w : List ℕ) (k : ℕ) (e : Entry) → ((j : ℕ) → j < 8 → get_or w (8 * k + j) 0 ≡ get_or (entry_words e) j 0) → entry_at w k ≡ e
unfolding entry_at entry_words
entry_first w k e h =
    let z : 8 * k + 0 ≡ 8 * k = omega arith in
    rw (rw z at (h 0 (omega arith)), h 1 (omega arith), h 2 (omega arith), h 3 (omega arith), h 4 (omega arith), h 5 (omega arith), h 6 (omega arith), h 7 (omega arith))

entry_length : (e : Entry) → length (entry_words e) ≡ 8
unfolding entry_words
entry_length e = refl

pub entries_back : (es : List Entry) (k : ℕ) (w : List ℕ) → 8 * (k + length es) ≤ length w → entries_at (blit (8 * k) (table_words es) w) k (length es) ≡ es
unfolding entries_at table_words
entries_back [] k w h = refl
entries_back (e ∷ es) k w h =
    let l : 8 * k + length (entry_words e) ≡ 8 * (k + 1) = first-length in
    let b : blit (8 * k) (entry_words e ++ table_words es) w ≡ blit (8 * (k + 1)) (table_words es) (blit (8 * k) (entry_words e) w) =
    rw l at (blit-append (entry_words e) (8 * k) (table_words es) w) in
    let a = entry_first (blit (8 * (k + 1)) (table_words es) (blit (8 * k) (entry_words e) w)) k e (λ j q.
    blit_before (table_words es) (8 * (k + 1)) (8 * k + j) _ (omega arith) ∙ blit_among (entry_words e) (8 * k) j w (omega (arith, first-length)) (omega arith)) in
    let more : List ℕ = blit (8 * (k + 1)) (table_words es) (blit (8 * k) (entry_words e) w) in
    let i = entries_back es (k + 1) (blit (8 * k) (entry_words e) w) (rw length-blit (omega arith)) in
    ap (λ (v : List ℕ). entries_at v k (length (e ∷ es))) b ∙ ap (λ (x : Entry). x ∷ entries_at more (k + 1) (length es)) a
    ∙ ap (λ (xs : List Entry). e ∷ xs) i
  where
    first-length : 8 * k + length (entry_words e) ≡ 8 * (k + 1)
    first-length = let z = entry_length e in omega arith
