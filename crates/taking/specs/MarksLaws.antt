-- The list by marks.
use Rattle.std.specs.Prelude.{ℕ, zero, suc, ◌+◌, ◌-◌, ◌≤◌, ◌<◌, List, [], ◌∷◌, Bool, true, false, ◌≡◌, refl, eqb, ltb, length, drop, set, get_or, replicate, Some, None}
use Rattle.std.specs.Prelude as std
use Rattle.std.proofs.Math.Option.{none, some}
use Rattle.std.proofs.Common.{sym, ◌∙◌, add-one, arith, ltb-true, ltb-false, eqb-true, length-set, drop-cons, get_or-set_same, get_or-set_other}
use Rattle.std.proofs.lemmas.Bool.{eqb-false}
use Rattle.std.proofs.lemmas.List.{get_or-replicate, length-replicate}
use Rattle.std.proofs.Math.ListN.{get_or-eq_default}
use Rattle.std.proofs.Math.Seq.{drop-length}
use Rattle.base.specs.Choice.{pick, if_lt}
use Rattle.base.specs.ChoiceLaws.{lt_yes, lt_no}
use Rattle.base.specs.Checked.{refused, and_then, Verdict, fine}
use Rattle.mdf.specs.Chain.{is_in}
use Rattle.plan.specs.Photos.{photos_in}
use Rattle.file.specs.Form.{FileColumn}
use Rattle.ranges.specs.Open.{column_at, columns_of}
use Rattle.sheet.specs.Sheet.{master_of}
use Rattle.sheets.specs.Line.{found_as}
use Rattle.thin.specs.Kept.{numbers_in, is_taken, masters_kept, kept_column, kept_from, photos_kept}
use Rattle.taking.specs.Each.{each}
use Rattle.taking.specs.Marks.{Marked, master_at, photos_at}

-- ---- marks
none-at : (n k : ℕ) → get_or (replicate n false) k false ≡ false
none-at n k = go (ltb k n) refl
  where
    go : (t : Bool) → ltb k n ≡ t → get_or (replicate n false) k false ≡ false
    go true q = get_or-replicate n k false false (omega (arith, ltb-true k n q))
    go false q = get_or-eq_default (replicate n false) false (rw length-replicate (ltb-false k n q))

none_marked : (n : ℕ) → Marked [] (replicate n false)
unfolding is_in
none_marked n = record { is = λ k. none-at n k }

one_marked : (a : ℕ) (ns : List ℕ) (m : List Bool) → Marked ns m → a < length m → Marked (a ∷ ns) (set m a true)
unfolding is_in
one_marked a ns m r h = record { is = λ k. go k (eqb a k) refl }
  where
    go : (k : ℕ) (t : Bool) → eqb a k ≡ t → get_or (set m a true) k false ≡ pick t true (is_in k ns)
    go k true q = rw (sym (eqb-true a k q)) (get_or-set_same m a true false h)
    go k false q = get_or-set_other m a k true false (λ e. eqb-false a k q (sym e)) ∙ r.is k

-- ---- 33: what stands behind number i of the list is marked
pub record Marking (n : ℕ) (ns : List ℕ) (i : ℕ) (m : List Bool) : Type 0 where
  pub within : i ≤ length ns
  pub room : length m ≡ 512
  pub passed : numbers_in n (drop i ns) ≡ fine
  pub marked : Marked (drop i ns) m

pub mark_begin : (n : ℕ) (ns : List ℕ) (m : List Bool) → m ≡ replicate 512 false → Marking n ns (length ns) m
unfolding numbers_in
mark_begin n ns m e =
    record {
      within = omega arith;
      room = rw e (length-replicate 512 false);
      passed = rw (drop-length ns);
      marked = rw (drop-length ns, e) (none_marked 512);
    }

-- a refusal behind is the list's
later : (n : ℕ) (ns : List ℕ) (j : ℕ) → numbers_in n (drop j ns) ≡ refused 33 0 → numbers_in n ns ≡ refused 33 0
unfolding numbers_in if_lt
later n ns zero e = e
later n [] (suc j) e = e
later n (k ∷ ns) (suc j) e = rw (later n ns j e) (go (ltb k n) (is_in k ns))
  where
    go : (t u : Bool) → ◌≡◌ {A = Verdict} (pick t (pick u (refused 33 0) (refused 33 0)) (refused 33 0)) (refused 33 0)
    go true true = refl
    go true false = refl
    go false u = refl

module _ {n : ℕ} {ns : List ℕ} {i : ℕ} {m : List Bool} (t : Marking n ns i m) where
  pub mark_end : i ≤ 0 → (numbers_in n ns ≡ fine) × Marked ns m
  mark_end h =
      let z : i ≡ 0 = omega arith in
      let p : numbers_in n ns ≡ fine = rw z at t.passed in
      let q : Marked ns m = rw z at t.marked in
      (p, q)

  module _ (h : 0 < i) where
    cons : drop (i - 1) ns ≡ get_or ns (i - 1) 0 ∷ drop i ns
    cons = let e : suc (i - 1) ≡ i = omega arith in let g = t.within in drop-cons ns (i - 1) 0 (omega arith) ∙ rw e

    pub mark-over : n ≤ get_or ns (i - 1) 0 → numbers_in n ns ≡ refused 33 0
    unfolding numbers_in
    mark-over g = later n ns (i - 1) (rw cons (sym (lt_no _ _ _ _ g refl)))

    module _ (g : get_or ns (i - 1) 0 < n) where
      pub mark-again : get_or m (get_or ns (i - 1) 0) false ≡ true → numbers_in n ns ≡ refused 33 0
      unfolding numbers_in
      mark-again q = later n ns (i - 1) (rw cons (sym (lt_yes _ _ _ _ g (rw (← t.marked.is (get_or ns (i - 1) 0), q)))))

      pub mark-next : get_or m (get_or ns (i - 1) 0) false ≡ false → n ≤ 512 → Marking n ns (i - 1) (set m (get_or ns (i - 1) 0) true)
      unfolding numbers_in
      mark-next q few =
          record {
            within = let x = t.within in omega arith;
            room = length-set m (get_or ns (i - 1) 0) true ∙ t.room;
            passed = rw cons (sym (lt_yes _ _ _ _ g (rw (← t.marked.is (get_or ns (i - 1) 0), q) (sym t.passed))));
            marked = rw cons (one_marked (get_or ns (i - 1) 0) (drop i ns) m t.marked (let x = t.room in omega arith));
          }

-- ---- 34
module _ (s : List ℕ) (all : List FileColumn) (ns : List ℕ) {h g : ℕ} (i : g ≡ h) {r : std.Option ℕ} (e : found_as r ≡ master_of s all g) where
  pub taken_none : r ≡ None → false ≡ is_taken (master_of s all h) ns
  taken_none q = let o : none ≡ master_of s all h = rw (q, i) at e in rw (← o)

  pub taken-some : {k : ℕ} {b : Bool} → r ≡ Some k → b ≡ is_in k ns → b ≡ is_taken (master_of s all h) ns
  taken-some {k} q f = let o : some k ≡ master_of s all h = rw (q, i) at e in rw (← o) f

module _ (s w : List ℕ) (all : List FileColumn) (ns : List ℕ) (k : ℕ) {b : Bool} (e : b ≡ is_in k ns) where
  pub master_out : b ≡ true → fine ≡ master_at s w all ns k
  unfolding master_at
  master_out q = rw (← e, q)

  module _ (q : b ≡ false) {d : Bool} (f : d ≡ is_taken (master_of s all (column_at s w k).cg) ns) where
    pub master_taken : d ≡ true → refused 34 0 ≡ master_at s w all ns k
    unfolding master_at
    master_taken g = rw (← e, q, ← f, g)

    pub master_stays : d ≡ false → fine ≡ master_at s w all ns k
    unfolding master_at
    master_stays g = rw (← e, q, ← f, g)

pub masters-each : (s w : List ℕ) (all : List FileColumn) (ns : List ℕ) (n k : ℕ)
    → each (master_at s w all ns) n k ≡ masters_kept s ns all k (columns_of s w n k)
unfolding each master_at masters_kept columns_of
masters-each s w all ns zero k = refl
masters-each s w all ns (suc n) k =
    rw (masters-each s w all ns n (k + 1), add-one k) (go (is_in k ns) (is_taken (master_of s all (column_at s w k).cg) ns))
  where
    more : Verdict
    more = masters_kept s ns all (suc k) (columns_of s w n (suc k))

    go : (t u : Bool) → and_then (pick t fine (pick u (refused 34 0) fine)) (λ _. more) ≡ pick t more (pick u (refused 34 0) more)
    go true u = refl
    go false true = refl
    go false false = refl

-- ---- 28
module _ (s w ns : List ℕ) (k : ℕ) {b : Bool} (e : b ≡ is_in k ns) where
  pub photos_out : b ≡ true → fine ≡ photos_at s w ns k
  unfolding photos_at
  photos_out q = rw (← e, q)

  pub photos_stay : {v : Verdict} {c : ℕ} → b ≡ false → c ≡ (column_at s w k).cn → v ≡ photos_in true s c → v ≡ photos_at s w ns k
  unfolding photos_at
  photos_stay q i f = rw (← e, q, ← i) f

pub photos_each : (s w : List ℕ) (all : List FileColumn) (ns : List ℕ) (n k : ℕ)
    → each (photos_at s w ns) n k ≡ photos_kept s (kept_from s ns all k (columns_of s w n k))
unfolding each photos_at photos_kept kept_from columns_of
photos_each s w all ns zero k = refl
photos_each s w all ns (suc n) k = rw (photos_each s w all ns n (k + 1), add-one k) (go (is_in k ns))
  where
    go : (t : Bool) → and_then (pick t fine (photos_in true s (column_at s w k).cn)) (λ _. photos_kept s (kept_from s ns all (suc k) (columns_of s w n (suc k))))
        ≡ photos_kept s (pick t (kept_from s ns all (suc k) (columns_of s w n (suc k)))
        (kept_column s ns all (column_at s w k) ∷ kept_from s ns all (suc k) (columns_of s w n (suc k))))
    go true = refl
    go false = refl
