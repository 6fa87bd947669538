-- The columns of the walk's data groups are those that its words give.
use Prim.{Unit}
use Rattle.std.specs.Prelude.{ℕ, suc, ◌+◌, ◌*◌, ◌-◌, ◌≤◌, ◌<◌, Bool, length, get_or, ltb}
use mathlib.Core.List.{List, [], ◌∷◌, ◌++◌, append_assoc}
use Rattle.std.proofs.Math.Bool.{true, false}
use Rattle.std.proofs.Math.Option.{Option, none, some}
use Rattle.std.proofs.Math.Path.{◌≡◌, refl, sym}
use Rattle.std.proofs.Common.{◌∙◌, subst, le_refl, length-append, ltb-true, ltb-false}
use native.Mathlib.Omega.{arith}
use Rattle.std.proofs.Math.Seq.{take-length}
use Rattle.base.specs.Blit.{part}
use Rattle.base.specs.Choice.{pick}
use Rattle.base.specs.ChoiceLaws.{lt_yes, lt_no}
use Rattle.base.specs.Checked.{Checked, ok, refused, and_then, fine}
use Rattle.mdf.specs.Block.{link_at}
use Rattle.mdf.specs.Chain.{Fragment, records, found, chain, file_limits}
use Rattle.mdf.specs.Walk.{Item, dg, cg, cn}
use Rattle.mdf.specs.Group.{Group, DataGroup, channels_of, groups_of, up_to, data_groups_of}
use Rattle.mdf.specs.Records.{ranges_in}
use Rattle.work_words.specs.Words.{address_words, mark_words, marks_at}
use Rattle.file.specs.Form.{FileColumn, alone, formed}
use Rattle.file.specs.Opened.{column_in, columns_in}
use Rattle.file_laws.specs.JoinedLaws.{part-front, part_back}
use Rattle.reading.specs.Holding.{Stands}
use Rattle.reading.specs.StandsLaws.{stands_back, stands_head, stands_at}
use Rattle.ranges.specs.Blocks.{column_of}
use Rattle.ranges.specs.Ranged.{chain_ranges}
use Rattle.ranges.specs.ChainedLaws.{found-chained, none_ranges, ranges_append, chained_ranges, SameForm, same_form}
use Rattle.ranges.specs.Met.{Met, met_none, met_dg, met_cg_lem, met_cn_lem}
use Rattle.ranges.specs.Open.{item_range, word_ranges, column_at, column_formed, form_from}
use Rattle.ranges.specs.OpenLaws.{form_open, form_few, column-dg, column-cg, column-cn, column_is}

-- ---- the ranges
stands_next : {w : List ℕ} {i : ℕ} (x : ℕ) (xs : List ℕ) → Stands w i (x ∷ xs) → Stands w (i + 1) xs
stands_next x xs h = stands_back (x ∷ []) xs h

item_ranges : (s : List ℕ) (a n : ℕ) (fs : List Fragment) → chain_ranges s 258 (link_at s a 2) ≡ ranges_in s fs → item_range s a (2 + n) ≡ ranges_in s fs
unfolding item_range
item_ranges s a n fs e = sym (lt_yes _ _ _ _ (omega arith) refl) ∙ e

item-small : (s : List ℕ) (a m : ℕ) → m ≤ 1 → item_range s a m ≡ fine
unfolding item_range
item-small s a m h = sym (lt_no _ _ _ _ h refl)

pub met_ranges : (s w : List ℕ) {k n k' n' : ℕ} {is : List Item} {gs : List Fragment} (i : ℕ) → Met file_limits s k n is gs k' n'
    → Stands w i (address_words is) → Stands w (marks_at + i) (mark_words is) → word_ranges s w (length is) i ≡ ranges_in s gs
unfolding word_ranges address_words mark_words
met_ranges s w i met_none p q = none_ranges s
met_ranges s w i (met_dg {n = n} {a = a} {is = is} {fs = fs} {gs = gs} c m) p q =
    let x = stands_head a (address_words is) p in
    let y = stands_head (2 + n) (mark_words is) q in
    let r = item_ranges s a n fs (chained_ranges s 258 (link_at s a 2) (found-chained file_limits s n (link_at s a 2) c)) in
    rw (x, y, r, met_ranges s w (i + 1) m (stands_next a (address_words is) p) (stands_at (stands_next (2 + n) (mark_words is) q) (omega arith)))
    (sym (ranges_append s fs gs))
met_ranges s w i (met_cg_lem {a = a} {is = is} h m) p q =
    let y = stands_head 1 (mark_words is) q in
    rw (y, item-small s (get_or w i 0) 1 (omega arith))
    (met_ranges s w (i + 1) m (stands_next a (address_words is) p) (stands_at (stands_next 1 (mark_words is) q) (omega arith)))
met_ranges s w i (met_cn_lem {a = a} {is = is} h m) p q =
    let y = stands_head 0 (mark_words is) q in
    rw (y, item-small s (get_or w i 0) 0 (omega arith))
    (met_ranges s w (i + 1) m (stands_next a (address_words is) p) (stands_at (stands_next 0 (mark_words is) q) (omega arith)))

-- ---- the fragments of a DG among all
up_to_met : {s : List ℕ} {k n k' n' : ℕ} {is : List Item} {gs : List Fragment} → Met file_limits s k n is gs k' n' → up_to n' is ≡ n
unfolding up_to
up_to_met met_none = refl
up_to_met (met_dg c m) = refl
up_to_met (met_cg_lem h m) = up_to_met m
up_to_met (met_cn_lem h m) = up_to_met m

own_fragments : (pre fs gs : List Fragment) → part (length pre) (length fs) (pre ++ (fs ++ gs)) ≡ fs
unfolding part
own_fragments pre fs gs =
    let z : length pre - length pre ≡ 0 = omega arith in
    part_back (length pre) (length fs) pre (fs ++ gs) (le_refl _)
    ∙ rw z (part-front 0 (length fs) fs gs (omega arith) ∙ take-length fs)

module _ {s : List ℕ} {n k' n' : ℕ} {is : List Item} {fs gs : List Fragment} (all pre : List Fragment) (m : Met file_limits s 1 (n + length fs) is gs k' n')
    (long : length pre ≡ n) (e : all ≡ pre ++ (fs ++ gs)) (end : n' ≡ length all) where
  dg-own : part n (up_to (length all) is - n) all ≡ fs
  dg-own =
      let u : up_to (length all) is ≡ n + length fs = rw (← end) (up_to_met m) in
      let d : n + length fs - n ≡ length fs = omega arith in
      rw (u, d, e, ← long) (own_fragments pre fs gs)

own_of : {s : List ℕ} {n n1 k' n' : ℕ} {is : List Item} {fs gs : List Fragment} (all pre : List Fragment) → Met file_limits s 1 n1 is gs k' n' → n1 ≡ n + length fs
    → length pre ≡ n → all ≡ pre ++ (fs ++ gs) → n' ≡ length all → part n (up_to (length all) is - n) all ≡ fs
own_of {s} {n} {n1} {k'} {n'} {is} {fs} {gs} all pre m q = dg-own all pre (subst (λ (x : ℕ). Met file_limits s 1 x is gs k' n') q m)

-- ---- the form
-- at the end, or at a DG
abbrev pub AtDG : List Item → Type 0
AtDG [] = Unit {0}
AtDG (dg a n ∷ is) = Unit {0}
AtDG (cg a ∷ is) = ⊥
AtDG (cn a ∷ is) = ⊥

none_in : (s : List ℕ) (d : DataGroup) (ds : List DataGroup) → alone d ≡ none → columns_in s (d ∷ ds) ≡ refused 24 0
unfolding columns_in column_in
none_in s d ds e = rw e

some_in : (s : List ℕ) (d : DataGroup) (ds : List DataGroup) (c : FileColumn) → alone d ≡ some c
    → columns_in s (d ∷ ds) ≡ and_then (pick (formed s c) (ok c) (refused 24 0)) (λ c. and_then (columns_in s ds) (λ cs. ok (c ∷ cs)))
unfolding columns_in column_in
some_in s d ds c e = rw e

module _ (s w : List ℕ) (j : ℕ) where
  -- a column that isn't in the form, with some blocks left
  bad : (n : ℕ) → 0 < n → column_formed s w j ≡ false → form_from s w n j ≡ refused 24 0
  bad n h e = go (ltb n 3) refl
    where
      go : (t : Bool) → ltb n 3 ≡ t → form_from s w n j ≡ refused 24 0
      go true q = form_few s w n j h (ltb-true n 3 q)
      go false q = form_open s w n j (ltb-false n 3 q) ∙ rw e

  -- none after it
  dead : (n : ℕ) → form_from s w n (j + 1) ≡ refused 24 0 → form_from s w (suc (suc (suc n))) j ≡ refused 24 0
  unfolding form_from
  dead n e = rw e (go (column_formed s w j))
    where
      go : (t : Bool) → ◌≡◌ {A = Checked (List FileColumn)} (pick t (refused 24 0) (refused 24 0)) (refused 24 0)
      go true = refl
      go false = refl

  module _ (m0 : ℕ) (ms : List ℕ) (q : Stands w (marks_at + 3 * j) (m0 ∷ ms)) where
    pub bad_first : (n : ℕ) → m0 < 2 → 0 < n → form_from s w n j ≡ refused 24 0
    bad_first n h g = bad n g (sym (column-dg s w j (rw (stands_head m0 ms q) h)))

  module _ (m0 m1 : ℕ) (ms : List ℕ) (q : Stands w (marks_at + 3 * j) (m0 ∷ m1 ∷ ms)) (h : 2 ≤ m0) where
    first-mark : 2 ≤ get_or w (marks_at + 3 * j) 0
    first-mark = rw (stands_head m0 (m1 ∷ ms) q) h

    second : get_or w (marks_at + 3 * j + 1) 0 ≡ m1
    second = stands_head m1 ms (stands_next m0 (m1 ∷ ms) q)

    bad_second : (n : ℕ) → (m1 ≡ 1 → ⊥) → 0 < n → form_from s w n j ≡ refused 24 0
    bad_second n g z = bad n z (sym (column-cg s w j first-mark (λ e. g (sym second ∙ e))))

  module _ (m0 m2 : ℕ) (ms : List ℕ) (q : Stands w (marks_at + 3 * j) (m0 ∷ 1 ∷ m2 ∷ ms)) (h : 2 ≤ m0) where
    third : get_or w (marks_at + 3 * j + 2) 0 ≡ m2
    third =
        let z : marks_at + 3 * j + 1 + 1 ≡ marks_at + 3 * j + 2 = omega arith in
        let r = stands_at (stands_next 1 (m2 ∷ ms) (stands_next m0 (1 ∷ m2 ∷ ms) q)) z in
        stands_head m2 ms r

    bad_third : (n : ℕ) → (m2 ≡ 0 → ⊥) → 0 < n → form_from s w n j ≡ refused 24 0
    bad_third n g z =
        bad n z (sym (column-cn s w j (first-mark m0 1 (m2 ∷ ms) q h) (second m0 1 (m2 ∷ ms) q h) (λ e. g (sym third ∙ e))))

pair_none : (a b c e : ℕ) (fs : List Fragment) (cs : List ℕ) (gs : List Group)
    → alone (record { at = a; fragments = fs; groups = record { at = b; channels = c ∷ e ∷ cs } ∷ gs }) ≡ none
unfolding alone
pair_none a b c e fs cs [] = refl
pair_none a b c e fs cs (g ∷ gs) = refl

-- ---- a DG with one CG with one CN
module _ (s w : List ℕ) (j a n b c : ℕ) (az ms : List ℕ) (x : Stands w (3 * j) (a ∷ b ∷ c ∷ az)) (y : Stands w (marks_at + 3 * j) ((2 + n) ∷ 1 ∷ 0 ∷ ms)) where
  at-dg : get_or w (3 * j) 0 ≡ a
  at-dg = stands_head a (b ∷ c ∷ az) x

  at-cg : get_or w (3 * j + 1) 0 ≡ b
  at-cg = stands_head b (c ∷ az) (stands_next a (b ∷ c ∷ az) x)

  at-cn : get_or w (3 * j + 2) 0 ≡ c
  at-cn =
      let z : 3 * j + 1 + 1 ≡ 3 * j + 2 = omega arith in
      stands_head c az (stands_at (stands_next b (c ∷ az) (stands_next a (b ∷ c ∷ az) x)) z)

  is_formed_lem : formed s (column_of s a b 0) ≡ column_formed s w j
  is_formed_lem =
      column_is s w j (first-mark s w j (2 + n) 1 (0 ∷ ms) y (omega arith)) (second s w j (2 + n) 1 (0 ∷ ms) y (omega arith))
      (third s w j (2 + n) 0 ms y (omega arith)) (rw (at-dg, at-cg))

  good : (fs : List Fragment) (ds : List DataGroup) (m : ℕ) (d : DataGroup) → alone d ≡ some (record { dg = a; cg = b; cn = c; fragments = fs })
      → SameForm s a b c fs → columns_in s ds ≡ form_from s w m (j + 1) → columns_in s (d ∷ ds) ≡ form_from s w (suc (suc (suc m))) j
  good fs ds m d o f ih =
      let k : suc (suc (suc m)) - 3 ≡ m = omega arith in
      some_in s d ds _ o ∙ go (formed s (column_of s a b 0)) refl
      ∙ sym (form_open s w (suc (suc (suc m))) j (omega arith) ∙ rw k)
    where
      go : (t : Bool) → formed s (column_of s a b 0) ≡ t
          → and_then (pick (formed s (record { dg = a; cg = b; cn = c; fragments = fs })) (ok (record { dg = a; cg = b; cn = c; fragments = fs })) (refused 24 0))
          (λ c. and_then (columns_in s ds) (λ cs. ok (c ∷ cs)))
          ≡ pick (column_formed s w j) (and_then (form_from s w m (j + 1)) (λ cs. ok (column_at s w j ∷ cs))) (refused 24 0)
      go true e =
          let u : formed s (record { dg = a; cg = b; cn = c; fragments = fs }) ≡ true = f.form ∙ e in
          let v : column_formed s w j ≡ true = sym is_formed_lem ∙ e in
          rw (u, v, ih, at-dg, at-cg, at-cn, ← f.blocks e)
      go false e =
          let u : formed s (record { dg = a; cg = b; cn = c; fragments = fs }) ≡ false = f.form ∙ e in
          let v : column_formed s w j ≡ false = sym is_formed_lem ∙ e in
          rw (u, v)

no_columns : (s w : List ℕ) (j : ℕ) → columns_in s [] ≡ form_from s w 0 j
unfolding columns_in form_from
no_columns s w j = refl

some-own : (a b c : ℕ) {fs gs : List Fragment} → fs ≡ gs
    → ◌≡◌ {A = Option FileColumn} (some (record { dg = a; cg = b; cn = c; fragments = fs })) (some (record { dg = a; cg = b; cn = c; fragments = gs }))
some-own a b c e = rw e

module _ (s w : List ℕ) where
  -- from a DG on, with what the walk met after it: n1 fragments were found when its own, fs, were
  after_dg : {n1 k' n' : ℕ} {is : List Item} {gs : List Fragment} (all pre fs : List Fragment) (n a j : ℕ)
      → chain records file_limits s n (link_at s a 2) ≡ found fs → Met file_limits s 1 n1 is gs k' n' → n1 ≡ n + length fs
      → length pre ≡ n → all ≡ pre ++ (fs ++ gs) → n' ≡ length all → Stands w (3 * j) (a ∷ address_words is) → Stands w (marks_at + 3 * j) ((2 + n) ∷ mark_words is)
      → columns_in s (data_groups_of all (dg a n ∷ is)) ≡ form_from s w (suc (length is)) j
  unfolding data_groups_of groups_of channels_of address_words mark_words alone up_to
  after_dg all pre fs n a j c met_none q p e f x y = none_in s _ _ refl ∙ sym (form_few s w 1 j (omega arith) (omega arith))
  after_dg all pre fs n a j c (met_dg {n = m} {is = is} c2 m2) q p e f x y =
      none_in s _ _ refl ∙ sym (bad_second s w j (2 + n) (2 + m) (mark_words is) y (omega arith) _ (λ z. omega arith) (omega arith))
  after_dg all pre fs n a j c (met_cn_lem g m2) q p e f x y = absurd (omega arith)
  after_dg all pre fs n a j c (met_cg_lem g met_none) q p e f x y = none_in s _ _ refl ∙ sym (form_few s w 2 j (omega arith) (omega arith))
  after_dg all pre fs n a j c (met_cg_lem g (met_dg {n = m} {is = is} c2 m2)) q p e f x y =
      none_in s _ _ refl ∙ sym (bad_third s w j (2 + n) (2 + m) (mark_words is) y (omega arith) _ (λ z. omega arith) (omega arith))
  after_dg all pre fs n a j c (met_cg_lem g (met_cg_lem {is = is} g2 m2)) q p e f x y =
      none_in s _ _ refl ∙ sym (bad_third s w j (2 + n) 1 (mark_words is) y (omega arith) _ (λ z. omega arith) (omega arith))
  after_dg all pre fs n a j c (met_cg_lem g (met_cn_lem g2 (met_cg_lem {is = is} g3 m3))) q p e f x y =
      let z : marks_at + 3 * j + 1 + 1 + 1 ≡ marks_at + 3 * (j + 1) = omega arith in
      none_in s _ _ refl
      ∙ sym (dead s w j _ (bad_first s w (j + 1) 1 (mark_words is)
      (stands_at (stands_next 0 (1 ∷ mark_words is) (stands_next 1 (0 ∷ 1 ∷ mark_words is) (stands_next (2 + n) (1 ∷ 0 ∷ 1 ∷ mark_words is) y))) z)
      _ (omega arith) (omega arith)))
  after_dg all pre fs n a j c (met_cg_lem {a = b} g (met_cn_lem {a = c1} g2 (met_cn_lem {a = c2} {is = is} g3 m3))) q p e f x y =
      let z : marks_at + 3 * j + 1 + 1 + 1 ≡ marks_at + 3 * (j + 1) = omega arith in
      none_in s _ _ (pair_none a b c1 c2 (part n (up_to (length all) (cg b ∷ cn c1 ∷ cn c2 ∷ is) - n) all) (channels_of is) (groups_of is))
      ∙ sym (dead s w j _ (bad_first s w (j + 1) 0 (mark_words is)
      (stands_at (stands_next 0 (0 ∷ mark_words is) (stands_next 1 (0 ∷ 0 ∷ mark_words is) (stands_next (2 + n) (1 ∷ 0 ∷ 0 ∷ mark_words is) y))) z)
      _ (omega arith) (omega arith)))
  after_dg all pre fs n a j c (met_cg_lem {a = b} g (met_cn_lem {a = d} g2 met_none)) q p e f x y =
      let own : part n (up_to (length all) (cg b ∷ cn d ∷ []) - n) all ≡ fs = own_of {s = s} all pre (met_cg_lem {a = b} g (met_cn_lem {a = d} g2 met_none)) q p e f in
      good s w j a n b d [] [] x y fs _ 0 _ (some-own a b d own) (same_form s a b d fs 258 (found-chained file_limits s n (link_at s a 2) c)) (no_columns s w (j + 1))
  after_dg {n1 = n1} all pre fs n a j c (met_cg_lem {a = b} g (met_cn_lem {a = d} g2 (met_dg {a = a2} {is = is} {fs = fs2} {gs = gs2} c2 m2))) q p e f x y =
      let own : part n (up_to (length all) (cg b ∷ cn d ∷ dg a2 n1 ∷ is) - n) all ≡ fs = own_of {s = s} all pre (met_cg_lem {a = b} g (met_cn_lem {a = d} g2 (met_dg {a = a2} c2 m2))) q p e f in
      let z : marks_at + 3 * j + 1 + 1 + 1 ≡ marks_at + 3 * (j + 1) = omega arith in
      let z2 : 3 * j + 1 + 1 + 1 ≡ 3 * (j + 1) = omega arith in
      good s w j a n b d _ _ x y fs _ _ _ (some-own a b d own) (same_form s a b d fs 258 (found-chained file_limits s n (link_at s a 2) c))
      (after_dg all (pre ++ fs) fs2 n1 a2 (j + 1) c2 m2 refl (rw (length-append pre fs, p) (sym q)) (e ∙ sym (append_assoc pre fs (fs2 ++ gs2))) f
      (stands_at (stands_next d _ (stands_next b _ (stands_next a _ x))) z2)
      (stands_at (stands_next 0 _ (stands_next 1 _ (stands_next (2 + n) _ y))) z))

  pub met_columns : {k n k' n' : ℕ} {is : List Item} {gs : List Fragment} (all pre : List Fragment) (j : ℕ) → Met file_limits s k n is gs k' n' → AtDG is
      → length pre ≡ n → all ≡ pre ++ gs → n' ≡ length all → Stands w (3 * j) (address_words is) → Stands w (marks_at + 3 * j) (mark_words is)
      → columns_in s (data_groups_of all is) ≡ form_from s w (length is) j
  unfolding data_groups_of groups_of channels_of address_words mark_words alone up_to
  met_columns all pre j met_none h p e f x y = no_columns s w j
  met_columns all pre j (met_dg {n = n} {a = a} {fs = fs} c m) h p e f x y = after_dg all pre fs n a j c m refl p e f x y
  met_columns all pre j (met_cg_lem g m) h p e f x y = absurd h
  met_columns all pre j (met_cn_lem g m) h p e f x y = absurd h
