-- The order of the refusals, and the words that they leave.
use Rattle.std.specs.Prelude.{ℕ, ◌≤◌, ◌<◌, List, Bool, true, false, ◌≡◌, ltb, length, replicate, Result, Ok, Err}
use Rattle.std.proofs.Math.Path.{refl, sym, ap}
use Rattle.std.proofs.Common.{◌∙◌, subst}
use Rattle.base.specs.Choice.{pick, if_lt}
use Rattle.base.specs.ChoiceLaws.{lt_yes, lt_no}
use Rattle.base.specs.Checked.{Checked, ok, refused, and_then, fine}
use Rattle.mdf.specs.Records.{most64}
use Rattle.plan.specs.Rules.{units, is_among, unit_in}
use Rattle.plan.specs.Layout.{Layout}
use Rattle.result.specs.Result.{work_in, zeros}
use Rattle.payload_laws.specs.UnitLaws.{IsUnit, unit_is}
use Rattle.ranges.specs.Open.{columns_of}
use Rattle.thin.specs.Kept.{kept_columns}
use Rattle.thin.specs.Place.{placed}
use Rattle.thin.specs.TakenOut.{most_image, most_file, arranged, answer}
use Rattle.taking.specs.Takes.{photos_taken, taken_from, taken_of, KeptOf, Takes}
use Rattle.fields.specs.declared.refusal.Refusal.{Refusal}
use Rattle.fields.specs.Answer.{number_of, place_of}
use Rattle.arranging.specs.declared.decide.Numbers.{Numbers}
use Rattle.arranging.specs.ThenLaws.{then_then, then_same}
use Rattle.arranging.specs.Answered.{four, RefusedIn, Arranges, RestIn, ArrangesRest}
use Rattle.arranging.specs.Laying.{room_in, laid_for, Lays, LaysOut}
use Rattle.arranging.specs.StandingLaws.{kept-standing}

-- ---- what is answered, by the columns that are kept
room_is : (out : ℕ) (l : Layout)
    → if_lt most_file l.file_size_lem (refused 20 most64) (if_lt out l.file_size_lem (refused 20 l.file_size_lem) (ok l)) ≡ and_then (room_in out l.file_size_lem) (λ _. ok l)
unfolding room_in if_lt
room_is out l = go (ltb most_file l.file_size_lem) (ltb out l.file_size_lem)
  where
    go : (a b : Bool) → pick a (refused 20 most64) (pick b (refused 20 l.file_size_lem) (ok l))
        ≡ and_then (pick a (refused 20 most64) (pick b (refused 20 l.file_size_lem) fine)) (λ _. ok l)
    go true b = refl
    go false true = refl
    go false false = refl

-- between the file's length and the placement
taken-placed : (u : ℕ) (s numbers : List ℕ) → arranged u s numbers
    ≡ and_then (unit_in u) (λ _. and_then (if_lt most_image (length s) (refused 3 0) fine) (λ _. and_then (taken_of s numbers) (λ cs. placed u s cs)))
unfolding arranged taken_of taken_from photos_taken
taken-placed u s numbers = simp then_then

-- by the layout of the columns that are kept
by_layout : (u : ℕ) (s numbers : List ℕ) (out n : ℕ) (x y d x' y' d' : List ℕ) (o : KeptOf s numbers n x x' y y')
    → answer u s numbers out ≡ laid_for u s (kept_columns s numbers (columns_of s o.source o.count 0)) out → (a : Result Numbers Refusal)
    → Lays n d d' a (laid_for u s (kept_columns s numbers (columns_of s o.source o.count 0)) out) → ArrangesRest u s numbers out x y d a x' y' d'
by_layout u s numbers out n x y d x' y' d' o e (Err k) h = e ∙ h
by_layout u s numbers out n x y d x' y' d' o e (Ok r) h =
    record {
      told = h.told;
      is = e ∙ h.is;
      all = columns_of s o.source o.count 0;
      is_all = o.is_all;
      columns = h.columns ∙ o.kept.put.count;
      numbered = h.numbered;
      in_fragments = o.kept.put.fragments;
      in_columns = o.kept.put.words;
    }

module _ (u : ℕ) (s numbers : List ℕ) (out : ℕ) {b : Bool} (e : b ≡ is_among u units) where
  pub unit_refused : b ≡ false → answer u s numbers out ≡ refused 26 0
  unfolding answer arranged unit_in
  unit_refused q = rw (← e, q)

  module _ (q : b ≡ true) where
    unit_fine : unit_in u ≡ fine
    unfolding unit_in
    unit_fine = rw (← e, q)

    pub is_unit_lem : IsUnit u
    is_unit_lem = unit_is u unit_fine

    pub image_refused : most_image < length s → answer u s numbers out ≡ refused 3 0
    unfolding answer arranged
    image_refused h =
        let z : refused 3 0 ≡ if_lt most_image (length s) (refused 3 0) fine = lt_yes _ _ _ _ h refl in
        rw (unit_fine, ← z)

    module _ (h : length s ≤ most_image) where
      answer_is : answer u s numbers out ≡ and_then (taken_of s numbers) (λ cs. laid_for u s cs out)
      unfolding answer laid_for
      answer_is =
          let z : fine ≡ if_lt most_image (length s) (refused 3 0) fine = lt_no _ _ _ _ h refl in
          let t : arranged u s numbers ≡ and_then (taken_of s numbers) (λ cs. placed u s cs) = taken-placed u s numbers ∙ rw (unit_fine, ← z) in
          then_same (arranged u s numbers) _ _ (room_is out)
          ∙ ap (λ (v : Checked Layout). and_then v (λ l. and_then (room_in out l.file_size_lem) (λ _. ok l))) t
          ∙ then_then (taken_of s numbers) (λ cs. placed u s cs) _

      module _ (x y x' y' : List ℕ) (r : Result ℕ Refusal) (k : Takes s numbers r x x' y y') where
        pub rest-taken : {z : Refusal} → r ≡ Err z → answer u s numbers out ≡ refused (number_of z) (place_of z)
        rest-taken g = answer_is ∙ rw (subst (λ (v : Result ℕ Refusal). Takes s numbers v x x' y y') g k)

        kept_of_lem : {n : ℕ} → r ≡ Ok n → KeptOf s numbers n x x' y y'
        kept_of_lem g = subst (λ (v : Result ℕ Refusal). Takes s numbers v x x' y y') g k

        module _ {n : ℕ} (g : r ≡ Ok n) where
          pub kept-few : n ≤ 512
          kept-few = (kept_of_lem g).kept.few

          pub rest-laid : 8192 ≤ length y → (d d' : List ℕ) (a : Result Numbers Refusal) → LaysOut u s y' n out d d' a → ArrangesRest u s numbers out x y d a x' y' d'
          rest-laid long d d' a l =
              let o = kept_of_lem g in
              by_layout u s numbers out n x y d x' y' d' o (answer_is ∙ rw o.kept.is) a
              (l.is (kept_columns s numbers (columns_of s o.source o.count 0))
              (kept-standing s numbers o.source o.count n y y' o.is_all o.kept.put.count o.kept.few long o.kept.put.words))

-- ---- the lent slices
module _ (a b c d : List ℕ) where
  pub short-first : length a < 8192 → work_in (four a b c d) ≡ refused 1 0
  unfolding work_in
  short-first h = sym (lt_yes _ _ _ _ h refl)

  pub short-second : 8192 ≤ length a → length b < 8192 → work_in (four a b c d) ≡ refused 1 0
  unfolding work_in
  short-second h i = sym (lt_no _ _ _ _ h (lt_yes _ _ _ _ i refl))

  pub short_third : 8192 ≤ length a → 8192 ≤ length b → length c < 8192 → work_in (four a b c d) ≡ refused 1 0
  unfolding work_in
  short_third h i j = sym (lt_no _ _ _ _ h (lt_no _ _ _ _ i (lt_yes _ _ _ _ j refl)))

  pub short_fourth : 8192 ≤ length a → 8192 ≤ length b → 8192 ≤ length c → length d < 8192 → work_in (four a b c d) ≡ refused 1 0
  unfolding work_in
  short_fourth h i j k = sym (lt_no _ _ _ _ h (lt_no _ _ _ _ i (lt_no _ _ _ _ j (lt_yes _ _ _ _ k refl))))

  pub work_fine : 8192 ≤ length a → 8192 ≤ length b → 8192 ≤ length c → 8192 ≤ length d → work_in (four a b c d) ≡ fine
  unfolding work_in
  work_fine h i j k = sym (lt_no _ _ _ _ h (lt_no _ _ _ _ i (lt_no _ _ _ _ j (lt_no _ _ _ _ k refl))))

pub all-zero : (a b c d b' c' d' a'' b'' c'' d'' : List ℕ) → length b' ≡ length b → length c' ≡ length c → length d' ≡ length d
    → a'' ≡ replicate (length a) 0 → b'' ≡ replicate (length b') 0 → c'' ≡ replicate (length c') 0 → d'' ≡ replicate (length d') 0
    → four a'' b'' c'' d'' ≡ zeros (four a b c d)
unfolding zeros
all-zero a b c d b' c' d' a'' b'' c'' d'' lb lc ld e f g h = rw (e, f, g, h, lb, lc, ld)

module _ (u : ℕ) (s numbers : List ℕ) (out : ℕ) where
  pub short_work : (ws : List (List ℕ)) → work_in ws ≡ refused 1 0 → RefusedIn u s numbers out 1 0 ws ws
  short_work ws e = record { is = rw e; words = rw e }

  -- the same, answered
  pub rest_refused : (b c d b' c' d' : List ℕ) (r : Result Numbers Refusal) {x : Refusal} → ArrangesRest u s numbers out b c d r b' c' d' → r ≡ Err x
      → answer u s numbers out ≡ refused (number_of x) (place_of x)
  rest_refused b c d b' c' d' r h e = subst (λ (v : Result Numbers Refusal). ArrangesRest u s numbers out b c d v b' c' d') e h

  pub rest-arranged : (a b c d b' c' d' : List ℕ) (r : Result Numbers Refusal) {n : Numbers} → 8192 ≤ length a → 8192 ≤ length b → 8192 ≤ length c → 8192 ≤ length d
      → ArrangesRest u s numbers out b c d r b' c' d' → r ≡ Ok n → Arranges u s numbers out a b c d r a b' c' d'
  rest-arranged a b c d b' c' d' r {n} la lb lc ld h e =
      let o : RestIn u s numbers out n b c d b' c' d' = subst (λ (v : Result Numbers Refusal). ArrangesRest u s numbers out b c d v b' c' d') e h in
      subst (λ (v : Result Numbers Refusal). Arranges u s numbers out a b c d v a b' c' d') (sym e) (record {
        told = o.told;
        is = o.is;
        all = o.all;
        is_all = o.is_all;
        columns = o.columns;
        numbered = o.numbered;
        long_a = la;
        long_b = lb;
        long_c = lc;
        long_d = ld;
        in_source = refl;
        in_fragments = o.in_fragments;
        in_columns = o.in_columns;
      })

  pub cleared : (ws ws' : List (List ℕ)) {n p : ℕ} → work_in ws ≡ fine → answer u s numbers out ≡ refused n p → ws' ≡ zeros ws → RefusedIn u s numbers out n p ws ws'
  cleared ws ws' w e z = record { is = rw (w, e); words = rw w z }
