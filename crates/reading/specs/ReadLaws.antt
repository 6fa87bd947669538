-- From the walk and the counts to the whole of reading.
use Rattle.std.specs.Prelude.{ℕ, ◌+◌, ◌-◌, ◌≤◌}
use mathlib.Core.List.{List, [], ◌∷◌, ◌++◌}
use borrow.Rule.Slice.PartMut.{put_mid}
use Rattle.std.proofs.lemmas.List.{drop-drop}
use Rattle.std.proofs.Math.Path.{◌≡◌, refl, sym, ap}
use Rattle.std.proofs.Common.{append_assoc, ◌∙◌, add-zero, zero-add, arith, length-append, length-take-le}
use Rattle.std.proofs.Math.ListN.{length, take, drop}
use Rattle.base.specs.ChoiceLaws.{lt_no}
use Rattle.base.specs.Blit.{part, blit}
use Rattle.base.specs.BlitLaws.{length-blit, part-blit, blit_is}
use Rattle.base.specs.Checked.{Checked, ok, refused, and_then}
use Rattle.std.specs.Prelude.{Result, Ok, Err, ⊤, is_err, Bool, true, false}
use Rattle.fields.specs.declared.refusal.Refusal.{Refusal}
use Rattle.fields.specs.Answer.{verdict_of}
use Rattle.mdf.specs.Chain.{Fragment}
use Rattle.mdf.specs.Identification.{identified}
use Rattle.mdf.specs.Chain.{limits}
use Rattle.mdf.specs.Walk.{Item, dg, cg, cn, Source, level_cg, tally, walk}
use Rattle.mdf.specs.Group.{addresses, groups_of, data_groups_of, data_groups, up_to}
use Rattle.mdf.specs.Count.{count_groups, counts_from, counts}
use Rattle.work_words.specs.Words.{counts_at, source_words, laid_items, fragment_words}
use Rattle.chains.specs.KeptLaws.{length-words}
use Rattle.reading.specs.declared.answer.Read.{Read}
use Rattle.reading.specs.Steps.{refused_as, after}
use Rattle.reading.specs.Sound.{Starts, empty, first-dg}
use Rattle.reading.specs.SoundLaws.{walk-sound}
use Rattle.reading.specs.Holding.{Holding}
use Rattle.reading.specs.WordsLaws.{addresses-stand, marks_stand, groups_stand, length-laid, length_groups, tally-append}
use Rattle.reading.specs.ItemLaws.{own, later, own-later, own-addresses}
use Rattle.reading.specs.CheckedLaws.{refused≢ok, ok≢refused, ok_same}
use Rattle.reading.specs.Counting.{counted_all, Counted, CountedIn}
use Rattle.reading.specs.CountingLaws.{total, length-counts, tally-dg}
use Rattle.reading.specs.Walked.{Kept, given, kept_of, walked}
use Rattle.reading.specs.Reading.{reading, kept_by, read_over, zeros, left, left_by, fragment_room, read_into}

-- ---- what was copied over a part of the words
pub counts_laid : (w c : List ℕ) (k e : ℕ) {ys : List ℕ} → e ≡ k → ys ≡ take k c → k ≤ length c → counts_at + k ≤ length w → put_mid counts_at e w ys ≡ blit counts_at (take k c) w
counts_laid w c k e h i j l =
    let n : length (take k c) ≡ k = length-take-le k c j in
    let past : drop k (drop counts_at w) ≡ drop (counts_at + k) w = drop-drop k counts_at w in
    let there : blit counts_at (take k c) w ≡ take counts_at w ++ take k c ++ drop (counts_at + length (take k c)) w = blit_is counts_at (take k c) w (omega arith) in
    rw (h, i, past, there, n) (sym (append_assoc (take counts_at w) (take k c) (drop (counts_at + k) w)))

-- ---- as many counts as groups
groups_later : (is : List Item) → length (addresses (groups_of is)) + tally level_cg.own (later is) ≡ tally level_cg.own is
groups_later is =
    omega (arith, ap length (own-addresses is), length_groups (own is), ap (tally level_cg.own) (own-later is), tally-append level_cg.own (own is) (later is))

counts-from : (s : List ℕ) (fs : List Fragment) (is : List Item) (done : List ℕ) {ns : List ℕ} → counts_from s (data_groups_of fs is) done ≡ ok ns
    → length ns ≡ length done + tally level_cg.own (later is)
unfolding counts_from data_groups_of later tally
counts-from s fs [] done e = ap length (sym (ok_same e)) ∙ sym (add-zero _)
counts-from s fs (dg a k ∷ is) done {ns} e =
    go (count_groups s a (addresses (groups_of is)) (part k (up_to (length fs) is - k) fs)) refl (λ ms f. counts-from s fs is (done ++ ms) f) e
  where
    go : (v : Checked (List ℕ)) → count_groups s a (addresses (groups_of is)) (part k (up_to (length fs) is - k) fs) ≡ v
        → ((ms : List ℕ) → counts_from s (data_groups_of fs is) (done ++ ms) ≡ ok ns → length ns ≡ length (done ++ ms) + tally level_cg.own (later is))
        → and_then v (λ ms. counts_from s (data_groups_of fs is) (done ++ ms)) ≡ ok ns → length ns ≡ length done + tally level_cg.own (dg a k ∷ is)
    go (ok ms) i more f =
        omega (arith, more ms f, length-append done ms, length-counts s a (addresses (groups_of is)) (part k (up_to (length fs) is - k) fs) i, groups_later is, tally-dg a k is)
    go (refused y p) i more f = absurd (refused≢ok f)
counts-from s fs (cg a ∷ is) done e = counts-from s fs is done e
counts-from s fs (cn a ∷ is) done e = counts-from s fs is done e

starts-later : {is : List Item} → Starts is → later is ≡ is
unfolding later
starts-later empty = refl
starts-later first-dg = refl

pub counts-number : (s : List ℕ) (st : Source) {ns : List ℕ} → Starts st.items → counts s (data_groups st) ≡ ok ns → length ns ≡ tally level_cg.own st.items
unfolding counts data_groups
counts-number s st b e = counts-from s st.fragments st.items [] e ∙ zero-add _ ∙ ap (tally level_cg.own) (starts-later b)

-- ---- the counts, then their words
module _ {s w f : List ℕ} {n nf : ℕ} {c₀ : List ℕ} {r : Result ⊤ Refusal} {c : List ℕ} (t : Counted s w f n nf c₀ r c) (groups : ℕ) where
  pub into_refused : {y : Refusal} → r ≡ Err y → CountedIn s w f n groups nf (Err y) w
  unfolding counted_all
  into_refused {y} q = record { of = λ h g. go (counts s (data_groups h.st)) (sym (ap (λ (v : Result ⊤ Refusal). after v c) q) ∙ t.of h) }
    where
      go : (v : Checked (List ℕ)) → ◌≡◌ {A = Checked (List ℕ)} (refused_as y) (and_then v (λ ns. ok (blit 0 ns c₀))) → refused_as y ≡ and_then v (λ ns. ok (blit counts_at ns w))
      go (ok ns) e = absurd (refused≢ok e)
      go (refused x o) e = cc

  pub into_words : {w' : List ℕ} {u v : ⊤} → r ≡ Ok u → length c₀ ≡ 512 → w' ≡ blit counts_at (take groups c) w → CountedIn s w f n groups nf (Ok v) w'
  unfolding counted_all part
  into_words {w'} q l e = record { of = λ h g. go h g (counts s (data_groups h.st)) refl (sym (ap (λ (v : Result ⊤ Refusal). after v c) q) ∙ t.of h) }
    where
      go : (h : Holding w f n nf) → groups ≡ tally level_cg.own h.st.items → (v : Checked (List ℕ)) → counts s (data_groups h.st) ≡ v
          → ◌≡◌ {A = Checked (List ℕ)} (ok c) (and_then v (λ ns. ok (blit 0 ns c₀))) → ok w' ≡ and_then v (λ ns. ok (blit counts_at ns w))
      go h g (ok ns) i z =
          let b = h.sound.cgs in
          let k : length ns ≡ groups = counts-number s h.st h.sound.begins i ∙ sym g in
          let m : take groups c ≡ ns = ap (λ (j : ℕ). take j c) (sym k) ∙ ap (take (length ns)) (ok_same z) ∙ part-blit 0 ns c₀ (omega arith) in
          ap ok (e ∙ ap (λ (x : List ℕ). blit counts_at x w) m)
      go h g (refused x o) i z = absurd (ok≢refused z)

-- ---- what the walk left
pub record Met (s w f : List ℕ) (n g k : ℕ) (w' f' : List ℕ) : Type 0 where
  pub st : Source
  pub is : walk s ≡ ok st
  pub items : n ≡ length st.items
  pub groups : g ≡ tally level_cg.own st.items
  pub pieces : k ≡ length st.fragments
  pub words : w' ≡ laid_items st.items w
  pub frags : f' ≡ blit 0 (fragment_words st.fragments) f

pub walk_met : (s w f w' f' : List ℕ) {r : Result Read Refusal} {x : Read} → given r w' f' ≡ walked limits s w f → r ≡ Ok x → Met s w f x.items x.groups x.fragments w' f'
unfolding walked
walk_met s w f w' f' {r} {x} e q = go (walk s) refl (sym (ap (λ (v : Result Read Refusal). given v w' f') q) ∙ e)
  where
    go : (v : Checked Source) → walk s ≡ v → ◌≡◌ {A = Checked Kept} (given (Ok x) w' f') (and_then v (λ st. ok (kept_of st w f))) → Met s w f x.items x.groups x.fragments w' f'
    go (ok st) i z =
        let m = ok_same z in
        record { st = st; is = i; items = ap Kept.items m; groups = ap Kept.groups m; pieces = ap Kept.fragments m; words = ap Kept.words m; frags = ap Kept.frags m }
    go (refused y p) i z = absurd (ok≢refused z)

pub met_holding : {s w f : List ℕ} {n g k : ℕ} {w' f' : List ℕ} → Met s w f n g k w' f' → source_words ≤ length w → fragment_room ≤ length f → Holding w' f' n k
met_holding {s} {w} {f} {w' = w'} {f' = f'} m l r =
    let st = m.st in
    let d = walk-sound s st m.is in
    let t = total st.items in
    let a = d.dgs in
    let b = d.cgs in
    let c = d.cns in
    let p = d.pieces in
    let q = length-words st.fragments in
    let h : length st.items ≤ 1536 = omega arith in
    record {
      st = st;
      sound = d;
      long = omega (arith, ap length m.words, length-laid st.items w);
      room = omega (arith, ap length m.frags, length-blit 0 (fragment_words st.fragments) f);
      blocks = m.items;
      pieces = m.pieces;
      addresses = rw m.words (addresses-stand st.items w h l);
      marks = rw m.words (marks_stand st.items w h l);
      groups = rw m.words (groups_stand st.items w h l d.cgs);
      fragments = rw m.frags (record { is = part-blit 0 (fragment_words st.fragments) f (omega arith) });
    }

pub met_few : {s w f : List ℕ} {n g k : ℕ} {w' f' : List ℕ} → Met s w f n g k w' f' → g ≤ 512
met_few {s} m = let d = (walk-sound s m.st m.is).cgs in let e = m.groups in omega arith

same_kept : {a a' b b' c c' : ℕ} {w w' f f' : List ℕ} → a ≡ a' → b ≡ b' → c ≡ c' → w ≡ w' → f ≡ f'
    → ◌≡◌ {A = Checked Kept} (ok (record { items = a; groups = b; fragments = c; words = w; frags = f })) (ok (record { items = a'; groups = b'; fragments = c'; words = w'; frags = f' }))
same_kept p q r x y = rw (p, q, r, x, y)

-- ---- the whole
module _ (s w f : List ℕ) {o : Result ⊤ Refusal} (e : verdict_of o ≡ identified s) where
  pub all_unknown : {y : Refusal} → o ≡ Err y → refused_as y ≡ read_over s w f
  unfolding read_over reading
  all_unknown q = rw (← e, q)

  module _ {u : ⊤} (q : o ≡ Ok u) where
    opened : read_over s w f ≡ and_then (walk s) (λ st. and_then (counts s (data_groups st)) (λ ns. ok (kept_by (record { source = st; counts = ns }) w f)))
    unfolding read_over reading
    opened = rw (← e, q) (go (walk s))
      where
        go : (v : Checked Source) → and_then (and_then v (λ st. and_then (counts s (data_groups st)) (λ ns. ok (record { source = st; counts = ns })))) (λ r. ok (kept_by r w f))
            ≡ and_then v (λ st. and_then (counts s (data_groups st)) (λ ns. ok (kept_by (record { source = st; counts = ns }) w f)))
        go (ok st) = more (counts s (data_groups st))
          where
            more : (v : Checked (List ℕ)) → and_then (and_then v (λ ns. ok (record { source = st; counts = ns }))) (λ r. ok (kept_by r w f))
                ≡ and_then v (λ ns. ok (kept_by (record { source = st; counts = ns }) w f))
            more (ok ns) = refl
            more (refused y p) = refl
        go (refused y p) = refl

    -- the walk's refusal
    pub all_stopped : (w' f' : List ℕ) {r : Result Read Refusal} {y : Refusal} → given r w' f' ≡ walked limits s w f → r ≡ Err y → refused_as y ≡ read_over s w f
    unfolding walked
    all_stopped w' f' {y = y} g z = go (walk s) (sym (ap (λ (v : Result Read Refusal). given v w' f') z) ∙ g) ∙ sym opened
      where
        go : (v : Checked Source) → ◌≡◌ {A = Checked Kept} (refused_as y) (and_then v (λ st. ok (kept_of st w f)))
            → refused_as y ≡ and_then v (λ st. and_then (counts s (data_groups st)) (λ ns. ok (kept_by (record { source = st; counts = ns }) w f)))
        go (ok st) j = absurd (refused≢ok j)
        go (refused x i) j = cc

    module _ {x : Read} {w' f' : List ℕ} (m : Met s w f x.items x.groups x.fragments w' f') (l : source_words ≤ length w) (r : fragment_room ≤ length f)
        {v : Result ⊤ Refusal} {w'' : List ℕ} (c : CountedIn s w' f' x.items x.groups x.fragments v w'') where
      -- after the walk
      past : read_over s w f ≡ and_then (counts s (data_groups m.st)) (λ ns. ok (kept_by (record { source = m.st; counts = ns }) w f))
      past = opened ∙ ap (λ (u : Checked Source). and_then u (λ st. and_then (counts s (data_groups st)) (λ ns. ok (kept_by (record { source = st; counts = ns }) w f)))) m.is

      told : after v w'' ≡ and_then (counts s (data_groups m.st)) (λ ns. ok (blit counts_at ns w'))
      unfolding met_holding
      told = c.of (met_holding m l r) m.groups

      pub all_uncounted : {y : Refusal} → v ≡ Err y → refused_as y ≡ read_over s w f
      all_uncounted {y} z = go (counts s (data_groups m.st)) (sym (ap (λ (u : Result ⊤ Refusal). after u w'') z) ∙ told) ∙ sym past
        where
          go : (u : Checked (List ℕ)) → ◌≡◌ {A = Checked (List ℕ)} (refused_as y) (and_then u (λ ns. ok (blit counts_at ns w')))
              → refused_as y ≡ and_then u (λ ns. ok (kept_by (record { source = m.st; counts = ns }) w f))
          go (ok ns) j = absurd (refused≢ok j)
          go (refused x i) j = cc

      pub all_read : {u : ⊤} → v ≡ Ok u → given (Ok x) w'' f' ≡ read_over s w f
      all_read z = go (counts s (data_groups m.st)) (sym (ap (λ (u : Result ⊤ Refusal). after u w'') z) ∙ told) ∙ sym past
        where
          go : (u : Checked (List ℕ)) → ◌≡◌ {A = Checked (List ℕ)} (ok w'') (and_then u (λ ns. ok (blit counts_at ns w')))
              → given (Ok x) w'' f' ≡ and_then u (λ ns. ok (kept_by (record { source = m.st; counts = ns }) w f))
          go (ok ns) j =
              let h : w'' ≡ blit counts_at ns (laid_items m.st.items w) = ok_same j ∙ ap (blit counts_at ns) m.words in
              same_kept m.items m.groups m.pieces h m.frags
          go (refused x i) j = absurd (ok≢refused j)

-- ---- the words at the end
module _ (s w f : List ℕ) (l : source_words ≤ length w) (r : fragment_room ≤ length f) where
  long_enough : read_into s w f ≡ left_by (read_over s w f) w f
  unfolding read_into
  long_enough = sym (lt_no _ _ _ _ l (lt_no _ _ _ _ r refl))

  pub read_refused : (w' f' : List ℕ) (a : Result Read Refusal) {w'' f'' : List ℕ} → given a w' f' ≡ read_over s w f → is_err a ≡ true
      → length w' ≡ length w → length f' ≡ length f → w'' ≡ zeros w' → f'' ≡ zeros f' → left a w'' f'' ≡ read_into s w f
  read_refused w' f' (Ok x) e q i j m n = absurd (let z : ◌≡◌ {A = Bool} false true = q in cc)
  read_refused w' f' (Err y) e q i j m n = rw (m, n, i, j) (ap (λ (v : Checked Kept). left_by v w f) e) ∙ sym long_enough

  pub read_done : (w' f' : List ℕ) (a : Result Read Refusal) → given a w' f' ≡ read_over s w f → is_err a ≡ false → left a w' f' ≡ read_into s w f
  read_done w' f' (Ok x) e q = ap (λ (v : Checked Kept). left_by v w f) e ∙ sym long_enough
  read_done w' f' (Err y) e q = absurd (let z : ◌≡◌ {A = Bool} true false = q in cc)
