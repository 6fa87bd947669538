-- From the code's answers to what opening gives.
use Prim.{tt}
use Rattle.std.specs.Prelude.{ℕ, ◌≤◌, length}
use mathlib.Core.List.{List, []}
use Rattle.std.proofs.Math.Path.{◌≡◌, refl, sym}
use Rattle.std.proofs.Common.{ap, ◌∙◌, arith}
use Rattle.base.specs.Checked.{Checked, ok, refused, and_then, fine}
use Rattle.base.specs.CheckedLaws.{ok_same}
use Rattle.mdf.specs.Identification.{identified}
use Rattle.mdf.specs.Chain.{file_limits}
use Rattle.mdf.specs.Walk.{Item, Source, walk_of}
use Rattle.mdf.specs.Group.{data_groups_of, data_groups}
use Rattle.mdf.specs.Records.{ranges_in}
use Rattle.work_words.specs.Words.{laid_items, marks_at, address_words, mark_words}
use Rattle.std.specs.Prelude.{Result, Ok, Err, ⊤}
use Rattle.fields.specs.declared.refusal.Refusal.{Refusal}
use Rattle.fields.specs.Answer.{verdict_of}
use Rattle.blocks.specs.AnswerLaws.{so_fine, so_refused}
use Rattle.reading.specs.declared.answer.Read.{Read}
use Rattle.reading.specs.Steps.{refused_as}
use Rattle.reading.specs.Walked.{Kept, given, kept_of, walked}
use Rattle.reading.specs.SoundLaws.{walk_of_sound}
use Rattle.reading.specs.CountingLaws.{total}
use Rattle.reading.specs.Sound.{Starts, empty, first-dg}
use Rattle.reading.specs.Holding.{Stands}
use Rattle.reading.specs.WordsLaws.{length-laid, addresses-stand, marks_stand}
use Rattle.file.specs.Form.{FileColumn}
use Rattle.file.specs.Opened.{columns_in, opened}
use Rattle.ranges.specs.Met.{Upto, upto}
use Rattle.ranges.specs.MetLaws.{walk_met}
use Rattle.ranges.specs.Open.{word_ranges, form_from, lasting}
use Rattle.ranges.specs.ColumnsLaws.{met_ranges, AtDG, met_columns}

-- what the walk left
record Left (s w w' : List ℕ) (n : ℕ) : Type 0 where
  st : Source
  is : walk_of file_limits s ≡ ok st
  items : n ≡ length st.items
  words : w' ≡ laid_items st.items w
  few : n ≤ marks_at

done≢refused : {A : Type 0} {k : Kept} {n p : ℕ} → ◌≡◌ {A = Checked Kept} (ok k) (refused n p) → A
done≢refused e = absurd (let z : ◌≡◌ {A = ℕ} 0 1 = cc in omega arith)

left-few : (s : List ℕ) (st : Source) → walk_of file_limits s ≡ ok st → length st.items ≤ marks_at
left-few s st e =
    let d = walk_of_sound file_limits s st e in
    let a = d.dgs in
    let b = d.cgs in
    let c = d.cns in
    let t = total st.items in
    omega arith

left_met : (s w w' : List ℕ) {r : Result Read Refusal} {x : Read} → given r w' [] ≡ walked file_limits s w [] → r ≡ Ok x → Left s w w' x.items
unfolding walked
left_met s w w' {r} {x} e q = go (walk_of file_limits s) refl (sym (ap (λ (v : Result Read Refusal). given v w' []) q) ∙ e)
  where
    go : (v : Checked Source) → walk_of file_limits s ≡ v → ◌≡◌ {A = Checked Kept} (given (Ok x) w' []) (and_then v (λ st. ok (kept_of st w []))) → Left s w w' x.items
    go (ok st) i z =
        let m = ok_same z in
        let j : x.items ≡ length st.items = ap Kept.items m in
        record { st = st; is = i; items = j; words = ap Kept.words m; few = rw j (left-few s st i) }
    go (refused y p) i z = done≢refused z

at-start : (is : List Item) → Starts is → AtDG is
at-start is empty = tt
at-start is first-dg = tt

module _ {s w w' : List ℕ} {n : ℕ} (l : Left s w w' n) (long : length w ≡ 4096) where
  addresses : Stands w' 0 (address_words l.st.items)
  addresses = rw l.words (addresses-stand l.st.items w (left-few s l.st l.is) (omega arith))

  marks : Stands w' marks_at (mark_words l.st.items)
  marks = rw l.words (marks_stand l.st.items w (left-few s l.st l.is) (omega arith))

  ranges_met : word_ranges s w' n 0 ≡ ranges_in s l.st.fragments
  ranges_met = go (walk_met file_limits s l.st l.is)
    where
      go : Upto file_limits s 0 l.st → word_ranges s w' n 0 ≡ ranges_in s l.st.fragments
      go (upto k h m) = rw l.items (met_ranges s w' 0 m addresses marks)

  columns_met : form_from s w' n 0 ≡ columns_in s (data_groups l.st)
  unfolding data_groups
  columns_met = go (walk_met file_limits s l.st l.is)
    where
      go : Upto file_limits s 0 l.st → form_from s w' n 0 ≡ columns_in s (data_groups_of l.st.fragments l.st.items)
      go (upto k h m) =
          rw l.items (sym (met_columns s w' l.st.fragments [] 0 m (at-start l.st.items (walk_of_sound file_limits s l.st l.is).begins)
          refl refl refl addresses marks))

-- ---- opening, way by way
module _ (s : List ℕ) {o : Result ⊤ Refusal} (e : verdict_of o ≡ identified s) where
  pub open_unknown : {y : Refusal} → o ≡ Err y → refused_as y ≡ opened s
  unfolding opened
  open_unknown q = rw (so_refused e q)

  module _ {t : ⊤} (q : o ≡ Ok t) (w w' : List ℕ) {r : Result Read Refusal} (f : given r w' [] ≡ walked file_limits s w []) where
    pub open_stopped : {y : Refusal} → r ≡ Err y → refused_as y ≡ opened s
    unfolding opened walked
    open_stopped {y} g = go (walk_of file_limits s) refl (sym (ap (λ (v : Result Read Refusal). given v w' []) g) ∙ f)
      where
        go : (v : Checked Source) → walk_of file_limits s ≡ v → ◌≡◌ {A = Checked Kept} (refused_as y) (and_then v (λ st. ok (kept_of st w []))) → refused_as y ≡ opened s
        go (ok st) i z = done≢refused (sym z)
        go (refused n p) i z = rw (so_fine e q, i) (cc)

    pub open_lasting : {x : Read} → r ≡ Ok x → length w ≡ 4096 → (v : Result ℕ Refusal) → lasting v w'
    open_lasting h long v = go v (let l = left_met s w w' f h in ap length l.words ∙ length-laid l.st.items w ∙ long)
      where
        go : (v : Result ℕ Refusal) → length w' ≡ 4096 → lasting v w'
        go (Err y) q = tt
        go (Ok n) q = q

    pub open_few : {x : Read} → r ≡ Ok x → x.items ≤ 1536
    open_few h = (left_met s w w' f h).few

    module _ (long : length w ≡ 4096) {x : Read} (h : r ≡ Ok x) {v : Result ⊤ Refusal} (i : verdict_of v ≡ word_ranges s w' x.items 0) where
      pub open_ranges : {y : Refusal} → v ≡ Err y → refused_as y ≡ opened s
      unfolding opened
      open_ranges j =
          let l = left_met s w w' f h in
          let b : ranges_in s l.st.fragments ≡ refused _ _ = sym (ranges_met l long) ∙ so_refused i j in
          rw (so_fine e q, l.is, b)

      pub open_form : {u : Checked (List FileColumn)} {t : ⊤} → v ≡ Ok t → u ≡ form_from s w' x.items 0 → u ≡ opened s
      unfolding opened
      open_form j t =
          let l = left_met s w w' f h in
          let b : ranges_in s l.st.fragments ≡ fine = sym (ranges_met l long) ∙ so_fine i j in
          t ∙ columns_met l long ∙ rw (so_fine e q, l.is, b)
