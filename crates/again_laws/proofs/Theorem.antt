-- Document 02's request 14: converting a result again.
use Prim.{Unit, tt}
use Rattle.std.specs.Prelude.{ℕ, zero, suc, Bool, true, false, ◌⊎◌, ◌≡◌, refl, ltb, length, replicate}
use mathlib.Core.List.{List, [], ◌∷◌}
use Rattle.std.proofs.Common.{inl, inr, sym, subst, ◌∙◌, arith}
use Rattle.std.proofs.Math.Option.{none, some}
use Rattle.std.proofs.Math.Path.{ap}
use Rattle.base.specs.Choice.{pick, if_lt, if_eq}
use Rattle.base.specs.ChoiceLaws.{eq_no}
use Rattle.base.specs.Blit.{blit}
use Rattle.base.specs.Checked.{Checked, ok, refused, and_then, fine}
use Rattle.base.specs.CheckedLaws.{refused≢ok}
use Rattle.mdf.specs.Identification.{file_mark}
use Rattle.mdf.specs.Count.{counts}
use Rattle.mdf.specs.Group.{DataGroup, data_groups}
use Rattle.mdf.specs.Walk.{Source}
use Rattle.plan.specs.Columns.{SrcGroup, src_groups, stand_in, Column, Omission, Plan, plan, omission_addresses, omission_reasons, omission_words}
use Rattle.plan.specs.Data.{all_data_in, blocks_in}
use Rattle.plan.specs.Layout.{layout, Placed, cn_of}
use Rattle.plan.specs.Photos.{photos_first, photos_in}
use Rattle.plan.specs.Rules.{choices_in}
use Rattle.result.specs.Result.{Args, rules_of, Report, Decided, version420, lent_in, decided, answer, file_of, Outcome, work_words, work_in, work_left, outcome, convert}
use Rattle.result.specs.Sharing.{sharing}
use Rattle.result.specs.Links.{Shown, shown}
use Rattle.result.specs.Due.{due_all}
use Rattle.result.specs.Guarantee.{In, here, there, columns_placed}
use Rattle.copies_laws.specs.AnswerLaws.{on_eq}
use Rattle.plan_laws.specs.DecideLaws.{none≢some, some_same}
use Rattle.plan_laws.specs.Lists.{in_none}
use Rattle.plan_laws.specs.Known.{Known, answer-known}
use Rattle.guarantee.specs.Theorem.{AllBytes, guaranteed, o, column_in_lem}
use Rattle.again.specs.Same.{kept_from}
use Rattle.again.specs.Again.{Repeats, may_meet, SameAgain, Again, SameLeft, AgainConverted}
use Rattle.again_laws.specs.FileBytes.{final_bytes}
use Rattle.again_laws.specs.Gives.{Gives, gives, stops, gives_then, gives_more, gives-number, gives_value}
use Rattle.again_laws.specs.Limited.{closer}
use Rattle.again_laws.proofs.WalkAgain.{column_groups, Walked, result_columns, result_stands, walk-again}
use Rattle.again_laws.specs.Held.{Held}
use Rattle.again_laws.proofs.HeldLaws.{result-held}
use Rattle.again_laws.proofs.CountAgain.{WidePlaced, records_placed, counts-again}
use Rattle.again_laws.proofs.DataAgain.{groups_again, source-again}
use Rattle.again_laws.specs.Origin.{placed_number, Origin}
use Rattle.again_laws.specs.OriginLaws.{result_origin}
use Rattle.again_laws.proofs.OrderAgain.{columns_again, Ascending, stand_ascending}
use Rattle.again_laws.proofs.PlanAgain.{PlannedAgain, plan-again}
use Rattle.again_laws.proofs.MasterAgain.{placed_ascending}
use Rattle.again_laws.proofs.ShownAgain.{same-shown}
use Rattle.again_laws.specs.CopyAgain.{deeper, Any, on_lt, on_fine}
use Rattle.again_laws.proofs.StageAgain.{blocks_give, all_data_again}
use Rattle.again_laws.proofs.ResultAgain.{copying_again, photos_first_lem, referred_again}

-- ---- which refusals may be met
in_cases : {n c : ℕ} {bs : List ℕ} → In n (c ∷ bs) → (n ≡ c) ⊎ In n bs
in_cases here = inl refl
in_cases (there i) = inr i

-- one of two
in_two : (n a b : ℕ) → In a may_meet → In b may_meet → In n (a ∷ b ∷ []) → In n may_meet
in_two n a b p q i = first (in_cases i)
  where
    second : (n ≡ b) ⊎ In n [] → In n may_meet
    second (inl e) = subst (λ (m : ℕ). In m may_meet) (sym e) q
    second (inr j) = absurd (in_none j)

    first : (n ≡ a) ⊎ In n (b ∷ []) → In n may_meet
    first (inl e) = subst (λ (m : ℕ). In m may_meet) (sym e) p
    first (inr j) = second (in_cases j)

closer_may : (n : ℕ) → In n closer → In n may_meet
closer_may n i = in_two n 9 19 (there (there here)) (there (there (there (there here)))) i

deeper_may : (n : ℕ) → In n deeper → In n may_meet
deeper_may n i = in_two n 16 19 (there (there (there here))) (there (there (there (there here)))) i

-- 1, or what is lent fits
lent_gives : (y : Args) → Gives may_meet Any (lent_in y)
unfolding lent_in
lent_gives y =
    on_eq (Gives may_meet Any) (length y.ident) 64 _ (refused 1 0) (λ _.
    on_eq (Gives may_meet Any) _ file_mark _ (refused 1 0) (λ _.
    on_eq (Gives may_meet Any) _ version420 _ (refused 1 0) (λ _.
    on_lt 4096 (length y.text) (refused 1 0) fine (stops here) (gives tt))
    (λ _. stops here)) (λ _. stops here)) (λ _. stops here)

-- 3
length-gives : (n : ℕ) → Gives may_meet Any (if_lt {A = Checked (Unit {0})} 4294967296 n (refused 3 0) fine)
length-gives n = on_lt 4294967296 n (refused 3 0) fine (stops (there here)) (gives tt)

-- as many columns as placed
placed-many : (ps : List Placed) → length (columns_placed ps) ≡ length ps
unfolding columns_placed
placed-many [] = refl
placed-many (p ∷ ps) = ap suc (placed-many ps)

again-many : (photos : Bool) (f s : List ℕ) (size : ℕ) (ps : List Placed) → length (columns_again photos f s size ps) ≡ length ps
unfolding columns_again
again-many photos f s size [] = refl
again-many photos f s size (p ∷ ps) = ap suc (again-many photos f s size ps)

-- nothing stands for another without sharing
stand-none : (a : ℕ) (gs : List SrcGroup) (n : ℕ) → stand_in a gs (replicate n 0) ≡ 0
unfolding stand_in
stand-none a [] n = refl
stand-none a (g ∷ gs) zero = refl
stand-none a (g ∷ gs) (suc n) = on_eq (λ (v : ℕ). v ≡ 0) g.at a 0 (stand_in a gs (replicate n 0)) (λ _. refl) (λ _. stand-none a gs n)

unshared_is : (share : Bool) (f : List ℕ) (ds : List DataGroup) (gs : List SrcGroup) → share ≡ false → sharing share f ds gs ≡ ok (replicate (length gs) 0)
unfolding sharing
unshared_is share f ds gs e = rw e

number_member : (j : ℕ) (ps : List Placed) (p : Placed) → placed_number j ps ≡ some p → In p ps
unfolding placed_number
number_member j [] p e = absurd (none≢some e)
number_member zero (q ∷ ps) p e = subst (λ (r : Placed). In p (r ∷ ps)) (sym (some_same e)) here
number_member (suc j) (q ∷ ps) p e = there (number_member j ps p e)

chosen-again : (u v : ℕ) (t : List ℕ) (a b c d : Bool) → u ≡ v → t ≡ []
    → choices_in (record { unit = v; table = []; share = c; photos = d }) ≡ fine → choices_in (record { unit = u; table = t; share = a; photos = b }) ≡ fine
unfolding choices_in
chosen-again u v t a b c d p q e = rw (p, q) e

-- what was decided again
record DecidedAgain (photos : Bool) (f s : List ℕ) (size : ℕ) (ps : List Placed) (e : Decided) : Type 0 where
  columns : e.planned.columns ≡ columns_again photos f s size ps
  omissions : e.planned.omissions ≡ []

module _ (x y : Args) (out list : List ℕ) (d : Decided) (r : Repeats x y out list d) where
  abbrev f : List ℕ
  f = blit 0 (file_of x d.laid_out) out

  abbrev s : List ℕ
  s = x.image

  abbrev size : ℕ
  size = x.block_size

  abbrev ps : List Placed
  ps = d.laid_out.placed

  abbrev gs : List SrcGroup
  gs = groups_again s size ps

  bytes : AllBytes s
  bytes = r.first.image_bytes

  ident_bytes : AllBytes x.ident
  ident_bytes = r.first.ident_bytes

  k : Known x d
  k = answer-known x (length out) (length list) d r.first.accepted

  held : (j : ℕ) (p : Placed) → placed_number j ps ≡ some p → Held f (rules_of x) s size ps p
  held j p at = result-held x out list d bytes ident_bytes r.first.accepted p (number_member j ps p at)

  origin : (j : ℕ) (p : Placed) → placed_number j ps ≡ some p → Origin s ps j p
  origin j p at = result_origin x out list d bytes r.first.accepted r.types j p at

  referred : (j : ℕ) (p : Placed) → placed_number j ps ≡ some p → photos_in y.photos f (cn_of p) ≡ fine
  referred j p at = rw r.choices.photos (referred_again x out list d bytes ident_bytes r.first.accepted p (number_member j ps p at))

  ascending : Ascending 0 ps
  ascending = stand_ascending f s size 0 ps (result_stands x out list d bytes ident_bytes r.first.accepted).columns

  wide : WidePlaced s ps
  wide p i = r.wide p.column (column_in_lem x d k p i)

  counted : counts f (column_groups (result_columns x d)) ≡ ok (records_placed ps)
  counted = counts-again f (rules_of x) s size ps ps (λ p i. result-held x out list d bytes ident_bytes r.first.accepted p i) wide

  -- ---- from planning on
  after-plan : (ds : List DataGroup) (st : List SrcGroup) (bys : List ℕ) (p : Plan) → ds ≡ column_groups (result_columns x d) → PlannedAgain y.photos f s size ps p
      → Gives may_meet (DecidedAgain y.photos f s size ps)
      (and_then (all_data_in f p.columns ds) (λ _. and_then (blocks_in f size p.columns) (λ _. and_then (layout (rules_of y) f size (length y.text) p.columns) (λ l.
      ok (record { groups = st; stands = bys; planned = p; laid_out = l })))))
  after-plan ds st bys p q h =
      on_fine _ _ (ap (λ (cs : List Column). all_data_in f cs ds) h.columns ∙ ap (all_data_in f (columns_again y.photos f s size ps)) q
      ∙ all_data_again f (rules_of x) s size ps r.types held origin y.photos)
      (gives_then _ (blocks_give may_meet (there (there (there (there here)))) f size p.columns) (λ _ _.
      gives_then _ (subst (λ (cs : List Column). Gives may_meet Any (layout (rules_of y) f size (length y.text) cs)) (sym h.columns)
      (gives_more deeper_may (copying_again x out list d bytes ident_bytes r.first.accepted y.photos (rules_of y) (length y.text)))) (λ l _.
      gives (record { columns = h.columns; omissions = h.omissions }))))

  -- ---- from counting on
  after-walk : (st : Source) → Walked (result_columns x d) st
      → Gives may_meet (DecidedAgain y.photos f s size ps)
      (and_then (counts f (data_groups st)) (λ ns.
      and_then (photos_first y.photos f) (λ _.
      and_then (sharing y.share f (data_groups st) (src_groups (data_groups st) ns)) (λ bys.
      and_then (plan (rules_of y) f (length st.fragments) (src_groups (data_groups st) ns) bys) (λ p.
      and_then (all_data_in f p.columns (data_groups st)) (λ _.
      and_then (blocks_in f size p.columns) (λ _.
      and_then (layout (rules_of y) f size (length y.text) p.columns) (λ l.
      ok (record { groups = src_groups (data_groups st) ns; stands = bys; planned = p; laid_out = l })))))))))
  after-walk st w =
      rw (
        w.groups,
        counted,
        photos_first_lem x out list d bytes ident_bytes r.first.accepted y.photos,
        source-again s size ps,
        unshared_is y.share f (column_groups (result_columns x d)) gs r.choices.unshared,
      )
      (gives_then _ (gives_more closer_may (plan-again f (rules_of x) s size ps r.types (rules_of y) r.choices.types (replicate (length gs) 0) (λ a. stand-none a gs (length gs))
      held origin referred ascending (length st.fragments))) (λ p h.
      after-plan (column_groups (result_columns x d)) gs (replicate (length gs) 0) p refl h))

  chosen : choices_in (rules_of y) ≡ fine
  chosen =
      chosen-again y.unit x.unit y.table y.share y.photos x.share x.photos r.choices.unit r.choices.types
      (subst (λ (t : List ℕ). choices_in (record { unit = x.unit; table = t; share = x.share; photos = x.photos }) ≡ fine) r.types k.steps.chosen)

  size-some : if_eq {A = Checked (Unit {0})} y.block_size 0 (refused 2 0) fine ≡ fine
  size-some = sym (eq_no _ _ _ _ (λ z. omega (arith, r.choices.block_size, k.steps.block_size)) refl)

  -- ---- all
  again-decided : Gives may_meet (DecidedAgain y.photos f s size ps) (decided y)
  unfolding decided
  again-decided =
      gives_then _ (lent_gives y) (λ _ _.
      on_fine _ _ size-some (
      on_fine _ _ chosen (
      rw (r.image, r.choices.block_size) (
      gives_then _ (length-gives (length f)) (λ _ _.
      on_fine _ _ (result_stands x out list d bytes ident_bytes r.first.accepted).ident (
      gives_then _ (gives_more closer_may (walk-again x out list d bytes ident_bytes r.first.accepted)) (λ st w. after-walk st w)))))))

  -- 20 and 21 after that
  again-answered : (out2 list2 : ℕ) → Gives may_meet (DecidedAgain y.photos f s size ps) (answer y out2 list2)
  unfolding answer
  again-answered out2 list2 =
      gives_then _ again-decided (λ e h.
      on_lt out2 e.laid_out.file_size_lem (refused 20 e.laid_out.file_size_lem) _ (stops (there (there (there (there (there here))))))
      (on_lt list2 (length (omission_words e.planned.omissions)) (refused 21 (length (omission_words e.planned.omissions))) (ok e)
      (stops (there (there (there (there (there (there here))))))) (gives h)))

  -- ---- what an accepted second call shows
  image-bytes : AllBytes y.image
  image-bytes = rw r.image (final_bytes x d.laid_out out bytes ident_bytes r.first.text_bytes_lem r.first.out_bytes)

  same-again : (out2 list2 : List ℕ) (e : Decided) → answer y (length out2) (length list2) ≡ ok e → SameAgain y d e out2
  same-again out2 list2 e a =
      let h = gives_value e (again-answered (length out2) (length list2)) a in
      let first = guaranteed x out list d bytes r.first.accepted in
      let second = guaranteed y out2 list2 e image-bytes a in
      let k2 = answer-known y (length out2) (length list2) e a in
      let qs : List Placed = e.laid_out.placed in
      let placed : columns_placed qs ≡ columns_again y.photos f s size ps = second.planned ∙ h.columns in
      let rising : Ascending _ qs = subst (Ascending _) (sym (o y e k2).placed) (placed_ascending (rules_of y) y.image y.block_size _ _ e.planned.columns) in
      let many : length ps ≡ length d.planned.columns = sym (placed-many ps) ∙ ap length first.planned in
      let other : length qs ≡ length ps = sym (placed-many qs) ∙ ap length placed ∙ again-many y.photos f s size ps in
      let same = same-shown f (rules_of x) s size ps r.types (rules_of y) r.choices.types r.choices.photos held origin ascending qs placed _ rising in
      record {
        omissions = h.omissions;
        columns = λ n l.
            let one : shown y.image n ≡ due_all (rules_of x) s size ps ps = ap (λ (g : List ℕ). shown g n) r.image ∙ first.shows n (omega arith) in
            let two : shown (blit 0 (file_of y e.laid_out) out2) n ≡ due_all (rules_of y) f size qs qs =
            second.shows n (omega arith) ∙ ap (λ (g : List ℕ). due_all (rules_of y) g y.block_size qs qs) r.image
            ∙ ap (λ (z : ℕ). due_all (rules_of y) f z qs qs) r.choices.block_size in
            ap (λ (c : List Shown). kept_from c c) two ∙ same ∙ sym (ap (λ (c : List Shown). kept_from c c) one);
      }

-- "provided the second run meets none of refusals 1, 3, 9, 16, 19, 20 and 21": it meets no other, and gives the same columns
pub again : Again
again x y out list d r out2 list2 = (λ n p e. gives-number n p (again-answered x y out list d r (length out2) (length list2)) e, same-again x y out list d r out2 list2)

-- ---- whole calls
work_cases : (work : List (List ℕ)) → (work_in work ≡ fine) ⊎ (work_in work ≡ refused 1 0)
unfolding work_in if_lt
work_cases [] = inl refl
work_cases (w ∷ ws) = go (ltb (length w) work_words) (work_cases ws)
  where
    go : (t : Bool) → (work_in ws ≡ fine) ⊎ (work_in ws ≡ refused 1 0)
        → (pick t (refused 1 0) (work_in ws) ≡ fine) ⊎ (pick t (refused 1 0) (work_in ws) ≡ refused 1 0)
    go true h = inr refl
    go false h = h

module _ (y : Args) (out list : List ℕ) (work : List (List ℕ)) where
  abbrev left : Checked Decided → Outcome
  left v = outcome y out list (work_left (and_then (work_in work) (λ _. lent_in y)) work) v

  -- with slices that are long enough it is the answer, else 1
  call-answer : work_in work ≡ fine → convert y out list work ≡ left (answer y (length out) (length list))
  unfolding convert
  call-answer e = ap left (then_on (answer y (length out) (length list)) e)
    where
      then_on : (v : Checked Decided) → work_in work ≡ fine → and_then (work_in work) (λ _. v) ≡ v
      then_on v e = rw e

  call-short : work_in work ≡ refused 1 0 → convert y out list work ≡ left (refused 1 0)
  unfolding convert
  call-short e = ap left (then_ends (answer y (length out) (length list)) e)
    where
      then_ends : (v : Checked Decided) → work_in work ≡ refused 1 0 → and_then (work_in work) (λ _. v) ≡ refused 1 0
      then_ends v e = rw e

refusal_same : {n p m q : ℕ} → ◌≡◌ {A = Checked Report} (refused n p) (refused m q) → n ≡ m
refusal_same e = cc

module _ (x y : Args) (out list : List ℕ) (d : Decided) (r : Repeats x y out list d) (out2 list2 : List ℕ) (work2 : List (List ℕ)) where
  -- a refusal
  refused_as : (v : Checked Decided) → answer y (length out2) (length list2) ≡ v → (n p : ℕ) → (left y out2 list2 work2 v).answered ≡ refused n p → In n may_meet
  refused_as (ok e) q n p h = absurd (refused≢ok (sym h))
  refused_as (refused m w) q n p h = subst (λ (i : ℕ). In i may_meet) (refusal_same h) ((again x y out list d r out2 list2).0 m w q)

  refuses : (n p : ℕ) → (convert y out2 list2 work2).answered ≡ refused n p → In n may_meet
  refuses n p h = go (work_cases work2)
    where
      go : (work_in work2 ≡ fine) ⊎ (work_in work2 ≡ refused 1 0) → In n may_meet
      go (inl e) = refused_as (answer y (length out2) (length list2)) refl n p (sym (ap (λ (c : Outcome). c.answered) (call-answer y out2 list2 work2 e)) ∙ h)
      go (inr e) =
          let one : 1 ≡ n = refusal_same (sym (ap (λ (c : Outcome). c.answered) (call-short y out2 list2 work2 e)) ∙ h) in
          subst (λ (i : ℕ). In i may_meet) one here

  -- an acceptance
  accepted_as : (v : Checked Decided) → answer y (length out2) (length list2) ≡ v → (report : Report) → (left y out2 list2 work2 v).answered ≡ ok report
      → SameLeft y d list2 (left y out2 list2 work2 v)
  unfolding omission_words omission_addresses omission_reasons
  accepted_as (refused m w) q report h = absurd (refused≢ok h)
  accepted_as (ok e) q report h =
      let same = (again x y out list d r out2 list2).1 e q in
      record { omitted = ap (λ (os : List Omission). blit 0 (omission_words os) list2) same.omissions; columns = same.columns }

  accepts : (report : Report) → (convert y out2 list2 work2).answered ≡ ok report → SameLeft y d list2 (convert y out2 list2 work2)
  accepts report h = go (work_cases work2)
    where
      go : (work_in work2 ≡ fine) ⊎ (work_in work2 ≡ refused 1 0) → SameLeft y d list2 (convert y out2 list2 work2)
      go (inl e) =
          let c = call-answer y out2 list2 work2 e in
          subst (SameLeft y d list2) (sym c)
          (accepted_as (answer y (length out2) (length list2)) refl report (sym (ap (λ (c : Outcome). c.answered) c) ∙ h))
      go (inr e) = absurd (refused≢ok (sym (ap (λ (c : Outcome). c.answered) (call-short y out2 list2 work2 e)) ∙ h))

pub again_converted : AgainConverted
again_converted x y out list d r out2 list2 work2 = (refuses x y out list d r out2 list2 work2, accepts x y out list d r out2 list2 work2)
