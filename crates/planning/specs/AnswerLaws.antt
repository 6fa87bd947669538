-- From reading, the plan and the data stage to the whole of planning.
use Rattle.std.specs.Prelude.{ℕ, ◌+◌, ◌*◌, ◌≤◌, Bool, true, false, replicate, Result, Ok, Err, is_err, ⊤}
use mathlib.Core.List.{List, ◌++◌}
use Rattle.std.proofs.Math.Path.{◌≡◌, refl, sym, ap, subst}
use Rattle.std.proofs.Common.{◌∙◌, arith}
use Rattle.std.proofs.Math.ListN.{length}
use Rattle.base.specs.ChoiceLaws.{lt_no}
use Rattle.base.specs.Blit.{part, blit}
use Rattle.base.specs.BlitLaws.{length-blit, blit-append, part-blit, part-blit_before}
use Rattle.base.specs.Checked.{Checked, ok, refused, and_then, Verdict, fine}
use Rattle.base.specs.CheckedLaws.{refused≢ok, ok_same}
use Rattle.fields.specs.declared.refusal.Refusal.{Refusal}
use Rattle.fields.specs.Answer.{number_of, place_of, refused_by, verdict_of}
use Rattle.mdf.specs.Chain.{Fragment}
use Rattle.mdf.specs.Identification.{identified}
use Rattle.mdf.specs.Walk.{Item, Source, walk}
use Rattle.mdf.specs.Group.{data_groups}
use Rattle.mdf.specs.Count.{counts}
use Rattle.work_words.specs.Words.{source_words, fragment_words}
use Rattle.chains.specs.Kept.{kept}
use Rattle.chains.specs.KeptLaws.{length-words, words_append}
use Rattle.plan.specs.Rules.{Rules}
use Rattle.plan.specs.Columns.{Plan, src_groups, plan}
use Rattle.work_words.specs.PlanWords.{signal_fragments}
use Rattle.plan.specs.Data.{all_data_in, blocks_in}
use Rattle.plan.specs.Photos.{photos_first}
use Rattle.blocks.specs.AnswerLaws.{so_fine, so_refused}
use Rattle.result.specs.Sharing.{units_in, compared_in, shared_times, sharing}
use Rattle.result.specs.SharingLaws.{shared-length}
use Rattle.result.specs.Result.{shared_groups}
use Rattle.plan_laws.specs.Answers.{with_ok}
use Rattle.plan_laws.specs.WalkLaws.{walk-sound}
use Rattle.plan_laws.specs.SourceLaws.{groups_known}
use Rattle.reading.specs.declared.answer.Read.{Read}
use Rattle.reading.specs.CheckedLaws.{ok≢refused}
use Rattle.reading.specs.Reading as read
use Rattle.reading.specs.Reading.{Recording, reading, read_over, read_into, fragment_room, zeros}
use Rattle.planning.specs.declared.column.Progress.{Progress}
use Rattle.planning.specs.declared.recording.Planned.{Planned}
use Rattle.planning.specs.Items.{items_from}
use Rattle.planning.specs.Planning.{Gives, within}
use Rattle.planning.specs.Bare.{bare_checked}
use Rattle.planning.specs.Stage.{Stand, BlocksStage}
use Rattle.planning.specs.TimeWordLaws.{laid-stand}
use Rattle.planning.specs.Planned.{GroupsPlan}
use Rattle.planning.specs.ReadBackLaws.{few-items}
use Rattle.planning.specs.OutcomeLaws.{read_gives, read_items, PlanHeld, PlanIs, gives-plan, gives_none}
use Rattle.planning.specs.DataWords.{all_data_over}
use Rattle.planning.specs.DataWordsLaws.{Filled, data_filled, several_counted}
use Rattle.planning.specs.Answer.{Arranged, planned_of, ended, plan_left, left_by, plan_into, Kept, given, kept_by, plan_over, shared_in, arranged_by, arranged_shared, arranged, StageOver, ReadIn, stand_words, stands_as, StandsRead, PlanStood, PlanShared, PlanRead}
use Rattle.planning.specs.StandsLaws.{plan-words, sharing-length, no_stands, stands_laid, shared-words}
use Rattle.planning.specs.Clocks.{ShareTimes}

-- ---- the data stage, then the block counts
module _ (s : List ℕ) (size : ℕ) (src f w : List ℕ) (n nf nc : ℕ) {v : Result ⊤ Refusal} (e : verdict_of v ≡ all_data_over s w f nf nc (items_from src 0 n)) where
  pub stage_stop : {x : Refusal} → v ≡ Err x → StageOver s size src f w n nf nc (Err x)
  stage_stop q = record { is = λ m cs h l. rw (← e, q) }

  pub stage_blocks : {u : ⊤} → v ≡ Ok u → {r : Result ⊤ Refusal} → BlocksStage s w nc size r → StageOver s size src f w n nf nc r
  stage_blocks q b = record { is = λ m cs h l. rw (← e, q) (b.is m cs h l) }

-- two checks, then what is decided
stage_refused : {A B : Type 0} (d b : Verdict) (a : A) (k : A → B) {y p : ℕ} → ◌≡◌ {A = Verdict} (refused y p) (and_then d (λ _. b))
    → refused y p ≡ and_then (and_then d (λ _. and_then b (λ _. ok a))) (λ z. ok (k z))
stage_refused (ok t) (ok u) a k e = absurd (refused≢ok e)
stage_refused (ok t) (refused m n) a k e = cc
stage_refused (refused m n) b a k e = cc

stage_fine : {A B : Type 0} (d b : Verdict) (a : A) (k : A → B) → fine ≡ and_then d (λ _. b)
    → ok (k a) ≡ and_then (and_then d (λ _. and_then b (λ _. ok a))) (λ z. ok (k z))
stage_fine (ok t) (ok u) a k e = refl
stage_fine (ok t) (refused m n) a k e = absurd (ok≢refused e)
stage_fine (refused m n) b a k e = absurd (ok≢refused e)

same_kept : {a a' b b' c c' d d' e e' : ℕ} {w w' f f' p p' : List ℕ} → a ≡ a' → b ≡ b' → c ≡ c' → d ≡ d' → e ≡ e' → w ≡ w' → f ≡ f' → p ≡ p'
    → ◌≡◌ {A = Checked Kept} (ok (record { items = a; fragments = b; columns = c; omissions = d; shared = e; words = w; pieces = f; plans = p }))
    (ok (record { items = a'; fragments = b'; columns = c'; omissions = d'; shared = e'; words = w'; pieces = f'; plans = p' }))
same_kept i j k l m x y z = rw (i, j, k, l, m, x, y, z)

same_over : (s w f : List ℕ) {n n' k k' : ℕ} {is is' : List Item} → n ≡ n' → k ≡ k' → is ≡ is' → all_data_over s w f n k is ≡ all_data_over s w f n' k' is'
same_over s w f a b c = rw (a, b, c)

-- the fragments of the walk, then those of signal data
all-pieces : (fs gs : List Fragment) (f f₀ f1 : List ℕ) → f1 ≡ kept (length fs) gs f → f ≡ blit 0 (fragment_words fs) f₀ → f1 ≡ blit 0 (fragment_words (fs ++ gs)) f₀
unfolding kept
all-pieces fs gs f f₀ f1 a b =
    let e : 0 + length (fragment_words fs) ≡ 3 * length fs = omega (arith, length-words fs) in
    a ∙ rw (b, words_append, blit-append, e)

-- ---- what reading found
pub record ReadKnown (s : List ℕ) (x : Recording) : Type 0 where
  pub walked : walk s ≡ ok x.source
  pub counted : counts s (data_groups x.source) ≡ ok x.counts

reading-known : (s : List ℕ) (x : Recording) → reading s ≡ ok x → ReadKnown s x
unfolding reading
reading-known s x e =
    with_ok (identified s) _ e (λ t i e1.
    with_ok (walk s) _ e1 (λ st w e2.
    with_ok (counts s (data_groups st)) _ e2 (λ ns k e3.
    rw (← ok_same e3) (record { walked = w; counted = k }))))

planned-reading : (rs : Rules) (s : List ℕ) (size : ℕ) → planned_of rs s size ≡ and_then (reading s) (arranged rs s size)
unfolding planned_of reading shared_in arranged_by arranged_shared arranged
planned-reading rs s size = go (identified s) (walk s)
  where
    more : (st : Source) (v : Checked (List ℕ))
        → and_then v (λ ns. arranged rs s size (record { source = st; counts = ns })) ≡ and_then (and_then v (λ ns. ok (record { source = st; counts = ns }))) (arranged rs s size)
    more st (ok ns) = refl
    more st (refused x p) = refl

    go : (a : Verdict) (b : Checked Source)
        → and_then a (λ _. and_then b (λ st. and_then (counts s (data_groups st)) (λ ns. arranged rs s size (record { source = st; counts = ns }))))
        ≡ and_then (and_then a (λ _. and_then b (λ st. and_then (counts s (data_groups st)) (λ ns. ok (record { source = st; counts = ns }))))) (arranged rs s size)
    go (ok t) (ok st) = more st (counts s (data_groups st))
    go (ok t) (refused x p) = refl
    go (refused x p) b = refl

-- the numbers of a plan are bounded
within-few : (n : ℕ) {r : Result Progress Refusal} {p : Progress} → within r (1537 * n) (1537 * n) → r ≡ Ok p → n ≤ 1536 → (p.columns ≤ 4194304) × (p.fragments ≤ 1024)
within-few n {p = p} b q h =
    let k : within (Ok p) (1537 * n) (1537 * n) = rw q at b in
    let i = k.0 in
    (omega arith, k.2)

pub planned-few : (rs : Rules) (s src bys : List ℕ) (n nf : ℕ) (c f c1 f1 : List ℕ) {r : Result Progress Refusal} {p : Progress} → GroupsPlan rs s src bys n nf c f r c1 f1 → r ≡ Ok p
    → n ≤ 1536 → (p.columns ≤ 4194304) × (p.fragments ≤ 1024)
planned-few rs s src bys n nf c f c1 f1 g q h = within-few n g.bound q h

-- ---- the plan of what was read
module _ (rs : Rules) (s : List ℕ) (size : ℕ) (src stands f c : List ℕ) (n nf : ℕ) {r : Result Progress Refusal} (c1 f1 : List ℕ) (g : GroupsPlan rs s src stands n nf c f r c1 f1) where
  module _ (x : Recording) (w₀ f₀ : List ℕ) (h : ReadIn s src f n nf x w₀ f₀) (bys : List ℕ) (shared : shared_in rs.share s x ≡ ok bys) (e : stands ≡ stand_words bys) where
    known : ReadKnown s x
    known = reading-known s x h.is

    -- the recording's plan
    abbrev planned : Checked Plan
    planned = plan rs s (length x.source.fragments) (src_groups (data_groups x.source) x.counts) bys

    as_many : length bys ≡ length (src_groups (data_groups x.source) x.counts)
    unfolding shared_in
    as_many = sharing-length rs.share s (data_groups x.source) (src_groups (data_groups x.source) x.counts) bys shared

    gave : Gives (record { found = length x.source.fragments; words = c; fragments = f }) (bare_checked planned) r c1 f1
    gave =
        subst (λ (o : Checked Plan). Gives (record { found = length x.source.fragments; words = c; fragments = f }) (bare_checked o) r c1 f1)
        (ap (λ (l : List ℕ). plan rs s (length x.source.fragments) (src_groups (data_groups x.source) x.counts) l) e ∙ plan-words rs s (length x.source.fragments) _ bys as_many)
        (read_gives s x.source x.counts known.walked known.counted w₀ h.long (rw (h.words, h.items, h.fragments) at g))

    no_plan : {y : Refusal} → r ≡ Err y → refused (number_of y) (place_of y) ≡ and_then (arranged_by rs s size x bys) (λ a. ok (kept_by a w₀ f₀ c))
    unfolding arranged_by
    no_plan q =
        let e = gives_none (length x.source.fragments) c f planned gave q in
        rw e

    module _ (long : 6144 ≤ length c) (room : 3072 ≤ length f) {went : Progress} (q : r ≡ Ok went) (few : went.fragments ≤ 1024)
        (v : Result ⊤ Refusal) (t : StageOver s size src f1 c1 n nf went.columns v) where
      planned_is : PlanIs planned (length x.source.fragments) went.columns went.omissions went.fragments c f c1 f1
      planned_is = gives-plan (length x.source.fragments) c f planned gave q

      abbrev p : Plan
      p = planned_is.plan

      held : PlanHeld (length x.source.fragments) p went.columns went.omissions went.fragments c f c1 f1
      held = planned_is.held

      filled : Filled c1 f1 p.columns x.source.fragments
      unfolding kept
      filled =
          let l = held.room in
          let m = held.columns in
          let k = held.signals in
          let a = length-words x.source.fragments in
          let b = length-words (signal_fragments p.columns) in
          let z = ap length h.pieces ∙ length-blit 0 (fragment_words x.source.fragments) f₀ in
          record {
            stand = subst (λ (l : List ℕ). Stand l (length x.source.fragments) 0 p.columns) (sym held.in_columns)
                (laid-stand (length x.source.fragments) p c (omega arith) (omega arith));
            walked = record {
              is =
                  ap (λ l. part 0 (length (fragment_words x.source.fragments)) l) held.in_fragments
                  ∙ part-blit_before (fragment_words (signal_fragments p.columns)) (3 * length x.source.fragments) 0 (length (fragment_words x.source.fragments)) f (omega arith)
                  ∙ ap (λ l. part 0 (length (fragment_words x.source.fragments)) l) h.pieces
                  ∙ part-blit 0 (fragment_words x.source.fragments) f₀ (omega arith);
            };
            signals = record {
              is =
                  ap (λ l. part (3 * length x.source.fragments) (length (fragment_words (signal_fragments p.columns))) l) held.in_fragments
                  ∙ part-blit (3 * length x.source.fragments) (fragment_words (signal_fragments p.columns)) f (omega arith);
            };
            few = omega arith;
          }

      staged : verdict_of v ≡ and_then (all_data_in s p.columns (data_groups x.source)) (λ _. blocks_in s size p.columns)
      unfolding data_groups
      staged =
          let i : items_from src 0 n ≡ x.source.items =
          rw (h.words, h.items) (read_items s x.source x.counts known.walked known.counted w₀ h.long) in
          let o = several_counted s (data_groups x.source) x.counts (groups_known s x.source x.counts known.walked known.counted).counted in
          t.is (length x.source.fragments) p.columns filled.stand (sym held.columns)
          ∙ ap (λ u. and_then u (λ _. blocks_in s size p.columns))
          (same_over s c1 f1 h.fragments held.columns i ∙ data_filled s c1 f1 p.columns x.source.fragments filled x.source.items o)

      abbrev found : Arranged
      found = record { source = x.source; numbers = x.counts; stands = bys; planned = p }

      opened : arranged_by rs s size x bys
          ≡ and_then (all_data_in s p.columns (data_groups x.source)) (λ _. and_then (blocks_in s size p.columns) (λ _. ok found))
      unfolding arranged_by
      opened = rw planned_is.is

      stopped : {y : Refusal} → v ≡ Err y → refused (number_of y) (place_of y) ≡ and_then (arranged_by rs s size x bys) (λ a. ok (kept_by a w₀ f₀ c))
      stopped z =
          stage_refused (all_data_in s p.columns (data_groups x.source)) (blocks_in s size p.columns) found (λ a. kept_by a w₀ f₀ c) (ap verdict_of (sym z) ∙ staged)
          ∙ ap (λ u. and_then u (λ a. ok (kept_by a w₀ f₀ c))) (sym opened)

      done : {sh : ℕ} → sh ≡ shared_groups stands → {u : ⊤} → v ≡ Ok u
          → given (Ok (record { items = n; fragments = nf; columns = went.columns; omissions = went.omissions; shared = sh })) src f1 c1 ≡ and_then (arranged_by rs s size x bys) (λ a. ok (kept_by a w₀ f₀ c))
      done i z =
          same_kept h.items h.fragments held.columns held.omissions (i ∙ ap shared_groups e ∙ shared-words bys) h.words (all-pieces x.source.fragments (signal_fragments p.columns) f f₀ f1 held.in_fragments h.pieces) held.in_columns
          ∙ stage_fine (all_data_in s p.columns (data_groups x.source)) (blocks_in s size p.columns) found (λ a. kept_by a w₀ f₀ c) (ap verdict_of (sym z) ∙ staged)
          ∙ ap (λ u. and_then u (λ a. ok (kept_by a w₀ f₀ c))) (sym opened)

  pub read_unplanned : {y : Refusal} → r ≡ Err y → PlanStood rs s size src stands f c n nf (Err y) f1 c1
  read_unplanned q = record { is = λ x w₀ f₀ h bys o e. no_plan x w₀ f₀ h bys o e q }

  module _ (long : 6144 ≤ length c) (room : 3072 ≤ length f) {went : Progress} (q : r ≡ Ok went) (few : went.fragments ≤ 1024)
      {v : Result ⊤ Refusal} (t : StageOver s size src f1 c1 n nf went.columns v) where
    pub read_unstaged : {y : Refusal} → v ≡ Err y → PlanStood rs s size src stands f c n nf (Err y) f1 c1
    read_unstaged z = record { is = λ x w₀ f₀ h bys o e. stopped x w₀ f₀ h bys o e long room q few v t z }

    pub read_planned : {sh : ℕ} → sh ≡ shared_groups stands → {u : ⊤} → v ≡ Ok u
        → PlanStood rs s size src stands f c n nf (Ok (record { items = n; fragments = nf; columns = went.columns; omissions = went.omissions; shared = sh })) f1 c1
    read_planned i z = record { is = λ x w₀ f₀ h bys o e. done x w₀ f₀ h bys o e long room q few v t i z }

-- ---- those that stand for others
module _ (s src f : List ℕ) (n nf : ℕ) {on : Bool} where
  pub stands_off : {w : List ℕ} → on ≡ false → w ≡ replicate 512 0 → {u : ⊤} → StandsRead on s src f n nf (Ok u) w
  unfolding shared_in sharing
  stands_off q e =
      record {
        is = λ x w₀ f₀ h _.
            let k = reading-known s x h.is in
            rw q (refl, e ∙ no_stands _ (groups_known s x.source x.counts k.walked k.counted).few_groups);
      }

  pub stands_on : {w w' : List ℕ} {r : Result ⊤ Refusal} → on ≡ true → w ≡ replicate 512 0 → ShareTimes s src f n nf r w w' → StandsRead on s src f n nf r w'
  unfolding shared_in sharing
  stands_on {w} {w'} {r} q e t =
      record {
        is = λ x w₀ f₀ h short.
            let k = reading-known s x h.is in
            let gs = src_groups (data_groups x.source) x.counts in
            let u = t.is x w₀ f₀ h in
            rw q (go (shared_times s gs) (units_in s gs) (compared_in s gs (data_groups x.source)) r u.verdict
            (λ z. u.stands z short ∙ ap (blit 0 (shared_times s gs)) e
            ∙ stands_laid (shared_times s gs) (rw (shared-length s gs) (groups_known s x.source x.counts k.walked k.counted).few_groups)));
      }
    where
      go : (bys : List ℕ) (u c : Verdict) (r : Result ⊤ Refusal) → verdict_of r ≡ and_then u (λ _. c) → (verdict_of r ≡ fine → w' ≡ stand_words bys)
          → stands_as (and_then u (λ _. and_then c (λ _. ok bys))) r w'
      go bys (ok _) (ok _) r e g = (e, g e)
      go bys (ok _) (refused a b) r e g = e
      go bys (refused a b) c r e g = e

-- ---- then the plan
module _ (rs : Rules) (s : List ℕ) (size : ℕ) (src f c : List ℕ) (n nf : ℕ) (stands : List ℕ) {v : Result ⊤ Refusal} (t : StandsRead rs.share s src f n nf v stands) where
  pub read_unshared : {y : Refusal} → v ≡ Err y → PlanShared rs s size src f c n nf (Err y) f c
  unfolding arranged_shared
  read_unshared {y} q = record { is = λ x w₀ f₀ h short. go x (λ a. kept_by a w₀ f₀ c) (shared_in rs.share s x) (t.is x w₀ f₀ h short) }
    where
      go : (x : Recording) (k : Arranged → Kept) (o : Checked (List ℕ)) → stands_as o v stands → refused (number_of y) (place_of y) ≡ and_then (and_then o (arranged_by rs s size x)) (λ a. ok (k a))
      go x k (ok bys) h = absurd (refused≢ok (ap verdict_of (sym q) ∙ h.0))
      go x k (refused a b) h =
          let e : ◌≡◌ {A = Verdict} (refused_by y) (refused a b) = ap verdict_of (sym q) ∙ h in
          let i : number_of y ≡ a = cc in
          let j : place_of y ≡ b = cc in
          rw (i, j)

  pub read_shared : {u : ⊤} → v ≡ Ok u → {r : Result Planned Refusal} {f' c' : List ℕ} → PlanStood rs s size src stands f c n nf r f' c' → PlanShared rs s size src f c n nf r f' c'
  unfolding arranged_shared
  read_shared q {r} {f'} {c'} g = record { is = λ x w₀ f₀ h short. go x w₀ f₀ h (shared_in rs.share s x) refl (t.is x w₀ f₀ h short) }
    where
      go : (x : Recording) (w₀ f₀ : List ℕ) → ReadIn s src f n nf x w₀ f₀ → (o : Checked (List ℕ)) → shared_in rs.share s x ≡ o → stands_as o v stands
          → given r src f' c' ≡ and_then (and_then o (arranged_by rs s size x)) (λ a. ok (kept_by a w₀ f₀ c))
      go x w₀ f₀ h (ok bys) e k = g.is x w₀ f₀ h bys e k.1
      go x w₀ f₀ h (refused a b) e k = absurd (ok≢refused (ap verdict_of (sym q) ∙ k))

-- ---- before them the attachments
module _ (rs : Rules) (s : List ℕ) (size : ℕ) (src f c : List ℕ) (n nf : ℕ) {v : Result ⊤ Refusal} (t : verdict_of v ≡ photos_first rs.photos s) where
  pub read_astray : {y : Refusal} → v ≡ Err y → PlanRead rs s size src f c n nf (Err y) f c
  unfolding arranged
  read_astray q = record { is = λ x w₀ f₀ h short. rw (so_refused t q) refl }

  pub read_followed : {u : ⊤} → v ≡ Ok u → {r : Result Planned Refusal} {f' c' : List ℕ} → PlanShared rs s size src f c n nf r f' c' → PlanRead rs s size src f c n nf r f' c'
  unfolding arranged
  read_followed q g = record { is = λ x w₀ f₀ h short. rw (so_fine t q) (g.is x w₀ f₀ h short) }

-- ---- reading, then the plan
pub record FoundIn (s w' f' : List ℕ) (n nf : ℕ) (w f : List ℕ) : Type 0 where
  pub recording : Recording
  pub read_in : ReadIn s w' f' n nf recording w f

long-enough : (s w f : List ℕ) → source_words ≤ length w → fragment_room ≤ length f → read_into s w f ≡ read.left_by (read_over s w f) w f
unfolding read_into
long-enough s w f l m = sym (lt_no _ _ _ _ l (lt_no _ _ _ _ m refl))

module _ (s w f : List ℕ) (l : source_words ≤ length w) (m : fragment_room ≤ length f) (w' f' : List ℕ) {r : Result Read Refusal} (e : read.left r w' f' ≡ read_into s w f) where
  pub read_found : {m' : Read} → r ≡ Ok m' → FoundIn s w' f' m'.items m'.fragments w f
  unfolding read_over
  read_found {m'} q = go (reading s) refl (ap (λ (v : Result Read Refusal). read.left v w' f') (sym q) ∙ e ∙ long-enough s w f l m)
    where
      go : (v : Checked Recording) → reading s ≡ v → read.left (Ok m') w' f' ≡ read.left_by (and_then v (λ x. ok (read.kept_by x w f))) w f → FoundIn s w' f' m'.items m'.fragments w f
      go (ok x) i z =
          let k = read.kept_by x w f in
          let met : m' ≡ record { items = k.items; groups = k.groups; fragments = k.fragments } = cc in
          record { recording = x; read_in = record { is = i; long = l; items = ap Read.items met; fragments = ap Read.fragments met; words = cc; pieces = cc } }
      go (refused y p) i z = absurd (let o : ◌≡◌ {A = ℕ} 0 1 = cc in omega arith)

  pub all_unread : (rs : Rules) (size : ℕ) (c : List ℕ) {y : Refusal} → r ≡ Err y → refused (number_of y) (place_of y) ≡ plan_over rs s size w f c
  unfolding read_over plan_over
  all_unread rs size c {y} q =
      rw (planned-reading rs s size) (go (reading s) (ap (λ (v : Result Read Refusal). read.left v w' f') (sym q) ∙ e ∙ long-enough s w f l m))
    where
      go : (v : Checked Recording) → read.left (Err y) w' f' ≡ read.left_by (and_then v (λ x. ok (read.kept_by x w f))) w f
          → refused (number_of y) (place_of y) ≡ and_then (and_then v (arranged rs s size)) (λ a. ok (kept_by a w f c))
      go (ok x) z = absurd (let o : ◌≡◌ {A = ℕ} 0 1 = cc in omega arith)
      go (refused x k) z =
          let i : number_of y ≡ x = cc in
          let j : place_of y ≡ k = cc in
          rw (i, j)

  module _ {m' : Read} (q : r ≡ Ok m') where
    pub read_few : (m'.items ≤ 1536) × (m'.fragments ≤ 1024)
    read_few =
        let k = read_found q in
        let x = k.recording in
        let h = k.read_in in
        let b = walk-sound s x.source (reading-known s x h.is).walked in
        let i = few-items x.source.items b.few_dg b.few_cg b.few_cn in
        let j = b.few_fragments in
        let a = h.items in
        let d = h.fragments in
        (omega arith, omega arith)

    pub all-planned : (rs : Rules) (size : ℕ) (c : List ℕ) {v : Result Planned Refusal} {f'' c'' : List ℕ} → PlanRead rs s size w' f' c m'.items m'.fragments v f'' c'' → length s ≤ 4294967296
        → given v w' f'' c'' ≡ plan_over rs s size w f c
    unfolding plan_over
    all-planned rs size c t short =
        let k = read_found q in
        t.is k.recording w f k.read_in short ∙ rw (planned-reading rs s size, k.read_in.is)

-- ---- the words at the end
module _ (rs : Rules) (s : List ℕ) (size : ℕ) (w f c : List ℕ) (l : 4096 ≤ length w) (m : 3072 ≤ length f) (n : 6144 ≤ length c) where
  all-long : plan_into rs s size w f c ≡ left_by (planned_of rs s size) w f c
  unfolding plan_into
  all-long = sym (lt_no _ _ _ _ l (lt_no _ _ _ _ m (lt_no _ _ _ _ n refl)))

  pub plan_refused : (w' f' c' : List ℕ) (a : Result Planned Refusal) → given a w' f' c' ≡ plan_over rs s size w f c → is_err a ≡ true → {w'' f'' c'' : List ℕ} → length w' ≡ length w → length f' ≡ length f → length c' ≡ length c
      → w'' ≡ zeros w' → f'' ≡ zeros f' → c'' ≡ zeros c' → plan_left a w'' f'' c'' ≡ plan_into rs s size w f c
  unfolding plan_over
  plan_refused w' f' c' (Ok p) e t i j k x z u = cc
  plan_refused w' f' c' (Err y) e t i j k x z u = rw (x, z, u, i, j, k) (go (planned_of rs s size) e ∙ sym all-long)
    where
      go : (v : Checked Arranged) → ◌≡◌ {A = Checked Kept} (refused (number_of y) (place_of y)) (and_then v (λ b. ok (kept_by b w f c)))
          → ended (refused (number_of y) (place_of y)) (zeros w) (zeros f) (zeros c) ≡ left_by v w f c
      go (ok b) o = absurd (refused≢ok o)
      go (refused b d) o =
          let i : number_of y ≡ b = cc in
          let j : place_of y ≡ d = cc in
          rw (i, j)

  pub plan_done : (w' f' c' : List ℕ) (a : Result Planned Refusal) → given a w' f' c' ≡ plan_over rs s size w f c → is_err a ≡ false → plan_left a w' f' c' ≡ plan_into rs s size w f c
  unfolding plan_over
  plan_done w' f' c' (Err y) e t = cc
  plan_done w' f' c' (Ok p) e t = go (planned_of rs s size) e ∙ sym all-long
    where
      go : (o : Checked Arranged) → ◌≡◌ {A = Checked Kept} (given (Ok p) w' f' c') (and_then o (λ b. ok (kept_by b w f c))) → ended (ok p) w' f' c' ≡ left_by o w f c
      go (ok b) o =
          let k = ok_same o in
          same_left (ap Kept.items k) (ap Kept.fragments k) (ap Kept.columns k) (ap Kept.omissions k) (ap Kept.shared k) (ap Kept.words k) (ap Kept.pieces k) (ap Kept.plans k)
        where
          same_left : {x y z u v : ℕ} {w'' f'' c'' : List ℕ} → p.items ≡ x → p.fragments ≡ y → p.columns ≡ z → p.omissions ≡ u → p.shared ≡ v → w' ≡ w'' → f' ≡ f'' → c' ≡ c''
              → ended (ok p) w' f' c' ≡ ended (ok (record { items = x; fragments = y; columns = z; omissions = u; shared = v })) w'' f'' c''
          same_left i j k l m x y z = rw (← i, ← j, ← k, ← l, ← m, x, y, z)
      go (refused b d) o = absurd (ok≢refused o)
