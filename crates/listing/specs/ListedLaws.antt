-- Laws of a whole call's listing.
use Rattle.std.specs.Prelude.{ℕ, ◌+◌, ◌*◌, ◌≤◌, ◌<◌, List, [], ◌∷◌, Bool, true, false, ltb, ◌≡◌, refl, replicate}
use Rattle.std.proofs.Common.{sym, subst, ◌∙◌, zero-add, arith, length-append}
use Rattle.std.proofs.Math.Path.{ap}
use Rattle.std.proofs.Math.ListN.{length}
use Rattle.base.specs.BlitLaws.{length-blit}
use Rattle.base.specs.Choice.{pick, if_lt}
use Rattle.base.specs.ChoiceLaws.{lt_yes, lt_no}
use Rattle.base.specs.Checked.{Checked, ok, refused, and_then, Verdict, fine}
use Rattle.base.specs.CheckedLaws.{ok_same, then_fine}
use Rattle.work_words.specs.Words.{laid_items}
use Rattle.work_words.specs.CopyWords.{laid_copies}
use Rattle.plan.specs.Columns.{Omission, omission_addresses, omission_reasons, omission_words}
use Rattle.work_words.specs.PlanWords.{signal_fragments, laid_plan}
use Rattle.result.specs.Listing.{plan_lines, refusal_text, listing}
use Rattle.result.specs.Result.{Args, Decided, decided, lent_in, answer, work_in, zeros}
use Rattle.plan_laws.specs.Known.{Known, decided-known}
use Rattle.guarantee.specs.Theorem.{sized, few_photos_lem}
use Rattle.placing.specs.declared.layout.Numbers.{Numbers}
use Rattle.placing.specs.Decision.{four, DecidedIn, RefusedIn}
use Rattle.placing.specs.DecisionLaws.{work_fine, cleared-after, signals_length}
use Rattle.placing.specs.InWords.{AllBounded}
use Rattle.placing.specs.BoundedLaws.{all_bounded}
use Rattle.texts.specs.Laid.{Laid}
use Rattle.texts.specs.LaidLaws.{laid_as, laid_most}
use Rattle.listing.specs.Lines.{plan_in, AllCount}
use Rattle.listing.specs.Listed.{answer_in, Listed}
use Rattle.listing.specs.PlanLaws.{plan-listed, laid-counts}

-- ---- 20, 21, or the plan
module _ (s : List ℕ) (size : ℕ) (w f : List ℕ) (n m bytes out list : ℕ) {d e : List ℕ} {r : ℕ} where
  pub answer_output : out < bytes → Laid 0 (refusal_text 20 bytes) 56 d e r → Laid 0 (answer_in s size w f n m bytes out list) 119354 d e r
  unfolding answer_in
  answer_output h a = laid_as (laid_most a (omega arith)) (lt_yes _ _ _ _ h refl)

  pub answer-list : bytes ≤ out → list < 2 * m + 1 → Laid 0 (refusal_text 21 (2 * m + 1)) 56 d e r
      → Laid 0 (answer_in s size w f n m bytes out list) 119354 d e r
  unfolding answer_in
  answer-list h l a = laid_as (laid_most a (omega arith)) (lt_no _ _ _ _ h (lt_yes _ _ _ _ l refl))

  pub answer-plan : bytes ≤ out → 2 * m + 1 ≤ list → Laid 0 (plan_in s size w f n m) 119354 d e r
      → Laid 0 (answer_in s size w f n m bytes out list) 119354 d e r
  unfolding answer_in
  answer-plan h l a = laid_as a (lt_no _ _ _ _ h (lt_no _ _ _ _ l refl))

-- ---- the length of the list
length-addresses : (os : List Omission) → length (omission_addresses os) ≡ length os
unfolding omission_addresses
length-addresses [] = refl
length-addresses (o ∷ os) = let r = length-addresses os in omega arith

length_reasons : (os : List Omission) → length (omission_reasons os) ≡ length os
unfolding omission_reasons
length_reasons [] = refl
length_reasons (o ∷ os) = let r = length_reasons os in omega arith

length_omissions : (os : List Omission) → length (omission_words os) ≡ 2 * length os + 1
unfolding omission_words
length_omissions os = simp (length-append, length-addresses os, length_reasons os) (omega arith)

-- ---- the listing of a choice is the choice of listings
at_choice : (x : Args) (m n : ℕ) (a b : Checked Decided) → if_lt m n (listing x a) (listing x b) ≡ listing x (if_lt m n a b)
unfolding if_lt
at_choice x m n a b = go (ltb m n)
  where
    go : (t : Bool) → pick t (listing x a) (listing x b) ≡ listing x (pick t a b)
    go true = refl
    go false = refl

apart : (x : Args) (d : Decided) (out bytes list words : ℕ)
    → if_lt out bytes (refusal_text 20 bytes) (if_lt list words (refusal_text 21 words) (plan_lines x.image x.block_size d.planned))
    ≡ listing x (if_lt out bytes (refused 20 bytes) (if_lt list words (refused 21 words) (ok d)))
apart x d out bytes list words =
    ap (λ (l : List ℕ). if_lt out bytes (listing x (refused 20 bytes)) l) (at_choice x list words (refused 21 words) (ok d))
    ∙ at_choice x out bytes (refused 20 bytes) (if_lt list words (refused 21 words) (ok d))

-- ---- what was decided stands in the words
module _ {x : Args} {i f k o : ℕ} {n : Numbers} {a b c d a' b' c' d' : List ℕ} (t : DecidedIn x i f k o n a b c d a' b' c' d') where
  abbrev known : Known x t.told
  known = decided-known x t.told t.is

  pub done_columns : k ≤ 512
  done_columns = omega (arith, known.few_columns, t.columns)

  pub done_omissions : o ≤ 1024
  done_omissions = omega (arith, known.few_omissions, t.omissions)

  bounded : AllBounded x.image x.block_size t.told.planned.columns
  bounded = all_bounded x.image x.block_size t.told.planned.columns known.steps.image_length known.steps.blocks_fine
      (λ c j. let z = sized x t.told known c j in record { ready = z.ready; signals = z.signals; few = z.few; few_signals = z.few_signals; few_photos = few_photos_lem x t.told known c j })

  few_fragments_lem : length t.source.fragments + length (signal_fragments t.told.planned.columns) ≤ 1024
  few_fragments_lem =
      let e : t.source ≡ known.steps.source = ok_same (sym t.walked ∙ known.steps.walked) in
      rw e (omega (arith, signals_length t.told.planned.columns, known.planned.signals, known.planned.few))

  pub done_counts : AllCount x.image c' b' k
  done_counts =
      let l = t.long_c in
      let m = t.long_b in
      rw (t.in_columns, t.in_fragments, t.columns) (laid-counts t.told.planned t.source.fragments c b known.few_columns known.few_omissions
      (omega arith) few_fragments_lem (omega arith) x.photos x.image x.block_size bounded (record { each = λ c j. (known.planned.sourced c j).refers }))

  -- its lines are those of the answer
  pub done_answer : (out list : ℕ) → answer_in x.image x.block_size c' b' k o n.file_size out list ≡ listing x (answer x out list)
  unfolding answer_in answer
  done_answer out list =
      let l = t.long_c in
      let m = t.long_b in
      let p = t.told.planned in
      let lines = plan-listed p t.source.fragments c b known.few_columns known.few_omissions (omega arith) few_fragments_lem (omega arith)
      x.image x.block_size known.signal_fine in
      rw (t.is, t.numbered.file_size_lem, t.in_columns, t.in_fragments, t.columns, t.omissions, length_omissions p.omissions, lines)
      (apart x t.told out t.told.laid_out.file_size_lem list (2 * length p.omissions + 1))

  -- each slice keeps its length
  pub done_source : length a' ≡ length a
  unfolding laid_items
  done_source = ap length t.in_source ∙ rw (length-blit, length-blit, length-blit, length-blit)

  pub done_fragments : length b' ≡ length b
  done_fragments = ap length t.in_fragments ∙ rw length-blit

  pub done_words : length c' ≡ length c
  unfolding laid_plan
  done_words = ap length t.in_columns ∙ rw (length-blit, length-blit)

  pub done_copies : length d' ≡ length d
  unfolding laid_copies
  done_copies = ap length t.numbered.words ∙ rw (length-blit, length-blit, length-blit, length-blit)

  lent-fine : lent_in x ≡ fine
  unfolding decided
  lent-fine = (then_fine (lent_in x) _ t.is).0

  pub done_listed : (out list : ℕ) {lines lines' : List ℕ} {r : ℕ} {ws : List (List ℕ)}
      → Laid 0 (answer_in x.image x.block_size c' b' k o n.file_size out list) 119354 lines lines' r
      → ws ≡ zeros (four a' b' c' d') → Listed x out list (four a b c d) lines r lines' ws
  done_listed out list z e =
      let w = work_fine a b c d t.long_a t.long_b t.long_c t.long_d in
      let l = done_answer out list in
      let zs = cleared-after a b c d a' b' c' d' done_source done_fragments done_words done_copies e in
      let y = rw l at z in
      record {
        is = rw w y.is;
        long = rw w (rw zero-add at y.past);
        small = omega (arith, y.past, y.small);
        words = rw (w, lent-fine) zs;
      }

-- ---- a refusal before anything was decided
refused_answer : (x : Args) (out list : ℕ) (v : Verdict) {n p : ℕ} → and_then v (λ _. decided x) ≡ refused n p → and_then v (λ _. answer x out list) ≡ refused n p
unfolding answer
refused_answer x out list (refused m q) e = cc
refused_answer x out list (ok z) e = rw e

pub refused_listed : {x : Args} {n p : ℕ} {ws ws' : List (List ℕ)} (out list : ℕ) {lines lines' : List ℕ} {r : ℕ} → RefusedIn x n p ws ws'
    → Laid 0 (refusal_text n p) 56 lines lines' r → Listed x out list ws lines r lines' ws'
refused_listed {x} {n} {p} {ws} out list t z =
    let e = refused_answer x out list (work_in ws) t.is in
    record {
      is = rw e z.is;
      long = rw e (z.past ∙ zero-add _);
      small = omega (arith, z.past, z.small);
      words = t.words;
    }
