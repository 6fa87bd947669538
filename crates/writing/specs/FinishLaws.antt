-- Laws of what a conversion does once all is decided.
use Rattle.std.specs.Prelude.{◌≡◌, ℕ, ◌+◌, ◌*◌, ◌<◌, ◌≤◌, List, [], ◌∷◌, length, replicate, refl, Result, Ok, Err, ⊤}
use Rattle.std.proofs.Common.{sym, ap, subst, ◌∙◌, arith, length-append}
use Rattle.std.proofs.Math.ListN.{length-replicate}
use Rattle.base.specs.Blit.{blit}
use Rattle.base.specs.Choice.{if_lt}
use Rattle.base.specs.ChoiceLaws.{lt_yes, lt_no}
use Rattle.base.specs.Checked.{ok, refused, and_then, Verdict, fine}
use Rattle.base.specs.BlitLaws.{length-blit}
use Rattle.base.specs.CheckedLaws.{ok_same, then_fine}
use Rattle.mdf.specs.Group.{data_groups}
use Rattle.work_words.specs.Words.{laid_items}
use Rattle.work_words.specs.CopyWords.{laid_copies}
use Rattle.plan.specs.Columns.{src_groups, Omission, omission_addresses, omission_reasons, omission_words}
use Rattle.work_words.specs.PlanWords.{laid_plan}
use Rattle.result.specs.Result.{Args, Report, Decided, decided, lent_in, answer, report, source_groups_of, time_columns, blocks_written, Outcome, zeros}
use Rattle.result.specs.Result.{work_in, file_of, convert}
use Rattle.guarantee.specs.Theorem.{guaranteed}
use Rattle.plan_laws.specs.WalkLaws.{walk-sound}
use Rattle.plan_laws.specs.Known.{Known, decided-known}
use Rattle.planning.specs.ReadBackLaws.{few-items}
use Rattle.planning.specs.TimeWordLaws.{laid-stand}
use Rattle.planning.specs.OutcomeLaws.{read_groups}
use Rattle.placing.specs.declared.layout.Numbers.{Numbers}
use Rattle.fields.specs.declared.refusal.Refusal.{Refusal}
use Rattle.fields.specs.Answer.{number_of, place_of, refused_by, verdict_of}
use Rattle.writing.specs.declared.convert.Report as counted
use Rattle.plan.specs.Rules.{Rules}
use Rattle.placing.specs.Decision.{untimed, four, Shares, DecidedIn, RefusedIn}
use Rattle.writing.specs.Answer.{args, report_of, left, Bytes, Promised}
use Rattle.writing.specs.Beginning.{room_in}
use Rattle.writing.specs.RoomLaws.{answer-room, verdict_refused, verdict_fine}
use Rattle.writing.specs.Finish.{Stands, Counts, Reported, Finished}
use Rattle.writing.specs.OmissionsLaws.{laid-listed}
use Rattle.writing.specs.Omissions.{listed}
use Rattle.writing.specs.Sum.{sum_of}
use Rattle.writing.specs.Counted.{time_at, blocks_at}
use Rattle.writing.specs.ReportLaws.{groups_report, times-report, blocks-report, blocks-few}

-- nothing is decided by the time
pub decided-untimed : (image : List ℕ) (size : ℕ) (ident text : List ℕ) (time : ℕ) (chosen : Rules) → decided (args image size ident text time chosen) ≡ decided (untimed image size ident text chosen)
unfolding decided lent_in
decided-untimed image size ident text time chosen = refl

-- ---- refusals after the decision
module _ (x : Args) (d : Decided) (e : decided x ≡ ok d) (out list : List ℕ) where
  room_refused : {n k : ℕ} (z : Refusal) → n ≡ d.laid_out.file_size_lem → k ≡ length (omission_words d.planned.omissions)
      → room_in (length out) (length list) n k ≡ refused_by z → answer x (length out) (length list) ≡ refused (number_of z) (place_of z)
  room_refused {n} {k} z f g q = answer-room x d e (length out) (length list) n k f g ∙ rw q

  pub no_room : {n k : ℕ} {r : Result ⊤ Refusal} {z : Refusal} → n ≡ d.laid_out.file_size_lem → k ≡ length (omission_words d.planned.omissions)
      → verdict_of r ≡ room_in (length out) (length list) n k → r ≡ Err z → Finished x out list (Err z) out list
  no_room {z = z} f g h q = let o = room_refused z f g (verdict_refused h q) in record { is = λ work. rw o }

  pub all_done : {n k : ℕ} {v : Result ⊤ Refusal} {u : ⊤} {r : counted.Report} {out' list' : List ℕ} → n ≡ d.laid_out.file_size_lem
      → k ≡ length (omission_words d.planned.omissions) → verdict_of v ≡ room_in (length out) (length list) n k → v ≡ Ok u → report_of r ≡ report x d
      → out' ≡ blit 0 (file_of x d.laid_out) out → list' ≡ blit 0 (omission_words d.planned.omissions) list
      → Finished x out list (Ok r) out' list'
  all_done {n} {k} {v} {u} {r} {out'} {list'} f g h q e' o m =
      let w : answer x (length out) (length list) ≡ ok d = answer-room x d e (length out) (length list) n k f g ∙ rw (verdict_fine h q) in
      record { is = λ work. rw (w, e', o, m) }

-- ---- the length of the list
length-addresses : (os : List Omission) → length (omission_addresses os) ≡ length os
unfolding omission_addresses
length-addresses [] = refl
length-addresses (o ∷ os) = let r = length-addresses os in omega arith

length_reasons : (os : List Omission) → length (omission_reasons os) ≡ length os
unfolding omission_reasons
length_reasons [] = refl
length_reasons (o ∷ os) = let r = length_reasons os in omega arith

pub length_omissions : (os : List Omission) → length (omission_words os) ≡ 2 * length os + 1
unfolding omission_words
length_omissions os = simp (length-append, length-addresses os, length_reasons os) (omega arith)

-- ---- what stands in the words
module _ {x : Args} {items fragments columns omissions : ℕ} {n : Numbers} {v f w m : List ℕ} (st : Stands x items fragments columns omissions n v f w m) where
  abbrev known : Known x st.by.told
  known = decided-known x st.by.told st.by.is

  pub stands_counts : Counts x.image x.block_size w items columns
  stands_counts =
      let t = st.by in
      let s = walk-sound x.image t.source t.walked in
      let k = known in
      let i = t.items in
      let c = t.columns in
      let few = few-items t.source.items s.few_dg s.few_cg s.few_cn in
      let h = k.few_columns in
      let l = t.long_c in
      let stand = laid-stand (length t.source.fragments) t.told.planned st.c (omega arith) (omega arith) in
      record {
        few_items = omega arith;
        few_columns = omega arith;
        few_blocks = λ j q.
            let e : 0 + j ≡ j = omega arith in
            rw (t.in_columns, ← e) (blocks-few x.image x.block_size _ _ 0 t.told.planned.columns stand k.few_blocks j (omega arith));
      }

  pub stands_omissions : omissions ≤ 1024
  stands_omissions = let k = known in let o = st.by.omissions in let h = k.few_omissions in omega arith

  pub stands_words : 2 * omissions + 1 ≡ length (omission_words st.by.told.planned.omissions)
  stands_words =
      let o = st.by.omissions in
      let l = length_omissions st.by.told.planned.omissions in
      omega arith

  pub stands_long : 8192 ≤ length w
  unfolding laid_plan
  stands_long =
      let t = st.by in
      let l = t.long_c in
      rw (t.in_columns, length-blit, length-blit) l

  pub stands_listed : listed w omissions ≡ omission_words st.by.told.planned.omissions
  stands_listed =
      let t = st.by in
      let k = known in
      let l = t.long_c in
      rw (t.in_columns, t.omissions) (laid-listed (length t.source.fragments) t.told.planned st.c k.few_omissions (omega arith))

  pub stands_report : {r : counted.Report} {shared metadata bytes : ℕ} → Reported x.image x.block_size v w items columns shared metadata bytes r
      → Shares (decided x) shared → metadata ≡ st.by.told.laid_out.metadata_end_lem → bytes ≡ st.by.told.laid_out.file_size_lem → report_of r ≡ report x st.by.told
  unfolding report
  stands_report {r} z h e f =
      let t = st.by in
      let k = known in
      let few = k.few_columns in
      let l = t.long_c in
      let m = t.long_a in
      let stand = laid-stand (length t.source.fragments) t.told.planned st.c (omega arith) (omega arith) in
      let g = k.steps.groups in
      let same = walked_same in
      let groups : r.source_groups ≡ source_groups_of x.image t.told.groups =
      z.source_groups_lem ∙ rw (t.in_source, t.items, same) (groups_report x.image _ _ _
      (read_groups x.image t.source t.numbers t.walked t.counted st.a (omega arith))) in
      let times : sum_of (time_at w) 0 columns ≡ time_columns t.told.planned.columns =
      rw (t.in_columns, t.columns) (times-report x.image x.block_size _ _ 0 t.told.planned.columns stand) in
      let blocks : sum_of (blocks_at x.image x.block_size w) 0 columns ≡ blocks_written x.image x.block_size t.told.planned.columns =
      rw (t.in_columns, t.columns) (blocks-report x.image x.block_size _ _ 0 t.told.planned.columns stand) in
      rw (groups, z.time_groups_lem, z.signal_groups_lem, times, t.columns, z.shared_time_groups_lem, h t.told t.is, z.data_blocks, blocks, z.metadata_size_lem, z.file_size_lem, e, f)
    where
      walked_same : st.by.told.groups ≡ src_groups (data_groups st.by.source) st.by.numbers
      walked_same =
          let t = st.by in
          let k = decided-known x t.told t.is in
          let a : k.steps.source ≡ t.source = ok_same (sym k.steps.walked ∙ t.walked) in
          let b : k.steps.numbers ≡ t.numbers = ok_same (sym k.steps.counted ∙ rw a t.counted) in
          k.steps.groups ∙ rw (a, b)

-- ---- the whole call
pub lent-fine-of : (x : Args) (d : Decided) → decided x ≡ ok d → lent_in x ≡ fine
unfolding decided
lent-fine-of x d e = (then_fine (lent_in x) _ e).0

pub stands_timed : {image : List ℕ} {size : ℕ} {ident text : List ℕ} (time : ℕ) {chosen : Rules} {i f k o : ℕ} {n : Numbers} {a b c d a' b' c' d' : List ℕ}
    → DecidedIn (untimed image size ident text chosen) i f k o n a b c d a' b' c' d' → Stands (args image size ident text time chosen) i f k o n a' b' c' d'
stands_timed {image} {size} {ident} {text} time {chosen} {a = a} {b = b} {c = c} {d = d} t =
    record {
      a = a;
      b = b;
      c = c;
      d = d;
      by = record {
        told = t.told;
        is = decided-untimed image size ident text time chosen ∙ t.is;
        source = t.source;
        walked = t.walked;
        numbers = t.numbers;
        counted = t.counted;
        items = t.items;
        fragments = t.fragments;
        columns = t.columns;
        omissions = t.omissions;
        numbered = t.numbered;
        long_a = t.long_a;
        long_b = t.long_b;
        long_c = t.long_c;
        long_d = t.long_d;
        in_source = t.in_source;
        in_fragments = t.in_fragments;
        in_columns = t.in_columns;
      };
    }

pub shares-timed : (image : List ℕ) (size : ℕ) (ident text : List ℕ) (time : ℕ) (chosen : Rules) {h : ℕ} → Shares (decided (untimed image size ident text chosen)) h
    → Shares (decided (args image size ident text time chosen)) h
shares-timed image size ident text time chosen k d e = k d (sym (decided-untimed image size ident text time chosen) ∙ e)

pub refused_answer : (x : Args) (o l : ℕ) (v : Verdict) {n p : ℕ} → and_then v (λ _. decided x) ≡ refused n p → and_then v (λ _. answer x o l) ≡ refused n p
unfolding answer
refused_answer x o l (refused m q) e = cc
refused_answer x o l (ok z) e = rw e

pub lent-untimed : (image : List ℕ) (size : ℕ) (ident text : List ℕ) (time : ℕ) (chosen : Rules) → lent_in (args image size ident text time chosen) ≡ lent_in (untimed image size ident text chosen)
unfolding lent_in
lent-untimed image size ident text time chosen = refl

pub refused_left : (image : List ℕ) (size : ℕ) (ident text : List ℕ) (time : ℕ) (chosen : Rules) (out list : List ℕ) (ws ws' : List (List ℕ)) (y : Refusal)
    → RefusedIn (untimed image size ident text chosen) (number_of y) (place_of y) ws ws' → left (Err y) out list ws' ≡ convert (args image size ident text time chosen) out list ws
unfolding convert
refused_left image size ident text time chosen out list ws ws' y r =
    let e : and_then (work_in ws) (λ _. decided (args image size ident text time chosen)) ≡ refused (number_of y) (place_of y) = rw (decided-untimed image size ident text time chosen) r.is in
    rw (refused_answer (args image size ident text time chosen) (length out) (length list) (work_in ws) e, lent-untimed image size ident text time chosen, r.words)

work_fine : (a b c d : List ℕ) → 8192 ≤ length a → 8192 ≤ length b → 8192 ≤ length c → 8192 ≤ length d → work_in (four a b c d) ≡ fine
unfolding work_in
work_fine a b c d h i j k = sym (lt_no _ _ _ _ h (lt_no _ _ _ _ i (lt_no _ _ _ _ j (lt_no _ _ _ _ k refl))))

pub done_left : {i f k o : ℕ} {n : Numbers} {a b c d a' b' c' d' : List ℕ} (image : List ℕ) (size : ℕ) (ident text : List ℕ) (time : ℕ) (chosen : Rules) (out list : List ℕ) (r : Result counted.Report Refusal) (out' list' b₁ : List ℕ) {ws : List (List ℕ)}
    → DecidedIn (untimed image size ident text chosen) i f k o n a b c d a' b' c' d' → Finished (args image size ident text time chosen) out list r out' list'
    → length b₁ ≡ length b' → ws ≡ zeros (four a' b₁ c' d') → left r out' list' ws ≡ convert (args image size ident text time chosen) out list (four a b c d)
unfolding convert zeros laid_plan laid_copies laid_items
done_left {a = a} {b = b} {c = c} {d = d} {a' = a'} {b' = b'} {c' = c'} {d' = d'} image size ident text time chosen out list r out' list' b₁ t z l w =
    let la : length a' ≡ length a = ap length t.in_source ∙ rw (length-blit, length-blit, length-blit, length-blit) in
    let lb : length b' ≡ length b = ap length t.in_fragments ∙ rw length-blit in
    let lc : length c' ≡ length c = ap length t.in_columns ∙ rw (length-blit, length-blit) in
    let ld : length d' ≡ length d = ap length t.numbered.words ∙ rw (length-blit, length-blit, length-blit, length-blit) in
    let x : Args = args image size ident text time chosen in
    let h = lent-fine-of x t.told (decided-untimed image size ident text time chosen ∙ t.is) in
    let zs : zeros (four a' b₁ c' d') ≡ zeros (four a b c d) = rw (l, la, lb, lc, ld) in
    rw (w, zs, work_fine a b c d t.long_a t.long_b t.long_c t.long_d, h) (z.is (zeros (four a b c d)))

-- each slice keeps its length
module _ {y : Args} {i f k o : ℕ} {n : Numbers} {a b c d a' b' c' d' : List ℕ} (t : DecidedIn y i f k o n a b c d a' b' c' d') where
  pub cleared-source : (w : List ℕ) → w ≡ replicate (length a') 0 → length w ≡ length a
  unfolding laid_items
  cleared-source w e = rw (e, length-replicate, t.in_source) (rw (length-blit, length-blit, length-blit, length-blit))

  pub cleared_fragments : (w : List ℕ) → w ≡ replicate (length b') 0 → length w ≡ length b
  cleared_fragments w e = rw (e, length-replicate, t.in_fragments) (rw length-blit)

  pub cleared-columns : (w : List ℕ) → w ≡ replicate (length c') 0 → length w ≡ length c
  unfolding laid_plan
  cleared-columns w e = rw (e, length-replicate, t.in_columns) (rw (length-blit, length-blit))

-- ---- demand 3
pub promised_by : (x : Args) (out list : List ℕ) (ws : List (List ℕ)) {y : Outcome} → Bytes x.image
    → y ≡ convert x out list ws → Promised x (length out) (length list) ws y.output y.list
unfolding convert
promised_by x out list ws {y} b e = record {
  accepted = λ d a.
      let f : y.output ≡ blit 0 (file_of x d.laid_out) out = ap (λ (o : Outcome). o.output) e ∙ rw a in
      let w : y.list ≡ blit 0 (omission_words d.planned.omissions) list = ap (λ (o : Outcome). o.list) e ∙ rw a in
      let g = then_fine (work_in ws) _ a in
      rw (f, w) (guaranteed x out list d b.all g.1);
}

-- an empty image has no other elements
pub none-bytes : (s : List ℕ) → length s ≤ 0 → Bytes s
none-bytes [] h = record { all = λ i. omega arith }
none-bytes (a ∷ s) h = absurd (omega arith)
