-- The table of a recording that was read, and what planning starts with when clocks are shared.
use Rattle.std.specs.Prelude.{ℕ, ◌≤◌, min, List, ◌≡◌, Result, Ok, Err, ⊤}
use Rattle.std.proofs.Common.{sym, ap, ◌∙◌}
use Rattle.std.proofs.Math.Nat.{min-eq_left}
use native.Mathlib.Omega.{arith}
use Rattle.std.proofs.Math.ListN.{length}
use Rattle.base.specs.Blit.{blit}
use Rattle.base.specs.BlitLaws.{length-blit, part-blit, part-blit_before}
use Rattle.base.specs.Checked.{ok, and_then, Verdict, fine}
use Rattle.base.specs.CheckedLaws.{refused≢ok, ok_same}
use Rattle.fields.specs.declared.refusal.Refusal.{Refusal}
use Rattle.fields.specs.Answer.{verdict_of}
use Rattle.mdf.specs.Identification.{identified}
use Rattle.mdf.specs.Walk.{walk, level_cg, tally}
use Rattle.mdf.specs.Group.{DataGroup, data_groups_of, data_groups}
use Rattle.mdf.specs.Count.{counts}
use Rattle.work_words.specs.Words.{laid_items, group_words, fragment_words}
use Rattle.plan.specs.Columns.{SrcGroup, src_groups}
use Rattle.result.specs.Member.{In}
use Rattle.result.specs.Sharing.{units_in, compared_in}
use Rattle.plan_laws.specs.Answers.{with_ok}
use Rattle.plan_laws.specs.WalkLaws.{walk-sound, walk_open}
use Rattle.plan_laws.specs.GroupLaws.{counts-counted}
use Rattle.plan_laws.specs.SourceLaws.{groups_known}
use Rattle.chains.specs.KeptLaws.{length-words}
use Rattle.reading.specs.Reading.{Recording, reading}
use Rattle.reading.specs.Holding.{Stands}
use Rattle.reading.specs.WordsLaws.{length_groups}
use Rattle.planning.specs.declared.table.Entry.{Entry}
use Rattle.planning.specs.Items.{items_from}
use Rattle.planning.specs.ReadBackLaws.{groups_counted, open_groups, laid-counts, few-items}
use Rattle.planning.specs.FlatLaws.{Counts}
use Rattle.planning.specs.OutcomeLaws.{read_items}
use Rattle.planning.specs.Table.{table_words, entries_at, nobody, entries}
use Rattle.planning.specs.TableLaws.{entries_back}
use Rattle.planning.specs.Compared.{each_over, unit_over, stream_over}
use Rattle.planning.specs.Tabled.{Tabled}
use Rattle.planning.specs.TabledLaws.{tabled_open, tabled_length, units_tabled, streams_tabled}
use Rattle.planning.specs.ClearLaws.{masters_nonzero, fragments_few, all-clear}
use Rattle.planning.specs.Clocks.{Shown, AllStand, ShareTimes}
use Rattle.planning.specs.Answer.{ReadIn}

-- ---- what reading left
record Found (s : List ℕ) (x : Recording) : Type 0 where
  walked : walk s ≡ ok x.source
  counted : counts s (data_groups x.source) ≡ ok x.counts

found_of_lem : (s : List ℕ) (x : Recording) → reading s ≡ ok x → Found s x
unfolding reading
found_of_lem s x e =
    with_ok (identified s) _ e (λ t i e1.
    with_ok (walk s) _ e1 (λ st w e2.
    with_ok (counts s (data_groups st)) _ e2 (λ ns k e3.
    rw (← ok_same e3) (record { walked = w; counted = k }))))

-- the groups of a recording
abbrev groups_of : Recording → List SrcGroup
groups_of x = src_groups (data_groups x.source) x.counts

module _ {s w f : List ℕ} {n nf : ℕ} {x : Recording} {w₀ f₀ : List ℕ} (h : ReadIn s w f n nf x w₀ f₀) where
  found : Found s x
  found = found_of_lem s x h.is

  many : tally level_cg.own x.source.items ≡ length x.counts
  unfolding data_groups
  many =
      let k = (groups_known s x.source x.counts found.walked found.counted).as_many in
      let c = groups_counted x.source.fragments x.source.items in
      let o = open_groups x.source.items (walk_open s x.source found.walked) in
      omega arith

  few : length (groups_of x) ≤ 512
  few = (groups_known s x.source x.counts found.walked found.counted).few_groups

  in_counts : Counts w x.counts
  in_counts =
      let b = walk-sound s x.source found.walked in
      let m = many in
      let cg = b.few_cg in
      rw h.words (laid-counts x.source.items x.counts w₀ h.long (few-items x.source.items b.few_dg b.few_cg b.few_cn) b.few_cg (omega arith))

  in_groups : Stands w 3072 (group_words x.source.items)
  unfolding laid_items
  in_groups =
      let b = (walk-sound s x.source found.walked).few_cg in
      let l = length_groups x.source.items in
      let long = h.long in
      record {
        is = rw h.words (part-blit_before x.counts 3584 3072 (length (group_words x.source.items)) _ (omega arith)
            ∙ part-blit 3072 (group_words x.source.items) _ (rw (length-blit, length-blit) (omega arith)));
      }

  in_items : items_from w 0 n ≡ x.source.items
  in_items = rw (h.words, h.items) (read_items s x.source x.counts found.walked found.counted w₀ h.long)

  module _ (room : 3072 ≤ length f) where
    in_fragments_lem : Stands f 0 (fragment_words x.source.fragments)
    in_fragments_lem =
        let b = (walk-sound s x.source found.walked).few_fragments in
        let l = length-words x.source.fragments in
        let z = ap length h.pieces ∙ length-blit 0 (fragment_words x.source.fragments) f₀ in
        record { is = rw h.pieces (part-blit 0 (fragment_words x.source.fragments) f₀ (omega arith)) }

    in_table : Tabled s w f 0 (entries s w nf nobody 0 (items_from w 0 n)) (groups_of x)
    unfolding data_groups
    in_table =
        let m = many in
        let z = (groups_known s x.source x.counts found.walked found.counted).nonzero in
        rw (in_items, h.fragments) (tabled_open s w f x.counts x.source.fragments in_counts in_fragments_lem x.source.items
        (walk_open s x.source found.walked) in_groups (omega arith) (masters_nonzero s (groups_of x) z))

    module _ {t : List ℕ} (t₀ : List ℕ) {met groups : ℕ} (long : length t₀ ≡ 4096)
        (e : (met ≡ length (entries s w nf nobody 0 (items_from w 0 n))) × (t ≡ blit 0 (table_words (entries s w nf nobody 0 (items_from w 0 n))) t₀))
        (g : groups ≡ min met 512) where
      table_is : Tabled s w f 0 (entries_at t 0 groups) (groups_of x)
      table_is =
          let es : List Entry = entries s w nf nobody 0 (items_from w 0 n) in
          let l = tabled_length in_table in
          let k = few in
          let a = e.0 in
          let q : groups ≡ length es = g ∙ min-eq_left (omega arith) ∙ a in
          rw (q, e.1, entries_back es 0 t₀ (omega arith)) in_table

      module _ {u : Verdict} (units : u ≡ each_over (unit_over s) (entries_at t 0 groups)) where
        units_are : u ≡ units_in s (groups_of x)
        units_are = units ∙ units_tabled table_is

      module _ {v : Verdict} (streams : v ≡ each_over (stream_over s f (entries_at t 0 groups)) (entries_at t 0 groups)) where
        streams_are : v ≡ compared_in s (groups_of x) (data_groups x.source)
        streams_are = streams ∙ streams_tabled (data_groups x.source) x.counts (counts-counted s (data_groups x.source) x.counts found.counted) table_is

        table_shown : v ≡ fine → length s ≤ 4294967296 → Shown s w f t groups (groups_of x)
        unfolding data_groups
        table_shown q short = record {
          tabled = table_is;
          clear = all-clear s (data_groups x.source) x.counts found.counted (sym streams_are ∙ q) short (λ d i. few_fragments_lem d i);
        }
          where
            few_fragments_lem : (d : DataGroup) → In d (data_groups_of x.source.fragments x.source.items) → length d.fragments ≤ 1024
            few_fragments_lem d i =
                let b = (walk-sound s x.source found.walked).few_fragments in
                let k = fragments_few x.source.fragments x.source.items d i in
                omega arith

-- ---- one law for each way
module _ (s w f : List ℕ) (n nf : ℕ) (room : 3072 ≤ length f) (t t₀ : List ℕ) {met groups : ℕ} (long : length t₀ ≡ 4096)
    (e : (met ≡ length (entries s w nf nobody 0 (items_from w 0 n))) × (t ≡ blit 0 (table_words (entries s w nf nobody 0 (items_from w 0 n))) t₀)) (g : groups ≡ min met 512)
    {u : Result ⊤ Refusal} (units : verdict_of u ≡ each_over (unit_over s) (entries_at t 0 groups)) where
  pub share_units : (l : List ℕ) {y : Refusal} → u ≡ Err y → ShareTimes s w f n nf (Err y) l l
  share_units l q = record {
    is = λ x w₀ f₀ h. record {
      verdict = ap (λ (v : Verdict). and_then v (λ _. compared_in s (groups_of x) (data_groups x.source))) (ap verdict_of (sym q) ∙ units_are h room t₀ long e g units);
      stands = λ z. absurd (refused≢ok z);
    };
  }

  module _ {a : ⊤} (p : u ≡ Ok a) (v : Result ⊤ Refusal) (streams : verdict_of v ≡ each_over (stream_over s f (entries_at t 0 groups)) (entries_at t 0 groups)) {o : Verdict} (q : verdict_of v ≡ o) where
    both_are : (x : Recording) {w₀ f₀ : List ℕ} → ReadIn s w f n nf x w₀ f₀
        → o ≡ and_then (units_in s (groups_of x)) (λ _. compared_in s (groups_of x) (data_groups x.source))
    both_are x h =
        sym q ∙ streams_are h room t₀ long e g streams
        ∙ ap (λ (d : Verdict). and_then d (λ _. compared_in s (groups_of x) (data_groups x.source))) (ap verdict_of (sym p) ∙ units_are h room t₀ long e g units)

  module _ {a : ⊤} (p : u ≡ Ok a) {v : Result ⊤ Refusal} (streams : verdict_of v ≡ each_over (stream_over s f (entries_at t 0 groups)) (entries_at t 0 groups)) where
    pub share_streams : (l : List ℕ) {y : Refusal} → v ≡ Err y → ShareTimes s w f n nf (Err y) l l
    share_streams l q = record { is = λ x w₀ f₀ h. record { verdict = both_are p v streams (ap verdict_of q) x h; stands = λ z. absurd (refused≢ok z) } }

    pub share_all : {b : ⊤} → v ≡ Ok b → {l l' : List ℕ} → AllStand s w f t groups l l' → {c : ⊤} → ShareTimes s w f n nf (Ok c) l l'
    share_all q y = record {
      is = λ x w₀ f₀ h. record {
        verdict = both_are p v streams (ap verdict_of q) x h;
        stands = λ z short. y.is (groups_of x) (table_shown h room t₀ long e g streams (ap verdict_of q) short);
      };
    }
