-- Demand 3: whatever the definitions accept has the guarantee.
use Rattle.std.specs.Prelude.{ℕ, ◌+◌, ◌^◌, ◌≤◌, ◌<◌, List, [], Bool, ◌≡◌, refl, length, get_or}
use Rattle.std.proofs.Common.{sym, ◌∙◌, ap, subst}
use native.Mathlib.Omega.{arith}
use Rattle.base.specs.Blit.{blit}
use Rattle.base.specs.Checked.{ok, fine}
use Rattle.base.specs.CheckedLaws.{ok_same, then_ok}
use Rattle.mdf.specs.Block.{CG, CN, whole_at, block_at}
use Rattle.mdf.specs.Group.{data_groups}
use Rattle.mdf.specs.Walk.{Source, walk}
use Rattle.plan.specs.Photos.{photos_in}
use Rattle.plan.specs.Columns.{src_groups, Column, Signal, no_signal, signal_data, omission_words}
use Rattle.plan.specs.Data.{signal_in}
use Rattle.plan.specs.Copies.{most_copies}
use Rattle.plan.specs.Layout.{Placed, placed_from, past_copies, structure_size, data_end, payload_size, dl_of}
use Rattle.result.specs.Ordered.{Ordered, Close}
use Rattle.result.specs.Payload.{column_payloads, signal_bytes}
use Rattle.result.specs.Fill.{data_blocks}
use Rattle.result.specs.Result.{Args, Decided, answer, file_of, blocks_of, rules_of}
use Rattle.result.specs.Due.{due_payload}
use Rattle.result.specs.Recording.{Met, signal_size}
use Rattle.result.specs.Guarantee.{In, Guaranteed, Starts}
use Rattle.copies_laws.specs.AnswerLaws.{Whole, whole_fits}
use Rattle.copies_laws.specs.LengthLaws.{InImage}
use Rattle.copies_laws.specs.PlacedLaws.{FewPhotos}
use Rattle.copies_laws.specs.CopyLaws.{root_grown}
use Rattle.copies_laws.specs.LayoutLaws.{LaidOut, laid_out_lem, columns-placed, columns-within, metadata_end_near, file_near, columns-ordered, blocks-ordered}
use Rattle.copies_laws.specs.OrderLaws.{ordered-ends}
use Rattle.payload_laws.specs.CountLaws.{member, group-shared, column_sorted, counted}
use Rattle.payload_laws.specs.ColumnLaws.{ready, column-joined, column-bytes, column_even}
use Rattle.payload_laws.specs.BoundLaws.{data_small, full_bound, records_small}
use Rattle.payload_laws.specs.UnitLaws.{IsUnit, unit_is}
use Rattle.payload_laws.specs.NearLaws.{data_near}
use Rattle.guarantee.specs.Close.{blocks_close, all_start}
use Rattle.payload_laws.specs.SignalLaws.{column_signal, length_signal, data_ordered}
use Rattle.plan_laws.specs.Decision.{answer_accepted, blocks-few}
use Rattle.plan_laws.specs.Known.{Known, answer-known}
use Rattle.plan_laws.specs.TableLaws.{treats, choices_unit, choices_table}
use Rattle.plan_laws.specs.PlanLaws.{made_kinded}
use Rattle.plan_laws.specs.FileOrderLaws.{plan_in_order}
use Rattle.shown_laws.specs.ColumnShown.{ColumnSound, Refers}
use Rattle.shown_laws.specs.Final.{file_apart, file-filled, file_shows}
use Rattle.guarantee.specs.List.{listed}
use Rattle.guarantee.specs.Ends.{history-followed, attachments-followed}
use Rattle.guarantee.specs.Places.{equal_even, flatten_together, data_inside, fragments_few, signal_small, Sized, DataWithin, data_within, data_ends, in_column}
use Rattle.guarantee.specs.Copied.{comment_due, past-due, newest-due, attached_due, names_due, column_photos_lem}
use Rattle.guarantee.specs.Photos.{photos_few, photos_many, photos_small, photos_kept_lem}
use Rattle.guarantee.specs.Front.{front-due}

-- the elements of an image are bytes
abbrev pub AllBytes : List ℕ → Type 0
AllBytes s = (i : ℕ) → get_or s i 0 < 256

module _ (x : Args) (d : Decided) (k : Known x d) where
  pub o : LaidOut (rules_of x) x.image x.block_size (length x.text) d.planned.columns d.laid_out
  o = laid_out_lem (rules_of x) x.image x.block_size (length x.text) d.planned.columns d.laid_out k.steps.laid_out

  -- a planned column's group is one of those counted
  pub in_source_lem : (c : Column) → In c d.planned.columns → In c.group (src_groups (data_groups k.steps.source) k.steps.numbers)
  in_source_lem c i = subst (In c.group) k.steps.groups (k.source c i).0

  pub sized : (c : Column) → In c d.planned.columns → Sized x.image c
  unfolding data_groups
  sized c i =
      let m = member x.image (data_groups k.steps.source) k.steps.counted c.group (in_source_lem c i) in
      let few = fragments_few k.steps.source.fragments k.steps.source.items c.group.data_group m.listed in
      record {
        ready = ready x.image (data_groups k.steps.source) d.planned.columns k.steps.counted k.steps.data_fine c i (in_source_lem c i)
            (k.fitting c i) (k.source c i).1;
        signals = column_signal x.image (data_groups k.steps.source) d.planned.columns k.steps.counted k.steps.data_fine c i (in_source_lem c i);
        few = omega (arith, few, k.groups.few_fragments);
        few_signals = omega (arith, k.few_signals c i);
      }

  -- its CG and CN lie in the image
  pub in_image : (c : Column) → In c d.planned.columns → InImage x.image c
  in_image c i =
      let f = k.groups.checked c.group (k.source c i).0 in
      record {
        group = data_inside CG x.image c.group.at f.block;
        channel = data_inside CN x.image c.channel (f.channels c.channel (k.source c i).2);
      }

  -- its CN is a whole block
  whole_channel : (c : Column) → In c d.planned.columns → Whole x.image c.channel
  unfolding block_at
  whole_channel c i =
      let f = k.groups.checked c.group (k.source c i).0 in
      whole_fits x.image c.channel (then_ok (whole_at x.image c.channel) _ (f.channels c.channel (k.source c i).2)).1

  -- and its references are few
  pub few_photos_lem : FewPhotos d.planned.columns
  few_photos_lem c i =
      let n = k.planned.sourced c i in
      rw n.refers (photos_few x.photos x.image c.channel n.referred (whole_channel c i))

  pub refers : (c : Column) → In c d.planned.columns → Refers (rules_of x) x.image c
  refers c i = rw (k.planned.sourced c i).refers (photos_many x.photos x.image c.channel)

  unit : IsUnit x.unit
  unit = unit_is x.unit (choices_unit (rules_of x) k.steps.chosen)

  data_in_order : Ordered d.laid_out.metadata_end_lem (data_blocks x.image x.block_size d.laid_out.placed)
      (data_end (rules_of x) x.image x.block_size d.laid_out.metadata_end_lem d.planned.columns)
  data_in_order =
      rw o.placed (data_ordered (rules_of x) unit x.image x.block_size (past_copies d.laid_out.metadata) d.laid_out.metadata_end_lem d.planned.columns
      (λ c i. (sized c i).ready) (λ c i. (sized c i).signals))

  pub close : Close x.unit 0 (blocks_of x d.laid_out) d.laid_out.file_size_lem
  close =
      blocks_close x unit d.planned.columns d.laid_out o k.steps.lent.ident_length in_image
      (rw o.placed (data_near (rules_of x) unit x.image x.block_size (past_copies d.laid_out.metadata) d.laid_out.metadata_end_lem
      d.planned.columns (λ c i. (sized c i).ready) (λ c i. (sized c i).signals)))

  pub starts : (p : Placed) → In p d.laid_out.placed → Starts x.unit x.image x.block_size p
  starts p i =
      all_start (rules_of x) (omega (arith, unit.least)) x.image x.block_size (past_copies d.laid_out.metadata) d.laid_out.metadata_end_lem
      d.planned.columns p (subst (In p) o.placed i)

  pub ordered : Ordered 0 (blocks_of x d.laid_out) d.laid_out.file_size_lem
  ordered = blocks-ordered x d.planned.columns d.laid_out o k.steps.lent.ident_length in_image data_in_order

  -- ---- bounds

  pub in_placed : (p : Placed) → In p d.laid_out.placed
      → In p (placed_from (rules_of x) x.image x.block_size (past_copies d.laid_out.metadata) d.laid_out.metadata_end_lem d.planned.columns)
  in_placed p i = subst (In p) o.placed i

  pub column_in_lem : (p : Placed) → In p d.laid_out.placed → In p.column d.planned.columns
  column_in_lem p i = in_column (rules_of x) x.image x.block_size _ _ d.planned.columns p (in_placed p i)

  -- metadata ends below 2^45
  pub metadata_small : d.laid_out.metadata_end_lem ≤ 18300000000000
  metadata_small = omega (arith, metadata_end_near o k.steps.blocks_fine few_photos_lem, k.few_columns, k.steps.lent.text_length)

  -- and begins past the header
  pub metadata_above : 0 < past_copies d.laid_out.metadata
  metadata_above =
      omega (arith, ordered-ends (d.laid_out.fh + 56) (past_copies d.laid_out.metadata) _ (columns-ordered o d.laid_out.past.chain [] 0))

  data_there_lem : (p : Placed) → In p d.laid_out.placed → DataWithin d.laid_out.metadata_end_lem (length d.planned.columns) p
  data_there_lem p i = data_within (rules_of x) unit x.image x.block_size _ d.laid_out.metadata_end_lem d.planned.columns p k.steps.image_length sized (in_placed p i)

  structure_above : (p : Placed) → In p d.laid_out.placed → dl_of p ≤ p.dg + structure_size x.image x.block_size p.column
  unfolding structure_size
  structure_above p i = omega arith

  module _ (bytes : AllBytes x.image) where
    pub sound : (p : Placed) → In p d.laid_out.placed → ColumnSound x.image x.block_size p
    sound p i =
        let c = p.column in
        let j = column_in_lem p i in
        let z = sized c j in
        let w = columns-within o i in
        let t = data_there_lem p i in
        let a = structure_above p i in
        let n = column-bytes x.image x.block_size c z.ready in
        let q = column-joined x.image x.block_size c z.ready in
        let due : length (due_payload x.image c) ≡ payload_size x.image c = ap length (sym q) ∙ n in
        let small = data_small x.image x.block_size c z.ready k.steps.image_length z.few in
        record {
          image = bytes;
          group_in = (in_image c j).group;
          channel_in = (in_image c j).channel;
          records = records_small c.group (member x.image (data_groups k.steps.source) k.steps.counted c.group (in_source_lem c j)) k.steps.image_length z.few;
          few = omega (arith, blocks-few x.image x.block_size d.planned.columns k.steps.blocks_fine c j);
          short = omega (arith, small, full_bound x.image x.block_size c);
          few_photos = photos_small x.photos x.image c bytes (k.planned.sourced c j).refers;
          equal = equal_even _ _ (column_even x.image x.block_size c z.ready);
          whole = flatten_together (column_payloads x.image x.block_size c) ∙ q;
          dg_above = omega (arith, w.begins, metadata_above);
          structure_ends = omega (arith, a, w.ends, metadata_small);
          first_above = omega (arith, t.above, w.begins, w.ends, metadata_above);
          payload_ends = omega (arith, due, t.below, metadata_small, k.few_columns, small);
          sd_above = omega (arith, t.sd_above, w.begins, w.ends, metadata_above);
          sd_ends = omega (arith, t.sd_below, metadata_small, k.few_columns, signal_small x.image c.signal_of z.signals k.steps.image_length z.few_signals);
        }

  -- ---- every address is below 2 ^ 64
  pub file-below : d.laid_out.file_size_lem < 256 ^ 8
  file-below =
      omega (
        arith,
        file_near o,
        data_ends (rules_of x) unit x.image x.block_size d.laid_out.metadata_end_lem d.planned.columns k.steps.image_length sized,
        metadata_small,
        k.few_columns,
        k.steps.image_length,
      )

signal_whole_lem : (s : List ℕ) (g : Signal) → signal_in s g ≡ fine → length (signal_bytes s g) ≡ signal_size g
signal_whole_lem s no_signal e = refl
signal_whole_lem s (signal_data fs) e = length_signal s fs e

few_comment : (x : Args) (d : Decided) → Known x d → length d.laid_out.comment.memo ≤ 2048
few_comment x d k = omega (arith, (root_grown x.image _ _ _ (o x d k).comment).few (omega arith))

-- what any walk met is what was decided from
met : (x : Args) (d : Decided) → Known x d → (st : Source) → walk x.image ≡ ok st → Met st d.groups
met x d k st w = subst (λ (t : Source). Met t d.groups) (ok_same (sym k.steps.walked ∙ w)) k.groups.met

-- every accepted call's final bytes and list have the guarantee
pub guaranteed : (x : Args) (out list : List ℕ) (d : Decided) → AllBytes x.image → answer x (length out) (length list) ≡ ok d
    → Guaranteed x d (blit 0 (file_of x d.laid_out) out) (blit 0 (omission_words d.planned.omissions) list)
guaranteed x out list d bytes e =
    let k = answer-known x (length out) (length list) d e in
    let a = answer_accepted x (length out) (length list) d e in
    let q = plan_in_order (rules_of x) x.image (length k.steps.source.fragments) d.groups d.stands d.planned (λ y. omega (arith, k.groups.once y)) k.steps.planned in
    let filled = file-filled x d.laid_out out (ordered x d k) a.output_fits in
    record {
      planned = columns-placed (o x d k);
      shows = file_shows x d.laid_out out (ordered x d k) a.output_fits (sound x d k bytes) (λ p i. refers x d k p.column (column_in_lem x d k p i));
      front = front-due x d.laid_out _ filled k.steps.lent;
      comment = λ n. comment_due x d.planned.columns d.laid_out (o x d k) _ bytes (ordered x d k) (file-below x d k) filled n;
      names = λ p i n. names_due x d.planned.columns d.laid_out (o x d k) _ bytes (ordered x d k) (file-below x d k) filled p i
          (column_in_lem x d k p i) (sound x d k bytes p i) n;
      history_kept = past-due x d.planned.columns d.laid_out (o x d k) _ bytes (ordered x d k) (file-below x d k) filled;
      history_new = newest-due x d.planned.columns d.laid_out (o x d k) _ bytes (ordered x d k) (file-below x d k) filled;
      attachments = attached_due x d.planned.columns d.laid_out (o x d k) _ bytes (ordered x d k) (file-below x d k) filled;
      photos = λ b p i.
          let n = k.planned.sourced p.column (column_in_lem x d k p i) in
          column_photos_lem x d.planned.columns d.laid_out (o x d k) _ bytes (ordered x d k) (file-below x d k) filled p i (column_in_lem x d k p i)
          (sound x d k bytes p i) (photos_kept_lem x.photos x.image p.column b n.refers) (subst (λ (t : Bool). photos_in t x.image p.column.channel ≡ fine) b n.referred);
      filled = filled;
      apart = file_apart x d.laid_out out (ordered x d k);
      starts = starts x d k;
      close = close x d k;
      recording = (data_groups k.steps.source, k.groups.recorded);
      met = met x d k;
      once = k.once;
      unshared = k.unshared;
      source = k.source;
      treated = treats x.table (choices_table (rules_of x) k.steps.chosen);
      kinded = λ c i. made_kinded (rules_of x) x.image d.groups d.stands c c.is_time_lem (k.planned.sourced c i).made;
      omitted = k.planned.omitted;
      differing = q.differing;
      columns_in_order = q.columns;
      omissions_in_order = q.omissions;
      listed = listed d.planned.omissions list a.list_fits;
      counted = λ c i. counted x.image (data_groups k.steps.source) d.planned.columns k.steps.counted k.steps.data_fine c i (in_source_lem x d k c i);
      sorted = λ c i. column_sorted x.image (data_groups k.steps.source) d.planned.columns k.steps.counted k.steps.data_fine c i (in_source_lem x d k c i) (k.fitting c i);
      shared = λ g i. group-shared g (member x.image (data_groups k.steps.source) k.steps.counted g (subst (In g) k.steps.groups i));
      signals = λ c i. ((k.planned.sourced c i).signal, signal_whole_lem x.image c.signal_of (k.signal_fine c i));
      masters = k.masters;
      named_before = k.planned.before;
      distinct = k.distinct;
      history_ends = history-followed most_copies x.image _ _ _ (o x d k).past (few_comment x d k);
      attachments_end = attachments-followed most_copies x.image _ _ _ (o x d k).attached;
    }
