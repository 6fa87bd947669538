-- Every accepted result's file holds its placed columns.
use Rattle.std.specs.Prelude.{[], ℕ, ◌^◌, ◌<◌, List, ◌∷◌, ◌≡◌, length}
use Rattle.std.proofs.Common.{suc, sym, ◌∙◌}
use Rattle.std.proofs.Math.Path.{ap}
use Rattle.base.specs.Blit.{blit}
use Rattle.base.specs.Checked.{ok}
use Rattle.plan.specs.Copies.{Copy, Attachment}
use Rattle.plan.specs.Layout.{Placed, cg_of, cn_of}
use Rattle.plan.specs.Rules.{Rules}
use Rattle.mdf.specs.Block.{link_at}
use Rattle.result.specs.Fill.{Block, structure_blocks, sd_link, sd_blocks, data_blocks, next_dg, cg_at}
use Rattle.result.specs.Links.{GroupFields, group_fields, ChannelFields, channel_fields, Shown, shown_at}
use Rattle.mdf.specs.Records.{joined}
use Rattle.result.specs.Due.{due_payload, fragments_due, group_due, channel_due, due}
use Rattle.result.specs.Result.{Args, Decided, rules_of, memo_of, file_of, answer}
use Rattle.result.specs.Guarantee.{Stands, In, here, there}
use Rattle.payload_laws.specs.ColumnLaws.{column-bytes}
use Rattle.payload_laws.specs.ColumnLaws as columns
use Rattle.plan_laws.specs.Decision.{answer_accepted}
use Rattle.plan_laws.specs.Known.{Known, answer-known}
use Rattle.shown_laws.specs.ColumnShown.{ColumnSound, Refers, column-shown, column-joined, cn_sd}
use Rattle.shown_laws.specs.AllShown.{in_list, in_later, in_payload, in_signal, in_data_later, in_structure, in_data, cg-below}
use Rattle.shown_laws.specs.Final.{file-filled}
use Rattle.guarantee.specs.Theorem.{AllBytes, ordered, sized, sound, refers, column_in_lem}
use Rattle.file_laws.specs.Standing.{ColumnStands, first_dg, AllStand}
use Rattle.file_guarantee.specs.ColumnForm.{file_column}
use Rattle.file_guarantee.specs.Columns.{file_columns}
use Rattle.again_laws.proofs.WalkAgain.{result_stands}
use Rattle.again_laws.specs.Held.{Fields, Held}

-- ---- the fields
module _ (f : List ℕ) (o : Rules) (s : List ℕ) (size : ℕ) (all : List Placed) (p : Placed) (e : shown_at f p.dg ≡ due o s size all p) where
  cg_is : link_at f p.dg 1 ≡ cg_of p
  unfolding shown_at due
  cg_is = ap (λ (c : Shown). c.cg) e

  cn_is : link_at f (cg_of p) 1 ≡ cn_of p
  unfolding shown_at due
  cn_is = ap (λ (a : ℕ). link_at f a 1) (sym cg_is) ∙ ap (λ (c : Shown). c.cn) e

  group_is : group_fields f (cg_of p) ≡ group_due s p.column
  unfolding shown_at due
  group_is = ap (group_fields f) (sym cg_is) ∙ ap (λ (c : Shown). c.group) e

  pub cn-from : link_at f (link_at f p.dg 1) 1 ≡ cn_of p
  cn-from = ap (λ (a : ℕ). link_at f a 1) cg_is ∙ cn_is

  channel_is : channel_fields f (cn_of p) ≡ channel_due o s p.column
  unfolding shown_at due
  channel_is = ap (channel_fields f) (sym cn-from) ∙ ap (λ (c : Shown). c.channel) e

  pub fields : Fields f o s all p
  unfolding shown_at due group_fields group_due channel_fields channel_due
  fields =
      record {
        ids = ap (λ (c : Shown). c.id_size) e;
        records = ap (λ (g : GroupFields). g.records) group_is;
        samples = ap (λ (g : GroupFields). g.data_bytes) group_is;
        inval = ap (λ (g : GroupFields). g.invalidation) group_is;
        group_flags = ap (λ (g : GroupFields). g.flags) group_is;
        separator = ap (λ (g : GroupFields). g.separator) group_is;
        remote = rw cg_is at (ap (λ (c : Shown). c.master) e);
        composition = rw cn-from at (ap (λ (c : Shown). c.composition) e);
        channel_type = ap (λ (c : ChannelFields). c.channel_type) channel_is;
        bit_offset = ap (λ (c : ChannelFields). c.bit_offset) channel_is;
        byte_offset = ap (λ (c : ChannelFields). c.byte_offset) channel_is;
        bit_count = ap (λ (c : ChannelFields). c.bit_count) channel_is;
        flags = ap (λ (c : ChannelFields). c.flags) channel_is;
        position = ap (λ (c : ChannelFields). c.inval_position) channel_is;
        sync_type = ap (λ (c : ChannelFields). c.sync_type) channel_is;
        data_type = ap (λ (c : ChannelFields). c.data_type) channel_is;
        precision = ap (λ (c : ChannelFields). c.precision) channel_is;
        attachments = ap (λ (c : ChannelFields). c.attachments) channel_is;
        ranges = ap (λ (c : ChannelFields). c.ranges) channel_is;
        signal = rw cn-from at (ap (λ (c : Shown). c.signal_blocks) e);
      }

-- ---- every column of a list
pub shown-each : {f : List ℕ} (o : Rules) (s : List ℕ) (size : ℕ) (memo : List Copy) (ats : List Attachment) (all ps : List Placed)
    → ((p : Placed) → In p ps → ColumnSound s size p) → ((p : Placed) → In p ps → Refers o s p.column) → ((m : ℕ) → cg_at m all < 256 ^ 8)
    → ((b : Block) → In b (structure_blocks o s size memo ats all ps) → Stands f b.at b.bytes)
    → ((b : Block) → In b (data_blocks s size ps) → Stands f b.at b.bytes)
    → (p : Placed) → In p ps → shown_at f p.dg ≡ due o s size all p
unfolding structure_blocks
shown-each {f = f} o s size memo ats all [] sound refers below made filled p x6 = elim x6 [ ]
shown-each o s size memo ats all (q ∷ ps) sound refers below made filled p here =
    column-shown o s size memo ats all p (next_dg ps) (sound p here) (refers p here) below (made _ here) (made _ (there here)) (made _ (there (there here)))
    (λ b i. made b (in_list o s size memo ats all p ps i)) (λ b i. filled b (in_payload s size p ps i)) (λ b i. filled b (in_signal s size p ps i))
shown-each o s size memo ats all (q ∷ ps) sound refers below made filled p (there j) =
    shown-each o s size memo ats all ps (λ r i. sound r (there i)) (λ r i. refers r (there i)) below (λ b i. made b (in_later o s size memo ats all q ps i))
    (λ b i. filled b (in_data_later s size q ps i)) p j

-- its data, and its SD
record DataHeld (f s : List ℕ) (size : ℕ) (p : Placed) : Type 0 where
  payload : joined f (fragments_due s size p) ≡ due_payload s p.column
  led : link_at f (cn_of p) 5 ≡ sd_link p.column.signal_of p.sd
  sd : (b : Block) → In b (sd_blocks s p.column.signal_of p.sd) → Stands f b.at b.bytes

data_each : {f : List ℕ} (o : Rules) (s : List ℕ) (size : ℕ) (memo : List Copy) (ats : List Attachment) (all ps : List Placed)
    → ((p : Placed) → In p ps → ColumnSound s size p)
    → ((b : Block) → In b (structure_blocks o s size memo ats all ps) → Stands f b.at b.bytes)
    → ((b : Block) → In b (data_blocks s size ps) → Stands f b.at b.bytes)
    → (p : Placed) → In p ps → DataHeld f s size p
unfolding structure_blocks
data_each {f = f} o s size memo ats all [] sound made filled p x4 = elim x4 [ ]
data_each o s size memo ats all (q ∷ ps) sound made filled p here =
    record {
      payload = column-joined s size p (sound p here) (λ b i. made b (in_list o s size memo ats all p ps i)) (λ b i. filled b (in_payload s size p ps i));
      led = cn_sd o s size memo ats p (sound p here) (made _ (there (there here)));
      sd = λ b i. filled b (in_signal s size p ps i);
    }
data_each o s size memo ats all (q ∷ ps) sound made filled p (there j) =
    data_each o s size memo ats all ps (λ r i. sound r (there i)) (λ b i. made b (in_later o s size memo ats all q ps i))
    (λ b i. filled b (in_data_later s size q ps i)) p j

record StandsBefore (f s : List ℕ) (size : ℕ) (p : Placed) : Type 0 where
  after : ℕ
  stands : ColumnStands f (file_column s size p) after

stands_each : (f s : List ℕ) (size a : ℕ) (ps : List Placed) → AllStand f a (file_columns s size ps) → (p : Placed) → In p ps → StandsBefore f s size p
unfolding AllStand file_columns file_column
stands_each f s size a [] h p x'' = elim x'' [ ]
stands_each f s size a (q ∷ ps) h p here = record { after = first_dg (file_columns s size ps); stands = h.1 }
stands_each f s size a (q ∷ ps) h p (there i) = stands_each f s size (suc (file_column s size q).cn) ps h.2 p i

-- ---- a result
pub result-held : (x : Args) (out list : List ℕ) (d : Decided) → AllBytes x.image → AllBytes x.ident → answer x (length out) (length list) ≡ ok d
    → (p : Placed) → In p d.laid_out.placed
    → Held (blit 0 (file_of x d.laid_out) out) (rules_of x) x.image x.block_size d.laid_out.placed p
result-held x out list d bytes ident_bytes e p i =
    let k : Known x d = answer-known x (length out) (length list) d e in
    let a = answer_accepted x (length out) (length list) d e in
    let ps : List Placed = d.laid_out.placed in
    let memo : List Copy = memo_of d.laid_out in
    let ats : List Attachment = d.laid_out.attached.attachments in
    let filled = file-filled x d.laid_out out (ordered x d k) a.output_fits in
    let f : List ℕ = blit 0 (file_of x d.laid_out) out in
    let made : (b : Block) → In b (structure_blocks (rules_of x) x.image x.block_size memo ats ps ps) → Stands f b.at b.bytes =
    λ b j. filled b (in_structure x d.laid_out j) in
    let data_in : (b : Block) → In b (data_blocks x.image x.block_size ps) → Stands f b.at b.bytes = λ b j. filled b (in_data x d.laid_out j) in
    let st = stands_each _ x.image x.block_size 0 ps (result_stands x out list d bytes ident_bytes e).columns p i in
    let z = sized x d k p.column (column_in_lem x d k p i) in
    let own = data_each (rules_of x) x.image x.block_size memo ats ps ps (sound x d k bytes) made data_in p i in
    record {
      shown = shown-each (rules_of x) x.image x.block_size memo ats ps ps (sound x d k bytes) (λ q j. refers x d k q.column (column_in_lem x d k q j))
          (cg-below ps (λ q j. (sound x d k bytes q j).structure_ends)) made data_in p i;
      after = st.after;
      stands = st.stands;
      sound = sound x d k bytes p i;
      payload = own.payload;
      led = own.led;
      sd = own.sd;
      ready = z.ready;
      long = ap length (sym (columns.column-joined x.image x.block_size p.column z.ready)) ∙ column-bytes x.image x.block_size p.column z.ready;
    }
