-- What a result's file f holds of a placed column p, field by field: the column as the second call reads it.
use Rattle.std.specs.Prelude.{ℕ, ◌+◌, List, ◌≡◌, length}
use Rattle.base.specs.Field.{le_at}
use Rattle.base.specs.Blit.{part}
use Rattle.base.specs.Checked.{ok}
use Rattle.mdf.specs.Block.{link_at, data_at}
use Rattle.mdf.specs.Chain.{Chain.signal, file_limits, chain}
use Rattle.mdf.specs.Group.{group_flags, samples, inval_bytes}
use Rattle.mdf.specs.Records.{joined}
use Rattle.mdf.specs.Walk.{id_size}
use Rattle.plan.specs.Channel.{channel_type, bit_offset, byte_offset, bit_count, channel_bytes, channel_flags, inval_position}
use Rattle.plan.specs.Columns.{remote_link}
use Rattle.plan.specs.Layout.{Placed, cg_of, cn_of, payload_size}
use Rattle.plan.specs.Rules.{Rules}
use Rattle.result.specs.Fill.{Block, sd_link, sd_blocks}
use Rattle.result.specs.Guarantee.{Stands, In}
use Rattle.result.specs.Links.{fragments_in, shown_at}
use Rattle.result.specs.Due.{due_payload, fragments_due, signal_due, due_master, group_flags_due, channel_flags_due, kept_byte, type_due, photos_due, due}
use Rattle.payload_laws.specs.ColumnLaws.{Ready}
use Rattle.shown_laws.specs.ColumnShown.{ColumnSound}
use Rattle.file_laws.specs.Standing.{ColumnStands}
use Rattle.file_guarantee.specs.ColumnForm.{file_column}

-- its DG, CG and CN, by the fields that converting it again reads
pub record Fields (f : List ℕ) (o : Rules) (s : List ℕ) (all : List Placed) (p : Placed) : Type 0 where
  pub ids : id_size f p.dg ≡ 0
  -- CG
  pub records : le_at 8 f (data_at f (cg_of p) + 8) ≡ p.column.group.records
  pub samples : samples f (cg_of p) ≡ channel_bytes s p.column.channel
  pub inval : inval_bytes f (cg_of p) ≡ kept_byte s p.column
  pub group_flags : group_flags f (cg_of p) ≡ group_flags_due (group_flags s p.column.group.at) p.column.master
  pub separator : le_at 2 f (data_at f (cg_of p) + 18) ≡ le_at 2 s (data_at s p.column.group.at + 18)
  pub remote : remote_link f (cg_of p) ≡ due_master all p.column.master
  -- CN
  pub composition : link_at f (cn_of p) 1 ≡ 0
  pub channel_type : channel_type f (cn_of p) ≡ type_due o.table (channel_type s p.column.channel)
  pub bit_offset : bit_offset f (cn_of p) ≡ bit_offset s p.column.channel
  pub byte_offset : byte_offset f (cn_of p) ≡ 0
  pub bit_count : bit_count f (cn_of p) ≡ bit_count s p.column.channel
  pub flags : channel_flags f (cn_of p) ≡ channel_flags_due (channel_flags s p.column.channel) (kept_byte s p.column)
  pub position : inval_position f (cn_of p) ≡ 0
  pub sync_type : le_at 1 f (data_at f (cn_of p) + 1) ≡ le_at 1 s (data_at s p.column.channel + 1)
  pub data_type : le_at 1 f (data_at f (cn_of p) + 2) ≡ le_at 1 s (data_at s p.column.channel + 2)
  pub precision : le_at 1 f (data_at f (cn_of p) + 20) ≡ le_at 1 s (data_at s p.column.channel + 20)
  pub attachments : le_at 2 f (data_at f (cn_of p) + 22) ≡ photos_due o.photos s p.column.channel
  pub ranges : part (data_at f (cn_of p) + 24) 48 f ≡ part (data_at s p.column.channel + 24) 48 s
  pub signal : fragments_in (chain signal file_limits f 0 (link_at f (cn_of p) 5)) ≡ ok (signal_due s p.column.signal_of p.sd)

-- with its blocks
pub record Held (f : List ℕ) (o : Rules) (s : List ℕ) (size : ℕ) (all : List Placed) (p : Placed) : Type 0 where
  pub shown : shown_at f p.dg ≡ due o s size all p
  pub after : ℕ
  pub stands : ColumnStands f (file_column s size p) after
  pub sound : ColumnSound s size p
  pub payload : joined f (fragments_due s size p) ≡ due_payload s p.column
  -- CN link 6 leads to its SD
  pub led : link_at f (cn_of p) 5 ≡ sd_link p.column.signal_of p.sd
  pub sd : (b : Block) → In b (sd_blocks s p.column.signal_of p.sd) → Stands f b.at b.bytes
  pub ready : Ready s p.column
  pub long : length (due_payload s p.column) ≡ payload_size s p.column
