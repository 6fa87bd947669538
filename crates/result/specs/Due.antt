-- What links are to show of a planned column, in the words of document 01, of ASAM MDF 4.2 and of `build_layout`: from the recording and from the
-- places of columns, not from the bytes of blocks.
use Rattle.std.specs.Prelude.{ℕ, zero, suc, ◌+◌, ◌*◌, ◌-◌, ◌/◌, ◌%◌, ◌<◌, List, [], ◌∷◌, Bool, true, false, ◌≡◌, eqb, length, get_or}
use Rattle.std.proofs.Math.Option.{Option, none, some}
use Rattle.base.specs.Choice.{pick, if_lt, if_eq}
use Rattle.base.specs.Field.{le_at}
use Rattle.base.specs.Blit.{part}
use Rattle.base.specs.Checked.{ok}
use Rattle.mdf.specs.Block.{kind_hd, kind_dg, kind_cg, kind_cn, kind_dl, size_at, links_at, link_at, data_at}
use Rattle.mdf.specs.Chain.{Kind, dt, dv, Fragment}
use Rattle.mdf.specs.Group.{group_flags}
use Rattle.mdf.specs.Identification.{file_mark}
use Rattle.plan.specs.Rules.{Rules}
use Rattle.plan.specs.Table.{treatment}
use Rattle.plan.specs.Channel.{channel_type, bit_offset, bit_count, channel_flags, keeps_inval, channel_bytes, width}
use Rattle.plan.specs.Columns.{Column, Signal, no_signal, signal_data}
use Rattle.plan.specs.Data.{is_nonempty}
use Rattle.plan.specs.Geometry.{block_count, block_payload}
use Rattle.plan.specs.Layout.{Placed, cg_of, cn_of}
use Rattle.result.specs.Payload.{records_of, cells, signal_bytes}
use Rattle.result.specs.Result.{Args, version420}
use Rattle.result.specs.Links.{head_at, GroupFields, ChannelFields, DataList, Shown}

-- ---- data

-- the payload due to a column: the cells of its group's records, in order, if it is nonempty
unfoldable pub due_payload : List ℕ → Column → List ℕ
due_payload s c = pick (is_nonempty s c) (cells s c.group.at c.channel (records_of s c.group)) []

-- "Blocks are DT with, DV without, an invalidation byte."
abbrev pub due_kind : Bool → Kind
due_kind true = dt
due_kind false = dv

-- n blocks from a on with so many bytes of data in all: each but the last has just q of them, and they stand 24 + q apart
unfoldable pub even_blocks : Kind → ℕ → ℕ → ℕ → ℕ → List Fragment
even_blocks k q zero all a = []
even_blocks k q (suc zero) all a = record { offset = a + 24; size = all; kind = k } ∷ []
even_blocks k q (suc (suc n)) all a =
    record { offset = a + 24; size = q; kind = k } ∷ even_blocks k q (suc n) (all - q) (a + (24 + q))

-- how many blocks a column has, and how many bytes of data each but the last
unfoldable pub blocks_due : List ℕ → ℕ → Column → ℕ
blocks_due s size c = block_count size (width s c.group.at c.channel) c.group.records

-- its DL's "64-bit payload"
unfoldable pub equal_due : List ℕ → ℕ → Column → ℕ
equal_due s size c = block_payload size (width s c.group.at c.channel) c.group.records

-- "Blocks are DT with, DV without, an invalidation byte", from its first place on
unfoldable pub fragments_due : List ℕ → ℕ → Placed → List Fragment
fragments_due s size p =
    even_blocks (due_kind (keeps_inval s p.column.group.at p.column.channel)) (equal_due s size p.column) (blocks_due s size p.column)
    (length (due_payload s p.column)) p.first

-- "and if it has n blocks DL 24 + 8(n + 1) + 16 bytes .. DL data: byte 1, three zeros, 32-bit n, 64-bit payload": the only list, of q bytes a block
unfoldable pub list_due : ℕ → ℕ → Option DataList
list_due n q =
    if_eq n 0 none (some (record {
      head = record { kind = kind_dl; size = 24 + 8 * (n + 1) + 16; links = n + 1 };
      next = 0;
      flags = 1;
      count = n;
      equal = q;
    }))

-- one SD with a channel's signal data
abbrev pub signal_due : List ℕ → Signal → ℕ → List Fragment
signal_due s no_signal a = []
signal_due s (signal_data fs) a = record { offset = a + 24; size = length (signal_bytes s (signal_data fs)); kind = dt } ∷ []

-- ---- CG and CN

-- the CG of columns
unfoldable pub placed_c_gs : List Placed → List ℕ
placed_c_gs [] = []
placed_c_gs (p ∷ ps) = cg_of p ∷ placed_c_gs ps

-- the CG of the master column
abbrev pub due_master : List Placed → Option ℕ → ℕ
due_master ps none = 0
due_master ps (some m) = get_or (placed_c_gs ps) m 0

-- bookkeeping: 1 with a master, else 0
abbrev pub has_master : Option ℕ → ℕ
has_master none = 0
has_master (some m) = 1

-- flags of the CG: bits 0 to 2 clear, bit 3 exactly with a master, the others as in the source
unfoldable pub group_flags_due : ℕ → Option ℕ → ℕ
group_flags_due g m = g - g % 16 + 8 * has_master m

-- flags of the CN: bit 1 exactly with an invalidation byte, bit 12 clear, the others as in the source
unfoldable pub channel_flags_due : ℕ → ℕ → ℕ
channel_flags_due g kept = g % 2 + 2 * kept + 4 * (g / 4 % 1024) + 8192 * (g / 8192)

-- 1 with an invalidation byte, else 0
unfoldable pub kept_byte : List ℕ → Column → ℕ
kept_byte s c = pick (keeps_inval s c.group.at c.channel) 1 0

-- record id 0, the group's count and path separator, the channel's bytes
unfoldable pub group_due : List ℕ → Column → GroupFields
group_due s c =
    record {
      record_id = 0;
      records = c.group.records;
      flags = group_flags_due (group_flags s c.group.at) c.master;
      separator = le_at 2 s (data_at s c.group.at + 18);
      data_bytes = channel_bytes s c.channel;
      invalidation = kept_byte s c;
    }

-- "5 becomes 0", or "2 store as type 0" by a table (document 02, request 6)
unfoldable pub type_due : List ℕ → ℕ → ℕ
type_due table t = pick (eqb (treatment table t) 2) 0 t

-- "the attachment count at data byte 22 of CN .. This is a choice per call; without it all is as before" (document 02, request 9)
unfoldable pub photos_due : Bool → List ℕ → ℕ → ℕ
photos_due photos s c = pick photos (le_at 2 s (data_at s c + 22)) 0

-- byte offset and invalidation bit position 0
unfoldable pub channel_due : Rules → List ℕ → Column → ChannelFields
channel_due o s c =
    record {
      channel_type = type_due o.table (channel_type s c.channel);
      sync_type = le_at 1 s (data_at s c.channel + 1);
      data_type = le_at 1 s (data_at s c.channel + 2);
      bit_offset = bit_offset s c.channel;
      byte_offset = 0;
      bit_count = bit_count s c.channel;
      flags = channel_flags_due (channel_flags s c.channel) (kept_byte s c);
      inval_position = 0;
      precision = le_at 1 s (data_at s c.channel + 20);
      attachments = photos_due o.photos s c.channel;
      ranges = part (data_at s c.channel + 24) 48 s;
    }

-- ---- a column, with "DG 64, CG 104 (112 with a master), CN 160", and "CN takes 160 + 8 times that count"
unfoldable pub due : Rules → List ℕ → ℕ → List Placed → Placed → Shown
due o s size ps p =
    record {
      dg = p.dg;
      dg_head = record { kind = kind_dg; size = 64; links = 4 };
      id_size = 0;
      cg = cg_of p;
      cg_head = record { kind = kind_cg; size = 104 + 8 * has_master p.column.master; links = 6 + has_master p.column.master };
      next_cg = 0;
      reductions = 0;
      group = group_due s p.column;
      master = due_master ps p.column.master;
      cn = cn_of p;
      cn_head = record { kind = kind_cn; size = 160 + 8 * photos_due o.photos s p.column.channel; links = 8 + photos_due o.photos s p.column.channel };
      next_cn = 0;
      composition = 0;
      channel = channel_due o s p.column;
      list = list_due (blocks_due s size p.column) (equal_due s size p.column);
      blocks = ok (fragments_due s size p);
      payload = ok (due_payload s p.column);
      signal_blocks = ok (signal_due s p.column.signal_of p.sd);
      signal_data = ok (signal_bytes s p.column.signal_of);
    }

-- "in planning's order"; all is the list that master numbers count
unfoldable pub due_all : Rules → List ℕ → ℕ → List Placed → List Placed → List Shown
due_all o s size all [] = []
due_all o s size all (p ∷ ps) = due o s size all p ∷ due_all o s size all ps

-- ---- the file's front

-- byte number i of HD's data: "always 104 bytes, its data cut or filled to 32"
unfoldable pub header_byte : List ℕ → ℕ → ℕ
header_byte s i = if_lt (24 + 8 * links_at s 64 + i) (size_at s 64) (get_or s (data_at s 64 + i) 0) 0

-- the lent identification, of version 4.20; HD with neither channel hierarchy nor events
pub record FrontDue (x : Args) (f : List ℕ) : Type 0 where
  pub ident : part 0 64 f ≡ x.ident
  pub mark : le_at 8 f 0 ≡ file_mark
  pub version : le_at 8 f 8 ≡ version420
  pub head : head_at f 64 ≡ record { kind = kind_hd; size = 104; links = 6 }
  pub hierarchy : link_at f 64 2 ≡ 0
  pub events : link_at f 64 4 ≡ 0
  pub bytes : (i : ℕ) → i < 32 → get_or f (136 + i) 0 ≡ header_byte x.image i
