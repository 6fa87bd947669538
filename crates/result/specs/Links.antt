-- Reading a file by links alone: what a reader finds from HD on. Blocks, fields and data chains are read by the definitions that read a recording.
use Rattle.std.specs.Prelude.{ℕ, zero, suc, ◌+◌, List, [], ◌∷◌}
use Rattle.std.proofs.Math.Option.{Option, none, some}
use Rattle.base.specs.Choice.{if_eq}
use Rattle.base.specs.Field.{le_at}
use Rattle.base.specs.Blit.{part}
use Rattle.base.specs.Checked.{Checked, ok, refused}
use Rattle.mdf.specs.Block.{kind_at, size_at, links_at, link_at, data_at}
use Rattle.mdf.specs.Chain.{Fragment, Chain.records, Chain.signal, Found, found, stopped, file_limits, chain}
use Rattle.mdf.specs.Group.{record_id, group_flags, samples, inval_bytes}
use Rattle.mdf.specs.Records.{joined}
use Rattle.mdf.specs.Walk.{id_size}
use Rattle.plan.specs.Channel.{channel_type, bit_offset, byte_offset, bit_count, channel_flags, inval_position}
use Rattle.plan.specs.Columns.{remote_link}

-- ---- blocks

-- a block's header
pub record Head : Type 0 where
  pub kind : ℕ
  pub size : ℕ
  pub links : ℕ

-- kind, length and number of links of the block at a
unfoldable pub head_at : List ℕ → ℕ → Head
head_at f a = record { kind = kind_at f a; size = size_at f a; links = links_at f a }

-- the data of a CG (ASAM MDF 4.2, CGBLOCK)
pub record GroupFields : Type 0 where
  pub record_id : ℕ
  pub records : ℕ
  pub flags : ℕ
  pub separator : ℕ
  pub data_bytes : ℕ
  pub invalidation : ℕ

-- of the CG at a
unfoldable pub group_fields : List ℕ → ℕ → GroupFields
group_fields f a =
    record {
      record_id = record_id f a;
      records = le_at 8 f (data_at f a + 8);
      flags = group_flags f a;
      separator = le_at 2 f (data_at f a + 18);
      data_bytes = samples f a;
      invalidation = inval_bytes f a;
    }

-- the data of a CN (ASAM MDF 4.2, CNBLOCK); ranges are the bytes of value range and limits
pub record ChannelFields : Type 0 where
  pub channel_type : ℕ
  pub sync_type : ℕ
  pub data_type : ℕ
  pub bit_offset : ℕ
  pub byte_offset : ℕ
  pub bit_count : ℕ
  pub flags : ℕ
  pub inval_position : ℕ
  pub precision : ℕ
  pub attachments : ℕ
  pub ranges : List ℕ

-- of the CN at a
unfoldable pub channel_fields : List ℕ → ℕ → ChannelFields
channel_fields f a =
    record {
      channel_type = channel_type f a;
      sync_type = le_at 1 f (data_at f a + 1);
      data_type = le_at 1 f (data_at f a + 2);
      bit_offset = bit_offset f a;
      byte_offset = byte_offset f a;
      bit_count = bit_count f a;
      flags = channel_flags f a;
      inval_position = inval_position f a;
      precision = le_at 1 f (data_at f a + 20);
      attachments = le_at 2 f (data_at f a + 22);
      ranges = part (data_at f a + 24) 48 f;
    }

-- a DL: its next list; flags with the three bytes after them, number of blocks, the length of each block's data but the last's
pub record DataList : Type 0 where
  pub head : Head
  pub next : ℕ
  pub flags : ℕ
  pub count : ℕ
  pub equal : ℕ

-- the DL at a
unfoldable pub list_at : List ℕ → ℕ → DataList
list_at f a =
    record {
      head = head_at f a;
      next = link_at f a 0;
      flags = le_at 4 f (data_at f a);
      count = le_at 4 f (data_at f a + 4);
      equal = le_at 8 f (data_at f a + 8);
    }

-- no list at link 0
unfoldable pub list_shown : List ℕ → ℕ → Option DataList
list_shown f a = if_eq a 0 none (some (list_at f a))

-- ---- data: "Joined: block data in link order, nothing at link 0"

-- the fragments of a chain; a chain that is stopped shows the refusal, no data
abbrev pub fragments_in : Found → Checked (List Fragment)
fragments_in (found fs) = ok fs
fragments_in (stopped number place fs) = refused number place

-- its data, joined
abbrev pub joined_in : List ℕ → Found → Checked (List ℕ)
joined_in f (found fs) = ok (joined f fs)
joined_in f (stopped number place fs) = refused number place

-- ---- a column

-- a column that links show: its DG; its CG, the CG after that and its sample reductions; the CG named as master, 0 for none; its CN, the CN after
-- that and its composition; its data. Blocks are shown with header and fields
pub record Shown : Type 0 where
  pub dg : ℕ
  pub dg_head : Head
  pub id_size : ℕ
  pub cg : ℕ
  pub cg_head : Head
  pub next_cg : ℕ
  pub reductions : ℕ
  pub group : GroupFields
  pub master : ℕ
  pub cn : ℕ
  pub cn_head : Head
  pub next_cn : ℕ
  pub composition : ℕ
  pub channel : ChannelFields
  pub list : Option DataList
  pub blocks : Checked (List Fragment)
  pub payload : Checked (List ℕ)
  pub signal_blocks : Checked (List Fragment)
  pub signal_data : Checked (List ℕ)

-- what the DG at dg shows
unfoldable pub shown_at : List ℕ → ℕ → Shown
shown_at f dg =
    let cg = link_at f dg 1 in
    let cn = link_at f cg 1 in
    record {
      dg = dg;
      dg_head = head_at f dg;
      id_size = id_size f dg;
      cg = cg;
      cg_head = head_at f cg;
      next_cg = link_at f cg 0;
      reductions = link_at f cg 4;
      group = group_fields f cg;
      master = remote_link f cg;
      cn = cn;
      cn_head = head_at f cn;
      next_cn = link_at f cn 0;
      composition = link_at f cn 1;
      channel = channel_fields f cn;
      list = list_shown f (link_at f dg 2);
      blocks = fragments_in (chain records file_limits f 0 (link_at f dg 2));
      payload = joined_in f (chain records file_limits f 0 (link_at f dg 2));
      signal_blocks = fragments_in (chain signal file_limits f 0 (link_at f cn 5));
      signal_data = joined_in f (chain signal file_limits f 0 (link_at f cn 5));
    }

-- the DG chain from a on, at most so many
unfoldable pub shown_from : ℕ → List ℕ → ℕ → List Shown
shown_from zero f a = []
shown_from (suc k) f a = let more = shown_at f a ∷ shown_from k f (link_at f a 0) in if_eq a 0 [] more

-- "Shown: from HD": every DG of the file
unfoldable pub shown : List ℕ → ℕ → List Shown
shown f k = shown_from k f (link_at f 64 0)
