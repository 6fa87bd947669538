-- The data blocks and signal data of columns, as lent words give them.
use Rattle.std.specs.Prelude.{◌≡◌, ℕ, zero, suc, ◌+◌, ◌-◌, ◌*◌, ◌<◌, ◌≤◌, true, false, List, [], ◌∷◌, ◌++◌, length, ◌≢◌, slice_index}
use Rattle.base.specs.Choice.{if_eq}
use Rattle.base.specs.Blit.{part}
use Rattle.base.specs.Checked.{fine}
use Rattle.mdf.specs.Block.{kind_sd}
use Rattle.mdf.specs.Group.{samples, inval_bytes, is_storage}
use Rattle.work_words.specs.Words.{fragments_of}
use Rattle.mdf.specs.Records.{most64, joined, size_of}
use Rattle.plan.specs.Channel.{fits, width}
use Rattle.plan.specs.Data.{records_in}
use Rattle.result.specs.Payload.{payloads}
use Rattle.result.specs.Fill.{Block, block, block_of, payload_blocks}
use Rattle.result.specs.Ordered.{Ordered}
use Rattle.payload_laws.specs.Lists.{Long}
use Rattle.places.specs.Stretch.{number_in}
use Rattle.data_blocks.specs.declared.column.Column.{Column}
use Rattle.data_blocks.specs.Blocks.{column_records, per_of, count_of, kind_of, blocks_bytes, PlacesKept}
use Rattle.writing.specs.declared.data.Entry.{Entry}
use Rattle.writing.specs.Own.{groups_at, words_at}

-- column k
unfoldable pub entry_in : List ℕ → List ℕ → ℕ → Entry
entry_in cs m k =
    record {
      channel = slice_index cs (8 * k);
      group = slice_index cs (8 * k + 1);
      parent = slice_index cs (8 * k + 2);
      records = slice_index cs (8 * k + 3);
      signal = slice_index cs (8 * k + 6);
      pieces = slice_index cs (8 * k + 7);
      first = slice_index m (6656 + 3 * k + 1);
      sd = slice_index m (6656 + 3 * k + 2);
    }

-- as its blocks are asked for
abbrev pub entry_column : Entry → Column
entry_column e = record { parent = e.parent; group = e.group; channel = e.channel; records = e.records }

-- ---- its records, in the image s; w holds n items and the addresses of groups, fs the words of fragments, of them nf of the walk
unfoldable pub entry_records : List ℕ → List ℕ → ℕ → List ℕ → ℕ → Entry → List (List ℕ)
entry_records s w n fs nf e = column_records s (groups_at w n nf e.parent) (words_at w n fs nf e.parent) (entry_column e)

abbrev pub entry_count : List ℕ → ℕ → Entry → ℕ
entry_count s size e = count_of s size (entry_column e)

unfoldable pub entry_payloads : List ℕ → ℕ → Entry → List (List ℕ) → List (List ℕ)
entry_payloads s size e rs = payloads s e.group e.channel (per_of s size (entry_column e)) (entry_count s size e) rs

abbrev pub entry_kind : List ℕ → Entry → ℕ
entry_kind s e = kind_of s (entry_column e)

-- ---- its blocks

-- those of its records, one after the other
abbrev pub entry_bytes : List ℕ → ℕ → List ℕ → ℕ → List ℕ → ℕ → Entry → List ℕ
entry_bytes s size w n fs nf e = blocks_bytes s size (groups_at w n nf e.parent) (words_at w n fs nf e.parent) (entry_column e)

-- with their addresses
unfoldable pub entry_blocks : List ℕ → ℕ → List ℕ → ℕ → List ℕ → ℕ → Entry → List Block
entry_blocks s size w n fs nf e = payload_blocks (entry_kind s e) e.first (entry_payloads s size e (entry_records s w n fs nf e))

-- the words of its signal data's fragments
unfoldable pub signal_words : List ℕ → Entry → List ℕ
signal_words fs e = part (3 * (e.signal - 1)) (3 * (e.signal - 1) + 3 * e.pieces - 3 * (e.signal - 1)) fs

unfoldable pub entry_signal : List ℕ → List ℕ → Entry → List Block
entry_signal s fs e = if_eq e.signal 0 [] (block e.sd (block_of kind_sd (joined s (fragments_of (signal_words fs e)))) ∷ [])

-- of so many columns from number k on
unfoldable pub data_from : List ℕ → ℕ → List ℕ → ℕ → List ℕ → ℕ → List ℕ → List ℕ → ℕ → ℕ → List Block
data_from s size w n fs nf cs m k zero = []
data_from s size w n fs nf cs m k (suc j) =
    entry_blocks s size w n fs nf (entry_in cs m k) ++ (entry_signal s fs (entry_in cs m k) ++ data_from s size w n fs nf cs m (k + 1) j)

-- ---- what is asked

-- the tables have room
pub record Tables (w fs : List ℕ) (nf : ℕ) : Type 0 where
  pub source : 8192 ≤ length w
  pub fragments : 3 * nf ≤ length fs

-- of a column: its channel fits its group, which is one of its DG's and no VLSD storage; if it has bytes, its DG's records were checked,
-- and its own counted, and its DG's data has a size
pub record EntryReady (s w : List ℕ) (n : ℕ) (fs : List ℕ) (nf : ℕ) (e : Entry) : Type 0 where
  pub fit : fits s e.group e.channel ≡ true
  pub kept : is_storage s e.group ≡ false
  pub listed : number_in e.group (groups_at w n nf e.parent) < length (groups_at w n nf e.parent)
  pub checked : 0 < width s e.group e.channel → 0 < e.records
      → records_in s e.parent (groups_at w n nf e.parent) (fragments_of (words_at w n fs nf e.parent)) ≡ fine
  pub counted : 0 < width s e.group e.channel → 0 < e.records → length (entry_records s w n fs nf e) ≡ e.records
  pub small : 0 < width s e.group e.channel → 0 < e.records → size_of (fragments_of (words_at w n fs nf e.parent)) ≤ most64
  pub long : 0 < width s e.group e.channel → 0 < e.records
      → Long (samples s e.group + inval_bytes s e.group) (entry_records s w n fs nf e)
  pub signal : (e.signal ≢ 0) → 3 * (e.signal - 1) + 3 * e.pieces ≤ length fs

-- of all, which are written from at on over as many bytes as room says
pub record DataReady (s : List ℕ) (size : ℕ) (w : List ℕ) (n : ℕ) (fs : List ℕ) (nf : ℕ) (cs m : List ℕ) (number at room : ℕ) : Type 0 where
  pub tables : Tables w fs nf
  pub columns : 8 * number ≤ length cs
  pub places : 6656 + 3 * number ≤ length m
  pub entries : (k : ℕ) → k < number → EntryReady s w n fs nf (entry_in cs m k)
  pub ordered : Ordered at (data_from s size w n fs nf cs m 0 number) room

-- the places that are kept are right for each DG: of stretches in p, of each record in q
abbrev pub Kept : List ℕ → List ℕ → ℕ → List ℕ → ℕ → List ℕ → List ℕ → Type 0
Kept s w n fs nf p q = PlacesKept s (groups_at w n nf) (words_at w n fs nf) p q
