-- The bytes of a column: its group's records, one cell of each, and the payloads of its blocks (document 01, e and placement).
use Rattle.std.specs.Prelude.{ℕ, zero, suc, List, [], ◌∷◌, ◌++◌, take, drop}
use Rattle.base.specs.Choice.{pick}
use Rattle.base.specs.Blit.{part}
use Rattle.base.specs.Checked.{Checked, ok, refused}
use Rattle.mdf.specs.Chain.{Fragment}
use Rattle.mdf.specs.Group.{addresses}
use Rattle.mdf.specs.Records.{runs, sorted_records, Frame, unsorted_frames, unsorted_records, joined}
use Rattle.plan.specs.Channel.{byte_offset, channel_bytes, keeps_inval, inval_bit}
use Rattle.plan.specs.Columns.{SrcGroup, Column, Signal, no_signal, signal_data}
use Rattle.plan.specs.Geometry.{per_full}
use Rattle.plan.specs.Layout.{column_width, column_blocks}

-- bookkeeping: the records of group k among those framed, none where framing was refused
abbrev pub framed_records : ℕ → Checked (List Frame) → List (List ℕ)
framed_records k (ok rs) = unsorted_records k rs
framed_records k (refused number place) = []

-- the records of group k of the DG at d, which has the groups gs: "its own, from the front of the DG's joined fragments, without ids"
abbrev pub group_records : List ℕ → ℕ → ℕ → List ℕ → List Fragment → List (List ℕ)
group_records s d k [] fs = []
group_records s d k (g ∷ []) fs = sorted_records s d g (runs fs)
group_records s d k (g ∷ h ∷ gs) fs = framed_records k (unsorted_frames s d (g ∷ h ∷ gs) fs)

-- "Records" of a group
unfoldable pub records_of : List ℕ → SrcGroup → List (List ℕ)
records_of s g = group_records s g.data_group.at g.number (addresses g.data_group.groups) g.data_group.fragments

-- "channel bytes start at the byte offset"; the kept invalidation bit follows as one byte, 0 or 1
unfoldable pub cell : List ℕ → ℕ → ℕ → List ℕ → List ℕ
cell s g c r = part (byte_offset s c) (channel_bytes s c) r ++ pick (keeps_inval s g c) (inval_bit s g c r ∷ []) []

-- bookkeeping: the cells of records, one after the other
unfoldable pub cells : List ℕ → ℕ → ℕ → List (List ℕ) → List ℕ
cells s g c [] = []
cells s g c (r ∷ rs) = cell s g c r ++ cells s g c rs

-- "Records per block": the payloads of k blocks, each of m records, the last of those left
unfoldable pub payloads : List ℕ → ℕ → ℕ → ℕ → ℕ → List (List ℕ) → List (List ℕ)
payloads s g c m zero rs = []
payloads s g c m (suc k) rs = cells s g c (take m rs) ∷ payloads s g c m k (drop m rs)

-- the payloads of a column's blocks, for a block size
unfoldable pub column_payloads : List ℕ → ℕ → Column → List (List ℕ)
column_payloads s size c =
    payloads s c.group.at c.channel (per_full size (column_width s c) c.group.records) (column_blocks s size c) (records_of s c.group)

-- "signal data .. the joined data of a type 1 channel's SD chain, else nothing"
abbrev pub signal_bytes : List ℕ → Signal → List ℕ
signal_bytes s no_signal = []
signal_bytes s (signal_data fs) = joined s fs
