-- Which columns of a file are kept (document 02, request 13): "Given a result and a list of column numbers, write a file with the others in order".
use Rattle.std.specs.Prelude.{ℕ, zero, suc, ◌+◌, List, [], ◌∷◌, Bool, true, false}
use Rattle.std.proofs.Math.Option.{Option, none, some}
use Rattle.base.specs.Choice.{pick, if_lt, if_eq}
use Rattle.base.specs.Checked.{refused, and_then, Verdict, fine}
use Rattle.mdf.specs.Block.{kind_sd, kind_at, link_at, header_in, length_in}
use Rattle.mdf.specs.Chain.{dt, fragment, is_in}
use Rattle.mdf.specs.Records.{most64}
use Rattle.plan.specs.Channel.{channel_type, is_master_type}
use Rattle.plan.specs.Columns.{remote_link, Column, Signal, no_signal, signal_data}
use Rattle.plan.specs.Photos.{references, photos_in}
use Rattle.file.specs.Form.{FileColumn, cycles}
use Rattle.sheet.specs.Sheet.{master_of}

-- ---- "24 .. column by column", before the list is looked at

-- "a type 1 channel's nonzero link 6": that of the CN at c, 0 for none; other types have no signal data
unfoldable pub signal_place : List ℕ → ℕ → ℕ
signal_place s c = if_eq (channel_type s c) 1 (link_at s c 5) 0

-- "to anything but an SD (its 4 and 8 first)": header range, 8, range of the block at a, then 24
unfoldable pub is_signal : List ℕ → ℕ → Verdict
is_signal s a =
    and_then (header_in s a) (λ _.
    and_then (length_in most64 s a) (λ _.
    if_eq (kind_at s a) kind_sd fine (refused 24 0)))

-- the same of the CN at c, where it has signal data
unfoldable pub signal_sound : List ℕ → ℕ → Verdict
signal_sound s c = let led = is_signal s (signal_place s c) in if_eq (signal_place s c) 0 fine led

-- bookkeeping: fine where a number was found, else 24
abbrev pub on_number : Option ℕ → Verdict
on_number none = refused 24 0
on_number (some k) = fine

-- "a nonzero seventh link, under flag bit 3, to no column", of the CG at g
unfoldable pub master_sound : List ℕ → List FileColumn → ℕ → Verdict
master_sound s all g = if_eq (remote_link s g) 0 fine (on_number (master_of s all g))

-- "column by column"
unfoldable pub columns_sound : List ℕ → List FileColumn → List FileColumn → Verdict
columns_sound s all [] = fine
columns_sound s all (c ∷ cs) =
    and_then (signal_sound s c.cn) (λ _.
    and_then (master_sound s all c.cg) (λ _.
    columns_sound s all cs))

-- ---- the list

-- "33 when a number repeats or is no column", of n columns
unfoldable pub numbers_in : ℕ → List ℕ → Verdict
numbers_in n [] = fine
numbers_in n (k ∷ ks) = let more = numbers_in n ks in if_lt k n (pick (is_in k ks) (refused 33 0) more) (refused 33 0)

-- bookkeeping: the master is one of the columns that are taken out
abbrev pub is_taken : Option ℕ → List ℕ → Bool
is_taken none numbers = false
is_taken (some m) numbers = is_in m numbers

-- "34 when a column is removed that a kept column names", of the columns from number k on
unfoldable pub masters_kept : List ℕ → List ℕ → List FileColumn → ℕ → List FileColumn → Verdict
masters_kept s numbers all k [] = fine
masters_kept s numbers all k (c ∷ cs) =
    let more = masters_kept s numbers all (suc k) cs in
    pick (is_in k numbers) more (pick (is_taken (master_of s all c.cg) numbers) (refused 34 0) more)

-- ---- the columns that are kept

-- the number that column k has among those kept: how many before it are
unfoldable pub new_number : List ℕ → ℕ → ℕ
new_number numbers zero = 0
new_number numbers (suc k) = pick (is_in k numbers) 0 1 + new_number numbers k

-- bookkeeping: of a master
abbrev pub new_master : List ℕ → Option ℕ → Option ℕ
new_master numbers none = none
new_master numbers (some m) = some (new_number numbers m)

-- its signal data: the bytes of its SD
unfoldable pub signal_kept : List ℕ → ℕ → Signal
signal_kept s c = if_eq (signal_place s c) 0 no_signal (signal_data (fragment s (signal_place s c) dt ∷ []))

-- a column of the file as one that is written: its one CG with its one CN, its blocks, "masters, signal data, photo references .. kept"
abbrev pub kept_column : List ℕ → List ℕ → List FileColumn → FileColumn → Column
kept_column s numbers all c =
    record {
      group = record {
        data_group = record { at = c.dg; fragments = c.fragments; groups = record { at = c.cg; channels = c.cn ∷ [] } ∷ [] };
        number = 0;
        at = c.cg;
        channels = c.cn ∷ [];
        records = cycles s c.cg;
      };
      channel = c.cn;
      is_time_lem = is_master_type s c.cn;
      master = new_master numbers (master_of s all c.cg);
      signal_of = signal_kept s c.cn;
      photos = references s c.cn;
    }

-- "the others in order", from number k on
unfoldable pub kept_from : List ℕ → List ℕ → List FileColumn → ℕ → List FileColumn → List Column
kept_from s numbers all k [] = []
kept_from s numbers all k (c ∷ cs) =
    let more = kept_from s numbers all (suc k) cs in
    pick (is_in k numbers) more (kept_column s numbers all c ∷ more)

-- the others of all columns
unfoldable pub kept_columns : List ℕ → List ℕ → List FileColumn → List Column
kept_columns s numbers all = kept_from s numbers all 0 all

-- "after 34 come the photo choice's, for kept columns": 28, column by column
unfoldable pub photos_kept : List ℕ → List Column → Verdict
photos_kept s [] = fine
photos_kept s (c ∷ cs) = and_then (photos_in true s c.channel) (λ _. photos_kept s cs)
