-- Signal data of planned columns lies in the image; so data blocks and SD follow each other up to the data's end.
use Rattle.std.specs.Prelude.{ℕ, ◌+◌, List, [], ◌∷◌, ◌++◌, ◌≡◌, refl, length}
use Rattle.std.proofs.Common.{◌∙◌, le_refl, arith}
use Rattle.base.specs.Choice.{pick, if_eq}
use Rattle.base.specs.ChoiceLaws.{eq_yes}
use Rattle.base.specs.Checked.{ok, Verdict, fine}
use Rattle.mdf.specs.Block.{kind_sd}
use Rattle.mdf.specs.Chain.{Fragment}
use Rattle.mdf.specs.Group.{DataGroup, addresses}
use Rattle.mdf.specs.Records.{joined, size_of}
use Rattle.mdf.specs.Count.{counts}
use Rattle.plan.specs.Channel.{keeps_inval}
use Rattle.plan.specs.Columns.{src_groups, Column, Signal, no_signal, signal_data}
use Rattle.plan.specs.Data.{any_nonempty, records_in, signal_in, signals_in, data_in, all_data_in}
use Rattle.plan.specs.Rules.{Rules}
use Rattle.plan.specs.Layout.{Sizes, first_at, blocks_end, signal_at, signal_end, places_from, places_end, signal_sizes, column_sizes, sizes_of, with_places, placed_from, data_end}
use Rattle.result.specs.Payload.{column_payloads, signal_bytes}
use Rattle.result.specs.Fill.{Block, data_kind, payload_blocks, sd_blocks, data_blocks}
use Rattle.result.specs.Ordered.{Ordered}
use Rattle.result.specs.Guarantee.{In, here, there}
use Rattle.payload_laws.specs.Answers.{then_fine}
use Rattle.payload_laws.specs.SortedLaws.{joined_length}
use Rattle.payload_laws.specs.CountLaws.{member, all_checked}
use Rattle.payload_laws.specs.GeometryLaws.{align_up}
use Rattle.payload_laws.specs.UnitLaws.{IsUnit, first_past, signal_past}
use Rattle.payload_laws.specs.PayloadLaws.{length_framed}
use Rattle.payload_laws.specs.ColumnLaws.{Ready, column-ordered}
pub use Rattle.result.specs.OrderedLaws.{ordered-from, ordered-append}

-- of the columns from the DG at d
signals_each : (s : List ℕ) (d : ℕ) (cs : List Column) (c : Column) → signals_in s d cs ≡ fine → In c cs → c.group.data_group.at ≡ d
    → signal_in s c.signal_of ≡ fine
unfolding signals_in
signals_each s d [] c e x3 q = elim x3 [ ]
signals_each s d (b ∷ cs) c e here q =
    let a = then_fine (if_eq c.group.data_group.at d (signal_in s c.signal_of) fine) (λ _. signals_in s d cs) e in
    eq_yes _ _ _ fine q refl ∙ a.0
signals_each s d (b ∷ cs) c e (there i) q =
    signals_each s d cs c (then_fine (if_eq b.group.data_group.at d (signal_in s b.signal_of) fine) (λ _. signals_in s d cs) e).1 i q

data_signals : (s : List ℕ) (cs : List Column) (d : DataGroup) → data_in s cs d ≡ fine → signals_in s d.at cs ≡ fine
unfolding data_in
data_signals s cs d e =
    let read : Verdict = records_in s d.at (addresses d.groups) d.fragments in
    (then_fine (pick (any_nonempty s d.at cs) read fine) (λ _. signals_in s d.at cs) e).1

-- the signal data of every planned column lies in the image
pub column_signal : (s : List ℕ) (ds : List DataGroup) (cs : List Column) {ns : List ℕ} → counts s ds ≡ ok ns → all_data_in s cs ds ≡ fine
    → (c : Column) → In c cs → In c.group (src_groups ds ns) → signal_in s c.signal_of ≡ fine
column_signal s ds cs e w c i j =
    let d : DataGroup = c.group.data_group in
    signals_each s d.at cs c (data_signals s cs d (all_checked s cs ds d w (member s ds e c.group j).listed)) i refl

-- it has all bytes of its fragments
pub length_signal : (s : List ℕ) (fs : List Fragment) → signal_in s (signal_data fs) ≡ fine
    → length (signal_bytes s (signal_data fs)) ≡ size_of fs
length_signal s fs e = joined_length s fs e

pub signal_ordered : (s : List ℕ) (g : Signal) (a : ℕ) → signal_in s g ≡ fine → Ordered a (sd_blocks s g a) (signal_end (signal_sizes g) a)
unfolding Ordered
signal_ordered s no_signal a e = le_refl a
signal_ordered s (signal_data fs) a e =
    let up = align_up (a + (24 + size_of fs)) in
    let l = length_framed kind_sd (joined s fs) in
    (le_refl a, omega (arith, joined_length s fs e))

-- ---- all columns

-- the data of all columns, in order, from d on to its end
pub data_ordered : (o : Rules) → IsUnit o.unit → (s : List ℕ) (size a d : ℕ) (cs : List Column) → ((c : Column) → In c cs → Ready s c)
    → ((c : Column) → In c cs → signal_in s c.signal_of ≡ fine)
    → Ordered d (data_blocks s size (placed_from o s size a d cs)) (data_end o s size d cs)
unfolding Ordered data_blocks with_places places_from places_end sizes_of
data_ordered o i s size a d [] r g = le_refl d
data_ordered o i s size a d (c ∷ cs) r g =
    let u : ℕ = o.unit in
    let z : Sizes = column_sizes s size c in
    let first : ℕ = first_at u z d in
    let e : ℕ = blocks_end z first in
    let sd : ℕ = signal_at u z.signal e in
    let f : ℕ = signal_end z.signal sd in
    let kind : ℕ = data_kind (keeps_inval s c.group.at c.channel) in
    let rest : List Block = data_blocks s size (placed_from o s size (a + z.structure) f cs) in
    let own : List Block = payload_blocks kind first (column_payloads s size c) in
    ordered-append d e (data_end o s size f cs) own (sd_blocks s c.signal_of sd ++ rest)
    (ordered-from d first e own (first_past u i z d).0 (column-ordered s size c (r c here) kind first))
    (ordered-from e sd (data_end o s size f cs) (sd_blocks s c.signal_of sd ++ rest) (signal_past u i z.signal e).0
    (ordered-append sd f (data_end o s size f cs) (sd_blocks s c.signal_of sd) rest (signal_ordered s c.signal_of sd (g c here))
    (data_ordered o i s size (a + z.structure) f cs (λ b j. r b (there j)) (λ b j. g b (there j)))))
