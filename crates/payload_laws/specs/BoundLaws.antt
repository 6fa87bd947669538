-- Bounds: a column's bytes and blocks, counts and signal data, under the most bytes of an image and the most fragments.
use Rattle.std.specs.Prelude.{ℕ, zero, suc, ◌+◌, ◌*◌, ◌≤◌, ◌<◌, Bool, true, false, List, [], ◌∷◌, ◌≡◌, refl, length, get_or, leb}
use Rattle.std.proofs.Common.{ap, zero-mul, suc-mul, mul_comm, mul-le-mul, mul-le-mul_right, le-mul_of_pos_right, arith, leb-true, leb-false}
use Rattle.base.specs.Choice.{if_le}
use Rattle.base.specs.ChoiceLaws.{lt_back, le_yes, le_no}
use Rattle.base.specs.Checked.{ok, fine}
use Rattle.mdf.specs.Chain.{Fragment}
use Rattle.mdf.specs.Group.{DataGroup, addresses, samples, inval_bytes}
use Rattle.mdf.specs.Records.{ranges_in, size_of}
use Rattle.mdf.specs.Count.{sorted_count, count_one, count_groups}
use Rattle.plan.specs.Channel.{width}
use Rattle.plan.specs.Columns.{SrcGroup, Column}
use Rattle.plan.specs.Geometry.{per_block, per_full, block_payload, block_count}
use Rattle.plan.specs.Data.{is_nonempty, blocks_in}
use Rattle.plan.specs.Layout.{column_width, column_blocks, payload_size, column_sizes, blocks_end}
use Rattle.result.specs.Fill.{column_payload}
use Rattle.result.specs.Guarantee.{In, here, there}
use Rattle.payload_laws.specs.Answers.{refused≢ok, ok_same}
use Rattle.payload_laws.specs.CountLaws.{Member, several_counts}
use Rattle.payload_laws.specs.FramedLaws.{tallies-at, unsorted_several, framed_few}
use Rattle.payload_laws.specs.CellLaws.{width-within}
use Rattle.payload_laws.specs.GeometryLaws.{blocks-few, align_near}
use Rattle.payload_laws.specs.ColumnLaws.{Ready, nonempty_some, empty_none, empty_blocks}

pub sizes_bound : (s : List ℕ) (fs : List Fragment) → ranges_in s fs ≡ fine → size_of fs ≤ length fs * length s
unfolding ranges_in size_of
sizes_bound s [] e = omega (arith, zero-mul (length s))
sizes_bound s (f ∷ fs) e =
    let b = lt_back _ _ _ _ e refused≢ok in
    let h : f.offset + f.size ≤ length s = b.0 in
    rw suc-mul (omega (arith, sizes_bound s fs b.1))

full_few : (size w n : ℕ) → per_full size w n ≤ n
unfolding per_full
full_few size w n = go (leb n (per_block size w)) refl
  where
    go : (t : Bool) → leb n (per_block size w) ≡ t → if_le n (per_block size w) n (per_block size w) ≤ n
    go true q = let e : n ≡ if_le n (per_block size w) n (per_block size w) = le_yes _ _ _ _ (leb-true _ _ q) refl in omega arith
    go false q =
        let h = leb-false n (per_block size w) q in
        let e : per_block size w ≡ if_le n (per_block size w) n (per_block size w) = le_no _ _ _ _ h refl in
        omega arith

-- a column's bytes are bytes of its DG's fragments
pub payload_bound : (s : List ℕ) (c : Column) → Ready s c → payload_size s c ≤ size_of c.group.data_group.fragments
unfolding payload_size column_width
payload_bound s c w = go (is_nonempty s c) refl
  where
    wide : payload_size s c ≡ width s c.group.at c.channel * c.group.records
    wide = refl

    some : is_nonempty s c ≡ true → payload_size s c ≤ size_of c.group.data_group.fragments
    some q =
        let a = mul-le-mul_right c.group.records (width-within s c.group.at c.channel w.fit) in
        let b = mul_comm (samples s c.group.at + inval_bytes s c.group.at) c.group.records in
        omega (arith, (w.read q).bytes w.kept, wide)

    go : (t : Bool) → is_nonempty s c ≡ t → payload_size s c ≤ size_of c.group.data_group.fragments
    go true q = some q
    go false q = omega (arith, empty_none s c q)

-- no more blocks than bytes
pub blocks_bound : (s : List ℕ) (size : ℕ) (c : Column) → column_blocks s size c ≤ payload_size s c
unfolding column_blocks payload_size
blocks_bound s size c = go (is_nonempty s c) refl
  where
    go : (t : Bool) → is_nonempty s c ≡ t → block_count size (column_width s c) c.group.records ≤ column_width s c * c.group.records
    go true q =
        let b = nonempty_some s c q in
        let few = blocks-few size (column_width s c) c.group.records in
        let m = mul_comm (column_width s c) c.group.records in
        omega (arith, le-mul_of_pos_right c.group.records b.0)
    go false q = omega (arith, empty_blocks s size c q)

-- a full payload is no more than all
pub full_bound : (s : List ℕ) (size : ℕ) (c : Column) → column_payload s size c ≤ payload_size s c
unfolding column_payload block_payload payload_size
full_bound s size c =
    let a = mul-le-mul_right (column_width s c) (full_few size (column_width s c) c.group.records) in
    omega (arith, mul_comm (column_width s c) c.group.records)

-- an image of at most 4,294,967,296 bytes, and at most 1,024 fragments: at most 2^42 bytes
pub fragments_small : (s : List ℕ) (fs : List Fragment) → ranges_in s fs ≡ fine → length s ≤ 4294967296 → length fs ≤ 1024
    → size_of fs ≤ 4398046511104
fragments_small s fs e h k =
    let a = sizes_bound s fs e in
    let b : length fs * length s ≤ 1024 * 4294967296 = mul-le-mul k h in
    omega arith

pub payload_small : (s : List ℕ) (c : Column) → Ready s c → length s ≤ 4294967296 → length c.group.data_group.fragments ≤ 1024
    → payload_size s c ≤ 4398046511104
payload_small s c w h k = go (is_nonempty s c) refl
  where
    go : (t : Bool) → is_nonempty s c ≡ t → payload_size s c ≤ 4398046511104
    go true q = omega (arith, payload_bound s c w, fragments_small s c.group.data_group.fragments (w.read q).ranges h k)
    go false q = omega (arith, empty_none s c q)

-- a column's data blocks take less than 2^47 bytes
pub data_small : (s : List ℕ) (size : ℕ) (c : Column) → Ready s c → length s ≤ 4294967296 → length c.group.data_group.fragments ≤ 1024
    → 24 * column_blocks s size c + payload_size s c ≤ 109951162777600
data_small s size c w h k = omega (arith, payload_small s c w h k, blocks_bound s size c)

pub end_small : (s : List ℕ) (size : ℕ) (c : Column) (a : ℕ) → Ready s c → length s ≤ 4294967296
    → length c.group.data_group.fragments ≤ 1024
    → blocks_end (column_sizes s size c) a < a + 109951162777608
unfolding blocks_end
end_small s size c a w h k = omega (arith, data_small s size c w h k, align_near (a + (24 * column_blocks s size c + payload_size s c)))

-- "19: a column (its CN) has over 4,294,967,295 blocks"
pub blocks-small : (s : List ℕ) (size : ℕ) (cs : List Column) (c : Column) → blocks_in s size cs ≡ fine → In c cs
    → column_blocks s size c ≤ 4294967295
unfolding blocks_in column_blocks column_width
blocks-small s size [] c e x'' = elim x'' [ ]
blocks-small s size (b ∷ cs) c e here = (lt_back _ _ _ _ e refused≢ok).0
blocks-small s size (b ∷ cs) c e (there i) = blocks-small s size cs c (lt_back _ _ _ _ e refused≢ok).1 i

-- ---- counts fit 64 bits

one-small : (s : List ℕ) (d g : ℕ) (fs : List Fragment) {ms : List ℕ} → count_one s d g fs ≡ ok ms → get_or ms 0 0 < 18446744073709551616
unfolding count_one
one-small s d g fs {ms} e =
    let a = lt_back _ _ _ _ e refused≢ok in
    let b = lt_back _ _ _ _ a.1 refused≢ok in
    let c = lt_back _ _ _ _ b.1 refused≢ok in
    let h : sorted_count s d g fs ≤ 18446744073709551615 = c.0 in
    omega (arith, ap (λ (x : List ℕ). get_or x 0 0) (ok_same c.1))

several_small : (s : List ℕ) (d k g h : ℕ) (gs : List ℕ) (fs : List Fragment) {ms : List ℕ} → count_groups s d (g ∷ h ∷ gs) fs ≡ ok ms
    → k < length (g ∷ h ∷ gs) → length s ≤ 4294967296 → length fs ≤ 1024 → get_or ms k 0 < 18446744073709551616
several_small s d k g h gs fs {ms} e l a b =
    let c = several_counts s d g h gs fs e in
    let w = unsorted_several s d (g ∷ h ∷ gs) fs c.1 in
    let t = tallies-at (length (g ∷ h ∷ gs)) 0 k c.0 l in
    let u : get_or ms k 0 ≤ size_of fs = rw (← c.2, t) (framed_few (0 + k) w) in
    omega (arith, fragments_small s fs w.ranges a b)

counts-small : (s : List ℕ) (d k : ℕ) (gs : List ℕ) (fs : List Fragment) {ms : List ℕ} → count_groups s d gs fs ≡ ok ms
    → k < length gs → length s ≤ 4294967296 → length fs ≤ 1024 → get_or ms k 0 < 18446744073709551616
unfolding count_groups
counts-small s d k [] fs e l a b = absurd (omega arith)
counts-small s d zero (g ∷ []) fs e l a b = one-small s d g fs e
counts-small s d (suc k) (g ∷ []) fs e l a b = absurd (omega arith)
counts-small s d k (g ∷ h ∷ gs) fs e l a b = several_small s d k g h gs fs e l a b

pub records_small : {s : List ℕ} {ds : List DataGroup} (g : SrcGroup) → Member s ds g → length s ≤ 4294967296
    → length g.data_group.fragments ≤ 1024
    → g.records < 18446744073709551616
records_small {s} g m a b =
    rw m.records at (counts-small s g.data_group.at g.number (addresses g.data_group.groups) g.data_group.fragments
    m.counted m.within a b)
