-- The records of a counted group are as many as its count, and of one length (document 01, counting): the guarantee's `counted`.
use Rattle.std.specs.Prelude.{ℕ, zero, suc, ◌+◌, ◌*◌, ◌≤◌, ◌<◌, Bool, true, false, List, [], ◌∷◌, ◌++◌, ◌≡◌, refl, length, drop, get_or, eqb, ltb}
use Rattle.std.proofs.Common.{append_assoc, append-nil, sym, ap, ◌∙◌, subst, zero-add, arith, drop_at, eq-eqb, ltb-true}
use Rattle.base.specs.Choice.{pick}
use Rattle.base.specs.ChoiceLaws.{lt_back}
use Rattle.base.specs.Checked.{ok, Verdict, fine}
use Rattle.mdf.specs.Chain.{Fragment}
use Rattle.mdf.specs.Group.{Group, DataGroup, addresses, samples, inval_bytes, is_storage}
use Rattle.mdf.specs.Walk.{id_size}
use Rattle.mdf.specs.Records.{ranges_in, joined, runs, size_of, sorted_records, Frame, sorted_in, unsorted_frames, unsorted_records}
use Rattle.mdf.specs.Count.{sorted_count, count_one, of_group, tallies, count_groups, counts_from, counts}
use Rattle.plan.specs.Channel.{both, fits, width}
use Rattle.plan.specs.Columns.{SrcGroup, with_counts, src_groups, Column}
use Rattle.plan.specs.Data.{is_nonempty, any_nonempty, records_in, signals_in, data_in, all_data_in}
use Rattle.result.specs.Payload.{framed_records, group_records, records_of}
use Rattle.result.specs.Member.{In, here, there}
use Rattle.result.specs.Recording.{Fill, SharedRecords, kinds_of, FillSorted, Sorted}
use Rattle.payload_laws.specs.Answers.{refused≢ok, ok_same, then_fine, then_ok, under}
use Rattle.payload_laws.specs.Lists.{Long, in_append}
use Rattle.payload_laws.specs.SortedLaws.{joined_length, sorted_fill, sorted_count_lem, sorted_long, sorted_bytes, sorted_ranges}
use Rattle.payload_laws.specs.CellLaws.{both_true, width-within}
use Rattle.payload_laws.specs.FramedLaws.{counted-group, length-tallies, tallies-at, unsorted_several, framed_long, framed_bytes}

-- ---- the counts, DG by DG

data Counted (s : List ℕ) : List DataGroup → List ℕ → Type 0 where
  none : Counted s [] []
  next : {d : DataGroup} {ds : List DataGroup} {ms ns : List ℕ} → count_groups s d.at (addresses d.groups) d.fragments ≡ ok ms
      → Counted s ds ns → Counted s (d ∷ ds) (ms ++ ns)

-- the counts are those counted before and those of the DG left
counted-from : (s : List ℕ) (ds : List DataGroup) (done : List ℕ) {ns : List ℕ} → counts_from s ds done ≡ ok ns
    → (ms : List ℕ) × (ns ≡ done ++ ms) × Counted s ds ms
unfolding counts_from
counted-from s [] done e = ([], sym (ok_same e) ∙ sym (append-nil done), none)
counted-from s (d ∷ ds) done {ns} e =
    let a = then_ok (count_groups s d.at (addresses d.groups) d.fragments) (λ ms. counts_from s ds (done ++ ms)) e in
    let r = counted-from s ds (done ++ a.0) a.2 in
    (a.0 ++ r.0, r.1 ∙ append_assoc done a.0 r.0, next a.1 r.2)

-- ---- as many counts as groups

length-addresses : (gs : List Group) → length (addresses gs) ≡ length gs
unfolding addresses
length-addresses [] = refl
length-addresses (g ∷ gs) = ap suc (length-addresses gs)

pub one_count : (s : List ℕ) (d g : ℕ) (fs : List Fragment) {ms : List ℕ} → count_one s d g fs ≡ ok ms → sorted_count s d g fs ∷ [] ≡ ms
unfolding count_one
one_count s d g fs e =
    let a = lt_back _ _ _ _ e refused≢ok in
    let b = lt_back _ _ _ _ a.1 refused≢ok in
    ok_same (lt_back _ _ _ _ b.1 refused≢ok).1

-- of several groups, what framing gives is counted
pub several_counts : (s : List ℕ) (d g h : ℕ) (gs : List ℕ) (fs : List Fragment) {ms : List ℕ} → count_groups s d (g ∷ h ∷ gs) fs ≡ ok ms
    → (rs : List Frame) × (unsorted_frames s d (g ∷ h ∷ gs) fs ≡ ok rs) × (tallies (length (g ∷ h ∷ gs)) 0 rs ≡ ms)
unfolding count_groups
several_counts s d g h gs fs e =
    let a = then_ok (unsorted_frames s d (g ∷ h ∷ gs) fs) (λ rs. ok (tallies (length (g ∷ h ∷ gs)) 0 rs)) e in
    (a.0, a.1, ok_same a.2)

length-counts : (s : List ℕ) (d : ℕ) (gs : List ℕ) (fs : List Fragment) {ms : List ℕ} → count_groups s d gs fs ≡ ok ms
    → length ms ≡ length gs
unfolding count_groups
length-counts s d [] fs e = ap length (sym (ok_same e))
length-counts s d (g ∷ []) fs e = ap length (sym (one_count s d g fs e))
length-counts s d (g ∷ h ∷ gs) fs e =
    let a = several_counts s d g h gs fs e in
    ap length (sym a.2) ∙ length-tallies (length (g ∷ h ∷ gs)) 0 a.0

-- ---- a group of the walk, with its count
pub record Member (s : List ℕ) (ds : List DataGroup) (g : SrcGroup) : Type 0 where
  pub listed : In g.data_group ds
  pub numbers : List ℕ
  pub counted : count_groups s g.data_group.at (addresses g.data_group.groups) g.data_group.fragments ≡ ok numbers
  pub within : g.number < length (addresses g.data_group.groups)
  pub address : get_or (addresses g.data_group.groups) g.number 0 ≡ g.at
  pub records : get_or numbers g.number 0 ≡ g.records

-- of group number k + i, with its counts in front of others
record Placed (d : DataGroup) (k : ℕ) (gs : List Group) (ms : List ℕ) (g : SrcGroup) : Type 0 where
  place : ℕ
  same : g.data_group ≡ d
  number : g.number ≡ k + place
  within : place < length (addresses gs)
  address : get_or (addresses gs) place 0 ≡ g.at
  records : get_or ms place 0 ≡ g.records

with_counts_lem : (d : DataGroup) (k : ℕ) (gs : List Group) (ms ns : List ℕ) (g : SrcGroup) → length ms ≡ length gs
    → In g (with_counts d k gs (ms ++ ns)) → Placed d k gs ms g
unfolding with_counts addresses
with_counts_lem d k [] ms ns g l i = elim i [ ]
with_counts_lem d k (h ∷ gs) [] ns g l i = absurd (omega arith)
with_counts_lem d k (h ∷ gs) (m ∷ ms) ns g l here =
    record { place = 0; same = refl; number = omega arith; within = omega arith; address = refl; records = refl }
with_counts_lem d k (h ∷ gs) (m ∷ ms) ns g l (there i) =
    let p = with_counts_lem d (k + 1) gs ms ns g (omega arith) i in
    record { place = suc p.place; same = p.same; number = omega arith; within = omega arith; address = p.address; records = p.records }

placed_member : {s : List ℕ} {ds : List DataGroup} (d : DataGroup) (ms : List ℕ) (g : SrcGroup)
    → count_groups s d.at (addresses d.groups) d.fragments ≡ ok ms → Placed d 0 d.groups ms g → Member s (d ∷ ds) g
placed_member {s} {ds} d ms g e p =
    let n : g.number ≡ p.place = omega arith in
    let f : In g.data_group (d ∷ ds) = subst (λ (x : DataGroup). In x (d ∷ ds)) (sym p.same) here in
    record {
      listed = f;
      numbers = ms;
      counted = rw p.same e;
      within = rw p.same (omega arith);
      address = rw (p.same, n) p.address;
      records = rw n p.records;
    }

later_member : {s : List ℕ} {ds : List DataGroup} {g : SrcGroup} (d : DataGroup) → Member s ds g → Member s (d ∷ ds) g
later_member d m =
    record {
      listed = there m.listed;
      numbers = m.numbers;
      counted = m.counted;
      within = m.within;
      address = m.address;
      records = m.records;
    }

members_of : {s : List ℕ} {ds : List DataGroup} {ns : List ℕ} → Counted s ds ns → (g : SrcGroup) → In g (src_groups ds ns) → Member s ds g
unfolding src_groups
members_of {s = s} none g i = elim i [ ]
members_of {s} (next {d} {ds} {ms} {ns} e c) g i =
    let l : length ms ≡ length d.groups =
    length-counts s d.at (addresses d.groups) d.fragments e ∙ length-addresses d.groups in
    in_append (with_counts d 0 d.groups (ms ++ ns)) (src_groups ds (drop (length d.groups) (ms ++ ns)))
    (λ j. placed_member d ms g e (with_counts_lem d 0 d.groups ms ns g l j))
    (λ j. later_member d (members_of c g (subst (λ (x : List ℕ). In g (src_groups ds x)) (drop_at ms ns (length d.groups) l) j)))
    i

-- every group with its count is one of a DG, with the count that was counted there
pub member : (s : List ℕ) (ds : List DataGroup) {ns : List ℕ} → counts s ds ≡ ok ns → (g : SrcGroup) → In g (src_groups ds ns)
    → Member s ds g
unfolding counts
member s ds {ns} e g i =
    let c = counted-from s ds [] e in
    members_of c.2 g (subst (λ (x : List ℕ). In g (src_groups ds x)) c.1 i)

-- ---- the records of a group

-- the records rs of a group with its CG at a, counted n, in fragments fs
pub record Read (s : List ℕ) (a n : ℕ) (fs : List Fragment) (rs : List (List ℕ)) : Type 0 where
  pub many : length rs ≡ n
  pub long : is_storage s a ≡ false → Long (samples s a + inval_bytes s a) rs
  pub bytes : is_storage s a ≡ false → n * (samples s a + inval_bytes s a) ≤ size_of fs
  pub ranges : ranges_in s fs ≡ fine

read_alone : (s : List ℕ) (d g n : ℕ) (fs : List Fragment) {ms : List ℕ} → count_one s d g fs ≡ ok ms → get_or ms 0 0 ≡ n
    → sorted_in s d g fs ≡ fine
    → Read s g n fs (sorted_records s d g (runs fs))
read_alone s d g n fs {ms} e q w =
    let c : sorted_count s d g fs ≡ n = ap (λ (x : List ℕ). get_or x 0 0) (one_count s d g fs e) ∙ q in
    let m : length (sorted_records s d g (runs fs)) ≡ n = sorted_count_lem s d g fs w ∙ c in
    record { many = m; long = λ z. sorted_long s d g fs w; bytes = λ z. rw m at (sorted_bytes s d g fs w); ranges = sorted_ranges s d g fs w }

read_several : (s : List ℕ) (d k n g h : ℕ) (gs : List ℕ) (fs : List Fragment) {ms : List ℕ} → count_groups s d (g ∷ h ∷ gs) fs ≡ ok ms
    → k < length (g ∷ h ∷ gs) → get_or ms k 0 ≡ n → Read s (get_or (g ∷ h ∷ gs) k 0) n fs (framed_records k (unsorted_frames s d (g ∷ h ∷ gs) fs))
read_several s d k n g h gs fs {ms} e l q =
    let c = several_counts s d g h gs fs e in
    let w = unsorted_several s d (g ∷ h ∷ gs) fs c.1 in
    let t : of_group k c.0 ≡ n =
    rw zero-add at (sym (tallies-at (length (g ∷ h ∷ gs)) 0 k c.0 l)) ∙ ap (λ (x : List ℕ). get_or x k 0) c.2 ∙ q in
    let m : length (unsorted_records k c.0) ≡ n = counted-group k c.0 ∙ t in
    rw c.1 (record { many = m; long = λ z. framed_long k w z; bytes = λ z. rw m at (framed_bytes k w z); ranges = w.ranges })

read_at_lem : (s : List ℕ) (d k n : ℕ) (gs : List ℕ) (fs : List Fragment) {ms : List ℕ} → count_groups s d gs fs ≡ ok ms
    → k < length gs → get_or ms k 0 ≡ n → records_in s d gs fs ≡ fine → Read s (get_or gs k 0) n fs (group_records s d k gs fs)
unfolding count_groups
read_at_lem s d k n [] fs e l q w = absurd (omega arith)
read_at_lem s d zero n (g ∷ []) fs e l q w = read_alone s d g n fs e q w
read_at_lem s d (suc k) n (g ∷ []) fs e l q w = absurd (omega arith)
read_at_lem s d k n (g ∷ h ∷ gs) fs e l q w = read_several s d k n g h gs fs e l q

-- a group whose DG's data was checked
pub checked_group : {s : List ℕ} {ds : List DataGroup} (g : SrcGroup) → Member s ds g
    → records_in s g.data_group.at (addresses g.data_group.groups) g.data_group.fragments ≡ fine
    → Read s g.at g.records g.data_group.fragments (records_of s g)
unfolding records_of
checked_group {s} g m w =
    rw m.address at (read_at_lem s g.data_group.at g.number g.records (addresses g.data_group.groups) g.data_group.fragments
    m.counted m.within m.records w)

-- ---- a group that shares its DG: its records are its own among those that fill the DG's data

-- group k of the DG at d with the groups gs and the fragments fs, counted n
record FramedAt (s : List ℕ) (d k n : ℕ) (gs : List ℕ) (fs : List Fragment) : Type 0 where
  frames : List Frame
  fill : Fill s (id_size s d) gs frames (joined s fs)
  whole : length (joined s fs) ≡ size_of fs
  own : group_records s d k gs fs ≡ unsorted_records k frames
  many : length (group_records s d k gs fs) ≡ n

framed_at : (s : List ℕ) (d k n : ℕ) (gs : List ℕ) (fs : List Fragment) {ms : List ℕ} → count_groups s d gs fs ≡ ok ms
    → k < length gs → get_or ms k 0 ≡ n → 1 < length gs → FramedAt s d k n gs fs
framed_at s d k n [] fs e l q h = absurd (omega arith)
framed_at s d k n (g ∷ []) fs e l q h = absurd (omega arith)
framed_at s d k n (g ∷ i ∷ gs) fs e l q h =
    let c = several_counts s d g i gs fs e in
    let w = unsorted_several s d (g ∷ i ∷ gs) fs c.1 in
    record {
      frames = c.0;
      fill = w.fill;
      whole = joined_length s fs w.ranges;
      own = ap (framed_records k) c.1;
      many = (read_several s d k n g i gs fs e l q).many;
    }

pub group-shared : {s : List ℕ} {ds : List DataGroup} (g : SrcGroup) → Member s ds g → 1 < length g.data_group.groups → SharedRecords s g
unfolding records_of
group-shared {s} g m h =
    let r = framed_at s g.data_group.at g.number g.records (addresses g.data_group.groups) g.data_group.fragments m.counted m.within m.records
    (omega (arith, h, length-addresses g.data_group.groups)) in
    record { frames = r.frames; fill = r.fill; whole = r.whole; own = r.own; many = r.many }

-- ---- the DG of a nonempty column is checked

any_nonempty_lem : (s : List ℕ) (d : ℕ) (cs : List Column) (c : Column) → In c cs → is_nonempty s c ≡ true → c.group.data_group.at ≡ d
    → any_nonempty s d cs ≡ true
unfolding any_nonempty
any_nonempty_lem s d [] c x3 e q = elim x3 [ ]
any_nonempty_lem s d (b ∷ cs) c here e q = rw (eq-eqb c.group.data_group.at d q, e)
any_nonempty_lem s d (b ∷ cs) c (there i) e q = rw (any_nonempty_lem s d cs c i e q) (go (both (eqb b.group.data_group.at d) (is_nonempty s b)))
  where
    go : (t : Bool) → pick t true true ≡ true
    go true = refl
    go false = refl

pub all_checked : (s : List ℕ) (cs : List Column) (ds : List DataGroup) (d : DataGroup) → all_data_in s cs ds ≡ fine → In d ds
    → data_in s cs d ≡ fine
unfolding all_data_in
all_checked s cs [] d e x'' = elim x'' [ ]
all_checked s cs (b ∷ ds) d e here = (then_fine (data_in s cs d) (λ _. all_data_in s cs ds) e).0
all_checked s cs (b ∷ ds) d e (there i) = all_checked s cs ds d (then_fine (data_in s cs b) (λ _. all_data_in s cs ds) e).1 i

records_checked : (s : List ℕ) (cs : List Column) (d : DataGroup) → data_in s cs d ≡ fine → any_nonempty s d.at cs ≡ true
    → records_in s d.at (addresses d.groups) d.fragments ≡ fine
unfolding data_in
records_checked s cs d e q =
    let r : Verdict = records_in s d.at (addresses d.groups) d.fragments in
    under (any_nonempty s d.at cs) r (then_fine (pick (any_nonempty s d.at cs) r fine) (λ _. signals_in s d.at cs) e).0 q

-- so the records of a nonempty column's group are as counted
pub column_read : (s : List ℕ) (ds : List DataGroup) (cs : List Column) {ns : List ℕ} → counts s ds ≡ ok ns → all_data_in s cs ds ≡ fine
    → (c : Column) → In c cs → In c.group (src_groups ds ns) → is_nonempty s c ≡ true
    → Read s c.group.at c.group.records c.group.data_group.fragments (records_of s c.group)
column_read s ds cs e w c i j q =
    let m = member s ds e c.group j in
    let d : DataGroup = c.group.data_group in
    checked_group c.group m (records_checked s cs d (all_checked s cs ds d w m.listed) (any_nonempty_lem s d.at cs c i q refl))

-- the guarantee's `counted`
pub counted : (s : List ℕ) (ds : List DataGroup) (cs : List Column) {ns : List ℕ} → counts s ds ≡ ok ns → all_data_in s cs ds ≡ fine
    → (c : Column) → In c cs → In c.group (src_groups ds ns) → is_nonempty s c ≡ true → length (records_of s c.group) ≡ c.group.records
counted s ds cs e w c i j q = (column_read s ds cs e w c i j q).many

-- ---- a sorted group with a nonempty column: its records are all of the DG's data

sorted_at : (s : List ℕ) (d k a : ℕ) (gs : List ℕ) (fs : List Fragment) → length gs ≡ 1 → k < length gs → get_or gs k 0 ≡ a → records_in s d gs fs ≡ fine
    → 0 < samples s a + inval_bytes s a
    → FillSorted s d a (group_records s d k gs fs) (joined s fs) (kinds_of fs) × (length (joined s fs) ≡ size_of fs)
sorted_at s d k a [] fs o l e w h = absurd (omega arith)
sorted_at s d zero a (g ∷ []) fs o l e w h = (rw (← e) (sorted_fill s d g fs w (rw e h)), joined_length s fs (sorted_ranges s d g fs w))
sorted_at s d (suc k) a (g ∷ []) fs o l e w h = absurd (omega arith)
sorted_at s d k a (g ∷ i ∷ gs) fs o l e w h = absurd (omega arith)

pub column_sorted : (s : List ℕ) (ds : List DataGroup) (cs : List Column) {ns : List ℕ} → counts s ds ≡ ok ns → all_data_in s cs ds ≡ fine
    → (c : Column) → In c cs → In c.group (src_groups ds ns) → fits s c.group.at c.channel ≡ true → is_nonempty s c ≡ true
    → length c.group.data_group.groups ≡ 1 → Sorted s c.group
unfolding records_of is_nonempty
column_sorted s ds cs e w c i j f q o =
    let m = member s ds e c.group j in
    let d : DataGroup = c.group.data_group in
    let wide : 0 < width s c.group.at c.channel = ltb-true 0 (width s c.group.at c.channel) (both_true (ltb 0 (width s c.group.at c.channel)) (ltb 0 c.group.records) q).0 in
    let r = sorted_at s d.at c.group.number c.group.at (addresses d.groups) d.fragments (length-addresses d.groups ∙ o) m.within m.address
    (records_checked s cs d (all_checked s cs ds d w m.listed) (any_nonempty_lem s d.at cs c i q refl))
    (omega (arith, wide, width-within s c.group.at c.channel f)) in
    record { fill = r.0; whole = r.1 }
