-- The recording's side of the guarantee, in document 01's words: what its links list, and what is due of its channels.
use Rattle.std.specs.Prelude.{ℕ, zero, suc, ◌+◌, ◌*◌, ◌≤◌, ◌<◌, Bool, true, false, List, [], ◌∷◌, ◌++◌, ◌⊎◌, ◌≡◌, eqb, length, get_or, replicate}
use Rattle.std.proofs.Math.Option.{Option, none, some}
use Rattle.base.specs.Choice.{pick, if_eq}
use Rattle.base.specs.Field.{le_at}
use Rattle.mdf.specs.Block.{kind_cg, kind_cn, kind_at, link_at, first_link}
use Rattle.mdf.specs.Chain.{Kind, Fragment, Chain.records, Chain.signal, found, limits, chain}
use Rattle.mdf.specs.Group.{Group, DataGroup, addresses, record_id, samples, inval_bytes, is_storage}
use Rattle.mdf.specs.Records.{joined, id_bytes, size_of, Frame, unsorted_records}
use Rattle.mdf.specs.Walk.{cg, cn, Source, id_size}
use Rattle.plan.specs.Table.{treatment}
use Rattle.plan.specs.Channel.{channel_type, fits, is_master_type, both}
use Rattle.plan.specs.Columns.{kind_ca, SrcGroup, remote_link, Signal, no_signal, signal_data, Column, Omission}
use Rattle.plan.specs.Copies.{Attachment}
use Rattle.plan.specs.Photos.{kind_at_block}
use Rattle.result.specs.Member.{In}
use Rattle.result.specs.Payload.{records_of}

-- ---- chains

-- these addresses are the chain from a on by first links: a, then its first link, and so on up to link 0
unfoldable pub Chained : List ℕ → ℕ → List ℕ → Type 0
Chained s a [] = a ≡ 0
Chained s a (b ∷ bs) = (a ≡ b) × (b ≡ 0 → ⊥) × Chained s (link_at s b 0) bs

-- ---- data groups and their groups

-- the DG's own links: its groups are the CG chain at link 2, a group's channels the CN chain at the CG's link 2 ("A group's channels are the CN of
-- its own chain"), its fragments what the data chain at link 3 lists, where n were found before
pub record Linked (s : List ℕ) (d : DataGroup) : Type 0 where
  pub groups : Chained s (link_at s d.at 1) (addresses d.groups)
  pub channels : (g : Group) → In g d.groups → Chained s (link_at s g.at 1) g.channels
  pub fragments : (n : ℕ) × (chain records limits s n (link_at s d.at 2) ≡ found d.fragments)

-- the DG
unfoldable pub data_group_places : List DataGroup → List ℕ
data_group_places [] = []
data_group_places (d ∷ ds) = d.at ∷ data_group_places ds

-- the groups of all DG, in file order
unfoldable pub group_places : List DataGroup → List ℕ
group_places [] = []
group_places (d ∷ ds) = addresses d.groups ++ group_places ds

-- the groups, counted
unfoldable pub counted_places : List SrcGroup → List ℕ
counted_places [] = []
counted_places (g ∷ gs) = g.at ∷ counted_places gs

-- group number k
unfoldable pub group_number : ℕ → List Group → Option Group
group_number k [] = none
group_number zero (g ∷ gs) = some g
group_number (suc k) (g ∷ gs) = group_number k gs

-- the recording's DG are ds, the chain at HD link 1; the groups gs are all of theirs, in file order, each with its DG, its number in it and its channels
pub record Recorded (s : List ℕ) (ds : List DataGroup) (gs : List SrcGroup) : Type 0 where
  pub data_groups : Chained s (link_at s 64 0) (data_group_places ds)
  pub linked : (d : DataGroup) → In d ds → Linked s d
  pub groups : counted_places gs ≡ group_places ds
  pub each : (g : SrcGroup) → In g gs
      → In g.data_group ds × (group_number g.number g.data_group.groups ≡ some (record { at = g.at; channels = g.channels }))

-- the same of the walk's own items: each CG is a group, each CN a channel of one, and there are no others
pub record Met (st : Source) (gs : List SrcGroup) : Type 0 where
  pub groups : (a : ℕ) → In (cg a) st.items → (g : SrcGroup) × In g gs × (g.at ≡ a)
  pub channels : (a : ℕ) → In (cn a) st.items → (g : SrcGroup) × In g gs × In a g.channels
  pub no_other : (g : SrcGroup) → In g gs → In (cg g.at) st.items × ((c : ℕ) → In c g.channels → In (cn c) st.items)

-- ---- records

-- "With several groups a record is its id, then samples + invalidation bytes; in a VLSD storage group a 32-bit length and that many bytes follow the
-- id": what is left of the data, d, is the record r, past an id of n bytes, and the rest; r is of the group with that id among those at gs
pub record IsRecord (s : List ℕ) (n : ℕ) (gs d : List ℕ) (r : Frame) (rest : List ℕ) : Type 0 where
  pub id : List ℕ
  pub parts : d ≡ id ++ (r.bytes ++ rest)
  pub id_length : length id ≡ n
  pub numbered : r.group < length gs
  pub named : record_id s (get_or gs r.group 0) ≡ le_at n d 0
  pub long : length r.bytes
      ≡ pick (is_storage s (get_or gs r.group 0)) (4 + le_at 4 d n) (samples s (get_or gs r.group 0) + inval_bytes s (get_or gs r.group 0))

-- "Such a DG's data is always read to the end": the records are all of it, in order
unfoldable pub Fill : List ℕ → ℕ → List ℕ → List Frame → List ℕ → Type 0
Fill s n gs [] d = d ≡ []
Fill s n gs (r ∷ rs) d = (rest : List ℕ) × IsRecord s n gs d r rest × Fill s n gs rs rest

-- the records of a group that shares its DG: those with its id among all that the DG's joined fragments hold, as many as its count; no fragment
-- lacks a byte
pub record SharedRecords (s : List ℕ) (g : SrcGroup) : Type 0 where
  pub frames : List Frame
  pub fill : Fill s (id_size s g.data_group.at) (addresses g.data_group.groups) frames (joined s g.data_group.fragments)
  pub whole : length (joined s g.data_group.fragments) ≡ size_of g.data_group.fragments
  pub own : records_of s g ≡ unsorted_records g.number frames
  pub many : length (records_of s g) ≡ g.records

-- the kind of each byte of the joined data
unfoldable pub kinds_of : List Fragment → List Kind
kinds_of [] = []
kinds_of (f ∷ fs) = replicate f.size f.kind ++ kinds_of fs

-- the record r of a sorted group, the only CG in its DG: the data d with the kinds ks is an id, "a sorted group's DV has none", r and the rest; id and
-- record are of one kind
pub record IsSorted (s : List ℕ) (dg g : ℕ) (r d rest : List ℕ) (ks later : List Kind) : Type 0 where
  pub kind : Kind
  pub id : List ℕ
  pub parts : d ≡ id ++ (r ++ rest)
  pub of_kind : ks ≡ replicate (length id + length r) kind ++ later
  pub id_length : length id ≡ id_bytes s dg kind
  pub long : length r ≡ samples s g + inval_bytes s g

-- the records are all of the data, in order
unfoldable pub FillSorted : List ℕ → ℕ → ℕ → List (List ℕ) → List ℕ → List Kind → Type 0
FillSorted s dg g [] d ks = d ≡ []
FillSorted s dg g (r ∷ rs) d ks = (rest : List ℕ) × (later : List Kind) × IsSorted s dg g r d rest ks later × FillSorted s dg g rs rest later

-- the records of a sorted group are all that the DG's joined fragments hold; no fragment lacks a byte
pub record Sorted (s : List ℕ) (g : SrcGroup) : Type 0 where
  pub fill : FillSorted s g.data_group.at g.at (records_of s g) (joined s g.data_group.fragments) (kinds_of g.data_group.fragments)
  pub whole : length (joined s g.data_group.fragments) ≡ size_of g.data_group.fragments

-- ---- channels

-- "A group's master is its first fitting channel of type 2 or 3": m among the channels of the group with its CG at g
pub record IsMaster (s : List ℕ) (g : ℕ) (channels : List ℕ) (m : ℕ) : Type 0 where
  pub before : List ℕ
  pub after : List ℕ
  pub place : channels ≡ before ++ (m ∷ after)
  pub typed : is_master_type s m ≡ true
  pub fitting : fits s g m ≡ true
  pub first : (c : ℕ) → In c before → both (is_master_type s c) (fits s g c) ≡ false

-- the group has no such channel
abbrev pub NoMaster : List ℕ → SrcGroup → Type 0
NoMaster s g = (c : ℕ) → In c g.channels → both (is_master_type s c) (fits s g.at c) ≡ false

-- the group g has no master, and t, "the group at its remote link (flag bit 3, seventh link)", has the master m; VLSD storage groups have none
pub record Remote (s : List ℕ) (gs : List SrcGroup) (g t : SrcGroup) (m : ℕ) : Type 0 where
  pub without : NoMaster s g
  pub is_in : In t gs
  pub linked : t.at ≡ remote_link s g.at
  pub stored : is_storage s t.at ≡ false
  pub master : IsMaster s t.at t.channels m

-- the master that the group g has or uses is m, of the group t: "Without one, the group uses the master of the group at its remote link .. if both
-- counts agree"
abbrev pub Uses : List ℕ → List SrcGroup → SrcGroup → SrcGroup → ℕ → Type 0
Uses s gs g t m = ((g ≡ t) × IsMaster s t.at t.channels m) ⊎ (Remote s gs g t m × (t.records ≡ g.records))

-- "1 remote master with another count"
abbrev pub Differs : List ℕ → List SrcGroup → SrcGroup → Type 0
Differs s gs g = (t : SrcGroup) × (m : ℕ) × Remote s gs g t m × (t.records ≡ g.records → ⊥)

-- a link leads to a block of that kind
unfoldable pub leads_to : List ℕ → ℕ → ℕ → Bool
leads_to s a k = if_eq a 0 false (eqb (kind_at s a) k)

-- what a table says of types, by its bytes: "a count byte n from 1 to 7, then n type bytes, then n treatment bytes: 0 keep, 1 omit, 2 store as type 0";
-- "Omissions made by a table carry reason 8"; "Types not listed keep the built-in treatment": "type 4 is omitted, 5 becomes 0, others are kept"; types 2 and 3
-- are always kept
pub record Treats (table : List ℕ) : Type 0 where
  pub sized : (length table ≡ 0) ⊎ ((1 ≤ get_or table 0 0) × (get_or table 0 0 ≤ 7) × (length table ≡ 1 + 2 * get_or table 0 0))
  pub listed : (k : ℕ) → k < get_or table 0 0 → get_or table (1 + get_or table 0 0 + k) 0 ≤ 2
  pub kept : (k : ℕ) → k < get_or table 0 0 → get_or table (1 + get_or table 0 0 + k) 0 ≡ 0 → treatment table (get_or table (1 + k) 0) ≡ 0
  pub omitted : (k : ℕ) → k < get_or table 0 0 → get_or table (1 + get_or table 0 0 + k) 0 ≡ 1 → treatment table (get_or table (1 + k) 0) ≡ 8
  pub stored : (k : ℕ) → k < get_or table 0 0 → get_or table (1 + get_or table 0 0 + k) 0 ≡ 2 → treatment table (get_or table (1 + k) 0) ≡ 2
  pub unlisted : (t : ℕ) → ((k : ℕ) → k < get_or table 0 0 → get_or table (1 + k) 0 ≡ t → ⊥) → treatment table t ≡ if_eq t 4 4 (if_eq t 5 2 0)
  pub masters : (t : ℕ) → (t ≡ 2) ⊎ (t ≡ 3) → treatment table t ≡ 0

-- "A type 1 channel stored as type 0 loses its signal data, its source being nothing": whether a channel's link 6 is about signal data
unfoldable pub has_signal : List ℕ → List ℕ → ℕ → Bool
has_signal table s c = both (eqb (channel_type s c) 1) (pick (eqb (treatment table (channel_type s c)) 2) false true)

-- why a channel of the group with its CG at g is omitted, 0 where it isn't: "The type's treatment is now judged before the fit" (document 02, request 7),
-- 4 or 8; "Reasons, tested in this order: .. 2 doesn't fit; 3 further master; .. 5 array, CN link 2 leads to CA; 6 structure, it leads to CN; 7 type 1
-- whose CN link 6 leads to a CG"
unfoldable pub reason_for : List ℕ → List ℕ → ℕ → ℕ → ℕ
reason_for table s g c =
    if_eq (treatment table (channel_type s c)) 4 4
    (if_eq (treatment table (channel_type s c)) 8 8
    (pick (fits s g c)
    (pick (is_master_type s c) 3
    (pick (leads_to s (link_at s c 1) kind_ca) 5
    (pick (leads_to s (link_at s c 1) kind_cn) 6
    (pick (both (has_signal table s c) (leads_to s (link_at s c 5) kind_cg)) 7 0))))
    2))

-- an omission is of a channel for its reason, or of a group: "1 remote master with another count (address of the group's own CG ..)"
pub data OmissionDue (table s : List ℕ) (gs : List SrcGroup) (o : Omission) : Type 0 where
  of_channel : (g : SrcGroup) → In g gs → is_storage s g.at ≡ false → In o.at g.channels → o.reason ≡ reason_for table s g.at o.at
      → (o.reason ≡ 0 → ⊥) → OmissionDue table s gs o
  of_group : (g : SrcGroup) → In g gs → is_storage s g.at ≡ false → o.at ≡ g.at → o.reason ≡ 1 → Differs s gs g → OmissionDue table s gs o

-- the list is the other with some left out
pub data Among : List ℕ → List ℕ → Type 0 where
  nothing : Among [] []
  left : {a : ℕ} {l m : List ℕ} → Among l m → Among l (a ∷ m)
  next : {a : ℕ} {l m : List ℕ} → Among l m → Among (a ∷ l) (a ∷ m)

-- every group with its channels after it, in file order
unfoldable pub file_places : List SrcGroup → List ℕ
file_places [] = []
file_places (g ∷ gs) = (g.at ∷ g.channels) ++ file_places gs

-- the channels of the columns that are no time columns
unfoldable pub signal_channels : List Column → List ℕ
signal_channels [] = []
signal_channels (c ∷ cs) = pick c.is_time_lem [] (c.channel ∷ []) ++ signal_channels cs

-- the signal data of channel c: "source is the joined data of a type 1 channel's SD chain, else nothing", "Any other nonzero link 6 of type 1 is an
-- SD chain"; n fragments were found before the chain
abbrev pub SignalDue : List ℕ → List ℕ → ℕ → Signal → Type 0
SignalDue table s c no_signal = has_signal table s c ≡ true → link_at s c 5 ≡ 0
SignalDue table s c (signal_data fs) = (has_signal table s c ≡ true) × (n : ℕ) × (chain signal limits s n (link_at s c 5) ≡ found fs)

-- bookkeeping: its bytes
abbrev pub signal_size : Signal → ℕ
signal_size no_signal = 0
signal_size (signal_data fs) = size_of fs

-- ---- the history and the attachments

-- these addresses are the chain from a on by first links, and then comes e
unfoldable pub Leads : List ℕ → ℕ → List ℕ → ℕ → Type 0
Leads s a [] e = a ≡ e
Leads s a (b ∷ bs) e = (a ≡ b) × Leads s (first_link s b) bs e

-- the chain from a on, of kinds that go on, is followed to its end: "History and attachment chains that return to an earlier block end quietly, also a
-- history chain at a kind not copied and an attachment chain at a kind other than AT"
pub record Followed (s : List ℕ) (goes_on : ℕ → Bool) (a : ℕ) (met : List ℕ) : Type 0 where
  pub end : ℕ
  pub leads : Leads s a met end
  pub each : (b : ℕ) → In b met → goes_on (kind_at s b) ≡ true
  pub ends : (end ≡ 0) ⊎ (In end met ⊎ (goes_on (kind_at s end) ≡ false))

-- "at a kind other than AT": what goes on in an attachment chain
abbrev pub is_at : ℕ → Bool
is_at k = eqb k kind_at_block

-- bookkeeping: where the attachments stood
unfoldable pub attached_from : List Attachment → List ℕ
attached_from [] = []
attached_from (t ∷ ts) = t.from ∷ attached_from ts
