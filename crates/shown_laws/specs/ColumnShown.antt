-- One column of the result, read by links from its DG: what is shown is what is due.
use Prim.{tt}
use Rattle.std.specs.Prelude.{◌≡◌, Bool, ℕ, zero, suc, ◌+◌, ◌*◌, ◌/◌, ◌^◌, ◌≤◌, ◌<◌, ltb, drop}
use Rattle.std.proofs.Math.Path.{refl, sym}
use Rattle.std.proofs.Common.{ap, ◌∙◌, add-zero, lit<}
use mathlib.Core.List.{List, [], ◌∷◌, ◌++◌, flatten, append-nil}
use Rattle.std.proofs.Math.Bool.{true, false}
use Rattle.std.proofs.lemmas.Bool.{false≢true}
use Rattle.std.proofs.Math.Option.{Option, none, some}
use native.Mathlib.Omega.{arith}
use Rattle.std.proofs.Math.Dec.{eqb}
use Rattle.std.proofs.Math.ListN.{length, get_or}
use borrow.Author.Tests.{eqb-true, eqb-false}
use Rattle.base.specs.Choice.{if_eq}
use Rattle.base.specs.ChoiceLaws.{lt_yes, eq_yes, eq_no}
use Rattle.base.specs.Field.{le_at, le}
use Rattle.base.specs.Blit.{part}
use Rattle.base.specs.BlitLaws.{length_part}
use Rattle.mdf.specs.Block.{kind_dg, kind_cg, kind_cn, kind_dl, kind_sd, links_at, link_at, data_at}
use Rattle.mdf.specs.Chain.{Chain.records, Chain.signal, leaf, leaf_of, found, chain}
use Rattle.mdf.specs.Group.{record_id, group_flags, samples, inval_bytes}
use Rattle.mdf.specs.Records.{joined}
use Rattle.mdf.specs.Walk.{id_size}
use Rattle.plan.specs.Rules.{Rules}
use Rattle.plan.specs.Table.{treatment}
use Rattle.plan.specs.Channel.{channel_type, bit_offset, byte_offset, bit_count, channel_flags, inval_position, bit, both, keeps_inval}
use Rattle.plan.specs.Columns.{Column, Signal, no_signal, signal_data, remote_link}
use Rattle.plan.specs.Copies.{Copy, Attachment}
use Rattle.plan.specs.Layout.{Placed, cg_of, cn_of, dl_of, cg_size, cn_size, dl_size, column_width, column_blocks}
use Rattle.result.specs.Payload.{payloads, column_payloads, signal_bytes}
use Rattle.result.specs.Fill.{Block, block, header, words, dg_bytes, cg_bytes, cn_bytes, cn_data, dl_bytes, dl_blocks, payload_blocks, sd_blocks}
use Rattle.result.specs.Fill.{sd_link, block_links, column_payload, cg_at, cg_flags, cg_data, stored_type, cn_flags, one, data_kind}
use Rattle.mdf.specs.Chain.{file_limits}
use Rattle.result.specs.Links.{head_at, group_fields, channel_fields, list_at, list_shown, shown_at}
use Rattle.result.specs.Due.{
  due_payload,
  due_kind,
  even_blocks,
  blocks_due,
  equal_due,
  fragments_due,
  list_due,
  signal_due,
  placed_c_gs,
  due_master,
  has_master,
  channel_flags_due,
  kept_byte,
  group_due,
  type_due,
  photos_due,
  channel_due,
  due,
}
use Rattle.result.specs.Guarantee.{Stands, In, here}
use Rattle.shown_laws.specs.Standing.{stands_front, read, field_at}
use Rattle.shown_laws.specs.Header.{block-kind, block_size_lem, block_links_lem, block-link, block_data}
use Rattle.shown_laws.specs.ImageBytes.{choice_small, field_below, bytes_below}
use Rattle.shown_laws.specs.Joined.{
  EqualBut,
  fragments_of,
  block_of_data,
  fragments_even,
  fragments_joined,
  chain-none,
  chain_signal,
  dl-kind,
  dl-size,
  dl_links,
  dl-next,
  dl_flags,
  dl_count,
  dl_equal,
  dl-chain,
}
use Rattle.shown_laws.specs.Shapes.{dg_links, dg_shape, master_word, cg_words, cg_shape, cn_links, cn-many, cn_shape, read_id, read_records, read_flags}
use Rattle.shown_laws.specs.Shapes.{read_bytes, read_inval, separator_stands, flags_small, flags_none, flags_some, group_flags_lem, channel_flags_lem, stored_type_lem}
use Rattle.shown_laws.specs.Shapes.{read_type, three_stands, read_offset, four_stands, read_channel_flags, read_position, two_stands, read_attachments, many_stands}

-- what is to be known of a placed column, for a block size
pub record ColumnSound (s : List ℕ) (size : ℕ) (p : Placed) : Type 0 where
  -- the image is of bytes, and the column's CG and CN lie in it
  pub image : (i : ℕ) → get_or s i 0 < 256
  pub group_in : data_at s p.column.group.at + 32 ≤ length s
  pub channel_in : data_at s p.column.channel + 72 ≤ length s
  -- its records, the number of its blocks and the length of their data are fields of 8, 4 and 8 bytes
  pub records : p.column.group.records < 256 ^ 8
  pub few : column_blocks s size p.column < 256 ^ 4
  pub short : column_payload s size p.column < 256 ^ 8
  -- so is the number of its references to attachments, of 2 bytes
  pub few_photos : length p.column.photos < 256 ^ 2
  -- every payload but the last is as long as the DL says, and together they are the payload that is due
  pub equal : EqualBut (column_payload s size p.column) (column_payloads s size p.column)
  pub whole : flatten (column_payloads s size p.column) ≡ due_payload s p.column
  -- addresses: not 0, and all below 2 ^ 64
  pub dg_above : 0 < p.dg
  pub structure_ends : dl_of p < 256 ^ 8
  pub first_above : 0 < p.first
  pub payload_ends : p.first + 24 * column_blocks s size p.column + length (due_payload s p.column) < 256 ^ 8
  pub sd_above : 0 < p.sd
  pub sd_ends : p.sd + 24 + length (signal_bytes s p.column.signal_of) < 256 ^ 8

-- it has as many references as its channel, with that choice
abbrev pub Refers : Rules → List ℕ → Column → Type 0
Refers o s c = length c.photos ≡ photos_due o.photos s c.channel

-- ---- as many payloads as blocks
length-payloads : (s : List ℕ) (g c m k : ℕ) (rs : List (List ℕ)) → length (payloads s g c m k rs) ≡ k
unfolding payloads
length-payloads s g c m zero rs = refl
length-payloads s g c m (suc k) rs = ap suc (length-payloads s g c m k (drop m rs))

pub length-column-payloads : (s : List ℕ) (size : ℕ) (c : Column) → length (column_payloads s size c) ≡ column_blocks s size c
unfolding column_payloads
length-column-payloads s size c = length-payloads s _ _ _ (column_blocks s size c) _

-- ---- the DL that a DG leads to
abbrev pub dl_link : List ℕ → ℕ → Placed → ℕ
dl_link s size p = if_eq (column_blocks s size p.column) 0 0 (dl_of p)

-- with blocks there is a DL
dl_in : (s : List ℕ) (size : ℕ) (p : Placed) → (column_blocks s size p.column ≡ 0 → ⊥)
    → In (block (dl_of p) (dl_bytes s size p)) (dl_blocks s size p)
unfolding dl_blocks
dl_in s size p z =
    let e : block (dl_of p) (dl_bytes s size p) ∷ [] ≡ if_eq (column_blocks s size p.column) 0 [] (block (dl_of p) (dl_bytes s size p) ∷ []) =
    eq_no _ _ _ _ z refl in
    let i : In (block (dl_of p) (dl_bytes s size p)) (block (dl_of p) (dl_bytes s size p) ∷ []) = here in
    rw e at i

-- ---- its data: nothing at link 0, else by the DL
leaf_kind : (t : Bool) → leaf_of records (data_kind t) ≡ leaf (due_kind t)
unfolding leaf_of if_eq
leaf_kind true = refl
leaf_kind false = refl

kind-small : (t : Bool) → data_kind t < 256 ^ 4
kind-small true = lit< tt
kind-small false = lit< tt

same_blocks : (s : List ℕ) (size : ℕ) (c : Column) → column_blocks s size c ≡ blocks_due s size c
unfolding column_blocks column_width blocks_due
same_blocks s size c = refl

same_equal : (s : List ℕ) (size : ℕ) (c : Column) → column_payload s size c ≡ equal_due s size c
unfolding column_payload column_width equal_due
same_equal s size c = refl

-- the data blocks of a column
abbrev pub blocks_at : List ℕ → ℕ → Placed → List Block
blocks_at s size p =
    payload_blocks (data_kind (keeps_inval s p.column.group.at p.column.channel)) p.first (column_payloads s size p.column)

-- the fragments of its blocks are those due
pub due_fragments : (s : List ℕ) (size : ℕ) (p : Placed) → ColumnSound s size p
    → fragments_of (due_kind (keeps_inval s p.column.group.at p.column.channel)) p.first (column_payloads s size p.column)
    ≡ fragments_due s size p
unfolding fragments_due
due_fragments s size p k =
    fragments_even _ (column_payload s size p.column) p.first (column_payloads s size p.column) k.equal
    ∙ rw (length-column-payloads s size p.column, same_blocks s size p.column, same_equal s size p.column, k.whole)

none-due : (s : List ℕ) (size : ℕ) (p : Placed) → column_blocks s size p.column ≡ 0 → fragments_due s size p ≡ []
unfolding fragments_due even_blocks
none-due s size p z = let e : blocks_due s size p.column ≡ 0 = sym (same_blocks s size p.column) ∙ z in rw e

-- a DL as its bytes stand
dl_shape : (s : List ℕ) (size : ℕ) (p : Placed) → (column_blocks s size p.column ≡ 0 → ⊥)
    → dl_bytes s size p
    ≡ header kind_dl (24 + 8 * (column_blocks s size p.column + 1) + 16) (column_blocks s size p.column + 1) ++ le 8 0
    ++ block_links (column_payload s size p.column) (column_blocks s size p.column) p.first
    ++ le 4 1 ++ le 4 (column_blocks s size p.column) ++ le 8 (column_payload s size p.column)
unfolding dl_bytes dl_size
dl_shape s size p z =
    let e : if_eq (column_blocks s size p.column) 0 0 (24 + 8 * (column_blocks s size p.column + 1) + 16) ≡ 24 + 8 * (column_blocks s size p.column + 1) + 16 =
    sym (eq_no _ _ _ _ z refl) in
    rw e

module _ {f : List ℕ} (s : List ℕ) (size : ℕ) (p : Placed) (k : ColumnSound s size p)
    (list : (b : Block) → In b (dl_blocks s size p) → Stands f b.at b.bytes) where
  pub dl_there : (z : column_blocks s size p.column ≡ 0 → ⊥)
      → Stands f (dl_of p) (header kind_dl (24 + 8 * (column_blocks s size p.column + 1) + 16) (column_blocks s size p.column + 1) ++ le 8 0
      ++ block_links (column_payload s size p.column) (column_blocks s size p.column) p.first
      ++ le 4 1 ++ le 4 (column_blocks s size p.column) ++ le 8 (column_payload s size p.column))
  dl_there z = rw (dl_shape s size p z) at (list _ (dl_in s size p z))

  -- the DL: none without blocks, else the only one
  pub list-shown : list_shown f (dl_link s size p) ≡ list_due (blocks_due s size p.column) (equal_due s size p.column)
  unfolding list_shown list_due list_at head_at
  list-shown = rw (← same_blocks s size p.column, ← same_equal s size p.column) (go (eqb (column_blocks s size p.column) 0) refl)
    where
      go : (t : Bool) → eqb (column_blocks s size p.column) 0 ≡ t
          → list_shown f (dl_link s size p) ≡ list_due (column_blocks s size p.column) (column_payload s size p.column)
      go true q =
          let z : column_blocks s size p.column ≡ 0 = eqb-true _ 0 q in
          let link : dl_link s size p ≡ 0 = sym (eq_yes _ 0 0 (dl_of p) z refl) in
          rw link (sym (eq_yes _ _ _ _ refl refl) ∙ eq_yes _ _ _ _ z refl)
      go false q =
          let z : column_blocks s size p.column ≡ 0 → ⊥ = eqb-false _ 0 q in
          let link : dl_link s size p ≡ dl_of p = sym (eq_no _ 0 0 (dl_of p) z refl) in
          let st = dl_there z in
          rw (
            link,
            dl-kind _ _ _ _ k.few k.short st,
            dl-size _ _ _ _ k.few k.short st,
            dl_links _ _ _ _ k.few k.short st,
            dl-next _ _ _ _ k.few k.short st,
            dl_flags _ _ _ _ k.few k.short st,
            dl_count _ _ _ _ k.few k.short st,
            dl_equal _ _ _ _ k.few k.short st,
          ) (sym (eq_no _ _ _ _ (λ e. omega arith) refl) ∙ eq_no _ _ _ _ z refl)

  module _ (blocks : (b : Block) → In b (blocks_at s size p) → Stands f b.at b.bytes) where
    -- THE law of a column's data: the chain at its DG's data link finds just its blocks, whatever was found before
    pub column-chain : (m : ℕ) → m + column_blocks s size p.column ≤ file_limits.fragments
        → chain records file_limits f m (dl_link s size p) ≡ found (fragments_due s size p)
    column-chain m h = go (eqb (column_blocks s size p.column) 0) refl
      where
        go : (t : Bool) → eqb (column_blocks s size p.column) 0 ≡ t
            → chain records file_limits f m (dl_link s size p) ≡ found (fragments_due s size p)
        go true q =
            let z : column_blocks s size p.column ≡ 0 = eqb-true _ 0 q in
            let link : dl_link s size p ≡ 0 = sym (eq_yes _ 0 0 (dl_of p) z refl) in
            rw (link, none-due s size p z) (chain-none records f m)
        go false q =
            let z : column_blocks s size p.column ≡ 0 → ⊥ = eqb-false _ 0 q in
            let link : dl_link s size p ≡ dl_of p = sym (eq_no _ 0 0 (dl_of p) z refl) in
            let room : p.first + 24 * column_blocks s size p.column + length (flatten (column_payloads s size p.column)) < 256 ^ 8 =
            rw k.whole k.payload_ends in
            let keeps : Bool = keeps_inval s p.column.group.at p.column.channel in
            rw link (dl-chain _ _ _ _ k.few k.short (dl_there z) m (due_kind keeps) (data_kind keeps) (column_payloads s size p.column)
            (leaf_kind keeps) (kind-small keeps) (λ e. omega arith) blocks (length-column-payloads s size p.column) k.equal k.first_above room h
            ∙ ap found (due_fragments s size p k))

    -- joined they are the payload due
    pub column-joined : joined f (fragments_due s size p) ≡ due_payload s p.column
    column-joined = rw (← due_fragments s size p k) (fragments_joined _ _ p.first (column_payloads s size p.column) blocks ∙ k.whole)

-- ---- the SD that a CN leads to
pub signal_chain : {f : List ℕ} (s : List ℕ) (g : Signal) (a m : ℕ) → 0 < a → a + 24 + length (signal_bytes s g) < 256 ^ 8
    → ((b : Block) → In b (sd_blocks s g a) → Stands f b.at b.bytes) → m < file_limits.fragments
    → chain signal file_limits f m (sd_link g a) ≡ found (signal_due s g a)
signal_chain {f} s no_signal a m z h blocks r = chain-none signal f m
signal_chain s (signal_data fs) a m z h blocks r =
    chain_signal a (signal_bytes s (signal_data fs)) m (blocks _ here) (omega arith) (λ e. omega arith) r

pub signal_joined : {f : List ℕ} (s : List ℕ) (g : Signal) (a : ℕ) → ((b : Block) → In b (sd_blocks s g a) → Stands f b.at b.bytes)
    → joined f (signal_due s g a) ≡ signal_bytes s g
unfolding joined
signal_joined s no_signal a blocks = refl
signal_joined s (signal_data fs) a blocks = rw (block_of_data kind_sd a (signal_bytes s (signal_data fs)) (blocks _ here), append-nil)

sd_small : (g : Signal) (a k : ℕ) → a < k → sd_link g a < k
sd_small no_signal a k h = omega arith
sd_small (signal_data fs) a k h = h

-- ---- the master that a CG names, by its flags and links
cg-number : (ps : List Placed) (m : ℕ) → cg_at m ps ≡ get_or (placed_c_gs ps) m 0
unfolding cg_at placed_c_gs
cg-number [] m = refl
cg-number (p ∷ ps) zero = refl
cg-number (p ∷ ps) (suc m) = cg-number ps m

pub master_shown : (f : List ℕ) (all : List Placed) (cg g : ℕ) (m : Option ℕ) → group_flags f cg ≡ cg_flags g m
    → links_at f cg ≡ 6 + length (master_word all m) → (0 < length (master_word all m) → link_at f cg 6 ≡ get_or (master_word all m) 0 0)
    → remote_link f cg ≡ due_master all m
unfolding remote_link
master_shown f all cg g none e l w = rw e (sym (eq_no _ _ _ _ (λ q. omega (arith, flags_none g)) refl))
master_shown f all cg g (some m) e l w =
    rw (e, l) (sym (eq_yes _ _ _ _ (flags_some g m) (lt_yes _ _ _ _ (lit< tt) (sym (w (lit< tt) ∙ cg-number all m)))))

word-few : (all : List Placed) (m : Option ℕ) → length (master_word all m) ≤ 1
word-few all none = omega arith
word-few all (some m) = omega arith

word_small : (all : List Placed) (m : Option ℕ) → ((m : ℕ) → cg_at m all < 256 ^ 8) → get_or (master_word all m) 0 0 < 256 ^ 8
word_small all none h = lit< tt
word_small all (some m) h = h m

word-length : (all : List Placed) (m : Option ℕ) → length (master_word all m) ≡ has_master m
word-length all none = refl
word-length all (some m) = refl

cg-bytes-of : (m : Option ℕ) → cg_size m ≡ 104 + 8 * has_master m
cg-bytes-of none = refl
cg-bytes-of (some m) = refl

master_one : (m : Option ℕ) → has_master m ≤ 1
master_one none = omega arith
master_one (some m) = omega arith

one-small : (t : Bool) → one t < 256 ^ 4
one-small true = lit< tt
one-small false = lit< tt

-- ---- the data of a CN

-- an invalidation byte is kept only under flag bit 1
kept-bit : (s : List ℕ) (g c : ℕ) → keeps_inval s g c ≡ true → bit 1 (channel_flags s c) ≡ 1
unfolding keeps_inval
kept-bit s g c e = go (eqb (bit 0 (channel_flags s c)) 0) (eqb (bit 1 (channel_flags s c)) 1) (ltb (inval_position s c / 8) (inval_bytes s g)) refl e
  where
    go : (a b t : Bool) → eqb (bit 1 (channel_flags s c)) 1 ≡ b → both a (both b t) ≡ true → bit 1 (channel_flags s c) ≡ 1
    go true true t q h = eqb-true _ 1 q
    go true false t q h = absurd (false≢true h)
    go false b t q h = absurd (false≢true h)

type_small : (table : List ℕ) (t : ℕ) → t < 256 → stored_type table t < 256
unfolding stored_type
type_small table t h = choice_small (treatment table t) 2 0 t 256 (lit< tt) h

channel_flags_small : (g : ℕ) (t : Bool) → g < 256 ^ 4 → cn_flags g t < 256 ^ 4
channel_flags_small g true h = omega arith
channel_flags_small g false h = omega arith

module _ {f : List ℕ} (o : Rules) (s : List ℕ) (image : (i : ℕ) → get_or s i 0 < 256) (q : Column) (inside : data_at s q.channel + 72 ≤ length s) (cn : ℕ)
    (few : length q.photos < 256 ^ 2) (refers : Refers o s q)
    (st : Stands f (data_at f cn) (cn_data o.table s q.group.at q.channel (length q.photos))) where
  three : length (part (data_at s q.channel + 1) 3 s) ≡ 3
  three = length_part _ 3 s (omega arith)

  four : length (part (data_at s q.channel + 8) 4 s) ≡ 4
  four = length_part _ 4 s (omega arith)

  two : length (part (data_at s q.channel + 20) 2 s) ≡ 2
  two = length_part _ 2 s (omega arith)

  many : length (part (data_at s q.channel + 24) 48 s) ≡ 48
  many = length_part _ 48 s (omega arith)

  cn_type : channel_type f cn ≡ type_due o.table (channel_type s q.channel)
  unfolding cn_data channel_type
  cn_type =
      read_type _ _ _ _ _ _ _ three four two st (type_small o.table _ (field_below s image 1 (data_at s q.channel)))
      ∙ stored_type_lem o.table (le_at 1 s (data_at s q.channel))

  -- sync type, data type and bit offset; bit count; precision: as they were
  cn-three : (i x y : ℕ) → i + 1 ≤ 3 → data_at f cn + 1 + i ≡ x → data_at s q.channel + 1 + i ≡ y → le_at 1 f x ≡ le_at 1 s y
  unfolding cn_data
  cn-three i x y h e k = field_at 1 s (data_at s q.channel + 1) 3 i x y (three_stands _ _ _ _ _ _ _ three four two st) (omega arith) h e k

  cn_bits : le_at 4 f (data_at f cn + 8) ≡ le_at 4 s (data_at s q.channel + 8)
  unfolding cn_data
  cn_bits = field_at 4 s _ 4 0 _ _ (four_stands _ _ _ _ _ _ _ three four two st) (omega arith) (lit< tt) (add-zero _) (add-zero _)

  cn_precision : le_at 1 f (data_at f cn + 20) ≡ le_at 1 s (data_at s q.channel + 20)
  unfolding cn_data
  cn_precision = field_at 1 s _ 2 0 _ _ (two_stands _ _ _ _ _ _ _ three four two st) (omega arith) (lit< tt) (add-zero _) (add-zero _)

  cn_flags_lem : channel_flags f cn ≡ channel_flags_due (channel_flags s q.channel) (kept_byte s q)
  unfolding cn_data channel_flags kept_byte
  cn_flags_lem =
      read_channel_flags _ _ _ _ _ _ _ three four two st
      (channel_flags_small _ (keeps_inval s q.group.at q.channel) (field_below s image 4 (data_at s q.channel + 12)))
      ∙ channel_flags_lem _ (keeps_inval s q.group.at q.channel) (kept-bit s q.group.at q.channel)

  cn_ranges : part (data_at f cn + 24) 48 f ≡ part (data_at s q.channel + 24) 48 s
  unfolding cn_data
  cn_ranges = rw many at (many_stands _ _ _ _ _ _ _ three four two st).is

  pub channel_read : channel_fields f cn ≡ channel_due o s q
  unfolding channel_fields channel_due bit_offset byte_offset bit_count inval_position cn_data
  channel_read =
      rw (
        cn_type,
        cn-three 0 (data_at f cn + 1) (data_at s q.channel + 1) (lit< tt) (omega arith) (omega arith),
        cn-three 1 (data_at f cn + 2) (data_at s q.channel + 2) (lit< tt) (omega arith) (omega arith),
        cn-three 2 (data_at f cn + 3) (data_at s q.channel + 3) (lit< tt) (omega arith) (omega arith),
        read_offset _ _ _ _ _ _ _ three four two st,
        cn_bits,
        cn_flags_lem,
        read_position _ _ _ _ _ _ _ three four two st,
        cn_precision,
        read_attachments _ _ _ _ _ _ _ three four two st few,
        refers,
        cn_ranges,
      )

-- ---- DG and CG of a column
module _ {f : List ℕ} (s : List ℕ) (size : ℕ) (memo : List Copy) (all : List Placed) (p : Placed) (next : ℕ) (k : ColumnSound s size p) where
  module _ (st : Stands f p.dg (dg_bytes s size memo p next)) where
    dg_stands : Stands f p.dg (header kind_dg 64 (length (dg_links s size memo p next)) ++ words (dg_links s size memo p next) ++ le 8 0)
    dg_stands = rw (dg_shape s size memo p next) at st

    pub dg-link : (i : ℕ) → i < 4 → get_or (dg_links s size memo p next) i 0 < 256 ^ 8 → link_at f p.dg i ≡ get_or (dg_links s size memo p next) i 0
    unfolding dg_links
    dg-link i h b = block-link kind_dg 64 (dg_links s size memo p next) (le 8 0) dg_stands i h b

    pub dg-head : head_at f p.dg ≡ record { kind = kind_dg; size = 64; links = 4 }
    unfolding head_at dg_links
    dg-head =
        rw (
          block-kind kind_dg 64 (dg_links s size memo p next) (le 8 0) dg_stands (lit< tt),
          block_size_lem kind_dg 64 (dg_links s size memo p next) (le 8 0) dg_stands (lit< tt),
          block_links_lem kind_dg 64 (dg_links s size memo p next) (le 8 0) dg_stands (lit< tt),
        )

    pub dg-next : next < 256 ^ 8 → link_at f p.dg 0 ≡ next
    unfolding dg_links
    dg-next h = block-link kind_dg 64 (dg_links s size memo p next) (le 8 0) dg_stands 0 (lit< tt) h

    pub dg-cg : link_at f p.dg 1 ≡ cg_of p
    unfolding dg_links
    dg-cg = block-link kind_dg 64 (dg_links s size memo p next) (le 8 0) dg_stands 1 (lit< tt) (omega (arith, k.structure_ends))

    pub dg-dl : link_at f p.dg 2 ≡ dl_link s size p
    unfolding dg_links
    dg-dl =
        block-link kind_dg 64 (dg_links s size memo p next) (le 8 0) dg_stands 2 (lit< tt) (choice_small _ _ _ _ _ (lit< tt) k.structure_ends)

    -- no record ids
    pub dg_ids : id_size f p.dg ≡ 0
    unfolding dg_links le le_at id_size
    dg_ids =
        let d : Stands f (data_at f p.dg) (le 1 0 ++ le 7 0) =
        block_data kind_dg 64 (dg_links s size memo p next) (le 8 0) dg_stands (lit< tt) in
        let e : get_or f (data_at f p.dg) 0 + 0 ≡ 0 = read 1 0 (stands_front (le 1 0) (le 7 0) d) (lit< tt) in
        omega arith

  module _ (st : Stands f (cg_of p) (cg_bytes s memo all p)) where
    cg_stands : Stands f (cg_of p)
        (header kind_cg (cg_size p.column.master) (length (cg_words s memo all p)) ++ words (cg_words s memo all p) ++ cg_data s p.column)
    cg_stands = rw (cg_shape s memo all p) at st

    cg-few : length (cg_words s memo all p) < 256 ^ 8
    unfolding cg_words
    cg-few = omega (arith, word-few all p.column.master)

    pub cg-link : (i : ℕ) → i < 6 → get_or (cg_words s memo all p) i 0 < 256 ^ 8 → link_at f (cg_of p) i ≡ get_or (cg_words s memo all p) i 0
    unfolding cg_words
    cg-link i h b = block-link kind_cg (cg_size p.column.master) (cg_words s memo all p) _ cg_stands i (omega arith) b

    cg_links_lem : length (cg_words s memo all p) ≡ 6 + has_master p.column.master
    unfolding cg_words
    cg_links_lem = omega (arith, word-length all p.column.master)

    pub cg-head : head_at f (cg_of p)
        ≡ record { kind = kind_cg; size = 104 + 8 * has_master p.column.master; links = 6 + has_master p.column.master }
    unfolding head_at
    cg-head =
        rw (
          block-kind kind_cg (cg_size p.column.master) (cg_words s memo all p) _ cg_stands (lit< tt),
          block_size_lem kind_cg (cg_size p.column.master) (cg_words s memo all p) _ cg_stands (omega (arith, cg-bytes-of p.column.master, master_one p.column.master)),
          block_links_lem kind_cg (cg_size p.column.master) (cg_words s memo all p) _ cg_stands cg-few,
          cg_links_lem,
          cg-bytes-of p.column.master,
        )

    pub cg-next : link_at f (cg_of p) 0 ≡ 0
    unfolding cg_words
    cg-next = block-link kind_cg (cg_size p.column.master) (cg_words s memo all p) _ cg_stands 0 (omega arith) (lit< tt)

    pub cg_reductions : link_at f (cg_of p) 4 ≡ 0
    unfolding cg_words
    cg_reductions = cg-link 4 (lit< tt) (lit< tt)

    pub cg-cn : link_at f (cg_of p) 1 ≡ cn_of p
    unfolding cg_words
    cg-cn =
        block-link kind_cg (cg_size p.column.master) (cg_words s memo all p) _ cg_stands 1 (omega arith) (omega (arith, k.structure_ends))

    cg_fields : Stands f (data_at f (cg_of p)) (cg_data s p.column)
    cg_fields = block_data kind_cg (cg_size p.column.master) (cg_words s memo all p) _ cg_stands cg-few

    pub cg_flags_lem : group_flags f (cg_of p) ≡ cg_flags (group_flags s p.column.group.at) p.column.master
    unfolding cg_data group_flags
    cg_flags_lem = read_flags _ _ _ _ _ cg_fields (flags_small _ p.column.master (field_below s k.image 2 _))

    pub group-shown : group_fields f (cg_of p) ≡ group_due s p.column
    unfolding group_fields group_due cg_data record_id samples inval_bytes kept_byte
    group-shown =
        let two : length (part (data_at s p.column.group.at + 18) 2 s) ≡ 2 =
        length_part (data_at s p.column.group.at + 18) 2 s (omega (arith, k.group_in)) in
        let separator : le_at 2 f (data_at f (cg_of p) + 18) ≡ le_at 2 s (data_at s p.column.group.at + 18) =
        field_at 2 s _ 2 0 _ _ (separator_stands _ _ _ _ _ cg_fields) (omega (arith, k.group_in)) (lit< tt) (add-zero _) (add-zero _) in
        rw (
          read_id _ _ _ _ _ cg_fields,
          read_records _ _ _ _ _ cg_fields k.records,
          cg_flags_lem,
          group_flags_lem (group_flags s p.column.group.at) p.column.master,
          separator,
          read_bytes _ _ _ _ _ cg_fields two (bytes_below s k.image p.column.channel),
          read_inval _ _ _ _ _ cg_fields two (one-small (keeps_inval s p.column.group.at p.column.channel)),
        )

    -- the master is named by the seventh link
    pub cg_master : ((m : ℕ) → cg_at m all < 256 ^ 8) → remote_link f (cg_of p) ≡ due_master all p.column.master
    unfolding cg_words
    cg_master h =
        let links = block_links_lem kind_cg (cg_size p.column.master) (cg_words s memo all p) _ cg_stands cg-few in
        master_shown f all (cg_of p) (group_flags s p.column.group.at) p.column.master cg_flags_lem (omega arith)
        (λ z. block-link kind_cg (cg_size p.column.master) (cg_words s memo all p) _ cg_stands 6 (omega arith)
        (word_small all p.column.master h))

-- ---- its CN
module _ {f : List ℕ} (o : Rules) (s : List ℕ) (size : ℕ) (memo : List Copy) (ats : List Attachment) (p : Placed) (k : ColumnSound s size p)
    (st : Stands f (cn_of p) (cn_bytes o s memo ats p)) where
  cn_stands : Stands f (cn_of p)
      (header kind_cn (cn_size p.column) (length (cn_links s memo ats p)) ++ words (cn_links s memo ats p)
      ++ cn_data o.table s p.column.group.at p.column.channel (length p.column.photos))
  cn_stands = rw (cn_shape o s memo ats p) at st

  cn-few : length (cn_links s memo ats p) < 256 ^ 8
  cn-few = omega (arith, cn-many s memo ats p, k.few_photos)

  pub cn-link : (i : ℕ) → i < 8 + length p.column.photos → get_or (cn_links s memo ats p) i 0 < 256 ^ 8
      → link_at f (cn_of p) i ≡ get_or (cn_links s memo ats p) i 0
  cn-link i h b = block-link kind_cn (cn_size p.column) (cn_links s memo ats p) _ cn_stands i (omega (arith, cn-many s memo ats p)) b

  pub cn-head : Refers o s p.column → head_at f (cn_of p)
      ≡ record { kind = kind_cn; size = 160 + 8 * photos_due o.photos s p.column.channel; links = 8 + photos_due o.photos s p.column.channel }
  unfolding head_at cn_size
  cn-head refers =
      rw (
        block-kind kind_cn (cn_size p.column) (cn_links s memo ats p) _ cn_stands (lit< tt),
        block_size_lem kind_cn (cn_size p.column) (cn_links s memo ats p) _ cn_stands (omega (arith, k.few_photos)),
        block_links_lem kind_cn (cn_size p.column) (cn_links s memo ats p) _ cn_stands cn-few,
        cn-many s memo ats p,
        refers,
      )

  pub cn-next : link_at f (cn_of p) 0 ≡ 0
  unfolding cn_links
  cn-next = cn-link 0 (omega arith) (lit< tt)

  pub cn_composition : link_at f (cn_of p) 1 ≡ 0
  unfolding cn_links
  cn_composition = cn-link 1 (omega arith) (lit< tt)

  cn_fields : Stands f (data_at f (cn_of p)) (cn_data o.table s p.column.group.at p.column.channel (length p.column.photos))
  cn_fields = block_data kind_cn (cn_size p.column) (cn_links s memo ats p) _ cn_stands cn-few

  pub channel-shown : Refers o s p.column → channel_fields f (cn_of p) ≡ channel_due o s p.column
  channel-shown refers = channel_read o s k.image p.column k.channel_in (cn_of p) k.few_photos refers cn_fields

  pub cn_sd : link_at f (cn_of p) 5 ≡ sd_link p.column.signal_of p.sd
  unfolding cn_links
  cn_sd = cn-link 5 (omega arith) (sd_small p.column.signal_of p.sd _ (omega (arith, k.sd_ends)))

-- what links show of a column whose blocks stand is what is due
pub column-shown : {f : List ℕ} (o : Rules) (s : List ℕ) (size : ℕ) (memo : List Copy) (ats : List Attachment) (all : List Placed) (p : Placed) (next : ℕ)
    → ColumnSound s size p → Refers o s p.column → ((m : ℕ) → cg_at m all < 256 ^ 8)
    → Stands f p.dg (dg_bytes s size memo p next) → Stands f (cg_of p) (cg_bytes s memo all p) → Stands f (cn_of p) (cn_bytes o s memo ats p)
    → ((b : Block) → In b (dl_blocks s size p) → Stands f b.at b.bytes)
    → ((b : Block) → In b (blocks_at s size p) → Stands f b.at b.bytes)
    → ((b : Block) → In b (sd_blocks s p.column.signal_of p.sd) → Stands f b.at b.bytes)
    → shown_at f p.dg ≡ due o s size all p
unfolding shown_at due
column-shown {f} o s size memo ats all p next k refers h dg cg cn list blocks sd =
    rw (
      dg-cg s size memo all p next k dg,
      cg-cn s size memo all p next k cg,
      dg-head s size memo all p next k dg,
      dg_ids s size memo all p next k dg,
      cg-head s size memo all p next k cg,
      cg-next s size memo all p next k cg,
      cg_reductions s size memo all p next k cg,
      group-shown s size memo all p next k cg,
      cg_master s size memo all p next k cg h,
      cn-head o s size memo ats p k cn refers,
      cn-next o s size memo ats p k cn,
      cn_composition o s size memo ats p k cn,
      channel-shown o s size memo ats p k cn refers,
      dg-dl s size memo all p next k dg,
      list-shown s size p k list,
      column-chain s size p k list blocks 0 (omega (arith, k.few)),
      column-joined s size p k list blocks,
      cn_sd o s size memo ats p k cn,
      signal_chain s p.column.signal_of p.sd 0 k.sd_above k.sd_ends sd (lit< tt),
      signal_joined s p.column.signal_of p.sd sd,
    )
