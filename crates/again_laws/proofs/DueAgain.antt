-- What is due of a column that is converted again is what was due of it: fields, payload, signal data, kinds and lengths of blocks.
use Rattle.std.specs.Prelude.{ℕ, zero, suc, ◌+◌, ◌*◌, ◌-◌, ◌/◌, ◌%◌, ◌≤◌, ◌<◌, Bool, ◌⊎◌, ◌≡◌, length}
use mathlib.Core.List.{List, [], ◌∷◌, append-nil}
use Rattle.std.proofs.Math.Bool.{true, false}
use Rattle.std.proofs.Common.{inl, inr, sym, ap, ◌∙◌, arith}
use Rattle.std.proofs.Math.Option.{Option, none, some}
use Rattle.std.proofs.Math.Path.{refl}
use Rattle.base.specs.Choice.{pick}
use Rattle.base.specs.Field.{le_at}
use Rattle.mdf.specs.Block.{kind_sd, data_at}
use Rattle.mdf.specs.Chain.{Kind}
use Rattle.mdf.specs.Group.{group_flags}
use Rattle.mdf.specs.Records.{joined}
use Rattle.plan.specs.Channel.{channel_type, channel_flags, keeps_inval, width}
use Rattle.plan.specs.Columns.{Column, Signal, no_signal, signal_data}
use Rattle.plan.specs.Layout.{Placed, cn_of, column_width}
use Rattle.plan.specs.Rules.{Rules}
use Rattle.result.specs.Payload.{signal_bytes}
use Rattle.result.specs.Due.{due_payload, due_kind, even_blocks, blocks_due, equal_due, fragments_due, has_master, group_flags_due, channel_flags_due, kept_byte, group_due, type_due, photos_due, channel_due}
use Rattle.shown_laws.specs.Joined.{block_of_data}
use Rattle.again.specs.Same.{Extent, extents}
use Rattle.again_laws.specs.Held.{Fields, Held}
use Rattle.again_laws.proofs.HeldLaws.{fields}
use Rattle.again_laws.specs.ChannelAgain.{type_cases, type_is, bytes-again, keeps_again, width-again}
use Rattle.again_laws.proofs.DataAgain.{group_again, payload_again}
use Rattle.again_laws.proofs.DecideAgain.{signal_again, sd_stands}
use Rattle.again_laws.proofs.OrderAgain.{column_again}
use Rattle.again_laws.specs.Origin.{Origin}

-- ---- fields that are due are due again
type_twice : (t : ℕ) → type_due [] (type_due [] t) ≡ type_due [] t
type_twice t = go (type_cases t)
  where
    none_five : (u : ℕ) → u ≡ 0 → type_due [] u ≡ 0
    none_five u e = zero_case (type_cases u)
      where
        zero_case : ((u ≡ 5) × (type_due [] u ≡ 0)) ⊎ ((u ≡ 5 → ⊥) × (type_due [] u ≡ u)) → type_due [] u ≡ 0
        zero_case (inl q) = q.1
        zero_case (inr q) = q.1 ∙ e

    go : ((t ≡ 5) × (type_due [] t ≡ 0)) ⊎ ((t ≡ 5 → ⊥) × (type_due [] t ≡ t)) → type_due [] (type_due [] t) ≡ type_due [] t
    go (inl e) = none_five (type_due [] t) e.1 ∙ sym e.1
    go (inr e) = ap (type_due []) e.1

master_few : (m : Option ℕ) → has_master m ≤ 1
master_few none = omega arith
master_few (some m) = omega arith

group_flags_twice : (g : ℕ) (m : Option ℕ) → group_flags_due (group_flags_due g m) m ≡ group_flags_due g m
unfolding group_flags_due
group_flags_twice g m = let h = master_few m in omega arith

-- the parts of flags: bit 0, bit 1, ten bits past it, those past bit 12
low_part : (a k b c : ℕ) → a < 2 → (a + 2 * k + 4 * b + 8192 * c) % 2 ≡ a
low_part a k b c h = omega arith

quarter : (a k b c : ℕ) → a < 2 → k ≤ 1 → (a + 2 * k + 4 * b + 8192 * c) / 4 ≡ b + 2048 * c
quarter a k b c h l = omega arith

middle_part : (b c : ℕ) → b < 1024 → (b + 2048 * c) % 1024 ≡ b
middle_part b c h = omega arith

high_part : (a k b c : ℕ) → a < 2 → k ≤ 1 → b < 1024 → (a + 2 * k + 4 * b + 8192 * c) / 8192 ≡ c
high_part a k b c h l m = omega arith

below_two : (g : ℕ) → g % 2 < 2
below_two g = omega arith

below_middle : (g : ℕ) → g / 4 % 1024 < 1024
below_middle g = omega arith

channel_flags_twice : (g k : ℕ) → k ≤ 1 → channel_flags_due (channel_flags_due g k) k ≡ channel_flags_due g k
unfolding channel_flags_due
channel_flags_twice g k h =
    let a : ℕ = g % 2 in
    let b : ℕ = g / 4 % 1024 in
    let c : ℕ = g / 8192 in
    rw (
      low_part a k b c (below_two g),
      quarter a k b c (below_two g) h,
      middle_part b c (below_middle g),
      high_part a k b c (below_two g) h (below_middle g),
    )

-- ---- kinds and lengths of blocks, wherever they stand
extents_even : (k : Kind) (q n all a b : ℕ) → extents (even_blocks k q n all a) ≡ extents (even_blocks k q n all b)
unfolding extents even_blocks
extents_even k q zero all a b = refl
extents_even k q (suc zero) all a b = refl
extents_even k q (suc (suc n)) all a b =
    ap (λ (es : List Extent). record { size = q; kind = k } ∷ es) (extents_even k q (suc n) (all - q) (a + (24 + q)) (b + (24 + q)))

kept-few : (s : List ℕ) (c : Column) → kept_byte s c ≤ 1
unfolding kept_byte
kept-few s c = go (keeps_inval s c.group.at c.channel)
  where
    go : (t : Bool) → pick t 1 0 ≤ 1
    go true = omega arith
    go false = omega arith

module _ (f : List ℕ) (o : Rules) (s : List ℕ) (size : ℕ) (all : List Placed) (p : Placed) (h : Held f o s size all p) (built : o.table ≡ []) (j : ℕ)
    (origin : Origin s all j p) (o2 : Rules) (built2 : o2.table ≡ []) (photos : o2.photos ≡ o.photos) where
  abbrev c2 : Column
  c2 = column_again o2.photos f s size p

  has : Fields f o s all p
  has = fields f o s size all p h.shown

  kept_again : kept_byte f c2 ≡ kept_byte s p.column
  unfolding kept_byte column_again group_again
  kept_again = rw (keeps_again f o s all p has built)

  pub group-again : group_due f c2 ≡ group_due s p.column
  unfolding group_due column_again group_again
  group-again =
      rw (kept_again, bytes-again f o s all p has built, has.group_flags, group_flags_twice (group_flags s p.column.group.at) p.column.master, has.separator)

  pub photos_again : photos_due o2.photos f (cn_of p) ≡ photos_due o.photos s p.column.channel
  unfolding photos_due
  photos_again = rw photos (go o.photos has.attachments)
    where
      go : (t : Bool) → le_at 2 f (data_at f (cn_of p) + 22) ≡ pick t (le_at 2 s (data_at s p.column.channel + 22)) 0
          → pick t (le_at 2 f (data_at f (cn_of p) + 22)) 0 ≡ pick t (le_at 2 s (data_at s p.column.channel + 22)) 0
      go true e = e
      go false e = refl

  pub channel-again : channel_due o2 f c2 ≡ channel_due o s p.column
  unfolding channel_due column_again
  channel-again =
      rw (
        kept_again,
        built,
        built2,
        type_is f o s all p has built,
        type_twice (channel_type s p.column.channel),
        has.sync_type,
        has.data_type,
        has.bit_offset,
        has.bit_count,
        has.flags,
        channel_flags_twice (channel_flags s p.column.channel) (kept_byte s p.column) (kept-few s p.column),
        has.precision,
        photos_again,
        has.ranges,
      )

  -- ---- its blocks
  width_is : width f c2.group.at c2.channel ≡ width s p.column.group.at p.column.channel
  unfolding column_again group_again column_width
  width_is = width-again f o s all p has built

  many-again : c2.group.records ≡ p.column.group.records
  unfolding column_again group_again
  many-again = refl

  pub blocks-again : blocks_due f size c2 ≡ blocks_due s size p.column
  unfolding blocks_due
  blocks-again = rw (width_is, many-again)

  pub equal_again : equal_due f size c2 ≡ equal_due s size p.column
  unfolding equal_due
  equal_again = rw (width_is, many-again)

  pub payload_due : due_payload f c2 ≡ due_payload s p.column
  unfolding column_again
  payload_due = payload_again f o s size all p h built c2 refl refl

  keeps_is : keeps_inval f c2.group.at c2.channel ≡ keeps_inval s p.column.group.at p.column.channel
  unfolding column_again group_again
  keeps_is = keeps_again f o s all p has built

  -- wherever the column is placed again
  pub extents-again : (q : Placed) → q.column ≡ c2 → extents (fragments_due f size q) ≡ extents (fragments_due s size p)
  unfolding fragments_due
  extents-again q e =
      rw (e, keeps_is, equal_again, blocks-again, payload_due)
      (extents_even (due_kind (keeps_inval s p.column.group.at p.column.channel)) (equal_due s size p.column) (blocks_due s size p.column)
      (length (due_payload s p.column)) q.first p.first)

  -- ---- its signal data
  signal_for : (g : Signal) → p.column.signal_of ≡ g → signal_bytes f (signal_again s g p.sd) ≡ signal_bytes s g
  unfolding joined
  signal_for no_signal q = refl
  signal_for (signal_data fs) q =
      rw append-nil (block_of_data kind_sd p.sd (signal_bytes s (signal_data fs)) (sd_stands f o s size all p h built j origin fs q))

  pub signal_due_lem : signal_bytes f c2.signal_of ≡ signal_bytes s p.column.signal_of
  unfolding column_again
  signal_due_lem = signal_for p.column.signal_of refl
