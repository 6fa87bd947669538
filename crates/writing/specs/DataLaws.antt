-- Laws of the data blocks and signal data of columns: what is asked where they are written, and that they were.
use Rattle.std.specs.Prelude.{◌≡◌, ℕ, zero, suc, ◌+◌, ◌-◌, ◌*◌, ◌%◌, ◌^◌, ◌<◌, ◌≤◌, true, List, [], ◌∷◌, ◌++◌, length, take, replicate, ◌≢◌, refl}
use Rattle.std.proofs.Common.{append-nil, append_assoc, ap, ◌∙◌, add-zero, zero-mul, mul-zero, suc-mul, mod-eq_of_lt, length-append, take_all}
use Rattle.std.proofs.Math.Path.{sym}
use native.Mathlib.Omega.{arith}
use Rattle.std.proofs.lemmas.List.{length-replicate}
use Rattle.base.specs.ChoiceLaws.{eq_yes, eq_no}
use Rattle.base.specs.Blit.{blit}
use Rattle.base.specs.BlitLaws.{length-blit, blit-append}
use Rattle.mdf.specs.Block.{kind_sd}
use Rattle.mdf.specs.Group.{samples, inval_bytes}
use Rattle.work_words.specs.Words.{fragments_of}
use Rattle.mdf.specs.Records.{joined}
use Rattle.plan.specs.Channel.{fits, width}
use Rattle.plan.specs.Geometry.{block_count, per_full}
use Rattle.result.specs.Payload.{payloads}
use Rattle.result.specs.Fill.{Block, block, block_of, payload_blocks}
use Rattle.result.specs.Ordered.{Ordered}
use Rattle.result.specs.Result.{flat}
use Rattle.payload_laws.specs.Lists.{Long, together}
use Rattle.payload_laws.specs.GeometryLaws.{split, no_blocks_lem}
use Rattle.payload_laws.specs.PayloadLaws.{length_framed, length-payloads, payloads-joined}
use Rattle.payload_laws.specs.CellLaws.{length-cells}
use Rattle.data_blocks.specs.Blocks.{framed_all, blocks_for, BlocksReady, WritesBlocks}
use Rattle.offsets.specs.Offsets.{KeepsNone}
use Rattle.writing.specs.declared.own.Own.{Own}
use Rattle.writing.specs.declared.data.Entry.{Entry}
use Rattle.write_copies.specs.Wrote.{end_of, Wrote}
use Rattle.write_copies.specs.WroteLaws.{ordered_end, ordered_back, ordered-first, wrote_none, wrote_block, wrote_append}
use Rattle.writing.specs.Own.{OwnOf, own_words, own_groups, groups_at, words_at}
use Rattle.writing.specs.Data.{entry_in, entry_column, entry_records, entry_count, entry_payloads, entry_kind, entry_bytes, entry_blocks, signal_words}
use Rattle.writing.specs.Data.{entry_signal, data_from, EntryReady, DataReady, Kept}

-- ---- a column's blocks as they are asked for
pub bytes_are : (s : List ℕ) (size : ℕ) (w : List ℕ) (n : ℕ) (fs : List ℕ) (nf : ℕ) (e : Entry)
    → entry_bytes s size w n fs nf e ≡ framed_all (entry_kind s e) (entry_payloads s size e (entry_records s w n fs nf e))
unfolding blocks_for entry_payloads entry_records
bytes_are s size w n fs nf e = refl

-- by the words of its DG
module _ {s w : List ℕ} {n : ℕ} {fs : List ℕ} {nf : ℕ} {e : Entry} {o : Own} (size : ℕ) (q : OwnOf w n nf e.parent o) where
  pub blocks_ready : (room : ℕ) → EntryReady s w n fs nf e → length (entry_bytes s size w n fs nf e) ≤ room
      → BlocksReady s size (own_groups w o) (own_words fs o) (entry_column e) room
  unfolding entry_records
  blocks_ready room r h =
      rw q.is (record { fit = r.fit; kept = r.kept; listed = r.listed; checked = r.checked; counted = r.counted; small = r.small; ends = h })

  pub blocks_put : (p last-p u last-u out last : List ℕ) → EntryReady s w n fs nf e → length (entry_bytes s size w n fs nf e) ≤ length out
      → Kept s w n fs nf p u → WritesBlocks s size (own_groups w o) (own_words fs o) (entry_column e) p last-p u last-u out last
      → Kept s w n fs nf last-p last-u × (last ≡ blit 0 (entry_bytes s size w n fs nf e) out)
  blocks_put p last-p u last-u out last r h k v =
      rw q.is at (v (groups_at w n nf) (words_at w n fs nf) (rw q.is) (rw q.is) k (blocks_ready (length out) r h))

-- ---- blocks one after the other
framed_size : (kind : ℕ) (ps : List (List ℕ)) → length (framed_all kind ps) ≡ 24 * length ps + length (together ps)
unfolding framed_all together
framed_size kind [] = refl
framed_size kind (p ∷ ps) = rw (length-append, length-append, length_framed, framed_size kind ps) (omega arith)

payloads-size : (s : List ℕ) (g c kind size n : ℕ) (rs : List (List ℕ)) → fits s g c ≡ true → 0 < width s g c → 0 < n → length rs ≡ n
    → Long (samples s g + inval_bytes s g) rs
    → length (framed_all kind (payloads s g c (per_full size (width s g c) n) (block_count size (width s g c) n) rs))
    ≡ 24 * block_count size (width s g c) n + width s g c * n
payloads-size s g c kind size n rs f wide some many l =
    let x = split size (width s g c) n wide some in
    let m : ℕ = per_full size (width s g c) n in
    let b : ℕ = block_count size (width s g c) n in
    let k : b * m ≡ x.full * m + m = rw x.blocks (suc-mul x.full m) in
    let a : take (b * m) rs ≡ rs = take_all (b * m) rs (omega (arith, many, x.enough)) in
    let e : length (together (payloads s g c m b rs)) ≡ width s g c * n =
    ap length (payloads-joined s g c m b rs) ∙ rw a (length-cells s g c f l ∙ rw many) in
    rw (framed_size, length-payloads, e)

payloads_end : (kind a first : ℕ) (p : List ℕ) (ps : List (List ℕ))
    → end_of a (payload_blocks kind first (p ∷ ps)) ≡ first + length (framed_all kind (p ∷ ps))
unfolding end_of payload_blocks framed_all
payloads_end kind a first p [] = rw append-nil
payloads_end kind a first p (q ∷ ps) =
    let h = payloads_end kind (first + length (block_of kind p)) (first + (24 + length p)) q ps in
    let l = length_framed kind p in
    h ∙ rw (length-append (block_of kind p) (framed_all kind (q ∷ ps))) (omega arith)

none_left : (a : ℕ) → replicate {A = ℕ} (a - a) 0 ≡ []
none_left a = let e : a - a ≡ 0 = omega arith in rw e

flat-blocks : (kind a e : ℕ) (ps : List (List ℕ)) (bs : List Block)
    → flat a (payload_blocks kind a ps ++ bs) e ≡ framed_all kind ps ++ flat (a + length (framed_all kind ps)) bs e
unfolding flat payload_blocks framed_all
flat-blocks kind a e [] bs = rw add-zero
flat-blocks kind a e (p ∷ ps) bs =
    let z : a - a ≡ 0 = omega arith in
    let n : length (block_of kind p) ≡ 24 + length p = length_framed kind p in
    let m : a + (24 + length p) + length (framed_all kind ps) ≡ a + length (block_of kind p ++ framed_all kind ps) =
    rw length-append (omega arith) in
    rw (z, n, flat-blocks kind (a + (24 + length p)) e ps bs, m) (sym (append_assoc (block_of kind p) (framed_all kind ps) _))

flat_later : (kind a first r : ℕ) (p : List ℕ) (ps : List (List ℕ))
    → flat a (payload_blocks kind first (p ∷ ps)) r ≡ replicate (first - a) 0 ++ flat first (payload_blocks kind first (p ∷ ps)) r
unfolding flat payload_blocks
flat_later kind a first r p ps = rw (none_left first) (append_assoc (replicate (first - a) 0) (block_of kind p) _)

flat-ended : (kind first r : ℕ) (ps : List (List ℕ)) → r ≡ first + length (framed_all kind ps)
    → flat first (payload_blocks kind first ps) r ≡ framed_all kind ps
unfolding flat
flat-ended kind first r ps e =
    ap (λ (x : List Block). flat first x r) (sym (append-nil (payload_blocks kind first ps))) ∙ flat-blocks kind first r ps []
    ∙ rw (← e, none_left r, append-nil)

-- zeros up to the first, then the blocks
wrote_payloads : {at : ℕ} (kind first : ℕ) (ps : List (List ℕ)) {out mid last : List ℕ} {r : ℕ} → 0 < length ps → at ≤ first
    → mid ≡ blit at (replicate (first - at) 0) out → last ≡ blit first (framed_all kind ps) mid → r ≡ first + length (framed_all kind ps)
    → Wrote at (payload_blocks kind first ps) r out last
wrote_payloads kind first [] z h m q x = absurd (omega arith)
wrote_payloads {at} kind first (p ∷ ps) {out} {mid} {last} {r} z h m q x =
    let y : at + (first - at) ≡ first = omega arith in
    record {
      end = x ∙ sym (payloads_end kind at first p ps);
      bytes = q ∙ rw m (sym (rw (flat_later kind at first r p ps, flat-ended kind first r (p ∷ ps) x)
          (blit-append (replicate (first - at) 0) at (framed_all kind (p ∷ ps)) out ∙ rw (length-replicate, y))));
    }

payloads-room : {at e : ℕ} (kind first : ℕ) (ps : List (List ℕ)) → 0 < length ps → Ordered at (payload_blocks kind first ps) e
    → (at ≤ first) × (first + length (framed_all kind ps) ≤ e)
unfolding Ordered payload_blocks
payloads-room kind first [] z o = absurd (omega arith)
payloads-room {at} {e} kind first (p ∷ ps) z o =
    let h = ordered_end at (payload_blocks kind first (p ∷ ps)) e o in
    (o.0, rw (payloads_end kind at first p ps) at h.1)

-- ---- a column's blocks

-- with blocks it has width and records
blocks-some : (size w n : ℕ) → 0 < block_count size w n → (0 < w) × (0 < n)
blocks-some size zero n z = let e = no_blocks_lem size 0 n (zero-mul n) in absurd (omega arith)
blocks-some size (suc w) zero z = let e = no_blocks_lem size (suc w) 0 (mul-zero (suc w)) in absurd (omega arith)
blocks-some size (suc w) (suc n) z = (omega arith, omega arith)

module _ {s w : List ℕ} {n : ℕ} {fs : List ℕ} {nf : ℕ} {e : Entry} (size at room : ℕ) (r : EntryReady s w n fs nf e)
    (o : Ordered at (entry_blocks s size w n fs nf e) room) {x b : ℕ} (p : x ≡ width s e.group e.channel)
    (q : b ≡ block_count size x e.records) where
  pub count_is : entry_count s size e ≡ b
  count_is = sym (q ∙ rw p)

  pub entry-none : b ≡ 0 → (out : List ℕ) → Wrote at (entry_blocks s size w n fs nf e) at out out
  unfolding entry_blocks entry_payloads payloads payload_blocks
  entry-none z out = rw (count_is, z) (wrote_none at out)

  module _ (z : b ≡ 0 → ⊥) where
    pub size_is : length (framed_all (entry_kind s e) (entry_payloads s size e (entry_records s w n fs nf e))) ≡ 24 * b + x * e.records
    unfolding entry_payloads
    size_is =
        let a = blocks-some size x e.records (rw (← q) (omega arith)) in
        let wide : 0 < width s e.group e.channel = rw (← p) a.0 in
        payloads-size s e.group e.channel (entry_kind s e) size e.records (entry_records s w n fs nf e) r.fit wide a.1
        (r.counted wide a.1) (r.long wide a.1) ∙ rw (count_is, p)

    some-payloads : 0 < length (entry_payloads s size e (entry_records s w n fs nf e))
    unfolding entry_payloads
    some-payloads = rw (length-payloads, count_is) (omega arith)

    pub entry-room : (at ≤ e.first) × (e.first + (24 * b + x * e.records) ≤ room)
    unfolding entry_blocks
    entry-room = rw size_is at (payloads-room (entry_kind s e) e.first (entry_payloads s size e (entry_records s w n fs nf e)) some-payloads o)

    pub bytes-room : e.first + length (entry_bytes s size w n fs nf e) ≤ room
    bytes-room = let h = entry-room.1 in let z = ap length (bytes_are s size w n fs nf e) ∙ size_is in omega arith

    pub entry_wrote : (out : List ℕ) {mid last : List ℕ} → mid ≡ blit at (replicate (e.first - at) 0) out
        → last ≡ blit e.first (entry_bytes s size w n fs nf e) mid
        → Wrote at (entry_blocks s size w n fs nf e) (e.first + (24 * b + x * e.records)) out last
    unfolding entry_blocks
    entry_wrote out m l =
        wrote_payloads (entry_kind s e) e.first (entry_payloads s size e (entry_records s w n fs nf e)) some-payloads entry-room.0 m
        (rw (bytes_are s size w n fs nf e) at l) (rw size_is)

-- ---- signal data
same-small : (r l : ℕ) → r < 18446744073709551616 → l < 18446744073709551616 → r % 2 ^ 64 ≡ l % 2 ^ 64 → r ≡ l
same-small r l a b e = sym (mod-eq_of_lt a) ∙ e ∙ mod-eq_of_lt b

module _ (s ws : List ℕ) (sd size : ℕ) (out : List ℕ) (h : sd + length (block_of kind_sd (joined s (fragments_of ws))) ≤ length out)
    (e : size % 2 ^ 64 ≡ length (joined s (fragments_of ws)) % 2 ^ 64) (few : length out < 18446744073709551616)
    (small : size < 18446744073709551616) where
  pub sd_size : size ≡ length (joined s (fragments_of ws))
  sd_size =
      let l = length_framed kind_sd (joined s (fragments_of ws)) in
      same-small size (length (joined s (fragments_of ws))) small (omega arith) e

  pub sd_room : sd + (24 + size) ≤ length out
  sd_room = let l = length_framed kind_sd (joined s (fragments_of ws)) in let z = sd_size in omega arith

  pub sd_wrote : (at : ℕ) {mid last : List ℕ} → at ≤ sd → mid ≡ blit at (replicate (sd - at) 0) out
      → last ≡ blit sd (block_of kind_sd (joined s (fragments_of ws))) mid
      → Wrote at (block sd (block_of kind_sd (joined s (fragments_of ws))) ∷ []) (sd + (24 + size)) out last
  sd_wrote at a m q =
      let l = length_framed kind_sd (joined s (fragments_of ws)) in
      let y : 24 + size ≡ length (block_of kind_sd (joined s (fragments_of ws))) = let z = sd_size in omega arith in
      rw y (wrote_block (block sd (block_of kind_sd (joined s (fragments_of ws)))) a (rw (← m) q))

module _ (s fs : List ℕ) (e : Entry) where
  pub no_signal_lem : e.signal ≡ 0 → entry_signal s fs e ≡ []
  unfolding entry_signal
  no_signal_lem z = sym (eq_yes _ _ _ _ z refl)

  pub signal_none : e.signal ≡ 0 → (at : ℕ) (out : List ℕ) → Wrote at (entry_signal s fs e) at out out
  signal_none z at out = rw (no_signal_lem z) (wrote_none at out)

  pub signal_some : (e.signal ≢ 0) → entry_signal s fs e ≡ block e.sd (block_of kind_sd (joined s (fragments_of (signal_words fs e)))) ∷ []
  unfolding entry_signal
  signal_some z = sym (eq_no _ _ _ _ z refl)

  pub signal_room : (e.signal ≢ 0) → (at room : ℕ) → Ordered at (entry_signal s fs e) room
      → (at ≤ e.sd) × (e.sd + length (block_of kind_sd (joined s (fragments_of (signal_words fs e)))) ≤ room)
  unfolding Ordered
  signal_room z at room o = rw (signal_some z) at o

  pub signal_wrote : (e.signal ≢ 0) → {at r : ℕ} {out last : List ℕ}
      → Wrote at (block e.sd (block_of kind_sd (joined s (fragments_of (signal_words fs e)))) ∷ []) r out last
      → Wrote at (entry_signal s fs e) r out last
  signal_wrote z v = rw (signal_some z) v

-- ---- all columns: what is left to write, written, gives the whole
module _ (s : List ℕ) (size : ℕ) (w : List ℕ) (n : ℕ) (fs : List ℕ) (nf : ℕ) (cs m : List ℕ) where
  pub data_open : (k number : ℕ) → k < number → data_from s size w n fs nf cs m k (number - k)
      ≡ entry_blocks s size w n fs nf (entry_in cs m k)
      ++ (entry_signal s fs (entry_in cs m k) ++ data_from s size w n fs nf cs m (k + 1) (number - (k + 1)))
  unfolding data_from
  data_open k number h = go (number - k) (omega arith)
    where
      go : (j : ℕ) → j ≡ suc (number - (k + 1)) → data_from s size w n fs nf cs m k j
          ≡ entry_blocks s size w n fs nf (entry_in cs m k)
          ++ (entry_signal s fs (entry_in cs m k) ++ data_from s size w n fs nf cs m (k + 1) (number - (k + 1)))
      go j e = rw e

  data_none : (k number : ℕ) → number ≤ k → data_from s size w n fs nf cs m k (number - k) ≡ []
  unfolding data_from
  data_none k number h = let e : number - k ≡ 0 = omega arith in rw e

pub record Writing (s : List ℕ) (size : ℕ) (w : List ℕ) (n : ℕ) (fs : List ℕ) (nf : ℕ) (cs m : List ℕ) (number at : ℕ) (out₀ : List ℕ) (k p : ℕ)
    (out : List ℕ) : Type 0 where
  pub room : k ≤ number
  pub same : length out ≡ length out₀
  pub ordered : Ordered p (data_from s size w n fs nf cs m k (number - k)) (length out)
  pub rest : (r : ℕ) (last : List ℕ) → Wrote p (data_from s size w n fs nf cs m k (number - k)) r out last
      → Wrote at (data_from s size w n fs nf cs m 0 number) r out₀ last

pub writing_begin : {s : List ℕ} {size : ℕ} {w : List ℕ} {n : ℕ} {fs : List ℕ} {nf : ℕ} {cs m : List ℕ} {number at : ℕ} (out : List ℕ)
    → DataReady s size w n fs nf cs m number at (length out) → Writing s size w n fs nf cs m number at out 0 at out
writing_begin {number = number} out d =
    let e : number - 0 ≡ number = omega arith in
    record { room = omega arith; same = refl; ordered = rw e d.ordered; rest = rw e (λ r last v. v) }

pub entry_ready : {s : List ℕ} {size : ℕ} {w : List ℕ} {n : ℕ} {fs : List ℕ} {nf : ℕ} {cs m : List ℕ} {number at room : ℕ} (k : ℕ) {e : Entry}
    → DataReady s size w n fs nf cs m number at room → k < number → e ≡ entry_in cs m k → EntryReady s w n fs nf e
entry_ready k d h i = rw i (d.entries k h)

module _ {s : List ℕ} {size : ℕ} {w : List ℕ} {n : ℕ} {fs : List ℕ} {nf : ℕ} {cs m : List ℕ} {number at : ℕ} {out₀ : List ℕ} {k p : ℕ}
    {out : List ℕ} (t : Writing s size w n fs nf cs m number at out₀ k p out) where
  pub writing_end : number ≤ k → Wrote at (data_from s size w n fs nf cs m 0 number) p out₀ out
  writing_end h = t.rest p out (rw (data_none s size w n fs nf cs m k number h) (wrote_none p out))

  module _ (h : k < number) {e : Entry} (i : e ≡ entry_in cs m k) where
    opened : Ordered p (entry_blocks s size w n fs nf e ++ (entry_signal s fs e ++ data_from s size w n fs nf cs m (k + 1) (number - (k + 1)))) (length out)
    opened = rw (i, ← data_open s size w n fs nf cs m k number h) t.ordered

    pub blocks-ordered : Ordered p (entry_blocks s size w n fs nf e) (length out)
    blocks-ordered = ordered-first p (entry_blocks s size w n fs nf e) _ (length out) opened

    module _ {q : ℕ} {mid : List ℕ} (v : Wrote p (entry_blocks s size w n fs nf e) q out mid) where
      after-blocks : Ordered q (entry_signal s fs e ++ data_from s size w n fs nf cs m (k + 1) (number - (k + 1))) (length out)
      after-blocks = rw v.end (ordered_back p (entry_blocks s size w n fs nf e) _ (length out) opened)

      mid_length : length mid ≡ length out
      mid_length = ap length v.bytes ∙ length-blit p _ out

      pub signal_ordered : Ordered q (entry_signal s fs e) (length mid)
      signal_ordered = rw mid_length (ordered-first q (entry_signal s fs e) _ (length out) after-blocks)

      pub writing_on : {z : ℕ} {last : List ℕ} → Wrote q (entry_signal s fs e) z mid last
          → Writing s size w n fs nf cs m number at out₀ (k + 1) z last
      writing_on {z} {last} u =
          let l : length last ≡ length out = ap length u.bytes ∙ length-blit q _ mid ∙ mid_length in
          record {
            room = omega arith;
            same = l ∙ t.same;
            ordered = rw (l, u.end) (ordered_back q (entry_signal s fs e) _ (length out) after-blocks);
            rest = λ r x y. t.rest r x
                (rw (data_open s size w n fs nf cs m k number h, ← i) (wrote_append (length out) v (wrote_append (length out) u y after-blocks) opened));
          }

-- nothing is kept at first
pub kept-none : (s w : List ℕ) (n : ℕ) (fs : List ℕ) (nf : ℕ) {q : List ℕ} → KeepsNone q → Kept s w n fs nf (replicate 4096 0) q
kept-none s w n fs nf h = record { stretches = record { right = λ i h. absurd (omega arith) }; offsets = h s (groups_at w n nf) (words_at w n fs nf) }
