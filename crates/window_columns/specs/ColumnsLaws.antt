-- The data blocks and signal data of columns over a window.
use Rattle.std.specs.Prelude.{ℕ, ◌+◌, ◌-◌, ◌*◌, ◌≤◌, ◌<◌, Option, Some, None, List, [], ◌∷◌, ◌≡◌, length}
use Rattle.std.proofs.Common.{sym, ap, ◌∙◌, arith}
use Rattle.std.proofs.Math.Path.{refl}
use Rattle.base.specs.Checked.{fine}
use Rattle.mdf.specs.Block.{kind_sd}
use Rattle.mdf.specs.Records.{most64, ranges_in, joined, size_of}
use Rattle.work_words.specs.Words.{fragments_of}
use Rattle.plan.specs.Channel.{width}
use Rattle.plan.specs.Geometry.{block_count}
use Rattle.result.specs.Fill.{block_of, payload_blocks}
use Rattle.result.specs.Payload.{payloads}
use Rattle.result.specs.Ordered.{Ordered}
use Rattle.payload_laws.specs.PayloadLaws.{length_framed}
use Rattle.payload_laws.specs.SortedLaws.{joined_length}
use Rattle.puts.specs.PutLaws.{lent_is}
use borrow.Rule.Slice.PartMut.{put_mid, mid_of}
use Rattle.stores.specs.Over.{over}
use Rattle.stores.specs.OverLaws.{over-append, over-all}
use Rattle.windows.specs.LayLaws.{lay_after}
use Rattle.windows.specs.WindowedLaws.{over-past}
use Rattle.window_blocks.specs.Apart.{Apart}
use Rattle.window_blocks.specs.ApartLaws.{apart_same}
use Rattle.window_blocks.specs.TailLaws.{over-moved}
use Rattle.windows.specs.Windowed.{over_all}
use Rattle.window_data.specs.RegionLaws.{over_none}
use Rattle.data_blocks.specs.Blocks.{framed_all}
use Rattle.window_data.specs.Blocks.{LaysBlocks}
use Rattle.writing.specs.declared.data.Entry.{Entry}
use Rattle.writing.specs.declared.own.Own.{Own}
use Rattle.writing.specs.Own.{OwnOf, own_words, own_groups, groups_at, words_at}
use Rattle.writing.specs.Data.{entry_column, entry_records, entry_payloads, entry_kind, entry_bytes, entry_blocks, signal_words, entry_signal, EntryReady}
use Rattle.writing.specs.DataLaws.{bytes_are, blocks_ready, count_is, size_is, bytes-room, no_signal_lem, signal_some, signal_room}
use Rattle.window_columns.specs.Columns.{SizeOf, LaysOwn}

-- blocks one after the other are laid as one run of bytes
pub blocks-run : (a kind at : ℕ) (ps : List (List ℕ)) (w : List ℕ) → over_all a (payload_blocks kind at ps) w ≡ over a at (framed_all kind ps) w
unfolding over_all payload_blocks framed_all
blocks-run a kind at [] w = sym (over_none a at w)
blocks-run a kind at (p ∷ ps) w =
    blocks-run a kind (at + (24 + length p)) ps (over a at (block_of kind p) w)
    ∙ sym (over-append a at (block_of kind p) (framed_all kind ps) w ∙ rw length_framed refl)

module _ {s w : List ℕ} {n : ℕ} {fs : List ℕ} {nf : ℕ} {e : Entry} {o : Own} (size : ℕ) (q : OwnOf w n nf e.parent o) where
  pub blocks-laid : (a : ℕ) (p last-p u last-u v last : List ℕ)
      → LaysBlocks a s size (own_groups w o) (own_words fs o) (entry_column e) p last-p u last-u v last
      → LaysOwn s size w n fs nf e a p last-p u last-u v last
  blocks-laid a p last-p u last-u v last l r h k =
      rw q.is at (l (groups_at w n nf) (words_at w n fs nf) (rw q.is) (rw q.is) k (blocks_ready size q most64 r h))

-- ---- a column's blocks over a window
module _ {s w : List ℕ} {n : ℕ} {fs : List ℕ} {nf : ℕ} {e : Entry} (size : ℕ) (r : EntryReady s w n fs nf e)
    (o : Ordered 0 (entry_blocks s size w n fs nf e) most64) {x b : ℕ} (p : x ≡ width s e.group e.channel)
    (q : b ≡ block_count size x e.records) where
  -- they are one run of bytes
  pub run-laid : (a : ℕ) (v : List ℕ) → over_all a (entry_blocks s size w n fs nf e) v ≡ over a e.first (entry_bytes s size w n fs nf e) v
  unfolding entry_blocks
  run-laid a v = blocks-run a (entry_kind s e) e.first (entry_payloads s size e (entry_records s w n fs nf e)) v ∙ rw (bytes_are s size w n fs nf e) refl

  pub none-laid : b ≡ 0 → (a : ℕ) (v : List ℕ) → v ≡ over_all a (entry_blocks s size w n fs nf e) v
  unfolding entry_blocks entry_payloads payloads payload_blocks over_all
  none-laid z a v = rw (count_is size 0 most64 r o p q, z) refl

  module _ (z : b ≡ 0 → ⊥) where
    pub run-size : length (entry_bytes s size w n fs nf e) ≡ 24 * b + x * e.records
    run-size = rw (bytes_are s size w n fs nf e) (size_is size 0 most64 r o p q z)

    pub run_room : e.first + length (entry_bytes s size w n fs nf e) ≤ most64
    run_room = bytes-room size 0 most64 r o p q z

    -- apart from the window
    pub apart_laid : (a m : ℕ) (v : List ℕ) → m ≡ 24 * b + x * e.records → Apart (length v) a e.first m → v ≡ over_all a (entry_blocks s size w n fs nf e) v
    apart_laid a m v k h =
        apart_same a e.first m m (entry_bytes s size w n fs nf e) v h (run-size ∙ sym k) (omega arith) ∙ sym (run-laid a v)

    -- begun before it
    pub before_laid : (a : ℕ) (v : List ℕ) {last : List ℕ} → e.first ≤ a → last ≡ over (a - e.first) 0 (entry_bytes s size w n fs nf e) v
        → last ≡ over_all a (entry_blocks s size w n fs nf e) v
    before_laid a v h k =
        let y : e.first - e.first ≡ 0 = omega arith in
        k ∙ ap (λ (i : ℕ). over (a - e.first) i (entry_bytes s size w n fs nf e) v) (sym y)
        ∙ over-moved e.first a e.first (entry_bytes s size w n fs nf e) v h (omega arith) ∙ sym (run-laid a v)

    -- past it
    pub past-laid : (a : ℕ) (v : List ℕ) → a < e.first → length v ≤ e.first - a → v ≡ over_all a (entry_blocks s size w n fs nf e) v
    past-laid a v h k = sym (over-past a e.first (entry_bytes s size w n fs nf e) v (omega arith)) ∙ sym (run-laid a v)

    -- begun in it: the part from there on was lent
    pub inside_laid : (a : ℕ) (v : List ℕ) {ys : List ℕ} → a < e.first
        → ys ≡ over 0 0 (entry_bytes s size w n fs nf e) (mid_of (e.first - a) (length v - (e.first - a)) v)
        → put_mid (e.first - a) (length v - (e.first - a)) v ys ≡ over_all a (entry_blocks s size w n fs nf e) v
    inside_laid a v {ys} h k =
        lent_is (e.first - a) (entry_bytes s size w n fs nf e) v ys (k ∙ over-all 0 (entry_bytes s size w n fs nf e) _)
        ∙ lay_after a e.first (entry_bytes s size w n fs nf e) v (omega arith) ∙ sym (run-laid a v)

-- ---- its SD over a window
module _ (s fs : List ℕ) (e : Entry) (a : ℕ) (v : List ℕ) where
  pub no_sd : e.signal ≡ 0 → v ≡ over_all a (entry_signal s fs e) v
  unfolding over_all
  no_sd z = rw (no_signal_lem s fs e z) refl

  pub sd_laid : (e.signal ≡ 0 → ⊥) → {last : List ℕ} → last ≡ over a e.sd (block_of kind_sd (joined s (fragments_of (signal_words fs e)))) v
      → last ≡ over_all a (entry_signal s fs e) v
  unfolding over_all
  sd_laid z k = k ∙ rw (signal_some s fs e z) refl

  pub sd_numbers : (e.signal ≡ 0 → ⊥) → Ordered 0 (entry_signal s fs e) most64 → ranges_in s (fragments_of (signal_words fs e)) ≡ fine
      → e.sd + 24 + size_of (fragments_of (signal_words fs e)) ≤ most64
  sd_numbers z o r =
      let h = signal_room s fs e z 0 most64 o in
      omega (arith, h.1, length_framed kind_sd (joined s (fragments_of (signal_words fs e))), joined_length s (fragments_of (signal_words fs e)) r)

-- ---- sizes
-- a size that is no number is none of blocks that have room
pub size_there : (b x n : ℕ) {o : Option ℕ} → SizeOf b x n o → o ≡ None → 24 * b + x * n ≤ most64 → ⊥
size_there b x n s e h = let l : most64 < 24 * b + x * n = rw e at s in omega (arith, l, h)

pub size_known : (b x n : ℕ) {m : ℕ} {o : Option ℕ} → SizeOf b x n o → o ≡ Some m → m ≡ 24 * b + x * n
size_known b x n s e = rw e at s
