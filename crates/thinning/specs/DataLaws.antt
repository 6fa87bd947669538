-- Laws of the data blocks and SD of kept columns: that they have room, and that they were written.
use Prim.{tt}
use Prim.Native.Nat.{ℕ, suc, ◌+◌, ◌*◌, ◌-◌, ◌≤◌, ◌<◌}
use mathlib.Core.List.{List, [], ◌∷◌, ◌++◌}
use Rattle.std.specs.Prelude.{◌≡◌, refl, get_or, drop, replicate}
use Rattle.std.proofs.Math.Path.{sym, ap}
use Rattle.std.proofs.Common.{◌∙◌, length-drop, length-take-le}
use native.Mathlib.Omega.{arith}
use Rattle.std.proofs.Math.ListN.{length}
use borrow.Rule.Slice.PartMut.{put_mid, mid_of}
use Rattle.base.specs.ChoiceLaws.{eq_yes, eq_no}
use Rattle.base.specs.Blit.{part, blit}
use Rattle.base.specs.BlitLaws.{length-blit}
use Rattle.base.specs.Checked.{fine}
use Rattle.mdf.specs.Block.{kind_sd, size_at, link_at}
use Rattle.mdf.specs.Chain.{Fragment}
use Rattle.mdf.specs.Records.{ranges_in}
use Rattle.work_words.specs.CopyWords.{placed_at}
use Rattle.file_laws.specs.JoinedLaws.{ranges_cons}
use Rattle.result.specs.Fill.{block}
use Rattle.result.specs.Ordered.{Ordered}
use Rattle.ranges.specs.Blocks.{listed_from, links_of}
use Rattle.ranges.specs.BlocksLaws.{from_next, from_end}
use Rattle.thin.specs.Fill.{kind_number, moved_blocks}
use Rattle.thin_laws.specs.LengthLaws.{length_moved}
use Rattle.thin_blocks.specs.Anew.{Anew, moved_bytes, Moves}
use Rattle.payload_laws.specs.PayloadLaws.{length_framed}
use Rattle.puts.specs.PutLaws.{lent_is}
use Rattle.write_copies.specs.Wrote.{Wrote}
use Rattle.write_copies.specs.WroteLaws.{ordered_back, ordered-first, wrote_none, wrote_block, wrote_append}
use Rattle.thinning.specs.Touching.{bytes_of, Touching}
use Rattle.thinning.specs.TouchingLaws.{touching_room, wrote_touching}
use Rattle.thinning.specs.Data.{listed_by, sd_bytes, moved_of, signal_in, data_in, data_from, MovedRoom, DataRoom, DataReady}

-- what is lent
length_mid : (a : ℕ) (l : List ℕ) → a ≤ length l → length (mid_of a (length l - a) l) ≡ length l - a
length_mid a l h = length-take-le (length l - a) (drop a l) (rw length-drop (omega arith))

-- ---- data blocks: each begins where the one before it ends
pub moved-bytes : (s : List ℕ) (a : ℕ) (fs : List Fragment) → bytes_of (moved_blocks s a fs) ≡ moved_bytes s fs
unfolding bytes_of moved_blocks moved_bytes
moved-bytes s a [] = refl
moved-bytes s a (f ∷ fs) = rw (moved-bytes s (a + (24 + f.size)) fs)

pub moved_touching : (s : List ℕ) (a : ℕ) (fs : List Fragment) → ranges_in s fs ≡ fine → Touching a (moved_blocks s a fs)
unfolding Touching moved_blocks
moved_touching s a [] r = tt
moved_touching s a (f ∷ fs) r =
    let b = ranges_cons s f fs r in
    (refl, rw (length_moved (kind_number f.kind) s f b.0) (moved_touching s (a + (24 + f.size)) fs b.1))

module _ {s : List ℕ} {at first : ℕ} {e : ℕ} where
  pub moved-room : (fs : List Fragment) → MovedRoom s at first fs e → 0 < length fs → (at ≤ first) × (first + length (moved_bytes s fs) ≤ e)
  unfolding moved_blocks
  moved-room [] q h = absurd (omega arith)
  moved-room (f ∷ fs) q h =
      rw (← moved-bytes s first (f ∷ fs)) (touching_room at first _ _ (moved_touching s first (f ∷ fs) q.ranges) q.ordered)

  pub wrote_moved : (fs : List Fragment) → MovedRoom s at first fs e → 0 < length fs → {out mid last : List ℕ}
      → mid ≡ blit at (replicate (first - at) 0) out
      → last ≡ blit first (moved_bytes s fs) mid → Wrote at (moved_blocks s first fs) (first + length (moved_bytes s fs)) out last
  unfolding moved_blocks
  wrote_moved [] q h m l = absurd (omega arith)
  wrote_moved (f ∷ fs) q h m l =
      let b = moved-bytes s first (f ∷ fs) in
      rw (← b) (wrote_touching at first _ _ (moved_touching s first (f ∷ fs) q.ranges) (moved-room (f ∷ fs) q h).0 m (rw (← b) at l))

-- by the number of links of a DL
some-listed : (s : List ℕ) (a links : ℕ) → 2 ≤ links → 0 < length (listed_from s a links 1)
some-listed s a links h = rw (from_next s a links 1 h) (omega arith)

pub none-moved : (s : List ℕ) (at first a links : ℕ) (out : List ℕ) → links < 2 → Wrote at (moved_blocks s first (listed_from s a links 1)) at out out
unfolding moved_blocks
none-moved s at first a links out h = rw (from_end s a links 1 (omega arith)) (wrote_none at out)

module _ {s : List ℕ} {at first : ℕ} {e : ℕ} (a links : ℕ) (q : MovedRoom s at first (listed_from s a links 1) e) (h : 2 ≤ links) where
  pub listed-room : (at ≤ first) × (first + length (moved_bytes s (listed_from s a links 1)) ≤ e)
  listed-room = moved-room (listed_from s a links 1) q (some-listed s a links h)

  -- n is past what was put over the part of mid that was lent
  module _ (mid : List ℕ) {ys : List ℕ} {n : ℕ} (v : Moves s (listed_from s a links 1) (mid_of first (length mid - first) mid) ys n)
      (same : length mid ≡ e) where
    pub past-listed : n ≡ length (moved_bytes s (listed_from s a links 1))
    past-listed = let r = listed-room in v.past (rw (length_mid first mid (omega arith)) (omega arith))

    pub wrote_listed : (out : List ℕ) → mid ≡ blit at (replicate (first - at) 0) out
        → Wrote at (moved_blocks s first (listed_from s a links 1)) (first + n) out (put_mid first (length mid - first) mid ys)
    wrote_listed out m = rw past-listed (wrote_moved (listed_from s a links 1) q (some-listed s a links h) m (lent_is first _ mid ys v.is))

-- ---- an SD
module _ (s : List ℕ) (x at sd : ℕ) {out mid ys : List ℕ} {n : ℕ} (h : at ≤ sd) (m : mid ≡ blit at (replicate (sd - at) 0) out)
    (v : Anew s kind_sd x (mid_of sd (length mid - sd) mid) ys n) where
  pub wrote_sd : Wrote at (block sd (sd_bytes s x) ∷ []) (sd + (24 + n)) out (put_mid sd (length mid - sd) mid ys)
  wrote_sd =
      let l : 24 + n ≡ length (sd_bytes s x) = let e = v.here in omega (arith, length_framed kind_sd (part (x + 24) (size_at s x - 24) s)) in
      rw l (wrote_block (block sd (sd_bytes s x)) h (lent_is sd _ mid ys v.is ∙ ap (blit sd (sd_bytes s x)) m))

pub sd_long : (s : List ℕ) (x n : ℕ) → n ≡ length (part (x + 24) (size_at s x - 24) s) → length (sd_bytes s x) ≡ 24 + n
sd_long s x n e = length_framed kind_sd (part (x + 24) (size_at s x - 24) s) ∙ ap (λ (k : ℕ). 24 + k) (sym e)

-- ---- a column
module _ (s columns memo : List ℕ) (k : ℕ) where
  pub no_signal_lem : get_or columns (8 * k + 6) 0 ≡ 0 → signal_in s columns memo k ≡ []
  unfolding signal_in
  no_signal_lem z = sym (eq_yes _ _ _ _ z refl)

  pub some_signal : (get_or columns (8 * k + 6) 0 ≡ 0 → ⊥)
      → signal_in s columns memo k ≡ block (get_or memo (placed_at + 3 * k + 2) 0) (sd_bytes s (link_at s (get_or columns (8 * k) 0) 5)) ∷ []
  unfolding signal_in
  some_signal z = sym (eq_no _ _ _ _ z refl)

module _ {s columns memo : List ℕ} {k at e : ℕ} (q : DataRoom s columns memo k at e) {a links : ℕ} (is : a ≡ link_at s (get_or columns (8 * k + 2) 0) 2)
    (has : links ≡ links_of s a) where
  listed_is : listed_from s a links 1 ≡ listed_by s (get_or columns (8 * k + 2) 0)
  listed_is = rw (has, is)

  both_ordered : Ordered at (moved_of s columns memo k ++ signal_in s columns memo k) e
  unfolding data_in
  both_ordered = q.ordered

  pub moved_ready : MovedRoom s at (get_or memo (placed_at + 3 * k + 1) 0) (listed_from s a links 1) e
  moved_ready = rw listed_is (record { ranges = q.ranges; ordered = ordered-first at (moved_of s columns memo k) _ e both_ordered })

  module _ {to : ℕ} {out mid : List ℕ} (v : Wrote at (moved_blocks s (get_or memo (placed_at + 3 * k + 1) 0) (listed_from s a links 1)) to out mid) where
    wrote : Wrote at (moved_of s columns memo k) to out mid
    wrote = rw listed_is at v

    after-moved : Ordered to (signal_in s columns memo k) e
    after-moved = rw wrote.end (ordered_back at (moved_of s columns memo k) _ e both_ordered)

    pub wrote_only : get_or columns (8 * k + 6) 0 ≡ 0 → Wrote at (data_in s columns memo k) to out mid
    unfolding data_in
    wrote_only z = wrote_append e wrote (rw (no_signal_lem s columns memo k z) (wrote_none to mid)) both_ordered

    module _ (z : get_or columns (8 * k + 6) 0 ≡ 0 → ⊥) {x : ℕ} (led : x ≡ link_at s (get_or columns (8 * k) 0) 5) where
      pub signal_room : e ≡ length out → (to ≤ get_or memo (placed_at + 3 * k + 2) 0)
          × (get_or memo (placed_at + 3 * k + 2) 0 + length (sd_bytes s x) ≤ length mid)
      unfolding Ordered
      signal_room same =
          let l : length mid ≡ e = ap length wrote.bytes ∙ length-blit at _ out ∙ sym same in
          rw (l, led) (rw (some_signal s columns memo k z) at after-moved)

      pub wrote_both : {r : ℕ} {last : List ℕ} → Wrote to (block (get_or memo (placed_at + 3 * k + 2) 0) (sd_bytes s x) ∷ []) r mid last
          → Wrote at (data_in s columns memo k) r out last
      unfolding data_in
      wrote_both w = wrote_append e wrote (rw (some_signal s columns memo k z) (rw led at w)) both_ordered

-- ---- all columns: what is left to write, written, gives the whole
module _ (s columns memo : List ℕ) where
  data_open : (k n : ℕ) → k < n → data_from s columns memo k (n - k) ≡ data_in s columns memo k ++ data_from s columns memo (k + 1) (n - (k + 1))
  unfolding data_from
  data_open k n h = let e : n - k ≡ suc (n - (k + 1)) = omega arith in rw e

  data_none : (k n : ℕ) → n ≤ k → data_from s columns memo k (n - k) ≡ []
  unfolding data_from
  data_none k n h = let e : n - k ≡ 0 = omega arith in rw e

pub record Writing (s columns memo : List ℕ) (n at : ℕ) (out₀ : List ℕ) (k p : ℕ) (out : List ℕ) : Type 0 where
  pub few : k ≤ n
  pub same : length out ≡ length out₀
  pub ordered : Ordered p (data_from s columns memo k (n - k)) (length out)
  pub rest : (r : ℕ) (last : List ℕ) → Wrote p (data_from s columns memo k (n - k)) r out last → Wrote at (data_from s columns memo 0 n) r out₀ last

module _ {s columns memo : List ℕ} {n at : ℕ} where
  pub writing_begin : (out : List ℕ) → DataReady s columns memo n at (length out) → Writing s columns memo n at out 0 at out
  writing_begin out d =
      let e : n - 0 ≡ n = omega arith in
      record { few = omega arith; same = refl; ordered = rw e d.ordered; rest = rw e (λ r last v. v) }

  module _ {out₀ : List ℕ} {k p : ℕ} {out : List ℕ} (t : Writing s columns memo n at out₀ k p out) where
    pub writing_end : n ≤ k → Wrote at (data_from s columns memo 0 n) p out₀ out
    writing_end h = t.rest p out (rw (data_none s columns memo k n h) (wrote_none p out))

    module _ (h : k < n) where
      opened : Ordered p (data_in s columns memo k ++ data_from s columns memo (k + 1) (n - (k + 1))) (length out)
      opened = rw (← data_open s columns memo k n h) t.ordered

      pub column-room : {e : ℕ} → DataReady s columns memo n at e → DataRoom s columns memo k p (length out)
      column-room d =
          let a = d.words in
          let b = d.places in
          record {
            words = omega arith;
            places = omega arith;
            ranges = d.ranges k h;
            ordered = ordered-first p (data_in s columns memo k) _ (length out) opened;
          }

      pub writing_on : {r : ℕ} {last : List ℕ} → Wrote p (data_in s columns memo k) r out last → Writing s columns memo n at out₀ (k + 1) r last
      writing_on {r} {last} v =
          let l : length last ≡ length out = ap length v.bytes ∙ length-blit p _ out in
          record {
            few = omega arith;
            same = l ∙ t.same;
            ordered = rw (l, v.end) (ordered_back p (data_in s columns memo k) _ (length out) opened);
            rest = λ x y u. t.rest x y (rw (data_open s columns memo k n h) (wrote_append (length out) v u opened));
          }
