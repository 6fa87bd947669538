-- The counts out of the words are those of the report.
use Rattle.std.specs.Prelude.{◌≡◌, ℕ, zero, suc, ◌+◌, ◌*◌, ◌<◌, ◌≤◌, Bool, true, false, List, [], ◌∷◌, length, ◌≢◌, slice_index}
use Rattle.std.proofs.Math.Path.{refl, sym}
use Rattle.std.proofs.Common.{ap, ◌∙◌, add-zero, zero-add, arith}
use Rattle.base.specs.Choice.{pick, if_eq}
use Rattle.base.specs.ChoiceLaws.{eq_yes, eq_no}
use Rattle.mdf.specs.Group.{is_storage}
use Rattle.plan.specs.Columns.{SrcGroup, Column, Signal, no_signal, signal_data, size_of_signal}
use Rattle.plan.specs.Layout.{column_width, column_blocks}
use Rattle.work_words.specs.PlanWords.{column_words, columns_words, time_word, signal_word}
use Rattle.result.specs.Result.{source_groups_of, time_columns, signal_blocks, blocks_written}
use Rattle.result.specs.Guarantee.{In, here, there}
use Rattle.planning.specs.Items.{item, items_from, flat, groups_in}
use Rattle.planning.specs.ItemLaws.{item-cn, item-cg, item-dg}
use Rattle.planning.specs.Bare.{bares}
use Rattle.planning.specs.Stage.{Stand}
use Rattle.planning.specs.TimeWordLaws.{stand-rest}
use Rattle.writing.specs.Sum.{sum_of}
use Rattle.writing.specs.Counted.{group_at, time_at, data_blocks_at, signal_at, blocks_at}

-- ---- groups
groups_bare : (s : List ℕ) (gs : List SrcGroup) → source_groups_of s (bares gs) ≡ source_groups_of s gs
unfolding source_groups_of bares
groups_bare s [] = refl
groups_bare s (g ∷ gs) = ap (λ n. pick (is_storage s g.at) 0 1 + n) (groups_bare s gs)

-- what a mark other than 1 counts
abbrev counts : List ℕ → ℕ → ℕ → ℕ
counts s a m = if_eq m 1 (pick (is_storage s a) 0 1) 0

not_counted : (s : List ℕ) (a m : ℕ) → (m ≢ 1) → counts s a m ≡ 0
not_counted s a m h = sym (eq_no _ _ _ _ h refl)

is_counted : (s : List ℕ) (a : ℕ) → counts s a 1 ≡ pick (is_storage s a) 0 1
is_counted s a = sym (eq_yes _ _ _ _ refl refl)

groups_from_lem : (s w : List ℕ) (i n d g : ℕ) → sum_of (group_at s w) i n ≡ source_groups_of s (flat w d g (items_from w i n))
unfolding sum_of source_groups_of flat items_from group_at
groups_from_lem s w i zero d g = refl
groups_from_lem s w i (suc n) d g = go (slice_index w (1536 + i)) refl (λ a b. groups_from_lem s w (i + 1) n a b)
  where
    go : (m : ℕ) → slice_index w (1536 + i) ≡ m
        → ((a b : ℕ) → sum_of (group_at s w) (i + 1) n ≡ source_groups_of s (flat w a b (items_from w (i + 1) n)))
        → if_eq (slice_index w (1536 + i)) 1 (pick (is_storage s (slice_index w i)) 0 1) 0 + sum_of (group_at s w) (i + 1) n
        ≡ source_groups_of s (flat w d g (item (slice_index w (1536 + i)) (slice_index w i) ∷ items_from w (i + 1) n))
    go zero e r =
        rw (e, item-cn 0 (slice_index w i) refl, not_counted s (slice_index w i) 0 (λ z. omega (arith, z)), zero-add) (r d g)
    go (suc zero) e r =
        rw (e, item-cg 1 (slice_index w i) refl, is_counted s (slice_index w i)) (ap (λ k. pick (is_storage s (slice_index w i)) 0 1 + k) (r d (g + 1)))
    go (suc (suc m)) e r =
        let x = item-dg (suc (suc m)) (slice_index w i) (λ z. omega (arith, z)) (λ z. omega (arith, z)) in
        rw (e, x, not_counted s (slice_index w i) (suc (suc m)) (λ z. omega (arith, z)), zero-add) (r (slice_index w i) g)

-- the groups of a recording that stand in words
pub groups_report : (s w : List ℕ) (n : ℕ) (gs : List SrcGroup) → groups_in w n ≡ bares gs → sum_of (group_at s w) 0 n ≡ source_groups_of s gs
unfolding groups_in
groups_report s w n gs e = groups_from_lem s w 0 n 0 0 ∙ ap (source_groups_of s) e ∙ groups_bare s gs

-- ---- columns
module _ (s : List ℕ) (size : ℕ) (w : List ℕ) where
  time_word_lem : (k : ℕ) (b : Bool) → slice_index w (8 * k + 4) ≡ time_word b → time_at w k ≡ pick b 1 0
  unfolding time_at
  time_word_lem k true e = sym (eq_yes _ _ _ _ e refl)
  time_word_lem k false e = sym (eq_no _ _ _ _ (λ z. omega (arith, z, e)) refl)

  pub times-report : (m k : ℕ) (cs : List Column) → Stand w m k cs → sum_of (time_at w) k (length cs) ≡ time_columns cs
  unfolding sum_of time_columns columns_words column_words
  times-report m k [] h = refl
  times-report m k (c ∷ cs) h =
      let e = time_word_lem k c.is_time_lem (h.at 4 (omega arith)) in
      let r = times-report (m + size_of_signal c.signal_of) (k + 1) cs (stand-rest w m k c cs h) in
      rw (e, r)

  data_blocks-at : (m k : ℕ) (c : Column) (cs : List Column) → Stand w m k (c ∷ cs) → data_blocks_at s size w k ≡ column_blocks s size c
  unfolding data_blocks_at column_blocks column_width columns_words column_words
  data_blocks-at m k c cs h =
      let x = rw (add-zero (8 * k)) at (h.at 0 (omega arith)) in
      let y = h.at 1 (omega arith) in
      let z = h.at 3 (omega arith) in
      rw (x, y, z)

  signal_word_lem : (m k : ℕ) (g : Signal) → slice_index w (8 * k + 6) ≡ signal_word m g → signal_at w k ≡ signal_blocks g
  unfolding signal_at
  signal_word_lem m k no_signal e = sym (eq_yes _ _ _ _ e refl)
  signal_word_lem m k (signal_data fs) e = sym (eq_no _ _ _ _ (λ z. omega (arith, z, e)) refl)

  pub blocks-report : (m k : ℕ) (cs : List Column) → Stand w m k cs → sum_of (blocks_at s size w) k (length cs) ≡ blocks_written s size cs
  unfolding sum_of blocks_written blocks_at columns_words column_words
  blocks-report m k [] h = refl
  blocks-report m k (c ∷ cs) h =
      let d = data_blocks-at m k c cs h in
      let e = signal_word_lem m k c.signal_of (h.at 6 (omega arith)) in
      let r = blocks-report (m + size_of_signal c.signal_of) (k + 1) cs (stand-rest w m k c cs h) in
      rw (d, e, r)

  -- no column has too many blocks
  pub blocks-few : (m k : ℕ) (cs : List Column) → Stand w m k cs → ((c : Column) → In c cs → column_blocks s size c ≤ 4294967295)
      → (i : ℕ) → i < length cs → data_blocks_at s size w (k + i) ≤ 4294967295
  blocks-few m k [] h f i l = absurd (omega arith)
  blocks-few m k (c ∷ cs) h f zero l =
      let e : k + 0 ≡ k = omega arith in
      rw (e, data_blocks-at m k c cs h) (f c here)
  blocks-few m k (c ∷ cs) h f (suc i) l =
      let e : k + suc i ≡ k + 1 + i = omega arith in
      rw e (blocks-few (m + size_of_signal c.signal_of) (k + 1) cs (stand-rest w m k c cs h) (λ d j. f d (there j)) i (omega arith))
