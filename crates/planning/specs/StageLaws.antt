-- Laws of the data stage: what is left of the columns gives what all of them give.
use Rattle.std.specs.Prelude.{ℕ, ◌+◌, ◌*◌, ◌≤◌, ◌<◌, List, [], ◌∷◌, true, false, ◌≡◌, refl, length, get_or, ltb, Ok, Err, ⊤}
use Rattle.std.proofs.Common.{sym, ◌∙◌, add-zero, arith}
use borrow.Author.Tests.{eq-eqb, ne_eqb, lt-ltb, le-ltb}
use Rattle.base.specs.Choice.{pick}
use Rattle.base.specs.ChoiceLaws.{lt_yes, lt_no}
use Rattle.base.specs.Checked.{refused}
use Rattle.plan.specs.Channel.{width}
use Rattle.plan.specs.Columns.{Column, size_of_signal}
use Rattle.work_words.specs.PlanWords.{column_words, columns_words}
use Rattle.plan.specs.Geometry.{block_count}
use Rattle.plan.specs.Data.{is_nonempty, any_nonempty, blocks_in}
use Rattle.fields.specs.declared.refusal.Refusal.TheVariants.{OverLimit}
use Rattle.planning.specs.Stage.{Stand, nonempty_in, BlocksStage}
use Rattle.planning.specs.TimeWordLaws.{stand-rest}

-- ---- the words of column k
pub record Reads (w : List ℕ) (k : ℕ) (c : Column) : Type 0 where
  pub channel : get_or w (8 * k) 0 ≡ c.channel
  pub group : get_or w (8 * k + 1) 0 ≡ c.group.at
  pub of_dg : get_or w (8 * k + 2) 0 ≡ c.group.data_group.at
  pub records : get_or w (8 * k + 3) 0 ≡ c.group.records

pub stand_reads : (w : List ℕ) (n k : ℕ) (c : Column) (cs : List Column) → Stand w n k (c ∷ cs) → Reads w k c
unfolding columns_words column_words
stand_reads w n k c cs h =
    record {
      channel = rw (add-zero (8 * k)) at (h.at 0 (omega arith));
      group = h.at 1 (omega arith);
      of_dg = h.at 2 (omega arith);
      records = h.at 3 (omega arith);
    }

-- ---- a loop over columns, for what it computes of them
pub record LeftOf {A : Type 0} (F : List Column → A) (w : List ℕ) (nc k : ℕ) (cs : List Column) : Type 0 where
  pub found : ℕ
  pub columns : List Column
  pub stand : Stand w found k columns
  pub long : length columns + k ≡ nc
  pub same : F columns ≡ F cs

pub record LeftIn {A : Type 0} (F : List Column → A) (w : List ℕ) (nc k : ℕ) : Type 0 where
  pub up_to : k ≤ nc
  pub now : (n : ℕ) (cs : List Column) → Stand w n 0 cs → length cs ≡ nc → LeftOf F w nc k cs

pub left_begin : {A : Type 0} {F : List Column → A} {w : List ℕ} {nc : ℕ} → LeftIn F w nc 0
left_begin = record { up_to = omega arith; now = λ n cs h l. record { found = n; columns = cs; stand = h; long = omega arith; same = refl } }

module _ {A : Type 0} {F : List Column → A} {w : List ℕ} {nc k : ℕ} (t : LeftIn F w nc k) where
  pub left_end : nc ≤ k → (n : ℕ) (cs : List Column) → Stand w n 0 cs → length cs ≡ nc → F [] ≡ F cs
  left_end h n cs i l = go (t.now n cs i l).columns (t.now n cs i l).long (t.now n cs i l).same
    where
      go : (ds : List Column) → length ds + k ≡ nc → F ds ≡ F cs → F [] ≡ F cs
      go [] q e = e
      go (d ∷ ds) q e = absurd (omega arith)

  module _ (h : k < nc) where
    pub left_stop : (v : A) → ((c : Column) (cs : List Column) → Reads w k c → v ≡ F (c ∷ cs))
        → (n : ℕ) (cs : List Column) → Stand w n 0 cs → length cs ≡ nc → v ≡ F cs
    left_stop v by n cs i l =
        go (t.now n cs i l).columns (t.now n cs i l).long (t.now n cs i l).stand (t.now n cs i l).same
      where
        go : {m : ℕ} (ds : List Column) → length ds + k ≡ nc → Stand w m k ds → F ds ≡ F cs → v ≡ F cs
        go [] q j e = absurd (omega arith)
        go {m} (d ∷ ds) q j e = by d ds (stand_reads w m k d ds j) ∙ e

    pub left-next : ((c : Column) (cs : List Column) → Reads w k c → F (c ∷ cs) ≡ F cs) → LeftIn F w nc (k + 1)
    left-next by =
        record {
          up_to = omega arith;
          now = λ n cs i l. go cs (t.now n cs i l).columns (t.now n cs i l).long (t.now n cs i l).stand (t.now n cs i l).same;
        }
      where
        go : (cs : List Column) {m : ℕ} (ds : List Column) → length ds + k ≡ nc → Stand w m k ds → F ds ≡ F cs → LeftOf F w nc (k + 1) cs
        go cs [] q j e = absurd (omega arith)
        go cs {m} (d ∷ ds) q j e =
            record {
              found = m + size_of_signal d.signal_of;
              columns = ds;
              stand = stand-rest w m k d ds j;
              long = omega arith;
              same = sym (by d ds (stand_reads w m k d ds j)) ∙ e;
            }

-- ---- a nonempty column of the DG at d
module _ (s w : List ℕ) (k d : ℕ) {x : ℕ} (e : x ≡ get_or w (8 * k + 2) 0) where
  pub nonempty_other : (x ≡ d → ⊥) → false ≡ nonempty_in s w k d
  unfolding nonempty_in
  nonempty_other h = rw (← e, ne_eqb x d h)

  module _ (h : x ≡ d) {c g y : ℕ} (i : c ≡ get_or w (8 * k) 0) (j : g ≡ get_or w (8 * k + 1) 0) (l : y ≡ width s g c) where
    pub nonempty_narrow : y ≤ 0 → false ≡ nonempty_in s w k d
    unfolding nonempty_in
    nonempty_narrow q = rw (← e, eq-eqb x d h, ← i, ← j, ← l, le-ltb 0 y q)

    pub nonempty_by : 0 < y → {r : ℕ} → r ≡ get_or w (8 * k + 3) 0 → ltb 0 r ≡ nonempty_in s w k d
    unfolding nonempty_in
    nonempty_by q u = rw (← e, eq-eqb x d h, ← i, ← j, ← l, lt-ltb 0 y q, u)

pub nonempty_open : (s w : List ℕ) (k d : ℕ) (c : Column) (cs : List Column) → Reads w k c
    → any_nonempty s d (c ∷ cs) ≡ pick (nonempty_in s w k d) true (any_nonempty s d cs)
unfolding any_nonempty is_nonempty nonempty_in
nonempty_open s w k d c cs h = rw (h.channel, h.group, h.of_dg, h.records)

-- ---- the number of blocks
blocks-over : (s : List ℕ) (size : ℕ) (c : Column) (cs : List Column) → 4294967295 < block_count size (width s c.group.at c.channel) c.group.records
    → refused 19 c.channel ≡ blocks_in s size (c ∷ cs)
unfolding blocks_in
blocks-over s size c cs h = lt_yes _ _ _ _ h refl

blocks-few : (s : List ℕ) (size : ℕ) (c : Column) (cs : List Column) → block_count size (width s c.group.at c.channel) c.group.records ≤ 4294967295
    → blocks_in s size cs ≡ blocks_in s size (c ∷ cs)
unfolding blocks_in
blocks-few s size c cs h = lt_no _ _ _ _ h refl

module _ (s : List ℕ) (size : ℕ) {w : List ℕ} {nc k : ℕ} (t : LeftIn (blocks_in s size) w nc k) where
  pub blocks_end_lem : {u : ⊤} → nc ≤ k → BlocksStage s w nc size (Ok u)
  unfolding blocks_in
  blocks_end_lem h = record { is = left_end t h }

  module _ (h : k < nc) {c g r y m : ℕ} (i : c ≡ get_or w (8 * k) 0) (j : g ≡ get_or w (8 * k + 1) 0) (l : r ≡ get_or w (8 * k + 3) 0)
      (u : y ≡ width s g c) (v : m ≡ block_count size y r) where
    number : (a : Column) → Reads w k a → m ≡ block_count size (width s a.group.at a.channel) a.group.records
    number a z = v ∙ rw (u, i, j, l, z.channel, z.group, z.records)

    pub blocks_stop : 4294967295 < m → BlocksStage s w nc size (Err (OverLimit c))
    blocks_stop q =
        record {
          is = left_stop t h (refused 19 c) (λ a cs z.
              let n = number a z in
              rw (i, z.channel) (blocks-over s size a cs (rw n at q)));
        }

    pub blocks-next : m ≤ 4294967295 → LeftIn (blocks_in s size) w nc (k + 1)
    blocks-next q = left-next t h (λ a cs z. let n = number a z in sym (blocks-few s size a cs (rw n at q)))
