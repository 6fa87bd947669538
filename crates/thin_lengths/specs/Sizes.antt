-- The bytes of a whole file: 168, its copied blocks, its columns, its attachments, each up to the next multiple of 8. What the copies and attachments
-- were made of is good, without repetition.
use Prim.{Unit, tt}
use Rattle.std.specs.Prelude.{ℕ, suc, ◌+◌, ◌-◌, ◌≤◌, ◌<◌, List, [], ◌++◌, ◌≡◌, refl}
use Rattle.std.proofs.Common.{ap, subst, ◌∙◌, arith}
use Rattle.mdf.specs.Block.{links_at, link_at, first_link}
use Rattle.plan.specs.Columns.{Column}
use Rattle.plan.specs.Copies.{Copies, copies, lost_links, most_copies, column_links}
use Rattle.plan.specs.Geometry.{align8}
use Rattle.plan.specs.Layout.{Sizes, places_end, sizes_of, md_size, Layout, past_copies}
use Rattle.plan.specs.Rules.{Rules}
use Rattle.result.specs.Member.{In}
use Rattle.result.specs.Recording.{attached_from}
use Rattle.result.specs.Result.{memo_of}
use Rattle.copies_laws.specs.Alike.{froms, froms-append}
use Rattle.copies_laws.specs.LayoutLaws.{LaidOut}
use Rattle.payload_laws.specs.UnitLaws.{IsUnit}
use Rattle.thin.specs.Place.{most_kept, kept_sizes}
use Rattle.thin_laws.specs.LaidLaws.{LaidKept}
use Rattle.thin_lengths.specs.Sums.{sum, sum-append, Distinct, distinct_append, in_parts}
use Rattle.thin_lengths.specs.Grew.{taken, Grew, grew_then, none_in, root_grew, columns_grew, past_grew}
use Rattle.thin_lengths.specs.GrewAt.{GrewAt, moved_grew}
use Rattle.thin_lengths.specs.Lengths.{OnEight, structure_sum, data_sum, structures_end_lem, structures_on, places_past, places_eight, sizes_eights, kept_eights}

-- addresses whose links are again such, from the first on; at those of attachments
pub record Closed (s : List ℕ) (good at : ℕ → Type 0) : Type 0 where
  pub links : (a : ℕ) → good a → (a ≡ 0 → ⊥) → (i : ℕ) → lost_links s a ≤ i → i < links_at s a → good (link_at s a i)
  pub past : (a : ℕ) → good a → (a ≡ 0 → ⊥) → good (first_link s a)
  pub others : (a : ℕ) → at a → (a ≡ 0 → ⊥) → (i : ℕ) → suc i < links_at s a → good (link_at s a (suc i))
  pub next : (a : ℕ) → at a → (a ≡ 0 → ⊥) → at (first_link s a)

-- all that the file's header and columns lead to
pub record Begun (s : List ℕ) (good at : ℕ → Type 0) (cs : List Column) : Type 0 where
  pub comment : good (link_at s 64 5)
  pub history : good (link_at s 64 1)
  pub attachments : at (link_at s 64 3)
  pub columns : (c : Column) → In c cs → (a : ℕ) → In a (column_links s c) → good a

-- every address
abbrev pub Any : ℕ → Type 0
Any a = Unit {0}

pub all_closed : (s : List ℕ) → Closed s Any Any
all_closed s = record { links = λ a g n i h l. tt; past = λ a g n. tt; others = λ a p n i l. tt; next = λ a p n. tt }

pub all-begun : (s : List ℕ) (cs : List Column) → Begun s Any Any cs
all-begun s cs = record { comment = tt; history = tt; attachments = tt; columns = λ c i a j. tt }

-- what was copied and moved
pub record Moved (good at : ℕ → Type 0) (l : Layout) : Type 0 where
  pub distinct : Distinct (froms (memo_of l))
  pub each : (b : ℕ) → In b (froms (memo_of l)) → good b × (b ≡ 0 → ⊥)
  pub distinct_at : Distinct (attached_from l.attached.attachments)
  pub each_at : (b : ℕ) → In b (attached_from l.attached.attachments) → at b × (b ≡ 0 → ⊥)

-- their bytes
unfoldable pub moved_sum : List ℕ → Layout → ℕ
moved_sum s l = sum (taken s) (froms (memo_of l)) + sum (taken s) (attached_from l.attached.attachments)

-- ---- copies, in one run or in two

-- all copies so far, which with n other bytes end at the next multiple of 8
record Copied (good : ℕ → Type 0) (s : List ℕ) (n : ℕ) (m : Copies) : Type 0 where
  ends : align8 m.next ≡ n + sum (taken s) (froms m.memo)
  distinct : Distinct (froms m.memo)
  each : (b : ℕ) → In b (froms m.memo) → good b × (b ≡ 0 → ⊥)

start-on : OnEight 168
unfolding align8
start-on = refl

copied-first : {good : ℕ → Type 0} {s : List ℕ} {m : Copies} → Grew good s [] (copies [] 168) m → Copied good s 168 m
copied-first {good} {s} {m} g =
    let memo : m.memo ≡ g.new = g.memo in
    record {
      ends = rw memo (g.next ∙ ap (λ (x : ℕ). x + sum (taken s) (froms g.new)) start-on);
      distinct = rw memo g.distinct;
      each = λ b i. g.each b (rw memo at i);
    }

-- more copies, k bytes behind
copied_more : {good : ℕ → Type 0} {s : List ℕ} {n : ℕ} {m m' : Copies} (k e : ℕ) → Copied good s n m → e ≡ align8 m.next + k → OnEight e
    → Grew good s [] (copies m.memo e) m' → Copied good s (n + k) m'
copied_more {good} {s} {n} {m} {m'} k e c q h g =
    let memo : m'.memo ≡ m.memo ++ g.new = g.memo in
    let both : froms m'.memo ≡ froms m.memo ++ froms g.new = ap froms memo ∙ froms-append m.memo g.new in
    let next : align8 m'.next ≡ align8 e + sum (taken s) (froms g.new) = g.next in
    record {
      ends = rw (both, sum-append (taken s) (froms m.memo) (froms g.new)) (omega (arith, c.ends));
      distinct = rw both (distinct_append (froms m.memo) (froms g.new) c.distinct g.distinct (λ b i j. none_in b m.memo (g.fresh b j) i));
      each = λ b i. in_parts (froms m.memo) (froms g.new) (subst (In b) both i) (λ j. c.each b j) (λ j. g.each b j);
    }

-- ---- then k bytes, then attachments
record All (good at : ℕ → Type 0) (s : List ℕ) (l : Layout) (n : ℕ) : Type 0 where
  moved : Moved good at l
  bytes : l.attached.made.next ≡ n + moved_sum s l

together : {good at : ℕ → Type 0} {s : List ℕ} {n : ℕ} (l : Layout) (m : Copies) (d k : ℕ) → Copied good s n m → d ≡ align8 m.next + k → OnEight d
    → GrewAt good at s (record { attachments = []; made = copies m.memo d }) l.attached → All good at s l (n + k)
unfolding moved_sum
together {good} {at} {s} {n} l m d k c q h g =
    let memo : memo_of l ≡ m.memo ++ g.new = g.memo in
    let both : froms (memo_of l) ≡ froms m.memo ++ froms g.new = ap froms memo ∙ froms-append m.memo g.new in
    let ats : l.attached.attachments ≡ g.more = g.attachments in
    let ends : OnEight l.attached.made.next = g.whole h in
    let next : align8 l.attached.made.next ≡ align8 d + sum (taken s) (froms g.new) + sum (taken s) (attached_from g.more) = g.next in
    record {
      moved = record {
        distinct = rw both (distinct_append (froms m.memo) (froms g.new) c.distinct g.distinct (λ b i j. none_in b m.memo (g.fresh b j) i));
        each = λ b i. in_parts (froms m.memo) (froms g.new) (subst (In b) both i) (λ j. c.each b j) (λ j. g.each b j);
        distinct_at = rw ats g.distinct_at;
        each_at = λ b i. g.each_at b (rw ats at i);
      };
      bytes = rw (both, ats, sum-append (taken s) (froms m.memo) (froms g.new)) (omega (arith, c.ends));
    }

-- ---- whole files
past-on : (m : Copies) → OnEight (past_copies m)
unfolding past_copies align8
past-on m = omega arith

past_is : (m : Copies) → past_copies m ≡ align8 m.next
unfolding past_copies
past_is m = refl

-- a file of this call
module _ {u : ℕ} {s : List ℕ} {cs : List Column} {l : Layout} (o : LaidKept u s cs l) {good at : ℕ → Type 0} (c : Closed s good at) (b : Begun s good at cs) where
  abbrev zs : List Sizes
  zs = kept_sizes cs

  copies_are : Copied good s 168 l.metadata
  copies_are =
      copied-first (grew_then (grew_then (root_grew s good c.links most_kept _ _ _ b.comment o.comment)
      (past_grew s good c.links good (λ a g n. g) c.past most_kept _ _ _ b.history o.past))
      (columns_grew s good c.links most_kept cs _ _ b.columns o.metadata))

  structure-on : OnEight l.metadata_end_lem
  structure-on = rw o.metadata_end_lem (structures_on (past_copies l.metadata) zs (kept_eights cs) (past-on l.metadata))

  structure-ends : l.metadata_end_lem ≡ align8 l.metadata.next + structure_sum zs
  structure-ends = omega (arith, o.metadata_end_lem, structures_end_lem (past_copies l.metadata) zs, past_is l.metadata)

  all_are : (k : ℕ) → places_end u l.metadata_end_lem zs ≡ align8 l.metadata.next + k → OnEight (places_end u l.metadata_end_lem zs) → All good at s l (168 + k)
  all_are k q h =
      together l l.metadata (places_end u l.metadata_end_lem zs) k copies_are q h
      (moved_grew s good c.links at c.others c.next most_kept _ _ _ b.attachments o.attached)

  -- with any unit
  pub kept-sized : IsUnit u → Moved good at l × (168 + structure_sum zs + data_sum zs + moved_sum s l ≤ l.file_size_lem)
  kept-sized i =
      let p = places_past u i l.metadata_end_lem zs structure-on in
      let k : ℕ = places_end u l.metadata_end_lem zs - align8 l.metadata.next in
      let a = all_are k (omega (arith, p.0, structure-ends)) p.1 in
      (a.moved, omega (arith, a.bytes, o.file_size_lem, p.0, structure-ends))

-- with the unit 8
pub kept_eight : {s : List ℕ} {cs : List Column} {l : Layout} → LaidKept 8 s cs l → {good at : ℕ → Type 0} → Closed s good at → Begun s good at cs
    → Moved good at l × (l.file_size_lem ≡ 168 + structure_sum (kept_sizes cs) + data_sum (kept_sizes cs) + moved_sum s l)
kept_eight {s} {cs} {l} o c b =
    let p = places_eight l.metadata_end_lem (kept_sizes cs) (structure-on o c b) in
    let q = places_past 8 (record { least = omega arith; most = omega arith; eights = refl }) l.metadata_end_lem (kept_sizes cs) (structure-on o c b) in
    let a = all_are o c b (structure_sum (kept_sizes cs) + data_sum (kept_sizes cs)) (omega (arith, structure-ends o c b)) q.1 in
    (a.moved, omega (arith, a.bytes, o.file_size_lem))

-- the converter's, with n bytes of history text
module _ {r : Rules} {s : List ℕ} {size n : ℕ} {cs : List Column} {l : Layout} (o : LaidOut r s size n cs l) where
  abbrev ys : List Sizes
  ys = sizes_of s size cs

  history_is : Copied Any s 168 l.past.made
  history_is =
      copied-first (grew_then (root_grew s Any (all_closed s).links most_copies _ _ _ tt o.comment)
      (past_grew s Any (all_closed s).links Any (λ a g n. g) (all_closed s).past most_copies _ _ _ tt o.past))

  entry-on : OnEight (l.fh + 56)
  unfolding align8 md_size
  entry-on = omega (arith, o.md, o.fh)

  copies-all : Copied Any s (168 + (md_size n + 56)) l.metadata
  copies-all =
      copied_more (md_size n + 56) (l.fh + 56) history_is (omega (arith, o.md, o.fh)) entry-on
      (columns_grew s Any (all_closed s).links most_copies cs _ _ (λ d i a j. tt) o.metadata)

  laid_on : OnEight l.metadata_end_lem
  laid_on = rw o.metadata_end_lem (structures_on (past_copies l.metadata) ys (sizes_eights s size cs) (past-on l.metadata))

  laid-ends : l.metadata_end_lem ≡ align8 l.metadata.next + structure_sum ys
  laid-ends = omega (arith, o.metadata_end_lem, structures_end_lem (past_copies l.metadata) ys, past_is l.metadata)

  pub laid-sized : IsUnit r.unit → 168 + (md_size n + 56) + structure_sum ys + data_sum ys + moved_sum s l ≤ l.file_size_lem
  laid-sized i =
      let p = places_past r.unit i l.metadata_end_lem ys laid_on in
      let k : ℕ = places_end r.unit l.metadata_end_lem ys - align8 l.metadata.next in
      let a = together l l.metadata (places_end r.unit l.metadata_end_lem ys) k copies-all (omega (arith, p.0, laid-ends)) p.1
      (moved_grew s Any (all_closed s).links Any (all_closed s).others (all_closed s).next most_copies _ _ _ tt o.attached) in
      omega (arith, a.bytes, o.file_size_lem, p.0, laid-ends)
