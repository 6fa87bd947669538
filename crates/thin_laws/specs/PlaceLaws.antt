-- Where the blocks of a placed column lie in a file with columns taken out.
use Rattle.std.specs.Prelude.{ℕ, ◌+◌, ◌*◌, ◌^◌, ◌≤◌, ◌<◌, List, [], ◌∷◌, ◌≡◌, refl}
use Rattle.std.proofs.Math.Option.{Option, none, some}
use Rattle.std.proofs.Common.{ap, subst, le_refl, arith}
use Rattle.mdf.specs.Chain.{Fragment}
use Rattle.mdf.specs.Records.{size_of}
use Rattle.plan.specs.Columns.{Column, signal_data}
use Rattle.plan.specs.Layout.{
  Sizes,
  first_at,
  blocks_end,
  signal_at,
  signal_end,
  past_data,
  places_from,
  structures_end,
  places_end,
  Placed,
  dl_of,
  signal_sizes,
  with_places,
  Layout,
  past_copies,
}
use Rattle.result.specs.Guarantee.{In, here, there, columns_placed}
use Rattle.copies_laws.specs.Laid.{align_past, laid-ends}
use Rattle.copies_laws.specs.AttachLaws.{laid_at_ends}
use Rattle.payload_laws.specs.UnitLaws.{IsUnit, first_past, signal_past}
use Rattle.thin.specs.Place.{blocks_of, kept_size, kept_sizes}
use Rattle.thin.specs.TakenOut.{most_file}
use Rattle.thin_laws.specs.LaidLaws.{placed_kept, LaidKept, copies-laid, attachments-laid}
use Rattle.thin_laws.specs.OrderLaws.{past-copies}

-- ---- by sizes
pub structures_grow : (a : ℕ) (zs : List Sizes) → a ≤ structures_end a zs
unfolding structures_end
structures_grow a [] = le_refl a
structures_grow a (z ∷ zs) = omega (arith, structures_grow (a + z.structure) zs)

-- an SD's end is past its bytes
signal_grows : (g : Option ℕ) (d : ℕ) → d ≤ signal_end g d
signal_grows none d = le_refl d
signal_grows (some n) d = omega (arith, align_past (d + (24 + n)))

signal_ends : (g : Option ℕ) (d n : ℕ) → g ≡ some n → d + (24 + n) ≤ signal_end g d
signal_ends none d n e = let z : ◌≡◌ {A = ℕ} 0 1 = cc in omega arith
signal_ends (some m) d n e = let z : m ≡ n = cc in omega (arith, align_past (d + (24 + m)))

-- the data blocks and the SD of a column, from d on: one behind the other
record Past (u : ℕ) (z : Sizes) (d : ℕ) : Type 0 where
  first : d ≤ first_at u z d
  blocks : first_at u z d + (24 * z.blocks + z.payload) ≤ blocks_end z (first_at u z d)
  sd : blocks_end z (first_at u z d) ≤ signal_at u z.signal (blocks_end z (first_at u z d))
  ends : signal_at u z.signal (blocks_end z (first_at u z d)) ≤ past_data u z d

past : (u : ℕ) → IsUnit u → (z : Sizes) (d : ℕ) → Past u z d
unfolding blocks_end
past u i z d =
    record {
      first = (first_past u i z d).0;
      blocks = align_past _;
      sd = (signal_past u i z.signal (blocks_end z (first_at u z d))).0;
      ends = signal_grows z.signal _;
    }

pub places_grow : (u : ℕ) → IsUnit u → (d : ℕ) (zs : List Sizes) → d ≤ places_end u d zs
unfolding places_end
places_grow u i d [] = le_refl d
places_grow u i d (z ∷ zs) =
    let w = past u i z d in
    omega (arith, w.first, w.blocks, w.sd, w.ends, places_grow u i (past_data u z d) zs)

-- ---- a placed column: its DG, CG, CN and DL between a and e, its data blocks and its SD between d and f
pub record Lies (a e d f : ℕ) (p : Placed) : Type 0 where
  pub dg_from : a ≤ p.dg
  pub structure_to : p.dg + (kept_size p.column).structure ≤ e
  pub first_from : d ≤ p.first
  pub blocks_to : p.first + (24 * blocks_of p.column + size_of p.column.group.data_group.fragments) ≤ f
  pub sd_from : d ≤ p.sd
  pub sd_to : (fs : List Fragment) → p.column.signal_of ≡ signal_data fs → p.sd + (24 + size_of fs) ≤ f

pub column_lies : (u : ℕ) → IsUnit u → (a d : ℕ) (cs : List Column) (p : Placed) → In p (placed_kept u a d cs)
    → Lies a (structures_end a (kept_sizes cs)) d (places_end u d (kept_sizes cs)) p
unfolding with_places places_from structures_end places_end kept_sizes
column_lies u i a d [] p x' = elim x' [ ]
column_lies u i a d (c ∷ cs) p here =
    let z : Sizes = kept_size c in
    let w = past u i z d in
    let g = places_grow u i (past_data u z d) (kept_sizes cs) in
    record {
      dg_from = le_refl a;
      structure_to = structures_grow (a + z.structure) (kept_sizes cs);
      first_from = w.first;
      blocks_to = omega (arith, w.blocks, w.sd, w.ends, g);
      sd_from = omega (arith, w.first, w.blocks, w.sd);
      sd_to = λ fs e. omega (arith, signal_ends z.signal p.sd (size_of fs) (ap signal_sizes e), g);
    }
column_lies u i a d (c ∷ cs) p (there j) =
    let z : Sizes = kept_size c in
    let w = past u i z d in
    let r = column_lies u i (a + z.structure) (past_data u z d) cs p j in
    record {
      dg_from = omega (arith, r.dg_from);
      structure_to = r.structure_to;
      first_from = omega (arith, w.first, w.blocks, w.sd, w.ends, r.first_from);
      blocks_to = r.blocks_to;
      sd_from = omega (arith, w.first, w.blocks, w.sd, w.ends, r.sd_from);
      sd_to = r.sd_to;
    }

-- it is one of those that were to be placed
pub in_columns_lem : (u a d : ℕ) (cs : List Column) (p : Placed) → In p (placed_kept u a d cs) → In p.column cs
unfolding with_places places_from kept_sizes
in_columns_lem u a d [] p x' = elim x' [ ]
in_columns_lem u a d (c ∷ cs) p here = here
in_columns_lem u a d (c ∷ cs) p (there i) = there (in_columns_lem u (a + (kept_size c).structure) (past_data u (kept_size c) d) cs p i)

pub placed-columns : (u a d : ℕ) (cs : List Column) → columns_placed (placed_kept u a d cs) ≡ cs
unfolding with_places places_from kept_sizes columns_placed
placed-columns u a d [] = refl
placed-columns u a d (c ∷ cs) = ap (λ (l : List Column). c ∷ l) (placed-columns u (a + (kept_size c).structure) (past_data u (kept_size c) d) cs)

-- ---- all columns: each DG begins at or past the end of the structure before it
unfoldable pub Ascending : ℕ → List Placed → ℕ → Type 0
Ascending a [] e = a ≤ e
Ascending a (p ∷ ps) e = (a ≤ p.dg) × Ascending (p.dg + (kept_size p.column).structure) ps e

pub placed_ascending : (u a d : ℕ) (cs : List Column) → Ascending a (placed_kept u a d cs) (structures_end a (kept_sizes cs))
unfolding with_places places_from structures_end kept_sizes Ascending
placed_ascending u a d [] = le_refl a
placed_ascending u a d (c ∷ cs) = (le_refl a, placed_ascending u (a + (kept_size c).structure) (past_data u (kept_size c) d) cs)

-- ---- in the file
module _ {u : ℕ} {s : List ℕ} {cs : List Column} {l : Layout} (o : LaidKept u s cs l) where
  pub copies-past : 168 ≤ past_copies l.metadata
  copies-past = omega (arith, laid-ends s 168 l.metadata.next l.metadata.memo (copies-laid o), past-copies l.metadata)

  pub structures_past : past_copies l.metadata ≤ l.metadata_end_lem
  structures_past = omega (arith, o.metadata_end_lem, structures_grow (past_copies l.metadata) (kept_sizes cs))

  pub data_before_lem : places_end u l.metadata_end_lem (kept_sizes cs) ≤ l.file_size_lem
  data_before_lem = omega (arith, o.file_size_lem, laid_at_ends s _ _ l.attached.attachments (attachments-laid o).laid)

  pub kept-columns : columns_placed l.placed ≡ cs
  kept-columns = rw o.placed (placed-columns u _ _ cs)

  pub kept_in_lem : (p : Placed) → In p l.placed → In p.column cs
  kept_in_lem p i = in_columns_lem u _ _ cs p (subst (In p) o.placed i)

  pub kept_ascending : Ascending (past_copies l.metadata) l.placed l.metadata_end_lem
  kept_ascending = rw (o.placed, o.metadata_end_lem) (placed_ascending u (past_copies l.metadata) _ cs)

  module _ (i : IsUnit u) where
    pub metadata_before : l.metadata_end_lem ≤ l.file_size_lem
    metadata_before = omega (arith, places_grow u i l.metadata_end_lem (kept_sizes cs), data_before_lem)

    pub kept_lies : (p : Placed) → In p l.placed → Lies 168 l.metadata_end_lem l.metadata_end_lem l.file_size_lem p
    kept_lies p j =
        let r = column_lies u i (past_copies l.metadata) l.metadata_end_lem cs p (subst (In p) o.placed j) in
        let e = o.metadata_end_lem in
        let f = data_before_lem in
        record {
          dg_from = omega (arith, copies-past, r.dg_from);
          structure_to = omega (arith, r.structure_to);
          first_from = r.first_from;
          blocks_to = omega (arith, r.blocks_to);
          sd_from = r.sd_from;
          sd_to = λ fs q. omega (arith, r.sd_to fs q);
        }

-- addresses are fields of 8 bytes: of a file of at most 2^59
pub record Short (p : Placed) : Type 0 where
  pub dg : (0 < p.dg) × (p.dg < 256 ^ 8)
  pub dl : dl_of p < 256 ^ 8
  pub first : (0 < p.first) × (p.first < 256 ^ 8)
  pub blocks : p.first + (24 * blocks_of p.column + size_of p.column.group.data_group.fragments) < 256 ^ 8
  pub sd : 0 < p.sd
  pub signal : (fs : List Fragment) → p.column.signal_of ≡ signal_data fs → p.sd + (24 + size_of fs) < 256 ^ 8

pub kept-short : {u : ℕ} {s : List ℕ} {cs : List Column} {l : Layout} → LaidKept u s cs l → IsUnit u → l.file_size_lem ≤ most_file
    → (p : Placed) → In p l.placed → Short p
kept-short {l = l} o i h p j =
    let r = kept_lies o i p j in
    let m = metadata_before o i in
    let a = copies-past o in
    let b = structures_past o in
    record {
      dg = (omega (arith, r.dg_from), omega (arith, r.structure_to));
      dl = omega (arith, r.structure_to);
      first = (omega (arith, r.first_from), omega (arith, r.blocks_to));
      blocks = omega (arith, r.blocks_to);
      sd = omega (arith, r.sd_from);
      signal = λ fs e. omega (arith, r.sd_to fs e);
    }
