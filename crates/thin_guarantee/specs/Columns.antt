-- The columns of the new file: those that are kept, in order, with all that is known of them in the file.
use Prim.{tt}
use Rattle.std.specs.Prelude.{ℕ, zero, suc, ◌+◌, ◌^◌, ◌≤◌, ◌<◌, true, false, ◌≡◌, refl, length}
use mathlib.Core.List.{List, [], ◌∷◌}
use Rattle.std.proofs.Math.Option.{some}
use Rattle.std.proofs.Common.{sym, ap, subst, ◌∙◌, zero-add, arith, lit<, length-append}
use Rattle.base.specs.ChoiceLaws.{eq_no}
use Rattle.base.specs.Checked.{fine}
use Rattle.mdf.specs.Block.{CG, CN}
use Rattle.mdf.specs.Chain.{dt, fragment, is_in}
use Rattle.mdf.specs.Name.{name_at}
use Rattle.mdf.specs.Records.{size_of}
use Rattle.plan.specs.Columns.{Column}
use Rattle.plan.specs.Copies.{Copy, Attachment}
use Rattle.plan.specs.Layout.{Placed, cn_of, cn_size}
use Rattle.result.specs.Fill.{Block, new_link, cg_at, next_dg}
use Rattle.result.specs.Guarantee.{Stands, In, here, there, columns_placed}
use Rattle.guarantee.specs.Theorem.{AllBytes}
use Rattle.file.specs.Form.{FileColumn}
use Rattle.file.specs.Range.{file_column_at}
use Rattle.file_laws.specs.Standing.{first_dg, AllStand, all_fragments}
use Rattle.file_guarantee.specs.Columns.{stand-from}
use Rattle.sheet.specs.Sheet.{number_at}
use Rattle.sheet_guarantee.specs.Theorem.{number-at}
use Rattle.thin.specs.Kept.{signal_place, signal_kept, kept_column}
use Rattle.thin.specs.Place.{kept_size}
use Rattle.thin.specs.Fill.{kept_structure, kept_blocks}
use Rattle.thin_laws.specs.InsideLaws.{block-passed}
use Rattle.thin_laws.specs.MemberLaws.{in_list, in_later, in_first-moved, in_first_sd, in_data_later}
use Rattle.thin_laws.specs.PlaceLaws.{Ascending, Short}
use Rattle.thin_shown.specs.Sound.{moved_fragments, new_column, KeptSound, KeptStands}
use Rattle.thin_shown.specs.Blocks.{length_moved}
use Rattle.thin_shown.specs.Stands.{column_stands}
use Rattle.thin_guarantee.specs.KeptLaws.{Tested, Thinned, done, out, kept, signal_there}

-- ---- a column that is placed is sound

-- another column at the places of p
abbrev pub at_places : Placed → Column → Placed
at_places p c = record { column = c; dg = p.dg; first = p.first; sd = p.sd }

placed-sound : (s : List ℕ) → AllBytes s → (numbers : List ℕ) (all : List FileColumn) (c : FileColumn) (p : Placed) → Tested s numbers all c
    → Short (at_places p (kept_column s numbers all c)) → KeptSound s (at_places p (kept_column s numbers all c))
unfolding size_of signal_kept
placed-sound s bytes numbers all c p t h =
    let a : ℕ = signal_place s c.cn in
    record {
      image = bytes;
      group_room = (block-passed CG s c.cg t.facts.cg_block).bytes;
      channel_room = (block-passed CN s c.cn t.facts.cn_block).bytes;
      ids = t.facts.form.ids;
      ranges = t.facts.ranges;
      lengths = t.facts.lengths;
      kinds = t.facts.form.kinds;
      bytes = t.facts.form.bytes;
      signal = refl;
      signal_whole = λ z. (signal_there s c.cn t.signal z).least;
      signal_range = λ z. (signal_there s c.cn t.signal z).within;
      photos = refl;
      dg_above = h.dg.0;
      structure_ends = h.dl;
      first_above = h.first.0;
      payload_ends = omega (arith, h.blocks);
      sd_above = h.sd;
      sd_ends = λ z. omega (arith, h.signal (fragment s a dt ∷ []) (sym (eq_no _ _ _ _ z refl)), (signal_there s c.cn t.signal z).least);
    }

pub kept-sound : (s : List ℕ) → AllBytes s → (numbers : List ℕ) (all : List FileColumn) (c : FileColumn) (p : Placed) → Tested s numbers all c
    → p.column ≡ kept_column s numbers all c → Short p → KeptSound s p
kept-sound s bytes numbers all c p t e =
    subst (λ (k : Column). Short (at_places p k) → KeptSound s (at_places p k)) (sym e) (placed-sound s bytes numbers all c p t)

-- ---- the columns of the new file
unfoldable pub new_columns : List Placed → List FileColumn
new_columns [] = []
new_columns (p ∷ ps) = new_column p ∷ new_columns ps

pub first-same : (ps : List Placed) → first_dg (new_columns ps) ≡ next_dg ps
unfolding new_columns
first-same [] = refl
first-same (p ∷ ps) = refl

pub columns-many : (ps : List Placed) → length (new_columns ps) ≡ length ps
unfolding new_columns
columns-many [] = refl
columns-many (p ∷ ps) = ap suc (columns-many ps)

pub next-below : (s : List ℕ) (ps : List Placed) → ((p : Placed) → In p ps → KeptSound s p) → next_dg ps < 256 ^ 8
next-below s [] h = lit< tt
next-below s (p ∷ ps) h = let e = (h p here).structure_ends in omega arith

-- ---- they stand in it
cn_before : (p : Placed) → suc (cn_of p) ≤ p.dg + (kept_size p.column).structure
unfolding cn_size
cn_before p = omega arith

module _ {f : List ℕ} (s : List ℕ) (memo : List Copy) (ats : List Attachment) (all : List Placed) where
  -- the blocks of the first
  pub first_stands : (p : Placed) (ps : List Placed)
      → ((b : Block) → In b (kept_structure s memo ats all (p ∷ ps)) → Stands f b.at b.bytes)
      → ((b : Block) → In b (kept_blocks s (p ∷ ps)) → Stands f b.at b.bytes) → KeptStands s f memo ats all p (next_dg ps)
  unfolding kept_structure
  first_stands p ps made filled =
      record {
        dg = made _ here;
        cg = made _ (there here);
        cn = made _ (there (there here));
        list = λ b i. made b (in_list s memo ats all p ps i);
        blocks = λ b i. filled b (in_first-moved s p ps i);
        signal = λ b i. filled b (in_first_sd s p ps i);
      }

  pub columns-stand : ((a : ℕ) → new_link memo a < 256 ^ 8) → ((a : ℕ) → name_at f (new_link memo a) ≡ fine)
      → (ps : List Placed) (a e : ℕ) → Ascending a ps e → ((p : Placed) → In p ps → KeptSound s p)
      → ((b : Block) → In b (kept_structure s memo ats all ps) → Stands f b.at b.bytes)
      → ((b : Block) → In b (kept_blocks s ps) → Stands f b.at b.bytes) → AllStand f a (new_columns ps)
  unfolding AllStand new_columns Ascending
  columns-stand small named [] a e h sound made filled = tt
  columns-stand small named (p ∷ ps) a e h sound made filled =
      let one = column_stands (sound p here) (first_stands p ps made filled) (next-below s ps (λ q i. sound q (there i))) small named in
      let more = columns-stand small named ps (p.dg + (kept_size p.column).structure) e h.1 (λ q i. sound q (there i))
      (λ b i. made b (in_later s memo ats all p ps i)) (λ b i. filled b (in_data_later s p ps i)) in
      (h.0, rw (first-same ps) one, stand-from f (suc (cn_of p)) _ (new_columns ps) (cn_before p) more)

-- ---- by number: column number n of the new file has the CG of placed column number n
pub record NumberedAt (ps : List Placed) (n : ℕ) : Type 0 where
  pub column : FileColumn
  pub is_at_lem : file_column_at n (new_columns ps) ≡ some column
  pub group : column.cg ≡ cg_at n ps
  pub above : 0 < cg_at n ps

pub numbered : (ps : List Placed) (n : ℕ) → n < length ps → NumberedAt ps n
unfolding new_columns file_column_at cg_at
numbered [] n h = absurd (omega arith)
numbered (p ∷ ps) zero h = record { column = new_column p; is_at_lem = refl; group = refl; above = omega arith }
numbered (p ∷ ps) (suc n) h =
    let r = numbered ps n (omega arith) in
    record { column = r.column; is_at_lem = r.is_at_lem; group = r.group; above = r.above }

-- and is found by it
pub number-placed : (f : List ℕ) (ps : List Placed) (a n : ℕ) → AllStand f a (new_columns ps) → n < length ps
    → number_at (cg_at n ps) 0 (new_columns ps) ≡ some n
number-placed f ps a n st h =
    let r = numbered ps n h in
    let d : number_at r.column.cg 0 (new_columns ps) ≡ some (0 + n) = number-at f a 0 n (new_columns ps) r.column st r.is_at_lem in
    ap (λ (b : ℕ). number_at b 0 (new_columns ps)) (sym r.group) ∙ d ∙ ap some (zero-add n)

-- ---- column by column
none≢cons : {A : Type 0} {a : A} {l : List A} → ◌≡◌ {A = List A} [] (a ∷ l) → ⊥
none≢cons e = let z : ◌≡◌ {A = ℕ} 0 1 = cc in omega arith

head-same : {A : Type 0} {a b : A} {l m : List A} → ◌≡◌ {A = List A} (a ∷ l) (b ∷ m) → a ≡ b
head-same e = cc

tail_same : {A : Type 0} {a b : A} {l m : List A} → ◌≡◌ {A = List A} (a ∷ l) (b ∷ m) → l ≡ m
tail_same e = cc

-- the placed columns ps are those that are kept of the columns cs from number k on
pub data PlacedOf (s numbers : List ℕ) (all : List FileColumn) : ℕ → List FileColumn → List Placed → Type 0 where
  none_left : {k : ℕ} → PlacedOf s numbers all k [] []
  taken : {k : ℕ} {c : FileColumn} {cs : List FileColumn} {ps : List Placed} → is_in k numbers ≡ true → PlacedOf s numbers all (suc k) cs ps
      → PlacedOf s numbers all k (c ∷ cs) ps
  stays : {k : ℕ} {c : FileColumn} {cs : List FileColumn} {p : Placed} {ps : List Placed} → is_in k numbers ≡ false → Tested s numbers all c
      → p.column ≡ kept_column s numbers all c → PlacedOf s numbers all (suc k) cs ps → PlacedOf s numbers all k (c ∷ cs) (p ∷ ps)

pub placed_of : {s numbers : List ℕ} {all : List FileColumn} {k : ℕ} {cs : List FileColumn} {ds : List Column} → Thinned s numbers all k cs ds
    → (ps : List Placed) → columns_placed ps ≡ ds → PlacedOf s numbers all k cs ps
unfolding columns_placed
placed_of done [] e = none_left
placed_of done (p ∷ ps) e = absurd (none≢cons (sym e))
placed_of (out q m) ps e = taken q (placed_of m ps e)
placed_of (kept q t m) [] e = absurd (none≢cons e)
placed_of (kept q t m) (p ∷ ps) e = stays q t (head-same e) (placed_of m ps (tail_same e))

-- no more blocks than before
pub blocks-few : {s numbers : List ℕ} {all : List FileColumn} {k : ℕ} {cs : List FileColumn} {ps : List Placed} → PlacedOf s numbers all k cs ps
    → length (all_fragments (new_columns ps)) ≤ length (all_fragments cs)
unfolding new_columns all_fragments
blocks-few none_left = omega arith
blocks-few (taken {c = c} {cs} {ps} q m) = omega (arith, blocks-few m, length-append c.fragments (all_fragments cs))
blocks-few (stays {c = c} {cs} {p} {ps} q t e m) =
    let n : length (moved_fragments p.first p.column.group.data_group.fragments) ≡ length c.fragments =
    length_moved p.first p.column.group.data_group.fragments ∙ ap (λ (k : Column). length k.group.data_group.fragments) e in
    omega (
      arith,
      blocks-few m,
      length-append c.fragments (all_fragments cs),
      length-append (moved_fragments p.first p.column.group.data_group.fragments) (all_fragments (new_columns ps)),
    )
