-- A column of a file with columns taken out has the sizes that it was placed with.
use Prim.{tt}
use Rattle.std.specs.Prelude.{ℕ, ◌+◌, ◌-◌, ◌≤◌, List, [], ◌∷◌, ◌≡◌, refl, length}
use Rattle.std.proofs.Math.Option.{Option, none, some}
use Rattle.std.proofs.Common.{sym, ap, ◌∙◌, arith}
use Rattle.std.proofs.Math.Path.{subst}
use Rattle.base.specs.ChoiceLaws.{eq_no}
use Rattle.mdf.specs.Block.{size_at, link_at}
use Rattle.mdf.specs.Chain.{dt, fragment}
use Rattle.mdf.specs.Records.{size_of}
use Rattle.plan.specs.Columns.{Signal, no_signal, signal_data}
use Rattle.plan.specs.Copies.{Copy, Attachment}
use Rattle.plan.specs.Layout.{cg_size, cn_size, signal_sizes, Placed, cg_of, cn_of}
use Rattle.plan.specs.Photos.{references}
use Rattle.plan.specs.PhotosLaws.{length-references}
use Rattle.result.specs.Links.{Head, head_at}
use Rattle.result.specs.Guarantee.{In, here, there, columns_placed}
use Rattle.copies_laws.specs.AnswerLaws.{on_eq}
use Rattle.file.specs.Form.{FileColumn}
use Rattle.sheet.specs.Sheet.{master_of}
use Rattle.thin.specs.Kept.{signal_place, new_master, signal_kept, kept_column}
use Rattle.thin.specs.Place.{blocks_of, kept_size, kept_sizes}
use Rattle.thin.specs.Guarantee.{SignalKept}
use Rattle.thin_shown.specs.Sound.{new_column, KeptSound, KeptStands}
use Rattle.thin_shown.specs.Data.{same_photos}
use Rattle.thin_shown.specs.Blocks.{length_moved, moved-size}
use Rattle.thin_shown.specs.Column.{photos_many, cn_data_lem, cg-none, signal_kept_lem}
use Rattle.thin_guarantee.specs.Columns.{new_columns}
use Rattle.thin_lengths.specs.Lengths as lengths
use Rattle.thin_lengths.specs.Fewer.{NoMore, NoneMore}
use Rattle.thin_lengths.specs.ColumnSizes.{cg_most, master_none, place_is, one_size}

head-size : (f : List ℕ) (b : ℕ) (h : Head) → head_at f b ≡ h → size_at f b ≡ h.size
unfolding head_at
head-size f b h e = ap (λ (x : Head). x.size) e

-- ---- its SD, moved
module _ (s f : List ℕ) (c cn : ℕ) (h : SignalKept s f (signal_place s c) (link_at f cn 5)) where
  -- there is one only if there was
  place_some : (signal_place f cn ≡ 0 → ⊥) → signal_place s c ≡ 0 → ⊥
  place_some n z = n (place_is f cn n ∙ h.none_stays z)

  sd_same : (n : signal_place f cn ≡ 0 → ⊥) → size_of (fragment f (signal_place f cn) dt ∷ []) ≡ size_of (fragment s (signal_place s c) dt ∷ [])
  sd_same n =
      let e : size_at f (link_at f cn 5) ≡ size_at s (signal_place s c) = head-size f (link_at f cn 5) _ (h.head (place_some n)) in
      one_size f (signal_place f cn) ∙ ap (λ (x : ℕ). size_at f x - 24 + 0) (place_is f cn n) ∙ ap (λ (x : ℕ). x - 24 + 0) e
      ∙ sym (one_size s (signal_place s c))

  pub signal_same : lengths.signal_bytes (signal_sizes (signal_kept f cn)) ≤ lengths.signal_bytes (signal_sizes (signal_kept s c))
  unfolding signal_kept
  signal_same =
      on_eq (λ (v : Signal). lengths.signal_bytes (signal_sizes v) ≤ lengths.signal_bytes (signal_sizes (signal_kept s c))) (signal_place f cn) 0 no_signal
      (signal_data (fragment f (signal_place f cn) dt ∷ [])) (λ _. omega arith) (λ n.
      subst (λ (v : Signal). lengths.signal_bytes (some (size_of (fragment f (signal_place f cn) dt ∷ []))) ≤ lengths.signal_bytes (signal_sizes v))
      (eq_no (signal_place s c) 0 no_signal (signal_data (fragment s (signal_place s c) dt ∷ [])) (place_some n) refl) (rw (sd_same n) (omega arith)))

-- ---- one column
module _ {s f : List ℕ} {memo : List Copy} {ats : List Attachment} {all : List Placed} {p : Placed} {next : ℕ}
    (k : KeptSound s p) (st : KeptStands s f memo ats all p next) (numbers : List ℕ) (news : List FileColumn) where
  master_no_more : cg_size (new_master numbers (master_of f news (cg_of p))) ≤ cg_size p.column.master
  master_no_more = go p.column.master refl
    where
      go : (m : Option ℕ) → p.column.master ≡ m → cg_size (new_master numbers (master_of f news (cg_of p))) ≤ cg_size m
      go none e = rw (master_none f news (cg_of p) (cg-none k st e)) (omega arith)
      go (some m) e = cg_most (new_master numbers (master_of f news (cg_of p)))

  photos_same : length (references f (cn_of p)) ≡ length p.column.photos
  photos_same = length-references f (cn_of p) ∙ same_photos (cn_data_lem k st) k.channel_room ∙ sym (photos_many k st)

  pub kept_no_more : NoMore (kept_size (kept_column f numbers news (new_column p))) (kept_size p.column)
  unfolding cn_size blocks_of lengths.data_bytes
  kept_no_more =
      let b = length_moved p.first p.column.group.data_group.fragments in
      let y = moved-size p.first p.column.group.data_group.fragments in
      let g = signal_same s f p.column.channel (cn_of p) (signal_kept_lem k st) in
      record {
        structure = rw b (omega (arith, master_no_more, photos_same));
        bytes = rw (b, y, k.signal) (omega (arith, g));
      }

-- ---- all columns
pub all_no_more : (s f : List ℕ) (memo : List Copy) (ats : List Attachment) (all : List Placed) (numbers : List ℕ) (news : List FileColumn) (ps : List Placed)
    → ((p : Placed) → In p ps → KeptSound s p) → ((p : Placed) → In p ps → (next : ℕ) × KeptStands s f memo ats all p next)
    → NoneMore f numbers news (new_columns ps) (kept_sizes (columns_placed ps))
unfolding NoneMore new_columns kept_sizes columns_placed
all_no_more s f memo ats all numbers news [] k st = tt
all_no_more s f memo ats all numbers news (p ∷ ps) k st = (
  kept_no_more (k p here) (st p here).1 numbers news,
  all_no_more s f memo ats all numbers news ps (λ q i. k q (there i)) (λ q i. st q (there i)),
)
