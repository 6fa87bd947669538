-- A column of the converter's result has the sizes that it was placed with: as many blocks and references, as many bytes of payload, the same SD, a
-- seventh link of its CG only with a master.
use Prim.{tt}
use Rattle.std.specs.Prelude.{ℕ, ◌+◌, ◌-◌, ◌≤◌, List, [], ◌∷◌, ◌≡◌, refl}
use Rattle.std.proofs.Math.Option.{Option, none, some}
use Rattle.std.proofs.Math.Path.{sym, ap}
use Rattle.std.proofs.Common.{subst, ◌∙◌, arith, length-append, length-take}
use Rattle.std.proofs.Math.ListN.{length}
use Rattle.base.specs.ChoiceLaws.{eq_yes}
use Rattle.base.specs.Blit.{part}
use Rattle.mdf.specs.Block.{kind_sd, size_at, link_at}
use Rattle.mdf.specs.Chain.{Fragment, dt, fragment}
use Rattle.mdf.specs.Records.{joined, size_of}
use Rattle.plan.specs.Channel.{channel_type}
use Rattle.plan.specs.Columns.{Signal, no_signal, signal_data, remote_link}
use Rattle.plan.specs.Geometry.{align8}
use Rattle.plan.specs.Layout.{cg_size, cn_size, structure_size, payload_size, column_blocks, signal_sizes, column_sizes, sizes_of, Placed, cg_of, cn_of}
use Rattle.plan.specs.Photos.{photo_count, references}
use Rattle.plan.specs.PhotosLaws.{length-references}
use Rattle.plan.specs.Rules.{Rules}
use Rattle.result.specs.Due.{due_master, fragments_due}
use Rattle.result.specs.Fill.{sd_link, block_of, sd_blocks}
use Rattle.result.specs.Payload.{signal_bytes}
use Rattle.result.specs.Guarantee.{Stands, In, here, there, columns_placed}
use Rattle.copies_laws.specs.AnswerLaws.{on_eq}
use Rattle.shown_laws.specs.ColumnShown.{Refers}
use Rattle.shown_laws.specs.Joined.{block_of_size}
use Rattle.file.specs.Form.{FileColumn}
use Rattle.file_laws.specs.JoinedLaws.{length-joined}
use Rattle.file_guarantee.specs.ColumnForm.{file_column}
use Rattle.file_guarantee.specs.Columns.{file_columns, fragments_many}
use Rattle.again_laws.specs.Held.{Fields, Held}
use Rattle.again_laws.proofs.HeldLaws.{fields}
use Rattle.sheet.specs.Sheet.{master_of}
use Rattle.thin.specs.Kept.{signal_place, new_master, signal_kept, kept_column}
use Rattle.thin.specs.Place.{blocks_of, kept_size}
use Rattle.thin_lengths.specs.Lengths as lengths
use Rattle.thin_lengths.specs.Lengths.{align_least}
use Rattle.thin_lengths.specs.Fewer.{NoMore, NoneMore}

-- ---- masters
cg_least : (m : Option ℕ) → 104 ≤ cg_size m
cg_least none = omega arith
cg_least (some m) = omega arith

pub cg_most : (m : Option ℕ) → cg_size m ≤ 112
cg_most none = omega arith
cg_most (some m) = omega arith

-- no master without a seventh link
pub master_none : (f : List ℕ) (all : List FileColumn) (g : ℕ) → remote_link f g ≡ 0 → master_of f all g ≡ none
unfolding master_of
master_none f all g e = sym (eq_yes _ _ _ _ e refl)

-- ---- signal data: no more bytes than its fragments name
part_most : (o n : ℕ) (s : List ℕ) → length (part o n s) ≤ n
unfolding part
part_most o n s = simp length-take (omega arith)

joined_most : (s : List ℕ) (fs : List Fragment) → length (joined s fs) ≤ size_of fs
unfolding joined size_of
joined_most s [] = omega arith
joined_most s (f ∷ fs) = rw length-append (omega (arith, part_most f.offset f.size s, joined_most s fs))

-- the SD that a CN leads to, where it has one
pub place_is : (f : List ℕ) (c : ℕ) → (signal_place f c ≡ 0 → ⊥) → signal_place f c ≡ link_at f c 5
unfolding signal_place
place_is f c n =
    on_eq (λ (v : ℕ). (v ≡ 0 → ⊥) → v ≡ link_at f c 5) (channel_type f c) 1 (link_at f c 5) 0 (λ _ _. refl) (λ _ m. absurd (m refl)) n

pub one_size : (f : List ℕ) (x : ℕ) → size_of (fragment f x dt ∷ []) ≡ size_at f x - 24 + 0
unfolding size_of
one_size f x = refl

-- a CN that leads to where the SD of g stands, with no more bytes
pub signal_no_more : (f : List ℕ) (c : ℕ) (g : Signal) (a : ℕ) → link_at f c 5 ≡ sd_link g a
    → ((fs : List Fragment) → g ≡ signal_data fs → size_at f a - 24 ≤ size_of fs)
    → lengths.signal_bytes (signal_sizes (signal_kept f c)) ≤ lengths.signal_bytes (signal_sizes g)
unfolding signal_kept
signal_no_more f c g a led small =
    on_eq (λ (v : Signal). lengths.signal_bytes (signal_sizes v) ≤ lengths.signal_bytes (signal_sizes g)) (signal_place f c) 0 no_signal
    (signal_data (fragment f (signal_place f c) dt ∷ [])) (λ _. omega arith) (λ n. go g (place_is f c n ∙ led) n small)
  where
    go : (g : Signal) → signal_place f c ≡ sd_link g a → (signal_place f c ≡ 0 → ⊥) → ((fs : List Fragment) → g ≡ signal_data fs → size_at f a - 24 ≤ size_of fs)
        → align8 (24 + size_of (fragment f (signal_place f c) dt ∷ [])) ≤ lengths.signal_bytes (signal_sizes g)
    go no_signal q n h = absurd (n q)
    go (signal_data fs) q n h =
        let l = h fs refl in
        let one : size_of (fragment f (signal_place f c) dt ∷ []) ≡ size_at f a - 24 + 0 = one_size f (signal_place f c) ∙ ap (λ (x : ℕ). size_at f x - 24 + 0) q in
        align_least _ _ (omega arith)

-- ---- one column
module _ (f : List ℕ) (o : Rules) (s : List ℕ) (size : ℕ) (ps : List Placed) (p : Placed) (h : Held f o s size ps p) (refers : Refers o s p.column)
    (numbers : List ℕ) (all : List FileColumn) where
  has : Fields f o s ps p
  has = fields f o s size ps p h.shown

  -- "CG 104 (112 with a master)"
  master_no_more : cg_size (new_master numbers (master_of f all (cg_of p))) ≤ cg_size p.column.master
  master_no_more = go p.column.master has.remote
    where
      go : (m : Option ℕ) → remote_link f (cg_of p) ≡ due_master ps m → cg_size (new_master numbers (master_of f all (cg_of p))) ≤ cg_size m
      go none e = rw (master_none f all (cg_of p) e) (omega arith)
      go (some m) e = cg_most (new_master numbers (master_of f all (cg_of p)))

  -- its references
  photos_same : length (references f (cn_of p)) ≡ length p.column.photos
  unfolding photo_count
  photos_same = length-references f (cn_of p) ∙ has.attachments ∙ sym refers

  -- its blocks
  blocks-same : length (fragments_due s size p) ≡ column_blocks s size p.column
  blocks-same = fragments_many s size p

  payload_same : size_of (fragments_due s size p) ≡ payload_size s p.column
  unfolding file_column
  payload_same = sym (length-joined f (fragments_due s size p) h.stands.ranges) ∙ ap length h.payload ∙ h.long

  -- its SD
  sd_no_more : (fs : List Fragment) → p.column.signal_of ≡ signal_data fs → size_at f p.sd - 24 ≤ size_of fs
  sd_no_more fs q =
      let st : Stands f p.sd (block_of kind_sd (joined s fs)) =
      h.sd _ (subst (λ (g : Signal). In (record { at = p.sd; bytes = block_of kind_sd (joined s fs) }) (sd_blocks s g p.sd)) (sym q) here) in
      let e : length (signal_bytes s p.column.signal_of) ≡ length (joined s fs) = ap (λ (g : Signal). length (signal_bytes s g)) q in
      let ends = h.sound.sd_ends in
      omega (arith, block_of_size kind_sd p.sd (joined s fs) st (omega arith), joined_most s fs)

  pub column_no_more : NoMore (kept_size (kept_column f numbers all (file_column s size p))) (column_sizes s size p.column)
  unfolding file_column structure_size cn_size blocks_of lengths.data_bytes
  column_no_more =
      let b = blocks-same in
      let y = payload_same in
      let g = signal_no_more f (cn_of p) p.column.signal_of p.sd h.led sd_no_more in
      record {
        structure = rw b (omega (arith, master_no_more, photos_same));
        bytes = rw (b, y) (omega (arith, g));
      }

-- ---- all columns
pub columns_no_more : (f : List ℕ) (o : Rules) (s : List ℕ) (size : ℕ) (ps : List Placed) → (numbers : List ℕ) (all : List FileColumn) (qs : List Placed)
    → ((p : Placed) → In p qs → Held f o s size ps p) → ((p : Placed) → In p qs → Refers o s p.column)
    → NoneMore f numbers all (file_columns s size qs) (sizes_of s size (columns_placed qs))
unfolding NoneMore file_columns sizes_of columns_placed
columns_no_more f o s size ps numbers all [] h r = tt
columns_no_more f o s size ps numbers all (q ∷ qs) h r = (
  column_no_more f o s size ps q (h q here) (r q here) numbers all,
  columns_no_more f o s size ps numbers all qs (λ p i. h p (there i)) (λ p i. r p (there i)),
)
