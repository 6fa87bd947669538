-- Columns start on the unit, and fewer than its bytes lie between two blocks of the file (document 02, requests 5 and 13).
use Rattle.mdf.specs.Block.{size_at}
use Rattle.std.specs.Prelude.{ℕ, ◌+◌, ◌%◌, ◌≤◌, ◌<◌, ◌≡◌, refl, length, drop}
use mathlib.Core.List.{List, [], ◌∷◌}
use Rattle.std.proofs.Common.{sym}
use native.Mathlib.Omega.{arith}
use Rattle.base.specs.ChoiceLaws.{eq_yes}
use Rattle.plan.specs.Columns.{Column, Signal, no_signal, signal_data}
use Rattle.plan.specs.Copies.{Copy, Attachment}
use Rattle.plan.specs.Geometry.{align8, align_to}
use Rattle.plan.specs.Rules.{Rules}
use Rattle.plan.specs.Layout.{
  column_blocks,
  cg_size,
  dl_size,
  structure_size,
  Sizes,
  signal_at,
  places_at,
  past_data,
  places_from,
  structures_end,
  Placed,
  cg_of,
  cn_of,
  dl_of,
  signal_sizes,
  column_sizes,
  sizes_of,
  placed_at,
  with_places,
  placed_from,
  structure_end,
  data_end,
  md_size,
  Layout,
  past_copies,
}
use Rattle.result.specs.Fill.{Block, copied_blocks, next_dg, dl_blocks, structure_blocks, data_blocks, next_attachment, attachment_blocks}
use Rattle.result.specs.Ordered.{Close}
use Rattle.result.specs.Result.{Args, rules_of, memo_of, hd_block, blocks_of}
use Rattle.result.specs.Guarantee.{In, here, there, Starts}
use Rattle.copies_laws.specs.AnswerLaws.{on_eq}
use Rattle.copies_laws.specs.Laid.{Laid, Tight, align_past, laid-to, tight_to, grown_tight}
use Rattle.copies_laws.specs.AttachLaws.{LaidAt, TightAt}
use Rattle.copies_laws.specs.LengthLaws.{length-copied, length_at, InImage, length-dg, length-cg, length-cn, length-dl, length_md, length_fh, length-hd}
use Rattle.copies_laws.specs.LayoutLaws.{LaidOut, history-from-start, history-laid, columns-after-history, columns-laid, attachments-laid}
use Rattle.payload_laws.specs.UnitLaws.{IsUnit, to-past, to_is, first_some}
use Rattle.payload_laws.specs.Near.{Near}
use Rattle.payload_laws.specs.NearLaws.{near_close, eight_within, near_append, near_cons, near_none}

pub dl-none : (n : ℕ) → n ≡ 0 → dl_size n ≡ 0
unfolding dl_size
dl-none n e = sym (eq_yes _ _ _ _ e refl)

-- ---- starts
pub signal_starts : (u : ℕ) → 0 < u → (g : Signal) (e : ℕ) → (g ≡ no_signal → ⊥) → signal_at u (signal_sizes g) e % u ≡ 0
signal_starts u h no_signal e s = absurd (s refl)
signal_starts u h (signal_data fs) e s = to_is u e h

pub all_start : (o : Rules) → 0 < o.unit → (s : List ℕ) (size a d : ℕ) (cs : List Column) (p : Placed) → In p (placed_from o s size a d cs)
    → Starts o.unit s size p
unfolding with_places places_from sizes_of
all_start o h s size a d [] p x' = elim x' [ ]
all_start o h s size a d (c ∷ cs) p here =
    record {
      blocks = λ b. rw (← first_some o.unit (column_sizes s size c) d b) (to_is o.unit d h);
      signal = λ b. signal_starts o.unit h c.signal_of _ b;
    }
all_start o h s size a d (c ∷ cs) p (there i) = all_start o h s size (a + structure_size s size c) (past_data o.unit (column_sizes s size c) d) cs p i

module _ (u : ℕ) (i : IsUnit u) where
  pub here_near : (a : ℕ) → a ≤ align_to u a
  here_near a = to-past u a (omega (arith, i.least))

  -- ---- copies and attachments
  pub copied_near : (s chain : List ℕ) (memo : List Copy) (fh a e : ℕ) (cs : List Copy) → Laid s a cs e → Tight s a cs e
      → Near u a (copied_blocks s chain memo fh cs) e
  unfolding Laid Tight copied_blocks Near
  copied_near s chain memo fh a e [] l t = let k : e ≤ align8 a = t in omega (arith, eight_within u i a)
  copied_near s chain memo fh a e (c ∷ cs) l t =
      let k : c.to ≤ align8 a = t.0 in
      (omega (arith, eight_within u i a), rw (length-copied s chain memo fh c.from l.1) (copied_near s chain memo fh (c.to + size_at s c.from) e cs l.2 t.1))

  pub attached_near : (s chain : List ℕ) (memo : List Copy) (fh a e : ℕ) (ts : List Attachment) → LaidAt s a ts e → TightAt s a ts e
      → Near u a (attachment_blocks s chain memo fh ts) e
  unfolding LaidAt TightAt attachment_blocks Near
  attached_near s chain memo fh a e [] l t = let k : e ≤ align8 a = t in omega (arith, eight_within u i a)
  attached_near s chain memo fh a e (x ∷ ts) l t =
      near_append u i a x.to e (copied_blocks s chain memo fh x.own) _ (copied_near s chain memo fh a x.to x.own l.0 t.0)
      (here_near x.to, rw (length_at s memo x.from (next_attachment ts) l.1) (attached_near s chain memo fh (x.to + size_at s x.from) e ts l.2 t.1))

  -- ---- columns
  dl_near : (s : List ℕ) (size : ℕ) (p : Placed) → Near u (dl_of p) (dl_blocks s size p) (dl_of p + dl_size (column_blocks s size p.column))
  unfolding dl_blocks
  dl_near s size p =
      on_eq (λ (l : List Block). Near u (dl_of p) l (dl_of p + dl_size (column_blocks s size p.column))) (column_blocks s size p.column) 0 _ _
      (λ h. near_none u i (dl_of p) _ (rw (dl-none (column_blocks s size p.column) h) (omega (arith, here_near (dl_of p)))))
      (λ h. near_cons u i (dl_of p) _ _ _ [] (here_near (dl_of p)) (length-dl s size p h) (near_none u i _ _ (here_near _)))

  column_near_lem : (r : Rules) (s : List ℕ) (size : ℕ) (memo : List Copy) (ats : List Attachment) (all ps : List Placed) (p : Placed) (e : ℕ) → InImage s p.column
      → Near u (p.dg + structure_size s size p.column) (structure_blocks r s size memo ats all ps) e
      → Near u p.dg (structure_blocks r s size memo ats all (p ∷ ps)) e
  unfolding structure_blocks structure_size
  column_near_lem r s size memo ats all ps p e j o =
      let w : dl_of p + dl_size (column_blocks s size p.column) ≡ p.dg + structure_size s size p.column = omega arith in
      near_cons u i p.dg _ e _ _ (here_near _) (length-dg s size memo p (next_dg ps))
      (near_cons u i (cg_of p) (cg_size p.column.master) e _ _ (here_near _) (length-cg s memo all p j)
      (near_cons u i (cn_of p) _ e _ _ (here_near _) (length-cn r s memo ats p j)
      (near_append u i (dl_of p) (dl_of p + dl_size (column_blocks s size p.column)) e (dl_blocks s size p) _ (dl_near s size p) (rw w o))))

  structure_near : (o : Rules) (s : List ℕ) (size : ℕ) (memo : List Copy) (ats : List Attachment) (all : List Placed) (a d : ℕ) (cs : List Column)
      → ((c : Column) → In c cs → InImage s c) → Near u a (structure_blocks o s size memo ats all (placed_from o s size a d cs)) (structure_end s size a cs)
  unfolding with_places places_from structures_end sizes_of structure_blocks Near
  structure_near o s size memo ats all a d [] f = here_near a
  structure_near o s size memo ats all a d (c ∷ cs) f =
      let z : Sizes = column_sizes s size c in
      column_near_lem o s size memo ats all (placed_from o s size (a + z.structure) (past_data o.unit z d) cs) (placed_at c (places_at o.unit a d z))
      (structure_end s size (a + z.structure) cs) (f c here)
      (structure_near o s size memo ats all (a + z.structure) (past_data o.unit z d) cs (λ b j. f b (there j)))

structures_near : (u : ℕ) → IsUnit u → {r : Rules} {s : List ℕ} {size n : ℕ} {cs : List Column} {l : Layout} → LaidOut r s size n cs l
    → (memo : List Copy) (ats : List Attachment) (all : List Placed) → ((c : Column) → In c cs → InImage s c)
    → Near u (past_copies l.metadata) (structure_blocks r s size memo ats all l.placed) l.metadata_end_lem
structures_near u i {r} {s} {size} {n} {cs} {l} o memo ats all f =
    rw (o.placed, o.metadata_end_lem) (structure_near u i r s size memo ats all (past_copies l.metadata) _ cs f)

-- ---- all blocks, where those with the columns' data are near
pub blocks_close : (x : Args) → IsUnit x.unit → (cs : List Column) (l : Layout) → LaidOut (rules_of x) x.image x.block_size (length x.text) cs l
    → length x.ident ≡ 64 → ((c : Column) → In c cs → InImage x.image c)
    → Near x.unit l.metadata_end_lem (data_blocks x.image x.block_size l.placed) (data_end (rules_of x) x.image x.block_size l.metadata_end_lem cs)
    → Close x.unit 0 (blocks_of x l) l.file_size_lem
unfolding blocks_of hd_block past_copies
blocks_close x i cs l o m f d =
    let u : ℕ = x.unit in
    let s : List ℕ = x.image in
    let chain : List ℕ = l.past.chain in
    let memo : List Copy = memo_of l in
    let before : Near u 168 (copied_blocks s chain memo l.fh l.past.made.memo) l.md =
    rw o.md (copied_near u i s chain memo l.fh 168 (align8 l.past.made.next) l.past.made.memo
    (laid-to s 168 _ _ l.past.made.memo (history-laid o) (align_past _)) (tight_to s 168 _ l.past.made.memo (grown_tight (history-from-start o)))) in
    let own : List Copy = drop (length l.past.made.memo) l.metadata.memo in
    let copied : Near u (l.fh + 56) (copied_blocks s chain memo l.fh own) (align8 l.metadata.next) =
    copied_near u i s chain memo l.fh (l.fh + 56) (align8 l.metadata.next) own
    (laid-to s _ _ _ own (columns-laid o) (align_past _)) (tight_to s _ _ own (grown_tight (columns-after-history o))) in
    let structures : Near u (align8 l.metadata.next) (structure_blocks (rules_of x) s x.block_size memo l.attached.attachments l.placed l.placed) l.metadata_end_lem =
    structures_near u i o memo l.attached.attachments l.placed f in
    let attached : Near u (data_end (rules_of x) s x.block_size l.metadata_end_lem cs) (attachment_blocks s chain memo l.fh l.attached.attachments) l.file_size_lem =
    rw o.file_size_lem (attached_near u i s chain memo l.fh _ _ l.attached.attachments (attachments-laid o).laid (attachments-laid o).tight) in
    near_close u i 0 l.file_size_lem (blocks_of x l)
    (near_cons u i 0 64 _ _ _ (here_near u i 0) m
    (near_cons u i 64 104 _ _ _ (here_near u i 64) (length-hd s _ _ _ _)
    (near_append u i 168 l.md _ _ _ before
    (near_cons u i l.md (md_size (length x.text)) _ _ _ (here_near u i _) (length_md x.text)
    (near_cons u i _ 56 _ _ _ (omega (arith, o.fh, here_near u i (l.md + md_size (length x.text)))) (length_fh l.md x.time)
    (near_append u i (l.fh + 56) _ _ _ _ copied
    (near_append u i _ l.metadata_end_lem _ _ _ structures
    (near_append u i l.metadata_end_lem _ _ _ _ d attached))))))))
