-- Which blocks a file with columns taken out has: HD, every copy, DG, CG, CN and DL of a column, its data blocks and SD, attachments.
use Rattle.std.specs.Prelude.{ℕ, ◌+◌, ◌≤◌, List, [], ◌∷◌, ◌++◌, ◌≡◌, refl, length}
use Rattle.std.proofs.Common.{ap, subst}
use Rattle.base.specs.Blit.{part}
use Rattle.plan.specs.Columns.{Column}
use Rattle.plan.specs.Copies.{Copy, Attachment}
use Rattle.plan.specs.Layout.{Placed, cg_of, cn_of, Layout}
use Rattle.result.specs.Fill.{Block, block, copied_bytes, copied_blocks, next_dg, sd_blocks, attachment_blocks}
use Rattle.result.specs.Ordered.{Ordered}
use Rattle.result.specs.Result.{memo_of, hd_block}
use Rattle.result.specs.Guarantee.{In, here, there}
use Rattle.copies_laws.specs.AttachLaws.{own_copies}
use Rattle.copies_laws.specs.LengthLaws.{length-hd}
use Rattle.payload_laws.specs.Lists.{in_append}
use Rattle.shown_laws.specs.Flat.{ordered-from, ordered-by, in_front_lem, in_back}
use Rattle.guarantee.specs.Copied.{copied_in, attached_in_lem}
use Rattle.thin.specs.Fill.{kept_dg, kept_cg, kept_cn, kept_lists, kept_structure, moved_blocks, kept_blocks, blocks_kept}
use Rattle.thin_laws.specs.LaidLaws.{LaidKept, attachments-laid}

-- ---- DG, CG, CN and DL of the first column, and of those after it
module _ {b : Block} (s : List ℕ) (memo : List Copy) (ats : List Attachment) (all : List Placed) (p : Placed) (ps : List Placed) where
  pub in_list : In b (kept_lists s p) → In b (kept_structure s memo ats all (p ∷ ps))
  unfolding kept_structure
  in_list i = there (there (there (in_front_lem (kept_structure s memo ats all ps) i)))

  pub in_later : In b (kept_structure s memo ats all ps) → In b (kept_structure s memo ats all (p ∷ ps))
  unfolding kept_structure
  in_later i = there (there (there (in_back (kept_lists s p) i)))

-- of any column p: those before it, those after it, and its blocks
pub record Structured (s : List ℕ) (memo : List Copy) (ats : List Attachment) (all ps : List Placed) (bs : List Block) (p : Placed) : Type 0 where
  pub before : List Placed
  pub after : List Placed
  pub split : ps ≡ before ++ (p ∷ after)
  pub dg : In (block p.dg (kept_dg s memo p (next_dg after))) bs
  pub cg : In (block (cg_of p) (kept_cg s memo all p)) bs
  pub cn : In (block (cn_of p) (kept_cn s memo ats p)) bs
  pub list : (b : Block) → In b (kept_lists s p) → In b bs

pub structured : (s : List ℕ) (memo : List Copy) (ats : List Attachment) (all ps : List Placed) (p : Placed) → In p ps
    → Structured s memo ats all ps (kept_structure s memo ats all ps) p
unfolding kept_structure
structured s memo ats all [] p x' = elim x' [ ]
structured s memo ats all (q ∷ ps) p here = record {
  before = [];
  after = ps;
  split = refl;
  dg = here;
  cg = there here;
  cn = there (there here);
  list = λ b i. in_list s memo ats all p ps i;
}
structured s memo ats all (q ∷ ps) p (there i) =
    let r = structured s memo ats all ps p i in
    record {
      before = q ∷ r.before;
      after = r.after;
      split = ap (λ (l : List Placed). q ∷ l) r.split;
      dg = in_later s memo ats all q ps r.dg;
      cg = in_later s memo ats all q ps r.cg;
      cn = in_later s memo ats all q ps r.cn;
      list = λ b j. in_later s memo ats all q ps (r.list b j);
    }

-- ---- data blocks and SD of the first column, and of those after it
module _ {b : Block} (s : List ℕ) (p : Placed) (ps : List Placed) where
  pub in_first-moved : In b (moved_blocks s p.first p.column.group.data_group.fragments) → In b (kept_blocks s (p ∷ ps))
  unfolding kept_blocks
  in_first-moved i = in_front_lem (sd_blocks s p.column.signal_of p.sd ++ kept_blocks s ps) i

  pub in_first_sd : In b (sd_blocks s p.column.signal_of p.sd) → In b (kept_blocks s (p ∷ ps))
  unfolding kept_blocks
  in_first_sd i = in_back (moved_blocks s p.first p.column.group.data_group.fragments) (in_front_lem (kept_blocks s ps) i)

  pub in_data_later : In b (kept_blocks s ps) → In b (kept_blocks s (p ∷ ps))
  unfolding kept_blocks
  in_data_later i = in_back (moved_blocks s p.first p.column.group.data_group.fragments) (in_back (sd_blocks s p.column.signal_of p.sd) i)

-- of any column
pub in_moved : {b : Block} (s : List ℕ) (p : Placed) (ps : List Placed) → In p ps
    → In b (moved_blocks s p.first p.column.group.data_group.fragments) → In b (kept_blocks s ps)
in_moved {b = b} s p [] x'' j = elim x'' [ ]
in_moved s p (q ∷ ps) here j = in_first-moved s p ps j
in_moved s p (q ∷ ps) (there i) j = in_data_later s q ps (in_moved s p ps i j)

pub in_sd : {b : Block} (s : List ℕ) (p : Placed) (ps : List Placed) → In p ps
    → In b (sd_blocks s p.column.signal_of p.sd) → In b (kept_blocks s ps)
in_sd {b = b} s p [] x'' j = elim x'' [ ]
in_sd s p (q ∷ ps) here j = in_first_sd s p ps j
in_sd s p (q ∷ ps) (there i) j = in_data_later s q ps (in_sd s p ps i j)

-- ---- of the file
module _ (s : List ℕ) (l : Layout) where
  abbrev pub copied : List Block
  copied = copied_blocks s l.past.chain (memo_of l) l.fh l.metadata.memo

  abbrev pub structure : List Block
  structure = kept_structure s (memo_of l) l.attached.attachments l.placed l.placed

  abbrev pub column_data : List Block
  column_data = kept_blocks s l.placed

  abbrev pub attachments : List Block
  attachments = attachment_blocks s l.past.chain (memo_of l) l.fh l.attached.attachments

  -- all blocks after HD
  abbrev pub after_hd : List Block
  after_hd = copied ++ (structure ++ (column_data ++ attachments))

  pub in_ident : In (block 0 (part 0 64 s)) (blocks_kept s l)
  unfolding blocks_kept
  in_ident = here

  pub in_hd : In (hd_block s l) (blocks_kept s l)
  unfolding blocks_kept
  in_hd = there here

  pub in_rest : {b : Block} → In b after_hd → In b (blocks_kept s l)
  unfolding blocks_kept
  in_rest i = there (there i)

  pub in_copied : {b : Block} → In b copied → In b after_hd
  in_copied i = in_front_lem (structure ++ (column_data ++ attachments)) i

  pub in_structure : {b : Block} → In b structure → In b after_hd
  in_structure i = in_back copied (in_front_lem (column_data ++ attachments) i)

  pub in_data : {b : Block} → In b column_data → In b after_hd
  in_data i = in_back copied (in_back structure (in_front_lem attachments i))

  pub in_attachments : {b : Block} → In b attachments → In b after_hd
  in_attachments i = in_back copied (in_back structure (in_back column_data i))

  -- every block ends by the file's end; those after HD begin past it
  module _ (order : Ordered 0 (blocks_kept s l) l.file_size_lem) where
    pub block_within : {b : Block} → In b (blocks_kept s l) → b.at + length b.bytes ≤ l.file_size_lem
    block_within i = ordered-by (blocks_kept s l) 0 l.file_size_lem order i

    pub rest-within : {b : Block} → In b after_hd → (168 ≤ b.at) × (b.at + length b.bytes ≤ l.file_size_lem)
    unfolding blocks_kept Ordered hd_block
    rest-within i =
        let rest : Ordered 168 after_hd l.file_size_lem = rw length-hd at order.1.1 in
        (ordered-from after_hd 168 l.file_size_lem rest i, ordered-by after_hd 168 l.file_size_lem rest i)

  -- every copy
  pub copy_in_file : {u : ℕ} {cs : List Column} → LaidKept u s cs l → (c : Copy) → In c (memo_of l)
      → In (block c.to (copied_bytes s l.past.chain (memo_of l) l.fh c.from)) after_hd
  copy_in_file o c i =
      let chain : List ℕ = l.past.chain in
      in_append l.metadata.memo (own_copies l.attached.attachments)
      (λ j. in_copied (copied_in s chain (memo_of l) l.fh l.metadata.memo j))
      (λ j. in_attachments (attached_in_lem s chain (memo_of l) l.fh l.attached.attachments j))
      (subst (In c) (attachments-laid o).memo i)

  -- DG, CG, CN and DL of a column
  pub column_in_file : (p : Placed) → In p l.placed → Structured s (memo_of l) l.attached.attachments l.placed l.placed (blocks_kept s l) p
  column_in_file p i =
      let r = structured s (memo_of l) l.attached.attachments l.placed l.placed p i in
      record {
        before = r.before;
        after = r.after;
        split = r.split;
        dg = in_rest (in_structure r.dg);
        cg = in_rest (in_structure r.cg);
        cn = in_rest (in_structure r.cn);
        list = λ b j. in_rest (in_structure (r.list b j));
      }

  -- its data blocks and its SD
  pub moved_in_file : {b : Block} (p : Placed) → In p l.placed
      → In b (moved_blocks s p.first p.column.group.data_group.fragments) → In b after_hd
  moved_in_file p i j = in_data (in_moved s p l.placed i j)

  pub sd_in_file : {b : Block} (p : Placed) → In p l.placed → In b (sd_blocks s p.column.signal_of p.sd) → In b after_hd
  sd_in_file p i j = in_data (in_sd s p l.placed i j)
