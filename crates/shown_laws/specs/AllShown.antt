-- The whole file, read by links from HD: it shows exactly the placed columns.
use Rattle.std.specs.Prelude.{◌≡◌, refl, List, [], ◌∷◌, ◌++◌, ℕ, zero, suc, ◌+◌, ◌^◌, ◌≤◌, ◌<◌, length, drop}
use Rattle.std.proofs.Common.{sym, arith, lit<}
use Rattle.base.specs.ChoiceLaws.{eq_yes, eq_no}
use Rattle.mdf.specs.Block.{kind_hd, link_at}
use Rattle.plan.specs.Rules.{Rules}
use Rattle.plan.specs.Copies.{Copy, Attachment}
use Rattle.plan.specs.Layout.{Layout, Placed, dl_of}
use Rattle.result.specs.Ordered.{Ordered}
use Rattle.result.specs.Fill.{Block, block, md_bytes, fh_bytes, hd_data, next_dg, cg_at, copied_blocks, dl_blocks, structure_blocks, sd_blocks}
use Rattle.result.specs.Fill.{data_blocks, attachment_blocks}
use Rattle.result.specs.Result.{Args, rules_of, memo_of, hd_block, blocks_of}
use Rattle.result.specs.Links.{shown_at, shown_from, shown}
use Rattle.result.specs.Due.{due, due_all}
use Rattle.result.specs.Guarantee.{Stands, In, here, there}
use Rattle.shown_laws.specs.Flat.{in_front_lem, in_back, ordered-from, ordered-by}
use Rattle.shown_laws.specs.Header.{block-link}
use Rattle.shown_laws.specs.Shapes.{hd_links, hd_shape}
use Rattle.shown_laws.specs.ColumnShown.{ColumnSound, Refers, blocks_at, column-shown, dg-next}

-- ---- what is known of a file with layout l: all that reading back rests on
pub record Sound (x : Args) (l : Layout) (f : List ℕ) : Type 0 where
  -- every block stands where it is placed
  pub stands : (b : Block) → In b (blocks_of x l) → Stands f b.at b.bytes
  -- every placed column: fields that are wide enough, payloads that are due, addresses below 2 ^ 64
  pub columns : (p : Placed) → In p l.placed → ColumnSound x.image x.block_size p
  pub refers : (p : Placed) → In p l.placed → Refers (rules_of x) x.image p.column

-- ---- which blocks of the file are used

-- of the first column, and of those after it
module _ {b : Block} (o : Rules) (s : List ℕ) (size : ℕ) (memo : List Copy) (ats : List Attachment) (all : List Placed) (p : Placed) (ps : List Placed) where
  pub in_list : In b (dl_blocks s size p) → In b (structure_blocks o s size memo ats all (p ∷ ps))
  unfolding structure_blocks
  in_list i = there (there (there (in_front_lem (structure_blocks o s size memo ats all ps) i)))

  pub in_later : In b (structure_blocks o s size memo ats all ps) → In b (structure_blocks o s size memo ats all (p ∷ ps))
  unfolding structure_blocks
  in_later i = there (there (there (in_back (dl_blocks s size p) i)))

module _ {b : Block} (s : List ℕ) (size : ℕ) (p : Placed) (ps : List Placed) where
  pub in_payload : In b (blocks_at s size p) → In b (data_blocks s size (p ∷ ps))
  unfolding data_blocks
  in_payload i = in_front_lem (sd_blocks s p.column.signal_of p.sd ++ data_blocks s size ps) i

  pub in_signal : In b (sd_blocks s p.column.signal_of p.sd) → In b (data_blocks s size (p ∷ ps))
  unfolding data_blocks
  in_signal i = in_back (blocks_at s size p) (in_front_lem (data_blocks s size ps) i)

  pub in_data_later : In b (data_blocks s size ps) → In b (data_blocks s size (p ∷ ps))
  unfolding data_blocks
  in_data_later i = in_back (blocks_at s size p) (in_back (sd_blocks s p.column.signal_of p.sd) i)

-- of the file
module _ (x : Args) (l : Layout) where
  abbrev pub history_copies : List Block
  history_copies = copied_blocks x.image l.past.chain (memo_of l) l.fh l.past.made.memo

  abbrev pub column_copies : List Block
  column_copies = copied_blocks x.image l.past.chain (memo_of l) l.fh (drop (length l.past.made.memo) l.metadata.memo)

  abbrev pub structure : List Block
  structure = structure_blocks (rules_of x) x.image x.block_size (memo_of l) l.attached.attachments l.placed l.placed

  abbrev pub column_data : List Block
  column_data = data_blocks x.image x.block_size l.placed

  abbrev pub attachments : List Block
  attachments = attachment_blocks x.image l.past.chain (memo_of l) l.fh l.attached.attachments

  pub in_hd : In (hd_block x.image l) (blocks_of x l)
  unfolding blocks_of
  in_hd = there here

  -- all blocks after HD
  abbrev pub after_hd : List Block
  after_hd =
      history_copies
      ++ (block l.md (md_bytes x.text) ∷ block l.fh (fh_bytes l.md x.time)
      ∷ (column_copies ++ (structure ++ (column_data ++ attachments))))

  pub in_rest : {b : Block} → In b after_hd → In b (blocks_of x l)
  unfolding blocks_of
  in_rest i = there (there i)

  pub in_history : {b : Block} → In b history_copies → In b after_hd
  in_history i = in_front_lem _ i

  pub in_md : In (block l.md (md_bytes x.text)) after_hd
  in_md = in_back history_copies here

  pub in_fh : In (block l.fh (fh_bytes l.md x.time)) after_hd
  in_fh = in_back history_copies (there here)

  pub in_columns_lem : {b : Block} → In b column_copies → In b after_hd
  in_columns_lem i = in_back history_copies (there (there (in_front_lem _ i)))

  pub in_attachments : {b : Block} → In b attachments → In b after_hd
  in_attachments i = in_back history_copies (there (there (in_back column_copies (in_back structure (in_back column_data i)))))

  -- they begin past HD's address, and end by the file's end
  pub rest-within : {b : Block} → Ordered 0 (blocks_of x l) l.file_size_lem → In b after_hd → (64 ≤ b.at) × (b.at + length b.bytes ≤ l.file_size_lem)
  unfolding blocks_of Ordered hd_block
  rest-within o i =
      (omega (arith, ordered-from after_hd _ l.file_size_lem o.1.1 i), ordered-by after_hd _ l.file_size_lem o.1.1 i)

  pub in_structure : {b : Block} → In b structure → In b (blocks_of x l)
  unfolding blocks_of
  in_structure i = there (there (in_back history_copies (there (there (in_back column_copies (in_front_lem (column_data ++ attachments) i))))))

  pub in_data : {b : Block} → In b column_data → In b (blocks_of x l)
  unfolding blocks_of
  in_data i = there (there (in_back history_copies (there (there (in_back column_copies (in_back structure (in_front_lem attachments i)))))))

-- ---- the chain of DG

-- a CG's address is below 2 ^ 64
pub cg-below : (ps : List Placed) → ((p : Placed) → In p ps → dl_of p < 256 ^ 8) → (m : ℕ) → cg_at m ps < 256 ^ 8
unfolding cg_at
cg-below [] h m = lit< tt
cg-below (p ∷ ps) h zero = let e = h p here in omega arith
cg-below (p ∷ ps) h (suc m) = cg-below ps (λ q i. h q (there i)) m

next-below : (s : List ℕ) (size : ℕ) (ps : List Placed) → ((p : Placed) → In p ps → ColumnSound s size p) → next_dg ps < 256 ^ 8
next-below s size [] h = lit< tt
next-below s size (p ∷ ps) h = let e = (h p here).structure_ends in omega arith

-- from a column's DG on, the columns from there on
pub chain-shown : {f : List ℕ} (o : Rules) (s : List ℕ) (size : ℕ) (memo : List Copy) (ats : List Attachment) (all ps : List Placed) (k : ℕ) → length ps ≤ k
    → ((p : Placed) → In p ps → ColumnSound s size p) → ((p : Placed) → In p ps → Refers o s p.column) → ((m : ℕ) → cg_at m all < 256 ^ 8)
    → ((b : Block) → In b (structure_blocks o s size memo ats all ps) → Stands f b.at b.bytes)
    → ((b : Block) → In b (data_blocks s size ps) → Stands f b.at b.bytes)
    → shown_from k f (next_dg ps) ≡ due_all o s size all ps
unfolding shown_from due_all structure_blocks data_blocks
chain-shown o s size memo ats all [] zero h sound refers below made filled = refl
chain-shown o s size memo ats all [] (suc k) h sound refers below made filled = sym (eq_yes _ _ _ _ refl refl)
chain-shown o s size memo ats all (p ∷ ps) zero h sound refers below made filled = absurd (omega arith)
chain-shown {f} o s size memo ats all (p ∷ ps) (suc k) h sound refers below made filled =
    let c : ColumnSound s size p = sound p here in
    let one : shown_at f p.dg ≡ due o s size all p =
    column-shown o s size memo ats all p (next_dg ps) c (refers p here) below (made _ here) (made _ (there here)) (made _ (there (there here)))
    (λ b i. made b (in_list o s size memo ats all p ps i)) (λ b i. filled b (in_payload s size p ps i))
    (λ b i. filled b (in_signal s size p ps i)) in
    let next : link_at f p.dg 0 ≡ next_dg ps =
    dg-next s size memo all p (next_dg ps) c (made _ here) (next-below s size ps (λ q i. sound q (there i))) in
    let more = chain-shown o s size memo ats all ps k (omega arith) (λ q i. sound q (there i)) (λ q i. refers q (there i)) below
    (λ b i. made b (in_later o s size memo ats all p ps i)) (λ b i. filled b (in_data_later s size p ps i)) in
    let a : 0 < p.dg = c.dg_above in
    sym (eq_no _ _ _ _ (λ e. omega arith) (sym (rw (next, one, more))))

-- HD leads to the first DG
pub hd-first : {f : List ℕ} (s : List ℕ) (l : Layout) → Stands f 64 (hd_block s l).bytes → next_dg l.placed < 256 ^ 8
    → link_at f 64 0 ≡ next_dg l.placed
unfolding hd_block hd_links
hd-first {f} s l st h =
    block-link kind_hd 104 (hd_links (next_dg l.placed) _ _ _) (hd_data s) (rw (hd_shape s (next_dg l.placed) _ _ _) at st) 0 (lit< tt) h

-- "Shown: from HD, in planning's order .. one DG per planned column, each with one CG and its one CN":
-- a sound file shows exactly what is due, however far one looks
pub shows_due : {f : List ℕ} (x : Args) (l : Layout) → Sound x l f → (k : ℕ) → length l.placed ≤ k
    → shown f k ≡ due_all (rules_of x) x.image x.block_size l.placed l.placed
unfolding shown hd_block
shows_due {f} x l sound k h =
    let first : link_at f 64 0 ≡ next_dg l.placed =
    hd-first x.image l (sound.stands (hd_block x.image l) (in_hd x l))
    (next-below x.image x.block_size l.placed sound.columns) in
    rw first (chain-shown (rules_of x) x.image x.block_size (memo_of l) l.attached.attachments l.placed l.placed k h sound.columns sound.refers
    (cg-below l.placed (λ p i. (sound.columns p i).structure_ends))
    (λ b i. sound.stands b (in_structure x l i)) (λ b i. sound.stands b (in_data x l i)))
