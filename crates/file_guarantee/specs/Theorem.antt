-- From every accepted result the reader reads the records that the archive was promised.
use Prim.{tt}
use Prim.Native.Nat.{ℕ, zero, suc, ◌+◌, ◌*◌, ◌≤◌, ◌<◌}
use Rattle.std.specs.Prelude.{List, [], ◌∷◌, true, ◌≡◌, refl, get_or}
use Rattle.std.proofs.Math.Option.{Option, none, some}
use Rattle.std.proofs.Common.{sym, subst, ◌∙◌, one-mul, arith, lit<}
use Rattle.std.proofs.Math.Path.{ap}
use Rattle.std.proofs.Math.Nat.{add-mul, mul_comm, mul-le-mul_right}
use Rattle.std.proofs.Math.ListN.{length}
use Rattle.base.specs.Blit.{blit, part}
use Rattle.base.specs.BlitLaws.{length_part}
use Rattle.base.specs.Checked.{ok, refused, fine}
use Rattle.mdf.specs.Block.{HD}
use Rattle.plan.specs.Channel.{width}
use Rattle.plan.specs.Columns.{Column}
use Rattle.plan.specs.Data.{is_nonempty}
use Rattle.plan.specs.Layout.{Layout, Placed, placed_from, past_copies, column_width, payload_size}
use Rattle.result.specs.Payload.{records_of, cell}
use Rattle.result.specs.Fill.{Block, structure_blocks, data_blocks}
use Rattle.result.specs.Due.{due_payload, FrontDue}
use Rattle.result.specs.Result.{Args, Decided, memo_of, hd_block, blocks_of, file_of, answer, rules_of}
use Rattle.result.specs.Guarantee.{Stands, In, here, there, column_at, columns_placed}
use Rattle.copies_laws.specs.LengthLaws.{length-hd}
use Rattle.copies_laws.specs.LayoutLaws.{columns-placed}
use Rattle.payload_laws.specs.ColumnLaws.{column-joined, column-bytes}
use Rattle.plan_laws.specs.Decision.{answer_accepted}
use Rattle.plan_laws.specs.Known.{Known, answer-known}
use Rattle.shown_laws.specs.Joined.{stands_inside}
use Rattle.shown_laws.specs.AllShown.{in_hd, in_structure, in_data, hd-first}
use Rattle.shown_laws.specs.Final.{file-filled}
use Rattle.guarantee.specs.Front.{front-due}
use Rattle.guarantee.specs.Named.{new_small}
use Rattle.guarantee.specs.Copied.{copy_stands}
use Rattle.guarantee.specs.Theorem.{AllBytes, o, sized, in_image, ordered, column_in_lem, file-below, sound, refers}
use Rattle.file.specs.Form.{FileColumn, cycles}
use Rattle.file.specs.Opened.{opened}
use Rattle.file.specs.Range.{file_column_at, start_of, bytes_of, range_of, ranged, read_into}
use Rattle.file_laws.specs.Standing.{AllStand, FileStands}
use Rattle.file_laws.specs.StandingLaws.{opened_stands}
use Rattle.file_laws.specs.RangeLaws.{ranged_ok, ranged-none, ranged-past, read_ranged}
use Rattle.file_guarantee.specs.Passed.{block-fine, ident-fine}
use Rattle.file_guarantee.specs.Names.{names_fine}
use Rattle.file_guarantee.specs.ColumnForm.{file_column}
use Rattle.file_guarantee.specs.Columns.{Good, file_columns, first-same, stand-from, next-below, columns-stand, columns-many, blocks-many, ColumnRead, columns_read}
use Rattle.file_guarantee.specs.Cells.{cell-part}
use Rattle.file_guarantee.specs.Reads.{Reads}

-- ---- columns by number
pub record PlacedAt (s : List ℕ) (size : ℕ) (ps : List Placed) (k : ℕ) (c : Column) : Type 0 where
  pub placed : Placed
  pub is_in : In placed ps
  pub same : placed.column ≡ c
  pub numbered : file_column_at k (file_columns s size ps) ≡ some (file_column s size placed)

placed-at : (s : List ℕ) (size : ℕ) (ps : List Placed) (k : ℕ) (c : Column) → column_at k (columns_placed ps) ≡ some c → PlacedAt s size ps k c
unfolding column_at columns_placed file_column_at file_columns
placed-at s size [] k c e = absurd (none≢some e)
  where
    none≢some : ◌≡◌ {A = Option Column} none (some c) → ⊥
    none≢some q = let z : ◌≡◌ {A = ℕ} 0 1 = cc in omega arith
placed-at s size (p ∷ ps) zero c e = record { placed = p; is_in = here; same = some_same e; numbered = refl }
  where
    some_same : {a b : Column} → ◌≡◌ {A = Option Column} (some a) (some b) → a ≡ b
    some_same q = cc
placed-at s size (p ∷ ps) (suc k) c e =
    let r = placed-at s size ps k c e in
    record { placed = r.placed; is_in = there r.is_in; same = r.same; numbered = r.numbered }

pub placed-many : (ps : List Placed) → length (columns_placed ps) ≡ length ps
unfolding columns_placed
placed-many [] = refl
placed-many (p ∷ ps) = ap suc (placed-many ps)

past-none : (k : ℕ) (cs : List FileColumn) → length cs ≤ k → file_column_at k cs ≡ none
unfolding file_column_at
past-none k [] h = refl
past-none zero (c ∷ cs) h = absurd (omega arith)
past-none (suc k) (c ∷ cs) h = past-none k cs (omega arith)

-- ---- a result
module _ (x : Args) (d : Decided) (k : Known x d) (out : List ℕ) (room : d.laid_out.file_size_lem ≤ length out)
    (bytes : AllBytes x.image) (ident_bytes : AllBytes x.ident) where
  abbrev l : Layout
  l = d.laid_out

  abbrev f : List ℕ
  f = blit 0 (file_of x d.laid_out) out

  abbrev cols : List FileColumn
  cols = file_columns x.image x.block_size l.placed

  filled : (b : Block) → In b (blocks_of x l) → Stands f b.at b.bytes
  filled = file-filled x l out (ordered x d k) room

  due-length : (c : Column) → In c d.planned.columns → length (due_payload x.image c) ≡ payload_size x.image c
  due-length c i =
      let z = sized x d k c i in
      ap length (sym (column-joined x.image x.block_size c z.ready)) ∙ column-bytes x.image x.block_size c z.ready

  good : (p : Placed) → In p l.placed → Good x.image x.block_size p
  good p i =
      record {
        sound = sound x d k bytes p i;
        inside = in_image x d k p.column (column_in_lem x d k p i);
        long = due-length p.column (column_in_lem x d k p i);
      }

  abbrev placed' : List Placed
  placed' = placed_from (rules_of x) x.image x.block_size (past_copies l.metadata) l.metadata_end_lem d.planned.columns

  made : (b : Block) → In b (structure_blocks (rules_of x) x.image x.block_size (memo_of l) l.attached.attachments l.placed l.placed) → Stands f b.at b.bytes
  made b i = filled b (in_structure x l i)

  data_in : (b : Block) → In b (data_blocks x.image x.block_size l.placed) → Stands f b.at b.bytes
  data_in b i = filled b (in_data x l i)

  all-stand : AllStand f 0 cols
  all-stand =
      let e : l.placed ≡ placed' = (o x d k).placed in
      let copied = copy_stands x d.planned.columns l (o x d k) f bytes (ordered x d k) (file-below x d k) filled in
      subst (λ (ps : List Placed). AllStand f 0 (file_columns x.image x.block_size ps)) (sym e)
      (stand-from f 0 (past_copies l.metadata) (file_columns x.image x.block_size placed') (omega arith)
      (columns-stand (rules_of x) x.image x.block_size (memo_of l) l.attached.attachments l.placed
      (new_small x.image f bytes l.past.chain (memo_of l) l.fh copied) (names_fine x.image f l.past.chain (memo_of l) l.fh copied)
      d.planned.columns (past_copies l.metadata) l.metadata_end_lem
      (λ p i. good p (subst (In p) (sym e) i)) (λ p i. refers x d k p.column (column_in_lem x d k p (subst (In p) (sym e) i)))
      (λ b i. made b (subst (λ (ps : List Placed). In b (structure_blocks (rules_of x) x.image x.block_size (memo_of l) l.attached.attachments l.placed ps)) (sym e) i))
      (λ b i. data_in b (subst (λ (ps : List Placed). In b (data_blocks x.image x.block_size ps)) (sym e) i))))

  many : length l.placed ≡ length d.planned.columns
  many = sym (placed-many l.placed) ∙ ap length (columns-placed (o x d k))

  pub cols-many : length cols ≡ length d.planned.columns
  cols-many = columns-many x.image x.block_size l.placed ∙ many

  front : FrontDue x f
  front = front-due x l f filled k.steps.lent

  hd_stands : Stands f 64 (hd_block x.image l).bytes
  unfolding hd_block
  hd_stands = filled (hd_block x.image l) (in_hd x l)

  hd_inside : 64 + 104 ≤ length f
  unfolding hd_block
  hd_inside =
      let n : length (hd_block x.image l).bytes ≡ 104 = length-hd x.image _ _ _ _ in
      omega (arith, n, stands_inside (hd_block x.image l).bytes hd_stands (omega arith))

  pub file_stands : FileStands f cols
  file_stands =
      record {
        ident = ident-fine f x.ident ident_bytes k.steps.lent.ident_length k.steps.lent.ident_version front.ident front.mark;
        header = block-fine f 64 _ front.head HD refl (lit< tt) (lit< tt) (lit< tt) hd_inside;
        first = hd-first x.image l hd_stands (next-below x.image x.block_size l.placed good)
            ∙ sym (first-same x.image x.block_size l.placed);
        columns = all-stand;
        few = omega (arith, cols-many, k.few_columns);
        few_blocks = omega (arith, blocks-many x.image x.block_size l.placed good, many, k.few_columns);
      }

  pub opens : opened f ≡ ok cols
  opens = opened_stands f cols file_stands

  -- ---- ranges
  pub at : (n : ℕ) (c : Column) → column_at n d.planned.columns ≡ some c → PlacedAt x.image x.block_size l.placed n c
  at n c e = placed-at x.image x.block_size l.placed n c (rw (columns-placed (o x d k)) e)

  read : (p : Placed) → In p l.placed → ColumnRead f x.image x.block_size p
  read = columns_read (rules_of x) x.image x.block_size (memo_of l) l.attached.attachments l.placed l.placed good made data_in

  range_is : (p : Placed) → In p l.placed → (first count : ℕ) → range_of f first count (file_column x.image x.block_size p)
      ≡ part (first * column_width x.image p.column) (count * column_width x.image p.column) (due_payload x.image p.column)
  unfolding range_of start_of bytes_of file_column
  range_is p i first count = let r = read p i in rw (r.width, r.payload)

  enough : (p : Placed) → In p l.placed → cycles f (file_column x.image x.block_size p).cg ≡ p.column.group.records
  unfolding file_column
  enough p i = (read p i).cycles

  reads : (n first count : ℕ) (c : Column) → column_at n d.planned.columns ≡ some c → first + count ≤ c.group.records
      → ranged f n first count ≡ ok (part (first * column_width x.image c) (count * column_width x.image c) (due_payload x.image c))
  reads n first count c e h =
      let a = at n c e in
      let p : Placed = a.placed in
      let q : p.column.group.records ≡ c.group.records = ap (λ (b : Column). b.group.records) a.same in
      ranged_ok f cols opens n first count (file_column x.image x.block_size p) a.numbered (omega (arith, enough p a.is_in))
      ∙ ap ok (range_is p a.is_in first count)
      ∙ ap (λ (b : Column). ok (part (first * column_width x.image b) (count * column_width x.image b) (due_payload x.image b))) a.same

  no_records_lem : (n first count : ℕ) (c : Column) → column_at n d.planned.columns ≡ some c → c.group.records < first + count
      → ranged f n first count ≡ refused 23 0
  no_records_lem n first count c e h =
      let a = at n c e in
      let q : a.placed.column.group.records ≡ c.group.records = ap (λ (b : Column). b.group.records) a.same in
      ranged-past f cols opens n first count (file_column x.image x.block_size a.placed) a.numbered (omega (arith, enough a.placed a.is_in))

  planned_in : (n : ℕ) (c : Column) → column_at n d.planned.columns ≡ some c → In c d.planned.columns
  planned_in n c e = let a = at n c e in subst (λ (b : Column). In b d.planned.columns) a.same (column_in_lem x d k a.placed a.is_in)

  -- all their bytes are there
  part-long : (c : Column) → In c d.planned.columns → (first count : ℕ) → first + count ≤ c.group.records
      → length (part (first * column_width x.image c) (count * column_width x.image c) (due_payload x.image c)) ≡ count * column_width x.image c
  unfolding payload_size
  part-long c i first count h =
      let w : ℕ = column_width x.image c in
      let most : (first + count) * w ≤ c.group.records * w = mul-le-mul_right w h in
      length_part (first * w) (count * w) (due_payload x.image c)
      (omega (arith, most, add-mul first count w, due-length c i, mul_comm w c.group.records))

  copies : (n first count : ℕ) (c : Column) (buffer : List ℕ) → column_at n d.planned.columns ≡ some c → first + count ≤ c.group.records
      → length buffer ≡ count * column_width x.image c
      → read_into f n first count buffer
      ≡ record { answered = fine; buffer = part (first * column_width x.image c) (count * column_width x.image c) (due_payload x.image c) }
  copies n first count c buffer e h l =
      read_ranged f n first count buffer _ (reads n first count c e h) (l ∙ sym (part-long c (planned_in n c e) first count h))

  -- a record of a nonempty column
  one_record : (c : Column) → In c d.planned.columns → is_nonempty x.image c ≡ true → (r : ℕ) → r < c.group.records
      → part (r * column_width x.image c) (1 * column_width x.image c) (due_payload x.image c)
      ≡ cell x.image c.group.at c.channel (get_or (records_of x.image c.group) r [])
  unfolding column_width due_payload
  one_record c i e r h =
      let z = (sized x d k c i).ready in
      let w = z.read e in
      rw (e, one-mul) (cell-part x.image c.group.at c.channel z.fit (w.long z.kept) r (omega (arith, w.many)))

  pub readable : Reads x.image d.planned.columns f
  unfolding column_width
  readable =
      record {
        columns = cols;
        opens = opens;
        as_many = cols-many;
        reads = reads;
        copies = copies;
        each = λ n r c e i h. reads n r 1 c e (omega arith) ∙ ap ok (one_record c (planned_in n c e) i r h);
        no_column = λ n first count h. ranged-none f cols opens n first count (past-none n cols (omega (arith, cols-many)));
        no_records = no_records_lem;
      }

-- every accepted call: image and identification are bytes, the final bytes are the file laid over the output
pub reads_promised : (x : Args) (out list : List ℕ) (d : Decided) → AllBytes x.image → AllBytes x.ident
    → answer x (length out) (length list) ≡ ok d → Reads x.image d.planned.columns (blit 0 (file_of x d.laid_out) out)
reads_promised x out list d bytes ident_bytes e =
    readable x d (answer-known x (length out) (length list) d e) out (answer_accepted x (length out) (length list) d e).output_fits bytes ident_bytes
