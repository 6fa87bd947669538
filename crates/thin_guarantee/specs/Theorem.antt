-- Every file that taking columns out makes has what document 02, request 13, promises.
use Rattle.std.specs.Prelude.{ℕ, ◌+◌, ◌^◌, ◌≤◌, ◌<◌, List, true, false, ◌≡◌}
use Rattle.std.proofs.Math.Option.{Option, none, some}
use Rattle.std.proofs.Math.Path.{refl, sym, ap}
use Rattle.std.proofs.Common.{subst, ◌∙◌, arith, lit<}
use Rattle.std.proofs.Math.ListN.{length}
use Rattle.base.specs.ChoiceLaws.{lt_no, lt_back, eq_yes}
use Rattle.base.specs.Blit.{blit, part}
use Rattle.base.specs.BlitLaws.{length_part}
use Rattle.base.specs.Checked.{ok, fine}
use Rattle.base.specs.CheckedLaws.{refused≢ok}
use Rattle.base.specs.Field.{le_at}
use Rattle.mdf.specs.Block.{HD}
use Rattle.mdf.specs.Identification.{identified}
use Rattle.mdf.specs.Group.{group_flags}
use Rattle.plan.specs.Channel.{bit}
use Rattle.plan.specs.Columns.{remote_link, Column}
use Rattle.plan.specs.Photos.{photos_in}
use Rattle.plan.specs.Layout.{Placed, cn_of, Layout, past_copies}
use Rattle.result.specs.Fill.{Block, hd_data, next_dg, new_link}
use Rattle.result.specs.Result.{memo_of, hd_block}
use Rattle.result.specs.Recording.{attached_from}
use Rattle.result.specs.Ordered.{Ordered}
use Rattle.result.specs.Guarantee.{Stands, In, here, there}
use Rattle.copies_laws.specs.LengthLaws.{length-hd}
use Rattle.copies_laws.specs.CopyLaws.{root_grown}
use Rattle.plan_laws.specs.DecideLaws.{none≢some, some_same}
use Rattle.payload_laws.specs.UnitLaws.{IsUnit, unit_is}
use Rattle.shown_laws.specs.Standing.{part-part, field_at}
use Rattle.shown_laws.specs.Joined.{stands_inside}
use Rattle.shown_laws.specs.AllShown.{hd-first, cg-below}
use Rattle.guarantee.specs.Ends.{history-followed, attachments-followed}
use Rattle.guarantee.specs.Front.{header-head, header_data_lem, header_hierarchy, header_events}
use Rattle.guarantee.specs.Theorem.{AllBytes}
use Rattle.file.specs.Form.{FileColumn}
use Rattle.file.specs.Opened.{opened}
use Rattle.file_laws.specs.Standing.{AllStand, FileStands}
use Rattle.file_laws.specs.StandingLaws.{opened_stands}
use Rattle.file_guarantee.specs.Passed.{block-fine}
use Rattle.file_guarantee.specs.Columns.{stand-from}
use Rattle.file_guarantee.specs.Theorem.{placed-many}
use Rattle.sheet.specs.Sheet.{master_of}
use Rattle.thin.specs.Kept.{new_master, is_taken, kept_column, kept_columns}
use Rattle.thin.specs.Place.{most_kept}
use Rattle.thin.specs.Fill.{kept_data, kept_structure, kept_blocks, blocks_kept, file_kept}
use Rattle.thin.specs.TakenOut.{answer}
use Rattle.thin.specs.Guarantee.{SameData, ColumnKept, ColumnsKept, TakenOut}
use Rattle.thin_laws.specs.Inside.{Inside}
use Rattle.thin_laws.specs.LaidLaws.{LaidKept, laid_kept}
use Rattle.thin_laws.specs.OrderLaws.{kept-ordered}
use Rattle.thin_laws.specs.FileLaws.{kept_apart, kept-filled}
use Rattle.thin_laws.specs.MemberLaws.{structure, column_data, in_ident, in_rest, in_structure, in_data, in_later, in_data_later}
use Rattle.thin_laws.specs.PlaceLaws.{kept-columns, kept_ascending, kept_in_lem, kept-short}
use Rattle.thin_laws.specs.CloseLaws.{kept_close, kept-starts}
use Rattle.thin_shown.specs.Sound.{new_column, old_column, KeptSound, KeptStands, MasterPlaced}
use Rattle.thin_shown.specs.Data.{kept_same}
use Rattle.thin_shown.specs.Column.{remote_flag}
use Rattle.thin_shown.specs.Kept.{names_kept, photo_links_lem, column-kept}
use Rattle.thin_guarantee.specs.Accepted.{Accepted, accepted}
use Rattle.thin_guarantee.specs.OpenedFacts.{OpenedFacts, opened_facts}
use Rattle.thin_guarantee.specs.Numbers.{kept-few, number-kept, master_below}
use Rattle.thin_guarantee.specs.KeptLaws.{Tested, Thinned, thinned, tested_inside, FromFile, from-file}
use Rattle.thin_guarantee.specs.Copied.{column-followed, link-led, led-small, led_name, hd_stands, comment_due, history-kept, attached_due, photos_led}
use Rattle.thin_guarantee.specs.Columns.{at_places, kept-sound, new_columns, first-same, columns-many, next-below, first_stands, columns-stand, numbered, number-placed, PlacedOf, none_left, taken, stays, placed_of, blocks-few}

-- ---- the first 64 bytes
module _ (s : List ℕ) (fits : identified s ≡ fine) where
  pub ident_inside : 64 ≤ length s
  unfolding identified
  ident_inside = (lt_back _ _ _ _ fits refused≢ok).0

  ident-length : length (part 0 64 s) ≡ 64
  ident-length = length_part 0 64 s ident_inside

  -- a file that begins with them has the same identification
  ident-kept : (f : List ℕ) → Stands f 0 (part 0 64 s) → identified f ≡ fine
  unfolding identified
  ident-kept f st =
      let inside : 64 ≤ length f = omega (arith, ident-length, stands_inside (part 0 64 s) st (omega (arith, ident-length))) in
      let front : part 0 64 f ≡ part 0 64 s = rw ident-length at st.is in
      let mark : le_at 8 f 0 ≡ le_at 8 s 0 = field_at 8 s 0 64 0 0 0 st ident_inside (lit< tt) refl refl in
      let version : part 8 8 f ≡ part 8 8 s =
      sym (part-part 0 64 8 8 f (lit< tt)) ∙ ap (part 8 8) front ∙ part-part 0 64 8 8 s (lit< tt) in
      sym (lt_no _ _ _ _ inside (rw (mark, version) (sym (lt_back _ _ _ _ fits refused≢ok).1)))

-- ---- masters
-- a CG with a master has its seventh link
has_remote : (s : List ℕ) (all : List FileColumn) (g m : ℕ) → master_of s all g ≡ some m → remote_link s g ≡ 0 → ⊥
unfolding master_of
has_remote s all g m e z = none≢some (eq_yes _ _ _ _ z refl ∙ e)

-- the master n of a kept column, by its new number, and of the CG at g, by its flags
record MasterIn (s numbers : List ℕ) (all : List FileColumn) (g n : ℕ) : Type 0 where
  flagged : bit 3 (group_flags s g) ≡ 1
  within : n < length (kept_columns s numbers all)

master_in_lem : (s numbers : List ℕ) (all : List FileColumn) (g : ℕ) (m : Option ℕ) → master_of s all g ≡ m → is_taken m numbers ≡ false
    → (n : ℕ) → new_master numbers m ≡ some n → MasterIn s numbers all g n
master_in_lem s numbers all g none e k n q = absurd (none≢some q)
master_in_lem s numbers all g (some m) e k n q =
    record {
      flagged = remote_flag s g (has_remote s all g m e);
      within = subst (λ (i : ℕ). i < length (kept_columns s numbers all)) (some_same q) (number-kept s numbers all m (master_below s all g m e) k);
    }

module _ (u : ℕ) (s numbers out : List ℕ) (all : List FileColumn) (l : Layout) (bytes : AllBytes s)
    (a : Accepted u s numbers (length out) all l) where
  -- ---- what is known
  abbrev cs : List Column
  cs = kept_columns s numbers all

  abbrev f : List ℕ
  f = blit 0 (file_kept s l) out

  abbrev ats : List ℕ
  ats = attached_from l.attached.attachments

  abbrev news : List FileColumn
  news = new_columns l.placed

  pub known : OpenedFacts s all
  known = opened_facts s all a.steps.opens

  pub o : LaidKept u s cs l
  o = laid_kept u s cs l a.steps.laid

  pub unit : IsUnit u
  unit = unit_is u a.steps.unit

  pub long : 64 ≤ length s
  long = ident_inside s known.ident

  thin : Thinned s numbers all 0 all cs
  unfolding kept_columns
  thin = thinned s numbers all 0 all known.each a.steps.sound a.steps.masters a.steps.photos

  pub from : (c : Column) → In c cs → FromFile s numbers all all c
  from c i = from-file thin i

  pub lies : (c : Column) → In c cs → Inside s c
  lies c i = let r = from c i in subst (Inside s) (sym r.same) (tested_inside s bytes numbers all r.column r.tested)

  pub order : Ordered 0 (blocks_kept s l) l.file_size_lem
  order = kept-ordered o unit long lies

  pub small : l.file_size_lem < 256 ^ 8
  small = omega (arith, a.small)

  pub filled : (b : Block) → In b (blocks_kept s l) → Stands f b.at b.bytes
  filled = kept-filled s l order out a.fits

  pub made : (b : Block) → In b (structure s l) → Stands f b.at b.bytes
  made b i = filled b (in_rest s l (in_structure s l i))

  pub data_made : (b : Block) → In b (column_data s l) → Stands f b.at b.bytes
  data_made b i = filled b (in_rest s l (in_data s l i))

  pub sound : (p : Placed) → In p l.placed → KeptSound s p
  sound p i =
      let r = from p.column (kept_in_lem o p i) in
      kept-sound s bytes numbers all r.column p r.tested r.same (kept-short o unit a.small p i)

  pub hd : Stands f 64 (hd_block s l).bytes
  hd = hd_stands u s cs l o f bytes order small filled

  pub link-small : (b : ℕ) → new_link (memo_of l) b < 256 ^ 8
  link-small = led-small u s cs l o f bytes order small filled

  -- ---- it is opened
  all-stand : AllStand f 0 news
  all-stand =
      stand-from f 0 (past_copies l.metadata) news (omega arith)
      (columns-stand s (memo_of l) l.attached.attachments l.placed link-small (led_name u s cs l o f bytes order small filled)
      l.placed _ _ (kept_ascending o) sound made data_made)

  many : length l.placed ≡ length cs
  many = sym (placed-many l.placed) ∙ ap length (kept-columns o)

  placed-all : PlacedOf s numbers all 0 all l.placed
  placed-all = placed_of thin l.placed (kept-columns o)

  ident : Stands f 0 (part 0 64 s)
  ident = filled _ (in_ident s l)

  hd_inside : 64 + 104 ≤ length f
  unfolding hd_block
  hd_inside =
      let n : length (hd_block s l).bytes ≡ 104 = length-hd s _ _ _ _ in
      omega (arith, n, stands_inside (hd_block s l).bytes hd (omega arith))

  file_stands : FileStands f news
  unfolding kept_columns
  file_stands =
      record {
        ident = ident-kept s known.ident f ident;
        header = block-fine f 64 _ (header-head s l f hd) HD refl (lit< tt) (lit< tt) (lit< tt) hd_inside;
        first = hd-first s l hd (next-below s l.placed sound) ∙ sym (first-same l.placed);
        columns = all-stand;
        few = omega (arith, columns-many l.placed, many, kept-few s numbers all 0 all, known.few);
        few_blocks = omega (arith, blocks-few placed-all, known.few_blocks);
      }

  pub opens : opened f ≡ ok news
  opens = opened_stands f news file_stands

  -- ---- one column
  master_placed : (c : FileColumn) → Tested s numbers all c → (n : ℕ) → new_master numbers (master_of s all c.cg) ≡ some n
      → MasterPlaced s l.placed news c.cg n
  master_placed c t n q =
      let r = master_in_lem s numbers all c.cg (master_of s all c.cg) refl t.kept n q in
      let h : n < length l.placed = omega (arith, many, r.within) in
      record {
        flagged = r.flagged;
        above = (numbered l.placed n h).above;
        below = cg-below l.placed (λ p i. (sound p i).structure_ends) n;
        numbered = number-placed f l.placed 0 n all-stand h;
      }

  placed-kept : (c : FileColumn) (p : Placed) (next : ℕ) → Tested s numbers all c → p.column ≡ kept_column s numbers all c → In p l.placed
      → KeptStands s f (memo_of l) l.attached.attachments l.placed p next
      → ColumnKept s f numbers l.past.chain ats all news c (new_column p)
  placed-kept c p next t e i st =
      let k : KeptSound s p = sound p i in
      let old : old_column p ≡ c = ap (λ (x : Column). old_column (at_places p x)) e in
      let at : p.column.group.at ≡ c.cg = ap (λ (x : Column). x.group.at) e in
      let master : p.column.master ≡ new_master numbers (master_of s all c.cg) = ap (λ (x : Column). x.master) e in
      let tested : photos_in true s p.column.channel ≡ fine = subst (λ (x : Column). photos_in true s x.channel ≡ fine) (sym e) t.photos in
      let follows = column-followed u s cs l o p.column (kept_in_lem o p i) in
      subst (λ (x : FileColumn). ColumnKept s f numbers l.past.chain ats all news x (new_column p)) old
      (column-kept k st numbers l.past.chain ats all news (rw at master) (λ n q. rw at (master_placed c t n (sym master ∙ q)))
      (names_kept k st l.past.chain link-small (λ j b h. link-led u s cs l o f bytes order small filled j b (follows b h)))
      (photos_led u s cs l o f bytes order small filled p.column.channel (cn_of p) tested (photo_links_lem k st)))

  -- ---- "the others in order"
  columns-kept : {k : ℕ} {fs : List FileColumn} {ps : List Placed} → PlacedOf s numbers all k fs ps → ((p : Placed) → In p ps → In p l.placed)
      → ((b : Block) → In b (kept_structure s (memo_of l) l.attached.attachments l.placed ps) → Stands f b.at b.bytes)
      → ((b : Block) → In b (kept_blocks s ps) → Stands f b.at b.bytes)
      → ColumnsKept s f numbers l.past.chain ats all news k fs (new_columns ps)
  unfolding new_columns
  columns-kept none_left within m d = ColumnsKept.done
  columns-kept (taken q r) within m d = ColumnsKept.out q (columns-kept r within m d)
  columns-kept (stays {c = c} {p = p} {ps = ps} q t e r) within m d =
      ColumnsKept.kept q
      (placed-kept c p (next_dg ps) t e (within p here) (first_stands s (memo_of l) l.attached.attachments l.placed p ps m d))
      (columns-kept r (λ x i. within x (there i)) (λ b i. m b (in_later s (memo_of l) l.attached.attachments l.placed p ps i))
      (λ b i. d b (in_data_later s p ps i)))

  few_comment : length l.comment.memo ≤ most_kept
  few_comment = omega (arith, (root_grown s _ _ _ o.comment).few (omega arith))

  same-header : SameData 32 s f 64 64
  unfolding hd_data kept_data
  same-header = kept_same (header_data_lem s l f hd)

  pub taken_out : TakenOut u s numbers all l f
  taken_out =
      record {
        ident = rw (ident-length s known.ident) at ident.is;
        head = header-head s l f hd;
        header_data = same-header;
        hierarchy = header_hierarchy s l f hd;
        events = header_events s l f hd;
        news = news;
        opens = opens;
        columns = columns-kept placed-all (λ p i. i) made data_made;
        comment = comment_due u s cs l o f bytes order small filled;
        history = history-kept u s cs l o f bytes order small filled;
        history_ends = history-followed most_kept s _ _ _ o.past few_comment;
        attachments = attached_due u s cs l o f bytes order small filled;
        attachments_end = attachments-followed most_kept s _ _ _ o.attached;
        filled = filled;
        apart = kept_apart s l order;
        starts = kept-starts o unit;
        close = kept_close o unit long lies;
      }

-- every accepted call's final bytes
pub takes_out : (u : ℕ) (s numbers out : List ℕ) (all : List FileColumn) (l : Layout) → AllBytes s → opened s ≡ ok all
    → answer u s numbers (length out) ≡ ok l → TakenOut u s numbers all l (blit 0 (file_kept s l) out)
takes_out u s numbers out all l bytes e answered = taken_out u s numbers out all l bytes (accepted u s numbers (length out) all l e answered)
