-- "with unit 8 the file is no longer than before, if that was made by the converter" (document 02, request 13).
use Rattle.std.specs.Prelude.{ℕ, ◌+◌, ◌≤◌, List, [], ◌∷◌, ◌≡◌, refl, length}
use Rattle.std.proofs.Math.Bool.{false}
use Rattle.std.proofs.Common.{sym, ap, subst, ◌∙◌, arith}
use Rattle.base.specs.Blit.{blit}
use Rattle.base.specs.Checked.{ok}
use Rattle.plan.specs.Columns.{Column}
use Rattle.plan.specs.Copies.{Copy, column_links}
use Rattle.plan.specs.Geometry.{align8}
use Rattle.plan.specs.Layout.{Layout, Placed, md_size, sizes_of}
use Rattle.result.specs.Result.{Args, Decided, rules_of, memo_of, file_of}
use Rattle.result.specs.Result as converter
use Rattle.result.specs.Fill.{md_bytes, fh_bytes}
use Rattle.result.specs.Guarantee.{Stands, In, here, there, columns_placed}
use Rattle.copies_laws.specs.LayoutLaws.{columns-placed}
use Rattle.payload_laws.specs.UnitLaws.{unit_is}
use Rattle.plan_laws.specs.Known.{Known, answer-known}
use Rattle.plan_laws.specs.TableLaws.{choices_unit}
use Rattle.shown_laws.specs.AllShown.{in_rest, in_md, in_fh}
use Rattle.guarantee.specs.Named.{CopyStands}
use Rattle.guarantee.specs.Theorem.{AllBytes, o, refers, column_in_lem}
use Rattle.file.specs.Form.{FileColumn}
use Rattle.file.specs.Opened.{opened}
use Rattle.file_laws.specs.StandingLaws.{opened_stands}
use Rattle.file_guarantee.specs.ColumnForm.{file_column}
use Rattle.file_guarantee.specs.Columns.{file_columns}
use Rattle.again_laws.proofs.WalkAgain.{result_columns, result_stands}
use Rattle.again_laws.proofs.HeldLaws.{result-held}
use Rattle.again_laws.proofs.DataAgain.{group_again}
use Rattle.again_laws.proofs.OrderAgain.{column_again}
use Rattle.again_laws.specs.GoodAgain.{nowhere, good_closed, next-good, md_size_lem, fh_size}
use Rattle.again_laws.proofs.ResultAgain.{GoodLink, filled, copied, md_small_lem, fh_small_lem, comment_good, history-good, first_attached, all_there, links_good}
use Rattle.thin.specs.Kept.{kept_column, kept_columns}
use Rattle.thin.specs.Place.{placed}
use Rattle.thin.specs.TakenOut.{answer}
use Rattle.thin_laws.specs.LaidLaws.{laid_kept}
use Rattle.thin_guarantee.specs.Accepted.{accepted}
use Rattle.thin_lengths.specs.Sums.{sum}
use Rattle.thin_lengths.specs.Grew.{taken}
use Rattle.thin_lengths.specs.Sizes.{Closed, Begun, kept_eight, laid-sized}
use Rattle.thin_lengths.specs.Fewer.{fewer}
use Rattle.thin_lengths.specs.ColumnSizes.{columns_no_more}
use Rattle.thin_lengths.specs.Blocks.{moved_no_more}
use Rattle.thin_lengths.specs.Standing.{first-led, good_inside, copy-size, AtOf, at-start, at_next, at_others, at_inside, at_size}
use Rattle.thin_lengths.specs.Accepted.{kept_of_lem}

md_on : (n : ℕ) → align8 (md_size n) ≡ md_size n
unfolding md_size align8
md_on n = omega arith

entry-on : align8 56 ≡ 56
unfolding align8
entry-on = refl

-- a column of the file is a placed one
placed_of : (s : List ℕ) (size : ℕ) (ps : List Placed) (c : FileColumn) → In c (file_columns s size ps) → (p : Placed) × In p ps × (c ≡ file_column s size p)
unfolding file_columns
placed_of s size [] c x' = elim x' [ ]
placed_of s size (p ∷ ps) c here = (p, here, refl)
placed_of s size (p ∷ ps) c (there i) = let r = placed_of s size ps c i in (r.0, there r.1, r.2)

module _ (x : Args) (out list : List ℕ) (d : Decided) (bytes : AllBytes x.image) (ident_bytes : AllBytes x.ident)
    (e : converter.answer x (length out) (length list) ≡ ok d) where
  abbrev f : List ℕ
  f = blit 0 (file_of x d.laid_out) out

  abbrev s : List ℕ
  s = x.image

  abbrev l : Layout
  l = d.laid_out

  abbrev cols : List FileColumn
  cols = result_columns x d

  k : Known x d
  k = answer-known x (length out) (length list) d e

  opens : opened f ≡ ok cols
  opens = opened_stands f cols (result_stands x out list d bytes ident_bytes e)

  abbrev good : ℕ → Type 0
  good = GoodLink x out list d bytes ident_bytes e

  abbrev all : (c : Copy) → In c (memo_of l) → CopyStands s f l.past.chain (memo_of l) l.fh c
  all = copied x out list d bytes ident_bytes e

  abbrev at : ℕ → Type 0
  at = AtOf s f bytes l.past.chain (memo_of l) l.md l.fh all l.attached.attachments

  -- the new MD and FH stand
  md_stands_lem : Stands f l.md (md_bytes x.text)
  md_stands_lem = filled x out list d bytes ident_bytes e _ (in_rest x l (in_md x l))

  fh_stands_lem : Stands f l.fh (fh_bytes l.md x.time)
  fh_stands_lem = filled x out list d bytes ident_bytes e _ (in_rest x l (in_fh x l))

  others-sum : sum (taken f) (l.md ∷ l.fh ∷ []) ≡ md_size (length x.text) + 56
  unfolding sum taken
  others-sum =
      let small = md_small_lem x out list d bytes ident_bytes e in
      let below = fh_small_lem x out list d bytes ident_bytes e in
      let short = k.steps.lent.text_length in
      let m = md_size_lem s f bytes l.past.chain (memo_of l) l.md l.fh all small below x.text x.time short md_stands_lem fh_stands_lem in
      let h = fh_size s f bytes l.past.chain (memo_of l) l.md l.fh all small below x.text x.time short md_stands_lem fh_stands_lem in
      rw (m, h, md_on (length x.text), entry-on) (omega arith)

  -- ---- links of the file lead to its copies, to its MD and FH, to its attachments
  closed : Closed f good at
  closed =
      let chain : List ℕ = l.past.chain in
      let small = md_small_lem x out list d bytes ident_bytes e in
      let below = fh_small_lem x out list d bytes ident_bytes e in
      let short = k.steps.lent.text_length in
      record {
        links = good_closed s f bytes chain (memo_of l) l.md l.fh all small below x.text x.time short md_stands_lem fh_stands_lem;
        past = λ b g n. first-led good f b (nowhere refl)
            (next-good s f bytes chain (memo_of l) l.md l.fh all small below x.text x.time short md_stands_lem fh_stands_lem b g n);
        others = at_others s f bytes chain (memo_of l) l.md l.fh all l.attached.attachments;
        next = at_next s f bytes chain (memo_of l) l.md l.fh all l.attached.attachments;
      }

  -- what header and columns lead to
  column_links_lem : (numbers : List ℕ) (p : Placed) → In p l.placed → (a : ℕ)
      → In a (column_links f (kept_column f numbers cols (file_column s x.block_size p))) → good a
  unfolding file_column column_again group_again
  column_links_lem numbers p i a j = links_good x out list d bytes ident_bytes e p i false a j

  begun : (numbers : List ℕ) → Begun f good at (kept_columns f numbers cols)
  begun numbers =
      record {
        comment = comment_good x out list d bytes ident_bytes e;
        history = history-good x out list d bytes ident_bytes e;
        attachments = subst at (sym (first_attached x out list d bytes ident_bytes e))
            (at-start s f bytes l.past.chain (memo_of l) l.md l.fh all l.attached.attachments (all_there x out list d bytes ident_bytes e));
        columns = λ c i a j.
            let r = kept_of_lem f numbers cols c i in
            let q = placed_of s x.block_size l.placed r.0 r.1 in
            let same : c ≡ kept_column f numbers cols (file_column s x.block_size q.0) = r.2 ∙ ap (kept_column f numbers cols) q.2 in
            column_links_lem numbers q.0 q.1 a (subst (λ (c' : Column). In a (column_links f c')) same j);
      }

  no_longer : (numbers : List ℕ) (n : Layout) → placed 8 f (kept_columns f numbers cols) ≡ ok n → n.file_size_lem ≤ l.file_size_lem
  no_longer numbers n q =
      let new = kept_eight (laid_kept 8 f (kept_columns f numbers cols) n q) closed (begun numbers) in
      let columns = fewer f numbers cols (sizes_of s x.block_size (columns_placed l.placed))
      (columns_no_more f (rules_of x) s x.block_size l.placed numbers cols l.placed (result-held x out list d bytes ident_bytes e)
      (λ p i. refers x d k p.column (column_in_lem x d k p i))) in
      let blocks = moved_no_more f s n l (l.md ∷ l.fh ∷ []) new.0 (good_inside (memo_of l) l.md l.fh)
      (at_inside s f bytes l.past.chain (memo_of l) l.md l.fh all l.attached.attachments)
      (copy-size s f bytes l.past.chain (memo_of l) l.md l.fh all)
      (at_size s f bytes l.past.chain (memo_of l) l.md l.fh all l.attached.attachments (all_there x out list d bytes ident_bytes e)) in
      let old = laid-sized (o x d k) (unit_is x.unit (choices_unit (rules_of x) k.steps.chosen)) in
      let planned : columns_placed l.placed ≡ d.planned.columns = columns-placed (o x d k) in
      let fits = rw planned at columns in
      omega (arith, new.1, fits.0, fits.1, others-sum)

-- every accepted call of the converter, then every accepted one of this call
pub no_longer_converted : (x : Args) (out list : List ℕ) (d : Decided) → AllBytes x.image → AllBytes x.ident
    → converter.answer x (length out) (length list) ≡ ok d
    → (numbers : List ℕ) (o : ℕ) (l : Layout) → answer 8 (blit 0 (file_of x d.laid_out) out) numbers o ≡ ok l → l.file_size_lem ≤ d.laid_out.file_size_lem
no_longer_converted x out list d bytes ident_bytes e numbers o l a =
    let f : List ℕ = blit 0 (file_of x d.laid_out) out in
    no_longer x out list d bytes ident_bytes e numbers l
    (accepted 8 f numbers o (result_columns x d) l (opens x out list d bytes ident_bytes e) a).steps.laid
