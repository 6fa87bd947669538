-- "with unit 8 the file is no longer than before, if that was made .. by this call" (document 02, request 13).
use Prim.{Unit, tt}
use Rattle.std.specs.Prelude.{ℕ, ◌^◌, ◌≤◌, ◌<◌, List, [], ◌∷◌, ◌++◌, ◌≡◌, length}
use Rattle.std.proofs.Math.Path.{refl}
use Rattle.std.proofs.Common.{sym, ap, subst, ◌∙◌, arith, lit<}
use Rattle.base.specs.Blit.{blit}
use Rattle.base.specs.Checked.{ok}
use Rattle.mdf.specs.Block.{links_at, link_at}
use Rattle.plan.specs.Columns.{Column}
use Rattle.plan.specs.Copies.{Copy, Attachment, column_links}
use Rattle.plan.specs.Layout.{Layout, Placed}
use Rattle.result.specs.Fill.{Block, new_link, next_dg}
use Rattle.result.specs.Ordered.{Ordered}
use Rattle.result.specs.Result.{memo_of, first_fh, hd_block}
use Rattle.result.specs.Guarantee.{Stands, In, here, there, columns_placed}
use Rattle.copies_laws.specs.MemoLaws.{copy_in_lem}
use Rattle.shown_laws.specs.Shapes.{hd_links}
use Rattle.guarantee.specs.Front.{header-link}
use Rattle.guarantee.specs.Named.{CopyStands}
use Rattle.guarantee.specs.Past.{first_small}
use Rattle.guarantee.specs.Theorem.{AllBytes}
use Rattle.file.specs.Form.{FileColumn}
use Rattle.again_laws.specs.GoodAgain.{Good, nowhere, copied, text, entry, new_good, copy_links_lem, copy-good}
use Rattle.again_laws.specs.AttachAgain.{AllAt, all-at, all-passed}
use Rattle.thin.specs.Kept.{kept_column, kept_columns}
use Rattle.thin.specs.Place.{most_kept, placed, kept_sizes}
use Rattle.thin.specs.Fill.{kept_structure, kept_blocks, blocks_kept, file_kept}
use Rattle.thin.specs.TakenOut.{answer}
use Rattle.thin_laws.specs.LaidLaws.{LaidKept, laid_kept, attachments-laid}
use Rattle.thin_laws.specs.MemberLaws.{in_later, in_data_later}
use Rattle.thin_laws.specs.PlaceLaws.{kept-columns}
use Rattle.thin_shown.specs.Sound.{new_column, KeptSound, KeptStands}
use Rattle.thin_shown.specs.Column.{dg_comment, cg_name_lem, cg-source, cg_comment, cn_name_lem, cn-source, cn_conversion, cn_unit, cn_comment}
use Rattle.thin_guarantee.specs.Accepted.{Accepted, accepted}
use Rattle.thin_guarantee.specs.Columns.{new_columns, first_stands}
use Rattle.thin_guarantee.specs.Copied.{copy_stands, attached_below, attached_above, attached_stands, first_attached}
use Rattle.thin_guarantee.specs.Theorem.{o, unit, order, small, filled, made, data_made, sound, hd, link-small, opens}
use Rattle.thin_lengths.specs.Sums.{sum, in_front_lem}
use Rattle.thin_lengths.specs.Grew.{taken}
use Rattle.thin_lengths.specs.Sizes.{Closed, Begun, all_closed, all-begun, kept_eight, kept-sized}
use Rattle.thin_lengths.specs.Fewer.{fewer}
use Rattle.thin_lengths.specs.KeptSizes.{all_no_more}
use Rattle.thin_lengths.specs.Blocks.{tos, in_tos, moved_no_more}
use Rattle.thin_lengths.specs.Standing.{first-led, copy-size, AtOf, at-start, at_next, at_others, at_inside, at_size}
use Rattle.thin_lengths.specs.Accepted.{answer_opens, kept_of_lem}

-- ---- every placed column's blocks stand
stands_each : {f : List ℕ} (s : List ℕ) (memo : List Copy) (ats : List Attachment) (all ps : List Placed)
    → ((b : Block) → In b (kept_structure s memo ats all ps) → Stands f b.at b.bytes)
    → ((b : Block) → In b (kept_blocks s ps) → Stands f b.at b.bytes)
    → (p : Placed) → In p ps → (next : ℕ) × KeptStands s f memo ats all p next
stands_each {f = f} s memo ats all [] made filled p x3 = elim x3 [ ]
stands_each s memo ats all (q ∷ ps) made filled p here = (next_dg ps, first_stands s memo ats all p ps made filled)
stands_each s memo ats all (q ∷ ps) made filled p (there i) =
    stands_each s memo ats all ps (λ b j. made b (in_later s memo ats all q ps j)) (λ b j. filled b (in_data_later s q ps j)) p i

placed_of : (ps : List Placed) (c : FileColumn) → In c (new_columns ps) → (p : Placed) × In p ps × (c ≡ new_column p)
unfolding new_columns
placed_of [] c x' = elim x' [ ]
placed_of (p ∷ ps) c here = (p, here, refl)
placed_of (p ∷ ps) c (there i) = let r = placed_of ps c i in (r.0, there r.1, r.2)

-- of all of a list
unfoldable AllOf : (ℕ → Type 0) → List ℕ → Type 0
AllOf P [] = Unit {0}
AllOf P (a ∷ as') = P a × AllOf P as'

of-all : (P : ℕ → Type 0) (as' : List ℕ) → AllOf P as' → (a : ℕ) → In a as' → P a
unfolding AllOf
of-all P [] h a x'' = elim x'' [ ]
of-all P (b ∷ as') h a here = h.0
of-all P (b ∷ as') h a (there i) = of-all P as' h.1 a i

module _ (u : ℕ) (s numbers out : List ℕ) (all : List FileColumn) (l : Layout) (bytes : AllBytes s) (a : Accepted u s numbers (length out) all l) where
  abbrev f : List ℕ
  f = blit 0 (file_kept s l) out

  abbrev cs : List Column
  cs = kept_columns s numbers all

  abbrev news : List FileColumn
  news = new_columns l.placed

  abbrev memo : List Copy
  memo = memo_of l

  abbrev ats : List Attachment
  ats = l.attached.attachments

  abbrev laid : LaidKept u s cs l
  laid = o u s numbers out all l bytes a

  -- blocks stand as placed, in order
  abbrev ordered : Ordered 0 (blocks_kept s l) l.file_size_lem
  ordered = order u s numbers out all l bytes a

  abbrev below : l.file_size_lem < 256 ^ 8
  below = small u s numbers out all l bytes a

  abbrev written : (b : Block) → In b (blocks_kept s l) → Stands f b.at b.bytes
  written = filled u s numbers out all l bytes a

  abbrev stand : (c : Copy) → In c memo → CopyStands s f l.past.chain memo l.fh c
  stand = copy_stands u s cs l laid f bytes ordered below written

  abbrev good : ℕ → Type 0
  good = Good memo l.md l.fh

  abbrev at : ℕ → Type 0
  at = AtOf s f bytes l.past.chain memo l.md l.fh stand ats

  -- there is neither a new MD nor a new FH
  md_small_lem : l.md < 256 ^ 8
  md_small_lem = omega (arith, laid.md)

  fh_small_lem : l.fh < 256 ^ 8
  fh_small_lem = omega (arith, laid.fh)

  all_there : AllAt s f bytes l.past.chain memo l.md l.fh stand ats
  all_there =
      all-at s f bytes l.past.chain memo l.md l.fh stand ats _ _ (attachments-laid laid).laid (all-passed most_kept s _ _ l.attached laid.attached)
      (attached_above u s cs l laid f bytes ordered below written) (attached_below u s cs l laid f bytes ordered below written)
      (attached_stands u s cs l laid f bytes ordered below written)

  -- ---- links of the file lead to its copies and attachments
  links_closed : (b : ℕ) → good b → (b ≡ 0 → ⊥) → (i : ℕ) → i < links_at f b → good (link_at f b i)
  links_closed b (nowhere e) n i h = absurd (n e)
  links_closed b (copied c e) n i h =
      copy-good s f bytes l.past.chain memo l.md l.fh stand md_small_lem fh_small_lem c b e i
      (omega (arith, copy_links_lem s f bytes l.past.chain memo l.md l.fh stand md_small_lem fh_small_lem c b e))
  links_closed b (text e) n i h = absurd (n (e ∙ laid.md))
  links_closed b (entry e) n i h = absurd (n (e ∙ laid.fh))

  good_inside : (b : ℕ) → good b → (b ≡ 0 → ⊥) → In b (tos memo ++ [])
  good_inside b (nowhere e) n = absurd (n e)
  good_inside b (copied c e) n = in_front_lem (tos memo) [] (in_tos memo _ (copy_in_lem c b memo e))
  good_inside b (text e) n = absurd (n (e ∙ laid.md))
  good_inside b (entry e) n = absurd (n (e ∙ laid.fh))

  closed : Closed f good at
  closed =
      record {
        links = λ b g n i h k. links_closed b g n i k;
        past = λ b g n. first-led good f b (nowhere refl) (λ k. links_closed b g n 0 k);
        others = at_others s f bytes l.past.chain memo l.md l.fh stand ats;
        next = at_next s f bytes l.past.chain memo l.md l.fh stand ats;
      }

  -- ---- what header and columns lead to
  new : (b : ℕ) → good (new_link memo b)
  new b = new_good memo l.md l.fh b

  first_good : (chain : List ℕ) → good (first_fh memo chain l.fh)
  first_good [] = entry refl
  first_good (b ∷ chain) = new b

  header : Stands f 64 (hd_block s l).bytes
  header = hd u s numbers out all l bytes a

  led-small : (b : ℕ) → new_link memo b < 256 ^ 8
  led-small = link-small u s numbers out all l bytes a

  comment_good : good (link_at f 64 5)
  unfolding hd_links
  comment_good = rw (header-link s l f header 5 (lit< tt) (led-small _)) (new _)

  history-good : good (link_at f 64 1)
  unfolding hd_links
  history-good =
      rw (header-link s l f header 1 (lit< tt) (first_small s f bytes l.past.chain memo l.fh stand fh_small_lem l.past.chain)) (first_good l.past.chain)

  sounds : (p : Placed) → In p l.placed → KeptSound s p
  sounds = sound u s numbers out all l bytes a

  stands : (p : Placed) → In p l.placed → (next : ℕ) × KeptStands s f memo ats l.placed p next
  stands = stands_each s memo ats l.placed l.placed (made u s numbers out all l bytes a) (data_made u s numbers out all l bytes a)

  column_links_lem : (numbers' : List ℕ) (p : Placed) → In p l.placed → AllOf good (column_links f (kept_column f numbers' news (new_column p)))
  unfolding AllOf
  column_links_lem numbers' p i =
      let k = sounds p i in
      let st = (stands p i).1 in (
        rw (cg_name_lem k st led-small) (new _),
        (
          rw (cg-source k st led-small) (new _),
          (
            rw (cg_comment k st led-small) (new _),
            (
              rw (cn_name_lem k st led-small) (new _),
              (
                rw (cn-source k st led-small) (new _),
                (
                  rw (cn_conversion k st led-small) (new _),
                  (rw (cn_unit k st led-small) (new _), (rw (cn_comment k st led-small) (new _), (rw (dg_comment k st led-small) (new _), tt))),
                ),
              ),
            ),
          ),
        ),
      )

  begun : (numbers' : List ℕ) → Begun f good at (kept_columns f numbers' news)
  begun numbers' =
      record {
        comment = comment_good;
        history = history-good;
        attachments = subst at (sym (first_attached u s cs l laid f bytes ordered below written))
            (at-start s f bytes l.past.chain memo l.md l.fh stand ats all_there);
        columns = λ c i b j.
            let r = kept_of_lem f numbers' news c i in
            let q = placed_of l.placed r.0 r.1 in
            let same : c ≡ kept_column f numbers' news (new_column q.0) = r.2 ∙ ap (kept_column f numbers' news) q.2 in
            of-all good _ (column_links_lem numbers' q.0 q.1) b (subst (λ (c' : Column). In b (column_links f c')) same j);
      }

  no_others : sum (taken f) [] ≡ 0
  unfolding sum
  no_others = refl

  no_longer : (numbers' : List ℕ) (n : Layout) → placed 8 f (kept_columns f numbers' news) ≡ ok n → n.file_size_lem ≤ l.file_size_lem
  no_longer numbers' n q =
      let next = kept_eight (laid_kept 8 f (kept_columns f numbers' news) n q) closed (begun numbers') in
      let columns = fewer f numbers' news (kept_sizes (columns_placed l.placed)) (all_no_more s f memo ats l.placed numbers' news l.placed sounds stands) in
      let blocks = moved_no_more f s n l [] next.0 good_inside (at_inside s f bytes l.past.chain memo l.md l.fh stand ats)
      (copy-size s f bytes l.past.chain memo l.md l.fh stand) (at_size s f bytes l.past.chain memo l.md l.fh stand ats all_there) in
      let old = kept-sized laid (all_closed s) (all-begun s cs) (unit u s numbers out all l bytes a) in
      let same : columns_placed l.placed ≡ cs = kept-columns laid in
      let fits = rw same at columns in
      omega (arith, next.1, old.1, fits.0, fits.1, no_others)

-- every accepted call, then every other of it on the file that was made
pub no_longer-taken : (u : ℕ) (s numbers out : List ℕ) (l : Layout) → AllBytes s → answer u s numbers (length out) ≡ ok l
    → (numbers' : List ℕ) (o : ℕ) (l' : Layout) → answer 8 (blit 0 (file_kept s l) out) numbers' o ≡ ok l' → l'.file_size_lem ≤ l.file_size_lem
no_longer-taken u s numbers out l bytes e numbers' o l' e' =
    let r = answer_opens u s numbers (length out) l e in
    let a = accepted u s numbers (length out) r.0 l r.1 e in
    no_longer u s numbers out r.0 l bytes a numbers' l'
    (accepted 8 (blit 0 (file_kept s l) out) numbers' o (new_columns l.placed) l' (opens u s numbers out r.0 l bytes a) e').steps.laid
