-- The words of an accepted layout: they hold it, and there is room for its copies and attachments.
use Rattle.std.specs.Prelude.{◌≡◌, ℕ, ◌+◌, ◌-◌, ◌≤◌, List, length}
use Rattle.std.proofs.Common.{arith}
use Rattle.base.specs.Blit.{part}
use Rattle.plan.specs.Columns.{Column}
use Rattle.plan.specs.Copies.{most_copies}
use Rattle.plan.specs.Rules.{Rules}
use Rattle.plan.specs.Layout.{Layout, past_copies, data_end}
use Rattle.work_words.specs.CopyWords.{laid_copies}
use Rattle.copier.specs.Standing.{copies_in}
use Rattle.copies_laws.specs.Laid.{Laid, align_past}
use Rattle.copies_laws.specs.AttachLaws.{LaidAt}
use Rattle.copies_laws.specs.LayoutLaws.{LaidOut, history-laid, columns-laid, columns-after-history, attachments-laid, few_in_all}
use Rattle.window_copies.specs.Attachments.{attachments_in}
use Rattle.write_copies.specs.LaidWords.{Worded, Numbers}
use Rattle.write_copies.specs.LaidWordsLaws as words

module _ {r : Rules} {s : List ℕ} {size n : ℕ} {cs : List Column} {l : Layout} (o : LaidOut r s size n cs l) where
  pub worded : Worded l
  worded =
      let t = attachments-laid o in
      let g = columns-after-history o in
      record {
        few = omega (arith, few_in_all o);
        chained = omega (arith, words.chain-few most_copies s _ l.comment l.past o.past);
        most = t.most;
        new = g.new;
        columns = g.memo;
        all = t.memo;
      }

  module _ {used past metadata chain count : ℕ} (c : Numbers l used past metadata chain count)
      (w w' : List ℕ) (long : 8192 ≤ length w) (e : w' ≡ laid_copies l w) where
    -- there is room for each copy and attachment, up to where the next blocks begin
    pub history-room : (f : ℕ) → l.md ≤ f → Laid s 168 (part 0 (past - 0) (copies_in w' used)) f
    history-room f h =
        words.history-room worded c w w' long e s 168 _ f (history-laid o) (omega (arith, align_past l.past.made.next, o.md))

    pub columns-room : (f : ℕ) → past_copies l.metadata ≤ f → Laid s (l.fh + 56) (part past (metadata - past) (copies_in w' used)) f
    unfolding past_copies
    columns-room f h =
        words.columns-room worded c w w' long e s (l.fh + 56) _ f (columns-laid o) (omega (arith, align_past l.metadata.next))

    pub attachments-room : (f : ℕ) → l.file_size_lem ≤ f → LaidAt s (data_end r s size l.metadata_end_lem cs) (attachments_in w' metadata count) f
    attachments-room f h =
        words.attachments-room worded c w w' long e s _ _ f (attachments-laid o).laid (omega (arith, o.file_size_lem))
