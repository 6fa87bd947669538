-- What is known of the layout of a file with columns taken out: its parts, and the copies that it places.
use Rattle.std.specs.Prelude.{ℕ, ◌+◌, ◌≤◌, List, [], ◌≡◌, refl, length}
use Rattle.std.proofs.Common.{arith}
use Rattle.base.specs.Checked.{ok}
use Rattle.mdf.specs.Block.{link_at}
use Rattle.plan.specs.Columns.{Column}
use Rattle.plan.specs.Copies.{copies, copy_root, history_of, column_copies, attachments_of}
use Rattle.plan.specs.Layout.{places_from, structures_end, places_end, with_places, Placed, Layout, past_copies}
use Rattle.copies_laws.specs.AnswerLaws.{ok_same, then_ok}
use Rattle.copies_laws.specs.Laid.{Laid, Tight, Grown, grown_new, grown_tight, grown_then}
use Rattle.copies_laws.specs.CopyLaws.{root_grown, past_grown, columns_grown}
use Rattle.copies_laws.specs.AttachLaws.{AllAttached, all_attached}
use Rattle.thin.specs.Place.{most_kept, kept_sizes, placed}

-- the columns placed, from a and d on
abbrev pub placed_kept : ℕ → ℕ → ℕ → List Column → List Placed
placed_kept u a d cs = with_places cs (places_from u a d (kept_sizes cs))

-- the parts of a layout
pub record LaidKept (u : ℕ) (s : List ℕ) (cs : List Column) (l : Layout) : Type 0 where
  pub comment : copy_root most_kept s (link_at s 64 5) (copies [] 168) ≡ ok l.comment
  pub past : history_of most_kept s (link_at s 64 1) l.comment ≡ ok l.past
  pub metadata : column_copies most_kept s cs l.past.made ≡ ok l.metadata
  pub metadata_end_lem : l.metadata_end_lem ≡ structures_end (past_copies l.metadata) (kept_sizes cs)
  pub placed : l.placed ≡ placed_kept u (past_copies l.metadata) l.metadata_end_lem cs
  pub attached :
      attachments_of most_kept s (link_at s 64 3) (copies l.metadata.memo (places_end u l.metadata_end_lem (kept_sizes cs))) ≡ ok l.attached
  pub file_size_lem : l.file_size_lem ≡ l.attached.made.next
  -- neither a new MD nor a new FH
  pub md : l.md ≡ 0
  pub fh : l.fh ≡ 0

pub laid_kept : (u : ℕ) (s : List ℕ) (cs : List Column) (l : Layout) → placed u s cs ≡ ok l → LaidKept u s cs l
unfolding placed
laid_kept u s cs l e =
    let a = then_ok (copy_root most_kept s (link_at s 64 5) (copies [] 168)) _ e in
    let b = then_ok (history_of most_kept s (link_at s 64 1) a.0) _ a.2 in
    let c = then_ok (column_copies most_kept s cs b.0.made) _ b.2 in
    let end : ℕ = places_end u (structures_end (past_copies c.0) (kept_sizes cs)) (kept_sizes cs) in
    let d = then_ok (attachments_of most_kept s (link_at s 64 3) (copies c.0.memo end)) _ c.2 in
    rw (← ok_same d.2) (record {
      comment = a.1;
      past = b.1;
      metadata = c.1;
      metadata_end_lem = refl;
      placed = refl;
      attached = d.1;
      file_size_lem = refl;
      md = refl;
      fh = refl;
    })

module _ {u : ℕ} {s : List ℕ} {cs : List Column} {l : Layout} (o : LaidKept u s cs l) where
  -- ---- copies: those of the HD comment and the history, then those of the columns, one behind the other
  pub history-from-start : Grown most_kept s 0 (copies [] 168) l.past.made
  history-from-start = grown_then (root_grown s _ _ _ o.comment) (past_grown s _ _ _ o.past)

  pub columns-after-history : Grown most_kept s 0 l.past.made l.metadata
  columns-after-history = columns_grown s cs _ _ o.metadata

  pub copies-from-start : Grown most_kept s 0 (copies [] 168) l.metadata
  copies-from-start = grown_then history-from-start columns-after-history

  pub copies-laid : Laid s 168 l.metadata.memo l.metadata.next
  copies-laid = grown_new copies-from-start

  pub copies_tight : Tight s 168 l.metadata.memo l.metadata.next
  copies_tight = grown_tight copies-from-start

  pub attachments-laid : AllAttached most_kept s (copies l.metadata.memo (places_end u l.metadata_end_lem (kept_sizes cs))) l.attached
  attachments-laid = all_attached s _ _ _ o.attached

  -- "with 2,050 copied blocks allowed", with those of attachments
  pub few-copies : length l.metadata.memo ≤ 2050
  few-copies =
      let g : length l.metadata.memo + 0 ≤ 2050 = copies-from-start.few (omega arith) in
      omega arith

  pub few_in_all : length l.attached.made.memo ≤ 2050
  few_in_all = attachments-laid.few few-copies
