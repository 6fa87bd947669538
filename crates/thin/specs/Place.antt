-- Where the blocks of the new file are placed: "The call names the unit; .. placement else is 01's" (document 02, request 13), and sizes are the
-- file's: "data block kinds and lengths .. stay".
use Rattle.std.specs.Prelude.{ℕ, ◌+◌, List, [], ◌∷◌, length}
use Rattle.base.specs.Checked.{Checked, ok, and_then}
use Rattle.mdf.specs.Block.{link_at}
use Rattle.mdf.specs.Records.{size_of}
use Rattle.plan.specs.Columns.{Column}
use Rattle.plan.specs.Copies.{copies, copy_root, history_of, column_copies, attachments_of}
use Rattle.plan.specs.Layout.{cg_size, cn_size, dl_size, Sizes, places_from, structures_end, places_end, signal_sizes, with_places, Layout, past_copies}

-- "with 2,050 copied blocks allowed"
abbrev pub most_kept : ℕ
most_kept = 2050

-- how many data blocks a column has
unfoldable pub blocks_of : Column → ℕ
blocks_of c = length c.group.data_group.fragments

-- the sizes of a column, by its blocks in the file
abbrev pub kept_size : Column → Sizes
kept_size c =
    record {
      structure = 64 + cg_size c.master + cn_size c + dl_size (blocks_of c);
      blocks = blocks_of c;
      payload = size_of c.group.data_group.fragments;
      signal = signal_sizes c.signal_of;
    }

-- of all columns
unfoldable pub kept_sizes : List Column → List Sizes
kept_sizes [] = []
kept_sizes (c ∷ cs) = kept_size c ∷ kept_sizes cs

-- "01's copying, attachment .. refusals": the HD comment, the history, "with no new entry", what columns refer to; columns; attachments. There is no
-- new MD and no new FH
unfoldable pub placed : ℕ → List ℕ → List Column → Checked Layout
placed u s cs =
    and_then (copy_root most_kept s (link_at s 64 5) (copies [] 168)) (λ m0.
    and_then (history_of most_kept s (link_at s 64 1) m0) (λ h.
    and_then (column_copies most_kept s cs h.made) (λ m2.
    and_then (attachments_of most_kept s (link_at s 64 3)
    (copies m2.memo (places_end u (structures_end (past_copies m2) (kept_sizes cs)) (kept_sizes cs)))) (λ t.
    ok (record {
      comment = m0;
      past = h;
      md = 0;
      fh = 0;
      metadata = m2;
      placed = with_places cs (places_from u (past_copies m2) (structures_end (past_copies m2) (kept_sizes cs)) (kept_sizes cs));
      metadata_end_lem = structures_end (past_copies m2) (kept_sizes cs);
      attached = t;
      file_size_lem = t.made.next;
    })))))
