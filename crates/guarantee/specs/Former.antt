-- Placement as document 01 has it, before a unit could be chosen: kept for the theorem that the unit 8 gives the file made before.
use Rattle.std.specs.Prelude.{ℕ, ◌+◌, List, [], ◌∷◌}
use Rattle.base.specs.Checked.{Checked, ok, and_then}
use Rattle.mdf.specs.Block.{link_at}
use Rattle.plan.specs.Columns.{Column}
use Rattle.plan.specs.Copies.{copies, most_copies, copy_root, history_of, column_copies, attachments_of}
use Rattle.plan.specs.Layout.{Sizes, Places, blocks_end, signal_end, sizes_of, with_places, structure_end, Layout, past_copies, fh_place}

-- "Then per column its blocks, 24 + payload apart, and its SD": each at the next multiple of 8
unfoldable pub former_places : ℕ → ℕ → List Sizes → List Places
former_places a d [] = []
former_places a d (z ∷ zs) =
    record { dg = a; first = d; sd = blocks_end z d } ∷ former_places (a + z.structure) (signal_end z.signal (blocks_end z d)) zs

unfoldable pub former_end : ℕ → List Sizes → ℕ
former_end d [] = d
former_end d (z ∷ zs) = former_end (signal_end z.signal (blocks_end z d)) zs

unfoldable pub former_layout : List ℕ → ℕ → ℕ → List Column → Checked Layout
former_layout s size n cs =
    and_then (copy_root most_copies s (link_at s 64 5) (copies [] 168)) (λ m0.
    and_then (history_of most_copies s (link_at s 64 1) m0) (λ h.
    and_then (column_copies most_copies s cs (copies h.made.memo (fh_place h.made n + 56))) (λ m2.
    and_then (attachments_of most_copies s (link_at s 64 3) (copies m2.memo (former_end (structure_end s size (past_copies m2) cs) (sizes_of s size cs)))) (λ t.
    ok (record {
      comment = m0;
      past = h;
      md = past_copies h.made;
      fh = fh_place h.made n;
      metadata = m2;
      placed = with_places cs (former_places (past_copies m2) (structure_end s size (past_copies m2) cs) (sizes_of s size cs));
      metadata_end_lem = structure_end s size (past_copies m2) cs;
      attached = t;
      file_size_lem = t.made.next;
    })))))
