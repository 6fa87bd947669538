-- The listing's seventh field of every column is what the file holds of it, as links show it: the bytes of its joined payload and of its joined
-- signal data (document 02, request 3).
use Rattle.std.specs.Prelude.{ℕ, ◌+◌, ◌≤◌, List, [], ◌∷◌, map, ◌≡◌, refl, length}
use Rattle.std.proofs.Common.{sym, ◌∙◌, ap, subst}
use Rattle.base.specs.Blit.{blit}
use Rattle.base.specs.Checked.{Checked, ok, and_then}
use Rattle.plan.specs.Rules.{Rules}
use Rattle.plan.specs.Columns.{Column}
use Rattle.plan.specs.Layout.{Placed, payload_size}
use Rattle.result.specs.Listing.{listed_bytes}
use Rattle.result.specs.Result.{Args, rules_of, Decided, answer, file_of}
use Rattle.result.specs.Links.{Shown, shown}
use Rattle.result.specs.Due.{due, due_all, due_payload}
use Rattle.result.specs.Guarantee.{In, here, there, columns_placed}
use Rattle.payload_laws.specs.ColumnLaws.{column-joined, column-bytes}
use Rattle.plan_laws.specs.Known.{Known, answer-known}
use Rattle.guarantee.specs.Theorem.{AllBytes, sized, guaranteed}

-- what links show of a column: bytes of payload and signal data, no block header among them
abbrev pub shown_bytes : Shown → Checked ℕ
shown_bytes h = and_then h.payload (λ p. and_then h.signal_data (λ t. ok (length p + length t)))

abbrev pub due_bytes : List ℕ → Column → Checked ℕ
due_bytes s c = ok (listed_bytes s c)

-- the payload due to a planned column has its payload bytes
due-bytes : (x : Args) (d : Decided) (k : Known x d) (c : Column) → In c d.planned.columns → length (due_payload x.image c) ≡ payload_size x.image c
due-bytes x d k c i =
    let r = (sized x d k c i).ready in
    ap length (sym (column-joined x.image x.block_size c r)) ∙ column-bytes x.image x.block_size c r

all-due : (o : Rules) (s : List ℕ) (size : ℕ) (all ps : List Placed) → ((c : Column) → In c (columns_placed ps) → length (due_payload s c) ≡ payload_size s c)
    → map shown_bytes (due_all o s size all ps) ≡ map (due_bytes s) (columns_placed ps)
unfolding due_all due columns_placed
all-due o s size all [] h = refl
all-due o s size all (p ∷ ps) h = rw (h p.column here, all-due o s size all ps (λ c i. h c (there i)))

-- of every accepted call: the fields, in order, are the bytes that its file shows
pub listed-shown : (x : Args) (out list : List ℕ) (d : Decided) → AllBytes x.image → answer x (length out) (length list) ≡ ok d
    → (k : ℕ) → length d.laid_out.placed ≤ k
    → map shown_bytes (shown (blit 0 (file_of x d.laid_out) out) k) ≡ map (due_bytes x.image) d.planned.columns
listed-shown x out list d bytes e k h =
    let g = guaranteed x out list d bytes e in
    ap (map shown_bytes) (g.shows k h)
    ∙ all-due (rules_of x) x.image x.block_size d.laid_out.placed d.laid_out.placed
    (λ c i. due-bytes x d (answer-known x (length out) (length list) d e) c (subst (In c) g.planned i))
    ∙ ap (map (due_bytes x.image)) g.planned
