-- The whole layout, in words: what the code answers at each stage.
use Rattle.std.specs.Prelude.{ℕ, ◌*◌, ◌≤◌, List, [], Bool, false, ◌≡◌, length, Result, Ok, Err}
use Rattle.base.specs.Checked.{Checked, ok, refused}
use Rattle.base.specs.Blit.{blit}
use Rattle.mdf.specs.Block.{link_at}
use Rattle.plan.specs.Columns.{Column}
use Rattle.plan.specs.Geometry.{align8}
use Rattle.plan.specs.Copies.{copies, most_copies, Attached, attachments_of}
use Rattle.work_words.specs.CopyWords.{attachment_words, attachments_at, placed_at, laid_copies}
use Rattle.plan.specs.Rules.{Rules}
use Rattle.plan.specs.Layout.{Layout, layout}
use Rattle.copier.specs.declared.memo.Copying.{Copying}
use Rattle.placing.specs.declared.layout.Numbers.{Numbers}
use Rattle.placing.specs.declared.layout.Rest.{Rest}
use Rattle.fields.specs.declared.refusal.Refusal.{Refusal}
use Rattle.fields.specs.Answer.{number_of, place_of}
use Rattle.copier.specs.Standing.{copies_in, standing, Past}
use Rattle.placing.specs.InWords.{structures_in, data_in, placed_in, Columns, Referring}

-- ---- places of columns, and attachments

-- past the columns' DG, CG, CN and DL, and past their data, after copies
abbrev pub metadata_end_in : Bool → List ℕ → ℕ → List ℕ → ℕ → Copying → ℕ
metadata_end_in ph s size w n st = structures_in ph s size w 0 n (align8 st.next)

abbrev pub attached_in : ℕ → Bool → List ℕ → ℕ → List ℕ → List ℕ → ℕ → List ℕ → Copying → Checked Attached
attached_in u ph s size w f n m st =
    attachments_of most_copies s (link_at s 64 3) (copies (copies_in m st.used) (data_in u s size w f 0 n (metadata_end_in ph s size w n st)))

pub record Rested (u : ℕ) (ph : Bool) (s : List ℕ) (size : ℕ) (w f : List ℕ) (n : ℕ) (m m' : List ℕ) (st : Copying) (count end : ℕ) (t : Copying) : Type 0 where
  pub told : Attached
  pub is : attached_in u ph s size w f n m st ≡ ok told
  pub made : told.made ≡ standing m' t
  pub counted : length told.attachments ≡ count
  pub ends : end ≡ metadata_end_in ph s size w n st
  pub few : count ≤ 64
  pub more : st.used ≤ t.used
  pub most : t.used ≤ 2050
  pub past : Past (2 * t.used) (blit attachments_at (attachment_words told.attachments)
      (blit placed_at (placed_in u ph s size w f 0 n (align8 st.next) (metadata_end_in ph s size w n st)) m)) m'

abbrev pub Rests : ℕ → Bool → List ℕ → ℕ → List ℕ → List ℕ → ℕ → List ℕ → List ℕ → Copying → Result Rest Refusal → Type 0
Rests u ph s size w f n m m' st (Ok r) = Rested u ph s size w f n m m' st r.count r.end r.state
Rests u ph s size w f n m m' st (Err x) = attached_in u ph s size w f n m st ≡ refused (number_of x) (place_of x)

-- ---- the whole

-- the numbers are those of the layout, and the words at exit are those at entry with the layout laid over them
pub record Numbered (l : Layout) (m m' : List ℕ) (r : Numbers) : Type 0 where
  pub history : r.history ≡ length l.past.made.memo
  pub chain : r.chain ≡ length l.past.chain
  pub md : r.md ≡ l.md
  pub fh : r.fh ≡ l.fh
  pub metadata : r.metadata ≡ length l.metadata.memo
  pub copies : r.copies ≡ length l.attached.made.memo
  pub attachments : r.attachments ≡ length l.attached.attachments
  pub metadata_end_lem : r.metadata_end ≡ l.metadata_end_lem
  pub file_size_lem : r.file_size ≡ l.file_size_lem
  pub words : m' ≡ laid_copies l m

pub record LaidOut (m m' : List ℕ) (r : Numbers) (v : Checked Layout) : Type 0 where
  pub told : Layout
  pub is : v ≡ ok told
  pub numbered : Numbered told m m' r

-- after a refusal the words are not said
abbrev pub Lays : List ℕ → List ℕ → Result Numbers Refusal → Checked Layout → Type 0
Lays m m' (Ok r) v = LaidOut m m' r v
Lays m m' (Err x) v = v ≡ refused (number_of x) (place_of x)

-- what placement takes of the choices
abbrev pub on_unit : ℕ → Rules
on_unit u = record { unit = u; table = []; share = false; photos = false }

-- of all columns that stand in the words
pub record LaysOut (u : ℕ) (ph : Bool) (s : List ℕ) (size text : ℕ) (w f : List ℕ) (n : ℕ) (m m' : List ℕ) (r : Result Numbers Refusal) : Type 0 where
  pub is : (k : ℕ) (cs : List Column) → Columns w f k 0 cs → length cs ≡ n → Referring ph s cs → Lays m m' r (layout (on_unit u) s size text cs)
