-- The whole layout in words: what the code answers at each stage.
use Rattle.std.specs.Prelude.{ℕ, ◌*◌, ◌≤◌, ◌<◌, List, ◌≡◌, length, Result, Ok, Err}
use Rattle.base.specs.Choice.{if_lt}
use Rattle.base.specs.Checked.{Checked, ok, refused, and_then, Verdict, fine}
use Rattle.base.specs.Blit.{blit}
use Rattle.mdf.specs.Block.{link_at}
use Rattle.mdf.specs.Records.{most64}
use Rattle.plan.specs.Columns.{Column}
use Rattle.plan.specs.Geometry.{align8}
use Rattle.plan.specs.Copies.{Copies, copies, column_copies, Attached, attachments_of}
use Rattle.plan.specs.Layout.{Layout, places_from, structures_end, places_end}
use Rattle.work_words.specs.CopyWords.{attachment_words, attachments_at, placed_at}
use Rattle.copier.specs.declared.memo.Copying.{Copying}
use Rattle.copier.specs.Standing.{copies_in, standing, Past}
use Rattle.copier.specs.Attaching.{Moving}
use Rattle.copier.specs.Roots.{copies_of}
use Rattle.thin.specs.Place.{most_kept, kept_sizes, placed}
use Rattle.thin.specs.TakenOut.{most_file}
use Rattle.fields.specs.declared.refusal.Refusal.{Refusal}
use Rattle.fields.specs.Answer.{number_of, place_of}
use Rattle.arranging.specs.declared.decide.Numbers.{Numbers}
use Rattle.arranging.specs.declared.layout.Rest.{Rest}
use Rattle.arranging.specs.Sized.{sizes_in}
use Rattle.arranging.specs.Spots.{place_words}
use Rattle.arranging.specs.Answered.{Numbered}

-- "and output refusals": 20 with the bytes needed, 2^64 - 1 where they are over 2^59
unfoldable pub room_in : ℕ → ℕ → Verdict
room_in out size = if_lt most_file size (refused 20 most64) (if_lt out size (refused 20 size) fine)

-- ---- attachments after copies, then the output's length
unfoldable pub attached_at : List ℕ → ℕ → Copies → Checked Attached
attached_at s out m = and_then (attachments_of most_kept s (link_at s 64 3) m) (λ t. and_then (room_in out t.made.next) (λ _. ok t))

pub record AttachedIn (s : List ℕ) (out : ℕ) (m m' : List ℕ) (end : ℕ) (st : Copying) (count e : ℕ) (t : Copying) : Type 0 where
  pub moving : Moving count m m' st t
  pub is : attached_at s out (standing m st) ≡ ok moving.told
  pub ends : e ≡ end

abbrev pub Attaches : List ℕ → ℕ → List ℕ → List ℕ → ℕ → Copying → Result Rest Refusal → Type 0
Attaches s out m m' end st (Ok r) = AttachedIn s out m m' end st r.count r.end r.state
Attaches s out m m' end st (Err x) = attached_at s out (standing m st) ≡ refused (number_of x) (place_of x)

-- the same wherever they are placed past 2^59: a refusal
pub record AttachedOver (s m : List ℕ) (used number place : ℕ) : Type 0 where
  pub is : (out x : ℕ) → most_file < x → attached_at s out (copies (copies_in m used) x) ≡ refused number place

abbrev pub Over : List ℕ → List ℕ → ℕ → Refusal → Type 0
Over s m used x = AttachedOver s m used (number_of x) (place_of x)

-- ---- places of columns, and attachments

-- past the columns' DG, CG, CN and DL, and past their data, after copies
abbrev pub metadata_end_in : List ℕ → List ℕ → ℕ → Copying → ℕ
metadata_end_in s w n st = structures_end (align8 st.next) (sizes_in s w 0 n)

abbrev pub data_end_in : ℕ → List ℕ → List ℕ → ℕ → Copying → ℕ
data_end_in u s w n st = places_end u (metadata_end_in s w n st) (sizes_in s w 0 n)

abbrev pub places_in : ℕ → List ℕ → List ℕ → ℕ → Copying → List ℕ
places_in u s w n st = place_words (places_from u (align8 st.next) (metadata_end_in s w n st) (sizes_in s w 0 n))

pub record Rested (u : ℕ) (s w : List ℕ) (n out : ℕ) (m m' : List ℕ) (st : Copying) (count end : ℕ) (t : Copying) : Type 0 where
  pub told : Attached
  pub is : attached_at s out (copies (copies_in m st.used) (data_end_in u s w n st)) ≡ ok told
  pub made : told.made ≡ standing m' t
  pub counted : length told.attachments ≡ count
  pub ends : end ≡ metadata_end_in s w n st
  pub few : count ≤ 64
  pub more : st.used ≤ t.used
  pub most : t.used ≤ 2050
  pub past : Past (2 * t.used) (blit attachments_at (attachment_words told.attachments) (blit placed_at (places_in u s w n st) m)) m'

abbrev pub Rests : ℕ → List ℕ → List ℕ → ℕ → ℕ → List ℕ → List ℕ → Copying → Result Rest Refusal → Type 0
Rests u s w n out m m' st (Ok r) = Rested u s w n out m m' st r.count r.end r.state
Rests u s w n out m m' st (Err x) =
    attached_at s out (copies (copies_in m st.used) (data_end_in u s w n st)) ≡ refused (number_of x) (place_of x)

-- ---- the whole

-- the columns cs stand in the words w
pub record Standing (s w : List ℕ) (n : ℕ) (cs : List Column) : Type 0 where
  pub count : length cs ≡ n
  pub sizes : sizes_in s w 0 n ≡ kept_sizes cs
  pub roots : (m : Copies) → copies_of most_kept s w 0 n m ≡ column_copies most_kept s cs m

-- their layout, for an output of so many bytes
unfoldable pub laid_for : ℕ → List ℕ → List Column → ℕ → Checked Layout
laid_for u s cs out = and_then (placed u s cs) (λ l. and_then (room_in out l.file_size_lem) (λ _. ok l))

pub record LaidOut (n : ℕ) (m m' : List ℕ) (r : Numbers) (v : Checked Layout) : Type 0 where
  pub columns : r.columns ≡ n
  pub told : Layout
  pub is : v ≡ ok told
  pub numbered : Numbered told m m' r

-- after a refusal the words are not said
abbrev pub Lays : ℕ → List ℕ → List ℕ → Result Numbers Refusal → Checked Layout → Type 0
Lays n m m' (Ok r) v = LaidOut n m m' r v
Lays n m m' (Err x) v = v ≡ refused (number_of x) (place_of x)

pub record LaysOut (u : ℕ) (s w : List ℕ) (n out : ℕ) (m m' : List ℕ) (r : Result Numbers Refusal) : Type 0 where
  pub is : (cs : List Column) → Standing s w n cs → Lays n m m' r (laid_for u s cs out)
