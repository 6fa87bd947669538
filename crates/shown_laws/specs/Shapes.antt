-- HD, DG, CG and CN of the result as header, links and data, and the fields of the new CG's data.
use Rattle.std.specs.Prelude.{◌≡◌, refl, Bool, true, false, List, [], ◌∷◌, ◌++◌, ℕ, suc, ◌+◌, ◌*◌, ◌/◌, ◌%◌, ◌^◌, ◌<◌, length, get_or}
use Rattle.std.proofs.Common.{ap, append_assoc, append-nil, arith, lit<, length-append}
use Rattle.std.proofs.Math.Option.{Option, none, some}
use Rattle.base.specs.Choice.{pick, if_eq}
use Rattle.base.specs.Field.{le_at, le}
use Rattle.base.specs.FieldLaws.{length-le}
use Rattle.mdf.specs.Block.{kind_hd, kind_dg, kind_cg, kind_cn, link_at}
use Rattle.plan.specs.Rules.{Rules}
use Rattle.plan.specs.Channel.{bit}
use Rattle.plan.specs.Copies.{Copy, Attachment}
use Rattle.plan.specs.Layout.{Placed, cg_of, cn_of, dl_of, cg_links, cg_size, cn_size, column_blocks}
use Rattle.result.specs.Fill.{header, words, new_link, dg_bytes, cg_bytes, cn_bytes, hd_bytes, hd_data, cg_at, cg_flags, master_link, cg_data, cn_data}
use Rattle.result.specs.Fill.{sd_link, photo_links, cn_flags, stored_type}
use Rattle.result.specs.Due.{group_flags_due, channel_flags_due, type_due}
use Rattle.result.specs.Guarantee.{Stands}
use Rattle.shown_laws.specs.Standing.{stands_front, stands_at, read}

-- ---- links
unfoldable pub hd_links : ℕ → ℕ → ℕ → ℕ → List ℕ
hd_links first_dg first_fh first_at_lem comment = first_dg ∷ first_fh ∷ 0 ∷ first_at_lem ∷ 0 ∷ comment ∷ []

pub hd_shape : (s : List ℕ) (first_dg first_fh first_at_lem comment : ℕ)
    → hd_bytes s first_dg first_fh first_at_lem comment
    ≡ header kind_hd 104 (length (hd_links first_dg first_fh first_at_lem comment)) ++ words (hd_links first_dg first_fh first_at_lem comment) ++ hd_data s
unfolding hd_bytes hd_links words
hd_shape s first_dg first_fh first_at_lem comment = simp (append_assoc, append-nil)

unfoldable pub dg_links : List ℕ → ℕ → List Copy → Placed → ℕ → List ℕ
dg_links s size memo p next =
    next ∷ cg_of p ∷ if_eq (column_blocks s size p.column) 0 0 (dl_of p) ∷ new_link memo (link_at s p.column.group.data_group.at 3) ∷ []

pub dg_shape : (s : List ℕ) (size : ℕ) (memo : List Copy) (p : Placed) (next : ℕ)
    → dg_bytes s size memo p next
    ≡ header kind_dg 64 (length (dg_links s size memo p next)) ++ words (dg_links s size memo p next) ++ le 8 0
unfolding dg_bytes dg_links words
dg_shape s size memo p next = simp (append_assoc, append-nil)

-- the seventh link, with a master
abbrev pub master_word : List Placed → Option ℕ → List ℕ
master_word all none = []
master_word all (some m) = cg_at m all ∷ []

cg-list : (all : List Placed) (m : Option ℕ) (n a b c d e g : ℕ) (l : List ℕ)
    → header kind_cg n (cg_links m) ++ le 8 a ++ le 8 b ++ le 8 c ++ le 8 d ++ le 8 e ++ le 8 g ++ master_link all m ++ l
    ≡ header kind_cg n (length (a ∷ b ∷ c ∷ d ∷ e ∷ g ∷ master_word all m))
    ++ words (a ∷ b ∷ c ∷ d ∷ e ∷ g ∷ master_word all m) ++ l
unfolding words
cg-list all none n a b c d e g l = simp (append_assoc, append-nil)
cg-list all (some m) n a b c d e g l = simp (append_assoc, append-nil)

unfoldable pub cg_words : List ℕ → List Copy → List Placed → Placed → List ℕ
cg_words s memo all p =
    0 ∷ cn_of p ∷ new_link memo (link_at s p.column.group.at 2) ∷ new_link memo (link_at s p.column.group.at 3) ∷ 0
    ∷ new_link memo (link_at s p.column.group.at 5) ∷ master_word all p.column.master

pub cg_shape : (s : List ℕ) (memo : List Copy) (all : List Placed) (p : Placed)
    → cg_bytes s memo all p
    ≡ header kind_cg (cg_size p.column.master) (length (cg_words s memo all p)) ++ words (cg_words s memo all p) ++ cg_data s p.column
unfolding cg_bytes cg_words
cg_shape s memo all p = cg-list all p.column.master (cg_size p.column.master) _ _ _ _ _ _ (cg_data s p.column)

unfoldable pub cn_links : List ℕ → List Copy → List Attachment → Placed → List ℕ
cn_links s memo ats p =
    0 ∷ 0 ∷ new_link memo (link_at s p.column.channel 2) ∷ new_link memo (link_at s p.column.channel 3)
    ∷ new_link memo (link_at s p.column.channel 4) ∷ sd_link p.column.signal_of p.sd
    ∷ new_link memo (link_at s p.column.channel 6) ∷ new_link memo (link_at s p.column.channel 7) ∷ photo_links ats p.column.photos

-- as many as there are references
pub length_photos : (ats : List Attachment) (as' : List ℕ) → length (photo_links ats as') ≡ length as'
unfolding photo_links
length_photos ats [] = refl
length_photos ats (a ∷ as') = ap suc (length_photos ats as')

pub cn-many : (s : List ℕ) (memo : List Copy) (ats : List Attachment) (p : Placed) → length (cn_links s memo ats p) ≡ 8 + length p.column.photos
unfolding cn_links
cn-many s memo ats p = omega (arith, length_photos ats p.column.photos)

-- those after the eighth
pub cn_photo : (s : List ℕ) (memo : List Copy) (ats : List Attachment) (p : Placed) (i : ℕ)
    → get_or (cn_links s memo ats p) (8 + i) 0 ≡ get_or (photo_links ats p.column.photos) i 0
unfolding cn_links
cn_photo s memo ats p i =
    let e : 8 + i ≡ suc (suc (suc (suc (suc (suc (suc (suc i))))))) = omega arith in
    rw e refl

cn-counted : (o : Rules) (s : List ℕ) (memo : List Copy) (ats : List Attachment) (p : Placed)
    → cn_bytes o s memo ats p
    ≡ header kind_cn (cn_size p.column) (8 + length p.column.photos) ++ words (cn_links s memo ats p)
    ++ cn_data o.table s p.column.group.at p.column.channel (length p.column.photos)
unfolding cn_bytes cn_links words
cn-counted o s memo ats p = simp append_assoc

pub cn_shape : (o : Rules) (s : List ℕ) (memo : List Copy) (ats : List Attachment) (p : Placed)
    → cn_bytes o s memo ats p
    ≡ header kind_cn (cn_size p.column) (length (cn_links s memo ats p)) ++ words (cn_links s memo ats p)
    ++ cn_data o.table s p.column.group.at p.column.channel (length p.column.photos)
cn_shape o s memo ats p = rw (cn-many s memo ats p) (cn-counted o s memo ats p)

-- ---- the data of a new CG: records r, flags g, path separator, data bytes n, invalidation bytes i
module _ {f : List ℕ} {a : ℕ} (r g n i : ℕ) (two : List ℕ)
    (s : Stands f a (le 8 0 ++ le 8 r ++ le 2 g ++ two ++ le 4 0 ++ le 4 n ++ le 4 i)) where
  pub read_id : le_at 8 f a ≡ 0
  read_id =
      read 8 0 (stands_front _ _ (stands_front _ _ (stands_front _ _ (stands_front _ _ (stands_front _ _ (stands_front _ _ s)))))) (lit< tt)

  pub read_records : r < 256 ^ 8 → le_at 8 f (a + 8) ≡ r
  read_records h =
      read 8 r (stands_at (le 8 0) (le 8 r) (stands_front _ _ (stands_front _ _ (stands_front _ _ (stands_front _ _ (stands_front _ _ s)))))
      (simp length-le)) h

  pub read_flags : g < 256 ^ 2 → le_at 2 f (a + 16) ≡ g
  read_flags h =
      read 2 g (stands_at (le 8 0 ++ le 8 r) (le 2 g) (stands_front _ _ (stands_front _ _ (stands_front _ _ (stands_front _ _ s))))
      (simp (length-append, length-le))) h

  pub separator_stands : Stands f (a + 18) two
  separator_stands =
      stands_at (le 8 0 ++ le 8 r ++ le 2 g) two (stands_front _ _ (stands_front _ _ (stands_front _ _ s))) (simp (length-append, length-le))

  pub read_bytes : length two ≡ 2 → n < 256 ^ 4 → le_at 4 f (a + 24) ≡ n
  read_bytes e h =
      read 4 n (stands_at (le 8 0 ++ le 8 r ++ le 2 g ++ two ++ le 4 0) (le 4 n) (stands_front _ _ s) (simp (length-append, length-le, e))) h

  pub read_inval : length two ≡ 2 → i < 256 ^ 4 → le_at 4 f (a + 28) ≡ i
  read_inval e h =
      read 4 i (stands_at (le 8 0 ++ le 8 r ++ le 2 g ++ two ++ le 4 0 ++ le 4 n) (le 4 i) s (simp (length-append, length-le, e))) h

-- ---- the data of a new CN: type t, flags g, n references to attachments, and what is copied
module _ {f : List ℕ} {a : ℕ} (t g n : ℕ) (three four two many : List ℕ) (l3 : length three ≡ 3) (l4 : length four ≡ 4) (l2 : length two ≡ 2)
    (s : Stands f a (le 1 t ++ three ++ le 4 0 ++ four ++ le 4 g ++ le 4 0 ++ two ++ le 2 n ++ many)) where
  to-two : Stands f a (le 1 t ++ three ++ le 4 0 ++ four ++ le 4 g ++ le 4 0 ++ two)
  to-two = stands_front _ _ (stands_front _ _ s)

  to-four : Stands f a (le 1 t ++ three ++ le 4 0 ++ four)
  to-four = stands_front _ _ (stands_front _ _ (stands_front _ _ to-two))

  pub read_type : t < 256 → le_at 1 f a ≡ t
  read_type h = read 1 t (stands_front _ _ (stands_front _ _ (stands_front _ _ to-four))) h

  pub three_stands : Stands f (a + 1) three
  three_stands = stands_at (le 1 t) three (stands_front _ _ (stands_front _ _ to-four)) (simp length-le)

  pub read_offset : le_at 4 f (a + 4) ≡ 0
  read_offset =
      read 4 0 (stands_at {b = a + 4} (le 1 t ++ three) (le 4 0) (stands_front _ _ to-four) (simp (length-append, length-le, l3))) (lit< tt)

  pub four_stands : Stands f (a + 8) four
  four_stands = stands_at (le 1 t ++ three ++ le 4 0) four to-four (simp (length-append, length-le, l3))

  pub read_channel_flags : g < 256 ^ 4 → le_at 4 f (a + 12) ≡ g
  read_channel_flags h =
      read 4 g (stands_at {b = a + 12} (le 1 t ++ three ++ le 4 0 ++ four) (le 4 g) (stands_front _ _ (stands_front _ _ to-two))
      (simp (length-append, length-le, l3, l4))) h

  pub read_position : le_at 4 f (a + 16) ≡ 0
  read_position =
      read 4 0 (stands_at {b = a + 16} (le 1 t ++ three ++ le 4 0 ++ four ++ le 4 g) (le 4 0) (stands_front _ _ to-two)
      (simp (length-append, length-le, l3, l4))) (lit< tt)

  pub two_stands : Stands f (a + 20) two
  two_stands = stands_at (le 1 t ++ three ++ le 4 0 ++ four ++ le 4 g ++ le 4 0) two to-two (simp (length-append, length-le, l3, l4))

  pub read_attachments : n < 256 ^ 2 → le_at 2 f (a + 22) ≡ n
  read_attachments h =
      read 2 n (stands_at {b = a + 22} (le 1 t ++ three ++ le 4 0 ++ four ++ le 4 g ++ le 4 0 ++ two) (le 2 n) (stands_front _ _ s)
      (simp (length-append, length-le, l3, l4, l2))) h

  pub many_stands : Stands f (a + 24) many
  many_stands =
      stands_at (le 1 t ++ three ++ le 4 0 ++ four ++ le 4 g ++ le 4 0 ++ two ++ le 2 n) many s (simp (length-append, length-le, l3, l4, l2))

-- ---- the flags of a new CG: bit 3 is set exactly with a master, bits 0 to 2 are clear, the others are kept
pub flags_small : (g : ℕ) (m : Option ℕ) → g < 65536 → cg_flags g m < 65536
flags_small g none h = omega arith
flags_small g (some m) h = omega arith

pub flags_none : (g : ℕ) → bit 3 (cg_flags g none) ≡ 0
flags_none g = eight (g / 16)
  where
    eight : (x : ℕ) → x * 16 / 8 % 2 ≡ 0
    eight x = omega arith

pub flags_some : (g m : ℕ) → bit 3 (cg_flags g (some m)) ≡ 1
flags_some g m = eight (g / 16)
  where
    eight : (x : ℕ) → (x * 16 + 8) / 8 % 2 ≡ 1
    eight x = omega arith

pub group_flags_lem : (g : ℕ) (m : Option ℕ) → cg_flags g m ≡ group_flags_due g m
unfolding group_flags_due
group_flags_lem g none = omega arith
group_flags_lem g (some m) = omega arith

-- ---- the flags of a new CN: bit 1 is set exactly where an invalidation byte is kept, bit 12 is clear, the others are kept
pub channel_flags_lem : (g : ℕ) (t : Bool) → (t ≡ true → bit 1 g ≡ 1) → cn_flags g t ≡ channel_flags_due g (pick t 1 0)
unfolding channel_flags_due
channel_flags_lem g true h =
    let k : g / 2 % 2 ≡ 1 = h refl in
    let p : g / 2 / 2 ≡ g / 4 = omega arith in
    let q : g / 4 / 1024 ≡ g / 4096 = omega arith in
    let r : g / 4096 / 2 ≡ g / 8192 = omega arith in
    omega arith
channel_flags_lem g false h =
    let p : g / 2 / 2 ≡ g / 4 = omega arith in
    let q : g / 4 / 1024 ≡ g / 4096 = omega arith in
    let r : g / 4096 / 2 ≡ g / 8192 = omega arith in
    omega arith

-- ---- the type of a new CN: "5 becomes 0", or "2 store as type 0" by a table
pub stored_type_lem : (table : List ℕ) (t : ℕ) → stored_type table t ≡ type_due table t
unfolding stored_type type_due if_eq
stored_type_lem table t = refl
