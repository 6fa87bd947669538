-- Blocks that stand in a file pass the checks of the walk, and an identification that was lent passes those of the identification.
use Prim.{tt}
use Rattle.std.specs.Prelude.{ℕ, zero, suc, ◌+◌, ◌*◌, ◌/◌, ◌%◌, ◌^◌, ◌≤◌, ◌<◌, List, ◌∷◌, ◌++◌, Bool, true, false, ◌≡◌, refl, eqb, length, get_or, drop}
use Rattle.std.proofs.Common.{sym, ap, ◌∙◌, arith, add-one, lit<, length-append, length-take, drop-cons}
use Rattle.base.specs.Choice.{pick, if_lt, if_le, if_eq}
use Rattle.base.specs.ChoiceLaws.{lt_no, le_yes, eq_yes}
use Rattle.base.specs.Checked.{refused, fine}
use Rattle.base.specs.Field.{le_at, le}
use Rattle.base.specs.Blit.{part}
use Rattle.mdf.specs.Block.{Wanted, kind_at, size_at, links_at, header_in, length_in, whole_at, most_bytes, wanted_at, block_at}
use Rattle.mdf.specs.Chain.{file_limits}
use Rattle.mdf.specs.Name.{text_in, name_at}
use Rattle.mdf.specs.Identification as identification
use Rattle.mdf.specs.Identification.{file_mark, identified, version_in}
use Rattle.result.specs.Links.{Head, head_at}
use Rattle.result.specs.Fill.{header}
use Rattle.result.specs.Result.{version420}
use Rattle.result.specs.Guarantee.{Stands}
use Rattle.guarantee.specs.Theorem.{AllBytes}
use Rattle.shown_laws.specs.Standing.{stands_front, part-part}
use Rattle.shown_laws.specs.Header.{length-header, header-size}
use Rattle.shown_laws.specs.ImageBytes.{field_below}
use Rattle.shown_laws.specs.Joined.{stands_inside}

-- ---- the blocks of the walk

-- a block with its header in the file
head-kind : (f : List ℕ) (a : ℕ) (h : Head) → head_at f a ≡ h → kind_at f a ≡ h.kind
unfolding head_at
head-kind f a h e = ap (λ (x : Head). x.kind) e

head-size : (f : List ℕ) (a : ℕ) (h : Head) → head_at f a ≡ h → size_at f a ≡ h.size
unfolding head_at
head-size f a h e = ap (λ (x : Head). x.size) e

head_links : (f : List ℕ) (a : ℕ) (h : Head) → head_at f a ≡ h → links_at f a ≡ h.links
unfolding head_at
head_links f a h e = ap (λ (x : Head). x.links) e

header_in_lem : (f : List ℕ) (a : ℕ) → a + 24 ≤ length f → header_in f a ≡ fine
unfolding header_in
header_in_lem f a h = sym (le_yes _ _ _ _ h refl)

module _ (f : List ℕ) (a : ℕ) (h : Head) (e : head_at f a ≡ h) where
  length-in : (most : ℕ) → 24 + 8 * h.links ≤ h.size → h.size ≤ most → a + h.size ≤ length f → length_in most f a ≡ fine
  unfolding length_in
  length-in most fits short inside =
      rw (head-size f a h e, head_links f a h e) (sym (lt_no _ _ _ _ fits (lt_no _ _ _ _ short (lt_no _ _ _ _ inside refl))))

  wanted_in : (k : Wanted) → h.kind ≡ k.kind → k.links ≤ h.links → 24 + 8 * h.links + k.bytes ≤ h.size → wanted_at k f a ≡ fine
  unfolding wanted_at
  wanted_in k kind links size =
      rw (head-kind f a h e, head-size f a h e, head_links f a h e)
      (sym (eq_yes _ _ _ _ kind (lt_no _ _ _ _ links (lt_no _ _ _ _ size refl))))

  -- a block as wanted, with room for its links and data, that ends in the file
  pub block-fine : (k : Wanted) → h.kind ≡ k.kind → k.links ≤ h.links → 24 + 8 * h.links + k.bytes ≤ h.size → h.size ≤ most_bytes
      → a + h.size ≤ length f → block_at k f a ≡ fine
  unfolding block_at whole_at
  block-fine k kind links size most inside =
      rw (header_in_lem f a (omega arith), length-in most_bytes (omega arith) most inside) (wanted_in k kind links size)

-- ---- names

same : {A : Type 0} (m n : ℕ) (a : A) → if_eq m n a a ≡ a
unfolding if_eq
same m n a = go (eqb m n)
  where
    go : (t : Bool) → pick t a a ≡ a
    go true = refl
    go false = refl

pub name_none : (f : List ℕ) → name_at f 0 ≡ fine
unfolding name_at
name_none f = sym (eq_yes _ _ _ _ refl refl)

-- a block of any kind that ends in the file
pub name_fine : {f : List ℕ} {a : ℕ} (kind n links : ℕ) (rest : List ℕ) → Stands f a (header kind n links ++ rest) → 24 + length rest ≡ n → n < 256 ^ 8
    → name_at f a ≡ fine
unfolding name_at text_in
name_fine {f} {a} kind n links rest s e h =
    let size : size_at f a ≡ n = header-size kind n links (stands_front _ rest s) h in
    let long : length (header kind n links ++ rest) ≡ 24 + length rest = length-append (header kind n links) rest ∙ rw length-header in
    let inside : a + (24 + length rest) ≤ length f = omega (arith, long, stands_inside _ s (omega arith)) in
    let text : if_lt (size_at f a) 24 (refused 4 a) (if_lt (length f) (a + size_at f a) (refused 4 a) fine) ≡ fine =
    rw size (sym (lt_no _ _ _ _ (omega arith) (lt_no _ _ _ _ (omega arith) refl))) in
    rw (header_in_lem f a (omega arith), text, same, same, same)

-- ---- the identification

-- bytes are the number that they make
pub bytes_of : (s : List ℕ) → AllBytes s → (n a : ℕ) → a + n ≤ length s → part a n s ≡ le n (le_at n s a)
unfolding part le le_at
bytes_of s bytes zero a h = refl
bytes_of s bytes (suc n) a h =
    let b : get_or s a 0 < 256 = bytes a in
    let r : ℕ = le_at n s (a + 1) in
    let low : (get_or s a 0 + 256 * r) % 256 ≡ get_or s a 0 = omega arith in
    let high : (get_or s a 0 + 256 * r) / 256 ≡ r = omega arith in
    let front : drop a s ≡ get_or s a 0 ∷ drop (a + 1) s = drop-cons s a 0 (omega arith) ∙ rw add-one in
    rw (front, low, high) (ap (λ (l : List ℕ). get_or s a 0 ∷ l) (bytes_of s bytes n (a + 1) (omega arith)))

version_fine : version_in (le 8 version420) ≡ fine
unfolding
    le if_lt if_le if_eq identification.drop_while identification.trimmed identification.first_part identification.past_dot identification.digits_from
    identification.digits identification.number identification.version_of identification.is_ascii identification.version_in
version_fine = refl

-- what was lent stands at the front of the file
pub ident-fine : (f ident : List ℕ) → AllBytes ident → length ident ≡ 64 → le_at 8 ident 8 ≡ version420 → part 0 64 f ≡ ident
    → le_at 8 f 0 ≡ file_mark → identified f ≡ fine
unfolding identified part
ident-fine f ident bytes long version front mark =
    let inside : 64 ≤ length f = omega (arith, long, simp length-take at (ap length front)) in
    let second : part 8 8 f ≡ le 8 version420 =
    sym (part-part 0 64 8 8 f (lit< tt)) ∙ ap (part 8 8) front ∙ bytes_of ident bytes 8 8 (omega arith) ∙ ap (le 8) version in
    sym (lt_no _ _ _ _ inside (eq_yes _ _ _ _ mark (sym (rw second version_fine))))

-- ---- "9 for a DL .. [doesn't] apply": no length of 64 bits exceeds the reader's limit
pub dl_unlimited : (s : List ℕ) → AllBytes s → (a : ℕ) → size_at s a ≤ file_limits.dl_bytes
unfolding size_at
dl_unlimited s bytes a =
    let h : le_at 8 s (a + 8) < 18446744073709551616 = field_below s bytes 8 (a + 8) in
    omega arith
