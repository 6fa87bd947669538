-- The data blocks of a kept column where they are now, and the DL that leads to them.
use Prim.{tt}
use Rattle.std.specs.Prelude.{ℕ, suc, ◌+◌, ◌*◌, ◌-◌, ◌^◌, ◌≤◌, ◌<◌, Bool, true, false, ◌≡◌, eqb, length}
use mathlib.Core.List.{List, [], ◌∷◌, ◌++◌, append_assoc, append-nil}
use Rattle.std.proofs.Math.Path.{refl, sym, ap}
use Rattle.std.proofs.Common.{◌∙◌, arith, lit<, ne_eqb, eqb-true}
use Rattle.std.proofs.Math.ListN.{length-append}
use Rattle.base.specs.Choice.{pick, if_eq}
use Rattle.base.specs.ChoiceLaws.{lt_yes, lt_no, le_yes, eq_yes, eq_no}
use Rattle.base.specs.Checked.{fine}
use Rattle.base.specs.Field.{le_at, le}
use Rattle.base.specs.FieldLaws.{length-le}
use Rattle.base.specs.Blit.{part}
use Rattle.base.specs.BlitLaws.{length_part}
use Rattle.mdf.specs.Block.{kind_dl, kind_at, size_at, links_at, link_at, data_at, first_link, header_in, length_in}
use Rattle.mdf.specs.Chain.{Kind, dt, dv, Fragment, Chain, Chain.records, leaf, leaf_of, found, Limits, file_limits, fragment_at, listed, is_in, list_in, chain_from, chain}
use Rattle.mdf.specs.Group.{inval_bytes}
use Rattle.mdf.specs.Records.{ranges_in, joined, size_of}
use Rattle.result.specs.Fill.{Block, header, block_of, block_links}
use Rattle.result.specs.FillLaws.{length-block_links}
use Rattle.result.specs.Guarantee.{Stands, In, here, there}
use Rattle.payload_laws.specs.PayloadLaws.{length_framed}
use Rattle.shown_laws.specs.Standing.{stands_front, stands_at, read}
use Rattle.shown_laws.specs.Header.{length-header, header-kind, header-size, header_links_lem}
use Rattle.shown_laws.specs.Joined.{stands_inside, block_of_data, block_of_found}
use Rattle.file.specs.Form.{none_zero, have_length, all_dt, all_dv, one_kind}
use Rattle.file_laws.specs.JoinedLaws.{ranges_cons, ranges_in_lem}
use Rattle.file_laws.specs.OpenedLaws.{both_back}
use Rattle.file_laws.specs.FormLaws.{none-next}
use Rattle.thin.specs.Fill.{kind_number, moved_blocks}
use Rattle.thin.specs.Guarantee.{lengths_of, kinds_of}
use Rattle.thin_shown.specs.Sound.{moved_fragments}

-- ---- what stays of data blocks that are moved
pub length_moved : (a : ℕ) (fs : List Fragment) → length (moved_fragments a fs) ≡ length fs
unfolding moved_fragments
length_moved a [] = refl
length_moved a (f ∷ fs) = ap suc (length_moved (a + (24 + f.size)) fs)

pub none-moved : (a : ℕ) (fs : List Fragment) → length fs ≡ 0 → moved_fragments a fs ≡ []
unfolding moved_fragments
none-moved a [] z = refl
none-moved a (f ∷ fs) z = absurd (omega arith)

pub moved_lengths : (a : ℕ) (fs : List Fragment) → lengths_of (moved_fragments a fs) ≡ lengths_of fs
unfolding moved_fragments lengths_of
moved_lengths a [] = refl
moved_lengths a (f ∷ fs) = ap (λ (l : List ℕ). f.size ∷ l) (moved_lengths (a + (24 + f.size)) fs)

pub moved_kinds : (a : ℕ) (fs : List Fragment) → kinds_of (moved_fragments a fs) ≡ kinds_of fs
unfolding moved_fragments kinds_of
moved_kinds a [] = refl
moved_kinds a (f ∷ fs) = ap (λ (l : List Kind). f.kind ∷ l) (moved_kinds (a + (24 + f.size)) fs)

pub moved-size : (a : ℕ) (fs : List Fragment) → size_of (moved_fragments a fs) ≡ size_of fs
unfolding moved_fragments size_of
moved-size a [] = refl
moved-size a (f ∷ fs) = ap (λ (n : ℕ). f.size + n) (moved-size (a + (24 + f.size)) fs)

pub moved_have : (q a : ℕ) (fs : List Fragment) → have_length q (moved_fragments a fs) ≡ have_length q fs
unfolding moved_fragments have_length
moved_have q a [] = refl
moved_have q a (f ∷ []) = refl
moved_have q a (f ∷ g ∷ fs) = ap (λ (t : Bool). pick (eqb f.size q) t false) (moved_have q (a + (24 + f.size)) (g ∷ fs))

moved-dt : (a : ℕ) (fs : List Fragment) → all_dt (moved_fragments a fs) ≡ all_dt fs
unfolding moved_fragments all_dt
moved-dt a [] = refl
moved-dt a (f ∷ fs) = rw (moved-dt (a + (24 + f.size)) fs)

moved-dv : (a : ℕ) (fs : List Fragment) → all_dv (moved_fragments a fs) ≡ all_dv fs
unfolding moved_fragments all_dv
moved-dv a [] = refl
moved-dv a (f ∷ fs) = rw (moved-dv (a + (24 + f.size)) fs)

-- of one kind, under a CG with as many invalidation bytes
pub moved-kind : (s f : List ℕ) (g h a : ℕ) (fs : List Fragment) → inval_bytes f h ≡ inval_bytes s g
    → one_kind f h (moved_fragments a fs) ≡ one_kind s g fs
unfolding one_kind
moved-kind s f g h a fs e = rw (moved-dt a fs, moved-dv a fs, e)

-- ---- moved blocks that stand

-- "each but the last has the DL's length"
have_first : (q : ℕ) (f g : Fragment) (fs : List Fragment) → have_length q (f ∷ g ∷ fs) ≡ true → (f.size ≡ q) × (have_length q (g ∷ fs) ≡ true)
unfolding have_length
have_first q f g fs e = let b = both_back (eqb f.size q) (have_length q (g ∷ fs)) e in (eqb-true _ _ b.0, b.1)

leaf_number : (k : Kind) → leaf_of records (kind_number k) ≡ leaf k
unfolding leaf_of if_eq
leaf_number dt = refl
leaf_number dv = refl

number_small : (k : Kind) → kind_number k < 256 ^ 4
number_small dt = lit< tt
number_small dv = lit< tt

module _ (s f : List ℕ) where
  -- one: its bytes are those of the file s
  moved_length : (g : Fragment) → g.offset + g.size ≤ length s → length (part g.offset g.size s) ≡ g.size
  moved_length g h = length_part g.offset g.size s h

  moved_data : (g : Fragment) (a : ℕ) → g.offset + g.size ≤ length s → Stands f a (block_of (kind_number g.kind) (part g.offset g.size s))
      → part (a + 24) g.size f ≡ part g.offset g.size s
  moved_data g a h st = rw (moved_length g h) at (block_of_data (kind_number g.kind) a (part g.offset g.size s) st)

  moved_inside : (g : Fragment) (a : ℕ) → g.offset + g.size ≤ length s → Stands f a (block_of (kind_number g.kind) (part g.offset g.size s))
      → a + 24 + g.size ≤ length f
  moved_inside g a h st =
      let long = length_framed (kind_number g.kind) (part g.offset g.size s) in
      omega (arith, long, moved_length g h, stands_inside (block_of (kind_number g.kind) (part g.offset g.size s)) st (omega arith))

  -- joined they are the bytes that the blocks of s hold
  pub moved-joined : (a : ℕ) (fs : List Fragment) → ranges_in s fs ≡ fine
      → ((b : Block) → In b (moved_blocks s a fs) → Stands f b.at b.bytes) → joined f (moved_fragments a fs) ≡ joined s fs
  unfolding moved_fragments moved_blocks joined
  moved-joined a [] e blocks = refl
  moved-joined a (g ∷ fs) e blocks =
      let r = ranges_cons s g fs e in
      rw (moved_data g a r.0 (blocks _ here), moved-joined (a + (24 + g.size)) fs r.1 (λ b i. blocks b (there i)))

  -- their ranges lie in the new file
  pub moved_ranges : (a : ℕ) (fs : List Fragment) → ranges_in s fs ≡ fine
      → ((b : Block) → In b (moved_blocks s a fs) → Stands f b.at b.bytes) → ranges_in f (moved_fragments a fs) ≡ fine
  unfolding moved_fragments moved_blocks ranges_in
  moved_ranges a [] e blocks = refl
  moved_ranges a (g ∷ fs) e blocks =
      let r = ranges_cons s g fs e in
      ranges_in_lem f (record { offset = a + 24; size = g.size; kind = g.kind }) (moved_fragments (a + (24 + g.size)) fs)
      (moved_inside g a r.0 (blocks _ here)) (moved_ranges (a + (24 + g.size)) fs r.1 (λ b i. blocks b (there i)))

  -- one is found in a data chain
  moved-found : (g : Fragment) (a n : ℕ) (gs : List Fragment) → g.offset + g.size ≤ length s
      → Stands f a (block_of (kind_number g.kind) (part g.offset g.size s)) → 24 + g.size < 256 ^ 8 → n + length gs < file_limits.fragments
      → fragment_at records file_limits f n a gs ≡ found (gs ++ (record { offset = a + 24; size = g.size; kind = g.kind } ∷ []))
  moved-found g a n gs h st below r =
      rw (moved_length g h) at
      (block_of_found records file_limits (kind_number g.kind) g.kind (leaf_number g.kind) (number_small g.kind) a
      (part g.offset g.size s) n gs st (rw (moved_length g h) below) r)

  -- the links to them lead to them
  pub moved_listed : (fs : List Fragment) (q a at n : ℕ) (gs : List Fragment) → ranges_in s fs ≡ fine
      → ((b : Block) → In b (moved_blocks s a fs) → Stands f b.at b.bytes) → Stands f at (block_links q (length fs) a) → have_length q fs ≡ true
      → 0 < a → a + 24 * length fs + size_of fs < 256 ^ 8 → n + length gs + length fs ≤ file_limits.fragments
      → listed records file_limits f n (length fs) at gs ≡ found (gs ++ moved_fragments a fs)
  unfolding listed moved_blocks block_links size_of moved_fragments
  moved_listed [] q a at n gs e blocks st have z h r = rw append-nil
  moved_listed (g ∷ []) q a at n gs e blocks st have z h r =
      let link : le_at 8 f at ≡ a = read 8 a (stands_front (le 8 a) _ st) (omega arith) in
      let one : if_eq a 0 (found gs) (fragment_at records file_limits f n a gs)
      ≡ found (gs ++ (record { offset = a + 24; size = g.size; kind = g.kind } ∷ [])) =
      sym (eq_no _ _ _ _ (λ w. omega arith) (sym (moved-found g a n gs (ranges_cons s g [] e).0 (blocks _ here) (omega arith) (omega arith)))) in
      rw (link, one)
  moved_listed (g ∷ k ∷ fs) q a at n gs e blocks st have z h r =
      let d = have_first q g k fs have in
      let c = ranges_cons s g (k ∷ fs) e in
      let link : le_at 8 f at ≡ a = read 8 a (stands_front (le 8 a) _ st) (omega arith) in
      let rest : Stands f (at + 8) (block_links q (length (k ∷ fs)) (a + (24 + q))) =
      stands_at (le 8 a) (block_links q (length (k ∷ fs)) (a + (24 + q))) st (simp length-le) in
      let next : Stands f (at + 8) (block_links q (length (k ∷ fs)) (a + (24 + g.size))) = rw d.0 rest in
      let one : if_eq a 0 (found gs) (fragment_at records file_limits f n a gs)
      ≡ found (gs ++ (record { offset = a + 24; size = g.size; kind = g.kind } ∷ [])) =
      sym (eq_no _ _ _ _ (λ w. omega arith) (sym (moved-found g a n gs c.0 (blocks _ here) (omega arith) (omega arith)))) in
      let more = moved_listed (k ∷ fs) q (a + (24 + g.size)) (at + 8) n (gs ++ (record { offset = a + 24; size = g.size; kind = g.kind } ∷ []))
      c.1 (λ b i. blocks b (there i)) next d.1 (omega arith) (omega arith) (rw length-append (omega arith)) in
      rw (link, one) (more ∙ ap found (append_assoc gs _ _))

  -- none of the links is 0
  pub moved-some : (fs : List Fragment) (q a at : ℕ) → Stands f at (block_links q (length fs) a) → have_length q fs ≡ true → 0 < a
      → a + 24 * length fs + size_of fs < 256 ^ 8 → none_zero f (length fs) at ≡ true
  unfolding block_links size_of none_zero
  moved-some [] q a at st have z h = refl
  moved-some (g ∷ []) q a at st have z h =
      let link : le_at 8 f at ≡ a = read 8 a (stands_front (le 8 a) _ st) (omega arith) in
      none-next f 0 at (λ w. omega arith) refl
  moved-some (g ∷ k ∷ fs) q a at st have z h =
      let d = have_first q g k fs have in
      let link : le_at 8 f at ≡ a = read 8 a (stands_front (le 8 a) _ st) (omega arith) in
      let rest : Stands f (at + 8) (block_links q (length (k ∷ fs)) (a + (24 + q))) =
      stands_at (le 8 a) (block_links q (length (k ∷ fs)) (a + (24 + q))) st (simp length-le) in
      let next : Stands f (at + 8) (block_links q (length (k ∷ fs)) (a + (24 + g.size))) = rw d.0 rest in
      none-next f (length (k ∷ fs)) at (λ w. omega arith) (moved-some (k ∷ fs) q (a + (24 + g.size)) (at + 8) next d.1 (omega arith) (omega arith))

-- ---- a DL alone in its chain
chain-ends : (c : Chain) (l : Limits) (turns : ℕ) (f : List ℕ) (n : ℕ) (seen : List ℕ) (fs : List Fragment)
    → chain_from c l (suc turns) f n seen 0 fs ≡ found fs
unfolding chain_from
chain-ends c l turns f n seen fs = sym (eq_yes _ _ _ _ refl refl)

-- whose links lead to the fragments fs, with a first link of 0
list-alone : (l : Limits) (turns : ℕ) (f : List ℕ) (n a : ℕ) (fs : List Fragment) → (a ≡ 0 → ⊥) → header_in f a ≡ fine → kind_at f a ≡ kind_dl
    → list_in l.dl_bytes l f [] a ≡ fine → listed records l f n (links_at f a - 1) (a + 32) [] ≡ found fs → first_link f a ≡ 0
    → chain_from records l turns f n (a ∷ []) 0 fs ≡ found fs → chain_from records l (suc turns) f n [] a [] ≡ found fs
unfolding chain_from is_in leaf_of if_eq
list-alone l turns f n a fs z inside kind fits links last more = rw (ne_eqb a 0 z, inside, kind, fits, links, last) more

-- ---- a DL that stands: n links to blocks from first on, q bytes of data each; its links may be more than 2 ^ 32
module _ {f : List ℕ} (dl n q first : ℕ) (few : 64 + 8 * n < 256 ^ 8) (small : q < 256 ^ 8)
    (st : Stands f dl (header kind_dl (24 + 8 * (n + 1) + 16) (n + 1) ++ le 8 0 ++ block_links q n first ++ le 4 1 ++ le 4 n ++ le 8 q)) where
  up_to : Stands f dl (header kind_dl (24 + 8 * (n + 1) + 16) (n + 1) ++ le 8 0 ++ block_links q n first)
  up_to = stands_front _ _ (stands_front _ _ (stands_front _ _ st))

  top : Stands f dl (header kind_dl (24 + 8 * (n + 1) + 16) (n + 1))
  top = stands_front _ _ (stands_front _ _ up_to)

  pub list-kind : kind_at f dl ≡ kind_dl
  list-kind = header-kind kind_dl _ _ top (lit< tt)

  pub list-size : size_at f dl ≡ 24 + 8 * (n + 1) + 16
  list-size = header-size kind_dl _ _ top (omega arith)

  pub list_links : links_at f dl ≡ n + 1
  list_links = header_links_lem kind_dl _ _ top (omega arith)

  pub list-next : link_at f dl 0 ≡ 0
  unfolding link_at
  list-next = read 8 0 (stands_at {b = dl + 24 + 8 * 0} (header kind_dl (24 + 8 * (n + 1) + 16) (n + 1)) (le 8 0) (stands_front _ _ up_to)
      (simp length-header (omega arith))) (lit< tt)

  list-first : first_link f dl ≡ 0
  unfolding first_link
  list-first = sym (lt_yes _ _ _ _ (omega (arith, list_links)) (sym list-next))

  pub list-listed : Stands f (dl + 32) (block_links q n first)
  list-listed = stands_at (header kind_dl (24 + 8 * (n + 1) + 16) (n + 1) ++ le 8 0) (block_links q n first) up_to
      (simp (length-append, length-header, length-le))

  list_data : data_at f dl ≡ dl + 24 + 8 * (n + 1)
  unfolding data_at
  list_data = rw list_links

  pub list_flags : le_at 4 f (data_at f dl) ≡ 1
  list_flags =
      read 4 1 (stands_at {b = data_at f dl} (header kind_dl (24 + 8 * (n + 1) + 16) (n + 1) ++ le 8 0 ++ block_links q n first) (le 4 1)
      (stands_front _ _ (stands_front _ _ st)) (rw list_data (simp (length-append, length-header, length-le, length-block_links) (omega arith)))) (lit< tt)

  -- the number in a DL has 32 bits
  pub list_count : n < 256 ^ 4 → le_at 4 f (data_at f dl + 4) ≡ n
  list_count h =
      read 4 n (stands_at {b = data_at f dl + 4} (header kind_dl (24 + 8 * (n + 1) + 16) (n + 1) ++ le 8 0 ++ block_links q n first ++ le 4 1) (le 4 n)
      (stands_front _ _ st) (rw list_data (simp (length-append, length-header, length-le, length-block_links) (omega arith)))) h

  pub list_equal : le_at 8 f (data_at f dl + 8) ≡ q
  list_equal =
      read 8 q (stands_at {b = data_at f dl + 8} (header kind_dl (24 + 8 * (n + 1) + 16) (n + 1) ++ le 8 0 ++ block_links q n first ++ le 4 1 ++ le 4 n)
      (le 8 q) st (rw list_data (simp (length-append, length-header, length-le, length-block_links) (omega arith)))) small

  list_inside : dl + (24 + 8 * (n + 1) + 16) ≤ length f
  list_inside =
      let whole : length (header kind_dl (24 + 8 * (n + 1) + 16) (n + 1) ++ le 8 0 ++ block_links q n first ++ le 4 1 ++ le 4 n ++ le 8 q) ≡ 24 + 8 * (n + 1) + 16 =
      simp (length-append, length-header, length-le, length-block_links) (omega arith) in
      omega (arith, whole, stands_inside _ st (omega arith))

  list_headed : header_in f dl ≡ fine
  unfolding header_in
  list_headed = sym (le_yes _ _ _ _ (omega (arith, list_inside)) refl)

  list_whole : length_in file_limits.dl_bytes f dl ≡ fine
  unfolding length_in
  list_whole =
      rw (list-size, list_links) (sym (lt_no _ _ _ _ (omega arith) (lt_no _ _ _ _ (omega arith) (lt_no _ _ _ _ (omega (arith, list_inside)) refl))))

  list-fits : list_in file_limits.dl_bytes file_limits f [] dl ≡ fine
  unfolding list_in
  list-fits = rw list_whole (sym (lt_yes _ _ _ _ (lit< tt) refl))

  -- the chain at it finds what its links lead to, whatever was found before
  list-chain : (m : ℕ) (fs : List Fragment) → (dl ≡ 0 → ⊥) → listed records file_limits f m n (dl + 32) [] ≡ found fs
      → chain records file_limits f m dl ≡ found fs
  unfolding chain
  list-chain m fs z links =
      let count : links_at f dl - 1 ≡ n = omega (arith, list_links) in
      list-alone file_limits 257 f m dl fs z list_headed list-kind list-fits (rw count links) list-first
      (chain-ends records file_limits 256 f m (dl ∷ []) fs)

  -- THE law of a column's data: the moved blocks
  pub moved-chain : (s : List ℕ) (m : ℕ) (fs : List Fragment) → ranges_in s fs ≡ fine
      → ((b : Block) → In b (moved_blocks s first fs) → Stands f b.at b.bytes) → length fs ≡ n → have_length q fs ≡ true → (dl ≡ 0 → ⊥) → 0 < first
      → first + 24 * length fs + size_of fs < 256 ^ 8 → m + length fs ≤ file_limits.fragments
      → chain records file_limits f m dl ≡ found (moved_fragments first fs)
  moved-chain s m fs e blocks count have z above room most =
      list-chain m (moved_fragments first fs) z
      (rw (← count) (moved_listed s f fs q first (dl + 32) m [] e blocks (rw count list-listed) have above room (omega arith)))
