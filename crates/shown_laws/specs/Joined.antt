-- The data of a column, read by links: from its DL the fragments of its data blocks, and the fragment of its SD.
use Prim.{Unit, tt}
use Rattle.std.specs.Prelude.{◌≡◌, refl, ℕ, suc, ◌+◌, ◌-◌, ◌*◌, ◌^◌, ◌≤◌, ◌<◌}
use Rattle.std.proofs.Math.Path.{sym, ap}
use Rattle.std.proofs.Common.{◌∙◌, arith, lit<, ne_eqb, length-take, length-drop}
use mathlib.Core.List.{List, [], ◌∷◌, ◌++◌, flatten, append_assoc, append-nil}
use Rattle.std.proofs.Math.ListN.{length, length-append}
use Rattle.base.specs.Choice.{if_eq}
use Rattle.base.specs.ChoiceLaws.{lt_yes, lt_no, le_yes, eq_yes, eq_no}
use Rattle.base.specs.Checked.{fine}
use Rattle.base.specs.Field.{le_at, le}
use Rattle.base.specs.FieldLaws.{length-le}
use Rattle.base.specs.Blit.{part}
use Rattle.mdf.specs.Block.{kind_dl, kind_sd, kind_at, size_at, links_at, link_at, data_at, first_link, header_in, length_in}
use Rattle.mdf.specs.Chain.{
  Kind,
  dt,
  Fragment,
  Chain,
  Chain.records,
  Chain.signal,
  leaf,
  leaf_of,
  found,
  Limits,
  added,
  fragment_at,
  listed,
  is_in,
  list_in,
  chain_from,
  chain,
}
use Rattle.mdf.specs.Records.{joined}
use Rattle.result.specs.Fill.{Block, header, block_of, payload_blocks, block_links, dl_bytes}
use Rattle.result.specs.FillLaws.{length-block_links}
use Rattle.mdf.specs.Chain.{file_limits}
use Rattle.result.specs.Due.{even_blocks}
use Rattle.result.specs.Guarantee.{Stands, In, here, there}
use Rattle.shown_laws.specs.Standing.{stands_front, stands_at, read}
use Rattle.shown_laws.specs.Header.{length-header, header-kind, header-size, header_links_lem}

-- every payload but the last has pay bytes
unfoldable pub EqualBut : ℕ → List (List ℕ) → Type 0
EqualBut pay [] = Unit {0}
EqualBut pay (p ∷ []) = Unit {0}
EqualBut pay (p ∷ q ∷ ps) = (length p ≡ pay) × EqualBut pay (q ∷ ps)

-- what stands in a file ends in it
pub stands_inside : {f : List ℕ} {a : ℕ} (bs : List ℕ) → Stands f a bs → 0 < length bs → a + length bs ≤ length f
unfolding part
stands_inside bs s h = omega (arith, simp (length-take, length-drop) at (ap length s.is))

-- ---- one block

-- the fragment that a block at a with payload p is
abbrev pub framed_fragment : Kind → ℕ → List ℕ → Fragment
framed_fragment k a p = record { offset = a + 24; size = length p; kind = k }

-- the fragments of blocks one after the other, from a on
unfoldable pub fragments_of : Kind → ℕ → List (List ℕ) → List Fragment
fragments_of k a [] = []
fragments_of k a (p ∷ ps) = framed_fragment k a p ∷ fragments_of k (a + (24 + length p)) ps

module _ {f : List ℕ} (kind a : ℕ) (p : List ℕ) (s : Stands f a (block_of kind p)) where
  block_of_top : Stands f a (header kind (24 + length p) 0)
  unfolding block_of
  block_of_top = stands_front _ p s

  pub block_of_kind : kind < 256 ^ 4 → kind_at f a ≡ kind
  block_of_kind h = header-kind kind (24 + length p) 0 block_of_top h

  pub block_of_size : 24 + length p < 256 ^ 8 → size_at f a - 24 ≡ length p
  block_of_size h = let n = header-size kind (24 + length p) 0 block_of_top h in omega arith

  -- its data
  pub block_of_data : part (a + 24) (length p) f ≡ p
  unfolding block_of
  block_of_data = (stands_at {b = a + 24} (header kind (24 + length p) 0) p s (simp length-header)).is

  pub block_of_in : header_in f a ≡ fine
  unfolding header_in
  block_of_in =
      let e = stands_inside (header kind (24 + length p) 0) block_of_top (simp length-header (lit< tt)) in
      sym (le_yes _ _ _ _ (omega (arith, simp length-header at e)) refl)

-- it is found in a chain in which its kind is a fragment's
module _ {f : List ℕ} (c : Chain) (l : Limits) (kind : ℕ) (k : Kind) (leafy : leaf_of c kind ≡ leaf k) (small : kind < 256 ^ 4) where
  pub block_of_found : (a : ℕ) (p : List ℕ) (n : ℕ) (fs : List Fragment) → Stands f a (block_of kind p) → 24 + length p < 256 ^ 8
      → n + length fs < l.fragments → fragment_at c l f n a fs ≡ found (fs ++ (framed_fragment k a p ∷ []))
  unfolding fragment_at added
  block_of_found a p n fs s h r =
      rw (block_of_in kind a p s, block_of_kind kind a p s small, leafy, block_of_size kind a p s h) (sym (lt_yes _ _ _ _ r refl))

  -- alone in its chain
  pub block_of_alone : (turns a : ℕ) (p : List ℕ) (n : ℕ) → Stands f a (block_of kind p) → 24 + length p < 256 ^ 8 → (a ≡ 0 → ⊥) → n < l.fragments
      → chain_from c l (suc turns) f n [] a [] ≡ found (framed_fragment k a p ∷ [])
  unfolding chain_from is_in added
  block_of_alone turns a p n s h z r =
      sym (eq_no _ _ _ _ z (sym (rw (block_of_in kind a p s, block_of_kind kind a p s small, leafy, block_of_size kind a p s h)
      (sym (lt_yes _ _ _ _ (omega arith) refl)))))

  -- the links to blocks one after the other lead to them
  pub listed_found : (ps : List (List ℕ)) (pay a at n : ℕ) (fs : List Fragment)
      → ((b : Block) → In b (payload_blocks kind a ps) → Stands f b.at b.bytes) → Stands f at (block_links pay (length ps) a)
      → EqualBut pay ps → 0 < a → a + 24 * length ps + length (flatten ps) < 256 ^ 8 → n + length fs + length ps ≤ l.fragments
      → listed c l f n (length ps) at fs ≡ found (fs ++ fragments_of k a ps)
  unfolding listed payload_blocks block_links EqualBut flatten fragments_of
  listed_found [] pay a at n fs blocks s eq z h r = rw append-nil
  listed_found (p ∷ []) pay a at n fs blocks s eq z h r =
      let g : a + 24 * 1 + (length p + 0) < 256 ^ 8 = rw length-append at h in
      let link : le_at 8 f at ≡ a = read 8 a (stands_front (le 8 a) _ s) (omega arith) in
      let one : if_eq a 0 (found fs) (fragment_at c l f n a fs) ≡ found (fs ++ (framed_fragment k a p ∷ [])) =
      sym (eq_no _ _ _ _ (λ e. omega arith) (sym (block_of_found a p n fs (blocks _ here) (omega arith) (omega arith)))) in
      rw (link, one)
  listed_found (p ∷ q ∷ ps) pay a at n fs blocks s eq z h r =
      let g : a + 24 * length (p ∷ q ∷ ps) + (length p + length (q ++ flatten ps)) < 256 ^ 8 = rw length-append at h in
      let link : le_at 8 f at ≡ a = read 8 a (stands_front (le 8 a) _ s) (omega arith) in
      let rest : Stands f (at + 8) (block_links pay (length (q ∷ ps)) (a + (24 + pay))) =
      stands_at (le 8 a) (block_links pay (length (q ∷ ps)) (a + (24 + pay))) s (simp length-le) in
      let next : Stands f (at + 8) (block_links pay (length (q ∷ ps)) (a + (24 + length p))) = rw eq.0 rest in
      let one : if_eq a 0 (found fs) (fragment_at c l f n a fs) ≡ found (fs ++ (framed_fragment k a p ∷ [])) =
      sym (eq_no _ _ _ _ (λ e. omega arith) (sym (block_of_found a p n fs (blocks _ here) (omega arith) (omega arith)))) in
      let more = listed_found (q ∷ ps) pay (a + (24 + length p)) (at + 8) n (fs ++ (framed_fragment k a p ∷ [])) (λ b i. blocks b (there i)) next
      eq.1 (omega arith) (omega arith) (rw length-append (omega arith)) in
      rw (link, one) (more ∙ ap found (append_assoc fs _ _))

-- the fragments of blocks one after the other: as many as payloads, all but the last of one length
pub fragments_even : (k : Kind) (pay a : ℕ) (ps : List (List ℕ)) → EqualBut pay ps
    → fragments_of k a ps ≡ even_blocks k pay (length ps) (length (flatten ps)) a
unfolding fragments_of EqualBut flatten even_blocks
fragments_even k pay a [] e = refl
fragments_even k pay a (p ∷ []) e = rw append-nil
fragments_even k pay a (p ∷ q ∷ ps) e =
    let less : length (p ++ flatten (q ∷ ps)) - pay ≡ length (flatten (q ∷ ps)) = rw length-append (omega (arith, e.0)) in
    rw (e.0, less) (ap (λ (l : List Fragment). record { offset = a + 24; size = pay; kind = k } ∷ l) (fragments_even k pay (a + (24 + pay)) (q ∷ ps) e.1))

-- joined they are the payloads
pub fragments_joined : {f : List ℕ} (k : Kind) (kind a : ℕ) (ps : List (List ℕ))
    → ((b : Block) → In b (payload_blocks kind a ps) → Stands f b.at b.bytes) → joined f (fragments_of k a ps) ≡ flatten ps
unfolding fragments_of payload_blocks joined flatten
fragments_joined k kind a [] blocks = refl
fragments_joined k kind a (p ∷ ps) blocks =
    rw (block_of_data kind a p (blocks _ here), fragments_joined k kind (a + (24 + length p)) ps (λ b i. blocks b (there i)))

-- ---- nothing at link 0
chain-ends : (c : Chain) (l : Limits) (turns : ℕ) (f : List ℕ) (n : ℕ) (seen : List ℕ) (fs : List Fragment)
    → chain_from c l (suc turns) f n seen 0 fs ≡ found fs
unfolding chain_from
chain-ends c l turns f n seen fs = sym (eq_yes _ _ _ _ refl refl)

pub chain-none : (c : Chain) (f : List ℕ) (n : ℕ) → chain c file_limits f n 0 ≡ found []
unfolding chain
chain-none c f n = chain-ends c file_limits 257 f n [] []

-- ---- an SD that stands
pub chain_signal : {f : List ℕ} (a : ℕ) (p : List ℕ) (n : ℕ) → Stands f a (block_of kind_sd p) → 24 + length p < 256 ^ 8 → (a ≡ 0 → ⊥)
    → n < file_limits.fragments → chain signal file_limits f n a ≡ found (framed_fragment dt a p ∷ [])
unfolding chain leaf_of if_eq
chain_signal a p n s h z r = block_of_alone signal file_limits kind_sd dt refl (lit< tt) 257 a p n s h z r

-- ---- the DL of a column with its blocks

-- a DL whose links lead to the fragments fs, with a first link of 0
list-alone : (l : Limits) (turns : ℕ) (f : List ℕ) (n a : ℕ) (fs : List Fragment) → (a ≡ 0 → ⊥) → header_in f a ≡ fine → kind_at f a ≡ kind_dl
    → list_in l.dl_bytes l f [] a ≡ fine → listed records l f n (links_at f a - 1) (a + 32) [] ≡ found fs → first_link f a ≡ 0
    → chain_from records l turns f n (a ∷ []) 0 fs ≡ found fs → chain_from records l (suc turns) f n [] a [] ≡ found fs
unfolding chain_from is_in leaf_of if_eq
list-alone l turns f n a fs z inside kind fits links last more = rw (ne_eqb a 0 z, inside, kind, fits, links, last) more

-- a DL that stands: n links to blocks from first on, q bytes of data each
module _ {f : List ℕ} (dl n q first : ℕ) (few : n < 256 ^ 4) (small : q < 256 ^ 8)
    (st : Stands f dl (header kind_dl (24 + 8 * (n + 1) + 16) (n + 1) ++ le 8 0 ++ block_links q n first ++ le 4 1 ++ le 4 n ++ le 8 q)) where
  up_to : Stands f dl (header kind_dl (24 + 8 * (n + 1) + 16) (n + 1) ++ le 8 0 ++ block_links q n first)
  up_to = stands_front _ _ (stands_front _ _ (stands_front _ _ st))

  top : Stands f dl (header kind_dl (24 + 8 * (n + 1) + 16) (n + 1))
  top = stands_front _ _ (stands_front _ _ up_to)

  pub dl-kind : kind_at f dl ≡ kind_dl
  dl-kind = header-kind kind_dl _ _ top (lit< tt)

  pub dl-size : size_at f dl ≡ 24 + 8 * (n + 1) + 16
  dl-size = header-size kind_dl _ _ top (omega arith)

  pub dl_links : links_at f dl ≡ n + 1
  dl_links = header_links_lem kind_dl _ _ top (omega arith)

  pub dl-next : link_at f dl 0 ≡ 0
  unfolding link_at
  dl-next = read 8 0 (stands_at {b = dl + 24 + 8 * 0} (header kind_dl (24 + 8 * (n + 1) + 16) (n + 1)) (le 8 0) (stands_front _ _ up_to)
      (simp length-header (omega arith))) (lit< tt)

  pub dl-first : first_link f dl ≡ 0
  unfolding first_link
  dl-first = sym (lt_yes _ _ _ _ (omega (arith, dl_links)) (sym dl-next))

  pub dl-listed : Stands f (dl + 32) (block_links q n first)
  dl-listed = stands_at (header kind_dl (24 + 8 * (n + 1) + 16) (n + 1) ++ le 8 0) (block_links q n first) up_to
      (simp (length-append, length-header, length-le))

  dl_data_lem : data_at f dl ≡ dl + 24 + 8 * (n + 1)
  unfolding data_at
  dl_data_lem = rw dl_links

  pub dl_flags : le_at 4 f (data_at f dl) ≡ 1
  dl_flags =
      read 4 1 (stands_at {b = data_at f dl} (header kind_dl (24 + 8 * (n + 1) + 16) (n + 1) ++ le 8 0 ++ block_links q n first) (le 4 1)
      (stands_front _ _ (stands_front _ _ st)) (rw dl_data_lem (simp (length-append, length-header, length-le, length-block_links) (omega arith)))) (lit< tt)

  pub dl_count : le_at 4 f (data_at f dl + 4) ≡ n
  dl_count =
      read 4 n (stands_at {b = data_at f dl + 4} (header kind_dl (24 + 8 * (n + 1) + 16) (n + 1) ++ le 8 0 ++ block_links q n first ++ le 4 1) (le 4 n)
      (stands_front _ _ st) (rw dl_data_lem (simp (length-append, length-header, length-le, length-block_links) (omega arith)))) few

  pub dl_equal : le_at 8 f (data_at f dl + 8) ≡ q
  dl_equal =
      read 8 q (stands_at {b = data_at f dl + 8} (header kind_dl (24 + 8 * (n + 1) + 16) (n + 1) ++ le 8 0 ++ block_links q n first ++ le 4 1 ++ le 4 n)
      (le 8 q) st (rw dl_data_lem (simp (length-append, length-header, length-le, length-block_links) (omega arith)))) small

  dl_inside : dl + (24 + 8 * (n + 1) + 16) ≤ length f
  dl_inside =
      let whole : length (header kind_dl (24 + 8 * (n + 1) + 16) (n + 1) ++ le 8 0 ++ block_links q n first ++ le 4 1 ++ le 4 n ++ le 8 q) ≡ 24 + 8 * (n + 1) + 16 =
      simp (length-append, length-header, length-le, length-block_links) (omega arith) in
      omega (arith, whole, stands_inside _ st (omega arith))

  dl_headed : header_in f dl ≡ fine
  unfolding header_in
  dl_headed = sym (le_yes _ _ _ _ (omega (arith, dl_inside)) refl)

  dl_whole : length_in file_limits.dl_bytes f dl ≡ fine
  unfolding length_in
  dl_whole =
      rw (dl-size, dl_links) (sym (lt_no _ _ _ _ (omega arith) (lt_no _ _ _ _ (omega arith) (lt_no _ _ _ _ (omega (arith, dl_inside)) refl))))

  dl-fits : list_in file_limits.dl_bytes file_limits f [] dl ≡ fine
  unfolding list_in
  dl-fits = rw dl_whole (sym (lt_yes _ _ _ _ (lit< tt) refl))

  -- it leads a chain to its blocks, however many fragments were found before
  pub dl-chain : (m : ℕ) (k : Kind) (kind : ℕ) (ps : List (List ℕ)) → leaf_of records kind ≡ leaf k → kind < 256 ^ 4 → (dl ≡ 0 → ⊥)
      → ((b : Block) → In b (payload_blocks kind first ps) → Stands f b.at b.bytes) → length ps ≡ n → EqualBut q ps → 0 < first
      → first + 24 * n + length (flatten ps) < 256 ^ 8 → m + n ≤ file_limits.fragments
      → chain records file_limits f m dl ≡ found (fragments_of k first ps)
  unfolding chain
  dl-chain m k kind ps leafy below z blocks count even above room most =
      let found' = listed_found records file_limits kind k leafy below ps q first (dl + 32) m [] blocks (rw count dl-listed) even above
      (omega arith) (omega arith) in
      let links : links_at f dl - 1 ≡ length ps = omega (arith, dl_links) in
      list-alone file_limits 257 f m dl (fragments_of k first ps) z dl_headed dl-kind dl-fits (rw links found') dl-first
      (chain-ends records file_limits 256 f m (dl ∷ []) (fragments_of k first ps))
