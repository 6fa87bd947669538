-- Data chains: "DT or DV ends a chain; DL lists fragments, zero links passed over; HL leads to its first link. SD chains likewise, SD in place
-- of DT and DV. A fragment listed twice counts twice; its length isn't compared with the image here." (document 01, walking)
use Rattle.std.specs.Prelude.{ℕ, zero, suc, ◌+◌, ◌-◌, List, [], ◌∷◌, ◌++◌, Bool, true, false, length, eqb}
use Rattle.base.specs.Choice.{pick, if_lt, if_eq}
use Rattle.base.specs.Field.{le_at}
use Rattle.base.specs.Checked.{ok, refused, and_then, Verdict, fine}
use Rattle.mdf.specs.Block.{kind_dt, kind_dv, kind_dl, kind_hl, kind_sd, kind_at, size_at, links_at, first_link, header_in, length_in}

-- "a fragment is an offset, a length and one of two kinds"
pub data Kind : Type 0 where
  dt : Kind
  dv : Kind

-- the same sentence: offset and length of its data, and its kind
pub record Fragment : Type 0 where
  pub offset : ℕ
  pub size : ℕ
  pub kind : Kind

-- the fragment with its header at a: its data begins 24 past it; a length under 24 leaves no data
abbrev pub fragment : List ℕ → ℕ → Kind → Fragment
fragment s a k = record { offset = a + 24; size = size_at s a - 24; kind = k }

-- "SD chains likewise": which chain it is, a DG's data or a channel's signal data
pub data Chain : Type 0 where
  records : Chain
  signal : Chain

-- bookkeeping: the kind of fragment that a block is in such a chain, or none
pub data Leaf : Type 0 where
  leaf : Kind → Leaf
  none : Leaf

-- "DT or DV ends a chain .. SD chains likewise, SD in place of DT and DV."
unfoldable pub leaf_of : Chain → ℕ → Leaf
leaf_of records k = if_eq k kind_dt (leaf dt) (if_eq k kind_dv (leaf dv) none)
leaf_of signal k = if_eq k kind_sd (leaf dt) none

-- bookkeeping: the fragments found in a chain, and the refusal where it was stopped
pub data Found : Type 0 where
  found : List Fragment → Found
  stopped : ℕ → ℕ → List Fragment → Found

-- bookkeeping: what follows the fragments found
abbrev pub on_found : Found → (List Fragment → Found) → Found
on_found (found fs) f = f fs
on_found (stopped number place fs) f = stopped number place fs

-- bookkeeping: what follows a check that passed
abbrev pub on_passed : Verdict → List Fragment → Found → Found
on_passed (ok u) fs next = next
on_passed (refused number place) fs next = stopped number place fs

-- bookkeeping: the limits of a chain: the most bytes of a DL and of an HL (9), the most DL and HL (19), the most fragments, n of which were found before this
-- chain (19)
pub record Limits : Type 0 where
  pub dl_bytes : ℕ
  pub hl_bytes : ℕ
  pub lists : ℕ
  pub fragments : ℕ

-- "1,024 fragments (SD too) in the whole image .. 256 DL and HL in one chain"
abbrev pub limits : Limits
limits = record { dl_bytes = 268435456; hl_bytes = 268435456; lists = 256; fragments = 1024 }

-- of a file whose columns are read: "but 3, 9 for a DL or a data block and the limit on fragments don't apply" (document 02, request 1). A length
-- has 64 bits, so that no DL exceeds the first number. No image under 2^47 bytes has as many fragments: at most 512 DG, 256 DL in each one's
-- chain, under 2^44 links in each of these
abbrev pub file_limits : Limits
file_limits = record { dl_bytes = 18446744073709551615; hl_bytes = 268435456; lists = 256; fragments = 4611686018427387904 }

-- "1,024 fragments (SD too) in the whole image", 19 at the fragment past them: a fragment more
unfoldable pub added : Limits → ℕ → ℕ → Fragment → List Fragment → Found
added l n a f fs = if_lt (n + length fs) l.fragments (found (fs ++ (f ∷ []))) (stopped 19 a fs)

-- bookkeeping: what follows a fragment, or a block that is none
abbrev pub on_leaf : Leaf → Found → (Kind → Found) → Found
on_leaf none other f = other
on_leaf (leaf k) other f = f k

-- "12: another kind in a data chain": a fragment that a DL lists at a: header range, 12, 19
unfoldable pub fragment_at : Chain → Limits → List ℕ → ℕ → ℕ → List Fragment → Found
fragment_at c l s n a fs =
    on_passed (header_in s a) fs
    (on_leaf (leaf_of c (kind_at s a)) (stopped 12 a fs) (λ k. added l n a (fragment s a k) fs))

-- the links that stand at p, so many of them, in order; "zero links passed over"
unfoldable pub listed : Chain → Limits → List ℕ → ℕ → ℕ → ℕ → List Fragment → Found
listed c l s n zero p fs = found fs
listed c l s n (suc links) p fs =
    on_found (if_eq (le_at 8 s p) 0 (found fs) (fragment_at c l s n (le_at 8 s p) fs)) (λ gs. listed c l s n links (p + 8) gs)

-- bookkeeping: a stands in the list
unfoldable pub is_in : ℕ → List ℕ → Bool
is_in a [] = false
is_in a (b ∷ bs) = let more = is_in a bs in pick (eqb b a) true more

-- a DL or HL that is read, with the most bytes of its kind: 8, 9, range, then the limit (19)
unfoldable pub list_in : ℕ → Limits → List ℕ → List ℕ → ℕ → Verdict
list_in most l s seen a = and_then (length_in most s a) (λ _. if_lt (length seen) l.lists fine (refused 19 a))

-- "11: an address met again in a .. data chain", "A data chain has its own" set: the chain from a on, with the DL and HL that were seen;
-- n fragments were found before this chain. One turn for each DL and HL
unfoldable pub chain_from : Chain → Limits → ℕ → List ℕ → ℕ → List ℕ → ℕ → List Fragment → Found
chain_from c l zero s n seen a fs = stopped 19 a fs
chain_from c l (suc turns) s n seen a fs =
    let dl = on_passed (list_in l.dl_bytes l s seen a) fs
    (on_found (listed c l s n (links_at s a - 1) (a + 32) fs) (λ gs. chain_from c l turns s n (a ∷ seen) (first_link s a) gs)) in
    let hl = on_passed (list_in l.hl_bytes l s seen a) fs (chain_from c l turns s n (a ∷ seen) (first_link s a) fs) in
    let node = on_leaf (leaf_of c (kind_at s a))
    (if_eq (kind_at s a) kind_dl dl (if_eq (kind_at s a) kind_hl hl (stopped 12 a fs)))
    (λ k. added l n a (fragment s a k) fs) in
    let unseen = on_passed (header_in s a) fs node in
    if_eq a 0 (found fs) (pick (is_in a seen) (stopped 11 a fs) unseen)

-- the whole chain
unfoldable pub chain : Chain → Limits → List ℕ → ℕ → ℕ → Found
chain c l s n a = chain_from c l (l.lists + 2) s n [] a []
