-- The payloads of data blocks: joined they are the cells, each but the last is full. So the blocks follow each other.
use Rattle.std.specs.Prelude.{ℕ, zero, suc, ◌+◌, ◌*◌, ◌≤◌, ◌<◌, true, List, [], ◌∷◌, ◌≡◌, refl, length, take, drop}
use Rattle.std.proofs.Common.{ap, ◌∙◌, le_refl, zero-mul, suc-mul, mul_comm, arith, length-append, length-drop, take-add, length-take-le}
use Rattle.mdf.specs.Group.{samples, inval_bytes}
use Rattle.plan.specs.Channel.{fits, width}
use Rattle.result.specs.Payload.{cells, payloads}
use Rattle.result.specs.Fill.{block_of, payload_blocks}
use Rattle.result.specs.Ordered.{Ordered}
use Rattle.payload_laws.specs.Lists.{Long, long-take, long-drop, together}
use Rattle.payload_laws.specs.CellLaws.{length-cells, cells-append}
pub use Rattle.result.specs.FillLaws.{length-header}

-- ---- payloads of records

pub length-payloads : (s : List ℕ) (g c m k : ℕ) (rs : List (List ℕ)) → length (payloads s g c m k rs) ≡ k
unfolding payloads
length-payloads s g c m zero rs = refl
length-payloads s g c m (suc k) rs = ap suc (length-payloads s g c m k (drop m rs))

-- joined, they are the cells of k × m records
pub payloads-joined : (s : List ℕ) (g c m k : ℕ) (rs : List (List ℕ)) → together (payloads s g c m k rs) ≡ cells s g c (take (k * m) rs)
unfolding payloads together cells
payloads-joined s g c m zero rs = rw zero-mul
payloads-joined s g c m (suc k) rs =
    let e : suc k * m ≡ m + k * m = omega (arith, suc-mul k m) in
    rw (e, take-add m (k * m) rs, cells-append, payloads-joined s g c m k (drop m rs))

-- each payload but the last has q bytes
pub data Even (q : ℕ) : List (List ℕ) → Type 0 where
  none : Even q []
  last : {p : List ℕ} → Even q (p ∷ [])
  next : {p r : List ℕ} {ps : List (List ℕ)} → length p ≡ q → Even q (r ∷ ps) → Even q (p ∷ r ∷ ps)

pub payloads_even : (s : List ℕ) (g c m j : ℕ) (rs : List (List ℕ)) → fits s g c ≡ true → Long (samples s g + inval_bytes s g) rs
    → j * m < length rs
    → Even (m * width s g c) (payloads s g c m (suc j) rs)
unfolding payloads
payloads_even s g c m zero rs f l h = last
payloads_even s g c m (suc j) rs f l h =
    let e : suc j * m ≡ j * m + m = suc-mul j m in
    let t : length (take m rs) ≡ m = length-take-le m rs (omega arith) in
    let x : length (cells s g c (take m rs)) ≡ m * width s g c = length-cells s g c f (long-take m l) ∙ rw (t, mul_comm) in
    next x (payloads_even s g c m j (drop m rs) f (long-drop m l) (rw length-drop (omega arith)))

-- ---- blocks one after the other

pub length_framed : (kind : ℕ) (p : List ℕ) → length (block_of kind p) ≡ 24 + length p
unfolding block_of
length_framed kind p = rw (length-append, length-header)

pub payloads-ordered : (kind a e : ℕ) (ps : List (List ℕ)) → a + (24 * length ps + length (together ps)) ≤ e
    → Ordered a (payload_blocks kind a ps) e
unfolding Ordered payload_blocks together
payloads-ordered kind a e [] h = omega arith
payloads-ordered kind a e (p ∷ ps) h =
    let j : a + (24 * suc (length ps) + (length p + length (together ps))) ≤ e = rw length-append at h in
    (le_refl a, rw length_framed (payloads-ordered kind (a + (24 + length p)) e ps (omega arith)))
