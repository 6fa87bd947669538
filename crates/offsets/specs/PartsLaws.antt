-- Laws of words shared out to groups, and of entries that are put.
use Rattle.std.specs.Prelude.{ℕ, ◌+◌, ◌-◌, ◌≤◌, ◌<◌, List, ◌≡◌, ◌⊎◌, length, get_or, set}
use Rattle.std.proofs.Common.{◌∙◌, inl, inr, ⊎_elim, arith, length-set, get_or-set_same, get_or-set_other}
use Rattle.records.specs.FragmentLaws.{lt_or_le}
use Rattle.offsets.specs.Parts.{Ordered, Parts}

-- ---- parts
-- part j lies in the words
pub part_in : {bs : List ℕ} {end : ℕ} → Ordered bs end 512 → (j : ℕ) → j < 512 → (get_or bs j 0 ≤ get_or bs (j + 1) 0) × (get_or bs (j + 1) 0 ≤ end)
part_in o j h =
    let a = o.order (j + 1) 512 (omega arith) (omega arith) in
    let b = o.last in
    (o.order j (j + 1) (omega arith) (omega arith), omega arith)

pub parts_begin : (sizes bs : List ℕ) (begin end : ℕ) → begin ≤ end → 0 < length bs → Parts sizes (set bs 0 begin) begin end 0
parts_begin sizes bs begin end h l =
    let e : get_or (set bs 0 begin) 0 0 ≡ begin = get_or-set_same bs 0 begin 0 l in
    record {
      first = e;
      ordered = record {
        order = λ i j a b.
            let x : i ≡ 0 = omega arith in
            let y : j ≡ 0 = omega arith in
            rw (x, y) (omega arith);
        last = omega arith;
      };
      plain = λ j a b c. omega arith;
    }

module _ {sizes bs : List ℕ} {begin end j : ℕ} (t : Parts sizes bs begin end j) (at n : ℕ) (is : get_or bs j 0 ≡ at)
    (none : get_or sizes j 0 ≡ 0 → n ≡ 0) (few : at + n ≤ end) (room : j + 1 < length bs) where
  before : (i : ℕ) → i ≤ j → get_or (set bs (j + 1) (at + n)) i 0 ≡ get_or bs i 0
  before i h = get_or-set_other bs (j + 1) i (at + n) 0 (λ e. omega arith)

  here : get_or (set bs (j + 1) (at + n)) (j + 1) 0 ≡ at + n
  here = get_or-set_same bs (j + 1) (at + n) 0 room

  order_more : (i k : ℕ) → i ≤ k → k ≤ j + 1 → get_or (set bs (j + 1) (at + n)) i 0 ≤ get_or (set bs (j + 1) (at + n)) k 0
  order_more i k a b =
      ⊎_elim (λ l. rw (before i (omega arith), before k (omega arith)) (t.ordered.order i k a (omega arith)))
      (λ l. let y : k ≡ j + 1 = omega arith in rw y (last_of i (lt_or_le i (j + 1)) (omega arith)))
      (lt_or_le k (j + 1))
    where
      last_of : (i : ℕ) → (i < j + 1) ⊎ (j + 1 ≤ i) → i ≤ j + 1 → get_or (set bs (j + 1) (at + n)) i 0 ≤ get_or (set bs (j + 1) (at + n)) (j + 1) 0
      last_of i (inl l) c = let o = t.ordered.order i j (omega arith) (omega arith) in rw (before i (omega arith), here) (omega arith)
      last_of i (inr l) c = let y : i ≡ j + 1 = omega arith in rw y (omega arith)

  plain_more : (k : ℕ) → k < j + 1 → get_or (set bs (j + 1) (at + n)) k 0 < get_or (set bs (j + 1) (at + n)) (k + 1) 0 → get_or sizes k 0 ≡ 0 → ⊥
  plain_more k h l z = go (lt_or_le k j)
    where
      go : (k < j) ⊎ (j ≤ k) → ⊥
      go (inl m) = t.plain k m (rw (before k (omega arith), before (k + 1) (omega arith)) at l) z
      go (inr m) =
          let y : k ≡ j = omega arith in
          let o = none (rw y at z) in
          let u : at < at + n = rw (before j (omega arith), here, is) at (rw y at l) in
          omega arith

  pub parts_more : Parts sizes (set bs (j + 1) (at + n)) begin end (j + 1)
  parts_more =
      let f = t.first in
      let x = before 0 (omega arith) in
      record {
        first = x ∙ f;
        ordered = record { order = order_more; last = rw here few };
        plain = plain_more;
      }

-- parts of groups up to j are shared out, and end at a word
pub record Sharing (sizes bs : List ℕ) (begin end at j : ℕ) : Type 0 where
  pub words : length bs ≡ 513
  pub few : j ≤ 512
  pub low : at ≤ end
  pub last : get_or bs j 0 ≡ at
  pub parts : Parts sizes bs begin end j

pub sharing_begin : (sizes bs : List ℕ) (begin end : ℕ) → length bs ≡ 513 → begin ≤ end → Sharing sizes (set bs 0 begin) begin end begin 0
sharing_begin sizes bs begin end l h = record {
  words = length-set bs 0 begin ∙ l;
  few = omega arith;
  low = h;
  last = get_or-set_same bs 0 begin 0 (omega arith);
  parts = parts_begin sizes bs begin end h (omega arith);
}

module _ {sizes bs : List ℕ} {begin end at j : ℕ} (t : Sharing sizes bs begin end at j) where
  pub sharing-more : (n : ℕ) → (get_or sizes j 0 ≡ 0 → n ≡ 0) → n ≤ end - at → j < 512
      → Sharing sizes (set bs (j + 1) (at + n)) begin end (at + n) (j + 1)
  sharing-more n z h l =
      let w = t.words in
      let v = t.low in
      record {
        words = length-set bs (j + 1) (at + n) ∙ w;
        few = omega arith;
        low = omega arith;
        last = get_or-set_same bs (j + 1) (at + n) 0 (omega arith);
        parts = parts_more t.parts at n t.last z (omega arith) (omega arith);
      }

  pub sharing_done : 512 ≤ j → Parts sizes bs begin end 512
  sharing_done h = let f = t.few in let e : j ≡ 512 = omega arith in rw e at t.parts
