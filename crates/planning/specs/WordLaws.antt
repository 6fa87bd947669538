-- Laws of the words of columns and omissions.
use Rattle.std.specs.Prelude.{ℕ, zero, suc, ◌+◌, ◌*◌, ◌-◌, ◌≤◌, ◌<◌, List, [], ◌∷◌, ◌≡◌, refl, Bool, true, false, length, take, get_or, set, eqb}
use Rattle.std.proofs.Common.{sym, ap, ◌∙◌, add-one, sub-one}
use Rattle.std.proofs.Math.Seq.{take-suc, take_all}
use Rattle.std.proofs.lemmas.List.{length-take-le}
use native.Mathlib.Omega.{arith}
use borrow.Author.Tests.{eq-eqb, ne_eqb}
use Rattle.base.specs.Choice.{pick}
use Rattle.base.specs.Blit.{blit}
use Rattle.base.specs.BlitLaws.{blit-one, blit-append}
use Rattle.planning.specs.TimeIn.{is_time_in, time_in}

-- ---- a list of words, stored one by one
pub put_none : (i : ℕ) (ws w : List ℕ) → w ≡ blit i (take 0 ws) w
unfolding blit
put_none i ws w = refl

pub put_next : (i k : ℕ) (ws w : List ℕ) {w1 w2 : List ℕ} → w1 ≡ blit i (take k ws) w → k < length ws → w2 ≡ set w1 (i + k) (get_or ws k 0) → w2 ≡ blit i (take (k + 1) ws) w
put_next i k ws w e h f =
    let n : length (take k ws) ≡ k = length-take-le k ws (omega arith) in
    f ∙ ap (λ (l : List ℕ). set l (i + k) (get_or ws k 0)) e ∙ sym (blit-one (i + k) (get_or ws k 0) (blit i (take k ws) w))
    ∙ ap (λ (j : ℕ). blit (i + j) (get_or ws k 0 ∷ []) (blit i (take k ws) w)) (sym n)
    ∙ sym (blit-append (take k ws) i (get_or ws k 0 ∷ []) w)
    ∙ ap (λ (l : List ℕ). blit i l w) (sym (rw add-one (take-suc ws k 0 h)))

pub put_all : (i k : ℕ) (ws w : List ℕ) {w1 : List ℕ} → w1 ≡ blit i (take k ws) w → length ws ≤ k → w1 ≡ blit i ws w
put_all i k ws w e h = e ∙ ap (λ (l : List ℕ). blit i l w) (take_all k ws h)

-- ---- the time column
module _ (w : List ℕ) (k g : ℕ) {x : ℕ} (e : x ≡ get_or w (8 * k + 4) 0) where
  pub time_not : (x ≡ 1 → ⊥) → false ≡ is_time_in w k g
  unfolding is_time_in
  time_not h = rw (← e, ne_eqb x 1 h)

  pub time_by : x ≡ 1 → {y : ℕ} → y ≡ get_or w (8 * k + 1) 0 → eqb y g ≡ is_time_in w k g
  unfolding is_time_in
  time_by h q = rw (← e, eq-eqb x 1 h, q)

time_open : (w : List ℕ) (g k n : ℕ) {b : Bool} → b ≡ is_time_in w k g → 0 < n → time_in w g k n ≡ pick b (k + 1) (time_in w g (k + 1) (n - 1))
unfolding time_in
time_open w g k zero e h = absurd (omega arith)
time_open w g k (suc n) e h = rw (e, sub-one (suc n))

-- where the search stands: what is left gives what the whole gives
pub record Searching (w : List ℕ) (g n k : ℕ) : Type 0 where
  pub room : k ≤ n
  pub rest : time_in w g k (n - k) ≡ time_in w g 0 n

pub search_begin : {w : List ℕ} {g n : ℕ} → Searching w g n 0
search_begin {n = n} = let e : n - 0 ≡ n = omega arith in record { room = omega arith; rest = rw e }

module _ {w : List ℕ} {g n k : ℕ} (t : Searching w g n k) where
  pub search_end : n ≤ k → 0 ≡ time_in w g 0 n
  unfolding time_in
  search_end h = let e : n - k ≡ 0 = omega arith in rw e at t.rest

  module _ (h : k < n) {b : Bool} (e : b ≡ is_time_in w k g) where
    pub search_hit : b ≡ true → k + 1 ≡ time_in w g 0 n
    search_hit q = rw (time_open w g k (n - k) e (omega arith), q) at t.rest

    pub search_on : b ≡ false → Searching w g n (k + 1)
    search_on q =
        let i : n - k - 1 ≡ n - (k + 1) = omega arith in
        record { room = omega arith; rest = rw (← i) (rw (time_open w g k (n - k) e (omega arith), q) at t.rest) }
