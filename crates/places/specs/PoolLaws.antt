-- Kept stretches stay right: one is put, one more is kept, fewer are kept, other words change; and what is sought among them is right.
use Rattle.std.specs.Prelude.{ℕ, suc, ◌+◌, ◌-◌, ◌*◌, ◌/◌, ◌≤◌, ◌<◌, List, [], ◌∷◌, ◌≡◌, refl, ◌⊎◌, length, get_or, set}
use Rattle.std.proofs.Common.{sym, ◌∙◌, inl, inr, ⊎_elim, add-zero, mul_comm, mul-le-mul_right, div-mul-le_self, arith, get_or-set_same, get_or-set_other}
use Rattle.std.proofs.Math.Nat.{zero-div}
use Rattle.std.proofs.Math.Seq.{set_out}
use Rattle.base.specs.Blit.{blit}
use Rattle.records.specs.FragmentLaws.{lt_or_le, eq_or_ne}
use Rattle.records.specs.SeveralLaws.{get_d_blit}
use Rattle.places.specs.declared.stretch.Stretch.{Stretch}
use Rattle.places.specs.Pool.{kept_in, kept_by, KeptBy, entry_at, stretch_in, RightOf, Pooled, HeldIn}

-- ---- how many
-- the words of as many as have room stand there
pub kept_few : (words : ℕ) (p : List ℕ) {n : ℕ} → n ≡ kept_by words p → KeptBy words p n
kept_few words p {n} e =
    let a : n ≤ (length p - 8) / words = omega arith in
    let b : n * words ≤ (length p - 8) / words * words = mul-le-mul_right words a in
    record {
      kept = omega arith;
      room = λ z.
          ⊎_elim (λ l. absurd (none l z)) (λ l. omega (arith, div-mul-le_self (length p - 8) words, mul_comm words n))
          (lt_or_le (length p) 8);
    }
  where
    none : length p < 8 → 0 < n → ⊥
    none l z =
        let f : length p - 8 ≡ 0 = omega arith in
        let g : (length p - 8) / words ≡ 0 = rw f (zero-div words) in
        omega arith

-- ---- words
-- the six words of an entry
abbrev pub entry_words : ℕ → ℕ → Stretch → List ℕ
entry_words d g t = d ∷ g ∷ t.number ∷ t.first ∷ t.stride ∷ t.count ∷ []

-- what is not laid over stays
pub outside : (bs : List ℕ) (i j : ℕ) (p : List ℕ) → (j < i) ⊎ (i + length bs ≤ j) → get_or (blit i bs p) j 0 ≡ get_or p j 0
unfolding blit
outside [] i j p h = refl
outside (b ∷ bs) i j p (inl h) = outside bs (suc i) j (set p i b) (inl (omega arith)) ∙ get_or-set_other p i j b 0 (λ e. omega arith)
outside (b ∷ bs) i j p (inr h) = outside bs (suc i) j (set p i b) (inr (omega arith)) ∙ get_or-set_other p i j b 0 (λ e. omega arith)

-- entry i of p is right
abbrev Stands : List ℕ → (ℕ → List ℕ) → (ℕ → List ℕ) → List ℕ → ℕ → Type 0
Stands s gs_of ws_of p i = RightOf s gs_of ws_of (get_or p (entry_at i) 0) (get_or p (entry_at i + 1) 0) (stretch_in p i)

-- entry i is the same in both
abbrev Same : List ℕ → List ℕ → ℕ → Type 0
Same p q i = (a : ℕ) → a < 6 → get_or q (entry_at i + a) 0 ≡ get_or p (entry_at i + a) 0

-- entry j lies apart from the words of entry i
apart : (i j a : ℕ) → (j ≡ i → ⊥) → a < 6 → (entry_at j + a < entry_at i) ⊎ (entry_at i + 6 ≤ entry_at j + a)
apart i j a n h = ⊎_elim (λ l. inl (omega arith)) (λ l. inr (⊎_elim (λ m. omega arith) (λ m. absurd (n (omega arith))) (lt_or_le i j))) (lt_or_le j i)

stands_same : (s : List ℕ) (gs_of ws_of : ℕ → List ℕ) (p q : List ℕ) (i : ℕ) → Same p q i → Stands s gs_of ws_of p i → Stands s gs_of ws_of q i
stands_same s gs_of ws_of p q i e h =
    let z : get_or q (entry_at i) 0 ≡ get_or p (entry_at i) 0 = rw add-zero at (e 0 (omega arith)) in
    rw (z, e 1 (omega arith), e 2 (omega arith), e 3 (omega arith), e 4 (omega arith), e 5 (omega arith)) h

-- what is put stands
stands_put : (s : List ℕ) (gs_of ws_of : ℕ → List ℕ) (p : List ℕ) (i d g : ℕ) (t : Stretch) → entry_at i + 6 ≤ length p → RightOf s gs_of ws_of d g t
    → Stands s gs_of ws_of (blit (entry_at i) (entry_words d g t) p) i
stands_put s gs_of ws_of p i d g t h r =
    let ws : List ℕ = entry_words d g t in
    let q : List ℕ = blit (entry_at i) ws p in
    let e0 : get_or q (entry_at i) 0 ≡ d = rw add-zero at (get_d_blit ws (entry_at i) 0 p (omega arith) (omega arith)) in
    let e1 : get_or q (entry_at i + 1) 0 ≡ g = get_d_blit ws (entry_at i) 1 p (omega arith) (omega arith) in
    let e2 : get_or q (entry_at i + 2) 0 ≡ t.number = get_d_blit ws (entry_at i) 2 p (omega arith) (omega arith) in
    let e3 : get_or q (entry_at i + 3) 0 ≡ t.first = get_d_blit ws (entry_at i) 3 p (omega arith) (omega arith) in
    let e4 : get_or q (entry_at i + 4) 0 ≡ t.stride = get_d_blit ws (entry_at i) 4 p (omega arith) (omega arith) in
    let e5 : get_or q (entry_at i + 5) 0 ≡ t.count = get_d_blit ws (entry_at i) 5 p (omega arith) (omega arith) in
    rw (e0, e1, e2, e3, e4, e5) r

module _ {s : List ℕ} {gs_of ws_of : ℕ → List ℕ} where
  -- fewer, or as many
  pub pooled_back : {p : List ℕ} (n : ℕ) → Pooled s gs_of ws_of p → n ≤ kept_in p → Pooled s gs_of ws_of (set p 0 n)
  pooled_back {p} n w h = record {
    right = λ i l. stands_same s gs_of ws_of p (set p 0 n) i (λ a b. get_or-set_other p 0 (entry_at i + a) n 0 (λ e. omega arith)) (w.right i (low i l));
  }
    where
      low : (i : ℕ) → i < kept_in (set p 0 n) → i < kept_in p
      low i l = ⊎_elim (λ z. omega (arith, get_or-set_same p 0 n 0 z)) (λ z. rw (set_out p 0 n z) at l) (lt_or_le 0 (length p))

  -- a word past all entries
  pub pooled_past : {p : List ℕ} (j x : ℕ) → Pooled s gs_of ws_of p → entry_at (kept_in p) ≤ j → Pooled s gs_of ws_of (set p j x)
  pooled_past {p} j x w h =
      let k : kept_in (set p j x) ≡ kept_in p = get_or-set_other p j 0 x 0 (λ e. omega arith) in
      record {
        right = λ i l. stands_same s gs_of ws_of p (set p j x) i (λ a b. get_or-set_other p j (entry_at i + a) x 0 (λ e. omega arith)) (w.right i (omega arith));
      }

  -- a right one is put at entry i, whether i is kept or not
  pub pooled_put : {p : List ℕ} (i d g : ℕ) (t : Stretch) → Pooled s gs_of ws_of p → entry_at i + 6 ≤ length p → RightOf s gs_of ws_of d g t
      → Pooled s gs_of ws_of (blit (entry_at i) (entry_words d g t) p)
  pooled_put {p} i d g t w h r =
      let q : List ℕ = blit (entry_at i) (entry_words d g t) p in
      let k : kept_in q ≡ kept_in p = outside (entry_words d g t) (entry_at i) 0 p (inl (omega arith)) in
      record {
        right = λ j l. at_place j (eq_or_ne j i) (omega arith);
      }
    where
      at_place : (j : ℕ) → (j ≡ i) ⊎ (j ≡ i → ⊥) → j < kept_in p → Stands s gs_of ws_of (blit (entry_at i) (entry_words d g t) p) j
      at_place j (inl e) l = rw e (stands_put s gs_of ws_of p i d g t h r)
      at_place j (inr n) l =
          stands_same s gs_of ws_of p (blit (entry_at i) (entry_words d g t) p) j (λ a b. outside (entry_words d g t) (entry_at i) (entry_at j + a) p (apart i j a n b)) (w.right j l)

  -- one more is kept, which stands already
  pub pooled_keep : {p : List ℕ} (i : ℕ) → Pooled s gs_of ws_of p → i ≡ kept_in p
      → RightOf s gs_of ws_of (get_or p (entry_at i) 0) (get_or p (entry_at i + 1) 0) (stretch_in p i) → Pooled s gs_of ws_of (set p 0 (i + 1))
  pooled_keep {p} i w e r = record {
    right = λ j l. stands_same s gs_of ws_of p (set p 0 (i + 1)) j (λ a b. get_or-set_other p 0 (entry_at j + a) (i + 1) 0 (λ e. omega arith))
        (at_place j (eq_or_ne j i) (low j l));
  }
    where
      low : (j : ℕ) → j < kept_in (set p 0 (i + 1)) → j < i + 1
      low j l = ⊎_elim (λ z. omega (arith, get_or-set_same p 0 (i + 1) 0 z)) (λ z. let m : j < kept_in p = rw (set_out p 0 (i + 1) z) at l in omega arith)
          (lt_or_le 0 (length p))

      at_place : (j : ℕ) → (j ≡ i) ⊎ (j ≡ i → ⊥) → j < i + 1 → Stands s gs_of ws_of p j
      at_place j (inl q) l = rw q r
      at_place j (inr n) l = w.right j (⊎_elim (λ z. omega arith) (λ z. absurd (n (omega arith))) (lt_or_le j i))

  -- one more is put and kept
  pub pooled_more : {p : List ℕ} (i d g : ℕ) (t : Stretch) → Pooled s gs_of ws_of p → i ≡ kept_in p → entry_at i + 6 ≤ length p
      → RightOf s gs_of ws_of d g t → Pooled s gs_of ws_of (set (blit (entry_at i) (entry_words d g t) p) 0 (i + 1))
  pooled_more {p} i d g t w e h r =
      let k : kept_in (blit (entry_at i) (entry_words d g t) p) ≡ kept_in p = outside (entry_words d g t) (entry_at i) 0 p (inl (omega arith)) in
      pooled_keep i (pooled_put i d g t w h r) (e ∙ sym k) (stands_put s gs_of ws_of p i d g t h r)

-- ---- one is sought
abbrev pub nothing : Stretch
nothing = record { number = 0; first = 0; stride = 0; count = 0 }

pub held_none : (p : List ℕ) (i d g r : ℕ) → HeldIn p d g r (record { index = i; stretch = nothing })
held_none p i d g r s gs_of ws_of w = record { right = λ z. absurd (omega arith); has = λ z. absurd (omega arith) }
