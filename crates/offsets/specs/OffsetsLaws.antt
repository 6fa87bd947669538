-- Laws of kept offsets: they stay right where entries are added past them, and what is sought among them is right.
use Rattle.std.specs.Prelude.{ℕ, ◌+◌, ◌≤◌, ◌<◌, zero, suc, List, [], ◌∷◌, ◌++◌, ◌≡◌, refl, min, length, get_or, drop, replicate}
use Rattle.std.proofs.Common.{sym, ◌∙◌, ⊎_elim, arith}
use Rattle.records.specs.FragmentLaws.{lt_or_le}
use Rattle.places.specs.Longer.{OffsetsIn}
use Rattle.offsets.specs.Offsets.{entries_in, used_in, entry_at, Entry, OffsetsOf, Kept, KeepsNone}

-- ---- words
-- where its words are the same
pub offsets_same : {s : List ℕ} {d k : ℕ} {gs ws p q : List ℕ} {a n : ℕ} → ((r : ℕ) → r < n → get_or q (a + r) 0 ≡ get_or p (a + r) 0)
    → OffsetsIn s d k gs ws p a n → OffsetsIn s d k gs ws q a n
offsets_same e w = record { right = λ r h. rw (e r h) (w.right r h) }

-- an entry whose words are the same
pub entry-same : {p q : List ℕ} {i d g a n : ℕ} → ((k : ℕ) → entry_at i ≤ k → k < entry_at i + 4 → get_or q k 0 ≡ get_or p k 0) → Entry p i d g a n
    → Entry q i d g a n
entry-same {i = i} e w = record {
  parent = e (entry_at i) (omega arith) (omega arith) ∙ w.parent;
  group = e (entry_at i + 1) (omega arith) (omega arith) ∙ w.group;
  first = e (entry_at i + 2) (omega arith) (omega arith) ∙ w.first;
  count = e (entry_at i + 3) (omega arith) (omega arith) ∙ w.count;
}

-- ---- more are kept
-- entries and offsets that were kept stay
pub record Grows (p q : List ℕ) : Type 0 where
  pub used : used_in p ≤ used_in q
  pub entry : (i : ℕ) → 8 ≤ i → i < entry_at (entries_in p) → get_or q i 0 ≡ get_or p i 0
  pub offset : (i : ℕ) → 2056 ≤ i → i < used_in p → get_or q i 0 ≡ get_or p i 0

-- entries past those of p are right
pub record Adds (s : List ℕ) (gs_of ws_of : ℕ → List ℕ) (p q : List ℕ) : Type 0 where
  pub right : (i d g a n : ℕ) → entries_in p ≤ i → i < entries_in q → Entry q i d g a n → OffsetsOf s gs_of ws_of d g q a n
  pub inside : (i d g a n : ℕ) → entries_in p ≤ i → i < entries_in q → Entry q i d g a n → (2056 ≤ a) × (a + n ≤ used_in q)

module _ {s : List ℕ} {gs_of ws_of : ℕ → List ℕ} {p q : List ℕ} (w : Kept s gs_of ws_of p) (t : Grows p q) (e : Adds s gs_of ws_of p q) where
  was : (i d g a n : ℕ) → i < entries_in p → Entry q i d g a n → Entry p i d g a n
  was i d g a n h r = entry-same (λ k l m. sym (t.entry k (omega arith) (omega arith))) r

  old_right : (i d g a n : ℕ) → i < entries_in p → Entry q i d g a n → OffsetsOf s gs_of ws_of d g q a n
  old_right i d g a n h r =
      let b = w.inside i d g a n h (was i d g a n h r) in
      offsets_same (λ k z. t.offset (a + k) (omega arith) (omega arith)) (w.right i d g a n h (was i d g a n h r))

  old_inside : (i d g a n : ℕ) → i < entries_in p → Entry q i d g a n → (2056 ≤ a) × (a + n ≤ used_in q)
  old_inside i d g a n h r =
      let b = w.inside i d g a n h (was i d g a n h r) in
      let u = t.used in
      (b.0, omega arith)

  pub kept_more : Kept s gs_of ws_of q
  kept_more = record {
    right = λ i d g a n h r. ⊎_elim (λ l. old_right i d g a n l r) (λ l. e.right i d g a n l h r) (lt_or_le i (entries_in p));
    inside = λ i d g a n h r. ⊎_elim (λ l. old_inside i d g a n l r) (λ l. e.inside i d g a n l h r) (lt_or_le i (entries_in p));
  }

pub kept-none : (q : List ℕ) → entries_in q ≡ 0 → KeepsNone q
kept-none q e s gs_of ws_of = record { right = λ i d g a n h r. absurd (omega arith); inside = λ i d g a n h r. absurd (omega arith) }

pub forgets : (p : List ℕ) (n : ℕ) → n ≡ min (length p) 2 → KeepsNone (replicate n 0 ++ drop n p)
forgets [] zero e = kept-none [] refl
forgets [] (suc n) e = absurd (omega arith)
forgets (x ∷ p) zero e = absurd (omega arith)
forgets (x ∷ p) (suc n) e = kept-none _ refl
