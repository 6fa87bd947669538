-- Laws of the index: a chain has every address of its remainder, and one address more is the newest of its chain.
use Rattle.std.specs.Prelude.{ℕ, zero, suc, ◌+◌, ◌*◌, ◌-◌, ◌%◌, ◌≤◌, ◌<◌, List, Bool, true, false, ◌≡◌, refl, eqb, length, get_or, set, replicate}
use Rattle.std.proofs.Common.{sym, ◌∙◌, add-one, sub-one, arith, eqb-true, length-set, get_or-set_same, get_or-set_other}
use Rattle.std.proofs.lemmas.Bool.{eqb-false}
use Rattle.std.proofs.lemmas.List.{length-replicate, get_or-replicate}
use Rattle.base.specs.Choice.{pick, if_eq}
use Rattle.base.specs.ChoiceLaws.{lt_yes, le_yes, eq_yes, eq_no}
use Rattle.index.specs.Index.{newest, Indexed, entered}

-- ---- the newest of a chain
newest_yes : (s : ℕ) (w : List ℕ) (b k : ℕ) → get_or w (s * k) 0 % 2039 ≡ b → newest s w b (k + 1) ≡ k + 1
unfolding newest
newest_yes s w b k e = rw add-one (sym (eq_yes _ _ _ _ e refl))

newest_no : (s : ℕ) (w : List ℕ) (b k : ℕ) → (get_or w (s * k) 0 % 2039 ≡ b → ⊥) → newest s w b (k + 1) ≡ newest s w b k
unfolding newest
newest_no s w b k e = rw add-one (sym (eq_no _ _ _ _ e refl))

pub newest_least : (s : ℕ) (w : List ℕ) (b k : ℕ) → newest s w b k ≤ k
unfolding newest if_eq
newest_least s w b zero = omega arith
newest_least s w b (suc k) = go (eqb (get_or w (s * k) 0 % 2039) b) (newest_least s w b k)
  where
    go : (t : Bool) → newest s w b k ≤ k → pick t (suc k) (newest s w b k) ≤ suc k
    go true h = omega arith
    go false h = omega arith

pub newest-own : (s : ℕ) (w : List ℕ) (b k : ℕ) → 0 < newest s w b k → get_or w (s * (newest s w b k - 1)) 0 % 2039 ≡ b
unfolding newest if_eq
newest-own s w b zero h = absurd (omega arith)
newest-own s w b (suc k) h = go (eqb (get_or w (s * k) 0 % 2039) b) refl h (newest-own s w b k)
  where
    go : (t : Bool) → eqb (get_or w (s * k) 0 % 2039) b ≡ t → 0 < pick t (suc k) (newest s w b k)
        → (0 < newest s w b k → get_or w (s * (newest s w b k - 1)) 0 % 2039 ≡ b) → get_or w (s * (pick t (suc k) (newest s w b k) - 1)) 0 % 2039 ≡ b
    go true e h rest = rw sub-one (eqb-true _ _ e)
    go false e h rest = rest h

-- the addresses alone say it
newest-same : (s : ℕ) (w v : List ℕ) (b k : ℕ) → ((i : ℕ) → i < k → get_or w (s * i) 0 ≡ get_or v (s * i) 0) → newest s w b k ≡ newest s v b k
unfolding newest
newest-same s w v b zero h = refl
newest-same s w v b (suc k) h = rw (h k (omega arith), newest-same s w v b k (λ i l. h i (omega arith)))

pub indexed_same : (s : ℕ) (w v x : List ℕ) (n : ℕ) → ((i : ℕ) → i < n → get_or w (s * i) 0 ≡ get_or v (s * i) 0) → Indexed s w n x → Indexed s v n x
indexed_same s w v x n h t =
    record {
      long = t.long;
      chains = λ i l. rw (← h i l) (t.chains i l ∙ newest-same s w v (get_or w (s * i) 0 % 2039) i (λ j m. h j (omega arith)));
      heads = λ b l. t.heads b l ∙ newest-same s w v b n h;
    }

-- ---- one address more
pub index_begin : (s : ℕ) (w : List ℕ) → Indexed s w 0 (replicate 4096 0)
unfolding newest
index_begin s w =
    let zero : ℕ = 0 in
    record {
      long = length-replicate 4096 zero;
      chains = λ i k. absurd (omega arith);
      heads = λ b k. get_or-replicate 4096 (2048 + b) 0 0 (omega arith);
    }

pub index_more : (s : ℕ) (w v x : List ℕ) (n a : ℕ) {h : ℕ} → n < 2048 → Indexed s w n x → ((i : ℕ) → i < n → get_or w (s * i) 0 ≡ get_or v (s * i) 0)
    → get_or v (s * n) 0 ≡ a → h ≡ get_or x (2048 + a % 2039) 0
    → Indexed s v (n + 1) (set (set x n h) (2048 + a % 2039) (n + 1))
index_more s w v x n a {h} few t same from e =
    let u = indexed_same s w v x n same t in
    let y : List ℕ = set x n h in
    let l : length y ≡ 4096 = length-set x n h ∙ t.long in
    let small : a % 2039 < 2039 = omega arith in
    record {
      long = length-set y _ _ ∙ l;
      chains = λ i k. before u y l small i k;
      heads = λ b k. head u y l small b k;
    }
  where
    out : (y : List ℕ) (k i v : ℕ) → (i ≡ k → ⊥) → get_or (set y k v) i 0 ≡ get_or y i 0
    out y k i v h = get_or-set_other y k i v 0 h

    before : Indexed s v n x → (y : List ℕ) → length y ≡ 4096 → a % 2039 < 2039 → (i : ℕ) → i < n + 1
        → get_or (set (set x n h) (2048 + a % 2039) (n + 1)) i 0 ≡ newest s v (get_or v (s * i) 0 % 2039) i
    before u y l small i k = out (set x n h) (2048 + a % 2039) i (n + 1) (λ q. omega (arith, q)) ∙ go (eqb i n) refl
      where
        go : (t : Bool) → eqb i n ≡ t → get_or (set x n h) i 0 ≡ newest s v (get_or v (s * i) 0 % 2039) i
        go true q =
            let z = eqb-true i n q in
            rw (z, from) (get_or-set_same x n h 0 (omega arith) ∙ e ∙ u.heads (a % 2039) small)
        go false q =
            let z = eqb-false i n q in
            out x n i h z ∙ u.chains i (omega arith)

    head : Indexed s v n x → (y : List ℕ) → length y ≡ 4096 → a % 2039 < 2039 → (b : ℕ) → b < 2039
        → get_or (set (set x n h) (2048 + a % 2039) (n + 1)) (2048 + b) 0 ≡ newest s v b (n + 1)
    head u y l small b k = go (eqb b (a % 2039)) refl
      where
        go : (t : Bool) → eqb b (a % 2039) ≡ t → get_or (set (set x n h) (2048 + a % 2039) (n + 1)) (2048 + b) 0 ≡ newest s v b (n + 1)
        go true q =
            let z = eqb-true b (a % 2039) q in
            rw z (get_or-set_same (set x n h) (2048 + a % 2039) (n + 1) 0 (rw length-set (omega arith)) ∙ sym (newest_yes s v (a % 2039) n (rw from)))
        go false q =
            let z = eqb-false b (a % 2039) q in
            out (set x n h) (2048 + a % 2039) (2048 + b) (n + 1) (λ r. z (omega (arith, r)))
            ∙ out x n (2048 + b) h (λ r. omega (arith, r)) ∙ u.heads b k ∙ sym (newest_no s v b n (λ r. z (sym (rw from at r))))

-- where there is room, it is entered
pub entered_is : (h n a : ℕ) (x : List ℕ) → h + 2039 ≤ 4096 → n < h
    → entered h n a x ≡ set (set x n (get_or x (h + a % 2039) 0)) (h + a % 2039) (n + 1)
unfolding entered
entered_is h n a x room few = sym (le_yes _ _ _ _ room (lt_yes _ _ _ _ few refl))

-- ---- the next of a chain
pub older_is : (s : ℕ) (w x : List ℕ) (n a i : ℕ) {j : ℕ} → Indexed s w n x → 0 < i → i ≤ n → get_or w (s * (i - 1)) 0 % 2039 ≡ a % 2039
    → j ≡ get_or x (i - 1) 0 → j ≡ newest s w (a % 2039) (i - 1)
older_is s w x n a i t h l own e = e ∙ t.chains (i - 1) (omega arith) ∙ rw own
