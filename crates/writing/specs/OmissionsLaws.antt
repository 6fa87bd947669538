-- Laws of the list of omissions.
use Rattle.std.specs.Prelude.{◌≡◌, ℕ, zero, suc, ◌+◌, ◌*◌, ◌<◌, ◌≤◌, List, [], ◌∷◌, ◌++◌, length, slice_index, slice_index_or, slice_set, refl}
use Rattle.std.proofs.Common.{sym, ap, ◌∙◌, add-zero, arith, length-set}
use Rattle.base.specs.Blit.{blit}
use Rattle.base.specs.BlitLaws.{length-blit, blit-append, blit-one}
use Rattle.plan.specs.Columns.{Omission, Plan, omission_addresses, omission_reasons, omission_words}
use Rattle.work_words.specs.PlanWords.{columns_words, omission_pairs, laid_plan}
use Rattle.planning.specs.TimeWordLaws.{blit_among}
use Rattle.writing.specs.Omissions.{every_other, listed}

pub length_every : (w : List ℕ) (i n : ℕ) → length (every_other w i n) ≡ n
unfolding every_other
length_every w i zero = refl
length_every w i (suc n) = ap suc (length_every w (i + 2) n)

-- one word more
every_more : (w : List ℕ) (i k : ℕ) → every_other w i (k + 1) ≡ every_other w i k ++ (slice_index w (i + 2 * k) ∷ [])
unfolding every_other
every_more w i zero = let e : i + 2 * 0 ≡ i = omega arith in rw e
every_more w i (suc k) =
    let e : i + 2 + 2 * k ≡ i + 2 * suc k = omega arith in
    let f : suc k + 1 ≡ suc (k + 1) = omega arith in
    rw f (ap (λ (l : List ℕ). slice_index w i ∷ l) (every_more w (i + 2) k ∙ rw e))

-- k of the words were put
pub record Putting (l₀ w : List ℕ) (at i n k : ℕ) (l : List ℕ) : Type 0 where
  pub most : k ≤ n
  pub same : length l ≡ length l₀
  pub is : l ≡ blit at (every_other w i k) l₀

pub putting_none : {l₀ w : List ℕ} {at i n : ℕ} → Putting l₀ w at i n 0 l₀
unfolding every_other blit
putting_none = record { most = omega arith; same = refl; is = refl }

module _ {l₀ w : List ℕ} {at i n k : ℕ} {l : List ℕ} (p : Putting l₀ w at i n k l) where
  pub putting_more : k < n → Putting l₀ w at i n (k + 1) (slice_set l (at + k) (slice_index w (i + 2 * k)))
  putting_more h =
      record {
        most = omega arith;
        same = length-set l (at + k) (slice_index w (i + 2 * k)) ∙ p.same;
        is = sym (rw (every_more w i k) (blit-append (every_other w i k) at (slice_index w (i + 2 * k) ∷ []) l₀
            ∙ rw (length_every w i k, ← p.is) (blit-one (at + k) (slice_index w (i + 2 * k)) l)));
      }

  pub putting_all : n ≤ k → l ≡ blit at (every_other w i n) l₀
  putting_all h = let m = p.most in let e : k ≡ n = omega arith in rw (← e) p.is

-- the number, the addresses, the reasons
pub list_put : (w : List ℕ) (n : ℕ) (l a b c : List ℕ) → a ≡ slice_set l 0 n → b ≡ blit 1 (every_other w 4096 n) a → c ≡ blit (1 + n) (every_other w 4097 n) b
    → c ≡ blit 0 (listed w n) l
unfolding listed blit
list_put w n l a b c e f g =
    g ∙ ap (blit (1 + n) (every_other w 4097 n)) (f ∙ ap (blit 1 (every_other w 4096 n)) e)
    ∙ sym (blit-append (every_other w 4096 n) 1 (every_other w 4097 n) (slice_set l 0 n) ∙ rw (length_every w 4096 n))

-- the list keeps its length
pub list_length : (at n x : ℕ) (bs l b : List ℕ) → b ≡ blit at bs (slice_set l n x) → length b ≡ length l
list_length at n x bs l b e = rw e (length-blit at bs (slice_set l n x) ∙ length-set l n x)

pub list-room : (n at x : ℕ) (bs l b : List ℕ) → b ≡ blit at bs (slice_set l 0 x) → 2 * n + 1 ≤ length l → 1 + n + n ≤ length b
list-room n at x bs l b e h = let s = list_length at 0 x bs l b e in omega (arith, s, h)

pub list_same : (at n i x : ℕ) (xs ys l b c : List ℕ) → b ≡ blit at xs (slice_set l n x) → c ≡ blit i ys b → length c ≡ length l
list_same at n i x xs ys l b c e f = rw f (length-blit i ys b ∙ list_length at n x xs l b e)

-- ---- omissions that stand in words
addresses_there : (w : List ℕ) (i : ℕ) (os : List Omission) → ((j : ℕ) → j < 2 * length os → slice_index w (i + j) ≡ slice_index (omission_pairs os) j)
    → every_other w i (length os) ≡ omission_addresses os
unfolding every_other omission_pairs omission_addresses
addresses_there w i [] h = refl
addresses_there w i (o ∷ os) h =
    let a : slice_index_or w i 0 ≡ o.at = rw (add-zero i) at (h 0 (omega arith)) in
    let r = addresses_there w (i + 2) os (λ j k. let e : i + 2 + j ≡ i + suc (suc j) = omega arith in rw e (h (suc (suc j)) (omega arith))) in
    rw (a, r)

reasons_there : (w : List ℕ) (i : ℕ) (os : List Omission) → ((j : ℕ) → j < 2 * length os → slice_index w (i + j) ≡ slice_index (omission_pairs os) j)
    → every_other w (i + 1) (length os) ≡ omission_reasons os
unfolding every_other omission_pairs omission_reasons
reasons_there w i [] h = refl
reasons_there w i (o ∷ os) h =
    let a : slice_index_or w (i + 1) 0 ≡ o.reason = h 1 (omega arith) in
    let q : i + 1 + 2 ≡ i + 2 + 1 = omega arith in
    let r = reasons_there w (i + 2) os (λ j k. let e : i + 2 + j ≡ i + suc (suc j) = omega arith in rw e (h (suc (suc j)) (omega arith))) in
    rw (a, q, r)

length_pairs : (os : List Omission) → length (omission_pairs os) ≡ 2 * length os
unfolding omission_pairs
length_pairs [] = refl
length_pairs (o ∷ os) = let e = length_pairs os in omega arith

-- the list of a plan that was laid over words
pub laid-listed : (nf : ℕ) (p : Plan) (w : List ℕ) → length p.omissions ≤ 1024 → 6144 ≤ length w
    → listed (laid_plan nf p w) (length p.omissions) ≡ omission_words p.omissions
unfolding listed laid_plan omission_words
laid-listed nf p w few long =
    let n = length_pairs p.omissions in
    let v = length-blit 0 (columns_words nf p.columns) w in
    let there : (j : ℕ) → j < 2 * length p.omissions
    → slice_index (blit 4096 (omission_pairs p.omissions) (blit 0 (columns_words nf p.columns) w)) (4096 + j) ≡ slice_index (omission_pairs p.omissions) j
    = λ j h. blit_among (omission_pairs p.omissions) 4096 j (blit 0 (columns_words nf p.columns) w) (omega arith) (omega arith) in
    rw (addresses_there _ 4096 p.omissions there, reasons_there _ 4096 p.omissions there)
