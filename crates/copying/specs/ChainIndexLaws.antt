-- The search by the index: the words from the next of the chain up to the last that was met aren't a.
use Rattle.std.specs.Prelude.{ℕ, zero, suc, ◌+◌, ◌*◌, ◌-◌, ◌%◌, ◌≤◌, ◌<◌, min, List, Bool, true, false, ◌≡◌, eqb, ltb, length, drop, set}
use Rattle.std.proofs.Math.Option.{none}
use Rattle.std.proofs.Math.Path.{refl}
use Rattle.std.proofs.Common.{sym, ◌∙◌, arith, eqb-true, ltb-true, ltb-false, get_or-drop}
use Rattle.std.proofs.Math.Nat.{min-eq_left}
use Rattle.std.proofs.lemmas.Bool.{eqb-false}
use Rattle.std.proofs.Math.ListN.{get_or}
use Rattle.base.specs.Choice.{pick, if_eq}
use Rattle.base.specs.Blit.{part}
use Rattle.plan.specs.Copies.{Copy, copy_of}
use Rattle.work_words.specs.CopyWords.{history_at}
use Rattle.copier.specs.Answer.{link_of}
use Rattle.index.specs.Index.{newest, Indexed}
use Rattle.index.specs.IndexLaws.{newest_least, newest-own, index_more, older_is}
use Rattle.result.specs.Fill.{history_link, first_new}
use Rattle.copying.specs.ChainIndex.{First}
use Rattle.copying.specs.CopyingLaws.{Chain, chain_begin, history_last, history-next, history_miss, history_end}

one : (k : ℕ) → 1 * k ≡ k
one k = omega arith

-- ---- one word more
pub chain_more : (w x : List ℕ) (n : ℕ) {y : List ℕ} → n < 2048 → Indexed 1 (drop history_at w) n x
    → y ≡ set (set x n (get_or x (2048 + get_or w (history_at + n) 0 % 2039) 0)) (2048 + get_or w (history_at + n) 0 % 2039) (n + 1)
    → Indexed 1 (drop history_at w) (n + 1) y
chain_more w x n few t e =
    rw e (index_more 1 (drop history_at w) (drop history_at w) x n (get_or w (history_at + n) 0) few t (λ i l. refl) (rw (one n) (get_or-drop history_at w n 0)) refl)

-- ---- the words past the newest of a remainder have another
past : (w : List ℕ) (b k j : ℕ) → newest 1 w b k ≤ j → j < k → get_or w j 0 % 2039 ≡ b → ⊥
unfolding newest if_eq
past w b zero j h l e = absurd (omega arith)
past w b (suc k) j h l e = go (eqb (get_or w (1 * k) 0 % 2039) b) refl h (past w b k j)
  where
    go : (t : Bool) → eqb (get_or w (1 * k) 0 % 2039) b ≡ t → pick t (suc k) (newest 1 w b k) ≤ j
        → (newest 1 w b k ≤ j → j < k → get_or w j 0 % 2039 ≡ b → ⊥) → ⊥
    go true q h rest = absurd (omega arith)
    go false q h rest = last (ltb j k) refl
      where
        last : (t : Bool) → ltb j k ≡ t → ⊥
        last true z = rest h (ltb-true j k z) e
        last false z =
            let y : j ≡ k = omega (arith, ltb-false j k z) in
            eqb-false (get_or w (1 * k) 0 % 2039) b q (rw (one k, ← y) e)

-- i: the next of the chain; hit: the last that was met, n for none
pub record Chasing (w : List ℕ) (n a i hit : ℕ) : Type 0 where
  pub order : i ≤ hit
  pub most : hit ≤ n
  pub rest : 0 < i → get_or w (1 * (i - 1)) 0 % 2039 ≡ a % 2039
  pub own : hit < n → get_or w hit 0 ≡ a
  pub between : (j : ℕ) → i ≤ j → j < hit → get_or w j 0 ≡ a → ⊥

pub chase_begin : (w x : List ℕ) (n a : ℕ) {i h : ℕ} → Indexed 1 w n x → i ≡ get_or x (2048 + a % 2039) 0 → h ≡ n → Chasing w n a i h
chase_begin w x n a {i} t e f =
    let q : i ≡ newest 1 w (a % 2039) n = e ∙ t.heads (a % 2039) (omega arith) in
    rw (q, f) (record {
      order = newest_least 1 w (a % 2039) n;
      most = omega arith;
      rest = λ h. newest-own 1 w (a % 2039) n h;
      own = λ h. absurd (omega arith);
      between = λ j g l z. past w (a % 2039) n j g l (rw z);
    })

pub met_most : (x a i hit k : ℕ) {r : ℕ} → r ≡ if_eq x a (i - 1) hit → i ≤ k → hit ≤ k → r ≤ k
unfolding if_eq
met_most x a i hit k e h l = go (eqb x a) e
  where
    go : (b : Bool) {r : ℕ} → r ≡ pick b (i - 1) hit → r ≤ k
    go true e = omega arith
    go false e = omega arith

pub met_word : (w : List ℕ) (a i hit : ℕ) {r : ℕ} → r ≡ if_eq (get_or w (history_at + (i - 1)) 0) a (i - 1) hit
    → r ≡ if_eq (get_or (drop history_at w) (i - 1) 0) a (i - 1) hit
met_word w a i hit e = rw (get_or-drop history_at w (i - 1) 0) e

module _ {w : List ℕ} {n a i hit : ℕ} (u : Chasing w n a i hit) where
  pub chase_end : i ≡ 0 → First w n a hit
  chase_end e = record { within = u.most; own = u.own; front = λ j l. u.between j (omega arith) l }

  module _ (h : 0 < i) (x : List ℕ) (t : Indexed 1 w n x) {j : ℕ} (e : j ≡ get_or x (i - 1) 0) where
    older : j ≡ newest 1 w (a % 2039) (i - 1)
    older = older_is 1 w x n a i t h (omega (arith, u.order, u.most)) (u.rest h) e

    pub chase_less : j < i
    chase_less = let k = newest_least 1 w (a % 2039) (i - 1) in omega (arith, older, k, h)

    pub chase_next : {r : ℕ} → r ≡ if_eq (get_or w (i - 1) 0) a (i - 1) hit → Chasing w n a j r
    unfolding if_eq
    chase_next {r} f = go (eqb (get_or w (i - 1) 0) a) refl f
      where
        low : (k : ℕ) → j ≤ k → k < i - 1 → get_or w k 0 ≡ a → ⊥
        low k g l z = past w (a % 2039) (i - 1) k (rw older at g) l (rw z)

        remainder : 0 < j → get_or w (1 * (j - 1)) 0 % 2039 ≡ a % 2039
        remainder g = rw older (newest-own 1 w (a % 2039) (i - 1) (rw older at g))

        go : (b : Bool) → eqb (get_or w (i - 1) 0) a ≡ b → r ≡ pick b (i - 1) hit → Chasing w n a j r
        go true q f =
            rw f (record {
              order = omega (arith, chase_less, h);
              most = omega (arith, u.order, u.most);
              rest = remainder;
              own = λ l. eqb-true (get_or w (i - 1) 0) a q;
              between = low;
            })
        go false q f =
            rw f (record {
              order = omega (arith, chase_less, u.order);
              most = u.most;
              rest = remainder;
              own = u.own;
              between = λ k g l z. upper k g l z;
            })
          where
            upper : (k : ℕ) → j ≤ k → k < hit → get_or w k 0 ≡ a → ⊥
            upper k g l z = side (ltb k (i - 1)) refl (eqb k (i - 1)) refl
              where
                side : (b : Bool) → ltb k (i - 1) ≡ b → (c : Bool) → eqb k (i - 1) ≡ c → ⊥
                side true p c o = low k g (ltb-true k (i - 1) p) z
                side false p true o = let y = eqb-true k (i - 1) o in eqb-false (get_or w (i - 1) 0) a q (rw (← y) z)
                side false p false o =
                    let y = eqb-false k (i - 1) o in
                    u.between k (omega (arith, ltb-false k (i - 1) p, y, h)) l z

-- ---- the history's link by the place of a in the chain
module _ (s w : List ℕ) (m : List Copy) (fh a n r : ℕ) (f : First (drop history_at w) n a r) (few : n ≤ 2048) (long : history_at + 2048 ≤ length w) where
  here : Chain s w m fh a history_at (history_at + n) (first_new s m a (history_link a (part history_at n w) m fh))
  here =
      let e : min n (length w - history_at) ≡ n = min-eq_left (omega arith) in
      chain_begin s w m fh a n (rw e)

  passed : (k : ℕ) → k ≤ r → Chain s w m fh a (history_at + k) (history_at + n) (first_new s m a (history_link a (part history_at n w) m fh))
  passed zero h = here
  passed (suc k) h =
      let e : history_at + suc k ≡ history_at + k + 1 = omega arith in
      rw e (history_miss (passed k (omega arith)) (omega (arith, f.within)) (λ z. f.front k (omega arith) (get_or-drop history_at w k 0 ∙ z)))

  found : r < n → get_or w (history_at + r) 0 ≡ a
  found h = sym (get_or-drop history_at w r 0) ∙ f.own h

  pub first-none : r ≡ n → {x : ℕ} → x ≡ first_new s m a none → x ≡ first_new s m a (history_link a (part history_at n w) m fh)
  first-none e q = history_end (passed r (omega arith)) (omega arith) q

  pub first_last : n - r ≡ 1 → fh ≡ first_new s m a (history_link a (part history_at n w) m fh)
  first_last e = history_last (passed r (omega arith)) (omega arith) (omega arith) (found (omega arith))

  pub first_next : r + 1 < n → {x : ℕ} → x ≡ link_of (copy_of (get_or w (history_at + r + 1) 0) m)
      → x ≡ first_new s m a (history_link a (part history_at n w) m fh)
  first_next h q = history-next (passed r (omega arith)) (omega arith) (found (omega arith)) q
