-- The copies for columns, out of their words: what is left of them gives what all give.
use Prim.{tt}
use Rattle.std.specs.Prelude.{ℕ, zero, suc, ◌+◌, ◌*◌, ◌-◌, ◌≤◌, ◌<◌, List, ◌≡◌, refl, length, get_or, Result, Ok, Err}
use Rattle.std.proofs.Common.{sym, ◌∙◌, sub-one, arith}
use Rattle.std.proofs.Math.ListN.{get_or-eq_default}
use Rattle.base.specs.Checked.{ok, refused, and_then}
use Rattle.plan.specs.Copies.{Copies, copy_roots}
use Rattle.copier.specs.declared.memo.Copying.{Copying}
use Rattle.fields.specs.declared.refusal.Refusal.{Refusal}
use Rattle.fields.specs.Answer.{number_of, place_of}
use Rattle.copier.specs.Standing.{standing, Room, Ready}
use Rattle.copier.specs.Got.{Copied, AfterGot}
use Rattle.copier.specs.TurnLaws.{Held, held_begin, held_next, copied_at, copied_refused}
use Rattle.copier.specs.Roots.{roots, roots_at, copies_of}

-- ---- a word
pub past_end : (w : List ℕ) (i : ℕ) → length w ≤ i → 0 ≡ get_or w i 0
past_end w i h = sym (get_or-eq_default w 0 h)

-- ---- what is left of the columns
copying_none : (most : ℕ) (s w : List ℕ) (p n : ℕ) (m : Copies) → n ≡ 0 → copies_of most s w p n m ≡ ok m
unfolding copies_of
copying_none most s w p n m e = rw e

copying_cons : (most : ℕ) (s w : List ℕ) (p n : ℕ) (m : Copies) → 0 < n
    → copies_of most s w p n m ≡ and_then (copy_roots most s (roots_at s w p) m)
    (λ m'. copies_of most s w (p + 8) (n - 1) m')
unfolding copies_of
copying_cons most s w p zero m h = absurd (omega arith)
copying_cons most s w p (suc n) m h = rw sub-one

pub record CopyingOf (most : ℕ) (s w : List ℕ) (n₀ : ℕ) (m₀ : List ℕ) (st₀ : Copying) (m : List ℕ) (p n : ℕ) (st : Copying) : Type 0 where
  pub at : p + 8 * n ≤ 4096
  pub limit : most ≤ 2050
  pub long : 8192 ≤ length m
  pub held : Held m₀ st₀ m st
  pub rest : copies_of most s w p n (standing m st) ≡ copies_of most s w 0 n₀ (standing m₀ st₀)

pub copying_begin : (most : ℕ) (s w : List ℕ) (n : ℕ) (m : List ℕ) (st : Copying) → Ready m most st → n ≤ 512
    → CopyingOf most s w n m st m 0 n st
copying_begin most s w n m st r h =
    let room : Room st.used st.next = record { few = r.few; near = omega (arith, r.near) } in
    record { at = omega arith; limit = r.limit; long = r.words; held = held_begin m st room; rest = refl }

roots-by : (s w : List ℕ) (p : ℕ) {d g c : ℕ} → d ≡ get_or w (p + 2) 0 → g ≡ get_or w (p + 1) 0 → c ≡ get_or w p 0
    → roots s d g c ≡ roots_at s w p
unfolding roots_at
roots-by s w p d g c = rw (d, g, c)

module _ {most : ℕ} {s w : List ℕ} {n₀ : ℕ} {m₀ : List ℕ} {st₀ : Copying} {m : List ℕ} {p n : ℕ} {st : Copying}
    (u : CopyingOf most s w n₀ m₀ st₀ m p n st) where
  pub copying_end : n ≡ 0 → Copied m₀ m (Ok st) (copies_of most s w 0 n₀ (standing m₀ st₀))
  copying_end e = record { is = sym (copying_none most s w p n (standing m st) e) ∙ u.rest; past = u.held.past }

  module _ (h : 0 < n) {d g c : ℕ} (i : d ≡ get_or w (p + 2) 0) (j : g ≡ get_or w (p + 1) 0) (k : c ≡ get_or w p 0)
      {m' : List ℕ} {r : Result Copying Refusal} (x : Copied m m' r (copy_roots most s (roots s d g c) (standing m st))) where
    pub copying_refused : {y : Refusal} → r ≡ Err y
        → Copied m₀ m' (Err y) (copies_of most s w 0 n₀ (standing m₀ st₀))
    copying_refused {y} e =
        let v : copy_roots most s (roots_at s w p) (standing m st) ≡ refused (number_of y) (place_of y) =
        rw (roots-by s w p i j k) at (sym (copied_refused x e)) in
        record { is = rw (copying_cons most s w p n (standing m st) h, v) at u.rest; past = tt }

    pub copying_next : {t : Copying} → AfterGot r st → r ≡ Ok t → length m' ≡ length m
        → CopyingOf most s w n₀ m₀ st₀ m' (p + 8) (n - 1) t
    copying_next {t} f e l =
        let v : copy_roots most s (roots_at s w p) (standing m st) ≡ ok (standing m' t) =
        rw (roots-by s w p i j k) at (sym (copied_at x e).0) in
        record {
          at = omega (arith, u.at);
          limit = u.limit;
          long = omega (arith, l, u.long);
          held = held_next u.held x f e l;
          rest = rw (copying_cons most s w p n (standing m st) h, v) at u.rest;
        }
