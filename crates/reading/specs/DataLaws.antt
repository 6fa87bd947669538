-- The data chain and the id size of a DG.
use Rattle.std.specs.Prelude.{ℕ, zero, suc, ◌+◌, ◌<◌, ◌≤◌, List, ◌≡◌, refl, length}
use Rattle.std.proofs.Common.{sym, ap, ◌∙◌, arith}
use Rattle.base.specs.Choice.{if_eq}
use Rattle.base.specs.ChoiceLaws.{eq_yes, eq_no}
use Rattle.base.specs.Checked.{ok, refused, and_then, Verdict, fine}
use Rattle.std.specs.Prelude.{Result, Ok, Err, ⊤}
use Rattle.fields.specs.declared.refusal.Refusal.{Refusal}
use Rattle.fields.specs.Answer.{verdict_of}
use Rattle.mdf.specs.Block.{link_at}
use Rattle.mdf.specs.Chain.{Chain.records, Found, found, stopped, Limits, chain}
use Rattle.mdf.specs.Walk.{id_size, id_size_in}
use Rattle.records.specs.Bounded.{Bounded}
use Rattle.chains.specs.declared.chain.Stopped.{Stopped}
use Rattle.chains.specs.Kept.{kept, given, laid}
use Rattle.chains.specs.FoundLaws.{chain_limit}
use Rattle.reading.specs.Held.{most_pieces}
use Rattle.reading.specs.Steps.{refused_as, Pieces, pieces, laid_found, data_in}
use Rattle.reading.specs.CheckedLaws.{refused≢ok, ok_same}

first_three : (r : ℕ) (v : Verdict) → r < 3 → fine ≡ if_eq r 0 fine (if_eq r 1 fine (if_eq r 2 fine v))
first_three zero v h = eq_yes _ _ _ _ refl refl
first_three (suc zero) v h = eq_no _ _ _ _ (λ e. omega arith) (eq_yes _ _ _ _ refl refl)
first_three (suc (suc zero)) v h = eq_no _ _ _ _ (λ e. omega arith) (eq_no _ _ _ _ (λ e. omega arith) (eq_yes _ _ _ _ refl refl))
first_three (suc (suc (suc k))) v h = absurd (omega arith)

module _ (s : List ℕ) (a : ℕ) {r : ℕ} (f : Bounded 256 (id_size s a) r) where
  pub id_small : r < 3 → fine ≡ id_size_in s a
  unfolding id_size_in
  id_small h = rw (← f.is) (first_three r _ h)

  pub id_four : r ≡ 4 → fine ≡ id_size_in s a
  unfolding id_size_in
  id_four e = rw (← f.is)
      (eq_no _ _ _ _ (λ i. omega arith) (eq_no _ _ _ _ (λ i. omega arith) (eq_no _ _ _ _ (λ i. omega arith) (eq_yes _ _ _ _ e refl))))

  pub id_eight : r ≡ 8 → fine ≡ id_size_in s a
  unfolding id_size_in
  id_eight e = rw (← f.is)
      (eq_no _ _ _ _ (λ i. omega arith) (eq_no _ _ _ _ (λ i. omega arith) (eq_no _ _ _ _ (λ i. omega arith)
      (eq_no _ _ _ _ (λ i. omega arith) (eq_yes _ _ _ _ e refl)))))

  pub id_other : 3 ≤ r → (r ≡ 4 → ⊥) → (r ≡ 8 → ⊥) → refused 13 a ≡ id_size_in s a
  unfolding id_size_in
  id_other h p q = rw (← f.is)
      (eq_no _ _ _ _ (λ i. omega arith) (eq_no _ _ _ _ (λ i. omega arith) (eq_no _ _ _ _ (λ i. omega arith)
      (eq_no _ _ _ _ p (eq_no _ _ _ _ q refl)))))

-- ---- the data chain from x, where it stands at link 3: r is what it gave
laid_stopped : (v : Found) (n : ℕ) (w w' : List ℕ) (y : Stopped) → given (Err y) w' ≡ laid v n w → laid_found v n w ≡ refused_as y.refusal
unfolding laid
laid_stopped (found fs) n w w' y e = absurd (let z : ◌≡◌ {A = ℕ} 0 1 = cc in omega arith)
laid_stopped (stopped z p fs) n w w' y e = cc

laid_done : (v : Found) (n : ℕ) (w : List ℕ) {w' : List ℕ} {c : ℕ} → given (Ok c) w' ≡ laid v n w → laid_found v n w ≡ ok (pieces c w')
unfolding laid kept
laid_done (found fs) n w {w'} {c} e =
    let i : c ≡ n + length fs = cc in
    let j : w' ≡ kept n fs w = cc in
    rw (i, j)
laid_done (stopped y p fs) n w e = absurd (let z : ◌≡◌ {A = ℕ} 0 1 = cc in omega arith)

module _ (l : Limits) (s w : List ℕ) (n a : ℕ) {x : ℕ} (h : x ≡ link_at s a 2) {r : Result ℕ Stopped} (w' : List ℕ) (e : given r w' ≡ laid (chain records l s n x) n w) where
  pub data_chain_stopped : {y : Stopped} → r ≡ Err y → refused_as y.refusal ≡ data_in l s w n a
  unfolding data_in
  data_chain_stopped {y} q =
      let f : given (Err y) w' ≡ laid (chain records l s n (link_at s a 2)) n w = ap (λ (u : Result ℕ Stopped). given u w') (sym q) ∙ e ∙ ap (λ (i : ℕ). laid (chain records l s n i) n w) h in
      rw (laid_stopped _ n w w' y f)

  chained : {c : ℕ} → r ≡ Ok c → laid_found (chain records l s n (link_at s a 2)) n w ≡ ok (pieces c w')
  chained {c} q =
      let f : given (Ok c) w' ≡ laid (chain records l s n (link_at s a 2)) n w = ap (λ (u : Result ℕ Stopped). given u w') (sym q) ∙ e ∙ ap (λ (i : ℕ). laid (chain records l s n i) n w) h in
      laid_done _ n w f

  module _ {c : ℕ} (q : r ≡ Ok c) {o : Result ⊤ Refusal} (g : verdict_of o ≡ id_size_in s a) where
    pub data_unsized : {y : Refusal} → o ≡ Err y → refused_as y ≡ data_in l s w n a
    unfolding data_in
    data_unsized i = rw (chained q, ← g, i)

    pub data_taken : {u : ⊤} → o ≡ Ok u → ok (pieces c w') ≡ data_in l s w n a
    unfolding data_in
    data_taken i = rw (chained q, ← g, i)

-- the limit on fragments
pub data_room : (l : Limits) (s w : List ℕ) (n a : ℕ) {c : ℕ} {w' : List ℕ} → data_in l s w n a ≡ ok (pieces c w') → l.fragments ≤ most_pieces
    → n ≤ most_pieces → c ≤ most_pieces
unfolding data_in
data_room l s w n a {c} {w'} e m h = go (chain records l s n (link_at s a 2)) refl (id_size_in s a) e
  where
    go : (v : Found) → chain records l s n (link_at s a 2) ≡ v → (u : Verdict) → and_then (laid_found v n w) (λ k. and_then u (λ _. ok k)) ≡ ok (pieces c w') → c ≤ most_pieces
    go (found fs) i (ok t) f =
        let b = chain_limit records l s n (link_at s a 2) most_pieces m h in
        let d : n + length fs ≤ most_pieces = rw i at b in
        let k : n + length fs ≡ c = ap Pieces.count (ok_same f) in
        omega arith
    go (found fs) i (refused y p) f = absurd (refused≢ok f)
    go (stopped y p fs) i u f = absurd (refused≢ok f)
