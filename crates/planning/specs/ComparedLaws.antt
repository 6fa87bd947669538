-- Laws of what planning starts with when clocks are shared, out of the entries of groups: one for each way of the code.
use Rattle.std.specs.Prelude.{ℕ, suc, ◌+◌, ◌-◌, ◌≤◌, ◌<◌, List, [], ◌∷◌, Bool, true, false, ◌≡◌, eqb, ltb, Result, Ok, Err, ⊤}
use Rattle.std.proofs.Math.Path.{refl}
use Rattle.std.proofs.Common.{sym, ap, ◌∙◌, lt-ltb, le-ltb, eq-eqb, ne_eqb}
use native.Mathlib.Omega.{arith}
use Rattle.base.specs.Choice.{pick}
use Rattle.base.specs.ChoiceLaws.{eq_yes, eq_no}
use Rattle.base.specs.Blit.{part}
use Rattle.base.specs.Checked.{refused, and_then, Verdict, fine}
use Rattle.fields.specs.declared.refusal.Refusal.{Refusal}
use Rattle.fields.specs.Answer.{verdict_of, refused_by}
use Rattle.mdf.specs.Name.{name_at}
use Rattle.work_words.specs.Words.{fragments_of}
use Rattle.plan.specs.Channel.{both}
use Rattle.result.specs.Sharing.{same, unit_of, stream_in}
use Rattle.planning.specs.declared.table.Entry.{Entry}
use Rattle.planning.specs.Table.{entry_at, entries_at}
use Rattle.planning.specs.Compared.{each_over, unit_over, entry_key, shares_key, keyed_over, compared_over, any_over, stream_over}

-- ---- the entries left
entries_none : (w : List ℕ) (n j : ℕ) → n ≤ j → entries_at w j (n - j) ≡ []
unfolding entries_at
entries_none w n j h = let e : n - j ≡ 0 = omega arith in rw e

entries_next : (w : List ℕ) (n j : ℕ) → j < n → {e : Entry} → e ≡ entry_at w j → entries_at w j (n - j) ≡ e ∷ entries_at w (j + 1) (n - (j + 1))
unfolding entries_at
entries_next w n j h {e} q = go (n - j) (omega arith)
  where
    go : (k : ℕ) → k ≡ suc (n - (j + 1)) → entries_at w j k ≡ e ∷ entries_at w (j + 1) (n - (j + 1))
    go k z = rw (z, q)

-- ---- a check of each: what is left gives what all give
pub record Checking (p : Entry → Verdict) (w : List ℕ) (n j : ℕ) : Type 0 where
  pub room : j ≤ n
  pub rest : each_over p (entries_at w j (n - j)) ≡ each_over p (entries_at w 0 n)

pub each_begin : {p : Entry → Verdict} {w : List ℕ} {n : ℕ} → Checking p w n 0
each_begin {n = n} = let e : n - 0 ≡ n = omega arith in record { room = omega arith; rest = rw e }

module _ {p : Entry → Verdict} {w : List ℕ} {n j : ℕ} (t : Checking p w n j) where
  pub each_end : n ≤ j → fine ≡ each_over p (entries_at w 0 n)
  unfolding each_over
  each_end h = rw (entries_none w n j h) at t.rest

  module _ (h : j < n) {e : Entry} (q : e ≡ entry_at w j) where
    each_open : (v : Verdict) → v ≡ p e → and_then v (λ _. each_over p (entries_at w (j + 1) (n - (j + 1)))) ≡ each_over p (entries_at w 0 n)
    unfolding each_over
    each_open v k = rw k (rw (entries_next w n j h q) at t.rest)

    pub each_stop : {v : Result ⊤ Refusal} → verdict_of v ≡ p e → {x : Refusal} → v ≡ Err x → refused_by x ≡ each_over p (entries_at w 0 n)
    each_stop k z = each_open (refused _ _) (ap verdict_of (sym z) ∙ k)

    pub each_on : {v : Result ⊤ Refusal} → verdict_of v ≡ p e → {u : ⊤} → v ≡ Ok u → Checking p w n (j + 1)
    each_on k z = record { room = omega arith; rest = each_open fine (ap verdict_of (sym z) ∙ k) }

-- ---- units
module _ (s : List ℕ) (e : Entry) where
  pub unit_none : e.master ≡ 0 → fine ≡ unit_over s e
  unfolding unit_over
  unit_none h = eq_yes _ _ _ _ h refl

  pub unit_some : (e.master ≡ 0 → ⊥) → {v : Verdict} → v ≡ name_at s (unit_of s e.master) → v ≡ unit_over s e
  unfolding unit_over
  unit_some h k = eq_no _ _ _ _ h k

-- ---- keys
module _ (s : List ℕ) (e f : Entry) where
  pub key_none : f.master ≡ 0 → false ≡ shares_key s e f
  unfolding shares_key
  key_none h = eq_yes _ _ _ _ h refl

  pub key_some : (f.master ≡ 0 → ⊥) → {r : Bool} → r ≡ same (entry_key s e) (entry_key s f) → r ≡ shares_key s e f
  unfolding shares_key
  key_some h k = eq_no _ _ _ _ h k

-- ---- compared groups
pub record Keying (s : List ℕ) (e : Entry) (w : List ℕ) (n j many : ℕ) : Type 0 where
  pub room : j ≤ n
  pub few : many ≤ 1
  pub some : e.master ≡ 0 → ⊥
  pub rest : many + keyed_over s e (entries_at w j (n - j)) ≡ keyed_over s e (entries_at w 0 n)

pub compared_none : (s : List ℕ) (e : Entry) (all : List Entry) → e.master ≡ 0 → false ≡ compared_over s all e
unfolding compared_over
compared_none s e all h = eq_yes _ _ _ _ h refl

compared_some : (s : List ℕ) (e : Entry) (all : List Entry) → (e.master ≡ 0 → ⊥) → {r : Bool} → r ≡ ltb 1 (keyed_over s e all) → r ≡ compared_over s all e
unfolding compared_over
compared_some s e all h k = eq_no _ _ _ _ h k

pub key_begin : {s : List ℕ} {e : Entry} {w : List ℕ} {n : ℕ} → (e.master ≡ 0 → ⊥) → Keying s e w n 0 0
key_begin {n = n} h = let e : n - 0 ≡ n = omega arith in record { room = omega arith; few = omega arith; some = h; rest = rw e (omega arith) }

module _ {s : List ℕ} {e : Entry} {w : List ℕ} {n j many : ℕ} (t : Keying s e w n j many) where
  pub key_end : n ≤ j → false ≡ compared_over s (entries_at w 0 n) e
  unfolding keyed_over
  key_end h =
      let r = rw (entries_none w n j h) at t.rest in
      let f = t.few in
      compared_some s e _ t.some (sym (le-ltb 1 (keyed_over s e (entries_at w 0 n)) (omega arith)))

  module _ (h : j < n) {f : Entry} (q : f ≡ entry_at w j) {x : ℕ} (k : (x ≡ pick (shares_key s e f) 1 0) × (x ≤ 1)) where
    key_open : many + x + keyed_over s e (entries_at w (j + 1) (n - (j + 1))) ≡ keyed_over s e (entries_at w 0 n)
    unfolding keyed_over
    key_open =
        let a = k.0 in
        let r = rw (entries_next w n j h q) at t.rest in
        omega arith

    pub key_hit : 1 < many + x → true ≡ compared_over s (entries_at w 0 n) e
    key_hit l = let r = key_open in compared_some s e _ t.some (sym (lt-ltb 1 (keyed_over s e (entries_at w 0 n)) (omega arith)))

    pub key_on : many + x ≤ 1 → Keying s e w n (j + 1) (many + x)
    key_on l = record { room = omega arith; few = l; some = t.some; rest = key_open }

-- ---- of a DG
module _ (s : List ℕ) (all : List Entry) (d : ℕ) (e : Entry) where
  pub in_other : (e.dg ≡ d → ⊥) → false ≡ both (eqb e.dg d) (compared_over s all e)
  in_other h = rw (ne_eqb e.dg d h)

  pub in_own : e.dg ≡ d → {r : Bool} → r ≡ compared_over s all e → r ≡ both (eqb e.dg d) (compared_over s all e)
  in_own h k = rw (eq-eqb e.dg d h) k

pub record Seeing (s : List ℕ) (all : List Entry) (d : ℕ) (w : List ℕ) (n j : ℕ) : Type 0 where
  pub room : j ≤ n
  pub rest : any_over s all d (entries_at w j (n - j)) ≡ any_over s all d (entries_at w 0 n)

pub any_begin : {s : List ℕ} {all : List Entry} {d : ℕ} {w : List ℕ} {n : ℕ} → Seeing s all d w n 0
any_begin {n = n} = let e : n - 0 ≡ n = omega arith in record { room = omega arith; rest = rw e }

module _ {s : List ℕ} {all : List Entry} {d : ℕ} {w : List ℕ} {n j : ℕ} (t : Seeing s all d w n j) where
  pub any_end : n ≤ j → false ≡ any_over s all d (entries_at w 0 n)
  unfolding any_over
  any_end h = rw (entries_none w n j h) at t.rest

  module _ (h : j < n) {e : Entry} (q : e ≡ entry_at w j) {r : Bool} (k : r ≡ both (eqb e.dg d) (compared_over s all e)) where
    any_open : pick r true (any_over s all d (entries_at w (j + 1) (n - (j + 1)))) ≡ any_over s all d (entries_at w 0 n)
    unfolding any_over
    any_open = rw k (rw (entries_next w n j h q) at t.rest)

    pub any_hit : r ≡ true → true ≡ any_over s all d (entries_at w 0 n)
    any_hit z = rw z at any_open

    pub any_on : r ≡ false → Seeing s all d w n (j + 1)
    any_on z = record { room = omega arith; rest = rw z at any_open }

-- ---- the data
module _ (s f : List ℕ) (all : List Entry) (e : Entry) where
  pub stream_several : (e.count ≡ 1 → ⊥) → fine ≡ stream_over s f all e
  unfolding stream_over
  stream_several h = eq_no _ _ _ _ h refl

  module _ (h : e.count ≡ 1) {r : Bool} (k : r ≡ any_over s all e.dg all) where
    pub stream_other : r ≡ false → fine ≡ stream_over s f all e
    unfolding stream_over
    stream_other z = eq_yes _ _ _ _ h (rw (← k, z))

    pub stream_read : r ≡ true → {ws : List ℕ} → ws ≡ part e.fragments e.words f → {v : Verdict} → v ≡ stream_in s e.dg e.at (fragments_of ws)
        → v ≡ stream_over s f all e
    unfolding stream_over
    stream_read z p q = eq_yes _ _ _ _ h (rw (← k, z, ← p) q)
