-- The ways through a decision, one law for each way of the code.
use Rattle.std.specs.Prelude.{ℕ, List, Bool, false, ⊤, Result, Ok, Err, Option, Some, None}
use Rattle.std.proofs.Math.Path.{◌≡◌, refl, sym, ap}
use Rattle.std.proofs.Common.{◌∙◌, arith}
use Rattle.std.proofs.Math.Bool.{true}
use Rattle.std.proofs.Math.Nat.{add-zero}
use Rattle.base.specs.Choice.{if_eq}
use Rattle.base.specs.ChoiceLaws.{eq_yes, eq_no}
use Rattle.base.specs.Checked.{Checked, ok, refused, and_then, Verdict}
use Rattle.mdf.specs.Block.{kind_cg, kind_cn, link_at, kind_at, header_in}
use Rattle.mdf.specs.Chain.{Chain.signal, Found, found, stopped, limits, chain}
use Rattle.fields.specs.declared.refusal.Refusal.{Refusal}
use Rattle.fields.specs.Answer.{number_of, place_of, verdict_of}
use Rattle.blocks.specs.AnswerLaws.{so_fine, so_refused}
use Rattle.chains.specs.declared.chain.Stopped.{Stopped}
use Rattle.chains.specs.Kept.{given, laid}
use Rattle.chains.specs.KeptLaws.{kept-none}
use Rattle.plan.specs.Table.{treatment}
use Rattle.plan.specs.Channel.{channel_type, fits, is_master_type}
use Rattle.plan.specs.Photos.{photos_in}
use Rattle.plan.specs.Columns.{no_signal, omitted, kind_ca, kept_signal, unfit, further_master, omitted_type, composed, signal_link, stored_at, decide_chain, unless, decide}
use Rattle.plan.specs.Columns as columns
use Rattle.deciding.specs.declared.reason.Reason.{Reason}
use Rattle.deciding.specs.declared.reason.Reason.TheVariants.{OtherCount, Unfit, FurtherMaster, Synchronization, Array, Structure, StorageGroup, ByTable}
use Rattle.deciding.specs.Reasons.{reason_number}
use Rattle.deciding.specs.Decided.{tested_as, Left, stops, omits, keeps, laid_decision}

-- ---- from a decision to what it leaves
module _ {d : Checked columns.Decision} (n : ℕ) (w : List ℕ) where
  pub left_refused : {x p : ℕ} → refused x p ≡ d → stops x p ≡ laid_decision d n w
  unfolding laid_decision
  left_refused e = rw (← e)

  pub left-omitted : {k : ℕ} → ok (omitted k) ≡ d → omits k w ≡ laid_decision d n w
  unfolding laid_decision
  left-omitted e = rw (← e)

  pub left_unsigned : ok (columns.kept no_signal) ≡ d → keeps false n w ≡ laid_decision d n w
  unfolding laid_decision
  left_unsigned e = rw (← e, add-zero, kept-none)

  pub left-same : {b : Checked columns.Decision} {g : Left} → b ≡ d → g ≡ laid_decision b n w → g ≡ laid_decision d n w
  left-same e h = rw (← e) h

-- ---- the signal data's chain: o is the code's walk of it
module _ (f : Found) (n : ℕ) (w : List ℕ) {o : Result ℕ Stopped} (w' : List ℕ) (e : given o w' ≡ laid f n w) where
  pub signal_stop : {x : Stopped} → o ≡ Err x → stops (number_of x.refusal) (place_of x.refusal) ≡ laid_decision (kept_signal f) n w
  unfolding laid laid_decision
  signal_stop {x} q = go f (rw q at e)
    where
      go : (f : Found) → given (Err x) w' ≡ laid f n w → stops (number_of x.refusal) (place_of x.refusal) ≡ laid_decision (kept_signal f) n w
      go (found fs) z = absurd (let l : ◌≡◌ {A = ℕ} 0 1 = cc in omega arith)
      go (stopped y t fs) z = cc

  pub signal_done : {k : ℕ} → o ≡ Ok k → keeps true k w' ≡ laid_decision (kept_signal f) n w
  unfolding laid laid_decision
  signal_done {k} q = go f (rw q at e)
    where
      go : (f : Found) → given (Ok k) w' ≡ laid f n w → keeps true k w' ≡ laid_decision (kept_signal f) n w
      go (found fs) z = cc
      go (stopped y t fs) z = absurd (let l : ◌≡◌ {A = ℕ} 0 1 = cc in omega arith)

-- ---- reasons 5 and 6
module _ (s : List ℕ) (c : ℕ) {a : ℕ} (l : a ≡ link_at s c 1) where
  pub composed-none : a ≡ 0 → ok 0 ≡ composed s c
  unfolding composed
  composed-none z = eq_yes _ _ _ _ (sym l ∙ z) refl

  module _ (z : a ≡ 0 → ⊥) {o : Result ⊤ Refusal} (k : verdict_of o ≡ header_in s a) where
    pub composed_refused : {x : Refusal} → o ≡ Err x → refused (number_of x) (place_of x) ≡ composed s c
    unfolding composed
    composed_refused q = let r = rw l at (so_refused k q) in eq_no _ _ _ _ (λ y. z (l ∙ y)) (rw r)

    module _ {u : ⊤} (q : o ≡ Ok u) {i : ℕ} (m : i ≡ kind_at s a) where
      composed-kind : {r : ℕ} → r ≡ if_eq (kind_at s (link_at s c 1)) kind_ca 5 (if_eq (kind_at s (link_at s c 1)) kind_cn 6 0) → ok r ≡ composed s c
      unfolding composed
      composed-kind e = let r = rw l at (so_fine k q) in eq_no _ _ _ _ (λ y. z (l ∙ y)) (rw r (ap ok e))

      pub composed-array : i ≡ kind_ca → ok 5 ≡ composed s c
      composed-array j = let v = rw l at m in composed-kind (eq_yes _ _ _ _ (sym v ∙ j) refl)

      pub composed-structure : (i ≡ kind_ca → ⊥) → i ≡ kind_cn → ok 6 ≡ composed s c
      composed-structure b j = let v = rw l at m in composed-kind (eq_no _ _ _ _ (λ y. b (v ∙ y)) (eq_yes _ _ _ _ (sym v ∙ j) refl))

      pub composed-other : (i ≡ kind_ca → ⊥) → (i ≡ kind_cn → ⊥) → ok 0 ≡ composed s c
      composed-other b j = let v = rw l at m in composed-kind (eq_no _ _ _ _ (λ y. b (v ∙ y)) (eq_no _ _ _ _ (λ y. j (v ∙ y)) refl))

-- ---- link 6
module _ (table s : List ℕ) (c : ℕ) {t : ℕ} (e : t ≡ channel_type s c) where
  pub link-other : (t ≡ 1 → ⊥) → 0 ≡ signal_link table s c
  unfolding signal_link
  link-other h = eq_no _ _ _ _ (λ q. h (e ∙ q)) refl

  module _ (h : t ≡ 1) {v : ℕ} (k : v ≡ treatment table t) where
    pub link-stored : v ≡ 2 → 0 ≡ signal_link table s c
    unfolding signal_link
    link-stored i = eq_yes _ _ _ _ (sym e ∙ h) (eq_yes _ _ _ _ (ap (treatment table) (sym e) ∙ sym k ∙ i) refl)

    pub link_read : (v ≡ 2 → ⊥) → link_at s c 5 ≡ signal_link table s c
    unfolding signal_link
    link_read i = eq_yes _ _ _ _ (sym e ∙ h) (eq_no _ _ _ _ (λ q. i (k ∙ ap (treatment table) e ∙ q)) refl)

-- ---- reason 7, and the chain at that link
module _ (s : List ℕ) (a : ℕ) where
  pub stored-none : a ≡ 0 → ok 0 ≡ stored_at s a
  unfolding stored_at
  stored-none z = eq_yes _ _ _ _ z refl

  module _ (z : a ≡ 0 → ⊥) {o : Result ⊤ Refusal} (k : verdict_of o ≡ header_in s a) where
    pub stored_refused : {x : Refusal} → o ≡ Err x → refused (number_of x) (place_of x) ≡ stored_at s a
    unfolding stored_at
    stored_refused q = eq_no _ _ _ _ z (rw (so_refused k q))

    module _ {u : ⊤} (q : o ≡ Ok u) {i : ℕ} (m : i ≡ kind_at s a) where
      pub stored-group : i ≡ kind_cg → ok 7 ≡ stored_at s a
      unfolding stored_at
      stored-group j = eq_no _ _ _ _ z (rw (so_fine k q) (ap ok (eq_yes _ _ _ _ (sym m ∙ j) refl)))

      pub stored_other : (i ≡ kind_cg → ⊥) → ok 0 ≡ stored_at s a
      unfolding stored_at
      stored_other j = eq_no _ _ _ _ z (rw (so_fine k q) (ap ok (eq_no _ _ _ _ (λ y. j (m ∙ y)) refl)))

  pub chain-none : (n : ℕ) → a ≡ 0 → ok (columns.kept no_signal) ≡ decide_chain s n a
  unfolding decide_chain
  chain-none n z = eq_yes _ _ _ _ z refl

  pub chain-led : (n : ℕ) → (a ≡ 0 → ⊥) → kept_signal (chain signal limits s n a) ≡ decide_chain s n a
  unfolding decide_chain
  chain-led n z = eq_no _ _ _ _ z refl

-- ---- the tests: what each gives
module _ (s : List ℕ) (g c : ℕ) {b : Bool} (e : b ≡ fits s g c) where
  pub fit_yes : b ≡ true → ◌≡◌ {A = Checked ℕ} (ok (unfit s g c)) (ok 0)
  unfolding unfit
  fit_yes h = rw (← e, h)

  pub fit_no : b ≡ false → ◌≡◌ {A = Checked ℕ} (ok (unfit s g c)) (ok 2)
  unfolding unfit
  fit_no h = rw (← e, h)

module _ (s : List ℕ) (c : ℕ) {b : Bool} (e : b ≡ is_master_type s c) where
  pub master_yes : b ≡ true → ◌≡◌ {A = Checked ℕ} (ok (further_master s c)) (ok 3)
  unfolding further_master
  master_yes h = rw (← e, h)

  pub master_no : b ≡ false → ◌≡◌ {A = Checked ℕ} (ok (further_master s c)) (ok 0)
  unfolding further_master
  master_no h = rw (← e, h)

module _ (r : ℕ) (table s : List ℕ) (c : ℕ) {t v : ℕ} (e : t ≡ channel_type s c) (k : v ≡ treatment table t) where
  pub type_yes : v ≡ r → ◌≡◌ {A = Checked ℕ} (ok (omitted_type r table s c)) (ok r)
  unfolding omitted_type
  type_yes h = ap ok (sym (eq_yes _ _ _ _ (ap (treatment table) (sym e) ∙ sym k ∙ h) refl))

  pub type_no : (v ≡ r → ⊥) → ◌≡◌ {A = Checked ℕ} (ok (omitted_type r table s c)) (ok 0)
  unfolding omitted_type
  type_no h = ap ok (sym (eq_no _ _ _ _ (λ q. h (k ∙ ap (treatment table) e ∙ q)) refl))

pub test_none : {v : Checked ℕ} {o : Result (Option Reason) Refusal} → tested_as o ≡ v → o ≡ Ok None → v ≡ ok 0
test_none e q = sym e ∙ ap tested_as q

pub test_found : {v : Checked ℕ} {o : Result (Option Reason) Refusal} {r : Reason} → tested_as o ≡ v → o ≡ Ok (Some r) → v ≡ ok (reason_number r)
test_found e q = sym e ∙ ap tested_as q

pub test_stopped : {v : Checked ℕ} {o : Result (Option Reason) Refusal} {x : Refusal} → tested_as o ≡ v → o ≡ Err x → v ≡ refused (number_of x) (place_of x)
test_stopped e q = sym e ∙ ap tested_as q

-- a reason's number is not 0
pub reason_some : (r : Reason) → reason_number r ≡ 0 → ⊥
reason_some OtherCount e = omega arith
reason_some Unfit e = omega arith
reason_some FurtherMaster e = omega arith
reason_some Synchronization e = omega arith
reason_some Array e = omega arith
reason_some Structure e = omega arith
reason_some StorageGroup e = omega arith
reason_some ByTable e = omega arith

-- ---- the tests in order
module _ (v : Checked ℕ) (rest : Checked columns.Decision) where
  pub pass : {d : Checked columns.Decision} → v ≡ ok 0 → d ≡ rest → d ≡ unless v rest
  unfolding unless
  pass e q = rw e (eq_yes _ _ _ _ refl q)

  pub omit : {r : ℕ} → v ≡ ok r → (r ≡ 0 → ⊥) → ok (omitted r) ≡ unless v rest
  unfolding unless
  omit e n = rw e (eq_no _ _ _ _ n refl)

  pub stop : {x p : ℕ} → v ≡ refused x p → refused x p ≡ unless v rest
  unfolding unless
  stop e = rw e

-- ---- 28: o is the code's answer
pub referred_no : (v : Verdict) (k : Checked columns.Decision) {o : Result ⊤ Refusal} → verdict_of o ≡ v → {x : Refusal} → o ≡ Err x
    → refused (number_of x) (place_of x) ≡ and_then v (λ _. k)
referred_no v k e q = rw (so_refused e q)

pub referred_yes : (v : Verdict) (k : Checked columns.Decision) {o : Result ⊤ Refusal} → verdict_of o ≡ v → {u : ⊤} → o ≡ Ok u → k ≡ and_then v (λ _. k)
referred_yes v k e q = rw (so_fine e q)

pub chain-of : (photos : Bool) (s : List ℕ) (n c : ℕ) {a b : ℕ} → a ≡ b
    → and_then (photos_in photos s c) (λ _. decide_chain s n a) ≡ and_then (photos_in photos s c) (λ _. decide_chain s n b)
chain-of photos s n c e = rw e refl

pub by_tests : (photos : Bool) (table s : List ℕ) (n g c : ℕ) {d : Checked columns.Decision}
    → d ≡ unless (ok (omitted_type 4 table s c)) (unless (ok (omitted_type 8 table s c)) (unless (ok (unfit s g c)) (unless (ok (further_master s c))
    (unless (composed s c) (unless (stored_at s (signal_link table s c)) (and_then (photos_in photos s c) (λ _. decide_chain s n (signal_link table s c))))))))
    → d ≡ decide photos table s n g c
unfolding decide
by_tests photos table s n g c e = e

-- what follows the tests of type, fit and master
abbrev after_masters : Bool → List ℕ → List ℕ → ℕ → ℕ → Checked columns.Decision
after_masters photos table s n c =
    unless (composed s c) (unless (stored_at s (signal_link table s c)) (and_then (photos_in photos s c) (λ _. decide_chain s n (signal_link table s c))))

-- past the tests so far
module _ (photos : Bool) (table s : List ℕ) (n g c : ℕ) {t v : ℕ} (e : t ≡ channel_type s c) (k : v ≡ treatment table t) where
  pub omit_type_4 : v ≡ 4 → ok (omitted 4) ≡ decide photos table s n g c
  omit_type_4 h = by_tests photos table s n g c (omit _ _ (type_yes 4 table s c e k h) (λ z. omega arith))

  module _ (h : v ≡ 4 → ⊥) where
    pub omit_type_8 : v ≡ 8 → ok (omitted 8) ≡ decide photos table s n g c
    omit_type_8 j = by_tests photos table s n g c (pass _ _ (type_no 4 table s c e k h) (omit _ _ (type_yes 8 table s c e k j) (λ z. omega arith)))

    module _ (j : v ≡ 8 → ⊥) {b : Bool} (f : b ≡ fits s g c) where
      pub past_types : {d : Checked columns.Decision}
          → d ≡ unless (ok (unfit s g c)) (unless (ok (further_master s c)) (after_masters photos table s n c)) → d ≡ decide photos table s n g c
      past_types q = by_tests photos table s n g c (pass _ _ (type_no 4 table s c e k h) (pass _ _ (type_no 8 table s c e k j) q))

      pub omit_unfit : b ≡ false → ok (omitted 2) ≡ decide photos table s n g c
      omit_unfit l = past_types (omit _ _ (fit_no s g c f l) (λ z. omega arith))

      module _ (l : b ≡ true) {m : Bool} (i : m ≡ is_master_type s c) where
        pub omit_master : m ≡ true → ok (omitted 3) ≡ decide photos table s n g c
        omit_master y = past_types (pass _ _ (fit_yes s g c f l) (omit _ _ (master_yes s c i y) (λ z. omega arith)))

        pub past_masters : m ≡ false → {d : Checked columns.Decision} → d ≡ after_masters photos table s n c → d ≡ decide photos table s n g c
        past_masters y q = past_types (pass _ _ (fit_yes s g c f l) (pass _ _ (master_no s c i y) q))
