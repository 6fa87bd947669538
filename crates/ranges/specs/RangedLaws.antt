-- The laws of the pass over a chain's ranges, one for each return and each turn of a loop.
use Rattle.std.specs.Prelude.{ℕ, zero, suc, ◌+◌, ◌*◌, ◌-◌, ◌≤◌, ◌<◌, List, [], ◌∷◌, ◌≡◌, length}
use Rattle.std.proofs.Math.Path.{refl, sym}
use Rattle.std.proofs.Common.{◌∙◌, sub-one}
use native.Mathlib.Omega.{arith}
use Rattle.base.specs.Choice.{if_eq}
use Rattle.base.specs.ChoiceLaws.{lt_yes, lt_no, eq_yes, eq_no}
use Rattle.base.specs.Field.{le_at}
use Rattle.base.specs.Checked.{refused, and_then, Verdict, fine}
use Rattle.mdf.specs.Block.{links_at, link_at, first_link}
use Rattle.mdf.specs.Chain.{Kind, records}
use Rattle.mdf.specs.Records.{ranges_in}
use Rattle.std.specs.Prelude.{Result, Ok, Err, ⊤}
use Rattle.fields.specs.declared.refusal.Refusal.{Refusal}
use Rattle.fields.specs.Answer.{refused_by, verdict_of}
use Rattle.blocks.specs.AnswerLaws.{so_fine, so_refused}
use Rattle.chains.specs.declared.node.Node.{Node}
use Rattle.chains.specs.declared.node.Node.TheVariants.{Fragment, Dl, Hl}
use Rattle.chains.specs.declared.node.SrcBlock.{SrcBlock}
use Rattle.chains.specs.Node.{fragment_of, node_at, node_of}
use Rattle.ranges.specs.declared.range.Passed.{Passed}
use Rattle.ranges.specs.declared.range.Passed.TheVariants.{Over, On}
use Rattle.ranges.specs.Ranged.{entry_range, list_ranges, ranges_from, over, on, on_pass, pass_at, chain_ranges, pass_of}

-- ---- one block
module _ (s : List ℕ) (o z : ℕ) (k : Kind) where
  pub range-out : length s < o + z → refused 4 o ≡ ranges_in s (record { offset = o; size = z; kind = k } ∷ [])
  unfolding ranges_in
  range-out h = lt_yes _ _ _ _ h refl

  pub range-fine : o + z ≤ length s → fine ≡ ranges_in s (record { offset = o; size = z; kind = k } ∷ [])
  unfolding ranges_in
  range-fine h = lt_no _ _ _ _ h refl

-- ---- a link of a DL: r is the node there
pub entry_zero : (s : List ℕ) (x : ℕ) → x ≡ 0 → fine ≡ entry_range s x
unfolding entry_range
entry_zero s x z = eq_yes _ _ _ _ z refl

module _ (s : List ℕ) (x : ℕ) (z : x ≡ 0 → ⊥) {r : Result Node Refusal} (e : node_of r ≡ node_at records s x) where
  pub entry_refused : {y : Refusal} → r ≡ Err y → fine ≡ entry_range s x
  unfolding entry_range
  entry_refused q = eq_no _ _ _ _ z (rw (← e, q))

  pub entry-dl : r ≡ Ok Dl → fine ≡ entry_range s x
  unfolding entry_range
  entry-dl q = eq_no _ _ _ _ z (rw (← e, q))

  pub entry_hl : r ≡ Ok Hl → fine ≡ entry_range s x
  unfolding entry_range
  entry_hl q = eq_no _ _ _ _ z (rw (← e, q))

  pub entry-block : {b : SrcBlock} {v : Verdict} → r ≡ Ok (Fragment b) → v ≡ ranges_in s (fragment_of b ∷ []) → v ≡ entry_range s x
  unfolding entry_range
  entry-block q h = eq_no _ _ _ _ z (h ∙ rw (← e, q))

-- ---- the links of a DL
ranges_open : (s : List ℕ) (k p : ℕ) → 0 < k → list_ranges s k p ≡ and_then (entry_range s (le_at 8 s p)) (λ _. list_ranges s (k - 1) (p + 8))
unfolding list_ranges
ranges_open s zero p h = absurd (omega arith)
ranges_open s (suc k) p h = rw (sub-one (suc k))

module _ (s : List ℕ) (a links i : ℕ) {m : Verdict} (e : ranges_from s a links i ≡ m) where
  ranges_next : i < links → m ≡ and_then (entry_range s (link_at s a i)) (λ _. ranges_from s a links (i + 1))
  unfolding ranges_from link_at
  ranges_next h =
      let k : links - i - 1 ≡ links - (i + 1) = omega arith in
      let p : a + 24 + 8 * i + 8 ≡ a + 24 + 8 * (i + 1) = omega arith in
      sym e ∙ ranges_open s (links - i) (a + 24 + 8 * i) (omega arith) ∙ rw (k, p)

  pub ranges_end : links ≤ i → fine ≡ m
  unfolding ranges_from list_ranges
  ranges_end h = let k : links - i ≡ 0 = omega arith in rw k at e

  module _ (h : i < links) {x : ℕ} (q : x ≡ link_at s a i) {o : Result ⊤ Refusal} (f : verdict_of o ≡ entry_range s x) where
    pub ranges_stop : {y : Refusal} → o ≡ Err y → refused_by y ≡ m
    ranges_stop {y} g =
        let b : entry_range s (link_at s a i) ≡ refused_by y = rw (← q) (so_refused f g) in
        sym (ranges_next h ∙ rw b)

    pub ranges_on : {u : ⊤} → o ≡ Ok u → ranges_from s a links (i + 1) ≡ m
    ranges_on g =
        let b : entry_range s (link_at s a i) ≡ fine = rw (← q) (so_fine f g) in
        sym (ranges_next h ∙ rw b)

pub ranges_begin : (s : List ℕ) (a : ℕ) {n : ℕ} → n ≡ links_at s a → ranges_from s a n 1 ≡ ranges_from s a (links_at s a) 1
ranges_begin s a q = rw q

-- ---- a block of the chain: r is the node there
module _ (s : List ℕ) (a : ℕ) {r : Result Node Refusal} (e : node_of r ≡ node_at records s a) where
  pub pass_refused : {y : Refusal} → r ≡ Err y → over fine ≡ pass_at s a
  unfolding pass_at
  pass_refused q = rw (← e, q)

  pub pass_block : {b : SrcBlock} {v : Verdict} → r ≡ Ok (Fragment b) → v ≡ ranges_in s (fragment_of b ∷ []) → over v ≡ pass_at s a
  unfolding pass_at
  pass_block q h = rw (← e, q, h)

  pub pass_hl : r ≡ Ok Hl → on ≡ pass_at s a
  unfolding pass_at
  pass_hl q = rw (← e, q)

  module _ (q : r ≡ Ok Dl) {o : Result ⊤ Refusal} (f : verdict_of o ≡ ranges_from s a (links_at s a) 1) where
    pub pass_stop : {y : Refusal} → o ≡ Err y → over (refused_by y) ≡ pass_at s a
    unfolding pass_at
    pass_stop g = rw (← e, q, so_refused f g)

    pub pass_dl : {u : ⊤} → o ≡ Ok u → on ≡ pass_at s a
    unfolding pass_at
    pass_dl g = rw (← e, q, so_fine f g)

-- ---- the chain: m is what the whole of it gives
chain_turn : (s : List ℕ) (turns a : ℕ) → 0 < turns
    → chain_ranges s turns a ≡ if_eq a 0 fine (on_pass (pass_at s a) (chain_ranges s (turns - 1) (first_link s a)))
unfolding chain_ranges
chain_turn s zero a h = absurd (omega arith)
chain_turn s (suc t) a h = rw (sub-one (suc t))

module _ (s : List ℕ) (turns a : ℕ) {m : Verdict} (e : chain_ranges s turns a ≡ m) where
  pub chain-out : turns ≤ 0 → fine ≡ m
  unfolding chain_ranges
  chain-out h = let k : turns ≡ 0 = omega arith in rw k at e

  module _ (h : 0 < turns) where
    pub chain_end : a ≡ 0 → fine ≡ m
    chain_end z = eq_yes _ _ _ _ z refl ∙ sym (chain_turn s turns a h) ∙ e

    module _ (z : a ≡ 0 → ⊥) {r : Result Passed Refusal} (f : pass_of r ≡ pass_at s a) where
      pub chain-over : r ≡ Ok Over → fine ≡ m
      chain-over q =
          let b : pass_at s a ≡ over fine = sym f ∙ rw q in
          eq_no _ _ _ _ z (rw b) ∙ sym (chain_turn s turns a h) ∙ e

      pub chain_refused : {y : Refusal} → r ≡ Err y → refused_by y ≡ m
      chain_refused {y} q =
          let b : pass_at s a ≡ over (refused_by y) = sym f ∙ rw q in
          eq_no _ _ _ _ z (rw b) ∙ sym (chain_turn s turns a h) ∙ e

      pub chain-on : {b : ℕ} → r ≡ Ok On → b ≡ first_link s a → chain_ranges s (turns - 1) b ≡ m
      chain-on {b} q g =
          let p : pass_at s a ≡ on = sym f ∙ rw q in
          rw g (eq_no _ _ _ _ z (rw p)) ∙ sym (chain_turn s turns a h) ∙ e
