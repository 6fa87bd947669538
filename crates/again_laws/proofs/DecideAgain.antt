-- A result's signal channel is kept again, with its SD: none of the reasons to omit it holds, and only the limits of its chain can refuse it.
use Prim.{tt}
use Rattle.std.specs.Prelude.{ℕ, ◌+◌, ◌^◌, ◌<◌, List, [], Bool, true, false, ◌⊎◌, eqb, length}
use Rattle.std.proofs.Common.{inl, inr, subst, ◌∙◌, lit<, eqb-true, ne_eqb}
use Rattle.std.proofs.Math.Path.{◌≡◌, refl, sym, ap}
use native.Mathlib.Omega.{arith}
use Rattle.std.proofs.lemmas.Bool.{eqb-false}
use Rattle.base.specs.Choice.{pick, if_eq}
use Rattle.base.specs.ChoiceLaws.{eq_yes, eq_no}
use Rattle.base.specs.Checked.{Checked, ok, fine}
use Rattle.mdf.specs.Block.{kind_sd, link_at}
use Rattle.mdf.specs.Chain.{Chain.signal, Fragment, Found, found, limits, chain}
use Rattle.plan.specs.Channel.{channel_type}
use Rattle.plan.specs.Columns.{Signal, no_signal, signal_data, Decision, kept, kept_signal, unfit, further_master, omitted_type, composed, signal_link, stored_at, decide_chain, unless, decide}
use Rattle.plan.specs.Layout.{Placed, cg_of, cn_of}
use Rattle.plan.specs.Photos.{photos_in}
use Rattle.plan.specs.Rules.{Rules}
use Rattle.plan.specs.Table.{built_in_for, treatment}
use Rattle.result.specs.Due.{signal_due, type_due}
use Rattle.result.specs.Fill.{sd_link, block_of, sd_blocks}
use Rattle.result.specs.Guarantee.{Stands, In, here}
use Rattle.result.specs.Payload.{signal_bytes}
use Rattle.shown_laws.specs.Joined.{block_of_in, block_of_kind, chain_signal}
use Rattle.again_laws.specs.Gives.{Gives, gives, stops}
use Rattle.again_laws.specs.Limited.{closer, FoundLess, same, early}
use Rattle.again_laws.proofs.Limited.{chain_less}
use Rattle.again_laws.specs.Held.{Fields, Held}
use Rattle.again_laws.proofs.HeldLaws.{fields}
use Rattle.again_laws.specs.ChannelAgain.{treatment-none, type_cases, type_is, master_again, fits-again}
use Rattle.again_laws.specs.Origin.{Origin}

-- the signal data of a column whose SD stands at a
abbrev pub signal_again : List ℕ → Signal → ℕ → Signal
signal_again s no_signal a = no_signal
signal_again s (signal_data fs) a = signal_data (signal_due s (signal_data fs) a)

-- ---- no reason
unless-none : (rest : Checked Decision) → unless (ok 0) rest ≡ rest
unfolding unless
unless-none rest = sym (eq_yes _ _ _ _ refl refl)

-- a type that is not 4 is kept or stored as 0
treated_kept : (t : ℕ) → (t ≡ 4 → ⊥) → (treatment [] t ≡ 2) ⊎ (treatment [] t ≡ 0)
unfolding built_in_for
treated_kept t n = go (eqb t 5) refl
  where
    go : (b : Bool) → eqb t 5 ≡ b → (treatment [] t ≡ 2) ⊎ (treatment [] t ≡ 0)
    go true q = inl (treatment-none t ∙ sym (eq_no _ _ _ _ n (eq_yes _ _ _ _ (eqb-true t 5 q) refl)))
    go false q = inr (treatment-none t ∙ sym (eq_no _ _ _ _ n (eq_no _ _ _ _ (eqb-false t 5 q) refl)))

not_omitted : (r t : ℕ) → 2 < r → (t ≡ 4 → ⊥) → if_eq (treatment [] t) r r 0 ≡ 0
not_omitted r t h n = go (treated_kept t n)
  where
    go : (treatment [] t ≡ 2) ⊎ (treatment [] t ≡ 0) → if_eq (treatment [] t) r r 0 ≡ 0
    go (inl e) = sym (eq_no _ _ _ _ (λ q. omega arith) refl)
    go (inr e) = sym (eq_no _ _ _ _ (λ q. omega arith) refl)

same_choice : (m n a : ℕ) → if_eq m n a a ≡ a
unfolding if_eq
same_choice m n a = go (eqb m n)
  where
    go : (t : Bool) → pick t a a ≡ a
    go true = refl
    go false = refl

module _ (f : List ℕ) (o : Rules) (s : List ℕ) (size : ℕ) (all : List Placed) (p : Placed) (h : Held f o s size all p) (built : o.table ≡ []) (j : ℕ)
    (k : Origin s all j p) where
  has : Fields f o s all p
  has = fields f o s size all p h.shown

  -- its type is not 4, as it was not
  type_four : channel_type f (cn_of p) ≡ 4 → ⊥
  type_four q = go (type_cases (channel_type s p.column.channel))
    where
      go : ((channel_type s p.column.channel ≡ 5) × (type_due [] (channel_type s p.column.channel) ≡ 0))
          ⊎ ((channel_type s p.column.channel ≡ 5 → ⊥) × (type_due [] (channel_type s p.column.channel) ≡ channel_type s p.column.channel)) → ⊥
      go (inl e) = omega (arith, type_is f o s all p has built, e.1)
      go (inr e) = k.type (sym e.1 ∙ sym (type_is f o s all p has built) ∙ q)

  no_type : (r : ℕ) → 2 < r → omitted_type r [] f (cn_of p) ≡ 0
  unfolding omitted_type
  no_type r l = not_omitted r (channel_type f (cn_of p)) l type_four

  no_unfit : unfit f (cg_of p) (cn_of p) ≡ 0
  unfolding unfit
  no_unfit = rw (fits-again f o s all p has built h.ready.fit)

  no_further : p.column.is_time_lem ≡ false → further_master f (cn_of p) ≡ 0
  unfolding further_master
  no_further t = rw (master_again f o s all p has built, k.kind, t)

  no_composed : composed f (cn_of p) ≡ ok 0
  unfolding composed
  no_composed = sym (eq_yes _ _ _ _ has.composition refl)

  -- ---- its signal data

  -- no link to follow
  link-none : p.column.signal_of ≡ no_signal → signal_link [] f (cn_of p) ≡ 0
  unfolding signal_link
  link-none q =
      let l : link_at f (cn_of p) 5 ≡ 0 = h.led ∙ ap (λ (g : Signal). sd_link g p.sd) q in
      rw (l, same_choice, same_choice)

  -- or a link to its SD
  one_is : (t u : ℕ) → t ≡ 1 → (((t ≡ 5) × (u ≡ 0)) ⊎ ((t ≡ 5 → ⊥) × (u ≡ t))) → u ≡ 1
  one_is t u e (inl q) = absurd (omega (arith, q.0))
  one_is t u e (inr q) = q.1 ∙ e

  one_kept : (t : ℕ) → t ≡ 1 → treatment [] t ≡ 2 → ⊥
  unfolding built_in_for
  one_kept t e q =
      let z : ◌≡◌ {A = ℕ} 0 2 = eq_no _ _ _ _ (λ r. omega arith) (eq_no _ _ _ _ (λ r. omega arith) refl) ∙ sym (treatment-none t) ∙ q in
      omega arith

  link-some : (fs : List Fragment) → p.column.signal_of ≡ signal_data fs → signal_link [] f (cn_of p) ≡ p.sd
  unfolding signal_link
  link-some fs q =
      let l : link_at f (cn_of p) 5 ≡ p.sd = h.led ∙ ap (λ (g : Signal). sd_link g p.sd) q in
      let one : channel_type f (cn_of p) ≡ 1 =
      type_is f o s all p has built ∙ one_is (channel_type s p.column.channel) _ (k.signal fs q) (type_cases (channel_type s p.column.channel)) in
      sym (eq_yes _ _ _ _ one (eq_no _ _ _ _ (one_kept (channel_type f (cn_of p)) one) (sym l)))

  pub sd_stands : (fs : List Fragment) → p.column.signal_of ≡ signal_data fs → Stands f p.sd (block_of kind_sd (signal_bytes s (signal_data fs)))
  sd_stands fs q =
      h.sd _ (subst (λ (g : Signal). In (record { at = p.sd; bytes = block_of kind_sd (signal_bytes s (signal_data fs)) }) (sd_blocks s g p.sd)) (sym q) here)

  sd_small : (fs : List Fragment) → p.column.signal_of ≡ signal_data fs → 24 + length (signal_bytes s (signal_data fs)) < 256 ^ 8
  sd_small fs q =
      let e : length (signal_bytes s p.column.signal_of) ≡ length (signal_bytes s (signal_data fs)) = ap (λ (g : Signal). length (signal_bytes s g)) q in
      let l = h.sound.sd_ends in
      omega arith

  sd_above_lem : p.sd ≡ 0 → ⊥
  sd_above_lem q = let l = h.sound.sd_above in omega arith

  -- it leads to no CG
  stored-none : stored_at f 0 ≡ ok 0
  unfolding stored_at
  stored-none = sym (eq_yes _ _ _ _ refl refl)

  stored_some : (fs : List Fragment) → p.column.signal_of ≡ signal_data fs → stored_at f p.sd ≡ ok 0
  unfolding stored_at if_eq
  stored_some fs q =
      let st = sd_stands fs q in
      rw (ne_eqb p.sd 0 sd_above_lem, block_of_in kind_sd p.sd _ st, block_of_kind kind_sd p.sd _ st (lit< tt))

  chain-kept : (n : ℕ) (fs : List Fragment) → p.column.signal_of ≡ signal_data fs
      → Gives closer (λ (d : Decision). d ≡ kept (signal_again s (signal_data fs) p.sd)) (kept_signal (chain signal limits f n p.sd))
  chain-kept n fs q =
      let e = chain_signal p.sd (signal_bytes s (signal_data fs)) 0 (sd_stands fs q) (sd_small fs q) sd_above_lem (lit< tt) in
      go (chain_less signal f 0 n (omega arith) p.sd) e
    where
      go : {v w : Found} → FoundLess w v → w ≡ found (signal_due s (signal_data fs) p.sd)
          → Gives closer (λ (d : Decision). d ≡ kept (signal_again s (signal_data fs) p.sd)) (kept_signal v)
      go same e = rw e (gives refl)
      go (early i) e = stops i

  chain-nothing : (n : ℕ) → decide_chain f n 0 ≡ ok (kept no_signal)
  unfolding decide_chain
  chain-nothing n = sym (eq_yes _ _ _ _ refl refl)

  chain-followed : (n : ℕ) → decide_chain f n p.sd ≡ kept_signal (chain signal limits f n p.sd)
  unfolding decide_chain
  chain-followed n = sym (eq_no _ _ _ _ sd_above_lem refl)

  -- kept, with the SD
  pub signal_again_lem : (n : ℕ) (g : Signal) → p.column.signal_of ≡ g
      → (stored_at f (signal_link [] f (cn_of p)) ≡ ok 0)
      × Gives closer (λ (d : Decision). d ≡ kept (signal_again s g p.sd)) (decide_chain f n (signal_link [] f (cn_of p)))
  signal_again_lem n no_signal q = rw (link-none q) (stored-none, rw (chain-nothing n) (gives refl))
  signal_again_lem n (signal_data fs) q = rw (link-some fs q) (stored_some fs q, rw (chain-followed n) (chain-kept n fs q))

  -- ---- all tests
  pub decide-again : (photos : Bool) (n : ℕ) → p.column.is_time_lem ≡ false → photos_in photos f (cn_of p) ≡ fine
      → Gives closer (λ (d : Decision). d ≡ kept (signal_again s p.column.signal_of p.sd)) (decide photos [] f n (cg_of p) (cn_of p))
  unfolding decide
  decide-again photos n t fine' =
      let g = signal_again_lem n p.column.signal_of refl in
      rw (no_type 4 (lit< tt), no_type 8 (lit< tt), no_unfit, no_further t, no_composed, g.0, unless-none, unless-none, unless-none, unless-none, unless-none, unless-none, fine') g.1
