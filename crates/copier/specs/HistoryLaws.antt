-- The ways of the history chain.
use Prim.{tt}
use Rattle.std.specs.Prelude.{ℕ, zero, suc, ◌+◌, ◌*◌, ◌-◌, ◌≤◌, ◌<◌, ◌≡◌, refl, Bool, true, false, eqb, take, drop, set, Result, Ok, Err}
use mathlib.Core.List.{List, [], ◌∷◌, ◌++◌}
use Rattle.std.proofs.Common.{sym, ◌∙◌, subst, sub-one, add-one, eqb-true, length-drop, take-suc-set, length-take-le}
use Rattle.std.proofs.Math.Path.{ap}
use Rattle.std.proofs.Math.Option.{Option, none, some}
use native.Mathlib.Omega.{arith}
use Rattle.std.proofs.lemmas.Bool.{eqb-false}
use Rattle.blocks.specs.AnswerLaws.{refused≢ok}
use Rattle.base.specs.CheckedLaws.{ok_same}
use Rattle.std.proofs.Math.ListN.{length, length-set}
use Rattle.std.proofs.lemmas.List.{drop-set-add}
use Rattle.std.specs.List.{list_any}
use Rattle.photos.specs.FollowedLaws.{is_in-any}
use Rattle.base.specs.Choice.{pick, if_eq}
use Rattle.base.specs.ChoiceLaws.{eq_yes, eq_no}
use Rattle.base.specs.Checked.{Checked, ok, refused, and_then, Verdict}
use Rattle.base.specs.Blit.{part, blit}
use Rattle.base.specs.BlitLaws.{blit-append, blit-one}
use Rattle.mdf.specs.Block.{kind_at, links_at, link_at, first_link, whole_at}
use Rattle.mdf.specs.Chain.{is_in}
use Rattle.plan.specs.Copies.{copies, copy_of, copy_root, is_copied, History, history, history_from, history_of}
use Rattle.work_words.specs.CopyWords.{history_at}
use Rattle.copies_laws.specs.MemoLaws.{root_kept}
use Rattle.copier.specs.declared.memo.Copying.{Copying}
use Rattle.copier.specs.declared.memo.Chain.{Chain}
use Rattle.fields.specs.declared.refusal.Refusal.{Refusal}
use Rattle.fields.specs.Answer.{number_of, place_of}
use Rattle.copier.specs.Standing.{copies_from, copies_in, standing, Room, Past}
use Rattle.copier.specs.StandingLaws.{copies-set, past_more, past_then, past_same}
use Rattle.copier.specs.Got.{Copied, After, AfterGot}
use Rattle.copier.specs.TurnLaws.{copied_at, copied_refused, after_same, after_then, after-at}
use Rattle.copier.specs.History.{goes_on, on_goes, chain_in, Chained, ChainLaid, ChainCopied, start, FirstCopies, Begins}

-- ---- whether it goes on, one law for each way of the code
pub ends-none : (s : List ℕ) (a : ℕ) (chain : List ℕ) → a ≡ 0 → ok false ≡ goes_on s a chain
unfolding goes_on
ends-none s a chain z = eq_yes _ _ _ _ z refl

module _ (s : List ℕ) (a : ℕ) (chain : List ℕ) (link : a ≡ 0 → ⊥) where
  pub ends_met : is_in a chain ≡ true → ok false ≡ goes_on s a chain
  unfolding goes_on
  ends_met i = eq_no _ _ _ _ link (rw i)

  module _ (i : is_in a chain ≡ false) where
    pub goes_refused : {n p : ℕ} → whole_at s a ≡ refused n p → refused n p ≡ goes_on s a chain
    unfolding goes_on
    goes_refused v = eq_no _ _ _ _ link (rw (i, v))

    module _ (v : whole_at s a ≡ ok tt) where
      pub ends-other : is_copied (kind_at s a) ≡ false → ok false ≡ goes_on s a chain
      unfolding goes_on
      ends-other k = eq_no _ _ _ _ link (rw (i, v, k))

      pub goes_unlinked : is_copied (kind_at s a) ≡ true → links_at s a ≡ 0 → refused 17 a ≡ goes_on s a chain
      unfolding goes_on
      goes_unlinked k l = eq_no _ _ _ _ link (rw (i, v, k) (eq_yes _ _ _ _ l refl))

      pub goes_on_lem : is_copied (kind_at s a) ≡ true → (links_at s a ≡ 0 → ⊥) → ok true ≡ goes_on s a chain
      unfolding goes_on
      goes_on_lem k l = eq_no _ _ _ _ link (rw (i, v, k) (eq_no _ _ _ _ l refl))

-- in the chain or not, by std's search of the words
pub in_chain : (w : List ℕ) (k a : ℕ) → list_any (λ y. eqb y a) (take (4352 + k - 4352) (drop 4352 w)) ≡ is_in a (chain_in w k)
unfolding part
in_chain w k a = let e : 4352 + k - 4352 ≡ k = omega arith in rw e (is_in-any a (take k (drop 4352 w)))

-- ---- the next block: whether the chain goes on, then its copy, then the rest
history_more : ℕ → ℕ → List ℕ → ℕ → History → Checked History
history_more most turns s a h =
    and_then (copy_root most s a h.made) (λ m. history_from most turns s (first_link s a) (history (h.chain ++ (a ∷ [])) m))

history_open : (most turns : ℕ) (s : List ℕ) (a : ℕ) (h : History) → 0 < turns
    → history_from most turns s a h ≡ on_goes (goes_on s a h.chain) h (history_more most (turns - 1) s a h)
unfolding history_from goes_on if_eq history_more
history_open most zero s a h p = absurd (omega arith)
history_open most (suc turns) s a h p =
    rw sub-one (go (eqb a 0) (is_in a h.chain) (whole_at s a) (is_copied (kind_at s a)) (eqb (links_at s a) 0))
  where
    go : (e i : Bool) (v : Verdict) (k l : Bool)
        → pick e (ok h) (pick i (ok h) (and_then v (λ _. pick k (pick l (refused 17 a) (history_more most turns s a h)) (ok h))))
        ≡ on_goes (pick e (ok false) (pick i (ok false) (and_then v (λ _. pick k (pick l (refused 17 a) (ok true)) (ok false))))) h (history_more most turns s a h)
    go true i v k l = refl
    go false true v k l = refl
    go false false (refused n p) k l = refl
    go false false (ok u) false l = refl
    go false false (ok u) true true = refl
    go false false (ok u) true false = refl

-- ---- each block of the chain is copied
false≢true : ◌≡◌ {A = Bool} false true → ⊥
false≢true e = let z : ◌≡◌ {A = ℕ} 0 1 = cc in omega arith

some≢none : {t : ℕ} → ◌≡◌ {A = Option ℕ} (some t) none → ⊥
some≢none e = let z : ◌≡◌ {A = ℕ} 0 1 = cc in omega arith

-- what isn't copied is no block of the chain
pub unmet : (w : List ℕ) (count used a : ℕ) → ChainCopied w count used → copy_of a (copies_in w used) ≡ none → false ≡ is_in a (chain_in w count)
unmet w count used a c e = go (is_in a (chain_in w count)) refl
  where
    go : (b : Bool) → is_in a (chain_in w count) ≡ b → false ≡ b
    go false q = refl
    go true q = let f = c.each a q in absurd (some≢none (sym f.1 ∙ e))

pub copied_begin : (w : List ℕ) (used : ℕ) → ChainCopied w 0 used
unfolding part is_in
copied_begin w used = record { each = λ a e. absurd (false≢true e) }

in_snoc : {P : Type 0} (a b : ℕ) (l : List ℕ) → is_in a (l ++ (b ∷ [])) ≡ true → (is_in a l ≡ true → P) → (b ≡ a → P) → P
unfolding is_in
in_snoc {P} a b [] e f g = go (eqb b a) refl e
  where
    go : (t : Bool) → eqb b a ≡ t → pick t true false ≡ true → P
    go true q h = g (eqb-true b a q)
    go false q h = absurd (false≢true h)
in_snoc {P} a b (x ∷ l) e f g = go (eqb x a) e f (λ h k. in_snoc a b l h k g)
  where
    go : (t : Bool) → pick t true (is_in a (l ++ (b ∷ []))) ≡ true → (pick t true (is_in a l) ≡ true → P)
        → (is_in a (l ++ (b ∷ [])) ≡ true → (is_in a l ≡ true → P) → P) → P
    go true h f rest = f refl
    go false h f rest = rest h f

-- where the chain goes on there is a block of a copied kind
going : (s : List ℕ) (a : ℕ) (chain : List ℕ) → goes_on s a chain ≡ ok true → (a ≡ 0 → ⊥) × (is_copied (kind_at s a) ≡ true)
unfolding goes_on if_eq
going s a chain e = go (eqb a 0) (is_in a chain) (whole_at s a) (is_copied (kind_at s a)) (eqb (links_at s a) 0) refl refl e
  where
    go : (z i : Bool) (v : Verdict) (k l : Bool) → eqb a 0 ≡ z → is_copied (kind_at s a) ≡ k
        → pick z (ok false) (pick i (ok false) (and_then v (λ _. pick k (pick l (refused 17 a) (ok true)) (ok false)))) ≡ ok true
        → (a ≡ 0 → ⊥) × (is_copied (kind_at s a) ≡ true)
    go true i v k l x y e = absurd (false≢true (ok_same e))
    go false true v k l x y e = absurd (false≢true (ok_same e))
    go false false (refused n p) k l x y e = absurd (refused≢ok e)
    go false false (ok u) false l x y e = absurd (false≢true (ok_same e))
    go false false (ok u) true true x y e = absurd (refused≢ok e)
    go false false (ok u) true false x y e = (eqb-false a 0 x, y)

-- ---- words
pub part-past : {n : ℕ} {w w' : List ℕ} (i k : ℕ) → Past n w w' → n ≤ i → part i k w' ≡ part i k w
unfolding part
part-past i k p h = ap (take k) (past_more i h p).kept

pub length_part : (i k : ℕ) (w : List ℕ) → i + k ≤ length w → length (part i k w) ≡ k
unfolding part
length_part i k w h = length-take-le k (drop i w) (simp length-drop (omega arith))

pub part_snoc : (i k x : ℕ) (w : List ℕ) → i + k < length w → part i (k + 1) (set w (i + k) x) ≡ part i k w ++ (x ∷ [])
unfolding part
part_snoc i k x w h =
    let l : k < length (drop i w) = simp length-drop (omega arith) in
    rw (add-one, drop-set-add i w k x) (take-suc-set (drop i w) k x l)

pub past-both : {n : ℕ} {x y : List ℕ} (j b : ℕ) → n ≤ j → Past n x y → Past n (set x j b) (set y j b)
past-both {n} {x} {y} j b h p =
    let e : j ≡ n + (j - n) = omega arith in
    record { kept = rw (e, drop-set-add n y (j - n) b, drop-set-add n x (j - n) b, p.kept) }

pub past-blit : {n : ℕ} (bs : List ℕ) {x y : List ℕ} (j : ℕ) → n ≤ j → Past n x y → Past n (blit j bs x) (blit j bs y)
unfolding blit
past-blit [] j h p = p
past-blit (b ∷ bs) j h p = past-blit bs (suc j) (omega arith) (past-both j b h p)

pub past_snoc : {n : ℕ} {y : List ℕ} (i : ℕ) (bs x : List ℕ) (k b : ℕ) → length bs ≡ k → n ≤ i → Past n (blit i bs x) y
    → Past n (blit i (bs ++ (b ∷ [])) x) (set y (i + k) b)
past_snoc i bs x k b l h p =
    rw (blit-append bs i (b ∷ []) x, l, blit-one (i + k) b (blit i bs x)) (past-both (i + k) b (omega arith) p)

-- ---- the walk along the chain
pub record Walked (most : ℕ) (s w₀ : List ℕ) (a : ℕ) (st₀ : Copying) (w : List ℕ) (at count : ℕ) (st : Copying) : Type 0 where
  pub same : length w ≡ length w₀
  pub words : 8192 ≤ length w
  pub within : count ≤ most + 1
  pub limit : most ≤ 2050
  pub after : After 0 st₀ st
  pub past : Past (2 * st.used) (blit history_at (chain_in w count) w₀) w
  pub rest : history_from most (most + 1 - count) s at (history (chain_in w count) (standing w st)) ≡ history_of most s a (standing w₀ st₀)

pub walk_begin : (most : ℕ) (s w : List ℕ) (a : ℕ) (st : Copying) → 8192 ≤ length w → most ≤ 2050 → Room st.used st.next
    → Walked most s w a st w a 0 st
unfolding history_of part blit
walk_begin most s w a st h l r =
    record { same = refl; words = h; within = omega arith; limit = l; after = after_same st r; past = past_same _ w; rest = let z : most + 1 - 0 ≡ most + 1 = omega arith in rw z }

module _ {most : ℕ} {s w₀ : List ℕ} {a : ℕ} {st₀ : Copying} {w : List ℕ} {at count : ℕ} {st : Copying}
    (u : Walked most s w₀ a st₀ w at count st) where
  laid-here : ChainLaid count w₀ w st₀ st
  laid-here = record { few = omega arith; after = u.after; past = u.past }

  pub walk-out : most + 1 ≤ count → Chained w₀ w st₀ (Ok (record { count = count; state = st })) (history_of most s a (standing w₀ st₀))
  unfolding history_from
  walk-out e = let z : most + 1 - count ≡ 0 = omega arith in record { is = rw z at u.rest; laid = laid-here }

  module _ (h : count < most + 1) where
    opened : {v : Checked Bool} → goes_on s at (chain_in w count) ≡ v
        → on_goes v (history (chain_in w count) (standing w st)) (history_more most (most + 1 - count - 1) s at (history (chain_in w count) (standing w st)))
        ≡ history_of most s a (standing w₀ st₀)
    opened e =
        ap (λ (v : Checked Bool). on_goes v (history (chain_in w count) (standing w st)) (history_more most (most + 1 - count - 1) s at (history (chain_in w count) (standing w st)))) (sym e)
        ∙ sym (history_open most (most + 1 - count) s at (history (chain_in w count) (standing w st)) (omega arith)) ∙ u.rest

    pub walk_ends : goes_on s at (chain_in w count) ≡ ok false → Chained w₀ w st₀ (Ok (record { count = count; state = st })) (history_of most s a (standing w₀ st₀))
    walk_ends e = record { is = opened e; laid = laid-here }

    pub walk_refused : {x : Refusal} → goes_on s at (chain_in w count) ≡ refused (number_of x) (place_of x) → Chained w₀ w st₀ (Err x) (history_of most s a (standing w₀ st₀))
    walk_refused e = record { is = opened e; laid = tt }

    module _ (e : goes_on s at (chain_in w count) ≡ ok true) {w' : List ℕ} {g : Result Copying Refusal} (c : Copied w w' g (copy_root most s at (standing w st))) where
      pub walk_stopped : {x : Refusal} → g ≡ Err x → Chained w₀ w' st₀ (Err x) (history_of most s a (standing w₀ st₀))
      unfolding history_more
      walk_stopped q = record { is = rw (sym (copied_refused c q)) at (opened e); laid = tt }

      pub walk-next : {t : Copying} {b : ℕ} → AfterGot g st → g ≡ Ok t → length w' ≡ length w → b ≡ first_link s at
          → Walked most s w₀ a st₀ (set w' (4352 + count) at) b (count + 1) t
      unfolding history_more
      walk-next {t} {b} f q l z =
          let k = after-at f q in
          let d = copied_at c q in
          let i : 4352 + count < length w' = omega arith in
          let chain : chain_in w' count ≡ chain_in w count = part-past history_at count d.1 (omega arith) in
          let turns : most + 1 - (count + 1) ≡ most + 1 - count - 1 = omega arith in
          let more : chain_in (set w' (4352 + count) at) (count + 1) ≡ chain_in w count ++ (at ∷ []) = part_snoc 4352 count at w' i ∙ ap (λ (x : List ℕ). x ++ (at ∷ [])) chain in
          let kept : copies_in (set w' (4352 + count) at) t.used ≡ copies_in w' t.used = copies-set w' 0 t.used (4352 + count) at (omega arith) in
          record {
            same = length-set w' (4352 + count) at ∙ l ∙ u.same;
            words = simp length-set (omega arith);
            within = omega arith;
            limit = u.limit;
            after = after_then u.after k;
            past = rw more (past_snoc history_at (chain_in w count) w₀ count at (length_part 4352 count w (omega arith)) (omega arith)
                (past_then (past_more _ (omega arith) u.past) d.1));
            rest = rw (more, kept, z, turns) (rw (sym d.0) at (opened e));
          }

-- a block more
pub copied_next : {most : ℕ} {s w₀ : List ℕ} {a : ℕ} {st₀ : Copying} {w : List ℕ} {at count : ℕ} {st : Copying} → Walked most s w₀ a st₀ w at count st → count < most + 1
    → ChainCopied w count st.used → goes_on s at (chain_in w count) ≡ ok true → {w' : List ℕ} {t : Copying} {g : Result Copying Refusal} → Copied w w' g (copy_root most s at (standing w st))
    → AfterGot g st → g ≡ Ok t → length w' ≡ length w → ChainCopied (set w' (4352 + count) at) (count + 1) t.used
copied_next {most} {s} {w₀} {a} {st₀} {w} {at} {count} {st} v h u e {w'} {t} c f q l =
    let n = after-at f q in
    let i : 4352 + count < length w' = omega (arith, v.limit, v.words) in
    let d = copied_at c q in
    let k = root_kept most s at (standing w st) (standing w' t) (sym d.0) in
    let o = going s at (chain_in w count) e in
    let own = k.1 o.0 o.1 in
    let chain : chain_in w' count ≡ chain_in w count = part-past history_at count d.1 (omega (arith, n.most)) in
    let more : chain_in (set w' (4352 + count) at) (count + 1) ≡ chain_in w count ++ (at ∷ []) = part_snoc 4352 count at w' i ∙ ap (λ (x : List ℕ). x ++ (at ∷ [])) chain in
    let kept : copies_in (set w' (4352 + count) at) t.used ≡ copies_in w' t.used = copies-set w' 0 t.used (4352 + count) at (omega (arith, n.most)) in
    record {
      each = λ b z. rw kept (in_snoc b at (chain_in w count) (rw more at z)
          (λ j. let x = u.each b j in (x.0, k.0.found b x.0 x.1))
          (λ j. rw (← j) own));
    }

-- ---- the HD comment, then the history chain
start-standing : (m : List ℕ) → standing m start ≡ copies [] 168
unfolding copies_from
start-standing m = refl

module _ (most : ℕ) (s m : List ℕ) {a : ℕ} (i : a ≡ link_at s 64 5) {m₁ : List ℕ} {g : Result Copying Refusal} (c : Copied m m₁ g (copy_root most s a (standing m start))) where
  comment_is_lem : copy_root most s a (standing m start) ≡ copy_root most s (link_at s 64 5) (copies [] 168)
  comment_is_lem = rw (i, start-standing m)

  pub first_refused : {x : Refusal} → g ≡ Err x
      → and_then (copy_root most s (link_at s 64 5) (copies [] 168)) (λ x. history_of most s (link_at s 64 1) x) ≡ refused (number_of x) (place_of x)
  first_refused e = rw (← comment_is_lem, ← copied_refused c e)

  module _ {t : Copying} (e : g ≡ Ok t) (f : AfterGot g start) {b : ℕ} (j : b ≡ link_at s 64 1) where
    pub first-chain : {m' : List ℕ} (r : Result Chain Refusal) → Chained m₁ m' t r (history_of most s b (standing m₁ t)) → Begins most s m m' r
    first-chain {m'} (Ok u) h =
        let d = copied_at c e in
        let l = h.laid in
        let k = after-at f e in
        record {
          comment = standing m₁ t;
          is_comment = sym (d.0 ∙ comment_is_lem);
          is_past_lem = rw (← j) (sym h.is);
          few = l.few;
          after = after_then k l.after;
          past = past_then (past_more _ (omega (arith, l.after.more)) (past-blit (chain_in m' u.count) 4352 (omega (arith, k.most)) d.1)) l.past;
        }
    first-chain {m'} (Err x) h = rw (← comment_is_lem, ← d.0, ← j) (sym h.is)
      where
        d : (ok (standing m₁ t) ≡ copy_root most s a (standing m start)) × Past (2 * t.used) m m₁
        d = copied_at c e

pub begins-at : (most : ℕ) (s m m' : List ℕ) (g : Result Chain Refusal) {k : Chain} → Begins most s m m' g → g ≡ Ok k → FirstCopies most k.count s m m' k.state
begins-at most s m m' g h e = subst (Begins most s m m') e h
