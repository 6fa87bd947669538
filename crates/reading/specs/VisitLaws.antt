-- The cases of a block that is met, one law for each way of the code.
use Rattle.std.specs.Prelude.{ℕ, ◌+◌, ◌≤◌, ◌<◌, List, Bool, true, false, ◌≡◌, refl, take, set}
use Rattle.std.proofs.Common.{sym, ◌∙◌}
use Rattle.base.specs.Choice.{pick, if_lt}
use Rattle.base.specs.ChoiceLaws.{lt_yes, lt_no, lt_first}
use Rattle.base.specs.Checked.{ok, refused, and_then, Verdict}
use Rattle.std.specs.Prelude.{Result, Ok, Err, ⊤}
use Rattle.fields.specs.declared.refusal.Refusal.{Refusal}
use Rattle.fields.specs.Answer.{verdict_of}
use Rattle.mdf.specs.Block.{Wanted, CG, CN, link_at, block_at}
use Rattle.mdf.specs.Name.{name_at}
use Rattle.mdf.specs.Chain.{is_in}
use Rattle.mdf.specs.Walk.{most_items}
use Rattle.index.specs.Index.{Indexed}
use Rattle.work_words.specs.Words.{marks_at, groups_at}
use Rattle.reading.specs.Steps.{refused_as, after, indexed_after, visited, met_cg, met_cn}
use Rattle.reading.specs.CheckedLaws.{refused≢ok}

pub index_fine : (v : Result ⊤ Refusal) (w : List ℕ) (n : ℕ) (x : List ℕ) → indexed_after v w n x → {u : ⊤} → v ≡ Ok u → Indexed 1 w (n + 1) x
index_fine v w n x t q = rw q at t

-- what was taken was within the limit
pub visited-room : (k : Wanted) (s w : List ℕ) (n m y a : ℕ) {w' : List ℕ} → visited k s w n m y a ≡ ok w' → m < most_items
unfolding visited
visited-room k s w n m y a {w'} e = among (is_in a (take n w)) e
  where
    block : (o : Verdict) → and_then o (λ _. if_lt m most_items (ok (set (set w n a) (marks_at + n) y)) (refused 19 a)) ≡ ok w' → m < most_items
    block (ok u) f = (lt_first _ _ _ _ f refused≢ok).0
    block (refused z p) f = absurd (refused≢ok f)

    among : (t : Bool) → pick t (refused 11 a) (and_then (block_at k s a) (λ _. if_lt m most_items (ok (set (set w n a) (marks_at + n) y)) (refused 19 a))) ≡ ok w' → m < most_items
    among true f = absurd (refused≢ok f)
    among false f = block (block_at k s a) f

module _ (k : Wanted) (s w : List ℕ) (n m mark a : ℕ) {t : Bool} (e : t ≡ is_in a (take n w)) where
  pub visit_met : t ≡ true → refused 11 a ≡ visited k s w n m mark a
  unfolding visited
  visit_met q = rw (← e, q)

  module _ {o : Result ⊤ Refusal} (f : verdict_of o ≡ block_at k s a) (q : t ≡ false) where
    pub visit_refused : {y : Refusal} → o ≡ Err y → refused_as y ≡ visited k s w n m mark a
    unfolding visited
    visit_refused g = rw (← e, q, ← f, g)

    pub visit-taken : {u : ⊤} → o ≡ Ok u → m < most_items → ok (set (set w n a) (marks_at + n) mark) ≡ visited k s w n m mark a
    unfolding visited
    visit-taken g l = rw (← e, q, ← f, g) (lt_yes _ _ _ _ l refl)

    pub visit_full : {u : ⊤} → o ≡ Ok u → most_items ≤ m → refused 19 a ≡ visited k s w n m mark a
    unfolding visited
    visit_full g l = rw (← e, q, ← f, g) (lt_no _ _ _ _ l refl)

-- a CG: v is what the visit gave, o what its name gave
module _ (s w w' : List ℕ) (n m a : ℕ) {v : Result ⊤ Refusal} (e : after v w' ≡ visited CG s w n m 1 a) where
  pub cg_refused : {y : Refusal} → v ≡ Err y → refused_as y ≡ met_cg s w n m a
  unfolding met_cg
  cg_refused q = rw (← e, q)

  pub cg-room : {u : ⊤} → v ≡ Ok u → m < most_items
  cg-room q = visited-room CG s w n m 1 a {w' = w'} (sym e ∙ rw q)

  module _ {u : ⊤} (q : v ≡ Ok u) {x : ℕ} (l : x ≡ link_at s a 2) {o : Result ⊤ Refusal} (f : verdict_of o ≡ name_at s x) where
    pub cg_unnamed : {y : Refusal} → o ≡ Err y → refused_as y ≡ met_cg s w n m a
    unfolding met_cg
    cg_unnamed g = rw (← e, q, ← l, ← f, g)

    pub cg-named : {u : ⊤} → o ≡ Ok u → ok (set w' (groups_at + m) a) ≡ met_cg s w n m a
    unfolding met_cg
    cg-named g = rw (← e, q, ← l, ← f, g)

-- a CN
module _ (s w w' : List ℕ) (n m a : ℕ) {v : Result ⊤ Refusal} (e : after v w' ≡ visited CN s w n m 0 a) where
  pub cn_refused : {y : Refusal} → v ≡ Err y → refused_as y ≡ met_cn s w n m a
  unfolding met_cn
  cn_refused q = rw (← e, q)

  module _ {u : ⊤} (q : v ≡ Ok u) {x : ℕ} (l : x ≡ link_at s a 2) (o : Result ⊤ Refusal) (f : verdict_of o ≡ name_at s x) where
    pub cn_called : after o w' ≡ met_cn s w n m a
    unfolding met_cn
    cn_called = rw (← e, q, ← l, ← f) (go o)
      where
        go : (o : Result ⊤ Refusal) → after o w' ≡ and_then (verdict_of o) (λ _. ok w')
        go (Ok z) = refl
        go (Err y) = refl

-- whatever its name gives, it is in the index
pub cn-indexed : (v o : Result ⊤ Refusal) (w : List ℕ) (n : ℕ) (x : List ℕ) → indexed_after v w n x → {u : ⊤} → v ≡ Ok u → indexed_after o w n x
cn-indexed v (Ok y) w n x t q = index_fine v w n x t q
cn-indexed v (Err y) w n x t q = tt
