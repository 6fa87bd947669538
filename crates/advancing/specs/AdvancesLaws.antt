-- Laws of so many steps in one call.
use Rattle.std.specs.Prelude.{ℕ, zero, suc, ◌+◌, ◌*◌, ◌-◌, ◌≤◌, ◌<◌, min, List, ◌⊎◌, ◌≡◌, refl, length}
use Rattle.std.proofs.Common.{inl, inr, ⊎_elim, sym, subst, ◌∙◌, sub-one, arith}
use Rattle.std.proofs.Math.Path.{ap}
use Rattle.result.specs.Result.{Args, decided}
use Rattle.stores.specs.Cases.{lt_or_le}
use Rattle.stores.specs.Stores.{Running}
use Rattle.passes.specs.Passes.{advanced}
use Rattle.writing.specs.Answer.{file_for}
use Rattle.steps.specs.declared.conversion.Conversion.{Conversion}
use Rattle.steps.specs.Conversion.{call_of, at_next}
use Rattle.steps.specs.Steps.{list_for, Holds, running_of, stepped, Steps, OneStore, Lent, lent, all_cleared, Bounded}
use Rattle.steps.specs.StepsLaws.{step_further, holds-moved, no_store}
use Rattle.advancing.specs.Advances.{advanced_from, Advances, ManyStores, Unchanged, BoundedBy}

-- ---- stores

pub no_stores : (n : ℕ) (file : List ℕ) → ManyStores n file file
unfolding ManyStores
no_stores zero file = refl
no_stores (suc n) file = record { between = file; store = no_store file; after = no_stores n file }

pub one_more : (n : ℕ) (old between new : List ℕ) → 0 < n → OneStore old between → ManyStores (n - 1) between new → ManyStores n old new
unfolding ManyStores
one_more zero old between new h s t = absurd (omega (arith, h))
one_more (suc n) old between new h s t = record { between = between; store = s; after = simp sub-one at t }

-- at most m are at most n
pub more_stores : (m n : ℕ) (old new : List ℕ) → m ≤ n → ManyStores m old new → ManyStores n old new
unfolding ManyStores
more_stores zero n old new h t = rw t (no_stores n old)
more_stores (suc m) zero old new h t = absurd (omega (arith, h))
more_stores (suc m) (suc n) old new h t =
    record { between = t.between; store = t.store; after = more_stores m n t.between new (omega (arith, h)) t.after }

-- ---- lengths

-- all as long as before
pub record Long (file file' list list' : List ℕ) (l l' : Lent) : Type 0 where
  pub whole : length file' ≡ length file
  pub listed : length list' ≡ length list
  pub source : length l'.source ≡ length l.source
  pub fragments : length l'.fragments ≡ length l.fragments
  pub columns : length l'.columns ≡ length l.columns
  pub copies : length l'.copies ≡ length l.copies
  pub stretches : length l'.stretches ≡ length l.stretches
  pub offsets : length l'.offsets ≡ length l.offsets

pub long_turn : {file file' file'' list list' list'' : List ℕ} {l l' l'' : Lent} → Long file file' list list' l l' → Long file' file'' list' list'' l' l''
    → Long file file'' list list'' l l''
long_turn a b = record {
  whole = b.whole ∙ a.whole;
  listed = b.listed ∙ a.listed;
  source = b.source ∙ a.source;
  fragments = b.fragments ∙ a.fragments;
  columns = b.columns ∙ a.columns;
  copies = b.copies ∙ a.copies;
  stretches = b.stretches ∙ a.stretches;
  offsets = b.offsets ∙ a.offsets;
}

-- ---- of any state

-- rest stores are left of n: what is changed so far; those that are left, made over what stands, are at most n in all
pub record Going (k : Conversion) (n : ℕ) (r : Conversion) (rest : ℕ) (file file' list list' : List ℕ) (l l' : Lent) : Type 0 where
  pub state : r ≡ at_next k r.next
  pub count : r.next + rest ≡ k.next + n
  pub few : rest ≤ n
  pub fits : n ≤ k.steps - k.next
  pub long : Long file file' list list' l l'
  pub none : r.next ≡ k.next → (file' ≡ file) × (list' ≡ list) × (l' ≡ l)
  pub many : (new : List ℕ) → ManyStores rest file' new → ManyStores n file new
  pub before : r.next < k.steps → (list' ≡ list) × (l' ≡ lent l.source l.fragments l.columns l.copies l'.stretches l'.offsets)
  pub last : k.next < k.steps → k.steps ≤ r.next → l' ≡ all_cleared l

pub going_begin : (k : Conversion) (n : ℕ) (file list : List ℕ) (l : Lent) → n ≤ k.steps - k.next → Going k n k n file file list list l l
going_begin k n file list l h = record {
  state = refl;
  count = refl;
  few = omega arith;
  fits = h;
  long = record { whole = refl; listed = refl; source = refl; fragments = refl; columns = refl; copies = refl; stretches = refl; offsets = refl };
  none = λ e. (refl, refl, refl);
  many = λ new t. t;
  before = λ g. (refl, refl);
  last = λ g i. absurd (omega (arith, g, i));
}

module _ {k : Conversion} {n : ℕ} {r : Conversion} {rest : ℕ} {file file' list list' : List ℕ} {l l' : Lent}
    (g : Going k n r rest file file' list list' l l') where
  pub going_steps : r.steps ≡ k.steps
  going_steps = ap (λ (z : Conversion). z.steps) g.state

  pub going_left : 0 < rest → r.next < r.steps
  going_left h = omega (arith, h, g.count, g.few, g.fits, going_steps)

  next-state : (r' : Conversion) → r' ≡ at_next r (r.next + 1) → (r' ≡ at_next k r'.next) × (r'.next ≡ r.next + 1)
  next-state r' e =
      let i : r' ≡ at_next k (r.next + 1) = e ∙ ap (λ (z : Conversion). at_next z (r.next + 1)) g.state in
      let j : r'.next ≡ r.next + 1 = ap (λ (z : Conversion). z.next) i in
      (i ∙ ap (at_next k) (sym j), j)

  pub going_turn : {r' : Conversion} {file'' list'' : List ℕ} {l'' : Lent} → 0 < rest → Bounded r r' file' file'' list' list'' l' l'' → Long file' file'' list' list'' l' l''
      → Going k n r' (rest - 1) file file'' list list'' l l''
  going_turn {r'} {file''} {list''} {l''} h b t =
      let lt = going_left h in
      let s = next-state r' (b.onward lt) in
      let st = going_steps in
      record {
        state = s.0;
        count = omega (arith, s.1, g.count, h);
        few = omega (arith, g.few);
        fits = g.fits;
        long = long_turn g.long t;
        none = λ e. absurd (omega (arith, e, s.1, g.count, g.few, h));
        many = λ new u. g.many new (one_more rest file' file'' new h b.store u);
        before = λ c.
            let o = b.before (omega (arith, c, s.1, st)) in
            let p = g.before (omega (arith, lt, st)) in
            (o.0 ∙ p.0, o.1 ∙ ap (λ (z : Lent). lent z.source z.fragments z.columns z.copies l''.stretches l''.offsets) p.1);
        last = λ c d. b.last (omega (arith, d, s.1, lt, st)) ∙ ap all_cleared (g.before (omega (arith, lt, st))).1 ∙ rw (g.long.stretches, g.long.offsets);
      }

  still : r.next ≡ k.next → Unchanged k r file file' list list' l l'
  still e = let s = g.none e in (g.state ∙ ap (at_next k) e, s.0, s.1, s.2)

  pub going_end : (stores : ℕ) → n ≡ min stores (k.steps - k.next) → rest ≤ 0 → BoundedBy stores k r file file' list list' l l'
  going_end stores e z = record {
    further = λ h. still (omega (arith, h, e, z, g.count));
    none = λ h. still (omega (arith, h, e, z, g.count));
    onward = λ h. let i : r.next ≡ min (k.next + stores) k.steps = omega (arith, h, e, z, g.count) in g.state ∙ ap (at_next k) i;
    many = subst (λ (j : ℕ). ManyStores j file file') e (g.many file' (no_stores rest file'));
    before = λ h. g.before (omega (arith, h, e, z, g.count));
    last = λ h i. g.last h (omega (arith, h, i, e, z, g.count));
  }

-- ---- by the definition

-- what is left of the steps, from what stands, is all of them from the beginning; until the last store the plan stands
pub record Advancing (x : Args) (k : Conversion) (stores : ℕ) (file list : List ℕ) (todo : ℕ) (r : Conversion) (v f w m p q file' list' : List ℕ) : Type 0 where
  pub high : ℕ → ℕ
  pub runs : (h : ℕ) → advanced_from x r todo file' list' (high h) ≡ advanced_from x k stores file list h
  pub holds : r.next < r.steps → Holds x r v f w m p q

-- so many steps, where none is asked for or none is left
stays : {x : Args} {r : Conversion} {v f w m p q : List ℕ} → Holds x r v f w m p q → (file list : List ℕ) (n high : ℕ) → (n ≡ 0) ⊎ (r.steps ≤ r.next)
    → running_of r file list (advanced_from x r n file list high).high ≡ advanced_from x r n file list high
unfolding advanced
stays h file list zero high c = refl
stays {x} {r} h file list (suc n) high c =
    let e = ⊎_elim (λ z. absurd (omega (arith, z))) (λ g. g) c in
    subst (λ (z : Running). running_of r file list (advanced (file_for x (decided x)) (list_for (decided x)) n z).high ≡ advanced (file_for x (decided x)) (list_for (decided x)) n z)
    (step_further h file list e high)
    (stays h file list n (stepped x r file list high).high (inr e))

pub advancing_begin : (x : Args) (k : Conversion) (stores todo : ℕ) (file list : List ℕ) {v f w m p q : List ℕ} → todo ≡ stores → Holds x k v f w m p q
    → Advancing x k stores file list todo k v f w m p q file list
advancing_begin x k stores todo file list e h = record { high = λ j. j; runs = λ j. rw e refl; holds = λ _. h }

module _ {x : Args} {k : Conversion} {stores : ℕ} {file list : List ℕ} {todo : ℕ} {r : Conversion} {v f w m p q file' list' : List ℕ}
    (a : Advancing x k stores file list todo r v f w m p q file' list') where
  pub advancing_turn : (todo' : ℕ) {r' : Conversion} {v' f' w' m' p' q' file'' list'' : List ℕ} → todo ≡ suc todo' → r' ≡ at_next r (r.next + 1)
      → Steps x r file' list' r' v' f' w' m' p' q' file'' list'' → Advancing x k stores file list todo' r' v' f' w' m' p' q' file'' list''
  unfolding advanced
  advancing_turn todo' {r'} e i s =
      let n : r'.next ≡ r.next + 1 = ap (λ (z : Conversion). z.next) i in
      let st : r'.steps ≡ r.steps = ap (λ (z : Conversion). z.steps) i in
      record {
        high = λ y. (stepped x r file' list' (a.high y)).high;
        runs = λ y.
            ap (advanced (file_for x (decided x)) (list_for (decided x)) todo') (s.runs (a.high y))
            ∙ ap (λ (j : ℕ). advanced_from x r j file' list' (a.high y)) (sym e)
            ∙ a.runs y;
        holds = λ c. s.holds (omega (arith, c, n, st));
      }

  -- where none is asked for any more or none is left; the plan that began tells how many there are
  pub advancing_end : {v' f' w' m' p' q' : List ℕ} → Holds x r v' f' w' m' p' q' → (todo ≡ 0) ⊎ (r.steps ≤ r.next) → (k.next + stores < k.steps → r.next < r.steps)
      → Advances x k stores file list r v f w m p q file' list'
  advancing_end h c i = record {
    runs = λ y. subst (λ (z : Running). running_of r file' list' z.high ≡ z) (a.runs y) (stays h file' list' todo (a.high y) c);
    holds = λ g. a.holds (i g);
  }

-- ---- both

module _ (image ident text table : List ℕ) {k : Conversion} {n : ℕ} {r : Conversion} {rest : ℕ} {file file' list list' : List ℕ} {l l' : Lent}
    (g : Going k n r rest file file' list list' l l') where
  abbrev call : Args
  call = call_of k image ident text table

  same-call : call_of r image ident text table ≡ call
  same-call = ap (λ (z : Conversion). call_of z image ident text table) g.state

  same_size : r.file_size ≡ k.file_size
  same_size = ap (λ (z : Conversion). z.file_size) g.state

  same_omissions : r.omissions ≡ k.omissions
  same_omissions = ap (λ (z : Conversion). z.omissions) g.state

  pub right_turn : (stores : ℕ) {r' : Conversion} {v f w m p q v' f' w' m' p' q' file'' list'' : List ℕ} {l'' : Lent} → 0 < rest
      → Bounded r r' file' file'' list' list'' l' l''
      → (Holds (call_of r image ident text table) r v f w m p q → r.file_size ≤ length file' → 2 * r.omissions + 1 ≤ length list'
      → Steps (call_of r image ident text table) r file' list' r' v' f' w' m' p' q' file'' list'')
      → Advancing call k stores file list (rest + (stores - n)) r v f w m p q file' list' → k.file_size ≤ length file → 2 * k.omissions + 1 ≤ length list
      → Advancing call k stores file list (rest - 1 + (stores - n)) r' v' f' w' m' p' q' file'' list''
  right_turn stores {r'} {v} {f} {w} {m} {p} {q} {v'} {f'} {w'} {m'} {p'} {q'} {file''} {list''} h b s a y z =
      let lt = going_left g h in
      let t = subst
      (λ (x : Args). Holds x r v f w m p q → r.file_size ≤ length file' → 2 * r.omissions + 1 ≤ length list' → Steps x r file' list' r' v' f' w' m' p' q' file'' list'')
      same-call s (a.holds lt) (omega (arith, same_size, g.long.whole, y)) (omega (arith, same_omissions, g.long.listed, z)) in
      advancing_turn a (rest - 1 + (stores - n)) (omega (arith, h)) (b.onward lt) t

  pub right_end : (stores : ℕ) {v f w m p q v₀ f₀ w₀ m₀ p₀ q₀ : List ℕ} → n ≡ min stores (k.steps - k.next) → rest ≤ 0 → Holds call k v₀ f₀ w₀ m₀ p₀ q₀
      → Advancing call k stores file list (rest + (stores - n)) r v f w m p q file' list' → Advances call k stores file list r v f w m p q file' list'
  right_end stores e z h a =
      let st = going_steps g in
      advancing_end a (holds-moved h g.state h.kept)
      (⊎_elim (λ c. inr (omega (arith, c, e, z, g.count, st))) (λ c. inl (omega (arith, c, z))) (lt_or_le n stores))
      (λ c. omega (arith, c, e, z, g.count, st))
