-- What was copied is laid past what was placed before it.
use Rattle.std.specs.Prelude.{ℕ, zero, suc, ◌+◌, ◌*◌, ◌-◌, List, [], ◌∷◌, ◌≡◌, length}
use Rattle.std.proofs.Math.Option.{Option, none, some}
use Rattle.std.proofs.Common.{ap}
use Rattle.base.specs.Choice.{pick, if_lt}
use Rattle.base.specs.ChoiceLaws.{lt_first}
use Rattle.base.specs.Field.{le_at}
use Rattle.base.specs.Checked.{Checked, ok, refused, and_then}
use Rattle.mdf.specs.Block.{kind_at, size_at, links_at, first_link, whole_at}
use Rattle.mdf.specs.Chain.{is_in}
use Rattle.plan.specs.Columns.{Column}
use Rattle.plan.specs.Copies.{
  Copies,
  copy_of,
  with_copy,
  is_copied,
  lost_links,
  copy_links,
  on_copy,
  copy_at,
  depth,
  copy_root,
  copy_roots,
  History,
  history,
  history_from,
  history_of,
  column_links,
  column_copies,
}
use Rattle.copies_laws.specs.AnswerLaws.{refused≢ok, ok_same, then_ok, eq_back, by_eq, by-pick, pick_second, whole_fits}
use Rattle.copies_laws.specs.Laid.{Grown, grown_same, grown_then, grown_placed}

-- links, by a step that has the property
pub links_grown : {most : ℕ} (s : List ℕ) (k : ℕ) (step : ℕ → Copies → Checked Copies) → ((a : ℕ) (m m' : Copies) → step a m ≡ ok m' → Grown most s k m m')
    → (n p : ℕ) (m m' : Copies) → copy_links step s n p m ≡ ok m' → Grown most s k m m'
unfolding copy_links
links_grown s k step f zero p m m' e = grown_same s k (ok_same e)
links_grown s k step f (suc n) p m m' e =
    let h = then_ok (step (le_at 8 s p) m) (λ m1. copy_links step s n (p + 8) m1) e in
    grown_then (f _ m h.0 h.1) (links_grown s k step f n (p + 8) h.0 m' h.2)

-- a block copied before is as it was
copied_grown : {most : ℕ} (s : List ℕ) (k : ℕ) (o : Option ℕ) (m m' : Copies) (new : Checked Copies)
    → (new ≡ ok m' → Grown most s k m m') → on_copy o m new ≡ ok m' → Grown most s k m m'
copied_grown s k none m m' new f e = f e
copied_grown s k (some a) m m' new f e = grown_same s k (ok_same e)

-- what becomes of a block that was not copied before, by what becomes of its links
abbrev pub fresh : ℕ → List ℕ → List ℕ → ℕ → Copies → Checked Copies → Checked Copies
fresh most s way a m links =
    pick (is_in a way) (refused 16 a) (and_then (whole_at s a) (λ _. pick (is_copied (kind_at s a))
    (if_lt (length m.memo + length way) most (and_then links (λ n. ok (with_copy a (size_at s a) n))) (refused 19 a)) (ok m)))

fresh_grown : {most : ℕ} (s way : List ℕ) (a : ℕ) (m m' : Copies) (links : Checked Copies) → ((n : Copies) → links ≡ ok n → Grown most s (suc (length way)) m n)
    → fresh most s way a m links ≡ ok m' → Grown most s (length way) m m'
fresh_grown s way a m m' links f e =
    let r = then_ok (whole_at s a) _ (pick_second (is_in a way) _ _ e refused≢ok) in
    by-pick (is_copied (kind_at s a)) _ _ r.2 (λ q.
    let t = lt_first _ _ _ _ q refused≢ok in
    let l = then_ok links _ t.1 in
    rw (← ok_same l.2) (grown_placed a (whole_fits s a r.1) t.0 (f l.0 l.1)))
    (λ q. grown_same s _ (ok_same q))

-- a block and all that it links to
pub copy_grown : {most : ℕ} (left : ℕ) (s way : List ℕ) (a : ℕ) (m m' : Copies) → copy_at most left s way a m ≡ ok m' → Grown most s (length way) m m'
unfolding copy_at
copy_grown {most} zero s way a m m' e =
    by_eq a 0 _ _ e (λ q. grown_same s _ (ok_same q))
    (λ q. copied_grown s _ (copy_of a m.memo) m m' (refused 16 a) (λ r. absurd (refused≢ok r)) q)
copy_grown {most} (suc left) s way a m m' e =
    let links : Checked Copies = copy_links (copy_at most left s (a ∷ way)) s (links_at s a - lost_links s a) (a + 24 + 8 * lost_links s a) m in
    let deeper : (n : Copies) → links ≡ ok n → Grown most s (suc (length way)) m n =
    λ n x. links_grown s (suc (length way)) (copy_at most left s (a ∷ way)) (λ b o o' y. copy_grown left s (a ∷ way) b o o' y) _ _ m n x in
    by_eq a 0 _ _ e (λ q. grown_same s _ (ok_same q))
    (λ q. copied_grown s _ (copy_of a m.memo) m m' (fresh most s way a m links) (λ r. fresh_grown s way a m m' links deeper r) q)

-- ---- from outside of any copied block
pub root_grown : {most : ℕ} (s : List ℕ) (a : ℕ) (m m' : Copies) → copy_root most s a m ≡ ok m' → Grown most s 0 m m'
unfolding copy_root
root_grown s a m m' e = copy_grown depth s [] a m m' e

pub roots_grown : {most : ℕ} (s as' : List ℕ) (m m' : Copies) → copy_roots most s as' m ≡ ok m' → Grown most s 0 m m'
unfolding copy_roots
roots_grown {most} s [] m m' e = grown_same s 0 (ok_same e)
roots_grown {most} s (a ∷ as') m m' e =
    let h = then_ok (copy_root most s a m) _ e in
    grown_then (root_grown s a m h.0 h.1) (roots_grown s as' h.0 m' h.2)

pub columns_grown : {most : ℕ} (s : List ℕ) (cs : List Column) (m m' : Copies) → column_copies most s cs m ≡ ok m' → Grown most s 0 m m'
unfolding column_copies
columns_grown {most} s [] m m' e = grown_same s 0 (ok_same e)
columns_grown {most} s (c ∷ cs) m m' e =
    let h = then_ok (copy_roots most s (column_links s c) m) _ e in
    grown_then (roots_grown s (column_links s c) m h.0 h.1) (columns_grown s cs h.0 m' h.2)

-- ---- the history chain
pub history_grown : {most : ℕ} (turns : ℕ) (s : List ℕ) (a : ℕ) (h h' : History) → history_from most turns s a h ≡ ok h' → Grown most s 0 h.made h'.made
unfolding history_from
history_grown {most} zero s a h h' e = grown_same s 0 (ap (λ (x : History). x.made) (ok_same e))
history_grown {most} (suc turns) s a h h' e =
    let same : ok h ≡ ok h' → Grown most s 0 h.made h'.made = λ q. grown_same s 0 (ap (λ (x : History). x.made) (ok_same q)) in
    by_eq a 0 _ _ e same (λ q. by-pick (is_in a h.chain) _ _ q same (λ r.
    let w = then_ok (whole_at s a) _ r in
    by-pick (is_copied (kind_at s a)) _ _ w.2 (λ t.
    let k = eq_back (links_at s a) 0 _ _ t refused≢ok in
    let m = then_ok (copy_root most s a h.made) _ k in
    grown_then (root_grown s a h.made m.0 m.1) (history_grown turns s (first_link s a) _ h' m.2))
    same))

pub past_grown : {most : ℕ} (s : List ℕ) (a : ℕ) (m : Copies) (h : History) → history_of most s a m ≡ ok h → Grown most s 0 m h.made
unfolding history_of
past_grown {most} s a m h e = history_grown (most + 1) s a (history [] m) h e
