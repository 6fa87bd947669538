-- Copying, history and attachments of an image whose links are good: each leads to none, or to a whole block whose links are again good. They refuse with
-- 16 or 19 only.
use Prim.{Unit, tt}
use Prim.Native.Nat.{ℕ, zero, suc, ◌+◌, ◌*◌, ◌-◌, ◌≤◌, ◌<◌}
use mathlib.Core.List.{List, [], ◌∷◌, ◌++◌}
use Rattle.std.specs.Prelude.{Bool, true, false, ◌≡◌, ltb}
use Rattle.std.proofs.Math.Option.{Option, none, some}
use Rattle.std.proofs.Math.Path.{subst}
use Rattle.std.proofs.Common.{arith}
use Rattle.std.proofs.Math.ListN.{length}
use Rattle.base.specs.Choice.{pick, if_lt}
use Rattle.base.specs.Field.{le_at}
use Rattle.base.specs.Checked.{Checked, ok, refused, and_then, fine}
use Rattle.mdf.specs.Block.{kind_at, size_at, links_at, link_at, first_link, header_in, whole_at}
use Rattle.mdf.specs.Chain.{is_in}
use Rattle.plan.specs.Columns.{Column}
use Rattle.plan.specs.Copies.{Copies, copies, copy_of, with_copy, is_copied, lost_links, copy_links, most_copies, on_copy, copy_at, depth, copy_root, copy_roots, History, history, history_from, history_of, column_links, column_copies, Attached, is_attached, attach, attachments_from, attachments_of}
use Rattle.plan.specs.Layout.{layout, past_copies, fh_place, structure_end, data_end}
use Rattle.plan.specs.Photos.{kind_at_block, most_attachments, attachment_in}
use Rattle.plan.specs.Rules.{Rules}
use Rattle.result.specs.Member.{In, here, there}
use Rattle.copies_laws.specs.AnswerLaws.{on_eq}
use Rattle.again_laws.specs.Gives.{Gives, gives, stops, gives_then}

-- the refusals of copying
abbrev pub deeper : List ℕ
deeper = 16 ∷ 19 ∷ []

-- any value
abbrev pub Any : {A : Type 0} → A → Type 0
Any a = Unit {0}

pub on_lt : {A : Type 0} {ns : List ℕ} {P : A → Type 0} (m n : ℕ) (a b : Checked A) → Gives ns P a → Gives ns P b → Gives ns P (if_lt m n a b)
unfolding if_lt
on_lt {A} {ns} {P} m n a b g h = go (ltb m n)
  where
    go : (t : Bool) → Gives ns P (pick t a b)
    go true = g
    go false = h

pub on-pick : {A : Type 0} {ns : List ℕ} {P : A → Type 0} (t : Bool) (a b : Checked A) → Gives ns P a → Gives ns P b → Gives ns P (pick t a b)
on-pick true a b g h = g
on-pick false a b g h = h

on-copy : (o : Option ℕ) (m : Copies) (v : Checked Copies) → Gives deeper Any v → Gives deeper Any (on_copy o m v)
on-copy none m v g = g
on-copy (some a) m v g = gives tt

-- a check that passed
pub on_fine : {B : Type 0} {ns : List ℕ} {P : B → Type 0} (v : Checked (Unit {0})) (b : Checked B) → v ≡ fine → Gives ns P b → Gives ns P (and_then v (λ _. b))
on_fine v b e g = rw e g

-- links that stand at p, each led by a step that gives
links_give : (step : ℕ → Copies → Checked Copies) (f : List ℕ) (good : ℕ → Type 0) → ((a : ℕ) (m : Copies) → good a → Gives deeper Any (step a m))
    → (k p : ℕ) (m : Copies) → ((i : ℕ) → i < k → good (le_at 8 f (p + 8 * i))) → Gives deeper Any (copy_links step f k p m)
unfolding copy_links
links_give step f good each zero p m h = gives tt
links_give step f good each (suc k) p m h =
    let e : p + 8 * 0 ≡ p = omega arith in
    gives_then (λ m'. copy_links step f k (p + 8) m') (each (le_at 8 f p) m (subst (λ (q : ℕ). good (le_at 8 f q)) e (h 0 (omega arith)))) (λ m' _.
    links_give step f good each k (p + 8) m' (λ i l. subst (λ (q : ℕ). good (le_at 8 f q)) (moved p i) (h (suc i) (omega arith))))
  where
    moved : (p i : ℕ) → p + 8 * suc i ≡ p + 8 + 8 * i
    moved p i = omega arith

module _ (f : List ℕ) (good : ℕ → Type 0) (whole : (a : ℕ) → good a → (a ≡ 0 → ⊥) → whole_at f a ≡ fine)
    (closed : (a : ℕ) → good a → (a ≡ 0 → ⊥) → (i : ℕ) → lost_links f a ≤ i → i < links_at f a → good (link_at f a i)) where
  -- ---- a block and all that it links to
  later-link : (a n i : ℕ) → a + 24 + 8 * (n + i) ≡ a + 24 + 8 * n + 8 * i
  later-link a n i = omega arith

  links_good : (a : ℕ) → good a → (a ≡ 0 → ⊥) → (i : ℕ) → i < links_at f a - lost_links f a → good (le_at 8 f (a + 24 + 8 * lost_links f a + 8 * i))
  unfolding link_at
  links_good a g n i l =
      subst (λ (q : ℕ). good (le_at 8 f q)) (later-link a (lost_links f a) i) (closed a g n (lost_links f a + i) (omega arith) (omega arith))

  pub copy_gives : (most left : ℕ) (way : List ℕ) (a : ℕ) (m : Copies) → good a → Gives deeper Any (copy_at most left f way a m)
  unfolding copy_at
  copy_gives most zero way a m g =
      on_eq (Gives deeper Any) a 0 (ok m) _ (λ _. gives tt) (λ _. on-copy (copy_of a m.memo) m (refused 16 a) (stops here))
  copy_gives most (suc left) way a m g =
      on_eq (Gives deeper Any) a 0 (ok m) _ (λ _. gives tt) (λ n.
      on-copy (copy_of a m.memo) m _
      (on-pick (is_in a way) (refused 16 a) _ (stops here)
      (on_fine (whole_at f a) _ (whole a g n)
      (on-pick (is_copied (kind_at f a)) _ (ok m)
      (on_lt (length m.memo + length way) most _ (refused 19 a)
      (gives_then (λ m'. ok (with_copy a (size_at f a) m'))
      (links_give (copy_at most left f (a ∷ way)) f good (λ b m' h. copy_gives most left (a ∷ way) b m' h) (links_at f a - lost_links f a) (a + 24 + 8 * lost_links f a) m
      (links_good a g n))
      (λ m' _. gives tt))
      (stops (there here)))
      (gives tt)))))

  pub root_gives : (most a : ℕ) (m : Copies) → good a → Gives deeper Any (copy_root most f a m)
  unfolding copy_root
  root_gives most a m g = copy_gives most depth [] a m g

  -- ---- what columns refer to
  roots_give : (most : ℕ) (as' : List ℕ) (m : Copies) → ((a : ℕ) → In a as' → good a) → Gives deeper Any (copy_roots most f as' m)
  unfolding copy_roots
  roots_give most [] m h = gives tt
  roots_give most (a ∷ as') m h = gives_then (λ m'. copy_roots most f as' m') (root_gives most a m (h a here)) (λ m' _. roots_give most as' m' (λ b i. h b (there i)))

  columns_give : (most : ℕ) (cs : List Column) (m : Copies) → ((c : Column) → In c cs → (a : ℕ) → In a (column_links f c) → good a) → Gives deeper Any (column_copies most f cs m)
  unfolding column_copies
  columns_give most [] m h = gives tt
  columns_give most (c ∷ cs) m h =
      gives_then (λ m'. column_copies most f cs m') (roots_give most (column_links f c) m (h c here)) (λ m' _. columns_give most cs m' (λ d i. h d (there i)))

  -- ---- the history: good blocks with links, one after the other
  module _ (past : ℕ → Type 0) (past_good : (a : ℕ) → past a → (a ≡ 0 → ⊥) → good a) (past_linked : (a : ℕ) → past a → (a ≡ 0 → ⊥) → links_at f a ≡ 0 → ⊥)
      (past_next : (a : ℕ) → past a → (a ≡ 0 → ⊥) → past (first_link f a)) where
    past-gives : (most turns a : ℕ) (h : History) → past a → Gives deeper Any (history_from most turns f a h)
    unfolding history_from
    past-gives most zero a h p = gives tt
    past-gives most (suc turns) a h p =
        on_eq (Gives deeper Any) a 0 (ok h) _ (λ _. gives tt) (λ n.
        on-pick (is_in a h.chain) (ok h) _ (gives tt)
        (on_fine (whole_at f a) _ (whole a (past_good a p n) n)
        (on-pick (is_copied (kind_at f a)) _ (ok h)
        (on_eq (Gives deeper Any) (links_at f a) 0 (refused 17 a) _ (λ z. absurd (past_linked a p n z)) (λ _.
        gives_then (λ m. history_from most turns f (first_link f a) (history (h.chain ++ (a ∷ [])) m)) (root_gives most a h.made (past_good a p n)) (λ m _.
        past-gives most turns (first_link f a) (history (h.chain ++ (a ∷ [])) m) (past_next a p n))))
        (gives tt))))

    -- ---- attachments: they pass their checks, and their links from the second on are good
    module _ (at : ℕ → Type 0) (at_header : (a : ℕ) → at a → (a ≡ 0 → ⊥) → header_in f a ≡ fine)
        (at_fine : (a : ℕ) → at a → (a ≡ 0 → ⊥) → attachment_in f a ≡ fine)
        (at_good : (a : ℕ) → at a → (a ≡ 0 → ⊥) → (i : ℕ) → suc i < links_at f a → good (link_at f a (suc i)))
        (at_next : (a : ℕ) → at a → (a ≡ 0 → ⊥) → at (first_link f a)) where
      next-link : (a i : ℕ) → a + 24 + 8 * suc i ≡ a + 32 + 8 * i
      next-link a i = omega arith

      others-good : (a : ℕ) → at a → (a ≡ 0 → ⊥) → (i : ℕ) → i < links_at f a - 1 → good (le_at 8 f (a + 32 + 8 * i))
      unfolding link_at
      others-good a p n i l = subst (λ (q : ℕ). good (le_at 8 f q)) (next-link a i) (at_good a p n i (omega arith))

      at_gives : (most turns a : ℕ) (t : Attached) → at a → Gives deeper Any (attachments_from most turns f a t)
      unfolding attachments_from
      at_gives most zero a t p = gives tt
      at_gives most (suc turns) a t p =
          on_eq (Gives deeper Any) a 0 (ok t) _ (λ _. gives tt) (λ n.
          on-pick (is_attached a t.attachments) (ok t) _ (gives tt)
          (on_fine (header_in f a) _ (at_header a p n)
          (on_eq (Gives deeper Any) (kind_at f a) kind_at_block _ (ok t) (λ _.
          on_fine (attachment_in f a) _ (at_fine a p n)
          (on_lt (length t.attachments) most_attachments _ (refused 19 a)
          (gives_then (λ m. attachments_from most turns f (first_link f a) (attach a (size_at f a) t.made m t))
          (links_give (copy_root most f) f good (root_gives most) (links_at f a - 1) (a + 32) t.made (others-good a p n)) (λ m _.
          at_gives most turns (first_link f a) (attach a (size_at f a) t.made m t) (at_next a p n)))
          (stops (there here))))
          (λ _. gives tt))))

      -- ---- "metadata; attachments"
      pub layout-gives : (o : Rules) (size n : ℕ) (cs : List Column) → good (link_at f 64 5) → past (link_at f 64 1) → at (link_at f 64 3)
          → ((c : Column) → In c cs → (a : ℕ) → In a (column_links f c) → good a) → Gives deeper Any (layout o f size n cs)
      unfolding layout history_of attachments_of
      layout-gives o size n cs comment first attached columns =
          gives_then _ (root_gives most_copies (link_at f 64 5) (copies [] 168) comment) (λ m0 _.
          gives_then _ (past-gives most_copies (most_copies + 1) (link_at f 64 1) (history [] m0) first) (λ h _.
          gives_then _ (columns_give most_copies cs (copies h.made.memo (fh_place h.made n + 56)) columns) (λ m2 _.
          gives_then _ (at_gives most_copies (most_attachments + 2) (link_at f 64 3)
          (record { attachments = []; made = copies m2.memo (data_end o f size (structure_end f size (past_copies m2) cs) cs) }) attached) (λ t _.
          gives tt))))
