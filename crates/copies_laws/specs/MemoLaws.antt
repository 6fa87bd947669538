-- Which blocks are copied: whatever a link that is followed leads to, if it is of a copied kind, and nothing else.
use Prim.{Unit, tt}
use Rattle.std.specs.Prelude.{ℕ, zero, suc, ◌+◌, ◌*◌, ◌-◌, ◌≤◌, ◌<◌, List, [], ◌∷◌, ◌++◌, Bool, true, false, ◌≡◌, refl, eqb, length}
use Rattle.std.proofs.Common.{append-nil, sym, ap, ◌∙◌, subst, arith, eq-eqb, eqb-true}
use Rattle.std.proofs.Math.Option.{Option, none, some}
use Rattle.std.proofs.lemmas.Bool.{false≢true, eqb-false}
use Rattle.std.proofs.Math.Seq.{append_snoc}
use Rattle.base.specs.Choice.{pick, if_lt, if_eq}
use Rattle.base.specs.ChoiceLaws.{lt_first, eq_yes, eq_no}
use Rattle.base.specs.Field.{le_at}
use Rattle.base.specs.Checked.{Checked, ok, refused, and_then}
use Rattle.mdf.specs.Block.{kind_tx, kind_md, kind_at, size_at, links_at, link_at, first_link, whole_at, header_in}
use Rattle.mdf.specs.Chain.{is_in}
use Rattle.plan.specs.Columns.{Column}
use Rattle.plan.specs.Geometry.{align8}
use Rattle.plan.specs.Copies.{kind_cc, kind_si, kind_fh, Copy, Copies, copy_of, with_copy, is_copied, lost_links, copy_links, on_copy, copy_at, depth, copy_root, copy_roots, History, history, history_from, history_of, column_links, column_copies, Attachment, Attached, is_attached, attach, attachments_from, attachments_of}
use Rattle.plan.specs.Photos.{kind_at_block, most_attachments, attachment_in}
use Rattle.result.specs.Names.{CopiedKind, is_tx, is_md, is_cc, is_si, is_fh, Leads}
use Rattle.result.specs.Guarantee.{In, here, there}
use Rattle.copies_laws.specs.CopyLaws.{fresh}
use Rattle.copies_laws.specs.AnswerLaws.{refused≢ok, ok_same, then_ok, eq_back, by_eq, by-pick, pick_second, Whole, whole_fits}

-- ---- the table of copies
some_same : {a b : ℕ} → some a ≡ some b → a ≡ b
some_same e = cc

pub none≢some : {A : Type 0} {a : A} → ◌≡◌ {A = Option A} none (some a) → ⊥
none≢some e = let z : ◌≡◌ {A = ℕ} 0 1 = cc in omega arith

-- a copy that is found stands in the table
pub copy_in_lem : (a t : ℕ) (memo : List Copy) → copy_of a memo ≡ some t → In (record { from = a; to = t }) memo
unfolding copy_of if_eq
copy_in_lem a t [] e = absurd (none≢some e)
copy_in_lem a t (c ∷ cs) e = go (eqb c.from a) refl (λ h. copy_in_lem a t cs h) e
  where
    go : (b : Bool) → eqb c.from a ≡ b → (copy_of a cs ≡ some t → In (record { from = a; to = t }) cs)
        → pick b (some c.to) (copy_of a cs) ≡ some t → In (record { from = a; to = t }) (c ∷ cs)
    go true q f h = rw (← eqb-true c.from a q, ← some_same h) here
    go false q f h = there (f h)

-- it stays found as the table grows
pub copy-kept : (a t : ℕ) (memo more : List Copy) → copy_of a memo ≡ some t → copy_of a (memo ++ more) ≡ some t
unfolding copy_of if_eq
copy-kept a t [] more e = absurd (none≢some e)
copy-kept a t (c ∷ cs) more e = go (eqb c.from a) (λ h. copy-kept a t cs more h) e
  where
    go : (b : Bool) → (copy_of a cs ≡ some t → copy_of a (cs ++ more) ≡ some t) → pick b (some c.to) (copy_of a cs) ≡ some t
        → pick b (some c.to) (copy_of a (cs ++ more)) ≡ some t
    go true f h = h
    go false f h = f h

-- the last of the table is found, if nothing before it is
pub copy_last : (a t : ℕ) (memo : List Copy) → (u : ℕ) × (copy_of a (memo ++ (record { from = a; to = t } ∷ [])) ≡ some u)
unfolding copy_of if_eq
copy_last a t [] = (t, rw (eq-eqb a a refl))
copy_last a t (c ∷ cs) = go (eqb c.from a) (copy_last a t cs)
  where
    go : (b : Bool) → (u : ℕ) × (copy_of a (cs ++ (record { from = a; to = t } ∷ [])) ≡ some u)
        → (u : ℕ) × (pick b (some c.to) (copy_of a (cs ++ (record { from = a; to = t } ∷ []))) ≡ some u)
    go true h = (c.to, refl)
    go false h = h

-- ---- copied kinds
pub kind-copied : (k : ℕ) → CopiedKind k → is_copied k ≡ true
unfolding is_copied
kind-copied k (is_tx e) = rw e
kind-copied k (is_md e) = rw e
kind-copied k (is_cc e) = rw e
kind-copied k (is_si e) = rw e
kind-copied k (is_fh e) = rw e

pub copied-kind : (k : ℕ) → is_copied k ≡ true → CopiedKind k
unfolding is_copied
copied-kind k e = go (eqb k kind_tx) (eqb k kind_md) (eqb k kind_cc) (eqb k kind_si) (eqb k kind_fh) refl refl refl refl refl e
  where
    go : (a b c d f : Bool) → eqb k kind_tx ≡ a → eqb k kind_md ≡ b → eqb k kind_cc ≡ c → eqb k kind_si ≡ d → eqb k kind_fh ≡ f
        → pick a true (pick b true (pick c true (pick d true f))) ≡ true → CopiedKind k
    go true b c d f p q r t u h = is_tx (eqb-true k kind_tx p)
    go false true c d f p q r t u h = is_md (eqb-true k kind_md q)
    go false false true d f p q r t u h = is_cc (eqb-true k kind_cc r)
    go false false false true f p q r t u h = is_si (eqb-true k kind_si t)
    go false false false false true p q r t u h = is_fh (eqb-true k kind_fh u)
    go false false false false false p q r t u h = absurd (false≢true h)

-- ---- what is copied

-- a is copied, if it is a block of a copied kind
abbrev pub Followed : List ℕ → List Copy → ℕ → Type 0
Followed s memo a = (a ≡ 0 → ⊥) → is_copied (kind_at s a) ≡ true → (t : ℕ) × (copy_of a memo ≡ some t)

-- a copy is one of a block of a copied kind, and so is what its links lead to; an FH's first link is not followed
pub record Made (s : List ℕ) (memo : List Copy) (c : Copy) : Type 0 where
  pub nonzero : c.from ≡ 0 → ⊥
  pub kind : is_copied (kind_at s c.from) ≡ true
  pub whole : Whole s c.from
  pub links : (i : ℕ) → lost_links s c.from ≤ i → i < links_at s c.from → Followed s memo (link_at s c.from i)

-- the table m' keeps what m has, and is made as it should be if m is
pub record Kept (s : List ℕ) (m m' : List Copy) : Type 0 where
  pub found : (a t : ℕ) → copy_of a m ≡ some t → copy_of a m' ≡ some t
  pub made : ((c : Copy) → In c m → Made s m c) → (c : Copy) → In c m' → Made s m' c

pub followed-kept : {s : List ℕ} {m m' : List Copy} → Kept s m m' → (a : ℕ) → Followed s m a → Followed s m' a
followed-kept k a f z e = let r = f z e in (r.0, k.found a r.0 r.1)

kept_same : (s : List ℕ) {m m' : List Copy} → m ≡ m' → Kept s m m'
kept_same s e = rw (← e) (record { found = λ a t q. q; made = λ f. f })

pub kept_then : {s : List ℕ} {m n o : List Copy} → Kept s m n → Kept s n o → Kept s m o
kept_then f g = record { found = λ a t q. g.found a t (f.found a t q); made = λ h. g.made (f.made h) }

in_last : {A : Type 0} (P : A → Type 0) (m : List A) (x : A) → ((c : A) → In c m → P c) → P x → (c : A) → In c (m ++ (x ∷ [])) → P c
in_last {A = A} P [] x f g c (there i) = elim i [ ]
in_last P [] x f g c here = g
in_last P (b ∷ m) x f g c here = f b here
in_last P (b ∷ m) x f g c (there i) = in_last P m x (λ d j. f d (there j)) g c i

-- a block more, all of whose links were followed
kept-placed : (s : List ℕ) (m : List Copy) (a t : ℕ) → (a ≡ 0 → ⊥) → is_copied (kind_at s a) ≡ true → Whole s a
    → ((i : ℕ) → lost_links s a ≤ i → i < links_at s a → Followed s m (link_at s a i)) → Kept s m (m ++ (record { from = a; to = t } ∷ []))
kept-placed s m a t z e w f =
    let x : Copy = record { from = a; to = t } in
    let grows : (b u : ℕ) → copy_of b m ≡ some u → copy_of b (m ++ (x ∷ [])) ≡ some u = λ b u q. copy-kept b u m (x ∷ []) q in
    let wider : (b : ℕ) → Followed s m b → Followed s (m ++ (x ∷ [])) b = λ b g n k. ((g n k).0, grows b (g n k).0 (g n k).1) in
    record {
      found = grows;
      made = λ h c i. in_last (Made s (m ++ (x ∷ []))) m x
          (λ d j. record { nonzero = (h d j).nonzero; kind = (h d j).kind; whole = (h d j).whole; links = λ n p q. wider _ ((h d j).links n p q) })
          (record { nonzero = z; kind = e; whole = w; links = λ n p q. wider _ (f n p q) }) c i;
    }

-- the first of links, and those after it
each-link : (s : List ℕ) (memo : List Copy) (n p : ℕ) → Followed s memo (le_at 8 s p)
    → ((i : ℕ) → i < n → Followed s memo (le_at 8 s (p + 8 + 8 * i))) → (i : ℕ) → i < suc n → Followed s memo (le_at 8 s (p + 8 * i))
each-link s memo n p f g zero h = subst (λ (q : ℕ). Followed s memo (le_at 8 s q)) (omega arith) f
each-link s memo n p f g (suc i) h = subst (λ (q : ℕ). Followed s memo (le_at 8 s q)) (omega arith) (g i (omega arith))

-- links that are followed, by a step that follows
links_kept : (s : List ℕ) (step : ℕ → Copies → Checked Copies) → ((a : ℕ) (m m' : Copies) → step a m ≡ ok m' → Kept s m.memo m'.memo × Followed s m'.memo a)
    → (n p : ℕ) (m m' : Copies) → copy_links step s n p m ≡ ok m'
    → Kept s m.memo m'.memo × ((i : ℕ) → i < n → Followed s m'.memo (le_at 8 s (p + 8 * i)))
unfolding copy_links
links_kept s step f zero p m m' e = (kept_same s (ap (λ (x : Copies). x.memo) (ok_same e)), λ i h. absurd (omega arith))
links_kept s step f (suc n) p m m' e =
    let h = then_ok (step (le_at 8 s p) m) (λ m1. copy_links step s n (p + 8) m1) e in
    let one = f _ m h.0 h.1 in
    let more = links_kept s step f n (p + 8) h.0 m' h.2 in
    (kept_then one.0 more.0, each-link s m'.memo n p (followed-kept more.0 _ one.1) more.1)

-- ---- choices and lists
on-zero : {A P : Type 0} {r : A} (m n : ℕ) (a b : A) → if_eq m n a b ≡ r → (m ≡ n → a ≡ r → P) → ((m ≡ n → ⊥) → b ≡ r → P) → P
on-zero {A} {P} {r} m n a b e f g = go (eqb m n) refl
  where
    go : (t : Bool) → eqb m n ≡ t → P
    go true q = let z = eqb-true m n q in f z (eq_yes m n a b z refl ∙ e)
    go false q = let z = eqb-false m n q in g z (eq_no m n a b z refl ∙ e)

on-pick : {A P : Type 0} {r : A} (t : Bool) (a b : A) → pick t a b ≡ r → (t ≡ true → a ≡ r → P) → (t ≡ false → b ≡ r → P) → P
on-pick true a b e f g = f refl e
on-pick false a b e f g = g refl e

positive : (n : ℕ) → (n ≡ 0 → ⊥) → 0 < n
positive n q = omega arith

not_in : {A : Type 0} {a : A} → In a [] → ⊥
not_in = elim [ ]

in_each : {A : Type 0} {P : A → Type 0} {b : A} {bs : List A} → P b → ((a : A) → In a bs → P a) → (a : A) → In a (b ∷ bs) → P a
in_each f g a here = f
in_each f g a (there i) = g a i

-- ---- a block and all that it links to
copied-kept : (s : List ℕ) (a : ℕ) (m m' : Copies) (new : Checked Copies) (o : Option ℕ) → copy_of a m.memo ≡ o
    → (new ≡ ok m' → Kept s m.memo m'.memo × Followed s m'.memo a) → on_copy o m new ≡ ok m'
    → Kept s m.memo m'.memo × Followed s m'.memo a
copied-kept s a m m' new none q f e = f e
copied-kept s a m m' new (some t) q f e =
    let same : m.memo ≡ m'.memo = ap (λ (x : Copies). x.memo) (ok_same e) in
    (kept_same s same, λ _ _. (t, rw same at q))

none_kept : (s : List ℕ) (a : ℕ) (m m' : Copies) → a ≡ 0 → ok m ≡ ok m' → Kept s m.memo m'.memo × Followed s m'.memo a
none_kept s a m m' z e = (kept_same s (ap (λ (x : Copies). x.memo) (ok_same e)), λ n _. absurd (n z))

-- the block itself, after what it links to
placed-kept : (s : List ℕ) (a size : ℕ) (m n : Copies) → (a ≡ 0 → ⊥) → is_copied (kind_at s a) ≡ true → Whole s a → Kept s m.memo n.memo
    → ((i : ℕ) → i < links_at s a - lost_links s a → Followed s n.memo (le_at 8 s (a + 24 + 8 * lost_links s a + 8 * i)))
    → Kept s m.memo (with_copy a size n).memo × Followed s (with_copy a size n).memo a
unfolding with_copy link_at
placed-kept s a size m n z k w f g = (
  kept_then f (kept-placed s n.memo a (align8 n.next) z k w (λ i p q.
      subst (λ (at : ℕ). Followed s n.memo (le_at 8 s at)) (omega arith) (g (i - lost_links s a) (omega arith)))),
  λ _ _. copy_last a (align8 n.next) n.memo,
)

fresh_kept : (most : ℕ) (s way : List ℕ) (a : ℕ) (m m' : Copies) (links : Checked Copies) → (a ≡ 0 → ⊥)
    → ((n : Copies) → links ≡ ok n → Kept s m.memo n.memo
    × ((i : ℕ) → i < links_at s a - lost_links s a → Followed s n.memo (le_at 8 s (a + 24 + 8 * lost_links s a + 8 * i))))
    → fresh most s way a m links ≡ ok m' → Kept s m.memo m'.memo × Followed s m'.memo a
fresh_kept most s way a m m' links z f e =
    let r = then_ok (whole_at s a) _ (pick_second (is_in a way) _ _ e refused≢ok) in
    go (is_copied (kind_at s a)) refl (whole_fits s a r.1) r.2
  where
    go : (t : Bool) → is_copied (kind_at s a) ≡ t → Whole s a
        → pick t (if_lt (length m.memo + length way) most (and_then links (λ n. ok (with_copy a (size_at s a) n))) (refused 19 a)) (ok m) ≡ ok m'
        → Kept s m.memo m'.memo × Followed s m'.memo a
    go true k w q =
        let l = then_ok links _ (lt_first _ _ _ _ q refused≢ok).1 in
        let g = f l.0 l.1 in
        rw (← ok_same l.2) (placed-kept s a (size_at s a) m l.0 z k w g.0 g.1)
    go false k w q = (kept_same s (ap (λ (x : Copies). x.memo) (ok_same q)), λ _ h. absurd (false≢true (sym k ∙ h)))

pub copy-kept-at : (most left : ℕ) (s way : List ℕ) (a : ℕ) (m m' : Copies) → copy_at most left s way a m ≡ ok m'
    → Kept s m.memo m'.memo × Followed s m'.memo a
unfolding copy_at
copy-kept-at most zero s way a m m' e =
    on-zero a 0 _ _ e (λ z q. none_kept s a m m' z q)
    (λ z q. copied-kept s a m m' (refused 16 a) (copy_of a m.memo) refl (λ r. absurd (refused≢ok r)) q)
copy-kept-at most (suc left) s way a m m' e =
    let links : Checked Copies = copy_links (copy_at most left s (a ∷ way)) s (links_at s a - lost_links s a) (a + 24 + 8 * lost_links s a) m in
    let deeper : (n : Copies) → links ≡ ok n → Kept s m.memo n.memo
    × ((i : ℕ) → i < links_at s a - lost_links s a → Followed s n.memo (le_at 8 s (a + 24 + 8 * lost_links s a + 8 * i))) =
    λ n x. links_kept s (copy_at most left s (a ∷ way)) (λ b o o' y. copy-kept-at most left s (a ∷ way) b o o' y) _ _ m n x in
    on-zero a 0 _ _ e (λ z q. none_kept s a m m' z q)
    (λ z q. copied-kept s a m m' (fresh most s way a m links) (copy_of a m.memo) refl (λ r. fresh_kept most s way a m m' links z deeper r) q)

-- ---- from outside of any copied block
pub root_kept : (most : ℕ) (s : List ℕ) (a : ℕ) (m m' : Copies) → copy_root most s a m ≡ ok m' → Kept s m.memo m'.memo × Followed s m'.memo a
unfolding copy_root
root_kept most s a m m' e = copy-kept-at most depth s [] a m m' e

pub roots_kept : (most : ℕ) (s as' : List ℕ) (m m' : Copies) → copy_roots most s as' m ≡ ok m'
    → Kept s m.memo m'.memo × ((a : ℕ) → In a as' → Followed s m'.memo a)
unfolding copy_roots
roots_kept most s [] m m' e = (kept_same s (ap (λ (x : Copies). x.memo) (ok_same e)), λ a i. absurd (not_in i))
roots_kept most s (b ∷ bs) m m' e =
    let h = then_ok (copy_root most s b m) _ e in
    let one = root_kept most s b m h.0 h.1 in
    let more = roots_kept most s bs h.0 m' h.2 in
    (kept_then one.0 more.0, in_each (followed-kept more.0 b one.1) more.1)

pub columns-kept : (most : ℕ) (s : List ℕ) (cs : List Column) (m m' : Copies) → column_copies most s cs m ≡ ok m'
    → Kept s m.memo m'.memo × ((c : Column) → In c cs → (a : ℕ) → In a (column_links s c) → Followed s m'.memo a)
unfolding column_copies
columns-kept most s [] m m' e = (kept_same s (ap (λ (x : Copies). x.memo) (ok_same e)), λ c i. absurd (not_in i))
columns-kept most s (c ∷ cs) m m' e =
    let h = then_ok (copy_roots most s (column_links s c) m) _ e in
    let one = roots_kept most s (column_links s c) m h.0 h.1 in
    let more = columns-kept most s cs h.0 m' h.2 in
    (kept_then one.0 more.0, in_each {P = λ (c : Column). (a : ℕ) → In a (column_links s c) → Followed s m'.memo a} (λ a i. followed-kept more.0 a (one.1 a i)) more.1)

-- ---- the history chain
history-kept : (most turns : ℕ) (s : List ℕ) (a : ℕ) (h h' : History) → history_from most turns s a h ≡ ok h' → Kept s h.made.memo h'.made.memo
unfolding history_from
history-kept most zero s a h h' e = kept_same s (ap (λ (x : History). x.made.memo) (ok_same e))
history-kept most (suc turns) s a h h' e =
    let same : ok h ≡ ok h' → Kept s h.made.memo h'.made.memo = λ q. kept_same s (ap (λ (x : History). x.made.memo) (ok_same q)) in
    by_eq a 0 _ _ e same (λ q. by-pick (is_in a h.chain) _ _ q same (λ r.
    let w = then_ok (whole_at s a) _ r in
    by-pick (is_copied (kind_at s a)) _ _ w.2 (λ t.
    let k = eq_back (links_at s a) 0 _ _ t refused≢ok in
    let m = then_ok (copy_root most s a h.made) _ k in
    kept_then (root_kept most s a h.made m.0 m.1).0 (history-kept most turns s (first_link s a) _ h' m.2))
    same))

pub past-kept : (most : ℕ) (s : List ℕ) (a : ℕ) (m : Copies) (h : History) → history_of most s a m ≡ ok h → Kept s m.memo h.made.memo
unfolding history_of
past-kept most s a m h e = history-kept most (most + 1) s a (history [] m) h e

-- none of these blocks stands before itself, nor among those before
unfoldable pub Fresh : List ℕ → List ℕ → Type 0
Fresh before [] = Unit {0}
Fresh before (b ∷ bs) = (is_in b before ≡ false) × Fresh (before ++ (b ∷ [])) bs

-- a block of the history chain: of a copied kind, with links, and copied
pub record Past (s : List ℕ) (memo : List Copy) (b : ℕ) : Type 0 where
  pub leads : Leads s b
  pub linked : 0 < links_at s b
  pub followed : Followed s memo b

pub past-kept-to : {s : List ℕ} {m m' : List Copy} → Kept s m m' → (b : ℕ) → Past s m b → Past s m' b
past-kept-to k b p = record { leads = p.leads; linked = p.linked; followed = followed-kept k b p.followed }

-- the blocks by which the chain grows
pub record Listed (s : List ℕ) (h h' : History) : Type 0 where
  pub more : List ℕ
  pub chain : h'.chain ≡ h.chain ++ more
  pub fresh : Fresh h.chain more
  pub each : (b : ℕ) → In b more → Past s h'.made.memo b

none-listed : (s : List ℕ) (h h' : History) → ok h ≡ ok h' → Listed s h h'
unfolding Fresh
none-listed s h h' q =
    record {
      more = [];
      chain = ap (λ (x : History). x.chain) (sym (ok_same q)) ∙ sym (append-nil h.chain);
      fresh = tt;
      each = λ b i. absurd (not_in i);
    }

one-listed : (s : List ℕ) (a : ℕ) (h h' : History) (m : Copies) → is_in a h.chain ≡ false → Past s h'.made.memo a
    → Listed s (history (h.chain ++ (a ∷ [])) m) h' → Listed s h h'
unfolding Fresh
one-listed s a h h' m n p r =
    record { more = a ∷ r.more; chain = r.chain ∙ append_snoc h.chain a r.more; fresh = (n, r.fresh); each = in_each p r.each }

history-listed : (most turns : ℕ) (s : List ℕ) (a : ℕ) (h h' : History) → history_from most turns s a h ≡ ok h' → Listed s h h'
unfolding history_from
history-listed most zero s a h h' e = none-listed s h h' e
history-listed most (suc turns) s a h h' e =
    on-zero a 0 _ _ e (λ z q. none-listed s h h' q) (λ z q.
    on-pick (is_in a h.chain) _ _ q (λ i r. none-listed s h h' r) (λ i r.
    let w = then_ok (whole_at s a) _ r in
    on-pick (is_copied (kind_at s a)) _ _ w.2 (λ k u.
    on-zero (links_at s a) 0 _ _ u (λ _ v. absurd (refused≢ok v)) (λ l v.
    let m = then_ok (copy_root most s a h.made) _ v in
    one-listed s a h h' m.0 i
    (record {
      leads = record { nonzero = z; kind = copied-kind (kind_at s a) k };
      linked = positive (links_at s a) l;
      followed = followed-kept (history-kept most turns s (first_link s a) _ h' m.2) a (root_kept most s a h.made m.0 m.1).1;
    })
    (history-listed most turns s (first_link s a) (history (h.chain ++ (a ∷ [])) m.0) h' m.2)))
    (λ k u. none-listed s h h' u)))

pub past-listed : (most : ℕ) (s : List ℕ) (a : ℕ) (m : Copies) (h : History) → history_of most s a m ≡ ok h → Listed s (history [] m) h
unfolding history_of
past-listed most s a m h e = history-listed most (most + 1) s a (history [] m) h e

-- ---- attachments
attachments-kept : (most turns : ℕ) (s : List ℕ) (a : ℕ) (t t' : Attached) → attachments_from most turns s a t ≡ ok t' → Kept s t.made.memo t'.made.memo
unfolding attachments_from attach
attachments-kept most zero s a t t' e = kept_same s (ap (λ (x : Attached). x.made.memo) (ok_same e))
attachments-kept most (suc turns) s a t t' e =
    let same : ok t ≡ ok t' → Kept s t.made.memo t'.made.memo = λ q. kept_same s (ap (λ (x : Attached). x.made.memo) (ok_same q)) in
    by_eq a 0 _ _ e same (λ q. by-pick (is_attached a t.attachments) _ _ q same (λ r.
    let h = then_ok (header_in s a) _ r in
    by_eq (kind_at s a) kind_at_block _ _ h.2 (λ k.
    let w = then_ok (attachment_in s a) _ k in
    let l = lt_first _ _ _ _ w.2 refused≢ok in
    let m = then_ok (copy_links (copy_root most s) s (links_at s a - 1) (a + 32) t.made) _ l.1 in
    kept_then (links_kept s (copy_root most s) (root_kept most s) (links_at s a - 1) (a + 32) t.made m.0 m.1).0
    (attachments-kept most turns s (first_link s a) _ t' m.2))
    same))

pub attached_kept : (most : ℕ) (s : List ℕ) (a : ℕ) (m : Copies) (t : Attached) → attachments_of most s a m ≡ ok t → Kept s m.memo t.made.memo
unfolding attachments_of
attached_kept most s a m t e = attachments-kept most (most_attachments + 2) s a (record { attachments = []; made = m }) t e

-- what the links of an AT from the second on lead to is copied
abbrev pub OtherLinks : List ℕ → List Copy → ℕ → Type 0
OtherLinks s memo a = (i : ℕ) → suc i < links_at s a → Followed s memo (link_at s a (suc i))

-- of every attachment
abbrev AllOther : List ℕ → Attached → Type 0
AllOther s t = (u : Attachment) → In u t.attachments → OtherLinks s t.made.memo u.from

-- one AT more, with the copies m made for it
other-more : (s : List ℕ) (a : ℕ) (t : Attached) (m : Copies) → Kept s t.made.memo m.memo
    → ((i : ℕ) → i < links_at s a - 1 → Followed s m.memo (le_at 8 s (a + 32 + 8 * i))) → AllOther s t
    → AllOther s (attach a (size_at s a) t.made m t)
unfolding attach link_at
other-more s a t m k f g =
    in_last (λ (u : Attachment). OtherLinks s m.memo u.from) t.attachments _
    (λ u j i h. followed-kept k _ (g u j i h))
    (λ i h. subst (λ (q : ℕ). Followed s m.memo (le_at 8 s q)) (omega arith) (f i (omega arith)))

attachments-other : (most turns : ℕ) (s : List ℕ) (a : ℕ) (t t' : Attached) → attachments_from most turns s a t ≡ ok t' → AllOther s t → AllOther s t'
unfolding attachments_from
attachments-other most zero s a t t' e g = subst (AllOther s) (ok_same e) g
attachments-other most (suc turns) s a t t' e g =
    let same : ok t ≡ ok t' → AllOther s t' = λ q. subst (AllOther s) (ok_same q) g in
    by_eq a 0 _ _ e same (λ q. by-pick (is_attached a t.attachments) _ _ q same (λ r.
    let h = then_ok (header_in s a) _ r in
    by_eq (kind_at s a) kind_at_block _ _ h.2 (λ k.
    let w = then_ok (attachment_in s a) _ k in
    let l = lt_first _ _ _ _ w.2 refused≢ok in
    let m = then_ok (copy_links (copy_root most s) s (links_at s a - 1) (a + 32) t.made) _ l.1 in
    let c = links_kept s (copy_root most s) (root_kept most s) (links_at s a - 1) (a + 32) t.made m.0 m.1 in
    attachments-other most turns s (first_link s a) _ t' m.2 (other-more s a t m.0 c.0 c.1 g))
    same))

pub attached_other : (most : ℕ) (s : List ℕ) (a : ℕ) (m : Copies) (t : Attached) → attachments_of most s a m ≡ ok t
    → (u : Attachment) → In u t.attachments → OtherLinks s t.made.memo u.from
unfolding attachments_of
attached_other most s a m t e =
    attachments-other most (most_attachments + 2) s a (record { attachments = []; made = m }) t e (λ u i. absurd (not_in i))
