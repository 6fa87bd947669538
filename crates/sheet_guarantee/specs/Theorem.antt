-- The inventory sheet of every accepted result shows the planned columns as the recording has them.
use Rattle.std.specs.Prelude.{ℕ, zero, suc, ◌+◌, ◌*◌, ◌-◌, ◌≤◌, ◌<◌, Bool, ◌⊎◌, length, get_or}
use mathlib.Core.List.{List, [], ◌∷◌}
use Rattle.std.proofs.Math.Bool.{true, false}
use Rattle.std.proofs.Math.Option.{Option, none, some}
use Rattle.std.proofs.Math.Path.{◌≡◌, refl, sym, ap}
use Rattle.std.proofs.Common.{subst, ◌∙◌, inl, inr, le_refl, add-zero, zero-add, arith}
use Rattle.std.proofs.Math.Dec.{eqb}
use borrow.Author.Tests.{eqb-true, eqb-false}
use Rattle.base.specs.Choice.{pick, if_eq}
use Rattle.base.specs.ChoiceLaws.{eq_yes, eq_no}
use Rattle.base.specs.Field.{le_at}
use Rattle.base.specs.Blit.{blit, part}
use Rattle.base.specs.Checked.{ok}
use Rattle.mdf.specs.Block.{kind_tx, kind_md, kind_at, size_at, links_at, link_at, data_at}
use Rattle.mdf.specs.Group.{samples}
use Rattle.plan.specs.Rules.{Rules}
use Rattle.plan.specs.Table.{treatment}
use Rattle.plan.specs.Channel.{either, channel_type, is_master_type, fits, channel_bytes}
use Rattle.plan.specs.Columns.{Column, remote_link, omission_words}
use Rattle.plan.specs.Layout.{Placed, cg_of, cn_of}
use Rattle.result.specs.Links.{Head, head_at, Shown, group_fields, channel_fields, shown_at, shown_from, shown}
use Rattle.result.specs.Due.{type_due, group_due, channel_due, placed_c_gs, due_master, due, due_all}
use Rattle.result.specs.Recording.{IsMaster, Treats, reason_for}
use Rattle.result.specs.Names.{CopiedKind, is_tx, is_md, Leads, SameBlock, LinkDue}
use Rattle.result.specs.Sharing.{text_at}
use Rattle.result.specs.Result.{Args, Decided, file_of, answer, rules_of}
use Rattle.result.specs.Guarantee.{In, here, there, Guaranteed, Kinded, column_at}
use Rattle.plan_laws.specs.Decision.{answer_accepted}
use Rattle.plan_laws.specs.Known.{Known, answer-known}
use Rattle.guarantee.specs.Theorem.{AllBytes, column_in_lem, guaranteed}
use Rattle.file.specs.Form.{FileColumn, cycles}
use Rattle.file.specs.Range.{file_column_at}
use Rattle.file_laws.specs.Standing.{AllStand}
use Rattle.file_guarantee.specs.ColumnForm.{file_column}
use Rattle.file_guarantee.specs.Columns.{file_columns, columns-many}
use Rattle.file_guarantee.specs.Theorem.{PlacedAt, cols-many, file_stands, opens, at}
use Rattle.sheet.specs.Sheet.{kind_of, name_of, number_at, master_of, master_in, sheet_line, sheet_lines, page_count, pages}
use Rattle.sheet.proofs.SheetLaws.{length-line, length-lines, length-pages, one-line-each, fields, sheet-opened}
use Rattle.sheet.specs.SheetLaws.{bodies}
use Rattle.sheet_guarantee.specs.SheetDue.{LineDue, SheetDue}

-- ---- lists
none≢one : {A : Type 0} {a : A} {l : List A} → ◌≡◌ {A = List A} [] (a ∷ l) → ⊥
none≢one q = let z : ◌≡◌ {A = ℕ} 0 1 = cc in omega arith

first-same : {A : Type 0} {a b : A} {l m : List A} → ◌≡◌ {A = List A} (a ∷ l) (b ∷ m) → a ≡ b
first-same q = cc

rest-same : {A : Type 0} {a b : A} {l m : List A} → ◌≡◌ {A = List A} (a ∷ l) (b ∷ m) → l ≡ m
rest-same q = cc

cons_same : {A : Type 0} {a b : A} {l m : List A} → a ≡ b → l ≡ m → ◌≡◌ {A = List A} (a ∷ l) (b ∷ m)
cons_same p q = rw (p, q)

-- ---- columns of a file by number
nothing : {A : Type 0} {a : A} → ◌≡◌ {A = Option A} none (some a) → ⊥
nothing q = let z : ◌≡◌ {A = ℕ} 0 1 = cc in omega arith

same : {A : Type 0} {a b : A} → ◌≡◌ {A = Option A} (some a) (some b) → a ≡ b
same q = cc

line_at : (f : List ℕ) (all : List FileColumn) (k n : ℕ) (cs : List FileColumn) (c : FileColumn) → file_column_at n cs ≡ some c
    → get_or (sheet_lines f all k cs) n [] ≡ sheet_line f all (k + n) c
unfolding file_column_at sheet_lines
line_at f all k n [] c e = absurd (nothing e)
line_at f all k zero (b ∷ cs) c e = rw (add-zero, same e)
line_at f all k (suc n) (b ∷ cs) c e =
    let m : k + 1 + n ≡ k + suc n = omega arith in
    line_at f all (k + 1) n cs c e ∙ rw m

-- columns stand in order
above : (f : List ℕ) (a n : ℕ) (cs : List FileColumn) (c : FileColumn) → AllStand f a cs → file_column_at n cs ≡ some c → a < c.cg
unfolding AllStand file_column_at
above f a n [] c st e = absurd (nothing e)
above f a zero (b ∷ cs) c st e = let h = st.1.cg_above in let q : b ≡ c = same e in subst (λ (x : FileColumn). a < x.cg) q (omega (arith, st.0))
above f a (suc n) (b ∷ cs) c st e =
    let h = above f (suc b.cn) n cs c st.2 e in
    omega (arith, st.0, st.1.cg_above, st.1.cn_above)

pub number-at : (f : List ℕ) (a k n : ℕ) (cs : List FileColumn) (c : FileColumn) → AllStand f a cs → file_column_at n cs ≡ some c
    → number_at c.cg k cs ≡ some (k + n)
unfolding AllStand file_column_at number_at
number-at f a k n [] c st e = absurd (nothing e)
number-at f a k zero (b ∷ cs) c st e = let q : b ≡ c = same e in sym (eq_yes _ _ _ _ (ap (λ (x : FileColumn). x.cg) q) (rw add-zero))
number-at f a k (suc n) (b ∷ cs) c st e =
    let h = above f (suc b.cn) n cs c st.2 e in
    let l = st.1.cn_above in
    let m : k + 1 + n ≡ k + suc n = omega arith in
    sym (eq_no _ _ _ _ (λ q. omega (arith, q)) (sym (number-at f (suc b.cn) (k + 1) n cs c st.2 e ∙ rw m)))

-- ---- what CG and CN of a placed column say
record Says (table s f : List ℕ) (all : List Placed) (p : Placed) : Type 0 where
  typed : channel_type f (cn_of p) ≡ type_due table (channel_type s p.column.channel)
  bytes : samples f (cg_of p) ≡ channel_bytes s p.column.channel
  records : cycles f (cg_of p) ≡ p.column.group.records
  master : remote_link f (cg_of p) ≡ due_master all p.column.master

module _ (o : Rules) (s : List ℕ) (size : ℕ) (f : List ℕ) (all : List Placed) where
  says_one : (a : ℕ) (q : Placed) → shown_at f a ≡ due o s size all q → Says o.table s f all q
  unfolding shown_at due group_fields group_due channel_fields channel_due cycles
  says_one a q e =
      let g : link_at f a 1 ≡ cg_of q = ap (λ (x : Shown). x.cg) e in
      let c : link_at f (link_at f a 1) 1 ≡ cn_of q = ap (λ (x : Shown). x.cn) e in
      let t : channel_type f (link_at f (link_at f a 1) 1) ≡ type_due o.table (channel_type s q.column.channel) = ap (λ (x : Shown). x.channel.channel_type) e in
      let b : samples f (link_at f a 1) ≡ channel_bytes s q.column.channel = ap (λ (x : Shown). x.group.data_bytes) e in
      let r : le_at 8 f (data_at f (link_at f a 1) + 8) ≡ q.column.group.records = ap (λ (x : Shown). x.group.records) e in
      let m : remote_link f (link_at f a 1) ≡ due_master all q.column.master = ap (λ (x : Shown). x.master) e in
      record {
        typed = ap (channel_type f) (sym c) ∙ t;
        bytes = ap (samples f) (sym g) ∙ b;
        records = ap (λ (x : ℕ). le_at 8 f (data_at f x + 8)) (sym g) ∙ r;
        master = ap (remote_link f) (sym g) ∙ m;
      }

  says_cons : (n a : ℕ) (q : Placed) (ps : List Placed) → shown_from (suc n) f a ≡ due_all o s size all (q ∷ ps)
      → (shown_at f a ≡ due o s size all q) × (shown_from n f (link_at f a 0) ≡ due_all o s size all ps)
  unfolding shown_from due_all if_eq
  says_cons n a q ps e = go (eqb a 0) e
    where
      go : (t : Bool) → pick t [] (shown_at f a ∷ shown_from n f (link_at f a 0)) ≡ due o s size all q ∷ due_all o s size all ps
          → (shown_at f a ≡ due o s size all q) × (shown_from n f (link_at f a 0) ≡ due_all o s size all ps)
      go true e = absurd (none≢one e)
      go false e = (first-same e, rest-same e)

  says_none : (a : ℕ) (q : Placed) (ps : List Placed) → shown_from zero f a ≡ due_all o s size all (q ∷ ps) → ⊥
  unfolding shown_from due_all
  says_none a q ps e = none≢one e

  says_from : (n a : ℕ) (ps : List Placed) → shown_from n f a ≡ due_all o s size all ps → (p : Placed) → In p ps → Says o.table s f all p
  says_from zero a [] e p i = elim i [ ]
  says_from (suc n) a [] e p i = elim i [ ]
  says_from zero a (q ∷ ps) e p i = absurd (says_none a q ps e)
  says_from (suc n) a (q ∷ ps) e p here = says_one a p (says_cons n a p ps e).0
  says_from (suc n) a (q ∷ ps) e p (there j) = says_from n (link_at f a 0) ps (says_cons n a q ps e).1 p j

-- ---- a column's kind: types 2 and 3 are kept by every table, and a signal's channel has neither
module _ (table s : List ℕ) (treats : Treats table) where
  never : {t : ℕ} → treatment table t ≡ 0 → type_due table t ≡ t
  unfolding type_due
  never q = rw q

  master_type : (t : ℕ) → either (eqb t 2) (eqb t 3) ≡ true → treatment table t ≡ 0
  master_type t e = go (eqb t 2) refl e
    where
      go : (b : Bool) → eqb t 2 ≡ b → either b (eqb t 3) ≡ true → treatment table t ≡ 0
      go true q e = treats.masters t (inl (eqb-true t 2 q))
      go false q e = treats.masters t (inr (eqb-true t 3 e))

  other_type : (t : ℕ) → either (eqb t 2) (eqb t 3) ≡ false → either (eqb (type_due table t) 2) (eqb (type_due table t) 3) ≡ false
  unfolding type_due
  other_type t e = go (eqb (treatment table t) 2)
    where
      go : (b : Bool) → either (eqb (pick b 0 t) 2) (eqb (pick b 0 t) 3) ≡ false
      go true = refl
      go false = e

  no_reason : (g c : ℕ) → is_master_type s c ≡ true → reason_for table s g c ≡ 0 → ⊥
  unfolding reason_for is_master_type if_eq
  no_reason g c m e =
      let z : treatment table (channel_type s c) ≡ 0 = master_type (channel_type s c) m in
      go (fits s g c) (rw (z, m) at e)
    where
      go : (b : Bool) → ◌≡◌ {A = ℕ} (pick b 3 2) 0 → ⊥
      go true q = omega (arith, q)
      go false q = omega (arith, q)

  kind_is : (c : Column) (t : Bool) → Kinded table s c t
      → either (eqb (type_due table (channel_type s c.channel)) 2) (eqb (type_due table (channel_type s c.channel)) 3) ≡ t
  unfolding is_master_type
  kind_is c true k = rw (never (master_type (channel_type s c.channel) k.typed)) k.typed
  kind_is c false k = go (is_master_type s c.channel) refl
    where
      go : (b : Bool) → is_master_type s c.channel ≡ b
          → either (eqb (type_due table (channel_type s c.channel)) 2) (eqb (type_due table (channel_type s c.channel)) 3) ≡ false
      go true m = absurd (no_reason c.group.at c.channel m k)
      go false m = other_type (channel_type s c.channel) m

-- ---- a name is copied as it was
text-none : (s : List ℕ) (a : ℕ) → a ≡ 0 → text_at s a ≡ []
unfolding text_at
text-none s a z = sym (eq_yes _ _ _ _ z refl)

text_there : (s : List ℕ) (a : ℕ) → (a ≡ 0 → ⊥) → (kind_at s a ≡ kind_tx) ⊎ (kind_at s a ≡ kind_md) → text_at s a ≡ kind_at s a ∷ part (a + 24) (size_at s a - 24) s
unfolding text_at if_eq
text_there s a z (inl k) = sym (eq_no _ _ _ _ z (eq_yes _ _ _ _ k refl))
text_there s a z (inr k) = sym (eq_no _ _ _ _ z (go (eqb (kind_at s a) kind_tx)))
  where
    go : (b : Bool) → kind_at s a ∷ part (a + 24) (size_at s a - 24) s
        ≡ pick b (kind_at s a ∷ part (a + 24) (size_at s a - 24) s) (if_eq (kind_at s a) kind_md (kind_at s a ∷ part (a + 24) (size_at s a - 24) s) [])
    go true = refl
    go false = eq_yes _ _ _ _ k refl

text_not : (s : List ℕ) (a : ℕ) → (kind_at s a ≡ kind_tx → ⊥) → (kind_at s a ≡ kind_md → ⊥) → text_at s a ≡ []
unfolding text_at if_eq
text_not s a t m = go (eqb a 0)
  where
    go : (b : Bool) → pick b [] (if_eq (kind_at s a) kind_tx (kind_at s a ∷ part (a + 24) (size_at s a - 24) s) (if_eq (kind_at s a) kind_md (kind_at s a ∷ part (a + 24) (size_at s a - 24) s) [])) ≡ []
    go true = refl
    go false = sym (eq_no _ _ _ _ t (eq_no _ _ _ _ m refl))

module _ (s f past : List ℕ) (a b : ℕ) (due : LinkDue 1 s f past a b) where
  not_led : (Leads s a → ⊥) → b ≡ 0
  unfolding LinkDue
  not_led = due.0

  led : Leads s a → SameBlock s f a b
  unfolding LinkDue
  led = due.1

  -- the copy of a text without links
  text-led : CopiedKind (kind_at s a) → (a ≡ 0 → ⊥) → links_at s a ≡ 0 → kind_at f b ∷ part (b + 24) (size_at f b - 24) f ≡ kind_at s a ∷ part (a + 24) (size_at s a - 24) s
  unfolding head_at data_at
  text-led k z n =
      let e = led (record { nonzero = z; kind = k }) in
      let kind : kind_at f b ≡ kind_at s a = ap (λ (h : Head). h.kind) e.head in
      let size : size_at f b ≡ size_at s a = ap (λ (h : Head). h.size) e.head in
      let links : links_at f b ≡ 0 = ap (λ (h : Head). h.links) e.head ∙ n in
      let rest : part (b + 24 + 8 * links_at f b) (size_at f b - (24 + 8 * links_at f b)) f ≡ part (a + 24 + 8 * links_at s a) (size_at s a - (24 + 8 * links_at s a)) s = e.rest in
      cons_same kind (simp (n, links, add-zero) at rest)

  -- where no text stood there is none
  no_text : (kind_at s a ≡ kind_tx → ⊥) → (kind_at s a ≡ kind_md → ⊥) → text_at f b ≡ []
  unfolding text_at if_eq head_at
  no_text t m = go (eqb b 0) refl (eqb (kind_at f b) kind_tx) refl (eqb (kind_at f b) kind_md) refl
    where
      go : (x : Bool) → eqb b 0 ≡ x → (y : Bool) → eqb (kind_at f b) kind_tx ≡ y → (z : Bool) → eqb (kind_at f b) kind_md ≡ z
          → pick x [] (pick y (kind_at f b ∷ part (b + 24) (size_at f b - 24) f) (pick z (kind_at f b ∷ part (b + 24) (size_at f b - 24) f) [])) ≡ []
      go true p y q z r = refl
      go false p true q z r =
          absurd (eqb-false b 0 p (not_led (λ l. t (sym (ap (λ (h : Head). h.kind) (led l).head) ∙ eqb-true (kind_at f b) kind_tx q))))
      go false p false q true r =
          absurd (eqb-false b 0 p (not_led (λ l. m (sym (ap (λ (h : Head). h.kind) (led l).head) ∙ eqb-true (kind_at f b) kind_md r))))
      go false p false q false r = refl

  text_same : links_at s a ≡ 0 → text_at f b ≡ text_at s a
  unfolding head_at
  text_same n = go (eqb a 0) refl (eqb (kind_at s a) kind_tx) refl (eqb (kind_at s a) kind_md) refl
    where
      go : (x : Bool) → eqb a 0 ≡ x → (y : Bool) → eqb (kind_at s a) kind_tx ≡ y → (z : Bool) → eqb (kind_at s a) kind_md ≡ z → text_at f b ≡ text_at s a
      go true p y q z r = text-none f b (not_led (λ l. l.nonzero (eqb-true a 0 p))) ∙ sym (text-none s a (eqb-true a 0 p))
      go false p true q z r =
          let k = eqb-true (kind_at s a) kind_tx q in
          let l : Leads s a = record { nonzero = eqb-false a 0 p; kind = is_tx k } in
          text_there f b (led l).nonzero (inl (ap (λ (h : Head). h.kind) (led l).head ∙ k)) ∙ text-led (is_tx k) (eqb-false a 0 p) n
          ∙ sym (text_there s a (eqb-false a 0 p) (inl k))
      go false p false q true r =
          let k = eqb-true (kind_at s a) kind_md r in
          let l : Leads s a = record { nonzero = eqb-false a 0 p; kind = is_md k } in
          text_there f b (led l).nonzero (inr (ap (λ (h : Head). h.kind) (led l).head ∙ k)) ∙ text-led (is_md k) (eqb-false a 0 p) n
          ∙ sym (text_there s a (eqb-false a 0 p) (inr k))
      go false p false q false r =
          no_text (eqb-false (kind_at s a) kind_tx q) (eqb-false (kind_at s a) kind_md r)
          ∙ sym (text_not s a (eqb-false (kind_at s a) kind_tx q) (eqb-false (kind_at s a) kind_md r))

-- ---- the master's number
cg-at : (s : List ℕ) (size : ℕ) (ps : List Placed) (m : ℕ) → m < length ps
    → (q : FileColumn) × (file_column_at m (file_columns s size ps) ≡ some q) × (get_or (placed_c_gs ps) m 0 ≡ q.cg)
unfolding file_column_at file_columns file_column placed_c_gs
cg-at s size [] m h = absurd (omega arith)
cg-at s size (p ∷ ps) zero h = (file_column s size p, refl, refl)
cg-at s size (p ∷ ps) (suc m) h = cg-at s size ps m (omega arith)

master_is : (s : List ℕ) (size : ℕ) (f : List ℕ) (ps : List Placed) (g : ℕ) (o : Option ℕ) → AllStand f 0 (file_columns s size ps)
    → remote_link f g ≡ due_master ps o → ((m : ℕ) → o ≡ some m → m < length ps) → master_of f (file_columns s size ps) g ≡ o
unfolding master_of
master_is s size f ps g none st e h = sym (eq_yes _ _ _ _ e refl)
master_is s size f ps g (some m) st e h =
    let q = cg-at s size ps m (h m refl) in
    let link : remote_link f g ≡ q.0.cg = e ∙ q.2 in
    let up = above f 0 m (file_columns s size ps) q.0 st q.1 in
    sym (eq_no _ _ _ _ (λ z. omega (arith, link, z)) (rw link (sym (number-at f 0 0 m (file_columns s size ps) q.0 st q.1 ∙ rw zero-add))))

column-below : (k : ℕ) (cs : List Column) (c : Column) → column_at k cs ≡ some c → k < length cs
unfolding column_at
column-below k [] c e = absurd (nothing e)
column-below zero (b ∷ cs) c e = omega arith
column-below (suc k) (b ∷ cs) c e = let h = column-below k cs c e in omega arith

-- ---- a result
module _ (x : Args) (out list : List ℕ) (d : Decided) (bytes : AllBytes x.image) (ident_bytes : AllBytes x.ident)
    (e : answer x (length out) (length list) ≡ ok d) where
  abbrev k : Known x d
  k = answer-known x (length out) (length list) d e

  abbrev room : d.laid_out.file_size_lem ≤ length out
  room = (answer_accepted x (length out) (length list) d e).output_fits

  abbrev s : List ℕ
  s = x.image

  abbrev ps : List Placed
  ps = d.laid_out.placed

  abbrev f : List ℕ
  f = blit 0 (file_of x d.laid_out) out

  abbrev all : List FileColumn
  all = file_columns x.image x.block_size d.laid_out.placed

  g : Guaranteed x d f (blit 0 (omission_words d.planned.omissions) list)
  g = guaranteed x out list d bytes e

  says : (p : Placed) → In p ps → Says x.table s f ps p
  unfolding shown
  says = says_from (rules_of x) s x.block_size f ps (length ps) (link_at f 64 0) ps (g.shows (length ps) (le_refl (length ps)))

  stand : AllStand f 0 all
  stand = (file_stands x d k out room bytes ident_bytes).columns

  asked : (n m : ℕ) (c : Column) → column_at n d.planned.columns ≡ some c → c.master ≡ some m → m < length ps
  asked n m c at named =
      let b = g.named_before n m c at named in
      let l = column-below n d.planned.columns c at in
      omega (arith, cols-many x d k out room bytes ident_bytes, columns-many s x.block_size ps)

  line-due : (n : ℕ) (c : Column) (p : Placed) → column_at n d.planned.columns ≡ some c → p.column ≡ c → In p ps
      → In p.column d.planned.columns → LineDue s n p.column (sheet_line f all n (file_column s x.block_size p))
  unfolding file_column kind_of name_of is_master_type
  line-due n c p at same i j =
      let y = says p i in
      let w = fields f all n (file_column s x.block_size p) in
      record {
        long = length-line f all n (file_column s x.block_size p);
        number = w.number;
        kind = w.kind ∙ rw (y.typed, kind_is x.table s g.treated p.column p.column.is_time_lem (g.kinded p.column j));
        name = λ z. w.name ∙ rw (text_same s f d.laid_out.past.chain (link_at s p.column.channel 2) (link_at f (cn_of p) 2) (g.names p i 1).name z);
        bytes = w.bytes ∙ rw y.bytes;
        records = w.records ∙ rw y.records;
        master = w.master ∙ ap master_in (master_is s x.block_size f ps (cg_of p) p.column.master stand y.master
            (λ m q. asked n m c at (ap (λ (b : Column). b.master) (sym same) ∙ q)));
      }

  pub sheet-due : SheetDue s d.planned.columns f
  sheet-due =
      record {
        columns = all;
        printed = sheet-opened f all (opens x d k out room bytes ident_bytes);
        paged = length-pages f all ∙ ap page_count (cols-many x d k out room bytes ident_bytes);
        as_many = ap length (one-line-each f all) ∙ length-lines f all 0 all ∙ cols-many x d k out room bytes ident_bytes;
        lines = line;
      }
    where
      line : (n : ℕ) (c : Column) → column_at n d.planned.columns ≡ some c → LineDue s n c (get_or (bodies (pages f all)) n [])
      line n c q =
          let a = at x d k out room bytes ident_bytes n c q in
          let p : Placed = a.placed in
          let w = line-due n c p q a.same a.is_in (column_in_lem x d k p a.is_in) in
          let l : get_or (bodies (pages f all)) n [] ≡ sheet_line f all n (file_column s x.block_size p) =
          ap (λ (ls : List (List ℕ)). get_or ls n []) (one-line-each f all) ∙ line_at f all 0 n all (file_column s x.block_size p) a.numbered ∙ rw zero-add in
          subst (λ (b : Column). LineDue s n b (get_or (bodies (pages f all)) n [])) a.same (subst (LineDue s n p.column) (sym l) w)

-- every accepted call: image and identification are bytes, the final bytes are the file laid over the output
pub sheet_promised : (x : Args) (out list : List ℕ) (d : Decided) → AllBytes x.image → AllBytes x.ident
    → answer x (length out) (length list) ≡ ok d → SheetDue x.image d.planned.columns (blit 0 (file_of x d.laid_out) out)
sheet_promised x out list d bytes ident_bytes e = sheet-due x out list d bytes ident_bytes e
