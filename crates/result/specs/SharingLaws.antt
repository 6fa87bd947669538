-- Laws of sharing: what equal time columns have in common, which group stands, what is checked of a group's data.
use Rattle.std.specs.Prelude.{ℕ, suc, ◌+◌, ◌<◌, List, [], ◌∷◌, ◌++◌, Bool, true, false, ◌≡◌, refl, eqb, length, replicate}
use Rattle.std.proofs.Common.{append_assoc, append-nil, sym, ap, ◌∙◌, arith, lt-ltb, eqb-true}
use Rattle.std.proofs.lemmas.Bool.{false≢true, eqb-false}
use Rattle.std.proofs.Math.Option.{Option, none, some}
use Rattle.base.specs.Choice.{pick, if_eq}
use Rattle.base.specs.ChoiceLaws.{eq_yes, eq_no}
use Rattle.base.specs.Checked.{refused, and_then, Verdict, fine}
use Rattle.mdf.specs.Chain.{Kind.dt, Fragment}
use Rattle.mdf.specs.Walk.{id_size}
use Rattle.mdf.specs.Group.{samples, inval_bytes}
use Rattle.mdf.specs.Records.{any_dv, ranges_in, record_size, runs, runs_whole, sorted_in}
use Rattle.plan.specs.Channel.{both}
use Rattle.plan.specs.Columns.{SrcGroup, master_of, on_master}
use Rattle.result.specs.Member.{In, here, there}
use Rattle.result.specs.Sharing.{same, key_of, time_key, stream_in, with_key, is_compared, time_cells, is_equal, first_equal, stands_for, stands_from, shared_times}

-- ---- equal lists

pub same_self : (xs : List ℕ) → same xs xs ≡ true
unfolding same
same_self [] = refl
same_self (x ∷ xs) = sym (eq_yes x x _ _ refl (sym (same_self xs)))

pub same_equal : (xs ys : List ℕ) → same xs ys ≡ true → xs ≡ ys
unfolding same
same_equal [] [] e = refl
same_equal [] (y ∷ ys) e = absurd (false≢true e)
same_equal (x ∷ xs) [] e = absurd (false≢true e)
same_equal (x ∷ xs) (y ∷ ys) e = go (same_equal xs ys) (eqb x y) refl
  where
    go : (same xs ys ≡ true → xs ≡ ys) → (t : Bool) → eqb x y ≡ t → ◌≡◌ {A = List ℕ} (x ∷ xs) (y ∷ ys)
    go ih true q =
        let a : x ≡ y = eqb-true x y q in
        let b : xs ≡ ys = ih (eq_yes x y (same xs ys) false a refl ∙ e) in
        cc
    go ih false q = absurd (false≢true (eq_no x y (same xs ys) false (eqb-false x y q) refl ∙ e))

-- by their first elements
pub same_first : (x y : ℕ) (xs ys : List ℕ) → x ≡ y → {r : Bool} → r ≡ same xs ys → r ≡ same (x ∷ xs) (y ∷ ys)
unfolding same
same_first x y xs ys e q = eq_yes x y _ _ e q

pub other-first : (x y : ℕ) (xs ys : List ℕ) → (x ≡ y → ⊥) → false ≡ same (x ∷ xs) (y ∷ ys)
unfolding same
other-first x y xs ys e = eq_no x y _ _ e refl

-- by their lengths
pub other_length : (xs ys : List ℕ) → (length xs ≡ length ys → ⊥) → false ≡ same xs ys
other_length xs ys n = go (same xs ys) refl
  where
    go : (t : Bool) → same xs ys ≡ t → false ≡ same xs ys
    go true q = absurd (n (ap length (same_equal xs ys q)))
    go false q = sym q

-- by parts of one length
pub same_parts : (xs ys us vs : List ℕ) → length xs ≡ length ys → same (xs ++ us) (ys ++ vs) ≡ both (same xs ys) (same us vs)
unfolding same
same_parts [] [] us vs l = refl
same_parts [] (y ∷ ys) us vs l = absurd (omega arith)
same_parts (x ∷ xs) [] us vs l = absurd (omega arith)
same_parts (x ∷ xs) (y ∷ ys) us vs l = go (same_parts xs ys us vs (omega arith)) (eqb x y) refl
  where
    go : same (xs ++ us) (ys ++ vs) ≡ both (same xs ys) (same us vs) → (t : Bool) → eqb x y ≡ t
        → same (x ∷ xs ++ us) (y ∷ ys ++ vs) ≡ both (same (x ∷ xs) (y ∷ ys)) (same us vs)
    go ih true q =
        let e = eqb-true x y q in
        sym (eq_yes x y _ _ e (sym ih)) ∙ ap (λ (b : Bool). both b (same us vs)) (eq_yes x y (same xs ys) false e refl)
    go ih false q =
        let e = eqb-false x y q in
        sym (eq_no x y (same (xs ++ us) (ys ++ vs)) false e refl) ∙ ap (λ (b : Bool). both b (same us vs)) (eq_no x y (same xs ys) false e refl)

-- ---- equal time columns

both_true : (a b : Bool) → both a b ≡ true → (a ≡ true) × (b ≡ true)
both_true true true e = (refl, refl)
both_true true false e = absurd (false≢true e)
both_true false b e = absurd (false≢true e)

-- the master m of group g and the master k of group h: one key, one count of records, the same bytes
pub record Equals (s : List ℕ) (g : SrcGroup) (m : ℕ) (h : SrcGroup) (k : ℕ) : Type 0 where
  pub key : time_key s g m ≡ time_key s h k
  pub records : g.records ≡ h.records
  pub bytes : time_cells s g m ≡ time_cells s h k

abbrev front : List ℕ → ℕ
front [] = 0
front (x ∷ xs) = x

pub equals : (s : List ℕ) (g : SrcGroup) (m : ℕ) (h : SrcGroup) (k : ℕ) → is_equal s g m h k ≡ true → Equals s g m h k
unfolding is_equal time_key key_of
equals s g m h k e =
    let t = both_true (same (time_key s g m) (time_key s h k)) (same (time_cells s g m) (time_cells s h k)) e in
    let a = same_equal (time_key s g m) (time_key s h k) t.0 in
    record { key = a; records = ap front a; bytes = same_equal (time_cells s g m) (time_cells s h k) t.1 }

pub equal_yes : (s : List ℕ) (g : SrcGroup) (m : ℕ) (h : SrcGroup) (k : ℕ) → Equals s g m h k → is_equal s g m h k ≡ true
unfolding is_equal
equal_yes s g m h k e = rw (e.key, e.bytes) (simp same_self)

-- either way round
pub equal_sym : (s : List ℕ) (g : SrcGroup) (m : ℕ) (h : SrcGroup) (k : ℕ) → is_equal s g m h k ≡ false → is_equal s h k g m ≡ false
equal_sym s g m h k e = go (is_equal s h k g m) refl
  where
    go : (t : Bool) → is_equal s h k g m ≡ t → t ≡ false
    go true q =
        let r = equals s h k g m q in
        absurd (false≢true (sym e ∙ equal_yes s g m h k (record { key = sym r.key; records = sym r.records; bytes = sym r.bytes })))
    go false q = refl

-- equals have the same equals
pub equal_same : {s : List ℕ} {g : SrcGroup} {m : ℕ} {h : SrcGroup} {k : ℕ} → Equals s g m h k → (f : SrcGroup) (c : ℕ)
    → is_equal s h k f c ≡ is_equal s g m f c
unfolding is_equal
equal_same e f c = rw (e.key, e.bytes)

-- ---- which stands

-- none of the groups equals g with its master m
abbrev pub NoneEqual : List ℕ → SrcGroup → ℕ → List SrcGroup → Type 0
NoneEqual s g m hs = (h : SrcGroup) → In h hs → (k : ℕ) → master_of s h ≡ some k → is_equal s g m h k ≡ false

-- the first of the groups hs that does
pub record FirstEqual (s : List ℕ) (g : SrcGroup) (m : ℕ) (hs : List SrcGroup) : Type 0 where
  pub by : SrcGroup
  pub before : List SrcGroup
  pub after : List SrcGroup
  pub earlier : hs ≡ before ++ (by ∷ after)
  pub at : by.at ≡ first_equal s g m hs
  pub theirs : ℕ
  pub master : master_of s by ≡ some theirs
  pub equal : Equals s g m by theirs
  pub first : NoneEqual s g m before

some_same : {j k : ℕ} {o : Option ℕ} → o ≡ some j → o ≡ some k → j ≡ k
some_same e f = cc

in_length : {h : SrcGroup} {hs : List SrcGroup} → In h hs → 0 < length hs
in_length here = omega arith
in_length (there i) = omega arith

none≢some : {k : ℕ} → ◌≡◌ {A = Option ℕ} none (some k) → ⊥
none≢some e = let z : ◌≡◌ {A = ℕ} 0 1 = cc in omega arith

pub first-none : (s : List ℕ) (g : SrcGroup) (m : ℕ) (hs : List SrcGroup) → NoneEqual s g m hs → first_equal s g m hs ≡ 0
unfolding first_equal
first-none s g m [] n = refl
first-none s g m (h ∷ hs) n = go (first-none s g m hs (λ f i. n f (there i))) (master_of s h) refl
  where
    go : first_equal s g m hs ≡ 0 → (o : Option ℕ) → master_of s h ≡ o
        → on_master o (first_equal s g m hs) (λ k. pick (is_equal s g m h k) h.at (first_equal s g m hs)) ≡ 0
    go later none e = later
    go later (some k) e = rw (n h here k e) later

-- a group that doesn't equal g, in front
first_more : {s : List ℕ} {g : SrcGroup} {m : ℕ} (h : SrcGroup) {hs : List SrcGroup}
    → ((k : ℕ) → master_of s h ≡ some k → is_equal s g m h k ≡ false) → first_equal s g m (h ∷ hs) ≡ first_equal s g m hs
    → FirstEqual s g m hs → FirstEqual s g m (h ∷ hs)
first_more {s} {g} {m} h {hs} n e f = record {
  by = f.by;
  before = h ∷ f.before;
  after = f.after;
  earlier = ap (λ (l : List SrcGroup). h ∷ l) f.earlier;
  at = f.at ∙ sym e;
  theirs = f.theirs;
  master = f.master;
  equal = f.equal;
  first = none_more;
}
  where
    none_more : NoneEqual s g m (h ∷ f.before)
    none_more a here k = n k
    none_more a (there i) k = f.first a i k

pub first_equal_lem : (s : List ℕ) (g : SrcGroup) (m : ℕ) (hs : List SrcGroup) → (first_equal s g m hs ≡ 0 → ⊥) → FirstEqual s g m hs
unfolding first_equal
first_equal_lem s g m [] n = absurd (n refl)
first_equal_lem s g m (h ∷ hs) n = go (first_equal_lem s g m hs) (master_of s h) refl
  where
    Case : Option ℕ → ℕ
    Case o = on_master o (first_equal s g m hs) (λ k. pick (is_equal s g m h k) h.at (first_equal s g m hs))

    go : ((first_equal s g m hs ≡ 0 → ⊥) → FirstEqual s g m hs) → (o : Option ℕ) → master_of s h ≡ o → FirstEqual s g m (h ∷ hs)
    go ih none e =
        let c : first_equal s g m (h ∷ hs) ≡ first_equal s g m hs = ap Case e in
        first_more h (λ k q. absurd (none≢some (sym e ∙ q))) c (ih (λ z. n (c ∙ z)))
    go ih (some k) e = at_master ih (is_equal s g m h k) refl
      where
        at_master : ((first_equal s g m hs ≡ 0 → ⊥) → FirstEqual s g m hs) → (t : Bool) → is_equal s g m h k ≡ t → FirstEqual s g m (h ∷ hs)
        at_master ih true q = record {
          by = h;
          before = [];
          after = hs;
          earlier = refl;
          at = sym (ap Case e ∙ ap (λ (b : Bool). pick b h.at (first_equal s g m hs)) q);
          theirs = k;
          master = e;
          equal = equals s g m h k q;
          first = λ a i. absurd (omega (arith, in_length i));
        }
        at_master ih false q =
            let c : first_equal s g m (h ∷ hs) ≡ first_equal s g m hs = ap Case e ∙ ap (λ (b : Bool). pick b h.at (first_equal s g m hs)) q in
            first_more h (λ c r. rw (some_same e r) at q) c (ih (λ z. n (c ∙ z)))

-- none found, none equal, where no group stands at 0: the first of the groups doesn't equal g, and none is found among the others
none_here : (s : List ℕ) (g : SrcGroup) (m : ℕ) (h : SrcGroup) (hs : List SrcGroup) → (h.at ≡ 0 → ⊥) → first_equal s g m (h ∷ hs) ≡ 0
    → ((k : ℕ) → master_of s h ≡ some k → is_equal s g m h k ≡ false) × (first_equal s g m hs ≡ 0)
unfolding first_equal
none_here s g m h hs n e = go (master_of s h) refl
  where
    Case : Option ℕ → ℕ
    Case o = on_master o (first_equal s g m hs) (λ c. pick (is_equal s g m h c) h.at (first_equal s g m hs))

    Found : Type 0
    Found = ((k : ℕ) → master_of s h ≡ some k → is_equal s g m h k ≡ false) × (first_equal s g m hs ≡ 0)

    at_master : (c : ℕ) → master_of s h ≡ some c → (t : Bool) → is_equal s g m h c ≡ t → Found
    at_master c w true y = absurd (n (sym (ap Case w ∙ ap (λ (b : Bool). pick b h.at (first_equal s g m hs)) y) ∙ e))
    at_master c w false y =
        (λ k q. rw (some_same w q) at y, sym (ap Case w ∙ ap (λ (b : Bool). pick b h.at (first_equal s g m hs)) y) ∙ e)

    go : (o : Option ℕ) → master_of s h ≡ o → Found
    go none w = (λ k q. absurd (none≢some (sym w ∙ q)), sym (ap Case w) ∙ e)
    go (some c) w = at_master c w (is_equal s g m h c) refl

pub none_first : (s : List ℕ) (g : SrcGroup) (m : ℕ) (hs : List SrcGroup) → ((h : SrcGroup) → In h hs → h.at ≡ 0 → ⊥) → first_equal s g m hs ≡ 0 → NoneEqual s g m hs
none_first s g m [] n e f x = elim x [ ]
none_first s g m (h ∷ hs) n e f here = (none_here s g m h hs (n h here) e).0
none_first s g m (h ∷ hs) n e f (there i) = none_first s g m hs (λ a j. n a (there j)) (none_here s g m h hs (n h here) e).1 f i

-- the group that stands for g, which comes after the groups hs: it is one of them, g equals it, and it stands for itself
pub record Stood (s : List ℕ) (hs : List SrcGroup) (g : SrcGroup) : Type 0 where
  pub by : SrcGroup
  pub before : List SrcGroup
  pub after : List SrcGroup
  pub earlier : hs ≡ before ++ (by ∷ after)
  pub at : by.at ≡ stands_for s hs g
  pub own : ℕ
  pub master : master_of s g ≡ some own
  pub theirs : ℕ
  pub standing : master_of s by ≡ some theirs
  pub equal : Equals s g own by theirs
  pub first : NoneEqual s g own before
  pub itself : stands_for s before by ≡ 0

pub stood : (s : List ℕ) (hs : List SrcGroup) (g : SrcGroup) → (stands_for s hs g ≡ 0 → ⊥) → Stood s hs g
unfolding stands_for
stood s hs g n = go (master_of s g) refl
  where
    Case : Option ℕ → ℕ
    Case o = on_master o 0 (λ m. first_equal s g m hs)

    go : (o : Option ℕ) → master_of s g ≡ o → Stood s hs g
    go none e = absurd (n (ap Case e))
    go (some m) e =
        let c : stands_for s hs g ≡ first_equal s g m hs = ap Case e in
        let f = first_equal_lem s g m hs (λ z. n (c ∙ z)) in
        record {
          by = f.by;
          before = f.before;
          after = f.after;
          earlier = f.earlier;
          at = f.at ∙ sym c;
          own = m;
          master = e;
          theirs = f.theirs;
          standing = f.master;
          equal = f.equal;
          first = f.first;
          itself = ap (λ (o : Option ℕ). on_master o 0 (λ k. first_equal s f.by k f.before)) f.master
              ∙ first-none s f.by f.theirs f.before (λ h i k q. equal_same f.equal h k ∙ f.first h i k q);
        }

-- ---- a group that another stands for is compared, and so is the one that stands

with_append : (s key : List ℕ) (gs hs : List SrcGroup) → with_key s key (gs ++ hs) ≡ with_key s key gs + with_key s key hs
unfolding with_key
with_append s key [] hs = omega arith
with_append s key (g ∷ gs) hs = omega (arith, with_append s key gs hs)

with_first : (s key : List ℕ) (g : SrcGroup) (gs : List SrcGroup) (m : ℕ) → master_of s g ≡ some m → time_key s g m ≡ key → 0 < with_key s key (g ∷ gs)
unfolding with_key
with_first s key g gs m e k = rw (e, k, same_self) (omega arith)

compared_by : (s : List ℕ) (all : List SrcGroup) (g : SrcGroup) (m : ℕ) → master_of s g ≡ some m → 1 < with_key s (time_key s g m) all
    → is_compared s all g ≡ true
unfolding is_compared
compared_by s all g m e l = rw e (lt-ltb 1 (with_key s (time_key s g m) all) l)

module _ {s : List ℕ} {hs : List SrcGroup} {g : SrcGroup} (o : Stood s hs g) (gs : List SrcGroup) where
  with_both : (key : List ℕ) → time_key s o.by o.theirs ≡ key → time_key s g o.own ≡ key → 1 < with_key s key (hs ++ (g ∷ gs))
  with_both key a b =
      let x = with_append s key hs (g ∷ gs) in
      let y : with_key s key hs ≡ with_key s key o.before + with_key s key (o.by ∷ o.after)
      = ap (with_key s key) o.earlier ∙ with_append s key o.before (o.by ∷ o.after) in
      omega (arith, with_first s key o.by o.after o.theirs o.standing a, with_first s key g gs o.own o.master b)

  pub stood_compared : is_compared s (hs ++ (g ∷ gs)) g ≡ true
  stood_compared = compared_by s _ g o.own o.master (with_both _ (sym o.equal.key) refl)

  pub standing_compared : is_compared s (hs ++ (g ∷ gs)) o.by ≡ true
  standing_compared = compared_by s _ o.by o.theirs o.standing (with_both _ refl o.equal.key)

-- ---- the list beside the groups

pub stands_append : (s : List ℕ) (hs gs fs : List SrcGroup) → stands_from s hs (gs ++ fs) ≡ stands_from s hs gs ++ stands_from s (hs ++ gs) fs
unfolding stands_from
stands_append s hs [] fs = simp append-nil
stands_append s hs (g ∷ gs) fs = rw (stands_append s (hs ++ (g ∷ [])) gs fs, append_assoc hs (g ∷ []) gs)

-- the number of g, which comes after the groups hs
pub shared_at : (s : List ℕ) (hs : List SrcGroup) (g : SrcGroup) (gs : List SrcGroup)
    → shared_times s (hs ++ (g ∷ gs)) ≡ shared_times s hs ++ (stands_for s hs g ∷ stands_from s (hs ++ (g ∷ [])) gs)
unfolding shared_times stands_from
shared_at s hs g gs = stands_append s [] hs (g ∷ gs)

stands_length : (s : List ℕ) (hs gs : List SrcGroup) → length (stands_from s hs gs) ≡ length gs
unfolding stands_from
stands_length s hs [] = refl
stands_length s hs (g ∷ gs) = ap suc (stands_length s (hs ++ (g ∷ [])) gs)

pub shared-length : (s : List ℕ) (gs : List SrcGroup) → length (shared_times s gs) ≡ length gs
unfolding shared_times
shared-length s gs = stands_length s [] gs

-- without a master
pub stands_masterless : (s : List ℕ) (hs : List SrcGroup) (g : SrcGroup) → master_of s g ≡ none → stands_for s hs g ≡ 0
unfolding stands_for
stands_masterless s hs g e = rw e

stands_zeros : (s : List ℕ) (hs gs : List SrcGroup) → ((g : SrcGroup) → In g gs → master_of s g ≡ none) → stands_from s hs gs ≡ replicate (length gs) 0
unfolding stands_from
stands_zeros s hs [] n = refl
stands_zeros s hs (g ∷ gs) n = rw (stands_masterless s hs g (n g here), stands_zeros s (hs ++ (g ∷ [])) gs (λ h i. n h (there i)))

pub shared_masterless : (s : List ℕ) (gs : List SrcGroup) → ((g : SrcGroup) → In g gs → master_of s g ≡ none)
    → shared_times s gs ≡ replicate (length gs) 0
unfolding shared_times
shared_masterless s gs n = stands_zeros s [] gs n

-- ---- the data of a group that is alone in its DG

-- the ranges, then whole records
abbrev read_in : List ℕ → ℕ → ℕ → List Fragment → Verdict
read_in s d g fs = and_then (ranges_in s fs) (λ _. runs_whole s d g (runs fs))

module _ (s : List ℕ) (d g : ℕ) (fs : List Fragment) where
  sorted_dt : any_dv fs ≡ false → sorted_in s d g fs ≡ read_in s d g fs
  unfolding sorted_in
  sorted_dt e = rw e

  sorted_dv : any_dv fs ≡ true → inval_bytes s g ≡ 0 → sorted_in s d g fs ≡ read_in s d g fs
  unfolding sorted_in
  sorted_dv e z = rw (e, ← eq_yes (inval_bytes s g) 0 fine (refused 14 d) z refl)

  sorted-14 : any_dv fs ≡ true → (inval_bytes s g ≡ 0 → ⊥) → sorted_in s d g fs ≡ refused 14 d
  unfolding sorted_in
  sorted-14 e z = rw (e, ← eq_no (inval_bytes s g) 0 fine (refused 14 d) z refl)

  -- DT alone: read where a record has bytes
  stream_dt : any_dv fs ≡ false → stream_in s d g fs ≡ if_eq (record_size s d g dt) 0 fine (read_in s d g fs)
  unfolding stream_in
  stream_dt e = rw e

  stream_dv : any_dv fs ≡ true
      → stream_in s d g fs ≡ if_eq (inval_bytes s g) 0 (if_eq (samples s g) 0 fine (read_in s d g fs)) (refused 14 d)
  unfolding stream_in
  stream_dv e = rw e

  -- a record with samples or invalidation bytes: as for a nonempty column
  pub stream_sorted : 0 < samples s g + inval_bytes s g → stream_in s d g fs ≡ sorted_in s d g fs
  stream_sorted h = go (any_dv fs) refl
    where
      of-dv : any_dv fs ≡ true → (t : Bool) → eqb (inval_bytes s g) 0 ≡ t → stream_in s d g fs ≡ sorted_in s d g fs
      of-dv e true q =
          let z : inval_bytes s g ≡ 0 = eqb-true (inval_bytes s g) 0 q in
          stream_dv e ∙ sym (eq_yes _ _ _ _ z (eq_no _ _ _ _ (λ y. omega arith) (sorted_dv e z)))
      of-dv e false q =
          let z : inval_bytes s g ≡ 0 → ⊥ = eqb-false (inval_bytes s g) 0 q in
          stream_dv e ∙ sym (eq_no _ _ _ _ z (sorted-14 e z))

      go : (t : Bool) → any_dv fs ≡ t → stream_in s d g fs ≡ sorted_in s d g fs
      go true e = of-dv e (eqb (inval_bytes s g) 0) refl
      go false e = stream_dt e ∙ sym (eq_no _ _ _ _ (λ y. omega arith) (sorted_dt e))

  -- DT alone with ids
  pub stream_ids : any_dv fs ≡ false → 0 < id_size s d → stream_in s d g fs ≡ sorted_in s d g fs
  stream_ids e h = stream_dt e ∙ sym (eq_no _ _ _ _ (λ y. omega arith) (sorted_dt e))

  -- a record without samples and invalidation bytes: nothing is read where there is DV, or where it has no id
  pub stream_empty_dv : any_dv fs ≡ true → samples s g ≡ 0 → inval_bytes s g ≡ 0 → stream_in s d g fs ≡ fine
  stream_empty_dv e a b = stream_dv e ∙ sym (eq_yes _ _ _ _ b (eq_yes _ _ _ _ a refl))

  pub stream_empty_dt : any_dv fs ≡ false → id_size s d ≡ 0 → samples s g ≡ 0 → inval_bytes s g ≡ 0 → stream_in s d g fs ≡ fine
  stream_empty_dt e c a b = stream_dt e ∙ sym (eq_yes _ _ _ _ (omega arith) refl)
