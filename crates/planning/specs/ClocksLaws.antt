-- Laws of one clock for many groups: one for each way of the code, and that the words have for each group the one that stands for it.
use Rattle.std.specs.Prelude.{ℕ, zero, suc, ◌+◌, ◌-◌, ◌≤◌, ◌<◌, Bool, ◌≡◌, length, get_or, set, take, drop}
use mathlib.Core.List.{List, [], ◌∷◌, ◌++◌, append_assoc}
use Rattle.std.proofs.Math.Bool.{true, false}
use Rattle.std.proofs.Common.{⊎_elim, ◌∙◌, add-zero, arith, lt-ltb, length-set, take-add, take_all, length-take-le}
use Rattle.std.proofs.Math.Option.{Option, none, some}
use Rattle.std.proofs.Math.Path.{refl, sym, ap, subst}
use Rattle.std.proofs.Math.Nat.{zero-add}
use Rattle.std.proofs.Math.Seq.{get_or-append_seam}
use Rattle.base.specs.Choice.{pick, if_eq}
use Rattle.base.specs.ChoiceLaws.{eq_yes, eq_no, eq_first}
use Rattle.base.specs.Blit.{part, blit}
use Rattle.base.specs.BlitLaws.{blit-append, blit-one}
use Rattle.mdf.specs.Group.{addresses}
use Rattle.work_words.specs.Words.{fragments_of}
use Rattle.plan.specs.Channel.{keeps_inval}
use Rattle.plan.specs.Columns.{SrcGroup, master_of, on_master}
use Rattle.result.specs.Member.{In, here, there}
use Rattle.result.specs.Payload.{records_of}
use Rattle.result.specs.Sharing.{same, key_of, time_key, with_key, is_compared, time_cells, is_equal, first_equal, stands_for, stands_from, shared_times}
use Rattle.result.specs.SharingLaws.{same_self, same_equal, equals, equal_yes, equal_same, NoneEqual, first-none, stood, shared_at, shared-length, stands_masterless}
use Rattle.plan_laws.specs.Answers.{true≢false, or_not}
use Rattle.plan_laws.specs.Lists.{in_left, in_right, in_cases, in_one, in_none}
use Rattle.comparing.specs.declared.times.Clock.{Clock}
use Rattle.comparing.specs.Comparable.{clock_cells, Comparable, Alike, TimesSame}
use Rattle.planning.specs.declared.table.Entry.{Entry}
use Rattle.planning.specs.TimeWordLaws.{blit_among}
use Rattle.planning.specs.Table.{entry_at, entries_at}
use Rattle.planning.specs.Compared.{shares_key}
use Rattle.planning.specs.ComparedLaws.{key_none, key_some}
use Rattle.planning.specs.Tabled.{Tells, Tabled, an_entry}
use Rattle.planning.specs.TabledLaws.{tells_none, tells_some, tells_nonzero, key_tells, tabled_length}
use Rattle.planning.specs.Clear.{Clear, AllClear}
use Rattle.planning.specs.Clocks.{At, Shown, clock_of, Comparing, SameTimes, StandsSame, Standing, FirstSame, StandsIn, AllStand}

-- ---- a clock

same-clock : (d a m r : ℕ) {n n' : ℕ} → n ≡ n'
    → ◌≡◌ {A = Clock} (record { dg = d; number = n; at = a; master = m; records = r }) (record { dg = d; number = n'; at = a; master = m; records = r })
same-clock d a m r e = rw e

-- the clock of group g with its master m
clock_for : SrcGroup → ℕ → Clock
clock_for g m = record { dg = g.data_group.at; number = g.number; at = g.at; master = m; records = g.records }

clock-told : {s w f : List ℕ} {j : ℕ} {e : Entry} {g : SrcGroup} → Tells s w f j e g → {m : ℕ} → master_of s g ≡ some m → clock_of j e ≡ clock_for g m
unfolding clock_of clock_for
clock-told {j = j} {e} {g} t q =
    let n = t.number in
    let z : 3072 + j - e.groups ≡ g.number = omega arith in
    rw (z, t.dg, t.at, tells_some t q, t.records)

module _ (s : List ℕ) (g : SrcGroup) (m : ℕ) (gs ws : List ℕ) (p : gs ≡ addresses g.data_group.groups) (q : fragments_of ws ≡ g.data_group.fragments) where
  comparable_of : Clear s g m → Comparable s (clock_for g m) gs ws
  unfolding clock_for records_of
  comparable_of c = record {
    is_in = rw p c.within;
    at = rw p c.address;
    plain = c.plain;
    fitting = c.fitting;
    checked = λ h. rw (p, q) (c.checked h);
    small = λ h. rw q (c.small h);
    counted = λ h. rw (p, q) (c.counted h);
  }

  cells_of : clock_cells s (clock_for g m) gs ws ≡ time_cells s g m
  unfolding clock_for time_cells records_of
  cells_of = rw (p, q)

pick_keep : (a b : Bool) → ◌≡◌ {A = ℕ} (pick a 1 0) (pick b 1 0) → a ≡ b
pick_keep true true e = refl
pick_keep true false e = absurd (omega arith)
pick_keep false true e = absurd (omega arith)
pick_keep false false e = refl

alike_of : (s : List ℕ) (g h : SrcGroup) (m k : ℕ) → time_key s g m ≡ time_key s h k → Alike s (clock_for g m) (clock_for h k)
unfolding clock_for time_key key_of
alike_of s g h m k e = record {
  count = ap (λ (l : List ℕ). get_or l 0 0) e;
  bytes = ap (λ (l : List ℕ). get_or l 6 0) e;
  keep = pick_keep (keeps_inval s g.at m) (keeps_inval s h.at k) (ap (λ (l : List ℕ). get_or l 9 0) e);
}

-- ---- two masters
module _ {s w f : List ℕ} {e : Entry} {j : ℕ} {x : Entry} {i : ℕ} where
  module _ {g h : SrcGroup} {m : ℕ} (a : Tells s w f j e g) (b : Tells s w f i x h) (p : master_of s g ≡ some m) where
    shares-none : master_of s h ≡ none → false ≡ shares_key s e x
    shares-none q = key_none s e x (tells_none b q)

    shares-some : {k : ℕ} → master_of s h ≡ some k → same (time_key s g m) (time_key s h k) ≡ shares_key s e x
    shares-some q = key_some s e x (tells_nonzero b q) (rw (key_tells a p, key_tells b q))

  pub same-other : {r : Bool} → r ≡ shares_key s e x → r ≡ false → SameTimes s w f e j x i false
  unfolding is_equal
  same-other q z = record { is = λ g h m a b p c. go g h m a b p (master_of s h) refl }
    where
      go : (g h : SrcGroup) (m : ℕ) → Tells s w f j e g → Tells s w f i x h → master_of s g ≡ some m → (o : Option ℕ) → master_of s h ≡ o
          → false ≡ on_master o false (λ k. is_equal s g m h k)
      go g h m a b p none u = refl
      go g h m a b p (some k) u = rw (shares-some a b p u, ← q, z)

  module _ {r : Bool} (q : r ≡ shares_key s e x) (z : r ≡ true) (gs ws hs vs : List ℕ) (y1 : gs ≡ part e.groups e.count w)
      (y2 : ws ≡ part e.fragments e.words f) (y3 : hs ≡ part x.groups x.count w) (y4 : vs ≡ part x.fragments x.words f) where
    pub same-cells : {c d : Clock} {t : Bool} → c ≡ clock_of j e → d ≡ clock_of i x → TimesSame s c gs ws d hs vs t → SameTimes s w f e j x i t
    unfolding is_equal
    same-cells {c} {d} {t} k l v = record { is = λ g h m a b p n. go g h m a b p n (master_of s h) refl }
      where
        go : (g h : SrcGroup) (m : ℕ) → Tells s w f j e g → Tells s w f i x h → master_of s g ≡ some m → Comparing s g m h → (o : Option ℕ) → master_of s h ≡ o
            → t ≡ on_master o false (λ k. is_equal s g m h k)
        go g h m a b p n none u = absurd (true≢false (sym z ∙ q ∙ sym (shares-none a b p u)))
        go g h m a b p n (some k') u =
            let key : same (time_key s g m) (time_key s h k') ≡ true = shares-some a b p u ∙ sym q ∙ z in
            let both-clear = n k' u key in
            let g1 : gs ≡ addresses g.data_group.groups = y1 ∙ a.groups in
            let w1 : fragments_of ws ≡ g.data_group.fragments = ap fragments_of y2 ∙ a.fragments in
            let g2 : hs ≡ addresses h.data_group.groups = y3 ∙ b.groups in
            let w2 : fragments_of vs ≡ h.data_group.fragments = ap fragments_of y4 ∙ b.fragments in
            let v' : TimesSame s (clock_for g m) gs ws (clock_for h k') hs vs t = rw (k ∙ clock-told a p, l ∙ clock-told b u) at v in
            let r' = v' (comparable_of s g m gs ws g1 w1 both-clear.0) (comparable_of s h k' hs vs g2 w2 both-clear.1) (alike_of s g h m k' (same_equal _ _ key)) in
            rw (key, ← cells_of s g m gs ws g1 w1, ← cells_of s h k' hs vs g2 w2) r'

  module _ (l : List ℕ) {y : ℕ} (q : y ≡ get_or l i 0) where
    pub stands_other : (y ≡ 0 → ⊥) → StandsSame s w f e j x i l false
    stands_other z = record { is = λ g h m a b p c. eq_no _ _ _ _ (λ n. z (q ∙ n)) refl }

    pub stands_first : y ≡ 0 → {r : Bool} → SameTimes s w f e j x i r → StandsSame s w f e j x i l r
    stands_first z t = record { is = λ g h m a b p c. eq_yes _ _ _ _ (sym q ∙ z) (t.is g h m a b p c) }

-- ---- a group by its number
at_first_lem : (g : SrcGroup) (gs : List SrcGroup) → At (g ∷ gs) 0 g
at_first_lem g gs = record { low = omega arith; whole = refl; front = refl }

at-later : (h : SrcGroup) {gs : List SrcGroup} {j : ℕ} {g : SrcGroup} → At gs j g → At (h ∷ gs) (suc j) g
at-later h {gs} {j} {g} a =
    let e : suc j + 1 ≡ suc (j + 1) = omega arith in
    let l = a.low in
    record { low = omega arith; whole = rw e (ap (λ (k : List SrcGroup). h ∷ k) a.whole); front = rw e (ap (λ (k : List SrcGroup). h ∷ k) a.front) }

record ToldAt (s w f t : List ℕ) (gs : List SrcGroup) (k i : ℕ) : Type 0 where
  group : SrcGroup
  at : At gs i group
  tells : Tells s w f (k + i) (entry_at t (k + i)) group

told-from : (s w f t : List ℕ) (k n i : ℕ) (gs : List SrcGroup) → Tabled s w f k (entries_at t k n) gs → i < n → ToldAt s w f t gs k i
unfolding entries_at
told-from s w f t k zero i gs b h = absurd (omega arith)
told-from s w f t k (suc n) zero [] b h = elim b [ ]
told-from s w f t k (suc n) (suc i) [] b h = elim b [ ]
told-from s w f t k (suc n) zero (g ∷ gs) (an_entry x more) h = record { group = g; at = at_first_lem g gs; tells = subst (λ (m : ℕ). Tells s w f m (entry_at t m) g) (sym (add-zero k)) x }
told-from s w f t k (suc n) (suc i) (g ∷ gs) (an_entry x more) h =
    let r = told-from s w f t (k + 1) n i gs more (omega arith) in
    let e : k + suc i ≡ k + 1 + i = omega arith in
    record { group = r.group; at = at-later g r.at; tells = subst (λ (m : ℕ). Tells s w f m (entry_at t m) r.group) (sym e) r.tells }

told_at : {s w f t : List ℕ} {n : ℕ} {gs : List SrcGroup} → Shown s w f t n gs → (i : ℕ) → i < n → ToldAt s w f t gs 0 i
told_at {s} {w} {f} {t} {n} {gs} h i l = told-from s w f t 0 n i gs h.tabled l

-- an earlier group
record Earlier (gs : List SrcGroup) (i j : ℕ) (h : SrcGroup) : Type 0 where
  after : List SrcGroup
  is : take j gs ≡ take i gs ++ (h ∷ after)

earlier : {gs : List SrcGroup} {i : ℕ} {h : SrcGroup} (j : ℕ) → At gs i h → i < j → Earlier gs i j h
earlier {gs} {i} {h} j a l =
    let e : j ≡ i + 1 + (j - (i + 1)) = omega arith in
    record {
      after = take (j - (i + 1)) (drop (i + 1) gs);
      is = ap (λ (k : ℕ). take k gs) e ∙ take-add (i + 1) (j - (i + 1)) gs ∙ ap (λ (l : List SrcGroup). l ++ take (j - (i + 1)) (drop (i + 1) gs)) a.front
          ∙ append_assoc (take i gs) (h ∷ []) (take (j - (i + 1)) (drop (i + 1) gs));
    }

-- ---- two groups with one key are compared
with_append : (s key : List ℕ) (gs hs : List SrcGroup) → with_key s key (gs ++ hs) ≡ with_key s key gs + with_key s key hs
unfolding with_key
with_append s key [] hs = omega arith
with_append s key (g ∷ gs) hs = omega (arith, with_append s key gs hs)

with_in : (s key : List ℕ) (gs : List SrcGroup) (g : SrcGroup) (m : ℕ) → In g gs → master_of s g ≡ some m → time_key s g m ≡ key → 0 < with_key s key gs
unfolding with_key
with_in s key [] g m x3 e k = elim x3 [ ]
with_in s key (h ∷ gs) g m here e k = rw (e, k, same_self) (omega arith)
with_in s key (h ∷ gs) g m (there i) e k = omega (arith, with_in s key gs g m i e k)

compared_by : (s : List ℕ) (all : List SrcGroup) (g : SrcGroup) (m : ℕ) → master_of s g ≡ some m → 1 < with_key s (time_key s g m) all → is_compared s all g ≡ true
unfolding is_compared
compared_by s all g m e l = rw e (lt-ltb 1 (with_key s (time_key s g m) all) l)

module _ (s : List ℕ) {gs : List SrcGroup} {j : ℕ} {g h : SrcGroup} {m k : ℕ} (a : At gs j g) (i : In h (take j gs))
    (p : master_of s g ≡ some m) (q : master_of s h ≡ some k) (e : time_key s g m ≡ time_key s h k) where
  with_two : (key : List ℕ) → time_key s g m ≡ key → 1 < with_key s key gs
  with_two key z =
      let x = ap (with_key s key) a.whole ∙ with_append s key (take j gs) (g ∷ drop (j + 1) gs) in
      omega (arith, x, with_in s key (take j gs) h k i q (sym e ∙ z), with_in s key (g ∷ drop (j + 1) gs) g m here p z)

  later_compared : is_compared s gs g ≡ true
  later_compared = compared_by s gs g m p (with_two (time_key s g m) refl)

  earlier_compared : is_compared s gs h ≡ true
  earlier_compared = compared_by s gs h k q (with_two (time_key s h k) e)

in_whole : {gs : List SrcGroup} {j : ℕ} {g : SrcGroup} → At gs j g → In g gs
in_whole {gs} {j} {g} a = subst (λ (l : List SrcGroup). In g l) (sym a.whole) (in_right (take j gs) here)

in_front_lem : {gs : List SrcGroup} {j : ℕ} {g h : SrcGroup} → At gs j g → In h (take j gs) → In h gs
in_front_lem {gs} {j} {g} {h} a i = subst (λ (l : List SrcGroup). In h l) (sym a.whole) (in_left (g ∷ drop (j + 1) gs) i)

can_compare : (s : List ℕ) {gs : List SrcGroup} → AllClear s gs → {j : ℕ} {g h : SrcGroup} {m : ℕ} → At gs j g → master_of s g ≡ some m → In h (take j gs)
    → Comparing s g m h
can_compare s c {h = h} {m} a p i k q key =
    let e = same_equal _ _ key in
    (c _ (in_whole a) (later_compared s a i p q e) m p, c h (in_front_lem a i) (earlier_compared s a i p q e) k q)

-- ---- the first equal
pub record Unlike (s w f t l : List ℕ) (j : ℕ) (e : Entry) (i : ℕ) : Type 0 where
  pub room : i ≤ j
  pub none : (n : ℕ) (gs : List SrcGroup) (g : SrcGroup) (m : ℕ) → Shown s w f t n gs → j < n → At gs j g → Tells s w f j e g → master_of s g ≡ some m
      → Standing s gs l j → NoneEqual s g m (take i gs)

pub first_begin : {s w f t l : List ℕ} {j : ℕ} {e : Entry} → Unlike s w f t l j e 0
first_begin = record { room = omega arith; none = λ n gs g m a b c d p q h i. absurd (in_none i) }

first_found : (s : List ℕ) (g : SrcGroup) (m : ℕ) (before : List SrcGroup) (h : SrcGroup) (after : List SrcGroup) (k : ℕ) → NoneEqual s g m before → master_of s h ≡ some k
    → is_equal s g m h k ≡ true → h.at ≡ first_equal s g m (before ++ (h ∷ after))
unfolding first_equal
first_found s g m [] h after k n p q = rw (p, q)
first_found s g m (a ∷ before) h after k n p q = go (first_found s g m before h after k (λ b i. n b (there i)) p q) (master_of s a) refl
  where
    go : h.at ≡ first_equal s g m (before ++ (h ∷ after)) → (o : Option ℕ) → master_of s a ≡ o
        → h.at ≡ on_master o (first_equal s g m (before ++ (h ∷ after))) (λ k. pick (is_equal s g m a k) a.at (first_equal s g m (before ++ (h ∷ after))))
    go later none e = later
    go later (some c) e = rw (n a here c e) later

some_same : {a b : ℕ} {o : Option ℕ} → o ≡ some a → o ≡ some b → a ≡ b
some_same e f = cc

-- a group that another stands for is not the first equal
not_stood : (s : List ℕ) (g : SrcGroup) (m : ℕ) (hs : List SrcGroup) (h : SrcGroup) (k : ℕ) → NoneEqual s g m hs → master_of s h ≡ some k → (stands_for s hs h ≡ 0 → ⊥)
    → is_equal s g m h k ≡ true → ⊥
not_stood s g m hs h k n p z q =
    let o = stood s hs h z in
    let own : o.own ≡ k = some_same o.master p in
    let i : In o.by hs = subst (λ (l : List SrcGroup). In o.by l) (sym o.earlier) (in_right o.before here) in
    let x : is_equal s h k o.by o.theirs ≡ true = equal_yes s h k o.by o.theirs (rw own at o.equal) in
    true≢false (sym x ∙ equal_same (equals s g m h k q) o.by o.theirs ∙ n o.by i o.theirs o.standing)

module _ {s w f t l : List ℕ} {j : ℕ} {e : Entry} {i : ℕ} (u : Unlike s w f t l j e i) where
  pub first_end : j ≤ i → FirstSame s w f t l j e 0
  first_end z =
      let r = u.room in
      let q : i ≡ j = omega arith in
      record { is = λ n gs g m a b c d p v. sym (first-none s g m (take j gs) (rw q at (u.none n gs g m a b c d p v))) }

  module _ (z : i < j) {x : Entry} (y : x ≡ entry_at t i) {r : Bool} (v : StandsSame s w f e j x i l r) where
    module _ (n : ℕ) (gs : List SrcGroup) (g : SrcGroup) (m : ℕ) (a : Shown s w f t n gs) (b : j < n) (c : At gs j g) (d : Tells s w f j e g) (p : master_of s g ≡ some m)
        (o : Standing s gs l j) where
      there_at : ToldAt s w f t gs 0 i
      there_at = told_at a i (omega arith)

      it : SrcGroup
      it = there_at.group

      it_at : At gs i it
      unfolding it
      it_at = there_at.at

      it_tells : Tells s w f i x it
      unfolding it
      it_tells = subst (λ (k : Entry). Tells s w f i k there_at.group) (sym y) (rw zero-add at there_at.tells)

      it_in : In it (take j gs)
      it_in = let k = earlier j it_at z in subst (λ (l : List SrcGroup). In it l) (sym k.is) (in_right (take i gs) here)

      answer : r ≡ if_eq (get_or l i 0) 0 (on_master (master_of s it) false (λ k. is_equal s g m it k)) false
      answer = v.is g it m d it_tells p (can_compare s a.clear c p it_in)

      found : r ≡ true → x.at ≡ first_equal s g m (take j gs)
      found h = go (master_of s it) refl (eq_first _ _ _ _ (sym answer ∙ h) (λ k. true≢false (sym k))).1
        where
          go : (q : Option ℕ) → master_of s it ≡ q → on_master q false (λ k. is_equal s g m it k) ≡ true → x.at ≡ first_equal s g m (take j gs)
          go none q k = absurd (true≢false (sym k))
          go (some k') q k =
              let b' = earlier j it_at z in
              it_tells.at ∙ first_found s g m (take i gs) it b'.after k' (u.none n gs g m a b c d p o) q k ∙ ap (first_equal s g m) (sym b'.is)

      it_unlike : r ≡ false → (k : ℕ) → master_of s it ≡ some k → is_equal s g m it k ≡ false
      it_unlike h k q = go (is_equal s g m it k) refl
        where
          go : (b' : Bool) → is_equal s g m it k ≡ b' → is_equal s g m it k ≡ false
          go false k' = k'
          go true k' = absurd (or_not (get_or l i 0) 0
              (λ k0. true≢false (sym k' ∙ rw q at (eq_yes _ _ (on_master (master_of s it) false (λ k. is_equal s g m it k)) false k0 refl ∙ sym answer ∙ h)))
              (λ k0. not_stood s g m (take i gs) it k (u.none n gs g m a b c d p o) q (λ k1. k0 (o i it z it_at ∙ k1)) k'))

      none_more : r ≡ false → NoneEqual s g m (take (i + 1) gs)
      none_more h y' i' k q = ⊎_elim
          (λ j'. u.none n gs g m a b c d p o y' j' k q)
          (λ j'. let e' = in_one j' in rw e' (it_unlike h k (rw e' at q)))
          (in_cases (take i gs) (rw it_at.front at i'))

    pub first_hit : r ≡ true → FirstSame s w f t l j e x.at
    first_hit h = record { is = λ n gs g m a b c d p o. found n gs g m a b c d p o h }

    pub first_on : r ≡ false → Unlike s w f t l j e (i + 1)
    first_on h = record { room = omega arith; none = λ n gs g m a b c d p o. none_more n gs g m a b c d p o h }

-- ---- the group that stands for group j
module _ {s w f t l : List ℕ} {j : ℕ} {x : Entry} (y : x ≡ entry_at t j) where
  pub stands_none : x.master ≡ 0 → StandsIn s w f t l j 0
  stands_none z = record { is = λ n gs g a b c d o. go gs g (rw (← y) at d) (master_of s g) refl }
    where
      go : (gs : List SrcGroup) (g : SrcGroup) → Tells s w f j x g → (q : Option ℕ) → master_of s g ≡ q → 0 ≡ stands_for s (take j gs) g
      go gs g d none q = sym (stands_masterless s (take j gs) g q)
      go gs g d (some m) q = absurd (tells_nonzero d q z)

  pub stands_some : (x.master ≡ 0 → ⊥) → {r : ℕ} → FirstSame s w f t l j x r → StandsIn s w f t l j r
  unfolding stands_for
  stands_some z {r} v = record { is = λ n gs g a b c d o. go n gs g a b c (rw (← y) at d) o (master_of s g) refl }
    where
      go : (n : ℕ) (gs : List SrcGroup) (g : SrcGroup) → Shown s w f t n gs → j < n → At gs j g → Tells s w f j x g → Standing s gs l j
          → (q : Option ℕ) → master_of s g ≡ q → r ≡ stands_for s (take j gs) g
      go n gs g a b c d o none q = absurd (z (tells_none d q))
      go n gs g a b c d o (some m) q = rw q (v.is n gs g m a b c d q o)

-- ---- all groups
pub record StandLeft (s w f t : List ℕ) (n : ℕ) (l₀ : List ℕ) (j : ℕ) (l : List ℕ) : Type 0 where
  pub room : j ≤ n
  pub same : length l ≡ length l₀
  pub is : (gs : List SrcGroup) → Shown s w f t n gs → l ≡ blit 0 (shared_times s (take j gs)) l₀

pub stand_begin : {s w f t : List ℕ} {n : ℕ} {l : List ℕ} → StandLeft s w f t n l 0 l
unfolding shared_times stands_from blit
stand_begin = record { room = omega arith; same = refl; is = λ gs a. refl }

entries-length : (t : List ℕ) (k n : ℕ) → length (entries_at t k n) ≡ n
unfolding entries_at
entries-length t k zero = refl
entries-length t k (suc n) = ap suc (entries-length t (k + 1) n)

shown-length : {s w f t : List ℕ} {n : ℕ} {gs : List SrcGroup} → Shown s w f t n gs → length gs ≡ n
shown-length {t = t} {n} a = sym (tabled_length a.tabled) ∙ entries-length t 0 n

standing-of : (s : List ℕ) (gs : List SrcGroup) (j : ℕ) (l₀ : List ℕ) {l : List ℕ} → j ≤ length gs → j ≤ length l₀
    → l ≡ blit 0 (shared_times s (take j gs)) l₀ → Standing s gs l j
standing-of s gs j l₀ h k e i g z a =
    let b = earlier j a z in
    let n : length (shared_times s (take i gs)) ≡ i = shared-length s (take i gs) ∙ length-take-le i gs (omega arith) in
    let all : length (shared_times s (take j gs)) ≡ j = shared-length s (take j gs) ∙ length-take-le j gs h in
    let y : get_or (blit 0 (shared_times s (take j gs)) l₀) i 0 ≡ get_or (shared_times s (take j gs)) i 0 =
    rw zero-add at (blit_among (shared_times s (take j gs)) 0 i l₀ (omega arith) (omega arith)) in
    let x : shared_times s (take j gs) ≡ shared_times s (take i gs) ++ (stands_for s (take i gs) g ∷ stands_from s (take i gs ++ (g ∷ [])) b.after) =
    ap (shared_times s) b.is ∙ shared_at s (take i gs) g b.after in
    rw e (y ∙ ap (λ (m : List ℕ). get_or m i 0) x
    ∙ ap (λ (k : ℕ). get_or (shared_times s (take i gs) ++ (stands_for s (take i gs) g ∷ stands_from s (take i gs ++ (g ∷ [])) b.after)) k 0) (sym n)
    ∙ get_or-append_seam (shared_times s (take i gs)) (stands_for s (take i gs) g) _ 0)

shared-more : (s : List ℕ) (gs : List SrcGroup) (j : ℕ) (g : SrcGroup) → At gs j g
    → shared_times s (take (j + 1) gs) ≡ shared_times s (take j gs) ++ (stands_for s (take j gs) g ∷ [])
unfolding stands_from
shared-more s gs j g a = ap (shared_times s) a.front ∙ shared_at s (take j gs) g []

module _ {s w f t : List ℕ} {n : ℕ} {l₀ : List ℕ} {j : ℕ} {l : List ℕ} (u : StandLeft s w f t n l₀ j l) where
  pub stand_end : n ≤ j → AllStand s w f t n l₀ l
  stand_end h = record { is = λ gs a. (let k = shown-length a in u.is gs a ∙ ap (λ (m : List SrcGroup). blit 0 (shared_times s m) l₀) (take_all j gs (omega arith))) }

  module _ (few : n ≤ 512) (long : 512 ≤ length l₀) (h : j < n) {x : ℕ} (v : StandsIn s w f t l j x) {l' : List ℕ} (k : l' ≡ set l j x) where
    stood-more : (gs : List SrcGroup) → Shown s w f t n gs → l' ≡ blit 0 (shared_times s (take (j + 1) gs)) l₀
    stood-more gs a =
        let d = told_at a j h in
        let m = shown-length a in
        let e = u.is gs a in
        let b : Tells s w f j (entry_at t j) d.group = rw zero-add at d.tells in
        let y : x ≡ stands_for s (take j gs) d.group = v.is n gs d.group a h d.at b (standing-of s gs j l₀ (omega arith) (omega arith) e) in
        let z : 0 + length (shared_times s (take j gs)) ≡ j = (let q = shared-length s (take j gs) in let r = length-take-le j gs (omega arith) in omega arith) in
        let c : blit 0 (shared_times s (take (j + 1) gs)) l₀ ≡ set l j x =
        ap (λ (m : List ℕ). blit 0 m l₀) (shared-more s gs j d.group d.at) ∙ blit-append (shared_times s (take j gs)) 0 (stands_for s (take j gs) d.group ∷ []) l₀
        ∙ rw (z, ← e, ← y) (blit-one j x l) in
        k ∙ sym c

    pub stand-on : StandLeft s w f t n l₀ (j + 1) l'
    stand-on = record { room = omega arith; same = ap length k ∙ length-set l j x ∙ u.same; is = stood-more }
