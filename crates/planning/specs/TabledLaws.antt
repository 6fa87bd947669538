-- The table of a recording that was read tells its groups, and what is checked out of the table is what is checked of the groups.
use Rattle.std.specs.Prelude.{ℕ, suc, ◌+◌, ◌*◌, ◌-◌, ◌≤◌, ◌<◌, min, Bool, true, ◌≡◌, get_or, take, drop}
use mathlib.Core.List.{List, [], ◌∷◌, ◌++◌}
use Rattle.std.proofs.Math.Bool.{false}
use Rattle.std.proofs.Math.Option.{Option, none, some}
use Rattle.std.proofs.Math.Path.{refl, sym, ap}
use Rattle.std.proofs.Common.{◌∙◌, add-one, ltb-true, ltb-false, drop-cons}
use native.Mathlib.Omega.{arith}
use Rattle.std.proofs.Math.Dec.{ltb}
use Rattle.std.proofs.Math.ListN.{length, length-append}
use Rattle.std.proofs.Math.Seq.{drop_at}
use Rattle.base.specs.Choice.{pick, if_eq, if_lt}
use Rattle.base.specs.ChoiceLaws.{lt_yes, eq_yes, eq_no}
use Rattle.base.specs.Blit.{part}
use Rattle.base.specs.Checked.{ok, refused, and_then, Verdict, fine}
use Rattle.mdf.specs.Chain.{Fragment}
use Rattle.mdf.specs.Name.{name_at}
use Rattle.mdf.specs.Walk.{Item, dg, cg, cn, level_cg, tally}
use Rattle.mdf.specs.Group.{Group, DataGroup, addresses, groups_of, channels_of, up_to, data_groups_of}
use Rattle.mdf.specs.Records.{unsorted_frames}
use Rattle.mdf.specs.Count.{count_groups}
use Rattle.work_words.specs.Words.{fragment_words, fragments_of, group_words}
use Rattle.plan.specs.Columns.{SrcGroup, with_counts, src_groups, master_of, own_master, on_master}
use Rattle.result.specs.Member.{here, there}
use Rattle.result.specs.Sharing.{same, unit_of, key_of, time_key, units_in, stream_in, streams_in, with_key, is_compared, any_compared, compared_in}
use Rattle.result.specs.SharingLaws.{same_equal}
use Rattle.plan_laws.specs.Answers.{with_ok}
use Rattle.plan_laws.specs.WalkLaws.{Open}
use Rattle.plan_laws.specs.GroupLaws.{Counted, no_more, and_more, addresses-length, count_length}
use Rattle.reading.specs.Holding.{Stands}
use Rattle.reading.specs.StandsLaws.{stands_front, stands_back, stands_at, stands_as_lem}
use Rattle.planning.specs.declared.table.Owner.{Owner}
use Rattle.planning.specs.declared.table.Entry.{Entry}
use Rattle.planning.specs.FlatLaws.{Counts}
use Rattle.planning.specs.DataWordsLaws.{fragments_part}
use Rattle.planning.specs.Table.{owner_of, nobody, entry_in, entries}
use Rattle.planning.specs.Compared.{each_over, unit_over, entry_key, shares_key, keyed_over, compared_over, any_over, stream_over}
use Rattle.planning.specs.Tabled.{Tells, Tabled, no_entries, an_entry, Nonzero, alone_in, all_alone_in}

-- ---- what a DG's words say

record Owned (w f : List ℕ) (o : Owner) (d : DataGroup) : Type 0 where
  dg : o.dg ≡ d.at
  count : o.count ≡ length d.groups
  groups : part o.groups o.count w ≡ addresses d.groups
  fragments : fragments_of (part o.fragments o.words f) ≡ d.fragments

-- the groups past the next DG
rest-words : List Item → List ℕ
rest-words [] = []
rest-words (dg a m ∷ is) = group_words is
rest-words (cg a ∷ is) = rest-words is
rest-words (cn a ∷ is) = rest-words is

front-words : (is : List Item) → group_words is ≡ addresses (groups_of is) ++ rest-words is
unfolding group_words groups_of addresses rest-words
front-words [] = refl
front-words (dg a m ∷ is) = refl
front-words (cg a ∷ is) = ap (λ (l : List ℕ). a ∷ l) (front-words is)
front-words (cn a ∷ is) = front-words is

-- where there are none it is of no matter where they begin
begin_any : (f : List ℕ) (m e : ℕ) → part (if_lt m e (3 * m) 0) (3 * (e - m)) f ≡ part (3 * m) (3 * (e - m)) f
unfolding part
begin_any f m e = go (ltb m e) refl
  where
    go : (t : Bool) → ltb m e ≡ t → take (3 * (e - m)) (drop (if_lt m e (3 * m) 0) f) ≡ take (3 * (e - m)) (drop (3 * m) f)
    go true q = ap (λ (k : ℕ). take (3 * (e - m)) (drop k f)) (sym (lt_yes _ _ _ _ (ltb-true m e q) refl))
    go false q = let h = ltb-false m e q in let z : 3 * (e - m) ≡ 0 = omega arith in rw z

count_next : (ns : List ℕ) (j : ℕ) → j < length ns → drop j ns ≡ get_or ns j 0 ∷ drop (j + 1) ns
count_next ns j h = rw (add-one j) (drop-cons ns j 0 h)

module _ (s w f ns : List ℕ) (fs : List Fragment) (c : Counts w ns) (walked : Stands f 0 (fragment_words fs)) where
  owned_by : (a m j : ℕ) (is : List Item) → Stands w (3072 + j) (group_words is)
      → Owned w f (owner_of (length fs) a m j is) (record { at = a; fragments = part m (up_to (length fs) is - m) fs; groups = groups_of is })
  unfolding owner_of
  owned_by a m j is t = record {
    dg = refl;
    count = refl;
    groups = rw (addresses-length (groups_of is)) at (stands_front (addresses (groups_of is)) (rest-words is) (stands_as_lem t (front-words is))).is;
    fragments = ap fragments_of (begin_any f m (min (up_to (length fs) is) (length fs))) ∙ fragments_part f fs (up_to (length fs) is) m walked;
  }

  told : (o : Owner) (d : DataGroup) (k j a : ℕ) (is : List Item) {n : ℕ} → Owned w f o d → o.groups + k ≡ 3072 + j → get_or w (3584 + j) 0 ≡ n
      → ((m : ℕ) → master_of s (record { data_group = d; number = k; at = a; channels = channels_of is; records = n }) ≡ some m → m ≡ 0 → ⊥)
      → Tells s w f j (entry_in s w o j a is) (record { data_group = d; number = k; at = a; channels = channels_of is; records = n })
  unfolding entry_in master_of
  told o d k j a is h e r z = record {
    at = refl;
    master = refl;
    nonzero = z;
    records = r;
    dg = h.dg;
    count = h.count;
    number = e;
    groups = h.groups;
    fragments = h.fragments;
  }

  owner_first : (a m j : ℕ) (is : List Item) → (owner_of (length fs) a m j is).groups + 0 ≡ 3072 + j
  unfolding owner_of
  owner_first a m j is = omega arith

  next-group : (a j : ℕ) (ws : List ℕ) → Stands w (3072 + j) (a ∷ ws) → Stands w (3072 + (j + 1)) ws
  next-group a j ws t = stands_at (stands_back (a ∷ []) ws t) (omega arith)

  tabled_from : (is : List Item) (d : DataGroup) (o : Owner) (k j : ℕ) → Owned w f o d → Stands w (3072 + j) (group_words is) → o.groups + k ≡ 3072 + j
      → j + tally level_cg.own is ≤ length ns
      → Nonzero s (with_counts d k (groups_of is) (drop j ns) ++ src_groups (data_groups_of fs is) (drop (length (groups_of is)) (drop j ns)))
      → Tabled s w f j (entries s w (length fs) o j is)
      (with_counts d k (groups_of is) (drop j ns) ++ src_groups (data_groups_of fs is) (drop (length (groups_of is)) (drop j ns)))
  unfolding group_words entries tally groups_of data_groups_of with_counts src_groups
  tabled_from [] d o k j h t e l z = no_entries
  tabled_from (dg a m ∷ is) d o k j h t e l z = tabled_from is _ _ 0 j (owned_by a m j is t) t (owner_first a m j is) (omega arith) z
  tabled_from (cg a ∷ is) d o k j h t e l z =
      let b : j < length ns = omega arith in
      let y = rw (count_next ns j b) at z in
      let more = tabled_from is d o (k + 1) (j + 1) h (next-group a j (group_words is) t) (omega arith) (omega arith) (λ g i. y g (there i)) in
      rw (count_next ns j b) (an_entry (told o d k j a is h e (c.at j b) (y _ here)) more)
  tabled_from (cn a ∷ is) d o k j h t e l z = tabled_from is d o k j h t e (omega arith) z

  pub tabled_open : (is : List Item) → Open is → Stands w 3072 (group_words is) → tally level_cg.own is ≤ length ns → Nonzero s (src_groups (data_groups_of fs is) ns)
      → Tabled s w f 0 (entries s w (length fs) nobody 0 is) (src_groups (data_groups_of fs is) ns)
  unfolding group_words entries tally data_groups_of src_groups
  tabled_open [] o t l z = no_entries
  tabled_open (dg a m ∷ is) o t l z = tabled_from is _ _ 0 0 (owned_by a m 0 is t) t (owner_first a m 0 is) (omega arith) z
  tabled_open (cg a ∷ is) o t l z = absurd o
  tabled_open (cn a ∷ is) o t l z = absurd o

pub tabled_length : {s w f : List ℕ} {j : ℕ} {es : List Entry} {gs : List SrcGroup} → Tabled s w f j es gs → length es ≡ length gs
tabled_length no_entries = refl
tabled_length (an_entry t more) = ap suc (tabled_length more)

-- ---- masters and keys

on_same : {A : Type 0} (o : Option ℕ) (a : A) (h k : ℕ → A) → ((m : ℕ) → h m ≡ k m) → on_master o a h ≡ on_master o a k
on_same none a h k e = refl
on_same (some m) a h k e = e m

same_flip : (xs ys : List ℕ) → same xs ys ≡ same ys xs
same_flip xs ys = go (same xs ys) (same ys xs) refl refl
  where
    go : (a b : Bool) → same xs ys ≡ a → same ys xs ≡ b → same xs ys ≡ same ys xs
    go true b p q = let e = same_equal xs ys p in rw e
    go false true p q = let e = same_equal ys xs q in rw e
    go false false p q = p ∙ sym q

module _ {s w f : List ℕ} {j : ℕ} {e : Entry} {g : SrcGroup} (t : Tells s w f j e g) where
  pub tells_none : master_of s g ≡ none → e.master ≡ 0
  tells_none q = t.master ∙ ap own_master q

  pub tells_some : {m : ℕ} → master_of s g ≡ some m → e.master ≡ m
  tells_some q = t.master ∙ ap own_master q

  pub tells_nonzero : {m : ℕ} → master_of s g ≡ some m → e.master ≡ 0 → ⊥
  tells_nonzero {m} q z = t.nonzero m q (sym (tells_some q) ∙ z)

  master_tells : {A : Type 0} (a : A) (h : ℕ → A) → if_eq e.master 0 a (h e.master) ≡ on_master (master_of s g) a h
  master_tells a h = go (master_of s g) refl
    where
      go : (o : Option ℕ) → master_of s g ≡ o → if_eq e.master 0 a (h e.master) ≡ on_master o a h
      go none q = sym (eq_yes _ _ _ _ (tells_none q) refl)
      go (some m) q = sym (eq_no _ _ _ _ (tells_nonzero q) refl) ∙ ap h (tells_some q)

  pub key_tells : {m : ℕ} → master_of s g ≡ some m → entry_key s e ≡ time_key s g m
  unfolding time_key
  key_tells q = rw (t.records, t.at, tells_some q)

  unit_tells : unit_over s e ≡ on_master (master_of s g) fine (λ m. name_at s (unit_of s m))
  unfolding unit_over
  unit_tells = master_tells fine (λ m. name_at s (unit_of s m))

  shares_tells : (x : Entry) (key : List ℕ) → entry_key s x ≡ key → shares_key s x e ≡ on_master (master_of s g) false (λ m. same (time_key s g m) key)
  unfolding shares_key time_key
  shares_tells x key q =
      master_tells false (λ m. same (entry_key s x) (key_of s e.records e.at m))
      ∙ on_same (master_of s g) false _ _ (λ m. rw (q, t.records, t.at) (same_flip key (key_of s g.records g.at m)))

pub units_tabled : {s w f : List ℕ} {j : ℕ} {es : List Entry} {gs : List SrcGroup} → Tabled s w f j es gs → each_over (unit_over s) es ≡ units_in s gs
unfolding each_over units_in
units_tabled no_entries = refl
units_tabled (an_entry t more) = rw (unit_tells t, units_tabled more)

-- ---- compared groups
pick-on : (o : Option ℕ) (h : ℕ → Bool) → ◌≡◌ {A = ℕ} (pick (on_master o false h) 1 0) (on_master o 0 (λ m. pick (h m) 1 0))
pick-on none h = refl
pick-on (some m) h = refl

keyed_tabled : {s w f : List ℕ} {j : ℕ} {es : List Entry} {gs : List SrcGroup} → Tabled s w f j es gs → (x : Entry) (key : List ℕ) → entry_key s x ≡ key
    → keyed_over s x es ≡ with_key s key gs
unfolding keyed_over with_key
keyed_tabled no_entries x key q = refl
keyed_tabled {s} (an_entry {g = g} t more) x key q =
    rw (shares_tells t x key q, pick-on (master_of s g) (λ m. same (time_key s g m) key), keyed_tabled more x key q)

module _ {s w f : List ℕ} {all : List Entry} {groups : List SrcGroup} (whole : Tabled s w f 0 all groups) where
  compared_tells : {j : ℕ} {e : Entry} {g : SrcGroup} → Tells s w f j e g → compared_over s all e ≡ is_compared s groups g
  unfolding compared_over is_compared
  compared_tells {e = e} {g} t = go (master_of s g) refl
    where
      go : (o : Option ℕ) → master_of s g ≡ o → if_eq e.master 0 false (ltb 1 (keyed_over s e all)) ≡ on_master o false (λ m. ltb 1 (with_key s (time_key s g m) groups))
      go none q = sym (eq_yes _ _ _ _ (tells_none t q) refl)
      go (some m) q = sym (eq_no _ _ _ _ (tells_nonzero t q) refl) ∙ ap (ltb 1) (keyed_tabled whole e (time_key s g m) (key_tells t q))

  any_tabled : (d : ℕ) {j : ℕ} {es : List Entry} {gs : List SrcGroup} → Tabled s w f j es gs → any_over s all d es ≡ any_compared s groups d gs
  unfolding any_over any_compared
  any_tabled d no_entries = refl
  any_tabled d (an_entry t more) = rw (compared_tells t, t.dg, any_tabled d more)

  stream_tells : {j : ℕ} {e : Entry} {g : SrcGroup} → Tells s w f j e g → stream_over s f all e ≡ alone_in s groups g
  unfolding stream_over alone_in
  stream_tells {e = e} t = rw (any_tabled e.dg whole, t.count, t.dg, t.at, t.fragments)

  streams_tells : {j : ℕ} {es : List Entry} {gs : List SrcGroup} → Tabled s w f j es gs → each_over (stream_over s f all) es ≡ all_alone_in s groups gs
  unfolding each_over all_alone_in
  streams_tells no_entries = refl
  streams_tells (an_entry t more) = rw (stream_tells t, streams_tells more)

-- ---- DG by DG
module _ (s : List ℕ) (all : List SrcGroup) where
  alone-append : (l m : List SrcGroup) → all_alone_in s all (l ++ m) ≡ and_then (all_alone_in s all l) (λ _. all_alone_in s all m)
  unfolding all_alone_in
  alone-append [] m = refl
  alone-append (g ∷ l) m = rw (alone-append l m) (go (alone_in s all g))
    where
      go : (v : Verdict) → and_then v (λ _. and_then (all_alone_in s all l) (λ _. all_alone_in s all m))
          ≡ and_then (and_then v (λ _. all_alone_in s all l)) (λ _. all_alone_in s all m)
      go (ok x) = refl
      go (refused x p) = refl

  -- one of several is passed
  alone_not : (d : DataGroup) → (length d.groups ≡ 1 → ⊥) → (k : ℕ) (gs : List Group) (ns : List ℕ) → all_alone_in s all (with_counts d k gs ns) ≡ fine
  unfolding all_alone_in alone_in with_counts
  alone_not d h k [] ns = refl
  alone_not d h k (g ∷ gs) [] = refl
  alone_not d h k (g ∷ gs) (n ∷ ns) = rw (alone_not d h (k + 1) gs ns) (sym (on_fine _ (eq_no _ _ _ _ h refl)))
    where
      on_fine : (v : Verdict) → fine ≡ v → fine ≡ and_then v (λ _. fine)
      on_fine v e = rw (← e)

  pick-fine : (b : Bool) → fine ≡ pick b fine fine
  pick-fine true = refl
  pick-fine false = refl

  alone-one : (d : DataGroup) (g : Group) (n : ℕ) (ns : List ℕ) → length d.groups ≡ 1
      → all_alone_in s all (with_counts d 0 (g ∷ []) (n ∷ ns)) ≡ pick (any_compared s all d.at all) (stream_in s d.at g.at d.fragments) fine
  unfolding all_alone_in alone_in with_counts
  alone-one d g n ns h = ap (λ (v : Verdict). and_then v (λ _. fine)) (sym (eq_yes _ _ _ _ h refl)) ∙ end _
    where
      end : (v : Verdict) → and_then v (λ _. fine) ≡ v
      end (ok x) = refl
      end (refused x p) = refl

  alone_of : (d : DataGroup) {ms : List ℕ} → count_groups s d.at (addresses d.groups) d.fragments ≡ ok ms → (gs : List Group) (ns : List ℕ) → d.groups ≡ gs
      → length gs ≤ length ns
      → all_alone_in s all (with_counts d 0 gs ns) ≡ pick (any_compared s all d.at all) (streams_in s d.at (addresses gs) d.fragments) fine
  unfolding addresses all_alone_in with_counts count_groups
  alone_of d e [] ns q l = pick-fine (any_compared s all d.at all)
  alone_of d e (g ∷ []) [] q l = absurd (omega arith)
  alone_of d e (g ∷ []) (n ∷ ns) q l = alone-one d g n ns (ap length q)
  alone_of d e (g ∷ h ∷ gs) ns q l =
      let z : length d.groups ≡ 1 → ⊥ = λ y. (let x = ap length q in omega (arith, x, y)) in
      alone_not d z 0 (g ∷ h ∷ gs) ns ∙ with_ok (unsorted_frames s d.at (addresses (g ∷ h ∷ gs)) d.fragments) _ (rw q at e) (λ rs i k.
      rw i (pick-fine (any_compared s all d.at all)))

  compared_alone : (ds : List DataGroup) (ns : List ℕ) → Counted s ds ns → compared_in s all ds ≡ all_alone_in s all (src_groups ds ns)
  unfolding compared_in src_groups all_alone_in
  compared_alone [] ns no_more = refl
  compared_alone (d ∷ ds) ns (and_more ms rest e c r) =
      let l : length ms ≡ length d.groups = count_length s d.at (addresses d.groups) d.fragments ms c ∙ addresses-length d.groups in
      let n = length-append ms rest in
      rw (
        e,
        alone-append (with_counts d 0 d.groups (ms ++ rest)) (src_groups ds (drop (length d.groups) (ms ++ rest))),
        alone_of d c d.groups (ms ++ rest) refl (omega arith),
        drop_at ms rest (length d.groups) l,
        compared_alone ds rest r,
      )

-- the data of all compared groups
pub streams_tabled : {s w f : List ℕ} {all : List Entry} (ds : List DataGroup) (ns : List ℕ) → Counted s ds ns → Tabled s w f 0 all (src_groups ds ns)
    → each_over (stream_over s f all) all ≡ compared_in s (src_groups ds ns) ds
streams_tabled {s} ds ns c t = streams_tells t t ∙ sym (compared_alone s (src_groups ds ns) ds ns c)
