-- The counts DG by DG, over the words: where the loop stands, and one DG of it.
use Prim.Native.Nat.{ℕ, zero, suc, ◌+◌, ◌*◌, ◌-◌, ◌≤◌, ◌<◌}
use mathlib.Core.List.{List, [], ◌∷◌, ◌++◌, append_assoc}
use Rattle.std.proofs.Math.Path.{◌≡◌, refl, sym, ap}
use Rattle.std.proofs.Common.{◌∙◌, add-zero, zero-add}
use native.Mathlib.Omega.{arith}
use Rattle.std.proofs.Math.ListN.{length, length-append}
use Rattle.std.specs.Prelude.{get_or}
use borrow.Rule.Slice.PartMut.{put_mid, mid_of}
use Rattle.base.specs.Choice.{if_lt}
use Rattle.base.specs.ChoiceLaws.{lt_yes, lt_no, lt_back}
use Rattle.base.specs.Blit.{part, blit}
use Rattle.base.specs.BlitLaws.{blit-lent, blit-append}
use Rattle.base.specs.Checked.{Checked, ok, refused, and_then}
use Rattle.std.specs.Prelude.{Result, Ok, Err, ⊤}
use Rattle.fields.specs.declared.refusal.Refusal.{Refusal}
use Rattle.fields.specs.Answer.{verdict_of}
use Rattle.records.specs.Several.{laid, laid_counts}
use Rattle.mdf.specs.Chain.{Fragment}
use Rattle.mdf.specs.Walk.{Item, dg, cg, cn, level_dg, level_cg, level_cn, tally, most_items}
use Rattle.mdf.specs.Group.{DataGroup, addresses, groups_of, up_to, data_groups_of, data_groups}
use Rattle.mdf.specs.Count.{count_one, count_groups, tallies, counts_from, counts}
use Rattle.mdf.specs.Records.{Frame, unsorted_frames}
use Rattle.work_words.specs.Words.{marks_at, groups_at, address_words, mark_words, group_words, fragment_words, fragments_of}
use Rattle.chains.specs.KeptLaws.{words_back, length-words}
use Rattle.reading.specs.declared.answer.Span.{Span}
use Rattle.reading.specs.Steps.{refused_as, after}
use Rattle.reading.specs.Sound.{Rising, next-dg, Starts, empty, first-dg}
use Rattle.reading.specs.Holding.{Stands, Holding}
use Rattle.reading.specs.StandsLaws.{stands_front, stands_back, stands_head, stands_at, stands_as_lem, stands_part}
use Rattle.reading.specs.Spans.{own_marks, own_groups, marks_from, span_at}
use Rattle.reading.specs.ItemLaws.{address-append, mark-append, own, later, own-later, own_marks_lem, own_groups_lem, later-starts, later_groups, later_up_to, own-addresses, later_rising, rising_least, rising_most, part_fragments}
use Rattle.reading.specs.WordsLaws.{length-addresses, length_marks, length_groups, group-append, tally-append}
use Rattle.reading.specs.CheckedLaws.{refused≢ok, ok≢refused, ok_same}
use Rattle.reading.specs.Counting.{end_at, Ready, counted_dg, counted_all, Counted}

-- ---- the counts of a DG, laid in a lent part of the words
lent : (v : Checked (List ℕ)) (k g : ℕ) (c : List ℕ) (r : Result ⊤ Refusal) (ys : List ℕ) → laid (verdict_of r) ys ≡ laid_counts v k (mid_of g (length c - g) c)
    → after r (put_mid g (length c - g) c ys) ≡ and_then v (λ ns. ok (blit g ns c))
lent (ok ns) k g c (Ok u) ys e =
    let m : ys ≡ blit 0 ns (mid_of g (length c - g) c) = cc in
    ap (λ (l : List ℕ). ok (put_mid g (length c - g) c l)) m ∙ rw (blit-lent g 0 ns c, add-zero)
lent (ok ns) k g c (Err y) ys e = absurd (let z : ◌≡◌ {A = ℕ} 0 1 = cc in omega arith)
lent (refused y p) k g c (Ok u) ys e = absurd (let z : ◌≡◌ {A = ℕ} 0 1 = cc in omega arith)
lent (refused y p) k g c (Err z) ys e = cc

pub count_lent : (s w f : List ℕ) (i g groups end : ℕ) (c : List ℕ) (k : ℕ) (r : Result ⊤ Refusal) (ys : List ℕ)
    → laid (verdict_of r) ys ≡ laid_counts (count_groups s (get_or w i 0) (mid_of (groups_at + g) (groups_at + g + groups - (groups_at + g)) w)
    (fragments_of (mid_of (3 * (get_or w (marks_at + i) 0 - 2)) (3 * end - 3 * (get_or w (marks_at + i) 0 - 2)) f))) k (mid_of g (length c - g) c)
    → after r (put_mid g (length c - g) c ys) ≡ counted_dg s w f i g groups end c
unfolding counted_dg part
count_lent s w f i g groups end c k r ys e =
    let m = get_or w (marks_at + i) 0 - 2 in
    let p : groups_at + g + groups - (groups_at + g) ≡ groups = omega arith in
    let q : 3 * end - 3 * m ≡ 3 * (end - m) = omega arith in
    lent (count_groups s (get_or w i 0) (part (groups_at + g) groups w) (fragments_of (part (3 * m) (3 * (end - m)) f))) k g c r ys (e ∙ rw (p, q))

-- ---- how many items there are
pub total : (is : List Item) → length is ≡ tally level_dg.own is + tally level_cg.own is + tally level_cn.own is
unfolding tally
total [] = refl
total (dg a n ∷ is) = let h = total is in omega arith
total (cg a ∷ is) = let h = total is in omega arith
total (cn a ∷ is) = let h = total is in omega arith

pub held-room : {w f : List ℕ} {n nf : ℕ} → Holding w f n nf → n ≤ 1536
held-room h = let s = h.sound in let b = h.blocks in omega (arith, total h.st.items)

-- as many counts as groups
length-tallies : (n k : ℕ) (rs : List Frame) → length (tallies n k rs) ≡ n
unfolding tallies
length-tallies zero k rs = refl
length-tallies (suc n) k rs = ap suc (length-tallies n (k + 1) rs)

length-one : (s : List ℕ) (d g : ℕ) (fs : List Fragment) {ns : List ℕ} → count_one s d g fs ≡ ok ns → length ns ≡ 1
unfolding count_one
length-one s d g fs e =
    let a = lt_back _ _ _ _ e refused≢ok in
    let b = lt_back _ _ _ _ a.1 refused≢ok in
    let c = lt_back _ _ _ _ b.1 refused≢ok in
    ap length (sym (ok_same c.1))

pub length-counts : (s : List ℕ) (d : ℕ) (gs : List ℕ) (fs : List Fragment) {ns : List ℕ} → count_groups s d gs fs ≡ ok ns → length ns ≡ length gs
unfolding count_groups
length-counts s d [] fs e = ap length (sym (ok_same e))
length-counts s d (g ∷ []) fs e = length-one s d g fs e
length-counts s d (g ∷ h ∷ gs) fs e = go (unsorted_frames s d (g ∷ h ∷ gs) fs) e
  where
    go : (v : Checked (List Frame)) {ns : List ℕ} → and_then v (λ rs. ok (tallies (length (g ∷ h ∷ gs)) 0 rs)) ≡ ok ns → length ns ≡ length (g ∷ h ∷ gs)
    go (ok rs) f = ap length (sym (ok_same f)) ∙ length-tallies (length (g ∷ h ∷ gs)) 0 rs
    go (refused y p) f = absurd (refused≢ok f)

-- ---- where the loop stands: the items before and from block i on, and the counts of the groups before
pub record At (s : List ℕ) {w f : List ℕ} {n nf : ℕ} (h : Holding w f n nf) (c₀ : List ℕ) (i g : ℕ) (c : List ℕ) : Type 0 where
  pub before : List Item
  pub rest : List Item
  pub done : List ℕ
  pub least : ℕ
  pub split : h.st.items ≡ before ++ rest
  pub passed : i ≡ length before
  pub groups : g ≡ tally level_cg.own before
  pub starts : Starts rest
  pub rising : Rising least rest (length h.st.fragments)
  pub counted : g ≡ length done
  pub words : c ≡ blit 0 done c₀
  pub same : counts_from s (data_groups_of h.st.fragments rest) done ≡ counts s (data_groups h.st)

pub record Counting (s w f : List ℕ) (n nf : ℕ) (c₀ : List ℕ) (i g : ℕ) (c : List ℕ) : Type 0 where
  pub length-same : length c ≡ length c₀
  pub at : (h : Holding w f n nf) → At s h c₀ i g c

pub count_begin : (s w f : List ℕ) (n nf : ℕ) (c : List ℕ) → Counting s w f n nf c 0 0 c
unfolding counts data_groups blit tally
count_begin s w f n nf c = record {
  length-same = refl;
  at = λ h. record {
    before = [];
    rest = h.st.items;
    done = [];
    least = 0;
    split = refl;
    passed = refl;
    groups = refl;
    starts = h.sound.begins;
    rising = h.sound.rising;
    counted = refl;
    words = refl;
    same = refl;
  };
}

-- the end: every item was passed
no_more : {is : List Item} → Starts is → length is ≡ 0 → is ≡ []
no_more empty e = refl
no_more first-dg e = absurd (omega arith)

at_end : {s w f : List ℕ} {n nf : ℕ} {h : Holding w f n nf} {c₀ : List ℕ} {i g : ℕ} {c : List ℕ} → At s h c₀ i g c → n ≤ i → ok c ≡ counted_all s h.st c₀
unfolding counted_all data_groups_of counts_from
at_end {h = h} a l =
    let b = h.blocks in
    let p = a.passed in
    let e : length a.rest ≡ 0 = omega (arith, ap length a.split, length-append a.before a.rest) in
    let m = rw (no_more a.starts e) at a.same in
    rw (← m) (ap ok a.words)

pub count_end : {s w f : List ℕ} {n nf : ℕ} {c₀ : List ℕ} {i g : ℕ} {c : List ℕ} → Counting s w f n nf c₀ i g c → {u : ⊤} → n ≤ i → Counted s w f n nf c₀ (Ok u) c
count_end t l = record { of = λ h. at_end (t.at h) l }

-- ---- the DG at block i
record Facing (s : List ℕ) {w f : List ℕ} {n nf : ℕ} (h : Holding w f n nf) (i g : ℕ) (done : List ℕ) : Type 0 where
  before : List Item
  own-items : List Item
  address : ℕ
  number : ℕ
  split : h.st.items ≡ before ++ (dg address number ∷ own-items)
  passed : i ≡ length before
  groups : g ≡ tally level_cg.own before
  rising : Rising number own-items (length h.st.fragments)
  same : counts_from s (data_groups_of h.st.fragments (dg address number ∷ own-items)) done ≡ counts s (data_groups h.st)

facing : {s w f : List ℕ} {n nf : ℕ} {h : Holding w f n nf} {c₀ : List ℕ} {i g : ℕ} {c : List ℕ} (a : At s h c₀ i g c) → i < n → Facing s h i g a.done
facing {s} {n = n} {h = h} {i = i} {g = g} a l = go a.rest a.starts a.rising a.split a.same
  where
    go : (is : List Item) → Starts is → {lo : ℕ} → Rising lo is (length h.st.fragments) → h.st.items ≡ a.before ++ is
        → counts_from s (data_groups_of h.st.fragments is) a.done ≡ counts s (data_groups h.st) → Facing s h i g a.done
    go [] empty r e m =
        let b = h.blocks in
        let p = a.passed in
        absurd (omega (arith, ap length e, length-append a.before []))
    go (cg _ ∷ is) x {lo = lo} r e m = elim x [ ]
    go (cn _ ∷ is) x {lo = lo} r e m = elim x [ ]
    go (dg x k ∷ is) first-dg (next-dg u r) e m = record {
      before = a.before;
      own-items = is;
      address = x;
      number = k;
      split = e;
      passed = a.passed;
      groups = a.groups;
      rising = r;
      same = m;
    }

module _ {s w f : List ℕ} {n nf : ℕ} {h : Holding w f n nf} {i g : ℕ} {done : List ℕ} (t : Facing s h i g done) where
  abbrev pre : List Item
  pre = t.before

  abbrev mine : List Item
  mine = t.own-items

  abbrev this : Item
  this = dg t.address t.number

  address_is : get_or w i 0 ≡ t.address
  unfolding address_words
  address_is =
      let b = stands_back (address_words pre) (address_words (this ∷ mine)) (stands_as_lem h.addresses (ap address_words t.split ∙ address-append pre (this ∷ mine))) in
      stands_head t.address (address_words mine) (stands_at b (zero-add _ ∙ length-addresses pre ∙ sym t.passed))

  marks_stand : Stands w (marks_at + i) (mark_words (this ∷ mine))
  marks_stand =
      let b = stands_back (mark_words pre) (mark_words (this ∷ mine)) (stands_as_lem h.marks (ap mark_words t.split ∙ mark-append pre (this ∷ mine))) in
      stands_at b (ap (λ (k : ℕ). marks_at + k) (length_marks pre ∙ sym t.passed))

  mark_is : get_or w (marks_at + i) 0 ≡ 2 + t.number
  unfolding mark_words
  mark_is = stands_head (2 + t.number) (mark_words mine) marks_stand

  count_is : n ≡ i + 1 + length mine
  count_is = let b = h.blocks in let p = t.passed in omega (arith, ap length t.split, length-append pre (this ∷ mine))

  mine-stand : Stands w (marks_at + (i + 1)) (mark_words mine)
  unfolding mark_words
  mine-stand = stands_at (stands_back ((2 + t.number) ∷ []) (mark_words mine) marks_stand) (omega arith)

  marks_are : marks_from w (i + 1) n ≡ mark_words mine
  marks_are =
      let b : n - (i + 1) ≡ length (mark_words mine) = (let q = count_is in omega (arith, length_marks mine)) in
      ap (λ (k : ℕ). part (marks_at + (i + 1)) k w) b ∙ mine-stand.is

  next_is : i + 1 + own_marks (marks_from w (i + 1) n) ≡ i + 1 + length (own mine)
  next_is = ap (λ (l : List ℕ). i + 1 + own_marks l) marks_are ∙ ap (λ (k : ℕ). i + 1 + k) (own_marks_lem mine)

  groups_are : own_groups (marks_from w (i + 1) n) ≡ tally level_cg.own (own mine)
  groups_are = ap own_groups marks_are ∙ own_groups_lem mine

  mine_split : (is : List Item) → later mine ≡ is → mine ≡ own mine ++ is
  mine_split is e = own-later mine ∙ ap (λ (l : List Item). own mine ++ l) e

  mark-after : (x k : ℕ) (is : List Item) → later mine ≡ dg x k ∷ is → get_or w (marks_at + (i + 1 + length (own mine))) 0 ≡ 2 + k
  unfolding mark_words
  mark-after x k is e =
      let b = stands_back (mark_words (own mine)) (mark_words (dg x k ∷ is))
      (stands_as_lem mine-stand (ap mark_words (mine_split (dg x k ∷ is) e) ∙ mark-append (own mine) (dg x k ∷ is))) in
      stands_head (2 + k) (mark_words is) (stands_at b (omega (arith, length_marks (own mine))))

  -- the next DG's mark says where this one's fragments end
  end_is : end_at w (i + 1 + length (own mine)) n nf ≡ up_to (length h.st.fragments) mine
  unfolding end_at up_to
  end_is = go (later mine) refl (later-starts mine)
    where
      go : (is : List Item) → later mine ≡ is → Starts is → if_lt (i + 1 + length (own mine)) n (get_or w (marks_at + (i + 1 + length (own mine))) 0 - 2) nf ≡ up_to (length h.st.fragments) mine
      go [] e empty =
          let c = count_is in
          let u : up_to (length h.st.fragments) mine ≡ length h.st.fragments = later_up_to _ mine ∙ ap (up_to (length h.st.fragments)) e in
          sym (lt_no _ _ _ _ (omega (arith, ap length (mine_split [] e), length-append (own mine) [])) (u ∙ sym h.pieces))
      go (cg _ ∷ is) e x = elim x [ ]
      go (cn _ ∷ is) e x = elim x [ ]
      go (dg x k ∷ is) e first-dg =
          let c = count_is in
          let m = mark-after x k is e in
          let u : up_to (length h.st.fragments) mine ≡ k = later_up_to _ mine ∙ ap (up_to (length h.st.fragments)) e in
          sym (lt_yes _ _ _ _ (omega (arith, ap length (mine_split (dg x k ∷ is) e), length-append (own mine) (dg x k ∷ is))) (omega arith))

  own_room : g + tally level_cg.own (own mine) ≤ most_items
  unfolding tally
  own_room =
      let c = h.sound.cgs in
      let p = t.groups in
      omega (
        arith,
        ap (tally level_cg.own) t.split,
        tally-append level_cg.own pre (this ∷ mine),
        ap (tally level_cg.own) (own-later mine),
        tally-append level_cg.own (own mine) (later mine),
      )

  groups_stand : part (groups_at + g) (tally level_cg.own (own mine)) w ≡ addresses (groups_of mine)
  unfolding group_words
  groups_stand =
      let e = ap group_words t.split ∙ group-append pre (this ∷ mine)
      ∙ ap (λ (l : List ℕ). group_words pre ++ l) (ap group_words (own-later mine) ∙ group-append (own mine) (later mine)) in
      let a = stands_back (group_words pre) (group_words (own mine) ++ group_words (later mine)) (stands_as_lem h.groups e) in
      let b = stands_front (group_words (own mine)) (group_words (later mine)) a in
      let c = stands_at b (ap (λ (k : ℕ). groups_at + k) (length_groups pre ∙ sym t.groups)) in
      ap (λ (k : ℕ). part (groups_at + g) k w) (sym (length_groups (own mine))) ∙ c.is ∙ sym (own-addresses mine)

-- the fragments of a DG, read from their words
pub fragments_stand : {f : List ℕ} (fs : List Fragment) (k m : ℕ) → Stands f 0 (fragment_words fs) → k + m ≤ length fs → fragments_of (part (3 * k) (3 * m) f) ≡ part k m fs
fragments_stand {f} fs k m s l =
    let e = stands_part (fragment_words fs) (3 * k) (3 * m) s (rw length-words (omega arith)) in
    ap (λ (j : ℕ). fragments_of (part j (3 * m) f)) (sym (zero-add _)) ∙ ap fragments_of (e ∙ part_fragments k m fs) ∙ words_back (part k m fs)

counted_as : (s w f : List ℕ) (i g groups end : ℕ) (c : List ℕ) {a k : ℕ} {gs : List ℕ} {fs : List Fragment} → get_or w i 0 ≡ a → get_or w (marks_at + i) 0 - 2 ≡ k
    → part (groups_at + g) groups w ≡ gs → fragments_of (part (3 * k) (3 * (end - k)) f) ≡ fs
    → counted_dg s w f i g groups end c ≡ and_then (count_groups s a gs fs) (λ ns. ok (blit g ns c))
unfolding counted_dg
counted_as s w f i g groups end c p q r e = rw (p, q, r, e)

laid_more : (g : ℕ) (done ns c c₀ : List ℕ) → g ≡ length done → c ≡ blit 0 done c₀ → blit g ns c ≡ blit 0 (done ++ ns) c₀
laid_more g done ns c c₀ p q = rw (p, q, blit-append, zero-add)

pub tally-dg : (a k : ℕ) (is : List Item) → tally level_cg.own (dg a k ∷ is) ≡ tally level_cg.own is
unfolding tally
tally-dg a k is = zero-add _

-- ---- one DG of the loop: where its items end, how many groups it has, and where its fragments end
record Turn (s : List ℕ) {w f : List ℕ} {n nf : ℕ} (h : Holding w f n nf) (c₀ : List ℕ) (i g : ℕ) (c : List ℕ) (next groups end : ℕ) : Type 0 where
  stands : At s h c₀ i g c
  is : Facing s h i g stands.done
  next-at : next ≡ i + 1 + length (own is.own-items)
  groups_in_lem : groups ≡ tally level_cg.own (own is.own-items)
  end_at_lem : end ≡ up_to (length h.st.fragments) is.own-items

turn : {s w f : List ℕ} {n nf : ℕ} {h : Holding w f n nf} {c₀ : List ℕ} {i g : ℕ} {c : List ℕ} → At s h c₀ i g c → i < n
    → {r : Span} → r ≡ span_at w (i + 1) n → {end : ℕ} → end ≡ end_at w r.next n nf → Turn s h c₀ i g c r.next r.groups end
turn {w = w} {n = n} {nf = nf} a l e k =
    let t = facing a l in
    let p = ap Span.next e ∙ next_is t in
    record { stands = a; is = t; next-at = p; groups_in_lem = ap Span.groups e ∙ groups_are t; end_at_lem = k ∙ ap (λ (j : ℕ). end_at w j n nf) p ∙ end_is t }

module _ {s w f : List ℕ} {n nf : ℕ} {h : Holding w f n nf} {c₀ : List ℕ} {i g : ℕ} {c : List ℕ} {next groups end : ℕ} (t : Turn s h c₀ i g c next groups end) where
  abbrev items : List Item
  items = t.is.own-items

  abbrev pieces : List Fragment
  pieces = h.st.fragments

  abbrev first : ℕ
  first = t.is.number

  rises : first ≤ end
  rises = omega (arith, t.end_at_lem, rising_least t.is.rising)

  bounded : end ≤ length pieces
  bounded = omega (arith, t.end_at_lem, rising_most t.is.rising)

  turn_ready : most_items ≤ length c → Ready w f i g groups end c
  turn_ready l =
      let m = mark_is t.is in
      let a = rises in
      let b = bounded in
      let q = h.sound.pieces in
      let r = held-room h in
      record {
        long = h.long;
        room = let o = h.room in omega arith;
        block = omega (arith, count_is t.is);
        is_dg = omega arith;
        rises = omega arith;
        groups_room = omega (arith, t.groups_in_lem, own_room t.is);
        counts-room = l;
      }

  turn_next : (i < next) × (next ≤ n)
  turn_next =
      let p = t.next-at in
      (omega arith, omega (arith, count_is t.is, ap length (own-later items), length-append (own items) (later items)))

  abbrev one : Checked (List ℕ)
  one = count_groups s t.is.address (addresses (groups_of items)) (part first (up_to (length pieces) items - first) pieces)

  counted_is : counted_dg s w f i g groups end c ≡ and_then one (λ ns. ok (blit g ns c))
  counted_is =
      let u = rises in
      let v = bounded in
      counted_as s w f i g groups end c (address_is t.is) (let k = mark_is t.is in omega arith)
      (ap (λ (k : ℕ). part (groups_at + g) k w) t.groups_in_lem ∙ groups_stand t.is)
      (fragments_stand pieces first (end - first) h.fragments (omega arith) ∙ ap (λ (j : ℕ). part first (j - first) pieces) t.end_at_lem)

  counts_is : counts s (data_groups h.st) ≡ and_then one (λ ns. counts_from s (data_groups_of pieces (later items)) (t.stands.done ++ ns))
  unfolding counts_from data_groups_of
  counts_is = sym t.is.same ∙ ap (λ (l : List DataGroup). and_then one (λ ns. counts_from s l (t.stands.done ++ ns))) (later_groups pieces items)

  -- what the counts of this DG give
  module _ (c' : List ℕ) (v : Result ⊤ Refusal) (e : after v c' ≡ counted_dg s w f i g groups end c) where
    turn_refused : {y : Refusal} → v ≡ Err y → refused_as y ≡ counted_all s h.st c₀
    unfolding counted_all
    turn_refused {y} q = go one (λ ns. counts_from s (data_groups_of pieces (later items)) (t.stands.done ++ ns)) (sym (ap (λ (r : Result ⊤ Refusal). after r c') q) ∙ e ∙ counted_is)
        ∙ ap (λ (k : Checked (List ℕ)). and_then k (λ ns. ok (blit 0 ns c₀))) (sym counts_is)
      where
        go : (k : Checked (List ℕ)) (m : List ℕ → Checked (List ℕ)) → ◌≡◌ {A = Checked (List ℕ)} (refused_as y) (and_then k (λ ns. ok (blit g ns c)))
            → refused_as y ≡ and_then (and_then k m) (λ ns. ok (blit 0 ns c₀))
        go (ok ns) m z = absurd (refused≢ok z)
        go (refused x o) m z = cc

    turn_on : {u : ⊤} → v ≡ Ok u → At s h c₀ next (g + groups) c'
    turn_on q = go one refl (sym (ap (λ (r : Result ⊤ Refusal). after r c') q) ∙ e ∙ counted_is)
      where
        go : (k : Checked (List ℕ)) → one ≡ k → ◌≡◌ {A = Checked (List ℕ)} (ok c') (and_then k (λ ns. ok (blit g ns c))) → At s h c₀ next (g + groups) c'
        go (refused x o) u z = absurd (ok≢refused z)
        go (ok ns) u z =
            let a = t.stands in
            let b = t.is in
            let o : List Item = dg b.address first ∷ own items in
            let m : length ns ≡ tally level_cg.own (own items)
            = length-counts s _ _ _ u ∙ ap length (own-addresses items) ∙ length_groups (own items) in
            record {
              before = b.before ++ o;
              rest = later items;
              done = a.done ++ ns;
              least = first;
              split = b.split ∙ ap (λ (l : List Item). b.before ++ (dg b.address first ∷ l)) (own-later items) ∙ sym (append_assoc b.before o (later items));
              passed = let p = b.passed in omega (arith, t.next-at, length-append b.before o);
              groups = let p = b.groups in omega (arith, t.groups_in_lem, tally-append level_cg.own b.before o, tally-dg b.address first (own items));
              starts = later-starts items;
              rising = later_rising b.rising;
              counted = let p = a.counted in omega (arith, t.groups_in_lem, m, length-append a.done ns);
              words = ok_same z ∙ laid_more g a.done ns c c₀ a.counted a.words;
              same = sym (counts_is ∙ ap (λ (k : Checked (List ℕ)). and_then k (λ ms. counts_from s (data_groups_of pieces (later items)) (a.done ++ ms))) u);
            }

-- ---- for the code: r is the DG's span, end its fragments' end
module _ {s w f : List ℕ} {n nf : ℕ} {c₀ : List ℕ} {i g : ℕ} {c : List ℕ} (t : Counting s w f n nf c₀ i g c) (l : i < n)
    {r : Span} (e : r ≡ span_at w (i + 1) n) {end : ℕ} (k : end ≡ end_at w r.next n nf) where
  pub count_ready : Holding w f n nf → most_items ≤ length c → Ready w f i g r.groups end c
  count_ready h = turn_ready (turn (t.at h) l e k)

  pub count_next : Holding w f n nf → (i < r.next) × (r.next ≤ n)
  count_next h = turn_next (turn (t.at h) l e k)

  module _ (c' : List ℕ) (v : Result ⊤ Refusal) (d : after v c' ≡ counted_dg s w f i g r.groups end c) where
    pub count_refused : {y : Refusal} → v ≡ Err y → Counted s w f n nf c₀ (Err y) c'
    count_refused q = record { of = λ h. turn_refused (turn (t.at h) l e k) c' v d q }

    pub count_on : {u : ⊤} → v ≡ Ok u → length c' ≡ length c → Counting s w f n nf c₀ r.next (g + r.groups) c'
    count_on q m = record { length-same = m ∙ t.length-same; at = λ h. turn_on (turn (t.at h) l e k) c' v d q }
