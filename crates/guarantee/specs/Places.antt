-- Where the data of placed columns lies: bounds that every address of a result keeps.
use Rattle.std.specs.Prelude.{ℕ, ◌+◌, ◌*◌, ◌-◌, ◌≤◌, ◌≡◌, refl, length}
use mathlib.Core.List.{List, [], ◌∷◌, flatten, ◌++◌}
use Rattle.std.proofs.Common.{ap, suc-mul, arith, length-take, length-drop}
use Rattle.base.specs.Blit.{part}
use Rattle.base.specs.Checked.{fine}
use Rattle.mdf.specs.Block.{Wanted, data_at, whole_at, wanted_at, block_at}
use Rattle.mdf.specs.Chain.{Fragment}
use Rattle.mdf.specs.Walk.{Item, dg, cg, cn}
use Rattle.mdf.specs.Group.{DataGroup, up_to, data_groups_of}
use Rattle.mdf.specs.Records.{size_of}
use Rattle.plan.specs.Columns.{Column, Signal, no_signal, signal_data, size_of_signal}
use Rattle.plan.specs.Data.{signal_in}
use Rattle.plan.specs.Rules.{Rules}
use Rattle.plan.specs.Layout.{structure_size, Sizes, first_at, blocks_end, signal_at, signal_end, past_data, places_from, places_end, Placed, signal_sizes, column_sizes, sizes_of, with_places, placed_from, data_end, column_blocks, payload_size}
use Rattle.result.specs.Payload.{signal_bytes}
use Rattle.result.specs.Guarantee.{In, here, there}
use Rattle.copies_laws.specs.AnswerLaws.{then_ok, whole_fits, refused≢ok}
use Rattle.base.specs.ChoiceLaws.{lt_back, eq_first}
use Rattle.copies_laws.specs.Laid.{align_past, align_near}
use Rattle.payload_laws.specs.ColumnLaws.{Ready}
use Rattle.payload_laws.specs.BoundLaws.{fragments_small, end_small}
use Rattle.payload_laws.specs.Lists.{together}
use Rattle.payload_laws.specs.PayloadLaws.{Even, Even.none, Even.last, Even.next}
use Rattle.payload_laws.specs.SignalLaws.{length_signal}
use Rattle.payload_laws.specs.UnitLaws.{IsUnit, first_past, signal_past}
use Rattle.shown_laws.specs.Joined.{EqualBut}

-- ---- two names for one thing
pub equal_even : (q : ℕ) (ps : List (List ℕ)) → Even q ps → EqualBut q ps
unfolding EqualBut
equal_even q [] none = tt
equal_even q (p ∷ []) last = tt
equal_even q (p ∷ r ∷ ps) (next l e) = (l, equal_even q (r ∷ ps) e)

pub flatten_together : (ps : List (List ℕ)) → flatten ps ≡ together ps
unfolding flatten together
flatten_together [] = refl
flatten_together (p ∷ ps) = ap (λ (l : List ℕ). p ++ l) (flatten_together ps)

-- ---- a block that passed its checks has its data in the image
pub data_inside : (k : Wanted) (s : List ℕ) (a : ℕ) → block_at k s a ≡ fine → data_at s a + k.bytes ≤ length s
unfolding block_at wanted_at data_at
data_inside k s a e =
    let b = then_ok (whole_at s a) _ e in
    let w = whole_fits s a b.1 in
    let c = eq_first _ _ _ _ b.2 refused≢ok in
    let d = lt_back _ _ _ _ c.1 refused≢ok in
    let f = lt_back _ _ _ _ d.1 refused≢ok in
    omega (arith, f.0, w.range)

-- ---- a DG has no more fragments than the walk found
part-short : (i n : ℕ) (l : List Fragment) → length (part i n l) ≤ length l
unfolding part
part-short i n l = simp (length-take, length-drop) (omega arith)

pub fragments_few : (fs : List Fragment) (is : List Item) (d : DataGroup) → In d (data_groups_of fs is) → length d.fragments ≤ length fs
unfolding data_groups_of
fragments_few fs [] d i = elim i [ ]
fragments_few fs (dg a n ∷ is) d here = part-short n (up_to (length fs) is - n) fs
fragments_few fs (dg a n ∷ is) d (there i) = fragments_few fs is d i
fragments_few fs (cg a ∷ is) d i = fragments_few fs is d i
fragments_few fs (cn a ∷ is) d i = fragments_few fs is d i

-- ---- where data lies
pub signal_small : (s : List ℕ) (g : Signal) → signal_in s g ≡ fine → length s ≤ 4294967296 → size_of_signal g ≤ 1024 → length (signal_bytes s g) ≤ 4398046511104
signal_small s no_signal e h k = omega arith
signal_small s (signal_data fs) e h k = omega (arith, length_signal s fs e, fragments_small s fs e h k)

signal_end_lem : (s : List ℕ) (g : Signal) (a : ℕ) → signal_in s g ≡ fine → length s ≤ 4294967296 → size_of_signal g ≤ 1024
    → (a ≤ signal_end (signal_sizes g) a) × (signal_end (signal_sizes g) a ≤ a + 4398046511136)
signal_end_lem s no_signal a e h k = (omega arith, omega arith)
signal_end_lem s (signal_data fs) a e h k =
    (omega (arith, align_past (a + (24 + size_of fs))), omega (arith, align_near (a + (24 + size_of fs)), fragments_small s fs e h k))

-- a column whose data was read
pub record Sized (s : List ℕ) (c : Column) : Type 0 where
  pub ready : Ready s c
  pub signals : signal_in s c.signal_of ≡ fine
  pub few : length c.group.data_group.fragments ≤ 1024
  pub few_signals : size_of_signal c.signal_of ≤ 1024

blocks_end_lem : (s : List ℕ) (size : ℕ) (c : Column) (a : ℕ) → a ≤ blocks_end (column_sizes s size c) a
unfolding blocks_end
blocks_end_lem s size c a = omega (arith, align_past (a + (24 * column_blocks s size c + payload_size s c)))

-- a column's data from d on: past it, and its SD before that
record PastWithin (u : ℕ) (z : Sizes) (d : ℕ) : Type 0 where
  first : d ≤ first_at u z d
  first_near : first_at u z d ≤ d + 4096
  sd : d ≤ signal_at u z.signal (blocks_end z (first_at u z d))
  sd_near : signal_at u z.signal (blocks_end z (first_at u z d)) ≤ d + 109951162786000
  past : d ≤ past_data u z d
  past_near : past_data u z d ≤ d + 120000000000000

past-within : (u : ℕ) → IsUnit u → (s : List ℕ) (size d : ℕ) (c : Column) → length s ≤ 4294967296 → Sized s c → PastWithin u (column_sizes s size c) d
past-within u i s size d c h w =
    let z : Sizes = column_sizes s size c in
    let a : ℕ = first_at u z d in
    let f = first_past u i z d in
    let e = end_small s size c a w.ready h w.few in
    let b = blocks_end_lem s size c a in
    let n = signal_past u i z.signal (blocks_end z a) in
    let g = signal_end_lem s c.signal_of (signal_at u z.signal (blocks_end z a)) w.signals h w.few_signals in
    let m = i.most in
    record {
      first = f.0;
      first_near = omega (arith, f.1, m);
      sd = omega (arith, f.0, b, n.0);
      sd_near = omega (arith, f.1, e, n.1, m);
      past = omega (arith, f.0, b, n.0, g.0);
      past_near = omega (arith, f.1, e, n.1, g.1, m);
    }

-- the data of the i-th column begins within so many bytes
pub record DataWithin (d k : ℕ) (p : Placed) : Type 0 where
  pub above : d ≤ p.first
  pub below : p.first ≤ d + k * 120000000000000
  pub sd_above : d ≤ p.sd
  pub sd_below : p.sd ≤ d + k * 120000000000000 + 120000000000000

pub data_within : (o : Rules) → IsUnit o.unit → (s : List ℕ) (size a d : ℕ) (cs : List Column) (p : Placed) → length s ≤ 4294967296
    → ((c : Column) → In c cs → Sized s c) → In p (placed_from o s size a d cs) → DataWithin d (length cs) p
unfolding with_places places_from sizes_of
data_within o u s size a d [] p h z x3 = elim x3 [ ]
data_within o u s size a d (c ∷ cs) p h z here =
    let w = past-within o.unit u s size d c h (z c here) in
    let m = suc-mul (length cs) 120000000000000 in
    record { above = w.first; below = omega (arith, w.first_near, m); sd_above = w.sd; sd_below = omega (arith, w.sd_near, m) }
data_within o u s size a d (c ∷ cs) p h z (there i) =
    let w = past-within o.unit u s size d c h (z c here) in
    let b = column_sizes s size c in
    let r = data_within o u s size (a + b.structure) (past_data o.unit b d) cs p h (λ k j. z k (there j)) i in
    let m = suc-mul (length cs) 120000000000000 in
    record {
      above = omega (arith, w.past, r.above);
      below = omega (arith, w.past_near, r.below, m);
      sd_above = omega (arith, w.past, r.sd_above);
      sd_below = omega (arith, w.past_near, r.sd_below, m);
    }

-- and the data of all columns ends within so many bytes
pub data_ends : (o : Rules) → IsUnit o.unit → (s : List ℕ) (size d : ℕ) (cs : List Column) → length s ≤ 4294967296
    → ((c : Column) → In c cs → Sized s c) → data_end o s size d cs ≤ d + length cs * 120000000000000
unfolding places_end sizes_of
data_ends o u s size d [] h z = omega arith
data_ends o u s size d (c ∷ cs) h z =
    let w = past-within o.unit u s size d c h (z c here) in
    let r = data_ends o u s size (past_data o.unit (column_sizes s size c) d) cs h (λ k j. z k (there j)) in
    let m = suc-mul (length cs) 120000000000000 in
    omega (arith, w.past_near, r, m)

pub in_column : (o : Rules) (s : List ℕ) (size a d : ℕ) (cs : List Column) (p : Placed) → In p (placed_from o s size a d cs) → In p.column cs
unfolding with_places places_from sizes_of
in_column o s size a d [] p x' = elim x' [ ]
in_column o s size a d (c ∷ cs) p here = here
in_column o s size a d (c ∷ cs) p (there i) = there (in_column o s size (a + structure_size s size c) (past_data o.unit (column_sizes s size c) d) cs p i)
