-- How many bytes each block of the result has, also where the image ends inside the data that it is made from.
use Rattle.std.specs.Prelude.{◌≡◌, ℕ, ◌+◌, ◌-◌, ◌<◌, ◌≤◌, min, Bool, true, false, List, [], length, refl}
use Rattle.std.proofs.Common.{⊎_elim, zero-add, ◌∙◌, arith, length-append}
use Rattle.std.proofs.Math.Nat.{min-le_left}
use Rattle.base.specs.FieldLaws.{length-le}
use Rattle.base.specs.Blit.{part}
use Rattle.stores.specs.Cases.{lt_or_le}
use Rattle.mdf.specs.Block.{data_at}
use Rattle.result.specs.FillLaws.{length-header}
use Rattle.filling.specs.Blocks.{dg_from, cg_from, cg_header, cg_front, cg_counts, cg_data_from, cn_links, cn_front, cn_types, cn_rest, cn_data_from}
use Rattle.filling.specs.BlocksLaws.{laid_none, laid-part, length-part-min}
use Rattle.window_blocks.specs.Sizes.{cg_length, cn_data_length}

pub length-dg : (next cg dl comment : ℕ) → length (dg_from next cg dl comment) ≡ 64
unfolding dg_from
length-dg next cg dl comment = simp (length-append, length-header, length-le)

pub length_front : (size links name source conversion sd unit comment : ℕ) → length (cn_front size links name source conversion sd unit comment) ≡ 88
unfolding cn_front cn_links
length_front size links name source conversion sd unit comment = simp (length-append, length-header, length-le)

-- ---- the bytes of a block's data that the image has
none_there : (b i n D : ℕ) (s : List ℕ) → b ≡ min D (length s) → length s - b ≤ i → 0 ≡ length (part (D + i) n s)
none_there b i n D s e h = rw zero-add at (laid_none 0 b i n 0 D s [] e h (omega arith)).past

some_there : (b i n k D : ℕ) (s : List ℕ) → b ≡ min D (length s) → i < length s - b → k ≡ min n (length s - (b + i)) → k ≡ length (part (D + i) n s)
some_there b i n k D s e h m = simp zero-add at (laid-part 0 b i n k (0 + n) D s [] _ e h refl m (omega arith)).past

pub length_there : (b i n D : ℕ) (s : List ℕ) → b ≡ min D (length s) → min n (length s - b - i) ≡ length (part (D + i) n s)
length_there b i n D s e =
    ⊎_elim (λ h. some_there b i n _ D s e h (let z : length s - (b + i) ≡ length s - b - i = omega arith in rw z refl))
    (λ h. let z : min n (length s - b - i) ≡ 0 = omega arith in z ∙ none_there b i n D s e h)
    (lt_or_le i (length s - b))

few_there : (i n : ℕ) (s : List ℕ) → length (part i n s) ≤ n
few_there i n s = rw length-part-min (min-le_left n (length s - i))

-- ---- CG: 104 or 112 bytes, but for the two that are read
pub length-cg : (s : List ℕ) (g cn name source comment : ℕ) (remote : Bool) (master records bytes : ℕ) (inval : Bool)
    → length (cg_from s g cn name source comment remote master records bytes inval) ≡ cg_length s g remote
unfolding cg_from cg_front cg_header cg_data_from cg_counts
length-cg s g cn name source comment true master records bytes inval = simp (length-append, length-header, length-le) (omega arith)
length-cg s g cn name source comment false master records bytes inval = simp (length-append, length-header, length-le) (omega arith)

-- ---- CN: 72 bytes of data, but for those that are read
pub length_data : (s : List ℕ) (c stored : ℕ) (keeps : Bool) (photos : ℕ)
    → length (cn_data_from s c stored keeps photos)
    ≡ cn_data_length s c
unfolding cn_data_from cn_types cn_rest
length_data s c stored keeps photos = simp (length-append, length-le) (omega arith)

cg_most : (s : List ℕ) (g : ℕ) (remote : Bool) → cg_length s g remote ≤ 112
cg_most s g true = omega (arith, few_there (data_at s g + 18) 2 s)
cg_most s g false = omega (arith, few_there (data_at s g + 18) 2 s)

pub cg-within : (s : List ℕ) (g cn name source comment : ℕ) (remote : Bool) (master records bytes : ℕ) (inval : Bool)
    → length (cg_from s g cn name source comment remote master records bytes inval) ≤ 112
cg-within s g cn name source comment remote master records bytes inval = rw length-cg (cg_most s g remote)

pub data_most : (s : List ℕ) (c : ℕ) → cn_data_length s c ≤ 72
data_most s c =
    omega (arith, few_there (data_at s c + 1) 3 s, few_there (data_at s c + 8) 4 s, few_there (data_at s c + 20) 2 s, few_there (data_at s c + 24) 48 s)
