-- Each store after another is a store of both; links and lengths that have wrapped; the parts of blocks that are read.
use Rattle.std.specs.Prelude.{◌≡◌, ℕ, zero, suc, ◌+◌, ◌-◌, ◌*◌, ◌/◌, ◌%◌, ◌^◌, ◌<◌, ◌≤◌, min, Bool, true, false, List, [], ◌∷◌, ◌++◌, length, take, drop, replicate, nat_lt, refl}
use Rattle.std.proofs.Common.{append_assoc, append-nil, sym, ap, ◌∙◌, add-zero, add_comm, div-add-mod', le_of_lt, sub-one, arith, length-append, length-take, length-drop, take_all, ltb-true, ltb-false}
use Rattle.std.proofs.Math.Nat.{add-mod-mod, min_comm, min-le_left, min-eq_left, min-eq_right, sub-zero, suc-sub-suc}
use Rattle.base.specs.Choice.{pick}
use Rattle.base.specs.ChoiceLaws.{eq_yes, eq_no}
use Rattle.base.specs.Field.{le, Field}
use Rattle.base.specs.FieldLaws.{length-le}
use Rattle.base.specs.Blit.{part, blit}
use Rattle.base.specs.BlitLaws.{blit-append}
use Rattle.mdf.specs.Block.{kind_md, kind_dl, size_at, links_at, data_at}
use Rattle.mdf.specs.Group.{group_flags}
use Rattle.plan.specs.Channel.{channel_flags}
use Rattle.plan.specs.Layout.{md_size, dl_size}
use Rattle.plan.specs.Geometry.{align8}
use Rattle.puts.specs.PutLaws.{blit-past, blit-take, le-add, le_wrap, take_min, take-replicate, part-past, length-header}
use Rattle.result.specs.Fill.{header, md_bytes, cn_flags, block_links, data_of}
use Rattle.filling.specs.Blocks.{Laid, flags_from, cg_header, cg_front, cg_data_from, cg_from, cn_links, dl_from}

-- cs laid just past bs
pub blit-next : (at p : ℕ) (bs cs d e f : List ℕ) → e ≡ blit at bs d → f ≡ blit p cs e → p ≡ at + length bs → f ≡ blit at (bs ++ cs) d
blit-next at p bs cs d e f s t q = rw (t, q, s) (sym (blit-append bs at cs d))

pub laid_next : (at p most more r : ℕ) (bs cs d e f : List ℕ) → e ≡ blit at bs d → Laid p cs more e f r → p ≡ at + length bs → more ≤ most
    → Laid at (bs ++ cs) most d f r
laid_next at p most more r bs cs d e f s l q small =
    let sum : r ≡ at + length (bs ++ cs) = rw length-append (omega (arith, l.past)) in
    record { is = blit-next at p bs cs d e f s l.is q; past = sum; small = omega (arith, l.small) }

-- ---- a part of a block's data, read from where the data begins in the image
pub length-part-min : (i n : ℕ) (l : List ℕ) → length (part i n l) ≡ min n (length l - i)
unfolding part
length-part-min i n l = simp (length-take, length-drop)

pub begins_there : (b D L : ℕ) → b ≡ min D L → b < L → b ≡ D
begins_there b D L e h = go (nat_lt L D) refl
  where
    go : (t : Bool) → nat_lt L D ≡ t → b ≡ D
    go true q = let z : b ≡ L = e ∙ min-eq_right (le_of_lt (ltb-true L D q)) in absurd (omega arith)
    go false q = e ∙ min-eq_left (ltb-false L D q)

pub laid_none : (at b i n most D : ℕ) (s d : List ℕ) → b ≡ min D (length s) → length s - b ≤ i → at ≤ most
    → Laid at (part (D + i) n s) most d d at
unfolding blit
laid_none at b i n most D s d e h small =
    let nothing : part (D + i) n s ≡ [] = part-past (D + i) n s (omega (arith, min-le_left D (length s))) in
    record { is = rw nothing; past = rw (nothing, add-zero); small = small }

pub laid-part : (at b i n k most D : ℕ) (s d e : List ℕ) → b ≡ min D (length s) → i < length s - b → e ≡ blit at (part (b + i) n s) d
    → k ≡ min n (length s - (b + i)) → at + n ≤ most → Laid at (part (D + i) n s) most d e (at + k)
laid-part at b i n k most D s d e q h t m small =
    let z : b ≡ D = begins_there b D (length s) q (omega arith) in
    let len : length (part (b + i) n s) ≡ k = length-part-min (b + i) n s ∙ sym m in
    record { is = rw (← z) t; past = rw (← z, len); small = omega (arith, min-le_left n (length s - (b + i))) }

-- ---- MD
pub md_size_lem : (n : ℕ) → n / 8 * 8 + 32 ≡ md_size n
unfolding md_size align8
md_size_lem n = omega arith

pub md_pad : (n : ℕ) → 8 - n % 8 ≡ md_size n - (24 + n)
unfolding md_size align8
md_pad n = omega arith

pub header_wrap : (kind size links r l : ℕ) → le 8 r ≡ le 8 size → le 8 l ≡ le 8 links → header kind r l ≡ header kind size links
unfolding header
header_wrap kind size links r l e f = rw (e, f)

pub md_laid : (n w : ℕ) (text d₀ d₁ d₂ d₃ : List ℕ) → n ≡ length text → w ≡ (n / 8 * 8 + 32) % 2 ^ 64 → d₁ ≡ blit 0 (header kind_md w 0) d₀
    → d₂ ≡ blit 24 (part 0 n text) d₁ → d₃ ≡ blit (24 + n) (replicate (8 - n % 8) 0) d₂ → d₃ ≡ blit 0 (md_bytes text) d₀
unfolding md_bytes part
md_laid n w text d₀ d₁ d₂ d₃ e q s t u =
    let size : le 8 w ≡ le 8 (md_size n) = rw q (le_wrap 8 (n / 8 * 8 + 32) ∙ ap (le 8) (md_size_lem n)) in
    let front : header kind_md w 0 ≡ header kind_md (md_size n) 0 = header_wrap kind_md (md_size n) 0 w 0 size refl in
    let all : take n text ≡ text = take_all n text (omega arith) in
    let two = blit-next 0 24 _ _ d₀ d₁ d₂ (rw front at s) (rw all at t) (simp length-header) in
    rw (← e) (blit-next 0 (24 + n) _ _ d₀ d₂ d₃ two (rw (md_pad n) at u) (simp (length-append, length-header) (omega arith)))

-- ---- data cut or filled
take_pad : (m j : ℕ) (xs : List ℕ) → m ≤ j → take m (xs ++ replicate j 0) ≡ take m xs ++ replicate (m - length (take m xs)) 0
take_pad zero j xs h = refl
take_pad (suc m) j [] h = take-replicate (suc m) j 0 ∙ rw (min-eq_left h, sub-zero)
take_pad (suc m) j (x ∷ xs) h = rw suc-sub-suc (ap (λ (ys : List ℕ). x ∷ ys) (take_pad m j xs (omega arith)))

cut_data : (m n a : ℕ) (s : List ℕ) → m ≤ n → take m (data_of s a ++ replicate n 0)
    ≡ part (data_at s a) (min m (size_at s a - (24 + 8 * links_at s a))) s
    ++ replicate (m - length (part (data_at s a) (min m (size_at s a - (24 + 8 * links_at s a))) s)) 0
unfolding data_of part
cut_data m n a s h = rw take_min (take_pad m n (take (size_at s a - (24 + 8 * links_at s a)) (drop (data_at s a) s)) h)

past_all : (at m j p : ℕ) → p ≡ at + j → at + m - p ≡ m - j
past_all at m j p e = omega arith

-- only those that have room count
blit_clip : (at m n : ℕ) (bs d : List ℕ) → m ≡ min n (length d - at) → blit at (take m bs) d ≡ blit at (take n bs) d
blit_clip at m n bs d r =
    let e : take m bs ≡ take (length d - at) (take n bs) = rw (r, min_comm n (length d - at)) (take_min (length d - at) n bs) in
    rw e (blit-take (length d - at) (take n bs) at d (le-add-sub (length d) at))
  where
    le-add-sub : (k i : ℕ) → k ≤ i + (k - i)
    le-add-sub k i = omega arith

-- m of n bytes have room
pub cut-laid : (at m n a k size p : ℕ) (s d₀ d₁ d₂ : List ℕ) → m ≡ min n (length d₀ - at) → size ≡ size_at s a - (24 + 8 * links_at s a)
    → k ≡ min m size → Laid at (part (data_at s a + 0) k s) (at + k) d₀ d₁ p → d₂ ≡ blit p (replicate (at + m - p) 0) d₁
    → d₂ ≡ blit at (take n (data_of s a ++ replicate n 0)) d₀
cut-laid at m n a k size p s d₀ d₁ d₂ r e f l z =
    let q : k ≡ min m (size_at s a - (24 + 8 * links_at s a)) = f ∙ ap (min m) e in
    let j : ℕ = length (part (data_at s a) k s) in
    let t : Laid at (part (data_at s a) k s) (at + k) d₀ d₁ p = rw add-zero at l in
    let pad : at + m - p ≡ m - j = past_all at m j p t.past in
    let few : m ≤ n = rw r (min-le_left n (length d₀ - at)) in
    let cut : d₂ ≡ blit at (take m (data_of s a ++ replicate n 0)) d₀ =
    rw (cut_data m n a s few, ← q) (blit-next at p _ _ d₀ d₁ d₂ t.is (rw pad at z) t.past) in
    cut ∙ blit_clip at m n (data_of s a ++ replicate n 0) d₀ r

-- ---- CG
pub flags_remote : (s : List ℕ) (g f : ℕ) (remote : Bool) → Field 2 s (data_at s g + 16) f → remote ≡ true
    → f / 16 * 16 + 8 ≡ flags_from (group_flags s g) remote
unfolding group_flags
flags_remote s g f remote k e = rw (e, ← k.is)

pub flags_own : (s : List ℕ) (g f : ℕ) (remote : Bool) → Field 2 s (data_at s g + 16) f → remote ≡ false
    → f / 16 * 16 ≡ flags_from (group_flags s g) remote
unfolding group_flags
flags_own s g f remote k e = rw (e, ← k.is)

pub length-cg-header : (remote : Bool) → length (cg_header remote) ≡ 24
unfolding cg_header
length-cg-header true = length-header _ _ _
length-cg-header false = length-header _ _ _

pub cg-front : (remote : Bool) (cn name source comment : ℕ) → length (cg_front remote cn name source comment) ≡ 72
unfolding cg_front
cg-front remote cn name source comment = simp (length-append, length-cg-header remote, length-le)

module _ (s : List ℕ) (g cn name source comment : ℕ) (remote : Bool) (master records bytes : ℕ) (inval : Bool) where
  pub cg-remote : (d₀ d₁ d₂ d₃ : List ℕ) → remote ≡ true → d₁ ≡ blit 0 (cg_front remote cn name source comment) d₀
      → d₂ ≡ blit 72 (le 8 master) d₁ → d₃ ≡ blit 80 (cg_data_from s g remote records bytes inval) d₂
      → d₃ ≡ blit 0 (cg_from s g cn name source comment remote master records bytes inval) d₀
  unfolding cg_from
  cg-remote d₀ d₁ d₂ d₃ e a b f =
      let there : pick remote (le 8 master) [] ≡ le 8 master = rw e in
      rw there (blit-next 0 80 _ _ d₀ d₂ d₃ (blit-next 0 72 _ _ d₀ d₁ d₂ a b (simp (cg-front remote cn name source comment))) f
      (simp (length-append, cg-front remote cn name source comment, length-le)))

  pub cg-own : (d₀ d₁ d₂ : List ℕ) → remote ≡ false → d₁ ≡ blit 0 (cg_front remote cn name source comment) d₀
      → d₂ ≡ blit 72 (cg_data_from s g remote records bytes inval) d₁
      → d₂ ≡ blit 0 (cg_from s g cn name source comment remote master records bytes inval) d₀
  unfolding cg_from
  cg-own d₀ d₁ d₂ e a f =
      let none : pick remote (le 8 master) [] ≡ [] = rw e in
      rw (none, append-nil) (blit-next 0 72 _ _ d₀ d₁ d₂ a f (simp (cg-front remote cn name source comment)))

-- ---- CN
pub flags_kept : (s : List ℕ) (c f : ℕ) (keeps : Bool) → Field 4 s (data_at s c + 12) f → keeps ≡ true
    → f - f / 4096 % 2 * 4096 ≡ cn_flags (channel_flags s c) keeps
unfolding channel_flags
flags_kept s c f keeps k e = rw (e, ← k.is)

pub flags_lost : (s : List ℕ) (c f : ℕ) (keeps : Bool) → Field 4 s (data_at s c + 12) f → keeps ≡ false
    → f - f / 4096 % 2 * 4096 - f / 2 % 2 * 2 ≡ cn_flags (channel_flags s c) keeps
unfolding channel_flags
flags_lost s c f keeps k e = rw (e, ← k.is)

pub length-cn_links : (size links name source conversion sd unit : ℕ) → length (cn_links size links name source conversion sd unit) ≡ 80
unfolding cn_links
length-cn_links size links name source conversion sd unit = simp (length-append, length-header, length-le)

-- ---- DL
pub dl-none : (n : ℕ) → n ≡ 0 → le 8 0 ≡ le 8 (dl_size n)
unfolding dl_size
dl-none n e = ap (le 8) (eq_yes n 0 0 (24 + 8 * (n + 1) + 16) e refl)

pub dl-some : (n : ℕ) {q r : ℕ} → 0 < n → q ≡ n * 8 % 2 ^ 64 → r ≡ (q + 48) % 2 ^ 64 → le 8 r ≡ le 8 (dl_size n)
unfolding dl_size
dl-some n {q} {r} h i j =
    let long : 24 + 8 * (n + 1) + 16 ≡ dl_size n = eq_no n 0 0 (24 + 8 * (n + 1) + 16) (λ z. omega arith) refl in
    let e : q + 48 + n * 8 / 2 ^ 64 * 256 ^ 8 ≡ 24 + 8 * (n + 1) + 16 = omega (arith, div-add-mod' (n * 8) (2 ^ 64)) in
    ap (le 8) j ∙ le_wrap 8 (q + 48) ∙ sym (le-add 8 (n * 8 / 2 ^ 64) (q + 48)) ∙ ap (le 8) (e ∙ long)

links_add : (payload n k a : ℕ) → block_links payload n (a + k * 2 ^ 64) ≡ block_links payload n a
unfolding block_links
links_add payload zero k a = refl
links_add payload (suc n) k a =
    let e : a + k * 2 ^ 64 + (24 + payload) ≡ a + (24 + payload) + k * 2 ^ 64 = omega arith in
    rw (le-add 8 k a, e, links_add payload n k (a + (24 + payload)))

pub links_wrap : (payload n a : ℕ) → block_links payload n (a % 2 ^ 64) ≡ block_links payload n a
links_wrap payload n a =
    let e : a % 2 ^ 64 + a / 2 ^ 64 * 2 ^ 64 ≡ a = add_comm (a % 2 ^ 64) (a / 2 ^ 64 * 2 ^ 64) ∙ div-add-mod' a (2 ^ 64) in
    sym (links_add payload n (a / 2 ^ 64) (a % 2 ^ 64)) ∙ ap (block_links payload n) e

-- one link more: what is left to do, done to the list, gives g, before the turn (d) and after it (e)
pub links_turn : (payload n a step b p : ℕ) (d e g : List ℕ) → 0 < n → blit p (block_links payload n a) d ≡ g → e ≡ blit p (le 8 a) d
    → step ≡ (24 + payload) % 2 ^ 64 → b ≡ (a + step) % 2 ^ 64 → blit (p + 8) (block_links payload (n - 1) b) e ≡ g
unfolding block_links
links_turn payload zero a step b p d e g h i t q r = absurd (omega arith)
links_turn payload (suc n) a step b p d e g h i t q r =
    let z : b ≡ (a + (24 + payload)) % 2 ^ 64 = r ∙ rw q (add-mod-mod a (24 + payload) (2 ^ 64)) in
    rw (sub-one, z, links_wrap payload n (a + (24 + payload)), t) (rw (blit-append, length-le) at i)

-- the links after this one have no room
pub links_end : (payload n a p : ℕ) (d e g : List ℕ) → 0 < n → blit p (block_links payload n a) d ≡ g → e ≡ blit p (le 8 a) d
    → length e ≤ p + 8 → e ≡ g
unfolding block_links
links_end payload zero a p d e g h i t small = absurd (omega arith)
links_end payload (suc n) a p d e g h i t small =
    let j : blit (p + 8) (block_links payload n (a + (24 + payload))) (blit p (le 8 a) d) ≡ g = rw (blit-append, length-le) at i in
    sym (blit-past (block_links payload n (a + (24 + payload))) (p + 8) e small) ∙ rw t j

pub length_links : (payload n a : ℕ) → length (block_links payload n a) ≡ 8 * n
unfolding block_links
length_links payload zero a = refl
length_links payload (suc n) a = simp (length-append, length-le, length_links payload n (a + (24 + payload))) (omega arith)

pub dl-laid : (payload n a size links : ℕ) (d₀ d₁ d₂ d₃ d₄ : List ℕ) → le 8 size ≡ le 8 (dl_size n) → links ≡ (n + 1) % 2 ^ 64
    → d₁ ≡ blit 0 (header kind_dl size links) d₀ → d₂ ≡ blit 24 (le 8 0) d₁ → d₃ ≡ blit 32 (block_links payload n a) d₂
    → d₄ ≡ blit (32 + 8 * n) (le 4 1 ++ le 4 n ++ le 8 payload) d₃ → d₄ ≡ blit 0 (dl_from payload n a) d₀
unfolding dl_from
dl-laid payload n a size links d₀ d₁ d₂ d₃ d₄ e q s t u v =
    let front : header kind_dl size links ≡ header kind_dl (dl_size n) (n + 1) =
    header_wrap kind_dl (dl_size n) (n + 1) size links e (ap (le 8) q ∙ le_wrap 8 (n + 1)) in
    let d3 : d₃ ≡ blit 0 (header kind_dl (dl_size n) (n + 1) ++ le 8 0 ++ block_links payload n a) d₀ =
    blit-next 0 32 _ _ d₀ d₂ d₃ (blit-next 0 24 _ _ d₀ d₁ d₂ (rw front at s) t (simp length-header)) u
    (simp (length-append, length-header, length-le)) in
    let d4 : d₄ ≡ blit 0 (header kind_dl (dl_size n) (n + 1) ++ le 8 0 ++ block_links payload n a ++ (le 4 1 ++ le 4 n ++ le 8 payload)) d₀ =
    blit-next 0 (32 + 8 * n) _ _ d₀ d₃ d₄ d3 v (simp (length-append, length-header, length-le, length_links payload n a) (omega arith)) in
    simp append_assoc (simp append_assoc at d4)
