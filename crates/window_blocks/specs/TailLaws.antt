-- A DL over a window that begins before it, in its first 32 bytes, inside its links, or past them.
use Rattle.std.specs.Prelude.{◌≡◌, ℕ, zero, suc, ◌+◌, ◌-◌, ◌*◌, ◌/◌, ◌%◌, ◌^◌, ◌<◌, ◌≤◌, List, ◌++◌, length, refl}
use Rattle.std.proofs.Common.{append_assoc, sym, ap, ◌∙◌, mul-add, mul_assoc, add-zero, zero-add, zero-mul, suc-mul, suc-add, sub-one, arith, length-append, take_at, take_all}
use Rattle.std.proofs.Math.Nat.{add-mod-mod, mod-add-div', add-mul-mod_self_right}
use Rattle.base.specs.Field.{le}
use Rattle.base.specs.FieldLaws.{length-le}
use Rattle.base.specs.Blit.{blit, part}
use Rattle.base.specs.BlitLaws.{blit-append}
use Rattle.mdf.specs.Block.{kind_dl}
use Rattle.plan.specs.Layout.{dl_size}
use Rattle.result.specs.Fill.{header, block_links}
use Rattle.result.specs.FillLaws.{length-header}
use Rattle.filling.specs.Blocks.{dl_from}
use Rattle.filling.specs.BlocksLaws.{links_wrap, length_links}
use Rattle.stores.specs.Over.{over}
use Rattle.stores.specs.OverLaws.{over-append, over_before, over-all, blit-past, blit_hides}
use Rattle.windows.specs.LayLaws.{lay_after}
use Rattle.window_blocks.specs.Tail.{dl_data, dl_tail}

-- ---- windows
-- a window and bytes that are both moved
pub over-moved : (k a at : ℕ) (bs w : List ℕ) → k ≤ a → k ≤ at → over (a - k) (at - k) bs w ≡ over a at bs w
unfolding over
over-moved k a at bs w h g =
    let e : a - k - (at - k) ≡ a - at = omega arith in
    let f : at - k - (a - k) ≡ at - a = omega arith in
    rw (e, f)

-- bytes whose front, xs, ends before the window
pub over-rest : (a at k : ℕ) (xs ys w : List ℕ) → length xs ≡ k → at + k ≤ a → over a at (xs ++ ys) w ≡ over (a - (at + k)) 0 ys w
over-rest a at k xs ys w e h =
    let z : at + k - (at + k) ≡ 0 = omega arith in
    over-append a at xs ys w ∙ rw (e, over_before a at xs w (omega arith)) (sym (over-moved (at + k) a (at + k) ys w h (omega arith)) ∙ rw z)

-- the front xs of bytes that were put at the front of a list l no longer than xs, and laid from there
pub front-from : (a at n : ℕ) (xs ys l w : List ℕ) {m r : List ℕ} → r ≡ over a at (part 0 n m) w → m ≡ blit 0 (xs ++ ys) l → length xs ≡ n → length l ≡ n
    → r ≡ over a at xs w
unfolding part
front-from a at n xs ys l w e f h k =
    let t : blit 0 (xs ++ ys) l ≡ xs = blit_hides (xs ++ ys) l (rw length-append (omega arith)) ∙ rw k (take_at xs ys n h) in
    e ∙ rw (f, t, take_all n xs (omega arith))

-- ---- links
links_split : (payload i n a : ℕ) → block_links payload (i + n) a ≡ block_links payload i a ++ block_links payload n (a + i * (24 + payload))
unfolding block_links
links_split payload zero n a = simp (zero-add, zero-mul, add-zero)
links_split payload (suc i) n a =
    let e : a + (24 + payload) + i * (24 + payload) ≡ a + suc i * (24 + payload) = rw suc-mul (omega arith) in
    rw suc-add (rw (append_assoc, ← e) (ap (λ (z : List ℕ). le 8 a ++ z) (links_split payload i n (a + (24 + payload)))))

-- ---- the tail
pub length_data : (payload n : ℕ) → length (dl_data payload n) ≡ 16
unfolding dl_data
length_data payload n = simp (length-append, length-le)

tail_cons : (payload n k b step next : ℕ) → 0 < k → step ≡ (24 + payload) % 2 ^ 64 → next ≡ (b + step) % 2 ^ 64
    → dl_tail payload n k b ≡ le 8 b ++ dl_tail payload n (k - 1) next
unfolding dl_tail block_links
tail_cons payload n zero b step next h q r = absurd (omega arith)
tail_cons payload n (suc k) b step next h q r =
    let z : next ≡ (b + (24 + payload)) % 2 ^ 64 = r ∙ rw q (add-mod-mod b (24 + payload) (2 ^ 64)) in
    rw (sub-one, z, links_wrap payload k (b + (24 + payload)), append_assoc)

-- one link more: what is left to do, done to the list, gives g, before the turn (d) and after it (e)
pub tail_turn : (payload n k b step next p : ℕ) (d e g : List ℕ) → 0 < k → blit p (dl_tail payload n k b) d ≡ g → e ≡ blit p (le 8 b) d
    → step ≡ (24 + payload) % 2 ^ 64 → next ≡ (b + step) % 2 ^ 64 → blit (p + 8) (dl_tail payload n (k - 1) next) e ≡ g
tail_turn payload n k b step next p d e g h i t q r = rw t (rw (tail_cons payload n k b step next h q r, blit-append, length-le) at i)

-- what follows this link has no room
pub tail_end : (payload n k b p : ℕ) (d e g : List ℕ) → 0 < k → blit p (dl_tail payload n k b) d ≡ g → e ≡ blit p (le 8 b) d → length e ≤ p + 8 → e ≡ g
tail_end payload n k b p d e g h i t small =
    let step : ℕ = (24 + payload) % 2 ^ 64 in
    let next : ℕ = (b + step) % 2 ^ 64 in
    sym (blit-past (dl_tail payload n (k - 1) next) (p + 8) e small) ∙ tail_turn payload n k b step next p d e g h i t refl refl

pub tail_none : (payload n b p : ℕ) (d : List ℕ) → blit p (dl_tail payload n 0 b) d ≡ over 0 p (dl_data payload n) d
unfolding dl_tail block_links
tail_none payload n b p d = sym (over-all p (dl_data payload n) d)

-- ---- a window that begins inside the tail: past the links, or inside one
pub tail_past : (payload n first skip : ℕ) (w : List ℕ) → n ≤ skip / 8 → over (skip - 8 * n) 0 (dl_data payload n) w ≡ over skip 0 (dl_tail payload n n first) w
unfolding dl_tail
tail_past payload n first skip w h =
    let z : skip - (0 + 8 * n) ≡ skip - 8 * n = omega arith in
    sym (over-rest skip 0 (8 * n) (block_links payload n first) (dl_data payload n) w (length_links payload n first) (omega arith) ∙ rw z)

tail_split : (payload n first i : ℕ) → i ≤ n → dl_tail payload n n first ≡ block_links payload i first ++ dl_tail payload n (n - i) (first + i * (24 + payload))
unfolding dl_tail
tail_split payload n first i h =
    let e : n ≡ i + (n - i) = omega arith in
    ap (λ (k : ℕ). block_links payload k first ++ dl_data payload n) e ∙ rw (links_split payload i (n - i) first, append_assoc)

tail_wrap : (payload n k b : ℕ) → dl_tail payload n k (b % 2 ^ 64) ≡ dl_tail payload n k b
unfolding dl_tail
tail_wrap payload n k b = rw links_wrap

mul_wrap : (i s m : ℕ) → i * (s % m) % m ≡ i * s % m
mul_wrap i s m =
    sym (ap (λ (z : ℕ). i * z % m) (sym (mod-add-div' s m)) ∙ rw (mul-add, ← mul_assoc) (add-mul-mod_self_right (i * (s % m)) (i * (s / m)) m))

-- where link i is
place_wrap : (first i payload step m b : ℕ) → step ≡ (24 + payload) % 2 ^ 64 → m ≡ i * step % 2 ^ 64 → b ≡ (first + m) % 2 ^ 64
    → b ≡ (first + i * (24 + payload)) % 2 ^ 64
place_wrap first i payload step m b p q r =
    r ∙ rw (q, p, mul_wrap i (24 + payload) (2 ^ 64)) (add-mod-mod first (i * (24 + payload)) (2 ^ 64))

pub tail_inside : (payload n first skip step m b next : ℕ) (w v u : List ℕ) → skip / 8 < n → step ≡ (24 + payload) % 2 ^ 64 → m ≡ skip / 8 * step % 2 ^ 64
    → b ≡ (first + m) % 2 ^ 64 → next ≡ (b + step) % 2 ^ 64 → v ≡ over (skip % 8) 0 (le 8 b) w → u ≡ blit (8 - skip % 8) (dl_tail payload n (n - skip / 8 - 1) next) v
    → u ≡ over skip 0 (dl_tail payload n n first) w
tail_inside payload n first skip step m b next w v u h p q r s t o =
    let i : ℕ = skip / 8 in
    let z : skip - (0 + 8 * i) ≡ skip % 8 = omega arith in
    let c : dl_tail payload n (n - i) (first + i * (24 + payload)) ≡ le 8 b ++ dl_tail payload n (n - i - 1) next =
    sym (tail_wrap payload n (n - i) (first + i * (24 + payload))) ∙ rw (← place_wrap first i payload step m b p q r) (tail_cons payload n (n - i) b step next (omega arith) p s) in
    let y : over (skip % 8) 0 (le 8 b ++ dl_tail payload n (n - i - 1) next) w ≡ over (skip % 8) 8 (dl_tail payload n (n - i - 1) next) v =
    over-append (skip % 8) 0 (le 8 b) (dl_tail payload n (n - i - 1) next) w ∙ rw (length-le, ← t) in
    let x : over skip 0 (dl_tail payload n n first) w ≡ over (skip % 8) 0 (dl_tail payload n (n - i) (first + i * (24 + payload))) w =
    rw (tail_split payload n first i (omega arith)) (over-rest skip 0 (8 * i) (block_links payload i first) _ w (length_links payload i first) (omega arith) ∙ rw z) in
    o ∙ lay_after (skip % 8) 8 _ v (omega arith) ∙ sym (x ∙ rw c y)

-- ---- the whole
unfoldable front : ℕ → List ℕ
front n = header kind_dl (dl_size n) (n + 1) ++ le 8 0

length_front : (n : ℕ) → length (front n) ≡ 32
unfolding front
length_front n = simp (length-append, length-header, length-le)

dl_split : (payload n a : ℕ) → dl_from payload n a ≡ front n ++ dl_tail payload n n a
unfolding dl_from front dl_tail dl_data
dl_split payload n a = simp append_assoc

-- a window that begins in the first 32 bytes, past them
pub dl-front : (payload n first skip : ℕ) (l w m v u : List ℕ) → skip ≤ 32 → m ≡ blit 0 (dl_from payload n first) l → length l ≡ 32 → v ≡ over skip 0 (part 0 32 m) w
    → u ≡ blit (32 - skip) (dl_tail payload n n first) v → u ≡ over skip 0 (dl_from payload n first) w
dl-front payload n first skip l w m v u h e k s t =
    let f : v ≡ over skip 0 (front n) w =
    front-from skip 0 32 (front n) (dl_tail payload n n first) l w s (rw (dl_split payload n first) at e) (length_front n) k in
    t ∙ lay_after skip 32 _ v h ∙ rw f (sym (rw (dl_split payload n first) (over-append skip 0 (front n) (dl_tail payload n n first) w ∙ rw length_front)))

pub dl_tail_lem : (payload n first skip : ℕ) (w : List ℕ) → 32 ≤ skip → over (skip - 32) 0 (dl_tail payload n n first) w ≡ over skip 0 (dl_from payload n first) w
dl_tail_lem payload n first skip w h =
    sym (rw (dl_split payload n first) (over-rest skip 0 32 (front n) (dl_tail payload n n first) w (length_front n) (omega arith)))

-- a block that begins before the window
pub begun : (a at : ℕ) (bs w : List ℕ) → at ≤ a → over (a - at) 0 bs w ≡ over a at bs w
begun a at bs w h = let z : at - at ≡ 0 = omega arith in rw (← z) (over-moved at a at bs w h (omega arith))
