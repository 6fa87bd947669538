-- An MD over a window that begins before it, or inside it.
use Rattle.std.specs.Prelude.{◌≡◌, ℕ, zero, suc, ◌+◌, ◌-◌, ◌*◌, min, ◌/◌, ◌%◌, ◌^◌, ◌≤◌, List, ◌++◌, length, take, drop, replicate, refl}
use Rattle.std.proofs.Common.{⊎_elim, sym, ap, ◌∙◌, arith, length-append, take_all}
use Rattle.std.proofs.Math.Nat.{sub-zero, zero-sub, suc-sub-suc}
use Rattle.base.specs.Field.{le}
use Rattle.base.specs.Blit.{blit, part}
use Rattle.mdf.specs.Block.{kind_md}
use Rattle.plan.specs.Layout.{md_size}
use Rattle.puts.specs.PutLaws.{le_wrap}
use Rattle.result.specs.Fill.{header, md_bytes}
use Rattle.result.specs.FillLaws.{length-header}
use Rattle.copies_laws.specs.LengthLaws.{length_md}
use Rattle.filling.specs.BlocksLaws.{md_size_lem, md_pad, header_wrap}
use Rattle.stores.specs.Over.{over}
use Rattle.stores.specs.Cases.{lt_or_le}
use Rattle.stores.specs.OverLaws.{over-append, over_before, blit-past}

-- cs laid just past bs
over-next : (a at p : ℕ) (bs cs u v w : List ℕ) → v ≡ over a at bs u → w ≡ over a p cs v → p ≡ at + length bs → w ≡ over a at (bs ++ cs) u
over-next a at p bs cs u v w s t q = rw (t, q, s) (sym (over-append a at bs cs u))

pub md_over : (n size skip : ℕ) (text w₀ w₁ w₂ w₃ : List ℕ) → n ≡ length text → size ≡ (n / 8 * 8 + 32) % 2 ^ 64 → w₁ ≡ over skip 0 (header kind_md size 0) w₀
    → w₂ ≡ over skip 24 (part 0 n text) w₁ → w₃ ≡ over skip (24 + n) (replicate (8 - n % 8) 0) w₂ → w₃ ≡ over skip 0 (md_bytes text) w₀
unfolding md_bytes part
md_over n size skip text w₀ w₁ w₂ w₃ e q s t u =
    let same : le 8 size ≡ le 8 (md_size n) = rw q (le_wrap 8 (n / 8 * 8 + 32) ∙ ap (le 8) (md_size_lem n)) in
    let front : header kind_md size 0 ≡ header kind_md (md_size n) 0 = header_wrap kind_md (md_size n) 0 size 0 same refl in
    let all : take n text ≡ text = take_all n text (omega arith) in
    let two = over-next skip 0 24 _ _ w₀ w₁ w₂ (rw front at s) (rw all at t) (simp length-header) in
    rw (← e) (over-next skip 0 (24 + n) _ _ w₀ w₂ w₃ two (rw (md_pad n) at u) (simp (length-append, length-header) (omega arith)))

-- an MD that ends before the window
pub md_before : (a at : ℕ) (text w : List ℕ) → at + 32 ≤ a → length text ≤ a - at - 32 → w ≡ over a at (md_bytes text) w
md_before a at text w h k = sym (over_before a at (md_bytes text) w (rw length_md (omega (arith, sym (md_size_lem (length text))))))

-- ---- zeros over a window that begins inside them
drop-zeros : (i n : ℕ) → drop i (replicate {A = ℕ} n 0) ≡ replicate (n - i) 0
drop-zeros zero n = rw sub-zero
drop-zeros (suc i) zero = rw zero-sub
drop-zeros (suc i) (suc n) = rw suc-sub-suc (drop-zeros i n)

-- an index past the end for another
blit_min : (i m : ℕ) (bs w : List ℕ) → length w ≤ m → blit (min i m) bs w ≡ blit i bs w
blit_min i m bs w h =
    ⊎_elim (λ l. let e : min i m ≡ i = omega arith in rw e refl)
    (λ l. blit-past bs (min i m) w (omega arith) ∙ sym (blit-past bs i w (omega arith)))
    (lt_or_le i m)

-- those that end a text of n bytes, as far as they lie in a window that begins skip bytes past where the MD begins; no index of it is over m
pub zeros_over : (skip n m : ℕ) (w : List ℕ) → length w ≤ m
    → blit (min (n - (skip - 24) + (24 - skip)) m) (replicate (8 - n % 8 - (skip - 24 - n)) 0) w ≡ over skip (24 + n) (replicate (8 - n % 8) 0) w
unfolding over
zeros_over skip n m w h =
    let e : n - (skip - 24) + (24 - skip) ≡ 24 + n - skip = omega arith in
    let f : skip - 24 - n ≡ skip - (24 + n) = omega arith in
    blit_min (n - (skip - 24) + (24 - skip)) m _ w h ∙ rw (e, f, drop-zeros (skip - (24 + n)) (8 - n % 8)) refl
