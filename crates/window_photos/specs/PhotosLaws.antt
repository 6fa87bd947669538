-- References over a window that begins before them, inside one, or past them.
use Prim.Native.Nat.{ℕ, zero, suc, ◌+◌, ◌*◌, ◌/◌, ◌%◌, ◌-◌, ◌≤◌, ◌<◌}
use Rattle.std.specs.Prelude.{List, [], ◌++◌, ◌≡◌, refl, length}
use Rattle.std.proofs.Math.Path.{sym}
use Rattle.std.proofs.Common.{ap, ◌∙◌}
use native.Mathlib.Omega.{arith}
use Rattle.base.specs.Field.{le_at, le}
use Rattle.base.specs.FieldLaws.{length-le}
use Rattle.base.specs.Blit.{blit}
use Rattle.base.specs.BlitLaws.{blit-append}
use Rattle.mdf.specs.Block.{link_at}
use Rattle.plan.specs.Copies.{Attachment}
use Rattle.plan.specs.Photos.{links_from}
use Rattle.result.specs.Fill.{words, moved_to, photo_links}
use Rattle.stores.specs.Over.{over}
use Rattle.stores.specs.OverLaws.{over-append, over_before, blit-past}
use Rattle.windows.specs.LayLaws.{lay_after}
use Rattle.window_blocks.specs.TailLaws.{over-rest, begun}
use Rattle.window_photos.specs.Photos.{photos_from}

module _ (s : List ℕ) (ats : List Attachment) (c n : ℕ) where
  pub all_photos : words (photo_links ats (links_from s n (c + 88))) ≡ photos_from s ats c 0 n
  unfolding photos_from
  all_photos =
      let e : n - 0 ≡ n = omega arith in
      let f : c + 88 + 8 * 0 ≡ c + 88 = omega arith in
      rw (e, f)

  pub no_photos : (i : ℕ) → n ≤ i → photos_from s ats c i n ≡ []
  unfolding photos_from links_from photo_links words
  no_photos i h = let e : n - i ≡ 0 = omega arith in rw e

  -- the first of those that are left
  photos_cons : (i a to : ℕ) → i < n → a ≡ link_at s c (8 + i) → to ≡ moved_to a ats → photos_from s ats c i n ≡ le 8 to ++ photos_from s ats c (i + 1) n
  unfolding photos_from links_from photo_links words link_at
  photos_cons i a to h e f =
      let m : n - i ≡ suc (n - (i + 1)) = omega arith in
      let at : c + 24 + 8 * (8 + i) ≡ c + 88 + 8 * i = omega arith in
      let past : c + 88 + 8 * i + 8 ≡ c + 88 + 8 * (i + 1) = omega arith in
      let is : moved_to (le_at 8 s (c + 88 + 8 * i)) ats ≡ to = sym (f ∙ rw e (ap (λ (k : ℕ). moved_to (le_at 8 s k) ats) at)) in
      rw (m, past, is)

  -- one reference more: what is left to do, done to the list, gives g, before the turn (d) and after it (e)
  pub photos_turn : (i a to p : ℕ) (d e g : List ℕ) → i < n → a ≡ link_at s c (8 + i) → to ≡ moved_to a ats → blit p (photos_from s ats c i n) d ≡ g
      → e ≡ blit p (le 8 to) d → blit (p + 8) (photos_from s ats c (i + 1) n) e ≡ g
  photos_turn i a to p d e g h j k l t = rw t (rw (photos_cons i a to h j k, blit-append, length-le) at l)

  -- those after this one have no room
  pub photos_end : (i a to p : ℕ) (d e g : List ℕ) → i < n → a ≡ link_at s c (8 + i) → to ≡ moved_to a ats → blit p (photos_from s ats c i n) d ≡ g
      → e ≡ blit p (le 8 to) d → length e ≤ p + 8 → e ≡ g
  photos_end i a to p d e g h j k l t small = sym (blit-past (photos_from s ats c (i + 1) n) (p + 8) e small) ∙ photos_turn i a to p d e g h j k l t

  -- ---- those that end before the window
  photos_over : (skip i : ℕ) (w : List ℕ) → i ≤ n → 8 * i ≤ skip → over (skip - 8 * i) 0 (photos_from s ats c i n) w ≡ over skip 0 (photos_from s ats c 0 n) w
  photos_over skip zero w h g = let z : skip - 8 * 0 ≡ skip = omega arith in rw z
  photos_over skip (suc i) w h g =
      let z : skip - 8 * i - (0 + 8) ≡ skip - 8 * suc i = omega arith in
      let one : i + 1 ≡ suc i = omega arith in
      let k : ℕ = moved_to (link_at s c (8 + i)) ats in
      let x : photos_from s ats c i n ≡ le 8 k ++ photos_from s ats c (suc i) n = rw (← one) (photos_cons i _ k (omega arith) refl refl) in
      sym (sym (photos_over skip i w (omega arith) (omega arith))
      ∙ rw x (over-rest (skip - 8 * i) 0 8 (le 8 k) (photos_from s ats c (suc i) n) w (length-le 8 k) (omega arith) ∙ rw z))

  photos_past : (skip : ℕ) (w : List ℕ) → n ≤ skip / 8 → w ≡ over skip 0 (photos_from s ats c 0 n) w
  photos_past skip w h =
      sym (over_before (skip - 8 * n) 0 [] w (omega arith)) ∙ rw (← no_photos n (omega arith)) (photos_over skip n w (omega arith) (omega arith))

  photos_inside : (skip a to : ℕ) (w v u : List ℕ) → skip / 8 < n → a ≡ link_at s c (8 + skip / 8) → to ≡ moved_to a ats → v ≡ over (skip % 8) 0 (le 8 to) w
      → u ≡ blit (8 - skip % 8) (photos_from s ats c (skip / 8 + 1) n) v → u ≡ over skip 0 (photos_from s ats c 0 n) w
  photos_inside skip a to w v u h e f t o =
      let i : ℕ = skip / 8 in
      let z : skip - 8 * i ≡ skip % 8 = omega arith in
      let y : over (skip % 8) 0 (photos_from s ats c i n) w ≡ over (skip % 8) 8 (photos_from s ats c (i + 1) n) v =
      rw (photos_cons i a to h e f) (over-append (skip % 8) 0 (le 8 to) (photos_from s ats c (i + 1) n) w ∙ rw (length-le, ← t)) in
      o ∙ lay_after (skip % 8) 8 _ v (omega arith) ∙ sym y ∙ ap (λ (k : ℕ). over k 0 (photos_from s ats c i n) w) (sym z) ∙ photos_over skip i w (omega arith) (omega arith)

  -- ---- the same of all, which stand at index at
  pub before_window : (a at : ℕ) (w : List ℕ) → at ≤ a → n ≤ (a - at) / 8 → w ≡ over a at (words (photo_links ats (links_from s n (c + 88)))) w
  before_window a at w h k = rw all_photos (photos_past (a - at) w k ∙ begun a at _ w h)

  pub inside_window : (a at x to : ℕ) (w v u : List ℕ) → at ≤ a → (a - at) / 8 < n → x ≡ link_at s c (8 + (a - at) / 8) → to ≡ moved_to x ats
      → v ≡ over ((a - at) % 8) 0 (le 8 to) w → u ≡ blit (8 - (a - at) % 8) (photos_from s ats c ((a - at) / 8 + 1) n) v
      → u ≡ over a at (words (photo_links ats (links_from s n (c + 88)))) w
  inside_window a at x to w v u h k e f t o = rw all_photos (photos_inside (a - at) x to w v u k e f t o ∙ begun a at _ w h)

  pub after_window : (a at : ℕ) (w u : List ℕ) → a ≤ at → u ≡ blit (at - a) (photos_from s ats c 0 n) w
      → u ≡ over a at (words (photo_links ats (links_from s n (c + 88)))) w
  after_window a at w u h o = rw all_photos (o ∙ lay_after a at _ w h)
