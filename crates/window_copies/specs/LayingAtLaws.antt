-- Laws of attachments laid over a window one after the other.
use Prim.{tt}
use Rattle.std.specs.Prelude.{ℕ, ◌+◌, ◌-◌, ◌*◌, ◌≤◌, ◌<◌, ◌≡◌, get_or}
use mathlib.Core.List.{List, [], ◌∷◌}
use Rattle.std.proofs.Common.{sym, ap, ◌∙◌, arith}
use Rattle.std.proofs.Math.Path.{subst}
use Rattle.std.proofs.Math.ListN.{length, length-append}
use Rattle.base.specs.Blit.{part}
use Rattle.mdf.specs.Block.{size_at}
use Rattle.plan.specs.Copies.{Copy, Attachment}
use Rattle.copier.specs.Standing.{copies_from, copies_in}
use Rattle.copier.specs.StandingLaws.{length-copies}
use Rattle.result.specs.Fill.{copied_blocks, next_attachment, at_bytes, attachment_blocks}
use Rattle.copies_laws.specs.AttachLaws.{Moved, LaidAt, own_copies}
use Rattle.copies_laws.specs.LengthLaws.{length_at}
use Rattle.stores.specs.Over.{over}
use Rattle.windows.specs.Windowed.{over_all}
use Rattle.windows.specs.WindowedLaws.{over-two}
use Rattle.window_copies.specs.Attachments.{attachment, attachments_from, attachments_in, NextPlace}
use Rattle.window_copies.specs.AttachmentsLaws.{attachments_cons, attachments-none}
use Rattle.window_copies.specs.Laying.{Wholes, Apart}
use Rattle.window_copies.specs.LayingLaws.{laid_wholes, copies-part}
use Rattle.window_copies.specs.LayingAt.{AllMoved, LayingAt}

-- attachments that are laid in order passed their checks
pub laid-moved : (s : List ℕ) (a : ℕ) (ts : List Attachment) (e : ℕ) → LaidAt s a ts e → AllMoved s ts
unfolding LaidAt AllMoved
laid-moved s a [] e l = tt
laid-moved s a (t ∷ ts) e l = (laid_wholes s a t.own t.to l.0, l.1, laid-moved s (t.to + size_at s t.from) ts e l.2)

-- an AT that has no byte in the window
pub apart_at : (s : List ℕ) (m : List Copy) (a n b at next : ℕ) (w : List ℕ) → Apart s a n b at → length w ≡ n → Moved s b
    → w ≡ over a at (at_bytes s m b next) w
apart_at s m a n b at next w p k h = sym (p.kept (at_bytes s m b next) w (length_at s m b next h) k)

-- ---- the loop over the attachments
pub at_begin : (s words chain : List ℕ) (used fh a first count : ℕ) (w : List ℕ) → first + length (own_copies (attachments_in words first count)) ≤ used
    → AllMoved s (attachments_in words first count)
    → LayingAt s words chain used fh a count (over_all a (attachment_blocks s chain (copies_in words used) fh (attachments_in words first count)) w) 0 first w
at_begin s words chain used fh a first count w h k =
    let e : count - 0 ≡ count = omega arith in
    let f : 4100 + 3 * 0 ≡ 4100 = omega arith in
    let q : attachments_in words first count ≡ attachments_from words (4100 + 3 * 0) first (count - 0) = rw (e, f) in
    record {
      few = subst (λ (ts : List Attachment). first + length (own_copies ts) ≤ used) q h;
      moved = subst (λ (ts : List Attachment). AllMoved s ts) q k;
      rest = ap (λ (ts : List Attachment). over_all a (attachment_blocks s chain (copies_in words used) fh ts) w) (sym q);
    }

-- blocks, one more, and the rest
over-three : (a : ℕ) (s chain : List ℕ) (m : List Copy) (fh : ℕ) (t : Attachment) (ts : List Attachment) (w : List ℕ)
    → over_all a (attachment_blocks s chain m fh (t ∷ ts)) w
    ≡ over_all a (attachment_blocks s chain m fh ts) (over a t.to (at_bytes s m t.from (next_attachment ts)) (over_all a (copied_blocks s chain m fh t.own) w))
unfolding attachment_blocks over_all
over-three a s chain m fh t ts w = over-two a (copied_blocks s chain m fh t.own) _ w

module _ {s words chain : List ℕ} {used fh a count : ℕ} {g : List ℕ} {i k : ℕ} {w : List ℕ} (t : LayingAt s words chain used fh a count g i k w) where
  next_is : i < count → attachments_from words (4100 + 3 * i) k (count - i)
      ≡ attachment words (4100 + 3 * i) k ∷ attachments_from words (4100 + 3 * (i + 1)) (k + get_or words (4100 + 3 * i + 2) 0) (count - (i + 1))
  next_is h =
      let e : 4100 + 3 * (i + 1) ≡ 4100 + 3 * i + 3 = omega arith in
      let f : count - (i + 1) ≡ count - i - 1 = omega arith in
      rw (e, f) (attachments_cons words (4100 + 3 * i) k (count - i) (omega arith))

  next-few : i < count → k + get_or words (4100 + 3 * i + 2) 0
      + length (own_copies (attachments_from words (4100 + 3 * (i + 1)) (k + get_or words (4100 + 3 * i + 2) 0) (count - (i + 1)))) ≤ used
  unfolding own_copies
  next-few h =
      let e = subst (λ (ts : List Attachment). k + length (own_copies ts) ≤ used) (next_is h) t.few in
      let f = length-copies words (2 * k) (get_or words (4100 + 3 * i + 2) 0) in
      omega (arith, simp length-append at e, f)

  -- its own copies are there
  pub next_end : i < count → k + get_or words (4100 + 3 * i + 2) 0 ≤ used
  next_end h = omega (arith, next-few h)

  next-moved : i < count → Wholes s (copies_from words (2 * k) (get_or words (4100 + 3 * i + 2) 0)) × Moved s (get_or words (4100 + 3 * i) 0)
      × AllMoved s (attachments_from words (4100 + 3 * (i + 1)) (k + get_or words (4100 + 3 * i + 2) 0) (count - (i + 1)))
  unfolding AllMoved
  next-moved h = subst (λ (ts : List Attachment). AllMoved s ts) (next_is h) t.moved

  pub at_turn : {e next : ℕ} {v : List ℕ} → i < count → e ≡ k + get_or words (4100 + 3 * i + 2) 0 → NextPlace words (i + 1) count next
      → (k ≤ e → e ≤ used → Wholes s (part k (e - k) (copies_in words used)) → Moved s (get_or words (4100 + 3 * i) 0)
      → v ≡ over a (get_or words (4100 + 3 * i + 1) 0) (at_bytes s (copies_in words used) (get_or words (4100 + 3 * i) 0) next)
      (over_all a (copied_blocks s chain (copies_in words used) fh (part k (e - k) (copies_in words used))) w))
      → LayingAt s words chain used fh a count g (i + 1) e v
  at_turn {e} {next} {v} h q p u =
      let m : List Copy = copies_in words used in
      let x : ℕ = get_or words (4100 + 3 * i) 0 in
      let y : ℕ = get_or words (4100 + 3 * i + 1) 0 in
      let c : ℕ = get_or words (4100 + 3 * i + 2) 0 in
      let ts : List Attachment = attachments_from words (4100 + 3 * (i + 1)) (k + c) (count - (i + 1)) in
      let n : e - k ≡ c = omega arith in
      let z = next-moved h in
      let cs : part k (e - k) m ≡ copies_from words (2 * k) c =
      copies-part words used k e (omega arith) (omega (arith, next_end h)) ∙ ap (copies_from words (2 * k)) n in
      let one = u (omega arith) (omega (arith, next_end h)) (subst (λ (l : List Copy). Wholes s l) (sym cs) z.0) z.1 in
      let two : v ≡ over a y (at_bytes s m x (next_attachment ts)) (over_all a (copied_blocks s chain m fh (copies_from words (2 * k) c)) w) =
      one
      ∙ ap (λ (l : List Copy). over a y (at_bytes s m x next) (over_all a (copied_blocks s chain m fh l) w)) cs
      ∙ ap (λ (r : ℕ). over a y (at_bytes s m x r) (over_all a (copied_blocks s chain m fh (copies_from words (2 * k) c)) w)) (p.is (k + c)) in
      let r = subst (λ (l : List Attachment). over_all a (attachment_blocks s chain m fh l) w ≡ g) (next_is h) t.rest in
      let three = ap (over_all a (attachment_blocks s chain m fh ts)) two ∙ sym (over-three a s chain m fh (attachment words (4100 + 3 * i) k) ts w) ∙ r in
      rw q (record { few = next-few h; moved = z.2; rest = three })

  pub at_end : count ≤ i → w ≡ g
  unfolding attachment_blocks over_all
  at_end h =
      subst (λ (ts : List Attachment). over_all a (attachment_blocks s chain (copies_in words used) fh ts) w ≡ g)
      (attachments-none words (4100 + 3 * i) k (count - i) (omega arith)) t.rest
