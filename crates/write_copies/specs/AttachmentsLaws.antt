-- Attachments written one after the other, each after its own copies.
use Prim.Native.Nat.{ℕ, ◌+◌, ◌-◌, ◌*◌, ◌≤◌, ◌<◌}
use mathlib.Core.List.{List, [], ◌∷◌, ◌++◌, append_assoc}
use Rattle.std.specs.Prelude.{◌≡◌, refl}
use Rattle.std.proofs.Math.Path.{sym, ap, subst}
use Rattle.std.proofs.Common.{◌∙◌, le_refl}
use native.Mathlib.Omega.{arith}
use Rattle.std.proofs.Math.ListN.{length, get_or, length-append}
use Rattle.base.specs.Blit.{part}
use Rattle.mdf.specs.Block.{size_at}
use Rattle.plan.specs.Copies.{Copy, Attachment}
use Rattle.copier.specs.Standing.{copies_from, copies_in}
use Rattle.copier.specs.StandingLaws.{length-copies}
use Rattle.result.specs.Fill.{Block, block, copied_blocks, next_attachment, at_bytes, attachment_blocks}
use Rattle.result.specs.Ordered.{Ordered}
use Rattle.result.specs.OrderedLaws.{ordered-append}
use Rattle.copies_laws.specs.Laid.{Laid}
use Rattle.copies_laws.specs.AttachLaws.{Moved, LaidAt, laid_at_ends, own_copies}
use Rattle.copies_laws.specs.LengthLaws.{length_at}
use Rattle.copies_laws.specs.OrderLaws.{copied-ordered, attached_ordered}
use Rattle.write_copies.specs.Wrote.{end_of, Wrote}
use Rattle.write_copies.specs.WroteLaws.{ordered_end, end_append, wrote_append}
use Rattle.write_copies.specs.CopiesLaws.{Left, left-all, left_turn, left-none}
use Rattle.window_copies.specs.Attachments.{attachment, attachments_from, attachments_in, NextPlace}
use Rattle.window_copies.specs.AttachmentsLaws.{attachments_cons}
use Rattle.window_copies.specs.LayingLaws.{copies-part}
use Rattle.write_copies.specs.Attachments.{Placing}

-- ---- blocks and one more at the end
ordered_last : (a b e : ℕ) (xs : List Block) (bytes : List ℕ) → Ordered a xs b → b + length bytes ≤ e → Ordered a (xs ++ (block b bytes ∷ [])) e
unfolding Ordered
ordered_last a b e xs bytes o h = ordered-append a b e xs (block b bytes ∷ []) o (le_refl b, h)

end_last : (a b : ℕ) (xs : List Block) (bytes : List ℕ) → end_of a (xs ++ (block b bytes ∷ [])) ≡ b + length bytes
unfolding end_of
end_last a b xs bytes = end_append a xs (block b bytes ∷ [])

-- ---- an AT after its own copies
module _ {s : List ℕ} {p : ℕ} {own : List Copy} {x y e : ℕ} (t : Placing s p own x y e) (chain : List ℕ) (memo : List Copy) (fh : ℕ) where
  pub own_end : {q : ℕ} {out mid : List ℕ} → Wrote p (copied_blocks s chain memo fh own) q out mid → q ≤ y
  own_end v =
      let r = ordered_end p _ y (copied-ordered s chain memo fh p y own t.laid) in
      omega (arith, v.end, r.1)

  pub wrote_attachment : (next : ℕ) {q r : ℕ} {out mid last : List ℕ} → Wrote p (copied_blocks s chain memo fh own) q out mid
      → Wrote q (block y (at_bytes s memo x next) ∷ []) r mid last → Wrote p (copied_blocks s chain memo fh own ++ (block y (at_bytes s memo x next) ∷ [])) r out last
  wrote_attachment next {q} {r} v w =
      wrote_append e v w (ordered_last p y e (copied_blocks s chain memo fh own) (at_bytes s memo x next)
      (copied-ordered s chain memo fh p y own t.laid) (rw (length_at s memo x next t.moved) t.ends))

-- ---- the loop over the attachments from number i on
module _ (s w chain : List ℕ) (used fh a : ℕ) (bs : List Block) (out₀ : List ℕ) (count i k p : ℕ) (out : List ℕ) where
  pub record AttachmentsLeft : Type 0 where
    pub order : i ≤ count
    pub same : length out ≡ length out₀
    pub few : k + length (own_copies (attachments_from w (4100 + 3 * i) k (count - i))) ≤ used
    pub laid : LaidAt s p (attachments_from w (4100 + 3 * i) k (count - i)) (length out)
    pub left : Left a bs out₀ p (attachment_blocks s chain (copies_in w used) fh (attachments_from w (4100 + 3 * i) k (count - i))) out

pub attachments_begin : (s w chain : List ℕ) (used fh a first count : ℕ) (out : List ℕ)
    → first + length (own_copies (attachments_in w first count)) ≤ used → LaidAt s a (attachments_in w first count) (length out)
    → AttachmentsLeft s w chain used fh a (attachment_blocks s chain (copies_in w used) fh (attachments_in w first count)) out count 0 first a out
attachments_begin s w chain used fh a first count out h l =
    let e : count - 0 ≡ count = omega arith in
    let f : 4100 + 3 * 0 ≡ 4100 = omega arith in
    let q : attachments_in w first count ≡ attachments_from w (4100 + 3 * 0) first (count - 0) = rw (e, f) in
    record {
      order = omega arith;
      same = refl;
      few = rw q at h;
      laid = subst (λ (ts : List Attachment). LaidAt s a ts (length out)) q l;
      left = rw q (left-all a _ out);
    }

module _ {s w chain : List ℕ} {used fh a : ℕ} {bs : List Block} {out₀ : List ℕ} {count i k p : ℕ} {out : List ℕ}
    (t : AttachmentsLeft s w chain used fh a bs out₀ count i k p out) where
  next_is : i < count → attachments_from w (4100 + 3 * i) k (count - i)
      ≡ attachment w (4100 + 3 * i) k ∷ attachments_from w (4100 + 3 * (i + 1)) (k + get_or w (4100 + 3 * i + 2) 0) (count - (i + 1))
  next_is h =
      let e : 4100 + 3 * (i + 1) ≡ 4100 + 3 * i + 3 = omega arith in
      let f : count - (i + 1) ≡ count - i - 1 = omega arith in
      rw (e, f) (attachments_cons w (4100 + 3 * i) k (count - i) (omega arith))

  next-few : i < count → k + get_or w (4100 + 3 * i + 2) 0
      + length (own_copies (attachments_from w (4100 + 3 * (i + 1)) (k + get_or w (4100 + 3 * i + 2) 0) (count - (i + 1)))) ≤ used
  unfolding own_copies
  next-few h =
      let e : k + length (own_copies (attachment w (4100 + 3 * i) k ∷ attachments_from w (4100 + 3 * (i + 1)) (k + get_or w (4100 + 3 * i + 2) 0) (count - (i + 1)))) ≤ used =
      rw (next_is h) at t.few in
      let f = length-copies w (2 * k) (get_or w (4100 + 3 * i + 2) 0) in
      omega (arith, simp length-append at e, f)

  next-laid : i < count → Laid s p (copies_from w (2 * k) (get_or w (4100 + 3 * i + 2) 0)) (get_or w (4100 + 3 * i + 1) 0)
      × Moved s (get_or w (4100 + 3 * i) 0)
      × LaidAt s (get_or w (4100 + 3 * i + 1) 0 + size_at s (get_or w (4100 + 3 * i) 0))
      (attachments_from w (4100 + 3 * (i + 1)) (k + get_or w (4100 + 3 * i + 2) 0) (count - (i + 1))) (length out)
  unfolding LaidAt
  next-laid h = subst (λ (ts : List Attachment). LaidAt s p ts (length out)) (next_is h) t.laid

  -- its own copies, by their numbers
  pub next_end : i < count → k + get_or w (4100 + 3 * i + 2) 0 ≤ used
  next_end h = omega (arith, next-few h)

  next-own : i < count → {e : ℕ} → e ≡ k + get_or w (4100 + 3 * i + 2) 0
      → part k (e - k) (copies_in w used) ≡ copies_from w (2 * k) (get_or w (4100 + 3 * i + 2) 0)
  next-own h {e} q =
      let n : e - k ≡ get_or w (4100 + 3 * i + 2) 0 = omega arith in
      copies-part w used k e (omega arith) (omega (arith, next_end h)) ∙ ap (copies_from w (2 * k)) n

  pub next_placing : i < count → {e : ℕ} → e ≡ k + get_or w (4100 + 3 * i + 2) 0
      → Placing s p (part k (e - k) (copies_in w used)) (get_or w (4100 + 3 * i) 0) (get_or w (4100 + 3 * i + 1) 0) (length out)
  next_placing h q =
      let l = next-laid h in
      record {
        laid = subst (λ (cs : List Copy). Laid s p cs (get_or w (4100 + 3 * i + 1) 0)) (sym (next-own h q)) l.0;
        moved = l.1;
        ends = laid_at_ends s _ (length out) _ l.2;
      }

  pub attachments_turn : i < count → {e next q : ℕ} {out' : List ℕ} → e ≡ k + get_or w (4100 + 3 * i + 2) 0
      → NextPlace w (i + 1) count next
      → Wrote p (copied_blocks s chain (copies_in w used) fh (part k (e - k) (copies_in w used))
      ++ (block (get_or w (4100 + 3 * i + 1) 0) (at_bytes s (copies_in w used) (get_or w (4100 + 3 * i) 0) next) ∷ [])) q out out'
      → length out' ≡ length out → AttachmentsLeft s w chain used fh a bs out₀ count (i + 1) e q out'
  unfolding attachment_blocks
  attachments_turn h {e} {next} {q} {out'} z u v n =
      let l = next-laid h in
      let memo : List Copy = copies_in w used in
      let x : ℕ = get_or w (4100 + 3 * i) 0 in
      let y : ℕ = get_or w (4100 + 3 * i + 1) 0 in
      let ts : List Attachment = attachments_from w (4100 + 3 * (i + 1)) (k + get_or w (4100 + 3 * i + 2) 0) (count - (i + 1)) in
      let own : List Copy = copies_from w (2 * k) (get_or w (4100 + 3 * i + 2) 0) in
      let xs : List Block = copied_blocks s chain memo fh own ++ (block y (at_bytes s memo x (next_attachment ts)) ∷ []) in
      let v' : Wrote p xs q out out' =
      subst (λ (m : ℕ). Wrote p (copied_blocks s chain memo fh own ++ (block y (at_bytes s memo x m) ∷ [])) q out out') (u.is (k + get_or w (4100 + 3 * i + 2) 0))
      (subst (λ (cs : List Copy). Wrote p (copied_blocks s chain memo fh cs ++ (block y (at_bytes s memo x next) ∷ [])) q out out') (next-own h z) v) in
      let r : q ≡ y + size_at s x = v'.end ∙ end_last p y (copied_blocks s chain memo fh own) (at_bytes s memo x (next_attachment ts))
      ∙ ap (λ (m : ℕ). y + m) (length_at s memo x (next_attachment ts) l.1) in
      record {
        order = omega arith;
        same = n ∙ t.same;
        few = rw z (next-few h);
        laid = rw (r, n, z) l.2;
        left = rw z (left_turn (length out) xs (attachment_blocks s chain memo fh ts) t.left
            (ap (attachment_blocks s chain memo fh) (next_is h)
            ∙ sym (append_assoc (copied_blocks s chain memo fh own) (block y (at_bytes s memo x (next_attachment ts)) ∷ []) (attachment_blocks s chain memo fh ts)))
            (attached_ordered s chain memo fh p (length out) _ t.laid) v');
      }

  pub attachments_end_lem : count ≤ i → Wrote a bs p out₀ out
  unfolding attachment_blocks attachments_from
  attachments_end_lem h =
      let e : count - i ≡ 0 = omega arith in
      left-none t.left (ap (λ (n : ℕ). attachment_blocks s chain (copies_in w used) fh (attachments_from w (4100 + 3 * i) k n)) e)
