-- Blocks written one after the other, by what is left of them; the copies in the words, each after the one before.
use Rattle.std.specs.Prelude.{ℕ, zero, suc, ◌+◌, ◌-◌, ◌*◌, ◌≤◌, ◌<◌, ◌≡◌, refl, length, replicate}
use mathlib.Core.List.{List, [], ◌∷◌, ◌++◌}
use Rattle.std.proofs.Common.{sym, ◌∙◌, sub-one}
use Rattle.std.proofs.Math.Path.{ap, subst}
use native.Mathlib.Omega.{arith}
use Rattle.std.proofs.Math.ListN.{get_or}
use Rattle.base.specs.Blit.{part, blit}
use Rattle.mdf.specs.Block.{size_at}
use Rattle.plan.specs.Copies.{Copy}
use Rattle.copier.specs.Standing.{copy, copies_from, copies_in}
use Rattle.result.specs.Fill.{Block, block, copied_bytes, copied_blocks}
use Rattle.result.specs.Ordered.{Ordered}
use Rattle.copies_laws.specs.AnswerLaws.{Whole}
use Rattle.copies_laws.specs.Laid.{Laid, laid-ends}
use Rattle.copies_laws.specs.LengthLaws.{length-copied}
use Rattle.copies_laws.specs.OrderLaws.{copied-ordered}
use Rattle.window_copies.specs.LayingLaws.{copies-part}
use Rattle.write_copies.specs.Wrote.{end_of, Wrote}
use Rattle.write_copies.specs.WroteLaws.{wrote_none, wrote_block, wrote_append}

-- ---- what is left: cs, written from p on over out, end what bs are, written from a on over out₀
pub record Left (a : ℕ) (bs : List Block) (out₀ : List ℕ) (p : ℕ) (cs : List Block) (out : List ℕ) : Type 0 where
  pub rest : (r : ℕ) (last : List ℕ) → Wrote p cs r out last → Wrote a bs r out₀ last

pub left-all : (a : ℕ) (bs : List Block) (out : List ℕ) → Left a bs out a bs out
left-all a bs out = record { rest = λ r last w. w }

pub left_turn : {a p q : ℕ} {bs cs : List Block} {out₀ out out' : List ℕ} (e : ℕ) (xs ys : List Block) → Left a bs out₀ p cs out → cs ≡ xs ++ ys
    → Ordered p cs e → Wrote p xs q out out' → Left a bs out₀ q ys out'
left_turn {a} {p} {q} {bs} {cs} {out₀} {out} {out'} e xs ys l k o w =
    let o' : Ordered p (xs ++ ys) e = subst (λ (z : List Block). Ordered p z e) k o in
    record {
      rest = λ r last v.
          l.rest r last (subst (λ (z : List Block). Wrote p z r out last) (sym k) (wrote_append e {xs = xs} {ys = ys} w v o'));
    }

pub left-none : {a p : ℕ} {bs cs : List Block} {out₀ out : List ℕ} → Left a bs out₀ p cs out → cs ≡ [] → Wrote a bs p out₀ out
left-none {a} {p} {bs} {cs} {out₀} {out} l k = l.rest p out (subst (λ (z : List Block). Wrote p z p out out) (sym k) (wrote_none p out))

-- zeros up to the place of a block of n bytes, then the block
pub wrote_placed : (p place n : ℕ) (bytes out mid : List ℕ) {last : List ℕ} → p ≤ place → length bytes ≡ n
    → mid ≡ blit p (replicate (place - p) 0) out → last ≡ blit place bytes mid → Wrote p (block place bytes ∷ []) (place + n) out last
wrote_placed p place n bytes out mid {last} h l t u =
    let k : last ≡ blit place bytes (blit p (replicate (place - p) 0) out) = rw t at u in
    subst (λ (z : ℕ). Wrote p (block place bytes ∷ []) (place + z) out last) l (wrote_block (block place bytes) h k)

-- ---- copies of the words: one and the rest
pub copies_cons : (w : List ℕ) (p k : ℕ) → 0 < k → copies_from w p k ≡ copy (get_or w p 0) (get_or w (p + 1) 0) ∷ copies_from w (p + 2) (k - 1)
unfolding copies_from
copies_cons w p zero h = absurd (omega arith)
copies_cons w p (suc k) h = rw sub-one

-- ---- the loop over the copies i up to to
module _ (s w chain : List ℕ) (memo : List Copy) (fh a : ℕ) (bs : List Block) (out₀ : List ℕ) (to i p : ℕ) (out : List ℕ) where
  pub record CopiesLeft : Type 0 where
    pub order : i ≤ to
    pub same : length out ≡ length out₀
    pub laid : Laid s p (copies_from w (2 * i) (to - i)) (length out)
    pub left : Left a bs out₀ p (copied_blocks s chain memo fh (copies_from w (2 * i) (to - i))) out

pub copies_begin : (s w chain : List ℕ) (fh a used from to : ℕ) (out : List ℕ) → from ≤ to → to ≤ used
    → Laid s a (part from (to - from) (copies_in w used)) (length out)
    → CopiesLeft s w chain (copies_in w used) fh a (copied_blocks s chain (copies_in w used) fh (part from (to - from) (copies_in w used))) out to from a out
copies_begin s w chain fh a used from to out h l k =
    let e = copies-part w used from to h l in
    record {
      order = h;
      same = refl;
      laid = subst (λ (cs : List Copy). Laid s a cs (length out)) e k;
      left = rw e (left-all a (copied_blocks s chain (copies_in w used) fh (copies_from w (2 * from) (to - from))) out);
    }

-- the next copy, of the block at x, placed at y
pub record NextCopy (s : List ℕ) (p x y e : ℕ) : Type 0 where
  pub begins : p ≤ y
  pub whole : Whole s x
  pub ends : y + size_at s x ≤ e

module _ {s w chain : List ℕ} {memo : List Copy} {fh a : ℕ} {bs : List Block} {out₀ : List ℕ} {to i p : ℕ} {out : List ℕ}
    (t : CopiesLeft s w chain memo fh a bs out₀ to i p out) where
  next_cons : i < to → copies_from w (2 * i) (to - i) ≡ copy (get_or w (2 * i) 0) (get_or w (2 * i + 1) 0) ∷ copies_from w (2 * (i + 1)) (to - (i + 1))
  next_cons h =
      let e : 2 * (i + 1) ≡ 2 * i + 2 = omega arith in
      let f : to - (i + 1) ≡ to - i - 1 = omega arith in
      rw (e, f) (copies_cons w (2 * i) (to - i) (omega arith))

  next-laid : i < to → (p ≤ get_or w (2 * i + 1) 0) × Whole s (get_or w (2 * i) 0)
      × Laid s (get_or w (2 * i + 1) 0 + size_at s (get_or w (2 * i) 0)) (copies_from w (2 * (i + 1)) (to - (i + 1))) (length out)
  unfolding Laid
  next-laid h = subst (λ (cs : List Copy). Laid s p cs (length out)) (next_cons h) t.laid

  pub next-copy : i < to → NextCopy s p (get_or w (2 * i) 0) (get_or w (2 * i + 1) 0) (length out)
  next-copy h =
      let l = next-laid h in
      record { begins = l.0; whole = l.1; ends = laid-ends s _ (length out) _ l.2 }

  pub copies_turn : i < to → {q : ℕ} {out' : List ℕ}
      → Wrote p (block (get_or w (2 * i + 1) 0) (copied_bytes s chain memo fh (get_or w (2 * i) 0)) ∷ []) q out out' → length out' ≡ length out
      → CopiesLeft s w chain memo fh a bs out₀ to (i + 1) q out'
  unfolding end_of copied_blocks
  copies_turn h {q} {out'} v n =
      let l = next-laid h in
      let e : q ≡ get_or w (2 * i + 1) 0 + size_at s (get_or w (2 * i) 0) =
      v.end ∙ ap (λ (k : ℕ). get_or w (2 * i + 1) 0 + k) (length-copied s chain memo fh (get_or w (2 * i) 0) l.1) in
      record {
        order = omega arith;
        same = n ∙ t.same;
        laid = rw (e, n) l.2;
        left = left_turn (length out) (block (get_or w (2 * i + 1) 0) (copied_bytes s chain memo fh (get_or w (2 * i) 0)) ∷ [])
            (copied_blocks s chain memo fh (copies_from w (2 * (i + 1)) (to - (i + 1)))) t.left
            (ap (copied_blocks s chain memo fh) (next_cons h))
            (copied-ordered s chain memo fh p (length out) (copies_from w (2 * i) (to - i)) t.laid) v;
      }

  pub copies_end : to ≤ i → Wrote a bs p out₀ out
  unfolding copied_blocks copies_from
  copies_end h =
      let e : to - i ≡ 0 = omega arith in
      left-none t.left (ap (λ (k : ℕ). copied_blocks s chain memo fh (copies_from w (2 * i) k)) e)
