-- "With unit 8 a file is the one made before" (document 02, request 5).
use Rattle.std.specs.Prelude.{ℕ, ◌+◌, ◌*◌, ◌%◌, List, [], ◌∷◌, ◌≡◌, refl}
use Rattle.std.proofs.Math.Option.{Option, none, some}
use Rattle.std.proofs.Common.{ap, ◌∙◌, arith}
use Rattle.base.specs.Checked.{Checked, ok, refused, and_then}
use Rattle.mdf.specs.Block.{link_at}
use Rattle.plan.specs.Columns.{Column}
use Rattle.plan.specs.Copies.{copies, most_copies, copy_root, history_of, column_copies}
use Rattle.plan.specs.Geometry.{align8, align_to}
use Rattle.plan.specs.Rules.{built_in}
use Rattle.plan.specs.Layout.{
  column_blocks,
  cg_size,
  cn_size,
  dl_size,
  structure_size,
  Sizes,
  Places,
  first_at,
  blocks_end,
  signal_at,
  signal_end,
  places_from,
  structures_end,
  places_end,
  sizes_of,
  structure_end,
  past_copies,
  fh_place,
  layout,
}
use Rattle.copies_laws.specs.AnswerLaws.{on_eq}
use Rattle.payload_laws.specs.UnitLaws.{to_eight}
use Rattle.guarantee.specs.Former.{former_places, former_end, former_layout}

-- a multiple of 8 is its own next multiple
stays : (d : ℕ) → d % 8 ≡ 0 → align8 d ≡ d
unfolding align8
stays d z = omega arith

eights : (x : ℕ) → align8 x % 8 ≡ 0
unfolding align8
eights x = omega arith

first_stays : (z : Sizes) (d : ℕ) → d % 8 ≡ 0 → first_at 8 z d ≡ d
unfolding first_at
first_stays z d e = on_eq (λ (x : ℕ). x ≡ d) z.blocks 0 d (align_to 8 d) (λ _. refl) (λ _. to_eight d ∙ stays d e)

signal_stays : (g : Option ℕ) (d : ℕ) → d % 8 ≡ 0 → signal_at 8 g d ≡ d
signal_stays none d e = refl
signal_stays (some n) d e = to_eight d ∙ stays d e

blocks_eights : (z : Sizes) (d : ℕ) → blocks_end z d % 8 ≡ 0
unfolding blocks_end
blocks_eights z d = eights _

past_eights : (g : Option ℕ) (d : ℕ) → d % 8 ≡ 0 → signal_end g d % 8 ≡ 0
past_eights none d e = e
past_eights (some n) d e = eights _

places_former : (a d : ℕ) (zs : List Sizes) → d % 8 ≡ 0 → places_from 8 a d zs ≡ former_places a d zs
unfolding places_from former_places
places_former a d [] e = refl
places_former a d (z ∷ zs) e =
    let b = blocks_eights z d in
    rw (first_stays z d e, signal_stays z.signal (blocks_end z d) b)
    (ap (λ (l : List Places). record { dg = a; first = d; sd = blocks_end z d } ∷ l)
    (places_former (a + z.structure) (signal_end z.signal (blocks_end z d)) zs (past_eights z.signal (blocks_end z d) b)))

end_former : (d : ℕ) (zs : List Sizes) → d % 8 ≡ 0 → places_end 8 d zs ≡ former_end d zs
unfolding places_end former_end
end_former d [] e = refl
end_former d (z ∷ zs) e =
    let b = blocks_eights z d in
    rw (first_stays z d e, signal_stays z.signal (blocks_end z d) b)
    (end_former (signal_end z.signal (blocks_end z d)) zs (past_eights z.signal (blocks_end z d) b))

-- the data of columns begins at a multiple of 8
cg_eights : (m : Option ℕ) → cg_size m % 8 ≡ 0
cg_eights none = refl
cg_eights (some m) = refl

dl_eights : (n : ℕ) → dl_size n % 8 ≡ 0
unfolding dl_size
dl_eights n = on_eq (λ (x : ℕ). x % 8 ≡ 0) n 0 0 (24 + 8 * (n + 1) + 16) (λ _. refl) (λ _. omega arith)

structure_eights : (s : List ℕ) (size : ℕ) (c : Column) → structure_size s size c % 8 ≡ 0
unfolding structure_size cn_size
structure_eights s size c = omega (arith, cg_eights c.master, dl_eights (column_blocks s size c))

structures_eights : (s : List ℕ) (size a : ℕ) (cs : List Column) → a % 8 ≡ 0 → structure_end s size a cs % 8 ≡ 0
unfolding structures_end sizes_of
structures_eights s size a [] e = e
structures_eights s size a (c ∷ cs) e = structures_eights s size (a + structure_size s size c) cs (omega (arith, structure_eights s size c))

same_then : {A B : Type 0} (v : Checked A) (f g : A → Checked B) → ((x : A) → f x ≡ g x) → and_then v f ≡ and_then v g
same_then (ok x) f g h = h x
same_then (refused n p) f g h = refl

-- the whole layout
pub unit-8 : (s : List ℕ) (size n : ℕ) (cs : List Column) → layout built_in s size n cs ≡ former_layout s size n cs
unfolding layout former_layout past_copies
unit-8 s size n cs =
    same_then (copy_root most_copies s (link_at s 64 5) (copies [] 168)) _ _ (λ m0.
    same_then (history_of most_copies s (link_at s 64 1) m0) _ _ (λ h.
    same_then (column_copies most_copies s cs (copies h.made.memo (fh_place h.made n + 56))) _ _ (λ m2.
    let e = structures_eights s size (align8 m2.next) cs (eights m2.next) in
    rw (
      places_former (align8 m2.next) (structure_end s size (align8 m2.next) cs) (sizes_of s size cs) e,
      end_former (structure_end s size (align8 m2.next) cs) (sizes_of s size cs) e,
    ))))
