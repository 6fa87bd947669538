-- Laws of a file that is written up to a point.
use Rattle.std.specs.Prelude.{ℕ, ◌+◌, ◌-◌, ◌≤◌, ◌≡◌}
use mathlib.Core.List.{List, [], ◌++◌, append-nil, append_assoc}
use Rattle.std.proofs.Common.{sym, ◌∙◌, arith}
use Rattle.std.proofs.Math.Path.{ap}
use Rattle.std.proofs.Math.ListN.{length, replicate}
use Rattle.base.specs.Blit.{blit}
use Rattle.base.specs.BlitLaws.{length-blit, blit-append}
use Rattle.result.specs.Fill.{Block}
use Rattle.result.specs.Ordered.{Ordered}
use Rattle.result.specs.Result.{flat}
use Rattle.shown_laws.specs.Flat.{flat-length}
use Rattle.write_copies.specs.Wrote.{end_of, Wrote}
use Rattle.write_copies.specs.WroteLaws.{ordered_end, ordered-front, ordered_back, ordered-first, ordered-within, flat_append, wrote_none, wrote_append}
use Rattle.write_copies.specs.Begun.{Begun}

pub begun-none : (bs : List Block) (e : ℕ) (out : List ℕ) → Ordered 0 bs e → e ≤ length out → Begun [] bs e 0 out out
begun-none bs e out o h = record { wrote = wrote_none 0 out; ordered = o; room = h }

module _ {before : List Block} (xs ys : List Block) {e a : ℕ} {out last : List ℕ} (b : Begun before (xs ++ ys) e a out last) where
  pub begun-length : length last ≡ length out
  begun-length = rw b.wrote.bytes (length-blit 0 _ out)

  -- the next blocks have room
  pub begun-room : Ordered a xs (length last)
  begun-room =
      let o = ordered-first (end_of 0 before) xs ys e (ordered_back 0 before (xs ++ ys) e b.ordered) in
      let l = begun-length in
      let r = b.room in
      rw b.wrote.end (ordered-within (end_of 0 before) xs e (length last) o (omega arith))

  -- they are written
  pub begun-next : {r : ℕ} {next : List ℕ} → Wrote a xs r last next → Begun (before ++ xs) ys e r out next
  begun-next {r} {next} w =
      let q : (before ++ xs) ++ ys ≡ before ++ (xs ++ ys) = append_assoc before xs ys in
      let o : Ordered 0 ((before ++ xs) ++ ys) e = rw q b.ordered in
      record { wrote = wrote_append e b.wrote w (ordered-first 0 (before ++ xs) ys e o); ordered = o; room = b.room }

-- all are written: zeros up to the end
module _ {before : List Block} {e a : ℕ} {out last : List ℕ} (b : Begun before [] e a out last) where
  whole : Ordered 0 before e
  whole = rw (← (append-nil before)) b.ordered

  pub begun_end : (a ≤ e) × (e ≤ length last)
  begun_end =
      let o = ordered_end 0 before e whole in
      let l : length last ≡ length out = rw b.wrote.bytes (length-blit 0 _ out) in
      let w = b.wrote.end in
      let r = b.room in
      (omega (arith, o.1, w), omega (arith, l, r))

  pub begun_all : {final : List ℕ} → final ≡ blit a (replicate (e - a) 0) last → final ≡ blit 0 (flat 0 before e) out
  unfolding flat
  begun_all f =
      let o = ordered-front 0 before [] e b.ordered in
      let n = flat-length before 0 (end_of 0 before) o in
      let w = b.wrote.end in
      let p : flat 0 before e ≡ flat 0 before (end_of 0 before) ++ replicate (e - end_of 0 before) 0 =
      ap (λ (l : List Block). flat 0 l e) (sym (append-nil before)) ∙ flat_append 0 before [] e in
      let q : 0 + length (flat 0 before (end_of 0 before)) ≡ end_of 0 before = omega (arith, n) in
      f ∙ ap (blit a (replicate (e - a) 0)) b.wrote.bytes ∙ rw w
      (sym (rw p (blit-append (flat 0 before (end_of 0 before)) 0 (replicate (e - end_of 0 before) 0) out ∙ rw q)))
