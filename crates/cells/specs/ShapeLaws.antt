-- Laws of the numbers of a shape.
use Rattle.std.specs.Prelude.{ℕ, ◌+◌, ◌-◌, ◌≤◌, ◌<◌, Bool, true, false, List, ◌≡◌, refl, eqb}
use Rattle.std.proofs.lemmas.Bool.{false≢true, eqb-false}
use Rattle.std.proofs.Common.{sym, ◌∙◌, add-zero, arith, eqb-true}
use Rattle.plan.specs.Channel.{channel_bytes, keeps_inval, width}
use Rattle.cells.specs.declared.cell.Shape.{Shape}
use Rattle.cells.specs.Shape.{Shaped, Sound}
use Rattle.cells.specs.CellLaws.{room-kept}

width-bare : (s : List ℕ) (g c : ℕ) → keeps_inval s g c ≡ false → width s g c ≡ channel_bytes s c
unfolding width
width-bare s g c e = rw (e, add-zero)

-- those of a channel that fits its group
pub shaped_sound : {s : List ℕ} {h : Shape} → Shaped s h → Sound h
shaped_sound {s} {h} w =
    record {
      fit = w.fit;
      short = w.short;
      bit = omega (arith, w.bit);
      kept = w.kept;
      wide = λ q. w.wide ∙ room-kept w q;
      bare = λ q. w.wide ∙ width-bare s h.group h.channel (sym w.keep ∙ q) ∙ sym w.bytes;
    }

-- the column has room for the bytes
pub sound-room : {h : Shape} → Sound h → h.bytes ≤ h.width
sound-room {h} w = by h.keep refl
  where
    by : (k : Bool) → h.keep ≡ k → h.bytes ≤ h.width
    by true e = omega (arith, w.wide e)
    by false e = omega (arith, w.bare e)

-- ---- a test of the numbers
pub unsound : {h : Shape} → (Sound h → ⊥) → (false ≡ true → Sound h) × (false ≡ false → Sound h → ⊥)
unsound n = (λ e. absurd (false≢true e), λ e. n)

module _ (h : Shape) (a : h.first ≤ h.length) (b : h.bytes ≤ h.length - h.first) (s : h.length < 8589934592) (t : h.bit < 8) where
  pub sound-kept : h.keep ≡ true → h.inval < h.length
      → (eqb h.width (h.bytes + 1) ≡ true → Sound h) × (eqb h.width (h.bytes + 1) ≡ false → Sound h → ⊥)
  sound-kept k i = (
    λ e. record {
      fit = omega arith;
      short = s;
      bit = t;
      kept = λ q. i;
      wide = λ q. eqb-true h.width (h.bytes + 1) e;
      bare = λ q. absurd (false≢true (sym q ∙ k));
    },
    λ e w. eqb-false h.width (h.bytes + 1) e (w.wide k),
  )

  pub sound-bare : h.keep ≡ false → (eqb h.width h.bytes ≡ true → Sound h) × (eqb h.width h.bytes ≡ false → Sound h → ⊥)
  sound-bare k = (
    λ e. record {
      fit = omega arith;
      short = s;
      bit = t;
      kept = λ q. absurd (false≢true (sym k ∙ q));
      wide = λ q. absurd (false≢true (sym k ∙ q));
      bare = λ q. eqb-true h.width h.bytes e;
    },
    λ e w. eqb-false h.width h.bytes e (w.bare k),
  )
