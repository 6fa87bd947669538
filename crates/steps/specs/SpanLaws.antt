-- Laws of which bytes a store has.
use Rattle.std.specs.Prelude.{ℕ, ◌+◌, ◌*◌, ◌≤◌, ◌<◌, min, max, ◌≡◌, refl}
use Rattle.std.proofs.Common.{ap, ◌∙◌}
use native.Mathlib.Omega.{arith}
use Rattle.stores.specs.Stores.{pages}
use Rattle.steps.specs.declared.span.Span.{Span}
use Rattle.steps.specs.Span.{PageAt, Clipped, SpanOf}

-- a page of the file, or what is stored past the last
pub page-there : (k size : ℕ) {from first past : ℕ} → from ≡ k * 4096 → from < size → first ≡ max from 8 → past ≡ min (from + 4096) size
    → PageAt k size (record { first = first; past = past })
unfolding pages
page-there k size e h f g = record {
  page = λ l. (omega (arith, e, f), omega (arith, e, g));
  last = λ l. absurd (omega (arith, h, e, l));
  few = omega (arith, f, g);
}

pub pages_by : (k size : ℕ) → size ≤ k * 4096 → pages size ≤ k
unfolding pages
pages_by k size h = omega (arith, h)

pub page-none : (k size : ℕ) → pages size ≤ k → PageAt k size (record { first = 0; past = 8 })
page-none k size h = record { page = λ g. absurd (omega (arith, h, g)); last = λ g. (refl, refl); few = omega arith }

pub span_is : {k size room : ℕ} {s r : Span} → PageAt k size s → Clipped s room r → SpanOf k size room r
unfolding pages
span_is {k} {size} {room} {s} {r} p c = record {
  page = λ h e m.
      let q = p.page h in
      let same = c.same (omega (arith, q.0, q.1, h, e)) (omega (arith, q.1, m)) in
      (ap (λ (z : Span). z.first) same ∙ q.0, ap (λ (z : Span). z.past) same ∙ q.1);
  last = λ h m.
      let q = p.last h in
      let same = c.same (omega (arith, q.0)) (omega (arith, q.1, m)) in
      (ap (λ (z : Span). z.first) same ∙ q.0, ap (λ (z : Span). z.past) same ∙ q.1);
  order = c.order;
  inside = c.inside;
  few = c.few p.few;
}
