-- A channel's references are its links after the eighth, as many as its count says.
use Rattle.std.specs.Prelude.{ℕ, zero, suc, ◌+◌, ◌*◌, ◌<◌, List, ◌≡◌, refl, length, get_or}
use Rattle.std.proofs.Common.{ap, ◌∙◌, arith}
use Rattle.base.specs.Field.{le_at}
use Rattle.mdf.specs.Block.{link_at}
use Rattle.plan.specs.Photos.{photo_count, links_from, references}

pub length-links_from : (s : List ℕ) (n p : ℕ) → length (links_from s n p) ≡ n
unfolding links_from
length-links_from s zero p = refl
length-links_from s (suc n) p = omega (arith, length-links_from s n (p + 8))

pub links_at_lem : (s : List ℕ) (n p i : ℕ) → i < n → get_or (links_from s n p) i 0 ≡ le_at 8 s (p + 8 * i)
unfolding links_from
links_at_lem s zero p i h = absurd (omega arith)
links_at_lem s (suc n) p zero h = ap (le_at 8 s) (omega arith)
links_at_lem s (suc n) p (suc i) h = links_at_lem s n (p + 8) i (omega arith) ∙ ap (le_at 8 s) (omega arith)

-- a channel's references are its links after the eighth
pub reference_at : (s : List ℕ) (c i : ℕ) → i < photo_count s c → get_or (references s c) i 0 ≡ link_at s c (8 + i)
unfolding references link_at
reference_at s c i h = links_at_lem s (photo_count s c) (c + 88) i h ∙ ap (le_at 8 s) (omega arith)

pub length-references : (s : List ℕ) (c : ℕ) → length (references s c) ≡ photo_count s c
unfolding references
length-references s c = length-links_from s (photo_count s c) (c + 88)
