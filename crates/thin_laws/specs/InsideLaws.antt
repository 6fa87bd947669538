-- What is known of the blocks of a kept column in the file that it is taken from.
use Rattle.std.specs.Prelude.{ℕ, ◌+◌, ◌*◌, ◌≤◌, List, ◌≡◌}
use Rattle.base.specs.Checked.{fine}
use Rattle.base.specs.ChoiceLaws.{lt_back, eq_first}
use Rattle.mdf.specs.Block.{Wanted, CG, CN, kind_at, size_at, links_at, whole_at, wanted_at, block_at}
use Rattle.plan.specs.Columns.{Column}
use Rattle.copies_laws.specs.AnswerLaws.{refused≢ok, then_ok, Whole, whole_fits}
use Rattle.copies_laws.specs.LengthLaws.{InImage}
use Rattle.guarantee.specs.Places.{data_inside}
use Rattle.thin_laws.specs.Inside.{Inside}

-- a block that passed its checks
pub record Passed (k : Wanted) (s : List ℕ) (a : ℕ) : Type 0 where
  pub whole : Whole s a
  pub kind : kind_at s a ≡ k.kind
  pub links : k.links ≤ links_at s a
  pub bytes : 24 + 8 * links_at s a + k.bytes ≤ size_at s a

pub block-passed : (k : Wanted) (s : List ℕ) (a : ℕ) → block_at k s a ≡ fine → Passed k s a
unfolding block_at wanted_at
block-passed k s a e =
    let b = then_ok (whole_at s a) _ e in
    let c = eq_first _ _ _ _ b.2 refused≢ok in
    let d = lt_back _ _ _ _ c.1 refused≢ok in
    let f = lt_back _ _ _ _ d.1 refused≢ok in
    record { whole = whole_fits s a b.1; kind = c.0; links = d.0; bytes = f.0 }

-- the data of its CG and CN
pub inside_image : {s : List ℕ} {c : Column} → Inside s c → InImage s c
inside_image {s} {c} i = record { group = data_inside CG s c.group.at i.group; channel = data_inside CN s c.channel i.channel }
