-- Words are shared out, then all records noted.
use mathlib.Core.Path.{refl, sym}
use Rattle.records.specs.TableLaws.{tabled}
use Rattle.payload_laws.specs.Answers.{false≢true}
use Rattle.offsets.specs.FillLaws.{frames-all}
use Rattle.offsets.proofs.fill.frame_all.Goals as goal

pub returns : goal.returns
returns c = (λ _. frames-all _ _ _ _ c.requires.in_bounds c.id_size-n.ensures.is (λ e. tabled _ _ _ _ e c.make_tables.ensures.0 refl c.make_tables.ensures.1 refl) (c.share_out.ensures (c.if-not-share_out.false)) c.pass.ensures, λ e. absurd (false≢true (sym e)))
