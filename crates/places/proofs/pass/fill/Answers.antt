-- What is right stays right through each part.
use Rattle.places.specs.PassLaws.{fills_all, fills_back}
use Rattle.records.specs.TableLaws.{tabled}
use mathlib.Core.Path.{refl}
use native.Mathlib.Omega.{arith}
use Rattle.places.proofs.pass.fill.Goals as goal

pub returns-then-room : goal.returns-then-room
returns-then-room c = fills_all _ _ _ _ _ _ _ (omega arith) c.id_size-n.ensures.is c.try_new.ensures (λ e. tabled _ _ _ _ e c.make_tables.ensures.0 refl c.make_tables.ensures.1 refl) c.pass-room.ensures

pub returns : goal.returns
returns c = fills_back (fills_all _ _ _ _ _ _ _ (omega arith) c.id_size-n.ensures.is c.try_new.ensures (λ e. tabled _ _ _ _ e c.make_tables.ensures.0 refl c.make_tables.ensures.1 refl) c.pass-room.ensures) c.set_back.ensures
