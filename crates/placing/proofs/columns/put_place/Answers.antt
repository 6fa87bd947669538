-- Three stores in a row.
use Rattle.copier.specs.AttachingLaws.{three_stores}
use mathlib.Core.Path.{refl}
use native.Mathlib.Omega.{arith}
use lib.ListN.{length-set}
use Rattle.placing.proofs.columns.put_place.Goals as goal

pub bounds-memo-q-2 : goal.bounds-memo-q-2
bounds-memo-q-2 c = simp length-set (omega arith)

pub bounds-memo-q-3 : goal.bounds-memo-q-3
bounds-memo-q-3 c = simp (length-set, length-set) (omega arith)

pub returns : goal.returns
returns c = three_stores _ _ _ _ _ _ refl
