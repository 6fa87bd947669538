-- What the laws of passes speak of: a job that stands where calls on it alone have brought it, and the jobs that begin.
use Rattle.std.specs.Prelude.{List, [], ◌∷◌, ◌≡◌}
use Rattle.stores.specs.Stores.{Op}
use Rattle.stores.specs.RunLaws.{ran}
use Rattle.passes.specs.Passes.{Task, Cell, Event, begins, calls, passes}

-- "the file it would have had alone": it stands where some calls on it alone have brought it since it began
pub record Alone (c : Cell) : Type 0 where
  pub calls : List Op
  pub reached : c.running ≡ ran c.task.made c.task.words c.task.out c.task.list calls

-- the jobs that begin, in their order
unfoldable pub beginning : List Event → List Task
beginning [] = []
beginning (begins t ∷ es) = t ∷ beginning es
beginning (calls i o ∷ es) = beginning es
beginning (passes u caps ∷ es) = beginning es
