-- Several conversions on one converter (document 02, request 12): what each gets of a pass, and what any sequence of passes leaves.
use Rattle.std.specs.Prelude.{ℕ, zero, suc, ◌+◌, ◌-◌, ◌/◌, min, List, [], ◌∷◌, ◌++◌, length}
use Rattle.base.specs.Choice.{if_lt, if_eq}
use Rattle.base.specs.Checked.{Checked, ok, refused, and_then, Verdict, fine}
use Rattle.stores.specs.Stores.{steps_of, Op, step, Running, begun, does}

-- ---- shares

-- "each cell has a cap per pass"; "what it has left", in stores
pub record Job : Type 0 where
  pub cap : ℕ
  pub left : ℕ

-- "the unfinished jobs": how many have stores left
unfoldable pub unfinished : List Job → ℕ
unfinished [] = 0
unfinished (j ∷ js) = let more = unfinished js in if_eq j.left 0 more (suc more)

-- "Every unfinished job gets at least the smallest of its cap, what it has left, and U divided by the unfinished jobs, rounded down", which is q
abbrev pub base : ℕ → Job → ℕ
base q j = min j.cap (min j.left q)

-- bookkeeping: of all jobs
unfoldable pub bases : ℕ → List Job → ℕ
bases q [] = 0
bases q (j ∷ js) = base q j + bases q js

-- "all it may take", once it has its base: "None exceeds its cap or what it has left"
abbrev pub more : ℕ → Job → ℕ
more q j = min j.cap j.left - base q j

-- "Stores left over go to jobs in cell order, to each all it may take"
unfoldable pub given : ℕ → ℕ → List Job → List ℕ
given q rest [] = []
given q rest (j ∷ js) = (base q j + min rest (more q j)) ∷ given q (rest - more q j) js

-- the bases, and what is left over of "U stores to give"
unfoldable pub shares : ℕ → List Job → List ℕ
shares u js = let q = u / unfinished js in given q (u - bases q js) js

-- "31 when there is no job or more than eight"
unfoldable pub counted : ℕ → Verdict
counted n = if_eq n 0 (refused 31 0) (if_lt 8 n (refused 31 0) fine)

-- "32 when .. a cap is 0"
unfoldable pub capped : List Job → Verdict
capped [] = fine
capped (j ∷ js) = let later = capped js in if_eq j.cap 0 (refused 32 0) later

-- 31, "then 32 when U or a cap is 0"
unfoldable pub allowed : ℕ → List Job → Verdict
allowed u js = and_then (counted (length js)) (λ _. if_eq u 0 (refused 32 0) (capped js))

unfoldable pub shared : ℕ → List Job → Checked (List ℕ)
shared u js = and_then (allowed u js) (λ _. ok (shares u js))

-- ---- passes

-- a job as it begins: the finished file and the words of its omission list; the output and the list that it is stored over
pub record Task : Type 0 where
  pub made : List ℕ
  pub words : List ℕ
  pub out : List ℕ
  pub list : List ℕ

-- a job, and what calls have left of it
pub record Cell : Type 0 where
  pub task : Task
  pub running : Running

-- nothing stored, nothing named
abbrev pub fresh : Task → Cell
fresh t = record { task = t; running = begun t.out t.list }

-- one call for it, as request 11 has them
abbrev pub called_with : Op → Cell → Cell
called_with o c = record { task = c.task; running = does c.task.made c.task.words o c.running }

-- k stores more: so many steps
unfoldable pub advanced : List ℕ → List ℕ → ℕ → Running → Running
advanced f words zero r = r
advanced f words (suc k) r = advanced f words k (does f words step r)

abbrev pub on_by : ℕ → Cell → Cell
on_by k c = record { task = c.task; running = advanced c.task.made c.task.words k c.running }

-- "what it has left": the stores from the next one on
unfoldable pub left_of : Cell → ℕ
left_of c = steps_of (length c.task.made) - c.running.state.next

-- each with its cap in this pass; one for which there is no cap has 0
unfoldable pub jobs_of : List ℕ → List Cell → List Job
jobs_of caps [] = []
jobs_of [] (c ∷ cs) = record { cap = 0; left = left_of c } ∷ jobs_of [] cs
jobs_of (k ∷ ks) (c ∷ cs) = record { cap = k; left = left_of c } ∷ jobs_of ks cs

-- each by its share
unfoldable pub advanced_by : List ℕ → List Cell → List Cell
advanced_by ks [] = []
advanced_by [] (c ∷ cs) = c ∷ cs
advanced_by (k ∷ ks) (c ∷ cs) = on_by k c ∷ advanced_by ks cs

-- a pass that is refused changes nothing
abbrev pub passed_by : Checked (List ℕ) → List Cell → List Cell
passed_by (refused number place) cs = cs
passed_by (ok ks) cs = advanced_by ks cs

-- "A pass has U stores to give, and each cell has a cap per pass"
unfoldable pub passed : ℕ → List ℕ → List Cell → List Cell
passed u caps cs = passed_by (shared u (jobs_of caps cs)) cs

-- a call for job number i
unfoldable pub called : ℕ → Op → List Cell → List Cell
called i o [] = []
called zero o (c ∷ cs) = called_with o c ∷ cs
called (suc i) o (c ∷ cs) = c ∷ called i o cs

-- ---- "Any sequence of passes"

-- what may happen: a further job begins; a call for job number i; a pass, with its own U and caps
pub data Event : Type 0 where
  begins : Task → Event
  calls : ℕ → Op → Event
  passes : ℕ → List ℕ → Event

unfoldable pub happens : Event → List Cell → List Cell
happens (begins t) cs = cs ++ (fresh t ∷ [])
happens (calls i o) cs = called i o cs
happens (passes u caps) cs = passed u caps cs

-- one after the other
unfoldable pub after : List Event → List Cell → List Cell
after [] cs = cs
after (e ∷ es) cs = after es (happens e cs)
