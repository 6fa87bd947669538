-- Shares and passes at small numbers.
use Rattle.std.specs.Prelude.{ℕ, List, [], ◌∷◌, map, ◌≡◌, refl, replicate}
use Rattle.base.specs.Blit as base_blit
use Rattle.base.specs.Choice as base_choice
use Rattle.base.specs.Checked.{ok, refused}
use Rattle.stores.specs.Stores.{step, name, recall}
use Rattle.stores.specs.Stores as stores
use Rattle.passes.specs.Passes.{Job, Task, Cell, Event, begins, calls, passes}
use Rattle.passes.specs.Passes as pass

-- what the examples are evaluated by
unfoldable evaluated : ℕ
unfolding
    base_choice.if_lt base_choice.if_le base_choice.if_eq base_blit.part base_blit.blit stores.pages stores.steps_of stores.store_of stores.stored stores.stored_to
    stores.given stores.sought stores.naming stores.recalling stores.listed stores.does stores.run
    pass.unfinished pass.bases pass.given pass.shares pass.counted pass.capped pass.allowed pass.shared
    pass.advanced pass.left_of pass.jobs_of pass.advanced_by pass.passed pass.called pass.happens pass.after
evaluated = 0

-- ---- shares

abbrev job : ℕ → ℕ → Job
job k n = record { cap = k; left = n }

-- the first has three left; what it can't take goes to the second
few-left : pass.shared 10 (job 100 3 ∷ job 100 100 ∷ job 100 100 ∷ []) ≡ ok (3 ∷ 4 ∷ 3 ∷ [])
unfolding evaluated
few-left = refl

-- caps
small_caps : pass.shared 12 (job 1 100 ∷ job 4 100 ∷ job 20 100 ∷ []) ≡ ok (1 ∷ 4 ∷ 7 ∷ [])
unfolding evaluated
small_caps = refl

-- what is left over, in cell order, and not past a cap
cap_met : pass.shared 12 (job 1 100 ∷ job 5 100 ∷ job 20 100 ∷ []) ≡ ok (1 ∷ 5 ∷ 6 ∷ [])
unfolding evaluated
cap_met = refl

-- a finished job isn't counted in the division
one_finished : pass.shared 10 (job 100 0 ∷ job 100 7 ∷ job 100 9 ∷ []) ≡ ok (0 ∷ 5 ∷ 5 ∷ [])
unfolding evaluated
one_finished = refl

all_finished : pass.shared 10 (job 100 0 ∷ job 100 0 ∷ []) ≡ ok (0 ∷ 0 ∷ [])
unfolding evaluated
all_finished = refl

-- fewer stores than jobs: the first cells get them
few_stores : pass.shared 2 (job 100 9 ∷ job 100 9 ∷ job 100 9 ∷ []) ≡ ok (2 ∷ 0 ∷ 0 ∷ [])
unfolding evaluated
few_stores = refl

-- more than all may take
much : pass.shared 100 (job 5 9 ∷ job 100 9 ∷ []) ≡ ok (5 ∷ 9 ∷ [])
unfolding evaluated
much = refl

eight_jobs : pass.shared 20 (job 1 9 ∷ job 9 1 ∷ job 9 0 ∷ job 9 9 ∷ job 3 9 ∷ job 9 2 ∷ job 9 9 ∷ job 9 9 ∷ []) ≡ ok (1 ∷ 1 ∷ 0 ∷ 9 ∷ 3 ∷ 2 ∷ 2 ∷ 2 ∷ [])
unfolding evaluated
eight_jobs = refl

-- ---- refusals

no_job : pass.shared 10 [] ≡ refused 31 0
unfolding evaluated
no_job = refl

nine_jobs : pass.shared 10 (replicate 9 (job 1 1)) ≡ refused 31 0
unfolding evaluated
nine_jobs = refl

eight : pass.shared 10 (replicate 8 (job 1 1)) ≡ ok (replicate 8 1)
unfolding evaluated
eight = refl

nothing-to_give : pass.shared 0 (job 1 1 ∷ []) ≡ refused 32 0
unfolding evaluated
nothing-to_give = refl

no_cap : pass.shared 10 (job 1 1 ∷ job 0 1 ∷ []) ≡ refused 32 0
unfolding evaluated
no_cap = refl

-- a finished job's too
finished_no_cap : pass.shared 10 (job 0 0 ∷ job 1 1 ∷ []) ≡ refused 32 0
unfolding evaluated
finished_no_cap = refl

-- 31 is tested first
none-of-nothing : pass.shared 0 [] ≡ refused 31 0
unfolding evaluated
none-of-nothing = refl

nine_of-nothing : pass.shared 0 (replicate 9 (job 0 1)) ≡ refused 31 0
unfolding evaluated
nine_of-nothing = refl

-- ---- passes

-- files of 9 and 8 bytes, of three stores each; the second job begins after the first pass
abbrev first : Task
first = record { made = 1 ∷ 2 ∷ 3 ∷ 4 ∷ 5 ∷ 6 ∷ 7 ∷ 8 ∷ 9 ∷ []; words = 7 ∷ []; out = replicate 10 255; list = 0 ∷ 0 ∷ [] }

abbrev second : Task
second = record { made = replicate 8 6; words = 5 ∷ 4 ∷ []; out = replicate 8 250; list = 1 ∷ 1 ∷ [] }

abbrev nexts : List Event → List ℕ
nexts es = map (λ (c : Cell). c.running.state.next) (pass.after es [])

after_one : nexts (begins first ∷ passes 2 (1 ∷ []) ∷ []) ≡ 1 ∷ []
unfolding evaluated
after_one = refl

after-three : nexts (begins first ∷ passes 2 (1 ∷ []) ∷ begins second ∷ passes 3 (9 ∷ 9 ∷ []) ∷ passes 9 (1 ∷ 1 ∷ []) ∷ []) ≡ 3 ∷ 2 ∷ []
unfolding evaluated
after-three = refl

-- too few caps, or none: 32, and nothing changes
too_few_caps : nexts (begins first ∷ begins second ∷ passes 9 (1 ∷ []) ∷ []) ≡ 0 ∷ 0 ∷ []
unfolding evaluated
too_few_caps = refl

-- a return between passes: what is left is counted anew
a_return : nexts (begins first ∷ calls 0 (name 5) ∷ passes 2 (9 ∷ []) ∷ calls 0 (recall 5) ∷ passes 9 (9 ∷ []) ∷ []) ≡ 3 ∷ []
unfolding evaluated
a_return = refl

files : map (λ (c : Cell). c.running.file)
    (pass.after (begins first ∷ passes 2 (1 ∷ []) ∷ begins second ∷ calls 1 (name 5) ∷ passes 3 (9 ∷ 9 ∷ []) ∷ calls 1 (recall 5) ∷ passes 9 (9 ∷ 9 ∷ []) ∷ []) [])
    ≡ (1 ∷ 2 ∷ 3 ∷ 4 ∷ 5 ∷ 6 ∷ 7 ∷ 8 ∷ 9 ∷ 255 ∷ []) ∷ replicate 8 6 ∷ []
unfolding evaluated
files = refl
