-- Stores and calls at small files: of 9, 256, 4,096, 4,097 and 8,192 bytes, the places and lengths of all stores; whole conversions; names and returns.
use Rattle.std.specs.Prelude.{ℕ, ◌-◌, ◌^◌, List, [], ◌∷◌, ◌++◌, ◌≡◌, refl, length, drop, replicate}
use Rattle.base.specs.Blit as base_blit
use Rattle.base.specs.Choice as base_choice
use Rattle.base.specs.Checked.{ok, refused}
use Rattle.stores.specs.Stores.{Named, named, State, Op, step, name, recall, Running}
use Rattle.stores.specs.Stores as stores

-- what the examples are evaluated by: a proof that unfolds this unfolds whatever stands in its list
unfoldable evaluated : ℕ
unfolding
    base_choice.if_lt base_choice.if_le base_choice.if_eq base_blit.part base_blit.blit stores.pages stores.steps_of stores.store_of stores.stored stores.stored_to
    stores.given stores.sought stores.naming stores.recalling stores.listed stores.does stores.run
evaluated = 0

-- ---- places and lengths

-- place and length of store number k of a file of so many bytes
abbrev extent : ℕ → ℕ → List ℕ
extent size k = (stores.store_of (replicate size 1) k).at ∷ length (stores.store_of (replicate size 1) k).bytes ∷ []

nine : stores.steps_of 9 ∷ extent 9 0 ++ extent 9 1 ++ extent 9 2 ≡ 3 ∷ 0 ∷ 8 ∷ 8 ∷ 1 ∷ 0 ∷ 8 ∷ []
unfolding evaluated
nine = refl

smallest : stores.steps_of 256 ∷ extent 256 0 ++ extent 256 1 ++ extent 256 2 ≡ 3 ∷ 0 ∷ 8 ∷ 8 ∷ 248 ∷ 0 ∷ 8 ∷ []
unfolding evaluated
smallest = refl

one-page : stores.steps_of 4096 ∷ extent 4096 0 ++ extent 4096 1 ++ extent 4096 2 ≡ 3 ∷ 0 ∷ 8 ∷ 8 ∷ 4088 ∷ 0 ∷ 8 ∷ []
unfolding evaluated
one-page = refl

one_more : stores.steps_of 4097 ∷ extent 4097 1 ++ extent 4097 2 ++ extent 4097 3 ≡ 4 ∷ 8 ∷ 4088 ∷ 4096 ∷ 1 ∷ 0 ∷ 8 ∷ []
unfolding evaluated
one_more = refl

two-pages : stores.steps_of 8192 ∷ extent 8192 1 ++ extent 8192 2 ++ extent 8192 3 ≡ 4 ∷ 8 ∷ 4088 ∷ 4096 ∷ 4096 ∷ 0 ∷ 8 ∷ []
unfolding evaluated
two-pages = refl

-- ---- the file of 256 bytes, over one of 260, after each step; the list after the last

abbrev small : List ℕ
small = replicate 4 77 ++ replicate 4 68 ++ replicate 100 5 ++ replicate 148 6

abbrev older : List ℕ
older = replicate 260 255

abbrev small_run : List Op → Running
small_run os = stores.run small (7 ∷ 8 ∷ []) os (stores.begun older (1 ∷ 2 ∷ 3 ∷ []))

after_none : (small_run []).file ≡ older
unfolding evaluated
after_none = refl

after_first : (small_run (step ∷ [])).file ≡ replicate 8 0 ++ replicate 252 255
unfolding evaluated
after_first = refl

after-page : (small_run (step ∷ step ∷ [])).file ≡ replicate 8 0 ++ drop 8 small ++ replicate 4 255
unfolding evaluated
after-page = refl

after_last : (small_run (step ∷ step ∷ step ∷ [])).file ≡ small ++ replicate 4 255
unfolding evaluated
after_last = refl

list_before : (small_run (step ∷ step ∷ [])).list ≡ 1 ∷ 2 ∷ 3 ∷ []
unfolding evaluated
list_before = refl

list-after : (small_run (step ∷ step ∷ step ∷ [])).list ≡ 7 ∷ 8 ∷ 3 ∷ []
unfolding evaluated
list-after = refl

-- a step too many; a return to before the first store, between the second and the last
further : small_run (step ∷ step ∷ step ∷ step ∷ []) ≡ small_run (step ∷ step ∷ step ∷ [])
unfolding evaluated
further = refl

back_to_the_first : (small_run (name 0 ∷ step ∷ step ∷ recall 0 ∷ step ∷ [])).file ≡ replicate 8 0 ++ drop 8 small ++ replicate 4 255
unfolding evaluated
back_to_the_first = refl

back_and_on : (small_run (name 0 ∷ step ∷ step ∷ recall 0 ∷ step ∷ step ∷ step ∷ [])).file ≡ small ++ replicate 4 255
unfolding evaluated
back_and_on = refl

-- ---- positions: the next store's number, the furthest reached, the names held, after calls on a file of 8,192 bytes

abbrev seen : List Op → List ℕ
seen os =
    let r = stores.run (replicate 8192 1) [] os (stores.begun (replicate 8192 0) []) in
    r.state.next ∷ r.high ∷ length r.state.held ∷ []

-- A at 0, B at 2; back to A, on to B ahead
recall_back : seen (name 5 ∷ step ∷ step ∷ name 6 ∷ recall 5 ∷ []) ≡ 0 ∷ 2 ∷ 2 ∷ []
unfolding evaluated
recall_back = refl

recall_ahead : seen (name 5 ∷ step ∷ step ∷ name 6 ∷ recall 5 ∷ step ∷ recall 6 ∷ []) ≡ 2 ∷ 2 ∷ 2 ∷ []
unfolding evaluated
recall_ahead = refl

recall_twice : seen (step ∷ name 5 ∷ step ∷ recall 5 ∷ step ∷ step ∷ recall 5 ∷ []) ≡ 1 ∷ 3 ∷ 1 ∷ []
unfolding evaluated
recall_twice = refl

-- a name given again moves
given-again : seen (name 5 ∷ step ∷ name 5 ∷ step ∷ recall 5 ∷ []) ≡ 1 ∷ 2 ∷ 1 ∷ []
unfolding evaluated
given-again = refl

four_steps : seen (step ∷ step ∷ step ∷ step ∷ []) ≡ 4 ∷ 4 ∷ 0 ∷ []
unfolding evaluated
four_steps = refl

-- ---- answers

abbrev at : ℕ → List Named → State
at k hs = record { next = k; held = hs }

abbrev four : List Named
four = named 0 1 ∷ named (2 ^ 64 - 1) 2 ∷ named 9 3 ∷ named 8 3 ∷ []

-- 0 and 2^64 - 1 are names as any other
zero-named : stores.naming 4 0 (at 1 []) ≡ ok (at 1 (named 0 1 ∷ []))
unfolding evaluated
zero-named = refl

greatest_named : stores.naming 4 (2 ^ 64 - 1) (at 2 (named 0 1 ∷ [])) ≡ ok (at 2 (named 0 1 ∷ named (2 ^ 64 - 1) 2 ∷ []))
unfolding evaluated
greatest_named = refl

zero_recalled : stores.recalling 4 0 (at 3 four) ≡ ok (at 1 four)
unfolding evaluated
zero_recalled = refl

greatest_recalled : stores.recalling 4 (2 ^ 64 - 1) (at 3 four) ≡ ok (at 2 four)
unfolding evaluated
greatest_recalled = refl

-- a fifth name; one of the four again
fifth : stores.naming 4 7 (at 3 four) ≡ refused 30 0
unfolding evaluated
fifth = refl

one-of-four : stores.naming 4 0 (at 3 four) ≡ ok (at 3 (named 0 3 ∷ named (2 ^ 64 - 1) 2 ∷ named 9 3 ∷ named 8 3 ∷ []))
unfolding evaluated
one-of-four = refl

-- never named: 0 too
never : stores.recalling 4 7 (at 3 four) ≡ refused 29 0
unfolding evaluated
never = refl

zero_never : stores.recalling 4 0 (at 0 []) ≡ refused 29 0
unfolding evaluated
zero_never = refl

-- after the last store
named-after : stores.naming 4 0 (at 4 four) ≡ refused 30 0
unfolding evaluated
named-after = refl

recalled_after : stores.recalling 4 0 (at 4 four) ≡ refused 30 0
unfolding evaluated
recalled_after = refl

-- 30 is tested first
never_after : stores.recalling 4 7 (at 4 four) ≡ refused 30 0
unfolding evaluated
never_after = refl

-- neither changes anything
refused_changes_nothing : small_run (step ∷ recall 7 ∷ step ∷ step ∷ name 7 ∷ recall 7 ∷ []) ≡ small_run (step ∷ step ∷ step ∷ [])
unfolding evaluated
refused_changes_nothing = refl
