-- One block of a data chain, and the DL and HL that were met before it.
use Rattle.std.specs.Prelude.{ℕ, zero, suc, ◌+◌, ◌-◌, List, [], ◌∷◌, length, get_or, Result, Ok, Err}
use Rattle.base.specs.Choice.{if_lt, if_eq}
use Rattle.base.specs.Checked.{Checked, ok, refused, and_then, Verdict, fine}
use Rattle.mdf.specs.Block.{links_at, first_link, length_in}
use Rattle.mdf.specs.Chain.{Fragment, Chain, Found, found, stopped, Limits, added, fragment_at, listed}
use Rattle.chains.specs.declared.chain.Stopped.{Stopped}
use Rattle.chains.specs.declared.chain.Step.{Step}
use Rattle.chains.specs.declared.chain.Step.TheVariants.{Over, Next}
use Rattle.chains.specs.Node.{Standing, data_block, data_list, list-header, node_at}
use Rattle.chains.specs.Kept.{kept, Given, given, laid}

-- the addresses in the first k words, the newest first
unfoldable pub met_in : List ℕ → ℕ → List ℕ
met_in w zero = []
met_in w (suc k) = get_or w k 0 ∷ met_in w k

-- a DL or HL that is read, with k of them before it: 8, 9 over the most bytes, range, then the most DL and HL (19)
unfoldable pub list_at : ℕ → ℕ → ℕ → List ℕ → ℕ → Verdict
list_at most lists k s a = and_then (length_in most s a) (λ _. if_lt k lists fine (refused 19 a))

-- a link of a DL: "zero links passed over"
unfoldable pub entry_at : Chain → Limits → List ℕ → ℕ → ℕ → Found
entry_at c l s n x = if_eq x 0 (found []) (fragment_at c l s n x [])

-- the chain ends, or goes on at an address
pub data Turn : Type 0 where
  over : Found → Turn
  next : ℕ → List Fragment → Turn

abbrev pub on_read : Verdict → Turn → Turn
on_read (ok u) t = t
on_read (refused number place) t = over (stopped number place [])

abbrev pub on_listed : Found → (List Fragment → Turn) → Turn
on_listed (found fs) f = f fs
on_listed (stopped number place fs) f = over (stopped number place fs)

-- "DL lists fragments, zero links passed over; HL leads to its first link"
unfoldable pub list_turn : Chain → Limits → List ℕ → ℕ → ℕ → ℕ → Turn
list_turn c l s n k a =
    on_read (list_at l.dl_bytes l.lists k s a) (on_listed (listed c l s n (links_at s a - 1) (a + 32) []) (next (first_link s a)))

unfoldable pub header_turn : Limits → List ℕ → ℕ → ℕ → Turn
header_turn l s k a = on_read (list_at l.hl_bytes l.lists k s a) (next (first_link s a) [])

abbrev pub on_standing : Checked Standing → (Fragment → Turn) → Turn → Turn → Turn
on_standing (refused number place) f dl hl = over (stopped number place [])
on_standing (ok (data_block b)) f dl hl = f b
on_standing (ok data_list) f dl hl = dl
on_standing (ok list-header) f dl hl = hl

-- the block at a, with k DL and HL before it; n fragments were found before it. "DT or DV ends a chain"
unfoldable pub turn_at : Chain → Limits → List ℕ → ℕ → ℕ → ℕ → Turn
turn_at c l s n k a = on_standing (node_at c s a) (λ f. over (added l n a f [])) (list_turn c l s n k a) (header_turn l s k a)

-- what a turn leaves: the end of the walk, or the address where it goes on, the fragments kept and the words
pub data Moved : Type 0 where
  ended : Given → Moved
  goes : ℕ → ℕ → List ℕ → Moved

-- the code's answer
abbrev pub moved : Result Step Stopped → List ℕ → Moved
moved (Ok (Over count)) w = ended (given (Ok count) w)
moved (Ok (Next a count)) w = goes a count w
moved (Err e) w = ended (given (Err e) w)

unfoldable pub laid_turn : Turn → ℕ → List ℕ → Moved
laid_turn (over g) n w = ended (laid g n w)
laid_turn (next a fs) n w = goes a (n + length fs) (kept n fs w)
