-- What planning starts with when clocks are shared, out of the entries of groups (document 02, request 8): unit texts, then the compared groups' data.
use Rattle.std.specs.Prelude.{ℕ, ◌+◌, List, [], ◌∷◌, Bool, true, false, eqb, ltb}
use Rattle.base.specs.Choice.{pick, if_eq}
use Rattle.base.specs.Blit.{part}
use Rattle.base.specs.Checked.{and_then, Verdict, fine}
use Rattle.mdf.specs.Name.{name_at}
use Rattle.work_words.specs.Words.{fragments_of}
use Rattle.plan.specs.Channel.{both}
use Rattle.result.specs.Sharing.{same, unit_of, key_of, stream_in}
use Rattle.planning.specs.declared.table.Entry.{Entry}

-- a check of each entry, in order
unfoldable pub each_over : (Entry → Verdict) → List Entry → Verdict
each_over p [] = fine
each_over p (e ∷ es) = and_then (p e) (λ _. each_over p es)

-- "the unit texts the Rust reads (4)"
unfoldable pub unit_over : List ℕ → Entry → Verdict
unit_over s e = if_eq e.master 0 fine (name_at s (unit_of s e.master))

-- the key of a group's master
abbrev pub entry_key : List ℕ → Entry → List ℕ
entry_key s e = key_of s e.records e.at e.master

-- f has a master, and its key is that of e's
unfoldable pub shares_key : List ℕ → Entry → Entry → Bool
shares_key s e f = if_eq f.master 0 false (same (entry_key s e) (entry_key s f))

-- how many of the entries do
unfoldable pub keyed_over : List ℕ → Entry → List Entry → ℕ
keyed_over s e [] = 0
keyed_over s e (f ∷ fs) = pick (shares_key s e f) 1 0 + keyed_over s e fs

-- "the compared groups"
unfoldable pub compared_over : List ℕ → List Entry → Entry → Bool
compared_over s all e = if_eq e.master 0 false (ltb 1 (keyed_over s e all))

-- one of the entries is of the DG at d and compared
unfoldable pub any_over : List ℕ → List Entry → ℕ → List Entry → Bool
any_over s all d [] = false
any_over s all d (e ∷ es) = let more = any_over s all d es in pick (both (eqb e.dg d) (compared_over s all e)) true more

-- the data of a group that is alone in its DG, if that is a compared group's
unfoldable pub stream_over : List ℕ → List ℕ → List Entry → Entry → Verdict
stream_over s f all e =
    let read = stream_in s e.dg e.at (fragments_of (part e.fragments e.words f)) in
    if_eq e.count 1 (pick (any_over s all e.dg all) read fine) fine
