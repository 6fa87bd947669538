-- The header's attachment chain as the code follows it: step by step, the addresses met in words.
use Rattle.std.specs.Prelude.{ℕ, ◌≤◌, List, Bool, true, false, ◌≡◌, take, Result, Ok, Err}
use Rattle.base.specs.Choice.{pick, if_lt, if_eq}
use Rattle.base.specs.Checked.{Checked, ok, refused, and_then}
use Rattle.mdf.specs.Block.{kind_at, header_in}
use Rattle.plan.specs.Photos.{kind_at_block, most_attachments, attachment_in}
use Rattle.photos.specs.declared.Going.{Going}
use Rattle.fields.specs.declared.refusal.Refusal.{Refusal}
use Rattle.fields.specs.Answer.{number_of, place_of}

-- whether the chain goes on at a, where it was met or not, after n attachments; a refusal; in the order of `headerFrom`
unfoldable pub goes_on : List ℕ → ℕ → Bool → ℕ → Checked Bool
goes_on s a met n =
    let limited = if_lt n most_attachments (ok true) (refused 19 a) in
    let checked = and_then (attachment_in s a) (λ _. limited) in
    let unseen = and_then (header_in s a) (λ _. if_eq (kind_at s a) kind_at_block checked (ok false)) in
    if_eq a 0 (ok false) (pick met (ok false) unseen)

abbrev pub going_as : Result Going Refusal → Checked Bool
going_as (Err x) = refused (number_of x) (place_of x)
going_as (Ok Going.Ends) = ok false
going_as (Ok Going.On) = ok true

-- with the words w at the end the answer is what is defined
abbrev pub Follows : Checked (List ℕ) → Result ℕ Refusal → List ℕ → Type 0
Follows v (Err x) w = v ≡ refused (number_of x) (place_of x)
Follows v (Ok n) w = (v ≡ ok (take n w)) × (n ≤ 64)
