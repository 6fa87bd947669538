-- Photos that belong to a channel (document 02, request 9): its references to attachments, and the attachments that the header's chain leads to.
use Rattle.std.specs.Prelude.{ℕ, zero, suc, ◌+◌, ◌*◌, List, [], ◌∷◌, ◌++◌, Bool, true, false, length, eqb}
use Rattle.base.specs.Choice.{pick, if_lt, if_eq}
use Rattle.base.specs.Field.{le_at}
use Rattle.base.specs.Checked.{Checked, ok, refused, and_then, Verdict, fine}
use Rattle.mdf.specs.Block.{kind, kind_at, size_at, links_at, link_at, first_link, data_at, header_in, most_bytes}
use Rattle.mdf.specs.Chain.{is_in}
use Rattle.plan.specs.Channel.{either}

-- ---- the attachments that the header's chain leads to

-- the kind of an attachment
abbrev pub kind_at_block : ℕ
kind_at_block = kind "A" "T"

-- "64 attachments"
abbrev pub most_attachments : ℕ
most_attachments = 64

-- "18, AT: under 4 links, or 24 + 8 × links over its length or over 268,435,456", then its whole range (4)
unfoldable pub attachment_in : List ℕ → ℕ → Verdict
attachment_in s a =
    if_lt (links_at s a) 4 (refused 18 a)
    (if_lt (size_at s a) (24 + 8 * links_at s a) (refused 18 a)
    (if_lt most_bytes (24 + 8 * links_at s a) (refused 18 a)
    (if_lt (length s) (a + size_at s a) (refused 4 a) fine)))

-- "following the attachments by 01's checks up to 19": "attachments (header, 18, whole range, 19 ..)", with those met before; the chain ends quietly where it
-- returns to one of these and "at a kind other than AT". More turns than attachments
unfoldable pub header_from : ℕ → List ℕ → ℕ → List ℕ → Checked (List ℕ)
header_from zero s a met = ok met
header_from (suc turns) s a met =
    let more = header_from turns s (first_link s a) (met ++ (a ∷ [])) in
    let limited = if_lt (length met) most_attachments more (refused 19 a) in
    let checked = and_then (attachment_in s a) (λ _. limited) in
    let unseen = and_then (header_in s a) (λ _. if_eq (kind_at s a) kind_at_block checked (ok met)) in
    if_eq a 0 (ok met) (pick (is_in a met) (ok met) unseen)

-- the chain that HD link 4 leads to
unfoldable pub header_chain : List ℕ → Checked (List ℕ)
header_chain s = header_from (most_attachments + 2) s (link_at s 64 3) []

-- bookkeeping: the attachments of a chain that is accepted
abbrev pub chain_met : Checked (List ℕ) → List ℕ
chain_met (ok met) = met
chain_met (refused number place) = []

-- "an attachment of the header's chain"
unfoldable pub header_attachments : List ℕ → List ℕ
header_attachments s = chain_met (header_chain s)

-- "With the choice planning starts by following the attachments by 01's checks up to 19"
unfoldable pub photos_first : Bool → List ℕ → Verdict
photos_first photos s = let followed : Verdict = and_then (header_chain s) (λ _. fine) in pick photos followed fine

-- ---- a channel's references

-- "the attachment count at data byte 22 of CN" (ASAM MDF 4.2, CNBLOCK)
unfoldable pub photo_count : List ℕ → ℕ → ℕ
photo_count s c = le_at 2 s (data_at s c + 22)

-- bookkeeping: so many links that stand at p
unfoldable pub links_from : List ℕ → ℕ → ℕ → List ℕ
links_from s zero p = []
links_from s (suc n) p = le_at 8 s p ∷ links_from s n (p + 8)

-- "its links after the eighth", as many as the count
unfoldable pub references : List ℕ → ℕ → List ℕ
references s c = links_from s (photo_count s c) (c + 88)

-- "This is a choice per call; without it all is as before": the references that a column of the channel keeps
unfoldable pub photos_of : Bool → List ℕ → ℕ → List ℕ
photos_of photos s c = let kept = references s c in pick photos kept []

-- "Zero references stay zero"; each other one is an attachment of the list
unfoldable pub are_attached : List ℕ → List ℕ → Bool
are_attached ats [] = true
are_attached ats (a ∷ as') = let later = are_attached ats as' in pick (either (eqb a 0) (is_in a ats)) later false

-- "28 when a nonzero reference doesn't lead to an attachment of the header's chain, or the channel has fewer links than its count demands; its place is the CN"
unfoldable pub photos_in : Bool → List ℕ → ℕ → Verdict
photos_in photos s c =
    let led : Verdict = pick (are_attached (header_attachments s) (references s c)) fine (refused 28 c) in
    let tested = if_lt (links_at s c) (8 + photo_count s c) (refused 28 c) led in
    pick photos tested fine
