-- Document 02, request 9, at recordings whose channels have two references to photos: what columns keep, what is refused, and in which order; results
-- that lose a photo do not have the guarantee.
use Rattle.std.specs.Prelude.{ℕ, zero, suc, ◌+◌, ◌/◌, ◌%◌, ◌<◌, Bool, true, false, List, [], ◌∷◌, ◌++◌, ◌≡◌, refl, length, get_or, replicate, set}
use Rattle.std.proofs.Common.{ap, arith}
use Rattle.base.specs.Blit.{part}
use Rattle.base.specs.Checked.{Checked, ok, refused}
use Rattle.mdf.specs.Block.{link_at}
use Rattle.plan.specs.Photos.{header_chain, header_attachments, references}
use Rattle.plan.specs.Columns.{omission_reasons}
use Rattle.plan.specs.Layout.{Placed, cn_of}
use Rattle.result.specs.Links.{Shown}
use Rattle.result.specs.Names.{chain_place}
use Rattle.result.specs.Recording.{attached_from}
use Rattle.result.specs.Result.{Args, Decided, decided, file_of}
use Rattle.result.specs.Guarantee.{here}
use Rattle.cases.specs.Evaluated.{evaluated}
use Rattle.cases.specs.Starred.{args, seen}
use Rattle.cases.specs.Excluded.{file_in}
use Rattle.refuted_cases.specs.Refuted.{Refuted}
use Rattle.choice_cases.specs.Shared.{shares}

-- ---- the recordings

-- kind, length, number of links
abbrev head : ℕ → ℕ → ℕ → ℕ → List ℕ
head k l size links = 35 ∷ 35 ∷ k ∷ l ∷ (replicate 4 0 ++ (size ∷ (replicate 7 0 ++ (links ∷ replicate 7 0))))

abbrev link : ℕ → List ℕ
link a = a % 256 ∷ a / 256 ∷ replicate 6 0

-- the data of a channel of 8 bits: type, number of references
abbrev channel_data : ℕ → ℕ → List ℕ
channel_data t n = t ∷ (replicate 7 0 ++ (8 ∷ (replicate 13 0 ++ (n ∷ replicate 49 0))))

-- a CN with the next one, of type t, with references to a and b
abbrev channel : ℕ → ℕ → ℕ → ℕ → List ℕ
channel next t a b = head 67 78 176 10 ++ (link next ++ (replicate 56 0 ++ (link a ++ (link b ++ channel_data t 2))))

-- a DG at d with the next one, its CG at d + 64 with one sample byte and seven links, its CN at d + 176, a DT at d + 352 with three records
abbrev group : ℕ → ℕ → List ℕ → List ℕ
group d next cn =
    head 68 71 64 4 ++ (link next ++ (link (d + 64) ++ (link (d + 352) ++ replicate 16 0)))
    ++ (head 67 71 112 7 ++ (link 0 ++ (link (d + 176) ++ (replicate 64 0 ++ (1 ∷ replicate 7 0))))
    ++ (cn ++ (head 68 84 27 0 ++ (1 ∷ 2 ∷ 3 ∷ replicate 5 0))))

-- an AT with the next one
abbrev attachment : ℕ → List ℕ
attachment next = head 65 84 64 4 ++ (link next ++ replicate 32 0)

-- HD at 64 with the first AT, the first DG at 168
abbrev recording : ℕ → List ℕ → List ℕ
recording a groups = args.ident ++ (head 72 68 104 6 ++ (link 168 ++ (replicate 16 0 ++ (link a ++ (replicate 48 0 ++ groups)))))

-- a channel at 344; the header's chain is the AT at 552 and 616, another AT is at 680
abbrev one : ℕ → ℕ → ℕ → List ℕ
one t a b = recording 552 (group 168 0 (channel 0 t a b) ++ (attachment 616 ++ (attachment 0 ++ attachment 0)))

-- a signal at 344 and the group's master at 552; the AT at 728 is in the chain, the one at 792 isn't
abbrev mastered : ℕ → ℕ → List ℕ
mastered a b = recording 728 (group 168 0 (channel 552 0 a 0) ++ (channel 0 2 b 0 ++ (attachment 0 ++ attachment 0)))

-- a channel at 344 and, in a group with its CG at 616, one at 728; the AT at 936 is in the chain, the one at 1000 isn't
abbrev two : ℕ → ℕ → ℕ → ℕ → List ℕ
two t a u b = recording 936 (group 168 552 (channel 0 t a 0) ++ (group 552 0 (channel 0 u b 0) ++ (attachment 0 ++ attachment 0)))

-- ---- what becomes of them

abbrev call : Bool → Bool → List ℕ → Args
call share photos s = record { image = s; block_size = 64; ident = args.ident; text = args.text; time = 0; unit = 8; table = []; share = share; photos = photos }

-- the references of each column's CN in the file, the reasons of omissions; number and place of a refusal
pub data Ending : Type 0 where
  columns : List (List ℕ) → List ℕ → Ending
  refusal : ℕ → ℕ → Ending

abbrev references_in : List ℕ → List Placed → List (List ℕ)
references_in f [] = []
references_in f (p ∷ ps) = references f (cn_of p) ∷ references_in f ps

abbrev ended : Args → Checked Decided → Ending
ended x (ok d) = columns (references_in (file_of x d.laid_out) d.laid_out.placed) (omission_reasons d.planned.omissions)
ended x (refused number place) = refusal number place

abbrev ending : Bool → Bool → List ℕ → Ending
ending share photos s = ended (call share photos s) (decided (call share photos s))

-- with the choice, without it
abbrev on : List ℕ → Ending
on s = ending false true s

abbrev off : List ℕ → Ending
off s = ending false false s

-- ---- the column of a channel with references to an AT and to none, byte for byte

abbrev file : Bool → List ℕ → List ℕ
file photos s = file_in (call false photos s) (decided (call false photos s))

-- HD link 4, DG link 3, the CN with the kind of the next block, the two AT at a
abbrev parts_of : ℕ → ℕ → List ℕ → List (List ℕ)
parts_of size a f = (link_at f 64 3 ∷ link_at f 256 2 ∷ []) ∷ part 424 (size + 4) f ∷ part a 128 f ∷ []

abbrev dl : List ℕ
dl = 35 ∷ 35 ∷ 68 ∷ 76 ∷ []

-- "CN takes 160 + 8 times that count, and links lead to the moved AT. Zero references stay zero": the DL stands behind the longer CN. "without it all is as
-- before", and so it is with a count of 0
abbrev pub TwoReferences : Type 0
TwoReferences =
    (parts_of 176 688 (file true (one 0 552 0)) ≡ (688 ∷ 600 ∷ []) ∷ (channel 0 0 688 0 ++ dl) ∷ (attachment 752 ++ attachment 0) ∷ [])
    × (seen (call false true (one 0 552 0)) (decided (call false true (one 0 552 0))) ≡ 656 ∷ 816 ∷ 816 ∷ 656 ∷ [])
    × (parts_of 160 672 (file false (one 0 552 0))
    ≡ (672 ∷ 584 ∷ []) ∷ (head 67 78 160 8 ++ (replicate 64 0 ++ (channel_data 0 0 ++ dl))) ∷ (attachment 736 ++ attachment 0) ∷ [])
    × (seen (call false false (one 0 552 0)) (decided (call false false (one 0 552 0))) ≡ 640 ∷ 800 ∷ 800 ∷ 640 ∷ [])
    × (file true (set (one 0 552 0) 470 0) ≡ file false (one 0 552 0))

pub two-references : TwoReferences
unfolding evaluated
two-references = (refl, refl, refl, refl, refl)

-- ---- which references are kept

-- "in the source's order", a photo named twice twice, zeros too; the chain goes on to the AT at 680, or returns to its first
abbrev longer : ℕ → ℕ → List ℕ
longer a b = set (set (one 0 a b) 640 168) 641 2

abbrev circular : ℕ → ℕ → List ℕ
circular a b = set (set (one 0 a b) 640 40) 641 2

abbrev pub Kept : Type 0
Kept =
    (on (longer 680 552) ≡ columns ((816 ∷ 688 ∷ []) ∷ []) [])
    × (on (one 0 616 616) ≡ columns ((752 ∷ 752 ∷ []) ∷ []) [])
    × (on (circular 0 616) ≡ columns ((0 ∷ 752 ∷ []) ∷ []) [])

-- "28 when a nonzero reference doesn't lead to an attachment of the header's chain": past the image, to another kind, to an AT outside the chain, which
-- ends where it returns to an earlier AT or meets another kind; "or the channel has fewer links than its count demands". Nothing of it without the choice
abbrev cut : ℕ → ℕ → List ℕ
cut a b = set (longer a b) 619 88

abbrev pub Refused : Type 0
Refused =
    (on (one 0 552 2304) ≡ refusal 28 344)
    × (on (one 0 344 0) ≡ refusal 28 344)
    × (on (one 0 0 680) ≡ refusal 28 344)
    × (on (circular 616 680) ≡ refusal 28 344)
    × (on (set (one 0 616 0) 576 40) ≡ refusal 28 344)
    × (on (cut 680 0) ≡ refusal 28 344)
    × (on (cut 616 0) ≡ refusal 28 344)
    × (on (cut 552 0) ≡ columns ((688 ∷ 0 ∷ []) ∷ []) [])
    × (on (set (one 0 552 0) 470 3) ≡ refusal 28 344)
    × (on (set (one 0 552 0) 471 1) ≡ refusal 28 344)
    × (off (set (one 0 2304 680) 470 5) ≡ columns ([] ∷ []) [])

-- ---- in which order

-- link 6 of a type 1 channel to the DT, to the CG, past the image; link 2 past the image
abbrev to_dt : ℕ → List ℕ
to_dt a = set (set (one 1 a 0) 408 8) 409 2

abbrev to_cg : List ℕ
to_cg = set (one 1 680 0) 408 232

abbrev past : List ℕ → List ℕ
past s = set s 377 9

-- "only planned columns are tested, each after its omission tests and before its SD chain"; the last group is VLSD storage
abbrev pub Tested : Type 0
Tested =
    (on (to_dt 680) ≡ refusal 28 344)
    × (on (to_dt 552) ≡ refusal 12 520)
    × (off (to_dt 680) ≡ refusal 12 520)
    × (on to_cg ≡ columns [] (7 ∷ []))
    × (on (set (one 1 680 0) 409 9) ≡ refusal 4 2304)
    × (on (past (one 0 680 0)) ≡ refusal 4 2304)
    × (on (set (one 4 0 0) 470 5) ≡ columns [] (4 ∷ []))
    × (on (set (set (one 0 0 0) 470 5) 456 16) ≡ columns [] (2 ∷ []))
    × (on (set (set (one 0 680 0) 376 88) 377 1) ≡ columns [] (6 ∷ []))
    × (on (set (one 0 680 0) 328 1) ≡ columns [] [])

-- the group at 232, without a master, uses that of the one at 616
abbrev remote : ℕ → ℕ → List ℕ
remote a b = set (set (set (two 0 a 2 b) 304 104) 305 2) 328 8

-- "A time column is planned where first needed .., then the other channels in order": with both AT in the chain; needed by its own group, by an earlier one,
-- which doesn't need it where counts differ
abbrev pub Times : Type 0
Times =
    (on (set (set (remote 936 1000) 960 232) 961 3) ≡ columns ((1192 ∷ 0 ∷ []) ∷ (1128 ∷ 0 ∷ []) ∷ []) [])
    × (on (mastered 792 792) ≡ refusal 28 552)
    × (on (mastered 792 728) ≡ refusal 28 344)
    × (on (remote 1000 1000) ≡ refusal 28 728)
    × (on (remote 1000 936) ≡ refusal 28 344)
    × (on (set (remote 1000 1000) 912 26) ≡ refusal 28 344)
    × (on (two 0 1000 2 1000) ≡ refusal 28 344)

-- the first AT has three links; the second runs past the image
abbrev short : List ℕ → List ℕ
short s = set s 568 3

abbrev long : List ℕ → List ℕ
long s = set s 625 9

-- masters with units, which lead to a text of 23 bytes at 1064; the first AT has three links
abbrev units : List ℕ
units = set (set (set (set (set (two 2 936 2 936 ++ (head 84 88 23 0)) 416 40) 417 4) 800 40) 801 4) 952 3

-- "With the choice planning starts by following the attachments by 01's checks up to 19, before unit texts", after the walk and the counts
abbrev pub First : Type 0
First =
    (on (short (past (one 0 552 0))) ≡ refusal 18 552)
    × (off (short (past (one 0 552 0))) ≡ refusal 4 2304)
    × (on (long (past (one 0 552 0))) ≡ refusal 4 616)
    × (off (long (past (one 0 552 0))) ≡ refusal 4 2304)
    × (on (set (past (one 0 552 0)) 113 9) ≡ refusal 4 2344)
    × (on (set (short (one 0 552 0)) 224 3) ≡ refusal 13 168)
    × (ending true true units ≡ refusal 18 936)
    × (ending true false units ≡ refusal 4 1064)

-- "of a shared one, the standing master's": the other's aren't tested
abbrev pub Stands : Type 0
Stands =
    (ending true true (two 2 936 2 1000) ≡ columns ((688 ∷ 0 ∷ []) ∷ []) [])
    × (ending true true (two 2 1000 2 936) ≡ refusal 28 344)
    × (ending false true (two 2 936 2 1000) ≡ refusal 28 728)

-- "64 attachments": n AT from a on, each of 56 bytes, 32 apart, each leading to the next
abbrev many : ℕ → ℕ → List ℕ
many zero a = replicate 56 0
many (suc n) a = head 65 84 56 4 ++ (link (a + 32) ++ many n (a + 32))

abbrev chained : ℕ → List ℕ
chained n = replicate 112 0 ++ (link 120 ++ many n 120)

abbrev pub Limit : Type 0
Limit = (length (header_attachments (chained 64)) ≡ 64) × (header_chain (chained 65) ≡ refused 19 2168)

pub limit : Limit
unfolding evaluated
limit = (refl, refl)

pub kept : Kept
unfolding evaluated
kept = (refl, refl, refl)

pub refuses : Refused
unfolding evaluated
refuses = (refl, refl, refl, refl, refl, refl, refl, refl, refl, refl, refl)

pub tested : Tested
unfolding evaluated
tested = (refl, refl, refl, refl, refl, refl, refl, refl, refl, refl)

pub times : Times
unfolding evaluated
times = (refl, refl, refl, refl, refl, refl, refl)

pub first : First
unfolding shares
first = (refl, refl, refl, refl, refl, refl, refl, refl)

pub stands : Stands
unfolding shares
stands = (refl, refl, refl)

-- ---- otherwise: in the file of `two-references` the reference to an AT is dropped, or leads to the chain's other AT; the one to none leads to an AT;
-- the count is 0

abbrev photographed : Args
photographed = call false true (one 0 552 0)

abbrev attachments_in : List Shown → ℕ
attachments_in [] = 0
attachments_in (c ∷ cs) = c.channel.attachments

abbrev pub Loses : Type 0
Loses =
    Refuted photographed (decided photographed) (set (set (file_in photographed (decided photographed)) 512 0) 513 0)
    × Refuted photographed (decided photographed) (set (file_in photographed (decided photographed)) 512 240)
    × Refuted photographed (decided photographed) (set (set (file_in photographed (decided photographed)) 520 176) 521 2)
    × Refuted photographed (decided photographed) (set (file_in photographed (decided photographed)) 550 0)

-- of two AT the one at 552 is the first
leads_first : (f : List ℕ) (b : ℕ) → ((k : ℕ) × (k < 2) × (◌≡◌ {A = ℕ} (get_or (552 ∷ 616 ∷ []) k 0) 552) × (b ≡ chain_place f (link_at f 64 3) k))
    → b ≡ link_at f 64 3
unfolding chain_place
leads_first f b (zero, l, e, p) = p
leads_first f b (suc zero, l, e, p) = absurd (omega (arith, e))
leads_first f b (suc (suc k), l, e, p) = absurd (omega (arith, l))

nonzero : ◌≡◌ {A = ℕ} 552 0 → ⊥
nonzero e = omega (arith, e)

pub loses : Loses
unfolding evaluated attached_from
loses = (
  λ l g. let z : ◌≡◌ {A = ℕ} 0 688 = leads_first _ _ (((g.photos refl _ here).each 0 (omega arith)).moved nonzero) in omega (arith, z),
  λ l g. let z : ◌≡◌ {A = ℕ} 752 688 = leads_first _ _ (((g.photos refl _ here).each 0 (omega arith)).moved nonzero) in omega (arith, z),
  λ l g. let z : ◌≡◌ {A = ℕ} 688 0 = ((g.photos refl _ here).each 1 (omega arith)).zero_stays refl in omega (arith, z),
  λ l g. let z : ◌≡◌ {A = ℕ} 0 2 = ap attachments_in (g.shows 2 (omega arith)) in omega (arith, z),
)
