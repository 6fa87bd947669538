-- Document 02, requests 6 and 7, at a recording of one channel: what a table makes of its type, what becomes of its links, where 4, 8 and 27 stand; results
-- and plans that treat it otherwise do not have the guarantee.
use Rattle.std.specs.Prelude.{ℕ, false, List, [], ◌∷◌, ◌++◌, ◌≡◌, refl, replicate, set}
use Rattle.std.proofs.lemmas.Bool.{false≢true}
use Rattle.std.proofs.Common.{ap, ◌∙◌, arith}
use Rattle.base.specs.Checked.{Checked, ok, refused}
use Rattle.mdf.specs.Block.{link_at}
use Rattle.mdf.specs.Chain.{Fragment}
use Rattle.plan.specs.Channel.{channel_type}
use Rattle.plan.specs.Columns.{SrcGroup, signal_data, Column, Omission}
use Rattle.plan.specs.Layout.{Layout, Placed, cn_of}
use Rattle.result.specs.Links.{Shown}
use Rattle.result.specs.Recording.{has_signal, leads_to, reason_for, OmissionDue}
use Rattle.result.specs.Result.{Args, Decided, decided, file_of, report}
use Rattle.result.specs.Guarantee.{In, here, Guaranteed}
use Rattle.cases.specs.Evaluated.{evaluated}
use Rattle.cases.specs.Starred.{args}
use Rattle.cases.specs.Excluded.{file_in}
use Rattle.refuted_cases.specs.Refuted.{Refuted, one_at}
use Rattle.refuted_cases.specs.Lost.{all_signalled}

-- ---- the recording

-- kind, length, number of links
abbrev head : ℕ → ℕ → ℕ → ℕ → List ℕ
head k l size links = 35 ∷ 35 ∷ k ∷ l ∷ (replicate 4 0 ++ (size ∷ (replicate 7 0 ++ (links ∷ replicate 7 0))))

abbrev link : ℕ → ℕ → List ℕ
link low high = low ∷ high ∷ replicate 6 0

-- HD at 64, DG at 168, CG at 232 with one sample byte and no records, CN at 336 with 8 bits of type t, one more block at 496
abbrev recording : ℕ → List ℕ → List ℕ
recording t more =
    args.ident
    ++ (head 72 68 104 6 ++ (link 168 0 ++ replicate 72 0)
    ++ (head 68 71 64 4 ++ (link 0 0 ++ (link 232 0 ++ replicate 24 0))
    ++ (head 67 71 104 6 ++ (link 0 0 ++ (link 80 1 ++ (replicate 56 0 ++ (1 ∷ replicate 7 0))))
    ++ (head 67 78 160 8 ++ (replicate 64 0 ++ (t ∷ (replicate 7 0 ++ (8 ∷ replicate 63 0))))
    ++ more))))

-- with all links of the channel 0
abbrev plain : ℕ → List ℕ
plain t = recording t []

-- with link 2 to a CA, to the CN
abbrev array : ℕ → List ℕ
array t = set (set (recording t (head 67 65 24 0)) 368 240) 369 1

abbrev structure : ℕ → List ℕ
structure t = set (set (plain t) 368 80) 369 1

-- with link 6 to an SD, to a DT, to the CG, past the image
abbrev to_sd : ℕ → List ℕ
to_sd t = set (set (recording t (head 83 68 24 0)) 400 240) 401 1

abbrev to_dt : ℕ → List ℕ
to_dt t = set (set (recording t (head 68 84 24 0)) 400 240) 401 1

abbrev to_cg : ℕ → List ℕ
to_cg t = set (plain t) 400 232

abbrev past : ℕ → List ℕ
past t = set (plain t) 401 9

-- ---- what becomes of its channel

-- block size, unit, table, image
abbrev call : ℕ → ℕ → List ℕ → List ℕ → Args
call size u table s = record { image = s; block_size = size; ident = args.ident; text = args.text; time = 0; unit = u; table = table; share = false; photos = false }

-- a column, with type and link 6 of its CN in the file and the number of data blocks; an omission, with its reason; number and place of a refusal
pub data Ending : Type 0 where
  column : ℕ → ℕ → ℕ → Ending
  omission : ℕ → Ending
  refusal : ℕ → ℕ → Ending
  other : Ending

abbrev one : List ℕ → ℕ → List Placed → List Omission → Ending
one f n (p ∷ []) [] = column (channel_type f (cn_of p)) (link_at f (cn_of p) 5) n
one f n [] (o ∷ []) = omission o.reason
one f n [] [] = other
one f n [] (o ∷ r ∷ os) = other
one f n (p ∷ []) (o ∷ os) = other
one f n (p ∷ q ∷ ps) os = other

abbrev ended : Args → Checked Decided → Ending
ended x (ok d) = one (file_of x d.laid_out) (report x d).data_blocks d.laid_out.placed d.planned.omissions
ended x (refused number place) = refusal number place

abbrev ending : ℕ → ℕ → List ℕ → List ℕ → Ending
ending size u table s = ended (call size u table s) (decided (call size u table s))

-- with a table of one type, without a table
abbrev by : ℕ → ℕ → List ℕ → Ending
by t v s = ending 64 8 (1 ∷ t ∷ v ∷ []) s

abbrev built_in : List ℕ → Ending
built_in s = ending 64 8 [] s

-- "0 keep, 1 omit, 2 store as type 0"; "Types not listed keep the built-in treatment, and a table of length 0 leaves all to it"
abbrev pub Types : Type 0
Types =
    (by 4 0 (plain 4) ≡ column 4 0 0)
    × (by 4 0 (to_sd 4) ≡ column 4 0 0)
    × (by 4 1 (plain 4) ≡ omission 8)
    × (by 4 2 (plain 4) ≡ column 0 0 0)
    × (by 5 1 (plain 4) ≡ omission 4)
    × (built_in (plain 4) ≡ omission 4)
    × (by 5 1 (plain 5) ≡ omission 8)
    × (by 5 2 (plain 5) ≡ column 0 0 0)
    × (by 4 0 (plain 5) ≡ column 0 0 0)
    × (built_in (plain 5) ≡ column 0 0 0)
    × (by 0 1 (plain 0) ≡ omission 8)
    × (by 6 1 (plain 0) ≡ column 0 0 0)
    × (ending 64 8 (7 ∷ 0 ∷ 1 ∷ 2 ∷ 3 ∷ 4 ∷ 5 ∷ 6 ∷ 0 ∷ 2 ∷ 0 ∷ 0 ∷ 0 ∷ 2 ∷ 1 ∷ []) (plain 6) ≡ omission 8)
    × (ending 64 8 (7 ∷ 0 ∷ 1 ∷ 2 ∷ 3 ∷ 4 ∷ 5 ∷ 6 ∷ 0 ∷ 2 ∷ 0 ∷ 0 ∷ 0 ∷ 2 ∷ 1 ∷ []) (to_sd 1) ≡ column 0 0 0)

-- "A type 1 channel stored as type 0 loses its signal data ..; its link 6 isn't read, so reason 7 can't arise"
abbrev pub Signals : Type 0
Signals =
    (built_in (to_sd 1) ≡ column 1 584 1)
    × (by 1 0 (to_sd 1) ≡ column 1 584 1)
    × (by 1 2 (to_sd 1) ≡ column 0 0 0)
    × (built_in (to_cg 1) ≡ omission 7)
    × (by 1 2 (to_cg 1) ≡ column 0 0 0)
    × (built_in (to_dt 1) ≡ refusal 12 496)
    × (by 1 2 (to_dt 1) ≡ column 0 0 0)
    × (built_in (past 1) ≡ refusal 4 2304)
    × (by 1 2 (past 1) ≡ column 0 0 0)

-- "A type 4 channel outside its record moves from reason 2 to 4 under the built-in rules; one of a type the table omits moves from 2, 5, 6 or 7 to 8.
-- Such a channel's composition and data links are no longer read." (document 02, request 7)
abbrev pub Reasons : Type 0
Reasons =
    (built_in (set (plain 4) 432 16) ≡ omission 4)
    × (built_in (set (plain 0) 432 16) ≡ omission 2)
    × (by 4 0 (set (plain 4) 432 16) ≡ omission 2)
    × (by 0 1 (set (plain 0) 432 16) ≡ omission 8)
    × (by 4 1 (array 4) ≡ omission 8)
    × (by 4 1 (structure 4) ≡ omission 8)
    × (by 1 1 (to_cg 1) ≡ omission 8)
    × (built_in (array 4) ≡ omission 4)
    × (by 1 1 (past 1) ≡ omission 8)
    × (by 0 1 (set (plain 0) 369 9) ≡ omission 8)
    × (built_in (set (plain 0) 369 9) ≡ refusal 4 2304)
    × (by 1 1 (to_dt 1) ≡ omission 8)
    × (by 1 1 (to_sd 1) ≡ omission 8)
    × (by 1 1 (plain 1) ≡ omission 8)

-- 27 "follows 26", which follows 2, and precedes what is asked of the recording
abbrev pub Order : Type 0
Order =
    (ending 0 12 (1 ∷ 9 ∷ 0 ∷ []) [] ≡ refusal 2 0)
    × (ending 64 12 (1 ∷ 9 ∷ 0 ∷ []) [] ≡ refusal 26 0)
    × (ending 64 8 (1 ∷ 9 ∷ 0 ∷ []) [] ≡ refusal 27 0)
    × (ending 64 8 (1 ∷ 4 ∷ 0 ∷ []) [] ≡ refusal 4 0)

pub treated : Types × Signals × Reasons × Order
unfolding evaluated
treated = (
  (refl, refl, refl, refl, refl, refl, refl, refl, refl, refl, refl, refl, refl, refl),
  (refl, refl, refl, refl, refl, refl, refl, refl, refl),
  (refl, refl, refl, refl, refl, refl, refl, refl, refl, refl, refl, refl, refl, refl),
  (refl, refl, refl, refl),
)

-- ---- otherwise: a type 1 channel stored as type 0

abbrev pub fixed : Args
fixed = call 64 8 (1 ∷ 1 ∷ 2 ∷ []) (to_sd 1)

-- its CN's type in the file, at 512, is 1
abbrev type_in : List Shown → ℕ
type_in [] = 0
type_in (c ∷ cs) = c.channel.channel_type

pub type_kept : Refuted fixed (decided fixed) (set (file_in fixed (decided fixed)) 512 1)
unfolding evaluated
type_kept l g = let z : ◌≡◌ {A = ℕ} 1 0 = ap type_in (g.shows 1 (omega arith)) in omega (arith, z)

-- its column keeps signal data, whatever it is, and whatever is omitted, placed, written and listed
abbrev pub KeepsSignal : Checked Decided → Type 0
KeepsSignal (ok d) =
    (fs : List Fragment) (os : List Omission) (n : ℕ) (p : Layout) (f l : List ℕ)
    → Guaranteed fixed (record { groups = d.groups; stands = d.stands; planned = record { columns = all_signalled (signal_data fs) d.planned.columns; omissions = os; fragments = n }; laid_out = p }) f l
    → ⊥
KeepsSignal (refused number place) = ⊥

pub keeps_signal : KeepsSignal (decided fixed)
unfolding evaluated has_signal
keeps_signal fs os n p f l g = false≢true (g.signals _ here).0.0

-- ---- otherwise: a type 4 channel that a table omits

abbrev pub left : Args
left = call 64 8 (1 ∷ 4 ∷ 1 ∷ []) (plain 4)

-- it is omitted for the built-in reason, or it has the column that it has where the table keeps it; whatever else is planned, placed, written and listed
abbrev columns_in : Checked Decided → List Column
columns_in (ok d) = d.planned.columns
columns_in (refused number place) = []

abbrev pub Planned : List Column → List Omission → Checked Decided → Type 0
Planned cs os (ok d) =
    (n : ℕ) (p : Layout) (f l : List ℕ)
    → Guaranteed left (record { groups = d.groups; stands = d.stands; planned = record { columns = cs; omissions = os; fragments = n }; laid_out = p }) f l → ⊥
Planned cs os (refused number place) = ⊥

-- a channel at 336 of the group at 232 is omitted for its reason
reason_is : (table s : List ℕ) (gs : List SrcGroup) (o : Omission) → ((h : SrcGroup) → In h gs → h.at ≡ 232) → o.at ≡ 336
    → OmissionDue table s gs o → o.reason ≡ reason_for table s 232 336
reason_is table s gs o k a (OmissionDue.of_channel h i t c e z) = e ∙ ap (λ (x : ℕ). reason_for table s x o.at) (k h i) ∙ ap (reason_for table s 232) a
reason_is table s gs o k a (OmissionDue.of_group h i t q e d) = omega (arith, a, q, k h i)

pub treats_otherwise : ((cs : List Column) (os : List Omission) → Planned cs (record { at = 336; reason = 4 } ∷ os) (decided left))
    × ((os : List Omission) → Planned (columns_in (decided (call 64 8 (1 ∷ 4 ∷ 0 ∷ []) (plain 4)))) os (decided left))
unfolding evaluated leads_to has_signal reason_for
treats_otherwise = (
  λ cs os n p f l g. let z : ◌≡◌ {A = ℕ} 4 8 = reason_is _ _ _ _ (λ h i. one_at _ h i) refl (g.omitted _ here) in omega (arith, z),
  λ os n p f l g. let z : ◌≡◌ {A = ℕ} 8 0 = g.kinded _ here in omega (arith, z),
)
