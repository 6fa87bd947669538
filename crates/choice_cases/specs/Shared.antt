-- Document 02, request 8, at recordings of groups with one master each: which master stands for which, what makes two differ, and what is refused.
use Rattle.std.specs.Prelude.{ℕ, zero, suc, ◌+◌, ◌/◌, ◌%◌, ◌≤◌, List, [], ◌∷◌, ◌++◌, Bool, true, false, ◌≡◌, refl, length, get_or, replicate, set}
use Rattle.std.proofs.Math.Option.{Option, none, some}
use Rattle.std.proofs.Common.{sym, ap, ◌∙◌, subst, arith}
use Rattle.base.specs.Checked.{Checked, ok, refused, and_then}
use Rattle.mdf.specs.Walk.{walk}
use Rattle.mdf.specs.Group.{data_groups}
use Rattle.mdf.specs.Count.{counts}
use Rattle.plan.specs.Columns.{SrcGroup, src_groups, Column}
use Rattle.plan.specs.Layout.{Layout}
use Rattle.result.specs.Sharing.{same, text_at, sync_type, data_type, conversion_of, unit_of, key_of, time_key, units_in, stream_in, with_key, is_compared, any_compared, compared_in, time_cells, is_equal, first_equal, stands_for, stands_from, shared_times, sharing}
use Rattle.result.specs.Result.{Args, Decided, report, decided}
use Rattle.result.specs.Guarantee.{here, there, columns_of, omissions_of, column_at, IsTime, StandsFor, SharedTime, Became, Guaranteed}
use Rattle.cases.specs.Evaluated.{evaluated}
use Rattle.cases.specs.Starred.{args}

-- ---- the recordings

-- kind, length, number of links
abbrev head : ℕ → ℕ → ℕ → ℕ → List ℕ
head k l size links = 35 ∷ 35 ∷ k ∷ l ∷ (replicate 4 0 ++ (size ∷ (replicate 7 0 ++ (links ∷ replicate 7 0))))

abbrev link : ℕ → List ℕ
link a = a % 256 ∷ a / 256 ∷ replicate 6 0

-- a DG at b with one CG at b + 64, which has one sample byte, an 8-bit master at b + 168, and a DT at b + 328 with the times of three records; the next DG
abbrev group : ℕ → ℕ → List ℕ → List ℕ
group b next times =
    head 68 71 64 4 ++ (link next ++ (link (b + 64) ++ (link (b + 328) ++ replicate 16 0)))
    ++ (head 67 71 104 6 ++ (link 0 ++ (link (b + 168) ++ (replicate 56 0 ++ (1 ∷ replicate 7 0)))))
    ++ (head 67 78 160 8 ++ (replicate 64 0 ++ (2 ∷ (replicate 7 0 ++ (8 ∷ replicate 63 0)))))
    ++ (head 68 84 27 0 ++ (times ++ replicate 5 0))

-- the first DG at 168
abbrev recording : List ℕ → List ℕ
recording groups = args.ident ++ (head 72 68 104 6 ++ (link 168 ++ replicate 72 0) ++ groups)

abbrev clock : List ℕ
clock = 1 ∷ 2 ∷ 3 ∷ []

-- groups with their CG at 232 and 592, then a text at 888 and one at 920
abbrev two : List ℕ → List ℕ → List ℕ
two times texts = recording (group 168 528 clock ++ (group 528 0 times ++ texts))

-- both units lead to texts: the first to the one at 888, the second to the one at a
abbrev units : ℕ → List ℕ → List ℕ
units a texts = set (set (set (set (two clock texts) 408 120) 409 3) 768 (a % 256)) 769 (a / 256)

-- a text of a kind, 25 to 32 bytes long
abbrev text : ℕ → ℕ → ℕ → List ℕ
text k l size = head k l size 0 ++ (115 ∷ replicate 7 0)

-- ---- which stands

abbrev times : Bool → List ℕ → Checked (List ℕ)
times on s = and_then (walk s) (λ st. and_then (counts s (data_groups st)) (λ ns. sharing on s (data_groups st) (src_groups (data_groups st) ns)))

abbrev shared : List ℕ → Checked (List ℕ)
shared s = times true s

-- "The first group in file order .. stands for its equals", with two clocks in turn
abbrev pub Standing : Type 0
Standing =
    (shared (two clock []) ≡ ok (0 ∷ 232 ∷ []))
    × (shared (recording (group 168 528 clock ++ (group 528 888 (1 ∷ 2 ∷ 4 ∷ []) ++ (group 888 1248 clock ++ group 1248 0 (1 ∷ 2 ∷ 4 ∷ [])))))
    ≡ ok (0 ∷ 0 ∷ 232 ∷ 592 ∷ []))

-- "the columns' bytes", of the last record; "the same key": flag bit 12, the conversion's address; another byte offset is no part of it
abbrev pub Apart : Type 0
Apart =
    (shared (two (1 ∷ 2 ∷ 9 ∷ []) []) ≡ ok (0 ∷ 0 ∷ []))
    × (shared (set (two clock []) 797 16) ≡ ok (0 ∷ 0 ∷ []))
    × (shared (set (two clock []) 752 8) ≡ ok (0 ∷ 0 ∷ []))
    × (shared (set (set (set (two (0 ∷ 1 ∷ 0 ∷ 2 ∷ 0 ∷ 3 ∷ []) []) 864 30) 688 2) 788 1) ≡ ok (0 ∷ 232 ∷ []))

-- "the unit texts (read as names are: kind and all bytes after 24, none equal only to none)": two TX; TX and MD; none and another kind
abbrev pub Units : Type 0
Units =
    (shared (units 920 (text 84 88 26 ++ text 84 88 26)) ≡ ok (0 ∷ 232 ∷ []))
    × (shared (units 920 (text 84 88 26 ++ text 77 68 26)) ≡ ok (0 ∷ 0 ∷ []))
    × (shared (units 0 (text 83 73 26)) ≡ ok (0 ∷ 232 ∷ []))

-- "Planning starts with the unit texts the Rust reads (4)", with the option, of equal groups with part records too; "then, DG by DG, the compared groups'
-- data": a part record (15), which isn't read of a group with a key of its own
abbrev pub Refusals : Type 0
Refusals =
    (shared (set (set (units 888 (text 84 88 23)) 328 2) 688 2) ≡ refused 4 888)
    × (shared (units 920 (text 84 88 26 ++ text 84 88 23)) ≡ refused 4 920)
    × (times false (units 920 (text 84 88 26 ++ text 84 88 23)) ≡ ok (0 ∷ 0 ∷ []))
    × (shared (set (set (two clock []) 328 2) 688 2) ≡ refused 15 522)
    × (shared (set (set (set (two clock []) 328 2) 688 2) 785 1) ≡ ok (0 ∷ 0 ∷ []))

-- ---- what is planned

-- a call that shares times, or doesn't
abbrev call : Bool → List ℕ → Args
call on s = record { image = s; block_size = 64; ident = args.ident; text = args.text; time = 0; unit = 8; table = []; share = on; photos = false }

-- of each column the channel, and 1 and its master's number, 0 for none; then the report's time columns and shared time groups
abbrev named : Option ℕ → ℕ
named none = 0
named (some m) = 1 + m

abbrev channels_of : List Column → List ℕ
channels_of [] = []
channels_of (c ∷ cs) = c.channel ∷ named c.master ∷ channels_of cs

abbrev columns_in : Args → Checked Decided → List ℕ
columns_in x (ok d) = channels_of d.planned.columns ++ ((report x d).time_groups_lem ∷ (report x d).shared_time_groups_lem ∷ [])
columns_in x (refused number place) = number ∷ place ∷ []

abbrev ends : Bool → List ℕ → List ℕ
ends on s = columns_in (call on s) (decided (call on s))

-- a third DG at 888 whose CG at 952 has no master, uses that of the CG at r, flag bit 3 and seventh link, and has a signal of 8 bits at 1064
abbrev user : ℕ → List ℕ
user r =
    head 68 71 64 4 ++ (link 0 ++ (link 952 ++ (link 1224 ++ replicate 16 0)))
    ++ (head 67 71 112 7 ++ (link 0 ++ (link 1064 ++ (replicate 32 0 ++ (link r ++ (replicate 16 0 ++ (8 ∷ (replicate 7 0 ++ (1 ∷ replicate 7 0)))))))))
    ++ (head 67 78 160 8 ++ (replicate 64 0 ++ (replicate 8 0 ++ (8 ∷ replicate 63 0))))
    ++ (head 68 84 27 0 ++ (7 ∷ 8 ∷ 9 ∷ replicate 5 0))

abbrev three : List ℕ → ℕ → List ℕ
three times r = recording (group 168 528 clock ++ (group 528 888 times ++ user r))

-- "a master channel ends as a column, an omission, or exactly one earlier column .., which the signals that have or use it name"; "the report's shared count
-- follows": without the option, with it, and with clocks that differ
abbrev pub Planned : Type 0
Planned =
    (ends false (two clock []) ≡ 336 ∷ 0 ∷ 696 ∷ 0 ∷ 2 ∷ 0 ∷ [])
    × (ends true (two clock []) ≡ 336 ∷ 0 ∷ 1 ∷ 1 ∷ [])
    × (ends true (two (1 ∷ 2 ∷ 9 ∷ []) []) ≡ 336 ∷ 0 ∷ 696 ∷ 0 ∷ 2 ∷ 0 ∷ [])
    × (ends false (three clock 592) ≡ 336 ∷ 0 ∷ 696 ∷ 0 ∷ 1064 ∷ 2 ∷ 2 ∷ 0 ∷ [])
    × (ends true (three clock 592) ≡ 336 ∷ 0 ∷ 1064 ∷ 1 ∷ 1 ∷ 1 ∷ [])
    × (ends true (three (1 ∷ 2 ∷ 9 ∷ []) 592) ≡ 336 ∷ 0 ∷ 696 ∷ 0 ∷ 1064 ∷ 2 ∷ 2 ∷ 0 ∷ [])

-- bookkeeping: as `evaluated`, with the definitions of sharing
unfoldable pub shares : ℕ
unfolding
    evaluated same text_at sync_type data_type conversion_of unit_of key_of time_key units_in stream_in with_key is_compared any_compared compared_in time_cells is_equal
    first_equal stands_for stands_from shared_times sharing
shares = 0

pub standing : Standing
unfolding shares
standing = (refl, refl)

pub apart : Apart
unfolding shares
apart = (refl, refl, refl, refl)

pub by_units : Units
unfolding shares
by_units = (refl, refl, refl)

pub refusals : Refusals
unfolding shares
refusals = (refl, refl, refl, refl, refl)

pub planned : Planned
unfolding shares
planned = (refl, refl, refl, refl, refl, refl)

-- ---- a converter that shares clocks which differ in the last record: whatever it places, writes and lists

abbrev unequal : Args
unequal = call true (two (1 ∷ 2 ∷ 9 ∷ []) [])

abbrev first_only : List Column → List Column
first_only [] = []
first_only (c ∷ cs) = c ∷ []

abbrev pub SharesUnequal : Checked Decided → Type 0
SharesUnequal (ok d) =
    (n : ℕ) (p : Layout) (f l : List ℕ)
    → Guaranteed unequal (record { groups = d.groups; stands = d.stands; planned = record { columns = first_only d.planned.columns; omissions = []; fragments = n }; laid_out = p }) f l
    → ⊥
SharesUnequal (refused number place) = ⊥

two-at_least : (before : List SrcGroup) (a b : SrcGroup) (between after : List SrcGroup) → 2 ≤ length (before ++ (a ∷ (between ++ (b ∷ after))))
two-at_least [] a b [] after = omega arith
two-at_least [] a b (x ∷ between) after = omega (arith, two-at_least [] x b between after)
two-at_least (x ∷ before) a b between after = omega (arith, two-at_least before a b between after)

abbrev front : SrcGroup → List SrcGroup → SrcGroup
front d [] = d
front d (a ∷ l) = a

-- of two groups the one before another is the first
first_of : (a b : SrcGroup) (before : List SrcGroup) (c d : SrcGroup) (between after : List SrcGroup) → (a ∷ b ∷ []) ≡ before ++ (c ∷ (between ++ (d ∷ after))) → a ≡ c
first_of a b [] c d between after e = ap (front c) e
first_of a b (x ∷ before) c d between after e = absurd (omega (arith, two-at_least before c d between after, ap length e))

-- the only column
only-column : (c : Column) (k : ℕ) (d : Column) → column_at k (c ∷ []) ≡ some d → c ≡ d
unfolding column_at
only-column c zero d e = cc
only-column c (suc k) d e = let z : ◌≡◌ {A = ℕ} 0 1 = cc in absurd (omega arith)

-- what stands for the second group g is the first one, a, with the master m of the only column
shared_is : (s : List ℕ) (a g : SrcGroup) (own : ℕ) (c : Column) → (h : SharedTime s (a ∷ g ∷ []) (c ∷ []) g own) → time_cells s g own ≡ time_cells s a c.channel
shared_is s a g own c h =
    let e : a ≡ h.by = first_of a g h.equal.before h.by g h.equal.between h.equal.after h.equal.earlier in
    let m : c.channel ≡ h.theirs = ap (λ (d : Column). d.channel) (only-column c h.number h.column h.is_time_lem.there) ∙ h.is_time_lem.of_channel in
    h.equal.bytes ∙ ap (λ (b : SrcGroup). time_cells s b h.theirs) (sym e) ∙ ap (time_cells s a) (sym m)

refuted : (s : List ℕ) (a g : SrcGroup) (own : ℕ) (c : Column) → columns_of own (c ∷ []) ≡ 0 → (time_cells s g own ≡ time_cells s a c.channel → ⊥)
    → Became s (a ∷ g ∷ []) (c ∷ []) [] g own → ⊥
unfolding omissions_of
refuted s a g own c z n (Became.itself e) = omega (arith, z, e)
refuted s a g own c z n (Became.another e h) = n (shared_is s a g own c h)

pub shares-unequal : SharesUnequal (decided unequal)
unfolding shares columns_of
shares-unequal n p f l g =
    refuted _ _ _ 696 _ refl (λ e. let z : ◌≡◌ {A = ℕ} 9 3 = ap (λ (b : List ℕ). get_or b 2 0) e in omega (arith, z)) (g.once _ (there here) refl 696 here)
