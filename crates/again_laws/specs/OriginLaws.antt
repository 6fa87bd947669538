-- Every accepted call with built-in types planned its columns so.
use Rattle.std.specs.Prelude.{ℕ, zero, suc, List, [], ◌∷◌, Bool, true, false, ◌≡◌, refl, eqb, length}
use Rattle.std.proofs.Math.Option.{some}
use Rattle.std.proofs.Common.{sym, ap, ◌∙◌, arith}
use Rattle.std.proofs.Math.Path.{subst}
use borrow.Author.Tests.{eqb-true}
use Rattle.base.specs.ChoiceLaws.{eq_yes}
use Rattle.base.specs.Checked.{ok}
use Rattle.mdf.specs.Chain.{Fragment}
use Rattle.plan.specs.Channel.{channel_type, fits, is_master_type}
use Rattle.plan.specs.Columns.{Column, SrcGroup, signal_data}
use Rattle.plan.specs.Layout.{Placed}
use Rattle.plan.specs.Table.{built_in_for, treatment}
use Rattle.result.specs.Recording.{has_signal, reason_for, SignalDue}
use Rattle.result.specs.Result.{Args, Decided, answer}
use Rattle.result.specs.Guarantee.{In, here, there, column_at, columns_placed, TimeFor, MasterDue, NamesMaster, Kinded}
use Rattle.payload_laws.specs.CellLaws.{both_true}
use Rattle.plan_laws.specs.DecideLaws.{none≢some, some_same}
use Rattle.plan_laws.specs.Answers.{eq_cases, pick_cases}
use Rattle.guarantee.specs.Theorem.{AllBytes, guaranteed}
use Rattle.again_laws.specs.ChannelAgain.{treatment-none}
use Rattle.again_laws.specs.Origin.{placed_number, Names, Origin}

-- ---- numbers
pub number-column : (k : ℕ) (ps : List Placed) (p : Placed) → placed_number k ps ≡ some p → column_at k (columns_placed ps) ≡ some p.column
unfolding placed_number column_at columns_placed
number-column k [] p e = absurd (none≢some e)
number-column zero (q ∷ ps) p e = ap (λ (r : Placed). some r.column) (some_same e)
number-column (suc k) (q ∷ ps) p e = number-column k ps p e

record Numbered (k : ℕ) (ps : List Placed) (c : Column) : Type 0 where
  placed : Placed
  there : placed_number k ps ≡ some placed
  same : placed.column ≡ c

column-number : (k : ℕ) (ps : List Placed) (c : Column) → column_at k (columns_placed ps) ≡ some c → Numbered k ps c
unfolding placed_number column_at columns_placed
column-number k [] c e = absurd (none≢some e)
column-number zero (p ∷ ps) c e = record { placed = p; there = refl; same = some_same e }
column-number (suc k) (p ∷ ps) c e = let n = column-number k ps c e in record { placed = n.placed; there = n.there; same = n.same }

column_in_lem : (k : ℕ) (cs : List Column) (c : Column) → column_at k cs ≡ some c → In c cs
unfolding column_at
column_in_lem k [] c e = absurd (none≢some e)
column_in_lem zero (b ∷ cs) c e = subst (λ (x : Column). In c (x ∷ cs)) (sym (some_same e)) here
column_in_lem (suc k) (b ∷ cs) c e = there (column_in_lem k cs c e)

-- ---- kinds
true≢false : true ≡ false → ⊥
true≢false e = let z : ◌≡◌ {A = ℕ} 0 1 = cc in omega arith

-- a channel that nothing omits is of no type that is a master's, nor of type 4
pub record Unomitted (s : List ℕ) (c : ℕ) : Type 0 where
  pub no_master : is_master_type s c ≡ false
  pub type : channel_type s c ≡ 4 → ⊥

four_treated : (t : ℕ) → t ≡ 4 → treatment [] t ≡ 4
unfolding built_in_for
four_treated t e = treatment-none t ∙ sym (eq_yes _ _ _ _ e refl)

reason_none : (s : List ℕ) (g c : ℕ) → reason_for [] s g c ≡ 0 → Unomitted s c
unfolding reason_for
reason_none s g c e =
    eq_cases (treatment [] (channel_type s c)) 4 4 _ e (λ _ z. absurd (omega (arith, z))) (λ n4 e1.
    eq_cases (treatment [] (channel_type s c)) 8 8 _ e1 (λ _ z. absurd (omega (arith, z))) (λ _ e2.
    pick_cases (fits s g c) _ 2 e2 (λ _ e3.
    pick_cases (is_master_type s c) 3 _ e3 (λ _ z. absurd (omega (arith, z))) (λ no _.
    record { no_master = no; type = λ q. n4 (four_treated (channel_type s c) q) }))
    (λ _ z. absurd (omega (arith, z)))))

master_type : (s : List ℕ) (c : ℕ) → is_master_type s c ≡ true → channel_type s c ≡ 4 → ⊥
unfolding is_master_type
master_type s c e q = true≢false (sym e ∙ rw q)

-- ---- masters

-- a time column of as many records
record TimeAt (cs : List Column) (k n : ℕ) : Type 0 where
  column : Column
  there : column_at k cs ≡ some column
  timed : column.is_time_lem ≡ true
  as_many : column.group.records ≡ n

time_for : (s : List ℕ) (gs : List SrcGroup) (cs : List Column) (t : SrcGroup) (m n k : ℕ) (d : Column) → TimeFor s gs cs t m n k d → TimeAt cs k n
time_for s gs cs t m n k d (TimeFor.own h) = record { column = d; there = h.there; timed = h.timed; as_many = h.as_many }
time_for s gs cs t m n k d (TimeFor.another h q r e) =
    record { column = h.column; there = rw q at h.is_time_lem.there; timed = h.is_time_lem.timed; as_many = h.is_time_lem.as_many ∙ e }

master_named : (s : List ℕ) (gs : List SrcGroup) (cs : List Column) (c : Column) → MasterDue s gs cs c → (k : ℕ) → c.master ≡ some k
    → TimeAt cs k c.group.records
master_named s gs cs c h k e =
    let u = h.only k e in
    let n = h.names u.0 u.1 u.2 in
    let same : n.0 ≡ k = some_same (sym n.2 ∙ e) in
    subst (λ (i : ℕ). TimeAt cs i c.group.records) same (time_for s gs cs u.0 u.1 c.group.records n.0 n.1 n.3)

-- ---- a result
module _ (x : Args) (out list : List ℕ) (d : Decided) (bytes : AllBytes x.image) (e : answer x (length out) (length list) ≡ ok d) (built : x.table ≡ []) where
  abbrev s : List ℕ
  s = x.image

  abbrev ps : List Placed
  ps = d.laid_out.placed

  abbrev cs : List Column
  cs = d.planned.columns

  module _ (j : ℕ) (p : Placed) (at : placed_number j ps ≡ some p) where
    abbrev c : Column
    c = p.column

    column-at : column_at j cs ≡ some c
    column-at = subst (λ (l : List Column). column_at j l ≡ some c) (guaranteed x out list d bytes e).planned (number-column j ps p at)

    is_in_lem : In c cs
    is_in_lem = column_in_lem j cs c column-at

    kinded : (t : Bool) → c.is_time_lem ≡ t → Kinded [] s c t
    kinded t q =
        let k : Kinded x.table s c c.is_time_lem = (guaranteed x out list d bytes e).kinded c is_in_lem in
        subst (λ (l : List ℕ). Kinded l s c t) built (subst (Kinded x.table s c) q k)

    named : (t : Bool) → c.is_time_lem ≡ t → NamesMaster s d.groups cs c t
    named t q = subst (NamesMaster s d.groups cs c) q ((guaranteed x out list d bytes e).masters c is_in_lem)

    kind_is : (t : Bool) → c.is_time_lem ≡ t → is_master_type s c.channel ≡ t
    kind_is true q = (kinded true q).typed
    kind_is false q = (reason_none s c.group.at c.channel (kinded false q)).no_master

    type_is : (t : Bool) → c.is_time_lem ≡ t → channel_type s c.channel ≡ 4 → ⊥
    type_is true q = master_type s c.channel (kinded true q).typed
    type_is false q = (reason_none s c.group.at c.channel (kinded false q)).type

    names_for : (t : Bool) → c.is_time_lem ≡ t → (k : ℕ) → c.master ≡ some k → Names ps k p
    names_for true q k m = absurd (none≢some (sym (named true q) ∙ m))
    names_for false q k m =
        let t = master_named s d.groups cs c (named false q) k m in
        let n = column-number k ps t.column (subst (λ (l : List Column). column_at k l ≡ some t.column) (sym (guaranteed x out list d bytes e).planned) t.there) in
        record {
          master = n.placed;
          there = n.there;
          timed = ap (λ (b : Column). b.is_time_lem) n.same ∙ t.timed;
          as_many = ap (λ (b : Column). b.group.records) n.same ∙ t.as_many;
        }

    signal_typed : (fs : List Fragment) → c.signal_of ≡ signal_data fs → channel_type s c.channel ≡ 1
    unfolding has_signal
    signal_typed fs q =
        let h : SignalDue x.table s c.channel (signal_data fs) = subst (SignalDue x.table s c.channel) q ((guaranteed x out list d bytes e).signals c is_in_lem).0 in
        eqb-true _ _ (both_true (eqb (channel_type s c.channel) 1) _ h.0).0

    pub result_origin : Origin s ps j p
    result_origin =
        record {
          kind = kind_is c.is_time_lem refl;
          type = type_is c.is_time_lem refl;
          alone = λ q. named true q;
          named = names_for c.is_time_lem refl;
          earlier = λ k m. (guaranteed x out list d bytes e).named_before j k c column-at m;
          signal = signal_typed;
        }
