-- The data stage passed: the records of every DG with a nonempty column, and every column's signal data ranges.
use Rattle.std.specs.Prelude.{[], ℕ, List, ◌∷◌, ◌≡◌, refl, Bool, true, false, eqb}
use Rattle.std.proofs.Common.{◌∙◌, eq-eqb}
use Rattle.base.specs.Choice.{pick, if_eq}
use Rattle.base.specs.ChoiceLaws.{eq_yes}
use Rattle.base.specs.Checked.{fine}
use Rattle.mdf.specs.Group.{DataGroup, addresses}
use Rattle.plan.specs.Channel.{both}
use Rattle.plan.specs.Columns.{Column}
use Rattle.plan.specs.Data.{is_nonempty, any_nonempty, records_in, signal_in, signals_in, data_in, all_data_in}
use Rattle.result.specs.Guarantee.{In, here, there}
use Rattle.plan_laws.specs.Answers.{then_fine}

-- of each DG
pub data_fine_lem : (s : List ℕ) (cs : List Column) (ds : List DataGroup) → all_data_in s cs ds ≡ fine → (d : DataGroup) → In d ds → data_in s cs d ≡ fine
unfolding all_data_in
data_fine_lem s cs [] e k x'' = elim x'' [ ]
data_fine_lem s cs (d ∷ ds) e k here = (then_fine (data_in s cs d) _ e).0
data_fine_lem s cs (d ∷ ds) e k (there i) = data_fine_lem s cs ds (then_fine (data_in s cs d) _ e).1 k i

any_nonempty_lem : (s : List ℕ) (d : ℕ) (cs : List Column) (c : Column) → In c cs → c.group.data_group.at ≡ d → is_nonempty s c ≡ true
    → any_nonempty s d cs ≡ true
unfolding any_nonempty
any_nonempty_lem s d [] c x3 e n = elim x3 [ ]
any_nonempty_lem s d (k ∷ cs) c here e n = rw (eq-eqb k.group.data_group.at d e, n)
any_nonempty_lem s d (k ∷ cs) c (there i) e n = rw (any_nonempty_lem s d cs c i e n) (go (both (eqb k.group.data_group.at d) (is_nonempty s k)))
  where
    go : (t : Bool) → pick t true true ≡ true
    go true = refl
    go false = refl

-- the records of a DG with a nonempty column were read
pub records_fine_lem : (s : List ℕ) (cs : List Column) (d : DataGroup) → data_in s cs d ≡ fine → (c : Column) → In c cs
    → c.group.data_group.at ≡ d.at → is_nonempty s c ≡ true → records_in s d.at (addresses d.groups) d.fragments ≡ fine
unfolding data_in
records_fine_lem s cs d e c i q n =
    let a = (then_fine (pick (any_nonempty s d.at cs) (records_in s d.at (addresses d.groups) d.fragments) fine) _ e).0 in
    rw (any_nonempty_lem s d.at cs c i q n) at a

signals_fine : (s : List ℕ) (d : ℕ) (cs : List Column) → signals_in s d cs ≡ fine → (c : Column) → In c cs → c.group.data_group.at ≡ d
    → signal_in s c.signal_of ≡ fine
unfolding signals_in
signals_fine s d [] e c x3 q = elim x3 [ ]
signals_fine s d (k ∷ cs) e c here q =
    eq_yes k.group.data_group.at d (signal_in s k.signal_of) fine q refl
    ∙ (then_fine (if_eq k.group.data_group.at d (signal_in s k.signal_of) fine) _ e).0
signals_fine s d (k ∷ cs) e c (there i) q =
    signals_fine s d cs (then_fine (if_eq k.group.data_group.at d (signal_in s k.signal_of) fine) _ e).1 c i q

-- the signal data of a column lies in the image
pub signal_fine_lem : (s : List ℕ) (cs : List Column) (d : DataGroup) → data_in s cs d ≡ fine → (c : Column) → In c cs
    → c.group.data_group.at ≡ d.at → signal_in s c.signal_of ≡ fine
unfolding data_in
signal_fine_lem s cs d e c i q =
    let r = (then_fine (pick (any_nonempty s d.at cs) (records_in s d.at (addresses d.groups) d.fragments) fine) _ e).1 in
    signals_fine s d.at cs r c i q
