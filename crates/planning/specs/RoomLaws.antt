-- There is room for the columns: before planning no more are reserved than there are channels.
use Rattle.std.specs.Prelude.{ℕ, ◌+◌, ◌≤◌, List, [], ◌∷◌, Bool, true, false, ◌≡◌, refl, length, eqb}
use Rattle.std.proofs.Math.Option.{Option, none, some}
use Rattle.std.proofs.Common.{arith, length-append}
use Rattle.base.specs.Choice.{pick, if_eq}
use Rattle.base.specs.ChoiceLaws.{eq_yes}
use Rattle.plan.specs.Columns.{SrcGroup, master_of, own_master, time_column}
use Rattle.result.specs.Guarantee.{In, here, there}
use Rattle.plan_laws.specs.GroupLaws.{all_channels}
use Rattle.plan_laws.specs.DecideLaws.{master_known}
use Rattle.planning.specs.Planning.{others}
use Rattle.planning.specs.Timing.{lack, waiting}
use Rattle.planning.specs.Planned.{others_of, others_in}
use Rattle.planning.specs.Bare.{bares}

pick-few : (t : Bool) → pick t 0 1 ≤ 1
pick-few true = omega arith
pick-few false = omega arith

others-few : (own : ℕ) (cs : List ℕ) → others own cs ≤ length cs
unfolding others if_eq
others-few own [] = omega arith
others-few own (c ∷ cs) =
    let a = pick-few (eqb c own) in
    let b = others-few own cs in
    omega arith

one : (c own : ℕ) → if_eq c own 0 1 ≤ 1
unfolding if_eq
one c own = pick-few (eqb c own)

others_in_lem : (own : ℕ) (cs : List ℕ) → In own cs → others own cs + 1 ≤ length cs
unfolding others
others_in_lem own [] x' = elim x' [ ]
others_in_lem own (c ∷ cs) here =
    let e : ◌≡◌ {A = ℕ} 0 (if_eq c c 0 1) = eq_yes _ _ _ _ refl refl in
    let b = others-few c cs in
    omega arith
others_in_lem own (c ∷ cs) (there i) =
    let a = one c own in
    let b = others_in_lem own cs i in
    omega arith

group-room : (s : List ℕ) (g : SrcGroup) (t : Option ℕ) → lack (master_of s g) t + others_of s g ≤ length g.channels
group-room s g t = go (master_of s g) refl
  where
    few : (m : ℕ) (t : Option ℕ) → lack (some m) t ≤ 1
    few m none = omega arith
    few m (some k) = omega arith

    go : (o : Option ℕ) → master_of s g ≡ o → lack o t + others (own_master o) g.channels ≤ length g.channels
    go none q = let a = others-few 0 g.channels in omega arith
    go (some m) q =
        let a = others_in_lem m g.channels (master_known s g m q).master.is_in in
        let b = few m t in
        omega arith

pub all_room : (s : List ℕ) (gs : List SrcGroup) → waiting s [] gs + others_in s gs ≤ length (all_channels gs)
unfolding waiting others_in all_channels
all_room s [] = omega arith
all_room s (g ∷ gs) =
    let a = group-room s g (time_column g.at 0 []) in
    let b = all_room s gs in
    rw length-append (omega arith)

pub channels_bare : (gs : List SrcGroup) → all_channels (bares gs) ≡ all_channels gs
unfolding all_channels bares
channels_bare [] = refl
channels_bare (g ∷ gs) = rw (channels_bare gs)
