-- Planning a result again gives the columns that it was made of, in their order, with the same masters, and no omission; or refuses with 9 or 19.
use Rattle.std.specs.Prelude.{ℕ, ◌+◌, Bool, true, false, ◌≡◌, length}
use mathlib.Core.List.{List, [], ◌∷◌, ◌++◌, append-nil, append_assoc}
use Rattle.std.proofs.Math.Option.{Option, none, some}
use Rattle.std.proofs.Math.Path.{refl, sym, ap}
use Rattle.std.proofs.Common.{subst, ◌∙◌, arith}
use Rattle.base.specs.ChoiceLaws.{eq_yes, eq_no}
use Rattle.base.specs.Checked.{Checked, ok, and_then, fine}
use Rattle.mdf.specs.Group.{is_storage}
use Rattle.plan.specs.Channel.{fits, is_master_type}
use Rattle.plan.specs.Columns.{SrcGroup, first_master, master_of, remote_link, group_at, time, untimed, stand_in, standing, remote_time, time_of, Signal, no_signal, signal_data, Column, Plan, with_column, time_column, time_on, with_time, new_time_in, Decision, kept, decide, with_decision, plan_channels, own_master, plan_group, plan_groups, plan}
use Rattle.plan.specs.Layout.{Placed, cg_of, cn_of}
use Rattle.plan.specs.Photos.{photos_of, photos_in}
use Rattle.plan.specs.Rules.{Rules}
use Rattle.result.specs.Due.{due_master}
use Rattle.again_laws.specs.Gives.{Gives, gives, gives_then}
use Rattle.again_laws.specs.Limited.{closer}
use Rattle.again_laws.specs.Held.{Fields, Held}
use Rattle.again_laws.proofs.HeldLaws.{fields}
use Rattle.again_laws.specs.ChannelAgain.{master_again, fits-again, storage_again}
use Rattle.again_laws.proofs.DataAgain.{group_again, groups_again}
use Rattle.again_laws.proofs.DecideAgain.{signal_again, decide-again}
use Rattle.again_laws.specs.Origin.{placed_number, Origin}
use Rattle.again_laws.proofs.OrderAgain.{column_again, columns_again, again-append, Ascending, ascending_front, cg_before, group-none, group-found, number-cg, time_none, time_found, number-here, number-front}

-- a time column's channel has no signal data
time_silent : (s : List ℕ) (all : List Placed) (j : ℕ) (p : Placed) → Origin s all j p → p.column.is_time_lem ≡ true → signal_again s p.column.signal_of p.sd ≡ no_signal
unfolding is_master_type
time_silent s all j p k t = go p.column.signal_of refl
  where
    true≢false : true ≡ false → ⊥
    true≢false e = let z : ◌≡◌ {A = ℕ} 0 1 = cc in omega arith

    go : (g : Signal) → p.column.signal_of ≡ g → signal_again s g p.sd ≡ no_signal
    go no_signal q = refl
    go (signal_data fs) q =
        let one = k.signal fs q in
        let no : is_master_type s p.column.channel ≡ false = rw one in
        absurd (true≢false (sym t ∙ sym k.kind ∙ no))

-- what a plan has past the plan p: one column more
pub record OneMore (c : Column) (p q : Plan) : Type 0 where
  pub columns : q.columns ≡ p.columns ++ (c ∷ [])
  pub omissions : q.omissions ≡ p.omissions

-- the plan of all columns again, with an empty omission list
pub record PlannedAgain (photos : Bool) (f s : List ℕ) (size : ℕ) (ps : List Placed) (q : Plan) : Type 0 where
  pub columns : q.columns ≡ columns_again photos f s size ps
  pub omissions : q.omissions ≡ []

-- the second call: its choices, with built-in types and sharing off; what f holds of all columns
module _ (f : List ℕ) (o : Rules) (s : List ℕ) (size : ℕ) (all : List Placed) (built : o.table ≡ []) (o2 : Rules) (built2 : o2.table ≡ []) (bys : List ℕ)
    (unshared : (a : ℕ) → stand_in a (groups_again s size all) bys ≡ 0)
    (held : (j : ℕ) (p : Placed) → placed_number j all ≡ some p → Held f o s size all p)
    (origin : (j : ℕ) (p : Placed) → placed_number j all ≡ some p → Origin s all j p)
    (referred : (j : ℕ) (p : Placed) → placed_number j all ≡ some p → photos_in o2.photos f (cn_of p) ≡ fine)
    (ascending : Ascending 0 all) where
  abbrev gs : List SrcGroup
  gs = groups_again s size all

  abbrev again : Placed → Column
  again p = column_again o2.photos f s size p

  -- ---- masters
  module _ (j : ℕ) (p : Placed) (at : placed_number j all ≡ some p) where
    has : Fields f o s all p
    has = fields f o s size all p (held j p at).shown

    storage : is_storage f (cg_of p) ≡ false
    storage = storage_again f o s all p has built

    fitting : fits f (cg_of p) (cn_of p) ≡ true
    fitting = fits-again f o s all p has built (held j p at).ready.fit

    kind : is_master_type f (cn_of p) ≡ p.column.is_time_lem
    kind = master_again f o s all p has built ∙ (origin j p at).kind

    master_some : p.column.is_time_lem ≡ true → master_of f (group_again s size p) ≡ some (cn_of p)
    unfolding master_of first_master group_again
    master_some t = rw (storage, kind, t, fitting)

    master_none : p.column.is_time_lem ≡ false → master_of f (group_again s size p) ≡ none
    unfolding master_of first_master group_again
    master_none t = rw (storage, kind, t)

    stands_itself : (m : ℕ) → standing f gs bys (group_again s size p) m ≡ time (group_again s size p) m
    unfolding standing
    stands_itself m = sym (eq_yes _ _ _ _ (unshared _) refl)

    -- its own
    time_own : p.column.is_time_lem ≡ true → time_of f gs bys (group_again s size p) ≡ time (group_again s size p) (cn_of p)
    unfolding time_of
    time_own t = rw (master_some t) (stands_itself (cn_of p))

    -- none
    time_without : p.column.is_time_lem ≡ false → p.column.master ≡ none → time_of f gs bys (group_again s size p) ≡ untimed
    unfolding time_of remote_time group_again
    time_without t m =
        let e : remote_link f (cg_of p) ≡ 0 = has.remote ∙ ap (due_master all) m in
        let z : group_at 0 gs ≡ none = group-none s size all in
        rw (master_none t, e, z)

  -- that of its remote group
  time_remote : (j : ℕ) (p : Placed) (at : placed_number j all ≡ some p) (k : ℕ) (q : Placed) → p.column.is_time_lem ≡ false → p.column.master ≡ some k
      → placed_number k all ≡ some q → q.column.is_time_lem ≡ true → q.column.group.records ≡ p.column.group.records
      → time_of f gs bys (group_again s size p) ≡ time (group_again s size q) (cn_of q)
  unfolding time_of remote_time group_again
  time_remote j p at k q t m there' timed many =
      let e : remote_link f (cg_of p) ≡ cg_of q = (has j p at).remote ∙ ap (due_master all) m ∙ number-cg k all q there' in
      let g : group_at (cg_of q) gs ≡ some (group_again s size q) = group-found s size 0 k all q ascending there' in
      rw (master_none j p at t, e, g, master_some k q there' timed) (sym (eq_yes _ _ _ _ many (sym (stands_itself k q there' (cn_of q)))))

  -- ---- channels
  channels_own : (g : SrcGroup) (c : ℕ) (m : Option ℕ) (p : Plan) → plan_channels o2 f g c m (c ∷ []) p ≡ ok p
  unfolding plan_channels
  channels_own g c m p = sym (eq_yes _ _ _ _ refl refl)

  -- what is planned is the column again
  signal_column : (p : Placed) (m : Option ℕ) → p.column.is_time_lem ≡ false → p.column.master ≡ m
      → record {
        group = group_again s size p;
        channel = cn_of p;
        is_time_lem = false;
        master = m;
        signal_of = signal_again s p.column.signal_of p.sd;
        photos = photos_of o2.photos f (cn_of p);
      } ≡ again p
  unfolding column_again
  signal_column p m t e = rw (← e, t)

  time_of-column : (j : ℕ) (p : Placed) (at : placed_number j all ≡ some p) → p.column.is_time_lem ≡ true
      → time_on o2.photos f (group_again s size p) (cn_of p) ≡ again p
  unfolding column_again
  time_of-column j p at t = rw (time_silent s all j p (origin j p at) t, (origin j p at).alone t, t)

  kept_more : (j : ℕ) (p : Placed) (at : placed_number j all ≡ some p) (m : Option ℕ) (r : Plan) → p.column.is_time_lem ≡ false → p.column.master ≡ m
      → (x : Decision) → x ≡ kept (signal_again s p.column.signal_of p.sd)
      → Gives closer (OneMore (again p) r)
      (plan_channels o2 f (group_again s size p) 0 m [] (with_decision (group_again s size p) m (cn_of p) (photos_of o2.photos f (cn_of p)) r x))
  unfolding plan_channels
  kept_more j p at m r t e x q =
      rw q (gives (record { columns = ap (λ (c : Column). r.columns ++ (c ∷ [])) (signal_column p m t e); omissions = refl }))

  channels_kept : (j : ℕ) (p : Placed) (at : placed_number j all ≡ some p) (m : Option ℕ) (r : Plan) → p.column.is_time_lem ≡ false → p.column.master ≡ m
      → Gives closer (OneMore (again p) r) (plan_channels o2 f (group_again s size p) 0 m (cn_of p ∷ []) r)
  unfolding plan_channels column_again group_again
  channels_kept j p at m r t e =
      let d = decide-again f o s size all p (held j p at) built j (origin j p at) o2.photos r.fragments t (referred j p at) in
      let l = cg_before p in
      let v : Checked Plan = and_then (decide o2.photos o2.table f r.fragments (cg_of p) (cn_of p))
      (λ x. plan_channels o2 f (group_again s size p) 0 m [] (with_decision (group_again s size p) m (cn_of p) (photos_of o2.photos f (cn_of p)) r x)) in
      let w : plan_channels o2 f (group_again s size p) 0 m (cn_of p ∷ []) r ≡ v = sym (eq_no _ _ _ _ (λ q. omega arith) refl) in
      let d2 : Gives closer (λ (x : Decision). x ≡ kept (signal_again s p.column.signal_of p.sd))
      (decide o2.photos o2.table f r.fragments (cg_of p) (cn_of p)) = rw built2 d in
      rw w (gives_then _ d2 (λ x q. kept_more j p at m r t e x q))

  -- ---- groups
  -- of a time column
  plan_time : (j : ℕ) (p : Placed) (at : placed_number j all ≡ some p) (r : Plan) → p.column.is_time_lem ≡ true → time_column (cg_of p) 0 r.columns ≡ none
      → Gives closer (OneMore (again p) r) (plan_group o2 f gs bys (group_again s size p) r)
  unfolding plan_group new_time_in with_time group_again
  plan_time j p at r t n =
      let g : SrcGroup = group_again s size p in
      let q : Plan = with_column (time_on o2.photos f g (cn_of p)) 0 r in
      let e : plan_group o2 f gs bys g r ≡ ok q =
      rw (storage j p at, time_own j p at t, n, referred j p at, master_some j p at t) (channels_own g (cn_of p) _ q) in
      rw e (gives (record { columns = ap (λ (c : Column). r.columns ++ (c ∷ [])) (time_of-column j p at t); omissions = refl }))

  -- of a signal column without master
  plan-without : (j : ℕ) (p : Placed) (at : placed_number j all ≡ some p) (r : Plan) → p.column.is_time_lem ≡ false → p.column.master ≡ none
      → Gives closer (OneMore (again p) r) (plan_group o2 f gs bys (group_again s size p) r)
  unfolding plan_group group_again
  plan-without j p at r t m =
      rw (storage j p at, time_without j p at t m, master_none j p at t) (channels_kept j p at none r t m)

  -- of one with a master, whose time column was planned before
  plan_with : (j : ℕ) (p : Placed) (at : placed_number j all ≡ some p) (k : ℕ) (q : Placed) (r : Plan) → p.column.is_time_lem ≡ false → p.column.master ≡ some k
      → placed_number k all ≡ some q → q.column.is_time_lem ≡ true → q.column.group.records ≡ p.column.group.records
      → time_column (cg_of q) 0 r.columns ≡ some k
      → Gives closer (OneMore (again p) r) (plan_group o2 f gs bys (group_again s size p) r)
  unfolding plan_group new_time_in with_time group_again
  plan_with j p at k q r t m there' timed many n =
      rw (storage j p at, time_remote j p at k q t m there' timed many, n, master_none j p at t, n) (channels_kept j p at (some k) r t m)

  -- ---- all groups
  -- a column more
  plan-one : (done rest : List Placed) (p : Placed) (r : Plan) → all ≡ done ++ (p ∷ rest) → r.columns ≡ columns_again o2.photos f s size done
      → Gives closer (OneMore (again p) r) (plan_group o2 f gs bys (group_again s size p) r)
  plan-one done rest p r e h = go p.column.is_time_lem refl p.column.master refl
    where
      at : placed_number (length done) all ≡ some p
      at = subst (λ (l : List Placed). placed_number (length done) l ≡ some p) (sym e) (number-here done rest p)

      split : Ascending 0 (done ++ (p ∷ rest))
      split = subst (Ascending 0) e ascending

      go : (t : Bool) → p.column.is_time_lem ≡ t → (m : Option ℕ) → p.column.master ≡ m → Gives closer (OneMore (again p) r) (plan_group o2 f gs bys (group_again s size p) r)
      go true t m q = plan_time (length done) p at r t (ap (time_column (cg_of p) 0) h ∙ time_none o2.photos f s size 0 0 done rest p split)
      go false t none q = plan-without (length done) p at r t q
      go false t (some k) q =
          let n = (origin (length done) p at).named k q in
          let l = (origin (length done) p at).earlier k q in
          let b : placed_number k done ≡ some n.master =
          number-front k done (p ∷ rest) n.master (subst (λ (x : List Placed). placed_number k x ≡ some n.master) e n.there) l in
          let z : 0 + k ≡ k = omega arith in
          plan_with (length done) p at k n.master r t q n.there n.timed n.as_many
          (ap (time_column (cg_of n.master) 0) h ∙ time_found o2.photos f s size 0 0 k done n.master (ascending_front 0 done (p ∷ rest) split) b n.timed ∙ ap some z)

  one_last : (done : List Placed) (p : Placed) → columns_again o2.photos f s size done ++ (again p ∷ []) ≡ columns_again o2.photos f s size (done ++ (p ∷ []))
  unfolding columns_again
  one_last done p = sym (again-append o2.photos f s size done (p ∷ []))

  plan-from : (rest done : List Placed) (r : Plan) → all ≡ done ++ rest → r.columns ≡ columns_again o2.photos f s size done → r.omissions ≡ []
      → Gives closer (PlannedAgain o2.photos f s size all) (plan_groups o2 f gs bys (groups_again s size rest) r)
  unfolding plan_groups groups_again
  plan-from [] done r e h n = gives (record { columns = h ∙ ap (columns_again o2.photos f s size) (sym (append-nil done) ∙ sym e); omissions = n })
  plan-from (p ∷ rest) done r e h n =
      gives_then (λ q. plan_groups o2 f gs bys (groups_again s size rest) q) (plan-one done rest p r e h) (λ q k.
      plan-from rest (done ++ (p ∷ [])) q (e ∙ sym (append_assoc done (p ∷ []) rest)) (more done p r q h k) (k.omissions ∙ n))
    where
      more : (done : List Placed) (p : Placed) (r q : Plan) → r.columns ≡ columns_again o2.photos f s size done → OneMore (again p) r q
          → q.columns ≡ columns_again o2.photos f s size (done ++ (p ∷ []))
      more done p r q h k = k.columns ∙ ap (λ (l : List Column). l ++ (again p ∷ [])) h ∙ one_last done p

  -- planning again, n fragments found in the walk
  pub plan-again : (n : ℕ) → Gives closer (PlannedAgain o2.photos f s size all) (plan o2 f n gs bys)
  unfolding plan columns_again
  plan-again n = plan-from all [] (record { columns = []; omissions = []; fragments = n }) refl refl refl
