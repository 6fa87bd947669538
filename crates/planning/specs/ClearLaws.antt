-- Where the counts and the check of compared groups passed, compared groups can be compared.
use Rattle.std.specs.Prelude.{ℕ, zero, suc, ◌+◌, ◌≤◌, ◌<◌, List, [], ◌∷◌, Bool, true, false, ◌≡◌, refl, eqb, length, get_or}
use Rattle.std.proofs.Math.Option.{some}
use Rattle.std.proofs.Common.{sym, ◌∙◌, arith, eq-eqb, length-take, length-drop}
use Rattle.base.specs.Choice.{pick}
use Rattle.base.specs.Blit.{part}
use Rattle.base.specs.Checked.{ok, fine}
use Rattle.mdf.specs.Chain.{Fragment}
use Rattle.mdf.specs.Walk.{Item, dg, cg, cn}
use Rattle.mdf.specs.Group.{DataGroup, addresses, samples, inval_bytes, data_groups_of}
use Rattle.mdf.specs.Count.{counts}
use Rattle.plan.specs.Channel.{both, width}
use Rattle.plan.specs.Columns.{SrcGroup, src_groups, master_of}
use Rattle.plan.specs.Data.{records_in}
use Rattle.result.specs.Member.{In, here, there}
use Rattle.result.specs.Payload.{records_of}
use Rattle.result.specs.Sharing.{streams_in, is_compared, any_compared, compared_in}
use Rattle.result.specs.SharingLaws.{stream_sorted}
use Rattle.payload_laws.specs.Answers.{then_fine, under}
use Rattle.payload_laws.specs.BoundLaws.{fragments_small}
use Rattle.payload_laws.specs.CellLaws.{width-within}
use Rattle.payload_laws.specs.CountLaws.{Member, member, Read, checked_group}
use Rattle.plan_laws.specs.Lists.{in_none, occurs, occurs_in}
use Rattle.plan_laws.specs.GroupLaws.{all_addresses}
use Rattle.plan_laws.specs.SourceLaws.{own_addresses, own-within}
use Rattle.plan_laws.specs.DecideLaws.{HasMaster, master_known}
use Rattle.planning.specs.Clear.{AllClear}
use Rattle.planning.specs.Tabled.{Nonzero}

-- no master is at address 0
pub masters_nonzero : (s : List ℕ) (gs : List SrcGroup) → occurs 0 (all_addresses gs) ≡ 0 → Nonzero s gs
masters_nonzero s gs h g i m e z =
    let j : In m g.channels = (master_known s g m e).master.is_in in
    omega (arith, h, occurs_in 0 (own_addresses g) (there (rw z at j)), own-within 0 gs i)

-- no DG has more fragments than all
pub fragments_few : (fs : List Fragment) (is : List Item) (d : DataGroup) → In d (data_groups_of fs is) → length d.fragments ≤ length fs
unfolding data_groups_of part
fragments_few fs [] d i = absurd (in_none i)
fragments_few fs (dg a n ∷ is) d here = simp (length-take, length-drop) (omega arith)
fragments_few fs (dg a n ∷ is) d (there i) = fragments_few fs is d i
fragments_few fs (cg a ∷ is) d i = fragments_few fs is d i
fragments_few fs (cn a ∷ is) d i = fragments_few fs is d i

-- ---- the DG of a compared group is checked
any_in : (s : List ℕ) (all gs : List SrcGroup) (g : SrcGroup) → In g gs → is_compared s all g ≡ true → any_compared s all g.data_group.at gs ≡ true
unfolding any_compared
any_in s all [] g x'' e = elim x'' [ ]
any_in s all (h ∷ gs) g here e = rw (eq-eqb g.data_group.at g.data_group.at refl, e)
any_in s all (h ∷ gs) g (there i) e = rw (any_in s all gs g i e) (go (both (eqb h.data_group.at g.data_group.at) (is_compared s all h)))
  where
    go : (t : Bool) → pick t true true ≡ true
    go true = refl
    go false = refl

stream_checked : (s : List ℕ) (all : List SrcGroup) (ds : List DataGroup) (d : DataGroup) → compared_in s all ds ≡ fine → In d ds
    → any_compared s all d.at all ≡ true → streams_in s d.at (addresses d.groups) d.fragments ≡ fine
unfolding compared_in
stream_checked s all [] d e x3 q = elim x3 [ ]
stream_checked s all (b ∷ ds) d e here q =
    let read = streams_in s d.at (addresses d.groups) d.fragments in
    under (any_compared s all d.at all) read (then_fine (pick (any_compared s all d.at all) read fine) (λ _. compared_in s all ds) e).0 q
stream_checked s all (b ∷ ds) d e (there i) q =
    let read = streams_in s b.at (addresses b.groups) b.fragments in
    stream_checked s all ds d (then_fine (pick (any_compared s all b.at all) read fine) (λ _. compared_in s all ds) e).1 i q

-- as for a nonempty column, where a record has samples or invalidation bytes
records_checked : (s : List ℕ) (d k a : ℕ) (gs : List ℕ) (fs : List Fragment) → k < length gs → get_or gs k 0 ≡ a → 0 < samples s a + inval_bytes s a
    → streams_in s d gs fs ≡ fine → records_in s d gs fs ≡ fine
records_checked s d k a [] fs l e h q = absurd (omega arith)
records_checked s d zero a (g ∷ []) fs l e h q = sym (stream_sorted s d g fs (rw e h)) ∙ q
records_checked s d (suc k) a (g ∷ []) fs l e h q = absurd (omega arith)
records_checked s d k a (g ∷ g' ∷ gs) fs l e h q = q

module _ (s : List ℕ) (ds : List DataGroup) (ns : List ℕ) (counted : counts s ds ≡ ok ns) (passed : compared_in s (src_groups ds ns) ds ≡ fine)
    (short : length s ≤ 4294967296) (few : (d : DataGroup) → In d ds → length d.fragments ≤ 1024) where
  module _ (g : SrcGroup) (i : In g (src_groups ds ns)) (c : is_compared s (src_groups ds ns) g ≡ true) (m : ℕ) (e : master_of s g ≡ some m) where
    here_member : Member s ds g
    here_member = member s ds counted g i

    has : HasMaster s g m
    has = master_known s g m e

    data_passed : streams_in s g.data_group.at (addresses g.data_group.groups) g.data_group.fragments ≡ fine
    data_passed = stream_checked s (src_groups ds ns) ds g.data_group passed here_member.listed (any_in s (src_groups ds ns) (src_groups ds ns) g i c)

    data_checked : 0 < width s g.at m → records_in s g.data_group.at (addresses g.data_group.groups) g.data_group.fragments ≡ fine
    data_checked h =
        let p = here_member in
        let w = width-within s g.at m has.master.fitting in
        records_checked s g.data_group.at g.number g.at (addresses g.data_group.groups) g.data_group.fragments p.within p.address (omega arith)
        data_passed

    data_read : 0 < width s g.at m → Read s g.at g.records g.data_group.fragments (records_of s g)
    data_read h = checked_group g here_member (data_checked h)

  pub all-clear : AllClear s (src_groups ds ns)
  all-clear g i c m e =
      let p = here_member g i c m e in
      let h = has g i c m e in
      record {
        within = p.within;
        address = p.address;
        plain = h.stored;
        fitting = h.master.fitting;
        checked = λ w. data_passed g i c m e;
        small = λ w. omega (arith, fragments_small s g.data_group.fragments (data_read g i c m e w).ranges short (few g.data_group p.listed));
        counted = λ w. (data_read g i c m e w).many;
      }
