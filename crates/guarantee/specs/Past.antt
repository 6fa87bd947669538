-- The result's history: the copies of the recording's, then the new FH with the lent text and time.
use Rattle.std.specs.Prelude.{ℕ, ◌+◌, ◌*◌, ◌^◌, ◌<◌, Bool, true, false, ◌≡◌, eqb, length, get_or}
use mathlib.Core.List.{List, [], ◌∷◌, ◌++◌, append_assoc}
use Rattle.std.proofs.lemmas.Bool.{false≢true}
use Rattle.std.proofs.Math.Option.{some}
use Rattle.std.proofs.Math.Path.{refl, sym, subst}
use Rattle.std.proofs.Common.{◌∙◌, arith, lit<, length-append, eq-eqb}
use Rattle.base.specs.Choice.{pick, if_eq}
use Rattle.base.specs.Field.{le}
use Rattle.base.specs.FieldLaws.{length-le}
use Rattle.mdf.specs.Block.{kind_md, kind_at, links_at, link_at}
use Rattle.mdf.specs.Chain.{is_in}
use Rattle.plan.specs.Copies.{kind_fh, Copy, copy_of}
use Rattle.plan.specs.Layout.{Layout, md_size}
use Rattle.result.specs.Fill.{header, new_link, history_link, first_new, md_bytes, fh_bytes}
use Rattle.result.specs.Links.{head_at}
use Rattle.result.specs.Names.{LinkDue, HistoryDue, NewHistory}
use Rattle.result.specs.Result.{Args, first_fh}
use Rattle.result.specs.Guarantee.{Stands, In, here, there}
use Rattle.copies_laws.specs.MemoLaws.{kind-copied, Fresh, Past}
use Rattle.shown_laws.specs.Standing.{stands_front, stands_at, read}
use Rattle.shown_laws.specs.Header.{length-header, header-kind, header-size, header_links_lem}
use Rattle.guarantee.specs.Named.{CopyStands, new_small, same_block, copy-first, link-due}

-- a block of the chain leads to the next, the last to the new FH
history-at : (pre suf : List ℕ) (b : ℕ) (memo : List Copy) (fh : ℕ) → is_in b pre ≡ false
    → history_link b (pre ++ (b ∷ suf)) memo fh ≡ some (first_fh memo suf fh)
unfolding is_in history_link if_eq
history-at [] [] b memo fh e = rw (eq-eqb b b refl)
history-at [] (c ∷ suf) b memo fh e = rw (eq-eqb b b refl)
history-at (p ∷ []) suf b memo fh e = go (eqb p b) (history-at [] suf b memo fh refl) e
  where
    go : (t : Bool) → history_link b (b ∷ suf) memo fh ≡ some (first_fh memo suf fh) → pick t true false ≡ false
        → pick t (some (new_link memo b)) (history_link b (b ∷ suf) memo fh) ≡ some (first_fh memo suf fh)
    go true h q = absurd (false≢true (sym q))
    go false h q = h
history-at (p ∷ q ∷ pre) suf b memo fh e = go (eqb p b) (λ r. history-at (q ∷ pre) suf b memo fh r) e
  where
    go : (t : Bool) → (is_in b (q ∷ pre) ≡ false → history_link b (q ∷ (pre ++ (b ∷ suf))) memo fh ≡ some (first_fh memo suf fh))
        → pick t true (is_in b (q ∷ pre)) ≡ false
        → pick t (some (new_link memo q)) (history_link b (q ∷ (pre ++ (b ∷ suf))) memo fh) ≡ some (first_fh memo suf fh)
    go true h r = absurd (false≢true (sym r))
    go false h r = h r

module _ (s f : List ℕ) (bytes : (i : ℕ) → get_or s i 0 < 256) (chain : List ℕ) (memo : List Copy) (fh : ℕ)
    (all : (c : Copy) → In c memo → CopyStands s f chain memo fh c) (small : fh < 256 ^ 8) where
  pub first_small : (suf : List ℕ) → first_fh memo suf fh < 256 ^ 8
  first_small [] = small
  first_small (a ∷ suf) = new_small s f bytes chain memo fh all a

  history-next : (b t x : ℕ) → copy_of b memo ≡ some t → history_link b chain memo fh ≡ some x → x < 256 ^ 8 → 0 < links_at s b → link_at f t 0 ≡ x
  history-next b t x e h small' l =
      let first : first_new s memo b (history_link b chain memo fh) ≡ x = rw h in
      copy-first s f bytes chain memo fh all b t e l (rw first small') ∙ first

  pub history-due : (pre suf : List ℕ) → chain ≡ pre ++ suf → Fresh pre suf → ((b : ℕ) → In b suf → Past s memo b)
      → HistoryDue s f chain fh suf (first_fh memo suf fh)
  unfolding HistoryDue Fresh new_link
  history-due pre [] e d each = refl
  history-due pre (b ∷ suf) e d each =
      let p : Past s memo b = each b here in
      let found = p.followed p.leads.nonzero (kind-copied (kind_at s b) p.leads.kind) in
      let hist : history_link b chain memo fh ≡ some (first_fh memo suf fh) = rw e (history-at pre suf b memo fh d.0) in
      let next : link_at f found.0 0 ≡ first_fh memo suf fh =
      history-next b found.0 (first_fh memo suf fh) found.1 hist (first_small suf) p.linked in
      let more : HistoryDue s f chain fh suf (first_fh memo suf fh) =
      history-due (pre ++ (b ∷ [])) suf (e ∙ sym (append_assoc pre (b ∷ []) suf)) d.1 (λ c i. each c (there i)) in
      let deep : (k : ℕ) → LinkDue k s f chain b found.0 =
      λ k. subst (LinkDue k s f chain b) (led found.0 found.1) (link-due s f bytes chain memo fh all k b p.followed) in
      rw found.1 (same_block s f bytes chain memo fh all b found.0 found.1, deep, rw next more)
    where
      led : (t : ℕ) → copy_of b memo ≡ some t → new_link memo b ≡ t
      led t e = rw e

-- ---- the new FH and its MD
module _ (x : Args) (l : Layout) (f : List ℕ) (small : l.md < 256 ^ 8) (md : Stands f l.md (md_bytes x.text))
    (fh : Stands f l.fh (fh_bytes l.md x.time)) where
  to_time : Stands f l.fh (header kind_fh 56 2 ++ le 8 0 ++ le 8 l.md ++ le 8 x.time)
  unfolding fh_bytes
  to_time = stands_front _ _ fh

  top : Stands f l.fh (header kind_fh 56 2)
  top = stands_front _ _ (stands_front _ _ (stands_front _ _ to_time))

  fh_next : link_at f l.fh 0 ≡ 0
  unfolding link_at
  fh_next =
      read 8 0 (stands_at {b = l.fh + 24 + 8 * 0} (header kind_fh 56 2) (le 8 0) (stands_front _ _ (stands_front _ _ to_time))
      (simp length-header (omega arith))) (lit< tt)

  fh_md : link_at f l.fh 1 ≡ l.md
  unfolding link_at
  fh_md =
      read 8 l.md (stands_at {b = l.fh + 24 + 8 * 1} (header kind_fh 56 2 ++ le 8 0) (le 8 l.md) (stands_front _ _ to_time)
      (simp (length-append, length-header, length-le) (omega arith))) small

  fh_time : Stands f (l.fh + 40) (le 8 x.time)
  fh_time = stands_at (header kind_fh 56 2 ++ le 8 0 ++ le 8 l.md) (le 8 x.time) to_time (simp (length-append, length-header, length-le))

  to-text : Stands f l.md (header kind_md (md_size (length x.text)) 0 ++ x.text)
  unfolding md_bytes
  to-text = stands_front _ _ md

  text_stands : Stands f (l.md + 24) x.text
  text_stands = stands_at (header kind_md (md_size (length x.text)) 0) x.text to-text (simp length-header)

  pub new_history : NewHistory x f l.fh
  unfolding head_at
  new_history =
      record {
        head = rw (header-kind kind_fh 56 2 top (lit< tt), header-size kind_fh 56 2 top (lit< tt), header_links_lem kind_fh 56 2 top (lit< tt));
        next = fh_next;
        comment = rw fh_md (header-kind kind_md (md_size (length x.text)) 0 (stands_front _ _ to-text) (lit< tt));
        text = rw fh_md text_stands.is;
        time = rw (length-le 8 x.time) at fh_time.is;
      }
