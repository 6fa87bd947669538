-- One block more: what its checks over the words give is what the walk's definition gives.
use Rattle.std.specs.Prelude.{ℕ, ◌+◌, ◌≤◌, ◌<◌, Bool, true, false, ◌≡◌, length, take, set, ltb}
use mathlib.Core.List.{List, ◌++◌}
use Rattle.std.proofs.Math.Path.{refl, sym}
use Rattle.std.proofs.Common.{ap, ◌∙◌, zero-add, arith}
use Rattle.std.proofs.Math.ListN.{length-append}
use Rattle.base.specs.Choice.{pick, if_lt}
use Rattle.base.specs.BlitLaws.{blit-append}
use Rattle.base.specs.Checked.{Checked, ok, refused, and_then, Verdict, fine}
use Rattle.mdf.specs.Block.{DG, CG, CN, link_at, block_at}
use Rattle.mdf.specs.Name.{name_at}
use Rattle.mdf.specs.Chain.{is_in, Chain.records, Found, found, stopped, Limits, chain}
use Rattle.mdf.specs.Walk.{Source, source, is_met, Level, level_dg, level_cg, level_cn, tally, most_items, visit, entered, id_size_in, with_found}
use Rattle.work_words.specs.Words.{marks_at, groups_at, source_words}
use Rattle.reading.specs.Steps.{refused_as, after, visited, met_cg, met_cn, Pieces, pieces, after_data, laid_found, data_in}
use Rattle.std.specs.Prelude.{Result, Ok, Err, ⊤}
use Rattle.fields.specs.declared.refusal.Refusal.{Refusal}
use Rattle.reading.specs.Held.{most_pieces, State, state, Held, Within, Became, Gives, Stops}
use Rattle.reading.specs.CheckedLaws.{refused≢ok, ok≢refused, ok_same, then_ok, both_stop, both_pass}
use Rattle.chains.specs.KeptLaws.{words_append, length-words}
use Rattle.reading.specs.DataLaws.{data_room}
use Rattle.reading.specs.VisitLaws.{visited-room}
use Rattle.reading.specs.WordsLaws.{length-laid, laid-dg, laid-cg, laid-cn, tally_snoc, front-laid, met_addresses}

-- from the code's answer
pub after-fine : (v : Result ⊤ Refusal) (w : List ℕ) → {u : ⊤} → v ≡ Ok u → after v w ≡ ok w
after-fine v w q = rw q

pub after_refused : (v : Result ⊤ Refusal) (w : List ℕ) {y : Refusal} → v ≡ Err y → after v w ≡ refused_as y
after_refused v w q = rw q

pub after_done : (v : Result ℕ Refusal) (w : List ℕ) {n : ℕ} → v ≡ Ok n → after_data v w ≡ ok (pieces n w)
after_done v w q = rw q

pub after_stopped : (v : Result ℕ Refusal) (w : List ℕ) {y : Refusal} → v ≡ Err y → after_data v w ≡ refused_as y
after_stopped v w q = rw q

-- the search of the first words is the search of what was met
pub met_held : {e f : List ℕ} {st : Source} {x : State} (a : ℕ) → Held e f st x → Within x → is_in a (take x.n x.words) ≡ is_met a st.items
met_held {e} {f} {st} {x} a h r =
    let l : length x.words ≡ length e = ap length h.laid ∙ length-laid st.items e in
    rw (h.laid, h.blocks, front-laid st.items e (omega arith) (omega arith)) (met_addresses a st.items)

limited : (m n a : ℕ) (w : List ℕ) → if_lt m n (ok w) (refused 19 a) ≡ and_then (if_lt m n fine (refused 19 a)) (λ _. ok w)
unfolding if_lt
limited m n a w = go (ltb m n)
  where
    go : (t : Bool) → pick t (ok w) (refused 19 a) ≡ and_then (pick t fine (refused 19 a)) (λ _. ok w)
    go true = refl
    go false = refl

checks : (t : Bool) (b : Verdict) (m n a : ℕ) (w : List ℕ)
    → pick t (refused 11 a) (and_then b (λ _. if_lt m n (ok w) (refused 19 a)))
    ≡ and_then (pick t (refused 11 a) (and_then b (λ _. if_lt m n fine (refused 19 a)))) (λ _. ok w)
checks true b m n a w = refl
checks false (ok u) m n a w = limited m n a w
checks false (refused y p) m n a w = refl

pub visited-held : {e f : List ℕ} {st : Source} {x : State} (k : Level) (s : List ℕ) (m y a : ℕ) → Held e f st x → Within x
    → m ≡ tally k.own st.items
    → visited k.wanted s x.words x.n m y a ≡ and_then (visit k s st a) (λ _. ok (set (set x.words x.n a) (marks_at + x.n) y))
unfolding visited visit
visited-held {st = st} {x = x} k s m y a h r e =
    rw (met_held a h r, e)
    (checks (is_met a st.items) (block_at k.wanted s a) (tally k.own st.items) most_items a (set (set x.words x.n a) (marks_at + x.n) y))

-- a block with what is asked of it besides
unfoldable pub entering : Level → List ℕ → ℕ → Verdict → Source → Checked Source
entering k s a c st = and_then (visit k s st a) (λ _. and_then c (λ _. ok (entered k a st)))

-- the next item of each kind
module _ {e f : List ℕ} {st : Source} {x : State} (a : ℕ) (h : Held e f st x) (r : Within x) where
  pub held-dg : x.ndg < most_items → Held e f (entered level_dg a st)
      (state (set (set x.words x.n a) (marks_at + x.n) (2 + x.nf)) x.frags (x.n + 1) (x.ndg + 1) x.ncg x.ncn x.nf)
  unfolding entered
  held-dg l = record {
    laid = rw (h.laid, h.blocks, h.pieces) (sym (laid-dg a (length st.fragments) st.items e (omega arith)));
    kept = h.kept;
    blocks = rw length-append (omega arith);
    dgs = rw tally_snoc (omega arith);
    cgs = rw tally_snoc (omega arith);
    cns = rw tally_snoc (omega arith);
    pieces = h.pieces;
  }

  pub held-cg : x.ncg < most_items → Held e f (entered level_cg a st)
      (state (set (set (set x.words x.n a) (marks_at + x.n) 1) (groups_at + x.ncg) a) x.frags (x.n + 1) x.ndg (x.ncg + 1) x.ncn x.nf)
  unfolding entered
  held-cg l = record {
    laid = rw (h.laid, h.blocks, h.cgs) (sym (laid-cg a st.items e (omega arith)));
    kept = h.kept;
    blocks = rw length-append (omega arith);
    dgs = rw tally_snoc (omega arith);
    cgs = rw tally_snoc (omega arith);
    cns = rw tally_snoc (omega arith);
    pieces = h.pieces;
  }

  pub held-cn : x.ncn < most_items → Held e f (entered level_cn a st)
      (state (set (set x.words x.n a) (marks_at + x.n) 0) x.frags (x.n + 1) x.ndg x.ncg (x.ncn + 1) x.nf)
  unfolding entered
  held-cn l = record {
    laid = rw (h.laid, h.blocks) (sym (laid-cn a st.items e (omega arith)));
    kept = h.kept;
    blocks = rw length-append (omega arith);
    dgs = rw tally_snoc (omega arith);
    cgs = rw tally_snoc (omega arith);
    cns = rw tally_snoc (omega arith);
    pieces = h.pieces;
  }

-- the words after a CG and after a CN, and the state
abbrev words_cg : State → ℕ → List ℕ
words_cg x a = set (set (set x.words x.n a) (marks_at + x.n) 1) (groups_at + x.ncg) a

abbrev words_dg : State → ℕ → List ℕ
words_dg x a = set (set x.words x.n a) (marks_at + x.n) (2 + x.nf)

abbrev words_cn : State → ℕ → List ℕ
words_cn x a = set (set x.words x.n a) (marks_at + x.n) 0

-- what the call for a CG and for a CN tells: o is what it gave
module _ (s : List ℕ) (a : ℕ) (x : State) (r : Within x) where
  checked_cg : {e f : List ℕ} {st : Source} → Held e f st x
      → met_cg s x.words x.n x.ncg a ≡ and_then (visit level_cg s st a) (λ _. and_then (name_at s (link_at s a 2)) (λ _. ok (words_cg x a)))
  unfolding met_cg
  checked_cg {st = st} h =
      rw (visited-held level_cg s x.ncg 1 a h r h.cgs)
      (then_ok (visit level_cg s st a) (set (set x.words x.n a) (marks_at + x.n) 1)
      (λ w. and_then (name_at s (link_at s a 2)) (λ _. ok (set w (groups_at + x.ncg) a))))

  checked_cn : {e f : List ℕ} {st : Source} → Held e f st x
      → met_cn s x.words x.n x.ncn a ≡ and_then (visit level_cn s st a) (λ _. and_then (name_at s (link_at s a 2)) (λ _. ok (words_cn x a)))
  unfolding met_cn
  checked_cn {st = st} h =
      rw (visited-held level_cn s x.ncn 0 a h r h.cns)
      (then_ok (visit level_cn s st a) (words_cn x a) (λ w. and_then (name_at s (link_at s a 2)) (λ _. ok w)))

  module _ {o : Checked (List ℕ)} where
    pub cg_stops : {y p : ℕ} → o ≡ met_cg s x.words x.n x.ncg a → o ≡ refused y p → Stops (entering level_cg s a (name_at s (link_at s a 2))) x y p
    unfolding entering
    cg_stops g q = record { at = λ e f st h. both_stop (words_cg x a) (entered level_cg a st) (visit level_cg s st a) (name_at s (link_at s a 2)) (sym q ∙ g ∙ checked_cg h) }

    pub cn_stops : {y p : ℕ} → o ≡ met_cn s x.words x.n x.ncn a → o ≡ refused y p → Stops (entering level_cn s a (name_at s (link_at s a 2))) x y p
    unfolding entering
    cn_stops g q = record { at = λ e f st h. both_stop (words_cn x a) (entered level_cn a st) (visit level_cn s st a) (name_at s (link_at s a 2)) (sym q ∙ g ∙ checked_cn h) }

    cg-room : {w : List ℕ} → o ≡ met_cg s x.words x.n x.ncg a → o ≡ ok w → x.ncg < most_items
    unfolding met_cg
    cg-room {w} g q = go (visited CG s x.words x.n x.ncg 1 a) refl (sym g ∙ q)
      where
        go : (v : Checked (List ℕ)) → visited CG s x.words x.n x.ncg 1 a ≡ v
            → and_then v (λ w'. and_then (name_at s (link_at s a 2)) (λ _. ok (set w' (groups_at + x.ncg) a))) ≡ ok w → x.ncg < most_items
        go (ok w') e f = visited-room CG s x.words x.n x.ncg 1 a e
        go (refused y p) e f = absurd (refused≢ok f)

    cn-room : {w : List ℕ} → o ≡ met_cn s x.words x.n x.ncn a → o ≡ ok w → x.ncn < most_items
    unfolding met_cn
    cn-room {w} g q = go (visited CN s x.words x.n x.ncn 0 a) refl (sym g ∙ q)
      where
        go : (v : Checked (List ℕ)) → visited CN s x.words x.n x.ncn 0 a ≡ v
            → and_then v (λ w'. and_then (name_at s (link_at s a 2)) (λ _. ok w')) ≡ ok w → x.ncn < most_items
        go (ok w') e f = visited-room CN s x.words x.n x.ncn 0 a e
        go (refused y p) e f = absurd (refused≢ok f)

    pub cg-gives : {w : List ℕ} → o ≡ met_cg s x.words x.n x.ncg a → o ≡ ok w
        → Gives (entering level_cg s a (name_at s (link_at s a 2))) x (state w x.frags (x.n + 1) x.ndg (x.ncg + 1) x.ncn x.nf)
    unfolding entering
    cg-gives g q = record {
      to = λ e f st h.
          let b = both_pass (words_cg x a) (entered level_cg a st) (visit level_cg s st a) (name_at s (link_at s a 2)) (sym q ∙ g ∙ checked_cg h) in
          record { st = entered level_cg a st; held = rw b.0 (held-cg a h r (cg-room g q)); is = b.1 };
    }

    pub cg-within : {w : List ℕ} → o ≡ met_cg s x.words x.n x.ncg a → o ≡ ok w → source_words ≤ length w
        → Within (state w x.frags (x.n + 1) x.ndg (x.ncg + 1) x.ncn x.nf)
    cg-within g q l = let i = cg-room g q in
        record { long = l; sum = omega arith; dg-room = r.dg-room; cg-room = omega arith; cn-room = r.cn-room; nf_room = r.nf_room }

    pub cn-gives : {w : List ℕ} → o ≡ met_cn s x.words x.n x.ncn a → o ≡ ok w
        → Gives (entering level_cn s a (name_at s (link_at s a 2))) x (state w x.frags (x.n + 1) x.ndg x.ncg (x.ncn + 1) x.nf)
    unfolding entering
    cn-gives g q = record {
      to = λ e f st h.
          let b = both_pass (words_cn x a) (entered level_cn a st) (visit level_cn s st a) (name_at s (link_at s a 2)) (sym q ∙ g ∙ checked_cn h) in
          record { st = entered level_cn a st; held = rw b.0 (held-cn a h r (cn-room g q)); is = b.1 };
    }

    pub cn-within : {w : List ℕ} → o ≡ met_cn s x.words x.n x.ncn a → o ≡ ok w → source_words ≤ length w
        → Within (state w x.frags (x.n + 1) x.ndg x.ncg (x.ncn + 1) x.nf)
    cn-within g q l = let i = cn-room g q in
        record { long = l; sum = omega arith; dg-room = r.dg-room; cg-room = r.cg-room; cn-room = omega arith; nf_room = r.nf_room }

    pub dg_stops : {y p : ℕ} → o ≡ visited DG s x.words x.n x.ndg (2 + x.nf) a → o ≡ refused y p → Stops (entering level_dg s a fine) x y p
    unfolding entering
    dg_stops g q = record {
      at = λ e f st h.
          both_stop (words_dg x a) (entered level_dg a st) (visit level_dg s st a) fine (sym q ∙ g ∙ visited-held level_dg s x.ndg (2 + x.nf) a h r h.dgs);
    }

    pub dg-gives : {w : List ℕ} → o ≡ visited DG s x.words x.n x.ndg (2 + x.nf) a → o ≡ ok w
        → Gives (entering level_dg s a fine) x (state w x.frags (x.n + 1) (x.ndg + 1) x.ncg x.ncn x.nf)
    unfolding entering
    dg-gives g q = record {
      to = λ e f st h.
          let b = both_pass (words_dg x a) (entered level_dg a st) (visit level_dg s st a) fine
          (sym q ∙ g ∙ visited-held level_dg s x.ndg (2 + x.nf) a h r h.dgs) in
          record { st = entered level_dg a st; held = rw b.0 (held-dg a h r (visited-room DG s _ _ _ _ _ (sym g ∙ q))); is = b.1 };
    }

    pub dg-within : {w : List ℕ} → o ≡ visited DG s x.words x.n x.ndg (2 + x.nf) a → o ≡ ok w → source_words ≤ length w
        → Within (state w x.frags (x.n + 1) (x.ndg + 1) x.ncg x.ncn x.nf)
    dg-within g q l = let i = visited-room DG s _ _ _ _ _ (sym g ∙ q) in
        record { long = l; sum = omega arith; dg-room = omega arith; cg-room = r.cg-room; cn-room = r.cn-room; nf_room = r.nf_room }

-- ---- the data of a DG
-- the data chain, then the id size
unfoldable pub taking : Limits → List ℕ → ℕ → Source → Checked Source
taking l s a st = and_then (with_found (chain records l s (length st.fragments) (link_at s a 2)) st) (λ st'. and_then (id_size_in s a) (λ _. ok st'))

module _ (l : Limits) (s : List ℕ) (a : ℕ) (x : State) {o : Checked Pieces} where
  pub data_stops : {y p : ℕ} → o ≡ data_in l s x.frags x.nf a → o ≡ refused y p → Stops (taking l s a) x y p
  unfolding data_in taking
  data_stops {y} {p} g q = record { at = λ e f st h. rw (← h.pieces) (go st (chain records l s x.nf (link_at s a 2)) (id_size_in s a) (sym g ∙ q)) }
    where
      go : (st : Source) (v : Found) (c : Verdict) → and_then (laid_found v x.nf x.frags) (λ k. and_then c (λ _. ok k)) ≡ refused y p
          → and_then (with_found v st) (λ st'. and_then c (λ _. ok st')) ≡ refused y p
      go st (found fs) (ok u) e = absurd (ok≢refused e)
      go st (found fs) (refused z i) e = cc
      go st (stopped z i fs) c e = cc

  pub data_gives : {n : ℕ} {w : List ℕ} → o ≡ data_in l s x.frags x.nf a → o ≡ ok (pieces n w)
      → Gives (taking l s a) x (state x.words w x.n x.ndg x.ncg x.ncn n)
  unfolding data_in taking
  data_gives {n} {w} g q = record { to = λ e f st h. go h (chain records l s x.nf (link_at s a 2)) refl (id_size_in s a) refl (sym g ∙ q) }
    where
      go : {e f : List ℕ} {st : Source} → Held e f st x → (v : Found) → chain records l s x.nf (link_at s a 2) ≡ v → (c : Verdict) → id_size_in s a ≡ c
          → and_then (laid_found v x.nf x.frags) (λ k. and_then c (λ _. ok k)) ≡ ok (pieces n w)
          → Became (λ st'. and_then (with_found (chain records l s (length st'.fragments) (link_at s a 2)) st') (λ st''. and_then (id_size_in s a) (λ _. ok st'')))
          e f st (state x.words w x.n x.ndg x.ncg x.ncn n)
      go {f = f} {st = st} h (found fs) i (ok u) j e = record {
        st = source st.items (st.fragments ++ fs);
        held = record {
          laid = h.laid;
          kept = sym (ap Pieces.words (ok_same e)) ∙ rw (h.kept, h.pieces, words_append, blit-append, length-words, zero-add);
          blocks = h.blocks;
          dgs = h.dgs;
          cgs = h.cgs;
          cns = h.cns;
          pieces = sym (ap Pieces.count (ok_same e)) ∙ rw (length-append, h.pieces);
        };
        is = rw (← h.pieces, i, j);
      }
      go h (found fs) i (refused z p) j e = absurd (refused≢ok e)
      go h (stopped z p fs) i c j e = absurd (refused≢ok e)

  pub data_within : {n : ℕ} {w : List ℕ} → o ≡ data_in l s x.frags x.nf a → o ≡ ok (pieces n w) → l.fragments ≤ most_pieces → Within x
      → Within (state x.words w x.n x.ndg x.ncg x.ncn n)
  data_within {n} {w} g q m r = record { long = r.long; sum = r.sum; dg-room = r.dg-room; cg-room = r.cg-room; cn-room = r.cn-room; nf_room = data_room l s x.frags x.nf a (sym g ∙ q) m r.nf_room }
