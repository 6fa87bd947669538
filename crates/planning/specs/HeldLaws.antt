-- One column or omission more in the words of a plan.
use Rattle.std.specs.Prelude.{ℕ, ◌+◌, ◌*◌, ◌≤◌, ◌<◌, List, [], ◌∷◌, ◌++◌, ◌≡◌, refl, length}
use Rattle.std.proofs.Common.{append_assoc, append-nil, ◌∙◌, zero-add, add_assoc, add-zero, arith, length-append}
use Rattle.base.specs.Blit.{blit}
use Rattle.base.specs.BlitLaws.{blit-append, blit_comm}
use Rattle.chains.specs.Kept.{kept}
use Rattle.chains.specs.KeptLaws.{kept_append}
use Rattle.plan.specs.Columns.{Column, Omission, Plan, Signal, no_signal, signal_data, size_of_signal, with_column, with_omission}
use Rattle.work_words.specs.PlanWords.{column_words, columns_words, omission_pairs, fragments_in, signal_fragments, laid_plan}
use Rattle.planning.specs.Planning.{Base, Held}

pub size_is : (d : Signal) → size_of_signal d ≡ length (fragments_in d)
size_is no_signal = refl
size_is (signal_data fs) = refl

signals_more : (cs : List Column) (c : Column) → signal_fragments (cs ++ (c ∷ [])) ≡ signal_fragments cs ++ fragments_in c.signal_of
unfolding signal_fragments
signals_more [] c = append-nil _
signals_more (d ∷ cs) c = rw (signals_more cs c, append_assoc)

columns-more : (n : ℕ) (cs : List Column) (c : Column)
    → columns_words n (cs ++ (c ∷ [])) ≡ columns_words n cs ++ column_words (n + length (signal_fragments cs)) c
unfolding columns_words signal_fragments
columns-more n [] c = rw (add-zero) (append-nil _)
columns-more n (d ∷ cs) c =
    rw (columns-more (n + size_of_signal d.signal_of) cs c, append_assoc, length-append, size_is d.signal_of, add_assoc)

pub length-columns : (n : ℕ) (cs : List Column) → length (columns_words n cs) ≡ 8 * length cs
unfolding columns_words column_words
length-columns n [] = refl
length-columns n (c ∷ cs) = let h = length-columns (n + size_of_signal c.signal_of) cs in omega arith

pairs_more : (os : List Omission) (o : Omission) → omission_pairs (os ++ (o ∷ [])) ≡ omission_pairs os ++ (o.at ∷ o.reason ∷ [])
unfolding omission_pairs
pairs_more [] o = refl
pairs_more (p ∷ os) o = rw (pairs_more os o)

length_pairs : (os : List Omission) → length (omission_pairs os) ≡ 2 * length os
unfolding omission_pairs
length_pairs [] = refl
length_pairs (o ∷ os) = let h = length_pairs os in omega arith

length-column : (n : ℕ) (c : Column) → length (column_words n c) ≡ 8
unfolding column_words
length-column n c = refl

-- ---- one column more
laid-column : (n : ℕ) (p : Plan) (c : Column) (w : List ℕ) → 8 * length p.columns + 8 ≤ 4096
    → blit (8 * length p.columns) (column_words (n + length (signal_fragments p.columns)) c) (laid_plan n p w)
    ≡ laid_plan n (with_column c (size_of_signal c.signal_of) p) w
unfolding laid_plan
laid-column n p c w h =
    let cw : List ℕ = column_words (n + length (signal_fragments p.columns)) c in
    let e : 0 + length (columns_words n p.columns) ≡ 8 * length p.columns = rw (length-columns n p.columns) (zero-add _) in
    blit_comm cw (8 * length p.columns) 4096 (omission_pairs p.omissions) (blit 0 (columns_words n p.columns) w)
    (rw (length-column (n + length (signal_fragments p.columns)) c) h)
    ∙ rw (columns-more n p.columns c, blit-append (columns_words n p.columns) 0 cw w, e)

laid_omission : (n : ℕ) (p : Plan) (a r : ℕ) (w : List ℕ)
    → blit (4096 + 2 * length p.omissions) (a ∷ r ∷ []) (laid_plan n p w) ≡ laid_plan n (with_omission a r p) w
unfolding laid_plan
laid_omission n p a r w =
    rw (pairs_more p.omissions (record { at = a; reason = r }), blit-append (omission_pairs p.omissions) 4096, length_pairs p.omissions)

module _ {b : Base} {p : Plan} {nc no nf : ℕ} {w f : List ℕ} (h : Held b p nc no nf w f) where
  pub held-column : {w' f' : List ℕ} (c : Column) → nc < 512 → w' ≡ blit (8 * nc) (column_words nf c) w → f' ≡ kept nf (fragments_in c.signal_of) f
      → Held b (with_column c (size_of_signal c.signal_of) p) (nc + 1) no (nf + size_of_signal c.signal_of) w' f'
  held-column {w'} {f'} c r e k =
      let l = h.columns in
      let s = h.signals in
      record {
        columns = rw length-append (omega arith);
        omissions = h.omissions;
        fragments = rw h.fragments;
        signals = rw (signals_more p.columns c, length-append, ← size_is c.signal_of) (omega arith);
        room = omega arith;
        in_columns =
            e ∙ rw (h.in_columns, ← l, s)
            (laid-column b.found p c b.words (omega arith));
        in_fragments =
            k ∙ rw (h.in_fragments, s, signals_more p.columns c, kept_append b.found (signal_fragments p.columns) (fragments_in c.signal_of));
      }

  pub held_omission : {w' : List ℕ} (a r : ℕ) → w' ≡ blit (4096 + 2 * no) (a ∷ r ∷ []) w → Held b (with_omission a r p) nc (no + 1) nf w' f
  held_omission a r e =
      let l = h.omissions in
      record {
        columns = h.columns;
        omissions = rw length-append (omega arith);
        fragments = h.fragments;
        signals = h.signals;
        room = h.room;
        in_columns = e ∙ rw (h.in_columns, ← l) (laid_omission b.found p a r b.words);
        in_fragments = h.in_fragments;
      }
