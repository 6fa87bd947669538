-- The stages of the whole layout, one law for each way of the code.
use Rattle.std.specs.Prelude.{ℕ, suc, ◌+◌, ◌*◌, ◌≤◌, ◌<◌, ◌≡◌, Option, Some, None, Result, Ok, Err, ⊤}
use mathlib.Core.List.{List, [], ◌∷◌}
use Rattle.std.proofs.Math.Path.{refl, sym, ap}
use Rattle.std.proofs.Common.{◌∙◌, subst, arith}
use Rattle.std.proofs.Math.ListN.{length}
use Rattle.base.specs.ChoiceLaws.{lt_yes, lt_no}
use Rattle.base.specs.Checked.{Checked, ok, refused, and_then, fine}
use Rattle.base.specs.Blit.{blit}
use Rattle.mdf.specs.Block.{link_at}
use Rattle.mdf.specs.Records.{most64}
use Rattle.plan.specs.Columns.{Column}
use Rattle.plan.specs.Geometry.{align8}
use Rattle.plan.specs.Copies.{Copies, copies, copy_root, History, history, history_of, column_copies, Attached, attachments_of}
use Rattle.plan.specs.Layout.{Layout, first_at, places_at, past_data, places_from, structures_end, places_end, with_places, past_copies}
use Rattle.work_words.specs.CopyWords.{copy_words, attachment_words, attachments_at, history_at, placed_at, placed_words, laid_copies}
use Rattle.copies_laws.specs.Laid.{align_near}
use Rattle.copies_laws.specs.Alike.{alike_ok, alike_refused, alike_attached}
use Rattle.copies_laws.specs.AttachLaws.{laid_at_ends, all_attached}
use Rattle.payload_laws.specs.UnitLaws.{IsUnit}
use Rattle.fields.specs.declared.refusal.Refusal.{Refusal}
use Rattle.fields.specs.declared.refusal.Refusal.TheVariants.{OutputTooShort}
use Rattle.fields.specs.Answer.{number_of, place_of, verdict_of}
use Rattle.copier.specs.declared.memo.Copying.{Copying}
use Rattle.copier.specs.declared.memo.Chain.{Chain}
use Rattle.copier.specs.Standing.{copies_in, standing, Past, Ready}
use Rattle.copier.specs.StandingLaws.{length-copies, past_more, past_then}
use Rattle.copier.specs.Got.{Copied, AfterGot}
use Rattle.copier.specs.TurnLaws.{copied_at, copied_refused, after-at}
use Rattle.copier.specs.History.{chain_in, FirstCopies, Begins}
use Rattle.copier.specs.HistoryLaws.{length_part, past-blit}
use Rattle.copier.specs.Attaching.{MovedAll, Moves}
use Rattle.copier.specs.AttachingLaws.{copies-blit}
use Rattle.copier.specs.Roots.{copies_of}
use Rattle.thin.specs.Place.{most_kept, kept_size, kept_sizes, placed}
use Rattle.thin.specs.TakenOut.{most_file}
use Rattle.thin_laws.specs.PlaceLaws.{places_grow}
use Rattle.arranging.specs.declared.decide.Numbers.{Numbers}
use Rattle.arranging.specs.declared.layout.Rest.{Rest}
use Rattle.arranging.specs.ThenLaws.{then_then, then_through, then_made, then_unmade}
use Rattle.arranging.specs.Sized.{sizes_in}
use Rattle.arranging.specs.Spots.{place_words, Ends, PlacedIn, PlacedOver, AllPlaced}
use Rattle.arranging.specs.Answered.{Numbered}
use Rattle.arranging.specs.WordsLaws.{all_laid}
use Rattle.arranging.specs.Laying.{
  room_in,
  attached_at,
  Attaches,
  Over,
  metadata_end_in,
  data_end_in,
  places_in,
  Rested,
  Rests,
  Standing,
  laid_for,
  LaysOut,
}

-- ---- the output's length
module _ (out x : ℕ) where
  pub room-over : most_file < x → refused 20 most64 ≡ room_in out x
  unfolding room_in
  room-over h = lt_yes _ _ _ _ h refl

  pub room-short : x ≤ most_file → out < x → refused 20 x ≡ room_in out x
  unfolding room_in
  room-short h k = lt_no _ _ _ _ h (lt_yes _ _ _ _ k refl)

  pub room-fine : x ≤ most_file → x ≤ out → fine ≡ room_in out x
  unfolding room_in
  room-fine h k = lt_no _ _ _ _ h (lt_no _ _ _ _ k refl)

-- ---- attachments
module _ (s : List ℕ) (out : ℕ) (m m' : List ℕ) (end : ℕ) (st : Copying) {l : ℕ} (i : l ≡ link_at s 64 3) (r : Result Chain Refusal)
    (h : Moves m m' st r (attachments_of most_kept s l (standing m st))) where
  moved_refused : {x : Refusal} → r ≡ Err x → attachments_of most_kept s (link_at s 64 3) (standing m st) ≡ refused (number_of x) (place_of x)
  moved_refused e = rw (← i) (subst (λ (v : Result Chain Refusal). Moves m m' st v (attachments_of most_kept s l (standing m st))) e h)

  moved_at : {k : Chain} → r ≡ Ok k → MovedAll k.count m m' st k.state (attachments_of most_kept s (link_at s 64 3) (standing m st))
  moved_at e = rw (← i) (subst (λ (v : Result Chain Refusal). Moves m m' st v (attachments_of most_kept s l (standing m st))) e h)

  pub attach_refused : {x : Refusal} → r ≡ Err x → Attaches s out m m' end st (Err x)
  unfolding attached_at
  attach_refused e = rw (moved_refused e)

  module _ {k : Chain} (e : r ≡ Ok k) (o : Result ⊤ Refusal) (f : verdict_of o ≡ room_in out k.state.next) where
    room_is : room_in out (moved_at e).moving.told.made.next ≡ verdict_of o
    room_is = ap (λ (c : Copies). room_in out c.next) (moved_at e).moving.made ∙ sym f

    pub attach-short : {x : Refusal} → o ≡ Err x → Attaches s out m m' end st (Err x)
    unfolding attached_at
    attach-short q = rw ((moved_at e).is, room_is, q)

    pub attach_done : {u : ⊤} → o ≡ Ok u → Attaches s out m m' end st (Ok (record { count = k.count; end = end; state = k.state }))
    unfolding attached_at
    attach_done q = record { moving = (moved_at e).moving; is = rw ((moved_at e).is, room_is, q); ends = refl }

-- ---- attachments past 2^59
abbrev pub nowhere : ℕ → Copying
nowhere used = record { used = used; next = 0 }

module _ (s m m' : List ℕ) (used : ℕ) {l : ℕ} (i : l ≡ link_at s 64 3) (r : Result Chain Refusal)
    (h : Moves m m' (nowhere used) r (attachments_of most_kept s l (standing m (nowhere used)))) where
  pub over_refused : {x : Refusal} → r ≡ Err x → Over s m used x
  unfolding attached_at
  over_refused {x} e = record {
    is = λ out y k.
        let z = alike_refused (number_of x) (place_of x) (alike_attached most_kept s (link_at s 64 3) (copies (copies_in m used) 0) (copies (copies_in m used) y) refl)
        (moved_refused s out m m' 0 (nowhere used) i r h e) in
        rw z;
  }

  pub over-moved : {k : Chain} → r ≡ Ok k → Over s m used (OutputTooShort 18446744073709551615)
  unfolding attached_at
  over-moved e = record {
    is = λ out x k.
        let o = moved_at s out m m' 0 (nowhere used) i r h e in
        let y = alike_ok o.moving.told (alike_attached most_kept s (link_at s 64 3) (copies (copies_in m used) 0) (copies (copies_in m used) x) refl) o.is in
        let z : x ≤ y.0.made.next = laid_at_ends s x y.0.made.next y.0.attachments (all_attached s (link_at s 64 3) (copies (copies_in m used) x) y.0 y.1).laid in
        rw (y.1, ← room-over out y.0.made.next (omega arith));
  }

-- ---- places of columns, then attachments
pub ends_at : (x : ℕ) (r : Option ℕ) {e : ℕ} → Ends r x → r ≡ Some e → (e ≡ x) × (e ≤ most_file)
ends_at x r h q = subst (λ (v : Option ℕ). Ends v x) q h

pub ends-over : (x : ℕ) (r : Option ℕ) → Ends r x → r ≡ None → most_file < x
ends-over x r h q = subst (λ (v : Option ℕ). Ends v x) q h

module _ (u : ℕ) (s w : List ℕ) (n a d : ℕ) (m m' : List ℕ) (r : Option ℕ) (h : AllPlaced u s w n a d m m' r) where
  pub placed-at : {e : ℕ} → r ≡ Some e → PlacedIn u s w n a d m m' e
  placed-at q = subst (AllPlaced u s w n a d m m') q h

  pub placed-over : r ≡ None → PlacedOver u s w n d m m'
  placed-over q = subst (AllPlaced u s w n a d m m') q h

pub next_near : (st : Copying) {a : ℕ} → st.next ≤ 2199023255552 → a ≡ align8 st.next → a ≤ most_file
next_near st h e = omega (arith, align_near st.next)

module _ (u : ℕ) (s w : List ℕ) (n out : ℕ) (m : List ℕ) (st : Copying) {a : ℕ} (i : a ≡ align8 st.next) where
  over_rests : (m' : List ℕ) (x : Refusal) → Over s m st.used x → most_file < data_end_in u s w n st → Rests u s w n out m m' st (Err x)
  over_rests m' x o h = o.is out (data_end_in u s w n st) h

  -- DG, CG, CN and DL alone end past 2^59
  pub rest_over : (m' : List ℕ) (x : Refusal) → IsUnit u → Over s m st.used x → most_file < structures_end a (sizes_in s w 0 n)
      → Rests u s w n out m m' st (Err x)
  rest_over m' x k o h =
      let z : most_file < metadata_end_in s w n st = rw i at h in
      over_rests m' x o (omega (arith, places_grow u k (metadata_end_in s w n st) (sizes_in s w 0 n)))

  module _ {e : ℕ} (j : e ≡ structures_end a (sizes_in s w 0 n)) where
    ends_is : e ≡ metadata_end_in s w n st
    ends_is = rw (← i) j

    same_over : (m₁ : List ℕ) (x : Refusal) → copies_in m₁ st.used ≡ copies_in m st.used → Over s m₁ st.used x → Over s m st.used x
    same_over m₁ x c o = record { is = λ y z h. rw (← c) (o.is y z h) }

    pub rest-past : {m₁ : List ℕ} (m' : List ℕ) (x : Refusal) → PlacedOver u s w n e m m₁ → st.used ≤ 2050 → Over s m₁ st.used x
        → Rests u s w n out m m' st (Err x)
    rest-past {m₁} m' x c k o = over_rests m' x (same_over m₁ x (c.copies st.used k) o) (rw ends_is at c.over)

    module _ {d : ℕ} {m₁ : List ℕ} (c : PlacedIn u s w n a e m m₁ d) (k : st.used ≤ 2050) where
      -- the copies stand as they stood, and what is placed ends past the columns' data
      stands_is : standing m₁ (record { used = st.used; next = d }) ≡ copies (copies_in m st.used) (data_end_in u s w n st)
      stands_is =
          let x : copies_in m₁ st.used ≡ copies_in m st.used =
          ap (λ (v : List ℕ). copies_in v st.used) c.words ∙ copies-blit (place_words (places_from u a e (sizes_in s w 0 n))) m st.used 6656 (omega arith) in
          let y : d ≡ data_end_in u s w n st = c.ends ∙ ap (λ (v : ℕ). places_end u v (sizes_in s w 0 n)) ends_is in
          rw (x, y)

      pub rest-placed : (m' : List ℕ) (r : Result Rest Refusal) → Attaches s out m₁ m' e (record { used = st.used; next = d }) r → Rests u s w n out m m' st r
      rest-placed m' (Err x) o = rw stands_is at o
      rest-placed m' (Ok f) o =
          let g = o.moving in
          record {
            told = g.told;
            is = rw stands_is at o.is;
            made = g.made;
            counted = g.counted;
            ends = o.ends ∙ ends_is;
            few = g.few;
            more = g.more;
            most = g.most;
            past = rw (← i, ← j, ← c.words) g.past;
          }

pub rests_at : (u : ℕ) (s w : List ℕ) (n out : ℕ) (m m' : List ℕ) (st : Copying) (r : Result Rest Refusal) {x : Rest}
    → Rests u s w n out m m' st r → r ≡ Ok x → Rested u s w n out m m' st x.count x.end x.state
rests_at u s w n out m m' st r h e = subst (Rests u s w n out m m' st) e h

-- ---- the whole, from its stages

-- what is known after the copies
pub begun_near : {most count : ℕ} {s m m' : List ℕ} {st : Copying} → FirstCopies most count s m m' st → 8192 ≤ length m' → Ready m' 2050 st
begun_near o l = record { words = l; limit = omega arith; few = omega (arith, o.after.most); near = omega (arith, o.after.near, o.after.most) }

pub copied_near : {most count : ℕ} {s m m' : List ℕ} {st : Copying} → FirstCopies most count s m m' st → {g : Result Copying Refusal} → AfterGot g st → {t : Copying} → g ≡ Ok t
    → (t.used ≤ 2050) × (t.next ≤ 2199023255552)
copied_near o a e =
    let x = after-at a e in
    (omega (arith, x.most), omega (arith, x.near, x.most, o.after.near))

layout_of : ℕ → List Column → Copies → History → Copies → Attached → Layout
layout_of u cs m0 h m2 t =
    record {
      comment = m0;
      past = h;
      md = 0;
      fh = 0;
      metadata = m2;
      placed = with_places cs (places_from u (past_copies m2) (structures_end (past_copies m2) (kept_sizes cs)) (kept_sizes cs));
      metadata_end_lem = structures_end (past_copies m2) (kept_sizes cs);
      attached = t;
      file_size_lem = t.made.next;
    }

last_of : ℕ → List ℕ → List Column → ℕ → Copies → History → Copies → Checked Layout
last_of u s cs out m0 h m2 =
    and_then (attachments_of most_kept s (link_at s 64 3) (copies m2.memo (places_end u (structures_end (past_copies m2) (kept_sizes cs)) (kept_sizes cs))))
    (λ t. and_then (room_in out t.made.next) (λ _. ok (layout_of u cs m0 h m2 t)))

module _ (u : ℕ) (s : List ℕ) (cs : List Column) (out : ℕ) (m0 : Copies) (h : History) (m2 : Copies) where
  last_made : {x : Attached} → attached_at s out (copies m2.memo (places_end u (structures_end (past_copies m2) (kept_sizes cs)) (kept_sizes cs))) ≡ ok x
      → last_of u s cs out m0 h m2 ≡ ok (layout_of u cs m0 h m2 x)
  unfolding last_of attached_at
  last_made e = then_made (attachments_of most_kept s (link_at s 64 3) _) (λ t. room_in out t.made.next) (layout_of u cs m0 h m2) e

  last_unmade : {a b : ℕ} → attached_at s out (copies m2.memo (places_end u (structures_end (past_copies m2) (kept_sizes cs)) (kept_sizes cs))) ≡ refused a b
      → last_of u s cs out m0 h m2 ≡ refused a b
  unfolding last_of attached_at
  last_unmade e = then_unmade (attachments_of most_kept s (link_at s 64 3) _) (λ t. room_in out t.made.next) (layout_of u cs m0 h m2) e

laid-first : (u : ℕ) (s : List ℕ) (cs : List Column) (out : ℕ) {a b : ℕ}
    → and_then (copy_root most_kept s (link_at s 64 5) (copies [] 168)) (λ x. history_of most_kept s (link_at s 64 1) x) ≡ refused a b → laid_for u s cs out ≡ refused a b
unfolding laid_for placed
laid-first u s cs out e = then_through (copy_root most_kept s (link_at s 64 5) (copies [] 168)) (λ x. history_of most_kept s (link_at s 64 1) x) _ _ e

laid_next : (u : ℕ) (s : List ℕ) (cs : List Column) (out : ℕ) {m0 : Copies} {h : History} → copy_root most_kept s (link_at s 64 5) (copies [] 168) ≡ ok m0
    → history_of most_kept s (link_at s 64 1) m0 ≡ ok h
    → laid_for u s cs out ≡ and_then (column_copies most_kept s cs h.made) (λ m2. last_of u s cs out m0 h m2)
unfolding laid_for placed last_of layout_of
laid_next u s cs out {m0} {h} a b = rw (a, b) (go (column_copies most_kept s cs h.made))
  where
    end : Copies → ℕ
    end m2 = places_end u (structures_end (past_copies m2) (kept_sizes cs)) (kept_sizes cs)

    go : (v : Checked Copies)
        → and_then (and_then v (λ m2. and_then (attachments_of most_kept s (link_at s 64 3) (copies m2.memo (end m2))) (λ t. ok (layout_of u cs m0 h m2 t))))
        (λ l. and_then (room_in out l.file_size_lem) (λ _. ok l))
        ≡ and_then v (λ m2. last_of u s cs out m0 h m2)
    go (ok m2) = then_then (attachments_of most_kept s (link_at s 64 3) (copies m2.memo (end m2))) (λ t. ok (layout_of u cs m0 h m2 t)) _
    go (refused n p) = refl

-- the words of places
placed-words : (cs : List Column) (u a d : ℕ) → place_words (places_from u a d (kept_sizes cs)) ≡ placed_words (with_places cs (places_from u a d (kept_sizes cs)))
unfolding place_words places_from kept_sizes placed_words with_places
placed-words [] u a d = refl
placed-words (c ∷ cs) u a d =
    ap (λ (l : List ℕ). a ∷ first_at u (kept_size c) d ∷ (places_at u a d (kept_size c)).sd ∷ l) (placed-words cs u (a + (kept_size c).structure) (past_data u (kept_size c) d))

placed-many : (cs : List Column) (u a d : ℕ) → length (with_places cs (places_from u a d (kept_sizes cs))) ≡ length cs
unfolding places_from kept_sizes with_places
placed-many [] u a d = refl
placed-many (c ∷ cs) u a d = ap suc (placed-many cs u (a + (kept_size c).structure) (past_data u (kept_size c) d))

module _ (u : ℕ) (s w : List ℕ) (n out : ℕ) (m : List ℕ) where
  pub whole_first : (m' : List ℕ) {m'' : List ℕ} (g : Result Chain Refusal) {x : Refusal} → Begins most_kept s m m' g → g ≡ Err x
      → LaysOut u s w n out m m'' (Err x)
  whole_first m' g h e = record { is = λ cs z. laid-first u s cs out (subst (Begins most_kept s m m') e h) }

  module _ {count : ℕ} {m₁ : List ℕ} {st : Copying} (o : FirstCopies most_kept count s m m₁ st) {m₂ : List ℕ} {g : Result Copying Refusal}
      (c : Copied m₁ m₂ g (copies_of most_kept s w 0 n (standing m₁ st))) where
    columns-next : (cs : List Column) → Standing s w n cs → {v : Checked Copies} → v ≡ copies_of most_kept s w 0 n (standing m₁ st)
        → laid_for u s cs out ≡ and_then v (λ m2. last_of u s cs out o.comment (history (chain_in m₁ count) (standing m₁ st)) m2)
    columns-next cs z e =
        laid_next u s cs out o.is_comment o.is_past_lem
        ∙ ap (λ (v : Checked Copies). and_then v (λ m2. last_of u s cs out o.comment (history (chain_in m₁ count) (standing m₁ st)) m2))
        (sym (e ∙ z.roots (standing m₁ st)))

    pub whole_columns : {m' : List ℕ} {x : Refusal} → g ≡ Err x → LaysOut u s w n out m m' (Err x)
    whole_columns e = record { is = λ cs z. columns-next cs z (copied_refused c e) }

    module _ {t : Copying} (e : g ≡ Ok t) where
      ends_of : (cs : List Column) → Standing s w n cs → metadata_end_in s w n t ≡ structures_end (past_copies (standing m₂ t)) (kept_sizes cs)
      unfolding past_copies
      ends_of cs z = rw z.sizes

      data_of : (cs : List Column) → Standing s w n cs
          → data_end_in u s w n t ≡ places_end u (structures_end (past_copies (standing m₂ t)) (kept_sizes cs)) (kept_sizes cs)
      unfolding past_copies
      data_of cs z = rw z.sizes

      pub whole_rest : {m' : List ℕ} (r : Result Rest Refusal) {x : Refusal} → Rests u s w n out m₂ m' t r → r ≡ Err x → LaysOut u s w n out m m' (Err x)
      whole_rest {m'} r h q = record {
        is = λ cs z.
            let v = subst (Rests u s w n out m₂ m' t) q h in
            columns-next cs z (copied_at c e).0 ∙ last_unmade u s cs out o.comment (history (chain_in m₁ count) (standing m₁ st)) (standing m₂ t) (rw (data_of cs z) at v);
      }

      module _ {m₃ : List ℕ} {ats end : ℕ} {v : Copying} (q : Rested u s w n out m₂ m₃ t ats end v)
          (same₁ : length m₁ ≡ length m) (same₂ : length m₂ ≡ length m₁) (same₃ : length m₃ ≡ length m₂) (long : 8192 ≤ length m)
          (after : AfterGot g st) where
        past_all : Past (2 * v.used) (blit attachments_at (attachment_words q.told.attachments)
            (blit placed_at (places_in u s w n t) (blit history_at (chain_in m₁ count) m))) m₃
        past_all =
            let y = after-at after e in
            let p : Past (2 * t.used) (blit history_at (chain_in m₁ count) m) m₂ =
            past_then (past_more _ (omega (arith, y.more)) o.past) (copied_at c e).1 in
            past_then
            (past-blit (attachment_words q.told.attachments) 4100 (omega (arith, q.most))
            (past-blit (places_in u s w n t) 6656 (omega (arith, q.most))
            (past_more _ (omega (arith, q.more)) p)))
            q.past

        chain-long : length (chain_in m₁ count) ≡ count
        chain-long = length_part 4352 count m₁ (omega (arith, o.few))

        words-all : m₃ ≡ blit placed_at (places_in u s w n t)
            (blit history_at (chain_in m₁ count) (blit attachments_at (attachment_words q.told.attachments) (blit 0 (copy_words q.told.made.memo) m)))
        words-all =
            rw q.made (all_laid m m₃ v.used (chain_in m₁ count) q.told.attachments (places_in u s w n t) (omega arith) (omega arith) q.most
            (omega (arith, q.counted, q.few)) (omega (arith, chain-long, o.few)) past_all)

        placed_is : (cs : List Column) → Standing s w n cs → places_in u s w n t
            ≡ placed_words (with_places cs (places_from u (past_copies (standing m₂ t)) (structures_end (past_copies (standing m₂ t)) (kept_sizes cs)) (kept_sizes cs)))
        unfolding past_copies
        placed_is cs z = rw z.sizes (placed-words cs u (align8 t.next) (structures_end (align8 t.next) (kept_sizes cs)))

        numbers_all : (cs : List Column) → Standing s w n cs
            → Numbered (layout_of u cs o.comment (history (chain_in m₁ count) (standing m₁ st)) (standing m₂ t) q.told) m m₃
            (record {
              columns = n;
              history = st.used;
              chain = count;
              metadata = t.used;
              copies = v.used;
              attachments = ats;
              metadata_end = end;
              file_size = v.next;
            })
        unfolding layout_of laid_copies
        numbers_all cs z =
            record {
              columns = sym (placed-many cs u _ _ ∙ z.count);
              history = sym (length-copies m₁ 0 st.used);
              chain = sym chain-long;
              metadata = sym (length-copies m₂ 0 t.used);
              copies = sym (ap (λ (y : Copies). length y.memo) q.made ∙ length-copies m₃ 0 v.used);
              attachments = sym q.counted;
              metadata_end_lem = q.ends ∙ ends_of cs z;
              file_size_lem = sym (ap (λ (y : Copies). y.next) q.made);
              words = words-all ∙ ap (λ (y : List ℕ). blit placed_at y (blit history_at (chain_in m₁ count)
                  (blit attachments_at (attachment_words q.told.attachments) (blit 0 (copy_words q.told.made.memo) m)))) (placed_is cs z);
            }

        pub whole_done : LaysOut u s w n out m m₃ (Ok (record {
          columns = n;
          history = st.used;
          chain = count;
          metadata = t.used;
          copies = v.used;
          attachments = ats;
          metadata_end = end;
          file_size = v.next;
        }))
        whole_done = record {
          is = λ cs z. record {
            columns = refl;
            told = layout_of u cs o.comment (history (chain_in m₁ count) (standing m₁ st)) (standing m₂ t) q.told;
            is = columns-next cs z (copied_at c e).0 ∙ last_made u s cs out o.comment (history (chain_in m₁ count) (standing m₁ st)) (standing m₂ t) (rw (data_of cs z) at q.is);
            numbered = numbers_all cs z;
          };
        }
