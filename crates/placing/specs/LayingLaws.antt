-- The stages of the whole layout, one law for each way of the code.
use Rattle.std.specs.Prelude.{ℕ, ◌+◌, ◌*◌, ◌≤◌, ◌<◌, Bool, ◌≡◌, Result, Ok, Err}
use mathlib.Core.List.{List, []}
use Rattle.std.proofs.Math.Path.{sym, ap, subst}
use Rattle.std.proofs.Common.{◌∙◌, arith}
use Rattle.std.proofs.Math.ListN.{length}
use Rattle.base.specs.Checked.{Checked, ok, refused, and_then}
use Rattle.base.specs.Blit.{blit}
use Rattle.mdf.specs.Block.{link_at}
use Rattle.plan.specs.Columns.{Column}
use Rattle.plan.specs.Geometry.{align8}
use Rattle.plan.specs.Copies.{Copies, copies, most_copies, copy_root, History, history, history_of, column_copies, Attached, attachments_of}
use Rattle.work_words.specs.CopyWords.{copy_words, attachment_words, attachments_at, history_at, placed_at, placed_words, laid_copies}
use Rattle.plan.specs.Layout.{Layout, layout, md_size, past_copies, fh_place, structure_end, data_end, placed_from}
use Rattle.copier.specs.declared.memo.Copying.{Copying}
use Rattle.copier.specs.declared.memo.Chain.{Chain}
use Rattle.fields.specs.declared.refusal.Refusal.{Refusal}
use Rattle.placing.specs.declared.layout.Rest.{Rest}
use Rattle.copier.specs.Standing.{copies_in, standing, Room, Ready, Past}
use Rattle.copier.specs.StandingLaws.{length-copies, align_near, past_more, past_then}
use Rattle.copier.specs.Got.{Copied, AfterGot}
use Rattle.copier.specs.TurnLaws.{copied_at, copied_refused, after-at}
use Rattle.copier.specs.Roots.{copies_of}
use Rattle.copier.specs.History.{chain_in, start, FirstCopies, Begins}
use Rattle.copier.specs.HistoryLaws.{length_part, past-blit}
use Rattle.copier.specs.Attaching.{Moves}
use Rattle.copier.specs.AttachingLaws.{copies-blit}
use Rattle.placing.specs.WordsLaws.{all_placed}
use Rattle.placing.specs.InWords.{structures_in, data_in, placed_in, AllWithin, Columns, Referring}
use Rattle.placing.specs.InWordsLaws.{all-few, structures_near, data_near}
use Rattle.placing.specs.ColumnsLaws.{structures_of, data_of, placed_of, copies_of_lem}
use Rattle.placing.specs.Laying.{on_unit, metadata_end_in, attached_in, Rested, Rests, Numbered, LaysOut}

pub md_bytes_lem : (n : ℕ) {r : ℕ} → r ≡ align8 (24 + n + 1) → r ≡ md_size n
unfolding md_size
md_bytes_lem n e = e

md_near : (n : ℕ) → md_size n ≤ n + 32
unfolding md_size
md_near n = omega (arith, align_near (24 + n + 1))

-- ---- the HD comment, then the history chain
pub first_ready : (m : List ℕ) → 8192 ≤ length m → Ready m most_copies start
first_ready m h = record { words = h; limit = omega arith; few = omega arith; near = omega arith }

pub first_md : {count : ℕ} {s m m' : List ℕ} {st : Copying} → FirstCopies most_copies count s m m' st → {md : ℕ}
    → (st.next < 9223372036854775808 → md ≡ align8 st.next) → md ≡ align8 st.next
first_md o f = let k = o.after in f (omega arith)

pub record FirstNear (used md x : ℕ) : Type 0 where
  pub md_near : md ≤ 1100585369775
  pub near : md + x + 56 ≤ 1100585373967
  pub room : Room used (md + x + 56)

pub first_near_lem : {count : ℕ} {s m m' : List ℕ} {st : Copying} → FirstCopies most_copies count s m m' st → {md : ℕ} → md ≡ align8 st.next → (text : ℕ)
    → {x : ℕ} → x ≡ md_size text → text ≤ 4096 → FirstNear st.used md x
first_near_lem {count} {s} {m} {m'} {st} o i text j h =
    let a = align_near st.next in
    let b = md_near text in
    let k = o.after in
    record { md_near = omega arith; near = omega arith; room = record { few = omega arith; near = omega arith } }

pub columns_ready : {count : ℕ} {s m m' : List ℕ} {st : Copying} → FirstCopies most_copies count s m m' st → length m' ≡ length m → 8192 ≤ length m
    → {md x : ℕ} → FirstNear st.used md x → Ready m' most_copies (record { used = st.used; next = md + x + 56 })
columns_ready o e h z =
    record { words = omega (arith, e, h); limit = omega arith; few = z.room.few; near = omega (arith, z.near) }

-- ---- places of columns, then attachments
module _ (u : ℕ) (ph : Bool) (s : List ℕ) (size : ℕ) (w f : List ℕ) (n : ℕ) (m : List ℕ) (st : Copying) {a e d l : ℕ} {m₁ : List ℕ}
    (i : a ≡ align8 st.next) (j : e ≡ structures_in ph s size w 0 n a) (k : d ≡ data_in u s size w f 0 n e)
    (x : m₁ ≡ blit 6656 (placed_in u ph s size w f 0 n a e) m) (y : l ≡ link_at s 64 3) (few : st.used ≤ 2050) where
  rest_is : attachments_of most_copies s l (standing m₁ (record { used = st.used; next = d })) ≡ attached_in u ph s size w f n m st
  rest_is =
      let z : copies_in m₁ st.used ≡ copies_in m st.used =
      ap (λ (v : List ℕ). copies_in v st.used) x ∙ copies-blit (placed_in u ph s size w f 0 n a e) m st.used 6656 (omega arith) in
      rw (z, y, k, j, i)

  pub rest-moved : {m' : List ℕ} (r : Result Chain Refusal)
      → Moves m₁ m' (record { used = st.used; next = d }) r (attachments_of most_copies s l (standing m₁ (record { used = st.used; next = d })))
      → {k : Chain} → r ≡ Ok k → Rests u ph s size w f n m m' st (Ok (record { count = k.count; end = e; state = k.state }))
  rest-moved {m'} r h {k} q =
      let g = subst (λ (v : Result Chain Refusal). Moves m₁ m' (record { used = st.used; next = d }) v (attachments_of most_copies s l (standing m₁ (record { used = st.used; next = d })))) q h in
      let o = g.moving in
      record {
        told = o.told;
        is = sym rest_is ∙ g.is;
        made = o.made;
        counted = o.counted;
        ends = rw (← i) j;
        few = o.few;
        more = o.more;
        most = o.most;
        past = rw (← i, ← j, ← x) o.past;
      }

  pub rest_refused : (m' : List ℕ) (r : Result Chain Refusal)
      → Moves m₁ m' (record { used = st.used; next = d }) r (attachments_of most_copies s l (standing m₁ (record { used = st.used; next = d })))
      → {x : Refusal} → r ≡ Err x → Rests u ph s size w f n m m' st (Err x)
  rest_refused m' r h q =
      sym rest_is ∙ subst (λ (v : Result Chain Refusal). Moves m₁ m' (record { used = st.used; next = d }) v (attachments_of most_copies s l (standing m₁ (record { used = st.used; next = d })))) q h

pub rests_at : (u : ℕ) (ph : Bool) (s : List ℕ) (size : ℕ) (w f : List ℕ) (n : ℕ) (m m' : List ℕ) (st : Copying) (r : Result Rest Refusal) {q : Rest}
    → Rests u ph s size w f n m m' st r → r ≡ Ok q → Rested u ph s size w f n m m' st q.count q.end q.state
rests_at u ph s size w f n m m' st r h e = subst (Rests u ph s size w f n m m' st) e h

pub rest_near : (u : ℕ) (ph : Bool) (s : List ℕ) (size : ℕ) (w f : List ℕ) (n : ℕ) (st : Copying) {a e d : ℕ} → a ≡ align8 st.next → e ≡ structures_in ph s size w 0 n a
    → d ≡ data_in u s size w f 0 n e → n ≤ 512 → st.next ≤ 562949953421312 → AllWithin ph s size w f 0 n → 8 ≤ u → u ≤ 4096
    → (a ≤ 562949953421319) × (e ≤ 1125899906842624) × (d ≤ 576460752303423488)
rest_near u ph s size w f n st {a} {e} {d} i j k h l b least most =
    let x = align_near st.next in
    let y = structures_near ph s size w 0 n a (all-few b) in
    let z = data_near u ph s size w f 0 n e least most b in
    (omega arith, omega arith, omega arith)

-- ---- the whole, from its stages
then_through : {A B C : Type 0} (x : Checked A) (f : A → Checked B) (g : A → B → Checked C) {a b : ℕ} → and_then x f ≡ refused a b
    → and_then x (λ v. and_then (f v) (g v)) ≡ refused a b
then_through (ok v) f g e = rw e
then_through {A} {B} {C} (refused n p) f g e = ap (λ (v : Checked B). and_then {B = C} v (λ _. refused 0 0)) e

layout-first : (u : ℕ) (s : List ℕ) (size text : ℕ) (cs : List Column) {a b : ℕ}
    → and_then (copy_root most_copies s (link_at s 64 5) (copies [] 168)) (λ x. history_of most_copies s (link_at s 64 1) x) ≡ refused a b → layout (on_unit u) s size text cs ≡ refused a b
unfolding layout
layout-first u s size text cs e = then_through (copy_root most_copies s (link_at s 64 5) (copies [] 168)) (λ x. history_of most_copies s (link_at s 64 1) x) _ e

layout_of : ℕ → List ℕ → ℕ → ℕ → List Column → Copies → History → Copies → Attached → Layout
layout_of u s size text cs m0 h m2 t =
    record {
      comment = m0;
      past = h;
      md = past_copies h.made;
      fh = fh_place h.made text;
      metadata = m2;
      placed = placed_from (on_unit u) s size (past_copies m2) (structure_end s size (past_copies m2) cs) cs;
      metadata_end_lem = structure_end s size (past_copies m2) cs;
      attached = t;
      file_size_lem = t.made.next;
    }

layout_rest : ℕ → List ℕ → ℕ → ℕ → List Column → Copies → History → Copies → Checked Layout
layout_rest u s size text cs m0 h m2 =
    and_then (attachments_of most_copies s (link_at s 64 3) (copies m2.memo (data_end (on_unit u) s size (structure_end s size (past_copies m2) cs) cs)))
    (λ t. ok (layout_of u s size text cs m0 h m2 t))

layout-next : (u : ℕ) (s : List ℕ) (size text : ℕ) (cs : List Column) {m0 : Copies} {h : History} → copy_root most_copies s (link_at s 64 5) (copies [] 168) ≡ ok m0
    → history_of most_copies s (link_at s 64 1) m0 ≡ ok h
    → layout (on_unit u) s size text cs ≡ and_then (column_copies most_copies s cs (copies h.made.memo (fh_place h.made text + 56))) (λ m2. layout_rest u s size text cs m0 h m2)
unfolding layout layout_rest layout_of
layout-next u s size text cs a b = rw (a, b)

module _ (u : ℕ) (ph : Bool) (s : List ℕ) (size text : ℕ) (w f : List ℕ) (n : ℕ) (m : List ℕ) where
  pub whole_first : (m' : List ℕ) {m'' : List ℕ} (g : Result Chain Refusal) {x : Refusal} → Begins most_copies s m m' g → g ≡ Err x → LaysOut u ph s size text w f n m m'' (Err x)
  whole_first m' g h e = record { is = λ k cs x l r. layout-first u s size text cs (subst (Begins most_copies s m m') e h) }

  module _ {count : ℕ} {m₁ : List ℕ} {st : Copying} (o : FirstCopies most_copies count s m m₁ st) {md x : ℕ} (i : md ≡ align8 st.next) (j : x ≡ md_size text)
      {m₂ : List ℕ} {g : Result Copying Refusal} (c : Copied m₁ m₂ g (copies_of most_copies s w 0 n (standing m₁ (record { used = st.used; next = md + x + 56 })))) where
    module _ (k : ℕ) (cs : List Column) (z : Columns w f k 0 cs) (l : length cs ≡ n) where
      columns_is : copies_of most_copies s w 0 n (standing m₁ (record { used = st.used; next = md + x + 56 }))
          ≡ column_copies most_copies s cs (copies (copies_in m₁ st.used) (fh_place (standing m₁ st) text + 56))
      unfolding fh_place past_copies
      columns_is = rw (← l, i, j) (copies_of_lem ph s size w f most_copies k 0 cs (copies (copies_in m₁ st.used) (align8 st.next + md_size text + 56)) z)

      columns-next : {v : Checked Copies} → v ≡ copies_of most_copies s w 0 n (standing m₁ (record { used = st.used; next = md + x + 56 }))
          → layout (on_unit u) s size text cs ≡ and_then v (λ m2. layout_rest u s size text cs o.comment (history (chain_in m₁ count) (standing m₁ st)) m2)
      columns-next e =
          layout-next u s size text cs o.is_comment o.is_past_lem
          ∙ ap (λ (v : Checked Copies). and_then v (λ m2. layout_rest u s size text cs o.comment (history (chain_in m₁ count) (standing m₁ st)) m2)) (sym (e ∙ columns_is))

    pub whole_columns : {m' : List ℕ} {y : Refusal} → g ≡ Err y → LaysOut u ph s size text w f n m m' (Err y)
    whole_columns e = record { is = λ k cs z l rf. columns-next k cs z l (copied_refused c e) }

    module _ {t : Copying} (e : g ≡ Ok t) where
      ends_is : (k : ℕ) (cs : List Column) → Columns w f k 0 cs → length cs ≡ n → Referring ph s cs → metadata_end_in ph s size w n t ≡ structure_end s size (past_copies (standing m₂ t)) cs
      unfolding past_copies
      ends_is k cs z l rf = rw (← l) (structures_of ph s size w f k 0 (align8 t.next) cs z rf)

      rest_of : (k : ℕ) (cs : List Column) → Columns w f k 0 cs → length cs ≡ n → Referring ph s cs
          → attached_in u ph s size w f n m₂ t
          ≡ attachments_of most_copies s (link_at s 64 3) (copies (copies_in m₂ t.used) (data_end (on_unit u) s size (structure_end s size (past_copies (standing m₂ t)) cs) cs))
      rest_of k cs z l rf =
          let d : data_in u s size w f 0 n (metadata_end_in ph s size w n t) ≡ data_end (on_unit u) s size (structure_end s size (past_copies (standing m₂ t)) cs) cs =
          ap (data_in u s size w f 0 n) (ends_is k cs z l rf) ∙ rw (← l) (data_of ph s size w f (on_unit u) k 0 (structure_end s size (past_copies (standing m₂ t)) cs) cs z) in
          rw d

      pub whole_rest : {m' : List ℕ} (r : Result Rest Refusal) {y : Refusal} → Rests u ph s size w f n m₂ m' t r → r ≡ Err y → LaysOut u ph s size text w f n m m' (Err y)
      unfolding layout_rest
      whole_rest {m'} r h q = record {
        is = λ k cs z l rf.
            let v = subst (Rests u ph s size w f n m₂ m' t) q h in
            columns-next k cs z l (copied_at c e).0 ∙ rw (← rest_of k cs z l rf, v);
      }

      module _ {m₃ : List ℕ} {ats end : ℕ} {v : Copying} (q : Rested u ph s size w f n m₂ m₃ t ats end v)
          (same₁ : length m₁ ≡ length m) (same₂ : length m₂ ≡ length m₁) (same₃ : length m₃ ≡ length m₂) (long : 8192 ≤ length m)
          (after : AfterGot g (record { used = st.used; next = md + x + 56 })) where
        past_all : Past (2 * v.used) (blit attachments_at (attachment_words q.told.attachments)
            (blit placed_at (placed_in u ph s size w f 0 n (align8 t.next) (metadata_end_in ph s size w n t)) (blit history_at (chain_in m₁ count) m))) m₃
        past_all =
            let y = after-at after e in
            let p : Past (2 * t.used) (blit history_at (chain_in m₁ count) m) m₂ =
            past_then (past_more _ (omega (arith, y.more)) o.past) (copied_at c e).1 in
            past_then
            (past-blit (attachment_words q.told.attachments) 4100 (omega (arith, q.most))
            (past-blit (placed_in u ph s size w f 0 n (align8 t.next) (metadata_end_in ph s size w n t)) 6656 (omega (arith, q.most))
            (past_more _ (omega (arith, q.more)) p)))
            q.past

        chain-long : length (chain_in m₁ count) ≡ count
        chain-long = length_part 4352 count m₁ (omega (arith, o.few))

        words-all : m₃ ≡ blit placed_at (placed_in u ph s size w f 0 n (align8 t.next) (metadata_end_in ph s size w n t))
            (blit history_at (chain_in m₁ count) (blit attachments_at (attachment_words q.told.attachments) (blit 0 (copy_words q.told.made.memo) m)))
        words-all =
            rw q.made (all_placed m m₃ v.used (chain_in m₁ count) q.told.attachments
            (placed_in u ph s size w f 0 n (align8 t.next) (metadata_end_in ph s size w n t)) (omega arith) (omega arith) q.most
            (omega (arith, q.counted, q.few)) (omega (arith, chain-long, o.few)) past_all)

        placed_is : (k : ℕ) (cs : List Column) → Columns w f k 0 cs → length cs ≡ n → Referring ph s cs
            → placed_in u ph s size w f 0 n (align8 t.next) (metadata_end_in ph s size w n t)
            ≡ placed_words (placed_from (on_unit u) s size (past_copies (standing m₂ t)) (structure_end s size (past_copies (standing m₂ t)) cs) cs)
        unfolding past_copies
        placed_is k cs z l rf =
            ap (placed_in u ph s size w f 0 n (align8 t.next)) (ends_is k cs z l rf)
            ∙ rw (← l) (placed_of ph s size w f (on_unit u) k 0 (align8 t.next) (structure_end s size (align8 t.next) cs) cs z rf)

        numbers_all : (k : ℕ) (cs : List Column) → Columns w f k 0 cs → length cs ≡ n → Referring ph s cs
            → Numbered (layout_of u s size text cs o.comment (history (chain_in m₁ count) (standing m₁ st)) (standing m₂ t) q.told) m m₃
            (record {
              history = st.used;
              chain = count;
              md = md;
              fh = md + x;
              metadata = t.used;
              copies = v.used;
              attachments = ats;
              metadata_end = end;
              file_size = v.next;
            })
        unfolding layout_of laid_copies past_copies fh_place
        numbers_all k cs z l rf =
            record {
              history = sym (length-copies m₁ 0 st.used);
              chain = sym chain-long;
              md = i;
              fh = rw (i, j);
              metadata = sym (length-copies m₂ 0 t.used);
              copies = sym (ap (λ (y : Copies). length y.memo) q.made ∙ length-copies m₃ 0 v.used);
              attachments = sym q.counted;
              metadata_end_lem = q.ends ∙ ends_is k cs z l rf;
              file_size_lem = sym (ap (λ (y : Copies). y.next) q.made);
              words = words-all ∙ ap (λ (y : List ℕ). blit placed_at y (blit history_at (chain_in m₁ count)
                  (blit attachments_at (attachment_words q.told.attachments) (blit 0 (copy_words q.told.made.memo) m)))) (placed_is k cs z l rf);
            }

        pub whole_done : LaysOut u ph s size text w f n m m₃ (Ok (record {
          history = st.used;
          chain = count;
          md = md;
          fh = md + x;
          metadata = t.used;
          copies = v.used;
          attachments = ats;
          metadata_end = end;
          file_size = v.next;
        }))
        unfolding layout_rest
        whole_done = record {
          is = λ k cs z l rf. record {
            told = layout_of u s size text cs o.comment (history (chain_in m₁ count) (standing m₁ st)) (standing m₂ t) q.told;
            is = columns-next k cs z l (copied_at c e).0 ∙ rw (← rest_of k cs z l rf, q.is);
            numbered = numbers_all k cs z l rf;
          };
        }
