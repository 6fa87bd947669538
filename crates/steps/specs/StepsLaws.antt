-- Laws of a conversion in steps.
use Prim.Native.Nat.{ℕ, zero, suc, ◌+◌, ◌*◌, ◌-◌, ◌/◌, ◌%◌, ◌≤◌, ◌<◌, min, max}
use mathlib.Core.List.{List, [], ◌∷◌, ◌++◌, append_assoc}
use Rattle.std.proofs.Math.Logic.{⊎_elim}
use Rattle.std.specs.Prelude.{◌≡◌, length, get_or, take, drop, replicate, Result, Ok, Err}
use Rattle.std.proofs.Math.Path.{refl, ap}
use Rattle.std.proofs.Common.{sym, subst, ◌∙◌, arith, drop-drop}
use borrow.Rule.Slice.PartMut.{put_mid, mid_of, mid_len}
use Rattle.base.specs.Blit.{blit, part}
use Rattle.base.specs.BlitLaws.{blit_is}
use Rattle.base.specs.ChoiceLaws.{lt_yes, lt_no, eq_yes, eq_no}
use Rattle.base.specs.Checked.{Checked, ok, and_then}
use Rattle.base.specs.CheckedLaws.{then_ok}
use Rattle.result.specs.Result.{Args, Decided, decided, answer, work_in}
use Rattle.plan_laws.specs.Decision.{answer_accepted}
use Rattle.plan_laws.specs.Known.{Known, decided-known}
use Rattle.stores.specs.Cases.{lt_or_le}
use Rattle.stores.specs.Over.{over}
use Rattle.stores.specs.OverLaws.{over-part}
use Rattle.stores.specs.Stores.{pages, steps_of, stored, listed, Named, onward, does}
use Rattle.stores.proofs.StoresLaws.{stored-first, page-lent, last_lent}
use Rattle.stores_laws.specs.Steps.{file-length, file_least}
use Rattle.placing.specs.declared.layout.Numbers.{Numbers}
use Rattle.choices.specs.declared.Choices.{Choices}
use Rattle.positions.specs.declared.Positions.{Positions}
use Rattle.positions.specs.Held.{held_from, state_of, at_first}
use Rattle.writing.specs.declared.convert.Report as counted
use Rattle.writing.specs.Answer.{args, file_for}
use Rattle.writing.specs.Data.{Kept}
use Rattle.writing.specs.Omissions as omissions
use Rattle.writing.specs.FinishLaws.{stands_omissions, stands_words, stands_long, stands_listed}
use Rattle.writing.specs.declared.begin.Beginning.{Beginning}
use Rattle.fields.specs.declared.refusal.Refusal.{Refusal}
use Rattle.writing.specs.Beginning as beginning
use Rattle.writing.specs.Beginning.{AcceptedCall}
use Rattle.choices.specs.Chosen.{rules}
use Rattle.placing.specs.Decision.{four}
use Rattle.steps.specs.declared.begin.Started.{Started}
use Rattle.window_file.specs.declared.Held.{Held}
use Rattle.window_file.specs.Window.{WritesWindow}
use Rattle.steps.specs.declared.conversion.Conversion.{Conversion}
use Rattle.steps.specs.declared.span.Span.{Span}
use Rattle.steps.specs.Conversion.{held_of, choices_of, positions_of, call_of, at_positions, at_next, begun_as}
use Rattle.steps.specs.Span.{SpanOf}
use Rattle.steps.specs.Steps.{cleared, list_for, Holds, started_as, Begins, Starts, running_of, stepped, OneStore, Lent, lent, all_cleared, Bounded}

-- ---- how many steps
pub steps_by : (n : ℕ) → n / 4096 + min 1 (n % 4096) + 2 ≡ steps_of n
unfolding steps_of pages
steps_by n = omega arith

-- ---- words of zeros keep no places
first-zero : (p : List ℕ) → get_or (cleared p) 0 0 ≡ 0
first-zero [] = refl
first-zero (x ∷ p) = refl

pub kept-cleared : (s w : List ℕ) (n : ℕ) (fs : List ℕ) (nf : ℕ) (p q : List ℕ) → Kept s w n fs nf (cleared p) (cleared q)
kept-cleared s w n fs nf p q =
    let a = first-zero p in
    let b = first-zero q in
    record {
      stretches = record { right = λ i h. absurd (omega (arith, a, h)) };
      offsets = record { right = λ i d g e k h. absurd (omega (arith, b, h)); inside = λ i d g e k h. absurd (omega (arith, b, h)) };
    }

-- ---- begun
first-state : (size time : ℕ) (chosen : Choices) (i f c o : ℕ) (n : Numbers) → state_of (positions_of (begun_as size time chosen i f c o n)) ≡ at_first
unfolding held_from
first-state size time chosen i f c o n = refl

then_answer : (ws : List (List ℕ)) (x : Args) (out list : ℕ) {d : Decided} → and_then (work_in ws) (λ _. answer x out list) ≡ ok d → answer x out list ≡ ok d
then_answer ws x out list e = (then_ok (work_in ws) _ e).2

pub begins_done : (x : Args) (out list items pieces columns omitted : ℕ) (n : Numbers) (chosen : Choices) (ws : List (List ℕ)) (p q : List ℕ) {v f w m p' q' : List ℕ}
    {r : counted.Report} {k : Conversion} → k ≡ begun_as x.block_size x.time chosen items pieces columns omitted n
    → call_of (begun_as x.block_size x.time chosen items pieces columns omitted n) x.image x.ident x.text x.table ≡ x
    → AcceptedCall x out list items pieces columns omitted n r ws v f w m → p' ≡ cleared p → q' ≡ cleared q → Begins x out list ws k v f w m p' q'
begins_done x out list items pieces columns omitted n chosen ws p q {v} {f} e c a i j =
    let st = a.stands in
    let t = answer_accepted x out list st.by.told (then_answer ws x out list a.is) in
    rw e (record {
      call = c;
      first = first-state x.block_size x.time chosen items pieces columns omitted n;
      holds = record { stands = st; kept = rw (i, j) (kept-cleared x.image v items (take 3072 f) pieces p q); steps = refl };
      file_fits = omega (arith, t.output_fits, st.by.numbered.file_size_lem);
      list_fits = omega (arith, t.list_fits, stands_words st);
    })

pub starts_as : (image : List ℕ) (size : ℕ) (ident text : List ℕ) (time : ℕ) (chosen : Choices) (table : List ℕ) (out list : ℕ) (a b c d p q : List ℕ) (r : Result Beginning Refusal)
    (a' b' c' d' : List ℕ) {p' q' : List ℕ} {y : Result Started Refusal} → y ≡ started_as size time chosen r
    → beginning.Begins (args image size ident text time (rules chosen table)) out list a b c d r a' b' c' d' → p' ≡ cleared p → q' ≡ cleared q
    → Starts (args image size ident text time (rules chosen table)) out list a b c d p q y a' b' c' d' p' q'
starts_as image size ident text time chosen table out list a b c d p q (Err x) a' b' c' d' e h i j = rw e (h, i, j)
starts_as image size ident text time chosen table out list a b c d p q (Ok s) a' b' c' d' e h i j =
    rw e (h, begins_done (args image size ident text time (rules chosen table)) out list s.items s.fragments s.columns s.omissions s.numbers chosen (four a b c d) p q refl refl h i j, i, j)

-- ---- a store

-- a page or the last, by a callee that was lent its bytes
lent-over : (f file : List ℕ) (a e : ℕ) (b : List ℕ) → a ≤ e → e ≤ length f → e ≤ length file → b ≡ part a (length (mid_of a (e - a) file)) f
    → put_mid a (e - a) file b ≡ put_mid a (e - a) file (over a 0 f (mid_of a (e - a) file))
lent-over f file a e b h g l r =
    let n = mid_len a e file l in
    ap (put_mid a (e - a) file) (r ∙ sym (over-part a f (mid_of a (e - a) file) (omega (arith, n, h, g))))

lent-page : (f file : List ℕ) (j a e : ℕ) (b : List ℕ) → a ≡ max 8 (4096 * j) → e ≡ min (4096 * j + 4096) (length f) → j < pages (length f) → 8 < length f
    → length f ≤ length file → b ≡ part a (length (mid_of a (e - a) file)) f → put_mid a (e - a) file b ≡ stored f (suc j) file
unfolding pages
lent-page f file j a e b p q h g l r =
    lent-over f file a e b (omega (arith, p, q, h, g)) (omega (arith, q)) (omega (arith, q, l)) r ∙ rw (p, q) (page-lent f file j h g l)

lent_last : (f file : List ℕ) (j a e : ℕ) (b : List ℕ) → a ≡ 0 → e ≡ 8 → j ≡ pages (length f) → 8 < length f
    → length f ≤ length file → b ≡ part a (length (mid_of a (e - a) file)) f → put_mid a (e - a) file b ≡ stored f (suc j) file
lent_last f file j a e b p q h g l r =
    lent-over f file a e b (omega (arith, p)) (omega (arith, q, g)) (omega (arith, q, l, g)) r
    ∙ rw (p, q, h) (last_lent f file (omega (arith, g)) l)

-- what a callee that was lent `&mut d[a..a + n]` leaves there, said of the whole
mid_blit : (a n : ℕ) (d b : List ℕ) → a + n ≤ length d → length b ≡ n → put_mid a n d b ≡ blit a b d
mid_blit a n d b h l =
    let k : a + n ≡ a + length b = omega (arith, l) in
    ap (λ (z : List ℕ). take a d ++ (b ++ z)) (drop-drop n a d ∙ ap (λ (j : ℕ). drop j d) k)
    ∙ sym (append_assoc (take a d) b (drop (a + length b) d))
    ∙ sym (blit_is a b d (omega (arith, l, h)))

pub no_store : (file : List ℕ) → OneStore file file
unfolding blit
no_store file = record { at = 0; bytes = []; few = omega arith; is = refl }

pub zeros_store : (file : List ℕ) {last : List ℕ} → last ≡ blit 0 (replicate 8 0) file → OneStore file last
zeros_store file e = record { at = 0; bytes = replicate 8 0; few = omega arith; is = e }

pub lent_store : (file : List ℕ) (j size : ℕ) (s : Span) (b : List ℕ) → SpanOf j size (length file) s
    → length b ≡ length (mid_of s.first (s.past - s.first) file) → OneStore file (put_mid s.first (s.past - s.first) file b)
lent_store file j size s b h n =
    let l : length b ≡ s.past - s.first = n ∙ mid_len s.first s.past file h.inside in
    record {
      at = s.first;
      bytes = b;
      few = omega (arith, l, h.few);
      is = mid_blit s.first (s.past - s.first) file b (omega (arith, h.order, h.inside)) l;
    }

-- ---- where the plan stands
module _ {x : Args} {k : Conversion} {v f w m p q : List ℕ} (h : Holds x k v f w m p q) where
  abbrev made : List ℕ
  made = file_for x (decided x)

  abbrev told : Decided
  told = h.stands.by.told

  known : Known x told
  known = decided-known x told h.stands.by.is

  made-length : length made ≡ k.file_size
  made-length = ap (λ (r : Checked Decided). length (file_for x r)) h.stands.by.is ∙ file-length x told known ∙ sym h.stands.by.numbered.file_size_lem

  made_least : 256 ≤ length made
  made_least = omega (arith, made-length, file_least x told known, h.stands.by.numbered.file_size_lem)

  steps_are : k.steps ≡ steps_of (length made)
  steps_are = h.steps ∙ ap steps_of (sym made-length)

  pub window_fits : (j room : ℕ) (s : Span) (file : List ℕ) → SpanOf j k.file_size room s → room ≡ length file → k.file_size ≤ room
      → s.first + length (mid_of s.first (s.past - s.first) file) ≤ k.file_size
  window_fits j room s file a e l =
      let n = mid_len s.first s.past file (omega (arith, a.inside, e)) in
      let g = made-length in
      let i = made_least in
      ⊎_elim (λ c. let u = a.page c (omega (arith, g, i)) l in omega (arith, n, u.1, a.order))
      (λ c. let u = a.last c (omega (arith, l, g, i)) in omega (arith, n, u.0, u.1, g, i))
      (lt_or_le j (pages k.file_size))

  pub window_written : (a : ℕ) (u : List ℕ) (chosen : Choices) (g : Held) {p' q' last : List ℕ} → chosen ≡ choices_of k → g ≡ held_of k
      → WritesWindow (args x.image k.block_size x.ident x.text k.time (rules chosen x.table)) g v f w m a p p' q q' u last
      → call_of k x.image x.ident x.text x.table ≡ x → a + length u ≤ k.file_size
      → Kept x.image v k.items (take 3072 f) k.pieces p' q' × (last ≡ part a (length u) made)
  window_written a u chosen g {p'} {q'} {last} e i w' c l =
      subst (λ (y : Args). WritesWindow y (held_of k) v f w m a p p' q q' u last) c
      (subst (λ (y : Choices). WritesWindow (args x.image k.block_size x.ident x.text k.time (rules y x.table)) (held_of k) v f w m a p p' q q' u last) e
      (subst (λ (y : Held). WritesWindow (args x.image k.block_size x.ident x.text k.time (rules chosen x.table)) y v f w m a p p' q q' u last) i w'))
      h.stands l h.kept

  pub first-stored : (file : List ℕ) {last : List ℕ} → k.next ≡ 0 → last ≡ blit 0 (replicate 8 0) file → last ≡ stored made k.next file
  first-stored file e r = r ∙ sym (stored-first made file) ∙ ap (λ (j : ℕ). stored made j file) (sym e)

  pub later-stored : (file : List ℕ) (s : Span) (b : List ℕ) → (k.next ≡ 0 → ⊥) → k.next < k.steps → k.file_size ≤ length file
      → SpanOf (k.next - 1) k.file_size (length file) s → b ≡ part s.first (length (mid_of s.first (s.past - s.first) file)) made
      → put_mid s.first (s.past - s.first) file b ≡ stored made k.next file
  unfolding steps_of
  later-stored file s b z lt l a r =
      let g = made-length in
      let i = made_least in
      let n : suc (k.next - 1) ≡ k.next = omega (arith, z) in
      let few : k.next - 1 < pages (length made) + 1 = omega (arith, z, lt, steps_are) in
      ⊎_elim
      (λ c.
      let u = a.page (rw (← g) c) (omega (arith, g, i)) l in
      lent-page made file (k.next - 1) s.first s.past b u.0 (u.1 ∙ ap (min (4096 * (k.next - 1) + 4096)) (sym g)) c (omega (arith, i)) (omega (arith, g, l)) r
      ∙ ap (λ (j : ℕ). stored made j file) n)
      (λ c.
      let u = a.last (rw (← g) c) (omega (arith, l, g, i)) in
      lent_last made file (k.next - 1) s.first s.past b u.0 u.1 (omega (arith, c, few)) (omega (arith, i)) (omega (arith, g, l)) r
      ∙ ap (λ (j : ℕ). stored made j file) n)
      (lt_or_le (k.next - 1) (pages (length made)))

  -- ---- a step, by the definition
  abbrev words : List ℕ
  words = list_for (decided x)

  words_are : words ≡ omissions.listed w k.omissions
  words_are = ap list_for h.stands.by.is ∙ sym (stands_listed h.stands)

  module _ (file list : List ℕ) where
    onward_is : {r : Conversion} {file' list' : List ℕ} → k.next < k.steps → r ≡ at_next k (k.next + 1) → file' ≡ stored made k.next file
        → list' ≡ listed (steps_of (length made)) words k.next list → (high : ℕ) → running_of r file' list' (stepped x k file list high).high ≡ stepped x k file list high
    unfolding does
    onward_is {r} {file'} {list'} lt e p q high =
        let g : k.next < steps_of (length made) = omega (arith, lt, steps_are) in
        let y = lt_yes k.next (steps_of (length made)) (onward made words (running_of k file list high)) (running_of k file list high) g refl in
        rw (← y, e, p, q)

    pub step_further : k.steps ≤ k.next → (high : ℕ) → running_of k file list (stepped x k file list high).high ≡ stepped x k file list high
    unfolding does
    step_further g high =
        let y = lt_no k.next (steps_of (length made)) (onward made words (running_of k file list high)) (running_of k file list high) (omega (arith, g, steps_are)) refl in
        rw (← y)

    pub step_before : {r : Conversion} {file' : List ℕ} → k.next + 1 < k.steps → r ≡ at_next k (k.next + 1) → file' ≡ stored made k.next file
        → (high : ℕ) → running_of r file' list (stepped x k file list high).high ≡ stepped x k file list high
    unfolding listed
    step_before lt e s = onward_is (omega (arith, lt)) e s (eq_no _ _ _ _ (λ c. omega (arith, c, lt, steps_are)) refl)

    pub step_last : {r : Conversion} {file' list' : List ℕ} → k.next + 1 ≡ k.steps → r ≡ at_next k (k.next + 1) → file' ≡ stored made k.next file
        → list' ≡ blit 0 (omissions.listed w k.omissions) list
        → (high : ℕ) → running_of r file' list' (stepped x k file list high).high ≡ stepped x k file list high
    unfolding listed
    step_last i e s l =
        onward_is (omega (arith, i)) e s (eq_yes _ _ _ _ (i ∙ steps_are) (l ∙ ap (λ (ys : List ℕ). blit 0 ys list) (sym words_are)))

  pub list-fits : 4096 + 2 * k.omissions ≤ length w
  list-fits = omega (arith, stands_long h.stands, stands_omissions h.stands)

-- the plan stands whatever the positions
pub holds-moved : {x : Args} {k r : Conversion} {n : ℕ} {v f w m p q p' q' : List ℕ} → Holds x k v f w m p q → r ≡ at_next k n
    → Kept x.image v k.items (take 3072 f) k.pieces p' q' → Holds x r v f w m p' q'
holds-moved h e t = rw e (record { stands = h.stands; kept = t; steps = h.steps })

pub holds_named : {x : Args} {k r : Conversion} {v f w m p q : List ℕ} → Holds x k v f w m p q → r ≡ at_positions k (positions_of r) → Holds x r v f w m p q
holds_named h e = rw e (record { stands = h.stands; kept = h.kept; steps = h.steps })

-- ---- positions
-- four names and positions, taken apart
held_four : (ns ps : List ℕ) (k : ℕ) → k ≤ 4
    → held_from (get_or ns 0 0 ∷ get_or ns 1 0 ∷ get_or ns 2 0 ∷ get_or ns 3 0 ∷ []) (get_or ps 0 0 ∷ get_or ps 1 0 ∷ get_or ps 2 0 ∷ get_or ps 3 0 ∷ []) 0 k
    ≡ held_from ns ps 0 k
unfolding held_from
held_four ns ps zero h = refl
held_four ns ps (suc zero) h = refl
held_four ns ps (suc (suc zero)) h = refl
held_four ns ps (suc (suc (suc zero))) h = refl
held_four ns ps (suc (suc (suc (suc zero)))) h = refl
held_four ns ps (suc (suc (suc (suc (suc k))))) h = absurd (omega (arith, h))

pub moved_as : (k : Conversion) (p : Positions) → state_of (positions_of (at_positions k p)) ≡ state_of p
moved_as k p = ap (λ (hs : List Named). record { next = p.next; held = hs }) (held_four p.names p.places (min p.count 4) (omega arith))

-- ---- of any state
pub all-cleared : (v f w m p q : List ℕ) {v' f' w' m' p' q' : List ℕ} → v' ≡ cleared v → f' ≡ cleared f → w' ≡ cleared w → m' ≡ cleared m → p' ≡ cleared p → q' ≡ cleared q
    → lent v' f' w' m' p' q' ≡ all_cleared (lent v f w m p q)
all-cleared v f w m p q a b c d e g = rw (a, b, c, d, e, g)

pub before_steps : (k : Conversion) {r : Conversion} → r ≡ at_next k (k.next + 1) → r.next < k.steps → k.next + 1 < k.steps
before_steps k e h = rw e at h

pub last_step : (k : Conversion) {r : Conversion} → r ≡ at_next k (k.next + 1) → k.next < k.steps → k.steps ≤ r.next → k.next + 1 ≡ k.steps
last_step k e g h = let i = rw e at h in omega (arith, g, i)

pub further_bounded : (k : Conversion) (file list : List ℕ) (l : Lent) → k.steps ≤ k.next → Bounded k k file file list list l l
further_bounded k file list l h = record {
  further = λ g. (refl, refl, refl, refl);
  onward = λ g. absurd (omega (arith, g, h));
  store = no_store file;
  before = λ g. absurd (omega (arith, g, h));
  last = λ g. absurd (omega (arith, g, h));
}

pub before_bounded : (k : Conversion) (list : List ℕ) (l l' : Lent) {r : Conversion} {file file' : List ℕ} → k.next + 1 < k.steps → r ≡ at_next k (k.next + 1)
    → OneStore file file' → l' ≡ lent l.source l.fragments l.columns l.copies l'.stretches l'.offsets → Bounded k r file file' list list l l'
before_bounded k list l l' h e s same = record {
  further = λ g. absurd (omega (arith, g, h));
  onward = λ g. e;
  store = s;
  before = λ g. (refl, same);
  last = λ g. absurd (omega (arith, g, h));
}

pub last_bounded : (k : Conversion) (l l' : Lent) (p q : List ℕ) {r : Conversion} {file file' list list' : List ℕ} → k.next + 1 ≡ k.steps → r ≡ at_next k (k.next + 1)
    → OneStore file file' → length p ≡ length l.stretches → length q ≡ length l.offsets
    → l' ≡ all_cleared (lent l.source l.fragments l.columns l.copies p q) → Bounded k r file file' list list' l l'
last_bounded k l l' p q h e s a b c = record {
  further = λ g. absurd (omega (arith, g, h));
  onward = λ g. e;
  store = s;
  before = λ g. absurd (omega (arith, g, h));
  last = λ g. c ∙ rw (a, b);
}
