-- The turns, entry by entry, are the plot.
use Rattle.std.specs.Prelude.{ℕ, zero, suc, ◌≤◌, ◌<◌, ◌≡◌, Bool, true, false, leb, get_or}
use Rattle.std.proofs.Math.Path.{refl, ap}
use Rattle.std.proofs.Common.{◌∙◌, sym, arith, leb-true, leb-false}
use mathlib.Core.List.{List, [], ◌∷◌}
use Rattle.std.proofs.Math.ListN.{length}
use Rattle.base.specs.Choice.{pick, if_le}
use Rattle.base.specs.ChoiceLaws.{lt_yes, lt_no}
use Rattle.base.specs.Checked.{Checked, ok, refused, Verdict}
use Rattle.file.specs.Form.{FileColumn}
use Rattle.file.specs.Opened.{opened}
use Rattle.file.specs.Range.{asked, Copied}
use Rattle.file.specs.Plot.{Entry, single, stopped, entry_then, plot_from, plotted}
use Rattle.file_laws.specs.PlotLaws.{single_refused, from_open, plot_many, plot_few}
use Rattle.std.specs.Prelude.{Result, Ok, Err, ⊤}
use Rattle.fields.specs.declared.refusal.Refusal.{Refusal}
use Rattle.fields.specs.Answer.{number_of, place_of}
use Rattle.reading.specs.Steps.{refused_as}
use Rattle.ranges.specs.Read.{copied_as}
use Rattle.ranges.specs.Open.{Holds, opening}
use Rattle.ranges.specs.declared.plot.Request.{Request}
use Rattle.ranges.specs.declared.plot.Plotting.{Plotting}
use Rattle.ranges.specs.Turn.{entry_of, entries_of, Laid, laid, clear, ended, answered, state_after, after_entry, turn_of, turns_of, open_state, start_of}

abbrev pub none : Request
none = record { column = 0; first = 0; count = 0; place = 0 }

-- t more turns, from entry i on
abbrev pub turns_from : List ℕ → List Request → ℕ → ℕ → Laid → Laid
turns_from s ts zero i x = x
turns_from s ts (suc t) i x = turns_from s ts t (suc i) (turn_of s i (get_or ts i none) x)

-- over the entries themselves
abbrev turns_over : List ℕ → ℕ → List Request → Laid → Laid
turns_over s i [] x = x
turns_over s i (r ∷ rs) x = turns_over s (suc i) rs (turn_of s i r x)

-- ---- one turn
module _ (s : List ℕ) (i : ℕ) (r : Request) (x : Laid) where
  pub turn_ended : x.state.accepted ≡ false → x ≡ turn_of s i r x
  unfolding turn_of
  turn_ended q = ap (λ (b : Bool). pick b (after_entry i x.state (single s (entry_of r) x.bytes)) x) (sym q)

  turn_reads : x.state.accepted ≡ true → after_entry i x.state (single s (entry_of r) x.bytes) ≡ turn_of s i r x
  unfolding turn_of
  turn_reads q = ap (λ (b : Bool). pick b (after_entry i x.state (single s (entry_of r) x.bytes)) x) (sym q)

  -- by what the entry's read answers
  module _ (d : List ℕ) (g : Result ⊤ Refusal) (q : x.state.accepted ≡ true) (e : copied_as g d ≡ single s (entry_of r) x.bytes) where
    pub turn_fine : {u : ⊤} → g ≡ Ok u → laid x.state d ≡ turn_of s i r x
    turn_fine z = ap (λ (v : Result ⊤ Refusal). after_entry i x.state (copied_as v d)) (sym z) ∙ ap (after_entry i x.state) e ∙ turn_reads q

    pub turn_ends : {y : Refusal} → g ≡ Err y → laid (ended (number_of y) (place_of y) i) d ≡ turn_of s i r x
    turn_ends z = ap (λ (v : Result ⊤ Refusal). after_entry i x.state (copied_as v d)) (sym z) ∙ ap (after_entry i x.state) e ∙ turn_reads q

  -- where none is refused after it, none was before it
  pub turn_keeps : (turn_of s i r x).state.accepted ≡ true → x.state.accepted ≡ true
  turn_keeps q = go x.state.accepted refl
    where
      go : (b : Bool) → x.state.accepted ≡ b → x.state.accepted ≡ true
      go true e = e
      go false e = ap (λ (y : Laid). y.state.accepted) (turn_ended e) ∙ q

-- ---- all turns

-- once refused, nothing changes
over-ended : (s : List ℕ) (i : ℕ) (rs : List Request) (x : Laid) → x.state.accepted ≡ false → turns_over s i rs x ≡ x
over-ended s i [] x q = refl
over-ended s i (r ∷ rs) x q = ap (turns_over s (suc i) rs) (sym (turn_ended s i r x q)) ∙ over-ended s (suc i) rs x q

turn_clear : (s : List ℕ) (i : ℕ) (r : Request) (d : List ℕ) → turn_of s i r (laid clear d) ≡ after_entry i clear (single s (entry_of r) d)
unfolding turn_of
turn_clear s i r d = refl

over_plot : (s : List ℕ) (i : ℕ) (rs : List Request) (d : List ℕ) → turns_over s i rs (laid clear d) ≡ answered (plot_from s i (entries_of rs) d)
unfolding plot_from
over_plot s i [] d = refl
over_plot s i (r ∷ rs) d =
    ap (turns_over s (suc i) rs) (turn_clear s i r d)
    ∙ go (single s (entry_of r) d).answered (over_plot s (suc i) rs (single s (entry_of r) d).buffer)
    ∙ ap answered (sym (from_open s i (entry_of r) (entries_of rs) d))
  where
    b : List ℕ
    b = (single s (entry_of r) d).buffer

    go : (v : Verdict) → turns_over s (suc i) rs (laid clear b) ≡ answered (plot_from s (suc i) (entries_of rs) b)
        → turns_over s (suc i) rs (laid (state_after i clear v) b) ≡ answered (entry_then i v b (plot_from s (suc i) (entries_of rs) b))
    go (ok t) q = q
    go (refused number place) q = over-ended s (suc i) rs (laid (ended number place i) b) refl

-- entry j of ts is entry number i
abbrev turns_at : List ℕ → List Request → ℕ → ℕ → ℕ → Laid → Laid
turns_at s ts zero j i x = x
turns_at s ts (suc t) j i x = turns_at s ts t (suc j) (suc i) (turn_of s i (get_or ts j none) x)

same : (s : List ℕ) (ts : List Request) (t i : ℕ) (x : Laid) → turns_from s ts t i x ≡ turns_at s ts t i i x
same s ts zero i x = refl
same s ts (suc t) i x = same s ts t (suc i) (turn_of s i (get_or ts i none) x)

shifted : (s : List ℕ) (r : Request) (ts : List Request) (t j i : ℕ) (x : Laid) → turns_at s (r ∷ ts) t (suc j) i x ≡ turns_at s ts t j i x
shifted s r ts zero j i x = refl
shifted s r ts (suc t) j i x = shifted s r ts t (suc j) (suc i) (turn_of s i (get_or ts j none) x)

at-over : (s : List ℕ) (ts : List Request) (i : ℕ) (x : Laid) → turns_at s ts (length ts) 0 i x ≡ turns_over s i ts x
at-over s [] i x = refl
at-over s (r ∷ ts) i x = shifted s r ts (length ts) 0 (suc i) (turn_of s i r x) ∙ at-over s ts (suc i) (turn_of s i r x)

entries-length : (ts : List Request) → length (entries_of ts) ≡ length ts
entries-length [] = refl
entries-length (r ∷ ts) = ap suc (entries-length ts)

pub few : (n : ℕ) → turns_of n ≤ n
unfolding turns_of if_le
few n = go (leb n 256)
  where
    go : (t : Bool) → pick t n 0 ≤ n
    go true = omega arith
    go false = omega arith

-- ---- the start
pub never : {A : Type 0} → ◌≡◌ {A = Bool} false true → A
never q = absurd (let z : ◌≡◌ {A = ℕ} 0 1 = cc in omega arith)

-- an image that is not opened is refused with entry 0
unopened : (s : List ℕ) (e : Entry) (number place : ℕ) → opened s ≡ refused number place → asked s e.column e.first e.count ≡ refused number place
unfolding asked
unopened s e number place q = rw q

module _ (s : List ℕ) where
  pub start-many : (n : ℕ) → 256 < n → ended 25 0 0 ≡ start_of s n
  unfolding start_of
  start-many n h = lt_yes _ _ _ _ h refl

  pub start_none : (n : ℕ) → n ≤ 0 → clear ≡ start_of s n
  unfolding start_of
  start_none n h = lt_no _ _ _ _ (omega arith) (lt_no _ _ _ _ h refl)

  pub start_opens : (n : ℕ) → n ≤ 256 → 0 < n → open_state (opened s) ≡ start_of s n
  unfolding start_of
  start_opens n h g = lt_no _ _ _ _ h (lt_yes _ _ _ _ g refl)

module _ (s : List ℕ) (d : List ℕ) where
  -- from the start, over some entries
  over-start : (rs : List Request) (v : Checked (List FileColumn)) → opened s ≡ v → 0 < length rs
      → turns_over s 0 rs (laid (open_state v) d) ≡ answered (plot_from s 0 (entries_of rs) d)
  unfolding plot_from
  over-start rs (ok cs) q h = over_plot s 0 rs d
  over-start [] (refused number place) q h = absurd (omega arith)
  over-start (r ∷ rs) (refused number place) q h =
      let f = single_refused s (entry_of r) d number place (unopened s (entry_of r) number place q) in
      let g : entry_then 0 (single s (entry_of r) d).answered (single s (entry_of r) d).buffer (plot_from s 1 (entries_of rs) (single s (entry_of r) d).buffer)
      ≡ record { outcome = stopped number place 0; destination = d } =
      ap (λ (x : Copied). entry_then 0 x.answered x.buffer (plot_from s 1 (entries_of rs) x.buffer)) f in
      over-ended s 0 (r ∷ rs) (laid (ended number place 0) d) refl
      ∙ ap answered (sym (from_open s 0 (entry_of r) (entries_of rs) d ∙ g))

  -- all turns from the start are the plot
  pub whole : (ts : List Request) → turns_from s ts (turns_of (length ts)) 0 (laid (start_of s (length ts)) d) ≡ answered (plotted s (entries_of ts) d)
  unfolding turns_of if_le
  whole ts = go (leb (length ts) 256) refl
    where
      some : (ts : List Request) → length ts ≤ 256 → turns_over s 0 ts (laid (start_of s (length ts)) d) ≡ answered (plot_from s 0 (entries_of ts) d)
      some [] h = ap (λ (p : Plotting). laid p d) (sym (start_none s 0 (omega arith))) ∙ over_plot s 0 [] d
      some (r ∷ rs) h =
          ap (λ (p : Plotting). turns_over s 0 (r ∷ rs) (laid p d)) (sym (start_opens s (suc (length rs)) h (omega arith)))
          ∙ over-start (r ∷ rs) (opened s) refl (omega arith)

      go : (t : Bool) → leb (length ts) 256 ≡ t → turns_from s ts (pick t (length ts) 0) 0 (laid (start_of s (length ts)) d) ≡ answered (plotted s (entries_of ts) d)
      go true q =
          let h = leb-true _ _ q in
          same s ts (length ts) 0 (laid (start_of s (length ts)) d)
          ∙ at-over s ts 0 (laid (start_of s (length ts)) d)
          ∙ some ts h
          ∙ ap answered (sym (plot_few s (entries_of ts) d (rw (entries-length ts) h)))
      go false q =
          let h = leb-false _ _ q in
          ap (λ (p : Plotting). laid p d) (sym (start-many s (length ts) h))
          ∙ ap answered (sym (plot_many s (entries_of ts) d (rw (entries-length ts) h)))

-- ---- the file is opened
module _ (s w : List ℕ) (n : ℕ) (h : n ≤ 256) (g : 0 < n) {v : Result ⊤ Refusal} (e : opening s w v) where
  pub start_refused : {y : Refusal} → v ≡ Err y → ended (number_of y) (place_of y) 0 ≡ start_of s n
  start_refused {y} q =
      let f : refused_as y ≡ opened s = rw q at e in
      ap open_state f ∙ start_opens s n h g

  pub start_fine : {u : ⊤} → v ≡ Ok u → clear ≡ start_of s n
  start_fine q = let f : Holds s w = rw q at e in ap open_state f.columns ∙ start_opens s n h g

  pub start-holds : {u : ⊤} → v ≡ Ok u → Holds s w
  start-holds q = rw q at e
