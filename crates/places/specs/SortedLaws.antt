-- The next records of a group that is alone in its DG: those of the first run ahead that has bytes, at equal distances.
use Rattle.std.specs.Prelude.{ℕ, zero, suc, ◌+◌, ◌*◌, ◌-◌, ◌/◌, ◌%◌, ◌≤◌, ◌<◌, Bool, true, false, List, [], ◌∷◌, ◌++◌, ◌≡◌, refl, length, take, drop}
use Rattle.std.proofs.Common.{sym, ap, ◌∙◌, subst, zero-mul, suc-mul, div-add-mod', div-mul-le_self, mul-le-mul_left, mul-one, arith, length-append, length-drop, take_at, drop_at, drop-drop}
use Rattle.std.proofs.Math.Seq.{take-nil}
use Rattle.std.proofs.lemmas.List.{take-append-le, drop-append-le}
use Rattle.base.specs.Choice.{pick, if_eq}
use Rattle.base.specs.ChoiceLaws.{eq_yes, eq_first}
use Rattle.base.specs.Blit.{part}
use Rattle.base.specs.Checked.{refused, and_then, Verdict, fine}
use Rattle.base.specs.CheckedLaws.{refused≢ok, then_fine}
use Rattle.mdf.specs.Chain.{Kind, dt, dv, Fragment}
use Rattle.mdf.specs.Group.{inval_bytes}
use Rattle.mdf.specs.Records.{most64, ranges_in, joined, any_dv, record_size, id_bytes, runs, size_of, runs_whole, pieces, without_ids, run_records, sorted_records, sorted_in}
use Rattle.work_words.specs.Words.{fragments_of}
use Rattle.payload_laws.specs.Answers.{under}
use Rattle.payload_laws.specs.SortedLaws.{joined_length, sorted_bytes}
use Rattle.records.specs.Ahead.{fragments_from}
use Rattle.places.specs.declared.stretch.Scan.{Scan}
use Rattle.places.specs.declared.sorted.Passed.{Passed}
use Rattle.places.specs.Stretch.{spaced, records_at, body_bytes, Ready, StretchOf}
use Rattle.places.specs.StretchLaws.{length-spaced, length-records_at}
use Rattle.places.specs.Run.{with_bytes, of_kind, past_kind, Begins, never, first, PassedBy, SumOf, QuotientOf}
use Rattle.places.specs.RunLaws.{Sized, some, records_first, whole_first, joined-first, ranges_first, any_here, any_first, of-first}
use Rattle.places.specs.RunLaws.{with_sized, with_joined, with_records, with_whole, with_ranges, with_any}
use Rattle.places.specs.Sorted.{SortedScan}
use Rattle.places.specs.Scan.{NextOf, NextFor}

-- ---- pieces are records at equal distances
drop-take : (m k : ℕ) (l : List ℕ) → drop m (take k l) ≡ take (k - m) (drop m l)
drop-take zero k l = let e : k - 0 ≡ k = omega arith in rw e
drop-take (suc m) zero l = let e : 0 - suc m ≡ 0 = omega arith in rw e
drop-take (suc m) (suc k) [] = sym (take-nil (suc k - suc m))
drop-take (suc m) (suc k) (x ∷ l) = let e : suc k - suc m ≡ k - m = omega arith in rw e (drop-take m k l)

records_drop : (m : ℕ) (l : List ℕ) (b f st q : ℕ) → records_at (drop m l) b (spaced f st q) ≡ records_at l b (spaced (f + m) st q)
unfolding records_at spaced part
records_drop m l b f st zero = refl
records_drop m l b f st (suc q) =
    let e : m + f ≡ f + m = omega arith in
    let h : f + st + m ≡ f + m + st = omega arith in
    let r : records_at (drop m l) b (spaced (f + st) st q) ≡ records_at l b (spaced (f + m + st) st q) = rw (← h) (records_drop m l b (f + st) st q) in
    rw (drop-drop f m l, e, r)

ids_pieces : (i b q : ℕ) (l : List ℕ) → without_ids i (pieces q (i + b) l) ≡ records_at l b (spaced i (i + b) q)
unfolding without_ids pieces records_at spaced part
ids_pieces i b zero l = refl
ids_pieces i b (suc q) l =
    let e : i + b - i ≡ b = omega arith in
    let r = ids_pieces i b q (drop (i + b) l) ∙ records_drop (i + b) l b i (i + b) q in
    rw (drop-take i (i + b) l, e, r)

ids_wide : (i b n q : ℕ) (l : List ℕ) → n ≡ i + b → without_ids i (pieces q n l) ≡ records_at l b (spaced i n q)
ids_wide i b n q l e = rw e (ids_pieces i b q l)

pieces-front : (q n : ℕ) (x y : List ℕ) → q * n ≤ length x → pieces q n (x ++ y) ≡ pieces q n x
unfolding pieces
pieces-front zero n x y h = refl
pieces-front (suc q) n x y h =
    let e : suc q * n ≡ q * n + n = suc-mul q n in
    let r = pieces-front q n (drop n x) y (rw length-drop (omega arith)) in
    rw (take-append-le n x y (omega arith), drop-append-le n x y (omega arith), r)

-- the records of a run whose bytes are found at o
run_stretch : (s : List ℕ) (d g : ℕ) (k : Kind) (fs : List Fragment) (j : List ℕ) (o b : ℕ) (tail : List ℕ) → drop o j ≡ joined s fs ++ tail
    → length (joined s fs) ≡ size_of fs → record_size s d g k ≡ id_bytes s d k + b
    → run_records s d g (record { kind = k; fragments = fs })
    ≡ records_at j b (spaced (o + id_bytes s d k) (record_size s d g k) (size_of fs / record_size s d g k))
unfolding run_records
run_stretch s d g k fs j o b tail e l w =
    let i : ℕ = id_bytes s d k in
    let n : ℕ = record_size s d g k in
    let q : ℕ = size_of fs / n in
    let m = div-mul-le_self (size_of fs) n in
    let a : pieces q n (joined s fs) ≡ pieces q n (drop o j) = sym (ap (pieces q n) e ∙ pieces-front q n (joined s fs) tail (omega arith)) in
    let c : without_ids i (pieces q n (drop o j)) ≡ records_at (drop o j) b (spaced i n q) = ids_wide i b n q (drop o j) w in
    let t : i + o ≡ o + i = omega arith in
    ap (without_ids i) a ∙ c ∙ records_drop o j b i n q ∙ rw t

-- ---- the checks of a group alone in its DG
record Parts (s : List ℕ) (d g : ℕ) (fs : List Fragment) : Type 0 where
  unmixed : any_dv fs ≡ true → inval_bytes s g ≡ 0
  ranges : ranges_in s fs ≡ fine
  whole : runs_whole s d g (runs fs) ≡ fine

sorted_parts : (s : List ℕ) (d g : ℕ) (fs : List Fragment) → sorted_in s d g fs ≡ fine → Parts s d g fs
unfolding sorted_in
sorted_parts s d g fs e =
    let v : Verdict = if_eq (inval_bytes s g) 0 fine (refused 14 d) in
    let a = then_fine (pick (any_dv fs) v fine) (λ _. and_then (ranges_in s fs) (λ _. runs_whole s d g (runs fs))) e in
    let b = then_fine (ranges_in s fs) (λ _. runs_whole s d g (runs fs)) a.1 in
    record { unmixed = λ q. (eq_first _ _ _ _ (under (any_dv fs) v a.0 q) refused≢ok).0; ranges = b.0; whole = b.1 }

unmixed_fine : (s : List ℕ) (d g : ℕ) (b : Bool) → (b ≡ true → inval_bytes s g ≡ 0)
    → pick {A = Verdict} b (if_eq (inval_bytes s g) 0 fine (refused 14 d)) fine ≡ fine
unmixed_fine s d g true h = sym (eq_yes _ _ _ _ (h refl) refl)
unmixed_fine s d g false h = refl

parts_sorted : {s : List ℕ} {d g : ℕ} {fs : List Fragment} → Parts s d g fs → sorted_in s d g fs ≡ fine
unfolding sorted_in
parts_sorted {s} {d} {g} {fs} p = rw (unmixed_fine s d g (any_dv fs) p.unmixed, p.ranges) p.whole

parts_some : {s : List ℕ} {d g : ℕ} {fs : List Fragment} → Parts s d g fs → Parts s d g (with_bytes fs)
parts_some {s} {d} {g} {fs} p = record {
  unmixed = λ q. p.unmixed (with_any fs q);
  ranges = with_ranges s d g fs p.ranges;
  whole = with_whole s d g fs p.whole;
}

parts_past : {s : List ℕ} {d g : ℕ} {fs : List Fragment} {k : Kind} → Begins k fs → Parts s d g fs → Parts s d g (past_kind k fs)
parts_past {s} {d} {g} {fs} {k} b p = record {
  unmixed = λ q. p.unmixed (any_first k fs q);
  ranges = (ranges_first s k fs p.ranges).1;
  whole = (whole_first s d g b p.whole).1;
}

-- the bytes of a record are its id and its body
wide_dt : (s : List ℕ) (d g : ℕ) (k : Kind) → k ≡ dt → record_size s d g k ≡ id_bytes s d k + body_bytes s g
wide_dt s d g k e = rw e (omega arith)

wide_dv : (s : List ℕ) (d g : ℕ) (k : Kind) → (k ≡ dv → inval_bytes s g ≡ 0) → record_size s d g k ≡ id_bytes s d k + body_bytes s g
wide_dv s d g dt h = omega arith
wide_dv s d g dv h = let z = h refl in omega arith

wide : {s : List ℕ} {d g : ℕ} {fs : List Fragment} {k : Kind} → Begins k fs → Parts s d g fs
    → record_size s d g k ≡ id_bytes s d k + body_bytes s g
wide {s} {d} {g} {k = k} (never e) p = wide_dt s d g k e
wide {s} {d} {g} {k = k} (first {f} {fs} e) p = wide_dv s d g k (λ q. p.unmixed (any_here f fs (e ∙ q)))

-- ---- fragments that hold the rest of all
record Rest (s : List ℕ) (d g : ℕ) (all fs : List Fragment) (o m : ℕ) : Type 0 where
  parts : Parts s d g fs
  rest : joined s fs ≡ drop o (joined s all)
  within : o ≤ length (joined s all)
  records : sorted_records s d g (runs fs) ≡ drop m (sorted_records s d g (runs all))
  few : m ≤ length (sorted_records s d g (runs all))

rest_some : {s : List ℕ} {d g : ℕ} {all fs : List Fragment} {o m : ℕ} → Rest s d g all fs o m → Rest s d g all (with_bytes fs) o m
rest_some {s} {d} {g} {all} {fs} r = record {
  parts = parts_some r.parts;
  rest = with_joined s d g fs ∙ r.rest;
  within = r.within;
  records = with_records s d g fs ∙ r.records;
  few = r.few;
}

-- the first run of them, of kind k: its records at equal distances
module _ {s : List ℕ} {d g : ℕ} {all fs : List Fragment} {o m : ℕ} {k : Kind} (b : Begins k fs) (r : Rest s d g all fs o m) where
  here-length : length (joined s (of_kind k fs)) ≡ size_of (of_kind k fs)
  here-length = joined_length s (of_kind k fs) (ranges_first s k fs r.parts.ranges).0

  parted : drop o (joined s all) ≡ joined s (of_kind k fs) ++ joined s (past_kind k fs)
  parted = sym r.rest ∙ joined-first s k fs

  in_order : drop m (sorted_records s d g (runs all))
      ≡ run_records s d g (record { kind = k; fragments = of_kind k fs }) ++ sorted_records s d g (runs (past_kind k fs))
  in_order = sym r.records ∙ records_first s d g b

  are_here : run_records s d g (record { kind = k; fragments = of_kind k fs })
      ≡ records_at (joined s all) (body_bytes s g)
      (spaced (o + id_bytes s d k) (record_size s d g k) (size_of (of_kind k fs) / record_size s d g k))
  are_here = run_stretch s d g k (of_kind k fs) (joined s all) o (body_bytes s g) (joined s (past_kind k fs)) parted here-length (wide b r.parts)

  length-here : length (run_records s d g (record { kind = k; fragments = of_kind k fs })) ≡ size_of (of_kind k fs) / record_size s d g k
  length-here = ap length are_here ∙ length-records_at _ _ _ ∙ length-spaced _ _ _

  ends-within : o + size_of (of_kind k fs) ≤ length (joined s all)
  ends-within =
      let a = ap length parted in
      let c = length-append (joined s (of_kind k fs)) (joined s (past_kind k fs)) in
      let e = length-drop o (joined s all) in
      let h = here-length in
      let w = r.within in
      omega arith

  ends-few : m + size_of (of_kind k fs) / record_size s d g k ≤ length (sorted_records s d g (runs all))
  ends-few =
      let a = ap length in_order in
      let c = length-append (run_records s d g (record { kind = k; fragments = of_kind k fs })) (sorted_records s d g (runs (past_kind k fs))) in
      let e = length-drop m (sorted_records s d g (runs all)) in
      let h = length-here in
      let w = r.few in
      omega arith

  rest-past : Rest s d g all (past_kind k fs) (o + size_of (of_kind k fs)) (m + size_of (of_kind k fs) / record_size s d g k)
  rest-past = record {
    parts = parts_past b r.parts;
    rest = sym (sym (drop-drop (size_of (of_kind k fs)) o (joined s all)) ∙ ap (drop (size_of (of_kind k fs))) parted
        ∙ drop_at (joined s (of_kind k fs)) (joined s (past_kind k fs)) (size_of (of_kind k fs)) here-length);
    within = ends-within;
    records = sym (sym (drop-drop (size_of (of_kind k fs) / record_size s d g k) m (sorted_records s d g (runs all)))
        ∙ ap (drop (size_of (of_kind k fs) / record_size s d g k)) in_order
        ∙ drop_at (run_records s d g (record { kind = k; fragments = of_kind k fs })) (sorted_records s d g (runs (past_kind k fs)))
        (size_of (of_kind k fs) / record_size s d g k) length-here);
    few = ends-few;
  }

  taken_are : take (size_of (of_kind k fs) / record_size s d g k) (drop m (sorted_records s d g (runs all)))
      ≡ records_at (joined s all) (body_bytes s g)
      (spaced (o + id_bytes s d k) (record_size s d g k) (size_of (of_kind k fs) / record_size s d g k))
  taken_are =
      ap (take (size_of (of_kind k fs) / record_size s d g k)) in_order
      ∙ take_at (run_records s d g (record { kind = k; fragments = of_kind k fs })) (sorted_records s d g (runs (past_kind k fs)))
      (size_of (of_kind k fs) / record_size s d g k) length-here
      ∙ are_here

-- ---- a run with bytes has records
some-pieces : (b n : ℕ) → 0 < b → b % n ≡ 0 → 0 < b / n
some-pieces b n h e = go (b / n) refl
  where
    go : (q : ℕ) → b / n ≡ q → 0 < q
    go zero z = let a = div-add-mod' b n in let c : b / n * n ≡ 0 = rw z (zero-mul n) in absurd (omega arith)
    go (suc q) z = omega arith

first-bytes : {k : Kind} {fs : List Fragment} → Begins k fs → Sized fs → 0 < length fs → 0 < size_of (of_kind k fs)
unfolding size_of
first-bytes (never e) z h = absurd (omega arith)
first-bytes (first {f} {fs} e) (some z) h = subst (λ (k : Kind). 0 < size_of (of_kind k (f ∷ fs))) e (let a = ap size_of (of-first f fs) in omega arith)

some-ahead : (s : List ℕ) (d g : ℕ) (fs : List Fragment) → 0 < length (sorted_records s d g (runs fs)) → 0 < length fs
unfolding runs sorted_records
some-ahead s d g [] h = absurd (omega arith)
some-ahead s d g (f ∷ fs) h = omega arith

next-some : {s : List ℕ} {d g : ℕ} {all fs : List Fragment} {o m : ℕ} {k : Kind} → Begins k fs → Sized fs → Rest s d g all fs o m
    → 0 < record_size s d g k → m < length (sorted_records s d g (runs all)) → 0 < size_of (of_kind k fs) / record_size s d g k
next-some {s} {d} {g} {all} {fs} {o} {m} {k} b z r n h =
    let a = ap length r.records in
    let e = length-drop m (sorted_records s d g (runs all)) in
    let l = some-ahead s d g fs (omega arith) in
    some-pieces (size_of (of_kind k fs)) (record_size s d g k) (first-bytes b z l) ((whole_first s d g b r.parts.whole).0 n)

-- ---- the next records
spaced-same : (a b st q : ℕ) → (0 < q → a ≡ b) → spaced a st q ≡ spaced b st q
unfolding spaced
spaced-same a b st zero h = refl
spaced-same a b st (suc q) h = rw (h (omega arith))

-- the last of q records of n bytes each ends with them all
last_ends : (q n i b : ℕ) → 0 < q → n ≡ i + b → i + (q - 1) * n + b ≡ q * n
last_ends zero n i b h e = absurd (omega arith)
last_ends (suc q) n i b h e =
    let a : suc q - 1 ≡ q = omega arith in
    rw a (omega (arith, suc-mul q n))

-- no more records than bytes
few_records : (n b most : ℕ) → 0 < b → n * b ≤ most → n ≤ most
few_records n b most h l = let a = mul-le-mul_left n h in let e = mul-one n in omega arith

-- a place between runs, by its fragments
scan_rest : {s : List ℕ} {d g : ℕ} {ws : List ℕ} {c : Scan} → SortedScan s d g ws c
    → Rest s d g (fragments_of ws) (fragments_from ws c.at) c.offset c.number
unfolding fragments_from
scan_rest {s} {d} {g} {ws} {c} z = record {
  parts = sorted_parts s d g (fragments_of (drop c.at ws)) z.checked;
  rest = z.rest;
  within = z.within;
  records = z.records;
  few = z.few;
}

rest_scan : {s : List ℕ} {d g : ℕ} {ws : List ℕ} (c : Scan) → Rest s d g (fragments_of ws) (fragments_from ws c.at) c.offset c.number
    → SortedScan s d g ws c
unfolding fragments_from
rest_scan c r = record { checked = parts_sorted r.parts; rest = r.rest; within = r.within; records = r.records; few = r.few }

module _ {s : List ℕ} {d g : ℕ} {ws : List ℕ} (c : Scan) (y : Ready s d 0 (g ∷ []) ws)
    (r : Rest s d g (fragments_of ws) (fragments_from ws c.at) c.offset c.number)
    (k : Kind) (at : ℕ) (a : fragments_from ws at ≡ with_bytes (fragments_from ws c.at)) (b : Begins k (fragments_from ws at)) where
  -- what is ahead, from its first bytes on
  ahead : Rest s d g (fragments_of ws) (fragments_from ws at) c.offset c.number
  ahead = subst (λ (fs : List Fragment). Rest s d g (fragments_of ws) fs c.offset c.number) (sym a) (rest_some r)

  sized : Sized (fragments_from ws at)
  sized = subst Sized (sym a) (with_sized (fragments_from ws c.at))

  all_parts : Parts s d g (fragments_of ws)
  all_parts = sorted_parts s d g (fragments_of ws) y.checked

  all-length : length (joined s (fragments_of ws)) ≤ most64
  all-length = let e = joined_length s (fragments_of ws) all_parts.ranges in let m = y.small in omega arith

  all-few : length (sorted_records s d g (runs (fragments_of ws))) ≤ most64
  all-few =
      let e = sorted_bytes s d g (fragments_of ws) y.checked in
      few_records _ (body_bytes s g) most64 y.some (let m = y.small in omega arith)

  ahead_small : size_of (fragments_from ws at) ≤ most64
  ahead_small =
      let e = joined_length s (fragments_from ws at) ahead.parts.ranges in
      let f = ap length ahead.rest in
      let h = length-drop c.offset (joined s (fragments_of ws)) in
      let m = all-length in
      omega arith

  wide_some : 0 < record_size s d g k
  wide_some = let w = wide b ahead.parts in let z = y.some in omega arith

  module _ (u : Passed) (p : PassedBy ws k at u) {n i q f o m : ℕ} (nn : n ≡ record_size s d g k) (ii : i ≡ id_bytes s d k)
      (qq : QuotientOf u.bytes n q) (ff : SumOf c.offset i f) (oo : SumOf c.offset u.bytes o) (mm : SumOf c.number q m) where
    count_is : q ≡ size_of (of_kind k (fragments_from ws at)) / record_size s d g k
    count_is = qq (let w = wide_some in omega arith) ∙ rw (p.bytes ahead_small, nn)

    offset_is : o ≡ c.offset + size_of (of_kind k (fragments_from ws at))
    offset_is =
        let e = p.bytes ahead_small in
        let w = ends-within b ahead in
        let l = all-length in
        oo (omega arith) ∙ rw e

    number_is : m ≡ c.number + q
    number_is = let e = count_is in let w = ends-few b ahead in let l = all-few in mm (omega arith)

    -- all bytes of the records
    all-bytes : 0 < q → i + (q - 1) * n + body_bytes s g ≤ size_of (of_kind k (fragments_from ws at))
    all-bytes z =
        let w = wide b ahead.parts in
        let l = last_ends q n i (body_bytes s g) z (omega arith) in
        let v : q * n ≤ size_of (of_kind k (fragments_from ws at)) = rw (count_is, nn) (div-mul-le_self (size_of (of_kind k (fragments_from ws at))) (record_size s d g k)) in
        omega arith

    first_is_lem : 0 < q → f ≡ c.offset + id_bytes s d k
    first_is_lem z =
        let w = ends-within b ahead in
        let l = all-length in
        let v = all-bytes z in
        ff (omega arith) ∙ rw ii

    next_stretch : StretchOf s d 0 (g ∷ []) ws (record { number = c.number; first = f; stride = n; count = q })
    next_stretch = record {
      few = let e = count_is in let w = ends-few b ahead in omega arith;
      are = rw (count_is, nn) (taken_are b ahead
          ∙ ap (records_at (joined s (fragments_of ws)) (body_bytes s g))
          (sym (spaced-same f (c.offset + id_bytes s d k) (record_size s d g k) (size_of (of_kind k (fragments_from ws at)) / record_size s d g k)
          (λ z. first_is_lem (let e = count_is in omega arith)))));
      inside = λ z. let e = first_is_lem z in let w = ends-within b ahead in let v = all-bytes z in omega arith;
    }

    next_scan : SortedScan s d g ws (record { at = u.at; position = 0; left = 0; offset = o; number = m })
    next_scan =
        rest_scan (record { at = u.at; position = 0; left = 0; offset = o; number = m })
        (rw (p.past ahead_small, offset_is, number_is, count_is) (rest-past b ahead))

    next_of : NextOf s d 0 (g ∷ []) ws c (record {
      stretch = record { number = c.number; first = f; stride = n; count = q };
      scan = record { at = u.at; position = 0; left = 0; offset = o; number = m };
    })
    next_of = record {
      stretch = next_stretch;
      from = refl;
      some = λ h. let v = next-some b sized ahead wide_some h in let e = count_is in omega arith;
      scan = record { alone = λ _. next_scan; several = λ x. absurd (x refl) };
      to = number_is;
    }

-- as the code finds them
pub next-found : (s : List ℕ) (d g : ℕ) (ws : List ℕ) (c : Scan) (k : Kind) (at : ℕ) (u : Passed) {n i q f o m : ℕ}
    → fragments_from ws at ≡ with_bytes (fragments_from ws c.at) → Begins k (fragments_from ws at) → PassedBy ws k at u
    → n ≡ record_size s d g k → QuotientOf u.bytes n q → i ≡ id_bytes s d k → SumOf c.offset i f → SumOf c.offset u.bytes o
    → SumOf c.number q m
    → NextFor s d 0 (g ∷ []) ws c (record {
      stretch = record { number = c.number; first = f; stride = n; count = q };
      scan = record { at = u.at; position = 0; left = 0; offset = o; number = m };
    })
next-found s d g ws c k at u a b p nn qq ii ff oo mm y z = next_of c y (scan_rest (z.alone refl)) k at a b u p nn ii qq ff oo mm
