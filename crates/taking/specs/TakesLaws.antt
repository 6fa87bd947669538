-- The order of the refusals.
use Rattle.std.specs.Prelude.{ℕ, ◌≤◌, List, Bool, true, ◌≡◌, Result, Ok, Err, ⊤}
use Rattle.std.proofs.Common.{sym, arith}
use Rattle.base.specs.Checked.{ok, refused, fine}
use Rattle.fields.specs.declared.refusal.Refusal.{Refusal}
use Rattle.fields.specs.Answer.{number_of, place_of, refused_by, verdict_of}
use Rattle.blocks.specs.AnswerLaws.{so_fine, so_refused}
use Rattle.plan.specs.Columns.{Column}
use Rattle.plan.specs.Photos.{photos_first}
use Rattle.file.specs.Opened.{opened}
use Rattle.ranges.specs.Open.{columns_of, opened_as, few}
use Rattle.thin.specs.Kept.{columns_sound, numbers_in, masters_kept, kept_columns, photos_kept}
use Rattle.taking.specs.Marks.{Marked, Marks}
use Rattle.taking.specs.Words.{ColumnsPut}
use Rattle.taking.specs.WordsLaws.{length-columns}
use Rattle.taking.specs.Takes.{photos_taken, taken_from, taken_of, TakenAs, TakesAs, Takes}

-- ---- photos
module _ (s : List ℕ) (ks : List Column) {f : Result ⊤ Refusal} (e : verdict_of f ≡ photos_first true s) where
  pub photos_first_lem : {x : Refusal} (b b' c c' : List ℕ) → f ≡ Err x → TakesAs (photos_taken s ks) ks (Err x) b b' c c'
  unfolding photos_taken
  photos_first_lem b b' c c' q = record { answer = rw (so_refused e q) }

  module _ {u : ⊤} (q : f ≡ Ok u) {k : Result ⊤ Refusal} (g : verdict_of k ≡ photos_kept s ks) where
    pub photos_refused : {x : Refusal} (b b' c c' : List ℕ) → k ≡ Err x → TakesAs (photos_taken s ks) ks (Err x) b b' c c'
    unfolding photos_taken
    photos_refused b b' c c' h = record { answer = rw (so_fine e q, so_refused g h) }

    pub photos_put : {n m : ℕ} {u : ⊤} {b b' c c' : List ℕ} → k ≡ Ok u → n ≤ 512 → m ≤ n → ColumnsPut ks m b b' c c'
        → TakesAs (photos_taken s ks) ks (Ok m) b b' c c'
    unfolding photos_taken
    photos_put h l o p = record { answer = record { is = rw (so_fine e q, so_fine g h); few = omega arith; put = p } }

-- ---- a file's columns
module _ (s w ns : List ℕ) (n : ℕ) {h : Result ⊤ Refusal} (e : verdict_of h ≡ columns_sound s (columns_of s w n 0) (columns_of s w n 0)) where
  pub taken_unsound : {x : Refusal} (b b' c c' : List ℕ) → h ≡ Err x
      → TakesAs (taken_from s ns (columns_of s w n 0)) (kept_columns s ns (columns_of s w n 0)) (Err x) b b' c c'
  unfolding taken_from
  taken_unsound b b' c c' q = record { answer = rw (so_refused e q) }

  module _ {u : ⊤} (q : h ≡ Ok u) where
    module _ {l : Result ⊤ Refusal} (m : List Bool) (f : Marks n ns l m) where
      pub taken-listed : {x : Refusal} (b b' c c' : List ℕ) → l ≡ Err x
          → TakesAs (taken_from s ns (columns_of s w n 0)) (kept_columns s ns (columns_of s w n 0)) (Err x) b b' c c'
      unfolding taken_from
      taken-listed {x} b b' c c' g =
          let v : numbers_in n ns ≡ refused_by x = rw g at f in
          record { answer = rw (so_fine e q, length-columns s w n 0, v) }

      pub marked : {u : ⊤} → l ≡ Ok u → (numbers_in n ns ≡ fine) × Marked ns m
      marked g = rw g at f

    module _ (f : numbers_in n ns ≡ fine) {k : Result ⊤ Refusal} (g : verdict_of k ≡ masters_kept s ns (columns_of s w n 0) 0 (columns_of s w n 0)) where
      pub taken_master : {x : Refusal} (b b' c c' : List ℕ) → k ≡ Err x
          → TakesAs (taken_from s ns (columns_of s w n 0)) (kept_columns s ns (columns_of s w n 0)) (Err x) b b' c c'
      unfolding taken_from
      taken_master b b' c c' o = record { answer = rw (so_fine e q, length-columns s w n 0, f, so_refused g o) }

      taken_photos : {u : ⊤} → k ≡ Ok u → taken_from s ns (columns_of s w n 0) ≡ photos_taken s (kept_columns s ns (columns_of s w n 0))
      unfolding taken_from
      taken_photos o = rw (so_fine e q, length-columns s w n 0, f, so_fine g o)

      pub taken_marked : {r : Result ℕ Refusal} {u : ⊤} {b b' c c' : List ℕ} → k ≡ Ok u
          → TakesAs (photos_taken s (kept_columns s ns (columns_of s w n 0))) (kept_columns s ns (columns_of s w n 0)) r b b' c c'
          → TakesAs (taken_from s ns (columns_of s w n 0)) (kept_columns s ns (columns_of s w n 0)) r b b' c c'
      taken_marked o t = rw (taken_photos o) t

-- ---- a file
module _ (s w ns : List ℕ) {o : Result ℕ Refusal} (e : opened_as s w o ≡ opened s) where
  pub taken_unopened : {x : Refusal} → o ≡ Err x → taken_of s ns ≡ refused (number_of x) (place_of x)
  unfolding taken_of
  taken_unopened {x} q = let v : refused (number_of x) (place_of x) ≡ opened s = rw q at e in rw (← v)

  module _ {n : ℕ} (q : o ≡ Ok n) where
    is_opened : ok (columns_of s w n 0) ≡ opened s
    is_opened = rw q at e

    taken_is : taken_from s ns (columns_of s w n 0) ≡ taken_of s ns
    unfolding taken_of
    taken_is = rw (← is_opened)

    pub taken-opened : {r : Result ℕ Refusal} {b b' c c' : List ℕ}
        → TakesAs (taken_from s ns (columns_of s w n 0)) (kept_columns s ns (columns_of s w n 0)) r b b' c c' → Takes s ns r b b' c c'
    taken-opened {r} {b} {b'} {c} {c'} t = go r (rw taken_is at t).answer
      where
        go : (r : Result ℕ Refusal) → TakenAs (taken_of s ns) (kept_columns s ns (columns_of s w n 0)) r b b' c c' → Takes s ns r b b' c c'
        go (Err y) x = x
        go (Ok m) x = record { source = w; count = n; is_all = sym is_opened; kept = x }

pub few-opened : {o : Result ℕ Refusal} {n : ℕ} → few o → o ≡ Ok n → n ≤ 512
few-opened f q = rw q at f
