-- The laws of places: one for each way of the code; what is left of the columns gives what all give.
use Rattle.std.specs.Prelude.{ℕ, ◌+◌, ◌*◌, ◌-◌, ◌≤◌, ◌<◌, List, [], ◌∷◌, ◌++◌, Bool, true, false, ◌≡◌, refl, eqb, length, get_or, Option, Some, None}
use Rattle.std.proofs.Math.Option as math
use Rattle.std.proofs.Math.Option.{none, some}
use Rattle.std.proofs.Math.Path.{sym, ap}
use Rattle.std.proofs.Math.Nat.{sub-zero}
use Rattle.std.proofs.Common.{◌∙◌, subst, le_refl, arith}
use Rattle.base.specs.Choice.{pick, if_eq}
use Rattle.base.specs.Blit.{blit}
use Rattle.base.specs.BlitLaws.{blit-append, length-blit}
use Rattle.plan.specs.Geometry.{align_to}
use Rattle.plan.specs.Layout.{Sizes, first_at, blocks_end, signal_at, signal_end, past_data, places_from, structures_end, places_end}
use Rattle.copies_laws.specs.Laid.{align_past}
use Rattle.payload_laws.specs.UnitLaws.{IsUnit, first_past, signal_past}
use Rattle.copier.specs.Standing.{copies_in}
use Rattle.copier.specs.AttachingLaws.{copies-blit}
use Rattle.thin.specs.TakenOut.{most_file}
use Rattle.thin_laws.specs.PlaceLaws.{structures_grow, places_grow}
use Rattle.arranging.specs.declared.placement.Spot.{Spot}
use Rattle.arranging.specs.Sized.{Cut, blocks_in, structure_at, sd_bytes, signal_size_at, sizes_at, sizes_in}
use Rattle.arranging.specs.SizedLaws.{cut-past, sizes_none, sizes_cons}
use Rattle.arranging.specs.Spots.{place_words, Ends, Spotted, Spots, AllPlaced}

-- ---- past the blocks that make up columns
structures_none : (s w : List ℕ) (p n a : ℕ) → n ≡ 0 → structures_end a (sizes_in s w p n) ≡ a
unfolding structures_end
structures_none s w p n a e = rw (sizes_none s w p n e)

structures_cons : (s w : List ℕ) (p n a : ℕ) → 0 < n
    → structures_end a (sizes_in s w p n) ≡ structures_end (a + structure_at s w p) (sizes_in s w (p + 8) (n - 1))
unfolding structures_end
structures_cons s w p n a h = rw (sizes_cons s w p n h)

-- those of the first column end by the end of all
structure_before : (s w : List ℕ) (p n a : ℕ) → 0 < n → a + structure_at s w p ≤ structures_end a (sizes_in s w p n)
structure_before s w p n a h = rw (structures_cons s w p n a h) (structures_grow (a + structure_at s w p) (sizes_in s w (p + 8) (n - 1)))

pub record Structuring (s w : List ℕ) (n₀ a₀ p n a : ℕ) : Type 0 where
  pub at : p + 8 * n ≤ 4096
  pub near : a ≤ most_file
  pub rest : structures_end a (sizes_in s w p n) ≡ structures_end a₀ (sizes_in s w 0 n₀)

pub structures_begin : (s w : List ℕ) (n a : ℕ) → n ≤ 512 → a ≤ most_file → Structuring s w n a 0 (n - 0) a
structures_begin s w n a h k = rw sub-zero (record { at = omega arith; near = k; rest = refl })

module _ {s w : List ℕ} {n₀ a₀ p n a : ℕ} (t : Structuring s w n₀ a₀ p n a) where
  pub structures_end_lem : n ≡ 0 → Ends (Some a) (structures_end a₀ (sizes_in s w 0 n₀))
  structures_end_lem e = (sym (structures_none s w p n a e) ∙ t.rest, t.near)

  module _ (h : 0 < n) {x : ℕ} (c : Cut 1152921504606846976 (structure_at s w p) x) where
    pub structures_over : most_file < a + x → Ends None (structures_end a₀ (sizes_in s w 0 n₀))
    structures_over l = omega (arith, t.rest, structure_before s w p n a h, c.below)

    pub structures_next : a + x ≤ most_file → Structuring s w n₀ a₀ (p + 8) (n - 1) (a + x)
    structures_next l =
        record {
          at = omega (arith, t.at);
          near = l;
          rest = rw (c.whole (omega arith)) (sym (structures_cons s w p n a h) ∙ t.rest);
        }

-- by the number of the column
pub structures_on : (k : ℕ) {s w : List ℕ} {n a₀ a : ℕ} → Structuring s w n a₀ (8 * k + 8) (n - k - 1) a → Structuring s w n a₀ (8 * (k + 1)) (n - (k + 1)) a
structures_on k {n = n} t =
    let x : 8 * (k + 1) ≡ 8 * k + 8 = omega arith in
    let y : n - (k + 1) ≡ n - k - 1 = omega arith in
    rw (x, y) t

-- ---- the data of one column
signal_grows : (g : math.Option ℕ) (d : ℕ) → d ≤ signal_end g d
signal_grows none d = le_refl d
signal_grows (some n) d = omega (arith, align_past (d + (24 + n)))

signal_start : (u v x e : ℕ) → if_eq v 0 e (align_to u e) ≡ signal_at u (if_eq v 0 none (some x)) e
unfolding if_eq
signal_start u v x e = go (eqb v 0)
  where
    go : (b : Bool) → pick b e (align_to u e) ≡ signal_at u (pick b none (some x)) e
    go true = refl
    go false = refl

module _ (u : ℕ) (s w : List ℕ) (p d : ℕ) (i : IsUnit u) {a n f : ℕ} (j : a ≡ get_or w (p + 2) 0) (k : n ≡ blocks_in s a) (q : f ≡ if_eq n 0 d (align_to u d)) where
  first_is_lem : f ≡ first_at u (sizes_at s w p) d
  unfolding first_at
  first_is_lem = q ∙ rw (k, j)

  pub first_near_lem : f ≤ d + 4096
  first_near_lem = omega (arith, first_is_lem, (first_past u i (sizes_at s w p) d).1, i.most)

  module _ {e : ℕ} (c : Cut 4611686018427387904 (blocks_end (sizes_at s w p) f) e) where
    -- the data blocks alone end past 2^59
    pub spot_over : most_file < e → Spots u (sizes_at s w p) d None
    spot_over h =
        let b : most_file < blocks_end (sizes_at s w p) (first_at u (sizes_at s w p) d) = rw first_is_lem at (cut-past c h) in
        omega (
          arith,
          (signal_past u i (signal_size_at s w p) (blocks_end (sizes_at s w p) (first_at u (sizes_at s w p) d))).0,
          signal_grows (signal_size_at s w p) (signal_at u (signal_size_at s w p) (blocks_end (sizes_at s w p) (first_at u (sizes_at s w p) d))),
        )

    module _ (h : e ≤ most_file) {v g : ℕ} (y : v ≡ get_or w (p + 6) 0) (x : g ≡ if_eq v 0 e (align_to u e)) where
      sd_is : g ≡ signal_at u (signal_size_at s w p) (blocks_end (sizes_at s w p) (first_at u (sizes_at s w p) d))
      unfolding signal_size_at
      sd_is =
          let z : e ≡ blocks_end (sizes_at s w p) (first_at u (sizes_at s w p) d) = c.whole h ∙ ap (blocks_end (sizes_at s w p)) first_is_lem in
          x ∙ rw (y, z) (signal_start u (get_or w (p + 6) 0) (sd_bytes s (get_or w p 0)) _)

      pub sd_near_lem : g ≤ e + 4096
      sd_near_lem =
          let z : e ≡ blocks_end (sizes_at s w p) (first_at u (sizes_at s w p) d) = c.whole h ∙ ap (blocks_end (sizes_at s w p)) first_is_lem in
          omega (arith, sd_is, (signal_past u i (signal_size_at s w p) (blocks_end (sizes_at s w p) (first_at u (sizes_at s w p) d))).1, i.most)

      module _ {r : ℕ} (o : Cut 4611686018427387904 (signal_end (signal_size_at s w p) g) r) where
        pub signal_over_lem : most_file < r → Spots u (sizes_at s w p) d None
        signal_over_lem l = rw sd_is at (cut-past o l)

        pub spot_at : r ≤ most_file → Spots u (sizes_at s w p) d (Some (record { first = f; sd = g; end = r }))
        spot_at l = record { first = first_is_lem; sd = sd_is; end = o.whole l ∙ ap (signal_end (signal_size_at s w p)) sd_is; near = l }

-- the code's answer
pub spotted : (u : ℕ) (z : Sizes) (d : ℕ) (r : Option Spot) {x : Spot} → Spots u z d r → r ≡ Some x → Spotted u z d x.first x.sd x.end
spotted u z d r h e = subst (Spots u z d) e h

pub spotted-over : (u : ℕ) (z : Sizes) (d : ℕ) (r : Option Spot) → Spots u z d r → r ≡ None → most_file < past_data u z d
spotted-over u z d r h e = subst (Spots u z d) e h

-- ---- places of columns and the end of their data
data_none : (u : ℕ) (s w : List ℕ) (p n d : ℕ) → n ≡ 0 → places_end u d (sizes_in s w p n) ≡ d
unfolding places_end
data_none u s w p n d e = rw (sizes_none s w p n e)

data_cons : (u : ℕ) (s w : List ℕ) (p n d : ℕ) → 0 < n
    → places_end u d (sizes_in s w p n) ≡ places_end u (past_data u (sizes_at s w p) d) (sizes_in s w (p + 8) (n - 1))
unfolding places_end
data_cons u s w p n d h = rw (sizes_cons s w p n h)

words-none : (u : ℕ) (s w : List ℕ) (p n a d : ℕ) → n ≡ 0 → place_words (places_from u a d (sizes_in s w p n)) ≡ []
unfolding places_from place_words
words-none u s w p n a d e = rw (sizes_none s w p n e)

words_cons : (u : ℕ) (s w : List ℕ) (p n a d : ℕ) → 0 < n
    → place_words (places_from u a d (sizes_in s w p n))
    ≡ (a ∷ first_at u (sizes_at s w p) d ∷ signal_at u (signal_size_at s w p) (blocks_end (sizes_at s w p) (first_at u (sizes_at s w p) d)) ∷ [])
    ++ place_words (places_from u (a + structure_at s w p) (past_data u (sizes_at s w p) d) (sizes_in s w (p + 8) (n - 1)))
unfolding places_from place_words
words_cons u s w p n a d h = rw (sizes_cons s w p n h)

pub record Placing (u : ℕ) (s w : List ℕ) (n₀ a₀ d₀ : ℕ) (m₀ m : List ℕ) (p q n a d : ℕ) : Type 0 where
  pub at : p + 8 * n ≤ 4096
  pub from : 6656 ≤ q
  pub to : q + 3 * n ≤ 8192
  pub same : length m ≡ length m₀
  pub long : 8192 ≤ length m
  pub unit : IsUnit u
  pub near : d ≤ most_file
  pub structures : structures_end a (sizes_in s w p n) ≤ most_file
  pub ends : places_end u d (sizes_in s w p n) ≡ places_end u d₀ (sizes_in s w 0 n₀)
  pub words : blit q (place_words (places_from u a d (sizes_in s w p n))) m ≡ blit 6656 (place_words (places_from u a₀ d₀ (sizes_in s w 0 n₀))) m₀

pub place_begin : (u : ℕ) (s w : List ℕ) (n a d : ℕ) (m : List ℕ) → n ≤ 512 → 8192 ≤ length m → d ≤ most_file → IsUnit u
    → structures_end a (sizes_in s w 0 n) ≤ most_file → Placing u s w n a d m m 0 6656 (n - 0) a d
place_begin u s w n a d m h l k i e =
    rw sub-zero (record {
      at = omega arith;
      from = omega arith;
      to = omega arith;
      same = refl;
      long = l;
      unit = i;
      near = k;
      structures = e;
      ends = refl;
      words = refl;
    })

module _ {u : ℕ} {s w : List ℕ} {n₀ a₀ d₀ : ℕ} {m₀ m : List ℕ} {p q n a d : ℕ} (t : Placing u s w n₀ a₀ d₀ m₀ m p q n a d) where
  pub place_end : n ≡ 0 → AllPlaced u s w n₀ a₀ d₀ m₀ m (Some d)
  unfolding blit
  place_end e =
      record {
        ends = sym (data_none u s w p n d e) ∙ t.ends;
        near = t.near;
        words = rw (words-none u s w p n a d e) at t.words;
      }

  -- stores past the copies leave them
  place_copies : (k : ℕ) → k ≤ 2050 → copies_in m k ≡ copies_in m₀ k
  place_copies k h =
      sym (copies-blit (place_words (places_from u a d (sizes_in s w p n))) m k q (omega (arith, t.from)))
      ∙ ap (λ (x : List ℕ). copies_in x k) t.words
      ∙ copies-blit (place_words (places_from u a₀ d₀ (sizes_in s w 0 n₀))) m₀ k 6656 (omega arith)

  module _ (h : 0 < n) where
    pub place_over : most_file < past_data u (sizes_at s w p) d → AllPlaced u s w n₀ a₀ d₀ m₀ m None
    place_over l =
        record {
          over = omega (arith, t.ends, data_cons u s w p n d h, places_grow u t.unit (past_data u (sizes_at s w p) d) (sizes_in s w (p + 8) (n - 1)));
          copies = place_copies;
        }

    module _ {x : ℕ} (c : Cut 1152921504606846976 (structure_at s w p) x) where
      pub place_room : a + x ≤ most_file
      place_room = omega (arith, t.structures, structure_before s w p n a h, c.below)

      structure_is : x ≡ structure_at s w p
      structure_is = c.whole (omega (arith, place_room))

      pub place_next : {f g e : ℕ} {m' : List ℕ} → Spotted u (sizes_at s w p) d f g e → m' ≡ blit q (a ∷ f ∷ g ∷ []) m
          → Placing u s w n₀ a₀ d₀ m₀ m' (p + 8) (q + 3) (n - 1) (a + x) e
      place_next {f} {g} {e} {m'} b y =
          let l : length m' ≡ length m = ap length y ∙ length-blit q (a ∷ f ∷ g ∷ []) m in
          record {
            at = omega (arith, t.at);
            from = omega (arith, t.from);
            to = omega (arith, t.to);
            same = l ∙ t.same;
            long = omega (arith, t.long);
            unit = t.unit;
            near = b.near;
            structures = rw structure_is (rw (structures_cons s w p n a h) at t.structures);
            ends = rw b.end (sym (data_cons u s w p n d h) ∙ t.ends);
            words = rw (structure_is, b.end, y, b.first, b.sd) (
                sym (blit-append (a ∷ first_at u (sizes_at s w p) d ∷ signal_at u (signal_size_at s w p) (blocks_end (sizes_at s w p) (first_at u (sizes_at s w p) d)) ∷ [])
                q (place_words (places_from u (a + structure_at s w p) (past_data u (sizes_at s w p) d) (sizes_in s w (p + 8) (n - 1)))) m)
                ∙ ap (λ (z : List ℕ). blit q z m) (sym (words_cons u s w p n a d h)) ∙ t.words
                );
          }

-- by the number of the column
pub place_on : {u : ℕ} {s w : List ℕ} {n a₀ d₀ : ℕ} {m₀ m : List ℕ} (k : ℕ) {a d : ℕ} → Placing u s w n a₀ d₀ m₀ m (8 * k + 8) (6656 + 3 * k + 3) (n - k - 1) a d
    → Placing u s w n a₀ d₀ m₀ m (8 * (k + 1)) (6656 + 3 * (k + 1)) (n - (k + 1)) a d
place_on {n = n} k t =
    let x : 8 * (k + 1) ≡ 8 * k + 8 = omega arith in
    let y : 6656 + 3 * (k + 1) ≡ 6656 + 3 * k + 3 = omega arith in
    let z : n - (k + 1) ≡ n - k - 1 = omega arith in
    rw (x, y, z) t
