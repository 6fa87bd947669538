-- The laws of columns out of words: what is left of them gives what all give, and columns that stand in words give their own.
use Rattle.std.specs.Prelude.{ℕ, zero, suc, ◌+◌, ◌*◌, ◌-◌, ◌≤◌, ◌<◌, min, ◌≡◌, Bool, true, false, eqb, get_or}
use mathlib.Core.List.{List, [], ◌∷◌, ◌++◌}
use Rattle.std.proofs.Math.Path.{refl, ap}
use Rattle.std.proofs.Common.{sym, ◌∙◌, add-zero, sub-one, arith}
use Rattle.std.proofs.Math.ListN.{length}
use Rattle.base.specs.Choice.{pick, if_eq}
use Rattle.base.specs.ChoiceLaws.{eq_yes, eq_no}
use Rattle.base.specs.Blit.{blit}
use Rattle.base.specs.BlitLaws.{blit-append, length-blit}
use Rattle.plan.specs.Photos.{photos_of}
use Rattle.plan.specs.Geometry.{align8, align_to, block_count}
use Rattle.plan.specs.Layout.{dl_size}
use Rattle.payload_laws.specs.UnitLaws.{to_near}
use Rattle.planning.specs.Sizes.{signal_size}
use Rattle.planning.specs.SizesLaws.{signal_whole_lem}
use Rattle.copier.specs.StandingLaws.{align_near}
use Rattle.placing.specs.InWords.{
  width_at,
  blocks_at,
  payload_at,
  cg_bytes,
  structure_at,
  first_in,
  blocks_end_at,
  sd_past,
  sd_in,
  signal_at,
  signal_end_at,
  past_in,
  structures_in,
  data_in,
  placed_in,
  Within,
  AllWithin,
  AllFew,
}

-- ---- one column, by the answers of the code
pub cg_yes : (m : ℕ) → m ≡ 0 → 104 ≡ cg_bytes m
unfolding cg_bytes
cg_yes m e = eq_yes _ _ _ _ e refl

pub cg_no : (m : ℕ) → (m ≡ 0 → ⊥) → 112 ≡ cg_bytes m
unfolding cg_bytes
cg_no m e = eq_no _ _ _ _ e refl

pub dl-none : (n : ℕ) → n ≡ 0 → 0 ≡ dl_size n
unfolding dl_size
dl-none n e = eq_yes _ _ _ _ e refl

pub dl-some : (n : ℕ) → (n ≡ 0 → ⊥) → 24 + 8 * (n + 1) + 16 ≡ dl_size n
unfolding dl_size
dl-some n e = eq_no _ _ _ _ e refl

pub payload_by : (s w : List ℕ) (p : ℕ) {n x : ℕ} → x ≡ width_at s w p → n ≡ get_or w (p + 3) 0 → x * n ≡ payload_at s w p
unfolding payload_at
payload_by s w p x n = rw (x, n)

module _ (s : List ℕ) (size : ℕ) (w : List ℕ) (p : ℕ) where
  pub blocks-by : {n x r : ℕ} → x ≡ width_at s w p → n ≡ get_or w (p + 3) 0 → r ≡ block_count size x n → r ≡ blocks_at s size w p
  unfolding blocks_at
  blocks-by x n r = r ∙ rw (x, n)

  pub structure-by : (ph : Bool) {m cg n dl c r : ℕ} → m ≡ get_or w (p + 5) 0 → cg ≡ cg_bytes m → c ≡ get_or w p 0 → r ≡ length (photos_of ph s c)
      → n ≡ blocks_at s size w p → dl ≡ dl_size n → 64 + cg + (160 + 8 * r) + dl ≡ structure_at ph s size w p
  unfolding structure_at
  structure-by ph m cg c r n dl = rw (cg, m, dl, n, r, c)

  pub blocks_end_by : (d : ℕ) {n b r : ℕ} → n ≡ blocks_at s size w p → b ≡ payload_at s w p → r ≡ align8 (d + (24 * n + b)) → r ≡ blocks_end_at s size w p d
  unfolding blocks_end_at
  blocks_end_by d n b r = r ∙ rw (n, b)

cg_near : (m : ℕ) → cg_bytes m ≤ 112
unfolding cg_bytes if_eq
cg_near m = go (eqb m 0)
  where
    go : (b : Bool) → pick b 104 112 ≤ 112
    go true = omega arith
    go false = omega arith

dl_near : (n : ℕ) → dl_size n ≤ 48 + 8 * n
unfolding dl_size if_eq
dl_near n = go (eqb n 0)
  where
    go : (b : Bool) → pick b 0 (24 + 8 * (n + 1) + 16) ≤ 48 + 8 * n
    go true = omega arith
    go false = omega arith

pub cg_least : (m : ℕ) {cg : ℕ} → cg ≡ cg_bytes m → cg ≤ 112
cg_least m e = omega (arith, cg_near m)

pub dl_least : (n : ℕ) {dl : ℕ} → dl ≡ dl_size n → dl ≤ 48 + 8 * n
dl_least n e = omega (arith, dl_near n)

pub structure_near : (ph : Bool) (s : List ℕ) (size : ℕ) (w : List ℕ) (p : ℕ) → blocks_at s size w p ≤ 4294967295 → length (photos_of ph s (get_or w p 0)) ≤ 33554432
    → structure_at ph s size w p ≤ 34628174200
unfolding structure_at
structure_near ph s size w p h k = omega (arith, cg_near (get_or w (p + 5) 0), dl_near (blocks_at s size w p))

-- ---- signal data
-- its bytes, by the code's answers
pub signal_by : (w f : List ℕ) (p : ℕ) {a n x : ℕ} → a ≡ get_or w (p + 6) 0 → n ≡ get_or w (p + 7) 0 → x ≡ min (signal_size f a n) 18446744073709551615
    → signal_at w f p ≤ 18446744073709551615 → x ≡ signal_at w f p
unfolding signal_at
signal_by w f p {a} {n} e q x h = rw (← e, ← q) (signal_whole_lem f a n x (rw (← e, ← q) at h))

module _ (w f : List ℕ) (p d : ℕ) {a : ℕ} (e : a ≡ get_or w (p + 6) 0) where
  pub signal_none : a ≡ 0 → d ≡ signal_end_at w f p d
  unfolding signal_end_at
  signal_none z = eq_yes _ _ _ _ (sym e ∙ z) refl

  pub signal_some : {n x r : ℕ} → (a ≡ 0 → ⊥) → n ≡ get_or w (p + 7) 0 → x ≡ min (signal_size f a n) 18446744073709551615
      → signal_at w f p ≤ 4398046511104 → r ≡ align8 (d + (24 + x)) → r ≡ signal_end_at w f p d
  unfolding signal_end_at
  signal_some z q x h r = eq_no _ _ _ _ (λ y. z (e ∙ y)) (r ∙ rw (signal_by w f p e q x (omega (arith, h))))

signal_near : (w f : List ℕ) (p d : ℕ) → signal_at w f p ≤ 4398046511104 → signal_end_at w f p d ≤ d + 4398046511136
unfolding signal_end_at if_eq
signal_near w f p d h = go (eqb (get_or w (p + 6) 0) 0)
  where
    go : (b : Bool) → pick b d (align8 (d + (24 + signal_at w f p))) ≤ d + 4398046511136
    go true = omega arith
    go false = omega (arith, align_near (d + (24 + signal_at w f p)))

ends_near : (s : List ℕ) (size : ℕ) (w : List ℕ) (p d : ℕ) → blocks_at s size w p ≤ 4294967295 → payload_at s w p ≤ 4398046511104
    → blocks_end_at s size w p d ≤ d + 4501125726192
unfolding blocks_end_at
ends_near s size w p d h k = omega (arith, align_near (d + (24 * blocks_at s size w p + payload_at s w p)))

-- ---- bounds of the first column, and of the rest
module _ {ph : Bool} {s : List ℕ} {size : ℕ} {w f : List ℕ} {p n : ℕ} (b : AllWithin ph s size w f p n) (h : 0 < n) where
  pub within_first : Within ph s size w f p
  within_first = rw (add-zero p) at (b.each 0 h)

  pub within-rest : AllWithin ph s size w f (p + 8) (n - 1)
  within-rest = record {
    each = λ k l.
        let e : p + 8 + 8 * k ≡ p + 8 * suc k = omega arith in
        rw e (b.each (suc k) (omega arith));
  }

pub all-few : {ph : Bool} {s : List ℕ} {size : ℕ} {w f : List ℕ} {p n : ℕ} → AllWithin ph s size w f p n → AllFew ph s size w p n
all-few b = record { each = λ k l. ((b.each k l).blocks, (b.each k l).photos) }

module _ {ph : Bool} {s : List ℕ} {size : ℕ} {w : List ℕ} {p n : ℕ} (b : AllFew ph s size w p n) (h : 0 < n) where
  few-first : (blocks_at s size w p ≤ 4294967295) × (length (photos_of ph s (get_or w p 0)) ≤ 33554432)
  few-first = rw (add-zero p) at (b.each 0 h)

  few-rest : AllFew ph s size w (p + 8) (n - 1)
  few-rest = record {
    each = λ k l.
        let e : p + 8 + 8 * k ≡ p + 8 * suc k = omega arith in
        rw e (b.each (suc k) (omega arith));
  }

-- ---- past the blocks that make up columns: what is left of them
structures_none : (ph : Bool) (s : List ℕ) (size : ℕ) (w : List ℕ) (p n a : ℕ) → n ≡ 0 → structures_in ph s size w p n a ≡ a
unfolding structures_in
structures_none ph s size w p n a e = rw e

structures_cons : (ph : Bool) (s : List ℕ) (size : ℕ) (w : List ℕ) (p n a : ℕ) → 0 < n
    → structures_in ph s size w p n a ≡ structures_in ph s size w (p + 8) (n - 1) (a + structure_at ph s size w p)
unfolding structures_in
structures_cons ph s size w p zero a h = absurd (omega arith)
structures_cons ph s size w p (suc n) a h = rw sub-one

pub record Structuring (ph : Bool) (s : List ℕ) (size : ℕ) (w : List ℕ) (n₀ a₀ p n a : ℕ) : Type 0 where
  pub at : p + 8 * n ≤ 4096
  pub near : a + n * 34628174200 ≤ 1143629532033024
  pub few : AllFew ph s size w p n
  pub rest : structures_in ph s size w p n a ≡ structures_in ph s size w 0 n₀ a₀

pub structures_begin : (ph : Bool) (s : List ℕ) (size : ℕ) (w : List ℕ) (n a : ℕ) → n ≤ 512 → a ≤ 1125899906842624 → AllFew ph s size w 0 n
    → Structuring ph s size w n a 0 (n - 0) a
structures_begin ph s size w n a h k b =
    let e : n - 0 ≡ n = omega arith in
    rw e (record { at = omega arith; near = omega arith; few = b; rest = refl })

module _ {ph : Bool} {s : List ℕ} {size : ℕ} {w : List ℕ} {n₀ a₀ p n a : ℕ} (u : Structuring ph s size w n₀ a₀ p n a) where
  pub structures_end_lem : n ≡ 0 → a ≡ structures_in ph s size w 0 n₀ a₀
  structures_end_lem e = sym (structures_none ph s size w p n a e) ∙ u.rest

  module _ (h : 0 < n) where
    pub structure-few : blocks_at s size w p ≤ 4294967295
    structure-few = (few-first u.few h).0

    module _ {x : ℕ} (e : x ≡ structure_at ph s size w p) where
      pub structures_room : a + x + (n - 1) * 34628174200 ≤ 1143629532033024
      structures_room = omega (arith, u.near, structure_near ph s size w p structure-few (few-first u.few h).1)

      pub structures_next : Structuring ph s size w n₀ a₀ (p + 8) (n - 1) (a + x)
      structures_next =
          record {
            at = omega (arith, u.at);
            near = structures_room;
            few = few-rest u.few h;
            rest = rw e (sym (structures_cons ph s size w p n a h) ∙ u.rest);
          }

pub structures_near : (ph : Bool) (s : List ℕ) (size : ℕ) (w : List ℕ) (p n a : ℕ) → AllFew ph s size w p n → structures_in ph s size w p n a ≤ a + n * 34628174200
unfolding structures_in
structures_near ph s size w p zero a b = omega arith
structures_near ph s size w p (suc n) a b =
    let r : AllFew ph s size w (p + 8) n = rw (sub-one) at (few-rest b (omega arith)) in
    omega (arith, structure_near ph s size w p (few-first b (omega arith)).0 (few-first b (omega arith)).1, structures_near ph s size w (p + 8) n (a + structure_at ph s size w p) r)

-- ---- places of columns and the end of their data: what is left of them
data_none : (u : ℕ) (s : List ℕ) (size : ℕ) (w f : List ℕ) (p n d : ℕ) → n ≡ 0 → data_in u s size w f p n d ≡ d
unfolding data_in
data_none u s size w f p n d e = rw e

data_cons : (u : ℕ) (s : List ℕ) (size : ℕ) (w f : List ℕ) (p n d : ℕ) → 0 < n
    → data_in u s size w f p n d ≡ data_in u s size w f (p + 8) (n - 1) (past_in u s size w f p d)
unfolding data_in
data_cons u s size w f p zero d h = absurd (omega arith)
data_cons u s size w f p (suc n) d h = rw sub-one

placed-none : (u : ℕ) (ph : Bool) (s : List ℕ) (size : ℕ) (w f : List ℕ) (p n a d : ℕ) → n ≡ 0 → placed_in u ph s size w f p n a d ≡ []
unfolding placed_in
placed-none u ph s size w f p n a d e = rw e

placed_cons : (u : ℕ) (ph : Bool) (s : List ℕ) (size : ℕ) (w f : List ℕ) (p n a d : ℕ) → 0 < n
    → placed_in u ph s size w f p n a d
    ≡ (a ∷ first_in u s size w p d ∷ sd_in u s size w p d ∷ [])
    ++ placed_in u ph s size w f (p + 8) (n - 1) (a + structure_at ph s size w p) (past_in u s size w f p d)
unfolding placed_in
placed_cons u ph s size w f p zero a d h = absurd (omega arith)
placed_cons u ph s size w f p (suc n) a d h = rw sub-one

-- each step of a column's data is near
near_to : (u x : ℕ) → 8 ≤ u → u ≤ 4096 → align_to u x ≤ x + 4096
near_to u x l h = omega (arith, to_near u x (omega arith))

first_near_lem : (u : ℕ) (s : List ℕ) (size : ℕ) (w : List ℕ) (p d : ℕ) → 8 ≤ u → u ≤ 4096 → first_in u s size w p d ≤ d + 4096
unfolding first_in if_eq
first_near_lem u s size w p d l h = go (eqb (blocks_at s size w p) 0)
  where
    go : (b : Bool) → pick b d (align_to u d) ≤ d + 4096
    go true = omega arith
    go false = near_to u d l h

sd_near_lem : (u : ℕ) (w : List ℕ) (p d : ℕ) → 8 ≤ u → u ≤ 4096 → sd_past u w p d ≤ d + 4096
unfolding sd_past if_eq
sd_near_lem u w p d l h = go (eqb (get_or w (p + 6) 0) 0)
  where
    go : (b : Bool) → pick b d (align_to u d) ≤ d + 4096
    go true = omega arith
    go false = near_to u d l h

past_near_lem : (u : ℕ) (ph : Bool) (s : List ℕ) (size : ℕ) (w f : List ℕ) (p d : ℕ) → 8 ≤ u → u ≤ 4096 → Within ph s size w f p
    → past_in u s size w f p d ≤ d + 10000000000000
unfolding past_in sd_in
past_near_lem u ph s size w f p d l h c =
    let b : ℕ = first_in u s size w p d in
    let e : ℕ = blocks_end_at s size w p b in
    omega (
      arith,
      first_near_lem u s size w p d l h,
      ends_near s size w p b c.blocks c.payload,
      sd_near_lem u w p e l h,
      signal_near w f p (sd_past u w p e) c.signal,
    )

-- by the code's answer for so many blocks
pub first_by : (u : ℕ) (s : List ℕ) (size : ℕ) (w : List ℕ) (p d : ℕ) {n r : ℕ} → n ≡ blocks_at s size w p → r ≡ if_eq n 0 d (align_to u d)
    → r ≡ first_in u s size w p d
unfolding first_in
first_by u s size w p d n r = r ∙ rw n

pub sd_by : (u : ℕ) (w : List ℕ) (p d : ℕ) {n r : ℕ} → n ≡ get_or w (p + 6) 0 → r ≡ if_eq n 0 d (align_to u d) → r ≡ sd_past u w p d
unfolding sd_past
sd_by u w p d n r = r ∙ rw n

pub record Placing (u : ℕ) (ph : Bool) (s : List ℕ) (size : ℕ) (w f : List ℕ) (n₀ a₀ d₀ : ℕ) (m₀ m : List ℕ) (p q n a d : ℕ) : Type 0 where
  pub at : p + 8 * n ≤ 4096
  pub to : q + 3 * n ≤ 8192
  pub same : length m ≡ length m₀
  pub long : 8192 ≤ length m
  pub near : a + n * 34628174200 ≤ 1143629532033024
  pub near_data : d + n * 10000000000000 ≤ 6245899906842624
  pub within : AllWithin ph s size w f p n
  pub ends : data_in u s size w f p n d ≡ data_in u s size w f 0 n₀ d₀
  pub words : blit q (placed_in u ph s size w f p n a d) m ≡ blit 6656 (placed_in u ph s size w f 0 n₀ a₀ d₀) m₀
  pub least : 8 ≤ u
  pub most : u ≤ 4096

pub place_begin : (u : ℕ) (ph : Bool) (s : List ℕ) (size : ℕ) (w f : List ℕ) (n a d : ℕ) (m : List ℕ) → n ≤ 512 → a ≤ 1125899906842624 → d ≤ 1125899906842624
    → 8192 ≤ length m → AllWithin ph s size w f 0 n → 8 ≤ u → u ≤ 4096 → Placing u ph s size w f n a d m m 0 6656 (n - 0) a d
place_begin u ph s size w f n a d m h i j l b g k =
    let e : n - 0 ≡ n = omega arith in
    rw e (record { at = omega arith; to = omega arith; same = refl; long = l; near = omega arith; near_data = omega arith; within = b; ends = refl; words = refl; least = g; most = k })

module _ {u : ℕ} {ph : Bool} {s : List ℕ} {size : ℕ} {w f : List ℕ} {n₀ a₀ d₀ : ℕ} {m₀ m : List ℕ} {p q n a d : ℕ} (t : Placing u ph s size w f n₀ a₀ d₀ m₀ m p q n a d) where
  pub place_ends : n ≡ 0 → d ≡ data_in u s size w f 0 n₀ d₀
  place_ends e = sym (data_none u s size w f p n d e) ∙ t.ends

  pub place_words_lem : n ≡ 0 → m ≡ blit 6656 (placed_in u ph s size w f 0 n₀ a₀ d₀) m₀
  unfolding blit
  place_words_lem e = rw (placed-none u ph s size w f p n a d e) at t.words

  module _ (h : 0 < n) where
    pub place_within : Within ph s size w f p
    place_within = within_first t.within h

    pub place_room : {x : ℕ} → x ≡ structure_at ph s size w p → a + x + (n - 1) * 34628174200 ≤ 1143629532033024
    place_room i = omega (arith, t.near, structure_near ph s size w p place_within.blocks place_within.photos)

    module _ {b : ℕ} (o : b ≡ first_in u s size w p d) where
      pub place_first : b ≤ d + 4096
      place_first = omega (arith, first_near_lem u s size w p d t.least t.most)

      module _ {v : ℕ} (e : v ≡ blocks_end_at s size w p b) where
        pub place_data : v ≤ d + 4501125730288
        place_data = omega (arith, place_first, ends_near s size w p b place_within.blocks place_within.payload)

        module _ {z : ℕ} (g : z ≡ sd_past u w p v) where
          pub place_sd : z ≤ d + 4501125734384
          place_sd = omega (arith, place_data, sd_near_lem u w p v t.least t.most)

          sd_is : z ≡ sd_in u s size w p d
          unfolding sd_in
          sd_is = g ∙ rw (e, o)

          pub place_next : {x y : ℕ} {m' : List ℕ} → x ≡ structure_at ph s size w p → m' ≡ blit q (a ∷ b ∷ z ∷ []) m → y ≡ signal_end_at w f p z
              → Placing u ph s size w f n₀ a₀ d₀ m₀ m' (p + 8) (q + 3) (n - 1) (a + x) y
          unfolding past_in
          place_next {x} {y} {m'} i k j =
              let l : length m' ≡ length m = ap length k ∙ length-blit q (a ∷ b ∷ z ∷ []) m in
              let is : y ≡ past_in u s size w f p d = rw sd_is at j in
              let all : blit q (placed_in u ph s size w f p n a d) m
              ≡ blit (q + 3) (placed_in u ph s size w f (p + 8) (n - 1) (a + structure_at ph s size w p) (past_in u s size w f p d))
              (blit q (a ∷ first_in u s size w p d ∷ sd_in u s size w p d ∷ []) m) =
              ap (λ (r : List ℕ). blit q r m) (placed_cons u ph s size w f p n a d h)
              ∙ blit-append (a ∷ first_in u s size w p d ∷ sd_in u s size w p d ∷ []) q _ m in
              record {
                at = omega (arith, t.at);
                to = omega (arith, t.to);
                same = l ∙ t.same;
                long = omega (arith, l, t.long);
                near = place_room i;
                near_data = omega (arith, t.near_data, is, past_near_lem u ph s size w f p d t.least t.most place_within);
                within = within-rest t.within h;
                ends = rw is (sym (data_cons u s size w f p n d h) ∙ t.ends);
                words = rw (is, i, k, o, sd_is) (sym all ∙ t.words);
                least = t.least;
                most = t.most;
              }

pub data_near : (u : ℕ) (ph : Bool) (s : List ℕ) (size : ℕ) (w f : List ℕ) (p n d : ℕ) → 8 ≤ u → u ≤ 4096 → AllWithin ph s size w f p n
    → data_in u s size w f p n d ≤ d + n * 10000000000000
unfolding data_in
data_near u ph s size w f p zero d l h b = omega arith
data_near u ph s size w f p (suc n) d l h b =
    let c = within_first b (omega arith) in
    let r : AllWithin ph s size w f (p + 8) n = rw (sub-one) at (within-rest b (omega arith)) in
    omega (
      arith,
      past_near_lem u ph s size w f p d l h c,
      data_near u ph s size w f (p + 8) n (past_in u s size w f p d) l h r,
    )
