-- Laws of the records of a group, at places that are kept, in the blocks of its column over a window.
use Rattle.std.specs.Prelude.{ℕ, ◌+◌, ◌≤◌, ◌<◌, max, List, ◌≡◌, refl, length, get_or}
use Rattle.std.proofs.Common.{arith, drop-cons}
use Rattle.base.specs.Blit.{part}
use Rattle.mdf.specs.Records.{most64}
use Rattle.work_words.specs.Words.{fragments_of}
use Rattle.result.specs.Payload.{group_records}
use Rattle.places.specs.declared.stretch.Stretch.{Stretch}
use Rattle.places.specs.declared.pool.Held.{Held}
use Rattle.places.specs.Stretch.{spaced, Ready, StretchOf}
use Rattle.places.specs.Pool.{HeldIn}
use Rattle.cells.specs.Shape.{Shaped}
use Rattle.data_blocks.specs.declared.piece.Form.{Form}
use Rattle.data_blocks.specs.Region.{Formed, places_of, PieceOf}
use Rattle.data_blocks.specs.FilledLaws.{body_is}
use Rattle.data_blocks.specs.ListedLaws.{offsets_are}
use Rattle.window_data.specs.Region.{start_at, LaysPiece}
use Rattle.window_data.specs.Filled.{LaysRest, FilledIn}
use Rattle.window_data.specs.FilledLaws.{filled-past}
use Rattle.window_data.specs.Kept.{PoolFilledIn, ListFilledIn}

-- ---- a stretch that has record number at, from that on
pub filled-rest : (a : ℕ) {s : List ℕ} {d k : ℕ} {gs ws : List ℕ} {f : Form} (r at : ℕ) (w₀ w : List ℕ) {last : List ℕ} (t : Stretch) → Shaped s f.shape
    → FilledIn a s d k gs ws f r at w₀ w → (Ready s d k gs ws → StretchOf s d k gs ws t) → t.number ≤ at → at ≤ t.number + t.count
    → LaysRest s ws f a at t w last → FilledIn a s d k gs ws f r (t.number + t.count) w₀ last
filled-rest a {s} {d} {k} {gs} {ws} {f} r at w₀ w t h v st l m p y g e base q =
    let rs : List (List ℕ) = group_records s d k gs (fragments_of ws) in
    let pc : PieceOf s ws f rs t.number t.count (places_of t) = rw (body_is s gs k f h g) at (st y).are in
    let i : max at t.number ≡ at = omega arith in
    let j : max at (t.number + t.count) ≡ t.number + t.count = omega arith in
    let x = p rs e pc base in
    let u = rw (i, j) at x in
    u (v y g e base q)

-- ---- by kept stretches
module _ (a : ℕ) (s : List ℕ) (d g : ℕ) (ws : List ℕ) (f : Form) (p : List ℕ) (r : ℕ) where
  pub pool_none : (w : List ℕ) → PoolFilledIn a s d g ws f p r r w w
  pool_none w gs_of ws_of e k y o u base q = q

  pub pool_turn : (at : ℕ) (w₀ w : List ℕ) {last : List ℕ} (h : Held) → Shaped s f.shape → PoolFilledIn a s d g ws f p r at w₀ w → HeldIn p d g at h
      → 0 < h.stretch.count → h.stretch.number ≤ at → at < h.stretch.number + h.stretch.count → LaysRest s ws f a at h.stretch w last
      → PoolFilledIn a s d g ws f p r (h.stretch.number + h.stretch.count) w₀ last
  pool_turn at w₀ w h z v t c l m x gs_of ws_of e k =
      filled-rest a r at w₀ w h.stretch z (v gs_of ws_of e k) (λ y. rw (← e) ((t s gs_of ws_of k).right c)) l (omega arith) x

  -- the others lie past the window
  pub pool_past : (at : ℕ) (w₀ w : List ℕ) → Formed s f most64 → at < f.records → a + length w ≤ start_at f at → PoolFilledIn a s d g ws f p r at w₀ w
      → PoolFilledIn a s d g ws f p r f.records w₀ w
  pool_past at w₀ w z h l v gs_of ws_of e k = filled-past z a r at at w₀ w h l (omega arith) (omega arith) (v gs_of ws_of e k)

-- ---- by words that tell places
one_place : (p : List ℕ) (i : ℕ) → i < length p → part i 1 p ≡ spaced (get_or p i 0) 0 1
unfolding part spaced
one_place p i h = rw (drop-cons p i 0 h) refl

module _ (a : ℕ) (s ws : List ℕ) (f : Form) (p : List ℕ) (first n r : ℕ) where
  pub listed-none : (w : List ℕ) → ListFilledIn a s ws f p first n r r w w
  listed-none w d k gs o y g e base q = q

  pub listed_turn : (at : ℕ) (w₀ w : List ℕ) {last : List ℕ} → Shaped s f.shape → first + n ≤ length p → at < n
      → ListFilledIn a s ws f p first n r at w₀ w → LaysPiece s ws f a at 1 (spaced (get_or p (first + at) 0) 0 1) w last
      → ListFilledIn a s ws f p first n r (at + 1) w₀ last
  listed_turn at w₀ w z l h v x d k gs o y g e base q =
      let rs : List (List ℕ) = group_records s d k gs (fragments_of ws) in
      let pc : PieceOf s ws f rs at 1 (spaced (get_or p (first + at) 0) 0 1) =
      rw (body_is s gs k f z g, one_place p (first + at) (omega arith)) at (offsets_are o at 1 l (omega arith)) in
      x rs e pc base (v d k gs o y g e base q)

  -- the others lie past the window
  pub listed-past : (at : ℕ) (w₀ w : List ℕ) → Formed s f most64 → at < f.records → a + length w ≤ start_at f at
      → ListFilledIn a s ws f p first n r at w₀ w → ListFilledIn a s ws f p first n r f.records w₀ w
  listed-past at w₀ w z h l v d k gs o = filled-past z a r at at w₀ w h l (omega arith) (omega arith) (v d k gs o)
