-- Tables of a DG's groups: how they are filled, and that a group whose id they have is the one with that id.
use Rattle.std.specs.Prelude.{ℕ, zero, suc, ◌+◌, ◌-◌, ◌≤◌, ◌<◌, List, [], ◌∷◌, Bool, true, false, ◌≡◌, refl, length, get_or, set, drop, eqb}
use Rattle.std.proofs.Common.{sym, ap, ◌∙◌, add-zero, zero-add, eq-zero-or-pos, arith, length-append, drop_of_length-le, drop-cons, eq-eqb}
use Rattle.std.proofs.Math.Logic.{⊎_elim}
use Rattle.std.proofs.Math.Numerals.{add-one}
use Rattle.base.specs.Choice.{pick, if_le}
use Rattle.base.specs.ChoiceLaws.{lt_no, le_yes, eq_yes, eq_no}
use Rattle.base.specs.Blit.{part, blit}
use Rattle.base.specs.Field.{le_at}
use Rattle.mdf.specs.Group.{record_id, samples, inval_bytes, is_storage}
use Rattle.mdf.specs.Records.{most64, joined, known, with_id, is_id_of, equal_ids}
use Rattle.records.specs.Ahead.{fragments_from, ahead, reached, step_to}
use Rattle.records.specs.Framing.{none, value, numeral, body_of, body_to}
use Rattle.records.specs.Table.{each, size_word, Tabled, IdHere, BodyHere}
use Rattle.records.specs.AheadLaws.{part_high, part-all, joined-ahead, byte_here, spot_stay}
use Rattle.records.specs.FrameLaws.{record_onto, step-body}
use Rattle.records.specs.SeveralLaws.{get_d_blit}

true≢false : true ≡ false → ⊥
true≢false e = let z : ◌≡◌ {A = ℕ} 0 1 = cc in omega arith

-- ---- the group with an id, where no two are equal
either : (b : Bool) → pick b true true ≡ true
either true = refl
either false = refl

neither : (a b : Bool) → pick a true b ≡ false → (a ≡ false) × (b ≡ false)
neither true b e = absurd (true≢false e)
neither false b e = (refl, e)

is_member : (s : List ℕ) (id : ℕ) (gs : List ℕ) (j : ℕ) → j < length gs → record_id s (get_or gs j 0) ≡ id → is_id_of s id gs ≡ true
unfolding is_id_of
is_member s id [] j h e = absurd (omega arith)
is_member s id (g ∷ gs) zero h e = rw (eq-eqb (record_id s g) id e)
is_member s id (g ∷ gs) (suc j) h e = rw (is_member s id gs j (omega arith) e) (either (eqb (record_id s g) id))

-- any group with the id is the one that is found, whatever comes before it
pub with_apart : (s : List ℕ) (id k : ℕ) (gs : List ℕ) (j : ℕ) → equal_ids s gs ≡ false → j < length gs → record_id s (get_or gs j 0) ≡ id
    → with_id s id k gs ≡ known (k + j) (get_or gs j 0)
unfolding with_id equal_ids
with_apart s id k [] j a h e = absurd (omega arith)
with_apart s id k (g ∷ gs) zero a h e = sym (eq_yes _ _ _ _ e (rw (add-zero k)))
with_apart s id k (g ∷ gs) (suc j) a h e =
    let b = neither (is_id_of s (record_id s g) gs) (equal_ids s gs) a in
    let ne : record_id s g ≡ id → ⊥ = λ q. true≢false (sym (is_member s (record_id s g) gs j (omega arith) (e ∙ sym q)) ∙ b.0) in
    let n : k + 1 + j ≡ k + suc j = omega arith in
    sym (eq_no _ _ _ _ ne refl) ∙ with_apart s id (k + 1) gs j b.1 (omega arith) e ∙ rw n

-- ---- numbers of bytes ahead that lie in the image from the position on
le_same : (n : ℕ) (d s : List ℕ) (a b : ℕ) → ((i : ℕ) → i < n → get_or d (a + i) 0 ≡ get_or s (b + i) 0) → le_at n d a ≡ le_at n s b
unfolding le_at
le_same zero d s a b e = refl
le_same (suc n) d s a b e =
    let h : get_or d a 0 ≡ get_or s b 0 = rw (add-zero a, add-zero b) at (e 0 (omega arith)) in
    let t : (i : ℕ) → i < n → get_or d (a + 1 + i) 0 ≡ get_or s (b + 1 + i) 0 = λ i l.
    (let x : a + suc i ≡ a + 1 + i = omega arith in let y : b + suc i ≡ b + 1 + i = omega arith in rw (x, y) at (e (suc i) (omega arith))) in
    rw (h, le_same n d s (a + 1) (b + 1) t)

le-here : (s ws : List ℕ) (at p l n : ℕ) → n ≤ length (part p l s) → le_at n (joined s (ahead s ws at p l)) 0 ≡ le_at n s p
le-here s ws at p l n h =
    le_same n (joined s (ahead s ws at p l)) s 0 p (λ i q. rw (zero-add i) (sym (byte_here s ws at p l i refl refl (omega arith))))

-- ---- a record that lies in its fragment
numeral_in : (x : ℕ) → x ≤ most64 → numeral x ≡ value x
unfolding numeral
numeral_in x h = sym (lt_no _ _ _ _ h refl)

plain_body : (s d : List ℕ) (g m : ℕ) (b : Bool) → 0 < pick b 0 (samples s g + inval_bytes s g + 1)
    → m + 1 ≡ pick b 0 (samples s g + inval_bytes s g + 1)
    → pick b (if_le 4 (length d) (value (4 + le_at 4 d 0)) none) (value (samples s g + inval_bytes s g)) ≡ value m
plain_body s d g m true h e = absurd (omega arith)
plain_body s d g m false h e = ap value (omega arith)

stored-body : (s d : List ℕ) (g m : ℕ) (b : Bool) → pick b 0 (samples s g + inval_bytes s g + 1) ≡ 0 → 4 ≤ length d → m ≡ 4 + le_at 4 d 0
    → pick b (if_le 4 (length d) (value (4 + le_at 4 d 0)) none) (value (samples s g + inval_bytes s g)) ≡ value m
stored-body s d g m true z h e = sym (le_yes _ _ _ _ h refl) ∙ ap value (sym e)
stored-body s d g m false z h e = absurd (omega arith)

module _ (s ws : List ℕ) (at p left : ℕ) (g : ℕ) {size m : ℕ} (is : left ≡ length (part p left s)) (e : size ≡ size_word s g)
    (b : BodyHere s p left size m) where
  long : left ≤ length (joined s (ahead s ws at p left))
  long =
      let a = ap length (joined-ahead s ws at p left) in
      let c = length-append (part p left s) (joined s (fragments_from ws at)) in
      omega arith

  body-here : body_of s (joined s (ahead s ws at p left)) g ≡ value m
  unfolding body_of size_word
  body-here = ⊎_elim
      (λ z. stored-body s (joined s (ahead s ws at p left)) g m (is_storage s g) (sym e ∙ z) (let l = long in let f = b.fits in let q = b.stored z in omega arith)
      (b.stored z ∙ (let f = b.fits in let q = b.stored z in rw (le-here s ws at p left 4 (omega arith)))))
      (λ z. plain_body s (joined s (ahead s ws at p left)) g m (is_storage s g) (rw e at z) (b.plain z ∙ e))
      (eq-zero-or-pos size)

  pub body_reached : (k : ℕ) → reached k m at (p + m) (left - m) ≡ body_to s k g (ahead s ws at p left) at
  body_reached k = record_onto s k g (ahead s ws at p left) at body-here (sym (spot_stay s ws at p left m is b.fits))

module _ (s : List ℕ) (n : ℕ) (gs ws ids sizes : List ℕ) (at p l : ℕ) (t : Tabled s gs ids sizes) {here : ℕ} (is : here ≡ length (part p l s)) where
  pub quick_step : {x g m : ℕ} → IdHere s p here n x → g < 512 → g < length gs → get_or ids g 0 ≡ x
      → BodyHere s (p + n) (here - n) (get_or sizes g 0) m
      → reached g m at (p + n + m) (here - n - m) ≡ step_to s n gs (ahead s ws at p l) at
  quick_step {x} {g} {m} i low h q b =
      let f = i.fits in
      let k = part_high p l s in
      let r : here - n ≡ length (part (p + n) (here - n) s) = sym (part-all (p + n) (here - n) s (omega arith)) in
      let u : numeral (le_at n (joined s (ahead s ws at p l)) 0) ≡ value x =
      rw (le-here s ws at p l n (omega arith), ← i.is) (numeral_in x i.small) in
      let v : with_id s x 0 gs ≡ known g (get_or gs g 0) = rw (zero-add g) at (with_apart s x 0 gs g t.apart h (sym (t.id_of g h low) ∙ q)) in
      step-body s n gs ws at p l (sym (spot_stay s ws at p l n is f)) u v
      (body_reached s ws at (p + n) (here - n) (get_or gs g 0) r (t.size_of g h low) b g)

-- ---- the tables are filled
pub word-stored : (s : List ℕ) (g : ℕ) {b : Bool} → b ≡ is_storage s g → b ≡ true → 0 ≡ size_word s g
unfolding size_word
word-stored s g e q = rw (← e, q)

pub word-plain : (s : List ℕ) (g : ℕ) {b : Bool} {x y : ℕ} → b ≡ is_storage s g → b ≡ false → x ≡ samples s g → y ≡ inval_bytes s g
    → x + y + 1 ≡ size_word s g
unfolding size_word
word-plain s g e q m n = rw (← e, q, m, n)

module _ (f : ℕ → ℕ) (gs : List ℕ) where
  module _ (i : ℕ) (w : List ℕ) {v : List ℕ} (rest : blit i (each f (drop i gs)) w ≡ v) where
    pub each_turn : {x : ℕ} {u : List ℕ} → i < length gs → x ≡ f (get_or gs i 0) → u ≡ set w i x
        → blit (i + 1) (each f (drop (i + 1) gs)) u ≡ v
    unfolding each blit
    each_turn h e q = rw (q, add-one i, e) (rw (drop-cons gs i 0 h) at rest)

    pub each_end : length gs ≤ i → w ≡ v
    unfolding each blit
    each_end h = rw (drop_of_length-le gs h) at rest

length-each : (f : ℕ → ℕ) (gs : List ℕ) → length (each f gs) ≡ length gs
unfolding each
length-each f [] = refl
length-each f (g ∷ gs) = ap suc (length-each f gs)

get_d_each : (f : ℕ → ℕ) (gs : List ℕ) (j : ℕ) → j < length gs → get_or (each f gs) j 0 ≡ f (get_or gs j 0)
unfolding each
get_d_each f [] j h = absurd (omega arith)
get_d_each f (g ∷ gs) zero h = refl
get_d_each f (g ∷ gs) (suc j) h = get_d_each f gs j (omega arith)

each_at_lem : (f : ℕ → ℕ) (gs w : List ℕ) {v : List ℕ} → v ≡ blit 0 (each f gs) w → length w ≡ 512 → (j : ℕ) → j < length gs → j < 512
    → get_or v j 0 ≡ f (get_or gs j 0)
each_at_lem f gs w e l j h k =
    let a = length-each f gs in
    let z : 0 + j ≡ j = zero-add j in
    rw e (rw z at (get_d_blit (each f gs) 0 j w (omega arith) (omega arith)) ∙ get_d_each f gs j h)

pub tabled : (s gs a b : List ℕ) {ids sizes : List ℕ} → equal_ids s gs ≡ false → ids ≡ blit 0 (each (record_id s) gs) a → length a ≡ 512
    → sizes ≡ blit 0 (each (size_word s) gs) b → length b ≡ 512 → Tabled s gs ids sizes
tabled s gs a b q e l f k =
    record { apart = q; id_of = each_at_lem (record_id s) gs a e l; size_of = each_at_lem (size_word s) gs b f k }
