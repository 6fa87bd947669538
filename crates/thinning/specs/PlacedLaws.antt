-- The DG, CG, CN and DL of columns that are placed touch each other; what holds of every placed column holds by its words.
use Prim.{tt}
use Rattle.std.specs.Prelude.{ℕ, zero, suc, ◌+◌, ◌*◌, ◌<◌, List, [], ◌∷◌, ◌++◌, ◌≡◌, refl, length, get_or}
use Rattle.std.proofs.Common.{sym, ap, ◌∙◌, add-zero, arith, length-append}
use Rattle.base.specs.ChoiceLaws.{eq_yes}
use Rattle.base.specs.Checked.{fine}
use Rattle.mdf.specs.Records.{ranges_in}
use Rattle.plan.specs.Columns.{Column}
use Rattle.plan.specs.Copies.{Copy, Attachment}
use Rattle.plan.specs.Layout.{cg_size, cn_size, dl_size, Sizes, places_at, past_data, places_from, structures_end, Placed, cg_of, cn_of, dl_of, with_places}
use Rattle.plan.specs.Layout as layouts
use Rattle.work_words.specs.CopyWords.{placed_at}
use Rattle.result.specs.Fill.{Block, block, next_dg}
use Rattle.result.specs.Guarantee.{In, here, there, columns_placed}
use Rattle.copies_laws.specs.AnswerLaws.{on_eq}
use Rattle.thin.specs.Place.{blocks_of, kept_size, kept_sizes}
use Rattle.thin.specs.Fill.{kept_lists, kept_structure}
use Rattle.thin_laws.specs.LaidLaws.{placed_kept}
use Rattle.thin_laws.specs.LengthLaws.{length-kept_dg, length-kept_cg, length-kept_cn, length-kept_dl}
use Rattle.thinning.specs.Touching.{bytes_of, Touching}
use Rattle.thinning.specs.TouchingLaws.{bytes-append, touching_append}
use Rattle.thinning.specs.Data.{listed_by}
use Rattle.thinning.specs.Said.{SaidAll}

-- ---- blocks that touch each other from a to e
pub record Reaching (a : ℕ) (bs : List Block) (e : ℕ) : Type 0 where
  pub touching : Touching a bs
  pub ends : e ≡ a + length (bytes_of bs)

reaching_none : (a : ℕ) → Reaching a [] a
unfolding Touching bytes_of
reaching_none a = record { touching = tt; ends = sym (add-zero a) }

reaching_cons : (a n e : ℕ) (bytes : List ℕ) (bs : List Block) → length bytes ≡ n → Reaching (a + n) bs e → Reaching a (block a bytes ∷ bs) e
unfolding Touching bytes_of
reaching_cons a n e bytes bs l r =
    let t = r.ends in
    record { touching = (refl, rw l r.touching); ends = rw length-append (omega (arith, l)) }

reaching_append : (a m e : ℕ) (xs ys : List Block) → Reaching a xs m → Reaching m ys e → Reaching a (xs ++ ys) e
reaching_append a m e xs ys r t =
    let u = r.ends in
    let v = t.ends in
    record {
      touching = touching_append a xs ys r.touching (rw u at t.touching);
      ends = rw (bytes-append xs ys, length-append) (omega arith);
    }

-- ---- DG, CG, CN and DL
no_size : (n : ℕ) → n ≡ 0 → dl_size n ≡ 0
unfolding dl_size
no_size n z = sym (eq_yes _ _ _ _ z refl)

list_reaching : (s : List ℕ) (p : Placed) → Reaching (dl_of p) (kept_lists s p) (dl_of p + dl_size (blocks_of p.column))
unfolding kept_lists
list_reaching s p =
    on_eq (λ (l : List Block). Reaching (dl_of p) l (dl_of p + dl_size (blocks_of p.column))) (blocks_of p.column) 0 _ _
    (λ z. rw (no_size (blocks_of p.column) z, add-zero) (reaching_none (dl_of p)))
    (λ z. reaching_cons (dl_of p) (dl_size (blocks_of p.column)) _ _ [] (length-kept_dl s p z) (reaching_none _))

column_reaching : (s : List ℕ) (memo : List Copy) (ats : List Attachment) (all ps : List Placed) (p : Placed) (e : ℕ)
    → Reaching (p.dg + (kept_size p.column).structure) (kept_structure s memo ats all ps) e
    → Reaching p.dg (kept_structure s memo ats all (p ∷ ps)) e
unfolding kept_structure
column_reaching s memo ats all ps p e r =
    let same : p.dg + (kept_size p.column).structure ≡ dl_of p + dl_size (blocks_of p.column) = omega arith in
    reaching_cons p.dg 64 e _ _ (length-kept_dg s memo p (next_dg ps))
    (reaching_cons (cg_of p) (cg_size p.column.master) e _ _ (length-kept_cg s memo all p)
    (reaching_cons (cn_of p) (cn_size p.column) e _ _ (length-kept_cn s memo ats p)
    (reaching_append (dl_of p) _ e (kept_lists s p) _ (list_reaching s p) (rw same at r))))

-- those of every column that is placed from a on
pub structure_reaching : (u : ℕ) (s : List ℕ) (memo : List Copy) (ats : List Attachment) (all : List Placed) (a d : ℕ) (cs : List Column)
    → Reaching a (kept_structure s memo ats all (placed_kept u a d cs)) (structures_end a (kept_sizes cs))
unfolding with_places places_from structures_end kept_sizes kept_structure
structure_reaching u s memo ats all a d [] = reaching_none a
structure_reaching u s memo ats all a d (c ∷ cs) =
    let z : Sizes = kept_size c in
    column_reaching s memo ats all (placed_kept u (a + z.structure) (past_data u z d) cs) (layouts.placed_at c (places_at u a d z))
    (structures_end (a + z.structure) (kept_sizes cs)) (structure_reaching u s memo ats all (a + z.structure) (past_data u z d) cs)

-- ---- by their words
pub first_said : (s columns memo : List ℕ) (m : List Copy) (ats : List Attachment) (all ps : List Placed) (a : ℕ) → SaidAll s columns memo 0 ps
    → Touching a (kept_structure s m ats all ps) → 0 < length ps → get_or memo placed_at 0 ≡ a
unfolding SaidAll kept_structure Touching
first_said s columns memo m ats all [] a q t h = absurd (omega arith)
first_said s columns memo m ats all (p ∷ ps) a q t h = q.0.places.dg ∙ t.0

pub next-first : (s columns memo : List ℕ) (ps : List Placed) → SaidAll s columns memo 0 ps → 0 < length ps → get_or memo placed_at 0 ≡ next_dg ps
unfolding SaidAll
next-first s columns memo [] q h = absurd (omega arith)
next-first s columns memo (p ∷ ps) q h = q.0.places.dg

pub dg-said : (s columns memo : List ℕ) (k i b : ℕ) (ps : List Placed) → SaidAll s columns memo k ps → ((p : Placed) → In p ps → p.dg < b)
    → i < length ps
    → get_or memo (placed_at + 3 * (k + i)) 0 < b
unfolding SaidAll
dg-said s columns memo k i b [] q f h = absurd (omega arith)
dg-said s columns memo k zero b (p ∷ ps) q f h = rw (add-zero, q.0.places.dg) (f p here)
dg-said s columns memo k (suc i) b (p ∷ ps) q f h =
    let e : k + suc i ≡ k + 1 + i = omega arith in
    rw e (dg-said s columns memo (k + 1) i b ps q.1 (λ x j. f x (there j)) (omega arith))

pub ranges_said : (s columns memo : List ℕ) (k i : ℕ) (ps : List Placed) → SaidAll s columns memo k ps
    → ((p : Placed) → In p ps → ranges_in s p.column.group.data_group.fragments ≡ fine) → i < length ps
    → ranges_in s (listed_by s (get_or columns (8 * (k + i) + 2) 0)) ≡ fine
unfolding SaidAll
ranges_said s columns memo k i [] q f h = absurd (omega arith)
ranges_said s columns memo k zero (p ∷ ps) q f h = rw (add-zero, q.0.parent, ← q.0.own.blocks) (f p here)
ranges_said s columns memo k (suc i) (p ∷ ps) q f h =
    let e : k + suc i ≡ k + 1 + i = omega arith in
    rw e (ranges_said s columns memo (k + 1) i ps q.1 (λ x j. f x (there j)) (omega arith))

pub length-placed : (ps : List Placed) → length (columns_placed ps) ≡ length ps
unfolding columns_placed
length-placed [] = refl
length-placed (p ∷ ps) = ap suc (length-placed ps)
