-- An accepted call, step by step, in the order of its refusals.
use Rattle.std.specs.Prelude.{ℕ, ◌≤◌, List, true, ◌≡◌, length}
use Rattle.std.proofs.Common.{sym, ◌∙◌, subst}
use Rattle.base.specs.ChoiceLaws.{lt_back}
use Rattle.base.specs.Checked.{ok, fine}
use Rattle.base.specs.CheckedLaws.{refused≢ok, ok_same, then_ok, then_fine}
use Rattle.plan.specs.Photos.{photos_first}
use Rattle.plan.specs.Rules.{unit_in}
use Rattle.plan.specs.Layout.{Layout}
use Rattle.file.specs.Form.{FileColumn}
use Rattle.file.specs.Opened.{opened}
use Rattle.thin.specs.Kept.{columns_sound, numbers_in, masters_kept, kept_columns, photos_kept}
use Rattle.thin.specs.Place.{placed}
use Rattle.thin.specs.TakenOut.{most_image, most_file, arranged, answer}

-- what was tested before the blocks were placed, of the file s with the columns all
pub record Arranged (u : ℕ) (s numbers : List ℕ) (all : List FileColumn) (l : Layout) : Type 0 where
  pub unit : unit_in u ≡ fine
  pub image : length s ≤ most_image
  pub opens : opened s ≡ ok all
  pub sound : columns_sound s all all ≡ fine
  pub numbered : numbers_in (length all) numbers ≡ fine
  pub masters : masters_kept s numbers all 0 all ≡ fine
  pub followed : photos_first true s ≡ fine
  pub photos : photos_kept s (kept_columns s numbers all) ≡ fine
  pub laid : placed u s (kept_columns s numbers all) ≡ ok l

-- and of the output, of so many bytes
pub record Accepted (u : ℕ) (s numbers : List ℕ) (out : ℕ) (all : List FileColumn) (l : Layout) : Type 0 where
  pub steps : Arranged u s numbers all l
  pub small : l.file_size_lem ≤ most_file
  pub fits : l.file_size_lem ≤ out

pub arranged_steps : (u : ℕ) (s numbers : List ℕ) (all : List FileColumn) (l : Layout) → opened s ≡ ok all → arranged u s numbers ≡ ok l
    → Arranged u s numbers all l
unfolding arranged
arranged_steps u s numbers all l opens e =
    let a = then_fine (unit_in u) _ e in
    let b = then_fine _ _ a.1 in
    let c = then_ok (opened s) _ b.1 in
    let cs : List FileColumn = c.0 in
    let d = then_fine (columns_sound s cs cs) _ c.2 in
    let n = then_fine (numbers_in (length cs) numbers) _ d.1 in
    let m = then_fine (masters_kept s numbers cs 0 cs) _ n.1 in
    let p = then_fine (photos_first true s) _ m.1 in
    let q = then_fine (photos_kept s (kept_columns s numbers cs)) _ p.1 in
    subst (λ (found : List FileColumn). Arranged u s numbers found l) (ok_same (sym c.1 ∙ opens)) (record {
      unit = a.0;
      image = (lt_back _ _ _ _ b.0 refused≢ok).0;
      opens = c.1;
      sound = d.0;
      numbered = n.0;
      masters = m.0;
      followed = p.0;
      photos = q.0;
      laid = q.1;
    })

pub accepted : (u : ℕ) (s numbers : List ℕ) (out : ℕ) (all : List FileColumn) (l : Layout) → opened s ≡ ok all → answer u s numbers out ≡ ok l
    → Accepted u s numbers out all l
unfolding answer
accepted u s numbers out all l opens e =
    let a = then_ok (arranged u s numbers) _ e in
    let b = lt_back _ _ _ _ a.2 refused≢ok in
    let c = lt_back _ _ _ _ b.1 refused≢ok in
    let same : a.0 ≡ l = ok_same c.1 in
    subst (λ (k : Layout). Accepted u s numbers out all k) same (record {
      steps = arranged_steps u s numbers all a.0 opens a.1;
      small = b.0;
      fits = c.0;
    })
