-- What follows from the promise for one column: column number m of the file, if it isn't taken out, is column `newNumber numbers m` of the new one,
-- and so is its master; a type 1 channel's SD is kept, and no other channel has one.
use Prim.Native.Nat.{ℕ, zero, suc, ◌+◌}
use Rattle.std.specs.Prelude.{List, [], ◌∷◌, ◌≡◌}
use Rattle.std.proofs.Math.Bool.{false}
use Rattle.std.proofs.Math.Option.{Option, some}
use Rattle.std.proofs.Math.Path.{refl, ap, subst}
use Rattle.std.proofs.Common.{sym, ◌∙◌, zero-add}
use native.Mathlib.Omega.{arith}
use Rattle.base.specs.ChoiceLaws.{eq_yes, eq_no}
use Rattle.base.specs.Checked.{fine}
use Rattle.mdf.specs.Block.{link_at}
use Rattle.mdf.specs.Chain.{is_in}
use Rattle.plan.specs.Channel.{channel_type}
use Rattle.plan.specs.Layout.{Layout}
use Rattle.result.specs.Recording.{attached_from}
use Rattle.plan_laws.specs.DecideLaws.{none≢some, some_same}
use Rattle.plan_laws.specs.Answers.{true≢false}
use Rattle.file.specs.Form.{FileColumn}
use Rattle.file.specs.Range.{file_column_at}
use Rattle.sheet.specs.Sheet.{master_of}
use Rattle.thin.specs.Kept.{signal_place, is_taken, masters_kept, new_number, new_master}
use Rattle.thin.specs.Guarantee.{SignalKept, ColumnKept, ColumnsKept, TakenOut}
use Rattle.thin_guarantee.specs.Accepted.{Accepted}
use Rattle.thin_guarantee.specs.Numbers.{kept_among, number-from-start, masters-next}

-- a column of the new file that is column c of the file
pub record KeptAs (s f numbers past ats : List ℕ) (all news : List FileColumn) (c : FileColumn) (n : ℕ) : Type 0 where
  pub column : FileColumn
  pub is_at_lem : file_column_at n news ≡ some column
  pub same : ColumnKept s f numbers past ats all news c column

module _ {s f numbers past ats : List ℕ} {all news : List FileColumn} where
  kept_from_lem : {k : ℕ} {cs ds : List FileColumn} → ColumnsKept s f numbers past ats all news k cs ds → (n : ℕ) (c : FileColumn)
      → file_column_at n cs ≡ some c → is_in (k + n) numbers ≡ false
      → (d : FileColumn) × (file_column_at (kept_among numbers k n) ds ≡ some d) × ColumnKept s f numbers past ats all news c d
  unfolding file_column_at kept_among
  kept_from_lem ColumnsKept.done n c e i = absurd (none≢some e)
  kept_from_lem {k} (ColumnsKept.out q m) zero c e i =
      let j : is_in k numbers ≡ false = ap (λ (x : ℕ). is_in x numbers) (omega arith) ∙ i in
      absurd (true≢false (sym q ∙ j))
  kept_from_lem {k} (ColumnsKept.out q m) (suc n) c e i =
      let r = kept_from_lem m n c e (ap (λ (x : ℕ). is_in x numbers) (omega arith) ∙ i) in
      (r.0, rw (q, zero-add) r.1, r.2)
  kept_from_lem (ColumnsKept.kept {d = d} q h m) zero c e i =
      (d, refl, subst (λ (x : FileColumn). ColumnKept s f numbers past ats all news x d) (some_same e) h)
  kept_from_lem {k} (ColumnsKept.kept q h m) (suc n) c e i =
      let r = kept_from_lem m n c e (ap (λ (x : ℕ). is_in x numbers) (omega arith) ∙ i) in
      let w : 1 + kept_among numbers (suc k) n ≡ suc (kept_among numbers (suc k) n) = omega arith in
      (r.0, rw (q, w) r.1, r.2)

  pub kept_as : ColumnsKept s f numbers past ats all news 0 all news → (m : ℕ) (c : FileColumn) → file_column_at m all ≡ some c → is_in m numbers ≡ false
      → KeptAs s f numbers past ats all news c (new_number numbers m)
  kept_as h m c e i =
      let r = kept_from_lem h m c e (ap (λ (x : ℕ). is_in x numbers) (zero-add m) ∙ i) in
      record { column = r.0; is_at_lem = rw (number-from-start numbers m) r.1; same = r.2 }

-- ---- "masters .. kept": the master of a kept column is kept, and the new file's column names it
masters_stay : (s numbers : List ℕ) (all : List FileColumn) (k : ℕ) (cs : List FileColumn) → masters_kept s numbers all k cs ≡ fine
    → (n : ℕ) (c : FileColumn) → file_column_at n cs ≡ some c → is_in (k + n) numbers ≡ false → is_taken (master_of s all c.cg) numbers ≡ false
unfolding file_column_at
masters_stay s numbers all k [] h n c e i = absurd (none≢some e)
masters_stay s numbers all k (b ∷ cs) h zero c e i =
    let j : is_in k numbers ≡ false = ap (λ (x : ℕ). is_in x numbers) (omega arith) ∙ i in
    subst (λ (x : FileColumn). is_taken (master_of s all x.cg) numbers ≡ false) (some_same e) ((masters-next s numbers all k b cs h).0 j)
masters_stay s numbers all k (b ∷ cs) h (suc n) c e i =
    masters_stay s numbers all (suc k) cs (masters-next s numbers all k b cs h).1 n c e (ap (λ (x : ℕ). is_in x numbers) (omega arith) ∙ i)

-- column number n of the file, c, with the master b, column number m, in the new file
pub record MasterKept (s f numbers past ats : List ℕ) (all news : List FileColumn) (n : ℕ) (c : FileColumn) (m : ℕ) (b : FileColumn) : Type 0 where
  pub column : KeptAs s f numbers past ats all news c (new_number numbers n)
  pub master : KeptAs s f numbers past ats all news b (new_number numbers m)
  pub names : master_of f news column.column.cg ≡ some (new_number numbers m)

pub master_kept_lem : (u : ℕ) (s numbers : List ℕ) (out : ℕ) (all : List FileColumn) (l : Layout) (f : List ℕ) → Accepted u s numbers out all l
    → (t : TakenOut u s numbers all l f) → (n m : ℕ) (c b : FileColumn) → file_column_at n all ≡ some c → is_in n numbers ≡ false
    → master_of s all c.cg ≡ some m → file_column_at m all ≡ some b
    → MasterKept s f numbers l.past.chain (attached_from l.attached.attachments) all t.news n c m b
master_kept_lem u s numbers out all l f a t n m c b e i h d =
    let r = kept_as t.columns n c e i in
    let stays : is_taken (master_of s all c.cg) numbers ≡ false = masters_stay s numbers all 0 all a.steps.masters n c e (rw zero-add i) in
    let j : is_in m numbers ≡ false = ap (λ (x : Option ℕ). is_taken x numbers) (sym h) ∙ stays in
    record { column = r; master = kept_as t.columns m b d j; names = r.same.master ∙ ap (new_master numbers) h }

-- ---- "signal data .. kept", "a type 1 channel's nonzero link 6"
module _ {s f numbers past ats : List ℕ} {all news : List FileColumn} {c d : FileColumn} (k : ColumnKept s f numbers past ats all news c d) where
  pub signal_kept_lem : channel_type s c.cn ≡ 1 → SignalKept s f (link_at s c.cn 5) (link_at f d.cn 5)
  unfolding signal_place
  signal_kept_lem e = subst (λ (a : ℕ). SignalKept s f a (link_at f d.cn 5)) (sym (eq_yes _ _ _ _ e refl)) k.signal

  pub signal_none : (channel_type s c.cn ≡ 1 → ⊥) → link_at f d.cn 5 ≡ 0
  unfolding signal_place
  signal_none z = k.signal.none_stays (sym (eq_no _ _ _ _ z refl))
