-- All that is to be shown of one kept column of the new file: `ColumnKept`, from its blocks, the copies that its links lead to and the attachments.
use Rattle.std.specs.Prelude.{ℕ, ◌+◌, ◌^◌, ◌<◌, List, ◌≡◌, length, get_or}
use Rattle.std.proofs.Math.Option.{Option, none, some}
use Rattle.std.proofs.Math.Path.{refl, sym}
use Rattle.std.proofs.Common.{ap, ◌∙◌, arith}
use Rattle.base.specs.ChoiceLaws.{eq_yes, eq_no}
use Rattle.mdf.specs.Block.{link_at}
use Rattle.plan.specs.Columns.{remote_link}
use Rattle.plan.specs.Copies.{Copy, Attachment, column_links}
use Rattle.plan.specs.Layout.{Places, Placed, placed_at, cg_of, cn_of}
use Rattle.plan.specs.Photos.{references}
use Rattle.result.specs.Fill.{new_link, cg_at, photo_links}
use Rattle.result.specs.Due.{has_master}
use Rattle.result.specs.Names.{LinkDue, PhotosDue}
use Rattle.result.specs.Guarantee.{In, here, there}
use Rattle.file.specs.Form.{FileColumn}
use Rattle.sheet.specs.Sheet.{master_of}
use Rattle.thin.specs.Kept.{new_master, kept_column}
use Rattle.thin.specs.Guarantee.{NamesKept, ColumnKept}
use Rattle.thin_shown.specs.Sound.{new_column, old_column, KeptSound, KeptStands, MasterPlaced}
use Rattle.thin_shown.specs.Blocks.{moved_lengths, moved_kinds}
use Rattle.thin_shown.specs.Column.{master_same, dg-head, dg_data_lem, dg_comment, cg-head, cg_data_lem, cg_reductions, cg-none, cg-some, cg_name_lem}
use Rattle.thin_shown.specs.Column.{cg-source, cg_comment, cn-head, cn_data_lem, cn_composition, cn_photo_link, cn_name_lem, cn-source, cn_conversion}
use Rattle.thin_shown.specs.Column.{cn_unit, cn_comment, list-kept, payload_kept, signal_kept_lem}

-- a kept column was column c of the file
pub old_column_lem : (s numbers : List ℕ) (cs : List FileColumn) (c : FileColumn) (q : Places) → old_column (placed_at (kept_column s numbers cs c) q) ≡ c
old_column_lem s numbers cs c q = refl

module _ {s f : List ℕ} {memo : List Copy} {ats : List Attachment} {all : List Placed} {p : Placed} {next : ℕ}
    (k : KeptSound s p) (st : KeptStands s f memo ats all p next) where
  -- names, sources, conversion, unit and comments: where links lead to what is due
  pub names_kept : (past : List ℕ) → ((a : ℕ) → new_link memo a < 256 ^ 8)
      → ((j a : ℕ) → In a (column_links s p.column) → LinkDue j s f past a (new_link memo a)) → (j : ℕ) → NamesKept j s f past (old_column p) (new_column p)
  names_kept past small led j =
      record {
        group_name = rw (cg_name_lem k st small) (led j _ here);
        group_source = rw (cg-source k st small) (led j _ (there here));
        group_comment = rw (cg_comment k st small) (led j _ (there (there here)));
        name = rw (cn_name_lem k st small) (led j _ (there (there (there here))));
        source = rw (cn-source k st small) (led j _ (there (there (there (there here)))));
        conversion = rw (cn_conversion k st small) (led j _ (there (there (there (there (there here))))));
        unit = rw (cn_unit k st small) (led j _ (there (there (there (there (there (there here)))))));
        comment = rw (cn_comment k st small) (led j _ (there (there (there (there (there (there (there here))))))));
        data_comment = rw (dg_comment k st small) (led j _ (there (there (there (there (there (there (there (there here)))))))));
      }

  -- its links after the eighth, by the references of its channel
  pub photo_links_lem : (i : ℕ) → i < length (references s p.column.channel) → get_or (photo_links ats (references s p.column.channel)) i 0 < 256 ^ 8
      → link_at f (cn_of p) (8 + i) ≡ get_or (photo_links ats (references s p.column.channel)) i 0
  photo_links_lem = rw (← k.photos) (cn_photo_link k st)

  -- its master: the column that has the CG of its master, among those of the new file
  pub master_kept_lem : (news : List FileColumn) → ((m : ℕ) → p.column.master ≡ some m → MasterPlaced s all news p.column.group.at m)
      → master_of f news (cg_of p) ≡ p.column.master
  unfolding master_of
  master_kept_lem news placed = go p.column.master refl
    where
      go : (o : Option ℕ) → p.column.master ≡ o → master_of f news (cg_of p) ≡ p.column.master
      go none e = sym (eq_yes _ _ _ _ (cg-none k st e) refl) ∙ sym e
      go (some m) e =
          let h = placed m e in
          let link : remote_link f (cg_of p) ≡ cg_at m all = cg-some k st m e h.below h.flagged in
          sym (eq_no _ _ _ _ (λ z. omega (arith, link, h.above)) (sym (rw link h.numbered))) ∙ sym e

  -- all together: the column with the master master_of s cs, among the columns cs of s, under its new number
  pub column-kept : (numbers past from : List ℕ) (cs news : List FileColumn) → p.column.master ≡ new_master numbers (master_of s cs p.column.group.at)
      → ((m : ℕ) → p.column.master ≡ some m → MasterPlaced s all news p.column.group.at m)
      → ((j : ℕ) → NamesKept j s f past (old_column p) (new_column p)) → PhotosDue s f from p.column.channel (cn_of p)
      → ColumnKept s f numbers past from cs news (old_column p) (new_column p)
  column-kept numbers past from cs news master placed names photos =
      record {
        dg_head = dg-head k st;
        cg_head = rw (← same) (cg-head k st);
        cn_head = cn-head k st;
        dg_data = dg_data_lem k st;
        cg_data = cg_data_lem k st;
        cn_data = cn_data_lem k st;
        reductions = cg_reductions k st;
        composition = cn_composition k st;
        list = list-kept k st;
        lengths = moved_lengths p.first p.column.group.data_group.fragments;
        kinds = moved_kinds p.first p.column.group.data_group.fragments;
        payload = payload_kept k st;
        signal = signal_kept_lem k st;
        master = master_kept_lem news placed ∙ master;
        names = names;
        photos = photos;
      }
    where
      same : has_master p.column.master ≡ has_master (master_of s cs p.column.group.at)
      same = ap has_master master ∙ master_same numbers (master_of s cs p.column.group.at)
