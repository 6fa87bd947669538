-- What the words of kept columns say.
use Prim.{Unit}
use Rattle.std.specs.Prelude.{ℕ, ◌+◌, ◌*◌, List, [], ◌∷◌, ◌≡◌, length, get_or}
use Rattle.plan.specs.Photos.{references}
use Rattle.plan.specs.Columns.{Column}
use Rattle.plan.specs.Layout.{Placed, cn_of}
use Rattle.work_words.specs.PlanWords.{master_word, signal_word}
use Rattle.write_copies.specs.LaidWords.{PlaceWords}
use Rattle.result.specs.Fill.{sd_link}
use Rattle.filling.specs.FillLaws.{has_master, master_cg}
use Rattle.thin.specs.Kept.{signal_kept}
use Rattle.thin.specs.Place.{blocks_of}
use Rattle.thin.specs.Fill.{length_kept}
use Rattle.thinning.specs.declared.column.KeptColumn.{KeptColumn}
use Rattle.thinning.specs.Data.{listed_by}

-- a column is as the file s has it: its blocks are those that its DL lists, its signal data and its references are its CN's
pub record OfFile (s : List ℕ) (c : Column) : Type 0 where
  pub blocks : c.group.data_group.fragments ≡ listed_by s c.group.data_group.at
  pub signal : c.signal_of ≡ signal_kept s c.channel
  pub photos : c.photos ≡ references s c.channel

-- column number k is p; n fragments of signal data are kept before its own
pub record Said (s columns memo : List ℕ) (k : ℕ) (p : Placed) : Type 0 where
  pub channel : get_or columns (8 * k) 0 ≡ p.column.channel
  pub group : get_or columns (8 * k + 1) 0 ≡ p.column.group.at
  pub parent : get_or columns (8 * k + 2) 0 ≡ p.column.group.data_group.at
  pub master : get_or columns (8 * k + 5) 0 ≡ master_word p.column.master
  pub n : ℕ
  pub signal : get_or columns (8 * k + 6) 0 ≡ signal_word n p.column.signal_of
  pub places : PlaceWords memo k p
  pub own : OfFile s p.column

-- columns from number k on are these
unfoldable pub SaidAll : List ℕ → List ℕ → List ℕ → ℕ → List Placed → Type 0
SaidAll s columns memo k [] = Unit
SaidAll s columns memo k (p ∷ ps) = Said s columns memo k p × SaidAll s columns memo (k + 1) ps

-- the numbers of a placed column among all
unfoldable pub numbers_of : List ℕ → List Placed → Placed → KeptColumn
numbers_of s all p = record {
  channel = p.column.channel;
  group = p.column.group.at;
  parent = p.column.group.data_group.at;
  remote = has_master p.column.master;
  master = master_cg all p.column.master;
  dg = p.dg;
  cn = cn_of p;
  first = p.first;
  sd = sd_link p.column.signal_of p.sd;
  blocks = blocks_of p.column;
  photos = length p.column.photos;
  payload = length_kept s p;
}
