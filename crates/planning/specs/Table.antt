-- The groups of a recording in a table, eight words each, out of the items, and out of the words of the table.
use Rattle.std.specs.Prelude.{ℕ, zero, suc, ◌+◌, ◌*◌, ◌-◌, min, List, [], ◌∷◌, ◌++◌, length, get_or}
use Rattle.std.proofs.Math.Option.{none}
use Rattle.base.specs.Choice.{pick, if_lt}
use Rattle.mdf.specs.Walk.{Item, dg, cg, cn}
use Rattle.mdf.specs.Group.{groups_of, channels_of, up_to, is_storage}
use Rattle.work_words.specs.Words.{groups_at, counts_at}
use Rattle.plan.specs.Columns.{first_master, own_master}
use Rattle.planning.specs.declared.table.Owner.{Owner}
use Rattle.planning.specs.declared.table.Entry.{Entry}

-- an entry's words
unfoldable pub entry_words : Entry → List ℕ
entry_words e = e.at ∷ e.master ∷ e.records ∷ e.dg ∷ e.groups ∷ e.count ∷ e.fragments ∷ e.words ∷ []

unfoldable pub table_words : List Entry → List ℕ
table_words [] = []
table_words (e ∷ es) = entry_words e ++ table_words es

-- entry j of the words
unfoldable pub entry_at : List ℕ → ℕ → Entry
entry_at w j = record {
  at = get_or w (8 * j) 0;
  master = get_or w (8 * j + 1) 0;
  records = get_or w (8 * j + 2) 0;
  dg = get_or w (8 * j + 3) 0;
  groups = get_or w (8 * j + 4) 0;
  count = get_or w (8 * j + 5) 0;
  fragments = get_or w (8 * j + 6) 0;
  words = get_or w (8 * j + 7) 0;
}

-- n entries from number j on
unfoldable pub entries_at : List ℕ → ℕ → ℕ → List Entry
entries_at w j zero = []
entries_at w j (suc n) = entry_at w j ∷ entries_at w (j + 1) n

-- ---- out of the items

-- the DG at d with the items past it, m fragments and j groups before its own, of nf fragments
unfoldable pub owner_of : ℕ → ℕ → ℕ → ℕ → List Item → Owner
owner_of nf d m j is = record {
  dg = d;
  groups = groups_at + j;
  count = length (groups_of is);
  fragments = if_lt m (min (up_to nf is) nf) (3 * m) 0;
  words = 3 * (min (up_to nf is) nf - m);
}

-- before the first DG
abbrev pub nobody : Owner
nobody = record { dg = 0; groups = 0; count = 0; fragments = 0; words = 0 }

-- group j with its CG at a and the items past it; w are the words of what was read
unfoldable pub entry_in : List ℕ → List ℕ → Owner → ℕ → ℕ → List Item → Entry
entry_in s w o j a is = record {
  at = a;
  master = own_master (pick (is_storage s a) none (first_master s a (channels_of is)));
  records = get_or w (counts_at + j) 0;
  dg = o.dg;
  groups = o.groups;
  count = o.count;
  fragments = o.fragments;
  words = o.words;
}

-- the groups of items, from group number j on, in the DG o
unfoldable pub entries : List ℕ → List ℕ → ℕ → Owner → ℕ → List Item → List Entry
entries s w nf o j [] = []
entries s w nf o j (dg a m ∷ is) = entries s w nf (owner_of nf a m j is) j is
entries s w nf o j (cg a ∷ is) = entry_in s w o j a is ∷ entries s w nf o (j + 1) is
entries s w nf o j (cn a ∷ is) = entries s w nf o j is
