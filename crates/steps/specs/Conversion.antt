-- Bookkeeping: the parts of what a conversion in steps holds.
use Rattle.std.specs.Prelude.{ℕ, List, [], ◌∷◌, get_or}
use Rattle.result.specs.Result.{Args}
use Rattle.writing.specs.Answer.{args}
use Rattle.choices.specs.declared.Choices.{Choices}
use Rattle.stores.specs.Stores.{steps_of}
use Rattle.placing.specs.declared.layout.Numbers.{Numbers}
use Rattle.positions.specs.declared.Positions.{Positions}
use Rattle.window_file.specs.declared.Held.{Held}
use Rattle.steps.specs.declared.conversion.Conversion.{Conversion}

abbrev pub numbers_of : Conversion → Numbers
numbers_of k = record {
  history = k.history;
  chain = k.chain;
  md = k.md;
  fh = k.fh;
  metadata = k.metadata;
  copies = k.copies;
  attachments = k.attachments;
  metadata_end = k.metadata_end;
  file_size = k.file_size;
}

abbrev pub held_of : Conversion → Held
held_of k = record { items = k.items; pieces = k.pieces; columns = k.columns; omissions = k.omissions; numbers = numbers_of k }

abbrev pub choices_of : Conversion → Choices
choices_of k = record { unit = k.unit; share = k.share; photos = k.photos }

abbrev pub positions_of : Conversion → Positions
positions_of k = record {
  next = k.next;
  count = k.count;
  names = k.name_a ∷ k.name_b ∷ k.name_c ∷ k.name_d ∷ [];
  places = k.place_a ∷ k.place_b ∷ k.place_c ∷ k.place_d ∷ [];
}

-- the call, with the slices that are lent again
abbrev pub call_of : Conversion → List ℕ → List ℕ → List ℕ → List ℕ → Args
call_of k image ident text table = args image k.block_size ident text k.time (record { unit = k.unit; table = table; share = k.share; photos = k.photos })

-- the same conversion with other positions and names
abbrev pub at_positions : Conversion → Positions → Conversion
at_positions k p = record {
  block_size = k.block_size;
  time = k.time;
  unit = k.unit;
  share = k.share;
  photos = k.photos;
  items = k.items;
  pieces = k.pieces;
  columns = k.columns;
  omissions = k.omissions;
  history = k.history;
  chain = k.chain;
  md = k.md;
  fh = k.fh;
  metadata = k.metadata;
  copies = k.copies;
  attachments = k.attachments;
  metadata_end = k.metadata_end;
  file_size = k.file_size;
  steps = k.steps;
  next = p.next;
  count = p.count;
  name_a = get_or p.names 0 0;
  name_b = get_or p.names 1 0;
  name_c = get_or p.names 2 0;
  name_d = get_or p.names 3 0;
  place_a = get_or p.places 0 0;
  place_b = get_or p.places 1 0;
  place_c = get_or p.places 2 0;
  place_d = get_or p.places 3 0;
}

-- and with another next store
abbrev pub at_next : Conversion → ℕ → Conversion
at_next k n = at_positions k (record { next = n; count = k.count; names = (positions_of k).names; places = (positions_of k).places })

-- before the first store, with no name
abbrev pub begun_as : ℕ → ℕ → Choices → ℕ → ℕ → ℕ → ℕ → Numbers → Conversion
begun_as size time chosen items pieces columns omissions n = record {
  block_size = size;
  time = time;
  unit = chosen.unit;
  share = chosen.share;
  photos = chosen.photos;
  items = items;
  pieces = pieces;
  columns = columns;
  omissions = omissions;
  history = n.history;
  chain = n.chain;
  md = n.md;
  fh = n.fh;
  metadata = n.metadata;
  copies = n.copies;
  attachments = n.attachments;
  metadata_end = n.metadata_end;
  file_size = n.file_size;
  steps = steps_of n.file_size;
  next = 0;
  count = 0;
  name_a = 0;
  name_b = 0;
  name_c = 0;
  name_d = 0;
  place_a = 0;
  place_b = 0;
  place_c = 0;
  place_d = 0;
}
