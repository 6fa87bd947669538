-- What the words of reading hold of a DG: its fragments and its groups.
use Rattle.std.specs.Prelude.{◌≡◌, ℕ, ◌+◌, ◌-◌, ◌*◌, ◌≤◌, min, List, length, slice_index}
use Rattle.base.specs.Blit.{part}
use Rattle.mdf.specs.Walk.{level_cg, tally}
use Rattle.mdf.specs.Group.{groups_of, up_to}
use Rattle.planning.specs.Items.{items_from}
use Rattle.planning.specs.Span.{past_dg}
use Rattle.writing.specs.declared.own.Own.{Own}
use Rattle.writing.specs.declared.own.Known.{Known}

-- of the DG that item i follows, among n items; nf fragments are kept. The mark of item i - 1 is word 1535 + i
unfoldable pub own_past : List ℕ → ℕ → ℕ → ℕ → Own
own_past w n nf i =
    record {
      begin = min (slice_index w (1535 + i) - 2) (min (up_to nf (items_from w i (min n 1536 - i))) nf);
      end = min (up_to nf (items_from w i (min n 1536 - i))) nf;
      first = tally level_cg.own (items_from w 0 (min i (min n 1536)));
      groups = length (groups_of (items_from w i (min n 1536 - i)));
    }

-- of the DG at d
unfoldable pub own_in : List ℕ → ℕ → ℕ → ℕ → Own
own_in w n nf d = own_past w n nf (past_dg d 0 (items_from w 0 (min n 1536)))

pub record OwnOf (w : List ℕ) (n nf d : ℕ) (r : Own) : Type 0 where
  pub is : r ≡ own_in w n nf d
  pub ordered : r.begin ≤ r.end
  pub within : r.end ≤ nf
  pub before : r.first ≤ 1536
  pub few : r.groups ≤ 1536

-- what is known of two DG is right
pub record Knows (w : List ℕ) (n nf : ℕ) (k : Known) : Type 0 where
  pub last : OwnOf w n nf k.parent k.own
  pub earlier : OwnOf w n nf k.before k.other

-- the words of its fragments
unfoldable pub own_words : List ℕ → Own → List ℕ
own_words fs o = part (3 * o.begin) (3 * o.end - 3 * o.begin) fs

-- the addresses of its groups
unfoldable pub own_groups : List ℕ → Own → List ℕ
own_groups w o = part (3072 + o.first) (3072 + o.first + o.groups - (3072 + o.first)) w

-- the groups and the words of the fragments of the DG at d
abbrev pub groups_at : List ℕ → ℕ → ℕ → ℕ → List ℕ
groups_at w n nf d = own_groups w (own_in w n nf d)

abbrev pub words_at : List ℕ → ℕ → List ℕ → ℕ → ℕ → List ℕ
words_at w n fs nf d = own_words fs (own_in w n nf d)
