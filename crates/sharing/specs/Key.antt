-- Bookkeeping: the parts of a key past the count of records.
use Rattle.std.specs.Prelude.{ℕ, List, [], ◌∷◌}
use Rattle.base.specs.Choice.{pick}
use Rattle.plan.specs.Channel.{channel_type, bit_offset, bit_count, channel_flags, channel_bytes, keeps_inval}
use Rattle.result.specs.Sharing.{text_at, sync_type, data_type, conversion_of, unit_of}

-- type, sync type, data type, bit offset, bits, bytes
unfoldable pub form_key : List ℕ → ℕ → List ℕ
form_key s m = channel_type s m ∷ sync_type s m ∷ data_type s m ∷ bit_offset s m ∷ bit_count s m ∷ channel_bytes s m ∷ []

-- flags, conversion, kept invalidation byte, unit
unfoldable pub rest_key : List ℕ → ℕ → ℕ → List ℕ
rest_key s g m = channel_flags s m ∷ conversion_of s m ∷ pick (keeps_inval s g m) 1 0 ∷ text_at s (unit_of s m)
