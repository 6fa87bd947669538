-- What is asked of a column that is kept: its blocks and its bytes lie in the file.
use Rattle.std.specs.Prelude.{ℕ, ◌≤◌, List, true, ◌≡◌, length}
use Rattle.base.specs.Checked.{fine}
use Rattle.mdf.specs.Block.{DG, CG, CN, link_at, block_at}
use Rattle.mdf.specs.Records.{ranges_in}
use Rattle.plan.specs.Columns.{Column}
use Rattle.plan.specs.Data.{signal_in}
use Rattle.file.specs.Form.{equal_length, have_length}

pub record Inside (s : List ℕ) (c : Column) : Type 0 where
  -- its DG, CG and CN pass their checks
  pub data_group : block_at DG s c.group.data_group.at ≡ fine
  pub group : block_at CG s c.group.at ≡ fine
  pub channel : block_at CN s c.channel ≡ fine
  -- its blocks and its signal data lie in the file
  pub ranges : ranges_in s c.group.data_group.fragments ≡ fine
  pub signals : signal_in s c.signal_of ≡ fine
  -- "each but the last has the DL's length" (document 02, request 1)
  pub lengths : have_length (equal_length s (link_at s c.group.data_group.at 2)) c.group.data_group.fragments ≡ true
  -- the number of references to attachments has 16 bits
  pub few_photos : length c.photos ≤ 65535
