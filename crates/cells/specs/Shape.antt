-- A channel in the records of its group.
use Rattle.std.specs.Prelude.{ℕ, ◌+◌, ◌/◌, ◌%◌, ◌≤◌, ◌<◌, true, false, List, ◌≡◌}
use Rattle.mdf.specs.Group.{samples, inval_bytes}
use Rattle.plan.specs.Channel.{byte_offset, channel_bytes, inval_position, keeps_inval, fits, width}
use Rattle.cells.specs.declared.cell.Shape.{Shape}

pub record Shaped (s : List ℕ) (h : Shape) : Type 0 where
  pub first : h.first ≡ byte_offset s h.channel
  pub bytes : h.bytes ≡ channel_bytes s h.channel
  pub long : h.length ≡ samples s h.group + inval_bytes s h.group
  pub keep : h.keep ≡ keeps_inval s h.group h.channel
  pub inval : h.inval ≡ samples s h.group + inval_position s h.channel / 8
  pub bit : h.bit ≡ inval_position s h.channel % 8
  pub fit : h.first + h.bytes ≤ h.length
  pub kept : h.keep ≡ true → h.inval < h.length
  pub short : h.length < 8589934592
  pub wide : h.width ≡ width s h.group h.channel
  pub fitting : fits s h.group h.channel ≡ true

-- its numbers agree, whatever the image is: the bytes and a kept bit lie in the record, and the width is theirs
pub record Sound (h : Shape) : Type 0 where
  pub fit : h.first + h.bytes ≤ h.length
  pub short : h.length < 8589934592
  pub bit : h.bit < 8
  pub kept : h.keep ≡ true → h.inval < h.length
  pub wide : h.keep ≡ true → h.width ≡ h.bytes + 1
  pub bare : h.keep ≡ false → h.width ≡ h.bytes

pub record ShapeOf (s : List ℕ) (g c : ℕ) (h : Shape) : Type 0 where
  pub shaped : Shaped s h
  pub group : h.group ≡ g
  pub channel : h.channel ≡ c
