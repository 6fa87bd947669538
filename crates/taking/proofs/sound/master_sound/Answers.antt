-- Without a link nothing is asked; else the column at the link.
use Rattle.taking.specs.SoundLaws.{master_free, master_lost, master_known}
use native.Mathlib.Omega.{arith}
use Rattle.taking.proofs.sound.master_sound.Goals as goal

pub returns-then-remote_link-eq0 : goal.returns-then-remote_link-eq0
returns-then-remote_link-eq0 c = master_free _ _ _ c.remote_link.ensures c.if-remote_link-eq0.true

pub returns-in-None : goal.returns-in-None
returns-in-None c = master_lost _ _ _ c.remote_link.ensures c.if-remote_link-eq0.false (c.master_of.ensures (omega arith)) c.in-None.is

pub returns-in-Some : goal.returns-in-Some
returns-in-Some c = master_known _ _ _ c.remote_link.ensures c.if-remote_link-eq0.false (c.master_of.ensures (omega arith)) c.in-Some.is
