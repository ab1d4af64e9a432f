use Rattle.std.proofs.Common.{◌≡◌, false, take}
use Rattle.local_store.specs.Stored.{is_named}
use Rattle.local_store.proofs.listed.is_among.Given as goal

abbrev pub invariant-loop-other : goal.invariant-loop-other
invariant-loop-other l = is_named (take l.other-index l.frames) l.frame ≡ false
