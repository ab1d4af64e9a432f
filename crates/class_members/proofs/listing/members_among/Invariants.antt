use Rattle.std.proofs.Common.{◌++◌, take}
use Rattle.class_members.specs.Listed.{AreListed}
use Rattle.class_members.proofs.listing.members_among.Given as goal

abbrev pub invariant-loop-candidate : goal.invariant-loop-candidate
invariant-loop-candidate g l = AreListed l.templates.nodes (g.W.Lookup.bindings l.whole) l.of (take l.candidate-index l.candidates) (l.ends-inside.list.items ++ l.others.items)
