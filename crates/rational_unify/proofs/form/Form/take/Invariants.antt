use Rattle.std.proofs.Common.{◌≡◌, ◌++◌, take}
use Rattle.rational_unify.specs.Older.{KeepsOlder, EachOlder}
use Rattle.rational_unify.proofs.FormLaws.{IsHalf}
use Rattle.rational_unify.proofs.form.Form.take.Given as goal

abbrev pub invariant-loop-binding : goal.invariant-loop-binding
invariant-loop-binding g l = (l.self.known ≡ l.initial.self.known)
    × IsHalf l.templates.nodes (g.K.Lookup.bindings l.initial.self.known.now) l.initial.self.added l.self.added l.pending.items l.bindings (take l.binding-index l.bindings)
    × (EachOlder l.templates.nodes l.bindings
    → KeepsOlder l.templates.nodes (g.K.Lookup.bindings l.initial.self.known.now ++ l.initial.self.added) (g.K.Lookup.bindings l.initial.self.known.now ++ l.self.added))
