use Rattle.std.proofs.Common.{Some, Bool, false, sym, ap, ◌∙◌}
use Rattle.std.proofs.lemmas.Option.{get_or_from_slice_get}
use Rattle.std.specs.Map.{lookup}
use Rattle.akl_terms.specs.declared.name.Var.{Var}
use Rattle.akl_terms.specs.Names.{same_var}
use Rattle.entail_test.proofs.MetBefore.{sought, met-here, met-there}
use Rattle.entail_test.proofs.met.MetVariables.again.Goals as goal

pub returns-in-Some : goal.returns-in-Some
returns-in-Some c =
    let w = met-here c.self.inside.rest.entries c.args.variable c.self.inside.few.items c.in-Some.place (sought c.self.inside.few.items _ c.args.variable _ _ c.as_slice.ensures c.place_among.ensures c.in-Some.is) in
    rw c.deref.ensures (ap (λ (m : Var × Bool). Some m.1) (get_or_from_slice_get c.self.inside.few.items c.in-Some.place w.0 (record { frame = record { worker = 0; number = 0 }; index = 0 }, false) w.1)
    ∙ sym w.2 ∙ ap (lookup (same_var c.args.variable)) c.self.view_is)

pub returns-in-None : goal.returns-in-None
returns-in-None c = c.copied.ensures ∙ c.get.ensures.value
    ∙ sym (met-there c.self.inside.rest.entries c.args.variable c.self.inside.few.items (sought c.self.inside.few.items _ c.args.variable _ _ c.as_slice.ensures c.place_among.ensures c.in-None.is))
    ∙ ap (lookup (same_var c.args.variable)) c.self.view_is
