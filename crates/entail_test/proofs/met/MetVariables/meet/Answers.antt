use Rattle.std.proofs.Common.{List, Some, Bool, true, false, cond, is_some, set, length-set, sym, ap, ◌∙◌}
use Rattle.std.specs.Map.{lookup}
use Rattle.std.proofs.lemmas.Result.{IfOk-weaker}
use Rattle.akl_terms.specs.declared.name.Var.{Var}
use Rattle.akl_terms.specs.Names.{same_var}
use Rattle.rational_unify.proofs.Taking.{refill-whole}
use Rattle.entail_test.proofs.MetBefore.{sought, no_entries, met-here, met-there, again-here, met-behind, met-last}
use Rattle.entail_test.proofs.met.MetVariables.meet.Goals as goal

pub returns-in-Some-clause-before : goal.returns-in-Some-clause-before
returns-in-Some-clause-before c =
    let w = met-here c.self.inside.rest.entries c.args.variable c.self.inside.few.items c.in-Some.place (sought c.self.inside.few.items _ c.args.variable _ _ c.as_slice.ensures c.place_among.ensures c.in-Some.is) in
    ap is_some (sym w.2 ∙ ap (lookup (same_var c.args.variable)) c.self.view_is)

pub returns-in-Some-clause-met : goal.returns-in-Some-clause-met
returns-in-Some-clause-met c = λ x.
    rw (c.deref_mut.ensures.value, refill-whole c.self.inside.few.items (set c.self.inside.few.items c.in-Some.place (c.args.variable, true)) (length-set _ _ _), ← c.self.view_is)
    (again-here c.self.inside.rest.entries c.args.variable c.self.inside.few.items c.in-Some.place (sought c.self.inside.few.items _ c.args.variable _ _ c.as_slice.ensures c.place_among.ensures c.in-Some.is) x)

pub returns-then-is_empty-clause-before : goal.returns-then-is_empty-clause-before
returns-then-is_empty-clause-before c =
    let none = no_entries c.self.inside.rest.entries (c.is_empty.ensures.0 c.if-is_empty.true) in
    ap is_some (sym (ap (lookup (same_var c.args.variable)) (sym c.self.view_is) ∙ met-there c.self.inside.rest.entries c.args.variable c.self.inside.few.items (sought c.self.inside.few.items _ c.args.variable _ _ c.as_slice.ensures c.place_among.ensures c.in_default.is) ∙ ap (lookup (same_var c.args.variable)) none))

pub returns-then-is_empty-clause-met : goal.returns-then-is_empty-clause-met
returns-then-is_empty-clause-met c = λ x.
    rw (c.in_ok-push.ensures.ok, ← c.self.view_is)
    (met-last c.self.inside.rest.entries c.args.variable false c.self.inside.few.items (sought c.self.inside.few.items _ c.args.variable _ _ c.as_slice.ensures c.place_among.ensures c.in_default.is) x)

pub returns-clause-before : goal.returns-clause-before
returns-clause-before c = IfOk-weaker c.meet.result _ _
    (λ again e. e ∙ ap is_some (sym (ap (lookup (same_var c.args.variable)) (sym c.self.view_is) ∙ met-there c.self.inside.rest.entries c.args.variable c.self.inside.few.items (sought c.self.inside.few.items _ c.args.variable _ _ c.as_slice.ensures c.place_among.ensures c.in_default.is)))) c.meet.ensures.before

pub returns-clause-met : goal.returns-clause-met
returns-clause-met c = IfOk-weaker c.meet.result _ _
    (λ again h x. met-behind c.self.inside.rest.entries c.args.variable c.meet.new.met.entries (Some again) h c.self.inside.few.items (sought c.self.inside.few.items _ c.args.variable _ _ c.as_slice.ensures c.place_among.ensures c.in_default.is) x
    ∙ ap (λ (ms : List (Var × Bool)). cond (same_var c.args.variable x) (Some again) (lookup (same_var x) ms)) c.self.view_is) c.meet.ensures.met
