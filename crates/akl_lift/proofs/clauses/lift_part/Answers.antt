use Rattle.std.proofs.Common.{◌++◌, map, ap, ◌∙◌}
use Rattle.std.proofs.lemmas.Result.{on_ok_weaker}
use Rattle.akl_syntax.specs.Answers.{clauses_view}
use Rattle.akl_lift.specs.Lifting.{joined}
use Rattle.akl_lift.proofs.Wholes.{fresh_noted, definitions_behind}
use Rattle.akl_lift.proofs.clauses.lift_part.Goals as given

pub lift_guard_and_body-requires-clause-noted : given.lift_guard_and_body-requires-clause-noted
lift_guard_and_body-requires-clause-noted c = fresh_noted c.args.origin.now.noted.items c.new.result.items _ c.new.ensures.items c.requires.noted

pub returns-clause-next : given.returns-clause-next
returns-clause-next c = on_ok_weaker c.add_definitions.result (λ e. c.in_ok-part.ensures.next) c.add_definitions.ensures

pub returns-clause-part : given.returns-clause-part
returns-clause-part c = on_ok_weaker c.add_definitions.result (λ e. c.in_ok-part.ensures.part) c.add_definitions.ensures

pub returns-clause-made : given.returns-clause-made
returns-clause-made c =
    on_ok_weaker c.add_definitions.result
    (λ e. definitions_behind (clauses_view c.args.out.now.clauses) (clauses_view c.add_definitions.new.clauses) (map clauses_view c.new.result.items) (map clauses_view c.lift_guard_and_body.new.out.definitions.items) _
    (e ∙ ap (λ ds. clauses_view c.args.out.now.clauses ++ joined (map clauses_view ds)) c.deref_mut.ensures.value) (ap (map clauses_view) c.new.ensures.items) c.in_ok-part.ensures.made) c.add_definitions.ensures
