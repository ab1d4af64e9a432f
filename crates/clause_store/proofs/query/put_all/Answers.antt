use Rattle.std.proofs.Common.{length, map, sym, ap, ◌∙◌, arith}
use Rattle.std.proofs.lemmas.List.{length-map}
use Rattle.std.proofs.lemmas.Result.{IfOk-weaker}
use Rattle.akl_syntax.specs.GoalView.{goal}
use Rattle.clause_keys.specs.Keys.{called_by}
use Rattle.clause_store.proofs.Room.{room_left}
use Rattle.clause_store.proofs.Defined.{all_loadable}
use Rattle.clause_store.proofs.query.put_all.Goals as given

pub of_definitions-requires-clause-few : given.of_definitions-requires-clause-few
of_definitions-requires-clause-few c = omega (arith, ap length c.as_slice.ensures.value, c.requires.few)

pub of_definitions-requires-clause-unique : given.of_definitions-requires-clause-unique
of_definitions-requires-clause-unique c = rw c.as_slice.ensures.value c.requires.unique

pub extend-requires-clause-callees : given.extend-requires-clause-callees
extend-requires-clause-callees c = c.in_ok-callees.ensures ∙ ap (map called_by) c.as_slice.ensures.value

pub extend-requires-clause-unique : given.extend-requires-clause-unique
extend-requires-clause-unique c = rw (extend-requires-clause-callees c) c.requires.unique

pub extend-requires-clause-new : given.extend-requires-clause-new
extend-requires-clause-new c = rw (extend-requires-clause-callees c) c.requires.new

pub extend-requires-clause-loadable : given.extend-requires-clause-loadable
extend-requires-clause-loadable c = rw (extend-requires-clause-callees c) c.requires.loadable

pub extend-requires-clause-few : given.extend-requires-clause-few
extend-requires-clause-few c = omega (arith, ap length (extend-requires-clause-callees c), length-map c.args.definitions.now.items called_by, c.requires.few)

pub extend-requires-clause-room : given.extend-requires-clause-room
extend-requires-clause-room c = record { nodes = omega (arith, c.requires.room.nodes); symbols = omega (arith, c.requires.room.symbols) }

pub goal_codes-requires-clause-loadable : given.goal_codes-requires-clause-loadable
goal_codes-requires-clause-loadable c =
    let known = c.in_ok-callees.ensures ∙ ap (map called_by) c.as_slice.ensures.value in
    all_loadable c.in_ok-extend.ensures.collected (map goal c.args.written.now) (rw (sym known) at c.requires.goals)

pub goal_codes-requires-clause-room : given.goal_codes-requires-clause-room
goal_codes-requires-clause-room c = room_left c.requires.room c.in_ok-extend.ensures.gains (omega arith)

pub returns : given.returns
returns c =
    let known = c.in_ok-callees.ensures ∙ ap (map called_by) c.as_slice.ensures.value in
    IfOk-weaker c.goal_codes.result _ _ (λ v g. record { callees = c.extend.new.callees; mid = c.extend.new.templates; extended = rw known at c.in_ok-extend.ensures; goals = g }) c.goal_codes.ensures
