use Rattle.constraint_laws.proofs.Stands.{structured_stands, variable_stands, port_stands, value_stands, answer_stands, goal_wait_stands, touch_stands, newly_bound_stands}
use Rattle.constraint_laws.proofs.laws.standing.Goals as goal

pub returns : goal.returns
returns c = record {
  structured = structured_stands;
  variables = variable_stands;
  ports = port_stands;
  values = λ symbols E F w t z. value_stands symbols E F w;
  answers = λ symbols E F w test l r a. answer_stands symbols E F w;
  waits = λ symbols E F w test l r x. goal_wait_stands symbols E F w;
  touched = λ inner E G F H old new x. touch_stands E G F H old new inner x;
  newly_bound = λ E G F H old new x. newly_bound_stands E G F H old new x;
}
