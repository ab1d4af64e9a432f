use Rattle.std.proofs.Common.{arith, length-append}
use Rattle.akl_terms.specs.declared.name.Var.{Var}
use Rattle.class_members.specs.declared.ending.TheConstants.{FEW}
use Rattle.class_members.proofs.Gathered.{rest_few, rest_push}
use Rattle.class_members.proofs.ending.Ends.push.Goals as goal

pub invariant_of-self-then-place-lt-FEW : goal.invariant_of-self-then-place-lt-FEW
invariant_of-self-then-place-lt-FEW c = rw c.in_ok-push.ensures.items
    (rest_few FEW c.self.inside.rest.keys c.self.inside.list.items c.self.invariant c.args.end
    (omega (arith, c.len-place.ensures, c.self.inside.list.ok, length-append {A = Var})))

pub invariant_of-self-in-Ok : goal.invariant_of-self-in-Ok
invariant_of-self-in-Ok c = rw c.in_ok-push.ensures.items
    (rest_push FEW c.self.inside.rest.keys c.self.inside.list.items c.self.invariant c.insert.new.self.keys c.args.end
    (omega (arith, c.len-place.ensures, c.self.inside.list.ok)) c.in-Ok.ensures.updates.0)
