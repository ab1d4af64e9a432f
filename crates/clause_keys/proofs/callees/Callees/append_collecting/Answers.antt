use Rattle.std.proofs.Common.{◌≡◌, refl, ◌++◌, ◌∷◌, [], length, rules}
use Rattle.clause_keys.specs.Keys.{next}
use Rattle.clause_keys.specs.declared.callee.Callee.TheVariants.{Collecting}
use Rattle.std.specs.Prelude.{vec_len, ◌+◌}
use Rattle.clause_keys.proofs.Places.{popped}
use Rattle.clause_keys.proofs.Indexing.{IsIndexed-symbols, IsIndexed-collecting}
use Rattle.clause_keys.proofs.callees.Callees.append_collecting.Goals as goal

pub invariant_of-self : goal.invariant_of-self
invariant_of-self c = IsIndexed-symbols c.self.inside _ c.self.invariant (λ i s e. e) c.in_err-push.ensures.items refl refl refl

pub invariant_of-self-in-Ok : goal.invariant_of-self-in-Ok
invariant_of-self-in-Ok c =
    let n : c.len-found.result ≡ length c.self.inside.list.items = search rules in
    IsIndexed-collecting c.self.inside _ c.args.number c.args.arity c.self.invariant refl c.in_ok-push.ensures.items refl (rw (← n) c.in-Ok.ensures.updates) refl (rw c.self.view_is c.requires.room) (rw c.self.view_is c.requires.absent)

pub invariant_of-self-in-Err : goal.invariant_of-self-in-Err
invariant_of-self-in-Err c =
    let n : vec_len c.push.new.self ≡ length c.self.inside.list.items + 1 = search rules in
    let list : c.pop.new.self.items ≡ c.self.inside.list.items = popped c.self.inside.list.items _ _ _ _ c.in_ok-push.ensures.items n c.pop.ensures.rest in
    IsIndexed-symbols c.self.inside _ c.self.invariant (λ i s e. e) list refl refl c.in-Err.ensures.err

pub returns-in-Ok-clause-ok : goal.returns-in-Ok-clause-ok
returns-in-Ok-clause-ok c =
    let n : c.len-found.result ≡ length c.args.self.now = rw (← c.self.view_is) (search rules) in
    let list : c.push.new.self.items ≡ c.args.self.now ++ Collecting c.args.number c.args.arity ∷ [] = rw (← c.self.view_is) c.in_ok-push.ensures.items in
    rw (n, list) (next c.requires.absent)
