use Rattle.std.proofs.Common.{◌≡◌, refl, ◌++◌, ◌∷◌, [], length, rules}
use Rattle.clause_keys.specs.Keys.{named, next}
use Rattle.std.specs.Prelude.{vec_len, ◌+◌}
use Rattle.clause_keys.proofs.Places.{popped}
use Rattle.clause_keys.proofs.Indexing.{IsIndexed-symbols, IsIndexed-named, still_named, interned_distinct}
use Rattle.clause_keys.proofs.callees.Callees.append_named.Goals as goal

pub invariant_of-self-in_err-push : goal.invariant_of-self-in_err-push
invariant_of-self-in_err-push c = IsIndexed-symbols c.self.inside _ c.self.invariant (still_named c.in_ok-symbol.ensures.ok) c.in_err-push.ensures.items refl refl refl

pub invariant_of-self-in-Ok : goal.invariant_of-self-in-Ok
invariant_of-self-in-Ok c =
    let n : c.len-number.result ≡ length c.self.inside.list.items = search rules in
    let text : c.in_ok-text.text ≡ c.args.symbol.now = search rules in
    let list : c.push.new.self.items ≡ c.self.inside.list.items ++ named c.args.symbol.now c.args.arity ∷ [] = rw (← text) c.in_ok-push.ensures.items in
    IsIndexed-named c.self.inside _ c.args.symbol.now c.args.arity c.in_ok-symbol.symbol c.self.invariant c.in_ok-symbol.ensures.ok (interned_distinct c.symbols.ensures.distinct c.in_ok-symbol.ensures.ok)
    list (rw (← n) c.in-Ok.ensures.updates) refl refl (rw c.self.view_is c.requires.room) (rw c.self.view_is c.requires.absent)

pub invariant_of-self-in-Err : goal.invariant_of-self-in-Err
invariant_of-self-in-Err c =
    let n : vec_len c.push.new.self ≡ length c.self.inside.list.items + 1 = search rules in
    let list : c.pop.new.self.items ≡ c.self.inside.list.items = popped c.self.inside.list.items _ _ _ _ c.in_ok-push.ensures.items n c.pop.ensures.rest in
    IsIndexed-symbols c.self.inside _ c.self.invariant (still_named c.in_ok-symbol.ensures.ok) list c.in-Err.ensures.err refl refl

pub returns-in-Ok-clause-ok : goal.returns-in-Ok-clause-ok
returns-in-Ok-clause-ok c =
    let n : c.len-number.result ≡ length c.args.self.now = rw (← c.self.view_is) (search rules) in
    let text : c.in_ok-text.text ≡ c.args.symbol.now = search rules in
    let list : c.push.new.self.items ≡ c.args.self.now ++ named c.args.symbol.now c.args.arity ∷ [] = rw (← c.self.view_is, ← text) c.in_ok-push.ensures.items in
    rw (n, list) (next c.requires.absent)
