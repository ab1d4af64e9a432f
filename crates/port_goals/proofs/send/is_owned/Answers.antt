use Rattle.std.proofs.Common.{sym, ◌∙◌, ap}
use Rattle.std.specs.Prelude.{is_some}
use Rattle.std.specs.Map.{lookup}
use Rattle.akl_terms.specs.Names.{same_name}
use Rattle.local_store.specs.Stored.{Stored}
use Rattle.local_store.proofs.Known.{innermost-last}
use Rattle.port_goals.proofs.send.is_owned.Goals as goal

pub returns-in-Some : goal.returns-in-Some
returns-in-Some c = c.is_some.ensures ∙ ap is_some c.port_tail.ensures ∙ ap (λ (s : Stored). is_some (lookup (same_name c.args.port) s.ports))
    (c.get.ensures ∙ sym (innermost-last c.args.chain.now.stores c.in-Some.store.now (sym (rw c.stores.ensures at c.in-Some.ensures.value))))
