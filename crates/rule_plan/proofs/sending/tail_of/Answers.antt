use Rattle.std.proofs.Common.{ap, sym, ◌∙◌}
use Rattle.std.specs.Map.{lookup}
use Rattle.akl_terms.specs.Names.{same_name}
use Rattle.local_store.specs.Stored.{Stored}
use Rattle.local_store.proofs.Known.{innermost-last}
use Rattle.rule_plan.proofs.sending.tail_of.Goals as goal

pub returns : goal.returns
returns c =
    let last = innermost-last c.args.chain.now.stores c.in-Some.own.now (sym (rw c.stores.ensures at c.in-Some.ensures.value)) in
    ap (λ (s : Stored). lookup (same_name c.args.port) s.ports) (last ∙ sym c.get.ensures) ∙ sym c.port_tail.ensures ∙ c.in-Some-port_tail.is
