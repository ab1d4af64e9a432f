use Rattle.std.proofs.Common.{List, ℕ, ◌-◌, sym, ◌∙◌, take, drop}
use Rattle.akl_terms.specs.declared.name.Var.{Var}
use Rattle.rational_unify.proofs.Taking.{drops}
use Rattle.std.proofs.lemmas.List.{take-append-drop}
use Rattle.rational_unify.proofs.chain.follow.Goals as goal

pub returns : goal.returns
returns g c = record {
  path = c.in_ok-end.ensures.path;
  followed_by = c.in_ok-end.ensures.followed_by;
  leads = c.in_ok-end.ensures.leads;
  first = take many behind;
  others = drop many behind;
  parts = sym (drops c.len-start.result c.as_slice.result.now c.args.followed.now.items c.in_ok-end.ensures.path (c.as_slice.ensures ∙ c.in_ok-end.ensures.followed_by) c.len-start.ensures.value) ∙ sym (take-append-drop many behind);
  rebound_by = c.rebind_all.ensures;
}
  where
    many : ℕ
    many = c.max-last.result - c.len-start.result

    behind : List Var
    behind = drop c.len-start.result c.as_slice.result.now
