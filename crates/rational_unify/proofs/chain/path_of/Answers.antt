use Rattle.std.proofs.Common.{◌≡◌, ◌++◌, ◌∷◌, [], List, sym, ◌∙◌, ap, append-nil, append_assoc}
use Rattle.akl_terms.specs.declared.name.Var.{Var}
use Rattle.rational_unify.specs.Known.{next_seen}
use Rattle.rational_unify.specs.Followed.{start, on, headed, free}
use Rattle.rational_unify.proofs.Chains.{next_falls}
use Rattle.rational_unify.proofs.chain.path_of.Goals as goal

one_more : (old cur new path : List Var) (x : Var) → new ≡ cur ++ x ∷ [] → cur ≡ old ++ path → new ≡ old ++ (path ++ x ∷ [])
one_more old cur new path x e f = e ∙ ap (λ (xs : List Var). xs ++ x ∷ []) f ∙ append_assoc old path (x ∷ [])

pub loop-variable-init : goal.loop-variable-init
loop-variable-init g c = ([], sym (append-nil _), start)

pub loop-variable-smaller : goal.loop-variable-smaller
loop-variable-smaller g c = next_falls _ _ _ _ c.requires (ap (next_seen (g.K.Lookup.bindings c.args.known.now)) (sym c.in-Free.ensures.seen) ∙ sym c.in-Some.ensures)

pub loop-variable-preserved : goal.loop-variable-preserved
loop-variable-preserved g c = (
  c.loop-variable.invariant.0 ++ c.in-Free.variable ∷ [],
  one_more _ _ _ _ _ c.in_ok-push.ensures.ok c.loop-variable.invariant.1,
  on c.loop-variable.invariant.2 c.in-Free.ensures.seen (sym c.in-Some.ensures),
)

pub returns-in-None : goal.returns-in-None
returns-in-None g c = record {
  path = c.loop-variable.invariant.0 ++ c.in-Free.variable ∷ [];
  followed_by = one_more _ _ _ _ _ c.in_ok-push.ensures.ok c.loop-variable.invariant.1;
  leads = free c.loop-variable.invariant.2 c.in-Free.ensures.seen (sym c.in-None.ensures);
}

pub returns : goal.returns
returns g c = record {
  path = c.loop-variable.invariant.0;
  followed_by = c.loop-variable.invariant.1;
  leads = headed c.loop-variable.invariant.2 (λ x e. c.in_default.not-Free x (c.look.ensures.seen ∙ e));
}
