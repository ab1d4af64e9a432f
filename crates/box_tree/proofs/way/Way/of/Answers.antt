use Rattle.std.proofs.Common.{ap, ◌∙◌, ◌∷◌, []}
use Rattle.local_store.specs.Stored.{Stored}
use Rattle.box_tree.proofs.way.Way.of.Goals as goal

pub returns : goal.returns
returns c = λ nodes. record {
  path = c.of.ensures;
  stores = c.of-2.ensures ∙ ap (λ (s : Stored). s ∷ []) c.in_ok-store.ensures;
  solving = c.solving.ensures nodes;
}
