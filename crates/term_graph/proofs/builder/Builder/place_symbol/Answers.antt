use Rattle.std.proofs.Common.{rules, ◌≡◌, ◌∷◌, ◌++◌, [], length, Some, cond, refl, sym, ap, ◌∙◌}
use Rattle.term_graph.specs.Building.{State, found, same_place, known, indexed}
use Rattle.term_graph.proofs.builder.Builder.place_symbol.Goals as goal

pub returns-in-Some : goal.returns-in-Some
returns-in-Some c =
    let f : found c.self.inside.index.entries c.args.place ≡ Some c.in-Some.known = sym c.get.ensures.value ∙ sym c.in-Some.ensures in
    known c.requires (ap (λ (z : State). found z.index c.args.place) (sym c.self.view_is) ∙ f) refl

pub returns : goal.returns
returns c =
    let at : c.len-node.result ≡ length c.args.self.now.seens = search rules in
    indexed c.requires at (c.in_ok-push.ensures.items ∙ ap (λ (z : State). z.seens ++ c.args.seen ∷ []) c.self.view_is)
    (λ p. c.in_ok-insert.ensures.updates.0 p ∙ ap (λ (z : State). cond (same_place c.args.place p) (Some c.len-node.result) (found z.index p)) c.self.view_is)
