use Rattle.std.proofs.Common.{ap, ◌∙◌}
use Rattle.std.specs.Prelude.{option_map}
use Rattle.box_tree.specs.Tables.{table_of}
use Rattle.opened_places.specs.declared.around.Holder.{Holder}
use Rattle.opened_places.proofs.AroundPath.{path_inner, path_outer}
use Rattle.opened_places.proofs.places.path_around.Goals as goal

pub path_to-requires : goal.path_to-requires
path_to-requires c = path_outer c.args.table.now c.args.around.home c.in-Some.holder.home c.requires.path (c.requires.outside ∙ ap (option_map (λ (h : Holder). h.home)) c.in-Some.is)

pub returns-in_ok-push-in-Some : goal.returns-in_ok-push-in-Some
returns-in_ok-push-in-Some c = path_inner (table_of c.args.table.now) c.args.around.home c.in-Some.holder.home c.in_ok-path-in-Some.path.items c.push.new.self.items (c.requires.outside ∙ ap (option_map (λ (h : Holder). h.home)) c.in-Some.is)
    c.in_ok-path-in-Some.ensures c.in_ok-push-in-Some.ensures
