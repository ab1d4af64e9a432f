use Rattle.std.proofs.Common.{List, ◌++◌, ◌&&◌, refl, sym, ap, subst, ◌∙◌}
use Rattle.std.specs.Prelude.{not}
use Rattle.box_tree.specs.Tables.{table_of}
use Rattle.opened_places.specs.Placed.{places_of}
use Rattle.scheduler.specs.declared.splits.Split.{Split}
use Rattle.scheduler.specs.Splits.{is_kept, splits_at, EndsThose}
use Rattle.scheduler.proofs.splits.splits_of.Goals as goal

pub returns-then-is_empty : goal.returns-then-is_empty
returns-then-is_empty c = subst (λ (kept : List Split). EndsThose (table_of c.args.table.now) (places_of c.args.opened.now) c.args.gone.now kept c.new-splits.result.items) (sym (c.is_empty.ensures.none c.if-is_empty.true)) (λ s. refl)

pub returns : goal.returns
returns c =
    let T = table_of c.args.table.now in
    let all = c.in_ok-push_gone.ensures ∙ ap (λ (ss : List Split). ss ++ splits_at T c.args.gone.now) (c.in_ok-push_opened.ensures ∙ ap (λ (ss : List Split). ss ++ splits_at T (places_of c.args.opened.now)) c.new-splits.ensures.items) in
    λ s. ap (λ (ss : List Split). is_kept s c.args.kept.now && not (is_kept s ss)) all
