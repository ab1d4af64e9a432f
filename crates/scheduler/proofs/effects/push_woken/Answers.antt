use Rattle.std.proofs.Common.{List, ◌++◌, refl, sym, ap, ◌∙◌, append-nil}
use Rattle.akl_terms.specs.declared.name.Var.{Var}
use Rattle.akl_terms.specs.declared.name.Place.{Place}
use Rattle.scheduler.specs.Listing.{waiting_on}
use Rattle.scheduler.proofs.ListedOthers.{waiting_next, none_waits}
use Rattle.scheduler.proofs.effects.push_woken.Goals as goal

pub loop-variable-preserved : goal.loop-variable-preserved
loop-variable-preserved c =
    waiting_next c.args.waits.now c.args.binds.now c.loop-variable.variable-index (record { frame = record { worker = 0; number = 0 }; index = 0 }) _ c.args.places.now.items c.loop-variable.places.items c.push_waiting.new.places.items
    c.loop-variable-test.true refl c.loop-variable.invariant c.in_ok-push_waiting.ensures

pub returns-then-is_empty : goal.returns-then-is_empty
returns-then-is_empty c =
    sym (append-nil c.args.places.now.items) ∙ ap (λ (ps : List Place). c.args.places.now.items ++ ps) (sym (none_waits c.args.binds.now))
    ∙ ap (λ (ws : List (Var × List Place)). c.args.places.now.items ++ waiting_on ws c.args.binds.now) (sym (c.is_empty.ensures c.if-is_empty.true))
