use Rattle.std.proofs.Common.{sym, subst, rules}
use Rattle.std.proofs.lemmas.Fn.{filter_same}
use Rattle.wake_lists.specs.Lines.{is_current, IsThinned}
use Rattle.wake_lists.proofs.Thinning.{thinned_filter}
use Rattle.wake_lists.proofs.line.shorten.Goals as goal

pub returns-then-count-len-clause-thinned : goal.returns-then-count-len-clause-thinned
returns-then-count-len-clause-thinned c =
    let current = is_current c.args.places.now c.args.urgency in
    subst (IsThinned current c.args.entries.now.items) (sym (filter_same _ current _ (λ x b f' k. search rules) _ _ c.retain.ensures.filtered)) (thinned_filter current c.args.entries.now.items)
