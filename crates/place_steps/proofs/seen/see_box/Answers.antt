use Rattle.std.proofs.Common.{◌≡◌, length, sym, ap, subst, ◌∙◌}
use Rattle.place_steps.specs.Seen.{HasCandidate}
use Rattle.place_steps.proofs.Sights.{has_candidate, inside_of, still_at}
use Rattle.place_steps.proofs.seen.see_box.Goals as goal
use Rattle.place_steps.proofs.seen.see_box.Goals.{then-path-eq1+in-Some+else-still, else-path-eq1}

pub returns-in-None-clause-seen : goal.returns-in-None-clause-seen
returns-in-None-clause-seen c =
    let candidate : HasCandidate c.args.view c.args.alternative = has_candidate c.args.core.now c.args.name c.args.worker c.args.view c.requires.sight c.args.alternative c.requires.candidate in
    record { root = record { name = c.args.name; is_box = c.requires.sight.is_place; alone = ap length (sym c.path.ensures) ∙ c.if-path-eq1.true }; candidate = subst (HasCandidate c.args.view) c.in-None.is candidate }

pub returns-clause-seen : goal.returns-clause-seen
returns-clause-seen c = (
  record {
    inside = inside_of c.args.core.now c.args.name c.args.worker c.args.view c.requires.sight c.in_ok-inside.inside c.in_ok-inside.ensures;
    candidate = subst (HasCandidate c.args.view) same (has_candidate c.args.core.now c.args.name c.args.worker c.args.view c.requires.sight c.args.alternative c.requires.candidate);
  },
  λ is n e. still_at c.args.core.now c.args.name c.args.worker c.args.view c.requires.sight (c.requires.still is) n e,
)
  where
    same : c.args.alternative ≡ c.if-path-eq1.alternative
    same = elim c.if-path-eq1.branch [
      | then-path-eq1+in-Some+else-still w ↦ w.in-Some.is ∙ sym w.alternative-is
      | else-path-eq1 w ↦ sym w.alternative-is
    ]
