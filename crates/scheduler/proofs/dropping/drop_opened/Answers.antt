use Rattle.std.proofs.Common.{◌+◌, ℕ, take, List, sym, ap, subst, ◌∙◌}
use Rattle.akl_terms.specs.declared.name.Place.{Place}
use Rattle.scheduler.specs.Dropping.{DropsWaits, places_under}
use Rattle.scheduler.specs.Counting.{DropBySteps}
use Rattle.scheduler.proofs.DroppedWaits.{Waiting}
use Rattle.scheduler.proofs.UnderTokens.{dropped_under, under_same}
use Rattle.scheduler.proofs.CountedWaits.{drop_under}
use Rattle.scheduler.proofs.dropping.drop_opened.Goals.{in-Some, in_default}
use Rattle.scheduler.proofs.dropping.drop_opened.Goals as goal

pub loop-token-preserved : goal.loop-token-preserved
loop-token-preserved g c =
    let ts = c.args.tokens.now in
    let at : ℕ = c.loop-token.token-index in
    let os = c.args.open_places.now in
    let old : Waiting = c.args.waits.now in
    record {
      waits = elim c.match-place_of.branch [
        | in-Some w ↦ subst (DropsWaits old (places_under (take (at + 1) ts) os)) (sym w.waits-is)
            (dropped_under ts at os w.in-Some.place old c.loop-token.waits w.drop_place.new.self c.loop-token-test.true (sym w.in-Some.is ∙ c.place_of.ensures) c.loop-token.invariant.waits w.drop_place.ensures.dropped)
        | in_default w ↦ subst (DropsWaits old (places_under (take (at + 1) ts) os)) (sym w.waits-is)
            (subst (λ (l : List Place). DropsWaits old l c.loop-token.waits) (under_same ts at os c.loop-token-test.true (λ q e. w.in_default.not-Some q (c.place_of.ensures ∙ sym e))) c.loop-token.invariant.waits)
      ];
      steps = elim c.match-place_of.branch [
        | in-Some w ↦ subst (DropBySteps old (places_under (take (at + 1) ts) os) c.args.steps.now) (sym w.steps-is)
            (drop_under ts at os w.in-Some.place old c.loop-token.waits w.drop_place.result.items c.args.steps.now c.loop-token.steps w.count.new.steps c.loop-token-test.true (sym w.in-Some.is ∙ c.place_of.ensures) c.loop-token.invariant.waits
            w.drop_place.ensures.variables w.drop_place.ensures.once c.loop-token.invariant.steps (w.count.ensures ∙ ap (λ (n : ℕ). c.loop-token.steps + n) (w.len.ensures ∙ w.drop_place.result.ok.0)))
        | in_default w ↦ subst (DropBySteps old (places_under (take (at + 1) ts) os) c.args.steps.now) (sym w.steps-is)
            (subst (λ (l : List Place). DropBySteps old l c.args.steps.now c.loop-token.steps) (under_same ts at os c.loop-token-test.true (λ q e. w.in_default.not-Some q (c.place_of.ensures ∙ sym e))) c.loop-token.invariant.steps)
      ];
    }
