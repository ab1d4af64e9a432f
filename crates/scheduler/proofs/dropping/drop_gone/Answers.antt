use Rattle.std.proofs.Common.{◌≡◌, ◌+◌, ℕ, [], take, length, get_or, true, false, arith, refl, sym, ap, subst, ◌∙◌}
use Rattle.std.specs.Prelude.{Option, IfSome}
use Rattle.std.specs.List.{IsDistinct}
use Rattle.akl_terms.specs.Names.{same_var}
use Rattle.akl_terms.specs.declared.name.Var.{Var}
use Rattle.akl_terms.specs.declared.name.Place.{Place}
use Rattle.wake_lists.specs.Waits.{waits_on}
use Rattle.scheduler.specs.Dropping.{DropsWaits}
use Rattle.scheduler.specs.Counting.{DropBySteps}
use Rattle.scheduler.proofs.DroppedWaits.{Waiting, dropped_next, silent, silent_more}
use Rattle.scheduler.proofs.CountedWaits.{gone_next}
use Rattle.scheduler.proofs.dropping.drop_gone.Goals.{then-not-is_awake, else-not-is_awake}
use Rattle.scheduler.proofs.dropping.drop_gone.Goals as goal

none_twice : IsDistinct same_var []
unfolding IsDistinct
none_twice = tt

pub loop-place-preserved : goal.loop-place-preserved
loop-place-preserved g c =
    let places = c.args.places.now in
    let at : ℕ = c.loop-place.place-index in
    let d : Place = Place.Goal (record { worker = 0; number = 0 }) in
    let old : Waiting = c.args.waits.now in
    let mid : Waiting = c.loop-place.waits in
    let quiet : c.is_awake.result ≡ true → (x : Var) → waits_on mid (get_or places at d) x ≡ false =
    λ e x. silent old mid (take at places) (get_or places at d) c.loop-place.invariant.waits (subst (λ (o : Option Place). IfSome o (λ (p : Place). (y : Var) → waits_on old p y ≡ false)) (c.is_awake.ensures e) c.requires) x in
    record {
      waits = elim c.if-not-is_awake.branch [
        | then-not-is_awake w ↦ subst (DropsWaits old (take (at + 1) places)) (sym w.waits-is) (dropped_next places at d old mid w.drop_place.new.self c.loop-place-test.true c.loop-place.invariant.waits w.drop_place.ensures.dropped)
        | else-not-is_awake w ↦ subst (DropsWaits old (take (at + 1) places)) (sym w.waits-is)
            (dropped_next places at d old mid mid c.loop-place-test.true c.loop-place.invariant.waits (silent_more mid (get_or places at d) (quiet w.if-not-is_awake.false)))
      ];
      steps = elim c.if-not-is_awake.branch [
        | then-not-is_awake w ↦ subst (DropBySteps old (take (at + 1) places) (c.args.steps.now + length (take (at + 1) places))) (sym w.steps-is)
            (gone_next places at d _ old mid w.drop_place.result.items c.args.steps.now c.loop-place.steps c.tick.new.self w.count.new.steps
            c.loop-place-test.true refl c.loop-place.invariant.waits w.drop_place.ensures.variables w.drop_place.ensures.once c.loop-place.invariant.steps c.tick.ensures
            (w.count.ensures ∙ ap (λ (n : ℕ). c.tick.new.self + n) (w.len.ensures ∙ w.drop_place.result.ok.0)))
        | else-not-is_awake w ↦ subst (DropBySteps old (take (at + 1) places) (c.args.steps.now + length (take (at + 1) places))) (sym w.steps-is)
            (gone_next places at d _ old mid [] c.args.steps.now c.loop-place.steps c.tick.new.self c.tick.new.self
            c.loop-place-test.true refl c.loop-place.invariant.waits (λ x. sym (quiet w.if-not-is_awake.false x)) none_twice c.loop-place.invariant.steps c.tick.ensures (omega arith))
      ];
    }
