use Rattle.std.proofs.Common.{◌≡◌, ◌∙◌, ◌++◌, length, Some, None, sym, subst, ap, refl}
use Rattle.std.specs.Prelude.{slice_get}
use Rattle.std.proofs.lemmas.Option.{slice_get_read, slice_get_past}
use Rattle.root_answers.specs.Roots.{HasText, IsText}
use Rattle.akl_run.specs.Written.{ShowsRoot}
use Rattle.akl_run.proofs.AllAnswers.{shown_alone, shown_modelled}
use Rattle.akl_run.proofs.answers.shown_root.Goals.{in-Some-get+in_ok-more+in_ok-extend_from_slice, in_default-get}
use Rattle.akl_run.proofs.answers.shown_root.Goals as goal

pub returns : goal.returns
returns c =
    let e = c.args.run.now in
    let text : IsText e.core c.args.name (Some c.in-Some.lines.items) = subst (HasText e.core c.args.name) c.in-Some.is c.in_ok-lines.ensures in
    elim c.match-get.branch [
      | in-Some-get+in_ok-more+in_ok-extend_from_slice w ↦
          let at : slice_get e.models.items c.args.before ≡ Some w.in-Some-get.model.now =
          subst (λ ms. slice_get ms c.args.before ≡ Some w.in-Some-get.model.now) c.deref.ensures.value
          (slice_get_read c.deref.result.now (length c.deref.result.now) c.args.before w.in-Some-get.model.now refl w.in-Some-get.ensures.lookup.3.0 w.in-Some-get.ensures.lookup.1) in
          rw w.lines-is (subst (λ xs. ShowsRoot e c.args.name c.args.before (Some xs))
          (sym (w.in_ok-extend_from_slice.ensures.items ∙ ap (λ xs. c.in-Some.lines.items ++ xs) w.deref-in-Some-get.ensures.value))
          (shown_modelled e c.args.name c.args.before c.in-Some.lines.items text w.in-Some-get.model.now w.in_ok-more.more.items at w.in_ok-more.ensures))
      | in_default-get w ↦
          rw w.lines-is (shown_alone e c.args.name c.args.before c.in-Some.lines.items text
          (subst (λ ms. slice_get ms c.args.before ≡ None) c.deref.ensures.value (slice_get_past c.deref.result.now c.args.before w.in_default-get.ensures.lookup.3)))
    ]
