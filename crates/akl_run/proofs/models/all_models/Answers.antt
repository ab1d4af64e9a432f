use Rattle.std.proofs.Common.{◌<◌, ◌≤◌, ◌+◌, length, get_or, sym, subst}
use Rattle.akl_terms.specs.declared.name.Name.{Name}
use Rattle.root_answers.specs.Models.{HasModel}
use Rattle.akl_run.proofs.AllModels.{HaveModels, modelled_none, modelled_more, modelled_other, modelled_every}
use Rattle.akl_run.proofs.models.all_models.Goals.{in-Some+in_ok-push, in_default}
use Rattle.akl_run.proofs.models.all_models.Goals as goal

pub loop-name-init : goal.loop-name-init
loop-name-init c = record { have = subst (HaveModels c.args.core.now 0) (sym c.new-models.ensures.items) (modelled_none c.args.core.now) }

pub loop-name-preserved : goal.loop-name-preserved
loop-name-preserved c =
    let d : Name = record { worker = 0; number = 0 } in
    let core = c.args.core.now in
    let n = c.loop-name.name-index in
    let h : n < length core.table.roots = subst (λ ns. n < length ns) c.roots-name-items.ensures.roots c.loop-name-test.true in
    let has : HasModel core (get_or core.table.roots n d) c.in-Ok.found = subst (λ ns. HasModel core (get_or ns n d) c.in-Ok.found) c.roots-name-items.ensures.roots c.in-Ok.ensures in
    elim c.match-found.branch [
      | in-Some+in_ok-push w ↦
          rw w.models-is (record {
            have = subst (HaveModels core (n + 1)) (sym w.in_ok-push.ensures.items) (modelled_more core n d h c.loop-name.models.items c.loop-name.invariant.have w.in-Some.model (subst (HasModel core (get_or core.table.roots n d)) w.in-Some.is has));
          })
      | in_default w ↦ rw w.models-is (record { have = modelled_other core n d h c.loop-name.models.items c.loop-name.invariant.have (subst (HasModel core (get_or core.table.roots n d)) w.in_default.is has) })
    ]

pub returns : goal.returns
returns c =
    let h : length c.args.core.now.table.roots ≤ c.loop-name.name-index = subst (λ ns. length ns ≤ c.loop-name.name-index) c.roots-name-items.ensures.roots c.loop-name-test.false in
    modelled_every c.args.core.now c.loop-name.name-index c.loop-name.models.items h c.loop-name.invariant.have
