use Rattle.std.proofs.Common.{List, Some, refl, sym, ap, ◌∙◌, subst}
use Rattle.std.specs.Map.{lookup}
use Rattle.std.specs.Option.{option_copied_mut}
use Rattle.akl_terms.specs.declared.name.Name.{Name}
use Rattle.akl_terms.specs.Names.{same_name}
use Rattle.name_map.specs.Entries.{IsPut}
use Rattle.name_map.proofs.Lent.{on_some}
use Rattle.name_map.proofs.boxed_map.BoxedMap.get_mut.Goals as goal

pub returns : goal.returns
returns g c = (
  (
    refl,
    (λ w. subst (λ (es : List (Name × g.row.V.Denot)). IsPut es (c.get_mut.follows.lender w) c.args.name w) c.self.view_is (on_some c.get_mut.result _ c.in_ok-boxed.was (c.get_mut.follows.holds w))),
    refl,
  ),
  record { writes_back = tt; value = ap Some c.get_mut-2.ensures.value ∙ sym (ap option_copied_mut c.in_ok-boxed.was) ∙ c.get_mut.ensures.value ∙ ap (lookup (same_name c.args.name)) c.self.view_is },
)
