-- No rule in force other than Split applies at the place of a view.
use Rattle.std.proofs.Common.{◌≡◌, sym, ◌∙◌, ap, subst}
use Rattle.std.specs.Prelude.{slice_index}
use Rattle.akl_terms.specs.declared.name.Place.{Place}
use Rattle.akl_model.specs.declared.label.Rule.{Rule}
use Rattle.akl_model.specs.declared.label.Label.{Label}
use Rattle.akl_model.specs.Config.{Config, Found, site_of}
use Rattle.akl_model.specs.Instances.{start}
use Rattle.akl_model.specs.Rules.{Change}
use Rattle.akl_model.specs.Conditions.{Makes}
use Rattle.akl_model.specs.Stable.{Allows}
use Rattle.akl_model.specs.Derivations.{Applies}
use Rattle.akl_model.proofs.Options.{some_value}
use Rattle.akl_model.proofs.Results.{Derives-one}
use Rattle.box_tree.specs.Tables.{all_rules}
use Rattle.box_tree.specs.Views.{ViewValue, IsViewOf}
use Rattle.guard_plan.specs.Planned.{IsPlain, HasNoRule}

-- one configuration and one box
pub has_none : (v : ViewValue) (i : IsViewOf v)
    → ((l : Label) (change : Change) → l.place ≡ v.place → IsPlain l.rule → Makes (Allows v.table.program) v.table.program (slice_index i.table.config.next l.worker) l i.site change → ⊥)
    → HasNoRule v
has_none v i f = record {
  none = λ t l d a e n.
      on t.config (Derives-one all_rules v.table.program (start v.table.program v.table.query) t.config i.table.config v.journal t.replays.derives i.table.replays.derives) l d a e n;
}
  where
    at : (l : Label) (d : Config) → Applies all_rules v.table.program i.table.config l d → l.place ≡ v.place → (l.rule ≡ Rule.Split → ⊥) → ⊥
    at l d b e n =
        let s : b.site ≡ i.site = some_value (sym b.is_site ∙ ap (λ (q : Place). site_of q i.table.config.roots) e ∙ i.is_site) in
        f l b.change e (b.in_force, n) (subst (λ (k : Found). Makes (Allows v.table.program) v.table.program (slice_index i.table.config.next l.worker) l k b.change) s b.makes)

    on : (c : Config) → c ≡ i.table.config → (l : Label) (d : Config) → Applies all_rules v.table.program c l d → l.place ≡ v.place → (l.rule ≡ Rule.Split → ⊥) → ⊥
    on c same l d a e n = at l d (subst (λ (k : Config). Applies all_rules v.table.program k l d) same a) e n
