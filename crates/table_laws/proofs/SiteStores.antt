-- What is told to a box, or joins it, without new ports and without a clash, leaves it its store where bindings are told apart.
use Rattle.std.proofs.Common.{◌≡◌, List, ◌∷◌, ◌++◌, Some, refl, sym, ◌∙◌, ap, subst, inl, inr, append_assoc}
use Rattle.std.specs.Prelude.{slice_index, option_map}
use Rattle.akl_terms.specs.declared.name.Name.{Name}
use Rattle.akl_terms.specs.declared.name.Place.{Place}
use Rattle.akl_terms.specs.declared.program.Program.{Program}
use Rattle.akl_terms.specs.Equal.{Equations, IsConsistent}
use Rattle.akl_model.specs.declared.item.Item.{Item}
use Rattle.akl_model.specs.declared.label.Rule.{Rule}
use Rattle.akl_model.specs.declared.label.Label.{Label}
use Rattle.akl_model.specs.Config.{Atom, Content, no_boxes, box, Goals, without_goal, Config, Found, environment, whole, box_at}
use Rattle.akl_model.specs.Changes.{by_binding, ports_at, Changes}
use Rattle.akl_model.specs.Rules.{Change, becomes, joining}
use Rattle.akl_model.specs.Derivations.{Applies, after}
use Rattle.akl_model.proofs.NamesKept.{Stand, replay-stands, site-box}
use Rattle.akl_model.proofs.Options.{some_value}
use Rattle.akl_model.proofs.Results.{Applies-one}
use Rattle.local_store.specs.Stored.{Stored}
use Rattle.step_laws.proofs.Steps.{made, site_there}
use Rattle.table_laws.specs.Rows.{Table, ports_in}
use Rattle.table_laws.specs.Stamped.{Run, IsTableOf}
use Rattle.table_laws.specs.Steps.{TellsGoal, JoinsGoal}
use Rattle.table_laws.proofs.PartsJoined.{Joins, joins_change}

-- a box is there before and afterwards, with the same ports, and consistent
pub record LeavesStore (c d : Config) (n : Name) : Type 0 where
  pub before : Found
  pub was : box_at n c.roots ≡ Some before
  pub afterwards : Found
  pub is : box_at n d.roots ≡ Some afterwards
  pub ports : afterwards.content.ports ≡ before.content.ports
  pub consistent : IsConsistent (whole afterwards)

-- so its store isn't changed
pub leaves_store : (c d : Config) (n : Name) → LeavesStore c d n → Changes by_binding c d (Item.Store n) → ⊥
leaves_store c d n x (inl differ) = differ (at c x.before x.was ∙ ap Some (sym x.ports) ∙ sym (at d x.afterwards x.is))
  where
    at : (k : Config) (f : Found) → box_at n k.roots ≡ Some f → ports_at n k.roots ≡ Some f.content.ports
    at k f e = ap (option_map (λ (z : Found). z.content.ports)) e
leaves_store c d n x (inr z) = z.inconsistent (subst (λ (f : Found). IsConsistent (whole f)) (some_value (sym x.is ∙ z.adds.is)) x.consistent)

module _ (rules : List Rule) (r : Run) (T : Table) (t : IsTableOf rules r T) (l : Label) where
  abbrev p : Program
  p = r.program

  abbrev c : Config
  c = t.config

  stand : Stand c
  stand = replay-stands rules r.program r.query r.journal t.config t.replays

  -- where a label makes of its box one of this content, with the same ports, and consistent
  leaves : (d : Config) (a : Applies rules p c l d) (b : Content) (gs : Goals) → a.change.boxes ≡ box b gs no_boxes → b.ports ≡ a.site.content.ports → IsConsistent (environment a.site ++ b.equations) → LeavesStore c d a.site.content.name
  leaves d a b gs is ports good = record {
    before = a.site;
    was = site-box l.place c.roots a.site stand.once a.is_site;
    afterwards = record { around = a.site.around; content = b; goals = gs };
    is = there;
    ports = ports;
    consistent = good;
  }
    where
      there : box_at a.site.content.name d.roots ≡ Some (record { around = a.site.around; content = b; goals = gs })
      there = elim (made rules p c l d stand a) [
        | inl x ↦ let e : box b gs no_boxes ≡ no_boxes = sym is ∙ x.1 in absurd cc
        | inr x ↦
            let e : box b gs no_boxes ≡ box x.0.content x.0.goals x.0.rest = sym is ∙ x.0.is_change in
            let same : b ≡ x.0.content = cc in
            let goals : gs ≡ x.0.goals = cc in
            site_there rules p c l d stand a x.0 ∙ (λ i. Some (record { around = a.site.around; content = sym same i; goals = sym goals i }))
      ]

  -- the equations of a box with more
  whole_with : (f : Found) (M : Equations) → whole f ++ M ≡ environment f ++ (f.content.equations ++ M)
  whole_with f M = append_assoc (environment f) f.content.equations M

  pub tells_leaves : (d : Config) (a : Applies rules p c l d) (g : Name) (new : Stored) (m : TellsGoal p l (slice_index c.next l.worker) a.site g new) → ports_in p.templates.nodes new.ports ≡ a.site.content.ports
      → IsConsistent (whole a.site ++ m.first ∷ m.more) → Changes by_binding c d (Item.Store a.site.content.name) → ⊥
  tells_leaves d a g new m ports good = leaves_store c d a.site.content.name (subst (λ (k : Config). LeavesStore c k a.site.content.name) (sym (Applies-one a again))
      (leaves (after c l a.site change) again m.content (without_goal g a.site.goals) refl (sym m.ports ∙ ports)
      (subst IsConsistent (whole_with a.site (m.first ∷ m.more) ∙ ap (λ (E : Equations). environment a.site ++ E) (sym m.equations)) good)))
    where
      change : Change
      change = becomes m.content (without_goal g a.site.goals) m.drawn

      again : Applies rules p c l (after c l a.site change)
      again = record { in_force = a.in_force; site = a.site; is_site = a.is_site; change = change; makes = m.reduces.makes; result = refl }

  pub joins_leaves : (d : Config) (a : Applies rules p c l d) (g : Name) (new : Stored) (goals : List (Name × Atom)) (m : JoinsGoal p l (slice_index c.next l.worker) a.site g new goals) → l.place ≡ Place.Goal g
      → ports_in p.templates.nodes new.ports ≡ a.site.content.ports → IsConsistent (whole a.site ++ m.joined.equations) → Changes by_binding c d (Item.Store a.site.content.name) → ⊥
  joins_leaves d a g new goals m place ports good =
      let k : Joins m.joined a.site a.change = joins_change p a.makes.reading (slice_index c.next l.worker) l g a.site m.operator m.alternatives m.joined a.change place m.held m.origin a.makes.change in
      leaves_store c d a.site.content.name (leaves d a (joining m.joined a.site.content) k.0 k.1 (sym m.ports ∙ ports) (subst IsConsistent (whole_with a.site m.joined.equations) good))
