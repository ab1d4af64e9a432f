-- A label of Fail of an inconsistent box leads on where the box is there.
use Rattle.reading_laws.specs.Unchanged.{Unchanged}
use Rattle.akl_model.specs.declared.item.Item.{Item}
use Rattle.std.proofs.Common.{◌≡◌, List, Option, Some, None, refl, sym, ◌∙◌, ap, subst, inl}
use Rattle.std.specs.Prelude.{slice_index}
use Rattle.akl_terms.specs.declared.name.Name.{Name}
use Rattle.akl_terms.specs.declared.name.Place.{Place}
use Rattle.akl_terms.specs.declared.program.Program.{Program}
use Rattle.akl_terms.specs.Equal.{IsConsistent}
use Rattle.akl_terms.proofs.EqualLaws.{IsConsistent-follows}
use Rattle.akl_model.specs.declared.label.Rule.{Rule}
use Rattle.akl_model.specs.declared.label.Label.{Label}
use Rattle.akl_model.specs.Config.{no_boxes, Config, whole, box_at, site_of}
use Rattle.akl_model.specs.Rules.{Reading, change_by}
use Rattle.akl_model.specs.Stable.{Allows}
use Rattle.akl_model.specs.Derivations.{Applies}
use Rattle.akl_model.proofs.NamesKept.{box-itself}
use Rattle.akl_model.proofs.Options.{some_value}
use Rattle.step_laws.specs.Stays.{GoesOn}
use Rattle.plan_laws.specs.Local.{leaves}
use Rattle.plan_laws.specs.Right.{NoneBy, IsRightOn}
use Rattle.plan_laws.proofs.Right.{leads_on}
use Rattle.reading_laws.proofs.Boxes.{IsThereStill, there_still}

module _ (rules : List Rule) (p : Program) (c : Config) (ls : List Label) (d : Config) (w : GoesOn rules p c ls d) (l : Label) (e : Config) (a : Applies rules p c l e) (none : NoneBy l ls)
    (n : Name) (rule : l.rule ≡ Rule.Fail) (place : l.place ≡ Place.Box n) (clash : IsConsistent (whole a.site) → ⊥) (u : Unchanged rules p c ls d w.derives (Item.Store n)) where
  here : box_at n c.roots ≡ Some a.site
  here = subst (λ (x : Place). site_of x c.roots ≡ Some a.site) place a.is_site

  stays : IsThereStill d n a.site
  stays = there_still rules p w.query w.journal c ls d w.replays w.derives n a.site here u

  makes : (v : Reading) (o : Option Name) → change_by p v l.worker (slice_index c.next l.worker) Rule.Fail (Place.Box n) o a.site ≡ Some a.change
      → change_by p v l.worker (slice_index c.next l.worker) Rule.Fail (Place.Box n) o stays.now ≡ Some a.change
  makes v None x = x
  makes v (Some b) x = absurd cc

  gone : (v : Reading) (o : Option Name) → change_by p v l.worker (slice_index c.next l.worker) Rule.Fail (Place.Box n) o a.site ≡ Some a.change → a.change.boxes ≡ no_boxes
  gone v None x = ap (λ (y : Rattle.akl_model.specs.Rules.Change). y.boxes) (sym (some_value x))
  gone v (Some b) x = absurd cc

  allows : (v : Reading) (o : Option Name) → Allows p v Rule.Fail (Place.Box n) o a.site → Allows p v Rule.Fail (Place.Box n) o stays.now
  allows v o x = inl (λ h. clash (IsConsistent-follows stays.grows h))

  was : change_by p a.makes.reading l.worker (slice_index c.next l.worker) Rule.Fail (Place.Box n) l.alternative a.site ≡ Some a.change
  was = subst (λ (r : Rule). change_by p a.makes.reading l.worker (slice_index c.next l.worker) r (Place.Box n) l.alternative a.site ≡ Some a.change) rule
      (subst (λ (x : Place). change_by p a.makes.reading l.worker (slice_index c.next l.worker) l.rule x l.alternative a.site ≡ Some a.change) place a.makes.change)

  pub fail_right : IsRightOn a d
  fail_right = (leads_on rules p c ls d w l e a none Rule.Fail (Place.Box n) l.alternative rule place refl stays.now stays.is
      (sym (box-itself n c.roots a.site here) ∙ box-itself n d.roots stays.now stays.is) (sym stays.around)
      (record {
        reading = a.makes.reading;
        change = a.change;
        makes = makes a.makes.reading l.alternative was;
        allowed = allows a.makes.reading l.alternative
            (subst (λ (r : Rule). Allows p a.makes.reading r (Place.Box n) l.alternative a.site) rule
            (subst (λ (x : Place). Allows p a.makes.reading l.rule x l.alternative a.site) place a.makes.allowed));
        delta = leaves;
        before = gone a.makes.reading l.alternative was;
        now = gone a.makes.reading l.alternative was;
        drawn = refl;
      })).0
