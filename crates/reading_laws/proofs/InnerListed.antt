-- What a plan lists as bound is enough to read, in an inner box too, beside what the inner boxes' equations reach.
use Rattle.std.proofs.Common.{◌≡◌, List, [], ◌∷◌, ◌++◌, Some, sym, ◌∙◌, ap, subst}
use Rattle.std.specs.Prelude.{◌↔◌}
use Rattle.akl_terms.specs.declared.name.Name.{Name}
use Rattle.akl_terms.specs.declared.name.Var.{Var}
use Rattle.akl_terms.specs.declared.program.Program.{Program}
use Rattle.akl_terms.specs.Equal.{IsConsistent}
use Rattle.constraint_laws.specs.Bound.{IsNewlyBound}
use Rattle.akl_model.specs.declared.label.Rule.{Rule}
use Rattle.akl_model.specs.declared.label.Label.{Label}
use Rattle.akl_model.specs.Config.{Config, Found, whole, box_at}
use Rattle.akl_model.specs.Derivations.{Applies, Replays}
use Rattle.akl_model.proofs.NamesKept.{site-box}
use Rattle.akl_model.proofs.Options.{some_value}
use Rattle.akl_model.proofs.Results.{Applies-one, Derives-append}
use Rattle.step_laws.specs.Bound.{outermost_equations, AreBoundIn}
use Rattle.step_laws.specs.Stays.{GoesOn}
use Rattle.plan_laws.specs.Local as local
use Rattle.plan_laws.specs.Local.{reduces, made}
use Rattle.plan_laws.specs.Right.{IsRightOn}
use Rattle.plan_laws.proofs.InScope.{Good}
use Rattle.reading_laws.specs.Listed.{ReadsInnerListed}
use Rattle.reading_laws.proofs.Outermost.{bound_told, told_binds}
use Rattle.plan_laws.proofs.Replayed.{good_replay, replay_further}
use Rattle.reading_laws.proofs.BoundLater.{AreListed, listed_later}

module _ (rules : List Rule) (p : Program) (c : Config) (ls : List Label) (d : Config) (w : GoesOn rules p c ls d) (l : Label) (e : Config) (a : Applies rules p c l e) (r : IsRightOn a d) (tells : local.Told) (list : List Var)
    (bound : AreBoundIn c e a.site list) (u : ReadsInnerListed w a r tells list) where
  good_c : Good c
  good_c = good_replay rules p w.query w.journal c w.replays

  good_e : Good e
  good_e = good_replay rules p w.query (w.journal ++ l ∷ []) e (replay_further rules p w.query w.journal c l e w.replays a)

  later : Replays rules p w.query (w.journal ++ ls) d
  later = record { derives = Derives-append rules p (Rattle.akl_model.specs.Instances.start p w.query) c d w.journal ls w.replays.derives w.derives }

  good_d : Good d
  good_d = good_replay rules p w.query (w.journal ++ ls) d later

  good_result : Good r.result
  good_result = good_replay rules p w.query ((w.journal ++ ls) ++ l ∷ []) r.result (replay_further rules p w.query (w.journal ++ ls) d l r.result later r.applies)

  here : box_at a.site.content.name c.roots ≡ Some a.site
  here = site-box l.place c.roots a.site good_c.stand.once a.is_site

  there : box_at a.site.content.name d.roots ≡ Some r.applies.site
  there = subst (λ (m : Name). box_at m d.roots ≡ Some r.applies.site) (sym r.same_site) (site-box l.place d.roots r.applies.site good_d.stand.once r.applies.is_site)

  before : a.change.boxes ≡ made (reduces tells u.goal u.becomes u.new) a.site
  before = r.before ∙ ap (λ (x : local.Delta). made x a.site) u.change

  afterwards : r.applies.change.boxes ≡ made (reduces tells u.goal u.becomes u.new) r.applies.site
  afterwards = r.now ∙ ap (λ (x : local.Delta). made x r.applies.site) u.change

  listed : AreListed (whole a.site) tells.equations (outermost_equations a.site) list
  listed = record {
    each = λ y m. bound_told rules p c l e good_c good_e a tells u.goal u.becomes u.new before y (bound.each y m);
    every = λ h x z. bound.every x (told_binds rules p c l e good_c good_e a tells u.goal u.becomes u.new before x h z);
    oldest = bound.oldest;
  }

  later_listed : (IsConsistent (whole a.site ++ tells.equations) ↔ IsConsistent (whole r.applies.site ++ tells.equations)) × AreListed (whole r.applies.site) tells.equations (outermost_equations r.applies.site) list
  later_listed = listed_later rules p c ls d w a.site r.applies.site here there tells.equations list u.inner listed u.stores u.enough u.within u.bindings

  again : AreBoundIn d r.result r.applies.site list
  again = record {
    each = λ y m.
        let z : IsConsistent (whole r.applies.site ++ tells.equations) × IsNewlyBound (whole r.applies.site) (whole r.applies.site ++ tells.equations) y = later_listed.1.each y m in
        told_binds rules p d l r.result good_d good_result r.applies tells u.goal u.becomes u.new afterwards y z.0 z.1;
    every = λ x b.
        let z : IsConsistent (whole r.applies.site ++ tells.equations) × IsNewlyBound (whole r.applies.site) (whole r.applies.site ++ tells.equations) x =
        bound_told rules p d l r.result good_d good_result r.applies tells u.goal u.becomes u.new afterwards x b in
        later_listed.1.every z.0 x z.1;
    oldest = later_listed.1.oldest;
  }

  pub inner_listed : (IsConsistent (whole a.site ++ tells.equations) ↔ IsConsistent (whole r.applies.site ++ tells.equations)) × ((result : Config) (now : Applies rules p d l result) → AreBoundIn d result now.site list)
  inner_listed = (
    later_listed.0,
    λ result now. subst (λ (f : Found). AreBoundIn d result f list) (some_value (sym r.applies.is_site ∙ now.is_site))
        (subst (λ (k : Config). AreBoundIn d k r.applies.site list) (Applies-one r.applies now) again),
  )
