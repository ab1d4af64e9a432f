-- The candidate of the box that was looked at, and boxes at which Split doesn't apply.
use Rattle.std.proofs.Common.{◌≡◌, Option, Some, None, sym, ◌∙◌, ap, subst}
use Rattle.std.specs.Prelude.{IsSomeAnd}
use Rattle.akl_terms.specs.declared.name.Name.{Name}
use Rattle.akl_terms.specs.declared.name.Place.{Place}
use Rattle.akl_terms.specs.declared.program.Program.{Program}
use Rattle.akl_model.specs.declared.label.Rule.{Rule}
use Rattle.akl_model.specs.declared.label.Label.{Label}
use Rattle.akl_model.specs.Config.{IsIn, Config, Found, box_at, site_of}
use Rattle.akl_model.specs.Rules.{Reading, ChoiceIn, choice_with}
use Rattle.akl_model.specs.Instances.{start}
use Rattle.akl_model.specs.Stable.{IsStable, IsSplitPoint, Allows}
use Rattle.akl_model.specs.Derivations.{Applies}
use Rattle.akl_model.proofs.NamesKept.{box-itself}
use Rattle.akl_model.proofs.Options.{some_value, some_and}
use Rattle.akl_model.proofs.Results.{Derives-one}
use Rattle.step_laws.proofs.Whereabouts.{found_in}
use Rattle.table_laws.proofs.Gone.{goals_once}
use Rattle.table_laws.proofs.RestBoxes.{EachGoal}
use Rattle.box_tree.specs.Tables.{all_rules, table_of}
use Rattle.box_tree.specs.Views.{ViewValue, IsViewOf}
use Rattle.box_tree.specs.Insides.{IsCandidateOf}
use Rattle.guard_plan.proofs.Sites.{stand, found}
use Rattle.split_plan.specs.Split.{HasNoSplit}
use Rattle.box_tree.proofs.ShownChoices.{IsShown, shown as rows_shown, goals_named as rows_named}
use Rattle.split_plan.proofs.Candidates.{IsPoint, is_point}

-- where Split may be used
allowed_at : (p : Program) (u : Reading) (n : Name) (alternative : Option Name) (f : Found) → Allows p u Rule.Split (Place.Box n) alternative f
    → (a : Name) × IsStable p f × IsSomeAnd (choice_with a f.goals) (IsSplitPoint f a)
allowed_at p u n (Some a) f x = (a, x.0, x.1)
allowed_at p u n None f x = absurd x

point_of : (f : Found) (a : Name) → IsSomeAnd (choice_with a f.goals) (IsSplitPoint f a) → IsPoint a f.goals
point_of f a x =
    let w : (k : ChoiceIn) × (choice_with a f.goals ≡ Some k) × IsSplitPoint f a k = some_and (IsSplitPoint f a) (choice_with a f.goals) x in
    record { among = w.0; is_choice = w.1; op = w.2.nondeterminate; first = w.2.first; others = w.2.others }

module _ (v : ViewValue) (i : IsViewOf v) (n : Name) (p : v.place ≡ Place.Box n) where
  pub there : box_at n i.table.config.roots ≡ Some i.site
  there = subst (λ (q : Place). site_of q i.table.config.roots ≡ Some i.site) p i.is_site

  pub itself : n ≡ i.site.content.name
  itself = box-itself n i.table.config.roots i.site there

  -- Split applies only to a stable box with a point
  pub no_split : ((a : Name) → IsStable v.table.program i.site → IsPoint a i.site.goals → ⊥) → HasNoSplit v
  no_split f = record {
    none = λ t l d a e r. on t.config (Derives-one all_rules v.table.program (start v.table.program v.table.query) t.config i.table.config v.journal t.replays.derives i.table.replays.derives) l d a e r;
  }
    where
      at : (l : Label) (d : Config) → Applies all_rules v.table.program i.table.config l d → l.place ≡ v.place → l.rule ≡ Rule.Split → ⊥
      at l d b e r =
          let s : b.site ≡ i.site = some_value (sym b.is_site ∙ ap (λ (q : Place). site_of q i.table.config.roots) e ∙ i.is_site) in
          let x : Allows v.table.program b.makes.reading Rule.Split (Place.Box n) l.alternative b.site =
          subst (λ (q : Place). Allows v.table.program b.makes.reading Rule.Split q l.alternative b.site) (e ∙ p)
          (subst (λ (q : Rule). Allows v.table.program b.makes.reading q l.place l.alternative b.site) r b.makes.allowed) in
          let w : (a : Name) × IsStable v.table.program i.site × IsSomeAnd (choice_with a i.site.goals) (IsSplitPoint i.site a) =
          allowed_at v.table.program b.makes.reading n l.alternative i.site (subst (λ (k : Found). Allows v.table.program b.makes.reading Rule.Split (Place.Box n) l.alternative k) s x) in
          f w.0 w.1 (point_of i.site w.0 w.2)

      on : (c : Config) → c ≡ i.table.config → (l : Label) (d : Config) → Applies all_rules v.table.program c l d → l.place ≡ v.place → l.rule ≡ Rule.Split → ⊥
      on c same l d a e r = at l d (subst (λ (k : Config). Applies all_rules v.table.program k l d) same a) e r

  shown : EachGoal (IsShown (table_of v.table)) i.site.goals
  shown = rows_shown v.table i.table.config i.table.unfolds (stand v i).once n i.site there

  -- a candidate is a point
  pub candidate_point : (a : Name) → IsCandidateOf (table_of v.table) n (Some a) → IsPoint a i.site.goals
  candidate_point a k = is_point (table_of v.table) a i.site.goals shown
      (goals_once i.table.config.roots (stand v i).once i.site (found_in i.site.content.name i.table.config.roots i.site (found v i)) a)
      k.0 (subst (IsIn k.0) (rows_named v.table i.table.config i.table.unfolds (stand v i).once n i.site there) k.1) k.2
