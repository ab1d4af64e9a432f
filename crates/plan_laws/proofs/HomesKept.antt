-- A goal over one label that passes it by: its home, and what it is.
use Rattle.std.proofs.Common.{◌≡◌, ◌≢◌, List, [], Some, sym, ◌∙◌, ap, subst, ◌⊎◌, inl, inr}
use Rattle.std.specs.Prelude.{slice_index}
use Rattle.akl_terms.specs.declared.name.Name.{Name}
use Rattle.akl_terms.specs.declared.name.Place.{Place}
use Rattle.akl_model.specs.Config.{Operator}
use Rattle.akl_terms.specs.declared.program.Program.{Program}
use Rattle.akl_terms.specs.declared.program.Query.{Query}
use Rattle.akl_model.specs.declared.label.Rule.{Rule}
use Rattle.akl_model.specs.declared.label.Label.{Label}
use Rattle.akl_model.specs.Config.{Boxes, Config, Held, an_atom, a_choice, held_in, Found, box_at, home_of, edited}
use Rattle.akl_model.specs.Derivations.{Applies, Replays}
use Rattle.akl_model.specs.Changes.{shape_of}
use Rattle.akl_model.specs.Wakes.{Opens, changed_goal}
use Rattle.akl_model.proofs.Options.{some_value, map_some}
use Rattle.akl_model.proofs.NamesKept.{home-box}
use Rattle.plan_laws.proofs.InScope.{Good}
use Rattle.plan_laws.proofs.Moves.{moved}
use Rattle.step_laws.specs.Likeness.{IsOld}
use Rattle.step_laws.specs.Whereabouts.{Stands}
use Rattle.step_laws.proofs.Whereabouts.{home_in}
use Rattle.step_laws.proofs.Edits.{edited_held, held_edited}
use Rattle.step_laws.proofs.GoalEdits.{HasGoal}
use Rattle.step_laws.proofs.Steps.{Moved, aside, at_site, inside, old_goal, held_was, later_step}
use Rattle.step_laws.proofs.Stays.{like_home, shape_held}

-- what a goal was
pub data HeldBefore (n : Name) (new : Boxes) (g : Name) (f : Found) (h : Held) : Type 0 where
  same_held : held_in g f.goals ≡ Some h → HeldBefore n new g f h
  edited_choice : (o : Operator) (bs : Boxes) → held_in g f.goals ≡ Some (a_choice o bs) → h ≡ a_choice o (edited n new bs) → HeldBefore n new g f h

module _ (rules : List Rule) (p : Program) (query : Query) (journal : List Label) (c : Config) (l : Label) (d : Config) (w : Good c) (v : Good d) (replays : Replays rules p query journal c) (a : Applies rules p c l d)
    (g : Name) (unopened : Opens [] c d (Place.Goal g) → ⊥) (f k : Found) (e : home_of g c.roots ≡ Some f) (i : home_of g d.roots ≡ Some k) where
  pub home_same : f.content.name ≡ k.content.name
  home_same = (like_home c d w.stand v.stand (later_step rules p c l d w.stand a) g f k e i).name

  pub was_found : box_at f.content.name c.roots ≡ Some f
  was_found = home-box g c.roots f w.stand.once e

  pub is_found : box_at f.content.name d.roots ≡ Some k
  is_found = subst (λ (n : Name). box_at n d.roots ≡ Some k) (sym home_same) (home-box g d.roots k v.stand.once i)

  pub home_moved : Moved l.worker (slice_index c.next l.worker) a.site a.change f k
  home_moved = moved rules p c l d w v a f.content.name f k was_found is_found

  -- if its shape has changed, it is opened
  pub shape_kept : (h j : Held) → held_in g f.goals ≡ Some h → held_in g k.goals ≡ Some j → shape_of h ≢ shape_of j → ⊥
  shape_kept h j x y differ = unopened (changed_goal e i (λ q. differ (some_value (sym (shape_held g c.roots f h e x) ∙ q ∙ shape_held g d.roots k j i y))))

  pub held_before : (h : Held) → held_in g k.goals ≡ Some h → HeldBefore a.site.content.name a.change.boxes g f h
  held_before h y = on home_moved
    where
      on : Moved l.worker (slice_index c.next l.worker) a.site a.change f k → HeldBefore a.site.content.name a.change.boxes g f h
      on (aside x) = was (map_some (edited_held a.site.content.name a.change.boxes) (held_in g f.goals) h
          (sym (held_edited a.site.content.name a.change.boxes g f.goals) ∙ subst (λ (gs : Rattle.akl_model.specs.Config.Goals). held_in g gs ≡ Some h) x.goals y))
        where
          was : (u : Held) × (held_in g f.goals ≡ Some u) × (edited_held a.site.content.name a.change.boxes u ≡ h) → HeldBefore a.site.content.name a.change.boxes g f h
          was (an_atom b, s, t) = same_held (s ∙ ap Some t)
          was (a_choice o bs, s, t) = edited_choice o bs s (sym t)
      on (at_site u q r) = was (held_was rules p c l d w.stand a u g h (subst (λ (m : Found). held_in g m.goals ≡ Some h) r y) is_old)
        where
          is_old : IsOld c g
          is_old = let x : Stands f c.roots × HasGoal g f.goals = home_in g c.roots f e in old_goal c w.stand g f x.0 x.1

          was : (x : Held) × (held_in g a.site.goals ≡ Some x) × ((h ≡ x) ⊎ (shape_of h ≢ shape_of x)) → HeldBefore a.site.content.name a.change.boxes g f h
          was (x, s, inl t) = same_held (subst (λ (m : Found). held_in g m.goals ≡ Some h) (sym q) (s ∙ ap Some (sym t)))
          was (x, s, inr t) = absurd (shape_kept x h (subst (λ (m : Found). held_in g m.goals ≡ Some x) (sym q) s) y (λ z. t (sym z)))
      on (inside u j x z q r) = same_held (subst (λ (m : Found). held_in g m.goals ≡ Some h) (sym q) (subst (λ (m : Found). held_in g m.goals ≡ Some h) r y))
