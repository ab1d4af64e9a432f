-- Alternatives that are all solved stay as they are.
use Rattle.std.proofs.Common.{◌≡◌, ◌+◌, List, [], ◌∷◌, ◌++◌, Some, refl, sym, ◌∙◌, ap, inl, inr}
use Rattle.std.specs.Prelude.{option_map, ⊤}
use Rattle.akl_terms.specs.declared.name.Name.{Name}
use Rattle.akl_model.specs.Config.{Operator, Content, Boxes, no_boxes, box, Goals, no_goals, Config, a_choice, held_in, Found, box_at}
use Rattle.akl_model.specs.Changes.{box_names, goal_names, goals_at}
use Rattle.akl_model.proofs.Options.{some_value}
use Rattle.akl_model.proofs.NamesKept.{Stand}
use Rattle.akl_model.proofs.Gathered.{AllSolved}
use Rattle.step_laws.specs.Whereabouts.{BoxIn, Stands}
use Rattle.step_laws.proofs.Deeper.{in_deeper}
use Rattle.step_laws.proofs.Whereabouts.{in_found}
use Rattle.step_laws.proofs.GoalEdits.{held_inside, no_goals_names}
use Rattle.step_laws.proofs.Steps.{Later}
use Rattle.step_laws.proofs.Same.{IsSame}
use Rattle.step_laws.proofs.Stays.{solved_stays}
use Rattle.plan_laws.specs.Idle.{EachGoals}

-- each alternative stands under these boxes
abbrev pub EachStands : List Content → Boxes → Boxes → Type 0
EachStands around roots no_boxes = ⊤
EachStands around roots (box b gs bs) = Stands (record { around = around; content = b; goals = gs }) roots × EachStands around roots bs

pub each_stands : (g : Name) (o : Operator) (bs roots : Boxes) (f : Found) → Stands f roots → held_in g f.goals ≡ Some (a_choice o bs) → EachStands (f.around ++ f.content ∷ []) roots bs
each_stands g o bs roots f x h = go bs (λ k hs y. in_deeper f.around f.content f.goals [] k hs roots x (held_inside g o bs [] k hs f.goals h y))
  where
    go : (cs : Boxes) → ((k : Content) (hs : Goals) → BoxIn [] k hs cs → BoxIn (f.around ++ f.content ∷ []) k hs roots) → EachStands (f.around ++ f.content ∷ []) roots cs
    go no_boxes y = tt
    go (box b gs cs) y = (y b gs (inl (refl, refl, refl)), go cs (λ k hs z. y k hs (inr (inr z))))

module _ (c d : Config) (s : Stand c) (t : Stand d) (z : Later c d) where
  pub all_stay : (a e : List Content) (bs cs : Boxes) → box_names bs ≡ box_names cs → AllSolved bs → EachStands a c.roots bs → EachStands e d.roots cs → bs ≡ cs
  all_stay a e no_boxes no_boxes q h x y = refl
  all_stay a e no_boxes (box k hs cs) q h x y = cc
  all_stay a e (box b gs bs) no_boxes q h x y = cc
  all_stay a e (box b gs bs) (box k hs cs) q h x y =
      let n : b.name ≡ k.name = cc in
      let r : box_names bs ≡ box_names cs = cc in
      let u : (b ≡ k) × (hs ≡ no_goals) = solved_stays c d s t z (record { around = a; content = b; goals = gs }) (record { around = e; content = k; goals = hs }) x.0 y.0 n h.0 in
      let v : gs ≡ hs = h.0 ∙ sym u.1 in
      let w : bs ≡ cs = all_stay a e bs cs r h.1 x.1 y.1 in
      λ i. box (u.0 i) (v i) (w i)

  -- alternatives that are all solved later on were so, where their sets of goals are unchanged
  pub were_solved : (a e : List Content) (bs cs : Boxes) → box_names bs ≡ box_names cs → AllSolved cs → EachStands a c.roots bs → EachStands e d.roots cs → EachGoals (IsSame c d) bs → AllSolved bs
  were_solved a e no_boxes cs q h x y u = tt
  were_solved a e (box b gs bs) no_boxes q h x y u = cc
  were_solved a e (box b gs bs) (box k hs cs) q h x y u =
      let n : b.name ≡ k.name = cc in
      let r : box_names bs ≡ box_names cs = cc in
      let i : box_at b.name c.roots ≡ Some (record { around = a; content = b; goals = gs }) = in_found c.roots (record { around = a; content = b; goals = gs }) s.once x.0 in
      let j : box_at k.name d.roots ≡ Some (record { around = e; content = k; goals = hs }) = in_found d.roots (record { around = e; content = k; goals = hs }) t.once y.0 in
      let v : Some (goal_names gs) ≡ Some (goal_names hs) =
      sym (ap (λ (o : _). option_map (λ (f : Found). goal_names f.goals) o) i) ∙ u.0 ∙ ap (λ (m : Name). goals_at m d.roots) n ∙ ap (λ (o : _). option_map (λ (f : Found). goal_names f.goals) o) j in
      (no_goals_names gs (ap goal_names (sym h.0) ∙ sym (some_value v)), were_solved a e bs cs r h.1 x.1 y.1 u.1)
