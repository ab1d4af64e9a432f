-- A label of a rule that names no alternative leads on where its goal and its box's ports are unchanged, and its box is still consistent.
use Rattle.std.proofs.Common.{◌≡◌, List, [], ◌∷◌, ◌++◌, Option, Some, None, sym, ◌∙◌, ap, subst, refl}
use Rattle.std.specs.Prelude.{slice_index, option_map}
use Rattle.akl_terms.specs.declared.name.Name.{Name}
use Rattle.akl_terms.specs.declared.name.Place.{Place}
use Rattle.akl_terms.specs.declared.program.Program.{Program}
use Rattle.akl_terms.specs.Tree.{Tree}
use Rattle.akl_terms.specs.Equal.{IsTold, told, IsConsistent}
use Rattle.akl_model.specs.declared.label.Rule.{Rule}
use Rattle.akl_model.specs.declared.label.Label.{Label}
use Rattle.akl_model.specs.Config.{Operator, Boxes, Content, Config, a_choice, held_in, Found, whole, box_at, site_of}
use Rattle.akl_model.specs.Rules.{Reading, gathered, change_by}
use Rattle.akl_model.specs.Conditions.{AreQuiet}
use Rattle.akl_model.specs.Stable.{Allows}
use Rattle.akl_model.specs.Changes.{box_names, shape_of}
use Rattle.akl_model.specs.Derivations.{Applies}
use Rattle.akl_model.proofs.NamesKept.{Stand, replay-stands, derived-stands, site-box}
use Rattle.akl_model.proofs.Options.{some_value}
use Rattle.akl_model.proofs.Gathered.{gathered_solved}
use Rattle.step_laws.specs.Likeness.{IsLike}
use Rattle.step_laws.specs.Stays.{GoesOn, HaveShape}
use Rattle.step_laws.proofs.Steps.{Later, later}
use Rattle.step_laws.proofs.Stays.{choice_shape}
use Rattle.step_laws.proofs.StaysLaws.{equations_grow, goal_stays}
use Rattle.step_laws.proofs.Whereabouts.{home_in}
use Rattle.plan_laws.specs.Right.{NoneBy}
use Rattle.plan_laws.proofs.Again.{ReducesAgain, reduces_again, tell_again, fork_again, open_again, eval_again, send_again, collect_again}
use Rattle.plan_laws.proofs.AllSolved.{each_stands, all_stay}
use Rattle.plan_laws.proofs.GrownReads.{ReadsStill, reads_still}
use Rattle.plan_laws.proofs.Right.{leads_on}
use Rattle.reading_laws.specs.AtomRight.{IsOfAtom, ReadsGoal, ReducesStill}
use Rattle.reading_laws.proofs.Untouched.{goal_untouched, goal_site, good_later}
use Rattle.reading_laws.proofs.Alternatives.{are_quiet_later}

-- the rule that makes the same change again, and reduces its goal
pub reduces_still : (rules : List Rule) (p : Program) (c : Config) (ls : List Label) (d : Config) (w : GoesOn rules p c ls d) (l : Label) (e : Config) (a : Applies rules p c l e) → NoneBy l ls
    → (r : Rule) (g : Name) (o : Option Name) → l.rule ≡ r → l.place ≡ Place.Goal g → l.alternative ≡ o → (k : Found) → site_of (Place.Goal g) d.roots ≡ Some k → IsLike a.site k
    → ReducesAgain p l.worker (slice_index c.next l.worker) r g o a.site k a.change → ReducesStill a d
reduces_still rules p c ls d w l e a none r g o is_rule is_place is_alternative k is like x =
    let y : _ = leads_on rules p c ls d w l e a none r (Place.Goal g) o is_rule is_place is_alternative k is like.name like.around (reduces_again p l.worker (slice_index c.next l.worker) r g o a.site k a.change x) in
    record { right = y.0; told = x.told; goal = g; becomes = x.becomes; new = x.new; change = y.2 }

module _ (rules : List Rule) (p : Program) (c : Config) (ls : List Label) (d : Config) (w : GoesOn rules p c ls d) (l : Label) (e : Config) (a : Applies rules p c l e) (none : NoneBy l ls)
    (g : Name) (place : l.place ≡ Place.Goal g) (u : ReadsGoal rules p c ls d w g a.site) where
  s : Stand c
  s = replay-stands rules p w.query w.journal c w.replays

  t : Stand d
  t = derived-stands rules p c d ls s w.derives

  at : site_of (Place.Goal g) c.roots ≡ Some a.site
  at = subst (λ (x : Place). site_of x c.roots ≡ Some a.site) place a.is_site

  stays : (k : Found) × (site_of (Place.Goal g) d.roots ≡ Some k) × IsLike a.site k × HaveShape (held_in g a.site.goals) (held_in g k.goals)
  stays = goal_stays rules p c ls d w g a.site at (goal_untouched rules p c ls d w.derives g u.goal)

  there : box_at a.site.content.name d.roots ≡ Some stays.0
  there = subst (λ (m : Name). box_at m d.roots ≡ Some stays.0) (sym stays.2.name) (site-box (Place.Goal g) d.roots stays.0 t.once stays.1)

  is_now : u.now ≡ stays.0
  is_now = some_value (sym u.is_now ∙ there)

  keeps : (x y : Tree) → IsTold (whole a.site) x y → IsTold (whole stays.0) x y
  keeps x y m = equations_grow rules p c ls d w a.site.content.name a.site stays.0 (goal_site rules p c ls d w l e a) there x y m

  consistent_now : IsConsistent (whole a.site) → IsConsistent (whole stays.0)
  consistent_now h = subst (λ (k : Found). IsConsistent (whole k)) is_now (u.consistent h)

  ports : stays.0.content.ports ≡ a.site.content.ports
  ports = subst (λ (k : Found). k.content.ports ≡ a.site.content.ports) is_now u.ports

  alike : IsConsistent (whole a.site) → ReadsStill p.templates.symbols (whole a.site) (whole stays.0)
  alike h = reads_still p.templates.symbols (whole a.site) (whole stays.0) (record { each = λ {s} {t} m. told (keeps s t m) }) (consistent_now h)

  abbrev Again : Rule → Option Name → Type 0
  Again r o = ReducesAgain p l.worker (slice_index c.next l.worker) r g o a.site stays.0 a.change

  atom_again : (v : Reading) (r : Rule) (o : Option Name) → IsOfAtom r → Allows p v r (Place.Goal g) o a.site → change_by p v l.worker (slice_index c.next l.worker) r (Place.Goal g) o a.site ≡ Some a.change → Again r o
  atom_again v Rule.Tell None i x y = tell_again p l.worker (slice_index c.next l.worker) g a.site stays.0 (held_in g a.site.goals) refl stays.3 a.change y
  atom_again v Rule.Fork None i x y = fork_again p l.worker (slice_index c.next l.worker) g a.site stays.0 (held_in g a.site.goals) refl stays.3 a.change y
  atom_again v Rule.Open None i x y = open_again p l.worker (slice_index c.next l.worker) g a.site stays.0 (held_in g a.site.goals) refl stays.3 a.change y
  atom_again v Rule.Eval None i x y = eval_again p l.worker (slice_index c.next l.worker) g a.site stays.0 ports alike v (held_in g a.site.goals) refl stays.3 a.change x y
  atom_again v Rule.Send None i x y = send_again p l.worker (slice_index c.next l.worker) g a.site stays.0 ports alike v (held_in g a.site.goals) refl stays.3 a.change x y
  atom_again v Rule.Tell (Some n) i x y = cc
  atom_again v Rule.Fork (Some n) i x y = cc
  atom_again v Rule.Open (Some n) i x y = cc
  atom_again v Rule.Eval (Some n) i x y = cc
  atom_again v Rule.Send (Some n) i x y = cc
  atom_again v Rule.Fail o i x y = absurd i
  atom_again v Rule.Cut o i x y = absurd i
  atom_again v Rule.Promote o i x y = absurd i
  atom_again v Rule.Collect o i x y = absurd i
  atom_again v Rule.Split o i x y = absurd i

  was_allowed : Allows p a.makes.reading l.rule (Place.Goal g) l.alternative a.site
  was_allowed = subst (λ (x : Place). Allows p a.makes.reading l.rule x l.alternative a.site) place a.makes.allowed

  was_change : change_by p a.makes.reading l.worker (slice_index c.next l.worker) l.rule (Place.Goal g) l.alternative a.site ≡ Some a.change
  was_change = subst (λ (x : Place). change_by p a.makes.reading l.worker (slice_index c.next l.worker) l.rule x l.alternative a.site ≡ Some a.change) place a.makes.change

  pub atom_right : IsOfAtom l.rule → ReducesStill a d
  atom_right kind = reduces_still rules p c ls d w l e a none l.rule g l.alternative refl place refl stays.0 stays.1 stays.2 (atom_again a.makes.reading l.rule l.alternative kind was_allowed was_change)

  -- alternatives that are collected are solved, so they are as they were, and quiet still
  collected : (r : Tree) (bs : Boxes) (b : Content) → held_in g a.site.goals ≡ Some (a_choice (Operator.collecting r) bs) → gathered p l.worker (slice_index c.next l.worker) a.site.content.name r bs ≡ Some b
      → (held_in g stays.0.goals ≡ held_in g a.site.goals) × (AreQuiet a.site bs → AreQuiet stays.0 bs)
  collected r bs b h m =
      let z : Later c d = later rules p c d ls s w.derives in
      let cs : (cs : Boxes) × (held_in g stays.0.goals ≡ Some (a_choice (Operator.collecting r) cs)) × (box_names bs ≡ box_names cs) =
      choice_shape (Operator.collecting r) bs (held_in g stays.0.goals) (sym (ap (option_map shape_of) h) ∙ stays.3) in
      let before : _ = each_stands g (Operator.collecting r) bs c.roots a.site (home_in g c.roots a.site at).0 h in
      let now : _ = each_stands g (Operator.collecting r) cs.0 d.roots stays.0 (home_in g d.roots stays.0 stays.1).0 cs.1 in
      let y : bs ≡ cs.0 = all_stay c d s t z (a.site.around ++ a.site.content ∷ []) (stays.0.around ++ stays.0.content ∷ []) bs cs.0 cs.2 (gathered_solved p l.worker (slice_index c.next l.worker) a.site.content.name r bs b m) before now in (
        cs.1 ∙ ap (λ (v : Boxes). Some (a_choice (Operator.collecting r) v)) (sym y) ∙ sym h,
        subst (λ (v : Boxes). AreQuiet a.site v → AreQuiet stays.0 v) (sym y) (are_quiet_later d (good_later rules p c ls d w) a.site stays.0 keeps consistent_now cs.0 now),
      )

  pub collect_right : l.rule ≡ Rule.Collect → ReducesStill a d
  collect_right rule = reduces_still rules p c ls d w l e a none Rule.Collect g l.alternative rule place refl stays.0 stays.1 stays.2 (on l.alternative
      (subst (λ (r : Rule). Allows p a.makes.reading r (Place.Goal g) l.alternative a.site) rule was_allowed)
      (subst (λ (r : Rule). change_by p a.makes.reading l.worker (slice_index c.next l.worker) r (Place.Goal g) l.alternative a.site ≡ Some a.change) rule was_change))
    where
      on : (o : Option Name) → Allows p a.makes.reading Rule.Collect (Place.Goal g) o a.site → change_by p a.makes.reading l.worker (slice_index c.next l.worker) Rule.Collect (Place.Goal g) o a.site ≡ Some a.change → Again Rule.Collect o
      on None x y = collect_again p l.worker (slice_index c.next l.worker) g a.site stays.0 (sym stays.2.name) (held_in g a.site.goals) refl (λ r bs b h m.
          let k : (held_in g stays.0.goals ≡ held_in g a.site.goals) × (AreQuiet a.site bs → AreQuiet stays.0 bs) = collected r bs b h m in k) a.change x y
      on (Some n) x y = absurd x
