-- A label of Cut or Promote leads on where its box stays consistent, and nothing is bound that a `?` alternative binds.
use Rattle.std.proofs.Common.{◌≡◌, List, ◌++◌, Option, Some, refl, sym, ◌∙◌, ap, subst}
use Rattle.std.specs.Prelude.{slice_index}
use Rattle.akl_terms.specs.declared.name.Name.{Name}
use Rattle.akl_terms.specs.declared.name.Var.{Var}
use Rattle.akl_terms.specs.declared.name.Place.{Place}
use Rattle.akl_terms.specs.declared.program.Program.{Program}
use Rattle.akl_terms.specs.Tree.{Tree, variable}
use Rattle.akl_terms.specs.Equal.{Equations, IsTold, Equal, told, Follows, IsConsistent}
use Rattle.akl_terms.proofs.EqualLaws.{IsConsistent-follows}
use Rattle.constraint_laws.proofs.Beside.{left_follows}
use Rattle.constraint_laws.specs.Bound.{IsNewlyBound}
use Rattle.constraint_laws.specs.Touched.{IsAmong}
use Rattle.akl_model.specs.declared.label.Rule.{Rule}
use Rattle.akl_model.specs.declared.label.Label.{Label}
use Rattle.akl_model.specs.Config.{Operator, Content, no_goals, Config, a_choice, held_in, Found, environment, whole, box_at, site_of}
use Rattle.akl_model.specs.Rules.{Reading, change_by, cut, promote}
use Rattle.akl_model.specs.Conditions.{IsQuietBox, GuardHolds, MayCut, MayPromote}
use Rattle.akl_model.specs.Stable.{Allows}
use Rattle.akl_model.specs.Derivations.{Applies}
use Rattle.akl_model.specs.Changes.{goal_names}
use Rattle.akl_model.proofs.NamesKept.{Stand, replay-stands, derived-stands, site-box}
use Rattle.akl_model.proofs.Options.{some_value}
use Rattle.step_laws.specs.Likeness.{IsLike}
use Rattle.step_laws.specs.Stays.{GoesOn, HaveShape}
use Rattle.step_laws.proofs.Steps.{Later, later}
use Rattle.step_laws.proofs.Stays.{solved_stays, HasAlternative, has_alternative}
use Rattle.step_laws.proofs.StaysLaws.{equations_grow, goal_stays}
use Rattle.step_laws.proofs.Whereabouts.{home_in}
use Rattle.plan_laws.specs.Right.{NoneBy}
use Rattle.plan_laws.proofs.Right.{Solved, cut_solved, promote_solved}
use Rattle.plan_laws.proofs.InScope.{Good}
use Rattle.reading_laws.specs.Boxes.{StaysUnbound}
use Rattle.reading_laws.specs.Guards.{IsOfChoice}
use Rattle.reading_laws.specs.AtomRight.{ReducesStill}
use Rattle.reading_laws.specs.Guards.{Lists, KeepsGuard, ReadsRootGuard, ReadsInnerGuard}
use Rattle.reading_laws.proofs.Beside.{beside_law}
use Rattle.plan_laws.proofs.Again.{ReducesAgain, cut_again, promote_again}
use Rattle.reading_laws.proofs.AtomRight.{reduces_still}
use Rattle.reading_laws.proofs.Alternatives.{around_whole, quiet_later}
use Rattle.reading_laws.proofs.Listed.{class_bound}
use Rattle.reading_laws.proofs.RootUnbound.{many_spares}
use Rattle.reading_laws.proofs.InnerUnbound.{not_bound}
use Rattle.reading_laws.proofs.Boxes.{enough_unbound}
use Rattle.reading_laws.proofs.Untouched.{goal_untouched, goal_site, good_later}

module _ (rules : List Rule) (p : Program) (c : Config) (ls : List Label) (d : Config) (w : GoesOn rules p c ls d) (l : Label) (e : Config) (a : Applies rules p c l e) (none : NoneBy l ls)
    (g n : Name) (kind : IsOfChoice l.rule) (place : l.place ≡ Place.Goal g) (alternative : l.alternative ≡ Some n) (list : List Var) (u : KeepsGuard rules p c ls d w g n a.site list) where
  s : Stand c
  s = replay-stands rules p w.query w.journal c w.replays

  t : Stand d
  t = derived-stands rules p c d ls s w.derives

  z : Later c d
  z = later rules p c d ls s w.derives

  good_now : Good d
  good_now = good_later rules p c ls d w

  at : site_of (Place.Goal g) c.roots ≡ Some a.site
  at = subst (λ (x : Place). site_of x c.roots ≡ Some a.site) place a.is_site

  here : box_at a.site.content.name c.roots ≡ Some a.site
  here = goal_site rules p c ls d w l e a

  stays : (k : Found) × (site_of (Place.Goal g) d.roots ≡ Some k) × IsLike a.site k × HaveShape (held_in g a.site.goals) (held_in g k.goals)
  stays = goal_stays rules p c ls d w g a.site at (goal_untouched rules p c ls d w.derives g u.goal)

  there : box_at a.site.content.name d.roots ≡ Some stays.0
  there = subst (λ (m : Name). box_at m d.roots ≡ Some stays.0) (sym stays.2.name) (site-box (Place.Goal g) d.roots stays.0 t.once stays.1)

  is_now : u.now ≡ stays.0
  is_now = some_value (sym u.is_now ∙ there)

  consistent_now : IsConsistent (whole a.site) → IsConsistent (whole stays.0)
  consistent_now h = subst (λ (k : Found). IsConsistent (whole k)) is_now (u.consistent h)

  keeps : (x y : Tree) → IsTold (whole a.site) x y → IsTold (whole stays.0) x y
  keeps x y m = equations_grow rules p c ls d w a.site.content.name a.site stays.0 here there x y m

  abbrev Again : Rule → Type 0
  Again r = ReducesAgain p l.worker (slice_index c.next l.worker) r g (Some n) a.site stays.0 a.change

  -- a solved alternative
  module _ (y : Solved n a.site (held_in g a.site.goals)) where
    has : HasAlternative c d g n a.site stays.0 y.op y.alternatives y.alternative
    has = has_alternative c d g n a.site stays.0 y.op y.alternatives y.alternative (home_in g c.roots a.site at).0 (home_in g d.roots stays.0 stays.1).0 y.is_choice y.found stays.3

    same : (y.alternative.content ≡ has.alternative.content) × (has.alternative.goals ≡ no_goals)
    same = solved_stays c d s t z y.alternative has.alternative has.stood has.stands (sym has.name_was ∙ has.name) y.solved

    before : environment y.alternative ≡ whole a.site
    before = around_whole y.alternative a.site has.around_was

    now : environment has.alternative ≡ whole stays.0
    now = around_whole has.alternative stays.0 has.around

    quiet : IsQuietBox y.alternative → IsQuietBox has.alternative
    quiet q = quiet_later d good_now a.site stays.0 keeps consistent_now y.alternative has.alternative has.around_was has.around same.0 has.stands q

    consistent : y.op ≡ Operator.nondeterminate → IsConsistent (whole y.alternative) → IsConsistent (whole has.alternative)
    consistent z q = subst (λ (E : Equations). IsConsistent (E ++ has.alternative.content.equations)) (sym now)
        (subst (λ (b : Content). IsConsistent (whole stays.0 ++ b.equations)) same.0
        (beside_law (whole a.site) (whole stays.0) y.alternative.content.equations grows (consistent_now still) was unbound).0)
      where
        was : IsConsistent (whole a.site ++ y.alternative.content.equations)
        was = subst (λ (E : Equations). IsConsistent (E ++ y.alternative.content.equations)) before q

        still : IsConsistent (whole a.site)
        still = IsConsistent-follows (left_follows (whole a.site) y.alternative.content.equations) was

        reads : Lists (whole a.site) y.alternative.content.equations list × ((x : Var) → IsAmong x list → IsConsistent (whole a.site) → IsNewlyBound (whole a.site) (whole u.now) x → ⊥)
        reads = u.unbound y.alternatives y.alternative (y.is_choice ∙ ap (λ (o : Operator). Some (a_choice o y.alternatives)) z) y.found

        grows : Follows (whole a.site) (whole stays.0)
        grows = record { each = λ {s} {t} m. told (keeps s t m) }

        unbound : (x : Var) → IsNewlyBound (whole a.site) (whole a.site ++ y.alternative.content.equations) x → IsNewlyBound (whole a.site) (whole stays.0) x → ⊥
        unbound x i j =
            let k : (v : Var) × IsAmong v list × Equal (whole a.site) (variable x) (variable v) = reads.0 x i in
            reads.1 k.0 k.1 still (subst (λ (f : Found). IsNewlyBound (whole a.site) (whole f) k.0) (sym is_now) (class_bound (whole a.site) (whole stays.0) grows x k.0 k.2 j))

    guards : (o : Operator) → y.op ≡ o → GuardHolds o y.alternative → GuardHolds o has.alternative
    guards Operator.nondeterminate z q = consistent z q
    guards Operator.condition z q = quiet q
    guards Operator.commit z q = quiet q
    guards (Operator.collecting r) z q = absurd q

    cut_at : MayCut n a.site (held_in g a.site.goals) → cut g n a.site (held_in g a.site.goals) ≡ Some a.change → Again Rule.Cut
    cut_at x q = cut_again p l.worker (slice_index c.next l.worker) g n a.site stays.0 y.op y.alternatives has.alternatives y.alternative has.alternative y.is_choice has.held has.names y.found has.found
        same.0 (ap goal_names y.solved ∙ sym (ap goal_names same.1)) quiet (guards y.op refl) a.change x q

    promote_at : MayPromote n a.site (held_in g a.site.goals) → promote l.worker (slice_index c.next l.worker) g n a.site (held_in g a.site.goals) ≡ Some a.change → Again Rule.Promote
    promote_at x q = promote_again p l.worker (slice_index c.next l.worker) g n a.site stays.0 y.op y.alternatives has.alternatives y.alternative has.alternative y.is_choice has.held has.names y.found has.found
        same.0 (ap goal_names y.solved ∙ sym (ap goal_names same.1)) quiet (guards y.op refl) a.change x q

  again_by : (r : Rule) → IsOfChoice r → (v : Reading) → Allows p v r (Place.Goal g) (Some n) a.site → change_by p v l.worker (slice_index c.next l.worker) r (Place.Goal g) (Some n) a.site ≡ Some a.change → Again r
  again_by Rule.Cut k v x q = cut_at (cut_solved n a.site (held_in g a.site.goals) x) x q
  again_by Rule.Promote k v x q = promote_at (promote_solved l.worker (slice_index c.next l.worker) g n a.site (held_in g a.site.goals) a.change q) x q
  again_by Rule.Tell k v x q = absurd k
  again_by Rule.Fork k v x q = absurd k
  again_by Rule.Eval k v x q = absurd k
  again_by Rule.Open k v x q = absurd k
  again_by Rule.Send k v x q = absurd k
  again_by Rule.Fail k v x q = absurd k
  again_by Rule.Collect k v x q = absurd k
  again_by Rule.Split k v x q = absurd k

  pub guard_kept : ReducesStill a d
  guard_kept = reduces_still rules p c ls d w l e a none l.rule g (Some n) refl place alternative stays.0 stays.1 stays.2 (again_by l.rule kind a.makes.reading
      (subst (λ (x : Option Name). Allows p a.makes.reading l.rule (Place.Goal g) x a.site) alternative (subst (λ (x : Place). Allows p a.makes.reading l.rule x l.alternative a.site) place a.makes.allowed))
      (subst (λ (x : Option Name). change_by p a.makes.reading l.worker (slice_index c.next l.worker) l.rule (Place.Goal g) x a.site ≡ Some a.change) alternative
      (subst (λ (x : Place). change_by p a.makes.reading l.worker (slice_index c.next l.worker) l.rule x l.alternative a.site ≡ Some a.change) place a.makes.change)))

-- in a root box
pub root_guard_right : (rules : List Rule) (p : Program) (c : Config) (ls : List Label) (d : Config) (w : GoesOn rules p c ls d) (l : Label) (e : Config) (a : Applies rules p c l e) → NoneBy l ls
    → (g n : Name) → IsOfChoice l.rule → l.place ≡ Place.Goal g → l.alternative ≡ Some n → (list : List Var) → ReadsRootGuard rules p c ls d w g n a.site list → ReducesStill a d
root_guard_right rules p c ls d w l e a none g n kind place alternative list u = guard_kept rules p c ls d w l e a none g n kind place alternative list (record {
  goal = u.goal;
  now = u.now;
  is_now = u.is_now;
  consistent = λ h. u.consistent;
  unbound = λ bs m i j. (
    (u.bindings bs m i j).0,
    λ x o h. (many_spares (λ y. IsAmong y list) rules p w.query w.journal c ls d w.replays w.derives a.site.content.name a.site u.now
        (goal_site rules p c ls d w l e a) u.root u.is_now u.consistent (u.bindings bs m i j).1).unbound x o,
  );
})

-- in an inner box
pub inner_guard_right : (rules : List Rule) (p : Program) (c : Config) (ls : List Label) (d : Config) (w : GoesOn rules p c ls d) (l : Label) (e : Config) (a : Applies rules p c l e) → NoneBy l ls
    → (g n : Name) → IsOfChoice l.rule → l.place ≡ Place.Goal g → l.alternative ≡ Some n → (list : List Var) → ReadsInnerGuard rules p c ls d w g n a.site list → ReducesStill a d
inner_guard_right rules p c ls d w l e a none g n kind place alternative list u = guard_kept rules p c ls d w l e a none g n kind place alternative list (record {
  goal = u.goal;
  now = alike.now;
  is_now = alike.is;
  consistent = λ h. (alike.spares h).consistent;
  unbound = λ bs m i j. ((u.bindings bs m i j).0, λ x o h b. not_bound rules p w.query w.journal c ls d w.replays w.derives a.site.content.name a.site alike.now u.inner here alike.is h u.stores u.enough u.within x ((u.bindings bs m i j).1 x o) b);
})
  where
    here : box_at a.site.content.name c.roots ≡ Some a.site
    here = goal_site rules p c ls d w l e a

    alike : StaysUnbound (λ x. IsAmong x u.inner) d a.site.content.name a.site
    alike = enough_unbound rules p w.query w.journal c ls d w.replays w.derives a.site.content.name a.site u.inner here u.stores u.enough u.within
