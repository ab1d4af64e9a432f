-- What the plan of a call at once reads gives what is found of its box later.
use Rattle.std.proofs.Common.{◌≡◌, ℕ, ◌+◌, List, [], ◌∷◌, ◌++◌, length, Some, None, arith, refl, sym, ◌∙◌, ap, subst, inl, inr, append_assoc}
use Rattle.std.specs.Prelude.{slice_index}
use Rattle.akl_terms.specs.declared.name.Name.{Name}
use Rattle.akl_terms.specs.declared.name.Var.{Var}
use Rattle.akl_terms.specs.declared.name.Place.{Place}
use Rattle.akl_terms.specs.declared.program.Program.{Program}
use Rattle.akl_terms.specs.Tree.{Tree, variable}
use Rattle.akl_terms.specs.Equal.{Equations, IsTold, Equal, told, IsConsistent, IsStructured}
use Rattle.akl_terms.proofs.EqualLaws.{Equal-follows, IsConsistent-follows, IsTold-left, IsTold-right, IsTold-either}
use Rattle.akl_terms.specs.Touching.{IsOutside}
use Rattle.constraint_laws.specs.Growth.{TellsOver}
use Rattle.constraint_laws.specs.Bound.{IsNewlyBound}
use Rattle.constraint_laws.specs.Touched.{IsAmong}
use Rattle.akl_model.specs.declared.label.Rule.{Rule}
use Rattle.akl_model.specs.declared.label.Label.{Label}
use Rattle.akl_model.specs.Config.{Atom, Content, Config, held_in, without_goal, Found, equations_of, environment, whole, box_at, home_of}
use Rattle.akl_model.specs.Changes.{Binds}
use Rattle.akl_model.specs.Instances.{instances, drawn_by}
use Rattle.akl_model.specs.Rules.{joining, telling}
use Rattle.akl_model.proofs.NamesKept.{Stand, replay-stands, derived-stands}
use Rattle.akl_model.proofs.Options.{some_value}
use Rattle.step_laws.specs.Bound.{first_equations, outermost_equations, AreBoundIn}
use Rattle.step_laws.specs.Likeness.{IsLike}
use Rattle.step_laws.specs.Stays.{GoesOn, HaveShape}
use Rattle.step_laws.proofs.StaysLaws.{equations_grow, goal_stays}
use Rattle.step_laws.proofs.Whereabouts.{in_found}
use Rattle.plan_laws.specs.Right.{NoneBy}
use Rattle.plan_laws.proofs.Right.{next_same}
use Rattle.plan_laws.specs.AtOnce.{by, with_named, Tells, finishes, leaves, tells, holds, IsAtOnce, labels_at_once, at_once, AreInForce}
use Rattle.plan_laws.proofs.Between.{distinct_of, was_found, stands_now}
use Rattle.plan_laws.proofs.BodySteps.{ToldMore, told_more}
use Rattle.plan_laws.proofs.Calls.{at_once_law}
use Rattle.reading_laws.specs.Boxes.{StaysUnbound}
use Rattle.reading_laws.proofs.BoundLater.{AreListed, listed_later}
use Rattle.reading_laws.proofs.Boxes.{enough_unbound}
use Rattle.reading_laws.proofs.InnerUnbound.{not_bound}
use Rattle.reading_laws.proofs.Listed.{class_bound}
use Rattle.reading_laws.proofs.Steps.{path_whole}
use Rattle.reading_laws.proofs.Untouched.{goal_untouched, good_later}
use Rattle.reading_laws.specs.CallPlans.{ReadsCallItems}
use Rattle.reading_laws.specs.CallsAgain.{IsAtOnceLater}
use Rattle.reading_laws.proofs.GrownCalls.{calls_later}
use Rattle.reading_laws.proofs.NewFrames.{AreNew, instances_new, last_new, outside_later}
use Rattle.reading_laws.proofs.QuietGuards.{all_evaluate}

-- the outermost box's equations are among those down to a box
outermost_told : (f : Found) (s t : Tree) → IsTold (outermost_equations f) s t → IsTold (whole f) s t
outermost_told f s t m = subst (λ (E : Equations). IsTold E s t) (path_whole f) (first (f.around ++ f.content ∷ []) m)
  where
    first : (bs : List Content) → IsTold (first_equations bs) s t → IsTold (equations_of bs) s t
    first [] m = m
    first (b ∷ bs) m = IsTold-left b.equations (equations_of bs) s t m

-- what is told of a body leaves its box its name
told_name : (p : Program) (w next : ℕ) (around : List Content) (b : Content) (n : ℕ) (body : List Atom) (ls : List Label) (b2 : Content) (left : List (Name × Atom)) → Tells p w next around b n body ls b2 left → b2.name ≡ b.name
told_name p w next around _ _ _ _ _ _ (finishes b n) = refl
told_name p w next around _ _ _ _ _ _ (leaves b n a rest ls b2 left x) = told_name p w next around b (n + 1) rest ls b2 left x
told_name p w next around _ _ _ _ _ _ (tells r b n a s t rest ls b2 left guard makes x) = told_name p w next around (telling s t b) (n + 1) rest ls b2 left x
told_name p w next around _ _ _ _ _ _ (holds r b n a rest ls b2 left guard makes x) = told_name p w next around b (n + 1) rest ls b2 left x

-- what the net change of a call binds
module _ (rules : List Rule) (force : AreInForce rules) (p : Program) (c : Config) (s : Stand c) (w : ℕ) (g : Name) (f : Found) (is_home : home_of g c.roots ≡ Some f) (x : IsAtOnce p c w g f) where
  here : box_at f.content.name c.roots ≡ Some f
  here = was_found c s g f is_home

  -- the box with what the call adds
  abbrev made : Found
  made = record { around = f.around; content = x.after; goals = with_named x.goals_left (without_goal g f.goals) }

  found_made : box_at f.content.name (at_once x).roots ≡ Some made
  found_made = subst (λ (n : Name). box_at n (at_once x).roots ≡ Some made) name (in_found (at_once x).roots made after.once (stands_now c s g f is_home x.after (with_named x.goals_left (without_goal g f.goals))))
    where
      name : x.after.name ≡ f.content.name
      name = told_name p w (slice_index c.next w + drawn_by x.called.clauses + length x.last.body) f.around (joining x.last f.content) (slice_index c.next w + drawn_by x.called.clauses) x.last.body x.body_labels x.after x.goals_left x.body

      after : Stand (at_once x)
      after = derived-stands rules p c (at_once x) (labels_at_once x) s (at_once_law rules force p c (distinct_of c s) w g f is_home x)

  pub binds_here : (v : Var) → IsNewlyBound (whole f) (equations_of f.around ++ x.after.equations) v → Binds c (at_once x) f.content.name v
  binds_here v n = record {
    adds = record { before = f; afterwards = made; was = here; is = found_made; more = λ q. differ (ap (λ (E : Equations). equations_of f.around ++ E) q) };
    consistent = x.consistent;
    newly_bound = n;
  }
    where
      differ : equations_of f.around ++ x.after.equations ≡ whole f → ⊥
      differ q = elim n.told [
        | inl k ↦ n.unstructured (subst (λ (E : Equations). IsStructured E v) q k)
        | inr (y, k, apart) ↦ apart (subst (λ (E : Equations). Equal E (variable v) (variable y)) q k)
      ]

  pub bound_here : (v : Var) → Binds c (at_once x) f.content.name v → IsConsistent (equations_of f.around ++ x.after.equations) × IsNewlyBound (whole f) (equations_of f.around ++ x.after.equations) v
  bound_here v z =
      let before : z.adds.before ≡ f = some_value (sym z.adds.was ∙ here) in
      let after : z.adds.afterwards ≡ made = some_value (sym z.adds.is ∙ found_made) in (
        subst (λ (b : Found). IsConsistent (whole b)) after z.consistent,
        subst (λ (b : Found). IsNewlyBound (whole f) (whole b) v) after (subst (λ (b : Found). IsNewlyBound (whole b) (whole z.adds.afterwards) v) before z.newly_bound),
      )

module _ (rules : List Rule) (force : AreInForce rules) (p : Program) (c : Config) (ls : List Label) (d : Config) (run : GoesOn rules p c ls d) (w : ℕ) (g : Name) (f : Found) (is_home : home_of g c.roots ≡ Some f)
    (x : IsAtOnce p c w g f) (none : NoneBy (by w Rule.Fork (Place.Goal g) None) ls) (list : List Var) (bound : AreBoundIn c (at_once x) f list) (u : ReadsCallItems run x list) where
  s : Stand c
  s = replay-stands rules p run.query run.journal c run.replays

  t : Stand d
  t = derived-stands rules p c d ls s run.derives

  found_here : box_at f.content.name c.roots ≡ Some f
  found_here = was_found c s g f is_home

  was_consistent : IsConsistent (whole f)
  was_consistent = IsConsistent-follows (record {
    each = λ {s = a} {t = b} m. elim (IsTold-either (environment f) f.content.equations a b m) [
      | inl y ↦ told (IsTold-left (equations_of f.around) x.after.equations a b y)
      | inr y ↦ told (IsTold-right (equations_of f.around) x.after.equations a b (subst (λ (E : Equations). IsTold E a b) (sym body.equations)
          (IsTold-left (f.content.equations ++ x.last.equations) body.more a b (IsTold-left f.content.equations x.last.equations a b y))))
    ];
  }) x.consistent
    where
      body : ToldMore p w (slice_index c.next w + drawn_by x.called.clauses + length x.last.body) f.around (joining x.last f.content) x.after
      body = told_more p w (slice_index c.next w + drawn_by x.called.clauses + length x.last.body) f.around (joining x.last f.content) (slice_index c.next w + drawn_by x.called.clauses) x.last.body x.body_labels x.after x.goals_left x.body

  stays : (k : Found) × (home_of g d.roots ≡ Some k) × IsLike f k × HaveShape (held_in g f.goals) (held_in g k.goals)
  stays = goal_stays rules p c ls d run g f is_home (goal_untouched rules p c ls d run.derives g u.items.goal)

  there : box_at f.content.name d.roots ≡ Some stays.0
  there = subst (λ (n : Name). box_at n d.roots ≡ Some stays.0) (sym stays.2.name) (was_found d t g stays.0 stays.1)

  keeps : (a b : Tree) → IsTold (whole f) a b → IsTold (whole stays.0) a b
  keeps a b m = equations_grow rules p c ls d run f.content.name f stays.0 found_here there a b m

  alike : StaysUnbound (λ y. IsAmong y u.items.inner) d f.content.name f
  alike = enough_unbound rules p run.query run.journal c ls d run.replays run.derives f.content.name f u.items.inner found_here u.items.stores u.items.enough u.items.within

  unbound : (v : Var) → IsNewlyBound (whole f) (equations_of f.around ++ x.after.equations) v → IsNewlyBound (whole f) (whole stays.0) v → ⊥
  unbound v n b =
      let k : (y : Var) × IsAmong y list × Equal (outermost_equations f) (variable v) (variable y) = bound.every v (binds_here rules force p c s w g f is_home x v n) in
      not_bound rules p run.query run.journal c ls d run.replays run.derives f.content.name f stays.0 u.items.inner found_here there was_consistent u.items.stores u.items.enough u.items.within k.0 (u.items.bindings k.0 k.1)
      (class_bound (whole f) (whole stays.0) (record { each = λ {s = a} {t = b} m. told (keeps a b m) }) v k.0 (Equal-follows (record { each = λ {s = a} {t = b} m. told (outermost_told f a b m) }) k.2) b)

  next : slice_index d.next w ≡ slice_index c.next w
  next = next_same rules p c (by w Rule.Fork (Place.Goal g) None) ls d s run.derives none

  outside : (fs : List Name) → AreNew w (slice_index c.next w) fs → TellsOver (IsOutside fs) (whole stays.0)
  outside fs new = outside_later d (good_later rules p c ls d run) f.content.name stays.0 there w fs (subst (λ (n : ℕ). AreNew w n fs) (sym next) new)

  new_last : AreNew w (slice_index c.next w) x.last.frames
  new_last = last_new p.templates.nodes p w (slice_index c.next w + drawn_by x.called.clauses) (slice_index c.next w) (slice_index c.next w) g f x.arguments x.called.clauses x.sift_labels x.left (omega arith)
      x.sifts x.op x.last x.end_labels x.ends

  consistent : IsConsistent (whole stays.0)
  consistent = subst (λ (k : Found). IsConsistent (whole k)) (some_value (sym alike.is ∙ there)) (alike.spares was_consistent).consistent

  leads : IsAtOnceLater rules x d stays.0
  leads = calls_later rules force p c w g f x d stays.0 (record {
    distinct = distinct_of d t;
    next = next;
    is_home = stays.1;
    goal = stays.3;
    keeps = keeps;
    consistent = consistent;
    outside = outside x.last.frames new_last;
    unbound = unbound;
    evaluates = all_evaluate f stays.0 keeps consistent p w (slice_index c.next w + drawn_by x.called.clauses) (slice_index c.next w) outside
        (instances p.templates.nodes w (slice_index c.next w) x.arguments x.called.clauses) x.sift_labels x.left x.sifts
        (instances_new p.templates.nodes w (slice_index c.next w) (slice_index c.next w) x.arguments x.called.clauses (omega arith)) u.quiet;
  })

  was_whole : equations_of f.around ++ x.after.equations ≡ whole f ++ leads.added
  was_whole = ap (λ (E : Equations). equations_of f.around ++ E) leads.was_added ∙ sym (append_assoc (equations_of f.around) f.content.equations leads.added)

  is_whole : equations_of stays.0.around ++ leads.again.after.equations ≡ whole stays.0 ++ leads.added
  is_whole = ap (λ (E : Equations). equations_of stays.0.around ++ E) leads.is_added ∙ sym (append_assoc (equations_of stays.0.around) stays.0.content.equations leads.added)

  was_listed : AreListed (whole f) leads.added (outermost_equations f) list
  was_listed = record {
    each = λ y m. subst (λ (E : Equations). IsConsistent E × IsNewlyBound (whole f) E y) was_whole (bound_here rules force p c s w g f is_home x y (bound.each y m));
    every = λ h v n. bound.every v (binds_here rules force p c s w g f is_home x v (subst (λ (E : Equations). IsNewlyBound (whole f) E v) (sym was_whole) n));
    oldest = bound.oldest;
  }

  is_listed : AreListed (whole stays.0) leads.added (outermost_equations stays.0) list
  is_listed = (listed_later rules p c ls d run f stays.0 found_here there leads.added list u.items.inner was_listed u.items.stores u.items.enough u.items.within u.items.bindings).1

  binds : AreBoundIn d (at_once leads.again) stays.0 list
  binds = record {
    each = λ y m. binds_here rules force p d t w g stays.0 stays.1 leads.again y (subst (λ (E : Equations). IsNewlyBound (whole stays.0) E y) (sym is_whole) (is_listed.each y m).1);
    every = λ v b.
        let n : IsConsistent (whole stays.0 ++ leads.added) × IsNewlyBound (whole stays.0) (whole stays.0 ++ leads.added) v =
        subst (λ (E : Equations). IsConsistent E × IsNewlyBound (whole stays.0) E v) is_whole (bound_here rules force p d t w g stays.0 stays.1 leads.again v b) in
        is_listed.every n.0 v n.1;
    oldest = is_listed.oldest;
  }

  pub call_plan : (k : Found) × (y : IsAtOnceLater rules x d k) × AreBoundIn d (at_once y.again) k list
  call_plan = (stays.0, leads, binds)
