-- A plan of a call at once stays right by stamps and marks.
use Rattle.std.proofs.Common.{◌≡◌, ℕ, ◌+◌, ◌≤◌, List, [], ◌∷◌, ◌++◌, length, Some, None, refl, sym, ◌∙◌, ap, subst, append_assoc}
use Rattle.std.specs.Prelude.{slice_index, ◌↔◌}
use Rattle.akl_terms.specs.declared.name.Name.{Name}
use Rattle.akl_terms.specs.declared.name.Var.{Var}
use Rattle.akl_terms.specs.declared.name.Place.{Place}
use Rattle.akl_terms.specs.declared.program.Program.{Program}
use Rattle.akl_terms.specs.declared.program.Query.{Query}
use Rattle.akl_terms.specs.Tree.{variable}
use Rattle.akl_terms.specs.Equal.{Equations, Equal}
use Rattle.constraint_laws.specs.Bound.{IsNewlyBound}
use Rattle.constraint_laws.specs.Oldest.{HasOldest}
use Rattle.constraint_laws.specs.Touched.{IsAmong}
use Rattle.akl_model.specs.declared.item.Item.{Item}
use Rattle.akl_model.specs.declared.label.Rule.{Rule}
use Rattle.akl_model.specs.declared.label.Label.{Label}
use Rattle.akl_model.specs.Config.{IsIn, Operator, Atom, Content, Boxes, Goals, Config, Found, equations_of, whole, home_of}
use Rattle.akl_model.specs.Changes.{by_binding, IsLastChange}
use Rattle.akl_model.specs.Derivations.{Derives, Replays}
use Rattle.akl_model.specs.Instances.{drawn_by}
use Rattle.akl_model.specs.Rules.{joining}
use Rattle.akl_model.specs.Wakes.{names_down_to}
use Rattle.akl_model.proofs.NamesKept.{Stand, replay-stands, derived-stands}
use Rattle.step_laws.specs.Bound.{first_equations, outermost_equations, AreBoundIn}
use Rattle.step_laws.specs.Likeness.{IsOld}
use Rattle.step_laws.specs.Stays.{GoesOn}
use Rattle.step_laws.proofs.Same.{same}
use Rattle.plan_laws.specs.Right.{NoneBy}
use Rattle.plan_laws.proofs.ByGoals.{same_by_goals}
use Rattle.plan_laws.proofs.Right.{next_same}
use Rattle.plan_laws.specs.AtOnce.{by, Works, rests, works, Sifts, ends, fails, stays, Ends, promotes, cuts, Tells, finishes, leaves, tells, holds, IsAtOnce, labels_at_once, at_once, AreInForce, IsAtOnceIn, MeetsCall}
use Rattle.plan_laws.proofs.Between.{distinct_of, was_found}
use Rattle.plan_laws.proofs.BodySteps.{ToldMore, told_more}
use Rattle.plan_laws.proofs.ByContents.{same_as, derived_follows}
use Rattle.plan_laws.proofs.Calls.{at_once_law}
use Rattle.plan_laws.specs.Wakes.{TellsNothing}
use Rattle.reading_laws.proofs.CallsWherever.{call_wherever}
use Rattle.reading_laws.specs.ListedMarks.{AreOf}
use Rattle.reading_laws.specs.Plans.{ReadsItems}
use Rattle.reading_laws.specs.Seen.{IsSeen, ReadsAt, in_root, by_ends, inside, ByBindings}
use Rattle.reading_laws.specs.Unchanged.{Unchanged}
use Rattle.reading_laws.proofs.ListedMarks.{listed_unchanged}
use Rattle.reading_laws.proofs.SeenItems.{seen_unchanged}
use Rattle.reading_laws.proofs.SeenPlans.{none_of, root_items, ends_items}
use Rattle.reading_laws.proofs.Untouched.{goal_untouched, goals_untouched}
use Rattle.reading_laws.specs.CallsAgain.{body_outcomes, IsAtOnceLater}
use Rattle.reading_laws.specs.QuietGuards.{EvaluatesQuietly}
use Rattle.reading_laws.proofs.CallPlans.{call_plan, binds_here, bound_here}

-- all labels of a call are by one worker

of_append : (w : ℕ) (ks ls : List Label) → AreOf w ks → AreOf w ls → AreOf w (ks ++ ls)
of_append w [] ls x y = y
of_append w (k ∷ ks) ls x y = (x.0, of_append w ks ls x.1 y)

works_of : (p : Program) (w next : ℕ) (f : Found) (b : Content) (gs : Goals) (ls : List Label) (b2 : Content) (gs2 : Goals) → Works p w next f b gs ls b2 gs2 → AreOf w ls
works_of p w next f _ _ _ _ _ (rests b gs) = tt
works_of p w next f _ _ _ _ _ (works r i h b gs b1 gs1 ls b2 gs2 guard held makes name y) = (refl, works_of p w next f b1 gs1 ls b2 gs2 y)

sifts_of : (p : Program) (w next : ℕ) (f : Found) (bs : Boxes) (ls : List Label) (cs : Boxes) → Sifts p w next f bs ls cs → AreOf w ls
sifts_of p w next f _ _ _ ends = tt
sifts_of p w next f _ _ _ (fails b gs b2 gs2 ks bs ls cs work why y) = of_append w ks (by w Rule.Fail (Place.Box b2.name) None ∷ ls) (works_of p w next f b gs ks b2 gs2 work) (refl, sifts_of p w next f bs ls cs y)
sifts_of p w next f _ _ _ (stays b gs b2 gs2 ks bs ls cs work y) = of_append w ks ls (works_of p w next f b gs ks b2 gs2 work) (sifts_of p w next f bs ls cs y)

ends_of : (w : ℕ) (g : Name) (f : Found) (o : Operator) (a : Content) (bs : Boxes) (ls : List Label) → Ends w g f o a bs ls → AreOf w ls
ends_of w g f o a _ _ (promotes guard) = (refl, tt)
ends_of w g f o a _ _ (cuts bs i e h quiet) = (refl, (refl, tt))

tells_of : (p : Program) (w next : ℕ) (around : List Content) (b : Content) (n : ℕ) (body : List Atom) (ls : List Label) (b2 : Content) (left : List (Name × Atom)) → Tells p w next around b n body ls b2 left → AreOf w ls
tells_of p w next around _ _ _ _ _ _ (finishes b n) = tt
tells_of p w next around _ _ _ _ _ _ (leaves b n a rest ls b2 left x) = tells_of p w next around b (n + 1) rest ls b2 left x
tells_of p w next around _ _ _ _ _ _ (tells r b n a s t rest ls b2 left guard makes x) = (refl, tells_of p w next around _ (n + 1) rest ls b2 left x)
tells_of p w next around _ _ _ _ _ _ (holds r b n a rest ls b2 left guard makes x) = (refl, tells_of p w next around b (n + 1) rest ls b2 left x)

call_of : (p : Program) (c : Config) (w : ℕ) (g : Name) (f : Found) (x : IsAtOnce p c w g f) → AreOf w (labels_at_once x)
call_of p c w g f x = (
  refl,
  of_append w (x.sift_labels ++ x.end_labels) x.body_labels
      (of_append w x.sift_labels x.end_labels (sifts_of p w _ f _ x.sift_labels x.left x.sifts) (ends_of w g f x.op x.last x.left x.end_labels x.ends))
      (tells_of p w _ f.around _ _ x.last.body x.body_labels x.after x.goals_left x.body),
)

module _ (rules : List Rule) (force : AreInForce rules) (p : Program) (c : Config) (ls : List Label) (d : Config) (run : GoesOn rules p c ls d) (w : ℕ) (g : Name) (f : Found) (is_home : home_of g c.roots ≡ Some f)
    (x : IsAtOnce p c w g f) (none : NoneBy (by w Rule.Fork (Place.Goal g) None) ls) (list : List Var) (bound : AreBoundIn c (at_once x) f list) (goal : Unchanged rules p c ls d run.derives (Item.Goal g)) where
  abbrev Leads : Type 0
  Leads = (k : Found) × (y : IsAtOnceLater rules x d k) × AreBoundIn d (at_once y.again) k list

  s : Stand c
  s = replay-stands rules p run.query run.journal c run.replays

  t : Stand d
  t = derived-stands rules p c d ls s run.derives

  -- by the items that are read in all boxes
  items_call : ReadsItems rules p c ls d run g f list → EvaluatesQuietly x → Leads
  items_call items quiet = call_plan rules force p c ls d run w g f is_home x none list bound (record { items = items; quiet = quiet })

  -- in an inner box, where no set of goals down to it changed
  module _ (sets : (m : Name) → IsIn m (names_down_to f) → Unchanged rules p c ls d run.derives (Item.Goals m)) where
    meets : MeetsCall c w g f d
    meets = record {
      follows = (derived_follows rules p c ls d run).1;
      next = next_same rules p c (by w Rule.Fork (Place.Goal g) None) ls d s run.derives none;
      goal = same_as c d (Item.Goal g) (same rules p c ls d run.derives (Item.Goal g) (goal_untouched rules p c ls d run.derives g goal));
      stores = λ m i. same_as c d (Item.Store m) (same_by_goals rules p c ls d run (Item.Store m) (goals_untouched rules p c ls d run.derives m (sets m i)));
    }

    found : (a : IsAtOnceIn rules x d) × (TellsNothing x → TellsNothing a.again) × (body_outcomes a.again ≡ body_outcomes x) × (a.again.body_labels ≡ x.body_labels)
    found = call_wherever rules force p c (distinct_of c s) w g f is_home x d meets

    abbrev there : IsAtOnceIn rules x d
    there = found.0

    same_whole : whole f ≡ whole there.site
    same_whole = λ i. equations_of (there.same.around i) ++ (there.same.content i).equations

    body : ToldMore p w (slice_index c.next w + drawn_by x.called.clauses + length x.last.body) f.around (joining x.last f.content) x.after
    body = told_more p w (slice_index c.next w + drawn_by x.called.clauses + length x.last.body) f.around (joining x.last f.content) (slice_index c.next w + drawn_by x.called.clauses) x.last.body x.body_labels x.after x.goals_left x.body

    abbrev added : Equations
    added = x.last.equations ++ body.more

    was_added : x.after.equations ≡ f.content.equations ++ added
    was_added = body.equations ∙ append_assoc f.content.equations x.last.equations body.more

    leads : IsAtOnceLater rules x d there.site
    leads = record {
      is_home = there.is_home;
      again = there.again;
      same_labels = there.same_labels;
      same_names = there.same_names;
      same_last = there.same_last;
      same_left = there.same_left;
      same_body = found.3;
      same_outcomes = found.2;
      silent = found.1;
      added = added;
      was_added = was_added;
      is_added = ap (λ (b : Content). b.equations) there.same_after ∙ was_added ∙ ap (λ (b : Content). b.equations ++ added) there.same.content;
      binds = λ v. subst (λ (E : Equations). IsNewlyBound (whole f) (whole f ++ added) v ↔ IsNewlyBound E (E ++ added) v) same_whole ((λ b. b), (λ b. b));
      derives = there.derives;
    }

    -- the equations with the call's own are the same
    same_made : equations_of f.around ++ x.after.equations ≡ equations_of there.site.around ++ there.again.after.equations
    same_made = let back : x.after ≡ there.again.after = sym there.same_after in λ i. equations_of (there.same.around i) ++ (back i).equations

    there_bound : (v : Var) → IsNewlyBound (whole f) (equations_of f.around ++ x.after.equations) v → IsNewlyBound (whole there.site) (equations_of there.site.around ++ there.again.after.equations) v
    there_bound v b = subst (λ (E : Equations). IsNewlyBound (whole there.site) E v) same_made (subst (λ (E : Equations). IsNewlyBound E (equations_of f.around ++ x.after.equations) v) same_whole b)

    here_bound : (v : Var) → IsNewlyBound (whole there.site) (equations_of there.site.around ++ there.again.after.equations) v → IsNewlyBound (whole f) (equations_of f.around ++ x.after.equations) v
    here_bound v b = subst (λ (E : Equations). IsNewlyBound (whole f) E v) (sym same_made) (subst (λ (E : Equations). IsNewlyBound E (equations_of there.site.around ++ there.again.after.equations) v) (sym same_whole) b)

    outermost : outermost_equations f ≡ outermost_equations there.site
    outermost = λ i. first_equations (there.same.around i ++ there.same.content i ∷ [])

    binds : AreBoundIn d (at_once there.again) there.site list
    binds = record {
      each = λ v m. binds_here rules force p d t w g there.site there.is_home there.again v (there_bound v (bound_here rules force p c s w g f is_home x v (bound.each v m)).1);
      every = λ v b.
          let k : (y : Var) × IsAmong y list × Equal (outermost_equations f) (variable v) (variable y) =
          bound.every v (binds_here rules force p c s w g f is_home x v (here_bound v (bound_here rules force p d t w g there.site there.is_home there.again v b).1)) in
          (k.0, k.1, subst (λ (E : Equations). Equal E (variable v) (variable k.0)) outermost k.2);
      oldest = subst (λ (E : Equations). HasOldest E list) outermost bound.oldest;
    }

    inner_call : Leads
    unfolding leads
    inner_call = (there.site, leads, binds)

module _ (rules : List Rule) (force : AreInForce rules) (p : Program) (q : Query) (journal further : List Label) (c d : Config) (r : Replays rules p q journal c) (v : Derives rules p c further d)
    (w : ℕ) (g : Name) (f : Found) (is_home : home_of g c.roots ≡ Some f) (x : IsAtOnce p c w g f) (none : NoneBy (by w Rule.Fork (Place.Goal g) None) further) (list : List Var) (bound : AreBoundIn c (at_once x) f list) where
  abbrev run : GoesOn rules p c further d
  run = record { query = q; journal = journal; replays = r; derives = v }

  abbrev U : Item → Type 0
  U = IsSeen rules p q (journal ++ further) (length journal)

  distinct : Stand c
  distinct = replay-stands rules p q journal c r

  unchanged : (i : Item) (number : ℕ) → IsLastChange by_binding rules p q (journal ++ further) i number → number ≤ length journal → Unchanged rules p c further d v i
  unchanged i number last early = seen_unchanged rules p q journal further c d i number r v last early

  listed : ((y : Var) → IsAmong y list → IsOld c y.frame → U (Item.Binding y)) → (y : Var) → IsAmong y list → Unchanged rules p c further d v (Item.Binding y)
  listed bindings = listed_unchanged rules p q journal c w (labels_at_once x) (at_once x) r (at_once_law rules force p c (distinct_of c distinct) w g f is_home x) (call_of p c w g f x) f (was_found c distinct g f is_home) list bound further d v
      (none_of (by w Rule.Fork (Place.Goal g) None) further none) (λ y i o. ((bindings y i o).number, (bindings y i o).last, (bindings y i o).early))

  pub seen : (u : ReadsAt U c g f list) → (ByBindings _ _ _ _ _ u → EvaluatesQuietly x)
      → (k : Found) × (y : IsAtOnceLater rules x d k) × AreBoundIn d (at_once y.again) k list
  seen (in_root root goal store bindings) quiet = items_call rules force p c further d run w g f is_home x none list bound (unchanged (Item.Goal g) goal.number goal.last goal.early)
      (root_items rules p c further d run g f list root (unchanged (Item.Goal g) goal.number goal.last goal.early) (unchanged (Item.Store f.content.name) store.number store.last store.early) (listed bindings)) (quiet tt)
  seen (by_ends u) quiet = items_call rules force p c further d run w g f is_home x none list bound (unchanged (Item.Goal g) u.goal.number u.goal.last u.goal.early)
      (ends_items rules p q journal further c d r v g f list u (listed u.bindings)) (quiet tt)
  seen (inside goal sets) quiet = inner_call rules force p c further d run w g f is_home x none list bound (unchanged (Item.Goal g) goal.number goal.last goal.early)
      (λ m i. unchanged (Item.Goals m) (sets m i).number (sets m i).last (sets m i).early)

pub seen_call : (rules : List Rule) → AreInForce rules → (p : Program) (q : Query) (journal further : List Label) (c d : Config) → Replays rules p q journal c → Derives rules p c further d
    → (w : ℕ) (g : Name) (f : Found) → home_of g c.roots ≡ Some f → (x : IsAtOnce p c w g f) → NoneBy (by w Rule.Fork (Place.Goal g) None) further → (list : List Var) → AreBoundIn c (at_once x) f list
    → (u : ReadsAt (IsSeen rules p q (journal ++ further) (length journal)) c g f list)
    → (ByBindings _ _ _ _ _ u → EvaluatesQuietly x)
    → (k : Found) × (y : IsAtOnceLater rules x d k) × AreBoundIn d (at_once y.again) k list
seen_call rules force p q journal further c d r v w g f is_home x none list bound u quiet = seen rules force p q journal further c d r v w g f is_home x none list bound u quiet
