-- A plan of a label at a goal stays right by stamps and marks.
use Rattle.std.proofs.Common.{◌≡◌, ℕ, ◌≤◌, ◌⊎◌, List, [], ◌∷◌, ◌++◌, Bool, true, false, length, map, Option, Some, None, refl, sym, ◌∙◌, ap, subst, inl, inr, arith, append_assoc}
use Rattle.std.specs.Prelude.{if◌then◌else◌, slice_index, IsSomeAnd}
use Rattle.akl_terms.specs.declared.name.Name.{Name}
use Rattle.akl_terms.specs.declared.name.Var.{Var}
use Rattle.akl_terms.specs.declared.name.Place.{Place}
use Rattle.akl_terms.specs.declared.program.Program.{Program}
use Rattle.akl_terms.specs.declared.program.Query.{Query}
use Rattle.akl_terms.specs.Names.{same_name}
use Rattle.akl_terms.specs.Tree.{variable}
use Rattle.akl_terms.specs.Equal.{Equations, Equal, IsConsistent}
use Rattle.akl_terms.proofs.EqualLaws.{Equal-follows}
use Rattle.constraint_laws.specs.Bound.{IsNewlyBound}
use Rattle.constraint_laws.specs.Oldest.{HasOldest}
use Rattle.constraint_laws.specs.Touched.{IsAmong}
use Rattle.akl_model.specs.declared.item.Item.{Item}
use Rattle.akl_model.specs.declared.label.Rule.{Rule}
use Rattle.akl_model.specs.declared.label.Label.{Label}
use Rattle.akl_model.specs.Config.{IsIn, Operator, Content, Boxes, no_boxes, box, Goals, no_goals, atom, choice, a_choice, held_in, without_goal, Config, Found, equations_of, environment, whole, box_at}
use Rattle.akl_model.specs.Changes.{by_binding, Binds, IsLastChange}
use Rattle.akl_model.specs.Conditions.{GuardHolds, MayCut, MayPromote}
use Rattle.akl_model.specs.Derivations.{Applies, Derives, Replays}
use Rattle.akl_model.specs.Instances.{with_atoms}
use Rattle.akl_model.specs.Rules.{Reading, Change, becomes, change_by, promote, joining, alternative_of}
use Rattle.akl_model.specs.Stable.{Allows}
use Rattle.akl_model.specs.Wakes.{names_down_to}
use Rattle.akl_model.proofs.NamesKept.{site-box}
use Rattle.akl_model.proofs.Options.{some_value}
use Rattle.akl_model.proofs.Results.{Applies-one}
use Rattle.step_laws.specs.Bound.{first_equations, outermost_equations, AreBoundIn}
use Rattle.step_laws.specs.Likeness.{IsOld}
use Rattle.step_laws.specs.Stays.{GoesOn, Leaves, IsSameBox}
use Rattle.step_laws.proofs.Becomes.{Becomes}
use Rattle.step_laws.proofs.Stays.{same_box, like_box, alternative_in}
use Rattle.step_laws.proofs.Steps.{later, site_stands, site_now}
use Rattle.plan_laws.specs.ByGoals.{by_goals}
use Rattle.plan_laws.specs.Right.{Reads, NoneBy, IsRightOn}
use Rattle.plan_laws.proofs.BoundAgain.{binds_alike}
use Rattle.plan_laws.proofs.ByGoals.{same_by_goals, right_by_goals}
use Rattle.plan_laws.proofs.InScope.{Good}
use Rattle.plan_laws.proofs.Moves.{cases, binder}
use Rattle.plan_laws.proofs.Replayed.{good_replay, replay_further}
use Rattle.reading_laws.specs.AtomRight.{IsOfAtom, ReadsGoal, ReducesStill}
use Rattle.reading_laws.specs.Guards.{IsOfChoice, Lists}
use Rattle.reading_laws.specs.Plans.{ReadsItems, StaysRight}
use Rattle.reading_laws.specs.Ends.{HasEnds}
use Rattle.reading_laws.specs.Seen.{IsSeen, ReadsEnds, ReadsAt, in_root, by_ends, inside, IsAtGoal}
use Rattle.reading_laws.specs.ListedMarks.{NoneOf}
use Rattle.reading_laws.specs.Unchanged.{Unchanged}
use Rattle.reading_laws.proofs.Starts.{root_enough}
use Rattle.reading_laws.proofs.Alternatives.{around_whole}
use Rattle.reading_laws.proofs.AtomRight.{atom_right, collect_right}
use Rattle.reading_laws.proofs.Guards.{guard_kept}
use Rattle.reading_laws.proofs.ListedMarks.{listed_unchanged}
use Rattle.reading_laws.proofs.Marked.{marks}
use Rattle.reading_laws.proofs.Plans.{atom_plan, collect_plan, choice_plan}
use Rattle.reading_laws.proofs.RootsAlong.{outermost_follows}
use Rattle.reading_laws.proofs.Outermost.{first_box}
use Rattle.reading_laws.proofs.SeenItems.{seen_unchanged}
use Rattle.reading_laws.proofs.Untouched.{goal_untouched, goals_untouched, goal_site, good_later}

-- the rules at a goal by their kind
data Kind : Rule → Type 0 where
  of_atom : {r : Rule} → IsOfAtom r → Kind r
  collects : Kind Rule.Collect
  of_choice : {r : Rule} → IsOfChoice r → Kind r

kind_of : (r : Rule) → IsAtGoal r → Kind r
kind_of Rule.Tell k = of_atom tt
kind_of Rule.Fork k = of_atom tt
kind_of Rule.Open k = of_atom tt
kind_of Rule.Eval k = of_atom tt
kind_of Rule.Send k = of_atom tt
kind_of Rule.Cut k = of_choice tt
kind_of Rule.Promote k = of_choice tt
kind_of Rule.Collect k = collects
kind_of Rule.Fail k = absurd k
kind_of Rule.Split k = absurd k

-- what is read by a rule at a goal
reads_by : (U : Item → Type 0) (r : Rule) (g : Name) (alternative : Option Name) (f : Found) → IsAtGoal r → U (Item.Goal g) → ((m : Name) → IsIn m (names_down_to f) → U (Item.Store m)) → Reads U r (Place.Goal g) alternative f
reads_by U Rule.Tell g n f k x y = x
reads_by U Rule.Fork g n f k x y = x
reads_by U Rule.Open g n f k x y = x
reads_by U Rule.Eval g n f k x y = (x, y)
reads_by U Rule.Send g n f k x y = (x, y)
reads_by U Rule.Cut g n f k x y = (x, y)
reads_by U Rule.Promote g n f k x y = (x, y)
reads_by U Rule.Collect g n f k x y = (x, y)
reads_by U Rule.Fail g n f k x y = absurd k
reads_by U Rule.Split g n f k x y = absurd k

-- a label at a choice names an alternative
names_one : (p : Program) (v : Reading) (w next : _) (r : Rule) (g : Name) (f : Found) (ch : Change) → IsOfChoice r → (o : Option Name) → change_by p v w next r (Place.Goal g) o f ≡ Some ch → (n : Name) × (o ≡ Some n)
names_one p v w next r g f ch k (Some n) e = (n, refl)
names_one p v w next Rule.Cut g f ch k None e = absurd cc
names_one p v w next Rule.Promote g f ch k None e = absurd cc
names_one p v w next _ g f ch k None e = absurd k

never_bound : (E : Equations) (x : Var) → IsNewlyBound E E x → ⊥
never_bound E x b = elim b.told [ inl s ↦ b.unstructured s | inr w ↦ w.2 w.1 ]

-- what joins a box is the only alternative
joined_change : (w next : _) (g n : Name) (f : Found) (o : Operator) (bs : Boxes) (m : Found) (ch : Change) → alternative_of f n bs ≡ Some m → promote w next g n f (Some (a_choice o bs)) ≡ Some ch → (gs : Goals) × (ch.boxes ≡ box (joining m.content f.content) gs no_boxes)
joined_change w next g n f o no_boxes m ch i e = absurd cc
joined_change w next g n f o (box b (atom i1 x1 gs1) no_boxes) m ch i e = absurd cc
joined_change w next g n f o (box b (choice i1 o1 bs1 gs1) no_boxes) m ch i e = absurd cc
joined_change w next g n f o (box b hs (box b2 gs2 bs2)) m ch i e = absurd (other hs e)
  where
    other : (hs : Goals) → promote w next g n f (Some (a_choice o (box b hs (box b2 gs2 bs2)))) ≡ Some ch → ⊥
    other no_goals e = cc
    other (atom i1 x1 gs1) e = cc
    other (choice i1 o1 bs1 gs1) e = cc
joined_change w next g n f o (box b no_goals no_boxes) m ch i e = on (same_name n b.name) i e
  where
    on : (t : Bool) → (if t then Some (record { around = f.around ++ f.content ∷ []; content = b; goals = no_goals }) else None) ≡ Some m
        → (if t then Some (becomes (joining b f.content) (with_atoms w next b.body (without_goal g f.goals)) (length b.body)) else None) ≡ Some ch → (gs : Goals) × (ch.boxes ≡ box (joining m.content f.content) gs no_boxes)
    on false i e = absurd cc
    on true i e = (
      with_atoms w next b.body (without_goal g f.goals),
      ap (λ (u : Change). u.boxes) (sym (some_value e)) ∙ (λ j. box (joining ((some_value i) j).content f.content) (with_atoms w next b.body (without_goal g f.goals)) no_boxes),
    )

-- the items that are read in a root box
module _ (rules : List Rule) (p : Program) (c : Config) (ls : List Label) (d : Config) (w : GoesOn rules p c ls d) (g : Name) (f : Found) (list : List Var) (root : f.around ≡ []) where
  root_stores : Unchanged rules p c ls d w.derives (Item.Store f.content.name) → (m : Name) → IsIn m (names_down_to f) → Unchanged rules p c ls d w.derives (Item.Store m)
  root_stores store m i = on (subst (λ (bs : List Content). IsIn m (map (λ (b : Content). b.name) bs ++ f.content.name ∷ [])) root i)
    where
      on : IsIn m (f.content.name ∷ []) → Unchanged rules p c ls d w.derives (Item.Store m)
      on (inl q) = subst (λ (n : Name). Unchanged rules p c ls d w.derives (Item.Store n)) (sym q) store
      on (inr q) = absurd q

  pub root_items : Unchanged rules p c ls d w.derives (Item.Goal g) → Unchanged rules p c ls d w.derives (Item.Store f.content.name) → ((x : Var) → IsAmong x list → Unchanged rules p c ls d w.derives (Item.Binding x)) → ReadsItems rules p c ls d w g f list
  root_items goal store bindings = record { goal = goal; stores = root_stores store; inner = []; enough = root_enough f root; within = λ x i. absurd i; bindings = bindings }

-- and those that are read by ends
pub ends_items : (rules : List Rule) (p : Program) (q : Query) (journal further : List Label) (c d : Config) (r : Replays rules p q journal c) (v : Derives rules p c further d) (g : Name) (f : Found) (list : List Var)
    → ReadsEnds (IsSeen rules p q (journal ++ further) (length journal)) c g f list → ((x : Var) → IsAmong x list → Unchanged rules p c further d v (Item.Binding x))
    → ReadsItems rules p c further d (record { query = q; journal = journal; replays = r; derives = v }) g f list
ends_items rules p q journal further c d r v g f list u bindings =
    let ends : ((x : Var) → IsAmong x u.ends → Unchanged rules p c further d v (Item.Binding x)) × HasEnds d u.ends =
    marks rules p q journal further c d r v u.ends u.old u.oldest (λ x i. ((u.end_bindings x i).number, (u.end_bindings x i).last, (u.end_bindings x i).early)) in
    record {
      goal = seen_unchanged rules p q journal further c d (Item.Goal g) u.goal.number r v u.goal.last u.goal.early;
      stores = λ m i. seen_unchanged rules p q journal further c d (Item.Store m) (u.stores m i).number r v (u.stores m i).last (u.stores m i).early;
      inner = u.inner;
      enough = u.enough;
      within = λ x i. elim (u.ended x i) [ inl s ↦ inl s | inr z ↦ inr (z.0, z.2, ends.0 z.0 z.1) ];
      bindings = bindings;
    }

module _ (rules : List Rule) (p : Program) (c : Config) (ls : List Label) (d : Config) (w : GoesOn rules p c ls d) (l : Label) (e : Config) (a : Applies rules p c l e) (none : NoneBy l ls) (g : Name) (kind : IsAtGoal l.rule) (place : l.place ≡ Place.Goal g)
    (list : List Var) (bound : AreBoundIn c e a.site list) where
  good_c : Good c
  good_c = good_replay rules p w.query w.journal c w.replays

  good_e : Good e
  good_e = good_replay rules p w.query (w.journal ++ l ∷ []) e (replay_further rules p w.query w.journal c l e w.replays a)

  good_d : Good d
  good_d = good_later rules p c ls d w

  here : box_at a.site.content.name c.roots ≡ Some a.site
  here = goal_site rules p c ls d w l e a

  change_here : (n : Option Name) → l.alternative ≡ n → change_by p a.makes.reading l.worker (slice_index c.next l.worker) l.rule (Place.Goal g) n a.site ≡ Some a.change
  change_here n q = subst (λ (x : Option Name). change_by p a.makes.reading l.worker (slice_index c.next l.worker) l.rule (Place.Goal g) x a.site ≡ Some a.change) q
      (subst (λ (x : Place). change_by p a.makes.reading l.worker (slice_index c.next l.worker) l.rule x l.alternative a.site ≡ Some a.change) place a.makes.change)

  allowed_here : (n : Option Name) → l.alternative ≡ n → Allows p a.makes.reading l.rule (Place.Goal g) n a.site
  allowed_here n q = subst (λ (x : Option Name). Allows p a.makes.reading l.rule (Place.Goal g) x a.site) q (subst (λ (x : Place). Allows p a.makes.reading l.rule x l.alternative a.site) place a.makes.allowed)

  -- what an alternative of the guard `?` binds is listed
  module _ (n : Name) (bs : Boxes) (m : Found) (held : held_in g a.site.goals ≡ Some (a_choice Operator.nondeterminate bs)) (found : alternative_of a.site n bs ≡ Some m) where
    joined_binds : (b : Content) (gs : Goals) → a.change.boxes ≡ box b gs no_boxes → b.equations ≡ a.site.content.equations ++ m.content.equations → IsConsistent (whole a.site ++ m.content.equations) → Lists (whole a.site) m.content.equations list
    joined_binds b gs boxes equations good x z = on (cases rules p c l e good_c good_e a)
      where
        Result : Type 0
        Result = (y : Var) × IsAmong y list × Equal (whole a.site) (variable x) (variable y)

        listed : Binds c e a.site.content.name x → Result
        listed y = let k : (y : Var) × IsAmong y list × Equal (outermost_equations a.site) (variable x) (variable y) = bound.every x y in
            (k.0, k.1, Equal-follows (outermost_follows c a.site (first_box c good_c a.site.content.name a.site here)) k.2)

        on : (a.change.boxes ≡ no_boxes) ⊎ Becomes l.worker (slice_index c.next l.worker) a.site a.change → Result
        on (inl q) = let s : box b gs no_boxes ≡ no_boxes = sym boxes ∙ q in absurd cc
        on (inr k) = listed (binder rules p c l e good_c good_e a k x (subst IsConsistent (sym now) good) (subst (λ (E : Equations). IsNewlyBound (whole a.site) E x) (sym now) z))
          where
            same : b ≡ k.content
            same = let s : box b gs no_boxes ≡ box k.content k.goals k.rest = sym boxes ∙ k.is_change in cc

            now : whole (site_now k) ≡ whole a.site ++ m.content.equations
            now = ap (λ (E : Equations). environment a.site ++ E) (ap (λ (u : Content). u.equations) (sym same) ∙ equations) ∙ sym (append_assoc (environment a.site) a.site.content.equations m.content.equations)

    by_promote : MayPromote n a.site (Some (a_choice Operator.nondeterminate bs)) → promote l.worker (slice_index c.next l.worker) g n a.site (Some (a_choice Operator.nondeterminate bs)) ≡ Some a.change → Lists (whole a.site) m.content.equations list
    by_promote may change =
        let k : (gs : Goals) × (a.change.boxes ≡ box (joining m.content a.site.content) gs no_boxes) = joined_change l.worker (slice_index c.next l.worker) g n a.site Operator.nondeterminate bs m a.change found change in
        let good : IsConsistent (whole m) = subst (λ (o : Option Found). IsSomeAnd o (GuardHolds Operator.nondeterminate)) found may in
        joined_binds (joining m.content a.site.content) k.0 k.1 refl
        (subst (λ (E : Equations). IsConsistent (E ++ m.content.equations)) (around_whole m a.site (alternative_in a.site n bs m found).1) good)

    cut_never : MayCut n a.site (Some (a_choice Operator.nondeterminate bs)) → ⊥
    cut_never x = omega (arith, x.1)

    by_rule : (r : Rule) → IsOfChoice r → (v : Reading) → Allows p v r (Place.Goal g) (Some n) a.site → change_by p v l.worker (slice_index c.next l.worker) r (Place.Goal g) (Some n) a.site ≡ Some a.change → Lists (whole a.site) m.content.equations list
    by_rule Rule.Cut k v x y = absurd (cut_never (subst (MayCut n a.site) held x))
    by_rule Rule.Promote k v x y = by_promote (subst (MayPromote n a.site) held x) (ap (promote l.worker (slice_index c.next l.worker) g n a.site) (sym held) ∙ y)
    by_rule _ k v x y = absurd k

  lists : (n : Name) → l.alternative ≡ Some n → IsOfChoice l.rule → (bs : Boxes) (m : Found) → held_in g a.site.goals ≡ Some (a_choice Operator.nondeterminate bs) → alternative_of a.site n bs ≡ Some m → Lists (whole a.site) m.content.equations list
  lists n q k bs m held found = by_rule n bs m held found l.rule k a.makes.reading (allowed_here (Some n) q) (change_here (Some n) q)

  -- by the items that are read in all boxes
  module _ (items : ReadsItems rules p c ls d w g a.site list) where
    by_items : (r : Rule) → l.rule ≡ r → Kind r → StaysRight a d list
    by_items r q (of_atom k) = atom_plan rules p c ls d w l e a none g list bound items (subst IsOfAtom (sym q) k) place
    by_items _ q collects = collect_plan rules p c ls d w l e a none g list bound items q place
    by_items r q (of_choice k) =
        let k1 : IsOfChoice l.rule = subst IsOfChoice (sym q) k in
        let n : (n : Name) × (l.alternative ≡ Some n) = names_one p a.makes.reading l.worker (slice_index c.next l.worker) l.rule g a.site a.change k1 l.alternative (change_here l.alternative refl) in
        choice_plan rules p c ls d w l e a none g list bound items n.0 k1 place n.1 (record {
          goal = items.goal;
          stores = items.stores;
          inner = items.inner;
          enough = items.enough;
          within = items.within;
          bindings = λ bs m i j. (lists n.0 n.1 k1 bs m i j, items.bindings);
        })

    items_plan : StaysRight a d list
    items_plan = by_items l.rule refl (kind_of l.rule kind)

  -- in an inner box, where no set of goals down to it changed
  module _ (goal : Unchanged rules p c ls d w.derives (Item.Goal g)) (sets : (m : Name) → IsIn m (names_down_to a.site) → Unchanged rules p c ls d w.derives (Item.Goals m)) where
    unread : (m : Name) → IsIn m (names_down_to a.site) → Leaves w (by_goals (Item.Store m))
    unread m i = goals_untouched rules p c ls d w.derives m (sets m i)

    first_right : IsRightOn a d
    first_right = right_by_goals rules p c ls d w l e a none (subst (λ (q : Place). Reads (λ (i : Item). Leaves w (by_goals i)) l.rule q l.alternative a.site) (sym place)
        (reads_by (λ (i : Item). Leaves w (by_goals i)) l.rule g l.alternative a.site kind (goal_untouched rules p c ls d w.derives g goal) unread))

    -- the box is the same
    same_as : (r : IsRightOn a d) → IsSameBox a.site r.applies.site
    same_as r = same_box c d good_c.stand good_d.stand (later rules p c d ls good_c.stand w.derives) a.site r.applies.site (site_stands rules p c l e good_c.stand a) (site_stands rules p d l r.result good_d.stand r.applies)
        (like_box c d good_c.stand good_d.stand (later rules p c d ls good_c.stand w.derives) a.site r.applies.site (site_stands rules p c l e good_c.stand a) (site_stands rules p d l r.result good_d.stand r.applies) r.same_site)
        (λ m i. same_by_goals rules p c ls d w (Item.Store m) (unread m i))

    same_whole : (r : IsRightOn a d) → whole a.site ≡ whole r.applies.site
    same_whole r = λ i. equations_of ((same_as r).around i) ++ ((same_as r).content i).equations

    now : box_at a.site.content.name d.roots ≡ Some first_right.applies.site
    now = subst (λ (n : Name). box_at n d.roots ≡ Some first_right.applies.site) (sym first_right.same_site) (site-box l.place d.roots first_right.applies.site good_d.stand.once first_right.applies.is_site)

    reads : ReadsGoal rules p c ls d w g a.site
    reads = record {
      goal = goal;
      now = first_right.applies.site;
      is_now = now;
      ports = ap (λ (b : Content). b.ports) (sym (same_as first_right).content);
      consistent = subst IsConsistent (same_whole first_right);
    }

    still_by : (r : Rule) → l.rule ≡ r → Kind r → ReducesStill a d
    still_by r q (of_atom k) = atom_right rules p c ls d w l e a none g place reads (subst IsOfAtom (sym q) k)
    still_by _ q collects = collect_right rules p c ls d w l e a none g place reads q
    still_by r q (of_choice k) =
        let k1 : IsOfChoice l.rule = subst IsOfChoice (sym q) k in
        let n : (n : Name) × (l.alternative ≡ Some n) = names_one p a.makes.reading l.worker (slice_index c.next l.worker) l.rule g a.site a.change k1 l.alternative (change_here l.alternative refl) in
        guard_kept rules p c ls d w l e a none g n.0 k1 place n.1 list (record {
          goal = goal;
          now = first_right.applies.site;
          is_now = now;
          consistent = subst IsConsistent (same_whole first_right);
          unbound = λ bs m i j. (lists n.0 n.1 k1 bs m i j, λ x o h b. never_bound (whole a.site) x (subst (λ (E : Equations). IsNewlyBound (whole a.site) E x) (sym (same_whole first_right)) b));
        })

    still : ReducesStill a d
    still = still_by l.rule refl (kind_of l.rule kind)

    bound_there : AreBoundIn d still.right.result still.right.applies.site list
    bound_there = record {
      each = λ y m. binds_alike rules p c d l l e still.right.result good_c.stand good_d.stand a still.right.applies still.right.change still.right.before still.right.now (same_as still.right) y (bound.each y m);
      every = λ x b.
          let k : (y : Var) × IsAmong y list × Equal (outermost_equations a.site) (variable x) (variable y) =
          bound.every x (binds_alike rules p d c l l still.right.result e good_d.stand good_c.stand still.right.applies a still.right.change still.right.now still.right.before
          (record { around = sym (same_as still.right).around; content = sym (same_as still.right).content }) x b) in
          (k.0, k.1, subst (λ (E : Equations). Equal E (variable x) (variable k.0)) outermost k.2);
      oldest = subst (λ (E : Equations). HasOldest E list) outermost bound.oldest;
    }
      where
        outermost : outermost_equations a.site ≡ outermost_equations still.right.applies.site
        outermost = λ i. first_equations ((same_as still.right).around i ++ (same_as still.right).content i ∷ [])

    inner_plan : StaysRight a d list
    inner_plan = record {
      still = still;
      clash = (subst (λ (E : Equations). IsConsistent (E ++ still.told.equations)) (same_whole still.right), subst (λ (E : Equations). IsConsistent (E ++ still.told.equations)) (sym (same_whole still.right)));
      binds = λ result now. subst (λ (f : Found). AreBoundIn d result f list) (some_value (sym still.right.applies.is_site ∙ now.is_site))
          (subst (λ (k : Config). AreBoundIn d k still.right.applies.site list) (Applies-one still.right.applies now) bound_there);
    }

-- no label by the worker of another, by their numbers
pub none_of : (l : Label) (ls : List Label) → NoneBy l ls → NoneOf l.worker ls
none_of l [] n = tt
none_of l (k ∷ ks) n = (n.0, none_of l ks n.1)

module _ (rules : List Rule) (p : Program) (q : Query) (journal further : List Label) (c d : Config) (l : Label) (e : Config) (a : Applies rules p c l e) (r : Replays rules p q journal c) (v : Derives rules p c further d)
    (none : NoneBy l further) (g : Name) (kind : IsAtGoal l.rule) (place : l.place ≡ Place.Goal g) (list : List Var) (bound : AreBoundIn c e a.site list) where
  abbrev run : GoesOn rules p c further d
  run = record { query = q; journal = journal; replays = r; derives = v }

  abbrev U : Item → Type 0
  U = IsSeen rules p q (journal ++ further) (length journal)

  unchanged : (i : Item) (number : ℕ) → IsLastChange by_binding rules p q (journal ++ further) i number → number ≤ length journal → Unchanged rules p c further d v i
  unchanged i number last early = seen_unchanged rules p q journal further c d i number r v last early

  listed : ((x : Var) → IsAmong x list → IsOld c x.frame → U (Item.Binding x)) → (x : Var) → IsAmong x list → Unchanged rules p c further d v (Item.Binding x)
  listed bindings = listed_unchanged rules p q journal c l.worker (l ∷ []) e r (e, a, refl) (refl, tt) a.site (goal_site rules p c further d run l e a) list bound further d v (none_of l further none)
      (λ x i o. ((bindings x i o).number, (bindings x i o).last, (bindings x i o).early))

  pub seen : ReadsAt U c g a.site list → StaysRight a d list
  seen (in_root root goal store bindings) = items_plan rules p c further d run l e a none g kind place list bound (root_items rules p c further d run g a.site list root (unchanged (Item.Goal g) goal.number goal.last goal.early)
      (unchanged (Item.Store a.site.content.name) store.number store.last store.early) (listed bindings))
  seen (by_ends u) = items_plan rules p c further d run l e a none g kind place list bound (ends_items rules p q journal further c d r v g a.site list u (listed u.bindings))
  seen (inside goal sets) = inner_plan rules p c further d run l e a none g kind place list bound (unchanged (Item.Goal g) goal.number goal.last goal.early)
      (λ m i. unchanged (Item.Goals m) (sets m i).number (sets m i).last (sets m i).early)

pub seen_plan : (rules : List Rule) (p : Program) (q : Query) (journal further : List Label) (c d : Config) (l : Label) (e : Config) (a : Applies rules p c l e) → Replays rules p q journal c → Derives rules p c further d
    → NoneBy l further → (g : Name) → IsAtGoal l.rule → l.place ≡ Place.Goal g → (list : List Var) → AreBoundIn c e a.site list
    → ReadsAt (IsSeen rules p q (journal ++ further) (length journal)) c g a.site list → StaysRight a d list
seen_plan rules p q journal further c d l e a r v none g kind place list bound u = seen rules p q journal further c d l e a r v none g kind place list bound u
