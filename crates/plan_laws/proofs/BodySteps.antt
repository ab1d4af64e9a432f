-- Behind the promotion goals of the body are reduced, in order.
use Rattle.std.proofs.Common.{◌≡◌, ℕ, ◌+◌, ◌≤◌, List, [], ◌∷◌, ◌++◌, length, Bool, true, false, Some, None, refl, sym, ◌∙◌, ap, subst, arith, append_assoc, append-nil}
use Rattle.std.proofs.lemmas.List.{length-append}
use Rattle.std.specs.Prelude.{if◌then◌else◌, slice_index}
use Rattle.akl_terms.specs.declared.name.Name.{Name}
use Rattle.akl_terms.specs.declared.name.Place.{Place}
use Rattle.akl_terms.specs.declared.program.Program.{Program}
use Rattle.akl_terms.specs.Arithmetic.{value, truth}
use Rattle.akl_terms.specs.Names.{same_name}
use Rattle.akl_terms.specs.Equal.{Equations}
use Rattle.akl_terms.specs.Tree.{integer}
use Rattle.akl_terms.proofs.SameNames.{same_name-refl}
use Rattle.akl_model.specs.declared.label.Rule.{Rule}
use Rattle.akl_model.specs.declared.label.Label.{Label}
use Rattle.akl_model.specs.Config.{Atom, Content, no_boxes, box, Goals, no_goals, atom, Config, Held, an_atom, held_in, with_goal, without_goal, Found, home_of, edited}
use Rattle.akl_model.specs.Instances.{with_atoms}
use Rattle.akl_model.specs.Rules.{Reading, answer, Change, becomes, telling, tell, eval}
use Rattle.akl_model.specs.Conditions.{ComesTo, Makes}
use Rattle.akl_model.specs.Changes.{box_names}
use Rattle.akl_model.specs.Derivations.{raised, Applies, Derives}
use Rattle.akl_model.specs.Names.{one_if}
use Rattle.akl_model.specs.Stable.{Allows, only, frames_inside}
use Rattle.akl_model.proofs.Options.{some_value}
use Rattle.akl_model.proofs.Finds.{times, times_of, times_inside, times-edited}
use Rattle.akl_model.proofs.Drawn.{drawn_times, times-with_atoms}
use Rattle.akl_model.proofs.NamesKept.{Stand, stands_after}
use Rattle.akl_model.proofs.ScopesAlong.{times_path}
use Rattle.step_laws.proofs.GoalEdits.{goal_first}
use Rattle.step_laws.proofs.Whereabouts.{in_counted, in_home, home_of-none}
use Rattle.plan_laws.specs.AtOnce.{by, IsOfGuard, with_named, Tells, finishes, leaves, tells, holds}
use Rattle.plan_laws.proofs.Between.{was_found, stands_now}
use Rattle.plan_laws.proofs.CallAlternatives.{Calling, in_force}
use Rattle.plan_laws.proofs.BodyGoals.{named, first_held, first_goes, frames_atoms}
use Rattle.plan_laws.proofs.CallEdits.{raised_twice, edited_twice}

-- the call's box with other content and goals, and the configuration with it, where the worker has drawn so many names
abbrev pub home_with : Calling → Content → Goals → Found
home_with k b gs = record { around = k.home.around; content = b; goals = gs }

abbrev pub homed : Calling → ℕ → Content → Goals → Config
homed k m b gs = record { roots = edited k.home.content.name (box b gs no_boxes) k.config.roots; next = raised k.worker m k.config.next }

-- a label by which a goal goes from this box, and draws no names
pub record IsReduction (k : Calling) (m : ℕ) (b : Content) (gs : Goals) (l : Label) (b1 : Content) (gs1 : Goals) : Type 0 where
  pub applies : Applies k.rules k.program (homed k m b gs) l (homed k m b1 gs1)
  pub site : applies.site ≡ home_with k b gs
  pub one : box_names applies.change.boxes ≡ k.home.content.name ∷ []
  pub drawn : applies.change.drawn ≡ 0
  pub goal : Name
  pub place : l.place ≡ Place.Goal goal
  pub held : Held
  pub is_held : held_in goal gs ≡ Some held
  pub gone : home_of goal (homed k m b1 gs1).roots ≡ None
  pub name : b1.name ≡ b.name
  pub frames : b1.frames ≡ b.frames
  pub inside : frames_inside gs1 ≡ frames_inside gs

-- many such labels
pub data Reduces (k : Calling) (m : ℕ) : Content → Goals → List Label → Content → Goals → Type 0 where
  rests : (b : Content) (gs : Goals) → Reduces k m b gs [] b gs
  reduces : (b : Content) (gs : Goals) (l : Label) (b1 : Content) (gs1 : Goals) (ls : List Label) (b2 : Content) (gs2 : Goals) → IsReduction k m b gs l b1 gs1 → Reduces k m b1 gs1 ls b2 gs2 → Reduces k m b gs (l ∷ ls) b2 gs2

pub reduced : (k : Calling) (m : ℕ) (b : Content) (gs : Goals) (ls : List Label) (b2 : Content) (gs2 : Goals) → Reduces k m b gs ls b2 gs2 → Derives k.rules k.program (homed k m b gs) ls (homed k m b2 gs2)
reduced k m _ _ _ _ _ (rests b gs) = refl
reduced k m _ _ _ _ _ (reduces b gs l b1 gs1 ls b2 gs2 x y) = (homed k m b1 gs1, x.applies, reduced k m b1 gs1 ls b2 gs2 y)

pub stand_reduced : (k : Calling) (m : ℕ) (b : Content) (gs : Goals) (ls : List Label) (b2 : Content) (gs2 : Goals) → Reduces k m b gs ls b2 gs2 → Stand (homed k m b gs) → Stand (homed k m b2 gs2)
stand_reduced k m _ _ _ _ _ (rests b gs) s = s
stand_reduced k m _ _ _ _ _ (reduces b gs l b1 gs1 ls b2 gs2 x y) s = stand_reduced k m b1 gs1 ls b2 gs2 y (stands_after k.rules k.program (homed k m b gs) l (homed k m b1 gs1) s x.applies)

-- a label that takes a goal away makes no difference between the goals that stand besides

one_held : (i : Name) (a : Atom) → held_in i (atom i a no_goals) ≡ Some (an_atom a)
one_held i a = goal_first i i (an_atom a) None (same_name-refl i)

same_change : (b c : Content) (gs hs : Goals) → Some (becomes b gs 0) ≡ Some (becomes c hs 0) → (b ≡ c) × (gs ≡ hs)
same_change b c gs hs e = let q : box b gs no_boxes ≡ box c hs no_boxes = ap (λ (v : Change). v.boxes) (some_value e) in (cc, cc)

tell_among : (i : Name) (a : Atom) (f : Found) (b1 : Content) (G : Goals) → tell i f (Some (an_atom a)) ≡ Some (becomes b1 no_goals 0) → tell i (record f { goals = G }) (Some (an_atom a)) ≡ Some (becomes b1 (without_goal i G) 0)
tell_among i (Atom.equation s t) f b1 G e = ap (λ (b : Content). Some (becomes b (without_goal i G) 0)) (same_change (telling s t f.content) b1 (without_goal i f.goals) no_goals e).0
tell_among i (Atom.arithmetic test l r) f b1 G e = cc
tell_among i (Atom.open_port l r) f b1 G e = cc
tell_among i (Atom.send l r) f b1 G e = cc
tell_among i (Atom.call d ts r) f b1 G e = cc
tell_among i Atom.fail f b1 G e = cc

not_left : (i : Name) (a : Atom) (t : Bool) (b b1 : Content) → t ≡ true → Some (becomes b (if t then atom i Atom.fail no_goals else atom i a no_goals) 0) ≡ Some (becomes b1 no_goals 0) → ⊥
not_left i a true b b1 q e = let z : atom i Atom.fail no_goals ≡ no_goals = (same_change b b1 (atom i Atom.fail no_goals) no_goals e).1 in absurd cc
not_left i a false b b1 q e = let z : atom i a no_goals ≡ no_goals = (same_change b b1 (atom i a no_goals) no_goals e).1 in absurd cc

eval_among : (v : Reading) (i : Name) (a : Atom) (around : List Content) (b b1 : Content) (G : Goals) → eval v i (record { around = around; content = b; goals = atom i a no_goals }) (Some (an_atom a)) ≡ Some (becomes b1 no_goals 0)
    → eval v i (record { around = around; content = b; goals = G }) (Some (an_atom a)) ≡ Some (becomes b1 (without_goal i G) 0)
eval_among (answer (value z)) i (Atom.arithmetic test l r) around b b1 G e = ap (λ (k : Content). Some (becomes k (without_goal i G) 0)) (same_change (telling l (integer z) b) b1 (without_goal i (atom i (Atom.arithmetic test l r) no_goals)) no_goals e).0
eval_among (answer (truth true)) i (Atom.arithmetic test l r) around b b1 G e = ap (λ (k : Content). Some (becomes k (without_goal i G) 0)) (same_change b b1 (without_goal i (atom i (Atom.arithmetic test l r) no_goals)) no_goals e).0
eval_among (answer (truth false)) i (Atom.arithmetic test l r) around b b1 G e = absurd (not_left i (Atom.arithmetic test l r) (same_name i i) b b1 (same_name-refl i) e)
eval_among _ i _ around b b1 G e = cc

comes_among : (p : Program) (v : Reading) (a : Atom) (around : List Content) (b : Content) (gs hs : Goals) → ComesTo p v (record { around = around; content = b; goals = gs }) (Some (an_atom a)) → ComesTo p v (record { around = around; content = b; goals = hs }) (Some (an_atom a))
comes_among p (answer z) (Atom.arithmetic test l r) around b gs hs x = x
comes_among p _ _ around b gs hs x = absurd x

pub makes_among : (p : Program) (w next : ℕ) (r : Rule) (i : Name) (a : Atom) (around : List Content) (b b1 : Content) (G : Goals) → IsOfGuard r → held_in i G ≡ Some (an_atom a)
    → Makes (Allows p) p next (by w r (Place.Goal i) None) (record { around = around; content = b; goals = atom i a no_goals }) (becomes b1 no_goals 0)
    → Makes (Allows p) p next (by w r (Place.Goal i) None) (record { around = around; content = b; goals = G }) (becomes b1 (without_goal i G) 0)
makes_among p w next Rule.Tell i a around b b1 G guard held m = record {
  reading = m.reading;
  change = ap (tell i (record { around = around; content = b; goals = G })) held
      ∙ tell_among i a (record { around = around; content = b; goals = atom i a no_goals }) b1 G (sym (ap (tell i (record { around = around; content = b; goals = atom i a no_goals })) (one_held i a)) ∙ m.change);
  allowed = tt;
  few_names = m.few_names;
}
makes_among p w next Rule.Eval i a around b b1 G guard held m = record {
  reading = m.reading;
  change = ap (eval m.reading i (record { around = around; content = b; goals = G })) held
      ∙ eval_among m.reading i a around b b1 G (sym (ap (eval m.reading i (record { around = around; content = b; goals = atom i a no_goals })) (one_held i a)) ∙ m.change);
  allowed = subst (ComesTo p m.reading (record { around = around; content = b; goals = G })) (sym held)
      (comes_among p m.reading a around b (atom i a no_goals) G (subst (ComesTo p m.reading (record { around = around; content = b; goals = atom i a no_goals })) (one_held i a) m.allowed));
  few_names = m.few_names;
}
makes_among p w next _ i a around b b1 G guard held m = absurd guard

-- a label that tells nothing evaluates a goal, and none takes a goal that fails

tells_something : (i : Name) (a : Atom) (f : Found) → tell i f (Some (an_atom a)) ≡ Some (becomes f.content no_goals 0) → ⊥
tells_something i (Atom.equation s t) f e =
    let q : telling s t f.content ≡ f.content = (same_change (telling s t f.content) f.content (without_goal i f.goals) no_goals e).0 in
    let n : length (f.content.equations ++ record { left = s; right = t } ∷ []) ≡ length f.content.equations = ap (λ (b : Content). length b.equations) q in
    let m : length (f.content.equations ++ record { left = s; right = t } ∷ []) ≡ length f.content.equations + 1 = length-append f.content.equations (record { left = s; right = t } ∷ []) in
    omega arith
tells_something i (Atom.arithmetic test l r) f e = cc
tells_something i (Atom.open_port l r) f e = cc
tells_something i (Atom.send l r) f e = cc
tells_something i (Atom.call d ts r) f e = cc
tells_something i Atom.fail f e = cc

pub holds_by : (p : Program) (w next : ℕ) (r : Rule) (i : Name) (a : Atom) (around : List Content) (b : Content) → IsOfGuard r
    → Makes (Allows p) p next (by w r (Place.Goal i) None) (record { around = around; content = b; goals = atom i a no_goals }) (becomes b no_goals 0) → r ≡ Rule.Eval
holds_by p w next Rule.Tell i a around b guard m =
    absurd (tells_something i a (record { around = around; content = b; goals = atom i a no_goals }) (sym (ap (tell i (record { around = around; content = b; goals = atom i a no_goals })) (one_held i a)) ∙ m.change))
holds_by p w next Rule.Eval i a around b guard m = refl
holds_by p w next _ i a around b guard m = absurd guard

eval_fail : (v : Reading) (i : Name) (f : Found) → eval v i f (Some (an_atom Atom.fail)) ≡ None
eval_fail (answer (value z)) i f = refl
eval_fail (answer (truth true)) i f = refl
eval_fail (answer (truth false)) i f = refl
eval_fail _ i f = refl

pub unfailed : (p : Program) (w next : ℕ) (r : Rule) (i : Name) (a : Atom) (around : List Content) (b b1 : Content) → IsOfGuard r
    → Makes (Allows p) p next (by w r (Place.Goal i) None) (record { around = around; content = b; goals = atom i a no_goals }) (becomes b1 no_goals 0) → a ≡ Atom.fail → ⊥
unfailed p w next Rule.Tell i a around b b1 guard m e =
    let q : tell i (record { around = around; content = b; goals = atom i a no_goals }) (Some (an_atom a)) ≡ Some (becomes b1 no_goals 0) = sym (ap (tell i (record { around = around; content = b; goals = atom i a no_goals })) (one_held i a)) ∙ m.change in
    let z : None ≡ Some (becomes b1 no_goals 0) = ap (λ (c : Atom). tell i (record { around = around; content = b; goals = atom i a no_goals }) (Some (an_atom c))) (sym e) ∙ q in
    cc
unfailed p w next Rule.Eval i a around b b1 guard m e =
    let q : eval m.reading i (record { around = around; content = b; goals = atom i a no_goals }) (Some (an_atom a)) ≡ Some (becomes b1 no_goals 0) =
    sym (ap (eval m.reading i (record { around = around; content = b; goals = atom i a no_goals })) (one_held i a)) ∙ m.change in
    let z : None ≡ Some (becomes b1 no_goals 0) = sym (eval_fail m.reading i (record { around = around; content = b; goals = atom i a no_goals }))
    ∙ ap (λ (c : Atom). eval m.reading i (record { around = around; content = b; goals = atom i a no_goals }) (Some (an_atom c))) (sym e) ∙ q in
    cc
unfailed p w next _ i a around b b1 guard m e = absurd guard

-- the first of the goals of a body that are left to look at goes
module _ (k : Calling) (m : ℕ) (b : Content) (n : ℕ) (a : Atom) (rest : List Atom) (gs : Goals) (its : b.name ≡ k.home.content.name) (s : Stand (homed k m b (with_atoms k.worker n (a ∷ rest) gs))) where
  abbrev i : Name
  i = named k.worker n

  abbrev G : Goals
  G = with_atoms k.worker n (a ∷ rest) gs

  itself : one_if (same_name i i) ≡ 1
  itself = ap one_if (same_name-refl i)

  counted : times_inside i (with_atoms k.worker n (a ∷ rest) gs) ≡ times_inside i gs + drawn_times i k.worker n (length (a ∷ rest))
  counted = times-with_atoms i k.worker n (a ∷ rest) gs

  at_home : times i (box b (with_atoms k.worker n (a ∷ rest) gs) no_boxes) + times_path i k.home.around ≤ times i (homed k m b (with_atoms k.worker n (a ∷ rest) gs)).roots
  at_home = in_counted i k.home.around b G (homed k m b G).roots (stands_now k.config k.stand k.goal k.home k.is_home b G)

  once : times_inside i (with_atoms k.worker n (a ∷ rest) gs) ≤ 1
  once =
      let x : times i (box b (with_atoms k.worker n (a ∷ rest) gs) no_boxes) ≡ times_of i b + (times_inside i (with_atoms k.worker n (a ∷ rest) gs) + 0) = refl in
      let y : times i (box b (with_atoms k.worker n (a ∷ rest) gs) no_boxes) + times_path i k.home.around ≤ times i (homed k m b (with_atoms k.worker n (a ∷ rest) gs)).roots = at_home in
      let z : times i (homed k m b (with_atoms k.worker n (a ∷ rest) gs)).roots ≤ 1 = s.once i in
      omega arith

  nowhere : times_inside i gs ≡ 0
  nowhere =
      let x : times_inside i (with_atoms k.worker n (a ∷ rest) gs) ≤ 1 = once in
      let y : times_inside i (with_atoms k.worker n (a ∷ rest) gs) ≡ times_inside i gs + drawn_times i k.worker n (length (a ∷ rest)) = counted in
      let u : drawn_times i k.worker n (length (a ∷ rest)) ≡ one_if (same_name i i) + drawn_times i k.worker (n + 1) (length rest) = refl in
      let v : one_if (same_name i i) ≡ 1 = itself in
      omega arith

  held : held_in i (with_atoms k.worker n (a ∷ rest) gs) ≡ Some (an_atom a)
  held = first_held k.worker n a rest gs nowhere

  -- with this content afterwards
  module _ (r : Rule) (b1 : Content) (name : b1.name ≡ b.name) (frames : b1.frames ≡ b.frames) (counts : times_of i b1 ≡ times_of i b) (guard : IsOfGuard r)
      (makes : Makes (Allows k.program) k.program (slice_index (raised k.worker m k.config.next) k.worker) (by k.worker r (Place.Goal i) None) (record { around = k.home.around; content = b; goals = atom i a no_goals }) (becomes b1 no_goals 0)) where
    leads : Applies k.rules k.program (homed k m b (with_atoms k.worker n (a ∷ rest) gs)) (by k.worker r (Place.Goal i) None) (homed k m b1 (with_atoms k.worker (n + 1) rest gs))
    leads = record {
      in_force = in_force k.rules k.force r guard;
      site = home_with k b G;
      is_site = in_home i (an_atom a) (homed k m b G).roots (home_with k b G) s.once (stands_now k.config k.stand k.goal k.home k.is_home b G) held;
      change = becomes b1 (without_goal i G) 0;
      makes = makes_among k.program k.worker (slice_index (raised k.worker m k.config.next) k.worker) r i a k.home.around b b1 G guard held makes;
      result = λ j. record { roots = roots_after j; next = next_after j };
    }
      where
        roots_after : edited b.name (box b1 (without_goal i (with_atoms k.worker n (a ∷ rest) gs)) no_boxes) (homed k m b (with_atoms k.worker n (a ∷ rest) gs)).roots ≡ (homed k m b1 (with_atoms k.worker (n + 1) rest gs)).roots
        roots_after = ap (λ (v : Name). edited v (box b1 (without_goal i G) no_boxes) (homed k m b G).roots) its
            ∙ edited_twice k.home.content.name b G (box b1 (without_goal i G) no_boxes) (subst (λ (v : Name). same_name k.home.content.name v ≡ true) (sym its) (same_name-refl k.home.content.name)) k.config.roots
            ∙ ap (λ (H : Goals). edited k.home.content.name (box b1 H no_boxes) k.config.roots) (first_goes k.worker n a rest gs nowhere)

        next_after : raised k.worker 0 (raised k.worker m k.config.next) ≡ raised k.worker m k.config.next
        next_after = raised_twice k.worker m 0 k.config.next ∙ (let e : m + 0 ≡ m = omega arith in ap (λ (v : ℕ). raised k.worker v k.config.next) e)

    gone : home_of i (homed k m b1 (with_atoms k.worker (n + 1) rest gs)).roots ≡ None
    gone = home_of-none i (homed k m b1 (with_atoms k.worker (n + 1) rest gs)).roots (
        let was : times i (homed k m b (with_atoms k.worker n (a ∷ rest) gs)).roots + times i (only k.home) ≡ times i k.config.roots + times i (box b (with_atoms k.worker n (a ∷ rest) gs) no_boxes) =
        times-edited i k.home.content.name (box b G no_boxes) k.config.roots k.home (k.stand.once k.home.content.name) (was_found k.config k.stand k.goal k.home k.is_home) in
        let is : times i (homed k m b1 (with_atoms k.worker (n + 1) rest gs)).roots + times i (only k.home) ≡ times i k.config.roots + times i (box b1 (with_atoms k.worker (n + 1) rest gs) no_boxes) =
        times-edited i k.home.content.name (box b1 (with_atoms k.worker (n + 1) rest gs) no_boxes) k.config.roots k.home (k.stand.once k.home.content.name) (was_found k.config k.stand k.goal k.home k.is_home) in
        let x : times i (box b (with_atoms k.worker n (a ∷ rest) gs) no_boxes) ≡ times_of i b + (times_inside i (with_atoms k.worker n (a ∷ rest) gs) + 0) = refl in
        let y : times i (box b1 (with_atoms k.worker (n + 1) rest gs) no_boxes) ≡ times_of i b1 + (times_inside i (with_atoms k.worker (n + 1) rest gs) + 0) = refl in
        let u : times_inside i (with_atoms k.worker n (a ∷ rest) gs) ≡ times_inside i gs + drawn_times i k.worker n (length (a ∷ rest)) = counted in
        let v : times_inside i (with_atoms k.worker (n + 1) rest gs) ≡ times_inside i gs + drawn_times i k.worker (n + 1) (length rest) = times-with_atoms i k.worker (n + 1) rest gs in
        let t : drawn_times i k.worker n (length (a ∷ rest)) ≡ one_if (same_name i i) + drawn_times i k.worker (n + 1) (length rest) = refl in
        let z : one_if (same_name i i) ≡ 1 = itself in
        let o : times i (homed k m b (with_atoms k.worker n (a ∷ rest) gs)).roots ≤ 1 = s.once i in
        let c : times_of i b1 ≡ times_of i b = counts in
        omega arith)

    pub reduction : IsReduction k m b (with_atoms k.worker n (a ∷ rest) gs) (by k.worker r (Place.Goal i) None) b1 (with_atoms k.worker (n + 1) rest gs)
    unfolding leads
    reduction = record {
      applies = leads;
      site = refl;
      one = ap (λ (v : Name). v ∷ []) (name ∙ its);
      drawn = refl;
      goal = i;
      place = refl;
      held = an_atom a;
      is_held = held;
      gone = gone;
      name = name;
      frames = frames;
      inside = frames_atoms k.worker (n + 1) rest gs ∙ sym (frames_atoms k.worker n (a ∷ rest) gs);
    }

pub told : (k : Calling) (m : ℕ) (b : Content) (n : ℕ) (body : List Atom) (ls : List Label) (b2 : Content) (left : List (Name × Atom)) (gs : Goals)
    → Tells k.program k.worker (slice_index (raised k.worker m k.config.next) k.worker) k.home.around b n body ls b2 left → b.name ≡ k.home.content.name → Stand (homed k m b (with_atoms k.worker n body gs))
    → Reduces k m b (with_atoms k.worker n body gs) ls b2 (with_named left gs)
told k m _ _ _ _ _ _ gs (finishes b n) its s = rests b gs
told k m _ _ _ _ _ _ gs (leaves b n a rest ls b2 left x) its s = told k m b (n + 1) rest ls b2 left (with_goal (named k.worker n) (an_atom a) gs) x its s
told k m _ _ _ _ _ _ gs (tells r b n a u v rest ls b2 left guard makes x) its s =
    let y : IsReduction k m b (with_atoms k.worker n (a ∷ rest) gs) (by k.worker r (Place.Goal (named k.worker n)) None) (telling u v b) (with_atoms k.worker (n + 1) rest gs) = reduction k m b n a rest gs its s r (telling u v b) refl refl refl guard makes in
    reduces b (with_atoms k.worker n (a ∷ rest) gs) (by k.worker r (Place.Goal (named k.worker n)) None) (telling u v b) (with_atoms k.worker (n + 1) rest gs) ls b2 (with_named left gs) y
    (told k m (telling u v b) (n + 1) rest ls b2 left gs x its (stands_after k.rules k.program (homed k m b (with_atoms k.worker n (a ∷ rest) gs)) (by k.worker r (Place.Goal (named k.worker n)) None) (homed k m (telling u v b) (with_atoms k.worker (n + 1) rest gs)) s y.applies))
told k m _ _ _ _ _ _ gs (holds r b n a rest ls b2 left guard makes x) its s =
    let y : IsReduction k m b (with_atoms k.worker n (a ∷ rest) gs) (by k.worker r (Place.Goal (named k.worker n)) None) b (with_atoms k.worker (n + 1) rest gs) = reduction k m b n a rest gs its s r b refl refl refl guard makes in
    reduces b (with_atoms k.worker n (a ∷ rest) gs) (by k.worker r (Place.Goal (named k.worker n)) None) b (with_atoms k.worker (n + 1) rest gs) ls b2 (with_named left gs) y
    (told k m b (n + 1) rest ls b2 left gs x its (stands_after k.rules k.program (homed k m b (with_atoms k.worker n (a ∷ rest) gs)) (by k.worker r (Place.Goal (named k.worker n)) None) (homed k m b (with_atoms k.worker (n + 1) rest gs)) s y.applies))

-- the content keeps its name, and there are no new frames
pub name_reduced : (k : Calling) (m : ℕ) (b : Content) (gs : Goals) (ls : List Label) (b2 : Content) (gs2 : Goals) → Reduces k m b gs ls b2 gs2 → b2.name ≡ b.name
name_reduced k m _ _ _ _ _ (rests b gs) = refl
name_reduced k m _ _ _ _ _ (reduces b gs l b1 gs1 ls b2 gs2 x y) = name_reduced k m b1 gs1 ls b2 gs2 y ∙ x.name

pub frames_reduced : (k : Calling) (m : ℕ) (b : Content) (gs : Goals) (ls : List Label) (b2 : Content) (gs2 : Goals) → Reduces k m b gs ls b2 gs2 → b2.frames ++ (frames_inside gs2 ++ []) ≡ b.frames ++ (frames_inside gs ++ [])
frames_reduced k m _ _ _ _ _ (rests b gs) = refl
frames_reduced k m _ _ _ _ _ (reduces b gs l b1 gs1 ls b2 gs2 x y) = frames_reduced k m b1 gs1 ls b2 gs2 y ∙ (λ i. x.frames i ++ (x.inside i ++ []))

-- what labels of a body tell
module _ (p : Program) (w next : ℕ) (around : List Content) where
  pub record ToldMore (b b2 : Content) : Type 0 where
    pub more : Equations
    pub equations : b2.equations ≡ b.equations ++ more
    pub frames : b2.frames ≡ b.frames
    pub ports : b2.ports ≡ b.ports

  pub told_more : (b : Content) (n : ℕ) (body : List Atom) (ls : List Label) (b2 : Content) (left : List (Name × Atom)) → Tells p w next around b n body ls b2 left → ToldMore b b2
  told_more _ _ _ _ _ _ (finishes b n) = record { more = []; equations = sym (append-nil b.equations); frames = refl; ports = refl }
  told_more _ _ _ _ _ _ (leaves b n a rest ls b2 left y) = told_more b (n + 1) rest ls b2 left y
  told_more _ _ _ _ _ _ (tells r b n a s t rest ls b2 left guard makes y) =
      let z : ToldMore _ b2 = told_more _ (n + 1) rest ls b2 left y in
      record { more = record { left = s; right = t } ∷ z.more; equations = z.equations ∙ append_assoc b.equations (record { left = s; right = t } ∷ []) z.more; frames = z.frames; ports = z.ports }
  told_more _ _ _ _ _ _ (holds r b n a rest ls b2 left guard makes y) = told_more b (n + 1) rest ls b2 left y
