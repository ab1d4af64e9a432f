-- A call at once: each label applies, and all together make the net change.
use Rattle.std.proofs.Common.{◌≡◌, ℕ, ◌+◌, ◌<◌, List, [], ◌∷◌, ◌++◌, length, Some, None, refl, sym, ◌∙◌, ap, subst, arith, append_assoc}
use Rattle.std.specs.Prelude.{slice_index}
use Rattle.akl_terms.specs.declared.name.Name.{Name}
use Rattle.akl_terms.specs.declared.name.Place.{Place}
use Rattle.akl_terms.specs.declared.program.Program.{Program}
use Rattle.akl_model.specs.declared.label.Rule.{Rule}
use Rattle.akl_model.specs.declared.label.Label.{Label}
use Rattle.akl_model.specs.Config.{Atom, Content, Boxes, no_boxes, box, Goals, no_goals, Config, a_choice, with_content, without_goal, Found, home_of}
use Rattle.akl_model.specs.Instances.{instances, drawn_by, with_atoms}
use Rattle.akl_model.specs.Rules.{nothing, becomes, joining, fork, fork_by, fork_as}
use Rattle.akl_model.specs.Derivations.{raised, Applies, Derives}
use Rattle.akl_model.specs.Changes.{box_names, Adds}
use Rattle.akl_model.specs.Names.{HasDistinctNames}
use Rattle.akl_model.proofs.Drawn.{times-instances}
use Rattle.akl_model.proofs.NamesKept.{Stand, stands_after}
use Rattle.akl_model.proofs.Results.{Derives-append}
use Rattle.plan_laws.specs.AtOnce.{by, with_named, Tells, IsAtOnce, labels_at_once, at_once, AreInForce}
use Rattle.plan_laws.specs.Untold.{KeepEquations}
use Rattle.plan_laws.proofs.Between.{stand_of}
use Rattle.plan_laws.proofs.CallAlternatives.{Calling, between, AreNew, Steps, steps_append, derived, stand_along, new_along, adds_none}
use Rattle.plan_laws.proofs.BodySteps.{Reduces, reduced, told}
use Rattle.plan_laws.proofs.CallEdits.{raised_own}
use Rattle.plan_laws.proofs.Sifted.{sifted, joined_to, promote_applies, promote_one, Ended, ended}

module _ (rules : List Rule) (force : AreInForce rules) (p : Program) (c : Config) (s : Stand c) (w : ℕ) (g : Name) (f : Found) (is_home : home_of g c.roots ≡ Some f) (x : IsAtOnce p c w g f) where
  abbrev pub calling : Calling
  calling = record {
    rules = rules;
    force = force;
    program = p;
    config = c;
    stand = s;
    worker = w;
    goal = g;
    home = f;
    is_home = is_home;
    body = Atom.call x.definition x.arguments None;
    held = x.held;
    op = x.op;
    drawn = drawn_by x.called.clauses;
  }

  abbrev pub forked : Boxes
  forked = instances p.templates.nodes w (slice_index c.next w) x.arguments x.called.clauses

  -- the call is forked
  pub fork_applies : Applies rules p c (by w Rule.Fork (Place.Goal g) None) (between calling forked)
  fork_applies = record {
    in_force = force.fork;
    site = f;
    is_site = is_home;
    change = becomes f.content (with_content g (a_choice x.op forked) f.goals) (drawn_by x.called.clauses);
    makes = record {
      reading = nothing;
      change = ap (fork p w (slice_index c.next w) g f) x.held ∙ ap (fork_by p w (slice_index c.next w) g x.arguments None f) x.is_called ∙ ap (fork_as p w (slice_index c.next w) g x.arguments x.called.clauses f) x.is_operator;
      allowed = tt;
      few_names = x.few_names;
    };
    result = refl;
  }

  pub fork_adds : (n : Name) → Adds c (between calling forked) n → ⊥
  unfolding fork_applies
  fork_adds = adds_none rules p c (by w Rule.Fork (Place.Goal g) None) (between calling forked) s fork_applies (λ b gs rest q. ap (λ (v : Content). v.equations) (sym (first q)))
    where
      first : {b : Content} {gs : Goals} {rest : Boxes} → box f.content (with_content g (a_choice x.op forked) f.goals) no_boxes ≡ box b gs rest → f.content ≡ b
      first q = cc

  pub forked_new : AreNew calling forked
  forked_new m h = subst (λ (k : ℕ). 0 < k) (times-instances p.templates.nodes m w (slice_index c.next w) x.arguments x.called.clauses) h

  pub forked_stand : Stand (between calling forked)
  forked_stand = stands_after rules p c (by w Rule.Fork (Place.Goal g) None) (between calling forked) s fork_applies

  -- the labels between the first and the last
  module _ (Claim : Type 0) (keeps : Claim → KeepEquations p w (slice_index c.next w + drawn_by x.called.clauses) f forked x.sift_labels x.left x.sifts) where
    sift_steps : Steps calling Claim forked x.sift_labels x.left
    sift_steps = sifted calling Claim no_boxes forked x.sift_labels x.left x.sifts keeps forked_stand forked_new

    pub end_steps : Ended calling Claim x.last x.left x.end_labels
    end_steps = ended calling Claim x.last x.left x.end_labels x.ends (stand_along calling Claim forked x.sift_labels x.left sift_steps forked_stand) (new_along calling Claim forked x.sift_labels x.left sift_steps forked_new)

    abbrev pub middle : List Label
    middle = x.sift_labels ++ end_steps.before

    pub steps : Steps calling Claim forked middle (box x.last no_goals no_boxes)
    steps = steps_append calling Claim forked x.sift_labels x.left end_steps.before (box x.last no_goals no_boxes) sift_steps end_steps.steps

    pub last_stand : Stand (between calling (box x.last no_goals no_boxes))
    last_stand = stand_along calling Claim forked middle (box x.last no_goals no_boxes) steps forked_stand

    pub last_new : AreNew calling (box x.last no_goals no_boxes)
    last_new = new_along calling Claim forked middle (box x.last no_goals no_boxes) steps forked_new

    pub promoted : Applies rules p (between calling (box x.last no_goals no_boxes)) (by w Rule.Promote (Place.Goal g) (Some x.last.name)) (joined_to calling x.last)
    promoted = promote_applies calling x.last last_stand end_steps.guard x.few_goals

    pub promoted_one : (box_names promoted.change.boxes ≡ promoted.site.content.name ∷ []) × (promoted.site.content.name ≡ f.content.name)
    unfolding promoted
    promoted_one = promote_one calling x.last last_stand end_steps.guard x.few_goals

    pub joined_stand : Stand (joined_to calling x.last)
    joined_stand = stands_after rules p (between calling (box x.last no_goals no_boxes)) (by w Rule.Promote (Place.Goal g) (Some x.last.name)) (joined_to calling x.last) last_stand promoted

    -- and those behind it
    pub behind : Reduces calling (drawn_by x.called.clauses + length x.last.body) (joining x.last f.content) (with_atoms w (slice_index c.next w + drawn_by x.called.clauses) x.last.body (without_goal g f.goals)) x.body_labels x.after
        (with_named x.goals_left (without_goal g f.goals))
    behind = told calling (drawn_by x.called.clauses + length x.last.body) (joining x.last f.content) (slice_index c.next w + drawn_by x.called.clauses) x.last.body x.body_labels x.after x.goals_left (without_goal g f.goals)
        (subst (λ (n : ℕ). Tells p w n f.around (joining x.last f.content) (slice_index c.next w + drawn_by x.called.clauses) x.last.body x.body_labels x.after x.goals_left) next x.body) refl joined_stand
      where
        next : slice_index c.next w + drawn_by x.called.clauses + length x.last.body ≡ slice_index (raised w (drawn_by x.called.clauses + length x.last.body) c.next) w
        next = let e : slice_index (raised w (drawn_by x.called.clauses + length x.last.body) c.next) w ≡ slice_index c.next w + (drawn_by x.called.clauses + length x.last.body) = raised_own w (drawn_by x.called.clauses + length x.last.body) c.next in omega arith

    pub all_labels : labels_at_once x ≡ by w Rule.Fork (Place.Goal g) None ∷ (middle ++ by w Rule.Promote (Place.Goal g) (Some x.last.name) ∷ x.body_labels)
    all_labels = ap (λ (ls : List Label). by w Rule.Fork (Place.Goal g) None ∷ ls) (ap (λ (ls : List Label). (x.sift_labels ++ ls) ++ x.body_labels) end_steps.labels
        ∙ ap (λ (ls : List Label). ls ++ x.body_labels) (sym (append_assoc x.sift_labels end_steps.before (by w Rule.Promote (Place.Goal g) (Some x.last.name) ∷ [])))
        ∙ append_assoc middle (by w Rule.Promote (Place.Goal g) (Some x.last.name) ∷ []) x.body_labels)

    pub derives : Derives rules p c (labels_at_once x) (at_once x)
    derives = subst (λ (ls : List Label). Derives rules p c ls (at_once x)) (sym all_labels) (
      between calling forked,
      fork_applies,
      Derives-append rules p (between calling forked) (between calling (box x.last no_goals no_boxes)) (at_once x) middle (by w Rule.Promote (Place.Goal g) (Some x.last.name) ∷ x.body_labels)
          (derived calling Claim forked middle (box x.last no_goals no_boxes) steps) (
            joined_to calling x.last,
            promoted,
            reduced calling (drawn_by x.called.clauses + length x.last.body) (joining x.last f.content) (with_atoms w (slice_index c.next w + drawn_by x.called.clauses) x.last.body (without_goal g f.goals)) x.body_labels x.after
                (with_named x.goals_left (without_goal g f.goals)) behind,
          ),
    )

pub at_once_law : (rules : List Rule) → AreInForce rules → (p : Program) (c : Config) → HasDistinctNames c → (w : ℕ) (g : Name) (f : Found) → home_of g c.roots ≡ Some f
    → (x : IsAtOnce p c w g f) → Derives rules p c (labels_at_once x) (at_once x)
at_once_law rules force p c distinct w g f is_home x = derives rules force p c (stand_of c distinct) w g f is_home x ⊥ (λ q. absurd q)
