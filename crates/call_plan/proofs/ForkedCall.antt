-- The configuration after the fork of a call: its alternatives keep apart from what is around them.
use Rattle.std.proofs.Common.{◌≡◌, ℕ, ◌<◌, ◌^◌, List, [], ◌∷◌, ◌++◌, Some, None, refl, ◌∙◌, ap}
use Rattle.std.specs.Prelude.{slice_index, slice_get}
use Rattle.akl_terms.specs.declared.name.Name.{Name}
use Rattle.akl_terms.specs.declared.name.Place.{Place}
use Rattle.akl_terms.specs.declared.program.Definition.{Definition}
use Rattle.akl_terms.specs.declared.program.Program.{Program}
use Rattle.akl_terms.specs.declared.program.Query.{Query}
use Rattle.akl_terms.specs.Tree.{Tree}
use Rattle.akl_terms.specs.Touching.{IsOutside}
use Rattle.constraint_laws.specs.Growth.{TellsOver}
use Rattle.akl_model.specs.declared.label.Rule.{Rule}
use Rattle.akl_model.specs.declared.label.Label.{Label}
use Rattle.akl_model.specs.Config.{Atom, Operator, Content, Boxes, Goals, Config, an_atom, a_choice, held_in, with_content, Found, environment, box_at, home_of}
use Rattle.akl_model.specs.Instances.{instances, drawn_by}
use Rattle.akl_model.specs.Rules.{nothing, becomes, operator_of, fork, fork_by, fork_as}
use Rattle.akl_model.specs.Stable.{only, frames_of}
use Rattle.akl_model.specs.Derivations.{raised, Applies, Replays}
use Rattle.akl_model.proofs.NamesKept.{Stand, replay-stands}
use Rattle.akl_model.proofs.Results.{Derives-append}
use Rattle.akl_model.proofs.ScopesKept.{around_outside}
use Rattle.step_laws.specs.Whereabouts.{BoxIn}
use Rattle.step_laws.proofs.Deeper.{in_deeper, named_found}
use Rattle.step_laws.proofs.GoalEdits.{held_inside}
use Rattle.plan_laws.specs.AtOnce.{inner, by, AreInForce}
use Rattle.plan_laws.specs.Between.{with_choice}
use Rattle.plan_laws.proofs.CallAlternatives.{Calling, between}
use Rattle.plan_laws.proofs.Between.{stands, is_choice}

module _ (rules : List Rule) (force : AreInForce rules) (p : Program) (q : Query) (journal : List Label) (c : Config) (replays : Replays rules p q journal c) (w : ℕ) (g : Name) (f : Found) (is_home : home_of g c.roots ≡ Some f)
    (number : ℕ) (arguments : List Tree) (held : held_in g f.goals ≡ Some (an_atom (Atom.call number arguments None))) (d : Definition) (is_definition : slice_get p.definitions number ≡ Some d)
    (op : Operator) (operator : operator_of d.op None ≡ Some op) (few : drawn_by d.clauses < 2 ^ 32) where
  abbrev calling : Calling
  calling = record {
    rules = rules;
    force = force;
    program = p;
    config = c;
    stand = replay-stands rules p q journal c replays;
    worker = w;
    goal = g;
    home = f;
    is_home = is_home;
    body = Atom.call number arguments None;
    held = held;
    op = op;
    drawn = drawn_by d.clauses;
  }

  abbrev forked : Boxes
  forked = instances p.templates.nodes w (slice_index c.next w) arguments d.clauses

  abbrev label : Label
  label = by w Rule.Fork (Place.Goal g) None

  forks : Applies rules p c label (between calling forked)
  forks = record {
    in_force = force.fork;
    site = f;
    is_site = is_home;
    change = becomes f.content (with_content g (a_choice op forked) f.goals) (drawn_by d.clauses);
    makes = record {
      reading = nothing;
      change = ap (fork p w (slice_index c.next w) g f) held ∙ ap (fork_by p w (slice_index c.next w) g arguments None f) is_definition ∙ ap (fork_as p w (slice_index c.next w) g arguments d.clauses f) operator;
      allowed = tt;
      few_names = few;
    };
    result = refl;
  }

  forked_replays : Replays rules p q (journal ++ label ∷ []) (between calling forked)
  forked_replays = record { derives = Derives-append rules p _ c (between calling forked) journal (label ∷ []) replays.derives (between calling forked, forks, refl) }

  forked_stand : Stand (between calling forked)
  forked_stand = replay-stands rules p q (journal ++ label ∷ []) (between calling forked) forked_replays

  -- an alternative is there
  there : (b : Content) (gs : Goals) → BoxIn [] b gs forked → box_at b.name (between calling forked).roots ≡ Some (inner f b gs)
  there b gs h = named_found (between calling forked).roots forked_stand.once b.name (inner f b gs)
      (in_deeper f.around f.content (with_choice f g op forked).goals [] b gs (between calling forked).roots
      (stands c calling.stand g f is_home calling.body held op forked (raised w (drawn_by d.clauses) c.next))
      (held_inside g op forked [] b gs (with_choice f g op forked).goals (is_choice c calling.stand g f is_home calling.body held op forked (raised w (drawn_by d.clauses) c.next)) h)) refl

  -- what is told around it is over other frames
  pub apart : (b : Content) (gs : Goals) → BoxIn [] b gs forked → TellsOver (IsOutside (frames_of (only (inner f b gs)))) (environment (inner f b gs))
  apart b gs h = around_outside rules p q (journal ++ label ∷ []) (between calling forked) b.name (inner f b gs) forked_replays (there b gs h)
