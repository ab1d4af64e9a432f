-- What a rule makes of a box it makes of the box with other equations and in other boxes too, and draws as many names.
use Rattle.std.proofs.Common.{◌≡◌, ℕ, List, Option, Some, None, refl, ap}
use Rattle.akl_terms.specs.declared.name.Name.{Name}
use Rattle.akl_terms.specs.declared.name.Place.{Place}
use Rattle.akl_terms.specs.declared.program.Program.{Program}
use Rattle.akl_terms.specs.Equal.{Equations}
use Rattle.akl_model.specs.declared.label.Rule.{Rule}
use Rattle.akl_model.specs.Config.{Atom, Content, Goals, Held, an_atom, a_choice, held_in, Port, port_in, Found}
use Rattle.akl_model.specs.Rules.{Change, Reading, receiver, send_to, send_by, cut, ChoiceIn, choice_with, split_at, change_by}
use Rattle.akl_model.proofs.Options.{some_value}
use Rattle.step_laws.proofs.AgainIn.{tell_in, fork_in, eval_in, open_in, send_in, promote_in, collect_in}

module _ (p : Program) (old new : List Content) (b : Content) (gs : Goals) (F : Equations) where
  abbrev was : Found
  was = record { around = old; content = b; goals = gs }

  abbrev is : Found
  is = record { around = new; content = record b { equations = F }; goals = gs }

  cut_in : (g n : Name) (h : Option Held) (c : Change) → cut g n is h ≡ Some c → (x : Change) × (cut g n was h ≡ Some x) × (x.drawn ≡ c.drawn)
  cut_in g n (Some (a_choice o bs)) c i = (_, refl, ap (λ (y : Change). y.drawn) (some_value i))
  cut_in g n (Some (an_atom a)) c i = cc
  cut_in g n None c i = cc

  send_other : (w next : ℕ) (v : Reading) (g : Name) (h : Option Held) (c : Change) → send_by p w next v g is h ≡ Some c → (x : Change) × (send_by p w next v g was h ≡ Some x) × (x.drawn ≡ c.drawn)
  send_other w next (receiver q) g (Some (an_atom (Atom.send m r))) c i = on (port_in q b.ports) i
    where
      on : (o : Option Port) → send_to p w next g m is o ≡ Some c → (x : Change) × (send_to p w next g m was o ≡ Some x) × (x.drawn ≡ c.drawn)
      on None y = cc
      on (Some k) y = send_in p w next next g was is m k k c y
  send_other w next _ g _ c i = cc

  split_other : (w next : ℕ) (a : Name) (o : Option ChoiceIn) (c : Change) → split_at w next a is o ≡ Some c → (x : Change) × (split_at w next a was o ≡ Some x) × (x.drawn ≡ c.drawn)
  split_other w next a None c i = cc
  split_other w next a (Some k) c i = (_, refl, ap (λ (y : Change). y.drawn) (some_value i))

  pub change_other : (v : Reading) (w next : ℕ) (r : Rule) (place : Place) (alternative : Option Name) (c : Change) → change_by p v w next r place alternative is ≡ Some c
      → (x : Change) × (change_by p v w next r place alternative was ≡ Some x) × (x.drawn ≡ c.drawn)
  change_other v w next Rule.Tell (Place.Goal g) None c i = tell_in p w next next g was is (held_in g gs) c i
  change_other v w next Rule.Fork (Place.Goal g) None c i = fork_in p w next next g was is (held_in g gs) c i
  change_other v w next Rule.Eval (Place.Goal g) None c i = eval_in p w next next g was is v (held_in g gs) c i
  change_other v w next Rule.Open (Place.Goal g) None c i = open_in p w next next g was is (held_in g gs) c i
  change_other v w next Rule.Send (Place.Goal g) None c i = send_other w next v g (held_in g gs) c i
  change_other v w next Rule.Fail (Place.Box n) None c i = (_, refl, ap (λ (y : Change). y.drawn) (some_value i))
  change_other v w next Rule.Cut (Place.Goal g) (Some n) c i = cut_in g n (held_in g gs) c i
  change_other v w next Rule.Promote (Place.Goal g) (Some n) c i = promote_in p w next next g was is n (held_in g gs) c i
  change_other v w next Rule.Collect (Place.Goal g) None c i = collect_in p w next next g was is (held_in g gs) c i
  change_other v w next Rule.Split (Place.Box n) (Some a) c i = split_other w next a (choice_with a gs) c i
  change_other v w next Rule.Tell (Place.Goal g) (Some a) c i = cc
  change_other v w next Rule.Tell (Place.Box n) a c i = cc
  change_other v w next Rule.Fork (Place.Goal g) (Some a) c i = cc
  change_other v w next Rule.Fork (Place.Box n) a c i = cc
  change_other v w next Rule.Eval (Place.Goal g) (Some a) c i = cc
  change_other v w next Rule.Eval (Place.Box n) a c i = cc
  change_other v w next Rule.Open (Place.Goal g) (Some a) c i = cc
  change_other v w next Rule.Open (Place.Box n) a c i = cc
  change_other v w next Rule.Send (Place.Goal g) (Some a) c i = cc
  change_other v w next Rule.Send (Place.Box n) a c i = cc
  change_other v w next Rule.Fail (Place.Box n) (Some a) c i = cc
  change_other v w next Rule.Fail (Place.Goal g) a c i = cc
  change_other v w next Rule.Cut (Place.Goal g) None c i = cc
  change_other v w next Rule.Cut (Place.Box n) a c i = cc
  change_other v w next Rule.Promote (Place.Goal g) None c i = cc
  change_other v w next Rule.Promote (Place.Box n) a c i = cc
  change_other v w next Rule.Collect (Place.Goal g) (Some a) c i = cc
  change_other v w next Rule.Collect (Place.Box n) a c i = cc
  change_other v w next Rule.Split (Place.Box n) None c i = cc
  change_other v w next Rule.Split (Place.Goal g) a c i = cc
