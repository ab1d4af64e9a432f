-- An atom that is ready after a label that passes it by was ready before.
use Rattle.std.proofs.Common.{◌≡◌, ℕ, ◌+◌, ◌<◌, ◌^◌, List, Option, Some, None, refl, sym, ◌∙◌, ap, subst, ◌⊎◌, inl, inr, arith}
use Rattle.std.specs.Prelude.{slice_index}
use Rattle.akl_terms.specs.declared.name.Name.{Name}
use Rattle.akl_terms.specs.declared.name.Place.{Place}
use Rattle.akl_terms.specs.declared.program.Program.{Program}
use Rattle.akl_terms.specs.Tree.{port}
use Rattle.akl_terms.specs.Equal.{Equal, IsConsistent}
use Rattle.akl_model.specs.declared.label.Rule.{Rule}
use Rattle.akl_model.specs.declared.label.Label.{Label}
use Rattle.akl_model.specs.Config.{Atom, Config, Held, an_atom, held_in, Port, port_in, Found, whole, box_at, home_of}
use Rattle.akl_model.specs.Renaming.{port_names}
use Rattle.akl_model.specs.Rules.{Change, Reading, answer, receiver, tell, fork, eval, open_new, send_to, send_by, cut, promote, collect, change_by}
use Rattle.akl_model.specs.Conditions.{ComesTo, GoesTo}
use Rattle.akl_model.specs.Stable.{only, Allows}
use Rattle.akl_model.specs.Derivations.{Applies, IsReady}
use Rattle.akl_model.specs.Names.{times_in}
use Rattle.akl_model.proofs.Options.{some_value}
use Rattle.akl_model.proofs.Finds.{times, times_of, times_inside}
use Rattle.step_laws.proofs.Steps.{Moved, aside, at_site, inside}
use Rattle.step_laws.proofs.AgainIn.{tell_in, fork_in, eval_in, open_in, send_in}
use Rattle.step_laws.proofs.ReadyGoals.{Usable, ReadyGoal, ready_by, ready_goal}
use Rattle.plan_laws.proofs.InScope.{Good}
use Rattle.plan_laws.proofs.Moves.{old}
use Rattle.constraint_laws.proofs.LeavesKept.{LeavesKept}
use Rattle.plan_laws.proofs.AwaitedAtoms.{Covers, covered_none_bound, comes_before, goes_before}
use Rattle.plan_laws.proofs.Ports.{port_counted, port_found, port_either}

module _ (rules : List Rule) (p : Program) (c : Config) (l : Label) (d : Config) (w : Good c) (v : Good d) (a : Applies rules p c l d) (kept : List Rattle.akl_terms.specs.declared.name.Var.Var)
    (g : Name) (f k : Found) (n : Name) (fe : box_at n c.roots ≡ Some f) (move : Moved l.worker (slice_index c.next l.worker) a.site a.change f k)
    (leaves_kept : IsConsistent (whole k) → LeavesKept kept (whole f) (whole k)) (b : Atom) (hf : held_in g f.goals ≡ Some (an_atom b)) (hk : held_in g k.goals ≡ Some (an_atom b))
    (covers : IsConsistent (whole f) → Covers kept p b (whole f)) where
  was_consistent : IsConsistent (whole k) → IsConsistent (whole f)
  was_consistent still = Rattle.akl_terms.proofs.EqualLaws.IsConsistent-follows (Rattle.constraint_laws.proofs.Beside.follows_told (whole f) (whole k) (leaves_kept still).keeps) still

  -- a port of the box was one of it, where a term of the box was equal to it
  port_was : (q : Name) (r : Port) → port_in q k.content.ports ≡ Some r → ((0 < times_in q (port_names f.content.ports)) ⊎ ((times q (only f) ≡ 0) × (0 < times q c.roots))) → (x : Port) × (port_in q f.content.ports ≡ Some x)
  port_was q r e (inl y) = port_found q f.content.ports y
  port_was q r e (inr y) = on move
    where
      on : Moved l.worker (slice_index c.next l.worker) a.site a.change f k → (x : Port) × (port_in q f.content.ports ≡ Some x)
      on (aside x) = (r, subst (λ (b : Rattle.akl_model.specs.Config.Content). port_in q b.ports ≡ Some r) x.content e)
      on (inside u j i i2 s t) = (r, subst (λ (m : Found). port_in q m.content.ports ≡ Some r) (sym s) (subst (λ (m : Found). port_in q m.content.ports ≡ Some r) t e))
      on (at_site u s t) = elim (u.keeps.port q (port_counted q u.content.ports r (subst (λ (m : Found). port_in q m.content.ports ≡ Some r) t e))) [
        | inl z ↦ absurd (old rules p c l d w v a q y.1 z)
        | inr x ↦ elim x [
          | inl z ↦ port_found q f.content.ports (subst (λ (m : Found). 0 < times_in q (port_names m.content.ports)) (sym s) z)
          | inr z ↦
              let i : times_inside q f.goals ≡ times_inside q a.site.goals = ap (λ (m : Found). times_inside q m.goals) s in
              let o : times_of q f.content + (times_inside q f.goals + 0) ≡ 0 = y.0 in
              absurd (omega (arith, i, o, z))
        ]
      ]

  pub eval_before : (v : Reading) (h : Option Held) → h ≡ Some (an_atom b) → ComesTo p v k h → ComesTo p v f h
  eval_before (answer x) (Some (an_atom (Atom.arithmetic test t r))) e i =
      let q : an_atom (Atom.arithmetic test t r) ≡ an_atom b = some_value e in
      let u : Atom.arithmetic test t r ≡ b = cc in
      (was_consistent i.0, comes_before kept (whole f) (whole k) (leaves_kept i.0) i.0 p (covered_none_bound kept (whole f) (whole k) (leaves_kept i.0) i.0 p (Atom.arithmetic test t r) (subst (λ (y : Atom). Covers kept p y (whole f)) (sym u) (covers (was_consistent i.0)))) i.1)
  eval_before _ _ e i = absurd i

  pub send_before : (v : Reading) (h : Option Held) (worker next next2 : ℕ) (ch : Change) → h ≡ Some (an_atom b) → GoesTo v k h → send_by p worker next v g k h ≡ Some ch
      → GoesTo v f h × ((x : Change) × (send_by p worker next2 v g f h ≡ Some x) × (x.drawn ≡ ch.drawn))
  send_before (receiver q) (Some (an_atom (Atom.send m r))) worker next next2 ch e i s =
      let z : an_atom (Atom.send m r) ≡ an_atom b = some_value e in
      let u : Atom.send m r ≡ b = cc in
      let was : Equal (whole f) r (port q) = goes_before kept (whole f) (whole k) (leaves_kept i.0) i.0 p m r q (covered_none_bound kept (whole f) (whole k) (leaves_kept i.0) i.0 p (Atom.send m r) (subst (λ (y : Atom). Covers kept p y (whole f)) (sym u) (covers (was_consistent i.0)))) i.1 in
      ((was_consistent i.0, was), on (port_in q k.content.ports) refl s (port_either c w n f fe g m r (subst (λ (y : Atom). held_in g f.goals ≡ Some (an_atom y)) (sym u) hf) q was))
    where
      on : (o : Option Port) → port_in q k.content.ports ≡ o → send_to p worker next g m k o ≡ Some ch → ((0 < times_in q (port_names f.content.ports)) ⊎ ((times q (only f) ≡ 0) × (0 < times q c.roots)))
          → (x : Change) × (send_to p worker next2 g m f (port_in q f.content.ports) ≡ Some x) × (x.drawn ≡ ch.drawn)
      on None j t y = cc
      on (Some z) j t y =
          let mine : (x : Port) × (port_in q f.content.ports ≡ Some x) = port_was q z j y in
          let again : (x : Change) × (send_to p worker next2 g m f (Some mine.0) ≡ Some x) × (x.drawn ≡ ch.drawn) = send_in p worker next2 next g f k m z mine.0 ch t in
          (again.0, ap (send_to p worker next2 g m f) mine.1 ∙ again.1, again.2)
  send_before _ _ worker next next2 ch e i s = absurd i

  held_same : held_in g k.goals ≡ held_in g f.goals
  held_same = hk ∙ sym hf

  -- by each rule
  again : (u : Reading) (worker next next2 : ℕ) (r : Rule) (alternative : Option Name) (ch : Change) → change_by p u worker next r (Place.Goal g) alternative k ≡ Some ch → Allows p u r (Place.Goal g) alternative k → ch.drawn < 2 ^ 32
      → Usable p u worker next2 r g alternative f
  again u worker next next2 Rule.Tell None ch e i few =
      let x : (x : Change) × (tell g f (held_in g k.goals) ≡ Some x) × (x.drawn ≡ ch.drawn) = tell_in p worker next2 next g f k (held_in g k.goals) ch e in
      record { change = x.0; is_change = subst (λ (h : Option Held). tell g f h ≡ Some x.0) held_same x.1; allowed = tt; few_names = subst (λ (m : ℕ). m < 2 ^ 32) (sym x.2) few }
  again u worker next next2 Rule.Tell (Some n) ch e i few = cc
  again u worker next next2 Rule.Fork None ch e i few =
      let x : (x : Change) × (fork p worker next2 g f (held_in g k.goals) ≡ Some x) × (x.drawn ≡ ch.drawn) = fork_in p worker next2 next g f k (held_in g k.goals) ch e in
      record { change = x.0; is_change = subst (λ (h : Option Held). fork p worker next2 g f h ≡ Some x.0) held_same x.1; allowed = tt; few_names = subst (λ (m : ℕ). m < 2 ^ 32) (sym x.2) few }
  again u worker next next2 Rule.Fork (Some n) ch e i few = cc
  again u worker next next2 Rule.Eval None ch e i few =
      let x : (x : Change) × (eval u g f (held_in g k.goals) ≡ Some x) × (x.drawn ≡ ch.drawn) = eval_in p worker next2 next g f k u (held_in g k.goals) ch e in
      record {
        change = x.0;
        is_change = subst (λ (h : Option Held). eval u g f h ≡ Some x.0) held_same x.1;
        allowed = subst (λ (h : Option Held). ComesTo p u f h) held_same (eval_before u (held_in g k.goals) hk i);
        few_names = subst (λ (m : ℕ). m < 2 ^ 32) (sym x.2) few;
      }
  again u worker next next2 Rule.Eval (Some n) ch e i few = cc
  again u worker next next2 Rule.Open None ch e i few =
      let x : (x : Change) × (open_new worker next2 g f (held_in g k.goals) ≡ Some x) × (x.drawn ≡ ch.drawn) = open_in p worker next2 next g f k (held_in g k.goals) ch e in
      record { change = x.0; is_change = subst (λ (h : Option Held). open_new worker next2 g f h ≡ Some x.0) held_same x.1; allowed = tt; few_names = subst (λ (m : ℕ). m < 2 ^ 32) (sym x.2) few }
  again u worker next next2 Rule.Open (Some n) ch e i few = cc
  again u worker next next2 Rule.Send None ch e i few =
      let x : GoesTo u f (held_in g k.goals) × ((x : Change) × (send_by p worker next2 u g f (held_in g k.goals) ≡ Some x) × (x.drawn ≡ ch.drawn)) = send_before u (held_in g k.goals) worker next next2 ch hk i e in
      record {
        change = x.1.0;
        is_change = subst (λ (h : Option Held). send_by p worker next2 u g f h ≡ Some x.1.0) held_same x.1.1;
        allowed = subst (λ (h : Option Held). GoesTo u f h) held_same x.0;
        few_names = subst (λ (m : ℕ). m < 2 ^ 32) (sym x.1.2) few;
      }
  again u worker next next2 Rule.Send (Some n) ch e i few = cc
  again u worker next next2 Rule.Fail alternative ch e i few = cc
  again u worker next next2 Rule.Cut None ch e i few = cc
  again u worker next next2 Rule.Cut (Some n) ch e i few = let z : cut g n k (Some (an_atom b)) ≡ Some ch = subst (λ (h : Option Held). cut g n k h ≡ Some ch) hk e in cc
  again u worker next next2 Rule.Promote None ch e i few = cc
  again u worker next next2 Rule.Promote (Some n) ch e i few = let z : promote worker next g n k (Some (an_atom b)) ≡ Some ch = subst (λ (h : Option Held). promote worker next g n k h ≡ Some ch) hk e in cc
  again u worker next next2 Rule.Collect None ch e i few = let z : collect p worker next g k (Some (an_atom b)) ≡ Some ch = subst (λ (h : Option Held). collect p worker next g k h ≡ Some ch) hk e in cc
  again u worker next next2 Rule.Collect (Some n) ch e i few = cc
  again u worker next next2 Rule.Split alternative ch e i few = cc

  pub atom_ready_before : home_of g c.roots ≡ Some f → home_of g d.roots ≡ Some k → IsReady rules p d (Place.Goal g) → IsReady rules p c (Place.Goal g)
  atom_ready_before e i z =
      let x : ReadyGoal rules p d g k = ready_goal rules p d g k i z in
      ready_by rules p c g f x.label x.reading x.in_force e
      (again x.reading x.label.worker (slice_index d.next x.label.worker) (slice_index c.next x.label.worker) x.label.rule x.label.alternative x.usable.change x.usable.is_change x.usable.allowed x.usable.few_names)
