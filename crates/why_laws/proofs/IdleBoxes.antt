-- Boxes in which no rule may be used: each that stands where no rule in force applies.
use Rattle.std.proofs.Common.{◌≡◌, ℕ, ◌<◌, ◌^◌, List, Option, Some, None, refl, sym, ◌∙◌, subst, ◌⊎◌, inl, inr, arith}
use Rattle.std.specs.Prelude.{slice_index}
use Rattle.akl_terms.specs.declared.name.Name.{Name}
use Rattle.akl_terms.specs.declared.name.Place.{Place}
use Rattle.akl_terms.specs.declared.program.Program.{Program}
use Rattle.akl_terms.specs.Equal.{IsConsistent}
use Rattle.akl_terms.specs.Decided.{Contradicts}
use Rattle.akl_model.specs.declared.label.Rule.{Rule}
use Rattle.akl_model.specs.declared.label.Label.{Label}
use Rattle.akl_model.specs.Config.{no_boxes, Config, Held, held_in, Found, whole, box_at, site_of}
use Rattle.akl_model.specs.Rules.{Reading, nothing, Change, change_by}
use Rattle.akl_model.specs.Conditions.{AllowsPlain, Makes}
use Rattle.akl_model.specs.Stable.{Allows}
use Rattle.akl_model.specs.Derivations.{IsInForce, NothingApplies, after}
use Rattle.akl_model.proofs.NamesKept.{Stand}
use Rattle.akl_model.proofs.QuietEnds.{clash_not}
use Rattle.akl_model.proofs.RuleCases.{PlainCase, tells, forks, evaluates, opens, sends, cuts, promotes, collects, SplitCase, Makes-case}
use Rattle.constraint_laws.proofs.Decided.{consistent_or}
use Rattle.step_laws.specs.Whereabouts.{Stands}
use Rattle.step_laws.proofs.AgainIn.{other_next}
use Rattle.step_laws.proofs.Whereabouts.{in_found}
use Rattle.step_laws.proofs.Deeper.{home_found}
use Rattle.why_laws.specs.Sound.{IsIdle}

-- where a rule other than Split may be used a rule may be used
allowed_of : (p : Program) (v : Reading) (r : Rule) (place : Place) (a : Option Name) (f : Found) → AllowsPlain p v r place a f → Allows p v r place a f
allowed_of p v Rule.Split place a f x = absurd x
allowed_of p v Rule.Tell place a f x = x
allowed_of p v Rule.Fork place a f x = x
allowed_of p v Rule.Eval place a f x = x
allowed_of p v Rule.Open place a f x = x
allowed_of p v Rule.Send place a f x = x
allowed_of p v Rule.Fail place a f x = x
allowed_of p v Rule.Cut place a f x = x
allowed_of p v Rule.Promote place a f x = x
allowed_of p v Rule.Collect place a f x = x

pub no_plain : (p : Program) (f : Found) → IsIdle p f → (l : Label) (next : ℕ) (c : Change) → Makes (AllowsPlain p) p next l f c → ⊥
no_plain p f i l next c k = i.none l next c (record { reading = k.reading; change = k.change; allowed = allowed_of p k.reading l.rule l.place l.alternative f k.allowed; few_names = k.few_names })

-- what a rule found at a goal's place is a goal directly in the box
goal_there : (p : Program) (w next : ℕ) (f : Found) (c : Change) (g : Name) → PlainCase p w next f c (Place.Goal g) → (h : Held) × (held_in g f.goals ≡ Some h)
goal_there p w next f c g (tells _ s t i e) = (_, i)
goal_there p w next f c g (forks _ d ts r k o i e u x) = (_, i)
goal_there p w next f c g (evaluates _ test l r a i x y e) = (_, i)
goal_there p w next f c g (opens _ r s i e) = (_, i)
goal_there p w next f c g (sends _ m r q k i x y z e) = (_, i)
goal_there p w next f c g (cuts _ n o bs i x e) = (_, i)
goal_there p w next f c g (promotes _ n o a i x y e) = (_, i)
goal_there p w next f c g (collects _ r bs a i x y e) = (_, i)

-- at the place of a box a rule looks at the box alone, whatever name the place has
change_renamed : (p : Program) (v : Reading) (w next : ℕ) (r : Rule) (n k : Name) (a : Option Name) (f : Found) (c : Change) → change_by p v w next r (Place.Box n) a f ≡ Some c → change_by p v w next r (Place.Box k) a f ≡ Some c
change_renamed p v w next Rule.Fail n k None f c e = e
change_renamed p v w next Rule.Split n k (Some a) f c e = e
change_renamed p v w next Rule.Fail n k (Some a) f c e = cc
change_renamed p v w next Rule.Split n k None f c e = cc
change_renamed p v w next Rule.Tell n k a f c e = cc
change_renamed p v w next Rule.Fork n k a f c e = cc
change_renamed p v w next Rule.Eval n k a f c e = cc
change_renamed p v w next Rule.Open n k a f c e = cc
change_renamed p v w next Rule.Send n k a f c e = cc
change_renamed p v w next Rule.Cut n k a f c e = cc
change_renamed p v w next Rule.Promote n k a f c e = cc
change_renamed p v w next Rule.Collect n k a f c e = cc

allows_renamed : (p : Program) (v : Reading) (r : Rule) (n k : Name) (a : Option Name) (f : Found) → Allows p v r (Place.Box n) a f → Allows p v r (Place.Box k) a f
allows_renamed p v Rule.Tell n k a f x = tt
allows_renamed p v Rule.Fork n k a f x = tt
allows_renamed p v Rule.Open n k a f x = tt
allows_renamed p v Rule.Fail n k a f x = x
allows_renamed p v Rule.Split n k (Some a) f x = x
allows_renamed p v Rule.Split n k None f x = absurd x
allows_renamed p v Rule.Eval n k a f x = absurd x
allows_renamed p v Rule.Send n k a f x = absurd x
allows_renamed p v Rule.Cut n k a f x = absurd x
allows_renamed p v Rule.Promote n k a f x = absurd x
allows_renamed p v Rule.Collect n k a f x = absurd x

module _ (rules : List Rule) (all : (r : Rule) → IsInForce rules r) (p : Program) (c : Config) (s : Stand c) (quiet : NothingApplies rules p c) (f : Found) (stands : Stands f c.roots) where
  there : box_at f.content.name c.roots ≡ Some f
  there = in_found c.roots f s.once stands

  -- by the configuration's own next numbers
  at_place : (place : Place) → site_of place c.roots ≡ Some f → (v : Reading) (w next : ℕ) (r : Rule) (a : Option Name) (ch : Change) → change_by p v w next r place a f ≡ Some ch → Allows p v r place a f → ch.drawn < 2 ^ 32 → ⊥
  at_place place site v w next r a ch e x few =
      let l : Label = record { rule = r; place = place; alternative = a; worker = w } in
      let z : (y : Change) × (change_by p v w (slice_index c.next w) r place a f ≡ Some y) × (y.drawn ≡ ch.drawn) = other_next p v w next (slice_index c.next w) r place a f ch e in
      quiet.none (record { rule = r; place = place; alternative = a; worker = w }) (after c (record { rule = r; place = place; alternative = a; worker = w }) f z.0) (record {
        in_force = all r;
        site = f;
        is_site = site;
        change = z.0;
        makes = record { reading = v; change = z.1; allowed = x; few_names = subst (λ (k : ℕ). k < 2 ^ 32) (sym z.2) few };
        result = refl;
      })

  at_goal : (l : Label) (next : ℕ) (ch : Change) → Makes (Allows p) p next l f ch → (g : Name) → l.place ≡ Place.Goal g → PlainCase p l.worker next f ch l.place ⊎ SplitCase p l.worker next f ch l.place l.alternative → ⊥
  at_goal l next ch m g e (inr k) = let z : Place.Goal g ≡ Place.Box k.name = sym e ∙ k.is_place in cc
  at_goal l next ch m g e (inl k) =
      let h : (h : Held) × (held_in g f.goals ≡ Some h) = goal_there p l.worker next f ch g (subst (PlainCase p l.worker next f ch) e k) in
      at_place l.place (subst (λ (place : Place). site_of place c.roots ≡ Some f) (sym e) (home_found c.roots s.once g f.content.name f h.0 there h.1)) m.reading l.worker next l.rule l.alternative ch m.change m.allowed m.few_names

  at_box : (l : Label) (next : ℕ) (ch : Change) → Makes (Allows p) p next l f ch → (n : Name) → l.place ≡ Place.Box n → ⊥
  at_box l next ch m n e = at_place (Place.Box f.content.name) there m.reading l.worker next l.rule l.alternative ch
      (change_renamed p m.reading l.worker next l.rule n f.content.name l.alternative f ch (subst (λ (place : Place). change_by p m.reading l.worker next l.rule place l.alternative f ≡ Some ch) e m.change))
      (allows_renamed p m.reading l.rule n f.content.name l.alternative f (subst (λ (place : Place). Allows p m.reading l.rule place l.alternative f) e m.allowed)) m.few_names

  pub is_idle : IsIdle p f
  is_idle = record { none = λ l next ch m. on l next ch m l.place refl }
    where
      on : (l : Label) (next : ℕ) (ch : Change) → Makes (Allows p) p next l f ch → (place : Place) → l.place ≡ place → ⊥
      on l next ch m (Place.Goal g) e = at_goal l next ch m g e (Makes-case m)
      on l next ch m (Place.Box n) e = at_box l next ch m n e

-- such a box is consistent
pub idle_consistent : (p : Program) (f : Found) → IsIdle p f → IsConsistent (whole f)
idle_consistent p f i = on (consistent_or (whole f))
  where
    on : IsConsistent (whole f) ⊎ Contradicts (whole f) → IsConsistent (whole f)
    on (inl k) = k
    on (inr k) = absurd (i.none (record { rule = Rule.Fail; place = Place.Box f.content.name; alternative = None; worker = 0 }) 0 (record { boxes = no_boxes; drawn = 0 })
        (record { reading = nothing; change = refl; allowed = inl (clash_not (whole f) k); few_names = omega arith }))
