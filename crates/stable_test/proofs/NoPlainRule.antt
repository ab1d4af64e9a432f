-- A rule other than Split may be used at a box, or at a goal directly in it, only where a label applies.
use Rattle.std.proofs.Common.{◌≡◌, ℕ, ◌<◌, ◌^◌, List, Option, Some, None, refl, sym, subst, arith}
use Rattle.std.specs.Prelude.{slice_index}
use Rattle.akl_terms.specs.declared.name.Name.{Name}
use Rattle.akl_terms.specs.declared.name.Place.{Place}
use Rattle.akl_terms.specs.declared.program.Program.{Program}
use Rattle.akl_model.specs.declared.label.Rule.{Rule}
use Rattle.akl_model.specs.declared.label.Label.{Label}
use Rattle.akl_model.specs.Config.{no_boxes, Config, Held, held_in, Found, box_at, site_of}
use Rattle.akl_model.specs.Rules.{Reading, nothing, Change, change_by}
use Rattle.akl_model.specs.Conditions.{AllowsPlain, Makes}
use Rattle.akl_model.specs.Stable.{Allows}
use Rattle.akl_model.specs.Derivations.{IsInForce, Applies, after}
use Rattle.akl_model.proofs.NamesKept.{Stand}
use Rattle.akl_model.proofs.RuleCases.{PlainCase, tells, forks, evaluates, opens, sends, fails, cuts, promotes, collects, Makes-plain}
use Rattle.step_laws.proofs.AgainIn.{other_next}
use Rattle.step_laws.proofs.Deeper.{home_found}

-- no rule in force other than Split applies at a place of a configuration
abbrev pub NoneAppliesAt : List Rule → Program → Config → Place → Type 0
NoneAppliesAt rules p c place = (l : Label) (d : Config) → Applies rules p c l d → l.place ≡ place → (l.rule ≡ Rule.Split → ⊥) → ⊥

pub not_plain : (p : Program) (v : Reading) (r : Rule) (place : Place) (a : Option Name) (f : Found) → AllowsPlain p v r place a f → r ≡ Rule.Split → ⊥
not_plain p v r place a f x e = subst (λ (k : Rule). AllowsPlain p v k place a f) e x

pub allowed_of : (p : Program) (v : Reading) (r : Rule) (place : Place) (a : Option Name) (f : Found) → AllowsPlain p v r place a f → Allows p v r place a f
allowed_of p v Rule.Split place a f x = absurd x
allowed_of p v Rule.Tell place a f x = x
allowed_of p v Rule.Fork place a f x = x
allowed_of p v Rule.Eval place a f x = x
allowed_of p v Rule.Open place a f x = x
allowed_of p v Rule.Send place a f x = x
allowed_of p v Rule.Fail place a f x = x
allowed_of p v Rule.Cut place a f x = x
allowed_of p v Rule.Promote place a f x = x
allowed_of p v Rule.Collect place a f x = x

pub plain_of : (p : Program) (v : Reading) (r : Rule) (place : Place) (a : Option Name) (f : Found) → (r ≡ Rule.Split → ⊥) → Allows p v r place a f → AllowsPlain p v r place a f
plain_of p v Rule.Split place a f n x = absurd (n refl)
plain_of p v Rule.Tell place a f n x = x
plain_of p v Rule.Fork place a f n x = x
plain_of p v Rule.Eval place a f n x = x
plain_of p v Rule.Open place a f n x = x
plain_of p v Rule.Send place a f n x = x
plain_of p v Rule.Fail place a f n x = x
plain_of p v Rule.Cut place a f n x = x
plain_of p v Rule.Promote place a f n x = x
plain_of p v Rule.Collect place a f n x = x

-- what a rule found at a goal's place is a goal directly in the box, and at a box's place it found that the box fails
case_goal : (p : Program) (w next : ℕ) (f : Found) (c : Change) (g : Name) → PlainCase p w next f c (Place.Goal g) → (h : Held) × (held_in g f.goals ≡ Some h)
case_goal p w next f c g (tells _ s t i e) = (_, i)
case_goal p w next f c g (forks _ d ts r k o i e u x) = (_, i)
case_goal p w next f c g (evaluates _ test l r a i x y e) = (_, i)
case_goal p w next f c g (opens _ r s i e) = (_, i)
case_goal p w next f c g (sends _ m r q k i x y z e) = (_, i)
case_goal p w next f c g (cuts _ n o bs i x e) = (_, i)
case_goal p w next f c g (promotes _ n o a i x y e) = (_, i)
case_goal p w next f c g (collects _ r bs a i x y e) = (_, i)

module _ (rules : List Rule) (all : (r : Rule) → IsInForce rules r) (p : Program) (c : Config) (s : Stand c) (f : Found) (there : box_at f.content.name c.roots ≡ Some f) where
  -- at a goal, by the configuration's own next numbers
  goal_applies : (g : Name) (h : Held) (l : Label) (next : ℕ) (ch : Change) → held_in g f.goals ≡ Some h → Makes (AllowsPlain p) p next l f ch → l.place ≡ Place.Goal g → (d : Config) × Applies rules p c l d
  goal_applies g h l next ch i m e =
      let w : (x : Change) × (change_by p m.reading l.worker (slice_index c.next l.worker) l.rule l.place l.alternative f ≡ Some x) × (x.drawn ≡ ch.drawn) =
      other_next p m.reading l.worker next (slice_index c.next l.worker) l.rule l.place l.alternative f ch m.change in (
        after c l f w.0,
        record {
          in_force = all l.rule;
          site = f;
          is_site = subst (λ (place : Place). site_of place c.roots ≡ Some f) (sym e) (home_found c.roots s.once g f.content.name f h there i);
          change = w.0;
          makes = record {
            reading = m.reading;
            change = w.1;
            allowed = allowed_of p m.reading l.rule l.place l.alternative f m.allowed;
            few_names = subst (λ (k : ℕ). k < 2 ^ 32) (sym w.2) m.few_names;
          };
          result = refl;
        },
      )

  abbrev failing : Label
  failing = record { rule = Rule.Fail; place = Place.Box f.content.name; alternative = None; worker = 0 }

  fail_applies : AllowsPlain p nothing Rule.Fail (Place.Box f.content.name) None f → (d : Config) × Applies rules p c (record { rule = Rule.Fail; place = Place.Box f.content.name; alternative = None; worker = 0 }) d
  fail_applies x = (
    after c failing f (record { boxes = no_boxes; drawn = 0 }),
    record {
      in_force = all Rule.Fail;
      site = f;
      is_site = there;
      change = record { boxes = no_boxes; drawn = 0 };
      makes = record { reading = nothing; change = refl; allowed = x; few_names = omega arith };
      result = refl;
    },
  )

  pub no_plain_rule : NoneAppliesAt rules p c (Place.Box f.content.name) → ((g : Name) (h : Held) → held_in g f.goals ≡ Some h → NoneAppliesAt rules p c (Place.Goal g))
      → (l : Label) (next : ℕ) (ch : Change) → Makes (AllowsPlain p) p next l f ch → ⊥
  no_plain_rule box goals l next ch m = on l.place refl (Makes-plain m)
    where
      at_box : (n : Name) → PlainCase p l.worker next f ch (Place.Box n) → ⊥
      at_box n (fails _ x e) = let w : (d : Config) × Applies rules p c (record { rule = Rule.Fail; place = Place.Box f.content.name; alternative = None; worker = 0 }) d = fail_applies x in box failing w.0 w.1 refl (λ q. cc)

      on : (place : Place) → l.place ≡ place → PlainCase p l.worker next f ch place → ⊥
      on (Place.Goal g) e k =
          let h : (h : Held) × (held_in g f.goals ≡ Some h) = case_goal p l.worker next f ch g k in
          let w : (d : Config) × Applies rules p c l d = goal_applies g h.0 l next ch h.1 m e in
          goals g h.0 h.1 l w.0 w.1 e (not_plain p m.reading l.rule l.place l.alternative f m.allowed)
      on (Place.Box n) e k = at_box n k
