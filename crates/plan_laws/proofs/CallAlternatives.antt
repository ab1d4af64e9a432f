-- The alternatives of a call between its labels: some fail, and goals of their guards are reduced.
use Rattle.std.proofs.Common.{◌≡◌, ℕ, ◌+◌, ◌≤◌, ◌<◌, List, [], ◌∷◌, ◌++◌, Bool, true, false, Some, None, refl, sym, ◌∙◌, ap, subst, inl, arith}
use Rattle.std.specs.Prelude.{slice_index}
use Rattle.akl_terms.specs.declared.name.Name.{Name}
use Rattle.akl_terms.specs.declared.name.Place.{Place}
use Rattle.akl_terms.specs.declared.program.Program.{Program}
use Rattle.akl_terms.specs.Names.{same_name}
use Rattle.akl_terms.proofs.SameNames.{same_name-refl}
use Rattle.akl_model.specs.declared.label.Rule.{Rule}
use Rattle.akl_model.specs.declared.label.Label.{Label}
use Rattle.akl_model.specs.Config.{Atom, Operator, Content, Boxes, no_boxes, box, Goals, Config, Held, an_atom, a_choice, held_in, with_content, joined_boxes, Found, home_of, edited}
use Rattle.akl_model.specs.Rules.{nothing}
use Rattle.akl_model.specs.Conditions.{Makes}
use Rattle.akl_model.specs.Stable.{Allows, only}
use Rattle.akl_model.specs.Derivations.{IsInForce, raised, Applies, Derives}
use Rattle.akl_model.specs.Changes.{Adds}
use Rattle.akl_model.specs.Names.{one_if}
use Rattle.akl_model.proofs.Finds.{times, times_of, times_inside, times-joined, box_at-none, box_inside-none}
use Rattle.akl_model.proofs.Drawn.{drawn_times}
use Rattle.akl_model.proofs.NamesKept.{Stand, added, stands_after, box-itself}
use Rattle.akl_model.proofs.ScopesAlong.{times_path}
use Rattle.step_laws.specs.Whereabouts.{Stands}
use Rattle.step_laws.proofs.Whereabouts.{found_in, in_found, in_home, held_counted}
use Rattle.step_laws.proofs.Deeper.{in_deeper}
use Rattle.step_laws.proofs.Edits.{joined_right}
use Rattle.step_laws.proofs.GoalEdits.{held_inside}
use Rattle.step_laws.proofs.Steps.{Moved, aside, at_site, inside, moved}
use Rattle.plan_laws.specs.AtOnce.{inner, Fails, by, IsOfGuard, AreInForce}
use Rattle.plan_laws.specs.Between.{with_choice, choosing}
use Rattle.plan_laws.proofs.Between.{counted, unknown, stands, is_choice, counts, once}
use Rattle.plan_laws.proofs.CallEdits.{raised_own, raised_twice, edited_within, content_edited, edited_among}

-- an atom g of the box f in a configuration, which a label of the worker makes a choice by so many new names
pub record Calling : Type 0 where
  pub rules : List Rule
  pub force : AreInForce rules
  pub program : Program
  pub config : Config
  pub stand : Stand config
  pub worker : ℕ
  pub goal : Name
  pub home : Found
  pub is_home : home_of goal config.roots ≡ Some home
  pub body : Atom
  pub held : held_in goal home.goals ≡ Some (an_atom body)
  pub op : Operator
  pub drawn : ℕ

-- the configuration with these alternatives
abbrev pub between : Calling → Boxes → Config
between k bs = choosing k.config k.home k.goal k.op bs (raised k.worker k.drawn k.config.next)

-- a name is one of those that are drawn
abbrev pub IsNewName : Calling → Name → Type 0
IsNewName k m = 0 < drawn_times m k.worker (slice_index k.config.next k.worker) k.drawn

-- the names in the alternatives are new
abbrev pub AreNew : Calling → Boxes → Type 0
AreNew k bs = (m : Name) → 0 < times m bs → IsNewName k m

-- the goal itself, or a place of a new name
pub data IsPassing (k : Calling) : Place → Type 0 where
  its_goal : IsPassing k (Place.Goal k.goal)
  new_goal : (m : Name) → IsNewName k m → IsPassing k (Place.Goal m)
  new_box : (m : Name) → IsNewName k m → IsPassing k (Place.Box m)

-- labels lead from some alternatives to others, and by the claim none adds equations to a box that stays
pub data Steps (k : Calling) (Claim : Type 0) : Boxes → List Label → Boxes → Type 0 where
  stops : (bs : Boxes) → Steps k Claim bs [] bs
  goes : (l : Label) (bs cs : Boxes) (ls : List Label) (ds : Boxes) → AreNew k cs → IsPassing k l.place → Applies k.rules k.program (between k bs) l (between k cs)
      → (Claim → (n : Name) → Adds (between k bs) (between k cs) n → ⊥) → Steps k Claim cs ls ds → Steps k Claim bs (l ∷ ls) ds

pub steps_append : (k : Calling) (Claim : Type 0) (bs : Boxes) (ls : List Label) (cs : Boxes) (ks : List Label) (ds : Boxes) → Steps k Claim bs ls cs → Steps k Claim cs ks ds → Steps k Claim bs (ls ++ ks) ds
steps_append k Claim _ _ _ ks ds (stops bs) y = y
steps_append k Claim _ _ _ ks ds (goes l bs cs ls es new at a none x) y = goes l bs cs (ls ++ ks) ds new at a none (steps_append k Claim cs ls es ks ds x y)

pub derived : (k : Calling) (Claim : Type 0) (bs : Boxes) (ls : List Label) (cs : Boxes) → Steps k Claim bs ls cs → Derives k.rules k.program (between k bs) ls (between k cs)
derived k Claim _ _ _ (stops bs) = refl
derived k Claim _ _ _ (goes l bs cs ls ds new at a none x) = (between k cs, a, derived k Claim cs ls ds x)

pub stand_along : (k : Calling) (Claim : Type 0) (bs : Boxes) (ls : List Label) (cs : Boxes) → Steps k Claim bs ls cs → Stand (between k bs) → Stand (between k cs)
stand_along k Claim _ _ _ (stops bs) s = s
stand_along k Claim _ _ _ (goes l bs cs ls ds new at a none x) s = stand_along k Claim cs ls ds x (stands_after k.rules k.program (between k bs) l (between k cs) s a)

pub new_along : (k : Calling) (Claim : Type 0) (bs : Boxes) (ls : List Label) (cs : Boxes) → Steps k Claim bs ls cs → AreNew k bs → AreNew k cs
new_along k Claim _ _ _ (stops bs) h = h
new_along k Claim _ _ _ (goes l bs cs ls ds new at a none x) h = new_along k Claim cs ls ds x new

-- a label adds no equations where it adds none to the box of its place
pub adds_none : (rules : List Rule) (p : Program) (c : Config) (l : Label) (d : Config) (s : Stand c) (a : Applies rules p c l d)
    → ((b : Content) (gs : Goals) (rest : Boxes) → a.change.boxes ≡ box b gs rest → b.equations ≡ a.site.content.equations) → (n : Name) → Adds c d n → ⊥
adds_none rules p c l d s a keeps n x =
    on (moved rules p c l d s a x.before x.afterwards (found_in n c.roots x.before x.was) (found_in n d.roots x.afterwards x.is) (sym (box-itself n c.roots x.before x.was) ∙ box-itself n d.roots x.afterwards x.is))
  where
    on : Moved l.worker (slice_index c.next l.worker) a.site a.change x.before x.afterwards → ⊥
    on (aside m) = x.more (ap (λ (b : Content). b.equations) m.content)
    on (at_site b q r) = x.more (ap (λ (u : Found). u.content.equations) r ∙ keeps b.content b.goals b.rest b.is_change ∙ sym (ap (λ (u : Found). u.content.equations) q))
    on (inside b j i m q r) = x.more (ap (λ (u : Found). u.content.equations) r ∙ sym (ap (λ (u : Found). u.content.equations) q))

pub in_force : (rules : List Rule) → AreInForce rules → (r : Rule) → IsOfGuard r → IsInForce rules r
in_force rules force Rule.Tell x = force.tell
in_force rules force Rule.Eval x = force.eval
in_force rules force _ x = absurd x

not_same : (t : Bool) → one_if t ≤ 0 → t ≡ false
not_same true h = absurd (omega arith)
not_same false h = refl

-- a label that draws no names
pub next_after : (k : Calling) → raised k.worker 0 (raised k.worker k.drawn k.config.next) ≡ raised k.worker k.drawn k.config.next
next_after k = raised_twice k.worker k.drawn 0 k.config.next ∙ (let e : k.drawn + 0 ≡ k.drawn = omega arith in ap (λ (n : ℕ). raised k.worker n k.config.next) e)

-- an alternative is edited
module _ (k : Calling) (pre : Boxes) (b : Content) (gs : Goals) (rest : Boxes) (s : Stand (between k (joined_boxes pre (box b gs rest)))) (new : AreNew k (joined_boxes pre (box b gs rest))) where
  abbrev all : Boxes
  all = joined_boxes pre (box b gs rest)

  its : one_if (same_name b.name b.name) ≡ 1
  its = ap one_if (same_name-refl b.name)

  split : times b.name (joined_boxes pre (box b gs rest)) ≡ times b.name pre + times b.name (box b gs rest)
  split = times-joined b.name pre (box b gs rest)

  pub named : IsNewName k b.name
  named = new b.name (
      let u : times b.name (joined_boxes pre (box b gs rest)) ≡ times b.name pre + times b.name (box b gs rest) = split in
      let v : one_if (same_name b.name b.name) ≡ 1 = its in
      omega arith)

  nowhere : times b.name k.config.roots ≡ 0
  nowhere = unknown k.config k.stand k.goal k.home k.is_home k.worker k.drawn b.name named

  alone : times b.name (joined_boxes pre (box b gs rest)) ≤ 1
  alone = once k.config k.stand k.goal k.home k.is_home k.body k.held k.op (joined_boxes pre (box b gs rest)) (raised k.worker k.drawn k.config.next) s b.name

  pub stands_inner : Stands (inner k.home b gs) (between k (joined_boxes pre (box b gs rest))).roots
  stands_inner = in_deeper k.home.around k.home.content (with_choice k.home k.goal k.op all).goals [] b gs (between k all).roots
      (stands k.config k.stand k.goal k.home k.is_home k.body k.held k.op all (raised k.worker k.drawn k.config.next))
      (held_inside k.goal k.op all [] b gs (with_choice k.home k.goal k.op all).goals (is_choice k.config k.stand k.goal k.home k.is_home k.body k.held k.op all (raised k.worker k.drawn k.config.next))
      (joined_right [] b gs pre (box b gs rest) (inl (refl, refl, refl))))

  other : same_name b.name k.home.content.name ≡ false
  other = not_same (same_name b.name k.home.content.name) (
      let a : times b.name (only k.home) + times_path b.name k.home.around ≤ times b.name k.config.roots = counted k.config k.stand k.goal k.home k.is_home b.name in
      let u : times b.name k.config.roots ≡ 0 = nowhere in
      omega arith)

  not_inside : times_inside b.name k.home.goals ≡ 0
  not_inside =
      let a : times b.name (only k.home) + times_path b.name k.home.around ≤ times b.name k.config.roots = counted k.config k.stand k.goal k.home k.is_home b.name in
      let u : times b.name k.config.roots ≡ 0 = nowhere in
      omega arith

  not_before : times b.name pre ≡ 0
  not_before =
      let a : times b.name (joined_boxes pre (box b gs rest)) ≤ 1 = alone in
      let u : times b.name (joined_boxes pre (box b gs rest)) ≡ times b.name pre + times b.name (box b gs rest) = split in
      let v : one_if (same_name b.name b.name) ≡ 1 = its in
      omega arith

  not_after : times b.name rest ≡ 0
  not_after =
      let a : times b.name (joined_boxes pre (box b gs rest)) ≤ 1 = alone in
      let u : times b.name (joined_boxes pre (box b gs rest)) ≡ times b.name pre + times b.name (box b gs rest) = split in
      let v : one_if (same_name b.name b.name) ≡ 1 = its in
      omega arith

  roots_after : (bs : Boxes) → edited b.name bs (between k (joined_boxes pre (box b gs rest))).roots ≡ (between k (joined_boxes pre (joined_boxes bs rest))).roots
  roots_after bs = edited_within k.home.content.name b.name k.home.content (with_choice k.home k.goal k.op all).goals bs other k.config.roots (box_at-none b.name k.config.roots nowhere)
      ∙ ap (λ (G : Goals). edited k.home.content.name (box k.home.content G no_boxes) k.config.roots)
      (content_edited bs b.name k.goal k.op all k.home.goals (box_inside-none b.name k.home.goals not_inside)
      ∙ ap (λ (cs : Boxes). with_content k.goal (a_choice k.op cs) k.home.goals) (edited_among bs b gs rest pre (box_at-none b.name pre not_before) (box_at-none b.name rest not_after)))

  -- it fails
  pub fail_applies : Fails (inner k.home b gs) → Applies k.rules k.program (between k (joined_boxes pre (box b gs rest))) (by k.worker Rule.Fail (Place.Box b.name) None) (between k (joined_boxes pre rest))
  fail_applies why = record {
    in_force = k.force.fail;
    site = inner k.home b gs;
    is_site = in_found (between k all).roots (inner k.home b gs) s.once stands_inner;
    change = record { boxes = no_boxes; drawn = 0 };
    makes = record { reading = nothing; change = refl; allowed = why; few_names = omega arith };
    result = λ i. record { roots = roots_after no_boxes i; next = next_after k i };
  }

  pub new_after : AreNew k (joined_boxes pre rest)
  new_after m h = new m (
      let u : times m (joined_boxes pre (box b gs rest)) ≡ times m pre + times m (box b gs rest) = times-joined m pre (box b gs rest) in
      let v : times m (joined_boxes pre rest) ≡ times m pre + times m rest = times-joined m pre rest in
      let y : times m (box b gs rest) ≡ times_of m b + (times_inside m gs + times m rest) = refl in
      omega arith)

  pub fail_adds : Fails (inner k.home b gs) → (n : Name) → Adds (between k (joined_boxes pre (box b gs rest))) (between k (joined_boxes pre rest)) n → ⊥
  unfolding fail_applies
  fail_adds why = adds_none k.rules k.program (between k all) (by k.worker Rule.Fail (Place.Box b.name) None) (between k (joined_boxes pre rest)) s (fail_applies why) (λ d hs cs q. cc)

  -- a goal of its guard is reduced
  module _ (r : Rule) (i : Name) (h : Held) (b1 : Content) (gs1 : Goals) (guard : IsOfGuard r) (held_inner : held_in i gs ≡ Some h)
      (makes : Makes (Allows k.program) k.program (slice_index k.config.next k.worker + k.drawn) (by k.worker r (Place.Goal i) None) (inner k.home b gs) (record { boxes = box b1 gs1 no_boxes; drawn = 0 })) where
    pub work_applies : Applies k.rules k.program (between k (joined_boxes pre (box b gs rest))) (by k.worker r (Place.Goal i) None) (between k (joined_boxes pre (box b1 gs1 rest)))
    work_applies = record {
      in_force = in_force k.rules k.force r guard;
      site = inner k.home b gs;
      is_site = in_home i h (between k all).roots (inner k.home b gs) s.once stands_inner held_inner;
      change = record { boxes = box b1 gs1 no_boxes; drawn = 0 };
      makes = subst (λ (n : ℕ). Makes (Allows k.program) k.program n (by k.worker r (Place.Goal i) None) (inner k.home b gs) (record { boxes = box b1 gs1 no_boxes; drawn = 0 }))
          (sym (raised_own k.worker k.drawn k.config.next)) makes;
      result = λ j. record { roots = roots_after (box b1 gs1 no_boxes) j; next = next_after k j };
    }

    pub new_work : AreNew k (joined_boxes pre (box b1 gs1 rest))
    unfolding work_applies
    new_work m h = new m (
        let a : times m (between k (joined_boxes pre (box b1 gs1 rest))).roots ≤ times m (between k (joined_boxes pre (box b gs rest))).roots + drawn_times m k.worker (slice_index (between k all).next k.worker) 0 =
        added k.rules k.program (between k all) (by k.worker r (Place.Goal i) None) (between k (joined_boxes pre (box b1 gs1 rest))) s work_applies m in
        let u : times m (between k (joined_boxes pre (box b gs rest))).roots ≡ times m k.config.roots + times m (joined_boxes pre (box b gs rest)) =
        counts k.config k.stand k.goal k.home k.is_home k.body k.held k.op (joined_boxes pre (box b gs rest)) (raised k.worker k.drawn k.config.next) m in
        let v : times m (between k (joined_boxes pre (box b1 gs1 rest))).roots ≡ times m k.config.roots + times m (joined_boxes pre (box b1 gs1 rest)) =
        counts k.config k.stand k.goal k.home k.is_home k.body k.held k.op (joined_boxes pre (box b1 gs1 rest)) (raised k.worker k.drawn k.config.next) m in
        let z : drawn_times m k.worker (slice_index (between k all).next k.worker) 0 ≡ 0 = refl in
        omega arith)

    pub work_adds : b1.equations ≡ b.equations → (n : Name) → Adds (between k (joined_boxes pre (box b gs rest))) (between k (joined_boxes pre (box b1 gs1 rest))) n → ⊥
    unfolding work_applies
    work_adds e = adds_none k.rules k.program (between k all) (by k.worker r (Place.Goal i) None) (between k (joined_boxes pre (box b1 gs1 rest))) s work_applies
        (λ d hs cs q. let u : b1 ≡ d = first q in ap (λ (v : Content). v.equations) (sym u) ∙ e)
      where
        first : {d : Content} {hs : Goals} {cs : Boxes} → box b1 gs1 no_boxes ≡ box d hs cs → b1 ≡ d
        first q = cc

    -- the goal's name is new
    pub new_place : IsNewName k i
    new_place = new i (
        let u : times i (joined_boxes pre (box b gs rest)) ≡ times i pre + times i (box b gs rest) = times-joined i pre (box b gs rest) in
        let v : 1 ≤ times_inside i gs = held_counted i h gs held_inner in
        let y : times i (box b gs rest) ≡ times_of i b + (times_inside i gs + times i rest) = refl in
        omega arith)
