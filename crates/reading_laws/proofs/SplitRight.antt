-- A label of Split leads on where all inside its box is unchanged, and its environment is still consistent.
use Rattle.reading_laws.specs.Unchanged.{Unchanged}
use Rattle.std.proofs.Common.{◌≡◌, List, [], ◌∷◌, ◌++◌, Bool, true, false, Option, Some, None, refl, sym, ◌∙◌, subst}
use Rattle.std.specs.Prelude.{slice_index, if◌then◌else◌, IsSomeAnd}
use Rattle.akl_terms.specs.declared.name.Name.{Name}
use Rattle.akl_terms.specs.declared.name.Place.{Place}
use Rattle.akl_terms.specs.declared.program.Program.{Program}
use Rattle.akl_terms.specs.Equal.{IsTold, IsConsistent}
use Rattle.akl_terms.specs.Touching.{IsOutside}
use Rattle.constraint_laws.specs.Growth.{TellsOver, MayGrow}
use Rattle.akl_model.specs.declared.item.Item.{Item}
use Rattle.akl_model.specs.declared.label.Rule.{Rule}
use Rattle.akl_model.specs.declared.label.Label.{Label}
use Rattle.akl_model.specs.Config.{Content, Boxes, no_boxes, box, Goals, no_goals, atom, choice, Config, Found, equations_of, environment, whole, box_at, site_of}
use Rattle.akl_model.specs.Rules.{Reading, ChoiceIn, has_box, choice_with, alternative_of, change_by}
use Rattle.akl_model.specs.Stable.{EachBox, EachInside, only, frames_of, IsStableIn, IsStable, IsSplitPoint, Allows}
use Rattle.akl_model.specs.Derivations.{Applies}
use Rattle.akl_terms.specs.Names.{same_name}
use Rattle.akl_model.proofs.NamesKept.{Stand, box-itself, replay-stands, derived-stands}
use Rattle.akl_model.proofs.Options.{some_value}
use Rattle.akl_model.proofs.StableGrows.{untouched_box, IsStable-grows}
use Rattle.step_laws.specs.Likeness.{IsLike}
use Rattle.step_laws.specs.Inside.{EachItem}
use Rattle.step_laws.specs.Stays.{GoesOn}
use Rattle.step_laws.proofs.Inside.{same_inside}
use Rattle.step_laws.proofs.Same.{IsSame}
use Rattle.step_laws.proofs.Stays.{box_stays}
use Rattle.step_laws.proofs.Steps.{Later, later}
use Rattle.step_laws.proofs.Whereabouts.{found_in}
use Rattle.plan_laws.specs.Local.{replaces}
use Rattle.plan_laws.specs.Right.{NoneBy, IsRightOn}
use Rattle.plan_laws.proofs.Right.{leads_on}
use Rattle.plan_laws.proofs.InScope.{Good, outside_environment}
use Rattle.reading_laws.specs.SplitRight.{ReadsSplit}
use Rattle.reading_laws.proofs.IdleBoxes.{each_same}
use Rattle.reading_laws.proofs.Untouched.{good_later}
use Rattle.reading_laws.proofs.Boxes.{IsThereStill, there_still}
use Rattle.plan_laws.proofs.Replayed.{good_replay}

-- an alternative of a stable box's choice is consistent
module _ (P : Found → Type 0) (around : List Content) (a : Name) where
  among : (gs : Goals) → EachInside P around gs → (c : ChoiceIn) → choice_with a gs ≡ Some c → EachBox P around c.alternatives
  among no_goals x c e = cc
  among (atom g b gs) x c e = among gs x c e
  among (choice g o bs gs) x c e = on (has_box a bs) e (λ i. among gs x.1 c i)
    where
      on : (t : Bool) → (if t then Some (record { name = g; op = o; alternatives = bs }) else choice_with a gs) ≡ Some c → (choice_with a gs ≡ Some c → EachBox P around c.alternatives) → EachBox P around c.alternatives
      on true i k = subst (λ (z : ChoiceIn). EachBox P around z.alternatives) (some_value i) x.0
      on false i k = k i

alternative_consistent : (P : Found → Type 0) → ((m : Found) → P m → IsConsistent (whole m)) → (f k : Found) (a : Name) (bs : Boxes) → EachBox P (k.around ++ k.content ∷ []) bs
    → IsSomeAnd (alternative_of f a bs) (λ (m : Found). IsConsistent (whole m)) → IsSomeAnd (alternative_of k a bs) (λ (m : Found). IsConsistent (whole m))
alternative_consistent P h f k a no_boxes x y = y
alternative_consistent P h f k a (box b gs bs) x y = on (same_name a b.name) y (λ z. alternative_consistent P h f k a bs x.2 z)
  where
    on : (t : Bool) → IsSomeAnd (if t then Some (record { around = f.around ++ f.content ∷ []; content = b; goals = gs }) else alternative_of f a bs) (λ (m : Found). IsConsistent (whole m))
        → (IsSomeAnd (alternative_of f a bs) (λ (m : Found). IsConsistent (whole m)) → IsSomeAnd (alternative_of k a bs) (λ (m : Found). IsConsistent (whole m)))
        → IsSomeAnd (if t then Some (record { around = k.around ++ k.content ∷ []; content = b; goals = gs }) else alternative_of k a bs) (λ (m : Found). IsConsistent (whole m))
    on true i z = h (record { around = k.around ++ k.content ∷ []; content = b; goals = gs }) x.0
    on false i z = z i

module _ (rules : List Rule) (p : Program) (c : Config) (ls : List Label) (d : Config) (w : GoesOn rules p c ls d) (l : Label) (e : Config) (a : Applies rules p c l e) (none : NoneBy l ls)
    (n : Name) (rule : l.rule ≡ Rule.Split) (place : l.place ≡ Place.Box n) (u : ReadsSplit rules p c ls d w n a.site) where
  s : Stand c
  s = replay-stands rules p w.query w.journal c w.replays

  t : Stand d
  t = derived-stands rules p c d ls s w.derives

  z : Later c d
  z = later rules p c d ls s w.derives

  good_d : Good d
  good_d = good_later rules p c ls d w

  here : box_at n c.roots ≡ Some a.site
  here = subst (λ (x : Place). site_of x c.roots ≡ Some a.site) place a.is_site

  own : n ≡ a.site.content.name
  own = box-itself n c.roots a.site here

  same : EachItem (IsSame c d) (only a.site)
  same = each_same rules p c ls d w (only a.site) u.inside

  stays : (k : Found) × (box_at n d.roots ≡ Some k) × IsLike a.site k × (a.site.content ≡ k.content)
  stays = box_stays c d s t z n a.site here (subst (λ (m : Name). IsSame c d (Item.Store m)) (sym own) same.0)

  inside : (a.site.content ≡ stays.0.content) × (a.site.goals ≡ stays.0.goals)
  inside = same_inside c d s t z a.site stays.0 (found_in n c.roots a.site here) (found_in n d.roots stays.0 stays.1) stays.2.name same

  abbrev moved : Found
  moved = record { around = stays.0.around; content = a.site.content; goals = a.site.goals }

  is_moved : moved ≡ stays.0
  is_moved = λ j. record { around = stays.0.around; content = inside.0 j; goals = inside.1 j }

  grown : IsThereStill d n a.site
  grown = there_still rules p w.query w.journal c ls d w.replays w.derives n a.site here (subst (λ (k : Name). Unchanged rules p c ls d w.derives (Item.Store k)) (sym own) u.inside.0)

  may : MayGrow (frames_of (only a.site)) (environment a.site) (equations_of stays.0.around)
  may = record {
    over_old = outside_environment c (good_replay rules p w.query w.journal c w.replays) n a.site here;
    over_new = subst (λ (b : Boxes). TellsOver (IsOutside (frames_of b)) (environment stays.0)) (λ j. box (sym inside.0 j) (sym inside.1 j) no_boxes) (outside_environment d good_d n stays.0 stays.1);
    keeps = λ x y m. subst (λ (k : Found). IsTold (environment k) x y) (some_value (sym grown.is ∙ stays.1)) (grown.outer x y m);
    consistent = subst (λ (k : Found). IsConsistent (environment k)) (some_value (sym u.is_now ∙ stays.1)) u.consistent;
  }

  stable : IsStable p a.site → IsStable p moved
  stable h = IsStable-grows p a.site stays.0.around may h

  point : (v : Reading) (b : Name) (h : IsStable p moved) (o : Option ChoiceIn) → choice_with b a.site.goals ≡ o → IsSomeAnd o (IsSplitPoint a.site b) → IsSomeAnd o (IsSplitPoint moved b)
  point v b h None i x = x
  point v b h (Some k) i x = record {
    nondeterminate = x.nondeterminate;
    first = x.first;
    consistent = alternative_consistent (IsStableIn p (frames_of (only moved)) (environment moved))
        (λ m y. (untouched_box p (frames_of (only moved)) (environment moved) m y).consistent) a.site moved b k.alternatives
        (among (IsStableIn p (frames_of (only moved)) (environment moved)) (moved.around ++ moved.content ∷ []) b a.site.goals h.each.1 k i) x.consistent;
    others = x.others;
  }

  allows : (v : Reading) (o : Option Name) → Allows p v Rule.Split (Place.Box n) o a.site → Allows p v Rule.Split (Place.Box n) o stays.0
  allows v None x = absurd x
  allows v (Some b) x = subst (λ (k : Found). Allows p v Rule.Split (Place.Box n) (Some b) k) is_moved (stable x.0, point v b (stable x.0) (choice_with b a.site.goals) refl x.1)

  makes : (v : Reading) (o : Option Name) → change_by p v l.worker (slice_index c.next l.worker) Rule.Split (Place.Box n) o a.site ≡ Some a.change
      → change_by p v l.worker (slice_index c.next l.worker) Rule.Split (Place.Box n) o stays.0 ≡ Some a.change
  makes v None x = absurd cc
  makes v (Some b) x = subst (λ (k : Found). change_by p v l.worker (slice_index c.next l.worker) Rule.Split (Place.Box n) (Some b) k ≡ Some a.change) is_moved (around (choice_with b a.site.goals) x)
    where
      around : (o : Option ChoiceIn) → Rattle.akl_model.specs.Rules.split_at l.worker (slice_index c.next l.worker) b a.site o ≡ Some a.change → Rattle.akl_model.specs.Rules.split_at l.worker (slice_index c.next l.worker) b moved o ≡ Some a.change
      around None y = y
      around (Some k) y = y

  pub split_right : IsRightOn a d
  split_right = (leads_on rules p c ls d w l e a none Rule.Split (Place.Box n) l.alternative rule place refl stays.0 stays.1 stays.2.name stays.2.around (record {
    reading = a.makes.reading;
    change = a.change;
    makes = makes a.makes.reading l.alternative
        (subst (λ (r : Rule). change_by p a.makes.reading l.worker (slice_index c.next l.worker) r (Place.Box n) l.alternative a.site ≡ Some a.change) rule
        (subst (λ (x : Place). change_by p a.makes.reading l.worker (slice_index c.next l.worker) l.rule x l.alternative a.site ≡ Some a.change) place a.makes.change));
    allowed = allows a.makes.reading l.alternative
        (subst (λ (r : Rule). Allows p a.makes.reading r (Place.Box n) l.alternative a.site) rule
        (subst (λ (x : Place). Allows p a.makes.reading l.rule x l.alternative a.site) place a.makes.allowed));
    delta = replaces a.change.boxes;
    before = refl;
    now = refl;
    drawn = refl;
  })).0
