-- The labels of a call at once, one after another: alternatives are sifted, and the one that is left is promoted.
use Rattle.std.proofs.Common.{◌≡◌, ◌+◌, ◌≤◌, ◌<◌, ◌^◌, List, [], ◌∷◌, ◌++◌, length, Bool, true, false, Some, None, refl, sym, ◌∙◌, ap, subst, arith}
use Rattle.std.specs.Prelude.{if◌then◌else◌, slice_index}
use Rattle.akl_terms.specs.declared.name.Name.{Name}
use Rattle.akl_terms.specs.declared.name.Place.{Place}
use Rattle.akl_terms.specs.Names.{same_name}
use Rattle.akl_terms.proofs.SameNames.{same_name-refl}
use Rattle.akl_model.specs.declared.label.Rule.{Rule}
use Rattle.akl_model.specs.declared.label.Label.{Label}
use Rattle.akl_model.specs.Config.{Operator, Content, Boxes, no_boxes, box, Goals, no_goals, Config, a_choice, held_in, with_content, without_goal, joined_boxes, Found, edited}
use Rattle.akl_model.specs.Instances.{with_atoms}
use Rattle.akl_model.specs.Rules.{nothing, becomes, cut, joining, promote, count_of, kept_by, alternative_of}
use Rattle.akl_model.specs.Conditions.{IsSolved, IsQuietBox, GuardHolds, MayCut, MayPromote}
use Rattle.akl_model.specs.Derivations.{raised, Applies}
use Rattle.akl_model.specs.Changes.{box_names, Adds}
use Rattle.akl_model.proofs.Options.{and_some}
use Rattle.akl_model.proofs.Finds.{times}
use Rattle.akl_model.proofs.Drawn.{times-kept_by}
use Rattle.akl_model.proofs.NamesKept.{Stand, stands_after}
use Rattle.plan_laws.specs.AtOnce.{inner, by, Works, rests, works, Sifts, ends, fails, stays, Ends, promotes, cuts}
use Rattle.plan_laws.specs.Between.{with_choice}
use Rattle.plan_laws.specs.Untold.{KeepsEquations, KeepEquations}
use Rattle.plan_laws.proofs.Between.{is_choice, home}
use Rattle.plan_laws.proofs.CallAlternatives.{Calling, between, AreNew, its_goal, new_goal, new_box, Steps, stops, goes, steps_append, stand_along, new_along, adds_none, next_after, named, fail_applies, new_after, fail_adds, work_applies, new_work, work_adds, new_place}
use Rattle.plan_laws.proofs.CallEdits.{raised_own, raised_twice, edited_twice, content_twice, content_without, joined_one, alternative_same}

-- goals of an alternative's guard are reduced
pub worked : (k : Calling) (Claim : Type 0) (pre : Boxes) (b : Content) (gs : Goals) (ls : List Label) (b2 : Content) (gs2 : Goals) (rest : Boxes) → (x : Works k.program k.worker (slice_index k.config.next k.worker + k.drawn) k.home b gs ls b2 gs2)
    → (Claim → KeepsEquations k.program k.worker (slice_index k.config.next k.worker + k.drawn) k.home b gs ls b2 gs2 x)
    → Stand (between k (joined_boxes pre (box b gs rest))) → AreNew k (joined_boxes pre (box b gs rest)) → Steps k Claim (joined_boxes pre (box b gs rest)) ls (joined_boxes pre (box b2 gs2 rest))
worked k Claim pre _ _ _ _ _ rest (rests b gs) q s e = stops (joined_boxes pre (box b gs rest))
worked k Claim pre _ _ _ _ _ rest (works r i h b gs b1 gs1 ls b2 gs2 guard held_inner makes name y) q s e =
    let a : Applies k.rules k.program (between k (joined_boxes pre (box b gs rest))) (by k.worker r (Place.Goal i) None) (between k (joined_boxes pre (box b1 gs1 rest))) = work_applies k pre b gs rest s e r i h b1 gs1 guard held_inner makes in
    let n : AreNew k (joined_boxes pre (box b1 gs1 rest)) = new_work k pre b gs rest s e r i h b1 gs1 guard held_inner makes in
    goes (by k.worker r (Place.Goal i) None) (joined_boxes pre (box b gs rest)) (joined_boxes pre (box b1 gs1 rest)) ls (joined_boxes pre (box b2 gs2 rest)) n
    (new_goal i (new_place k pre b gs rest s e r i h b1 gs1 guard held_inner makes)) a (λ u. work_adds k pre b gs rest s e r i h b1 gs1 guard held_inner makes (q u).0)
    (worked k Claim pre b1 gs1 ls b2 gs2 rest y (λ u. (q u).1) (stands_after k.rules k.program (between k (joined_boxes pre (box b gs rest))) (by k.worker r (Place.Goal i) None) (between k (joined_boxes pre (box b1 gs1 rest))) s a) n)

pub sifted : (k : Calling) (Claim : Type 0) (pre bs : Boxes) (ls : List Label) (cs : Boxes) → (x : Sifts k.program k.worker (slice_index k.config.next k.worker + k.drawn) k.home bs ls cs)
    → (Claim → KeepEquations k.program k.worker (slice_index k.config.next k.worker + k.drawn) k.home bs ls cs x)
    → Stand (between k (joined_boxes pre bs)) → AreNew k (joined_boxes pre bs) → Steps k Claim (joined_boxes pre bs) ls (joined_boxes pre cs)
sifted k Claim pre _ _ _ ends q s e = stops (joined_boxes pre no_boxes)
sifted k Claim pre _ _ _ (fails b gs b2 gs2 ks bs ls cs work why y) q s e =
    let u : Steps k Claim (joined_boxes pre (box b gs bs)) ks (joined_boxes pre (box b2 gs2 bs)) = worked k Claim pre b gs ks b2 gs2 bs work (λ v. (q v).0) s e in
    let t : Stand (between k (joined_boxes pre (box b2 gs2 bs))) = stand_along k Claim (joined_boxes pre (box b gs bs)) ks (joined_boxes pre (box b2 gs2 bs)) u s in
    let n : AreNew k (joined_boxes pre (box b2 gs2 bs)) = new_along k Claim (joined_boxes pre (box b gs bs)) ks (joined_boxes pre (box b2 gs2 bs)) u e in
    let a : Applies k.rules k.program (between k (joined_boxes pre (box b2 gs2 bs))) (by k.worker Rule.Fail (Place.Box b2.name) None) (between k (joined_boxes pre bs)) = fail_applies k pre b2 gs2 bs t n why in
    let m : AreNew k (joined_boxes pre bs) = new_after k pre b2 gs2 bs t n in
    let z : Steps k Claim (joined_boxes pre bs) ls (joined_boxes pre cs) = sifted k Claim pre bs ls cs y (λ v. (q v).1) (stands_after k.rules k.program (between k (joined_boxes pre (box b2 gs2 bs))) (by k.worker Rule.Fail (Place.Box b2.name) None) (between k (joined_boxes pre bs)) t a) m in
    steps_append k Claim (joined_boxes pre (box b gs bs)) ks (joined_boxes pre (box b2 gs2 bs)) (by k.worker Rule.Fail (Place.Box b2.name) None ∷ ls) (joined_boxes pre cs) u
    (goes (by k.worker Rule.Fail (Place.Box b2.name) None) (joined_boxes pre (box b2 gs2 bs)) (joined_boxes pre bs) ls (joined_boxes pre cs) m (new_box b2.name (named k pre b2 gs2 bs t n)) a (λ v. fail_adds k pre b2 gs2 bs t n why) z)
sifted k Claim pre _ _ _ (stays b gs b2 gs2 ks bs ls cs work y) q s e =
    let u : Steps k Claim (joined_boxes pre (box b gs bs)) ks (joined_boxes pre (box b2 gs2 bs)) = worked k Claim pre b gs ks b2 gs2 bs work (λ v. (q v).0) s e in
    let t : Stand (between k (joined_boxes pre (box b2 gs2 bs))) = stand_along k Claim (joined_boxes pre (box b gs bs)) ks (joined_boxes pre (box b2 gs2 bs)) u s in
    let n : AreNew k (joined_boxes pre (box b2 gs2 bs)) = new_along k Claim (joined_boxes pre (box b gs bs)) ks (joined_boxes pre (box b2 gs2 bs)) u e in
    let z : Steps k Claim (joined_boxes (joined_boxes pre (box b2 gs2 no_boxes)) bs) ls (joined_boxes (joined_boxes pre (box b2 gs2 no_boxes)) cs) =
    sifted k Claim (joined_boxes pre (box b2 gs2 no_boxes)) bs ls cs y (λ v. (q v).1) (subst (λ (v : Boxes). Stand (between k v)) (sym (joined_one pre b2 gs2 bs)) t) (subst (AreNew k) (sym (joined_one pre b2 gs2 bs)) n) in
    steps_append k Claim (joined_boxes pre (box b gs bs)) ks (joined_boxes pre (box b2 gs2 bs)) ls (joined_boxes pre (box b2 gs2 cs)) u
    (subst (λ (v : Boxes). Steps k Claim (joined_boxes pre (box b2 gs2 bs)) ls v) (joined_one pre b2 gs2 cs)
    (subst (λ (v : Boxes). Steps k Claim v ls (joined_boxes (joined_boxes pre (box b2 gs2 no_boxes)) cs)) (joined_one pre b2 gs2 bs) z))

-- an alternative cuts
module _ (k : Calling) (n : Name) (a : Found) (bs : Boxes) (s : Stand (between k bs)) (i : alternative_of k.home n bs ≡ Some a) (solved : IsSolved a.goals) (quiet : IsQuietBox a) (fewer : count_of (kept_by k.op n bs) < count_of bs) where
  pub cut_applies : Applies k.rules k.program (between k bs) (by k.worker Rule.Cut (Place.Goal k.goal) (Some n)) (between k (kept_by k.op n bs))
  cut_applies = record {
    in_force = k.force.cut;
    site = with_choice k.home k.goal k.op bs;
    is_site = home k.config k.stand k.goal k.home k.is_home k.body k.held k.op bs (raised k.worker k.drawn k.config.next) s;
    change = becomes k.home.content (with_content k.goal (a_choice k.op (kept_by k.op n bs)) (with_choice k.home k.goal k.op bs).goals) 0;
    makes = record {
      reading = nothing;
      change = ap (cut k.goal n (with_choice k.home k.goal k.op bs)) chosen;
      allowed = subst (MayCut n (with_choice k.home k.goal k.op bs)) (sym chosen)
          (and_some (λ (m : Found). IsSolved m.goals × IsQuietBox m) (alternative_of (with_choice k.home k.goal k.op bs) n bs) a (alternative_same k.home (with_choice k.home k.goal k.op bs).goals n bs ∙ i) (solved, quiet), fewer);
      few_names = omega arith;
    };
    result = λ j. record { roots = roots_after j; next = next_after k j };
  }
    where
      chosen : held_in k.goal (with_choice k.home k.goal k.op bs).goals ≡ Some (a_choice k.op bs)
      chosen = is_choice k.config k.stand k.goal k.home k.is_home k.body k.held k.op bs (raised k.worker k.drawn k.config.next)

      roots_after : edited k.home.content.name (box k.home.content (with_content k.goal (a_choice k.op (kept_by k.op n bs)) (with_choice k.home k.goal k.op bs).goals) no_boxes) (between k bs).roots ≡ (between k (kept_by k.op n bs)).roots
      roots_after = edited_twice k.home.content.name k.home.content (with_choice k.home k.goal k.op bs).goals (box k.home.content (with_content k.goal (a_choice k.op (kept_by k.op n bs)) (with_choice k.home k.goal k.op bs).goals) no_boxes)
          (same_name-refl k.home.content.name) k.config.roots
          ∙ ap (λ (G : Goals). edited k.home.content.name (box k.home.content G no_boxes) k.config.roots) (content_twice k.goal (a_choice k.op (kept_by k.op n bs)) k.op bs k.home.goals)

  pub cut_adds : (m : Name) → Adds (between k bs) (between k (kept_by k.op n bs)) m → ⊥
  unfolding cut_applies
  cut_adds = adds_none k.rules k.program (between k bs) (by k.worker Rule.Cut (Place.Goal k.goal) (Some n)) (between k (kept_by k.op n bs)) s cut_applies (λ b gs rest q. ap (λ (v : Content). v.equations) (sym (first q)))
    where
      first : {b : Content} {gs : Goals} {rest : Boxes} → box k.home.content (with_content k.goal (a_choice k.op (kept_by k.op n bs)) (with_choice k.home k.goal k.op bs).goals) no_boxes ≡ box b gs rest → k.home.content ≡ b
      first q = cc

  pub cut_new : AreNew k bs → AreNew k (kept_by k.op n bs)
  cut_new new m h = new m (let u : times m (kept_by k.op n bs) ≤ times m bs = times-kept_by k.op m n bs in omega arith)

abbrev pub joined_to : Calling → Content → Config
joined_to k a = record {
  roots = edited k.home.content.name (box (joining a k.home.content) (with_atoms k.worker (slice_index k.config.next k.worker + k.drawn) a.body (without_goal k.goal k.home.goals)) no_boxes) k.config.roots;
  next = raised k.worker (k.drawn + length a.body) k.config.next;
}

abbrev choice_site : Calling → Content → Found
choice_site k a = with_choice k.home k.goal k.op (box a no_goals no_boxes)

-- the one that is left is promoted
pub promote_applies : (k : Calling) (a : Content) → Stand (between k (box a no_goals no_boxes)) → GuardHolds k.op (inner k.home a no_goals) → length a.body < 2 ^ 32
    → Applies k.rules k.program (between k (box a no_goals no_boxes)) (by k.worker Rule.Promote (Place.Goal k.goal) (Some a.name)) (joined_to k a)
promote_applies k a s guard few = record {
  in_force = k.force.promote;
  site = choice_site k a;
  is_site = home k.config k.stand k.goal k.home k.is_home k.body k.held k.op (box a no_goals no_boxes) (raised k.worker k.drawn k.config.next) s;
  change = becomes (joining a k.home.content) (with_atoms k.worker (slice_index (raised k.worker k.drawn k.config.next) k.worker) a.body (without_goal k.goal (choice_site k a).goals)) (length a.body);
  makes = record {
    reading = nothing;
    change = ap (promote k.worker (slice_index (raised k.worker k.drawn k.config.next) k.worker) k.goal a.name (choice_site k a)) chosen ∙ promoted (same_name a.name a.name) (same_name-refl a.name);
    allowed = subst (MayPromote a.name (choice_site k a)) (sym chosen) (and_some (GuardHolds k.op) (alternative_of (choice_site k a) a.name (box a no_goals no_boxes)) (inner k.home a no_goals) (here (same_name a.name a.name) (same_name-refl a.name)) guard);
    few_names = few;
  };
  result = λ j. record { roots = roots_after j; next = raised_twice k.worker k.drawn (length a.body) k.config.next j };
}
  where
    chosen : held_in k.goal (choice_site k a).goals ≡ Some (a_choice k.op (box a no_goals no_boxes))
    chosen = is_choice k.config k.stand k.goal k.home k.is_home k.body k.held k.op (box a no_goals no_boxes) (raised k.worker k.drawn k.config.next)

    promoted : (t : Bool) → t ≡ true → (if t then Some (becomes (joining a k.home.content) (with_atoms k.worker (slice_index (raised k.worker k.drawn k.config.next) k.worker) a.body (without_goal k.goal (choice_site k a).goals)) (length a.body)) else None)
        ≡ Some (becomes (joining a k.home.content) (with_atoms k.worker (slice_index (raised k.worker k.drawn k.config.next) k.worker) a.body (without_goal k.goal (choice_site k a).goals)) (length a.body))
    promoted true e = refl
    promoted false e = cc

    here : (t : Bool) → t ≡ true → (if t then Some (inner k.home a no_goals) else None) ≡ Some (inner k.home a no_goals)
    here true e = refl
    here false e = cc

    roots_after : edited k.home.content.name (box (joining a k.home.content) (with_atoms k.worker (slice_index (raised k.worker k.drawn k.config.next) k.worker) a.body (without_goal k.goal (choice_site k a).goals)) no_boxes) (between k (box a no_goals no_boxes)).roots ≡ (joined_to k a).roots
    roots_after = edited_twice k.home.content.name k.home.content (choice_site k a).goals (box (joining a k.home.content) (with_atoms k.worker (slice_index (raised k.worker k.drawn k.config.next) k.worker) a.body (without_goal k.goal (choice_site k a).goals)) no_boxes) (same_name-refl k.home.content.name) k.config.roots
        ∙ (λ j. edited k.home.content.name (box (joining a k.home.content) (with_atoms k.worker (raised_own k.worker k.drawn k.config.next j) a.body (content_without k.goal k.op (box a no_goals no_boxes) k.home.goals j)) no_boxes) k.config.roots)

-- its box stays one
pub promote_one : (k : Calling) (a : Content) (s : Stand (between k (box a no_goals no_boxes))) (guard : GuardHolds k.op (inner k.home a no_goals)) (few : length a.body < 2 ^ 32)
    → (box_names (promote_applies k a s guard few).change.boxes ≡ (promote_applies k a s guard few).site.content.name ∷ []) × ((promote_applies k a s guard few).site.content.name ≡ k.home.content.name)
unfolding promote_applies
promote_one k a s guard few = (refl, refl)

guard_of : (q : Operator) (n : Name) (a : Found) (bs : Boxes) → count_of (kept_by q n bs) < count_of bs → IsQuietBox a → GuardHolds q a
guard_of Operator.nondeterminate n a bs h i = absurd (omega arith)
guard_of Operator.condition n a bs h i = i
guard_of Operator.commit n a bs h i = i
guard_of (Operator.collecting r) n a bs h i = absurd (omega arith)

-- the last labels: those up to the promotion, and this
pub record Ended (k : Calling) (Claim : Type 0) (a : Content) (bs : Boxes) (ls : List Label) : Type 0 where
  pub before : List Label
  pub steps : Steps k Claim bs before (box a no_goals no_boxes)
  pub guard : GuardHolds k.op (inner k.home a no_goals)
  pub labels : ls ≡ before ++ by k.worker Rule.Promote (Place.Goal k.goal) (Some a.name) ∷ []

pub ended : (k : Calling) (Claim : Type 0) (a : Content) (bs : Boxes) (ls : List Label) → Ends k.worker k.goal k.home k.op a bs ls → Stand (between k bs) → AreNew k bs → Ended k Claim a bs ls
ended k Claim a _ _ (promotes guard) s new = record { before = []; steps = stops (box a no_goals no_boxes); guard = guard; labels = refl }
ended k Claim a _ _ (cuts bs i e h quiet) s new = record {
  before = by k.worker Rule.Cut (Place.Goal k.goal) (Some a.name) ∷ [];
  steps = subst (λ (v : Boxes). Steps k Claim bs (by k.worker Rule.Cut (Place.Goal k.goal) (Some a.name) ∷ []) v) e
      (goes (by k.worker Rule.Cut (Place.Goal k.goal) (Some a.name)) bs (kept_by k.op a.name bs) [] (kept_by k.op a.name bs) (cut_new k a.name (inner k.home a no_goals) bs s i tt quiet h new) its_goal
      (cut_applies k a.name (inner k.home a no_goals) bs s i tt quiet h) (λ u. cut_adds k a.name (inner k.home a no_goals) bs s i tt quiet h) (stops (kept_by k.op a.name bs)));
  guard = guard_of k.op a.name (inner k.home a no_goals) bs h quiet;
  labels = refl;
}
