-- A call at once is made again in the same box of another configuration: its guards tell nothing where they told nothing, and the same of its body is told.
use Rattle.std.proofs.Common.{◌≡◌, ℕ, ◌+◌, Bool, List, ◌++◌, ◌∷◌, [], length, Some, None, refl, sym, subst}
use Rattle.std.specs.Prelude.{slice_index}
use Rattle.akl_terms.specs.declared.name.Name.{Name}
use Rattle.akl_terms.specs.declared.name.Place.{Place}
use Rattle.akl_terms.specs.declared.program.Program.{Program}
use Rattle.akl_terms.specs.Equal.{IsConsistent}
use Rattle.akl_model.specs.declared.item.Item.{Item}
use Rattle.akl_model.specs.declared.label.Rule.{Rule}
use Rattle.akl_model.specs.declared.label.Label.{Label}
use Rattle.akl_model.specs.Conditions.{Makes}
use Rattle.akl_model.specs.Config.{Atom, Content, Boxes, no_boxes, box, Goals, Config, held_in, Found, equations_of, home_of}
use Rattle.akl_model.specs.Instances.{instances, drawn_by}
use Rattle.akl_model.specs.Names.{HasDistinctNames}
use Rattle.akl_model.specs.Rules.{joining}
use Rattle.akl_model.specs.Stable.{Allows}
use Rattle.akl_model.proofs.NamesKept.{Stand}
use Rattle.step_laws.specs.Stays.{IsSameBox}
use Rattle.step_laws.proofs.Stays.{goal_stays, same_box}
use Rattle.step_laws.proofs.Steps.{Later}
use Rattle.step_laws.proofs.Whereabouts.{home_in}
use Rattle.plan_laws.proofs.Again.{atom_shape}
use Rattle.plan_laws.specs.AtOnce.{Tells, Works, rests, works, by, inner, Fails, Sifts, ends, fails, stays, IsAtOnce, labels_at_once, AreInForce, IsAtOnceIn, MeetsCall}
use Rattle.plan_laws.specs.Untold.{KeepsEquations, KeepEquations}
use Rattle.plan_laws.specs.Wakes.{TellsNothing}
use Rattle.plan_laws.proofs.Between.{stand_of}
use Rattle.plan_laws.proofs.ByContents.{later_of, as_same}
use Rattle.plan_laws.proofs.Calls.{at_once_law}
use Rattle.plan_laws.proofs.CallsAgain.{ends_again}
use Rattle.reading_laws.specs.CallsAgain.{outcomes, body_outcomes}

module _ (f k : Found) (same : IsSameBox f k) where
  inner_same : (b : Content) (gs : Goals) → inner f b gs ≡ inner k b gs
  inner_same b gs = λ i. record { around = same.around i ++ same.content i ∷ []; content = b; goals = gs }

  works_again : (p : Program) (w next : ℕ) (b : Content) (gs : Goals) (ls : List Label) (b2 : Content) (gs2 : Goals) (x : Works p w next f b gs ls b2 gs2)
      → (y : Works p w next k b gs ls b2 gs2) × (KeepsEquations p w next f b gs ls b2 gs2 x → KeepsEquations p w next k b gs ls b2 gs2 y)
  works_again p w next _ _ _ _ _ (rests b gs) = (rests b gs, λ t. tt)
  works_again p w next _ _ _ _ _ (works r i h b gs b1 gs1 ls b2 gs2 guard held makes name x) =
      let y : (y : Works p w next k b1 gs1 ls b2 gs2) × (KeepsEquations p w next f b1 gs1 ls b2 gs2 x → KeepsEquations p w next k b1 gs1 ls b2 gs2 y) = works_again p w next b1 gs1 ls b2 gs2 x in
      let made : Makes (Allows p) p next (by w r (Place.Goal i) None) (inner k b gs) (record { boxes = box b1 gs1 no_boxes; drawn = 0 }) =
      subst (λ (u : Found). Makes (Allows p) p next (by w r (Place.Goal i) None) u (record { boxes = box b1 gs1 no_boxes; drawn = 0 })) (inner_same b gs) makes in
      (works r i h b gs b1 gs1 ls b2 gs2 guard held made name y.0, λ t. (t.0, y.1 t.1))

  sifts_again : (p : Program) (w next : ℕ) (bs : Boxes) (ls : List Label) (cs : Boxes) (x : Sifts p w next f bs ls cs)
      → (y : Sifts p w next k bs ls cs) × (KeepEquations p w next f bs ls cs x → KeepEquations p w next k bs ls cs y)
  sifts_again p w next _ _ _ ends = (ends, λ t. tt)
  sifts_again p w next _ _ _ (fails b gs b2 gs2 ks bs ls cs work why x) =
      let v : (v : Works p w next k b gs ks b2 gs2) × (KeepsEquations p w next f b gs ks b2 gs2 work → KeepsEquations p w next k b gs ks b2 gs2 v) = works_again p w next b gs ks b2 gs2 work in
      let y : (y : Sifts p w next k bs ls cs) × (KeepEquations p w next f bs ls cs x → KeepEquations p w next k bs ls cs y) = sifts_again p w next bs ls cs x in
      (fails b gs b2 gs2 ks bs ls cs v.0 (subst Fails (inner_same b2 gs2) why) y.0, λ t. (v.1 t.0, y.1 t.1))
  sifts_again p w next _ _ _ (stays b gs b2 gs2 ks bs ls cs work x) =
      let v : (v : Works p w next k b gs ks b2 gs2) × (KeepsEquations p w next f b gs ks b2 gs2 work → KeepsEquations p w next k b gs ks b2 gs2 v) = works_again p w next b gs ks b2 gs2 work in
      let y : (y : Sifts p w next k bs ls cs) × (KeepEquations p w next f bs ls cs x → KeepEquations p w next k bs ls cs y) = sifts_again p w next bs ls cs x in
      (stays b gs b2 gs2 ks bs ls cs v.0 y.0, λ t. (v.1 t.0, y.1 t.1))

-- what is told of the body of a call is told again in another box with these contents, behind as many labels
module _ (p : Program) (w more : ℕ) (last : Content) (ls : List Label) (after : Content) (left : List (Name × Atom)) (so : List Bool) where
  abbrev TellsSo : ℕ → List Content → Content → Type 0
  TellsSo n around b = (y : Tells p w (n + more + length last.body) around (joining last b) (n + more) last.body ls after left)
      × (outcomes p w (n + more + length last.body) around (joining last b) (n + more) last.body ls after left y ≡ so)

  tells_again : (n m : ℕ) (f k : Found) → n ≡ m → IsSameBox f k → TellsSo n f.around f.content → TellsSo m k.around k.content
  tells_again n m f k e q x = subst (λ (i : ℕ). TellsSo i k.around k.content) e (subst (λ (b : Content). TellsSo n k.around b) q.content (subst (λ (bs : List Content). TellsSo n bs f.content) q.around x))

pub call_wherever : (rules : List Rule) → AreInForce rules → (p : Program) (c : Config) → HasDistinctNames c → (w : ℕ) (g : Name) (f : Found) → home_of g c.roots ≡ Some f
    → (x : IsAtOnce p c w g f) (d : Config) → MeetsCall c w g f d → (a : IsAtOnceIn rules x d) × (TellsNothing x → TellsNothing a.again) × (body_outcomes a.again ≡ body_outcomes x) × (a.again.body_labels ≡ x.body_labels)
call_wherever rules force p c distinct w g f is_home x d m =
    let s : Stand c = stand_of c distinct in
    let t : Stand d = stand_of d m.follows.distinct in
    let z : Later c d = later_of c d m.follows in
    let k : _ = goal_stays c d s t z g f is_home (as_same c d (Item.Goal g) m.goal) in
    let q : IsSameBox f k.0 = same_box c d s t z f k.0 (home_in g c.roots f is_home).0 (home_in g d.roots k.0 k.1).0 k.2 (λ n i. as_same c d (Item.Store n) (m.stores n i)) in
    let sifted : (v : Sifts p w (slice_index d.next w + drawn_by x.called.clauses) k.0 (instances p.templates.nodes w (slice_index d.next w) x.arguments x.called.clauses) x.sift_labels x.left)
    × (TellsNothing x → KeepEquations p w (slice_index d.next w + drawn_by x.called.clauses) k.0 (instances p.templates.nodes w (slice_index d.next w) x.arguments x.called.clauses) x.sift_labels x.left v) =
    subst (λ (n : ℕ). (v : Sifts p w (n + drawn_by x.called.clauses) k.0 (instances p.templates.nodes w n x.arguments x.called.clauses) x.sift_labels x.left)
    × (TellsNothing x → KeepEquations p w (n + drawn_by x.called.clauses) k.0 (instances p.templates.nodes w n x.arguments x.called.clauses) x.sift_labels x.left v)) (sym m.next)
    (sifts_again f k.0 q p w (slice_index c.next w + drawn_by x.called.clauses) (instances p.templates.nodes w (slice_index c.next w) x.arguments x.called.clauses) x.sift_labels x.left x.sifts) in
    let bodied : TellsSo p w (drawn_by x.called.clauses) x.last x.body_labels x.after x.goals_left (body_outcomes x) (slice_index d.next w) k.0.around k.0.content =
    tells_again p w (drawn_by x.called.clauses) x.last x.body_labels x.after x.goals_left (body_outcomes x) (slice_index c.next w) (slice_index d.next w) f k.0 (sym m.next) q (x.body, refl) in
    let y : IsAtOnce p d w g k.0 = record {
      definition = x.definition;
      arguments = x.arguments;
      held = atom_shape (Atom.call x.definition x.arguments None) (held_in g f.goals) (held_in g k.0.goals) k.3 x.held;
      called = x.called;
      is_called = x.is_called;
      op = x.op;
      is_operator = x.is_operator;
      few_names = x.few_names;
      sift_labels = x.sift_labels;
      left = x.left;
      sifts = sifted.0;
      last = x.last;
      end_labels = x.end_labels;
      ends = ends_again f k.0 q w g x.op x.last x.left x.end_labels x.ends;
      few_goals = x.few_goals;
      body_labels = x.body_labels;
      after = x.after;
      goals_left = x.goals_left;
      body = bodied.0;
      consistent = subst (λ (bs : List Content). IsConsistent (equations_of bs ++ x.after.equations)) q.around x.consistent;
    } in (
      record {
        site = k.0;
        is_home = k.1;
        same = q;
        again = y;
        same_labels = refl {a = labels_at_once x};
        same_names = refl;
        same_last = refl;
        same_after = refl;
        same_left = refl;
        derives = at_once_law rules force p d m.follows.distinct w g k.0 k.1 y;
      },
      sifted.1,
      bodied.1,
      refl,
    )
