-- A call at once is right by contents.
use Rattle.std.proofs.Common.{◌≡◌, ℕ, ◌+◌, List, [], ◌∷◌, ◌++◌, length, Some, None, refl, sym, ◌∙◌, ap, subst}
use Rattle.std.specs.Prelude.{slice_index}
use Rattle.akl_terms.specs.declared.name.Name.{Name}
use Rattle.akl_terms.specs.declared.program.Program.{Program}
use Rattle.akl_terms.specs.Equal.{IsConsistent}
use Rattle.akl_model.specs.declared.item.Item.{Item}
use Rattle.akl_model.specs.declared.label.Rule.{Rule}
use Rattle.akl_model.specs.declared.label.Label.{Label}
use Rattle.akl_model.specs.Config.{Atom, Operator, Content, Boxes, no_boxes, box, Goals, no_goals, Config, held_in, Found, equations_of, home_of}
use Rattle.akl_model.specs.Instances.{instances}
use Rattle.akl_model.specs.Rules.{joining, alternative_of}
use Rattle.akl_model.specs.Conditions.{IsQuietBox, GuardHolds}
use Rattle.akl_model.specs.Names.{HasDistinctNames}
use Rattle.akl_model.proofs.NamesKept.{Stand}
use Rattle.step_laws.specs.Stays.{IsSameBox}
use Rattle.step_laws.proofs.Steps.{Later}
use Rattle.step_laws.proofs.Stays.{goal_stays, same_box}
use Rattle.step_laws.proofs.Whereabouts.{home_in}
use Rattle.plan_laws.proofs.Again.{atom_shape}
use Rattle.akl_terms.specs.declared.name.Place.{Place}
use Rattle.akl_model.specs.Conditions.{Makes}
use Rattle.akl_model.specs.Stable.{Allows}
use Rattle.akl_model.specs.Instances.{drawn_by}
use Rattle.plan_laws.specs.AtOnce.{Tells, Works, rests, works, by, inner, Fails, Sifts, ends, fails, stays, Ends, promotes, cuts, IsAtOnce, AreInForce, IsAtOnceIn, MeetsCall}
use Rattle.plan_laws.proofs.Between.{stand_of}
use Rattle.plan_laws.proofs.ByContents.{later_of, as_same}
use Rattle.plan_laws.proofs.CallEdits.{alternative_same}
use Rattle.plan_laws.proofs.Calls.{at_once_law}

module _ (f k : Found) (same : IsSameBox f k) where
  inner_same : (b : Content) (gs : Goals) → inner f b gs ≡ inner k b gs
  inner_same b gs = λ i. record { around = same.around i ++ same.content i ∷ []; content = b; goals = gs }

  alternative_again : (n : Name) (bs : Boxes) → alternative_of k n bs ≡ alternative_of f n bs
  alternative_again n bs = sym ((λ i. alternative_of (record { around = same.around i; content = same.content i; goals = f.goals }) n bs) ∙ sym (alternative_same k f.goals n bs ∙ refl) ∙ refl) ∙ refl

  pub works_again : (p : Program) (w next : ℕ) (b : Content) (gs : Goals) (ls : List Label) (b2 : Content) (gs2 : Goals) → Works p w next f b gs ls b2 gs2 → Works p w next k b gs ls b2 gs2
  works_again p w next _ _ _ _ _ (rests b gs) = rests b gs
  works_again p w next _ _ _ _ _ (works r i h b gs b1 gs1 ls b2 gs2 guard held_inner makes name y) =
      works r i h b gs b1 gs1 ls b2 gs2 guard held_inner (subst (λ (u : Found). Makes (Allows p) p next (by w r (Place.Goal i) None) u (record { boxes = box b1 gs1 no_boxes; drawn = 0 })) (inner_same b gs) makes) name (works_again p w next b1 gs1 ls b2 gs2 y)

  pub sifts_again : (p : Program) (w next : ℕ) (bs : Boxes) (ls : List Label) (cs : Boxes) → Sifts p w next f bs ls cs → Sifts p w next k bs ls cs
  sifts_again p w next _ _ _ ends = ends
  sifts_again p w next _ _ _ (fails b gs b2 gs2 ks bs ls cs work why y) = fails b gs b2 gs2 ks bs ls cs (works_again p w next b gs ks b2 gs2 work) (subst Fails (inner_same b2 gs2) why) (sifts_again p w next bs ls cs y)
  sifts_again p w next _ _ _ (stays b gs b2 gs2 ks bs ls cs work y) = stays b gs b2 gs2 ks bs ls cs (works_again p w next b gs ks b2 gs2 work) (sifts_again p w next bs ls cs y)

  pub ends_again : (w : ℕ) (g : Name) (o : Operator) (a : Content) (bs : Boxes) (ls : List Label) → Ends w g f o a bs ls → Ends w g k o a bs ls
  ends_again w g o a _ _ (promotes guard) = promotes (subst (GuardHolds o) (inner_same a no_goals) guard)
  ends_again w g o a _ _ (cuts bs i e h quiet) = cuts bs (alternative_again a.name bs ∙ i ∙ ap Some (inner_same a no_goals)) e h (subst IsQuietBox (inner_same a no_goals) quiet)

pub at_once_wherever : (rules : List Rule) → AreInForce rules → (p : Program) (c : Config) → HasDistinctNames c → (w : ℕ) (g : Name) (f : Found) → home_of g c.roots ≡ Some f
    → (x : IsAtOnce p c w g f) → (d : Config) → MeetsCall c w g f d → IsAtOnceIn rules x d
at_once_wherever rules force p c distinct w g f is_home x d m =
    let s : Stand c = stand_of c distinct in
    let t : Stand d = stand_of d m.follows.distinct in
    let z : Later c d = later_of c d m.follows in
    let k : _ = goal_stays c d s t z g f is_home (as_same c d (Item.Goal g) m.goal) in
    let q : IsSameBox f k.0 = same_box c d s t z f k.0 (home_in g c.roots f is_home).0 (home_in g d.roots k.0 k.1).0 k.2 (λ n i. as_same c d (Item.Store n) (m.stores n i)) in
    let y : IsAtOnce p d w g k.0 = record {
      definition = x.definition;
      arguments = x.arguments;
      held = atom_shape (Atom.call x.definition x.arguments None) (held_in g f.goals) (held_in g k.0.goals) k.3 x.held;
      called = x.called;
      is_called = x.is_called;
      op = x.op;
      is_operator = x.is_operator;
      few_names = x.few_names;
      sift_labels = x.sift_labels;
      left = x.left;
      sifts = subst (λ (n : ℕ). Sifts p w (n + drawn_by x.called.clauses) k.0 (instances p.templates.nodes w n x.arguments x.called.clauses) x.sift_labels x.left) (sym m.next)
          (sifts_again f k.0 q p w (slice_index c.next w + drawn_by x.called.clauses) (instances p.templates.nodes w (slice_index c.next w) x.arguments x.called.clauses) x.sift_labels x.left x.sifts);
      last = x.last;
      end_labels = x.end_labels;
      ends = ends_again f k.0 q w g x.op x.last x.left x.end_labels x.ends;
      few_goals = x.few_goals;
      body_labels = x.body_labels;
      after = x.after;
      goals_left = x.goals_left;
      body = subst (λ (n : ℕ). Tells p w (n + drawn_by x.called.clauses + length x.last.body) k.0.around (joining x.last k.0.content) (n + drawn_by x.called.clauses) x.last.body x.body_labels x.after x.goals_left) (sym m.next)
          (subst (λ (b : Content). Tells p w (slice_index c.next w + drawn_by x.called.clauses + length x.last.body) k.0.around (joining x.last b) (slice_index c.next w + drawn_by x.called.clauses) x.last.body x.body_labels x.after x.goals_left) q.content
          (subst (λ (bs : List Content). Tells p w (slice_index c.next w + drawn_by x.called.clauses + length x.last.body) bs (joining x.last f.content) (slice_index c.next w + drawn_by x.called.clauses) x.last.body x.body_labels x.after x.goals_left) q.around x.body));
      consistent = subst (λ (bs : List Content). IsConsistent (equations_of bs ++ x.after.equations)) q.around x.consistent;
    } in
    record {
      site = k.0;
      is_home = k.1;
      same = q;
      again = y;
      same_labels = refl;
      same_names = refl;
      same_last = refl;
      same_after = refl;
      same_left = refl;
      derives = at_once_law rules force p d m.follows.distinct w g k.0 k.1 y;
    }
