-- No label of a call at once changes the store of its box, where bindings are told apart.
use Rattle.std.proofs.Common.{◌≡◌, ℕ, ◌+◌, Bool, length, List, [], ◌∷◌, ◌++◌, Option, Some, None, true, false, refl, sym, ◌∙◌, ap, subst, inl, inr}
use Rattle.std.specs.Prelude.{⊤, if◌then◌else◌, option_map, slice_index}
use Rattle.akl_terms.specs.declared.name.Name.{Name}
use Rattle.akl_terms.specs.declared.name.Place.{Place}
use Rattle.akl_terms.specs.declared.program.Clause.{Clause}
use Rattle.akl_terms.specs.declared.term.Node.{Node}
use Rattle.akl_terms.specs.Names.{same_name}
use Rattle.akl_terms.specs.declared.program.Program.{Program}
use Rattle.akl_terms.specs.declared.program.Query.{Query}
use Rattle.akl_terms.specs.Arithmetic.{value, truth}
use Rattle.akl_terms.specs.Tree.{Tree, integer}
use Rattle.akl_terms.specs.Equal.{told, Follows}
use Rattle.akl_terms.proofs.EqualLaws.{IsConsistent-follows}
use Rattle.akl_model.specs.declared.item.Item.{Item}
use Rattle.akl_model.specs.declared.label.Rule.{Rule}
use Rattle.akl_model.specs.declared.label.Label.{Label}
use Rattle.akl_model.specs.Config.{Atom, Operator, Content, Boxes, box, no_boxes, Goals, no_goals, Held, an_atom, held_in, with_content, without_goal, with_ports, Port, Config, Found, equations_of, whole, box_at, home_of}
use Rattle.akl_model.specs.Rules.{Reading, answer, Change, becomes, telling, tell, eval, alternative_of, joining, change_by}
use Rattle.akl_model.specs.Changes.{Constraint, constraint_of, constraint_at, ports_at, by_binding, Changes, goal_names}
use Rattle.akl_model.specs.Conditions.{Makes}
use Rattle.akl_model.specs.Stable.{Allows}
use Rattle.akl_model.specs.Derivations.{Applies, Derives, Replays}
use Rattle.akl_model.specs.Instances.{start, instances, drawn_by}
use Rattle.akl_model.proofs.NamesKept.{Stand, replay-stands, stands_after}
use Rattle.akl_model.proofs.Options.{some_value}
use Rattle.akl_model.proofs.Results.{Applies-one, Derives-append}
use Rattle.step_laws.specs.Stays.{GoesOn}
use Rattle.step_laws.proofs.StaysLaws.{equations_grow}
use Rattle.step_laws.proofs.Steps.{made, site_there, site_gone}
use Rattle.plan_laws.specs.AtOnce.{by, inner, with_named, IsOfGuard, Works, rests, works, Sifts, ends, fails, stays, Ends, promotes, cuts, Tells, finishes, leaves, tells, holds, IsAtOnce, labels_at_once, at_once, AreInForce}
use Rattle.plan_laws.proofs.CallAlternatives.{Calling, between, AreNew, Steps, stops, goes}
use Rattle.plan_laws.proofs.Between.{was_found}
use Rattle.plan_laws.proofs.BodySteps.{homed, home_with, IsReduction, Reduces, reduces}
use Rattle.plan_laws.proofs.BodySteps as body
use Rattle.plan_laws.proofs.CallPassage.{homed_found, body_goals, drawn, joined_stands, told_behind, end_home, box_gone}
use Rattle.plan_laws.proofs.Calls.{calling, forked, fork_applies, forked_new, forked_stand, middle, steps, promoted, all_labels}
use Rattle.plan_laws.proofs.CallsOutside.{alike_constraint}
use Rattle.plan_laws.proofs.Sifted.{joined_to}
use Rattle.reading_laws.specs.Unchanged.{Unchanged}
use Rattle.table_laws.proofs.StampsBetween.{IsApart, apart_between}

-- a rule that reduces a goal of a body, or of a guard, leaves its box the ports
one_box : (b c : Content) (gs hs : Goals) (rest : Boxes) (ch : Change) → Some (becomes b gs 0) ≡ Some ch → ch.boxes ≡ box c hs rest → b ≡ c
one_box b c gs hs rest ch e is = let q : box b gs no_boxes ≡ box c hs rest = ap (λ (v : Change). v.boxes) (some_value e) ∙ is in cc

tell_ports : (g : Name) (f : Found) (h : Option Held) (ch : Change) (c : Content) (hs : Goals) (rest : Boxes) → tell g f h ≡ Some ch → ch.boxes ≡ box c hs rest → c.ports ≡ f.content.ports
tell_ports g f (Some (an_atom (Atom.equation s t))) ch c hs rest e is = ap (λ (b : Content). b.ports) (sym (one_box (telling s t f.content) c (without_goal g f.goals) hs rest ch e is))
tell_ports g f _ ch c hs rest e is = absurd cc

eval_ports : (v : Reading) (g : Name) (f : Found) (h : Option Held) (ch : Change) (c : Content) (hs : Goals) (rest : Boxes) → eval v g f h ≡ Some ch → ch.boxes ≡ box c hs rest → c.ports ≡ f.content.ports
eval_ports (answer (value z)) g f (Some (an_atom (Atom.arithmetic test l r))) ch c hs rest e is = ap (λ (b : Content). b.ports) (sym (one_box (telling l (integer z) f.content) c (without_goal g f.goals) hs rest ch e is))
eval_ports (answer (truth true)) g f (Some (an_atom (Atom.arithmetic test l r))) ch c hs rest e is = ap (λ (b : Content). b.ports) (sym (one_box f.content c (without_goal g f.goals) hs rest ch e is))
eval_ports (answer (truth false)) g f (Some (an_atom (Atom.arithmetic test l r))) ch c hs rest e is = ap (λ (b : Content). b.ports) (sym (one_box f.content c (with_content g (an_atom Atom.fail) f.goals) hs rest ch e is))
eval_ports v g f h ch c hs rest e is = absurd cc

guard_ports : (p : Program) (v : Reading) (w next : ℕ) (r : Rule) (place : Place) (o : Option Name) (f : Found) (ch : Change) (c : Content) (hs : Goals) (rest : Boxes) → IsOfGuard r → change_by p v w next r place o f ≡ Some ch → ch.boxes ≡ box c hs rest
    → c.ports ≡ f.content.ports
guard_ports p v w next Rule.Tell (Place.Goal g) None f ch c hs rest k e is = tell_ports g f (held_in g f.goals) ch c hs rest e is
guard_ports p v w next Rule.Tell (Place.Goal g) (Some n) f ch c hs rest k e is = absurd cc
guard_ports p v w next Rule.Tell (Place.Box n) o f ch c hs rest k e is = absurd cc
guard_ports p v w next Rule.Eval (Place.Goal g) None f ch c hs rest k e is = eval_ports v g f (held_in g f.goals) ch c hs rest e is
guard_ports p v w next Rule.Eval (Place.Goal g) (Some n) f ch c hs rest k e is = absurd cc
guard_ports p v w next Rule.Eval (Place.Box n) o f ch c hs rest k e is = absurd cc
guard_ports p v w next _ place o f ch c hs rest k e is = absurd k

made_ports : (p : Program) (w next : ℕ) (r : Rule) (i : Name) (f : Found) (b1 : Content) (gs1 : Goals) → IsOfGuard r → Makes (Allows p) p next (by w r (Place.Goal i) None) f (record { boxes = box b1 gs1 no_boxes; drawn = 0 }) → b1.ports ≡ f.content.ports
made_ports p w next r i f b1 gs1 guard m = guard_ports p m.reading w next r (Place.Goal i) None f (record { boxes = box b1 gs1 no_boxes; drawn = 0 }) b1 gs1 no_boxes guard m.change refl

works_ports : (p : Program) (w next : ℕ) (f : Found) (b : Content) (gs : Goals) (ls : List Label) (b2 : Content) (gs2 : Goals) → Works p w next f b gs ls b2 gs2 → b2.ports ≡ b.ports
works_ports p w next f _ _ _ _ _ (rests b gs) = refl
works_ports p w next f _ _ _ _ _ (works r i h b gs b1 gs1 ls b2 gs2 guard held makes name y) = works_ports p w next f b1 gs1 ls b2 gs2 y ∙ made_ports p w next r i (inner f b gs) b1 gs1 guard makes

-- alternatives of a call have no ports
abbrev WithoutPorts : Boxes → Type 0
WithoutPorts no_boxes = ⊤
WithoutPorts (box b gs bs) = (b.ports ≡ []) × WithoutPorts bs

instances_ports : (nodes : List Node) (w n : ℕ) (arguments : List Tree) (clauses : List Clause) → WithoutPorts (instances nodes w n arguments clauses)
instances_ports nodes w n arguments [] = tt
instances_ports nodes w n arguments (c ∷ cs) = (refl, instances_ports nodes w (n + (2 + length c.guard)) arguments cs)

sifts_ports : (p : Program) (w next : ℕ) (f : Found) (bs : Boxes) (ls : List Label) (cs : Boxes) → Sifts p w next f bs ls cs → WithoutPorts bs → WithoutPorts cs
sifts_ports p w next f _ _ _ ends x = tt
sifts_ports p w next f _ _ _ (fails b gs b2 gs2 ks bs ls cs work why y) x = sifts_ports p w next f bs ls cs y x.1
sifts_ports p w next f _ _ _ (stays b gs b2 gs2 ks bs ls cs work y) x = (works_ports p w next f b gs ks b2 gs2 work ∙ x.0, sifts_ports p w next f bs ls cs y x.1)

one_ports : (n : Name) (f : Found) (bs : Boxes) (a : Content) (gs : Goals) → WithoutPorts bs → alternative_of f n bs ≡ Some (inner f a gs) → a.ports ≡ []
one_ports n f no_boxes a gs x e = cc
one_ports n f (box b hs bs) a gs x e = on (same_name n b.name) e (λ i. one_ports n f bs a gs x.1 i)
  where
    on : (t : Bool) → (if t then Some (inner f b hs) else alternative_of f n bs) ≡ Some (inner f a gs) → (alternative_of f n bs ≡ Some (inner f a gs) → a.ports ≡ []) → a.ports ≡ []
    on true i g = subst (λ (m : Found). m.content.ports ≡ []) (some_value i) x.0
    on false i g = g i

ends_ports : (w : ℕ) (g : Name) (f : Found) (o : Operator) (a : Content) (bs : Boxes) (es : List Label) → WithoutPorts bs → Ends w g f o a bs es → a.ports ≡ []
ends_ports w g f o a _ _ x (promotes guard) = x.0
ends_ports w g f o a _ _ x (cuts bs i e less quiet) = one_ports a.name f bs a no_goals x i

-- so the one that is left has none
pub last_ports : {p : Program} {c : Config} {w : ℕ} {g : Name} {f : Found} (x : IsAtOnce p c w g f) → x.last.ports ≡ []
last_ports {p} {c} {w} {g} {f} x = ends_ports w g f x.op x.last x.left x.end_labels
    (sifts_ports p w _ f (instances p.templates.nodes w (slice_index c.next w) x.arguments x.called.clauses) x.sift_labels x.left x.sifts (instances_ports p.templates.nodes w (slice_index c.next w) x.arguments x.called.clauses)) x.ends

-- so the box of the label's place has them afterwards
label_ports : (rules : List Rule) (p : Program) (c : Config) (l : Label) (d : Config) → Stand c → (a : Applies rules p c l d) → IsOfGuard l.rule → (k : Found) → box_at a.site.content.name d.roots ≡ Some k → k.content.ports ≡ a.site.content.ports
label_ports rules p c l d s a guard k is = elim (made rules p c l d s a) [
  | inl x ↦ let e : None ≡ Some k = sym (site_gone rules p c l d s a x.1) ∙ is in absurd cc
  | inr x ↦ ap (λ (f : Found). f.content.ports) (some_value (sym is ∙ site_there rules p c l d s a x.0))
      ∙ guard_ports p a.makes.reading l.worker (slice_index c.next l.worker) l.rule l.place l.alternative a.site a.change x.0.content x.0.goals x.0.rest guard a.makes.change x.0.is_change
]

-- the rules of the labels of a body
abbrev AllOfGuard : List Label → Type 0
AllOfGuard [] = ⊤
AllOfGuard (l ∷ ls) = IsOfGuard l.rule × AllOfGuard ls

body_rules : (p : Program) (w next : ℕ) (around : List Content) (b : Content) (n : ℕ) (body : List Atom) (ls : List Label) (b2 : Content) (left : List (Name × Atom)) → Tells p w next around b n body ls b2 left → AllOfGuard ls
body_rules p w next around _ _ _ _ _ _ (finishes b n) = tt
body_rules p w next around _ _ _ _ _ _ (leaves b n a rest ls b2 left y) = body_rules p w next around b (n + 1) rest ls b2 left y
body_rules p w next around _ _ _ _ _ _ (tells r b n a s t rest ls b2 left guard makes y) = (guard, body_rules p w next around (telling s t b) (n + 1) rest ls b2 left y)
body_rules p w next around _ _ _ _ _ _ (holds r b n a rest ls b2 left guard makes y) = (guard, body_rules p w next around b (n + 1) rest ls b2 left y)

module _ (rules : List Rule) (force : AreInForce rules) (p : Program) (q : Query) (journal : List Label) (c : Config) (r : Replays rules p q journal c) (w : ℕ) (g : Name) (f : Found) (is_home : home_of g c.roots ≡ Some f)
    (x : IsAtOnce p c w g f) where
  s : Stand c
  s = replay-stands rules p q journal c r

  abbrev k : Calling
  k = calling rules force p c s w g f is_home x

  abbrev h : Name
  h = f.content.name

  abbrev first : Boxes
  first = forked rules force p c s w g f is_home x

  abbrev last : Boxes
  last = box x.last no_goals no_boxes

  abbrev fork : Label
  fork = by w Rule.Fork (Place.Goal g) None

  abbrev promote : Label
  promote = by w Rule.Promote (Place.Goal g) (Some x.last.name)

  abbrev others : List Label
  others = middle rules force p c s w g f is_home x ⊥ (λ u. absurd u)

  abbrev m : ℕ
  m = drawn rules force p c s w g f is_home x ⊥ (λ u. absurd u)

  abbrev item : Item
  item = Item.Store h

  abbrev left : Goals
  left = with_named x.goals_left (without_goal g f.goals)

  home : box_at h c.roots ≡ Some f
  home = was_found c s g f is_home

  end : box_at h (at_once x).roots ≡ Some (record { around = f.around; content = x.after; goals = left })
  end = end_home rules force p c s w g f is_home x ⊥ (λ u. absurd u)

  -- a label between, behind which the box has the same ports
  step_leaves : (front : List Label) (n : Config) → Derives rules p c front n → (l : Label) (o : Config) → Applies rules p n l o → (ls : List Label) → Derives rules p o ls (at_once x) → ports_at h n.roots ≡ ports_at h o.roots
      → Changes by_binding n o item → ⊥
  step_leaves front n d l o a ls more ports (inl differ) = differ ports
  step_leaves front n d l o a ls more ports (inr z) = z.inconsistent (IsConsistent-follows grows x.consistent)
    where
      from : GoesOn rules p o ls (at_once x)
      from = record {
        query = q;
        journal = (journal ++ front) ++ l ∷ [];
        replays = record { derives = Derives-append rules p (start p q) n o (journal ++ front) (l ∷ []) (Derives-append rules p (start p q) c n journal front r.derives d) (o, a, refl) };
        derives = more;
      }

      grows : Follows (whole z.adds.afterwards) (equations_of f.around ++ x.after.equations)
      grows = record { each = λ {s} {t} i. told (equations_grow rules p o ls (at_once x) from h z.adds.afterwards (record { around = f.around; content = x.after; goals = left }) z.adds.is end s t i) }

  further : (front : List Label) (n : Config) (l : Label) (o : Config) → Derives rules p c front n → Applies rules p n l o → Derives rules p c (front ++ l ∷ []) o
  further front n l o d a = Derives-append rules p c n o front (l ∷ []) d (o, a, refl)

  -- its ports, before the promotion and behind it
  at_found : (n : Config) (e : Found) → box_at h n.roots ≡ Some e → ports_at h n.roots ≡ Some e.content.ports
  at_found n e i = ap (option_map (λ (z : Found). z.content.ports)) i

  at_between : (bs : Boxes) → Stand (between k bs) → AreNew k bs → ports_at h (between k bs).roots ≡ Some f.content.ports
  at_between bs t new = by_constraint (box_at h (between k bs).roots) (sym same ∙ ap (option_map constraint_of) home)
    where
      a : IsApart k (between k bs)
      a = apart_between k bs t new

      same : constraint_at h c.roots ≡ constraint_at h (between k bs).roots
      same = alike_constraint (λ (u v : Goals). goal_names u ≡ goal_names v) (box_at h c.roots) (box_at h (between k bs).roots) (a.all.boxes h (box_gone rules force p c s w g f is_home x ⊥ (λ u. absurd u) h _ end))

      by_constraint : (o : Option Found) → option_map constraint_of o ≡ Some (constraint_of f) → option_map (λ (z : Found). z.content.ports) o ≡ Some f.content.ports
      by_constraint None e = cc
      by_constraint (Some z) e = ap (λ (y : Constraint). Some y.ports) (some_value e)

  at_homed : (b : Content) (gs : Goals) → Stand (homed k m b gs) → b.name ≡ h → ports_at h (homed k m b gs).roots ≡ Some b.ports
  at_homed b gs t its = at_found (homed k m b gs) (home_with k b gs) (homed_found k m b gs t its)

  -- the labels of the body
  body_leaves : (b : Content) (gs : Goals) (ls : List Label) → Reduces k m b gs ls x.after left → AllOfGuard ls → b.name ≡ h → Stand (homed k m b gs)
      → (front : List Label) (n : Config) → n ≡ homed k m b gs → Derives rules p c front n → (d : Derives rules p n ls (at_once x)) → Unchanged rules p n ls (at_once x) d item
  body_leaves _ _ _ (body.rests b gs) guards its t front n e up d = tt
  body_leaves _ _ _ (reduces b gs l b1 gs1 ls b2 gs2 y z) guards its t front n e up d =
      let t1 : Stand (homed k m b1 gs1) = stands_after rules p (homed k m b gs) l (homed k m b1 gs1) t y.applies in
      let is : d.0 ≡ homed k m b1 gs1 = Applies-one (subst (λ (o : Config). Applies rules p o l d.0) e d.1) y.applies in
      let there : box_at h (homed k m b1 gs1).roots ≡ Some (home_with k b1 gs1) = homed_found k m b1 gs1 t1 (y.name ∙ its) in
      let site : y.applies.site.content.name ≡ h = ap (λ (v : Found). v.content.name) y.site ∙ its in
      let same : b1.ports ≡ b.ports =
      label_ports rules p (homed k m b gs) l (homed k m b1 gs1) t y.applies guards.0 (home_with k b1 gs1) (subst (λ (v : Name). box_at v (homed k m b1 gs1).roots ≡ Some (home_with k b1 gs1)) (sym site) there)
      ∙ ap (λ (v : Found). v.content.ports) y.site in
      let ports : ports_at h n.roots ≡ ports_at h d.0.roots =
      ap (λ (v : Config). ports_at h v.roots) e ∙ at_homed b gs t its ∙ ap Some (sym same) ∙ sym (at_homed b1 gs1 t1 (y.name ∙ its)) ∙ ap (λ (v : Config). ports_at h v.roots) (sym is) in
      (step_leaves front n up l d.0 d.1 ls d.2 ports, body_leaves b1 gs1 ls z guards.1 (y.name ∙ its) t1 (front ++ l ∷ []) d.0 is (further front n l d.0 up d.1) d.2)

  -- the promotion, and those behind it
  promote_leaves : (front : List Label) (n : Config) → n ≡ between k last → Stand (between k last) → AreNew k last → Derives rules p c front n → (d : Derives rules p n (promote ∷ x.body_labels) (at_once x))
      → Unchanged rules p n (promote ∷ x.body_labels) (at_once x) d item
  promote_leaves front n e t new up d =
      let is : d.0 ≡ joined_to k x.last = Applies-one (subst (λ (o : Config). Applies rules p o promote d.0) e d.1) (promoted rules force p c s w g f is_home x ⊥ (λ u. absurd u)) in
      let joined : Stand (joined_to k x.last) = joined_stands rules force p c s w g f is_home x ⊥ (λ u. absurd u) in
      let ports : ports_at h n.roots ≡ ports_at h d.0.roots =
      ap (λ (v : Config). ports_at h v.roots) e ∙ at_between last t new ∙ ap (λ (ps : List Port). Some (with_ports ps f.content.ports)) (sym (last_ports x))
      ∙ sym (at_homed (joining x.last f.content) (body_goals rules force p c s w g f is_home x ⊥ (λ u. absurd u)) joined refl) ∙ ap (λ (v : Config). ports_at h v.roots) (sym is) in (
        step_leaves front n up promote d.0 d.1 x.body_labels d.2 ports,
        body_leaves (joining x.last f.content) (body_goals rules force p c s w g f is_home x ⊥ (λ u. absurd u)) x.body_labels (told_behind rules force p c s w g f is_home x ⊥ (λ u. absurd u))
            (body_rules p w _ f.around (joining x.last f.content) (slice_index c.next w + drawn_by x.called.clauses) x.last.body x.body_labels x.after x.goals_left x.body) refl joined (front ++ promote ∷ []) d.0 is (further front n promote d.0 up d.1) d.2,
      )

  -- those before it
  steps_leave : (bs : Boxes) (ls : List Label) (cs : Boxes) → Steps k ⊥ bs ls cs → Stand (between k bs) → AreNew k bs → (front : List Label) (n : Config) → n ≡ between k bs → Derives rules p c front n → (ks : List Label) (d : Derives rules p n (ls ++ ks) (at_once x))
      → ((front1 : List Label) (n1 : Config) → n1 ≡ between k cs → Stand (between k cs) → AreNew k cs → Derives rules p c front1 n1 → (d1 : Derives rules p n1 ks (at_once x)) → Unchanged rules p n1 ks (at_once x) d1 item)
      → Unchanged rules p n (ls ++ ks) (at_once x) d item
  steps_leave _ _ _ (stops bs) t new front n e up ks d behind = behind front n e t new up d
  steps_leave _ _ _ (goes l bs cs ls ds news at a none z) t new front n e up ks d behind =
      let is : d.0 ≡ between k cs = Applies-one (subst (λ (o : Config). Applies rules p o l d.0) e d.1) a in
      let t1 : Stand (between k cs) = stands_after rules p (between k bs) l (between k cs) t a in
      let ports : ports_at h n.roots ≡ ports_at h d.0.roots = ap (λ (v : Config). ports_at h v.roots) e ∙ at_between bs t new ∙ sym (at_between cs t1 news) ∙ ap (λ (v : Config). ports_at h v.roots) (sym is) in
      (step_leaves front n up l d.0 d.1 (ls ++ ks) d.2 ports, steps_leave cs ls ds z t1 news (front ++ l ∷ []) d.0 is (further front n l d.0 up d.1) ks d.2 behind)

  all_leave : (d : Derives rules p c (fork ∷ (others ++ promote ∷ x.body_labels)) (at_once x)) → Unchanged rules p c (fork ∷ (others ++ promote ∷ x.body_labels)) (at_once x) d item
  all_leave d =
      let is : d.0 ≡ between k first = Applies-one d.1 (fork_applies rules force p c s w g f is_home x) in
      let t : Stand (between k first) = forked_stand rules force p c s w g f is_home x in
      let new : AreNew k first = forked_new rules force p c s w g f is_home x in
      let ports : ports_at h c.roots ≡ ports_at h d.0.roots = at_found c f home ∙ sym (at_between first t new) ∙ ap (λ (v : Config). ports_at h v.roots) (sym is) in (
        step_leaves [] c refl fork d.0 d.1 (others ++ promote ∷ x.body_labels) d.2 ports,
        steps_leave first others last (steps rules force p c s w g f is_home x ⊥ (λ u. absurd u)) t new (fork ∷ []) d.0 is (d.0, d.1, refl) (promote ∷ x.body_labels) d.2 promote_leaves,
      )

  pub call_leaves : (d : Derives rules p c (labels_at_once x) (at_once x)) → Unchanged rules p c (labels_at_once x) (at_once x) d item
  call_leaves = subst (λ (ls : List Label). (d : Derives rules p c ls (at_once x)) → Unchanged rules p c ls (at_once x) d item) (sym (all_labels rules force p c s w g f is_home x ⊥ (λ u. absurd u))) all_leave
