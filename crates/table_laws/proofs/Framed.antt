-- Each box of a replay has a frame.
use Rattle.std.proofs.Common.{◌≡◌, ℕ, ◌+◌, List, [], ◌∷◌, ◌++◌, ◌≤◌, length, map, Bool, true, false, Option, Some, None, refl, sym, subst, inl, inr}
use Rattle.std.specs.Prelude.{if◌then◌else◌, slice_index}
use Rattle.akl_terms.specs.declared.name.Name.{Name}
use Rattle.akl_terms.specs.declared.name.Place.{Place}
use Rattle.akl_terms.specs.declared.term.Node.{Node}
use Rattle.akl_terms.specs.declared.program.Clause.{Clause}
use Rattle.akl_terms.specs.declared.program.Program.{Program}
use Rattle.akl_terms.specs.declared.program.Query.{Query}
use Rattle.akl_terms.specs.Names.{same_name, is_before}
use Rattle.akl_terms.specs.Tree.{Tree}
use Rattle.akl_terms.specs.Arithmetic.{value, truth}
use Rattle.akl_model.specs.declared.label.Rule.{Rule}
use Rattle.akl_model.specs.declared.label.Label.{Label}
use Rattle.akl_model.specs.Config.{Atom, Content, Boxes, no_boxes, box, Goals, no_goals, atom, choice, Config, Held, an_atom, a_choice, held_in, with_content, without_goal, with_name, with_names, Found}
use Rattle.akl_model.specs.Instances.{start, instances, with_atoms, atoms_of}
use Rattle.akl_model.specs.Renaming.{sorted_names, renaming, renamed, renamed_goals}
use Rattle.akl_model.specs.Rules.{Change, becomes, joining, alone, others, kept_by, with_alternatives, second_copy, first_of}
use Rattle.akl_model.specs.Stable.{only}
use Rattle.akl_model.specs.Derivations.{Applies, Derives, Replays}
use Rattle.akl_model.proofs.Options.{some_value}
use Rattle.akl_model.proofs.Finds.{times}
use Rattle.akl_model.proofs.RuleCases.{PlainCase, tells, forks, evaluates, opens, sends, fails, cuts, promotes, collects, SplitCase, Makes-case}
use Rattle.akl_model.proofs.NamesKept.{Stand, start-stands, stands_after, split_held}
use Rattle.step_laws.specs.Whereabouts.{BoxIn, InGoals, Stands}
use Rattle.step_laws.proofs.Deeper.{in_deeper}
use Rattle.step_laws.proofs.Edits.{AfterEdit, outside, replaced}
use Rattle.step_laws.proofs.GoalEdits.{InHeld, held_inside, without_in, with_content_in, with_atoms_in, alone_in, kept_in}
use Rattle.step_laws.proofs.Steps.{after_edit, site_stands, site_once}

abbrev pub HasFrame : Content → Type 0
HasFrame b = b.frames ≡ [] → ⊥

abbrev AreFramed : Boxes → Type 0
AreFramed bs = (r : List Content) (k : Content) (hs : Goals) → BoxIn r k hs bs → HasFrame k

abbrev AreFramedIn : Goals → Type 0
AreFramedIn gs = (r : List Content) (k : Content) (hs : Goals) → InGoals r k hs gs → HasFrame k

with_name_some : (n : Name) (ms : List Name) → with_name n ms ≡ [] → ⊥
with_name_some n [] e = cc
with_name_some n (m ∷ ms) e = on (same_name n m) (is_before n m) e
  where
    on : (s t : Bool) → (if s then m ∷ ms else (if t then n ∷ m ∷ ms else m ∷ with_name n ms)) ≡ [] → ⊥
    on true t q = cc
    on false true q = cc
    on false false q = cc

with_names_some : (ns ms : List Name) → (ms ≡ [] → ⊥) → with_names ns ms ≡ [] → ⊥
with_names_some [] ms h e = h e
with_names_some (n ∷ ns) ms h e = with_name_some n (with_names ns ms) e

-- boxes of a change

one_framed : (b : Content) (gs : Goals) → HasFrame b → AreFramedIn gs → AreFramed (box b gs no_boxes)
one_framed b gs own inner r k hs (inl e) = subst HasFrame (sym e.1) own
one_framed b gs own inner r k hs (inr (inl w)) = inner w.0 k hs w.2
one_framed b gs own inner r k hs (inr (inr y)) = absurd y

atoms_framed : (w n : ℕ) (atoms : List Atom) (gs : Goals) → AreFramedIn gs → AreFramedIn (with_atoms w n atoms gs)
atoms_framed w n atoms gs f r k hs x = f r k hs (with_atoms_in w n atoms r k hs gs x)

none_inside : AreFramedIn no_goals
none_inside r k hs x = absurd x

instances_framed : (nodes : List Node) (w n : ℕ) (arguments : List Tree) (cs : List Clause) → AreFramed (instances nodes w n arguments cs)
instances_framed nodes w n arguments [] r k hs x = absurd x
instances_framed nodes w n arguments (c ∷ cs) r k hs (inl e) = subst HasFrame (sym e.1) (λ q. cc)
instances_framed nodes w n arguments (c ∷ cs) r k hs (inr (inl y)) =
    atoms_framed w (n + 2) (atoms_of nodes (record { worker = w; number = n + 1 }) c.guard) no_goals none_inside y.0 k hs y.2
instances_framed nodes w n arguments (c ∷ cs) r k hs (inr (inr y)) = instances_framed nodes w (n + (2 + length c.guard)) arguments cs r k hs y

content_framed : (g : Name) (h : Held) (gs : Goals) → ((r : List Content) (k : Content) (hs : Goals) → InHeld r k hs h → HasFrame k) → AreFramedIn gs → AreFramedIn (with_content g h gs)
content_framed g h gs new old r k hs x = elim (with_content_in g h r k hs gs x) [ inl y ↦ new r k hs y | inr y ↦ old r k hs y ]

others_in : (m : Name) (r : List Content) (k : Content) (hs : Goals) (bs : Boxes) → BoxIn r k hs (others m bs) → BoxIn r k hs bs
others_in m r k hs no_boxes x = x
others_in m r k hs (box b gs bs) x = on (same_name m b.name) x (λ y. others_in m r k hs bs y)
  where
    on : (t : Bool) → BoxIn r k hs (if t then bs else box b gs (others m bs)) → (BoxIn r k hs (others m bs) → BoxIn r k hs bs) → BoxIn r k hs (box b gs bs)
    on true y f = inr (inr y)
    on false (inl y) f = inl y
    on false (inr (inl y)) f = inr (inl y)
    on false (inr (inr y)) f = inr (inr (f y))

map_none : (f : Name → Name) (ns : List Name) → map f ns ≡ [] → ns ≡ []
map_none f [] e = refl
map_none f (n ∷ ns) e = cc

mutual
  renamed_framed : (f : Name → Name) (bs : Boxes) → AreFramed bs → AreFramed (renamed f bs)
  renamed_framed f no_boxes h r k hs x = absurd x
  renamed_framed f (box b gs bs) h r k hs (inl e) = subst HasFrame (sym e.1) (λ q. h [] b gs (inl (refl, refl, refl)) (map_none f b.frames q))
  renamed_framed f (box b gs bs) h r k hs (inr (inl w)) = goals_framed f gs (λ a c is y. h (b ∷ a) c is (inr (inl (a, refl, y)))) w.0 k hs w.2
  renamed_framed f (box b gs bs) h r k hs (inr (inr y)) = renamed_framed f bs (λ a c is z. h a c is (inr (inr z))) r k hs y

  goals_framed : (f : Name → Name) (gs : Goals) → AreFramedIn gs → AreFramedIn (renamed_goals f gs)
  goals_framed f no_goals h r k hs x = absurd x
  goals_framed f (atom g a gs) h r k hs x = goals_framed f gs h r k hs x
  goals_framed f (choice g o bs gs) h r k hs (inl x) = renamed_framed f bs (λ a c is y. h a c is (inl y)) r k hs x
  goals_framed f (choice g o bs gs) h r k hs (inr x) = goals_framed f gs (λ a c is y. h a c is (inr y)) r k hs x

module _ (p : Program) (w next : ℕ) (f : Found) (own : HasFrame f.content) (inner : AreFramedIn f.goals) where
  by : (b c : Change) → Some b ≡ Some c → AreFramed b.boxes → AreFramed c.boxes
  by b c e h = subst (λ (k : Change). AreFramed k.boxes) (some_value e) h

  gone : (b : Content) (g : Name) → HasFrame b → AreFramed (box b (without_goal g f.goals) no_boxes)
  gone b g h = one_framed b (without_goal g f.goals) h (λ r k hs x. inner r k hs (without_in g r k hs f.goals x))

  plain_framed : (place : Place) (c : Change) → PlainCase p w next f c place → AreFramed c.boxes
  plain_framed place c (tells g s t i e) = by _ c e (gone _ g own)
  plain_framed place c (forks g d arguments r definition o i j u e) =
      by _ c e (one_framed f.content _ own (content_framed g (a_choice o (instances p.templates.nodes w next arguments definition.clauses)) f.goals (λ r k hs x. instances_framed p.templates.nodes w next arguments definition.clauses r k hs x) inner))
  plain_framed place c (evaluates g test s t (value z) i x y e) = by _ c e (gone _ g own)
  plain_framed place c (evaluates g test s t (truth true) i x y e) = by _ c e (gone f.content g own)
  plain_framed place c (evaluates g test s t (truth false) i x y e) = by _ c e (one_framed f.content _ own (content_framed g (an_atom Atom.fail) f.goals (λ r k hs z. absurd z) inner))
  plain_framed place c (opens g s t i e) = by _ c e (gone _ g own)
  plain_framed place c (sends g m s q port i x y z e) = by _ c e (gone _ g (with_name_some (record { worker = w; number = next }) f.content.frames))
  plain_framed place c (fails n x e) = λ r k hs y. absurd (subst (λ (v : Change). BoxIn r k hs v.boxes) e y)
  plain_framed place c (cuts g n o bs i x e) = by _ c e (one_framed f.content _ own (content_framed g (a_choice o (kept_by o n bs)) f.goals
      (λ r k hs y. inner r k hs (held_inside g o bs r k hs f.goals i (kept_in o n r k hs bs y))) inner))
  plain_framed place c (promotes g n o a i q x e) = on (same_name n a.name) q e
    where
      on : (t : Bool) → t ≡ true → (if t then Some (becomes (joining a f.content) (with_atoms w next a.body (without_goal g f.goals)) (length a.body)) else None) ≡ Some c → AreFramed c.boxes
      on true r j = by _ c j (one_framed (joining a f.content) _ (with_names_some a.frames f.content.frames own) (atoms_framed w next a.body (without_goal g f.goals) (λ r k hs x. inner r k hs (without_in g r k hs f.goals x))))
      on false r j = cc
  plain_framed place c (collects g r bs a i x z e) = by _ c e (gone _ g (with_names_some a.frames f.content.frames own))

  split_framed : (place : Place) (alternative : Option Name) (c : Change) → ((m : Name) → times m (only f) ≤ 1) → SplitCase p w next f c place alternative → AreFramed c.boxes
  split_framed place alternative c once s = by _ c s.change parts
    where
      held : held_in s.choice_in.name f.goals ≡ Some (a_choice s.choice_in.op s.choice_in.alternatives)
      held = split_held p w next f c once s

      part : (bs : Boxes) → ((r : List Content) (k : Content) (hs : Goals) → BoxIn r k hs bs → BoxIn r k hs s.choice_in.alternatives) → AreFramed (with_alternatives f s.choice_in bs)
      part bs h = one_framed f.content _ own (content_framed s.choice_in.name (a_choice s.choice_in.op bs) f.goals
          (λ r k hs y. inner r k hs (held_inside s.choice_in.name s.choice_in.op s.choice_in.alternatives r k hs f.goals held (h r k hs y))) inner)

      first : AreFramed (with_alternatives f s.choice_in (alone s.at_alternative s.choice_in.alternatives))
      first = part (alone s.at_alternative s.choice_in.alternatives) (λ r k hs y. alone_in s.at_alternative r k hs s.choice_in.alternatives y)

      second : AreFramed (second_copy w next (with_alternatives f s.choice_in (others s.at_alternative s.choice_in.alternatives)))
      second = renamed_framed (renaming (sorted_names (with_alternatives f s.choice_in (others s.at_alternative s.choice_in.alternatives))) w next) (with_alternatives f s.choice_in (others s.at_alternative s.choice_in.alternatives))
          (part (others s.at_alternative s.choice_in.alternatives) (λ r k hs y. others_in s.at_alternative r k hs s.choice_in.alternatives y))

      parts : AreFramed (first_of (with_alternatives f s.choice_in (alone s.at_alternative s.choice_in.alternatives)) (second_copy w next (with_alternatives f s.choice_in (others s.at_alternative s.choice_in.alternatives))))
      parts r k hs (inl e) = first r k hs (inl e)
      parts r k hs (inr (inl y)) = first r k hs (inr (inl y))
      parts r k hs (inr (inr y)) = second r k hs y

framed_after : (rules : List Rule) (p : Program) (c : Config) (l : Label) (d : Config) → Stand c → Applies rules p c l d → AreFramed c.roots → AreFramed d.roots
framed_after rules p c l d s m h r k hs x = on (after_edit rules p c l d s m (record { around = r; content = k; goals = hs }) x)
  where
    own : HasFrame m.site.content
    own = h m.site.around m.site.content m.site.goals (site_stands rules p c l d s m)

    inner : AreFramedIn m.site.goals
    inner a b is y = h (m.site.around ++ m.site.content ∷ a) b is (in_deeper m.site.around m.site.content m.site.goals a b is c.roots (site_stands rules p c l d s m) y)

    new : AreFramed m.change.boxes
    new = elim (Makes-case m.makes) [
      | inl y ↦ plain_framed p l.worker (slice_index c.next l.worker) m.site own inner l.place m.change y
      | inr y ↦ split_framed p l.worker (slice_index c.next l.worker) m.site own inner l.place l.alternative m.change (site_once rules p c l d s m) y
    ]

    on : AfterEdit m.site.content.name m.change.boxes (λ a b gs. BoxIn a b gs c.roots) r k hs → HasFrame k
    on (outside gs y n e) = h r k gs y
    on (replaced a b gs rest y n e z) = new rest k hs z

framed_on : (rules : List Rule) (p : Program) (c d : Config) (ls : List Label) → Stand c → AreFramed c.roots → Derives rules p c ls d → AreFramed d.roots
framed_on rules p c d [] s h e = subst (λ (k : Config). AreFramed k.roots) e h
framed_on rules p c d (l ∷ ls) s h w = framed_on rules p w.0 d ls (stands_after rules p c l w.0 s w.1) (framed_after rules p c l w.0 s w.1 h) w.2

pub framed : (rules : List Rule) (p : Program) (q : Query) (journal : List Label) (c : Config) → Replays rules p q journal c → (f : Found) → Stands f c.roots → HasFrame f.content
framed rules p q journal c r f x = framed_on rules p (start p q) c journal (start-stands p q) first r.derives f.around f.content f.goals x
  where
    first : AreFramed (start p q).roots
    first = one_framed _ _ (λ e. cc) (atoms_framed 0 2 (atoms_of p.templates.nodes (record { worker = 0; number = 1 }) q.goals) no_goals none_inside)
