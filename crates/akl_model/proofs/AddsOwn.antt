-- The equations that a label adds to the box of its place are over the frames that the box then has.
use Rattle.std.proofs.Common.{◌≡◌, ℕ, ◌+◌, List, [], ◌∷◌, length, Bool, true, false, Option, Some, None, refl, sym, ◌∙◌, ap, subst, inl, inr, append_assoc, append-nil}
use Rattle.std.specs.Prelude.{if◌then◌else◌, slice_index}
use Rattle.akl_terms.specs.declared.name.Name.{Name}
use Rattle.akl_terms.specs.declared.program.Program.{Program}
use Rattle.akl_terms.specs.Tree.{Tree, Trees, none, more, variable, integer, port, symbol}
use Rattle.akl_terms.specs.Equal.{Equations, IsTold}
use Rattle.akl_terms.specs.Touching.{IsLocal}
use Rattle.akl_terms.specs.Arithmetic.{value, truth}
use Rattle.akl_terms.specs.Names.{same_name}
use Rattle.akl_terms.specs.declared.name.Place.{Place}
use Rattle.akl_terms.specs.declared.program.Query.{Query}
use Rattle.akl_model.specs.declared.label.Rule.{Rule}
use Rattle.akl_model.specs.declared.label.Label.{Label}
use Rattle.akl_model.specs.Derivations.{Applies, Replays}
use Rattle.akl_model.specs.Stable.{only}
use Rattle.akl_model.specs.Scopes.{nowhere}
use Rattle.akl_model.specs.Config.{IsIn, Atom, Operator, Content, Boxes, no_boxes, box, Goals, no_goals, Config, an_atom, a_choice, with_content, without_goal, with_name, with_names, with_tail, with_port, Found, box_at}
use Rattle.akl_model.specs.Instances.{term_at, with_atoms, instances, drawn_by}
use Rattle.akl_model.specs.Rules.{Change, becomes, telling, kept_by, count_of, joining}
use Rattle.constraint_laws.specs.Growth.{IsOver, AreOver, TellsOver}
use Rattle.akl_model.specs.Scopes.{Scope, scope_in, IsScoped, AreScoped, EquationsScoped}
use Rattle.akl_model.proofs.Options.{some_value}
use Rattle.akl_model.proofs.Gathered.{gathered_owned}
use Rattle.akl_model.proofs.RuleCases.{Makes-case, PlainCase, tells, forks, evaluates, opens, sends, fails, cuts, promotes, collects, SplitCase}
use Rattle.akl_model.proofs.Scoped.{IsIn-either, Within, scoped_wider, equations_wider, term_scoped}
use Rattle.akl_model.specs.Owned.{own_in, ContentOwned, BoxesOwned, GoalsOwned, AddsOwn}
use Rattle.akl_model.proofs.Owned.{held_owned}
use Rattle.akl_model.proofs.ScopesAlong.{own_along, found_owned, in_local}
use Rattle.akl_model.proofs.ScopesKept.{in_with_name, in_with_names, tail_of_port, replay_owned}
use Rattle.akl_model.proofs.NamesKept.{site-box, replay-stands}

mutual
  scoped_local : (s : Scope) (r : Tree) → IsScoped s r → IsOver (IsLocal s.frames) r
  scoped_local s (variable x) h = in_local s.frames x h
  scoped_local s (integer z) h = tt
  scoped_local s (port q) h = tt
  scoped_local s (symbol f ts) h = all_local s ts h

  all_local : (s : Scope) (rs : Trees) → AreScoped s rs → AreOver (IsLocal s.frames) rs
  all_local s none h = tt
  all_local s (more r rs) h = (scoped_local s r h.0, all_local s rs h.1)

told_local : (s : Scope) (E : Equations) → EquationsScoped s E → TellsOver (IsLocal s.frames) E
told_local s E h = record { each = λ a b m. on E a b h m }
  where
    on : (E : Equations) (a b : Tree) → EquationsScoped s E → IsTold E a b → IsOver (IsLocal s.frames) a × IsOver (IsLocal s.frames) b
    on [] a b h m = absurd m
    on (e ∷ es) a b h (inl p) = (subst (IsOver (IsLocal s.frames)) (sym p.0) (scoped_local s e.left h.0), subst (IsOver (IsLocal s.frames)) (sym p.1) (scoped_local s e.right h.1))
    on (e ∷ es) a b h (inr m) = on es a b h.2 m

abbrev first_content : Content → Boxes → Content
first_content d no_boxes = d
first_content d (box b gs bs) = b

module _ (p : Program) (w next : ℕ) (f : Found) (s : Scope) (here : ContentOwned s f.content) (goals : GoalsOwned (own_in s f.content) f.goals) where
  abbrev t : Scope
  t = own_in s f.content

  by : (b0 : Content) (gs0 : Goals) (n : ℕ) (c : Change) → Some (becomes b0 gs0 n) ≡ Some c → AddsOwn f b0 → (b : Content) (gs : Goals) (rest : Boxes) → c.boxes ≡ box b gs rest → AddsOwn f b
  by b0 gs0 n c e h b gs rest i = subst (AddsOwn f) (ap (first_content b0) (ap (λ (k : Change). k.boxes) (some_value e) ∙ i)) h

  adds_nothing : AddsOwn f f.content
  adds_nothing = record { added = []; equations = sym (append-nil f.content.equations); over = record { each = λ a b m. absurd m } }

  joining_adds : (a : Content) → ContentOwned (own_in s f.content) a → AddsOwn f (joining a f.content)
  joining_adds a inner_owned = record { added = a.equations; equations = refl; over = told_local wide a.equations (equations_wider (scope_in (own_in s f.content) a) wide wider a.equations inner_owned.equations) }
    where
      wide : Scope
      wide = record { frames = with_names a.frames f.content.frames; ports = (scope_in (own_in s f.content) a).ports }

      wider : Within (scope_in (own_in s f.content) a) (record { frames = with_names a.frames f.content.frames; ports = (scope_in (own_in s f.content) a).ports })
      wider = record {
        frames = λ n y. elim (IsIn-either n a.frames f.content.frames y) [
          | inl z ↦ in_with_names n a.frames f.content.frames (inl z)
          | inr z ↦ in_with_names n a.frames f.content.frames (inr z)
        ];
        ports = λ n y. y;
      }

  plain_adds : {place : Place} (c : Change) → PlainCase p w next f c place → (b : Content) (gs : Goals) (rest : Boxes) → c.boxes ≡ box b gs rest → AddsOwn f b
  plain_adds c (tells g l r i e) b gs rest j =
      let h : IsScoped t l × IsScoped t r = held_owned t g (an_atom (Atom.equation l r)) f.goals goals i in
      by (telling l r f.content) (without_goal g f.goals) 0 c e (record { added = record { left = l; right = r } ∷ []; equations = refl; over = told_local t (record { left = l; right = r } ∷ []) (h.0, h.1, tt) }) b gs rest j
  plain_adds c (forks g d ts r k o i u v e) b gs rest j =
      by f.content (with_content g (a_choice o (instances p.templates.nodes w next ts k.clauses)) f.goals) (drawn_by k.clauses) c e adds_nothing b gs rest j
  plain_adds c (evaluates g test l r (value z) i u v e) b gs rest j =
      let h : IsScoped t l × IsScoped t r = held_owned t g (an_atom (Atom.arithmetic test l r)) f.goals goals i in
      by (telling l (integer z) f.content) (without_goal g f.goals) 0 c e (record { added = record { left = l; right = integer z } ∷ []; equations = refl; over = told_local t (record { left = l; right = integer z } ∷ []) (h.0, tt, tt) }) b gs rest j
  plain_adds c (evaluates g test l r (truth true) i u v e) b gs rest j = by f.content (without_goal g f.goals) 0 c e adds_nothing b gs rest j
  plain_adds c (evaluates g test l r (truth false) i u v e) b gs rest j = by f.content (with_content g (an_atom Atom.fail) f.goals) 0 c e adds_nothing b gs rest j
  plain_adds c (opens g l r i e) b gs rest j =
      let q : Name = record { worker = w; number = next } in
      let h : IsScoped t l × IsScoped t r = held_owned t g (an_atom (Atom.open_port l r)) f.goals goals i in
      let u : Scope = record { frames = f.content.frames; ports = q ∷ t.ports } in
      by (record (telling l (port q) f.content) { ports = with_port (record { name = q; tail = r }) f.content.ports }) (without_goal g f.goals) 1 c e (record {
        added = record { left = l; right = port q } ∷ [];
        equations = refl;
        over = told_local u (record { left = l; right = port q } ∷ []) (scoped_wider t u (record { frames = λ n x. x; ports = λ n x. inr x }) l h.0, inl refl, tt);
      }) b gs rest j
  plain_adds c (sends g l r q k i u v o e) b gs rest j =
      let frame : Name = record { worker = w; number = next } in
      let h : IsScoped t l × IsScoped t r = held_owned t g (an_atom (Atom.send l r)) f.goals goals i in
      let n : Scope = record { frames = with_name frame f.content.frames; ports = t.ports } in
      let wider : Within t n = record { frames = λ m x. in_with_name m frame f.content.frames (inr x); ports = λ m x. x } in
      let own : IsIn frame n.frames = in_with_name frame frame f.content.frames (inl refl) in
      by (record (telling (term_at p.templates.nodes frame p.cell) l (telling k.tail (term_at p.templates.nodes frame (p.cell + 2)) f.content)) { frames = with_name frame f.content.frames; ports = with_tail k.name (term_at p.templates.nodes frame (p.cell + 1)) f.content.ports })
      (without_goal g f.goals) 1 c e (record {
        added = record { left = k.tail; right = term_at p.templates.nodes frame (p.cell + 2) } ∷ record { left = term_at p.templates.nodes frame p.cell; right = l } ∷ [];
        equations = append_assoc f.content.equations (record { left = k.tail; right = term_at p.templates.nodes frame (p.cell + 2) } ∷ []) (record { left = term_at p.templates.nodes frame p.cell; right = l } ∷ []);
        over = told_local n (record { left = k.tail; right = term_at p.templates.nodes frame (p.cell + 2) } ∷ record { left = term_at p.templates.nodes frame p.cell; right = l } ∷ []) (
          scoped_wider t n wider k.tail (tail_of_port t q f.content.ports k here.tails o),
          term_scoped n p.templates.nodes frame (p.cell + 2) own,
          (term_scoped n p.templates.nodes frame p.cell own, scoped_wider t n wider l h.0, tt),
        );
      }) b gs rest j
  plain_adds c (fails m x e) b gs rest j = let r : no_boxes ≡ box b gs rest = sym (ap (λ (k : Change). k.boxes) e) ∙ j in cc
  plain_adds c (cuts g m o bs i x e) b gs rest j = by f.content (with_content g (a_choice o (kept_by o m bs)) f.goals) 0 c e adds_nothing b gs rest j
  plain_adds c (collects g r bs a i x z e) b gs rest j =
      let h : BoxesOwned t bs × IsScoped t r = held_owned t g (a_choice (Operator.collecting r) bs) f.goals goals i in
      by (joining a f.content) (without_goal g f.goals) (count_of bs) c e (joining_adds a (gathered_owned p w next f.content.name r bs a t h.0 h.1 z)) b gs rest j
  plain_adds c (promotes g m o a i r x e) b gs rest j = on (same_name m a.name) r e
    where
      on : (v : Bool) → v ≡ true → (if v then Some (becomes (joining a f.content) (with_atoms w next a.body (without_goal g f.goals)) (length a.body)) else None) ≡ Some c → AddsOwn f b
      on false q d = cc
      on true q d = by (joining a f.content) (with_atoms w next a.body (without_goal g f.goals)) (length a.body) c d
          (joining_adds a (held_owned (own_in s f.content) g (a_choice o (box a no_goals no_boxes)) f.goals goals i).0.0) b gs rest j

  split_adds : {place : Place} {alternative : Option Name} (c : Change) → SplitCase p w next f c place alternative → (b : Content) (gs : Goals) (rest : Boxes) → c.boxes ≡ box b gs rest → AddsOwn f b
  split_adds c x b gs rest j = subst (AddsOwn f) (ap (first_content f.content) (ap (λ (k : Change). k.boxes) (some_value x.change) ∙ j)) adds_nothing

pub adds_own : (rules : List Rule) (p : Program) (q : Query) (journal : List Label) (c : Config) (l : Label) (d : Config) → Replays rules p q journal c → (a : Applies rules p c l d)
    → (b : Content) (gs : Goals) (rest : Boxes) → a.change.boxes ≡ box b gs rest → AddsOwn a.site b
adds_own rules p q journal c l d r a b gs rest i =
    let found : box_at a.site.content.name c.roots ≡ Some a.site = site-box l.place c.roots a.site (replay-stands rules p q journal c r).once a.is_site in
    let there : BoxesOwned (own_along nowhere a.site.around) (only a.site) = found_owned nowhere a.site.content.name c.roots a.site (replay_owned rules p q journal c r) found in
    elim (Makes-case a.makes) [
      | inl x ↦ plain_adds p l.worker (slice_index c.next l.worker) a.site (own_along nowhere a.site.around) there.0 there.1 a.change x b gs rest i
      | inr x ↦ split_adds p l.worker (slice_index c.next l.worker) a.site (own_along nowhere a.site.around) there.0 there.1 a.change x b gs rest i
    ]
