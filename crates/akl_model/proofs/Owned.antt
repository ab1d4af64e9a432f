-- The terms of a box stay over frames that they may use: under new names, in goals that are added, taken away or changed.
use Rattle.std.proofs.Common.{◌≡◌, ℕ, ◌+◌, List, [], ◌∷◌, length, Bool, true, false, Some, refl, subst, inl, inr}
use Rattle.std.specs.Prelude.{if◌then◌else◌}
use Rattle.akl_terms.specs.declared.name.Name.{Name}
use Rattle.akl_terms.specs.declared.term.Node.{Node}
use Rattle.akl_model.specs.Config.{Operator}
use Rattle.akl_terms.specs.declared.program.Clause.{Clause}
use Rattle.akl_terms.specs.Tree.{Tree}
use Rattle.akl_terms.specs.Names.{same_name, is_before}
use Rattle.akl_model.specs.Config.{IsIn, Atom, Content, Boxes, no_boxes, box, Goals, no_goals, atom, choice, Held, an_atom, a_choice, goal, held_in, with_goal, with_content, without_goal}
use Rattle.akl_model.specs.Instances.{terms_from, atoms_of, with_atoms, instances}
use Rattle.akl_model.specs.Renaming.{renamed_content, renamed, renamed_goals}
use Rattle.akl_model.specs.Rules.{up_to, alone, others, kept_by}
use Rattle.akl_model.specs.Scopes.{Scope, scope_in, TermsScoped, AtomScoped, AtomsScoped, OperatorScoped, BoxesScoped, GoalsScoped}
use Rattle.akl_model.proofs.Scoped.{IsIn-left, Goes, Goes-in, IsIn-map, equations_renamed, atom_renamed, atoms_renamed, tails_renamed, shown_renamed, if_renamed, operator_renamed, Within, Within-in, terms_wider, equations_wider, atom_wider, atoms_wider, tails_wider, shown_wider, if_wider, operator_wider, atoms_scoped, terms_scoped, if_scoped, heads_scoped}
use Rattle.akl_model.specs.Owned.{own_in, ContentOwned, BoxesOwned, GoalsOwned}

Goes-own : (f : Name → Name) (s t : Scope) (b : Content) → Goes f s t → Goes f (own_in s b) (own_in t (renamed_content f b))
Goes-own f s t b g = record { frames = λ n h. IsIn-map f n b.frames h; ports = (Goes-in f s t b g).ports }

module _ (f : Name → Name) where
  content_renamed : (s t : Scope) → Goes f s t → (b : Content) → ContentOwned s b → ContentOwned t (renamed_content f b)
  content_renamed s t g b h = record {
    equations = equations_renamed f (scope_in s b) (scope_in t (renamed_content f b)) (Goes-in f s t b g) b.equations h.equations;
    tails = tails_renamed f (own_in s b) (own_in t (renamed_content f b)) (Goes-own f s t b g) b.ports h.tails;
    body = atoms_renamed f (own_in s b) (own_in t (renamed_content f b)) (Goes-own f s t b g) b.body h.body;
    shown = shown_renamed f (own_in s b) (own_in t (renamed_content f b)) (Goes-own f s t b g) b.shown h.shown;
    collected = if_renamed f (own_in s b) (own_in t (renamed_content f b)) (Goes-own f s t b g) b.collected h.collected;
  }

  mutual
    pub boxes_renamed : (s t : Scope) → Goes f s t → (bs : Boxes) → BoxesOwned s bs → BoxesOwned t (renamed f bs)
    boxes_renamed s t g no_boxes h = tt
    boxes_renamed s t g (box b gs bs) h = (
      content_renamed s t g b h.0,
      goals_renamed (own_in s b) (own_in t (renamed_content f b)) (Goes-own f s t b g) gs h.1,
      boxes_renamed s t g bs h.2,
    )

    goals_renamed : (s t : Scope) → Goes f s t → (gs : Goals) → GoalsOwned s gs → GoalsOwned t (renamed_goals f gs)
    goals_renamed s t g no_goals h = tt
    goals_renamed s t g (atom k a gs) h = (atom_renamed f s t g a h.0, goals_renamed s t g gs h.1)
    goals_renamed s t g (choice k o bs gs) h = (boxes_renamed s t g bs h.0, goals_renamed s t g gs h.1, operator_renamed f s t g o h.2)

Within-own : (s t : Scope) (b : Content) → Within s t → Within (own_in s b) (own_in t b)
Within-own s t b g = record { frames = λ n h. h; ports = (Within-in s t b g).ports }

pub own_within_in : (s t : Scope) (b : Content) → Within s t → Within (own_in s b) (scope_in t b)
own_within_in s t b g = record { frames = λ n h. IsIn-left n b.frames t.frames h; ports = (Within-in s t b g).ports }

pub own_within : (s : Scope) (b : Content) → Within (own_in s b) (scope_in s b)
own_within s b = own_within_in s s b (record { frames = λ n h. h; ports = λ n h. h })

pub content_wider : (s t : Scope) → Within s t → (b : Content) → ContentOwned s b → ContentOwned t b
content_wider s t g b h = record {
  equations = equations_wider (scope_in s b) (scope_in t b) (Within-in s t b g) b.equations h.equations;
  tails = tails_wider (own_in s b) (own_in t b) (Within-own s t b g) b.ports h.tails;
  body = atoms_wider (own_in s b) (own_in t b) (Within-own s t b g) b.body h.body;
  shown = shown_wider (own_in s b) (own_in t b) (Within-own s t b g) b.shown h.shown;
  collected = if_wider (own_in s b) (own_in t b) (Within-own s t b g) b.collected h.collected;
}

mutual
  pub boxes_wider : (s t : Scope) → Within s t → (bs : Boxes) → BoxesOwned s bs → BoxesOwned t bs
  boxes_wider s t g no_boxes h = tt
  boxes_wider s t g (box b gs bs) h = (content_wider s t g b h.0, goals_wider (own_in s b) (own_in t b) (Within-own s t b g) gs h.1, boxes_wider s t g bs h.2)

  pub goals_wider : (s t : Scope) → Within s t → (gs : Goals) → GoalsOwned s gs → GoalsOwned t gs
  goals_wider s t g no_goals h = tt
  goals_wider s t g (atom k a gs) h = (atom_wider s t g a h.0, goals_wider s t g gs h.1)
  goals_wider s t g (choice k o bs gs) h = (boxes_wider s t g bs h.0, goals_wider s t g gs h.1, operator_wider s t g o h.2)

-- goals

abbrev pub HeldOwned : Scope → Held → Type 0
HeldOwned s (an_atom a) = AtomScoped s a
HeldOwned s (a_choice o bs) = BoxesOwned s bs × OperatorScoped s o

goal_owned : (s : Scope) (g : Name) (k : Held) (gs : Goals) → HeldOwned s k → GoalsOwned s gs → GoalsOwned s (goal g k gs)
goal_owned s g (an_atom a) gs h i = (h, i)
goal_owned s g (a_choice o bs) gs h i = (h.0, i, h.1)

pub held_owned : (s : Scope) (g : Name) (k : Held) (gs : Goals) → GoalsOwned s gs → held_in g gs ≡ Some k → HeldOwned s k
held_owned s g k no_goals h e = cc
held_owned s g k (atom i a gs) h e = on (same_name g i) e (λ j. held_owned s g k gs h.1 j)
  where
    on : (t : Bool) → (if t then Some (an_atom a) else held_in g gs) ≡ Some k → (held_in g gs ≡ Some k → HeldOwned s k) → HeldOwned s k
    on true j f = let q : an_atom a ≡ k = cc in subst (HeldOwned s) q h.0
    on false j f = f j
held_owned s g k (choice i o bs gs) h e = on (same_name g i) e (λ j. held_owned s g k gs h.1 j)
  where
    on : (t : Bool) → (if t then Some (a_choice o bs) else held_in g gs) ≡ Some k → (held_in g gs ≡ Some k → HeldOwned s k) → HeldOwned s k
    on true j f = let q : a_choice o bs ≡ k = cc in subst (HeldOwned s) q (h.0, h.2)
    on false j f = f j

pub without_owned : (s : Scope) (g : Name) (gs : Goals) → GoalsOwned s gs → GoalsOwned s (without_goal g gs)
without_owned s g no_goals h = tt
without_owned s g (atom i a gs) h = on (same_name g i) (without_owned s g gs h.1)
  where
    on : (t : Bool) → GoalsOwned s (without_goal g gs) → GoalsOwned s (if t then gs else atom i a (without_goal g gs))
    on true k = h.1
    on false k = (h.0, k)
without_owned s g (choice i o bs gs) h = on (same_name g i) (without_owned s g gs h.1)
  where
    on : (t : Bool) → GoalsOwned s (without_goal g gs) → GoalsOwned s (if t then gs else choice i o bs (without_goal g gs))
    on true k = h.1
    on false k = (h.0, k, h.2)

pub with_content_owned : (s : Scope) (g : Name) (k : Held) (gs : Goals) → HeldOwned s k → GoalsOwned s gs → GoalsOwned s (with_content g k gs)
with_content_owned s g k no_goals h i = tt
with_content_owned s g k (atom j a gs) h i = on (same_name g j) (with_content_owned s g k gs h i.1)
  where
    on : (t : Bool) → GoalsOwned s (with_content g k gs) → GoalsOwned s (if t then goal g k gs else atom j a (with_content g k gs))
    on true x = goal_owned s g k gs h i.1
    on false x = (i.0, x)
with_content_owned s g k (choice j o bs gs) h i = on (same_name g j) (with_content_owned s g k gs h i.1)
  where
    on : (t : Bool) → GoalsOwned s (with_content g k gs) → GoalsOwned s (if t then goal g k gs else choice j o bs (with_content g k gs))
    on true x = goal_owned s g k gs h i.1
    on false x = (i.0, x, i.2)

with_goal_owned : (s : Scope) (g : Name) (k : Held) (gs : Goals) → HeldOwned s k → GoalsOwned s gs → GoalsOwned s (with_goal g k gs)
with_goal_owned s g k no_goals h i = goal_owned s g k no_goals h tt
with_goal_owned s g k (atom j a gs) h i = on (is_before g j) (with_goal_owned s g k gs h i.1)
  where
    on : (t : Bool) → GoalsOwned s (with_goal g k gs) → GoalsOwned s (if t then goal g k (atom j a gs) else atom j a (with_goal g k gs))
    on true x = goal_owned s g k (atom j a gs) h i
    on false x = (i.0, x)
with_goal_owned s g k (choice j o bs gs) h i = on (is_before g j) (with_goal_owned s g k gs h i.1)
  where
    on : (t : Bool) → GoalsOwned s (with_goal g k gs) → GoalsOwned s (if t then goal g k (choice j o bs gs) else choice j o bs (with_goal g k gs))
    on true x = goal_owned s g k (choice j o bs gs) h i
    on false x = (i.0, x, i.2)

pub with_atoms_owned : (s : Scope) (w n : ℕ) (rs : List Atom) (gs : Goals) → AtomsScoped s rs → GoalsOwned s gs → GoalsOwned s (with_atoms w n rs gs)
with_atoms_owned s w n [] gs h i = i
with_atoms_owned s w n (a ∷ rs) gs h i = with_atoms_owned s w (n + 1) rs (with_goal (record { worker = w; number = n }) (an_atom a) gs) h.1 (with_goal_owned s (record { worker = w; number = n }) (an_atom a) gs h.0 i)

-- alternatives

pub kept_owned : (s : Scope) (o : Operator) (n : Name) (bs : Boxes) → BoxesOwned s bs → BoxesOwned s (kept_by o n bs)
kept_owned s Operator.nondeterminate n bs h = h
kept_owned s (Operator.collecting r) n bs h = h
kept_owned s Operator.condition n bs h = go bs h
  where
    go : (bs : Boxes) → BoxesOwned s bs → BoxesOwned s (up_to n bs)
    go no_boxes h = tt
    go (box b gs bs) h = on (same_name n b.name) (go bs h.2)
      where
        on : (t : Bool) → BoxesOwned s (up_to n bs) → BoxesOwned s (if t then box b gs no_boxes else box b gs (up_to n bs))
        on true k = (h.0, h.1, tt)
        on false k = (h.0, h.1, k)
kept_owned s Operator.commit n bs h = alone_owned s n bs h
  where
    alone_owned : (s : Scope) (n : Name) (bs : Boxes) → BoxesOwned s bs → BoxesOwned s (alone n bs)
    alone_owned s n no_boxes h = tt
    alone_owned s n (box b gs bs) h = on (same_name n b.name) (alone_owned s n bs h.2)
      where
        on : (t : Bool) → BoxesOwned s (alone n bs) → BoxesOwned s (if t then box b gs no_boxes else alone n bs)
        on true k = (h.0, h.1, tt)
        on false k = k

pub alone_owned : (s : Scope) (n : Name) (bs : Boxes) → BoxesOwned s bs → BoxesOwned s (alone n bs)
alone_owned s n bs h = kept_owned s Operator.commit n bs h

pub others_owned : (s : Scope) (n : Name) (bs : Boxes) → BoxesOwned s bs → BoxesOwned s (others n bs)
others_owned s n no_boxes h = tt
others_owned s n (box b gs bs) h = on (same_name n b.name) (others_owned s n bs h.2)
  where
    on : (t : Bool) → BoxesOwned s (others n bs) → BoxesOwned s (if t then bs else box b gs (others n bs))
    on true k = h.2
    on false k = (h.0, h.1, k)

pub instances_owned : (s : Scope) (nodes : List Node) (w n : ℕ) (arguments : List Tree) (cs : List Clause) → TermsScoped s arguments → BoxesOwned s (instances nodes w n arguments cs)
instances_owned s nodes w n arguments [] h = tt
instances_owned s nodes w n arguments (c ∷ cs) h = (
  record {
    equations = heads_scoped wide arguments (terms_from nodes frame c.first c.count) (terms_wider s wide wider arguments h) (terms_scoped wide nodes frame c.first c.count (inl refl));
    tails = tt;
    body = atoms_scoped there nodes frame c.body own;
    shown = tt;
    collected = if_scoped there nodes frame c.collected own;
  },
  with_atoms_owned there w (n + 2) (atoms_of nodes frame c.guard) no_goals (atoms_scoped there nodes frame c.guard own) tt,
  instances_owned s nodes w (n + (2 + length c.guard)) arguments cs h,
)
  where
    frame : Name
    frame = record { worker = w; number = n + 1 }

    there : Scope
    there = record { frames = frame ∷ []; ports = s.ports }

    wide : Scope
    wide = record { frames = frame ∷ s.frames; ports = s.ports }

    own : IsIn frame there.frames
    own = inl refl

    wider : Within s wide
    wider = record { frames = λ m i. inr i; ports = λ m i. i }

-- what is over these frames is in scope
mutual
  pub owned_scoped : (s t : Scope) → Within s t → (bs : Boxes) → BoxesOwned s bs → BoxesScoped t bs
  owned_scoped s t g no_boxes h = tt
  owned_scoped s t g (box b gs bs) h = (
    record {
      equations = equations_wider (scope_in s b) (scope_in t b) (Within-in s t b g) b.equations h.0.equations;
      tails = tails_wider (own_in s b) (scope_in t b) (own_within_in s t b g) b.ports h.0.tails;
      body = atoms_wider (own_in s b) (scope_in t b) (own_within_in s t b g) b.body h.0.body;
      shown = shown_wider (own_in s b) (scope_in t b) (own_within_in s t b g) b.shown h.0.shown;
      collected = if_wider (own_in s b) (scope_in t b) (own_within_in s t b g) b.collected h.0.collected;
    },
    goals_scoped (own_in s b) (scope_in t b) (own_within_in s t b g) gs h.1,
    owned_scoped s t g bs h.2,
  )

  goals_scoped : (s t : Scope) → Within s t → (gs : Goals) → GoalsOwned s gs → GoalsScoped t gs
  goals_scoped s t g no_goals h = tt
  goals_scoped s t g (atom k a gs) h = (atom_wider s t g a h.0, goals_scoped s t g gs h.1)
  goals_scoped s t g (choice k o bs gs) h = (owned_scoped s t g bs h.0, goals_scoped s t g gs h.1, operator_wider s t g o h.2)
