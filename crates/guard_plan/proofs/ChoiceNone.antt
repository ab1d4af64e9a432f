-- A choice at which none of Cut, Promote and Collect applies.
use Rattle.std.proofs.Common.{◌≡◌, ℕ, ◌<◌, ◌^◌, List, [], ◌∷◌, ◌++◌, Bool, true, false, Option, Some, None, refl, sym, ◌∙◌, ap, subst, length}
use Rattle.std.specs.Prelude.{slice_index, IsSomeAnd, if◌then◌else◌}
use Rattle.akl_terms.specs.declared.name.Name.{Name}
use Rattle.akl_terms.specs.declared.name.Place.{Place}
use Rattle.akl_terms.specs.declared.term.Node.{Node}
use Rattle.akl_terms.specs.Names.{same_name}
use Rattle.akl_model.specs.declared.label.Rule.{Rule}
use Rattle.akl_model.specs.Config.{Operator, Content, Boxes, no_boxes, box, Goals, no_goals, atom, choice, a_choice, held_in, without_goal, Found}
use Rattle.akl_model.specs.Instances.{with_atoms}
use Rattle.akl_terms.specs.declared.program.Program.{Program}
use Rattle.akl_terms.specs.Arithmetic.{value, truth}
use Rattle.akl_model.specs.Rules.{Reading, nothing, answer, receiver, Change, becomes, joining, change_by, tell, fork, eval, open_new, send_by, promote, collect, count_of, kept_by, alternative_of}
use Rattle.akl_model.specs.Conditions.{IsSolved, IsQuietBox, GuardHolds, MayCut, MayPromote, MayCollect}
use Rattle.akl_model.specs.Stable.{Allows}
use Rattle.akl_model.proofs.Options.{some_value}
use Rattle.box_tree.specs.declared.entries.HeldOp.{HeldOp}
use Rattle.box_tree.specs.Tables.{op_held}
use Rattle.box_tree.specs.Views.{ViewValue, IsViewOf}
use Rattle.guard_plan.specs.Guards.{IsGuarded}
use Rattle.guard_plan.specs.Planned.{HasNoRule}
use Rattle.guard_plan.proofs.HasNone.{has_none}

-- an alternative with its goals, in the box of a choice
abbrev pub inside_of : Found → Content → Goals → Found
inside_of f b gs = record { around = f.around ++ f.content ∷ []; content = b; goals = gs }

-- none that may cut others off
abbrev pub NoneCuts : Found → Operator → Boxes → Type 0
NoneCuts f o bs = (n : Name) (a : Found) → alternative_of f n bs ≡ Some a → IsSolved a.goals → IsQuietBox a → count_of (kept_by o n bs) < count_of bs → ⊥

-- and none that may join the box
abbrev pub NonePromotes : Found → Operator → Boxes → Type 0
NonePromotes f o bs = (b : Content) → bs ≡ box b no_goals no_boxes → GuardHolds o (inside_of f b no_goals) → length b.body < 2 ^ 32 → ⊥

-- and all of them can't be collected
abbrev pub NoneCollects : Program → Found → Operator → Boxes → Type 0
NoneCollects p f o bs = (w next : ℕ) (g : Name) (c : Change) → collect p w next g f (Some (a_choice o bs)) ≡ Some c → MayCollect f (Some (a_choice o bs)) → c.drawn < 2 ^ 32 → ⊥

-- so it is where the choice doesn't collect
pub guarded_none : (nodes : List Node) (p : Program) (f : Found) (o : HeldOp) (bs : Boxes) → IsGuarded o → NoneCollects p f (op_held nodes o) bs
guarded_none nodes p f HeldOp.Condition bs guarded w next g c e may few = may
guarded_none nodes p f HeldOp.Commit bs guarded w next g c e may few = may
guarded_none nodes p f HeldOp.Choice bs guarded w next g c e may few = may
guarded_none nodes p f (HeldOp.Collect t) bs guarded w next g c e may few = guarded

some_of : {A : Type 0} (o : Option A) (P : A → Type 0) → IsSomeAnd o P → (a : A) × (o ≡ Some a) × P a
some_of None P h = absurd h
some_of (Some a) P h = (a, refl, h)

no_cut : (f : Found) (o : Operator) (bs : Boxes) (n : Name) → NoneCuts f o bs → MayCut n f (Some (a_choice o bs)) → ⊥
no_cut f o bs n none h =
    let w : (a : Found) × (alternative_of f n bs ≡ Some a) × (IsSolved a.goals × IsQuietBox a) = some_of (alternative_of f n bs) (λ (a : Found). IsSolved a.goals × IsQuietBox a) h.0 in
    none n w.0 w.1 w.2.0 w.2.1 h.1

no_promote : (f : Found) (o : Operator) (bs : Boxes) (w next : ℕ) (g n : Name) (c : Change) → NonePromotes f o bs → promote w next g n f (Some (a_choice o bs)) ≡ Some c → c.drawn < 2 ^ 32
    → MayPromote n f (Some (a_choice o bs)) → ⊥
no_promote f o no_boxes w next g n c none e few h = cc
no_promote f o (box b (atom x a gs) bs) w next g n c none e few h = cc
no_promote f o (box b (choice x p cs gs) bs) w next g n c none e few h = cc
no_promote f o (box b no_goals (box d gs bs)) w next g n c none e few h = cc
no_promote f o (box b no_goals no_boxes) w next g n c none e few h = on (same_name n b.name) e h
  where
    on : (t : Bool) → (if t then Some (becomes (joining b f.content) (with_atoms w next b.body (without_goal g f.goals)) (length b.body)) else None) ≡ Some c
        → IsSomeAnd (if t then Some (inside_of f b no_goals) else None) (GuardHolds o) → ⊥
    on true q k = none b refl k (subst (λ (j : ℕ). j < 2 ^ 32) (sym (ap (λ (x : Change). x.drawn) (some_value q))) few)
    on false q k = k

none_made : (c : Change) → None ≡ Some c → ⊥
none_made c e = cc

-- a choice has no value, and no port

no_value : (f : Found) (g : Name) (o : Operator) (bs : Boxes) (u : Reading) → eval u g f (Some (a_choice o bs)) ≡ None
no_value f g o bs nothing = refl
no_value f g o bs (answer (value z)) = refl
no_value f g o bs (answer (truth true)) = refl
no_value f g o bs (answer (truth false)) = refl
no_value f g o bs (receiver q) = refl

no_port : (p : Program) (w next : ℕ) (f : Found) (g : Name) (o : Operator) (bs : Boxes) (u : Reading) → send_by p w next u g f (Some (a_choice o bs)) ≡ None
no_port p w next f g o bs nothing = refl
no_port p w next f g o bs (answer b) = refl
no_port p w next f g o bs (receiver q) = refl

pub choice_none : (v : ViewValue) (i : IsViewOf v) (g : Name) (o : Operator) (bs : Boxes) → v.place ≡ Place.Goal g → held_in g i.site.goals ≡ Some (a_choice o bs) → NoneCuts i.site o bs → NonePromotes i.site o bs
    → NoneCollects v.table.program i.site o bs → HasNoRule v
choice_none v i g o bs p held cuts promotes collects = has_none v i (λ l change e r m. by l.rule l.alternative m.reading l.worker (slice_index i.table.config.next l.worker) change
    (subst (λ (q : Place). change_by v.table.program m.reading l.worker (slice_index i.table.config.next l.worker) l.rule q l.alternative i.site ≡ Some change) (e ∙ p) m.change)
    (subst (λ (q : Place). Allows v.table.program m.reading l.rule q l.alternative i.site) (e ∙ p) m.allowed) m.few_names)
  where
    by : (rule : Rule) (a : Option Name) (reading : Reading) (w next : ℕ) (c : Change) → change_by v.table.program reading w next rule (Place.Goal g) a i.site ≡ Some c
        → Allows v.table.program reading rule (Place.Goal g) a i.site → c.drawn < 2 ^ 32 → ⊥
    by Rule.Tell None u w next c x k few = none_made c (sym (ap (tell g i.site) held) ∙ x)
    by Rule.Fork None u w next c x k few = none_made c (sym (ap (fork v.table.program w next g i.site) held) ∙ x)
    by Rule.Eval None u w next c x k few = none_made c (sym (ap (eval u g i.site) held ∙ no_value i.site g o bs u) ∙ x)
    by Rule.Open None u w next c x k few = none_made c (sym (ap (open_new w next g i.site) held) ∙ x)
    by Rule.Send None u w next c x k few = none_made c (sym (ap (send_by v.table.program w next u g i.site) held ∙ no_port v.table.program w next i.site g o bs u) ∙ x)
    by Rule.Cut (Some n) u w next c x k few = no_cut i.site o bs n cuts (subst (MayCut n i.site) held k)
    by Rule.Promote (Some n) u w next c x k few = no_promote i.site o bs w next g n c promotes (sym (ap (promote w next g n i.site) held) ∙ x) few (subst (MayPromote n i.site) held k)
    by Rule.Collect None u w next c x k few = collects w next g c (sym (ap (collect v.table.program w next g i.site) held) ∙ x) (subst (MayCollect i.site) held k) few
    by r a u w next c x k few = none_made c x
